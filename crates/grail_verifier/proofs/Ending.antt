-- Ends of blocks: what the walk finds is the first check of the list that fails.
use Rattle.std.proofs.Common.{◌≡◌, ℕ, suc, ◌+◌, ◌-◌, ◌≤◌, Bool, true, false, List, [], ◌∷◌, ◌++◌, length, map, Option, Some, None, refl, sym, ap, ◌∙◌, subst, arith, append_assoc}
use Rattle.std.specs.Prelude.{◌==◌, ◌||◌, if◌then◌else◌, cond, slice_get, IsSomeAnd, ℤ, pos, ◌+ℤ◌, ◌-ℤ◌}
use Rattle.std.specs.Option.{option_or, option_map_or}
use Rattle.camelot_values.specs.Kinds.{Constructor, DataType, IsDataType}
use Rattle.camelot_values.specs.Lists.{is_among}
use Rattle.camelot_values.specs.declared.kinds.Kind.{Kind}
use Rattle.camelot_values.specs.declared.kinds.Kind.TheVariants as kind
use Rattle.grail_blocks.specs.declared.blocks.CaseCell.{CaseCell}
use Rattle.grail_blocks.specs.declared.blocks.CaseCell.TheVariants as cell
use Rattle.grail_code.specs.Code.{CaseArm, Term, Ret, Tail, Goto, If, Case, Func, Code}
use Rattle.grail_code.specs.WellFormed.{kind_of, params_at, HaveKinds, JumpFits, ArmsFit, data_type, TermFits}
use Rattle.annotations.specs.Vectors.{Vector, at, is_heap_con}
use Rattle.certificate.specs.Certificates.{BlockCert, FuncCert, Cert}
use Rattle.licence.specs.Books.{Units, Carried, block_said, vector_of, block_of}
use Rattle.licence.specs.Rules.{Account, carrying, all_carrying, found, in_arm, first_con_of, jump_asks}
use Rattle.licence.specs.Checks.{Check, Site, left_check, value_checks, local_checks, arguments_checks, jump_checks, arms_checks, term_checks, integers}
use Rattle.grail_verifier.specs.Finding.{Found}
use Rattle.grail_verifier.specs.Walk.{capped, left_short, value_short, local_short, asked_short, call_short, bound, line_short, jump_short, given, left_in_arm, arms_short, case_short, tail_short, term_short}
use Rattle.grail_verifier.proofs.Composing.{nothing, both, one, is_enough, second_none, AreUnits, value_found}
use Rattle.grail_verifier.proofs.Carrying.{IsHeld, IsHeldIn, AreHeld, local_found, along_own, AreAsked, asked_found}
use Rattle.grail_verifier.proofs.Lines.{line_is}
use Rattle.licence.specs.FirstConLaws.{few_before}
use Rattle.licence.specs.Sites.{next_con}
use Rattle.grail_verifier.proofs.Facts.{all_at, some_and, Ready, Known, ready_at, said_is, self_aligned, IsTarget, target_at}
use Rattle.grail_verifier.proofs.Stepping.{book, plus_is, small, Tied, call_found, behind_call, back_is, result_is}

-- where fields are bound
all_carrying_is : (carried : Carried ℤ) (xs : List ℕ) (units : Units ℤ) (y : ℕ) → all_carrying carried xs units y ≡ (if is_among xs y then units else carried y)
all_carrying_is carried [] units y = refl
all_carrying_is carried (x ∷ xs) units y = all_carrying_is (carrying carried x units) xs units y ∙ by_case (is_among xs y) (x == y)
  where
    by_case : (b t : Bool) → (if b then units else (if t then units else carried y)) ≡ (if t || b then units else carried y)
    by_case true true = refl
    by_case true false = refl
    by_case false true = refl
    by_case false false = refl

bound_held : (f : Func) (slots : List Vector) (carried : Carried ℤ) (fields : List ℕ) (matched : Vector) (units : Units ℤ)
    → AreHeld f (slice_get slots) carried → IsHeld matched units
    → AreHeld f (bound slots fields matched) (all_carrying carried fields units)
unfolding bound
bound_held f slots carried fields matched units held new y q e = subst (λ u. IsHeldIn (if is_among fields y then Some matched else slice_get slots y) u) (sym (all_carrying_is carried fields units y)) (by_case (is_among fields y))
  where
    by_case : (b : Bool) → IsHeldIn (if b then Some matched else slice_get slots y) (if b then units else carried y)
    by_case true = new
    by_case false = held y q e

plain_held : (f : Func) (slots : List Vector) (carried : Carried ℤ) (v : Vector) → AreHeld f (slice_get slots) carried → AreHeld f (bound slots [] v) carried
unfolding bound
plain_held f slots carried v held = held

module _ (p : Code) (c : Cert) (known : Known p c) where
  -- ---- jumps

  module _ (func : ℕ) (f : Func) (own : FuncCert) (ready : Ready p c func f own) where
    pub block_says : {B : Type 0} (to : ℕ) (line : BlockCert) (say : BlockCert → B) (nothing : B) → block_of own.blocks to ≡ Some line
        → block_said c func to say nothing ≡ say line
    block_says to line say nothing e = said_is c func own (λ g. option_map_or say (block_of g.blocks to) nothing) nothing ready.lines ∙ ap (λ o. option_map_or say o nothing) e

    target_found : (s : Site) → s.func ≡ func → (left : ℕ) (have : ℕ → Option Vector) (a : Account ℤ) (to : ℕ) → a.left ≡ pos left
        → AreHeld f have a.carried → 1 ≤ to → IsTarget p f own to
        → Found (jump_checks p f (book c) s a to) (jump_short p.types f own s left have to)
    target_found s at_func left have a to e held some t =
        subst (λ n. Found (local_checks p.types f s a.carried (jump_asks f (book c) n to) ++ left_check s a.left ((book c).block_need n to) ∷ []) (jump_short p.types f own s left have to)) (sym at_func)
        (subst (λ o. Found (local_checks p.types f s a.carried (jump_asks f (book c) func to) ++ left_check s a.left ((book c).block_need func to) ∷ []) (line_short p.types f s left have o)) (sym (line_is own.blocks to some ∙ t.stands))
        (both (local_checks p.types f s a.carried (jump_asks f (book c) func to)) (left_check s a.left ((book c).block_need func to) ∷ []) (asked_short p.types f s have Some t.line.vars) (left_short s left t.line.need)
        (subst (λ asks. Found (local_checks p.types f s a.carried asks) (asked_short p.types f s have Some t.line.vars)) (along_own units t.block.params ∙ ap (map (λ x. (x, units x))) (sym params))
        (asked_found p.types f s have a.carried Some units held t.block.params t.block.params t.line.vars (self_aligned t.block.params) t.fits.ascending t.ascend t.of (asked t.block.params)))
        (λ k. one s left t.line.need a.left ((book c).block_need func to) e (ap pos (block_says to t.line (λ b. b.need) 0 t.found)))))
      where
        units : Carried ℤ
        units = (book c).block_var func to

        params : params_at f.blocks to ≡ t.block.params
        params = ap (λ o. option_map_or (λ block. block.params) o []) t.there

        asked : (ns : List ℕ) → AreAsked ((book c).block_var func to) t.line.vars ns
        asked [] = tt
        asked (n ∷ ns) = (λ con. ap (λ v. pos (at v con)) (block_says to t.line (λ b. vector_of b.vars n) [] t.found), asked ns)

    jump_found : (s : Site) → s.func ≡ func → (left : ℕ) (have : ℕ → Option Vector) (a : Account ℤ) (number to : ℕ) → a.left ≡ pos left
        → AreHeld f have a.carried → JumpFits f number to
        → Found (jump_checks p f (book c) s a to) (jump_short p.types f own s left have to)
    jump_found s at_func left have a number to e held fits = target_found s at_func left have a to e held (omega (arith, fits.0)) (target_at p c func f own to ready (omega (arith, fits.0)) fits.1)

    -- ---- arms

    arm_left : (left : ℕ) (a : Account ℤ) (matched : Vector) (on con : ℕ) (m : CaseArm) → a.left ≡ pos left → IsHeld matched (a.carried on)
        → left ≤ 1152921504606846976
        → (in_arm integers p.types (book c) a on con m).left ≡ pos (left_in_arm p.types c.unit left matched con m.cell)
    arm_left left a matched on con m e held few = by_cell m.cell
      where
        node : ℕ
        node = cond (is_heap_con p.types con) (capped (left + at matched con)) left

        cap : capped (left + at matched con) ≡ left + at matched con
        cap = small (left + at matched con) (omega (arith, few, held.few con))

        by_heap : (h : Bool) → cond h (a.left +ℤ a.carried on con) a.left ≡ pos (cond h (capped (left + at matched con)) left)
        by_heap true = ap (λ l. l +ℤ a.carried on con) e ∙ ap (λ n. pos left +ℤ n) (held.same con) ∙ sym (plus_is left (at matched con)) ∙ ap pos (sym cap)
        by_heap false = e

        most : (h : Bool) → cond h (capped (left + at matched con)) left ≤ 2305843009213693952
        most true = omega (arith, cap, few, held.few con)
        most false = omega (arith, few)

        by_cell : (d : CaseCell) → (found integers p.types (pos c.unit) a on con m.fields d).left ≡ pos (given c.unit d node)
        by_cell cell.Inline = by_heap (is_heap_con p.types con)
        by_cell cell.Look = by_heap (is_heap_con p.types con)
        by_cell cell.Free = let n = most (is_heap_con p.types con) in let u : c.unit ≤ 2147483648 = known.right.within.unit in
            ap (λ k. k +ℤ pos c.unit) (by_heap (is_heap_con p.types con)) ∙ sym (plus_is node c.unit) ∙ ap pos (sym (small (node + c.unit) (omega (arith, n, u))))
        by_cell (cell.Keep x) = by_heap (is_heap_con p.types con)

    arm_held : (slots : List Vector) (a : Account ℤ) (matched : Vector) (on con : ℕ) (m : CaseArm) → AreHeld f (slice_get slots) a.carried
        → IsHeld matched (a.carried on)
        → AreHeld f (bound slots m.fields matched) (in_arm integers p.types (book c) a on con m).carried
    arm_held slots a matched on con m all held = by_cell m.cell
      where
        by_cell : (d : CaseCell) → AreHeld f (bound slots m.fields matched) (found integers p.types (pos c.unit) a on con m.fields d).carried
        by_cell cell.Inline = bound_held f slots a.carried m.fields matched (a.carried on) all held
        by_cell cell.Look = bound_held f slots a.carried m.fields matched (a.carried on) all held
        by_cell cell.Free = bound_held f slots a.carried m.fields matched (a.carried on) all held
        by_cell (cell.Keep x) = bound_held f slots a.carried m.fields matched (a.carried on) all held

    arms_found : (s : Site) → s.func ≡ func
        → (left : ℕ) (slots : List Vector) (a : Account ℤ) (matched : Vector) (number on con : ℕ) (cs : List Constructor) (arms : List CaseArm)
        → Tied f left slots a → IsHeld matched (a.carried on)
        → left ≤ 1152921504606846976 → con + length cs ≤ 4294967295 → ArmsFit f number cs arms
        → Found (arms_checks integers p f (book c) s a on con arms) (arms_short p.types c.unit f own s left slots matched con arms)
    arms_found s at_func left slots a matched number on con cs [] tied held few less fits = nothing
    arms_found s at_func left slots a matched number on con [] (m ∷ arms) tied held few less fits = absurd fits
    arms_found s at_func left slots a matched number on con (d ∷ cs) (m ∷ arms) tied held few less fits =
        both (jump_checks p f (book c) s (in_arm integers p.types (book c) a on con m) m.target) (arms_checks integers p f (book c) s a on (suc con) arms)
        (jump_short p.types f own s (left_in_arm p.types c.unit left matched con m.cell) (bound slots m.fields matched) m.target) (arms_short p.types c.unit f own s left slots matched (next_con con) arms)
        (jump_found s at_func (left_in_arm p.types c.unit left matched con m.cell) (bound slots m.fields matched) (in_arm integers p.types (book c) a on con m) number m.target
        (arm_left left a matched on con m tied.left held few) (arm_held slots a matched on con m tied.held held) fits.0.jump)
        (λ e. let z : suc con ≡ next_con con = omega (arith, less) in
        subst (λ n. Found (arms_checks integers p f (book c) s a on (suc con) arms) (arms_short p.types c.unit f own s left slots matched n arms)) z
        (arms_found s at_func left slots a matched number on (suc con) cs arms tied held few (omega (arith, less)) fits.1))

    case_found : (s : Site) → s.func ≡ func → (left : ℕ) (slots : List Vector) (a : Account ℤ) (number on : ℕ) (arms : List CaseArm)
        → Tied f left slots a → left ≤ 1152921504606846976 → TermFits p f number (Case on arms)
        → Found (term_checks integers p f (book c) s a (Case on arms)) (term_short p c [] f own s left slots (Case on arms))
    case_found s at_func left slots a number on arms tied few fits = by_kind (kind_of f on) (slice_get slots on) (tied.held on) fits
      where
        by_type : (t : ℕ) (matched : Vector) → IsHeld matched (a.carried on) → ((d : DataType) × (slice_get p.types t ≡ Some d) × ArmsFit f number d.cons arms)
            → Found (arms_checks integers p f (book c) s a on (first_con_of p.types (Some (kind.Of t))) arms) (arms_short p.types c.unit f own s left slots matched (first_con_of p.types (Some (kind.Of t))) arms)
        by_type t matched held (d, e, fit) =
            let few_cons : length d.cons ≤ 64 = (all_at IsDataType p.types t d known.limits.types.each e).few_cons in
            arms_found s at_func left slots a matched number on (first_con_of p.types (Some (kind.Of t))) d.cons arms tied held few (omega (arith, few_cons, few_before p.types t known.limits.types)) fit

        by_held : (t : ℕ) (o : Option Vector) → IsHeldIn o (a.carried on) → ((d : DataType) × (slice_get p.types t ≡ Some d) × ArmsFit f number d.cons arms)
            → Found (arms_checks integers p f (book c) s a on (first_con_of p.types (Some (kind.Of t))) arms) (case_short p.types c.unit f own s left slots o (first_con_of p.types (Some (kind.Of t))) arms)
        by_held t None held d = absurd held
        by_held t (Some matched) held d = by_type t matched held d

        by_kind : (q : Option Kind) (o : Option Vector) → ((k : Kind) → q ≡ Some k → IsHeldIn o (a.carried on))
            → IsSomeAnd (data_type p.types q) (λ t. ArmsFit f number t.cons arms)
            → Found (arms_checks integers p f (book c) s a on (first_con_of p.types q) arms) (case_short p.types c.unit f own s left slots o (first_con_of p.types q) arms)
        by_kind None o h k = absurd k
        by_kind (Some kind.Int) o h k = absurd k
        by_kind (Some kind.Flag) o h k = absurd k
        by_kind (Some kind.Dia) o h k = absurd k
        by_kind (Some (kind.Of t)) o h k = by_held t o (h (kind.Of t) refl) (some_and (λ d. ArmsFit f number d.cons arms) (slice_get p.types t) k)

    -- ---- returns and tail calls

    own_back : (s : Site) → s.func ≡ func → (book c).back s.func ≡ pos own.back
    own_back s e = ap (book c).back e ∙ back_is p c known func own ready.lines

    own_result : (s : Site) → s.func ≡ func → AreUnits own.result ((book c).result s.func)
    own_result s e = subst (λ n. AreUnits own.result ((book c).result n)) (sym e) (result_is p c known func own ready.lines)

    tail_found : (s : Site) → s.func ≡ func
        → (left : ℕ) (slots : List Vector) (a : Account ℤ) (callee : ℕ) (args : List ℕ) (g : Func) (line : FuncCert) → Tied f left slots a
        → left ≤ 1152921504606846976
        → Ready p c callee g line → HaveKinds f args g.params → Found (term_checks integers p f (book c) s a (Tail callee args)) (tail_short p.types f own s left slots args (Some line))
    tail_found s at_func left slots a callee args g line tied few r kinds =
        subst (λ xs. Found xs (tail_short p.types f own s left slots args (Some line))) (append_assoc first (second ∷ []) (third ++ fourth ∷ []))
        (both (first ++ second ∷ []) (third ++ fourth ∷ []) (call_short p.types f s left slots args (Some line)) (option_or (value_short p.types s f.result line.result own.result) (left_short s (capped ((left - line.need) + line.back)) own.back))
        (call_found p c known f s left slots a callee args g line tied r kinds)
        (λ e. both third (fourth ∷ []) (value_short p.types s f.result line.result own.result) (left_short s (capped ((left - line.need) + line.back)) own.back)
        (value_found p.types s f.result line.result own.result ((book c).result callee) ((book c).result s.func) (result_is p c known callee line r.lines) (own_result s at_func))
        (λ k. one s (capped ((left - line.need) + line.back)) own.back ((a.left -ℤ (book c).need callee) +ℤ (book c).back callee) ((book c).back s.func)
        (behind_call p c known left a.left callee line tied.left r.lines (is_enough s left line.need (second_none (asked_short p.types f s (slice_get slots) (slice_get args) line.params) (left_short s left line.need) e)) (omega (arith, few, r.within.back)))
        (own_back s at_func))))
      where
        first : List (Check ℤ)
        first = arguments_checks p f (book c) s a callee args

        second : Check ℤ
        second = left_check s a.left ((book c).need callee)

        third : List (Check ℤ)
        third = value_checks p.types s (Some f.result) ((book c).result callee) ((book c).result s.func)

        fourth : Check ℤ
        fourth = left_check s ((a.left -ℤ (book c).need callee) +ℤ (book c).back callee) ((book c).back s.func)

    pub term_found : (s : Site) → s.func ≡ func → (left : ℕ) (slots : List Vector) (a : Account ℤ) (number : ℕ) (t : Term) → Tied f left slots a
        → left ≤ 1152921504606846976 → TermFits p f number t
        → Found (term_checks integers p f (book c) s a t) (term_short p c [] f own s left slots t)
    term_found s at_func left slots a number (Ret x) tied few fits =
        both (value_checks p.types s (kind_of f x) (a.carried x) ((book c).result s.func)) (left_check s a.left ((book c).back s.func) ∷ []) (local_short p.types f s (slice_get slots) (Some x) own.result) (left_short s left own.back)
        (local_found p.types f s (slice_get slots) a.carried x own.result ((book c).result s.func) tied.held (own_result s at_func)) (λ e. one s left own.back a.left ((book c).back s.func) tied.left (own_back s at_func))
    term_found s at_func left slots a number (Tail callee args) tied few fits = by_callee (some_and (λ h. HaveKinds f args h.params × (h.result ≡ f.result)) (slice_get p.funcs callee) fits)
      where
        by_lines : (h : Func) → HaveKinds f args h.params → ((line : FuncCert) × Ready p c callee h line)
            → Found (term_checks integers p f (book c) s a (Tail callee args)) (term_short p c [] f own s left slots (Tail callee args))
        by_lines h kinds (line, r) = subst (λ o. Found (term_checks integers p f (book c) s a (Tail callee args)) (tail_short p.types f own s left slots args o)) (sym r.lines) (tail_found s at_func left slots a callee args h line tied few r kinds)

        by_callee : ((h : Func) × (slice_get p.funcs callee ≡ Some h) × (HaveKinds f args h.params × (h.result ≡ f.result)))
            → Found (term_checks integers p f (book c) s a (Tail callee args)) (term_short p c [] f own s left slots (Tail callee args))
        by_callee (h, e, (kinds, r)) = by_lines h kinds (ready_at p c known callee h e)
    term_found s at_func left slots a number (Goto to) tied few fits = jump_found s at_func left (bound slots [] []) a number to tied.left (plain_held f slots a.carried [] tied.held) fits
    term_found s at_func left slots a number (If x one_way other) tied few fits =
        both (jump_checks p f (book c) s a one_way) (jump_checks p f (book c) s a other) (jump_short p.types f own s left (bound slots [] []) one_way) (jump_short p.types f own s left (bound slots [] []) other)
        (jump_found s at_func left (bound slots [] []) a number one_way tied.left (plain_held f slots a.carried [] tied.held) fits.1)
        (λ e. jump_found s at_func left (bound slots [] []) a number other tied.left (plain_held f slots a.carried [] tied.held) fits.2)
    term_found s at_func left slots a number (Case on arms) tied few fits = case_found s at_func left slots a number on arms tied few fits
