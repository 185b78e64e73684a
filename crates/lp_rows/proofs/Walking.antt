-- The walk lists the rows of the checks over forms in 64 bits.
use Rattle.std.proofs.Common.{◌≡◌, ℕ, zero, suc, ◌-◌, ◌*◌, ◌^◌, ◌<◌, ◌≤◌, Bool, true, false, ℤ, pos, List, [], ◌∷◌, ◌++◌, length, map, Option, Some, None, refl, sym, ap, ◌∙◌, subst, arith, append_assoc}
use Rattle.std.specs.Prelude.{◌==◌, ◌||◌, nat_lt, min, if◌then◌else◌, cond, slice_get}
use Rattle.std.specs.List.{AllByRecursion}
use Rattle.std.specs.Option.{option_map_or}
use Rattle.std.proofs.lemmas.Bool.Decides.{nat_tests}
use Rattle.dual_simplex.specs.Systems.{Inequality}
use Rattle.camelot_values.specs.Kinds.{DataType, IsDataType, AreTypes, type_from}
use Rattle.camelot_values.specs.Lists.{is_among}
use Rattle.camelot_values.specs.Heap.{reached, is_heap_type}
use Rattle.camelot_values.specs.declared.kinds.Kind.{Kind}
use Rattle.camelot_values.specs.declared.kinds.Kind.TheVariants as kind
use Rattle.grail_blocks.specs.declared.blocks.Place.{Place}
use Rattle.grail_blocks.specs.declared.blocks.Place.TheVariants as place
use Rattle.grail_blocks.specs.declared.blocks.CaseCell.{CaseCell}
use Rattle.grail_blocks.specs.declared.blocks.CaseCell.TheVariants as cell
use Rattle.grail_blocks.specs.Events.{params_at}
use Rattle.grail_code.specs.Code.{Op, Lit, Flag, Copy, Prim, Make, Call, Let, CaseArm, Term, Ret, Tail, Goto, If, Case, Block, Func, Code}
use Rattle.grail_code.specs.WellFormed.{kind_of, is_marked}
use Rattle.annotations.specs.Vectors.{is_heap_con}
use Rattle.licence.specs.Books.{Units, Carried, Book}
use Rattle.licence.specs.Rules.{Account, account_at, carrying, all_carrying, build_cost, after_op, in_arm, first_con_of, Asks, arguments_asks, call_asks, jump_asks, build_asks}
use Rattle.licence.specs.Rules as licence
use Rattle.licence.specs.Checks.{Check, Site, left_check, value_checks, local_checks, arguments_checks, op_checks, jump_checks, arms_checks, term_checks, lets_checks, blocks_checks, funcs_checks, checks_of}
use Rattle.lp_system.specs.Unknowns.{Unknown, Need, Back, Param, Result, BlockNeed, BlockVar, Made}
use Rattle.lp_rows.specs.Dense.{Dense, more, sums, plus, minus, dense, ticks, once_with, nothings}
use Rattle.lp_rows.specs.Plain.{own}
use Rattle.lp_rows.specs.Walk as walk
use Rattle.lp_rows.specs.Walk.{row_against, unknown_rows, left_rows, cons_rows, value_rows, local_rows, argument_rows, price, call_rows, op_rows, left_called, left_after, carried_after, bound, jump_rows, found, arm_rows, arms_rows, tail_rows, term_rows, lets_rows, need_of, block_rows, blocks_rows, funcs_rows}
use Rattle.licence.specs.FirstConLaws.{few_before}
use Rattle.licence.specs.Sites.{next_con, next_place}

-- the rows of these checks that ask something
abbrev pub asked : List (Check Dense) → List Inequality
asked [] = []
asked (c ∷ cs) = row_against c.have c.need ++ asked cs

pub asked_both : (cs ds : List (Check Dense)) → asked (cs ++ ds) ≡ asked cs ++ asked ds
asked_both [] ds = refl
asked_both (c ∷ cs) ds = ap (λ rs. row_against c.have c.need ++ rs) (asked_both cs ds) ∙ sym (append_assoc (row_against c.have c.need) (asked cs) (asked ds))

no_more : {A : Type 0} (xs : List A) → xs ++ [] ≡ xs
no_more [] = refl
no_more (x ∷ xs) = ap (λ ys. x ∷ ys) (no_more xs)

-- two lists of checks, the second of one check
one_more : (cs : List (Check Dense)) (s : Site) (have need : Dense) (rs : List Inequality) → rs ≡ asked cs
    → rs ++ row_against have need ≡ asked (cs ++ left_check s have need ∷ [])
one_more cs s have need rs e = ap (λ q. q ++ row_against have need) e ∙ ap (λ q. asked cs ++ q) (sym (no_more (row_against have need))) ∙ sym (asked_both cs (left_check s have need ∷ []))

join : (cs ds : List (Check Dense)) (rs qs : List Inequality) → rs ≡ asked cs → qs ≡ asked ds → rs ++ qs ≡ asked (cs ++ ds)
join cs ds rs qs e d = (λ i. e i ++ d i) ∙ sym (asked_both cs ds)

mapped : {A B C : Type 0} (h : B → C) (g : A → B) (xs : List A) → map h (map g xs) ≡ map (λ x. h (g x)) xs
mapped h g [] = refl
mapped h g (x ∷ xs) = ap (λ ys. h (g x) ∷ ys) (mapped h g xs)

sums_nothing : {A : Type 0} (xs : List ℤ) (us : List A) → sums xs (map (λ u. pos 0) us) ≡ xs
sums_nothing [] us = refl
sums_nothing (x ∷ xs) [] = refl
sums_nothing (x ∷ xs) (u ∷ us) = ap (λ ys. x ∷ ys) (sums_nothing xs us)

-- ---- constructors that aren't there

no_type : (types : List DataType) (number c : ℕ) → AllByRecursion IsDataType types → 64 * length types ≤ c → type_from number types c ≡ None
no_type [] number c h l = refl
no_type (t ∷ ts) number c h l = by_test (λ k. no_type ts (suc number) (c - length t.cons) h.1 k) (nat_lt c (length t.cons)) refl
  where
    few : length t.cons ≤ 64
    few = h.0.few_cons

    by_test : (64 * length ts ≤ c - length t.cons → type_from (suc number) ts (c - length t.cons) ≡ None) → (b : Bool) → nat_lt c (length t.cons) ≡ b
        → (if b then Some number else type_from (suc number) ts (c - length t.cons)) ≡ None
    by_test rec true e = let less : c < length t.cons = grind (arith, nat_tests, e) in absurd (omega (arith, less, few, l))
    by_test rec false e = rec (omega (arith, few, l))

not_heap : (types : List DataType) (c : ℕ) → AreTypes types → 4096 ≤ c → is_heap_con types c ≡ false
not_heap types c h l = ap (λ o. option_map_or (is_heap_type types) o false) (no_type types 0 c h.each (omega (arith, l, h.few_types)))

-- ---- over the unknowns

module _ (us : List Unknown) where
  abbrev pub unit_of : Unknown → Dense
  unit_of u = once_with us (pos 0) u

  abbrev pub book : Book Dense
  book = record {
    unit = record { constant = pos 1; factors = nothings us };
    need = λ func. unit_of (Need func);
    back = λ func. unit_of (Back func);
    param = λ func x con. unit_of (Param func x con);
    result = λ func con. unit_of (Result func con);
    block_need = λ func block. unit_of (BlockNeed func block);
    block_var = λ func block x con. unit_of (BlockVar func block x con);
    make = λ func block place con. unit_of (Made func block place con);
  }

  abbrev form_units : Units Unknown → Units Dense
  form_units units = λ c. unit_of (units c)

  abbrev form_carried : Carried Unknown → Carried Dense
  form_carried carried = λ x c. unit_of (carried x c)

  abbrev account : Dense → Carried Unknown → Account Dense
  account left carried = record { left = left; carried = form_carried carried }

  -- ---- values

  values_are : (types : List DataType) (s : Site) (q : Option Kind) (have need : Units Unknown)
      → value_rows types us q have need ≡ asked (value_checks types s q (form_units have) (form_units need))
  values_are types s q have need = each (option_map_or (reached types) q [])
    where
      each : (cons : List ℕ) → cons_rows us have need cons ≡ asked (map (λ c. record { func = s.func; block = s.block; place = s.place; con = Some c; have = unit_of (have c); need = unit_of (need c) }) cons)
      each [] = refl
      each (c ∷ cons) = ap (λ rs. unknown_rows us (have c) (need c) ++ rs) (each cons)

  -- the same locals, asked for forms
  abbrev form_asks : Asks Unknown → Asks Dense
  form_asks asks = map (λ a. (a.0, form_units a.1)) asks

  locals_are : (types : List DataType) (f : Func) (s : Site) (carried : Carried Unknown) (asks : Asks Unknown)
      → local_rows types us f carried asks ≡ asked (local_checks types f s (form_carried carried) (form_asks asks))
  locals_are types f s carried [] = refl
  locals_are types f s carried (a ∷ asks) =
      join (value_checks types s (kind_of f a.0) (form_units (carried a.0)) (form_units a.1)) (local_checks types f s (form_carried carried) (form_asks asks))
      (value_rows types us (kind_of f a.0) (carried a.0) a.1) (local_rows types us f carried asks) (values_are types s (kind_of f a.0) (carried a.0) a.1) (locals_are types f s carried asks)

  -- where the same is asked of each
  each_are : (types : List DataType) (f : Func) (s : Site) (carried : Carried Unknown) (units : Carried Unknown) (xs : List ℕ)
      → local_rows types us f carried (map (λ x. (x, units x)) xs) ≡ asked (local_checks types f s (form_carried carried) (map (λ x. (x, form_carried units x)) xs))
  each_are types f s carried units xs =
      locals_are types f s carried (map (λ x. (x, units x)) xs) ∙ ap (λ q. asked (local_checks types f s (form_carried carried) q)) (mapped (λ a. (a.0, form_units a.1)) (λ x. (x, units x)) xs)

  -- where arguments are asked for what parameters carry
  arguments_forms : (units : Carried Unknown) (marked : ℕ → Bool) (number count : ℕ) (args : List ℕ)
      → form_asks (arguments_asks units marked number count args) ≡ arguments_asks (form_carried units) marked number count args
  arguments_forms units marked number zero args = refl
  arguments_forms units marked number (suc count) [] = refl
  arguments_forms units marked number (suc count) (x ∷ xs) = by_mark (marked number) (arguments_forms units marked (suc number) count xs)
    where
      rest : Asks Unknown
      rest = arguments_asks units marked (suc number) count xs

      others : Asks Dense
      others = arguments_asks (form_carried units) marked (suc number) count xs

      by_mark : (b : Bool) → form_asks rest ≡ others → form_asks (cond b rest ((x, units number) ∷ rest)) ≡ cond b others ((x, form_carried units number) ∷ others)
      by_mark true e = e
      by_mark false e = ap (λ q. (x, form_units (units number)) ∷ q) e

  carrying_is : (carried : Carried Unknown) (x : ℕ) (units : Units Unknown)
      → form_carried (carrying carried x units) ≡ carrying (form_carried carried) x (form_units units)
  carrying_is carried x units = λ i y. by_test y (x == y) i
    where
      by_test : (y : ℕ) (b : Bool) → form_units (if b then units else carried y) ≡ (if b then form_units units else form_carried carried y)
      by_test y true = refl
      by_test y false = refl

  all_carrying_at : (carried : Carried Dense) (xs : List ℕ) (units : Units Dense) (y : ℕ)
      → all_carrying carried xs units y ≡ (if is_among xs y then units else carried y)
  all_carrying_at carried [] units y = refl
  all_carrying_at carried (x ∷ xs) units y = all_carrying_at (carrying carried x units) xs units y ∙ by_case (is_among xs y) (x == y)
    where
      by_case : (m t : Bool) → (if m then units else (if t then units else carried y)) ≡ (if t || m then units else carried y)
      by_case true true = refl
      by_case true false = refl
      by_case false true = refl
      by_case false false = refl

  bound_is : (carried : Carried Unknown) (fields : List ℕ) (matched : Units Unknown)
      → form_carried (bound carried fields matched) ≡ all_carrying (form_carried carried) fields (form_units matched)
  unfolding bound
  bound_is carried fields matched = λ i y. (by_test y (is_among fields y) ∙ sym (all_carrying_at (form_carried carried) fields (form_units matched) y)) i
    where
      by_test : (y : ℕ) (b : Bool) → form_units (if b then matched else carried y) ≡ (if b then form_units matched else form_carried carried y)
      by_test y true = refl
      by_test y false = refl

  -- ---- lets

  module _ (p : Code) (known : AreTypes p.types) where
    cost_is : (at : Place) (u : Unknown) → build_cost dense book.unit at (unit_of u) ≡ once_with us (price at) u
    cost_is place.New u = λ i. record { constant = pos 1; factors = sums_nothing (ticks us u) us i }
    cost_is place.Inline u = refl
    cost_is (place.Reuse d) u = refl

    arguments_are : (f : Func) (s : Site) (left : Dense) (carried : Carried Unknown) (callee : ℕ) (args : List ℕ)
        → argument_rows p.types us f carried callee args (slice_get p.funcs callee) ≡ asked (arguments_checks p f book s (account left carried) callee args)
    arguments_are f s left carried callee args = by_func (slice_get p.funcs callee)
      where
        by_func : (o : Option Func) → argument_rows p.types us f carried callee args o ≡ asked (option_map_or (λ g. local_checks p.types f s (form_carried carried) (call_asks book callee g args)) o [])
        by_func None = refl
        by_func (Some g) = locals_are p.types f s carried (arguments_asks (λ x con. Param callee x con) (is_marked g) 0 (length g.params) args)
            ∙ ap (λ q. asked (local_checks p.types f s (form_carried carried) q)) (arguments_forms (λ x con. Param callee x con) (is_marked g) 0 (length g.params) args)

    call_is : (f : Func) (s : Site) (left : Dense) (carried : Carried Unknown) (callee : ℕ) (args : List ℕ)
        → call_rows p us f left carried callee args ≡ asked (arguments_checks p f book s (account left carried) callee args ++ left_check s left (book.need callee) ∷ [])
    call_is f s left carried callee args = one_more (arguments_checks p f book s (account left carried) callee args) s left (book.need callee) (argument_rows p.types us f carried callee args (slice_get p.funcs callee))
        (arguments_are f s left carried callee args)

    op_is : (f : Func) (s : Site) (left : Dense) (carried : Carried Unknown) (op : Op)
        → op_rows p us f s left carried op ≡ asked (op_checks dense p f book s (account left carried) op)
    op_is f s left carried (Lit z) = refl
    op_is f s left carried (Flag b) = refl
    op_is f s left carried (Copy x) = refl
    op_is f s left carried (Prim o x y) = refl
    op_is f s left carried (Call callee args) = call_is f s left carried callee args
    op_is f s left carried (Make con args at) = by_heap (is_heap_con p.types con)
      where
        by_heap : (t : Bool) → cond t (local_rows p.types us f carried (map (λ x. (x, Made s.func s.block s.place)) args) ++ left_rows us left (price at) (Made s.func s.block s.place con)) []
            ≡ asked (cond t (local_checks p.types f s (form_carried carried) (build_asks book s.func s.block s.place args)
            ++ left_check s left (build_cost dense book.unit at (unit_of (Made s.func s.block s.place con))) ∷ []) [])
        by_heap true = ap (λ q. local_rows p.types us f carried (map (λ x. (x, Made s.func s.block s.place)) args) ++ row_against left q) (sym (cost_is at (Made s.func s.block s.place con)))
            ∙ one_more (local_checks p.types f s (form_carried carried) (build_asks book s.func s.block s.place args)) s left (build_cost dense book.unit at (unit_of (Made s.func s.block s.place con)))
            (local_rows p.types us f carried (map (λ x. (x, Made s.func s.block s.place)) args)) (each_are p.types f s carried (λ x. Made s.func s.block s.place) args)
        by_heap false = refl

    after_is : (s : Site) (left : Dense) (carried : Carried Unknown) (x : ℕ) (op : Op)
        → account (left_after p.types us s left op) (carried_after p.types s carried x op) ≡ after_op dense p.types book s.func s.block s.place (account left carried) x op
    after_is s left carried x (Lit z) = refl
    after_is s left carried x (Flag b) = refl
    after_is s left carried x (Prim o y z) = refl
    after_is s left carried x (Copy y) = λ i. record { left = left; carried = carrying_is carried x (carried y) i }
    after_is s left carried x (Call callee args) = λ i. record { left = left_called us left callee; carried = carrying_is carried x (λ con. Result callee con) i }
    after_is s left carried x (Make con args at) = by_heap (is_heap_con p.types con)
      where
        by_heap : (t : Bool) → account (cond t (minus left (once_with us (price at) (Made s.func s.block s.place con))) left) (cond t (carrying carried x (Made s.func s.block s.place)) carried)
            ≡ cond t (record { left = minus left (build_cost dense book.unit at (unit_of (Made s.func s.block s.place con))); carried = carrying (form_carried carried) x (λ c. unit_of (Made s.func s.block s.place c)) }) (account left carried)
        by_heap true = λ i. record { left = minus left (sym (cost_is at (Made s.func s.block s.place con)) i); carried = carrying_is carried x (Made s.func s.block s.place) i }
        by_heap false = refl

    -- ---- ends of blocks

    jump_is : (f : Func) (s : Site) (left : Dense) (carried : Carried Unknown) (to : ℕ)
        → jump_rows p.types us f s.func left carried to ≡ asked (jump_checks p f book s (account left carried) to)
    jump_is f s left carried to = one_more (local_checks p.types f s (form_carried carried) (jump_asks f book s.func to)) s left (book.block_need s.func to)
        (local_rows p.types us f carried (map (λ x. (x, λ con. BlockVar s.func to x con)) (params_at f.blocks to)))
        (each_are p.types f s carried (λ x con. BlockVar s.func to x con) (params_at f.blocks to))

    -- a constructor by the code's count
    abbrev capped : ℕ → ℕ
    capped c = min c (2 ^ 32 - 1)

    found_is : (left : Dense) (matched : Units Unknown) (con : ℕ)
        → found p.types us left matched (capped con) ≡ cond (is_heap_con p.types con) (plus left (unit_of (matched con))) left
    found_is left matched con = by_size (nat_lt con 4096) refl
      where
        by_size : (b : Bool) → nat_lt con 4096 ≡ b
            → found p.types us left matched (capped con) ≡ cond (is_heap_con p.types con) (plus left (unit_of (matched con))) left
        by_size true e =
            let less : con < 4096 = grind (arith, nat_tests, e) in
            let is : con ≡ capped con = omega (arith, less) in
            subst (λ c. found p.types us left matched c ≡ cond (is_heap_con p.types con) (plus left (unit_of (matched con))) left) is refl
        by_size false e =
            let big : 4096 ≤ con = grind (arith, nat_tests, e) in
            let big_too : 4096 ≤ capped con = omega (arith, big) in
            ap (λ t. cond t (plus left (unit_of (matched (capped con)))) left) (not_heap p.types (capped con) known big_too)
            ∙ sym (ap (λ t. cond t (plus left (unit_of (matched con))) left) (not_heap p.types con known big))

    price_is : (left : Dense) → walk.freed cell.Free left ≡ plus left book.unit
    price_is left = λ i. record { constant = more left.constant (pos 1); factors = sym (sums_nothing left.factors us) i }

    arm_account : (left : Dense) (carried : Carried Unknown) (on con : ℕ) (a : CaseArm)
        → account (walk.freed a.cell (found p.types us left (carried on) (capped con))) (bound carried a.fields (carried on)) ≡ in_arm dense p.types book (account left carried) on con a
    arm_account left carried on con a = by_cell a.cell
      where
        node : Dense
        node = found p.types us left (carried on) (capped con)

        by_cell : (c : CaseCell) → account (walk.freed c node) (bound carried a.fields (carried on)) ≡ licence.found dense p.types book.unit (account left carried) on con a.fields c
        by_cell cell.Free = λ i. record {
          left = (price_is node ∙ ap (λ d. plus d book.unit) (found_is left (carried on) con)) i;
          carried = bound_is carried a.fields (carried on) i;
        }
        by_cell cell.Inline = λ i. record { left = found_is left (carried on) con i; carried = bound_is carried a.fields (carried on) i }
        by_cell cell.Look = λ i. record { left = found_is left (carried on) con i; carried = bound_is carried a.fields (carried on) i }
        by_cell (cell.Keep d) = λ i. record { left = found_is left (carried on) con i; carried = bound_is carried a.fields (carried on) i }

    arms_are : (f : Func) (s : Site) (left : Dense) (carried : Carried Unknown) (on con : ℕ) (arms : List CaseArm)
        → arms_rows p.types us f s.func left carried (carried on) (capped con) arms ≡ asked (arms_checks dense p f book s (account left carried) on con arms)
    arms_are f s left carried on con [] = refl
    arms_are f s left carried on con (a ∷ arms) =
        let next : next_con (capped con) ≡ capped (suc con) = omega arith in
        join (jump_checks p f book s (in_arm dense p.types book (account left carried) on con a) a.target) (arms_checks dense p f book s (account left carried) on (suc con) arms)
        (arm_rows p.types us f s.func left carried (carried on) (capped con) a) (arms_rows p.types us f s.func left carried (carried on) (next_con (capped con)) arms)
        (jump_is f s (walk.freed a.cell (found p.types us left (carried on) (capped con))) (bound carried a.fields (carried on)) a.target
        ∙ ap (λ q. asked (jump_checks p f book s q a.target)) (arm_account left carried on con a))
        (ap (λ n. arms_rows p.types us f s.func left carried (carried on) n arms) next ∙ arms_are f s left carried on (suc con) arms)

    few_first : (q : Option Kind) → first_con_of p.types q ≤ 4096
    few_first None = omega arith
    few_first (Some kind.Int) = omega arith
    few_first (Some kind.Flag) = omega arith
    few_first (Some kind.Dia) = omega arith
    few_first (Some (kind.Of t)) = few_before p.types t known

    case_is : (f : Func) (s : Site) (left : Dense) (carried : Carried Unknown) (on : ℕ) (arms : List CaseArm)
        → term_rows p us f s.func left carried (Case on arms) ≡ asked (term_checks dense p f book s (account left carried) (Case on arms))
    case_is f s left carried on arms =
        let few : first_con_of p.types (kind_of f on) ≤ 4096 = few_first (kind_of f on) in
        let is : first_con_of p.types (kind_of f on) ≡ capped (first_con_of p.types (kind_of f on)) = omega (arith, few) in
        ap (λ n. arms_rows p.types us f s.func left carried (carried on) n arms) is ∙ arms_are f s left carried on (first_con_of p.types (kind_of f on)) arms

    tail_is : (f : Func) (s : Site) (left : Dense) (carried : Carried Unknown) (callee : ℕ) (args : List ℕ)
        → tail_rows p us f s.func left carried callee args ≡ asked (term_checks dense p f book s (account left carried) (Tail callee args))
    tail_is f s left carried callee args =
        join (arguments ++ first ∷ []) (values ++ second ∷ []) (call_rows p us f left carried callee args) (value_rows p.types us (Some f.result) (Result callee) (Result s.func) ++ left_rows us (left_called us left callee) (pos 0) (Back s.func))
        (call_is f s left carried callee args)
        (one_more values s (left_called us left callee) (book.back s.func) (value_rows p.types us (Some f.result) (Result callee) (Result s.func)) (values_are p.types s (Some f.result) (Result callee) (Result s.func)))
        ∙ ap asked (append_assoc arguments (first ∷ []) (values ++ second ∷ []))
      where
        arguments : List (Check Dense)
        arguments = arguments_checks p f book s (account left carried) callee args

        values : List (Check Dense)
        values = value_checks p.types s (Some f.result) (book.result callee) (book.result s.func)

        first : Check Dense
        first = left_check s left (book.need callee)

        second : Check Dense
        second = left_check s (left_called us left callee) (book.back s.func)

    term_is : (f : Func) (s : Site) (left : Dense) (carried : Carried Unknown) (t : Term)
        → term_rows p us f s.func left carried t ≡ asked (term_checks dense p f book s (account left carried) t)
    term_is f s left carried (Ret x) = one_more (value_checks p.types s (kind_of f x) (form_units (carried x)) (book.result s.func)) s left (book.back s.func) (value_rows p.types us (kind_of f x) (carried x) (Result s.func))
        (values_are p.types s (kind_of f x) (carried x) (Result s.func))
    term_is f s left carried (Tail callee args) = tail_is f s left carried callee args
    term_is f s left carried (Goto to) = jump_is f s left carried to
    term_is f s left carried (If x first second) = join (jump_checks p f book s (account left carried) first) (jump_checks p f book s (account left carried) second)
        (jump_rows p.types us f s.func left carried first) (jump_rows p.types us f s.func left carried second) (jump_is f s left carried first) (jump_is f s left carried second)
    term_is f s left carried (Case on arms) = case_is f s left carried on arms

    -- ---- blocks and functions

    lets_are : (f : Func) (s : Site) (left : Dense) (carried : Carried Unknown) (ls : List Let) (t : Term)
        → lets_rows p us f s left carried ls t ≡ asked (lets_checks dense p f book s (account left carried) ls t)
    lets_are f s left carried [] t = term_is f s left carried t
    lets_are f s left carried (l ∷ ls) t =
        join (op_checks dense p f book s (account left carried) l.op) (lets_checks dense p f book (next_place s) (after_op dense p.types book s.func s.block s.place (account left carried) l.target l.op) ls t)
        (op_rows p us f s left carried l.op) (lets_rows p us f (next_place s) (left_after p.types us s left l.op) (carried_after p.types s carried l.target l.op) ls t)
        (op_is f s left carried l.op)
        (lets_are f (next_place s) (left_after p.types us s left l.op) (carried_after p.types s carried l.target l.op) ls t
        ∙ ap (λ a. asked (lets_checks dense p f book (next_place s) a ls t)) (after_is s left carried l.target l.op))

    start_is : (func number : ℕ) → account (unit_of (need_of func number)) (own func number) ≡ account_at book func number
    start_is func zero = refl
    start_is func (suc n) = refl

    blocks_are : (f : Func) (func number : ℕ) (bs : List Block) → blocks_rows p us f func number bs ≡ asked (blocks_checks dense p f book func number bs)
    blocks_are f func number [] = refl
    blocks_are f func number (b ∷ bs) =
        join (lets_checks dense p f book here (account_at book func number) b.lets b.term) (blocks_checks dense p f book func (suc number) bs) (block_rows p us f func number b) (blocks_rows p us f func (suc number) bs)
        (lets_are f here (unit_of (need_of func number)) (own func number) b.lets b.term ∙ ap (λ a. asked (lets_checks dense p f book here a b.lets b.term)) (start_is func number))
        (blocks_are f func (suc number) bs)
      where
        here : Site
        here = record { func = func; block = number; place = 1 }

    funcs_are : (func : ℕ) (fs : List Func) → funcs_rows p us func fs ≡ asked (funcs_checks dense p book func fs)
    funcs_are func [] = refl
    funcs_are func (f ∷ fs) = join (blocks_checks dense p f book func 0 f.blocks) (funcs_checks dense p book (suc func) fs) (blocks_rows p us f func 0 f.blocks) (funcs_rows p us (suc func) fs)
        (blocks_are f func 0 f.blocks) (funcs_are (suc func) fs)

    pub walked : funcs_rows p us 0 p.funcs ≡ asked (checks_of dense p book)
    walked = funcs_are 0 p.funcs
