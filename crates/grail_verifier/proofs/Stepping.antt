-- Lets and ends of blocks: what the walk finds is the first check of the list that fails.
use Rattle.std.proofs.Common.{◌≡◌, ℕ, ◌+◌, ◌-◌, ◌<◌, ◌≤◌, Bool, true, false, List, [], ◌∷◌, ◌++◌, length, Option, Some, None, refl, sym, ap, ◌∙◌, subst, arith}
use Rattle.std.specs.Prelude.{◌==◌, if◌then◌else◌, cond, slice_get, slice_set, ℤ, pos, ◌+ℤ◌, ◌-ℤ◌}
use Rattle.std.specs.Option.{option_or, option_map_or}
use Rattle.std.proofs.lemmas.Bool.Decides.{nat_tests}
use Rattle.std.proofs.lemmas.Int.{ints}
use Rattle.camelot_values.specs.declared.kinds.Kind.{Kind}
use Rattle.grail_blocks.specs.declared.blocks.Place.{Place}
use Rattle.grail_blocks.specs.declared.blocks.Place.TheVariants as place
use Rattle.grail_code.specs.Code.{Op, Lit, Flag, Copy, Prim, Make, Call, Let, Func, Code}
use Rattle.grail_code.specs.WellFormed.{kind_of, is_marked, HaveKinds, Gives, LetFits}
use Rattle.grail_code.specs.Limits as limits
use Rattle.annotations.specs.Vectors.{Vector, at, is_heap_con}
use Rattle.certificate.specs.Certificates.{FuncCert, Cert}
use Rattle.licence.specs.Books.{Units, Carried, Book, vector_of, book_of}
use Rattle.licence.specs.Rules.{Account, carrying, build_cost, after_op, call_asks, build_asks}
use Rattle.licence.specs.Checks.{Site, left_check, local_checks, arguments_checks, op_checks, integers, in_integers}
use Rattle.grail_verifier.specs.Finding.{Found}
use Rattle.grail_verifier.specs.Walk.{capped, left_short, asked_short, all_short, cost, call_short, op_short, left_behind_call, left_behind, put, slots_behind_call, slots_behind_op, slots_behind}
use Rattle.grail_verifier.proofs.Composing.{nothing, both, one, is_enough, second_none, AreUnits}
use Rattle.grail_verifier.proofs.Carrying.{IsHeld, IsHeldIn, AreHeld, all_found, kept_numbers, kept_args, along_kept, AreAsked, asked_found}
use Rattle.grail_verifier.proofs.Lines.{set_here, set_other, set_length, at_few}
use Rattle.grail_verifier.proofs.Facts.{some_and, Ready, Known, ready_at, said_is, few_locals, kept_ascend, kept_aligned, own_kept}

-- the book of a certificate, over whole numbers
abbrev pub book : Cert → Book ℤ
book c = in_integers (book_of c)

-- ---- sums

pub minus_is : (m n : ℕ) → n ≤ m → pos (m - n) ≡ (pos m -ℤ pos n)
minus_is m n h = omega (arith, ints, h)

pub plus_is : (m n : ℕ) → pos (m + n) ≡ (pos m +ℤ pos n)
plus_is m n = omega (arith, ints)

pub small : (n : ℕ) → n ≤ 4611686018427387904 → capped n ≡ n
small n h = omega (arith, h)

-- ---- what is left, and what locals carry

pub record Tied (f : Func) (units : ℕ) (slots : List Vector) (a : Account ℤ) : Type 0 where
  pub left : a.left ≡ pos units
  pub held : AreHeld f (slice_get slots) a.carried
  pub long : length slots ≡ 256

-- a local has a new value
put_held : (f : Func) (slots : List Vector) (carried : Carried ℤ) (x : ℕ) (v : Vector) (units : Units ℤ) → limits.FuncIsWithin f → length slots ≡ 256
    → AreHeld f (slice_get slots) carried → IsHeld v units
    → AreHeld f (slice_get (slice_set slots x v)) (carrying carried x units)
put_held f slots carried x v units lims long held new y q e = by_test (x == y) refl
  where
    by_test : (b : Bool) → (x == y) ≡ b → IsHeldIn (slice_get (slice_set slots x v) y) (if b then units else carried y)
    by_test true d =
        let same : x ≡ y = grind (arith, nat_tests, d) in
        let there : x < length slots = omega (arith, same, long, few_locals f y q lims e) in
        subst (λ o. IsHeldIn o units) (sym (subst (λ z. slice_get (slice_set slots x v) z ≡ Some v) same (set_here slots x v there))) new
    by_test false d =
        let other : x ≡ y → ⊥ = λ same. grind (arith, nat_tests, d, same) in
        subst (λ o. IsHeldIn o (carried y)) (sym (set_other slots x y v other)) (held y q e)

-- ---- calls

module _ (p : Code) (c : Cert) (known : Known p c) where
  pub arguments_found : (f : Func) (s : Site) (left : ℕ) (slots : List Vector) (a : Account ℤ) (callee : ℕ) (args : List ℕ) (g : Func) (line : FuncCert) → Tied f left slots a → Ready p c callee g line → HaveKinds f args g.params
      → Found (arguments_checks p f (book c) s a callee args) (asked_short p.types f s (slice_get slots) (slice_get args) line.params)
  arguments_found f s left slots a callee args g line tied ready kinds =
      subst (λ o. Found (option_map_or (λ g. local_checks p.types f s a.carried (call_asks (book c) callee g args)) o []) (asked_short p.types f s (slice_get slots) (slice_get args) line.params)) (sym ready.code)
      (subst (λ asks. Found (local_checks p.types f s a.carried asks) (asked_short p.types f s (slice_get slots) (slice_get args) line.params)) (along_kept ((book c).param callee) (is_marked g) 0 (length g.params) args)
      (asked_found p.types f s (slice_get slots) a.carried (slice_get args) ((book c).param callee) tied.held (kept_numbers (is_marked g) 0 (length g.params) args) (kept_args (is_marked g) 0 (length g.params) args) line.params
      (kept_aligned (is_marked g) (slice_get args) 0 (length g.params) args (λ (i : ℕ). let z : 0 + i ≡ i = omega arith in ap (slice_get args) z)) (kept_ascend (is_marked g) 0 (length g.params) args)
      ready.formed.params.ascending (own_kept p f g line args ((ready.right 0).own refl) kinds) (asked (kept_numbers (is_marked g) 0 (length g.params) args))))
    where
      asked : (ns : List ℕ) → AreAsked ((book c).param callee) line.params ns
      asked [] = tt
      asked (n ∷ ns) = (λ con. ap (λ v. pos (at v con)) (said_is c callee line (λ l. vector_of l.params n) [] ready.lines), asked ns)

  pub need_is : (callee : ℕ) (line : FuncCert) → slice_get c.funcs callee ≡ Some line → (book c).need callee ≡ pos line.need
  need_is callee line e = ap pos (said_is c callee line (λ l. l.need) 0 e)

  pub back_is : (callee : ℕ) (line : FuncCert) → slice_get c.funcs callee ≡ Some line → (book c).back callee ≡ pos line.back
  back_is callee line e = ap pos (said_is c callee line (λ l. l.back) 0 e)

  pub result_is : (callee : ℕ) (line : FuncCert) → slice_get c.funcs callee ≡ Some line → AreUnits line.result ((book c).result callee)
  result_is callee line e con = ap (λ v. pos (at v con)) (said_is c callee line (λ l. l.result) [] e)

  pub call_found : (f : Func) (s : Site) (left : ℕ) (slots : List Vector) (a : Account ℤ) (callee : ℕ) (args : List ℕ) (g : Func) (line : FuncCert)
      → Tied f left slots a → Ready p c callee g line → HaveKinds f args g.params
      → Found (arguments_checks p f (book c) s a callee args ++ left_check s a.left ((book c).need callee) ∷ []) (call_short p.types f s left slots args (Some line))
  call_found f s left slots a callee args g line tied ready kinds =
      both (arguments_checks p f (book c) s a callee args) (left_check s a.left ((book c).need callee) ∷ []) (asked_short p.types f s (slice_get slots) (slice_get args) line.params) (left_short s left line.need)
      (arguments_found f s left slots a callee args g line tied ready kinds) (λ e. one s left line.need a.left ((book c).need callee) tied.left (need_is callee line ready.lines))

  -- what a call leaves
  pub behind_call : (left : ℕ) (left' : ℤ) (callee : ℕ) (line : FuncCert) → left' ≡ pos left → slice_get c.funcs callee ≡ Some line
      → line.need ≤ left → left + line.back ≤ 4611686018427387904
      → ((left' -ℤ (book c).need callee) +ℤ (book c).back callee) ≡ pos (capped ((left - line.need) + line.back))
  behind_call left left' callee line e lines enough few =
      let cap : capped ((left - line.need) + line.back) ≡ (left - line.need) + line.back = small ((left - line.need) + line.back) (omega (arith, few, enough)) in
      ap (λ l. (l -ℤ (book c).need callee) +ℤ (book c).back callee) e ∙ ap (λ n. (pos left -ℤ n) +ℤ (book c).back callee) (need_is callee line lines) ∙ ap (λ n. (pos left -ℤ pos line.need) +ℤ n) (back_is callee line lines)
      ∙ ap (λ l. l +ℤ pos line.back) (sym (minus_is left line.need enough)) ∙ sym (plus_is (left - line.need) line.back) ∙ ap pos (sym cap)

  -- ---- builds

  pub cost_is : (into : Place) (units : ℕ) (units' : ℤ) → units' ≡ pos units → units ≤ 2147483648
      → build_cost integers (book c).unit into units' ≡ pos (cost c.unit into units)
  cost_is place.New units units' e few =
      let cap : capped (units + c.unit) ≡ units + c.unit = small (units + c.unit) (omega (arith, few, known.right.within.unit)) in
      ap (λ n. n +ℤ pos c.unit) e ∙ sym (plus_is units c.unit) ∙ ap pos (sym cap)
  cost_is place.Inline units units' e few = e
  cost_is (place.Reuse d) units units' e few = e

  -- the build of this place carries what its line says
  pub op_found : (func : ℕ) (f : Func) (own : FuncCert) (s : Site) (left : ℕ) (slots : List Vector) (a : Account ℤ) (made : Vector) (l : Let)
      → Tied f left slots a
      → IsHeld made ((book c).make s.func s.block s.place) → LetFits p f l → Found (op_checks integers p f (book c) s a l.op) (op_short p c f s left slots made l.op)
  op_found func f own s left slots a made l tied held fits = by_kind (some_and (Gives p f l.op) (kind_of f l.target) fits)
    where
      by_op : (op : Op) (q : Kind) → Gives p f op q → Found (op_checks integers p f (book c) s a op) (op_short p c f s left slots made op)
      by_op (Lit z) q g = nothing
      by_op (Flag b) q g = nothing
      by_op (Copy x) q g = nothing
      by_op (Prim o x y) q g = nothing
      by_op (Make con args into) q g = by_heap (is_heap_con p.types con)
        where
          by_heap : (h : Bool) → Found (cond h (local_checks p.types f s a.carried (build_asks (book c) s.func s.block s.place args) ++ left_check s a.left (build_cost integers (book c).unit into ((book c).make s.func s.block s.place con)) ∷ []) [])
              (cond h (option_or (all_short p.types f s (slice_get slots) args made) (left_short s left (cost c.unit into (at made con)))) None)
          by_heap false = nothing
          by_heap true =
              both (local_checks p.types f s a.carried (build_asks (book c) s.func s.block s.place args)) (left_check s a.left (build_cost integers (book c).unit into ((book c).make s.func s.block s.place con)) ∷ [])
              (all_short p.types f s (slice_get slots) args made) (left_short s left (cost c.unit into (at made con)))
              (all_found p.types f s (slice_get slots) a.carried args made ((book c).make s.func s.block s.place) tied.held held.same)
              (λ e. one s left (cost c.unit into (at made con)) a.left (build_cost integers (book c).unit into ((book c).make s.func s.block s.place con)) tied.left (cost_is into (at made con) ((book c).make s.func s.block s.place con) (held.same con) (held.few con)))
      by_op (Call callee args) q g = by_callee (some_and (λ h. HaveKinds f args h.params × (q ≡ h.result)) (slice_get p.funcs callee) g)
        where
          by_lines : (h : Func) → HaveKinds f args h.params → ((line : FuncCert) × Ready p c callee h line)
              → Found (op_checks integers p f (book c) s a (Call callee args)) (op_short p c f s left slots made (Call callee args))
          by_lines h kinds (line, r) =
              subst (λ o. Found (op_checks integers p f (book c) s a (Call callee args)) (call_short p.types f s left slots args o)) (sym r.lines) (call_found f s left slots a callee args h line tied r kinds)

          by_callee : ((h : Func) × (slice_get p.funcs callee ≡ Some h) × (HaveKinds f args h.params × (q ≡ h.result)))
              → Found (op_checks integers p f (book c) s a (Call callee args)) (op_short p c f s left slots made (Call callee args))
          by_callee (h, e, (kinds, r)) = by_lines h kinds (ready_at p c known callee h e)

      by_kind : ((q : Kind) × (kind_of f l.target ≡ Some q) × Gives p f l.op q)
          → Found (op_checks integers p f (book c) s a l.op) (op_short p c f s left slots made l.op)
      by_kind (q, e, g) = by_op l.op q g

  -- ---- behind a let

  -- what locals carry and what is left behind a let that is paid for
  pub behind_let : (f : Func) (s : Site) (left : ℕ) (slots : List Vector) (a : Account ℤ) (made : Vector) (l : Let) → Tied f left slots a
      → limits.FuncIsWithin f
      → IsHeld made ((book c).make s.func s.block s.place) → LetFits p f l → left ≤ 1152921504606846976 → op_short p c f s left slots made l.op ≡ None
      → Tied f (left_behind p c left made l.op) (slots_behind p c slots made l) (after_op integers p.types (book c) s.func s.block s.place a l.target l.op)
  behind_let f s left slots a made l tied lims held fits few paid = by_kind (some_and (Gives p f l.op) (kind_of f l.target) fits)
    where
      by_op : (op : Op) (q : Kind) → Gives p f op q → op_short p c f s left slots made op ≡ None
          → Tied f (left_behind p c left made op) (slots_behind_op p c slots made l.target op) (after_op integers p.types (book c) s.func s.block s.place a l.target op)
      by_op (Lit z) q g e = tied
      by_op (Flag b) q g e = tied
      by_op (Prim o x y) q g e = tied
      by_op (Copy y) q g e = by_slot (slice_get slots y) (tied.held y q g)
        where
          by_slot : (o : Option Vector) → IsHeldIn o (a.carried y) → Tied f left (put slots l.target o) (record { left = a.left; carried = carrying a.carried l.target (a.carried y) })
          by_slot None h = absurd h
          by_slot (Some v) h = record {
            left = tied.left;
            held = put_held f slots a.carried l.target v (a.carried y) lims tied.long tied.held h;
            long = set_length slots l.target v ∙ tied.long;
          }
      by_op (Make con args into) q g e = by_heap (is_heap_con p.types con) e
        where
          by_heap : (h : Bool) → cond h (option_or (all_short p.types f s (slice_get slots) args made) (left_short s left (cost c.unit into (at made con)))) None ≡ None
              → Tied f (cond h (left - cost c.unit into (at made con)) left) (cond h (slice_set slots l.target made) slots)
              (cond h (record { left = a.left -ℤ build_cost integers (book c).unit into ((book c).make s.func s.block s.place con); carried = carrying a.carried l.target ((book c).make s.func s.block s.place) }) a)
          by_heap false d = tied
          by_heap true d =
              let enough : cost c.unit into (at made con) ≤ left = is_enough s left (cost c.unit into (at made con)) (second_none (all_short p.types f s (slice_get slots) args made) (left_short s left (cost c.unit into (at made con))) d) in
              record {
                left = ap (λ n. a.left -ℤ n) (cost_is into (at made con) ((book c).make s.func s.block s.place con) (held.same con) (held.few con)) ∙ ap (λ m. m -ℤ pos (cost c.unit into (at made con))) tied.left ∙ sym (minus_is left (cost c.unit into (at made con)) enough);
                held = put_held f slots a.carried l.target made ((book c).make s.func s.block s.place) lims tied.long tied.held held;
                long = set_length slots l.target made ∙ tied.long;
              }
      by_op (Call callee args) q g e = by_callee (some_and (λ h. HaveKinds f args h.params × (q ≡ h.result)) (slice_get p.funcs callee) g)
        where
          by_line : (h : Func) (line : FuncCert) → Ready p c callee h line → call_short p.types f s left slots args (Some line) ≡ None
              → Tied f (left_behind_call left (Some line)) (slots_behind_call slots l.target (Some line)) (after_op integers p.types (book c) s.func s.block s.place a l.target (Call callee args))
          by_line h line r d =
              let enough : line.need ≤ left = is_enough s left line.need (second_none (asked_short p.types f s (slice_get slots) (slice_get args) line.params) (left_short s left line.need) d) in
              record {
                left = behind_call left a.left callee line tied.left r.lines enough (omega (arith, few, r.within.back));
                held = put_held f slots a.carried l.target line.result ((book c).result callee) lims tied.long tied.held (record { same = result_is callee line r.lines; few = at_few line.result r.within.result });
                long = set_length slots l.target line.result ∙ tied.long;
              }

          by_lines : (h : Func) → ((line : FuncCert) × Ready p c callee h line)
              → Tied f (left_behind_call left (slice_get c.funcs callee)) (slots_behind_call slots l.target (slice_get c.funcs callee)) (after_op integers p.types (book c) s.func s.block s.place a l.target (Call callee args))
          by_lines h (line, r) =
              let paid : call_short p.types f s left slots args (Some line) ≡ None = subst (λ o. call_short p.types f s left slots args o ≡ None) r.lines e in
              subst (λ o. Tied f (left_behind_call left o) (slots_behind_call slots l.target o) (after_op integers p.types (book c) s.func s.block s.place a l.target (Call callee args))) (sym r.lines) (by_line h line r paid)

          by_callee : ((h : Func) × (slice_get p.funcs callee ≡ Some h) × (HaveKinds f args h.params × (q ≡ h.result)))
              → Tied f (left_behind_call left (slice_get c.funcs callee)) (slots_behind_call slots l.target (slice_get c.funcs callee)) (after_op integers p.types (book c) s.func s.block s.place a l.target (Call callee args))
          by_callee (h, d, (kinds, r)) = by_lines h (ready_at p c known callee h d)

      by_kind : ((q : Kind) × (kind_of f l.target ≡ Some q) × Gives p f l.op q)
          → Tied f (left_behind p c left made l.op) (slots_behind p c slots made l) (after_op integers p.types (book c) s.func s.block s.place a l.target l.op)
      by_kind (q, e, g) = by_op l.op q g paid

  -- no let leaves more than a call gives back
  pub left_grows : (left : ℕ) (made : Vector) (op : Op) (f : Func) (q : Kind) → Gives p f op q → left_behind p c left made op ≤ left + 1099511627776
  left_grows left made (Lit z) f q g = omega arith
  left_grows left made (Flag b) f q g = omega arith
  left_grows left made (Copy x) f q g = omega arith
  left_grows left made (Prim o x y) f q g = omega arith
  left_grows left made (Make con args into) f q g = by_heap (is_heap_con p.types con)
    where
      by_heap : (h : Bool) → cond h (left - cost c.unit into (at made con)) left ≤ left + 1099511627776
      by_heap true = omega arith
      by_heap false = omega arith
  left_grows left made (Call callee args) f q g = by_callee (some_and (λ h. HaveKinds f args h.params × (q ≡ h.result)) (slice_get p.funcs callee) g)
    where
      by_lines : (h : Func) → ((line : FuncCert) × Ready p c callee h line) → left_behind_call left (slice_get c.funcs callee) ≤ left + 1099511627776
      by_lines h (line, r) = subst (λ o. left_behind_call left o ≤ left + 1099511627776) (sym r.lines) (let b : line.back ≤ 1099511627776 = r.within.back in omega (arith, b))

      by_callee : ((h : Func) × (slice_get p.funcs callee ≡ Some h) × (HaveKinds f args h.params × (q ≡ h.result)))
          → left_behind_call left (slice_get c.funcs callee) ≤ left + 1099511627776
      by_callee (h, d, (kinds, r)) = by_lines h (ready_at p c known callee h d)
