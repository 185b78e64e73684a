-- Occurrences of the names of a local.
use Rattle.std.proofs.Common.{◌≡◌, ℕ, ◌+◌, ◌≤◌, ◌<◌, Bool, true, false, List, Some, refl, sym, ap, ◌∙◌, subst, arith, inl, inr}
use Rattle.std.specs.Prelude.{◌==◌, nat_lt, if◌then◌else◌, ◌⊎◌}
use Rattle.std.specs.Str.{bytes_eq}
use Rattle.std.proofs.lemmas.Bool.Decides.{nat_tests}
use Rattle.camelot_values.specs.Names.{find}
use Rattle.camelot_values.specs.NameLaws.{same_name, name_itself}
use Rattle.camelot_values.specs.declared.kinds.Kind.{Kind}
use Rattle.camelot_tree.specs.declared.tree.Name.{Name}
use Rattle.camelot_tree.specs.Tree.{Expression, Num, Truth, Var, Prim, If, Let, Match, Build, Call}
use Rattle.camelot_tree.specs.Meaning.{is_that}
use Rattle.camelot_typing.specs.Kinds.{Scope, bind, or_else}
use Rattle.camelot_typing.specs.Typing.{globals_of, HasKind}
use Rattle.linear_use.specs.Uses.{Loans}
use Rattle.normal_form.specs.Live.{bit}
use Rattle.normal_form.specs.Normal.{local, made, local_of, kind_in, kinds}
use Rattle.normal_form.proofs.Values.{number_found}
use Rattle.normal_form.proofs.UsedNames.{Names, without, taken, seen, AreNone, AreOne, AreSome, AreSplit, none_seen, unseen_taken, fewer_taken}
use Rattle.normal_form.proofs.KindsAt.{Frame, At, at_front, at_back, Named, named_kept, named_bind, named_local, named_name, kind_is, in_let, kinds_made, local_is}

-- the names of a local
abbrev pub named : Scope ℕ → ℕ → Names
named l y v = is_that (find l v) y

-- whether it is this local
abbrev pub one : ℕ → ℕ → ℕ
one x y = if x == y then 1 else 0

pub one_same : (x y : ℕ) → x ≡ y → one x y ≡ 1
one_same x y e = let t : (x == y) ≡ true = grind (arith, nat_tests, e) in ap (λ b. if b then 1 else 0) t

pub one_other : (x y : ℕ) → (x ≡ y → ⊥) → one x y ≡ 0
one_other x y n = by_test (x == y) refl
  where
    by_test : (b : Bool) → (x == y) ≡ b → ◌≡◌ {A = ℕ} (if b then 1 else 0) 0
    by_test true t = absurd (n (grind (arith, nat_tests, t)))
    by_test false t = refl

pub one_most : (x y : ℕ) → one x y ≤ 1
one_most x y = by_test (x == y)
  where
    by_test : (b : Bool) → (if b then 1 else 0) ≤ 1
    by_test true = omega arith
    by_test false = omega arith

pub same_or_not : (x y : ℕ) → (x ≡ y) ⊎ (x ≡ y → ⊥)
same_or_not x y = by_test (x == y) refl
  where
    by_test : (b : Bool) → (x == y) ≡ b → (x ≡ y) ⊎ (x ≡ y → ⊥)
    by_test true t = inl (grind (arith, nat_tests, t))
    by_test false t = inr (λ e. let k : (x == y) ≡ true = grind (arith, nat_tests, e) in let c : false ≡ true = sym t ∙ k in absurd cc)

pub found_named : (l : Scope ℕ) (v : List ℕ) (x y : ℕ) → find l v ≡ Some x → bit (named l y v) ≡ one x y
found_named l v x y e = ap (λ o. bit (is_that o y)) e ∙ bits (x == y)
  where
    bits : (b : Bool) → bit b ≡ (if b then 1 else 0)
    bits true = refl
    bits false = refl

-- ---- a name that is bound

-- no name has a local that isn't made yet
pub above_none : (F : Frame) (s : Scope Kind) (l : Scope ℕ) (next y : ℕ) → Named F s l next → next ≤ y → AreNone (named l y)
above_none F s l next y st h v = by_test (named l y v) refl
  where
    by_test : (b : Bool) → named l y v ≡ b → b ≡ false
    by_test false e = refl
    by_test true e = let n = named_name F s l next v y st (number_found (find l v) y e) in let less = n.below in absurd (omega (arith, less, h))

pub above_seen : (F : Frame) (loans : Loans) (s : Scope Kind) (l : Scope ℕ) (next y : ℕ) (e : Expression) → Named F s l next → next ≤ y
    → seen loans (named l y) e ≡ 0
above_seen F loans s l next y e st h = none_seen loans (named l y) e (above_none F s l next y st h)

pub above_taken : (F : Frame) (loans : Loans) (s : Scope Kind) (l : Scope ℕ) (next y : ℕ) (e : Expression) → Named F s l next → next ≤ y
    → taken loans (named l y) e ≡ 0
above_taken F loans s l next y e st h = unseen_taken loans (named l y) e (above_seen F loans s l next y e st h)

pub bound_else : (l : Scope ℕ) (n : Name) (x y : ℕ) → (x ≡ y → ⊥) → AreSome (named (bind n.word x l) y) (without n (named l y))
bound_else l n x y differ v = by_test (bytes_eq n.word v)
  where
    by_test : (b : Bool) → is_that (if b then Some x else find l v) y ≡ true → (if b then false else is_that (find l v) y) ≡ true
    by_test true e = absurd (differ (grind (arith, nat_tests, e)))
    by_test false e = e

abbrev pub itself : Name → Names
itself n v = bytes_eq v n.word

pub itself_one : (n : Name) → AreOne n.word (itself n)
itself_one n v h = h

-- the local that is bound has this name, and those that it had
pub bound_split : (l : Scope ℕ) (n : Name) (x y : ℕ) → AreSplit (named (bind n.word x l) y) (itself n) (without n (named l y))
bound_split l n x y v = by_test (bytes_eq n.word v) refl
  where
    by_test : (b : Bool) → bytes_eq n.word v ≡ b → is_that (if b then Some x else find l v) y ≡ true
        → (bytes_eq v n.word ≡ true) ⊎ ((if b then false else is_that (find l v) y) ≡ true)
    by_test true t e = let same : n.word ≡ v = same_name n.word v t in inl (ap (λ w. bytes_eq w n.word) (sym same) ∙ name_itself n.word)
    by_test false t e = inr e

-- ---- what an expression gives

-- An expression whose local was there before takes a name of it.
pub old_taken : (F : Frame) (loans : Loans) (e : Expression) (s : Scope Kind) (l : Scope ℕ) (next : ℕ) (q : Kind) → Named F s l next
    → HasKind (globals_of F.source F.sigs) s e q → At F.kinds next (kinds F.source F.sigs s e)
    → local_of F.source e l next < next → 1 ≤ taken loans (named l (local_of F.source e l next)) e
old_taken F loans (Var n) s l next q st has at less =
    let r = named_local F s l next n.word q st has in
    let x_is : local l n ≡ r.x = ap (λ o. or_else o 0) r.found in
    let counted = found_named l n.word r.x (local l n) r.found in
    let own = one_same r.x (local l n) (sym x_is) in
    omega (arith, counted, own)
old_taken F loans (Num z l0) s l next q st has at less = absurd (omega (arith, less))
old_taken F loans (Truth t l0) s l next q st has at less = absurd (omega (arith, less))
old_taken F loans (Prim op a b l0) s l next q st has at less = absurd (omega (arith, less))
old_taken F loans (Build c es place) s l next q st has at less = absurd (omega (arith, less))
old_taken F loans (Call f es) s l next q st has at less = absurd (omega (arith, less))
old_taken F loans (If c a b l0) s l next q st has at less = absurd (omega (arith, less))
old_taken F loans (Match e as' l0) s l next q st has at less = absurd (omega (arith, less))
old_taken F loans (Let n a b) s l next q st has at less =
    let p = F.source in
    let r = kind_in p F.sigs s a in
    let na = next + made p a in
    let xa = local_of p a l next in
    let ka = kinds_made F a s has.0 has.1 in
    let at_a = at_front F.kinds next (kinds p F.sigs s a) (kinds p F.sigs (bind n.word r s) b) at in
    let first = local_is F a s l next has.0 st has.1 at_a in
    let own = old_taken F loans b (bind n.word r s) (bind n.word xa l) na q
    (named_bind F s l na n.word r xa (named_kept F s l next na st (omega arith)) (first.kind ∙ ap Some (kind_is F a s has.0 has.1)) first.below)
    (in_let F s n a b has.0 q has.1 has.2) (at_back F.kinds next na (kinds p F.sigs s a) (kinds p F.sigs (bind n.word r s) b) (omega (arith, ka)) at) (omega (arith, less)) in
    either (local_of p b (bind n.word xa l) na) xa less own (old_taken F loans a s l next has.0 st has.1 at_a) (same_or_not xa (local_of p b (bind n.word xa l) na))
  where
    either : (y xa : ℕ) → y < next → 1 ≤ taken loans (named (bind n.word xa l) y) b → (xa < next → 1 ≤ taken loans (named l xa) a) → (xa ≡ y) ⊎ (xa ≡ y → ⊥)
        → 1 ≤ taken loans (named l y) a + taken loans (without n (named l y)) b
    either y xa less own first (inl same) = let k = subst (λ z. 1 ≤ taken loans (named l z) a) same (first (omega (arith, less, same))) in omega (arith, k)
    either y xa less own first (inr differ) = let k = fewer_taken loans (named (bind n.word xa l) y) (without n (named l y)) b (bound_else l n xa y differ) in omega (arith, k, own)

-- The local of an expression is no other that is still wanted: what stands behind it counts together with it.
pub local_once : (F : Frame) (loans : Loans) (e : Expression) (s : Scope Kind) (l : Scope ℕ) (next : ℕ) (q : Kind) (y n : ℕ) → Named F s l next
    → HasKind (globals_of F.source F.sigs) s e q → At F.kinds next (kinds F.source F.sigs s e)
    → taken loans (named l y) e + n ≤ 1 → (next ≤ y → n ≡ 0) → one (local_of F.source e l next) y + n ≤ 1
local_once F loans e s l next q y n st has at once zero =
    either (local_of F.source e l next) (old_taken F loans e s l next q st has at) (same_or_not (local_of F.source e l next) y)
  where
    either : (x : ℕ) → (x < next → 1 ≤ taken loans (named l x) e) → (x ≡ y) ⊎ (x ≡ y → ⊥) → one x y + n ≤ 1
    either x old (inr differ) = let k = one_other x y differ in omega (arith, k, once)
    either x old (inl same) = by_order x old same (nat_lt x next) refl
      where
        by_order : (x : ℕ) → (x < next → 1 ≤ taken loans (named l x) e) → x ≡ y → (b : Bool) → nat_lt x next ≡ b → one x y + n ≤ 1
        by_order x old same true t =
            let less : x < next = grind (arith, nat_tests, t) in
            let k = subst (λ z. 1 ≤ taken loans (named l z) e) same (old less) in
            let most = one_most x y in
            omega (arith, k, once, most)
        by_order x old same false t =
            let more : next ≤ x = grind (arith, nat_tests, t) in
            let k = zero (omega (arith, more, same)) in
            let most = one_most x y in
            omega (arith, k, most)
