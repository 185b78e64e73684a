-- How many rows a list of checks leaves: which checks leave one, and which none.
use Rattle.std.proofs.Common.{◌≡◌, ◌⊎◌, ℕ, suc, ◌+◌, Bool, true, false, ℤ, pos, negsuc, List, [], ◌∷◌, ◌++◌, length, map, IsTrue, refl, sym, ap, ◌∙◌, subst, arith, inl, inr}
use Rattle.std.specs.Prelude.{◌-ℤ◌, ◌&&◌, ◌==◌, cond, if◌then◌else◌, Option, Some}
use Rattle.std.specs.List.{filter}
use Rattle.std.proofs.lemmas.Int.{ints}
use Rattle.camelot_values.specs.Kinds.{DataType}
use Rattle.camelot_values.specs.Lists.{is_among}
use Rattle.camelot_values.specs.declared.kinds.Kind.{Kind}
use Rattle.licence.specs.Books.{Units}
use Rattle.licence.specs.Checks.{Check, Site, value_checks}
use Rattle.lp_system.specs.Unknowns.{Unknown, Need, Back, Param, Result, BlockNeed, BlockVar, Made, same, is_listed, carriers}
use Rattle.lp_system.specs.Forms.{Form, once, is_zero, terms_from, row_of, has_terms, is_positive, asks}
use Rattle.lp_system.specs.theory.Listing.{same_itself, among_here, among_later, listed_here, listed_later}
use Rattle.lp_system.specs.theory.Values.{same_is}
use Rattle.lp_size.specs.declared.origins.Origin.{Origin}
use Rattle.lp_size.specs.declared.origins.Origin.TheVariants as origin
use Rattle.lp_size.specs.Counting.{same_origin, value_rows}
use Rattle.lp_size.proofs.Tests.{or_first, or_split, or_neither, and_both, and_left, and_right, not_both, itself, are_equal}

-- ---- rows

abbrev pub kept : List Unknown → List (Check Form) → ℕ
kept us checks = length (filter asks (map (row_of us) checks))

pub kept_append : (us : List Unknown) (xs ys : List (Check Form)) → kept us (xs ++ ys) ≡ kept us xs + kept us ys
kept_append us [] ys = omega arith
kept_append us (a ∷ xs) ys = by_test (asks (row_of us a)) (kept_append us xs ys)
  where
    by_test : (t : Bool) → kept us (xs ++ ys) ≡ kept us xs + kept us ys
        → length (cond t (row_of us a ∷ filter asks (map (row_of us) (xs ++ ys))) (filter asks (map (row_of us) (xs ++ ys)))) ≡ length (cond t (row_of us a ∷ filter asks (map (row_of us) xs)) (filter asks (map (row_of us) xs))) + kept us ys
    by_test true e = omega (arith, e)
    by_test false e = e

pub one_kept : (us : List Unknown) (a : Check Form) → asks (row_of us a) ≡ true → kept us (a ∷ []) ≡ 1
one_kept us a e = ap (λ t. length (cond t (row_of us a ∷ []) [])) e

pub none_kept : (us : List Unknown) (a : Check Form) → asks (row_of us a) ≡ false → kept us (a ∷ []) ≡ 0
none_kept us a e = ap (λ t. length (cond t (row_of us a ∷ []) [])) e

has_term : (number : ℕ) (us : List Unknown) (factor : Unknown → ℤ) (u : Unknown) → IsTrue (is_listed us u) → is_zero (factor u) ≡ false
    → has_terms (terms_from number us factor) ≡ true
has_term number [] factor u h k = absurd cc
has_term number (v ∷ us) factor u h k = by_test (has_term (suc number) us factor u) (is_zero (factor v)) refl
  where
    by_place : (IsTrue (is_listed us u) → is_zero (factor u) ≡ false → has_terms (terms_from (suc number) us factor) ≡ true)
        → is_zero (factor v) ≡ true → (same u v ≡ true) ⊎ (is_listed us u ≡ true) → has_terms (terms_from (suc number) us factor) ≡ true
    by_place rest e (inl d) = absurd (not_both (is_zero (factor u)) (ap (λ w. is_zero (factor w)) (same_is u v d) ∙ e) k)
    by_place rest e (inr d) = rest d k

    by_test : (IsTrue (is_listed us u) → is_zero (factor u) ≡ false → has_terms (terms_from (suc number) us factor) ≡ true) → (t : Bool)
        → is_zero (factor v) ≡ t
        → has_terms (cond t (terms_from (suc number) us factor) (record { unknown = number; factor = factor v } ∷ terms_from (suc number) us factor)) ≡ true
    by_test rest true e = by_place rest e (or_split (same u v) (is_listed us u) h)
    by_test rest false e = refl

no_terms : (number : ℕ) (us : List Unknown) (factor : Unknown → ℤ) → ((u : Unknown) → is_zero (factor u) ≡ true)
    → has_terms (terms_from number us factor) ≡ false
no_terms number [] factor h = refl
no_terms number (v ∷ us) factor h = ap (λ t. has_terms (cond t (terms_from (suc number) us factor) (record { unknown = number; factor = factor v } ∷ terms_from (suc number) us factor))) (h v) ∙ no_terms (suc number) us factor h

-- where no unknown that is listed has a factor
no_listed : (number : ℕ) (us : List Unknown) (factor : Unknown → ℤ) → ((u : Unknown) → IsTrue (is_listed us u) → is_zero (factor u) ≡ true)
    → has_terms (terms_from number us factor) ≡ false
no_listed number [] factor h = refl
no_listed number (v ∷ us) factor h =
    ap (λ t. has_terms (cond t (terms_from (suc number) us factor) (record { unknown = number; factor = factor v } ∷ terms_from (suc number) us factor))) (h v (listed_here v us))
    ∙ no_listed (suc number) us factor (λ u k. h u (listed_later u v us k))

-- a listed unknown is on one side, and not as often on the other
pub row_by : (us : List Unknown) (a : Check Form) (u : Unknown) → IsTrue (is_listed us u) → is_zero (a.have.factor u -ℤ a.need.factor u) ≡ false
    → kept us (a ∷ []) ≡ 1
row_by us a u h k = one_kept us a (or_first (has_terms (row_of us a).terms) (is_positive (row_of us a).least) (has_term 0 us (λ v. a.have.factor v -ℤ a.need.factor v) u h k))

-- both sides are the same
pub no_row : (us : List Unknown) (a : Check Form) → ((u : Unknown) → a.have.factor u ≡ a.need.factor u) → a.have.constant ≡ a.need.constant
    → kept us (a ∷ []) ≡ 0
no_row us a h k = none_kept us a (or_neither (has_terms (row_of us a).terms) (is_positive (row_of us a).least) (no_terms 0 us (λ v. a.have.factor v -ℤ a.need.factor v) zeros) least)
  where
    zeros : (u : Unknown) → is_zero (a.have.factor u -ℤ a.need.factor u) ≡ true
    zeros u = let e : a.have.factor u -ℤ a.need.factor u ≡ pos 0 = omega (arith, ints, h u) in ap is_zero e

    least : is_positive (a.need.constant -ℤ a.have.constant) ≡ false
    least = let e : a.need.constant -ℤ a.have.constant ≡ pos 0 = omega (arith, ints, k) in ap is_positive e

-- ---- single unknowns

pub once_itself : (u : Unknown) → (once u).factor u ≡ pos 1
once_itself u = ap (λ t. if t then pos 1 else pos 0) (same_itself u)

pub once_other : (u v : Unknown) → (u ≡ v → ⊥) → (once u).factor v ≡ pos 0
once_other u v h = by_test (same u v) refl
  where
    by_test : (t : Bool) → same u v ≡ t → (if t then pos 1 else pos 0) ≡ pos 0
    by_test true e = absurd (h (same_is u v e))
    by_test false e = refl

-- an unknown that isn't listed stands in none that is
once_off : (us : List Unknown) (u v : Unknown) → is_listed us u ≡ false → IsTrue (is_listed us v) → (once u).factor v ≡ pos 0
once_off us u v off h = once_other u v (λ e. not_both (is_listed us v) h (ap (is_listed us) (sym e) ∙ off))

-- ---- values

abbrev pub unknown_at : Origin → ℕ → Unknown
unknown_at (origin.Param f x) c = Param f x c
unknown_at (origin.Result f) c = Result f c
unknown_at (origin.BlockVar f b x) c = BlockVar f b x c
unknown_at (origin.Made f b n) c = Made f b n c

abbrev pub units_of : Origin → Units Form
units_of o = λ c. once (unknown_at o c)

-- none of its units is listed
abbrev pub IsOff : List Unknown → Origin → Type 0
IsOff us o = (c : ℕ) → is_listed us (unknown_at o c) ≡ false

abbrev origin_of : Unknown → Origin
origin_of (Need f) = origin.Result f
origin_of (Back f) = origin.Result f
origin_of (Param f x c) = origin.Param f x
origin_of (Result f c) = origin.Result f
origin_of (BlockNeed f b) = origin.Result f
origin_of (BlockVar f b x c) = origin.BlockVar f b x
origin_of (Made f b n c) = origin.Made f b n

again : (o : Origin) (c : ℕ) → origin_of (unknown_at o c) ≡ o
again (origin.Param f x) c = refl
again (origin.Result f) c = refl
again (origin.BlockVar f b x) c = refl
again (origin.Made f b n) c = refl

origin_itself : (o : Origin) → same_origin o o ≡ true
origin_itself (origin.Param f x) = and_both (f == f) (x == x) (itself f) (itself x)
origin_itself (origin.Result f) = itself f
origin_itself (origin.BlockVar f b x) = and_both (f == f) ((b == b) && (x == x)) (itself f) (and_both (b == b) (x == x) (itself b) (itself x))
origin_itself (origin.Made f b n) = and_both (f == f) ((b == b) && (n == n)) (itself f) (and_both (b == b) (n == n) (itself b) (itself n))

triple : (make : ℕ → ℕ → ℕ → Origin) (f b x g c y : ℕ) → ((f == g) && ((b == c) && (x == y))) ≡ true → make f b x ≡ make g c y
triple make f b x g c y e =
    let rest : ((b == c) && (x == y)) ≡ true = and_right (f == g) ((b == c) && (x == y)) e in
    ap (λ z. make z b x) (are_equal f g (and_left (f == g) ((b == c) && (x == y)) e))
    ∙ ap (λ z. make g z x) (are_equal b c (and_left (b == c) (x == y) rest))
    ∙ ap (λ z. make g c z) (are_equal x y (and_right (b == c) (x == y) rest))

origin_is : (o p : Origin) → same_origin o p ≡ true → o ≡ p
origin_is (origin.Param f x) (origin.Param g y) e = ap (λ z. origin.Param z x) (are_equal f g (and_left (f == g) (x == y) e)) ∙ ap (λ z. origin.Param g z) (are_equal x y (and_right (f == g) (x == y) e))
origin_is (origin.Result f) (origin.Result g) e = ap (λ z. origin.Result z) (are_equal f g e)
origin_is (origin.BlockVar f b x) (origin.BlockVar g c y) e = triple (λ u v w. origin.BlockVar u v w) f b x g c y e
origin_is (origin.Made f b x) (origin.Made g c y) e = triple (λ u v w. origin.Made u v w) f b x g c y e
origin_is (origin.Param f x) (origin.Result g) e = absurd cc
origin_is (origin.Param f x) (origin.BlockVar g c y) e = absurd cc
origin_is (origin.Param f x) (origin.Made g c y) e = absurd cc
origin_is (origin.Result f) (origin.Param g y) e = absurd cc
origin_is (origin.Result f) (origin.BlockVar g c y) e = absurd cc
origin_is (origin.Result f) (origin.Made g c y) e = absurd cc
origin_is (origin.BlockVar f b x) (origin.Param g y) e = absurd cc
origin_is (origin.BlockVar f b x) (origin.Result g) e = absurd cc
origin_is (origin.BlockVar f b x) (origin.Made g c y) e = absurd cc
origin_is (origin.Made f b x) (origin.Param g y) e = absurd cc
origin_is (origin.Made f b x) (origin.Result g) e = absurd cc
origin_is (origin.Made f b x) (origin.BlockVar g c y) e = absurd cc

apart : (o p : Origin) (c : ℕ) → same_origin o p ≡ false → unknown_at o c ≡ unknown_at p c → ⊥
apart o p c e d = let q : o ≡ p = sym (again o c) ∙ ap origin_of d ∙ again p c in not_both (same_origin o p) (subst (λ r. same_origin o r ≡ true) q (origin_itself o)) e

module _ (us : List Unknown) (s : Site) where
  -- of a value, on a constructor
  abbrev on : Origin → Origin → ℕ → Check Form
  on have need c = record { func = s.func; block = s.block; place = s.place; con = Some c; have = units_of have c; need = units_of need c }

  same_value : (o : Origin) (cs : List ℕ) → kept us (map (on o o) cs) ≡ 0
  same_value o [] = refl
  same_value o (c ∷ cs) = let e = no_row us (on o o c) (λ u. refl) refl in let d = same_value o cs in kept_append us (on o o c ∷ []) (map (on o o) cs) ∙ omega (arith, e, d)

  other_value : (have need : Origin) → same_origin have need ≡ false → (cs : List ℕ)
      → ((c : ℕ) → IsTrue (is_among cs c) → IsTrue (is_listed us (unknown_at need c))) → kept us (map (on have need) cs) ≡ length cs
  other_value have need a [] h = refl
  other_value have need a (c ∷ cs) h =
      let none : (once (unknown_at have c)).factor (unknown_at need c) ≡ pos 0 = once_other (unknown_at have c) (unknown_at need c) (apart have need c a) in
      let one : (once (unknown_at need c)).factor (unknown_at need c) ≡ pos 1 = once_itself (unknown_at need c) in
      let less : (once (unknown_at have c)).factor (unknown_at need c) -ℤ (once (unknown_at need c)).factor (unknown_at need c) ≡ negsuc 0 = omega (arith, ints, none, one) in
      let e : kept us (on have need c ∷ []) ≡ 1 = row_by us (on have need c) (unknown_at need c) (h c (among_here c cs)) (ap is_zero less) in
      let d : kept us (map (on have need) cs) ≡ length cs = other_value have need a cs (λ x k. h x (among_later x c cs k)) in
      kept_append us (on have need c ∷ []) (map (on have need) cs) ∙ omega (arith, e, d)

  off_value : (have need : Origin) (cs : List ℕ) → IsOff us have → IsOff us need → kept us (map (on have need) cs) ≡ 0
  off_value have need [] h k = refl
  off_value have need (c ∷ cs) h k =
      let first : kept us (on have need c ∷ []) ≡ 0 = none_kept us (on have need c)
      (or_neither (has_terms (row_of us (on have need c)).terms) (is_positive (row_of us (on have need c)).least) (no_listed 0 us (λ v. (on have need c).have.factor v -ℤ (on have need c).need.factor v) zeros) least) in
      let rest = off_value have need cs h k in
      kept_append us (on have need c ∷ []) (map (on have need) cs) ∙ omega (arith, first, rest)
    where
      zeros : (u : Unknown) → IsTrue (is_listed us u) → is_zero ((on have need c).have.factor u -ℤ (on have need c).need.factor u) ≡ true
      zeros u m =
          let a = once_off us (unknown_at have c) u (h c) m in
          let b = once_off us (unknown_at need c) u (k c) m in
          let e : (on have need c).have.factor u -ℤ (on have need c).need.factor u ≡ pos 0 = omega (arith, ints, a, b) in ap is_zero e

      least : is_positive ((on have need c).need.constant -ℤ (on have need c).have.constant) ≡ false
      least = let e : (on have need c).need.constant -ℤ (on have need c).have.constant ≡ pos 0 = omega (arith, ints) in ap is_positive e

  -- A value of which nothing is listed leaves no row.
  pub nothing_kept : (types : List DataType) (q : Option Kind) (have need : Origin) → IsOff us have → IsOff us need
      → kept us (value_checks types s q (units_of have) (units_of need)) ≡ 0
  nothing_kept types q have need h k = off_value have need (carriers types q) h k

  -- A value leaves a row for each constructor that its kind reaches, or none.
  pub value_kept : (types : List DataType) (q : Option Kind) (have need : Origin)
      → ((c : ℕ) → IsTrue (is_among (carriers types q) c) → IsTrue (is_listed us (unknown_at need c)))
      → kept us (value_checks types s q (units_of have) (units_of need)) ≡ value_rows types q have need
  value_kept types q have need h = by_test (same_origin have need) refl
    where
      by_test : (t : Bool) → same_origin have need ≡ t → kept us (map (on have need) (carriers types q)) ≡ (if t then 0 else length (carriers types q))
      by_test true e = subst (λ o. kept us (map (on have o) (carriers types q)) ≡ 0) (origin_is have need e) (same_value have (carriers types q))
      by_test false e = other_value have need e (carriers types q) h
