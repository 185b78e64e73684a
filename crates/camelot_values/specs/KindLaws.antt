-- Laws, for the proofs of this crate and of those above it.
-- Laws of constructors and their numbers, through the types in order.
use Rattle.std.proofs.Common.{◌≡◌, ℕ, zero, suc, ◌+◌, ◌-◌, ◌<◌, ◌≤◌, Bool, true, false, List, [], ◌∷◌, ◌++◌, length, Some, None, refl, sym, ap, ◌∙◌, arith}
use Rattle.std.specs.Prelude.{slice_get, nat_lt, if◌then◌else◌}
use Rattle.std.proofs.lemmas.Bool.Decides.{nat_tests}
use Rattle.camelot_values.specs.Kinds.{Constructor, DataType, constructors, constructor, type_from, place_of}

pub slice_get_front : {A : Type 0} (xs ys : List A) (k : ℕ) → k < length xs → slice_get (xs ++ ys) k ≡ slice_get xs k
slice_get_front [] ys k h = absurd (omega arith)
slice_get_front (x ∷ xs) ys zero h = refl
slice_get_front (x ∷ xs) ys (suc k) h = slice_get_front xs ys k (omega arith)

pub slice_get_behind : {A : Type 0} (xs ys : List A) (k : ℕ) → length xs ≤ k → slice_get (xs ++ ys) k ≡ slice_get ys (k - length xs)
slice_get_behind [] ys k h = ap (slice_get ys) (omega arith)
slice_get_behind (x ∷ xs) ys zero h = absurd (omega arith)
slice_get_behind (x ∷ xs) ys (suc k) h = slice_get_behind xs ys k (omega arith) ∙ ap (slice_get ys) (omega arith)

-- ---- where a constructor stands

-- the i-th type has the constructor at this place
pub record Located (types : List DataType) (first c t : ℕ) (con : Constructor) : Type 0 where
  pub index : ℕ
  pub def : DataType
  pub place : ℕ
  pub number : t ≡ first + index
  pub is : slice_get types index ≡ Some def
  pub place_is : place_of types c ≡ Some place
  pub con_is : slice_get def.cons place ≡ Some con

pub located : (first : ℕ) (types : List DataType) (c t : ℕ) (con : Constructor) → constructor types c ≡ Some con → type_from first types c ≡ Some t
    → Located types first c t con
located first [] c t con e h = let k : None ≡ Some t = h in absurd cc
located first (d ∷ ds) c t con e h = by_test (nat_lt c (length d.cons)) refl (located (suc first) ds (c - length d.cons) t con) h
  where
    here : (nat_lt c (length d.cons)) ≡ true → first ≡ t → Located (d ∷ ds) first c t con
    here b same =
        let less : c < length d.cons = grind (arith, nat_tests, b) in
        record {
          index = 0;
          def = d;
          place = c;
          number = sym same ∙ omega arith;
          is = refl;
          place_is = ap (λ u. if u then Some c else place_of ds (c - length d.cons)) b;
          con_is = sym (slice_get_front d.cons (constructors ds) c less) ∙ e;
        }

    later : (nat_lt c (length d.cons)) ≡ false → Located ds (suc first) (c - length d.cons) t con → Located (d ∷ ds) first c t con
    later b l = record {
      index = suc l.index;
      def = l.def;
      place = l.place;
      number = l.number ∙ omega arith;
      is = l.is;
      place_is = ap (λ u. if u then Some c else place_of ds (c - length d.cons)) b ∙ l.place_is;
      con_is = l.con_is;
    }

    by_test : (b : Bool) → nat_lt c (length d.cons) ≡ b
        → (constructor ds (c - length d.cons) ≡ Some con → type_from (suc first) ds (c - length d.cons) ≡ Some t → Located ds (suc first) (c - length d.cons) t con)
        → (if b then Some first else type_from (suc first) ds (c - length d.cons)) ≡ Some t → Located (d ∷ ds) first c t con
    by_test true b rec k = here b cc
    by_test false b rec k =
        let more : length d.cons ≤ c = grind (arith, nat_tests, b) in
        later b (rec (sym (slice_get_behind d.cons (constructors ds) c more) ∙ e) k)
