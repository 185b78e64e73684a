-- Lists around one of their entries, and where places begin.
use Rattle.std.proofs.Common.{◌≡◌, ℕ, zero, suc, ◌+◌, ◌-◌, ◌*◌, ◌<◌, ◌≤◌, List, [], ◌∷◌, ◌++◌, length, refl, ap, arith}
use Rattle.std.specs.Prelude.{Some, slice_get, slice_set}
use native.Mathlib.Nat.{add-mul}

-- a list with an entry at this place: what stands before it and behind it
pub record Around {X : Type 0} (xs : List X) (i : ℕ) : Type 0 where
  pub entry : X
  pub before : List X
  pub behind : List X
  pub place : length before ≡ i
  pub list : xs ≡ before ++ entry ∷ behind
  pub got : slice_get xs i ≡ Some entry
  pub put : (x : X) → slice_set xs i x ≡ before ++ x ∷ behind
  pub long : (x : X) → length (slice_set xs i x) ≡ length xs

pub around : {X : Type 0} (xs : List X) (i : ℕ) → i < length xs → Around xs i
around [] i lt = absurd (omega arith)
around (x ∷ xs) zero lt = record { entry = x; before = []; behind = xs; place = refl; list = refl; got = refl; put = λ y. refl; long = λ y. refl }
around (x ∷ xs) (suc i) lt =
    let a = around xs i (omega arith) in
    record {
      entry = a.entry;
      before = x ∷ a.before;
      behind = a.behind;
      place = ap suc a.place;
      list = ap (λ l. x ∷ l) a.list;
      got = a.got;
      put = λ y. ap (λ l. x ∷ l) (a.put y);
      long = λ y. ap suc (a.long y);
    }

-- the place of an index that is counted from the block's start, in a run from `first` on
pub place_of : (first index size o : ℕ) → first ≤ index → index * size + o ≡ (index - first) * size + (first * size + o)
place_of first index size o le =
    let same : index ≡ (index - first) + first = omega arith in
    let parts : ((index - first) + first) * size ≡ (index - first) * size + first * size = add-mul (index - first) first size in
    omega (arith, ap (λ (n : ℕ). n * size) same, parts)

-- the place behind the first so many of a run
pub place_behind : (first n size o : ℕ) → (first + n) * size + o ≡ n * size + (first * size + o)
place_behind first n size o = let parts : (first + n) * size ≡ first * size + n * size = add-mul first n size in omega (arith, parts)
