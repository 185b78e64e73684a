-- Laws, for the proofs of this crate and of those above it.
-- Taking and giving cells: where the runs lie, and that what holds of each cell at its index goes on to hold.
use Rattle.std.proofs.Common.{◌≡◌, ℕ, zero, suc, ◌+◌, ◌-◌, ◌≤◌, ◌==◌, nat_le, nat_lt, Bool, true, false, if◌then◌else◌, ◌⊎◌, inl, inr, List, [], ◌∷◌, ◌++◌, length, take, drop, map, Option, Some, None, refl, sym, ap, ◌∙◌, subst, arith, length-append, length-drop, length-take-le}
use Rattle.std.specs.Prelude.{slice_get, IsTrue}
use Rattle.std.specs.Option.{option_map}
use Rattle.cell_span.specs.declared.cell.Cell.{Cell}
use Rattle.cell_span.specs.Range.{Range, front, back, joined}
use Rattle.hole_list.specs.declared.run.Run.{Run}
use Rattle.hole_list.specs.Placing.{run, end_of, taken, rest_of_run, behind, take_run, both, give_run}
use Rattle.hole_list.specs.Holes.{run_of, TakenCells, taken_cells, rest_of, behind_cells, take_cells, give_cells, AllPass}
use Rattle.hole_list.specs.PlacingLaws.{some_same}

-- ---- where they lie

front_run : (h : Range) (size : ℕ) → size ≤ length h.cells → run_of (front h size) ≡ run h.first size
front_run h size few = ap (λ n. run h.first n) (length-take-le size h.cells few)

rest_runs : (h : Range) (size : ℕ) (hs : List Range) → map run_of (rest_of h size hs) ≡ rest_of_run (run_of h) size (map run_of hs)
rest_runs h size hs = by_test (length h.cells == size)
  where
    by_test : (b : Bool) → map run_of (if b then hs else back h size ∷ hs) ≡ (if b then map run_of hs else run (h.first + size) (length h.cells - size) ∷ map run_of hs)
    by_test true = refl
    by_test false = ap (λ n. run (h.first + size) n ∷ map run_of hs) (length-drop size h.cells)

-- what is taken of the cells is what is taken of the runs
pub taken_runs : (hs : List Range) (size : ℕ) (t : TakenCells) → take_cells hs size ≡ Some t
    → (take_run (map run_of hs) size ≡ Some (taken (run_of t.range) (map run_of t.holes))) × (length t.range.cells ≡ size)
taken_runs [] size t e = absurd (grind arith)
taken_runs (h ∷ hs) size t e = by_test (λ u is. taken_runs hs size u is) (nat_le size (length h.cells)) refl e
  where
    by_rest : (o : Option TakenCells)
        → ((u : TakenCells) → o ≡ Some u → (take_run (map run_of hs) size ≡ Some (taken (run_of u.range) (map run_of u.holes))) × (length u.range.cells ≡ size))
        → option_map (behind_cells h) o ≡ Some t
        → (option_map (behind (run_of h)) (take_run (map run_of hs) size) ≡ Some (taken (run_of t.range) (map run_of t.holes))) × (length t.range.cells ≡ size)
    by_rest None k is = absurd (grind arith)
    by_rest (Some u) k is =
        let q = k u refl in
        subst (λ (v : TakenCells). (option_map (behind (run_of h)) (take_run (map run_of hs) size) ≡ Some (taken (run_of v.range) (map run_of v.holes))) × (length v.range.cells ≡ size))
        (some_same (behind_cells h u) t is) (ap (option_map (behind (run_of h))) q.0, q.1)

    by_test : ((u : TakenCells) → take_cells hs size ≡ Some u → (take_run (map run_of hs) size ≡ Some (taken (run_of u.range) (map run_of u.holes))) × (length u.range.cells ≡ size))
        → (b : Bool) → nat_le size (length h.cells) ≡ b
        → (if b then Some (taken_cells (front h size) (rest_of h size hs)) else option_map (behind_cells h) (take_cells hs size)) ≡ Some t
        → ((if b then Some (taken (run h.first size) (rest_of_run (run_of h) size (map run_of hs))) else option_map (behind (run_of h)) (take_run (map run_of hs) size))
        ≡ Some (taken (run_of t.range) (map run_of t.holes))) × (length t.range.cells ≡ size)
    by_test next true fits is =
        let few : size ≤ length h.cells = grind arith in
        subst (λ (v : TakenCells). (Some (taken (run h.first size) (rest_of_run (run_of h) size (map run_of hs))) ≡ Some (taken (run_of v.range) (map run_of v.holes))) × (length v.range.cells ≡ size))
        (some_same (taken_cells (front h size) (rest_of h size hs)) t is)
        (λ i. Some (taken (sym (front_run h size few) i) (sym (rest_runs h size hs) i)), length-take-le size h.cells few)
    by_test next false fits is = by_rest (take_cells hs size) next is

pub not_taken : (hs : List Range) (size : ℕ) → take_cells hs size ≡ None → take_run (map run_of hs) size ≡ None
not_taken [] size e = refl
not_taken (h ∷ hs) size e = by_test (λ is. not_taken hs size is) (nat_le size (length h.cells)) e
  where
    by_rest : (o : Option TakenCells) → option_map (behind_cells h) o ≡ None → o ≡ None
    by_rest None is = refl
    by_rest (Some u) is = absurd (grind arith)

    by_test : (take_cells hs size ≡ None → take_run (map run_of hs) size ≡ None)
        → (b : Bool) → (if b then Some (taken_cells (front h size) (rest_of h size hs)) else option_map (behind_cells h) (take_cells hs size)) ≡ None
        → (if b then Some (taken (run h.first size) (rest_of_run (run_of h) size (map run_of hs))) else option_map (behind (run_of h)) (take_run (map run_of hs) size)) ≡ None
    by_test next true is = absurd (grind arith)
    by_test next false is = ap (option_map (behind (run_of h))) (next (by_rest (take_cells hs size) is))

joined_run : (r s : Range) → run_of (joined r s) ≡ both (run_of r) (run_of s)
joined_run r s = ap (λ n. run r.first n) (length-append r.cells s.cells)

pub given_runs : (hs : List Range) (r : Range) → map run_of (give_cells hs r) ≡ give_run (map run_of hs) (run_of r)
given_runs [] r = refl
given_runs (h ∷ hs) r = by_tests (λ s. given_runs hs s) (nat_lt (end_of (run_of r)) h.first) (end_of (run_of r) == h.first) (end_of (run_of h) == r.first)
  where
    by_tests : ((s : Range) → map run_of (give_cells hs s) ≡ give_run (map run_of hs) (run_of s)) → (b c d : Bool)
        → map run_of (if b then r ∷ h ∷ hs else if c then joined r h ∷ hs else if d then give_cells hs (joined h r) else h ∷ give_cells hs r)
        ≡ (if b then run_of r ∷ run_of h ∷ map run_of hs
        else if c then both (run_of r) (run_of h) ∷ map run_of hs
        else if d then give_run (map run_of hs) (both (run_of h) (run_of r)) else run_of h ∷ give_run (map run_of hs) (run_of r))
    by_tests next true c d = refl
    by_tests next false true d = ap (λ (s : Run). s ∷ map run_of hs) (joined_run r h)
    by_tests next false false true = next (joined h r) ∙ ap (give_run (map run_of hs)) (joined_run h r)
    by_tests next false false false = ap (λ (ss : List Run). run_of h ∷ ss) (next r)

-- ---- what holds of each cell

-- each cell of the range, at its index
abbrev pub OfCells : (ℕ → Cell → Type 0) → Range → Type 0
OfCells P r = (at : ℕ) (cell : Cell) → slice_get r.cells at ≡ Some cell → P (r.first + at) cell

abbrev pub OfAll : (ℕ → Cell → Type 0) → List Range → Type 0
OfAll P [] = Unit {0}
OfAll P (h ∷ hs) = OfCells P h × OfAll P hs

get_take : {A : Type 0} (n : ℕ) (xs : List A) (at : ℕ) (x : A) → slice_get (take n xs) at ≡ Some x → slice_get xs at ≡ Some x
get_take zero [] at x e = e
get_take (suc n) [] at x e = e
get_take zero (y ∷ xs) at x e = absurd (grind arith)
get_take (suc n) (y ∷ xs) zero x e = e
get_take (suc n) (y ∷ xs) (suc at) x e = get_take n xs at x e

get_drop : {A : Type 0} (n : ℕ) (xs : List A) (at : ℕ) → slice_get (drop n xs) at ≡ slice_get xs (n + at)
get_drop zero xs at = ap (slice_get xs) (omega arith)
get_drop (suc n) [] at = refl
get_drop (suc n) (y ∷ xs) at = get_drop n xs at ∙ ap (slice_get (y ∷ xs)) (let e : suc (n + at) ≡ suc n + at = omega arith in e)

-- an element of two lists is one of the first or of the second
pub get_both : {A : Type 0} (xs ys : List A) (at : ℕ) (x : A) → slice_get (xs ++ ys) at ≡ Some x
    → (slice_get xs at ≡ Some x) ⊎ ((k : ℕ) × (at ≡ length xs + k) × (slice_get ys k ≡ Some x))
get_both [] ys at x e = inr (at, omega arith, e)
get_both (y ∷ xs) ys zero x e = inl e
get_both (y ∷ xs) ys (suc at) x e = by_rest (get_both xs ys at x e)
  where
    by_rest : (slice_get xs at ≡ Some x) ⊎ ((k : ℕ) × (at ≡ length xs + k) × (slice_get ys k ≡ Some x))
        → (slice_get xs at ≡ Some x) ⊎ ((k : ℕ) × (suc at ≡ suc (length xs) + k) × (slice_get ys k ≡ Some x))
    by_rest (inl f) = inl f
    by_rest (inr (k, is, f)) = inr (k, omega (arith, is), f)

module _ (P : ℕ → Cell → Type 0) where
  of_front : (h : Range) (n : ℕ) → OfCells P h → OfCells P (front h n)
  of_front h n k = λ at cell e. k at cell (get_take n h.cells at cell e)

  of_back : (h : Range) (n : ℕ) → OfCells P h → OfCells P (back h n)
  of_back h n k = λ at cell e. subst (λ i. P i cell) (let q : h.first + (n + at) ≡ (h.first + n) + at = omega arith in q) (k (n + at) cell (sym (get_drop n h.cells at) ∙ e))

  of_joined : (r s : Range) → r.first + length r.cells ≡ s.first → OfCells P r → OfCells P s → OfCells P (joined r s)
  of_joined r s meet k l = λ at cell e. by_part at cell (get_both r.cells s.cells at cell e)
    where
      by_part : (at : ℕ) (cell : Cell) → (slice_get r.cells at ≡ Some cell)
          ⊎ ((m : ℕ) × (at ≡ length r.cells + m) × (slice_get s.cells m ≡ Some cell)) → P (r.first + at) cell
      by_part at cell (inl e) = k at cell e
      by_part at cell (inr (m, is, e)) = subst (λ i. P i cell) (let q : s.first + m ≡ r.first + at = omega (arith, meet, is) in q) (l m cell e)

  of_rest : (h : Range) (size : ℕ) (hs : List Range) → OfCells P h → OfAll P hs → OfAll P (rest_of h size hs)
  of_rest h size hs k l = by_test (length h.cells == size)
    where
      by_test : (b : Bool) → OfAll P (if b then hs else back h size ∷ hs)
      by_test true = l
      by_test false = (of_back h size k, l)

  pub taken_all : (hs : List Range) (size : ℕ) (t : TakenCells) → take_cells hs size ≡ Some t → OfAll P hs → OfCells P t.range × OfAll P t.holes
  taken_all [] size t e k = absurd (grind arith)
  taken_all (h ∷ hs) size t e k = by_test (λ u is. taken_all hs size u is k.1) (nat_le size (length h.cells)) e
    where
      by_rest : (o : Option TakenCells) → ((u : TakenCells) → o ≡ Some u → OfCells P u.range × OfAll P u.holes) → option_map (behind_cells h) o ≡ Some t
          → OfCells P t.range × OfAll P t.holes
      by_rest None next is = absurd (grind arith)
      by_rest (Some u) next is = subst (λ (v : TakenCells). OfCells P v.range × OfAll P v.holes) (some_same (behind_cells h u) t is) ((next u refl).0, (k.0, (next u refl).1))

      by_test : ((u : TakenCells) → take_cells hs size ≡ Some u → OfCells P u.range × OfAll P u.holes)
          → (b : Bool) → (if b then Some (taken_cells (front h size) (rest_of h size hs)) else option_map (behind_cells h) (take_cells hs size)) ≡ Some t
          → OfCells P t.range × OfAll P t.holes
      by_test next true is =
          subst (λ (v : TakenCells). OfCells P v.range × OfAll P v.holes) (some_same (taken_cells (front h size) (rest_of h size hs)) t is)
          (of_front h size k.0, of_rest h size hs k.0 k.1)
      by_test next false is = by_rest (take_cells hs size) next is

  pub given_all : (hs : List Range) (r : Range) → OfAll P hs → OfCells P r → OfAll P (give_cells hs r)
  given_all [] r k l = (l, tt)
  given_all (h ∷ hs) r k l =
      by_tests (λ s m. given_all hs s k.1 m) (nat_lt (r.first + length r.cells) h.first) ((r.first + length r.cells) == h.first) ((h.first + length h.cells) == r.first) refl refl
    where
      by_tests : ((s : Range) → OfCells P s → OfAll P (give_cells hs s)) → (b c d : Bool) → ((r.first + length r.cells) == h.first) ≡ c
          → ((h.first + length h.cells) == r.first) ≡ d
          → OfAll P (if b then r ∷ h ∷ hs else if c then joined r h ∷ hs else if d then give_cells hs (joined h r) else h ∷ give_cells hs r)
      by_tests next true c d p q = (l, k)
      by_tests next false true d p q = (of_joined r h (grind arith) l k.0, k.1)
      by_tests next false false true p q = next (joined h r) (of_joined h r (grind arith) k.0 l)
      by_tests next false false false p q = (k.0, next r l)

-- the same for a test of each cell
pass_all : (test : ℕ → Cell → Bool) (hs : List Range) → AllPass test hs → OfAll (λ i cell. IsTrue (test i cell)) hs
pass_all test [] k = tt
pass_all test (h ∷ hs) k = (k.0, pass_all test hs k.1)

all_pass : (test : ℕ → Cell → Bool) (hs : List Range) → OfAll (λ i cell. IsTrue (test i cell)) hs → AllPass test hs
all_pass test [] k = tt
all_pass test (h ∷ hs) k = (k.0, all_pass test hs k.1)

pub taken_pass : (test : ℕ → Cell → Bool) (hs : List Range) (size : ℕ) (t : TakenCells) → take_cells hs size ≡ Some t → AllPass test hs
    → AllPass test (t.range ∷ t.holes)
taken_pass test hs size t e k =
    let q = taken_all (λ i cell. IsTrue (test i cell)) hs size t e (pass_all test hs k) in
    (q.0, all_pass test t.holes q.1)

pub given_pass : (test : ℕ → Cell → Bool) (hs : List Range) (r : Range) → AllPass test (r ∷ hs) → AllPass test (give_cells hs r)
given_pass test hs r k = all_pass test (give_cells hs r) (given_all (λ i cell. IsTrue (test i cell)) hs r (pass_all test hs k.1) k.0)
