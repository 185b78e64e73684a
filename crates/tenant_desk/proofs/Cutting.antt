-- Pieces that are cut off a run, one for each budget.
use Rattle.std.proofs.Common.{◌≡◌, ℕ, zero, suc, ◌+◌, ◌-◌, ◌<◌, ◌≤◌, ◌==◌, Bool, true, false, if◌then◌else◌, List, [], ◌∷◌, ◌++◌, Option, Some, None, length, map, get_or, take, drop, refl, sym, ap, ◌∙◌, subst, arith, append_assoc, length-drop, length-take, length-take-le}
use Rattle.std.specs.Prelude.{sum}
use Rattle.std.specs.List.{AllByRecursion}
use Rattle.std.specs.Option.{option_to_list}
use Rattle.std.proofs.lemmas.List.{append-nil, take-append-drop, take_all}
use Rattle.std.proofs.lemmas.List.Sums.{sum_by-cons}
use Rattle.cell_span.specs.declared.cell.Cell.{Cell}
use Rattle.cell_span.specs.Arenas.{Arena}
use Rattle.cell_span.specs.Range.{Range, IsRange, IsWhole, front, back}
use Rattle.cell_span.specs.RangeLaws.{joined_parts}
use Rattle.hole_list.specs.Holes.{Holed, new_holes}
use Rattle.hole_list.specs.KeptLaws.{kept_new}
use Rattle.tenant_desk.specs.Desk.{pieces_of, left_of, if_any, rest_of, AreBudgets, budget, NoneOut, cells_of, cells_in}
use Rattle.tenant_desk.specs.Kept.{IsRest, AreInLine, AreTenants}
use Rattle.tenant_desk.specs.Joining.{tenants, with_rest, MeetsRest}

-- ---- one cut

-- a run of which nothing is left
nothing_left : (r : Range) (at : ℕ) → length (back r at).cells ≡ 0 → front r at ≡ r
nothing_left r at e =
    ap (λ (cells : List Cell). let s : Range = record { first = r.first; arena = r.arena; cells = cells } in s)
    (take_all at r.cells (omega (arith, e, length-drop at r.cells)))

pub joined_again : (r : Range) (at : ℕ) → with_rest (front r at) (if_any (back r at)) ≡ r
joined_again r at = by_test (length (back r at).cells == 0) refl
  where
    by_test : (b : Bool) → (length (back r at).cells == 0) ≡ b → with_rest (front r at) (if b then [] else back r at ∷ []) ≡ r
    by_test true e = nothing_left r at (grind (arith, e))
    by_test false e = joined_parts r at

pub meets_again : (r : Range) (at : ℕ) → at ≤ length r.cells → MeetsRest (front r at) (if_any (back r at))
meets_again r at few = by_test (length (back r at).cells == 0)
  where
    by_test : (b : Bool) → MeetsRest (front r at) (if b then [] else back r at ∷ [])
    by_test true = tt
    by_test false = record { arena = refl; end = omega (arith, length-take-le at r.cells few) }

pub any_none : (r : Range) (at : ℕ) → length r.cells ≡ at → [] ≡ if_any (back r at)
any_none r at e = by_test (length (back r at).cells == 0) refl
  where
    by_test : (b : Bool) → (length (back r at).cells == 0) ≡ b → [] ≡ (if b then [] else back r at ∷ [])
    by_test true q = refl
    by_test false q = absurd (let f : length (back r at).cells ≡ 0 = omega (arith, e, length-drop at r.cells) in grind (arith, f, q))

pub any_some : (r : Range) (at : ℕ) → at < length r.cells → back r at ∷ [] ≡ if_any (back r at)
any_some r at k = by_test (length (back r at).cells == 0) refl
  where
    by_test : (b : Bool) → (length (back r at).cells == 0) ≡ b → back r at ∷ [] ≡ (if b then [] else back r at ∷ [])
    by_test true q = absurd (let f : length (back r at).cells ≡ 0 = grind (arith, q) in omega (arith, k, f, length-drop at r.cells))
    by_test false q = refl

pub whole_front : (r : Range) (at : ℕ) → length r.cells ≡ at → r ≡ front r at
whole_front r at e = sym (nothing_left r at (omega (arith, e, length-drop at r.cells)))

-- ---- all cuts

-- each budget fits into what is left before it
abbrev pub Fits : Range → List ℕ → Type 0
Fits r [] = Unit {0}
Fits r (b ∷ bs) = (1 ≤ b) × (b ≤ length r.cells) × Fits (back r b) bs

all_fit : (r : Range) (bs : List ℕ) → AllByRecursion (λ b. 1 ≤ b) bs → sum bs ≤ length r.cells → Fits r bs
all_fit r [] each k = tt
all_fit r (b ∷ bs) each k =
    let s : sum (b ∷ bs) ≡ b + sum bs = sum_by-cons (λ x. x) b bs in
    (each.0, omega (arith, k, s), all_fit (back r b) bs each.1 (omega (arith, k, s, length-drop b r.cells)))

pub budgets_fit : (r : Range) (bs : List ℕ) → AreBudgets (length r.cells) bs → Fits r bs
budgets_fit r bs k = all_fit r bs k.each k.within

pub fits_take : (n : ℕ) (r : Range) (bs : List ℕ) → Fits r bs → Fits r (take n bs)
fits_take zero r bs k = tt
fits_take (suc n) r [] k = tt
fits_take (suc n) r (b ∷ bs) k = (k.0, k.1, fits_take n (back r b) bs k.2)

pub fits_at : (r : Range) (bs : List ℕ) (i d : ℕ) → Fits r bs → i < length bs → (1 ≤ get_or bs i d) × (get_or bs i d ≤ length (left_of r (take i bs)).cells)
fits_at r [] i d k h = absurd (omega (arith, h))
fits_at r (b ∷ bs) zero d k h = (k.0, k.1)
fits_at r (b ∷ bs) (suc i) d k h = fits_at (back r b) bs i d k.2 (omega (arith, h))

-- one more piece
pub one_more : (r : Range) (bs : List ℕ) (i d most : ℕ) → i < length bs
    → (pieces_of r (take (suc i) bs) most ≡ pieces_of r (take i bs) most ++ new_holes (front (left_of r (take i bs)) (get_or bs i d)) most ∷ [])
    × (left_of r (take (suc i) bs) ≡ back (left_of r (take i bs)) (get_or bs i d))
one_more r [] i d most h = absurd (omega (arith, h))
one_more r (b ∷ bs) zero d most h = (refl, refl)
one_more r (b ∷ bs) (suc i) d most h =
    let q = one_more (back r b) bs i d most (omega (arith, h)) in
    (ap (λ (l : List Holed). new_holes (front r b) most ∷ l) q.0, q.1)

pub pieces_length : (r : Range) (bs : List ℕ) (most : ℕ) → length (pieces_of r bs most) ≡ length bs
pieces_length r [] most = refl
pieces_length r (b ∷ bs) most = ap suc (pieces_length (back r b) bs most)

fit_budgets : (r : Range) (bs : List ℕ) (most : ℕ) → Fits r bs → map budget (pieces_of r bs most) ≡ bs
fit_budgets r [] most k = refl
fit_budgets r (b ∷ bs) most k = λ j. length-take-le b r.cells k.1 j ∷ fit_budgets (back r b) bs most k.2 j

-- each piece has as many cells as its budget
pub same_budgets : (r : Range) (bs : List ℕ) (most : ℕ) → AreBudgets (length r.cells) bs → map budget (pieces_of r bs most) ≡ bs
same_budgets r bs most k = fit_budgets r bs most (budgets_fit r bs k)

-- what is left is there, where it has a cell
pub left_some : (r : Range) (s : Range) → s ∷ [] ≡ if_any r → s ≡ r
left_some r s e = by_test (length r.cells == 0) e
  where
    by_test : (b : Bool) → s ∷ [] ≡ (if b then [] else r ∷ []) → s ≡ r
    by_test true q = absurd (grind (arith, q))
    by_test false q = grind (arith, q)

pub left_none : (r : Range) → [] ≡ if_any r → 1 ≤ length r.cells → ⊥
left_none r e k = by_test (length r.cells == 0) refl e
  where
    by_test : (b : Bool) → (length r.cells == 0) ≡ b → [] ≡ (if b then [] else r ∷ []) → ⊥
    by_test true q f = let g : length r.cells ≡ 0 = grind (arith, q) in omega (arith, g, k)
    by_test false q f = grind (arith, f)

-- ---- what the pieces keep

-- the run ends where its arena does
pub record EndsArena (r : Range) : Type 0 where
  pub end : r.first + length r.cells ≡ r.arena.cells
  pub few : r.arena.cells ≤ 2147483648

pub cut_line : (r : Range) (bs : List ℕ) (most : ℕ) → EndsArena r → Fits r bs → AreInLine r.arena most r.first (pieces_of r bs most) (rest_of r bs)
cut_line r [] most e k = by_test (length r.cells == 0) refl
  where
    by_test : (b : Bool) → (length r.cells == 0) ≡ b → IsRest r.arena r.first (if b then [] else r ∷ [])
    by_test true q = let g : length r.cells ≡ 0 = grind (arith, q) in omega (arith, e.end, g)
    by_test false q = (refl, refl, e.end)
cut_line r (b ∷ bs) most e k =
    let n : length (take b r.cells) ≡ b = length-take-le b r.cells k.1 in
    let m : length (drop b r.cells) ≡ length r.cells - b = length-drop b r.cells in (
      record {
        arena = refl;
        most = refl;
        first = refl;
        holes = kept_new (front r b) most (record { some = omega (arith, n, k.0); within = omega (arith, n, k.1, e.end); few = e.few });
      },
      subst (λ x. AreInLine r.arena most (r.first + x) (pieces_of (back r b) bs most) (rest_of (back r b) bs)) (sym n)
          (cut_line (back r b) bs most (record { end = omega (arith, m, k.1, e.end); few = e.few }) k.2),
    )

pub none_cut : (r : Range) (bs : List ℕ) (most : ℕ) → NoneOut (pieces_of r bs most)
none_cut r [] most = tt
none_cut r (b ∷ bs) most = (refl, none_cut (back r b) bs most)

any_cells : (r : Range) → cells_of (if_any r) ≡ r.cells
any_cells r = by_test (length r.cells == 0) refl
  where
    empty : (cells : List Cell) → length cells ≡ 0 → [] ≡ cells
    empty [] e = refl
    empty (c ∷ cells) e = absurd (omega (arith, e))

    by_test : (b : Bool) → (length r.cells == 0) ≡ b → cells_of (if b then [] else r ∷ []) ≡ r.cells
    by_test true q = empty r.cells (grind (arith, q))
    by_test false q = append-nil r.cells

pub cut_cells : (r : Range) (bs : List ℕ) (most : ℕ) → cells_in (pieces_of r bs most) ++ cells_of (rest_of r bs) ≡ r.cells
cut_cells r [] most = any_cells r
cut_cells r (b ∷ bs) most =
    append_assoc (take b r.cells ++ []) (cells_in (pieces_of (back r b) bs most)) (cells_of (rest_of (back r b) bs))
    ∙ ap (λ (l : List Cell). (take b r.cells ++ []) ++ l) (cut_cells (back r b) bs most)
    ∙ ap (λ (l : List Cell). l ++ drop b r.cells) (append-nil (take b r.cells))
    ∙ take-append-drop b r.cells

-- ---- behind so many cuts

pub fits_now : (r : Range) (xs ys : List ℕ) → xs ≡ ys → AreBudgets (length r.cells) ys → Fits r xs
fits_now r xs ys e k = subst (Fits r) (sym e) (budgets_fit r ys k)

pub few_now : (cells : ℕ) (xs ys : List ℕ) → xs ≡ ys → AreBudgets cells ys → length xs ≤ 64
few_now cells xs ys e k = omega (arith, k.few, ap length e)

-- there is something left before the next cut
pub never_none : (r : Range) (xs : List ℕ) (i : ℕ) (o : Option Range) → Fits r xs → i < length xs → option_to_list o ≡ rest_of r (take i xs) → o ≡ None → ⊥
never_none r xs i o k h e none =
    let q = fits_at r xs i 0 k h in
    left_none (left_of r (take i xs)) (ap option_to_list (sym none) ∙ e) (omega (arith, q.0, q.1))

pub left_is : (r : Range) (xs : List ℕ) (i : ℕ) (o : Option Range) (s : Range) → option_to_list o ≡ rest_of r (take i xs) → o ≡ Some s → s ≡ left_of r (take i xs)
left_is r xs i o s e is = left_some (left_of r (take i xs)) s (ap option_to_list (sym is) ∙ e)

pub cut_within : (r : Range) (xs : List ℕ) (i : ℕ) (s : Range) → Fits r xs → i < length xs → s ≡ left_of r (take i xs) → get_or xs i 0 ≤ length s.cells
cut_within r xs i s k h e = let q = fits_at r xs i 0 k h in omega (arith, q.1, ap (λ (x : Range). length x.cells) e)

taken_length : (r : Range) (xs : List ℕ) (i most : ℕ) (ps : List Holed) → ps ≡ pieces_of r (take i xs) most → (length ps ≤ i) × (length ps ≤ length xs)
taken_length r xs i most ps e =
    let n = ap (λ (l : List Holed). length l) e ∙ pieces_length r (take i xs) most ∙ length-take i xs in
    (omega (arith, n), omega (arith, n))

pub cut_room : (r : Range) (xs : List ℕ) (i most room : ℕ) (ps : List Holed) → ps ≡ pieces_of r (take i xs) most → i < length xs → length xs ≤ room → length ps < room
cut_room r xs i most room ps e h k = omega (arith, (taken_length r xs i most ps e).0, h, k)

pub cut_kept : (r : Range) (xs : List ℕ) (i most : ℕ) (a : Arena) → a ≡ r.arena → IsWhole r → IsRange r → Fits r xs → length xs ≤ 64
    → (ps : List Holed) → ps ≡ pieces_of r (take i xs) most → (rs : List Range) → rs ≡ rest_of r (take i xs) → AreTenants (tenants a most ps rs)
cut_kept r xs i most a e whole range k few ps is rs rest =
    let cells : a.cells ≡ r.arena.cells = ap (λ (x : Arena). x.cells) e in
    record {
      some = omega (arith, cells, whole.all, range.some);
      few = omega (arith, (taken_length r xs i most ps is).1, few);
      line = subst (λ (x : Arena). AreInLine x most 0 ps rs) (sym e)
          (subst (λ (l : List Holed). AreInLine r.arena most 0 l rs) (sym is)
          (subst (λ (l : List Range). AreInLine r.arena most 0 (pieces_of r (take i xs) most) l) (sym rest)
          (subst (λ n. AreInLine r.arena most n (pieces_of r (take i xs) most) (rest_of r (take i xs))) whole.from
          (cut_line r (take i xs) most (record { end = omega (arith, whole.from, whole.all); few = range.few }) (fits_take i r xs k)))));
    }

pub none_kept : (r : Range) (xs : List ℕ) (i most : ℕ) (ps : List Holed) → ps ≡ pieces_of r (take i xs) most → NoneOut ps
none_kept r xs i most ps e = subst NoneOut (sym e) (none_cut r (take i xs) most)

-- what is joined again is the run that was cut
pub given_back : (r f : Range) (xs : List ℕ) (i most : ℕ) (a : Arena) (ps : List Holed) (rs : List Range) → IsWhole r → IsWhole f → f.arena ≡ a → a ≡ r.arena
    → f.cells ≡ cells_in ps ++ cells_of rs → ps ≡ pieces_of r (take i xs) most → rs ≡ rest_of r (take i xs) → f ≡ r
given_back r f xs i most a ps rs whole back' of same cells is rest =
    let first : f.first ≡ r.first = back'.from ∙ sym whole.from in
    let arena : f.arena ≡ r.arena = of ∙ same in
    let all : f.cells ≡ r.cells = cells ∙ ap (λ (l : List Holed). cells_in l ++ cells_of rs) is
    ∙ ap (λ (l : List Range). cells_in (pieces_of r (take i xs) most) ++ cells_of l) rest ∙ cut_cells r (take i xs) most in
    λ j. record { first = first j; arena = arena j; cells = all j }

-- one more cut
pub more_pieces : (r : Range) (xs : List ℕ) (i most : ℕ) (s : Range) (ps qs : List Holed) → i < length xs → s ≡ left_of r (take i xs) → ps ≡ pieces_of r (take i xs) most
    → qs ≡ ps ++ new_holes (front s (get_or xs i 0)) most ∷ [] → qs ≡ pieces_of r (take (i + 1) xs) most
more_pieces r xs i most s ps qs h e is becomes =
    becomes ∙ ap (λ (l : List Holed). l ++ new_holes (front s (get_or xs i 0)) most ∷ []) is
    ∙ ap (λ (x : Range). pieces_of r (take i xs) most ++ new_holes (front x (get_or xs i 0)) most ∷ []) e ∙ sym (one_more r xs i 0 most h).0
    ∙ ap (λ n. pieces_of r (take n xs) most) (let f : suc i ≡ i + 1 = omega arith in f)

pub more_rest : (r : Range) (xs : List ℕ) (i : ℕ) (s : Range) (rs : List Range) → i < length xs → s ≡ left_of r (take i xs) → rs ≡ if_any (back s (get_or xs i 0))
    → rs ≡ rest_of r (take (i + 1) xs)
more_rest r xs i s rs h e becomes =
    becomes ∙ ap (λ (x : Range). if_any (back x (get_or xs i 0))) e ∙ sym (ap if_any (one_more r xs i 0 0 h).1)
    ∙ ap (λ n. rest_of r (take n xs)) (let f : suc i ≡ i + 1 = omega arith in f)
