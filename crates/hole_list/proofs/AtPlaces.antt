-- Taking and giving back at a place of the list.
use Rattle.std.proofs.Common.{◌≡◌, ℕ, zero, suc, ◌+◌, ◌<◌, ◌≤◌, ◌==◌, nat_le, nat_lt, Bool, true, false, if◌then◌else◌, ◌⊎◌, inl, inr, List, [], ◌∷◌, length, map, drop, get_or, set, Some, None, refl, sym, ap, ◌∙◌, subst, arith, length-append}
use Rattle.std.specs.Option.{option_map}
use Rattle.std.specs.List.{insert, remove}
use Rattle.std.proofs.lemmas.Bool.{cond-true, cond-false, lt-ltb, le-ltb, eq-eqb, ne_eqb, ltb-true, ltb-false, leb-true, leb-false, cases_lt}
use Rattle.std.proofs.lemmas.List.{take_all, drop_all, drop_more, get_or_default}
use Rattle.std.proofs.lemmas.List.Edits.{get_or-remove_below}
use Rattle.cell_span.specs.declared.cell.Cell.{Cell}
use Rattle.cell_span.specs.Arenas.{Arena}
use Rattle.cell_span.specs.Range.{Range, Meet, front, back, joined}
use Rattle.hole_list.specs.declared.run.Run.{Run}
use Rattle.hole_list.specs.Placing.{end_of, AreOrdered, IsOut, with_run, without_run, AreFreeOf}
use Rattle.hole_list.specs.Holes.{run_of, taken_cells, rest_of, behind_cells, take_cells, give_cells}
use Rattle.hole_list.specs.OutLaws.{AreFrom, ordered_front, one_from, other_one}
use Rattle.hole_list.specs.Places.{too_small, ends_before, begin_before, cut_at, add_behind, add_before, add_first, add_between, AreOf}

-- ---- where a range is taken

pub small_within : (hs : List Range) (size : ℕ) → too_small hs size ≤ length hs
small_within [] size = omega arith
small_within (h ∷ hs) size = by_test (small_within hs size) (nat_le size (length h.cells))
  where
    by_test : too_small hs size ≤ length hs → (b : Bool) → (if b then 0 else suc (too_small hs size)) ≤ suc (length hs)
    by_test k true = omega arith
    by_test k false = omega (arith, k)

-- a hole before the place is too small, and the one at the place isn't
pub small_more : (hs : List Range) (size i : ℕ) (x : Range) → i ≤ too_small hs size → i < length hs → x ≡ get_or hs i x → length x.cells < size
    → i + 1 ≤ too_small hs size
small_more [] size i x h k e few = absurd (omega (arith, k))
small_more (y ∷ hs) size i x h k e few = by_test (small_more hs size) i (nat_le size (length y.cells)) refl h k e
  where
    by_test : ((i : ℕ) (x : Range) → i ≤ too_small hs size → i < length hs → x ≡ get_or hs i x → length x.cells < size → i + 1 ≤ too_small hs size)
        → (i : ℕ) (b : Bool) → nat_le size (length y.cells) ≡ b → i ≤ (if b then 0 else suc (too_small hs size)) → i < suc (length hs)
        → x ≡ get_or (y ∷ hs) i x → i + 1 ≤ (if b then 0 else suc (too_small hs size))
    by_test next zero true t h k e = absurd (omega (arith, leb-true size (length y.cells) t, ap (λ (z : Range). length z.cells) e, few))
    by_test next zero false t h k e = omega arith
    by_test next (suc i) true t h k e = absurd (omega (arith, h))
    by_test next (suc i) false t h k e = omega (arith, next i x (omega (arith, h)) (omega (arith, k)) e few)

pub small_here : (hs : List Range) (size i : ℕ) (x : Range) → i ≤ too_small hs size → i < length hs → x ≡ get_or hs i x → size ≤ length x.cells
    → i ≡ too_small hs size
small_here [] size i x h k e many = absurd (omega (arith, k))
small_here (y ∷ hs) size i x h k e many = by_test (small_here hs size) i (nat_le size (length y.cells)) refl h k e
  where
    by_test : ((i : ℕ) (x : Range) → i ≤ too_small hs size → i < length hs → x ≡ get_or hs i x → size ≤ length x.cells → i ≡ too_small hs size)
        → (i : ℕ) (b : Bool) → nat_le size (length y.cells) ≡ b → i ≤ (if b then 0 else suc (too_small hs size)) → i < suc (length hs)
        → x ≡ get_or (y ∷ hs) i x → i ≡ (if b then 0 else suc (too_small hs size))
    by_test next zero true t h k e = refl
    by_test next zero false t h k e = absurd (omega (arith, leb-false size (length y.cells) t, ap (λ (z : Range). length z.cells) e, many))
    by_test next (suc i) true t h k e = absurd (omega (arith, h))
    by_test next (suc i) false t h k e = ap suc (next i x (omega (arith, h)) (omega (arith, k)) e many)

pub fits_here : (hs : List Range) (size i : ℕ) (x : Range) → i ≡ too_small hs size → i < length hs → x ≡ get_or hs i x → size ≤ length x.cells
fits_here hs size i x is k e = by_order (cases_lt (length x.cells) size)
  where
    by_order : (length x.cells < size) ⊎ (size ≤ length x.cells) → size ≤ length x.cells
    by_order (inl few) = absurd (omega (arith, is, small_more hs size i x (omega (arith, is)) k e few))
    by_order (inr many) = many

pub none_fits : (hs : List Range) (size i : ℕ) → i ≡ too_small hs size → i ≡ length hs → take_cells hs size ≡ None
none_fits [] size i is all = refl
none_fits (h ∷ hs) size i is all = by_test (none_fits hs size) (nat_le size (length h.cells)) (sym is ∙ all)
  where
    by_test : ((i : ℕ) → i ≡ too_small hs size → i ≡ length hs → take_cells hs size ≡ None) → (b : Bool)
        → (if b then 0 else suc (too_small hs size)) ≡ suc (length hs)
        → (if b then Some (taken_cells (front h size) (rest_of h size hs)) else option_map (behind_cells h) (take_cells hs size)) ≡ None
    by_test next true e = absurd (omega (arith, e))
    by_test next false e = ap (option_map (behind_cells h)) (next (too_small hs size) refl (omega (arith, e)))

pub takes_at : (hs : List Range) (size i : ℕ) (x : Range) → i ≡ too_small hs size → i < length hs → x ≡ get_or hs i x
    → take_cells hs size ≡ Some (taken_cells (front x size) (cut_at hs i size))
takes_at [] size i x is k e = absurd (omega (arith, k))
takes_at (h ∷ hs) size i x is k e = by_test (takes_at hs size) i (nat_le size (length h.cells)) is k e
  where
    by_test : ((i : ℕ) (x : Range) → i ≡ too_small hs size → i < length hs → x ≡ get_or hs i x → take_cells hs size ≡ Some (taken_cells (front x size) (cut_at hs i size)))
        → (i : ℕ) (b : Bool) → i ≡ (if b then 0 else suc (too_small hs size)) → i < suc (length hs) → x ≡ get_or (h ∷ hs) i x
        → (if b then Some (taken_cells (front h size) (rest_of h size hs)) else option_map (behind_cells h) (take_cells hs size)) ≡ Some (taken_cells (front x size) (cut_at (h ∷ hs) i size))
    by_test next zero true is k e = ap (λ (y : Range). Some (taken_cells (front y size) (rest_of h size hs))) (sym e)
    by_test next zero false is k e = absurd (omega (arith, is))
    by_test next (suc i) true is k e = absurd (omega (arith, is))
    by_test next (suc i) false is k e = ap (option_map (behind_cells h)) (next i x (omega (arith, is)) (omega (arith, k)) e)

cut_removes : (hs : List Range) (size i : ℕ) (x : Range) → i < length hs → x ≡ get_or hs i x → length x.cells ≡ size → cut_at hs i size ≡ remove hs i
cut_removes [] size i x k e all = absurd (omega (arith, k))
cut_removes (h ∷ hs) size zero x k e all = cond-true {A = List Range} (length h.cells == size) hs (back h size ∷ hs) (eq-eqb (length h.cells) size (ap (λ (z : Range). length z.cells) (sym e) ∙ all))
cut_removes (h ∷ hs) size (suc i) x k e all = ap (λ (l : List Range). h ∷ l) (cut_removes hs size i x (omega (arith, k)) e all)

cut_sets : (hs : List Range) (size i : ℕ) (x : Range) → i < length hs → x ≡ get_or hs i x → (length x.cells ≡ size → ⊥)
    → cut_at hs i size ≡ set hs i (back x size)
cut_sets [] size i x k e some = absurd (omega (arith, k))
cut_sets (h ∷ hs) size zero x k e some =
    cond-false {A = List Range} (length h.cells == size) hs (back h size ∷ hs) (ne_eqb (length h.cells) size (λ f. some (ap (λ (z : Range). length z.cells) e ∙ f)))
    ∙ ap (λ (z : Range). back z size ∷ hs) (sym e)
cut_sets (h ∷ hs) size (suc i) x k e some = ap (λ (l : List Range). h ∷ l) (cut_sets hs size i x (omega (arith, k)) e some)

front_all : (x : Range) (size : ℕ) → length x.cells ≡ size → front x size ≡ x
front_all x size e = ap (λ (cells : List Cell). let r : Range = record { first = x.first; arena = x.arena; cells = cells } in r) (take_all size x.cells (omega (arith, e)))

-- a whole hole is taken
pub takes_whole : (hs : List Range) (size i : ℕ) (x : Range) → i ≡ too_small hs size → i < length hs → x ≡ get_or hs i x → length x.cells ≡ size
    → take_cells hs size ≡ Some (taken_cells x (remove hs i))
takes_whole hs size i x is k e all = takes_at hs size i x is k e ∙ (λ j. Some (taken_cells (front_all x size all j) (cut_removes hs size i x k e all j)))

-- the front of a hole is taken
pub takes_front : (hs : List Range) (size i : ℕ) (x : Range) → i ≡ too_small hs size → i < length hs → x ≡ get_or hs i x → (length x.cells ≡ size → ⊥)
    → take_cells hs size ≡ Some (taken_cells (front x size) (set hs i (back x size)))
takes_front hs size i x is k e some = takes_at hs size i x is k e ∙ ap (λ (l : List Range). Some (taken_cells (front x size) l)) (cut_sets hs size i x k e some)

-- ---- where a range is given back

pub ends_within : (hs : List Range) (first : ℕ) → ends_before hs first ≤ length hs
ends_within [] first = omega arith
ends_within (h ∷ hs) first = by_test (ends_within hs first) (nat_lt (h.first + length h.cells) first)
  where
    by_test : ends_before hs first ≤ length hs → (b : Bool) → (if b then suc (ends_before hs first) else 0) ≤ suc (length hs)
    by_test k true = omega (arith, k)
    by_test k false = omega arith

-- a hole that ends before the index is one of those, and a hole that doesn't isn't
pub ends_more : (hs : List Range) (first mid : ℕ) (x : Range) → AreOrdered (map run_of hs) → mid < length hs → x ≡ get_or hs mid x
    → x.first + length x.cells < first → mid < ends_before hs first
ends_more [] first mid x o k e h = absurd (omega (arith, k))
ends_more (y ∷ hs) first zero x o k e h =
    let same : y.first + length y.cells ≡ x.first + length x.cells = ap (λ (z : Range). z.first + length z.cells) (sym e) in
    subst (λ n. 0 < n) (sym (cond-true {A = ℕ} (nat_lt (y.first + length y.cells) first) (suc (ends_before hs first)) 0 (lt-ltb (y.first + length y.cells) first (omega (arith, same, h))))) (omega arith)
ends_more (y ∷ hs) first (suc mid) x o k e h =
    let f = ordered_front (run_of y) (map run_of hs) o in
    let next = ends_more hs first mid x f.2 (omega (arith, k)) e h in
    let sooner : y.first + length y.cells < first = omega (arith, begins_later hs mid x f.1 f.2 (omega (arith, k)) e, h) in
    subst (λ n. suc mid < n) (sym (cond-true {A = ℕ} (nat_lt (y.first + length y.cells) first) (suc (ends_before hs first)) 0 (lt-ltb (y.first + length y.cells) first sooner))) (omega (arith, next))
  where
    begins_later : (ks : List Range) (i : ℕ) (x : Range) → AreFrom (y.first + length y.cells) (map run_of ks) → AreOrdered (map run_of ks)
        → i < length ks → x ≡ get_or ks i x → y.first + length y.cells ≤ x.first + length x.cells
    begins_later [] i x f o k e = absurd (omega (arith, k))
    begins_later (z ∷ ks) zero x f o k e = omega (arith, f, ap (λ (w : Range). w.first) e)
    begins_later (z ∷ ks) (suc i) x f o k e =
        let q = ordered_front (run_of z) (map run_of ks) o in
        begins_later ks i x (further (map run_of ks) q.1) q.2 (omega (arith, k)) e
      where
        further : (rs : List Run) → AreFrom (z.first + length z.cells) rs → AreFrom (y.first + length y.cells) rs
        further [] g = tt
        further (r ∷ rs) g = omega (arith, g, f)

pub ends_less : (hs : List Range) (first mid : ℕ) (x : Range) → mid < length hs → x ≡ get_or hs mid x → first ≤ x.first + length x.cells
    → ends_before hs first ≤ mid
ends_less [] first mid x k e h = omega arith
ends_less (y ∷ hs) first mid x k e h = by_test (ends_less hs first) mid (nat_lt (y.first + length y.cells) first) refl k e
  where
    by_test : ((mid : ℕ) (x : Range) → mid < length hs → x ≡ get_or hs mid x → first ≤ x.first + length x.cells → ends_before hs first ≤ mid)
        → (mid : ℕ) (b : Bool) → nat_lt (y.first + length y.cells) first ≡ b → mid < suc (length hs) → x ≡ get_or (y ∷ hs) mid x
        → (if b then suc (ends_before hs first) else 0) ≤ mid
    by_test next mid false t k e = omega arith
    by_test next zero true t k e = absurd (omega (arith, ltb-true (y.first + length y.cells) first t, ap (λ (z : Range). z.first + length z.cells) e, h))
    by_test next (suc mid) true t k e = omega (arith, next mid x (omega (arith, k)) e h)

-- giving back before, at and behind a hole
abbrev last_of : Range → ℕ
last_of r = r.first + length r.cells

give_far : (h : Range) (hs : List Range) (r : Range) → last_of r < h.first → give_cells (h ∷ hs) r ≡ r ∷ h ∷ hs
give_far h hs r k = cond-true {A = List Range} (nat_lt (last_of r) h.first) (r ∷ h ∷ hs) _ (lt-ltb (last_of r) h.first k)

give_meets : (h : Range) (hs : List Range) (r : Range) → last_of r ≡ h.first → give_cells (h ∷ hs) r ≡ joined r h ∷ hs
give_meets h hs r k =
    cond-false {A = List Range} (nat_lt (last_of r) h.first) (r ∷ h ∷ hs) _ (le-ltb (last_of r) h.first (omega (arith, k)))
    ∙ cond-true {A = List Range} (last_of r == h.first) (joined r h ∷ hs) _ (eq-eqb (last_of r) h.first k)

give_on : (h : Range) (hs : List Range) (r : Range) → h.first < last_of r → last_of h ≡ r.first → give_cells (h ∷ hs) r ≡ give_cells hs (joined h r)
give_on h hs r k e =
    cond-false {A = List Range} (nat_lt (last_of r) h.first) (r ∷ h ∷ hs) _ (le-ltb (last_of r) h.first (omega (arith, k)))
    ∙ cond-false {A = List Range} (last_of r == h.first) (joined r h ∷ hs) _ (ne_eqb (last_of r) h.first (λ f. omega (arith, f, k)))
    ∙ cond-true {A = List Range} (last_of h == r.first) (give_cells hs (joined h r)) (h ∷ give_cells hs r) (eq-eqb (last_of h) r.first e)

give_past : (h : Range) (hs : List Range) (r : Range) → last_of h < r.first → give_cells (h ∷ hs) r ≡ h ∷ give_cells hs r
give_past h hs r k =
    cond-false {A = List Range} (nat_lt (last_of r) h.first) (r ∷ h ∷ hs) _ (le-ltb (last_of r) h.first (omega (arith, k)))
    ∙ cond-false {A = List Range} (last_of r == h.first) (joined r h ∷ hs) _ (ne_eqb (last_of r) h.first (λ f. omega (arith, f, k)))
    ∙ cond-false {A = List Range} (last_of h == r.first) (give_cells hs (joined h r)) (h ∷ give_cells hs r) (ne_eqb (last_of h) r.first (λ f. omega (arith, f, k)))

-- at a place: what is done there, deeper in the list and at the front
module _ (r : Range) (At : List Range → ℕ → List Range) (Here : List Range → Type 0) (deep : (h : Range) (hs : List Range) (i : ℕ) → At (h ∷ hs) (suc i) ≡ h ∷ At hs i)
    (at_front : (hs : List Range) → Here hs → give_cells hs r ≡ At hs 0) where
  gives_at : (hs : List Range) (i : ℕ) → i ≡ ends_before hs r.first → Here (drop i hs) → give_cells hs r ≡ At hs i
  gives_at [] i is k = let none : i ≡ 0 = is in at_front [] (subst (λ n. Here (drop n [])) none k) ∙ ap (At []) (sym none)
  gives_at (h ∷ hs) i is k = by_test (gives_at hs) i (nat_lt (h.first + length h.cells) r.first) refl is k
    where
      by_test : ((i : ℕ) → i ≡ ends_before hs r.first → Here (drop i hs) → give_cells hs r ≡ At hs i) → (i : ℕ) (b : Bool)
          → nat_lt (h.first + length h.cells) r.first ≡ b
          → i ≡ (if b then suc (ends_before hs r.first) else 0) → Here (drop i (h ∷ hs)) → give_cells (h ∷ hs) r ≡ At (h ∷ hs) i
      by_test next zero true t is k = absurd (omega (arith, is))
      by_test next zero false t is k = at_front (h ∷ hs) k
      by_test next (suc i) true t is k =
          give_past h hs r (ltb-true (last_of h) r.first t) ∙ ap (λ (l : List Range). h ∷ l) (next i (omega (arith, is)) k) ∙ sym (deep h hs i)
      by_test next (suc i) false t is k = absurd (omega (arith, is))

abbrev IsFar : Range → List Range → Type 0
IsFar r [] = Unit {0}
IsFar r (h ∷ hs) = last_of r < h.first

abbrev Meets : Range → List Range → Type 0
Meets r [] = ⊥
Meets r (h ∷ hs) = last_of r ≡ h.first

abbrev MeetsLast : Range → List Range → Type 0
MeetsLast r [] = ⊥
MeetsLast r (h ∷ hs) = (last_of h ≡ r.first) × IsFar r hs

abbrev MeetsBoth : Range → List Range → Type 0
MeetsBoth r [] = ⊥
MeetsBoth r (h ∷ hs) = (last_of h ≡ r.first) × Meets r hs

far_front : (r : Range) (hs : List Range) → IsFar r hs → give_cells hs r ≡ r ∷ hs
far_front r [] k = refl
far_front r (h ∷ hs) k = give_far h hs r k

meets_front : (r : Range) (hs : List Range) → Meets r hs → give_cells hs r ≡ add_first r hs
meets_front r [] k = absurd k
meets_front r (h ∷ hs) k = give_meets h hs r k

last_joined : (h r : Range) → last_of h ≡ r.first → last_of (joined h r) ≡ last_of r
last_joined h r e = omega (arith, e, length-append h.cells r.cells)

far_joined : (h r : Range) (hs : List Range) → last_of h ≡ r.first → IsFar r hs → IsFar (joined h r) hs
far_joined h r [] e k = tt
far_joined h r (g ∷ hs) e k = omega (arith, k, last_joined h r e)

meets_joined : (h r : Range) (hs : List Range) → last_of h ≡ r.first → Meets r hs → Meets (joined h r) hs
meets_joined h r [] e k = k
meets_joined h r (g ∷ hs) e k = omega (arith, k, last_joined h r e)

last_front : (r : Range) → 1 ≤ length r.cells → (hs : List Range) → MeetsLast r hs → give_cells hs r ≡ add_behind hs 0 r
last_front r some [] k = absurd k
last_front r some (h ∷ hs) k = give_on h hs r (omega (arith, k.0, some)) k.0 ∙ far_front (joined h r) hs (far_joined h r hs k.0 k.1)

both_front : (r : Range) → 1 ≤ length r.cells → (hs : List Range) → MeetsBoth r hs → give_cells hs r ≡ add_between hs 0 r
both_front r some [] k = absurd k
both_front r some (h ∷ hs) k = give_on h hs r (omega (arith, k.0, some)) k.0 ∙ meets_front (joined h r) hs (meets_joined h r hs k.0 k.1)

before_front : (r : Range) (hs : List Range) → Meets r hs → give_cells hs r ≡ add_before hs 0 r
before_front r [] k = absurd k
before_front r (h ∷ hs) k = give_meets h hs r k

-- what is known of a hole at a place
free_at : (hs : List Range) (r : Range) (i : ℕ) (x : Range) → AreFreeOf (map run_of hs) (run_of r) → i < length hs → x ≡ get_or hs i x
    → (last_of r ≤ x.first) ⊎ (last_of x ≤ r.first)
free_at [] r i x f k e = absurd (omega (arith, k))
free_at (h ∷ hs) r zero x f k e = subst (λ (y : Range). (last_of r ≤ y.first) ⊎ (last_of y ≤ r.first)) (sym e) f.0
free_at (h ∷ hs) r (suc i) x f k e = free_at hs r i x f.1 (omega (arith, k)) e

ends_at : (hs : List Range) (first i : ℕ) (x : Range) → i ≡ ends_before hs first → i < length hs → x ≡ get_or hs i x → first ≤ last_of x
ends_at [] first i x is k e = absurd (omega (arith, k))
ends_at (h ∷ hs) first i x is k e = by_test (ends_at hs first) i (nat_lt (h.first + length h.cells) first) refl is k e
  where
    by_test : ((i : ℕ) (x : Range) → i ≡ ends_before hs first → i < length hs → x ≡ get_or hs i x → first ≤ last_of x) → (i : ℕ) (b : Bool)
        → nat_lt (h.first + length h.cells) first ≡ b
        → i ≡ (if b then suc (ends_before hs first) else 0) → i < suc (length hs) → x ≡ get_or (h ∷ hs) i x → first ≤ last_of x
    by_test next zero true t is k e = absurd (omega (arith, is))
    by_test next zero false t is k e = omega (arith, ltb-false (last_of h) first t, ap (λ (z : Range). z.first + length z.cells) e)
    by_test next (suc i) true t is k e = next i x (omega (arith, is)) (omega (arith, k)) e
    by_test next (suc i) false t is k e = absurd (omega (arith, is))

next_at : (hs : List Range) (i : ℕ) (x y : Range) → AreOrdered (map run_of hs) → i + 1 < length hs → x ≡ get_or hs i x → y ≡ get_or hs (i + 1) y
    → (last_of x ≤ y.first) × (1 ≤ length y.cells)
next_at [] i x y o k e f = absurd (omega (arith, k))
next_at (h ∷ []) i x y o k e f = absurd (omega (arith, k))
next_at (h ∷ g ∷ hs) zero x y o k e f =
    let q = ordered_front (run_of g) (map run_of hs) o.2 in
    (omega (arith, o.1, ap (λ (z : Range). z.first + length z.cells) e, ap (λ (z : Range). z.first) f), omega (arith, q.0, ap (λ (z : Range). length z.cells) f))
next_at (h ∷ g ∷ hs) (suc i) x y o k e f = next_at (g ∷ hs) i x y o.2 (omega (arith, k)) e (f ∙ ap (λ n. get_or (h ∷ g ∷ hs) n y) (let a : suc i + 1 ≡ suc (i + 1) = omega arith in a))

here : (P : List Range → Type 0) (hs : List Range) (i : ℕ) (x : Range) → i < length hs → x ≡ get_or hs i x → P (x ∷ drop (i + 1) hs) → P (drop i hs)
here P hs i x k e p = subst P (ap (λ (y : Range). y ∷ drop (i + 1) hs) e ∙ sym (drop_more hs i x k)) p

past : (P : List Range → Type 0) (hs : List Range) (i : ℕ) → i ≡ length hs → P [] → P (drop i hs)
past P hs i k p = subst P (sym (drop_all i hs (omega (arith, k)))) p

-- at the end of the list
pub gives_last : (hs : List Range) (r : Range) (i : ℕ) → i ≡ ends_before hs r.first → i ≡ length hs → give_cells hs r ≡ insert hs i r
gives_last hs r i is all = gives_at r (λ l n. insert l n r) (IsFar r) (λ h l n. refl) (far_front r) hs i is (past (IsFar r) hs i all tt)

-- before a hole that it doesn't meet
pub gives_far : (hs : List Range) (r : Range) (i : ℕ) (x : Range) → AreFreeOf (map run_of hs) (run_of r) → i ≡ ends_before hs r.first → i < length hs
    → x ≡ get_or hs i x
    → (last_of x ≡ r.first → ⊥) → (last_of r ≡ x.first → ⊥) → give_cells hs r ≡ insert hs i r
gives_far hs r i x free is k e no_last no_first =
    gives_at r (λ l n. insert l n r) (IsFar r) (λ h l n. refl) (far_front r) hs i is (here (IsFar r) hs i x k e (by_side (free_at hs r i x free k e)))
  where
    by_side : (last_of r ≤ x.first) ⊎ (last_of x ≤ r.first) → last_of r < x.first
    by_side (inl a) = omega (arith, a, no_first)
    by_side (inr a) = absurd (no_last (omega (arith, a, ends_at hs r.first i x is k e)))

-- before a hole that it meets
pub gives_before : (hs : List Range) (r : Range) (i : ℕ) (x : Range) → i ≡ ends_before hs r.first → i < length hs → x ≡ get_or hs i x
    → last_of r ≡ x.first → give_cells hs r ≡ add_before hs i r
gives_before hs r i x is k e meets = gives_at r (λ l n. add_before l n r) (Meets r) (λ h l n. refl) (before_front r) hs i is (here (Meets r) hs i x k e meets)

-- behind the last hole, which it meets
pub gives_behind_last : (hs : List Range) (r : Range) (i : ℕ) (x : Range) → 1 ≤ length r.cells → i ≡ ends_before hs r.first → i < length hs
    → x ≡ get_or hs i x → last_of x ≡ r.first
    → i + 1 ≡ length hs → give_cells hs r ≡ add_behind hs i r
gives_behind_last hs r i x some is k e meets all =
    gives_at r (λ l n. add_behind l n r) (MeetsLast r) (λ h l n. refl) (last_front r some) hs i is (here (MeetsLast r) hs i x k e (meets, past (IsFar r) hs (i + 1) all tt))

-- behind a hole that it meets, and before one that it doesn't
pub gives_behind : (hs : List Range) (r : Range) (i : ℕ) (x y : Range) → 1 ≤ length r.cells → AreOrdered (map run_of hs)
    → AreFreeOf (map run_of hs) (run_of r) → i ≡ ends_before hs r.first
    → i + 1 < length hs → x ≡ get_or hs i x → last_of x ≡ r.first → y ≡ get_or hs (i + 1) y → (last_of r ≡ y.first → ⊥) → give_cells hs r ≡ add_behind hs i r
gives_behind hs r i x y some o free is k e meets f apart =
    gives_at r (λ l n. add_behind l n r) (MeetsLast r) (λ h l n. refl) (last_front r some) hs i is
    (here (MeetsLast r) hs i x (omega (arith, k)) e (meets, here (IsFar r) hs (i + 1) y k f (by_side (free_at hs r (i + 1) y free k f))))
  where
    by_side : (last_of r ≤ y.first) ⊎ (last_of y ≤ r.first) → last_of r < y.first
    by_side (inl a) = omega (arith, a, apart)
    by_side (inr a) = let q = next_at hs i x y o k e f in absurd (omega (arith, a, q.0, q.1, meets))

-- between two holes that it meets
pub gives_between : (hs : List Range) (r : Range) (i : ℕ) (x y : Range) → 1 ≤ length r.cells → i ≡ ends_before hs r.first → i + 1 < length hs
    → x ≡ get_or hs i x → last_of x ≡ r.first
    → y ≡ get_or hs (i + 1) y → last_of r ≡ y.first → give_cells hs r ≡ add_between hs i r
gives_between hs r i x y some is k e meets f meets' =
    gives_at r (λ l n. add_between l n r) (MeetsBoth r) (λ h l n. refl) (both_front r some) hs i is
    (here (MeetsBoth r) hs i x (omega (arith, k)) e (meets, here (Meets r) hs (i + 1) y k f meets'))

-- ---- what the vector holds then

pub set_behind : (hs : List Range) (i : ℕ) (x r : Range) → i < length hs → x ≡ get_or hs i x → set hs i (joined x r) ≡ add_behind hs i r
set_behind [] i x r k e = refl
set_behind (h ∷ hs) zero x r k e = ap (λ (y : Range). joined y r ∷ hs) e
set_behind (h ∷ hs) (suc i) x r k e = ap (λ (l : List Range). h ∷ l) (set_behind hs i x r (omega (arith, k)) e)

pub set_before : (hs : List Range) (i : ℕ) (x r : Range) → i < length hs → x ≡ get_or hs i x → set hs i (joined r x) ≡ add_before hs i r
set_before [] i x r k e = refl
set_before (h ∷ hs) zero x r k e = ap (λ (y : Range). joined r y ∷ hs) e
set_before (h ∷ hs) (suc i) x r k e = ap (λ (l : List Range). h ∷ l) (set_before hs i x r (omega (arith, k)) e)

set_first : (y r x : Range) (hs : List Range) → 0 < length hs → y ≡ get_or hs 0 y → joined (joined x r) y ∷ drop 1 hs ≡ add_first (joined x r) hs
set_first y r x [] k e = absurd (omega (arith, k))
set_first y r x (h ∷ hs) k e = ap (λ (z : Range). joined (joined x r) z ∷ hs) e

pub set_between : (hs : List Range) (i : ℕ) (x y r : Range) → i + 1 < length hs → x ≡ get_or hs i x → y ≡ get_or hs (i + 1) y
    → set (remove hs (i + 1)) i (joined (joined x r) y) ≡ add_between hs i r
set_between [] i x y r k e f = absurd (omega (arith, k))
set_between (h ∷ hs) zero x y r k e f = set_first y r x hs (omega (arith, k)) f ∙ ap (λ (z : Range). add_first (joined z r) hs) e
set_between (h ∷ hs) (suc i) x y r k e f =
    let n : suc i + 1 ≡ suc (i + 1) = omega arith in
    ap (λ m. set (remove (h ∷ hs) m) (suc i) (joined (joined x r) y)) n
    ∙ ap (λ (l : List Range). h ∷ l) (set_between hs i x y r (omega (arith, k)) e (f ∙ ap (λ m. get_or (h ∷ hs) m y) n))

-- there is room for one more where there is for all behind it
pub room_for : (hs : List Range) (i : ℕ) (r : Range) (room : ℕ) → i ≤ length hs → insert hs i r ≡ give_cells hs r → length (give_cells hs r) ≤ room
    → length hs < room
room_for hs i r room k e few = omega (arith, one_more hs i k, ap (λ (l : List Range). length l) e, few)
  where
    one_more : (ks : List Range) (i : ℕ) → i ≤ length ks → length (insert ks i r) ≡ suc (length ks)
    one_more [] i k = let zero : i ≡ 0 = omega (arith, k) in ap (λ n. length (insert [] n r)) zero
    one_more (h ∷ ks) zero k = refl
    one_more (h ∷ ks) (suc i) k = ap suc (one_more ks i (omega (arith, k)))

-- ---- the runs that are out

pub begin_within : (rs : List Run) (first : ℕ) → begin_before rs first ≤ length rs
begin_within [] first = omega arith
begin_within (r ∷ rs) first = by_test (begin_within rs first) (nat_lt r.first first)
  where
    by_test : begin_before rs first ≤ length rs → (b : Bool) → (if b then suc (begin_before rs first) else 0) ≤ suc (length rs)
    by_test k true = omega (arith, k)
    by_test k false = omega arith

pub begin_more : (rs : List Run) (first mid : ℕ) (x : Run) → AreOrdered rs → mid < length rs → x ≡ get_or rs mid x → x.first < first
    → mid < begin_before rs first
begin_more [] first mid x o k e h = absurd (omega (arith, k))
begin_more (y ∷ rs) first zero x o k e h =
    let same : y.first ≡ x.first = ap (λ (z : Run). z.first) (sym e) in
    subst (λ n. 0 < n) (sym (cond-true {A = ℕ} (nat_lt y.first first) (suc (begin_before rs first)) 0 (lt-ltb y.first first (omega (arith, same, h))))) (omega arith)
begin_more (y ∷ rs) first (suc mid) x o k e h =
    let f = ordered_front y rs o in
    let next = begin_more rs first mid x f.2 (omega (arith, k)) e h in
    let sooner : y.first < first = omega (arith, one_from (end_of y) rs x f.1 f.2 (out_at rs mid x (omega (arith, k)) e), h, f.0) in
    subst (λ n. suc mid < n) (sym (cond-true {A = ℕ} (nat_lt y.first first) (suc (begin_before rs first)) 0 (lt-ltb y.first first sooner))) (omega (arith, next))
  where
    out_at : (ks : List Run) (i : ℕ) (x : Run) → i < length ks → x ≡ get_or ks i x → IsOut ks x
    out_at [] i x k e = absurd (omega (arith, k))
    out_at (z ∷ ks) zero x k e = inl (sym e)
    out_at (z ∷ ks) (suc i) x k e = inr (out_at ks i x (omega (arith, k)) e)

pub begin_less : (rs : List Run) (first mid : ℕ) (x : Run) → mid < length rs → x ≡ get_or rs mid x → first ≤ x.first → begin_before rs first ≤ mid
begin_less [] first mid x k e h = omega arith
begin_less (y ∷ rs) first mid x k e h = by_test (begin_less rs first) mid (nat_lt y.first first) refl k e
  where
    by_test : ((mid : ℕ) (x : Run) → mid < length rs → x ≡ get_or rs mid x → first ≤ x.first → begin_before rs first ≤ mid)
        → (mid : ℕ) (b : Bool) → nat_lt y.first first ≡ b → mid < suc (length rs) → x ≡ get_or (y ∷ rs) mid x
        → (if b then suc (begin_before rs first) else 0) ≤ mid
    by_test next mid false t k e = omega arith
    by_test next zero true t k e = absurd (omega (arith, ltb-true y.first first t, ap (λ (z : Run). z.first) e, h))
    by_test next (suc mid) true t k e = omega (arith, next mid x (omega (arith, k)) e h)

pub with_at : (rs : List Run) (r : Run) (i : ℕ) → AreOrdered rs → AreFreeOf rs r → 1 ≤ r.size → i ≡ begin_before rs r.first → insert rs i r ≡ with_run rs r
with_at [] r i o free some is = ap (λ n. insert [] n r) is
with_at (s ∷ rs) r i o free some is = by_test (λ i is. with_at rs r i (ordered_front s rs o).2 free.1 some is) i (nat_lt s.first r.first) refl is
  where
    later : (end_of r ≤ s.first) ⊎ (end_of s ≤ r.first) → r.first ≤ s.first → r.first < s.first
    later (inl a) h = omega (arith, a, some)
    later (inr a) h = absurd (omega (arith, a, h, (ordered_front s rs o).0))

    by_test : ((i : ℕ) → i ≡ begin_before rs r.first → insert rs i r ≡ with_run rs r) → (i : ℕ) (b : Bool) → nat_lt s.first r.first ≡ b
        → i ≡ (if b then suc (begin_before rs r.first) else 0)
        → insert (s ∷ rs) i r ≡ with_run (s ∷ rs) r
    by_test next zero true t is = absurd (omega (arith, is))
    by_test next zero false t is = sym (cond-true {A = List Run} (nat_lt r.first s.first) (r ∷ s ∷ rs) (s ∷ with_run rs r) (lt-ltb r.first s.first (later free.0 (ltb-false s.first r.first t))))
    by_test next (suc i) true t is =
        ap (λ (l : List Run). s ∷ l) (next i (omega (arith, is)))
        ∙ sym (cond-false {A = List Run} (nat_lt r.first s.first) (r ∷ s ∷ rs) (s ∷ with_run rs r) (le-ltb r.first s.first (omega (arith, ltb-true s.first r.first t))))
    by_test next (suc i) false t is = absurd (omega (arith, is))

pub without_at : (rs : List Run) (r : Run) (i : ℕ) → AreOrdered rs → IsOut rs r → i ≡ begin_before rs r.first
    → (i < length rs) × (remove rs i ≡ without_run rs r.first)
without_at [] r i o out is = absurd out
without_at (s ∷ rs) r i o out is = by_test (λ i out is. without_at rs r i (ordered_front s rs o).2 out is) i (nat_lt s.first r.first) refl is
  where
    f : (1 ≤ s.size) × AreFrom (end_of s) rs × AreOrdered rs
    f = ordered_front s rs o

    begins : (s ≡ r) ⊎ IsOut rs r → r.first ≤ s.first → s.first ≡ r.first
    begins (inl e) h = ap (λ (z : Run). z.first) e
    begins (inr k) h = absurd (omega (arith, one_from (end_of s) rs r f.1 f.2 k, f.0, h))

    by_test : ((i : ℕ) → IsOut rs r → i ≡ begin_before rs r.first → (i < length rs) × (remove rs i ≡ without_run rs r.first)) → (i : ℕ) (b : Bool)
        → nat_lt s.first r.first ≡ b
        → i ≡ (if b then suc (begin_before rs r.first) else 0) → (i < suc (length rs)) × (remove (s ∷ rs) i ≡ without_run (s ∷ rs) r.first)
    by_test next zero true t is = absurd (omega (arith, is))
    by_test next zero false t is =
        (omega arith, sym (cond-true {A = List Run} (s.first == r.first) rs (s ∷ without_run rs r.first) (eq-eqb s.first r.first (begins out (ltb-false s.first r.first t)))))
    by_test next (suc i) true t is =
        let before : s.first < r.first = ltb-true s.first r.first t in
        let q = next i (other_one s rs r out (λ e. omega (arith, e, before))) (omega (arith, is)) in (
          omega (arith, q.0),
          ap (λ (l : List Run). s ∷ l) q.1
              ∙ sym (cond-false {A = List Run} (s.first == r.first) rs (s ∷ without_run rs r.first) (ne_eqb s.first r.first (λ e. omega (arith, e, before)))),
        )
    by_test next (suc i) false t is = absurd (omega (arith, is))

pub begins_more : (rs : List Run) (first mid : ℕ) (d : Run) → AreOrdered rs → mid < length rs → (get_or rs mid d).first < first
    → mid + 1 ≤ begin_before rs first
begins_more rs first mid d o k h = omega (arith, begin_more rs first mid (get_or rs mid d) o k (get_or_default rs mid d (get_or rs mid d) k) h)

pub begins_less : (rs : List Run) (first mid : ℕ) (d : Run) → mid < length rs → first ≤ (get_or rs mid d).first → begin_before rs first ≤ mid
begins_less rs first mid d k h = begin_less rs first mid (get_or rs mid d) k (get_or_default rs mid d (get_or rs mid d) k) h

pub between_is : (hs now : List Range) (i : ℕ) (x y r v w : Range) → i + 1 < length hs → now ≡ remove hs (i + 1) → x ≡ get_or now i x
    → y ≡ get_or hs (i + 1) y → v ≡ joined x r → w ≡ joined v y
    → set now i w ≡ add_between hs i r
between_is hs now i x y r v w k is e f g m =
    let e' : x ≡ get_or hs i x = e ∙ ap (λ (l : List Range). get_or l i x) is ∙ get_or-remove_below hs (i + 1) x i (omega arith) k in
    ap (λ (l : List Range). set l i w) is ∙ ap (λ (z : Range). set (remove hs (i + 1)) i z) (m ∙ ap (λ (z : Range). joined z y) g) ∙ set_between hs i x y r k e' f

-- what a range meets, behind it, a range meets that ends with it
pub meet_behind : (x r y v : Range) → v ≡ joined x r → Meet x r → Meet r y → Meet v y
meet_behind x r y v e before behind = subst (λ (z : Range). Meet z y) (sym e) (record {
  arena = before.arena ∙ behind.arena;
  end = omega (arith, before.end, behind.end, length-append x.cells r.cells);
})

-- ---- the same, of the elements that the code reads

pub merged_last : (hs : List Range) (r : Range) (i : ℕ) → i ≡ ends_before hs r.first → i ≡ length hs → insert hs i r ≡ give_cells hs r
merged_last hs r i is all = sym (gives_last hs r i is all)

pub merged_far : (hs : List Range) (r : Range) (i : ℕ) → AreFreeOf (map run_of hs) (run_of r) → i ≡ ends_before hs r.first → i < length hs
    → ((get_or hs i r).first + length (get_or hs i r).cells ≡ r.first → ⊥) → (r.first + length r.cells ≡ (get_or hs i r).first → ⊥) → insert hs i r ≡ give_cells hs r
merged_far hs r i free is k a b = sym (gives_far hs r i (get_or hs i r) free is k (get_or_default hs i r (get_or hs i r) k) a b)

pub merged_before : (hs : List Range) (r : Range) (i : ℕ) → i ≡ ends_before hs r.first → i < length hs
    → r.first + length r.cells ≡ (get_or hs i r).first → add_before hs i r ≡ give_cells hs r
merged_before hs r i is k meets = sym (gives_before hs r i (get_or hs i r) is k (get_or_default hs i r (get_or hs i r) k) meets)

pub merged_behind_last : (hs : List Range) (r : Range) (i : ℕ) → 1 ≤ length r.cells → i ≡ ends_before hs r.first
    → (get_or hs i r).first + length (get_or hs i r).cells ≡ r.first → i + 1 ≡ length hs
    → add_behind hs i r ≡ give_cells hs r
merged_behind_last hs r i some is meets all =
    let k : i < length hs = omega (arith, all) in
    sym (gives_behind_last hs r i (get_or hs i r) some is k (get_or_default hs i r (get_or hs i r) k) meets all)

pub merged_behind : (hs : List Range) (r : Range) (i : ℕ) → 1 ≤ length r.cells → AreOrdered (map run_of hs) → AreFreeOf (map run_of hs) (run_of r)
    → i ≡ ends_before hs r.first → i + 1 < length hs
    → (get_or hs i r).first + length (get_or hs i r).cells ≡ r.first → (r.first + length r.cells ≡ (get_or hs (i + 1) r).first → ⊥) → add_behind hs i r ≡ give_cells hs r
merged_behind hs r i some o free is k meets apart =
    sym (gives_behind hs r i (get_or hs i r) (get_or hs (i + 1) r) some o free is k (get_or_default hs i r (get_or hs i r) (omega (arith, k))) meets (get_or_default hs (i + 1) r (get_or hs (i + 1) r) k) apart)

pub merged_between : (hs : List Range) (r : Range) (i : ℕ) → 1 ≤ length r.cells → i ≡ ends_before hs r.first → i + 1 < length hs
    → (get_or hs i r).first + length (get_or hs i r).cells ≡ r.first → r.first + length r.cells ≡ (get_or hs (i + 1) r).first → add_between hs i r ≡ give_cells hs r
merged_between hs r i some is k meets meets' =
    sym (gives_between hs r i (get_or hs i r) (get_or hs (i + 1) r) some is k (get_or_default hs i r (get_or hs i r) (omega (arith, k))) meets (get_or_default hs (i + 1) r (get_or hs (i + 1) r) k) meets')

arena_at : (a : Arena) (hs : List Range) (i : ℕ) (d : Range) → AreOf a hs → i < length hs → (get_or hs i d).arena ≡ a
arena_at a [] i d o k = absurd (omega (arith, k))
arena_at a (h ∷ hs) zero d o k = o.0
arena_at a (h ∷ hs) (suc i) d o k = arena_at a hs i d o.1 (omega (arith, k))

pub meets_last : (hs : List Range) (r : Range) (i : ℕ) → AreOf r.arena hs → i < length hs
    → (get_or hs i r).first + length (get_or hs i r).cells ≡ r.first → Meet (get_or hs i r) r
meets_last hs r i o k e = record { arena = arena_at r.arena hs i r o k; end = e }

pub meets_next : (hs : List Range) (r : Range) (i : ℕ) → AreOf r.arena hs → i < length hs → r.first + length r.cells ≡ (get_or hs i r).first
    → Meet r (get_or hs i r)
meets_next hs r i o k e = record { arena = sym (arena_at r.arena hs i r o k); end = e }

-- a hole at a place, read
pub ends_where : (hs : List Range) (i : ℕ) (x d : Range) → i < length hs → x ≡ get_or hs i x
    → x.first + length x.cells ≡ (get_or hs i d).first + length (get_or hs i d).cells
ends_where hs i x d k e = ap (λ (z : Range). z.first + length z.cells) (e ∙ get_or_default hs i x d k)

pub begins_where : (hs : List Range) (i : ℕ) (x d : Range) → i < length hs → x ≡ get_or hs i x → x.first ≡ (get_or hs i d).first
begins_where hs i x d k e = ap (λ (z : Range). z.first) (e ∙ get_or_default hs i x d k)

pub without_place : (rs : List Run) (r : Run) (i : ℕ) → AreOrdered rs → IsOut rs r → i ≡ begin_before rs r.first → i < length rs
without_place rs r i o out is = (without_at rs r i o out is).0

pub without_is : (rs : List Run) (r : Run) (i : ℕ) → AreOrdered rs → IsOut rs r → i ≡ begin_before rs r.first → remove rs i ≡ without_run rs r.first
without_is rs r i o out is = (without_at rs r i o out is).1
