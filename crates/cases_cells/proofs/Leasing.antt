-- The leases of a desk of several tenants that are out: one more, one less, and all of them back.
use Rattle.std.proofs.Common.{◌≡◌, ◌≢◌, ◌⊎◌, inl, inr, ℕ, zero, suc, ◌+◌, ◌-◌, ◌<◌, ◌≤◌, Bool, true, false, if◌then◌else◌, List, [], ◌∷◌, ◌++◌, length, map, replicate, take, drop, get_or, Some, refl, sym, ap, ◌∙◌, subst, arith}
use Rattle.std.specs.Prelude.{slice_get, slice_set, slice_index_or, remove, sum, nat_lt}
use Rattle.std.specs.Option.{option_map}
use Rattle.std.specs.List.{AllByRecursion}
use Rattle.std.proofs.lemmas.Bool.{cases_eq}
use Rattle.std.proofs.lemmas.List.{map-set, append-nil}
use Rattle.std.proofs.lemmas.List.Sums.{sum_by-append}
use Rattle.std.proofs.lemmas.Option.{slice_get-map, get_or_from_slice_get, same_Some}
use Rattle.cell_span.specs.Arenas.{Arena}
use Rattle.cell_span.specs.Range.{Range, back}
use Rattle.hole_list.specs.declared.run.Run.{Run}
use Rattle.hole_list.specs.Placing.{end_of, AreOrdered, IsOut, with_run}
use Rattle.hole_list.specs.Holes.{Holed, AreHoles, run_of, with_given}
use Rattle.hole_list.specs.OutLaws.{AreFrom, ordered_front, one_from, with_this, with_length, without_length}
use Rattle.tenant_desk.specs.Leases.{LeaseView}
use Rattle.tenant_desk.specs.Desk.{Tenants, new_tenants, pieces_of, with_piece, IsGranted, IsHeld, IsGiven, NoneOut}
use Rattle.tenant_desk.specs.Kept.{AreTenants, AreInLine}
use Rattle.cases_cells.specs.Tenanted.{Differ, AllDiffer, runs_out, AreCounts, AllOut, WasAmong, IsLike}

-- ---- lists

cut_at : {A : Type 0} (xs : List A) (i : ℕ) (x : A) → i < length xs → x ≡ slice_index_or xs i x → xs ≡ take i xs ++ x ∷ drop (suc i) xs
cut_at [] i x m e = absurd (omega (arith, m))
cut_at (y ∷ xs) zero x m e = ap (λ z. z ∷ xs) (sym e)
cut_at (y ∷ xs) (suc i) x m e = ap (λ zs. y ∷ zs) (cut_at xs i x (omega (arith, m)) e)

pub among : (old new : List LeaseView) (at : ℕ) (l : LeaseView) → at < length old → l ≡ slice_index_or old at l → new ≡ remove old at → WasAmong old new l
among old new at l m e f = record { before = take at old; behind = drop (suc at) old; was = cut_at old at l m e; now = f }

length_among : (xs ys : List LeaseView) (l : LeaseView) → length (xs ++ l ∷ ys) ≡ suc (length (xs ++ ys))
length_among [] ys l = refl
length_among (x ∷ xs) ys l = ap suc (length_among xs ys l)

module _ {A : Type 0} (P : A → Type 0) where
  all_both : (xs ys : List A) → AllByRecursion P xs → AllByRecursion P ys → AllByRecursion P (xs ++ ys)
  all_both [] ys a b = b
  all_both (x ∷ xs) ys a b = (a.0, all_both xs ys a.1 b)

  all_front : (xs ys : List A) → AllByRecursion P (xs ++ ys) → AllByRecursion P xs
  all_front [] ys a = tt
  all_front (x ∷ xs) ys a = (a.0, all_front xs ys a.1)

  all_behind : (xs ys : List A) → AllByRecursion P (xs ++ ys) → AllByRecursion P ys
  all_behind [] ys a = a
  all_behind (x ∷ xs) ys a = all_behind xs ys a.1

  all_then : (Q : A → Type 0) → ((x : A) → P x → Q x) → (xs : List A) → AllByRecursion P xs → AllByRecursion Q xs
  all_then Q f [] a = tt
  all_then Q f (x ∷ xs) a = (f x a.0, all_then Q f xs a.1)

  all_two : (Q R : A → Type 0) → ((x : A) → P x → Q x → R x) → (xs : List A) → AllByRecursion P xs → AllByRecursion Q xs → AllByRecursion R xs
  all_two Q R f [] a b = tt
  all_two Q R f (x ∷ xs) a b = (f x a.0 b.0, all_two Q R f xs a.1 b.1)

-- the first number and the others
sum_front : (z : ℕ) (xs : List ℕ) → sum (z ∷ xs) ≡ z + sum xs
sum_front z xs = sum_by-append (λ x. x) (z ∷ []) xs ∙ (let e : 0 + z + sum xs ≡ z + sum xs = omega arith in e)

set_sum : (xs : List ℕ) (i x y : ℕ) → slice_get xs i ≡ Some x → sum (slice_set xs i y) + x ≡ sum xs + y
set_sum [] i x y e = absurd (grind (arith, e))
set_sum (z ∷ xs) zero x y e = let same : z ≡ x = same_Some z x e in omega (arith, same, sum_front z xs, sum_front y xs)
set_sum (z ∷ xs) (suc i) x y e = omega (arith, set_sum xs i x y e, sum_front z xs, sum_front z (slice_set xs i y))

set_here : (hs : List Holed) (i : ℕ) (x y : Holed) → slice_get hs i ≡ Some x → slice_get (slice_set hs i y) i ≡ Some y
set_here [] i x y e = absurd (grind (arith, e))
set_here (z ∷ hs) zero x y e = refl
set_here (z ∷ hs) (suc i) x y e = set_here hs i x y e

-- ---- no two of one tenant that begin at one index

differ_turned : (l m : LeaseView) → Differ l m → Differ m l
differ_turned l m (inl n) = inl (λ e. n (sym e))
differ_turned l m (inr n) = inr (λ e. n (sym e))

differ_out : (xs ys : List LeaseView) (l : LeaseView) → AllDiffer (xs ++ l ∷ ys) → AllByRecursion (Differ l) (xs ++ ys) × AllDiffer (xs ++ ys)
differ_out [] ys l k = k
differ_out (x ∷ xs) ys l k =
    let next : AllByRecursion (Differ l) (xs ++ ys) × AllDiffer (xs ++ ys) = differ_out xs ys l k.1 in
    let from : AllByRecursion (Differ x) (l ∷ ys) = all_behind (Differ x) xs (l ∷ ys) k.0 in
    ((differ_turned x l from.0, next.0), (all_both (Differ x) xs ys (all_front (Differ x) xs (l ∷ ys) k.0) from.1, next.1))

differ_in : (xs : List LeaseView) (l : LeaseView) → AllByRecursion (Differ l) xs → AllDiffer xs → AllDiffer (xs ++ l ∷ [])
differ_in [] l a k = (tt, tt)
differ_in (x ∷ xs) l a k = (all_both (Differ x) xs (l ∷ []) k.0 (differ_turned l x a.0, tt), differ_in xs l a.1 k.1)

-- ---- a lease in front of the others, and behind them

out_front : (xs ys : List LeaseView) (l : LeaseView) (d : Tenants) (outs : List ℕ) → AllOut (xs ++ l ∷ ys) d outs → AllOut (l ∷ xs ++ ys) d outs
out_front xs ys l d outs k =
    let behind : AllByRecursion (IsHeld d) (l ∷ ys) = all_behind (IsHeld d) xs (l ∷ ys) k.held in
    record {
      held = (behind.0, all_both (IsHeld d) xs ys (all_front (IsHeld d) xs (l ∷ ys) k.held) behind.1);
      differ = differ_out xs ys l k.differ;
      counts = k.counts;
      all = k.all ∙ length_among xs ys l;
    }

pub in_front : (old now : List LeaseView) (l : LeaseView) (d : Tenants) (outs : List ℕ) → WasAmong old now l → AllOut old d outs → AllOut (l ∷ now) d outs
in_front old now l d outs w k =
    subst (λ (ls : List LeaseView). AllOut (l ∷ ls) d outs) (sym w.now)
    (out_front w.before w.behind l d outs (subst (λ (ls : List LeaseView). AllOut ls d outs) w.was k))

pub at_end : (ls now : List LeaseView) (l : LeaseView) (d : Tenants) (outs : List ℕ) → AllOut (l ∷ ls) d outs → now ≡ ls ++ l ∷ [] → AllOut now d outs
at_end ls now l d outs k e = subst (λ (xs : List LeaseView). AllOut xs d outs) (sym e) (record {
  held = all_both (IsHeld d) ls (l ∷ []) k.held.1 (k.held.0, tt);
  differ = differ_in ls l k.differ.0 k.differ.1;
  counts = k.counts;
  all = k.all ∙ ap suc (ap length (sym (append-nil ls))) ∙ sym (length_among ls [] l);
})

pub popped : (old now : List LeaseView) (l : LeaseView) → old ≡ now ++ l ∷ [] → WasAmong old now l
popped old now l e = record { before = now; behind = []; was = e; now = sym (append-nil now) }

-- ---- a lease with other cells

like_held : (d : Tenants) (l m : LeaseView) → IsLike l m → IsHeld d l → IsHeld d m
like_held d l m s q = record {
  piece = q.piece;
  there = ap (slice_get d.pieces) s.tenant ∙ q.there;
  out = subst (IsOut q.piece.out) (sym s.run) q.out;
  arena = s.arena ∙ q.arena;
}

like_differ : (l m x : LeaseView) → IsLike l m → Differ l x → Differ m x
like_differ l m x s (inl n) = inl (λ e. n (e ∙ s.tenant))
like_differ l m x s (inr n) = inr (λ e. n (e ∙ ap (λ (r : Run). r.first) s.run))

pub like_out : (old now last : List LeaseView) (l m : LeaseView) (d : Tenants) (outs : List ℕ) → AllOut old d outs → WasAmong old now l → IsLike l m
    → last ≡ now ++ m ∷ [] → AllOut last d outs
like_out old now last l m d outs all w s e = at_end now last m d outs marked e
  where
    marked : AllOut (m ∷ now) d outs
    marked = let k : AllOut (l ∷ now) d outs = in_front old now l d outs w all in record {
      held = (like_held d l m s k.held.0, k.held.1);
      differ = (all_then (Differ l) (Differ m) (λ x. like_differ l m x s) now k.differ.0, k.differ.1);
      counts = k.counts;
      all = k.all;
    }

-- ---- one less

pub first_held : (old now : List LeaseView) (l : LeaseView) (d : Tenants) (outs : List ℕ) → AllOut old d outs → WasAmong old now l → IsHeld d l
first_held old now l d outs k w = (in_front old now l d outs w k).held.0

pub count_at : (d : Tenants) (i : ℕ) (h : Holed) (outs : List ℕ) → AreCounts d outs → slice_get d.pieces i ≡ Some h → slice_get outs i ≡ Some (runs_out h)
count_at d i h outs k e = ap (λ (l : List ℕ). slice_get l i) k ∙ slice_get-map runs_out d.pieces i ∙ ap (option_map runs_out) e

some_out : (rs : List Run) (r : Run) → IsOut rs r → 1 ≤ length rs
some_out [] r k = absurd k
some_out (s ∷ rs) r k = omega arith

with_counts : (old new : Tenants) (i n : ℕ) (h : Holed) (outs now : List ℕ) → AreCounts old outs → new ≡ with_piece old i h → now ≡ slice_set outs i n → n ≡ runs_out h
    → AreCounts new now
with_counts old new i n h outs now k is e f =
    e ∙ ap (λ (l : List ℕ). slice_set l i n) k ∙ ap (λ m. slice_set (map runs_out old.pieces) i m) f ∙ sym (map-set runs_out old.pieces i h)
    ∙ ap (λ (d : Tenants). map runs_out d.pieces) (sym is)

-- so many leases of the tenant are out, as its piece says
read_count : (d : Tenants) (l : LeaseView) (outs : List ℕ) (i n : ℕ) → i ≡ l.tenant → (q : IsHeld d l) → AreCounts d outs → n ≡ get_or outs i n → n ≡ runs_out q.piece
read_count d l outs i n t q k e =
    e ∙ ap (λ j. get_or outs j n) t ∙ get_or_from_slice_get outs l.tenant (runs_out q.piece) n (count_at d l.tenant q.piece outs k q.there)

pub some_count : (d : Tenants) (l : LeaseView) (outs : List ℕ) (i n : ℕ) → i ≡ l.tenant → IsHeld d l → AreCounts d outs → n ≡ get_or outs i n → 1 ≤ n
some_count d l outs i n t q k e = omega (arith, some_out q.piece.out (run_of l.range) q.out, read_count d l outs i n t q k e)

pub given_counts : (old new : Tenants) (l : LeaseView) (outs : List ℕ) (i n : ℕ) → i ≡ l.tenant → IsHeld old l → IsGiven old new l → AreCounts old outs
    → n ≡ get_or outs i n → AreCounts new (slice_set outs i (n - 1))
given_counts old new l outs i n t q g k e =
    let same : q.piece ≡ g.piece = same_Some q.piece g.piece (sym q.there ∙ g.there) in
    let out : IsOut g.piece.out (run_of l.range) = subst (λ (h : Holed). IsOut h.out (run_of l.range)) same q.out in
    let less : suc (length (with_given g.piece l.range).out) ≡ length g.piece.out = without_length g.piece.out (run_of l.range) out in
    let many : n ≡ length g.piece.out = read_count old l outs i n t q k e ∙ ap runs_out same in
    with_counts old new l.tenant (n - 1) (with_given g.piece l.range) outs (slice_set outs i (n - 1)) k g.becomes (ap (λ j. slice_set outs j (n - 1)) t)
    (omega (arith, less, many))

pub given_sum : (d : Tenants) (l : LeaseView) (outs : List ℕ) (i n : ℕ) → i ≡ l.tenant → IsHeld d l → AreCounts d outs → n ≡ get_or outs i n
    → suc (sum (slice_set outs i (n - 1))) ≡ sum outs
given_sum d l outs i n t q k e =
    let there : slice_get outs l.tenant ≡ Some n = count_at d l.tenant q.piece outs k q.there ∙ ap (λ m. Some m) (sym (read_count d l outs i n t q k e)) in
    let set : sum (slice_set outs i (n - 1)) + n ≡ sum outs + (n - 1) = set_sum outs i n (n - 1) (subst (λ j. slice_get outs j ≡ Some n) (sym t) there) in
    let some : 1 ≤ n = some_count d l outs i n t q k e in
    omega (arith, set, some)

-- the law on leases that stay when one comes back
abbrev pub Given : Type 0
Given = (old new : Tenants) (l m : LeaseView) → IsGiven old new l → IsHeld old m → (m.tenant ≢ l.tenant) ⊎ (m.range.first ≢ l.range.first) → IsHeld new m

pub given_out : Given → (old now : List LeaseView) (l : LeaseView) (d e : Tenants) (outs left : List ℕ) → AllOut old d outs → WasAmong old now l
    → IsGiven d e l → AreCounts e left → suc (sum left) ≡ sum outs → AllOut now e left
given_out law old now l d e outs left all w g c s =
    let k : AllOut (l ∷ now) d outs = in_front old now l d outs w all in
    record {
      held = all_two (IsHeld d) (Differ l) (IsHeld e) (λ m q o. law d e l m g q o) now k.held.1 k.differ.0;
      differ = k.differ.1;
      counts = c;
      all = let many : sum outs ≡ suc (length now) = k.all in omega (arith, many, s);
    }

-- ---- one more

-- the laws on leases that are granted, and on those beside them
abbrev pub Granted : Type 0
Granted = (old new : Tenants) (tenant size : ℕ) (l : LeaseView) → AreTenants old → 1 ≤ size → IsGranted old new tenant size l → IsHeld new l

abbrev pub Beside : Type 0
Beside = (old new : Tenants) (tenant size : ℕ) (l m : LeaseView) → IsGranted old new tenant size l → IsHeld old m → IsHeld new m

-- a run that is out with these in order begins where none of them does
fresh : (ss : List Run) (r q : Run) → AreOrdered (with_run ss r) → IsOut ss q → q.first ≡ r.first → ⊥
fresh [] r q o k e = k
fresh (s ∷ ss) r q o k e = by_test (λ p i. fresh ss r q p i e) (nat_lt r.first s.first) o k
  where
    by_test : (AreOrdered (with_run ss r) → IsOut ss q → ⊥) → (b : Bool) → AreOrdered (if b then r ∷ s ∷ ss else s ∷ with_run ss r) → (s ≡ q) ⊎ IsOut ss q → ⊥
    by_test next true p i =
        let f : (1 ≤ r.size) × AreFrom (end_of r) (s ∷ ss) × AreOrdered (s ∷ ss) = ordered_front r (s ∷ ss) p in
        let from : end_of r ≤ q.first = one_from (end_of r) (s ∷ ss) q f.1 f.2 i in
        omega (arith, from, f.0, e)
    by_test next false p (inl is) =
        let f : (1 ≤ s.size) × AreFrom (end_of s) (with_run ss r) × AreOrdered (with_run ss r) = ordered_front s (with_run ss r) p in
        let from : end_of s ≤ r.first = one_from (end_of s) (with_run ss r) r f.1 f.2 (with_this ss r) in
        let same : s.first ≡ q.first = ap (λ (x : Run). x.first) is in
        omega (arith, from, f.0, e, same)
    by_test next false p (inr i) = next (ordered_front s (with_run ss r) p).2 i

holes_in : (a : Arena) (most from : ℕ) (hs : List Holed) (rest : List Range) (i : ℕ) (h : Holed) → AreInLine a most from hs rest → slice_get hs i ≡ Some h → AreHoles h
holes_in a most from [] rest i h k e = absurd (grind (arith, e))
holes_in a most from (x ∷ hs) rest zero h k e = subst AreHoles (same_Some x h e) k.0.holes
holes_in a most from (x ∷ hs) rest (suc i) h k e = holes_in a most (end_of x.base) hs rest i h k.1 e

granted_differs : (old new : Tenants) (tenant size : ℕ) (l m : LeaseView) → AreTenants new → IsGranted old new tenant size l → IsHeld old m → Differ l m
granted_differs old new tenant size l m t k q = by_tenant (cases_eq m.tenant l.tenant)
  where
    of : l.tenant ≡ tenant
    of = ap (λ (x : LeaseView). x.tenant) k.leased

    here : slice_get new.pieces tenant ≡ Some k.after
    here = ap (λ (d : Tenants). slice_get d.pieces tenant) k.becomes ∙ set_here old.pieces tenant k.piece k.after k.there

    order : AreOrdered (with_run k.piece.out (run_of l.range))
    order = subst AreOrdered (ap (λ (h : Holed). h.out) k.took.1) (holes_in new.arena new.most 0 new.pieces new.rest tenant k.after t.line here).order

    by_tenant : (m.tenant ≡ l.tenant) ⊎ ((m.tenant ≡ l.tenant) → ⊥) → Differ l m
    by_tenant (inr n) = inl n
    by_tenant (inl e) =
        let same : q.piece ≡ k.piece = same_Some q.piece k.piece (sym q.there ∙ ap (slice_get old.pieces) (e ∙ of) ∙ k.there) in
        let out : IsOut k.piece.out (run_of m.range) = subst (λ (h : Holed). IsOut h.out (run_of m.range)) same q.out in
        inr (λ f. fresh k.piece.out (run_of l.range) (run_of m.range) order out f)

pub granted_out : Granted → Beside → (ls last : List LeaseView) (old new : Tenants) (tenant size : ℕ) (l : LeaseView) (outs now : List ℕ) (n m : ℕ)
    → AreTenants old → AreTenants new → 1 ≤ size → IsGranted old new tenant size l → AllOut ls old outs
    → n ≡ get_or outs tenant n → m ≡ n + 1 → now ≡ slice_set outs tenant m → last ≡ ls ++ l ∷ [] → AllOut last new now
granted_out granted beside ls last old new tenant size l outs now n m s t some k a e f is g = at_end ls last l new now more g
  where
    many : n ≡ runs_out k.piece
    many = e ∙ get_or_from_slice_get outs tenant (runs_out k.piece) n (count_at old tenant k.piece outs a.counts k.there)

    at : slice_get outs tenant ≡ Some n
    at = count_at old tenant k.piece outs a.counts k.there ∙ ap (λ x. Some x) (sym many)

    one : runs_out k.after ≡ suc (runs_out k.piece)
    one = ap (λ (h : Holed). length h.out) k.took.1 ∙ with_length k.piece.out (run_of l.range)

    more : AllOut (l ∷ ls) new now
    more = record {
      held = (granted old new tenant size l s some k, all_then (IsHeld old) (IsHeld new) (λ x. beside old new tenant size l x k) ls a.held);
      differ = (all_then (IsHeld old) (Differ l) (λ x. granted_differs old new tenant size l x t k) ls a.held, a.differ);
      counts = with_counts old new tenant m k.after outs now a.counts k.becomes is (omega (arith, many, one, f));
      all = let add : sum (slice_set outs tenant m) + n ≡ sum outs + m = set_sum outs tenant n m at in
          let same : sum now ≡ sum (slice_set outs tenant m) = ap sum is in
          let was : sum outs ≡ length ls = a.all in omega (arith, add, same, was, f);
    }

-- ---- at first, and at the end

none_yet : (r : Range) (bs : List ℕ) (most : ℕ) → replicate (length bs) 0 ≡ map runs_out (pieces_of r bs most)
none_yet r [] most = refl
none_yet r (b ∷ bs) most = ap (λ (l : List ℕ). 0 ∷ l) (none_yet (back r b) bs most)

no_sum : (n : ℕ) → sum (replicate n 0) ≡ 0
no_sum zero = refl
no_sum (suc n) = no_sum n

pub first_out : (r : Range) (bs : List ℕ) (most n : ℕ) (d : Tenants) (outs : List ℕ) (ls : List LeaseView) → d ≡ new_tenants r bs most → outs ≡ replicate n 0 → n ≡ length bs
    → ls ≡ [] → AllOut ls d outs
first_out r bs most n d outs ls is e m f = subst (λ (xs : List LeaseView). AllOut xs d outs) (sym f) (record {
  held = tt;
  differ = tt;
  counts = e ∙ ap (λ k. replicate k 0) m ∙ none_yet r bs most ∙ ap (λ (x : Tenants). map runs_out x.pieces) (sym is);
  all = ap sum e ∙ no_sum n;
})

no_run : (rs : List Run) → length rs ≡ 0 → rs ≡ []
no_run [] e = refl
no_run (r ∷ rs) e = absurd (omega (arith, e))

no_runs : (hs : List Holed) → sum (map runs_out hs) ≡ 0 → NoneOut hs
no_runs [] e = tt
no_runs (h ∷ hs) e =
    let both : length h.out + sum (map runs_out hs) ≡ 0 = sym (sum_front (length h.out) (map runs_out hs)) ∙ e in
    (no_run h.out (omega (arith, both)), no_runs hs (omega (arith, both)))

pub none_out : (ls : List LeaseView) (d : Tenants) (outs : List ℕ) → AllOut ls d outs → length ls ≡ 0 → NoneOut d.pieces
none_out ls d outs k e = no_runs d.pieces (ap sum (sym k.counts) ∙ k.all ∙ e)
