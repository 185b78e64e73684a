-- Sets of locals beside the state of locals, and beside the parameters of blocks.
use Rattle.std.proofs.Common.{◌≡◌, ℕ, ◌+◌, ◌-◌, ◌<◌, ◌≤◌, Bool, true, false, List, [], ◌∷◌, ◌++◌, length, map, get_or, take, zero, suc, Option, Some, None, refl, sym, ap, ◌∙◌, subst, arith, inl, inr, ◌⊎◌}
use Rattle.std.specs.Prelude.{slice_get, slice_set, ◌||◌, ◌==◌, if◌then◌else◌}
use Rattle.std.specs.List.{AllByRecursion}
use Rattle.std.specs.Option.{option_map, option_map_or}
use Rattle.std.proofs.lemmas.Bool.{cases_lt}
use Rattle.std.proofs.lemmas.List.{get_or_append_left, get_or_past, take_more, take_all, length-append}
use Rattle.std.proofs.lemmas.Option.{slice_get-map, slice_get_read, get_or_from_slice_get}
use Rattle.std.proofs.Math.Seq.{get_or-append_seam}
use Rattle.grail_code.specs.Code.{Block, Func}
use Rattle.grail_code.specs.WellFormed.{params_at}
use Rattle.grail_check.specs.Faulting.{is_among, mark_fault, use_fault, uses_fault, jump_fault}
use Rattle.grail_check.specs.Sets.{Has, AreReady, AreUsable, HasAll, MayHaveAll, HaveParams}
use Rattle.grail_check.specs.declared.local_set.LocalSet.{LocalSet}
use Rattle.grail_check.specs.declared.locals.Mark.{Mark}
use Rattle.grail_check.specs.declared.locals.Mark.TheVariants as mark
use Rattle.grail_check.proofs.Checks.{or_none, all_then, is_same}
use Rattle.grail_check.proofs.LetLaws.{ready_mark}
use Rattle.grail_check.proofs.Playing.{IsReady, set_same, ready_after_bind, ready_after_spend}

-- ---- what is ready

pub none_ready : (marks : List Mark) (words : List ℕ) → ((x : ℕ) → Has words x → ⊥) → AreReady marks words
unfolding AreReady
none_ready marks words none x has = absurd (none x has)

pub more_ready : (marks : List Mark) (x : ℕ) (old new : List ℕ) → x < length marks → AreReady marks old → ((y : ℕ) → Has new y → (y ≡ x) ⊎ Has old y)
    → AreReady (slice_set marks x mark.Ready) new
unfolding AreReady
more_ready marks x old new less ready only y has = elim (only y has) [
  | inl e ↦ subst (λ z. IsReady (slice_set marks x mark.Ready) z) (sym e) (set_same marks x mark.Ready less)
  | inr h ↦ ready_after_bind marks x y (ready y h)
]

pub fewer_ready : (marks : List Mark) (x : ℕ) (old new : List ℕ) → AreReady marks old → ((y : ℕ) → Has new y → Has old y × (y ≡ x → ⊥))
    → AreReady (slice_set marks x mark.Spent) new
unfolding AreReady
fewer_ready marks x old new ready only y has =
    let (before, apart) = only y has in
    elim (ready_after_spend marks x y (ready y before)) [
      | inl r ↦ r
      | inr e ↦ absurd (apart (sym e))
    ]

-- ---- numbers one after the other

or_left : (a b : Bool) → a ≡ true → (a || b) ≡ true
or_left true b h = refl
or_left false b h = cc

or_right : (a b : Bool) → b ≡ true → (a || b) ≡ true
or_right true b h = refl
or_right false b h = h

among_at : (xs : List ℕ) (x i : ℕ) → i < length xs → get_or xs i 0 ≡ x → is_among xs x ≡ true
among_at [] x i less e = absurd (omega (arith, less))
among_at (y ∷ ys) x zero less e = or_left (y == x) (is_among ys x) (is_same y x e)
among_at (y ∷ ys) x (suc i) less e = or_right (y == x) (is_among ys x) (among_at ys x i (omega (arith, less)) e)

among_front : (xs ys : List ℕ) (x : ℕ) → is_among xs x ≡ true → is_among (xs ++ ys) x ≡ true
among_front [] ys x h = cc
among_front (z ∷ xs) ys x h = by_test (among_front xs ys x) (z == x) h
  where
    by_test : (is_among xs x ≡ true → is_among (xs ++ ys) x ≡ true) → (b : Bool) → (b || is_among xs x) ≡ true → (b || is_among (xs ++ ys) x) ≡ true
    by_test f true k = refl
    by_test f false k = f k

among_back : (xs : List ℕ) (x : ℕ) → is_among (xs ++ x ∷ []) x ≡ true
among_back [] x = or_left (x == x) false (is_same x x refl)
among_back (z ∷ xs) x = or_right (z == x) (is_among (xs ++ x ∷ []) x) (among_back xs x)

pub extended : (numbers old now new : List ℕ) (n i : ℕ) → i < length numbers → get_or numbers i 0 ≡ n
    → ((x : ℕ) → Has now x → (is_among numbers x ≡ true) ⊎ Has old x) → ((x : ℕ) → Has new x → (x ≡ n) ⊎ Has now x)
    → (x : ℕ) → Has new x → (is_among numbers x ≡ true) ⊎ Has old x
extended numbers old now new n i less at before only x has = elim (only x has) [
  | inl e ↦ inl (among_at numbers x i less (at ∙ sym e))
  | inr h ↦ before x h
]

all_and_one : (P : ℕ → Type 0) (xs : List ℕ) (y : ℕ) → AllByRecursion P xs → P y → AllByRecursion P (xs ++ y ∷ [])
all_and_one P [] y h k = (k, tt)
all_and_one P (x ∷ xs) y h k = (h.0, all_and_one P xs y h.1 k)

pub one_number : (numbers old new : List ℕ) (i : ℕ) → i < length numbers → HasAll old (take i numbers) → ((x : ℕ) → Has old x → Has new x)
    → Has new (get_or numbers i 0)
    → HasAll new (take (i + 1) numbers)
unfolding HasAll
one_number numbers old new i less before keeps adds =
    subst (λ xs. AllByRecursion (Has new) xs) (sym (take_more numbers i 0 less))
    (all_and_one (Has new) (take i numbers) (get_or numbers i 0) (all_then (Has old) (Has new) (take i numbers) keeps before) adds)

pub no_number : (numbers words : List ℕ) → HasAll words (take 0 numbers)
unfolding HasAll
no_number numbers words = tt

pub all_numbers : (numbers words : List ℕ) (i : ℕ) → length numbers ≤ i → HasAll words (take i numbers) → HasAll words numbers
all_numbers numbers words i past h = subst (λ xs. HasAll words xs) (take_all i numbers past) h

-- ---- what may be used behind an arm

pub usable_fields : (marks : List Mark) (fields ready words : List ℕ) → AreReady marks ready
    → ((x : ℕ) → Has words x → (is_among fields x ≡ true) ⊎ Has ready x) → AreUsable marks (fields ++ []) words
unfolding AreReady AreUsable
usable_fields marks fields ready words says only x has = elim (only x has) [
  | inl a ↦ inl (among_front fields [] x a)
  | inr h ↦ inr (says x h)
]

pub usable_kept : (marks : List Mark) (fields ready words new : List ℕ) (d : ℕ) → AreReady marks ready
    → ((x : ℕ) → Has words x → (is_among fields x ≡ true) ⊎ Has ready x)
    → ((x : ℕ) → Has new x → (x ≡ d) ⊎ Has words x) → AreUsable marks (fields ++ d ∷ []) new
unfolding AreReady AreUsable
usable_kept marks fields ready words new d says only more x has = elim (more x has) [
  | inl e ↦ inl (subst (λ z. is_among (fields ++ d ∷ []) z ≡ true) (sym e) (among_back fields d))
  | inr h ↦ elim (only x h) [
    | inl a ↦ inl (among_front fields (d ∷ []) x a)
    | inr k ↦ inr (says x k)
  ]
]

-- ---- jumps that are fine

usable_passes : (marks : List Mark) (bound : List ℕ) (x : ℕ) → (is_among bound x ≡ true) ⊎ IsReady marks x → use_fault marks bound x ≡ None
usable_passes marks bound x h = by_test (is_among bound x) refl h
  where
    by_test : (b : Bool) → is_among bound x ≡ b → (is_among bound x ≡ true) ⊎ IsReady marks x → (if b then None else mark_fault (slice_get marks x)) ≡ None
    by_test true e k = refl
    by_test false e (inl a) = cc
    by_test false e (inr r) = ready_mark (slice_get marks x) r

uses_fine : (marks : List Mark) (bound xs : List ℕ) → AllByRecursion (λ x. (is_among bound x ≡ true) ⊎ IsReady marks x) xs → uses_fault marks bound xs ≡ None
uses_fine marks bound [] h = refl
uses_fine marks bound (x ∷ xs) h = or_none (use_fault marks bound x) _ (usable_passes marks bound x h.0) (uses_fine marks bound xs h.1)

-- a jump is fine where all parameters of its target may be used
pub no_fault : (f : Func) (marks : List Mark) (bound words : List ℕ) (b : ℕ) → AreUsable marks bound words → HasAll words (params_at f.blocks b)
    → jump_fault f marks bound b ≡ None
unfolding AreUsable HasAll
no_fault f marks bound words b usable all = uses_fine marks bound (params_at f.blocks b) (all_then (Has words) (λ x. (is_among bound x ≡ true) ⊎ IsReady marks x) (params_at f.blocks b) usable all)

-- ---- the parameters of blocks

pub no_block : (blocks : List Block) → HaveParams [] blocks
unfolding HaveParams
no_block blocks b = tt

pub one_block_more : {B : Type 0} (f : B → Block) (sets : List (Option LocalSet)) (set : Option LocalSet) (items : List B) (block : B) (i : ℕ)
    → length sets ≡ i → i < length items → block ≡ get_or items i block → HaveParams sets (map f items) → MayHaveAll set (f block).params → HaveParams (sets ++ set ∷ []) (map f items)
unfolding HaveParams
one_block_more f sets set items block i count less at before has b = by_order (cases_lt b (length sets))
  where
    here : params_at (map f items) i ≡ (f block).params
    here = ap (λ o. option_map_or (λ block. block.params) o []) (slice_get-map f items i ∙ ap (option_map f) (slice_get_read items (length items) i block refl less at))

    by_place : (c : ℕ) → b ≡ length sets + c → MayHaveAll (get_or (sets ++ set ∷ []) b None) (params_at (map f items) b)
    by_place zero e =
        let place : b ≡ length sets = omega (arith, e) in
        subst (λ n. MayHaveAll (get_or (sets ++ set ∷ []) n None) (params_at (map f items) n)) (sym place)
        (subst (λ o. MayHaveAll o (params_at (map f items) (length sets))) (sym (get_or-append_seam sets set [] None))
        (subst (λ xs. MayHaveAll set xs) (sym (ap (params_at (map f items)) count ∙ here)) has))
    by_place (suc c) e =
        let past : length (sets ++ set ∷ []) ≤ b = omega (arith, e, length-append sets (set ∷ [])) in
        subst (λ o. MayHaveAll o (params_at (map f items) b)) (sym (get_or_past (sets ++ set ∷ []) b None past)) tt

    by_order : (b < length sets) ⊎ (length sets ≤ b) → MayHaveAll (get_or (sets ++ set ∷ []) b None) (params_at (map f items) b)
    by_order (inl front) = subst (λ o. MayHaveAll o (params_at (map f items) b)) (sym (get_or_append_left sets (set ∷ []) None b front)) (before b)
    by_order (inr more) = by_place (b - length sets) (omega (arith, more))

pub covered : (sets : List (Option LocalSet)) (blocks : List Block) (b : ℕ) (set : LocalSet) (words : List ℕ) → HaveParams sets blocks
    → slice_get sets b ≡ Some (Some set)
    → ((x : ℕ) → Has set.words x → Has words x) → HasAll words (params_at blocks b)
unfolding HaveParams HasAll
covered sets blocks b set words known found keeps =
    all_then (Has set.words) (Has words) (params_at blocks b) keeps
    (subst (λ o. MayHaveAll o (params_at blocks b)) (get_or_from_slice_get sets b (Some set) None found) (known b))
