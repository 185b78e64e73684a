-- Marks of locals.
use Rattle.std.proofs.Common.{◌≡◌, ℕ, zero, suc, ◌+◌, ◌-◌, ◌≤◌, ◌<◌, Bool, true, false, List, [], ◌∷◌, ◌++◌, length, map, get_or, take, drop, refl, sym, ap, ◌∙◌, subst, arith, append-nil}
use Rattle.std.specs.Prelude.{◌==◌, ◌||◌, ◌&&◌, not, cond}
use Rattle.camelot_values.specs.Lists.{is_among}
use Rattle.normal_form.specs.Live.{LaterMarks, Marks, unless_bound}
use Rattle.grail_blocks.specs.declared.blocks.Let.{Let as DeclaredLet}
use Rattle.grail_blocks.specs.declared.blocks.CaseArm.{CaseArm as DeclaredArm}
use Rattle.grail_blocks.specs.declared.blocks.CaseCell.{CaseCell}
use Rattle.grail_blocks.specs.declared.blocks.CaseCell.TheVariants as cell
use Rattle.grail_blocks.specs.Blocks.{CaseArm, arm_of, let_of}
use Rattle.grail_blocks.specs.Events.{bound_by, kept_diamond}
use Rattle.code_gen.specs.declared.local_set.LocalSet.{LocalSet}
use Rattle.code_gen.specs.Marked.{IsMarked, IsNext, arms_live, either_live, has, marks_at, told, unless_among, with_one, with_these}
use Rattle.std.specs.List.{filter, range_with_len}
use Rattle.code_gen.proofs.Sorted.{passing}

-- ---- in turn

pub marked_none : (ms : LocalSet) (xs : List ℕ) (live : Marks) → IsMarked ms live → IsMarked ms (with_these (take 0 xs) live)
marked_none ms xs live m = record { each = m.each }

among_next : (xs : List ℕ) (i j y : ℕ) → j ≡ suc i → i < length xs → is_among (take j xs) y ≡ ((get_or xs i 0 == y) || is_among (take i xs) y)
among_next xs i zero y e h = absurd (omega (arith, e))
among_next [] i (suc j) y e h = absurd (omega (arith, h))
among_next (x ∷ xs) zero (suc j) y e h = let same : j ≡ 0 = omega (arith, e) in ap (λ k. (x == y) || is_among (take k xs) y) same
among_next (x ∷ xs) (suc i) (suc j) y e h = ap (λ b. (x == y) || b) (among_next xs i j y (omega (arith, e)) (omega (arith, h))) ∙ swapped (x == y) (get_or xs i 0 == y) (is_among (take i xs) y)
  where
    swapped : (a b c : Bool) → (a || (b || c)) ≡ (b || (a || c))
    swapped true true c = refl
    swapped true false c = refl
    swapped false b c = refl

pub marked_more : (ms : LocalSet) (xs : List ℕ) (i : ℕ) (live : Marks) → i < length xs
    → IsMarked ms (with_one (get_or xs i 0) (with_these (take i xs) live)) → IsMarked ms (with_these (take (i + 1) xs) live)
marked_more ms xs i live h m = record { each = λ y less. m.each y less ∙ grouped (get_or xs i 0 == y) (is_among (take i xs) y) (live y) ∙ sym (ap (λ b. b || live y) (among_next xs i (i + 1) y (omega arith) h)) }
  where
    grouped : (a b c : Bool) → (a || (b || c)) ≡ ((a || b) || c)
    grouped true b c = refl
    grouped false b c = refl

take_whole : (xs : List ℕ) → take (length xs) xs ≡ xs
take_whole [] = refl
take_whole (x ∷ xs) = ap (λ l. x ∷ l) (take_whole xs)

pub marked_all : (ms : LocalSet) (xs : List ℕ) (i : ℕ) (live : Marks) → length xs ≤ i → i ≤ length xs → IsMarked ms (with_these (take i xs) live)
    → IsMarked ms (with_these xs live)
marked_all ms xs i live h k m =
    let same : i ≡ length xs = omega (arith, h, k) in
    subst (λ l. IsMarked ms (with_these l live)) (ap (λ j. take j xs) same ∙ take_whole xs) m

-- ---- lets and jumps

pub marked_no_more : (ms : LocalSet) (live : Marks) → IsMarked ms live → IsMarked ms (with_these [] live)
marked_no_more ms live m = record { each = m.each }

pub marked_first : (ms : LocalSet) (x : ℕ) (xs : List ℕ) (live : Marks) → IsMarked ms (with_one x (with_these xs live)) → IsMarked ms (with_these (x ∷ xs) live)
marked_first ms x xs live m = record { each = λ y h. m.each y h ∙ grouped (x == y) (is_among xs y) (live y) }
  where
    grouped : (a b c : Bool) → (a || (b || c)) ≡ ((a || b) || c)
    grouped true b c = refl
    grouped false b c = refl

among_append : (xs ys : List ℕ) (y : ℕ) → is_among (xs ++ ys) y ≡ (is_among xs y || is_among ys y)
among_append [] ys y = refl
among_append (x ∷ xs) ys y = ap (λ b. (x == y) || b) (among_append xs ys y) ∙ grouped (x == y) (is_among xs y) (is_among ys y)
  where
    grouped : (a b c : Bool) → (a || (b || c)) ≡ ((a || b) || c)
    grouped true b c = refl
    grouped false b c = refl

pub marked_both : (ms : LocalSet) (xs ys : List ℕ) (live : Marks) → IsMarked ms (with_these xs (with_these ys live)) → IsMarked ms (with_these (xs ++ ys) live)
marked_both ms xs ys live m = record { each = λ y h. m.each y h ∙ grouped (is_among xs y) (is_among ys y) (live y) ∙ sym (ap (λ b. b || live y) (among_append xs ys y)) }
  where
    grouped : (a b c : Bool) → (a || (b || c)) ≡ ((a || b) || c)
    grouped true b c = refl
    grouped false b c = refl

-- the operands of a build
pub marked_made : (ms : LocalSet) (all xs slice ys : List ℕ) (live : Marks) → all ≡ xs ++ ys → slice ≡ xs
    → IsMarked ms (with_these slice (with_these ys live)) → IsMarked ms (with_these all live)
marked_made ms all xs slice ys live is same m = subst (λ l. IsMarked ms (with_these l live)) (sym is) (marked_both ms xs ys live (subst (λ l. IsMarked ms (with_these l (with_these ys live))) same m))

pub lets_next : (ls : List DeclaredLet) (n j : ℕ) (d : DeclaredLet) → j ≡ suc n → n < length ls
    → map let_of (drop n ls) ≡ let_of (get_or ls n d) ∷ map let_of (drop j ls)
lets_next [] n j d e h = absurd (omega (arith, h))
lets_next (l ∷ ls) zero zero d e h = absurd (omega (arith, e))
lets_next (l ∷ ls) zero (suc j) d e h = let same : j ≡ 0 = omega (arith, e) in ap (λ k. let_of l ∷ map let_of (drop k ls)) (sym same)
lets_next (l ∷ ls) (suc n) zero d e h = absurd (omega (arith, e))
lets_next (l ∷ ls) (suc n) (suc j) d e h = lets_next ls n j d (omega (arith, e)) (omega (arith, h))

pub lets_over : (ls : List DeclaredLet) (n : ℕ) → n ≡ length ls → map let_of (drop n ls) ≡ []
lets_over [] zero e = refl
lets_over [] (suc n) e = refl
lets_over (l ∷ ls) zero e = absurd (omega (arith, e))
lets_over (l ∷ ls) (suc n) e = lets_over ls n (omega (arith, e))

-- ---- without what is bound

pub cleared_none : (ms : LocalSet) (xs : List ℕ) (live : Marks) → IsMarked ms live → IsMarked ms (unless_among (take 0 xs) live)
cleared_none ms xs live m = record { each = m.each }

without : (a b c : Bool) → (not a && (not b && c)) ≡ (not (a || b) && c)
without true b c = refl
without false b c = refl

pub cleared_more : (ms : LocalSet) (xs : List ℕ) (i : ℕ) (live : Marks) → i < length xs
    → IsMarked ms (unless_bound (get_or xs i 0) (unless_among (take i xs) live)) → IsMarked ms (unless_among (take (i + 1) xs) live)
cleared_more ms xs i live h m =
    record { each = λ y less. m.each y less ∙ without (get_or xs i 0 == y) (is_among (take i xs) y) (live y) ∙ sym (ap (λ b. not b && live y) (among_next xs i (i + 1) y (omega arith) h)) }

pub cleared_all : (ms : LocalSet) (xs : List ℕ) (i : ℕ) (live : Marks) → length xs ≤ i → i ≤ length xs → IsMarked ms (unless_among (take i xs) live)
    → IsMarked ms (unless_among xs live)
cleared_all ms xs i live h k m =
    let same : i ≡ length xs = omega (arith, h, k) in
    subst (λ l. IsMarked ms (unless_among l live)) (ap (λ j. take j xs) same ∙ take_whole xs) m

pub itself_marked : (ms : LocalSet) → IsMarked ms (has ms)
itself_marked ms = record { each = λ y h. refl }

-- fields, and then a diamond or none
pub cleared_kept : (ms : LocalSet) (xs : List ℕ) (d : ℕ) (live : Marks) → IsMarked ms (unless_among xs (unless_bound d live))
    → IsMarked ms (unless_among (xs ++ d ∷ []) live)
cleared_kept ms xs d live m = record { each = λ y h. m.each y h ∙ grouped (is_among xs y) (d == y) (live y) ∙ sym (ap (λ b. not b && live y) (among_append xs (d ∷ []) y)) }
  where
    grouped : (a b c : Bool) → (not a && (not b && c)) ≡ (not (a || (b || false)) && c)
    grouped true b c = refl
    grouped false true c = refl
    grouped false false c = refl

-- an arm whose cell is kept
pub cleared_arm : (ms : LocalSet) (xs fields : List ℕ) (at : CaseCell) (d : ℕ) (live : Marks) → xs ≡ fields → at ≡ cell.Keep d
    → IsMarked ms (unless_among xs (unless_bound d live)) → IsMarked ms (unless_among (fields ++ kept_diamond at) live)
cleared_arm ms xs fields at d live same is m =
    subst (λ k. IsMarked ms (unless_among (fields ++ kept_diamond k) live)) (sym is) (cleared_kept ms fields d live (subst (λ l. IsMarked ms (unless_among l (unless_bound d live))) same m))

pub cleared_plain : (ms : LocalSet) (xs : List ℕ) (live : Marks) → IsMarked ms (unless_among xs live) → IsMarked ms (unless_among (xs ++ []) live)
cleared_plain ms xs live m = subst (λ l. IsMarked ms (unless_among l live)) (sym (append-nil xs)) m

-- what a set tells is wanted further on
pub joined_as : (ms other : LocalSet) (wanted live : Marks) → IsMarked other wanted → IsMarked ms (either_live (has other) live)
    → IsMarked ms (either_live wanted live)
joined_as ms other wanted live w m = record { each = λ y h. m.each y h ∙ ap (λ b. b || live y) (w.each y h) }

-- ---- ways on

pub no_arms : (ms : LocalSet) (later : LaterMarks) (live : Marks) → IsMarked ms live → IsMarked ms (either_live (arms_live later []) live)
no_arms ms later live m = record { each = m.each }

pub one_arm : (ms : LocalSet) (later : LaterMarks) (a : CaseArm) (arms : List CaseArm) (live : Marks)
    → IsMarked ms (either_live (unless_among (bound_by a) (later a.target)) (either_live (arms_live later arms) live))
    → IsMarked ms (either_live (arms_live later (a ∷ arms)) live)
one_arm ms later a arms live m = record { each = λ y h. m.each y h ∙ grouped (not (is_among (bound_by a) y) && later a.target y) (arms_live later arms y) (live y) }
  where
    grouped : (a b c : Bool) → (a || (b || c)) ≡ ((a || b) || c)
    grouped true b c = refl
    grouped false b c = refl

pub arms_next : (ls : List DeclaredArm) (n j : ℕ) (d : DeclaredArm) → j ≡ suc n → n < length ls
    → map arm_of (drop n ls) ≡ arm_of (get_or ls n d) ∷ map arm_of (drop j ls)
arms_next [] n j d e h = absurd (omega (arith, h))
arms_next (l ∷ ls) zero zero d e h = absurd (omega (arith, e))
arms_next (l ∷ ls) zero (suc j) d e h = let same : j ≡ 0 = omega (arith, e) in ap (λ k. arm_of l ∷ map arm_of (drop k ls)) (sym same)
arms_next (l ∷ ls) (suc n) zero d e h = absurd (omega (arith, e))
arms_next (l ∷ ls) (suc n) (suc j) d e h = arms_next ls n j d (omega (arith, e)) (omega (arith, h))

-- one arm more, that in front of the others
pub arms_more : (ms : LocalSet) (later : List LocalSet) (count left : ℕ) (arms : List DeclaredArm) (arm : DeclaredArm) (set : LocalSet) (live : Marks) → 0 < left → left ≤ length arms → arm ≡ get_or arms (left - 1) arm
    → set ≡ marks_at later count arm.target → IsMarked ms (either_live (unless_among (bound_by (arm_of arm)) (has set)) (either_live (arms_live (told later count) (map arm_of (drop left arms))) live))
    → IsMarked ms (either_live (arms_live (told later count) (map arm_of (drop (left - 1) arms))) live)
arms_more ms later count left arms arm set live some within here is m =
    let t = told later count in
    let behind = map arm_of (drop left arms) in
    subst (λ l. IsMarked ms (either_live (arms_live t l) live)) (sym (arms_next arms (left - 1) left arm (omega (arith, some)) (omega (arith, some, within)) ∙ ap (λ a. arm_of a ∷ behind) (sym here)))
    (one_arm ms t (arm_of arm) behind live (subst (λ s. IsMarked ms (either_live (unless_among (bound_by (arm_of arm)) (has s)) (either_live (arms_live t behind) live))) is m))

-- ---- the marked locals

passing_more : (p : ℕ → Bool) (a n : ℕ) (extra : List ℕ) → (p (a + n) ≡ true → extra ≡ (a + n) ∷ []) → (p (a + n) ≡ false → extra ≡ [])
    → passing p a (suc n) ≡ passing p a n ++ extra
passing_more p a zero extra given left = by_test (p a) refl
  where
    here : a + 0 ≡ a
    here = omega arith

    by_test : (b : Bool) → p a ≡ b → cond b (a ∷ []) [] ≡ extra
    by_test true e = sym (given (ap p here ∙ e) ∙ ap (λ k. k ∷ []) here)
    by_test false e = sym (left (ap p here ∙ e))
passing_more p a (suc n) extra given left =
    by_test (p a) (passing_more p (a + 1) n extra (λ e. given (ap p same ∙ e) ∙ ap (λ k. k ∷ []) same) (λ e. left (ap p same ∙ e)))
  where
    same : a + suc n ≡ (a + 1) + n
    same = omega arith

    by_test : (b : Bool) → passing p (a + 1) (suc n) ≡ passing p (a + 1) n ++ extra
        → cond b (a ∷ passing p (a + 1) (suc n)) (passing p (a + 1) (suc n)) ≡ cond b (a ∷ passing p (a + 1) n) (passing p (a + 1) n) ++ extra
    by_test true e = ap (λ l. a ∷ l) e
    by_test false e = e

-- where none between passes
gap : (p : ℕ → Bool) (a n k : ℕ) → ((y : ℕ) → a + n ≤ y → y < a + n + k → p y ≡ false) → passing p a (n + k) ≡ passing p a n
gap p a n zero h = let same : n + 0 ≡ n = omega arith in ap (passing p a) same
gap p a n (suc k) h =
    let more : n + suc k ≡ suc (n + k) = omega arith in
    let here : p (a + (n + k)) ≡ false = h (a + (n + k)) (omega arith) (omega arith) in
    ap (passing p a) more ∙ passing_more p a (n + k) [] (λ e. (let clash : false ≡ true = sym here ∙ e in absurd cc)) (λ e. refl) ∙ append-nil (passing p a (n + k)) ∙ gap p a n k (λ y l m. h y l (omega (arith, m)))

pub listed_none : (p : ℕ → Bool) (end next : ℕ) → IsNext p 0 end next → [] ≡ filter p (range_with_len 0 next)
listed_none p end next n =
    let same : 0 + next ≡ next = omega arith in
    sym (gap p 0 0 next (λ y h k. n.none y h (omega (arith, k)))) ∙ ap (passing p 0) same

pub listed_more : (p : ℕ → Bool) (end next more : ℕ) (xs : List ℕ) → xs ≡ filter p (range_with_len 0 next) → p next ≡ true
    → IsNext p (next + 1) end more → xs ++ next ∷ [] ≡ filter p (range_with_len 0 more)
listed_more p end next more xs e passes n =
    let since = n.since in
    let one : next + 1 ≡ suc next = omega arith in
    let all : (next + 1) + (more - (next + 1)) ≡ more = omega (arith, since) in
    let here : 0 + next ≡ next = omega arith in
    ap (λ l. l ++ next ∷ []) e
    ∙ sym (passing_more p 0 next (next ∷ []) (λ h. ap (λ k. k ∷ []) (sym here)) (λ h. (let clash : true ≡ false = sym passes ∙ ap p (sym here) ∙ h in absurd cc)))
    ∙ ap (passing p 0) (sym one)
    ∙ sym (gap p 0 (next + 1) (more - (next + 1)) (λ y h k. n.none y (omega (arith, h)) (omega (arith, k, since))))
    ∙ ap (passing p 0) all
