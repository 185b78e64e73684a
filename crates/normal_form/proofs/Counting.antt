-- Counts that are added up part by part.
use Rattle.std.proofs.Common.{◌≡◌, ℕ, suc, ◌+◌, ◌-◌, ◌^◌, Bool, true, false, if◌then◌else◌, List, [], ◌∷◌, ◌++◌, length, map, Option, Some, refl, sym, ap, ◌∙◌, arith}
use Rattle.std.specs.Prelude.{min}
use Rattle.camelot_tree.specs.Tree.{Expression, Num, Truth, Var, Prim, If, Let, Match, Build, Call, expressions, Arms, NoArms, AndArm, Branch, Source}
use Rattle.camelot_tree.specs.Spine.{spine_of, leaf_of}
use Rattle.camelot_tree.specs.Meaning.{constructor_number, is_that}
use Rattle.normal_form.specs.declared.counts.Counts.{Counts}
use Rattle.normal_form.specs.Normal.{arm_for, cons_of, bound_count, total, made, arm_made, ends, arm_ends, tail_made, arm_tail_made, tail_ends, arm_tail_ends}
use Rattle.normal_form.specs.Counts.{counted, both, rest_made, rest_ends, rests_made, rests_ends, branch_made, branch_ends, branch_tail_made, branch_tail_ends, over, counts_of, rest_counts, all_counts, arms_counts, arms_tail_counts}

-- ---- sums that stand still at the end

sum_twice : (m n top : ℕ) → min (min m top + min n top) top ≡ min (m + n) top
sum_twice m n top = omega arith

sum_three : (x y z top : ℕ) → min (min (x + y) top + z) top ≡ min (x + min (y + z) top) top
sum_three x y z top = omega arith

sum_still : (x y top : ℕ) → min (min (x + y) top + min 0 top) top ≡ min (x + y) top
sum_still x y top = omega arith

counts_are : (a b a' b' : ℕ) → a ≡ a' → b ≡ b' → (let c : Counts = record { locals = a; blocks = b } in c) ≡ record { locals = a'; blocks = b' }
counts_are a b a' b' h k = ap (λ x. let c : Counts = record { locals = x; blocks = b } in c) h ∙ ap (λ x. let c : Counts = record { locals = a'; blocks = x } in c) k

pub both_counted : (m n m' n' : ℕ) → both (counted m n) (counted m' n') ≡ counted (m + m') (n + n')
both_counted m n m' n' = counts_are _ _ _ _ (sum_twice m m' (2 ^ 64 - 1)) (sum_twice n n' (2 ^ 64 - 1))

pub both_three : (a b c : Counts) → both (both a b) c ≡ both a (both b c)
both_three a b c = counts_are _ _ _ _ (sum_three a.locals b.locals c.locals (2 ^ 64 - 1)) (sum_three a.blocks b.blocks c.blocks (2 ^ 64 - 1))

pub both_still : (a b : Counts) → both (both a b) (counted 0 0) ≡ both a b
both_still a b = counts_are _ _ _ _ (sum_still a.locals b.locals (2 ^ 64 - 1)) (sum_still a.blocks b.blocks (2 ^ 64 - 1))

pub counted_still : (m n : ℕ) → both (counted m n) (counted 0 0) ≡ counted m n
counted_still m n = let a : m + 0 ≡ m = omega arith in let b : n + 0 ≡ n = omega arith in both_counted m n 0 0 ∙ ap (λ x. counted x (n + 0)) a ∙ ap (counted m) b

-- ---- along a left end

made_spine : (p : Source) (e : Expression) → made p e ≡ made p (leaf_of e) + rests_made p (spine_of e)
made_spine p (Num z l) = omega arith
made_spine p (Truth b l) = omega arith
made_spine p (Var n) = omega arith
made_spine p (Prim op a b l) = let h = made_spine p a in omega (arith, h)
made_spine p (If c a b l) = let h = made_spine p c in omega (arith, h)
made_spine p (Let n e b) = omega arith
made_spine p (Match e as' l) = omega arith
made_spine p (Build c es d) = omega arith
made_spine p (Call f es) = omega arith

ends_spine : (p : Source) (e : Expression) → ends p e ≡ ends p (leaf_of e) + rests_ends p (spine_of e)
ends_spine p (Num z l) = omega arith
ends_spine p (Truth b l) = omega arith
ends_spine p (Var n) = omega arith
ends_spine p (Prim op a b l) = let h = ends_spine p a in omega (arith, h)
ends_spine p (If c a b l) = let h = ends_spine p c in omega (arith, h)
ends_spine p (Let n e b) = omega arith
ends_spine p (Match e as' l) = omega arith
ends_spine p (Build c es d) = omega arith
ends_spine p (Call f es) = omega arith

pub spine_counted : (p : Source) (e leaf : Expression) (ps : List Expression) (counts : Counts) → ps ≡ spine_of e → leaf ≡ leaf_of e → counts ≡ counts_of p leaf
    → both counts (counted (rests_made p ps) (rests_ends p ps)) ≡ counts_of p e
spine_counted p e leaf ps counts h k c =
    ap (λ l. both counts (counted (rests_made p l) (rests_ends p l))) h ∙ ap (λ x. both x (counted (rests_made p (spine_of e)) (rests_ends p (spine_of e)))) (c ∙ ap (counts_of p) k)
    ∙ both_counted (made p (leaf_of e)) (ends p (leaf_of e)) (rests_made p (spine_of e)) (rests_ends p (spine_of e))
    ∙ ap (λ x. counted x (ends p (leaf_of e) + rests_ends p (spine_of e))) (sym (made_spine p e)) ∙ ap (counted (made p e)) (sym (ends_spine p e))

rests_made_last : (p : Source) (ps : List Expression) (e : Expression) → rests_made p (ps ++ e ∷ []) ≡ rest_made p e + rests_made p ps
rests_made_last p [] e = refl
rests_made_last p (q ∷ ps) e = let h = rests_made_last p ps e in omega (arith, h)

rests_ends_last : (p : Source) (ps : List Expression) (e : Expression) → rests_ends p (ps ++ e ∷ []) ≡ rest_ends p e + rests_ends p ps
rests_ends_last p [] e = refl
rests_ends_last p (q ∷ ps) e = let h = rests_ends_last p ps e in omega (arith, h)

pub map_last : {A B : Type 0} (f : A → B) (xs : List A) (x : A) → map f (xs ++ x ∷ []) ≡ map f xs ++ f x ∷ []
map_last f [] x = refl
map_last f (y ∷ xs) x = ap (λ l. f y ∷ l) (map_last f xs x)

-- one parent more is counted
pub spine_popped : {A : Type 0} (f : A → Expression) (p : Source) (before after : List A) (x : A) (counts rest next whole : Counts)
    → before ≡ after ++ x ∷ [] → both counts (counted (rests_made p (map f before)) (rests_ends p (map f before))) ≡ whole
    → rest ≡ rest_counts p (f x) → next ≡ both counts rest → both next (counted (rests_made p (map f after)) (rests_ends p (map f after))) ≡ whole
spine_popped f p before after x counts rest next whole h k r n =
    ap (λ c. both c (counted (rests_made p (map f after)) (rests_ends p (map f after)))) (n ∙ ap (both counts) r)
    ∙ both_three counts (rest_counts p (f x)) (counted (rests_made p (map f after)) (rests_ends p (map f after)))
    ∙ ap (both counts) (both_counted (rest_made p (f x)) (rest_ends p (f x)) (rests_made p (map f after)) (rests_ends p (map f after))
    ∙ ap (λ m. counted m (rest_ends p (f x) + rests_ends p (map f after))) (sym (rests_made_last p (map f after) (f x)))
    ∙ ap (λ m. counted (rests_made p (map f after ++ f x ∷ [])) m) (sym (rests_ends_last p (map f after) (f x)))
    ∙ ap (λ l. counted (rests_made p l) (rests_ends p l)) (sym (ap (map f) h ∙ map_last f after x)))
    ∙ k

-- ---- arms

pub branch_made_for : (p : Source) (as' : Arms) (con : ℕ) → branch_made p (arm_for p as' con) ≡ arm_made p as' con
branch_made_for p NoArms con = refl
branch_made_for p (AndArm c fs x b as') con = by_test (is_that (constructor_number p c) con) (branch_made_for p as' con)
  where
    by_test : (t : Bool) → branch_made p (arm_for p as' con) ≡ arm_made p as' con
        → branch_made p (if t then Some (record { con = c; fields = fs; cell = x; body = b }) else arm_for p as' con) ≡ (if t then bound_count fs x + made p b else arm_made p as' con)
    by_test true h = refl
    by_test false h = h

pub branch_ends_for : (p : Source) (as' : Arms) (con : ℕ) → branch_ends p (arm_for p as' con) ≡ arm_ends p as' con
branch_ends_for p NoArms con = refl
branch_ends_for p (AndArm c fs x b as') con = by_test (is_that (constructor_number p c) con) (branch_ends_for p as' con)
  where
    by_test : (t : Bool) → branch_ends p (arm_for p as' con) ≡ arm_ends p as' con
        → branch_ends p (if t then Some (record { con = c; fields = fs; cell = x; body = b }) else arm_for p as' con) ≡ (if t then suc (ends p b) else arm_ends p as' con)
    by_test true h = refl
    by_test false h = h

pub branch_tail_made_for : (p : Source) (as' : Arms) (con : ℕ) → branch_tail_made p (arm_for p as' con) ≡ arm_tail_made p as' con
branch_tail_made_for p NoArms con = refl
branch_tail_made_for p (AndArm c fs x b as') con = by_test (is_that (constructor_number p c) con) (branch_tail_made_for p as' con)
  where
    by_test : (t : Bool) → branch_tail_made p (arm_for p as' con) ≡ arm_tail_made p as' con
        → branch_tail_made p (if t then Some (record { con = c; fields = fs; cell = x; body = b }) else arm_for p as' con) ≡ (if t then bound_count fs x + tail_made p b else arm_tail_made p as' con)
    by_test true h = refl
    by_test false h = h

pub branch_tail_ends_for : (p : Source) (as' : Arms) (con : ℕ) → branch_tail_ends p (arm_for p as' con) ≡ arm_tail_ends p as' con
branch_tail_ends_for p NoArms con = refl
branch_tail_ends_for p (AndArm c fs x b as') con = by_test (is_that (constructor_number p c) con) (branch_tail_ends_for p as' con)
  where
    by_test : (t : Bool) → branch_tail_ends p (arm_for p as' con) ≡ arm_tail_ends p as' con
        → branch_tail_ends p (if t then Some (record { con = c; fields = fs; cell = x; body = b }) else arm_for p as' con) ≡ (if t then tail_ends p b else arm_tail_ends p as' con)
    by_test true h = refl
    by_test false h = h

pub over_total : (count : Option Branch → ℕ) (own : ℕ → ℕ) (p : Source) (as' : Arms) → ((con : ℕ) → count (arm_for p as' con) ≡ own con)
    → (cons : List ℕ) → over count (map (arm_for p as') cons) ≡ total own cons
over_total count own p as' h [] = refl
over_total count own p as' h (con ∷ cons) = let one = h con in let rest = over_total count own p as' h cons in omega (arith, one, rest)

pub arms_counted : (p : Source) (as' : Arms) (order : List (Option Branch)) → order ≡ map (arm_for p as') (cons_of p as')
    → counted (over (branch_made p) order) (over (branch_ends p) order) ≡ arms_counts p as'
arms_counted p as' order h =
    ap (λ l. counted (over (branch_made p) l) (over (branch_ends p) l)) h
    ∙ ap (λ m. counted m (over (branch_ends p) (map (arm_for p as') (cons_of p as')))) (over_total (branch_made p) (arm_made p as') p as' (branch_made_for p as') (cons_of p as'))
    ∙ ap (counted (total (arm_made p as') (cons_of p as'))) (over_total (branch_ends p) (arm_ends p as') p as' (branch_ends_for p as') (cons_of p as'))

pub tail_arms_counted : (p : Source) (as' : Arms) (order : List (Option Branch)) → order ≡ map (arm_for p as') (cons_of p as')
    → counted (over (branch_tail_made p) order) (over (branch_tail_ends p) order) ≡ arms_tail_counts p as'
tail_arms_counted p as' order h =
    ap (λ l. counted (over (branch_tail_made p) l) (over (branch_tail_ends p) l)) h
    ∙ ap (λ m. counted m (over (branch_tail_ends p) (map (arm_for p as') (cons_of p as')))) (over_total (branch_tail_made p) (arm_tail_made p as') p as' (branch_tail_made_for p as') (cons_of p as'))
    ∙ ap (counted (total (arm_tail_made p as') (cons_of p as'))) (over_total (branch_tail_ends p) (arm_tail_ends p as') p as' (branch_tail_ends_for p as') (cons_of p as'))

-- ---- at the end of a loop

pub spine_done : {A : Type 0} (f : A → Expression) (p : Source) (items : List A) (counts whole : Counts) → length items ≡ 0
    → both counts (counted (rests_made p (map f items)) (rests_ends p (map f items))) ≡ whole
    → both counts (counted 0 0) ≡ counts → counts ≡ whole
spine_done f p [] counts whole none h still = sym still ∙ h
spine_done f p (x ∷ items) counts whole none h still = absurd (omega (arith, none))

pub all_done : (p : Source) (rest es : List Expression) (counts : Counts) → rest ≡ []
    → both counts (all_counts p (expressions rest)) ≡ all_counts p (expressions es) → both counts (counted 0 0) ≡ counts
    → counts ≡ all_counts p (expressions es)
all_done p rest es counts none h still = sym still ∙ ap (λ l. both counts (all_counts p (expressions l))) (sym none) ∙ h

pub arms_done : (made_by ends_by : Option Branch → ℕ) (rest all : List (Option Branch)) (counts whole : Counts) → rest ≡ []
    → both counts (counted (over made_by rest) (over ends_by rest)) ≡ counted (over made_by all) (over ends_by all)
    → both counts (counted 0 0) ≡ counts → counted (over made_by all) (over ends_by all) ≡ whole → counts ≡ whole
arms_done made_by ends_by rest all counts whole none h still e = sym still ∙ ap (λ l. both counts (counted (over made_by l) (over ends_by l))) (sym none) ∙ h ∙ e

-- ---- a match

pub match_counted : (p : Source) (e on : Expression) (as' : Arms) (l : ℕ) (first second both_are one result : Counts) → e ≡ Match on as' l
    → first ≡ counts_of p on → second ≡ arms_counts p as' → both_are ≡ both first second → one ≡ counted 1 1
    → result ≡ both both_are one → result ≡ counts_of p e
match_counted p e on as' l first second both_are one result is f s b o r =
    let n = total (arm_made p as') (cons_of p as') in
    let k = total (arm_ends p as') (cons_of p as') in
    let more : (made p on + n) + 1 ≡ suc (made p on + n) = omega arith in
    let ended : (ends p on + k) + 1 ≡ suc (ends p on + k) = omega arith in
    r ∙ ap (λ x. both x one) (b ∙ ap (λ x. both x second) f ∙ ap (both (counts_of p on)) s ∙ both_counted (made p on) (ends p on) n k) ∙ ap (both (counted (made p on + n) (ends p on + k))) o
    ∙ both_counted (made p on + n) (ends p on + k) 1 1 ∙ ap (λ x. counted x ((ends p on + k) + 1)) more ∙ ap (counted (suc (made p on + n))) ended ∙ ap (counts_of p) (sym is)
