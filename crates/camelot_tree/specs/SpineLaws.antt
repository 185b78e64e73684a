-- Laws, for the proofs of this crate and of those above it.
-- Laws of the left end of an expression.
use Rattle.std.proofs.Common.{◌≡◌, ℕ, zero, suc, ◌+◌, ◌≤◌, ◌<◌, List, [], ◌∷◌, ◌++◌, map, length, get_or, refl, sym, ap, ◌∙◌, subst, arith}
use Rattle.std.specs.List.{AllByRecursion}
use Rattle.camelot_tree.specs.Tree.{Expression, Branch, expressions, arms, Num, Truth, Var, Prim, If, Let, Match, Build, Call}
use Rattle.camelot_tree.specs.Spine.{spine_of, leaf_of, size, expressions_size, arms_size, with_first, around}

pub around_spine : (e : Expression) → around (spine_of e) (leaf_of e) ≡ e
around_spine (Num z l) = refl
around_spine (Truth b l) = refl
around_spine (Var n) = refl
around_spine (Prim op a b l) = ap (λ x. Prim op x b l) (around_spine a)
around_spine (If c a b l) = ap (λ x. If x a b l) (around_spine c)
around_spine (Let n e b) = refl
around_spine (Match e as' l) = refl
around_spine (Build c es d) = refl
around_spine (Call f es) = refl

-- the innermost parent is the first to stand around the leaf
pub around_last : (ps : List Expression) (p e : Expression) → around (ps ++ p ∷ []) e ≡ around ps (with_first p e)
around_last [] p e = refl
around_last (q ∷ ps) p e = ap (with_first q) (around_last ps p e)

-- no parent is larger than the whole
abbrev pub NoLarger : ℕ → List Expression → Type 0
NoLarger n ps = AllByRecursion (λ p. size p ≤ n) ps

larger : (m n : ℕ) (ps : List Expression) → m ≤ n → NoLarger m ps → NoLarger n ps
larger m n [] h k = tt
larger m n (p ∷ ps) h k = let l = k.0 in (omega arith, larger m n ps h k.1)

pub spine_no_larger : (e : Expression) → NoLarger (size e) (spine_of e)
spine_no_larger (Num z l) = tt
spine_no_larger (Truth b l) = tt
spine_no_larger (Var n) = tt
spine_no_larger (Prim op a b l) = (omega arith, larger (size a) (suc (size a + size b)) (spine_of a) (omega arith) (spine_no_larger a))
spine_no_larger (If c a b l) = (omega arith, larger (size c) (suc (size c + (size a + size b))) (spine_of c) (omega arith) (spine_no_larger c))
spine_no_larger (Let n e b) = tt
spine_no_larger (Match e as' l) = tt
spine_no_larger (Build c es d) = tt
spine_no_larger (Call f es) = tt

pub leaf_no_larger : (e : Expression) → size (leaf_of e) ≤ size e
leaf_no_larger (Num z l) = omega arith
leaf_no_larger (Truth b l) = omega arith
leaf_no_larger (Var n) = omega arith
leaf_no_larger (Prim op a b l) = let h = leaf_no_larger a in omega arith
leaf_no_larger (If c a b l) = let h = leaf_no_larger c in omega arith
leaf_no_larger (Let n e b) = omega arith
leaf_no_larger (Match e as' l) = omega arith
leaf_no_larger (Build c es d) = omega arith
leaf_no_larger (Call f es) = omega arith

-- all but the last, and the last
pub no_larger_front : (n : ℕ) (ps : List Expression) (p : Expression) → NoLarger n (ps ++ p ∷ []) → NoLarger n ps
no_larger_front n [] p h = tt
no_larger_front n (q ∷ ps) p h = (h.0, no_larger_front n ps p h.1)

pub no_larger_last : (n : ℕ) (ps : List Expression) (p : Expression) → NoLarger n (ps ++ p ∷ []) → size p ≤ n
no_larger_last n [] p h = h.0
no_larger_last n (q ∷ ps) p h = no_larger_last n ps p h.1

-- ---- a loop that takes the innermost parent off

map_last : {A : Type 0} (f : A → Expression) (xs : List A) (x : A) → map f (xs ++ x ∷ []) ≡ map f xs ++ f x ∷ []
map_last f [] x = refl
map_last f (y ∷ xs) x = ap (λ l. f y ∷ l) (map_last f xs x)

pub around_begun : (ps : List Expression) (leaf e : Expression) → ps ≡ spine_of e → leaf ≡ leaf_of e → around ps leaf ≡ e
around_begun ps leaf e h k = ap (λ l. around l leaf) h ∙ ap (around (spine_of e)) k ∙ around_spine e

pub around_popped : {A : Type 0} (f : A → Expression) (before after : List A) (p : A) (e whole next : Expression) → before ≡ after ++ p ∷ []
    → around (map f before) e ≡ whole
    → next ≡ with_first (f p) e → around (map f after) next ≡ whole
around_popped f before after p e whole next h k n =
    ap (around (map f after)) n ∙ sym (around_last (map f after) (f p) e) ∙ ap (λ l. around l e) (sym (map_last f after p)) ∙ ap (λ l. around (map f l) e) (sym h) ∙ k

pub front_popped : {A : Type 0} (f : A → Expression) (n : ℕ) (before after : List A) (p : A) → before ≡ after ++ p ∷ [] → NoLarger n (map f before)
    → NoLarger n (map f after)
front_popped f n before after p h k = no_larger_front n (map f after) (f p) (subst (NoLarger n) (ap (map f) h ∙ map_last f after p) k)

pub last_popped : {A : Type 0} (f : A → Expression) (n : ℕ) (before after : List A) (p : A) → before ≡ after ++ p ∷ [] → NoLarger n (map f before)
    → size (f p) ≤ n
last_popped f n before after p h k = no_larger_last n (map f after) (f p) (subst (NoLarger n) (ap (map f) h ∙ map_last f after p) k)

pub none_larger : (ps : List Expression) (e : Expression) → ps ≡ spine_of e → NoLarger (size e) ps
none_larger ps e h = subst (NoLarger (size e)) (sym h) (spine_no_larger e)

pub leaf_smaller : (leaf e : Expression) → leaf ≡ leaf_of e → size leaf ≤ size e
leaf_smaller leaf e h = subst (λ x. size x ≤ size e) (sym h) (leaf_no_larger e)

-- ---- parts in a list

pub argument_smaller : {A : Type 0} (f : A → Expression) (xs : List A) (i : ℕ) (d : A) → i < length xs
    → size (f (get_or xs i d)) ≤ expressions_size (expressions (map f xs))
argument_smaller f [] i d h = absurd (omega (arith, h))
argument_smaller f (x ∷ xs) zero d h = omega arith
argument_smaller f (x ∷ xs) (suc i) d h = let k = argument_smaller f xs i d (omega arith) in omega (arith, k)

pub arm_smaller : {A : Type 0} (f : A → Branch) (xs : List A) (i : ℕ) (d : A) → i < length xs → size (f (get_or xs i d)).body ≤ arms_size (arms (map f xs))
arm_smaller f [] i d h = absurd (omega (arith, h))
arm_smaller f (x ∷ xs) zero d h = omega arith
arm_smaller f (x ∷ xs) (suc i) d h = let k = arm_smaller f xs i d (omega arith) in omega (arith, k)
