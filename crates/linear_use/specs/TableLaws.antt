-- Laws, for the proofs of this crate and of those above it.
-- Names that are added one by one, and the items of a list that are left.
use Rattle.std.proofs.Common.{◌≡◌, ℕ, zero, suc, ◌+◌, ◌≤◌, true, if◌then◌else◌, List, [], ◌∷◌, ◌++◌, map, length, drop, get_or, refl, sym, ap, ◌∙◌, arith, append_assoc, append-nil}
use Rattle.std.specs.Prelude.{not}
use Rattle.std.specs.Coded.{×_prop, Unit-prop}
use Rattle.std.proofs.Math.Bool.{Bool-set}
use Rattle.camelot_values.specs.Names.{stands}
use Rattle.camelot_values.specs.NameLaws.{AreNew}
use Rattle.linear_use.specs.Tables.{with_names}

pub new_prop : (earlier ws : List (List ℕ)) → IsProp (AreNew earlier ws)
new_prop earlier [] = Unit-prop
new_prop earlier (w ∷ ws) = ×_prop (Bool-set (not (stands earlier w)) true) (new_prop (earlier ++ w ∷ []) ws)

-- names are added one after the other
pub with_append : (names xs ys : List (List ℕ)) → with_names names (xs ++ ys) ≡ with_names (with_names names xs) ys
with_append names [] ys = refl
with_append names (x ∷ xs) ys = with_append (if not (stands names x) then names ++ x ∷ [] else names) xs ys

-- new names are all added
pub with_new : (names ws : List (List ℕ)) → AreNew names ws → with_names names ws ≡ names ++ ws
with_new names [] h = sym (append-nil names)
with_new names (w ∷ ws) h =
    ap (λ b. with_names (if b then names ++ w ∷ [] else names) ws) h.0 ∙ with_new (names ++ w ∷ []) ws h.1 ∙ append_assoc names (w ∷ []) ws

-- what is left of a list, at its next item
pub left_item : {A B : Type 0} (f : A → B) (xs : List A) (i j : ℕ) (x : A) → j ≡ i + 1 → suc i ≤ length xs → x ≡ get_or xs i x
    → map f (drop i xs) ≡ f x ∷ map f (drop j xs)
left_item f [] i j x e h r = absurd (omega (arith, h))
left_item f (y ∷ xs) zero j x e h r = let q : j ≡ 1 = omega (arith, e) in ap (λ z. f z ∷ map f xs) (sym r) ∙ ap (λ k. f x ∷ map f (drop k (y ∷ xs))) (sym q)
left_item f (y ∷ xs) (suc i) zero x e h r = absurd (omega (arith, e))
left_item f (y ∷ xs) (suc i) (suc j) x e h r = left_item f xs i j x (omega (arith, e)) (omega (arith, h)) r
