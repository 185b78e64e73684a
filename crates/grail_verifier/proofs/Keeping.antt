-- Annotations keep their numbers while further ones come, and numbered lines say what they were made of.
use Rattle.std.proofs.Common.{◌≡◌, ℕ, zero, suc, ◌+◌, ◌<◌, List, [], ◌∷◌, ◌++◌, length, map, drop, get_or, Option, Some, None, refl, sym, ap, ◌∙◌, subst, arith}
use Rattle.std.specs.Prelude.{slice_get}
use Rattle.std.specs.Option.{unwrap_or}
use Rattle.annotations.specs.Vectors.{Vector}
use Rattle.grail_verifier.specs.Numbered.{held, Keeps, Say}

-- ---- numbers

pub last_at : {A : Type 0} (xs : List A) (x : A) → slice_get (xs ++ x ∷ []) (length xs) ≡ Some x
last_at [] x = refl
last_at (y ∷ xs) x = last_at xs x

pub earlier_at : {A : Type 0} (xs : List A) (x v : A) (n : ℕ) → slice_get xs n ≡ Some v → slice_get (xs ++ x ∷ []) n ≡ Some v
earlier_at [] x v n e = absurd cc
earlier_at (y ∷ xs) x v zero e = e
earlier_at (y ∷ xs) x v (suc n) e = earlier_at xs x v n e

pub keeps_itself : (all : List Vector) → Keeps all all
keeps_itself all n v e = e

pub keeps_on : (old new newer : List Vector) → Keeps old new → Keeps new newer → Keeps old newer
keeps_on old new newer k l n v e = l n v (k n v e)

pub keeps_added : (old : List Vector) (v : Vector) → Keeps old (old ++ v ∷ [])
keeps_added old v n w e = earlier_at old v w n e

pub held_there : (all : List Vector) (n : ℕ) (v : Vector) → slice_get all n ≡ Some v → held all n ≡ v
held_there all n v e = ap (λ o. unwrap_or o []) e

-- ---- lines

snoc_front : {A B : Type 0} (f : A → B) (out : List A) (x : A) (rest : List B) → map f (out ++ x ∷ []) ++ rest ≡ map f out ++ f x ∷ rest
snoc_front f [] x rest = refl
snoc_front f (a ∷ out) x rest = ap (λ l. f a ∷ l) (snoc_front f out x rest)

-- one line more
pub more_said : {A B : Type 0} (says : List Vector → A → B) (old new : List Vector) (out : List A) (x : A) (y : B) (rest whole : List B)
    → ((later : List Vector) → Keeps old later → map (says later) out ++ y ∷ rest ≡ whole) → Keeps old new → Say says new x y → (later : List Vector)
    → Keeps new later → map (says later) (out ++ x ∷ []) ++ rest ≡ whole
more_said says old new out x y rest whole h k s later l = snoc_front (says later) out x rest ∙ ap (λ z. map (says later) out ++ z ∷ rest) (s later l) ∙ h later (keeps_on old new later k l)

-- ---- the annotations of a number

pub held_some : (all : List Vector) (n : ℕ) (o : Option Vector) (v : Vector) → o ≡ slice_get all n → o ≡ Some v → v ≡ held all n
held_some all n o v e s = ap (λ o. unwrap_or o []) (sym s ∙ e)

pub held_none : (all : List Vector) (n : ℕ) (o : Option Vector) (v : Vector) → o ≡ slice_get all n → o ≡ None → v ≡ [] → v ≡ held all n
held_none all n o v e s z = z ∙ ap (λ o. unwrap_or o []) (sym s ∙ e)

pub kept_pushed : {A B : Type 0} (f : A → B) (self : List B) (old new : List A) (x : A) → self ≡ map f old → new ≡ old ++ x ∷ [] → (n : ℕ) (v : B)
    → slice_get self n ≡ Some v → slice_get (map f new) n ≡ Some v
kept_pushed f self old new x s e n v h =
    let same : map f new ≡ self ++ f x ∷ [] = ap (map f) e ∙ mapped old ∙ ap (λ l. l ++ f x ∷ []) (sym s) in
    subst (λ l. slice_get l n ≡ Some v) (sym same) (earlier_at self (f x) v n h)
  where
    mapped : (xs : List _) → map f (xs ++ x ∷ []) ≡ map f xs ++ f x ∷ []
    mapped [] = refl
    mapped (y ∷ xs) = ap (λ l. f y ∷ l) (mapped xs)

pub first_held : (old new later : List Vector) (n : ℕ) (v : Vector) → old ≡ [] → n ≡ length old → slice_get new n ≡ Some v → Keeps new later → v ≡ []
    → held later 0 ≡ []
first_held old new later n v empty number there k none =
    let zeroth : n ≡ 0 = number ∙ ap length empty in
    held_there later 0 v (k 0 v (subst (λ m. slice_get new m ≡ Some v) zeroth there)) ∙ none

-- ---- loops over lines

item_next : {A : Type 0} (xs : List A) (i : ℕ) (x : A) → i < length xs → x ≡ get_or xs i x → x ∷ drop (suc i) xs ≡ drop i xs
item_next [] i x l e = absurd (omega (arith, l))
item_next (y ∷ xs) zero x l e = ap (λ z. z ∷ xs) e
item_next (y ∷ xs) (suc i) x l e = item_next xs i x (omega (arith, l)) e

item_here : {A : Type 0} (xs : List A) (i : ℕ) (x : A) → i < length xs → x ≡ get_or xs i x → x ∷ drop (i + 1) xs ≡ drop i xs
item_here xs i x l e = let s : suc i ≡ i + 1 = omega arith in subst (λ j. x ∷ drop j xs ≡ drop i xs) s (item_next xs i x l e)

pub loop_more : {A B C : Type 0} (says : List Vector → A → B) (of : C → B) (old new : List Vector) (out more : List A) (x : A) (cs : List C) (i : ℕ) (c : C)
    → ((later : List Vector) → Keeps old later → map (says later) out ++ map of (drop i cs) ≡ map of cs) → Keeps old new → Say says new x (of c)
    → i < length cs → c ≡ get_or cs i c → more ≡ out ++ x ∷ []
    → (later : List Vector) → Keeps new later → map (says later) more ++ map of (drop (i + 1) cs) ≡ map of cs
loop_more says of old new out more x cs i c h k s less at e later l =
    ap (λ o. map (says later) o ++ map of (drop (i + 1) cs)) e
    ∙ more_said says old new out x (of c) (map of (drop (i + 1) cs)) (map of cs) (λ later l. ap (λ d. map (says later) out ++ map of d) (item_here cs i c less at) ∙ h later l) k s later l
