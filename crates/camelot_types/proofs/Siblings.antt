-- The constructors that are of one type with another one.
use Rattle.std.proofs.Common.{◌≡◌, ℕ, zero, suc, ◌+◌, ◌<◌, true, false, List, [], ◌∷◌, map, length, get_or, Some, None, refl, sym, ap, ◌∙◌, arith}
use Rattle.std.specs.Prelude.{nat_lt}
use Rattle.std.specs.Option.{option_map_or}
use Rattle.std.proofs.lemmas.Bool.{ltb-true, lt-ltb}
use Rattle.camelot_values.specs.Kinds.{DataType, type_of}
use Rattle.camelot_typing.specs.Kinds.{numbers_from, numbers_of}
use Rattle.camelot_types.specs.Facts.{numbers_from_type}
use Rattle.camelot_types.specs.Walk.{cons_of_type}

row_of : (first : ℕ) (types : List DataType) (t : ℕ) → numbers_from first types t ≡ get_or (numbers_from_type first types) t []
row_of first [] t = refl
row_of first (d ∷ ds) zero = refl
row_of first (d ∷ ds) (suc t) = row_of (first + length d.cons) ds t

pub siblings_none : (types : List DataType) (con : ℕ) → None ≡ type_of types con → [] ≡ cons_of_type types con
siblings_none types con h = ap (λ o. option_map_or (numbers_of types) o []) h

row_there : {A : Type 0} (f : A → List ℕ) (rows : List A) (t : ℕ) (d : A) → t < length rows → get_or (map f rows) t [] ≡ f (get_or rows t d)
row_there f [] t d h = absurd (omega (arith, h))
row_there f (x ∷ xs) zero d h = refl
row_there f (x ∷ xs) (suc t) d h = row_there f xs t d (omega arith)

row_past : {A : Type 0} (f : A → List ℕ) (rows : List A) (t : ℕ) → (t < length rows → ⊥) → get_or (map f rows) t [] ≡ []
row_past f [] t h = refl
row_past f (x ∷ xs) zero h = absurd (h (omega arith))
row_past f (x ∷ xs) (suc t) h = row_past f xs t (λ k. h (omega arith))

pub siblings_there : {A : Type 0} (f : A → List ℕ) (rows : List A) (types : List DataType) (con t : ℕ) (d : A)
    → map f rows ≡ numbers_from_type 0 types → Some t ≡ type_of types con → true ≡ nat_lt t (length rows) → d ≡ get_or rows t d
    → f d ≡ cons_of_type types con
siblings_there f rows types con t d e o b h =
    ap f h ∙ sym (row_there f rows t d (ltb-true t (length rows) (sym b))) ∙ ap (λ l. get_or l t []) e ∙ sym (row_of 0 types t) ∙ ap (λ o. option_map_or (numbers_of types) o []) o

pub siblings_past : {A : Type 0} (f : A → List ℕ) (rows : List A) (types : List DataType) (con t : ℕ) → map f rows ≡ numbers_from_type 0 types
    → Some t ≡ type_of types con → false ≡ nat_lt t (length rows) → [] ≡ cons_of_type types con
siblings_past f rows types con t e o b =
    sym (row_past f rows t (λ l. let k : nat_lt t (length rows) ≡ true = lt-ltb t (length rows) l in let c : false ≡ true = b ∙ k in cc))
    ∙ ap (λ l. get_or l t []) e ∙ sym (row_of 0 types t) ∙ ap (λ o. option_map_or (numbers_of types) o []) o
