-- Laws, for the proofs of this crate and of those above it.
-- The numbers of constructors, types in order: the first of a type stands behind those of the types before it.
use Rattle.std.proofs.Common.{◌≡◌, ℕ, zero, suc, ◌+◌, ◌*◌, ◌<◌, ◌≤◌, List, [], ◌∷◌, length, map, take, get_or, sym, ap, ◌∙◌, refl, arith, length-append, add-one}
use Rattle.std.proofs.lemmas.List.{get_or-map, take_all}
use Rattle.std.specs.List.{AllByRecursion}
use Rattle.camelot_values.specs.Kinds.{DataType, IsDataType, AreTypes, constructors, data_type_of, constructor_of}
use Rattle.camelot_values.specs.declared.kinds.TypeDef.{TypeDef}

one_more : (types : List DataType) (i : ℕ) (d : DataType) → i < length types
    → length (constructors (take (suc i) types)) ≡ length (constructors (take i types)) + length (get_or types i d).cons
one_more [] i d h = absurd (omega (arith, h))
one_more (t ∷ ts) zero d h = omega (arith, length-append t.cons [])
one_more (t ∷ ts) (suc i) d h =
    let e : length (constructors (take (suc (suc i)) (t ∷ ts))) ≡ length t.cons + length (constructors (take (suc i) ts)) = length-append t.cons (constructors (take (suc i) ts)) in
    let g : length (constructors (take (suc i) (t ∷ ts))) ≡ length t.cons + length (constructors (take i ts)) = length-append t.cons (constructors (take i ts)) in
    let r : length (constructors (take (suc i) ts)) ≡ length (constructors (take i ts)) + length (get_or ts i d).cons = one_more ts i d (omega (arith, h)) in
    let k : length (get_or (t ∷ ts) (suc i) d).cons ≡ length (get_or ts i d).cons = refl in
    omega (arith, e, g, r, k)

few : (types : List DataType) (i : ℕ) → AllByRecursion IsDataType types → length (constructors (take i types)) ≤ 64 * length types
few [] zero h = omega arith
few [] (suc i) h = omega arith
few (t ∷ ts) zero h = omega arith
few (t ∷ ts) (suc i) h = let e : length (constructors (take (suc i) (t ∷ ts))) ≡ length t.cons + length (constructors (take i ts)) = length-append t.cons (constructors (take i ts)) in omega (arith, e, h.0.few_cons, few ts i h.1)

-- the types of the code
same_length : {A B : Type 0} (f : A → B) (xs : List A) → length (map f xs) ≡ length xs
same_length f [] = refl
same_length f (x ∷ xs) = ap suc (same_length f xs)

items_length : (items : List TypeDef) → length (map data_type_of items) ≡ length items
items_length items = same_length data_type_of items

cons_length : (t : TypeDef) → length (data_type_of t).cons ≡ length t.cons.items
cons_length t = same_length constructor_of t.cons.items

pub one_type_more : (items : List TypeDef) (types : List DataType) (i : ℕ) (d : TypeDef) → map data_type_of items ≡ types → i < length items
    → length (constructors (take i types)) + length (get_or items i d).cons.items ≡ length (constructors (take (i + 1) types))
one_type_more items types i d e h = omega (arith, one_more types i (data_type_of d) (omega (arith, h, ap length e, items_length items)), ap (λ n. length (constructors (take n types))) (add-one i), same)
  where
    same : length (get_or types i (data_type_of d)).cons ≡ length (get_or items i d).cons.items
    same = ap (λ ts. length (get_or ts i (data_type_of d)).cons) (sym e) ∙ ap (λ t. length t.cons) (get_or-map data_type_of items i d (data_type_of d) h) ∙ cons_length (get_or items i d)

pub all_types : (items : List TypeDef) (types : List DataType) (i n : ℕ) → map data_type_of items ≡ types → length items ≤ i → i ≤ n
    → length (constructors (take i types)) ≡ length (constructors (take n types))
all_types items types i n e h k = ap (λ ts. length (constructors ts)) (take_all i types (omega (arith, h, ap length e, items_length items)) ∙ sym (take_all n types (omega (arith, h, k, ap length e, items_length items))))

pub stop_at : (types : List DataType) (i n : ℕ) → i ≤ n → n ≤ i → length (constructors (take i types)) ≡ length (constructors (take n types))
stop_at types i n h k = let e : i ≡ n = omega (arith, h, k) in ap (λ m. length (constructors (take m types))) e

pub few_before : (types : List DataType) (i : ℕ) → AreTypes types → length (constructors (take i types)) ≤ 4096
few_before types i h = omega (arith, few types i h.each, h.few_types)

pub few_with : (items : List TypeDef) (types : List DataType) (i : ℕ) (d : TypeDef) → map data_type_of items ≡ types → i < length items → AreTypes types
    → length (constructors (take i types)) + length (get_or items i d).cons.items ≤ 4096
few_with items types i d e h k = omega (arith, one_type_more items types i d e h, few_before types (i + 1) k)
