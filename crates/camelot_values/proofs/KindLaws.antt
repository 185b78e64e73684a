-- Constructors by their numbers, through the types in order.
use Rattle.std.proofs.Common.{◌≡◌, ℕ, suc, ◌+◌, ◌-◌, ◌<◌, ◌≤◌, true, false, List, ◌∷◌, length, get_or, drop, map, Option, Some, sym, ap, ◌∙◌, arith, drop-cons, add-one}
use Rattle.std.specs.Prelude.{nat_lt, vec_len, if◌then◌else◌}
use Rattle.std.specs.Option.{option_map}
use Rattle.std.proofs.lemmas.Option.{slice_get-map, slice_get_read}
use Rattle.std.proofs.lemmas.List.{length-map}
use Rattle.std.proofs.lemmas.Bool.Decides.{nat_tests}
use Rattle.camelot_values.specs.Kinds.{DataType, constructor_of, data_type_of, constructors, constructor, type_from, place_of}
use Rattle.camelot_values.specs.KindLaws.{slice_get_front, slice_get_behind}
use Rattle.camelot_values.specs.declared.kinds.Con.{Con}
use Rattle.camelot_values.specs.declared.kinds.TypeDef.{TypeDef}

count_is : (t : TypeDef) → length (data_type_of t).cons ≡ vec_len t.cons
count_is t = length-map t.cons.items constructor_of ∙ sym t.cons.ok.0

-- the types from place i on begin with the type at i
types_at : (defs : List TypeDef) (i : ℕ) (d : TypeDef) → i < length defs
    → map data_type_of (drop i defs) ≡ data_type_of (get_or defs i d) ∷ map data_type_of (drop (i + 1) defs)
types_at defs i d h = ap (map data_type_of) (drop-cons defs i d h) ∙ ap (λ n. data_type_of (get_or defs i d) ∷ map data_type_of (drop n defs)) (sym (add-one i))

pub con_here : (defs : List TypeDef) (i place c : ℕ) (t : TypeDef) (x : Con) (types : List DataType) → i < length defs → t ≡ get_or defs i t
    → place < vec_len t.cons → x ≡ get_or t.cons.items place x
    → constructor (map data_type_of (drop i defs)) place ≡ constructor types c → Some (constructor_of x) ≡ constructor types c
con_here defs i place c t x types h is k at e =
    ap (option_map constructor_of) (sym (slice_get_read t.cons.items (vec_len t.cons) place x t.cons.ok.0 k at))
    ∙ sym (slice_get-map constructor_of t.cons.items place)
    ∙ sym (slice_get_front (map constructor_of t.cons.items) (constructors (map data_type_of (drop (i + 1) defs))) place (omega (arith, count_is t)))
    ∙ ap (λ ts. constructor ts place) (ap (λ u. data_type_of u ∷ map data_type_of (drop (i + 1) defs)) is ∙ sym (types_at defs i t h)) ∙ e

pub con_later : (defs : List TypeDef) (i place c : ℕ) (d : TypeDef) (types : List DataType) → i < length defs → vec_len (get_or defs i d).cons ≤ place
    → constructor (map data_type_of (drop i defs)) place ≡ constructor types c → constructor (map data_type_of (drop (i + 1) defs)) (place - vec_len (get_or defs i d).cons) ≡ constructor types c
con_later defs i place c d types h k e =
    let t = get_or defs i d in
    ap (λ n. constructor (map data_type_of (drop (i + 1) defs)) (place - n)) (sym (count_is t))
    ∙ sym (slice_get_behind (map constructor_of t.cons.items) (constructors (map data_type_of (drop (i + 1) defs))) place (omega (arith, count_is t)))
    ∙ ap (λ ts. constructor ts place) (sym (types_at defs i d h)) ∙ e

test_true : (m n : ℕ) → m < n → nat_lt m n ≡ true
test_true m n h = grind (arith, nat_tests)

test_false : (m n : ℕ) → n ≤ m → nat_lt m n ≡ false
test_false m n h = grind (arith, nat_tests)

pub type_here : (defs : List TypeDef) (i place number : ℕ) (d : TypeDef) (o : Option ℕ) → i < length defs → place < vec_len (get_or defs i d).cons
    → type_from number (map data_type_of (drop i defs)) place ≡ o → Some number ≡ o
type_here defs i place number d o h k e =
    let t = get_or defs i d in
    sym (ap (λ b. if b then Some number else type_from (suc number) (map data_type_of (drop (i + 1) defs)) (place - length (data_type_of t).cons)) (test_true place (length (data_type_of t).cons) (omega (arith, count_is t))))
    ∙ ap (λ ts. type_from number ts place) (sym (types_at defs i d h)) ∙ e

pub type_later : (defs : List TypeDef) (i place number : ℕ) (d : TypeDef) (o : Option ℕ) → i < length defs → vec_len (get_or defs i d).cons ≤ place
    → type_from number (map data_type_of (drop i defs)) place ≡ o → type_from (number + 1) (map data_type_of (drop (i + 1) defs)) (place - vec_len (get_or defs i d).cons) ≡ o
type_later defs i place number d o h k e =
    let t = get_or defs i d in
    let rest = map data_type_of (drop (i + 1) defs) in
    ap (λ n. type_from (number + 1) rest (place - n)) (sym (count_is t))
    ∙ ap (λ n. type_from n rest (place - length (data_type_of t).cons)) (add-one number)
    ∙ sym (ap (λ b. if b then Some number else type_from (suc number) rest (place - length (data_type_of t).cons)) (test_false place (length (data_type_of t).cons) (omega (arith, count_is t))))
    ∙ ap (λ ts. type_from number ts place) (sym (types_at defs i d h)) ∙ e

pub place_here : (defs : List TypeDef) (i place : ℕ) (d : TypeDef) (o : Option ℕ) → i < length defs → place < vec_len (get_or defs i d).cons
    → place_of (map data_type_of (drop i defs)) place ≡ o → Some place ≡ o
place_here defs i place d o h k e =
    let t = get_or defs i d in
    sym (ap (λ b. if b then Some place else place_of (map data_type_of (drop (i + 1) defs)) (place - length (data_type_of t).cons)) (test_true place (length (data_type_of t).cons) (omega (arith, count_is t))))
    ∙ ap (λ ts. place_of ts place) (sym (types_at defs i d h)) ∙ e

pub place_later : (defs : List TypeDef) (i place : ℕ) (d : TypeDef) (o : Option ℕ) → i < length defs → vec_len (get_or defs i d).cons ≤ place
    → place_of (map data_type_of (drop i defs)) place ≡ o → place_of (map data_type_of (drop (i + 1) defs)) (place - vec_len (get_or defs i d).cons) ≡ o
place_later defs i place d o h k e =
    let t = get_or defs i d in
    let rest = map data_type_of (drop (i + 1) defs) in
    ap (λ n. place_of rest (place - n)) (sym (count_is t))
    ∙ sym (ap (λ b. if b then Some place else place_of rest (place - length (data_type_of t).cons)) (test_false place (length (data_type_of t).cons) (omega (arith, count_is t))))
    ∙ ap (λ ts. place_of ts place) (sym (types_at defs i d h)) ∙ e
