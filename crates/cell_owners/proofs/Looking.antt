-- One look at a word.
use Rattle.std.proofs.Common.{◌≡◌, ℕ, Bool, true, false, List, Some, None, refl, sym, ap, ◌∙◌, arith}
use Rattle.std.specs.Prelude.{◌==◌, cond, if◌then◌else◌}
use Rattle.std.specs.Option.{option_map_or}
use Rattle.std.proofs.lemmas.Bool.Decides.{nat_tests}
use Rattle.camelot_values.specs.Kinds.{DataType, Constructor, constructor, type_of}
use Rattle.camelot_values.specs.Heap.{is_heap, is_heap_type}
use Rattle.camelot_values.specs.declared.kinds.Kind.TheVariants as kind
use Rattle.annotations.specs.Vectors.{node_units}
use Rattle.cell_owners.specs.Looks.{con_by, con_of}

-- ---- the constructor of a type

pub con_is : (types : List DataType) (t c u : ℕ) (k : Constructor) → Some k ≡ constructor types c → Some u ≡ type_of types c → u ≡ t → Some k ≡ con_of types t c
con_is types t c u k is of same =
    let e : (u == t) ≡ true = grind (arith, nat_tests, same) in
    is ∙ ap (λ b. if b then constructor types c else None) (sym e) ∙ ap (con_by t (constructor types c)) of

pub con_is_other : (types : List DataType) (t c u : ℕ) → Some u ≡ type_of types c → (u ≡ t → ⊥) → None ≡ con_of types t c
con_is_other types t c u of other = by_test (u == t) refl ∙ ap (con_by t (constructor types c)) of
  where
    by_test : (b : Bool) → (u == t) ≡ b → None ≡ (if b then constructor types c else None)
    by_test true e = absurd (other (grind (arith, nat_tests, e)))
    by_test false e = refl

pub con_is_none : (types : List DataType) (t c : ℕ) → None ≡ type_of types c → None ≡ con_of types t c
con_is_none types t c of = ap (con_by t (constructor types c)) of

-- ---- what a node carries

pub units_none : (types : List DataType) (units : ℕ → ℕ) (c : ℕ) → units c ≡ 0 → 0 ≡ node_units types units c
units_none types units c e = by_test _
  where
    by_test : (b : Bool) → 0 ≡ cond b (units c) 0
    by_test true = sym e
    by_test false = refl

pub units_are : (types : List DataType) (units : ℕ → ℕ) (t c : ℕ) → type_of types c ≡ Some t → cond (is_heap types (kind.Of t)) (units c) 0 ≡ node_units types units c
units_are types units t c of = ap (λ o. cond (option_map_or (is_heap_type types) o false) (units c) 0) (sym of)
