-- What a build's fields reach, its type reaches, and so does it the constructor itself.
use Rattle.std.proofs.Common.{◌≡◌, ℕ, zero, suc, Bool, true, false, List, [], ◌∷◌, Option, Some, None, IsTrue, refl, sym, ap, ◌∙◌, subst, arith}
use Rattle.std.specs.Prelude.{slice_get, flat_map}
use Rattle.std.specs.List.{list_any}
use Rattle.std.specs.Option.{option_map, option_map_or}
use Rattle.std.proofs.lemmas.Bool.Decides.{nat_tests}
use Rattle.std.proofs.lemmas.List.Folds.{list_any-append}
use Rattle.camelot_values.specs.Kinds.{Constructor, DataType, constructor, type_of}
use Rattle.camelot_values.specs.KindLaws.{Located, located}
use Rattle.camelot_values.specs.Lists.{is_among}
use Rattle.camelot_values.specs.Heap.{is_of, fields_of, HoldsType, is_heap_type, Reaches, ReachesFrom, reached}
use Rattle.camelot_values.specs.ReachLaws.{reached_is}
use Rattle.camelot_values.specs.declared.kinds.Kind.{Kind}
use Rattle.camelot_values.specs.declared.kinds.Kind.TheVariants as kind
use Rattle.annotations.specs.Vectors.{is_heap_con}
use Rattle.lp_system.specs.Unknowns.{carriers}
use Rattle.lp_size.proofs.Tests.{or_first, or_second}

any_at : {A : Type 0} (test : A → Bool) (xs : List A) (i : ℕ) (x : A) → slice_get xs i ≡ Some x → test x ≡ true → list_any test xs ≡ true
any_at test [] i x e h = let none : None ≡ Some x = e in absurd cc
any_at test (y ∷ xs) zero x e h = let same : y ≡ x = cc in or_first (test y) (list_any test xs) (ap test same ∙ h)
any_at test (y ∷ xs) (suc i) x e h = or_second (test y) (list_any test xs) (any_at test xs i x e h)

any_flat : {A B : Type 0} (test : B → Bool) (of : A → List B) (xs : List A) (i : ℕ) (x : A) → slice_get xs i ≡ Some x → list_any test (of x) ≡ true
    → list_any test (flat_map of xs) ≡ true
any_flat test of [] i x e h = let none : None ≡ Some x = e in absurd cc
any_flat test of (y ∷ xs) zero x e h =
    let same : y ≡ x = cc in list_any-append test (of y) (flat_map of xs) ∙ or_first (list_any test (of y)) (list_any test (flat_map of xs)) (ap (λ z. list_any test (of z)) same ∙ h)
any_flat test of (y ∷ xs) (suc i) x e h = list_any-append test (of y) (flat_map of xs) ∙ or_second (list_any test (of y)) (list_any test (flat_map of xs)) (any_flat test of xs i x e h)

-- a type holds the types of the fields of its constructors
field_held : (types : List DataType) (con t u i : ℕ) (k : Constructor) → constructor types con ≡ Some k → type_of types con ≡ Some t
    → slice_get k.fields i ≡ Some (kind.Of u) → HoldsType types t u
field_held types con t u i k e d h =
    let l : Located types 0 con t k = located 0 types con t k e d in
    let at : t ≡ l.index = l.number ∙ omega arith in
    let there : slice_get types t ≡ Some l.def = ap (slice_get types) at ∙ l.is in
    let of_def : list_any (is_of u) (fields_of l.def) ≡ true = any_flat (is_of u) (λ c. c.fields) l.def.cons l.place k l.con_is (any_at (is_of u) k.fields i (kind.Of u) h (grind (arith, nat_tests))) in
    subst (λ o. list_any (is_of u) (option_map_or fields_of o []) ≡ true) (sym there) of_def

-- what a field's kind reaches
pub field_reached : (types : List DataType) (con t i c : ℕ) (k : Constructor) (q : Kind) → constructor types con ≡ Some k
    → type_of types con ≡ Some t → slice_get k.fields i ≡ Some q
    → IsTrue (is_among (reached types q) c) → IsTrue (is_among (reached types (kind.Of t)) c)
field_reached types con t i c k q e d at h = (reached_is types (kind.Of t) c).1 (by_kind q at ((reached_is types q c).0 h))
  where
    by_kind : (q : Kind) → slice_get k.fields i ≡ Some q → Reaches types q c → ReachesFrom types t c
    by_kind (kind.Of u) at r = record { last = r.last; leads = (u ∷ r.leads.0, (field_held types con t u i k e d at, r.leads.1)); heap = r.heap; owned = r.owned }
    by_kind kind.Int at r = absurd r
    by_kind kind.Flag at r = absurd r
    by_kind kind.Dia at r = absurd r

-- a constructor of a heap type
heap_reached : (types : List DataType) (con : ℕ) (o : Option ℕ) → type_of types con ≡ o → option_map_or (is_heap_type types) o false ≡ true
    → IsTrue (is_among (carriers types (option_map kind.Of o)) con)
heap_reached types con None e h = absurd cc
heap_reached types con (Some t) e h = (reached_is types (kind.Of t) con).1 (record { last = t; leads = ([], refl); heap = h; owned = e })

pub itself_carries : (types : List DataType) (con : ℕ) → is_heap_con types con ≡ true
    → IsTrue (is_among (carriers types (option_map kind.Of (type_of types con))) con)
itself_carries types con h = heap_reached types con (type_of types con) refl h

-- a field's kind carries on no constructor that the built type doesn't
pub field_carries : (types : List DataType) (con i c : ℕ) (k : Constructor) (q : Kind) → constructor types con ≡ Some k
    → slice_get k.fields i ≡ Some q → is_heap_con types con ≡ true
    → IsTrue (is_among (carriers types (Some q)) c) → IsTrue (is_among (carriers types (option_map kind.Of (type_of types con))) c)
field_carries types con i c k q e at h m = by_type (type_of types con) refl h
  where
    by_type : (o : Option ℕ) → type_of types con ≡ o → option_map_or (is_heap_type types) o false ≡ true
        → IsTrue (is_among (carriers types (option_map kind.Of o)) c)
    by_type None d g = absurd cc
    by_type (Some t) d g = field_reached types con t i c k q e d at m
