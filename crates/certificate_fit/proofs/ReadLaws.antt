-- The locals that are only read, by their marks.
use Rattle.std.proofs.Common.{◌≡◌, ℕ, zero, suc, ◌+◌, ◌<◌, ◌≤◌, Bool, true, false, List, [], ◌∷◌, ◌++◌, length, Option, Some, None, refl, sym, ap, ◌∙◌, subst, arith, length-append}
use Rattle.std.specs.Prelude.{◌||◌, ◌&&◌, slice_get, replicate, IsTrue, IsSomeAnd, ◌↔◌}
use Rattle.std.specs.Option.{option_map, option_map_or}
use Rattle.std.proofs.lemmas.Option.{slice_get_within}
use Rattle.camelot_values.specs.Kinds.{DataType}
use Rattle.camelot_values.specs.Heap.{is_heap}
use Rattle.camelot_values.specs.Lists.{is_among}
use Rattle.camelot_values.specs.declared.kinds.Kind.{Kind}
use Rattle.camelot_values.specs.declared.kinds.Kind.TheVariants as kind
use Rattle.grail_code.specs.Code.{Func}
use Rattle.grail_code.specs.WellFormed.{local_kinds, kind_of, is_of_heap, is_marked, is_read, is_lent, looked_in}
use Rattle.licence.specs.Fitting.{IsHeapData}
use Rattle.certificate_fit.specs.Shapes.{AreLooked}

unmarked : (n x : ℕ) → x < n → slice_get (replicate n false) x ≡ Some false
unmarked zero x h = absurd (omega (arith, h))
unmarked (suc n) zero h = refl
unmarked (suc n) (suc x) h = unmarked n x (omega (arith, h))

-- a function has few locals
few_locals : (f : Func) → length f.params ≤ 16 → length f.locals ≤ 240 → length (local_kinds f) ≤ 256
few_locals f h k = omega (arith, h, k, length-append f.params f.locals)

-- marks that were none at first
pub looked_all : (f : Func) (marks : List Bool) → length f.params ≤ 16 → length f.locals ≤ 240
    → ((x : ℕ) → slice_get marks x ≡ option_map (λ b. b || is_among (looked_in f) x) (slice_get (replicate 256 false) x)) → AreLooked f marks
looked_all f marks h k marked x there = marked x ∙ ap (option_map (λ b. b || is_among (looked_in f) x)) (unmarked 256 x (omega (arith, there, few_locals f h k)))

-- a marked parameter is read
pub read_by_mark : (f : Func) (x : ℕ) → slice_get f.reads x ≡ Some true → true ≡ is_read f x
read_by_mark f x e = sym (ap (λ o. option_map_or (λ mark. mark) o false || is_among (looked_in f) x) e)

-- another local is read where such an arm has it
pub read_by_look : (f : Func) (looked : List Bool) (x : ℕ) (b : Bool) → AreLooked f looked → x < length (local_kinds f) → (slice_get f.reads x ≡ Some true → ⊥) → slice_get looked x ≡ Some b → b ≡ is_read f x
read_by_look f looked x b are there unmarked e = same (sym e ∙ are x there) ∙ sym (by_mark (slice_get f.reads x) unmarked)
  where
    same : Some b ≡ Some (is_among (looked_in f) x) → b ≡ is_among (looked_in f) x
    same k = cc

    by_mark : (o : Option Bool) → (o ≡ Some true → ⊥) → (option_map_or (λ mark. mark) o false || is_among (looked_in f) x) ≡ is_among (looked_in f) x
    by_mark None n = refl
    by_mark (Some true) n = absurd (n refl)
    by_mark (Some false) n = refl

-- of a heap type, a local is lent where it is read
pub lent_is_read : (types : List DataType) (f : Func) (x : ℕ) (q : Kind) → kind_of f x ≡ Some q → IsHeapData types q → is_lent types f x ≡ is_read f x
lent_is_read types f x q e h = ap (λ b. b && is_read f x) (ap (λ o. option_map_or (is_heap types) o false) e ∙ heap q h)
  where
    heap : (q : Kind) → IsHeapData types q → is_heap types q ≡ true
    heap (kind.Of t) h = is_true (is_heap types (kind.Of t)) h
      where
        is_true : (b : Bool) → IsTrue b → b ≡ true
        is_true true t = refl
        is_true false t = absurd cc
    heap kind.Int h = absurd h
    heap kind.Flag h = absurd h
    heap kind.Dia h = absurd h
