-- The locals that are only read, by their marks, and what is lent among them.
use Rattle.std.proofs.Common.{◌≡◌, ℕ, zero, suc, ◌<◌, ◌≤◌, Bool, true, false, List, [], length, Some, None, refl, sym, ap, ◌∙◌, subst, arith, length-append}
use Rattle.std.specs.Prelude.{◌||◌, ◌&&◌, slice_get, replicate}
use Rattle.std.specs.Option.{option_map, option_map_or}
use Rattle.camelot_values.specs.Kinds.{DataType}
use Rattle.camelot_values.specs.Heap.{is_heap, reached}
use Rattle.camelot_values.specs.Lists.{Ascend, is_among}
use Rattle.camelot_values.specs.declared.kinds.Kind.{Kind}
use Rattle.grail_code.specs.Code.{Func}
use Rattle.grail_code.specs.WellFormed.{local_kinds, kind_of, is_marked, is_read, is_lent, looked_in}
use Rattle.lp_system.specs.Unknowns.{carriers, local_carriers}
use Rattle.lp_system.specs.Looked.{AreLooked}
use Rattle.lp_system.specs.theory.Lent.{lent_none, owned_all, local_ascends}

-- ---- what is read

unmarked : (n x : ℕ) → x < n → slice_get (replicate n false) x ≡ Some false
unmarked zero x h = absurd (omega (arith, h))
unmarked (suc n) zero h = refl
unmarked (suc n) (suc x) h = unmarked n x (omega (arith, h))

-- marks that were none at first; a function has few locals
pub looked_all : (f : Func) (marks : List Bool) → length f.params ≤ 16 → length f.locals ≤ 240
    → ((x : ℕ) → slice_get marks x ≡ option_map (λ b. b || is_among (looked_in f) x) (slice_get (replicate 256 false) x)) → AreLooked f marks
looked_all f marks h k marked x there =
    let few : length (local_kinds f) ≤ 256 = omega (arith, h, k, length-append f.params f.locals) in
    marked x ∙ ap (option_map (λ b. b || is_among (looked_in f) x)) (unmarked 256 x (omega (arith, there, few)))

-- a marked parameter is read
pub read_by_mark : (f : Func) (x : ℕ) (marked : Bool) → marked ≡ is_marked f x → marked ≡ true → true ≡ is_read f x
read_by_mark f x marked is h = ap (λ b. b || is_among (looked_in f) x) (sym h ∙ is)

-- another local is read where such an arm has it
pub read_by_look : (f : Func) (looked : List Bool) (x : ℕ) (marked b : Bool) → AreLooked f looked → x < length (local_kinds f)
    → marked ≡ is_marked f x → marked ≡ false → slice_get looked x ≡ Some b → b ≡ is_read f x
read_by_look f looked x marked b are there is h e = same (sym e ∙ are x there) ∙ ap (λ m. m || is_among (looked_in f) x) (sym h ∙ is)
  where
    same : Some b ≡ Some (is_among (looked_in f) x) → b ≡ is_among (looked_in f) x
    same k = cc

-- ---- what is lent

lent_is : (types : List DataType) (f : Func) (x : ℕ) (q : Kind) → kind_of f x ≡ Some q → is_lent types f x ≡ (is_heap types q && is_read f x)
lent_is types f x q e = ap (λ o. option_map_or (is_heap types) o false && is_read f x) e

-- what is read is lent where it's of a heap kind
pub lent_by_kind : (types : List DataType) (f : Func) (x : ℕ) (q : Kind) (read heap : Bool) → kind_of f x ≡ Some q → read ≡ is_read f x → read ≡ true
    → heap ≡ is_heap types q → heap ≡ is_lent types f x
lent_by_kind types f x q read heap e r yes_read h = h ∙ whole (is_heap types q) ∙ ap (λ b. is_heap types q && b) (sym yes_read ∙ r) ∙ sym (lent_is types f x q e)
  where
    whole : (b : Bool) → b ≡ (b && true)
    whole true = refl
    whole false = refl

pub not_read : (types : List DataType) (f : Func) (x : ℕ) (q : Kind) (read : Bool) → kind_of f x ≡ Some q → read ≡ is_read f x → read ≡ false
    → false ≡ is_lent types f x
not_read types f x q read e r no_read = nothing (is_heap types q) ∙ ap (λ b. is_heap types q && b) (sym no_read ∙ r) ∙ sym (lent_is types f x q e)
  where
    nothing : (b : Bool) → false ≡ (b && false)
    nothing true = refl
    nothing false = refl

-- ---- what a local's value carries units on

pub none_of_lent : (types : List DataType) (f : Func) (x : ℕ) (lent : Bool) → lent ≡ is_lent types f x → lent ≡ true → [] ≡ local_carriers types f x
none_of_lent types f x lent e h = sym (lent_none types f x (sym e ∙ h))

pub all_of_kind : (types : List DataType) (f : Func) (x : ℕ) (q : Kind) (lent : Bool) (cons : List ℕ) → kind_of f x ≡ Some q → lent ≡ is_lent types f x
    → lent ≡ false → cons ≡ reached types q → cons ≡ local_carriers types f x
all_of_kind types f x q lent cons k e h is = is ∙ ap (carriers types) (sym k) ∙ sym (owned_all types f x (sym e ∙ h))

pub none_of_missing : (types : List DataType) (f : Func) (x : ℕ) → kind_of f x ≡ None → [] ≡ local_carriers types f x
none_of_missing types f x k = by_lent (is_lent types f x) refl
  where
    by_lent : (b : Bool) → is_lent types f x ≡ b → [] ≡ local_carriers types f x
    by_lent true e = sym (lent_none types f x e)
    by_lent false e = ap (carriers types) (sym k) ∙ sym (owned_all types f x e)

pub all_ascend : (types : List DataType) (f : Func) (x : ℕ) (cons : List ℕ) → cons ≡ local_carriers types f x → Ascend cons
all_ascend types f x cons e = subst Ascend (sym e) (local_ascends types f x)
