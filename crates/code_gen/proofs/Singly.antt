-- Functions one by one.
use Rattle.std.proofs.Common.{◌≡◌, ◌≤◌, List, [], ◌∷◌, ◌++◌, map, length, Option, None, sym, ap, ◌∙◌, append-nil, ◌⊎◌, inl, inr, arith}
use Rattle.std.specs.Coded.{×_prop, Unit-prop}
use Rattle.std.specs.List.{AllByRecursion}
use Rattle.std.proofs.Math.Logic.{∥∥₁_elim}
use Rattle.std.proofs.lemmas.List.{length-map}
use Rattle.camelot_tree.specs.Tree.{Function, Source}
use Rattle.camelot_typing.specs.Typing.{Signature}
use Rattle.camelot_typing.specs.Typed.{FunctionKinds, Typing, IsTyping, signatures_of}
use Rattle.camelot_typing.specs.declared.typed.Typed.{Typed}
use Rattle.camelot_typing.specs.TypedPrograms.{typing_of}
use Rattle.grail_code.specs.declared.code.Func.{Func as DeclaredFunc}
use Rattle.grail_code.specs.Code.{Func, Code, func_of}
use Rattle.normal_form.specs.declared.fault.NormalFault.{NormalFault}
use Rattle.normal_form.specs.Answers.{first_fault}
use Rattle.normal_form.specs.Normal.{normal_form, normal_function, normal_functions}
use Rattle.normal_form.specs.Coded.{coded}
use Rattle.normal_form.specs.Facts.{AreCounted}
use Rattle.code_gen.specs.Generated.{live_params, compiled}
use Rattle.code_gen.specs.Marked.{IsWithinUnless}
use Rattle.code_gen.proofs.Props.{function_prop, to_prop}
use Rattle.code_gen.proofs.Spelled.{function_within, no_fault}

-- the code of each of these functions is within the limits, where the function isn't too large
abbrev pub AreWithin : Source → List Signature → List Function → List Signature → Type 0
AreWithin p sigs (f ∷ fs) (s ∷ ss) = IsWithinUnless p sigs f s × AreWithin p sigs fs ss
AreWithin p sigs fs ss = Unit {0}

are_within_prop : (p : Source) (sigs : List Signature) (fs : List Function) (ss : List Signature) → IsProp (AreWithin p sigs fs ss)
are_within_prop p sigs [] ss = Unit-prop
are_within_prop p sigs (f ∷ fs) [] = Unit-prop
are_within_prop p sigs (f ∷ fs) (s ∷ ss) = ×_prop (to_prop (function_prop (coded live_params (normal_function p sigs f s)))) (are_within_prop p sigs fs ss)

functions_within : (p : Source) (sigs : List Signature) (fs : List Function) (ss : List Signature) → AreCounted p fs (normal_functions p sigs fs ss)
    → AllByRecursion (λ f. length f.params ≤ 16) fs → AreWithin p sigs fs ss
functions_within p sigs [] ss counted few = tt
functions_within p sigs (f ∷ fs) [] counted few = tt
functions_within p sigs (f ∷ fs) (s ∷ ss) counted few = (
  λ none. function_within p f (normal_function p sigs f s) counted.0 (no_fault p f none) few.0,
  functions_within p sigs fs ss counted.1 few.1,
)

pub all_within : (t : Typing) → ∥ IsTyping t ∥₁ → ((t : Typing) → IsTyping t → AreCounted t.source t.source.funs (normal_form t).functions)
    → AllByRecursion (λ f. length f.params ≤ 16) t.source.funs
    → AreWithin t.source t.signatures t.source.funs t.signatures
all_within t h counts few =
    ∥∥₁_elim h (are_within_prop t.source t.signatures t.source.funs t.signatures) (λ typing. functions_within t.source t.signatures t.source.funs t.signatures (counts t typing) few)

-- ---- the loop

pub codes_over : {A B : Type 0} (f : A → Function) (k : B → FunctionKinds) (p : Source) (sigs : List Signature) (as' : List A) (bs : List B) (done whole : List Func) → (length as' ≡ 0) ⊎ (length bs ≡ 0)
    → done ++ map (coded live_params) (normal_functions p sigs (map f as') (signatures_of (map f as') (map k bs))) ≡ whole → done ≡ whole
codes_over f k p sigs [] bs done whole over w = sym (append-nil done) ∙ w
codes_over f k p sigs (a ∷ as') [] done whole over w = sym (append-nil done) ∙ w
codes_over f k p sigs (a ∷ as') (b ∷ bs) done whole (inl h) w = absurd (omega (arith, h))
codes_over f k p sigs (a ∷ as') (b ∷ bs) done whole (inr h) w = absurd (omega (arith, h))

pub faults_over : {A B : Type 0} (f : A → Function) (k : B → FunctionKinds) (p : Source) (as' : List A) (bs : List B) (whole : Option NormalFault)
    → (length as' ≡ 0) ⊎ (length bs ≡ 0)
    → first_fault p (map f as') (signatures_of (map f as') (map k bs)) ≡ whole → whole ≡ None
faults_over f k p [] bs whole over w = sym w
faults_over f k p (a ∷ as') [] whole over w = sym w
faults_over f k p (a ∷ as') (b ∷ bs) whole (inl h) w = absurd (omega (arith, h))
faults_over f k p (a ∷ as') (b ∷ bs) whole (inr h) w = absurd (omega (arith, h))

-- ---- the program

pub few_functions : (funcs : List DeclaredFunc) (all : List Func) → map func_of funcs ≡ all → length all ≤ 64 → length funcs ≤ 64
few_functions funcs all e few =
    let size = length-map funcs func_of in
    let same = ap length e in
    omega (arith, size, same, few)

-- the code of a typed program, known under another name
pub is_code : (typed known : Typed) → known ≡ typed → (c : Code) → c.types ≡ known.types → c.funcs ≡ (compiled (typing_of known)).funcs
    → c ≡ compiled (typing_of typed)
is_code typed known same c types funcs =
    let its = types ∙ ap (λ q. q.types) same ∙ typed.its_types in
    let all = funcs ∙ ap (λ q. (compiled (typing_of q)).funcs) same in
    λ i. record { types = its i; funcs = all i }
