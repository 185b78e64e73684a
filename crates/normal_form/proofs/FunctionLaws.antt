-- Functions one by one.
use Rattle.std.proofs.Common.{◌≡◌, ℕ, zero, suc, ◌≤◌, Bool, List, [], ◌∷◌, ◌++◌, map, length, drop, Option, None, refl, sym, ◌∙◌, arith, append-nil, ◌⊎◌, inl, inr}
use Rattle.std.specs.Prelude.{min}
use Rattle.std.specs.List.{AllByRecursion}
use Rattle.std.specs.Coded.{×_prop, Unit-prop, le_prop}
use Rattle.std.proofs.Math.Logic.{∥∥₁_elim}
use Rattle.camelot_values.specs.Kinds.{DataType}
use Rattle.camelot_values.specs.declared.kinds.Kind.{Kind}
use Rattle.camelot_tree.specs.declared.tree.Param.{Param}
use Rattle.camelot_tree.specs.Tree.{Function, Source}
use Rattle.camelot_typing.specs.Typing.{Signature, params_scope}
use Rattle.camelot_typing.specs.Typed.{FunctionKinds, Typing, IsTyping, signatures_of}
use Rattle.linear_use.specs.Uses.{lent_params}
use Rattle.normal_form.specs.declared.fault.NormalFault.{NormalFault}
use Rattle.normal_form.specs.Answers.{first_fault}
use Rattle.normal_form.specs.Normal.{NormalFunction, normal_functions}

pub params_over : (n : ℕ) (xs : List Param) (ks : List Kind) → n ≡ min (length xs) (length ks) → params_scope (drop n xs) (drop n ks) ≡ []
params_over zero [] ks e = refl
params_over zero (x ∷ xs) [] e = refl
params_over zero (x ∷ xs) (k ∷ ks) e = absurd (omega (arith, e))
params_over (suc n) [] ks e = absurd (omega (arith, e))
params_over (suc n) (x ∷ xs) [] e = absurd (omega (arith, e))
params_over (suc n) (x ∷ xs) (k ∷ ks) e = params_over n xs ks (omega (arith, e))

-- no marks are left where the parameters or their kinds are at their end
pub marks_over : (types : List DataType) (xs : List Param) (ks : List Kind) (marks whole : List Bool) → (length xs ≡ 0) ⊎ (length ks ≡ 0)
    → marks ++ lent_params types xs ks ≡ whole → marks ≡ whole
marks_over types [] ks marks whole over w = sym (append-nil marks) ∙ w
marks_over types (x ∷ xs) [] marks whole over w = sym (append-nil marks) ∙ w
marks_over types (x ∷ xs) (k ∷ ks) marks whole (inl h) w = absurd (omega (arith, h))
marks_over types (x ∷ xs) (k ∷ ks) marks whole (inr h) w = absurd (omega (arith, h))

-- ---- parameters are few

abbrev pub AreFew : List Function → Type 0
AreFew fs = AllByRecursion (λ f. length f.params ≤ 16) fs

few_prop : (fs : List Function) → IsProp (AreFew fs)
few_prop [] = Unit-prop
few_prop (f ∷ fs) = ×_prop le_prop (few_prop fs)

pub params_few : (t : Typing) → ∥ IsTyping t ∥₁ → AreFew t.source.funs
params_few t h = ∥∥₁_elim h (few_prop t.source.funs) (λ k. k.within.params)

-- ---- the loop

pub forms_over : {A B : Type 0} (f : A → Function) (k : B → FunctionKinds) (p : Source) (sigs : List Signature) (as' : List A) (bs : List B) (done whole : List NormalFunction) → (length as' ≡ 0) ⊎ (length bs ≡ 0)
    → done ++ normal_functions p sigs (map f as') (signatures_of (map f as') (map k bs)) ≡ whole → done ≡ whole
forms_over f k p sigs [] bs done whole over w = sym (append-nil done) ∙ w
forms_over f k p sigs (a ∷ as') [] done whole over w = sym (append-nil done) ∙ w
forms_over f k p sigs (a ∷ as') (b ∷ bs) done whole (inl h) w = absurd (omega (arith, h))
forms_over f k p sigs (a ∷ as') (b ∷ bs) done whole (inr h) w = absurd (omega (arith, h))

pub faults_over : {A B : Type 0} (f : A → Function) (k : B → FunctionKinds) (p : Source) (as' : List A) (bs : List B) (whole : Option NormalFault)
    → (length as' ≡ 0) ⊎ (length bs ≡ 0)
    → first_fault p (map f as') (signatures_of (map f as') (map k bs)) ≡ whole → whole ≡ None
faults_over f k p [] bs whole over w = sym w
faults_over f k p (a ∷ as') [] whole over w = sym w
faults_over f k p (a ∷ as') (b ∷ bs) whole (inl h) w = absurd (omega (arith, h))
faults_over f k p (a ∷ as') (b ∷ bs) whole (inr h) w = absurd (omega (arith, h))
