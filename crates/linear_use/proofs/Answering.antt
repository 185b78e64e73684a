-- What the answers of the check say.
use Rattle.std.proofs.Common.{◌≡◌, List, [], ◌∷◌, Some, None, refl, ap, ◌∙◌}
use Rattle.std.specs.Prelude.{◌↔◌, Result, Ok, Err, IsErrAnd}
use Rattle.std.proofs.Math.Logic.{∥∥₁_elim}
use Rattle.std.proofs.lemmas.Grind.{merely}
use Rattle.stops.specs.declared.stop.Stop.{Stop}
use Rattle.stops.specs.declared.stop.Stop.TheVariants.{Fault, Memory}
use Rattle.camelot_typing.specs.Typing.{IsTyped}
use Rattle.camelot_typing.specs.Typed.{Typing, IsTyping}
use Rattle.linear_use.specs.declared.fault.UseFault.{UseFault}
use Rattle.linear_use.specs.Walk.{StopsAt}
use Rattle.linear_use.specs.Answers.{first}
use Rattle.linear_use.specs.Answers.{KeepsRule, faults_of, Takes}
use Rattle.linear_use.proofs.Programs.{keeps_by_faults, faultless_by_rule}
use Rattle.linear_use.proofs.Props.{keeps_prop}

pub rule_by_faults_is : (t : Typing) → IsTyped t.source t.signatures → KeepsRule t ↔ (faults_of t ≡ [])
rule_by_faults_is t h = (faultless_by_rule t.source t.signatures h, keeps_by_faults t.source t.signatures h)

none_left : (faults : List UseFault) → first faults ≡ None → faults ≡ []
none_left [] h = refl
none_left (f ∷ faults) h = cc

-- no fault
pub keeps_where : (t : Typing) → ∥ IsTyping t ∥₁ → first (faults_of t) ≡ None → KeepsRule t
keeps_where t h e = ∥∥₁_elim h (keeps_prop t) (λ typed. keeps_by_faults t.source t.signatures typed.typed (none_left (faults_of t) e))

pub merely_where : (t : Typing) → ∥ IsTyping t ∥₁ → first (faults_of t) ≡ None → ∥ KeepsRule t ∥₁
merely_where t h e = merely (keeps_where t h e)

bottom_prop : IsProp ⊥
bottom_prop x y = absurd x

-- a fault
not_kept : (t : Typing) (fault : UseFault) → ∥ IsTyping t ∥₁ → first (faults_of t) ≡ Some fault → KeepsRule t → ⊥
not_kept t fault h e k = ∥∥₁_elim h bottom_prop (λ typed. let none : faults_of t ≡ [] = faultless_by_rule t.source t.signatures typed.typed k in let q : first (faults_of t) ≡ None = ap first none in cc)

told_takes : (t : Typing) (stop : Stop UseFault) → ∥ IsTyping t ∥₁ → StopsAt (first (faults_of t)) stop → KeepsRule t → stop ≡ Memory
told_takes t (Fault fault) h f k = absurd (not_kept t fault h f k)
told_takes t Memory h f k = refl

pub takes_err : {A : Type 0} (r : Result A (Stop UseFault)) (t : Typing) (stop : Stop UseFault) → IsErrAnd r (λ e. e ≡ stop) → ∥ IsTyping t ∥₁
    → StopsAt (first (faults_of t)) stop
    → KeepsRule t → Takes r
takes_err (Ok x) t stop e h f k = absurd e
takes_err (Err other) t stop e h f k = e ∙ told_takes t stop h f k
