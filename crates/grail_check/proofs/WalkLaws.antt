-- What the walk says of a code: it is well formed exactly where all checks pass, and else it has one first fault.
use Rattle.std.proofs.Common.{◌≡◌, Option, Some, None, refl, subst, inl, inr, ◌⊎◌}
use Rattle.std.specs.Prelude.{◌↔◌, IsTrue, true, false}
use Rattle.grail_code.specs.Code.{Code}
use Rattle.grail_code.specs.WellFormed.{IsWellFormed, is_owned}
use Rattle.grail_check.specs.declared.fault.CodeFault.{CodeFault}
use Rattle.grail_check.specs.declared.fault.CodeKind.TheVariants.{Unbound, Spent, Lent}
use Rattle.grail_check.specs.Faulting.{first_fault}
use Rattle.grail_check.specs.Walk.{AllPass, FirstFault, walk}
use Rattle.grail_check.specs.Misuse.{Happens, UsesUnbound, UsesAgain, MisusesLent}
use Rattle.grail_check.proofs.Agreeing.{found_agrees, faultless, WalkAgrees}
use Rattle.grail_check.proofs.Passing.{passed_is_well_formed, well_formed_is_passed}
use Rattle.grail_check.proofs.Misusing.{unbound_misuse, spent_misuse}
use Rattle.grail_check.proofs.Lending.{lent_misuse}

pub passes : (p : Code) → first_fault p ≡ None → AllPass (walk p)
passes p e = subst (λ o. WalkAgrees o (walk p)) e (found_agrees p)

pub finds : (p : Code) (fault : CodeFault) → first_fault p ≡ Some fault → FirstFault (walk p) fault
finds p fault e = subst (λ o. WalkAgrees o (walk p)) e (found_agrees p)

pub well_formed_passes : (p : Code) → IsWellFormed p ↔ AllPass (walk p)
well_formed_passes p = ((λ w. well_formed_is_passed p w), (λ a. passed_is_well_formed p a))

pub one_or_fault : (p : Code) → IsWellFormed p ⊎ ((fault : CodeFault) × FirstFault (walk p) fault)
one_or_fault p = by_found (first_fault p) refl
  where
    by_found : (o : Option CodeFault) → first_fault p ≡ o → IsWellFormed p ⊎ ((fault : CodeFault) × FirstFault (walk p) fault)
    by_found None e = inl (passed_is_well_formed p (passes p e))
    by_found (Some fault) e = inr (fault, finds p fault e)

pub never_both : (p : Code) (fault : CodeFault) → IsWellFormed p → FirstFault (walk p) fault → ⊥
never_both p fault w h = faultless (walk p) fault (well_formed_is_passed p w) h

pub unbound : (p : Code) (fault : CodeFault) → fault.kind ≡ Unbound → FirstFault (walk p) fault
    → Happens p fault.func fault.block fault.place (λ f before here. UsesUnbound before here)
unbound p fault k h = unbound_misuse p fault k h

pub spent : (p : Code) (fault : CodeFault) → fault.kind ≡ Spent → FirstFault (walk p) fault
    → Happens p fault.func fault.block fault.place (λ f before here. UsesAgain (is_owned p.types f) before here)
spent p fault k h = spent_misuse p fault k h

pub lent : (p : Code) (fault : CodeFault) → fault.kind ≡ Lent → FirstFault (walk p) fault → MisusesLent p fault.func fault.block fault.place
lent p fault k h = lent_misuse p fault k h

-- ---- the answer

pub right_answer : (p : Code) → first_fault p ≡ None → IsTrue true ↔ IsWellFormed p
right_answer p h = ((λ _. passed_is_well_formed p (passes p h)), (λ _. refl))

pub right_refusal : (p : Code) (e : CodeFault) → first_fault p ≡ Some e → IsTrue false ↔ IsWellFormed p
right_refusal p e h = ((λ k. cc), (λ well. absurd (faultless (walk p) e (well_formed_is_passed p well) (finds p e h))))
