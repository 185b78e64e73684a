use Rattle.std.proofs.Common.{◌≡◌, List, subst}
use Rattle.std.specs.Prelude.{IfOk, IfErr, MatchResult, ◌⊎◌, ⊤}
use Rattle.camelot_tree.specs.Tree.{Source}
use Rattle.camelot_typing.specs.Typing.{Signature, IsTyped, IsWithinLimits, globals_of}
use Rattle.camelot_typing.specs.Typed.{functions_kinds, typing_kinds}
use Rattle.camelot_typing.specs.TypedPrograms.{typing_of}
use Rattle.camelot_typing.specs.Settled.{KindsSettled}
use Rattle.camelot_types.specs.Walk.{HasFault}
use Rattle.camelot_types.specs.declared.fault.TypeFault.{TypeFault}
use Rattle.stops.specs.declared.stop.Stop.TheVariants.{Fault, Memory}
use Rattle.stops.specs.Stopping.{FaultIs}
use Rattle.camelot_types.proofs.program.check.Goals as goal

pub returns-clause-program : goal.returns-clause-program
returns-clause-program c = subst (λ (p : Source). IfOk c.check_program.result (λ typed. (typing_of typed).source ≡ p)) c.in_ok-copy.ensures c.check_program.ensures.program

pub returns-clause-typed : goal.returns-clause-typed
returns-clause-typed c = subst (λ (p : Source). IfOk c.check_program.result (λ typed. IsTyped p (typing_of typed).signatures)) c.in_ok-copy.ensures c.check_program.ensures.typed

pub returns-clause-within : goal.returns-clause-within
returns-clause-within c = subst (λ (p : Source). IfOk c.check_program.result (λ _. IsWithinLimits p)) c.in_ok-copy.ensures c.check_program.ensures.within

pub returns-clause-settled : goal.returns-clause-settled
returns-clause-settled c =
    subst (λ (p : Source). IfOk c.check_program.result (λ typed. (signatures : List Signature) → IsTyped p signatures → KindsSettled (typing_kinds (typing_of typed)) (functions_kinds (globals_of p signatures) p.funs signatures)))
    c.in_ok-copy.ensures c.check_program.ensures.settled

pub returns-clause-fault : goal.returns-clause-fault
returns-clause-fault c = subst (λ (p : Source). IfErr c.check_program.result (FaultIs (HasFault p))) c.in_ok-copy.ensures c.check_program.ensures.fault

pub returns-clause-takes : goal.returns-clause-takes
returns-clause-takes c =
    subst (λ (p : Source). (signatures : List Signature) → IsTyped p signatures → IsWithinLimits p → MatchResult c.check_program.result (λ _. ⊤) (λ found. found ≡ Memory)) c.in_ok-copy.ensures c.check_program.ensures.takes

pub returns-clause-refuses : goal.returns-clause-refuses
returns-clause-refuses c =
    subst (λ (p : Source). (fault : TypeFault) → HasFault p fault → MatchResult c.check_program.result (λ _. ⊥) (λ found. (found ≡ Fault fault) ⊎ (found ≡ Memory))) c.in_ok-copy.ensures c.check_program.ensures.refuses
