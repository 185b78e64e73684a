use Rattle.std.proofs.Math.Logic.{∥∥₁_elim}
use Rattle.camelot_typing.specs.TypedPrograms.{typing_of}
use Rattle.code_gen.specs.Generated.{compiled}
use Rattle.code_gen.proofs.Props.{within_prop}
use Rattle.code_gen.proofs.laws.law_of_room.Goals as goal

pub returns : goal.returns
returns c none =
    let typed = c.args.program.now.typed in
    let t = typing_of typed in
    ∥∥₁_elim typed.typed (within_prop (compiled t)) (λ typing. c.law_of_limits.ensures.within t typing typed.program.whole none)
