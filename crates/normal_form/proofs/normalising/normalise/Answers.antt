use Rattle.std.proofs.Common.{ap, map, ◌∙◌}
use Rattle.camelot_typing.specs.Kinds.{types_of}
use Rattle.camelot_typing.specs.TypedPrograms.{typing_of}
use Rattle.normal_form.specs.Normal.{NormalProgram, normal_form}
use Rattle.normal_form.specs.Programs.{normal_function_of}
use Rattle.normal_form.specs.Running.{run_of}
use Rattle.normal_form.proofs.Programs.{means_same}
use Rattle.normal_form.proofs.normalising.normalise.Goals as goal

pub returns-clause-meaning : goal.returns-clause-meaning
returns-clause-meaning c = λ limit func fuel args s is fit.
    let t = c.args.program.now.typed in
    let types = c.in_ok-types.ensures ∙ ap (λ q. q.types) c.in_ok-known.ensures ∙ t.its_types in
    let functions = c.in_ok-functions.ensures.functions ∙ ap (λ q. (normal_form (typing_of q)).functions) c.in_ok-known.ensures in
    ap (λ ts. run_of (let q : NormalProgram = record { types = ts; functions = map normal_function_of c.in_ok-functions.functions.items } in q) limit func fuel args) types
    ∙ ap (λ fs. run_of (let q : NormalProgram = record { types = types_of (typing_of t).source; functions = fs } in q) limit func fuel args) functions
    ∙ means_same (typing_of t) t.typed limit func fuel args s is fit
