use Rattle.std.proofs.Common.{◌≡◌, rules}
use Rattle.std.specs.Prelude.{codes}
use Rattle.job_script.proofs.Body.{lines_end}
use Rattle.job_script.proofs.bodies.read_body.Goals as goal

pub returns-then-eq-clause-found : goal.returns-then-eq-clause-found
returns-then-eq-clause-found c =
    let end : c.in-Some.line.now ≡ codes "." = search rules in
    lines_end c.args.rest.now c.lines.left.now c.in-Some.line.now c.in-Some.after.now c.split_at.result.0.now c.lines.lines c.lines.invariant.read c.in-Some.ensures end c.split_at.ensures.front
