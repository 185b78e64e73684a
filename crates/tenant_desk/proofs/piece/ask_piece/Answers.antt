use Rattle.std.proofs.Common.{◌≤◌, sym, subst}
use Rattle.hole_list.specs.declared.run.Run.{Run}
use Rattle.tenant_desk.proofs.Asking.{begins_within, none_answers}
use Rattle.tenant_desk.proofs.piece.ask_piece.Goals as goal

pub new-requires : goal.new-requires
new-requires c =
    let q = c.in-Some.ensures in
    let within = begins_within c.args.piece.now c.args.size c.in-Some.span c.take.new.self.holes c.kept.ensures c.requires.some q.0 in
    subst (λ (r : Run). r.first ≤ c.in-Some.span.first) (sym c.base-base.ensures) within

pub returns-in-None-clause-answer : goal.returns-in-None-clause-answer
returns-in-None-clause-answer c =
    let q = c.in-None.ensures in
    none_answers c.args.piece.now c.take.new.self c.args.size c.free-free.result c.largest-largest.result c.kept.ensures c.requires.some c.free-free.ensures c.if-size-free.false q.0 q.1 c.largest-largest.ensures
