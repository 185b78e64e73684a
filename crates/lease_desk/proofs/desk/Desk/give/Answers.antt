use Rattle.std.proofs.Common.{arith}
use Rattle.lease_desk.proofs.Steps.{give_now, filed_keeps, filed_answers, is_of, gave_named}
use Rattle.lease_desk.proofs.desk.Desk.give.Goals as goal

pub give-requires-clause-out : goal.give-requires-clause-out
give-requires-clause-out g c = (give_now _ _ _ _ _ _ c.self.invariant.0 _ c.self.view_is c.args.lease (is_of c.self.inside.holes c.self.inside.book c.self.invariant.1 _ _ _ c.self.view_is c.args.lease c.kept.ensures.arena c.requires.known) c.parts-job.result.0 c.parts-job.result.1 c.parts-job.ensures).0

pub give-requires-2-clause-room : goal.give-requires-2-clause-room
give-requires-2-clause-room g c = (give_now _ _ _ _ _ _ c.self.invariant.0 _ c.self.view_is c.args.lease (is_of c.self.inside.holes c.self.inside.book c.self.invariant.1 _ _ _ c.self.view_is c.args.lease c.kept.ensures.arena c.requires.known) c.parts-job.result.0 c.parts-job.result.1 c.parts-job.ensures).1

pub index_mut-requires : goal.index_mut-requires
index_mut-requires g c = omega (arith, (give_now _ _ _ _ _ _ c.self.invariant.0 _ c.self.view_is c.args.lease (is_of c.self.inside.holes c.self.inside.book c.self.invariant.1 _ _ _ c.self.view_is c.args.lease c.kept.ensures.arena c.requires.known) c.parts-job.result.0 c.parts-job.result.1 c.parts-job.ensures).2, c.self.inside.payloads.ok.0)

pub invariant_of-self : goal.invariant_of-self
invariant_of-self g c = (
  filed_keeps _ _ _ _ _ _ c.self.invariant.0 _ c.self.view_is c.args.lease (is_of c.self.inside.holes c.self.inside.book c.self.invariant.1 _ _ _ c.self.view_is c.args.lease c.kept.ensures.arena c.requires.known) c.parts-job.result.0 c.parts-job.result.1 c.parts-job.ensures c.give.new.self c.give-2.new.self c.first-first.result c.len-size.result c.first-first.ensures.index c.len-size.ensures.count c.give.ensures c.give-2.ensures c.args.payload c.requires.number c.requires.cells,
  gave_named c.self.inside.holes c.self.inside.book c.self.invariant.1 c.give.new.self c.parts-job.result.1 c.give-2.new.self c.parts-job.result.0 c.first-first.result c.len-size.result c.give.ensures c.give-2.ensures,
)

pub returns : goal.returns
returns g c = filed_answers _ _ _ _ _ _ c.self.invariant.0 _ c.self.view_is c.args.lease (is_of c.self.inside.holes c.self.inside.book c.self.invariant.1 _ _ _ c.self.view_is c.args.lease c.kept.ensures.arena c.requires.known) c.parts-job.result.0 c.parts-job.result.1 c.parts-job.ensures c.give.new.self c.give-2.new.self c.first-first.result c.len-size.result c.first-first.ensures.index c.len-size.ensures.count c.give.ensures c.give-2.ensures c.args.payload
