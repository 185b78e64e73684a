use Rattle.tenant_desk.proofs.Asking.{room_now, ask_kept, ask_answers}
use Rattle.tenant_desk.proofs.desk.TenantDesk.ask.Goals as goal

pub ask_piece-requires-clause-few : goal.ask_piece-requires-clause-few
ask_piece-requires-clause-few c = room_now _ _ c.self.view_is c.self.invariant c.args.tenant c.requires.there c.requires.few c.index_mut-piece.result.now c.index_mut-piece.ensures.value

pub invariant_of-self : goal.invariant_of-self
invariant_of-self c = ask_kept _ _ c.self.view_is c.self.invariant c.args.tenant c.requires.there c.index_mut-piece.result.now c.ask_piece.new.piece c.index_mut-piece.ensures.value c.ask_piece.ensures.stays

pub returns : goal.returns
returns c = ask_answers _ _ c.self.view_is c.args.tenant c.requires.there c.index_mut-piece.result.now c.ask_piece.new.piece c.index_mut-piece.ensures.value c.args.size c.ask_piece.result c.ask_piece.ensures.answer
