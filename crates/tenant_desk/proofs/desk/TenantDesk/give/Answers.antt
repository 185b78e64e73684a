use Rattle.tenant_desk.proofs.Asking.{lease_at, give_kept, give_answers}
use Rattle.tenant_desk.proofs.desk.TenantDesk.give.Goals as goal

pub give_piece-requires-clause-arena : goal.give_piece-requires-clause-arena
give_piece-requires-clause-arena c = (lease_at _ _ c.self.view_is c.self.invariant c.args.lease c.requires _ _ c.parts-tenant.ensures c.index_mut-piece.result.now c.index_mut-piece.ensures.value).arena

pub give_piece-requires-clause-out : goal.give_piece-requires-clause-out
give_piece-requires-clause-out c = (lease_at _ _ c.self.view_is c.self.invariant c.args.lease c.requires _ _ c.parts-tenant.ensures c.index_mut-piece.result.now c.index_mut-piece.ensures.value).out

pub invariant_of-self : goal.invariant_of-self
invariant_of-self c = give_kept _ _ c.args.lease _ _ c.index_mut-piece.result.now c.give_piece.new.piece c.self.invariant
    (lease_at _ _ c.self.view_is c.self.invariant c.args.lease c.requires _ _ c.parts-tenant.ensures c.index_mut-piece.result.now c.index_mut-piece.ensures.value) c.give_piece.ensures.stays

pub returns : goal.returns
returns c = give_answers _ _ c.self.view_is c.args.lease _ _ c.parts-tenant.ensures c.index_mut-piece.result.now c.give_piece.new.piece
    (lease_at _ _ c.self.view_is c.self.invariant c.args.lease c.requires _ _ c.parts-tenant.ensures c.index_mut-piece.result.now c.index_mut-piece.ensures.value) c.give_piece.ensures.given
