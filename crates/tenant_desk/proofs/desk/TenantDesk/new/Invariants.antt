use Rattle.std.proofs.Common.{◌≡◌, ◌≤◌, length, take}
use Rattle.std.specs.Vec.{vec_capacity}
use Rattle.std.specs.Option.{option_to_list}
use Rattle.tenant_desk.specs.Desk.{pieces_of, rest_of}
use Rattle.tenant_desk.proofs.desk.TenantDesk.new.Given as goal

abbrev pub invariant-cuts : goal.invariant-cuts
invariant-cuts l = record {
  room : length l.budget-items ≤ vec_capacity l.pieces;
  pieces : l.pieces.items ≡ pieces_of l.fn.span (take l.budget-index l.budget-items) l.most;
  rest : option_to_list l.rest ≡ rest_of l.fn.span (take l.budget-index l.budget-items);
}
