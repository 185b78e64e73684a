use Rattle.std.proofs.Common.{◌≡◌, ◌++◌, length}
use Rattle.std.specs.Option.{option_to_list}
use Rattle.tenant_desk.specs.Desk.{NoneOut, cells_of, cells_in, all_cells}
use Rattle.tenant_desk.specs.Kept.{AreInLine}
use Rattle.tenant_desk.proofs.desk.TenantDesk.finish.Given as goal

abbrev pub invariant-joins : goal.invariant-joins
invariant-joins l = record {
  line : AreInLine l.fn.self.arena l.fn.self.most 0 l.pieces.items (option_to_list l.rest);
  cells : cells_in l.pieces.items ++ cells_of (option_to_list l.rest) ≡ all_cells l.fn.self;
  none_out : NoneOut l.pieces.items;
}

abbrev pub decreases-joins : goal.decreases-joins
decreases-joins l = length l.pieces.items
