use Rattle.std.specs.Option.{option_to_list}
use Rattle.tenant_desk.specs.Desk.{all_cells}
use Rattle.tenant_desk.proofs.Lines.{turn_none, turn_meets, turn_line, turn_cells, turn_rest}
use Rattle.tenant_desk.proofs.desk.TenantDesk.finish.Goals as goal

pub finish-requires : goal.finish-requires
finish-requires c = turn_none c.joins.pieces.items c.pop.new.self.items c.in-Some.piece c.in-Some.ensures.items c.joins.invariant.none_out

pub join_rest-requires : goal.join_rest-requires
join_rest-requires c =
    turn_meets c.args.self.arena c.args.self.most c.joins.pieces.items c.pop.new.self.items c.in-Some.piece (option_to_list c.joins.rest) c.finish.result c.in-Some.ensures.items
    c.joins.invariant.line c.finish.ensures.base c.finish.ensures.arena

pub joins-preserved : goal.joins-preserved
joins-preserved c = record {
  line = turn_line c.args.self.arena c.args.self.most c.joins.pieces.items c.pop.new.self.items c.in-Some.piece (option_to_list c.joins.rest) c.finish.result c.join_rest.result
      c.in-Some.ensures.items c.joins.invariant.line c.finish.ensures.base c.finish.ensures.arena c.join_rest.ensures;
  cells = turn_cells (all_cells c.args.self) c.joins.pieces.items c.pop.new.self.items c.in-Some.piece (option_to_list c.joins.rest) c.finish.result c.join_rest.result c.in-Some.ensures.items
      c.joins.invariant.cells c.finish.ensures.holes c.join_rest.ensures;
  none_out = turn_rest c.joins.pieces.items c.pop.new.self.items c.in-Some.piece c.in-Some.ensures.items c.joins.invariant.none_out;
}
