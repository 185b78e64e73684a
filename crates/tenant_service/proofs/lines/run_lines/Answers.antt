use Rattle.std.proofs.Common.{map}
use Rattle.script_plans.specs.Rows.{row_of}
use Rattle.tenant_script.specs.Words.{entry_view, tenant_view}
use Rattle.tenant_service.proofs.Going.{first_going, turn_ready, turn_rest, turn_more, turn_end, done_stands}
use Rattle.tenant_service.proofs.lines.run_lines.Goals as goal

pub items-init : goal.items-init
items-init c = record {
  going = first_going c.args.licences.now (map entry_view c.args.items.now) (map tenant_view c.args.tenants.now) c.args.out.now.items c.args.shared.now c.requires.begun c.requires.starts;
  ready = c.requires.ready;
}

pub run_entry-requires-clause-ready : goal.run_entry-requires-clause-ready
run_entry-requires-clause-ready c =
    turn_ready c.args.licences.now (map entry_view c.args.items.now) (map tenant_view c.args.tenants.now) c.args.out.now.items c.args.items.now c.items.item-index _ c.items.shared c.items.out.items c.items-test.true
    c.items.invariant.going c.items.invariant.ready

pub items-preserved : goal.items-preserved
items-preserved c =
    let ts = map tenant_view c.args.tenants.now in
    record {
      going =
          turn_more c.args.licences.now (map entry_view c.args.items.now) (map row_of c.args.rows.now) ts c.args.out.now.items c.args.items.now c.items.item-index _ c.items.shared c.run_entry.new.shared c.items.out.items
          c.run_entry.new.out.items c.requires.named c.items-test.true c.items.invariant.going c.in_ok-run_entry.ensures;
      ready = turn_rest ts c.args.items.now c.items.item-index c.items.invariant.ready;
    }

pub returns-clause-done : goal.returns-clause-done
returns-clause-done c =
    turn_end c.args.licences.now (map entry_view c.args.items.now) (map tenant_view c.args.tenants.now) c.args.out.now.items c.args.items.now c.items.item-index c.items.shared c.items.out.items c.items-test.false
    c.items.invariant.going

pub returns-clause-stands : goal.returns-clause-stands
returns-clause-stands c =
    done_stands c.args.licences.now (map entry_view c.args.items.now) (map tenant_view c.args.tenants.now) c.args.out.now.items c.items.shared c.items.out.items (
    turn_end c.args.licences.now (map entry_view c.args.items.now) (map tenant_view c.args.tenants.now) c.args.out.now.items c.args.items.now c.items.item-index c.items.shared c.items.out.items c.items-test.false
    c.items.invariant.going)

pub returns-in_err-run_entry-clause-stands : goal.returns-in_err-run_entry-clause-stands
returns-in_err-run_entry-clause-stands c = c.in_err-run_entry.ensures c.items.invariant.going.rooms c.items.invariant.going.holds
