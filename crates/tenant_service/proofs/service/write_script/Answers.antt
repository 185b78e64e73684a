use Rattle.std.proofs.Common.{map}
use Rattle.tenant_script.specs.Words.{entry_view, tenant_view}
use Rattle.tenant_service.specs.Scripts.{first_rooms}
use Rattle.tenant_service.specs.Running.{AllDone, rooms_by}
use Rattle.tenant_service.proofs.Serving.{is_written}
use Rattle.tenant_service.proofs.service.write_script.Goals as goal

pub returns-clause-written : goal.returns-clause-written
returns-clause-written c =
    let ts = map tenant_view c.args.tenants.now in
    let items = map entry_view c.args.items.now in
    let d : AllDone c.args.licences.now items ts c.push_programs.new.out.items c.run_lines.new.shared c.run_lines.new.out.items = c.in_ok-run_lines.ensures.done in
    is_written c.args.licences.now ts items c.args.lines.now c.run_lines.new.shared c.in_ok-out.out.items c.push_programs.new.out.items c.run_lines.new.out.items c.push_ends.new.out.items c.in_ok-out.ensures.items
    c.in_ok-push_programs.ensures d (c.in_ok-push_ends.ensures c.args.licences.now (rooms_by ts (first_rooms ts) items d.fates) d.holds)
