use Rattle.std.proofs.Common.{◌≡◌, ◌++◌, map, drop}
use Rattle.job_script.specs.Words.{entry_of}
use Rattle.tenant_script.specs.Words.{entry_view}
use Rattle.tenant_service.specs.Running.{programs_in}
use Rattle.tenant_service.proofs.programs.programs_of.Given as goal

abbrev pub invariant-items : goal.invariant-items
invariant-items l = map entry_of l.programs.items ++ programs_in (map entry_view (drop l.item-index l.items)) ≡ programs_in (map entry_view l.items)
