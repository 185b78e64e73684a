use Rattle.std.proofs.Common.{◌≡◌, ◌++◌, map, drop}
use Rattle.tenant_script.specs.Words.{entry_view}
use Rattle.tenant_service.specs.Scripts.{programs_text}
use Rattle.tenant_service.proofs.programs.push_programs.Given as goal

abbrev pub invariant-items : goal.invariant-items
invariant-items l = l.out.items ++ programs_text (map entry_view (drop l.item-index l.items)) l.rest ≡ l.initial.out.items ++ programs_text (map entry_view l.items) l.lines
