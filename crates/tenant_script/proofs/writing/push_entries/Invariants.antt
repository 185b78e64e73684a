use Rattle.std.proofs.Common.{◌≡◌, ◌++◌, drop, map}
use Rattle.std.specs.Prelude.{flat_map}
use Rattle.tenant_script.specs.Text.{entry_text}
use Rattle.tenant_script.specs.Words.{entry_view}
use Rattle.tenant_script.proofs.writing.push_entries.Given as goal

abbrev pub invariant-entries : goal.invariant-entries
invariant-entries l = l.out.items ++ flat_map entry_text (map entry_view (drop l.entry-index l.entries)) ≡ l.initial.out.items ++ flat_map entry_text (map entry_view l.entries)
