-- Laws, for what is kept for a summary.
use Rattle.std.proofs.Common.{◌≡◌, Some, None, sym, ap, ◌∙◌}
use Rattle.std.specs.Coded.{Coded-set, coded_option}
use Rattle.camelot_values.specs.Value.{Value}
use Rattle.camelot_values.specs.Outcome as plain
use Rattle.camelot_values.specs.Outcome.{Outcome}
use Rattle.cell_machine.specs.Endings.{EndsWith, halt_of}
use Rattle.cell_machine.specs.contracts.machine.Halt as row
use Rattle.cell_machine.specs.declared.machine.Ending.{Ending}
use Rattle.cell_machine.specs.declared.machine.Ending.TheVariants as ending
use Rattle.cell_machine.specs.declared.machine.Halt.TheVariants as halt
use Rattle.run_reports.specs.Told.{halt_with}
use Rattle.script_service.specs.declared.counting.Tallied.{Tallied}
use Rattle.script_service.specs.Counting.{Counts}

pub Counts-prop : (o : Outcome Value) (kept : Tallied) → IsProp (Counts o kept)
Counts-prop o kept = Coded-set (coded_option row.the_row.coded) (halt_of o) (Some kept.halt)

pub stuck_counts : (kept : Tallied) → Counts plain.Stuck kept → ⊥
stuck_counts kept h = let e : None ≡ Some kept.halt = h in absurd cc

same_halt : (o : Outcome Value) (e : Ending) → EndsWith o e → Some (halt_with e) ≡ halt_of o
same_halt (plain.Done v calls peak low) (ending.Done w c p) h = λ i. Some (halt.Done (h.1 i) (h.2 i))
same_halt (plain.Done v calls peak low) (ending.Fuel p) h = absurd h
same_halt (plain.Done v calls peak low) (ending.Deep p) h = absurd h
same_halt (plain.Done v calls peak low) (ending.Trap p) h = absurd h
same_halt (plain.Fuel calls peak) (ending.Done w c p) h = absurd h
same_halt (plain.Fuel calls peak) (ending.Fuel p) h = λ i. Some (halt.Fuel (h i))
same_halt (plain.Fuel calls peak) (ending.Deep p) h = absurd h
same_halt (plain.Fuel calls peak) (ending.Trap p) h = absurd h
same_halt (plain.Deep peak) (ending.Done w c p) h = absurd h
same_halt (plain.Deep peak) (ending.Fuel p) h = absurd h
same_halt (plain.Deep peak) (ending.Deep p) h = λ i. Some (halt.Deep (h i))
same_halt (plain.Deep peak) (ending.Trap p) h = absurd h
same_halt (plain.Trap peak) (ending.Done w c p) h = absurd h
same_halt (plain.Trap peak) (ending.Fuel p) h = absurd h
same_halt (plain.Trap peak) (ending.Deep p) h = absurd h
same_halt (plain.Trap peak) (ending.Trap p) h = λ i. Some (halt.Trap (h i))
same_halt plain.Stuck (ending.Done w c p) h = absurd h
same_halt plain.Stuck (ending.Fuel p) h = absurd h
same_halt plain.Stuck (ending.Deep p) h = absurd h
same_halt plain.Stuck (ending.Trap p) h = absurd h

-- how an ending ended is kept of it
pub run_counted : (o : Outcome Value) (e : Ending) (kept : Tallied) → EndsWith o e → kept.halt ≡ halt_with e → Counts o kept
run_counted o e kept h is = sym (same_halt o e h) ∙ sym (ap Some is)
