use Rattle.std.proofs.Common.{◌≡◌, drop}
use Rattle.grail_code.specs.Code.{code_of}
use Rattle.cell_machine.specs.Saving.{lender_at}
use Rattle.cell_machine.proofs.saving.lender_among.Given as goal

abbrev pub invariant-each : goal.invariant-each
invariant-each l = record {
  number : l.number ≡ l.caller-index;
  so_far : lender_at (code_of l.code) l.layout.packed.positions.items l.number (drop l.caller-index l.callers) ≡ lender_at (code_of l.code) l.layout.packed.positions.items 0 l.callers;
}
