-- Private: words for functions of this crate.
-- Code that was read from bytes and is well formed, and runs that the machine can make.
use Rattle.std.specs.Prelude.{◌≤◌}
use Rattle.grail_code.specs.Code.{Code, code_of}
use Rattle.grail_code.specs.WellFormed.{IsWellFormed}
use Rattle.cell_machine.specs.Endings.{CanRun}
use Rattle.cases_cells.specs.declared.machines.jobs.Job.{Job}
use Rattle.value_text.specs.Grammar.{AreNamed, DistinctNames}

pub record IsGood (p : Code) : Type 0 where
  pub well : IsWellFormed p
  pub named : AreNamed p.types
  pub distinct : DistinctNames p.types

-- the cells are enough for this run, and few
pub record IsReady (j : Job) : Type 0 where
  pub some : 1 ≤ j.lease
  pub few : j.lease ≤ 2147483648
  pub ready : CanRun (code_of j.code) j.entry j.args.items j.fuel j.lease
