-- Private: words for functions of this crate.
-- Code whose values can be read, arguments that were read, and runs that a licence covers.
use Rattle.std.specs.Prelude.{ℕ, ◌≤◌, List, slice_get, IsSomeAnd}
use Rattle.camelot_values.specs.Value.{Value, parts}
use Rattle.camelot_values.specs.Counts.{size_all}
use Rattle.camelot_values.specs.Typing.{ArgumentsFit}
use Rattle.grail_code.specs.Code.{Code}
use Rattle.licence.specs.Licensed.{Licensed, FitsEntry}
use Rattle.value_text.specs.Grammar.{AreNamed, DistinctNames}
use Rattle.cases_cells.specs.declared.licences.jobs.Job.{Job}

-- constructors have upper names, no two the same
pub record IsReadable (p : Code) : Type 0 where
  pub named : AreNamed p.types
  pub distinct : DistinctNames p.types

-- few values of the kinds of the entry's parameters
pub record AreArguments (p : Code) (entry : ℕ) (args : List Value) : Type 0 where
  pub fit : IsSomeAnd (slice_get p.funcs entry) (λ f. ArgumentsFit p.types f.params args)
  pub few : size_all (parts args) ≤ 65536

-- the arguments are of the entry, and there is some fuel
pub record IsReady (j : Job) : Type 0 where
  pub args : AreArguments j.licence.code j.entry j.args.items
  pub some_fuel : 1 ≤ j.fuel
