-- Private: words for functions of this crate.
-- The plain data of the code's types.
use Rattle.std.specs.Prelude.{ℕ, zero, suc, List, slice_get}
use Rattle.std.specs.Option.{option_map_or}
use Rattle.licence.specs.Books.{Carried}
use Rattle.lp_system.specs.Unknowns.{Unknown, Need, Back, Param, Result, BlockNeed, BlockVar, Made}
use Rattle.lp_rows.specs.Dense.{Dense}
use Rattle.lp_rows.specs.declared.form.Form.{Form}
use Rattle.lp_rows.specs.declared.unknown.Origin.{Origin}
use Rattle.lp_rows.specs.declared.unknown.Origin.TheVariants as origin
use Rattle.lp_rows.specs.declared.unknown.Unknown.{Unknown as DeclaredUnknown}
use Rattle.lp_rows.specs.declared.unknown.Unknown.TheVariants as unknown

abbrev pub plain : DeclaredUnknown → Unknown
plain (unknown.Need func) = Need func
plain (unknown.Back func) = Back func
plain (unknown.BlockNeed func block) = BlockNeed func block
plain (unknown.Unit (origin.Param func var) con) = Param func var con
plain (unknown.Unit (origin.Outcome func) con) = Result func con
plain (unknown.Unit (origin.BlockVar func block var) con) = BlockVar func block var con
plain (unknown.Unit (origin.Made func block place) con) = Made func block place con

-- the unknowns of what a value carries, constructor by constructor
abbrev pub units_of : Origin → ℕ → Unknown
units_of (origin.Param func var) = Param func var
units_of (origin.Outcome func) = Result func
units_of (origin.BlockVar func block var) = BlockVar func block var
units_of (origin.Made func block place) = Made func block place

abbrev pub dense_of : Form → Dense
dense_of form = record { constant = form.constant; factors = form.factors.items }

-- at the beginning of a block
abbrev pub own : (func block : ℕ) → Carried Unknown
own func zero = Param func
own func (suc n) = BlockVar func (suc n)

-- what locals carry, where those in the list have been bound anew or not, and the others haven't
abbrev pub names : (func block : ℕ) → List Origin → Carried Unknown
names func block slots x = option_map_or units_of (slice_get slots x) (own func block x)
