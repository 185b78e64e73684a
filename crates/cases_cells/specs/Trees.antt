-- Private: words for functions of this crate.
-- Values in front of other nodes, as the evaluator has them.
use Rattle.std.specs.Prelude.{◌≡◌, ℕ, ◌<◌, ◌≤◌, List, length, Option, Some, None}
use Rattle.camelot_values.specs.Value.{Value, parts, part_count}
use Rattle.camelot_values.specs.Items.{nodes, nodes_all}
use Rattle.camelot_values.specs.declared.value.Item.{Item}
use Rattle.grail_evaluator.specs.Trees.{plain, plain_all}
use Rattle.cases_cells.specs.declared.machines.trees.First.{First}
use Rattle.cases_cells.specs.declared.machines.trees.Firsts.{Firsts}

-- these values are in front of the rest
abbrev pub InFront : List Item → List Value → List Item → Type 0
InFront items values rest = items ≡ nodes_all (parts values) rest

-- this value is in front of the rest, which is shorter
abbrev pub IsFirst : List Item → Option First → Type 0
IsFirst items None = Unit {0}
IsFirst items (Some f) = (items ≡ nodes (plain f.tree) f.rest.now) × (length f.rest.now < length items)

-- so many values are in front of the rest
abbrev pub AreFirst : ℕ → List Item → Option Firsts → Type 0
AreFirst count items None = Unit {0}
AreFirst count items (Some f) = (part_count (parts (plain_all f.trees.items)) ≡ count) × InFront items (plain_all f.trees.items) f.rest.now × (length f.rest.now ≤ length items)
