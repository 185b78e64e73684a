-- Cited by contracts.
-- The evaluator's trees as values.
use Rattle.std.specs.Prelude.{List, map}
use Rattle.camelot_values.specs.Value as value
use Rattle.camelot_values.specs.Value.{Value, parts}
use Rattle.grail_evaluator.specs.declared.tree.Tree.{Tree}
use Rattle.grail_evaluator.specs.declared.tree.Tree.TheFolds.{fold-Tree}
use Rattle.grail_evaluator.specs.declared.tree.Tree.TheOpen as layer
use Rattle.grail_evaluator.specs.declared.tree.Tree.TheOpen.{Tree-F}

abbrev pub tree_step : Tree-F Value → Value
tree_step (layer.Int z) = value.Int z
tree_step (layer.Flag b) = value.Flag b
tree_step layer.Dia = value.Dia
tree_step (layer.Con c vs) = value.Con c (parts vs.items)

abbrev pub plain : Tree → Value
plain = fold-Tree Value tree_step

abbrev pub plain_all : List Tree → List Value
plain_all ts = map plain ts
