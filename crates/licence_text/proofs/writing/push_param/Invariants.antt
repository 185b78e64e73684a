use Rattle.std.proofs.Common.{◌≡◌, ◌++◌, drop}
use Rattle.std.specs.Prelude.{flat_map}
use Rattle.licence_text.specs.Texts.{term_text}
use Rattle.licence_text.proofs.writing.push_param.Given as goal

abbrev pub invariant-pairs : goal.invariant-pairs
invariant-pairs l = l.out.items ++ flat_map (term_text l.types l.param.var) (drop l.pair-index l.pair-items) ≡ l.initial.out.items ++ flat_map (term_text l.types l.param.var) l.pair-items
