use Rattle.std.proofs.Common.{◌≡◌, ◌++◌, map}
use Rattle.std.specs.Vec.Iter.{into_iter_items}
use Rattle.grail_blocks.specs.Blocks.{let_of}
use Rattle.normal_form.specs.Normal.{Bind, cut}
use Rattle.normal_form.specs.Parts.{line_of}
use Rattle.normal_form.specs.Programs.{block_of}
use Rattle.normal_form.proofs.cut.cut_lines.Given as goal

abbrev pub invariant-lines : goal.invariant-lines
invariant-lines l = map block_of l.blocks.items ++ cut (map Bind (map let_of l.lets.items) ++ map line_of (into_iter_items l.line-iterator)) ≡ cut (map line_of l.fn.lines.items)
