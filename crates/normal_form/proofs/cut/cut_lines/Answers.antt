use Rattle.std.proofs.Common.{◌∷◌, map, ap, ◌∙◌, arith}
use Rattle.std.specs.Vec.Iter.{into_iter_items}
use Rattle.grail_blocks.specs.Blocks.{let_of, term_of}
use Rattle.normal_form.specs.Normal.{cut}
use Rattle.normal_form.specs.Parts.{line_of}
use Rattle.normal_form.specs.Programs.{block_of}
use Rattle.normal_form.proofs.Counting.{map_last}
use Rattle.normal_form.proofs.Cutting.{next_closed, all_cut}
use Rattle.normal_form.proofs.cut.cut_lines.Goals as goal

pub lines-preserved : goal.lines-preserved
lines-preserved c =
    next_closed (map block_of c.lines.blocks.items) (map block_of c.push.new.self.items) (map let_of c.lines.lets.items) (map let_of c.new-lets-in-Close.result.items) (term_of c.in-Close.term) (map line_of (into_iter_items c.next.new.self))
    (map line_of (into_iter_items c.lines.line-iterator)) (cut (map line_of c.args.lines.items)) (ap (map block_of) c.in_ok-push-in-Close.ensures.items ∙ map_last block_of c.lines.blocks.items _)
    (ap (map line_of) c.in-Some.ensures.steps.0 ∙ ap (λ l. line_of l ∷ map line_of (into_iter_items c.next.new.self)) c.in-Close.is) (ap (map let_of) c.new-lets-in-Close.ensures.items) c.lines.invariant

pub returns : goal.returns
returns c =
    let none = c.in-None.ensures.steps.0 in
    let count = c.lines.line-iterator.rest.ok.0 in
    all_cut line_of (map block_of c.lines.blocks.items) (map let_of c.lines.lets.items) (into_iter_items c.lines.line-iterator) (cut (map line_of c.args.lines.items)) (omega (arith, none, count)) c.lines.invariant
