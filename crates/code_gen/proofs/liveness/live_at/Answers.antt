use Rattle.normal_form.specs.Live.{term_live}
use Rattle.normal_form.specs.Programs.{block_of}
use Rattle.code_gen.specs.Marked.{told}
use Rattle.code_gen.proofs.Seeing.{block_alone}
use Rattle.code_gen.proofs.liveness.live_at.Goals as goal

pub returns : goal.returns
returns c =
    let b = block_of c.args.block.now in
    block_alone c.mark_block.new.marks b.lets (term_live (told c.args.later.now c.args.count) b.term) c.new-marks.result c.new-marks.ensures.marked c.mark_block.ensures
