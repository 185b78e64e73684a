use Rattle.std.proofs.Common.{◌∙◌, arith}
use Rattle.std.specs.Prelude.{vec_len}
use Rattle.cell_machine.proofs.LaidLaws.{con_few_parts, con_small, inline_laid, inline_words}
use Rattle.cell_machine.proofs.loading.lay_item.Goals as goal

pub overflow_add-con : goal.overflow_add-con
overflow_add-con c = record { fits = omega (arith, con_small c.args.types.now (vec_len c.args.words.now) c.in-Con.con c.in-Con.parts c.args.item c.limits.ensures c.requires.fits c.in-Con.is) }

pub returns-then-con-clause-laid : goal.returns-then-con-clause-laid
returns-then-con-clause-laid c = λ behind others laid. inline_laid c.args.types.now (vec_len c.args.words.now) c.in-Con.con c.in-Con.parts c.args.at c.args.item c.con.result.now behind others c.args.span.now.cells
    c.args.words.now.items c.put_word-then-con.new.words.items c.limits.ensures c.requires.fits c.in-Con.is c.con.ensures c.if-con.true c.put_word-then-con.ensures.words laid

pub take_words-requires-clause-few : goal.take_words-requires-clause-few
take_words-requires-clause-few c = con_few_parts c.args.types.now (vec_len c.args.words.now) c.in-Con.con c.in-Con.parts c.args.item c.limits.ensures c.requires.fits c.in-Con.is

pub returns-then-con-clause-len : goal.returns-then-con-clause-len
returns-then-con-clause-len c = c.put_word-then-con.ensures.len ∙ inline_words c.args.types.now (vec_len c.args.words.now) c.in-Con.con c.in-Con.parts c.args.item c.con.result.now c.limits.ensures c.requires.fits c.in-Con.is c.con.ensures c.if-con.true
