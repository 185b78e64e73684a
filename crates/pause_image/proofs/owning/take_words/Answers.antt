use Rattle.std.proofs.Common.{rules, ℕ, ◌+◌, [], drop, length, arith, subst}
use Rattle.std.specs.Prelude.{slice_index_or}
use Rattle.std.proofs.lemmas.List.{length-map}
use Rattle.cell_owners.specs.Values.{vector_of}
use Rattle.grail_code.specs.Code.{func_of}
use Rattle.machine_image.specs.Words.{bound_of}
use Rattle.pause_image.specs.Judging.{plain_bounds}
use Rattle.pause_image.proofs.Taking.{WordsMidway, bound_here, drop_here, drop_all, small_here, words_next, word_fails, words_all}
use Rattle.pause_image.proofs.owning.take_words.Goals as goal

pub vector_at-vector-requires : goal.vector_at-vector-requires
vector_at-vector-requires c = small_here (plain_bounds c.args.live.now) c.words.number (length c.args.vectors.now) (bound_of (slice_index_or c.args.live.now c.words.number (record { local = 0; word = 0 }))) c.requires.small
    (bound_here c.args.live.now c.words.number (record { local = 0; word = 0 }) c.words-test.true)

pub returns-in-None-clause-words : goal.returns-in-None-clause-words
returns-in-None-clause-words c = λ before f carried begins.
    let b = bound_of (slice_index_or c.args.live.now c.words.number (record { local = 0; word = 0 })) in
    word_fails c.args.licence.now.code c.args.cells.now (func_of c.args.func.now) before f carried _ (plain_bounds c.args.live.now) (drop (c.words.number + 1) (plain_bounds c.args.live.now)) b c.words.marks c.take_word.new.marks
    c.args.marks.now c.words.units (vector_of c.vector_at-vector.result) c.in_ok-answer.answer begins
    (subst (λ rest. WordsMidway c.args.licence.now.code c.args.cells.now before f carried (plain_bounds c.args.live.now) rest c.words.marks c.words.units)
    (drop_here (plain_bounds c.args.live.now) c.words.number b (bound_here c.args.live.now c.words.number (record { local = 0; word = 0 }) c.words-test.true)) (c.words.invariant.way before f carried begins))
    c.in_ok-answer.ensures.word c.in-None.is

pub words-preserved : goal.words-preserved
words-preserved c = record {
  way = λ before f carried begins.
      let b = bound_of (slice_index_or c.args.live.now c.words.number (record { local = 0; word = 0 })) in
      let at = bound_here c.args.live.now c.words.number (record { local = 0; word = 0 }) c.words-test.true in
      words_next c.args.licence.now.code c.args.cells.now (func_of c.args.func.now) before f carried c.args.vectors.now (plain_bounds c.args.live.now) (drop (c.words.number + 1) (plain_bounds c.args.live.now)) b c.words.marks
      c.take_word.new.marks c.args.marks.now c.words.units c.in-Some.more c.vector_at-vector.result c.in_ok-answer.answer begins
      (subst (λ rest. WordsMidway c.args.licence.now.code c.args.cells.now before f carried (plain_bounds c.args.live.now) rest c.words.marks c.words.units) (drop_here (plain_bounds c.args.live.now) c.words.number b at)
      (c.words.invariant.way before f carried begins))
      c.vector_at-vector.ensures (small_here (plain_bounds c.args.live.now) c.words.number (length c.args.vectors.now) b c.requires.small at) c.in_ok-answer.ensures.word c.in-Some.is;
  many = search rules;
  few = search rules;
}

pub returns-clause-words : goal.returns-clause-words
returns-clause-words c = λ before f carried begins.
    words_all c.args.licence.now.code c.args.cells.now before f carried (plain_bounds c.args.live.now) c.words.marks c.words.units
    (subst (λ rest. WordsMidway c.args.licence.now.code c.args.cells.now before f carried (plain_bounds c.args.live.now) rest c.words.marks c.words.units)
    (drop_all (plain_bounds c.args.live.now) c.words.number (omega (arith, c.words-test.false, length-map c.args.live.now bound_of))) (c.words.invariant.way before f carried begins))
