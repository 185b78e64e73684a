use Rattle.std.proofs.Common.{rules, arith, ◌≡◌, ◌≤◌, ◌+◌, ◌-◌, ◌++◌, ◌∙◌, ap, sym, subst, drop, pos}
use Rattle.std.specs.Prelude.{vec_len}
use Rattle.camelot_values.specs.declared.value.Item.TheVariants as item
use Rattle.cell_machine.specs.Nodes.{lay, lay_all, cell_count}
use Rattle.cell_machine.specs.Laid.{IsLaid}
use Rattle.cell_machine.proofs.LaidLaws.{next_fits, next_words, next_cells, next_cell, next_laid, words_few, itself, two_next}
use Rattle.cell_machine.proofs.loading.lay_value.Goals as goal

pub lay_two-at-requires-clause-cell : goal.lay_two-at-requires-clause-cell
lay_two-at-requires-clause-cell c = (two_next c.args.types.now c.args.items.now c.items.left c.items.at (vec_len c.items.words) c.in-Some.con c.in-Some.word c.args.before (vec_len c.args.words.now) c.requires.fits
    (omega (arith, c.items-test.true)) c.items.invariant.left c.in-Some.ensures.two c.in-Some.ensures.boxed c.items.invariant.words c.items.invariant.at c.requires.cells).cell

pub lay_two-at-requires-clause-word : goal.lay_two-at-requires-clause-word
lay_two-at-requires-clause-word c = (two_next c.args.types.now c.args.items.now c.items.left c.items.at (vec_len c.items.words) c.in-Some.con c.in-Some.word c.args.before (vec_len c.args.words.now) c.requires.fits
    (omega (arith, c.items-test.true)) c.items.invariant.left c.in-Some.ensures.two c.in-Some.ensures.boxed c.items.invariant.words c.items.invariant.at c.requires.cells).word

pub items-preserved-in-Some : goal.items-preserved-in-Some
items-preserved-in-Some c =
    let n = two_next c.args.types.now c.args.items.now c.items.left c.items.at (vec_len c.items.words) c.in-Some.con c.in-Some.word c.args.before (vec_len c.args.words.now) c.requires.fits
    (omega (arith, c.items-test.true)) c.items.invariant.left c.in-Some.ensures.two c.in-Some.ensures.boxed c.items.invariant.words c.items.invariant.at c.requires.cells in
    let back : c.lay_two-at.result ≡ c.items.at - 1 = omega (arith, c.lay_two-at.ensures.at) in
    record {
      left = n.left_is;
      known = c.boxed_two.ensures.known;
      at = ap (λ a. a + cell_count c.args.types.now (drop (c.items.left - 1 - 1) c.args.items.now)) back ∙ n.at_is;
      words = c.lay_two-at.ensures.len ∙ n.words_are;
      laid = λ rest others laid. subst (λ a. IsLaid a (lay_all c.args.types.now a (drop (c.items.left - 1 - 1) c.args.items.now ++ rest)) others c.lay_two-at.new.span.cells c.lay_two-at.new.words.items) (sym back)
          (n.laid_is rest others c.lay_two-at.new.span.cells c.lay_two-at.new.words.items
          (subst (λ a. IsLaid a (lay c.args.types.now a (item.Con 2 c.in-Some.con) (lay c.args.types.now c.items.at (item.Int c.in-Some.ensures.two.number) (lay_all c.args.types.now c.items.at (drop c.items.left c.args.items.now ++ rest)))) others c.lay_two-at.new.span.cells c.lay_two-at.new.words.items) back
          (c.lay_two-at.ensures.laid c.in-Some.ensures.two.number (lay_all c.args.types.now c.items.at (drop c.items.left c.args.items.now ++ rest)) others c.in-Some.ensures.two.word_is (c.items.invariant.laid rest others laid))));
      room = search rules;
      range = search rules;
    }

pub lay_item-at-requires-clause-fits : goal.lay_item-at-requires-clause-fits
lay_item-at-requires-clause-fits c = next_fits c.args.types.now c.args.items.now c.items.left (vec_len c.items.words) (vec_len c.args.words.now) _ c.requires.fits (omega (arith, c.items-test.true)) c.items.invariant.left
    (itself c.args.items.now (c.items.left - 1) (item.Int (pos 0)) (omega (arith, c.items-test.true, c.items.invariant.left))) c.items.invariant.words

pub lay_item-at-requires-clause-cell : goal.lay_item-at-requires-clause-cell
lay_item-at-requires-clause-cell c = next_cell c.args.types.now c.args.items.now c.items.left c.items.at c.args.before _ (omega (arith, c.items-test.true)) c.items.invariant.left
    (itself c.args.items.now (c.items.left - 1) (item.Int (pos 0)) (omega (arith, c.items-test.true, c.items.invariant.left))) c.items.invariant.at c.requires.cells

pub lay_item-at-requires-clause-room : goal.lay_item-at-requires-clause-room
lay_item-at-requires-clause-room c = omega (arith, c.items.invariant.words, words_few c.args.items.now c.items.left, c.requires.room, c.items.invariant.room, c.items-test.true, c.items.invariant.left)

pub items-preserved : goal.items-preserved
items-preserved c =
    let some : 1 ≤ c.items.left = omega (arith, c.items-test.true) in
    let is = itself c.args.items.now (c.items.left - 1) (item.Int (pos 0)) (omega (arith, c.items-test.true, c.items.invariant.left)) in
    record {
      left = omega (arith, c.items.invariant.left);
      known = c.boxed_two.ensures.known;
      at = next_cells c.args.types.now c.args.items.now c.items.left c.items.at c.lay_item-at.result c.args.before _ some c.items.invariant.left is c.items.invariant.at c.lay_item-at.ensures.at;
      words = next_words c.args.types.now c.args.items.now c.items.left (vec_len c.items.words) (vec_len c.lay_item-at.new.words) (vec_len c.args.words.now) _ c.requires.fits some c.items.invariant.left is c.items.invariant.words c.lay_item-at.ensures.len;
      laid = λ rest others laid. next_laid c.args.types.now c.args.items.now rest c.items.left c.items.at c.lay_item-at.result _ others c.lay_item-at.new.span.cells c.lay_item-at.new.words.items some c.items.invariant.left is c.lay_item-at.ensures.at
          (c.lay_item-at.ensures.laid (lay_all c.args.types.now c.items.at (drop c.items.left c.args.items.now ++ rest)) others (c.items.invariant.laid rest others laid));
      room = search rules;
      range = search rules;
    }
