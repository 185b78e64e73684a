use Rattle.cell_machine.proofs.LaidLaws.{two_there}
use Rattle.cell_machine.proofs.loading.boxed_two.Goals as goal

pub takes_cell-requires-clause-there : goal.takes_cell-requires-clause-there
takes_cell-requires-clause-there c = two_there c.args.types.now c.args.items.now c.args.left c.in-Some.con c.in-Some.word c.requires.fits c.in-Some.ensures
