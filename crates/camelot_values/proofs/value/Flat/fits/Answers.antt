use Rattle.std.proofs.Common.{arith}
use Rattle.camelot_values.specs.declared.value.Item.TheVariants.{Dia}
use Rattle.camelot_values.proofs.FitSteps.{fits_past, fits_not}
use Rattle.camelot_values.proofs.value.Flat.fits.Goals as goal

pub returns-in-None : goal.returns-in-None
returns-in-None c =
    fits_past c.args.types.now c.args.kind c.args.self.now c.items-item-items.result.now c.items.item-index Dia c.items.due.items c.items-item-items.ensures c.items-test.true c.items.invariant (omega (arith, c.items.due.ok.0, c.in-None.ensures.cases.0))

pub returns-in-None-parts_due : goal.returns-in-None-parts_due
returns-in-None-parts_due c =
    fits_not c.args.types.now c.args.kind c.args.self.now c.items-item-items.result.now c.items.item-index _ c.items.due.items c.pop.new.self.items c.in-Some.kind c.items-item-items.ensures c.items-test.true c.items.invariant c.in-Some.ensures.items c.in-None-parts_due.ensures
