use Rattle.std.proofs.Common.{[], ◌∷◌, subst, sym}
use Rattle.std.specs.Prelude.{slice_index_or}
use Rattle.camelot_values.specs.declared.kinds.Kind.TheVariants.{Int}
use Rattle.value_text.specs.Dues.{Value}
use Rattle.value_text.specs.Due.{Reading, first_due}
use Rattle.value_text.specs.Later.{later_due}
use Rattle.value_text.proofs.Following.{reading_first}
use Rattle.value_text.proofs.LaterSteps.{none_first, some_first}
use Rattle.value_text.proofs.reading.read_items.Goals as goal

pub finish-requires-clause-reading : goal.finish-requires-clause-reading
finish-requires-clause-reading c =
    subst (λ xs. Reading c.args.types.now (first_due c.args.kinds.now) c.args.text.now xs [] c.args.text.now) (sym c.in-Ok.ensures.items)
    (reading_first c.args.types.now c.args.kinds.now c.args.text.now [] c.requires.possible (none_first c.args.kinds.now c.in-empty.len_below))

pub values-init : goal.values-init
values-init c =
    let later = later_due c.values-later.result.inner.now c.values-later.result.closed c.values-later.result.frames.items c.values-later.result.others.now in
    let dues = Value (slice_index_or c.args.kinds.now 0 Int) ∷ later in
    subst (λ xs. Reading c.args.types.now (first_due c.args.kinds.now) c.args.text.now xs dues c.args.text.now) (sym c.in-Ok.ensures.items)
    (reading_first c.args.types.now c.args.kinds.now c.args.text.now dues c.requires.possible (some_first c.args.kinds.now later c.in-len1-up.len_at_least c.values-later.ensures))
