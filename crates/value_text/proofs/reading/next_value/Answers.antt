use Rattle.std.proofs.Common.{◌∷◌, ◌-◌, length, take, drop, subst, sym}
use Rattle.std.specs.Prelude.{slice_index_or}
use Rattle.camelot_values.specs.declared.kinds.Kind.TheVariants.{Int}
use Rattle.value_text.specs.Dues.{Value}
use Rattle.value_text.specs.Due.{Reading, first_due, others_due}
use Rattle.value_text.proofs.LaterSteps.{no_frames, some_other}
use Rattle.value_text.proofs.reading.next_value.Goals as goal

pub returns-in-Ok-clause-reading : goal.returns-in-Ok-clause-reading
returns-in-Ok-clause-reading c =
    let kinds = c.args.later.now.others.now in
    let others = take (length kinds - 1) (drop 1 kinds) in
    let q = slice_index_or kinds 0 Int in
    subst (λ d. Reading c.args.types.now (first_due c.args.kinds.now) c.args.text.now c.args.items.now.items (Value q ∷ d) c.in-Ok.after.now)
    (sym (no_frames c.args.later.now.inner.now c.args.later.now.closed c.args.later.now.frames.items others c.requires.inner c.requires.closed c.requires.frames))
    (c.in-Ok.ensures.reading c.args.items.now.items (Value q ∷ others_due others)
    (subst (λ d. Reading c.args.types.now (first_due c.args.kinds.now) c.args.text.now c.args.items.now.items d c.args.rest.now)
    (some_other kinds c.in-len1-up.len_at_least) c.requires.reading))

pub returns-in-Err-clause-reading : goal.returns-in-Err-clause-reading
returns-in-Err-clause-reading c =
    let kinds = c.args.later.now.others.now in
    c.in-Err.ensures.reading c.args.items.now.items (Value (slice_index_or kinds 0 Int) ∷ others_due (take (length kinds - 1) (drop 1 kinds)))
    (subst (λ d. Reading c.args.types.now (first_due c.args.kinds.now) c.args.text.now c.args.items.now.items d c.args.rest.now)
    (some_other kinds c.in-len1-up.len_at_least) c.requires.reading)
