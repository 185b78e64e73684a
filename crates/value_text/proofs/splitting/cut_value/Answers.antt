use Rattle.std.proofs.Common.{refl}
use Rattle.value_text.proofs.ValueSteps.{one_value, cut_there}
use Rattle.value_text.proofs.splitting.cut_value.Goals as goal

pub of-value-requires : goal.of-value-requires
of-value-requires c = one_value c.args.items.now c.in_ok-from_slice.field-0.items c.value_length-length.result c.value_length-length.ensures c.in_ok-from_slice.ensures.items

pub returns : goal.returns
returns c =
    cut_there c.args.items.now c.in_ok-from_slice.field-0.items _ c.value_length-length.result c.of-value.result c.value_length-length.ensures c.in_ok-from_slice.ensures.items c.of-value.ensures refl
