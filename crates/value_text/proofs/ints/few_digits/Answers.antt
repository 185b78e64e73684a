use Rattle.std.proofs.Common.{◌≡◌, ◌<◌, true, length, get_or, refl, arith, rules}
use Rattle.camelot_values.specs.Names.{is_digit}
use Rattle.value_text.proofs.Digits.{begun_more}
use Rattle.value_text.proofs.ints.few_digits.Goals as goal

pub few-preserved : goal.few-preserved
few-preserved c =
    let within : c.few.at < length c.args.text.now = omega (arith, c.few-test.true, c.min-most.ensures) in
    let few : c.few.at < 10 = omega (arith, c.few-test.true, c.min-most.ensures) in
    let digit : is_digit (get_or c.args.text.now c.few.at 0) ≡ true = search rules in
    record { begun = begun_more c.args.text.now c.few.value c.few.at _ c.few.invariant.begun within few digit refl; some = omega arith }
