use Rattle.std.proofs.Common.{◌+◌, ◌≤◌, length, rules, arith, sym, subst}
use Rattle.camelot_values.specs.Kinds.{constructors}
use Rattle.camelot_typing.specs.NumberLaws.{few_constructors}
use Rattle.camelot_types.proofs.compile.type_numbers.Goals as goal

pub types-init : goal.types-init
types-init c = record {
  numbers = search rules;
  room = subst (λ types. 0 + length (constructors types) ≤ 4096) (sym c.defs-defs.ensures) (let few = few_constructors c.args.types.now c.limits.ensures in omega (arith, few));
}
