use Rattle.std.proofs.Common.{◌≡◌, ◌++◌, drop}
use Rattle.std.specs.Prelude.{flat_map}
use Rattle.machine_image.specs.Writing.{number_text}
use Rattle.machine_image.proofs.writing.push_numbers.Given as goal

abbrev pub invariant-numbers : goal.invariant-numbers
invariant-numbers l = l.out.items ++ flat_map number_text (drop l.value-index l.numbers) ≡ l.initial.out.items ++ flat_map number_text l.numbers
