use Rattle.std.proofs.Common.{◌-◌, ◌≤◌, take, length}
use Rattle.std.specs.Prelude.{IsTrue}
use Rattle.std.specs.List.{list_all}
use Rattle.value_text.specs.Grammar.{is_word_byte}
use Rattle.value_text.proofs.cutting.word_length.Given as goal

abbrev pub invariant-word : goal.invariant-word
invariant-word l = record { all : IsTrue (list_all is_word_byte (take l.at l.text)); within : l.at ≤ length l.text }

abbrev pub decreases-word : goal.decreases-word
decreases-word l = length l.text - l.at
