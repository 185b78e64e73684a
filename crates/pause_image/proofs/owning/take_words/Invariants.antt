use Rattle.std.proofs.Common.{◌≡◌, ℕ, ◌*◌, ◌≤◌, List, [], drop, length, map}
use Rattle.std.specs.Option.{option_map_or}
use Rattle.grail_code.specs.Code.{func_of}
use Rattle.licence.specs.Books.{Carried}
use Rattle.machine_image.specs.Images.{Frame}
use Rattle.pause_image.specs.Judging.{plain_bounds}
use Rattle.pause_image.specs.Taking.{Begins}
use Rattle.pause_image.proofs.Taking.{WordsMidway}
use Rattle.pause_image.proofs.owning.take_words.Given as goal

abbrev pub invariant-words : goal.invariant-words
invariant-words l = record {
  way : (before : List ℕ) (f : Frame) (carried : Carried ℕ) → Begins l.licence.code l.cells (func_of l.func) before f carried (map (λ o. option_map_or (λ v. v.now) o []) l.vectors) l.initial.marks
      → WordsMidway l.licence.code l.cells before f carried (plain_bounds l.live) (drop l.number (plain_bounds l.live)) l.marks l.units;
  many : length l.marks ≡ length l.cells;
  few : l.units ≤ 316912650057057350374175801344 * l.number;
}
