-- Cited by contracts.
-- Marks of parameters, one after the other, and arms that leave their cell as it is.
use Rattle.std.specs.Prelude.{ℕ, Bool, true, false, List, [], ◌∷◌, ◌++◌, length, replicate, slice_set}
use Rattle.grail_code.specs.Code.{Func}
use Rattle.grail_blocks.specs.declared.blocks.CaseCell.{CaseCell}
use Rattle.grail_blocks.specs.declared.blocks.CaseCell.TheVariants as cell

-- where the marks end, nothing is marked
abbrev pub first_mark : List Bool → Bool
first_mark [] = false
first_mark (mark ∷ marks) = mark

abbrev pub later_marks : List Bool → List Bool
later_marks [] = []
later_marks (mark ∷ marks) = marks

-- these are marked too, as far as they are there
abbrev pub mark_all : List Bool → List ℕ → List Bool
mark_all marks [] = marks
mark_all marks (x ∷ xs) = mark_all (slice_set marks x true) xs

-- the marks of a function's parameters, and none for its further locals
abbrev pub all_marks : Func → List Bool
all_marks f = f.reads ++ replicate (length f.locals) false

abbrev pub is_look : CaseCell → Bool
is_look cell.Look = true
is_look cell.Inline = false
is_look cell.Free = false
is_look (cell.Keep d) = false
