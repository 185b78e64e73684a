-- Private: words for functions of this crate.
-- What the code reads from the words of a line, and what its reader stands for.
use Rattle.std.specs.Prelude.{◌≡◌, ℕ, ◌≤◌, Option, Some, None, List, [], ◌∷◌, map, codes, if◌then◌else◌, MatchResult}
use Rattle.std.specs.Option.{option_map}
use Rattle.std.specs.Str.{bytes_eq}
use Rattle.std.specs.Borrow.{Bor}
use Rattle.std.proofs.Common.{arith, Result}
use Rattle.text_lines.specs.Answers.{KindIs}
use Rattle.text_lines.specs.declared.reading.Refused.{Refused}
use Rattle.text_lines.specs.Cuts.{and_then, only_if, further}
use Rattle.machine_image.specs.Images.{Counts, Frame, Cell}
use Rattle.machine_image.specs.Reading.{Line, LFrame, LLocal, LCell, LEnd, word_number, is_empty, counts_by, counts_from, take_line, Front, Start, Named, Counted, Framed, Done, image_by}
use Rattle.machine_image.specs.Words.{bound_of, frame_of, cell_of}
use Rattle.machine_image.specs.declared.lines.Line.{Line as DeclaredLine}
use Rattle.machine_image.specs.declared.lines.Line.TheVariants as line
use Rattle.machine_image.specs.declared.counts.Counts.{Counts as DeclaredCounts}
use Rattle.machine_image.specs.declared.reading.Stage.{Stage}
use Rattle.machine_image.specs.declared.reading.Stage.TheVariants as stage
use Rattle.machine_image.specs.declared.reading.NoForm.{NoForm}
use Rattle.machine_image.specs.declared.reading.ImageReader.{ImageReader}
use Rattle.machine_image.specs.declared.state.Frame.{Frame as DeclaredFrame}
use Rattle.cell_span.specs.declared.cell.Cell.{Cell as DeclaredCell}

-- ---- words

-- the number in front, and the words behind it
abbrev pub taken : List (List ℕ) → Option (ℕ × List (List ℕ))
taken [] = None
taken (w ∷ ws) = option_map (λ n. (n, ws)) (word_number w)

-- the same number and the same words, or both nothing
pub record IsTaken (found : Option (ℕ × List (List ℕ))) (n : ℕ) (ws : List (List ℕ)) : Type 0 where
  pub is : found ≡ Some (n, ws)

abbrev pub TakenIs : Option (ℕ × List (List ℕ)) → Option (ℕ × Bor (List ℕ)) → Type 0
TakenIs found None = found ≡ None
TakenIs found (Some p) = IsTaken found p.0 (further p.1.now)

-- the word behind this one, and the words behind it
abbrev pub keyed_word : List ℕ → List (List ℕ) → Option (List ℕ × List (List ℕ))
keyed_word key [] = None
keyed_word key (t ∷ []) = None
keyed_word key (t ∷ w ∷ ws) = only_if (bytes_eq t key) (Some (w, ws))

-- the same word and the same words, or both nothing
pub record IsKeyed (found : Option (List ℕ × List (List ℕ))) (word : List ℕ) (ws : List (List ℕ)) : Type 0 where
  pub is : found ≡ Some (word, ws)

abbrev pub KeyedIs : Option (List ℕ × List (List ℕ)) → Option (Bor (List ℕ) × Bor (List ℕ)) → Type 0
KeyedIs found None = found ≡ None
KeyedIs found (Some p) = IsKeyed found p.0.now (further p.1.now)

-- six words, each behind its key, and the numbers that they are
unfoldable pub counts_at : List (List ℕ) → Option Counts
counts_at ws =
    and_then (keyed_word (codes "calls") ws) (λ c. and_then (keyed_word (codes "net") c.1) (λ n. and_then (keyed_word (codes "peak") n.1)
    (λ p. and_then (keyed_word (codes "fuel") p.1) (λ f. and_then (keyed_word (codes "free") f.1) (λ h. and_then (keyed_word (codes "cells") h.1)
    (λ s. only_if (is_empty s.1) (counts_from (c.0 ∷ n.0 ∷ p.0 ∷ f.0 ∷ h.0 ∷ s.0 ∷ []))))))))

-- so many numbers and no further word
unfoldable pub frame_at : List (List ℕ) → Option Line
frame_at ws = and_then (taken ws) (λ f. and_then (taken f.1) (λ b. and_then (taken b.1) (λ p. only_if (is_empty p.1) (Some (LFrame f.0 b.0 p.0)))))

unfoldable pub local_at : List (List ℕ) → Option Line
local_at ws = and_then (taken ws) (λ l. and_then (taken l.1) (λ w. only_if (is_empty w.1) (Some (LLocal (record { local = l.0; word = w.0 })))))

unfoldable pub cell_at : List (List ℕ) → Option Line
cell_at ws =
    and_then (taken ws) (λ t. and_then (taken t.1) (λ a. and_then (taken a.1) (λ b. and_then (taken b.1) (λ c. and_then (taken c.1)
    (λ d. only_if (is_empty d.1) (Some (LCell (record { tag = t.0; w0 = a.0; w1 = b.0; w2 = c.0; w3 = d.0 }))))))))

unfoldable pub end_at : List (List ℕ) → Option Line
end_at ws = only_if (is_empty ws) (Some LEnd)

unfoldable pub line_at : List (List ℕ) → Option Line
line_at [] = None
line_at (tag ∷ ws) =
    if bytes_eq tag (codes "cell") then cell_at ws else
    if bytes_eq tag (codes "local") then local_at ws else
    if bytes_eq tag (codes "frame") then frame_at ws else
    if bytes_eq tag (codes "end") then end_at ws else None

-- ---- the code's types

abbrev pub line_as : DeclaredLine → Line
line_as (line.Frame func block place) = LFrame func block place
line_as (line.Local bound) = LLocal (bound_of bound)
line_as (line.Cell cell) = LCell (cell_of cell)
line_as line.End = LEnd

abbrev pub counts_as : DeclaredCounts → Counts
counts_as c = counts_by c.calls c.net c.peak c.fuel c.free c.cells

-- ---- the reader

-- the one kind of faults
abbrev pub kind_of : NoForm → ℕ
kind_of k = 0

pub kinds : (k : NoForm) → kind_of k ≤ 0
kinds k = omega arith

abbrev pub front_by : Stage → Counts → List Frame → Frame → List Cell → Front
front_by stage.Start c fs f cs = Start
front_by stage.Named c fs f cs = Named
front_by stage.Counted c fs f cs = Counted c
front_by stage.Framed c fs f cs = Framed c fs f cs
front_by stage.Done c fs f cs = Done (image_by c fs cs)

abbrev pub front_of : ImageReader → Front
front_of r = front_by r.stage (counts_as r.counts) (map frame_of r.frames.items) (frame_of r.last) (map cell_of r.cells.items)

-- what a line makes of it behind the first frame's line
abbrev pub line_taken : ImageReader → Line → Option Front
line_taken r l = take_line (counts_as r.counts) (map frame_of r.frames.items) (frame_of r.last) (map cell_of r.cells.items) l

-- the reader stands for what comes of a line, or the line is refused
abbrev pub StepIs : {A : Type 0} → Option Front → Front → Result A (Refused NoForm) → Type 0
StepIs o t result = MatchResult result (λ x. o ≡ Some t) (λ stop. KindIs (λ k. o ≡ None) stop)

-- no frame and no cell before the first frame's line
abbrev pub IsFresh : Stage → List DeclaredFrame → List DeclaredCell → Type 0
IsFresh stage.Start fs cs = (fs ≡ []) × (cs ≡ [])
IsFresh stage.Named fs cs = (fs ≡ []) × (cs ≡ [])
IsFresh stage.Counted fs cs = (fs ≡ []) × (cs ≡ [])
IsFresh stage.Framed fs cs = Unit {0}
IsFresh stage.Done fs cs = Unit {0}

-- whatever follows
abbrev pub IsReady : ImageReader → List ℕ → Type 0
IsReady r rest = IsFresh r.stage r.frames.items r.cells.items
