-- What a line makes of what was read.
use Rattle.std.proofs.Common.{◌≡◌, ℕ, false, List, [], Option, Some, None, Result, sym, ap, ◌∙◌, subst, map}
use Rattle.std.specs.Prelude.{codes}
use Rattle.std.specs.Option.{option_map}
use Rattle.std.specs.Str.{bytes_eq}
use Rattle.text_lines.specs.Cuts.{and_then, only_if, words}
use Rattle.text_lines.specs.Machines.{IsNext}
use Rattle.text_lines.specs.declared.reading.Refused.{Refused}
use Rattle.machine_image.specs.Images.{Counts, Frame, IsImage}
use Rattle.machine_image.specs.Reading.{Line, LFrame, Front, Named, Counted, Framed, frame_by_three, first_frame, step, closed, image_machine}
use Rattle.machine_image.specs.ImageLaws.{step_good}
use Rattle.machine_image.specs.Words.{frame_of, cell_of}
use Rattle.machine_image.specs.Parts.{counts_at, line_at, counts_as, front_by, front_of, line_taken, StepIs}
use Rattle.machine_image.specs.declared.reading.Stage.TheVariants as stage
use Rattle.machine_image.specs.declared.reading.NoForm.{NoForm}
use Rattle.machine_image.specs.declared.reading.ImageReader.{ImageReader}
use Rattle.machine_image.proofs.Matching.{first_not, counts_same, line_same}

pub next : (s t : Front) (line : List ℕ) → IsImage (closed s) → step s (words line) ≡ Some t → IsNext image_machine s line t
next s t line g e = record { is = e; right = step_good s t (words line) g e }

-- ---- the first two lines

pub other_first : (r : ImageReader) (line : List ℕ) → r.stage ≡ stage.Start → bytes_eq line (codes "grail image 1") ≡ false
    → step (front_of r) (words line) ≡ None
other_first r line e h = ap (λ st. step (front_by st (counts_as r.counts) (map frame_of r.frames.items) (frame_of r.last) (map cell_of r.cells.items)) (words line)) e ∙ ap (λ b. only_if b (Some Named)) (first_not line h)

counts_step : (r : ImageReader) (line : List ℕ) (o : Option Counts) → r.stage ≡ stage.Named → o ≡ counts_at (words line)
    → step (front_of r) (words line) ≡ option_map Counted o
counts_step r line o e h = ap (λ st. step (front_by st (counts_as r.counts) (map frame_of r.frames.items) (frame_of r.last) (map cell_of r.cells.items)) (words line)) e ∙ ap (option_map Counted) (sym (counts_same (words line)) ∙ sym h)

pub other_counts : (r : ImageReader) (line : List ℕ) → r.stage ≡ stage.Named → None ≡ counts_at (words line)
    → step (front_of r) (words line) ≡ None
other_counts r line e h = counts_step r line None e h

pub some_counts : (r : ImageReader) (line : List ℕ) (d : Counts) → r.stage ≡ stage.Named → Some d ≡ counts_at (words line)
    → step (front_of r) (words line) ≡ Some (Counted d)
some_counts r line d e h = counts_step r line (Some d) e h

-- ---- the first frame

oldest_step : (r : ImageReader) (line : List ℕ) (o : Option Line) → r.stage ≡ stage.Counted → o ≡ line_at (words line)
    → step (front_of r) (words line) ≡ and_then o (first_frame (counts_as r.counts))
oldest_step r line o e h = ap (λ st. step (front_by st (counts_as r.counts) (map frame_of r.frames.items) (frame_of r.last) (map cell_of r.cells.items)) (words line)) e ∙ ap (λ o. and_then o (first_frame (counts_as r.counts))) (sym (line_same (words line)) ∙ sym h)

pub no_oldest : (r : ImageReader) (line : List ℕ) → r.stage ≡ stage.Counted → None ≡ line_at (words line)
    → step (front_of r) (words line) ≡ None
no_oldest r line e h = oldest_step r line None e h

pub other_oldest : (r : ImageReader) (line : List ℕ) (l : Line) → r.stage ≡ stage.Counted → Some l ≡ line_at (words line)
    → first_frame (counts_as r.counts) l ≡ None → step (front_of r) (words line) ≡ None
other_oldest r line l e h n = oldest_step r line (Some l) e h ∙ n

pub some_oldest : (r : ImageReader) (g : Frame) (line : List ℕ) (a b p : ℕ) → r.stage ≡ stage.Counted
    → Some (LFrame a b p) ≡ line_at (words line) → r.frames.items ≡ [] → r.cells.items ≡ [] → g ≡ frame_by_three a b p
    → step (front_of r) (words line) ≡ Some (Framed (counts_as r.counts) (map frame_of r.frames.items) g (map cell_of r.cells.items))
some_oldest r g line a b p e h x y z =
    let c : Counts = counts_as r.counts in
    oldest_step r line (Some (LFrame a b p)) e h ∙ ap (λ fs. Some (Framed c (map frame_of fs) (frame_by_three a b p) [])) (sym x)
    ∙ ap (λ cs. Some (Framed c (map frame_of r.frames.items) (frame_by_three a b p) (map cell_of cs))) (sym y)
    ∙ ap (λ g. Some (Framed c (map frame_of r.frames.items) g (map cell_of r.cells.items))) (sym z)

-- ---- further lines

further_step : (r : ImageReader) (line : List ℕ) (o : Option Line) → r.stage ≡ stage.Framed → o ≡ line_at (words line)
    → step (front_of r) (words line) ≡ and_then o (line_taken r)
further_step r line o e h = ap (λ st. step (front_by st (counts_as r.counts) (map frame_of r.frames.items) (frame_of r.last) (map cell_of r.cells.items)) (words line)) e ∙ ap (λ o. and_then o (line_taken r)) (sym (line_same (words line)) ∙ sym h)

pub no_further : (r : ImageReader) (line : List ℕ) → r.stage ≡ stage.Framed → None ≡ line_at (words line)
    → step (front_of r) (words line) ≡ None
no_further r line e h = further_step r line None e h

pub some_further : {A : Type 0} (r : ImageReader) (line : List ℕ) (l : Line) (t : Front) (result : Result A (Refused NoForm))
    → r.stage ≡ stage.Framed → Some l ≡ line_at (words line)
    → StepIs (line_taken r l) t result → StepIs (step (front_of r) (words line)) t result
some_further r line l t result e h m =
    subst (λ o. StepIs o t result) (sym (further_step r line (Some l) e h)) m
