-- How an image is judged, and the machine that goes on from it.
use Rattle.std.proofs.Common.{◌≡◌, ℕ, ℤ, ◌+◌, ◌≤◌, ◌<◌, Bool, List, [], ◌∷◌, map, length, refl, sym, ap, ◌∙◌, subst, arith}
use Rattle.std.specs.Prelude.{◌/◌, slice_get, Some}
use Rattle.std.specs.List.{AllByRecursion}
use Rattle.std.proofs.lemmas.Option.{slice_get_within}
use Rattle.stops.specs.Stopping.{FaultIs}
use Rattle.stops.specs.declared.stop.Stop.{Stop}
use Rattle.stops.specs.declared.stop.Stop.TheVariants as stop
use Rattle.cell_span.specs.declared.cell.Cell.{Cell}
use Rattle.cell_owners.specs.FreeLists.{IsFreeTaken, FailsAt}
use Rattle.cell_owners.specs.Marks.{AreMarkedBy, owners}
use Rattle.licence.specs.Books.{book_of}
use Rattle.licence.specs.Licensed.{Licensed, IsLicensed}
use Rattle.text_lines.specs.Formats.{IsText}
use Rattle.machine_image.specs.Images.{CellIsFormed, image_format}
use Rattle.machine_image.specs.Words as words
use Rattle.machine_image.specs.declared.state.State.{State}
use Rattle.cell_machine.specs.Cells.{inline_base, free_cell}
use Rattle.cell_machine.specs.Saved.{Saved, saved_of, kept, configuration_of, CanGoOn}
use Rattle.cell_machine.specs.Stands.{times}
use Rattle.cell_machine.specs.State.{Configuration}
use Rattle.grail_code.specs.Code.{Code}
use Rattle.pause_image.specs.Faults.{IsImageOf, IsSized, IsFreeFault, AreOwned, IsOwned, IsWithin, IsRight, IsFaultOf, IsSizeFault, HasShapeFault, HasValueFault, HasFreeFault, IsShort, HasNetFault, cells_asked}
use Rattle.pause_image.specs.Keeping.{IsKeepable}
use Rattle.pause_image.specs.OneFault.{saved_one, no_fault, one_fault}
use Rattle.pause_image.specs.Owning.{frames_ask, frames_cells, IsValueFault}
use Rattle.pause_image.specs.Pausing.{HasFourWords}
use Rattle.pause_image.specs.Resuming.{OwnedIs, OwnerFault, FailsBehind}
use Rattle.pause_image.specs.Shapes.{AreShaped, IsShapeFault}
use Rattle.pause_image.specs.Taking.{blank, FramesTaken}
use Rattle.pause_image.specs.declared.fault.ImageFault.{ImageFault}
use Rattle.pause_image.specs.declared.fault.ImageFault.TheVariants as fault
use Rattle.pause_image.specs.declared.resuming.Owned.{Owned}
use Rattle.pause_image.proofs.Taking.{no_owner}

-- ---- what was read

pub image_read : (text : List ℕ) (s : State) → IsText image_format text (words.image_of s) → AllByRecursion HasFourWords s.cells.items → IsImageOf text (saved_of s)
image_read text s t four = record { text = t; four = four }

pub few_read : (text : List ℕ) (s : State) → IsText image_format text (words.image_of s) → length s.cells.items ≤ 4294967295
few_read text s t = t.right.counts.cells

-- ---- who owns the cells

abbrev are_owned : (l : Licensed) (s : Saved) (marks : List Bool) (asked : ℕ) → AreShaped l s.frames → FramesTaken l s.cells s.frames marks asked → AreOwned l s
are_owned l s marks asked shaped t = record { shaped = shaped; values = t.values; own = t.own }

pub owned_is : (l : Licensed) (s : Saved) (marks later : List Bool) (asked free : ℕ) → AreShaped l s.frames → FramesTaken l s.cells s.frames marks asked → IsFreeTaken s.cells s.free marks later free
    → OwnedIs l s (record { free = free; asked = asked })
owned_is l s marks later asked free shaped t f = record {
  owned = record {
    frames = are_owned l s marks asked shaped t;
    free = f.free;
    runs = f.open_list.runs;
    once = λ x. omega (arith, f.open_list.fresh x, t.marked x);
  };
  free = f.many;
  asked = t.asks;
}

pub free_fails : (l : Licensed) (s : Saved) (marks : List Bool) (asked at : ℕ) → AreShaped l s.frames → FramesTaken l s.cells s.frames marks asked → FailsAt s.cells marks s.free at → FailsBehind l s at
free_fails l s marks asked at shaped t f = record {
  frames = are_owned l s marks asked shaped t;
  fault = record {
    met = f.before;
    leads = f.leads;
    once = λ x. omega (arith, f.fresh x, t.marked x);
    goes_on = f.goes_on;
    fails = λ next there. omega (arith, f.fails next there, t.marked at, no_owner (length s.cells) at (slice_get_within s.cells at (free_cell next) there));
  };
}

-- ---- what is paid

asked_is : (l : Licensed) (s : Saved) (o : Owned) (w : OwnedIs l s o) → o.asked / (book_of l.cert).unit ≡ cells_asked l s w.owned
asked_is l s o w = ap (λ n. n / (book_of l.cert).unit) w.asked

pub short_is : (l : Licensed) (text : List ℕ) (size unit need : ℕ) (s : Saved) (o : Owned) → unit ≡ (book_of l.cert).unit → need ≡ o.asked / unit → o.free < need → IsSized text size s → OwnedIs l s o → IsShort l text size o.free need
short_is l text size unit need s o u e less sized w = record {
  s = s;
  sized = sized;
  owned = w.owned;
  free = w.free;
  need = e ∙ ap (λ u. o.asked / u) u ∙ asked_is l s o w;
  short = less;
}

enough_is : (l : Licensed) (unit need : ℕ) (s : Saved) (o : Owned) → unit ≡ (book_of l.cert).unit → need ≡ o.asked / unit → need ≤ o.free → (w : OwnedIs l s o) → cells_asked l s w.owned ≤ o.free
enough_is l unit need s o u e most w = omega (arith, most, e ∙ ap (λ u. o.asked / u) u ∙ asked_is l s o w)

pub net_is : (l : Licensed) (text : List ℕ) (size unit need : ℕ) (net : ℤ) (s : Saved) (o : Owned) → unit ≡ (book_of l.cert).unit → need ≡ o.asked / unit → need ≤ o.free → (IsWithin net o.free size → ⊥) → net ≡ s.net
    → IsSized text size s → OwnedIs l s o → HasNetFault l text size net o.free
net_is l text size unit need net s o u e most never is sized w = record {
  s = s;
  sized = sized;
  owned = w.owned;
  free = w.free;
  enough = enough_is l unit need s o u e most w;
  net = is;
  outside = never;
}

pub right_is : (l : Licensed) (text : List ℕ) (size unit need : ℕ) (net : ℤ) (s : Saved) (o : Owned) → unit ≡ (book_of l.cert).unit → need ≡ o.asked / unit → need ≤ o.free → IsWithin net o.free size → net ≡ s.net → IsSized text size s
    → OwnedIs l s o → IsRight l text size s
right_is l text size unit need net s o u e most within same sized w = record {
  sized = sized;
  owned = w.owned;
  enough = omega (arith, enough_is l unit need s o u e most w, w.free);
  within = subst (λ free. IsWithin s.net free size) w.free (subst (λ n. IsWithin n o.free size) same within);
}

-- ---- the judgement

pub size_is : (text : List ℕ) (size cells : ℕ) (s : Saved) → cells ≡ length s.cells → (cells ≡ size → ⊥) → IsImageOf text s → IsSizeFault text size cells size
size_is text size cells s e differ image = record { s = s; image = image; cells = e; len = refl; differ = differ }

pub sized_is : (text : List ℕ) (size cells : ℕ) (s : Saved) → cells ≡ length s.cells → cells ≡ size → IsImageOf text s → IsSized text size s
sized_is text size cells s e same image = record { image = image; size = sym e ∙ same }

pub shape_is : (l : Licensed) (text : List ℕ) (size frame : ℕ) (s : Saved) → IsSized text size s → IsShapeFault l s.frames frame → HasShapeFault l text size frame
shape_is l text size frame s sized f = record { s = s; sized = sized; fault = f }

owner_fault : (l : Licensed) (text : List ℕ) (size : ℕ) (s : Saved) (f : ImageFault) → IsSized text size s → AreShaped l s.frames → OwnerFault l s f → IsFaultOf l text size f
owner_fault l text size s (fault.Value frame local) sized shaped h = record { s = s; sized = sized; shaped = shaped; fault = h }
owner_fault l text size s (fault.Free at) sized shaped h = record { s = s; sized = sized; frames = h.frames; fault = h.fault }
owner_fault l text size s (fault.Line line) sized shaped h = absurd h
owner_fault l text size s (fault.Size cells len) sized shaped h = absurd h
owner_fault l text size s (fault.Shape frame) sized shaped h = absurd h
owner_fault l text size s (fault.Short free need) sized shaped h = absurd h
owner_fault l text size s (fault.Net net free) sized shaped h = absurd h

pub owner_told : (l : Licensed) (text : List ℕ) (size : ℕ) (s : Saved) (f : Stop ImageFault) → IsSized text size s → AreShaped l s.frames → FaultIs (OwnerFault l s) f → FaultIs (IsFaultOf l text size) f
owner_told l text size s (stop.Fault f) sized shaped h = owner_fault l text size s f sized shaped h
owner_told l text size s stop.Memory sized shaped h = tt

-- ---- the machine

pub goes_keepable : (l : Licensed) (s : Saved) (size : ℕ) → CanGoOn l s size → IsKeepable l (configuration_of l.code s)
goes_keepable l s size c = record { fit = c.fit; peak = c.peak; steps = c.steps; within = omega (arith, c.within, c.cells) }

-- a fault of the text is the one that is told
pub exact_fault : (l : Licensed) (text : List ℕ) (size : ℕ) (f : ImageFault) (s : Stop ImageFault) → IsLicensed l → size ≤ inline_base → IsFaultOf l text size f → FaultIs (IsFaultOf l text size) s → FaultIs (λ g. g ≡ f) s
exact_fault l text size f (stop.Fault g) kept few is told = one_fault l text size g f kept few told is
exact_fault l text size f stop.Memory kept few is told = tt

-- where nothing is wrong, memory ran out
pub right_memory : (l : Licensed) (text : List ℕ) (size : ℕ) (s : Saved) (f : Stop ImageFault) → IsLicensed l → size ≤ inline_base → IsRight l text size s → FaultIs (IsFaultOf l text size) f → f ≡ stop.Memory
right_memory l text size s (stop.Fault g) kept few right told = absurd (no_fault l text size s g kept few right told)
right_memory l text size s stop.Memory kept few right told = refl

-- what was read is the only state that is right
pub right_state : (l : Licensed) (text : List ℕ) (size : ℕ) (s t : Saved) → IsRight l text size s → IsRight l text size t → configuration_of l.code s ≡ configuration_of l.code t
right_state l text size s t a b = ap (configuration_of l.code) (saved_one text s t a.sized.image b.sized.image)

-- ---- what a pause keeps

pub four_kept : (t : State) (p : Code) (c : Configuration) → saved_of t ≡ kept p c → AllByRecursion HasFourWords t.cells.items → AllByRecursion HasFourWords c.cells
four_kept t p c e all = subst (AllByRecursion HasFourWords) (ap (λ (s : Saved). s.cells) e) all

pub formed_kept : (t : State) (p : Code) (c : Configuration) → saved_of t ≡ kept p c → AllByRecursion CellIsFormed (map words.cell_of t.cells.items) → AllByRecursion CellIsFormed (map words.cell_of c.cells)
formed_kept t p c e all = subst (λ cells. AllByRecursion CellIsFormed (map words.cell_of cells)) (ap (λ (s : Saved). s.cells) e) all
