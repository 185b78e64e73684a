-- Laws, for the proofs of this crate and of those above it.
-- What is kept of a sound state goes on as this state without its dead words.
use Rattle.std.proofs.Common.{◌≡◌, ℕ, suc, ◌+◌, ◌-◌, ◌≤◌, ◌<◌, List, [], ◌∷◌, ◌++◌, map, length, Option, Some, None, refl, sym, ap, ◌∙◌, subst, arith, length-append}
use Rattle.std.specs.Prelude.{ℤ, pos, negsuc, ◌-ℤ◌, reverse, replicate, slice_get, get_or}
use Rattle.std.specs.List.{AllByRecursion}
use Rattle.std.specs.Option.{option_map_or}
use Rattle.std.proofs.lemmas.Int.{ints}
use Rattle.std.proofs.lemmas.List.{reverse-append, reverse-reverse}
use Rattle.std.proofs.lemmas.Option.{slice_get_within}
use Rattle.cell_span.specs.declared.cell.Cell.{Cell}
use Rattle.camelot_values.specs.declared.kinds.Kind.{Kind}
use Rattle.grail_blocks.specs.States as states
use Rattle.grail_blocks.specs.States.{Status, Unbound, Ready, Spent}
use Rattle.grail_code.specs.Code.{Func, Code}
use Rattle.grail_code.specs.WellFormed.{local_kinds}
use Rattle.licence.specs.Books.{book_of}
use Rattle.licence.specs.Licensed.{Licensed, IsLicensed}
use Rattle.machine_image.specs.Images.{Bound, Frame}
use Rattle.cell_machine.specs.Ahead.{licensed_annotated}
use Rattle.cell_machine.specs.Bounds.{bound_if, bounds, put_back}
use Rattle.cell_machine.specs.Cells.{free_cell, no_cell}
use Rattle.cell_machine.specs.Counted.{IsFit}
use Rattle.cell_machine.specs.Dead.{ready_running, ready_waiting, live, live_frame, with_words}
use Rattle.cell_machine.specs.Saved.{kept, waiting_kept, running_kept, frame_kept, frame_back, frames_back, width_at, youngest, others, highest, below, HasItsLocals, configuration_of, CanGoOn}
use Rattle.cell_machine.specs.Sound.{WaitingFrames, IsSound}
use Rattle.cell_machine.specs.Stands.{IsFreeList}
use Rattle.cell_machine.specs.State.{Activation, Configuration, most_calls}
use Rattle.cell_machine.specs.theory.Pauses.{live_fit}
use Rattle.cell_machine.specs.theory.PutBack.{put_back_live}

-- ---- one frame

width_is : (p : Code) (func : ℕ) (f : Func) (ws : List ℕ) → slice_get p.funcs func ≡ Some f → length ws ≡ length (local_kinds f) → width_at p func ≡ length ws
width_is p func f ws is width = ap (λ o. option_map_or (λ f. length (local_kinds f)) o 0) is ∙ sym width

-- as many words as the function has locals: what is put back are the live ones
frame_again : (p : Code) (s : states.State) (fr : Activation) (f : Func) → slice_get p.funcs fr.func ≡ Some f → length fr.words ≡ length (local_kinds f)
    → frame_back p (frame_kept s fr) ≡ live_frame s fr
frame_again p s fr f is width =
    let place : suc fr.place - 1 ≡ fr.place = omega arith in
    ap (λ n. record { func = fr.func; block = fr.block; place = n; words = put_back (replicate (width_at p fr.func) 0) (bounds s 0 fr.words) }) place
    ∙ ap (with_words fr) (ap (λ n. put_back (replicate n 0) (bounds s 0 fr.words)) (width_is p fr.func f fr.words is width) ∙ put_back_live s fr.words)

waits_again : (p : Code) (cells : List Cell) (kind : Kind) (frs : List Activation) → WaitingFrames p cells kind frs
    → map (frame_back p) (map (waiting_kept p) frs) ≡ map (λ fr. live_frame (ready_waiting p fr) fr) frs
waits_again p cells kind [] r = refl
waits_again p cells kind (fr ∷ frs) r =
    ap (λ a. a ∷ map (frame_back p) (map (waiting_kept p) frs)) (frame_again p (ready_waiting p fr) fr r.0.f r.0.func r.0.stands.width)
    ∙ ap (λ l. live_frame (ready_waiting p fr) fr ∷ l) (waits_again p cells r.0.f.result frs r.1)

-- ---- all frames

map_both : {A B : Type 0} (g : A → B) (xs ys : List A) → map g (xs ++ ys) ≡ map g xs ++ map g ys
map_both g [] ys = refl
map_both g (x ∷ xs) ys = ap (λ l. g x ∷ l) (map_both g xs ys)

map_turned : {A B : Type 0} (g : A → B) (xs : List A) → map g (reverse xs) ≡ reverse (map g xs)
map_turned g [] = refl
map_turned g (x ∷ xs) =
    ap (map g) (reverse-append (x ∷ []) xs) ∙ map_both g (reverse xs) (x ∷ []) ∙ ap (λ l. l ++ g x ∷ []) (map_turned g xs) ∙ sym (reverse-append (g x ∷ []) (map g xs))

frames_again : (p : Code) (s : Configuration) → IsSound p s
    → frames_back p (kept p s).frames ≡ live_frame (ready_running p s.frame) s.frame ∷ map (λ fr. live_frame (ready_waiting p fr) fr) s.waiting
frames_again p s r =
    let olds : List Frame = map (waiting_kept p) s.waiting in
    let top : Frame = running_kept p s.frame in
    ap reverse (map_both (frame_back p) (reverse olds) (top ∷ []))
    ∙ reverse-append (map (frame_back p) (reverse olds)) (frame_back p top ∷ [])
    ∙ ap (λ l. frame_back p top ∷ reverse l) (map_turned (frame_back p) olds)
    ∙ ap (λ l. frame_back p top ∷ l) (reverse-reverse (map (frame_back p) olds))
    ∙ ap (λ a. a ∷ map (frame_back p) olds) (frame_again p (ready_running p s.frame) s.frame r.running.f r.running.func r.running.stands.width)
    ∙ ap (λ l. live_frame (ready_running p s.frame) s.frame ∷ l) (waits_again p s.cells r.running.f.result s.waiting r.waiting)

-- ---- counters

record AreAgain (z : ℤ) (peak low : ℕ) : Type 0 where
  high : highest z peak ≡ peak
  down : below z (highest z peak) ≡ low

net_again : (z : ℤ) (peak low : ℕ) → z ≡ pos peak -ℤ pos low → AreAgain z peak low
net_again (pos n) peak low e =
    let is : n + low ≡ peak = omega (arith, ints, e) in
    record { high = omega (arith, is); down = omega (arith, is) }
net_again (negsuc n) peak low e =
    let is : peak + suc n ≡ low = omega (arith, ints, e) in
    record { high = refl; down = is }

-- ---- the state

same_configuration : (s t : Configuration) → s.cells ≡ t.cells → s.head ≡ t.head → s.frame ≡ t.frame → s.waiting ≡ t.waiting → s.fuel ≡ t.fuel
    → s.calls ≡ t.calls → s.peak ≡ t.peak → s.low ≡ t.low → s ≡ t
same_configuration s t a b c d e f g h = λ i. record { cells = a i; head = b i; frame = c i; waiting = d i; fuel = e i; calls = f i; peak = g i; low = h i }

pub same_again : (l : Licensed) (s : Configuration) → IsSound l.code s → configuration_of l.code (kept l.code s) ≡ live l.code s
same_again l s r =
    let frames = frames_again l.code s r in
    let counters = net_again (pos s.peak -ℤ pos s.low) s.peak s.low refl in
    same_configuration (configuration_of l.code (kept l.code s)) (live l.code s) refl refl (ap youngest frames) (ap others frames) refl refl counters.high counters.down

-- ---- what can go on

-- where a free cell says that the list goes on
abbrev next_word : Option Cell → ℕ
next_word None = 0
next_word (Some c) = get_or c.words 0 0

-- a free list is determined by its head
pub free_same : (cells : List Cell) (head : ℕ) (xs ys : List ℕ) → length cells ≤ no_cell → IsFreeList cells head xs → IsFreeList cells head ys → length xs ≡ length ys
free_same cells head [] [] few h k = refl
free_same cells head [] (y ∷ ys) few h k = absurd (omega (arith, h, k.0, few, slice_get_within cells y (free_cell k.1.0) k.1.1))
free_same cells head (x ∷ xs) [] few h k = absurd (omega (arith, k, h.0, few, slice_get_within cells x (free_cell h.1.0) h.1.1))
free_same cells head (x ∷ xs) (y ∷ ys) few h k =
    let next : h.1.0 ≡ k.1.0 = ap next_word (sym h.1.1 ∙ ap (slice_get cells) (sym h.0 ∙ k.0) ∙ k.1.1) in
    ap suc (free_same cells k.1.0 xs ys few (subst (λ n. IsFreeList cells n xs) next h.1.2) k.1.2)

-- each kept word is that of a local
kept_below : (s : states.State) (x : ℕ) (ws : List ℕ) → AllByRecursion (λ (b : Bound). b.local < x + length ws) (bounds s x ws)
kept_below s x [] = tt
kept_below s x (w ∷ ws) = by_status (s x) (more (kept_below s (suc x) ws))
  where
    more : AllByRecursion (λ (b : Bound). b.local < suc x + length ws) (bounds s (suc x) ws) → AllByRecursion (λ (b : Bound). b.local < x + length (w ∷ ws)) (bounds s (suc x) ws)
    more h = wider (bounds s (suc x) ws) h
      where
        wider : (bs : List Bound) → AllByRecursion (λ (b : Bound). b.local < suc x + length ws) bs → AllByRecursion (λ (b : Bound). b.local < x + length (w ∷ ws)) bs
        wider [] h = tt
        wider (b ∷ bs) h = (omega (arith, h.0), wider bs h.1)

    by_status : (t : Status) → AllByRecursion (λ (b : Bound). b.local < x + length (w ∷ ws)) (bounds s (suc x) ws)
        → AllByRecursion (λ (b : Bound). b.local < x + length (w ∷ ws)) (bound_if t x w (bounds s (suc x) ws))
    by_status Ready h = (omega arith, h)
    by_status Unbound h = h
    by_status Spent h = h

has_its : (p : Code) (s : states.State) (fr : Activation) (f : Func) → slice_get p.funcs fr.func ≡ Some f → length fr.words ≡ length (local_kinds f) → HasItsLocals p (frame_kept s fr)
has_its p s fr f is width =
    let none : 0 + length fr.words ≡ length fr.words = omega arith in
    subst (λ n. AllByRecursion (λ (b : Bound). b.local < n) (bounds s 0 fr.words)) (none ∙ sym (width_is p fr.func f fr.words is width)) (kept_below s 0 fr.words)

all_both : {X : Type 0} (P : X → Type 0) (xs ys : List X) → AllByRecursion P xs → AllByRecursion P ys → AllByRecursion P (xs ++ ys)
all_both P [] ys h k = k
all_both P (x ∷ xs) ys h k = (h.0, all_both P xs ys h.1 k)

pub all_turned : {X : Type 0} (P : X → Type 0) (xs : List X) → AllByRecursion P xs → AllByRecursion P (reverse xs)
all_turned P [] h = tt
all_turned P (x ∷ xs) h = subst (AllByRecursion P) (sym (reverse-append (x ∷ []) xs)) (all_both P (reverse xs) (x ∷ []) (all_turned P xs h.1) (h.0, tt))

waits_have : (p : Code) (cells : List Cell) (kind : Kind) (frs : List Activation) → WaitingFrames p cells kind frs → AllByRecursion (HasItsLocals p) (map (waiting_kept p) frs)
waits_have p cells kind [] r = tt
waits_have p cells kind (fr ∷ frs) r = (has_its p (ready_waiting p fr) fr r.0.f r.0.func r.0.stands.width, waits_have p cells r.0.f.result frs r.1)

-- a fit state, whose net and free cells are at most so many
abbrev FitsIn : Licensed → (size : ℕ) → Configuration → Type 0
FitsIn l size c = (f : IsFit l.code (book_of l.cert) most_calls c) × (length f.sound.free + c.peak ≤ size + c.low)

pub can_again : (l : Licensed) (s : Configuration) → IsLicensed l → (fit : IsFit l.code (book_of l.cert) most_calls s) → s.peak ≤ 1099511627776 → s.calls + s.fuel ≤ 1099511627776
    → length fit.sound.free + s.peak ≤ length s.cells + s.low → CanGoOn l (kept l.code s) (length s.cells)
can_again l s h fit peak steps within =
    let r : IsSound l.code s = fit.sound in
    let k = live_fit l.code (book_of l.cert) (licensed_annotated l h) most_calls s fit in
    let same_free = free_same s.cells s.head k.sound.free r.free (omega (arith, r.few_cells)) k.sound.list r.list in
    let there : FitsIn l (length s.cells) (live l.code s) = (k, omega (arith, same_free, within)) in
    let again : FitsIn l (length s.cells) (configuration_of l.code (kept l.code s)) = subst (FitsIn l (length s.cells)) (sym (same_again l s r)) there in
    let counters = net_again (pos s.peak -ℤ pos s.low) s.peak s.low refl in
    record {
      cells = refl;
      some = omega (arith, length-append (reverse (map (waiting_kept l.code) s.waiting)) (running_kept l.code s.frame ∷ []));
      locals = all_both (HasItsLocals l.code) (reverse (map (waiting_kept l.code) s.waiting)) (running_kept l.code s.frame ∷ [])
          (all_turned (HasItsLocals l.code) (map (waiting_kept l.code) s.waiting) (waits_have l.code s.cells r.running.f.result s.waiting r.waiting))
          (has_its l.code (ready_running l.code s.frame) s.frame r.running.f r.running.func r.running.stands.width, tt);
      fit = again.0;
      peak = omega (arith, counters.high, peak);
      steps = steps;
      within = again.1;
    }
