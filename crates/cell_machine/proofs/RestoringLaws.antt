-- What is laid again of what was kept: words, frames and cells, and that the state goes on.
use Rattle.std.proofs.Common.{◌≡◌, ℕ, zero, suc, ◌+◌, ◌-◌, ◌≤◌, ◌<◌, List, [], ◌∷◌, ◌++◌, map, length, take, drop, Some, refl, sym, ap, ◌∙◌, subst, arith, length-append}
use Rattle.std.specs.Prelude.{IsSomeAnd, reverse, replicate, slice_get, slice_set, slice_index_or, get_or}
use Rattle.std.specs.List.{AllByRecursion}
use Rattle.std.specs.Option.{option_map_or}
use Rattle.std.proofs.lemmas.List.{reverse-append, take_all, length-reverse}
use Rattle.std.proofs.lemmas.Option.{slice_get_within}
use Rattle.camelot_values.specs.Value.{Value}
use Rattle.camelot_values.specs.Outcome.{Outcome, Done, Fuel, Deep, Trap, Stuck, after}
use Rattle.camelot_values.specs.declared.kinds.Kind.{Kind}
use Rattle.cell_span.specs.declared.cell.Cell.{Cell}
use Rattle.grail_code.specs.Code.{Func, Code}
use Rattle.grail_code.specs.WellFormed.{local_kinds}
use Rattle.licence.specs.Books.{book_of}
use Rattle.licence.specs.Licensed.{Licensed, IsLicensed}
use Rattle.machine_image.specs.Images.{Bound, Frame}
use Rattle.machine_image.specs.Words as words
use Rattle.machine_image.specs.declared.state.Bound.{Bound as DeclaredBound}
use Rattle.machine_image.specs.declared.state.Frame.{Frame as DeclaredFrame}
use Rattle.cell_machine.proofs.Safety.{free_few}
use Rattle.cell_machine.specs.Ahead.{licensed_annotated, balanced_within, balanced_on_course}
use Rattle.cell_machine.specs.Bounds.{put_back}
use Rattle.cell_machine.specs.Cells.{inline_base}
use Rattle.cell_machine.specs.Coming.{IsWithinRoom, ahead, coming}
use Rattle.cell_machine.specs.FrameWords.{filled, frame_of, frame_of_position, position_or_first, top_of, waiting_of}
use Rattle.cell_machine.specs.Going.{IsGoing}
use Rattle.cell_machine.specs.Packed.{IsAt}
use Rattle.cell_machine.specs.Saved.{Saved, frame_back, frames_back, youngest, others, width_at, HasItsLocals, configuration_of, CanGoOn}
use Rattle.cell_machine.specs.Saving.{plain_bounds, plain_frames, position_of, IsPlaceOf, AreLaid}
use Rattle.cell_machine.specs.Sound.{WaitingFrames, IsSound}
use Rattle.cell_machine.specs.State.{Activation, Configuration, most_calls, most_peak}
use Rattle.cell_machine.specs.Steps.{words_of}
use Rattle.cell_machine.specs.Stops.{HasRoomFor}
use Rattle.cell_machine.specs.Running.{IsRunning}
use Rattle.cell_machine.specs.Views.{MachineView, RoomView, HasRoom}
use Rattle.cell_machine.specs.Walking.{IsPlace}
use Rattle.cell_machine.specs.declared.frames.Frames.{Frames}
use Rattle.cell_machine.specs.declared.packed.Packed.{Packed}
use Rattle.cell_machine.specs.declared.packed.Position.{Position}

-- ---- words

length_set : (ws : List ℕ) (x w : ℕ) → length (slice_set ws x w) ≡ length ws
length_set [] x w = refl
length_set (u ∷ ws) zero w = refl
length_set (u ∷ ws) (suc x) w = ap suc (length_set ws x w)

put_length : (ws : List ℕ) (bs : List Bound) → length (put_back ws bs) ≡ length ws
put_length ws [] = refl
put_length ws (b ∷ bs) = put_length (slice_set ws b.local b.word) bs ∙ length_set ws b.local b.word

zeros_many : (n : ℕ) → length {A = ℕ} (replicate n 0) ≡ n
zeros_many zero = refl
zeros_many (suc n) = ap suc (zeros_many n)

left_here : {A : Type 0} (xs : List A) (i : ℕ) (x : A) → i < length xs → x ≡ get_or xs i x → drop i xs ≡ x ∷ drop (i + 1) xs
left_here xs i x h e = let next : suc i ≡ i + 1 = omega arith in here xs i x h e ∙ ap (λ n. x ∷ drop n xs) next
  where
    here : {A : Type 0} (xs : List A) (i : ℕ) (x : A) → i < length xs → x ≡ get_or xs i x → drop i xs ≡ x ∷ drop (suc i) xs
    here [] i x h e = absurd (omega (arith, h))
    here (y ∷ xs) zero x h e = ap (λ y. y ∷ xs) (sym e)
    here (y ∷ xs) (suc i) x h e = here xs i x (omega (arith, h)) e

-- one more of what is left
pub one_put : (ws now : List ℕ) (bs : List DeclaredBound) (i : ℕ) (b : DeclaredBound) → i < length bs → b ≡ get_or bs i b → now ≡ slice_set ws b.local b.word
    → put_back now (plain_bounds (drop (i + 1) bs)) ≡ put_back ws (plain_bounds (drop i bs))
one_put ws now bs i b h e s =
    ap (λ l. put_back l (plain_bounds (drop (i + 1) bs))) s ∙ sym (ap (λ l. put_back ws (plain_bounds l)) (left_here bs i b h e))

pub there_at : (n : ℕ) (bs : List DeclaredBound) (i : ℕ) (d : DeclaredBound) → AllByRecursion (λ b. b.local < n) (plain_bounds bs) → i < length bs → (slice_index_or bs i d).local < n
there_at n [] i d all h = absurd (omega (arith, h))
there_at n (c ∷ bs) zero d all h = all.0
there_at n (c ∷ bs) (suc i) d all h = there_at n bs i d all.1 (omega (arith, h))

pub set_many : (now ws : List ℕ) (x w : ℕ) → now ≡ slice_set ws x w → length now ≡ length ws
set_many now ws x w e = ap length e ∙ length_set ws x w

-- ---- one frame

-- in as many zeros, what was kept has its places
pub locals_there : (p : Code) (f : Frame) (top : List ℕ) (width : ℕ) → HasItsLocals p f → width ≡ width_at p f.func → top ≡ replicate width 0 → AllByRecursion (λ b. b.local < length top) f.live
locals_there p f top width all w e = subst (λ n. AllByRecursion (λ b. b.local < n) f.live) (sym (ap length e ∙ zeros_many width ∙ w)) all

pub words_back : (p : Code) (f : Frame) (top now : List ℕ) (width : ℕ) → width ≡ width_at p f.func → top ≡ replicate width 0 → now ≡ put_back top f.live → now ≡ (frame_back p f).words
words_back p f top now width w e is = is ∙ ap (λ ws. put_back ws f.live) (e ∙ ap (λ n. replicate n 0) w)

pub width_found : (p : Code) (func : ℕ) (g f : Func) (n : ℕ) → slice_get p.funcs func ≡ Some g → slice_get p.funcs func ≡ Some f → n ≡ length f.params + length f.locals → n ≡ width_at p func
width_found p func g f n there is e = e ∙ sym (length-append f.params f.locals) ∙ sym (ap (λ o. option_map_or (λ f. length (local_kinds f)) o 0) is)

-- nothing is handed on to the frame that begins
pub zeros_laid : (top now : List ℕ) (width : ℕ) → filled (width - 0) (words_of top []) ≡ Some now → now ≡ replicate width 0
zeros_laid top now width e = let same : width - 0 ≡ width = omega arith in some_now (sym e) ∙ ap (λ n. replicate n 0) same
  where
    some_now : {xs ys : List ℕ} → Some xs ≡ Some ys → xs ≡ ys
    some_now k = cc

-- the frame isn't wider than the stack allows
pub width_fits : (p : Code) (f : Frame) (width n : ℕ) → HasRoomFor p width → IsPlaceOf p f → n ≡ width_at p f.func → n ≤ width
width_fits p f width n room there e =
    let g = there.g in
    let found = all_at p.funcs f.func g room.frames there.func_is in
    omega (arith, found, e, ap (λ o. option_map_or (λ f. length (local_kinds f)) o 0) there.func_is, length-append g.params g.locals)
  where
    all_at : (fs : List Func) (i : ℕ) (g : Func) → AllByRecursion (λ f. length f.params + length f.locals ≤ width) fs → slice_get fs i ≡ Some g → length g.params + length g.locals ≤ width
    all_at [] i g h e = absurd cc
    all_at (x ∷ fs) zero g h e = let same : x ≡ g = cc in subst (λ (f : Func). length f.params + length f.locals ≤ width) same h.0
    all_at (x ∷ fs) (suc i) g h e = all_at fs i g h.1 e

-- ---- all frames

all_left : {X : Type 0} (P : X → Type 0) (xs ys : List X) → AllByRecursion P (xs ++ ys) → AllByRecursion P xs
all_left P [] ys h = tt
all_left P (x ∷ xs) ys h = (h.0, all_left P xs ys h.1)

all_last : {X : Type 0} (P : X → Type 0) (xs : List X) (y : X) → AllByRecursion P (xs ++ y ∷ []) → P y
all_last P [] y h = h.0
all_last P (x ∷ xs) y h = all_last P xs y h.1

turned : {X : Type 0} (x : X) (xs : List X) → reverse (x ∷ xs) ≡ reverse xs ++ x ∷ []
turned x xs = reverse-append (x ∷ []) xs

all_turned : {X : Type 0} (P : X → Type 0) (xs : List X) → AllByRecursion P (reverse xs) → AllByRecursion P xs
all_turned P [] h = tt
all_turned P (x ∷ xs) h =
    let k = subst (AllByRecursion P) (turned x xs) h in
    (all_last P (reverse xs) x k, all_turned P xs (all_left P (reverse xs) (x ∷ []) k))

-- a frame that is laid stands where the kept one does
abbrev pub StandsThere : Code → Activation → Type 0
StandsThere p fr = IsPlace p fr.func fr.block fr.place

all_mapped : (p : Code) (fs : List Frame) → AllByRecursion (StandsThere p) (map (frame_back p) fs) → AllByRecursion (IsPlaceOf p) fs
all_mapped p [] h = tt
all_mapped p (f ∷ fs) h = (h.0, all_mapped p fs h.1)

waiting_there : (p : Code) (cells : List Cell) (kind : Kind) (frs : List Activation) → WaitingFrames p cells kind frs → AllByRecursion (StandsThere p) frs
waiting_there p cells kind [] r = tt
waiting_there p cells kind (fr ∷ frs) r =
    (record { g = r.0.f; func_is = r.0.func; b = r.0.b; block_is = r.0.block; within = omega (arith, slice_get_within r.0.b.lets fr.place _ r.0.call) }, waiting_there p cells r.0.f.result frs r.1)

sound_there : (p : Code) (s : Configuration) → IsSound p s → AllByRecursion (StandsThere p) (s.frame ∷ s.waiting)
sound_there p s r =
    (record { g = r.running.f; func_is = r.running.func; b = r.running.b; block_is = r.running.block; within = omega (arith, r.running.place) }, waiting_there p s.cells r.running.f.result s.waiting r.waiting)

some_turned : (frs : List Activation) → 1 ≤ length frs → youngest frs ∷ others frs ≡ frs
some_turned [] h = absurd (omega (arith, h))
some_turned (fr ∷ frs) h = refl

many_back : (p : Code) (fs : List Frame) → length (frames_back p fs) ≡ length fs
many_back p fs = length-reverse (map (frame_back p) fs) ∙ many fs
  where
    many : (fs : List Frame) → length (map (frame_back p) fs) ≡ length fs
    many [] = refl
    many (f ∷ fs) = ap suc (many fs)

pub places_of : (l : Licensed) (s : Saved) (size : ℕ) → CanGoOn l s size → AllByRecursion (IsPlaceOf l.code) s.frames
places_of l s size can =
    let all : AllByRecursion (StandsThere l.code) (frames_back l.code s.frames) =
    subst (AllByRecursion (StandsThere l.code)) (some_turned (frames_back l.code s.frames) (omega (arith, can.some, many_back l.code s.frames))) (sound_there l.code (configuration_of l.code s) can.fit.sound) in
    all_mapped l.code s.frames (all_turned (StandsThere l.code) (map (frame_back l.code) s.frames) all)

pub few_frames : (l : Licensed) (s : Saved) (size : ℕ) → CanGoOn l s size → length s.frames ≤ most_calls + 1
few_frames l s size can =
    let is = ap length (some_turned (frames_back l.code s.frames) (omega (arith, can.some, many_back l.code s.frames))) in
    omega (arith, can.fit.few, is, many_back l.code s.frames)

-- ---- frames one by one

pub frame_at : (P : Frame → Type 0) (fs : List DeclaredFrame) (i : ℕ) (f : DeclaredFrame) → AllByRecursion P (plain_frames fs) → i < length fs → f ≡ get_or fs i f → P (words.frame_of f)
frame_at P [] i f all h e = absurd (omega (arith, h))
frame_at P (g ∷ fs) zero f all h e = subst (λ g. P (words.frame_of g)) (sym e) all.0
frame_at P (g ∷ fs) (suc i) f all h e = frame_at P fs i f all.1 (omega (arith, h)) e

-- a caller at the address of a place waits there
pub waits_there : (ps : List Position) (at func block place width : ℕ) (last : Position) (ws : List ℕ) → IsAt ps at func block place → last ≡ record { func = func; block = block; place = place }
    → frame_of ps (record { at = at; width = width }) ws ≡ frame_of_position last ws
waits_there ps at func block place width last ws is e = ap (λ o. frame_of_position (position_or_first o) ws) is ∙ ap (λ l. frame_of_position l ws) (sym e)

one_frame : (p : Code) (f : Frame) → frames_back p (f ∷ []) ≡ frame_back p f ∷ []
one_frame p f = refl

pub first_laid : (p : Code) (k : Packed) (s : Frames) (fs : List DeclaredFrame) (f : DeclaredFrame) (last : Position) → 1 ≤ length fs → f ≡ get_or fs 0 f
    → top_of s ≡ (frame_back p (words.frame_of f)).words → waiting_of k s ≡ [] → last ≡ position_of (words.frame_of f) → AreLaid p k s last (plain_frames (take 1 fs))
first_laid p k s [] f last h e top waiting at = absurd (omega (arith, h))
first_laid p k s (g ∷ fs) f last h e top waiting at = record {
  are = ap (λ g. frame_back p (words.frame_of g) ∷ []) (sym e)
      ∙ sym (ap (λ l. frame_of_position l (top_of s) ∷ waiting_of k s) at ∙ ap (λ ws. frame_of_position (position_of (words.frame_of f)) ws ∷ waiting_of k s) top ∙ ap (λ frs. frame_back p (words.frame_of f) ∷ frs) waiting);
}

map_last : {A B : Type 0} (g : A → B) (xs : List A) (x : A) → map g (xs ++ x ∷ []) ≡ map g xs ++ g x ∷ []
map_last g [] x = refl
map_last g (y ∷ xs) x = ap (λ l. g y ∷ l) (map_last g xs x)

take_one : (fs : List DeclaredFrame) (i : ℕ) (f : DeclaredFrame) → i < length fs → f ≡ get_or fs i f → take (i + 1) fs ≡ take i fs ++ f ∷ []
take_one fs i f h e = let next : i + 1 ≡ suc i = omega arith in ap (λ n. take n fs) next ∙ one fs i f h e
  where
    one : (fs : List DeclaredFrame) (i : ℕ) (f : DeclaredFrame) → i < length fs → f ≡ get_or fs i f → take (suc i) fs ≡ take i fs ++ f ∷ []
    one [] i f h e = absurd (omega (arith, h))
    one (g ∷ fs) zero f h e = ap (λ g. g ∷ []) (sym e)
    one (g ∷ fs) (suc i) f h e = ap (λ l. g ∷ l) (one fs i f (omega (arith, h)) e)

pub next_laid : (p : Code) (k : Packed) (s t : Frames) (fs : List DeclaredFrame) (i : ℕ) (f : DeclaredFrame) (last now : Position) → AreLaid p k s last (plain_frames (take i fs)) → i < length fs
    → f ≡ get_or fs i f → top_of t ≡ (frame_back p (words.frame_of f)).words → waiting_of k t ≡ frame_of_position last (top_of s) ∷ waiting_of k s → now ≡ position_of (words.frame_of f)
    → AreLaid p k t now (plain_frames (take (i + 1) fs))
next_laid p k s t fs i f last now so h e top waiting at = record {
  are = ap (λ l. frames_back p (plain_frames l)) (take_one fs i f h e)
      ∙ ap (λ l. reverse (map (frame_back p) l)) (map_last words.frame_of (take i fs) f)
      ∙ ap reverse (map_last (frame_back p) (plain_frames (take i fs)) (words.frame_of f))
      ∙ reverse-append (map (frame_back p) (plain_frames (take i fs))) (frame_back p (words.frame_of f) ∷ [])
      ∙ ap (λ frs. frame_back p (words.frame_of f) ∷ frs) so.are
      ∙ sym (ap (λ l. frame_of_position l (top_of t) ∷ waiting_of k t) at ∙ ap (λ ws. frame_of_position (position_of (words.frame_of f)) ws ∷ waiting_of k t) top ∙ ap (λ frs. frame_back p (words.frame_of f) ∷ frs) waiting);
}

pub all_laid : (p : Code) (k : Packed) (s : Frames) (fs : List DeclaredFrame) (i : ℕ) (last : Position) → AreLaid p k s last (plain_frames (take i fs)) → length fs ≤ i → AreLaid p k s last (plain_frames fs)
all_laid p k s fs i last so h = record { are = ap (λ l. frames_back p (plain_frames l)) (sym (take_all i fs h)) ∙ so.are }

-- as many wait as were laid, without the one that runs
pub laid_few : (p : Code) (k : Packed) (s : Frames) (fs : List DeclaredFrame) (i : ℕ) (last : Position) → AreLaid p k s last (plain_frames (take i fs)) → i < length fs → length fs ≤ most_calls + 1
    → length (waiting_of k s) < most_calls
laid_few p k s fs i last so h few =
    let many = ap length so.are in
    let size = many_back p (plain_frames (take i fs)) in
    omega (arith, many, size, plain_many (take i fs), length-take-most i fs, h, few)
  where
    plain_many : (fs : List DeclaredFrame) → length (plain_frames fs) ≡ length fs
    plain_many [] = refl
    plain_many (f ∷ fs) = ap suc (plain_many fs)

    length-take-most : (n : ℕ) (l : List DeclaredFrame) → length (take n l) ≤ n
    length-take-most zero l = omega arith
    length-take-most (suc n) [] = omega arith
    length-take-most (suc n) (x ∷ l) = omega (arith, length-take-most n l)

-- ---- cells

pub one_cell : (now old : List Cell) (cells : List Cell) (i : ℕ) (c : Cell) → length cells ≡ length old → i < length cells → c ≡ get_or cells i c → now ≡ slice_set old i c
    → take i old ≡ take i cells → take (i + 1) now ≡ take (i + 1) cells
one_cell now old cells i c n h e s so =
    let next : i + 1 ≡ suc i = omega arith in
    ap (λ k. take k now) next ∙ ap (take (suc i)) s ∙ one old cells i c n h e so ∙ sym (ap (λ k. take k cells) next)
  where
    tail_same : {x y : Cell} {xs ys : List Cell} → x ∷ xs ≡ y ∷ ys → xs ≡ ys
    tail_same k = cc

    head_same : {x y : Cell} {xs ys : List Cell} → x ∷ xs ≡ y ∷ ys → x ≡ y
    head_same k = cc

    one : (old cells : List Cell) (i : ℕ) (c : Cell) → length cells ≡ length old → i < length cells → c ≡ get_or cells i c → take i old ≡ take i cells
        → take (suc i) (slice_set old i c) ≡ take (suc i) cells
    one [] [] i c n h e so = absurd (omega (arith, h))
    one [] (d ∷ cells) i c n h e so = absurd (omega (arith, n))
    one (o ∷ old) [] i c n h e so = absurd (omega (arith, n))
    one (o ∷ old) (d ∷ cells) zero c n h e so = ap (λ c. c ∷ []) e
    one (o ∷ old) (d ∷ cells) (suc i) c n h e so =
        ap (λ l. o ∷ l) (one old cells i c (omega (arith, n)) (omega (arith, h)) e (tail_same so)) ∙ ap (λ o. o ∷ take (suc i) cells) (head_same so)

pub all_cells : (now cells : List Cell) (i : ℕ) → length now ≡ length cells → length now ≤ i → take i now ≡ take i cells → now ≡ cells
all_cells now cells i n h e = sym (take_all i now h) ∙ e ∙ take_all i cells (omega (arith, n, h))

-- ---- the state goes on

after_within : (free top c pk lo : ℕ) (o : Outcome Value) → IsWithinRoom free o → pk ≤ top → free + pk ≤ top + lo → IsWithinRoom top (after c pk lo o)
after_within free top c pk lo (Done v d p l) h k e = omega (arith, h, k, e)
after_within free top c pk lo (Fuel d p) h k e = omega (arith, h, k, e)
after_within free top c pk lo (Deep p) h k e = omega (arith, h, k, e)
after_within free top c pk lo (Trap p) h k e = omega (arith, h, k, e)
after_within free top c pk lo Stuck h k e = absurd h

pub goes_on : (l : Licensed) (s : Saved) (size : ℕ) → IsLicensed l → size ≤ inline_base → CanGoOn l s size → IsGoing l.code (configuration_of l.code s)
goes_on l s size kept few can =
    let c : Configuration = configuration_of l.code s in
    let good = licensed_annotated l kept in
    record {
      well = kept.well;
      limits = kept.limits;
      room = length can.fit.sound.free + c.peak - c.low;
      outcome = coming l.code most_calls c can.fit.sound;
      high = after_within (length can.fit.sound.free) most_peak c.calls c.peak c.low (ahead l.code most_calls c can.fit.sound)
          (balanced_within l.code (book_of l.cert) good most_calls c can.fit.sound can.fit.balanced) can.peak (omega (arith, can.within, few));
      few = omega (arith, can.within, few);
      course = balanced_on_course l.code (book_of l.cert) good most_calls c can.fit.sound can.fit.balanced can.fit.counted can.fit.few;
      fuel = omega (arith, can.steps);
    }

pub low_few : (l : Licensed) (s : Saved) (size : ℕ) → size ≤ inline_base → CanGoOn l s size → (configuration_of l.code s).low ≤ 2199023255552
low_few l s size few can = omega (arith, can.fit.counted, can.peak, free_few l.code (configuration_of l.code s) can.fit.sound, can.cells, few)

pub same_configuration : (s t : Configuration) → s.cells ≡ t.cells → s.head ≡ t.head → s.frame ≡ t.frame → s.waiting ≡ t.waiting → s.fuel ≡ t.fuel
    → s.calls ≡ t.calls → s.peak ≡ t.peak → s.low ≡ t.low → s ≡ t
same_configuration s t a b c d e f g h = λ i. record { cells = a i; head = b i; frame = c i; waiting = d i; fuel = e i; calls = f i; peak = g i; low = h i }

-- the frame that runs, and those that wait
pub laid_frame : (p : Code) (k : Packed) (s : Frames) (last : Position) (fs : List Frame) → AreLaid p k s last fs → frame_of_position last (top_of s) ≡ youngest (frames_back p fs)
laid_frame p k s last fs h = sym (ap youngest h.are)

pub laid_waiting : (p : Code) (k : Packed) (s : Frames) (last : Position) (fs : List Frame) → AreLaid p k s last fs → waiting_of k s ≡ others (frames_back p fs)
laid_waiting p k s last fs h = sym (ap others h.are)

pub running_again : (l : Licensed) (s : Saved) (size : ℕ) (m : MachineView) (room : RoomView) → IsLicensed l → size ≤ inline_base → CanGoOn l s size → m.code ≡ l.code
    → m.state ≡ configuration_of l.code s → m.room ≡ Some room → HasRoom size room → IsRunning m
running_again l s size m room kept few can code state is has = record {
  going = subst (λ p. IsGoing p m.state) (sym code) (subst (IsGoing l.code) (sym state) (goes_on l s size kept few can));
  room = subst (λ o. IsSomeAnd o (HasRoom (length m.state.cells))) (sym is) (subst (λ n. HasRoom n room) (sym (ap (λ (c : Configuration). length c.cells) state ∙ can.cells)) has);
}
