-- Laws, for the proofs of this crate and of those above it.
-- What is kept of a state that can be put aside is right: its frames have their shape, each word its value, no cell is
-- in two of them, the free cells pay for what the frames ask for, and the counters add up.
use Rattle.std.proofs.Common.{◌≡◌, ℕ, zero, suc, ◌+◌, ◌-◌, ◌≤◌, ◌<◌, Bool, true, false, List, [], ◌∷◌, ◌++◌, map, length, Option, Some, None, refl, sym, ap, ◌∙◌, subst, arith, inl, inr, append_assoc, length-append}
use Rattle.std.specs.Prelude.{ℤ, pos, negsuc, ◌-ℤ◌, ◌/◌, ◌||◌, ◌⊎◌, IsSomeAnd, drop, slice_get, reverse, flat_map, if◌then◌else◌}
use Rattle.std.specs.List.{AllByRecursion, list_any, range_with_len}
use Rattle.std.specs.Option.{option_map_or}
use Rattle.std.proofs.lemmas.Bool.{cases_lt}
use Rattle.std.proofs.lemmas.Int.{ints}
use Rattle.std.proofs.lemmas.List.{reverse-append, length-reverse}
use Rattle.std.proofs.lemmas.Option.{slice_get_within}
use Rattle.cell_span.specs.declared.cell.Cell.{Cell}
use Rattle.camelot_values.specs.Value as value
use Rattle.camelot_values.specs.Value.{Value, Values}
use Rattle.camelot_values.specs.Kinds.{DataType}
use Rattle.camelot_values.specs.Typing.{Fits}
use Rattle.camelot_values.specs.declared.kinds.Kind.{Kind}
use Rattle.grail_blocks.specs.States as states
use Rattle.grail_blocks.specs.States.{Status, Unbound, Ready, Spent, state_at}
use Rattle.grail_code.specs.Code.{Call, Let, Block, Func, Code}
use Rattle.grail_code.specs.Meaning.{Locals}
use Rattle.grail_code.specs.WellFormed.{kind_of, local_kinds, is_lent, is_owned, reads_of}
use Rattle.annotations.specs.Vectors.{AtLeast}
use Rattle.licence.specs.Books.{Carried, book_of}
use Rattle.licence.specs.Licensed.{Licensed, IsLicensed}
use Rattle.licence.specs.Rules.{Account}
use Rattle.licence.specs.Worth.{sum_below, value_units, status_units, local_units, total, worth_at}
use Rattle.frame_locals.specs.Lending.{LendsWhere, lends_at}
use Rattle.frame_locals.specs.LendingLaws as lending
use Rattle.frame_locals.specs.Places.{is_ready, ready_at, waits_at}
use Rattle.frame_accounts.specs.Accounts.{account_of, block_in, block_at}
use Rattle.text_lines.specs.Formats.{IsText}
use Rattle.machine_image.specs.Images.{Bound, Frame, image_format}
use Rattle.cell_machine.specs.Bounds.{bound_if, bounds}
use Rattle.cell_machine.specs.Cells.{is_boxed}
use Rattle.cell_machine.specs.Dead.{ready_running, ready_waiting}
use Rattle.cell_machine.specs.Demands.{waiting_demand, waiting_demands, ResultsSuffice, demands}
use Rattle.cell_machine.specs.Saved.{kept, waiting_kept, running_kept, frame_kept}
use Rattle.cell_machine.specs.Sound.{LocalStands, held, owning, Holding, holdings_of, cells_held, FrameStands, RunningFrame, WaitingFrame, WaitingFrames, waiting_state, running_holdings, waiting_holdings, IsSound}
use Rattle.cell_machine.specs.Stands.{Stands, StandAll, words_at, footprint, footprints, times}
use Rattle.cell_machine.specs.State.{Activation, Configuration}
use Rattle.cell_machine.specs.theory.Counting.{times_append, times_else, same_all}
use Rattle.cell_machine.specs.theory.Framing.{boxed_stands}
use Rattle.cell_machine.specs.theory.Living.{in_block, at_call}
use Rattle.pause_image.specs.Faults.{IsWithin, IsRight}
use Rattle.pause_image.specs.FoundLaws.{NoneLent}
use Rattle.pause_image.specs.Keeping.{IsKeepable}
use Rattle.pause_image.specs.Owning.{kind_in, IsOwn, words_cells, AreOwnWords, frames_cells, AreOwnFrames, left_at, carried_at, callee_of, callee_at, words_units, frames_ask}
use Rattle.pause_image.specs.Pausing.{image_of}
use Rattle.pause_image.specs.Shapes.{ready_among, HasJustReady, RunsAt, WaitsAt, IsShaped}
use Rattle.pause_image.specs.Slicing.{frame_lends, state_lends}

-- ---- the words of one frame

-- the values of the ready locals, the first of which has this number
abbrev value_if : Status → Option Value → List Value → List Value
value_if Ready None vs = vs
value_if Ready (Some v) vs = v ∷ vs
value_if Unbound o vs = vs
value_if Spent o vs = vs

abbrev values_from : states.State → Locals → ℕ → List ℕ → List Value
values_from s env x [] = []
values_from s env x (w ∷ ws) = value_if (s x) (env x) (values_from s env (suc x) ws)

-- a ready local has a value of its kind, for which its word stands
abbrev ReadyStands : List DataType → List Cell → Func → Status → (local word : ℕ) → Option Value → Type 0
ReadyStands types cells h Ready x w None = ⊥
ReadyStands types cells h Ready x w (Some v) = IsSomeAnd (kind_of h x) (λ q. Fits types q v) × Stands types cells v w
ReadyStands types cells h Unbound x w o = Unit {0}
ReadyStands types cells h Spent x w o = Unit {0}

abbrev AllStand : List DataType → List Cell → Func → states.State → Locals → (local : ℕ) → List ℕ → Type 0
AllStand types cells h s env x [] = Unit {0}
AllStand types cells h s env x (w ∷ ws) = ReadyStands types cells h (s x) x w (env x) × AllStand types cells h s env (suc x) ws

one_stands : (types : List DataType) (cells : List Cell) (h : Func) (t : Status) (x w : ℕ) (o : Option Value) (u : Option ℕ) → u ≡ Some w
    → (t ≡ Ready → IsSomeAnd o (λ v. IsSomeAnd (kind_of h x) (λ q. Fits types q v))) → (t ≡ Ready → LocalStands types cells o u) → ReadyStands types cells h t x w o
one_stands types cells h Ready x w None u e f k = absurd (f refl)
one_stands types cells h Ready x w (Some v) u e f k = (f refl, subst (LocalStands types cells (Some v)) e (k refl))
one_stands types cells h Unbound x w o u e f k = tt
one_stands types cells h Spent x w o u e f k = tt

each_stands : (types : List DataType) (cells : List Cell) (h : Func) (s : states.State) (env : Locals) (x : ℕ) (ws : List ℕ)
    → ((y w : ℕ) → slice_get ws y ≡ Some w → ReadyStands types cells h (s (x + y)) (x + y) w (env (x + y))) → AllStand types cells h s env x ws
each_stands types cells h s env x [] k = tt
each_stands types cells h s env x (w ∷ ws) k =
    let none : x + 0 ≡ x = omega arith in (
      subst (λ n. ReadyStands types cells h (s n) n w (env n)) none (k 0 w refl),
      each_stands types cells h s env (suc x) ws (λ y u e. let next : x + suc y ≡ suc x + y = omega arith in subst (λ n. ReadyStands types cells h (s n) n u (env n)) next (k (suc y) u e)),
    )

all_stand : (types : List DataType) (cells : List Cell) (h : Func) (s : states.State) (env : Locals) (ws : List ℕ) → FrameStands types cells h s env ws → AllStand types cells h s env 0 ws
all_stand types cells h s env ws m = each_stands types cells h s env 0 ws (λ y w e.
    let z : y ≡ 0 + y = omega arith in
    subst (λ n. ReadyStands types cells h (s n) n w (env n)) z (one_stands types cells h (s y) y w (env y) (slice_get ws y) e (m.fits.holds y) (m.stands y)))

-- each of these words of a frame has its value
abbrev StandWords : Code → List Cell → Frame → List Bound → List Value → Type 0
StandWords p cells f [] [] = Unit {0}
StandWords p cells f [] (v ∷ vs) = ⊥
StandWords p cells f (b ∷ bs) [] = ⊥
StandWords p cells f (b ∷ bs) (v ∷ vs) = IsSomeAnd (kind_in (slice_get p.funcs f.func) b.local) (λ q. Fits p.types q v × Stands p.types cells v b.word) × StandWords p cells f bs vs

with_stands : (types : List DataType) (cells : List Cell) (v : Value) (w : ℕ) (o : Option Kind) → IsSomeAnd o (λ q. Fits types q v) → Stands types cells v w
    → IsSomeAnd o (λ q. Fits types q v × Stands types cells v w)
with_stands types cells v w None f s = absurd f
with_stands types cells v w (Some q) f s = (f, s)

one_word : (p : Code) (cells : List Cell) (f : Frame) (h : Func) → slice_get p.funcs f.func ≡ Some h → (t : Status) (x w : ℕ) (o : Option Value) (bs : List Bound) (vs : List Value)
    → ReadyStands p.types cells h t x w o → StandWords p cells f bs vs → StandWords p cells f (bound_if t x w bs) (value_if t o vs)
one_word p cells f h is Ready x w None bs vs a r = absurd a
one_word p cells f h is Ready x w (Some v) bs vs a r =
    (subst (λ o. IsSomeAnd (kind_in o x) (λ q. Fits p.types q v × Stands p.types cells v w)) (sym is) (with_stands p.types cells v w (kind_of h x) a.0 a.1), r)
one_word p cells f h is Unbound x w o bs vs a r = r
one_word p cells f h is Spent x w o bs vs a r = r

words_stand : (p : Code) (cells : List Cell) (f : Frame) (h : Func) → slice_get p.funcs f.func ≡ Some h → (s : states.State) (env : Locals) (x : ℕ) (ws : List ℕ)
    → AllStand p.types cells h s env x ws → StandWords p cells f (bounds s x ws) (values_from s env x ws)
words_stand p cells f h is s env x [] a = tt
words_stand p cells f h is s env x (w ∷ ws) a = one_word p cells f h is (s x) x w (env x) (bounds s (suc x) ws) (values_from s env (suc x) ws) a.0 (words_stand p cells f h is s env (suc x) ws a.1)

-- the locals that are kept are those that are ready
just_ready : (s : states.State) (x : ℕ) (ws : List ℕ) → map (λ (b : Bound). b.local) (bounds s x ws) ≡ ready_among s x (length ws)
just_ready s x [] = refl
just_ready s x (w ∷ ws) = by_status (s x) (just_ready s (suc x) ws)
  where
    by_status : (t : Status) → map (λ (b : Bound). b.local) (bounds s (suc x) ws) ≡ ready_among s (suc x) (length ws)
        → map (λ (b : Bound). b.local) (bound_if t x w (bounds s (suc x) ws)) ≡ (if is_ready t then x ∷ ready_among s (suc x) (length ws) else ready_among s (suc x) (length ws))
    by_status Ready h = ap (λ l. x ∷ l) h
    by_status Unbound h = h
    by_status Spent h = h

-- ---- the cells of its values

one_taken : (p : Code) (cells : List Cell) (h : Func) (t : Status) (x w : ℕ) (o : Option Value) (bs : List Bound) (vs : List Value) → ReadyStands p.types cells h t x w o
    → words_cells p cells (bound_if t x w bs) (value_if t o vs) ≡ held p.types cells t o (Some w) ++ words_cells p cells bs vs
one_taken p cells h Ready x w None bs vs a = absurd a
one_taken p cells h Ready x w (Some v) bs vs a = refl
one_taken p cells h Unbound x w o bs vs a = refl
one_taken p cells h Spent x w o bs vs a = refl

words_held : (p : Code) (cells : List Cell) (h : Func) (s : states.State) (env : Locals) (x : ℕ) (ws : List ℕ) (word : ℕ → Option ℕ) → AllStand p.types cells h s env x ws
    → ((y : ℕ) → word (x + y) ≡ slice_get ws y)
    → words_cells p cells (bounds s x ws) (values_from s env x ws) ≡ flat_map (λ y. held p.types cells (s y) (env y) (word y)) (range_with_len x (length ws))
words_held p cells h s env x [] word a k = refl
words_held p cells h s env x (w ∷ ws) word a k =
    let none : x + 0 ≡ x = omega arith in
    let next : suc x ≡ x + 1 = omega arith in
    let first : word x ≡ Some w = ap word (sym none) ∙ k 0 in
    one_taken p cells h (s x) x w (env x) (bounds s (suc x) ws) (values_from s env (suc x) ws) a.0
    ∙ ap (λ o. held p.types cells (s x) (env x) o ++ words_cells p cells (bounds s (suc x) ws) (values_from s env (suc x) ws)) (sym first)
    ∙ ap (λ l. held p.types cells (s x) (env x) (word x) ++ l) (words_held p cells h s env (suc x) ws word a.1 (λ y. let n : suc x + y ≡ x + suc y = omega arith in ap word n ∙ k (suc y)))
    ∙ ap (λ n. held p.types cells (s x) (env x) (word x) ++ flat_map (λ y. held p.types cells (s y) (env y) (word y)) (range_with_len n (length ws))) next

flat_mapped : {A B C : Type 0} (g : B → List C) (k : A → B) (xs : List A) → flat_map g (map k xs) ≡ flat_map (λ x. g (k x)) xs
flat_mapped g k [] = refl
flat_mapped g k (x ∷ xs) = ap (λ l. g (k x) ++ l) (flat_mapped g k xs)

unready : (types : List DataType) (cells : List Cell) (t : Status) (o : Option Value) (w : Option ℕ) → (t ≡ Ready → ⊥) → held types cells t o w ≡ []
unready types cells Ready o w h = absurd (h refl)
unready types cells Unbound o w h = refl
unready types cells Spent o w h = refl

owned_here : (types : List DataType) (cells : List Cell) (l : Bool) (t : Status) (o : Option Value) (w : Option ℕ) → (l ≡ true → t ≡ Ready → ⊥)
    → held types cells (if l then Spent else t) o w ≡ held types cells t o w
owned_here types cells true t o w h = sym (unready types cells t o w (h refl))
owned_here types cells false t o w h = refl

-- ---- what its values carry

one_units : (types : List DataType) (cells : List Cell) (h : Func) (t : Status) (x w : ℕ) (o : Option Value) (bs : List Bound) (vs : List Value) (carried : Carried ℕ) → ReadyStands types cells h t x w o
    → words_units types carried (bound_if t x w bs) (value_if t o vs) ≡ status_units t (value_units types (carried x) o) + words_units types carried bs vs
one_units types cells h Ready x w None bs vs carried a = absurd a
one_units types cells h Ready x w (Some v) bs vs carried a = refl
one_units types cells h Unbound x w o bs vs carried a = omega arith
one_units types cells h Spent x w o bs vs carried a = omega arith

units_from : (types : List DataType) (cells : List Cell) (h : Func) (s : states.State) (env : Locals) (x : ℕ) (ws : List ℕ) (carried : Carried ℕ) → AllStand types cells h s env x ws
    → sum_below (local_units types s env carried) (x + length ws) ≡ sum_below (local_units types s env carried) x + words_units types carried (bounds s x ws) (values_from s env x ws)
units_from types cells h s env x [] carried a =
    let none : x + 0 ≡ x = omega arith in
    let more : sum_below (local_units types s env carried) x ≡ sum_below (local_units types s env carried) x + 0 = omega arith in
    ap (sum_below (local_units types s env carried)) none ∙ more
units_from types cells h s env x (w ∷ ws) carried a =
    let next : x + suc (length ws) ≡ suc x + length ws = omega arith in
    let one = one_units types cells h (s x) x w (env x) (bounds s (suc x) ws) (values_from s env (suc x) ws) carried a.0 in
    let others = units_from types cells h s env (suc x) ws carried a.1 in
    ap (sum_below (local_units types s env carried)) next ∙ omega (arith, others, one)

-- ---- one frame

-- what is kept of a frame: just its ready locals, with their values, and all that they hold and carry
record FrameKept (l : Licensed) (cells : List Cell) (h : Func) (s : states.State) (env : Locals) (fr : Activation) : Type 0 where
  just : HasJustReady h s (frame_kept s fr)
  stand : StandWords l.code cells (frame_kept s fr) (bounds s 0 fr.words) (values_from s env 0 fr.words)
  holds : (frame : ℕ) → cells_held (holdings_of l.code.types cells h s env fr.words frame) ≡ words_cells l.code cells (bounds s 0 fr.words) (values_from s env 0 fr.words)
  carries : (carried : Carried ℕ) → total l.code.types h s env carried ≡ words_units l.code.types carried (bounds s 0 fr.words) (values_from s env 0 fr.words)

frame_is : (l : Licensed) (cells : List Cell) (h : Func) (s : states.State) (env : Locals) (fr : Activation) → slice_get l.code.funcs fr.func ≡ Some h → NoneLent l.code.types h s
    → FrameStands l.code.types cells h s env fr.words → FrameKept l cells h s env fr
frame_is l cells h s env fr is lent m = record {
  just = just_ready s 0 fr.words ∙ ap (ready_among s 0) m.width;
  stand = words_stand l.code cells (frame_kept s fr) h is s env 0 fr.words all;
  holds = λ frame.
      flat_mapped (λ (h : Holding). h.cells) (λ x. record { frame = frame; local = x; cells = held l.code.types cells (owning l.code.types h s x) (env x) (slice_get fr.words x) }) (range_with_len 0 (length (local_kinds h)))
      ∙ same_all (λ x. held l.code.types cells (s x) (env x) (slice_get fr.words x)) (λ x. held l.code.types cells (owning l.code.types h s x) (env x) (slice_get fr.words x)) 0 (length (local_kinds h))
      (λ x a b. owned_here l.code.types cells (is_lent l.code.types h x) (s x) (env x) (slice_get fr.words x) (lent x))
      ∙ ap (λ n. flat_map (λ x. held l.code.types cells (s x) (env x) (slice_get fr.words x)) (range_with_len 0 n)) (sym m.width)
      ∙ sym (words_held l.code cells h s env 0 fr.words (slice_get fr.words) all (λ y. let z : 0 + y ≡ y = omega arith in ap (slice_get fr.words) z));
  carries = λ carried.
      let n : length (local_kinds h) ≡ 0 + length fr.words = omega (arith, m.width) in
      let none : 0 + words_units l.code.types carried (bounds s 0 fr.words) (values_from s env 0 fr.words) ≡ words_units l.code.types carried (bounds s 0 fr.words) (values_from s env 0 fr.words) = omega arith in
      ap (sum_below (local_units l.code.types s env carried)) n ∙ units_from l.code.types cells h s env 0 fr.words carried all ∙ none;
}
  where
    all : AllStand l.code.types cells h s env 0 fr.words
    all = all_stand l.code.types cells h s env fr.words m

-- ---- each word has its own value

-- a footprint is within the range
con_within : (types : List DataType) (cells : List Cell) (c : ℕ) (vs : Values) (w a : ℕ)
    → ((ws : List ℕ) → StandAll types cells vs ws → times a (footprints types cells vs ws) ≡ 0) → Stands types cells (value.Con c vs) w → length cells ≤ a
    → times a (footprint types cells (value.Con c vs) w) ≡ 0
con_within types cells c vs w a rec s h = by_boxed (is_boxed types c) refl
  where
    by_boxed : (b : Bool) → is_boxed types c ≡ b → times a (if b then w ∷ footprints types cells vs (words_at cells w) else []) ≡ 0
    by_boxed false e = refl
    by_boxed true e =
        let t = boxed_stands types cells c vs w e s in
        let within : w < length cells = slice_get_within cells w t.0 t.1 in
        let other : a ≡ w → ⊥ = (λ same. absurd (omega (arith, same, within, h))) in
        let words : words_at cells w ≡ t.0.words = ap (λ o. option_map_or (λ cell. cell.words) o []) t.1 in
        omega (arith, times_else a w other, ap (λ l. times a (footprints types cells vs l)) words, rec t.0.words t.3)

mutual
  one_within : (types : List DataType) (cells : List Cell) (v : Value) (w a : ℕ) → Stands types cells v w → length cells ≤ a → times a (footprint types cells v w) ≡ 0
  one_within types cells (value.Int z) w a s h = refl
  one_within types cells (value.Flag b) w a s h = refl
  one_within types cells value.Dia w a s h = let other : a ≡ w → ⊥ = (λ e. absurd (omega (arith, e, s, h))) in omega (arith, times_else a w other)
  one_within types cells (value.Con c vs) w a s h = con_within types cells c vs w a (λ ws t. all_within types cells vs ws a t h) s h

  all_within : (types : List DataType) (cells : List Cell) (vs : Values) (ws : List ℕ) (a : ℕ) → StandAll types cells vs ws → length cells ≤ a → times a (footprints types cells vs ws) ≡ 0
  all_within types cells value.End ws a s h = refl
  all_within types cells (value.And v vs) [] a s h = absurd s
  all_within types cells (value.And v vs) (w ∷ ws) a s h =
      omega (arith, times_append a (footprint types cells v w) (footprints types cells vs ws), one_within types cells v w a s.0 h, all_within types cells vs ws a s.1 h)

inside : (types : List DataType) (cells : List Cell) (v : Value) (w at : ℕ) → Stands types cells v w → 1 ≤ times at (footprint types cells v w) → at < length cells
inside types cells v w at s some = by_order (cases_lt at (length cells))
  where
    by_order : (at < length cells) ⊎ (length cells ≤ at) → at < length cells
    by_order (inl h) = h
    by_order (inr h) = absurd (omega (arith, some, one_within types cells v w at s h))

own_word : (types : List DataType) (cells : List Cell) (before : List ℕ) (o : Option Kind) (w : ℕ) (v : Value) → IsSomeAnd o (λ q. Fits types q v × Stands types cells v w)
    → ((at : ℕ) → times at before + times at (footprint types cells v w) ≤ 1) → IsSomeAnd o (λ q. IsOwn types cells before q w v)
own_word types cells before None w v h once = absurd h
own_word types cells before (Some q) w v h once = record { fits = h.0; stands = h.1; once = once; inside = λ at some. inside types cells v w at h.1 some }

own_words : (p : Code) (cells : List Cell) (before : List ℕ) (f : Frame) (bs : List Bound) (vs : List Value) → StandWords p cells f bs vs
    → ((at : ℕ) → times at before + times at (words_cells p cells bs vs) ≤ 1) → AreOwnWords p cells before f bs vs
own_words p cells before f [] [] h once = tt
own_words p cells before f [] (v ∷ vs) h once = absurd h
own_words p cells before f (b ∷ bs) [] h once = absurd h
own_words p cells before f (b ∷ bs) (v ∷ vs) h once = (
  own_word p.types cells before (kind_in (slice_get p.funcs f.func) b.local) b.word v h.0 (λ at. omega (arith, once at, times_append at (footprint p.types cells v b.word) (words_cells p cells bs vs))),
  own_words p cells (before ++ footprint p.types cells v b.word) f bs vs h.1
      (λ at. omega (arith, once at, times_append at before (footprint p.types cells v b.word), times_append at (footprint p.types cells v b.word) (words_cells p cells bs vs))),
)

-- each word of all frames has its value
abbrev StandFrames : Code → List Cell → List Frame → List (List Value) → Type 0
StandFrames p cells [] [] = Unit {0}
StandFrames p cells [] (vs ∷ vss) = ⊥
StandFrames p cells (f ∷ fs) [] = ⊥
StandFrames p cells (f ∷ fs) (vs ∷ vss) = StandWords p cells f f.live vs × StandFrames p cells fs vss

own_frames : (p : Code) (cells : List Cell) (before : List ℕ) (fs : List Frame) (vss : List (List Value)) → StandFrames p cells fs vss
    → ((at : ℕ) → times at before + times at (frames_cells p cells fs vss) ≤ 1) → AreOwnFrames p cells before fs vss
own_frames p cells before [] [] h once = tt
own_frames p cells before [] (vs ∷ vss) h once = absurd h
own_frames p cells before (f ∷ fs) [] h once = absurd h
own_frames p cells before (f ∷ fs) (vs ∷ vss) h once = (
  own_words p cells before f f.live vs h.0 (λ at. omega (arith, once at, times_append at (words_cells p cells f.live vs) (frames_cells p cells fs vss))),
  own_frames p cells (before ++ words_cells p cells f.live vs) fs vss h.1
      (λ at. omega (arith, once at, times_append at before (words_cells p cells f.live vs), times_append at (words_cells p cells f.live vs) (frames_cells p cells fs vss))),
)

-- ---- all frames

-- frames from this one on: each is as the code says
abbrev AllShaped : Licensed → List Frame → Type 0
AllShaped l [] = ⊥
AllShaped l (f ∷ []) = RunsAt l f
AllShaped l (f ∷ g ∷ fs) = WaitsAt l f g × AllShaped l (g ∷ fs)

shaped_at : (l : Licensed) (fs : List Frame) (n : ℕ) → AllShaped l fs → n < length fs → IsShaped l (drop n fs)
shaped_at l [] n h less = absurd h
shaped_at l (f ∷ []) zero h less = h
shaped_at l (f ∷ []) (suc n) h less = absurd (omega (arith, less))
shaped_at l (f ∷ g ∷ fs) zero h less = h.0
shaped_at l (f ∷ g ∷ fs) (suc n) h less = shaped_at l (g ∷ fs) n h.1 (omega (arith, less))

-- frames of what is kept, from one on: their shape and values, how often each cell is in these, and what they ask for
record Kept (l : Licensed) (cells : List Cell) (fs : List Frame) (count : ℕ → ℕ) (asks : ℕ) : Type 0 where
  shaped : AllShaped l fs
  values : List (List Value)
  stand : StandFrames l.code cells fs values
  holds : (at : ℕ) → times at (frames_cells l.code cells fs values) ≡ count at
  ask : frames_ask l fs values ≡ asks

-- the same of the same frames, with counts and demands that are equal
recount : (l : Licensed) (cells : List Cell) (fs gs : List Frame) (c d : ℕ → ℕ) (a b : ℕ) → fs ≡ gs → ((at : ℕ) → c at ≡ d at) → a ≡ b → Kept l cells fs c a → Kept l cells gs d b
recount l cells fs gs c d a b e k m r = subst (λ gs. Kept l cells gs d b) e (record { shaped = r.shaped; values = r.values; stand = r.stand; holds = λ at. r.holds at ∙ k at; ask = r.ask ∙ m })

unlent_by : (p : Code) (h : Func) (s : states.State) (b : Bool) → LendsWhere p h s b → b ≡ false → NoneLent p.types h s
unlent_by p h s b w e x lent ready = let told = w.told (record { local = x; lent = lent; ready = ready }) in absurd cc

block_is : (p : Code) (func block : ℕ) (h : Func) (b : Block) → slice_get p.funcs func ≡ Some h → slice_get h.blocks block ≡ Some b → block_at p func block ≡ Some b
block_is p func block h b e k = ap (λ o. block_in o block) e ∙ k

-- the account at a frame's place
left_is : (l : Licensed) (f : Frame) (b : Block) (n : ℕ) → block_at l.code f.func f.block ≡ Some b → f.place - 1 ≡ n → left_at l f ≡ (account_of l f.func f.block b n).left
left_is l f b n e k = ap (λ o. option_map_or (λ b. (account_of l f.func f.block b (f.place - 1)).left) o 0) e ∙ ap (λ n. (account_of l f.func f.block b n).left) k

carried_is : (l : Licensed) (f : Frame) (b : Block) (n : ℕ) → block_at l.code f.func f.block ≡ Some b → f.place - 1 ≡ n → carried_at l f ≡ (account_of l f.func f.block b n).carried
carried_is l f b n e k = ap (λ o. option_map_or (λ b. (account_of l f.func f.block b (f.place - 1)).carried) o (λ x con. 0)) e ∙ ap (λ n. (account_of l f.func f.block b n).carried) k

callee_is : (l : Licensed) (f : Frame) (b : Block) (n : ℕ) (t : Let) → block_at l.code f.func f.block ≡ Some b → f.place - 1 ≡ n → slice_get b.lets n ≡ Some t → callee_at l f ≡ callee_of t.op
callee_is l f b n t e k m =
    ap (λ o. option_map_or (λ (b : Block). option_map_or (λ (t : Let). callee_of t.op) (slice_get b.lets (f.place - 1)) 0) o 0) e
    ∙ ap (λ n. option_map_or (λ (t : Let). callee_of t.op) (slice_get b.lets n) 0) k
    ∙ ap (λ o. option_map_or (λ (t : Let). callee_of t.op) o 0) m

-- the frame that runs
top_kept : (l : Licensed) (cells : List Cell) (fr : Activation) → IsLicensed l → (r : RunningFrame l.code cells fr) → lends_at l.code fr.func fr.block ≡ false
    → Kept l cells (running_kept l.code fr ∷ []) (λ at. times at (cells_held (running_holdings l.code cells fr r))) (worth_at l.code (book_of l.cert) fr.func r.f fr.block r.b fr.place r.env)
top_kept l cells fr k r unlent =
    let p = l.code in
    let f : Frame = running_kept p fr in
    let place : suc fr.place - 1 ≡ fr.place = omega arith in
    let s : states.State = ready_running p fr in
    let state_is : s ≡ state_at (reads_of p) (is_owned p.types r.f) r.b fr.place = in_block p fr r.f r.b r.func r.block in
    let one : FrameKept l cells r.f s r.env fr = frame_is l cells r.f s r.env fr r.func
    (unlent_by p r.f s (lends_at p fr.func fr.block) (lending.runs p fr.func fr.block fr.place r.f k.well r.func) unlent)
    (subst (λ s. FrameStands p.types cells r.f s r.env fr.words) (sym state_is) r.stands) in
    let vs : List Value = values_from s r.env 0 fr.words in
    let block : block_at p fr.func fr.block ≡ Some r.b = block_is p fr.func fr.block r.f r.b r.func r.block in
    let account : Account ℕ = account_of l fr.func fr.block r.b fr.place in
    let left : left_at l f ≡ account.left = left_is l f r.b fr.place block place in
    let carried : carried_at l f ≡ account.carried = carried_is l f r.b fr.place block place in
    let units : words_units p.types (carried_at l f) (bounds s 0 fr.words) vs ≡ total p.types r.f (state_at (reads_of p) (is_owned p.types r.f) r.b fr.place) r.env account.carried =
    ap (λ c. words_units p.types c (bounds s 0 fr.words) vs) carried ∙ sym (one.carries account.carried) ∙ ap (λ s. total p.types r.f s r.env account.carried) state_is in
    record {
      shaped = record {
        h = r.f;
        b = r.b;
        func = r.func;
        block = r.block;
        first = omega arith;
        place = omega (arith, r.place);
        unlent = unlent;
        just = subst (λ n. HasJustReady r.f (ready_at p fr.func fr.block n) f) (sym place) one.just;
      };
      values = vs ∷ [];
      stand = (one.stand, tt);
      holds = λ at. omega (
        arith,
        times_append at (words_cells p cells (bounds s 0 fr.words) vs) [],
        ap (times at) (one.holds 0),
        ap (λ s. times at (cells_held (holdings_of p.types cells r.f s r.env fr.words 0))) state_is,
      );
      ask = omega (arith, left, units);
    }

-- one frame more, which waits below the others
wait_kept : (l : Licensed) (cells : List Cell) (k : Func) (g : Frame) (gs : List Frame) (count : ℕ → ℕ) (asks : ℕ) (fr : Activation) → IsLicensed l → (w : WaitingFrame l.code cells k.result fr)
    → slice_get l.code.funcs g.func ≡ Some k → AtLeast l.code.types k.result ((book_of l.cert).result g.func) ((book_of l.cert).result w.callee) → lends_at l.code fr.func fr.block ≡ false
    → (frame : ℕ) → Kept l cells (g ∷ gs) count asks
    → Kept l cells (waiting_kept l.code fr ∷ g ∷ gs) (λ at. times at (cells_held (holdings_of l.code.types cells w.f (waiting_state l.code cells k.result fr w) w.env fr.words frame)) + count at)
    (waiting_demand l.code (book_of l.cert) cells k.result g.func fr w + asks)
wait_kept l cells k g gs count asks fr lic w above suffices unlent frame acc =
    let p = l.code in
    let f : Frame = waiting_kept p fr in
    let place : suc fr.place - 1 ≡ fr.place = omega arith in
    let s : states.State = ready_waiting p fr in
    let call : Let = record { target = w.target; op = Call w.callee w.args } in
    let state_is : s ≡ waiting_state p cells k.result fr w = at_call p fr w.f w.b call w.func w.block w.call in
    let one : FrameKept l cells w.f s w.env fr = frame_is l cells w.f s w.env fr w.func
    (unlent_by p w.f s (lends_at p fr.func fr.block) (lending.waits p fr.func fr.block fr.place w.f lic.well w.func) unlent)
    (subst (λ s. FrameStands p.types cells w.f s w.env fr.words) (sym state_is) w.stands) in
    let vs : List Value = values_from s w.env 0 fr.words in
    let block : block_at p fr.func fr.block ≡ Some w.b = block_is p fr.func fr.block w.f w.b w.func w.block in
    let account : Account ℕ = account_of l fr.func fr.block w.b fr.place in
    let left : left_at l f ≡ account.left = left_is l f w.b fr.place block place in
    let carried : carried_at l f ≡ account.carried = carried_is l f w.b fr.place block place in
    let callee : callee_at l f ≡ w.callee = callee_is l f w.b fr.place call block place w.call in
    let units : words_units p.types (carried_at l f) (bounds s 0 fr.words) vs ≡ total p.types w.f (waiting_state p cells k.result fr w) w.env account.carried =
    ap (λ c. words_units p.types c (bounds s 0 fr.words) vs) carried ∙ sym (one.carries account.carried) ∙ ap (λ s. total p.types w.f s w.env account.carried) state_is in
    record {
      shaped = (
        record {
          h = w.f;
          b = w.b;
          k = k;
          target = w.target;
          callee = w.callee;
          args = w.args;
          func = w.func;
          block = w.block;
          first = omega arith;
          call = subst (λ n. slice_get w.b.lets n ≡ Some call) (sym place) w.call;
          above = above;
          result = w.result_is;
          suffices = suffices;
          unlent = unlent;
          just = subst (λ n. HasJustReady w.f (waits_at p fr.func fr.block n) f) (sym place) one.just;
        },
        acc.shaped,
      );
      values = vs ∷ acc.values;
      stand = (one.stand, acc.stand);
      holds = λ at. omega (
        arith,
        times_append at (words_cells p cells (bounds s 0 fr.words) vs) (frames_cells p cells (g ∷ gs) acc.values),
        ap (times at) (one.holds frame),
        ap (λ s. times at (cells_held (holdings_of p.types cells w.f s w.env fr.words frame))) state_is,
        acc.holds at,
      );
      ask = omega (arith, left, units, ap (book_of l.cert).need callee, ap (book_of l.cert).back callee, acc.ask);
    }

cells_both : (hs ks : List Holding) → cells_held (hs ++ ks) ≡ cells_held hs ++ cells_held ks
cells_both [] ks = refl
cells_both (h ∷ hs) ks = ap (λ l. h.cells ++ l) (cells_both hs ks) ∙ sym (append_assoc h.cells (cells_held hs) (cells_held ks))

-- no frame lends
abbrev NoneLends : Code → List Activation → Type 0
NoneLends p frs = AllByRecursion (λ (fr : Activation). lends_at p fr.func fr.block ≡ false) frs

-- all frames that wait, below these
waits_kept : (l : Licensed) (cells : List Cell) (k : Func) (g : Frame) (gs : List Frame) (count : ℕ → ℕ) (asks : ℕ) (frs : List Activation) → IsLicensed l → (r : WaitingFrames l.code cells k.result frs)
    → slice_get l.code.funcs g.func ≡ Some k → ResultsSuffice l.code (book_of l.cert) cells k.result g.func frs r → NoneLends l.code frs → (frame : ℕ) → Kept l cells (g ∷ gs) count asks
    → Kept l cells (reverse (map (waiting_kept l.code) frs) ++ g ∷ gs) (λ at. times at (cells_held (waiting_holdings l.code cells k.result frs r frame)) + count at)
    (waiting_demands l.code (book_of l.cert) cells k.result g.func frs r + asks)
waits_kept l cells k g gs count asks [] lic r above suffice unlent frame acc =
    recount l cells (g ∷ gs) (g ∷ gs) count (λ at. times at (cells_held (waiting_holdings l.code cells k.result [] r frame)) + count at) asks (0 + asks) refl (λ at. omega arith) (omega arith) acc
waits_kept l cells k g gs count asks (fr ∷ frs) lic r above suffice unlent frame acc =
    let p = l.code in
    let book = book_of l.cert in
    let f : Frame = waiting_kept p fr in
    let own : List ℕ = cells_held (holdings_of p.types cells r.0.f (waiting_state p cells k.result fr r.0) r.0.env fr.words frame) in
    let others : List ℕ = cells_held (waiting_holdings p cells r.0.f.result frs r.1 (suc frame)) in
    let asked : ℕ = waiting_demand p book cells k.result g.func fr r.0 in
    let more = wait_kept l cells k g gs count asks fr lic r.0 above suffice.0 unlent.0 frame acc in
    let rest = waits_kept l cells r.0.f f (g ∷ gs) (λ at. times at own + count at) (asked + asks) frs lic r.1 r.0.func suffice.1 unlent.1 (suc frame) more in
    recount l cells (reverse (map (waiting_kept p) frs) ++ f ∷ g ∷ gs) (reverse (map (waiting_kept p) (fr ∷ frs)) ++ g ∷ gs)
    (λ at. times at others + (times at own + count at)) (λ at. times at (cells_held (waiting_holdings p cells k.result (fr ∷ frs) r frame)) + count at)
    (waiting_demands p book cells r.0.f.result fr.func frs r.1 + (asked + asks)) (waiting_demands p book cells k.result g.func (fr ∷ frs) r + asks)
    (sym (ap (λ a. a ++ g ∷ gs) (reverse-append (f ∷ []) (map (waiting_kept p) frs)) ∙ append_assoc (reverse (map (waiting_kept p) frs)) (f ∷ []) (g ∷ gs)))
    (λ at. omega (
      arith,
      ap (times at) (cells_both (holdings_of p.types cells r.0.f (waiting_state p cells k.result fr r.0) r.0.env fr.words frame) (waiting_holdings p cells r.0.f.result frs r.1 (suc frame))),
      times_append at own others,
    ))
    (omega arith) rest

-- ---- the whole

or_first : (a b : Bool) → (a || b) ≡ false → a ≡ false
or_first true b e = e
or_first false b e = refl

or_second : (a b : Bool) → (a || b) ≡ false → b ≡ false
or_second true b e = absurd cc
or_second false b e = e

none_lends : (p : Code) (frs : List Activation) → list_any (frame_lends p) frs ≡ false → NoneLends p frs
none_lends p [] e = tt
none_lends p (fr ∷ frs) e = (or_first (frame_lends p fr) (list_any (frame_lends p) frs) e, none_lends p frs (or_second (frame_lends p fr) (list_any (frame_lends p) frs) e))

many_kept : (p : Code) (frs : List Activation) (f : Frame) → length (reverse (map (waiting_kept p) frs) ++ f ∷ []) ≡ suc (length frs)
many_kept p frs f = omega (arith, length-append (reverse (map (waiting_kept p) frs)) (f ∷ []), length-reverse (map (waiting_kept p) frs), many frs)
  where
    many : (frs : List Activation) → length (map (waiting_kept p) frs) ≡ length frs
    many [] = refl
    many (fr ∷ frs) = ap suc (many frs)

-- net and free cells together are from 0 to the number of cells
is_within : (z : ℤ) (peak low free size : ℕ) → z ≡ pos peak -ℤ pos low → low ≤ free + peak → free + peak ≤ size + low → IsWithin z free size
is_within (pos n) peak low free size e a b =
    let is : n + low ≡ peak = omega (arith, ints, e) in
    omega (arith, is, b)
is_within (negsuc n) peak low free size e a b =
    let is : peak + suc n ≡ low = omega (arith, ints, e) in
    (omega (arith, is, a), omega (arith, is, b))

-- What is kept of a state that can be put aside is right, where the text is its image's.
pub kept_right : (l : Licensed) (text : List ℕ) (s : Configuration) → IsLicensed l → IsKeepable l s → state_lends l.code s ≡ false
    → AllByRecursion (λ (c : Cell). length c.words ≡ 4) s.cells → IsText image_format text (image_of (kept l.code s)) → IsRight l text (length s.cells) (kept l.code s)
kept_right l text s lic k unlent four is =
    let p = l.code in
    let book = book_of l.cert in
    let r : IsSound p s = k.fit.sound in
    let f : Frame = running_kept p s.frame in
    let fs : List Frame = reverse (map (waiting_kept p) s.waiting) ++ f ∷ [] in
    let none = none_lends p (s.frame ∷ s.waiting) unlent in
    let running : List ℕ = cells_held (running_holdings p s.cells s.frame r.running) in
    let others : List ℕ = cells_held (waiting_holdings p s.cells r.running.f.result s.waiting r.waiting 1) in
    let worth : ℕ = worth_at p book s.frame.func r.running.f s.frame.block r.running.b s.frame.place r.running.env in
    let all = waits_kept l s.cells r.running.f f [] (λ at. times at running) worth s.waiting lic r.waiting r.running.func k.fit.balanced.results none.1 1 (top_kept l s.cells s.frame lic r.running none.0) in
    let held_is : (at : ℕ) → times at (cells_held (running_holdings p s.cells s.frame r.running ++ waiting_holdings p s.cells r.running.f.result s.waiting r.waiting 1)) ≡ times at (frames_cells p s.cells fs all.values) = (λ at.
    omega (arith, ap (times at) (cells_both (running_holdings p s.cells s.frame r.running) (waiting_holdings p s.cells r.running.f.result s.waiting r.waiting 1)), times_append at running others, all.holds at)) in
    let once : (at : ℕ) → times at (frames_cells p s.cells fs all.values) + times at r.free ≤ 1 = (λ at.
    omega (arith, r.once at, times_append at (cells_held (running_holdings p s.cells s.frame r.running ++ waiting_holdings p s.cells r.running.f.result s.waiting r.waiting 1)) r.free, held_is at)) in
    let asked : demands p book s r ≡ frames_ask l fs all.values = omega (arith, all.ask) in
    record {
      sized = record { image = record { text = is; four = four }; size = refl };
      owned = record {
        frames = record {
          shaped = λ n less. record { few = omega (arith, less, many_kept p s.waiting f, k.fit.few); shaped = shaped_at l fs n all.shaped less };
          values = all.values;
          own = own_frames p s.cells [] fs all.values all.stand (λ at. omega (arith, once at));
        };
        free = r.free;
        runs = r.list;
        once = once;
      };
      enough = subst (λ n. n / book.unit ≤ length r.free) asked k.fit.balanced.enough;
      within = is_within (pos s.peak -ℤ pos s.low) s.peak s.low (length r.free) (length s.cells) refl k.fit.counted k.within;
    }
