-- Laws, for the proofs of this crate and of those above it.
-- What a pause writes is an image.
use Rattle.std.proofs.Common.{◌≡◌, ℕ, suc, ◌+◌, ◌*◌, ◌≤◌, ◌<◌, Bool, true, false, List, [], ◌∷◌, ◌++◌, map, length, Option, Some, None, refl, sym, ap, ◌∙◌, subst, arith, length-append}
use Rattle.std.specs.Prelude.{ℤ, pos, negsuc, ◌-ℤ◌, IsSomeAnd, reverse, slice_get}
use Rattle.std.specs.Int.{w32}
use Rattle.std.specs.List.{AllByRecursion}
use Rattle.std.proofs.Math.Facts.{Fits-of_z}
use Rattle.std.proofs.lemmas.Int.{ints}
use Rattle.std.proofs.lemmas.Option.{slice_get_within}
use Rattle.cell_span.specs.declared.cell.Cell.{Cell}
use Rattle.camelot_values.specs.Value as value
use Rattle.camelot_values.specs.Value.{Value}
use Rattle.camelot_values.specs.Kinds.{Constructor, DataType, constructor, constructors, IsDataType, AreTypes}
use Rattle.camelot_values.specs.Typing.{Fits, FitAll}
use Rattle.camelot_values.specs.declared.kinds.Kind.{Kind}
use Rattle.grail_blocks.specs.States as states
use Rattle.grail_blocks.specs.States.{Status, Unbound, Ready, Spent, state_at}
use Rattle.grail_code.specs.Code.{Call, Let, Block, Func, Code}
use Rattle.grail_code.specs.Limits.{FuncIsWithin, IsWithinLimits}
use Rattle.grail_code.specs.Meaning.{Locals}
use Rattle.grail_code.specs.PlaceLaws.{all_at}
use Rattle.grail_code.specs.WellFormed.{kind_of, is_owned, reads_of}
use Rattle.licence.specs.Licensed.{Licensed, IsLicensed}
use Rattle.machine_image.specs.Images.{Bound, Frame, Is32, IsNet, BoundIsFormed, IsRising, FrameIsFormed, CellIsFormed, IsFilled, IsImage}
use Rattle.machine_image.specs.Words.{cell_of}
use Rattle.cell_machine.specs.Bounds.{bound_if, bounds}
use Rattle.cell_machine.specs.Cells.{is_boxed, inline_base, free_cell}
use Rattle.cell_machine.specs.Dead.{ready_running, ready_waiting}
use Rattle.cell_machine.specs.Saved.{kept, waiting_kept, running_kept, frame_kept}
use Rattle.cell_machine.specs.Sound.{LocalStands, FrameStands, WaitingFrames, waiting_state, IsSound}
use Rattle.cell_machine.specs.Stands.{Stands, IsFreeList, times}
use Rattle.cell_machine.specs.State.{Activation, Configuration}
use Rattle.cell_machine.specs.theory.Counting.{times_else}
use Rattle.cell_machine.specs.theory.Framing.{boxed_stands, inline_stands}
use Rattle.cell_machine.specs.theory.Holdings.{held_once}
use Rattle.cell_machine.specs.theory.Living.{in_block, at_call}
use Rattle.cell_machine.specs.theory.Reading.{few_below}
use Rattle.pause_image.specs.Keeping.{IsKeepable}
use Rattle.pause_image.specs.KeptLaws.{all_turned}
use Rattle.pause_image.specs.Pausing.{image_of}

-- ---- locals rise

-- each local is above the one before, the first one at least this number
abbrev RisesFrom : ℕ → List Bound → Type 0
RisesFrom x [] = Unit {0}
RisesFrom x (b ∷ bs) = (x ≤ b.local) × RisesFrom (suc b.local) bs

rises_later : (x : ℕ) (bs : List Bound) → RisesFrom (suc x) bs → RisesFrom x bs
rises_later x [] h = tt
rises_later x (b ∷ bs) h = (omega (arith, h.0), h.1)

bounds_rise : (s : states.State) (x : ℕ) (ws : List ℕ) → RisesFrom x (bounds s x ws)
bounds_rise s x [] = tt
bounds_rise s x (w ∷ ws) = by_status (s x) (bounds_rise s (suc x) ws)
  where
    by_status : (t : Status) → RisesFrom (suc x) (bounds s (suc x) ws) → RisesFrom x (bound_if t x w (bounds s (suc x) ws))
    by_status Ready h = (omega arith, h)
    by_status Unbound h = rises_later x (bounds s (suc x) ws) h
    by_status Spent h = rises_later x (bounds s (suc x) ws) h

are_rising : (x : ℕ) (bs : List Bound) → RisesFrom x bs → IsRising bs
are_rising x [] h = tt
are_rising x (b ∷ []) h = tt
are_rising x (b ∷ c ∷ bs) h = (omega (arith, h.1.0), are_rising (suc b.local) (c ∷ bs) h.1)

all_both : {X : Type 0} (P : X → Type 0) (xs ys : List X) → AllByRecursion P xs → AllByRecursion P ys → AllByRecursion P (xs ++ ys)
all_both P [] ys h k = k
all_both P (x ∷ xs) ys h k = (h.0, all_both P xs ys h.1 k)

waits_rise : (p : Code) (frs : List Activation) → AllByRecursion (λ (f : Frame). IsRising f.live) (map (waiting_kept p) frs)
waits_rise p [] = tt
waits_rise p (fr ∷ frs) = (are_rising 0 (bounds (ready_waiting p fr) 0 fr.words) (bounds_rise (ready_waiting p fr) 0 fr.words), waits_rise p frs)

frames_rise : (p : Code) (s : Configuration) → AllByRecursion (λ (f : Frame). IsRising f.live) (kept p s).frames
frames_rise p s = all_both (λ (f : Frame). IsRising f.live) (reverse (map (waiting_kept p) s.waiting)) (running_kept p s.frame ∷ [])
    (all_turned (λ (f : Frame). IsRising f.live) (map (waiting_kept p) s.waiting) (waits_rise p s.waiting))
    (are_rising 0 (bounds (ready_running p s.frame) 0 s.frame.words) (bounds_rise (ready_running p s.frame) 0 s.frame.words), tt)

-- ---- frames

-- The frame's numbers and those of its words are 32 bits.
pub record FrameIs32 (f : Frame) : Type 0 where
  pub func : Is32 f.func
  pub block : Is32 f.block
  pub place : Is32 f.place
  pub live : AllByRecursion BoundIsFormed f.live

frames_formed : (fs : List Frame) → AllByRecursion FrameIs32 fs → AllByRecursion (λ (f : Frame). IsRising f.live) fs → AllByRecursion FrameIsFormed fs
frames_formed [] h k = tt
frames_formed (f ∷ fs) h k = (record { func = h.0.func; block = h.0.block; place = h.0.place; live = h.0.live; rising = k.0 }, frames_formed fs h.1 k.1)

filled : {A : Type 0} (xs : List A) (x : A) → IsFilled (xs ++ x ∷ [])
filled [] x = tt
filled (y ∷ xs) x = tt

-- ---- counters

-- the free list is within the range
free_within : (cells : List Cell) (head : ℕ) (free : List ℕ) (a : ℕ) → IsFreeList cells head free → length cells ≤ a → times a free ≡ 0
free_within cells head [] a l h = refl
free_within cells head (x ∷ free) a l h =
    let within : x < length cells = slice_get_within cells x (free_cell l.1.0) l.1.1 in
    let other : a ≡ x → ⊥ = (λ e. absurd (omega (arith, e, within, h))) in
    omega (arith, times_else a x other, free_within cells l.1.0 free a l.1.2 h)

-- no more cells are free than there are
free_few : (p : Code) (s : Configuration) (r : IsSound p s) → length r.free ≤ length s.cells
free_few p s r = few_below (length s.cells) r.free (λ a. omega (arith, held_once p s r a)) (λ a h. free_within s.cells s.head r.free a r.list h)

-- where the free list begins is 32 bits
head_is : (cells : List Cell) (head : ℕ) (free : List ℕ) → length cells ≤ inline_base → IsFreeList cells head free → Is32 head
head_is cells head [] few h = omega (arith, h)
head_is cells head (x ∷ free) few h = omega (arith, few, h.0, slice_get_within cells x (free_cell h.1.0) h.1.1)

net_is : (z : ℤ) (peak low free size : ℕ) → z ≡ pos peak -ℤ pos low → low ≤ free + peak → free + peak ≤ size + low → free ≤ size → size ≤ inline_base → IsNet z
net_is (pos n) peak low free size e a b c d =
    let is : n + low ≡ peak = omega (arith, ints, e) in
    omega (arith, is, b, d)
net_is (negsuc n) peak low free size e a b c d =
    let is : peak + suc n ≡ low = omega (arith, ints, e) in
    omega (arith, is, a, c, d)

many_cells : (cells : List Cell) → length (map cell_of cells) ≡ length cells
many_cells [] = refl
many_cells (c ∷ cells) = ap suc (many_cells cells)

-- ---- numbers of frames

few_constructors : (types : List DataType) → AllByRecursion IsDataType types → length (constructors types) ≤ 64 * length types
few_constructors [] h = omega arith
few_constructors (t ∷ types) h = omega (arith, length-append t.cons (constructors types), h.0.few_cons, few_constructors types h.1)

-- the word of a value is 32 bits
word_is : (types : List DataType) (cells : List Cell) → length cells ≤ inline_base → AreTypes types → (q : Kind) (v : Value) (w : ℕ) → Fits types q v → Stands types cells v w → Is32 w
word_is types cells few limits q (value.Int z) w h s = let fits = Fits-of_z {w = w32} {z = z} h.1 in omega (arith, s, fits)
word_is types cells few limits q (value.Flag true) w h s = omega (arith, s)
word_is types cells few limits q (value.Flag false) w h s = omega (arith, s)
word_is types cells few limits q value.Dia w h s = omega (arith, s, few)
word_is types cells few limits q (value.Con c vs) w h s = by_boxed (is_boxed types c) refl
  where
    number : (o : Option Constructor) → constructor types c ≡ o → IsSomeAnd o (λ con. FitAll types con.fields vs) → c < length (constructors types)
    number None e f = absurd f
    number (Some con) e f = slice_get_within (constructors types) c con e

    by_boxed : (b : Bool) → is_boxed types c ≡ b → Is32 w
    by_boxed true e =
        let t = boxed_stands types cells c vs w e s in
        omega (arith, slice_get_within cells w t.0 t.1, few)
    by_boxed false e = omega (arith, inline_stands types cells c vs w e s, number (constructor types c) refl h.1, few_constructors types limits.each, limits.few_types)

of_local : (types : List DataType) (cells : List Cell) → length cells ≤ inline_base → AreTypes types → (o : Option Value) (k : Option Kind) (u : Option ℕ) (w : ℕ) → u ≡ Some w
    → IsSomeAnd o (λ v. IsSomeAnd k (λ q. Fits types q v)) → LocalStands types cells o u → Is32 w
of_local types cells few limits None k u w e h s = absurd h
of_local types cells few limits (Some v) None u w e h s = absurd h
of_local types cells few limits (Some v) (Some q) u w e h s = word_is types cells few limits q v w h (subst (LocalStands types cells (Some v)) e s)

bounds_formed : (s : states.State) (x : ℕ) (ws : List ℕ) → x + length ws ≤ 4294967296 → ((y w : ℕ) → s (x + y) ≡ Ready → slice_get ws y ≡ Some w → Is32 w)
    → AllByRecursion BoundIsFormed (bounds s x ws)
bounds_formed s x [] few k = tt
bounds_formed s x (w ∷ ws) few k = by_status (s x) refl
    (bounds_formed s (suc x) ws (omega (arith, few)) (λ y u r e. let next : x + suc y ≡ suc x + y = omega arith in k (suc y) u (ap s next ∙ r) e))
  where
    by_status : (t : Status) → s x ≡ t → AllByRecursion BoundIsFormed (bounds s (suc x) ws) → AllByRecursion BoundIsFormed (bound_if t x w (bounds s (suc x) ws))
    by_status Ready e h =
        let none : x + 0 ≡ x = omega arith in
        (record { local = omega (arith, few); word = k 0 w (ap s none ∙ e) refl }, h)
    by_status Unbound e h = h
    by_status Spent e h = h

-- the frame of a function within the limits, at a place of a block
frame_32 : (p : Code) (cells : List Cell) → length cells ≤ inline_base → IsWithinLimits p → (s : states.State) (fr : Activation) (f : Func) (b : Block) (env : Locals)
    → slice_get p.funcs fr.func ≡ Some f → slice_get f.blocks fr.block ≡ Some b → fr.place ≤ length b.lets → FrameStands p.types cells f s env fr.words → FrameIs32 (frame_kept s fr)
frame_32 p cells few limits s fr f b env func block place m =
    let within : FuncIsWithin f = all_at FuncIsWithin p.funcs fr.func f limits.funcs func in
    let lets : length b.lets ≤ 256 = all_at (λ (b : Block). length b.lets ≤ 256) f.blocks fr.block b within.few_lets block in
    record {
      func = omega (arith, slice_get_within p.funcs fr.func f func, limits.few_funcs);
      block = omega (arith, slice_get_within f.blocks fr.block b block, within.few_blocks);
      place = omega (arith, place, lets);
      live = bounds_formed s 0 fr.words (omega (arith, m.width, length-append f.params f.locals, within.few_params, within.few_locals))
          (λ y w r e. let none : y ≡ 0 + y = omega arith in
          of_local p.types cells few limits.types (env y) (kind_of f y) (slice_get fr.words y) w e (m.fits.holds y (ap s none ∙ r)) (m.stands y (ap s none ∙ r)));
    }

waits_32 : (p : Code) (cells : List Cell) → length cells ≤ inline_base → IsWithinLimits p → (result : Kind) (frs : List Activation) → WaitingFrames p cells result frs
    → AllByRecursion FrameIs32 (map (waiting_kept p) frs)
waits_32 p cells few limits result [] r = tt
waits_32 p cells few limits result (fr ∷ frs) r =
    let call : Let = record { target = r.0.target; op = Call r.0.callee r.0.args } in
    let state_is : ready_waiting p fr ≡ waiting_state p cells result fr r.0 = at_call p fr r.0.f r.0.b call r.0.func r.0.block r.0.call in (
      frame_32 p cells few limits (ready_waiting p fr) fr r.0.f r.0.b r.0.env r.0.func r.0.block (omega (arith, slice_get_within r.0.b.lets fr.place call r.0.call))
          (subst (λ s. FrameStands p.types cells r.0.f s r.0.env fr.words) (sym state_is) r.0.stands),
      waits_32 p cells few limits r.0.f.result frs r.1,
    )

-- all numbers of the frames that are kept are 32 bits
frames_32 : (p : Code) (s : Configuration) → IsWithinLimits p → IsSound p s → AllByRecursion FrameIs32 (kept p s).frames
frames_32 p s limits r =
    let state_is : ready_running p s.frame ≡ state_at (reads_of p) (is_owned p.types r.running.f) r.running.b s.frame.place = in_block p s.frame r.running.f r.running.b r.running.func r.running.block in
    all_both FrameIs32 (reverse (map (waiting_kept p) s.waiting)) (running_kept p s.frame ∷ [])
    (all_turned FrameIs32 (map (waiting_kept p) s.waiting) (waits_32 p s.cells r.few_cells limits r.running.f.result s.waiting r.waiting)) (
      frame_32 p s.cells r.few_cells limits (ready_running p s.frame) s.frame r.running.f r.running.b r.running.env r.running.func r.running.block (omega (arith, r.running.place))
          (subst (λ s'. FrameStands p.types s.cells r.running.f s' r.running.env s.frame.words) (sym state_is) r.running.stands),
      tt,
    )

-- ---- the whole

-- What is kept of a state that can be put aside is an image, where its cells have numbers of 32 bits. Those of its
-- frames are so, by the limits of code.
pub kept_formed : (l : Licensed) (s : Configuration) → IsLicensed l → IsKeepable l s → AllByRecursion CellIsFormed (map cell_of s.cells) → IsImage (image_of (kept l.code s))
kept_formed l s lic k cells =
    let r : IsSound l.code s = k.fit.sound in
    record {
      counts = record {
        steps = k.steps;
        net = net_is (pos s.peak -ℤ pos s.low) s.peak s.low (length r.free) (length s.cells) refl k.fit.counted k.within (free_few l.code s r) r.few_cells;
        peak = k.peak;
        free = head_is s.cells s.head r.free r.few_cells r.list;
        cells = omega (arith, r.few_cells);
      };
      some = filled (reverse (map (waiting_kept l.code) s.waiting)) (running_kept l.code s.frame);
      frames = frames_formed (kept l.code s).frames (frames_32 l.code s lic.limits r) (frames_rise l.code s);
      cells = cells;
      size = many_cells s.cells;
    }
