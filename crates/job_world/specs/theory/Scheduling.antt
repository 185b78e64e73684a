-- Laws, for the functions of laws.rt.
-- Each journal of the desk is that of a world in which the jobs run.
use Rattle.std.proofs.Common.{◌≡◌, ℕ, zero, suc, ◌+◌, ◌-◌, ◌<◌, ◌≤◌, nat_le, nat_lt, ◌&&◌, Bool, true, false, if◌then◌else◌, List, [], ◌∷◌, ◌++◌, length, take, drop, replicate, Option, Some, None, refl, sym, ap, ◌∙◌, subst, arith, append_assoc, append-nil}
use Rattle.std.specs.Prelude.{slice_get}
use Rattle.std.specs.Option.{option_map}
use Rattle.std.proofs.lemmas.Option.{slice_get_past, slice_get_within}
use Rattle.cell_span.specs.declared.cell.Cell.{Cell}
use Rattle.cell_span.specs.Range.{Range, blank, IsWhole}
use Rattle.hole_list.specs.declared.run.Run.{Run}
use Rattle.hole_list.specs.Placing.{run, in_run, times_in, take_run, give_run}
use Rattle.hole_list.specs.PlacingLaws.{some_same, taken_of, give_times, in_yes, in_within, at_most_one}
use Rattle.lease_desk.specs.declared.event.Event.{Event}
use Rattle.lease_desk.specs.declared.event.Event.TheVariants as event
use Rattle.lease_desk.specs.Journal.{DeskState, opened, leased, Move, move, gave, asked_for, next_move, left_move, give_lease, give_move, after_event, after_events, replay, IsLegal}
use Rattle.lease_desk.specs.Filing.{FiledCells, cell_of, cell_after, filed_cell, IsKnownAs, HoldsFiled}
use Rattle.lease_desk.specs.theory.Filing.{filed_more, filed_first}
use Rattle.lease_desk.specs.theory.Moves.{Moves, next, left, back, moved, none_after}
use Rattle.cell_machine.specs.State.{cells_of}
use Rattle.job_world.specs.Plans.{Planned, leases_of, job_cells}
use Rattle.job_world.specs.Put.{Core, Going, Ended, machine_of}
use Rattle.job_world.specs.World.{World, WorldEvent, Next, Give, either_move, world}
use Rattle.job_world.specs.Isolation.{CanHold, LieApart, IsOutside, HasAsked, HasGivenBack, EndsAlone, move_of}
use Rattle.job_world.specs.WorldLaws.{lie_apart, asks_at, gives_back_at, filed_alone}
use Rattle.job_world.specs.theory.Desks.{left_tells}
use Rattle.job_world.specs.theory.Worlds.{world_more, within}
use Rattle.job_world.specs.Schedules.{FilesAll, IsSchedule, IsWholeSchedule}
use Rattle.job_world.specs.theory.Asked.{Asks, Takes, Waits, next_asks, left_asks}
use Rattle.job_world.specs.theory.Finishing.{plan_of, Finished, finishes}

-- ---- lists

blanks : (n i : ℕ) → i < n → slice_get (replicate n blank) i ≡ Some blank
blanks zero i h = absurd (omega (arith, h))
blanks (suc n) zero h = refl
blanks (suc n) (suc i) h = blanks n i (omega (arith, h))

taken_get : {A : Type 0} (size i : ℕ) (xs : List A) → i < size → slice_get (take size xs) i ≡ slice_get xs i
taken_get zero i xs h = absurd (omega (arith, h))
taken_get (suc size) i [] h = refl
taken_get (suc size) zero (x ∷ xs) h = refl
taken_get (suc size) (suc i) (x ∷ xs) h = taken_get size i xs (omega (arith, h))

dropped_get : {A : Type 0} (first i : ℕ) (xs : List A) → slice_get (drop first xs) i ≡ slice_get xs (i + first)
dropped_get zero i xs = ap (slice_get xs) (let e : i ≡ i + 0 = omega arith in e)
dropped_get (suc first) i [] = sym (slice_get_past [] (i + suc first) (omega arith))
dropped_get (suc first) i (x ∷ xs) = dropped_get first i xs ∙ ap (slice_get (x ∷ xs)) (let e : suc (i + first) ≡ i + suc first = omega arith in e)

part_get : {A : Type 0} (first size index : ℕ) (xs : List A) → first ≤ index → index < first + size
    → slice_get (take size (drop first xs)) (index - first) ≡ slice_get xs index
part_get first size index xs h k =
    taken_get size (index - first) (drop first xs) (omega (arith, h, k))
    ∙ dropped_get first (index - first) xs
    ∙ ap (slice_get xs) (let e : (index - first) + first ≡ index = omega (arith, h) in e)

-- ---- events of the journal

cells_again : (cells : List Cell) (c : Core) → cells_of (machine_of cells c) ≡ cells
cells_again cells (Going rest) = refl
cells_again cells (Ended end calls peak low) = refl

inside : (first size i : ℕ) → first ≤ i → i < first + size → (nat_le first i && nat_lt i (first + size)) ≡ true
inside first size i a b = grind arith

outside : (first size i : ℕ) → (first ≤ i → i < first + size → ⊥) → (nat_le first i && nat_lt i (first + size)) ≡ false
outside first size i out = by_test (nat_le first i && nat_lt i (first + size)) refl
  where
    by_test : (b : Bool) → (nat_le first i && nat_lt i (first + size)) ≡ b → b ≡ false
    by_test false e = refl
    by_test true e = absurd (out (let q : first ≤ i = grind arith in q) (let q : i < first + size = grind arith in q))

-- an event that gives nothing back
same_known : (filed : FiledCells) (es : List Event) (e : Event) (index : ℕ) → ((known : Option Cell) → cell_after filed index known e ≡ known)
    → filed_cell filed (es ++ e ∷ []) index ≡ filed_cell filed es index
same_known filed es e index k = filed_more filed es e index ∙ k (filed_cell filed es index)

-- ---- one event more

-- behind these events of the world stand this journal and this state of the desk
pub record Scheduled (arena : ℕ) (ps : Planned) (filed : FiledCells) (journal : List Event) (s : DeskState) : Type 0 where
  pub events : List WorldEvent
  pub told : (world arena ps events).journal ≡ journal
  pub desk : (world arena ps events).desk ≡ s
  pub cells : (index : ℕ) → 1 ≤ times_in s.holes index → filed_cell filed journal index ≡ slice_get (world arena ps events).cells index

first_cell : (arena : ℕ) (ps : Planned) (filed : FiledCells) (index : ℕ) → 1 ≤ times_in (run 0 arena ∷ []) index
    → filed_cell filed [] index ≡ slice_get (world arena ps []).cells index
unfolding world
first_cell arena ps filed index h =
    let p = in_within (run 0 arena) index (omega (arith, h)) in
    filed_first filed index ∙ sym (blanks arena index (omega (arith, p.1)))

first_told : (arena : ℕ) (ps : Planned) → (world arena ps []).journal ≡ []
unfolding world
first_told arena ps = refl

first_desk : (arena : ℕ) (ps : Planned) → (world arena ps []).desk ≡ opened arena (length (leases_of ps.plans))
unfolding world
first_desk arena ps = refl

scheduled_first : (arena : ℕ) (ps : Planned) (filed : FiledCells) → Scheduled arena ps filed [] (opened arena (length (leases_of ps.plans)))
scheduled_first arena ps filed = record { events = []; told = first_told arena ps; desk = first_desk arena ps; cells = first_cell arena ps filed }

module _ (arena : ℕ) (ps : Planned) (can : CanHold arena ps) (filed : FiledCells) (all : FilesAll ps filed) (journal : List Event) (s : DeskState) (k : Scheduled arena ps filed journal s) where
  abbrev now : World
  now = world arena ps k.events

  apart : LieApart arena ps (world arena ps k.events)
  apart = lie_apart arena ps k.events can

  -- holes and leases share no cell
  shared : (index : ℕ) → times_in s.holes index + times_in (leased s.leases) index ≡ in_run (run 0 arena) index
  shared index = subst (λ (d : DeskState). times_in d.holes index + times_in (leased d.leases) index ≡ in_run (run 0 arena) index) k.desk (apart.parts index)

  -- ---- asking

  asked : (m : Move) → move_of ps (world arena ps k.events) ≡ Some m → Asks s m → Scheduled arena ps filed (journal ++ m.event ∷ []) m.state
  asked m is a = record {
    events = k.events ++ Next ∷ [];
    told = h.journal ∙ ap (λ l. l ++ m.event ∷ []) k.told;
    desk = h.desk;
    cells = λ index free. by_asks a index free;
  }
    where
      h : HasAsked ps (world arena ps k.events) (world arena ps (k.events ++ Next ∷ [])) m
      h = subst (λ v. HasAsked ps (world arena ps k.events) v m) (sym (world_more arena ps k.events Next)) (asks_at arena ps k.events m can is)

      by_asks : Asks s m → (index : ℕ) → 1 ≤ times_in m.state.holes index
          → filed_cell filed (journal ++ m.event ∷ []) index ≡ slice_get (world arena ps (k.events ++ Next ∷ [])).cells index
      by_asks (Takes job size t fits e holes) index free =
          let tk = taken_of s.holes size t fits in
          let there : times_in m.state.holes index ≡ times_in t.holes index = ap (λ hs. times_in hs index) holes in
          let before : 1 ≤ times_in s.holes index = omega (arith, free, there, tk.times index) in
          let off : in_run t.run index ≡ 0 = omega (arith, free, there, tk.times index, shared index, at_most_one (run 0 arena) index) in
          ap (λ x. filed_cell filed (journal ++ x ∷ []) index) e
          ∙ same_known filed journal (event.Took job t.run.first size) index (λ known. refl)
          ∙ k.cells index before
          ∙ sym (h.cells index (λ j first n q a b. not_there off t.run.first size refl (sym tk.sized) j first n (sym e ∙ q) a b))
        where
          not_there : in_run t.run index ≡ 0 → (from many : ℕ) → from ≡ t.run.first → many ≡ t.run.size → (j first n : ℕ) → event.Took job from many ≡ event.Took j first n
              → first ≤ index → index < first + n → ⊥
          not_there off from many f m j first n q a b =
              let f' : from ≡ first = cc in
              let m' : many ≡ n = cc in
              omega (arith, off, in_yes t.run index (omega (arith, f, f', a)) (omega (arith, f, f', m, m', b)))
      by_asks (Waits job need most e holes) index free =
          ap (λ x. filed_cell filed (journal ++ x ∷ []) index) e
          ∙ same_known filed journal (event.Full job need most) index (λ known. refl)
          ∙ k.cells index (subst (λ hs. 1 ≤ times_in hs index) holes free)
          ∙ sym (h.cells index (λ j first n q a b. let z : event.Full job need most ≡ event.Took j first n = sym e ∙ q in absurd cc))

  -- ---- giving back

  given : (job : ℕ) (r : Run) → slice_get s.leases job ≡ Some (Some r) → Scheduled arena ps filed (journal ++ event.Gave job r.first r.size ∷ []) (gave s job r)
  given job r out = record {
    events = f.more ++ Give job ∷ [];
    told = g.journal ∙ ap (λ l. l ++ event.Gave job r.first r.size ∷ []) (f.journal ∙ k.told);
    desk = desk_is;
    cells = λ index free. by_place index (nat_le r.first index && nat_lt index (r.first + r.size)) refl free;
  }
    where
      lease : slice_get (world arena ps k.events).desk.leases job ≡ Some (Some r)
      lease = ap (λ (d : DeskState). slice_get d.leases job) k.desk ∙ out

      f : Finished arena ps k.events job
      f = finishes arena ps k.events job r can lease

      lease_then : slice_get (world arena ps f.more).desk.leases job ≡ Some (Some r)
      lease_then = ap (λ (d : DeskState). slice_get d.leases job) f.desk ∙ lease

      g : HasGivenBack (world arena ps f.more) (world arena ps (f.more ++ Give job ∷ [])) job r f.worker
      g = subst (λ v. HasGivenBack (world arena ps f.more) v job r f.worker) (sym (world_more arena ps f.more (Give job)))
          (gives_back_at arena ps f.more job r f.worker f.end f.calls f.peak f.low can lease_then f.is f.over)

      desk_is : (world arena ps (f.more ++ Give job ∷ [])).desk ≡ gave s job r
      desk_is =
          let moves : give_move s job ≡ Some (move (event.Gave job r.first r.size) (gave s job r)) = ap (give_lease s job) out in
          let now_moves : give_move s job ≡ Some (move (event.Gave job r.first r.size) (world arena ps (f.more ++ Give job ∷ [])).desk) = sym (ap (λ (d : DeskState). give_move d job) (f.desk ∙ k.desk)) ∙ g.desk in
          ap (λ (m : Move). m.state) (some_same (move (event.Gave job r.first r.size) (world arena ps (f.more ++ Give job ∷ [])).desk) (move (event.Gave job r.first r.size) (gave s job r)) (sym now_moves ∙ moves))

      ends : EndsAlone ps job g.final
      ends = filed_alone arena ps (f.more ++ Give job ∷ []) job g.final can g.is

      left_cells : job_cells ps job ≡ take r.size (drop r.first (world arena ps f.more).cells)
      left_cells = sym ends.cells ∙ sym (ap cells_of g.over) ∙ cells_again (take r.size (drop r.first (world arena ps f.more).cells)) f.worker.core

      files : filed job ≡ Some (take r.size (drop r.first (world arena ps f.more).cells))
      files =
          let p = plan_of arena ps job ends.start can ends.begins in
          all job (within ps.plans job p.plan p.is) ∙ ap (λ c. Some c) left_cells

      by_place : (index : ℕ) (b : Bool) → (nat_le r.first index && nat_lt index (r.first + r.size)) ≡ b → 1 ≤ times_in (give_run s.holes r) index
          → filed_cell filed (journal ++ event.Gave job r.first r.size ∷ []) index ≡ slice_get (world arena ps (f.more ++ Give job ∷ [])).cells index
      by_place index true e free =
          let low : r.first ≤ index = grind arith in
          let high : index < r.first + r.size = grind arith in
          filed_more filed journal (event.Gave job r.first r.size) index
          ∙ ap (λ (b : Bool). if b then cell_of (filed job) (index - r.first) else filed_cell filed journal index) e
          ∙ ap (λ (o : Option (List Cell)). cell_of o (index - r.first)) files
          ∙ part_get r.first r.size index (world arena ps f.more).cells low high
          ∙ sym (ap (λ cs. slice_get cs index) g.cells)
      by_place index false e free =
          let off : in_run r index ≡ 0 = off_run (in_run r index) refl in
          let before : 1 ≤ times_in s.holes index = omega (arith, free, give_times s.holes r index, off) in
          filed_more filed journal (event.Gave job r.first r.size) index
          ∙ ap (λ (b : Bool). if b then cell_of (filed job) (index - r.first) else filed_cell filed journal index) e
          ∙ k.cells index before
          ∙ sym (f.cells index not_own)
          ∙ sym (ap (λ cs. slice_get cs index) g.cells)
        where
          off_run : (n : ℕ) → in_run r index ≡ n → n ≡ 0
          off_run zero i = refl
          off_run (suc n) i =
              let p = in_within r index (omega (arith, i)) in
              let yes = inside r.first r.size index p.0 p.1 in
              let z : true ≡ false = sym yes ∙ e in absurd cc

          not_own : IsOutside (world arena ps k.events) job index
          not_own q is low high =
              let same : q ≡ r = some_same q r (some_same (Some q) (Some r) (sym is ∙ lease)) in
              let low' : r.first ≤ index = subst (λ (x : Run). x.first ≤ index) same low in
              let high' : index < r.first + r.size = subst (λ (x : Run). index < x.first + x.size) same high in
              let z : true ≡ false = sym (inside r.first r.size index low' high') ∙ e in absurd cc

  -- ---- each event

  none_next : s.asked ≡ length (leases_of ps.plans) → next_move (leases_of ps.plans) s ≡ None
  none_next e = ap (option_map (λ size. asked_for s s.asked size (take_run s.holes size))) (slice_get_past (leases_of ps.plans) s.asked (omega (arith, e)))

  on_desk : (o : Option Move) → either_move (next_move (leases_of ps.plans) s) (left_move (leases_of ps.plans) s) ≡ o → move_of ps (world arena ps k.events) ≡ o
  on_desk o e = ap (λ (d : DeskState). either_move (next_move (leases_of ps.plans) d) (left_move (leases_of ps.plans) d)) k.desk ∙ e

  pub one_event : (e : Event) (t : DeskState) → Moves (leases_of ps.plans) s (move e t) → Scheduled arena ps filed (journal ++ e ∷ []) t
  one_event e t (next is) =
      asked (move e t) (on_desk (Some (move e t)) (ap (λ o. either_move o (left_move (leases_of ps.plans) s)) is)) (next_asks (leases_of ps.plans) s (move e t) is)
  one_event e t (left is) =
      let l = left_tells (leases_of ps.plans) s (move e t) is in
      asked (move e t) (on_desk (Some (move e t)) (ap (λ o. either_move o (left_move (leases_of ps.plans) s)) (none_next l.all) ∙ is)) (left_asks (leases_of ps.plans) s (move e t) is)
  one_event e t (back job is) = by_lease (slice_get s.leases job) refl is
    where
      by_lease : (o : Option (Option Run)) → slice_get s.leases job ≡ o → give_lease s job o ≡ Some (move e t) → Scheduled arena ps filed (journal ++ e ∷ []) t
      by_lease None g h = absurd cc
      by_lease (Some None) g h = absurd cc
      by_lease (Some (Some r)) g h =
          let same : move (event.Gave job r.first r.size) (gave s job r) ≡ move e t = some_same (move (event.Gave job r.first r.size) (gave s job r)) (move e t) h in
          subst (λ (m : Move). Scheduled arena ps filed (journal ++ m.event ∷ []) m.state) same (given job r g)

-- ---- all events

scheduled_on : (arena : ℕ) (ps : Planned) → CanHold arena ps → (filed : FiledCells) → FilesAll ps filed → (done es : List Event) (s t : DeskState)
    → Scheduled arena ps filed done s → after_events (leases_of ps.plans) (Some s) es ≡ Some t → Scheduled arena ps filed (done ++ es) t
scheduled_on arena ps can filed all done [] s t k e =
    subst (λ l. Scheduled arena ps filed l t) (sym (append-nil done)) (subst (Scheduled arena ps filed done) (some_same s t e) k)
scheduled_on arena ps can filed all done (x ∷ es) s t k e = by_one (after_event (leases_of ps.plans) s x) refl (λ v q l. scheduled_on arena ps can filed all (done ++ x ∷ []) es v t q l) e
  where
    by_one : (o : Option DeskState) → after_event (leases_of ps.plans) s x ≡ o
        → ((v : DeskState) → Scheduled arena ps filed (done ++ x ∷ []) v → after_events (leases_of ps.plans) (Some v) es ≡ Some t → Scheduled arena ps filed ((done ++ x ∷ []) ++ es) t)
        → after_events (leases_of ps.plans) o es ≡ Some t → Scheduled arena ps filed (done ++ x ∷ es) t
    by_one None is go e = absurd (let q : None ≡ Some t = sym (none_after (leases_of ps.plans) es) ∙ e in cc)
    by_one (Some v) is go e =
        subst (λ l. Scheduled arena ps filed l t) (append_assoc done (x ∷ []) es)
        (go v (one_event arena ps can filed all done s k x v (moved (leases_of ps.plans) s x v is)) e)

behind_all : (arena : ℕ) (ps : Planned) → CanHold arena ps → (filed : FiledCells) → FilesAll ps filed → (journal : List Event) (s : DeskState)
    → replay arena (leases_of ps.plans) journal ≡ Some s → Scheduled arena ps filed journal s
unfolding replay
behind_all arena ps can filed all journal s e = scheduled_on arena ps can filed all [] journal (opened arena (length (leases_of ps.plans))) s (scheduled_first arena ps filed) e

pub schedule : (arena : ℕ) (ps : Planned) (filed : FiledCells) (journal : List Event) (s : DeskState) → CanHold arena ps → FilesAll ps filed
    → replay arena (leases_of ps.plans) journal ≡ Some s → IsSchedule arena ps filed journal
schedule arena ps filed journal s can all e =
    let k = behind_all arena ps can filed all journal s e in
    record { events = k.events; told = k.told; cells = λ index free. k.cells index (subst (λ (d : DeskState). 1 ≤ times_in d.holes index) k.desk free) }

pub whole_schedule : (arena : ℕ) (ps : Planned) (filed : FiledCells) (journal : List Event) → CanHold arena ps → FilesAll ps filed
    → IsLegal arena (leases_of ps.plans) journal → IsWholeSchedule arena ps filed journal
whole_schedule arena ps filed journal can all legal =
    let k = behind_all arena ps can filed all journal legal.last legal.replayed in
    record {
      events = k.events;
      told = k.told;
      many = (lie_apart arena ps k.events can).size;
      cells = λ index less. k.cells index (free k index less);
    }
  where
    free : Scheduled arena ps filed journal legal.last → (index : ℕ) → index < arena → 1 ≤ times_in legal.last.holes index
    free k index less =
        omega (arith, shared arena ps can filed all journal legal.last k index, in_yes (run 0 arena) index (omega arith) (omega (arith, less)), ap (λ rs. times_in rs index) legal.over.none_out)

-- ---- what a range that holds what was filed is

same_items : {A : Type 0} (xs ys : List A) → length xs ≡ length ys → ((i : ℕ) → i < length xs → slice_get xs i ≡ slice_get ys i) → xs ≡ ys
same_items [] [] n k = refl
same_items [] (y ∷ ys) n k = absurd (omega (arith, n))
same_items (x ∷ xs) [] n k = absurd (omega (arith, n))
same_items (x ∷ xs) (y ∷ ys) n k =
    let a : x ≡ y = some_same x y (k 0 (omega arith)) in
    let b : xs ≡ ys = same_items xs ys (omega (arith, n)) (λ i h. k (suc i) (omega (arith, h))) in
    λ i. a i ∷ b i

-- a whole range of that many cells that holds what was filed has the world's cells
pub world_cells : (arena : ℕ) (ps : Planned) (filed : FiledCells) (journal : List Event) (h : Range) (k : IsWholeSchedule arena ps filed journal)
    → IsWhole h → h.arena.cells ≡ arena → HoldsFiled filed journal h → h.cells ≡ (world arena ps k.events).cells
world_cells arena ps filed journal h k whole size held =
    same_items h.cells (world arena ps k.events).cells (whole.all ∙ size ∙ sym k.many) each
  where
    many : length h.cells ≡ arena
    many = whole.all ∙ size

    at_place : (i : ℕ) → i < arena → (o : Option Cell) → slice_get h.cells i ≡ o → (v : Option Cell) → slice_get (world arena ps k.events).cells i ≡ v
        → i < length h.cells → o ≡ v
    at_place i less None e v f in_h = let z = slice_some h.cells i in_h in let y : None ≡ Some z.0 = sym e ∙ z.1 in absurd cc
      where
        slice_some : {A : Type 0} (xs : List A) (i : ℕ) → i < length xs → (x : A) × (slice_get xs i ≡ Some x)
        slice_some [] i h = absurd (omega (arith, h))
        slice_some (x ∷ xs) zero h = (x, refl)
        slice_some (x ∷ xs) (suc i) h = slice_some xs i (omega (arith, h))
    at_place i less (Some c) e None f in_h = let y : length (world arena ps k.events).cells ≤ i = none_past (world arena ps k.events).cells i f in absurd (omega (arith, y, k.many, less))
      where
        none_past : {A : Type 0} (xs : List A) (i : ℕ) → slice_get xs i ≡ None → length xs ≤ i
        none_past [] i h = omega arith
        none_past (x ∷ xs) zero h = absurd cc
        none_past (x ∷ xs) (suc i) h = omega (arith, none_past xs i h)
    at_place i less (Some c) e (Some d) f in_h =
        let index : h.first + i ≡ i = omega (arith, whole.from) in
        let known : IsKnownAs (filed_cell filed journal i) c = subst (λ n. IsKnownAs (filed_cell filed journal n) c) index (held i c e) in
        let same : c ≡ d = subst (λ (o : Option Cell). IsKnownAs o c) (k.cells i less ∙ f) known in
        ap (λ x. Some x) same

    each : (i : ℕ) → i < length h.cells → slice_get h.cells i ≡ slice_get (world arena ps k.events).cells i
    each i less = at_place i (omega (arith, less, many)) (slice_get h.cells i) refl (slice_get (world arena ps k.events).cells i) refl less

-- and the world's cells hold what was filed
pub holds_filed : (arena : ℕ) (ps : Planned) (filed : FiledCells) (journal : List Event) (h : Range) (k : IsWholeSchedule arena ps filed journal)
    → h.first ≡ 0 → h.cells ≡ (world arena ps k.events).cells → HoldsFiled filed journal h
holds_filed arena ps filed journal h k from same at cell e =
    let less : at < arena = omega (arith, slice_get_within h.cells at cell e, ap (λ (cs : List Cell). length cs) same, k.many) in
    let there : filed_cell filed journal at ≡ Some cell = k.cells at less ∙ sym (ap (λ cs. slice_get cs at) same) ∙ e in
    let index : at ≡ h.first + at = omega (arith, from) in
    subst (λ n. IsKnownAs (filed_cell filed journal n) cell) index (subst (λ (o : Option Cell). IsKnownAs o cell) (sym there) refl)
