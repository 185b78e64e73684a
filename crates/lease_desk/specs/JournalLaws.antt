-- Laws, for the functions of laws.rt and for crates above.
-- What holds behind each journal, and of legal ones.
use Rattle.std.proofs.Common.{◌≡◌, ℕ, ◌<◌, ◌≤◌, nat_lt, List, ◌++◌, length, Some, ap, arith}
use Rattle.hole_list.specs.Placing.{run, AreParts}
use Rattle.lease_desk.specs.declared.event.Event.{Event}
use Rattle.lease_desk.specs.Journal.{DeskState, opened, leased, replay, AreSizes, IsLegal}
use Rattle.lease_desk.specs.Progress.{one_if, times_at, took_times, gave_times, IsSound}
use Rattle.lease_desk.specs.Within.{AreEventsWithin}
use Rattle.lease_desk.specs.theory.Leases.{none_out_at}
use Rattle.lease_desk.specs.theory.Moves.{front_replayed}
use Rattle.lease_desk.specs.theory.Sound.{sound_behind, took_once, gave_once, asked_one}
use Rattle.lease_desk.specs.theory.Within.{replay_within}

pub behind_each : (arena : ℕ) (sizes : List ℕ) (journal : List Event) (s : DeskState) → 1 ≤ arena → AreSizes arena sizes
    → replay arena sizes journal ≡ Some s → IsSound arena sizes journal s
behind_each arena sizes journal s some fit e = sound_behind arena sizes journal s some fit e

pub parts_behind : (arena : ℕ) (sizes : List ℕ) (journal : List Event) (s : DeskState) → 1 ≤ arena → AreSizes arena sizes
    → replay arena sizes journal ≡ Some s → AreParts (run 0 arena) s.holes (leased s.leases)
parts_behind arena sizes journal s some fit e = (sound_behind arena sizes journal s some fit e).cells

pub took_behind : (arena : ℕ) (sizes : List ℕ) (journal : List Event) (s : DeskState) (job : ℕ) → 1 ≤ arena → AreSizes arena sizes
    → replay arena sizes journal ≡ Some s → took_times job journal ≤ 1
took_behind arena sizes journal s job some fit e = took_once arena sizes journal s job (sound_behind arena sizes journal s some fit e)

pub gave_behind : (arena : ℕ) (sizes : List ℕ) (journal : List Event) (s : DeskState) (job : ℕ) → 1 ≤ arena → AreSizes arena sizes
    → replay arena sizes journal ≡ Some s → gave_times job journal ≤ 1
gave_behind arena sizes journal s job some fit e = gave_once arena sizes journal s job (sound_behind arena sizes journal s some fit e)

pub fronts_replayed : (arena : ℕ) (sizes : List ℕ) (front later : List Event) (s : DeskState) → replay arena sizes (front ++ later) ≡ Some s
    → (t : DeskState) × (replay arena sizes front ≡ Some t)
unfolding replay
fronts_replayed arena sizes front later s e = front_replayed sizes (opened arena (length sizes)) s front later e

pub legal_fronts : (arena : ℕ) (sizes : List ℕ) (front later : List Event) → IsLegal arena sizes (front ++ later)
    → (t : DeskState) × (replay arena sizes front ≡ Some t)
legal_fronts arena sizes front later k = fronts_replayed arena sizes front later k.last k.replayed

-- in a legal journal each job was taken once and given back once
pub legal_each : (arena : ℕ) (sizes : List ℕ) (journal : List Event) (job : ℕ) → 1 ≤ arena → IsLegal arena sizes journal → job < length sizes
    → (took_times job journal ≡ 1) × (gave_times job journal ≡ 1)
legal_each arena sizes journal job some k less =
    let s = sound_behind arena sizes journal k.last some k.fit k.replayed in
    let asked : one_if (nat_lt job k.last.asked) ≡ 1 = asked_one k.last.asked job (omega (arith, k.over.all, less)) in
    let waits : times_at job k.last.waiting ≡ 0 = ap (times_at job) k.over.none_waits in
    (omega (arith, s.took job, waits, asked), omega (arith, s.once job, waits, asked, none_out_at k.last.leases job k.over.none_out))

-- the numbers of a legal journal are those of its jobs and of the arena
pub legal_within : (arena : ℕ) (sizes : List ℕ) (journal : List Event) → 1 ≤ arena → IsLegal arena sizes journal
    → AreEventsWithin arena (length sizes) journal
legal_within arena sizes journal some k = replay_within arena sizes journal k.last some k.fit k.replayed
