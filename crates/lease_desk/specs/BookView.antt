-- Private: words for functions of this crate.
-- The book of a desk as its callers see it.
use Rattle.std.specs.Prelude.{ℕ, suc, List, [], ◌∷◌, ◌++◌, length, replicate, drop, slice_set, Option, None}
use Rattle.hole_list.specs.declared.run.Run.{Run}
use Rattle.lease_desk.specs.declared.event.Event.{Event}

-- the size of each job, how many were asked, those that wait, the lease of each job, and the journal
pub record BookView : Type 0 where
  pub sizes : List ℕ
  pub asked : ℕ
  pub waiting : List ℕ
  pub leases : List (Option Run)
  pub journal : List Event

abbrev pub new_book : List ℕ → BookView
new_book sizes = record { sizes = sizes; asked = 0; waiting = []; leases = replicate (length sizes) None; journal = [] }

-- with this event, and this in the job's place
abbrev pub with_lease : BookView → (job : ℕ) → Option Run → Event → BookView
with_lease b job o e = record { sizes = b.sizes; asked = b.asked; waiting = b.waiting; leases = slice_set b.leases job o; journal = b.journal ++ e ∷ [] }

abbrev pub with_asked : BookView → BookView
with_asked b = record { sizes = b.sizes; asked = suc b.asked; waiting = b.waiting; leases = b.leases; journal = b.journal }

-- the job that is asked for waits
abbrev pub with_waiting : BookView → Event → BookView
with_waiting b e = record { sizes = b.sizes; asked = suc b.asked; waiting = b.waiting ++ b.asked ∷ []; leases = b.leases; journal = b.journal ++ e ∷ [] }

-- without the one that waits first
abbrev pub with_served : BookView → BookView
with_served b = record { sizes = b.sizes; asked = b.asked; waiting = drop 1 b.waiting; leases = b.leases; journal = b.journal }
