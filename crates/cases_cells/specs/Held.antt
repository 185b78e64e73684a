-- Private: words for functions of this crate.
-- The leases of a desk that are out, each in the place of its job.
use Rattle.std.specs.Prelude.{◌≡◌, ℕ, List, [], ◌++◌, map, slice_get, Option, Some, None}
use Rattle.hole_list.specs.declared.run.Run.{Run}
use Rattle.hole_list.specs.Holes.{run_of}
use Rattle.lease_desk.specs.Journal.{leased}
use Rattle.lease_desk.specs.Lease.{LeaseView}
use Rattle.lease_desk.specs.Desk.{DeskView}

-- where the lease in a place lies
abbrev pub run_in : Option LeaseView → Option Run
run_in None = None
run_in (Some l) = Some (run_of l.range)

-- each lease is in the place of its job
abbrev pub AreOwn : List (Option LeaseView) → Type 0
AreOwn held = (at : ℕ) (l : LeaseView) → slice_get held at ≡ Some (Some l) → l.job ≡ at

module _ {P : Type 0} where
  -- these are the desk's leases that are out
  pub record AllHeld (held : List (Option LeaseView)) (d : DeskView P) : Type 0 where
    pub leases : map run_in held ≡ d.state.leases
    pub own : AreOwn held

  -- these are the desk's leases that are out, but for places behind them in which none is
  pub record FrontHeld (held : List (Option LeaseView)) (d : DeskView P) : Type 0 where
    pub behind : List (Option Run)
    pub leases : map run_in held ++ behind ≡ d.state.leases
    pub none : leased behind ≡ []
    pub own : AreOwn held
