use Rattle.std.proofs.Common.{rules, ◌≡◌, Some, length, refl, sym, ap, ◌∙◌, subst, true, arith}
use Rattle.std.specs.Prelude.{slice_get}
use Rattle.std.proofs.lemmas.List.{length-set}
use Rattle.std.proofs.lemmas.Option.{slice_get_within}
use Rattle.hole_list.specs.Placing.{run, take_run, taken}
use Rattle.lease_desk.specs.Journal.{is_none_out}
use Rattle.journal_replay.specs.Within.{AreLeasesWithin}
use Rattle.journal_replay.proofs.Limits.{set_within, take_within}
use Rattle.journal_replay.proofs.Moving.{left_took}
use Rattle.journal_replay.proofs.state.State.left.Goals as goal

pub invariant_of-state : goal.invariant_of-state
invariant_of-state c =
    let self = c.args.self in
    let first : slice_get self.waiting.items self.served ≡ Some c.in-Some.job = ap (λ l. slice_get l self.served) (sym c.deref-2.ensures.value) ∙ sym c.number_at.ensures ∙ c.in-Some.is in
    let less = slice_get_within self.waiting.items self.served c.in-Some.job first in
    let fits : take_run self.holes.items c.in-Some-number_at.size ≡ Some (taken (run c.in-Some-found.first c.in-Some-number_at.size) c.in_ok-holes.holes.items) = search rules in
    let within = take_within self.holes.items c.in-Some-number_at.size (taken (run c.in-Some-found.first c.in-Some-number_at.size) c.in_ok-holes.holes.items) fits self.holes_within in
    record {
      few_served = omega (arith, less);
      holes_within = within.1;
      few_leases = omega (arith, ap length c.set_lease.ensures, length-set self.leases.items c.in-Some.job (Some (run c.in-Some-found.first c.in-Some-number_at.size)), self.few_leases);
      leases_within = subst AreLeasesWithin (sym c.set_lease.ensures) (set_within self.leases.items c.in-Some.job (Some (run c.in-Some-found.first c.in-Some-number_at.size)) self.leases_within within.0);
    }

pub returns : goal.returns
returns c =
    let self = c.args.self in
    let first : slice_get self.waiting.items self.served ≡ Some c.in-Some.job = ap (λ l. slice_get l self.served) (sym c.deref-2.ensures.value) ∙ sym c.number_at.ensures ∙ c.in-Some.is in
    let fits : take_run self.holes.items c.in-Some-number_at.size ≡ Some (taken (run c.in-Some-found.first c.in-Some-number_at.size) c.in_ok-holes.holes.items) = search rules in
    let all : self.asked ≡ length c.args.sizes.now = search rules in
    let none : is_none_out self.leases.items ≡ true = search rules in
    let is : slice_get c.args.sizes.now c.in-Some.job ≡ Some c.in-Some-number_at.size = search rules in
    left_took c.args.sizes.now self.asked c.in-Some.job c.in-Some-number_at.size c.in-Some-found.first self.served _ self.waiting.items self.holes.items _ self.leases.items _ all none first is refl fits c.set_lease.ensures
