use Rattle.std.proofs.Common.{ap, ◌∙◌, sym, refl, Some}
use Rattle.std.specs.Prelude.{slice_get}
use Rattle.hole_list.specs.Holes.{taken_cells}
use Rattle.hole_list.specs.HolesLaws.{taken_runs}
use Rattle.lease_desk.specs.Lease.{lease}
use Rattle.lease_desk.proofs.Steps.{over_now, next_now, next_keeps, next_answers, waits_keeps, waits_answers, next_named, waits_named, of_name}
use Rattle.lease_desk.proofs.desk.Desk.next.Goals as goal

pub returns-in_default : goal.returns-in_default
returns-in_default g c = over_now _ _ _ _ _ _ c.self.invariant.0 _ c.self.view_is c.asked-job.result c.size.result c.asked-job.ensures c.size.ensures c.in_default.is

pub take-requires-clause-some : goal.take-requires-clause-some
take-requires-clause-some g c = (next_now _ _ _ _ _ _ c.self.invariant.0 _ c.self.view_is c.asked-job.result c.size.result c.in-Some.size c.asked-job.ensures c.size.ensures c.in-Some.is).0

pub take-requires-clause-few : goal.take-requires-clause-few
take-requires-clause-few g c = (next_now _ _ _ _ _ _ c.self.invariant.0 _ c.self.view_is c.asked-job.result c.size.result c.in-Some.size c.asked-job.ensures c.size.ensures c.in-Some.is).1

pub take-requires-in-Some-take-clause-free : goal.take-requires-in-Some-take-clause-free
take-requires-in-Some-take-clause-free g c = (next_now _ _ _ _ _ _ c.self.invariant.0 _ c.self.view_is c.asked-job.result c.size.result c.in-Some.size c.asked-job.ensures c.size.ensures c.in-Some.is).2

pub take-requires-in-Some-take-clause-room : goal.take-requires-in-Some-take-clause-room
take-requires-in-Some-take-clause-room g c = (next_now _ _ _ _ _ _ c.self.invariant.0 _ c.self.view_is c.asked-job.result c.size.result c.in-Some.size c.asked-job.ensures c.size.ensures c.in-Some.is).3

pub ask-requires : goal.ask-requires
ask-requires g c = rw c.take-in-Some-take.ensures (next_now _ _ _ _ _ _ c.self.invariant.0 _ c.self.view_is c.asked-job.result c.size.result c.in-Some.size c.asked-job.ensures c.size.ensures c.in-Some.is).4

pub invariant_of-self : goal.invariant_of-self
invariant_of-self g c =
    let q = c.in-Some-take.ensures in (
      next_keeps _ _ _ _ _ _ c.self.invariant.0 _ c.self.view_is c.asked-job.result c.size.result c.in-Some.size c.asked-job.ensures c.size.ensures c.in-Some.is
          c.take.new.self c.take-in-Some-take.new.self c.ask.new.self c.first.result c.len.result c.in-Some-take.span q c.take-in-Some-take.ensures c.first.ensures.index c.len.ensures.count c.ask.ensures,
      next_named c.self.inside.holes c.self.inside.book c.self.invariant.1 c.take.new.self c.in-Some.size c.in-Some-take.span c.take-in-Some-take.new.self c.ask.new.self c.asked-job.result c.first.result c.len.result q c.take-in-Some-take.ensures c.ask.ensures,
    )

pub wait-requires-clause-more : goal.wait-requires-clause-more
wait-requires-clause-more g c = (next_now _ _ _ _ _ _ c.self.invariant.0 _ c.self.view_is c.asked-job.result c.size.result c.in-Some.size c.asked-job.ensures c.size.ensures c.in-Some.is).4

pub wait-requires-clause-room : goal.wait-requires-clause-room
wait-requires-clause-room g c = (next_now _ _ _ _ _ _ c.self.invariant.0 _ c.self.view_is c.asked-job.result c.size.result c.in-Some.size c.asked-job.ensures c.size.ensures c.in-Some.is).3

pub invariant_of-self-in-None : goal.invariant_of-self-in-None
invariant_of-self-in-None g c =
    let q = c.in-None.ensures in (
      waits_keeps _ _ _ _ _ _ c.self.invariant.0 _ c.self.view_is c.asked-job.result c.size.result c.in-Some.size c.asked-job.ensures c.size.ensures c.in-Some.is
          c.take.new.self c.wait.new.self c.largest-largest.result q.0 q.1 c.largest-largest.ensures c.wait.ensures,
      waits_named c.self.inside.holes c.self.inside.book c.self.invariant.1 c.take.new.self c.wait.new.self c.in-Some.size c.largest-largest.result q.1 c.wait.ensures,
    )

pub returns-in-Some-take : goal.returns-in-Some-take
returns-in-Some-take g c =
    let q = c.in-Some-take.ensures in
    next_answers _ _ _ _ _ _ c.self.invariant.0 _ c.self.view_is c.asked-job.result c.size.result c.in-Some.size c.asked-job.ensures c.size.ensures c.in-Some.is
    c.take.new.self c.take-in-Some-take.new.self c.ask.new.self c.first.result c.len.result c.in-Some-take.span c.new.result q c.take-in-Some-take.ensures c.first.ensures.index c.len.ensures.count c.ask.ensures c.new.ensures

pub returns-in-None : goal.returns-in-None
returns-in-None g c =
    let q = c.in-None.ensures in
    waits_answers _ _ _ _ _ _ c.self.invariant.0 _ c.self.view_is c.asked-job.result c.size.result c.in-Some.size c.asked-job.ensures c.size.ensures c.in-Some.is
    c.take.new.self c.wait.new.self c.largest-largest.result q.0 q.1 c.largest-largest.ensures c.wait.ensures

pub new-requires-clause-arena : goal.new-requires-clause-arena
new-requires-clause-arena g c =
    let q = c.in-Some-take.ensures in
    let t = next_answers _ _ _ _ _ _ c.self.invariant.0 _ c.self.view_is c.asked-job.result c.size.result c.in-Some.size c.asked-job.ensures c.size.ensures c.in-Some.is
    c.take.new.self c.take-in-Some-take.new.self c.ask.new.self c.first.result c.len.result c.in-Some-take.span (lease c.asked-job.result c.in-Some-take.span) q c.take-in-Some-take.ensures c.first.ensures.index c.len.ensures.count c.ask.ensures refl in
    of_name c.self.inside.holes c.self.inside.book c.self.invariant.1 _ _ _ c.self.view_is (lease c.asked-job.result c.in-Some-take.span) t.arena

pub new-requires-clause-size : goal.new-requires-clause-size
new-requires-clause-size g c =
    let q = c.in-Some-take.ensures in
    sym (ap (λ xs. slice_get xs c.asked-job.result) c.self.invariant.1.of_sizes) ∙ sym c.size.ensures ∙ c.in-Some.is
    ∙ sym (ap Some (taken_runs c.self.inside.holes.holes c.in-Some.size (taken_cells c.in-Some-take.span c.take.new.self.holes) q.0).1)
