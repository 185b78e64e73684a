use Rattle.std.proofs.Common.{ap, ◌∙◌, sym, refl, Some}
use Rattle.std.specs.Prelude.{slice_get}
use Rattle.hole_list.specs.Holes.{taken_cells}
use Rattle.hole_list.specs.HolesLaws.{taken_runs}
use Rattle.lease_desk.specs.Lease.{lease}
use Rattle.lease_desk.proofs.Steps.{left_now, always_sized, some_cells, always_fits, left_keeps, left_answers, left_named, of_name}
use Rattle.lease_desk.proofs.desk.Desk.next_left.Goals as goal

pub unreachable-requires : goal.unreachable-requires
unreachable-requires g c = always_sized _ _ _ _ _ _ c.self.invariant.0 _ c.self.view_is c.requires.asked c.requires.none_out c.in-Some.job c.first_waiting.result c.first_waiting.ensures c.in-Some.is c.size.result c.size.ensures c.in_default-size.is

pub take-requires-clause-some : goal.take-requires-clause-some
take-requires-clause-some g c = some_cells _ _ _ _ _ _ c.self.invariant.0 _ c.self.view_is c.requires.asked c.requires.none_out c.in-Some.job c.first_waiting.result c.first_waiting.ensures c.in-Some.is c.size.result c.in-Some-size.size c.size.ensures c.in-Some-size.is

pub take-requires-in-Some-take-clause-free : goal.take-requires-in-Some-take-clause-free
take-requires-in-Some-take-clause-free g c = (left_now _ _ _ _ _ _ c.self.invariant.0 _ c.self.view_is c.requires.asked c.requires.none_out c.in-Some.job c.first_waiting.result c.first_waiting.ensures c.in-Some.is).3

pub take-requires-in-Some-take-clause-room : goal.take-requires-in-Some-take-clause-room
take-requires-in-Some-take-clause-room g c = (left_now _ _ _ _ _ _ c.self.invariant.0 _ c.self.view_is c.requires.asked c.requires.none_out c.in-Some.job c.first_waiting.result c.first_waiting.ensures c.in-Some.is).4

pub invariant_of-self : goal.invariant_of-self
invariant_of-self g c =
    let q = c.in-Some-take.ensures in (
      left_keeps _ _ _ _ _ _ c.self.invariant.0 _ c.self.view_is c.requires.asked c.requires.none_out c.in-Some.job c.first_waiting.result c.first_waiting.ensures c.in-Some.is c.size.result c.in-Some-size.size c.size.ensures c.in-Some-size.is
          c.take.new.self c.take-in-Some-take.new.self c.serve.new.self c.first.result c.len.result c.in-Some-take.span q c.take-in-Some-take.ensures c.first.ensures.index c.len.ensures.count c.serve.ensures,
      left_named c.self.inside.holes c.self.inside.book c.self.invariant.1 c.take.new.self c.in-Some-size.size c.in-Some-take.span c.take-in-Some-take.new.self c.serve.new.self c.in-Some.job c.first.result c.len.result q c.take-in-Some-take.ensures c.serve.ensures,
    )

pub unreachable-requires-in-None : goal.unreachable-requires-in-None
unreachable-requires-in-None g c =
    let q = c.in-None.ensures in
    always_fits _ _ _ _ _ _ c.self.invariant.0 _ c.self.view_is c.requires.asked c.requires.none_out c.in-Some.job c.first_waiting.result c.first_waiting.ensures c.in-Some.is c.size.result c.in-Some-size.size c.size.ensures c.in-Some-size.is q.0

pub returns : goal.returns
returns g c =
    let q = c.in-Some-take.ensures in
    left_answers _ _ _ _ _ _ c.self.invariant.0 _ c.self.view_is c.requires.asked c.requires.none_out c.in-Some.job c.first_waiting.result c.first_waiting.ensures c.in-Some.is c.size.result c.in-Some-size.size c.size.ensures c.in-Some-size.is
    c.take.new.self c.take-in-Some-take.new.self c.serve.new.self c.first.result c.len.result c.in-Some-take.span c.new.result q c.take-in-Some-take.ensures c.first.ensures.index c.len.ensures.count c.serve.ensures c.new.ensures

pub new-requires-clause-arena : goal.new-requires-clause-arena
new-requires-clause-arena g c =
    let q = c.in-Some-take.ensures in
    let t = left_answers _ _ _ _ _ _ c.self.invariant.0 _ c.self.view_is c.requires.asked c.requires.none_out c.in-Some.job c.first_waiting.result c.first_waiting.ensures c.in-Some.is c.size.result c.in-Some-size.size c.size.ensures c.in-Some-size.is
    c.take.new.self c.take-in-Some-take.new.self c.serve.new.self c.first.result c.len.result c.in-Some-take.span (lease c.in-Some.job c.in-Some-take.span) q c.take-in-Some-take.ensures c.first.ensures.index c.len.ensures.count c.serve.ensures refl in
    of_name c.self.inside.holes c.self.inside.book c.self.invariant.1 _ _ _ c.self.view_is (lease c.in-Some.job c.in-Some-take.span) t.arena

pub new-requires-clause-size : goal.new-requires-clause-size
new-requires-clause-size g c =
    let q = c.in-Some-take.ensures in
    sym (ap (λ xs. slice_get xs c.in-Some.job) c.self.invariant.1.of_sizes) ∙ sym c.size.ensures ∙ c.in-Some-size.is
    ∙ sym (ap Some (taken_runs c.self.inside.holes.holes c.in-Some-size.size (taken_cells c.in-Some-take.span c.take.new.self.holes) q.0).1)
