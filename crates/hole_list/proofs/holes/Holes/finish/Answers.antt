use Rattle.std.proofs.Common.{sym, ap, ◌∙◌}
use Rattle.hole_list.specs.Holes.{Holed}
use Rattle.hole_list.specs.Inside.{holed_of}
use Rattle.hole_list.specs.KeptLaws.{base_left}
use Rattle.hole_list.proofs.Holding.{none_before}
use Rattle.hole_list.proofs.holes.Holes.finish.Goals as goal

-- it is the only one
pub destroy_empty-requires : goal.destroy_empty-requires
destroy_empty-requires c = none_before c.in-Some.span c.self.inside.spans.items c.pop.new.self.items c.in-Some.ensures.items (base_left (holed_of c.self.inside) c.in-Some.span c.pop.new.self.items c.self.invariant.holes (ap (λ (s : Holed). s.out) c.self.view_is ∙ c.requires) c.in-Some.ensures.items).1 _ c.pop.new.self.ok.0

pub returns-clause-base : goal.returns-clause-base
returns-clause-base c = (base_left (holed_of c.self.inside) c.in-Some.span c.pop.new.self.items c.self.invariant.holes (ap (λ (s : Holed). s.out) c.self.view_is ∙ c.requires) c.in-Some.ensures.items).0 ∙ ap (λ (s : Holed). s.base) c.self.view_is

pub returns-clause-holes : goal.returns-clause-holes
returns-clause-holes c = ap (λ (s : Holed). s.holes) (sym c.self.view_is) ∙ (base_left (holed_of c.self.inside) c.in-Some.span c.pop.new.self.items c.self.invariant.holes (ap (λ (s : Holed). s.out) c.self.view_is ∙ c.requires) c.in-Some.ensures.items).1

pub returns-clause-arena : goal.returns-clause-arena
returns-clause-arena c = (base_left (holed_of c.self.inside) c.in-Some.span c.pop.new.self.items c.self.invariant.holes (ap (λ (s : Holed). s.out) c.self.view_is ∙ c.requires) c.in-Some.ensures.items).2 ∙ ap (λ (s : Holed). s.arena) c.self.view_is
