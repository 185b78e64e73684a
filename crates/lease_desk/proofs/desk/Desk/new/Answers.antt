use Rattle.std.proofs.Common.{arith, ap, ◌∙◌}
use Rattle.hole_list.specs.Holes.{Holed}
use Rattle.lease_desk.specs.BookView.{BookView}
use Rattle.lease_desk.proofs.Steps.{first_kept}
use Rattle.lease_desk.proofs.desk.Desk.new.Goals as goal

pub invariant_of-result : goal.invariant_of-result
invariant_of-result g c = (
  first_kept _ _ c.args.span c.args.sizes.items c.len-jobs.result c.in-Ok-new.holes c.in-Ok.book c.in-Ok-empty_places.payloads.items c.requires.whole c.limits.ensures.some c.requires.blanks c.requires.sizes
      (omega (arith, c.len-jobs.ensures, c.args.sizes.ok.0)) c.in-Ok-new.ensures c.in-Ok.ensures c.in-Ok-empty_places.ensures,
  record { of_arena = ap (λ (h : Holed). h.arena) c.in-Ok-new.ensures ∙ c.requires.arena; of_sizes = ap (λ (b : BookView). b.sizes) c.in-Ok.ensures ∙ c.requires.named },
)
