use Rattle.std.proofs.Common.{rules, ◌≡◌, ◌++◌, ◌∷◌, [], None, replicate, ap, ◌∙◌, subst, sym, arith}
use Rattle.hole_list.specs.Placing.{run}
use Rattle.journal_replay.specs.Within.{AreWithin}
use Rattle.journal_replay.proofs.Limits.{many_none, none_within}
use Rattle.journal_replay.proofs.state.State.opened.Goals as goal

pub invariant_of-result : goal.invariant_of-result
invariant_of-result c =
    let placed : c.loop-job.leases.items ≡ replicate c.loop-job._job None = c.loop-job.invariant in
    let few : c.loop-job._job ≡ c.args.jobs = search rules in
    record {
      few_served = omega arith;
      holes_within = subst AreWithin (sym (c.in_ok-push.ensures.items ∙ ap (λ l. l ++ run 0 c.args.arena ∷ []) c.new-holes.ensures.items)) (let fits = c.ranges.arena.fits in omega (arith, fits), tt);
      few_leases = many_none c.loop-job.leases.items c.loop-job._job 4294967295 placed (omega (arith, few, c.requires));
      leases_within = none_within c.loop-job.leases.items c.loop-job._job placed;
    }
