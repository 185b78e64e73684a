use Rattle.std.proofs.Common.{refl, sym, ◌∙◌}
use Rattle.script_service.proofs.Filing.{all_own, lines_told}
use Rattle.script_service.proofs.reporting.outcome_of.Goals as goal

pub plan_lines-requires : goal.plan_lines-requires
plan_lines-requires g c =
    let plans = c.args.plans.now in
    all_own g.K.Kept.keeps plans.jobs plans.plans.items c.deref.result.now c.args.endings.now c.args.endings.now c.deref.ensures.value refl c.requires.numbers c.requires.ended

pub returns : goal.returns
returns g c = λ script planned size.
    let plans = c.args.plans.now in
    record {
      programs = sym c.deref-2.ensures.value;
      jobs = lines_told g.K.Kept.keeps plans.jobs plans.plans.items c.deref.result.now plans.asked.items c.args.arena script planned c.in_ok-jobs.jobs.items size c.deref.ensures.value c.in_ok-jobs.ensures;
      asked = sym planned.places ∙ sym c.deref-3.ensures.value;
      journal = refl;
      free = sym size;
    }
