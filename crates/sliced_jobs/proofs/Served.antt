-- What is there once no job is left.
use Rattle.std.proofs.Common.{◌≡◌, ℕ, suc, ◌<◌, ◌≤◌, List, [], ◌∷◌, length, Option, Some, sym, ap, ◌∙◌, subst, arith, inl, inr}
use Rattle.std.specs.Prelude.{◌⊎◌, slice_get, sum}
use Rattle.grail_code.specs.Meaning.{run_of}
use Rattle.licence.specs.Licensed.{Licensed}
use Rattle.cell_machine.specs.Endings.{EndsWith}
use Rattle.cell_machine.specs.State.{most_calls}
use Rattle.job_workers.specs.Ended.{AllEnded}
use Rattle.job_world.specs.Plans.{Plan, Planned, job_run, run_at, run_with}
use Rattle.sliced_jobs.specs.Slices.{IsSliced, AreSliced, AreSlices}
use Rattle.sliced_jobs.specs.Table.{IsPlanAt, IsDone, IsAmong, IsTable}
use Rattle.sliced_jobs.specs.declared.table.Table.{Table}

job_run_is : (ps : Planned) (job : ℕ) (p : Plan) (l : Licensed) → IsPlanAt ps job p l → job_run ps job ≡ run_of l.code most_calls p.entry p.fuel p.args
unfolding job_run
job_run_is ps job p l at = ap (run_at ps.licences) at.plan ∙ ap (λ o. run_with o p) at.licence

all_done : (asked arena : ℕ) (ps : Planned) (t : Table) → IsTable asked ps arena t → length ps.plans ≤ t.next → t.going.items ≡ [] → (job : ℕ) → job < length ps.plans
    → IsDone asked ps job (slice_get t.endings.items job) (slice_get t.numbers.items job)
all_done asked arena ps t h all none job less = by_place (subst (λ gs. IsDone asked ps job (slice_get t.endings.items job) (slice_get t.numbers.items job) ⊎ IsAmong job gs) none (h.each job (omega (arith, all, less))))
  where
    by_place : IsDone asked ps job (slice_get t.endings.items job) (slice_get t.numbers.items job) ⊎ IsAmong job [] → IsDone asked ps job (slice_get t.endings.items job) (slice_get t.numbers.items job)
    by_place (inl d) = d
    by_place (inr a) = absurd a

pub all_ended : (asked arena : ℕ) (ps : Planned) (t : Table) → IsTable asked ps arena t → length ps.plans ≤ t.next → t.going.items ≡ [] → AllEnded EndsWith ps t.endings.items
all_ended asked arena ps t h all none job less =
    let d = all_done asked arena ps t h all none job less in
    record { ending = d.ending; is = d.is; meant = subst (λ o. EndsWith o d.ending) (sym (job_run_is ps job d.p d.l d.at)) d.ended.meant }

-- a plan and its number of slices
record SlicedAt (asked : ℕ) (licences : List Licensed) (o : Option Plan) (told : Option ℕ) : Type 0 where
  p : Plan
  n : ℕ
  plan : o ≡ Some p
  number : told ≡ Some n
  is : IsSliced asked licences p n

each_sliced : (asked : ℕ) (licences : List Licensed) (plans : List Plan) (numbers : List ℕ) → length numbers ≡ length plans
    → ((job : ℕ) → job < length plans → SlicedAt asked licences (slice_get plans job) (slice_get numbers job)) → AreSliced asked licences plans numbers
each_sliced asked licences [] [] many each = tt
each_sliced asked licences [] (n ∷ ns) many each = absurd (omega (arith, many))
each_sliced asked licences (p ∷ ps) [] many each = absurd (omega (arith, many))
each_sliced asked licences (p ∷ ps) (n ∷ ns) many each =
    let first = each 0 (omega arith) in
    let q : Some p ≡ Some first.p = first.plan in
    let m : Some n ≡ Some first.n = first.number in
    let same_plan : first.p ≡ p = cc in
    let same_number : first.n ≡ n = cc in
    (subst (IsSliced asked licences p) same_number (subst (λ x. IsSliced asked licences x first.n) same_plan first.is), each_sliced asked licences ps ns (omega (arith, many)) (λ job less. each (suc job) (omega (arith, less))))

pub all_slices : (asked arena : ℕ) (ps : Planned) (t : Table) (numbers : List ℕ) (number : ℕ) → IsTable asked ps arena t → length ps.plans ≤ t.next → t.going.items ≡ [] → number ≡ sum numbers → numbers ≡ t.numbers.items
    → AreSlices asked ps number
all_slices asked arena ps t numbers number h all none is of = record {
  numbers = t.numbers.items;
  each = each_sliced asked ps.licences ps.plans t.numbers.items h.numbers (λ job less. by_done job (all_done asked arena ps t h all none job less));
  all = is ∙ ap (λ (l : List ℕ). sum l) of;
}
  where
    by_done : (job : ℕ) → IsDone asked ps job (slice_get t.endings.items job) (slice_get t.numbers.items job) → SlicedAt asked ps.licences (slice_get ps.plans job) (slice_get t.numbers.items job)
    by_done job d = record {
      p = d.p;
      n = d.number;
      plan = d.at.plan;
      number = d.many;
      is = record { l = d.l; licence = d.at.licence; f = d.ended.f; func = d.ended.is.func; takes = d.ended.takes };
    }
