-- Laws, for the proofs of this crate and of those above it.
-- The texts of a script that was read are short enough for what is planned of it. Each plan that runs has the number
-- of a job.
use Rattle.std.proofs.Common.{◌≡◌, ℕ, zero, suc, ◌+◌, ◌<◌, ◌≤◌, List, [], ◌∷◌, sym, subst, arith}
use Rattle.std.specs.List.{AllByRecursion, range_with_len}
use Rattle.job_script.specs.Scripts.{Entry, AProgram, AJob}
use Rattle.job_script.specs.Text.{EntryIsShort}
use Rattle.script_plans.specs.declared.types.JobPlan.{JobPlan}
use Rattle.script_plans.specs.Lines.{run_numbers}

one_short : (most : ℕ) (e : Entry) → most ≤ 4294967295 → EntryIsShort most e → EntryIsShort 4294967295 e
one_short most (AProgram p) h k = omega (arith, h, k)
one_short most (AJob j) h k = omega (arith, h, k)

pub all_short : (most : ℕ) (entries : List Entry) → most ≤ 4294967295 → AllByRecursion (EntryIsShort most) entries
    → AllByRecursion (EntryIsShort 4294967295) entries
all_short most [] h a = tt
all_short most (e ∷ entries) h a = (one_short most e h a.0, all_short most entries h a.1)

range_below : (first count most : ℕ) → first + count ≤ most → AllByRecursion (λ n. n < most) (range_with_len first count)
range_below first zero most h = tt
range_below first (suc count) most h = (omega (arith, h), range_below (first + 1) count most (omega (arith, h)))

-- numbers in order are below how many there are
pub numbers_below : (plans : List JobPlan) (count : ℕ) → run_numbers plans ≡ range_with_len 0 count → AllByRecursion (λ n. n < count) (run_numbers plans)
numbers_below plans count e = subst (AllByRecursion (λ n. n < count)) (sym e) (range_below 0 count count (omega arith))
