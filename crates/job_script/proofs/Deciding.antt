-- The limits hold of a script or not, and so does that no name stands twice.
use Rattle.std.proofs.Common.{ℕ, zero, suc, ◌≤◌, length, inl, inr}
use Rattle.std.specs.List.{AllByRecursion}
use Rattle.camelot_values.specs.Names.{AreDistinct}
use Rattle.text_lines.specs.Machines.{Decides}
use Rattle.job_script.specs.Scripts.{Entry, AProgram, AJob, Script, EntryIsWithin, IsUpTo, IsWithin, HasOnce, program_names, job_names}
use Rattle.job_script.specs.Text.{script_asks}
use Rattle.job_script.specs.Reading.{closed, script_machine}
use Rattle.job_script.specs.DemandLaws.{Decided, up_to, at_most, each, distinct}

entry_within : (e : Entry) → Decided (EntryIsWithin e)
entry_within (AProgram p) = inl tt
entry_within (AJob j) = up_to 1099511627776 j.fuel

within : (s : Script) → Decided (IsWithin s)
within s = all (up_to 4194304 s.arena) (up_to 16 s.workers) (each EntryIsWithin entry_within s.items) (at_most (length (program_names s.items)) 64) (at_most (length (job_names s.items)) 4096)
  where
    all : Decided (IsUpTo 4194304 s.arena) → Decided (IsUpTo 16 s.workers) → Decided (AllByRecursion EntryIsWithin s.items)
        → Decided (length (program_names s.items) ≤ 64) → Decided (length (job_names s.items) ≤ 4096) → Decided (IsWithin s)
    all (inr a) b c d e = inr (λ w. a w.arena)
    all (inl a) (inr b) c d e = inr (λ w. b w.workers)
    all (inl a) (inl b) (inr c) d e = inr (λ w. c w.fuels)
    all (inl a) (inl b) (inl c) (inr d) e = inr (λ w. d w.programs)
    all (inl a) (inl b) (inl c) (inl d) (inr e) = inr (λ w. e w.jobs)
    all (inl a) (inl b) (inl c) (inl d) (inl e) = inl (record { arena = a; workers = b; fuels = c; programs = d; jobs = e })

once : (s : Script) → Decided (HasOnce s)
once s = both (distinct (program_names s.items)) (distinct (job_names s.items))
  where
    both : Decided (AreDistinct (program_names s.items)) → Decided (AreDistinct (job_names s.items)) → Decided (HasOnce s)
    both (inr h) k = inr (λ o. h o.programs)
    both (inl h) (inr k) = inr (λ o. k o.jobs)
    both (inl h) (inl k) = inl (record { programs = h; jobs = k })

demand : (k : ℕ) (s : Script) → Decided (script_asks k s)
demand zero s = within s
demand (suc zero) s = once s
demand (suc (suc k)) s = inl tt

pub script_decides : Decides script_machine
script_decides = record { asks = λ k s h. demand k (closed s) }
