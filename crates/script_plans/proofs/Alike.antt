-- Two scripts that agree on a job, its program and the arena tell the same of it.
use Rattle.std.proofs.Common.{◌≡◌, ℕ, List, [], ◌∷◌, inl, inr, sym, ap, ◌∙◌, subst}
use Rattle.std.specs.Prelude.{Option}
use Rattle.job_script.specs.Scripts.{Job, Entry, AProgram, AJob, Script}
use Rattle.run_reports.specs.Told.{JobLine}
use Rattle.script_plans.specs.Programs.{ProgramText, program_named}
use Rattle.script_plans.specs.Fates.{Fate, IsFate, line_of}
use Rattle.script_plans.specs.Lines.{AreFates, lines_of, IsLineOf, TellsOf, Agree}

-- a job has one fate
abbrev pub HasOneFate : Type 0
HasOneFate = (p : Option ProgramText) (entry args : List ℕ) (f g : Fate) → IsFate p entry args f → IsFate p entry args g → f ≡ g

-- the fate that a line is told by
record ByFate (script : List Entry) (arena : ℕ) (job : Job) (line : JobLine) : Type 0 where
  fate : Fate
  is : IsFate (program_named script job.program) job.entry job.args fate
  line_is : line_of arena job.fuel fate ≡ line

by_fate : (script : List Entry) (arena : ℕ) (entries : List Entry) (fates : List Fate) (job : Job) (line : JobLine) → AreFates script entries fates
    → IsLineOf entries (lines_of arena entries fates) job line
    → ByFate script arena job line
by_fate script arena [] fates job line a h = absurd h
by_fate script arena (AProgram p ∷ entries) fates job line a h = by_fate script arena entries fates job line a h
by_fate script arena (AJob j ∷ entries) [] job line a h = absurd a
by_fate script arena (AJob j ∷ entries) (f ∷ fates) job line a (inl h) = record {
  fate = f;
  is = subst (λ (k : Job). IsFate (program_named script k.program) k.entry k.args f) h.0 a.0;
  line_is = ap (λ (k : Job). line_of arena k.fuel f) (sym h.0) ∙ h.1;
}
by_fate script arena (AJob j ∷ entries) (f ∷ fates) job line a (inr h) = by_fate script arena entries fates job line a.2 h

pub same_line : HasOneFate → (one other : Script) (job : Job) (first second : JobLine) → Agree one other job → TellsOf one job first
    → TellsOf other job second → first ≡ second
same_line law one other job first second agree a b =
    let f : ByFate one.items one.arena job first = by_fate one.items one.arena one.items a.fates job first a.are a.is in
    let g : ByFate other.items other.arena job second = by_fate other.items other.arena other.items b.fates job second b.are b.is in
    let there : IsFate (program_named one.items job.program) job.entry job.args g.fate = subst (λ (p : Option ProgramText). IsFate p job.entry job.args g.fate) (sym agree.program) g.is in
    let same : f.fate ≡ g.fate = law (program_named one.items job.program) job.entry job.args f.fate g.fate f.is there in
    sym f.line_is ∙ ap (λ (x : Fate). line_of one.arena job.fuel x) same ∙ ap (λ (n : ℕ). line_of n job.fuel g.fate) agree.arena ∙ g.line_is
