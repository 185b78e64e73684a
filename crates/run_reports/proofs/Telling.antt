-- What lines tell: their texts, and what they count for.
use Rattle.std.proofs.Common.{◌≡◌, ℕ, List, [], ◌∷◌, ◌++◌, length, map, refl, sym, ap, ◌∙◌}
use Rattle.std.specs.Prelude.{slice_get, Option, Some, None, codes, decimal}
use Rattle.std.proofs.lemmas.List.{length-map}
use Rattle.camelot_values.specs.Value.{Value}
use Rattle.camelot_values.specs.Kinds.{DataType, constructor_name}
use Rattle.camelot_values.specs.Outcome as plain
use Rattle.value_text.specs.Text.{value_text}
use Rattle.cell_machine.specs.Endings.{EndsWith, halt_of}
use Rattle.cell_machine.specs.declared.machine.Ending.{Ending}
use Rattle.cell_machine.specs.declared.machine.Ending.TheVariants as ending
use Rattle.cell_machine.specs.declared.machine.Halt.{Halt}
use Rattle.job_script.specs.Scripts.{Entry, AProgram, AJob}
use Rattle.licence.specs.Licensed.{Licensed}
use Rattle.run_reports.specs.declared.outcome.JobLine.{JobLine as DeclaredLine}
use Rattle.run_reports.specs.declared.outcome.JobLine.TheVariants as line
use Rattle.run_reports.specs.declared.outcome.Outcome.{Outcome}
use Rattle.run_reports.specs.Lines.{line_of, line_tally, outcome_of}
use Rattle.run_reports.specs.Report.{ended_text, told_text, head_text, program_lines, job_lines, asked_name, event_lines, end_text, report_text}
use Rattle.run_reports.specs.declared.summing.Tally.{Tally}
use Rattle.run_reports.specs.Summary.{none, sum, summary_text, tally_of, tally_of_halt, tally_of_run, tally_text}
use Rattle.run_reports.specs.EndsAs.{EndsAs}
use Rattle.run_reports.specs.Told.{JobLine, Ended, TooLarge, Refused, Told, IsLine, AreLines, IsTold, licence_types}

-- ---- texts

same_ended : (types : List DataType) (o : plain.Outcome Value) (e : Ending) (fuel bound : ℕ) → EndsWith o e
    → ended_text types (outcome_of e) fuel bound ≡ ended_text types o fuel bound
unfolding ended_text
same_ended types (plain.Done v calls peak low) (ending.Done w c p) fuel bound h =
    λ i. (codes " done " ++ value_text (constructor_name types) (h.0 i)) ++ (codes " calls " ++ decimal (h.1 i)) ++ (codes " peak " ++ decimal (h.2 i)) ++ (codes " bound " ++ decimal bound)
same_ended types (plain.Done v calls peak low) (ending.Fuel p) fuel bound h = absurd h
same_ended types (plain.Done v calls peak low) (ending.Deep p) fuel bound h = absurd h
same_ended types (plain.Done v calls peak low) (ending.Trap p) fuel bound h = absurd h
same_ended types (plain.Fuel calls peak) (ending.Done w c p) fuel bound h = absurd h
same_ended types (plain.Fuel calls peak) (ending.Fuel p) fuel bound h = λ i. (codes " fuel " ++ decimal fuel) ++ (codes " peak " ++ decimal (h i)) ++ (codes " bound " ++ decimal bound)
same_ended types (plain.Fuel calls peak) (ending.Deep p) fuel bound h = absurd h
same_ended types (plain.Fuel calls peak) (ending.Trap p) fuel bound h = absurd h
same_ended types (plain.Deep peak) (ending.Done w c p) fuel bound h = absurd h
same_ended types (plain.Deep peak) (ending.Fuel p) fuel bound h = absurd h
same_ended types (plain.Deep peak) (ending.Deep p) fuel bound h = λ i. (codes " deep peak " ++ decimal (h i)) ++ (codes " bound " ++ decimal bound)
same_ended types (plain.Deep peak) (ending.Trap p) fuel bound h = absurd h
same_ended types (plain.Trap peak) (ending.Done w c p) fuel bound h = absurd h
same_ended types (plain.Trap peak) (ending.Fuel p) fuel bound h = absurd h
same_ended types (plain.Trap peak) (ending.Deep p) fuel bound h = absurd h
same_ended types (plain.Trap peak) (ending.Trap p) fuel bound h = λ i. (codes " trap peak " ++ decimal (h i)) ++ (codes " bound " ++ decimal bound)
same_ended types plain.Stuck (ending.Done w c p) fuel bound h = absurd h
same_ended types plain.Stuck (ending.Fuel p) fuel bound h = absurd h
same_ended types plain.Stuck (ending.Deep p) fuel bound h = absurd h
same_ended types plain.Stuck (ending.Trap p) fuel bound h = absurd h

-- what a line tells has its text
same_text : (licences : List Licensed) (l : DeclaredLine Ending) (t : JobLine) → IsLine EndsWith licences l t → told_text (line_of licences l) ≡ told_text t
same_text licences (line.Ended kept fuel bound licence) (Ended types o f b) h =
    same_ended (licence_types (slice_get licences licence)) o kept.now fuel bound h.1 ∙ sym (λ i. ended_text (h.0 i) o (h.2 i) (h.3 i))
same_text licences (line.Ended kept fuel bound licence) (TooLarge n a) h = absurd h
same_text licences (line.Ended kept fuel bound licence) (Refused c) h = absurd h
same_text licences (line.TooLarge needs arena) (Ended types o f b) h = absurd h
same_text licences (line.TooLarge needs arena) (TooLarge n a) h = sym (λ i. told_text (TooLarge (h.0 i) (h.1 i)))
same_text licences (line.TooLarge needs arena) (Refused c) h = absurd h
same_text licences (line.Refused cause) (Ended types o f b) h = absurd h
same_text licences (line.Refused cause) (TooLarge n a) h = absurd h
same_text licences (line.Refused cause) (Refused c) h = sym (λ i. told_text (Refused (h i)))

-- so what is written of a line is what it tells
pub told_is : (licences : List Licensed) (l : DeclaredLine Ending) (t : JobLine) (old new : List ℕ) → new ≡ old ++ told_text (line_of licences l) → IsLine EndsWith licences l t
    → new ≡ old ++ told_text t
told_is licences l t old new is h = is ∙ ap (λ text. old ++ text) (same_text licences l t h)

-- and so have all lines
same_lines : (licences : List Licensed) (entries : List Entry) (ls : List (DeclaredLine Ending)) (ts : List JobLine) → AreLines EndsWith licences ls ts
    → job_lines entries (map (line_of licences) ls) ≡ job_lines entries ts
same_lines licences [] ls ts h = refl
same_lines licences (AProgram p ∷ entries) ls ts h = same_lines licences entries ls ts h
same_lines licences (AJob j ∷ entries) [] [] h = refl
same_lines licences (AJob j ∷ entries) [] (t ∷ ts) h = absurd h
same_lines licences (AJob j ∷ entries) (l ∷ ls) [] h = absurd h
same_lines licences (AJob j ∷ entries) (l ∷ ls) (t ∷ ts) h =
    let own = same_text licences l t h.0 in
    let more = same_lines licences entries ls ts h.1 in
    λ i. ((codes "job " ++ j.name) ++ own i ++ codes "\n") ++ more i

-- What is written of programs and jobs is what an outcome tells of them.
pub head_is : (licences : List Licensed) (o : Outcome Ending) (told : Told) (entries items : List Entry) (jobs : List (DeclaredLine Ending)) (n p : List ℕ) → items ≡ entries → jobs ≡ o.jobs.items
    → p ≡ n ++ head_text items o.programs.now (map (line_of licences) jobs) → IsTold EndsWith licences o told → p ≡ n ++ head_text entries told.programs told.jobs
head_is licences o told entries items jobs n p same alike is h =
    is ∙ ap (λ (ls : List (DeclaredLine Ending)). n ++ head_text items o.programs.now (map (line_of licences) ls)) alike
    ∙ (λ i. n ++ (program_lines items (sym h.programs i) ++ same_lines licences items o.jobs.items told.jobs h.jobs i))
    ∙ (λ i. n ++ head_text (same i) told.programs told.jobs)

-- The text that is written part by part of what an outcome has is the report of what it tells.
pub report_is : (licences : List Licensed) (o : Outcome Ending) (told : Told) (entries items : List Entry) (jobs : List (DeclaredLine Ending)) (n p q output : List ℕ) → items ≡ entries
    → jobs ≡ o.jobs.items → n ≡ [] → p ≡ n ++ head_text items o.programs.now (map (line_of licences) jobs) → q ≡ p ++ event_lines (asked_name items o.asked.now) o.journal.now
    → output ≡ q ++ end_text o.free → IsTold EndsWith licences o told → output ≡ report_text entries told
unfolding report_text
report_is licences o told entries items jobs n p q output same alike a b c d h =
    let head : p ≡ head_text items told.programs told.jobs =
    b ∙ ap (λ l. l ++ head_text items o.programs.now (map (line_of licences) jobs)) a
    ∙ ap (λ (ls : List (DeclaredLine Ending)). head_text items o.programs.now (map (line_of licences) ls)) alike
    ∙ (λ i. program_lines items (sym h.programs i) ++ same_lines licences items o.jobs.items told.jobs h.jobs i) in
    let events : q ≡ head_text items told.programs told.jobs ++ event_lines (asked_name items told.asked) told.journal =
    c ∙ (λ i. head i ++ event_lines (asked_name items (sym h.asked i)) (sym h.journal i)) in
    d ∙ (λ i. events i ++ end_text (sym h.free i)) ∙ (λ i. head_text (same i) told.programs told.jobs ++ event_lines (asked_name (same i) told.asked) told.journal ++ end_text told.free)

-- ---- sums

abbrev tally_by : Option Halt → Tally
tally_by None = none
tally_by (Some how) = tally_of_halt how

-- a run counts for how it ended
run_counts : (o : plain.Outcome Value) → tally_by (halt_of o) ≡ tally_of_run o
run_counts (plain.Done v calls peak low) = refl
run_counts (plain.Fuel calls peak) = refl
run_counts (plain.Deep peak) = refl
run_counts (plain.Trap peak) = refl
run_counts plain.Stuck = refl

-- what is told of a line counts for the same
same_tally : {K : Type 0} (how : K → Halt) (licences : List Licensed) (l : DeclaredLine K) (t : JobLine) → IsLine (EndsAs how) licences l t → line_tally how l ≡ tally_of t
same_tally how licences (line.Ended kept fuel bound licence) (Ended types o f b) h = ap tally_by (sym h.1) ∙ run_counts o
same_tally how licences (line.Ended kept fuel bound licence) (TooLarge n a) h = absurd h
same_tally how licences (line.Ended kept fuel bound licence) (Refused c) h = absurd h
same_tally how licences (line.TooLarge needs arena) (Ended types o f b) h = absurd h
same_tally how licences (line.TooLarge needs arena) (TooLarge n a) h = refl
same_tally how licences (line.TooLarge needs arena) (Refused c) h = absurd h
same_tally how licences (line.Refused cause) (Ended types o f b) h = absurd h
same_tally how licences (line.Refused cause) (TooLarge n a) h = absurd h
same_tally how licences (line.Refused cause) (Refused c) h = refl

same_tallies : {K : Type 0} (how : K → Halt) (licences : List Licensed) (ls : List (DeclaredLine K)) (ts : List JobLine) → AreLines (EndsAs how) licences ls ts
    → map (line_tally how) ls ≡ map tally_of ts
same_tallies how licences [] [] h = refl
same_tallies how licences [] (t ∷ ts) h = absurd h
same_tallies how licences (l ∷ ls) [] h = absurd h
same_tallies how licences (l ∷ ls) (t ∷ ts) h =
    let own = same_tally how licences l t h.0 in
    let more = same_tallies how licences ls ts h.1 in
    λ i. own i ∷ more i

-- The line that is written of what an outcome's lines count for is the summary of what it tells.
pub summary_is : {K : Type 0} (how : K → Halt) (licences : List Licensed) (o : Outcome K) (told : Told) (ls : List (DeclaredLine K)) (output : List ℕ)
    → ls ≡ o.jobs.items → output ≡ tally_text (length ls) (sum (map (line_tally how) ls)) o.free
    → IsTold (EndsAs how) licences o told → output ≡ summary_text told
unfolding summary_text
summary_is how licences o told ls output e is h =
    let alike : map (line_tally how) ls ≡ map tally_of told.jobs = ap (map (line_tally how)) e ∙ same_tallies how licences o.jobs.items told.jobs h.jobs in
    let many : length ls ≡ length told.jobs = sym (length-map ls (line_tally how)) ∙ ap length alike ∙ length-map told.jobs tally_of in
    is ∙ (λ i. tally_text (many i) (sum (alike i)) (sym h.free i))
