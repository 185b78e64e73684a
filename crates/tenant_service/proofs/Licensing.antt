-- The programs of a script of tenants are those of a script of jobs.
use Rattle.std.proofs.Common.{◌≡◌, ℕ, ◌≤◌, List, [], ◌∷◌, ◌++◌, length, map, refl, sym, ap, ◌∙◌, subst, append_assoc, append-nil, arith}
use Rattle.std.specs.Prelude.{if◌then◌else◌, Some}
use Rattle.std.specs.List.{AllByRecursion}
use Rattle.std.specs.Str.{bytes_eq}
use Rattle.std.proofs.lemmas.List.{map-append}
use Rattle.job_script.specs.Scripts as script
use Rattle.job_script.specs.Text.{EntryIsShort}
use Rattle.job_script.specs.Words.{entry_of}
use Rattle.job_script.specs.declared.types.Entry.{Entry as DeclaredEntry}
use Rattle.run_reports.specs.declared.outcome.ProgramLine.{ProgramLine}
use Rattle.script_plans.specs.Programs.{program_of, program_named as program_among}
use Rattle.script_plans.specs.Lines.{AreProgramLines as AreLines}
use Rattle.script_plans.specs.Answers.{Licensing, AreLicensed}
use Rattle.tenant_script.specs.Tenants.{Entry, AProgram, AStart, AFinish, program_names}
use Rattle.tenant_service.specs.Running.{programs_in, ItemIsShort, AreKnown}
use Rattle.tenant_service.specs.Scripts.{program_named, AreProgramLines}

-- ---- one by one

-- a program was added, and these are to come
pub program_more : (old new : List DeclaredEntry) (e : DeclaredEntry) (left : List script.Entry) → new ≡ old ++ e ∷ [] → map entry_of new ++ left ≡ map entry_of old ++ entry_of e ∷ left
program_more old new e left is = ap (λ (l : List DeclaredEntry). map entry_of l ++ left) is ∙ ap (λ (l : List script.Entry). l ++ left) (map-append entry_of old (e ∷ [])) ∙ append_assoc (map entry_of old) (entry_of e ∷ []) left

-- none are to come
pub no_more : {A : Type 0} (out whole : List A) → out ++ [] ≡ whole → out ≡ whole
no_more out whole e = sym (append-nil out) ∙ e

-- a line was written, and these are to come
pub line_here : (out old line rest : List ℕ) → out ≡ old ++ line → out ++ rest ≡ old ++ (line ++ rest)
line_here out old line rest e = ap (λ l. l ++ rest) e ∙ append_assoc old line rest

-- ---- all of them

programs_count : (items : List Entry) → length (programs_in items) ≡ length (program_names items)
programs_count [] = refl
programs_count (AProgram p ∷ es) = omega (arith, programs_count es)
programs_count (AStart tenant j ∷ es) = programs_count es
programs_count (AFinish tenant job ∷ es) = programs_count es

pub programs_few : (items : List Entry) (programs : List script.Entry) → programs ≡ programs_in items → length (program_names items) ≤ 64 → length programs ≤ 4160
programs_few items programs e h = omega (arith, h, programs_count items, ap length e)

short_in : (most : ℕ) (items : List Entry) → AllByRecursion (ItemIsShort most) items → AllByRecursion (EntryIsShort most) (programs_in items)
short_in most [] h = tt
short_in most (AProgram p ∷ es) h = (h.0, short_in most es h.1)
short_in most (AStart tenant j ∷ es) h = short_in most es h.1
short_in most (AFinish tenant job ∷ es) h = short_in most es h.1

pub programs_short : (items : List Entry) (programs : List script.Entry) → programs ≡ programs_in items → AllByRecursion (ItemIsShort 4294967295) items
    → AllByRecursion (EntryIsShort 4294967295) programs
programs_short items programs e h = subst (AllByRecursion (EntryIsShort 4294967295)) (sym e) (short_in 4294967295 items h)

lines_in : (items : List Entry) (lines : List ProgramLine) → AreLines (programs_in items) lines → AreProgramLines items lines
lines_in [] [] h = h
lines_in [] (line ∷ lines) h = absurd h
lines_in (AProgram p ∷ es) [] h = absurd h
lines_in (AProgram p ∷ es) (line ∷ lines) h = (h.0, lines_in es lines h.1)
lines_in (AStart tenant j ∷ es) lines h = lines_in es lines h
lines_in (AFinish tenant job ∷ es) lines h = lines_in es lines h

named_in : (items : List Entry) (name : List ℕ) → program_named items name ≡ program_among (programs_in items) name
named_in [] name = refl
named_in (AProgram p ∷ es) name = ap (λ o. if bytes_eq p.name name then Some (program_of p) else o) (named_in es name)
named_in (AStart tenant j ∷ es) name = named_in es name
named_in (AFinish tenant job ∷ es) name = named_in es name

pub programs_known : (items : List Entry) (programs : List script.Entry) (l : Licensing) → programs ≡ programs_in items → AreLicensed programs l → AreKnown items l
programs_known items programs l e h =
    let k : AreLicensed (programs_in items) l = subst (λ ps. AreLicensed ps l) e h in
    record { told = lines_in items l.lines k.told; kept = k.kept; programs = λ name. named_in items name ∙ k.programs name }
