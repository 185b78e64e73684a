-- Programs one by one: their lines, and what is known of them.
use Rattle.std.proofs.Common.{◌≡◌, ℕ, ◌+◌, ◌≤◌, Bool, true, false, List, [], ◌∷◌, ◌++◌, length, Some, None, refl, sym, ap, ◌∙◌, subst, append_assoc, append-nil, arith}
use Rattle.std.specs.Prelude.{slice_get, if◌then◌else◌, Option}
use Rattle.std.specs.Str.{bytes_eq}
use Rattle.std.proofs.lemmas.Option.{slice_get_within}
use Rattle.licence.specs.Licensed.{Licensed}
use Rattle.job_script.specs.Scripts.{Program, Entry, AProgram, AJob}
use Rattle.job_world.specs.PlanLaws.{front_stays, found_behind}
use Rattle.value_text.specs.Inhabited.{Knows}
use Rattle.camelot_compiler.specs.Licences.{IsLicence}
use Rattle.cause_texts.specs.declared.cause.Cause.{Cause}
use Rattle.run_reports.specs.declared.outcome.ProgramLine.{ProgramLine}
use Rattle.run_reports.specs.declared.outcome.ProgramLine.TheVariants as program
use Rattle.script_plans.specs.declared.rows.Known.{Known}
use Rattle.script_plans.specs.Programs.{ProgramText, CamelotText, program_of, program_named, OfSource, IsRefusedFor}
use Rattle.script_plans.specs.Lines.{AreProgramLines}
use Rattle.script_plans.specs.Rows.{Row, row_among, row_program, IsKnown, IsRow, AreRows}
use Rattle.script_plans.specs.Answers.{Licensing, IsLicenceFor, IsProgramAdded, IsTaken, AreLicensed}

-- the row's program, or else this one
abbrev program_or : Option Row → Option ProgramText → Option ProgramText
program_or None o = o
program_or (Some r) o = Some r.program

-- The front entries have these lines, whatever lines the rest have, and the rows are theirs.
pub record UpTo (script rest : List Entry) (l : Licensing) : Type 0 where
  pub told : (more : List ProgramLine) → AreProgramLines rest more → AreProgramLines script (l.lines ++ more)
  pub kept : AreRows l.licences l.rows
  pub programs : (name : List ℕ) → program_named script name ≡ program_or (row_among l.rows name) (program_named rest name)
  pub few : length l.licences + length rest ≤ length script

pub none_licensed : (script : List Entry) → UpTo script script (record { rows = []; licences = []; lines = [] })
none_licensed script = record { told = λ more h. h; kept = tt; programs = λ name. refl; few = omega arith }

known_stays : (licences more : List Licensed) (p : ProgramText) (k : Option Known) → IsKnown licences p k → IsKnown (licences ++ more) p k
known_stays licences more p None h = h
known_stays licences more p (Some k) h = record {
  licence = h.licence;
  meaning = h.meaning;
  at = front_stays licences more k.licence (slice_get_within licences k.licence h.licence h.at) ∙ h.at;
  is = h.is;
  knows = h.knows;
}

rows_end : (licences more : List Licensed) (rows : List Row) (r : Row) → AreRows licences rows → IsRow (licences ++ more) r
    → AreRows (licences ++ more) (rows ++ r ∷ [])
rows_end licences more [] r h k = (k, tt)
rows_end licences more (q ∷ rows) r h k = (known_stays licences more q.program q.known h.0, rows_end licences more rows r h.1 k)

programs_end : (rows : List Row) (r : Row) (name : List ℕ) (o : Option ProgramText)
    → program_or (row_among rows name) (if bytes_eq r.name name then Some r.program else o) ≡ program_or (row_among (rows ++ r ∷ []) name) o
programs_end [] r name o = by_test (bytes_eq r.name name)
  where
    by_test : (b : Bool) → (if b then Some r.program else o) ≡ program_or (if b then Some r else None) o
    by_test true = refl
    by_test false = refl
programs_end (q ∷ rows) r name o = by_test (bytes_eq q.name name) (programs_end rows r name o)
  where
    by_test : (b : Bool) → program_or (row_among rows name) (if bytes_eq r.name name then Some r.program else o) ≡ program_or (row_among (rows ++ r ∷ []) name) o
        → program_or (if b then Some q else row_among rows name) (if bytes_eq r.name name then Some r.program else o) ≡ program_or (if b then Some q else row_among (rows ++ r ∷ []) name) o
    by_test true go = refl
    by_test false go = go

program_licensed : (script rest : List Entry) (p : Program) (old new : Licensing) → UpTo script (AProgram p ∷ rest) old
    → IsProgramAdded p.name (program_of p) old new → UpTo script rest new
program_licensed script rest p old new u a =
    let r : Row = record { name = p.name; program = program_of p; known = a.known } in
    record {
      told = λ more h. subst (λ l. AreProgramLines script (l ++ more)) (sym a.lines) (subst (AreProgramLines script) (sym (append_assoc old.lines (a.line ∷ []) more)) (u.told (a.line ∷ more) (a.is, h)));
      kept =
          subst (AreRows new.licences) (sym a.rows)
          (subst (λ ls. AreRows ls (old.rows ++ r ∷ [])) (sym a.licences) (rows_end old.licences a.more old.rows r u.kept (subst (λ ls. IsKnown ls (program_of p) a.known) a.licences a.knows)));
      programs = λ name. u.programs name ∙ programs_end old.rows r name (program_named rest name) ∙ ap (λ rs. program_or (row_among rs name) (program_named rest name)) (sym a.rows);
      few = omega (arith, u.few, a.count);
    }

pub licensed_more : (script rest : List Entry) (entry : Entry) (old new : Licensing) → UpTo script (entry ∷ rest) old → IsTaken entry old new
    → UpTo script rest new
licensed_more script rest (AProgram p) old new u t = program_licensed script rest p old new u t
licensed_more script rest (AJob j) old new u t = subst (UpTo script rest) (sym t) (record { told = u.told; kept = u.kept; programs = u.programs; few = omega (arith, u.few) })

program_none : (o : Option Row) → program_or o None ≡ row_program o
program_none None = refl
program_none (Some r) = refl

pub all_licensed : (script : List Entry) (l : Licensing) → UpTo script [] l → AreLicensed script l
all_licensed script l u = record {
  told = subst (AreProgramLines script) (append-nil l.lines) (u.told [] tt);
  kept = u.kept;
  programs = λ name. u.programs name ∙ program_none (row_among l.rows name);
}

-- ---- one program

pub source_licensed : (text : List ℕ) (l : Licensed) → IsLicence text l → IsLicenceFor (CamelotText text) l
source_licensed text l h = record { meaning = OfSource h.typing; is = record { is = h; means = refl } }

pub accepted : (name : List ℕ) (p : ProgramText) (old new : Licensing) (l : Licensed) (k : Known) (unit : ℕ) → IsLicenceFor p l
    → k.licence ≡ length old.licences → Knows l.code.types k.inhabited → unit ≡ l.cert.unit
    → new.licences ≡ old.licences ++ l ∷ [] → new.rows ≡ old.rows ++ record { name = name; program = p; known = Some k } ∷ [] → new.lines ≡ old.lines ++ program.Accepted unit ∷ [] → IsProgramAdded name p old new
accepted name p old new l k unit has at knows units ls rs lns = record {
  line = program.Accepted unit;
  is = record { licence = l; meaning = has.meaning; is = has.is; units = units };
  lines = lns;
  known = Some k;
  rows = rs;
  more = l ∷ [];
  licences = ls;
  count = let n : length new.licences ≡ length old.licences + 1 = ap length ls ∙ length_end old.licences l in omega (arith, n);
  knows = record {
    licence = l;
    meaning = has.meaning;
    at = ap (λ xs. slice_get xs k.licence) ls ∙ ap (slice_get (old.licences ++ l ∷ [])) at ∙ found_behind old.licences l [];
    is = has.is;
    knows = knows;
  };
}
  where
    length_end : (xs : List Licensed) (x : Licensed) → length (xs ++ x ∷ []) ≡ length xs + 1
    length_end [] x = refl
    length_end (y ∷ xs) x = let go = length_end xs x in omega (arith, go)

pub refused : (name : List ℕ) (p : ProgramText) (old new : Licensing) (cause : Cause) → IsRefusedFor p cause → new.rows ≡ old.rows ++ record { name = name; program = p; known = None } ∷ [] → new.licences ≡ old.licences
    → new.lines ≡ old.lines ++ program.Refused cause ∷ [] → IsProgramAdded name p old new
refused name p old new cause is rs ls lns = record {
  line = program.Refused cause;
  is = is;
  lines = lns;
  known = None;
  rows = rs;
  more = [];
  licences = ls ∙ sym (append-nil old.licences);
  count = let n : length new.licences ≡ length old.licences = ap length ls in omega (arith, n);
  knows = record { cause = cause; is = is };
}
