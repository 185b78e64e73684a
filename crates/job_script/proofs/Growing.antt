-- The first two lines, and each entry.
use Rattle.std.proofs.Common.{◌≡◌, ℕ, suc, ◌+◌, ◌<◌, ◌≤◌, true, false, List, [], ◌∷◌, ◌++◌, length, Some, refl, sym, ap, ◌∙◌, subst, arith, append-nil}
use Rattle.std.specs.Prelude.{codes}
use Rattle.std.specs.List.{AllByRecursion}
use Rattle.std.specs.Option.{option_map}
use Rattle.camelot_values.specs.Names.{stands}
use Rattle.text_lines.specs.Lines.{Free, HasLine, text_of_lines}
use Rattle.text_lines.specs.Machines.{Reading}
use Rattle.text_lines.specs.OptionLaws.{map_is}
use Rattle.text_lines.specs.FrontLaws.{all_last}
use Rattle.text_lines.specs.ReadingLaws.{reading_start}
use Rattle.stops.specs.Stopping.{FaultIs}
use Rattle.job_script.specs.Scripts.{Entry, AJob, Job, Script, EntryIsWithin, IsUpTo, IsWithin, HasOnce, IsTextLine, job_names}
use Rattle.job_script.specs.Text.{IsLineFault}
use Rattle.job_script.specs.Answers.{HasCause}
use Rattle.job_script.specs.Reading.{number_behind, Head, HProgram, HJob, HeadFits, head_of, Start, Sized, Between, Inside, script_by, add, program_by, enter, step, closed, script_machine, IsStopped}
use Rattle.job_script.specs.Steps.{Going, HasBody, IsOpen, IsAdded, IsRefused}
use Rattle.job_script.specs.StateLaws.{within_least, once_least, lines_one, body_run, script_shows}
use Rattle.job_script.specs.Faults.{stop_of}
use Rattle.job_script.specs.declared.stop.LineStop.{LineStop}
use Rattle.job_script.specs.declared.stop.LineStop.TheVariants as stop
use Rattle.job_script.proofs.Naming.{within_program, much_program, once_program, twice_program, within_job, much_job, once_job, twice_job, names_job, programs_job}
use Rattle.job_script.proofs.Stopping.{line_none, line_much, line_repeated, line_step, lines_step, line_early}
use Rattle.job_script.specs.StateLaws.{programs_append, jobs_append}
use Rattle.job_script.specs.declared.types.Language.{Language}

-- ---- the first two lines

start : (text : List ℕ) → Reading script_machine text Start text 1
start text = reading_start script_machine script_shows text

pub arena_early : (text : List ℕ) → Free 10 text → IsLineFault text 1
arena_early text h = line_early text Start text 1 (start text) h (λ e. refl)

arena_step : (line : List ℕ) (n : ℕ) → number_behind (codes "arena") line ≡ Some n → step Start line ≡ Some (Sized n)
arena_step line n e = map_is Sized (number_behind (codes "arena") line) n e

workers_step : (arena : ℕ) (line : List ℕ) (n : ℕ) → number_behind (codes "workers") line ≡ Some n
    → step (Sized arena) line ≡ Some (Between (script_by arena n []))
workers_step arena line n e = map_is (λ workers. Between (script_by arena workers [])) (number_behind (codes "workers") line) n e

pub arena_stopped : (s : LineStop) (text line rest : List ℕ) → HasLine text line rest
    → IsStopped (number_behind (codes "arena") line) (IsUpTo 4194304) s → FaultIs (HasCause text) (stop_of s 1)
arena_stopped stop.Line text line rest h e = line_none text Start text 1 line rest (start text) h (ap (option_map Sized) e)
arena_stopped stop.Count text line rest h e = line_much text Start (Sized e.x) text 1 line rest (start text) h (arena_step line e.x e.is) (λ w. e.wide w.arena)
arena_stopped stop.Repeat text line rest h e = absurd e
arena_stopped stop.Memory text line rest h e = tt

sized_within : (n : ℕ) → IsUpTo 4194304 n → IsWithin (script_by n 1 [])
sized_within n h = record { arena = h; workers = within_least.workers; fuels = tt; programs = within_least.programs; jobs = within_least.jobs }

pub arena_read : (text line rest : List ℕ) (n : ℕ) → HasLine text line rest → number_behind (codes "arena") line ≡ Some n → IsUpTo 4194304 n
    → Reading script_machine text (Sized n) rest 2
arena_read text line rest n h e k = line_step text Start (Sized n) text 1 line rest (start text) h (arena_step line n e) (sized_within n k) (once_least n 1)

pub workers_early : (text : List ℕ) (arena : ℕ) (rest : List ℕ) → Reading script_machine text (Sized arena) rest 2 → Free 10 rest → IsLineFault text 2
workers_early text arena rest r h = line_early text (Sized arena) rest 2 r h (λ e. refl)

pub workers_stopped : (s : LineStop) (text : List ℕ) (arena : ℕ) (rest line after : List ℕ) → Reading script_machine text (Sized arena) rest 2
    → HasLine rest line after → IsStopped (number_behind (codes "workers") line) (IsUpTo 16) s → FaultIs (HasCause text) (stop_of s 2)
workers_stopped stop.Line text arena rest line after r h e = line_none text (Sized arena) rest 2 line after r h (ap (option_map (λ workers. Between (script_by arena workers []))) e)
workers_stopped stop.Count text arena rest line after r h e = line_much text (Sized arena) (Between (script_by arena e.x [])) rest 2 line after r h (workers_step arena line e.x e.is) (λ w. e.wide w.workers)
workers_stopped stop.Repeat text arena rest line after r h e = absurd e
workers_stopped stop.Memory text arena rest line after r h e = tt

pub workers_read : (text : List ℕ) (arena : ℕ) (rest line after : List ℕ) (n : ℕ) → Reading script_machine text (Sized arena) rest 2 → HasLine rest line after
    → number_behind (codes "workers") line ≡ Some n → IsUpTo 16 n → Going text arena n [] [] [] after 3
workers_read text arena rest line after n r h e k = record {
  reading = line_step text (Sized arena) (Between (script_by arena n [])) rest 2 line after r h (workers_step arena line n e)
      (record { arena = r.right.0.1.arena; workers = k; fuels = tt; programs = within_least.programs; jobs = within_least.jobs }) (once_least arena n);
  programs_are = refl;
  jobs_are = refl;
}

-- ---- entries

head_step : (s : Script) (line : List ℕ) (h : Head) → head_of line ≡ Some h → step (Between s) line ≡ Some (enter s h)
head_step s line h e = map_is (enter s) (head_of line) h e

pub head_early : (text : List ℕ) (arena workers : ℕ) (items : List Entry) (programs jobs : List (List ℕ)) (rest : List ℕ) (n : ℕ)
    → Going text arena workers items programs jobs rest n → 0 < length rest → Free 10 rest → IsLineFault text n
head_early text arena workers items programs jobs rest n g some free = line_early text (Between (script_by arena workers items)) rest n g.reading free (λ e. absurd (omega (arith, some, ap length e)))

fits : (s : Script) (h : Head) → IsWithin (closed (enter s h)) → HeadFits h
fits s (HProgram name language) w = tt
fits s (HJob j) w = all_last EntryIsWithin s.items (AJob j) w.fuels

pub head_stopped : (p : LineStop) (text : List ℕ) (arena workers : ℕ) (items : List Entry) (programs jobs : List (List ℕ)) (rest line after : List ℕ) (n : ℕ) → Going text arena workers items programs jobs rest n → HasLine rest line after → IsStopped (head_of line) HeadFits p → FaultIs (HasCause text) (stop_of p n)
head_stopped stop.Line text arena workers items programs jobs rest line after n g h e = line_none text (Between (script_by arena workers items)) rest n line after g.reading h (ap (option_map (enter (script_by arena workers items))) e)
head_stopped stop.Count text arena workers items programs jobs rest line after n g h e =
    line_much text (Between (script_by arena workers items)) (enter (script_by arena workers items) e.x) rest n line after g.reading h (head_step (script_by arena workers items) line e.x e.is) (λ w. e.wide (fits (script_by arena workers items) e.x w))
head_stopped stop.Repeat text arena workers items programs jobs rest line after n g h e = absurd e
head_stopped stop.Memory text arena workers items programs jobs rest line after n g h e = tt

-- ---- a program

pub program_refused : (p : LineStop) (text : List ℕ) (arena workers : ℕ) (items : List Entry) (programs jobs : List (List ℕ)) (rest line after name : List ℕ) (language : Language) (n : ℕ) → Going text arena workers items programs jobs rest n → HasLine rest line after
    → head_of line ≡ Some (HProgram name language) → IsRefused 64 programs name p → FaultIs (HasCause text) (stop_of p n)
program_refused stop.Line text arena workers items programs jobs rest line after name language n g h e k = absurd k
program_refused stop.Count text arena workers items programs jobs rest line after name language n g h e k =
    let s : Script = script_by arena workers items in
    line_much text (Between (script_by arena workers items)) (Inside (script_by arena workers items) name language []) rest n line after g.reading h (head_step (script_by arena workers items) line (HProgram name language) e)
    (much_program (script_by arena workers items) name language [] (subst (λ l. 64 ≤ length l) g.programs_are k))
program_refused stop.Repeat text arena workers items programs jobs rest line after name language n g h e k =
    line_repeated text (Between (script_by arena workers items)) (Inside (script_by arena workers items) name language []) rest n line after g.reading h (head_step (script_by arena workers items) line (HProgram name language) e)
    (within_program (script_by arena workers items) name language [] g.reading.right.0.1 (subst (λ l. length l < 64) g.programs_are k.few))
    (twice_program (script_by arena workers items) name language [] (subst (λ l. stands l name ≡ true) g.programs_are k.old))
program_refused stop.Memory text arena workers items programs jobs rest line after name language n g h e k = tt

-- in the text of the program
inside : (text : List ℕ) (arena workers : ℕ) (items : List Entry) (programs jobs longer : List (List ℕ)) (rest line after name : List ℕ) (language : Language) (n : ℕ) → Going text arena workers items programs jobs rest n → HasLine rest line after
    → head_of line ≡ Some (HProgram name language) → IsAdded 64 programs name longer → (body : List ℕ)
    → IsWithin (add (script_by arena workers items) (program_by name language body))
    × HasOnce (add (script_by arena workers items) (program_by name language body))
inside text arena workers items programs jobs longer rest line after name language n g h e k body = (
  within_program (script_by arena workers items) name language body g.reading.right.0.1 (subst (λ l. length l < 64) g.programs_are k.few),
  once_program (script_by arena workers items) name language body g.reading.right.1 (subst (λ l. stands l name ≡ false) g.programs_are k.new),
)

first : (text : List ℕ) (arena workers : ℕ) (items : List Entry) (programs jobs longer : List (List ℕ)) (rest line after name : List ℕ) (language : Language) (n : ℕ) → Going text arena workers items programs jobs rest n → HasLine rest line after
    → head_of line ≡ Some (HProgram name language) → IsAdded 64 programs name longer → Reading script_machine text (Inside (script_by arena workers items) name language []) after (suc n)
first text arena workers items programs jobs longer rest line after name language n g h e k =
    let p = inside text arena workers items programs jobs longer rest line after name language n g h e k [] in
    line_step text (Between (script_by arena workers items)) (Inside (script_by arena workers items) name language []) rest n line after g.reading h (head_step (script_by arena workers items) line (HProgram name language) e) p.0 p.1

behind : (text : List ℕ) (arena workers : ℕ) (items : List Entry) (programs jobs longer : List (List ℕ)) (rest line after name : List ℕ) (language : Language) (n : ℕ) → Going text arena workers items programs jobs rest n → HasLine rest line after
    → head_of line ≡ Some (HProgram name language) → IsAdded 64 programs name longer → (lines : List (List ℕ)) (left : List ℕ)
    → AllByRecursion IsTextLine lines → after ≡ text_of_lines lines ++ left
    → Reading script_machine text (Inside (script_by arena workers items) name language (text_of_lines lines)) left (suc n + length lines)
behind text arena workers items programs jobs longer rest line after name language n g h e k lines left each parts =
    let p = inside text arena workers items programs jobs longer rest line after name language n g h e k (text_of_lines lines) in
    lines_step text (Inside (script_by arena workers items) name language []) (Inside (script_by arena workers items) name language (text_of_lines lines)) after (text_of_lines lines) left (suc n)
    (first text arena workers items programs jobs longer rest line after name language n g h e k) (record { lines = lines; each = lines_one lines each; is = refl; run = body_run (script_by arena workers items) name language [] lines each }) parts p.0 p.1

pub program_open : (text : List ℕ) (arena workers : ℕ) (items : List Entry) (programs jobs longer : List (List ℕ)) (rest line after name : List ℕ) (language : Language) (n size : ℕ) → Going text arena workers items programs jobs rest n → HasLine rest line after
    → head_of line ≡ Some (HProgram name language) → IsAdded 64 programs name longer → IsOpen after size → IsLineFault text (n + 1 + size)
program_open text arena workers items programs jobs longer rest line after name language n size g h e k o =
    let r = behind text arena workers items programs jobs longer rest line after name language n g h e k o.lines o.left o.each o.parts in
    let same : suc n + length o.lines ≡ n + 1 + size = omega (arith, o.count) in
    subst (IsLineFault text) same (line_early text (Inside (script_by arena workers items) name language (text_of_lines o.lines)) o.left (suc n + length o.lines) r o.one (λ e. refl))

pub program_done : (text : List ℕ) (arena workers : ℕ) (items : List Entry) (programs jobs longer : List (List ℕ)) (rest line after name : List ℕ) (language : Language) (n size : ℕ) (body left : List ℕ) → Going text arena workers items programs jobs rest n → HasLine rest line after
    → head_of line ≡ Some (HProgram name language) → IsAdded 64 programs name longer → HasBody after body left size → Going text arena workers (items ++ program_by name language body ∷ []) longer jobs left (n + 2 + size)
program_done text arena workers items programs jobs longer rest line after name language n size body left g h e k b =
    let r = behind text arena workers items programs jobs longer rest line after name language n g h e k b.lines (46 ∷ 10 ∷ left) b.each (b.parts ∙ ap (λ l. l ++ (46 ∷ 10 ∷ left)) b.is) in
    let p = inside text arena workers items programs jobs longer rest line after name language n g h e k (text_of_lines b.lines) in
    let last = line_step text (Inside (script_by arena workers items) name language (text_of_lines b.lines)) (Between (add (script_by arena workers items) (program_by name language (text_of_lines b.lines)))) (46 ∷ 10 ∷ left) (suc n + length b.lines) (codes ".") left r
    (record { parts = refl; one = refl }) refl p.0 p.1 in
    let number : suc (suc n + length b.lines) ≡ n + 2 + size = omega (arith, b.count) in
    record {
      reading = subst (Reading script_machine text (Between (script_by arena workers (items ++ program_by name language body ∷ []))) left) number
          (subst (λ l. Reading script_machine text (Between (script_by arena workers (items ++ program_by name language l ∷ []))) left (suc (suc n + length b.lines))) (sym b.is) last);
      programs_are = k.is ∙ ap (λ l. l ++ name ∷ []) g.programs_are ∙ sym (programs_append items (program_by name language body ∷ []));
      jobs_are = g.jobs_are ∙ sym (jobs_append items (program_by name language body ∷ []) ∙ append-nil (job_names items));
    }

-- ---- a job

pub job_refused : (p : LineStop) (text : List ℕ) (arena workers : ℕ) (items : List Entry) (programs jobs : List (List ℕ)) (rest line after : List ℕ) (j : Job) (n : ℕ) → Going text arena workers items programs jobs rest n → HasLine rest line after
    → head_of line ≡ Some (HJob j) → IsUpTo 1099511627776 j.fuel → IsRefused 4096 jobs j.name p → FaultIs (HasCause text) (stop_of p n)
job_refused stop.Line text arena workers items programs jobs rest line after j n g h e f k = absurd k
job_refused stop.Count text arena workers items programs jobs rest line after j n g h e f k =
    line_much text (Between (script_by arena workers items)) (Between (add (script_by arena workers items) (AJob j))) rest n line after g.reading h (head_step (script_by arena workers items) line (HJob j) e)
    (much_job (script_by arena workers items) j (subst (λ l. 4096 ≤ length l) g.jobs_are k))
job_refused stop.Repeat text arena workers items programs jobs rest line after j n g h e f k =
    line_repeated text (Between (script_by arena workers items)) (Between (add (script_by arena workers items) (AJob j))) rest n line after g.reading h (head_step (script_by arena workers items) line (HJob j) e)
    (within_job (script_by arena workers items) j g.reading.right.0.1 (subst (λ l. length l < 4096) g.jobs_are k.few) f)
    (twice_job (script_by arena workers items) j (subst (λ l. stands l j.name ≡ true) g.jobs_are k.old))
job_refused stop.Memory text arena workers items programs jobs rest line after j n g h e f k = tt

pub job_done : (text : List ℕ) (arena workers : ℕ) (items : List Entry) (programs jobs longer : List (List ℕ)) (rest line after : List ℕ) (j : Job) (n : ℕ) → Going text arena workers items programs jobs rest n → HasLine rest line after
    → head_of line ≡ Some (HJob j) → IsUpTo 1099511627776 j.fuel → IsAdded 4096 jobs j.name longer → Going text arena workers (items ++ AJob j ∷ []) programs longer after (n + 1)
job_done text arena workers items programs jobs longer rest line after j n g h e f k =
    let number : suc n ≡ n + 1 = omega arith in
    record {
      reading = subst (Reading script_machine text (Between (script_by arena workers (items ++ AJob j ∷ []))) after) number
          (line_step text (Between (script_by arena workers items)) (Between (add (script_by arena workers items) (AJob j))) rest n line after g.reading h (head_step (script_by arena workers items) line (HJob j) e)
          (within_job (script_by arena workers items) j g.reading.right.0.1 (subst (λ l. length l < 4096) g.jobs_are k.few) f)
          (once_job (script_by arena workers items) j g.reading.right.1 (subst (λ l. stands l j.name ≡ false) g.jobs_are k.new)));
      programs_are = g.programs_are ∙ sym (programs_job (script_by arena workers items) j);
      jobs_are = k.is ∙ ap (λ l. l ++ j.name ∷ []) g.jobs_are ∙ sym (names_job (script_by arena workers items) j);
    }
