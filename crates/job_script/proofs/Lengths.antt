-- How long the entries of a script are, and how many there are.
use Rattle.std.proofs.Common.{◌≡◌, ℕ, ◌+◌, ◌≤◌, List, [], ◌∷◌, ◌++◌, length, refl, subst, arith, length-append}
use Rattle.std.specs.Prelude.{flat_map, codes}
use Rattle.std.specs.List.{AllByRecursion}
use Rattle.text_lines.specs.Lines.{text_of_lines}
use Rattle.text_lines.specs.Numbers.{number}
use Rattle.job_script.specs.Scripts.{Job, Entry, AProgram, AJob, Script, IsScript, program_names, job_names}
use Rattle.job_script.specs.Text.{arena_line, workers_line, program_line, args_part, job_line, entry_text, script_text, IsScriptText, EntryIsShort}

longer_left : (xs ys : List ℕ) → length xs ≤ length (xs ++ ys)
longer_left xs ys = omega (arith, length-append xs ys)

longer_right : (xs ys : List ℕ) → length ys ≤ length (xs ++ ys)
longer_right xs ys = omega (arith, length-append xs ys)

args_long : (args : List ℕ) → length args ≤ length (args_part args)
args_long [] = omega arith
args_long (b ∷ bs) = omega arith

-- what stands behind a word and a space
behind : (w r : List ℕ) → length r ≤ length (w ++ 32 ∷ r)
behind w r = omega (arith, length-append w (32 ∷ r))

job_long : (j : Job) → length (args_part j.args) ≤ length (job_line j)
job_long j =
    omega (
      arith,
      longer_right (number j.fuel) (args_part j.args),
      behind j.entry (number j.fuel ++ args_part j.args),
      behind j.program (j.entry ++ 32 ∷ (number j.fuel ++ args_part j.args)),
      behind j.name (j.program ++ 32 ∷ (j.entry ++ 32 ∷ (number j.fuel ++ args_part j.args))),
      behind (codes "job") (j.name ++ 32 ∷ (j.program ++ 32 ∷ (j.entry ++ 32 ∷ (number j.fuel ++ args_part j.args)))),
    )

entry_long : (e : Entry) → EntryIsShort (length (entry_text e)) e
entry_long (AProgram p) =
    let a = longer_left p.text (text_of_lines (codes "." ∷ [])) in
    let b = longer_right (text_of_lines (program_line p.name p.language ∷ [])) (p.text ++ text_of_lines (codes "." ∷ [])) in
    omega (arith, a, b)
entry_long (AJob j) = omega (arith, args_long j.args, job_long j, longer_left (job_line j ++ 10 ∷ []) [], longer_left (job_line j) (10 ∷ []))

short_more : (m n : ℕ) (e : Entry) → m ≤ n → EntryIsShort m e → EntryIsShort n e
short_more m n (AProgram p) h k = omega (arith, h, k)
short_more m n (AJob j) h k = omega (arith, h, k)

entries_short : (n : ℕ) (es : List Entry) → length (flat_map entry_text es) ≤ n → AllByRecursion (EntryIsShort n) es
entries_short n [] h = tt
entries_short n (e ∷ es) h =
    (short_more (length (entry_text e)) n e (omega (arith, h, longer_left (entry_text e) (flat_map entry_text es))) (entry_long e), entries_short n es (omega (arith, h, longer_right (entry_text e) (flat_map entry_text es))))

pub script_short : (text : List ℕ) (s : Script) → IsScriptText text s → AllByRecursion (EntryIsShort (length text)) s.items
unfolding script_text
script_short text s h =
    entries_short (length text) s.items
    (subst (λ t. length (flat_map entry_text s.items) ≤ length t) h.is (longer_right (text_of_lines (arena_line s.arena ∷ workers_line s.workers ∷ [])) (flat_map entry_text s.items)))

pub entries_count : (es : List Entry) → length es ≡ length (program_names es) + length (job_names es)
entries_count [] = refl
entries_count (AProgram p ∷ es) = omega (arith, entries_count es)
entries_count (AJob j ∷ es) = omega (arith, entries_count es)

pub entries_few : (s : Script) → IsScript s → length s.items ≤ 4160
entries_few s h = omega (arith, entries_count s.items, h.within.programs, h.within.jobs)
