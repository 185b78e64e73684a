-- Cited by contracts.
-- The script of the drill: so many jobs of one program on so many workers. Job `i` doubles the list of the ints from 1
-- to the remainder of 37 * `i` by 1000, and each hundredth job has too little fuel for it.
use Rattle.std.specs.Prelude.{ℕ, zero, suc, ◌*◌, ◌%◌, ◌==◌, if◌then◌else◌, List, [], ◌∷◌, ◌++◌, replicate, codes}
use Rattle.text_lines.specs.Numbers.{number}
use Rattle.job_script.specs.Scripts.{Program, Job, Entry, AProgram, AJob, Script}
use Rattle.job_script.specs.declared.types.Language.TheVariants.{Camelot}

-- lists, and the function that doubles one
unfoldable pub made_source : List ℕ
made_source = codes "type ilist = !Nil | Cons of int * ilist\n" ++ codes "let dup l = match l with Nil -> Nil | Cons(h, t)@_ -> let r = dup t in Cons(h, Cons(h, r)) end\n"

abbrev pub made_program : Program
made_program = record { name = codes "drill"; language = Camelot; text = made_source }

-- `Cons(1,Cons(2,` and so on: so many ints, from this one on
abbrev pub heads : (count first : ℕ) → List ℕ
heads zero first = []
heads (suc count) first = (codes "Cons(" ++ (number first ++ codes ",")) ++ heads count (suc first)

-- the list of the ints from 1 on, so many
unfoldable pub list_text : ℕ → List ℕ
list_text count = heads count 1 ++ (codes "Nil" ++ replicate count 41)

-- enough fuel for the call and each item, but for each hundredth job
abbrev pub made_fuel : ℕ → ℕ
made_fuel i = if i % 100 == 0 then 5 else 2000

abbrev pub made_items : ℕ → ℕ
made_items i = (37 * i) % 1000

-- the name of job `i`: the letter j and the number
abbrev pub made_name : ℕ → List ℕ
made_name i = 106 ∷ number i

-- the text of its list
abbrev pub made_list : ℕ → List ℕ
made_list i = list_text (made_items i)

-- what so many numbers have, from this one on
abbrev pub counted : (ℕ → List ℕ) → (count first : ℕ) → List (List ℕ)
counted f zero first = []
counted f (suc count) first = f first ∷ counted f count (suc first)

abbrev pub made_job : ℕ → Job
made_job i = record { name = made_name i; program = codes "drill"; entry = codes "dup"; fuel = made_fuel i; args = made_list i }

-- so many jobs, from this one on
abbrev pub made_jobs : (count first : ℕ) → List Entry
made_jobs zero first = []
made_jobs (suc count) first = AJob (made_job first) ∷ made_jobs count (suc first)

unfoldable pub made_script : (jobs workers : ℕ) → Script
made_script jobs workers = record { arena = 4096; workers = workers; items = AProgram made_program ∷ made_jobs jobs 1 }
