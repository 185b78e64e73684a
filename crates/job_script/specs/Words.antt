-- Cited by contracts.
-- The plain data of the code's types.
use Rattle.std.specs.Prelude.{◌≡◌, ℕ, min, List, map}
use Rattle.std.specs.Global.{Vec}
use Rattle.job_script.specs.Scripts.{Entry, AProgram, AJob, Script}
use Rattle.job_script.specs.declared.types.Entry.{Entry as DeclaredEntry}
use Rattle.job_script.specs.declared.types.Entry.TheVariants as entry
use Rattle.job_script.specs.declared.types.Script.{Script as DeclaredScript}
use Rattle.job_script.specs.declared.types.MadeTexts.{MadeTexts}
use Rattle.job_script.specs.Made.{counted, made_name, made_list}

abbrev pub entry_of : DeclaredEntry → Entry
entry_of (entry.Program name language text) = AProgram (record { name = name.now; language = language; text = text.now })
entry_of (entry.Job name program start fuel args) = AJob (record { name = name.now; program = program.now; entry = start.now; fuel = fuel; args = args.now })

abbrev pub script_of : DeclaredScript → Script
script_of s = record { arena = s.arena; workers = s.workers; items = map entry_of s.items.items }

abbrev pub text_of : Vec ℕ → List ℕ
text_of v = v.items

-- the names of so many jobs of the drill, and the texts of their lists, of the first 1,000 of them
pub record AreMade (count : ℕ) (t : MadeTexts) : Type 0 where
  pub names : t.names.items ≡ counted made_name count 1
  pub lists : map text_of t.lists.items ≡ counted made_list (min count 1000) 1
