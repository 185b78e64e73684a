-- Each step of the reader, and each stop, as steps and stops of the format's machine.
use Rattle.std.proofs.Common.{◌≡◌, ℕ, suc, ◌+◌, List, [], ◌++◌, length, Some, None, false, arith}
use Rattle.text_lines.specs.Lines.{Free, HasLine}
use Rattle.text_lines.specs.Machines.{Leads, Reading}
use Rattle.text_lines.specs.ReadingLaws.{reading_next, reading_lines, reading_refused, reading_early, run_good}
use Rattle.job_script.specs.Scripts.{IsFormed, IsWithin, HasOnce}
use Rattle.job_script.specs.Text.{IsLineFault, IsCountFault, IsRepeatFault}
use Rattle.job_script.specs.Reading.{State, step, closed, may_end, script_machine}
use Rattle.job_script.specs.StateLaws.{step_formed, script_shows}

-- ---- a line without form

pub line_none : (text : List ℕ) (s : State) (rest : List ℕ) (n : ℕ) (line after : List ℕ) → Reading script_machine text s rest n → HasLine rest line after
    → step s line ≡ None → IsLineFault text n
line_none text s rest n line after r h e = reading_refused script_machine script_shows 0 text s rest line after n r h e

-- ---- a line in form

formed : (text : List ℕ) (s t : State) (rest : List ℕ) (n : ℕ) (line after : List ℕ) → Reading script_machine text s rest n → HasLine rest line after
    → step s line ≡ Some t → IsFormed (closed t)
formed text s t rest n line after r h e = step_formed s t line h.one r.right.0.0 e

pub line_much : (text : List ℕ) (s t : State) (rest : List ℕ) (n : ℕ) (line after : List ℕ) → Reading script_machine text s rest n → HasLine rest line after
    → step s line ≡ Some t → (IsWithin (closed t) → ⊥) → IsCountFault text n
line_much text s t rest n line after r h e wide =
    reading_refused script_machine script_shows 1 text s rest line after n r h (record { state = t; is = e; below = omega arith; meets = formed text s t rest n line after r h e; wrong = wide })

pub line_repeated : (text : List ℕ) (s t : State) (rest : List ℕ) (n : ℕ) (line after : List ℕ) → Reading script_machine text s rest n → HasLine rest line after
    → step s line ≡ Some t → IsWithin (closed t) → (HasOnce (closed t) → ⊥) → IsRepeatFault text n
line_repeated text s t rest n line after r h e w twice =
    reading_refused script_machine script_shows 2 text s rest line after n r h (record { state = t; is = e; below = omega arith; meets = (formed text s t rest n line after r h e, w); wrong = twice })

-- ---- going on

pub line_step : (text : List ℕ) (s t : State) (rest : List ℕ) (n : ℕ) (line after : List ℕ) → Reading script_machine text s rest n → HasLine rest line after
    → step s line ≡ Some t → IsWithin (closed t) → HasOnce (closed t) → Reading script_machine text t after (suc n)
line_step text s t rest n line after r h e w o =
    reading_next script_machine text s t rest line after n r h (record { is = e; right = ((formed text s t rest n line after r h e, w), o) })

-- several lines at once
pub lines_step : (text : List ℕ) (s t : State) (rest body after : List ℕ) (n : ℕ) → Reading script_machine text s rest n → (l : Leads script_machine s body t)
    → rest ≡ body ++ after → IsWithin (closed t) → HasOnce (closed t) → Reading script_machine text t after (n + length l.lines)
lines_step text s t rest body after n r l e w o =
    reading_lines script_machine text s t rest body after n r l e ((run_good script_machine script_shows s t l.lines l.each r.right.0.0 l.run, w), o)

-- ---- the end

pub line_early : (text : List ℕ) (s : State) (rest : List ℕ) (n : ℕ) → Reading script_machine text s rest n → Free 10 rest → (rest ≡ [] → may_end s ≡ false) → IsLineFault text n
line_early text s rest n r free unclosed = reading_early script_machine script_shows text s rest n r free unclosed
