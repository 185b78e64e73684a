-- The answers of the reader, from the laws that a text has one script or one fault.
use Rattle.std.proofs.Common.{◌≡◌, ℕ, ◌<◌, ◌≤◌, List, refl, sym, ap, ◌∙◌, arith}
use Rattle.text_lines.specs.Formats.{IsFault as IsFaultOf, IsSame}
use Rattle.text_lines.specs.FormatLaws.{faults_one}
use Rattle.text_lines.specs.ReadingLaws.{no_fault, values_one}
use Rattle.stops.specs.Stopping.{FaultIs, IsFault}
use Rattle.stops.specs.declared.stop.Stop.{Stop}
use Rattle.stops.specs.declared.stop.Stop.TheVariants.{Fault, Memory}
use Rattle.job_script.specs.Scripts.{Script}
use Rattle.job_script.specs.Text.{script_format, IsScriptText}
use Rattle.job_script.specs.Reading.{script_machine}
use Rattle.job_script.specs.StateLaws.{script_shows}
use Rattle.job_script.specs.Answers.{HasCause}
use Rattle.job_script.specs.declared.reading.ScriptFault.{ScriptFault}
use Rattle.job_script.specs.declared.reading.ScriptFault.TheVariants as fault

pub script_same : (text : List ℕ) (found script : Script) → IsScriptText text found → IsScriptText text script → found ≡ script
script_same text found script h k = values_one script_machine script_shows found script h.right.0.0 k.right.0.0 (h.is ∙ sym k.is)

-- ---- faults by their kinds

abbrev kind_of : ScriptFault → ℕ
kind_of (fault.Line n) = 0
kind_of (fault.Count n) = 1
kind_of (fault.Repeat n) = 2

abbrev line_of : ScriptFault → ℕ
line_of (fault.Line n) = n
line_of (fault.Count n) = n
line_of (fault.Repeat n) = n

known : (f : ScriptFault) → kind_of f ≤ 2
known (fault.Line n) = omega arith
known (fault.Count n) = omega arith
known (fault.Repeat n) = omega arith

cause : (text : List ℕ) (f : ScriptFault) → HasCause text f → IsFaultOf script_format (kind_of f) text (line_of f)
cause text (fault.Line n) h = h
cause text (fault.Count n) h = h
cause text (fault.Repeat n) h = h

-- two kinds stand in no text together
pub faults_apart : (text : List ℕ) (j k m n : ℕ) → j < k → k ≤ 2 → IsFaultOf script_format j text m → IsFaultOf script_format k text n → ⊥
faults_apart text j k m n less most h g = absurd (omega (arith, less, (faults_one script_format text j k m n (omega (arith, less, most)) most h g).kind))

pub fault_script : (text : List ℕ) (f : ScriptFault) (script : Script) → HasCause text f → IsScriptText text script → ⊥
fault_script text f script h k = no_fault script_machine script_shows text script (kind_of f) (line_of f) (known f) k (cause text f h)

pub script_stop : (text : List ℕ) (s : Stop ScriptFault) (script : Script) → FaultIs (HasCause text) s → IsScriptText text script → s ≡ Memory
script_stop text (Fault f) script h k = absurd (fault_script text f script h k)
script_stop text Memory script h k = refl

same_fault : (f g : ScriptFault) → IsSame (kind_of f) (kind_of g) (line_of f) (line_of g) → f ≡ g
same_fault (fault.Line m) (fault.Line n) s = ap (λ l. fault.Line l) s.line
same_fault (fault.Count m) (fault.Count n) s = ap (λ l. fault.Count l) s.line
same_fault (fault.Repeat m) (fault.Repeat n) s = ap (λ l. fault.Repeat l) s.line
same_fault (fault.Line m) (fault.Count n) s = absurd (omega (arith, s.kind))
same_fault (fault.Line m) (fault.Repeat n) s = absurd (omega (arith, s.kind))
same_fault (fault.Count m) (fault.Line n) s = absurd (omega (arith, s.kind))
same_fault (fault.Count m) (fault.Repeat n) s = absurd (omega (arith, s.kind))
same_fault (fault.Repeat m) (fault.Line n) s = absurd (omega (arith, s.kind))
same_fault (fault.Repeat m) (fault.Count n) s = absurd (omega (arith, s.kind))

pub fault_due : (text : List ℕ) (s : Stop ScriptFault) (due : ScriptFault) → FaultIs (HasCause text) s → HasCause text due → IsFault due s
fault_due text (Fault f) due h k =
    same_fault f due (faults_one script_format text (kind_of f) (kind_of due) (line_of f) (line_of due) (known f) (known due) (cause text f h) (cause text due k))
fault_due text Memory due h k = tt
