-- The answers of the reader, from the law that a text has one certificate or one fault.
use Rattle.std.proofs.Common.{◌≡◌, ℕ, List, sym, ◌∙◌}
use Rattle.std.specs.Prelude.{codes}
use Rattle.stops.specs.Stopping.{FaultIs}
use Rattle.stops.specs.declared.stop.Stop.{Stop}
use Rattle.stops.specs.declared.stop.Stop.TheVariants.{Fault, Memory}
use Rattle.certificate.specs.Text.{text_of, IsLineFault, IsNumberFault}
use Rattle.certificate.specs.Certificates.{Cert, FuncCert, IsCert}
use Rattle.certificate.specs.Answers.{IsFault, IsMemory, IsLineAt, IsNumberAt}
use Rattle.certificate.specs.declared.reading.CertFault.{CertFault}
use Rattle.certificate.specs.declared.reading.CertFault.TheVariants as fault
use Rattle.certificate.specs.Reading.{add_line, IsStopped}
use Rattle.text_lines.specs.Cuts.{words}
use Rattle.certificate.specs.Steps.{AreWithin, Reading}
use Rattle.text_lines.specs.Lines.{HasLine}
use Rattle.certificate.specs.Faults.{fault_of}
use Rattle.certificate.specs.declared.stop.LineStop.{LineStop}
use Rattle.certificate.specs.declared.stop.LineStop.TheVariants as stop
use Rattle.certificate.proofs.Stopping.{line_wrong, line_wide}
use Rattle.certificate.specs.TextLaws.{line_faults_one, number_faults_one, faults_apart, no_line_fault, no_number_fault, texts_one}

pub cert_same : (text : List ℕ) (found cert : Cert) → IsCert found → text_of found ≡ text → IsCert cert → text_of cert ≡ text → found ≡ cert
cert_same text found cert h e k f = texts_one found cert h k (e ∙ sym f)

pub cert_fault : (text : List ℕ) (s : Stop CertFault) (cert : Cert) → FaultIs (IsFault text) s → IsCert cert → text_of cert ≡ text → IsMemory s
cert_fault text (Fault (fault.Line n)) cert h k e = no_line_fault text n cert k e h
cert_fault text (Fault (fault.Number n)) cert h k e = no_number_fault text n cert k e h
cert_fault text Memory cert h k e = tt

pub line_found : (text : List ℕ) (found : Cert) (n : ℕ) → IsCert found → text_of found ≡ text → IsLineFault text n → ⊥
line_found text found n h e f = no_line_fault text n found h e f

pub line_fault : (text : List ℕ) (s : Stop CertFault) (n : ℕ) → FaultIs (IsFault text) s → IsLineFault text n → IsLineAt n s
line_fault text (Fault (fault.Line m)) n h k = line_faults_one text m n h k
line_fault text (Fault (fault.Number m)) n h k = faults_apart text n m k h
line_fault text Memory n h k = tt

pub number_found : (text : List ℕ) (found : Cert) (n : ℕ) → IsCert found → text_of found ≡ text → IsNumberFault text n → ⊥
number_found text found n h e f = no_number_fault text n found h e f

pub number_fault : (text : List ℕ) (s : Stop CertFault) (n : ℕ) → FaultIs (IsFault text) s → IsNumberFault text n → IsNumberAt n s
number_fault text (Fault (fault.Line m)) n h k = faults_apart text m n h k
number_fault text (Fault (fault.Number m)) n h k = number_faults_one text m n h k
number_fault text Memory n h k = tt

-- a stop at a line
pub stop_fault : (s : LineStop) (text : List ℕ) (unit : ℕ) (fs : List FuncCert) (rest line after : List ℕ) (n : ℕ) → Reading text unit fs rest n
    → HasLine rest line after → (line ≡ codes "end" → ⊥) → IsStopped (add_line (words line) fs) AreWithin s → FaultIs (IsFault text) (fault_of s n)
stop_fault stop.Line text unit fs rest line after n r h e k = line_wrong text unit fs rest line after n r h e k
stop_fault stop.Number text unit fs rest line after n r h e k = line_wide text unit fs rest line after n r h e k
stop_fault stop.Memory text unit fs rest line after n r h e k = tt
