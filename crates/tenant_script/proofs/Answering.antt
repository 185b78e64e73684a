-- The answers of the reader, from the laws that a text has one script or one fault.
use Rattle.std.proofs.Common.{◌≡◌, ℕ, ◌<◌, ◌≤◌, true, List, refl, sym, ap, ◌∙◌, arith}
use Rattle.text_lines.specs.Formats.{IsFault as IsFaultOf, IsSame}
use Rattle.text_lines.specs.FormatLaws.{faults_one}
use Rattle.text_lines.specs.Machines.{IsWhole}
use Rattle.text_lines.specs.OptionLaws.{true_false}
use Rattle.text_lines.specs.ReadingLaws.{no_fault, values_one}
use Rattle.stops.specs.Stopping.{FaultIs, IsFault}
use Rattle.stops.specs.declared.stop.Stop.{Stop}
use Rattle.stops.specs.declared.stop.Stop.TheVariants.{Fault, Memory}
use Rattle.tenant_script.specs.Tenants.{Tenant, Entry, TenantScript}
use Rattle.tenant_script.specs.Text.{tenants_format, IsTenantsText}
use Rattle.tenant_script.specs.Reading.{script_by, tenants_machine}
use Rattle.tenant_script.specs.StateLaws.{tenants_shows}
use Rattle.tenant_script.specs.Answers.{HasCause}
use Rattle.tenant_script.specs.Parts.{kind_of as number_of, fault_of, state_by}
use Rattle.tenant_script.specs.declared.fault.TenantFault.{TenantFault}
use Rattle.tenant_script.specs.declared.fault.TenantFault.TheVariants as fault
use Rattle.tenant_script.specs.declared.fault.Kind.{Kind}
use Rattle.tenant_script.specs.declared.fault.Kind.TheVariants as kind
use Rattle.tenant_script.specs.declared.reading.Stage.{Stage}
use Rattle.tenant_script.specs.declared.reading.Stage.TheVariants as stage

-- a text may end between two entries alone, and is then that of the script that was read
pub whole : (text : List ℕ) (s : Stage) (arena : ℕ) (ts : List Tenant) (es : List Entry) → IsWhole tenants_machine text (state_by s arena ts es)
    → IsTenantsText text (script_by arena ts es)
whole text stage.Start arena ts es h = absurd (true_false true refl (sym h.ends))
whole text stage.Sized arena ts es h = absurd (true_false true refl (sym h.ends))
whole text stage.Between arena ts es h = h.is
whole text (stage.Inside name language block size) arena ts es h = absurd (true_false true refl (sym h.ends))

pub script_same : (text : List ℕ) (found script : TenantScript) → IsTenantsText text found → IsTenantsText text script → found ≡ script
script_same text found script h k = values_one tenants_machine tenants_shows found script h.right.0.0.0 k.right.0.0.0 (h.is ∙ sym k.is)

-- ---- faults by their kinds

abbrev kind_of : TenantFault → ℕ
kind_of (fault.Line n) = 0
kind_of (fault.Count n) = 1
kind_of (fault.Repeat n) = 2
kind_of (fault.Tenant n) = 3

abbrev line_of : TenantFault → ℕ
line_of (fault.Line n) = n
line_of (fault.Count n) = n
line_of (fault.Repeat n) = n
line_of (fault.Tenant n) = n

known : (f : TenantFault) → kind_of f ≤ 3
known (fault.Line n) = omega arith
known (fault.Count n) = omega arith
known (fault.Repeat n) = omega arith
known (fault.Tenant n) = omega arith

cause : (text : List ℕ) (f : TenantFault) → HasCause text f → IsFaultOf tenants_format (kind_of f) text (line_of f)
cause text (fault.Line n) h = h
cause text (fault.Count n) h = h
cause text (fault.Repeat n) h = h
cause text (fault.Tenant n) h = h

pub found_cause : (text : List ℕ) (k : Kind) (n : ℕ) → IsFaultOf tenants_format (number_of k) text n → HasCause text (fault_of k n)
found_cause text kind.Line n h = h
found_cause text kind.Count n h = h
found_cause text kind.Repeat n h = h
found_cause text kind.Tenant n h = h

-- two kinds stand in no text together
pub faults_apart : (text : List ℕ) (j k m n : ℕ) → j < k → k ≤ 3 → IsFaultOf tenants_format j text m → IsFaultOf tenants_format k text n → ⊥
faults_apart text j k m n less most h g = absurd (omega (arith, less, (faults_one tenants_format text j k m n (omega (arith, less, most)) most h g).kind))

pub fault_script : (text : List ℕ) (f : TenantFault) (script : TenantScript) → HasCause text f → IsTenantsText text script → ⊥
fault_script text f script h k = no_fault tenants_machine tenants_shows text script (kind_of f) (line_of f) (known f) k (cause text f h)

pub script_stop : (text : List ℕ) (s : Stop TenantFault) (script : TenantScript) → FaultIs (HasCause text) s → IsTenantsText text script → s ≡ Memory
script_stop text (Fault f) script h k = absurd (fault_script text f script h k)
script_stop text Memory script h k = refl

same_fault : (f g : TenantFault) → IsSame (kind_of f) (kind_of g) (line_of f) (line_of g) → f ≡ g
same_fault (fault.Line m) (fault.Line n) s = ap (λ l. fault.Line l) s.line
same_fault (fault.Line m) (fault.Count n) s = absurd (omega (arith, s.kind))
same_fault (fault.Line m) (fault.Repeat n) s = absurd (omega (arith, s.kind))
same_fault (fault.Line m) (fault.Tenant n) s = absurd (omega (arith, s.kind))
same_fault (fault.Count m) (fault.Line n) s = absurd (omega (arith, s.kind))
same_fault (fault.Count m) (fault.Count n) s = ap (λ l. fault.Count l) s.line
same_fault (fault.Count m) (fault.Repeat n) s = absurd (omega (arith, s.kind))
same_fault (fault.Count m) (fault.Tenant n) s = absurd (omega (arith, s.kind))
same_fault (fault.Repeat m) (fault.Line n) s = absurd (omega (arith, s.kind))
same_fault (fault.Repeat m) (fault.Count n) s = absurd (omega (arith, s.kind))
same_fault (fault.Repeat m) (fault.Repeat n) s = ap (λ l. fault.Repeat l) s.line
same_fault (fault.Repeat m) (fault.Tenant n) s = absurd (omega (arith, s.kind))
same_fault (fault.Tenant m) (fault.Line n) s = absurd (omega (arith, s.kind))
same_fault (fault.Tenant m) (fault.Count n) s = absurd (omega (arith, s.kind))
same_fault (fault.Tenant m) (fault.Repeat n) s = absurd (omega (arith, s.kind))
same_fault (fault.Tenant m) (fault.Tenant n) s = ap (λ l. fault.Tenant l) s.line

pub fault_due : (text : List ℕ) (s : Stop TenantFault) (due : TenantFault) → FaultIs (HasCause text) s → HasCause text due → IsFault due s
fault_due text (Fault f) due h k =
    same_fault f due (faults_one tenants_format text (kind_of f) (kind_of due) (line_of f) (line_of due) (known f) (known due) (cause text f h) (cause text due k))
fault_due text Memory due h k = tt
