-- Private: words for functions of this crate.
-- The answers that faults of the single stages are, and what stands behind the answer to a program's code.
use Rattle.std.specs.Prelude.{Option, Some}
use Rattle.stops.specs.declared.stop.Stop.TheVariants.{Fault, Memory}
use Rattle.cause_texts.specs.declared.cause.Cause.{Cause}
use Rattle.stops.specs.declared.stop.Stop.{Stop}
use Rattle.camelot_grammar.specs.declared.fault.ParseFault.{ParseFault}
use Rattle.camelot_types.specs.declared.fault.TypeFault.{TypeFault}
use Rattle.linear_use.specs.declared.fault.UseFault.{UseFault}
use Rattle.normal_form.specs.declared.fault.NormalFault.{NormalFault}
use Rattle.grail_code.specs.Code.{Code}
use Rattle.lp_constraints.specs.declared.fault.NoCert.{NoCert}
use Rattle.lp_constraints.specs.declared.fault.NoCert.TheVariants as no_cert
use Rattle.cause_texts.specs.declared.cause.Cause.TheVariants as cause
use Rattle.camelot_compiler.specs.Compiled.{Compiled, Bundled, Refused, HasCertificate, NoneGrants}

-- a fault of a stage is a cause, and want of memory is one wherever it is met
abbrev pub parse_fault : Stop ParseFault → Stop Cause
parse_fault (Fault fault) = Fault (cause.Parse fault)
parse_fault Memory = Memory

abbrev pub type_fault : Stop TypeFault → Stop Cause
type_fault (Fault fault) = Fault (cause.Types fault)
type_fault Memory = Memory

abbrev pub use_fault : Stop UseFault → Stop Cause
use_fault (Fault fault) = Fault (cause.Uses fault)
use_fault Memory = Memory

abbrev pub normal_fault : Stop NormalFault → Stop Cause
normal_fault (Fault fault) = Fault (cause.Normal fault)
normal_fault Memory = Memory

abbrev pub inference_fault : Stop NoCert → Stop Cause
inference_fault (Fault fault) = Fault (cause.NoCert fault)
inference_fault Memory = Memory

-- what stands behind this answer to a program with this code
abbrev pub Stands : Option Compiled → Code → Type 0
Stands (Some (Bundled code cert)) p = HasCertificate code cert p
Stands (Some (Refused (cause.NoCert no_cert.NoBound))) p = NoneGrants p
Stands o p = Unit {0}
