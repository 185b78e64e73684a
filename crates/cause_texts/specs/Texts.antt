-- Cited by contracts.
-- The text of each cause of a refusal: words with one space between two, names by their bytes, numbers in decimal. Want
-- of memory is no cause and has no text.
use Rattle.std.specs.Prelude.{ℕ, List, [], ◌++◌, codes, decimal}
use Rattle.text_scan.specs.declared.fault.ScanFault.{ScanFault}
use Rattle.text_scan.specs.declared.fault.ScanFault.TheVariants as scan
use Rattle.camelot_grammar.specs.declared.fault.ParseFault.{ParseFault}
use Rattle.camelot_grammar.specs.declared.fault.ParseFault.TheVariants as parse
use Rattle.camelot_types.specs.declared.fault.TypeFault.{TypeFault}
use Rattle.camelot_types.specs.declared.fault.TypeFault.TheVariants as types
use Rattle.linear_use.specs.declared.fault.UseFault.{UseFault}
use Rattle.linear_use.specs.declared.fault.UseFault.TheVariants as uses
use Rattle.normal_form.specs.declared.fault.NormalFault.{NormalFault}
use Rattle.normal_form.specs.declared.fault.NormalFault.TheVariants as normal
use Rattle.lp_constraints.specs.declared.fault.NoCert.{NoCert}
use Rattle.lp_constraints.specs.declared.fault.NoCert.TheVariants as no_cert
use Rattle.grail_code.specs.declared.fault.DecodeFault.{DecodeFault}
use Rattle.grail_code.specs.declared.fault.DecodeFault.TheVariants as code_fault
use Rattle.grail_check.specs.declared.fault.CodeFault.{CodeFault}
use Rattle.grail_check.specs.declared.fault.CodeKind.{CodeKind}
use Rattle.grail_check.specs.declared.fault.CodeKind.TheVariants as kind
use Rattle.certificate.specs.declared.reading.CertFault.{CertFault}
use Rattle.certificate.specs.declared.reading.CertFault.TheVariants as cert_fault
use Rattle.grail_verifier.specs.declared.refusal.Refusal.{Refusal}
use Rattle.grail_verifier.specs.declared.refusal.Refusal.TheVariants as refusal
use Rattle.cause_texts.specs.declared.cause.Cause.{Cause}
use Rattle.cause_texts.specs.declared.cause.Cause.TheVariants as cause

-- ---- sources

unfoldable pub scan_text : ScanFault → List ℕ
scan_text (scan.BadCharacter at) = codes "bad-character at " ++ decimal at
scan_text (scan.OpenComment at) = codes "open-comment at " ++ decimal at
scan_text (scan.LongNumber at) = codes "long-number at " ++ decimal at
scan_text (scan.LongName at) = codes "long-name at " ++ decimal at

unfoldable pub parse_text : ParseFault → List ℕ
parse_text (parse.Scan fault) = scan_text fault
parse_text (parse.Unexpected token line) = codes "unexpected token " ++ decimal token ++ codes " line " ++ decimal line
parse_text (parse.TooDeep token line) = codes "too-deep token " ++ decimal token ++ codes " line " ++ decimal line
parse_text (parse.TypeParameter token line) = codes "type-parameter token " ++ decimal token ++ codes " line " ++ decimal line

unfoldable pub type_text : TypeFault → List ℕ
type_text (types.UnknownName name line) = codes "unknown-name " ++ name ++ codes " line " ++ decimal line
type_text (types.UnknownType name line) = codes "unknown-type " ++ name ++ codes " line " ++ decimal line
type_text (types.Duplicate name line) = codes "duplicate " ++ name ++ codes " line " ++ decimal line
type_text (types.Arity name have need line) = codes "arity " ++ name ++ codes " have " ++ decimal have ++ codes " need " ++ decimal need ++ codes " line " ++ decimal line
type_text (types.Clash left right line) = codes "clash " ++ left ++ codes " " ++ right ++ codes " line " ++ decimal line
type_text (types.MissingArm con line) = codes "missing-arm " ++ con ++ codes " line " ++ decimal line
type_text (types.RepeatedArm con line) = codes "repeated-arm " ++ con ++ codes " line " ++ decimal line
type_text (types.TooManyFields con have line) = codes "too-many-fields " ++ con ++ codes " have " ++ decimal have ++ codes " line " ++ decimal line
type_text (types.PlaceOnInline con line) = codes "place-on-inline " ++ con ++ codes " line " ++ decimal line
type_text (types.TooMany what have line) = codes "too-many " ++ what ++ codes " have " ++ decimal have ++ codes " line " ++ decimal line

unfoldable pub use_text : UseFault → List ℕ
use_text (uses.Twice name line) = codes "twice " ++ name ++ codes " line " ++ decimal line
use_text (uses.ReadMatch name line) = codes "read-match " ++ name ++ codes " line " ++ decimal line
use_text (uses.Lent name line) = codes "lent " ++ name ++ codes " line " ++ decimal line
use_text (uses.ReadResult name line) = codes "read-result " ++ name ++ codes " line " ++ decimal line

unfoldable pub normal_text : NormalFault → List ℕ
normal_text (normal.TooManyLocals name have) = codes "too-many-locals " ++ name ++ codes " have " ++ decimal have
normal_text (normal.TooManyBlocks name have) = codes "too-many-blocks " ++ name ++ codes " have " ++ decimal have

unfoldable pub inference_text : NoCert → List ℕ
inference_text (no_cert.TooMany unknowns rows) = codes "too-many-unknowns " ++ decimal unknowns ++ codes " rows " ++ decimal rows
inference_text no_cert.NoBound = codes "no-bound"
inference_text no_cert.Wide = codes "wide"
inference_text no_cert.Spent = codes "spent"

-- ---- bundles

unfoldable pub decode_text : DecodeFault → List ℕ
decode_text code_fault.Short = codes "code short"
decode_text (code_fault.Bad at) = codes "code bad at " ++ decimal at

unfoldable pub kind_word : CodeKind → List ℕ
kind_word kind.NoSuchEntry = codes "nosuchentry"
kind_word kind.Backward = codes "backward"
kind_word kind.Unbound = codes "unbound"
kind_word kind.Spent = codes "spent"
kind_word kind.Kind = codes "kind"
kind_word kind.Arms = codes "arms"
kind_word kind.Place = codes "place"
kind_word kind.Header = codes "header"
kind_word kind.Name = codes "name"
kind_word kind.Lent = codes "lent"

unfoldable pub code_text : CodeFault → List ℕ
code_text fault = codes "code " ++ kind_word fault.kind ++ codes " function " ++ decimal fault.func ++ codes " block " ++ decimal fault.block ++ codes " place " ++ decimal fault.place

unfoldable pub cert_text : CertFault → List ℕ
cert_text (cert_fault.Line number) = codes "certificate line " ++ decimal number
cert_text (cert_fault.Number line) = codes "certificate number line " ++ decimal line

unfoldable pub refusal_text : Refusal → List ℕ
refusal_text (refusal.Code fault) = decode_text fault
refusal_text (refusal.Kinds fault) = code_text fault
refusal_text (refusal.Cert fault) = cert_text fault
refusal_text (refusal.Shape func block) = codes "shape function " ++ decimal func ++ codes " block " ++ decimal block
refusal_text (refusal.Need func block place have need) =
    codes "need function " ++ decimal func ++ codes " block " ++ decimal block ++ codes " place " ++ decimal place ++ codes " have " ++ decimal have ++ codes " need " ++ decimal need
refusal_text (refusal.Weak func block place con have need) =
    codes "weak function " ++ decimal func ++ codes " block " ++ decimal block ++ codes " place " ++ decimal place ++ codes " con " ++ decimal con ++ codes " have " ++ decimal have ++ codes " need " ++ decimal need

-- ---- all

unfoldable pub cause_text : Cause → List ℕ
cause_text (cause.Parse fault) = parse_text fault
cause_text (cause.Types fault) = type_text fault
cause_text (cause.Uses fault) = use_text fault
cause_text (cause.Normal fault) = normal_text fault
cause_text (cause.NoCert fault) = inference_text fault
cause_text (cause.Bundle line) = codes "bundle line " ++ decimal line
cause_text (cause.Verify fault) = refusal_text fault
