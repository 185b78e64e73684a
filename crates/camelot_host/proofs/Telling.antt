-- The line of one cause is told by no other.
use Rattle.std.proofs.Common.{◌≡◌, ℕ, List, get_or, refl, ap, arith}
use Rattle.std.specs.Prelude.{codes}
use Rattle.text_scan.specs.declared.fault.ScanFault.TheVariants as scan
use Rattle.camelot_grammar.specs.declared.fault.ParseFault.TheVariants as parse
use Rattle.camelot_types.specs.declared.fault.TypeFault.TheVariants as types
use Rattle.linear_use.specs.declared.fault.UseFault.TheVariants as uses
use Rattle.normal_form.specs.declared.fault.NormalFault.TheVariants as normal
use Rattle.lp_constraints.specs.declared.fault.NoCert.TheVariants as no_cert
use Rattle.grail_code.specs.declared.fault.DecodeFault.TheVariants as code_fault
use Rattle.certificate.specs.declared.reading.CertFault.TheVariants as cert_fault
use Rattle.grail_verifier.specs.declared.refusal.Refusal.TheVariants as refusal
use Rattle.cause_texts.specs.declared.cause.Cause.{Cause}
use Rattle.cause_texts.specs.declared.cause.Cause.TheVariants as cause
use Rattle.cause_texts.specs.Texts.{scan_text, parse_text, type_text, use_text, normal_text, inference_text, decode_text, code_text, cert_text, refusal_text, cause_text}
use Rattle.camelot_host.specs.Due.{refused_line}

-- the first byte behind "refused ", and the one behind it
first : List ℕ → ℕ
first line = get_or line 8 0

second : List ℕ → ℕ
second line = get_or line 9 0

pub bound_told : (c : Cause) → refused_line c ≡ codes "refused no-bound\n" → c ≡ cause.NoCert no_cert.NoBound
unfolding first second refused_line cause_text scan_text parse_text type_text use_text normal_text inference_text decode_text code_text cert_text refusal_text
bound_told (cause.Parse (parse.Scan (scan.BadCharacter at))) h = let e : 98 ≡ 110 = ap first h in absurd (omega (arith, e))
bound_told (cause.Parse (parse.Scan (scan.OpenComment at))) h = let e : 111 ≡ 110 = ap first h in absurd (omega (arith, e))
bound_told (cause.Parse (parse.Scan (scan.LongNumber at))) h = let e : 108 ≡ 110 = ap first h in absurd (omega (arith, e))
bound_told (cause.Parse (parse.Scan (scan.LongName at))) h = let e : 108 ≡ 110 = ap first h in absurd (omega (arith, e))
bound_told (cause.Parse (parse.Unexpected token line)) h = let e : 117 ≡ 110 = ap first h in absurd (omega (arith, e))
bound_told (cause.Parse (parse.TooDeep token line)) h = let e : 116 ≡ 110 = ap first h in absurd (omega (arith, e))
bound_told (cause.Parse (parse.TypeParameter token line)) h = let e : 116 ≡ 110 = ap first h in absurd (omega (arith, e))
bound_told (cause.Types (types.UnknownName name line)) h = let e : 117 ≡ 110 = ap first h in absurd (omega (arith, e))
bound_told (cause.Types (types.UnknownType name line)) h = let e : 117 ≡ 110 = ap first h in absurd (omega (arith, e))
bound_told (cause.Types (types.Duplicate name line)) h = let e : 100 ≡ 110 = ap first h in absurd (omega (arith, e))
bound_told (cause.Types (types.Arity name have need line)) h = let e : 97 ≡ 110 = ap first h in absurd (omega (arith, e))
bound_told (cause.Types (types.Clash left right line)) h = let e : 99 ≡ 110 = ap first h in absurd (omega (arith, e))
bound_told (cause.Types (types.MissingArm con line)) h = let e : 109 ≡ 110 = ap first h in absurd (omega (arith, e))
bound_told (cause.Types (types.RepeatedArm con line)) h = let e : 114 ≡ 110 = ap first h in absurd (omega (arith, e))
bound_told (cause.Types (types.TooManyFields con have line)) h = let e : 116 ≡ 110 = ap first h in absurd (omega (arith, e))
bound_told (cause.Types (types.PlaceOnInline con line)) h = let e : 112 ≡ 110 = ap first h in absurd (omega (arith, e))
bound_told (cause.Types (types.TooMany what have line)) h = let e : 116 ≡ 110 = ap first h in absurd (omega (arith, e))
bound_told (cause.Uses (uses.Twice name line)) h = let e : 116 ≡ 110 = ap first h in absurd (omega (arith, e))
bound_told (cause.Uses (uses.ReadMatch name line)) h = let e : 114 ≡ 110 = ap first h in absurd (omega (arith, e))
bound_told (cause.Uses (uses.Lent name line)) h = let e : 108 ≡ 110 = ap first h in absurd (omega (arith, e))
bound_told (cause.Uses (uses.ReadResult name line)) h = let e : 114 ≡ 110 = ap first h in absurd (omega (arith, e))
bound_told (cause.Normal (normal.TooManyLocals name have)) h = let e : 116 ≡ 110 = ap first h in absurd (omega (arith, e))
bound_told (cause.Normal (normal.TooManyBlocks name have)) h = let e : 116 ≡ 110 = ap first h in absurd (omega (arith, e))
bound_told (cause.NoCert (no_cert.TooMany unknowns rows)) h = let e : 116 ≡ 110 = ap first h in absurd (omega (arith, e))
bound_told (cause.NoCert no_cert.NoBound) h = refl
bound_told (cause.NoCert no_cert.Wide) h = let e : 119 ≡ 110 = ap first h in absurd (omega (arith, e))
bound_told (cause.NoCert no_cert.Spent) h = let e : 115 ≡ 110 = ap first h in absurd (omega (arith, e))
bound_told (cause.Bundle line) h = let e : 98 ≡ 110 = ap first h in absurd (omega (arith, e))
bound_told (cause.Verify (refusal.Code code_fault.Short)) h = let e : 99 ≡ 110 = ap first h in absurd (omega (arith, e))
bound_told (cause.Verify (refusal.Code (code_fault.Bad at))) h = let e : 99 ≡ 110 = ap first h in absurd (omega (arith, e))
bound_told (cause.Verify (refusal.Kinds fault)) h = let e : 99 ≡ 110 = ap first h in absurd (omega (arith, e))
bound_told (cause.Verify (refusal.Cert (cert_fault.Line number))) h = let e : 99 ≡ 110 = ap first h in absurd (omega (arith, e))
bound_told (cause.Verify (refusal.Cert (cert_fault.Number line))) h = let e : 99 ≡ 110 = ap first h in absurd (omega (arith, e))
bound_told (cause.Verify (refusal.Shape func block)) h = let e : 115 ≡ 110 = ap first h in absurd (omega (arith, e))
bound_told (cause.Verify (refusal.Need func block place have need)) h = let e : 101 ≡ 111 = ap second h in absurd (omega (arith, e))
bound_told (cause.Verify (refusal.Weak func block place con have need)) h = let e : 119 ≡ 110 = ap first h in absurd (omega (arith, e))
