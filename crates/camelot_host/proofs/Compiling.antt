-- What is due for a source.
use Rattle.std.proofs.Common.{◌≡◌, ℕ, List}
use Rattle.cause_texts.specs.declared.cause.Cause.{Cause}
use Rattle.camelot_compiler.specs.Compiled as compiler
use Rattle.camelot_compiler.specs.Compiled.{IsCompiled}
use Rattle.grail_bundle.specs.Bundles.{bundle_text}
use Rattle.camelot_host.specs.Due.{IsBundleOf, IsRefusalOf, refused_line}

pub is_bundle : (input output code cert : List ℕ) → IsCompiled input (compiler.Bundled code cert) → output ≡ bundle_text code cert → IsBundleOf input output
is_bundle input output code cert compiled is = record { code = code; cert = cert; compiled = compiled; is = is }

pub is_refusal : (input output : List ℕ) (cause : Cause) → IsCompiled input (compiler.Refused cause) → output ≡ refused_line cause → IsRefusalOf input output
is_refusal input output cause compiled is = record { cause = cause; compiled = compiled; is = is }
