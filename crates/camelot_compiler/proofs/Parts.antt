-- A bundle has its parts: no spelling of code is empty, and each certificate's text begins with the same line.
use Rattle.std.proofs.Common.{◌≡◌, ℕ, ◌≤◌, List, length, take, refl, sym, subst, arith}
use Rattle.grail_code.specs.Code.{Code}
use Rattle.grail_code.specs.Spelling.{Second, spelling}
use Rattle.certificate.specs.Certificates.{Cert}
use Rattle.certificate.specs.Text.{text_of}
use Rattle.grail_bundle.specs.Bundles.{first_line, HasParts}

some_code : (p : Code) → 1 ≤ length (spelling Second p)
some_code p = omega arith

first_of : (c : Cert) → take (length first_line) (text_of c) ≡ first_line
unfolding text_of
first_of c = refl

pub has_parts : (p : Code) (c : Cert) (code cert : List ℕ) → code ≡ spelling Second p → cert ≡ text_of c → HasParts (record { code = code; cert = cert })
has_parts p c code cert e f = record {
  code = subst (λ l. 1 ≤ length l) (sym e) (some_code p);
  cert = subst (λ l. take (length first_line) l ≡ first_line) (sym f) (first_of c);
}
