-- Cited by contracts.
-- The verifier's yes, without its refusals: the bytes spell well-formed code, the others are the text of a certificate,
-- and the certificate grants the code.
use Rattle.std.specs.Prelude.{◌≡◌, ℕ, List}
use Rattle.grail_code.specs.Spelling.{IsSpelling}
use Rattle.grail_code.specs.WellFormed.{IsWellFormed}
use Rattle.certificate.specs.Certificates.{IsCert}
use Rattle.certificate.specs.Text.{text_of}
use Rattle.licence.specs.Fitting.{Grants}
use Rattle.licence.specs.Licensed.{Licensed}

pub record IsAccepted (code cert : List ℕ) (l : Licensed) : Type 0 where
  -- the bytes spell the licence's code
  pub spelled : IsSpelling l.code code
  -- this code is well formed
  pub well : IsWellFormed l.code
  -- the licence's certificate has the form of certificates, within their limits
  pub formed : IsCert l.cert
  -- the bytes beside the code's are its text
  pub text : text_of l.cert ≡ cert
  -- it fits the code and pays for every run
  pub granted : Grants l.code l.cert
