-- Laws, for the proofs of this crate and of those above it.
-- The verdict is a yes exactly where the bytes are accepted.
use Rattle.std.proofs.Common.{ℕ, List, Ok, refl, sym, subst}
use Rattle.licence.specs.Licensed.{Licensed}
use Rattle.grail_verifier.specs.Accepted.{IsAccepted}
use Rattle.grail_verifier.specs.Verdicts.{IsVerdict}

pub accepted_of : (code cert : List ℕ) (l : Licensed) → IsVerdict code cert (Ok l) → IsAccepted code cert l
accepted_of code cert l h =
    let says = h.says.1.says in
    subst (IsAccepted code cert) (sym says.0) (record { spelled = h.spelled; well = h.says.0; formed = h.says.1.right; text = h.says.1.text; granted = says.1 })

pub verdict_of : (code cert : List ℕ) (l : Licensed) → IsAccepted code cert l → IsVerdict code cert (Ok l)
verdict_of code cert l a = record { code = l.code; spelled = a.spelled; says = (a.well, record { cert = l.cert; right = a.formed; text = a.text; says = (refl, a.granted) }) }
