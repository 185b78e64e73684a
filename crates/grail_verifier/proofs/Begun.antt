-- A block begins with its line, or with those of its function.
use Rattle.std.proofs.Common.{◌≡◌, ℕ, true, List, Option, Some, sym, subst}
use Rattle.std.specs.Prelude.{◌==◌, if◌then◌else◌, Result}
use Rattle.grail_code.specs.Code.{Block, Func, Code}
use Rattle.annotations.specs.Vectors.{Vector}
use Rattle.certificate.specs.Certificates.{VarCert, BlockCert, MakeCert, FuncCert, Cert}
use Rattle.licence.specs.Checks.{Site}
use Rattle.grail_verifier.specs.declared.short.Short.{Short}
use Rattle.grail_verifier.specs.Finding.{Finds}
use Rattle.grail_verifier.specs.Walk.{begun_short, lined_short, block_short, line_at}

pub lined_is : {A : Type 0} (p : Code) (c : Cert) (none : Vector) (f : Func) (own : FuncCert) (s : Site) (makes : List MakeCert) (o : Option BlockCert) (line : BlockCert) (vars : List VarCert) (b : Block) (r : Result A Short)
    → o ≡ Some line → vars ≡ line.vars → Finds r (begun_short p c none f own s makes line.need vars b) → Finds r (lined_short p c none f own s makes o b)
lined_is p c none f own s makes o line vars b r is same h =
    subst (λ x. Finds r (lined_short p c none f own s makes x b)) (sym is) (subst (λ vs. Finds r (begun_short p c none f own s makes line.need vs b)) same h)

pub first_is : {A : Type 0} (p : Code) (c : Cert) (none : Vector) (f : Func) (own : FuncCert) (func number : ℕ) (makes : List MakeCert) (vars : List VarCert) (b : Block) (r : Result A Short)
    → (number == 0) ≡ true → vars ≡ own.params → Finds r (begun_short p c none f own (record { func = func; block = number; place = 1 }) makes own.need vars b) → Finds r (block_short p c none f own func number makes b)
first_is p c none f own func number makes vars b r is same h =
    subst (λ t. Finds r (if t then begun_short p c none f own (record { func = func; block = number; place = 1 }) makes own.need own.params b else lined_short p c none f own (record { func = func; block = number; place = 1 }) makes (line_at own.blocks number) b)) (sym is)
    (subst (λ vs. Finds r (begun_short p c none f own (record { func = func; block = number; place = 1 }) makes own.need vs b)) same h)
