-- The functions of code and certificate, side by side.
use Rattle.std.proofs.Common.{◌≡◌, ◌⊎◌, ℕ, zero, suc, ◌+◌, ◌<◌, ◌≤◌, List, [], ◌∷◌, length, Option, Some, None, false, true, MatchOption, inl, inr, refl, sym, subst, arith}
use Rattle.std.specs.Prelude.{slice_get, IsSome}
use Rattle.std.specs.List.{AllByRecursion}
use Rattle.std.proofs.lemmas.Bool.{cases_lt}
use Rattle.std.proofs.lemmas.Option.{slice_get_past}
use Rattle.grail_code.specs.Code.{Func, Code}
use Rattle.grail_code.specs.WellFormed.{FuncFits, IsWellFormed}
use Rattle.certificate.specs.Certificates.{FuncCert, Cert, FuncIsFormed, IsCert}
use Rattle.licence.specs.Fitting.{Right, IsRightIn, Fits, IsMisfit}
use Rattle.certificate_fit.specs.Shapes.{AreRight, IsLeastWrong, IsFuncRight, IsLeastIn}

all_at : {A : Type 0} (P : A → Type 0) (xs : List A) (i : ℕ) (x : A) → AllByRecursion P xs → slice_get xs i ≡ Some x → P x
all_at P [] i x h e = let k : None ≡ Some x = e in absurd cc
all_at P (y ∷ ys) zero x h e = let k : y ≡ x = cc in subst P k h.0
all_at P (y ∷ ys) (suc i) x h e = all_at P ys i x h.1 e

-- ---- one function

pub fits_known : (p : Code) (g : ℕ) (f : Func) → IsWellFormed p → Some f ≡ slice_get p.funcs g → FuncFits p f
fits_known p g f well e = all_at (FuncFits p) p.funcs g f well.funcs (sym e)

pub formed_known : (c : Cert) (g : ℕ) (l : FuncCert) → IsCert c → Some l ≡ slice_get c.funcs g → FuncIsFormed l
formed_known c g l is e = all_at FuncIsFormed c.funcs g l is.formed.funcs (sym e)

abbrev pub Answers : Code → Cert → ℕ → Option ℕ → Type 0
Answers p c g o = MatchOption o (IsFuncRight p c g) (λ block. IsLeastIn p c g block)

-- both have it
pub both_there : (p : Code) (c : Cert) (g : ℕ) (f : Func) (l : FuncCert) (o : Option ℕ) → Some f ≡ slice_get p.funcs g → Some l ≡ slice_get c.funcs g
    → MatchOption o (AreRight p f l) (λ number. IsLeastWrong p f l number) → Answers p c g o
both_there p c g f l None e d h = λ b. subst (λ m. Right p b (slice_get p.funcs g) m) d (subst (λ n. Right p b n (Some l)) e (h b))
both_there p c g f l (Some k) e d h = record {
  before = λ b less. subst (λ m. Right p b (slice_get p.funcs g) m) d (subst (λ n. Right p b n (Some l)) e (h.before b less));
  wrong = λ r. h.wrong (subst (λ n. Right p k n (Some l)) (sym e) (subst (λ m. Right p k (slice_get p.funcs g) m) (sym d) r));
}

-- one has it
pub certs_fewer : (p : Code) (c : Cert) (g : ℕ) (f : Func) → Some f ≡ slice_get p.funcs g → None ≡ slice_get c.funcs g → Answers p c g (Some 0)
certs_fewer p c g f e d = record {
  before = λ b less. absurd (omega (arith, less));
  wrong = λ r. let k : Right p 0 (Some f) None = subst (λ n. Right p 0 n None) (sym e) (subst (λ m. Right p 0 (slice_get p.funcs g) m) (sym d) r) in k (λ i. 0);
}

pub code_fewer : (p : Code) (c : Cert) (g : ℕ) (o : Option ℕ) → None ≡ slice_get p.funcs g
    → MatchOption o (slice_get c.funcs g ≡ None) (λ block. (block ≡ 0) × IsSome (slice_get c.funcs g)) → Answers p c g o
code_fewer p c g None e h = λ b. subst (λ m. Right p b (slice_get p.funcs g) m) (sym h) (subst (λ n. Right p b n None) e tt)
code_fewer p c g (Some block) e h = record {
  before = λ b less. absurd (omega (arith, less, h.0));
  wrong = λ r. let k : Right p 0 None (slice_get c.funcs g) = subst (λ n. Right p 0 n (slice_get c.funcs g)) (sym e) (subst (λ b. Right p b (slice_get p.funcs g) (slice_get c.funcs g)) h.0 r) in alone (slice_get c.funcs g) h.1 k;
}
  where
    alone : (m : Option FuncCert) → IsSome m → Right p 0 None m → ⊥
    alone None s k = let e : false ≡ true = s in absurd cc
    alone (Some l) s k = k (λ i. 0)

-- ---- all functions

abbrev pub RightBelow : Code → Cert → ℕ → Type 0
RightBelow p c n = (g b : ℕ) → g < n → IsRightIn p c g b

pub none_below : (p : Code) (c : Cert) → RightBelow p c 0
none_below p c = λ g b less. absurd (omega (arith, less))

pub one_more : (p : Code) (c : Cert) (n : ℕ) → RightBelow p c n → IsFuncRight p c n → RightBelow p c (n + 1)
one_more p c n h here = λ g b less. by_order g b less (cases_lt g n)
  where
    by_order : (g b : ℕ) → g < n + 1 → (g < n) ⊎ (n ≤ g) → IsRightIn p c g b
    by_order g b less (inl before) = h g b before
    by_order g b less (inr from) = let same : n ≡ g = omega (arith, less, from) in subst (λ k. IsRightIn p c k b) same (here b)

pub is_misfit : (p : Code) (c : Cert) (n block : ℕ) → RightBelow p c n → IsLeastIn p c n block → IsMisfit p c n block
is_misfit p c n block h l = record { earlier = h; before = l.before; wrong = l.wrong }

-- one more than the code has is enough
pub all_fit : (p : Code) (c : Cert) (n : ℕ) → n ≡ length p.funcs → RightBelow p c (n + 1) → Fits p c
all_fit p c n all h = λ g b. by_order g b (cases_lt g (n + 1))
  where
    none_left : slice_get c.funcs n ≡ None
    none_left = by_last (slice_get c.funcs n) (slice_get p.funcs n) refl (slice_get_past p.funcs n (omega (arith, all))) (h n 0 (omega arith))
      where
        by_last : (m : Option FuncCert) (o : Option Func) → slice_get c.funcs n ≡ m → o ≡ None → Right p 0 o m → slice_get c.funcs n ≡ None
        by_last None o e k r = e
        by_last (Some l) None e k r = absurd (r (λ i. 0))
        by_last (Some l) (Some f) e k r = absurd cc

    past_none : {A : Type 0} (xs : List A) (i j : ℕ) → slice_get xs i ≡ None → i ≤ j → slice_get xs j ≡ None
    past_none [] i j e le = refl
    past_none (x ∷ xs) zero j e le = absurd cc
    past_none (x ∷ xs) (suc i) zero e le = absurd (omega (arith, le))
    past_none (x ∷ xs) (suc i) (suc j) e le = past_none xs i j e (omega (arith, le))

    by_order : (g b : ℕ) → (g < n + 1) ⊎ (n + 1 ≤ g) → IsRightIn p c g b
    by_order g b (inl less) = h g b less
    by_order g b (inr from) =
        let no_func = slice_get_past p.funcs g (omega (arith, all, from)) in
        let no_cert = past_none c.funcs n g none_left (omega (arith, from)) in
        subst (λ m. Right p b (slice_get p.funcs g) m) (sym no_cert) (subst (λ o. Right p b o None) (sym no_func) tt)
