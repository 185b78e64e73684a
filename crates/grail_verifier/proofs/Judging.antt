-- Verdicts on well-formed code and a certificate: each is so, and there is one.
use Rattle.std.proofs.Common.{◌≡◌, ◌⊎◌, ℕ, ◌<◌, ◌≤◌, List, [], ◌∷◌, ◌++◌, Option, Some, None, Result, Ok, Err, sym, ap, ◌∙◌, subst, arith, inl, inr}
use Rattle.std.specs.Prelude.{ℤ, pos, ◌≤ℤ◌}
use Rattle.std.proofs.lemmas.Bool.{cases_lt}
use Rattle.std.proofs.lemmas.Int.{ints}
use Rattle.stops.specs.declared.stop.Stop.{Stop}
use Rattle.stops.specs.declared.stop.Stop.TheVariants.{Fault, Memory}
use Rattle.grail_code.specs.Code.{Code}
use Rattle.grail_code.specs.WellFormed.{IsWellFormed}
use Rattle.grail_code.specs.Limits.{IsWithinLimits}
use Rattle.annotations.specs.Vectors.{Vector}
use Rattle.certificate.specs.Certificates.{Cert, IsCert}
use Rattle.licence.specs.Books.{book_of}
use Rattle.licence.specs.Checks.{Check, checks_of, integers, in_integers, Holds, AllHold, FirstFails}
use Rattle.licence.specs.Fitting.{Fits, IsRightIn, IsMisfit, Grants}
use Rattle.licence.specs.Licensed.{Licensed}
use Rattle.grail_verifier.specs.declared.refusal.Refusal.{Refusal}
use Rattle.grail_verifier.specs.declared.refusal.Refusal.TheVariants as refusal
use Rattle.grail_verifier.specs.Finding.{Found, in_numbers, refused, refusal_of}
use Rattle.grail_verifier.specs.Walk.{funcs_short}
use Rattle.grail_verifier.specs.Verdicts.{IsShort, IsRefused, IsJudged, VerdictIs, IsThisVerdict}
use Rattle.grail_verifier.proofs.Facts.{Known}
use Rattle.grail_verifier.proofs.Walking.{walk_found}
use Rattle.licence.specs.CheckLaws.{pays_by_checks, rule_fails}
use Rattle.licence.specs.PotentialLaws.{fits_free}

-- ---- what the walk finds

none_holds : (checks : List (Check ℤ)) → Found checks None → AllHold checks
unfolding Found
none_holds checks h = h

one_fails : (checks : List (Check ℤ)) (c : Check ℕ) → Found checks (Some c) → FirstFails checks (in_numbers c)
unfolding Found
one_fails checks c h = h

module _ (p : Code) (c : Cert) (well : IsWellFormed p) (fits : Fits p c) (limits : IsWithinLimits p) (right : IsCert c) where
  known : Known p c
  known = record { well = well; limits = limits; fits = fits; right = right }

  pub all_found : (none : Vector) → none ≡ [] → funcs_short p c none 0 p.funcs ≡ None → Grants p c
  all_found none z d = let e : funcs_short p c [] 0 p.funcs ≡ None = subst (λ n. funcs_short p c n 0 p.funcs ≡ None) z d in record {
    fits = fits;
    pays = (pays_by_checks p (book_of c)).1 (right.formed.some_units, fits_free p c fits, none_holds (checks_of integers p (in_integers (book_of c))) (subst (Found (checks_of integers p (in_integers (book_of c)))) e (walk_found p c known)));
  }

  fails : (k : Check ℕ) → funcs_short p c [] 0 p.funcs ≡ Some k → IsShort p c k
  fails k e =
      let first : FirstFails (checks_of integers p (in_integers (book_of c))) (in_numbers k) = one_fails (checks_of integers p (in_integers (book_of c))) k (subst (Found (checks_of integers p (in_integers (book_of c)))) e (walk_found p c known)) in
      record {
        fits = fits;
        rule = rule_fails p (book_of c) (in_numbers k) first;
        first = first;
        less = by_order (cases_lt k.have k.need) first.wrong;
      }
    where
      by_order : (k.have < k.need) ⊎ (k.need ≤ k.have) → (pos k.need ≤ℤ pos k.have → ⊥) → k.have < k.need
      by_order (inl less) h = less
      by_order (inr more) h = absurd (h (omega (arith, ints, more)))

  pub one_found : (none : Vector) (k : Check ℕ) (r : Refusal) → none ≡ [] → funcs_short p c none 0 p.funcs ≡ Some k → r ≡ refusal_of k → IsRefused p c r
  one_found none k r z d same = subst (IsRefused p c) (sym same) (by_con k.con (fails k (subst (λ n. funcs_short p c n 0 p.funcs ≡ Some k) z d)))
    where
      by_con : (o : Option ℕ) → IsShort p c (record { func = k.func; block = k.block; place = k.place; con = o; have = k.have; need = k.need }) → IsRefused p c (refused o k.func k.block k.place k.have k.need)
      by_con None h = h
      by_con (Some con) h = h

-- ---- one verdict

same_fields : (f b l h n : ℕ) (o : Option ℕ) (f' b' l' h' n' : ℕ) (o' : Option ℕ)
    → in_numbers (record { func = f; block = b; place = l; con = o; have = h; need = n }) ≡ in_numbers (record { func = f'; block = b'; place = l'; con = o'; have = h'; need = n' })
    → refused o f b l h n ≡ refused o' f' b' l' h' n'
same_fields f b l h n o f' b' l' h' n' o' e =
    let fs : f ≡ f' = ap (λ c. c.func) e in
    let bs : b ≡ b' = ap (λ c. c.block) e in
    let ls : l ≡ l' = ap (λ c. c.place) e in
    let os : o ≡ o' = ap (λ c. c.con) e in
    let hs : h ≡ h' = same (ap (λ c. c.have) e) in
    let ns : n ≡ n' = same (ap (λ c. c.need) e) in
    λ i. refused (os i) (fs i) (bs i) (ls i) (hs i) (ns i)
  where
    same : {x y : ℕ} → pos x ≡ pos y → x ≡ y
    same d = omega (arith, ints, d)

-- the first check that fails is one
one_first : (before after before' after' : List (Check ℤ)) (c d : Check ℤ) → before ++ c ∷ after ≡ before' ++ d ∷ after' → AllHold before
    → (Holds c → ⊥) → AllHold before' → (Holds d → ⊥) → c ≡ d
one_first [] after [] after' c d e g w g' w' = cc
one_first [] after (x ∷ before') after' c d e g w g' w' = let same : c ≡ x = cc in absurd (w (subst Holds (sym same) g'.0))
one_first (x ∷ before) after [] after' c d e g w g' w' = let same : x ≡ d = cc in absurd (w' (subst Holds same g.0))
one_first (x ∷ before) after (y ∷ before') after' c d e g w g' w' = one_first before after before' after' c d (cc) g.1 w g'.1 w'

none_fails : (before after : List (Check ℤ)) (c : Check ℤ) → AllHold (before ++ c ∷ after) → (Holds c → ⊥) → ⊥
none_fails [] after c h w = w h.0
none_fails (x ∷ before) after c h w = none_fails before after c h.1 w

shorts_same : (p : Code) (c : Cert) (k l : Check ℕ) → IsShort p c k → IsShort p c l → in_numbers k ≡ in_numbers l
shorts_same p c k l h m = one_first h.first.before h.first.after m.first.before m.first.after (in_numbers k) (in_numbers l) (sym h.first.parts ∙ m.first.parts) h.first.good h.first.wrong m.first.good m.first.wrong

granted_short : (p : Code) (c : Cert) (k : Check ℕ) → Grants p c → IsShort p c k → ⊥
granted_short p c k g h = none_fails h.first.before h.first.after (in_numbers k) (subst AllHold h.first.parts ((pays_by_checks p (book_of c)).0 g.pays).2) h.first.wrong

misfits_same : (p : Code) (c : Cert) (f b f' b' : ℕ) → IsMisfit p c f b → IsMisfit p c f' b' → (f ≡ f') × (b ≡ b')
misfits_same p c f b f' b' h k = by_funcs (cases_lt f f') (cases_lt f' f)
  where
    by_blocks : f ≡ f' → (b < b') ⊎ (b' ≤ b) → (b' < b) ⊎ (b ≤ b') → (f ≡ f') × (b ≡ b')
    by_blocks e (inl l) m = absurd (h.wrong (subst (λ g. IsRightIn p c g b) (sym e) (k.before b l)))
    by_blocks e (inr l) (inl m) = absurd (k.wrong (subst (λ g. IsRightIn p c g b') e (h.before b' m)))
    by_blocks e (inr l) (inr m) = (e, omega (arith, l, m))

    by_funcs : (f < f') ⊎ (f' ≤ f) → (f' < f) ⊎ (f ≤ f') → (f ≡ f') × (b ≡ b')
    by_funcs (inl l) m = absurd (h.wrong (k.earlier f b l))
    by_funcs (inr l) (inl m) = absurd (k.wrong (h.earlier f' b' m))
    by_funcs (inr l) (inr m) = by_blocks (omega (arith, l, m)) (cases_lt b b') (cases_lt b' b)

-- two refusals are the same
refusals_same : (p : Code) (c : Cert) (r q : Refusal) → IsRefused p c r → IsRefused p c q → r ≡ q
refusals_same p c (refusal.Code x) q h k = absurd h
refusals_same p c (refusal.Kinds x) q h k = absurd h
refusals_same p c (refusal.Cert x) q h k = absurd h
refusals_same p c (refusal.Shape f b) q h k = with_shape q k
  where
    with_shape : (q : Refusal) → IsRefused p c q → refusal.Shape f b ≡ q
    with_shape (refusal.Code x) k = absurd k
    with_shape (refusal.Kinds x) k = absurd k
    with_shape (refusal.Cert x) k = absurd k
    with_shape (refusal.Shape f' b') k = let e = misfits_same p c f b f' b' h k in λ i. refusal.Shape (e.0 i) (e.1 i)
    with_shape (refusal.Need f' b' l' x' n') k = absurd (h.wrong (k.fits f b))
    with_shape (refusal.Weak f' b' l' o' x' n') k = absurd (h.wrong (k.fits f b))
refusals_same p c (refusal.Need f b l x n) q h k = with_short f b l x n None h q k
  where
    with_short : (f b l x n : ℕ) (o : Option ℕ) → IsShort p c (record { func = f; block = b; place = l; con = o; have = x; need = n }) → (q : Refusal) → IsRefused p c q → refused o f b l x n ≡ q
    with_short f b l x n o h (refusal.Code y) k = absurd k
    with_short f b l x n o h (refusal.Kinds y) k = absurd k
    with_short f b l x n o h (refusal.Cert y) k = absurd k
    with_short f b l x n o h (refusal.Shape f' b') k = absurd (k.wrong (h.fits f' b'))
    with_short f b l x n o h (refusal.Need f' b' l' x' n') k = same_fields f b l x n o f' b' l' x' n' None (shorts_same p c _ _ h k)
    with_short f b l x n o h (refusal.Weak f' b' l' o' x' n') k = same_fields f b l x n o f' b' l' x' n' (Some o') (shorts_same p c _ _ h k)
refusals_same p c (refusal.Weak f b l o x n) q h k = with_weak q k
  where
    with_weak : (q : Refusal) → IsRefused p c q → refusal.Weak f b l o x n ≡ q
    with_weak (refusal.Code y) k = absurd k
    with_weak (refusal.Kinds y) k = absurd k
    with_weak (refusal.Cert y) k = absurd k
    with_weak (refusal.Shape f' b') k = absurd (k.wrong (h.fits f' b'))
    with_weak (refusal.Need f' b' l' x' n') k = same_fields f b l x n (Some o) f' b' l' x' n' None (shorts_same p c _ _ h k)
    with_weak (refusal.Weak f' b' l' o' x' n') k = same_fields f b l x n (Some o) f' b' l' x' n' (Some o') (shorts_same p c _ _ h k)

granted_refused : (p : Code) (c : Cert) (r : Refusal) → Grants p c → IsRefused p c r → ⊥
granted_refused p c (refusal.Code x) g k = absurd k
granted_refused p c (refusal.Kinds x) g k = absurd k
granted_refused p c (refusal.Cert x) g k = absurd k
granted_refused p c (refusal.Shape f b) g k = k.wrong (g.fits f b)
granted_refused p c (refusal.Need f b l x n) g k = granted_short p c _ g k
granted_refused p c (refusal.Weak f b l o x n) g k = granted_short p c _ g k

pub verdicts_same : (p : Code) (c : Cert) (r q : Result Licensed Refusal) → IsJudged p c r → IsJudged p c q → r ≡ q
verdicts_same p c (Ok l) (Ok m) h k = ap Ok (h.0 ∙ sym k.0)
verdicts_same p c (Ok l) (Err q) h k = absurd (granted_refused p c q h.1 k)
verdicts_same p c (Err r) (Ok m) h k = absurd (granted_refused p c r k.1 h)
verdicts_same p c (Err r) (Err q) h k = ap Err (refusals_same p c r q h k)

-- what is answered is the verdict
pub judged_exactly : (p : Code) (c : Cert) (r : Result Licensed (Stop Refusal)) → VerdictIs (IsJudged p c) r → (q : Result Licensed Refusal)
    → IsJudged p c q → IsThisVerdict q r
judged_exactly p c (Ok l) h q k = verdicts_same p c (Ok l) q h k
judged_exactly p c (Err (Fault r)) h q k = verdicts_same p c (Err r) q h k
judged_exactly p c (Err Memory) h q k = tt
