-- Steps of the reader of annotations.
use Rattle.std.proofs.Common.{◌≡◌, ℕ, zero, suc, ◌<◌, ◌≤◌, Bool, true, false, List, [], ◌∷◌, ◌++◌, length, Option, Some, None, refl, sym, ap, ◌∙◌, subst, arith, append_assoc, append-nil, inl, inr}
use Rattle.std.specs.Prelude.{◌⊎◌, ◌==◌, ◌&&◌, not}
use Rattle.std.specs.Option.{option_map}
use Rattle.std.proofs.lemmas.Bool.Decides.{nat_tests}
use Rattle.annotations.specs.Vectors.{Vector, IsVector}
use Rattle.certificate.specs.Certificates.{VectorIsWithin}
use Rattle.certificate.specs.Reading.{capped_pair, is_there, put_front, is_before, pair_of, vector_from, vector_of, IsRead, IsStopped, IsWide}
use Rattle.text_lines.specs.Cuts.{and_then, only_if, upto, from, behind, further, words, capped, number_of}
use Rattle.certificate.specs.declared.stop.LineStop.{LineStop}
use Rattle.text_lines.specs.OptionLaws.{then_is, only_is, and_both, true_false, some_same}
use Rattle.text_lines.specs.CutLaws.{words_cut}
use Rattle.certificate.specs.VectorLaws.{vector_found, behind_vector}
use Rattle.certificate.specs.GrowingLaws.{all_end}

-- ---- one pair

-- what was read is there, or not
pub there : (o : Option ℕ) (c : ℕ) → Some c ≡ option_map capped o → (n : ℕ) × (o ≡ Some n) × (c ≡ capped n)
there None c e = absurd cc
there (Some n) c e = (n, refl, some_same c (capped n) e)

pub not_there : (o : Option ℕ) → None ≡ option_map capped o → o ≡ None
not_there None e = refl
not_there (Some n) e = absurd cc

pub then_none : {A B : Type 0} (o : Option A) (go : A → Option B) → o ≡ None → and_then o go ≡ None
then_none o go e = ap (λ o. and_then o go) e

pub only_none : {A : Type 0} (b : Bool) (o : Option A) → b ≡ false → only_if b o ≡ None
only_none b o e = ap (λ b. only_if b o) e

pub and_left : (a b : Bool) → a ≡ false → (a && b) ≡ false
and_left true b e = absurd cc
and_left false b e = refl

pub and_right : (a b : Bool) → b ≡ false → (a && b) ≡ false
and_right true b e = e
and_right false b e = refl

pub no_con : (prev con units : List ℕ) → None ≡ option_map capped (number_of con) → None ≡ option_map capped_pair (pair_of prev con units)
unfolding pair_of
no_con prev con units e = ap (option_map capped_pair) (sym (then_none (number_of con) (λ c. and_then (number_of units) (λ u. only_if (is_before prev con && not (u == 0)) (Some (c, u)))) (not_there (number_of con) e)))

-- the pair where both numbers are there
pair_by : (prev con units : List ℕ) (c u : ℕ) → number_of con ≡ Some c → number_of units ≡ Some u
    → pair_of prev con units ≡ only_if (is_before prev con && not (u == 0)) (Some (c, u))
unfolding pair_of
pair_by prev con units c u e f =
    then_is (number_of con) (λ c. and_then (number_of units) (λ u. only_if (is_before prev con && not (u == 0)) (Some (c, u)))) c (only_if (is_before prev con && not (u == 0)) (Some (c, u))) e
    (then_is (number_of units) (λ u. only_if (is_before prev con && not (u == 0)) (Some (c, u))) u (only_if (is_before prev con && not (u == 0)) (Some (c, u))) f refl)

pub no_units : (prev con units : List ℕ) (c : ℕ) → Some c ≡ option_map capped (number_of con) → None ≡ option_map capped (number_of units)
    → None ≡ option_map capped_pair (pair_of prev con units)
unfolding pair_of
no_units prev con units c e f =
    let (n, n_is, c_is) = there (number_of con) c e in
    ap (option_map capped_pair) (sym (then_is (number_of con) (λ c. and_then (number_of units) (λ u. only_if (is_before prev con && not (u == 0)) (Some (c, u)))) n None n_is
    (then_none (number_of units) (λ u. only_if (is_before prev con && not (u == 0)) (Some (n, u))) (not_there (number_of units) f))))

pub zero_units : (prev con units : List ℕ) (c u : ℕ) → Some c ≡ option_map capped (number_of con) → Some u ≡ option_map capped (number_of units)
    → u ≡ 0 → None ≡ option_map capped_pair (pair_of prev con units)
zero_units prev con units c u e f z =
    let (n, n_is, c_is) = there (number_of con) c e in
    let (m, m_is, u_is) = there (number_of units) u f in
    let zero_is : m ≡ 0 = omega (arith, u_is, z) in
    let t : not (m == 0) ≡ false = grind (arith, nat_tests, zero_is) in
    ap (option_map capped_pair) (sym (pair_by prev con units n m n_is m_is ∙ only_none (is_before prev con && not (m == 0)) (Some (n, m)) (and_right (is_before prev con) (not (m == 0)) t)))

pub not_behind : (prev con units : List ℕ) (c u : ℕ) → Some c ≡ option_map capped (number_of con) → Some u ≡ option_map capped (number_of units)
    → is_before prev con ≡ false → None ≡ option_map capped_pair (pair_of prev con units)
not_behind prev con units c u e f t =
    let (n, n_is, c_is) = there (number_of con) c e in
    let (m, m_is, u_is) = there (number_of units) u f in
    ap (option_map capped_pair) (sym (pair_by prev con units n m n_is m_is ∙ only_none (is_before prev con && not (m == 0)) (Some (n, m)) (and_left (is_before prev con) (not (m == 0)) t)))

pub is_pair : (prev con units : List ℕ) (c u : ℕ) → Some c ≡ option_map capped (number_of con) → Some u ≡ option_map capped (number_of units)
    → (u ≡ 0 → ⊥) → is_before prev con ≡ true → Some (c, u) ≡ option_map capped_pair (pair_of prev con units)
is_pair prev con units c u e f z t =
    let (n, n_is, c_is) = there (number_of con) c e in
    let (m, m_is, u_is) = there (number_of units) u f in
    let some : not (m == 0) ≡ true = by_zero m u u_is z in
    let p : pair_of prev con units ≡ Some (n, m) = pair_by prev con units n m n_is m_is ∙ only_is (is_before prev con && not (m == 0)) (Some (n, m)) (Some (n, m)) (and_both (is_before prev con) (not (m == 0)) t some) refl in
    ap (λ k. Some (k, u)) c_is ∙ ap (λ k. Some (capped n, k)) u_is ∙ ap (option_map capped_pair) (sym p)
  where
    by_zero : (m u : ℕ) → u ≡ capped m → (u ≡ 0 → ⊥) → not (m == 0) ≡ true
    by_zero zero u k z = absurd (z (omega (arith, k)))
    by_zero (suc m) u k z = grind (arith, nat_tests)

-- ---- pairs one by one

pair_there : (o : Option (ℕ × ℕ)) (p : ℕ × ℕ) → Some p ≡ option_map capped_pair o → (q : ℕ × ℕ) × (o ≡ Some q) × (p ≡ capped_pair q)
pair_there None p e = absurd cc
pair_there (Some q) p e = (q, refl, some_same p (capped_pair q) e)

pair_none : (o : Option (ℕ × ℕ)) → None ≡ option_map capped_pair o → o ≡ None
pair_none None e = refl
pair_none (Some q) e = absurd cc

-- the words from this one on
from_word : (prev : List ℕ) (rest word : List ℕ) (ws : List (List ℕ)) → further rest ≡ word ∷ ws
    → vector_from prev (further rest) ≡ and_then (pair_of prev (upto 61 word) (behind (from 61 word))) (λ p. option_map (λ v. p ∷ v) (vector_from (upto 61 word) ws))
unfolding vector_from
from_word prev rest word ws e = ap (vector_from prev) e

-- the next word is no pair
wrong_word : (prev con units rest word : List ℕ) (ws : List (List ℕ)) → further rest ≡ word ∷ ws → con ≡ upto 61 word → units ≡ behind (from 61 word)
    → None ≡ option_map capped_pair (pair_of prev con units) → vector_from prev (further rest) ≡ None
wrong_word prev con units rest word ws e c u h =
    from_word prev rest word ws e ∙ then_none (pair_of prev (upto 61 word) (behind (from 61 word))) (λ p. option_map (λ v. p ∷ v) (vector_from (upto 61 word) ws))
    (ap (λ k. pair_of prev k (behind (from 61 word))) (sym c) ∙ ap (pair_of prev con) (sym u) ∙ pair_none (pair_of prev con units) h)

-- the next word is a pair
pub record NextPair (prev con rest : List ℕ) (ws : List (List ℕ)) (p : ℕ × ℕ) : Type 0 where
  pub pair : ℕ × ℕ
  pub shown : p ≡ capped_pair pair
  pub is : vector_from prev (further rest) ≡ option_map (λ v. pair ∷ v) (vector_from con ws)

next_pair : (prev con units rest word : List ℕ) (ws : List (List ℕ)) (p : ℕ × ℕ) → further rest ≡ word ∷ ws → con ≡ upto 61 word
    → units ≡ behind (from 61 word) → Some p ≡ option_map capped_pair (pair_of prev con units) → NextPair prev con rest ws p
next_pair prev con units rest word ws p e c u h =
    let (q, q_is, shown) = pair_there (pair_of prev con units) p h in
    let found : pair_of prev (upto 61 word) (behind (from 61 word)) ≡ Some q = ap (λ k. pair_of prev k (behind (from 61 word))) (sym c) ∙ ap (pair_of prev con) (sym u) ∙ q_is in
    record {
      pair = q;
      shown = shown;
      is = from_word prev rest word ws e ∙ then_is (pair_of prev (upto 61 word) (behind (from 61 word))) (λ p. option_map (λ v. p ∷ v) (vector_from (upto 61 word) ws)) q (option_map (λ v. q ∷ v) (vector_from (upto 61 word) ws)) found refl
          ∙ ap (λ k. option_map (λ v. q ∷ v) (vector_from k ws)) (sym c);
    }

there_cons : (p : ℕ × ℕ) (o : Option Vector) → is_there (option_map (λ v. p ∷ v) o) ≡ is_there o
there_cons p None = refl
there_cons p (Some v) = refl

pub there_none : (prev con units rest word : List ℕ) (ws : List (List ℕ)) (all : Bool) → further rest ≡ word ∷ ws → con ≡ upto 61 word
    → units ≡ behind (from 61 word) → None ≡ option_map capped_pair (pair_of prev con units)
    → is_there (vector_from prev (further rest)) ≡ all → false ≡ all
there_none prev con units rest word ws all e c u h g = sym (ap is_there (wrong_word prev con units rest word ws e c u h)) ∙ g

pub there_more : (prev con units rest word after : List ℕ) (p : ℕ × ℕ) (all : Bool) → further rest ≡ word ∷ further after → con ≡ upto 61 word
    → units ≡ behind (from 61 word) → Some p ≡ option_map capped_pair (pair_of prev con units)
    → is_there (vector_from prev (further rest)) ≡ all → is_there (vector_from con (further after)) ≡ all
there_more prev con units rest word after p all e c u h g =
    let n = next_pair prev con units rest word (further after) p e c u h in
    sym (there_cons n.pair (vector_from con (further after))) ∙ ap is_there (sym n.is) ∙ g

pub there_end : (prev rest : List ℕ) (all : Bool) → further rest ≡ [] → is_there (vector_from prev (further rest)) ≡ all → true ≡ all
unfolding vector_from
there_end prev rest all e g = sym (ap (λ l. is_there (vector_from prev l)) e) ∙ g

-- ---- the loop over pairs

put_nothing : (o : Option Vector) → put_front [] o ≡ o
put_nothing None = refl
put_nothing (Some v) = refl

pub pairs_first : (o : Option Vector) (ps : Vector) → ps ≡ [] → o ≡ put_front ps o
pairs_first o ps e = sym (ap (λ l. put_front l o) e ∙ put_nothing o)

pub pairs_wrong : (whole : Option Vector) (ps : Vector) (prev con units rest word : List ℕ) (ws : List (List ℕ))
    → whole ≡ put_front ps (vector_from prev (further rest)) → further rest ≡ word ∷ ws → con ≡ upto 61 word → units ≡ behind (from 61 word)
    → None ≡ option_map capped_pair (pair_of prev con units) → whole ≡ None
pairs_wrong whole ps prev con units rest word ws g e c u h = g ∙ ap (put_front ps) (wrong_word prev con units rest word ws e c u h)

put_cons : (ps : Vector) (p : ℕ × ℕ) (o : Option Vector) → put_front ps (option_map (λ v. p ∷ v) o) ≡ put_front (ps ++ p ∷ []) o
put_cons ps p None = refl
put_cons ps p (Some v) = ap Some (sym (append_assoc ps (p ∷ []) v))

all_middle : (ps : Vector) (p : ℕ × ℕ) (v : Vector) → VectorIsWithin (ps ++ p ∷ v) → (p.0 ≤ 4294967295) × (p.1 ≤ 2147483648)
all_middle [] p v h = h.0
all_middle (q ∷ ps) p v h = all_middle ps p v h.1

above_both : (n m c u : ℕ) → c ≡ capped n → u ≡ capped m → (4294967295 < c) ⊎ (2147483648 < u) → n ≤ 4294967295 → m ≤ 2147483648 → ⊥
above_both n m c u e f (inl h) j k = omega (arith, e, h, j)
above_both n m c u e f (inr h) j k = omega (arith, f, h, k)

pub pairs_wide : (whole : Option Vector) (ps : Vector) (prev con units rest word after : List ℕ) (c u : ℕ)
    → whole ≡ put_front ps (vector_from prev (further rest)) → further rest ≡ word ∷ further after → con ≡ upto 61 word
    → units ≡ behind (from 61 word)
    → Some (c, u) ≡ option_map capped_pair (pair_of prev con units) → (4294967295 < c) ⊎ (2147483648 < u) → true ≡ is_there (vector_from con (further after)) → IsWide whole VectorIsWithin
pairs_wide whole ps prev con units rest word after c u g e f k h wide t =
    let n = next_pair prev con units rest word (further after) (c, u) e f k h in
    by_rest n (vector_from con (further after)) refl t
  where
    by_rest : (n : NextPair prev con rest (further after) (c, u)) (o : Option Vector) → vector_from con (further after) ≡ o → true ≡ is_there o
        → IsWide whole VectorIsWithin
    by_rest n None q t = absurd cc
    by_rest n (Some v) q t = record {
      x = ps ++ n.pair ∷ v;
      is = g ∙ ap (put_front ps) (n.is ∙ ap (option_map (λ v. n.pair ∷ v)) q);
      wide = λ within. let r = all_middle ps n.pair v within in above_both n.pair.0 n.pair.1 c u (ap (λ (p : ℕ × ℕ). p.0) n.shown) (ap (λ (p : ℕ × ℕ). p.1) n.shown) wide r.0 r.1;
    }

pub pairs_not : (whole : Option Vector) (ps : Vector) (prev con units rest word after : List ℕ) (p : ℕ × ℕ)
    → whole ≡ put_front ps (vector_from prev (further rest)) → further rest ≡ word ∷ further after → con ≡ upto 61 word
    → units ≡ behind (from 61 word)
    → Some p ≡ option_map capped_pair (pair_of prev con units) → false ≡ is_there (vector_from con (further after)) → whole ≡ None
pairs_not whole ps prev con units rest word after p g e f k h t =
    let n = next_pair prev con units rest word (further after) p e f k h in
    g ∙ ap (put_front ps) (n.is ∙ ap (option_map (λ v. n.pair ∷ v)) (nothing (vector_from con (further after)) t))
  where
    nothing : (o : Option Vector) → false ≡ is_there o → o ≡ None
    nothing None t = refl
    nothing (Some v) t = absurd cc

pub pairs_more : (whole : Option Vector) (ps qs : Vector) (prev con units rest word after : List ℕ) (c u : ℕ)
    → whole ≡ put_front ps (vector_from prev (further rest)) → further rest ≡ word ∷ further after → con ≡ upto 61 word
    → units ≡ behind (from 61 word)
    → Some (c, u) ≡ option_map capped_pair (pair_of prev con units) → c ≤ 4294967295 → u ≤ 2147483648 → qs ≡ ps ++ (c, u) ∷ [] → whole ≡ put_front qs (vector_from con (further after))
pairs_more whole ps qs prev con units rest word after c u g e f k h low few q =
    let n = next_pair prev con units rest word (further after) (c, u) e f k h in
    let c_is : n.pair.0 ≡ c = omega (arith, ap (λ (p : ℕ × ℕ). p.0) n.shown, low) in
    let u_is : n.pair.1 ≡ u = omega (arith, ap (λ (p : ℕ × ℕ). p.1) n.shown, few) in
    let same : n.pair ≡ (c, u) = λ i. (c_is i, u_is i) in
    g ∙ ap (put_front ps) n.is ∙ put_cons ps n.pair (vector_from con (further after)) ∙ ap (λ p. put_front (ps ++ p ∷ []) (vector_from con (further after))) same ∙ ap (λ l. put_front l (vector_from con (further after))) (sym q)

pub pairs_within : (ps qs : Vector) (c u : ℕ) → VectorIsWithin ps → c ≤ 4294967295 → u ≤ 2147483648 → qs ≡ ps ++ (c, u) ∷ [] → VectorIsWithin qs
pairs_within ps qs c u h low few q = subst VectorIsWithin (sym q) (all_end (λ (p : ℕ × ℕ). (p.0 ≤ 4294967295) × (p.1 ≤ 2147483648)) ps (c, u) h (low, few))

pub pairs_end : (whole : Option Vector) (ps : Vector) (prev rest : List ℕ) → whole ≡ put_front ps (vector_from prev (further rest))
    → further rest ≡ [] → VectorIsWithin ps → IsRead whole VectorIsWithin ps
unfolding vector_from
pairs_end whole ps prev rest g e h = record { is = g ∙ ap (λ l. put_front ps (vector_from prev l)) e ∙ ap Some (append-nil ps); fits = h }

-- ---- annotations

words_some : (rest : List ℕ) → (length rest == 0) ≡ false → vector_of (further rest) ≡ vector_from [] (further rest)
unfolding vector_of
words_some [] h = absurd cc
words_some (b ∷ rest) h = by_words (words rest) (not_nothing rest)
  where
    by_words : (ws : List (List ℕ)) → (ws ≡ [] → ⊥) → vector_of ws ≡ vector_from [] ws
    by_words [] k = absurd (k refl)
    by_words (w ∷ ws) k = refl

    not_nothing : (rest : List ℕ) → words rest ≡ [] → ⊥
    not_nothing rest e = let f : upto 32 rest ∷ further (from 32 rest) ≡ [] = sym (words_cut rest) ∙ e in absurd cc

pub vector_none : (rest : List ℕ) → (length rest == 0) ≡ true → vector_of (further rest) ≡ None
unfolding vector_of
vector_none [] h = refl
vector_none (b ∷ rest) h = absurd (true_false (suc (length rest) == 0) h (grind (arith, nat_tests)))

pub vector_some : (rest : List ℕ) (v ps : Vector) → (length rest == 0) ≡ false → v ≡ ps → IsRead (vector_from [] (further rest)) VectorIsWithin ps
    → IsRead (vector_of (further rest)) VectorIsWithin v
vector_some rest v ps h e r = record { is = words_some rest h ∙ r.is ∙ ap Some (sym e); fits = subst VectorIsWithin (sym e) r.fits }

pub vector_stop : (rest : List ℕ) (s : LineStop) → (length rest == 0) ≡ false → IsStopped (vector_from [] (further rest)) VectorIsWithin s
    → IsStopped (vector_of (further rest)) VectorIsWithin s
vector_stop rest s h r = subst (λ o. IsStopped o VectorIsWithin s) (sym (words_some rest h)) r

pub vector_form : (rest : List ℕ) (ps : Vector) → IsRead (vector_from [] (further rest)) VectorIsWithin ps → IsVector ps
vector_form rest ps r = behind_vector ps (vector_found [] (further rest) ps r.is).behind
