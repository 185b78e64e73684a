-- Laws, for the proofs of this crate and of those above it.
-- A text has one way to be cut into lines, so that it is of one certificate at most, and has one fault at most.
use Rattle.std.proofs.Common.{◌≡◌, ℕ, suc, List, [], ◌∷◌, ◌++◌, length, refl, sym, ap, ◌∙◌, subst, append_assoc, append-nil, inl, inr}
use Rattle.std.specs.Prelude.{◌⊎◌}
use Rattle.std.specs.List.{AllByRecursion}
use Rattle.std.proofs.lemmas.List.{append_cancel_left}
use Rattle.certificate.specs.Text.{lines_of, text_of, Begins, BeginsLoosely, IsWrongLine, GoesOn, EndsEarly, IsLineFault, IsNumberFault}
use Rattle.text_lines.specs.Lines.{text_of_lines, Free}
use Rattle.certificate.specs.Certificates.{Cert, IsCert}
use Rattle.certificate.specs.LineLaws.{cert_feed, certs_one}
use Rattle.text_lines.specs.FrontLaws.{one_line, first_line, has_feed, Further, fronts, all_left}

-- ---- fronts of certificates

pub begins_feed : (before : List (List ℕ)) → Begins before → AllByRecursion (Free 10) before
begins_feed before b = all_left (Free 10) before b.rest (subst (AllByRecursion (Free 10)) b.is (cert_feed b.cert b.right.formed))

shorter : (xs zs : List (List ℕ)) (z : List ℕ) → Begins (xs ++ z ∷ zs) → Begins (xs ++ z ∷ [])
shorter xs zs z b = record { cert = b.cert; rest = zs ++ b.rest; is = b.is ∙ append_assoc xs (z ∷ zs) b.rest ∙ sym (append_assoc xs (z ∷ []) (zs ++ b.rest)); right = b.right }

-- where reading stops: behind these lines of a certificate, at a line that goes on with none, or at the end
record Stuck (text : List ℕ) (before : List (List ℕ)) : Type 0 where
  good : Begins before
  why : ((line : List ℕ) × GoesOn text before line × (Begins (before ++ line ∷ []) → ⊥)) ⊎ EndsEarly text before

loosely : (lines : List (List ℕ)) → Begins lines → BeginsLoosely lines
loosely lines b = record { cert = b.cert; rest = b.rest; is = b.is; right = b.right.formed }

line_stuck : (text : List ℕ) (n : ℕ) (f : IsLineFault text n) → Stuck text f.before
line_stuck text n f = by_case f.fault
  where
    by_case : ((line : List ℕ) × GoesOn text f.before line × IsWrongLine f.before line) ⊎ EndsEarly text f.before → Stuck text f.before
    by_case (inl (line, goes, wrong)) = record { good = wrong.good; why = inl (line, goes, λ b. wrong.wrong (loosely (f.before ++ line ∷ []) b)) }
    by_case (inr early) = record { good = early.good; why = inr early }

number_stuck : (text : List ℕ) (n : ℕ) (f : IsNumberFault text n) → Stuck text f.before
number_stuck text n f = record { good = f.fault.good; why = inl (f.line, f.goes, f.fault.wrong) }

-- what follows the lines
record Rest (text : List ℕ) (before : List (List ℕ)) : Type 0 where
  rest : List ℕ
  parts : text ≡ text_of_lines before ++ rest
  stop : (z : List ℕ) (zs : List (List ℕ)) (s : List ℕ) → Free 10 z → rest ≡ text_of_lines (z ∷ zs) ++ s → Begins (before ++ z ∷ []) → ⊥

rest_of : (text : List ℕ) (before : List (List ℕ)) → Stuck text before → Rest text before
rest_of text before d = by_case d.why
  where
    by_case : ((line : List ℕ) × GoesOn text before line × (Begins (before ++ line ∷ []) → ⊥)) ⊎ EndsEarly text before → Rest text before
    by_case (inl (line, goes, wrong)) = record {
      rest = line ++ 10 ∷ goes.rest;
      parts = goes.parts;
      stop = λ z zs s h e b.
          let p = one_line line z goes.rest (text_of_lines zs ++ s) goes.one h (e ∙ first_line z zs s) in
          wrong (subst (λ l. Begins (before ++ l ∷ [])) (sym p.0) b);
    }
    by_case (inr early) = record {
      rest = early.rest;
      parts = early.parts;
      stop = λ z zs s h e b. has_feed z (text_of_lines zs ++ s) (subst (Free 10) (e ∙ first_line z zs s) early.one);
    }

-- reading goes no further than where it stops
no_further : (text : List ℕ) (xs ys : List (List ℕ)) (d : Rest text xs) → Begins ys → (s : List ℕ) → Further xs ys d.rest s → xs ≡ ys
no_further text xs ys d b s f = by_more f.more f.is f.rest
  where
    by_more : (more : List (List ℕ)) → ys ≡ xs ++ more → d.rest ≡ text_of_lines more ++ s → xs ≡ ys
    by_more [] e r = sym (append-nil xs) ∙ sym e
    by_more (z ∷ zs) e r = absurd (d.stop z zs s (feed xs (subst (AllByRecursion (Free 10)) e (begins_feed ys b))) r (shorter xs zs z (subst Begins e b)))
      where
        feed : (xs : List (List ℕ)) → AllByRecursion (Free 10) (xs ++ z ∷ zs) → Free 10 z
        feed [] h = h.0
        feed (x ∷ xs) h = feed xs h.1

one_stop : (text : List ℕ) (xs ys : List (List ℕ)) → Stuck text xs → Stuck text ys → xs ≡ ys
one_stop text xs ys a b =
    let c = rest_of text xs a in
    let d = rest_of text ys b in
    by_case c d (fronts xs ys c.rest d.rest (begins_feed xs a.good) (begins_feed ys b.good) (sym c.parts ∙ d.parts))
  where
    by_case : (c : Rest text xs) (d : Rest text ys) → Further xs ys c.rest d.rest ⊎ Further ys xs d.rest c.rest → xs ≡ ys
    by_case c d (inl f) = no_further text xs ys c b.good d.rest f
    by_case c d (inr f) = sym (no_further text ys xs d a.good c.rest f)

-- ---- the laws

pub line_faults_one : (text : List ℕ) (m n : ℕ) → IsLineFault text m → IsLineFault text n → m ≡ n
line_faults_one text m n f g = f.count ∙ ap (λ l. suc (length l)) (one_stop text f.before g.before (line_stuck text m f) (line_stuck text n g)) ∙ sym g.count

pub number_faults_one : (text : List ℕ) (m n : ℕ) → IsNumberFault text m → IsNumberFault text n → m ≡ n
number_faults_one text m n f g = f.count ∙ ap (λ l. suc (length l)) (one_stop text f.before g.before (number_stuck text m f) (number_stuck text n g)) ∙ sym g.count

pub faults_apart : (text : List ℕ) (m n : ℕ) → IsLineFault text m → IsNumberFault text n → ⊥
faults_apart text m n f g = by_case (one_stop text g.before f.before (number_stuck text n g) (line_stuck text m f)) f.fault
  where
    behind : (rest : List ℕ) → text ≡ text_of_lines f.before ++ rest → g.before ≡ f.before → g.line ++ 10 ∷ g.goes.rest ≡ rest
    behind rest e q = append_cancel_left (text_of_lines f.before) (g.line ++ 10 ∷ g.goes.rest) rest (ap (λ l. text_of_lines l ++ (g.line ++ 10 ∷ g.goes.rest)) (sym q) ∙ sym g.goes.parts ∙ e)

    by_case : g.before ≡ f.before → ((line : List ℕ) × GoesOn text f.before line × IsWrongLine f.before line) ⊎ EndsEarly text f.before → ⊥
    by_case q (inl (line, goes, wrong)) =
        let p = one_line g.line line g.goes.rest goes.rest g.goes.one goes.one (behind (line ++ 10 ∷ goes.rest) goes.parts q) in
        wrong.wrong (subst (λ l. BeginsLoosely (l ++ line ∷ [])) q (subst (λ l. BeginsLoosely (g.before ++ l ∷ [])) p.0 g.fault.form))
    by_case q (inr early) = has_feed g.line g.goes.rest (subst (Free 10) (sym (behind early.rest early.parts q)) early.one)

-- a certificate's text has no fault
no_stop : (text : List ℕ) (before : List (List ℕ)) (c : Cert) → IsCert c → text_of c ≡ text → Stuck text before → ⊥
unfolding text_of
no_stop text before c h e d = by_why d.why
  where
    whole : text_of_lines (lines_of c) ++ [] ≡ text
    whole = append-nil (text_of c) ∙ e

    all : Begins (lines_of c)
    all = record { cert = c; rest = []; is = sym (append-nil (lines_of c)); right = h }

    no_rest : (line rest : List ℕ) → line ++ 10 ∷ rest ≡ [] → ⊥
    no_rest [] rest e = absurd cc
    no_rest (b ∷ line) rest e = absurd cc

    no_lines : (more : List (List ℕ)) (line rest : List ℕ) → [] ≡ text_of_lines more ++ (line ++ 10 ∷ rest) → ⊥
    no_lines [] line rest e = no_rest line rest (sym e)
    no_lines (l ∷ more) line rest e = no_rest l (text_of_lines more ++ (line ++ 10 ∷ rest)) (sym (e ∙ first_line l more (line ++ 10 ∷ rest)))

    by_front : (line : List ℕ) (goes : GoesOn text before line) (r : Rest text before) → r.rest ≡ line ++ 10 ∷ goes.rest
        → Further before (lines_of c) r.rest [] ⊎ Further (lines_of c) before [] r.rest → ⊥
    by_front line goes r q (inl f) =
        let same : before ≡ lines_of c = no_further text before (lines_of c) r all [] f in
        let none : r.rest ≡ [] = append_cancel_left (text_of_lines (lines_of c)) r.rest [] (ap (λ l. text_of_lines l ++ r.rest) (sym same) ∙ sym r.parts ∙ sym whole) in
        no_rest line goes.rest (sym q ∙ none)
    by_front line goes r q (inr f) = no_lines f.more line goes.rest (f.rest ∙ ap (λ l. text_of_lines f.more ++ l) q)

    by_why : ((line : List ℕ) × GoesOn text before line × (Begins (before ++ line ∷ []) → ⊥)) ⊎ EndsEarly text before → ⊥
    by_why (inl (line, goes, wrong)) =
        let r : Rest text before = record {
          rest = line ++ 10 ∷ goes.rest;
          parts = goes.parts;
          stop = λ z zs s k e b.
              let p = one_line line z goes.rest (text_of_lines zs ++ s) goes.one k (e ∙ first_line z zs s) in
              wrong (subst (λ l. Begins (before ++ l ∷ [])) (sym p.0) b);
        } in
        by_front line goes r refl (fronts before (lines_of c) (line ++ 10 ∷ goes.rest) [] (begins_feed before d.good) (cert_feed c h.formed) (sym goes.parts ∙ sym whole))
    by_why (inr early) = early.unfinished c h e

pub no_line_fault : (text : List ℕ) (n : ℕ) (c : Cert) → IsCert c → text_of c ≡ text → IsLineFault text n → ⊥
no_line_fault text n c h e f = no_stop text f.before c h e (line_stuck text n f)

pub no_number_fault : (text : List ℕ) (n : ℕ) (c : Cert) → IsCert c → text_of c ≡ text → IsNumberFault text n → ⊥
no_number_fault text n c h e f = no_stop text f.before c h e (number_stuck text n f)

-- a text is that of one certificate at most
pub texts_one : (c d : Cert) → IsCert c → IsCert d → text_of c ≡ text_of d → c ≡ d
unfolding text_of
texts_one c d h k e = by_case (fronts (lines_of c) (lines_of d) [] [] (cert_feed c h.formed) (cert_feed d k.formed) (append-nil (text_of c) ∙ e ∙ sym (append-nil (text_of d))))
  where
    no_more : (more : List (List ℕ)) → [] ≡ text_of_lines more ++ [] → more ≡ []
    no_more [] e = refl
    no_more (l ∷ more) e = absurd (none l (text_of_lines more ++ []) (e ∙ first_line l more []))
      where
        none : (l r : List ℕ) → [] ≡ l ++ 10 ∷ r → ⊥
        none [] r e = absurd cc
        none (b ∷ l) r e = absurd cc

    by_case : Further (lines_of c) (lines_of d) [] [] ⊎ Further (lines_of d) (lines_of c) [] [] → c ≡ d
    by_case (inl f) = certs_one c d h.formed k.formed (sym (f.is ∙ ap (λ l. lines_of c ++ l) (no_more f.more f.rest) ∙ append-nil (lines_of c)))
    by_case (inr f) = certs_one c d h.formed k.formed (f.is ∙ ap (λ l. lines_of d ++ l) (no_more f.more f.rest) ∙ append-nil (lines_of d))
