-- Laws, for the proofs of this crate and of those above it.
-- Lines in front of a text: a text has one way to be cut into lines.
use Rattle.std.proofs.Common.{◌≡◌, ℕ, ◌<◌, ◌≤◌, List, [], ◌∷◌, ◌++◌, length, refl, sym, ap, ◌∙◌, subst, append_assoc, append-nil, arith, length-append, inl, inr}
use Rattle.std.specs.Prelude.{◌⊎◌, ◌==◌, flat_map}
use Rattle.std.specs.List.{AllByRecursion}
use Rattle.text_lines.specs.Lines.{Free, IsOneLine, text_of_lines, HasLine}
use Rattle.text_lines.specs.Cuts.{upto, from}
use Rattle.text_lines.specs.OptionLaws.{true_false, same_cons}
use Rattle.text_lines.specs.CutLaws.{free_parts, upto_cut, from_cut, cut_parts, upto_free, from_first}

pub all_append : {A : Type 0} (P : A → Type 0) (xs ys : List A) → AllByRecursion P xs → AllByRecursion P ys → AllByRecursion P (xs ++ ys)
all_append P [] ys h k = k
all_append P (x ∷ xs) ys h k = (h.0, all_append P xs ys h.1 k)

pub all_left : {A : Type 0} (P : A → Type 0) (xs ys : List A) → AllByRecursion P (xs ++ ys) → AllByRecursion P xs
all_left P [] ys h = tt
all_left P (x ∷ xs) ys h = (h.0, all_left P xs ys h.1)

pub all_last : {A : Type 0} (P : A → Type 0) (xs : List A) (y : A) → AllByRecursion P (xs ++ y ∷ []) → P y
all_last P [] y h = h.0
all_last P (x ∷ xs) y h = all_last P xs y h.1

pub flat_append : {A B : Type 0} (f : A → List B) (xs ys : List A) → flat_map f (xs ++ ys) ≡ flat_map f xs ++ flat_map f ys
flat_append f [] ys = refl
flat_append f (x ∷ xs) ys = ap (λ l. f x ++ l) (flat_append f xs ys) ∙ sym (append_assoc (f x) (flat_map f xs) (flat_map f ys))

pub lines_append : (xs ys : List (List ℕ)) → text_of_lines (xs ++ ys) ≡ text_of_lines xs ++ text_of_lines ys
lines_append xs ys = flat_append (λ line. line ++ 10 ∷ []) xs ys

pub lines_long : (ls : List (List ℕ)) → length ls ≤ length (text_of_lines ls)
lines_long [] = omega arith
lines_long (m ∷ ls) = omega (arith, lines_long ls, length-append (m ++ 10 ∷ []) (text_of_lines ls), length-append m (10 ∷ []))

-- ---- lines in front

pub one_line : (l m r s : List ℕ) → Free 10 l → Free 10 m → l ++ 10 ∷ r ≡ m ++ 10 ∷ s → (l ≡ m) × (r ≡ s)
one_line l m r s h k e =
    let rest : 10 ∷ r ≡ 10 ∷ s = sym (from_cut 10 l r h) ∙ ap (from 10) e ∙ from_cut 10 m s k in
    (sym (upto_cut 10 l r h) ∙ ap (upto 10) e ∙ upto_cut 10 m s k, (same_cons 10 10 r s rest).1)

pub first_line : (l : List ℕ) (ls : List (List ℕ)) (r : List ℕ) → text_of_lines (l ∷ ls) ++ r ≡ l ++ 10 ∷ (text_of_lines ls ++ r)
first_line l ls r = append_assoc (l ++ 10 ∷ []) (text_of_lines ls) r ∙ append_assoc l (10 ∷ []) (text_of_lines ls ++ r)

pub has_feed : (l r : List ℕ) → Free 10 (l ++ 10 ∷ r) → ⊥
has_feed [] r h = true_false (10 == 10) refl (free_parts 10 10 r h).0
has_feed (b ∷ l) r h = has_feed l r (free_parts 10 b (l ++ 10 ∷ r) h).1

-- some of these lines, and what follows
pub record Further (xs ys : List (List ℕ)) (r s : List ℕ) : Type 0 where
  pub more : List (List ℕ)
  pub is : ys ≡ xs ++ more
  pub rest : r ≡ text_of_lines more ++ s

pub fronts : (xs ys : List (List ℕ)) (r s : List ℕ) → AllByRecursion (Free 10) xs → AllByRecursion (Free 10) ys
    → text_of_lines xs ++ r ≡ text_of_lines ys ++ s → Further xs ys r s ⊎ Further ys xs s r
fronts [] ys r s h k e = inl (record { more = ys; is = refl; rest = e })
fronts (x ∷ xs) [] r s h k e = inr (record { more = x ∷ xs; is = refl; rest = sym e })
fronts (x ∷ xs) (y ∷ ys) r s h k e =
    let p = one_line x y (text_of_lines xs ++ r) (text_of_lines ys ++ s) h.0 k.0 (sym (first_line x xs r) ∙ e ∙ first_line y ys s) in
    lift p.0 (fronts xs ys r s h.1 k.1 p.1)
  where
    lift : x ≡ y → Further xs ys r s ⊎ Further ys xs s r → Further (x ∷ xs) (y ∷ ys) r s ⊎ Further (y ∷ ys) (x ∷ xs) s r
    lift q (inl d) = inl (record { more = d.more; is = ap (λ l. y ∷ l) d.is ∙ ap (λ z. z ∷ (xs ++ d.more)) (sym q); rest = d.rest })
    lift q (inr d) = inr (record { more = d.more; is = ap (λ l. x ∷ l) d.is ∙ ap (λ z. z ∷ (ys ++ d.more)) q; rest = d.rest })

pub no_rest : (line rest : List ℕ) → line ++ 10 ∷ rest ≡ [] → ⊥
no_rest [] rest e = absurd cc
no_rest (b ∷ line) rest e = absurd cc

pub no_more : (more : List (List ℕ)) (rest : List ℕ) → [] ≡ text_of_lines more ++ rest → more ≡ []
no_more [] rest e = refl
no_more (m ∷ more) rest e = absurd (no_rest m (text_of_lines more ++ rest) (sym (e ∙ first_line m more rest)))

-- ---- the line in front

pub line_or_none : (text : List ℕ) → Free 10 text ⊎ ((line rest : List ℕ) × HasLine text line rest)
line_or_none text = by_rest (from 10 text) refl
  where
    by_rest : (r : List ℕ) → from 10 text ≡ r → Free 10 text ⊎ ((line rest : List ℕ) × HasLine text line rest)
    by_rest [] e = inl (subst (Free 10) (sym (append-nil (upto 10 text)) ∙ ap (λ l. upto 10 text ++ l) (sym e) ∙ sym (cut_parts 10 text)) (upto_free 10 text))
    by_rest (b ∷ r) e = inr (upto 10 text, r, record { parts = cut_parts 10 text ∙ ap (λ l. upto 10 text ++ l) e ∙ ap (λ x. upto 10 text ++ x ∷ r) (from_first 10 b text r e); one = upto_free 10 text })

pub line_shorter : (text line rest : List ℕ) → HasLine text line rest → length rest < length text
line_shorter text line rest h = omega (arith, ap length h.parts, length-append line (10 ∷ rest))

pub same_line : (text line other rest more : List ℕ) → HasLine text line rest → IsOneLine other → text ≡ other ++ 10 ∷ more → (line ≡ other) × (rest ≡ more)
same_line text line other rest more h one e = one_line line other rest more h.one one (sym h.parts ∙ e)
