-- How the bytes of a text are cut.
use Rattle.std.proofs.Common.{◌≡◌, ℕ, zero, suc, ◌-◌, ◌<◌, ◌≤◌, Bool, true, false, List, [], ◌∷◌, ◌++◌, length, take, drop, get_or, Some, None, refl, sym, ap, ◌∙◌, subst, arith, length-drop, length-append, append-nil}
use Rattle.std.specs.Prelude.{◌==◌, if◌then◌else◌}
use Rattle.std.proofs.lemmas.List.{take_all}
use Rattle.std.proofs.lemmas.Bool.Decides.{nat_tests}
use Rattle.memchr.specs.Find.{IsFirstByte, NoneBefore, is_byte}
use Rattle.text_lines.specs.Lines.{Free, IsOneLine, HasLine}
use Rattle.text_lines.specs.Cuts.{only_if, upto, from, behind, words, further, word_of, IsCut}
use Rattle.text_lines.specs.CutLaws.{cut_parts, upto_free, from_first, words_cut}

not_true : (b : Bool) → (b ≡ true → ⊥) → b ≡ false
not_true true h = absurd (h refl)
not_true false h = refl

-- ---- a first byte

pub upto_none : (b : ℕ) (bs : List ℕ) → IsFirstByte (is_byte b) bs None → bs ≡ upto b bs
upto_none b [] h = refl
upto_none b (x ∷ bs) h =
    let here : (x == b) ≡ false = not_true (x == b) (h 0 (omega arith) (omega arith)) in
    ap (λ l. x ∷ l) (upto_none b bs (λ k lo hi p. h (suc k) (omega arith) (omega arith) p)) ∙ sym (ap (λ t. if t then [] else x ∷ upto b bs) here)

pub from_none : (b : ℕ) (bs : List ℕ) → IsFirstByte (is_byte b) bs None → [] ≡ from b bs
from_none b [] h = refl
from_none b (x ∷ bs) h =
    let here : (x == b) ≡ false = not_true (x == b) (h 0 (omega arith) (omega arith)) in
    from_none b bs (λ k lo hi p. h (suc k) (omega arith) (omega arith) p) ∙ sym (ap (λ t. if t then x ∷ bs else from b bs) here)

pub upto_found : (b : ℕ) (bs : List ℕ) (n : ℕ) → IsFirstByte (is_byte b) bs (Some n) → take n bs ≡ upto b bs
upto_found b [] n h = absurd (omega (arith, h.0.high))
upto_found b (x ∷ bs) zero h = sym (ap (λ t. if t then [] else x ∷ upto b bs) h.1)
upto_found b (x ∷ bs) (suc n) h =
    let here : (x == b) ≡ false = not_true (x == b) (h.0.before 0 (omega arith) (omega arith)) in
    let first : NoneBefore (λ k. is_byte b (get_or bs k 0) ≡ true) 0 (length bs) n = record { low = omega arith; high = omega (arith, h.0.high); before = λ k lo hi p. h.0.before (suc k) (omega arith) (omega arith) p } in
    ap (λ l. x ∷ l) (upto_found b bs n (first, h.1)) ∙ sym (ap (λ t. if t then [] else x ∷ upto b bs) here)

from_at : (b : ℕ) (bs : List ℕ) (n : ℕ) → IsFirstByte (is_byte b) bs (Some n) → drop n bs ≡ from b bs
from_at b [] n h = absurd (omega (arith, h.0.high))
from_at b (x ∷ bs) zero h = sym (ap (λ t. if t then x ∷ bs else from b bs) h.1)
from_at b (x ∷ bs) (suc n) h =
    let here : (x == b) ≡ false = not_true (x == b) (h.0.before 0 (omega arith) (omega arith)) in
    let first : NoneBefore (λ k. is_byte b (get_or bs k 0) ≡ true) 0 (length bs) n = record { low = omega arith; high = omega (arith, h.0.high); before = λ k lo hi p. h.0.before (suc k) (omega arith) (omega arith) p } in
    from_at b bs n (first, h.1) ∙ sym (ap (λ t. if t then x ∷ bs else from b bs) here)

pub from_found : (b : ℕ) (bs : List ℕ) (n : ℕ) → IsFirstByte (is_byte b) bs (Some n) → take (length bs - n) (drop n bs) ≡ from b bs
from_found b bs n h = take_all (length bs - n) (drop n bs) (omega (arith, length-drop n bs)) ∙ from_at b bs n h

-- ---- lines

pub has_line : (text line rest after : List ℕ) (first : ℕ) → line ≡ upto 10 text → rest ≡ from 10 text → rest ≡ first ∷ after → HasLine text line after
has_line text line rest after first e f g = record {
  parts = cut_parts 10 text ∙ ap (λ l. l ++ from 10 text) (sym e) ∙ ap (λ l. line ++ l) (sym f ∙ g) ∙ ap (λ x. line ++ x ∷ after) (from_first 10 first text after (sym f ∙ g));
  one = subst (Free 10) (sym e) (upto_free 10 text);
}

pub no_line : (text rest : List ℕ) → rest ≡ from 10 text → rest ≡ [] → IsOneLine text
no_line text rest f h = subst (Free 10) (sym (append-nil (upto 10 text)) ∙ ap (λ l. upto 10 text ++ l) (sym h ∙ f) ∙ sym (cut_parts 10 text)) (upto_free 10 text)

-- ---- words

pub no_word : (rest : List ℕ) → rest ≡ [] → word_of rest ≡ None
no_word rest e = ap word_of e

pub other_word : (rest text : List ℕ) (first : ℕ) → rest ≡ first ∷ text → (first ≡ 32 → ⊥) → word_of rest ≡ None
other_word rest text first e h =
    let t : (first == 32) ≡ false = grind (arith, nat_tests, h) in
    ap word_of e ∙ ap (λ t. only_if t (Some (upto 32 text, from 32 text))) t

pub some_word : (rest text word after : List ℕ) (first : ℕ) → rest ≡ first ∷ text → first ≡ 32 → word ≡ upto 32 text → after ≡ from 32 text
    → IsCut (word_of rest) word after
some_word rest text word after first e h f g =
    let t : (first == 32) ≡ true = grind (arith, nat_tests, h) in
    record { is = ap word_of e ∙ ap (λ t. only_if t (Some (upto 32 text, from 32 text))) t ∙ ap (λ w. Some (w, from 32 text)) (sym f) ∙ ap (λ r. Some (word, r)) (sym g) }

pub further_cut : (rest text word after : List ℕ) → (length rest == 0) ≡ false → text ≡ behind rest → word ≡ upto 32 text → after ≡ from 32 text
    → further rest ≡ word ∷ further after
further_cut [] text word after h e f g = absurd cc
further_cut (b ∷ rest) text word after h e f g = ap words (sym e) ∙ words_cut text ∙ ap (λ l. l ∷ further (from 32 text)) (sym f) ∙ ap (λ l. word ∷ further l) (sym g)

pub further_shorter : (rest text after : List ℕ) → (length rest == 0) ≡ false → text ≡ behind rest → after ≡ from 32 text → length after < length rest
further_shorter [] text after h e g = absurd cc
further_shorter (b ∷ rest) text after h e g = omega (arith, ap length e, ap length g, ap length (cut_parts 32 text), length-append (upto 32 text) (from 32 text))

-- ---- the first of a slice

rest_is : (rest : List ℕ) → 1 ≤ length rest → rest ≡ get_or rest 0 0 ∷ take (length rest - 1) (drop 1 rest)
rest_is [] h = absurd (omega (arith, h))
rest_is (b ∷ rest) h = ap (λ l. b ∷ l) (sym (take_all (length (b ∷ rest) - 1) rest (omega arith)))

pub none_left : (rest : List ℕ) → length rest < 1 → rest ≡ []
none_left [] h = refl
none_left (b ∷ rest) h = absurd (omega (arith, h))

pub some_left : (rest : List ℕ) → 1 ≤ length rest → rest ≡ get_or rest 0 0 ∷ take (length rest - 1) (drop 1 rest)
some_left rest h = rest_is rest h
