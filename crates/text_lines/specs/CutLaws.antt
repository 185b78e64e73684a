-- Laws, for the proofs of this crate and of those above it.
-- Cuts at a byte, and the words of a line.
use Rattle.std.proofs.Common.{◌≡◌, ℕ, suc, Bool, true, false, List, [], ◌∷◌, ◌++◌, length, refl, sym, ap, ◌∙◌, arith}
use Rattle.std.specs.Prelude.{◌==◌, ◌||◌, if◌then◌else◌}
use Rattle.std.specs.List.{AllByRecursion}
use Rattle.std.proofs.lemmas.Bool.Decides.{nat_tests}
use Rattle.text_lines.specs.Lines.{Free}
use Rattle.text_lines.specs.Cuts.{spaced, upto, from, words, further, onto_first}
use Rattle.text_lines.specs.OptionLaws.{true_false, same_cons}

pub same_byte : (b : ℕ) → (b == b) ≡ true
same_byte b = grind (arith, nat_tests)

pub byte_is : (b c : ℕ) → (b == c) ≡ true → b ≡ c
byte_is b c h = grind (arith, nat_tests)

pub other_byte : (b c : ℕ) → (b == c) ≡ false → b ≡ c → ⊥
other_byte b c h e = true_false (b == c) (grind (arith, nat_tests)) h

or_parts : (a b : Bool) → (a || b) ≡ false → (a ≡ false) × (b ≡ false)
or_parts true b h = absurd cc
or_parts false b h = (refl, h)

or_none : (a b : Bool) → a ≡ false → b ≡ false → (a || b) ≡ false
or_none true b h k = absurd cc
or_none false b h k = k

pub free_cons : (byte b : ℕ) (bs : List ℕ) → (b == byte) ≡ false → Free byte bs → Free byte (b ∷ bs)
free_cons byte b bs h k = or_none (b == byte) _ h k

pub free_parts : (byte b : ℕ) (bs : List ℕ) → Free byte (b ∷ bs) → ((b == byte) ≡ false) × Free byte bs
free_parts byte b bs h = or_parts (b == byte) _ h

pub free_append : (byte : ℕ) (xs ys : List ℕ) → Free byte xs → Free byte ys → Free byte (xs ++ ys)
free_append byte [] ys h k = k
free_append byte (x ∷ xs) ys h k = let p = free_parts byte x xs h in free_cons byte x (xs ++ ys) p.0 (free_append byte xs ys p.1 k)

-- ---- cuts

pub upto_cut : (byte : ℕ) (w r : List ℕ) → Free byte w → upto byte (w ++ byte ∷ r) ≡ w
upto_cut byte [] r h = ap (λ t. if t then [] else byte ∷ upto byte r) (same_byte byte)
upto_cut byte (b ∷ w) r h = let p = free_parts byte b w h in ap (λ t. if t then [] else b ∷ upto byte (w ++ byte ∷ r)) p.0 ∙ ap (λ l. b ∷ l) (upto_cut byte w r p.1)

pub from_cut : (byte : ℕ) (w r : List ℕ) → Free byte w → from byte (w ++ byte ∷ r) ≡ byte ∷ r
from_cut byte [] r h = ap (λ t. if t then byte ∷ r else from byte r) (same_byte byte)
from_cut byte (b ∷ w) r h = let p = free_parts byte b w h in ap (λ t. if t then b ∷ (w ++ byte ∷ r) else from byte (w ++ byte ∷ r)) p.0 ∙ from_cut byte w r p.1

pub upto_all : (byte : ℕ) (w : List ℕ) → Free byte w → upto byte w ≡ w
upto_all byte [] h = refl
upto_all byte (b ∷ w) h = let p = free_parts byte b w h in ap (λ t. if t then [] else b ∷ upto byte w) p.0 ∙ ap (λ l. b ∷ l) (upto_all byte w p.1)

pub from_all : (byte : ℕ) (w : List ℕ) → Free byte w → from byte w ≡ []
from_all byte [] h = refl
from_all byte (b ∷ w) h = let p = free_parts byte b w h in ap (λ t. if t then b ∷ w else from byte w) p.0 ∙ from_all byte w p.1

pub cut_parts : (byte : ℕ) (w : List ℕ) → w ≡ upto byte w ++ from byte w
cut_parts byte [] = refl
cut_parts byte (b ∷ w) = by_test (b == byte) (cut_parts byte w)
  where
    by_test : (t : Bool) → w ≡ upto byte w ++ from byte w → b ∷ w ≡ (if t then [] else b ∷ upto byte w) ++ (if t then b ∷ w else from byte w)
    by_test true h = refl
    by_test false h = ap (λ l. b ∷ l) h

pub upto_free : (byte : ℕ) (w : List ℕ) → Free byte (upto byte w)
upto_free byte [] = refl
upto_free byte (b ∷ w) = by_test (b == byte) refl (upto_free byte w)
  where
    by_test : (t : Bool) → (b == byte) ≡ t → Free byte (upto byte w) → Free byte (if t then [] else b ∷ upto byte w)
    by_test true e h = refl
    by_test false e h = free_cons byte b (upto byte w) e h

pub from_first : (byte b : ℕ) (w r : List ℕ) → from byte w ≡ b ∷ r → b ≡ byte
from_first byte b [] r e = absurd cc
from_first byte b (x ∷ w) r e = by_test (x == byte) refl (from_first byte b w r) e
  where
    by_test : (t : Bool) → (x == byte) ≡ t → (from byte w ≡ b ∷ r → b ≡ byte) → (if t then x ∷ w else from byte w) ≡ b ∷ r → b ≡ byte
    by_test true h f e = sym (same_cons x b w r e).0 ∙ byte_is x byte h
    by_test false h f e = f e

-- ---- words

pub words_cut : (text : List ℕ) → words text ≡ upto 32 text ∷ further (from 32 text)
words_cut [] = refl
words_cut (b ∷ bs) = by_test (b == 32) (words_cut bs)
  where
    by_test : (t : Bool) → words bs ≡ upto 32 bs ∷ further (from 32 bs)
        → (if t then [] ∷ words bs else onto_first b (words bs)) ≡ (if t then [] else b ∷ upto 32 bs) ∷ further (if t then b ∷ bs else from 32 bs)
    by_test true h = refl
    by_test false h = ap (onto_first b) h

pub words_space : (w r : List ℕ) → Free 32 w → words (w ++ 32 ∷ r) ≡ w ∷ words r
words_space w r h = words_cut (w ++ 32 ∷ r) ∙ ap (λ l. l ∷ further (from 32 (w ++ 32 ∷ r))) (upto_cut 32 w r h) ∙ ap (λ l. w ∷ further l) (from_cut 32 w r h)

pub words_one : (w : List ℕ) → Free 32 w → words w ≡ w ∷ []
words_one w h = words_cut w ∙ ap (λ l. l ∷ further (from 32 w)) (upto_all 32 w h) ∙ ap (λ l. w ∷ further l) (from_all 32 w h)

pub words_spaced : (w : List ℕ) (ws : List (List ℕ)) → AllByRecursion (Free 32) (w ∷ ws) → words (spaced (w ∷ ws)) ≡ w ∷ ws
words_spaced w [] h = words_one w h.0
words_spaced w (v ∷ ws) h = words_space w (spaced (v ∷ ws)) h.0 ∙ ap (λ l. w ∷ l) (words_spaced v ws h.1)

spaced_onto : (b : ℕ) (w : List ℕ) (ws : List (List ℕ)) → spaced (onto_first b (w ∷ ws)) ≡ b ∷ spaced (w ∷ ws)
spaced_onto b w [] = refl
spaced_onto b w (v ∷ ws) = refl

pub spaced_words : (text : List ℕ) → spaced (words text) ≡ text
spaced_words [] = refl
spaced_words (b ∷ bs) = by_test (b == 32) refl (words bs) (words_cut bs) (spaced_words bs)
  where
    by_test : (t : Bool) → (b == 32) ≡ t → (ws : List (List ℕ)) → ws ≡ upto 32 bs ∷ further (from 32 bs) → spaced ws ≡ bs
        → spaced (if t then [] ∷ ws else onto_first b ws) ≡ b ∷ bs
    by_test t e [] k h = absurd cc
    by_test true e (w ∷ ws) k h = ap (λ x. x ∷ spaced (w ∷ ws)) (sym (byte_is b 32 e)) ∙ ap (λ l. b ∷ l) h
    by_test false e (w ∷ ws) k h = spaced_onto b w ws ∙ ap (λ l. b ∷ l) h

pub no_words : (rest : List ℕ) → (length rest == 0) ≡ true → further rest ≡ []
no_words [] h = refl
no_words (b ∷ rest) h = absurd (true_false (suc (length rest) == 0) h (grind (arith, nat_tests)))
