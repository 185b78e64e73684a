-- Numbers within limits, and names.
use Rattle.std.proofs.Common.{◌≡◌, ℕ, ◌<◌, ◌≤◌, Bool, true, false, List, [], ◌∷◌, length, Option, Some, None, refl, sym, ap, ◌∙◌, arith}
use Rattle.std.specs.Prelude.{◌&&◌, nat_le}
use Rattle.std.specs.Option.{option_map}
use Rattle.std.specs.List.{list_all}
use Rattle.std.specs.Str.{bytes_eq}
use Rattle.std.proofs.lemmas.Bool.Decides.{nat_tests}
use Rattle.camelot_values.specs.Names.{is_tail, has_form, is_name}
use Rattle.text_lines.specs.Cuts.{only_if, upto, from, behind, capped, number_of}
use Rattle.text_lines.specs.OptionLaws.{some_same}
use Rattle.job_script.specs.Scripts.{IsUpTo}
use Rattle.job_script.specs.Reading.{number_behind, IsRead, IsWide}

-- ---- numbers within limits

-- what was read as this, capped
record There (o : Option ℕ) (c : ℕ) : Type 0 where
  n : ℕ
  is : o ≡ Some n
  capped_is : c ≡ capped n

there : (o : Option ℕ) (c : ℕ) → Some c ≡ option_map capped o → There o c
there None c e = absurd cc
there (Some n) c e = record { n = n; is = refl; capped_is = some_same c (capped n) e }

pub not_number : (o : Option ℕ) → None ≡ option_map capped o → o ≡ None
not_number None e = refl
not_number (Some n) e = absurd cc

pub too_small : (o : Option ℕ) (c most : ℕ) → Some c ≡ option_map capped o → c < 1 → IsWide o (IsUpTo most)
too_small o c most e h = let t = there o c e in record { x = t.n; is = t.is; wide = λ w. absurd (omega (arith, h, t.capped_is, w.least)) }

pub too_large : (o : Option ℕ) (c most : ℕ) → Some c ≡ option_map capped o → most < c → IsWide o (IsUpTo most)
too_large o c most e h = let t = there o c e in record { x = t.n; is = t.is; wide = λ w. absurd (omega (arith, h, t.capped_is, w.most)) }

pub in_limits : (o : Option ℕ) (c most : ℕ) → most ≤ 1099511627776 → Some c ≡ option_map capped o → 1 ≤ c → c ≤ most → IsRead o (IsUpTo most) c
in_limits o c most small e h k =
    let t = there o c e in
    let same : t.n ≡ c = omega (arith, t.capped_is, small, k) in
    record { is = t.is ∙ ap Some same; fits = record { least = h; most = k } }

-- ---- a number alone on a line

pub other_tag : (tag line first : List ℕ) → first ≡ upto 32 line → bytes_eq first tag ≡ false → number_behind tag line ≡ None
unfolding number_behind
other_tag tag line first e h = ap (λ l. only_if (bytes_eq l tag) (number_of (behind (from 32 line)))) (sym e) ∙ ap (λ t. only_if t (number_of (behind (from 32 line)))) h

pub sized_is : (tag line first rest word : List ℕ) → first ≡ upto 32 line → rest ≡ from 32 line → bytes_eq first tag ≡ true → word ≡ behind rest
    → number_behind tag line ≡ number_of word
unfolding number_behind
sized_is tag line first rest word e f h g =
    ap (λ l. only_if (bytes_eq l tag) (number_of (behind (from 32 line)))) (sym e) ∙ ap (λ t. only_if t (number_of (behind (from 32 line)))) h ∙ ap (λ l. number_of (behind l)) (sym f) ∙ ap number_of (sym g)

-- ---- names

and_none : (a : Bool) → (a && false) ≡ false
and_none true = refl
and_none false = refl

short_test : (n : ℕ) (b : Bool) → n ≤ 64 → (b && nat_le n 64) ≡ b
short_test n b h = let t : nat_le n 64 ≡ true = grind (arith, nat_tests, h) in ap (λ t. b && t) t ∙ and_all b
  where
    and_all : (b : Bool) → (b && true) ≡ b
    and_all true = refl
    and_all false = refl

pub name_long : (is_first : ℕ → Bool) (word : List ℕ) → 64 < length word → false ≡ is_name is_first word
name_long is_first word h =
    let t : nat_le (length word) 64 ≡ false = grind (arith, nat_tests, h) in
    sym (ap (λ t. has_form is_first word && t) t ∙ and_none (has_form is_first word))

pub name_none : (is_first : ℕ → Bool) (word : List ℕ) → word ≡ [] → false ≡ is_name is_first word
name_none is_first word e = sym (ap (is_name is_first) e)

pub name_first : (is_first : ℕ → Bool) (word rest : List ℕ) (first : ℕ) → word ≡ first ∷ rest → is_first first ≡ false → false ≡ is_name is_first word
name_first is_first word rest first e h = sym (ap (is_name is_first) e ∙ ap (λ t. (t && list_all is_tail rest) && nat_le (length (first ∷ rest)) 64) h)

pub name_rest : (is_first : ℕ → Bool) (word rest : List ℕ) (first : ℕ) → word ≡ first ∷ rest → is_first first ≡ true → length word ≤ 64
    → list_all is_tail rest ≡ is_name is_first word
name_rest is_first word rest first e h k = sym (ap (λ l. has_form is_first l && nat_le (length word) 64) e ∙ ap (λ t. (t && list_all is_tail rest) && nat_le (length word) 64) h ∙ short_test (length word) (list_all is_tail rest) k)
