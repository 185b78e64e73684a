-- Numbers in the words of a command.
use Rattle.std.proofs.Common.{◌≡◌, ℕ, suc, ◌<◌, ◌≤◌, ◌^◌, true, false, List, [], ◌∷◌, length, map, get_or, Option, Result, Ok, Err, sym, ap, ◌∙◌, subst, arith}
use Rattle.std.proofs.lemmas.List.{length-map}
use Rattle.std.specs.Prelude.{codes, decimal, MatchOption}
use Rattle.std.specs.Str.Parse.{ParsesUnsigned}
use Rattle.std.specs.Str.{bytes_eq}
use Rattle.std.proofs.lemmas.Fmt.{parse-decimal}
use Rattle.std.proofs.lemmas.Slice.Eq.{bytes_eq-Decides}
use Rattle.job_script.specs.Scripts.{IsUpTo}
use Rattle.camelot_host.specs.Commands.{IsDrill}

same : (xs ys : List ℕ) → bytes_eq xs ys ≡ true → xs ≡ ys
same xs ys h = (bytes_eq-Decides xs ys).0 h

apart : (xs ys : List ℕ) → bytes_eq xs ys ≡ false → xs ≡ ys → ⊥
apart xs ys h e = let t : bytes_eq xs ys ≡ true = (bytes_eq-Decides xs ys).1 e in let f : true ≡ false = sym t ∙ h in absurd cc

-- what a word is parsed to is what it spells
abbrev pub Only : List ℕ → ℕ → Type 0
Only word number = (n : ℕ) → n < 2 ^ 32 → word ≡ decimal n → n ≡ number

pub too_small : (word : List ℕ) (number most : ℕ) → most < 2 ^ 32 → Only word number → number < 1 → (n : ℕ) → word ≡ decimal n → IsUpTo most n → ⊥
too_small word number most few only h n w fits = omega (arith, only n (omega (arith, few, fits.most)) w, h, fits.least)

pub too_large : (word : List ℕ) (number most : ℕ) → most < 2 ^ 32 → Only word number → most < number → (n : ℕ) → word ≡ decimal n → IsUpTo most n → ⊥
too_large word number most few only h n w fits = omega (arith, only n (omega (arith, few, fits.most)) w, h, fits.most)

pub other_text : (word text : List ℕ) (number most : ℕ) → most < 2 ^ 32 → Only word number → text ≡ decimal number → bytes_eq text word ≡ false
    → (n : ℕ) → word ≡ decimal n → IsUpTo most n → ⊥
other_text word text number most few only t h n w fits =
    let is : n ≡ number = only n (omega (arith, few, fits.most)) w in
    apart text word h (t ∙ sym (ap decimal is) ∙ sym w)

pub this_text : (word text : List ℕ) (number most : ℕ) → text ≡ decimal number → bytes_eq text word ≡ true → 1 ≤ number → number ≤ most
    → (word ≡ decimal number) × IsUpTo most number
this_text word text number most t h least few = (sym (same text word h) ∙ t, record { least = least; most = few })

-- a text that is parsed spells no other number
pub parsed : {E : Type 0} (word : List ℕ) (r : Result ℕ E) (number : ℕ) → ParsesUnsigned 32 10 word r → r ≡ Ok number → Only word number
parsed word r number p e n few w = let same : Ok number ≡ Ok n = sym e ∙ parse-decimal 32 n word r few (omega (arith, few)) w p in cc

-- one that isn't spells none that is so small
pub no_number : {E : Type 0} (word : List ℕ) (r : Result ℕ E) (error : E) (most : ℕ) → most < 2 ^ 32 → ParsesUnsigned 32 10 word r → r ≡ Err error
    → (n : ℕ) → word ≡ decimal n → IsUpTo most n → ⊥
no_number word r error most few p e n w fits =
    let same : Err error ≡ Ok n = sym e ∙ parse-decimal 32 n word r (omega (arith, few, fits.most)) (omega (arith, few, fits.most)) w p in
    absurd cc

-- ---- the words of a drill

-- no number from 1 to the most is written so
abbrev pub NoNumber : (word : List ℕ) (most : ℕ) → Type 0
NoNumber word most = (n : ℕ) → word ≡ decimal n → IsUpTo most n → ⊥

second_is : (b c d e f : List ℕ) → codes "drill" ∷ b ∷ c ∷ [] ≡ d ∷ e ∷ f ∷ [] → b ≡ e
second_is b c d e f h = cc

third_is : (b c d e f : List ℕ) → codes "drill" ∷ b ∷ c ∷ [] ≡ d ∷ e ∷ f ∷ [] → c ≡ f
third_is b c d e f h = cc

pub other_jobs : (first second : List ℕ) → NoNumber first 4096 → (jobs workers : ℕ) → IsDrill (codes "drill" ∷ first ∷ second ∷ []) jobs workers → ⊥
other_jobs first second h jobs workers d = h jobs (second_is first second (codes "drill") (decimal jobs) (decimal workers) d.are) d.few_jobs

pub other_workers : (first second : List ℕ) → NoNumber second 16 → (jobs workers : ℕ) → IsDrill (codes "drill" ∷ first ∷ second ∷ []) jobs workers → ⊥
other_workers first second h jobs workers d = h workers (third_is first second (codes "drill") (decimal jobs) (decimal workers) d.are) d.few_workers

pub drill_is : (first second : List ℕ) (jobs workers : ℕ) → (first ≡ decimal jobs) × IsUpTo 4096 jobs → (second ≡ decimal workers) × IsUpTo 16 workers
    → IsDrill (codes "drill" ∷ first ∷ second ∷ []) jobs workers
drill_is first second jobs workers j w = record {
  are = ap (λ l. codes "drill" ∷ l ∷ second ∷ []) j.0 ∙ ap (λ l. codes "drill" ∷ decimal jobs ∷ l ∷ []) w.0;
  few_jobs = j.1;
  few_workers = w.1;
}

-- ---- all words behind the name

two : {X : Type 0} (f : X → List ℕ) (ws : List X) (x y : X) → 2 ≤ length ws → length ws < 3 → x ≡ get_or ws 0 x → y ≡ get_or ws 1 y
    → map f ws ≡ f x ∷ f y ∷ []
two f [] x y h k a b = absurd (omega (arith, h))
two f (u ∷ []) x y h k a b = absurd (omega (arith, h))
two f (u ∷ v ∷ []) x y h k a b = λ i. f (sym a i) ∷ f (sym b i) ∷ []
two f (u ∷ v ∷ w ∷ ws) x y h k a b = absurd (omega (arith, k))

-- other numbers of words
pub not_two : {X : Type 0} (f : X → List ℕ) (ws : List X) → (length ws ≡ 2 → ⊥) → (jobs workers : ℕ) → IsDrill (codes "drill" ∷ map f ws) jobs workers → ⊥
not_two f ws other jobs workers d = let n : suc (length (map f ws)) ≡ 3 = ap length d.are in other (omega (arith, n, length-map ws f))

-- the answer for two words is that for all
abbrev pub Drills : List (List ℕ) → Option (ℕ × ℕ) → Type 0
Drills rest o = MatchOption o ((jobs workers : ℕ) → IsDrill (codes "drill" ∷ rest) jobs workers → ⊥) (λ p. IsDrill (codes "drill" ∷ rest) p.0 p.1)

pub of_two : {X : Type 0} (f : X → List ℕ) (ws : List X) (x y : X) (a b : List ℕ) (o : Option (ℕ × ℕ)) → 2 ≤ length ws → length ws < 3
    → x ≡ get_or ws 0 x → y ≡ get_or ws 1 y → a ≡ f x → b ≡ f y → Drills (a ∷ b ∷ []) o → Drills (map f ws) o
of_two f ws x y a b o h k ex ey ea eb d =
    let all : map f ws ≡ a ∷ b ∷ [] = two f ws x y h k ex ey ∙ (λ i. sym ea i ∷ sym eb i ∷ []) in
    subst (λ l. Drills l o) (sym all) d
