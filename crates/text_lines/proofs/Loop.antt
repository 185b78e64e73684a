-- The loop over the lines of a text.
use Rattle.std.proofs.Common.{◌≡◌, ℕ, suc, ◌+◌, ◌<◌, ◌≤◌, true, false, List, [], ◌∷◌, length, refl, sym, ap, subst, arith, length-append}
use Rattle.std.specs.Prelude.{◌==◌}
use Rattle.text_lines.specs.Lines.{IsOneLine, HasLine}
use Rattle.text_lines.specs.Formats.{Format, IsFault}
use Rattle.text_lines.specs.Machines.{Machine, Shows, IsNext, IsRefused, IsWhole, Reading}
use Rattle.text_lines.specs.OptionLaws.{true_false}
use Rattle.text_lines.specs.ReadingLaws.{started_good, reading_start, reading_next, reading_refused, reading_early, reading_end}
use Rattle.std.proofs.lemmas.Bool.Decides.{nat_tests}

pub starts : {F : Format} (M : Machine F) → Shows M → (text : List ℕ) (s : M.State) → s ≡ M.start → Reading M text s text 1
starts M w text s e = subst (λ s. Reading M text s text 1) (sym e) (reading_start M w text)

pub goes_on : {F : Format} (M : Machine F) (text : List ℕ) (s t : M.State) (rest line after : List ℕ) (n : ℕ) → Reading M text s rest n → HasLine rest line after
    → IsNext M s line t → Reading M text t after (n + 1)
goes_on M text s t rest line after n r h d = let e : suc n ≡ n + 1 = omega arith in subst (Reading M text t after) e (reading_next M text s t rest line after n r h d)

pub few : {F : Format} (M : Machine F) (text : List ℕ) (s : M.State) (rest : List ℕ) (n : ℕ) → Reading M text s rest n → n ≤ length text + 1
few M text s rest n r = omega (arith, r.few)

pub refused : {F : Format} (M : Machine F) → Shows M → (kind : ℕ) (text : List ℕ) (s : M.State) (rest line after : List ℕ) (n : ℕ) → Reading M text s rest n
    → HasLine rest line after → IsRefused M s line kind → IsFault F kind text n
refused M w kind text s rest line after n r h d = reading_refused M w kind text s rest line after n r h d

none_is : (rest : List ℕ) → (length rest == 0) ≡ true → rest ≡ []
none_is [] h = refl
none_is (b ∷ rest) h = absurd (true_false (suc (length rest) == 0) h (grind (arith, nat_tests)))

pub some_left : {F : Format} (M : Machine F) → Shows M → (text : List ℕ) (s : M.State) (rest : List ℕ) (n kind : ℕ) → Reading M text s rest n → IsOneLine rest
    → (length rest == 0) ≡ false → kind ≡ 0 → IsFault F kind text n
some_left {F} M w text s [] n kind r free e k = absurd (true_false (0 == 0) refl e)
some_left {F} M w text s (b ∷ rest) n kind r free e k = subst (λ kind. IsFault F kind text n) (sym k) (reading_early M w text s (b ∷ rest) n r free (λ q. absurd cc))

pub still_open : {F : Format} (M : Machine F) → Shows M → (text : List ℕ) (s : M.State) (rest : List ℕ) (n kind : ℕ) → Reading M text s rest n → IsOneLine rest
    → M.ends s ≡ false → kind ≡ 0 → IsFault F kind text n
still_open {F} M w text s rest n kind r free e k = subst (λ kind. IsFault F kind text n) (sym k) (reading_early M w text s rest n r free (λ q. e))

pub whole : {F : Format} (M : Machine F) → Shows M → (text : List ℕ) (s : M.State) (rest : List ℕ) (n : ℕ) → Reading M text s rest n
    → (length rest == 0) ≡ true → M.ends s ≡ true → IsWhole M text s
whole M w text s rest n r e h = record { is = reading_end M w text s rest n r (none_is rest e) h; ends = h }

pub good : {F : Format} (M : Machine F) → Shows M → (text : List ℕ) (s : M.State) (rest : List ℕ) (n : ℕ) → Reading M text s rest n → M.IsGood s
good M w text s rest n r = started_good M w s r.lines r.each r.run

pub short : {F : Format} (M : Machine F) (text : List ℕ) (s : M.State) (rest line after : List ℕ) (n : ℕ) → Reading M text s rest n → HasLine rest line after
    → length text < 4294967296 → length after < 4294967296
short M text s rest line after n r h k = omega (arith, r.few, r.count, k, ap length h.parts, length-append line (10 ∷ after))
