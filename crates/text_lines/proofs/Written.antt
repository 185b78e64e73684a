-- A label and a number, one behind the other.
use Rattle.std.proofs.Common.{◌≡◌, ℕ, ◌^◌, ◌<◌, List, ◌++◌, sym, ap, ◌∙◌, append_assoc}
use Rattle.std.specs.Prelude.{decimal}
use Rattle.text_lines.specs.Numbers.{number}
use Rattle.text_lines.specs.NumberLaws.{number-decimal}

pub decimal_written : (n : ℕ) (label old middle written new : List ℕ) → written ≡ decimal n → middle ≡ old ++ label → new ≡ middle ++ written
    → new ≡ old ++ (label ++ decimal n)
decimal_written n label old middle written new e f g = g ∙ ap (λ l. l ++ written) f ∙ append_assoc old label written ∙ ap (λ l. old ++ (label ++ l)) e

pub number_written : (n : ℕ) (label old middle written new : List ℕ) → n < 2 ^ 64 → written ≡ decimal n → middle ≡ old ++ label
    → new ≡ middle ++ written → new ≡ old ++ (label ++ number n)
number_written n label old middle written new h e f g =
    decimal_written n label old middle written new e f g ∙ ap (λ l. old ++ (label ++ l)) (sym (number-decimal n h))
