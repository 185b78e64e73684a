-- Laws, for the proofs of this crate and of those above it.
-- Words spell at most one command, which is told by the first word and the numbers behind it.
use Rattle.std.proofs.Common.{◌≡◌, ℕ, ◌≤◌, false, List, [], ◌∷◌, Option, Some, None, refl, sym, ap, ◌∙◌, subst, arith}
use Rattle.std.specs.Prelude.{codes, decimal, if◌then◌else◌}
use Rattle.std.specs.Str.{bytes_eq}
use Rattle.std.specs.Str.Parse.{digits_value}
use Rattle.std.proofs.lemmas.Fmt.{decimal_is_IsNumeral}
use Rattle.camelot_host.specs.Commands.{Command, Serve, Compile, Verify, Migrate, Tenants, Sliced, Drill, IsCommand, IsNoCommand}

-- the number in the first word, and in the second
abbrev pub first_number : List (List ℕ) → ℕ
first_number [] = 0
first_number (w ∷ ws) = digits_value 10 w

abbrev pub second_number : List (List ℕ) → ℕ
second_number [] = 0
second_number (w ∷ ws) = first_number ws

-- the names of the commands, each with the command that it is with these words behind it
abbrev pub names : List (List ℕ) → List (List ℕ × Command)
names rest = (codes "serve", Serve)
    ∷ (codes "compile", Compile)
    ∷ (codes "verify", Verify)
    ∷ (codes "migrate", Migrate)
    ∷ (codes "tenants", Tenants)
    ∷ (codes "sliced", Sliced (first_number rest))
    ∷ (codes "drill", Drill (first_number rest) (second_number rest))
    ∷ []

-- the command of the first of these names that is this word, whole
abbrev pub named : List ℕ → List (List ℕ × Command) → Option Command
named word [] = None
named word (n ∷ ns) = if bytes_eq word n.0 then Some n.1 else named word ns

-- the word is none of these names
abbrev pub Unlike : List ℕ → List (List ℕ × Command) → Type 0
Unlike word [] = Unit {0}
Unlike word (n ∷ ns) = (bytes_eq word n.0 ≡ false) × Unlike word ns

-- the only command that the words may spell
abbrev pub spelled : List (List ℕ) → Option Command
spelled [] = None
spelled (name ∷ rest) = named name (names rest)

in_decimal : (n limit : ℕ) → limit ≤ 1000000000 → n ≤ limit → digits_value 10 (decimal n) ≡ n
in_decimal n limit few most = (decimal_is_IsNumeral n (omega (arith, few, most))).1

-- one line for each command
pub spelled_is : (words : List (List ℕ)) (command : Command) → IsCommand words command → spelled words ≡ Some command
spelled_is words Serve h = ap spelled h
spelled_is words Compile h = ap spelled h
spelled_is words Verify h = ap spelled h
spelled_is words Migrate h = ap spelled h
spelled_is words Tenants h = ap spelled h
spelled_is words (Sliced steps) h = ap spelled h.are ∙ (λ i. Some (Sliced (in_decimal steps 1000000000 (omega arith) h.few.most i)))
spelled_is words (Drill jobs workers) h =
    ap spelled h.are ∙ (λ i. Some (Drill (in_decimal jobs 4096 (omega arith) h.few_jobs.most i) (in_decimal workers 16 (omega arith) h.few_workers.most i)))

one_of : (first second : Command) → ◌≡◌ {A = Option Command} (Some first) (Some second) → first ≡ second
one_of first second e = cc

pub one_command : (words : List (List ℕ)) (first second : Command) → IsCommand words first → IsCommand words second → first ≡ second
one_command words first second h k = one_of first second (sym (spelled_is words first h) ∙ spelled_is words second k)

-- where the words may spell no command, they spell none
pub none_spelled : (words : List (List ℕ)) → spelled words ≡ None → IsNoCommand words
none_spelled words none command h = let e : None ≡ Some command = sym none ∙ spelled_is words command h in absurd cc

-- nor where they don't spell the only one that they may spell
pub other_spelled : (words : List (List ℕ)) (only : Command) → spelled words ≡ Some only → (IsCommand words only → ⊥) → IsNoCommand words
other_spelled words only is not command h = not (subst (IsCommand words) (one_of command only (sym (spelled_is words command h) ∙ is)) h)

-- nor where the first word is no command's name
none_named : (word : List ℕ) (ns : List (List ℕ × Command)) → Unlike word ns → named word ns ≡ None
none_named word [] h = refl
none_named word (n ∷ ns) h = ap (λ b. if b then Some n.1 else named word ns) h.0 ∙ none_named word ns h.1

pub no_name : (name : List ℕ) (rest : List (List ℕ)) → Unlike name (names rest) → IsNoCommand (name ∷ rest)
no_name name rest h = none_spelled (name ∷ rest) (none_named name (names rest) h)
