-- Pieces of a script's text that are written one after the other.
use Rattle.std.proofs.Common.{◌≡◌, ℕ, List, [], ◌∷◌, ◌++◌, sym, ap, ◌∙◌, append_assoc}
use Rattle.std.specs.Prelude.{flat_map, codes}
use Rattle.text_lines.specs.Lines.{text_of_lines}
use Rattle.text_lines.specs.Numbers.{number}
use Rattle.job_script.specs.WritingLaws.{two, three, behind, line_is}
use Rattle.job_script.specs.Scripts.{Program, Job, AProgram, AJob, Script}
use Rattle.job_script.specs.Text.{language_name, args_part, entry_text, script_text, IsScriptText, arena_line, workers_line}

pub spaced : (a w o p : List ℕ) → o ≡ a ++ 32 ∷ [] → p ≡ o ++ w → p ≡ a ++ 32 ∷ w
spaced a w o p e f = two a (32 ∷ []) w o p e f

-- ---- lines

pub sized_line : (word a o p q : List ℕ) (n : ℕ) → o ≡ a ++ word → p ≡ o ++ 32 ∷ number n → q ≡ p ++ 10 ∷ []
    → q ≡ a ++ text_of_lines ((word ++ 32 ∷ number n) ∷ [])
sized_line word a o p q n e f g =
    three a word (32 ∷ number n) (10 ∷ []) o p q e f g ∙ ap (λ l. a ++ l) (behind word (32 ∷ number n) (10 ∷ []) ∙ line_is (word ++ 32 ∷ number n))

-- six pieces, of which the first four are a line
six : (a b c d e f g o p q r s t : List ℕ) → o ≡ a ++ b → p ≡ o ++ c → q ≡ p ++ d → r ≡ q ++ e → s ≡ r ++ f → t ≡ s ++ g
    → t ≡ a ++ (b ++ (c ++ (d ++ (e ++ (f ++ g)))))
six a b c d e f g o p q r s t h i j k l m =
    three q e f g r s t k l m ∙ ap (λ x. x ++ (e ++ (f ++ g))) (three a b c d o p q h i j) ∙ append_assoc a (b ++ (c ++ d)) (e ++ (f ++ g))
    ∙ ap (λ x. a ++ x) (append_assoc b (c ++ d) (e ++ (f ++ g)) ∙ ap (λ x. b ++ x) (append_assoc c d (e ++ (f ++ g))))

-- what is behind a line of three pieces
groups : (b c d e rest : List ℕ) → b ++ (c ++ (d ++ (e ++ rest))) ≡ ((b ++ (c ++ d)) ++ e) ++ rest
groups b c d e rest =
    sym (append_assoc (b ++ (c ++ d)) e rest ∙ append_assoc b (c ++ d) (e ++ rest) ∙ ap (λ x. b ++ x) (append_assoc c d (e ++ rest)))

pub program_written : (x : Program) (a o p q r s t : List ℕ) → o ≡ a ++ codes "program" → p ≡ o ++ 32 ∷ x.name → q ≡ p ++ 32 ∷ language_name x.language
    → r ≡ q ++ 10 ∷ [] → s ≡ r ++ x.text → t ≡ s ++ codes ".\n"
    → t ≡ a ++ entry_text (AProgram x)
program_written x a o p q r s t e f g h i j =
    let rest = x.text ++ codes ".\n" in
    let line = codes "program" ++ (32 ∷ x.name ++ 32 ∷ language_name x.language) in
    six a (codes "program") (32 ∷ x.name) (32 ∷ language_name x.language) (10 ∷ []) x.text (codes ".\n") o p q r s t e f g h i j
    ∙ ap (λ l. a ++ l) (groups (codes "program") (32 ∷ x.name) (32 ∷ language_name x.language) (10 ∷ []) rest ∙ ap (λ l. l ++ rest) (line_is line))

-- seven pieces that are a line
seven : (a b c d e f g x o p q r s t u : List ℕ) → o ≡ a ++ b → p ≡ o ++ c → q ≡ p ++ d → r ≡ q ++ e → s ≡ r ++ f → t ≡ s ++ g → u ≡ t ++ x
    → u ≡ a ++ (b ++ (c ++ (d ++ (e ++ (f ++ (g ++ x))))))
seven a b c d e f g x o p q r s t u h i j k l m n =
    six o c d e f g x p q r s t u i j k l m n ∙ ap (λ y. y ++ (c ++ (d ++ (e ++ (f ++ (g ++ x)))))) h ∙ append_assoc a b (c ++ (d ++ (e ++ (f ++ (g ++ x)))))

ended : (b c d e f g x : List ℕ) → b ++ (c ++ (d ++ (e ++ (f ++ (g ++ x))))) ≡ (b ++ (c ++ (d ++ (e ++ (f ++ g))))) ++ x
ended b c d e f g x =
    let one : f ++ (g ++ x) ≡ (f ++ g) ++ x = behind f g x in
    let two : e ++ (f ++ (g ++ x)) ≡ (e ++ (f ++ g)) ++ x = ap (λ l. e ++ l) one ∙ behind e (f ++ g) x in
    let three : d ++ (e ++ (f ++ (g ++ x))) ≡ (d ++ (e ++ (f ++ g))) ++ x = ap (λ l. d ++ l) two ∙ behind d (e ++ (f ++ g)) x in
    let four : c ++ (d ++ (e ++ (f ++ (g ++ x)))) ≡ (c ++ (d ++ (e ++ (f ++ g)))) ++ x = ap (λ l. c ++ l) three ∙ behind c (d ++ (e ++ (f ++ g))) x in
    ap (λ l. b ++ l) four ∙ behind b (c ++ (d ++ (e ++ (f ++ g)))) x

pub job_written : (x : Job) (a o p q r s t u : List ℕ) → o ≡ a ++ codes "job" → p ≡ o ++ 32 ∷ x.name → q ≡ p ++ 32 ∷ x.program
    → r ≡ q ++ 32 ∷ x.entry → s ≡ r ++ 32 ∷ number x.fuel → t ≡ s ++ args_part x.args → u ≡ t ++ 10 ∷ []
    → u ≡ a ++ entry_text (AJob x)
job_written x a o p q r s t u e f g h i j k =
    let line = codes "job" ++ (32 ∷ x.name ++ (32 ∷ x.program ++ (32 ∷ x.entry ++ (32 ∷ number x.fuel ++ args_part x.args)))) in
    seven a (codes "job") (32 ∷ x.name) (32 ∷ x.program) (32 ∷ x.entry) (32 ∷ number x.fuel) (args_part x.args) (10 ∷ []) o p q r s t u e f g h i j k
    ∙ ap (λ l. a ++ l) (ended (codes "job") (32 ∷ x.name) (32 ∷ x.program) (32 ∷ x.entry) (32 ∷ number x.fuel) (args_part x.args) (10 ∷ []) ∙ line_is line)

-- ---- the text

pub script_written : (x : Script) (n o p q : List ℕ) → n ≡ [] → o ≡ n ++ text_of_lines (arena_line x.arena ∷ [])
    → p ≡ o ++ text_of_lines (workers_line x.workers ∷ []) → q ≡ p ++ flat_map entry_text x.items → q ≡ script_text x
unfolding script_text
script_written x n o p q e f g h =
    let first : o ≡ arena_line x.arena ++ 10 ∷ [] = f ∙ ap (λ l. l ++ text_of_lines (arena_line x.arena ∷ [])) e ∙ sym (line_is (arena_line x.arena)) in
    h ∙ ap (λ l. l ++ flat_map entry_text x.items) (g ∙ ap (λ l. l ++ text_of_lines (workers_line x.workers ∷ [])) first)

pub same_bytes : (x : Script) (bytes n o p q : List ℕ) → n ≡ [] → o ≡ n ++ text_of_lines (arena_line x.arena ∷ [])
    → p ≡ o ++ text_of_lines (workers_line x.workers ∷ []) → q ≡ p ++ flat_map entry_text x.items → IsScriptText bytes x → q ≡ bytes
same_bytes x bytes n o p q e f g h is = script_written x n o p q e f g h ∙ is.is
