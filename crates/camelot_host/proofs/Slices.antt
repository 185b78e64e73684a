-- The words of a script that is served in slices.
use Rattle.std.proofs.Common.{◌≡◌, ℕ, suc, ◌<◌, ◌≤◌, true, List, [], ◌∷◌, length, map, get_or, Option, Some, None, refl, sym, ap, ◌∙◌, subst, arith}
use Rattle.std.proofs.lemmas.List.{length-map}
use Rattle.std.specs.Prelude.{codes, decimal, MatchOption}
use Rattle.std.specs.Str.{bytes_eq}
use Rattle.std.proofs.lemmas.Slice.Eq.{bytes_eq-Decides}
use Rattle.job_script.specs.Scripts.{IsUpTo}
use Rattle.camelot_host.specs.Commands as plain
use Rattle.camelot_host.specs.Commands.{IsCommand, IsNoCommand, IsSliced}
use Rattle.camelot_host.specs.CommandLaws.{first_number, other_spelled}
use Rattle.camelot_host.specs.Replies.{command_named}
use Rattle.camelot_host.specs.declared.command.Command.{Command}
use Rattle.camelot_host.proofs.Naming.{IsOf}
use Rattle.camelot_host.proofs.Numbers.{NoNumber}

-- ---- one word

second_is : (b d e : List ℕ) → codes "sliced" ∷ b ∷ [] ≡ d ∷ e ∷ [] → b ≡ e
second_is b d e h = cc

pub other_steps : (word : List ℕ) → NoNumber word 1000000000 → (steps : ℕ) → IsSliced (codes "sliced" ∷ word ∷ []) steps → ⊥
other_steps word h steps s = h steps (second_is word (codes "sliced") (decimal steps) s.are) s.few

pub steps_are : (word : List ℕ) (steps : ℕ) → (word ≡ decimal steps) × IsUpTo 1000000000 steps → IsSliced (codes "sliced" ∷ word ∷ []) steps
steps_are word steps h = record { are = ap (λ l. codes "sliced" ∷ l ∷ []) h.0; few = h.1 }

-- ---- all words behind the name

abbrev pub Slices : List (List ℕ) → Option Command → Type 0
Slices rest o = MatchOption o ((steps : ℕ) → IsSliced (codes "sliced" ∷ rest) steps → ⊥) (λ command. IsCommand (codes "sliced" ∷ rest) (command_named command))

one : {X : Type 0} (f : X → List ℕ) (ws : List X) (x : X) → 1 ≤ length ws → length ws < 2 → x ≡ get_or ws 0 x → map f ws ≡ f x ∷ []
one f [] x h k a = absurd (omega (arith, h))
one f (u ∷ []) x h k a = λ i. f (sym a i) ∷ []
one f (u ∷ v ∷ ws) x h k a = absurd (omega (arith, k))

pub of_one : {X : Type 0} (f : X → List ℕ) (ws : List X) (x : X) (a : List ℕ) (o : Option Command) → 1 ≤ length ws → length ws < 2 → x ≡ get_or ws 0 x → a ≡ f x
    → Slices (a ∷ []) o → Slices (map f ws) o
of_one f ws x a o h k ex ea s = subst (λ l. Slices l o) (sym (one f ws x h k ex ∙ ap (λ l. l ∷ []) (sym ea))) s

pub not_one : {X : Type 0} (f : X → List ℕ) (ws : List X) → (length ws ≡ 1 → ⊥) → (steps : ℕ) → IsSliced (codes "sliced" ∷ map f ws) steps → ⊥
not_one f ws other steps s = let n : suc (length (map f ws)) ≡ 2 = ap length s.are in other (omega (arith, n, length-map ws f))

-- ---- the name

same : (xs ys : List ℕ) → bytes_eq xs ys ≡ true → xs ≡ ys
same xs ys h = (bytes_eq-Decides xs ys).0 h

sliced_here : (rest : List (List ℕ)) (o : Option Command) → Slices rest o → IsOf (codes "sliced" ∷ rest) o
sliced_here rest None not = other_spelled (codes "sliced" ∷ rest) (plain.Sliced (first_number rest)) refl (not (first_number rest))
sliced_here rest (Some c) is = is

pub sliced_is : (name : List ℕ) (rest : List (List ℕ)) (o : Option Command) → bytes_eq name (codes "sliced") ≡ true → Slices rest o → IsOf (name ∷ rest) o
sliced_is name rest o h found = subst (λ w. IsOf (w ∷ rest) o) (sym (same name (codes "sliced") h)) (sliced_here rest o found)
