-- A command by its name, and by the words behind that.
use Rattle.std.proofs.Common.{◌≡◌, ℕ, ◌≤◌, true, List, [], ◌∷◌, length, map, get_or, drop, Option, Some, None, refl, sym, ap, ◌∙◌, subst, arith}
use Rattle.std.specs.Prelude.{codes, MatchOption}
use Rattle.std.specs.Str.{bytes_eq}
use Rattle.std.proofs.lemmas.Slice.Eq.{bytes_eq-Decides}
use Rattle.camelot_host.specs.Commands as plain
use Rattle.camelot_host.specs.Commands.{IsDrill, IsCommand, IsNoCommand}
use Rattle.camelot_host.specs.CommandLaws.{first_number, second_number, spelled, none_spelled, other_spelled}
use Rattle.camelot_host.specs.Replies.{command_named}
use Rattle.camelot_host.specs.declared.command.Command.{Command}

same : (xs ys : List ℕ) → bytes_eq xs ys ≡ true → xs ≡ ys
same xs ys h = (bytes_eq-Decides xs ys).0 h

pub no_words : IsNoCommand []
no_words = none_spelled [] refl

-- what is answered is the command of these words
abbrev pub IsOf : List (List ℕ) → Option Command → Type 0
IsOf words o = MatchOption o (IsNoCommand words) (λ command. IsCommand words (command_named command))

rest_is : (v w : List ℕ) (vs ws : List (List ℕ)) → v ∷ vs ≡ w ∷ ws → vs ≡ ws
rest_is v w vs ws h = cc

-- a command that is its name alone
alone_here : (wanted : List ℕ) (rest : List (List ℕ)) (c : Command) (o : Option Command) → MatchOption o (rest ≡ [] → ⊥) (λ d. (rest ≡ []) × (d ≡ c))
    → spelled (wanted ∷ rest) ≡ Some (command_named c) → ((ws : List (List ℕ)) → IsCommand ws (command_named c) → ws ≡ wanted ∷ [])
    → ((ws : List (List ℕ)) → ws ≡ wanted ∷ [] → IsCommand ws (command_named c)) → IsOf (wanted ∷ rest) o
alone_here wanted rest c None not only there back = other_spelled (wanted ∷ rest) (command_named c) only (λ h. not (rest_is wanted wanted rest [] (there (wanted ∷ rest) h)))
alone_here wanted rest c (Some d) is only there back =
    subst (λ (k : Command). IsCommand (wanted ∷ rest) (command_named k)) (sym is.1) (back (wanted ∷ rest) (ap (λ ws. wanted ∷ ws) is.0))

pub alone_is : (wanted name : List ℕ) (rest : List (List ℕ)) (c : Command) (o : Option Command) → bytes_eq name wanted ≡ true
    → MatchOption o (rest ≡ [] → ⊥) (λ d. (rest ≡ []) × (d ≡ c)) → spelled (wanted ∷ rest) ≡ Some (command_named c)
    → ((ws : List (List ℕ)) → IsCommand ws (command_named c) → ws ≡ wanted ∷ [])
    → ((ws : List (List ℕ)) → ws ≡ wanted ∷ [] → IsCommand ws (command_named c)) → IsOf (name ∷ rest) o
alone_is wanted name rest c o h found only there back =
    subst (λ w. IsOf (w ∷ rest) o) (sym (same name wanted h)) (alone_here wanted rest c o found only there back)

-- a drill
other_drill : (rest : List (List ℕ)) → ((jobs workers : ℕ) → IsDrill (codes "drill" ∷ rest) jobs workers → ⊥) → IsNoCommand (codes "drill" ∷ rest)
other_drill rest not = other_spelled (codes "drill" ∷ rest) (plain.Drill (first_number rest) (second_number rest)) refl (not (first_number rest) (second_number rest))

drill_here : (rest : List (List ℕ)) (o : Option Command) → MatchOption o ((jobs workers : ℕ) → IsDrill (codes "drill" ∷ rest) jobs workers → ⊥)
    (λ command. IsCommand (codes "drill" ∷ rest) (command_named command)) → IsOf (codes "drill" ∷ rest) o
drill_here rest None not = other_drill rest not
drill_here rest (Some c) is = is

pub drill_is : (name : List ℕ) (rest : List (List ℕ)) (o : Option Command) → bytes_eq name (codes "drill") ≡ true
    → MatchOption o ((jobs workers : ℕ) → IsDrill (codes "drill" ∷ rest) jobs workers → ⊥) (λ command. IsCommand (codes "drill" ∷ rest) (command_named command))
    → IsOf (name ∷ rest) o
drill_is name rest o h found = subst (λ w. IsOf (w ∷ rest) o) (sym (same name (codes "drill") h)) (drill_here rest o found)

-- all words are the first one and those behind it
split : {X : Type 0} (f : X → List ℕ) (ws : List X) (x : X) → 1 ≤ length ws → x ≡ get_or ws 0 x → map f ws ≡ f x ∷ map f (drop 1 ws)
split f [] x h k = absurd (omega (arith, h))
split f (y ∷ ws) x h k = ap (λ z. f z ∷ map f ws) (sym k)

pub first_and_rest : {X : Type 0} (f : X → List ℕ) (ws rest : List X) (x : X) (name : List ℕ) (o : Option Command) → 1 ≤ length ws → x ≡ get_or ws 0 x
    → rest ≡ drop 1 ws → name ≡ f x → IsOf (name ∷ map f rest) o → IsOf (map f ws) o
first_and_rest f ws rest x name o h k r n is =
    subst (λ l. IsOf l o) (ap (λ w. w ∷ map f rest) n ∙ ap (λ l. f x ∷ map f l) r ∙ sym (split f ws x h k)) is
