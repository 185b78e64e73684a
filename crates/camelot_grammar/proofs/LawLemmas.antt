-- Laws of programs and faults.
use Rattle.std.proofs.Common.{◌≡◌, ℕ, suc, ◌⊎◌, inl, inr, List, [], ◌∷◌, ◌++◌, length, take, get_or, Option, Some, refl, sym, ap, ◌∙◌, subst}
use Rattle.std.proofs.Math.Seq.{take-append_seam}
use Rattle.camelot_grammar.specs.declared.fault.ParseFault.{ParseFault}
use Rattle.camelot_grammar.specs.declared.lexeme.Lexeme.{Lexeme}
use Rattle.camelot_grammar.specs.declared.lexeme.Lexeme.TheVariants.{Variable}
use Rattle.camelot_tree.specs.Tree.{Source}
use Rattle.camelot_grammar.specs.Grammar.{Decls, spell_decls}
use Rattle.camelot_grammar.specs.Levels.{levels_decls}
use Rattle.camelot_grammar.specs.Parsing.{IsProgram, BeginsProgram, IsFaultAmong, stop_fault, first_line, place_of}
use Rattle.camelot_grammar.specs.Machine.{State, Frame, Step, Stuck, Goes, advance, runs, start, Yes, Stopped, TooDeep, Result, fault_of}
use Rattle.camelot_grammar.proofs.Behind.{metered, meter}
use Rattle.camelot_grammar.proofs.CompleteDecls.{program_gives}
use Rattle.camelot_grammar.proofs.Place.{yes_is_program, program_yes}
use Rattle.camelot_grammar.proofs.AnswerLemmas.{fault_among, among_fault}

same_source : (p q : Source) → Yes p ≡ Yes q → p ≡ q
same_source p q e = cc

pub one_program : (tokens : List Lexeme) (p q : Source) → IsProgram tokens p → IsProgram tokens q → p ≡ q
one_program tokens p q h k = same_source p q (sym (program_yes tokens p h) ∙ program_yes tokens q k)

same_fault : (f g : ParseFault) {o : Option ParseFault} → o ≡ Some f → o ≡ Some g → f ≡ g
same_fault f g h k = cc

pub one_fault : (tokens : List Lexeme) (last : ℕ) (f g : ParseFault) → IsFaultAmong tokens last f → IsFaultAmong tokens last g → f ≡ g
one_fault tokens last f g h k = same_fault f g (among_fault tokens (length tokens) last f refl h) (among_fault tokens (length tokens) last g refl k)

clash : (n last : ℕ) (p : Source) (f : ParseFault) {r : Result} → r ≡ Yes p → fault_of n last r ≡ Some f → ⊥
clash n last p f h k = let e = ap (fault_of n last) h in absurd cc

pub not_both : (tokens : List Lexeme) (last : ℕ) (p : Source) (f : ParseFault) → IsProgram tokens p → IsFaultAmong tokens last f → ⊥
not_both tokens last p f h k = clash (length tokens) last p f (program_yes tokens p h) (among_fault tokens (length tokens) last f refl k)

some_of : (tokens : List Lexeme) (last : ℕ) (r : Result) → runs start [] tokens ≡ r
    → ((p : Source) × IsProgram tokens p) ⊎ ((f : ParseFault) × IsFaultAmong tokens last f)
some_of tokens last (Yes p) e = inl (p, yes_is_program tokens p e)
some_of tokens last (Stopped rest) e = inr (_, fault_among tokens (length tokens) last _ (Stopped rest) refl e refl)
some_of tokens last (TooDeep rest) e = inr (_, fault_among tokens (length tokens) last _ (TooDeep rest) refl e refl)

pub each_has_one : (tokens : List Lexeme) (last : ℕ) → ((p : Source) × IsProgram tokens p) ⊎ ((f : ParseFault) × IsFaultAmong tokens last f)
each_has_one tokens last = some_of tokens last (runs start [] tokens) refl

stop_place : (rest : List Lexeme) (n l : ℕ) → place_of (stop_fault rest n l) ≡ n
stop_place [] n l = refl
stop_place (Variable i ∷ rest) n l = refl
stop_place (t ∷ rest) n l = refl

front_begins : (before rest tokens : List Lexeme) (n : ℕ) → before ++ rest ≡ tokens → n ≡ length before → BeginsProgram before → BeginsProgram (take n tokens)
front_begins before rest tokens n e h b =
    subst BeginsProgram (sym (ap (λ m. take m tokens) h ∙ ap (λ ts. take (length before) ts) (sym e) ∙ take-append_seam before rest)) b

pub before_fault : (tokens : List Lexeme) (last : ℕ) (f : ParseFault) → IsFaultAmong tokens last f → BeginsProgram (take (place_of f) tokens)
before_fault tokens last f (inl s) = front_begins s.before s.rest tokens (place_of f) s.parts (ap place_of s.is ∙ stop_place s.rest (length s.before) (first_line s.rest last)) s.begins
before_fault tokens last f (inr s) = front_begins s.before (s.token ∷ s.rest) tokens (place_of f) s.parts (ap place_of s.is) s.begins

-- ---- the level of a token is that of the tokens up to it

meter_front : (before : List Lexeme) (t : Lexeme) (x y : List Lexeme) (s : State) (st : List Frame)
    → get_or (meter s st (before ++ t ∷ x)) (length before) 0 ≡ get_or (meter s st (before ++ t ∷ y)) (length before) 0
meter_front [] t x y s st = first_level (advance s t st) x y
  where
    first_level : (z : Step) (x y : List Lexeme) → get_or (metered z (λ s2 st2. meter s2 st2 x)) 0 0 ≡ get_or (metered z (λ s2 st2. meter s2 st2 y)) 0 0
    first_level Stuck x y = refl
    first_level (Goes k s st) x y = refl
meter_front (u ∷ before) t x y s st = later (advance s u st) (λ s2 st2. meter_front before t x y s2 st2)
  where
    later : (z : Step) → ((s2 : State) (st2 : List Frame) → get_or (meter s2 st2 (before ++ t ∷ x)) (length before) 0 ≡ get_or (meter s2 st2 (before ++ t ∷ y)) (length before) 0)
        → get_or (metered z (λ s2 st2. meter s2 st2 (before ++ t ∷ x))) (suc (length before)) 0 ≡ get_or (metered z (λ s2 st2. meter s2 st2 (before ++ t ∷ y))) (suc (length before)) 0
    later Stuck ih = refl
    later (Goes k s st) ih = ih s st

pub level_of_front : (before : List Lexeme) (t : Lexeme) (x y : List Lexeme) (d e : Decls) → spell_decls d [] ≡ before ++ t ∷ x
    → spell_decls e [] ≡ before ++ t ∷ y
    → get_or (levels_decls d []) (length before) 0 ≡ get_or (levels_decls e []) (length before) 0
level_of_front before t x y d e h k =
    ap (λ ls. get_or ls (length before) 0) (sym (program_gives d).marks ∙ ap (λ ts. meter start [] ts) h)
    ∙ meter_front before t x y start []
    ∙ ap (λ ls. get_or ls (length before) 0) (ap (λ ts. meter start [] ts) (sym k) ∙ (program_gives e).marks)
