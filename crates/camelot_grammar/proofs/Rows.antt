-- Worked rows: products, quotients and remainders in one chain, read from left to right; where a chain goes on with no
-- operand, and where it is too deep.
use Rattle.std.proofs.Common.{ℕ, zero, suc, List, [], ◌∷◌, pos, None, false, refl}
use Rattle.std.specs.Prelude.{codes, negsuc}
use Rattle.std.specs.List.{AllByRecursion}
use Rattle.camelot_values.specs.Operator as operator
use Rattle.camelot_tree.specs.declared.tree.Name.{Name}
use Rattle.camelot_tree.specs.Tree.{Expression, Num, Var, Prim, Call, Source, expressions}
use Rattle.camelot_grammar.specs.declared.fault.ParseFault.{ParseFault}
use Rattle.camelot_grammar.specs.declared.fault.ParseFault.TheVariants as fault
use Rattle.camelot_grammar.specs.declared.lexeme.Mark.TheVariants as mark
use Rattle.camelot_grammar.specs.declared.lexeme.Lexeme.{Lexeme}
use Rattle.camelot_grammar.specs.declared.lexeme.Lexeme.TheVariants.{Lower, Number, Mark}
use Rattle.camelot_grammar.specs.Parsing.{IsProgram, IsFaultAmong}
use Rattle.camelot_grammar.specs.Machine as mc
use Rattle.camelot_grammar.proofs.Place.{yes_is_program}
use Rattle.camelot_grammar.proofs.AnswerLemmas.{answer_among}

abbrev name : List ℕ → Name
name word = record { word = word; line = 1 }

abbrev lower : List ℕ → Lexeme
lower word = Lower (name word)

abbrev num : ℕ → Lexeme
num n = Number n 1

abbrev plus : Lexeme
plus = Mark mark.Plus 1

abbrev minus : Lexeme
minus = Mark mark.Minus 1

abbrev star : Lexeme
star = Mark mark.Star 1

abbrev slash : Lexeme
slash = Mark mark.Slash 1

abbrev mod_word : Lexeme
mod_word = Mark mark.Mod 1

-- let f x = and these tokens
abbrev body : List Lexeme → List Lexeme
body ts = Mark mark.Let 1 ∷ lower (codes "f") ∷ lower (codes "x") ∷ Mark mark.Equal 1 ∷ ts

abbrev var : List ℕ → Expression
var word = Var (name word)

abbrev int : ℕ → Expression
int n = Num (pos n) 1

abbrev times : Expression → Expression → Expression
times a b = Prim operator.Mul a b 1

abbrev over : Expression → Expression → Expression
over a b = Prim operator.Div a b 1

abbrev rest_of : Expression → Expression → Expression
rest_of a b = Prim operator.Mod a b 1

-- the program whose function has this body
abbrev program : Expression → Source
program e = record {
  types = [];
  funs = record { name = name (codes "f"); params = record { name = name (codes "x"); read = false; kind = None } ∷ []; result = None; body = e } ∷ [];
}

-- ---- programs

record Reading : Type 0 where
  tokens : List Lexeme
  tree : Expression

abbrev reads : List Lexeme → Expression → Reading
reads ts e = record { tokens = ts; tree = e }

abbrev readings : List Reading
readings =
    -- x / 2
    reads (lower (codes "x") ∷ slash ∷ num 2 ∷ []) (over (var (codes "x")) (int 2))
    -- a mod b * c / d
    ∷ reads (lower (codes "a") ∷ mod_word ∷ lower (codes "b") ∷ star ∷ lower (codes "c") ∷ slash ∷ lower (codes "d") ∷ [])
    (over (times (rest_of (var (codes "a")) (var (codes "b"))) (var (codes "c"))) (var (codes "d")))
    -- a + b / c
    ∷ reads (lower (codes "a") ∷ plus ∷ lower (codes "b") ∷ slash ∷ lower (codes "c") ∷ [])
    (Prim operator.Add (var (codes "a")) (over (var (codes "b")) (var (codes "c"))) 1)
    -- a sign before a number belongs to the number: - 1 / 2
    ∷ reads (minus ∷ num 1 ∷ slash ∷ num 2 ∷ []) (over (Num (negsuc 0) 1) (int 2))
    -- a call ends before an operator: f x / 2
    ∷ reads (lower (codes "f") ∷ lower (codes "x") ∷ slash ∷ num 2 ∷ []) (over (Call (name (codes "f")) (expressions (var (codes "x") ∷ []))) (int 2))
    ∷ []

programs_read : AllByRecursion (λ r. IsProgram (body r.tokens) (program r.tree)) readings
unfolding mc.advance mc.step mc.decl_step mc.top_step mc.fun_step mc.expr_step mc.want_step mc.pre_step mc.slot_step mc.unit_step mc.after_unit mc.negative_step mc.applied_step mc.argument_step mc.after_operand mc.after_pre mc.after_prod mc.after_sum mc.after_cmp mc.after_and mc.close mc.unwind mc.close_in
programs_read =
    (yes_is_program _ _ refl, (yes_is_program _ _ refl, (yes_is_program _ _ refl, (yes_is_program _ _ refl, (yes_is_program _ _ refl, tt)))))

-- ---- faults

record Stopping : Type 0 where
  tokens : List Lexeme
  fault : ParseFault

abbrev stops : List Lexeme → ParseFault → Stopping
stops ts f = record { tokens = ts; fault = f }

-- so many times this operator, each before a 1
abbrev chain : Lexeme → ℕ → List Lexeme
chain t zero = []
chain t (suc n) = t ∷ num 1 ∷ chain t n

abbrev stoppings : List Stopping
stoppings =
    -- x / / 2
    stops (body (lower (codes "x") ∷ slash ∷ slash ∷ num 2 ∷ [])) (fault.Unexpected 6 1)
    -- mod x
    ∷ stops (body (mod_word ∷ lower (codes "x") ∷ [])) (fault.Unexpected 4 1)
    -- let mod = 1 in mod
    ∷ stops (body (Mark mark.Let 1 ∷ mod_word ∷ Mark mark.Equal 1 ∷ num 1 ∷ Mark mark.In 1 ∷ mod_word ∷ [])) (fault.Unexpected 5 1)
    -- behind 199 operators an operand has the level 201
    ∷ stops (body (lower (codes "x") ∷ chain star 199)) (fault.TooDeep 402 1)
    ∷ stops (body (lower (codes "x") ∷ chain slash 199)) (fault.TooDeep 402 1)
    ∷ stops (body (lower (codes "x") ∷ chain mod_word 199)) (fault.TooDeep 402 1)
    ∷ []

programs_stop : AllByRecursion (λ r. IsFaultAmong r.tokens 1 r.fault) stoppings
unfolding mc.advance mc.step mc.decl_step mc.top_step mc.fun_step mc.expr_step mc.want_step mc.let_step mc.pre_step mc.slot_step mc.unit_step mc.after_unit mc.negative_step mc.applied_step mc.argument_step mc.after_operand mc.after_pre mc.after_prod mc.after_sum mc.after_cmp mc.after_and mc.close mc.unwind mc.close_in
programs_stop =
    (answer_among _ _ _ refl, (answer_among _ _ _ refl, (answer_among _ _ _ refl, (answer_among _ _ _ refl, (answer_among _ _ _ refl, (answer_among _ _ _ refl, tt))))))
