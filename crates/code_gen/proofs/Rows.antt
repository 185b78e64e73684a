-- The spelling of the code of small programs, worked by hand: a sum, a quotient and a remainder, and a list that is
-- doubled.
use Rattle.std.proofs.Common.{◌≡◌, ℕ, List, [], ◌∷◌, Some, None, false, true, refl}
use Rattle.std.specs.Prelude.{codes}
use Rattle.camelot_values.specs.Operator as operator
use Rattle.camelot_values.specs.declared.kinds.Kind.{Kind}
use Rattle.camelot_values.specs.declared.kinds.Kind.TheVariants as kind
use Rattle.camelot_tree.specs.declared.tree.Name.{Name}
use Rattle.camelot_tree.specs.declared.tree.Param.{Param}
use Rattle.camelot_tree.specs.declared.tree.Atom.TheVariants as atom
use Rattle.camelot_tree.specs.declared.tree.ArmCell.TheVariants as cell
use Rattle.camelot_tree.specs.Tree.{Expression, Var, Prim, Let, Match, Build, Call, Expressions, NoExpressions, AndExpression, NoArms, AndArm, DataType}
use Rattle.camelot_typing.specs.Typed.{Typing}
use Rattle.grail_code.specs.Spelling.{Second, number, spelling}
use Rattle.code_gen.specs.Generated.{compiled}

abbrev name : List ℕ → Name
name word = record { word = word; line = 1 }

abbrev var : List ℕ → Expression
var word = Var (name word)

abbrev args : Expression → Expressions → Expressions
args e es = AndExpression e es

abbrev param : List ℕ → Param
param word = record { name = name word; read = false; kind = None }

-- one function with these kinds
abbrev program : List DataType → List ℕ → List Param → List Kind → Kind → Expression → Typing
program types word params kinds result body = record {
  source = record { types = types; funs = record { name = name word; params = params; result = None; body = body } ∷ [] };
  signatures = record { name = word; params = kinds; result = result } ∷ [];
}

-- add a b = a + b
abbrev add : Typing
add = program [] (codes "add") (param (codes "a") ∷ param (codes "b") ∷ []) (kind.Int ∷ kind.Int ∷ []) kind.Int (Prim operator.Add (var (codes "a")) (var (codes "b")) 1)

add_spelled : spelling Second (compiled add) ≡
    71 ∷ 82 ∷ 76 ∷ 50 ∷ 0 ∷ 1 ∷ 3 ∷ 97 ∷ 100 ∷ 100 ∷ 2 ∷ 0 ∷ 0 ∷ 0 ∷ 1 ∷ 0 ∷ 1 ∷ 2 ∷ 0 ∷ 1 ∷ 1 ∷ 2 ∷ 3 ∷ 0 ∷ 0 ∷ 1 ∷ 0 ∷ 2 ∷ []
unfolding number
add_spelled = refl

-- share a b = a / b + a mod b
abbrev share : Typing
share = program [] (codes "share") (param (codes "a") ∷ param (codes "b") ∷ []) (kind.Int ∷ kind.Int ∷ []) kind.Int
    (Prim operator.Add (Prim operator.Div (var (codes "a")) (var (codes "b")) 1) (Prim operator.Mod (var (codes "a")) (var (codes "b")) 1) 1)

share_spelled : spelling Second (compiled share) ≡
    71 ∷ 82 ∷ 76 ∷ 50 ∷ 0 ∷ 1 ∷ 5 ∷ 115 ∷ 104 ∷ 97 ∷ 114 ∷ 101 ∷ 2 ∷ 0 ∷ 0 ∷ 0 ∷ 3 ∷ 0 ∷ 0 ∷ 0 ∷ 1 ∷ 2 ∷ 0 ∷ 1
    ∷ 3 ∷ 2 ∷ 3 ∷ 9 ∷ 0 ∷ 1 ∷ 3 ∷ 3 ∷ 10 ∷ 0 ∷ 1 ∷ 4 ∷ 3 ∷ 0 ∷ 2 ∷ 3 ∷ 0 ∷ 4 ∷ []
unfolding number
share_spelled = refl

abbrev lists : DataType
lists = record {
  name = name (codes "ilist");
  cons = record { name = name (codes "Nil"); inline = true; fields = [] } ∷ record { name = name (codes "Cons"); inline = false; fields = atom.Int ∷ atom.Named (name (codes "ilist")) ∷ [] } ∷ [];
}

-- dup l = match l with Nil -> Nil | Cons(h, t)@_ -> let r = dup t in Cons(h, Cons(h, r)) end
abbrev dup : Typing
dup = program (lists ∷ []) (codes "dup") (param (codes "l") ∷ []) (kind.Of 0 ∷ []) (kind.Of 0)
    (Match (var (codes "l")) (AndArm (name (codes "Nil")) [] cell.Plain (Build (name (codes "Nil")) NoExpressions None)
    (AndArm (name (codes "Cons")) (Some (name (codes "h")) ∷ Some (name (codes "t")) ∷ []) cell.Free
    (Let (name (codes "r")) (Call (name (codes "dup")) (args (var (codes "t")) NoExpressions))
    (Build (name (codes "Cons")) (args (var (codes "h")) (args (Build (name (codes "Cons")) (args (var (codes "h")) (args (var (codes "r")) NoExpressions)) None) NoExpressions)) None))
    NoArms)) 1)

dup_spelled : spelling Second (compiled dup) ≡
    71 ∷ 82 ∷ 76 ∷ 50 ∷ 1 ∷ 5 ∷ 105 ∷ 108 ∷ 105 ∷ 115 ∷ 116 ∷ 2 ∷ 3 ∷ 78 ∷ 105 ∷ 108 ∷ 1 ∷ 4 ∷ 67 ∷ 111 ∷ 110 ∷ 115 ∷ 0 ∷ 2 ∷ 0 ∷ 3
    ∷ 1 ∷ 3 ∷ 100 ∷ 117 ∷ 112 ∷ 1 ∷ 3 ∷ 3 ∷ 6 ∷ 3 ∷ 0 ∷ 3 ∷ 3 ∷ 3 ∷ 3 ∷ 3
    ∷ 1 ∷ 0 ∷ 0 ∷ 4 ∷ 0 ∷ 2 ∷ 0 ∷ 0 ∷ 1 ∷ 2 ∷ 2 ∷ 3 ∷ 1 ∷ 2
    ∷ 0 ∷ 1 ∷ 1 ∷ 4 ∷ 0 ∷ 0 ∷ 0 ∷ 0 ∷ 1
    ∷ 2 ∷ 2 ∷ 3 ∷ 3 ∷ 4 ∷ 5 ∷ 0 ∷ 1 ∷ 3 ∷ 5 ∷ 4 ∷ 1 ∷ 2 ∷ 2 ∷ 4 ∷ 1 ∷ 6 ∷ 4 ∷ 1 ∷ 2 ∷ 2 ∷ 5 ∷ 1 ∷ 0 ∷ 6 ∷ []
unfolding number
dup_spelled = refl
