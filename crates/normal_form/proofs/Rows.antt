-- The normal forms of small functions, worked by hand: a tail call behind `if`; `if` in both operands of an operator; a
-- match whose arms stand in another order than the constructors; a list that is doubled; one that is only read.
use Rattle.std.proofs.Common.{◌≡◌, ℕ, Bool, List, [], ◌∷◌, Some, None, false, true, refl}
use Rattle.std.specs.Prelude.{codes, pos}
use Rattle.camelot_values.specs.Operator as operator
use Rattle.camelot_values.specs.declared.kinds.Kind.{Kind}
use Rattle.camelot_values.specs.declared.kinds.Kind.TheVariants as kind
use Rattle.camelot_tree.specs.declared.tree.Name.{Name}
use Rattle.camelot_tree.specs.declared.tree.Param.{Param}
use Rattle.camelot_tree.specs.declared.tree.Atom.TheVariants as atom
use Rattle.camelot_tree.specs.declared.tree.ArmCell.TheVariants as cell
use Rattle.camelot_tree.specs.Tree.{Expression, Num, Var, Prim, If, Let, Match, Build, Call, Expressions, NoExpressions, AndExpression, NoArms, AndArm, DataType}
use Rattle.grail_blocks.specs.declared.blocks.Place.TheVariants as place
use Rattle.grail_blocks.specs.declared.blocks.CaseCell.{CaseCell}
use Rattle.grail_blocks.specs.declared.blocks.CaseCell.TheVariants as case_cell
use Rattle.grail_blocks.specs.Blocks as block
use Rattle.grail_blocks.specs.Blocks.{Op, CaseArm, Term}
use Rattle.normal_form.specs.Normal.{NormalBlock, NormalFunction, NormalProgram, normal_form}

-- ---- programs

abbrev name : List ℕ → Name
name word = record { word = word; line = 1 }

abbrev var : List ℕ → Expression
var word = Var (name word)

abbrev num : ℕ → Expression
num n = Num (pos n) 1

abbrev args : Expression → Expressions → Expressions
args e es = AndExpression e es

abbrev param : List ℕ → Param
param word = record { name = name word; read = false; kind = None }

-- one that is marked `read`
abbrev read_param : List ℕ → Param
read_param word = record { name = name word; read = true; kind = None }

abbrev lists : DataType
lists = record {
  name = name (codes "ilist");
  cons = record { name = name (codes "Nil"); inline = true; fields = [] } ∷ record { name = name (codes "Cons"); inline = false; fields = atom.Int ∷ atom.Named (name (codes "ilist")) ∷ [] } ∷ [];
}

abbrev list : Kind
list = kind.Of 0

-- the normal form of one function with these parameters of these kinds
abbrev function : List Param → List Kind → Kind → Expression → NormalProgram
function params kinds result body = normal_form (record {
  source = record { types = lists ∷ []; funs = record { name = name (codes "f"); params = params; result = None; body = body } ∷ [] };
  signatures = record { name = codes "f"; params = kinds; result = result } ∷ [];
})

abbrev first : List NormalFunction → List Kind
first [] = []
first (f ∷ fs) = f.locals

abbrev first_reads : List NormalFunction → List Bool
first_reads [] = []
first_reads (f ∷ fs) = f.reads

abbrev first_blocks : List NormalFunction → List NormalBlock
first_blocks [] = []
first_blocks (f ∷ fs) = f.blocks

-- ---- normal forms

abbrev bound : ℕ → Op → block.Let
bound x op = record { target = x; op = op }

abbrev of : List block.Let → Term → NormalBlock
of lets term = record { lets = lets; term = term }

abbrev arm : List ℕ → CaseCell → ℕ → CaseArm
arm fields c target = record { fields = fields; cell = c; target = target }

-- f n = if n = 0 then 0 else f (n - 1)
abbrev down : NormalProgram
down = function (param (codes "n") ∷ []) (kind.Int ∷ []) kind.Int
    (If (Prim operator.Eq (var (codes "n")) (num 0) 1) (num 0) (Call (name (codes "f")) (args (Prim operator.Sub (var (codes "n")) (num 1) 1) NoExpressions)) 1)

down_locals : first down.functions ≡ kind.Int ∷ kind.Flag ∷ kind.Int ∷ kind.Int ∷ kind.Int ∷ []
down_locals = refl

down_blocks : first_blocks down.functions ≡
    of (bound 1 (block.Lit (pos 0)) ∷ bound 2 (block.Prim operator.Eq 0 1) ∷ []) (block.If 2 1 2)
    ∷ of (bound 3 (block.Lit (pos 0)) ∷ []) (block.Ret 3)
    ∷ of (bound 4 (block.Lit (pos 1)) ∷ bound 5 (block.Prim operator.Sub 0 4) ∷ []) (block.Tail 0 (5 ∷ []))
    ∷ []
down_blocks = refl

-- f b x = (if b then x else 1) + (if b then 2 else x)
abbrev chosen : NormalProgram
chosen = function (param (codes "b") ∷ param (codes "x") ∷ []) (kind.Flag ∷ kind.Int ∷ []) kind.Int
    (Prim operator.Add (If (var (codes "b")) (var (codes "x")) (num 1) 1) (If (var (codes "b")) (num 2) (var (codes "x")) 1) 1)

chosen_locals : first chosen.functions ≡ kind.Int ∷ kind.Int ∷ kind.Int ∷ kind.Int ∷ kind.Int ∷ []
chosen_locals = refl

chosen_blocks : first_blocks chosen.functions ≡
    of [] (block.If 0 1 2)
    ∷ of (bound 2 (block.Copy 1) ∷ []) (block.Goto 3)
    ∷ of (bound 3 (block.Lit (pos 1)) ∷ bound 2 (block.Copy 3) ∷ []) (block.Goto 3)
    ∷ of [] (block.If 0 4 5)
    ∷ of (bound 5 (block.Lit (pos 2)) ∷ bound 4 (block.Copy 5) ∷ []) (block.Goto 6)
    ∷ of (bound 4 (block.Copy 1) ∷ []) (block.Goto 6)
    ∷ of (bound 6 (block.Prim operator.Add 2 4) ∷ []) (block.Ret 6)
    ∷ []
chosen_blocks = refl

-- f l = let n = match l with Cons(h, t)@d -> h | Nil -> 0 end in n + n
abbrev matched : NormalProgram
matched = function (param (codes "l") ∷ []) (list ∷ []) kind.Int
    (Let (name (codes "n"))
    (Match (var (codes "l")) (AndArm (name (codes "Cons")) (Some (name (codes "h")) ∷ Some (name (codes "t")) ∷ []) (cell.Keep (name (codes "d"))) (var (codes "h"))
    (AndArm (name (codes "Nil")) [] cell.Plain (num 0) NoArms)) 1)
    (Prim operator.Add (var (codes "n")) (var (codes "n")) 1))

matched_locals : first matched.functions ≡ kind.Int ∷ kind.Int ∷ kind.Int ∷ list ∷ kind.Dia ∷ kind.Int ∷ []
matched_locals = refl

matched_blocks : first_blocks matched.functions ≡
    of [] (block.Case 0 (arm [] case_cell.Inline 1 ∷ arm (3 ∷ 4 ∷ []) (case_cell.Keep 5) 2 ∷ []))
    ∷ of (bound 2 (block.Lit (pos 0)) ∷ bound 1 (block.Copy 2) ∷ []) (block.Goto 3)
    ∷ of (bound 1 (block.Copy 3) ∷ []) (block.Goto 3)
    ∷ of (bound 6 (block.Prim operator.Add 1 1) ∷ []) (block.Ret 6)
    ∷ []
matched_blocks = refl

-- f l = match l with Nil -> Nil | Cons(h, t)@_ -> let r = f t in Cons(h, Cons(h, r)) end
abbrev doubled : NormalProgram
doubled = function (param (codes "l") ∷ []) (list ∷ []) list
    (Match (var (codes "l")) (AndArm (name (codes "Nil")) [] cell.Plain (Build (name (codes "Nil")) NoExpressions None)
    (AndArm (name (codes "Cons")) (Some (name (codes "h")) ∷ Some (name (codes "t")) ∷ []) cell.Free
    (Let (name (codes "r")) (Call (name (codes "f")) (args (var (codes "t")) NoExpressions))
    (Build (name (codes "Cons")) (args (var (codes "h")) (args (Build (name (codes "Cons")) (args (var (codes "h")) (args (var (codes "r")) NoExpressions)) None) NoExpressions)) None))
    NoArms)) 1)

doubled_locals : first doubled.functions ≡ list ∷ kind.Int ∷ list ∷ list ∷ list ∷ list ∷ []
doubled_locals = refl

doubled_blocks : first_blocks doubled.functions ≡
    of [] (block.Case 0 (arm [] case_cell.Inline 1 ∷ arm (2 ∷ 3 ∷ []) case_cell.Free 2 ∷ []))
    ∷ of (bound 1 (block.Make 0 [] place.Inline) ∷ []) (block.Ret 1)
    ∷ of (bound 4 (block.Call 0 (3 ∷ [])) ∷ bound 5 (block.Make 1 (2 ∷ 4 ∷ []) place.New) ∷ bound 6 (block.Make 1 (2 ∷ 5 ∷ []) place.New) ∷ []) (block.Ret 6)
    ∷ []
doubled_blocks = refl

-- f (read l) (read n) = match l with Nil -> n | Cons(h, t) -> f(t, h + f(t, n)) end
abbrev summed : NormalProgram
summed = function (read_param (codes "l") ∷ read_param (codes "n") ∷ []) (list ∷ kind.Int ∷ []) kind.Int
    (Match (var (codes "l")) (AndArm (name (codes "Nil")) [] cell.Plain (var (codes "n"))
    (AndArm (name (codes "Cons")) (Some (name (codes "h")) ∷ Some (name (codes "t")) ∷ []) cell.Plain
    (Call (name (codes "f")) (args (var (codes "t"))
    (args (Prim operator.Add (var (codes "h")) (Call (name (codes "f")) (args (var (codes "t")) (args (var (codes "n")) NoExpressions))) 1) NoExpressions)))
    NoArms)) 1)

summed_reads : first_reads summed.functions ≡ true ∷ false ∷ []
summed_reads = refl

summed_locals : first summed.functions ≡ kind.Int ∷ list ∷ kind.Int ∷ kind.Int ∷ []
summed_locals = refl

summed_blocks : first_blocks summed.functions ≡
    of [] (block.Case 0 (arm [] case_cell.Inline 1 ∷ arm (2 ∷ 3 ∷ []) case_cell.Look 2 ∷ []))
    ∷ of [] (block.Ret 1)
    ∷ of (bound 4 (block.Call 0 (3 ∷ 1 ∷ [])) ∷ bound 5 (block.Prim operator.Add 2 4) ∷ []) (block.Tail 0 (3 ∷ 5 ∷ []))
    ∷ []
summed_blocks = refl
