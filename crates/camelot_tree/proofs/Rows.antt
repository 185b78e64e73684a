-- The definitions on worked programs: `dup` of a list, `both` whose first argument takes a cell and whose second runs
-- out of fuel, and `rev`, which builds in the cells that it takes apart.
use Rattle.std.proofs.Common.{◌≡◌, ℕ, List, [], ◌∷◌, Some, None, false, true, pos, refl}
use Rattle.std.specs.Prelude.{codes, negsuc}
use Rattle.camelot_values.specs.Operator as operator
use Rattle.camelot_values.specs.Value as value
use Rattle.camelot_values.specs.Value.{Value, parts}
use Rattle.camelot_values.specs.Outcome.{Done, Fuel, Deep}
use Rattle.camelot_tree.specs.declared.tree.Name.{Name}
use Rattle.camelot_tree.specs.declared.tree.Atom.TheVariants as atom
use Rattle.camelot_tree.specs.declared.tree.Param.{Param}
use Rattle.camelot_tree.specs.declared.tree.ArmCell.TheVariants as cell
use Rattle.camelot_tree.specs.Tree.{Expression, Num, Var, Prim, If, Let, Match, Build, Call, DataType, Function, Source, expressions, arms}
use Rattle.camelot_tree.specs.Meaning.{run_of}

abbrev named : List ℕ → Name
named word = record { word = word; line = 1 }

abbrev param : List ℕ → Param
param word = record { name = named word; read = false; kind = None }

-- type ilist = !Nil | Cons of int * ilist
abbrev ilist : DataType
ilist = record {
  name = named (codes "ilist");
  cons =
      record { name = named (codes "Nil"); inline = true; fields = [] }
      ∷ record { name = named (codes "Cons"); inline = false; fields = atom.Int ∷ atom.Named (named (codes "ilist")) ∷ [] } ∷ [];
}

abbrev var : List ℕ → Expression
var word = Var (named word)

abbrev nil : Expression
nil = Build (named (codes "Nil")) (expressions []) None

abbrev cons : Expression → Expression → Expression
cons head tail = Build (named (codes "Cons")) (expressions (head ∷ tail ∷ [])) None

-- let dup l = match l with Nil -> Nil | Cons(h, t)@_ -> let r = dup t in Cons(h, Cons(h, r)) end
abbrev dup : Function
dup = record {
  name = named (codes "dup");
  params = param (codes "l") ∷ [];
  result = None;
  body =
      Match (var (codes "l")) (arms (
      record { con = named (codes "Nil"); fields = []; cell = cell.Plain; body = nil }
      ∷ record {
        con = named (codes "Cons");
        fields = Some (named (codes "h")) ∷ Some (named (codes "t")) ∷ [];
        cell = cell.Free;
        body =
            Let (named (codes "r")) (Call (named (codes "dup")) (expressions (var (codes "t") ∷ []))) (cons (var (codes "h")) (cons (var (codes "h")) (var (codes "r"))));
      }
      ∷ [])) 1;
}

abbrev doubling : Source
doubling = record { types = ilist ∷ []; funs = dup ∷ [] }

abbrev list : List ℕ → Value
list [] = value.Con 0 value.End
list (n ∷ ns) = value.Con 1 (parts (value.Int (pos n) ∷ list ns ∷ []))

-- four calls; the net goes down to -3, and then up to 3
pub dup_of_three : run_of doubling 65536 0 10 (list (1 ∷ 2 ∷ 3 ∷ []) ∷ []) ≡ Done (list (1 ∷ 1 ∷ 2 ∷ 2 ∷ 3 ∷ 3 ∷ [])) 4 3 0
dup_of_three = refl

pub dup_without_fuel : run_of doubling 65536 0 3 (list (1 ∷ 2 ∷ 3 ∷ []) ∷ []) ≡ Fuel 3 0
dup_without_fuel = refl

-- let rev acc l = match l with Nil -> acc | Cons(h, t)@d -> rev Cons(h, acc)@d t end
abbrev rev : Function
rev = record {
  name = named (codes "rev");
  params = param (codes "acc") ∷ param (codes "l") ∷ [];
  result = None;
  body =
      Match (var (codes "l")) (arms (
      record { con = named (codes "Nil"); fields = []; cell = cell.Plain; body = var (codes "acc") }
      ∷ record {
        con = named (codes "Cons");
        fields = Some (named (codes "h")) ∷ Some (named (codes "t")) ∷ [];
        cell = cell.Keep (named (codes "d"));
        body =
            Call (named (codes "rev")) (expressions (Build (named (codes "Cons")) (expressions (var (codes "h") ∷ var (codes "acc") ∷ [])) (Some (named (codes "d"))) ∷ var (codes "t") ∷ []));
      }
      ∷ [])) 1;
}

pub rev_of_two : run_of (record { types = ilist ∷ []; funs = rev ∷ [] }) 65536 0 10 (list [] ∷ list (1 ∷ 2 ∷ []) ∷ []) ≡ Done (list (2 ∷ 1 ∷ [])) 3 0 0
rev_of_two = refl

-- type two = Two of ilist * int; let one x = Cons(x, Nil); let spin x = spin x; let both x = Two(one x, spin x)
abbrev two : DataType
two = record {
  name = named (codes "two");
  cons =
      record { name = named (codes "Two"); inline = false; fields = atom.Named (named (codes "ilist")) ∷ atom.Int ∷ [] } ∷ [];
}

abbrev of_x : List ℕ → Expression → Function
of_x name e = record { name = named name; params = param (codes "x") ∷ []; result = None; body = e }

abbrev applied : List ℕ → Expression
applied name = Call (named name) (expressions (var (codes "x") ∷ []))

-- the first argument takes its cell before the second runs out of fuel
pub both_of_seven : run_of (record {
  types = ilist ∷ two ∷ [];
  funs =
      of_x (codes "one") (cons (var (codes "x")) nil) ∷ of_x (codes "spin") (applied (codes "spin"))
      ∷ of_x (codes "both") (Build (named (codes "Two")) (expressions (applied (codes "one") ∷ applied (codes "spin") ∷ [])) None) ∷ [];
})
    65536 2 5 (value.Int (pos 7) ∷ []) ≡ Fuel 5 1
both_of_seven = refl

-- ---- tail position and depth

abbrev num : ℕ → Expression
num n = Num (pos n) 1

-- the call on x - 1
abbrev next : List ℕ → Expression
next name = Call (named name) (expressions (Prim operator.Sub (var (codes "x")) (num 1) 1 ∷ []))

abbrev of_zero : Expression → Expression → Expression
of_zero e other = If (Prim operator.Eq (var (codes "x")) (num 0) 1) e other 1

-- let loop x = if x = 0 then 0 else loop (x - 1): no call waits
pub loop_in_no_depth : run_of (record { types = []; funs = of_x (codes "loop") (of_zero (num 0) (next (codes "loop"))) ∷ [] }) 0 0 10 (value.Int (pos 3) ∷ []) ≡ Done (value.Int (pos 0)) 4 0 0
loop_in_no_depth = refl

-- let down x = if x = 0 then 0 else 1 + down (x - 1): a call that waits
abbrev down : Source
down = record { types = []; funs = of_x (codes "down") (of_zero (num 0) (Prim operator.Add (num 1) (next (codes "down")) 1)) ∷ [] }

pub down_in_two : run_of down 2 0 10 (value.Int (pos 2) ∷ []) ≡ Done (value.Int (pos 2)) 3 0 0
down_in_two = refl

pub down_too_deep : run_of down 2 0 10 (value.Int (pos 3) ∷ []) ≡ Deep 0
down_too_deep = refl

-- fuel is looked at before depth
pub down_fuel_first : run_of down 2 0 3 (value.Int (pos 3) ∷ []) ≡ Fuel 3 0
down_fuel_first = refl

-- the value of a let isn't in tail position, and its body is
pub let_waits : run_of (record { types = []; funs = of_x (codes "f") (of_zero (num 0) (Let (named (codes "y")) (next (codes "f")) (var (codes "y")))) ∷ [] }) 0 0 10 (value.Int (pos 1) ∷ []) ≡ Deep 0
let_waits = refl

-- ---- wrap-around, and diamonds as arguments

pub sum_wraps : run_of (record { types = []; funs = of_x (codes "f") (Prim operator.Add (var (codes "x")) (num 1) 1) ∷ [] }) 0 0 1 (value.Int (pos 2147483647) ∷ []) ≡ Done (value.Int (negsuc 2147483647)) 1 0 0
sum_wraps = refl

-- let push (d : <>) x l = Cons(x, l)@d
pub pushed : run_of (record {
  types = ilist ∷ [];
  funs =
      record {
        name = named (codes "push");
        params = param (codes "d") ∷ param (codes "x") ∷ param (codes "l") ∷ [];
        result = None;
        body = Build (named (codes "Cons")) (expressions (var (codes "x") ∷ var (codes "l") ∷ [])) (Some (named (codes "d")));
      } ∷ [];
})
    0 0 1 (value.Dia ∷ value.Int (pos 1) ∷ list (7 ∷ []) ∷ []) ≡ Done (list (1 ∷ 7 ∷ [])) 1 0 0
pushed = refl
