-- Where a function is too large, by the definition: a product of two sums of ones, and a chain of `if`s.
use Rattle.std.proofs.Common.{◌≡◌, ℕ, zero, suc, List, [], Option, Some, None, refl}
use Rattle.std.specs.Prelude.{codes, pos}
use Rattle.camelot_values.specs.Operator as operator
use Rattle.camelot_tree.specs.Tree.{Expression, Num, Var, Prim, If, Function}
use Rattle.normal_form.specs.declared.fault.NormalFault.{NormalFault}
use Rattle.normal_form.specs.declared.fault.NormalFault.TheVariants.{TooManyLocals, TooManyBlocks}
use Rattle.normal_form.specs.Answers.{fault_of}

abbrev function : Expression → Function
function body = record { name = record { word = codes "f"; line = 1 }; params = []; result = None; body = body }

abbrev fault : Expression → Option NormalFault
fault body = fault_of (record { types = []; funs = [] }) (function body)

-- one more than n ones, with `+` between each two
abbrev ones : ℕ → Expression
ones zero = Num (pos 1) 1
ones (suc n) = Prim operator.Add (ones n) (Num (pos 1) 1) 1

abbrev product : ℕ → ℕ → Expression
product n m = Prim operator.Mul (ones n) (ones m) 1

abbrev var : List ℕ → Expression
var word = Var (record { word = word; line = 1 })

-- `if b then x else` n times, then `x`
abbrev chain : ℕ → Expression
chain zero = var (codes "x")
chain (suc n) = If (var (codes "b")) (var (codes "x")) (chain n) 1

many_locals : fault (product 60 59) ≡ Some (TooManyLocals (codes "f") 241)
many_locals = refl

few_locals : fault (product 59 59) ≡ None
few_locals = refl

many_blocks : fault (chain 128) ≡ Some (TooManyBlocks (codes "f") 257)
many_blocks = refl

few_blocks : fault (chain 127) ≡ None
few_blocks = refl
