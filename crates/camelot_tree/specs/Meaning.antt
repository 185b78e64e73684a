-- Cited by contracts.
-- What a program means: a big-step evaluation, from left to right, with counters in place of a heap (Hofmann and Jost
-- 2003). Outcomes, operators, calls with their fuel and depth, and the steps of cells are those of the meaning of code.
-- A program is Stuck where a name is unknown, an operator works on what isn't an int, a conditional asks what isn't a
-- truth value, a match has no arm that fits, a build stands in what isn't a diamond, or a call has another number of
-- arguments than the function has parameters; how many parts a build has isn't asked. A typed program is never Stuck.
-- The meaning knows no cells, frames or ranges, and the code evaluates nothing.
use Rattle.std.specs.Prelude.{ℕ, Bool, true, false, ◌==◌, if◌then◌else◌, List, [], ◌∷◌, map, flat_map, slice_get, Option, Some, None}
use Rattle.std.specs.Str.{bytes_eq}
use Rattle.camelot_values.specs.Value as value
use Rattle.camelot_values.specs.Value.{Value, Values, parts}
use Rattle.camelot_values.specs.Names.{place_among}
use Rattle.camelot_values.specs.Operator.{operate}
use Rattle.camelot_values.specs.Outcome.{Outcome, Stuck, first_then, at_once, known, given}
use Rattle.camelot_values.specs.Runs.{Enter, Bodies, chosen, on_diamond, in_new_cell, cell_freed, run_from}
use Rattle.camelot_tree.specs.declared.tree.Name.{Name}
use Rattle.camelot_tree.specs.declared.tree.Param.{Param}
use Rattle.camelot_tree.specs.declared.tree.ArmCell.{ArmCell}
use Rattle.camelot_tree.specs.declared.tree.ArmCell.TheVariants as cell
use Rattle.camelot_tree.specs.Tree.{Expression, Num, Truth, Var, Prim, If, Let, Match, Build, Call, Expressions, NoExpressions, AndExpression, Arms, NoArms, AndArm, Constructor, Function, Source}

-- ---- names

-- the values of the names that are bound
abbrev pub Environment : Type 0
Environment = List ℕ → Option Value

abbrev pub put : Environment → List ℕ → Value → Environment
put env name v = λ n. if bytes_eq name n then Some v else env n

-- all constructors, numbered through the types in order
abbrev pub declared_constructors : Source → List Constructor
declared_constructors p = flat_map (λ t. t.cons) p.types

-- the number of the constructor of this name, and of the function of this name
abbrev pub constructor_number : Source → Name → Option ℕ
constructor_number p n = place_among (map (λ c. c.name.word) (declared_constructors p)) n.word

abbrev pub function_number : Source → Name → Option ℕ
function_number p n = place_among (map (λ f. f.name.word) p.funs) n.word

-- ---- builds and matches

-- a constructor's value, in no cell or in a new one
abbrev pub in_cell : Option Constructor → Value → Outcome Value
in_cell None v = Stuck
in_cell (Some c) v = if c.inline then at_once v else in_new_cell v

-- in the cell of the diamond that is named, where one is
abbrev pub placed : Source → Option Name → Environment → ℕ → List Value → Outcome Value
placed p None env con vs = in_cell (slice_get (declared_constructors p) con) (value.Con con (parts vs))
placed p (Some d) env con vs = given (env d.word) (λ v. on_diamond v (at_once (value.Con con (parts vs))))

-- the named fields of an arm are bound to the parts of the value, one each
abbrev pub put_field : Environment → Option Name → Value → Environment
put_field env None v = env
put_field env (Some n) v = put env n.word v

abbrev pub put_fields : Environment → List (Option Name) → Values → Option Environment
put_fields env [] value.End = Some env
put_fields env (f ∷ fs) (value.And v vs) = put_fields (put_field env f v) fs vs
put_fields env fs vs = None

-- a matched cell that is given back is net -1 before the arm; the diamond of one that is kept is bound
abbrev pub cell_run : ArmCell → Environment → (Environment → Outcome Value) → Outcome Value
cell_run cell.Plain env next = next env
cell_run cell.Free env next = cell_freed (next env)
cell_run (cell.Keep d) env next = next (put env d.word value.Dia)

abbrev pub is_that : Option ℕ → ℕ → Bool
is_that None n = false
is_that (Some m) n = m == n

-- what an arm does with the value's constructor and parts
abbrev pub on_constructor : Value → (ℕ → Values → Outcome Value) → Outcome Value
on_constructor (value.Con con vs) next = next con vs
on_constructor v next = Stuck

-- ---- expressions

-- with so much fuel, so many waiting calls, in tail position or not, and these names bound
abbrev mutual
  pub eval : Source → Enter → Expression → ℕ → ℕ → Bool → Environment → Outcome Value
  eval p enter (Num z l) fuel waits tail env = at_once (value.Int z)
  eval p enter (Truth b l) fuel waits tail env = at_once (value.Flag b)
  eval p enter (Var n) fuel waits tail env = known (env n.word)
  eval p enter (Prim op a b l) fuel waits tail env = first_then fuel (eval p enter a fuel waits false env)
      (λ left u. first_then left (eval p enter b left waits false env) (λ last v. operate op u v))
  eval p enter (If c a b l) fuel waits tail env = first_then fuel (eval p enter c fuel waits false env)
      (λ left v. chosen v (eval p enter a left waits tail env) (eval p enter b left waits tail env))
  eval p enter (Let n e b) fuel waits tail env = first_then fuel (eval p enter e fuel waits false env)
      (λ left v. eval p enter b left waits tail (put env n.word v))
  eval p enter (Match e as' l) fuel waits tail env = first_then fuel (eval p enter e fuel waits false env)
      (λ left v. on_constructor v (λ con vs. arms_run p enter as' con vs left waits tail env))
  eval p enter (Build c es place) fuel waits tail env = first_then fuel (eval_all p enter es fuel waits env)
      (λ left vs. given (constructor_number p c) (λ con. placed p place env con vs))
  eval p enter (Call f es) fuel waits tail env = first_then fuel (eval_all p enter es fuel waits env)
      (λ left vs. given (function_number p f) (λ func. enter left waits tail func vs))

  pub eval_all : Source → Enter → Expressions → ℕ → ℕ → Environment → Outcome (List Value)
  eval_all p enter NoExpressions fuel waits env = at_once []
  eval_all p enter (AndExpression e es) fuel waits env = first_then fuel (eval p enter e fuel waits false env)
      (λ left v. first_then left (eval_all p enter es left waits env) (λ last vs. at_once (v ∷ vs)))

  -- the arm of the value's constructor
  pub arms_run : Source → Enter → Arms → ℕ → Values → ℕ → ℕ → Bool → Environment → Outcome Value
  arms_run p enter NoArms con vs fuel waits tail env = Stuck
  arms_run p enter (AndArm c fs x b as') con vs fuel waits tail env = if is_that (constructor_number p c) con
      then given (put_fields env fs vs) (λ bound. cell_run x bound (λ last. eval p enter b fuel waits tail last))
      else arms_run p enter as' con vs fuel waits tail env

-- ---- functions and programs

-- the parameters are bound to the arguments, one each
abbrev pub put_params : Environment → List Param → List Value → Option Environment
put_params env [] [] = Some env
put_params env (x ∷ xs) (v ∷ vs) = put_params (put env x.name.word v) xs vs
put_params env xs vs = None

abbrev pub body_run : Source → Enter → Option Function → ℕ → ℕ → List Value → Outcome Value
body_run p enter None fuel waits args = Stuck
body_run p enter (Some f) fuel waits args = given (put_params (λ n. None) f.params args) (λ env. eval p enter f.body fuel waits true env)

-- what the bodies of the program's functions mean
abbrev pub bodies : Source → Bodies
bodies p = λ enter func fuel waits args. body_run p enter (slice_get p.funs func) fuel waits args

-- an entry, where at most `limit` calls may wait: no call waits, and it is in tail position
abbrev pub run_of : Source → ℕ → ℕ → ℕ → List Value → Outcome Value
run_of p limit func fuel args = run_from (bodies p) limit func fuel args
