-- Private: words for functions of this crate.
-- The walk of the code. It goes on behind a fault, and keeps the first one in text order: what a call reads is judged
-- behind all of its arguments, and may stand before faults that were found earlier. It goes along the left end of an
-- expression in a loop, and takes the kinds of expressions from their list.
use Rattle.std.specs.Prelude.{◌≡◌, ℕ, zero, suc, ◌+◌, ◌&&◌, Bool, true, false, if◌then◌else◌, List, [], ◌∷◌, ◌++◌, map, length, Option, Some, None, Result, Ok, Err, slice_get}
use Rattle.std.specs.Option.{option_or}
use Rattle.stops.specs.declared.stop.Stop.{Stop}
use Rattle.stops.specs.Stopping.{FaultIs}
use Rattle.camelot_values.specs.Kinds.{DataType}
use Rattle.camelot_values.specs.declared.kinds.Kind.{Kind}
use Rattle.camelot_tree.specs.Tree.{Expression, Num, Truth, Var, Prim, If, Let, Match, Build, Call, Expressions, NoExpressions, AndExpression, Arms, Branch}
use Rattle.camelot_tree.specs.Programs.{program_of}
use Rattle.camelot_typing.specs.Kinds.{Globals, Scope, bind, arm_scope, atom_of, atoms_of, all_atoms, arms_atoms}
use Rattle.camelot_typing.specs.Typing.{known_kind}
use Rattle.camelot_typing.specs.Typed.{kinds_of, signatures_of}
use Rattle.camelot_typing.specs.declared.typed.Typed.{Typed}
use Rattle.linear_use.specs.declared.fault.UseFault.{UseFault}
use Rattle.linear_use.specs.declared.fault.UseFault.TheVariants.{Twice}
use Rattle.linear_use.specs.declared.variable.Variable.{Variable}
use Rattle.linear_use.specs.declared.state.State.{State}
use Rattle.linear_use.specs.Uses.{Loans, lent_by, is_read_here, reads_behind}
use Rattle.linear_use.specs.Flow.{Flow, Nothing, Use, Read, Fault, After, Either, Calling, used, is_spent, kinds_in, argument_flow, scrutinee_flow, cell_flow, arm_variables, arm_count, next_of, all_next, arms_next, flow, all_flow, arms_flow}

-- ---- the first fault

-- the first fault of a flow, where these variables are spent already, and those are where the call around it reads
abbrev pub first_of : (spent called : List ℕ) → Flow → Option UseFault
first_of spent called Nothing = None
first_of spent called (Use x name line) = if is_spent x spent then Some (Twice name line) else None
first_of spent called (Read x name line) = if is_spent x called then Some (Twice name line) else None
first_of spent called (Fault fault) = Some fault
first_of spent called (After a b) = option_or (first_of spent called a) (first_of (spent ++ used a) called b)
first_of spent called (Either a b) = option_or (first_of spent called a) (first_of spent called b)
first_of spent called (Calling a) = first_of spent (spent ++ used a) a

-- this is the fault, unless memory ran out
abbrev pub StopsAt : Option UseFault → Stop UseFault → Type 0
StopsAt found = FaultIs (λ fault. found ≡ Some fault)

-- Ok where there is no fault, and else the first one, unless memory runs out
abbrev pub Finds : {A : Type 0} → Result A (Stop UseFault) → Option UseFault → Type 0
Finds (Ok x) found = found ≡ None
Finds (Err stop) found = StopsAt found stop

-- ---- what is known of the program

abbrev pub globals_in : Typed → Globals Kind
globals_in t = record { types = t.types; heads = signatures_of (program_of t.program).funs (map kinds_of t.funs.items) }

abbrev pub loans_in : Typed → Loans
loans_in t = lent_by t.types (program_of t.program).funs (globals_in t).heads

-- these kinds stand in the list from this place on
abbrev pub AreAt : List Kind → ℕ → List Kind → Type 0
AreAt exprs place [] = Unit {0}
AreAt exprs place (k ∷ ks) = (slice_get exprs place ≡ Some k) × AreAt exprs (suc place) ks

-- ---- steps

-- a flow was walked: `free` is the first free number behind it, and it has `count` expressions
pub record Walked (f : Flow) (free count : ℕ) (before after : State) : Type 0 where
  pub fault : (called : List ℕ) → after.fault ≡ option_or before.fault (first_of before.spent called f)
  pub spent : after.spent ≡ before.spent ++ used f
  pub next : after.next ≡ free
  pub scope : after.scope ≡ before.scope
  pub position : after.position ≡ before.position + count

-- where memory didn't run out
abbrev pub Walks : {A E : Type 0} → Flow → ℕ → ℕ → State → Result A E → State → Type 0
Walks f free count before (Ok x) after = Walked f free count before after
Walks f free count before (Err stop) after = Unit {0}

abbrev pub kinds_at : Globals Kind → State → Expression → List Kind
kinds_at g s e = atoms_of known_kind g (kinds_in s.scope) e

abbrev pub WalksTerm : {A E : Type 0} → Loans → Globals Kind → Expression → State → Result A E → State → Type 0
WalksTerm loans g e before result after = Walks (flow loans g before.next before.scope e) (next_of g.types before.next e) (length (kinds_at g before e)) before result after

-- the kinds of an expression's parts
abbrev pub parts_kinds : Globals Kind → Scope Kind → Expression → List Kind
parts_kinds g s (Num z l) = []
parts_kinds g s (Truth b l) = []
parts_kinds g s (Var n) = []
parts_kinds g s (Prim op a b l) = atoms_of known_kind g s a ++ atoms_of known_kind g s b
parts_kinds g s (If c a b l) = atoms_of known_kind g s c ++ (atoms_of known_kind g s a ++ atoms_of known_kind g s b)
parts_kinds g s (Let n e b) = atoms_of known_kind g s e ++ atoms_of known_kind g (bind n.word (atom_of known_kind g s e) s) b
parts_kinds g s (Match e as' l) = atoms_of known_kind g s e ++ arms_atoms known_kind g s as'
parts_kinds g s (Build c es place) = all_atoms known_kind g s es
parts_kinds g s (Call f es) = all_atoms known_kind g s es

abbrev pub parts_kinds_at : Globals Kind → State → Expression → List Kind
parts_kinds_at g s e = parts_kinds g (kinds_in s.scope) e

-- all of an expression but its own end
abbrev pub WalksParts : {A E : Type 0} → Loans → Globals Kind → Expression → State → Result A E → State → Type 0
WalksParts loans g e before result after = Walks (flow loans g before.next before.scope e) (next_of g.types before.next e) (length (parts_kinds_at g before e)) before result after

-- ---- the parts of an operator or a conditional behind its first part

abbrev pub first_part : Expression → Expression
first_part (Prim op a b l) = a
first_part (If c a b l) = c
first_part e = e

abbrev pub rest_flow : Loans → Globals Kind → ℕ → Scope Variable → Expression → Flow
rest_flow loans g next s (Prim op a b l) = flow loans g next s b
rest_flow loans g next s (If c a b l) = Either (flow loans g next s a) (flow loans g (next_of g.types next a) s b)
rest_flow loans g next s e = Nothing

abbrev pub rest_next : List DataType → ℕ → Expression → ℕ
rest_next types next (Prim op a b l) = next_of types next b
rest_next types next (If c a b l) = next_of types (next_of types next a) b
rest_next types next e = next

abbrev pub rest_kinds : Globals Kind → Scope Kind → Expression → List Kind
rest_kinds g s (Prim op a b l) = atoms_of known_kind g s b ++ atom_of known_kind g s (Prim op a b l) ∷ []
rest_kinds g s (If c a b l) = atoms_of known_kind g s a ++ (atoms_of known_kind g s b ++ atom_of known_kind g s (If c a b l) ∷ [])
rest_kinds g s e = []

abbrev pub WalksRest : {A E : Type 0} → Loans → Globals Kind → Expression → State → Result A E → State → Type 0
WalksRest loans g p before result after =
    Walks (rest_flow loans g before.next before.scope p) (rest_next g.types before.next p) (length (rest_kinds g (kinds_in before.scope) p)) before result after

-- ---- arguments and arms

abbrev pub all_kinds_at : Globals Kind → State → Expressions → List Kind
all_kinds_at g s es = all_atoms known_kind g (kinds_in s.scope) es

abbrev pub is_none : Option UseFault → Bool
is_none None = true
is_none (Some fault) = false

-- the argument is read, at a parameter that is read or not
abbrev pub is_read : Bool → Expression → Bool
is_read m (Var n) = m
is_read m e = false

-- an argument without its reading
abbrev pub own_flow : Bool → Expression → Flow → Flow
own_flow m e taken = if is_read m e then Nothing else taken

-- The first fault among the readings of the first `count` arguments.
abbrev pub reads_first : (called : List ℕ) → List DataType → Scope Variable → List Bool → Expressions → (count : ℕ) → Option UseFault
reads_first called types s ms NoExpressions count = None
reads_first called types s ms (AndExpression e es) zero = None
reads_first called types s ms (AndExpression e es) (suc n) =
    option_or (first_of [] called (argument_flow types s (is_read_here ms) e Nothing)) (reads_first called types s (reads_behind ms) es n)

-- an argument was walked, or passed where it is read; `clear` is the number of arguments up to the last reading before
-- which no fault is
pub record ArgumentWalked (loans : Loans) (g : Globals Kind) (m : Bool) (e : Expression) (clear index : ℕ) (before after : State) (now : ℕ) : Type 0 where
  pub walked : Walked (own_flow m e (flow loans g before.next before.scope e)) (next_of g.types before.next e) (length (kinds_at g before e)) before after
  pub cleared : now ≡ (if is_read m e && is_none before.fault then index else clear)

-- Arguments were walked, and their readings passed: of those that stand before the first fault, the last one is among
-- the first `clear` arguments.
pub record AllWalked (loans : Loans) (g : Globals Kind) (ms : List Bool) (es : Expressions) (before after : State) (clear : ℕ) : Type 0 where
  pub fault : (called : List ℕ) → option_or before.fault (first_of before.spent called (all_flow loans g ms before.next before.scope es))
      ≡ option_or (reads_first called g.types before.scope ms es clear) after.fault
  pub spent : after.spent ≡ before.spent ++ used (all_flow loans g ms before.next before.scope es)
  pub next : after.next ≡ all_next g.types before.next es
  pub scope : after.scope ≡ before.scope
  pub position : after.position ≡ before.position + length (all_kinds_at g before es)

-- the arguments of a build, none of which is read
abbrev pub WalksAll : {A E : Type 0} → Loans → Globals Kind → Expressions → State → Result A E → State → Type 0
WalksAll loans g es before result after =
    Walks (all_flow loans g [] before.next before.scope es) (all_next g.types before.next es) (length (all_kinds_at g before es)) before result after

abbrev pub WalksCall : {A E : Type 0} → Loans → Globals Kind → (fun : List ℕ) → Expressions → State → Result A E → State → Type 0
WalksCall loans g fun es before result after =
    Walks (Calling (all_flow loans g (loans fun) before.next before.scope es)) (all_next g.types before.next es) (length (all_kinds_at g before es)) before result after

-- a scrutinee, by whether it is a variable that is lent
abbrev pub WalksOn : {A E : Type 0} → Loans → Globals Kind → (lent : Bool) → Expression → Arms → State → Result A E → State → Type 0
WalksOn loans g lent e as' before result after =
    Walks (scrutinee_flow lent e as' (flow loans g before.next before.scope e)) (next_of g.types before.next e) (length (kinds_at g before e)) before result after

abbrev pub arm_flow : Loans → Globals Kind → (lent : Bool) → ℕ → Scope Variable → Branch → Flow
arm_flow loans g lent next s a =
    After (cell_flow g.types lent a.con a.cell)
    (flow loans g (next + arm_count g.types a.con a.fields a.cell) (arm_variables g.types lent next a.con a.fields a.cell s) a.body)

abbrev pub arm_next : List DataType → ℕ → Branch → ℕ
arm_next types next a = next_of types (next + arm_count types a.con a.fields a.cell) a.body

abbrev pub arm_kinds_at : Globals Kind → State → Branch → List Kind
arm_kinds_at g s a = atoms_of known_kind g (arm_scope known_kind g.types a.con a.fields a.cell (kinds_in s.scope)) a.body

abbrev pub WalksArm : {A E : Type 0} → Loans → Globals Kind → (lent : Bool) → Branch → State → Result A E → State → Type 0
WalksArm loans g lent a before result after =
    Walks (arm_flow loans g lent before.next before.scope a) (arm_next g.types before.next a) (length (arm_kinds_at g before a)) before result after

abbrev pub arms_kinds_at : Globals Kind → State → Arms → List Kind
arms_kinds_at g s as' = arms_atoms known_kind g (kinds_in s.scope) as'

abbrev pub WalksArms : {A E : Type 0} → Loans → Globals Kind → (lent : Bool) → Arms → State → Result A E → State → Type 0
WalksArms loans g lent as' before result after =
    Walks (arms_flow loans g lent before.next before.scope as') (arms_next g.types before.next as') (length (arms_kinds_at g before as')) before result after
