-- Runs take no more cells than their code's lets that build in new cells allow.
use Rattle.std.proofs.Common.{ℤ, ◌≡◌, ℕ, zero, suc, ◌+◌, ◌-◌, ◌*◌, ◌≤◌, Bool, true, false, List, [], ◌∷◌, length, map, Option, Some, None, refl, sym, ap, ◌∙◌, subst, arith}
use Rattle.std.specs.Prelude.{pos, cond, ◌==◌, if◌then◌else◌, slice_get}
use Rattle.std.specs.Ordering.{int_eq}
use Rattle.camelot_values.specs.Value as value
use Rattle.camelot_values.specs.Value.{Value, Values, parts}
use Rattle.camelot_values.specs.Kinds.{DataType, place_of}
use Rattle.camelot_values.specs.Operator.{Operator, operate, on_ints, dividing_by}
use Rattle.camelot_values.specs.Operator as operator
use Rattle.camelot_values.specs.Outcome.{Outcome, Done, Fuel, Deep, Trap, Stuck, peak_of, after, first_then, at_once, known, given, entered}
use Rattle.camelot_values.specs.Runs.{Enter, chosen, on_diamond, is_too_deep, calls}
use Rattle.grail_blocks.specs.declared.blocks.Place.{Place}
use Rattle.grail_blocks.specs.declared.blocks.Place.TheVariants as place
use Rattle.grail_blocks.specs.declared.blocks.CaseCell.{CaseCell}
use Rattle.grail_blocks.specs.declared.blocks.CaseCell.TheVariants as cell
use Rattle.cell_machine.specs.Endings.{most_calls}
use Rattle.grail_code.specs.Code.{Op, Lit, Flag, Copy, Prim, Make, Call, Let, CaseArm, Term, Ret, Tail, Goto, If, Case, Block, Func, Code}
use Rattle.grail_code.specs.Meaning.{Locals, Later, arguments, narrow, body_run, bodies, blocks_run, block_run, jump_run, lets_run, term_run, case_run, arm_run, arm_at, cell_run, put, put_all, built, op_run, operands, values_of, run_of}
use Rattle.cases_cells.specs.Taken.{TakesAtMost, new_place, new_cells, new_lets, new_blocks, new_funcs, Takes}

sums : (a b p q l x y z : ℕ) → p ≤ a + x → q ≤ b + y → z ≡ x + y → p + (q - l) ≤ a + b + z
sums a b p q l x y z h k e = grind (arith, h, k, e)

more_calls : (c d e : ℕ) → (c + d) * e ≡ c * e + d * e
more_calls c d e = grind (arith)

rest_calls : (c f e : ℕ) → c ≤ f → f * e ≡ c * e + (f - c) * e
rest_calls c f e h = let is : c + (f - c) ≡ f = grind (arith, h) in ap (λ n. n * e) (sym is) ∙ more_calls c (f - c) e

takes_more : (a b e f : ℕ) (o : Outcome Value) → a ≤ b → Takes a e f o → Takes b e f o
takes_more a b e f (Done v c p l) h t = (t.0, grind (arith, h, t.1))
takes_more a b e f (Fuel c p) h t = grind (arith, h, t)
takes_more a b e f (Deep p) h t = grind (arith, h, t)
takes_more a b e f (Trap p) h t = grind (arith, h, t)
takes_more a b e f Stuck h t = tt

takes_after : (a b e c p l f : ℕ) (o : Outcome Value) → c ≤ f → p ≤ a + c * e → Takes b e (f - c) o → Takes (a + b) e f (after c p l o)
takes_after a b e c p l f (Done v d q m) within first t = (grind (arith, within, t.0), sums a b p q l (c * e) (d * e) ((c + d) * e) first t.1 (more_calls c d e))
takes_after a b e c p l f (Fuel d q) within first t = sums a b p q l (c * e) ((f - c) * e) (f * e) first t (rest_calls c f e within)
takes_after a b e c p l f (Deep q) within first t = sums a b p q l (c * e) ((f - c) * e) (f * e) first t (rest_calls c f e within)
takes_after a b e c p l f (Trap q) within first t = sums a b p q l (c * e) ((f - c) * e) (f * e) first t (rest_calls c f e within)
takes_after a b e c p l f Stuck within first t = tt

stop_takes : (a b e f p : ℕ) → p ≤ a + f * e → p ≤ a + b + f * e
stop_takes a b e f p h = grind (arith, h)

-- what holds of both holds of one after the other
takes_then : (a b e f : ℕ) (o : Outcome Value) (next : ℕ → Value → Outcome Value) → Takes a e f o → ((k : ℕ) (v : Value) → Takes b e k (next k v))
    → Takes (a + b) e f (first_then f o next)
takes_then a b e f (Done v c p l) next t k = takes_after a b e c p l f (next (f - c) v) t.0 t.1 (k (f - c) v)
takes_then a b e f (Fuel c p) next t k = stop_takes a b e f p t
takes_then a b e f (Deep p) next t k = stop_takes a b e f p t
takes_then a b e f (Trap p) next t k = stop_takes a b e f p t
takes_then a b e f Stuck next t k = tt

-- ---- lets

-- what calls take, with any fuel
abbrev EnterTakes : ℕ → Enter → Type 0
EnterTakes e enter = (k w : ℕ) (tail : Bool) (func : ℕ) (args : List Value) → Takes 0 e k (enter k w tail func args)

known_takes : (e f : ℕ) (v : Option Value) → Takes 0 e f (known v)
known_takes e f (Some v) = (grind (arith), grind (arith))
known_takes e f None = tt

given_takes : {A : Type 0} → (a e f : ℕ) (o : Option A) (next : A → Outcome Value) → ((x : A) → Takes a e f (next x)) → Takes a e f (given o next)
given_takes a e f (Some x) next h = h x
given_takes a e f None next h = tt

diamond_takes : (e f : ℕ) (v u : Value) → Takes 0 e f (on_diamond v (at_once u))
diamond_takes e f value.Dia u = (grind (arith), grind (arith))
diamond_takes e f (value.Int z) u = tt
diamond_takes e f (value.Flag b) u = tt
diamond_takes e f (value.Con c vs) u = tt

built_takes : (e f con : ℕ) (vs : List Value) (p : Place) (env : Locals) → Takes (new_place p) e f (built con vs p env)
built_takes e f con vs place.Inline env = (grind (arith), grind (arith))
built_takes e f con vs place.New env = (grind (arith), grind (arith))
built_takes e f con vs (place.Reuse d) env = given_takes 0 e f (env d) (λ v. on_diamond v (at_once (value.Con con (parts vs)))) (λ v. diamond_takes e f v (value.Con con (parts vs)))

dividing_takes : (e f : ℕ) (y z : ℤ) → Takes 0 e f (dividing_by y z)
dividing_takes e f y z = by_test (int_eq y (pos 0))
  where
    by_test : (b : Bool) → Takes 0 e f (if b then Trap 0 else at_once (value.Int z))
    by_test true = grind (arith)
    by_test false = (grind (arith), grind (arith))

one_int : (op : Operator) (e f : ℕ) (x y : ℤ) → Takes 0 e f (on_ints op x y)
one_int operator.Add e f x y = (grind (arith), grind (arith))
one_int operator.Sub e f x y = (grind (arith), grind (arith))
one_int operator.Mul e f x y = (grind (arith), grind (arith))
one_int operator.Div e f x y = dividing_takes e f y _
one_int operator.Mod e f x y = dividing_takes e f y _
one_int operator.Eq e f x y = (grind (arith), grind (arith))
one_int operator.Ne e f x y = (grind (arith), grind (arith))
one_int operator.Lt e f x y = (grind (arith), grind (arith))
one_int operator.Le e f x y = (grind (arith), grind (arith))
one_int operator.Gt e f x y = (grind (arith), grind (arith))
one_int operator.Ge e f x y = (grind (arith), grind (arith))

operator_takes : (op : Operator) (e f : ℕ) (u v : Value) → Takes 0 e f (operate op u v)
operator_takes op e f (value.Int x) (value.Int y) = one_int op e f x y
operator_takes op e f (value.Int x) (value.Flag b) = tt
operator_takes op e f (value.Int x) value.Dia = tt
operator_takes op e f (value.Int x) (value.Con c vs) = tt
operator_takes op e f (value.Flag b) v = tt
operator_takes op e f value.Dia v = tt
operator_takes op e f (value.Con c us) v = tt

operands_take : (op : Operator) (e f : ℕ) (u v : Option Value) → Takes 0 e f (operands op u v)
operands_take op e f (Some u) (Some v) = operator_takes op e f u v
operands_take op e f (Some u) None = tt
operands_take op e f None v = tt

op_takes : (e : ℕ) (enter : Enter) → EnterTakes e enter → (o : Op) (k w : ℕ) (env : Locals) → Takes (new_cells o) e k (op_run enter k w env o)
op_takes e enter on_call (Lit z) k w env = (grind (arith), grind (arith))
op_takes e enter on_call (Flag b) k w env = (grind (arith), grind (arith))
op_takes e enter on_call (Copy x) k w env = known_takes e k (env x)
op_takes e enter on_call (Prim op x y) k w env = operands_take op e k (env x) (env y)
op_takes e enter on_call (Make con args p) k w env = given_takes _ e k (values_of env args) (λ vs. built con vs p env) (λ vs. built_takes e k con vs p env)
op_takes e enter on_call (Call func args) k w env = given_takes _ e k (values_of env args) (λ vs. enter k w false func vs) (λ vs. on_call k w false func vs)

lets_take : (rest e : ℕ) (enter : Enter) → EnterTakes e enter → (ls : List Let) (k w : ℕ) (env : Locals) (next : ℕ → Locals → Outcome Value)
    → ((j : ℕ) (last : Locals) → Takes rest e j (next j last))
    → Takes (new_lets ls + rest) e k (lets_run enter ls k w env next)
lets_take rest e enter on_call [] k w env next on = takes_more rest (0 + rest) e k (next k env) (grind (arith)) (on k env)
lets_take rest e enter on_call (b ∷ bs) k w env next on =
    takes_more (new_cells b.op + (new_lets bs + rest)) (new_cells b.op + new_lets bs + rest) e k _ (grind (arith))
    (takes_then (new_cells b.op) (new_lets bs + rest) e k (op_run enter k w env b.op) _ (op_takes e enter on_call b.op k w env) (λ j v. lets_take rest e enter on_call bs j w (put env b.target v) next on))

-- ---- ends of blocks, blocks

-- what the later blocks take, with any fuel
abbrev LaterTakes : ℕ → ℕ → Later → Type 0
LaterTakes a e later = (b k w : ℕ) (env : Locals) → Takes a e k (later b k w env)

chosen_takes : (a e k : ℕ) (v : Value) (first second : Outcome Value) → Takes a e k first → Takes a e k second → Takes a e k (chosen v first second)
chosen_takes a e k (value.Flag true) first second s t = s
chosen_takes a e k (value.Flag false) first second s t = t
chosen_takes a e k (value.Int z) first second s t = tt
chosen_takes a e k value.Dia first second s t = tt
chosen_takes a e k (value.Con c vs) first second s t = tt

freed_takes : (a e k : ℕ) (o : Outcome Value) → Takes a e k o → Takes a e k (after 0 0 1 o)
freed_takes a e k o t = let none : k - 0 ≡ k = grind (arith) in let same : 0 + a ≡ a = grind (arith) in
    subst (λ n. Takes n e k (after 0 0 1 o)) same (takes_after 0 a e 0 0 1 k o (grind (arith)) (grind (arith)) (subst (λ n. Takes a e n o) (sym none) t))

cell_takes : (a e k : ℕ) (c : CaseCell) (env : Locals) (next : Locals → Outcome Value) → ((last : Locals) → Takes a e k (next last))
    → Takes a e k (cell_run c env next)
cell_takes a e k cell.Inline env next h = h env
cell_takes a e k cell.Look env next h = h env
cell_takes a e k cell.Free env next h = freed_takes a e k (next env) (h env)
cell_takes a e k (cell.Keep d) env next h = h (put env d value.Dia)

arm_takes : (a e : ℕ) (later : Later) → LaterTakes a e later → (arm : Option CaseArm) (vs : Values) (k w : ℕ) (env : Locals)
    → Takes a e k (arm_run later arm vs k w env)
arm_takes a e later on None vs k w env = tt
arm_takes a e later on (Some arm) vs k w env = given_takes a e k (put_all env arm.fields vs) _ (λ bound. cell_takes a e k arm.cell bound _ (λ last. on arm.target k w last))

case_takes : (types : List DataType) (a e : ℕ) (later : Later) → LaterTakes a e later → (v : Value) (arms : List CaseArm) (k w : ℕ) (env : Locals)
    → Takes a e k (case_run types later v arms k w env)
case_takes types a e later on (value.Con c vs) arms k w env = arm_takes a e later on (arm_at arms (place_of types c)) vs k w env
case_takes types a e later on (value.Int z) arms k w env = tt
case_takes types a e later on (value.Flag b) arms k w env = tt
case_takes types a e later on value.Dia arms k w env = tt

term_takes : (types : List DataType) (a e : ℕ) (enter : Enter) → EnterTakes e enter → (later : Later) → LaterTakes a e later
    → (t : Term) (k w : ℕ) (env : Locals) → Takes a e k (term_run types enter later t k w env)
term_takes types a e enter on_call later on (Ret x) k w env = takes_more 0 a e k _ (grind (arith)) (known_takes e k (env x))
term_takes types a e enter on_call later on (Tail func args) k w env = takes_more 0 a e k _ (grind (arith)) (given_takes 0 e k (values_of env args) _ (λ vs. on_call k w true func vs))
term_takes types a e enter on_call later on (Goto b) k w env = on b k w env
term_takes types a e enter on_call later on (If x first second) k w env = given_takes a e k (env x) _ (λ v. chosen_takes a e k v _ _ (on first k w env) (on second k w env))
term_takes types a e enter on_call later on (Case x arms) k w env = given_takes a e k (env x) _ (λ v. case_takes types a e later on v arms k w env)

block_takes : (types : List DataType) (a e : ℕ) (enter : Enter) → EnterTakes e enter → (later : Later) → LaterTakes a e later
    → (b : Block) (k w : ℕ) (env : Locals)
    → Takes (new_lets b.lets + a) e k (block_run types enter later (narrow b) k w env)
block_takes types a e enter on_call later on b k w env = lets_take a e enter on_call b.lets k w env _ (λ j last. term_takes types a e enter on_call later on b.term j w last)

jumps_take : (types : List DataType) (e : ℕ) (enter : Enter) → EnterTakes e enter → (first : ℕ) (bs : List Block)
    → LaterTakes (new_blocks bs) e (jump_run types enter first (map narrow bs))
jumps_take types e enter on_call first [] b k w env = tt
jumps_take types e enter on_call first (body ∷ bs) b k w env = by_place (jumps_take types e enter on_call (suc first) bs) (b == first)
  where
    by_place : LaterTakes (new_blocks bs) e (jump_run types enter (suc first) (map narrow bs)) → (here : Bool)
        → Takes (new_lets body.lets + new_blocks bs) e k (if here then block_run types enter (jump_run types enter (suc first) (map narrow bs)) (narrow body) k w ((narrow body).takes env) else jump_run types enter (suc first) (map narrow bs) b k w env)
    by_place later true = block_takes types (new_blocks bs) e enter on_call _ later body k w ((narrow body).takes env)
    by_place later false = takes_more (new_blocks bs) (new_lets body.lets + new_blocks bs) e k _ (grind (arith)) (later b k w env)

blocks_take : (types : List DataType) (e : ℕ) (enter : Enter) → EnterTakes e enter → (bs : List Block) (k w : ℕ) (env : Locals)
    → Takes (new_blocks bs) e k (blocks_run types enter (map narrow bs) k w env)
blocks_take types e enter on_call [] k w env = tt
blocks_take types e enter on_call (body ∷ bs) k w env = block_takes types (new_blocks bs) e enter on_call _ (jumps_take types e enter on_call 1 bs) body k w env

-- ---- functions and calls

at_most_all : (fs : List Func) (i : ℕ) (f : Func) → slice_get fs i ≡ Some f → new_blocks f.blocks ≤ new_funcs fs
at_most_all [] i f h = absurd cc
at_most_all (g ∷ fs) zero f h = let same : g ≡ f = cc in subst (λ x. new_blocks x.blocks ≤ new_blocks g.blocks + new_funcs fs) same (grind (arith))
at_most_all (g ∷ fs) (suc i) f h = let more : new_blocks f.blocks ≤ new_funcs fs = at_most_all fs i f h in grind (arith, more)

body_takes : (p : Code) (enter : Enter) → EnterTakes (new_funcs p.funcs) enter → (f : Option Func) (i : ℕ) → slice_get p.funcs i ≡ f
    → (k w : ℕ) (args : List Value) → Takes (new_funcs p.funcs) (new_funcs p.funcs) k (body_run p.types enter f k w args)
body_takes p enter on_call None i h k w args = tt
body_takes p enter on_call (Some f) i h k w args = by_count (length args == length f.params)
  where
    by_count : (fits : Bool) → Takes (new_funcs p.funcs) (new_funcs p.funcs) k (if fits then blocks_run p.types enter (map narrow f.blocks) k w (arguments args) else Stuck)
    by_count false = tt
    by_count true = takes_more (new_blocks f.blocks) (new_funcs p.funcs) (new_funcs p.funcs) k _ (at_most_all p.funcs i f h) (blocks_take p.types (new_funcs p.funcs) enter on_call f.blocks k w (arguments args))

entered_takes : (e f : ℕ) (o : Outcome Value) → Takes e e f o → Takes 0 e (suc f) (entered o)
entered_takes e f (Done v c p l) t = (grind (arith, t.0), grind (arith, t.1, more_calls 1 c e))
entered_takes e f (Fuel c p) t = grind (arith, t, more_calls 1 f e)
entered_takes e f (Deep p) t = grind (arith, t, more_calls 1 f e)
entered_takes e f (Trap p) t = grind (arith, t, more_calls 1 f e)
entered_takes e f Stuck t = tt

calls_take : (p : Code) (limit clock : ℕ) → (k w : ℕ) (tail : Bool) (func : ℕ) (args : List Value)
    → Takes 0 (new_funcs p.funcs) k (calls (bodies p) limit clock k w tail func args)
calls_take p limit clock zero w tail func args = grind (arith)
calls_take p limit zero (suc k) w tail func args = grind (arith)
calls_take p limit (suc clock) (suc k) w tail func args = by_depth (calls_take p limit clock) (is_too_deep limit w tail)
  where
    e : ℕ
    e = new_funcs p.funcs

    by_depth : EnterTakes e (calls (bodies p) limit clock) → (deep : Bool)
        → Takes 0 e (suc k) (if deep then Deep 0 else entered (bodies p (calls (bodies p) limit clock) func k (cond tail w (suc w)) args))
    by_depth on_call true = grind (arith)
    by_depth on_call false = entered_takes e k _ (body_takes p (calls (bodies p) limit clock) on_call (slice_get p.funcs func) func refl k (cond tail w (suc w)) args)

calls_within : (c f e p : ℕ) → c ≤ f → p ≤ 0 + c * e → p ≤ f * e
calls_within c f e p h k = grind (arith, k, rest_calls c f e h)

peak_within : (e f : ℕ) (o : Outcome Value) → Takes 0 e f o → peak_of o ≤ f * e
peak_within e f (Done v c p l) t = calls_within c f e p t.0 t.1
peak_within e f (Fuel c p) t = grind (arith, t)
peak_within e f (Deep p) t = grind (arith, t)
peak_within e f (Trap p) t = grind (arith, t)
peak_within e f Stuck t = grind (arith)

-- A run takes at most as many cells as its fuel has units, times the lets of the code that build in new cells.
pub run_takes : (p : Code) (limit entry fuel : ℕ) (args : List Value) → peak_of (run_of p limit entry fuel args) ≤ fuel * new_funcs p.funcs
run_takes p limit entry fuel args = peak_within (new_funcs p.funcs) fuel (run_of p limit entry fuel args) (calls_take p limit fuel fuel 0 true entry args)

pub at_most : (p : Code) (fuel each most : ℕ) → each ≡ new_funcs p.funcs → most ≡ fuel * each → TakesAtMost p fuel most
at_most p fuel each most e m entry args = subst (λ n. peak_of (run_of p most_calls entry fuel args) ≤ n) (ap (λ k. fuel * k) (sym e) ∙ sym m) (run_takes p most_calls entry fuel args)
