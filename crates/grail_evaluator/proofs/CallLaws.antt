-- The evaluator's lets, blocks and calls are those of the meaning of code, behind all that was used before.
use Rattle.std.proofs.Common.{◌≡◌, ℕ, suc, ◌+◌, ◌-◌, ◌<◌, ◌≤◌, Bool, true, false, List, ◌∷◌, length, get_or, drop, map, Option, Some, None, refl, sym, ap, ◌∙◌, subst, arith, inl, inr, add-one, drop-cons, drop_of_length-le}
use Rattle.std.specs.Prelude.{◌==◌, ◌⊎◌, ⊤, cond, if◌then◌else◌, slice_get}
use Rattle.std.specs.Option.{option_map}
use Rattle.std.proofs.lemmas.Option.{slice_get-map, slice_get-get_or, slice_get_past}
use Rattle.std.proofs.lemmas.List.{length-map}
use Rattle.std.proofs.lemmas.Bool.{cases_lt}
use Rattle.std.proofs.lemmas.Bool.Decides.{nat_tests}
use Rattle.camelot_values.specs.Value as value
use Rattle.camelot_values.specs.Value.{Value, parts}
use Rattle.camelot_values.specs.Kinds.{DataType, place_of}
use Rattle.camelot_values.specs.Outcome.{Outcome, Done, Fuel, Deep, Trap, Stuck, after, first_then, given, entered}
use Rattle.camelot_values.specs.OutcomeLaws.{after_both, after_nothing}
use Rattle.camelot_values.specs.Runs.{Enter, is_too_deep}
use Rattle.camelot_values.specs.RunLaws.{unfolds}
use Rattle.grail_blocks.specs.RunningLaws.{later_is_block, back_is_stuck, runs_from_first}
use Rattle.grail_blocks.specs.declared.blocks.Let.{Let}
use Rattle.grail_blocks.specs.declared.blocks.CaseCell.TheVariants as cell
use Rattle.grail_code.specs.Code.{CaseArm, func_of, block_of, let_of, op_of, term_of, code_of}
use Rattle.grail_code.specs.Meaning.{Locals, Later, Body, narrow, put, put_all, arguments, narrowed, op_run, lets_run, cell_run, arm_run, arm_at, case_run, block_run, blocks_run, body_run, bodies, from_block, jumps_from}
use Rattle.grail_code.specs.MeaningLaws.{bodies_respect}
use Rattle.grail_code.specs.declared.code.Code.{Code}
use Rattle.grail_code.specs.declared.code.Func.{Func}
use Rattle.grail_code.specs.declared.code.Block.{Block}
use Rattle.grail_evaluator.specs.Trees.{plain, plain_all}
use Rattle.grail_evaluator.specs.Ends.{reached_of, onto, calls_in, bodies_of, onward, OnReached}
use Rattle.grail_evaluator.specs.declared.outcome.Reached.{Reached}
use Rattle.grail_evaluator.specs.declared.outcome.Reached.TheVariants as reached
use Rattle.grail_evaluator.specs.declared.counts.Counts.{Counts}
use Rattle.grail_evaluator.specs.declared.tree.Tree.{Tree}

-- ---- one after another

-- equal counts in an outcome that comes behind them
behind_same : (c p g c' p' g' : ℕ) (o : Outcome Value) → c ≡ c' → p ≡ p' → g ≡ g' → after c p g o ≡ after c' p' g' o
behind_same c p g c' p' g' o ec ep eg = ap (λ x. after x p g o) ec ∙ ap (λ x. after c' x g o) ep ∙ ap (λ x. after c' p' x o) eg

-- a value, and then the rest
onto_then : (s t : Counts) (fuel : ℕ) (v : Value) (o : Outcome Value) (next : ℕ → Value → Outcome Value) → Done v t.calls t.peak t.low ≡ onto s o
    → onto s (first_then (fuel - s.calls) o next) ≡ onto t (next (fuel - t.calls) v)
onto_then s t fuel v (Done u c p g) next e =
    let same : v ≡ u = cc in
    let calls : t.calls ≡ s.calls + c = cc in
    let peak : t.peak ≡ s.peak + (p - s.low) = cc in
    let low : t.low ≡ g + (s.low - p) = cc in
    after_both s.calls s.peak s.low c p g (next (fuel - s.calls - c) u)
    ∙ behind_same (s.calls + c) (s.peak + (p - s.low)) (g + (s.low - p)) t.calls t.peak t.low (next (fuel - s.calls - c) u) (sym calls) (sym peak) (sym low)
    ∙ ap (λ n. onto t (next n u)) (omega (arith, calls)) ∙ ap (λ x. onto t (next (fuel - t.calls) x)) (sym same)
onto_then s t fuel v (Fuel c p) next e = absurd cc
onto_then s t fuel v (Deep p) next e = absurd cc
onto_then s t fuel v (Trap p) next e = absurd cc
onto_then s t fuel v Stuck next e = absurd cc

-- the run ends here
abbrev pub IsOver : Outcome Value → Type 0
IsOver (Done v c p g) = ⊥
IsOver o = ⊤

-- what isn't a value is over
pub is_over : (r : Reached) → ((v : Tree) (s : Counts) → r ≡ reached.Done v s → ⊥) → IsOver (reached_of r)
is_over (reached.Done v s) other = absurd (other v s refl)
is_over (reached.Fuel s) other = tt
is_over (reached.Deep s) other = tt
is_over (reached.Trap s) other = tt
is_over reached.Stuck other = tt

pub over_uses : (P : Counts → Type 0) (r : Reached) → ((v : Tree) (s : Counts) → r ≡ reached.Done v s → ⊥) → OnReached P r
over_uses P (reached.Done v s) other = absurd (other v s refl)
over_uses P (reached.Fuel s) other = tt
over_uses P (reached.Deep s) other = tt
over_uses P (reached.Trap s) other = tt
over_uses P reached.Stuck other = tt

onto_over : (s : Counts) (k : ℕ) (q o : Outcome Value) (next : ℕ → Value → Outcome Value) → IsOver q → q ≡ onto s o → q ≡ onto s (first_then k o next)
onto_over s k q (Done v c p g) next over e = absurd (subst IsOver e over)
onto_over s k q (Fuel c p) next over e = e
onto_over s k q (Deep p) next over e = e
onto_over s k q (Trap p) next over e = e
onto_over s k q Stuck next over e = e

-- ---- lets

-- the let at a place, and those behind it
lets_at : (enter : Enter) (lets : List Let) (i : ℕ) (b : Let) (k w : ℕ) (env : Locals) (next : ℕ → Locals → Outcome Value) → i < length lets
    → b ≡ get_or lets i b
    → first_then k (op_run enter k w env (op_of b.op)) (λ left u. lets_run enter (map let_of (drop (suc i) lets)) left w (put env b.target u) next) ≡ lets_run enter (map let_of (drop i lets)) k w env next
lets_at enter lets i b k w env next less is =
    ap (λ c. lets_run enter (let_of c ∷ map let_of (drop (suc i) lets)) k w env next) is ∙ ap (λ bs. lets_run enter (map let_of bs) k w env next) (sym (drop-cons lets i b less))

pub lets_more : (enter : Enter) (lets : List Let) (i : ℕ) (b : Let) (fuel w : ℕ) (s t : Counts) (v : Value) (env new : Locals) (next : ℕ → Locals → Outcome Value) (whole : Outcome Value)
    → i < length lets → b ≡ get_or lets i b → Done v t.calls t.peak t.low ≡ onto s (op_run enter (fuel - s.calls) w env (op_of b.op)) → new ≡ put env b.target v
    → onto s (lets_run enter (map let_of (drop i lets)) (fuel - s.calls) w env next) ≡ whole
    → onto t (lets_run enter (map let_of (drop (i + 1) lets)) (fuel - t.calls) w new next) ≡ whole
lets_more enter lets i b fuel w s t v env new next whole less is did bound so_far =
    ap (λ n. onto t (lets_run enter (map let_of (drop n lets)) (fuel - t.calls) w new next)) (add-one i)
    ∙ ap (λ e. onto t (lets_run enter (map let_of (drop (suc i) lets)) (fuel - t.calls) w e next)) bound
    ∙ sym (onto_then s t fuel v (op_run enter (fuel - s.calls) w env (op_of b.op)) (λ left u. lets_run enter (map let_of (drop (suc i) lets)) left w (put env b.target u) next) did)
    ∙ ap (onto s) (lets_at enter lets i b (fuel - s.calls) w env next less is) ∙ so_far

pub lets_over : (enter : Enter) (lets : List Let) (i : ℕ) (b : Let) (k w : ℕ) (s : Counts) (q : Outcome Value) (env : Locals) (next : ℕ → Locals → Outcome Value) (whole : Outcome Value)
    → IsOver q → i < length lets → b ≡ get_or lets i b → q ≡ onto s (op_run enter k w env (op_of b.op)) → onto s (lets_run enter (map let_of (drop i lets)) k w env next) ≡ whole → q ≡ whole
lets_over enter lets i b k w s q env next whole over less is did so_far =
    onto_over s k q (op_run enter k w env (op_of b.op)) (λ left u. lets_run enter (map let_of (drop (suc i) lets)) left w (put env b.target u) next) over did
    ∙ ap (onto s) (lets_at enter lets i b k w env next less is) ∙ so_far

pub lets_end : (enter : Enter) (lets : List Let) (i k w : ℕ) (s : Counts) (env : Locals) (next : ℕ → Locals → Outcome Value) (whole : Outcome Value)
    → length lets ≤ i
    → onto s (lets_run enter (map let_of (drop i lets)) k w env next) ≡ whole → onto s (next k env) ≡ whole
lets_end enter lets i k w s env next whole all so_far = ap (λ bs. onto s (lets_run enter (map let_of bs) k w env next)) (sym (drop_of_length-le lets {i = i} all)) ∙ so_far

-- ---- arms

pub kept_arm : (s : Counts) (later : Later) (target k w d : ℕ) (env new : Locals) (v : Value) → v ≡ value.Dia → new ≡ put env d v
    → onto s (later target k w new) ≡ onto s (cell_run (cell.Keep d) env (λ last. later target k w last))
kept_arm s later target k w d env new v dia is = ap (λ e. onto s (later target k w e)) (is ∙ ap (put env d) dia)

pub case_is : (types : List DataType) (later : Later) (k w on con : ℕ) (vs : List Value) (arm : CaseArm) (arms : List CaseArm) (env new : Locals)
    → env on ≡ Some (value.Con con (parts vs))
    → Some arm ≡ arm_at arms (place_of types con) → Some new ≡ put_all env arm.fields (parts vs)
    → cell_run arm.cell new (λ last. later arm.target k w last) ≡ given (env on) (λ v. case_run types later v arms k w env)
case_is types later k w on con vs arm arms env new there is bound =
    ap (λ q. given q (λ b. cell_run arm.cell b (λ last. later arm.target k w last))) bound ∙ ap (λ a. arm_run later a (parts vs) k w env) is
    ∙ ap (λ q. given q (λ v. case_run types later v arms k w env)) (sym there)

-- ---- blocks

body_at : (blocks : List Block) (i : ℕ) → slice_get (bodies_of blocks) i ≡ option_map (λ b. narrow (block_of b)) (slice_get blocks i)
body_at blocks i = slice_get-map narrow (map block_of blocks) i ∙ ap (option_map narrow) (slice_get-map block_of blocks i) ∙ twice (slice_get blocks i)
  where
    twice : (o : Option Block) → option_map narrow (option_map block_of o) ≡ option_map (λ b. narrow (block_of b)) o
    twice None = refl
    twice (Some b) = refl

pub from_is : (types : List DataType) (enter : Enter) (blocks : List Block) (i k w : ℕ) (b : Block) (env : Locals) → i < length blocks → b ≡ get_or blocks i b
    → lets_run enter (map let_of b.lets.items) k w env (onward types enter (jumps_from types enter (bodies_of blocks) i) (term_of b.term) w) ≡ from_block types enter (bodies_of blocks) i k w env
from_is types enter blocks i k w b env less is =
    ap (λ o. given o (λ body. block_run types enter (jumps_from types enter (bodies_of blocks) i) body k w env))
    (sym (body_at blocks i ∙ ap (option_map (λ c. narrow (block_of c))) (slice_get-get_or blocks i b less) ∙ ap (λ c. Some (narrow (block_of c))) (sym is)))

-- a jump to a later block is that block, with what is handed on
pub jump_is : (types : List DataType) (enter : Enter) (blocks : List Block) (i to k w : ℕ) (env new : Locals) → i < to
    → option_map (λ b. narrowed b.params.items env) (slice_get blocks to) ≡ Some new
    → from_block types enter (bodies_of blocks) to k w new ≡ jumps_from types enter (bodies_of blocks) i to k w env
jump_is types enter blocks i to k w env new less handed =
    ap (λ o. given o (λ body. block_run types enter (jumps_from types enter (bodies_of blocks) to) body k w new)) (body_at blocks to) ∙ by_block (slice_get blocks to) handed
    ∙ ap (λ o. given o (λ body. block_run types enter (jumps_from types enter (bodies_of blocks) to) body k w (body.takes env))) (sym (body_at blocks to)) ∙ sym (later_is_block types enter (bodies_of blocks) i to k w env less)
  where
    by_block : (o : Option Block) → option_map (λ b. narrowed b.params.items env) o ≡ Some new
        → given (option_map (λ b. narrow (block_of b)) o) (λ body. block_run types enter (jumps_from types enter (bodies_of blocks) to) body k w new)
        ≡ given (option_map (λ b. narrow (block_of b)) o) (λ body. block_run types enter (jumps_from types enter (bodies_of blocks) to) body k w (body.takes env))
    by_block None e = absurd cc
    by_block (Some b) e = let same : new ≡ narrowed b.params.items env = cc in ap (λ l. block_run types enter (jumps_from types enter (bodies_of blocks) to) (narrow (block_of b)) k w l) same

-- any other jump is stuck
pub jump_stuck : (types : List DataType) (enter : Enter) (blocks : List Block) (i to k w : ℕ) (s : Counts) (env : Locals) → (i < to → to < length blocks → ⊥)
    → Stuck ≡ onto s (jumps_from types enter (bodies_of blocks) i to k w env)
jump_stuck types enter blocks i to k w s env none = ap (onto s) (sym (by_order (cases_lt i to)))
  where
    past : i < to → (to < length blocks) ⊎ (length blocks ≤ to) → jumps_from types enter (bodies_of blocks) i to k w env ≡ Stuck
    past less (inl there) = absurd (none less there)
    past less (inr gone) = later_is_block types enter (bodies_of blocks) i to k w env less
        ∙ ap (λ o. given o (λ body. block_run types enter (jumps_from types enter (bodies_of blocks) to) body k w (body.takes env))) (body_at blocks to ∙ ap (option_map (λ b. narrow (block_of b))) (slice_get_past blocks to gone))

    by_order : (i < to) ⊎ (to ≤ i) → jumps_from types enter (bodies_of blocks) i to k w env ≡ Stuck
    by_order (inl less) = past less (cases_lt to (length blocks))
    by_order (inr back) = back_is_stuck types enter (bodies_of blocks) i to k w env back

pub first_block : (types : List DataType) (enter : Enter) (bs : List Body) (k w : ℕ) (s : Counts) (env : Locals)
    → onto s (from_block types enter bs 0 k w env) ≡ onto s (blocks_run types enter bs k w env)
first_block types enter bs k w s env = ap (onto s) (sym (runs_from_first types enter bs k w env))

-- ---- functions

pub body_is : (fs : List Func) (i : ℕ) (f : Func) → i < length fs → f ≡ get_or fs i f → Some (func_of f) ≡ slice_get (map func_of fs) i
body_is fs i f less is = sym (slice_get-map func_of fs i ∙ ap (option_map func_of) (slice_get-get_or fs i f less) ∙ ap (λ g. Some (func_of g)) (sym is))

pub no_body : (types : List DataType) (enter : Enter) (fs : List Func) (i k w : ℕ) (s : Counts) (args : List Value) → length fs ≤ i
    → Stuck ≡ onto s (body_run types enter (slice_get (map func_of fs) i) k w args)
no_body types enter fs i k w s args past = ap (λ o. onto s (body_run types enter o k w args)) (sym (slice_get-map func_of fs i ∙ ap (option_map func_of) (slice_get_past fs i past)))

pub function_is : (types : List DataType) (enter : Enter) (f : Func) (k w : ℕ) (env : Locals) (args : List Tree)
    → length args ≡ length f.params.items → env ≡ arguments (plain_all args)
    → blocks_run types enter (bodies_of f.blocks.items) k w env ≡ body_run types enter (Some (func_of f)) k w (plain_all args)
function_is types enter f k w env args same is =
    let full : (length (plain_all args) == length f.params.items) ≡ true = grind (arith, nat_tests, length-map args plain, same) in
    ap (λ e. blocks_run types enter (bodies_of f.blocks.items) k w e) is ∙ ap (λ b. if b then blocks_run types enter (bodies_of f.blocks.items) k w (arguments (plain_all args)) else Stuck) (sym full)

pub other_count : (types : List DataType) (enter : Enter) (f : Func) (k w : ℕ) (s : Counts) (args : List Tree)
    → (length args ≡ length f.params.items → ⊥) → Stuck ≡ onto s (body_run types enter (Some (func_of f)) k w (plain_all args))
other_count types enter f k w s args other =
    let no : (length (plain_all args) == length f.params.items) ≡ false = grind (arith, nat_tests, length-map args plain, other) in
    ap (λ b. onto s (if b then blocks_run types enter (bodies_of f.blocks.items) k w (arguments (plain_all args)) else Stuck)) (sym no)

-- ---- calls

nothing_used : (s : Counts) (o : Outcome Value) → after (s.calls + 0) (s.peak + (0 - s.low)) (0 + (s.low - 0)) o ≡ onto s o
nothing_used s o = behind_same _ _ _ s.calls s.peak s.low o (omega arith) (omega arith) (omega arith)

pub out_of_fuel : (code : Code) (limit fuel w f : ℕ) (t : Bool) (s : Counts) (args : List Value) → s.calls ≡ fuel
    → Fuel s.calls s.peak ≡ onto s (calls_in code limit (fuel - s.calls) w t f args)
out_of_fuel code limit fuel w f t s args e =
    let none : 0 ≡ fuel - s.calls = omega (arith, e) in
    let calls : s.calls ≡ s.calls + 0 = omega arith in
    let peak : s.peak ≡ s.peak + (0 - s.low) = omega arith in
    ap (λ n. Fuel n s.peak) calls ∙ ap (λ n. Fuel (s.calls + 0) n) peak ∙ ap (λ n. onto s (calls_in code limit n w t f args)) none

-- a call with fuel
one_step : (code : Code) (limit fuel w f : ℕ) (t : Bool) (s : Counts) (args : List Value) → s.calls < fuel → calls_in code limit (fuel - s.calls) w t f args
    ≡ (if is_too_deep limit w t then Deep 0 else entered (body_run code.types (calls_in code limit) (slice_get (map func_of code.funcs.items) f) (fuel - (s.calls + 1)) (cond t w (suc w)) args))
one_step code limit fuel w f t s args less =
    let some : fuel - s.calls ≡ suc (fuel - (s.calls + 1)) = omega (arith, less) in
    ap (λ n. calls_in code limit n w t f args) some ∙ unfolds (bodies (code_of code)) (bodies_respect (code_of code)) limit (fuel - (s.calls + 1)) w t f args

-- in tail position the body follows, behind one call more
pub entered_is : (code : Code) (limit fuel w f : ℕ) (s : Counts) (args : List Value) → s.calls < fuel
    → onto (record { calls = s.calls + 1; peak = s.peak; low = s.low }) (body_run code.types (calls_in code limit) (slice_get (map func_of code.funcs.items) f) (fuel - (s.calls + 1)) w args)
    ≡ onto s (calls_in code limit (fuel - s.calls) w true f args)
entered_is code limit fuel w f s args less =
    let run : Outcome Value = body_run code.types (calls_in code limit) (slice_get (map func_of code.funcs.items) f) (fuel - (s.calls + 1)) w args in
    behind_same (s.calls + 1) s.peak s.low (s.calls + 1) (s.peak + (0 - s.low)) (0 + (s.low - 0)) run refl (omega arith) (omega arith)
    ∙ sym (after_both s.calls s.peak s.low 1 0 0 run) ∙ ap (onto s) (sym (one_step code limit fuel w f true s args less))

depth_is : (limit w : ℕ) (b : Bool) → (w == limit) ≡ b → is_too_deep limit w false ≡ b
depth_is limit w b e = e

pub too_deep : (code : Code) (limit fuel w f : ℕ) (s : Counts) (args : List Value) → s.calls < fuel → w ≡ limit
    → Deep s.peak ≡ onto s (calls_in code limit (fuel - s.calls) w false f args)
too_deep code limit fuel w f s args less e =
    let deep : (w == limit) ≡ true = grind (arith, nat_tests, e) in
    let peak : s.peak ≡ s.peak + (0 - s.low) = omega arith in
    ap Deep peak
    ∙ ap (λ b. onto s (if b then Deep 0 else entered (body_run code.types (calls_in code limit) (slice_get (map func_of code.funcs.items) f) (fuel - (s.calls + 1)) (suc w) args))) (sym (depth_is limit w true deep))
    ∙ ap (onto s) (sym (one_step code limit fuel w f false s args less))

-- a call that may wait is one in tail position, where one call more waits
pub waits_on : (code : Code) (limit fuel w f : ℕ) (s : Counts) (args : List Value) → s.calls < fuel → (w ≡ limit → ⊥)
    → onto s (calls_in code limit (fuel - s.calls) (w + 1) true f args) ≡ onto s (calls_in code limit (fuel - s.calls) w false f args)
waits_on code limit fuel w f s args less other =
    let shallow : (w == limit) ≡ false = grind (arith, nat_tests, other) in
    ap (onto s) (one_step code limit fuel (w + 1) f true s args less)
    ∙ ap (λ n. onto s (entered (body_run code.types (calls_in code limit) (slice_get (map func_of code.funcs.items) f) (fuel - (s.calls + 1)) n args))) (add-one w)
    ∙ ap (λ b. onto s (if b then Deep 0 else entered (body_run code.types (calls_in code limit) (slice_get (map func_of code.funcs.items) f) (fuel - (s.calls + 1)) (suc w) args))) (sym (depth_is limit w false shallow))
    ∙ ap (onto s) (sym (one_step code limit fuel w f false s args less))

-- before a run nothing is used
pub run_is : (o : Outcome Value) → onto (record { calls = 0; peak = 0; low = 0 }) o ≡ o
run_is o = after_nothing o
