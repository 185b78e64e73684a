-- Laws, for the proofs of this crate and of those above it.
-- Laws of blocks: what they mean respects every relation between runs that basic steps have and sequence keeps, and a
-- jump to a later block is that block.
use Rattle.std.proofs.Common.{◌≡◌, ℕ, zero, suc, ◌+◌, ◌-◌, ◌<◌, ◌≤◌, Bool, true, false, List, [], ◌∷◌, drop, Option, Some, None, refl, sym, ap, ◌∙◌, arith}
use Rattle.std.specs.Prelude.{◌==◌, if◌then◌else◌, slice_get}
use Rattle.std.proofs.lemmas.Bool.Decides.{nat_tests}
use Rattle.camelot_values.specs.Value as value
use Rattle.camelot_values.specs.Value.{Value, Values, parts}
use Rattle.camelot_values.specs.Kinds.{DataType, place_of}
use Rattle.camelot_values.specs.Operator.{Operator}
use Rattle.camelot_values.specs.Outcome.{Outcome, Stuck, given}
use Rattle.camelot_values.specs.Runs.{Enter, chosen}
use Rattle.camelot_values.specs.RunLaws.{Relation, Closed, Related, given_related, known_related, diamond_related, chosen_related, operate_related}
use Rattle.grail_blocks.specs.declared.blocks.Place.{Place}
use Rattle.grail_blocks.specs.declared.blocks.Place.TheVariants as place
use Rattle.grail_blocks.specs.declared.blocks.CaseCell.{CaseCell}
use Rattle.grail_blocks.specs.declared.blocks.CaseCell.TheVariants as cell
use Rattle.grail_blocks.specs.Blocks.{Op, Lit, Flag, Copy, Prim, Make, Call, Let, CaseArm, Term, Ret, Tail, Goto, If, Case}
use Rattle.grail_blocks.specs.Running.{Locals, Later, put, values_of, operands, built, op_run, lets_run, put_all, cell_run, arm_run, arm_at, case_run, term_run, Body, block_run, jump_run, blocks_run, jumps_from, from_block, jump_to}

-- two meanings of later blocks are related
abbrev RelatedLater : (ℕ → ℕ → Type 0) → Relation → Later → Later → Type 0
RelatedLater Fine R later later' = (b j k w : ℕ) (env : Locals) → Fine j k → R Value j k (later b j w env) (later' b k w env)

built_related : (Fine : ℕ → ℕ → Type 0) (R : Relation) → Closed Fine R → (c : ℕ) (vs : List Value) (p : Place) (env : Locals) (j k : ℕ)
    → R Value j k (built c vs p env) (built c vs p env)
built_related Fine R closed c vs place.Inline env j k = closed.free Value j k (value.Con c (parts vs)) 0 0
built_related Fine R closed c vs place.New env j k = closed.free Value j k (value.Con c (parts vs)) 1 0
built_related Fine R closed c vs (place.Reuse d) env j k =
    given_related Fine R closed (env d) j k _ _ (λ u. diamond_related Fine R closed u (value.Con c (parts vs)) j k)

operands_related : (Fine : ℕ → ℕ → Type 0) (R : Relation) → Closed Fine R → (op : Operator) (o q : Option Value) (j k : ℕ)
    → R Value j k (operands op o q) (operands op o q)
operands_related Fine R closed op (Some u) (Some v) j k = operate_related Fine R closed op u v j k
operands_related Fine R closed op (Some u) None j k = closed.stuck Value j k
operands_related Fine R closed op None q j k = closed.stuck Value j k

op_related : (Fine : ℕ → ℕ → Type 0) (R : Relation) → Closed Fine R → (enter enter' : Enter) → Related Fine R enter enter'
    → (op : Op) (j k w : ℕ) (env : Locals) → Fine j k
    → R Value j k (op_run enter j w env op) (op_run enter' k w env op)
op_related Fine R closed enter enter' e (Lit z) j k w env f = closed.free Value j k (value.Int z) 0 0
op_related Fine R closed enter enter' e (Flag b) j k w env f = closed.free Value j k (value.Flag b) 0 0
op_related Fine R closed enter enter' e (Copy x) j k w env f = known_related Fine R closed (env x) j k
op_related Fine R closed enter enter' e (Prim op x y) j k w env f = operands_related Fine R closed op (env x) (env y) j k
op_related Fine R closed enter enter' e (Make c args p) j k w env f =
    given_related Fine R closed (values_of env args) j k (λ vs. built c vs p env) (λ vs. built c vs p env) (λ vs. built_related Fine R closed c vs p env j k)
op_related Fine R closed enter enter' e (Call g args) j k w env f =
    given_related Fine R closed (values_of env args) j k (λ vs. enter j w false g vs) (λ vs. enter' k w false g vs) (λ vs. e j k w false g vs f)

lets_related : (Fine : ℕ → ℕ → Type 0) (R : Relation) → Closed Fine R → (enter enter' : Enter) → Related Fine R enter enter'
    → (bs : List Let) (j k w : ℕ) (env : Locals) (next next' : ℕ → Locals → Outcome Value) → Fine j k
    → ((i m : ℕ) (last : Locals) → Fine i m → R Value i m (next i last) (next' m last))
    → R Value j k (lets_run enter bs j w env next) (lets_run enter' bs k w env next')
lets_related Fine R closed enter enter' e [] j k w env next next' f h = h j k env f
lets_related Fine R closed enter enter' e (b ∷ bs) j k w env next next' f h =
    closed.sequence Value Value j k (op_run enter j w env b.op) (op_run enter' k w env b.op) (λ left v. lets_run enter bs left w (put env b.target v) next) (λ left v. lets_run enter' bs left w (put env b.target v) next') f
    (op_related Fine R closed enter enter' e b.op j k w env f)
    (λ c v. lets_related Fine R closed enter enter' e bs (j - c) (k - c) w (put env b.target v) next next' (closed.less j k c f) h)

cell_related : (Fine : ℕ → ℕ → Type 0) (R : Relation) → Closed Fine R → (c : CaseCell) (env : Locals) (j k : ℕ) (next next' : Locals → Outcome Value)
    → ((last : Locals) → R Value j k (next last) (next' last))
    → R Value j k (cell_run c env next) (cell_run c env next')
cell_related Fine R closed cell.Inline env j k next next' h = h env
cell_related Fine R closed cell.Free env j k next next' h = closed.moved Value j k 0 1 (next env) (next' env) (h env)
cell_related Fine R closed cell.Look env j k next next' h = h env
cell_related Fine R closed (cell.Keep d) env j k next next' h = h (put env d value.Dia)

arm_related : (Fine : ℕ → ℕ → Type 0) (R : Relation) → Closed Fine R → (later later' : Later) → RelatedLater Fine R later later'
    → (o : Option CaseArm) (vs : Values) (j k w : ℕ) (env : Locals) → Fine j k
    → R Value j k (arm_run later o vs j w env) (arm_run later' o vs k w env)
arm_related Fine R closed later later' l None vs j k w env f = closed.stuck Value j k
arm_related Fine R closed later later' l (Some a) vs j k w env f =
    given_related Fine R closed (put_all env a.fields vs) j k (λ bound. cell_run a.cell bound (λ last. later a.target j w last)) (λ bound. cell_run a.cell bound (λ last. later' a.target k w last))
    (λ bound. cell_related Fine R closed a.cell bound j k (λ last. later a.target j w last) (λ last. later' a.target k w last) (λ last. l a.target j k w last f))

case_related : (Fine : ℕ → ℕ → Type 0) (R : Relation) → Closed Fine R → (types : List DataType) (later later' : Later)
    → RelatedLater Fine R later later' → (v : Value) (arms : List CaseArm) (j k w : ℕ) (env : Locals) → Fine j k
    → R Value j k (case_run types later v arms j w env) (case_run types later' v arms k w env)
case_related Fine R closed types later later' l (value.Con c vs) arms j k w env f = arm_related Fine R closed later later' l (arm_at arms (place_of types c)) vs j k w env f
case_related Fine R closed types later later' l (value.Int z) arms j k w env f = closed.stuck Value j k
case_related Fine R closed types later later' l (value.Flag b) arms j k w env f = closed.stuck Value j k
case_related Fine R closed types later later' l value.Dia arms j k w env f = closed.stuck Value j k

exit_related : (Fine : ℕ → ℕ → Type 0) (R : Relation) → Closed Fine R → (types : List DataType) (enter enter' : Enter) (later later' : Later)
    → Related Fine R enter enter' → RelatedLater Fine R later later'
    → (term : Term) (j k w : ℕ) (env : Locals) → Fine j k → R Value j k (term_run types enter later term j w env) (term_run types enter' later' term k w env)
exit_related Fine R closed types enter enter' later later' e l (Ret x) j k w env f = known_related Fine R closed (env x) j k
exit_related Fine R closed types enter enter' later later' e l (Tail g args) j k w env f =
    given_related Fine R closed (values_of env args) j k (λ vs. enter j w true g vs) (λ vs. enter' k w true g vs) (λ vs. e j k w true g vs f)
exit_related Fine R closed types enter enter' later later' e l (Goto b) j k w env f = l b j k w env f
exit_related Fine R closed types enter enter' later later' e l (If x a b) j k w env f =
    given_related Fine R closed (env x) j k (λ v. chosen v (later a j w env) (later b j w env)) (λ v. chosen v (later' a k w env) (later' b k w env))
    (λ v. chosen_related Fine R closed v j k _ _ _ _ (l a j k w env f) (l b j k w env f))
exit_related Fine R closed types enter enter' later later' e l (Case x arms) j k w env f =
    given_related Fine R closed (env x) j k (λ v. case_run types later v arms j w env) (λ v. case_run types later' v arms k w env) (λ v. case_related Fine R closed types later later' l v arms j k w env f)

block_related : (Fine : ℕ → ℕ → Type 0) (R : Relation) → Closed Fine R → (types : List DataType) (enter enter' : Enter) (later later' : Later)
    → Related Fine R enter enter' → RelatedLater Fine R later later'
    → (b : Body) (j k w : ℕ) (env : Locals) → Fine j k → R Value j k (block_run types enter later b j w env) (block_run types enter' later' b k w env)
block_related Fine R closed types enter enter' later later' e l b j k w env f =
    lets_related Fine R closed enter enter' e b.lets j k w env (λ left last. term_run types enter later b.term left w last) (λ left last. term_run types enter' later' b.term left w last) f
    (λ i m last g. exit_related Fine R closed types enter enter' later later' e l b.term i m w last g)

pick_related : (R : Relation) (j k : ℕ) (t : Bool) (a b a' b' : Outcome Value) → R Value j k a a' → R Value j k b b'
    → R Value j k (if t then a else b) (if t then a' else b')
pick_related R j k true a b a' b' h g = h
pick_related R j k false a b a' b' h g = g

jump_related : (Fine : ℕ → ℕ → Type 0) (R : Relation) → Closed Fine R → (types : List DataType) (enter enter' : Enter) → Related Fine R enter enter'
    → (first : ℕ) (bs : List Body)
    → RelatedLater Fine R (jump_run types enter first bs) (jump_run types enter' first bs)
jump_related Fine R closed types enter enter' e first [] = λ b j k w env f. closed.stuck Value j k
jump_related Fine R closed types enter enter' e first (block ∷ blocks) = λ b j k w env f.
    pick_related R j k (b == first) _ _ _ _
    (block_related Fine R closed types enter enter' (jump_run types enter (suc first) blocks) (jump_run types enter' (suc first) blocks) e (jump_related Fine R closed types enter enter' e (suc first) blocks) block j k w (block.takes env) f)
    (jump_related Fine R closed types enter enter' e (suc first) blocks b j k w env f)

pub blocks_related : (Fine : ℕ → ℕ → Type 0) (R : Relation) → Closed Fine R → (types : List DataType) (enter enter' : Enter)
    → Related Fine R enter enter' → (bs : List Body) (j k w : ℕ) (env : Locals) → Fine j k
    → R Value j k (blocks_run types enter bs j w env) (blocks_run types enter' bs k w env)
blocks_related Fine R closed types enter enter' e [] j k w env f = closed.stuck Value j k
blocks_related Fine R closed types enter enter' e (b ∷ bs) j k w env f =
    block_related Fine R closed types enter enter' (jump_run types enter 1 bs) (jump_run types enter' 1 bs) e (jump_related Fine R closed types enter enter' e 1 bs) b j k w env f

-- ---- a jump to a later block is that block

jump_found : (types : List DataType) (enter : Enter) (first : ℕ) (bodies : List Body) (i : ℕ) (body : Body) (k w : ℕ) (env : Locals)
    → slice_get bodies i ≡ Some body
    → jump_run types enter first bodies (first + i) k w env ≡ block_run types enter (jump_run types enter (suc (first + i)) (drop (suc i) bodies)) body k w (body.takes env)
jump_found types enter first [] i body k w env h = let e : None ≡ Some body = h in absurd cc
jump_found types enter first (x ∷ xs) zero body k w env h =
    let e : x ≡ body = cc in
    let t : (first + 0 == first) ≡ true = grind (arith, nat_tests) in
    ap (λ b. if b then block_run types enter (jump_run types enter (suc first) xs) x k w (x.takes env) else jump_run types enter (suc first) xs (first + 0) k w env) t
    ∙ ap (λ n. block_run types enter (jump_run types enter (suc n) xs) x k w (x.takes env)) (omega arith)
    ∙ ap (λ y. block_run types enter (jump_run types enter (suc (first + 0)) xs) y k w (y.takes env)) e
jump_found types enter first (x ∷ xs) (suc i) body k w env h =
    let t : (first + suc i == first) ≡ false = grind (arith, nat_tests) in
    ap (λ b. if b then block_run types enter (jump_run types enter (suc first) xs) x k w (x.takes env) else jump_run types enter (suc first) xs (first + suc i) k w env) t
    ∙ ap (λ n. jump_run types enter (suc first) xs n k w env) (omega arith)
    ∙ jump_found types enter (suc first) xs i body k w env h
    ∙ ap (λ n. block_run types enter (jump_run types enter (suc n) (drop (suc i) xs)) body k w (body.takes env)) (omega arith)

jump_missing : (types : List DataType) (enter : Enter) (first : ℕ) (bodies : List Body) (i k w : ℕ) (env : Locals) → slice_get bodies i ≡ None
    → jump_run types enter first bodies (first + i) k w env ≡ Stuck
jump_missing types enter first [] i k w env h = refl
jump_missing types enter first (x ∷ xs) zero k w env h = let e : Some x ≡ None = h in absurd cc
jump_missing types enter first (x ∷ xs) (suc i) k w env h =
    let t : (first + suc i == first) ≡ false = grind (arith, nat_tests) in
    ap (λ b. if b then block_run types enter (jump_run types enter (suc first) xs) x k w (x.takes env) else jump_run types enter (suc first) xs (first + suc i) k w env) t
    ∙ ap (λ n. jump_run types enter (suc first) xs n k w env) (omega arith)
    ∙ jump_missing types enter (suc first) xs i k w env h

get_dropped : {A : Type 0} (xs : List A) (n i : ℕ) → slice_get (drop n xs) i ≡ slice_get xs (n + i)
get_dropped xs zero i = ap (slice_get xs) (omega arith)
get_dropped [] (suc n) i = refl
get_dropped (x ∷ xs) (suc n) i = let e : suc (n + i) ≡ suc n + i = omega arith in get_dropped xs n i ∙ ap (slice_get (x ∷ xs)) e

dropped_twice : {A : Type 0} (xs : List A) (n i : ℕ) → drop i (drop n xs) ≡ drop (n + i) xs
dropped_twice xs zero i = ap (λ m. drop m xs) (omega arith)
dropped_twice {A} [] (suc n) i = drop_nothing i ∙ (let e : suc (n + i) ≡ suc n + i = omega arith in ap (λ m. drop {A = A} m []) e)
  where
    drop_nothing : (i : ℕ) → drop {A = A} i [] ≡ []
    drop_nothing zero = refl
    drop_nothing (suc i) = refl
dropped_twice (x ∷ xs) (suc n) i = let e : suc (n + i) ≡ suc n + i = omega arith in dropped_twice xs n i ∙ ap (λ m. drop m (x ∷ xs)) e

-- A jump from one block to a later one is that block, with what it takes, whatever block it comes from.
pub later_is_block : (types : List DataType) (enter : Enter) (bodies : List Body) (from to k w : ℕ) (env : Locals) → from < to
    → jumps_from types enter bodies from to k w env ≡ jump_to types enter bodies to k w env
later_is_block types enter bodies from to k w env h = by_body (slice_get bodies to) refl
  where
    at : suc from + (to - suc from) ≡ to
    at = omega (arith, h)

    same : slice_get (drop (suc from) bodies) (to - suc from) ≡ slice_get bodies to
    same = get_dropped bodies (suc from) (to - suc from) ∙ ap (slice_get bodies) at

    by_body : (o : Option Body) → slice_get bodies to ≡ o
        → jumps_from types enter bodies from to k w env ≡ given o (λ body. block_run types enter (jumps_from types enter bodies to) body k w (body.takes env))
    by_body None e = ap (λ n. jump_run types enter (suc from) (drop (suc from) bodies) n k w env) (sym at) ∙ jump_missing types enter (suc from) (drop (suc from) bodies) (to - suc from) k w env (same ∙ e)
    by_body (Some body) e = ap (λ n. jump_run types enter (suc from) (drop (suc from) bodies) n k w env) (sym at)
        ∙ jump_found types enter (suc from) (drop (suc from) bodies) (to - suc from) body k w env (same ∙ e)
        ∙ ap (λ n. block_run types enter (jump_run types enter (suc n) (drop (suc (to - suc from)) (drop (suc from) bodies))) body k w (body.takes env)) at
        ∙ ap (λ l. block_run types enter (jump_run types enter (suc to) l) body k w (body.takes env)) (dropped_twice bodies (suc from) (suc (to - suc from)) ∙ (let e : suc from + suc (to - suc from) ≡ suc to = omega (arith, h) in ap (λ n. drop n bodies) e))

below_stuck : (types : List DataType) (enter : Enter) (first : ℕ) (bodies : List Body) (b k w : ℕ) (env : Locals) → b < first
    → jump_run types enter first bodies b k w env ≡ Stuck
below_stuck types enter first [] b k w env h = refl
below_stuck types enter first (x ∷ xs) b k w env h =
    let t : (b == first) ≡ false = grind (arith, nat_tests, h) in
    ap (λ t. if t then block_run types enter (jump_run types enter (suc first) xs) x k w (x.takes env) else jump_run types enter (suc first) xs b k w env) t
    ∙ below_stuck types enter (suc first) xs b k w env (omega (arith, h))

-- A jump to the same or an earlier block is Stuck.
pub back_is_stuck : (types : List DataType) (enter : Enter) (bodies : List Body) (from to k w : ℕ) (env : Locals) → to ≤ from
    → jumps_from types enter bodies from to k w env ≡ Stuck
back_is_stuck types enter bodies from to k w env h = below_stuck types enter (suc from) (drop (suc from) bodies) to k w env (omega (arith, h))

-- A function runs from its first block on.
pub runs_from_first : (types : List DataType) (enter : Enter) (bodies : List Body) (k w : ℕ) (env : Locals)
    → blocks_run types enter bodies k w env ≡ from_block types enter bodies 0 k w env
runs_from_first types enter [] k w env = refl
runs_from_first types enter (x ∷ xs) k w env = refl
