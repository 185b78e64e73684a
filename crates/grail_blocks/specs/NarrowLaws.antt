-- Laws, for the proofs of this crate and of those above it.
-- What isn't ready isn't looked at: two environments that agree on the ready locals give the same outcome, so that
-- narrowing a jump to the target's parameters changes nothing where each block's uses are ready.
use Rattle.std.proofs.Common.{◌≡◌, ℕ, zero, suc, ◌+◌, Bool, true, false, List, [], ◌∷◌, ◌++◌, map, Option, Some, None, refl, sym, ap, ◌∙◌, subst, arith, inl, inr}
use Rattle.std.specs.Prelude.{◌==◌, ◌||◌, if◌then◌else◌, slice_get, ◌⊎◌}
use Rattle.std.specs.List.{AllByRecursion}
use Rattle.std.specs.Option.{option_map_or}
use Rattle.std.proofs.lemmas.Bool.Decides.{nat_tests}
use Rattle.camelot_values.specs.Value as value
use Rattle.camelot_values.specs.Value.{Value, Values, parts}
use Rattle.camelot_values.specs.Kinds.{DataType, place_of}
use Rattle.camelot_values.specs.Lists.{is_among}
use Rattle.camelot_values.specs.Outcome.{Outcome, known, given, first_then, at_once}
use Rattle.camelot_values.specs.OutcomeLaws.{then_same}
use Rattle.camelot_values.specs.Runs.{Enter, chosen, on_diamond, cell_freed}
use Rattle.grail_blocks.specs.declared.blocks.Place.{Place}
use Rattle.grail_blocks.specs.declared.blocks.Place.TheVariants as place
use Rattle.grail_blocks.specs.declared.blocks.CaseCell.{CaseCell}
use Rattle.grail_blocks.specs.declared.blocks.CaseCell.TheVariants as cell
use Rattle.grail_blocks.specs.Blocks.{Op, Lit, Flag, Copy, Prim, Make, Call, Let, CaseArm, Term, Ret, Tail, Goto, If, Case, Block}
use Rattle.grail_blocks.specs.Running.{Locals, Later, put, narrowed, in_front, values_of, operands, built, op_run, lets_run, put_all, cell_run, arm_run, arm_at, case_run, term_run, narrow, whole, block_run, jump_run, blocks_run}
use Rattle.grail_blocks.specs.Events.{Event, Bind, Reads, taken, operands_of, uses_of, term_uses, term_events, kept_diamond, bound_by, params_at, jump_events, ways}
use Rattle.grail_blocks.specs.States.{State, Ready, Unbound, nothing_bound, bind, use_of, after, AreReady, at_start, after_let, after_lets, at_term, LetsReady, UsesReady}
use Rattle.grail_blocks.specs.StateLaws.{after_append, ready_first, ready_second, bind_ready, all_first, all_second, AllReady, all_used_ready, operands_ready, operands_were_ready, term_operands_ready, term_operands_were_ready}

-- the two agree on what is ready
abbrev pub Agree : State → Locals → Locals → Type 0
Agree s env env' = (x : ℕ) → s x ≡ Ready → env x ≡ env' x

map_append : {A B : Type 0} (f : A → B) (xs ys : List A) → map f (xs ++ ys) ≡ map f xs ++ map f ys
map_append f [] ys = refl
map_append f (x ∷ xs) ys = ap (λ l. f x ∷ l) (map_append f xs ys)

put_agree : (s : State) (t : ℕ) (v : Value) (env env' : Locals) → Agree s env env' → Agree (bind s t) (put env t v) (put env' t v)
put_agree s t v env env' a x e = by_test (t == x) refl (bind_ready s t x e)
  where
    by_test : (b : Bool) → (t == x) ≡ b → (t ≡ x) ⊎ (s x ≡ Ready) → (if b then Some v else env x) ≡ (if b then Some v else env' x)
    by_test true k r = refl
    by_test false k (inl same) = let c : (t == x) ≡ true = grind (arith, nat_tests, same) in let d : false ≡ true = sym k ∙ c in absurd cc
    by_test false k (inr r) = a x r

-- ---- operands

-- the two agree on these locals
abbrev AgreeOn : List ℕ → Locals → Locals → Type 0
AgreeOn xs env env' = AllByRecursion (λ x. env x ≡ env' x) xs

agree_on : (s : State) (xs : List ℕ) (env env' : Locals) → AllReady s xs → Agree s env env' → AgreeOn xs env env'
agree_on s [] env env' r a = tt
agree_on s (x ∷ xs) env env' r a = (a x r.0, agree_on s xs env env' r.1 a)

values_agree : (xs : List ℕ) (env env' : Locals) → AgreeOn xs env env' → values_of env xs ≡ values_of env' xs
values_agree [] env env' a = refl
values_agree (x ∷ xs) env env' a = ap (λ o. in_front o (values_of env xs)) a.0 ∙ ap (in_front (env' x)) (values_agree xs env env' a.1)

among_agree : (xs : List ℕ) (env env' : Locals) → AgreeOn xs env env' → (x : ℕ) → is_among xs x ≡ true → env x ≡ env' x
among_agree [] env env' a x m = absurd cc
among_agree (y ∷ xs) env env' a x m = by_test (λ k. among_agree xs env env' a.1 x k) (y == x) refl m
  where
    by_test : (is_among xs x ≡ true → env x ≡ env' x) → (b : Bool) → (y == x) ≡ b → (b || is_among xs x) ≡ true → env x ≡ env' x
    by_test f true e k = let same : y ≡ x = grind (arith, nat_tests, e) in subst (λ z. env z ≡ env' z) same a.0
    by_test f false e k = f k

built_agree : (con : ℕ) (vs : List Value) (p : Place) (env env' : Locals) → AgreeOn (taken p) env env' → built con vs p env ≡ built con vs p env'
built_agree con vs place.Inline env env' a = refl
built_agree con vs place.New env env' a = refl
built_agree con vs (place.Reuse d) env env' a = ap (λ o. given o (λ v. on_diamond v (at_once (value.Con con (parts vs))))) a.0

given_same : {A B : Type 0} (o : Option A) (next next' : A → Outcome B) → ((x : A) → next x ≡ next' x) → given o next ≡ given o next'
given_same None next next' h = refl
given_same (Some x) next next' h = h x

op_same : (enter : Enter) (k w : ℕ) (env env' : Locals) (op : Op) → AgreeOn (operands_of op) env env' → op_run enter k w env op ≡ op_run enter k w env' op
op_same enter k w env env' (Lit z) a = refl
op_same enter k w env env' (Flag b) a = refl
op_same enter k w env env' (Copy x) a = ap known a.0
op_same enter k w env env' (Prim op x y) a = ap (λ o. operands op o (env y)) a.0 ∙ ap (operands op (env' x)) a.1.0
op_same enter k w env env' (Make con args p) a =
    ap (λ o. given o (λ vs. built con vs p env)) (values_agree args env env' (all_first (λ x. env x ≡ env' x) args (taken p) a))
    ∙ given_same (values_of env' args) (λ vs. built con vs p env) (λ vs. built con vs p env') (λ vs. built_agree con vs p env env' (all_second (λ x. env x ≡ env' x) args (taken p) a))
op_same enter k w env env' (Call func args) a = ap (λ o. given o (λ vs. enter k w false func vs)) (values_agree args env env' a)

op_agree : (reads : Reads) (h : ℕ → Bool) (s : State) (enter : Enter) (k w : ℕ) (env env' : Locals) (op : Op) → AreReady h s (uses_of reads op)
    → Agree s env env' → op_run enter k w env op ≡ op_run enter k w env' op
op_agree reads h s enter k w env env' op r a = op_same enter k w env env' op (agree_on s (operands_of op) env env' (operands_ready reads h s op r) a)

-- ---- lets

let_agree : (reads : Reads) (h : ℕ → Bool) (s : State) (l : Let) (v : Value) (env env' : Locals) → Agree s env env'
    → Agree (after_let reads h s l) (put env l.target v) (put env' l.target v)
let_agree reads h s l v env env' a =
    subst (λ t. Agree t (put env l.target v) (put env' l.target v)) (sym (after_append h s (uses_of reads l.op) (Bind l.target ∷ [])))
    (put_agree (after h s (uses_of reads l.op)) l.target v env env' (λ x e. a x (operands_were_ready reads h s l.op x e)))

lets_agree : (reads : Reads) (h : ℕ → Bool) (s : State) (enter : Enter) (ls : List Let) (k w : ℕ) (env env' : Locals) (next next' : ℕ → Locals → Outcome Value) → LetsReady reads h s ls → Agree s env env'
    → ((j : ℕ) (last last' : Locals) → Agree (after_lets reads h s ls) last last' → next j last ≡ next' j last')
    → lets_run enter ls k w env next ≡ lets_run enter ls k w env' next'
lets_agree reads h s enter [] k w env env' next next' r a f = f k env env' a
lets_agree reads h s enter (l ∷ ls) k w env env' next next' r a f =
    ap (λ o. first_then k o (λ left v. lets_run enter ls left w (put env l.target v) next)) (op_agree reads h s enter k w env env' l.op (ready_first h s (uses_of reads l.op) (Bind l.target ∷ []) r.0) a)
    ∙ then_same k (op_run enter k w env' l.op) (λ left v. lets_run enter ls left w (put env l.target v) next) (λ left v. lets_run enter ls left w (put env' l.target v) next')
    (λ j v. lets_agree reads h (after_let reads h s l) enter ls j w (put env l.target v) (put env' l.target v) next next' r.1 (let_agree reads h s l v env env' a) f)

-- ---- the end of a block

-- a jump with the same values of the target's parameters has the same outcome
abbrev LaterAgree : List Block → Later → Later → Type 0
LaterAgree blocks later later' = (b j w : ℕ) (env env' : Locals) → ((x : ℕ) → is_among (params_at blocks b) x ≡ true → env x ≡ env' x) → later b j w env ≡ later' b j w env'

jump_agree : (h : ℕ → Bool) (blocks : List Block) (later later' : Later) → LaterAgree blocks later later'
    → (s : State) (b j w : ℕ) (env env' : Locals) → AreReady h s (jump_events blocks b) → Agree s env env'
    → later b j w env ≡ later' b j w env'
jump_agree h blocks later later' f s b j w env env' r a = f b j w env env' (among_agree (params_at blocks b) env env' (agree_on s (params_at blocks b) env env' (all_used_ready h s (params_at blocks b) r) a))

put_all_agree : (h : ℕ → Bool) (s : State) (xs : List ℕ) (vs : Values) (env env' : Locals) (next next' : Locals → Outcome Value) → Agree s env env'
    → ((last last' : Locals) → Agree (after h s (map Bind xs)) last last' → next last ≡ next' last')
    → given (put_all env xs vs) next ≡ given (put_all env' xs vs) next'
put_all_agree h s [] value.End env env' next next' a f = f env env' a
put_all_agree h s [] (value.And v vs) env env' next next' a f = refl
put_all_agree h s (x ∷ xs) value.End env env' next next' a f = refl
put_all_agree h s (x ∷ xs) (value.And v vs) env env' next next' a f = put_all_agree h (bind s x) xs vs (put env x v) (put env' x v) next next' (put_agree s x v env env' a) f

cell_agree : (h : ℕ → Bool) (s : State) (c : CaseCell) (env env' : Locals) (next next' : Locals → Outcome Value) → Agree s env env'
    → ((last last' : Locals) → Agree (after h s (map Bind (kept_diamond c))) last last' → next last ≡ next' last') → cell_run c env next ≡ cell_run c env' next'
cell_agree h s cell.Inline env env' next next' a f = f env env' a
cell_agree h s cell.Free env env' next next' a f = ap cell_freed (f env env' a)
cell_agree h s cell.Look env env' next next' a f = f env env' a
cell_agree h s (cell.Keep d) env env' next next' a f = f (put env d value.Dia) (put env' d value.Dia) (put_agree s d value.Dia env env' a)

abbrev arm_way : List Block → CaseArm → List Event
arm_way blocks a = map Bind (bound_by a) ++ jump_events blocks a.target

arm_agree : (h : ℕ → Bool) (blocks : List Block) (later later' : Later) → LaterAgree blocks later later'
    → (s : State) (m : CaseArm) (vs : Values) (k w : ℕ) (env env' : Locals)
    → AreReady h s (arm_way blocks m) → Agree s env env' → arm_run later (Some m) vs k w env ≡ arm_run later' (Some m) vs k w env'
arm_agree h blocks later later' f s m vs k w env env' r a =
    put_all_agree h s m.fields vs env env' (λ bound. cell_run m.cell bound (λ last. later m.target k w last)) (λ bound. cell_run m.cell bound (λ last. later' m.target k w last)) a
    (λ bound bound' b. cell_agree h (after h s (map Bind m.fields)) m.cell bound bound' (λ last. later m.target k w last) (λ last. later' m.target k w last) b
    (λ last last' c. jump_agree h blocks later later' f (after h s (map Bind (bound_by m))) m.target k w last last' (ready_second h s (map Bind (bound_by m)) (jump_events blocks m.target) r)
    (subst (λ t. Agree t last last') (sym (ap (after h s) (map_append Bind m.fields (kept_diamond m.cell)) ∙ after_append h s (map Bind m.fields) (map Bind (kept_diamond m.cell)))) c)))

arms_agree : (h : ℕ → Bool) (blocks : List Block) (later later' : Later) → LaterAgree blocks later later'
    → (s : State) (arms : List CaseArm) (o : Option ℕ) (vs : Values) (k w : ℕ) (env env' : Locals)
    → AllByRecursion (AreReady h s) (map (arm_way blocks) arms) → Agree s env env' → arm_run later (arm_at arms o) vs k w env ≡ arm_run later' (arm_at arms o) vs k w env'
arms_agree h blocks later later' f s arms None vs k w env env' r a = refl
arms_agree h blocks later later' f s [] (Some i) vs k w env env' r a = refl
arms_agree h blocks later later' f s (m ∷ arms) (Some zero) vs k w env env' r a = arm_agree h blocks later later' f s m vs k w env env' r.0 a
arms_agree h blocks later later' f s (m ∷ arms) (Some (suc i)) vs k w env env' r a = arms_agree h blocks later later' f s arms (Some i) vs k w env env' r.1 a

case_agree : (h : ℕ → Bool) (types : List DataType) (blocks : List Block) (later later' : Later) → LaterAgree blocks later later'
    → (s : State) (v : Value) (arms : List CaseArm) (k w : ℕ) (env env' : Locals)
    → AllByRecursion (AreReady h s) (map (arm_way blocks) arms) → Agree s env env' → case_run types later v arms k w env ≡ case_run types later' v arms k w env'
case_agree h types blocks later later' f s (value.Con con vs) arms k w env env' r a = arms_agree h blocks later later' f s arms (place_of types con) vs k w env env' r a
case_agree h types blocks later later' f s (value.Int z) arms k w env env' r a = refl
case_agree h types blocks later later' f s (value.Flag b) arms k w env env' r a = refl
case_agree h types blocks later later' f s value.Dia arms k w env env' r a = refl

chosen_same : (v : Value) (a b a' b' : Outcome Value) → a ≡ a' → b ≡ b' → chosen v a b ≡ chosen v a' b'
chosen_same v a b a' b' e q = ap (λ x. chosen v x b) e ∙ ap (chosen v a') q

term_agree : (reads : Reads) (h : ℕ → Bool) (types : List DataType) (enter : Enter) (blocks : List Block) (later later' : Later)
    → LaterAgree blocks later later' → (s : State) (t : Term) (k w : ℕ) (env env' : Locals)
    → AreReady h s (term_events reads t) → AllByRecursion (AreReady h (after h s (term_events reads t))) (ways blocks t) → Agree s env env'
    → term_run types enter later t k w env ≡ term_run types enter later' t k w env'
term_agree reads h types enter blocks later later' f s t k w env env' r q a =
    by_end t (agree_on s (term_uses t) env env' (term_operands_ready reads h s t r) a) q (λ x e. a x (term_operands_were_ready reads h s t x e))
  where
    by_end : (t : Term) → AgreeOn (term_uses t) env env' → AllByRecursion (AreReady h (after h s (term_events reads t))) (ways blocks t)
        → Agree (after h s (term_events reads t)) env env'
        → term_run types enter later t k w env ≡ term_run types enter later' t k w env'
    by_end (Ret x) o q b = ap known o.0
    by_end (Tail func args) o q b = ap (λ o. given o (λ vs. enter k w true func vs)) (values_agree args env env' o)
    by_end (Goto to) o q b = jump_agree h blocks later later' f s to k w env env' q.0 b
    by_end (If x first second) o q b =
        ap (λ o. given o (λ v. chosen v (later first k w env) (later second k w env))) o.0
        ∙ given_same (env' x) (λ v. chosen v (later first k w env) (later second k w env)) (λ v. chosen v (later' first k w env') (later' second k w env'))
        (λ v. chosen_same v (later first k w env) (later second k w env) (later' first k w env') (later' second k w env')
        (jump_agree h blocks later later' f (use_of h s x) first k w env env' q.0 b) (jump_agree h blocks later later' f (use_of h s x) second k w env env' q.1.0 b))
    by_end (Case x arms) o q b =
        ap (λ o. given o (λ v. case_run types later v arms k w env)) o.0
        ∙ given_same (env' x) (λ v. case_run types later v arms k w env) (λ v. case_run types later' v arms k w env')
        (λ v. case_agree h types blocks later later' f (use_of h s x) v arms k w env env' q b)

-- ---- blocks

block_agree : (reads : Reads) (h : ℕ → Bool) (types : List DataType) (enter : Enter) (blocks : List Block) (later later' : Later)
    → LaterAgree blocks later later' → (b : Block) → UsesReady reads h blocks b → (k w : ℕ) (env env' : Locals)
    → Agree (at_start h b) env env' → block_run types enter later (narrow b) k w env ≡ block_run types enter later' (whole b) k w env'
block_agree reads h types enter blocks later later' f b u k w env env' a =
    lets_agree reads h (at_start h b) enter b.lets k w env env' (λ left last. term_run types enter later b.term left w last) (λ left last. term_run types enter later' b.term left w last) u.lets a
    (λ j last last' c. term_agree reads h types enter blocks later later' f (at_term reads h b) b.term j w last last' u.term u.onward c)

-- what is ready where some locals are bound is one of them, or was ready
pub bound_among : (h : ℕ → Bool) (s : State) (xs : List ℕ) (x : ℕ) → after h s (map Bind xs) x ≡ Ready → (is_among xs x ≡ true) ⊎ (s x ≡ Ready)
bound_among h s [] x e = inr e
bound_among h s (y ∷ xs) x e = either (bound_among h (bind s y) xs x e)
  where
    orb : (a b : Bool) → b ≡ true → (a || b) ≡ true
    orb true b k = refl
    orb false b k = k

    ora : (a b : Bool) → a ≡ true → (a || b) ≡ true
    ora true b k = refl
    ora false b k = absurd cc

    here : (y ≡ x) ⊎ (s x ≡ Ready) → (is_among (y ∷ xs) x ≡ true) ⊎ (s x ≡ Ready)
    here (inl k) = inl (ora (y == x) _ (grind (arith, nat_tests, k)))
    here (inr k) = inr k

    either : (is_among xs x ≡ true) ⊎ (bind s y x ≡ Ready) → (is_among (y ∷ xs) x ≡ true) ⊎ (s x ≡ Ready)
    either (inl k) = inl (orb (y == x) _ k)
    either (inr k) = here (bind_ready s y x k)

narrowed_agree : (h : ℕ → Bool) (b : Block) (env env' : Locals) → ((x : ℕ) → is_among b.params x ≡ true → env x ≡ env' x)
    → Agree (at_start h b) (narrowed b.params env) env'
narrowed_agree h b env env' f x e = either (bound_among h nothing_bound b.params x e)
  where
    either : (is_among b.params x ≡ true) ⊎ (Unbound ≡ Ready) → narrowed b.params env x ≡ env' x
    either (inl k) = ap (λ t. if t then env x else None) k ∙ f x k
    either (inr k) = absurd cc

later_agree : (reads : Reads) (h : ℕ → Bool) (types : List DataType) (enter : Enter) (blocks : List Block)
    → ((number : ℕ) (b : Block) → slice_get blocks number ≡ Some b → UsesReady reads h blocks b)
    → (first : ℕ) (bs : List Block) → ((i : ℕ) → slice_get bs i ≡ slice_get blocks (first + i))
    → LaterAgree blocks (jump_run types enter first (map narrow bs)) (jump_run types enter first (map whole bs))
later_agree reads h types enter blocks each first [] at = λ b j w env env' f. refl
later_agree reads h types enter blocks each first (block ∷ bs) at = λ b j w env env' f. by_test (later_agree reads h types enter blocks each (suc first) bs behind) b j w env env' f (b == first) refl
  where
    behind : (i : ℕ) → slice_get bs i ≡ slice_get blocks (suc first + i)
    behind i = let e : first + suc i ≡ suc first + i = omega arith in at (suc i) ∙ ap (slice_get blocks) e

    here : slice_get blocks first ≡ Some block
    here = let e : first ≡ first + 0 = omega arith in ap (slice_get blocks) e ∙ sym (at 0)

    by_test : LaterAgree blocks (jump_run types enter (suc first) (map narrow bs)) (jump_run types enter (suc first) (map whole bs))
        → (b j w : ℕ) (env env' : Locals)
        → ((x : ℕ) → is_among (params_at blocks b) x ≡ true → env x ≡ env' x) → (t : Bool) → (b == first) ≡ t
        → (if t then block_run types enter (jump_run types enter (suc first) (map narrow bs)) (narrow block) j w (narrowed block.params env) else jump_run types enter (suc first) (map narrow bs) b j w env)
        ≡ (if t then block_run types enter (jump_run types enter (suc first) (map whole bs)) (whole block) j w env' else jump_run types enter (suc first) (map whole bs) b j w env')
    by_test l b j w env env' f true e =
        let same : b ≡ first = grind (arith, nat_tests, e) in
        let at_b : params_at blocks b ≡ block.params = ap (λ o. option_map_or (λ block. block.params) o []) (ap (slice_get blocks) same ∙ here) in
        block_agree reads h types enter blocks (jump_run types enter (suc first) (map narrow bs)) (jump_run types enter (suc first) (map whole bs)) l block (each first block here) j w (narrowed block.params env) env'
        (narrowed_agree h block env env' (λ x k. f x (ap (λ ps. is_among ps x) at_b ∙ k)))
    by_test l b j w env env' f false e = l b j w env env' f

-- Narrowing jumps to the parameters of their targets changes nothing, where each block's uses are ready.
pub narrowing_is_free : (reads : Reads) (h : ℕ → Bool) (types : List DataType) (enter : Enter) (blocks : List Block)
    → ((number : ℕ) (b : Block) → slice_get blocks number ≡ Some b → UsesReady reads h blocks b)
    → (k w : ℕ) (env : Locals) → blocks_run types enter (map narrow blocks) k w env ≡ blocks_run types enter (map whole blocks) k w env
narrowing_is_free reads h types enter [] each k w env = refl
narrowing_is_free reads h types enter (b ∷ bs) each k w env =
    block_agree reads h types enter (b ∷ bs) (jump_run types enter 1 (map narrow bs)) (jump_run types enter 1 (map whole bs)) (later_agree reads h types enter (b ∷ bs) each 1 bs at) b (each 0 b refl) k w env env (λ x e. refl)
  where
    at : (i : ℕ) → slice_get bs i ≡ slice_get (b ∷ bs) (1 + i)
    at i = let e : suc i ≡ 1 + i = omega arith in ap (slice_get (b ∷ bs)) e
