-- Where the live locals are handed on, each use finds its local ready.
use Rattle.std.proofs.Common.{◌≡◌, ℕ, ◌+◌, ◌≤◌, Bool, true, false, List, [], ◌∷◌, ◌++◌, map, refl, sym, ap, ◌∙◌, subst, arith, inl, inr, append-nil}
use Rattle.std.specs.Prelude.{◌==◌, ◌||◌, ◌&&◌, not, if◌then◌else◌, ◌⊎◌}
use Rattle.std.specs.List.{AllByRecursion, list_any}
use Rattle.std.proofs.lemmas.Bool.Decides.{nat_tests}
use Rattle.camelot_values.specs.Lists.{is_among}
use Rattle.grail_blocks.specs.Blocks.{Op, Lit, Flag, Copy, Prim, Make, Call, Let, CaseArm, Term, Ret, Tail, Goto, If, Case, Block}
use Rattle.grail_blocks.specs.Events.{Event, Use, Look, Bind, Reads, taken_by, read_by, argument_events, operands_of, uses_of, let_events, term_uses, term_events, bound_by, params_at, jump_events, ways}
use Rattle.grail_blocks.specs.States.{State, Ready, Spent, nothing_bound, bind, use_of, after, AreReady, after_let, after_lets, LetsReady, UsesReady}
use Rattle.grail_blocks.specs.StateLaws.{after_append, ready_binds, ready_both}
use Rattle.grail_code.specs.Code.{Func}
use Rattle.grail_code.specs.WellFormed.{JumpFits}
use Rattle.normal_form.specs.Normal.{NormalBlock}
use Rattle.normal_form.specs.Live.{Marks, LaterMarks, unless_bound, lets_live, onward_live, term_live, block_live, times, bit, op_taken, op_read, term_taken, term_read, Once, LetsOnce, BlockOnce}
use Rattle.code_gen.proofs.Sorted.{among_times, or_second}

-- what is live is ready
abbrev pub Holds : State → Marks → Type 0
Holds s live = (x : ℕ) → live x ≡ true → s x ≡ Ready

or_first : (a b : Bool) → a ≡ true → (a || b) ≡ true
or_first true b h = refl
or_first false b h = absurd cc

pub or_split : (a b : Bool) → (a || b) ≡ true → (a ≡ true) ⊎ (b ≡ true)
or_split true b h = inl refl
or_split false b h = inr h

-- ---- uses

-- of these locals none that is owned is used twice, or live behind
abbrev Single : (ℕ → Bool) → List ℕ → Marks → Type 0
Single h xs live = (x : ℕ) → h x ≡ true → times x xs + bit (live x) ≤ 1

used_holds : (h : ℕ → Bool) (s : State) (x : ℕ) (xs : List ℕ) (live : Marks) → Single h (x ∷ xs) live → Holds s (λ y. is_among (x ∷ xs) y || live y)
    → Holds (use_of h s x) (λ y. is_among xs y || live y)
used_holds h s x xs live once holds y e = by_test (x == y) (h x) refl refl
  where
    before : s y ≡ Ready
    before = holds y (either (or_split (is_among xs y) (live y) e))
      where
        either : (is_among xs y ≡ true) ⊎ (live y ≡ true) → (((x == y) || is_among xs y) || live y) ≡ true
        either (inl k) = or_first ((x == y) || is_among xs y) (live y) (or_second (x == y) (is_among xs y) k)
        either (inr k) = or_second ((x == y) || is_among xs y) (live y) k

    again : x ≡ y → h y ≡ true → (is_among xs y ≡ true) ⊎ (live y ≡ true) → ⊥
    again same heap (inl k) =
        let few = once y heap in
        let t : (x == y) ≡ true = grind (arith, nat_tests, same) in
        let own = ap (λ b. ◌+◌ (if b then 1 else 0) 0) t in
        let some = among_times xs y k in
        omega (arith, few, own, some)
    again same heap (inr k) =
        let few = once y heap in
        let t : (x == y) ≡ true = grind (arith, nat_tests, same) in
        let own = ap (λ b. ◌+◌ (if b then 1 else 0) 0) t in
        let some = ap bit k in
        omega (arith, few, own, some)

    by_test : (a b : Bool) → (x == y) ≡ a → h x ≡ b → (if a && b then Spent else s y) ≡ Ready
    by_test true true t q = let same : x ≡ y = grind (arith, nat_tests, t) in absurd (again same (ap h (sym same) ∙ q) (or_split (is_among xs y) (live y) e))
    by_test true false t q = before
    by_test false b t q = before

rest_once : (h : ℕ → Bool) (x : ℕ) (xs : List ℕ) (live : Marks) → Single h (x ∷ xs) live → Single h xs live
rest_once h x xs live once y heap = let k = once y heap in omega (arith, k)

pub record Went (h : ℕ → Bool) (s : State) (events : List Event) (live : Marks) : Type 0 where
  pub ready : AreReady h s events
  pub holds : Holds (after h s events) live

uses_went : (h : ℕ → Bool) (s : State) (xs : List ℕ) (live : Marks) → Single h xs live → Holds s (λ y. is_among xs y || live y) → Went h s (map Use xs) live
uses_went h s [] live once holds = record { ready = tt; holds = holds }
uses_went h s (x ∷ xs) live once holds =
    let r = uses_went h (use_of h s x) xs live (rest_once h x xs live once) (used_holds h s x xs live once holds) in
    record { ready = (holds x (or_first ((x == x) || is_among xs x) (live x) (or_first (x == x) (is_among xs x) (let t : (x == x) ≡ true = grind (arith, nat_tests) in t))), r.ready); holds = r.holds }

-- ---- looks

looks_went : (h : ℕ → Bool) (s : State) (xs : List ℕ) (live : Marks) → Holds s (λ y. is_among xs y || live y) → Went h s (map Look xs) live
looks_went h s [] live holds = record { ready = tt; holds = holds }
looks_went h s (x ∷ xs) live holds =
    let r = looks_went h s xs live (λ y e. holds y (behind (x == y) (is_among xs y) (live y) e)) in
    let own : (x == x) ≡ true = grind (arith, nat_tests) in
    record { ready = (holds x (or_first ((x == x) || is_among xs x) (live x) (or_first (x == x) (is_among xs x) own)), r.ready); holds = r.holds }
  where
    behind : (a b c : Bool) → (b || c) ≡ true → ((a || b) || c) ≡ true
    behind true b c e = refl
    behind false b c e = e

-- what is taken, and behind that what is read
abbrev events_by : (taken read : List ℕ) → List Event
events_by taken read = map Use taken ++ map Look read

events_went : (h : ℕ → Bool) (s : State) (taken read : List ℕ) (live : Marks) → Once h taken read live
    → Holds s (λ y. is_among taken y || (is_among read y || live y)) → Went h s (events_by taken read) live
events_went h s taken read live once holds =
    let first = uses_went h s taken (λ y. is_among read y || live y) once holds in
    let second = looks_went h (after h s (map Use taken)) read live first.holds in
    record {
      ready = ready_both h s (map Use taken) (map Look read) first.ready second.ready;
      holds = subst (λ u. Holds u live) (sym (after_append h s (map Use taken) (map Look read))) second.holds;
    }

argument_events_are : (marks : List Bool) (xs : List ℕ) → argument_events marks xs ≡ events_by (taken_by marks xs) (read_by marks xs)
argument_events_are [] xs = sym (append-nil (map Use xs))
argument_events_are (mark ∷ marks) xs = refl

op_events_are : (reads : Reads) (op : Op) → uses_of reads op ≡ events_by (op_taken reads op) (op_read reads op)
op_events_are reads (Lit z) = refl
op_events_are reads (Flag b) = refl
op_events_are reads (Copy x) = refl
op_events_are reads (Prim op x y) = refl
op_events_are reads (Make con args at) = sym (append-nil (map Use (operands_of (Make con args at))))
op_events_are reads (Call func args) = argument_events_are (reads func) args

term_events_are : (reads : Reads) (t : Term) → term_events reads t ≡ events_by (term_taken reads t) (term_read reads t)
term_events_are reads (Ret x) = refl
term_events_are reads (Tail func args) = argument_events_are (reads func) args
term_events_are reads (Goto b) = refl
term_events_are reads (If x first second) = refl
term_events_are reads (Case x arms) = refl

-- what a call takes and what it reads are among its arguments
argument_among : (marks : List Bool) (xs : List ℕ) (y : ℕ) (l : Bool) → (is_among (taken_by marks xs) y || (is_among (read_by marks xs) y || l)) ≡ true
    → (is_among xs y || l) ≡ true
argument_among [] xs y l e = e
argument_among (mark ∷ marks) [] y l e = e
argument_among (true ∷ marks) (x ∷ xs) y l e = second (x == y) (is_among (taken_by marks xs) y) (is_among (read_by marks xs) y) (is_among xs y) l e (argument_among marks xs y l)
  where
    second : (a t r m l : Bool) → (t || ((a || r) || l)) ≡ true → ((t || (r || l)) ≡ true → (m || l) ≡ true) → ((a || m) || l) ≡ true
    second true t r m l e next = refl
    second false t r m l e next = next e
argument_among (false ∷ marks) (x ∷ xs) y l e = first (x == y) (is_among (taken_by marks xs) y) (is_among (read_by marks xs) y) (is_among xs y) l e (argument_among marks xs y l)
  where
    first : (a t r m l : Bool) → ((a || t) || (r || l)) ≡ true → ((t || (r || l)) ≡ true → (m || l) ≡ true) → ((a || m) || l) ≡ true
    first true t r m l e next = refl
    first false t r m l e next = next e

op_among : (reads : Reads) (op : Op) (y : ℕ) (l : Bool) → (is_among (op_taken reads op) y || (is_among (op_read reads op) y || l)) ≡ true
    → (is_among (operands_of op) y || l) ≡ true
op_among reads (Lit z) y l e = e
op_among reads (Flag b) y l e = e
op_among reads (Copy x) y l e = e
op_among reads (Prim op x z) y l e = e
op_among reads (Make con args at) y l e = e
op_among reads (Call func args) y l e = argument_among (reads func) args y l e

term_among : (reads : Reads) (t : Term) (y : ℕ) (l : Bool) → (is_among (term_taken reads t) y || (is_among (term_read reads t) y || l)) ≡ true
    → (is_among (term_uses t) y || l) ≡ true
term_among reads (Ret x) y l e = e
term_among reads (Tail func args) y l e = argument_among (reads func) args y l e
term_among reads (Goto b) y l e = e
term_among reads (If x first second) y l e = e
term_among reads (Case x arms) y l e = e

-- ---- lets

bound_holds : (s : State) (t : ℕ) (live : Marks) → Holds s (unless_bound t live) → Holds (bind s t) live
bound_holds s t live holds y e = by_test (t == y) refl
  where
    by_test : (b : Bool) → (t == y) ≡ b → (if b then Ready else s y) ≡ Ready
    by_test true k = refl
    by_test false k = holds y (ap (λ b. not b && live y) k ∙ e)

let_went : (reads : Reads) (h : ℕ → Bool) (s : State) (l : Let) (live : Marks) → Once h (op_taken reads l.op) (op_read reads l.op) (unless_bound l.target live)
    → Holds s (λ y. is_among (operands_of l.op) y || unless_bound l.target live y)
    → Went h s (let_events reads l) live
let_went reads h s l live once holds =
    let behind = unless_bound l.target live in
    let r = subst (λ es. Went h s es behind) (sym (op_events_are reads l.op))
    (events_went h s (op_taken reads l.op) (op_read reads l.op) behind once (λ y e. holds y (op_among reads l.op y (behind y) e))) in
    record {
      ready = ready_both h s (uses_of reads l.op) (Bind l.target ∷ []) r.ready tt;
      holds = subst (λ u. Holds u live) (sym (after_append h s (uses_of reads l.op) (Bind l.target ∷ []))) (bound_holds (after h s (uses_of reads l.op)) l.target live r.holds);
    }

record LetsWent (reads : Reads) (h : ℕ → Bool) (s : State) (ls : List Let) (live : Marks) : Type 0 where
  ready : LetsReady reads h s ls
  holds : Holds (after_lets reads h s ls) live

lets_went : (reads : Reads) (h : ℕ → Bool) (s : State) (ls : List Let) (live : Marks) → LetsOnce reads h ls live → Holds s (lets_live ls live) → LetsWent reads h s ls live
lets_went reads h s [] live once holds = record { ready = tt; holds = holds }
lets_went reads h s (l ∷ ls) live once holds =
    let first = let_went reads h s l (lets_live ls live) once.0 holds in
    let rest = lets_went reads h (after_let reads h s l) ls live once.1 first.holds in
    record { ready = (first.ready, rest.ready); holds = rest.holds }

-- ---- jumps

-- the jumps of the end of a block go forward, to blocks that are there
abbrev pub Ahead : Func → ℕ → Term → Type 0
Ahead f n (Ret x) = Unit {0}
Ahead f n (Tail func args) = Unit {0}
Ahead f n (Goto b) = JumpFits f n b
Ahead f n (If x first second) = JumpFits f n first × JumpFits f n second
Ahead f n (Case x arms) = AllByRecursion (λ a. JumpFits f n a.target) arms

-- a block's parameters are live at it, and stand once
pub record ParamsLive (blocks : List Block) (later : LaterMarks) (b : ℕ) : Type 0 where
  pub live : (x : ℕ) → is_among (params_at blocks b) x ≡ true → later b x ≡ true
  pub once : (x : ℕ) → times x (params_at blocks b) ≤ 1

jump_ready : (h : ℕ → Bool) (s : State) (blocks : List Block) (later : LaterMarks) (b : ℕ) → ParamsLive blocks later b → Holds s (later b)
    → AreReady h s (jump_events blocks b)
jump_ready h s blocks later b p holds =
    (uses_went h s (params_at blocks b) (λ x. false) (λ x heap. (let k = p.once x in omega (arith, k))) (λ y e. either y (or_split (is_among (params_at blocks b) y) false e))).ready
  where
    either : (y : ℕ) → (is_among (params_at blocks b) y ≡ true) ⊎ (false ≡ true) → s y ≡ Ready
    either y (inl k) = holds y (p.live y k)
    either y (inr k) = absurd cc

-- behind the bindings of an arm
binds_hold : (h : ℕ → Bool) (s : State) (xs : List ℕ) (live : Marks) → Holds s (λ y. not (is_among xs y) && live y) → Holds (after h s (map Bind xs)) live
binds_hold h s [] live holds = holds
binds_hold h s (x ∷ xs) live holds = binds_hold h (bind s x) xs live (λ y e. by_test y (x == y) refl e)
  where
    by_test : (y : ℕ) (b : Bool) → (x == y) ≡ b → (not (is_among xs y) && live y) ≡ true → (if b then Ready else s y) ≡ Ready
    by_test y true t e = refl
    by_test y false t e = holds y (ap (λ b. not (b || is_among xs y) && live y) t ∙ e)

arms_ready : (h : ℕ → Bool) (s : State) (blocks : List Block) (later : LaterMarks) (f : Func) (n : ℕ) (arms : List CaseArm)
    → ((b : ℕ) → JumpFits f n b → ParamsLive blocks later b) → AllByRecursion (λ a. JumpFits f n a.target) arms
    → Holds s (λ x. list_any (λ a. not (is_among (bound_by a) x) && later a.target x) arms) → AllByRecursion (AreReady h s) (map (λ a. map Bind (bound_by a) ++ jump_events blocks a.target) arms)
arms_ready h s blocks later f n [] live ahead holds = tt
arms_ready h s blocks later f n (a ∷ arms) live ahead holds = (
  ready_both h s (map Bind (bound_by a)) (jump_events blocks a.target) (ready_binds h s (bound_by a))
      (jump_ready h (after h s (map Bind (bound_by a))) blocks later a.target (live a.target ahead.0)
      (binds_hold h s (bound_by a) (later a.target)
      (λ y e. holds y (or_first (not (is_among (bound_by a) y) && later a.target y) (list_any (λ a. not (is_among (bound_by a) y) && later a.target y) arms) e)))),
  arms_ready h s blocks later f n arms live ahead.1 (λ y e. holds y (or_second (not (is_among (bound_by a) y) && later a.target y) (list_any (λ a. not (is_among (bound_by a) y) && later a.target y) arms) e)),
)

onward_ready : (h : ℕ → Bool) (s : State) (blocks : List Block) (later : LaterMarks) (f : Func) (n : ℕ) (t : Term)
    → ((b : ℕ) → JumpFits f n b → ParamsLive blocks later b) → Ahead f n t → Holds s (onward_live later t)
    → AllByRecursion (AreReady h s) (ways blocks t)
onward_ready h s blocks later f n (Ret x) live ahead holds = tt
onward_ready h s blocks later f n (Tail func args) live ahead holds = tt
onward_ready h s blocks later f n (Goto b) live ahead holds = (jump_ready h s blocks later b (live b ahead) holds, tt)
onward_ready h s blocks later f n (If x first second) live ahead holds = (
  jump_ready h s blocks later first (live first ahead.0) (λ y e. holds y (or_first (later first y) (later second y) e)),
  (jump_ready h s blocks later second (live second ahead.1) (λ y e. holds y (or_second (later first y) (later second y) e)), tt),
)
onward_ready h s blocks later f n (Case x arms) live ahead holds = arms_ready h s blocks later f n arms live ahead holds

-- ---- a block

-- the parameters of a block are ready at its beginning
start_holds : (h : ℕ → Bool) (params : List ℕ) (live : Marks) → ((x : ℕ) → live x ≡ true → is_among params x ≡ true)
    → Holds (after h nothing_bound (map Bind params)) live
start_holds h params live has = binds_hold h nothing_bound params live (λ y e. absurd (none y (split (is_among params y) (live y) e)))
  where
    split : (a b : Bool) → (not a && b) ≡ true → (a ≡ false) × (b ≡ true)
    split true b h = absurd cc
    split false b h = (refl, h)

    none : (y : ℕ) → (is_among params y ≡ false) × (live y ≡ true) → ⊥
    none y p = let clash : false ≡ true = sym p.0 ∙ has y p.1 in absurd cc

-- A block's uses find their locals ready, where its parameters hold what is live there.
pub block_ready : (reads : Reads) (h : ℕ → Bool) (blocks : List Block) (later : LaterMarks) (f : Func) (n : ℕ) (params : List ℕ) (b : NormalBlock)
    → BlockOnce reads h later b → ((b : ℕ) → JumpFits f n b → ParamsLive blocks later b) → Ahead f n b.term
    → ((x : ℕ) → block_live later b x ≡ true → is_among params x ≡ true) → UsesReady reads h blocks (record { params = params; lets = b.lets; term = b.term })
block_ready reads h blocks later f n params b once live ahead has =
    let s = after h nothing_bound (map Bind params) in
    let lets = lets_went reads h s b.lets (term_live later b.term) once.lets (start_holds h params (block_live later b) has) in
    let end = after_lets reads h s b.lets in
    let term = subst (λ es. Went h end es (onward_live later b.term)) (sym (term_events_are reads b.term))
    (events_went h end (term_taken reads b.term) (term_read reads b.term) (onward_live later b.term) once.term
    (λ y e. lets.holds y (term_among reads b.term y (onward_live later b.term y) e))) in
    record {
      lets = lets.ready;
      term = term.ready;
      onward = onward_ready h (after h end (term_events reads b.term)) blocks later f n b.term live ahead term.holds;
    }
