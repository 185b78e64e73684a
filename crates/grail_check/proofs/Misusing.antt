-- What the two faults of use say of the code, by the state in which the check finds them.
use Rattle.std.proofs.Common.{◌≡◌, ℕ, suc, ◌+◌, ◌<◌, Bool, true, false, List, [], ◌∷◌, ◌++◌, length, map, Option, Some, None, refl, sym, ap, ◌∙◌, subst, arith, append_assoc, append-nil, inl, inr, ◌⊎◌}
use Rattle.std.specs.Prelude.{IsTrue, flat_map, slice_get}
use Rattle.std.specs.List.{AllByRecursion, range_with_len}
use Rattle.std.specs.Option.{option_map, option_map_or}
use Rattle.camelot_values.specs.Kinds.{Constructor, DataType, constructor, type_of}
use Rattle.camelot_values.specs.Names.{stands}
use Rattle.camelot_values.specs.declared.kinds.Kind.{Kind}
use Rattle.camelot_values.specs.declared.kinds.Kind.TheVariants as kind
use Rattle.grail_blocks.specs.declared.blocks.Place.{Place}
use Rattle.grail_blocks.specs.declared.blocks.Place.TheVariants as place
use Rattle.grail_blocks.specs.Events.{Wants}
use Rattle.grail_blocks.specs.States.{Status, Unbound, Ready, Spent, State, nothing_bound, use_of, after, at_start, after_let, after_lets}
use Rattle.grail_blocks.specs.StateLaws.{after_append, unbound_was, spent_was, WasUsed, lets_after}
use Rattle.grail_code.specs.Code.{Op, Lit, Flag, Copy, Prim, Make, Call, Let, CaseArm, Term, Ret, Tail, Goto, If, Case, Block, Func, Code}
use Rattle.grail_code.specs.WellFormed.{IsKnownKind, kind_of, is_owned, is_lent, AreNotLent, bound_anew, reads_of, operator_kind, data_type, Ascend, Event, Use, Look, Bind, Binds, taken_by, read_by, argument_events, taken, uses_of, let_events, term_events, bound_by, params_at, jump_events, ways, AreDistinct}
use Rattle.grail_check.specs.declared.fault.CodeKind.{CodeKind}
use Rattle.grail_check.specs.declared.fault.CodeKind.TheVariants as fault
use Rattle.grail_check.specs.declared.fault.CodeFault.{CodeFault}
use Rattle.grail_check.specs.Walk.{Checks, NoMore, Must, Fails, of_entry, use_checks, own_check, operand_checks, operands_checks, again_checks, arguments_checks, taken_checks, IsPlaceOf, target_check, op_checks, let_checks, jump_checks, IsThere, AreThere, IsBlock, ArmIsThere, ArmsCount, LookWhere, AreCellsOf, ArmsBindKinds, arms_jump_checks, arms_checks, term_checks, LendsRightly, cons_checks, types_checks, Walk, At, FirstFault, lets_walk, block_walk, blocks_walk, funcs_walk, walk}
use Rattle.grail_check.specs.Misuse.{events_of, Comes, ToLet, ToEnd, Onward, UsesUnbound, UsesAgain, Happens}

-- ---- kinds of fault

abbrev is_use : CodeKind → Bool
is_use fault.Unbound = true
is_use fault.Spent = true
is_use k = false

-- behind a check whose fault is of another kind
behind : (P : Type 0) (j k : CodeKind) (rest : Checks) → is_use j ≡ false → is_use k ≡ true → Fails (Must P j rest) k → Fails rest k
behind P j k rest u v (inl h) = let e : j ≡ k = h.1 in let q : is_use k ≡ false = subst (λ l. is_use l ≡ false) e u in absurd cc
behind P j k rest u v (inr h) = h.1

-- the state says that the local isn't bound, or is spent
abbrev IsFault : Status → CodeKind → Type 0
IsFault m k = ((m ≡ Unbound) × (k ≡ fault.Unbound)) ⊎ ((m ≡ Spent) × (k ≡ fault.Spent))

unbound_or : (m : Status) → ((m ≡ Unbound → ⊥) → ⊥) → m ≡ Unbound
unbound_or Unbound h = refl
unbound_or Ready h = absurd (h (λ e. absurd cc))
unbound_or Spent h = absurd (h (λ e. absurd cc))

spent_or : (m : Status) → ((m ≡ Spent → ⊥) → ⊥) → m ≡ Spent
spent_or Spent h = refl
spent_or Ready h = absurd (h (λ e. absurd cc))
spent_or Unbound h = absurd (h (λ e. absurd cc))

use_fails : (s : State) (x : ℕ) (rest : Checks) (k : CodeKind) → Fails (use_checks s x rest) k → IsFault (s x) k ⊎ Fails rest k
use_fails s x rest k (inl h) = inl (inl (unbound_or (s x) h.0, sym h.1))
use_fails s x rest k (inr (p, inl h)) = inl (inr (spent_or (s x) h.0, sym h.1))
use_fails s x rest k (inr (p, inr h)) = inr h.1

operand_fails : (types : List DataType) (f : Func) (s : State) (x : ℕ) (q : Kind) (rest : Checks) (k : CodeKind) → is_use k ≡ true
    → Fails (operand_checks types f s x q rest) k → IsFault (s x) k ⊎ Fails rest k
operand_fails types f s x q rest k u h = on (use_fails s x (own_check types f x (Must (kind_of f x ≡ Some q) fault.Kind rest)) k h)
  where
    on : IsFault (s x) k ⊎ Fails (own_check types f x (Must (kind_of f x ≡ Some q) fault.Kind rest)) k → IsFault (s x) k ⊎ Fails rest k
    on (inl e) = inl e
    on (inr g) = inr (behind (kind_of f x ≡ Some q) fault.Kind k rest refl u (behind (is_lent types f x ≡ false) fault.Lent k (Must (kind_of f x ≡ Some q) fault.Kind rest) refl u g))

-- ---- a local that can't be used behind some events

abbrev BadAt : (ℕ → Bool) → List Event → ℕ → CodeKind → Type 0
BadAt h es x k = ((k ≡ fault.Unbound) × (Binds x es → ⊥)) ⊎ ((k ≡ fault.Spent) × WasUsed h es x)

bad_at : (h : ℕ → Bool) (es : List Event) (x : ℕ) (k : CodeKind) → IsFault (after h nothing_bound es x) k → BadAt h es x k
bad_at h es x k (inl f) = inl (f.1, (unbound_was h nothing_bound es x f.0).never)
bad_at h es x k (inr f) = inr (f.1, on (spent_was h nothing_bound es x f.0))
  where
    on : ((Unbound ≡ Spent) × (Binds x es → ⊥)) ⊎ WasUsed h es x → WasUsed h es x
    on (inl g) = absurd (let e : Unbound ≡ Spent = g.0 in cc)
    on (inr g) = g

binds_either : (x : ℕ) (es ds : List Event) → Binds x (es ++ ds) → Binds x es ⊎ Binds x ds
binds_either x [] ds b = inr b
binds_either x (e ∷ es) ds ([], rest, same) = inl ([], es, cc)
binds_either x (e ∷ es) ds (d ∷ front, rest, same) = on (binds_either x es ds (front, rest, cc))
  where
    on : Binds x es ⊎ Binds x ds → Binds x (e ∷ es) ⊎ Binds x ds
    on (inl c) = inl (e ∷ c.0, c.1, ap (λ l. e ∷ l) c.2)
    on (inr c) = inr c

-- events that bind nothing
abbrev BindNothing : List Event → Type 0
BindNothing ds = (x : ℕ) → Binds x ds → ⊥

nothing_in_none : BindNothing []
nothing_in_none x ([], rest, e) = absurd cc
nothing_in_none x (d ∷ front, rest, e) = absurd cc

uses_bind_nothing : (xs : List ℕ) → BindNothing (map Use xs)
uses_bind_nothing [] = nothing_in_none
uses_bind_nothing (y ∷ xs) = λ x b. first (uses_bind_nothing xs) x b
  where
    first : BindNothing (map Use xs) → (x : ℕ) → Binds x (Use y ∷ map Use xs) → ⊥
    first n x ([], rest, e) = absurd cc
    first n x (d ∷ front, rest, e) = n x (front, rest, cc)

looks_bind_nothing : (xs : List ℕ) → BindNothing (map Look xs)
looks_bind_nothing [] = nothing_in_none
looks_bind_nothing (y ∷ xs) = λ x b. first (looks_bind_nothing xs) x b
  where
    first : BindNothing (map Look xs) → (x : ℕ) → Binds x (Look y ∷ map Look xs) → ⊥
    first n x ([], rest, e) = absurd cc
    first n x (d ∷ front, rest, e) = n x (front, rest, cc)

-- it can't be used behind more of them either, where these bind nothing
bad_later : (h : ℕ → Bool) (es ds : List Event) (x : ℕ) (k : CodeKind) → BindNothing ds → BadAt h es x k → BadAt h (es ++ ds) x k
bad_later h es ds x k n (inl b) = inl (b.0, λ c. on (binds_either x es ds c))
  where
    on : Binds x es ⊎ Binds x ds → ⊥
    on (inl c) = b.1 c
    on (inr c) = n x c
bad_later h es ds x k n (inr b) = inr (
  b.0,
  record {
    before = b.1.before;
    between = b.1.between ++ ds;
    is = ap (λ l. l ++ ds) b.1.is ∙ append_assoc b.1.before (Use x ∷ b.1.between) ds;
    owned = b.1.owned;
    never = λ c. on (binds_either x b.1.between ds c);
  },
)
  where
    on : Binds x b.1.between ⊎ Binds x ds → ⊥
    on (inl c) = b.1.never c
    on (inr c) = n x c

-- ---- among the events at a place

-- the local that is wanted there can't be used, behind what comes before the place and in front of it at the place
record Hit (h : ℕ → Bool) (before here : List Event) (k : CodeKind) : Type 0 where
  local : ℕ
  want : Event
  wants : Wants local want
  front : List Event
  rest : List Event
  is : here ≡ front ++ want ∷ rest
  bad : BadAt h (before ++ front) local k

hit_front : (h : ℕ → Bool) (before here more : List Event) (k : CodeKind) → Hit h before here k → Hit h before (here ++ more) k
hit_front h before here more k g = record {
  local = g.local;
  want = g.want;
  wants = g.wants;
  front = g.front;
  rest = g.rest ++ more;
  is = ap (λ l. l ++ more) g.is ∙ append_assoc g.front (g.want ∷ g.rest) more;
  bad = g.bad;
}

hit_back : (h : ℕ → Bool) (before first here : List Event) (k : CodeKind) → Hit h (before ++ first) here k → Hit h before (first ++ here) k
hit_back h before first here k g = record {
  local = g.local;
  want = g.want;
  wants = g.wants;
  front = first ++ g.front;
  rest = g.rest;
  is = ap (λ l. first ++ l) g.is ∙ sym (append_assoc first g.front (g.want ∷ g.rest));
  bad = subst (λ l. BadAt h l g.local k) (append_assoc before first g.front) g.bad;
}

-- the state behind these events
abbrev pub Behind : (ℕ → Bool) → List Event → State → Type 0
Behind h before s = s ≡ after h nothing_bound before

more_behind : (h : ℕ → Bool) (before ds : List Event) (s : State) → Behind h before s → Behind h (before ++ ds) (after h s ds)
more_behind h before ds s e = ap (λ t. after h t ds) e ∙ sym (after_append h nothing_bound before ds)

fault_behind : (h : ℕ → Bool) (before : List Event) (s : State) (x : ℕ) (k : CodeKind) → Behind h before s → IsFault (s x) k → BadAt h before x k
fault_behind h before s x k e f = bad_at h before x k (subst (λ t. IsFault (t x) k) e f)

at_once : (h : ℕ → Bool) (before : List Event) (x : ℕ) (rest : List Event) (k : CodeKind) → BadAt h before x k → Hit h before (Use x ∷ rest) k
at_once h before x rest k b = record { local = x; want = Use x; wants = inl refl; front = []; rest = rest; is = refl; bad = subst (λ l. BadAt h l x k) (sym (append-nil before)) b }

-- ---- arguments

-- among locals that are used in turn, one that can't be
record TakenHit (h : ℕ → Bool) (before : List Event) (xs : List ℕ) (k : CodeKind) : Type 0 where
  front : List ℕ
  local : ℕ
  rest : List ℕ
  is : xs ≡ front ++ local ∷ rest
  bad : BadAt h (before ++ map Use front) local k

-- among locals that are looked at behind these uses, one that can't be
record ReadHit (h : ℕ → Bool) (before : List Event) (ts rs : List ℕ) (k : CodeKind) : Type 0 where
  front : List ℕ
  local : ℕ
  rest : List ℕ
  is : rs ≡ front ++ local ∷ rest
  bad : BadAt h (before ++ map Use ts) local k

uses_split : (xs ys : List ℕ) → map Use (xs ++ ys) ≡ map Use xs ++ map Use ys
uses_split [] ys = refl
uses_split (x ∷ xs) ys = ap (λ l. Use x ∷ l) (uses_split xs ys)

looks_split : (xs ys : List ℕ) → map Look (xs ++ ys) ≡ map Look xs ++ map Look ys
looks_split [] ys = refl
looks_split (x ∷ xs) ys = ap (λ l. Look x ∷ l) (looks_split xs ys)

taken_is_hit : (h : ℕ → Bool) (before : List Event) (xs : List ℕ) (k : CodeKind) → TakenHit h before xs k → Hit h before (map Use xs) k
taken_is_hit h before xs k t = record {
  local = t.local;
  want = Use t.local;
  wants = inl refl;
  front = map Use t.front;
  rest = map Use t.rest;
  is = ap (map Use) t.is ∙ uses_split t.front (t.local ∷ t.rest);
  bad = t.bad;
}

read_is_hit : (h : ℕ → Bool) (before : List Event) (ts rs : List ℕ) (k : CodeKind) → ReadHit h before ts rs k
    → Hit h before (map Use ts ++ map Look rs) k
read_is_hit h before ts rs k t = record {
  local = t.local;
  want = Look t.local;
  wants = inr refl;
  front = map Use ts ++ map Look t.front;
  rest = map Look t.rest;
  is = ap (λ l. map Use ts ++ map Look l) t.is ∙ ap (λ l. map Use ts ++ l) (looks_split t.front (t.local ∷ t.rest)) ∙ sym (append_assoc (map Use ts) (map Look t.front) (Look t.local ∷ map Look t.rest));
  bad = subst (λ l. BadAt h l t.local k) (append_assoc before (map Use ts) (map Look t.front)) (bad_later h (before ++ map Use ts) (map Look t.front) t.local k (looks_bind_nothing t.front) t.bad);
}

-- a hit among arguments, or what is behind them fails
abbrev Arguments : (ℕ → Bool) → List Event → (ts rs : List ℕ) → CodeKind → Checks → Type 0
Arguments h before ts rs k rest = TakenHit h before ts k ⊎ (ReadHit h before ts rs k ⊎ Fails rest k)

taken_now : (h : ℕ → Bool) (before : List Event) (x : ℕ) (xs : List ℕ) (k : CodeKind) → BadAt h before x k → TakenHit h before (x ∷ xs) k
taken_now h before x xs k b = record { front = []; local = x; rest = xs; is = refl; bad = subst (λ l. BadAt h l x k) (sym (append-nil before)) b }

-- behind one use
one_use_later : (h : ℕ → Bool) (before : List Event) (x : ℕ) (ts rs : List ℕ) (k : CodeKind) (rest : Checks)
    → Arguments h (before ++ Use x ∷ []) ts rs k rest → Arguments h before (x ∷ ts) rs k rest
one_use_later h before x ts rs k rest (inl t) = inl (record { front = x ∷ t.front; local = t.local; rest = t.rest; is = ap (λ l. x ∷ l) t.is; bad = subst (λ l. BadAt h l t.local k) (append_assoc before (Use x ∷ []) (map Use t.front)) t.bad })
one_use_later h before x ts rs k rest (inr (inl t)) = inr (inl (record { front = t.front; local = t.local; rest = t.rest; is = t.is; bad = subst (λ l. BadAt h l t.local k) (append_assoc before (Use x ∷ []) (map Use ts)) t.bad }))
one_use_later h before x ts rs k rest (inr (inr f)) = inr (inr f)

-- behind one look
one_look_later : (h : ℕ → Bool) (before : List Event) (x : ℕ) (ts rs : List ℕ) (k : CodeKind) (rest : Checks)
    → Arguments h before ts rs k rest → Arguments h before ts (x ∷ rs) k rest
one_look_later h before x ts rs k rest (inl t) = inl t
one_look_later h before x ts rs k rest (inr (inl t)) = inr (inl (record { front = x ∷ t.front; local = t.local; rest = t.rest; is = ap (λ l. x ∷ l) t.is; bad = t.bad }))
one_look_later h before x ts rs k rest (inr (inr f)) = inr (inr f)

operands_hit : (types : List DataType) (f : Func) (before : List Event) (s : State) (marks : List Bool) (xs : List ℕ) (qs : List Kind) (rest : Checks) (k : CodeKind)
    → Behind (is_owned types f) before s → is_use k ≡ true → length xs ≡ length qs → Fails (operands_checks types f s marks xs qs rest) k
    → Arguments (is_owned types f) before (taken_by marks xs) (read_by marks xs) k rest
operands_hit types f before s [] [] [] rest k e u n h = inr (inr h)
operands_hit types f before s (true ∷ marks) [] [] rest k e u n h = inr (inr h)
operands_hit types f before s (false ∷ marks) [] [] rest k e u n h = inr (inr h)
operands_hit types f before s marks [] (q ∷ qs) rest k e u n h = absurd (omega (arith, n))
operands_hit types f before s marks (x ∷ xs) [] rest k e u n h = absurd (omega (arith, n))
operands_hit types f before s [] (x ∷ xs) (q ∷ qs) rest k e u n h =
    on (λ g. operands_hit types f (before ++ Use x ∷ []) (use_of (is_owned types f) s x) [] xs qs rest k (more_behind (is_owned types f) before (Use x ∷ []) s e) u (omega (arith, n)) g)
    (operand_fails types f s x q (operands_checks types f (use_of (is_owned types f) s x) [] xs qs rest) k u h)
  where
    on : (Fails (operands_checks types f (use_of (is_owned types f) s x) [] xs qs rest) k → Arguments (is_owned types f) (before ++ Use x ∷ []) xs [] k rest)
        → IsFault (s x) k ⊎ Fails (operands_checks types f (use_of (is_owned types f) s x) [] xs qs rest) k → Arguments (is_owned types f) before (x ∷ xs) [] k rest
    on later (inl b) = inl (taken_now (is_owned types f) before x xs k (fault_behind (is_owned types f) before s x k e b))
    on later (inr g) = one_use_later (is_owned types f) before x xs [] k rest (later g)
operands_hit types f before s (false ∷ marks) (x ∷ xs) (q ∷ qs) rest k e u n h =
    on (λ g. operands_hit types f (before ++ Use x ∷ []) (use_of (is_owned types f) s x) marks xs qs rest k (more_behind (is_owned types f) before (Use x ∷ []) s e) u (omega (arith, n)) g)
    (operand_fails types f s x q (operands_checks types f (use_of (is_owned types f) s x) marks xs qs rest) k u h)
  where
    on : (Fails (operands_checks types f (use_of (is_owned types f) s x) marks xs qs rest) k → Arguments (is_owned types f) (before ++ Use x ∷ []) (taken_by marks xs) (read_by marks xs) k rest)
        → IsFault (s x) k ⊎ Fails (operands_checks types f (use_of (is_owned types f) s x) marks xs qs rest) k
        → Arguments (is_owned types f) before (x ∷ taken_by marks xs) (read_by marks xs) k rest
    on later (inl b) = inl (taken_now (is_owned types f) before x (taken_by marks xs) k (fault_behind (is_owned types f) before s x k e b))
    on later (inr g) = one_use_later (is_owned types f) before x (taken_by marks xs) (read_by marks xs) k rest (later g)
operands_hit types f before s (true ∷ marks) (x ∷ xs) (q ∷ qs) rest k e u n h =
    on (λ g. operands_hit types f before s marks xs qs rest k e u (omega (arith, n)) g)
    (use_fails s x (Must (kind_of f x ≡ Some q) fault.Kind (operands_checks types f s marks xs qs rest)) k h)
  where
    on : (Fails (operands_checks types f s marks xs qs rest) k → Arguments (is_owned types f) before (taken_by marks xs) (read_by marks xs) k rest)
        → IsFault (s x) k ⊎ Fails (Must (kind_of f x ≡ Some q) fault.Kind (operands_checks types f s marks xs qs rest)) k
        → Arguments (is_owned types f) before (taken_by marks xs) (x ∷ read_by marks xs) k rest
    on later (inl b) = inr (inl (record {
      front = [];
      local = x;
      rest = read_by marks xs;
      is = refl;
      bad = bad_later (is_owned types f) before (map Use (taken_by marks xs)) x k (uses_bind_nothing (taken_by marks xs)) (fault_behind (is_owned types f) before s x k e b);
    }))
    on later (inr g) = one_look_later (is_owned types f) before x (taken_by marks xs) (read_by marks xs) k rest
        (later (behind (kind_of f x ≡ Some q) fault.Kind k (operands_checks types f s marks xs qs rest) refl u g))

again_hit : (h : ℕ → Bool) (before : List Event) (ts : List ℕ) (s : State) (rs : List ℕ) (rest : Checks) (k : CodeKind) → Behind h (before ++ map Use ts) s
    → Fails (again_checks s rs rest) k → ReadHit h before ts rs k ⊎ Fails rest k
again_hit h before ts s [] rest k e f = inr f
again_hit h before ts s (x ∷ rs) rest k e f = on (λ g. again_hit h before ts s rs rest k e g) (use_fails s x (again_checks s rs rest) k f)
  where
    later : ReadHit h before ts rs k ⊎ Fails rest k → ReadHit h before ts (x ∷ rs) k ⊎ Fails rest k
    later (inl t) = inl (record { front = x ∷ t.front; local = t.local; rest = t.rest; is = ap (λ l. x ∷ l) t.is; bad = t.bad })
    later (inr g) = inr g

    on : (Fails (again_checks s rs rest) k → ReadHit h before ts rs k ⊎ Fails rest k) → IsFault (s x) k ⊎ Fails (again_checks s rs rest) k → ReadHit h before ts (x ∷ rs) k ⊎ Fails rest k
    on go (inl b) = inl (record { front = []; local = x; rest = rs; is = refl; bad = fault_behind h (before ++ map Use ts) s x k e b })
    on go (inr g) = later (go g)

-- uses and then looks are the events of a call's arguments
events_are : (marks : List Bool) (xs : List ℕ) → map Use (taken_by marks xs) ++ map Look (read_by marks xs) ≡ argument_events marks xs
events_are [] xs = append-nil (map Use xs)
events_are (mark ∷ marks) xs = refl

arguments_hit : (types : List DataType) (f : Func) (before : List Event) (s : State) (marks : List Bool) (xs : List ℕ) (qs : List Kind) (rest : Checks) (k : CodeKind)
    → Behind (is_owned types f) before s → is_use k ≡ true → Fails (arguments_checks types f s marks xs qs rest) k
    → Hit (is_owned types f) before (argument_events marks xs) k ⊎ Fails rest k
arguments_hit types f before s marks xs qs rest k e u (inl h) = let j : fault.Arms ≡ k = h.1 in let q : is_use k ≡ false = subst (λ l. is_use l ≡ false) j refl in absurd cc
arguments_hit types f before s marks xs qs rest k e u (inr h) =
    on (operands_hit types f before s marks xs qs (again_checks (after (is_owned types f) s (map Use (taken_by marks xs))) (read_by marks xs) rest) k e u h.0 h.1)
  where
    whole : Hit (is_owned types f) before (map Use (taken_by marks xs) ++ map Look (read_by marks xs)) k → Hit (is_owned types f) before (argument_events marks xs) k
    whole g = subst (λ l. Hit (is_owned types f) before l k) (events_are marks xs) g

    looked : ReadHit (is_owned types f) before (taken_by marks xs) (read_by marks xs) k ⊎ Fails rest k → Hit (is_owned types f) before (argument_events marks xs) k ⊎ Fails rest k
    looked (inl t) = inl (whole (read_is_hit (is_owned types f) before (taken_by marks xs) (read_by marks xs) k t))
    looked (inr g) = inr g

    on : Arguments (is_owned types f) before (taken_by marks xs) (read_by marks xs) k (again_checks (after (is_owned types f) s (map Use (taken_by marks xs))) (read_by marks xs) rest)
        → Hit (is_owned types f) before (argument_events marks xs) k ⊎ Fails rest k
    on (inl t) = inl (whole (hit_front (is_owned types f) before (map Use (taken_by marks xs)) (map Look (read_by marks xs)) k (taken_is_hit (is_owned types f) before (taken_by marks xs) k t)))
    on (inr (inl t)) = inl (whole (read_is_hit (is_owned types f) before (taken_by marks xs) (read_by marks xs) k t))
    on (inr (inr g)) = looked (again_hit (is_owned types f) before (taken_by marks xs) (after (is_owned types f) s (map Use (taken_by marks xs))) (read_by marks xs) rest k
        (more_behind (is_owned types f) before (map Use (taken_by marks xs)) s e) g)

-- ---- lets

no_target : {P : Type 0} (types : List DataType) (f : Func) (x : ℕ) (o : Option Kind) (k : CodeKind) → is_use k ≡ true → Fails (target_check types f x o) k → P
no_target types f x o k u h =
    absurd (behind (is_lent types f x ≡ false) fault.Lent k NoMore refl u (behind ((q : Kind) × (kind_of f x ≡ Some q) × (o ≡ Some q)) fault.Kind k (own_check types f x NoMore) refl u h))

no_entry : {P : Type 0} (k : CodeKind) → is_use k ≡ true → Fails (Must ⊥ fault.NoSuchEntry NoMore) k → P
no_entry k u h = absurd (behind ⊥ fault.NoSuchEntry k NoMore refl u h)

taken_hit : (types : List DataType) (f : Func) (before : List Event) (s : State) (at : Place) (inline : Bool) (rest : Checks) (k : CodeKind)
    → Behind (is_owned types f) before s → is_use k ≡ true → Fails (taken_checks types f s at (Must (IsPlaceOf inline at) fault.Place rest)) k
    → Hit (is_owned types f) before (map Use (taken at)) k ⊎ Fails rest k
taken_hit types f before s place.Inline inline rest k e u h = inr (behind (IsTrue inline) fault.Place k rest refl u h)
taken_hit types f before s place.New inline rest k e u h = inr (behind (inline ≡ false) fault.Place k rest refl u h)
taken_hit types f before s (place.Reuse d) inline rest k e u h = on (operand_fails types f s d kind.Dia (Must (inline ≡ false) fault.Place rest) k u h)
  where
    on : IsFault (s d) k ⊎ Fails (Must (inline ≡ false) fault.Place rest) k → Hit (is_owned types f) before (Use d ∷ []) k ⊎ Fails rest k
    on (inl b) = inl (at_once (is_owned types f) before d [] k (fault_behind (is_owned types f) before s d k e b))
    on (inr g) = inr (behind (inline ≡ false) fault.Place k rest refl u g)

reads_is : (p : Code) (func : ℕ) (callee : Func) → slice_get p.funcs func ≡ Some callee → reads_of p func ≡ callee.reads
reads_is p func callee e = ap (λ o. option_map_or (λ f. f.reads) o []) e

operation_hit : (p : Code) (f : Func) (before : List Event) (s : State) (x : ℕ) (op : Op) (k : CodeKind) → Behind (is_owned p.types f) before s → is_use k ≡ true
    → Fails (op_checks p f s x op) k → Hit (is_owned p.types f) before (uses_of (reads_of p) op) k
operation_hit p f before s x (Lit z) k e u h = no_target p.types f x (Some kind.Int) k u (behind _ fault.Kind k (target_check p.types f x (Some kind.Int)) refl u h)
operation_hit p f before s x (Flag b) k e u h = no_target p.types f x (Some kind.Flag) k u h
operation_hit p f before s x (Copy y) k e u h = on (use_fails s y (own_check p.types f y (target_check p.types f x (kind_of f y))) k h)
  where
    on : IsFault (s y) k ⊎ Fails (own_check p.types f y (target_check p.types f x (kind_of f y))) k → Hit (is_owned p.types f) before (Use y ∷ []) k
    on (inl b) = at_once (is_owned p.types f) before y [] k (fault_behind (is_owned p.types f) before s y k e b)
    on (inr g) = no_target p.types f x (kind_of f y) k u (behind (is_lent p.types f y ≡ false) fault.Lent k (target_check p.types f x (kind_of f y)) refl u g)
operation_hit p f before s x (Prim op left right) k e u h =
    first (operand_fails p.types f s left kind.Int (operand_checks p.types f (use_of (is_owned p.types f) s left) right kind.Int (target_check p.types f x (Some (operator_kind op)))) k u h)
  where
    second : IsFault (use_of (is_owned p.types f) s left right) k ⊎ Fails (target_check p.types f x (Some (operator_kind op))) k → Hit (is_owned p.types f) before (Use left ∷ Use right ∷ []) k
    second (inl b) = hit_back (is_owned p.types f) before (Use left ∷ []) (Use right ∷ []) k
        (at_once (is_owned p.types f) (before ++ Use left ∷ []) right [] k (fault_behind (is_owned p.types f) (before ++ Use left ∷ []) (use_of (is_owned p.types f) s left) right k (more_behind (is_owned p.types f) before (Use left ∷ []) s e) b))
    second (inr g) = no_target p.types f x (Some (operator_kind op)) k u g

    first : IsFault (s left) k ⊎ Fails (operand_checks p.types f (use_of (is_owned p.types f) s left) right kind.Int (target_check p.types f x (Some (operator_kind op)))) k
        → Hit (is_owned p.types f) before (Use left ∷ Use right ∷ []) k
    first (inl b) = at_once (is_owned p.types f) before left (Use right ∷ []) k (fault_behind (is_owned p.types f) before s left k e b)
    first (inr g) = second (operand_fails p.types f (use_of (is_owned p.types f) s left) right kind.Int (target_check p.types f x (Some (operator_kind op))) k u g)
operation_hit p f before s x (Make con args at) k e u h = by_con (constructor p.types con) h
  where
    owner : Option Kind
    owner = option_map kind.Of (type_of p.types con)

    whole : Hit (is_owned p.types f) before (map Use args ++ map Use (taken at)) k → Hit (is_owned p.types f) before (map Use (args ++ taken at)) k
    whole g = subst (λ l. Hit (is_owned p.types f) before l k) (sym (uses_split args (taken at))) g

    by_con : (o : Option Constructor) → Fails (of_entry o fault.NoSuchEntry (λ c. arguments_checks p.types f s [] args c.fields
        (taken_checks p.types f (after (is_owned p.types f) s (map Use args)) at (Must (IsPlaceOf c.inline at) fault.Place (target_check p.types f x owner))))) k
        → Hit (is_owned p.types f) before (map Use (args ++ taken at)) k
    by_con None g = no_entry k u g
    by_con (Some c) g = on (arguments_hit p.types f before s [] args c.fields (taken_checks p.types f (after (is_owned p.types f) s (map Use args)) at (Must (IsPlaceOf c.inline at) fault.Place (target_check p.types f x owner))) k e u g)
      where
        place : Hit (is_owned p.types f) (before ++ map Use args) (map Use (taken at)) k ⊎ Fails (target_check p.types f x owner) k → Hit (is_owned p.types f) before (map Use (args ++ taken at)) k
        place (inl t) = whole (hit_back (is_owned p.types f) before (map Use args) (map Use (taken at)) k t)
        place (inr t) = no_target p.types f x owner k u t

        on : Hit (is_owned p.types f) before (map Use args) k ⊎ Fails (taken_checks p.types f (after (is_owned p.types f) s (map Use args)) at (Must (IsPlaceOf c.inline at) fault.Place (target_check p.types f x owner))) k
            → Hit (is_owned p.types f) before (map Use (args ++ taken at)) k
        on (inl t) = whole (hit_front (is_owned p.types f) before (map Use args) (map Use (taken at)) k t)
        on (inr t) = place (taken_hit p.types f (before ++ map Use args) (after (is_owned p.types f) s (map Use args)) at c.inline (target_check p.types f x owner) k (more_behind (is_owned p.types f) before (map Use args) s e) u t)
operation_hit p f before s x (Call func args) k e u h = by_func (slice_get p.funcs func) refl h
  where
    by_func : (o : Option Func) → slice_get p.funcs func ≡ o
        → Fails (of_entry o fault.NoSuchEntry (λ callee. arguments_checks p.types f s callee.reads args callee.params (target_check p.types f x (Some callee.result)))) k
        → Hit (is_owned p.types f) before (argument_events (reads_of p func) args) k
    by_func None q g = no_entry k u g
    by_func (Some callee) q g = on (arguments_hit p.types f before s callee.reads args callee.params (target_check p.types f x (Some callee.result)) k e u g)
      where
        on : Hit (is_owned p.types f) before (argument_events callee.reads args) k ⊎ Fails (target_check p.types f x (Some callee.result)) k → Hit (is_owned p.types f) before (argument_events (reads_of p func) args) k
        on (inl t) = subst (λ marks. Hit (is_owned p.types f) before (argument_events marks args) k) (sym (reads_is p func callee q)) t
        on (inr t) = no_target p.types f x (Some callee.result) k u t

let_hit : (p : Code) (f : Func) (before : List Event) (s : State) (l : Let) (k : CodeKind) → Behind (is_owned p.types f) before s → is_use k ≡ true
    → Fails (let_checks p f s l) k → Hit (is_owned p.types f) before (uses_of (reads_of p) l.op) k
let_hit p f before s l k e u h = operation_hit p f before s l.target l.op k e u (behind _ fault.NoSuchEntry k (op_checks p f s l.target l.op) refl u h)

-- ---- the end of a block

-- a jump's parameter that can't be used; a jump marks nothing as used
record JumpHit (h : ℕ → Bool) (before : List Event) (xs : List ℕ) (k : CodeKind) : Type 0 where
  front : List ℕ
  local : ℕ
  rest : List ℕ
  is : xs ≡ front ++ local ∷ rest
  bad : BadAt h before local k

jump_is_hit : (h : ℕ → Bool) (before : List Event) (xs : List ℕ) (k : CodeKind) → JumpHit h before xs k → Hit h before (map Use xs) k
jump_is_hit h before xs k t = record {
  local = t.local;
  want = Use t.local;
  wants = inl refl;
  front = map Use t.front;
  rest = map Use t.rest;
  is = ap (map Use) t.is ∙ uses_split t.front (t.local ∷ t.rest);
  bad = bad_later h before (map Use t.front) t.local k (uses_bind_nothing t.front) t.bad;
}

jump_hit : (h : ℕ → Bool) (before : List Event) (s : State) (xs : List ℕ) (rest : Checks) (k : CodeKind) → Behind h before s → Fails (jump_checks s xs rest) k
    → JumpHit h before xs k ⊎ Fails rest k
jump_hit h before s [] rest k e f = inr f
jump_hit h before s (x ∷ xs) rest k e f = on (λ g. jump_hit h before s xs rest k e g) (use_fails s x (jump_checks s xs rest) k f)
  where
    later : JumpHit h before xs k ⊎ Fails rest k → JumpHit h before (x ∷ xs) k ⊎ Fails rest k
    later (inl t) = inl (record { front = x ∷ t.front; local = t.local; rest = t.rest; is = ap (λ l. x ∷ l) t.is; bad = t.bad })
    later (inr g) = inr g

    on : (Fails (jump_checks s xs rest) k → JumpHit h before xs k ⊎ Fails rest k) → IsFault (s x) k ⊎ Fails (jump_checks s xs rest) k → JumpHit h before (x ∷ xs) k ⊎ Fails rest k
    on go (inl b) = inl (record { front = []; local = x; rest = xs; is = refl; bad = fault_behind h before s x k e b })
    on go (inr g) = later (go g)

abbrev arm_way : Func → CaseArm → List Event
arm_way f a = map Bind (bound_by a) ++ jump_events f.blocks a.target

-- on one of the ways on
record Ahead (h : ℕ → Bool) (before : List Event) (ws : List (List Event)) (k : CodeKind) : Type 0 where
  index : ℕ
  way : List Event
  is : slice_get ws index ≡ Some way
  hit : Hit h before way k

arms_hit : (types : List DataType) (f : Func) (before : List Event) (s : State) (arms : List CaseArm) (k : CodeKind) → Behind (is_owned types f) before s
    → Fails (arms_jump_checks types f s arms) k → Ahead (is_owned types f) before (map (arm_way f) arms) k
arms_hit types f before s [] k e h = absurd h
arms_hit types f before s (a ∷ arms) k e h =
    on (λ g. arms_hit types f before s arms k e g)
    (jump_hit (is_owned types f) (before ++ map Bind (bound_by a)) (after (is_owned types f) s (map Bind (bound_by a))) (params_at f.blocks a.target) (arms_jump_checks types f s arms) k
    (more_behind (is_owned types f) before (map Bind (bound_by a)) s e) h)
  where
    later : Ahead (is_owned types f) before (map (arm_way f) arms) k → Ahead (is_owned types f) before (map (arm_way f) (a ∷ arms)) k
    later t = record { index = suc t.index; way = t.way; is = t.is; hit = t.hit }

    on : (Fails (arms_jump_checks types f s arms) k → Ahead (is_owned types f) before (map (arm_way f) arms) k)
        → JumpHit (is_owned types f) (before ++ map Bind (bound_by a)) (params_at f.blocks a.target) k ⊎ Fails (arms_jump_checks types f s arms) k
        → Ahead (is_owned types f) before (map (arm_way f) (a ∷ arms)) k
    on go (inl t) = record {
      index = 0;
      way = arm_way f a;
      is = refl;
      hit = hit_back (is_owned types f) before (map Bind (bound_by a)) (jump_events f.blocks a.target) k (jump_is_hit (is_owned types f) (before ++ map Bind (bound_by a)) (params_at f.blocks a.target) k t);
    }
    on go (inr g) = later (go g)

-- what the end itself uses, or what a way on does behind that
abbrev EndHit : Code → Func → List Event → Term → CodeKind → Type 0
EndHit p f before t k = Hit (is_owned p.types f) before (term_events (reads_of p) t) k ⊎ Ahead (is_owned p.types f) (before ++ term_events (reads_of p) t) (ways f.blocks t) k

plain_hit : (f : Func) (h : ℕ → Bool) (before : List Event) (b : ℕ) (k : CodeKind) → JumpHit h before (params_at f.blocks b) k → Hit h before (jump_events f.blocks b) k
plain_hit f h before b k t = jump_is_hit h before (params_at f.blocks b) k t

case_hit : (p : Code) (f : Func) (before : List Event) (s : State) (x : ℕ) (arms : List CaseArm) (t : DataType) (k : CodeKind) → Behind (is_owned p.types f) before s → is_use k ≡ true
    → Fails (arms_checks p.types f s x arms t) k → EndHit p f before (Case x arms) k
case_hit p f before s x arms t k e u h =
    on (use_fails s x (Must (LookWhere (is_lent p.types f x) arms t.cons) fault.Lent (Must (AreCellsOf arms t.cons) fault.Place (Must (ArmsBindKinds f arms t.cons) fault.Kind
    (Must distinct fault.Header (Must own fault.Lent jumps))))) k (behind (ArmsCount arms t.cons) fault.Arms k (use_checks s x
    (Must (LookWhere (is_lent p.types f x) arms t.cons) fault.Lent (Must (AreCellsOf arms t.cons) fault.Place (Must (ArmsBindKinds f arms t.cons) fault.Kind
    (Must distinct fault.Header (Must own fault.Lent jumps)))))) refl u h))
  where
    distinct : Type 0
    distinct = AllByRecursion (λ a. AreDistinct (bound_by a)) arms

    own : Type 0
    own = AllByRecursion (λ a. AreNotLent p.types f (bound_anew a.cell (bound_by a))) arms

    jumps : Checks
    jumps = arms_jump_checks p.types f (use_of (is_owned p.types f) s x) arms

    on : IsFault (s x) k ⊎ Fails (Must (LookWhere (is_lent p.types f x) arms t.cons) fault.Lent (Must (AreCellsOf arms t.cons) fault.Place (Must (ArmsBindKinds f arms t.cons) fault.Kind
        (Must distinct fault.Header (Must own fault.Lent jumps))))) k → EndHit p f before (Case x arms) k
    on (inl b) = inl (at_once (is_owned p.types f) before x [] k (fault_behind (is_owned p.types f) before s x k e b))
    on (inr g) = inr (arms_hit p.types f (before ++ Use x ∷ []) (use_of (is_owned p.types f) s x) arms k (more_behind (is_owned p.types f) before (Use x ∷ []) s e)
        (behind own fault.Lent k jumps refl u (behind distinct fault.Header k (Must own fault.Lent jumps) refl u
        (behind (ArmsBindKinds f arms t.cons) fault.Kind k (Must distinct fault.Header (Must own fault.Lent jumps)) refl u
        (behind (AreCellsOf arms t.cons) fault.Place k (Must (ArmsBindKinds f arms t.cons) fault.Kind (Must distinct fault.Header (Must own fault.Lent jumps))) refl u
        (behind (LookWhere (is_lent p.types f x) arms t.cons) fault.Lent k (Must (AreCellsOf arms t.cons) fault.Place (Must (ArmsBindKinds f arms t.cons) fault.Kind (Must distinct fault.Header (Must own fault.Lent jumps)))) refl u g))))))

term_hit : (p : Code) (f : Func) (number : ℕ) (before : List Event) (s : State) (t : Term) (k : CodeKind) → Behind (is_owned p.types f) before s → is_use k ≡ true
    → Fails (term_checks p f number s t) k → EndHit p f before t k
term_hit p f number before s (Ret x) k e u h = on (operand_fails p.types f s x f.result NoMore k u (behind (IsThere f x) fault.NoSuchEntry k (operand_checks p.types f s x f.result NoMore) refl u h))
  where
    on : IsFault (s x) k ⊎ Fails NoMore k → EndHit p f before (Ret x) k
    on (inl b) = inl (at_once (is_owned p.types f) before x [] k (fault_behind (is_owned p.types f) before s x k e b))
    on (inr g) = absurd g
term_hit p f number before s (Tail func args) k e u h = by_func (slice_get p.funcs func) refl (behind (AreThere f args) fault.NoSuchEntry k (of_entry (slice_get p.funcs func) fault.NoSuchEntry
    (λ callee. arguments_checks p.types f s callee.reads args callee.params (Must (callee.result ≡ f.result) fault.Kind NoMore))) refl u h)
  where
    by_func : (o : Option Func) → slice_get p.funcs func ≡ o
        → Fails (of_entry o fault.NoSuchEntry (λ callee. arguments_checks p.types f s callee.reads args callee.params (Must (callee.result ≡ f.result) fault.Kind NoMore))) k
        → EndHit p f before (Tail func args) k
    by_func None q g = no_entry k u g
    by_func (Some callee) q g = on (arguments_hit p.types f before s callee.reads args callee.params (Must (callee.result ≡ f.result) fault.Kind NoMore) k e u g)
      where
        on : Hit (is_owned p.types f) before (argument_events callee.reads args) k ⊎ Fails (Must (callee.result ≡ f.result) fault.Kind NoMore) k → EndHit p f before (Tail func args) k
        on (inl t) = inl (subst (λ marks. Hit (is_owned p.types f) before (argument_events marks args) k) (sym (reads_is p func callee q)) t)
        on (inr t) = absurd (behind (callee.result ≡ f.result) fault.Kind k NoMore refl u t)
term_hit p f number before s (Goto b) k e u h =
    on (jump_hit (is_owned p.types f) before s (params_at f.blocks b) NoMore k e (behind (number < b) fault.Backward k (jump_checks s (params_at f.blocks b) NoMore) refl u
    (behind (IsBlock f b) fault.NoSuchEntry k (Must (number < b) fault.Backward (jump_checks s (params_at f.blocks b) NoMore)) refl u h)))
  where
    on : JumpHit (is_owned p.types f) before (params_at f.blocks b) k ⊎ Fails NoMore k → EndHit p f before (Goto b) k
    on (inl t) = inr (record { index = 0; way = jump_events f.blocks b; is = refl; hit = subst (λ l. Hit (is_owned p.types f) l (jump_events f.blocks b) k) (sym (append-nil before)) (plain_hit f (is_owned p.types f) before b k t) })
    on (inr g) = absurd g
term_hit p f number before s (If x first second) k e u h =
    on (operand_fails p.types f s x kind.Flag (jump_checks (use_of (is_owned p.types f) s x) (params_at f.blocks first) (jump_checks (use_of (is_owned p.types f) s x) (params_at f.blocks second) NoMore)) k u
    (behind ((number < first) × (number < second)) fault.Backward k whole refl u (behind (IsThere f x × IsBlock f first × IsBlock f second) fault.NoSuchEntry k (Must ((number < first) × (number < second)) fault.Backward whole) refl u h)))
  where
    whole : Checks
    whole = operand_checks p.types f s x kind.Flag (jump_checks (use_of (is_owned p.types f) s x) (params_at f.blocks first) (jump_checks (use_of (is_owned p.types f) s x) (params_at f.blocks second) NoMore))

    past : List Event
    past = before ++ Use x ∷ []

    there : Behind (is_owned p.types f) past (use_of (is_owned p.types f) s x)
    there = more_behind (is_owned p.types f) before (Use x ∷ []) s e

    other : JumpHit (is_owned p.types f) past (params_at f.blocks second) k ⊎ Fails NoMore k → EndHit p f before (If x first second) k
    other (inl t) = inr (record { index = 1; way = jump_events f.blocks second; is = refl; hit = plain_hit f (is_owned p.types f) past second k t })
    other (inr g) = absurd g

    one : JumpHit (is_owned p.types f) past (params_at f.blocks first) k ⊎ Fails (jump_checks (use_of (is_owned p.types f) s x) (params_at f.blocks second) NoMore) k → EndHit p f before (If x first second) k
    one (inl t) = inr (record { index = 0; way = jump_events f.blocks first; is = refl; hit = plain_hit f (is_owned p.types f) past first k t })
    one (inr g) = other (jump_hit (is_owned p.types f) past (use_of (is_owned p.types f) s x) (params_at f.blocks second) NoMore k there g)

    on : IsFault (s x) k ⊎ Fails (jump_checks (use_of (is_owned p.types f) s x) (params_at f.blocks first) (jump_checks (use_of (is_owned p.types f) s x) (params_at f.blocks second) NoMore)) k
        → EndHit p f before (If x first second) k
    on (inl b) = inl (at_once (is_owned p.types f) before x [] k (fault_behind (is_owned p.types f) before s x k e b))
    on (inr g) = one (jump_hit (is_owned p.types f) past (use_of (is_owned p.types f) s x) (params_at f.blocks first) (jump_checks (use_of (is_owned p.types f) s x) (params_at f.blocks second) NoMore) k there g)
term_hit p f number before s (Case x arms) k e u h = by_type (data_type p.types (kind_of f x)) (behind (AllByRecursion (λ a. number < a.target) arms) fault.Backward k checks refl u
    (behind (IsThere f x × AllByRecursion (ArmIsThere f) arms) fault.NoSuchEntry k (Must (AllByRecursion (λ a. number < a.target) arms) fault.Backward checks) refl u h))
  where
    checks : Checks
    checks = of_entry (data_type p.types (kind_of f x)) fault.Kind (arms_checks p.types f s x arms)

    by_type : (o : Option DataType) → Fails (of_entry o fault.Kind (arms_checks p.types f s x arms)) k → EndHit p f before (Case x arms) k
    by_type None g = absurd (behind ⊥ fault.Kind k NoMore refl u g)
    by_type (Some t) g = case_hit p f before s x arms t k e u g

-- ---- places

abbrev pub Place_of : (func number place : ℕ) → CodeFault → Type 0
Place_of func number place e = e ≡ record { func = func; block = number; place = place; kind = e.kind }

-- what happens at the fault's place in this block
record Struck (p : Code) (f : Func) (b : Block) (func number : ℕ) (e : CodeFault) : Type 0 where
  before : List Event
  here : List Event
  comes : Comes (reads_of p) f b before here e.place
  hit : Hit (is_owned p.types f) before here e.kind
  func_is : e.func ≡ func
  block_is : e.block ≡ number

-- a let that fails, or what is behind all of them
pub record LetHit (p : Code) (f : Func) (func number place : ℕ) (s : State) (ls : List Let) (e : CodeFault) : Type 0 where
  pub earlier : List Let
  pub one : Let
  pub rest : List Let
  pub is : ls ≡ earlier ++ one ∷ rest
  pub fails : Fails (let_checks p f (after_lets (reads_of p) (is_owned p.types f) s earlier) one) e.kind
  pub at : Place_of func number (place + length earlier) e

pub lets_fail : (p : Code) (f : Func) (func number place : ℕ) (s : State) (ls : List Let) (next : State → Walk) (e : CodeFault)
    → FirstFault (lets_walk p f func number place s ls next) e
    → LetHit p f func number place s ls e ⊎ FirstFault (next (after_lets (reads_of p) (is_owned p.types f) s ls)) e
lets_fail p f func number place s [] next e h = inr h
lets_fail p f func number place s (l ∷ ls) next e (inl h) =
    let same : place ≡ place + 0 = omega arith in
    inl (record { earlier = []; one = l; rest = ls; is = refl; fails = h.0; at = subst (λ n. Place_of func number n e) same h.1 })
lets_fail p f func number place s (l ∷ ls) next e (inr h) = on (lets_fail p f func number (suc place) (after_let (reads_of p) (is_owned p.types f) s l) ls next e h.1)
  where
    on : LetHit p f func number (suc place) (after_let (reads_of p) (is_owned p.types f) s l) ls e ⊎ FirstFault (next (after_lets (reads_of p) (is_owned p.types f) (after_let (reads_of p) (is_owned p.types f) s l) ls)) e
        → LetHit p f func number place s (l ∷ ls) e ⊎ FirstFault (next (after_lets (reads_of p) (is_owned p.types f) s (l ∷ ls))) e
    on (inl t) = inl (record {
      earlier = l ∷ t.earlier;
      one = t.one;
      rest = t.rest;
      is = ap (λ m. l ∷ m) t.is;
      fails = t.fails;
      at = let same : suc place + length t.earlier ≡ place + suc (length t.earlier) = omega arith in subst (λ n. Place_of func number n e) same t.at;
    })
    on (inr g) = inr g

-- the state behind these lets is that behind the events
pub lets_behind : (p : Code) (f : Func) (b : Block) (ls : List Let)
    → Behind (is_owned p.types f) (events_of (reads_of p) b ls) (after_lets (reads_of p) (is_owned p.types f) (at_start (is_owned p.types f) b) ls)
lets_behind p f b ls = sym (after_append (is_owned p.types f) nothing_bound (map Bind b.params) (flat_map (let_events (reads_of p)) ls)
    ∙ lets_after (reads_of p) (is_owned p.types f) (at_start (is_owned p.types f) b) ls)

block_struck : (p : Code) (f : Func) (func number : ℕ) (b : Block) (rest : Walk) (e : CodeFault) → is_use e.kind ≡ true
    → FirstFault (block_walk p f func number b rest) e → Struck p f b func number e ⊎ FirstFault rest e
block_struck p f func number b rest e u (inl h) = absurd
    (let starts : Type 0 = Ascend b.params × (number ≡ 0 → b.params ≡ range_with_len 0 (length f.params)) in
    behind starts fault.Header e.kind NoMore refl u (behind (AreThere f b.params) fault.NoSuchEntry e.kind (Must starts fault.Header NoMore) refl u h.0))
block_struck p f func number b rest e u (inr h) = on (lets_fail p f func number 1 (at_start (is_owned p.types f) b) b.lets next e h.1)
  where
    next : State → Walk
    next s = At func number (suc (length b.lets)) (term_checks p f number s b.term) rest

    last : State
    last = after_lets (reads_of p) (is_owned p.types f) (at_start (is_owned p.types f) b) b.lets

    at_end : Place_of func number (suc (length b.lets)) e → EndHit p f (events_of (reads_of p) b b.lets) b.term e.kind → Struck p f b func number e
    at_end q (inl t) = record {
      before = events_of (reads_of p) b b.lets;
      here = term_events (reads_of p) b.term;
      comes = subst (Comes (reads_of p) f b (events_of (reads_of p) b b.lets) (term_events (reads_of p) b.term)) (sym (ap (λ d. d.place) q)) (ToEnd refl refl);
      hit = t;
      func_is = ap (λ d. d.func) q;
      block_is = ap (λ d. d.block) q;
    }
    at_end q (inr t) = record {
      before = events_of (reads_of p) b b.lets;
      here = term_events (reads_of p) b.term ++ t.way;
      comes = subst (Comes (reads_of p) f b (events_of (reads_of p) b b.lets) (term_events (reads_of p) b.term ++ t.way)) (sym (ap (λ d. d.place) q)) (Onward t.index t.way t.is refl refl);
      hit = hit_back (is_owned p.types f) (events_of (reads_of p) b b.lets) (term_events (reads_of p) b.term) t.way e.kind t.hit;
      func_is = ap (λ d. d.func) q;
      block_is = ap (λ d. d.block) q;
    }

    let_place : (t : LetHit p f func number 1 (at_start (is_owned p.types f) b) b.lets e) → suc (length t.earlier) ≡ e.place
    let_place t = let same : suc (length t.earlier) ≡ 1 + length t.earlier = omega arith in same ∙ sym (ap (λ d. d.place) t.at)

    on : LetHit p f func number 1 (at_start (is_owned p.types f) b) b.lets e ⊎ FirstFault (next last) e → Struck p f b func number e ⊎ FirstFault rest e
    on (inl t) = inl (record {
      before = events_of (reads_of p) b t.earlier;
      here = uses_of (reads_of p) t.one.op;
      comes = subst (Comes (reads_of p) f b (events_of (reads_of p) b t.earlier) (uses_of (reads_of p) t.one.op)) (let_place t) (ToLet t.earlier t.rest t.one t.is refl refl);
      hit = let_hit p f (events_of (reads_of p) b t.earlier) (after_lets (reads_of p) (is_owned p.types f) (at_start (is_owned p.types f) b) t.earlier) t.one e.kind (lets_behind p f b t.earlier) u t.fails;
      func_is = ap (λ d. d.func) t.at;
      block_is = ap (λ d. d.block) t.at;
    })
    on (inr (inl g)) = inl (at_end g.1 (term_hit p f number (events_of (reads_of p) b b.lets) last b.term e.kind (lets_behind p f b b.lets) u g.0))
    on (inr (inr g)) = inr g.1

record BlockHit (p : Code) (f : Func) (func number : ℕ) (bs : List Block) (e : CodeFault) : Type 0 where
  index : ℕ
  b : Block
  is : slice_get bs index ≡ Some b
  struck : Struck p f b func (number + index) e

blocks_struck : (p : Code) (f : Func) (func number : ℕ) (bs : List Block) (rest : Walk) (e : CodeFault) → is_use e.kind ≡ true
    → FirstFault (blocks_walk p f func number bs rest) e → BlockHit p f func number bs e ⊎ FirstFault rest e
blocks_struck p f func number [] rest e u h = inr h
blocks_struck p f func number (b ∷ bs) rest e u h =
    on (λ g. blocks_struck p f func (suc number) bs rest e u g) (block_struck p f func number b (blocks_walk p f func (suc number) bs rest) e u h)
  where
    later : BlockHit p f func (suc number) bs e ⊎ FirstFault rest e → BlockHit p f func number (b ∷ bs) e ⊎ FirstFault rest e
    later (inl t) = let same : suc number + t.index ≡ number + suc t.index = omega arith in
        inl (record { index = suc t.index; b = t.b; is = t.is; struck = subst (λ n. Struck p f t.b func n e) same t.struck })
    later (inr g) = inr g

    on : (FirstFault (blocks_walk p f func (suc number) bs rest) e → BlockHit p f func (suc number) bs e ⊎ FirstFault rest e)
        → Struck p f b func number e ⊎ FirstFault (blocks_walk p f func (suc number) bs rest) e → BlockHit p f func number (b ∷ bs) e ⊎ FirstFault rest e
    on go (inl t) = let same : number ≡ number + 0 = omega arith in inl (record { index = 0; b = b; is = refl; struck = subst (λ n. Struck p f b func n e) same t })
    on go (inr g) = later (go g)

record FuncHit (p : Code) (func : ℕ) (fs : List Func) (e : CodeFault) : Type 0 where
  index : ℕ
  f : Func
  is : slice_get fs index ≡ Some f
  block : BlockHit p f (func + index) 0 f.blocks e

funcs_struck : (p : Code) (func : ℕ) (earlier : List (List ℕ)) (fs : List Func) (e : CodeFault) → is_use e.kind ≡ true
    → FirstFault (funcs_walk p func earlier fs) e → FuncHit p func fs e
funcs_struck p func earlier [] e u h = absurd h
funcs_struck p func earlier (f ∷ fs) e u (inl h) =
    absurd
    (let last : Checks = Must (LendsRightly p.types f) fault.Lent NoMore in
    let known : Type 0 = AllByRecursion (IsKnownKind p.types) f.params × IsKnownKind p.types f.result × AllByRecursion (IsKnownKind p.types) f.locals in
    behind (LendsRightly p.types f) fault.Lent e.kind NoMore refl u
    (behind known fault.NoSuchEntry e.kind last refl u (behind (stands earlier f.name ≡ false) fault.Name e.kind (Must known fault.NoSuchEntry last) refl u h.0)))
funcs_struck p func earlier (f ∷ fs) e u (inr h) =
    on (λ g. funcs_struck p (suc func) (earlier ++ f.name ∷ []) fs e u g) (blocks_struck p f func 0 f.blocks (funcs_walk p (suc func) (earlier ++ f.name ∷ []) fs) e u h.1)
  where
    later : FuncHit p (suc func) fs e → FuncHit p func (f ∷ fs) e
    later t = let same : suc func + t.index ≡ func + suc t.index = omega arith in
        record { index = suc t.index; f = t.f; is = t.is; block = subst (λ n. BlockHit p t.f n 0 t.f.blocks e) same t.block }

    on : (FirstFault (funcs_walk p (suc func) (earlier ++ f.name ∷ []) fs) e → FuncHit p (suc func) fs e)
        → BlockHit p f func 0 f.blocks e ⊎ FirstFault (funcs_walk p (suc func) (earlier ++ f.name ∷ []) fs) e → FuncHit p func (f ∷ fs) e
    on go (inl t) = let same : func ≡ func + 0 = omega arith in record { index = 0; f = f; is = refl; block = subst (λ n. BlockHit p f n 0 f.blocks e) same t }
    on go (inr g) = later (go g)

-- a fault of the types is none of use
cons_fail : {P : Type 0} (types : List DataType) (earlier : List (List ℕ)) (cs : List Constructor) (rest : Checks) (k : CodeKind) → is_use k ≡ true → (Fails rest k → P)
    → Fails (cons_checks types earlier cs rest) k → P
cons_fail types earlier [] rest k u go h = go h
cons_fail types earlier (c ∷ cs) rest k u go h = cons_fail types (earlier ++ c.name ∷ []) cs rest k u go (behind (AllByRecursion (IsKnownKind types) c.fields) fault.NoSuchEntry k (cons_checks types (earlier ++ c.name ∷ []) cs rest) refl u
    (behind (stands earlier c.name ≡ false) fault.Name k (Must (AllByRecursion (IsKnownKind types) c.fields) fault.NoSuchEntry (cons_checks types (earlier ++ c.name ∷ []) cs rest)) refl u h))

types_fail : {P : Type 0} (types : List DataType) (earlier cons : List (List ℕ)) (ts : List DataType) (k : CodeKind) → is_use k ≡ true → Fails (types_checks types earlier cons ts) k → P
types_fail types earlier cons [] k u h = absurd h
types_fail types earlier cons (t ∷ ts) k u h =
    cons_fail types cons t.cons (types_checks types (earlier ++ t.name ∷ []) (cons ++ map (λ c. c.name) t.cons) ts) k u
    (λ g. types_fail types (earlier ++ t.name ∷ []) (cons ++ map (λ c. c.name) t.cons) ts k u g)
    (behind (stands earlier t.name ≡ false) fault.Name k (cons_checks types cons t.cons (types_checks types (earlier ++ t.name ∷ []) (cons ++ map (λ c. c.name) t.cons) ts)) refl u h)

struck_in : (p : Code) (e : CodeFault) → is_use e.kind ≡ true → FirstFault (walk p) e → FuncHit p 0 p.funcs e
unfolding walk
struck_in p e u (inl h) = types_fail p.types [] [] p.types e.kind u h.0
struck_in p e u (inr h) = funcs_struck p 0 [] p.funcs e u h.1

-- ---- what the faults of use say

happens : (p : Code) (e : CodeFault) (Bad : Func → List Event → List Event → Type 0) → is_use e.kind ≡ true → FirstFault (walk p) e
    → ((f : Func) (before here : List Event) → Hit (is_owned p.types f) before here e.kind → Bad f before here) → Happens p e.func e.block e.place Bad
happens p e Bad u h bad =
    let g = struck_in p e u h in
    let c = g.block in
    let t = c.struck in
    let i : g.index ≡ e.func = omega (arith, t.func_is) in
    let j : c.index ≡ e.block = omega (arith, t.block_is) in
    record {
      f = g.f;
      function = subst (λ n. slice_get p.funcs n ≡ Some g.f) i g.is;
      b = c.b;
      in_block = subst (λ n. slice_get g.f.blocks n ≡ Some c.b) j c.is;
      before = t.before;
      here = t.here;
      comes = t.comes;
      bad = bad g.f t.before t.here t.hit;
    }

unbound_of : (h : ℕ → Bool) (es : List Event) (x : ℕ) (k : CodeKind) → k ≡ fault.Unbound → BadAt h es x k → Binds x es → ⊥
unbound_of h es x k e (inl b) = b.1
unbound_of h es x k e (inr b) = absurd (let c : fault.Unbound ≡ fault.Spent = sym e ∙ b.0 in cc)

used_of : (h : ℕ → Bool) (es : List Event) (x : ℕ) (k : CodeKind) → k ≡ fault.Spent → BadAt h es x k → WasUsed h es x
used_of h es x k e (inl b) = absurd (let c : fault.Spent ≡ fault.Unbound = sym e ∙ b.0 in cc)
used_of h es x k e (inr b) = b.1

pub unbound_misuse : (p : Code) (e : CodeFault) → e.kind ≡ fault.Unbound → FirstFault (walk p) e
    → Happens p e.func e.block e.place (λ f before here. UsesUnbound before here)
unbound_misuse p e k h = happens p e (λ f before here. UsesUnbound before here) (ap is_use k) h
    (λ f before here t. record { local = t.local; want = t.want; wants = t.wants; front = t.front; rest = t.rest; is = t.is; unbound = unbound_of (is_owned p.types f) (before ++ t.front) t.local e.kind k t.bad })

pub spent_misuse : (p : Code) (e : CodeFault) → e.kind ≡ fault.Spent → FirstFault (walk p) e
    → Happens p e.func e.block e.place (λ f before here. UsesAgain (is_owned p.types f) before here)
spent_misuse p e k h = happens p e (λ f before here. UsesAgain (is_owned p.types f) before here) (ap is_use k) h (λ f before here t. again f before here t)
  where
    again : (f : Func) (before here : List Event) → Hit (is_owned p.types f) before here e.kind → UsesAgain (is_owned p.types f) before here
    again f before here t =
        let w = used_of (is_owned p.types f) (before ++ t.front) t.local e.kind k t.bad in
        record { local = t.local; want = t.want; wants = t.wants; owned = w.owned; front = t.front; rest = t.rest; is = t.is; first = w.before; between = w.between; used = w.is; kept = w.never }
