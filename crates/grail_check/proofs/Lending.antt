-- What the fault of something lent says of the code, by the check that finds it.
use Rattle.std.proofs.Common.{◌≡◌, ℕ, zero, suc, ◌+◌, ◌<◌, Bool, true, false, List, [], ◌∷◌, ◌++◌, length, map, Option, Some, None, refl, sym, ap, ◌∙◌, subst, arith, inl, inr, ◌⊎◌}
use Rattle.std.specs.Prelude.{IsTrue, slice_get, not, ◌&&◌, ◌||◌, ◌==◌, if◌then◌else◌}
use Rattle.std.proofs.lemmas.Bool.Decides.{nat_tests}
use Rattle.std.specs.List.{AllByRecursion, range_with_len}
use Rattle.std.specs.Option.{option_map, option_map_or}
use Rattle.camelot_values.specs.Heap.{is_heap}
use Rattle.camelot_values.specs.Kinds.{Constructor, DataType, constructor, type_of}
use Rattle.camelot_values.specs.Names.{stands}
use Rattle.camelot_values.specs.declared.kinds.Kind.{Kind}
use Rattle.camelot_values.specs.declared.kinds.Kind.TheVariants as kind
use Rattle.grail_blocks.specs.declared.blocks.Place.{Place}
use Rattle.grail_blocks.specs.declared.blocks.Place.TheVariants as place
use Rattle.grail_blocks.specs.declared.blocks.CaseCell.{CaseCell}
use Rattle.grail_blocks.specs.declared.blocks.CaseCell.TheVariants as cell
use Rattle.grail_blocks.specs.States.{Status, Unbound, Ready, Spent, State, nothing_bound, bind, use_of, after, at_start, after_lets}
use Rattle.grail_blocks.specs.StateLaws.{bind_ready, used_ready, uses_ready}
use Rattle.grail_code.specs.Code.{Op, Lit, Flag, Copy, Prim, Make, Call, Let, CaseArm, Term, Ret, Tail, Goto, If, Case, Block, Func, Code}
use Rattle.grail_code.specs.WellFormed.{IsKnownKind, kind_of, is_owned, is_lent, is_marked, AreNotLent, bound_anew, reads_of, operator_kind, data_type, Ascend, Event, Use, Look, Bind, Binds, taken_by, read_by, bound_by, params_at, AreDistinct}
use Rattle.grail_check.specs.declared.fault.CodeKind.{CodeKind}
use Rattle.grail_check.specs.declared.fault.CodeKind.TheVariants as fault
use Rattle.grail_check.specs.declared.fault.CodeFault.{CodeFault}
use Rattle.grail_check.specs.Marked.{first_mark, later_marks, is_look}
use Rattle.grail_check.specs.Walk.{Checks, NoMore, Must, Fails, of_entry, use_checks, own_check, operand_checks, operands_checks, again_checks, arguments_checks, taken_checks, IsPlaceOf, target_check, op_checks, let_checks, jump_checks, IsThere, AreThere, IsBlock, ArmIsThere, ArmsCount, LooksWhere, LookWhere, AreCellsOf, ArmsBindKinds, arms_jump_checks, arms_checks, term_checks, LendsRightly, cons_checks, types_checks, Walk, At, FirstFault, block_walk, blocks_walk, funcs_walk, walk}
use Rattle.grail_check.specs.Misuse.{events_of, HandsOver, LetTakes, Copied, OnLeft, OnRight, PutIn, BuiltIn, Handed, Returned, HandedOn, Asked, LetMisuses, TakesLent, BindsLent, EndMisuses, EndsLent, OpensLent, LooksAtOwned, ArmBindsLent, HeaderMisuses, GivesCells, Unmarked, MisusesAt, AtHeader, AtLet, AtEnd, MisusesLent}
use Rattle.grail_check.proofs.Misusing.{Behind, Place_of, LetHit, lets_fail, lets_behind}

-- ---- kinds of fault

abbrev is_lending : CodeKind → Bool
is_lending fault.Lent = true
is_lending k = false

-- behind a check whose fault is of another kind
past : (P : Type 0) (j : CodeKind) (rest : Checks) → is_lending j ≡ false → Fails (Must P j rest) fault.Lent → P × Fails rest fault.Lent
past P j rest u (inl h) = let e : j ≡ fault.Lent = h.1 in let q : is_lending fault.Lent ≡ false = subst (λ l. is_lending l ≡ false) e u in absurd cc
past P j rest u (inr h) = h

ready_of : (m : Status) → (m ≡ Unbound → ⊥) → (m ≡ Spent → ⊥) → m ≡ Ready
ready_of Unbound h g = absurd (h refl)
ready_of Ready h g = refl
ready_of Spent h g = absurd (g refl)

use_past : (s : State) (x : ℕ) (rest : Checks) → Fails (use_checks s x rest) fault.Lent → (s x ≡ Ready) × Fails rest fault.Lent
use_past s x rest h =
    let unbound : Type 0 = s x ≡ Unbound → ⊥ in
    let spent : Type 0 = s x ≡ Spent → ⊥ in
    let first : unbound × Fails (Must spent fault.Spent rest) fault.Lent = past unbound fault.Unbound (Must spent fault.Spent rest) refl h in
    let second : spent × Fails rest fault.Lent = past spent fault.Spent rest refl first.1 in
    (ready_of (s x) first.0 second.0, second.1)

not_false : (b : Bool) → (b ≡ false → ⊥) → b ≡ true
not_false true h = refl
not_false false h = absurd (h refl)

not_true : (b : Bool) → (b ≡ true → ⊥) → b ≡ false
not_true false h = refl
not_true true h = absurd (h refl)

own_past : (types : List DataType) (f : Func) (x : ℕ) (rest : Checks) → Fails (own_check types f x rest) fault.Lent → IsTrue (is_lent types f x) ⊎ Fails rest fault.Lent
own_past types f x rest (inl h) = inl (not_false (is_lent types f x) h.0)
own_past types f x rest (inr h) = inr h.1

-- the local is lent, and can be used in this state
abbrev IsHeld : List DataType → Func → State → ℕ → Type 0
IsHeld types f s x = (s x ≡ Ready) × IsTrue (is_lent types f x)

operand_past : (types : List DataType) (f : Func) (s : State) (x : ℕ) (q : Kind) (rest : Checks) → Fails (operand_checks types f s x q rest) fault.Lent
    → IsHeld types f s x ⊎ Fails rest fault.Lent
operand_past types f s x q rest h =
    let g : (s x ≡ Ready) × Fails (own_check types f x (Must (kind_of f x ≡ Some q) fault.Kind rest)) fault.Lent = use_past s x (own_check types f x (Must (kind_of f x ≡ Some q) fault.Kind rest)) h in
    on g.0 (own_past types f x (Must (kind_of f x ≡ Some q) fault.Kind rest) g.1)
  where
    on : s x ≡ Ready → IsTrue (is_lent types f x) ⊎ Fails (Must (kind_of f x ≡ Some q) fault.Kind rest) fault.Lent → IsHeld types f s x ⊎ Fails rest fault.Lent
    on r (inl l) = inl (r, l)
    on r (inr g) = inr (past (kind_of f x ≡ Some q) fault.Kind rest refl g).1

-- ---- arguments

-- among arguments, a lent one at a parameter that isn't marked
record TakenLent (types : List DataType) (f : Func) (s : State) (marks : List Bool) (xs : List ℕ) (count : ℕ) : Type 0 where
  number : ℕ
  local : ℕ
  is : slice_get xs number ≡ Some local
  within : number < count
  unmarked : option_map_or (λ mark. mark) (slice_get marks number) false ≡ false
  held : IsHeld types f s local

first_unmarked : (marks : List Bool) → first_mark marks ≡ false → option_map_or (λ mark. mark) (slice_get marks 0) false ≡ false
first_unmarked [] h = refl
first_unmarked (mark ∷ marks) h = h

later_unmarked : (marks : List Bool) (n : ℕ) → option_map_or (λ mark. mark) (slice_get (later_marks marks) n) false ≡ false
    → option_map_or (λ mark. mark) (slice_get marks (suc n)) false ≡ false
later_unmarked [] n h = refl
later_unmarked (mark ∷ marks) n h = h

taken_now : (types : List DataType) (f : Func) (s : State) (marks : List Bool) (x : ℕ) (xs : List ℕ) (count : ℕ) → first_mark marks ≡ false → IsHeld types f s x
    → TakenLent types f s marks (x ∷ xs) (suc count)
taken_now types f s marks x xs count m held = record { number = 0; local = x; is = refl; within = omega arith; unmarked = first_unmarked marks m; held = held }

taken_later : (types : List DataType) (f : Func) (s t : State) (marks : List Bool) (x : ℕ) (xs : List ℕ) (count : ℕ) → ((y : ℕ) → t y ≡ Ready → s y ≡ Ready)
    → TakenLent types f t (later_marks marks) xs count → TakenLent types f s marks (x ∷ xs) (suc count)
taken_later types f s t marks x xs count was k = record {
  number = suc k.number;
  local = k.local;
  is = k.is;
  within = omega (arith, k.within);
  unmarked = later_unmarked marks k.number k.unmarked;
  held = (was k.local k.held.0, k.held.1);
}

-- an operand that is taken, and the others behind it
taken_or_later : (types : List DataType) (f : Func) (s : State) (marks : List Bool) (x : ℕ) (xs : List ℕ) (count : ℕ) (next rest : Checks) → first_mark marks ≡ false
    → (Fails next fault.Lent → TakenLent types f (use_of (is_owned types f) s x) (later_marks marks) xs count ⊎ Fails rest fault.Lent)
    → IsHeld types f s x ⊎ Fails next fault.Lent → TakenLent types f s marks (x ∷ xs) (suc count) ⊎ Fails rest fault.Lent
taken_or_later types f s marks x xs count next rest m go (inl held) = inl (taken_now types f s marks x xs count m held)
taken_or_later types f s marks x xs count next rest m go (inr h) = on (go h)
  where
    on : TakenLent types f (use_of (is_owned types f) s x) (later_marks marks) xs count ⊎ Fails rest fault.Lent → TakenLent types f s marks (x ∷ xs) (suc count) ⊎ Fails rest fault.Lent
    on (inl k) = inl (taken_later types f s (use_of (is_owned types f) s x) marks x xs count (λ y r. used_ready (is_owned types f) s x y r) k)
    on (inr g) = inr g

operands_lent : (types : List DataType) (f : Func) (s : State) (marks : List Bool) (xs : List ℕ) (qs : List Kind) (rest : Checks)
    → Fails (operands_checks types f s marks xs qs rest) fault.Lent → TakenLent types f s marks xs (length qs) ⊎ Fails rest fault.Lent
operands_lent types f s marks [] qs rest h = inr h
operands_lent types f s marks (x ∷ xs) [] rest h = inr h
operands_lent types f s [] (x ∷ xs) (q ∷ qs) rest h =
    taken_or_later types f s [] x xs (length qs) (operands_checks types f (use_of (is_owned types f) s x) [] xs qs rest) rest refl
    (λ g. operands_lent types f (use_of (is_owned types f) s x) [] xs qs rest g)
    (operand_past types f s x q (operands_checks types f (use_of (is_owned types f) s x) [] xs qs rest) h)
operands_lent types f s (false ∷ marks) (x ∷ xs) (q ∷ qs) rest h =
    taken_or_later types f s (false ∷ marks) x xs (length qs) (operands_checks types f (use_of (is_owned types f) s x) marks xs qs rest) rest refl
    (λ g. operands_lent types f (use_of (is_owned types f) s x) marks xs qs rest g)
    (operand_past types f s x q (operands_checks types f (use_of (is_owned types f) s x) marks xs qs rest) h)
operands_lent types f s (true ∷ marks) (x ∷ xs) (q ∷ qs) rest h =
    on (operands_lent types f s marks xs qs rest
    (past (kind_of f x ≡ Some q) fault.Kind (operands_checks types f s marks xs qs rest) refl (use_past s x (Must (kind_of f x ≡ Some q) fault.Kind (operands_checks types f s marks xs qs rest)) h).1).1)
  where
    on : TakenLent types f s marks xs (length qs) ⊎ Fails rest fault.Lent → TakenLent types f s (true ∷ marks) (x ∷ xs) (suc (length qs)) ⊎ Fails rest fault.Lent
    on (inl k) = inl (taken_later types f s s (true ∷ marks) x xs (length qs) (λ y r. r) k)
    on (inr g) = inr g

again_lent : (s : State) (rs : List ℕ) (rest : Checks) → Fails (again_checks s rs rest) fault.Lent → Fails rest fault.Lent
again_lent s [] rest h = h
again_lent s (x ∷ rs) rest h = again_lent s rs rest (use_past s x (again_checks s rs rest) h).1

arguments_lent : (types : List DataType) (f : Func) (s : State) (marks : List Bool) (xs : List ℕ) (qs : List Kind) (rest : Checks)
    → Fails (arguments_checks types f s marks xs qs rest) fault.Lent → TakenLent types f s marks xs (length qs) ⊎ Fails rest fault.Lent
arguments_lent types f s marks xs qs rest h = on (operands_lent types f s marks xs qs again (past (length xs ≡ length qs) fault.Arms (operands_checks types f s marks xs qs again) refl h).1)
  where
    again : Checks
    again = again_checks (after (is_owned types f) s (map Use (taken_by marks xs))) (read_by marks xs) rest

    on : TakenLent types f s marks xs (length qs) ⊎ Fails again fault.Lent → TakenLent types f s marks xs (length qs) ⊎ Fails rest fault.Lent
    on (inl k) = inl k
    on (inr g) = inr (again_lent (after (is_owned types f) s (map Use (taken_by marks xs))) (read_by marks xs) rest g)

-- at a call of this function
hands_over : (p : Code) (f : Func) (s : State) (func : ℕ) (callee : Func) (args : List ℕ) → slice_get p.funcs func ≡ Some callee
    → (k : TakenLent p.types f s callee.reads args (length callee.params)) → HandsOver p func args k.local
hands_over p f s func callee args e k = record { callee = callee; function = e; number = k.number; argument = k.is; parameter = k.within; unmarked = k.unmarked }

-- ---- lets

target_lent : (types : List DataType) (f : Func) (x : ℕ) (o : Option Kind) → Fails (target_check types f x o) fault.Lent → IsTrue (is_lent types f x)
target_lent types f x o h = on (own_past types f x NoMore (past ((q : Kind) × (kind_of f x ≡ Some q) × (o ≡ Some q)) fault.Kind (own_check types f x NoMore) refl h).1)
  where
    on : IsTrue (is_lent types f x) ⊎ Fails NoMore fault.Lent → IsTrue (is_lent types f x)
    on (inl l) = l
    on (inr g) = absurd g

no_entry : {P : Type 0} → Fails (Must ⊥ fault.NoSuchEntry NoMore) fault.Lent → P
no_entry h = absurd (past ⊥ fault.NoSuchEntry NoMore refl h).0

-- the diamond in whose cell is built is lent
record CellLent (types : List DataType) (f : Func) (s : State) (at : Place) : Type 0 where
  local : ℕ
  is : at ≡ place.Reuse local
  held : IsHeld types f s local

cell_lent : (types : List DataType) (f : Func) (s : State) (at : Place) (rest : Checks) → Fails (taken_checks types f s at rest) fault.Lent → CellLent types f s at ⊎ Fails rest fault.Lent
cell_lent types f s place.Inline rest h = inr h
cell_lent types f s place.New rest h = inr h
cell_lent types f s (place.Reuse d) rest h = on (operand_past types f s d kind.Dia rest h)
  where
    on : IsHeld types f s d ⊎ Fails rest fault.Lent → CellLent types f s (place.Reuse d) ⊎ Fails rest fault.Lent
    on (inl held) = inl (record { local = d; is = refl; held = held })
    on (inr g) = inr g

-- what an operation takes that is lent
record OpTakes (p : Code) (f : Func) (s : State) (op : Op) : Type 0 where
  local : ℕ
  held : IsHeld p.types f s local
  takes : LetTakes p local op

abbrev OpLent : Code → Func → State → ℕ → Op → Type 0
OpLent p f s x op = OpTakes p f s op ⊎ IsTrue (is_lent p.types f x)

operation_lent : (p : Code) (f : Func) (s : State) (x : ℕ) (op : Op) → Fails (op_checks p f s x op) fault.Lent → OpLent p f s x op
operation_lent p f s x (Lit z) h = inr (target_lent p.types f x (Some kind.Int) (past _ fault.Kind (target_check p.types f x (Some kind.Int)) refl h).1)
operation_lent p f s x (Flag b) h = inr (target_lent p.types f x (Some kind.Flag) h)
operation_lent p f s x (Copy y) h =
    let g : (s y ≡ Ready) × Fails (own_check p.types f y (target_check p.types f x (kind_of f y))) fault.Lent = use_past s y (own_check p.types f y (target_check p.types f x (kind_of f y))) h in
    on g.0 (own_past p.types f y (target_check p.types f x (kind_of f y)) g.1)
  where
    on : s y ≡ Ready → IsTrue (is_lent p.types f y) ⊎ Fails (target_check p.types f x (kind_of f y)) fault.Lent → OpLent p f s x (Copy y)
    on r (inl l) = inl (record { local = y; held = (r, l); takes = Copied })
    on r (inr g) = inr (target_lent p.types f x (kind_of f y) g)
operation_lent p f s x (Prim op left right) h = first (operand_past p.types f s left kind.Int (operand_checks p.types f (use_of (is_owned p.types f) s left) right kind.Int (target_check p.types f x (Some (operator_kind op)))) h)
  where
    second : IsHeld p.types f (use_of (is_owned p.types f) s left) right ⊎ Fails (target_check p.types f x (Some (operator_kind op))) fault.Lent → OpLent p f s x (Prim op left right)
    second (inl held) = inl (record { local = right; held = (used_ready (is_owned p.types f) s left right held.0, held.1); takes = OnRight op left })
    second (inr g) = inr (target_lent p.types f x (Some (operator_kind op)) g)

    first : IsHeld p.types f s left ⊎ Fails (operand_checks p.types f (use_of (is_owned p.types f) s left) right kind.Int (target_check p.types f x (Some (operator_kind op)))) fault.Lent
        → OpLent p f s x (Prim op left right)
    first (inl held) = inl (record { local = left; held = held; takes = OnLeft op right })
    first (inr g) = second (operand_past p.types f (use_of (is_owned p.types f) s left) right kind.Int (target_check p.types f x (Some (operator_kind op))) g)
operation_lent p f s x (Make con args at) h = by_con (constructor p.types con) h
  where
    owner : Option Kind
    owner = option_map kind.Of (type_of p.types con)

    behind : State
    behind = after (is_owned p.types f) s (map Use args)

    by_con : (o : Option Constructor) → Fails (of_entry o fault.NoSuchEntry (λ c. arguments_checks p.types f s [] args c.fields
        (taken_checks p.types f behind at (Must (IsPlaceOf c.inline at) fault.Place (target_check p.types f x owner))))) fault.Lent → OpLent p f s x (Make con args at)
    by_con None g = no_entry g
    by_con (Some c) g = on (arguments_lent p.types f s [] args c.fields (taken_checks p.types f behind at (Must (IsPlaceOf c.inline at) fault.Place (target_check p.types f x owner))) g)
      where
        place : CellLent p.types f behind at ⊎ Fails (Must (IsPlaceOf c.inline at) fault.Place (target_check p.types f x owner)) fault.Lent → OpLent p f s x (Make con args at)
        place (inl k) = inl (record {
          local = k.local;
          held = (uses_ready (is_owned p.types f) s args k.local k.held.0, k.held.1);
          takes = subst (λ l. LetTakes p k.local (Make con args l)) (sym k.is) (BuiltIn con args);
        })
        place (inr t) = inr (target_lent p.types f x owner (past (IsPlaceOf c.inline at) fault.Place (target_check p.types f x owner) refl t).1)

        on : TakenLent p.types f s [] args (length c.fields) ⊎ Fails (taken_checks p.types f behind at (Must (IsPlaceOf c.inline at) fault.Place (target_check p.types f x owner))) fault.Lent
            → OpLent p f s x (Make con args at)
        on (inl k) = inl (record { local = k.local; held = k.held; takes = PutIn con args at k.number k.is })
        on (inr t) = place (cell_lent p.types f behind at (Must (IsPlaceOf c.inline at) fault.Place (target_check p.types f x owner)) t)
operation_lent p f s x (Call func args) h = by_func (slice_get p.funcs func) refl h
  where
    by_func : (o : Option Func) → slice_get p.funcs func ≡ o
        → Fails (of_entry o fault.NoSuchEntry (λ callee. arguments_checks p.types f s callee.reads args callee.params (target_check p.types f x (Some callee.result)))) fault.Lent
        → OpLent p f s x (Call func args)
    by_func None q g = no_entry g
    by_func (Some callee) q g = on (arguments_lent p.types f s callee.reads args callee.params (target_check p.types f x (Some callee.result)) g)
      where
        on : TakenLent p.types f s callee.reads args (length callee.params) ⊎ Fails (target_check p.types f x (Some callee.result)) fault.Lent → OpLent p f s x (Call func args)
        on (inl k) = inl (record { local = k.local; held = k.held; takes = Handed func args (hands_over p f s func callee args q k) })
        on (inr t) = inr (target_lent p.types f x (Some callee.result) t)

-- what can be used in this state is bound in these events
abbrev KnowsBound : State → List Event → Type 0
KnowsBound s before = (y : ℕ) → s y ≡ Ready → Binds y before

let_lent : (p : Code) (f : Func) (before : List Event) (s : State) (l : Let) → KnowsBound s before → Fails (let_checks p f s l) fault.Lent → LetMisuses p f before l
let_lent p f before s l known h = on (operation_lent p f s l.target l.op (past _ fault.NoSuchEntry (op_checks p f s l.target l.op) refl h).1)
  where
    on : OpLent p f s l.target l.op → LetMisuses p f before l
    on (inl k) = TakesLent k.local k.held.1 (known k.local k.held.0) k.takes
    on (inr t) = BindsLent t

-- ---- the end of a block

jump_lent : (s : State) (xs : List ℕ) (rest : Checks) → Fails (jump_checks s xs rest) fault.Lent → Fails rest fault.Lent
jump_lent s [] rest h = h
jump_lent s (x ∷ xs) rest h = jump_lent s xs rest (use_past s x (jump_checks s xs rest) h).1

no_arms_jump : (types : List DataType) (f : Func) (s : State) (arms : List CaseArm) → Fails (arms_jump_checks types f s arms) fault.Lent → ⊥
no_arms_jump types f s [] h = h
no_arms_jump types f s (a ∷ arms) h =
    no_arms_jump types f s arms (jump_lent (after (is_owned types f) s (map Bind (bound_by a))) (params_at f.blocks a.target) (arms_jump_checks types f s arms) h)

-- an arm that treats its cell otherwise than it may
record LooksWrongly (lent : Bool) (arms : List CaseArm) (cs : List Constructor) : Type 0 where
  number : ℕ
  arm : CaseArm
  is : slice_get arms number ≡ Some arm
  con : Constructor
  of : slice_get cs number ≡ Some con
  wrong : LooksWhere lent con.inline arm.cell → ⊥

looks_or : (lent inline : Bool) (c : CaseCell) → LooksWhere lent inline c ⊎ (LooksWhere lent inline c → ⊥)
looks_or true inline c = by_test (inline || is_look c) refl
  where
    by_test : (b : Bool) → (inline || is_look c) ≡ b → ((inline || is_look c) ≡ true) ⊎ ((inline || is_look c) ≡ true → ⊥)
    by_test true e = inl e
    by_test false e = inr (λ g. let k : false ≡ true = sym e ∙ g in absurd cc)
looks_or false inline c = by_test (is_look c) refl
  where
    by_test : (b : Bool) → is_look c ≡ b → (is_look c ≡ false) ⊎ (is_look c ≡ false → ⊥)
    by_test false e = inl e
    by_test true e = inr (λ g. let k : true ≡ false = sym e ∙ g in absurd cc)

looks_wrongly : (lent : Bool) (arms : List CaseArm) (cs : List Constructor) → (LookWhere lent arms cs → ⊥) → LooksWrongly lent arms cs
looks_wrongly lent [] cs h = absurd (h tt)
looks_wrongly lent (a ∷ arms) [] h = absurd (h tt)
looks_wrongly lent (a ∷ arms) (c ∷ cs) h = on (λ g. looks_wrongly lent arms cs g) (looks_or lent c.inline a.cell)
  where
    on : ((LookWhere lent arms cs → ⊥) → LooksWrongly lent arms cs) → LooksWhere lent c.inline a.cell ⊎ (LooksWhere lent c.inline a.cell → ⊥) → LooksWrongly lent (a ∷ arms) (c ∷ cs)
    on go (inl k) = let t : LooksWrongly lent arms cs = go (λ g. h (k, g)) in record { number = suc t.number; arm = t.arm; is = t.is; con = t.con; of = t.of; wrong = t.wrong }
    on go (inr n) = record { number = 0; arm = a; is = refl; con = c; of = refl; wrong = n }

neither : (a b : Bool) → ((a || b) ≡ true → ⊥) → (a ≡ false) × (b ≡ false)
neither true b h = absurd (h refl)
neither false b h = (refl, not_true b h)

looked : (c : CaseCell) → (is_look c ≡ false → ⊥) → c ≡ cell.Look
looked cell.Look h = refl
looked cell.Inline h = absurd (h refl)
looked cell.Free h = absurd (h refl)
looked (cell.Keep d) h = absurd (h refl)

-- among locals, one that is lent
record AmongLent (types : List DataType) (f : Func) (xs : List ℕ) : Type 0 where
  index : ℕ
  local : ℕ
  is : slice_get xs index ≡ Some local
  lent : IsTrue (is_lent types f local)

among_lent : (types : List DataType) (f : Func) (xs : List ℕ) → (AreNotLent types f xs → ⊥) → AmongLent types f xs
among_lent types f [] h = absurd (h tt)
among_lent types f (x ∷ xs) h = by_test (λ g. among_lent types f xs g) (is_lent types f x) refl
  where
    by_test : ((AreNotLent types f xs → ⊥) → AmongLent types f xs) → (b : Bool) → is_lent types f x ≡ b → AmongLent types f (x ∷ xs)
    by_test go true e = record { index = 0; local = x; is = refl; lent = e }
    by_test go false e = let t : AmongLent types f xs = go (λ g. h (e, g)) in record { index = suc t.index; local = t.local; is = t.is; lent = t.lent }

are_or : (types : List DataType) (f : Func) (xs : List ℕ) → AreNotLent types f xs ⊎ (AreNotLent types f xs → ⊥)
are_or types f [] = inl tt
are_or types f (x ∷ xs) = by_test (is_lent types f x) refl (are_or types f xs)
  where
    by_test : (b : Bool) → is_lent types f x ≡ b → AreNotLent types f xs ⊎ (AreNotLent types f xs → ⊥) → AreNotLent types f (x ∷ xs) ⊎ (AreNotLent types f (x ∷ xs) → ⊥)
    by_test true e r = inr (λ g. let k : true ≡ false = sym e ∙ g.0 in absurd cc)
    by_test false e (inl k) = inl (e, k)
    by_test false e (inr n) = inr (λ g. n g.1)

-- an arm that binds a lent local anew
record BindsWrongly (types : List DataType) (f : Func) (arms : List CaseArm) : Type 0 where
  number : ℕ
  arm : CaseArm
  is : slice_get arms number ≡ Some arm
  among : AmongLent types f (bound_anew arm.cell (bound_by arm))

abbrev BindOwn : List DataType → Func → List CaseArm → Type 0
BindOwn types f arms = AllByRecursion (λ a. AreNotLent types f (bound_anew a.cell (bound_by a))) arms

binds_wrongly : (types : List DataType) (f : Func) (arms : List CaseArm) → (BindOwn types f arms → ⊥) → BindsWrongly types f arms
binds_wrongly types f [] h = absurd (h tt)
binds_wrongly types f (a ∷ arms) h = on (λ g. binds_wrongly types f arms g) (are_or types f (bound_anew a.cell (bound_by a)))
  where
    on : ((BindOwn types f arms → ⊥) → BindsWrongly types f arms) → AreNotLent types f (bound_anew a.cell (bound_by a)) ⊎ (AreNotLent types f (bound_anew a.cell (bound_by a)) → ⊥)
        → BindsWrongly types f (a ∷ arms)
    on go (inl k) = let t : BindsWrongly types f arms = go (λ g. h (k, g)) in record { number = suc t.number; arm = t.arm; is = t.is; among = t.among }
    on go (inr n) = record { number = 0; arm = a; is = refl; among = among_lent types f (bound_anew a.cell (bound_by a)) n }

-- what is bound anew is bound, by an arm that doesn't look
anew_is : (types : List DataType) (f : Func) (c : CaseCell) (xs : List ℕ) → AmongLent types f (bound_anew c xs) → (is_look c ≡ false) × AmongLent types f xs
anew_is types f cell.Inline xs k = (refl, k)
anew_is types f cell.Free xs k = (refl, k)
anew_is types f (cell.Keep d) xs k = (refl, k)
anew_is types f cell.Look xs k = let none : None ≡ Some k.local = k.is in absurd cc

case_lent : (p : Code) (f : Func) (before : List Event) (s : State) (x : ℕ) (arms : List CaseArm) (t : DataType) → data_type p.types (kind_of f x) ≡ Some t → KnowsBound s before
    → Fails (arms_checks p.types f s x arms t) fault.Lent → EndMisuses p f before (Case x arms)
case_lent p f before s x arms t e known h =
    let counted : ArmsCount arms t.cons × Fails (use_checks s x looks) fault.Lent = past (ArmsCount arms t.cons) fault.Arms (use_checks s x looks) refl h in
    let used : (s x ≡ Ready) × Fails looks fault.Lent = use_past s x looks counted.1 in
    on (known x used.0) used.1
  where
    jumps : Checks
    jumps = arms_jump_checks p.types f (use_of (is_owned p.types f) s x) arms

    distinct : Type 0
    distinct = AllByRecursion (λ a. AreDistinct (bound_by a)) arms

    cells : Checks
    cells = Must (AreCellsOf arms t.cons) fault.Place (Must (ArmsBindKinds f arms t.cons) fault.Kind (Must distinct fault.Header (Must (BindOwn p.types f arms) fault.Lent jumps)))

    looks : Checks
    looks = Must (LookWhere (is_lent p.types f x) arms t.cons) fault.Lent cells

    wrongly : Binds x before → (b : Bool) → is_lent p.types f x ≡ b → LooksWrongly b arms t.cons → EndMisuses p f before (Case x arms)
    wrongly bound true lent k =
        let n : (k.con.inline ≡ false) × (is_look k.arm.cell ≡ false) = neither k.con.inline (is_look k.arm.cell) k.wrong in
        OpensLent x arms t k.number k.arm k.con refl lent bound e k.is k.of n.0 n.1
    wrongly bound false lent k = LooksAtOwned x arms k.number k.arm refl lent bound k.is (looked k.arm.cell k.wrong)

    binds : BindsWrongly p.types f arms → EndMisuses p f before (Case x arms)
    binds k =
        let a : (is_look k.arm.cell ≡ false) × AmongLent p.types f (bound_by k.arm) = anew_is p.types f k.arm.cell (bound_by k.arm) k.among in
        ArmBindsLent x arms k.number k.arm a.1.local a.1.index refl k.is a.0 a.1.is a.1.lent

    last : Fails (Must (BindOwn p.types f arms) fault.Lent jumps) fault.Lent → EndMisuses p f before (Case x arms)
    last (inl g) = binds (binds_wrongly p.types f arms g.0)
    last (inr g) = absurd (no_arms_jump p.types f (use_of (is_owned p.types f) s x) arms g.1)

    on : Binds x before → Fails looks fault.Lent → EndMisuses p f before (Case x arms)
    on bound (inl g) = wrongly bound (is_lent p.types f x) refl (looks_wrongly (is_lent p.types f x) arms t.cons g.0)
    on bound (inr g) = last (past distinct fault.Header (Must (BindOwn p.types f arms) fault.Lent jumps) refl
        (past (ArmsBindKinds f arms t.cons) fault.Kind (Must distinct fault.Header (Must (BindOwn p.types f arms) fault.Lent jumps)) refl
        (past (AreCellsOf arms t.cons) fault.Place (Must (ArmsBindKinds f arms t.cons) fault.Kind (Must distinct fault.Header (Must (BindOwn p.types f arms) fault.Lent jumps))) refl g.1).1).1).1

term_lent : (p : Code) (f : Func) (number : ℕ) (before : List Event) (s : State) (t : Term) → KnowsBound s before → Fails (term_checks p f number s t) fault.Lent → EndMisuses p f before t
term_lent p f number before s (Ret x) known h = on (operand_past p.types f s x f.result NoMore (past (IsThere f x) fault.NoSuchEntry (operand_checks p.types f s x f.result NoMore) refl h).1)
  where
    on : IsHeld p.types f s x ⊎ Fails NoMore fault.Lent → EndMisuses p f before (Ret x)
    on (inl held) = EndsLent x held.1 (known x held.0) Returned
    on (inr g) = absurd g
term_lent p f number before s (Tail func args) known h = by_func (slice_get p.funcs func) refl (past (AreThere f args) fault.NoSuchEntry (of_entry (slice_get p.funcs func) fault.NoSuchEntry
    (λ callee. arguments_checks p.types f s callee.reads args callee.params (Must (callee.result ≡ f.result) fault.Kind NoMore))) refl h).1
  where
    by_func : (o : Option Func) → slice_get p.funcs func ≡ o
        → Fails (of_entry o fault.NoSuchEntry (λ callee. arguments_checks p.types f s callee.reads args callee.params (Must (callee.result ≡ f.result) fault.Kind NoMore))) fault.Lent
        → EndMisuses p f before (Tail func args)
    by_func None q g = no_entry g
    by_func (Some callee) q g = on (arguments_lent p.types f s callee.reads args callee.params (Must (callee.result ≡ f.result) fault.Kind NoMore) g)
      where
        on : TakenLent p.types f s callee.reads args (length callee.params) ⊎ Fails (Must (callee.result ≡ f.result) fault.Kind NoMore) fault.Lent → EndMisuses p f before (Tail func args)
        on (inl k) = EndsLent k.local k.held.1 (known k.local k.held.0) (HandedOn func args (hands_over p f s func callee args q k))
        on (inr t) = absurd (past (callee.result ≡ f.result) fault.Kind NoMore refl t).1
term_lent p f number before s (Goto b) known h = absurd (jump_lent s (params_at f.blocks b) NoMore (past (number < b) fault.Backward (jump_checks s (params_at f.blocks b) NoMore) refl
    (past (IsBlock f b) fault.NoSuchEntry (Must (number < b) fault.Backward (jump_checks s (params_at f.blocks b) NoMore)) refl h).1).1)
term_lent p f number before s (If x first second) known h =
    on (operand_past p.types f s x kind.Flag jumps (past ((number < first) × (number < second)) fault.Backward whole refl
    (past (IsThere f x × IsBlock f first × IsBlock f second) fault.NoSuchEntry (Must ((number < first) × (number < second)) fault.Backward whole) refl h).1).1)
  where
    used : State
    used = use_of (is_owned p.types f) s x

    jumps : Checks
    jumps = jump_checks used (params_at f.blocks first) (jump_checks used (params_at f.blocks second) NoMore)

    whole : Checks
    whole = operand_checks p.types f s x kind.Flag jumps

    on : IsHeld p.types f s x ⊎ Fails jumps fault.Lent → EndMisuses p f before (If x first second)
    on (inl held) = EndsLent x held.1 (known x held.0) (Asked first second)
    on (inr g) = absurd (jump_lent used (params_at f.blocks second) NoMore (jump_lent used (params_at f.blocks first) (jump_checks used (params_at f.blocks second) NoMore) g))
term_lent p f number before s (Case x arms) known h = by_type (data_type p.types (kind_of f x)) refl (past (AllByRecursion (λ a. number < a.target) arms) fault.Backward checks refl
    (past (IsThere f x × AllByRecursion (ArmIsThere f) arms) fault.NoSuchEntry (Must (AllByRecursion (λ a. number < a.target) arms) fault.Backward checks) refl h).1).1
  where
    checks : Checks
    checks = of_entry (data_type p.types (kind_of f x)) fault.Kind (arms_checks p.types f s x arms)

    by_type : (o : Option DataType) → data_type p.types (kind_of f x) ≡ o → Fails (of_entry o fault.Kind (arms_checks p.types f s x arms)) fault.Lent → EndMisuses p f before (Case x arms)
    by_type None q g = absurd (past ⊥ fault.Kind NoMore refl g).0
    by_type (Some t) q g = case_lent p f before s x arms t q known g

-- ---- headers

-- a test of the numbers below n holds of each, or fails at one
search : (test : ℕ → Bool) (n : ℕ) → ((x : ℕ) → x < n → test x ≡ true) ⊎ ((x : ℕ) × (x < n) × (test x ≡ false))
search test zero = inl (λ x l. absurd (omega (arith, l)))
search test (suc n) = on (search test n) (test n) refl
  where
    all : ((x : ℕ) → x < n → test x ≡ true) → test n ≡ true → (x : ℕ) → x < suc n → test x ≡ true
    all go e x l = by_place (x == n) refl
      where
        by_place : (b : Bool) → (x == n) ≡ b → test x ≡ true
        by_place true q = let same : x ≡ n = grind (arith, nat_tests, q) in subst (λ y. test y ≡ true) (sym same) e
        by_place false q = go x (grind (arith, nat_tests, q, l))

    on : ((x : ℕ) → x < n → test x ≡ true) ⊎ ((x : ℕ) × (x < n) × (test x ≡ false)) → (b : Bool) → test n ≡ b
        → ((x : ℕ) → x < suc n → test x ≡ true) ⊎ ((x : ℕ) × (x < suc n) × (test x ≡ false))
    on (inr k) b e = inr (k.0, omega (arith, k.1), k.2)
    on (inl go) false e = inr (n, omega arith, e)
    on (inl go) true e = inl (all go e)

-- a parameter that isn't lent, or is marked where the result isn't of a heap kind
abbrev may_lend : List DataType → Func → ℕ → Bool
may_lend types f x = if is_lent types f x then (is_marked f x && not (is_heap types f.result)) else true

may_lend_rightly : (types : List DataType) (f : Func) (x : ℕ) → may_lend types f x ≡ true → is_lent types f x ≡ true → (is_marked f x ≡ true) × (is_heap types f.result ≡ false)
may_lend_rightly types f x e lent = by_marks (is_marked f x) (is_heap types f.result) (subst (λ b. (if b then (is_marked f x && not (is_heap types f.result)) else true) ≡ true) lent e)
  where
    by_marks : (m r : Bool) → (m && not r) ≡ true → (m ≡ true) × (r ≡ false)
    by_marks true false e = (refl, refl)
    by_marks true true e = absurd cc
    by_marks false r e = absurd cc

lends_wrongly : (types : List DataType) (f : Func) (x : ℕ) → x < length f.params → may_lend types f x ≡ false → HeaderMisuses types f
lends_wrongly types f x l e = by_tests (is_lent types f x) (is_marked f x) (is_heap types f.result) refl refl refl e
  where
    by_tests : (b m r : Bool) → is_lent types f x ≡ b → is_marked f x ≡ m → is_heap types f.result ≡ r → (if b then (m && not r) else true) ≡ false → HeaderMisuses types f
    by_tests false m r i j k e = absurd cc
    by_tests true false r i j k e = Unmarked x l i j
    by_tests true true true i j k e = GivesCells x l i k
    by_tests true true false i j k e = absurd cc

header_lent : (types : List DataType) (f : Func) → (LendsRightly types f → ⊥) → HeaderMisuses types f
header_lent types f h = on (search (may_lend types f) (length f.params))
  where
    on : ((x : ℕ) → x < length f.params → may_lend types f x ≡ true) ⊎ ((x : ℕ) × (x < length f.params) × (may_lend types f x ≡ false)) → HeaderMisuses types f
    on (inl all) = absurd (h (λ x l lent. may_lend_rightly types f x (all x l) lent))
    on (inr k) = lends_wrongly types f k.0 k.1 k.2

-- ---- places

-- a local that is ready was so, or is bound in the events between
ready_was : (h : ℕ → Bool) (s : State) (es : List Event) (x : ℕ) → after h s es x ≡ Ready → (s x ≡ Ready) ⊎ Binds x es
ready_was h s [] x e = inl e
ready_was h s (Use y ∷ es) x e = on (ready_was h (use_of h s y) es x e)
  where
    on : (use_of h s y x ≡ Ready) ⊎ Binds x es → (s x ≡ Ready) ⊎ Binds x (Use y ∷ es)
    on (inl k) = inl (used_ready h s y x k)
    on (inr b) = inr (Use y ∷ b.0, b.1, ap (λ l. Use y ∷ l) b.2)
ready_was h s (Look y ∷ es) x e = on (ready_was h s es x e)
  where
    on : (s x ≡ Ready) ⊎ Binds x es → (s x ≡ Ready) ⊎ Binds x (Look y ∷ es)
    on (inl k) = inl k
    on (inr b) = inr (Look y ∷ b.0, b.1, ap (λ l. Look y ∷ l) b.2)
ready_was h s (Bind y ∷ es) x e = on (ready_was h (bind s y) es x e)
  where
    first : (y ≡ x) ⊎ (s x ≡ Ready) → (s x ≡ Ready) ⊎ Binds x (Bind y ∷ es)
    first (inl k) = inr (subst (λ z. Binds z (Bind y ∷ es)) k ([], es, refl))
    first (inr k) = inl k

    on : (bind s y x ≡ Ready) ⊎ Binds x es → (s x ≡ Ready) ⊎ Binds x (Bind y ∷ es)
    on (inl k) = first (bind_ready s y x k)
    on (inr b) = inr (Bind y ∷ b.0, b.1, ap (λ l. Bind y ∷ l) b.2)

knows_bound : (h : ℕ → Bool) (before : List Event) (s : State) → Behind h before s → KnowsBound s before
knows_bound h before s e y r = on (ready_was h nothing_bound before y (subst (λ t. t y ≡ Ready) e r))
  where
    on : (Unbound ≡ Ready) ⊎ Binds y before → Binds y before
    on (inl k) = absurd cc
    on (inr b) = b

-- in the function of this number
record InFunc (p : Code) (f : Func) (func : ℕ) (e : CodeFault) : Type 0 where
  func_is : e.func ≡ func
  misused : MisusesAt p f e.block e.place

-- from what is said at the fault's place
in_func : (p : Code) (f : Func) (func number place : ℕ) (e : CodeFault) → Place_of func number place e → MisusesAt p f number place → InFunc p f func e
in_func p f func number place e q m = record {
  func_is = ap (λ d. d.func) q;
  misused = subst (λ n. MisusesAt p f n e.place) (sym (ap (λ d. d.block) q)) (subst (λ n. MisusesAt p f number n) (sym (ap (λ d. d.place) q)) m);
}

block_lent : (p : Code) (f : Func) (func number : ℕ) (b : Block) (rest : Walk) (e : CodeFault) → e.kind ≡ fault.Lent → slice_get f.blocks number ≡ Some b
    → FirstFault (block_walk p f func number b rest) e → InFunc p f func e ⊎ FirstFault rest e
block_lent p f func number b rest e k there (inl h) = absurd
    (let starts : Type 0 = Ascend b.params × (number ≡ 0 → b.params ≡ range_with_len 0 (length f.params)) in
    (past starts fault.Header NoMore refl (past (AreThere f b.params) fault.NoSuchEntry (Must starts fault.Header NoMore) refl
    (subst (λ j. Fails (Must (AreThere f b.params) fault.NoSuchEntry (Must starts fault.Header NoMore)) j) k h.0)).1).1)
block_lent p f func number b rest e k there (inr h) = on (lets_fail p f func number 1 (at_start (is_owned p.types f) b) b.lets next e h.1)
  where
    next : State → Walk
    next s = At func number (suc (length b.lets)) (term_checks p f number s b.term) rest

    last : State
    last = after_lets (reads_of p) (is_owned p.types f) (at_start (is_owned p.types f) b) b.lets

    known : (ls : List Let) → KnowsBound (after_lets (reads_of p) (is_owned p.types f) (at_start (is_owned p.types f) b) ls) (events_of (reads_of p) b ls)
    known ls = knows_bound (is_owned p.types f) (events_of (reads_of p) b ls) (after_lets (reads_of p) (is_owned p.types f) (at_start (is_owned p.types f) b) ls) (lets_behind p f b ls)

    at_let : LetHit p f func number 1 (at_start (is_owned p.types f) b) b.lets e → InFunc p f func e
    at_let t =
        let s : State = after_lets (reads_of p) (is_owned p.types f) (at_start (is_owned p.types f) b) t.earlier in
        let same : 1 + length t.earlier ≡ suc (length t.earlier) = omega arith in
        in_func p f func number (suc (length t.earlier)) e (subst (λ n. Place_of func number n e) same t.at) (AtLet b t.earlier t.rest t.one there t.is
        (let_lent p f (events_of (reads_of p) b t.earlier) s t.one (known t.earlier) (subst (λ j. Fails (let_checks p f s t.one) j) k t.fails)))

    on : LetHit p f func number 1 (at_start (is_owned p.types f) b) b.lets e ⊎ FirstFault (next last) e → InFunc p f func e ⊎ FirstFault rest e
    on (inl t) = inl (at_let t)
    on (inr (inl g)) = inl (in_func p f func number (suc (length b.lets)) e g.1 (AtEnd b there
        (term_lent p f number (events_of (reads_of p) b b.lets) last b.term (known b.lets) (subst (λ j. Fails (term_checks p f number last b.term) j) k g.0))))
    on (inr (inr g)) = inr g.1

-- these blocks are the function's from this number on
abbrev BlocksFrom : Func → ℕ → List Block → Type 0
BlocksFrom f number bs = (i : ℕ) (b : Block) → slice_get bs i ≡ Some b → slice_get f.blocks (number + i) ≡ Some b

all_blocks : (f : Func) → BlocksFrom f 0 f.blocks
all_blocks f i b q = let same : i ≡ 0 + i = omega arith in subst (λ n. slice_get f.blocks n ≡ Some b) same q

blocks_lent : (p : Code) (f : Func) (func number : ℕ) (bs : List Block) (rest : Walk) (e : CodeFault) → e.kind ≡ fault.Lent → BlocksFrom f number bs
    → FirstFault (blocks_walk p f func number bs rest) e → InFunc p f func e ⊎ FirstFault rest e
blocks_lent p f func number [] rest e k from h = inr h
blocks_lent p f func number (b ∷ bs) rest e k from h =
    on (λ g. blocks_lent p f func (suc number) bs rest e k later g) (block_lent p f func number b (blocks_walk p f func (suc number) bs rest) e k first h)
  where
    first : slice_get f.blocks number ≡ Some b
    first = let same : number + 0 ≡ number = omega arith in subst (λ n. slice_get f.blocks n ≡ Some b) same (from 0 b refl)

    later : BlocksFrom f (suc number) bs
    later i c q = let same : number + suc i ≡ suc number + i = omega arith in subst (λ n. slice_get f.blocks n ≡ Some c) same (from (suc i) c q)

    on : (FirstFault (blocks_walk p f func (suc number) bs rest) e → InFunc p f func e ⊎ FirstFault rest e)
        → InFunc p f func e ⊎ FirstFault (blocks_walk p f func (suc number) bs rest) e → InFunc p f func e ⊎ FirstFault rest e
    on go (inl t) = inl t
    on go (inr g) = go g

-- these functions are the code's from this number on
abbrev FuncsFrom : Code → ℕ → List Func → Type 0
FuncsFrom p func fs = (i : ℕ) (f : Func) → slice_get fs i ≡ Some f → slice_get p.funcs (func + i) ≡ Some f

all_funcs : (p : Code) → FuncsFrom p 0 p.funcs
all_funcs p i f q = let same : i ≡ 0 + i = omega arith in subst (λ n. slice_get p.funcs n ≡ Some f) same q

funcs_lent : (p : Code) (func : ℕ) (earlier : List (List ℕ)) (fs : List Func) (e : CodeFault) → e.kind ≡ fault.Lent → FuncsFrom p func fs
    → FirstFault (funcs_walk p func earlier fs) e → MisusesLent p e.func e.block e.place
funcs_lent p func earlier [] e k from h = absurd h
funcs_lent p func earlier (f ∷ fs) e k from h = on (λ g. funcs_lent p (suc func) (earlier ++ f.name ∷ []) fs e k later g) h
  where
    rest : Walk
    rest = funcs_walk p (suc func) (earlier ++ f.name ∷ []) fs

    known : Type 0
    known = AllByRecursion (IsKnownKind p.types) f.params × IsKnownKind p.types f.result × AllByRecursion (IsKnownKind p.types) f.locals

    lends : Checks
    lends = Must (LendsRightly p.types f) fault.Lent NoMore

    first : slice_get p.funcs func ≡ Some f
    first = let same : func + 0 ≡ func = omega arith in subst (λ n. slice_get p.funcs n ≡ Some f) same (from 0 f refl)

    later : FuncsFrom p (suc func) fs
    later i g q = let same : func + suc i ≡ suc func + i = omega arith in subst (λ n. slice_get p.funcs n ≡ Some g) same (from (suc i) g q)

    found : InFunc p f func e → MisusesLent p e.func e.block e.place
    found t = record { f = f; function = subst (λ n. slice_get p.funcs n ≡ Some f) (sym t.func_is) first; misused = t.misused }

    header : Fails lends fault.Lent → HeaderMisuses p.types f
    header (inl g) = header_lent p.types f g.0
    header (inr g) = absurd g.1

    blocks : (FirstFault rest e → MisusesLent p e.func e.block e.place) → InFunc p f func e ⊎ FirstFault rest e → MisusesLent p e.func e.block e.place
    blocks go (inl t) = found t
    blocks go (inr g) = go g

    on : (FirstFault rest e → MisusesLent p e.func e.block e.place) → FirstFault (funcs_walk p func earlier (f ∷ fs)) e → MisusesLent p e.func e.block e.place
    on go (inl g) = found (in_func p f func 0 0 e g.1 (AtHeader refl (header (past known fault.NoSuchEntry lends refl
        (past (stands earlier f.name ≡ false) fault.Name (Must known fault.NoSuchEntry lends) refl
        (subst (λ j. Fails (Must (stands earlier f.name ≡ false) fault.Name (Must known fault.NoSuchEntry lends)) j) k g.0)).1).1)))
    on go (inr g) = blocks go (blocks_lent p f func 0 f.blocks rest e k (all_blocks f) g.1)

-- a fault of the types is none of what is lent
cons_lent : {P : Type 0} (types : List DataType) (earlier : List (List ℕ)) (cs : List Constructor) (rest : Checks) → (Fails rest fault.Lent → P)
    → Fails (cons_checks types earlier cs rest) fault.Lent → P
cons_lent types earlier [] rest go h = go h
cons_lent types earlier (c ∷ cs) rest go h = cons_lent types (earlier ++ c.name ∷ []) cs rest go (past (AllByRecursion (IsKnownKind types) c.fields) fault.NoSuchEntry (cons_checks types (earlier ++ c.name ∷ []) cs rest) refl
    (past (stands earlier c.name ≡ false) fault.Name (Must (AllByRecursion (IsKnownKind types) c.fields) fault.NoSuchEntry (cons_checks types (earlier ++ c.name ∷ []) cs rest)) refl h).1).1

types_lent : {P : Type 0} (types : List DataType) (earlier cons : List (List ℕ)) (ts : List DataType) → Fails (types_checks types earlier cons ts) fault.Lent → P
types_lent types earlier cons [] h = absurd h
types_lent types earlier cons (t ∷ ts) h =
    cons_lent types cons t.cons (types_checks types (earlier ++ t.name ∷ []) (cons ++ map (λ c. c.name) t.cons) ts)
    (λ g. types_lent types (earlier ++ t.name ∷ []) (cons ++ map (λ c. c.name) t.cons) ts g)
    (past (stands earlier t.name ≡ false) fault.Name (cons_checks types cons t.cons (types_checks types (earlier ++ t.name ∷ []) (cons ++ map (λ c. c.name) t.cons) ts)) refl h).1

pub lent_misuse : (p : Code) (e : CodeFault) → e.kind ≡ fault.Lent → FirstFault (walk p) e → MisusesLent p e.func e.block e.place
unfolding walk
lent_misuse p e k (inl h) = types_lent p.types [] [] p.types (subst (λ j. Fails (types_checks p.types [] [] p.types) j) k h.0)
lent_misuse p e k (inr h) = funcs_lent p 0 [] p.funcs e k (all_funcs p) h.1
