-- The faults that the code finds are those of the walk of checks, place by place.
use Rattle.std.proofs.Common.{◌≡◌, ℕ, zero, suc, ◌+◌, ◌<◌, Bool, true, false, List, [], ◌∷◌, ◌++◌, length, map, Option, Some, None, refl, sym, ap, ◌∙◌, subst, arith, inl, inr}
use Rattle.std.specs.Prelude.{◌&&◌, ◌||◌, ◌==◌, slice_get, not, ⊤, nat_lt}
use Rattle.std.specs.List.{AllByRecursion, list_all}
use Rattle.std.specs.Option.{option_or, option_map}
use Rattle.camelot_values.specs.Value.{is_int32, IsInt32}
use Rattle.camelot_values.specs.IntLaws.{passing_int, int_passes}
use Rattle.camelot_values.specs.Kinds.{Constructor, DataType, constructor, type_of}
use Rattle.camelot_values.specs.Names.{stands}
use Rattle.camelot_values.specs.declared.kinds.Kind.{Kind}
use Rattle.camelot_values.specs.declared.kinds.Kind.TheVariants as kind
use Rattle.grail_blocks.specs.declared.blocks.Place.{Place}
use Rattle.grail_blocks.specs.declared.blocks.Place.TheVariants as place
use Rattle.grail_blocks.specs.declared.blocks.CaseCell.{CaseCell}
use Rattle.grail_blocks.specs.declared.blocks.CaseCell.TheVariants as cell
use Rattle.grail_blocks.specs.States.{State, use_of, after as state_after, at_start as state_at_start, after_let as state_after_let, nothing_bound}
use Rattle.grail_blocks.specs.StateLaws.{after_append}
use Rattle.grail_code.specs.Code.{Op, Lit, Flag, Copy, Prim, Make, Call, Let, CaseArm, Term, Ret, Tail, Goto, If, Case, Block, Func, Code}
use Rattle.camelot_values.specs.Heap.{is_heap}
use Rattle.grail_check.specs.Marked.{first_mark, later_marks, is_look}
use Rattle.grail_code.specs.WellFormed.{IsKnownKind, kind_of, is_owned, is_lent, is_marked, AreNotLent, bound_anew, takes, taken_by, read_by, argument_events, Look, operator_kind, data_type, Ascend, AreDistinct, Use, Bind, reads_of, operands_of, uses_of, kept_diamond, bound_by, params_at}
use Rattle.grail_check.specs.declared.fault.CodeKind.{CodeKind}
use Rattle.grail_check.specs.declared.fault.CodeKind.TheVariants as fault
use Rattle.grail_check.specs.declared.fault.CodeFault.{CodeFault}
use Rattle.grail_check.specs.declared.locals.Mark.{Mark}
use Rattle.grail_check.specs.Faulting.{unless, at_place, locals_of, is_local, kind_at, same_kind, same_kinds, has_kind, have_kinds, is_known, unbound, spend, spend_all, mark_fault, operand_fault, operands_fault, arguments_fault, taken_fault, place_fits, target_fault, make_fault, call_fault, op_fault, let_fault, after_let, after_lets, is_block, use_fault, uses_fault, jump_fault, callee_fault, arm_is_there, fields_count, arms_count, looks_where, look_where, are_not_lent, param_lends, lends_from, lends_rightly, own_fault, read_fault, argument_fault, spend_unless, again_fault, is_lent_at, cell_fits, cells_fit, kept_fits, arms_have_kinds, are_distinct, arms_jump_fault, arms_fault, term_fault, ascends_from, entry_fits, block_header_fault, lets_fault, at_start, block_fault, blocks_fault, header_fault, functions_fault, constructor_fault, constructors_fault, type_fault, types_fault, first_fault}
use Rattle.grail_check.specs.Walk.{Checks, NoMore, Must, Pass, Fails, of_entry, IsThere, AreThere, use_checks, own_check, read_checks, argument_checks, behind_argument, again_checks, LooksWhere, LookWhere, LendsRightly, operand_checks, operands_checks, arguments_checks, taken_checks, IsPlaceOf, target_check, op_checks, let_checks, IsBlock, jump_checks, ArmIsThere, FieldsCount, ArmsCount, IsCellOf, AreCellsOf, KeepsDiamond, ArmsBindKinds, arms_jump_checks, arms_checks, term_checks, header_checks, func_checks, cons_checks, types_checks, Walk, Finished, At, AllPass, FirstFault, lets_walk, block_walk, blocks_walk, funcs_walk, walk}
use Rattle.grail_check.proofs.Checks.{both, join, all_true, true_all, all_then, below, is_below, same, is_same}
use Rattle.grail_check.proofs.Distinct.{distinct_is, is_distinct, ascends_is, is_ascending_all}
use Rattle.grail_check.proofs.LetLaws.{kind_is, lent_is, the_kinds, kinds_had, known_is, is_known_kind, all_known, known_all, entry_is, is_entry, count_is, kinds_same, same_kinds_true, some_same, same_some, has_the_kind, the_kind_it_has, kind_of_is, kind_at_is, have_the_kinds, the_kinds_had, not_true, true_not}
use Rattle.grail_check.proofs.Tracking.{Tracks, track_bind, track_spend, track_uses, track_binds, track_nothing, Agrees, Front, front_must, front_mark, front_then, front_last, front_alone, front_weak, agrees_last, front_use}

-- ---- locals that are there

local_is : (types : List DataType) (f : Func) (x : ℕ) → is_local (locals_of types f) x ≡ true → IsThere f x
local_is types f x h = omega (arith, below x (length (locals_of types f)) h, count_is types f)

is_a_local : (types : List DataType) (f : Func) (x : ℕ) → IsThere f x → is_local (locals_of types f) x ≡ true
is_a_local types f x h = is_below x (length (locals_of types f)) (omega (arith, h, count_is types f))

locals_are : (types : List DataType) (f : Func) (xs : List ℕ) → list_all (is_local (locals_of types f)) xs ≡ true → AreThere f xs
locals_are types f xs h = all_then (λ x. is_local (locals_of types f) x ≡ true) (IsThere f) xs (local_is types f) (all_true (is_local (locals_of types f)) xs h)

are_locals : (types : List DataType) (f : Func) (xs : List ℕ) → AreThere f xs → list_all (is_local (locals_of types f)) xs ≡ true
are_locals types f xs h = true_all (is_local (locals_of types f)) xs (all_then (IsThere f) (λ x. is_local (locals_of types f) x ≡ true) xs (is_a_local types f) h)

-- ---- operands

front_own : (types : List DataType) (f : Func) (x : ℕ) → Front (is_lent types f x ≡ false) (own_fault (locals_of types f) x) (own_check types f x)
front_own types f x =
    front_must (not (is_lent_at (locals_of types f) x)) fault.Lent (is_lent types f x ≡ false)
    (λ h. sym (lent_is types f x) ∙ not_true (is_lent_at (locals_of types f) x) h) (λ h. true_not (is_lent_at (locals_of types f) x) (lent_is types f x ∙ h))

front_kind : (types : List DataType) (f : Func) (x : ℕ) (q : Kind) → Front (kind_of f x ≡ Some q) (unless (has_kind (locals_of types f) x q) fault.Kind) (Must (kind_of f x ≡ Some q) fault.Kind)
front_kind types f x q =
    front_must (has_kind (locals_of types f) x q) fault.Kind (kind_of f x ≡ Some q) (λ h. kind_of_is types f x q (has_the_kind (locals_of types f) x q h)) (λ h. the_kind_it_has (locals_of types f) x q (kind_at_is types f x q h))

front_read : (types : List DataType) (f : Func) (marks : List Mark) (s : State) (x : ℕ) (q : Kind) → Tracks types f marks s
    → Front ⊤ (read_fault (locals_of types f) marks x q) (read_checks f s x q)
front_read types f marks s x q t =
    front_weak (⊤ × (kind_of f x ≡ Some q)) ⊤ (read_fault (locals_of types f) marks x q) (read_checks f s x q) (λ p. tt)
    (front_then ⊤ (kind_of f x ≡ Some q) (mark_fault (slice_get marks x)) (option_or (unless (has_kind (locals_of types f) x q) fault.Kind) None) (use_checks s x) (Must (kind_of f x ≡ Some q) fault.Kind)
    (front_mark (slice_get marks x) s x (t.same x))
    (λ p. front_last (kind_of f x ≡ Some q) (unless (has_kind (locals_of types f) x q) fault.Kind) (Must (kind_of f x ≡ Some q) fault.Kind) (front_kind types f x q)))

front_operand : (types : List DataType) (f : Func) (marks : List Mark) (s : State) (x : ℕ) (q : Kind) → Tracks types f marks s
    → Front ⊤ (operand_fault (locals_of types f) marks x q) (operand_checks types f s x q)
front_operand types f marks s x q t =
    let locals = locals_of types f in
    let kinds = option_or (unless (has_kind locals x q) fault.Kind) None in
    front_weak (⊤ × ((is_lent types f x ≡ false) × (kind_of f x ≡ Some q))) ⊤ (operand_fault locals marks x q) (operand_checks types f s x q) (λ p. tt)
    (front_then ⊤ ((is_lent types f x ≡ false) × (kind_of f x ≡ Some q)) (mark_fault (slice_get marks x)) (option_or (own_fault locals x) kinds) (use_checks s x) (λ rest. own_check types f x (Must (kind_of f x ≡ Some q) fault.Kind rest))
    (front_mark (slice_get marks x) s x (t.same x))
    (λ p. front_then (is_lent types f x ≡ false) (kind_of f x ≡ Some q) (own_fault locals x) kinds (own_check types f x) (Must (kind_of f x ≡ Some q) fault.Kind)
    (front_own types f x)
    (λ r. front_last (kind_of f x ≡ Some q) (unless (has_kind locals x q) fault.Kind) (Must (kind_of f x ≡ Some q) fault.Kind) (front_kind types f x q))))

front_argument : (read : Bool) (types : List DataType) (f : Func) (marks : List Mark) (s : State) (x : ℕ) (q : Kind) → Tracks types f marks s
    → Front ⊤ (argument_fault read (locals_of types f) marks x q) (argument_checks read types f s x q)
front_argument true types f marks s x q t = front_read types f marks s x q t
front_argument false types f marks s x q t = front_operand types f marks s x q t

track_argument : (read : Bool) (types : List DataType) (f : Func) (marks : List Mark) (s : State) (x : ℕ) → Tracks types f marks s
    → Tracks types f (spend_unless read (locals_of types f) marks x) (behind_argument read types f s x)
track_argument true types f marks s x t = t
track_argument false types f marks s x t = track_spend types f marks s x t

front_operands : (types : List DataType) (f : Func) (marks : List Mark) (s : State) (reads : List Bool) (xs : List ℕ) (qs : List Kind) → Tracks types f marks s
    → Front ⊤ (operands_fault (locals_of types f) marks reads xs qs) (operands_checks types f s reads xs qs)
front_operands types f marks s reads [] qs t = λ o rest go. go tt
front_operands types f marks s reads (x ∷ xs) [] t = λ o rest go. go tt
front_operands types f marks s reads (x ∷ xs) (q ∷ qs) t =
    front_weak (⊤ × ⊤) ⊤ (operands_fault (locals_of types f) marks reads (x ∷ xs) (q ∷ qs)) (operands_checks types f s reads (x ∷ xs) (q ∷ qs)) (λ p. tt)
    (front_then ⊤ ⊤ (argument_fault (first_mark reads) (locals_of types f) marks x q) (operands_fault (locals_of types f) (spend_unless (first_mark reads) (locals_of types f) marks x) (later_marks reads) xs qs)
    (argument_checks (first_mark reads) types f s x q) (operands_checks types f (behind_argument (first_mark reads) types f s x) (later_marks reads) xs qs)
    (front_argument (first_mark reads) types f marks s x q t)
    (λ p. front_operands types f (spend_unless (first_mark reads) (locals_of types f) marks x) (behind_argument (first_mark reads) types f s x) (later_marks reads) xs qs (track_argument (first_mark reads) types f marks s x t)))

front_again : (types : List DataType) (f : Func) (marks : List Mark) (s : State) (xs : List ℕ) → Tracks types f marks s
    → Front ⊤ (again_fault marks xs) (again_checks s xs)
front_again types f marks s [] t = λ o rest go. go tt
front_again types f marks s (x ∷ xs) t =
    front_weak (⊤ × ⊤) ⊤ (again_fault marks (x ∷ xs)) (again_checks s (x ∷ xs)) (λ p. tt)
    (front_then ⊤ ⊤ (mark_fault (slice_get marks x)) (again_fault marks xs) (use_checks s x) (again_checks s xs)
    (front_mark (slice_get marks x) s x (t.same x)) (λ p. front_again types f marks s xs t))

front_arguments : (types : List DataType) (f : Func) (marks : List Mark) (s : State) (reads : List Bool) (xs : List ℕ) (qs : List Kind) → Tracks types f marks s
    → Front ⊤ (arguments_fault (locals_of types f) marks reads xs qs) (arguments_checks types f s reads xs qs)
front_arguments types f marks s reads xs qs t =
    let locals = locals_of types f in
    let used = spend_all locals marks (taken_by reads xs) in
    let behind = state_after (is_owned types f) s (map Use (taken_by reads xs)) in
    let again = option_or (again_fault used (read_by reads xs)) None in
    front_weak ((length xs ≡ length qs) × (⊤ × ⊤)) ⊤ (arguments_fault locals marks reads xs qs) (arguments_checks types f s reads xs qs) (λ p. tt)
    (front_then (length xs ≡ length qs) (⊤ × ⊤) (unless (length xs == length qs) fault.Arms) (option_or (operands_fault locals marks reads xs qs) again) (Must (length xs ≡ length qs) fault.Arms)
    (λ rest. operands_checks types f s reads xs qs (again_checks behind (read_by reads xs) rest))
    (front_must (length xs == length qs) fault.Arms (length xs ≡ length qs) (same (length xs) (length qs)) (is_same (length xs) (length qs)))
    (λ p. front_then ⊤ ⊤ (operands_fault locals marks reads xs qs) again (operands_checks types f s reads xs qs) (again_checks behind (read_by reads xs))
    (front_operands types f marks s reads xs qs t)
    (λ q. front_last ⊤ (again_fault used (read_by reads xs)) (again_checks behind (read_by reads xs)) (front_again types f used behind (read_by reads xs) (track_uses types f marks s (taken_by reads xs) t)))))

-- ---- lets

front_taken : (types : List DataType) (f : Func) (marks : List Mark) (s : State) (at : Place) → Tracks types f marks s
    → Front ⊤ (taken_fault (locals_of types f) marks at) (taken_checks types f s at)
front_taken types f marks s place.Inline t = λ o rest go. go tt
front_taken types f marks s place.New t = λ o rest go. go tt
front_taken types f marks s (place.Reuse d) t = front_operand types f marks s d kind.Dia t

place_is : (inline : Bool) (at : Place) → place_fits inline at ≡ true → IsPlaceOf inline at
place_is inline place.Inline h = h
place_is inline place.New h = not_true inline h
place_is inline (place.Reuse d) h = not_true inline h

is_place : (inline : Bool) (at : Place) → IsPlaceOf inline at → place_fits inline at ≡ true
is_place inline place.Inline h = h
is_place inline place.New h = true_not inline h
is_place inline (place.Reuse d) h = true_not inline h

target_agrees : (types : List DataType) (f : Func) (x : ℕ) (o : Option Kind) → Agrees (target_fault (locals_of types f) x o) (target_check types f x o)
target_agrees types f x o =
    front_must (same_kinds (kind_at (locals_of types f) x) o) fault.Kind ((q : Kind) × (kind_of f x ≡ Some q) × (o ≡ Some q)) to from _ _
    (λ k. agrees_last (own_fault (locals_of types f) x) (own_check types f x NoMore) (front_alone (is_lent types f x ≡ false) (own_fault (locals_of types f) x) (own_check types f x) (front_own types f x)))
  where
    to : same_kinds (kind_at (locals_of types f) x) o ≡ true → (q : Kind) × (kind_of f x ≡ Some q) × (o ≡ Some q)
    to h = let (q, a, b) = some_same (kind_at (locals_of types f) x) o h in (q, kind_of_is types f x q a, b)

    from : (q : Kind) × (kind_of f x ≡ Some q) × (o ≡ Some q) → same_kinds (kind_at (locals_of types f) x) o ≡ true
    from (q, a, b) = same_some (kind_at (locals_of types f) x) o q (kind_at_is types f x q a) b

-- one front, and then the target
front_target : (types : List DataType) (f : Func) (x : ℕ) (q : Option Kind) (P : Type 0) (a : Option CodeKind) (c : Checks → Checks) → Front P a c
    → Agrees (option_or a (option_or (target_fault (locals_of types f) x q) None)) (c (target_check types f x q))
front_target types f x q P a c fa = fa (option_or (target_fault (locals_of types f) x q) None) (target_check types f x q) (λ p. agrees_last (target_fault (locals_of types f) x q) (target_check types f x q) (target_agrees types f x q))

op_agrees : (p : Code) (f : Func) (marks : List Mark) (s : State) (x : ℕ) (op : Op) → Tracks p.types f marks s
    → Agrees (op_fault p (locals_of p.types f) marks x op) (op_checks p f s x op)
op_agrees p f marks s x (Lit z) t = front_target p.types f x (Some kind.Int) (IsInt32 z) (unless (is_int32 z) fault.Kind) (Must (IsInt32 z) fault.Kind) (front_must (is_int32 z) fault.Kind (IsInt32 z) (passing_int z) (int_passes z))
op_agrees p f marks s x (Flag b) t = target_agrees p.types f x (Some kind.Flag)
op_agrees p f marks s x (Copy y) t =
    subst (λ o. Agrees (option_or (mark_fault (slice_get marks y)) (option_or (own_fault (locals_of p.types f) y) (option_or (target_fault (locals_of p.types f) x o) None))) (use_checks s y (own_check p.types f y (target_check p.types f x (kind_of f y)))))
    (sym (kind_is p.types f y))
    (front_mark (slice_get marks y) s y (t.same y) (option_or (own_fault (locals_of p.types f) y) (option_or (target_fault (locals_of p.types f) x (kind_of f y)) None)) (own_check p.types f y (target_check p.types f x (kind_of f y)))
    (λ u. front_target p.types f x (kind_of f y) (is_lent p.types f y ≡ false) (own_fault (locals_of p.types f) y) (own_check p.types f y) (front_own p.types f y)))
op_agrees p f marks s x (Prim op left right) t =
    front_operand p.types f marks s left kind.Int t
    (option_or (operand_fault (locals_of p.types f) (spend (locals_of p.types f) marks left) right kind.Int) (option_or (target_fault (locals_of p.types f) x (Some (operator_kind op))) None))
    (operand_checks p.types f (use_of (is_owned p.types f) s left) right kind.Int (target_check p.types f x (Some (operator_kind op))))
    (λ q. front_target p.types f x (Some (operator_kind op)) ⊤ (operand_fault (locals_of p.types f) (spend (locals_of p.types f) marks left) right kind.Int) (operand_checks p.types f (use_of (is_owned p.types f) s left) right kind.Int)
    (front_operand p.types f (spend (locals_of p.types f) marks left) (use_of (is_owned p.types f) s left) right kind.Int (track_spend p.types f marks s left t)))
op_agrees p f marks s x (Make con args at) t = by_con (constructor p.types con)
  where
    owner : Option Kind
    owner = option_map kind.Of (type_of p.types con)

    by_con : (o : Option Constructor) → Agrees (make_fault (locals_of p.types f) marks x o (option_map kind.Of (type_of p.types con)) args at)
        (of_entry o fault.NoSuchEntry (λ c. arguments_checks p.types f s [] args c.fields
        (taken_checks p.types f (state_after (is_owned p.types f) s (map Use args)) at (Must (IsPlaceOf c.inline at) fault.Place (target_check p.types f x (option_map kind.Of (type_of p.types con)))))))
    by_con None = inl ((λ e. e), refl)
    by_con (Some c) =
        front_arguments p.types f marks s [] args c.fields t _ _
        (λ q. front_taken p.types f (spend_all (locals_of p.types f) marks args) (state_after (is_owned p.types f) s (map Use args)) at (track_uses p.types f marks s args t) _ _
        (λ r. front_target p.types f x (option_map kind.Of (type_of p.types con)) (IsPlaceOf c.inline at) (unless (place_fits c.inline at) fault.Place) (Must (IsPlaceOf c.inline at) fault.Place)
        (front_must (place_fits c.inline at) fault.Place (IsPlaceOf c.inline at) (place_is c.inline at) (is_place c.inline at))))
op_agrees p f marks s x (Call func args) t = by_func (slice_get p.funcs func)
  where
    by_func : (o : Option Func) → Agrees (call_fault (locals_of p.types f) marks x o args)
        (of_entry o fault.NoSuchEntry (λ callee. arguments_checks p.types f s callee.reads args callee.params (target_check p.types f x (Some callee.result))))
    by_func None = inl ((λ e. e), refl)
    by_func (Some callee) =
        front_target p.types f x (Some callee.result) ⊤ (arguments_fault (locals_of p.types f) marks callee.reads args callee.params) (arguments_checks p.types f s callee.reads args callee.params)
        (front_arguments p.types f marks s callee.reads args callee.params t)

let_there : (types : List DataType) (f : Func) (l : Let)
    → (is_local (locals_of types f) l.target && list_all (is_local (locals_of types f)) (operands_of l.op)) ≡ true
    → AreThere f (l.target ∷ operands_of l.op)
let_there types f l h = let (a, b) = both (is_local (locals_of types f) l.target) (list_all (is_local (locals_of types f)) (operands_of l.op)) h in (local_is types f l.target a, locals_are types f (operands_of l.op) b)

there_let : (types : List DataType) (f : Func) (l : Let) → AreThere f (l.target ∷ operands_of l.op)
    → (is_local (locals_of types f) l.target && list_all (is_local (locals_of types f)) (operands_of l.op)) ≡ true
there_let types f l h = join (is_local (locals_of types f) l.target) (list_all (is_local (locals_of types f)) (operands_of l.op)) (is_a_local types f l.target h.0) (are_locals types f (operands_of l.op) h.1)

let_agrees : (p : Code) (f : Func) (marks : List Mark) (s : State) (l : Let) → Tracks p.types f marks s
    → Agrees (let_fault p (locals_of p.types f) marks l) (let_checks p f s l)
let_agrees p f marks s l t =
    front_must (is_local (locals_of p.types f) l.target && list_all (is_local (locals_of p.types f)) (operands_of l.op)) fault.NoSuchEntry (AreThere f (l.target ∷ operands_of l.op)) (let_there p.types f l) (there_let p.types f l)
    (option_or (op_fault p (locals_of p.types f) marks l.target l.op) None) (op_checks p f s l.target l.op)
    (λ q. agrees_last (op_fault p (locals_of p.types f) marks l.target l.op) (op_checks p f s l.target l.op) (op_agrees p f marks s l.target l.op t))

looks_nothing : (h : ℕ → Bool) (s : State) (xs : List ℕ) → state_after h s (map Look xs) ≡ s
looks_nothing h s [] = refl
looks_nothing h s (x ∷ xs) = looks_nothing h s xs

behind_arguments : (h : ℕ → Bool) (s : State) (reads : List Bool) (xs : List ℕ) → state_after h s (argument_events reads xs) ≡ state_after h s (map Use (taken_by reads xs))
behind_arguments h s [] xs = refl
behind_arguments h s (mark ∷ marks) xs = after_append h s (map Use (taken_by (mark ∷ marks) xs)) (map Look (read_by (mark ∷ marks) xs))
    ∙ looks_nothing h (state_after h s (map Use (taken_by (mark ∷ marks) xs))) (read_by (mark ∷ marks) xs)

behind_uses : (p : Code) (h : ℕ → Bool) (s : State) (op : Op) → state_after h s (uses_of (reads_of p) op) ≡ state_after h s (map Use (takes p op))
behind_uses p h s (Lit z) = refl
behind_uses p h s (Flag b) = refl
behind_uses p h s (Copy x) = refl
behind_uses p h s (Prim op x y) = refl
behind_uses p h s (Make con args at) = refl
behind_uses p h s (Call func args) = behind_arguments h s (reads_of p func) args

track_let : (p : Code) (f : Func) (marks : List Mark) (s : State) (l : Let) → Tracks p.types f marks s → IsThere f l.target
    → Tracks p.types f (after_let p (locals_of p.types f) marks l) (state_after_let (reads_of p) (is_owned p.types f) s l)
track_let p f marks s l t there =
    let used = spend_all (locals_of p.types f) marks (takes p l.op) in
    subst (Tracks p.types f (after_let p (locals_of p.types f) marks l)) (sym (after_append (is_owned p.types f) s (uses_of (reads_of p) l.op) (Bind l.target ∷ [])))
    (track_bind p.types f used (state_after (is_owned p.types f) s (uses_of (reads_of p) l.op)) l.target
    (subst (Tracks p.types f used) (sym (behind_uses p (is_owned p.types f) s l.op)) (track_uses p.types f marks s (takes p l.op) t)) there)

-- ---- the end of a block

front_jump : (types : List DataType) (f : Func) (h : ℕ → Bool) (marks : List Mark) (s : State) (bound xs : List ℕ) → Tracks types f marks s
    → Front ⊤ (uses_fault marks bound xs) (jump_checks (state_after h s (map Bind bound)) xs)
front_jump types f h marks s bound [] t = λ o rest go. go tt
front_jump types f h marks s bound (x ∷ xs) t =
    front_weak (⊤ × ⊤) ⊤ (uses_fault marks bound (x ∷ xs)) (jump_checks (state_after h s (map Bind bound)) (x ∷ xs)) (λ p. tt)
    (front_then ⊤ ⊤ (use_fault marks bound x) (uses_fault marks bound xs) (use_checks (state_after h s (map Bind bound)) x) (jump_checks (state_after h s (map Bind bound)) xs)
    (front_use types f h marks s bound x t) (λ p. front_jump types f h marks s bound xs t))

block_is : (f : Func) (b : ℕ) → is_block f b ≡ true → IsBlock f b
block_is f b h = below b (length f.blocks) h

is_a_block : (f : Func) (b : ℕ) → IsBlock f b → is_block f b ≡ true
is_a_block f b h = is_below b (length f.blocks) h

arm_is : (types : List DataType) (f : Func) (a : CaseArm) → arm_is_there f (locals_of types f) a ≡ true → ArmIsThere f a
arm_is types f a h =
    let locals = locals_of types f in
    let (front, last) = both (list_all (is_local locals) a.fields && list_all (is_local locals) (kept_diamond a.cell)) (is_block f a.target) h in
    let (x, y) = both (list_all (is_local locals) a.fields) (list_all (is_local locals) (kept_diamond a.cell)) front in
    (locals_are types f a.fields x, locals_are types f (kept_diamond a.cell) y, block_is f a.target last)

is_an_arm : (types : List DataType) (f : Func) (a : CaseArm) → ArmIsThere f a → arm_is_there f (locals_of types f) a ≡ true
is_an_arm types f a h =
    let locals = locals_of types f in
    join (list_all (is_local locals) a.fields && list_all (is_local locals) (kept_diamond a.cell)) (is_block f a.target)
    (join (list_all (is_local locals) a.fields) (list_all (is_local locals) (kept_diamond a.cell)) (are_locals types f a.fields h.0) (are_locals types f (kept_diamond a.cell) h.1)) (is_a_block f a.target h.2)

fields_is : (arms : List CaseArm) (cs : List Constructor) → fields_count arms cs ≡ true → FieldsCount arms cs
fields_is [] cs h = tt
fields_is (a ∷ arms) [] h = tt
fields_is (a ∷ arms) (c ∷ cs) h = let (x, y) = both (length a.fields == length c.fields) (fields_count arms cs) h in (same (length a.fields) (length c.fields) x, fields_is arms cs y)

is_fields : (arms : List CaseArm) (cs : List Constructor) → FieldsCount arms cs → fields_count arms cs ≡ true
is_fields [] cs h = refl
is_fields (a ∷ arms) [] h = refl
is_fields (a ∷ arms) (c ∷ cs) h = join (length a.fields == length c.fields) (fields_count arms cs) (is_same (length a.fields) (length c.fields) h.0) (is_fields arms cs h.1)

count_is_right : (arms : List CaseArm) (cs : List Constructor) → arms_count arms cs ≡ true → ArmsCount arms cs
count_is_right arms cs h = let (x, y) = both (length arms == length cs) (fields_count arms cs) h in (same (length arms) (length cs) x, fields_is arms cs y)

is_right_count : (arms : List CaseArm) (cs : List Constructor) → ArmsCount arms cs → arms_count arms cs ≡ true
is_right_count arms cs h = join (length arms == length cs) (fields_count arms cs) (is_same (length arms) (length cs) h.0) (is_fields arms cs h.1)

one_cell_is : (inline : Bool) (c : CaseCell) → cell_fits inline c ≡ true → IsCellOf inline c
one_cell_is inline cell.Inline h = h
one_cell_is inline cell.Free h = not_true inline h
one_cell_is inline cell.Look h = not_true inline h
one_cell_is inline (cell.Keep d) h = not_true inline h

is_one_cell : (inline : Bool) (c : CaseCell) → IsCellOf inline c → cell_fits inline c ≡ true
is_one_cell inline cell.Inline h = h
is_one_cell inline cell.Free h = true_not inline h
is_one_cell inline cell.Look h = true_not inline h
is_one_cell inline (cell.Keep d) h = true_not inline h

looks_are : (lent inline : Bool) (c : CaseCell) → looks_where lent inline c ≡ true → LooksWhere lent inline c
looks_are true inline c h = h
looks_are false inline c h = not_true (is_look c) h

are_looks : (lent inline : Bool) (c : CaseCell) → LooksWhere lent inline c → looks_where lent inline c ≡ true
are_looks true inline c h = h
are_looks false inline c h = true_not (is_look c) h

look_is : (lent : Bool) (arms : List CaseArm) (cs : List Constructor) → look_where lent arms cs ≡ true → LookWhere lent arms cs
look_is lent [] cs h = tt
look_is lent (a ∷ arms) [] h = tt
look_is lent (a ∷ arms) (c ∷ cs) h = let (x, y) = both (looks_where lent c.inline a.cell) (look_where lent arms cs) h in (looks_are lent c.inline a.cell x, look_is lent arms cs y)

is_looked : (lent : Bool) (arms : List CaseArm) (cs : List Constructor) → LookWhere lent arms cs → look_where lent arms cs ≡ true
is_looked lent [] cs h = refl
is_looked lent (a ∷ arms) [] h = refl
is_looked lent (a ∷ arms) (c ∷ cs) h = join (looks_where lent c.inline a.cell) (look_where lent arms cs) (are_looks lent c.inline a.cell h.0) (is_looked lent arms cs h.1)

own_are : (types : List DataType) (f : Func) (xs : List ℕ) → are_not_lent (locals_of types f) xs ≡ true → AreNotLent types f xs
own_are types f xs h = all_then (λ x. not (is_lent_at (locals_of types f) x) ≡ true) (λ x. is_lent types f x ≡ false) xs
    (λ x k. sym (lent_is types f x) ∙ not_true (is_lent_at (locals_of types f) x) k) (all_true (λ x. not (is_lent_at (locals_of types f) x)) xs h)

are_own : (types : List DataType) (f : Func) (xs : List ℕ) → AreNotLent types f xs → are_not_lent (locals_of types f) xs ≡ true
are_own types f xs h = true_all (λ x. not (is_lent_at (locals_of types f) x)) xs
    (all_then (λ x. is_lent types f x ≡ false) (λ x. not (is_lent_at (locals_of types f) x) ≡ true) xs (λ x k. true_not (is_lent_at (locals_of types f) x) (lent_is types f x ∙ k)) h)

cells_are : (arms : List CaseArm) (cs : List Constructor) → cells_fit arms cs ≡ true → AreCellsOf arms cs
cells_are [] cs h = tt
cells_are (a ∷ arms) [] h = tt
cells_are (a ∷ arms) (c ∷ cs) h = let (x, y) = both (cell_fits c.inline a.cell) (cells_fit arms cs) h in (one_cell_is c.inline a.cell x, cells_are arms cs y)

are_cells : (arms : List CaseArm) (cs : List Constructor) → AreCellsOf arms cs → cells_fit arms cs ≡ true
are_cells [] cs h = refl
are_cells (a ∷ arms) [] h = refl
are_cells (a ∷ arms) (c ∷ cs) h = join (cell_fits c.inline a.cell) (cells_fit arms cs) (is_one_cell c.inline a.cell h.0) (are_cells arms cs h.1)

keeps_is : (types : List DataType) (f : Func) (c : CaseCell) → kept_fits (locals_of types f) c ≡ true → KeepsDiamond f c
keeps_is types f cell.Inline h = tt
keeps_is types f cell.Free h = tt
keeps_is types f cell.Look h = tt
keeps_is types f (cell.Keep d) h = kind_of_is types f d kind.Dia (has_the_kind (locals_of types f) d kind.Dia h)

is_kept : (types : List DataType) (f : Func) (c : CaseCell) → KeepsDiamond f c → kept_fits (locals_of types f) c ≡ true
is_kept types f cell.Inline h = refl
is_kept types f cell.Free h = refl
is_kept types f cell.Look h = refl
is_kept types f (cell.Keep d) h = the_kind_it_has (locals_of types f) d kind.Dia (kind_at_is types f d kind.Dia h)

kinds_are_bound : (types : List DataType) (f : Func) (arms : List CaseArm) (cs : List Constructor) → FieldsCount arms cs
    → arms_have_kinds (locals_of types f) arms cs ≡ true → ArmsBindKinds f arms cs
kinds_are_bound types f [] cs n h = tt
kinds_are_bound types f (a ∷ arms) [] n h = tt
kinds_are_bound types f (a ∷ arms) (c ∷ cs) n h =
    let locals = locals_of types f in
    let (front, rest) = both (have_kinds locals a.fields c.fields && kept_fits locals a.cell) (arms_have_kinds locals arms cs) h in
    let (x, y) = both (have_kinds locals a.fields c.fields) (kept_fits locals a.cell) front in
    ((have_the_kinds types f a.fields c.fields (the_kinds locals a.fields c.fields n.0 x), keeps_is types f a.cell y), kinds_are_bound types f arms cs n.1 rest)

bound_are_kinds : (types : List DataType) (f : Func) (arms : List CaseArm) (cs : List Constructor) → ArmsBindKinds f arms cs
    → arms_have_kinds (locals_of types f) arms cs ≡ true
bound_are_kinds types f [] cs h = refl
bound_are_kinds types f (a ∷ arms) [] h = refl
bound_are_kinds types f (a ∷ arms) (c ∷ cs) h =
    let locals = locals_of types f in
    join (have_kinds locals a.fields c.fields && kept_fits locals a.cell) (arms_have_kinds locals arms cs)
    (join (have_kinds locals a.fields c.fields) (kept_fits locals a.cell) (kinds_had locals a.fields c.fields (the_kinds_had types f a.fields c.fields h.0.0)).1 (is_kept types f a.cell h.0.1))
    (bound_are_kinds types f arms cs h.1)

arms_jump_agrees : (types : List DataType) (f : Func) (marks : List Mark) (s : State) (arms : List CaseArm) → Tracks types f marks s
    → Agrees (arms_jump_fault f marks arms) (arms_jump_checks types f s arms)
arms_jump_agrees types f marks s [] t = tt
arms_jump_agrees types f marks s (a ∷ arms) t =
    front_jump types f (is_owned types f) marks s (bound_by a) (params_at f.blocks a.target) t (arms_jump_fault f marks arms) (arms_jump_checks types f s arms)
    (λ p. arms_jump_agrees types f marks s arms t)

arms_agree : (types : List DataType) (f : Func) (marks : List Mark) (s : State) (x : ℕ) (t : Option DataType) (arms : List CaseArm) → Tracks types f marks s
    → Agrees (arms_fault f (locals_of types f) marks x t arms) (of_entry t fault.Kind (arms_checks types f s x arms))
arms_agree types f marks s x None arms tr = inl ((λ e. e), refl)
arms_agree types f marks s x (Some t) arms tr =
    front_must (arms_count arms t.cons) fault.Arms (ArmsCount arms t.cons) (count_is_right arms t.cons) (is_right_count arms t.cons) _ _
    (λ n. front_mark (slice_get marks x) s x (tr.same x) _ _
    (λ u. front_must (look_where (is_lent_at (locals_of types f) x) arms t.cons) fault.Lent (LookWhere (is_lent types f x) arms t.cons) looks are_looked _ _
    (λ v. front_must (cells_fit arms t.cons) fault.Place (AreCellsOf arms t.cons) (cells_are arms t.cons) (are_cells arms t.cons) _ _
    (λ c. front_must (arms_have_kinds (locals_of types f) arms t.cons) fault.Kind (ArmsBindKinds f arms t.cons) (kinds_are_bound types f arms t.cons n.1) (bound_are_kinds types f arms t.cons) _ _
    (λ k. front_must (list_all (λ a. are_distinct (bound_by a)) arms) fault.Header (AllByRecursion (λ a. AreDistinct (bound_by a)) arms) distinct are_all_distinct _ _
    (λ d. front_must (list_all (λ a. are_not_lent (locals_of types f) (bound_anew a.cell (bound_by a))) arms) fault.Lent (AllByRecursion (λ a. AreNotLent types f (bound_anew a.cell (bound_by a))) arms) own are_all_own _ _
    (λ w. agrees_last (arms_jump_fault f (spend (locals_of types f) marks x) arms) (arms_jump_checks types f (use_of (is_owned types f) s x) arms)
    (arms_jump_agrees types f (spend (locals_of types f) marks x) (use_of (is_owned types f) s x) arms (track_spend types f marks s x tr)))))))))
  where
    looks : look_where (is_lent_at (locals_of types f) x) arms t.cons ≡ true → LookWhere (is_lent types f x) arms t.cons
    looks h = look_is (is_lent types f x) arms t.cons (subst (λ b. look_where b arms t.cons ≡ true) (lent_is types f x) h)

    are_looked : LookWhere (is_lent types f x) arms t.cons → look_where (is_lent_at (locals_of types f) x) arms t.cons ≡ true
    are_looked h = subst (λ b. look_where b arms t.cons ≡ true) (sym (lent_is types f x)) (is_looked (is_lent types f x) arms t.cons h)

    distinct : list_all (λ a. are_distinct (bound_by a)) arms ≡ true → AllByRecursion (λ a. AreDistinct (bound_by a)) arms
    distinct h = all_then (λ a. are_distinct (bound_by a) ≡ true) (λ a. AreDistinct (bound_by a)) arms (λ a. distinct_is (bound_by a)) (all_true (λ a. are_distinct (bound_by a)) arms h)

    are_all_distinct : AllByRecursion (λ a. AreDistinct (bound_by a)) arms → list_all (λ a. are_distinct (bound_by a)) arms ≡ true
    are_all_distinct h = true_all (λ a. are_distinct (bound_by a)) arms (all_then (λ a. AreDistinct (bound_by a)) (λ a. are_distinct (bound_by a) ≡ true) arms (λ a. is_distinct (bound_by a)) h)

    own : list_all (λ a. are_not_lent (locals_of types f) (bound_anew a.cell (bound_by a))) arms ≡ true → AllByRecursion (λ a. AreNotLent types f (bound_anew a.cell (bound_by a))) arms
    own h = all_then (λ a. are_not_lent (locals_of types f) (bound_anew a.cell (bound_by a)) ≡ true) (λ a. AreNotLent types f (bound_anew a.cell (bound_by a))) arms
        (λ a. own_are types f (bound_anew a.cell (bound_by a))) (all_true (λ a. are_not_lent (locals_of types f) (bound_anew a.cell (bound_by a))) arms h)

    are_all_own : AllByRecursion (λ a. AreNotLent types f (bound_anew a.cell (bound_by a))) arms → list_all (λ a. are_not_lent (locals_of types f) (bound_anew a.cell (bound_by a))) arms ≡ true
    are_all_own h = true_all (λ a. are_not_lent (locals_of types f) (bound_anew a.cell (bound_by a))) arms
        (all_then (λ a. AreNotLent types f (bound_anew a.cell (bound_by a))) (λ a. are_not_lent (locals_of types f) (bound_anew a.cell (bound_by a)) ≡ true) arms (λ a. are_own types f (bound_anew a.cell (bound_by a))) h)

plain_jump : (types : List DataType) (f : Func) (marks : List Mark) (s : State) (b : ℕ) → Tracks types f marks s
    → Front ⊤ (jump_fault f marks [] b) (jump_checks s (params_at f.blocks b))
plain_jump types f marks s b t = front_jump types f (is_owned types f) marks s [] (params_at f.blocks b) t

term_agrees : (p : Code) (f : Func) (number : ℕ) (marks : List Mark) (s : State) (e : Term) → Tracks p.types f marks s
    → Agrees (term_fault p f (locals_of p.types f) number marks e) (term_checks p f number s e)
term_agrees p f number marks s (Ret x) t =
    front_must (is_local (locals_of p.types f) x) fault.NoSuchEntry (IsThere f x) (local_is p.types f x) (is_a_local p.types f x) _ _
    (λ q. agrees_last (operand_fault (locals_of p.types f) marks x f.result) (operand_checks p.types f s x f.result NoMore) (front_alone ⊤ (operand_fault (locals_of p.types f) marks x f.result) (operand_checks p.types f s x f.result) (front_operand p.types f marks s x f.result t)))
term_agrees p f number marks s (Tail func args) t =
    front_must (list_all (is_local (locals_of p.types f)) args) fault.NoSuchEntry (AreThere f args) (locals_are p.types f args) (are_locals p.types f args) _ _
    (λ q. agrees_last (callee_fault f (locals_of p.types f) marks (slice_get p.funcs func) args) _ (by_func (slice_get p.funcs func)))
  where
    by_func : (o : Option Func) → Agrees (callee_fault f (locals_of p.types f) marks o args)
        (of_entry o fault.NoSuchEntry (λ callee. arguments_checks p.types f s callee.reads args callee.params (Must (callee.result ≡ f.result) fault.Kind NoMore)))
    by_func None = inl ((λ e. e), refl)
    by_func (Some callee) =
        front_arguments p.types f marks s callee.reads args callee.params t _ _
        (λ q. agrees_last (unless (same_kind callee.result f.result) fault.Kind) (Must (callee.result ≡ f.result) fault.Kind NoMore)
        (front_alone (callee.result ≡ f.result) (unless (same_kind callee.result f.result) fault.Kind) (Must (callee.result ≡ f.result) fault.Kind)
        (front_must (same_kind callee.result f.result) fault.Kind (callee.result ≡ f.result) (kinds_same callee.result f.result) (same_kinds_true callee.result f.result))))
term_agrees p f number marks s (Goto b) t =
    front_must (is_block f b) fault.NoSuchEntry (IsBlock f b) (block_is f b) (is_a_block f b) _ _
    (λ q. front_must (nat_lt number b) fault.Backward (number < b) (below number b) (is_below number b) _ _
    (λ r. agrees_last (jump_fault f marks [] b) (jump_checks s (params_at f.blocks b) NoMore) (front_alone ⊤ (jump_fault f marks [] b) (jump_checks s (params_at f.blocks b)) (plain_jump p.types f marks s b t))))
term_agrees p f number marks s (If x first second) t =
    let spent = spend (locals_of p.types f) marks x in
    let used = use_of (is_owned p.types f) s x in
    let tracked = track_spend p.types f marks s x t in
    front_must (is_local (locals_of p.types f) x && is_block f first && is_block f second) fault.NoSuchEntry (IsThere f x × IsBlock f first × IsBlock f second) to from _ _
    (λ q. front_must (nat_lt number first && nat_lt number second) fault.Backward ((number < first) × (number < second)) forward is_forward _ _
    (λ r. front_operand p.types f marks s x kind.Flag t _ _
    (λ u. plain_jump p.types f spent used first tracked _ _
    (λ v. agrees_last (jump_fault f spent [] second) (jump_checks used (params_at f.blocks second) NoMore) (front_alone ⊤ (jump_fault f spent [] second) (jump_checks used (params_at f.blocks second)) (plain_jump p.types f spent used second tracked))))))
  where
    to : (is_local (locals_of p.types f) x && is_block f first && is_block f second) ≡ true → IsThere f x × IsBlock f first × IsBlock f second
    to h = let (a, c) = both (is_local (locals_of p.types f) x && is_block f first) (is_block f second) h in let (d, e) = both (is_local (locals_of p.types f) x) (is_block f first) a in
        (local_is p.types f x d, block_is f first e, block_is f second c)

    from : IsThere f x × IsBlock f first × IsBlock f second → (is_local (locals_of p.types f) x && is_block f first && is_block f second) ≡ true
    from h = join (is_local (locals_of p.types f) x && is_block f first) (is_block f second) (join (is_local (locals_of p.types f) x) (is_block f first) (is_a_local p.types f x h.0) (is_a_block f first h.1)) (is_a_block f second h.2)

    forward : (nat_lt number first && nat_lt number second) ≡ true → (number < first) × (number < second)
    forward h = let (a, b) = both (nat_lt number first) (nat_lt number second) h in (below number first a, below number second b)

    is_forward : (number < first) × (number < second) → (nat_lt number first && nat_lt number second) ≡ true
    is_forward h = join (nat_lt number first) (nat_lt number second) (is_below number first h.0) (is_below number second h.1)
term_agrees p f number marks s (Case x arms) t =
    front_must (is_local (locals_of p.types f) x && list_all (arm_is_there f (locals_of p.types f)) arms) fault.NoSuchEntry (IsThere f x × AllByRecursion (ArmIsThere f) arms) to from _ _
    (λ q. front_must (list_all (λ a. nat_lt number a.target) arms) fault.Backward (AllByRecursion (λ a. number < a.target) arms) forward is_forward _ _
    (λ r. agrees_last (arms_fault f (locals_of p.types f) marks x (data_type p.types (kind_at (locals_of p.types f) x)) arms) _
    (subst (λ o. Agrees (arms_fault f (locals_of p.types f) marks x (data_type p.types o) arms) (of_entry (data_type p.types (kind_of f x)) fault.Kind (arms_checks p.types f s x arms))) (sym (kind_is p.types f x))
    (arms_agree p.types f marks s x (data_type p.types (kind_of f x)) arms t))))
  where
    to : (is_local (locals_of p.types f) x && list_all (arm_is_there f (locals_of p.types f)) arms) ≡ true → IsThere f x × AllByRecursion (ArmIsThere f) arms
    to h = let (a, b) = both (is_local (locals_of p.types f) x) (list_all (arm_is_there f (locals_of p.types f)) arms) h in
        (local_is p.types f x a, all_then (λ m. arm_is_there f (locals_of p.types f) m ≡ true) (ArmIsThere f) arms (arm_is p.types f) (all_true (arm_is_there f (locals_of p.types f)) arms b))

    from : IsThere f x × AllByRecursion (ArmIsThere f) arms → (is_local (locals_of p.types f) x && list_all (arm_is_there f (locals_of p.types f)) arms) ≡ true
    from h = join (is_local (locals_of p.types f) x) (list_all (arm_is_there f (locals_of p.types f)) arms) (is_a_local p.types f x h.0)
        (true_all (arm_is_there f (locals_of p.types f)) arms (all_then (ArmIsThere f) (λ m. arm_is_there f (locals_of p.types f) m ≡ true) arms (is_an_arm p.types f) h.1))

    forward : list_all (λ a. nat_lt number a.target) arms ≡ true → AllByRecursion (λ a. number < a.target) arms
    forward h = all_then (λ a. nat_lt number a.target ≡ true) (λ a. number < a.target) arms (λ a. below number a.target) (all_true (λ a. nat_lt number a.target) arms h)

    is_forward : AllByRecursion (λ a. number < a.target) arms → list_all (λ a. nat_lt number a.target) arms ≡ true
    is_forward h = true_all (λ a. nat_lt number a.target) arms (all_then (λ a. number < a.target) (λ a. nat_lt number a.target ≡ true) arms (λ a. is_below number a.target) h)

-- ---- headers and types

header_agrees : (types : List DataType) (f : Func) (number : ℕ) (params : List ℕ)
    → Agrees (block_header_fault f (locals_of types f) number params) (header_checks f number params)
header_agrees types f number params =
    front_must (list_all (is_local (locals_of types f)) params) fault.NoSuchEntry (AreThere f params) (locals_are types f params) (are_locals types f params) _ _
    (λ q. agrees_last (unless (ascends_from 0 params && entry_fits f number params) fault.Header) _
    (front_alone (Ascend params × (number ≡ 0 → params ≡ _)) (unless (ascends_from 0 params && entry_fits f number params) fault.Header) (Must (Ascend params × (number ≡ 0 → params ≡ _)) fault.Header)
    (front_must (ascends_from 0 params && entry_fits f number params) fault.Header (Ascend params × (number ≡ 0 → params ≡ _))
    (λ h. let (a, b) = both (ascends_from 0 params) (entry_fits f number params) h in (ascends_is 0 params a, entry_is f number params b))
    (λ h. join (ascends_from 0 params) (entry_fits f number params) (is_ascending_all params h.0) (is_entry f number params h.1)))))

new_is : (b : Bool) → not b ≡ true → b ≡ false
new_is b h = not_true b h

param_is : (types : List DataType) (f : Func) (x : ℕ) → param_lends types f x ≡ true → is_lent types f x ≡ true → (is_marked f x ≡ true) × (is_heap types f.result ≡ false)
param_is types f x h e =
    let k = both (is_marked f x) (not (is_heap types f.result)) (sym (ap (λ b. not b || (is_marked f x && not (is_heap types f.result))) (lent_is types f x ∙ e)) ∙ h) in
    (k.0, not_true (is_heap types f.result) k.1)

is_param : (types : List DataType) (f : Func) (x : ℕ) → (is_lent types f x ≡ true → (is_marked f x ≡ true) × (is_heap types f.result ≡ false)) → param_lends types f x ≡ true
is_param types f x h = by_lent (is_lent types f x) refl
  where
    by_lent : (b : Bool) → is_lent types f x ≡ b → param_lends types f x ≡ true
    by_lent false e = ap (λ b. not b || (is_marked f x && not (is_heap types f.result))) (lent_is types f x ∙ e)
    by_lent true e = let k = h e in
        ap (λ b. not b || (is_marked f x && not (is_heap types f.result))) (lent_is types f x ∙ e) ∙ join (is_marked f x) (not (is_heap types f.result)) k.0 (true_not (is_heap types f.result) k.1)

params_are : (types : List DataType) (f : Func) (y : ℕ) (qs : List Kind) → lends_from types f y qs ≡ true → (i : ℕ) → i < length qs → param_lends types f (y + i) ≡ true
params_are types f y [] h i less = absurd (omega (arith, less))
params_are types f y (q ∷ qs) h zero less = let same : y ≡ y + 0 = omega arith in subst (λ n. param_lends types f n ≡ true) same (both (param_lends types f y) (lends_from types f (suc y) qs) h).0
params_are types f y (q ∷ qs) h (suc i) less =
    let same : suc y + i ≡ y + suc i = omega arith in subst (λ n. param_lends types f n ≡ true) same (params_are types f (suc y) qs (both (param_lends types f y) (lends_from types f (suc y) qs) h).1 i (omega (arith, less)))

are_params : (types : List DataType) (f : Func) (y : ℕ) (qs : List Kind) → ((i : ℕ) → i < length qs → param_lends types f (y + i) ≡ true) → lends_from types f y qs ≡ true
are_params types f y [] h = refl
are_params types f y (q ∷ qs) h =
    let same : y + 0 ≡ y = omega arith in
    join (param_lends types f y) (lends_from types f (suc y) qs) (subst (λ n. param_lends types f n ≡ true) same (h 0 (omega arith)))
    (are_params types f (suc y) qs (λ i less. let next : y + suc i ≡ suc y + i = omega arith in subst (λ n. param_lends types f n ≡ true) next (h (suc i) (omega (arith, less)))))

lends_is : (types : List DataType) (f : Func) → lends_rightly types f ≡ true → LendsRightly types f
lends_is types f h = λ x less e. (let same : 0 + x ≡ x = omega arith in param_is types f x (subst (λ n. param_lends types f n ≡ true) same (params_are types f 0 f.params h x less)) e)

is_lends : (types : List DataType) (f : Func) → LendsRightly types f → lends_rightly types f ≡ true
is_lends types f h = are_params types f 0 f.params (λ i less. let same : i ≡ 0 + i = omega arith in subst (λ n. param_lends types f n ≡ true) same (is_param types f i (h i less)))

func_agrees : (types : List DataType) (earlier : List (List ℕ)) (f : Func)
    → Agrees (header_fault types (not (stands earlier f.name)) f) (func_checks types earlier f)
func_agrees types earlier f =
    front_must (not (stands earlier f.name)) fault.Name (stands earlier f.name ≡ false) (not_true (stands earlier f.name)) (true_not (stands earlier f.name)) _ _
    (λ q. front_must (list_all (is_known types) f.params && is_known types f.result && list_all (is_known types) f.locals) fault.NoSuchEntry
    (AllByRecursion (IsKnownKind types) f.params × IsKnownKind types f.result × AllByRecursion (IsKnownKind types) f.locals) to from _ _
    (λ r. agrees_last (unless (lends_rightly types f) fault.Lent) (Must (LendsRightly types f) fault.Lent NoMore)
    (front_alone (LendsRightly types f) (unless (lends_rightly types f) fault.Lent) (Must (LendsRightly types f) fault.Lent)
    (front_must (lends_rightly types f) fault.Lent (LendsRightly types f) (lends_is types f) (is_lends types f)))))
  where
    to : (list_all (is_known types) f.params && is_known types f.result && list_all (is_known types) f.locals) ≡ true
        → AllByRecursion (IsKnownKind types) f.params × IsKnownKind types f.result × AllByRecursion (IsKnownKind types) f.locals
    to h = let (a, c) = both (list_all (is_known types) f.params && is_known types f.result) (list_all (is_known types) f.locals) h in let (d, e) = both (list_all (is_known types) f.params) (is_known types f.result) a in
        (all_known types f.params d, known_is types f.result e, all_known types f.locals c)

    from : AllByRecursion (IsKnownKind types) f.params × IsKnownKind types f.result × AllByRecursion (IsKnownKind types) f.locals
        → (list_all (is_known types) f.params && is_known types f.result && list_all (is_known types) f.locals) ≡ true
    from h = join (list_all (is_known types) f.params && is_known types f.result) (list_all (is_known types) f.locals) (join (list_all (is_known types) f.params) (is_known types f.result) (known_all types f.params h.0) (is_known_kind types f.result h.1)) (known_all types f.locals h.2)

front_con : (types : List DataType) (earlier : List (List ℕ)) (c : Constructor) → Front ⊤ (constructor_fault types (not (stands earlier c.name)) c)
    (λ rest. Must (stands earlier c.name ≡ false) fault.Name (Must (AllByRecursion (IsKnownKind types) c.fields) fault.NoSuchEntry rest))
front_con types earlier c =
    front_weak ((stands earlier c.name ≡ false) × AllByRecursion (IsKnownKind types) c.fields) ⊤ (constructor_fault types (not (stands earlier c.name)) c) _ (λ p. tt)
    (front_then (stands earlier c.name ≡ false) (AllByRecursion (IsKnownKind types) c.fields) (unless (not (stands earlier c.name)) fault.Name) (option_or (unless (list_all (is_known types) c.fields) fault.NoSuchEntry) None)
    (Must (stands earlier c.name ≡ false) fault.Name) (Must (AllByRecursion (IsKnownKind types) c.fields) fault.NoSuchEntry)
    (front_must (not (stands earlier c.name)) fault.Name (stands earlier c.name ≡ false) (not_true (stands earlier c.name)) (true_not (stands earlier c.name)))
    (λ p. front_last (AllByRecursion (IsKnownKind types) c.fields) (unless (list_all (is_known types) c.fields) fault.NoSuchEntry) (Must (AllByRecursion (IsKnownKind types) c.fields) fault.NoSuchEntry)
    (front_must (list_all (is_known types) c.fields) fault.NoSuchEntry (AllByRecursion (IsKnownKind types) c.fields) (all_known types c.fields) (known_all types c.fields))))

front_cons : (types : List DataType) (earlier : List (List ℕ)) (cs : List Constructor)
    → Front ⊤ (constructors_fault types earlier cs) (cons_checks types earlier cs)
front_cons types earlier [] = λ o rest go. go tt
front_cons types earlier (c ∷ cs) =
    front_weak (⊤ × ⊤) ⊤ (constructors_fault types earlier (c ∷ cs)) (cons_checks types earlier (c ∷ cs)) (λ p. tt)
    (front_then ⊤ ⊤ (constructor_fault types (not (stands earlier c.name)) c) (constructors_fault types (earlier ++ c.name ∷ []) cs)
    (λ rest. Must (stands earlier c.name ≡ false) fault.Name (Must (AllByRecursion (IsKnownKind types) c.fields) fault.NoSuchEntry rest)) (cons_checks types (earlier ++ c.name ∷ []) cs)
    (front_con types earlier c) (λ p. front_cons types (earlier ++ c.name ∷ []) cs))

front_type : (types : List DataType) (earlier cons : List (List ℕ)) (t : DataType)
    → Front ⊤ (type_fault types (not (stands earlier t.name)) cons t) (λ rest. Must (stands earlier t.name ≡ false) fault.Name (cons_checks types cons t.cons rest))
front_type types earlier cons t =
    front_weak ((stands earlier t.name ≡ false) × ⊤) ⊤ (type_fault types (not (stands earlier t.name)) cons t) _ (λ p. tt)
    (front_then (stands earlier t.name ≡ false) ⊤ (unless (not (stands earlier t.name)) fault.Name) (option_or (constructors_fault types cons t.cons) None) (Must (stands earlier t.name ≡ false) fault.Name) (cons_checks types cons t.cons)
    (front_must (not (stands earlier t.name)) fault.Name (stands earlier t.name ≡ false) (not_true (stands earlier t.name)) (true_not (stands earlier t.name)))
    (λ p. front_last ⊤ (constructors_fault types cons t.cons) (cons_checks types cons t.cons) (front_cons types cons t.cons)))

types_agree : (types : List DataType) (earlier cons : List (List ℕ)) (ts : List DataType)
    → Agrees (types_fault types earlier cons ts) (types_checks types earlier cons ts)
types_agree types earlier cons [] = tt
types_agree types earlier cons (t ∷ ts) =
    front_type types earlier cons t (types_fault types (earlier ++ t.name ∷ []) (cons ++ map (λ c. c.name) t.cons) ts) (types_checks types (earlier ++ t.name ∷ []) (cons ++ map (λ c. c.name) t.cons) ts)
    (λ p. types_agree types (earlier ++ t.name ∷ []) (cons ++ map (λ c. c.name) t.cons) ts)

-- ---- places

abbrev pub WalkAgrees : Option CodeFault → Walk → Type 0
WalkAgrees None w = AllPass w
WalkAgrees (Some e) w = FirstFault w e

at_agrees : (func number place : ℕ) (o : Option CodeKind) (checks : Checks) (r : Option CodeFault) (rest : Walk) → Agrees o checks
    → (Pass checks → WalkAgrees r rest) → WalkAgrees (option_or (at_place func number place o) r) (At func number place checks rest)
at_agrees func number place (Some k) checks r rest a go = inl (a, refl)
at_agrees func number place None checks None rest a go = (a, go a)
at_agrees func number place None checks (Some e) rest a go = inr (a, go a)

walk_grouped : (a b r : Option CodeFault) → option_or (option_or a b) r ≡ option_or a (option_or b r)
walk_grouped None b r = refl
walk_grouped (Some e) b r = refl

walk_nothing : (a : Option CodeFault) → option_or a None ≡ a
walk_nothing None = refl
walk_nothing (Some e) = refl

lets_agree : (p : Code) (f : Func) (func number place : ℕ) (marks : List Mark) (s : State) (ls : List Let) (next : State → Walk) (r : Option CodeFault) → Tracks p.types f marks s
    → ((last : State) → Tracks p.types f (after_lets p (locals_of p.types f) marks ls) last → WalkAgrees r (next last))
    → WalkAgrees (option_or (lets_fault p (locals_of p.types f) func number place marks ls) r) (lets_walk p f func number place s ls next)
lets_agree p f func number place marks s [] next r t go = go s t
lets_agree p f func number place marks s (l ∷ ls) next r t go =
    subst (λ o. WalkAgrees o (lets_walk p f func number place s (l ∷ ls) next))
    (sym (walk_grouped (at_place func number place (let_fault p (locals_of p.types f) marks l)) (lets_fault p (locals_of p.types f) func number (suc place) (after_let p (locals_of p.types f) marks l) ls) r))
    (at_agrees func number place (let_fault p (locals_of p.types f) marks l) (let_checks p f s l) _ _ (let_agrees p f marks s l t)
    (λ pass. lets_agree p f func number (suc place) (after_let p (locals_of p.types f) marks l) (state_after_let (reads_of p) (is_owned p.types f) s l) ls next r (track_let p f marks s l t pass.0.0) go))

block_agrees : (p : Code) (f : Func) (func number : ℕ) (b : Block) (r : Option CodeFault) (rest : Walk) → WalkAgrees r rest
    → WalkAgrees (option_or (block_fault p f (locals_of p.types f) func number b) r) (block_walk p f func number b rest)
block_agrees p f func number b r rest a =
    let locals = locals_of p.types f in
    let header = at_place func number 0 (block_header_fault f locals number b.params) in
    let lets = lets_fault p locals func number 1 (at_start locals b) b.lets in
    let end = at_place func number (suc (length b.lets)) (term_fault p f locals number (after_lets p locals (at_start locals b) b.lets) b.term) in
    let grouped : option_or (option_or header (option_or lets (option_or end None))) r ≡ option_or header (option_or lets (option_or end r)) =
    walk_grouped header (option_or lets (option_or end None)) r ∙ ap (option_or header) (walk_grouped lets (option_or end None) r ∙ ap (λ o. option_or lets (option_or o r)) (walk_nothing end)) in
    subst (λ o. WalkAgrees o (block_walk p f func number b rest)) (sym grouped)
    (at_agrees func number 0 (block_header_fault f locals number b.params) (header_checks f number b.params) (option_or lets (option_or end r)) _ (header_agrees p.types f number b.params)
    (λ pass. lets_agree p f func number 1 (at_start locals b) (state_at_start (is_owned p.types f) b) b.lets _ (option_or end r)
    (track_binds p.types f (is_owned p.types f) (unbound locals) nothing_bound b.params (track_nothing p.types f) pass.0)
    (λ last t. at_agrees func number (suc (length b.lets)) (term_fault p f locals number (after_lets p locals (at_start locals b) b.lets) b.term) (term_checks p f number last b.term) r rest
    (term_agrees p f number (after_lets p locals (at_start locals b) b.lets) last b.term t) (λ q. a))))

blocks_agree : (p : Code) (f : Func) (func number : ℕ) (bs : List Block) (r : Option CodeFault) (rest : Walk) → WalkAgrees r rest
    → WalkAgrees (option_or (blocks_fault p f (locals_of p.types f) func number bs) r) (blocks_walk p f func number bs rest)
blocks_agree p f func number [] r rest a = a
blocks_agree p f func number (b ∷ bs) r rest a =
    subst (λ o. WalkAgrees o (blocks_walk p f func number (b ∷ bs) rest)) (sym (walk_grouped (block_fault p f (locals_of p.types f) func number b) (blocks_fault p f (locals_of p.types f) func (suc number) bs) r))
    (block_agrees p f func number b (option_or (blocks_fault p f (locals_of p.types f) func (suc number) bs) r) (blocks_walk p f func (suc number) bs rest) (blocks_agree p f func (suc number) bs r rest a))

funcs_agree : (p : Code) (func : ℕ) (earlier : List (List ℕ)) (fs : List Func) → WalkAgrees (functions_fault p func earlier fs) (funcs_walk p func earlier fs)
funcs_agree p func earlier [] = tt
funcs_agree p func earlier (f ∷ fs) =
    let header = at_place func 0 0 (header_fault p.types (not (stands earlier f.name)) f) in
    let blocks = blocks_fault p f (locals_of p.types f) func 0 f.blocks in
    let others = functions_fault p (suc func) (earlier ++ f.name ∷ []) fs in
    let grouped : option_or (option_or header (option_or blocks None)) others ≡ option_or header (option_or blocks others) = walk_grouped header (option_or blocks None) others ∙ ap (λ o. option_or header (option_or o others)) (walk_nothing blocks) in
    subst (λ o. WalkAgrees o (funcs_walk p func earlier (f ∷ fs))) (sym grouped)
    (at_agrees func 0 0 (header_fault p.types (not (stands earlier f.name)) f) (func_checks p.types earlier f) (option_or blocks others) _ (func_agrees p.types earlier f)
    (λ pass. blocks_agree p f func 0 f.blocks others (funcs_walk p (suc func) (earlier ++ f.name ∷ []) fs) (funcs_agree p (suc func) (earlier ++ f.name ∷ []) fs)))

-- What the code finds is what the walk says.
pub found_agrees : (p : Code) → WalkAgrees (first_fault p) (walk p)
unfolding walk
found_agrees p =
    at_agrees (length p.funcs) 0 0 (types_fault p.types [] [] p.types) (types_checks p.types [] [] p.types) (functions_fault p 0 [] p.funcs) (funcs_walk p 0 [] p.funcs) (types_agree p.types [] [] p.types) (λ pass. funcs_agree p 0 [] p.funcs)

-- ---- one fault at most

fails_once : (c : Checks) (j k : CodeKind) → Fails c j → Fails c k → j ≡ k
fails_once NoMore j k a b = absurd a
fails_once (Must P f rest) j k (inl a) (inl b) = sym a.1 ∙ b.1
fails_once (Must P f rest) j k (inl a) (inr b) = absurd (a.0 b.0)
fails_once (Must P f rest) j k (inr a) (inl b) = absurd (b.0 a.0)
fails_once (Must P f rest) j k (inr a) (inr b) = fails_once rest j k a.1 b.1

pass_or_fail : (c : Checks) (k : CodeKind) → Pass c → Fails c k → ⊥
pass_or_fail NoMore k a b = b
pass_or_fail (Must P f rest) k a (inl b) = b.0 a.0
pass_or_fail (Must P f rest) k a (inr b) = pass_or_fail rest k a.1 b.1

pub one_fault : (w : Walk) (d e : CodeFault) → FirstFault w d → FirstFault w e → d ≡ e
one_fault Finished d e a b = absurd a
one_fault (At func number place checks rest) d e (inl a) (inl b) =
    a.1 ∙ ap (λ k. record { func = func; block = number; place = place; kind = k }) (fails_once checks d.kind e.kind a.0 b.0) ∙ sym b.1
one_fault (At func number place checks rest) d e (inl a) (inr b) = absurd (pass_or_fail checks d.kind b.0 a.0)
one_fault (At func number place checks rest) d e (inr a) (inl b) = absurd (pass_or_fail checks e.kind a.0 b.0)
one_fault (At func number place checks rest) d e (inr a) (inr b) = one_fault rest d e a.1 b.1

pub faultless : (w : Walk) (e : CodeFault) → AllPass w → FirstFault w e → ⊥
faultless Finished e a b = b
faultless (At func number place checks rest) e a (inl b) = pass_or_fail checks e.kind a.0 b.0
faultless (At func number place checks rest) e a (inr b) = faultless rest e a.1 b.1
