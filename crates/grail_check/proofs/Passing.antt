-- All checks of the walk pass exactly in well-formed code.
use Rattle.std.proofs.Common.{◌≡◌, ℕ, zero, suc, ◌<◌, Bool, true, false, List, [], ◌∷◌, ◌++◌, length, map, Option, Some, None, refl, sym, ap, ◌∙◌, subst, arith, append_assoc, append-nil}
use Rattle.std.specs.Prelude.{◌==◌, ◌&&◌, ◌||◌, IsSomeAnd, slice_get, if◌then◌else◌}
use Rattle.std.specs.List.{AllByRecursion}
use Rattle.std.specs.Option.{option_map, option_map_or}
use Rattle.std.proofs.lemmas.Bool.Decides.{nat_tests}
use Rattle.std.proofs.lemmas.List.{length-map}
use Rattle.std.proofs.lemmas.Option.{slice_get_within}
use Rattle.camelot_values.specs.Kinds.{Constructor, DataType, constructor, constructors, type_of}
use Rattle.camelot_values.specs.Names.{stands}
use Rattle.camelot_values.specs.NameLaws.{AreNew, new_distinct, distinct_new}
use Rattle.camelot_values.specs.declared.kinds.Kind.{Kind}
use Rattle.camelot_values.specs.declared.kinds.Kind.TheVariants as kind
use Rattle.grail_blocks.specs.declared.blocks.Place.{Place}
use Rattle.grail_blocks.specs.declared.blocks.Place.TheVariants as place
use Rattle.grail_blocks.specs.declared.blocks.CaseCell.{CaseCell}
use Rattle.grail_blocks.specs.declared.blocks.CaseCell.TheVariants as cell
use Rattle.grail_blocks.specs.States.{Status, Unbound, Ready, Spent, State, use_of, after, AreReady, at_start, after_let, after_lets, LetsReady}
use Rattle.grail_blocks.specs.StateLaws.{AllReady, ready_first, ready_second, ready_both, ready_binds, uses_ready, all_used_ready}
use Rattle.grail_code.specs.Code.{Op, Lit, Flag, Copy, Prim, Make, Call, Let, CaseArm, Term, Ret, Tail, Goto, If, Case, Block, Func, Code}
use Rattle.grail_code.specs.WellFormed.{IsKnownKind, local_kinds, kind_of, HaveKinds, is_owned, is_lent, AreNotLent, bound_anew, reads_of, operator_kind, PlaceFits, Gives, LetFits, CellFits, ArmsFit, data_type, TermFits, takes, LetLends, CellLends, ArmLends, TermLends, BlockFits, BlocksFit, FuncFits, IsWellFormed, Ascend, AreDistinct, Event, Use, Look, Bind, taken_by, read_by, argument_events, taken, operands_of, uses_of, let_events, term_events, kept_diamond, bound_by, params_at, jump_events, ways}
use Rattle.grail_check.specs.declared.fault.CodeKind.TheVariants as fault
use Rattle.grail_check.specs.Walk.{Checks, NoMore, Must, Pass, of_entry, IsThere, AreThere, use_checks, own_check, operand_checks, operands_checks, again_checks, arguments_checks, taken_checks, IsPlaceOf, target_check, op_checks, let_checks, jump_checks, ArmIsThere, ArmsCount, LooksWhere, LookWhere, IsCellOf, AreCellsOf, KeepsDiamond, ArmsBindKinds, arms_jump_checks, arms_checks, term_checks, cons_checks, types_checks, Walk, At, AllPass, lets_walk, block_walk, blocks_walk, funcs_walk, walk}
use Rattle.grail_check.proofs.Checks.{all_both, all_front, all_back}
use Rattle.grail_check.proofs.Distinct.{ascend_parts}
use Rattle.grail_check.proofs.LetLaws.{not_true, true_not, some_and, and_some}

-- ---- one use

ready_of : (m : Status) → (m ≡ Unbound → ⊥) → (m ≡ Spent → ⊥) → m ≡ Ready
ready_of Unbound u v = absurd (u refl)
ready_of Ready u v = refl
ready_of Spent u v = absurd (v refl)

bound_if_ready : (m : Status) → m ≡ Ready → m ≡ Unbound → ⊥
bound_if_ready m r u = let k : Ready ≡ Unbound = sym r ∙ u in absurd cc

unspent_if_ready : (m : Status) → m ≡ Ready → m ≡ Spent → ⊥
unspent_if_ready m r u = let k : Ready ≡ Spent = sym r ∙ u in absurd cc

use_passes : (s : State) (x : ℕ) (rest : Checks) → Pass (use_checks s x rest) → (s x ≡ Ready) × Pass rest
use_passes s x rest h = (ready_of (s x) h.0 h.1.0, h.1.1)

pass_use : (s : State) (x : ℕ) (rest : Checks) → s x ≡ Ready → Pass rest → Pass (use_checks s x rest)
pass_use s x rest r h = (bound_if_ready (s x) r, (unspent_if_ready (s x) r, h))

record Operand (types : List DataType) (f : Func) (s : State) (x : ℕ) (q : Kind) : Type 0 where
  ready : s x ≡ Ready
  own : is_lent types f x ≡ false
  kind_is : kind_of f x ≡ Some q

operand_passes : (types : List DataType) (f : Func) (s : State) (x : ℕ) (q : Kind) (rest : Checks) → Pass (operand_checks types f s x q rest)
    → Operand types f s x q × Pass rest
operand_passes types f s x q rest h =
    let u = use_passes s x (own_check types f x (Must (kind_of f x ≡ Some q) fault.Kind rest)) h in
    (record { ready = u.0; own = u.1.0; kind_is = u.1.1.0 }, u.1.1.1)

pass_operand : (types : List DataType) (f : Func) (s : State) (x : ℕ) (q : Kind) (rest : Checks) → Operand types f s x q → Pass rest
    → Pass (operand_checks types f s x q rest)
pass_operand types f s x q rest o h = pass_use s x (own_check types f x (Must (kind_of f x ≡ Some q) fault.Kind rest)) o.ready (o.own, (o.kind_is, h))

-- ---- arguments

-- arguments of these kinds: those that are taken aren't lent, and are used in turn
record Operands (types : List DataType) (f : Func) (s : State) (marks : List Bool) (xs : List ℕ) (qs : List Kind) : Type 0 where
  kinds : HaveKinds f xs qs
  own : AreNotLent types f (taken_by marks xs)
  uses : AreReady (is_owned types f) s (map Use (taken_by marks xs))

one_more : (f : Func) (x : ℕ) (q : Kind) (xs : List ℕ) (qs : List Kind) → kind_of f x ≡ Some q → HaveKinds f xs qs → HaveKinds f (x ∷ xs) (q ∷ qs)
one_more f x q xs qs a b = cc

operands_pass : (types : List DataType) (f : Func) (s : State) (marks : List Bool) (xs : List ℕ) (qs : List Kind) (rest : Checks) → length xs ≡ length qs
    → Pass (operands_checks types f s marks xs qs rest) → Operands types f s marks xs qs × Pass rest
operands_pass types f s [] [] [] rest e h = (record { kinds = refl; own = tt; uses = tt }, h)
operands_pass types f s (true ∷ marks) [] [] rest e h = (record { kinds = refl; own = tt; uses = tt }, h)
operands_pass types f s (false ∷ marks) [] [] rest e h = (record { kinds = refl; own = tt; uses = tt }, h)
operands_pass types f s marks [] (q ∷ qs) rest e h = absurd (omega (arith, e))
operands_pass types f s marks (x ∷ xs) [] rest e h = absurd (omega (arith, e))
operands_pass types f s [] (x ∷ xs) (q ∷ qs) rest e h =
    let o = operand_passes types f s x q (operands_checks types f (use_of (is_owned types f) s x) [] xs qs rest) h in
    let r = operands_pass types f (use_of (is_owned types f) s x) [] xs qs rest (omega (arith, e)) o.1 in
    (record { kinds = one_more f x q xs qs o.0.kind_is r.0.kinds; own = (o.0.own, all_taken types f xs r.0.own); uses = (o.0.ready, all_used types f (use_of (is_owned types f) s x) xs r.0.uses) }, r.1)
  where
    all_taken : (types : List DataType) (f : Func) (xs : List ℕ) → AreNotLent types f (taken_by [] xs) → AreNotLent types f xs
    all_taken types f xs k = k

    all_used : (types : List DataType) (f : Func) (s : State) (xs : List ℕ) → AreReady (is_owned types f) s (map Use (taken_by [] xs)) → AreReady (is_owned types f) s (map Use xs)
    all_used types f s xs k = k
operands_pass types f s (false ∷ marks) (x ∷ xs) (q ∷ qs) rest e h =
    let o = operand_passes types f s x q (operands_checks types f (use_of (is_owned types f) s x) marks xs qs rest) h in
    let r = operands_pass types f (use_of (is_owned types f) s x) marks xs qs rest (omega (arith, e)) o.1 in
    (record { kinds = one_more f x q xs qs o.0.kind_is r.0.kinds; own = (o.0.own, r.0.own); uses = (o.0.ready, r.0.uses) }, r.1)
operands_pass types f s (true ∷ marks) (x ∷ xs) (q ∷ qs) rest e h =
    let u = use_passes s x (Must (kind_of f x ≡ Some q) fault.Kind (operands_checks types f s marks xs qs rest)) h in
    let r = operands_pass types f s marks xs qs rest (omega (arith, e)) u.1.1 in
    (record { kinds = one_more f x q xs qs u.1.0 r.0.kinds; own = r.0.own; uses = r.0.uses }, r.1)

again_passes : (s : State) (xs : List ℕ) (rest : Checks) → Pass (again_checks s xs rest) → AllReady s xs × Pass rest
again_passes s [] rest h = (tt, h)
again_passes s (x ∷ xs) rest h =
    let u = use_passes s x (again_checks s xs rest) h in
    let r = again_passes s xs rest u.1 in
    ((u.0, r.0), r.1)

pass_again : (s : State) (xs : List ℕ) (rest : Checks) → AllReady s xs → Pass rest → Pass (again_checks s xs rest)
pass_again s [] rest r h = h
pass_again s (x ∷ xs) rest r h = pass_use s x (again_checks s xs rest) r.0 (pass_again s xs rest r.1 h)

looks_are_ready : (h : ℕ → Bool) (s : State) (xs : List ℕ) → AllReady s xs → AreReady h s (map Look xs)
looks_are_ready h s [] r = tt
looks_are_ready h s (x ∷ xs) r = (r.0, looks_are_ready h s xs r.1)

looks_ready : (h : ℕ → Bool) (s : State) (xs : List ℕ) → AreReady h s (map Look xs) → AllReady s xs
looks_ready h s [] r = tt
looks_ready h s (x ∷ xs) r = (r.0, looks_ready h s xs r.1)

events_ready : (h : ℕ → Bool) (s : State) (marks : List Bool) (xs : List ℕ) → AreReady h s (map Use (taken_by marks xs))
    → AreReady h (after h s (map Use (taken_by marks xs))) (map Look (read_by marks xs)) → AreReady h s (argument_events marks xs)
events_ready h s [] xs u v = u
events_ready h s (mark ∷ marks) xs u v = ready_both h s (map Use (taken_by (mark ∷ marks) xs)) (map Look (read_by (mark ∷ marks) xs)) u v

ready_events : (h : ℕ → Bool) (s : State) (marks : List Bool) (xs : List ℕ) → AreReady h s (argument_events marks xs)
    → AreReady h s (map Use (taken_by marks xs)) × AllReady (after h s (map Use (taken_by marks xs))) (read_by marks xs)
ready_events h s [] xs r = (r, tt)
ready_events h s (mark ∷ marks) xs r = (
  ready_first h s (map Use (taken_by (mark ∷ marks) xs)) (map Look (read_by (mark ∷ marks) xs)) r,
  looks_ready h (after h s (map Use (taken_by (mark ∷ marks) xs))) (read_by (mark ∷ marks) xs) (ready_second h s (map Use (taken_by (mark ∷ marks) xs)) (map Look (read_by (mark ∷ marks) xs)) r),
)

record Arguments (types : List DataType) (f : Func) (s : State) (marks : List Bool) (xs : List ℕ) (qs : List Kind) : Type 0 where
  kinds : HaveKinds f xs qs
  own : AreNotLent types f (taken_by marks xs)
  ready : AreReady (is_owned types f) s (argument_events marks xs)

arguments_pass : (types : List DataType) (f : Func) (s : State) (marks : List Bool) (xs : List ℕ) (qs : List Kind) (rest : Checks)
    → Pass (arguments_checks types f s marks xs qs rest) → Arguments types f s marks xs qs × Pass rest
arguments_pass types f s marks xs qs rest h =
    let behind = after (is_owned types f) s (map Use (taken_by marks xs)) in
    let o = operands_pass types f s marks xs qs (again_checks behind (read_by marks xs) rest) h.0 h.1 in
    let a = again_passes behind (read_by marks xs) rest o.1 in
    (record { kinds = o.0.kinds; own = o.0.own; ready = events_ready (is_owned types f) s marks xs o.0.uses (looks_are_ready (is_owned types f) behind (read_by marks xs) a.0) }, a.1)

kinds_first : (f : Func) (x : ℕ) (q : Kind) (xs : List ℕ) (qs : List Kind) → HaveKinds f (x ∷ xs) (q ∷ qs) → (kind_of f x ≡ Some q) × HaveKinds f xs qs
kinds_first f x q xs qs h = (cc, cc)

as_many : (f : Func) (xs : List ℕ) (qs : List Kind) → HaveKinds f xs qs → length xs ≡ length qs
as_many f xs qs h = sym (length-map xs (kind_of f)) ∙ ap length h ∙ length-map qs Some

pass_operands : (types : List DataType) (f : Func) (s : State) (marks : List Bool) (xs : List ℕ) (qs : List Kind) (rest : Checks) → HaveKinds f xs qs
    → AreNotLent types f (taken_by marks xs) → AreReady (is_owned types f) s (map Use (taken_by marks xs))
    → AllReady (after (is_owned types f) s (map Use (taken_by marks xs))) (read_by marks xs) → Pass rest → Pass (operands_checks types f s marks xs qs rest)
pass_operands types f s marks [] [] rest k own uses reads h = h
pass_operands types f s marks [] (q ∷ qs) rest k own uses reads h = absurd cc
pass_operands types f s marks (x ∷ xs) [] rest k own uses reads h = absurd cc
pass_operands types f s [] (x ∷ xs) (q ∷ qs) rest k own uses reads h =
    let p = kinds_first f x q xs qs k in
    pass_operand types f s x q (operands_checks types f (use_of (is_owned types f) s x) [] xs qs rest) (record { ready = uses.0; own = own.0; kind_is = p.0 })
    (pass_operands types f (use_of (is_owned types f) s x) [] xs qs rest p.1 own.1 uses.1 tt h)
pass_operands types f s (false ∷ marks) (x ∷ xs) (q ∷ qs) rest k own uses reads h =
    let p = kinds_first f x q xs qs k in
    pass_operand types f s x q (operands_checks types f (use_of (is_owned types f) s x) marks xs qs rest) (record { ready = uses.0; own = own.0; kind_is = p.0 })
    (pass_operands types f (use_of (is_owned types f) s x) marks xs qs rest p.1 own.1 uses.1 reads h)
pass_operands types f s (true ∷ marks) (x ∷ xs) (q ∷ qs) rest k own uses reads h =
    let p = kinds_first f x q xs qs k in
    pass_use s x (Must (kind_of f x ≡ Some q) fault.Kind (operands_checks types f s marks xs qs rest)) (uses_ready (is_owned types f) s (taken_by marks xs) x reads.0)
    (p.0, pass_operands types f s marks xs qs rest p.1 own uses reads.1 h)

pass_arguments : (types : List DataType) (f : Func) (s : State) (marks : List Bool) (xs : List ℕ) (qs : List Kind) (rest : Checks)
    → Arguments types f s marks xs qs → Pass rest → Pass (arguments_checks types f s marks xs qs rest)
pass_arguments types f s marks xs qs rest a h =
    let behind = after (is_owned types f) s (map Use (taken_by marks xs)) in
    let r = ready_events (is_owned types f) s marks xs a.ready in
    (as_many f xs qs a.kinds, pass_operands types f s marks xs qs (again_checks behind (read_by marks xs) rest) a.kinds a.own r.0 r.1 (pass_again behind (read_by marks xs) rest r.1 h))

-- ---- locals that are there

there : (f : Func) (x : ℕ) (q : Kind) → kind_of f x ≡ Some q → IsThere f x
there f x q e = slice_get_within (local_kinds f) x q e

all_there : (f : Func) (xs : List ℕ) (qs : List Kind) → HaveKinds f xs qs → AreThere f xs
all_there f [] qs h = tt
all_there f (x ∷ xs) [] h = absurd cc
all_there f (x ∷ xs) (q ∷ qs) h = let p = kinds_first f x q xs qs h in (there f x q p.0, all_there f xs qs p.1)

-- ---- lets

-- a let's operation, which binds this local
record Operation (p : Code) (f : Func) (s : State) (x : ℕ) (op : Op) : Type 0 where
  result : Kind
  target : kind_of f x ≡ Some result
  gives : Gives p f op result
  own : is_lent p.types f x ≡ false
  taken_own : AreNotLent p.types f (takes p op)
  ready : AreReady (is_owned p.types f) s (uses_of (reads_of p) op)

map_append : (xs ys : List ℕ) → map Use (xs ++ ys) ≡ map Use xs ++ map Use ys
map_append [] ys = refl
map_append (x ∷ xs) ys = ap (λ l. Use x ∷ l) (map_append xs ys)

taken_passes : (types : List DataType) (f : Func) (s : State) (at : Place) (inline : Bool) (rest : Checks)
    → Pass (taken_checks types f s at (Must (IsPlaceOf inline at) fault.Place rest))
    → PlaceFits f inline at × AreNotLent types f (taken at) × AreReady (is_owned types f) s (map Use (taken at)) × Pass rest
taken_passes types f s place.Inline inline rest h = (h.0, tt, tt, h.1)
taken_passes types f s place.New inline rest h = (h.0, tt, tt, h.1)
taken_passes types f s (place.Reuse d) inline rest h =
    let o = operand_passes types f s d kind.Dia (Must (inline ≡ false) fault.Place rest) h in
    ((o.1.0, o.0.kind_is), (o.0.own, tt), (o.0.ready, tt), o.1.1)

pass_taken : (types : List DataType) (f : Func) (s : State) (at : Place) (inline : Bool) (rest : Checks) → PlaceFits f inline at
    → AreNotLent types f (taken at) → AreReady (is_owned types f) s (map Use (taken at)) → Pass rest
    → Pass (taken_checks types f s at (Must (IsPlaceOf inline at) fault.Place rest))
pass_taken types f s place.Inline inline rest k own ready h = (k, h)
pass_taken types f s place.New inline rest k own ready h = (k, h)
pass_taken types f s (place.Reuse d) inline rest k own ready h =
    pass_operand types f s d kind.Dia (Must (inline ≡ false) fault.Place rest) (record { ready = ready.0; own = own.0; kind_is = k.1 }) (k.0, h)

reads_is : (p : Code) (func : ℕ) (callee : Func) → slice_get p.funcs func ≡ Some callee → reads_of p func ≡ callee.reads
reads_is p func callee e = ap (λ o. option_map_or (λ f. f.reads) o []) e

operation_passes : (p : Code) (f : Func) (s : State) (x : ℕ) (op : Op) → Pass (op_checks p f s x op) → Operation p f s x op
operation_passes p f s x (Lit z) h =
    let (q, a, b) = h.1.0 in let r : q ≡ kind.Int = cc in
    record { result = q; target = a; gives = (r, h.0); own = h.1.1.0; taken_own = tt; ready = tt }
operation_passes p f s x (Flag b) h =
    let (q, a, e) = h.0 in let r : q ≡ kind.Flag = cc in
    record { result = q; target = a; gives = r; own = h.1.0; taken_own = tt; ready = tt }
operation_passes p f s x (Copy y) h =
    let u = use_passes s y (own_check p.types f y (target_check p.types f x (kind_of f y))) h in
    let (q, a, e) = u.1.1.0 in
    record { result = q; target = a; gives = e; own = u.1.1.1.0; taken_own = (u.1.0, tt); ready = (u.0, tt) }
operation_passes p f s x (Prim op left right) h =
    let behind = use_of (is_owned p.types f) s left in
    let o = operand_passes p.types f s left kind.Int (operand_checks p.types f behind right kind.Int (target_check p.types f x (Some (operator_kind op)))) h in
    let m = operand_passes p.types f behind right kind.Int (target_check p.types f x (Some (operator_kind op))) o.1 in
    let (q, a, e) = m.1.0 in
    let r : q ≡ operator_kind op = cc in
    record {
      result = q;
      target = a;
      gives = (one_more f left kind.Int (right ∷ []) (kind.Int ∷ []) o.0.kind_is (one_more f right kind.Int [] [] m.0.kind_is refl), r);
      own = m.1.1.0;
      taken_own = (o.0.own, (m.0.own, tt));
      ready = (o.0.ready, (m.0.ready, tt));
    }
operation_passes p f s x (Make con args at) h = by_con (constructor p.types con) refl h
  where
    owner : Option Kind
    owner = option_map kind.Of (type_of p.types con)

    by_con : (o : Option Constructor) → constructor p.types con ≡ o
        → Pass (of_entry o fault.NoSuchEntry (λ c. arguments_checks p.types f s [] args c.fields (taken_checks p.types f (after (is_owned p.types f) s (map Use args)) at
        (Must (IsPlaceOf c.inline at) fault.Place (target_check p.types f x owner))))) → Operation p f s x (Make con args at)
    by_con None e k = absurd k.0
    by_con (Some c) e k =
        let behind = after (is_owned p.types f) s (map Use args) in
        let a = arguments_pass p.types f s [] args c.fields (taken_checks p.types f behind at (Must (IsPlaceOf c.inline at) fault.Place (target_check p.types f x owner))) k in
        let t = taken_passes p.types f behind at c.inline (target_check p.types f x owner) a.1 in
        let (q, b, d) = t.3.0 in
        record {
          result = q;
          target = b;
          gives = and_some (constructor p.types con) (λ c. HaveKinds f args c.fields × PlaceFits f c.inline at × (owner ≡ Some q)) c e (a.0.kinds, t.0, d);
          own = t.3.1.0;
          taken_own = all_both (λ y. is_lent p.types f y ≡ false) args (taken at) a.0.own t.1;
          ready = subst (AreReady (is_owned p.types f) s) (sym (map_append args (taken at))) (ready_both (is_owned p.types f) s (map Use args) (map Use (taken at)) a.0.ready t.2);
        }
operation_passes p f s x (Call func args) h = by_func (slice_get p.funcs func) refl h
  where
    by_func : (o : Option Func) → slice_get p.funcs func ≡ o
        → Pass (of_entry o fault.NoSuchEntry (λ callee. arguments_checks p.types f s callee.reads args callee.params (target_check p.types f x (Some callee.result)))) → Operation p f s x (Call func args)
    by_func None e k = absurd k.0
    by_func (Some callee) e k =
        let a = arguments_pass p.types f s callee.reads args callee.params (target_check p.types f x (Some callee.result)) k in
        let (q, b, d) = a.1.0 in
        let r : q ≡ callee.result = cc in
        record {
          result = q;
          target = b;
          gives = and_some (slice_get p.funcs func) (λ callee. HaveKinds f args callee.params × (q ≡ callee.result)) callee e (a.0.kinds, r);
          own = a.1.1.0;
          taken_own = subst (λ marks. AreNotLent p.types f (taken_by marks args)) (sym (reads_is p func callee e)) a.0.own;
          ready = subst (λ marks. AreReady (is_owned p.types f) s (argument_events marks args)) (sym (reads_is p func callee e)) a.0.ready;
        }

pass_target : (types : List DataType) (f : Func) (x : ℕ) (o : Option Kind) (q : Kind) → kind_of f x ≡ Some q → o ≡ Some q → is_lent types f x ≡ false
    → Pass (target_check types f x o)
pass_target types f x o q a b own = ((q, a, b), (own, tt))

pass_operation : (p : Code) (f : Func) (s : State) (x : ℕ) (op : Op) → Operation p f s x op → Pass (op_checks p f s x op)
pass_operation p f s x (Lit z) o = (o.gives.1, pass_target p.types f x (Some kind.Int) o.result o.target (ap Some (sym o.gives.0)) o.own)
pass_operation p f s x (Flag b) o = pass_target p.types f x (Some kind.Flag) o.result o.target (ap Some (sym o.gives)) o.own
pass_operation p f s x (Copy y) o =
    pass_use s y (own_check p.types f y (target_check p.types f x (kind_of f y))) o.ready.0 (o.taken_own.0, pass_target p.types f x (kind_of f y) o.result o.target o.gives o.own)
pass_operation p f s x (Prim op left right) o =
    let behind = use_of (is_owned p.types f) s left in
    let k = kinds_first f left kind.Int (right ∷ []) (kind.Int ∷ []) o.gives.0 in
    let m = kinds_first f right kind.Int [] [] k.1 in
    pass_operand p.types f s left kind.Int (operand_checks p.types f behind right kind.Int (target_check p.types f x (Some (operator_kind op))))
    (record { ready = o.ready.0; own = o.taken_own.0; kind_is = k.0 })
    (pass_operand p.types f behind right kind.Int (target_check p.types f x (Some (operator_kind op))) (record { ready = o.ready.1.0; own = o.taken_own.1.0; kind_is = m.0 })
    (pass_target p.types f x (Some (operator_kind op)) o.result o.target (ap Some (sym o.gives.1)) o.own))
pass_operation p f s x (Make con args at) o = by_con (constructor p.types con) refl o.gives
  where
    owner : Option Kind
    owner = option_map kind.Of (type_of p.types con)

    by_con : (c : Option Constructor) → constructor p.types con ≡ c → IsSomeAnd c (λ c. HaveKinds f args c.fields × PlaceFits f c.inline at × (owner ≡ Some o.result))
        → Pass (of_entry c fault.NoSuchEntry (λ c. arguments_checks p.types f s [] args c.fields (taken_checks p.types f (after (is_owned p.types f) s (map Use args)) at
        (Must (IsPlaceOf c.inline at) fault.Place (target_check p.types f x owner)))))
    by_con None e g = absurd g
    by_con (Some c) e g =
        let behind = after (is_owned p.types f) s (map Use args) in
        let r = subst (AreReady (is_owned p.types f) s) (map_append args (taken at)) o.ready in
        pass_arguments p.types f s [] args c.fields (taken_checks p.types f behind at (Must (IsPlaceOf c.inline at) fault.Place (target_check p.types f x owner)))
        (record { kinds = g.0; own = all_front (λ y. is_lent p.types f y ≡ false) args (taken at) o.taken_own; ready = ready_first (is_owned p.types f) s (map Use args) (map Use (taken at)) r })
        (pass_taken p.types f behind at c.inline (target_check p.types f x owner) g.1 (all_back (λ y. is_lent p.types f y ≡ false) args (taken at) o.taken_own)
        (ready_second (is_owned p.types f) s (map Use args) (map Use (taken at)) r) (pass_target p.types f x owner o.result o.target g.2 o.own))
pass_operation p f s x (Call func args) o = by_func (slice_get p.funcs func) refl o.gives
  where
    by_func : (c : Option Func) → slice_get p.funcs func ≡ c → IsSomeAnd c (λ callee. HaveKinds f args callee.params × (o.result ≡ callee.result))
        → Pass (of_entry c fault.NoSuchEntry (λ callee. arguments_checks p.types f s callee.reads args callee.params (target_check p.types f x (Some callee.result))))
    by_func None e g = absurd g
    by_func (Some callee) e g =
        pass_arguments p.types f s callee.reads args callee.params (target_check p.types f x (Some callee.result))
        (record {
          kinds = g.0;
          own = subst (λ marks. AreNotLent p.types f (taken_by marks args)) (reads_is p func callee e) o.taken_own;
          ready = subst (λ marks. AreReady (is_owned p.types f) s (argument_events marks args)) (reads_is p func callee e) o.ready;
        })
        (pass_target p.types f x (Some callee.result) o.result o.target (ap Some (sym g.1)) o.own)

taken_there : (f : Func) (inline : Bool) (at : Place) → PlaceFits f inline at → AreThere f (taken at)
taken_there f inline place.Inline h = tt
taken_there f inline place.New h = tt
taken_there f inline (place.Reuse d) h = (there f d kind.Dia h.1, tt)

operands_there : (p : Code) (f : Func) (op : Op) (q : Kind) → Gives p f op q → AreThere f (operands_of op)
operands_there p f (Lit z) q g = tt
operands_there p f (Flag b) q g = tt
operands_there p f (Copy y) q g = (there f y q g, tt)
operands_there p f (Prim op left right) q g = all_there f (left ∷ right ∷ []) (kind.Int ∷ kind.Int ∷ []) g.0
operands_there p f (Make con args at) q g =
    let (c, e, h) = some_and (constructor p.types con) (λ c. HaveKinds f args c.fields × PlaceFits f c.inline at × (option_map kind.Of (type_of p.types con) ≡ Some q)) g in
    all_both (IsThere f) args (taken at) (all_there f args c.fields h.0) (taken_there f c.inline at h.1)
operands_there p f (Call func args) q g =
    let (callee, e, h) = some_and (slice_get p.funcs func) (λ callee. HaveKinds f args callee.params × (q ≡ callee.result)) g in
    all_there f args callee.params h.0

-- a let that fits, whose uses do
record OneLet (p : Code) (f : Func) (s : State) (l : Let) : Type 0 where
  fits : LetFits p f l
  lends : LetLends p f l
  ready : AreReady (is_owned p.types f) s (let_events (reads_of p) l)

let_passes : (p : Code) (f : Func) (s : State) (l : Let) → Pass (let_checks p f s l) → OneLet p f s l
let_passes p f s l h =
    let o = operation_passes p f s l.target l.op h.1 in
    record {
      fits = and_some (kind_of f l.target) (Gives p f l.op) o.result o.target o.gives;
      lends = record { taken = o.taken_own; target = o.own };
      ready = ready_both (is_owned p.types f) s (uses_of (reads_of p) l.op) (Bind l.target ∷ []) o.ready tt;
    }

pass_let : (p : Code) (f : Func) (s : State) (l : Let) → OneLet p f s l → Pass (let_checks p f s l)
pass_let p f s l o =
    let (q, e, g) = some_and (kind_of f l.target) (Gives p f l.op) o.fits in (
      (there f l.target q e, operands_there p f l.op q g),
      pass_operation p f s l.target l.op (record { result = q; target = e; gives = g; own = o.lends.target; taken_own = o.lends.taken; ready = ready_first (is_owned p.types f) s (uses_of (reads_of p) l.op) (Bind l.target ∷ []) o.ready }),
    )

-- ---- jumps

jump_passes : (s : State) (xs : List ℕ) (rest : Checks) → Pass (jump_checks s xs rest) → AllReady s xs × Pass rest
jump_passes s [] rest h = (tt, h)
jump_passes s (x ∷ xs) rest h =
    let u = use_passes s x (jump_checks s xs rest) h in
    let r = jump_passes s xs rest u.1 in
    ((u.0, r.0), r.1)

pass_jump : (s : State) (xs : List ℕ) (rest : Checks) → AllReady s xs → Pass rest → Pass (jump_checks s xs rest)
pass_jump s [] rest r h = h
pass_jump s (x ∷ xs) rest r h = pass_use s x (jump_checks s xs rest) r.0 (pass_jump s xs rest r.1 h)

use_elsewhere : (h : ℕ → Bool) (s : State) (x y : ℕ) → x < y → s y ≡ Ready → use_of h s x y ≡ Ready
use_elsewhere h s x y less r = by_test (x == y) refl
  where
    by_test : (b : Bool) → (x == y) ≡ b → (if b && h x then Spent else s y) ≡ Ready
    by_test true e = let same : x ≡ y = grind (arith, nat_tests, e) in absurd (omega (arith, less, same))
    by_test false e = r

uses_elsewhere : (h : ℕ → Bool) (s : State) (x : ℕ) (ys : List ℕ) → AllByRecursion (λ y. x < y) ys → AllReady s ys → AllReady (use_of h s x) ys
uses_elsewhere h s x [] less r = tt
uses_elsewhere h s x (y ∷ ys) less r = (use_elsewhere h s x y less.0 r.0, uses_elsewhere h s x ys less.1 r.1)

-- locals that ascend are used one after the other where all of them are ready
ascending_uses : (h : ℕ → Bool) (s : State) (xs : List ℕ) → Ascend xs → AllReady s xs → AreReady h s (map Use xs)
ascending_uses h s [] a r = tt
ascending_uses h s (x ∷ xs) a r = let parts = ascend_parts x xs a in (r.0, ascending_uses h (use_of h s x) xs parts.1 (uses_elsewhere h s x xs parts.0 r.1))

abbrev Ordered : Func → Type 0
Ordered f = (b : ℕ) → Ascend (params_at f.blocks b)

-- ---- arms

abbrev arm_way : Func → CaseArm → List Event
arm_way f a = map Bind (bound_by a) ++ jump_events f.blocks a.target

arm_jumps_pass : (types : List DataType) (f : Func) (s : State) (arms : List CaseArm) → Ordered f → Pass (arms_jump_checks types f s arms)
    → AllByRecursion (AreReady (is_owned types f) s) (map (arm_way f) arms)
arm_jumps_pass types f s [] asc h = tt
arm_jumps_pass types f s (a ∷ arms) asc h =
    let bound = after (is_owned types f) s (map Bind (bound_by a)) in
    let j = jump_passes bound (params_at f.blocks a.target) (arms_jump_checks types f s arms) h in (
      ready_both (is_owned types f) s (map Bind (bound_by a)) (jump_events f.blocks a.target) (ready_binds (is_owned types f) s (bound_by a)) (ascending_uses (is_owned types f) bound (params_at f.blocks a.target) (asc a.target) j.0),
      arm_jumps_pass types f s arms asc j.1,
    )

pass_arm_jumps : (types : List DataType) (f : Func) (s : State) (arms : List CaseArm) → AllByRecursion (AreReady (is_owned types f) s) (map (arm_way f) arms)
    → Pass (arms_jump_checks types f s arms)
pass_arm_jumps types f s [] h = tt
pass_arm_jumps types f s (a ∷ arms) h =
    pass_jump (after (is_owned types f) s (map Bind (bound_by a))) (params_at f.blocks a.target) (arms_jump_checks types f s arms)
    (all_used_ready (is_owned types f) (after (is_owned types f) s (map Bind (bound_by a))) (params_at f.blocks a.target) (ready_second (is_owned types f) s (map Bind (bound_by a)) (jump_events f.blocks a.target) h.0))
    (pass_arm_jumps types f s arms h.1)

-- the tests of arms against constructors, apart from jumps
record Tests (types : List DataType) (f : Func) (number : ℕ) (lent : Bool) (arms : List CaseArm) (cs : List Constructor) : Type 0 where
  there : AllByRecursion (ArmIsThere f) arms
  forward : AllByRecursion (λ a. number < a.target) arms
  count : ArmsCount arms cs
  looks : LookWhere lent arms cs
  cells : AreCellsOf arms cs
  kinds : ArmsBindKinds f arms cs
  distinct : AllByRecursion (λ a. AreDistinct (bound_by a)) arms
  own : AllByRecursion (λ a. AreNotLent types f (bound_anew a.cell (bound_by a))) arms

cell_fits : (f : Func) (inline : Bool) (c : CaseCell) → IsCellOf inline c → KeepsDiamond f c → CellFits f inline c
cell_fits f inline cell.Inline h k = h
cell_fits f inline cell.Free h k = h
cell_fits f inline cell.Look h k = h
cell_fits f inline (cell.Keep d) h k = (h, k)

cell_lends : (lent inline : Bool) (c : CaseCell) → IsCellOf inline c → LooksWhere lent inline c → CellLends lent c
cell_lends lent inline cell.Inline h k = tt
cell_lends true inline cell.Free h k = let e : false ≡ true = sym (ap (λ b. b || false) h) ∙ k in absurd cc
cell_lends false inline cell.Free h k = refl
cell_lends true inline cell.Look h k = refl
cell_lends false inline cell.Look h k = absurd cc
cell_lends true inline (cell.Keep d) h k = let e : false ≡ true = sym (ap (λ b. b || false) h) ∙ k in absurd cc
cell_lends false inline (cell.Keep d) h k = refl

arms_are : (types : List DataType) (f : Func) (number : ℕ) (lent : Bool) (arms : List CaseArm) (cs : List Constructor) → Tests types f number lent arms cs
    → ArmsFit f number cs arms × AllByRecursion (ArmLends types f lent) arms
arms_are types f number lent [] [] t = (tt, tt)
arms_are types f number lent [] (c ∷ cs) t = let e = t.count.0 in absurd (omega (arith, e))
arms_are types f number lent (a ∷ arms) [] t = let e = t.count.0 in absurd (omega (arith, e))
arms_are types f number lent (a ∷ arms) (c ∷ cs) t =
    let e = t.count.0 in
    let r = arms_are types f number lent arms cs (record { there = t.there.1; forward = t.forward.1; count = (omega (arith, e), t.count.1.1); looks = t.looks.1; cells = t.cells.1; kinds = t.kinds.1; distinct = t.distinct.1; own = t.own.1 }) in (
      (record { fields = t.kinds.0.0; cell = cell_fits f c.inline a.cell t.cells.0 t.kinds.0.1; distinct = t.distinct.0; jump = (t.forward.0, t.there.0.2) }, r.0),
      (record { cell = cell_lends lent c.inline a.cell t.cells.0 t.looks.0; bound = t.own.0 }, r.1),
    )

kept_there : (f : Func) (inline : Bool) (c : CaseCell) → CellFits f inline c → AreThere f (kept_diamond c)
kept_there f inline cell.Inline h = tt
kept_there f inline cell.Free h = tt
kept_there f inline cell.Look h = tt
kept_there f inline (cell.Keep d) h = (there f d kind.Dia h.1, tt)

cell_of : (f : Func) (inline : Bool) (c : CaseCell) → CellFits f inline c → IsCellOf inline c × KeepsDiamond f c
cell_of f inline cell.Inline h = (h, tt)
cell_of f inline cell.Free h = (h, tt)
cell_of f inline cell.Look h = (h, tt)
cell_of f inline (cell.Keep d) h = (h.0, h.1)

or_true : (b : Bool) → (b || true) ≡ true
or_true true = refl
or_true false = refl

looks_of : (f : Func) (lent inline : Bool) (c : CaseCell) → CellFits f inline c → CellLends lent c → LooksWhere lent inline c
looks_of f true inline cell.Inline h k = ap (λ b. b || false) h
looks_of f false inline cell.Inline h k = refl
looks_of f true inline cell.Free h k = absurd cc
looks_of f false inline cell.Free h k = refl
looks_of f true inline cell.Look h k = or_true inline
looks_of f false inline cell.Look h k = absurd cc
looks_of f true inline (cell.Keep d) h k = absurd cc
looks_of f false inline (cell.Keep d) h k = refl

are_arms : (types : List DataType) (f : Func) (number : ℕ) (lent : Bool) (arms : List CaseArm) (cs : List Constructor) → ArmsFit f number cs arms
    → AllByRecursion (ArmLends types f lent) arms → Tests types f number lent arms cs
are_arms types f number lent [] [] h k = record { there = tt; forward = tt; count = (refl, tt); looks = tt; cells = tt; kinds = tt; distinct = tt; own = tt }
are_arms types f number lent [] (c ∷ cs) h k = absurd h
are_arms types f number lent (a ∷ arms) [] h k = absurd h
are_arms types f number lent (a ∷ arms) (c ∷ cs) h k =
    let t = are_arms types f number lent arms cs h.1 k.1 in
    let e = t.count.0 in
    let m = cell_of f c.inline a.cell h.0.cell in
    record {
      there = ((all_there f a.fields c.fields h.0.fields, kept_there f c.inline a.cell h.0.cell, h.0.jump.1), t.there);
      forward = (h.0.jump.0, t.forward);
      count = (ap suc e, (as_many f a.fields c.fields h.0.fields, t.count.1));
      looks = (looks_of f lent c.inline a.cell h.0.cell k.0.cell, t.looks);
      cells = (m.0, t.cells);
      kinds = ((h.0.fields, m.1), t.kinds);
      distinct = (h.0.distinct, t.distinct);
      own = (k.0.bound, t.own);
    }

-- ---- the end of a block

record OneEnd (p : Code) (f : Func) (number : ℕ) (s : State) (t : Term) : Type 0 where
  fits : TermFits p f number t
  lends : TermLends p f t
  ready : AreReady (is_owned p.types f) s (term_events (reads_of p) t)
  onward : AllByRecursion (AreReady (is_owned p.types f) (after (is_owned p.types f) s (term_events (reads_of p) t))) (ways f.blocks t)

plain_way : (f : Func) (h : ℕ → Bool) (s : State) (b : ℕ) (rest : Checks) → Ordered f → Pass (jump_checks s (params_at f.blocks b) rest)
    → AreReady h s (jump_events f.blocks b) × Pass rest
plain_way f h s b rest asc k = let j = jump_passes s (params_at f.blocks b) rest k in (ascending_uses h s (params_at f.blocks b) (asc b) j.0, j.1)

term_passes : (p : Code) (f : Func) (number : ℕ) (s : State) (t : Term) → Ordered f → Pass (term_checks p f number s t) → OneEnd p f number s t
term_passes p f number s (Ret x) asc h =
    let o = operand_passes p.types f s x f.result NoMore h.1 in
    record { fits = o.0.kind_is; lends = (o.0.own, tt); ready = (o.0.ready, tt); onward = tt }
term_passes p f number s (Tail func args) asc h = by_func (slice_get p.funcs func) refl h.1
  where
    by_func : (o : Option Func) → slice_get p.funcs func ≡ o
        → Pass (of_entry o fault.NoSuchEntry (λ callee. arguments_checks p.types f s callee.reads args callee.params (Must (callee.result ≡ f.result) fault.Kind NoMore))) → OneEnd p f number s (Tail func args)
    by_func None e k = absurd k.0
    by_func (Some callee) e k =
        let a = arguments_pass p.types f s callee.reads args callee.params (Must (callee.result ≡ f.result) fault.Kind NoMore) k in
        record {
          fits = and_some (slice_get p.funcs func) (λ callee. HaveKinds f args callee.params × (callee.result ≡ f.result)) callee e (a.0.kinds, a.1.0);
          lends = subst (λ marks. AreNotLent p.types f (taken_by marks args)) (sym (reads_is p func callee e)) a.0.own;
          ready = subst (λ marks. AreReady (is_owned p.types f) s (argument_events marks args)) (sym (reads_is p func callee e)) a.0.ready;
          onward = tt;
        }
term_passes p f number s (Goto b) asc h =
    let j = plain_way f (is_owned p.types f) s b NoMore asc h.1.1 in
    record { fits = (h.1.0, h.0); lends = tt; ready = tt; onward = (j.0, tt) }
term_passes p f number s (If x first second) asc h =
    let behind = use_of (is_owned p.types f) s x in
    let o = operand_passes p.types f s x kind.Flag (jump_checks behind (params_at f.blocks first) (jump_checks behind (params_at f.blocks second) NoMore)) h.1.1 in
    let j = plain_way f (is_owned p.types f) behind first (jump_checks behind (params_at f.blocks second) NoMore) asc o.1 in
    let k = plain_way f (is_owned p.types f) behind second NoMore asc j.1 in
    record { fits = (o.0.kind_is, (h.1.0.0, h.0.1), (h.1.0.1, h.0.2)); lends = (o.0.own, tt); ready = (o.0.ready, tt); onward = (j.0, (k.0, tt)) }
term_passes p f number s (Case x arms) asc h = by_type (data_type p.types (kind_of f x)) refl h.1.1
  where
    by_type : (o : Option DataType) → data_type p.types (kind_of f x) ≡ o → Pass (of_entry o fault.Kind (arms_checks p.types f s x arms)) → OneEnd p f number s (Case x arms)
    by_type None e k = absurd k.0
    by_type (Some t) e k =
        let behind = use_of (is_owned p.types f) s x in
        let u = use_passes s x (Must (LookWhere (is_lent p.types f x) arms t.cons) fault.Lent (Must (AreCellsOf arms t.cons) fault.Place (Must (ArmsBindKinds f arms t.cons) fault.Kind
        (Must (AllByRecursion (λ a. AreDistinct (bound_by a)) arms) fault.Header (Must (AllByRecursion (λ a. AreNotLent p.types f (bound_anew a.cell (bound_by a))) arms) fault.Lent
        (arms_jump_checks p.types f behind arms)))))) k.1 in
        let a = arms_are p.types f number (is_lent p.types f x) arms t.cons (record { there = h.0.1; forward = h.1.0; count = k.0; looks = u.1.0; cells = u.1.1.0; kinds = u.1.1.1.0; distinct = u.1.1.1.1.0; own = u.1.1.1.1.1.0 }) in
        record {
          fits = and_some (data_type p.types (kind_of f x)) (λ t. ArmsFit f number t.cons arms) t e a.0;
          lends = a.1;
          ready = (u.0, tt);
          onward = arm_jumps_pass p.types f behind arms asc u.1.1.1.1.1.1;
        }

data_there : (types : List DataType) (o : Option Kind) (t : DataType) → data_type types o ≡ Some t → (q : Kind) × (o ≡ Some q)
data_there types None t h = absurd cc
data_there types (Some q) t h = (q, refl)

pass_term : (p : Code) (f : Func) (number : ℕ) (s : State) (t : Term) → OneEnd p f number s t → Pass (term_checks p f number s t)
pass_term p f number s (Ret x) o =
    (there f x f.result o.fits, pass_operand p.types f s x f.result NoMore (record { ready = o.ready.0; own = o.lends.0; kind_is = o.fits }) tt)
pass_term p f number s (Tail func args) o = by_func (slice_get p.funcs func) refl o.fits
  where
    by_func : (c : Option Func) → slice_get p.funcs func ≡ c → IsSomeAnd c (λ callee. HaveKinds f args callee.params × (callee.result ≡ f.result))
        → AreThere f args × Pass (of_entry c fault.NoSuchEntry (λ callee. arguments_checks p.types f s callee.reads args callee.params (Must (callee.result ≡ f.result) fault.Kind NoMore)))
    by_func None e g = absurd g
    by_func (Some callee) e g = (
      all_there f args callee.params g.0,
      pass_arguments p.types f s callee.reads args callee.params (Must (callee.result ≡ f.result) fault.Kind NoMore)
          (record {
            kinds = g.0;
            own = subst (λ marks. AreNotLent p.types f (taken_by marks args)) (reads_is p func callee e) o.lends;
            ready = subst (λ marks. AreReady (is_owned p.types f) s (argument_events marks args)) (reads_is p func callee e) o.ready;
          }) (g.1, tt),
    )
pass_term p f number s (Goto b) o = (o.fits.1, (o.fits.0, pass_jump s (params_at f.blocks b) NoMore (all_used_ready (is_owned p.types f) s (params_at f.blocks b) o.onward.0) tt))
pass_term p f number s (If x first second) o =
    let behind = use_of (is_owned p.types f) s x in (
      (there f x kind.Flag o.fits.0, o.fits.1.1, o.fits.2.1),
      (
        (o.fits.1.0, o.fits.2.0),
        pass_operand p.types f s x kind.Flag (jump_checks behind (params_at f.blocks first) (jump_checks behind (params_at f.blocks second) NoMore)) (record { ready = o.ready.0; own = o.lends.0; kind_is = o.fits.0 })
            (pass_jump behind (params_at f.blocks first) (jump_checks behind (params_at f.blocks second) NoMore) (all_used_ready (is_owned p.types f) behind (params_at f.blocks first) o.onward.0)
            (pass_jump behind (params_at f.blocks second) NoMore (all_used_ready (is_owned p.types f) behind (params_at f.blocks second) o.onward.1.0) tt)),
      ),
    )
pass_term p f number s (Case x arms) o = by_type (data_type p.types (kind_of f x)) refl o.fits
  where
    by_type : (c : Option DataType) → data_type p.types (kind_of f x) ≡ c → IsSomeAnd c (λ t. ArmsFit f number t.cons arms)
        → (IsThere f x × AllByRecursion (ArmIsThere f) arms) × (AllByRecursion (λ a. number < a.target) arms × Pass (of_entry c fault.Kind (arms_checks p.types f s x arms)))
    by_type None e g = absurd g
    by_type (Some t) e g =
        let behind = use_of (is_owned p.types f) s x in
        let q = data_there p.types (kind_of f x) t e in
        let a = are_arms p.types f number (is_lent p.types f x) arms t.cons g o.lends in (
          (there f x q.0 q.1, a.there),
          (
            a.forward,
            (
              a.count,
              pass_use s x (Must (LookWhere (is_lent p.types f x) arms t.cons) fault.Lent (Must (AreCellsOf arms t.cons) fault.Place (Must (ArmsBindKinds f arms t.cons) fault.Kind
                  (Must (AllByRecursion (λ a. AreDistinct (bound_by a)) arms) fault.Header (Must (AllByRecursion (λ a. AreNotLent p.types f (bound_anew a.cell (bound_by a))) arms) fault.Lent
                  (arms_jump_checks p.types f behind arms)))))) o.ready.0
                  (a.looks, (a.cells, (a.kinds, (a.distinct, (a.own, pass_arm_jumps p.types f behind arms o.onward))))),
            ),
          ),
        )

-- ---- blocks

record Lets (p : Code) (f : Func) (s : State) (ls : List Let) : Type 0 where
  fits : AllByRecursion (LetFits p f) ls
  lends : AllByRecursion (LetLends p f) ls
  ready : LetsReady (reads_of p) (is_owned p.types f) s ls

lets_pass : (p : Code) (f : Func) (func number place : ℕ) (s : State) (ls : List Let) (next : State → Walk)
    → AllPass (lets_walk p f func number place s ls next) → Lets p f s ls × AllPass (next (after_lets (reads_of p) (is_owned p.types f) s ls))
lets_pass p f func number place s [] next h = (record { fits = tt; lends = tt; ready = tt }, h)
lets_pass p f func number place s (l ∷ ls) next h =
    let o = let_passes p f s l h.0 in
    let r = lets_pass p f func number (suc place) (after_let (reads_of p) (is_owned p.types f) s l) ls next h.1 in
    (record { fits = (o.fits, r.0.fits); lends = (o.lends, r.0.lends); ready = (o.ready, r.0.ready) }, r.1)

pass_lets : (p : Code) (f : Func) (func number place : ℕ) (s : State) (ls : List Let) (next : State → Walk) → Lets p f s ls
    → AllPass (next (after_lets (reads_of p) (is_owned p.types f) s ls)) → AllPass (lets_walk p f func number place s ls next)
pass_lets p f func number place s [] next o h = h
pass_lets p f func number place s (l ∷ ls) next o h = (
  pass_let p f s l (record { fits = o.fits.0; lends = o.lends.0; ready = o.ready.0 }),
  pass_lets p f func number (suc place) (after_let (reads_of p) (is_owned p.types f) s l) ls next (record { fits = o.fits.1; lends = o.lends.1; ready = o.ready.1 }) h,
)

block_passes : (p : Code) (f : Func) (func number : ℕ) (b : Block) (rest : Walk) → Ordered f → AllPass (block_walk p f func number b rest)
    → BlockFits p f number b × AllPass rest
block_passes p f func number b rest asc h =
    let r = lets_pass p f func number 1 (at_start (is_owned p.types f) b) b.lets (λ s. At func number (suc (length b.lets)) (term_checks p f number s b.term) rest) h.1 in
    let e = term_passes p f number (after_lets (reads_of p) (is_owned p.types f) (at_start (is_owned p.types f) b) b.lets) b.term asc r.1.0 in (
      record {
        params = h.0.0;
        ascending = h.0.1.0.0;
        entry = h.0.1.0.1;
        lets = r.0.fits;
        term = e.fits;
        lets_lend = r.0.lends;
        term_lends = e.lends;
        uses = record { lets = r.0.ready; term = e.ready; onward = e.onward };
      },
      r.1.1,
    )

pass_block : (p : Code) (f : Func) (func number : ℕ) (b : Block) (rest : Walk) → BlockFits p f number b → AllPass rest → AllPass (block_walk p f func number b rest)
pass_block p f func number b rest o h = (
  (o.params, ((o.ascending, o.entry), tt)),
  pass_lets p f func number 1 (at_start (is_owned p.types f) b) b.lets (λ s. At func number (suc (length b.lets)) (term_checks p f number s b.term) rest)
      (record { fits = o.lets; lends = o.lets_lend; ready = o.uses.lets })
      (pass_term p f number (after_lets (reads_of p) (is_owned p.types f) (at_start (is_owned p.types f) b) b.lets) b.term (record { fits = o.term; lends = o.term_lends; ready = o.uses.term; onward = o.uses.onward }), h),
)

-- what is behind a block's lets passes
behind_lets : (p : Code) (f : Func) (func number place : ℕ) (s : State) (ls : List Let) (next : State → Walk)
    → AllPass (lets_walk p f func number place s ls next) → AllPass (next (after_lets (reads_of p) (is_owned p.types f) s ls))
behind_lets p f func number place s ls next h = (lets_pass p f func number place s ls next h).1

blocks_ascend : (p : Code) (f : Func) (func number : ℕ) (bs : List Block) (rest : Walk) → AllPass (blocks_walk p f func number bs rest)
    → AllByRecursion (λ b. Ascend b.params) bs
blocks_ascend p f func number [] rest h = tt
blocks_ascend p f func number (b ∷ bs) rest h = (
  h.0.1.0.0,
  blocks_ascend p f func (suc number) bs rest
      (behind_lets p f func number 1 (at_start (is_owned p.types f) b) b.lets (λ s. At func number (suc (length b.lets)) (term_checks p f number s b.term) (blocks_walk p f func (suc number) bs rest)) h.1).1,
)

params_got : (Q : List ℕ → Type 0) (bs : List Block) (n : ℕ) → Q [] → AllByRecursion (λ b. Q b.params) bs
    → Q (option_map_or (λ block. block.params) (slice_get bs n) [])
params_got Q [] n e h = e
params_got Q (b ∷ bs) zero e h = h.0
params_got Q (b ∷ bs) (suc n) e h = params_got Q bs n e h.1

each_passes : (p : Code) (f : Func) (func number : ℕ) (bs : List Block) (rest : Walk) → Ordered f → AllPass (blocks_walk p f func number bs rest)
    → BlocksFit p f number bs × AllPass rest
each_passes p f func number [] rest asc h = (tt, h)
each_passes p f func number (b ∷ bs) rest asc h =
    let o = block_passes p f func number b (blocks_walk p f func (suc number) bs rest) asc h in
    let r = each_passes p f func (suc number) bs rest asc o.1 in
    ((o.0, r.0), r.1)

pass_each : (p : Code) (f : Func) (func number : ℕ) (bs : List Block) (rest : Walk) → BlocksFit p f number bs → AllPass rest → AllPass (blocks_walk p f func number bs rest)
pass_each p f func number [] rest o h = h
pass_each p f func number (b ∷ bs) rest o h = pass_block p f func number b (blocks_walk p f func (suc number) bs rest) o.0 (pass_each p f func (suc number) bs rest o.1 h)

-- ---- functions

abbrev names : List Func → List (List ℕ)
names fs = map (λ f. f.name) fs

funcs_pass : (p : Code) (func : ℕ) (earlier : List (List ℕ)) (fs : List Func) → AllPass (funcs_walk p func earlier fs)
    → AreNew earlier (names fs) × AllByRecursion (FuncFits p) fs
funcs_pass p func earlier [] h = (tt, tt)
funcs_pass p func earlier (f ∷ fs) h =
    let rest = funcs_walk p (suc func) (earlier ++ f.name ∷ []) fs in
    let asc : Ordered f = λ n. params_got Ascend f.blocks n tt (blocks_ascend p f func 0 f.blocks rest h.1) in
    let b = each_passes p f func 0 f.blocks rest asc h.1 in
    let r = funcs_pass p (suc func) (earlier ++ f.name ∷ []) fs b.1 in
    let known = h.0.1.0 in
    let lends = h.0.1.1.0 in (
      (true_not (stands earlier f.name) h.0.0, r.0),
      (
        record {
          kinds = all_both (IsKnownKind p.types) f.params f.locals known.0 known.2;
          result = known.1;
          marked = λ x less e. (lends x less e).0;
          keeps = λ x less e. (lends x less e).1;
          blocks = b.0;
        },
        r.1,
      ),
    )

pass_funcs : (p : Code) (func : ℕ) (earlier : List (List ℕ)) (fs : List Func) → AreNew earlier (names fs) → AllByRecursion (FuncFits p) fs
    → AllPass (funcs_walk p func earlier fs)
pass_funcs p func earlier [] h k = tt
pass_funcs p func earlier (f ∷ fs) h k = (
  (
    not_true (stands earlier f.name) h.0,
    (
      (all_front (IsKnownKind p.types) f.params f.locals k.0.kinds, k.0.result, all_back (IsKnownKind p.types) f.params f.locals k.0.kinds),
      ((λ x less e. (k.0.marked x less e, k.0.keeps x less e)), tt),
    ),
  ),
  pass_each p f func 0 f.blocks (funcs_walk p (suc func) (earlier ++ f.name ∷ []) fs) k.0.blocks (pass_funcs p (suc func) (earlier ++ f.name ∷ []) fs h.1 k.1),
)

-- ---- types

new_both : (earlier vs ws : List (List ℕ)) → AreNew earlier vs → AreNew (earlier ++ vs) ws → AreNew earlier (vs ++ ws)
new_both earlier [] ws h k = subst (λ l. AreNew l ws) (append-nil earlier) k
new_both earlier (v ∷ vs) ws h k = (h.0, new_both (earlier ++ v ∷ []) vs ws h.1 (subst (λ l. AreNew l ws) (sym (append_assoc earlier (v ∷ []) vs)) k))

both_new : (earlier vs ws : List (List ℕ)) → AreNew earlier (vs ++ ws) → AreNew earlier vs × AreNew (earlier ++ vs) ws
both_new earlier [] ws h = (tt, subst (λ l. AreNew l ws) (sym (append-nil earlier)) h)
both_new earlier (v ∷ vs) ws h =
    let a = both_new (earlier ++ v ∷ []) vs ws h.1 in
    ((h.0, a.0), subst (λ l. AreNew l ws) (append_assoc earlier (v ∷ []) vs) a.1)

abbrev con_names : List Constructor → List (List ℕ)
con_names cs = map (λ c. c.name) cs

names_both : (cs ds : List Constructor) → con_names (cs ++ ds) ≡ con_names cs ++ con_names ds
names_both [] ds = refl
names_both (c ∷ cs) ds = ap (λ l. c.name ∷ l) (names_both cs ds)

-- a constructor whose fields' types are there
abbrev IsKnownCon : List DataType → Constructor → Type 0
IsKnownCon types c = AllByRecursion (IsKnownKind types) c.fields

cons_pass : (types : List DataType) (earlier : List (List ℕ)) (cs : List Constructor) (rest : Checks) → Pass (cons_checks types earlier cs rest)
    → AreNew earlier (con_names cs) × AllByRecursion (IsKnownCon types) cs × Pass rest
cons_pass types earlier [] rest h = (tt, tt, h)
cons_pass types earlier (c ∷ cs) rest h =
    let r = cons_pass types (earlier ++ c.name ∷ []) cs rest h.1.1 in
    ((true_not (stands earlier c.name) h.0, r.0), (h.1.0, r.1), r.2)

pass_cons : (types : List DataType) (earlier : List (List ℕ)) (cs : List Constructor) (rest : Checks) → AreNew earlier (con_names cs)
    → AllByRecursion (IsKnownCon types) cs → Pass rest → Pass (cons_checks types earlier cs rest)
pass_cons types earlier [] rest h k r = r
pass_cons types earlier (c ∷ cs) rest h k r = (not_true (stands earlier c.name) h.0, (k.0, pass_cons types (earlier ++ c.name ∷ []) cs rest h.1 k.1 r))

abbrev type_names : List DataType → List (List ℕ)
type_names ts = map (λ t. t.name) ts

types_pass : (types : List DataType) (earlier cons : List (List ℕ)) (ts : List DataType) → Pass (types_checks types earlier cons ts)
    → AreNew earlier (type_names ts) × AreNew cons (con_names (constructors ts)) × AllByRecursion (IsKnownCon types) (constructors ts)
types_pass types earlier cons [] h = (tt, tt, tt)
types_pass types earlier cons (t ∷ ts) h =
    let b = cons_pass types cons t.cons (types_checks types (earlier ++ t.name ∷ []) (cons ++ con_names t.cons) ts) h.1 in
    let c = types_pass types (earlier ++ t.name ∷ []) (cons ++ con_names t.cons) ts b.2 in (
      (true_not (stands earlier t.name) h.0, c.0),
      subst (AreNew cons) (sym (names_both t.cons (constructors ts))) (new_both cons (con_names t.cons) (con_names (constructors ts)) b.0 c.1),
      all_both (IsKnownCon types) t.cons (constructors ts) b.1 c.2,
    )

pass_types : (types : List DataType) (earlier cons : List (List ℕ)) (ts : List DataType)
    → AreNew earlier (type_names ts) → AreNew cons (con_names (constructors ts)) → AllByRecursion (IsKnownCon types) (constructors ts) → Pass (types_checks types earlier cons ts)
pass_types types earlier cons [] h k l = tt
pass_types types earlier cons (t ∷ ts) h k l =
    let b = both_new cons (con_names t.cons) (con_names (constructors ts)) (subst (AreNew cons) (names_both t.cons (constructors ts)) k) in (
      not_true (stands earlier t.name) h.0,
      pass_cons types cons t.cons (types_checks types (earlier ++ t.name ∷ []) (cons ++ con_names t.cons) ts) b.0 (all_front (IsKnownCon types) t.cons (constructors ts) l)
          (pass_types types (earlier ++ t.name ∷ []) (cons ++ con_names t.cons) ts h.1 b.1 (all_back (IsKnownCon types) t.cons (constructors ts) l)),
    )

-- ---- programs

pub passed_is_well_formed : (p : Code) → AllPass (walk p) → IsWellFormed p
unfolding walk
passed_is_well_formed p h =
    let a = types_pass p.types [] [] p.types h.0 in
    let b = funcs_pass p 0 [] p.funcs h.1 in
    record { type_names = new_distinct (type_names p.types) a.0; con_names = new_distinct (con_names (constructors p.types)) a.1; func_names = new_distinct (names p.funcs) b.0; fields = a.2; funcs = b.1 }

pub well_formed_is_passed : (p : Code) → IsWellFormed p → AllPass (walk p)
unfolding walk
well_formed_is_passed p well = (
  pass_types p.types [] [] p.types (distinct_new (type_names p.types) well.type_names) (distinct_new (con_names (constructors p.types)) well.con_names) well.fields,
  pass_funcs p 0 [] p.funcs (distinct_new (names p.funcs) well.func_names) well.funcs,
)
