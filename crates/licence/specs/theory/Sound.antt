-- Laws, for the proofs of this crate and of those above it.
-- Potential soundness: runs of annotated code are paid for.
use Rattle.std.proofs.Common.{◌≡◌, ℕ, zero, suc, ◌+◌, ◌-◌, ◌<◌, ◌≤◌, Bool, true, false, List, [], ◌∷◌, ◌++◌, length, map, Option, Some, None, refl, sym, ap, ◌∙◌, subst, arith, append_assoc, length-append, inl, inr}
use Rattle.std.specs.Prelude.{◌==◌, ◌&&◌, ◌||◌, IsTrue, if◌then◌else◌, slice_get, nat_lt, IsSomeAnd, IfSome, cond, take}
use Rattle.std.specs.List.{AllByRecursion, range_with_len}
use Rattle.std.specs.Option.{option_map, option_map_or}
use Rattle.std.proofs.lemmas.Bool.Decides.{nat_tests}
use Rattle.std.proofs.lemmas.Option.{slice_get_within}
use Rattle.camelot_values.specs.Value as value
use Rattle.camelot_values.specs.Value.{Value, Values, parts}
use Rattle.camelot_values.specs.Heap.{is_heap}
use Rattle.camelot_values.specs.Kinds.{DataType, AreTypes, constructors, type_of, type_from, place_of}
use Rattle.camelot_values.specs.KindLaws.{slice_get_behind, slice_get_front}
use Rattle.camelot_values.specs.Typing.{Fits, ArgumentsFit, IsSafe}
use Rattle.camelot_values.specs.Outcome.{Outcome, Done, Deep, entered, first_then}
use Rattle.camelot_values.specs.Bounds.{IsPaidBy}
use Rattle.camelot_values.specs.BoundLaws.{yields_then, yields_after}
use Rattle.camelot_values.specs.Runs.{Enter, is_too_deep, calls, entering}
use Rattle.camelot_values.specs.declared.kinds.Kind.{Kind}
use Rattle.camelot_values.specs.declared.kinds.Kind.TheVariants as kind
use Rattle.grail_blocks.specs.declared.blocks.CaseCell.{CaseCell}
use Rattle.grail_blocks.specs.declared.blocks.CaseCell.TheVariants as cell
use Rattle.grail_blocks.specs.Events.{Use, Bind, argument_events, uses_of, term_events, bound_by, kept_diamond, params_at, jump_events, ways}
use Rattle.camelot_values.specs.Lists.{is_among}
use Rattle.grail_blocks.specs.States.{Ready, State, nothing_bound, bind, after, AreReady, at_start, state_at}
use Rattle.grail_blocks.specs.StateLaws.{after_append, ready_first, ready_second, state_next, state_last, ready_at, all_first}
use Rattle.grail_code.specs.Code.{Op, Lit, Flag, Copy, Prim, Make, Call, Let, CaseArm, Term, Ret, Tail, Goto, If, Case, Block, Func, Code}
use Rattle.grail_code.specs.WellFormed.{HaveKinds, Gives, LetFits, kind_of, is_marked, is_read, is_lent, is_owned, looked_in, reads_of, AreNotLent, bound_anew, CellLends, LetLends, ArmLends, TermLends, TermFits, BlockFits, BlocksFit, FuncFits, IsWellFormed}
use Rattle.grail_code.specs.Meaning.{Locals, put, narrowed, arguments, values_of, op_run, narrow, body_run, bodies, from_block, from_place, run_of}
use Rattle.grail_code.specs.Places.{Holds, LocalsFit, FitAt, FitsTarget, CallsSafe, JumpsTo, with_cell, cell_effect, TakesArm, Claim, IsKept}
use Rattle.grail_code.specs.PlaceLaws.{fit_used, all_at, holds_from_block, holds_from_place}
use Rattle.grail_code.specs.SoundLaws.{arguments_fit, body_runs, calls_safe}
use Rattle.grail_code.specs.Soundness.{HaveBlocks}
use Rattle.annotations.specs.Vectors.{potential, potential_all, node_units, is_heap_con}
use Rattle.annotations.specs.PotentialLaws.{potential_at_least}
use Rattle.licence.specs.Books.{Units, Carried, Book}
use Rattle.licence.specs.Rules.{Amounts, naturals, Account, account_at, all_carrying, build_cost, carrying, after_op, after_lets, account_before, opened, found, in_arm, first_con, first_con_of, Asks, call_asks, AllCarry, JumpPays, ArmsPay, TermPays, BlockPays, LentCarryNothing, LentAreFree, Pays}
use Rattle.licence.specs.Worth.{worth_at}
use Rattle.licence.specs.Bound.{arguments_carry}
use Rattle.licence.specs.theory.Asking.{each_locals}
use Rattle.licence.specs.theory.Paying.{paid_more, paid_beside, paid_in_turn, paid_at_once, paid_behind_free, paid_behind_entry}
use Rattle.licence.specs.theory.Totals.{total, value_units, nothing_total, bind_plain}
use Rattle.licence.specs.theory.Carrying.{ReadFree, AllHold, all_held, asked_units, use_total, uses_total, no_more, call_total, params_total, narrowed_asked, fields_total, quiet_behind, quiet_anew, quiet_nothing}
use Rattle.licence.specs.theory.Steps.{CallsPaid, ReadsFree, marks_of, worth, op_paid}

-- ---- blocks of a function that fits

block_fits_at : (p : Code) (f : Func) (first : ℕ) (bs : List Block) (i : ℕ) (b : Block) → BlocksFit p f first bs → slice_get bs i ≡ Some b
    → BlockFits p f (first + i) b
block_fits_at p f first [] i b h e = let k : None ≡ Some b = e in absurd cc
block_fits_at p f first (c ∷ bs) zero b h e = let same : c ≡ b = cc in let n : first ≡ first + 0 = omega arith in subst (λ m. BlockFits p f m b) n (subst (BlockFits p f first) same h.0)
block_fits_at p f first (c ∷ bs) (suc i) b h e = let n : suc first + i ≡ first + suc i = omega arith in subst (λ m. BlockFits p f m b) n (block_fits_at p f (suc first) bs i b h.1 e)

pub fits_at : (p : Code) (f : Func) (number : ℕ) (b : Block) → FuncFits p f → slice_get f.blocks number ≡ Some b → BlockFits p f number b
fits_at p f number b fits is = let n : 0 + number ≡ number = omega arith in subst (λ m. BlockFits p f m b) n (block_fits_at p f 0 f.blocks number b fits.blocks is)

pub effect_safe : (types : List DataType) (q : Kind) (c : CaseCell) (o : Outcome Value) → IsSafe types q o → IsSafe types q (cell_effect c o)
effect_safe types q cell.Inline o h = h
effect_safe types q cell.Look o h = h
effect_safe types q cell.Free o h = yields_after (Fits types q) 0 0 1 o h
effect_safe types q (cell.Keep d) o h = h

-- ---- accounts of a block, let by let

pub next_account : {A : Type 0} (amounts : Amounts A) (types : List DataType) (book : Book A) (func block at : ℕ) (account : Account A) (ls : List Let) (n : ℕ) (l : Let) → slice_get ls n ≡ Some l
    → after_lets amounts types book func block at account (take (suc n) ls) ≡ after_op amounts types book func block (at + n) (after_lets amounts types book func block at account (take n ls)) l.target l.op
next_account amounts types book func block at account [] n l e = let c : None ≡ Some l = e in absurd cc
next_account amounts types book func block at account (m ∷ ls) zero l e =
    let same : m ≡ l = cc in
    let here : at ≡ at + 0 = omega arith in
    ap (λ k. after_op amounts types book func block at account k.target k.op) same ∙ ap (λ i. after_op amounts types book func block i account l.target l.op) here
next_account amounts types book func block at account (m ∷ ls) (suc n) l e =
    let there : suc at + n ≡ at + suc n = omega arith in
    next_account amounts types book func block (suc at) (after_op amounts types book func block at account m.target m.op) ls n l e
    ∙ ap (λ i. after_op amounts types book func block i (after_lets amounts types book func block (suc at) (after_op amounts types book func block at account m.target m.op) (take n ls)) l.target l.op) there

-- ---- what is lent carries nothing, at each place

op_quiet : (p : Code) (f : Func) (book : Book ℕ) (func block at : ℕ) (account : Account ℕ) (t : ℕ) (op : Op) → LentCarryNothing p.types f account.carried
    → is_lent p.types f t ≡ false → LentCarryNothing p.types f (after_op naturals p.types book func block at account t op).carried
op_quiet p f book func block at account t (Lit z) quiet apart = quiet
op_quiet p f book func block at account t (Flag z) quiet apart = quiet
op_quiet p f book func block at account t (Copy x) quiet apart = quiet_behind p.types f account.carried t (account.carried x) quiet apart
op_quiet p f book func block at account t (Prim op x y) quiet apart = quiet
op_quiet p f book func block at account t (Make con args place) quiet apart = by_heap (is_heap_con p.types con)
  where
    behind : Account ℕ
    behind = record { left = account.left - build_cost naturals book.unit place (book.make func block at con); carried = carrying account.carried t (book.make func block at) }

    by_heap : (b : Bool) → LentCarryNothing p.types f (cond b behind account).carried
    by_heap true = quiet_behind p.types f account.carried t (book.make func block at) quiet apart
    by_heap false = quiet
op_quiet p f book func block at account t (Call callee args) quiet apart = quiet_behind p.types f account.carried t (book.result callee) quiet apart

lets_quiet : (p : Code) (f : Func) (book : Book ℕ) (func block at : ℕ) (account : Account ℕ) (ls : List Let) (n : ℕ) → LentCarryNothing p.types f account.carried
    → AllByRecursion (LetLends p f) ls → LentCarryNothing p.types f (after_lets naturals p.types book func block at account (take n ls)).carried
lets_quiet p f book func block at account [] zero quiet lend = quiet
lets_quiet p f book func block at account [] (suc n) quiet lend = quiet
lets_quiet p f book func block at account (l ∷ ls) zero quiet lend = quiet
lets_quiet p f book func block at account (l ∷ ls) (suc n) quiet lend =
    lets_quiet p f book func block (suc at) (after_op naturals p.types book func block at account l.target l.op) ls n (op_quiet p f book func block at account l.target l.op quiet lend.0.target) lend.1

pub quiet_before : (p : Code) (f : Func) (book : Book ℕ) (func number : ℕ) (b : Block) (n : ℕ) → LentCarryNothing p.types f (account_at book func number).carried
    → AllByRecursion (LetLends p f) b.lets → LentCarryNothing p.types f (account_before naturals p.types book func number b n).carried
quiet_before p f book func number b n quiet lend = lets_quiet p f book func number 1 (account_at book func number) b.lets n quiet lend

found_quiet : (types : List DataType) (f : Func) (unit : ℕ) (account : Account ℕ) (on con : ℕ) (fields : List ℕ) (c : CaseCell) → LentCarryNothing types f account.carried
    → CellLends (is_lent types f on) c → AreNotLent types f (bound_anew c (fields ++ kept_diamond c))
    → LentCarryNothing types f (found naturals types unit account on con fields c).carried
found_quiet types f unit account on con fields cell.Inline quiet lends apart = quiet_anew types f account.carried fields (account.carried on) quiet (all_first (λ x. is_lent types f x ≡ false) fields [] apart)
found_quiet types f unit account on con fields cell.Free quiet lends apart = quiet_anew types f account.carried fields (account.carried on) quiet (all_first (λ x. is_lent types f x ≡ false) fields [] apart)
found_quiet types f unit account on con fields (cell.Keep d) quiet lends apart =
    quiet_anew types f account.carried fields (account.carried on) quiet (all_first (λ x. is_lent types f x ≡ false) fields (d ∷ []) apart)
found_quiet types f unit account on con fields cell.Look quiet lends apart = quiet_nothing types f account.carried fields (account.carried on) quiet (quiet on (is_true (is_lent types f on) lends))
  where
    is_true : (b : Bool) → IsTrue b → b ≡ true
    is_true true t = refl
    is_true false t = absurd cc

-- marked parameters of heap kinds are lent
pub reads_free : (p : Code) (book : Book ℕ) → LentAreFree p book → ReadsFree p book
reads_free p book lent callee g there = subst (λ marks. ReadFree p.types (book.param callee) 0 marks g.params) (sym marks_are) (each 0 g.reads g.params (λ i m e. first g.reads i e) (λ i q e. first g.params i e))
  where
    marks_are : reads_of p callee ≡ g.reads
    marks_are = ap (λ o. option_map_or (λ f. f.reads) o []) there

    next : (number : ℕ) {A : Type 0} (xs : List A) (i : ℕ) {x : A} → slice_get xs (number + suc i) ≡ Some x → slice_get xs (suc number + i) ≡ Some x
    next number xs i h = let same : suc number + i ≡ number + suc i = omega arith in ap (slice_get xs) same ∙ h

    first : {A : Type 0} (xs : List A) (i : ℕ) {x : A} → slice_get xs i ≡ Some x → slice_get xs (0 + i) ≡ Some x
    first xs i h = let same : 0 + i ≡ i = omega arith in ap (slice_get xs) same ∙ h

    one : (number : ℕ) (q : Kind) → slice_get g.reads number ≡ Some true → slice_get g.params number ≡ Some q → is_heap p.types q ≡ true → (con : ℕ) → book.param callee number con ≡ 0
    one number q marked here heap = lent callee 0 g there number both
      where
        kind_is : kind_of g number ≡ Some q
        kind_is = slice_get_front g.params g.locals number (slice_get_within g.params number q here) ∙ here

        both : is_lent p.types g number ≡ true
        both = ap (λ b. b && is_read g number) (ap (λ o. option_map_or (is_heap p.types) o false) kind_is ∙ heap) ∙ ap (λ o. option_map_or (λ mark. mark) o false || is_among (looked_in g) number) marked

    each : (number : ℕ) (marks : List Bool) (qs : List Kind) → ((i : ℕ) (m : Bool) → slice_get marks i ≡ Some m → slice_get g.reads (number + i) ≡ Some m)
        → ((i : ℕ) (q : Kind) → slice_get qs i ≡ Some q → slice_get g.params (number + i) ≡ Some q) → ReadFree p.types (book.param callee) number marks qs
    each number [] qs ms ks = tt
    each number (true ∷ marks) [] ms ks = tt
    each number (false ∷ marks) [] ms ks = tt
    each number (true ∷ marks) (q ∷ qs) ms ks =
        (λ heap. one number q (at_once g.reads (ms 0 true refl)) (at_once g.params (ks 0 q refl)) heap, each (suc number) marks qs (λ i m e. next number g.reads i (ms (suc i) m e)) (λ i r e. next number g.params i (ks (suc i) r e)))
      where
        at_once : {A : Type 0} (xs : List A) {x : A} → slice_get xs (number + 0) ≡ Some x → slice_get xs number ≡ Some x
        at_once xs h = let same : number + 0 ≡ number = omega arith in ap (slice_get xs) (sym same) ∙ h
    each number (false ∷ marks) (q ∷ qs) ms ks = each (suc number) marks qs (λ i m e. next number g.reads i (ms (suc i) m e)) (λ i r e. next number g.params i (ks (suc i) r e))

-- ---- where arms stand

arms_pay_at : (p : Code) (f : Func) (book : Book ℕ) (func : ℕ) (account : Account ℕ) (on con : ℕ) (arms : List CaseArm) (i : ℕ) (a : CaseArm)
    → ArmsPay p f book func account on con arms → slice_get arms i ≡ Some a
    → JumpPays p f book func (in_arm naturals p.types book account on (con + i) a) a.target
arms_pay_at p f book func account on con [] i a h e = let c : None ≡ Some a = e in absurd cc
arms_pay_at p f book func account on con (b ∷ arms) zero a h e =
    let same : b ≡ a = cc in
    let here : con ≡ con + 0 = omega arith in
    subst (λ c. JumpPays p f book func (in_arm naturals p.types book account on c a) a.target) here (subst (λ d. JumpPays p f book func (in_arm naturals p.types book account on con d) d.target) same h.0)
arms_pay_at p f book func account on con (b ∷ arms) (suc i) a h e =
    let there : suc con + i ≡ con + suc i = omega arith in
    subst (λ c. JumpPays p f book func (in_arm naturals p.types book account on c a) a.target) there (arms_pay_at p f book func account on (suc con) arms i a h.1 e)

-- a constructor's number is that of the first one of its type and its place
numbered : (first : ℕ) (types : List DataType) (c t i : ℕ) → type_from first types c ≡ Some (first + t) → place_of types c ≡ Some i → c ≡ first_con types t + i
numbered first [] c t i h e = let k : None ≡ Some i = e in absurd cc
numbered first (d ∷ ds) c t i h e = by_test (numbered (suc first) ds (c - length d.cons)) (nat_lt c (length d.cons)) refl t h e
  where
    some_is : (m n : ℕ) → ◌≡◌ {A = Option ℕ} (Some m) (Some n) → m ≡ n
    some_is m n k = cc

    by_test : ((u j : ℕ) → type_from (suc first) ds (c - length d.cons) ≡ Some (suc first + u) → place_of ds (c - length d.cons) ≡ Some j → c - length d.cons ≡ first_con ds u + j) → (b : Bool) → nat_lt c (length d.cons) ≡ b
        → (u : ℕ) → (if b then Some first else type_from (suc first) ds (c - length d.cons)) ≡ Some (first + u)
        → (if b then Some c else place_of ds (c - length d.cons)) ≡ Some i → c ≡ first_con (d ∷ ds) u + i
    by_test rec true k zero g l = let same : c ≡ i = some_is c i l in let none : first_con (d ∷ ds) 0 ≡ 0 = refl in omega (arith, same, none)
    by_test rec true k (suc u) g l = let same = some_is first (first + suc u) g in absurd (omega (arith, same))
    by_test rec false k zero g l = absurd (past (suc first) ds (c - length d.cons) first g (omega arith))
      where
        past : (from : ℕ) (ts : List DataType) (x u : ℕ) → type_from from ts x ≡ Some (u + 0) → u < from → ⊥
        past from [] x u k less = let n : None ≡ Some (u + 0) = k in absurd cc
        past from (s ∷ ts) x u k less = by_here (past (suc from) ts (x - length s.cons) u) (nat_lt x (length s.cons)) k
          where
            by_here : (type_from (suc from) ts (x - length s.cons) ≡ Some (u + 0) → u < suc from → ⊥) → (b : Bool)
                → (if b then Some from else type_from (suc from) ts (x - length s.cons)) ≡ Some (u + 0) → ⊥
            by_here rec true k = let same = some_is from (u + 0) k in omega (arith, same, less)
            by_here rec false k = rec k (omega (arith, less))
    by_test rec false k (suc u) g l =
        let more : length d.cons ≤ c = grind (arith, nat_tests, k) in
        let there : first + suc u ≡ suc first + u = omega arith in
        let rest : c - length d.cons ≡ first_con ds u + i = rec u i (g ∙ ap (λ n. Some n) there) l in
        let size : length (d.cons ++ constructors (take u ds)) ≡ length d.cons + first_con ds u = length-append d.cons (constructors (take u ds)) in
        omega (arith, more, rest, size)

-- ---- jumps

-- What the target's parameters carry there is no more than what was carried where the jump begins.
jump_worth : (p : Code) (f : Func) (book : Book ℕ) (func to : ℕ) (target : Block) (s : State) (env : Locals) (account : Account ℕ) → AreTypes p.types → LentCarryNothing p.types f account.carried
    → AllHold p.types f env (params_at f.blocks to) → slice_get f.blocks to ≡ Some target
    → AreReady (is_owned p.types f) s (jump_events f.blocks to) → JumpPays p f book func account to → 0 < to
    → worth p.types f (at_start (is_owned p.types f) target) (narrowed target.params env) (account_at book func to) ≤ worth p.types f s env account
jump_worth p f book func zero target s env account well quiet held is r pays later = absurd (omega (arith, later))
jump_worth p f book func (suc n) target s env account well quiet held is r pays later =
    let h : ℕ → Bool = is_owned p.types f in
    let here : params_at f.blocks (suc n) ≡ target.params = ap (λ o. option_map_or (λ block. block.params) o []) is in
    let ready : AreReady h s (map Use target.params) = subst (λ ps. AreReady h s (map Use ps)) here r in
    let asks : Asks ℕ = map (λ x. (x, book.block_var func (suc n) x)) target.params in
    let carry : AllCarry p.types f account.carried asks = subst (λ ps. AllCarry p.types f account.carried (map (λ x. (x, book.block_var func (suc n) x)) ps)) here pays.0 in
    let spent = uses_total p.types f s env account.carried target.params asks (each_locals (book.block_var func (suc n)) target.params) well quiet (subst (AllHold p.types f env) here held) ready carry in
    let bound = params_total p.types f h nothing_bound (narrowed target.params env) (book.block_var func (suc n)) target.params in
    let less = narrowed_asked p.types env target.params asks in
    let none = nothing_total p.types f (narrowed target.params env) (book.block_var func (suc n)) in
    omega (arith, spent, bound, less, none, pays.1)

-- ---- a run in one function

-- so many units are left at a place of a block, and so much is carried; at the end the result carries what is said, and
-- so much is given back
abbrev Paid : Code → Func → Book ℕ → ℕ → Claim
Paid p f book func = λ number n env o. (b : Block) → slice_get f.blocks number ≡ Some b
    → IsPaidBy book.unit (worth p.types f (state_at (reads_of p) (is_owned p.types f) b n) env (account_before naturals p.types book func number b n))
    (λ v. book.back func + potential p.types (book.result func) v) o

one_block : (f : Func) (number : ℕ) (b c : Block) → slice_get f.blocks number ≡ Some b → slice_get f.blocks number ≡ Some c → b ≡ c
one_block f number b c is there = some_is b c (sym is ∙ there)
  where
    some_is : (x y : Block) → ◌≡◌ {A = Option Block} (Some x) (Some y) → x ≡ y
    some_is x y k = cc

-- a let
let_paid : (p : Code) (f : Func) (book : Book ℕ) (func : ℕ) (enter : Enter) → AreTypes p.types → ReadsFree p book → CallsSafe p enter → CallsPaid p book enter
    → (number n : ℕ) (b : Block) (l : Let) (q : Kind) (env : Locals) (k w : ℕ) (next : ℕ → Value → Outcome Value)
    → LentCarryNothing p.types f (account_at book func number).carried → BlockFits p f number b → BlockPays p f book func number b → slice_get b.lets n ≡ Some l → kind_of f l.target ≡ Some q → FitAt p f b n env → IsSafe p.types q (op_run enter k w env l.op)
    → ((j : ℕ) (v : Value) → Fits p.types q v → IsPaidBy book.unit (worth p.types f (state_at (reads_of p) (is_owned p.types f) b (n + 1)) (put env l.target v) (account_before naturals p.types book func number b (n + 1)))
    (λ v. book.back func + potential p.types (book.result func) v) (next j v))
    → IsPaidBy book.unit (worth p.types f (state_at (reads_of p) (is_owned p.types f) b n) env (account_before naturals p.types book func number b n)) (λ v. book.back func + potential p.types (book.result func) v)
    (first_then k (op_run enter k w env l.op) next)
let_paid p f book func enter well free safe paid number n b l q env k w next quiet fits pays here kind fit sound go =
    paid_in_turn (Fits p.types q) book.unit (worth p.types f s env account) (λ v. worth p.types f (bind (after h s (uses_of (reads_of p) l.op)) l.target) (put env l.target v) behind)
    (λ v. book.back func + potential p.types (book.result func) v) k (op_run enter k w env l.op) next sound
    (op_paid p f book enter well free safe paid func number (suc n) s env account (quiet_before p f book func number b n quiet fits.lets_lend) fit l.target l.op q k w ready gives (pays.lets n l here) sound)
    (λ j v good. subst (λ m. IsPaidBy book.unit m (λ v. book.back func + potential p.types (book.result func) v) (next j v)) (sym (after_one v)) (go j v good))
  where
    h : ℕ → Bool
    h = is_owned p.types f

    s : State
    s = state_at (reads_of p) h b n

    account : Account ℕ
    account = account_before naturals p.types book func number b n

    behind : Account ℕ
    behind = after_op naturals p.types book func number (suc n) account l.target l.op

    events : AreReady h s (uses_of (reads_of p) l.op ++ Bind l.target ∷ [])
    events = ready_at (reads_of p) h f.blocks b n l fits.uses here

    ready : AreReady h s (uses_of (reads_of p) l.op)
    ready = ready_first h s (uses_of (reads_of p) l.op) (Bind l.target ∷ []) events

    gives : Gives p f l.op q
    gives = by_kind (kind_of f l.target) kind (all_at (LetFits p f) b.lets n l fits.lets here)
      where
        by_kind : (o : Option Kind) → o ≡ Some q → IsSomeAnd o (Gives p f l.op) → Gives p f l.op q
        by_kind None e g = absurd g
        by_kind (Some r) e g = let same : r ≡ q = cc in subst (Gives p f l.op) same g

    state_is : state_at (reads_of p) h b (n + 1) ≡ bind (after h s (uses_of (reads_of p) l.op)) l.target
    state_is = let e : n + 1 ≡ suc n = omega arith in ap (state_at (reads_of p) h b) e ∙ state_next (reads_of p) h b n l here ∙ after_append h s (uses_of (reads_of p) l.op) (Bind l.target ∷ [])

    account_is : account_before naturals p.types book func number b (n + 1) ≡ behind
    account_is = let e : n + 1 ≡ suc n = omega arith in ap (account_before naturals p.types book func number b) e ∙ next_account naturals p.types book func number 1 (account_at book func number) b.lets n l here
        ∙ (let one : 1 + n ≡ suc n = omega arith in ap (λ i. after_op naturals p.types book func number i account l.target l.op) one)

    after_one : (v : Value) → worth p.types f (bind (after h s (uses_of (reads_of p) l.op)) l.target) (put env l.target v) behind
        ≡ worth p.types f (state_at (reads_of p) h b (n + 1)) (put env l.target v) (account_before naturals p.types book func number b (n + 1))
    after_one v = ap (λ u. worth p.types f u (put env l.target v) behind) (sym state_is) ∙ ap (λ a. worth p.types f (state_at (reads_of p) h b (n + 1)) (put env l.target v) a) (sym account_is)

-- ---- the end of a block

-- at the end of a block, before its own uses
pub record AtEnd (p : Code) (f : Func) (book : Book ℕ) (func number : ℕ) (b : Block) (env : Locals) (s : State) (account : Account ℕ) : Type 0 where
  pub well : AreTypes p.types
  pub free : ReadsFree p book
  pub quiet : LentCarryNothing p.types f account.carried
  pub block : slice_get f.blocks number ≡ Some b
  pub fits : BlockFits p f number b
  pub pays : TermPays p f book func account b.term
  pub fit : LocalsFit p.types f s env
  pub term : AreReady (is_owned p.types f) s (term_events (reads_of p) b.term)
  pub onward : AllByRecursion (AreReady (is_owned p.types f) (after (is_owned p.types f) s (term_events (reads_of p) b.term))) (ways f.blocks b.term)

pub result_paid : (p : Code) (f : Func) (book : Book ℕ) (func number : ℕ) (b : Block) (env : Locals) (s : State) (account : Account ℕ)
    → AtEnd p f book func number b env s account → (x : ℕ) (v : Value) → b.term ≡ Ret x → env x ≡ Some v
    → IsPaidBy book.unit (worth p.types f s env account) (λ v. book.back func + potential p.types (book.result func) v) (Done v 0 0 0)
result_paid p f book func number b env s account e x v is here =
    let h : ℕ → Bool = is_owned p.types f in
    let ready : AreReady h s (map Use (x ∷ [])) = subst (λ t. AreReady h s (term_events (reads_of p) t)) is e.term in
    let pays : TermPays p f book func account (Ret x) = subst (TermPays p f book func account) is e.pays in
    let spent = uses_total p.types f s env account.carried (x ∷ []) ((x, book.result func) ∷ []) refl e.well e.quiet (all_held p.types f s env (x ∷ []) e.fit ready) ready (pays.0, tt) in
    let units : value_units p.types (book.result func) (env x) ≡ potential p.types (book.result func) v = ap (value_units p.types (book.result func)) here in
    paid_at_once book.unit (worth p.types f s env account) (λ v. book.back func + potential p.types (book.result func) v) v 0 (omega (arith, spent, units, pays.1))

tail_sum : (left need carried spent whole : ℕ) → spent + carried ≤ whole → need ≤ left → need + carried + (left - need) ≤ left + whole
tail_sum left need carried spent whole a b = omega (arith, a, b)

tail_back : (left need back own result asked : ℕ) → own ≤ left - need + back → asked ≤ result → own + asked ≤ back + result + (left - need)
tail_back left need back own result asked a b = omega (arith, a, b)

tail_paid : (p : Code) (f : Func) (book : Book ℕ) (func number : ℕ) (b : Block) (env : Locals) (s : State) (account : Account ℕ) (enter : Enter)
    → CallsSafe p enter → CallsPaid p book enter → AtEnd p f book func number b env s account
    → (callee : ℕ) (args : List ℕ) (vs : List Value) (g : Func) (k w : ℕ) → b.term ≡ Tail callee args → values_of env args ≡ Some vs
    → slice_get p.funcs callee ≡ Some g → ArgumentsFit p.types g.params vs → g.result ≡ f.result
    → IsPaidBy book.unit (worth p.types f s env account) (λ v. book.back func + potential p.types (book.result func) v) (enter k w true callee vs)
tail_paid p f book func number b env s account enter safe paid e callee args vs g k w is here there fit result = by_rule pays_tail
  where
    h : ℕ → Bool
    h = is_owned p.types f

    ready : AreReady h s (argument_events (reads_of p callee) args)
    ready = subst (λ t. AreReady h s (term_events (reads_of p) t)) is e.term

    pays_tail : TermPays p f book func account (Tail callee args)
    pays_tail = subst (TermPays p f book func account) is e.pays

    arguments : AllCarry p.types f account.carried (call_asks book callee g args)
    arguments = subst (λ o. IfSome o (λ g. AllCarry p.types f account.carried (call_asks book callee g args))) there pays_tail.0

    kinds : HaveKinds f args g.params × (g.result ≡ f.result)
    kinds = subst (λ o. IsSomeAnd o (λ g. HaveKinds f args g.params × (g.result ≡ f.result))) there (subst (TermFits p f number) is e.fits.term)

    by_rule : TermPays p f book func account (Tail callee args)
        → IsPaidBy book.unit (worth p.types f s env account) (λ v. book.back func + potential p.types (book.result func) v) (enter k w true callee vs)
    by_rule pays =
        let read = e.free callee g there in
        let spent = call_total p.types f s env account.carried (book.param callee) (is_marked g) (reads_of p callee) g.params args vs e.well e.quiet e.fit ready kinds.0 read (marks_of p callee g there) arguments fit here in
        let rest : ℕ = account.left - book.need callee in
        paid_more (Fits p.types f.result) book.unit (book.need callee + arguments_carry p.types (book.param callee) 0 vs + rest) (worth p.types f s env account)
        (λ v. book.back callee + potential p.types (book.result callee) v + rest) (λ v. book.back func + potential p.types (book.result func) v) (enter k w true callee vs)
        (tail_sum account.left (book.need callee) (arguments_carry p.types (book.param callee) 0 vs) (total p.types f (after h s (argument_events (reads_of p callee) args)) env account.carried) (total p.types f s env account.carried) spent pays.1)
        (λ v good. tail_back account.left (book.need callee) (book.back callee) (book.back func) (potential p.types (book.result callee) v) (potential p.types (book.result func) v) pays.3
        (potential_at_least p.types f.result (book.result callee) (book.result func) pays.2 v good))
        (subst (λ q. IsSafe p.types q (enter k w true callee vs)) result (safe k w true callee vs g there fit))
        (paid_beside book.unit (book.need callee + arguments_carry p.types (book.param callee) 0 vs) rest (λ v. book.back callee + potential p.types (book.result callee) v) (enter k w true callee vs) (paid k w true callee vs g there fit))

-- a jump without bindings
pub jump_paid : (p : Code) (f : Func) (book : Book ℕ) (func number : ℕ) (b : Block) (env : Locals) (s : State) (account : Account ℕ)
    → AtEnd p f book func number b env s account → (to : ℕ) (target : Block) → JumpsTo b.term to → number < to
    → slice_get f.blocks to ≡ Some target → worth p.types f (at_start (is_owned p.types f) target) (narrowed target.params env) (account_at book func to) ≤ worth p.types f s env account
jump_paid p f book func number b env s account e to target jumps less there = by_term b.term refl jumps e.pays e.term e.onward
  where
    h : ℕ → Bool
    h = is_owned p.types f

    later : 0 < to
    later = omega (arith, less)

    from : (u : State) → LocalsFit p.types f u env → AreReady h u (jump_events f.blocks to) → JumpPays p f book func account to
        → worth p.types f (at_start h target) (narrowed target.params env) (account_at book func to) ≤ worth p.types f u env account
    from u fit r pays = jump_worth p f book func to target u env account e.well e.quiet (all_held p.types f u env (params_at f.blocks to) fit r) there r pays later

    behind : (x : ℕ) → AreReady h s (map Use (x ∷ [])) → AreReady h (after h s (Use x ∷ [])) (jump_events f.blocks to) → JumpPays p f book func account to
        → worth p.types f (at_start h target) (narrowed target.params env) (account_at book func to) ≤ worth p.types f s env account
    behind x ready r pays =
        let jump = from (after h s (Use x ∷ [])) (fit_used p.types f h s (x ∷ []) env e.fit) r pays in
        let used = no_more p.types f s env account.carried (x ∷ []) e.well e.quiet e.fit ready in
        omega (arith, jump, used)

    by_term : (t : Term) → b.term ≡ t → JumpsTo t to → TermPays p f book func account t → AreReady h s (term_events (reads_of p) t)
        → AllByRecursion (AreReady h (after h s (term_events (reads_of p) t))) (ways f.blocks t)
        → worth p.types f (at_start h target) (narrowed target.params env) (account_at book func to) ≤ worth p.types f s env account
    by_term (Ret x) is j pays ready onward = absurd j
    by_term (Tail g args) is j pays ready onward = absurd j
    by_term (Goto c) is j pays ready onward =
        from s e.fit (subst (λ c. AreReady h s (jump_events f.blocks c)) j onward.0) (subst (JumpPays p f book func account) j pays)
    by_term (If x first second) is (inl j) pays ready onward = behind x ready (subst (λ c. AreReady h (after h s (Use x ∷ [])) (jump_events f.blocks c)) j onward.0) (subst (JumpPays p f book func account) j pays.0)
    by_term (If x first second) is (inr j) pays ready onward = behind x ready (subst (λ c. AreReady h (after h s (Use x ∷ [])) (jump_events f.blocks c)) j onward.1.0) (subst (JumpPays p f book func account) j pays.1)
    by_term (Case x arms) is j pays ready onward = absurd j

-- ---- arms

way_of : (f : Func) (h : ℕ → Bool) (s : State) (arms : List CaseArm) (i : ℕ) (a : CaseArm)
    → AllByRecursion (AreReady h s) (map (λ a. map Bind (bound_by a) ++ jump_events f.blocks a.target) arms) → slice_get arms i ≡ Some a
    → AreReady h s (map Bind (bound_by a) ++ jump_events f.blocks a.target)
way_of f h s [] i a all e = let c : None ≡ Some a = e in absurd cc
way_of f h s (b ∷ arms) zero a all e = let same : b ≡ a = cc in subst (λ d. AreReady h s (map Bind (bound_by d) ++ jump_events f.blocks d.target)) same all.0
way_of f h s (b ∷ arms) (suc i) a all e = way_of f h s arms i a all.1 e

-- what an arm binds besides fields is a diamond, which carries nothing
cell_total : (types : List DataType) (f : Func) (h : ℕ → Bool) (s : State) (env : Locals) (carried : Carried ℕ) (c : CaseCell)
    → total types f (after h s (map Bind (kept_diamond c))) (with_cell c env) carried ≤ total types f s env carried
cell_total types f h s env carried cell.Inline = omega arith
cell_total types f h s env carried cell.Look = omega arith
cell_total types f h s env carried cell.Free = omega arith
cell_total types f h s env carried (cell.Keep d) = bind_plain types f s env carried d value.Dia refl

-- what holds where a jump arrives holds where it begins
held_at_target : (p : Code) (f : Func) (to : ℕ) (target : Block) (env : Locals) → slice_get f.blocks to ≡ Some target → FitsTarget p f target env
    → AllHold p.types f env (params_at f.blocks to)
held_at_target p f to target env is fits = subst (AllHold p.types f env) (sym here) (all target.params (λ x m. m))
  where
    h : ℕ → Bool
    h = is_owned p.types f

    here : params_at f.blocks to ≡ target.params
    here = ap (λ o. option_map_or (λ block. block.params) o []) is

    stays : (s : State) (xs : List ℕ) (x : ℕ) → s x ≡ Ready → after h s (map Bind xs) x ≡ Ready
    stays s [] x r = r
    stays s (y ∷ xs) x r = stays (bind s y) xs x (by_test (y == x))
      where
        by_test : (b : Bool) → (if b then Ready else s x) ≡ Ready
        by_test true = refl
        by_test false = r

    bound : (s : State) (xs : List ℕ) (x : ℕ) → is_among xs x ≡ true → after h s (map Bind xs) x ≡ Ready
    bound s [] x m = absurd cc
    bound s (y ∷ xs) x m = by_test (bound (bind s y) xs x) (y == x) refl m
      where
        by_test : (is_among xs x ≡ true → after h (bind s y) (map Bind xs) x ≡ Ready) → (b : Bool) → (y == x) ≡ b → (b || is_among xs x) ≡ true
            → after h (bind s y) (map Bind xs) x ≡ Ready
        by_test rec true e k = stays (bind s y) xs x (ap (λ b. if b then Ready else s x) e)
        by_test rec false e k = rec k

    one : (x : ℕ) → is_among target.params x ≡ true → Holds p.types f env x
    one x m = subst (λ b. IsSomeAnd (if b then env x else None) (λ v. IsSomeAnd (kind_of f x) (λ q. Fits p.types q v))) m (fits.holds x (bound nothing_bound target.params x m))

    all : (xs : List ℕ) → ((x : ℕ) → is_among xs x ≡ true → is_among target.params x ≡ true) → AllHold p.types f env xs
    all [] sub = tt
    all (x ∷ xs) sub = (one x (sub x (first x xs)), all xs (λ y m. sub y (later x y xs m)))
      where
        first : (x : ℕ) (xs : List ℕ) → is_among (x ∷ xs) x ≡ true
        first x xs = let t : (x == x) ≡ true = grind (arith, nat_tests) in ap (λ b. b || is_among xs x) t

        later : (x y : ℕ) (xs : List ℕ) → is_among xs y ≡ true → is_among (x ∷ xs) y ≡ true
        later x y xs m = by_test (x == y)
          where
            by_test : (b : Bool) → (b || is_among xs y) ≡ true
            by_test true = refl
            by_test false = m

-- the matched value is of the type whose constructors the arms stand for
con_of_arm : (types : List DataType) (con i : ℕ) (vs : Values) (o : Option Kind) → IsSomeAnd o (λ q. Fits types q (value.Con con vs))
    → place_of types con ≡ Some i → con ≡ first_con_of types o + i
con_of_arm types con i vs None g e = absurd g
con_of_arm types con i vs (Some q) g e = by_type (type_of types con) refl g.0
  where
    by_type : (t : Option ℕ) → type_of types con ≡ t → option_map kind.Of t ≡ Some q → con ≡ first_con_of types (Some q) + i
    by_type None is k = let c : None ≡ Some q = k in absurd cc
    by_type (Some t) is k = let same : kind.Of t ≡ q = cc in subst (λ r. con ≡ first_con_of types (Some r) + i) same (numbered 0 types con t i (is ∙ (let same : t ≡ 0 + t = omega arith in ap (λ n. Some n) same)) e)

-- with a cell's price, where the cell is given back
abbrev pub with_price : ℕ → CaseCell → ℕ → ℕ
with_price unit cell.Free n = n + unit
with_price unit cell.Inline n = n
with_price unit cell.Look n = n
with_price unit (cell.Keep d) n = n

-- An arm begins with what was there, what the matched node carried, and a cell's price where its cell is given back.
pub arm_worth : (p : Code) (f : Func) (book : Book ℕ) (func number : ℕ) (b : Block) (env : Locals) (s : State) (account : Account ℕ)
    → AtEnd p f book func number b env s account → (con : ℕ) (vs : Values) (a : CaseArm) (bound : Locals) (target : Block)
    → TakesArm p env b.term con vs a bound → number < a.target → slice_get f.blocks a.target ≡ Some target → FitsTarget p f target (with_cell a.cell bound)
    → worth p.types f (at_start (is_owned p.types f) target) (narrowed target.params (with_cell a.cell bound)) (account_at book func a.target) ≤ with_price book.unit a.cell (worth p.types f s env account)
arm_worth p f book func number b env s account e con vs a bound target t less there hand = sum
  where
    h : ℕ → Bool
    h = is_owned p.types f

    s1 : State
    s1 = after h s (Use t.on ∷ [])

    s2 : State
    s2 = after h s1 (map Bind a.fields)

    s3 : State
    s3 = after h s1 (map Bind (bound_by a))

    s3_is : s3 ≡ after h s2 (map Bind (kept_diamond a.cell))
    s3_is = ap (after h s1) (map_append a.fields (kept_diamond a.cell)) ∙ after_append h s1 (map Bind a.fields) (map Bind (kept_diamond a.cell))
      where
        map_append : (xs ys : List ℕ) → map Bind (xs ++ ys) ≡ map Bind xs ++ map Bind ys
        map_append [] ys = refl
        map_append (x ∷ xs) ys = ap (λ l. Bind x ∷ l) (map_append xs ys)

    units : Units ℕ
    units = account.carried t.on

    inner : Account ℕ
    inner = in_arm naturals p.types book account t.on con a

    ready : AreReady h s (map Use (t.on ∷ []))
    ready = subst (λ u. AreReady h s (term_events (reads_of p) u)) t.is e.term

    onward : AllByRecursion (AreReady h s1) (map (λ a. map Bind (bound_by a) ++ jump_events f.blocks a.target) t.arms)
    onward = subst (λ u. AllByRecursion (AreReady h (after h s (term_events (reads_of p) u))) (ways f.blocks u)) t.is e.onward

    holds : Holds p.types f env t.on
    holds = e.fit.holds t.on ready.0

    con_is : con ≡ first_con_of p.types (kind_of f t.on) + t.place
    con_is = con_of_arm p.types con t.place vs (kind_of f t.on) (subst (λ o. IsSomeAnd o (λ v. IsSomeAnd (kind_of f t.on) (λ q. Fits p.types q v))) t.value_is holds) t.place_is

    pays : JumpPays p f book func inner a.target
    pays =
        let arms : ArmsPay p f book func account t.on (first_con_of p.types (kind_of f t.on)) t.arms = subst (TermPays p f book func account) t.is e.pays in
        subst (λ c. JumpPays p f book func (in_arm naturals p.types book account t.on c a) a.target) (sym con_is) (arms_pay_at p f book func account t.on (first_con_of p.types (kind_of f t.on)) t.arms t.place a arms t.arm_is)

    lends : ArmLends p.types f (is_lent p.types f t.on) a
    lends = all_at (ArmLends p.types f (is_lent p.types f t.on)) t.arms t.place a (subst (TermLends p f) t.is e.fits.term_lends) t.arm_is

    inner_quiet : LentCarryNothing p.types f inner.carried
    inner_quiet = found_quiet p.types f book.unit account t.on con a.fields a.cell e.quiet lends.cell lends.bound

    jump : worth p.types f (at_start h target) (narrowed target.params (with_cell a.cell bound)) (account_at book func a.target) ≤ worth p.types f s3 (with_cell a.cell bound) inner
    jump = jump_worth p f book func a.target target s3 (with_cell a.cell bound) inner e.well inner_quiet (held_at_target p f a.target target (with_cell a.cell bound) there hand) there
        (ready_second h s1 (map Bind (bound_by a)) (jump_events f.blocks a.target) (way_of f h s1 t.arms t.place a onward t.arm_is)) pays (omega (arith, less))

    diamond : total p.types f s3 (with_cell a.cell bound) (all_carrying account.carried a.fields units) ≤ total p.types f s2 bound (all_carrying account.carried a.fields units)
    diamond = subst (λ u. total p.types f u (with_cell a.cell bound) (all_carrying account.carried a.fields units) ≤ total p.types f s2 bound (all_carrying account.carried a.fields units)) (sym s3_is)
        (cell_total p.types f h s2 bound (all_carrying account.carried a.fields units) a.cell)

    fields : total p.types f s2 bound (all_carrying account.carried a.fields units) ≤ total p.types f s1 env account.carried + potential_all p.types units vs
    fields = fields_total p.types f h s1 env bound account.carried a.fields vs units t.bound_is

    matched : total p.types f s1 env account.carried + value_units p.types units (env t.on) ≤ total p.types f s env account.carried
    matched = use_total p.types f s env account.carried t.on e.well e.quiet holds ready.0

    node : value_units p.types units (env t.on) ≡ node_units p.types units con + potential_all p.types units vs
    node = ap (value_units p.types units) t.value_is

    by_heap : (left one two three all parts : ℕ) (c : Bool) → three ≤ two → two ≤ one + parts → one + (cond c (units con) 0 + parts) ≤ all
        → cond c (left + units con) left + three ≤ left + all
    by_heap left one two three all parts true x y z = omega (arith, x, y, z)
    by_heap left one two three all parts false x y z = omega (arith, x, y, z)

    node_open : Account ℕ
    node_open = opened naturals p.types account t.on con a.fields

    inside : node_open.left + total p.types f s3 (with_cell a.cell bound) node_open.carried ≤ worth p.types f s env account
    inside = by_heap account.left (total p.types f s1 env account.carried) (total p.types f s2 bound (all_carrying account.carried a.fields units)) (total p.types f s3 (with_cell a.cell bound) (all_carrying account.carried a.fields units))
        (total p.types f s env account.carried) (potential_all p.types units vs) (is_heap_con p.types con) diamond fields
        (subst (λ n. total p.types f s1 env account.carried + n ≤ total p.types f s env account.carried) node matched)

    by_cell : (c : CaseCell) (u : State) (bindings : Locals) → node_open.left + total p.types f u bindings node_open.carried ≤ worth p.types f s env account
        → worth p.types f u bindings (found naturals p.types book.unit account t.on con a.fields c) ≤ with_price book.unit c (worth p.types f s env account)
    by_cell cell.Inline u bindings x = x
    by_cell cell.Look u bindings x = x
    by_cell cell.Free u bindings x = omega (arith, x)
    by_cell (cell.Keep d) u bindings x = x

    sum : worth p.types f (at_start h target) (narrowed target.params (with_cell a.cell bound)) (account_at book func a.target) ≤ with_price book.unit a.cell (worth p.types f s env account)
    sum =
        let less = by_cell a.cell s3 (with_cell a.cell bound) inside in
        omega (arith, jump, less)

effect_paid : (q : Kind) (types : List DataType) (u top middle : ℕ) (left : Value → ℕ) (c : CaseCell) (o : Outcome Value)
    → middle ≤ with_price u c top → IsSafe types q o → IsPaidBy u middle left o → IsPaidBy u top left (cell_effect c o)
effect_paid q types u top middle left cell.Inline o less safe h = paid_more (Fits types q) u middle top left left o less (λ v y. omega arith) safe h
effect_paid q types u top middle left cell.Look o less safe h = paid_more (Fits types q) u middle top left left o less (λ v y. omega arith) safe h
effect_paid q types u top middle left cell.Free o less safe h = paid_behind_free u top middle left o less h
effect_paid q types u top middle left (cell.Keep d) o less safe h = paid_more (Fits types q) u middle top left left o less (λ v y. omega arith) safe h

-- ---- the whole of a function

both_kept : (p : Code) (f : Func) (book : Book ℕ) (func : ℕ) (enter : Enter) → AreTypes p.types → ReadsFree p book → CallsSafe p enter → CallsPaid p book enter
    → FuncFits p f → ((number : ℕ) → LentCarryNothing p.types f (account_at book func number).carried) → ((number : ℕ) (b : Block) → slice_get f.blocks number ≡ Some b → BlockPays p f book func number b)
    → IsKept p f enter (λ number n env o. IsSafe p.types f.result o × Paid p f book func number n env o)
both_kept p f book func enter well free safe paid fits quiet pays = record {
  by_let = λ number n b l q env k w next at here kind fit sound go. (
    yields_then (Fits p.types q) (Fits p.types f.result) k (op_run enter k w env l.op) next sound (λ j v good. (go j v good).0),
    λ c there. subst (λ d. IsPaidBy book.unit (worth p.types f (state_at (reads_of p) (is_owned p.types f) d n) env (account_before naturals p.types book func number d n)) (λ v. book.back func + potential p.types (book.result func) v) (first_then k (op_run enter k w env l.op) next))
        (one_block f number b c at there)
        (let_paid p f book func enter well free safe paid number n b l q env k w next (quiet number) (fits_at p f number b fits at) (pays number b at) here kind fit sound (λ j v good. (go j v good).1 b at)),
  );
  by_result = λ number b x v env at is fit here good. (
    good,
    λ c there. subst (λ d. IsPaidBy book.unit (worth p.types f (state_at (reads_of p) (is_owned p.types f) d (length b.lets)) env (account_before naturals p.types book func number d (length b.lets))) (λ v. book.back func + potential p.types (book.result func) v) (Done v 0 0 0))
        (one_block f number b c at there)
        (result_paid p f book func number b env (state_at (reads_of p) (is_owned p.types f) b (length b.lets)) (account_before naturals p.types book func number b (length b.lets)) (at_end number b env at fit) x v is here),
  );
  by_tail = λ number b g args vs callee env k w at is fit values there_g args_fit result. (
    subst (λ q. IsSafe p.types q (enter k w true g vs)) result (safe k w true g vs callee there_g args_fit),
    λ c there. subst (λ d. IsPaidBy book.unit (worth p.types f (state_at (reads_of p) (is_owned p.types f) d (length b.lets)) env (account_before naturals p.types book func number d (length b.lets))) (λ v. book.back func + potential p.types (book.result func) v) (enter k w true g vs))
        (one_block f number b c at there)
        (tail_paid p f book func number b env (state_at (reads_of p) (is_owned p.types f) b (length b.lets)) (account_before naturals p.types book func number b (length b.lets)) enter safe paid (at_end number b env at fit) g args vs callee k w is values there_g args_fit result),
  );
  by_jump = λ number b to target env o at jumps fit less there_b hand claim. (
    claim.0,
    λ c there. subst (λ d. IsPaidBy book.unit (worth p.types f (state_at (reads_of p) (is_owned p.types f) d (length b.lets)) env (account_before naturals p.types book func number d (length b.lets))) (λ v. book.back func + potential p.types (book.result func) v) o)
        (one_block f number b c at there)
        (paid_more (Fits p.types f.result) book.unit (worth p.types f (at_start (is_owned p.types f) target) (narrowed target.params env) (account_at book func to))
        (worth p.types f (state_at (reads_of p) (is_owned p.types f) b (length b.lets)) env (account_before naturals p.types book func number b (length b.lets)))
        (λ v. book.back func + potential p.types (book.result func) v) (λ v. book.back func + potential p.types (book.result func) v) o
        (jump_paid p f book func number b env (state_at (reads_of p) (is_owned p.types f) b (length b.lets)) (account_before naturals p.types book func number b (length b.lets)) (at_end number b env at fit) to target jumps less there_b)
        (λ v y. omega arith) claim.0 (claim.1 target there_b)),
  );
  by_arm = λ number b con vs a bound target env o at fit takes less there_b hand claim. (
    effect_safe p.types f.result a.cell o claim.0,
    λ c there. subst (λ d. IsPaidBy book.unit (worth p.types f (state_at (reads_of p) (is_owned p.types f) d (length b.lets)) env (account_before naturals p.types book func number d (length b.lets))) (λ v. book.back func + potential p.types (book.result func) v) (cell_effect a.cell o))
        (one_block f number b c at there)
        (effect_paid f.result p.types book.unit (worth p.types f (state_at (reads_of p) (is_owned p.types f) b (length b.lets)) env (account_before naturals p.types book func number b (length b.lets)))
        (worth p.types f (at_start (is_owned p.types f) target) (narrowed target.params (with_cell a.cell bound)) (account_at book func a.target)) (λ v. book.back func + potential p.types (book.result func) v) a.cell o
        (arm_worth p f book func number b env (state_at (reads_of p) (is_owned p.types f) b (length b.lets)) (account_before naturals p.types book func number b (length b.lets)) (at_end number b env at fit) con vs a bound target takes less there_b hand)
        claim.0 (claim.1 target there_b)),
  );
}
  where
    at_end : (number : ℕ) (b : Block) (env : Locals) → slice_get f.blocks number ≡ Some b → FitAt p f b (length b.lets) env
        → AtEnd p f book func number b env (state_at (reads_of p) (is_owned p.types f) b (length b.lets)) (account_before naturals p.types book func number b (length b.lets))
    at_end number b env at fit =
        let block = fits_at p f number b fits at in
        record {
          well = well;
          free = free;
          quiet = quiet_before p f book func number b (length b.lets) (quiet number) block.lets_lend;
          block = at;
          fits = block;
          pays = (pays number b at).term;
          fit = fit;
          term = subst (λ s. AreReady (is_owned p.types f) s (term_events (reads_of p) b.term)) (sym (state_last (reads_of p) (is_owned p.types f) b)) block.uses.term;
          onward = subst (λ s. AllByRecursion (AreReady (is_owned p.types f) (after (is_owned p.types f) s (term_events (reads_of p) b.term))) (ways f.blocks b.term)) (sym (state_last (reads_of p) (is_owned p.types f) b)) block.uses.onward;
        }

-- ---- arguments, functions, programs

pub arguments_are : (types : List DataType) (param : Carried ℕ) (first : ℕ) (before args : List Value) → length before ≡ first
    → asked_units types (arguments (before ++ args)) (map (λ x. (x, param x)) (range_with_len first (length args))) ≡ arguments_carry types param first args
arguments_are types param first before [] same = refl
arguments_are types param first before (v ∷ vs) same =
    let start : first - length before ≡ 0 = omega (arith, same) in
    let here : slice_get (before ++ v ∷ vs) first ≡ Some v = slice_get_behind before (v ∷ vs) first (omega (arith, same)) ∙ ap (slice_get (v ∷ vs)) start in
    let next : first + 1 ≡ suc first = omega arith in
    let rest = arguments_are types param (first + 1) (before ++ v ∷ []) vs (length-append before (v ∷ []) ∙ omega (arith, same)) ∙ ap (λ n. arguments_carry types param n vs) next in
    let lists : (before ++ v ∷ []) ++ vs ≡ before ++ v ∷ vs = append_assoc before (v ∷ []) vs in
    let one : value_units types (param first) (slice_get (before ++ v ∷ vs) first) ≡ potential types (param first) v = ap (value_units types (param first)) here in
    let others : asked_units types (arguments (before ++ v ∷ vs)) (map (λ x. (x, param x)) (range_with_len (first + 1) (length vs))) ≡ arguments_carry types param (suc first) vs
    = ap (λ l. asked_units types (arguments l) (map (λ x. (x, param x)) (range_with_len (first + 1) (length vs)))) (sym lists) ∙ rest in
    omega (arith, one, others)

-- a function on fitting arguments, from its first block on
body_paid : (p : Code) (book : Book ℕ) (enter : Enter) → AreTypes p.types → CallsSafe p enter → CallsPaid p book enter → Pays p book
    → (func : ℕ) (f : Func) (k w : ℕ) (args : List Value) → slice_get p.funcs func ≡ Some f → FuncFits p f
    → 1 ≤ length f.blocks → ArgumentsFit p.types f.params args
    → IsPaidBy book.unit (book.need func + arguments_carry p.types (book.param func) 0 args) (λ v. book.back func + potential p.types (book.result func) v) (body_run p.types enter (Some f) k w args)
body_paid p book enter well safe paid pays func f k w args is fits some fit =
    subst (IsPaidBy book.unit (book.need func + arguments_carry p.types (book.param func) 0 args) (λ v. book.back func + potential p.types (book.result func) v)) (sym (body_runs p enter f k w args fit)) (begin f.blocks refl)
  where
    as_many : (qs : List Kind) (vs : List Value) → ArgumentsFit p.types qs vs → length vs ≡ length qs
    as_many [] [] fit = refl
    as_many [] (v ∷ vs) fit = absurd fit
    as_many (q ∷ qs) [] fit = absurd fit
    as_many (q ∷ qs) (v ∷ vs) fit = ap suc (as_many qs vs fit.1)

    begin : (bs : List Block) → f.blocks ≡ bs
        → IsPaidBy book.unit (book.need func + arguments_carry p.types (book.param func) 0 args) (λ v. book.back func + potential p.types (book.result func) v)
        (from_block p.types enter (map narrow f.blocks) 0 k w (arguments args))
    begin [] e = absurd (omega (arith, ap length e, some))
    begin (b ∷ bs) e = from (both.1 b at)
      where
        at : slice_get f.blocks 0 ≡ Some b
        at = ap (λ xs. slice_get xs 0) e

        block : BlockFits p f 0 b
        block = fits_at p f 0 b fits at

        params : b.params ≡ range_with_len 0 (length f.params)
        params = block.entry refl

        starts : FitAt p f b 0 (arguments args)
        starts = arguments_fit p f b args params fit

        both : IsSafe p.types f.result (from_block p.types enter (map narrow f.blocks) 0 k w (arguments args))
            × Paid p f book func 0 0 (arguments args) (from_block p.types enter (map narrow f.blocks) 0 k w (arguments args))
        both = holds_from_block p f enter safe fits (λ number n env o. IsSafe p.types f.result o × Paid p f book func number n env o)
            (both_kept p f book func enter well (reads_free p book pays.lent) safe paid fits (λ number. pays.lent func number f is) (λ number c there. pays.blocks func number f c is there)) 0 b at k w (arguments args) starts

        entry : worth p.types f (state_at (reads_of p) (is_owned p.types f) b 0) (arguments args) (account_before naturals p.types book func 0 b 0) ≤ book.need func + arguments_carry p.types (book.param func) 0 args
        entry =
            let bound = params_total p.types f (is_owned p.types f) nothing_bound (arguments args) (book.param func) b.params in
            let none = nothing_total p.types f (arguments args) (book.param func) in
            let count : length f.params ≡ length args = sym (as_many f.params args fit) in
            let asked : asked_units p.types (arguments args) (map (λ x. (x, book.param func x)) b.params) ≡ arguments_carry p.types (book.param func) 0 args
            = ap (λ ps. asked_units p.types (arguments args) (map (λ x. (x, book.param func x)) ps)) (params ∙ ap (range_with_len 0) count) ∙ arguments_are p.types (book.param func) 0 [] args refl in
            omega (arith, bound, none, asked)

        from : IsPaidBy book.unit (worth p.types f (state_at (reads_of p) (is_owned p.types f) b 0) (arguments args) (account_before naturals p.types book func 0 b 0)) (λ v. book.back func + potential p.types (book.result func) v)
            (from_block p.types enter (map narrow f.blocks) 0 k w (arguments args))
            → IsPaidBy book.unit (book.need func + arguments_carry p.types (book.param func) 0 args) (λ v. book.back func + potential p.types (book.result func) v) (from_block p.types enter (map narrow f.blocks) 0 k w (arguments args))
        from h = paid_more (Fits p.types f.result) book.unit (worth p.types f (state_at (reads_of p) (is_owned p.types f) b 0) (arguments args) (account_before naturals p.types book func 0 b 0)) (book.need func + arguments_carry p.types (book.param func) 0 args)
            (λ v. book.back func + potential p.types (book.result func) v) (λ v. book.back func + potential p.types (book.result func) v) (from_block p.types enter (map narrow f.blocks) 0 k w (arguments args)) entry (λ v y. omega arith) both.0 h

-- calls with every clock
pub calls_paid : (p : Code) (book : Book ℕ) → IsWellFormed p → HaveBlocks p → AreTypes p.types → Pays p book → (limit clock : ℕ)
    → CallsPaid p book (calls (bodies p) limit clock)
calls_paid p book well some types pays limit clock zero w t g args callee is fit = omega arith
calls_paid p book well some types pays limit zero (suc k) w t g args callee is fit = omega arith
calls_paid p book well some types pays limit (suc clock) (suc k) w t g args callee is fit =
    by_depth (is_too_deep limit w t)
    (subst (λ o. IsPaidBy book.unit (book.need g + arguments_carry p.types (book.param g) 0 args) (λ v. book.back g + potential p.types (book.result g) v) (body_run p.types (calls (bodies p) limit clock) o k (cond t w (suc w)) args)) (sym is)
    (body_paid p book (calls (bodies p) limit clock) types (calls_safe p well some limit clock) (calls_paid p book well some types pays limit clock) pays g callee k (cond t w (suc w)) args is
    (all_at (FuncFits p) p.funcs g callee well.funcs is) (all_at (λ f. 1 ≤ length f.blocks) p.funcs g callee some is) fit))
  where
    by_depth : (b : Bool) → IsPaidBy book.unit (book.need g + arguments_carry p.types (book.param g) 0 args) (λ v. book.back g + potential p.types (book.result g) v) (body_run p.types (calls (bodies p) limit clock) (slice_get p.funcs g) k (cond t w (suc w)) args)
        → IsPaidBy book.unit (book.need g + arguments_carry p.types (book.param g) 0 args) (λ v. book.back g + potential p.types (book.result g) v)
        (if b then Deep 0 else entered (body_run p.types (calls (bodies p) limit clock) (slice_get p.funcs g) k (cond t w (suc w)) args))
    by_depth true h = omega arith
    by_depth false h = paid_behind_entry book.unit (book.need g + arguments_carry p.types (book.param g) 0 args) (λ v. book.back g + potential p.types (book.result g) v) (body_run p.types (calls (bodies p) limit clock) (slice_get p.funcs g) k (cond t w (suc w)) args) h

-- Every run of annotated code from a function on fitting arguments, with any fuel and any limit of waiting calls, ended
-- or stopped.
pub run_paid : (p : Code) (book : Book ℕ) → IsWellFormed p → HaveBlocks p → AreTypes p.types → Pays p book
    → (limit func fuel : ℕ) (args : List Value) (f : Func) → slice_get p.funcs func ≡ Some f → ArgumentsFit p.types f.params args
    → IsPaidBy book.unit (book.need func + arguments_carry p.types (book.param func) 0 args) (λ v. book.back func + potential p.types (book.result func) v) (run_of p limit func fuel args)
run_paid p book well some types pays limit func fuel args f is fit = calls_paid p book well some types pays limit fuel fuel 0 true func args f is fit

-- What follows a place, where every ready local has a value of its kind, is paid for by what the place is worth.
pub place_paid : (p : Code) (book : Book ℕ) → IsWellFormed p → HaveBlocks p → AreTypes p.types → Pays p book
    → (limit func number place fuel waits : ℕ) (f : Func) (b : Block) (env : Locals)
    → slice_get p.funcs func ≡ Some f → slice_get f.blocks number ≡ Some b → place ≤ length b.lets → FitAt p f b place env
    → IsPaidBy book.unit (worth_at p book func f number b place env) (λ v. book.back func + potential p.types (book.result func) v) (from_place p.types (entering (bodies p) limit) f b number place env fuel waits)
place_paid p book well some types pays limit func number place fuel waits f b env is at within fit = (claim number place b at within fuel waits env fit).1 b at
  where
    safe : CallsSafe p (entering (bodies p) limit)
    safe k w t g args callee there args_fit = calls_safe p well some limit k k w t g args callee there args_fit

    paid : CallsPaid p book (entering (bodies p) limit)
    paid k w t g args callee there args_fit = calls_paid p book well some types pays limit k k w t g args callee there args_fit

    fits : FuncFits p f
    fits = all_at (FuncFits p) p.funcs func f well.funcs is

    claim : (number place : ℕ) (b : Block) → slice_get f.blocks number ≡ Some b → place ≤ length b.lets → (k w : ℕ) (env : Locals) → FitAt p f b place env
        → IsSafe p.types f.result (from_place p.types (entering (bodies p) limit) f b number place env k w) × Paid p f book func number place env (from_place p.types (entering (bodies p) limit) f b number place env k w)
    claim = holds_from_place p f (entering (bodies p) limit) safe fits (λ number n env o. IsSafe p.types f.result o × Paid p f book func number n env o)
        (both_kept p f book func (entering (bodies p) limit) types (reads_free p book pays.lent) safe paid fits (λ number. pays.lent func number f is) (λ number c there. pays.blocks func number f c is there))
