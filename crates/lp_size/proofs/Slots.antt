-- What slots say that locals carry, against what the checks say.
use Rattle.std.proofs.Common.{◌≡◌, ℕ, zero, suc, ◌<◌, ◌≤◌, Bool, true, false, List, [], ◌∷◌, ◌++◌, length, replicate, Option, Some, None, IsTrue, refl, sym, ap, ◌∙◌, subst, arith}
use Rattle.std.specs.Prelude.{◌==◌, ◌||◌, if◌then◌else◌, slice_get, slice_set, cond}
use Rattle.std.specs.List.{AllByRecursion}
use Rattle.camelot_values.specs.Kinds.{DataType}
use Rattle.camelot_values.specs.Lists.{is_among}
use Rattle.grail_blocks.specs.declared.blocks.CaseCell.{CaseCell}
use Rattle.grail_blocks.specs.declared.blocks.CaseCell.TheVariants as cell
use Rattle.grail_code.specs.Code.{Op, Lit, Flag, Copy, Prim, Make, Call, Let, CaseArm, Func, Code}
use Rattle.grail_code.specs.WellFormed.{is_lent, kept_diamond, AreNotLent, CellLends, ArmLends, bound_anew}
use Rattle.annotations.specs.Vectors.{is_heap_con}
use Rattle.licence.specs.Books.{Units, Carried}
use Rattle.licence.specs.Rules.{Account, carrying, all_carrying, account_at, build_cost, after_op}
use Rattle.lp_system.specs.Unknowns.{Param, BlockVar, is_listed, unknowns_of}
use Rattle.lp_system.specs.Forms.{Form, forms, unknown_book}
use Rattle.lp_system.specs.theory.Lent.{some_owned}
use Rattle.lp_system.specs.theory.Listing.{StandsIn, listed_stands}
use Rattle.lp_system.specs.theory.Certified.{the_func}
use Rattle.lp_size.specs.declared.origins.Origin.{Origin}
use Rattle.lp_size.specs.declared.origins.Origin.TheVariants as origin
use Rattle.lp_size.specs.declared.origins.Slot.{Slot}
use Rattle.lp_size.specs.Counting.{first_origin, origin_in, origin_at, put, slots_behind, slots_behind_op, bound, unbound, lets_behind}
use Rattle.lp_size.proofs.Asking.{units_of, IsOff}
use Rattle.lp_size.proofs.Tests.{itself, are_equal, not_equal, not_first}

-- ---- slots as lists

set_here : {A : Type 0} (xs : List A) (i : ℕ) (v : A) → i < length xs → slice_get (slice_set xs i v) i ≡ Some v
set_here [] i v h = absurd (omega (arith, h))
set_here (x ∷ xs) zero v h = refl
set_here (x ∷ xs) (suc i) v h = set_here xs i v (omega (arith, h))

set_there : {A : Type 0} (xs : List A) (i j : ℕ) (v : A) → (i ≡ j → ⊥) → slice_get (slice_set xs i v) j ≡ slice_get xs j
set_there [] i j v n = refl
set_there (x ∷ xs) zero zero v n = absurd (n refl)
set_there (x ∷ xs) zero (suc j) v n = refl
set_there (x ∷ xs) (suc i) zero v n = refl
set_there (x ∷ xs) (suc i) (suc j) v n = set_there xs i j v (λ e. n (ap suc e))

set_length : {A : Type 0} (xs : List A) (i : ℕ) (v : A) → length (slice_set xs i v) ≡ length xs
set_length [] i v = refl
set_length (x ∷ xs) zero v = refl
set_length (x ∷ xs) (suc i) v = ap suc (set_length xs i v)

-- so many blocks had begun at most when a local was bound
abbrev pub AreBy : ℕ → List Slot → Type 0
AreBy n slots = AllByRecursion (λ s. s.begun ≤ n) slots

set_by : (n : ℕ) (slots : List Slot) (i : ℕ) (v : Slot) → v.begun ≤ n → AreBy n slots → AreBy n (slice_set slots i v)
set_by n [] i v l h = tt
set_by n (s ∷ slots) zero v l h = (l, h.1)
set_by n (s ∷ slots) (suc i) v l h = (h.0, set_by n slots i v l h.1)

pub later_by : (n m : ℕ) (slots : List Slot) → n ≤ m → AreBy n slots → AreBy m slots
later_by n m [] l h = tt
later_by n m (s ∷ slots) l h = (omega (arith, l, h.0), later_by n m slots l h.1)

at_by : (n : ℕ) (slots : List Slot) (i : ℕ) (s : Slot) → AreBy n slots → slice_get slots i ≡ Some s → s.begun ≤ n
at_by n [] i s h e = let none : None ≡ Some s = e in absurd cc
at_by n (t ∷ slots) zero s h e = let same : t ≡ s = cc in subst (λ r. r.begun ≤ n) same h.0
at_by n (t ∷ slots) (suc i) s h e = at_by n slots i s h.1 e

-- ---- what locals carry

pub record AreCarried (func block : ℕ) (slots : List Slot) (carried : Carried Form) : Type 0 where
  pub room : length slots ≡ 256
  pub past : AreBy (suc block) slots
  pub same : (x : ℕ) → carried x ≡ units_of (origin_at func block slots x)

put_here : (func block : ℕ) (slots : List Slot) (x : ℕ) (o : Origin) → x < length slots → origin_at func block (put block slots x o) x ≡ o
put_here func block slots x o h = ap (origin_in func block x) (set_here slots x (record { begun = suc block; origin = o }) h) ∙ ap (λ t. if t then o else first_origin func block x) (itself (suc block))

put_there : (func block : ℕ) (slots : List Slot) (x y : ℕ) (o : Origin) → (x ≡ y → ⊥)
    → origin_at func block (put block slots x o) y ≡ origin_at func block slots y
put_there func block slots x y o n = ap (origin_in func block y) (set_there slots x y (record { begun = suc block; origin = o }) n)

pub carried_put : (func block : ℕ) (slots : List Slot) (carried : Carried Form) (x : ℕ) (units : Units Form) (o : Origin) → x < 256
    → units ≡ units_of o → AreCarried func block slots carried
    → AreCarried func block (put block slots x o) (carrying carried x units)
carried_put func block slots carried x units o few is h = record {
  room = set_length slots x (record { begun = suc block; origin = o }) ∙ h.room;
  past = set_by (suc block) slots x (record { begun = suc block; origin = o }) (omega arith) h.past;
  same = λ y. by_test y (x == y) refl;
}
  where
    by_test : (y : ℕ) (t : Bool) → (x == y) ≡ t → (if t then units else carried y) ≡ units_of (origin_at func block (put block slots x o) y)
    by_test y true e = is ∙ ap units_of (sym (put_here func block slots x o (omega (arith, few, h.room))) ∙ ap (origin_at func block (put block slots x o)) (are_equal x y e))
    by_test y false e = h.same y ∙ ap units_of (sym (put_there func block slots x y o (not_equal x y e)))

-- behind a let
pub carried_op : (types : List DataType) (func block at : ℕ) (slots : List Slot) (account : Account Form) (x : ℕ) (op : Op) → x < 256
    → AreCarried func block slots account.carried
    → AreCarried func block (slots_behind_op types func block slots at x op) (after_op forms types unknown_book func block at account x op).carried
carried_op types func block at slots account x (Copy y) few h = carried_put func block slots account.carried x (account.carried y) (origin_at func block slots y) few (h.same y) h
carried_op types func block at slots account x (Make con args into) few h = by_heap (is_heap_con types con)
  where
    by_heap : (t : Bool) → AreCarried func block (cond t (put block slots x (origin.Made func block at)) slots)
        (cond t (record { left = forms.minus account.left (build_cost forms unknown_book.unit into (unknown_book.make func block at con)); carried = carrying account.carried x (unknown_book.make func block at) }) account).carried
    by_heap true = carried_put func block slots account.carried x (unknown_book.make func block at) (origin.Made func block at) few refl h
    by_heap false = h
carried_op types func block at slots account x (Call callee args) few h = carried_put func block slots account.carried x (unknown_book.result callee) (origin.Result callee) few refl h
carried_op types func block at slots account x (Lit z) few h = h
carried_op types func block at slots account x (Flag b) few h = h
carried_op types func block at slots account x (Prim op y z) few h = h

-- ---- behind lets, slots are as many, and of blocks that have begun

past_op : (types : List DataType) (func block at x : ℕ) (slots : List Slot) (op : Op) → (length slots ≡ 256) × AreBy (suc block) slots
    → (length (slots_behind_op types func block slots at x op) ≡ 256) × AreBy (suc block) (slots_behind_op types func block slots at x op)
past_op types func block at x slots op h = by_op op
  where
    by_put : (o : Origin) → (length (put block slots x o) ≡ 256) × AreBy (suc block) (put block slots x o)
    by_put o = (set_length slots x (record { begun = suc block; origin = o }) ∙ h.0, set_by (suc block) slots x (record { begun = suc block; origin = o }) (omega arith) h.1)

    by_heap : (o : Origin) (t : Bool) → (length (cond t (put block slots x o) slots) ≡ 256) × AreBy (suc block) (cond t (put block slots x o) slots)
    by_heap o true = by_put o
    by_heap o false = h

    by_op : (op : Op) → (length (slots_behind_op types func block slots at x op) ≡ 256) × AreBy (suc block) (slots_behind_op types func block slots at x op)
    by_op (Copy y) = by_put (origin_at func block slots y)
    by_op (Make con args into) = by_heap (origin.Made func block at) (is_heap_con types con)
    by_op (Call callee args) = by_put (origin.Result callee)
    by_op (Lit z) = h
    by_op (Flag b) = h
    by_op (Prim op y z) = h

pub past_lets : (types : List DataType) (func block at : ℕ) (slots : List Slot) (ls : List Let) → (length slots ≡ 256) × AreBy (suc block) slots
    → (length (lets_behind types func block slots at ls) ≡ 256) × AreBy (suc block) (lets_behind types func block slots at ls)
past_lets types func block at slots [] h = h
past_lets types func block at slots (l ∷ ls) h = past_lets types func block (suc at) (slots_behind types func block slots at l) ls (past_op types func block at l.target slots l.op h)

-- ---- at the beginning of a block

fresh_in : (func block x : ℕ) (o : Option Slot) → ((s : Slot) → o ≡ Some s → s.begun ≤ block) → origin_in func block x o ≡ first_origin func block x
fresh_in func block x None h = refl
fresh_in func block x (Some s) h = let b = h s refl in by_test (s.begun == suc block) refl b
  where
    by_test : (t : Bool) → (s.begun == suc block) ≡ t → s.begun ≤ block → (if t then s.origin else first_origin func block x) ≡ first_origin func block x
    by_test true e l = absurd (omega (arith, are_equal s.begun (suc block) e, l))
    by_test false e l = refl

pub first_carried : (func block : ℕ) (slots : List Slot) → length slots ≡ 256 → AreBy block slots
    → AreCarried func block slots (account_at unknown_book func block).carried
first_carried func block slots room h = record {
  room = room;
  past = later_by block (suc block) slots (omega arith) h;
  same = λ x. said block x ∙ ap units_of (sym (fresh_in func block x (slice_get slots x) (λ s e. at_by block slots x s h e)));
}
  where
    said : (block x : ℕ) → (account_at unknown_book func block).carried x ≡ units_of (first_origin func block x)
    said zero x = refl
    said (suc n) x = ap (λ t. units_of (if t then origin.Param func x else origin.BlockVar func (suc n) x)) (sym (not_first n))

unbound_by : (func n : ℕ) → AreBy 0 (replicate n (unbound func))
unbound_by func zero = tt
unbound_by func (suc n) = (omega arith, unbound_by func n)

unbound_length : (func n : ℕ) → length (replicate n (unbound func)) ≡ n
unbound_length func zero = refl
unbound_length func (suc n) = ap suc (unbound_length func n)

pub begun_by : (func : ℕ) → AreBy 0 (replicate 256 (unbound func))
begun_by func = unbound_by func 256

pub begun_room : (func : ℕ) → length (replicate 256 (unbound func)) ≡ 256
begun_room func = unbound_length func 256

-- ---- what is lent carries nothing that is listed

-- the unknowns of what is lent aren't listed
pub param_off : (p : Code) (func : ℕ) (f : Func) → slice_get p.funcs func ≡ Some f → (x : ℕ) → is_lent p.types f x ≡ true
    → IsOff (unknowns_of p) (origin.Param func x)
param_off p func f there x lent c = by_test (is_listed (unknowns_of p) (Param func x c)) refl
  where
    by_test : (b : Bool) → is_listed (unknowns_of p) (Param func x c) ≡ b → b ≡ false
    by_test false e = refl
    by_test true e =
        let s = the_func p func f (λ g. StandsIn p.types g (Param func x c)) there (listed_stands p (Param func x c) e) in
        let k : true ≡ false = sym lent ∙ some_owned p.types f x c s.1 in absurd cc

pub block_off : (p : Code) (func : ℕ) (f : Func) → slice_get p.funcs func ≡ Some f → (b x : ℕ) → is_lent p.types f x ≡ true
    → IsOff (unknowns_of p) (origin.BlockVar func b x)
block_off p func f there b x lent c = by_test (is_listed (unknowns_of p) (BlockVar func b x c)) refl
  where
    by_test : (t : Bool) → is_listed (unknowns_of p) (BlockVar func b x c) ≡ t → t ≡ false
    by_test false e = refl
    by_test true e =
        let s = the_func p func f (λ g. StandsIn p.types g (BlockVar func b x c)) there (listed_stands p (BlockVar func b x c) e) in
        let k : true ≡ false = sym lent ∙ some_owned p.types f x c s.3 in absurd cc

abbrev pub AreQuiet : Code → Func → (func block : ℕ) → List Slot → Type 0
AreQuiet p f func block slots = (x : ℕ) → is_lent p.types f x ≡ true → IsOff (unknowns_of p) (origin_at func block slots x)

pub first_quiet : (p : Code) (func : ℕ) (f : Func) → slice_get p.funcs func ≡ Some f → (block : ℕ) (slots : List Slot) → AreBy block slots
    → AreQuiet p f func block slots
first_quiet p func f there block slots h x lent =
    subst (IsOff (unknowns_of p)) (sym (fresh_in func block x (slice_get slots x) (λ s e. at_by block slots x s h e))) (by_block (block == 0))
  where
    by_block : (b : Bool) → IsOff (unknowns_of p) (if b then origin.Param func x else origin.BlockVar func block x)
    by_block true = param_off p func f there x lent
    by_block false = block_off p func f there block x lent

quiet_put : (p : Code) (f : Func) (func block : ℕ) (slots : List Slot) (x : ℕ) (o : Origin) → is_lent p.types f x ≡ false → AreQuiet p f func block slots
    → AreQuiet p f func block (put block slots x o)
quiet_put p f func block slots x o own quiet y lent =
    subst (IsOff (unknowns_of p)) (sym (put_there func block slots x y o other)) (quiet y lent)
  where
    other : x ≡ y → ⊥
    other e = let k : true ≡ false = sym lent ∙ ap (is_lent p.types f) (sym e) ∙ own in absurd cc

-- a let binds nothing that is lent
pub quiet_op : (p : Code) (f : Func) (func block at : ℕ) (slots : List Slot) (x : ℕ) (op : Op) → is_lent p.types f x ≡ false
    → AreQuiet p f func block slots → AreQuiet p f func block (slots_behind_op p.types func block slots at x op)
quiet_op p f func block at slots x (Copy y) own quiet = quiet_put p f func block slots x (origin_at func block slots y) own quiet
quiet_op p f func block at slots x (Make con args into) own quiet = by_heap (is_heap_con p.types con)
  where
    by_heap : (t : Bool) → AreQuiet p f func block (cond t (put block slots x (origin.Made func block at)) slots)
    by_heap true = quiet_put p f func block slots x (origin.Made func block at) own quiet
    by_heap false = quiet
quiet_op p f func block at slots x (Call callee args) own quiet = quiet_put p f func block slots x (origin.Result callee) own quiet
quiet_op p f func block at slots x (Lit z) own quiet = quiet
quiet_op p f func block at slots x (Flag b) own quiet = quiet
quiet_op p f func block at slots x (Prim op y z) own quiet = quiet

-- a jump that binds nothing
pub quiet_on : (p : Code) (f : Func) (func block : ℕ) (slots : List Slot) (o : Origin) → AreQuiet p f func block slots → (x : ℕ)
    → is_lent p.types f x ≡ true → IsOff (unknowns_of p) (bound func block slots [] o x)
unfolding bound
quiet_on p f func block slots o quiet x lent = quiet x lent

-- one of these that aren't lent
among_owned : (types : List DataType) (f : Func) (xs ys : List ℕ) (x : ℕ) → AreNotLent types f (xs ++ ys) → is_among xs x ≡ true → is_lent types f x ≡ false
among_owned types f [] ys x all m = absurd cc
among_owned types f (z ∷ xs) ys x all m = by_test (among_owned types f xs ys x all.1) (z == x) refl m
  where
    by_test : (is_among xs x ≡ true → is_lent types f x ≡ false) → (b : Bool) → (z == x) ≡ b → (b || is_among xs x) ≡ true → is_lent types f x ≡ false
    by_test rest true e k = ap (is_lent types f) (sym (are_equal z x e)) ∙ all.0
    by_test rest false e k = rest k

-- An arm that looks at its cell is one of a case on what is lent, and any other binds nothing that is lent.
pub quiet_arm : (p : Code) (f : Func) (func block : ℕ) (slots : List Slot) (on : ℕ) (a : CaseArm) → ArmLends p.types f (is_lent p.types f on) a
    → AreQuiet p f func block slots → (x : ℕ) → is_lent p.types f x ≡ true
    → IsOff (unknowns_of p) (bound func block slots a.fields (origin_at func block slots on) x)
unfolding bound
quiet_arm p f func block slots on a lends quiet x lent = by_test (is_among a.fields x) refl
  where
    is_true : (b : Bool) → IsTrue b → b ≡ true
    is_true true t = refl
    is_true false t = absurd cc

    not_bound : (ys : List ℕ) → AreNotLent p.types f (a.fields ++ ys) → is_among a.fields x ≡ true → IsOff (unknowns_of p) (origin_at func block slots on)
    not_bound ys all m = let k : true ≡ false = sym lent ∙ among_owned p.types f a.fields ys x all m in absurd cc

    by_cell : (c : CaseCell) → CellLends (is_lent p.types f on) c → AreNotLent p.types f (bound_anew c (a.fields ++ kept_diamond c)) → is_among a.fields x ≡ true
        → IsOff (unknowns_of p) (origin_at func block slots on)
    by_cell cell.Look lends all m = quiet on (is_true (is_lent p.types f on) lends)
    by_cell cell.Inline lends all m = not_bound [] all m
    by_cell cell.Free lends all m = not_bound [] all m
    by_cell (cell.Keep d) lends all m = not_bound (d ∷ []) all m

    by_test : (b : Bool) → is_among a.fields x ≡ b
        → IsOff (unknowns_of p) (if b then origin_at func block slots on else origin_at func block slots x)
    by_test true e = by_cell a.cell lends.cell lends.bound e
    by_test false e = quiet x lent

-- ---- in an arm

all_carried : (carried : Carried Form) (fields : List ℕ) (units : Units Form) (x : ℕ)
    → all_carrying carried fields units x ≡ (if is_among fields x then units else carried x)
all_carried carried [] units x = refl
all_carried carried (y ∷ fields) units x = all_carried (carrying carried y units) fields units x ∙ by_tests (is_among fields x) (y == x)
  where
    by_tests : (s t : Bool) → (if s then units else (if t then units else carried x)) ≡ (if t || s then units else carried x)
    by_tests true true = refl
    by_tests true false = refl
    by_tests false true = refl
    by_tests false false = refl

pub arm_carried : (func block : ℕ) (slots : List Slot) (carried : Carried Form) (fields : List ℕ) (on : ℕ) → AreCarried func block slots carried
    → (x : ℕ) → all_carrying carried fields (carried on) x ≡ units_of (bound func block slots fields (origin_at func block slots on) x)
unfolding bound
arm_carried func block slots carried fields on h x = all_carried carried fields (carried on) x ∙ by_test (is_among fields x)
  where
    by_test : (t : Bool) → (if t then carried on else carried x) ≡ units_of (if t then origin_at func block slots on else origin_at func block slots x)
    by_test true = h.same on
    by_test false = h.same x

pub none_bound : (func block : ℕ) (slots : List Slot) (carried : Carried Form) (o : Origin) → AreCarried func block slots carried → (x : ℕ)
    → carried x ≡ units_of (bound func block slots [] o x)
unfolding bound
none_bound func block slots carried o h x = h.same x
