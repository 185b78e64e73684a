-- Laws, for the proofs of this crate and of those above it.
-- The numbers of a system are small: each let of a block changes what is left by at most two unknowns and a cell, and
-- so does what comes behind the lets.
use Rattle.std.proofs.Common.{ℕ, zero, suc, ◌+◌, ◌*◌, ◌≤◌, ◌^◌, Bool, true, false, ℤ, pos, ◌+ℤ◌, List, [], ◌∷◌, ◌++◌, length, map, Option, Some, None, arith}
use Rattle.std.specs.Prelude.{◌==◌, ◌-ℤ◌, ◌≤ℤ◌, if◌then◌else◌, cond, slice_get, unsigned_abs}
use Rattle.std.specs.List.{filter, AllByRecursion}
use Rattle.std.specs.Option.{option_map_or}
use Rattle.std.proofs.lemmas.Int.{ints}
use Rattle.std.proofs.lemmas.List.{length-map}
use Rattle.dual_simplex.specs.Systems.{IsAscending, IsProperRow, IsProper}
use Rattle.camelot_values.specs.Kinds.{DataType}
use Rattle.camelot_values.specs.Heap.{reached}
use Rattle.camelot_values.specs.declared.kinds.Kind.{Kind}
use Rattle.grail_blocks.specs.declared.blocks.Place.{Place}
use Rattle.grail_blocks.specs.declared.blocks.Place.TheVariants as place
use Rattle.grail_blocks.specs.declared.blocks.CaseCell.{CaseCell}
use Rattle.grail_blocks.specs.declared.blocks.CaseCell.TheVariants as cell
use Rattle.grail_blocks.specs.Events.{params_at}
use Rattle.grail_code.specs.Code.{Op, Lit, Flag, Copy, Prim, Make, Call, Let, CaseArm, Term, Ret, Tail, Goto, If, Case, Block, Func, Code}
use Rattle.grail_code.specs.WellFormed.{kind_of, is_marked}
use Rattle.grail_code.specs.Limits.{FuncIsWithin, IsWithinLimits}
use Rattle.annotations.specs.Vectors.{is_heap_con}
use Rattle.licence.specs.Books.{Units, Carried, Book}
use Rattle.licence.specs.Rules.{Account, account_at, carrying, all_carrying, build_cost, after_op, opened, found, in_arm, first_con_of, Asks, call_asks, jump_asks, build_asks}
use Rattle.licence.specs.Checks.{Check, Site, left_check, value_checks, local_checks, arguments_checks, op_checks, jump_checks, arms_checks, term_checks, lets_checks, blocks_checks, funcs_checks, checks_of}
use Rattle.licence.specs.theory.Asking.{AllAsked, each_asked, arguments_asked}
use Rattle.lp_system.specs.Unknowns.{Unknown, Need, Back, Param, Result, BlockNeed, BlockVar, Made, same, unknowns_of}
use Rattle.lp_system.specs.Forms.{Form, forms, once, one_cell, unknown_book, is_zero, terms_from, row_of, asks, rows_of, cost_of, system_of}
use Rattle.lp_system.specs.theory.Rows.{by_place}

-- ---- sizes of forms

-- each number of the form is at most this in size
pub record Sized (k : ℕ) (form : Form) : Type 0 where
  pub constant : unsigned_abs form.constant ≤ k
  pub factor : (u : Unknown) → unsigned_abs (form.factor u) ≤ k

size_plus : (a b : ℤ) → unsigned_abs (a +ℤ b) ≤ unsigned_abs a + unsigned_abs b
size_plus a b = omega (arith, ints)

size_minus : (a b : ℤ) → unsigned_abs (a -ℤ b) ≤ unsigned_abs a + unsigned_abs b
size_minus a b = omega (arith, ints)

sized_more : (j k : ℕ) (form : Form) → j ≤ k → Sized j form → Sized k form
sized_more j k form l h = record { constant = omega (arith, l, h.constant); factor = λ u. omega (arith, l, h.factor u) }

sized_plus : (j k : ℕ) (a b : Form) → Sized j a → Sized k b → Sized (j + k) (forms.plus a b)
sized_plus j k a b h l = record {
  constant = omega (arith, size_plus a.constant b.constant, h.constant, l.constant);
  factor = λ u. omega (arith, size_plus (a.factor u) (b.factor u), h.factor u, l.factor u);
}

sized_minus : (j k : ℕ) (a b : Form) → Sized j a → Sized k b → Sized (j + k) (forms.minus a b)
sized_minus j k a b h l = record {
  constant = omega (arith, size_minus a.constant b.constant, h.constant, l.constant);
  factor = λ u. omega (arith, size_minus (a.factor u) (b.factor u), h.factor u, l.factor u);
}

sized_once : (u : Unknown) → Sized 1 (once u)
sized_once u = record { constant = omega arith; factor = λ v. by_test (same u v) }
  where
    by_test : (b : Bool) → unsigned_abs (if b then pos 1 else pos 0) ≤ 1
    by_test true = omega arith
    by_test false = omega arith

sized_cell : Sized 1 one_cell
sized_cell = record { constant = omega arith; factor = λ v. omega arith }

-- each form of a book
record SmallBook (book : Book Form) : Type 0 where
  unit : Sized 1 book.unit
  need : (func : ℕ) → Sized 1 (book.need func)
  back : (func : ℕ) → Sized 1 (book.back func)
  param : (func x con : ℕ) → Sized 1 (book.param func x con)
  result : (func con : ℕ) → Sized 1 (book.result func con)
  block_need : (func block : ℕ) → Sized 1 (book.block_need func block)
  block_var : (func block x con : ℕ) → Sized 1 (book.block_var func block x con)
  make : (func block place con : ℕ) → Sized 1 (book.make func block place con)

small_book : SmallBook unknown_book
small_book = record {
  unit = sized_cell;
  need = λ func. sized_once (Need func);
  back = λ func. sized_once (Back func);
  param = λ func x con. sized_once (Param func x con);
  result = λ func con. sized_once (Result func con);
  block_need = λ func block. sized_once (BlockNeed func block);
  block_var = λ func block x con. sized_once (BlockVar func block x con);
  make = λ func block place con. sized_once (Made func block place con);
}

-- ---- lists of checks

pub record SmallCheck (k : ℕ) (c : Check Form) : Type 0 where
  pub have : Sized k c.have
  pub need : Sized k c.need

abbrev SmallUnits : Units Form → Type 0
SmallUnits units = (c : ℕ) → Sized 1 (units c)

abbrev SmallCarried : Carried Form → Type 0
SmallCarried carried = (x : ℕ) → SmallUnits (carried x)

-- what is left, and what locals carry
record SmallAccount (k : ℕ) (a : Account Form) : Type 0 where
  left : Sized k a.left
  carried : SmallCarried a.carried

carrying_small : (carried : Carried Form) (x : ℕ) (units : Units Form) → SmallCarried carried → SmallUnits units → SmallCarried (carrying carried x units)
carrying_small carried x units h k = λ y c. by_test y c (x == y)
  where
    by_test : (y c : ℕ) (b : Bool) → Sized 1 ((if b then units else carried y) c)
    by_test y c true = k c
    by_test y c false = h y c

all_carrying_small : (xs : List ℕ) (carried : Carried Form) (units : Units Form) → SmallCarried carried → SmallUnits units
    → SmallCarried (all_carrying carried xs units)
all_carrying_small [] carried units h k = h
all_carrying_small (x ∷ xs) carried units h k = all_carrying_small xs (carrying carried x units) units (carrying_small carried x units h k) k

-- where two forms are within the limit
module _ (limit : ℕ) (room : 2 ≤ limit) where
  abbrev AllSmall : List (Check Form) → Type 0
  AllSmall cs = AllByRecursion (SmallCheck limit) cs

  both : (cs ds : List (Check Form)) → AllSmall cs → AllSmall ds → AllSmall (cs ++ ds)
  both [] ds h k = k
  both (c ∷ cs) ds h k = (h.0, both cs ds h.1 k)

  one : (s : Site) (have need : Form) (j k : ℕ) → Sized j have → Sized k need → j ≤ limit → k ≤ limit → AllSmall (left_check s have need ∷ [])
  one s have need j k h l p q = (record { have = sized_more j limit have p h; need = sized_more k limit need q l }, tt)

  values_small : (types : List DataType) (s : Site) (q : Option Kind) (have need : Units Form) → SmallUnits have → SmallUnits need
      → AllSmall (value_checks types s q have need)
  values_small types s q have need h k = each (option_map_or (reached types) q [])
    where
      each : (cons : List ℕ) → AllSmall (map (λ c. record { func = s.func; block = s.block; place = s.place; con = Some c; have = have c; need = need c }) cons)
      each [] = tt
      each (c ∷ cons) = (record { have = sized_more 1 limit (have c) (omega (arith, room)) (h c); need = sized_more 1 limit (need c) (omega (arith, room)) (k c) }, each cons)

  locals_small : (types : List DataType) (f : Func) (s : Site) (carried : Carried Form) (asks : Asks Form) → SmallCarried carried
      → AllAsked SmallUnits asks → AllSmall (local_checks types f s carried asks)
  locals_small types f s carried [] h k = tt
  locals_small types f s carried (a ∷ asks) h k =
      both (value_checks types s (kind_of f a.0) (carried a.0) a.1) (local_checks types f s carried asks) (values_small types s (kind_of f a.0) (carried a.0) a.1 (h a.0) k.0) (locals_small types f s carried asks h k.1)

  module _ (p : Code) (book : Book Form) (h : SmallBook book) where
    start_small : (func block : ℕ) → SmallAccount 1 (account_at book func block)
    start_small func zero = record { left = h.need func; carried = h.param func }
    start_small func (suc n) = record { left = h.block_need func (suc n); carried = h.block_var func (suc n) }

    cost_small : (made : Form) (at : Place) → Sized 1 made → Sized 2 (build_cost forms book.unit at made)
    cost_small made place.New e = sized_more (1 + 1) 2 (forms.plus made book.unit) (omega arith) (sized_plus 1 1 made book.unit e h.unit)
    cost_small made place.Inline e = sized_more 1 2 made (omega arith) e
    cost_small made (place.Reuse d) e = sized_more 1 2 made (omega arith) e

    -- what a callee takes and gives back
    called : (k : ℕ) (left : Form) (callee : ℕ) → Sized k left → Sized (k + 2) (forms.plus (forms.minus left (book.need callee)) (book.back callee))
    called k left callee e = sized_more (k + 1 + 1) (k + 2) (forms.plus (forms.minus left (book.need callee)) (book.back callee)) (omega arith)
        (sized_plus (k + 1) 1 (forms.minus left (book.need callee)) (book.back callee) (sized_minus k 1 left (book.need callee) e (h.need callee)) (h.back callee))

    more_left : (k : ℕ) (a : Account Form) → SmallAccount k a → SmallAccount (k + 2) a
    more_left k a e = record { left = sized_more k (k + 2) a.left (omega arith) e.left; carried = e.carried }

    after_small : (func block at k : ℕ) (a : Account Form) (x : ℕ) (op : Op) → SmallAccount k a
        → SmallAccount (k + 2) (after_op forms p.types book func block at a x op)
    after_small func block at k a x (Lit z) e = more_left k a e
    after_small func block at k a x (Flag z) e = more_left k a e
    after_small func block at k a x (Prim op y z) e = more_left k a e
    after_small func block at k a x (Copy y) e = record { left = sized_more k (k + 2) a.left (omega arith) e.left; carried = carrying_small a.carried x (a.carried y) e.carried (e.carried y) }
    after_small func block at k a x (Call callee args) e = record { left = called k a.left callee e.left; carried = carrying_small a.carried x (book.result callee) e.carried (h.result callee) }
    after_small func block at k a x (Make con args to) e = by_heap (is_heap_con p.types con)
      where
        cost : Form
        cost = build_cost forms book.unit to (book.make func block at con)

        by_heap : (t : Bool) → SmallAccount (k + 2) (cond t (record { left = forms.minus a.left cost; carried = carrying a.carried x (book.make func block at) }) a)
        by_heap true = record {
          left = sized_minus k 2 a.left cost e.left (cost_small (book.make func block at con) to (h.make func block at con));
          carried = carrying_small a.carried x (book.make func block at) e.carried (h.make func block at);
        }
        by_heap false = more_left k a e

    arm_small : (k : ℕ) (a : Account Form) (on con : ℕ) (arm : CaseArm) → SmallAccount k a → SmallAccount (k + 2) (in_arm forms p.types book a on con arm)
    arm_small k a on con arm e = by_cell arm.cell
      where
        by_heap : (t : Bool) → Sized (k + 1) (cond t (forms.plus a.left (a.carried on con)) a.left)
        by_heap true = sized_plus k 1 a.left (a.carried on con) e.left (e.carried on con)
        by_heap false = sized_more k (k + 1) a.left (omega arith) e.left

        node : SmallAccount (k + 1) (opened forms p.types a on con arm.fields)
        node = record { left = by_heap (is_heap_con p.types con); carried = all_carrying_small arm.fields a.carried (a.carried on) e.carried (e.carried on) }

        as_node : SmallAccount (k + 2) (opened forms p.types a on con arm.fields)
        as_node = record { left = sized_more (k + 1) (k + 2) (opened forms p.types a on con arm.fields).left (omega arith) node.left; carried = node.carried }

        by_cell : (c : CaseCell) → SmallAccount (k + 2) (found forms p.types book.unit a on con arm.fields c)
        by_cell cell.Inline = as_node
        by_cell cell.Look = as_node
        by_cell cell.Free = record {
          left = sized_more (k + 1 + 1) (k + 2) (forms.plus (opened forms p.types a on con arm.fields).left book.unit) (omega arith) (sized_plus (k + 1) 1 (opened forms p.types a on con arm.fields).left book.unit node.left h.unit);
          carried = node.carried;
        }
        by_cell (cell.Keep d) = as_node

    -- ---- lets and ends

    arguments_small : (f : Func) (s : Site) (k : ℕ) (a : Account Form) (callee : ℕ) (args : List ℕ) → SmallAccount k a
        → AllSmall (arguments_checks p f book s a callee args)
    arguments_small f s k a callee args e = by_func (slice_get p.funcs callee)
      where
        by_func : (o : Option Func) → AllSmall (option_map_or (λ g. local_checks p.types f s a.carried (call_asks book callee g args)) o [])
        by_func None = tt
        by_func (Some g) = locals_small p.types f s a.carried (call_asks book callee g args) e.carried (arguments_asked SmallUnits (book.param callee) (h.param callee) (is_marked g) 0 (length g.params) args)

    op_small : (f : Func) (s : Site) (k : ℕ) (a : Account Form) (op : Op) → SmallAccount k a → k ≤ limit → AllSmall (op_checks forms p f book s a op)
    op_small f s k a (Lit z) e l = tt
    op_small f s k a (Flag b) e l = tt
    op_small f s k a (Copy x) e l = tt
    op_small f s k a (Prim op x y) e l = tt
    op_small f s k a (Call callee args) e l =
        both (arguments_checks p f book s a callee args) (left_check s a.left (book.need callee) ∷ []) (arguments_small f s k a callee args e) (one s a.left (book.need callee) k 1 e.left (h.need callee) l (omega (arith, room)))
    op_small f s k a (Make con args at) e l = by_heap (is_heap_con p.types con)
      where
        units : Units Form
        units = book.make s.func s.block s.place

        by_heap : (t : Bool) → AllSmall (cond t (local_checks p.types f s a.carried (build_asks book s.func s.block s.place args) ++ left_check s a.left (build_cost forms book.unit at (units con)) ∷ []) [])
        by_heap true =
            both (local_checks p.types f s a.carried (build_asks book s.func s.block s.place args)) (left_check s a.left (build_cost forms book.unit at (units con)) ∷ [])
            (locals_small p.types f s a.carried (build_asks book s.func s.block s.place args) e.carried (each_asked SmallUnits (λ x. units) (λ x. h.make s.func s.block s.place) args))
            (one s a.left (build_cost forms book.unit at (units con)) k 2 e.left (cost_small (units con) at (h.make s.func s.block s.place con)) l room)
        by_heap false = tt

    jump_small : (f : Func) (s : Site) (k : ℕ) (a : Account Form) (to : ℕ) → SmallAccount k a → k ≤ limit → AllSmall (jump_checks p f book s a to)
    jump_small f s k a to e l =
        both (local_checks p.types f s a.carried (jump_asks f book s.func to)) (left_check s a.left (book.block_need s.func to) ∷ [])
        (locals_small p.types f s a.carried (jump_asks f book s.func to) e.carried (each_asked SmallUnits (book.block_var s.func to) (h.block_var s.func to) (params_at f.blocks to)))
        (one s a.left (book.block_need s.func to) k 1 e.left (h.block_need s.func to) l (omega (arith, room)))

    arms_small : (f : Func) (s : Site) (k : ℕ) (a : Account Form) (on con : ℕ) (arms : List CaseArm) → SmallAccount k a → k + 2 ≤ limit
        → AllSmall (arms_checks forms p f book s a on con arms)
    arms_small f s k a on con [] e l = tt
    arms_small f s k a on con (arm ∷ arms) e l =
        both (jump_checks p f book s (in_arm forms p.types book a on con arm) arm.target) (arms_checks forms p f book s a on (suc con) arms)
        (jump_small f s (k + 2) (in_arm forms p.types book a on con arm) arm.target (arm_small k a on con arm e) l) (arms_small f s k a on (suc con) arms e l)

    term_small : (f : Func) (s : Site) (k : ℕ) (a : Account Form) (t : Term) → SmallAccount k a → k + 2 ≤ limit → AllSmall (term_checks forms p f book s a t)
    term_small f s k a (Ret x) e l =
        both (value_checks p.types s (kind_of f x) (a.carried x) (book.result s.func)) (left_check s a.left (book.back s.func) ∷ [])
        (values_small p.types s (kind_of f x) (a.carried x) (book.result s.func) (e.carried x) (h.result s.func)) (one s a.left (book.back s.func) k 1 e.left (h.back s.func) (omega (arith, l)) (omega (arith, room)))
    term_small f s k a (Tail callee args) e l =
        both (arguments_checks p f book s a callee args) (left_check s a.left (book.need callee) ∷ [] ++ (values ++ left_check s left (book.back s.func) ∷ []))
        (arguments_small f s k a callee args e)
        (both (left_check s a.left (book.need callee) ∷ []) (values ++ left_check s left (book.back s.func) ∷ [])
        (one s a.left (book.need callee) k 1 e.left (h.need callee) (omega (arith, l)) (omega (arith, room)))
        (both values (left_check s left (book.back s.func) ∷ [])
        (values_small p.types s (Some f.result) (book.result callee) (book.result s.func) (h.result callee) (h.result s.func))
        (one s left (book.back s.func) (k + 2) 1 (called k a.left callee e.left) (h.back s.func) l (omega (arith, room)))))
      where
        values : List (Check Form)
        values = value_checks p.types s (Some f.result) (book.result callee) (book.result s.func)

        left : Form
        left = forms.plus (forms.minus a.left (book.need callee)) (book.back callee)
    term_small f s k a (Goto to) e l = jump_small f s k a to e (omega (arith, l))
    term_small f s k a (If x first second) e l =
        both (jump_checks p f book s a first) (jump_checks p f book s a second) (jump_small f s k a first e (omega (arith, l))) (jump_small f s k a second e (omega (arith, l)))
    term_small f s k a (Case x arms) e l = arms_small f s k a x (first_con_of p.types (kind_of f x)) arms e l

    lets_small : (f : Func) (s : Site) (k : ℕ) (a : Account Form) (ls : List Let) (t : Term) → SmallAccount k a → k + 2 * length ls + 2 ≤ limit
        → AllSmall (lets_checks forms p f book s a ls t)
    lets_small f s k a [] t e l = term_small f s k a t e (omega (arith, l))
    lets_small f s k a (m ∷ ls) t e l =
        both (op_checks forms p f book s a m.op) (lets_checks forms p f book next (after_op forms p.types book s.func s.block s.place a m.target m.op) ls t)
        (op_small f s k a m.op e (omega (arith, l)))
        (lets_small f next (k + 2) (after_op forms p.types book s.func s.block s.place a m.target m.op) ls t (after_small s.func s.block s.place k a m.target m.op e) (omega (arith, l)))
      where
        next : Site
        next = record { func = s.func; block = s.block; place = suc s.place }

    -- ---- blocks and functions

    blocks_small : (f : Func) (func number : ℕ) (bs : List Block) → AllByRecursion (λ b. length b.lets ≤ 256) bs → 515 ≤ limit
        → AllSmall (blocks_checks forms p f book func number bs)
    blocks_small f func number [] few l = tt
    blocks_small f func number (b ∷ bs) few l =
        both (lets_checks forms p f book here (account_at book func number) b.lets b.term) (blocks_checks forms p f book func (suc number) bs)
        (lets_small f here 1 (account_at book func number) b.lets b.term (start_small func number) (omega (arith, l, few.0)))
        (blocks_small f func (suc number) bs few.1 l)
      where
        here : Site
        here = record { func = func; block = number; place = 1 }

    funcs_small : (func : ℕ) (fs : List Func) → AllByRecursion FuncIsWithin fs → 515 ≤ limit → AllSmall (funcs_checks forms p book func fs)
    funcs_small func [] within l = tt
    funcs_small func (f ∷ fs) within l =
        both (blocks_checks forms p f book func 0 f.blocks) (funcs_checks forms p book (suc func) fs) (blocks_small f func 0 f.blocks within.0.few_lets l) (funcs_small (suc func) fs within.1 l)

small_limit : 2 ≤ 515
small_limit = omega arith

-- Each form of a code's checks is small.
pub all_small : (p : Code) → IsWithinLimits p → AllByRecursion (SmallCheck 515) (checks_of forms p unknown_book)
all_small p within = funcs_small 515 small_limit p unknown_book small_book 0 p.funcs within.funcs (omega arith)

-- ---- rows

ascending : (total low number : ℕ) (us : List Unknown) (factor : Unknown → ℤ) → low ≤ number → number + length us ≤ total
    → ((u : Unknown) → unsigned_abs (factor u) ≤ 2 ^ 31)
    → IsAscending total low (terms_from number us factor)
ascending total low number [] factor l m h = tt
ascending total low number (u ∷ us) factor l m h = by_test (λ low q. ascending total low (suc number) us factor q (omega (arith, m)) h) (is_zero (factor u))
  where
    by_test : ((low : ℕ) → low ≤ suc number → IsAscending total low (terms_from (suc number) us factor)) → (b : Bool) → IsAscending total low (cond b (terms_from (suc number) us factor) (record { unknown = number; factor = factor u } ∷ terms_from (suc number) us factor))
    by_test rec true = rec low (omega (arith, l))
    by_test rec false = (l, omega (arith, m), h u, rec (suc number) (omega arith))

row_proper : (us : List Unknown) (c : Check Form) → SmallCheck 515 c → IsProperRow (length us) (row_of us c)
row_proper us c h = record {
  ascending = ascending (length us) 0 0 us (λ u. c.have.factor u -ℤ c.need.factor u) (omega arith) (omega arith)
      (λ u. omega (arith, size_minus (c.have.factor u) (c.need.factor u), h.have.factor u, h.need.factor u));
  least = omega (arith, size_minus c.need.constant c.have.constant, h.have.constant, h.need.constant);
}

rows_proper : (us : List Unknown) (cs : List (Check Form)) → AllByRecursion (SmallCheck 515) cs
    → AllByRecursion (IsProperRow (length us)) (filter asks (map (row_of us) cs))
rows_proper us [] h = tt
rows_proper us (c ∷ cs) h = by_test (rows_proper us cs h.1) (asks (row_of us c))
  where
    by_test : AllByRecursion (IsProperRow (length us)) (filter asks (map (row_of us) cs)) → (b : Bool)
        → AllByRecursion (IsProperRow (length us)) (cond b (row_of us c ∷ filter asks (map (row_of us) cs)) (filter asks (map (row_of us) cs)))
    by_test rec true = (row_proper us c h.0, rec)
    by_test rec false = rec

-- ---- the system

abbrev IsSmallCost : ℤ → Type 0
IsSmallCost cost = (pos 0 ≤ℤ cost) × (unsigned_abs cost ≤ 2 ^ 31)

cost_small_of : (u : Unknown) → IsSmallCost (cost_of u)
cost_small_of (Need func) = (omega (arith, ints), omega arith)
cost_small_of (Param func x con) = (omega (arith, ints), omega arith)
cost_small_of (Back func) = (omega (arith, ints), omega arith)
cost_small_of (Result func con) = (omega (arith, ints), omega arith)
cost_small_of (BlockNeed func block) = (omega (arith, ints), omega arith)
cost_small_of (BlockVar func block x con) = (omega (arith, ints), omega arith)
cost_small_of (Made func block place con) = (omega (arith, ints), omega arith)

costs_small : (us : List Unknown) → AllByRecursion IsSmallCost (map cost_of us)
costs_small [] = tt
costs_small (u ∷ us) = (cost_small_of u, costs_small us)

-- The system of code within the limits is one that the solver takes, where unknowns and rows are few.
pub proper : (p : Code) → IsWithinLimits p → length (unknowns_of p) ≤ 512 → length (rows_of p) ≤ 1536 → IsProper (system_of p)
unfolding system_of rows_of
proper p within few_unknowns few_rows = record {
  costs = length-map (unknowns_of p) cost_of;
  not_negative = by_place IsSmallCost (map cost_of (unknowns_of p)) (costs_small (unknowns_of p));
  rows = by_place (IsProperRow (length (unknowns_of p))) (filter asks (map (row_of (unknowns_of p)) (checks_of forms p unknown_book)))
      (rows_proper (unknowns_of p) (checks_of forms p unknown_book) (all_small p within));
  few = omega (arith, few_unknowns, few_rows);
}
