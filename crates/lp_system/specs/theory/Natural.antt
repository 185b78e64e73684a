-- Laws, for the proofs of this crate and of those above it.
-- Checks go with their amounts: where what two books say is related, and sums and differences keep the relation, the
-- checks of one are related to those of the other, one by one.
use Rattle.std.proofs.Common.{◌≡◌, ℕ, zero, suc, Bool, true, false, List, [], ◌∷◌, ◌++◌, length, map, Option, Some, None, refl, ◌∙◌, subst}
use Rattle.std.specs.Prelude.{◌==◌, if◌then◌else◌, slice_get, cond}
use Rattle.std.specs.Option.{option_map_or}
use Rattle.camelot_values.specs.Kinds.{DataType}
use Rattle.camelot_values.specs.Heap.{reached}
use Rattle.camelot_values.specs.declared.kinds.Kind.{Kind}
use Rattle.grail_blocks.specs.declared.blocks.Place.{Place}
use Rattle.grail_blocks.specs.declared.blocks.Place.TheVariants as place
use Rattle.grail_blocks.specs.declared.blocks.CaseCell.{CaseCell}
use Rattle.grail_blocks.specs.declared.blocks.CaseCell.TheVariants as cell
use Rattle.grail_blocks.specs.Events.{params_at}
use Rattle.grail_code.specs.Code.{Op, Lit, Flag, Copy, Prim, Make, Call, Let, CaseArm, Term, Ret, Tail, Goto, If, Case, Block, Func, Code}
use Rattle.grail_code.specs.WellFormed.{kind_of, is_marked}
use Rattle.annotations.specs.Vectors.{is_heap_con}
use Rattle.licence.specs.Books.{Units, Carried, Book}
use Rattle.licence.specs.Rules.{Amounts, Account, account_at, carrying, all_carrying, build_cost, after_op, opened, found, in_arm, first_con_of, Asks, call_asks, jump_asks, build_asks}
use Rattle.licence.specs.Checks.{Check, Site, left_check, value_checks, local_checks, arguments_checks, op_checks, jump_checks, arms_checks, term_checks, lets_checks, blocks_checks, funcs_checks, checks_of}
use Rattle.licence.specs.theory.Asking.{AreLike, each_like, arguments_like}

-- sums and differences of related amounts are related
pub record Keeps {A B : Type 0} (R : A → B → Type 0) (amounts : Amounts A) (others : Amounts B) : Type 0 where
  pub plus : (x y : A) (u v : B) → R x u → R y v → R (amounts.plus x y) (others.plus u v)
  pub minus : (x y : A) (u v : B) → R x u → R y v → R (amounts.minus x y) (others.minus u v)

-- what two books say is related, amount by amount
pub record Related {A B : Type 0} (R : A → B → Type 0) (book : Book A) (other : Book B) : Type 0 where
  pub unit : R book.unit other.unit
  pub need : (func : ℕ) → R (book.need func) (other.need func)
  pub back : (func : ℕ) → R (book.back func) (other.back func)
  pub param : (func x con : ℕ) → R (book.param func x con) (other.param func x con)
  pub result : (func con : ℕ) → R (book.result func con) (other.result func con)
  pub block_need : (func block : ℕ) → R (book.block_need func block) (other.block_need func block)
  pub block_var : (func block x con : ℕ) → R (book.block_var func block x con) (other.block_var func block x con)
  pub make : (func block place con : ℕ) → R (book.make func block place con) (other.make func block place con)

-- at the same place, on the same constructor, of related amounts
pub record RelatedCheck {A B : Type 0} (R : A → B → Type 0) (c : Check A) (d : Check B) : Type 0 where
  pub func : c.func ≡ d.func
  pub block : c.block ≡ d.block
  pub place : c.place ≡ d.place
  pub con : c.con ≡ d.con
  pub have : R c.have d.have
  pub need : R c.need d.need

-- one by one
abbrev pub AllRelated : {A B : Type 0} → (A → B → Type 0) → List (Check A) → List (Check B) → Type 0
AllRelated R [] [] = Unit {0}
AllRelated R (c ∷ cs) (d ∷ ds) = RelatedCheck R c d × AllRelated R cs ds
AllRelated R cs ds = ⊥

record RelatedAccount {A B : Type 0} (R : A → B → Type 0) (a : Account A) (b : Account B) : Type 0 where
  left : R a.left b.left
  carried : (x c : ℕ) → R (a.carried x c) (b.carried x c)

module _ {A B : Type 0} (R : A → B → Type 0) where
  abbrev RelatedUnits : Units A → Units B → Type 0
  RelatedUnits units others = (c : ℕ) → R (units c) (others c)

  abbrev RelatedCarried : Carried A → Carried B → Type 0
  RelatedCarried carried others = (x : ℕ) → RelatedUnits (carried x) (others x)

  -- ---- lists of checks

  pub both : (cs es : List (Check A)) (ds gs : List (Check B)) → AllRelated R cs ds → AllRelated R es gs → AllRelated R (cs ++ es) (ds ++ gs)
  both [] es [] gs h k = k
  both [] es (d ∷ ds) gs h k = absurd h
  both (c ∷ cs) es [] gs h k = absurd h
  both (c ∷ cs) es (d ∷ ds) gs h k = (h.0, both cs es ds gs h.1 k)

  one : (s : Site) (have need : A) (have' need' : B) → R have have' → R need need' → AllRelated R (left_check s have need ∷ []) (left_check s have' need' ∷ [])
  one s have need have' need' h k = (record { func = refl; block = refl; place = refl; con = refl; have = h; need = k }, tt)

  each : (cons : List ℕ) (f : ℕ → Check A) (g : ℕ → Check B) → ((c : ℕ) → RelatedCheck R (f c) (g c)) → AllRelated R (map f cons) (map g cons)
  each [] f g h = tt
  each (c ∷ cons) f g h = (h c, each cons f g h)

  value_related : (types : List DataType) (s : Site) (q : Option Kind) (have need : Units A) (have' need' : Units B) → RelatedUnits have have'
      → RelatedUnits need need'
      → AllRelated R (value_checks types s q have need) (value_checks types s q have' need')
  value_related types s q have need have' need' h k = each (option_map_or (reached types) q [])
      (λ c. record { func = s.func; block = s.block; place = s.place; con = Some c; have = have c; need = need c })
      (λ c. record { func = s.func; block = s.block; place = s.place; con = Some c; have = have' c; need = need' c })
      (λ c. record { func = refl; block = refl; place = refl; con = refl; have = h c; need = k c })

  local_related : (types : List DataType) (f : Func) (s : Site) (carried : Carried A) (carried' : Carried B) (x y : ℕ) (asked : Units A) (asked' : Units B) → RelatedCarried carried carried' → x ≡ y → RelatedUnits asked asked'
      → AllRelated R (value_checks types s (kind_of f x) (carried x) asked) (value_checks types s (kind_of f y) (carried' y) asked')
  local_related types f s carried carried' x y asked asked' h same k =
      subst (λ z. AllRelated R (value_checks types s (kind_of f x) (carried x) asked) (value_checks types s (kind_of f z) (carried' z) asked')) same (value_related types s (kind_of f x) (carried x) asked (carried' x) asked' (h x) k)

  locals_related : (types : List DataType) (f : Func) (s : Site) (carried : Carried A) (carried' : Carried B) (asks : Asks A) (asks' : Asks B)
      → RelatedCarried carried carried' → AreLike RelatedUnits asks asks' → AllRelated R (local_checks types f s carried asks) (local_checks types f s carried' asks')
  locals_related types f s carried carried' [] [] h k = tt
  locals_related types f s carried carried' [] (b ∷ asks') h k = absurd k
  locals_related types f s carried carried' (a ∷ asks) [] h k = absurd k
  locals_related types f s carried carried' (a ∷ asks) (b ∷ asks') h k =
      both (value_checks types s (kind_of f a.0) (carried a.0) a.1) (local_checks types f s carried asks) (value_checks types s (kind_of f b.0) (carried' b.0) b.1) (local_checks types f s carried' asks')
      (local_related types f s carried carried' a.0 b.0 a.1 b.1 h k.0 k.1) (locals_related types f s carried carried' asks asks' h k.2)

  -- ---- accounts

  carrying_related : (carried : Carried A) (carried' : Carried B) (x : ℕ) (units : Units A) (units' : Units B) → RelatedCarried carried carried'
      → RelatedUnits units units'
      → RelatedCarried (carrying carried x units) (carrying carried' x units')
  carrying_related carried carried' x units units' h k = λ y c. by_test y c (x == y)
    where
      by_test : (y c : ℕ) (b : Bool) → R ((if b then units else carried y) c) ((if b then units' else carried' y) c)
      by_test y c true = k c
      by_test y c false = h y c

  all_carrying_related : (xs : List ℕ) (carried : Carried A) (carried' : Carried B) (units : Units A) (units' : Units B)
      → RelatedCarried carried carried' → RelatedUnits units units'
      → RelatedCarried (all_carrying carried xs units) (all_carrying carried' xs units')
  all_carrying_related [] carried carried' units units' h k = h
  all_carrying_related (x ∷ xs) carried carried' units units' h k =
      all_carrying_related xs (carrying carried x units) (carrying carried' x units') units units' (carrying_related carried carried' x units units' h k) k

  start_related : (book : Book A) (other : Book B) → Related R book other → (func block : ℕ)
      → RelatedAccount R (account_at book func block) (account_at other func block)
  start_related book other h func zero = record { left = h.need func; carried = h.param func }
  start_related book other h func (suc n) = record { left = h.block_need func (suc n); carried = h.block_var func (suc n) }

  arguments_related : (p : Code) (f : Func) (book : Book A) (other : Book B) → Related R book other → (s : Site) (a : Account A) (b : Account B)
      → RelatedAccount R a b → (callee : ℕ) (args : List ℕ)
      → AllRelated R (arguments_checks p f book s a callee args) (arguments_checks p f other s b callee args)
  arguments_related p f book other h s a b e callee args = by_func (slice_get p.funcs callee)
    where
      by_func : (o : Option Func) → AllRelated R (option_map_or (λ g. local_checks p.types f s a.carried (call_asks book callee g args)) o []) (option_map_or (λ g. local_checks p.types f s b.carried (call_asks other callee g args)) o [])
      by_func None = tt
      by_func (Some g) = locals_related p.types f s a.carried b.carried (call_asks book callee g args) (call_asks other callee g args) e.carried
          (arguments_like RelatedUnits (book.param callee) (other.param callee) (h.param callee) (is_marked g) 0 (length g.params) args)

  jump_related : (p : Code) (f : Func) (book : Book A) (other : Book B) → Related R book other → (s : Site) (a : Account A) (b : Account B)
      → RelatedAccount R a b → (to : ℕ)
      → AllRelated R (jump_checks p f book s a to) (jump_checks p f other s b to)
  jump_related p f book other h s a b e to =
      both (local_checks p.types f s a.carried (jump_asks f book s.func to)) (left_check s a.left (book.block_need s.func to) ∷ [])
      (local_checks p.types f s b.carried (jump_asks f other s.func to)) (left_check s b.left (other.block_need s.func to) ∷ [])
      (locals_related p.types f s a.carried b.carried (jump_asks f book s.func to) (jump_asks f other s.func to) e.carried
      (each_like RelatedUnits (book.block_var s.func to) (other.block_var s.func to) (h.block_var s.func to) (params_at f.blocks to)))
      (one s a.left (book.block_need s.func to) b.left (other.block_need s.func to) e.left (h.block_need s.func to))

module _ {A B : Type 0} (R : A → B → Type 0) (amounts : Amounts A) (others : Amounts B) (keeps : Keeps R amounts others) (p : Code) (book : Book A) (other : Book B) (h : Related R book other) where
  cost_related : (x : A) (y : B) (at : Place) → R x y → R (build_cost amounts book.unit at x) (build_cost others other.unit at y)
  cost_related x y place.New e = keeps.plus x book.unit y other.unit e h.unit
  cost_related x y place.Inline e = e
  cost_related x y (place.Reuse d) e = e

  after_related : (func block at : ℕ) (a : Account A) (b : Account B) (x : ℕ) (op : Op) → RelatedAccount R a b
      → RelatedAccount R (after_op amounts p.types book func block at a x op) (after_op others p.types other func block at b x op)
  after_related func block at a b x (Lit z) e = e
  after_related func block at a b x (Flag z) e = e
  after_related func block at a b x (Prim op y z) e = e
  after_related func block at a b x (Copy y) e = record { left = e.left; carried = carrying_related R a.carried b.carried x (a.carried y) (b.carried y) e.carried (e.carried y) }
  after_related func block at a b x (Call callee args) e = record {
    left = keeps.plus (amounts.minus a.left (book.need callee)) (book.back callee) (others.minus b.left (other.need callee)) (other.back callee)
        (keeps.minus a.left (book.need callee) b.left (other.need callee) e.left (h.need callee)) (h.back callee);
    carried = carrying_related R a.carried b.carried x (book.result callee) (other.result callee) e.carried (h.result callee);
  }
  after_related func block at a b x (Make con args to) e = by_heap (is_heap_con p.types con)
    where
      cost : A
      cost = build_cost amounts book.unit to (book.make func block at con)

      cost' : B
      cost' = build_cost others other.unit to (other.make func block at con)

      by_heap : (t : Bool) → RelatedAccount R (cond t (record { left = amounts.minus a.left cost; carried = carrying a.carried x (book.make func block at) }) a)
          (cond t (record { left = others.minus b.left cost'; carried = carrying b.carried x (other.make func block at) }) b)
      by_heap true = record {
        left = keeps.minus a.left cost b.left cost' e.left (cost_related (book.make func block at con) (other.make func block at con) to (h.make func block at con));
        carried = carrying_related R a.carried b.carried x (book.make func block at) (other.make func block at) e.carried (h.make func block at);
      }
      by_heap false = e

  arm_related : (a : Account A) (b : Account B) (on con : ℕ) (arm : CaseArm) → RelatedAccount R a b
      → RelatedAccount R (in_arm amounts p.types book a on con arm) (in_arm others p.types other b on con arm)
  arm_related a b on con arm e = by_cell arm.cell
    where
      by_heap : (t : Bool) → R (cond t (amounts.plus a.left (a.carried on con)) a.left) (cond t (others.plus b.left (b.carried on con)) b.left)
      by_heap true = keeps.plus a.left (a.carried on con) b.left (b.carried on con) e.left (e.carried on con)
      by_heap false = e.left

      node : RelatedAccount R (opened amounts p.types a on con arm.fields) (opened others p.types b on con arm.fields)
      node = record { left = by_heap (is_heap_con p.types con); carried = all_carrying_related R arm.fields a.carried b.carried (a.carried on) (b.carried on) e.carried (e.carried on) }

      by_cell : (c : CaseCell) → RelatedAccount R (found amounts p.types book.unit a on con arm.fields c) (found others p.types other.unit b on con arm.fields c)
      by_cell cell.Free = record {
        left = keeps.plus (opened amounts p.types a on con arm.fields).left book.unit (opened others p.types b on con arm.fields).left other.unit node.left h.unit;
        carried = node.carried;
      }
      by_cell cell.Inline = node
      by_cell cell.Look = node
      by_cell (cell.Keep d) = node

  -- ---- lets and ends

  op_related : (f : Func) (s : Site) (a : Account A) (b : Account B) (op : Op) → RelatedAccount R a b
      → AllRelated R (op_checks amounts p f book s a op) (op_checks others p f other s b op)
  op_related f s a b (Lit z) e = tt
  op_related f s a b (Flag z) e = tt
  op_related f s a b (Copy x) e = tt
  op_related f s a b (Prim op x y) e = tt
  op_related f s a b (Call callee args) e =
      both R (arguments_checks p f book s a callee args) (left_check s a.left (book.need callee) ∷ []) (arguments_checks p f other s b callee args) (left_check s b.left (other.need callee) ∷ [])
      (arguments_related R p f book other h s a b e callee args) (one R s a.left (book.need callee) b.left (other.need callee) e.left (h.need callee))
  op_related f s a b (Make con args at) e = by_heap (is_heap_con p.types con)
    where
      units : Units A
      units = book.make s.func s.block s.place

      units' : Units B
      units' = other.make s.func s.block s.place

      by_heap : (t : Bool) → AllRelated R (cond t (local_checks p.types f s a.carried (build_asks book s.func s.block s.place args) ++ left_check s a.left (build_cost amounts book.unit at (units con)) ∷ []) [])
          (cond t (local_checks p.types f s b.carried (build_asks other s.func s.block s.place args) ++ left_check s b.left (build_cost others other.unit at (units' con)) ∷ []) [])
      by_heap true =
          both R (local_checks p.types f s a.carried (build_asks book s.func s.block s.place args)) (left_check s a.left (build_cost amounts book.unit at (units con)) ∷ [])
          (local_checks p.types f s b.carried (build_asks other s.func s.block s.place args)) (left_check s b.left (build_cost others other.unit at (units' con)) ∷ [])
          (locals_related R p.types f s a.carried b.carried (build_asks book s.func s.block s.place args) (build_asks other s.func s.block s.place args) e.carried
          (each_like (λ us vs. (c : ℕ) → R (us c) (vs c)) (λ x. units) (λ x. units') (λ x. h.make s.func s.block s.place) args))
          (one R s a.left (build_cost amounts book.unit at (units con)) b.left (build_cost others other.unit at (units' con)) e.left (cost_related (units con) (units' con) at (h.make s.func s.block s.place con)))
      by_heap false = tt

  arms_related : (f : Func) (s : Site) (a : Account A) (b : Account B) (on con : ℕ) (arms : List CaseArm) → RelatedAccount R a b
      → AllRelated R (arms_checks amounts p f book s a on con arms) (arms_checks others p f other s b on con arms)
  arms_related f s a b on con [] e = tt
  arms_related f s a b on con (arm ∷ arms) e =
      both R (jump_checks p f book s (in_arm amounts p.types book a on con arm) arm.target) (arms_checks amounts p f book s a on (suc con) arms)
      (jump_checks p f other s (in_arm others p.types other b on con arm) arm.target) (arms_checks others p f other s b on (suc con) arms)
      (jump_related R p f book other h s (in_arm amounts p.types book a on con arm) (in_arm others p.types other b on con arm) (arm_related a b on con arm e) arm.target)
      (arms_related f s a b on (suc con) arms e)

  -- a tail call is a call and then a return
  tail_related : (f : Func) (s : Site) (a : Account A) (b : Account B) (callee : ℕ) (args : List ℕ) → RelatedAccount R a b
      → AllRelated R (term_checks amounts p f book s a (Tail callee args)) (term_checks others p f other s b (Tail callee args))
  tail_related f s a b callee args e =
      both R (arguments_checks p f book s a callee args) (left_check s a.left (book.need callee) ∷ [] ++ (values ++ left_check s left (book.back s.func) ∷ []))
      (arguments_checks p f other s b callee args) (left_check s b.left (other.need callee) ∷ [] ++ (values' ++ left_check s left' (other.back s.func) ∷ []))
      (arguments_related R p f book other h s a b e callee args)
      (both R (left_check s a.left (book.need callee) ∷ []) (values ++ left_check s left (book.back s.func) ∷ []) (left_check s b.left (other.need callee) ∷ []) (values' ++ left_check s left' (other.back s.func) ∷ [])
      (one R s a.left (book.need callee) b.left (other.need callee) e.left (h.need callee))
      (both R values (left_check s left (book.back s.func) ∷ []) values' (left_check s left' (other.back s.func) ∷ [])
      (value_related R p.types s (Some f.result) (book.result callee) (book.result s.func) (other.result callee) (other.result s.func) (h.result callee) (h.result s.func))
      (one R s left (book.back s.func) left' (other.back s.func)
      (keeps.plus (amounts.minus a.left (book.need callee)) (book.back callee) (others.minus b.left (other.need callee)) (other.back callee)
      (keeps.minus a.left (book.need callee) b.left (other.need callee) e.left (h.need callee)) (h.back callee))
      (h.back s.func))))
    where
      values : List (Check A)
      values = value_checks p.types s (Some f.result) (book.result callee) (book.result s.func)

      values' : List (Check B)
      values' = value_checks p.types s (Some f.result) (other.result callee) (other.result s.func)

      left : A
      left = amounts.plus (amounts.minus a.left (book.need callee)) (book.back callee)

      left' : B
      left' = others.plus (others.minus b.left (other.need callee)) (other.back callee)

  term_related : (f : Func) (s : Site) (a : Account A) (b : Account B) (t : Term) → RelatedAccount R a b
      → AllRelated R (term_checks amounts p f book s a t) (term_checks others p f other s b t)
  term_related f s a b (Ret x) e =
      both R (value_checks p.types s (kind_of f x) (a.carried x) (book.result s.func)) (left_check s a.left (book.back s.func) ∷ [])
      (value_checks p.types s (kind_of f x) (b.carried x) (other.result s.func)) (left_check s b.left (other.back s.func) ∷ [])
      (value_related R p.types s (kind_of f x) (a.carried x) (book.result s.func) (b.carried x) (other.result s.func) (e.carried x) (h.result s.func))
      (one R s a.left (book.back s.func) b.left (other.back s.func) e.left (h.back s.func))
  term_related f s a b (Tail callee args) e = tail_related f s a b callee args e
  term_related f s a b (Goto to) e = jump_related R p f book other h s a b e to
  term_related f s a b (If x first second) e =
      both R (jump_checks p f book s a first) (jump_checks p f book s a second) (jump_checks p f other s b first) (jump_checks p f other s b second)
      (jump_related R p f book other h s a b e first) (jump_related R p f book other h s a b e second)
  term_related f s a b (Case x arms) e = arms_related f s a b x (first_con_of p.types (kind_of f x)) arms e

  lets_related : (f : Func) (s : Site) (a : Account A) (b : Account B) (ls : List Let) (t : Term) → RelatedAccount R a b
      → AllRelated R (lets_checks amounts p f book s a ls t) (lets_checks others p f other s b ls t)
  lets_related f s a b [] t e = term_related f s a b t e
  lets_related f s a b (l ∷ ls) t e =
      both R (op_checks amounts p f book s a l.op) (lets_checks amounts p f book next (after_op amounts p.types book s.func s.block s.place a l.target l.op) ls t)
      (op_checks others p f other s b l.op) (lets_checks others p f other next (after_op others p.types other s.func s.block s.place b l.target l.op) ls t)
      (op_related f s a b l.op e)
      (lets_related f next (after_op amounts p.types book s.func s.block s.place a l.target l.op) (after_op others p.types other s.func s.block s.place b l.target l.op) ls t
      (after_related s.func s.block s.place a b l.target l.op e))
    where
      next : Site
      next = record { func = s.func; block = s.block; place = suc s.place }

  -- ---- blocks and functions

  blocks_related : (f : Func) (func number : ℕ) (bs : List Block)
      → AllRelated R (blocks_checks amounts p f book func number bs) (blocks_checks others p f other func number bs)
  blocks_related f func number [] = tt
  blocks_related f func number (b ∷ bs) =
      both R (lets_checks amounts p f book here (account_at book func number) b.lets b.term) (blocks_checks amounts p f book func (suc number) bs)
      (lets_checks others p f other here (account_at other func number) b.lets b.term) (blocks_checks others p f other func (suc number) bs)
      (lets_related f here (account_at book func number) (account_at other func number) b.lets b.term (start_related R book other h func number))
      (blocks_related f func (suc number) bs)
    where
      here : Site
      here = record { func = func; block = number; place = 1 }

  funcs_related : (func : ℕ) (fs : List Func) → AllRelated R (funcs_checks amounts p book func fs) (funcs_checks others p other func fs)
  funcs_related func [] = tt
  funcs_related func (f ∷ fs) =
      both R (blocks_checks amounts p f book func 0 f.blocks) (funcs_checks amounts p book (suc func) fs) (blocks_checks others p f other func 0 f.blocks) (funcs_checks others p other (suc func) fs)
      (blocks_related f func 0 f.blocks) (funcs_related (suc func) fs)

  -- The checks of related books are related.
  pub checks_related : AllRelated R (checks_of amounts p book) (checks_of others p other)
  checks_related = funcs_related 0 p.funcs

-- ---- as an equation

-- a check, with each amount as the function gives it
abbrev pub mapped_check : {A B : Type 0} → (A → B) → Check A → Check B
mapped_check h c = record { func = c.func; block = c.block; place = c.place; con = c.con; have = h c.have; need = h c.need }

-- a book, in the same way
abbrev pub mapped_book : {A B : Type 0} → (A → B) → Book A → Book B
mapped_book h book = record {
  unit = h book.unit;
  need = λ func. h (book.need func);
  back = λ func. h (book.back func);
  param = λ func x con. h (book.param func x con);
  result = λ func con. h (book.result func con);
  block_need = λ func block. h (book.block_need func block);
  block_var = λ func block x con. h (book.block_var func block x con);
  make = λ func block place con. h (book.make func block place con);
}

same_checks : {A B : Type 0} (h : A → B) (cs : List (Check A)) (ds : List (Check B)) → AllRelated (λ x y. h x ≡ y) cs ds → map (mapped_check h) cs ≡ ds
same_checks h [] [] e = refl
same_checks h [] (d ∷ ds) e = absurd e
same_checks h (c ∷ cs) [] e = absurd e
same_checks h (c ∷ cs) (d ∷ ds) e = λ i. (record { func = e.0.func i; block = e.0.block i; place = e.0.place i; con = e.0.con i; have = e.0.have i; need = e.0.need i }) ∷ same_checks h cs ds e.1 i

-- Checks are natural in amounts: a function that goes with sums and differences may be applied before or after.
pub checks_map : {A B : Type 0} (h : A → B) (amounts : Amounts A) (others : Amounts B) → ((x y : A) → h (amounts.plus x y) ≡ others.plus (h x) (h y))
    → ((x y : A) → h (amounts.minus x y) ≡ others.minus (h x) (h y))
    → (p : Code) (book : Book A) → map (mapped_check h) (checks_of amounts p book) ≡ checks_of others p (mapped_book h book)
checks_map h amounts others plus minus p book = same_checks h (checks_of amounts p book) (checks_of others p (mapped_book h book))
    (checks_related (λ x y. h x ≡ y) amounts others (record {
      plus = λ x y u v e d. plus x y ∙ (λ i. others.plus (e i) (d i));
      minus = λ x y u v e d. minus x y ∙ (λ i. others.minus (e i) (d i));
    }) p book (mapped_book h book) (record { unit = refl; need = λ func. refl; back = λ func. refl; param = λ func x con. refl; result = λ func con. refl; block_need = λ func block. refl; block_var = λ func block x con. refl; make = λ func block place con. refl }))
