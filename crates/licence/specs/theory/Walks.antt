-- Laws, for the proofs of this crate and of those above it.
-- The rules hold exactly where every check of the list does.
use Rattle.std.proofs.Common.{◌≡◌, ℕ, zero, suc, ◌+◌, ◌-◌, ◌≤◌, Bool, true, false, List, [], ◌∷◌, ◌++◌, length, map, Option, Some, None, refl, sym, ap, ◌∙◌, subst, arith}
use Rattle.std.specs.Prelude.{◌==◌, ◌||◌, ◌↔◌, if◌then◌else◌, slice_get, IfSome, cond, take, ℤ, pos, ◌+ℤ◌, ◌-ℤ◌, ◌≤ℤ◌}
use Rattle.std.specs.Option.{option_map_or}
use Rattle.std.proofs.lemmas.Bool.Decides.{nat_tests}
use Rattle.std.proofs.lemmas.Int.{ints}
use Rattle.camelot_values.specs.Kinds.{DataType}
use Rattle.camelot_values.specs.Heap.{reached}
use Rattle.camelot_values.specs.ReachLaws.{reached_is}
use Rattle.camelot_values.specs.Lists.{is_among}
use Rattle.camelot_values.specs.declared.kinds.Kind.{Kind}
use Rattle.grail_blocks.specs.declared.blocks.Place.{Place}
use Rattle.grail_blocks.specs.declared.blocks.Place.TheVariants as place
use Rattle.grail_blocks.specs.declared.blocks.CaseCell.{CaseCell}
use Rattle.grail_blocks.specs.declared.blocks.CaseCell.TheVariants as cell
use Rattle.grail_blocks.specs.Events.{params_at}
use Rattle.grail_code.specs.Code.{Op, Lit, Flag, Copy, Prim, Make, Call, Let, CaseArm, Term, Ret, Tail, Goto, If, Case, Block, Func, Code}
use Rattle.grail_code.specs.WellFormed.{kind_of, is_marked}
use Rattle.annotations.specs.Vectors.{AtLeast, is_heap_con}
use Rattle.licence.specs.Books.{Units, Carried, Book}
use Rattle.licence.specs.Rules.{naturals, Account, account_at, carrying, all_carrying, build_cost, after_op, after_lets, account_before, opened, found, in_arm, first_con_of, Asks, call_asks, jump_asks, build_asks, Carries, AllCarry, LetPays, JumpPays, ArmsPay, TermPays, BlockPays, Pays, LentAreFree}
use Rattle.licence.specs.Checks.{Check, Site, left_check, value_checks, local_checks, arguments_checks, op_checks, jump_checks, arms_checks, term_checks, lets_checks, blocks_checks, funcs_checks, checks_of, integers, in_integers, AllHold}
use Rattle.licence.specs.theory.Asking.{AreLike, each_like, arguments_like}

-- ---- numbers

down : (m n : ℕ) → pos m ≤ℤ pos n → m ≤ n
down m n h = omega (arith, ints, h)

up : (m n : ℕ) → m ≤ n → pos m ≤ℤ pos n
up m n h = omega (arith, ints, h)

minus_is : (m n : ℕ) → n ≤ m → pos (m - n) ≡ (pos m -ℤ pos n)
minus_is m n h = omega (arith, ints, h)

plus_is : (m n : ℕ) → pos (m + n) ≡ (pos m +ℤ pos n)
plus_is m n = omega (arith, ints)

-- ---- lists of checks

all_first : (xs ys : List (Check ℤ)) → AllHold (xs ++ ys) → AllHold xs
all_first [] ys h = tt
all_first (x ∷ xs) ys h = (h.0, all_first xs ys h.1)

all_second : (xs ys : List (Check ℤ)) → AllHold (xs ++ ys) → AllHold ys
all_second [] ys h = h
all_second (x ∷ xs) ys h = all_second xs ys h.1

all_both : (xs ys : List (Check ℤ)) → AllHold xs → AllHold ys → AllHold (xs ++ ys)
all_both [] ys h k = k
all_both (x ∷ xs) ys h k = (h.0, all_both xs ys h.1 k)

-- the same statement of two parts
both : {A B : Type 0} (xs ys : List (Check ℤ)) → (A ↔ AllHold xs) → (B ↔ AllHold ys) → (A × B) ↔ AllHold (xs ++ ys)
both xs ys f g = (λ h. all_both xs ys (f.0 h.0) (g.0 h.1), λ h. (f.1 (all_first xs ys h), g.1 (all_second xs ys h)))

one : (s : Site) (have need : ℕ) (have' need' : ℤ) → have' ≡ pos have → need' ≡ pos need → (need ≤ have) ↔ AllHold (left_check s have' need' ∷ [])
one s have need have' need' e d = (
  λ h. (subst (λ n. n ≤ℤ have') (sym d) (subst (λ m. pos need ≤ℤ m) (sym e) (up need have h)), tt),
  λ h. down need have (subst (λ m. pos need ≤ℤ m) e (subst (λ n. n ≤ℤ have') d h.0)),
)

-- ---- values

-- the same units, as whole numbers
abbrev pub SameUnits : Units ℕ → Units ℤ → Type 0
SameUnits units units' = (c : ℕ) → units' c ≡ pos (units c)

each_constructor : (s : Site) (have need : Units ℤ) → ℕ → Check ℤ
each_constructor s have need c = record { func = s.func; block = s.block; place = s.place; con = Some c; have = have c; need = need c }

among_all : (s : Site) (have need : Units ℤ) (cs : List ℕ) → AllHold (map (λ c. record { func = s.func; block = s.block; place = s.place; con = Some c; have = have c; need = need c }) cs)
    → (c : ℕ) → is_among cs c ≡ true → need c ≤ℤ have c
among_all s have need [] h c m = absurd cc
among_all s have need (d ∷ cs) h c m = by_test (among_all s have need cs h.1 c) (d == c) refl m
  where
    by_test : (is_among cs c ≡ true → need c ≤ℤ have c) → (b : Bool) → (d == c) ≡ b → (b || is_among cs c) ≡ true → need c ≤ℤ have c
    by_test rec true e k = let same : d ≡ c = grind (arith, nat_tests, e) in subst (λ x. need x ≤ℤ have x) same h.0
    by_test rec false e k = rec k

all_among : (s : Site) (have need : Units ℤ) (cs : List ℕ) → ((c : ℕ) → is_among cs c ≡ true → need c ≤ℤ have c)
    → AllHold (map (λ c. record { func = s.func; block = s.block; place = s.place; con = Some c; have = have c; need = need c }) cs)
all_among s have need [] h = tt
all_among s have need (d ∷ cs) h = (h d (here d cs), all_among s have need cs (λ c m. h c (later d c cs m)))
  where
    here : (d : ℕ) (cs : List ℕ) → is_among (d ∷ cs) d ≡ true
    here d cs = let t : (d == d) ≡ true = grind (arith, nat_tests) in ap (λ b. b || is_among cs d) t

    later : (d c : ℕ) (cs : List ℕ) → is_among cs c ≡ true → is_among (d ∷ cs) c ≡ true
    later d c cs m = by_test (d == c)
      where
        by_test : (b : Bool) → (b || is_among cs c) ≡ true
        by_test true = refl
        by_test false = m

value_same : (types : List DataType) (s : Site) (o : Option Kind) (have need : Units ℕ) (have' need' : Units ℤ) → SameUnits have have' → SameUnits need need'
    → IfSome o (λ q. AtLeast types q have need) ↔ AllHold (value_checks types s o have' need')
unfolding AtLeast
value_same types s None have need have' need' e d = (λ h. tt, λ h. tt)
value_same types s (Some q) have need have' need' e d = (
  λ h. all_among s have' need' (reached types q) (λ c m. subst (λ n. n ≤ℤ have' c) (sym (d c)) (subst (λ n. pos (need c) ≤ℤ n) (sym (e c)) (up (need c) (have c) (h c ((reached_is types q c).0 m))))),
  λ h c r. down (need c) (have c) (subst (λ n. pos (need c) ≤ℤ n) (e c) (subst (λ n. n ≤ℤ have' c) (d c) (among_all s have' need' (reached types q) h c ((reached_is types q c).1 r)))),
)

-- what locals carry is the same
abbrev pub SameCarried : Carried ℕ → Carried ℤ → Type 0
SameCarried carried carried' = (x : ℕ) → SameUnits (carried x) (carried' x)

local_same : (types : List DataType) (f : Func) (s : Site) (carried : Carried ℕ) (carried' : Carried ℤ) (x y : ℕ) (asked : Units ℕ) (asked' : Units ℤ) → SameCarried carried carried' → x ≡ y → SameUnits asked asked'
    → Carries types f carried x asked ↔ AllHold (value_checks types s (kind_of f y) (carried' y) asked')
local_same types f s carried carried' x y asked asked' e same d =
    subst (λ z. Carries types f carried z asked ↔ AllHold (value_checks types s (kind_of f y) (carried' y) asked')) (sym same) (value_same types s (kind_of f y) (carried y) asked (carried' y) asked' (e y) d)

locals_same : (types : List DataType) (f : Func) (s : Site) (carried : Carried ℕ) (carried' : Carried ℤ) (asks : Asks ℕ) (asks' : Asks ℤ)
    → SameCarried carried carried' → AreLike SameUnits asks asks'
    → AllCarry types f carried asks ↔ AllHold (local_checks types f s carried' asks')
locals_same types f s carried carried' [] [] e d = (λ h. tt, λ h. tt)
locals_same types f s carried carried' [] (b ∷ asks') e d = absurd d
locals_same types f s carried carried' (a ∷ asks) [] e d = absurd d
locals_same types f s carried carried' (a ∷ asks) (b ∷ asks') e d =
    both (value_checks types s (kind_of f b.0) (carried' b.0) b.1) (local_checks types f s carried' asks') (local_same types f s carried carried' a.0 b.0 a.1 b.1 e d.0 d.1) (locals_same types f s carried carried' asks asks' e d.2)

-- ---- accounts

pub record Same (a : Account ℕ) (b : Account ℤ) : Type 0 where
  pub left : b.left ≡ pos a.left
  pub carried : SameCarried a.carried b.carried

carrying_same : (carried : Carried ℕ) (carried' : Carried ℤ) (x : ℕ) (units : Units ℕ) (units' : Units ℤ) → SameCarried carried carried'
    → SameUnits units units' → SameCarried (carrying carried x units) (carrying carried' x units')
carrying_same carried carried' x units units' e d = λ y c. by_test y c (x == y)
  where
    by_test : (y c : ℕ) (b : Bool) → (if b then units' else carried' y) c ≡ pos ((if b then units else carried y) c)
    by_test y c true = d c
    by_test y c false = e y c

all_carrying_same : (xs : List ℕ) (carried : Carried ℕ) (carried' : Carried ℤ) (units : Units ℕ) (units' : Units ℤ) → SameCarried carried carried'
    → SameUnits units units' → SameCarried (all_carrying carried xs units) (all_carrying carried' xs units')
all_carrying_same [] carried carried' units units' e d = e
all_carrying_same (x ∷ xs) carried carried' units units' e d = all_carrying_same xs (carrying carried x units) (carrying carried' x units') units units' (carrying_same carried carried' x units units' e d) d

cost_same : (unit made : ℕ) (at : Place) → build_cost integers (pos unit) at (pos made) ≡ pos (build_cost naturals unit at made)
cost_same unit made place.New = sym (plus_is made unit)
cost_same unit made place.Inline = refl
cost_same unit made (place.Reuse d) = refl

pub start_same : (book : Book ℕ) (func block : ℕ) → Same (account_at book func block) (account_at (in_integers book) func block)
start_same book func zero = record { left = refl; carried = λ x c. refl }
start_same book func (suc n) = record { left = refl; carried = λ x c. refl }

-- behind a let that pays
pub after_same : (p : Code) (f : Func) (book : Book ℕ) (func block at : ℕ) (a : Account ℕ) (b : Account ℤ) (x : ℕ) (op : Op) → Same a b
    → LetPays p f book func block at a op
    → Same (after_op naturals p.types book func block at a x op) (after_op integers p.types (in_integers book) func block at b x op)
after_same p f book func block at a b x (Lit z) e pays = e
after_same p f book func block at a b x (Flag z) e pays = e
after_same p f book func block at a b x (Prim op y z) e pays = e
after_same p f book func block at a b x (Copy y) e pays = record { left = e.left; carried = carrying_same a.carried b.carried x (a.carried y) (b.carried y) e.carried (e.carried y) }
after_same p f book func block at a b x (Make con args place) e pays = by_heap (is_heap_con p.types con) pays
  where
    cost : ℕ
    cost = build_cost naturals book.unit place (book.make func block at con)

    by_heap : (h : Bool) → cond h (AllCarry p.types f a.carried (build_asks book func block at args) × (cost ≤ a.left)) (Unit {0})
        → Same (cond h (record { left = a.left - cost; carried = carrying a.carried x (book.make func block at) }) a)
        (cond h (record { left = b.left -ℤ build_cost integers (pos book.unit) place (pos (book.make func block at con)); carried = carrying b.carried x (λ c. pos (book.make func block at c)) }) b)
    by_heap true pay = record {
      left = ap (λ n. b.left -ℤ n) (cost_same book.unit (book.make func block at con) place) ∙ ap (λ m. m -ℤ pos cost) e.left ∙ sym (minus_is a.left cost pay.1);
      carried = carrying_same a.carried b.carried x (book.make func block at) (λ c. pos (book.make func block at c)) e.carried (λ c. refl);
    }
    by_heap false pay = e
after_same p f book func block at a b x (Call callee args) e pays = record {
  left = ap (λ m. (m -ℤ pos (book.need callee)) +ℤ pos (book.back callee)) e.left ∙ ap (λ m. m +ℤ pos (book.back callee)) (sym (minus_is a.left (book.need callee) pays.1)) ∙ sym (plus_is (a.left - book.need callee) (book.back callee));
  carried = carrying_same a.carried b.carried x (book.result callee) (λ c. pos (book.result callee c)) e.carried (λ c. refl);
}

-- ---- lets, jumps and ends

arguments_same : (p : Code) (f : Func) (book : Book ℕ) (s : Site) (a : Account ℕ) (b : Account ℤ) (callee : ℕ) (args : List ℕ) → Same a b
    → IfSome (slice_get p.funcs callee) (λ g. AllCarry p.types f a.carried (call_asks book callee g args)) ↔ AllHold (arguments_checks p f (in_integers book) s b callee args)
arguments_same p f book s a b callee args e = by_func (slice_get p.funcs callee)
  where
    by_func : (o : Option Func) → IfSome o (λ g. AllCarry p.types f a.carried (call_asks book callee g args))
        ↔ AllHold (option_map_or (λ g. local_checks p.types f s b.carried (call_asks (in_integers book) callee g args)) o [])
    by_func None = (λ h. tt, λ h. tt)
    by_func (Some g) = locals_same p.types f s a.carried b.carried (call_asks book callee g args) (call_asks (in_integers book) callee g args) e.carried
        (arguments_like SameUnits (book.param callee) ((in_integers book).param callee) (λ x c. refl) (is_marked g) 0 (length g.params) args)

pub op_same : (p : Code) (f : Func) (book : Book ℕ) (s : Site) (a : Account ℕ) (b : Account ℤ) (op : Op) → Same a b
    → LetPays p f book s.func s.block s.place a op ↔ AllHold (op_checks integers p f (in_integers book) s b op)
op_same p f book s a b (Lit z) e = (λ h. tt, λ h. tt)
op_same p f book s a b (Flag z) e = (λ h. tt, λ h. tt)
op_same p f book s a b (Copy x) e = (λ h. tt, λ h. tt)
op_same p f book s a b (Prim op x y) e = (λ h. tt, λ h. tt)
op_same p f book s a b (Call callee args) e =
    both (arguments_checks p f (in_integers book) s b callee args) (left_check s b.left (pos (book.need callee)) ∷ []) (arguments_same p f book s a b callee args e)
    (one s a.left (book.need callee) b.left (pos (book.need callee)) e.left refl)
op_same p f book s a b (Make con args at) e = by_heap (is_heap_con p.types con)
  where
    units : Units ℕ
    units = book.make s.func s.block s.place

    units' : Units ℤ
    units' = λ c. pos (units c)

    cost : ℕ
    cost = build_cost naturals book.unit at (units con)

    asks : Asks ℕ
    asks = build_asks book s.func s.block s.place args

    asks' : Asks ℤ
    asks' = build_asks (in_integers book) s.func s.block s.place args

    by_heap : (h : Bool) → cond h (AllCarry p.types f a.carried asks × (cost ≤ a.left)) (Unit {0})
        ↔ AllHold (cond h (local_checks p.types f s b.carried asks' ++ left_check s b.left (build_cost integers (pos book.unit) at (units' con)) ∷ []) [])
    by_heap true = both (local_checks p.types f s b.carried asks') (left_check s b.left (build_cost integers (pos book.unit) at (units' con)) ∷ [])
        (locals_same p.types f s a.carried b.carried asks asks' e.carried (each_like SameUnits (λ x. units) (λ x. units') (λ x c. refl) args))
        (one s a.left cost b.left (build_cost integers (pos book.unit) at (units' con)) e.left (cost_same book.unit (units con) at))
    by_heap false = (λ h. tt, λ h. tt)

jump_same : (p : Code) (f : Func) (book : Book ℕ) (s : Site) (a : Account ℕ) (b : Account ℤ) (to : ℕ) → Same a b → JumpPays p f book s.func a to
    ↔ AllHold (jump_checks p f (in_integers book) s b to)
jump_same p f book s a b to e =
    both (local_checks p.types f s b.carried (jump_asks f (in_integers book) s.func to)) (left_check s b.left (pos (book.block_need s.func to)) ∷ [])
    (locals_same p.types f s a.carried b.carried (jump_asks f book s.func to) (jump_asks f (in_integers book) s.func to) e.carried
    (each_like SameUnits (book.block_var s.func to) ((in_integers book).block_var s.func to) (λ x c. refl) (params_at f.blocks to)))
    (one s a.left (book.block_need s.func to) b.left (pos (book.block_need s.func to)) e.left refl)

arm_same : (p : Code) (book : Book ℕ) (a : Account ℕ) (b : Account ℤ) (on con : ℕ) (m : CaseArm) → Same a b
    → Same (in_arm naturals p.types book a on con m) (in_arm integers p.types (in_integers book) b on con m)
arm_same p book a b on con m e = by_cell m.cell
  where
    by_heap : (h : Bool) → cond h (b.left +ℤ b.carried on con) b.left ≡ pos (cond h (a.left + a.carried on con) a.left)
    by_heap true = ap (λ m. m +ℤ b.carried on con) e.left ∙ ap (λ n. pos a.left +ℤ n) (e.carried on con) ∙ sym (plus_is a.left (a.carried on con))
    by_heap false = e.left

    node : Same (opened naturals p.types a on con m.fields) (opened integers p.types b on con m.fields)
    node = record { left = by_heap (is_heap_con p.types con); carried = all_carrying_same m.fields a.carried b.carried (a.carried on) (b.carried on) e.carried (e.carried on) }

    by_cell : (c : CaseCell) → Same (found naturals p.types book.unit a on con m.fields c) (found integers p.types (pos book.unit) b on con m.fields c)
    by_cell cell.Inline = node
    by_cell cell.Look = node
    by_cell cell.Free = record { left = ap (λ m. m +ℤ pos book.unit) node.left ∙ sym (plus_is (opened naturals p.types a on con m.fields).left book.unit); carried = node.carried }
    by_cell (cell.Keep d) = node

arms_same : (p : Code) (f : Func) (book : Book ℕ) (s : Site) (a : Account ℕ) (b : Account ℤ) (on con : ℕ) (arms : List CaseArm) → Same a b
    → ArmsPay p f book s.func a on con arms ↔ AllHold (arms_checks integers p f (in_integers book) s b on con arms)
arms_same p f book s a b on con [] e = (λ h. tt, λ h. tt)
arms_same p f book s a b on con (m ∷ arms) e =
    both (jump_checks p f (in_integers book) s (in_arm integers p.types (in_integers book) b on con m) m.target) (arms_checks integers p f (in_integers book) s b on (suc con) arms)
    (jump_same p f book s (in_arm naturals p.types book a on con m) (in_arm integers p.types (in_integers book) b on con m) m.target (arm_same p book a b on con m e))
    (arms_same p f book s a b on (suc con) arms e)

-- the rule of a tail call in its four parts
tail_same : (p : Code) (f : Func) (book : Book ℕ) (s : Site) (a : Account ℕ) (b : Account ℤ) (callee : ℕ) (args : List ℕ) → Same a b
    → TermPays p f book s.func a (Tail callee args) ↔ AllHold (term_checks integers p f (in_integers book) s b (Tail callee args))
tail_same p f book s a b callee args e = (
  λ h. all_both first (second ++ (third ++ fourth)) (arguments.0 h.0) (all_both second (third ++ fourth) (enough.0 h.1) (all_both third fourth (result.0 h.2) ((back h.1).0 h.3))),
  λ h.
      let rest = all_second first (second ++ (third ++ fourth)) h in
      let others = all_second second (third ++ fourth) rest in
      let need = enough.1 (all_first second (third ++ fourth) rest) in
      (arguments.1 (all_first first (second ++ (third ++ fourth)) h), need, result.1 (all_first third fourth others), (back need).1 (all_second third fourth others)),
)
  where
    first : List (Check ℤ)
    first = arguments_checks p f (in_integers book) s b callee args

    second : List (Check ℤ)
    second = left_check s b.left (pos (book.need callee)) ∷ []

    third : List (Check ℤ)
    third = value_checks p.types s (Some f.result) (λ c. pos (book.result callee c)) (λ c. pos (book.result s.func c))

    fourth : List (Check ℤ)
    fourth = left_check s ((b.left -ℤ pos (book.need callee)) +ℤ pos (book.back callee)) (pos (book.back s.func)) ∷ []

    arguments : IfSome (slice_get p.funcs callee) (λ g. AllCarry p.types f a.carried (call_asks book callee g args)) ↔ AllHold first
    arguments = arguments_same p f book s a b callee args e

    enough : (book.need callee ≤ a.left) ↔ AllHold second
    enough = one s a.left (book.need callee) b.left (pos (book.need callee)) e.left refl

    result : AtLeast p.types f.result (book.result callee) (book.result s.func) ↔ AllHold third
    result = value_same p.types s (Some f.result) (book.result callee) (book.result s.func) (λ c. pos (book.result callee c)) (λ c. pos (book.result s.func c)) (λ c. refl) (λ c. refl)

    back : book.need callee ≤ a.left → (book.back s.func ≤ a.left - book.need callee + book.back callee) ↔ AllHold fourth
    back need = one s (a.left - book.need callee + book.back callee) (book.back s.func) ((b.left -ℤ pos (book.need callee)) +ℤ pos (book.back callee)) (pos (book.back s.func))
        (ap (λ m. (m -ℤ pos (book.need callee)) +ℤ pos (book.back callee)) e.left ∙ ap (λ m. m +ℤ pos (book.back callee)) (sym (minus_is a.left (book.need callee) need)) ∙ sym (plus_is (a.left - book.need callee) (book.back callee))) refl

pub term_same : (p : Code) (f : Func) (book : Book ℕ) (s : Site) (a : Account ℕ) (b : Account ℤ) (t : Term) → Same a b → TermPays p f book s.func a t
    ↔ AllHold (term_checks integers p f (in_integers book) s b t)
term_same p f book s a b (Ret x) e =
    both (value_checks p.types s (kind_of f x) (b.carried x) (λ c. pos (book.result s.func c))) (left_check s b.left (pos (book.back s.func)) ∷ [])
    (value_same p.types s (kind_of f x) (a.carried x) (book.result s.func) (b.carried x) (λ c. pos (book.result s.func c)) (e.carried x) (λ c. refl)) (one s a.left (book.back s.func) b.left (pos (book.back s.func)) e.left refl)
term_same p f book s a b (Tail callee args) e = tail_same p f book s a b callee args e
term_same p f book s a b (Goto to) e = jump_same p f book s a b to e
term_same p f book s a b (If x first second) e =
    both (jump_checks p f (in_integers book) s b first) (jump_checks p f (in_integers book) s b second) (jump_same p f book s a b first e) (jump_same p f book s a b second e)
term_same p f book s a b (Case x arms) e = arms_same p f book s a b x (first_con_of p.types (kind_of f x)) arms e

-- ---- blocks

-- the lets from this place on, and then the end
abbrev FromHere : Code → Func → Book ℕ → (func block place : ℕ) → Account ℕ → List Let → Term → Type 0
FromHere p f book func block place a [] t = TermPays p f book func a t
FromHere p f book func block place a (l ∷ ls) t = LetPays p f book func block place a l.op × FromHere p f book func block (suc place) (after_op naturals p.types book func block place a l.target l.op) ls t

here_same : (p : Code) (f : Func) (book : Book ℕ) (func block place : ℕ) (a : Account ℕ) (b : Account ℤ) (ls : List Let) (t : Term) → Same a b
    → FromHere p f book func block place a ls t ↔ AllHold (lets_checks integers p f (in_integers book) (record { func = func; block = block; place = place }) b ls t)
here_same p f book func block place a b [] t e = term_same p f book (record { func = func; block = block; place = place }) a b t e
here_same p f book func block place a b (l ∷ ls) t e = (
  λ h. all_both now rest (op.0 h.0) ((here_same p f book func block (suc place) a' b' ls t (same h.0)).0 h.1),
  λ h. let pays = op.1 (all_first now rest h) in (pays, (here_same p f book func block (suc place) a' b' ls t (same pays)).1 (all_second now rest h)),
)
  where
    s : Site
    s = record { func = func; block = block; place = place }

    a' : Account ℕ
    a' = after_op naturals p.types book func block place a l.target l.op

    b' : Account ℤ
    b' = after_op integers p.types (in_integers book) func block place b l.target l.op

    now : List (Check ℤ)
    now = op_checks integers p f (in_integers book) s b l.op

    rest : List (Check ℤ)
    rest = lets_checks integers p f (in_integers book) (record { func = func; block = block; place = suc place }) b' ls t

    op : LetPays p f book func block place a l.op ↔ AllHold now
    op = op_same p f book s a b l.op e

    same : LetPays p f book func block place a l.op → Same a' b'
    same pays = after_same p f book func block place a b l.target l.op e pays

-- place by place, the same
from_places : (p : Code) (f : Func) (book : Book ℕ) (func block place : ℕ) (a : Account ℕ) (ls : List Let) (t : Term)
    → ((n : ℕ) (l : Let) → slice_get ls n ≡ Some l → LetPays p f book func block (place + n) (after_lets naturals p.types book func block place a (take n ls)) l.op)
    → TermPays p f book func (after_lets naturals p.types book func block place a (take (length ls) ls)) t → FromHere p f book func block place a ls t
from_places p f book func block place a [] t lets term = term
from_places p f book func block place a (l ∷ ls) t lets term = (
  let here : place + 0 ≡ place = omega arith in subst (λ i. LetPays p f book func block i a l.op) here (lets 0 l refl),
  from_places p f book func block (suc place) (after_op naturals p.types book func block place a l.target l.op) ls t
      (λ n m e. let there : place + suc n ≡ suc place + n = omega arith in
      subst (λ i. LetPays p f book func block i (after_lets naturals p.types book func block (suc place) (after_op naturals p.types book func block place a l.target l.op) (take n ls)) m.op) there (lets (suc n) m e)) term,
)

to_place : (p : Code) (f : Func) (book : Book ℕ) (func block place : ℕ) (a : Account ℕ) (ls : List Let) (t : Term)
    → FromHere p f book func block place a ls t → (n : ℕ) (l : Let) → slice_get ls n ≡ Some l
    → LetPays p f book func block (place + n) (after_lets naturals p.types book func block place a (take n ls)) l.op
to_place p f book func block place a [] t h n l e = let c : None ≡ Some l = e in absurd cc
to_place p f book func block place a (m ∷ ls) t h zero l e =
    let same : m ≡ l = cc in let here : place ≡ place + 0 = omega arith in
    subst (λ i. LetPays p f book func block i a l.op) here (subst (λ k. LetPays p f book func block place a k.op) same h.0)
to_place p f book func block place a (m ∷ ls) t h (suc n) l e =
    let there : suc place + n ≡ place + suc n = omega arith in
    subst (λ i. LetPays p f book func block i (after_lets naturals p.types book func block (suc place) (after_op naturals p.types book func block place a m.target m.op) (take n ls)) l.op) there
    (to_place p f book func block (suc place) (after_op naturals p.types book func block place a m.target m.op) ls t h.1 n l e)

to_end : (p : Code) (f : Func) (book : Book ℕ) (func block place : ℕ) (a : Account ℕ) (ls : List Let) (t : Term) → FromHere p f book func block place a ls t
    → TermPays p f book func (after_lets naturals p.types book func block place a (take (length ls) ls)) t
to_end p f book func block place a [] t h = h
to_end p f book func block place a (m ∷ ls) t h = to_end p f book func block (suc place) (after_op naturals p.types book func block place a m.target m.op) ls t h.1

block_same : (p : Code) (f : Func) (book : Book ℕ) (func number : ℕ) (b : Block)
    → BlockPays p f book func number b ↔ AllHold (lets_checks integers p f (in_integers book) (record { func = func; block = number; place = 1 }) (account_at (in_integers book) func number) b.lets b.term)
block_same p f book func number b = (
  λ h. here.0 (from_places p f book func number 1 (account_at book func number) b.lets b.term (λ n l e. let i : suc n ≡ 1 + n = omega arith in
      subst (λ i. LetPays p f book func number i (account_before naturals p.types book func number b n) l.op) i (h.lets n l e)) h.term),
  λ h. record {
    lets = λ n l e. let i : 1 + n ≡ suc n = omega arith in
        subst (λ i. LetPays p f book func number i (account_before naturals p.types book func number b n) l.op) i (to_place p f book func number 1 (account_at book func number) b.lets b.term (here.1 h) n l e);
    term = to_end p f book func number 1 (account_at book func number) b.lets b.term (here.1 h);
  },
)
  where
    here : FromHere p f book func number 1 (account_at book func number) b.lets b.term
        ↔ AllHold (lets_checks integers p f (in_integers book) (record { func = func; block = number; place = 1 }) (account_at (in_integers book) func number) b.lets b.term)
    here = here_same p f book func number 1 (account_at book func number) (account_at (in_integers book) func number) b.lets b.term (start_same book func number)

blocks_same : (p : Code) (f : Func) (book : Book ℕ) (func first : ℕ) (bs : List Block)
    → ((i : ℕ) (b : Block) → slice_get bs i ≡ Some b → BlockPays p f book func (first + i) b)
    ↔ AllHold (blocks_checks integers p f (in_integers book) func first bs)
blocks_same p f book func first [] = (λ h. tt, λ h i b e. let c : None ≡ Some b = e in absurd cc)
blocks_same p f book func first (b ∷ bs) = join (blocks_same p f book func (suc first) bs)
  where
    now : List (Check ℤ)
    now = lets_checks integers p f (in_integers book) (record { func = func; block = first; place = 1 }) (account_at (in_integers book) func first) b.lets b.term

    rest : List (Check ℤ)
    rest = blocks_checks integers p f (in_integers book) func (suc first) bs

    block : BlockPays p f book func first b ↔ AllHold now
    block = block_same p f book func first b

    at : BlockPays p f book func first b → ((i : ℕ) (c : Block) → slice_get bs i ≡ Some c → BlockPays p f book func (suc first + i) c)
        → (i : ℕ) (c : Block) → slice_get (b ∷ bs) i ≡ Some c → BlockPays p f book func (first + i) c
    at h k zero c e = let same : b ≡ c = cc in let here : first ≡ first + 0 = omega arith in subst (λ n. BlockPays p f book func n c) here (subst (BlockPays p f book func first) same h)
    at h k (suc i) c e = let there : suc first + i ≡ first + suc i = omega arith in subst (λ n. BlockPays p f book func n c) there (k i c e)

    join : ((i : ℕ) (c : Block) → slice_get bs i ≡ Some c → BlockPays p f book func (suc first + i) c) ↔ AllHold rest
        → ((i : ℕ) (c : Block) → slice_get (b ∷ bs) i ≡ Some c → BlockPays p f book func (first + i) c) ↔ AllHold (now ++ rest)
    join others = (
      λ h. all_both now rest (block.0 (let here : first + 0 ≡ first = omega arith in subst (λ n. BlockPays p f book func n b) here (h 0 b refl)))
          (others.0 (λ i c e. let there : first + suc i ≡ suc first + i = omega arith in subst (λ n. BlockPays p f book func n c) there (h (suc i) c e))),
      λ h. at (block.1 (all_first now rest h)) (others.1 (all_second now rest h)),
    )

funcs_same : (p : Code) (book : Book ℕ) (first : ℕ) (fs : List Func)
    → ((i number : ℕ) (f : Func) (b : Block) → slice_get fs i ≡ Some f → slice_get f.blocks number ≡ Some b → BlockPays p f book (first + i) number b) ↔ AllHold (funcs_checks integers p (in_integers book) first fs)
funcs_same p book first [] = (λ h. tt, λ h i number f b e d. let c : None ≡ Some f = e in absurd cc)
funcs_same p book first (g ∷ fs) = join (funcs_same p book (suc first) fs)
  where
    now : List (Check ℤ)
    now = blocks_checks integers p g (in_integers book) first 0 g.blocks

    rest : List (Check ℤ)
    rest = funcs_checks integers p (in_integers book) (suc first) fs

    blocks : ((i : ℕ) (b : Block) → slice_get g.blocks i ≡ Some b → BlockPays p g book first (0 + i) b) ↔ AllHold now
    blocks = blocks_same p g book first 0 g.blocks

    at : ((i : ℕ) (b : Block) → slice_get g.blocks i ≡ Some b → BlockPays p g book first (0 + i) b)
        → ((i number : ℕ) (f : Func) (b : Block) → slice_get fs i ≡ Some f → slice_get f.blocks number ≡ Some b → BlockPays p f book (suc first + i) number b)
        → (i number : ℕ) (f : Func) (b : Block) → slice_get (g ∷ fs) i ≡ Some f → slice_get f.blocks number ≡ Some b → BlockPays p f book (first + i) number b
    at h k zero number f b e d =
        let same : g ≡ f = cc in
        let here : first ≡ first + 0 = omega arith in
        let there : 0 + number ≡ number = omega arith in
        subst (λ n. BlockPays p f book n number b) here (subst (λ m. BlockPays p f book first m b) there (subst (λ q. BlockPays p q book first (0 + number) b) same (h number b (ap (λ q. slice_get q.blocks number) same ∙ d))))
    at h k (suc i) number f b e d = let there : suc first + i ≡ first + suc i = omega arith in subst (λ n. BlockPays p f book n number b) there (k i number f b e d)

    join : ((i number : ℕ) (f : Func) (b : Block) → slice_get fs i ≡ Some f → slice_get f.blocks number ≡ Some b → BlockPays p f book (suc first + i) number b) ↔ AllHold rest
        → ((i number : ℕ) (f : Func) (b : Block) → slice_get (g ∷ fs) i ≡ Some f → slice_get f.blocks number ≡ Some b → BlockPays p f book (first + i) number b) ↔ AllHold (now ++ rest)
    join others = (
      λ h. all_both now rest (blocks.0 (λ i b e. let here : first + 0 ≡ first = omega arith in subst (λ n. BlockPays p g book n (0 + i) b) here
          (let same : i ≡ 0 + i = omega arith in subst (λ m. BlockPays p g book (first + 0) m b) same (h 0 i g b refl e))))
          (others.0 (λ i number f b e d. let there : first + suc i ≡ suc first + i = omega arith in subst (λ n. BlockPays p f book n number b) there (h (suc i) number f b e d))),
      λ h. at (blocks.1 (all_first now rest h)) (others.1 (all_second now rest h)),
    )

-- The book pays for the code exactly where a cell costs something, what is lent carries nothing, and every check holds.
pub pays_by_checks : (p : Code) (book : Book ℕ) → Pays p book ↔ ((1 ≤ book.unit) × LentAreFree p book × AllHold (checks_of integers p (in_integers book)))
pays_by_checks p book = (
  λ h. (h.some, h.lent, (funcs_same p book 0 p.funcs).0 (λ i number f b e d. let here : i ≡ 0 + i = omega arith in subst (λ n. BlockPays p f book n number b) here (h.blocks i number f b e d))),
  λ h. record {
    some = h.0;
    lent = h.1;
    blocks = λ func number f b e d. let here : 0 + func ≡ func = omega arith in subst (λ n. BlockPays p f book n number b) here ((funcs_same p book 0 p.funcs).1 h.2 func number f b e d);
  },
)
