-- Cited by contracts.
-- The check of a certificate as a list of checks in order, each of what is there against what is asked. It is told over
-- amounts of any sort: the verifier compares numbers, and the inference of certificates writes the same checks as
-- inequalities over unknowns.
--
-- Functions come in order, and in each its blocks, lets in order and then the end. A let first looks at its operands in
-- order, and then at what is left. A tail call looks at its arguments, at what is left for its callee, at the result,
-- and at what is given back. Of a call's arguments those at marked parameters are left out. An end looks at its targets
-- in order: at the target's parameters in order, and then at what it needs. What is asked of a value is asked of each
-- constructor that its kind reaches, ascending.
use Rattle.std.specs.Prelude.{◌≡◌, ℕ, suc, ℤ, pos, ◌+ℤ◌, ◌-ℤ◌, ◌≤ℤ◌, List, [], ◌∷◌, ◌++◌, map, slice_get, Option, Some, None, cond}
use Rattle.std.specs.List.{AllByRecursion}
use Rattle.std.specs.Option.{option_map_or}
use Rattle.camelot_values.specs.Kinds.{DataType}
use Rattle.camelot_values.specs.Heap.{reached}
use Rattle.camelot_values.specs.declared.kinds.Kind.{Kind}
use Rattle.grail_code.specs.Code.{Op, Prim, Make, Call, Let, CaseArm, Term, Ret, Tail, Goto, If, Case, Block, Func, Code}
use Rattle.grail_code.specs.WellFormed.{kind_of}
use Rattle.annotations.specs.Vectors.{is_heap_con}
use Rattle.licence.specs.Books.{Units, Carried, Book}
use Rattle.licence.specs.Rules.{Amounts, Account, account_at, build_cost, after_op, in_arm, first_con_of, Asks, call_asks, jump_asks, build_asks}

-- at this place, on a constructor or on what is left: what is there, and what is asked
pub record Check (A : Type 0) : Type 0 where
  pub func : ℕ
  pub block : ℕ
  pub place : ℕ
  pub con : Option ℕ
  pub have : A
  pub need : A

-- where checks stand
pub record Site : Type 0 where
  pub func : ℕ
  pub block : ℕ
  pub place : ℕ

-- of what is left
abbrev pub left_check : {A : Type 0} → Site → A → A → Check A
left_check s have need = record { func = s.func; block = s.block; place = s.place; con = None; have = have; need = need }

-- of a value of this kind, constructor by constructor
abbrev pub value_checks : {A : Type 0} → List DataType → Site → Option Kind → Units A → Units A → List (Check A)
value_checks types s q have need =
    map (λ c. record { func = s.func; block = s.block; place = s.place; con = Some c; have = have c; need = need c }) (option_map_or (reached types) q [])

-- of locals in order, against what is asked of them
abbrev pub local_checks : {A : Type 0} → List DataType → Func → Site → Carried A → Asks A → List (Check A)
local_checks types f s carried [] = []
local_checks types f s carried (a ∷ asks) = value_checks types s (kind_of f a.0) (carried a.0) a.1 ++ local_checks types f s carried asks

-- the arguments of a function; one that isn't there asks nothing of them
abbrev pub arguments_checks : {A : Type 0} → Code → Func → Book A → Site → Account A → (callee : ℕ) → List ℕ → List (Check A)
arguments_checks p f book s account callee args = option_map_or (λ g. local_checks p.types f s account.carried (call_asks book callee g args)) (slice_get p.funcs callee) []

-- a let
abbrev pub op_checks : {A : Type 0} → Amounts A → Code → Func → Book A → Site → Account A → Op → List (Check A)
op_checks amounts p f book s account (Make con args at) = cond (is_heap_con p.types con)
    (local_checks p.types f s account.carried (build_asks book s.func s.block s.place args)
    ++ left_check s account.left (build_cost amounts book.unit at (book.make s.func s.block s.place con)) ∷ [])
    []
op_checks amounts p f book s account (Call callee args) = arguments_checks p f book s account callee args ++ left_check s account.left (book.need callee) ∷ []
op_checks amounts p f book s account op = []

-- a jump
abbrev pub jump_checks : {A : Type 0} → Code → Func → Book A → Site → Account A → ℕ → List (Check A)
jump_checks p f book s account to = local_checks p.types f s account.carried (jump_asks f book s.func to) ++ left_check s account.left (book.block_need s.func to) ∷ []

-- the arms, of the constructors from this one on
abbrev pub arms_checks : {A : Type 0} → Amounts A → Code → Func → Book A → Site → Account A → (on con : ℕ) → List CaseArm → List (Check A)
arms_checks amounts p f book s account on con [] = []
arms_checks amounts p f book s account on con (a ∷ arms) =
    jump_checks p f book s (in_arm amounts p.types book account on con a) a.target ++ arms_checks amounts p f book s account on (suc con) arms

-- the end of a block
abbrev pub term_checks : {A : Type 0} → Amounts A → Code → Func → Book A → Site → Account A → Term → List (Check A)
term_checks amounts p f book s account (Ret x) = value_checks p.types s (kind_of f x) (account.carried x) (book.result s.func) ++ left_check s account.left (book.back s.func) ∷ []
term_checks amounts p f book s account (Tail callee args) = arguments_checks p f book s account callee args
    ++ (left_check s account.left (book.need callee) ∷ []
    ++ (value_checks p.types s (Some f.result) (book.result callee) (book.result s.func)
    ++ left_check s (amounts.plus (amounts.minus account.left (book.need callee)) (book.back callee)) (book.back s.func) ∷ []))
term_checks amounts p f book s account (Goto b) = jump_checks p f book s account b
term_checks amounts p f book s account (If x first second) = jump_checks p f book s account first ++ jump_checks p f book s account second
term_checks amounts p f book s account (Case x arms) = arms_checks amounts p f book s account x (first_con_of p.types (kind_of f x)) arms

-- the lets from this place on, and then the end
abbrev pub lets_checks : {A : Type 0} → Amounts A → Code → Func → Book A → Site → Account A → List Let → Term → List (Check A)
lets_checks amounts p f book s account [] t = term_checks amounts p f book s account t
lets_checks amounts p f book s account (l ∷ ls) t = op_checks amounts p f book s account l.op
    ++ lets_checks amounts p f book (record { func = s.func; block = s.block; place = suc s.place }) (after_op amounts p.types book s.func s.block s.place account l.target l.op) ls t

-- the blocks from this number on
abbrev pub blocks_checks : {A : Type 0} → Amounts A → Code → Func → Book A → (func number : ℕ) → List Block → List (Check A)
blocks_checks amounts p f book func number [] = []
blocks_checks amounts p f book func number (b ∷ bs) =
    lets_checks amounts p f book (record { func = func; block = number; place = 1 }) (account_at book func number) b.lets b.term ++ blocks_checks amounts p f book func (suc number) bs

-- the functions from this number on
abbrev pub funcs_checks : {A : Type 0} → Amounts A → Code → Book A → (func : ℕ) → List Func → List (Check A)
funcs_checks amounts p book func [] = []
funcs_checks amounts p book func (f ∷ fs) = blocks_checks amounts p f book func 0 f.blocks ++ funcs_checks amounts p book (suc func) fs

abbrev pub checks_of : {A : Type 0} → Amounts A → Code → Book A → List (Check A)
checks_of amounts p book = funcs_checks amounts p book 0 p.funcs

-- ---- over numbers

abbrev pub integers : Amounts ℤ
integers = record { plus = λ a b. a +ℤ b; minus = λ a b. a -ℤ b }

-- the same book, in numbers that may be negative
abbrev pub in_integers : Book ℕ → Book ℤ
in_integers book = record {
  unit = pos book.unit;
  need = λ func. pos (book.need func);
  back = λ func. pos (book.back func);
  param = λ func x con. pos (book.param func x con);
  result = λ func con. pos (book.result func con);
  block_need = λ func block. pos (book.block_need func block);
  block_var = λ func block x con. pos (book.block_var func block x con);
  make = λ func block place con. pos (book.make func block place con);
}

-- at least as much is there as is asked
abbrev pub Holds : Check ℤ → Type 0
Holds c = c.need ≤ℤ c.have

abbrev pub AllHold : List (Check ℤ) → Type 0
AllHold checks = AllByRecursion Holds checks

-- the first check that fails
pub record FirstFails (checks : List (Check ℤ)) (c : Check ℤ) : Type 0 where
  pub before : List (Check ℤ)
  pub after : List (Check ℤ)
  pub parts : checks ≡ before ++ c ∷ after
  pub good : AllHold before
  pub wrong : Holds c → ⊥
