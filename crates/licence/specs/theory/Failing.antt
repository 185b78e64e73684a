-- Laws, for the proofs of this crate and of those above it.
-- At the place of the first check that fails, the rule fails.
use Rattle.std.proofs.Common.{◌≡◌, ◌⊎◌, ℕ, suc, ◌+◌, Bool, true, false, List, [], ◌∷◌, ◌++◌, length, map, Option, Some, None, refl, sym, ap, ◌∙◌, subst, arith, inl, inr}
use Rattle.std.specs.Prelude.{slice_get, cond, take, ℤ, ◌+ℤ◌, ◌-ℤ◌}
use Rattle.std.specs.List.{AllByRecursion}
use Rattle.std.specs.Option.{option_map_or}
use Rattle.camelot_values.specs.Kinds.{DataType}
use Rattle.camelot_values.specs.declared.kinds.Kind.{Kind}
use Rattle.grail_code.specs.Code.{Op, Lit, Flag, Copy, Prim, Make, Call, Let, CaseArm, Term, Ret, Tail, Goto, If, Case, Block, Func, Code}
use Rattle.grail_code.specs.WellFormed.{kind_of}
use Rattle.annotations.specs.Vectors.{is_heap_con}
use Rattle.licence.specs.Books.{Units, Carried, Book}
use Rattle.licence.specs.Rules.{naturals, Account, account_at, build_cost, after_op, after_lets, in_arm, first_con_of, Asks, call_asks, jump_asks, build_asks, LetPays, TermPays}
use Rattle.licence.specs.Checks.{Check, Site, left_check, value_checks, local_checks, arguments_checks, op_checks, jump_checks, arms_checks, term_checks, lets_checks, blocks_checks, funcs_checks, checks_of, integers, in_integers, Holds, AllHold, FirstFails}
use Rattle.licence.specs.Failing.{FailsIn, let_fails, end_fails, RuleFails}
use Rattle.licence.specs.theory.Walks.{Same, op_same, after_same, term_same, start_same}

-- ---- lists of checks

-- this check stands in the list and fails, and all before it hold
not_all : (xs : List (Check ℤ)) (c : Check ℤ) → FirstFails xs c → AllHold xs → ⊥
not_all xs c h all = behind h.before (subst AllHold h.parts all)
  where
    behind : (front : List (Check ℤ)) → AllHold (front ++ c ∷ h.after) → ⊥
    behind [] k = h.wrong k.0
    behind (x ∷ front) k = behind front k.1

nothing_fails : (c : Check ℤ) → FirstFails [] c → ⊥
nothing_fails c h = by_front h.before h.parts
  where
    by_front : (front : List (Check ℤ)) → [] ≡ front ++ c ∷ h.after → ⊥
    by_front [] e = absurd cc
    by_front (x ∷ front) e = absurd cc

tail_is : (x y : Check ℤ) (xs ys : List (Check ℤ)) → x ∷ xs ≡ y ∷ ys → xs ≡ ys
tail_is x y xs ys e = cc

head_is : (x y : Check ℤ) (xs ys : List (Check ℤ)) → x ∷ xs ≡ y ∷ ys → x ≡ y
head_is x y xs ys e = cc

-- in the first part, or in the second behind a first part that holds
in_parts : (xs ys : List (Check ℤ)) (c : Check ℤ) → FirstFails (xs ++ ys) c → FirstFails xs c ⊎ (AllHold xs × FirstFails ys c)
in_parts [] ys c h = inr (tt, h)
in_parts (x ∷ xs) ys c h = by_front (in_parts xs ys c) h.before h.parts h.good
  where
    onward : FirstFails xs c ⊎ (AllHold xs × FirstFails ys c) → Holds x → FirstFails (x ∷ xs) c ⊎ (AllHold (x ∷ xs) × FirstFails ys c)
    onward (inl k) good = inl (record { before = x ∷ k.before; after = k.after; parts = ap (λ rest. x ∷ rest) k.parts; good = (good, k.good); wrong = k.wrong })
    onward (inr (all, k)) good = inr ((good, all), k)

    by_front : (FirstFails (xs ++ ys) c → FirstFails xs c ⊎ (AllHold xs × FirstFails ys c)) → (front : List (Check ℤ))
        → x ∷ (xs ++ ys) ≡ front ++ c ∷ h.after → AllHold front → FirstFails (x ∷ xs) c ⊎ (AllHold (x ∷ xs) × FirstFails ys c)
    by_front further [] e good = let same : x ≡ c = head_is x c (xs ++ ys) h.after e in inl (record { before = []; after = xs; parts = ap (λ k. k ∷ xs) same; good = tt; wrong = h.wrong })
    by_front further (y ∷ front) e good = let same : x ≡ y = head_is x y (xs ++ ys) (front ++ c ∷ h.after) e in
        onward (further (record { before = front; after = h.after; parts = tail_is x y (xs ++ ys) (front ++ c ∷ h.after) e; good = good.1; wrong = h.wrong })) (subst Holds (sym same) good.0)

-- ---- all checks of a place stand there

abbrev IsAt : Site → Check ℤ → Type 0
IsAt s c = (c.func ≡ s.func) × (c.block ≡ s.block) × (c.place ≡ s.place)

abbrev AllAt : Site → List (Check ℤ) → Type 0
AllAt s checks = AllByRecursion (IsAt s) checks

both_at : (s : Site) (xs ys : List (Check ℤ)) → AllAt s xs → AllAt s ys → AllAt s (xs ++ ys)
both_at s [] ys h k = k
both_at s (x ∷ xs) ys h k = (h.0, both_at s xs ys h.1 k)

left_at : (s : Site) (have need : ℤ) → AllAt s (left_check s have need ∷ [])
left_at s have need = ((refl, refl, refl), tt)

mapped_at : (s : Site) (have need : Units ℤ) (cs : List ℕ) → AllAt s (map (λ c. record { func = s.func; block = s.block; place = s.place; con = Some c; have = have c; need = need c }) cs)
mapped_at s have need [] = tt
mapped_at s have need (c ∷ cs) = ((refl, refl, refl), mapped_at s have need cs)

value_at : (types : List DataType) (s : Site) (q : Option Kind) (have need : Units ℤ) → AllAt s (value_checks types s q have need)
value_at types s q have need = mapped_at s have need _

locals_at : (types : List DataType) (f : Func) (s : Site) (carried : Carried ℤ) (asks : Asks ℤ) → AllAt s (local_checks types f s carried asks)
locals_at types f s carried [] = tt
locals_at types f s carried (a ∷ asks) = both_at s (value_checks types s (kind_of f a.0) (carried a.0) a.1) (local_checks types f s carried asks) (value_at types s (kind_of f a.0) (carried a.0) a.1) (locals_at types f s carried asks)

arguments_at : (p : Code) (f : Func) (book : Book ℤ) (s : Site) (a : Account ℤ) (callee : ℕ) (args : List ℕ)
    → AllAt s (arguments_checks p f book s a callee args)
arguments_at p f book s a callee args = by_func (slice_get p.funcs callee)
  where
    by_func : (o : Option Func) → AllAt s (option_map_or (λ g. local_checks p.types f s a.carried (call_asks book callee g args)) o [])
    by_func None = tt
    by_func (Some g) = locals_at p.types f s a.carried (call_asks book callee g args)

op_at : (p : Code) (f : Func) (book : Book ℤ) (s : Site) (a : Account ℤ) (op : Op) → AllAt s (op_checks integers p f book s a op)
op_at p f book s a (Lit z) = tt
op_at p f book s a (Flag b) = tt
op_at p f book s a (Copy x) = tt
op_at p f book s a (Prim op x y) = tt
op_at p f book s a (Call callee args) = both_at s (arguments_checks p f book s a callee args) (left_check s a.left (book.need callee) ∷ []) (arguments_at p f book s a callee args) (left_at s a.left (book.need callee))
op_at p f book s a (Make con args at) = by_heap (is_heap_con p.types con)
  where
    operands : List (Check ℤ)
    operands = local_checks p.types f s a.carried (build_asks book s.func s.block s.place args)

    cost : ℤ
    cost = build_cost integers book.unit at (book.make s.func s.block s.place con)

    by_heap : (h : Bool) → AllAt s (cond h (operands ++ left_check s a.left cost ∷ []) [])
    by_heap true = both_at s operands (left_check s a.left cost ∷ []) (locals_at p.types f s a.carried (build_asks book s.func s.block s.place args)) (left_at s a.left cost)
    by_heap false = tt

jump_at : (p : Code) (f : Func) (book : Book ℤ) (s : Site) (a : Account ℤ) (to : ℕ) → AllAt s (jump_checks p f book s a to)
jump_at p f book s a to = both_at s (local_checks p.types f s a.carried (jump_asks f book s.func to)) (left_check s a.left (book.block_need s.func to) ∷ [])
    (locals_at p.types f s a.carried (jump_asks f book s.func to)) (left_at s a.left (book.block_need s.func to))

arms_at : (p : Code) (f : Func) (book : Book ℤ) (s : Site) (a : Account ℤ) (on con : ℕ) (arms : List CaseArm)
    → AllAt s (arms_checks integers p f book s a on con arms)
arms_at p f book s a on con [] = tt
arms_at p f book s a on con (arm ∷ arms) = both_at s (jump_checks p f book s (in_arm integers p.types book a on con arm) arm.target) (arms_checks integers p f book s a on (suc con) arms)
    (jump_at p f book s (in_arm integers p.types book a on con arm) arm.target) (arms_at p f book s a on (suc con) arms)

term_at : (p : Code) (f : Func) (book : Book ℤ) (s : Site) (a : Account ℤ) (t : Term) → AllAt s (term_checks integers p f book s a t)
term_at p f book s a (Ret x) = both_at s (value_checks p.types s (kind_of f x) (a.carried x) (book.result s.func)) (left_check s a.left (book.back s.func) ∷ [])
    (value_at p.types s (kind_of f x) (a.carried x) (book.result s.func)) (left_at s a.left (book.back s.func))
term_at p f book s a (Tail callee args) = both_at s first (second ++ (third ++ fourth)) (arguments_at p f book s a callee args)
    (both_at s second (third ++ fourth) (left_at s a.left (book.need callee)) (both_at s third fourth (value_at p.types s (Some f.result) (book.result callee) (book.result s.func)) (left_at s ((a.left -ℤ book.need callee) +ℤ book.back callee) (book.back s.func))))
  where
    first : List (Check ℤ)
    first = arguments_checks p f book s a callee args

    second : List (Check ℤ)
    second = left_check s a.left (book.need callee) ∷ []

    third : List (Check ℤ)
    third = value_checks p.types s (Some f.result) (book.result callee) (book.result s.func)

    fourth : List (Check ℤ)
    fourth = left_check s ((a.left -ℤ book.need callee) +ℤ book.back callee) (book.back s.func) ∷ []
term_at p f book s a (Goto to) = jump_at p f book s a to
term_at p f book s a (If x first second) = both_at s (jump_checks p f book s a first) (jump_checks p f book s a second) (jump_at p f book s a first) (jump_at p f book s a second)
term_at p f book s a (Case x arms) = arms_at p f book s a x (first_con_of p.types (kind_of f x)) arms

failed_at : (s : Site) (xs : List (Check ℤ)) (c : Check ℤ) → AllAt s xs → FirstFails xs c → IsAt s c
failed_at s xs c all h = behind h.before (subst (AllAt s) h.parts all)
  where
    behind : (front : List (Check ℤ)) → AllAt s (front ++ c ∷ h.after) → IsAt s c
    behind [] k = k.0
    behind (x ∷ front) k = behind front k.1

-- ---- lets and the end

-- behind so many lets, or at the end
data FailsFrom (p : Code) (f : Func) (book : Book ℕ) (func number place : ℕ) (a : Account ℕ) (ls : List Let) (t : Term) (c : Check ℤ) : Type 0 where
  at_let : (n : ℕ) (l : Let) → slice_get ls n ≡ Some l → c.place ≡ place + n
      → (LetPays p f book func number (place + n) (after_lets naturals p.types book func number place a (take n ls)) l.op → ⊥)
      → FailsFrom p f book func number place a ls t c
  at_end : c.place ≡ place + length ls → (TermPays p f book func (after_lets naturals p.types book func number place a (take (length ls) ls)) t → ⊥)
      → FailsFrom p f book func number place a ls t c

record Placed (p : Code) (f : Func) (book : Book ℕ) (func number place : ℕ) (a : Account ℕ) (ls : List Let) (t : Term) (c : Check ℤ) : Type 0 where
  func_is : c.func ≡ func
  block_is : c.block ≡ number
  fails : FailsFrom p f book func number place a ls t c

lets_fail : (p : Code) (f : Func) (book : Book ℕ) (func number place : ℕ) (a : Account ℕ) (b : Account ℤ) (ls : List Let) (t : Term) (c : Check ℤ) → Same a b
    → FirstFails (lets_checks integers p f (in_integers book) (record { func = func; block = number; place = place }) b ls t) c → Placed p f book func number place a ls t c
lets_fail p f book func number place a b [] t c same h =
    let s : Site = record { func = func; block = number; place = place } in
    let where_it_is : IsAt s c = failed_at s (term_checks integers p f (in_integers book) s b t) c (term_at p f (in_integers book) s b t) h in
    let e : place ≡ place + 0 = omega arith in
    record { func_is = where_it_is.0; block_is = where_it_is.1; fails = at_end (where_it_is.2 ∙ e) (λ pays. not_all _ c h ((term_same p f book s a b t same).0 pays)) }
lets_fail p f book func number place a b (l ∷ ls) t c same h = by_part (lets_fail p f book func number (suc place) (after_op naturals p.types book func number place a l.target l.op) (after_op integers p.types (in_integers book) func number place b l.target l.op) ls t c) (in_parts now rest c h)
  where
    s : Site
    s = record { func = func; block = number; place = place }

    now : List (Check ℤ)
    now = op_checks integers p f (in_integers book) s b l.op

    a' : Account ℕ
    a' = after_op naturals p.types book func number place a l.target l.op

    b' : Account ℤ
    b' = after_op integers p.types (in_integers book) func number place b l.target l.op

    rest : List (Check ℤ)
    rest = lets_checks integers p f (in_integers book) (record { func = func; block = number; place = suc place }) b' ls t

    onward : FailsFrom p f book func number (suc place) a' ls t c → FailsFrom p f book func number place a (l ∷ ls) t c
    onward (at_let n m e i wrong) = let there : suc place + n ≡ place + suc n = omega arith in
        at_let (suc n) m e (i ∙ there) (subst (λ j. LetPays p f book func number j (after_lets naturals p.types book func number (suc place) a' (take n ls)) m.op → ⊥) there wrong)
    onward (at_end i wrong) = let there : suc place + length ls ≡ place + suc (length ls) = omega arith in at_end (i ∙ there) wrong

    by_part : (Same a' b' → FirstFails rest c → Placed p f book func number (suc place) a' ls t c)
        → FirstFails now c ⊎ (AllHold now × FirstFails rest c) → Placed p f book func number place a (l ∷ ls) t c
    by_part further (inl k) =
        let it : IsAt s c = failed_at s now c (op_at p f (in_integers book) s b l.op) k in
        let here : place ≡ place + 0 = omega arith in
        record {
          func_is = it.0;
          block_is = it.1;
          fails = at_let 0 l refl (it.2 ∙ here) (subst (λ j. LetPays p f book func number j a l.op → ⊥) here (λ pays. not_all now c k ((op_same p f book s a b l.op same).0 pays)));
        }
    by_part further (inr (all, k)) =
        let next = further (after_same p f book func number place a b l.target l.op same ((op_same p f book s a b l.op same).1 all)) k in
        record { func_is = next.func_is; block_is = next.block_is; fails = onward next.fails }

-- ---- blocks and functions

-- among the blocks from this number on
record InBlocks (p : Code) (f : Func) (book : Book ℕ) (func first : ℕ) (bs : List Block) (c : Check ℤ) : Type 0 where
  number : ℕ
  b : Block
  there : slice_get bs number ≡ Some b
  func_is : c.func ≡ func
  block_is : c.block ≡ first + number
  fails : FailsIn p f book func (first + number) b c.place

block_fails : (p : Code) (f : Func) (book : Book ℕ) (func first : ℕ) (b : Block) (bs : List Block) (c : Check ℤ)
    → FirstFails (lets_checks integers p f (in_integers book) (record { func = func; block = first; place = 1 }) (account_at (in_integers book) func first) b.lets b.term) c → InBlocks p f book func first (b ∷ bs) c
block_fails p f book func first b bs c h =
    let placed = lets_fail p f book func first 1 (account_at book func first) (account_at (in_integers book) func first) b.lets b.term c (start_same book func first) h in
    let here : first ≡ first + 0 = omega arith in
    record {
      number = 0;
      b = b;
      there = refl;
      func_is = placed.func_is;
      block_is = placed.block_is ∙ here;
      fails = subst (λ n. FailsIn p f book func n b c.place) here (as_fails placed.fails);
    }
  where
    as_fails : FailsFrom p f book func first 1 (account_at book func first) b.lets b.term c → FailsIn p f book func first b c.place
    as_fails (at_let n l e i wrong) = let there : 1 + n ≡ suc n = omega arith in
        let_fails n l e (i ∙ there) (subst (λ j. LetPays p f book func first j (after_lets naturals p.types book func first 1 (account_at book func first) (take n b.lets)) l.op → ⊥) there wrong)
    as_fails (at_end i wrong) = let there : 1 + length b.lets ≡ suc (length b.lets) = omega arith in end_fails (i ∙ there) wrong

blocks_fail : (p : Code) (f : Func) (book : Book ℕ) (func first : ℕ) (bs : List Block) (c : Check ℤ)
    → FirstFails (blocks_checks integers p f (in_integers book) func first bs) c → InBlocks p f book func first bs c
blocks_fail p f book func first [] c h = absurd (nothing_fails c h)
blocks_fail p f book func first (b ∷ bs) c h = by_part (blocks_fail p f book func (suc first) bs c) (in_parts now rest c h)
  where
    now : List (Check ℤ)
    now = lets_checks integers p f (in_integers book) (record { func = func; block = first; place = 1 }) (account_at (in_integers book) func first) b.lets b.term

    rest : List (Check ℤ)
    rest = blocks_checks integers p f (in_integers book) func (suc first) bs

    by_part : (FirstFails rest c → InBlocks p f book func (suc first) bs c) → FirstFails now c ⊎ (AllHold now × FirstFails rest c)
        → InBlocks p f book func first (b ∷ bs) c
    by_part further (inl k) = block_fails p f book func first b bs c k
    by_part further (inr (all, k)) =
        let next = further k in
        let there : suc first + next.number ≡ first + suc next.number = omega arith in
        record { number = suc next.number; b = next.b; there = next.there; func_is = next.func_is; block_is = next.block_is ∙ there; fails = subst (λ n. FailsIn p f book func n next.b c.place) there next.fails }

-- among the functions from this number on
record InFuncs (p : Code) (book : Book ℕ) (first : ℕ) (fs : List Func) (c : Check ℤ) : Type 0 where
  number : ℕ
  f : Func
  there : slice_get fs number ≡ Some f
  func_is : c.func ≡ first + number
  inside : InBlocks p f book (first + number) 0 f.blocks c

funcs_fail : (p : Code) (book : Book ℕ) (first : ℕ) (fs : List Func) (c : Check ℤ)
    → FirstFails (funcs_checks integers p (in_integers book) first fs) c → InFuncs p book first fs c
funcs_fail p book first [] c h = absurd (nothing_fails c h)
funcs_fail p book first (f ∷ fs) c h = by_part (funcs_fail p book (suc first) fs c) (in_parts now rest c h)
  where
    now : List (Check ℤ)
    now = blocks_checks integers p f (in_integers book) first 0 f.blocks

    rest : List (Check ℤ)
    rest = funcs_checks integers p (in_integers book) (suc first) fs

    by_part : (FirstFails rest c → InFuncs p book (suc first) fs c) → FirstFails now c ⊎ (AllHold now × FirstFails rest c) → InFuncs p book first (f ∷ fs) c
    by_part further (inl k) =
        let inside = blocks_fail p f book first 0 f.blocks c k in
        let here : first ≡ first + 0 = omega arith in
        record { number = 0; f = f; there = refl; func_is = inside.func_is ∙ here; inside = subst (λ n. InBlocks p f book n 0 f.blocks c) here inside }
    by_part further (inr (all, k)) =
        let next = further k in
        let there : suc first + next.number ≡ first + suc next.number = omega arith in
        record { number = suc next.number; f = next.f; there = next.there; func_is = next.func_is ∙ there; inside = subst (λ n. InBlocks p next.f book n 0 next.f.blocks c) there next.inside }

-- The rule fails at the place of the first check that fails.
pub rule_fails : (p : Code) (book : Book ℕ) (c : Check ℤ) → FirstFails (checks_of integers p (in_integers book)) c → RuleFails p book c.func c.block c.place
rule_fails p book c h =
    let there = funcs_fail p book 0 p.funcs c h in
    let func_is : c.func ≡ there.number = there.func_is ∙ (let e : 0 + there.number ≡ there.number = omega arith in e) in
    let block_is : c.block ≡ there.inside.number = there.inside.block_is ∙ (let e : 0 + there.inside.number ≡ there.inside.number = omega arith in e) in
    record {
      f = there.f;
      func_there = ap (slice_get p.funcs) func_is ∙ there.there;
      b = there.inside.b;
      block_there = ap (slice_get there.f.blocks) block_is ∙ there.inside.there;
      fails = subst (λ n. FailsIn p there.f book n c.block there.inside.b c.place) (sym there.func_is) (subst (λ n. FailsIn p there.f book (0 + there.number) n there.inside.b c.place) (sym there.inside.block_is) there.inside.fails);
    }
