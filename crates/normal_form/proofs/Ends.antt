-- As many blocks are ended as the definition counts, and the lines of a function end with a block's end.
use Rattle.std.proofs.Common.{◌≡◌, ℕ, suc, ◌+◌, Bool, true, false, List, [], ◌∷◌, ◌++◌, arith}
use Rattle.std.specs.Prelude.{if◌then◌else◌}
use Rattle.camelot_tree.specs.Tree.{Expression, Num, Truth, Var, Prim, If, Let, Match, Build, Call, Expressions, NoExpressions, AndExpression, Arms, NoArms, AndArm, Source}
use Rattle.camelot_tree.specs.Meaning.{constructor_number, is_that}
use Rattle.camelot_typing.specs.Kinds.{Scope, bind}
use Rattle.grail_blocks.specs.Blocks as block
use Rattle.grail_blocks.specs.Blocks.{Op, Term}
use Rattle.normal_form.specs.Normal.{Line, Close, new, cons_of, bound_count, in_arm, total, in_turn, made, arm_made, ends, all_ends, arm_ends, local_of, joining, value, values, arm_value, tail_made, arm_tail_made, tail_ends, arm_tail_ends, tail, arm_tail}
use Rattle.normal_form.proofs.Lines.{closes, IsClosed, EndsClosed, closes_append, closed_append, ends_append, ends_is_closed}

-- ---- parts

pub closes_turn : (locals blocks : ℕ → ℕ) (part : ℕ → ℕ → ℕ → List Line) → ((con next number : ℕ) → closes (part con next number) ≡ blocks con)
    → (cons : List ℕ) (next first : ℕ)
    → closes (in_turn locals blocks part cons next first) ≡ total blocks cons
closes_turn locals blocks part h [] next first = omega arith
closes_turn locals blocks part h (con ∷ cons) next first =
    let both = closes_append (part con next first) (in_turn locals blocks part cons (next + locals con) (first + blocks con)) in
    let own = h con next first in
    let rest = closes_turn locals blocks part h cons (next + locals con) (first + blocks con) in
    omega (arith, both, own, rest)

pub closed_turn : (locals blocks : ℕ → ℕ) (part : ℕ → ℕ → ℕ → List Line) → ((con next number : ℕ) → IsClosed (part con next number))
    → (cons : List ℕ) (next first : ℕ) → IsClosed (in_turn locals blocks part cons next first)
closed_turn locals blocks part h [] next first = tt
closed_turn locals blocks part h (con ∷ cons) next first =
    closed_append (part con next first) (in_turn locals blocks part cons (next + locals con) (first + blocks con)) (h con next first) (closed_turn locals blocks part h cons (next + locals con) (first + blocks con))

pub closes_joining : (lines : List Line) (from to target n : ℕ) → closes lines ≡ n → closes (joining lines from to target) ≡ suc n
closes_joining lines from to target n h = let e = closes_append lines (new to (block.Copy from) ∷ Close (block.Goto target) ∷ []) in omega (arith, e, h)

pub closed_joining : (lines : List Line) (from to target : ℕ) → EndsClosed (joining lines from to target)
closed_joining lines from to target = ends_append lines (new to (block.Copy from) ∷ Close (block.Goto target) ∷ []) tt

chosen_closes : (t : Bool) (xs ys : List Line) (m n : ℕ) → closes xs ≡ m → closes ys ≡ n → closes (if t then xs else ys) ≡ (if t then m else n)
chosen_closes true xs ys m n h k = h
chosen_closes false xs ys m n h k = k

chosen_closed : (t : Bool) (xs ys : List Line) → IsClosed xs → IsClosed ys → IsClosed (if t then xs else ys)
chosen_closed true xs ys h k = h
chosen_closed false xs ys h k = k

one_more : (xs : List Line) (x : ℕ) (op : Op) (n : ℕ) → closes xs ≡ n → closes (xs ++ (new x op ∷ [])) ≡ n
one_more xs x op n h = let e = closes_append xs (new x op ∷ []) in omega (arith, e, h)

one_end : (xs : List Line) (t : Term) (n : ℕ) → closes xs ≡ n → closes (xs ++ (Close t ∷ [])) ≡ suc n
one_end xs t n h = let e = closes_append xs (Close t ∷ []) in omega (arith, e, h)

two_parts : (xs ys : List Line) (m n : ℕ) → closes xs ≡ m → closes ys ≡ n → closes (xs ++ ys) ≡ m + n
two_parts xs ys m n h k = let e = closes_append xs ys in omega (arith, e, h, k)

ended_then : (xs ys : List Line) (t : Term) (m n : ℕ) → closes xs ≡ m → closes ys ≡ n → closes (xs ++ (Close t ∷ ys)) ≡ suc (m + n)
ended_then xs ys t m n h k = let e = closes_append xs (Close t ∷ ys) in omega (arith, e, h, k)

-- ---- values

-- a branch that joins
abbrev pub branch : Source → Expression → Scope ℕ → (next number to target : ℕ) → List Line
branch p e s next number to target = joining (value p e s next number) (local_of p e s next) to target

mutual
  pub closes_value : (p : Source) (e : Expression) (s : Scope ℕ) (next number : ℕ) → closes (value p e s next number) ≡ ends p e
  closes_value p (Var n) s next number = omega arith
  closes_value p (Num z l) s next number = omega arith
  closes_value p (Truth b l) s next number = omega arith
  closes_value p (Prim op a b l) s next number =
      two_parts (value p a s next number) _ (ends p a) (ends p b) (closes_value p a s next number)
      (one_more (value p b s (next + made p a) (number + ends p a)) _ _ (ends p b) (closes_value p b s (next + made p a) (number + ends p a)))
  closes_value p (Build c es place) s next number = one_more (values p es s next number) _ _ (all_ends p es) (closes_values p es s next number)
  closes_value p (Call f es) s next number = one_more (values p es s next number) _ _ (all_ends p es) (closes_values p es s next number)
  closes_value p (Let n a b) s next number =
      two_parts (value p a s next number) _ (ends p a) (ends p b) (closes_value p a s next number) (closes_value p b (bind n.word (local_of p a s next) s) (next + made p a) (number + ends p a))
  closes_value p (If c a b l) s next number =
      ended_then (value p c s next number) _ _ (ends p c) (suc (ends p a) + suc (ends p b)) (closes_value p c s next number)
      (let join = suc (number + ends p c) + suc (ends p a) + suc (ends p b) in
      two_parts (branch p a s (suc (next + made p c)) (suc (number + ends p c)) (next + made p c) join) (branch p b s (suc (next + made p c) + made p a) (suc (number + ends p c) + suc (ends p a)) (next + made p c) join)
      (suc (ends p a)) (suc (ends p b))
      (closes_joining (value p a s (suc (next + made p c)) (suc (number + ends p c))) (local_of p a s (suc (next + made p c))) (next + made p c) join (ends p a) (closes_value p a s (suc (next + made p c)) (suc (number + ends p c))))
      (closes_joining (value p b s (suc (next + made p c) + made p a) (suc (number + ends p c) + suc (ends p a))) (local_of p b s (suc (next + made p c) + made p a)) (next + made p c) join (ends p b)
      (closes_value p b s (suc (next + made p c) + made p a) (suc (number + ends p c) + suc (ends p a)))))
  closes_value p (Match e as' l) s next number =
      ended_then (value p e s next number) _ _ (ends p e) (total (arm_ends p as') (cons_of p as')) (closes_value p e s next number)
      (closes_turn (arm_made p as') (arm_ends p as') (λ con m n. arm_value p as' con s m n (next + made p e) (suc (number + ends p e) + total (arm_ends p as') (cons_of p as')))
      (λ con m n. closes_arm p as' con s m n (next + made p e) (suc (number + ends p e) + total (arm_ends p as') (cons_of p as'))) (cons_of p as') (suc (next + made p e)) (suc (number + ends p e)))

  pub closes_values : (p : Source) (es : Expressions) (s : Scope ℕ) (next number : ℕ) → closes (values p es s next number) ≡ all_ends p es
  closes_values p NoExpressions s next number = omega arith
  closes_values p (AndExpression e es) s next number =
      two_parts (value p e s next number) _ (ends p e) (all_ends p es) (closes_value p e s next number) (closes_values p es s (next + made p e) (number + ends p e))

  pub closes_arm : (p : Source) (as' : Arms) (con : ℕ) (s : Scope ℕ) (next number result join : ℕ)
      → closes (arm_value p as' con s next number result join) ≡ arm_ends p as' con
  closes_arm p NoArms con s next number result join = omega arith
  closes_arm p (AndArm c fs x b as') con s next number result join =
      chosen_closes (is_that (constructor_number p c) con) _ _ (suc (ends p b)) (arm_ends p as' con)
      (closes_joining (value p b (in_arm fs x next s) (next + bound_count fs x) number) (local_of p b (in_arm fs x next s) (next + bound_count fs x)) result join (ends p b)
      (closes_value p b (in_arm fs x next s) (next + bound_count fs x) number))
      (closes_arm p as' con s next number result join)

pub closed_arm : (p : Source) (as' : Arms) (con : ℕ) (s : Scope ℕ) (next number result join : ℕ) → IsClosed (arm_value p as' con s next number result join)
closed_arm p NoArms con s next number result join = tt
closed_arm p (AndArm c fs x b as') con s next number result join =
    chosen_closed (is_that (constructor_number p c) con) _ _
    (ends_is_closed (branch p b (in_arm fs x next s) (next + bound_count fs x) number result join) (closed_joining (value p b (in_arm fs x next s) (next + bound_count fs x) number) (local_of p b (in_arm fs x next s) (next + bound_count fs x)) result join))
    (closed_arm p as' con s next number result join)

-- ---- tails

mutual
  pub closes_tail : (p : Source) (e : Expression) (s : Scope ℕ) (next number : ℕ) → closes (tail p e s next number) ≡ tail_ends p e
  closes_tail p (Var n) s next number = one_end (value p (Var n) s next number) (block.Ret (local_of p (Var n) s next)) (ends p (Var n)) (closes_value p (Var n) s next number)
  closes_tail p (Num z l) s next number = one_end (value p (Num z l) s next number) (block.Ret (local_of p (Num z l) s next)) (ends p (Num z l)) (closes_value p (Num z l) s next number)
  closes_tail p (Truth b l) s next number = one_end (value p (Truth b l) s next number) (block.Ret (local_of p (Truth b l) s next)) (ends p (Truth b l)) (closes_value p (Truth b l) s next number)
  closes_tail p (Prim op a b l) s next number = one_end (value p (Prim op a b l) s next number) (block.Ret (local_of p (Prim op a b l) s next)) (ends p (Prim op a b l)) (closes_value p (Prim op a b l) s next number)
  closes_tail p (Build c es place) s next number = one_end (value p (Build c es place) s next number) (block.Ret (local_of p (Build c es place) s next)) (ends p (Build c es place)) (closes_value p (Build c es place) s next number)
  closes_tail p (Call f es) s next number = one_end (values p es s next number) _ (all_ends p es) (closes_values p es s next number)
  closes_tail p (Let n a b) s next number =
      two_parts (value p a s next number) _ (ends p a) (tail_ends p b) (closes_value p a s next number) (closes_tail p b (bind n.word (local_of p a s next) s) (next + made p a) (number + ends p a))
  closes_tail p (If c a b l) s next number =
      ended_then (value p c s next number) _ _ (ends p c) (tail_ends p a + tail_ends p b) (closes_value p c s next number)
      (two_parts (tail p a s (next + made p c) (suc (number + ends p c))) (tail p b s (next + made p c + tail_made p a) (suc (number + ends p c) + tail_ends p a)) (tail_ends p a) (tail_ends p b)
      (closes_tail p a s (next + made p c) (suc (number + ends p c)))
      (closes_tail p b s (next + made p c + tail_made p a) (suc (number + ends p c) + tail_ends p a)))
  closes_tail p (Match e as' l) s next number =
      ended_then (value p e s next number) _ _ (ends p e) (total (arm_tail_ends p as') (cons_of p as')) (closes_value p e s next number)
      (closes_turn (arm_tail_made p as') (arm_tail_ends p as') (λ con m n. arm_tail p as' con s m n) (λ con m n. closes_arm_tail p as' con s m n) (cons_of p as') (next + made p e) (suc (number + ends p e)))

  pub closes_arm_tail : (p : Source) (as' : Arms) (con : ℕ) (s : Scope ℕ) (next number : ℕ)
      → closes (arm_tail p as' con s next number) ≡ arm_tail_ends p as' con
  closes_arm_tail p NoArms con s next number = omega arith
  closes_arm_tail p (AndArm c fs x b as') con s next number =
      chosen_closes (is_that (constructor_number p c) con) _ _ (tail_ends p b) (arm_tail_ends p as' con) (closes_tail p b (in_arm fs x next s) (next + bound_count fs x) number) (closes_arm_tail p as' con s next number)

mutual
  pub tail_closed : (p : Source) (e : Expression) (s : Scope ℕ) (next number : ℕ) → EndsClosed (tail p e s next number)
  tail_closed p (Var n) s next number = tt
  tail_closed p (Num z l) s next number = tt
  tail_closed p (Truth b l) s next number = tt
  tail_closed p (Prim op a b l) s next number = ends_append (value p (Prim op a b l) s next number) _ tt
  tail_closed p (Build c es place) s next number = ends_append (value p (Build c es place) s next number) _ tt
  tail_closed p (Call f es) s next number = ends_append (values p es s next number) _ tt
  tail_closed p (Let n a b) s next number = ends_append (value p a s next number) _ (tail_closed p b (bind n.word (local_of p a s next) s) (next + made p a) (number + ends p a))
  tail_closed p (If c a b l) s next number =
      ends_append (value p c s next number) _
      (closed_append (tail p a s (next + made p c) (suc (number + ends p c))) (tail p b s (next + made p c + tail_made p a) (suc (number + ends p c) + tail_ends p a))
      (ends_is_closed (tail p a s (next + made p c) (suc (number + ends p c))) (tail_closed p a s (next + made p c) (suc (number + ends p c))))
      (ends_is_closed (tail p b s (next + made p c + tail_made p a) (suc (number + ends p c) + tail_ends p a)) (tail_closed p b s (next + made p c + tail_made p a) (suc (number + ends p c) + tail_ends p a))))
  tail_closed p (Match e as' l) s next number =
      ends_append (value p e s next number) _
      (closed_turn (arm_tail_made p as') (arm_tail_ends p as') (λ con m n. arm_tail p as' con s m n) (λ con m n. closed_arm_tail p as' con s m n) (cons_of p as') (next + made p e) (suc (number + ends p e)))

  pub closed_arm_tail : (p : Source) (as' : Arms) (con : ℕ) (s : Scope ℕ) (next number : ℕ) → IsClosed (arm_tail p as' con s next number)
  closed_arm_tail p NoArms con s next number = tt
  closed_arm_tail p (AndArm c fs x b as') con s next number =
      chosen_closed (is_that (constructor_number p c) con) _ _ (ends_is_closed (tail p b (in_arm fs x next s) (next + bound_count fs x) number) (tail_closed p b (in_arm fs x next s) (next + bound_count fs x) number)) (closed_arm_tail p as' con s next number)
