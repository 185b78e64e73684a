-- A block has at most one let more than the function makes locals: each let makes one, but for a copy, which ends its
-- block.
use Rattle.std.proofs.Common.{◌≡◌, ℕ, suc, ◌+◌, ◌≤◌, Bool, true, false, List, [], ◌∷◌, ◌++◌, length, refl, ap, arith}
use Rattle.std.specs.Prelude.{if◌then◌else◌}
use Rattle.std.specs.List.{AllByRecursion}
use Rattle.camelot_tree.specs.Tree.{Expression, Num, Truth, Var, Prim, If, Let, Match, Build, Call, Expressions, NoExpressions, AndExpression, Arms, NoArms, AndArm, Source}
use Rattle.camelot_tree.specs.Meaning.{constructor_number, is_that}
use Rattle.camelot_typing.specs.Kinds.{Scope, bind}
use Rattle.grail_blocks.specs.Blocks as block
use Rattle.grail_blocks.specs.Blocks.{Op, Term}
use Rattle.normal_form.specs.Normal.{NormalBlock, Line, Bind, Close, new, in_first, cut, cons_of, bound_count, in_arm, total, in_turn, made, all_made, arm_made, ends, arm_ends, local_of, joining, value, values, arm_value, tail_made, arm_tail_made, tail_ends, arm_tail_ends, tail, arm_tail}

-- a let that isn't a copy
abbrev plain_op : Op → ℕ
plain_op (block.Copy x) = 0
plain_op op = 1

-- how many lets aren't copies
abbrev pub plain : List Line → ℕ
plain [] = 0
plain (Bind l ∷ lines) = plain_op l.op + plain lines
plain (Close t ∷ lines) = plain lines

-- a block is ended here, if the let in front is a copy
abbrev EndsAfter : Op → List Line → Type 0
EndsAfter (block.Copy x) [] = ⊥
EndsAfter (block.Copy x) (Bind l ∷ lines) = ⊥
EndsAfter (block.Copy x) (Close t ∷ lines) = Unit {0}
EndsAfter op lines = Unit {0}

-- behind each copy its block is ended
abbrev pub CopiesEnd : List Line → Type 0
CopiesEnd [] = Unit {0}
CopiesEnd (Bind l ∷ lines) = EndsAfter l.op lines × CopiesEnd lines
CopiesEnd (Close t ∷ lines) = CopiesEnd lines

-- lines whose lets make at most so many locals
pub record Makes (lines : List Line) (n : ℕ) : Type 0 where
  pub few : plain lines ≤ n
  pub end : CopiesEnd lines

plain_append : (xs ys : List Line) → plain (xs ++ ys) ≡ plain xs + plain ys
plain_append [] ys = omega arith
plain_append (Bind l ∷ xs) ys = let e = plain_append xs ys in omega (arith, e)
plain_append (Close t ∷ xs) ys = plain_append xs ys

ends_append : (op : Op) (xs ys : List Line) → EndsAfter op xs → EndsAfter op (xs ++ ys)
ends_append (block.Copy x) [] ys h = absurd h
ends_append (block.Copy x) (Bind l ∷ xs) ys h = absurd h
ends_append (block.Copy x) (Close t ∷ xs) ys h = tt
ends_append (block.Lit z) xs ys h = tt
ends_append (block.Flag b) xs ys h = tt
ends_append (block.Prim op x y) xs ys h = tt
ends_append (block.Make con args at) xs ys h = tt
ends_append (block.Call f args) xs ys h = tt

copies_append : (xs ys : List Line) → CopiesEnd xs → CopiesEnd ys → CopiesEnd (xs ++ ys)
copies_append [] ys h k = k
copies_append (Bind l ∷ xs) ys h k = (ends_append l.op xs ys h.0, copies_append xs ys h.1 k)
copies_append (Close t ∷ xs) ys h k = copies_append xs ys h k

both_make : (xs ys : List Line) (m n : ℕ) → Makes xs m → Makes ys n → Makes (xs ++ ys) (m + n)
both_make xs ys m n h k = record { few = (let e = plain_append xs ys in let a = h.few in let b = k.few in omega (arith, e, a, b)); end = copies_append xs ys h.end k.end }

more_make : (xs : List Line) (m n : ℕ) → m ≤ n → Makes xs m → Makes xs n
more_make xs m n up h = record { few = (let a = h.few in omega (arith, a, up)); end = h.end }

close_makes : (t : Term) (xs : List Line) (n : ℕ) → Makes xs n → Makes (Close t ∷ xs) n
close_makes t xs n h = record { few = h.few; end = h.end }

joining_makes : (lines : List Line) (from to target n : ℕ) → Makes lines n → Makes (joining lines from to target) n
joining_makes lines from to target n h =
    more_make (joining lines from to target) (n + 0) n (omega arith) (both_make lines (new to (block.Copy from) ∷ Close (block.Goto target) ∷ []) n 0 h (record { few = omega arith; end = (tt, tt) }))

turn_makes : (locals blocks : ℕ → ℕ) (part : ℕ → ℕ → ℕ → List Line) → ((con next number : ℕ) → Makes (part con next number) (locals con))
    → (cons : List ℕ) (next first : ℕ) → Makes (in_turn locals blocks part cons next first) (total locals cons)
turn_makes locals blocks part h [] next first = record { few = omega arith; end = tt }
turn_makes locals blocks part h (con ∷ cons) next first =
    both_make (part con next first) (in_turn locals blocks part cons (next + locals con) (first + blocks con)) (locals con) (total locals cons) (h con next first) (turn_makes locals blocks part h cons (next + locals con) (first + blocks con))

chosen_makes : (t : Bool) (xs ys : List Line) (m n : ℕ) → Makes xs m → Makes ys n → Makes (if t then xs else ys) (if t then m else n)
chosen_makes true xs ys m n h k = h
chosen_makes false xs ys m n h k = k

-- ---- values

mutual
  pub value_makes : (p : Source) (e : Expression) (s : Scope ℕ) (next number : ℕ) → Makes (value p e s next number) (made p e)
  value_makes p (Var n) s next number = record { few = omega arith; end = tt }
  value_makes p (Num z l) s next number = record { few = omega arith; end = (tt, tt) }
  value_makes p (Truth b l) s next number = record { few = omega arith; end = (tt, tt) }
  value_makes p (Prim op a b l) s next number =
      more_make (value p (Prim op a b l) s next number) (made p a + (made p b + 1)) (suc (made p a + made p b)) (omega arith)
      (both_make (value p a s next number) _ (made p a) (made p b + 1) (value_makes p a s next number)
      (both_make (value p b s (next + made p a) (number + ends p a)) _ (made p b) 1 (value_makes p b s (next + made p a) (number + ends p a)) (record { few = omega arith; end = (tt, tt) })))
  value_makes p (Build c es place) s next number =
      more_make (value p (Build c es place) s next number) (all_made p es + 1) (suc (all_made p es)) (omega arith) (both_make (values p es s next number) _ (all_made p es) 1 (values_make p es s next number) (record { few = omega arith; end = (tt, tt) }))
  value_makes p (Call f es) s next number =
      more_make (value p (Call f es) s next number) (all_made p es + 1) (suc (all_made p es)) (omega arith) (both_make (values p es s next number) _ (all_made p es) 1 (values_make p es s next number) (record { few = omega arith; end = (tt, tt) }))
  value_makes p (Let n a b) s next number =
      both_make (value p a s next number) (value p b (bind n.word (local_of p a s next) s) (next + made p a) (number + ends p a)) (made p a) (made p b) (value_makes p a s next number)
      (value_makes p b (bind n.word (local_of p a s next) s) (next + made p a) (number + ends p a))
  value_makes p (If c a b l) s next number =
      let result = next + made p c in
      let yes = suc (number + ends p c) in
      let no = yes + suc (ends p a) in
      let join = no + suc (ends p b) in
      let first = joining (value p a s (suc result) yes) (local_of p a s (suc result)) result join in
      let second = joining (value p b s (suc result + made p a) no) (local_of p b s (suc result + made p a)) result join in
      more_make (value p (If c a b l) s next number) (made p c + (made p a + made p b)) (suc (made p c + (made p a + made p b))) (omega arith)
      (both_make (value p c s next number) (Close (block.If (local_of p c s next) yes no) ∷ (first ++ second)) (made p c) (made p a + made p b) (value_makes p c s next number)
      (close_makes (block.If (local_of p c s next) yes no) (first ++ second) (made p a + made p b)
      (both_make first second (made p a) (made p b) (joining_makes (value p a s (suc result) yes) (local_of p a s (suc result)) result join (made p a) (value_makes p a s (suc result) yes))
      (joining_makes (value p b s (suc result + made p a) no) (local_of p b s (suc result + made p a)) result join (made p b) (value_makes p b s (suc result + made p a) no)))))
  value_makes p (Match e as' l) s next number =
      let result = next + made p e in
      let first = suc (number + ends p e) in
      let join = first + total (arm_ends p as') (cons_of p as') in
      let part = λ (con n i : ℕ). arm_value p as' con s n i result join in
      more_make (value p (Match e as' l) s next number) (made p e + total (arm_made p as') (cons_of p as')) (suc (made p e + total (arm_made p as') (cons_of p as'))) (omega arith)
      (both_make (value p e s next number) _ (made p e) (total (arm_made p as') (cons_of p as')) (value_makes p e s next number)
      (close_makes _ (in_turn (arm_made p as') (arm_ends p as') part (cons_of p as') (suc result) first) (total (arm_made p as') (cons_of p as'))
      (turn_makes (arm_made p as') (arm_ends p as') part (λ con n i. arm_makes p as' con s n i result join) (cons_of p as') (suc result) first)))

  pub values_make : (p : Source) (es : Expressions) (s : Scope ℕ) (next number : ℕ) → Makes (values p es s next number) (all_made p es)
  values_make p NoExpressions s next number = record { few = omega arith; end = tt }
  values_make p (AndExpression e es) s next number =
      both_make (value p e s next number) (values p es s (next + made p e) (number + ends p e)) (made p e) (all_made p es) (value_makes p e s next number) (values_make p es s (next + made p e) (number + ends p e))

  pub arm_makes : (p : Source) (as' : Arms) (con : ℕ) (s : Scope ℕ) (next number result join : ℕ)
      → Makes (arm_value p as' con s next number result join) (arm_made p as' con)
  arm_makes p NoArms con s next number result join = record { few = omega arith; end = tt }
  arm_makes p (AndArm c fs x b as') con s next number result join =
      let lines = value p b (in_arm fs x next s) (next + bound_count fs x) number in
      let from = local_of p b (in_arm fs x next s) (next + bound_count fs x) in
      chosen_makes (is_that (constructor_number p c) con) (joining lines from result join) (arm_value p as' con s next number result join) (bound_count fs x + made p b) (arm_made p as' con)
      (more_make (joining lines from result join) (made p b) (bound_count fs x + made p b) (omega arith) (joining_makes lines from result join (made p b) (value_makes p b (in_arm fs x next s) (next + bound_count fs x) number)))
      (arm_makes p as' con s next number result join)

-- ---- tails

returned_makes : (p : Source) (e : Expression) (s : Scope ℕ) (next number : ℕ)
    → Makes (value p e s next number ++ (Close (block.Ret (local_of p e s next)) ∷ [])) (made p e)
returned_makes p e s next number =
    let lines = value p e s next number in
    more_make (lines ++ (Close (block.Ret (local_of p e s next)) ∷ [])) (made p e + 0) (made p e) (omega arith)
    (both_make lines (Close (block.Ret (local_of p e s next)) ∷ []) (made p e) 0 (value_makes p e s next number) (record { few = omega arith; end = tt }))

mutual
  pub tail_makes : (p : Source) (e : Expression) (s : Scope ℕ) (next number : ℕ) → Makes (tail p e s next number) (tail_made p e)
  tail_makes p (Var n) s next number = returned_makes p (Var n) s next number
  tail_makes p (Num z l) s next number = returned_makes p (Num z l) s next number
  tail_makes p (Truth b l) s next number = returned_makes p (Truth b l) s next number
  tail_makes p (Prim op a b l) s next number = returned_makes p (Prim op a b l) s next number
  tail_makes p (Build c es place) s next number = returned_makes p (Build c es place) s next number
  tail_makes p (Call f es) s next number =
      more_make (tail p (Call f es) s next number) (all_made p es + 0) (all_made p es) (omega arith) (both_make (values p es s next number) _ (all_made p es) 0 (values_make p es s next number) (record { few = omega arith; end = tt }))
  tail_makes p (Let n a b) s next number =
      both_make (value p a s next number) (tail p b (bind n.word (local_of p a s next) s) (next + made p a) (number + ends p a)) (made p a) (tail_made p b) (value_makes p a s next number)
      (tail_makes p b (bind n.word (local_of p a s next) s) (next + made p a) (number + ends p a))
  tail_makes p (If c a b l) s next number =
      let n1 = next + made p c in
      let yes = suc (number + ends p c) in
      let no = yes + tail_ends p a in
      both_make (value p c s next number) (Close (block.If (local_of p c s next) yes no) ∷ (tail p a s n1 yes ++ tail p b s (n1 + tail_made p a) no)) (made p c) (tail_made p a + tail_made p b) (value_makes p c s next number)
      (close_makes (block.If (local_of p c s next) yes no) (tail p a s n1 yes ++ tail p b s (n1 + tail_made p a) no) (tail_made p a + tail_made p b)
      (both_make (tail p a s n1 yes) (tail p b s (n1 + tail_made p a) no) (tail_made p a) (tail_made p b) (tail_makes p a s n1 yes) (tail_makes p b s (n1 + tail_made p a) no)))
  tail_makes p (Match e as' l) s next number =
      let first = suc (number + ends p e) in
      let part = λ (con n i : ℕ). arm_tail p as' con s n i in
      both_make (value p e s next number) _ (made p e) (total (arm_tail_made p as') (cons_of p as')) (value_makes p e s next number)
      (close_makes _ (in_turn (arm_tail_made p as') (arm_tail_ends p as') part (cons_of p as') (next + made p e) first) (total (arm_tail_made p as') (cons_of p as'))
      (turn_makes (arm_tail_made p as') (arm_tail_ends p as') part (λ con n i. arm_tail_makes p as' con s n i) (cons_of p as') (next + made p e) first))

  pub arm_tail_makes : (p : Source) (as' : Arms) (con : ℕ) (s : Scope ℕ) (next number : ℕ) → Makes (arm_tail p as' con s next number) (arm_tail_made p as' con)
  arm_tail_makes p NoArms con s next number = record { few = omega arith; end = tt }
  arm_tail_makes p (AndArm c fs x b as') con s next number =
      let lines = tail p b (in_arm fs x next s) (next + bound_count fs x) number in
      chosen_makes (is_that (constructor_number p c) con) lines (arm_tail p as' con s next number) (bound_count fs x + tail_made p b) (arm_tail_made p as' con)
      (more_make lines (tail_made p b) (bound_count fs x + tail_made p b) (omega arith) (tail_makes p b (in_arm fs x next s) (next + bound_count fs x) number))
      (arm_tail_makes p as' con s next number)

-- ---- blocks

abbrev first_lets : List NormalBlock → ℕ
first_lets [] = 0
first_lets (b ∷ bs) = length b.lets

abbrev AllFew : ℕ → List NormalBlock → Type 0
AllFew n bs = AllByRecursion (λ b. length b.lets ≤ n) bs

-- one more let in front
few_first : (l : block.Let) (bs : List NormalBlock) (n : ℕ) → suc (first_lets bs) ≤ n → AllFew n bs
    → (first_lets (in_first l bs) ≤ suc (first_lets bs)) × AllFew n (in_first l bs)
few_first l [] n h all = (omega arith, tt)
few_first l (b ∷ bs) n h all = (omega arith, (h, all.1))

pub lets_few : (lines : List Line) (n : ℕ) → CopiesEnd lines → plain lines ≤ n → (first_lets (cut lines) ≤ suc (plain lines)) × AllFew (suc n) (cut lines)
lets_few [] n end few = (omega arith, tt)
lets_few (Close t ∷ lines) n end few = (omega arith, (omega arith, (lets_few lines n end few).1))
lets_few (Bind l ∷ lines) n end few = by_op l.op end.0 (lets_few lines n end.1 (omega (arith, few))) refl
  where
    plainly : plain_op l.op ≡ 1 → (first_lets (cut lines) ≤ suc (plain lines)) × AllFew (suc n) (cut lines)
        → (first_lets (in_first l (cut lines)) ≤ suc (plain_op l.op + plain lines)) × AllFew (suc n) (in_first l (cut lines))
    plainly e r = let first = r.0 in let k = few_first l (cut lines) (suc n) (omega (arith, first, few, e)) r.1 in let up = k.0 in (omega (arith, up, first, e), k.1)

    copied : (rest : List Line) → EndsAfter (block.Copy 0) rest → first_lets (cut rest) ≡ 0
    copied [] h = absurd h
    copied (Bind m ∷ rest) h = absurd h
    copied (Close t ∷ rest) h = refl

    ends_same : (x : ℕ) (rest : List Line) → EndsAfter (block.Copy x) rest → EndsAfter (block.Copy 0) rest
    ends_same x [] h = h
    ends_same x (Bind m ∷ rest) h = h
    ends_same x (Close t ∷ rest) h = h

    by_op : (op : Op) → EndsAfter op lines → (first_lets (cut lines) ≤ suc (plain lines)) × AllFew (suc n) (cut lines) → l.op ≡ op
        → (first_lets (in_first l (cut lines)) ≤ suc (plain_op l.op + plain lines)) × AllFew (suc n) (in_first l (cut lines))
    by_op (block.Lit z) h r e = plainly (ap plain_op e) r
    by_op (block.Flag b) h r e = plainly (ap plain_op e) r
    by_op (block.Prim op x y) h r e = plainly (ap plain_op e) r
    by_op (block.Make con args at) h r e = plainly (ap plain_op e) r
    by_op (block.Call f args) h r e = plainly (ap plain_op e) r
    by_op (block.Copy x) h r e =
        let none = copied lines (ends_same x lines h) in
        let k = few_first l (cut lines) (suc n) (omega (arith, none)) r.1 in
        let up = k.0 in
        (omega (arith, up, none), k.1)
