-- What the arms bind that leave their cell as it is, among the lines of a part: locals that the part makes.
use Rattle.std.proofs.Common.{◌≡◌, ℕ, suc, ◌+◌, ◌≤◌, ◌<◌, Bool, true, false, List, [], ◌∷◌, ◌++◌, length, Option, Some, refl, sym, ap, ◌∙◌, arith}
use Rattle.std.specs.Prelude.{◌||◌, ◌==◌, if◌then◌else◌, flat_map}
use Rattle.std.proofs.lemmas.Bool.Decides.{nat_tests}
use Rattle.camelot_values.specs.Lists.{is_among}
use Rattle.camelot_tree.specs.declared.tree.Name.{Name}
use Rattle.camelot_tree.specs.declared.tree.ArmCell.{ArmCell}
use Rattle.camelot_tree.specs.Tree.{Expression, Num, Truth, Var, Prim, If, Let, Match, Build, Call, Expressions, NoExpressions, AndExpression, Arms, NoArms, AndArm, Branch, Source}
use Rattle.camelot_tree.specs.Meaning.{constructor_number, is_that}
use Rattle.camelot_typing.specs.Kinds.{Scope, bind, types_of, is_inline, numbered}
use Rattle.grail_blocks.specs.declared.blocks.CaseCell.{CaseCell}
use Rattle.grail_blocks.specs.declared.blocks.CaseCell.TheVariants as case_cell
use Rattle.grail_blocks.specs.Blocks as block
use Rattle.grail_blocks.specs.Blocks.{CaseArm}
use Rattle.grail_code.specs.WellFormed.{looked_by, looked_at}
use Rattle.normal_form.specs.Normal.{Line, Bind, Close, new, con_of, cons_of, arm_for, bound_count, in_arm, cell_in, case_arm, case_arms, total, in_turn, made, all_made, arm_made, ends, arm_ends, local_of, joining, value, values, arm_value, tail_made, arm_tail_made, tail_ends, arm_tail_ends, tail, arm_tail}

-- ---- tests

pub or_false : (a : Bool) → (a || false) ≡ a
or_false true = refl
or_false false = refl

or_assoc : (a b c : Bool) → ((a || b) || c) ≡ (a || (b || c))
or_assoc true b c = refl
or_assoc false b c = refl

pub or_true : (a : Bool) → (a || true) ≡ true
or_true true = refl
or_true false = refl

or_swap : (a b c d : Bool) → ((a || b) || (c || d)) ≡ ((a || c) || (b || d))
or_swap true b c d = refl
or_swap false true true d = refl
or_swap false true false d = refl
or_swap false false c d = refl

pub among_append : (xs ys : List ℕ) (x : ℕ) → is_among (xs ++ ys) x ≡ (is_among xs x || is_among ys x)
among_append [] ys x = refl
among_append (y ∷ xs) ys x = ap (λ b. (y == x) || b) (among_append xs ys x) ∙ sym (or_assoc (y == x) (is_among xs x) (is_among ys x))

-- ---- what lines look at

abbrev pub looks : List Line → ℕ → Bool
looks [] x = false
looks (Bind l ∷ lines) x = looks lines x
looks (Close t ∷ lines) x = is_among (looked_at t) x || looks lines x

pub looks_append : (xs ys : List Line) (x : ℕ) → looks (xs ++ ys) x ≡ (looks xs x || looks ys x)
looks_append [] ys x = refl
looks_append (Bind l ∷ xs) ys x = looks_append xs ys x
looks_append (Close t ∷ xs) ys x = ap (λ b. is_among (looked_at t) x || b) (looks_append xs ys x) ∙ sym (or_assoc (is_among (looked_at t) x) (looks xs x) (looks ys x))

-- an arm with its lines, and all arms of a case with theirs
abbrev pub arm_looks : CaseArm → List Line → ℕ → Bool
arm_looks a lines x = is_among (looked_by a.cell a.fields) x || looks lines x

abbrev pub turn_looks : List CaseArm → List Line → ℕ → Bool
turn_looks arms lines x = is_among (flat_map (λ a. looked_by a.cell a.fields) arms) x || looks lines x

pub turn_split : (a : CaseArm) (arms : List CaseArm) (xs ys : List Line) (x : ℕ) → turn_looks (a ∷ arms) (xs ++ ys) x ≡ (arm_looks a xs x || turn_looks arms ys x)
turn_split a arms xs ys x =
    let first = looked_by a.cell a.fields in
    let others = flat_map (λ a. looked_by a.cell a.fields) arms in
    ap (λ b. b || looks (xs ++ ys) x) (among_append first others x) ∙ ap (λ b. (is_among first x || is_among others x) || b) (looks_append xs ys x)
    ∙ or_swap (is_among first x) (is_among others x) (looks xs x) (looks ys x)

-- ---- within the locals from one number to another

abbrev pub Inside : ℕ → ℕ → (ℕ → Bool) → Type 0
Inside low high q = (x : ℕ) → q x ≡ true → (low ≤ x) × (x < high)

inside_wider : (low high less more : ℕ) (q : ℕ → Bool) → Inside low high q → less ≤ low → high ≤ more → Inside less more q
inside_wider low high less more q h down up x e = let k = h x e in (omega (arith, k, down), omega (arith, k, up))

inside_or : (low high : ℕ) (q r : ℕ → Bool) → Inside low high q → Inside low high r → Inside low high (λ x. q x || r x)
inside_or low high q r h k x e = by_test (q x) refl e
  where
    by_test : (b : Bool) → q x ≡ b → (b || r x) ≡ true → (low ≤ x) × (x < high)
    by_test true is e = h x is
    by_test false is e = k x e

pub below_none : (low high : ℕ) (q : ℕ → Bool) (x : ℕ) → Inside low high q → x < low → q x ≡ false
below_none low high q x h less = by_test (q x) refl
  where
    by_test : (b : Bool) → q x ≡ b → q x ≡ false
    by_test true is = let k = h x is in absurd (omega (arith, k, less))
    by_test false is = is

pub above_none : (low high : ℕ) (q : ℕ → Bool) (x : ℕ) → Inside low high q → high ≤ x → q x ≡ false
above_none low high q x h more = by_test (q x) refl
  where
    by_test : (b : Bool) → q x ≡ b → q x ≡ false
    by_test true is = let k = h x is in absurd (omega (arith, k, more))
    by_test false is = is

-- lines behind others
pub inside_then : (low high less more : ℕ) (xs ys : List Line) → Inside low high (looks xs) → less ≤ low → high ≤ more → Inside less more (looks ys)
    → Inside less more (looks (xs ++ ys))
inside_then low high less more xs ys h down up k x e =
    inside_or less more (looks xs) (looks ys) (inside_wider low high less more (looks xs) h down up) k x (sym (looks_append xs ys x) ∙ e)

pub nothing : (low high : ℕ) → Inside low high (λ x. false)
nothing low high x e = absurd cc

-- ---- arms

pub numbered_inside : (n : ℕ) (fs : List (Option Name)) → Inside n (n + length fs) (is_among (numbered n fs))
numbered_inside n [] x e = absurd cc
numbered_inside n (f ∷ fs) x e = by_test (n == x) refl (numbered_inside (suc n) fs x) e
  where
    by_test : (b : Bool) → (n == x) ≡ b → (is_among (numbered (suc n) fs) x ≡ true → (suc n ≤ x) × (x < suc n + length fs)) → (b || is_among (numbered (suc n) fs) x) ≡ true
        → (n ≤ x) × (x < n + suc (length fs))
    by_test true is rec e = let same : n ≡ x = grind (arith, nat_tests, is) in (omega (arith, same), omega (arith, same))
    by_test false is rec e = let k = rec e in (omega (arith, k), omega (arith, k))

looked_inside : (c : CaseCell) (fields : List ℕ) (low high : ℕ) → Inside low high (is_among fields) → Inside low high (is_among (looked_by c fields))
looked_inside case_cell.Inline fields low high h = nothing low high
looked_inside case_cell.Free fields low high h = nothing low high
looked_inside case_cell.Look fields low high h = h
looked_inside (case_cell.Keep d) fields low high h = nothing low high

-- the fields of an arm
pub fields_inside : (c : CaseCell) (n : ℕ) (fs : List (Option Name)) (high : ℕ) → n + length fs ≤ high → Inside n high (is_among (looked_by c (numbered n fs)))
fields_inside c n fs high up = inside_wider n (n + length fs) n high (is_among (looked_by c (numbered n fs))) (looked_inside c (numbered n fs) n (n + length fs) (numbered_inside n fs)) (omega arith) up

arm_inside : (src : Source) (con : Name) (fs : List (Option Name)) (x : ArmCell) (b : Expression) (n i more : ℕ) (lines : List Line) → Inside (n + bound_count fs x) (n + (bound_count fs x + more)) (looks lines)
    → Inside n (n + (bound_count fs x + more)) (arm_looks (case_arm src (Some (record { con = con; fields = fs; cell = x; body = b })) n i) lines)
arm_inside src con fs x b n i more lines h =
    let c = cell_in (is_inline (types_of src) (con_of src con)) x (n + length fs) in
    inside_or n (n + (bound_count fs x + more)) (is_among (looked_by c (numbered n fs))) (looks lines) (fields_inside c n fs (n + (bound_count fs x + more)) (omega arith))
    (inside_wider (n + bound_count fs x) (n + (bound_count fs x + more)) n (n + (bound_count fs x + more)) (looks lines) h (omega arith) (omega arith))

-- one of two arms, by the test on its constructor
arm_either : (src : Source) (t : Bool) (first : Branch) (other : Option Branch) (n i m k : ℕ) (xs ys : List Line) → Inside n (n + m) (arm_looks (case_arm src (Some first) n i) xs)
    → Inside n (n + k) (arm_looks (case_arm src other n i) ys)
    → Inside n (n + (if t then m else k)) (arm_looks (case_arm src (if t then Some first else other) n i) (if t then xs else ys))
arm_either src true first other n i m k xs ys h g = h
arm_either src false first other n i m k xs ys h g = g

pub turns_inside : (locals blocks : ℕ → ℕ) (arm : ℕ → ℕ → ℕ → CaseArm) (part : ℕ → ℕ → ℕ → List Line) → ((con n i : ℕ) → Inside n (n + locals con) (arm_looks (arm con n i) (part con n i)))
    → (cons : List ℕ) (n i : ℕ) → Inside n (n + total locals cons) (turn_looks (in_turn locals blocks (λ con n i. arm con n i ∷ []) cons n i) (in_turn locals blocks part cons n i))
turns_inside locals blocks arm part h [] n i x e = nothing n (n + 0) x e
turns_inside locals blocks arm part h (con ∷ cons) n i x e =
    let n1 = n + locals con in
    let i1 = i + blocks con in
    let arms = in_turn locals blocks (λ con n i. arm con n i ∷ []) cons n1 i1 in
    let lines = in_turn locals blocks part cons n1 i1 in
    let top = n + (locals con + total locals cons) in
    inside_or n top (arm_looks (arm con n i) (part con n i)) (turn_looks arms lines)
    (inside_wider n (n + locals con) n top (arm_looks (arm con n i) (part con n i)) (h con n i) (omega arith) (omega arith))
    (inside_wider n1 (n1 + total locals cons) n top (turn_looks arms lines) (turns_inside locals blocks arm part h cons n1 i1) (omega arith) (omega arith))
    x (sym (turn_split (arm con n i) arms (part con n i) lines x) ∙ e)

-- ---- expressions

joined_inside : (low high : ℕ) (lines : List Line) (from to target : ℕ) → Inside low high (looks lines) → Inside low high (looks (joining lines from to target))
joined_inside low high lines from to target h = inside_then low high low high lines (new to (block.Copy from) ∷ Close (block.Goto target) ∷ []) h (omega arith) (omega arith) (nothing low high)

mutual
  pub value_inside : (p : Source) (e : Expression) (l : Scope ℕ) (next number : ℕ) → Inside next (next + made p e) (looks (value p e l next number))
  value_inside p (Var n) l next number = nothing next (next + 0)
  value_inside p (Num z l0) l next number = nothing next (next + 1)
  value_inside p (Truth b l0) l next number = nothing next (next + 1)
  value_inside p (Prim op a b l0) l next number =
      let nb = next + made p a in
      let mb = number + ends p a in
      let x = next + (made p a + made p b) in
      let top = next + suc (made p a + made p b) in
      let last = new x (block.Prim op (local_of p a l next) (local_of p b l nb)) ∷ [] in
      inside_then next (next + made p a) next top (value p a l next number) (value p b l nb mb ++ last) (value_inside p a l next number) (omega arith) (omega arith)
      (inside_then nb (nb + made p b) next top (value p b l nb mb) last (value_inside p b l nb mb) (omega arith) (omega arith) (nothing next top))
  value_inside p (Build c es place) l next number =
      inside_then next (next + all_made p es) next (next + suc (all_made p es)) (values p es l next number) _ (values_inside p es l next number) (omega arith) (omega arith) (nothing next (next + suc (all_made p es)))
  value_inside p (Call f es) l next number =
      inside_then next (next + all_made p es) next (next + suc (all_made p es)) (values p es l next number) _ (values_inside p es l next number) (omega arith) (omega arith) (nothing next (next + suc (all_made p es)))
  value_inside p (Let n a b) l next number =
      let nb = next + made p a in
      let mb = number + ends p a in
      let top = next + (made p a + made p b) in
      let inner = bind n.word (local_of p a l next) l in
      inside_then next (next + made p a) next top (value p a l next number) (value p b inner nb mb) (value_inside p a l next number) (omega arith) (omega arith)
      (inside_wider nb (nb + made p b) next top (looks (value p b inner nb mb)) (value_inside p b inner nb mb) (omega arith) (omega arith))
  value_inside p (If c a b l0) l next number =
      let result = next + made p c in
      let yes = suc (number + ends p c) in
      let no = yes + suc (ends p a) in
      let join = no + suc (ends p b) in
      let n1 = suc result in
      let n2 = n1 + made p a in
      let top = next + suc (made p c + (made p a + made p b)) in
      let first = joining (value p a l n1 yes) (local_of p a l n1) result join in
      let second = joining (value p b l n2 no) (local_of p b l n2) result join in
      inside_then next (next + made p c) next top (value p c l next number) (Close (block.If (local_of p c l next) yes no) ∷ (first ++ second)) (value_inside p c l next number) (omega arith) (omega arith)
      (inside_then n1 (n1 + made p a) next top first second (joined_inside n1 (n1 + made p a) (value p a l n1 yes) (local_of p a l n1) result join (value_inside p a l n1 yes)) (omega arith) (omega arith)
      (inside_wider n2 (n2 + made p b) next top (looks second) (joined_inside n2 (n2 + made p b) (value p b l n2 no) (local_of p b l n2) result join (value_inside p b l n2 no)) (omega arith) (omega arith)))
  value_inside p (Match e as' l0) l next number =
      let result = next + made p e in
      let first = suc (number + ends p e) in
      let join = first + total (arm_ends p as') (cons_of p as') in
      let n1 = suc result in
      let top = next + suc (made p e + total (arm_made p as') (cons_of p as')) in
      let part = λ (con n i : ℕ). arm_value p as' con l n i result join in
      let arms = case_arms p as' (arm_made p as') (arm_ends p as') n1 first in
      let lines = in_turn (arm_made p as') (arm_ends p as') part (cons_of p as') n1 first in
      inside_then next (next + made p e) next top (value p e l next number) (Close (block.Case (local_of p e l next) arms) ∷ lines) (value_inside p e l next number) (omega arith) (omega arith)
      (inside_wider n1 (n1 + total (arm_made p as') (cons_of p as')) next top (turn_looks arms lines)
      (turns_inside (arm_made p as') (arm_ends p as') (λ con n i. case_arm p (arm_for p as' con) n i) part (λ con n i. arm_value_inside p as' con l n i result join) (cons_of p as') n1 first) (omega arith) (omega arith))

  pub values_inside : (p : Source) (es : Expressions) (l : Scope ℕ) (next number : ℕ) → Inside next (next + all_made p es) (looks (values p es l next number))
  values_inside p NoExpressions l next number = nothing next (next + 0)
  values_inside p (AndExpression e es) l next number =
      let nb = next + made p e in
      let mb = number + ends p e in
      let top = next + (made p e + all_made p es) in
      inside_then next (next + made p e) next top (value p e l next number) (values p es l nb mb) (value_inside p e l next number) (omega arith) (omega arith)
      (inside_wider nb (nb + all_made p es) next top (looks (values p es l nb mb)) (values_inside p es l nb mb) (omega arith) (omega arith))

  pub arm_value_inside : (p : Source) (as' : Arms) (con : ℕ) (l : Scope ℕ) (n i result join : ℕ) → Inside n (n + arm_made p as' con) (arm_looks (case_arm p (arm_for p as' con) n i) (arm_value p as' con l n i result join))
  arm_value_inside p NoArms con l n i result join = nothing n (n + 0)
  arm_value_inside p (AndArm c fs x b as') con l n i result join =
      let n1 = n + bound_count fs x in
      let l1 = in_arm fs x n l in
      let lines = joining (value p b l1 n1 i) (local_of p b l1 n1) result join in
      arm_either p (is_that (constructor_number p c) con) (record { con = c; fields = fs; cell = x; body = b }) (arm_for p as' con) n i (bound_count fs x + made p b) (arm_made p as' con) lines (arm_value p as' con l n i result join)
      (arm_inside p c fs x b n i (made p b) lines
      (inside_wider n1 (n1 + made p b) n1 (n + (bound_count fs x + made p b)) (looks lines) (joined_inside n1 (n1 + made p b) (value p b l1 n1 i) (local_of p b l1 n1) result join (value_inside p b l1 n1 i)) (omega arith) (omega arith)))
      (arm_value_inside p as' con l n i result join)

-- ---- where they end the function

returned_inside : (p : Source) (e : Expression) (l : Scope ℕ) (next number : ℕ) → Inside next (next + made p e) (looks (value p e l next number ++ (Close (block.Ret (local_of p e l next)) ∷ [])))
returned_inside p e l next number =
    inside_then next (next + made p e) next (next + made p e) (value p e l next number) (Close (block.Ret (local_of p e l next)) ∷ []) (value_inside p e l next number) (omega arith) (omega arith) (nothing next (next + made p e))

mutual
  pub tail_inside : (p : Source) (e : Expression) (l : Scope ℕ) (next number : ℕ) → Inside next (next + tail_made p e) (looks (tail p e l next number))
  tail_inside p (Var n) l next number = returned_inside p (Var n) l next number
  tail_inside p (Num z l0) l next number = returned_inside p (Num z l0) l next number
  tail_inside p (Truth b l0) l next number = returned_inside p (Truth b l0) l next number
  tail_inside p (Prim op a b l0) l next number = returned_inside p (Prim op a b l0) l next number
  tail_inside p (Build c es place) l next number = returned_inside p (Build c es place) l next number
  tail_inside p (Call f es) l next number =
      inside_then next (next + all_made p es) next (next + all_made p es) (values p es l next number) _ (values_inside p es l next number) (omega arith) (omega arith) (nothing next (next + all_made p es))
  tail_inside p (Let n a b) l next number =
      let nb = next + made p a in
      let mb = number + ends p a in
      let top = next + (made p a + tail_made p b) in
      let inner = bind n.word (local_of p a l next) l in
      inside_then next (next + made p a) next top (value p a l next number) (tail p b inner nb mb) (value_inside p a l next number) (omega arith) (omega arith)
      (inside_wider nb (nb + tail_made p b) next top (looks (tail p b inner nb mb)) (tail_inside p b inner nb mb) (omega arith) (omega arith))
  tail_inside p (If c a b l0) l next number =
      let n1 = next + made p c in
      let yes = suc (number + ends p c) in
      let no = yes + tail_ends p a in
      let n2 = n1 + tail_made p a in
      let top = next + (made p c + (tail_made p a + tail_made p b)) in
      let first = tail p a l n1 yes in
      let second = tail p b l n2 no in
      inside_then next (next + made p c) next top (value p c l next number) (Close (block.If (local_of p c l next) yes no) ∷ (first ++ second)) (value_inside p c l next number) (omega arith) (omega arith)
      (inside_then n1 (n1 + tail_made p a) next top first second (tail_inside p a l n1 yes) (omega arith) (omega arith)
      (inside_wider n2 (n2 + tail_made p b) next top (looks second) (tail_inside p b l n2 no) (omega arith) (omega arith)))
  tail_inside p (Match e as' l0) l next number =
      let n1 = next + made p e in
      let first = suc (number + ends p e) in
      let top = next + (made p e + total (arm_tail_made p as') (cons_of p as')) in
      let part = λ (con n i : ℕ). arm_tail p as' con l n i in
      let arms = case_arms p as' (arm_tail_made p as') (arm_tail_ends p as') n1 first in
      let lines = in_turn (arm_tail_made p as') (arm_tail_ends p as') part (cons_of p as') n1 first in
      inside_then next (next + made p e) next top (value p e l next number) (Close (block.Case (local_of p e l next) arms) ∷ lines) (value_inside p e l next number) (omega arith) (omega arith)
      (inside_wider n1 (n1 + total (arm_tail_made p as') (cons_of p as')) next top (turn_looks arms lines)
      (turns_inside (arm_tail_made p as') (arm_tail_ends p as') (λ con n i. case_arm p (arm_for p as' con) n i) part (λ con n i. arm_tail_inside p as' con l n i) (cons_of p as') n1 first) (omega arith) (omega arith))

  pub arm_tail_inside : (p : Source) (as' : Arms) (con : ℕ) (l : Scope ℕ) (n i : ℕ) → Inside n (n + arm_tail_made p as' con) (arm_looks (case_arm p (arm_for p as' con) n i) (arm_tail p as' con l n i))
  arm_tail_inside p NoArms con l n i = nothing n (n + 0)
  arm_tail_inside p (AndArm c fs x b as') con l n i =
      let n1 = n + bound_count fs x in
      let l1 = in_arm fs x n l in
      let lines = tail p b l1 n1 i in
      arm_either p (is_that (constructor_number p c) con) (record { con = c; fields = fs; cell = x; body = b }) (arm_for p as' con) n i (bound_count fs x + tail_made p b) (arm_tail_made p as' con) lines (arm_tail p as' con l n i)
      (arm_inside p c fs x b n i (tail_made p b) lines
      (inside_wider n1 (n1 + tail_made p b) n1 (n + (bound_count fs x + tail_made p b)) (looks lines) (tail_inside p b l1 n1 i) (omega arith) (omega arith)))
      (arm_tail_inside p as' con l n i)
