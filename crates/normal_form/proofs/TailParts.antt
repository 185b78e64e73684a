-- The arms of a match that ends the function, put together, are those of the whole match.
use Rattle.std.proofs.Common.{◌≡◌, ℕ, suc, ◌+◌, Bool, true, false, if◌then◌else◌, List, [], ◌∷◌, ◌++◌, map, Option, Some, None, refl, sym, ap, ◌∙◌, arith, append_assoc, append-nil}
use Rattle.camelot_tree.specs.Tree.{Expression, Match, Arms, NoArms, AndArm, Branch, Source}
use Rattle.camelot_tree.specs.Meaning.{constructor_number, is_that}
use Rattle.camelot_typing.specs.Kinds.{Scope}
use Rattle.grail_blocks.specs.Blocks as block
use Rattle.normal_form.specs.Normal.{Line, Close, cons_of, arm_for, bound_count, in_arm, case_arm, total, in_turn, made, ends, local_of, value, arm_tail_made, arm_tail_ends, tail, arm_tail}
use Rattle.normal_form.specs.Counts.{branch_tail_made, branch_tail_ends, over}
use Rattle.normal_form.specs.Parts.{TailPiece, PlainTails, value_piece, parted, no_tails, tail_piece, tail_arm_and, tail_arms_and, tails_piece}
use Rattle.normal_form.proofs.Counting.{over_total, branch_tail_made_for, branch_tail_ends_for}

tail_are : (lines lines' : List Line) (next next' number number' : ℕ) → lines ≡ lines' → next ≡ next' → number ≡ number' → (let q : TailPiece = record { lines = lines; next = next; number = number } in q) ≡ record { lines = lines'; next = next'; number = number' }
tail_are lines lines' next next' number number' a b c =
    ap (λ x. let q : TailPiece = record { lines = x; next = next; number = number } in q) a ∙ ap (λ x. let q : TailPiece = record { lines = lines'; next = x; number = number } in q) b
    ∙ ap (λ x. let q : TailPiece = record { lines = lines'; next = next'; number = x } in q) c

abbrev branch_tail : Source → Scope ℕ → Option Branch → (n number : ℕ) → List Line
branch_tail p s None n number = []
branch_tail p s (Some b) n number = tail p b.body (in_arm b.fields b.cell n s) (n + bound_count b.fields b.cell) number

tail_for : (p : Source) (s : Scope ℕ) (as' : Arms) (con n number : ℕ) → arm_tail p as' con s n number ≡ branch_tail p s (arm_for p as' con) n number
tail_for p s NoArms con n number = refl
tail_for p s (AndArm c fs x b as') con n number = by_test (is_that (constructor_number p c) con) (tail_for p s as' con n number)
  where
    by_test : (t : Bool) → arm_tail p as' con s n number ≡ branch_tail p s (arm_for p as' con) n number
        → (if t then tail p b (in_arm fs x n s) (n + bound_count fs x) number else arm_tail p as' con s n number)
        ≡ branch_tail p s (if t then Some (record { con = c; fields = fs; cell = x; body = b }) else arm_for p as' con) n number
    by_test true h = refl
    by_test false h = h

-- what one arm more adds
record OneMore (p : Source) (s : Scope ℕ) (a : PlainTails) (o : Option Branch) : Type 0 where
  cases : (tail_arm_and p s a o).cases ≡ a.cases ++ case_arm p o a.next a.number ∷ []
  lines : (tail_arm_and p s a o).lines ≡ a.lines ++ branch_tail p s o a.next a.number
  next : (tail_arm_and p s a o).next ≡ a.next + branch_tail_made p o
  number : (tail_arm_and p s a o).number ≡ a.number + branch_tail_ends p o

one_more : (p : Source) (s : Scope ℕ) (a : PlainTails) (o : Option Branch) → OneMore p s a o
one_more p s a None = record { cases = refl; lines = sym (append-nil a.lines); next = omega arith; number = omega arith }
one_more p s a (Some b) = record { cases = refl; lines = refl; next = omega arith; number = refl }

record AllTold (p : Source) (s : Scope ℕ) (as' : Arms) (a : PlainTails) (cons : List ℕ) : Type 0 where
  cases : (tail_arms_and p s a (map (arm_for p as') cons)).cases ≡ a.cases
      ++ in_turn (arm_tail_made p as') (arm_tail_ends p as') (λ con n b. case_arm p (arm_for p as' con) n b ∷ []) cons a.next a.number
  lines : (tail_arms_and p s a (map (arm_for p as') cons)).lines ≡ a.lines
      ++ in_turn (arm_tail_made p as') (arm_tail_ends p as') (λ con n b. arm_tail p as' con s n b) cons a.next a.number
  next : (tail_arms_and p s a (map (arm_for p as') cons)).next ≡ a.next + total (arm_tail_made p as') cons
  number : (tail_arms_and p s a (map (arm_for p as') cons)).number ≡ a.number + total (arm_tail_ends p as') cons

all_told : (p : Source) (s : Scope ℕ) (as' : Arms) (a : PlainTails) (cons : List ℕ) → AllTold p s as' a cons
all_told p s as' a [] = record { cases = sym (append-nil a.cases); lines = sym (append-nil a.lines); next = omega arith; number = omega arith }
all_told p s as' a (con ∷ cons) =
    let o = arm_for p as' con in
    let one = one_more p s a o in
    let r = all_told p s as' (tail_arm_and p s a o) cons in
    let next_is : (tail_arm_and p s a o).next ≡ a.next + arm_tail_made p as' con = one.next ∙ ap (λ n. a.next + n) (branch_tail_made_for p as' con) in
    let number_is : (tail_arm_and p s a o).number ≡ a.number + arm_tail_ends p as' con = one.number ∙ ap (λ n. a.number + n) (branch_tail_ends_for p as' con) in
    let heads = λ (n b : ℕ). in_turn (arm_tail_made p as') (arm_tail_ends p as') (λ con n b. case_arm p (arm_for p as' con) n b ∷ []) cons n b in
    let parts = λ (n b : ℕ). in_turn (arm_tail_made p as') (arm_tail_ends p as') (λ con n b. arm_tail p as' con s n b) cons n b in
    record {
      cases = r.cases ∙ ap (λ l. l ++ heads (tail_arm_and p s a o).next (tail_arm_and p s a o).number) one.cases ∙ ap (λ n. (a.cases ++ case_arm p o a.next a.number ∷ []) ++ heads n (tail_arm_and p s a o).number) next_is
          ∙ ap (λ b. (a.cases ++ case_arm p o a.next a.number ∷ []) ++ heads (a.next + arm_tail_made p as' con) b) number_is
          ∙ append_assoc a.cases (case_arm p o a.next a.number ∷ []) (heads (a.next + arm_tail_made p as' con) (a.number + arm_tail_ends p as' con));
      lines = r.lines ∙ ap (λ l. l ++ parts (tail_arm_and p s a o).next (tail_arm_and p s a o).number) (one.lines ∙ ap (λ l. a.lines ++ l) (sym (tail_for p s as' con a.next a.number)))
          ∙ ap (λ n. (a.lines ++ arm_tail p as' con s a.next a.number) ++ parts n (tail_arm_and p s a o).number) next_is
          ∙ ap (λ b. (a.lines ++ arm_tail p as' con s a.next a.number) ++ parts (a.next + arm_tail_made p as' con) b) number_is
          ∙ append_assoc a.lines (arm_tail p as' con s a.next a.number) (parts (a.next + arm_tail_made p as' con) (a.number + arm_tail_ends p as' con));
      next = (let h = r.next in omega (arith, h, next_is));
      number = (let h = r.number in omega (arith, h, number_is));
    }

pub tail_match_whole : (p : Source) (s : Scope ℕ) (next number l : ℕ) (e : Expression) (as' : Arms)
    → parted (value_piece p s next number e) (tails_piece p s (next + made p e) ((number + ends p e) + 1) as') ≡ tail_piece p s next number (Match e as' l)
tail_match_whole p s next number l e as' =
    let n1 = next + made p e in
    let b0 = number + ends p e in
    let all = tails_piece p s n1 (b0 + 1) as' in
    let V = value p e s next number in
    let xe = local_of p e s next in
    let r = all_told p s as' (no_tails n1 (b0 + 1)) (cons_of p as') in
    let e2 : b0 + 1 ≡ suc b0 = omega arith in
    let next_is = r.next in
    let number_is = r.number in
    let heads = λ (b : ℕ). in_turn (arm_tail_made p as') (arm_tail_ends p as') (λ con n b. case_arm p (arm_for p as' con) n b ∷ []) (cons_of p as') n1 b in
    let parts = λ (b : ℕ). in_turn (arm_tail_made p as') (arm_tail_ends p as') (λ con n b. arm_tail p as' con s n b) (cons_of p as') n1 b in
    tail_are (V ++ Close (block.Case xe all.cases) ∷ all.lines) (V ++ Close (block.Case xe (heads (suc b0))) ∷ parts (suc b0)) all.next (next + (made p e + total (arm_tail_made p as') (cons_of p as')))
    all.number (number + suc (ends p e + total (arm_tail_ends p as') (cons_of p as')))
    (ap (λ x. V ++ Close (block.Case xe x) ∷ all.lines) r.cases ∙ ap (λ x. V ++ Close (block.Case xe (heads (b0 + 1))) ∷ x) r.lines ∙ ap (λ x. V ++ Close (block.Case xe (heads x)) ∷ parts x) e2)
    (omega (arith, next_is)) (omega (arith, number_is))

pub over_tail_made : (p : Source) (as' : Arms) (order : List (Option Branch)) → order ≡ map (arm_for p as') (cons_of p as')
    → over (branch_tail_made p) order ≡ total (arm_tail_made p as') (cons_of p as')
over_tail_made p as' order h = ap (over (branch_tail_made p)) h ∙ over_total (branch_tail_made p) (arm_tail_made p as') p as' (branch_tail_made_for p as') (cons_of p as')

pub over_tail_ends : (p : Source) (as' : Arms) (order : List (Option Branch)) → order ≡ map (arm_for p as') (cons_of p as')
    → over (branch_tail_ends p) order ≡ total (arm_tail_ends p as') (cons_of p as')
over_tail_ends p as' order h = ap (over (branch_tail_ends p)) h ∙ over_total (branch_tail_ends p) (arm_tail_ends p as') p as' (branch_tail_ends_for p as') (cons_of p as')
