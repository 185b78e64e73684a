-- Parts that are put together are the parts of whole expressions.
use Rattle.std.proofs.Common.{◌≡◌, ℕ, suc, ◌+◌, Bool, true, false, if◌then◌else◌, List, [], ◌∷◌, ◌++◌, map, Option, Some, None, refl, sym, ap, ◌∙◌, arith, append_assoc, append-nil}
use Rattle.camelot_tree.specs.Tree.{Expression, Prim, Match, Arms, NoArms, AndArm, Branch, Source}
use Rattle.camelot_tree.specs.Meaning.{constructor_number, is_that}
use Rattle.camelot_typing.specs.Kinds.{Scope}
use Rattle.grail_blocks.specs.Blocks as block
use Rattle.grail_blocks.specs.Blocks.{Op, CaseArm}
use Rattle.normal_form.specs.Normal.{Line, Close, cons_of, arm_for, bound_count, in_arm, case_arm, total, in_turn, made, arm_made, ends, arm_ends, local_of, joining, value, arm_value}
use Rattle.normal_form.specs.Counts.{branch_made, branch_ends}
use Rattle.normal_form.specs.Parts.{Piece, Pieces, PlainBody, PlainArms, value_piece, joined_bodies, matched, no_arms, arm_and, arms_and, arms_piece}
use Rattle.normal_form.proofs.Counting.{branch_made_for, branch_ends_for}

piece_are : (lines lines' : List Line) (next next' number number' local local' : ℕ) → lines ≡ lines' → next ≡ next' → number ≡ number' → local ≡ local'
    → (let q : Piece = record { lines = lines; next = next; number = number; local = local } in q) ≡ record { lines = lines'; next = next'; number = number'; local = local' }
piece_are lines lines' next next' number number' local local' a b c d =
    ap (λ x. let q : Piece = record { lines = x; next = next; number = number; local = local } in q) a ∙ ap (λ x. let q : Piece = record { lines = lines'; next = x; number = number; local = local } in q) b
    ∙ ap (λ x. let q : Piece = record { lines = lines'; next = next'; number = x; local = local } in q) c ∙ ap (λ x. let q : Piece = record { lines = lines'; next = next'; number = number'; local = x } in q) d

-- ---- arguments

-- some arguments and then others
abbrev pub args_then : Pieces → Pieces → Pieces
args_then a b = record { lines = a.lines ++ b.lines; next = b.next; number = b.number; locals = a.locals ++ b.locals }

-- ---- matches

abbrev branch_value : Source → Scope ℕ → Option Branch → (n number result join : ℕ) → List Line
branch_value p s None n number result join = []
branch_value p s (Some b) n number result join =
    joining (value p b.body (in_arm b.fields b.cell n s) (n + bound_count b.fields b.cell) number) (local_of p b.body (in_arm b.fields b.cell n s) (n + bound_count b.fields b.cell)) result join

value_for : (p : Source) (s : Scope ℕ) (as' : Arms) (con n number result join : ℕ)
    → arm_value p as' con s n number result join ≡ branch_value p s (arm_for p as' con) n number result join
value_for p s NoArms con n number result join = refl
value_for p s (AndArm c fs x b as') con n number result join = by_test (is_that (constructor_number p c) con) (value_for p s as' con n number result join)
  where
    by_test : (t : Bool) → arm_value p as' con s n number result join ≡ branch_value p s (arm_for p as' con) n number result join
        → (if t then joining (value p b (in_arm fs x n s) (n + bound_count fs x) number) (local_of p b (in_arm fs x n s) (n + bound_count fs x)) result join else arm_value p as' con s n number result join)
        ≡ branch_value p s (if t then Some (record { con = c; fields = fs; cell = x; body = b }) else arm_for p as' con) n number result join
    by_test true h = refl
    by_test false h = h

joined_last : (to target : ℕ) (bs : List PlainBody) (b : PlainBody)
    → joined_bodies to target (bs ++ b ∷ []) ≡ joined_bodies to target bs ++ joining b.lines b.local to target
joined_last to target [] b = append-nil (joining b.lines b.local to target)
joined_last to target (c ∷ bs) b = ap (λ l. joining c.lines c.local to target ++ l) (joined_last to target bs b) ∙ sym (append_assoc (joining c.lines c.local to target) (joined_bodies to target bs) (joining b.lines b.local to target))

-- what one arm more adds
pub record OneMore (p : Source) (s : Scope ℕ) (a : PlainArms) (o : Option Branch) (result join : ℕ) : Type 0 where
  pub cases : (arm_and p s a o).cases ≡ a.cases ++ case_arm p o a.next a.number ∷ []
  pub lines : joined_bodies result join (arm_and p s a o).bodies ≡ joined_bodies result join a.bodies ++ branch_value p s o a.next a.number result join
  pub next : (arm_and p s a o).next ≡ a.next + branch_made p o
  pub number : (arm_and p s a o).number ≡ a.number + branch_ends p o

pub one_more : (p : Source) (s : Scope ℕ) (a : PlainArms) (o : Option Branch) (result join : ℕ) → OneMore p s a o result join
one_more p s a None result join = record { cases = refl; lines = sym (append-nil (joined_bodies result join a.bodies)); next = omega arith; number = omega arith }
one_more p s a (Some b) result join = record {
  cases = refl;
  lines = joined_last result join a.bodies (record {
    lines = value p b.body (in_arm b.fields b.cell a.next s) (a.next + bound_count b.fields b.cell) a.number;
    local = local_of p b.body (in_arm b.fields b.cell a.next s) (a.next + bound_count b.fields b.cell);
  });
  next = omega arith;
  number = omega arith;
}

-- all of them
record AllTold (p : Source) (s : Scope ℕ) (as' : Arms) (a : PlainArms) (cons : List ℕ) (result join : ℕ) : Type 0 where
  cases : (arms_and p s a (map (arm_for p as') cons)).cases ≡ a.cases
      ++ in_turn (arm_made p as') (arm_ends p as') (λ con n b. case_arm p (arm_for p as' con) n b ∷ []) cons a.next a.number
  lines : joined_bodies result join (arms_and p s a (map (arm_for p as') cons)).bodies
      ≡ joined_bodies result join a.bodies ++ in_turn (arm_made p as') (arm_ends p as') (λ con n b. arm_value p as' con s n b result join) cons a.next a.number
  next : (arms_and p s a (map (arm_for p as') cons)).next ≡ a.next + total (arm_made p as') cons
  number : (arms_and p s a (map (arm_for p as') cons)).number ≡ a.number + total (arm_ends p as') cons

all_told : (p : Source) (s : Scope ℕ) (as' : Arms) (a : PlainArms) (cons : List ℕ) (result join : ℕ) → AllTold p s as' a cons result join
all_told p s as' a [] result join = record { cases = sym (append-nil a.cases); lines = sym (append-nil (joined_bodies result join a.bodies)); next = omega arith; number = omega arith }
all_told p s as' a (con ∷ cons) result join =
    let o = arm_for p as' con in
    let one = one_more p s a o result join in
    let r = all_told p s as' (arm_and p s a o) cons result join in
    let made_is = branch_made_for p as' con in
    let ends_is = branch_ends_for p as' con in
    let next_is : (arm_and p s a o).next ≡ a.next + arm_made p as' con = one.next ∙ ap (λ n. a.next + n) made_is in
    let number_is : (arm_and p s a o).number ≡ a.number + arm_ends p as' con = one.number ∙ ap (λ n. a.number + n) ends_is in
    let heads = λ (n b : ℕ). in_turn (arm_made p as') (arm_ends p as') (λ con n b. case_arm p (arm_for p as' con) n b ∷ []) cons n b in
    let parts = λ (n b : ℕ). in_turn (arm_made p as') (arm_ends p as') (λ con n b. arm_value p as' con s n b result join) cons n b in
    record {
      cases = r.cases ∙ ap (λ l. l ++ heads (arm_and p s a o).next (arm_and p s a o).number) one.cases ∙ ap (λ n. (a.cases ++ case_arm p o a.next a.number ∷ []) ++ heads n (arm_and p s a o).number) next_is
          ∙ ap (λ b. (a.cases ++ case_arm p o a.next a.number ∷ []) ++ heads (a.next + arm_made p as' con) b) number_is
          ∙ append_assoc a.cases (case_arm p o a.next a.number ∷ []) (heads (a.next + arm_made p as' con) (a.number + arm_ends p as' con));
      lines = r.lines ∙ ap (λ l. l ++ parts (arm_and p s a o).next (arm_and p s a o).number) (one.lines ∙ ap (λ l. joined_bodies result join a.bodies ++ l) (sym (value_for p s as' con a.next a.number result join)))
          ∙ ap (λ n. (joined_bodies result join a.bodies ++ arm_value p as' con s a.next a.number result join) ++ parts n (arm_and p s a o).number) next_is
          ∙ ap (λ b. (joined_bodies result join a.bodies ++ arm_value p as' con s a.next a.number result join) ++ parts (a.next + arm_made p as' con) b) number_is
          ∙ append_assoc (joined_bodies result join a.bodies) (arm_value p as' con s a.next a.number result join) (parts (a.next + arm_made p as' con) (a.number + arm_ends p as' con));
      next = (let h = r.next in omega (arith, h, next_is));
      number = (let h = r.number in omega (arith, h, number_is));
    }

pub match_whole : (p : Source) (s : Scope ℕ) (next number l : ℕ) (e : Expression) (as' : Arms)
    → matched (value_piece p s next number e) (arms_piece p s ((next + made p e) + 1) ((number + ends p e) + 1) as') ≡ value_piece p s next number (Match e as' l)
match_whole p s next number l e as' =
    let result = next + made p e in
    let b0 = number + ends p e in
    let a = no_arms (result + 1) (b0 + 1) in
    let all = arms_piece p s (result + 1) (b0 + 1) as' in
    let V = value p e s next number in
    let xe = local_of p e s next in
    let join = suc b0 + total (arm_ends p as') (cons_of p as') in
    let r = all_told p s as' a (cons_of p as') result join in
    let e1 : result + 1 ≡ suc result = omega arith in
    let e2 : b0 + 1 ≡ suc b0 = omega arith in
    let next_is = r.next in
    let number_is = r.number in
    let join_is : all.number ≡ join = omega (arith, number_is) in
    let heads = λ (n b : ℕ). in_turn (arm_made p as') (arm_ends p as') (λ con n b. case_arm p (arm_for p as' con) n b ∷ []) (cons_of p as') n b in
    let parts = λ (n b : ℕ). in_turn (arm_made p as') (arm_ends p as') (λ con n b. arm_value p as' con s n b result join) (cons_of p as') n b in
    piece_are ((V ++ Close (block.Case xe all.cases) ∷ []) ++ joined_bodies result all.number all.bodies) (V ++ Close (block.Case xe (heads (suc result) (suc b0))) ∷ parts (suc result) (suc b0))
    all.next (next + suc (made p e + total (arm_made p as') (cons_of p as'))) all.number (number + suc (ends p e + total (arm_ends p as') (cons_of p as'))) result result
    (append_assoc V (Close (block.Case xe all.cases) ∷ []) (joined_bodies result all.number all.bodies)
    ∙ ap (λ x. V ++ Close (block.Case xe all.cases) ∷ joined_bodies result x all.bodies) join_is
    ∙ ap (λ x. V ++ Close (block.Case xe x) ∷ joined_bodies result join all.bodies) r.cases
    ∙ ap (λ x. V ++ Close (block.Case xe (heads (result + 1) (b0 + 1))) ∷ x) r.lines
    ∙ ap (λ x. V ++ Close (block.Case xe (heads x (b0 + 1))) ∷ parts x (b0 + 1)) e1
    ∙ ap (λ x. V ++ Close (block.Case xe (heads (suc result) x)) ∷ parts (suc result) x) e2)
    (omega (arith, next_is)) (omega (arith, number_is)) refl
