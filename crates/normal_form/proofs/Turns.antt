-- The arm of a constructor among arms that are written in turn.
use Rattle.std.proofs.Common.{◌≡◌, ℕ, zero, suc, ◌+◌, ◌-◌, ◌≤◌, ◌<◌, Bool, true, false, List, [], ◌∷◌, ◌++◌, length, Option, Some, None, refl, sym, ap, ◌∙◌, subst, arith, append_assoc}
use Rattle.std.specs.Prelude.{nat_lt, if◌then◌else◌, slice_get}
use Rattle.std.proofs.lemmas.Bool.Decides.{nat_tests}
use Rattle.camelot_values.specs.Value as value
use Rattle.camelot_values.specs.Value.{Value, Values}
use Rattle.camelot_values.specs.Kinds.{DataType, type_from, type_of, place_of}
use Rattle.camelot_values.specs.Outcome.{given}
use Rattle.camelot_values.specs.Runs.{Enter}
use Rattle.camelot_tree.specs.Tree.{Branch, Source}
use Rattle.camelot_typing.specs.Kinds.{numbered, numbers_from}
use Rattle.grail_blocks.specs.Blocks as block
use Rattle.grail_blocks.specs.Blocks.{CaseArm, Term}
use Rattle.grail_blocks.specs.Running.{Locals, put_all, cell_run, arm_at, arm_run, case_run}
use Rattle.normal_form.specs.Normal.{Line, Close, case_arm, total, in_turn}
use Rattle.normal_form.proofs.Lines.{here, behind, closes, IsClosed, closes_append, closed_append, jump_in}

-- ---- a type's constructors in order

numbered_at : {A : Type 0} (first : ℕ) (xs : List A) (i : ℕ) → i < length xs → slice_get (numbered first xs) i ≡ Some (first + i)
numbered_at first [] i h = absurd (omega (arith, h))
numbered_at first (x ∷ xs) zero h = ap Some (omega arith)
numbered_at first (x ∷ xs) (suc i) h = numbered_at (suc first) xs i (omega (arith, h)) ∙ ap Some (omega arith)

some_same : (a b : ℕ) → ◌≡◌ {A = Option ℕ} (Some a) (Some b) → a ≡ b
some_same a b e = cc

type_least : (number : ℕ) (types : List DataType) (c t : ℕ) → type_from number types c ≡ Some t → number ≤ t
type_least number [] c t e = absurd cc
type_least number (d ∷ ds) c t e = by_test (nat_lt c (length d.cons)) (λ k. type_least (suc number) ds (c - length d.cons) t k) e
  where
    by_test : (b : Bool) → (type_from (suc number) ds (c - length d.cons) ≡ Some t → suc number ≤ t)
        → (if b then Some number else type_from (suc number) ds (c - length d.cons)) ≡ Some t → number ≤ t
    by_test true rec e = let same : number ≡ t = some_same number t e in omega (arith, same)
    by_test false rec e = let less : suc number ≤ t = rec e in omega (arith, less)

-- a constructor's place among those of its type
pub record Placed (types : List DataType) (first t con : ℕ) : Type 0 where
  pub i : ℕ
  pub is : place_of types con ≡ Some i
  pub at : slice_get (numbers_from first types t) i ≡ Some (first + con)

placed_from : (number first c t : ℕ) (types : List DataType) → type_from number types c ≡ Some (number + t) → Placed types first t c
placed_from number first c t [] e = absurd cc
placed_from number first c zero (d ∷ ds) e = by_test (nat_lt c (length d.cons)) refl e
  where
    by_test : (b : Bool) → nat_lt c (length d.cons) ≡ b
        → (if b then Some number else type_from (suc number) ds (c - length d.cons)) ≡ Some (number + 0) → Placed (d ∷ ds) first zero c
    by_test true b e = let less : c < length d.cons = grind (arith, nat_tests, b) in
        record { i = c; is = ap (λ x. if x then Some c else place_of ds (c - length d.cons)) b; at = numbered_at first d.cons c less }
    by_test false b e = let less : suc number ≤ number + 0 = type_least (suc number) ds (c - length d.cons) (number + 0) e in absurd (omega (arith, less))
placed_from number first c (suc t) (d ∷ ds) e = by_test (nat_lt c (length d.cons)) refl (λ k. placed_from (suc number) (first + length d.cons) (c - length d.cons) t ds k) e
  where
    by_test : (b : Bool) → nat_lt c (length d.cons) ≡ b
        → (type_from (suc number) ds (c - length d.cons) ≡ Some (suc number + t) → Placed ds (first + length d.cons) t (c - length d.cons))
        → (if b then Some number else type_from (suc number) ds (c - length d.cons)) ≡ Some (number + suc t) → Placed (d ∷ ds) first (suc t) c
    by_test true b rec e = let same : number ≡ number + suc t = some_same number (number + suc t) e in absurd (omega (arith, same))
    by_test false b rec e =
        let more : length d.cons ≤ c = grind (arith, nat_tests, b) in
        let same : number + suc t ≡ suc number + t = omega arith in
        let back : (first + length d.cons) + (c - length d.cons) ≡ first + c = omega (arith, more) in
        let r = rec (e ∙ ap Some same) in
        record { i = r.i; is = ap (λ x. if x then Some c else place_of ds (c - length d.cons)) b ∙ r.is; at = r.at ∙ ap Some back }

pub placed : (types : List DataType) (c t : ℕ) → type_of types c ≡ Some t → Placed types 0 t c
placed types c t e = let same : t ≡ 0 + t = omega arith in placed_from 0 0 c t types (e ∙ ap Some same)

-- ---- parts in turn

-- the part of one constructor, with its first local and its first block, among those of all
pub record Turn (locals blocks : ℕ → ℕ) (part : ℕ → ℕ → ℕ → List Line) (arm : ℕ → ℕ → ℕ → CaseArm) (cons : List ℕ) (next first i con : ℕ) : Type 0 where
  pub n : ℕ
  pub b : ℕ
  pub front : List Line
  pub back : List Line
  pub arm_is : slice_get (in_turn locals blocks (λ c n b. arm c n b ∷ []) cons next first) i ≡ Some (arm con n b)
  pub lines_are : in_turn locals blocks part cons next first ≡ front ++ (part con n b ++ back)
  pub begins : b ≡ first + closes front
  pub finishes : first + total blocks cons ≡ (b + blocks con) + closes back
  pub front_closed : IsClosed front
  pub back_closed : IsClosed back
  pub above : next ≤ n
  pub room : n + locals con ≤ next + total locals cons

pub turn_at : (locals blocks : ℕ → ℕ) (part : ℕ → ℕ → ℕ → List Line) (arm : ℕ → ℕ → ℕ → CaseArm)
    → ((con next number : ℕ) → closes (part con next number) ≡ blocks con)
    → ((con next number : ℕ) → IsClosed (part con next number))
    → ((cs : List ℕ) (next first : ℕ) → closes (in_turn locals blocks part cs next first) ≡ total blocks cs)
    → ((cs : List ℕ) (next first : ℕ) → IsClosed (in_turn locals blocks part cs next first)) → (cons : List ℕ) (next first i con : ℕ)
    → slice_get cons i ≡ Some con → Turn locals blocks part arm cons next first i con
turn_at locals blocks part arm count closed all_count all_closed [] next first i con e = absurd cc
turn_at locals blocks part arm count closed all_count all_closed (c ∷ cs) next first zero con e =
    let same : c ≡ con = cc in
    let rest = all_count cs (next + locals c) (first + blocks c) in
    subst (Turn locals blocks part arm (c ∷ cs) next first zero) same (record {
      n = next;
      b = first;
      front = [];
      back = in_turn locals blocks part cs (next + locals c) (first + blocks c);
      arm_is = refl;
      lines_are = refl;
      begins = omega arith;
      finishes = omega (arith, rest);
      front_closed = tt;
      back_closed = all_closed cs (next + locals c) (first + blocks c);
      above = omega arith;
      room = omega arith;
    })
turn_at locals blocks part arm count closed all_count all_closed (c ∷ cs) next first (suc i) con e =
    let r = turn_at locals blocks part arm count closed all_count all_closed cs (next + locals c) (first + blocks c) i con e in
    let own = count c next first in
    let both = closes_append (part c next first) r.front in
    record {
      n = r.n;
      b = r.b;
      front = part c next first ++ r.front;
      back = r.back;
      arm_is = r.arm_is;
      lines_are = ap (λ l. part c next first ++ l) r.lines_are ∙ sym (append_assoc (part c next first) r.front (part con r.n r.b ++ r.back));
      begins = omega (arith, own, both, r.begins);
      finishes = omega (arith, r.finishes);
      front_closed = closed_append (part c next first) r.front (closed c next first) r.front_closed;
      back_closed = r.back_closed;
      above = omega (arith, r.above);
      room = omega (arith, r.room);
    }

-- ---- a case

target_is : (p : Source) (o : Option Branch) (n b : ℕ) → (case_arm p o n b).target ≡ b
target_is p None n b = refl
target_is p (Some a) n b = refl

-- A case of a constructor's value goes on in the lines of that constructor's arm.
pub case_runs : (p : Source) (types : List DataType) (code : Enter) (arms_of : ℕ → Option Branch) (locals blocks : ℕ → ℕ) (part : ℕ → ℕ → ℕ → List Line) (cons : List ℕ) (next b0 first i con x : ℕ) (vs : Values) (rest : List Line) (j w : ℕ) (env : Locals)
    → first ≡ suc b0 → place_of types con ≡ Some i → env x ≡ Some (value.Con con vs)
    → (turn : Turn locals blocks part (λ c n b. case_arm p (arms_of c) n b) cons next first i con)
    → here types code b0 (Close (block.Case x (in_turn locals blocks (λ c n b. case_arm p (arms_of c) n b ∷ []) cons next first)) ∷ (in_turn locals blocks part cons next first ++ rest)) j w env
    ≡ given (put_all env (case_arm p (arms_of con) turn.n turn.b).fields vs)
    (λ bound. cell_run (case_arm p (arms_of con) turn.n turn.b).cell bound (λ last. here types code turn.b (part con turn.n turn.b ++ (turn.back ++ rest)) j w last))
case_runs p types code arms_of locals blocks part cons next b0 first i con x vs rest j w env is place holds turn =
    let arms = in_turn locals blocks (λ c n b. case_arm p (arms_of c) n b ∷ []) cons next first in
    let lines = in_turn locals blocks part cons next first ++ rest in
    let later = λ (b j u : ℕ) (e : Locals). behind types code b0 (Close (block.Case x arms) ∷ lines) b j u e in
    let a = case_arm p (arms_of con) turn.n turn.b in
    ap (λ o. given o (λ v. case_run types later v arms j w env)) holds
    ∙ ap (λ o. arm_run later (arm_at arms o) vs j w env) place
    ∙ ap (λ o. arm_run later o vs j w env) turn.arm_is
    ∙ ap (λ next. given (put_all env a.fields vs) (λ bound. cell_run a.cell bound next)) (λ m last. jumps last m)
  where
    grouped : in_turn locals blocks part cons next first ++ rest ≡ turn.front ++ (part con turn.n turn.b ++ (turn.back ++ rest))
    grouped =
        ap (λ l. l ++ rest) turn.lines_are ∙ append_assoc turn.front (part con turn.n turn.b ++ turn.back) rest
        ∙ ap (λ l. turn.front ++ l) (append_assoc (part con turn.n turn.b) turn.back rest)

    jumps : (last : Locals)
        → behind types code b0 (Close (block.Case x (in_turn locals blocks (λ c n b. case_arm p (arms_of c) n b ∷ []) cons next first)) ∷ (in_turn locals blocks part cons next first ++ rest)) (case_arm p (arms_of con) turn.n turn.b).target j w last
        ≡ here types code turn.b (part con turn.n turn.b ++ (turn.back ++ rest)) j w last
    jumps last =
        let t = block.Case x (in_turn locals blocks (λ c n b. case_arm p (arms_of c) n b ∷ []) cons next first) in
        ap (λ b. behind types code b0 (Close t ∷ (in_turn locals blocks part cons next first ++ rest)) b j w last) (target_is p (arms_of con) turn.n turn.b)
        ∙ ap (λ l. behind types code b0 (Close t ∷ l) turn.b j w last) grouped
        ∙ jump_in types code b0 (Close t ∷ turn.front) (part con turn.n turn.b ++ (turn.back ++ rest)) turn.b j w last turn.front_closed (omega (arith, is, turn.begins))
