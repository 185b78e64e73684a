-- The lines of an expression mean what the expression means, before whatever follows.
use Rattle.std.proofs.Common.{◌≡◌, ℕ, zero, suc, ◌+◌, ◌≤◌, ◌<◌, Bool, true, false, List, [], ◌∷◌, ◌++◌, length, map, Option, Some, None, refl, sym, ap, ◌∙◌, subst, arith, append_assoc}
use Rattle.std.specs.Prelude.{◌&&◌, if◌then◌else◌, slice_get}
use Rattle.std.specs.Option.{option_map_or}
use Rattle.std.proofs.lemmas.Bool.Decides.{nat_tests}
use Rattle.camelot_values.specs.Value as value
use Rattle.camelot_values.specs.Value.{Value, Values, parts}
use Rattle.camelot_values.specs.Operator.{operate}
use Rattle.camelot_values.specs.Kinds as values
use Rattle.camelot_values.specs.Kinds.{DataType, constructor}
use Rattle.camelot_values.specs.Typing.{Fits, FitAll, ArgumentsFit}
use Rattle.camelot_values.specs.IntLaws.{passing_int, operate_sound}
use Rattle.camelot_values.specs.Bounds.{Yields}
use Rattle.camelot_values.specs.Outcome.{Outcome, first_then, at_once, known, given}
use Rattle.camelot_values.specs.OutcomeLaws.{at_once_then, then_then, then_same}
use Rattle.camelot_values.specs.Runs.{chosen, on_diamond, in_new_cell}
use Rattle.camelot_values.specs.declared.kinds.Kind.{Kind}
use Rattle.camelot_values.specs.declared.kinds.Kind.TheVariants as kind
use Rattle.camelot_tree.specs.declared.tree.Name.{Name}
use Rattle.camelot_tree.specs.declared.tree.ArmCell.{ArmCell}
use Rattle.camelot_tree.specs.Tree as tree
use Rattle.camelot_tree.specs.Tree.{Expression, Num, Truth, Var, Prim, If, Let, Match, Build, Call, Expressions, NoExpressions, AndExpression, Arms, NoArms, AndArm, Branch, Source}
use Rattle.camelot_tree.specs.Meaning as meaning
use Rattle.camelot_tree.specs.Meaning.{Environment, constructor_number, function_number, declared_constructors, put_fields, in_cell, is_that, on_constructor, eval, eval_all, arms_run}
use Rattle.camelot_tree.specs.Tokens.{expression_has_ints, expressions_have_ints, arms_have_ints}
use Rattle.camelot_typing.specs.Kinds as typed
use Rattle.camelot_typing.specs.Kinds.{Scope, bind, bind_fields, arm_scope, or_else, types_of, fields_of, is_inline, built_kind, numbers_of, numbered, constructor_kinds}
use Rattle.camelot_typing.specs.Typing.{known_kind, globals_of, HasKind, HaveKinds, ArmsHaveKind, HeadFits, PlaceFits, arms_with}
use Rattle.camelot_typing.specs.NumberLaws.{number_same, constructors_same, numbered_constructor, written_constructor, head_number, among_numbers}
use Rattle.camelot_typing.specs.TypingLaws.{both_hold, con_fits, placed_fits}
use Rattle.grail_blocks.specs.declared.blocks.Place.TheVariants as place
use Rattle.grail_blocks.specs.Blocks as block
use Rattle.grail_blocks.specs.Running.{Locals, put, put_all, cell_run, values_of, in_front, operands, built}
use Rattle.normal_form.specs.Normal.{Line, Close, new, con_of, fun_of, local, place_in, cons_of, arm_for, bound_count, in_arm, cell_in, case_arm, case_arms, total, in_turn, made, all_made, arm_made, ends, all_ends, arm_ends, local_of, locals_of, joining, value, values, arm_value}
use Rattle.normal_form.proofs.Lines.{here, behind, jump_in, ends_is_closed}
use Rattle.normal_form.proofs.Ends.{branch, closes_value, closes_arm, closed_arm, closes_turn, closed_turn, closes_joining, closed_joining}
use Rattle.normal_form.proofs.Stands.{Setting, put_other, put_own, Stands, stands_kept, stands_bind, known_name, Came, then_where, chosen_then, is_built, arm_agrees, arm_then}
use Rattle.normal_form.proofs.Turns.{placed, turn_at, case_runs}

-- what follows, in block m, goes on as `go` says, wherever local x has the value
abbrev pub GoesOn : (S : Setting) → Kind → (next top x m w : ℕ) → Locals → List Line → (ℕ → Value → Outcome Value) → Type 0
GoesOn S q next top x m w locals rest go = (j : ℕ) (v : Value) (last : Locals) → Came (types_of S.source) q next top x v locals last → here (types_of S.source) S.code m rest j w last ≡ go j v

-- the same for a list of values
pub record CameAll (types : List DataType) (ks : List Kind) (next : ℕ) (xs : List ℕ) (vs : List Value) (locals last : Locals) : Type 0 where
  pub fits : ArgumentsFit types ks vs
  pub kept : (y : ℕ) → y < next → last y ≡ locals y
  pub holds : values_of last xs ≡ Some vs

abbrev pub AllGoOn : (S : Setting) → List Kind → (next : ℕ) → List ℕ → (m w : ℕ) → Locals → List Line → (ℕ → List Value → Outcome Value) → Type 0
AllGoOn S ks next xs m w locals rest go = (j : ℕ) (vs : List Value) (last : Locals) → CameAll (types_of S.source) ks next xs vs locals last → here (types_of S.source) S.code m rest j w last ≡ go j vs

-- ---- lists of lines

pub two : (xs ys zs : List Line) → (xs ++ ys) ++ zs ≡ xs ++ (ys ++ zs)
two xs ys zs = append_assoc xs ys zs

three : (xs ys us zs : List Line) → (xs ++ (ys ++ us)) ++ zs ≡ xs ++ (ys ++ (us ++ zs))
three xs ys us zs = append_assoc xs (ys ++ us) zs ∙ ap (λ l. xs ++ l) (append_assoc ys us zs)

-- ---- a new local

-- what a step comes to is bound to a new local
pub new_runs : (S : Setting) (o : Outcome Value) (q : Kind) (next top x m k w : ℕ) (base locals : Locals) (rest : List Line) (go : ℕ → Value → Outcome Value) → Yields (Fits (types_of S.source) q) o → next ≤ x → x < top
    → ((y : ℕ) → y < next → locals y ≡ base y) → GoesOn S q next top x m w base rest go
    → first_then k o (λ left v. here (types_of S.source) S.code m rest left w (put locals x v)) ≡ first_then k o go
new_runs S o q next top x m k w base locals rest go fit least less kept goes =
    then_where (Fits (types_of S.source) q) k o (λ left v. here (types_of S.source) S.code m rest left w (put locals x v)) go fit
    (λ j v f. goes j v (put locals x v) (record {
      fits = f;
      kept = λ y h. put_other locals x v y (omega (arith, least, h)) ∙ kept y h;
      below = less;
      holds = put_own locals x v;
    }))

-- ---- branches that join

pub branch_runs : (S : Setting) (lines : List Line) (o : Outcome Value) (q : Kind) (n1 top1 x mid join result next top m w j : ℕ) (base locals : Locals) (follow rest : List Line) (go : ℕ → Value → Outcome Value) (number : ℕ)
    → ((rest' : List Line) (go' : ℕ → Value → Outcome Value) → GoesOn S q n1 top1 x mid w locals rest' go' → here (types_of S.source) S.code number (lines ++ rest') j w locals ≡ first_then j o go')
    → ((i : ℕ) (e : Locals) → behind (types_of S.source) S.code mid (Close (block.Goto join) ∷ follow) join i w e ≡ here (types_of S.source) S.code m rest i w e)
    → next ≤ result → result < n1 → result < top → ((y : ℕ) → y < next → locals y ≡ base y) → GoesOn S q next top result m w base rest go
    → here (types_of S.source) S.code number (joining lines x result join ++ follow) j w locals ≡ first_then j o go
branch_runs S lines o q n1 top1 x mid join result next top m w j base locals follow rest go number run jump least made_before less kept goes =
    ap (λ l. here (types_of S.source) S.code number l j w locals) (two lines (new result (block.Copy x) ∷ Close (block.Goto join) ∷ []) follow)
    ∙ run (new result (block.Copy x) ∷ Close (block.Goto join) ∷ follow) go
    (λ i v last c.
    ap (λ u. first_then i (known u) (λ left r. here (types_of S.source) S.code mid (Close (block.Goto join) ∷ follow) left w (put last result r))) c.holds
    ∙ at_once_then i v (λ left r. here (types_of S.source) S.code mid (Close (block.Goto join) ∷ follow) left w (put last result r))
    ∙ jump i (put last result v)
    ∙ goes i v (put last result v) (record {
      fits = c.fits;
      kept = λ y h. put_other last result v y (omega (arith, least, h)) ∙ c.kept y (omega (arith, least, made_before, h)) ∙ kept y h;
      below = less;
      holds = put_own last result v;
    }))

-- ---- builds

declared_inline : (p : Source) (con : ℕ) (c : tree.Constructor) → slice_get (declared_constructors p) con ≡ Some c → is_inline (types_of p) con ≡ c.inline
declared_inline p con c e =
    ap (λ l. option_map_or (λ d. d.inline) (slice_get l con) false) (constructors_same p p.types)
    ∙ ap (λ o. option_map_or (λ d. d.inline) o false) (mapped (declared_constructors p) con c e)
  where
    mapped : (cs : List tree.Constructor) (i : ℕ) (c : tree.Constructor) → slice_get cs i ≡ Some c
        → slice_get (map (constructor_kinds p) cs) i ≡ Some (constructor_kinds p c)
    mapped [] i c e = absurd cc
    mapped (d ∷ ds) zero c e = let same : d ≡ c = cc in ap (λ x. Some (constructor_kinds p x)) same
    mapped (d ∷ ds) (suc i) c e = mapped ds i c e

build_agrees : (p : Source) (s : Scope Kind) (l : Scope ℕ) (env : Environment) (last : Locals) (next con : ℕ) (c : Name) (place : Option Name) (vs : List Value) → Stands (types_of p) s l env last next
    → typed.constructor_number (types_of p) c.word ≡ Some con → PlaceFits s (is_inline (types_of p) con) place → built con vs (place_in p con place l) last ≡ meaning.placed p place env con vs
build_agrees p s l env last next con c None vs st e fit =
    let at = written_constructor p c con e in
    ap (λ b. built con vs (if b then place.Inline else place.New) last) (declared_inline p con at.item at.is)
    ∙ by_test at.item.inline
    ∙ sym (ap (λ o. in_cell o (value.Con con (parts vs))) at.is)
  where
    by_test : (b : Bool) → built con vs (if b then place.Inline else place.New) last ≡ (if b then at_once (value.Con con (parts vs)) else in_new_cell (value.Con con (parts vs)))
    by_test true = refl
    by_test false = refl
build_agrees p s l env last next con c (Some d) vs st e fit =
    let k = known_name (types_of p) s l env last next d.word kind.Dia st fit.1 in
    ap (λ o. given (last (or_else o 0)) (λ v. on_diamond v (at_once (value.Con con (parts vs))))) k.found
    ∙ ap (λ o. given o (λ v. on_diamond v (at_once (value.Con con (parts vs))))) (k.local_is ∙ sym k.env_is)

-- the constructors of a typed match are those of its type
pub cons_are : (p : Source) (t : ℕ) (c : Name) (fs : List (Option Name)) (x : ArmCell) (b : Expression) (as' : Arms) → HeadFits (types_of p) t c fs x
    → cons_of p (AndArm c fs x b as') ≡ numbers_of (types_of p) t
cons_are p t c fs x b as' head =
    let number : constructor_number p c ≡ Some head.con = sym (number_same p c) ∙ head.is in
    ap (λ o. numbers_of (types_of p) (or_else (values.type_of (types_of p) (or_else o 0)) 0)) number ∙ ap (λ o. numbers_of (types_of p) (or_else o 0)) head.owned

-- one of two arms, by the test on its constructor
pub number_found : (o : Option ℕ) (con : ℕ) → is_that o con ≡ true → o ≡ Some con
number_found None con e = absurd cc
number_found (Some m) con e = let equal : m ≡ con = grind (arith, nat_tests, e) in ap Some equal

-- ---- expressions

-- An arm in a value's position, where its body runs so.
abbrev pub ArmRuns : (S : Setting) → Arms
    → (s : Scope Kind) (l : Scope ℕ) (env : Environment) (locals : Locals) (n number result join follow_end con : ℕ) → Values → (j w : ℕ) → List Line
    → (ℕ → Value → Outcome Value) → Type 0
ArmRuns S as' s l env locals n number result join m con vs j w follow go =
    given (put_all locals (case_arm S.source (arm_for S.source as' con) n number).fields vs)
    (λ bound. cell_run (case_arm S.source (arm_for S.source as' con) n number).cell bound (λ last. here (types_of S.source) S.code number (arm_value S.source as' con l n number result join ++ follow) j w last))
    ≡ first_then j (arms_run S.source S.enter as' con vs j w false env) go

-- the jump at the end of an arm
abbrev pub ArmJumps : (S : Setting) → Arms → (number join m con w : ℕ) → (follow rest : List Line) → Type 0
ArmJumps S as' number join m con w follow rest = (mid : ℕ) → suc mid ≡ number + arm_ends S.source as' con → (i : ℕ) (e : Locals)
    → behind (types_of S.source) S.code mid (Close (block.Goto join) ∷ follow) join i w e ≡ here (types_of S.source) S.code m rest i w e

arm_split : (S : Setting) (c : Name) (fs : List (Option Name)) (x : ArmCell) (b : Expression) (as' : Arms) (s : Scope Kind) (l : Scope ℕ) (env : Environment) (locals : Locals) (n number result join m con : ℕ) (vs : Values) (j w : ℕ)
    (follow rest : List Line) (go : ℕ → Value → Outcome Value)
    → (is_that (constructor_number S.source c) con ≡ true
    → ((mid : ℕ) → suc mid ≡ number + suc (ends S.source b) → (i : ℕ) (e : Locals) → behind (types_of S.source) S.code mid (Close (block.Goto join) ∷ follow) join i w e ≡ here (types_of S.source) S.code m rest i w e)
    → given (put_all locals (numbered n fs) vs)
    (λ last. cell_run (cell_in (is_inline (types_of S.source) (con_of S.source c)) x (n + length fs)) last
    (λ last. here (types_of S.source) S.code number (branch S.source b (in_arm fs x n l) (n + bound_count fs x) number result join ++ follow) j w last))
    ≡ first_then j (given (put_fields env fs vs) (λ bound. meaning.cell_run x bound (λ last. eval S.source S.enter b j w false last))) go)
    → (is_that (constructor_number S.source c) con ≡ false → ArmJumps S as' number join m con w follow rest → ArmRuns S as' s l env locals n number result join m con vs j w follow go)
    → ArmJumps S (AndArm c fs x b as') number join m con w follow rest → ArmRuns S (AndArm c fs x b as') s l env locals n number result join m con vs j w follow go
arm_split S c fs x b as' s l env locals n number result join m con vs j w follow rest go first later jumps = by_test (is_that (constructor_number S.source c) con) first later jumps
  where
    by_test : (t : Bool)
        → (t ≡ true
        → ((mid : ℕ) → suc mid ≡ number + suc (ends S.source b) → (i : ℕ) (e : Locals) → behind (types_of S.source) S.code mid (Close (block.Goto join) ∷ follow) join i w e ≡ here (types_of S.source) S.code m rest i w e)
        → given (put_all locals (numbered n fs) vs)
        (λ last. cell_run (cell_in (is_inline (types_of S.source) (con_of S.source c)) x (n + length fs)) last
        (λ last. here (types_of S.source) S.code number (branch S.source b (in_arm fs x n l) (n + bound_count fs x) number result join ++ follow) j w last))
        ≡ first_then j (given (put_fields env fs vs) (λ bound. meaning.cell_run x bound (λ last. eval S.source S.enter b j w false last))) go)
        → (t ≡ false → ArmJumps S as' number join m con w follow rest → ArmRuns S as' s l env locals n number result join m con vs j w follow go)
        → ((mid : ℕ) → suc mid ≡ number + (if t then suc (ends S.source b) else arm_ends S.source as' con) → (i : ℕ) (e : Locals)
        → behind (types_of S.source) S.code mid (Close (block.Goto join) ∷ follow) join i w e ≡ here (types_of S.source) S.code m rest i w e)
        → given (put_all locals (case_arm S.source (if t then Some (record { con = c; fields = fs; cell = x; body = b }) else arm_for S.source as' con) n number).fields vs)
        (λ bound. cell_run (case_arm S.source (if t then Some (record { con = c; fields = fs; cell = x; body = b }) else arm_for S.source as' con) n number).cell bound
        (λ last. here (types_of S.source) S.code number ((if t then branch S.source b (in_arm fs x n l) (n + bound_count fs x) number result join else arm_value S.source as' con l n number result join) ++ follow) j w last))
        ≡ first_then j (if t then given (put_fields env fs vs) (λ bound. meaning.cell_run x bound (λ last. eval S.source S.enter b j w false last)) else arms_run S.source S.enter as' con vs j w false env) go
    by_test true first later jumps = first refl jumps
    by_test false first later jumps = later refl jumps

pub fewer : (t : Bool) (n : ℕ) → t ≡ false → 1 ≤ (if t then 1 else 0) + n → 1 ≤ n
fewer true n e h = absurd cc
fewer false n e h = omega (arith, h)

mutual
  pub value_runs : (S : Setting) (e : Expression) (s : Scope Kind) (l : Scope ℕ) (env : Environment) (locals : Locals) (next number m : ℕ) (q : Kind) (k w : ℕ) (rest : List Line) (go : ℕ → Value → Outcome Value) → m ≡ number + ends S.source e
      → Stands (types_of S.source) s l env locals next → expression_has_ints e ≡ true → HasKind (globals_of S.source S.sigs) s e q → GoesOn S q next (next + made S.source e) (local_of S.source e l next) m w locals rest go
      → here (types_of S.source) S.code number (value S.source e l next number ++ rest) k w locals ≡ first_then k (eval S.source S.enter e k w false env) go
  value_runs S (Var n) s l env locals next number m q k w rest go is st ints has goes =
      let r = known_name (types_of S.source) s l env locals next n.word q st has in
      let same : number ≡ m = omega (arith, is) in
      let x_is : local l n ≡ r.x = ap (λ o. or_else o 0) r.found in
      ap (λ b. here (types_of S.source) S.code b rest k w locals) same
      ∙ goes k r.v locals (record { fits = r.fits; kept = λ y h. refl; below = (let h = r.below in omega (arith, x_is, h)); holds = ap locals x_is ∙ r.local_is })
      ∙ sym (ap (λ o. first_then k (known o) go) r.env_is ∙ at_once_then k r.v go)
  value_runs S (Num z l0) s l env locals next number m q k w rest go is st ints has goes =
      let same : number ≡ m = omega (arith, is) in
      ap (λ b. here (types_of S.source) S.code b (new next (block.Lit z) ∷ rest) k w locals) same
      ∙ new_runs S (at_once (value.Int z)) q next (next + 1) next m k w locals locals rest go (has, passing_int z ints) (omega arith) (omega arith) (λ y h. refl) goes
  value_runs S (Truth t l0) s l env locals next number m q k w rest go is st ints has goes =
      let same : number ≡ m = omega (arith, is) in
      ap (λ b. here (types_of S.source) S.code b (new next (block.Flag t) ∷ rest) k w locals) same
      ∙ new_runs S (at_once (value.Flag t)) q next (next + 1) next m k w locals locals rest go has (omega arith) (omega arith) (λ y h. refl) goes
  value_runs S (Prim op a b l0) s l env locals next number m q k w rest go is st ints has goes =
      let p = S.source in
      let types = types_of p in
      let nb = next + made p a in
      let mb = number + ends p a in
      let xa = local_of p a l next in
      let xb = local_of p b l nb in
      let x = next + (made p a + made p b) in
      let both = both_hold (expression_has_ints a) (expression_has_ints b) ints in
      ap (λ lines. here types S.code number lines k w locals) (three (value p a l next number) (value p b l nb mb) (new x (block.Prim op xa xb) ∷ []) rest)
      ∙ value_runs S a s l env locals next number mb kind.Int k w (value p b l nb mb ++ (new x (block.Prim op xa xb) ∷ rest))
      (λ j u. first_then j (eval p S.enter b j w false env) (λ i v. first_then i (operate op u v) go)) refl st both.0 has.0
      (λ j u mid c.
      value_runs S b s l env mid nb mb m kind.Int j w (new x (block.Prim op xa xb) ∷ rest) (λ i v. first_then i (operate op u v) go) (omega (arith, is))
      (stands_kept types s l env locals mid next nb st c.kept (omega arith)) both.1 has.1
      (λ i v last d.
      ap (λ o. first_then i (operands op o (last xb)) (λ left r. here types S.code m rest left w (put last x r))) (d.kept xa c.below ∙ c.holds)
      ∙ ap (λ o. first_then i (operands op (Some u) o) (λ left r. here types S.code m rest left w (put last x r))) d.holds
      ∙ new_runs S (operate op u v) q next (next + made p (Prim op a b l0)) x m i w locals last rest go
      (subst (λ r. Yields (Fits types r) (operate op u v)) (sym has.2) (operate_sound types op u v c.fits d.fits)) (omega arith) (omega arith)
      (λ y h. d.kept y (omega (arith, h)) ∙ c.kept y h) goes))
      ∙ sym (then_then k (eval p S.enter a k w false env) (λ left u. first_then left (eval p S.enter b left w false env) (λ last v. operate op u v)) go
      ∙ then_same k (eval p S.enter a k w false env) (λ j u. first_then j (first_then j (eval p S.enter b j w false env) (λ last v. operate op u v)) go)
      (λ j u. first_then j (eval p S.enter b j w false env) (λ i v. first_then i (operate op u v) go))
      (λ j u. then_then j (eval p S.enter b j w false env) (λ last v. operate op u v) go))
  value_runs S (Build c es place) s l env locals next number m q k w rest go is st ints has goes =
      let p = S.source in
      let types = types_of p in
      let xs = locals_of p es l next in
      let x = next + all_made p es in
      let con_is : constructor_number p c ≡ Some has.0 = sym (number_same p c) ∙ has.1 in
      let step = λ (left : ℕ) (vs : List Value). given (constructor_number p c) (λ con. meaning.placed p place env con vs) in
      ap (λ lines. here types S.code number lines k w locals) (two (values p es l next number) (new x (block.Make (con_of p c) xs (place_in p (con_of p c) place l)) ∷ []) rest)
      ∙ values_run S es s l env locals next number m (fields_of types has.0) k w (new x (block.Make (con_of p c) xs (place_in p (con_of p c) place l)) ∷ rest)
      (λ j vs. first_then j (step j vs) go) is st ints has.3
      (λ j vs last c0.
      ap (λ o. first_then j (given o (λ us. built (con_of p c) us (place_in p (con_of p c) place l) last)) (λ left r. here types S.code m rest left w (put last x r))) c0.holds
      ∙ ap (λ o. first_then j (built (or_else o 0) vs (place_in p (or_else o 0) place l) last) (λ left r. here types S.code m rest left w (put last x r))) con_is
      ∙ ap (λ o. first_then j o (λ left r. here types S.code m rest left w (put last x r)))
      (build_agrees p s l env last next has.0 c place vs (stands_kept types s l env locals last next next st c0.kept (omega arith)) has.1 has.4)
      ∙ new_runs S (meaning.placed p place env has.0 vs) q next (next + made p (Build c es place)) x m j w locals last rest go
      (placed_fits p s q place (is_inline types has.0) env has.0 vs st.scoped (written_constructor p c has.0 has.1) has.4 (con_fits types q has.0 vs (numbered_constructor p c has.0 has.1) has.2 c0.fits))
      (omega arith) (omega arith) c0.kept goes
      ∙ sym (ap (λ o. first_then j (given o (λ con. meaning.placed p place env con vs)) go) con_is))
      ∙ sym (then_then k (eval_all p S.enter es k w env) step go)
  value_runs S (Call f es) s l env locals next number m q k w rest go is st ints has goes =
      let p = S.source in
      let types = types_of p in
      let xs = locals_of p es l next in
      let x = next + all_made p es in
      let n = head_number p (globals_of p S.sigs) p.funs S.sigs f.word has.0 S.typed has.1 in
      let step = λ (left : ℕ) (vs : List Value). given (function_number p f) (λ func. S.enter left w false func vs) in
      ap (λ lines. here types S.code number lines k w locals) (two (values p es l next number) (new x (block.Call (fun_of p f) xs) ∷ []) rest)
      ∙ values_run S es s l env locals next number m has.0.params k w (new x (block.Call (fun_of p f) xs) ∷ rest) (λ j vs. first_then j (step j vs) go) is st ints has.3
      (λ j vs last c0.
      ap (λ o. first_then j (given o (λ us. S.code j w false (fun_of p f) us)) (λ left r. here types S.code m rest left w (put last x r))) c0.holds
      ∙ ap (λ o. first_then j (S.code j w false (or_else o 0) vs) (λ left r. here types S.code m rest left w (put last x r))) n.is
      ∙ ap (λ o. first_then j o (λ left r. here types S.code m rest left w (put last x r))) (S.agree j w false n.number vs has.0 n.at c0.fits)
      ∙ new_runs S (S.enter j w false n.number vs) q next (next + made p (Call f es)) x m j w locals last rest go
      (subst (λ r. Yields (Fits types r) (S.enter j w false n.number vs)) has.2 (S.fits j w false n.number vs has.0 n.at c0.fits)) (omega arith) (omega arith) c0.kept goes
      ∙ sym (ap (λ o. first_then j (given o (λ func. S.enter j w false func vs)) go) n.is))
      ∙ sym (then_then k (eval_all p S.enter es k w env) step go)
  value_runs S (Let n a b) s l env locals next number m q k w rest go is st ints has goes =
      let p = S.source in
      let types = types_of p in
      let nb = next + made p a in
      let mb = number + ends p a in
      let xa = local_of p a l next in
      let both = both_hold (expression_has_ints a) (expression_has_ints b) ints in
      ap (λ lines. here types S.code number lines k w locals) (two (value p a l next number) (value p b (bind n.word xa l) nb mb) rest)
      ∙ value_runs S a s l env locals next number mb has.0 k w (value p b (bind n.word xa l) nb mb ++ rest) (λ j v. first_then j (eval p S.enter b j w false (meaning.put env n.word v)) go) refl st both.0 has.1
      (λ j u mid c.
      value_runs S b (bind n.word has.0 s) (bind n.word xa l) (meaning.put env n.word u) mid nb mb m q j w rest go (omega (arith, is))
      (stands_bind types s l env mid nb n.word has.0 u xa (stands_kept types s l env locals mid next nb st c.kept (omega arith)) c.fits c.holds c.below) both.1 has.2
      (λ i v last d. goes i v last (record {
        fits = d.fits;
        kept = λ y h. d.kept y (omega (arith, h)) ∙ c.kept y h;
        below = (let h = d.below in omega (arith, h));
        holds = d.holds;
      })))
      ∙ sym (then_then k (eval p S.enter a k w false env) (λ left v. eval p S.enter b left w false (meaning.put env n.word v)) go)
  value_runs S (If c a b l0) s l env locals next number m q k w rest go is st ints has goes =
      let p = S.source in
      let types = types_of p in
      let result = next + made p c in
      let b0 = number + ends p c in
      let yes = suc b0 in
      let no = yes + suc (ends p a) in
      let join = no + suc (ends p b) in
      let n1 = suc result in
      let n2 = n1 + made p a in
      let xc = local_of p c l next in
      let first = branch p a l n1 yes result join in
      let second = branch p b l n2 no result join in
      let both = both_hold (expression_has_ints c) (expression_has_ints a && expression_has_ints b) ints in
      let branches = both_hold (expression_has_ints a) (expression_has_ints b) both.1 in
      let top = next + made p (If c a b l0) in
      ap (λ lines. here types S.code number lines k w locals) (two (value p c l next number) (Close (block.If xc yes no) ∷ (first ++ second)) rest)
      ∙ value_runs S c s l env locals next number b0 kind.Flag k w (Close (block.If xc yes no) ∷ ((first ++ second) ++ rest))
      (λ j v. first_then j (chosen v (eval p S.enter a j w false env) (eval p S.enter b j w false env)) go) refl st both.0 has.0
      (λ j v mid c0.
      let later = λ (b : ℕ). behind types S.code b0 (Close (block.If xc yes no) ∷ ((first ++ second) ++ rest)) b j w mid in
      let stands_a = stands_kept types s l env locals mid next n1 st c0.kept (omega arith) in
      let stands_b = stands_kept types s l env locals mid next n2 st c0.kept (omega arith) in
      ap (λ o. given o (λ u. chosen u (later yes) (later no))) c0.holds
      ∙ ap (λ o. chosen v o (later no))
      (jump_in types S.code b0 (Close (block.If xc yes no) ∷ []) ((first ++ second) ++ rest) yes j w mid tt (omega arith)
      ∙ ap (λ lines. here types S.code yes lines j w mid) (two first second rest)
      ∙ branch_runs S (value p a l n1 yes) (eval p S.enter a j w false env) q n1 (n1 + made p a) (local_of p a l n1) (yes + ends p a) join result next top m w j locals mid (second ++ rest) rest go yes
      (λ rest' go' g. value_runs S a s l env mid n1 yes (yes + ends p a) q j w rest' go' refl stands_a branches.0 has.1 g)
      (λ i e. jump_in types S.code (yes + ends p a) (Close (block.Goto join) ∷ second) rest join i w e
      (ends_is_closed second (closed_joining (value p b l n2 no) (local_of p b l n2) result join))
      (let count = closes_joining (value p b l n2 no) (local_of p b l n2) result join (ends p b) (closes_value p b l n2 no) in omega (arith, count))
      ∙ (let same : join ≡ m = omega (arith, is) in ap (λ n. here types S.code n rest i w e) same))
      (omega arith) (omega arith) (omega arith) c0.kept goes)
      ∙ ap (λ o. chosen v (first_then j (eval p S.enter a j w false env) go) o)
      (ap (λ lines. behind types S.code b0 (Close (block.If xc yes no) ∷ lines) no j w mid) (two first second rest)
      ∙ jump_in types S.code b0 (Close (block.If xc yes no) ∷ first) (second ++ rest) no j w mid
      (ends_is_closed first (closed_joining (value p a l n1 yes) (local_of p a l n1) result join))
      (let count = closes_joining (value p a l n1 yes) (local_of p a l n1) result join (ends p a) (closes_value p a l n1 yes) in omega (arith, count))
      ∙ branch_runs S (value p b l n2 no) (eval p S.enter b j w false env) q n2 (n2 + made p b) (local_of p b l n2) (no + ends p b) join result next top m w j locals mid rest rest go no
      (λ rest' go' g. value_runs S b s l env mid n2 no (no + ends p b) q j w rest' go' refl stands_b branches.1 has.2 g)
      (λ i e. jump_in types S.code (no + ends p b) (Close (block.Goto join) ∷ []) rest join i w e tt (omega arith)
      ∙ (let same : join ≡ m = omega (arith, is) in ap (λ n. here types S.code n rest i w e) same))
      (omega arith) (omega arith) (omega arith) c0.kept goes)
      ∙ chosen_then v j (eval p S.enter a j w false env) (eval p S.enter b j w false env) go)
      ∙ sym (then_then k (eval p S.enter c k w false env) (λ left v. chosen v (eval p S.enter a left w false env) (eval p S.enter b left w false env)) go)
  value_runs S (Match e NoArms l0) s l env locals next number m q k w rest go is st ints has goes = absurd has
  value_runs S (Match e (AndArm c fs x b as') l0) s l env locals next number m q k w rest go is st ints has goes =
      let p = S.source in
      let types = types_of p in
      let arms = AndArm c fs x b as' in
      let result = next + made p e in
      let b0 = number + ends p e in
      let first = suc b0 in
      let join = first + total (arm_ends p arms) (cons_of p arms) in
      let xe = local_of p e l next in
      let part = λ (con n i : ℕ). arm_value p arms con l n i result join in
      let all = in_turn (arm_made p arms) (arm_ends p arms) part (cons_of p arms) (suc result) first in
      let end = block.Case xe (case_arms p arms (arm_made p arms) (arm_ends p arms) (suc result) first) in
      let both = both_hold (expression_has_ints e) (arms_have_ints arms) ints in
      ap (λ lines. here types S.code number lines k w locals) (two (value p e l next number) (Close end ∷ all) rest)
      ∙ value_runs S e s l env locals next number b0 (kind.Of has.0) k w (Close end ∷ (all ++ rest)) (λ j v. first_then j (on_constructor v (λ con vs. arms_run p S.enter arms con vs j w false env)) go) refl st both.0 has.1
      (λ j v mid c0.
      let bt = is_built types has.0 v c0.fits in
      let pl = placed types bt.con has.0 bt.owned in
      let at : slice_get (cons_of p arms) pl.i ≡ Some bt.con = ap (λ cs. slice_get cs pl.i) (cons_are p has.0 c fs x b as' has.3.0) ∙ pl.at ∙ ap Some (omega arith) in
      let turn = turn_at (arm_made p arms) (arm_ends p arms) part (λ con n i. case_arm p (arm_for p arms con) n i) (λ con n i. closes_arm p arms con l n i result join) (λ con n i. closed_arm p arms con l n i result join)
      (closes_turn (arm_made p arms) (arm_ends p arms) part (λ con n i. closes_arm p arms con l n i result join)) (closed_turn (arm_made p arms) (arm_ends p arms) part (λ con n i. closed_arm p arms con l n i result join))
      (cons_of p arms) (suc result) first pl.i bt.con at in
      let one : arms_with types bt.con arms ≡ 1 = among_numbers (λ con. arms_with types con arms ≡ 1) types bt.con has.0 bt.owned has.2 in
      let above = turn.above in
      let finishes = turn.finishes in
      case_runs p types S.code (arm_for p arms) (arm_made p arms) (arm_ends p arms) part (cons_of p arms) (suc result) b0 first pl.i bt.con xe bt.vs rest j w mid refl pl.is (c0.holds ∙ ap Some bt.is) turn
      ∙ arm_runs S (AndArm c fs x b as') s l env mid turn.n turn.b result join m next (next + made p (Match e arms l0)) bt.con has.0 bt.def bt.vs q j w locals (turn.back ++ rest) rest go
      (stands_kept types s l env locals mid next turn.n st c0.kept (omega (arith, above))) both.1 has.3 (omega (arith, one)) bt.declared bt.fits (omega arith) (omega (arith, above)) (omega arith) c0.kept goes
      (λ n h i u. jump_in types S.code n (Close (block.Goto join) ∷ turn.back) rest join i w u turn.back_closed (omega (arith, h, finishes))
      ∙ (let same : join ≡ m = omega (arith, is) in ap (λ n. here types S.code n rest i w u) same))
      ∙ ap (λ u. first_then j (on_constructor u (λ con vs. arms_run p S.enter arms con vs j w false env)) go) (sym bt.is))
      ∙ sym (then_then k (eval p S.enter e k w false env) (λ left v. on_constructor v (λ con vs. arms_run p S.enter arms con vs left w false env)) go)

  pub values_run : (S : Setting) (es : Expressions) (s : Scope Kind) (l : Scope ℕ) (env : Environment) (locals : Locals) (next number m : ℕ) (ks : List Kind) (k w : ℕ) (rest : List Line) (go : ℕ → List Value → Outcome Value) → m ≡ number + all_ends S.source es
      → Stands (types_of S.source) s l env locals next → expressions_have_ints es ≡ true → HaveKinds (globals_of S.source S.sigs) s es ks → AllGoOn S ks next (locals_of S.source es l next) m w locals rest go
      → here (types_of S.source) S.code number (values S.source es l next number ++ rest) k w locals ≡ first_then k (eval_all S.source S.enter es k w env) go
  values_run S NoExpressions s l env locals next number m [] k w rest go is st ints kinds goes =
      let same : number ≡ m = omega (arith, is) in
      ap (λ b. here (types_of S.source) S.code b rest k w locals) same ∙ goes k [] locals (record { fits = tt; kept = λ y h. refl; holds = refl }) ∙ sym (at_once_then k [] go)
  values_run S NoExpressions s l env locals next number m (q ∷ ks) k w rest go is st ints kinds goes = absurd kinds
  values_run S (AndExpression e es) s l env locals next number m [] k w rest go is st ints kinds goes = absurd kinds
  values_run S (AndExpression e es) s l env locals next number m (q ∷ ks) k w rest go is st ints kinds goes =
      let p = S.source in
      let types = types_of p in
      let nb = next + made p e in
      let mb = number + ends p e in
      let x = local_of p e l next in
      let both = both_hold (expression_has_ints e) (expressions_have_ints es) ints in
      ap (λ lines. here types S.code number lines k w locals) (two (value p e l next number) (values p es l nb mb) rest)
      ∙ value_runs S e s l env locals next number mb q k w (values p es l nb mb ++ rest) (λ j v. first_then j (eval_all p S.enter es j w env) (λ i vs. go i (v ∷ vs))) refl st both.0 kinds.0
      (λ j v mid c.
      values_run S es s l env mid nb mb m ks j w rest (λ i vs. go i (v ∷ vs)) (omega (arith, is)) (stands_kept types s l env locals mid next nb st c.kept (omega arith)) both.1 kinds.1
      (λ i vs last d. goes i (v ∷ vs) last (record {
        fits = (c.fits, d.fits);
        kept = λ y h. d.kept y (omega (arith, h)) ∙ c.kept y h;
        holds = ap (λ o. in_front o (values_of last (locals_of p es l nb))) (d.kept x c.below ∙ c.holds) ∙ ap (in_front (Some v)) d.holds;
      })))
      ∙ sym (then_then k (eval p S.enter e k w false env) (λ left v. first_then left (eval_all p S.enter es left w env) (λ last vs. at_once (v ∷ vs))) go
      ∙ then_same k (eval p S.enter e k w false env) (λ j v. first_then j (first_then j (eval_all p S.enter es j w env) (λ last vs. at_once (v ∷ vs))) go)
      (λ j v. first_then j (eval_all p S.enter es j w env) (λ i vs. go i (v ∷ vs)))
      (λ j v. then_then j (eval_all p S.enter es j w env) (λ last vs. at_once (v ∷ vs)) go
      ∙ then_same j (eval_all p S.enter es j w env) (λ i vs. first_then i (at_once (v ∷ vs)) go) (λ i vs. go i (v ∷ vs)) (λ i vs. at_once_then i (v ∷ vs) go)))

  pub arm_runs : (S : Setting) (as' : Arms) (s : Scope Kind) (l : Scope ℕ) (env : Environment) (locals : Locals) (n number result join m next top con t : ℕ) (def : values.Constructor) (vs : Values) (q : Kind) (j w : ℕ) (base : Locals)
      (follow rest : List Line) (go : ℕ → Value → Outcome Value) → Stands (types_of S.source) s l env locals n → arms_have_ints as' ≡ true
      → ArmsHaveKind (globals_of S.source S.sigs) s t as' q → 1 ≤ arms_with (types_of S.source) con as'
      → constructor (types_of S.source) con ≡ Some def → FitAll (types_of S.source) def.fields vs → next ≤ result → result < n → result < top → ((y : ℕ) → y < next → locals y ≡ base y)
      → GoesOn S q next top result m w base rest go → ArmJumps S as' number join m con w follow rest → ArmRuns S as' s l env locals n number result join m con vs j w follow go
  arm_runs S NoArms s l env locals n number result join m next top con t def vs q j w base follow rest go st ints kinds some is fit least made_before less kept goes jumps = absurd (omega (arith, some))
  arm_runs S (AndArm c fs x b as') s l env locals n number result join m next top con t def vs q j w base follow rest go st ints kinds some is fit least made_before less kept goes jumps =
      let p = S.source in
      let types = types_of p in
      let n1 = n + bound_count fs x in
      let inner = arm_scope known_kind types c fs x s in
      let both = both_hold (expression_has_ints b) (arms_have_ints as') ints in
      arm_split S c fs x b as' s l env locals n number result join m con vs j w follow rest go
      (λ test jump.
      arm_agrees types s l c fs x (is_inline types (con_of p c)) t con def vs env locals n (λ last. here types S.code number (branch p b (in_arm fs x n l) n1 number result join ++ follow) j w last)
      (λ bound. first_then j (eval p S.enter b j w false bound) go) kinds.0 (number_same p c ∙ number_found (constructor_number p c) con test) is fit st
      (λ bound last stands own.
      branch_runs S (value p b (in_arm fs x n l) n1 number) (eval p S.enter b j w false bound) q n1 (n1 + made p b) (local_of p b (in_arm fs x n l) n1) (number + ends p b) join result next top m w j base last follow rest go number
      (λ rest' go' g. value_runs S b inner (in_arm fs x n l) bound last n1 number (number + ends p b) q j w rest' go' refl stands both.0 kinds.1 g)
      (jump (number + ends p b) (omega arith)) least (omega (arith, made_before)) less (λ y h. own y (omega (arith, h, least, made_before)) ∙ kept y h) goes)
      ∙ arm_then (put_fields env fs vs) x j (λ bound. eval p S.enter b j w false bound) go)
      (λ test jump.
      let typed_test : is_that (typed.constructor_number types c.word) con ≡ false = ap (λ o. is_that o con) (number_same p c) ∙ test in
      arm_runs S as' s l env locals n number result join m next top con t def vs q j w base follow rest go st both.1 kinds.2
      (fewer (is_that (typed.constructor_number types c.word) con) (arms_with types con as') typed_test some) is fit least made_before less kept goes jump)
      jumps
