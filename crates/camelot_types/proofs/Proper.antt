-- The guesses in the steps of a program are kinds of declared types, or unknowns that have a place in the table.
use Rattle.std.proofs.Common.{◌≡◌, ℕ, Bool, true, false, List, [], ◌∷◌, ◌++◌, map, Option, Some, None, refl, subst}
use Rattle.std.specs.Prelude.{if◌then◌else◌}
use Rattle.std.specs.List.{AllByRecursion}
use Rattle.std.specs.Option.{option_map, option_map_or}
use Rattle.std.specs.Str.{bytes_eq}
use Rattle.camelot_values.specs.Names.{find}
use Rattle.camelot_values.specs.Kinds.{DataType, type_of}
use Rattle.camelot_values.specs.Typing.{operator_kind}
use Rattle.camelot_values.specs.Operator as operator
use Rattle.camelot_values.specs.Operator.{Operator}
use Rattle.camelot_values.specs.declared.kinds.Kind.{Kind}
use Rattle.camelot_values.specs.declared.kinds.Kind.TheVariants as kind
use Rattle.camelot_tree.specs.declared.tree.Name.{Name}
use Rattle.camelot_tree.specs.declared.tree.ArmCell.{ArmCell}
use Rattle.camelot_tree.specs.declared.tree.ArmCell.TheVariants as cell
use Rattle.camelot_tree.specs.Tree.{Expression, Num, Truth, Var, Prim, If, Let, Match, Build, Call, Expressions, NoExpressions, AndExpression, Arms, NoArms, AndArm}
use Rattle.camelot_typing.specs.Kinds.{Head, Globals, Scope, bind, or_else, constructor_number, fields_of, head_of, bound_names, bind_fields, bind_cell, arm_scope, arms_atom}
use Rattle.camelot_typing.specs.Typing.{IsDeclared}
use Rattle.camelot_types.specs.declared.guess.Guess.{Guess}
use Rattle.camelot_types.specs.declared.guess.Guess.TheVariants.{Known}
use Rattle.camelot_types.specs.Walk.{Step, Same, new_names, line_of, guess, same_steps, place_known, place_same, build_steps, call_steps, con_guess, head_steps, arm_numbers, missing_steps, cons_of_type, first_number, steps, all_steps, arms_steps}
use Rattle.camelot_types.proofs.Unifying.{IsWithin, StepWithin, AllWithin, within_both}
use Rattle.camelot_types.proofs.Numbers.{type_declared}

abbrev AreWithin : List DataType → ℕ → List Guess → Type 0
AreWithin types n gs = AllByRecursion (IsWithin types n) gs

abbrev AreDeclared : List DataType → List Kind → Type 0
AreDeclared types ks = AllByRecursion (IsDeclared types) ks

-- what is known of functions and constructors
pub record IsProper (n : ℕ) (g : Globals Guess) : Type 0 where
  pub fields : (con : ℕ) → AreDeclared g.types (fields_of g.types con)
  pub heads : AllByRecursion (λ h. AreWithin g.types n h.params × IsWithin g.types n h.result) g.heads

abbrev pub ScopeWithin : List DataType → ℕ → Scope Guess → Type 0
ScopeWithin types n s = AllByRecursion (λ b. IsWithin types n b.is) s

-- ---- scopes

found_within : (types : List DataType) (n : ℕ) (s : Scope Guess) (name : List ℕ) → ScopeWithin types n s
    → IsWithin types n (or_else (find s name) (Known kind.Int))
found_within types n [] name h = tt
found_within types n (b ∷ bs) name h = by_test (bytes_eq b.name name) (found_within types n bs name h.1)
  where
    by_test : (t : Bool) → IsWithin types n (or_else (find bs name) (Known kind.Int))
        → IsWithin types n (or_else (if t then Some b.is else find bs name) (Known kind.Int))
    by_test true k = h.0
    by_test false k = k

fields_within : (types : List DataType) (n : ℕ) (fs : List (Option Name)) (ks : List Kind) (s : Scope Guess) → AreDeclared types ks
    → ScopeWithin types n s → ScopeWithin types n (bind_fields Known fs ks s)
fields_within types n [] ks s d h = h
fields_within types n (None ∷ fs) [] s d h = h
fields_within types n (None ∷ fs) (k ∷ ks) s d h = fields_within types n fs ks s d.1 h
fields_within types n (Some m ∷ fs) [] s d h = h
fields_within types n (Some m ∷ fs) (k ∷ ks) s d h = fields_within types n fs ks (bind m.word (Known k) s) d.1 (d.0, h)

cell_within : (types : List DataType) (n : ℕ) (x : ArmCell) (s : Scope Guess) → ScopeWithin types n s → ScopeWithin types n (bind_cell Known x s)
cell_within types n cell.Plain s h = h
cell_within types n cell.Free s h = h
cell_within types n (cell.Keep m) s h = (tt, h)

arm_within : (n : ℕ) (g : Globals Guess) (c : Name) (fs : List (Option Name)) (x : ArmCell) (s : Scope Guess) → IsProper n g
    → ScopeWithin g.types n s → ScopeWithin g.types n (arm_scope Known g.types c fs x s)
arm_within n g c fs x s p h =
    let con : ℕ = or_else (constructor_number g.types c.word) 0 in
    cell_within g.types n x (bind_fields Known fs (fields_of g.types con) s) (fields_within g.types n fs (fields_of g.types con) s (p.fields con) h)

-- ---- guesses

operator_within : (types : List DataType) (n : ℕ) (op : Operator) → IsWithin types n (Known (operator_kind op))
operator_within types n operator.Add = tt
operator_within types n operator.Sub = tt
operator_within types n operator.Mul = tt
operator_within types n operator.Div = tt
operator_within types n operator.Mod = tt
operator_within types n operator.Eq = tt
operator_within types n operator.Ne = tt
operator_within types n operator.Lt = tt
operator_within types n operator.Le = tt
operator_within types n operator.Gt = tt
operator_within types n operator.Ge = tt

built_within : (types : List DataType) (n con : ℕ) → IsWithin types n (con_guess types con)
built_within types n con = by_type (type_of types con) refl
  where
    by_type : (o : Option ℕ) → type_of types con ≡ o → IsWithin types n (Known (or_else (option_map kind.Of o) kind.Int))
    by_type None e = tt
    by_type (Some t) e = type_declared types con t e

head_there : (types : List DataType) (n : ℕ) (hs : List (Head Guess)) (name : List ℕ) (h : Head Guess)
    → AllByRecursion (λ h. AreWithin types n h.params × IsWithin types n h.result) hs → head_of hs name ≡ Some h
    → AreWithin types n h.params × IsWithin types n h.result
head_there types n [] name h w e = cc
head_there types n (d ∷ ds) name h w e = by_test (bytes_eq d.name name) (head_there types n ds name h w.1) e
  where
    by_test : (t : Bool) → (head_of ds name ≡ Some h → AreWithin types n h.params × IsWithin types n h.result)
        → (if t then Some d else head_of ds name) ≡ Some h → AreWithin types n h.params × IsWithin types n h.result
    by_test true f q = let same : d ≡ h = cc in subst (λ z. AreWithin types n z.params × IsWithin types n z.result) same w.0
    by_test false f q = f q

result_within : (n : ℕ) (g : Globals Guess) (name : List ℕ) → IsProper n g
    → IsWithin g.types n (option_map_or (λ h. h.result) (head_of g.heads name) (Known kind.Int))
result_within n g name p = by_option (head_of g.heads name) refl
  where
    by_option : (o : Option (Head Guess)) → head_of g.heads name ≡ o → IsWithin g.types n (option_map_or (λ h. h.result) o (Known kind.Int))
    by_option None e = tt
    by_option (Some h) e = (head_there g.types n g.heads name h p.heads e).1

mutual
  pub guess_within : (n : ℕ) (g : Globals Guess) (s : Scope Guess) (e : Expression) → IsProper n g → ScopeWithin g.types n s → IsWithin g.types n (guess g s e)
  guess_within n g s (Num z l) p h = tt
  guess_within n g s (Truth b l) p h = tt
  guess_within n g s (Var m) p h = found_within g.types n s m.word h
  guess_within n g s (Prim op a b l) p h = operator_within g.types n op
  guess_within n g s (If c a b l) p h = guess_within n g s a p h
  guess_within n g s (Let m e b) p h = guess_within n g (bind m.word (guess g s e) s) b p (guess_within n g s e p h, h)
  guess_within n g s (Match e as' l) p h = arms_guess_within n g s as' p h
  guess_within n g s (Build c es place) p h = built_within g.types n (or_else (constructor_number g.types c.word) 0)
  guess_within n g s (Call f es) p h = result_within n g f.word p

  arms_guess_within : (n : ℕ) (g : Globals Guess) (s : Scope Guess) (as' : Arms) → IsProper n g → ScopeWithin g.types n s
      → IsWithin g.types n (arms_atom Known g s as')
  arms_guess_within n g s NoArms p h = tt
  arms_guess_within n g s (AndArm c fs x b as') p h = guess_within n g (arm_scope Known g.types c fs x s) b p (arm_within n g c fs x s p h)

-- ---- steps

names_within : (types : List DataType) (n : ℕ) (earlier : List (List ℕ)) (ns : List Name) → AllWithin types n (new_names earlier ns)
names_within types n earlier [] = tt
names_within types n earlier (m ∷ ns) = (tt, names_within types n (earlier ++ m.word ∷ []) ns)

same_within : (n : ℕ) (g : Globals Guess) (s : Scope Guess) (es : Expressions) (ts : List Guess) → IsProper n g → ScopeWithin g.types n s
    → AreWithin g.types n ts → AllWithin g.types n (same_steps g s es ts)
same_within n g s NoExpressions ts p h w = tt
same_within n g s (AndExpression e es) [] p h w = tt
same_within n g s (AndExpression e es) (t ∷ ts) p h w = ((guess_within n g s e p h, w.0), same_within n g s es ts p h w.1)

place_within_steps : (types : List DataType) (n : ℕ) (s : Scope Guess) (place : Option Name) → ScopeWithin types n s → AllWithin types n (place_same s place)
place_within_steps types n s None h = tt
place_within_steps types n s (Some d) h = ((found_within types n s d.word h, tt), tt)

known_within : (types : List DataType) (n : ℕ) (s : Scope Guess) (place : Option Name) → AllWithin types n (place_known s place)
known_within types n s None = tt
known_within types n s (Some d) = (tt, tt)

declared_within : (types : List DataType) (n : ℕ) (ks : List Kind) → AreDeclared types ks → AreWithin types n (map Known ks)
declared_within types n [] h = tt
declared_within types n (k ∷ ks) h = (h.0, declared_within types n ks h.1)

build_within : (n : ℕ) (g : Globals Guess) (s : Scope Guess) (c : Name) (es : Expressions) (place : Option Name) (o : Option ℕ) → IsProper n g
    → ScopeWithin g.types n s → AllWithin g.types n (build_steps g s c es place o)
build_within n g s c es place None p h = (tt, tt)
build_within n g s c es place (Some con) p h =
    let ts : List Guess = map Known (fields_of g.types con) in (
      tt,
      (
        tt,
        within_both g.types n (place_known s place) (same_steps g s es ts ++ place_same s place) (known_within g.types n s place)
            (within_both g.types n (same_steps g s es ts) (place_same s place) (same_within n g s es ts p h (declared_within g.types n (fields_of g.types con) (p.fields con))) (place_within_steps g.types n s place h)),
      ),
    )

call_within : (n : ℕ) (g : Globals Guess) (s : Scope Guess) (f : Name) (es : Expressions) (o : Option (Head Guess)) → head_of g.heads f.word ≡ o
    → IsProper n g → ScopeWithin g.types n s → AllWithin g.types n (call_steps g s f es o)
call_within n g s f es None e p h = (tt, tt)
call_within n g s f es (Some d) e p h = (tt, same_within n g s es d.params p h (head_there g.types n g.heads f.word d p.heads e).0)

heads_within : (types : List DataType) (n : ℕ) (earlier : List ℕ) (against : ℕ → Step) (c : Name) (fs : List (Option Name)) (x : ArmCell) (o : Option ℕ) → ((con : ℕ) → StepWithin types n (against con))
    → AllWithin types n (head_steps types earlier against c fs x o)
heads_within types n earlier against c fs x None a = (tt, tt)
heads_within types n earlier against c fs x (Some con) a = (tt, (a con, (tt, (tt, names_within types n [] (bound_names fs x)))))

missing_within : (types : List DataType) (n : ℕ) (there : List ℕ) (line : ℕ) (cons : List ℕ) → AllWithin types n (missing_steps types there line cons)
missing_within types n there line [] = tt
missing_within types n there line (con ∷ cons) = (tt, missing_within types n there line cons)

mutual
  pub expr_within : (n : ℕ) (g : Globals Guess) (s : Scope Guess) (e : Expression) → IsProper n g → ScopeWithin g.types n s → AllWithin g.types n (steps g s e)
  expr_within n g s (Num z l) p h = tt
  expr_within n g s (Truth b l) p h = tt
  expr_within n g s (Var m) p h = (tt, tt)
  expr_within n g s (Prim op a b l) p h =
      let tests : List Step = Same (guess g s a) (Known kind.Int) (line_of a) ∷ Same (guess g s b) (Known kind.Int) (line_of b) ∷ [] in
      within_both g.types n (steps g s a) (steps g s b ++ tests) (expr_within n g s a p h)
      (within_both g.types n (steps g s b) tests (expr_within n g s b p h) ((guess_within n g s a p h, tt), ((guess_within n g s b p h, tt), tt)))
  expr_within n g s (If c a b l) p h =
      let last : List Step = Same (guess g s a) (guess g s b) (line_of b) ∷ [] in
      let first : Step = Same (guess g s c) (Known kind.Flag) (line_of c) in
      within_both g.types n (steps g s c) (first ∷ (steps g s a ++ (steps g s b ++ last))) (expr_within n g s c p h) (
        (guess_within n g s c p h, tt),
        within_both g.types n (steps g s a) (steps g s b ++ last) (expr_within n g s a p h)
            (within_both g.types n (steps g s b) last (expr_within n g s b p h) ((guess_within n g s a p h, guess_within n g s b p h), tt)),
      )
  expr_within n g s (Let m e b) p h =
      let inner : Scope Guess = bind m.word (guess g s e) s in
      within_both g.types n (steps g s e) (steps g inner b) (expr_within n g s e p h) (expr_within n g inner b p (guess_within n g s e p h, h))
  expr_within n g s (Match e NoArms l) p h = within_both g.types n (steps g s e) _ (expr_within n g s e p h) (tt, tt)
  expr_within n g s (Match e (AndArm c fs x b as') l) p h =
      let first : ℕ = first_number g.types c in
      let inner : Scope Guess = arm_scope Known g.types c fs x s in
      let against : ℕ → Step = λ con. Same (con_guess g.types con) (guess g s e) c.line in
      let heads : List Step = head_steps g.types [] against c fs x (constructor_number g.types c.word) in
      let missing : List Step = missing_steps g.types (first ∷ arm_numbers g.types as') l (cons_of_type g.types first) in
      let rest : List Step = arms_steps g s (first ∷ []) first (guess g inner b) as' in
      let hi = arm_within n g c fs x s p h in
      within_both g.types n (steps g s e) (heads ++ (steps g inner b ++ (rest ++ missing))) (expr_within n g s e p h)
      (within_both g.types n heads (steps g inner b ++ (rest ++ missing))
      (heads_within g.types n [] against c fs x (constructor_number g.types c.word) (λ con. (built_within g.types n con, guess_within n g s e p h)))
      (within_both g.types n (steps g inner b) (rest ++ missing) (expr_within n g inner b p hi)
      (within_both g.types n rest missing (arms_steps_within n g s (first ∷ []) first (guess g inner b) as' p h (guess_within n g inner b p hi))
      (missing_within g.types n (first ∷ arm_numbers g.types as') l (cons_of_type g.types first)))))
  expr_within n g s (Build c es place) p h =
      within_both g.types n (all_steps g s es) (build_steps g s c es place (constructor_number g.types c.word)) (all_steps_within n g s es p h) (build_within n g s c es place (constructor_number g.types c.word) p h)
  expr_within n g s (Call f es) p h =
      within_both g.types n (all_steps g s es) (call_steps g s f es (head_of g.heads f.word)) (all_steps_within n g s es p h) (call_within n g s f es (head_of g.heads f.word) refl p h)

  all_steps_within : (n : ℕ) (g : Globals Guess) (s : Scope Guess) (es : Expressions) → IsProper n g → ScopeWithin g.types n s
      → AllWithin g.types n (all_steps g s es)
  all_steps_within n g s NoExpressions p h = tt
  all_steps_within n g s (AndExpression e es) p h = within_both g.types n (steps g s e) (all_steps g s es) (expr_within n g s e p h) (all_steps_within n g s es p h)

  arms_steps_within : (n : ℕ) (g : Globals Guess) (s : Scope Guess) (earlier : List ℕ) (first : ℕ) (body : Guess) (as' : Arms) → IsProper n g
      → ScopeWithin g.types n s → IsWithin g.types n body
      → AllWithin g.types n (arms_steps g s earlier first body as')
  arms_steps_within n g s earlier first body NoArms p h w = tt
  arms_steps_within n g s earlier first body (AndArm c fs x b as') p h w =
      let inner : Scope Guess = arm_scope Known g.types c fs x s in
      let against : ℕ → Step = λ con. Same (con_guess g.types first) (con_guess g.types con) c.line in
      let heads : List Step = head_steps g.types earlier against c fs x (constructor_number g.types c.word) in
      let more : List Step = arms_steps g s (earlier ++ first_number g.types c ∷ []) first body as' in
      let last : Step = Same body (guess g inner b) (line_of b) in
      let hi = arm_within n g c fs x s p h in
      within_both g.types n heads (steps g inner b ++ (last ∷ more))
      (heads_within g.types n earlier against c fs x (constructor_number g.types c.word) (λ con. (built_within g.types n first, built_within g.types n con)))
      (within_both g.types n (steps g inner b) (last ∷ more) (expr_within n g inner b p hi)
      ((w, guess_within n g inner b p hi), arms_steps_within n g s (earlier ++ first_number g.types c ∷ []) first body as' p h w))
