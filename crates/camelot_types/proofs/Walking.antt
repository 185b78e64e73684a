-- The walk of an expression, as the code goes, is the run of its steps.
use Rattle.std.proofs.Common.{◌≡◌, ℕ, suc, Bool, true, false, List, [], ◌∷◌, ◌++◌, map, length, Option, Some, None, refl, sym, ap, ◌∙◌, append_assoc, append-nil}
use Rattle.std.specs.Prelude.{◌==◌, ◌||◌, not, is_some, if◌then◌else◌}
use Rattle.std.specs.List.{list_any}
use Rattle.camelot_values.specs.Names.{stands, find}
use Rattle.camelot_values.specs.Kinds.{DataType, constructor_name}
use Rattle.camelot_values.specs.Typing.{operator_kind}
use Rattle.camelot_values.specs.Operator.{Operator}
use Rattle.camelot_values.specs.declared.kinds.Kind.TheVariants as kind
use Rattle.camelot_tree.specs.declared.tree.Name.{Name}
use Rattle.camelot_tree.specs.declared.tree.ArmCell.{ArmCell}
use Rattle.camelot_tree.specs.Tree.{Expression, Num, Truth, Var, Prim, If, Let, Match, Build, Call, Expressions, NoExpressions, AndExpression, Arms, NoArms, AndArm}
use Rattle.camelot_tree.specs.Spine.{spine_of, leaf_of}
use Rattle.camelot_typing.specs.Kinds.{Head, Globals, Scope, bind, or_else, constructor_number, fields_of, is_inline, head_of, bound_names, arm_scope, atoms_of, all_atoms, arms_atoms}
use Rattle.camelot_types.specs.declared.fault.TypeFault.{TypeFault}
use Rattle.camelot_types.specs.declared.fault.TypeFault.TheVariants.{UnknownName, Duplicate, MissingArm}
use Rattle.camelot_types.specs.declared.guess.Guess.{Guess}
use Rattle.camelot_types.specs.declared.guess.Guess.TheVariants.{Known}
use Rattle.camelot_types.specs.Walk.{Step, Must, Same, new_names, line_of, argument_count, guess, same_steps, place_known, place_same, build_steps, call_steps, con_guess, head_steps, arm_numbers, missing_steps, cons_of_type, steps, all_steps, arms_steps}
use Rattle.camelot_tree.specs.Cells.{has_cell}
use Rattle.camelot_types.proofs.Unifying.{append_run}
use Rattle.camelot_types.specs.Solving.{Walked, Goes, Stops, and_then, made_same, step_done, run, name_found, place_found, all_same, place_made, arity_checked, place_checked, con_found, built, called, names_checked, repeat_checked, headed, missing_checked, Work, Found, FoundAll, FoundArms, with_table, lines_of, noted, walk, walk_all, walk_arms, rest_of, unwound}

-- ---- runs

-- what a table gives, where the run doesn't stop
abbrev pub giving : {A : Type 0} → (List Guess → A) → Walked (List Guess) → Walked A
giving answer (Goes t) = Goes (answer t)
giving answer (Stops fault) = Stops fault

abbrev pub answered : Work → List Guess → Guess → List Guess → Found
answered w as' a t = record { work = record { table = t; atoms = w.atoms ++ as' }; guess = a }

abbrev pub ended : Walked (List Guess) → Work → List Guess → Guess → Walked Found
ended o w as' a = giving (answered w as' a) o

-- steps behind others that are done
pub along : {A : Type 0} (o : Walked (List Guess)) (K : List Guess → Walked A) (R : List Guess → Walked (List Guess)) (G : List Guess → A)
    → ((t : List Guess) → K t ≡ giving G (R t)) → and_then o K ≡ giving G (and_then o R)
along (Goes t) K R G h = h t
along (Stops fault) K R G h = refl

-- what is the run of some steps, and what stands behind it
pub part : {A B : Type 0} (types : List DataType) (table : List Guess) (xs ys : List Step) (o : Walked A) (F : List Guess → A) (K : A → Walked B) (G : List Guess → B)
    → o ≡ giving F (run types table xs) → ((t : List Guess) → K (F t) ≡ giving G (run types t ys)) → and_then o K ≡ giving G (run types table (xs ++ ys))
part types table xs ys o F K G e h = ap (λ q. and_then q K) e ∙ by_run (run types table xs) ∙ ap (giving G) (sym (append_run types table xs ys))
  where
    by_run : (q : Walked (List Guess)) → and_then (giving F q) K ≡ giving G (and_then q (λ t. run types t ys))
    by_run (Goes t) = h t
    by_run (Stops fault) = refl

-- the same with nothing behind it
last_part : {A B : Type 0} (q : Walked (List Guess)) (o : Walked A) (F : List Guess → A) (K : A → Walked B) (G : List Guess → B)
    → o ≡ giving F q → ((t : List Guess) → K (F t) ≡ Goes (G t)) → and_then o K ≡ giving G q
last_part q o F K G e h = ap (λ r. and_then r K) e ∙ by_run q
  where
    by_run : (r : Walked (List Guess)) → and_then (giving F r) K ≡ giving G r
    by_run (Goes t) = h t
    by_run (Stops fault) = refl

-- a part that makes only a table
table_part : {B : Type 0} (types : List DataType) (table : List Guess) (xs ys : List Step) (o : Walked (List Guess)) (K : List Guess → Walked B) (G : List Guess → B)
    → o ≡ run types table xs → ((t : List Guess) → K t ≡ giving G (run types t ys)) → and_then o K ≡ giving G (run types table (xs ++ ys))
table_part types table xs ys o K G e h = part types table xs ys o (λ t. t) K G (e ∙ by_run (run types table xs)) h
  where
    by_run : (q : Walked (List Guess)) → q ≡ giving (λ t. t) q
    by_run (Goes t) = refl
    by_run (Stops fault) = refl

last_table : {B : Type 0} (q o : Walked (List Guess)) (K : List Guess → Walked B) (G : List Guess → B) → o ≡ q
    → ((t : List Guess) → K t ≡ Goes (G t)) → and_then o K ≡ giving G q
last_table q o K G e h = ap (λ r. and_then r K) e ∙ by_run q
  where
    by_run : (r : Walked (List Guess)) → and_then r K ≡ giving G r
    by_run (Goes t) = h t
    by_run (Stops fault) = refl

-- ---- tests

test_is : (types : List DataType) (table : List Guess) (b : Bool) (fault : TypeFault) (K : Unit {0} → Walked (List Guess)) (R : List Guess → Walked (List Guess))
    → K tt ≡ R table → and_then (if b then Goes tt else Stops fault) K ≡ and_then (step_done types table (Must b fault)) R
test_is types table true fault K R h = h
test_is types table false fault K R h = refl

against_is : (types : List DataType) (table : List Guess) (b : Bool) (fault : TypeFault) (K : Unit {0} → Walked (List Guess)) (R : List Guess → Walked (List Guess))
    → K tt ≡ R table → and_then (if b then Stops fault else Goes tt) K ≡ and_then (step_done types table (Must (not b) fault)) R
against_is types table true fault K R h = refl
against_is types table false fault K R h = h

then_same : {A B : Type 0} (o : Walked A) (K R : A → Walked B) → ((a : A) → K a ≡ R a) → and_then o K ≡ and_then o R
then_same (Goes a) K R h = h a
then_same (Stops fault) K R h = refl

pub names_is : (types : List DataType) (table : List Guess) (earlier : List (List ℕ)) (ns : List Name)
    → and_then (names_checked earlier ns) (λ z. Goes table) ≡ run types table (new_names earlier ns)
unfolding names_checked
names_is types table earlier [] = refl
names_is types table earlier (n ∷ ns) = by_test (stands earlier n.word) (names_is types table (earlier ++ n.word ∷ []) ns)
  where
    by_test : (b : Bool) → and_then (names_checked (earlier ++ n.word ∷ []) ns) (λ z. Goes table) ≡ run types table (new_names (earlier ++ n.word ∷ []) ns)
        → and_then (if b then Stops (Duplicate n.word n.line) else names_checked (earlier ++ n.word ∷ []) ns) (λ z. Goes table)
        ≡ run types table (Must (not b) (Duplicate n.word n.line) ∷ new_names (earlier ++ n.word ∷ []) ns)
    by_test true h = refl
    by_test false h = h

missing_is : {A : Type 0} (types : List DataType) (table : List Guess) (there : List ℕ) (line : ℕ) (cons : List ℕ) (K : Unit {0} → Walked A) (G : List Guess → A)
    → K tt ≡ Goes (G table) → and_then (missing_checked types there line cons) K ≡ giving G (run types table (missing_steps types there line cons))
unfolding missing_checked
missing_is types table there line [] K G h = h
missing_is types table there line (con ∷ cons) K G h = by_test (list_any (λ n. n == con) there) (missing_is types table there line cons K G h)
  where
    fault : TypeFault
    fault = MissingArm (constructor_name types con) line

    by_test : (b : Bool) → and_then (missing_checked types there line cons) K ≡ giving G (run types table (missing_steps types there line cons))
        → and_then (if b then missing_checked types there line cons else Stops fault) K ≡ giving G (run types table (Must b fault ∷ missing_steps types there line cons))
    by_test true e = e
    by_test false e = refl

-- ---- arguments

-- the guesses of arguments
abbrev pub guesses_of : Globals Guess → Scope Guess → Expressions → List Guess
guesses_of g s NoExpressions = []
guesses_of g s (AndExpression e es) = guess g s e ∷ guesses_of g s es

guesses_count : (g : Globals Guess) (s : Scope Guess) (es : Expressions) → length (guesses_of g s es) ≡ argument_count es
guesses_count g s NoExpressions = refl
guesses_count g s (AndExpression e es) = ap suc (guesses_count g s es)

all_same_is : (types : List DataType) (table : List Guess) (g : Globals Guess) (s : Scope Guess) (es : Expressions) (ts : List Guess)
    → all_same types table (lines_of es) (guesses_of g s es) ts ≡ run types table (same_steps g s es ts)
unfolding all_same
all_same_is types table g s NoExpressions ts = refl
all_same_is types table g s (AndExpression e es) [] = refl
all_same_is types table g s (AndExpression e es) (t ∷ ts) = then_same (made_same types table (guess g s e) t (line_of e)) _ _ (λ next. all_same_is types next g s es ts)

-- ---- builds and calls, behind their arguments

placed_is : (types : List DataType) (table : List Guess) (s : Scope Guess) (place : Option Name) (o : Walked (List Guess)) (ys : List Step)
    → o ≡ run types table ys
    → and_then (place_found s place) (λ d. and_then o (λ next. place_made types next place d)) ≡ run types table (place_known s place ++ (ys ++ place_same s place))
unfolding place_found name_found place_made
placed_is types table s None o ys h = ap (λ q. and_then q Goes) h ∙ sym (append_run types table ys [])
placed_is types table s (Some d) o ys h = by_option (find s d.word)
  where
    by_option : (a : Option Guess) → and_then (and_then (name_found a d) (λ b. Goes (Some b))) (λ b. and_then o (λ next. place_made types next (Some d) b))
        ≡ run types table (Must (is_some a) (UnknownName d.word d.line) ∷ (ys ++ Same (or_else a (Known kind.Int)) (Known kind.Dia) d.line ∷ []))
    by_option None = refl
    by_option (Some a) =
        ap (λ q. and_then q (λ next. made_same types next a (Known kind.Dia) d.line)) h ∙ then_same (run types table ys) _ _ (λ t. goes_on (made_same types t a (Known kind.Dia) d.line))
        ∙ sym (append_run types table ys (Same a (Known kind.Dia) d.line ∷ []))
      where
        goes_on : (o : Walked (List Guess)) → o ≡ and_then o Goes
        goes_on (Goes t) = refl
        goes_on (Stops fault) = refl

built_is : (g : Globals Guess) (table : List Guess) (s : Scope Guess) (c : Name) (es : Expressions) (place : Option Name) (con : ℕ)
    → built g.types s table c con (lines_of es) (guesses_of g s es) place ≡ run g.types table (build_steps g s c es place (Some con))
unfolding built arity_checked place_checked
built_is g table s c es place con =
    let ts : List Guess = map Known (fields_of g.types con) in
    let rest : Walked (List Guess) =
    and_then (place_checked c (is_inline g.types con) (is_some place)) (λ v. and_then (place_found s place) (λ d. and_then (all_same g.types table (lines_of es) (guesses_of g s es) ts) (λ next. place_made g.types next place d))) in
    ap (λ n. and_then (arity_checked c n (length (fields_of g.types con))) (λ u. rest)) (guesses_count g s es)
    ∙ test_is g.types table (argument_count es == length (fields_of g.types con)) _ (λ u. rest) _
    (test_is g.types table (not (is_inline g.types con) || not (is_some place)) _ _ _
    (placed_is g.types table s place (all_same g.types table (lines_of es) (guesses_of g s es) ts) (same_steps g s es ts) (all_same_is g.types table g s es ts)))

called_is : (g : Globals Guess) (table : List Guess) (s : Scope Guess) (f : Name) (es : Expressions) (h : Option (Head Guess))
    → called g.types table f (lines_of es) (guesses_of g s es) h ≡ run g.types table (call_steps g s f es h)
unfolding called arity_checked
called_is g table s f es None = refl
called_is g table s f es (Some h) =
    let rest : Walked (List Guess) = all_same g.types table (lines_of es) (guesses_of g s es) h.params in
    ap (λ n. and_then (arity_checked f n (length h.params)) (λ u. rest)) (guesses_count g s es)
    ∙ test_is g.types table (argument_count es == length h.params) _ (λ u. rest) _ (all_same_is g.types table g s es h.params)

-- ---- what stands before an arm's body

headed_is : (types : List DataType) (table : List Guess) (earlier : List ℕ) (left right : ℕ → Guess) (c : Name) (con : ℕ) (fs : List (Option Name)) (x : ArmCell)
    → headed types table earlier (left con) (right con) c con fs x ≡ run types table (head_steps types earlier (λ n. Same (left n) (right n) c.line) c fs x (Some con))
unfolding headed arity_checked place_checked repeat_checked
headed_is types table earlier left right c con fs x =
    against_is types table (list_any (λ n. n == con) earlier) _ _ _
    (then_same (made_same types table (left con) (right con) c.line) _ _ (λ t.
    test_is types t (length fs == length (fields_of types con)) _ _ _
    (test_is types t (not (is_inline types con) || not (has_cell x)) _ _ _
    (names_is types t [] (bound_names fs x)))))

-- ---- expressions

abbrev pub WalkIs : Globals Guess → Scope Guess → Expression → Type 0
WalkIs g s e = (w : Work) → walk g s w e ≡ ended (run g.types w.table (steps g s e)) w (atoms_of Known g s e) (guess g s e)

-- what is known of the arguments
abbrev pub all_answered : Work → List Guess → List ℕ → List Guess → List Guess → FoundAll
all_answered w as' ls gs t = record { work = record { table = t; atoms = w.atoms ++ as' }; lines = ls; guesses = gs }

abbrev pub WalkAllIs : Globals Guess → Scope Guess → Expressions → Type 0
WalkAllIs g s es = (w : Work) → walk_all g s w es ≡ giving (all_answered w (all_atoms Known g s es) (lines_of es) (guesses_of g s es)) (run g.types w.table (all_steps g s es))

abbrev pub arms_answered : Work → List Guess → List ℕ → List Guess → FoundArms
arms_answered w as' ns t = record { work = record { table = t; atoms = w.atoms ++ as' }; numbers = ns }

abbrev pub WalkArmsIs : Globals Guess → Scope Guess → Arms → Type 0
WalkArmsIs g s as' = (w : Work) (numbers : List ℕ) (first : ℕ) (body : Guess)
    → walk_arms g s w numbers first body as' ≡ giving (arms_answered w (arms_atoms Known g s as') (numbers ++ arm_numbers g.types as')) (run g.types w.table (arms_steps g s numbers first body as'))

-- an expression, and what stands behind it
pub behind : {A : Type 0} (g : Globals Guess) (s : Scope Guess) (w : Work) (e : Expression) (ys : List Step) (K : Found → Walked A) (G : List Guess → A)
    → WalkIs g s e → ((t : List Guess) → K (answered w (atoms_of Known g s e) (guess g s e) t) ≡ giving G (run g.types t ys))
    → and_then (walk g s w e) K ≡ giving G (run g.types w.table (steps g s e ++ ys))
behind g s w e ys K G h k = part g.types w.table (steps g s e) ys (walk g s w e) (answered w (atoms_of Known g s e) (guess g s e)) K G (h w) k

-- all atoms, those of the parts and its own
three_parts : {A : Type 0} (w x y z : List A) → ((w ++ x) ++ y) ++ z ≡ w ++ (x ++ (y ++ z))
three_parts w x y z = append_assoc (w ++ x) y z ∙ append_assoc w x (y ++ z)

four_parts : {A : Type 0} (w x y z u : List A) → (((w ++ x) ++ y) ++ z) ++ u ≡ w ++ (x ++ (y ++ (z ++ u)))
four_parts w x y z u = three_parts (w ++ x) y z u ∙ append_assoc w x (y ++ (z ++ u))

abbrev found : List Guess → Guess → List Guess → Walked Found
found t a atoms = Goes (record { work = record { table = t; atoms = atoms }; guess = a })

var_is : (g : Globals Guess) (s : Scope Guess) (n : Name) → WalkIs g s (Var n)
unfolding walk noted name_found
var_is g s n w = by_option (find s n.word)
  where
    by_option : (o : Option Guess) → and_then (name_found o n) (λ a. Goes (noted w a))
        ≡ ended (run g.types w.table (Must (is_some o) (UnknownName n.word n.line) ∷ [])) w (or_else o (Known kind.Int) ∷ []) (or_else o (Known kind.Int))
    by_option None = refl
    by_option (Some a) = refl

prim_is : (g : Globals Guess) (s : Scope Guess) (op : Operator) (a b : Expression) (l : ℕ) → WalkIs g s a → WalkIs g s b → WalkIs g s (Prim op a b l)
unfolding walk noted
prim_is g s op a b l ha hb w =
    behind g s w a _ _ _ ha (λ t. behind g s _ b _ _ _ hb (λ u.
    along (made_same g.types u (guess g s a) (Known kind.Int) (line_of a)) _ _ _ (λ v.
    along (made_same g.types v (guess g s b) (Known kind.Int) (line_of b)) _ _ _ (λ x.
    ap (found x (Known (operator_kind op))) (three_parts w.atoms (atoms_of Known g s a) (atoms_of Known g s b) (Known (operator_kind op) ∷ []))))))

if_is : (g : Globals Guess) (s : Scope Guess) (c a b : Expression) (l : ℕ) → WalkIs g s c → WalkIs g s a → WalkIs g s b → WalkIs g s (If c a b l)
unfolding walk noted
if_is g s c a b l hc ha hb w =
    behind g s w c _ _ _ hc (λ t.
    along (made_same g.types t (guess g s c) (Known kind.Flag) (line_of c)) _ _ _ (λ u.
    behind g s _ a _ _ _ ha (λ v. behind g s _ b _ _ _ hb (λ x.
    along (made_same g.types x (guess g s a) (guess g s b) (line_of b)) _ _ _ (λ y.
    ap (found y (guess g s a)) (four_parts w.atoms (atoms_of Known g s c) (atoms_of Known g s a) (atoms_of Known g s b) (guess g s a ∷ [])))))))

let_is : (g : Globals Guess) (s : Scope Guess) (n : Name) (e b : Expression) → WalkIs g s e → WalkIs g (bind n.word (guess g s e) s) b → WalkIs g s (Let n e b)
unfolding walk noted
let_is g s n e b he hb w =
    let inner : Scope Guess = bind n.word (guess g s e) s in
    let k : Guess = guess g inner b in
    behind g s w e _ _ _ he (λ t.
    last_part (run g.types t (steps g inner b)) _ _ _ _ (hb (answered w (atoms_of Known g s e) (guess g s e) t).work) (λ u.
    ap (found u k) (three_parts w.atoms (atoms_of Known g s e) (atoms_of Known g inner b) (k ∷ []))))

build_is : (g : Globals Guess) (s : Scope Guess) (c : Name) (es : Expressions) (place : Option Name) → WalkAllIs g s es → WalkIs g s (Build c es place)
unfolding walk noted con_found
build_is g s c es place h w = by_option (constructor_number g.types c.word)
  where
    by_option : (o : Option ℕ) → and_then (walk_all g s w es) (λ f. and_then (con_found g.types c o) (λ con. and_then (built g.types s f.work.table c con f.lines f.guesses place) (λ table.
        Goes (noted (with_table f.work table) (con_guess g.types con)))))
        ≡ ended (run g.types w.table (all_steps g s es ++ build_steps g s c es place o)) w (all_atoms Known g s es ++ con_guess g.types (or_else o 0) ∷ []) (con_guess g.types (or_else o 0))
    by_option None = part g.types w.table (all_steps g s es) _ _ _ _ _ (h w) (λ t. refl)
    by_option (Some con) =
        part g.types w.table (all_steps g s es) _ _ _ _ _ (h w) (λ t.
        last_table (run g.types t (build_steps g s c es place (Some con))) _ _ _ (built_is g t s c es place con) (λ u.
        ap (found u (con_guess g.types con)) (append_assoc w.atoms (all_atoms Known g s es) (con_guess g.types con ∷ []))))

call_is : (g : Globals Guess) (s : Scope Guess) (f : Name) (es : Expressions) → WalkAllIs g s es → WalkIs g s (Call f es)
unfolding walk noted
call_is g s f es h w =
    let d : Option (Head Guess) = head_of g.heads f.word in
    let k : Guess = guess g s (Call f es) in
    part g.types w.table (all_steps g s es) _ _ _ _ _ (h w) (λ t.
    last_table (run g.types t (call_steps g s f es d)) _ _ _ (called_is g t s f es d) (λ u.
    ap (found u k) (append_assoc w.atoms (all_atoms Known g s es) (k ∷ []))))

-- ---- arms

arm_is : (g : Globals Guess) (s inner : Scope Guess) (w : Work) (numbers : List ℕ) (first : ℕ) (body : Guess) (c : Name) (fs : List (Option Name)) (x : ArmCell) (b : Expression) (as' : Arms) (o : Option ℕ)
    → WalkIs g inner b → WalkArmsIs g s as'
    → and_then (con_found g.types c o) (λ con. and_then (headed g.types w.table numbers (con_guess g.types first) (con_guess g.types con) c con fs x) (λ table.
    and_then (walk g inner (with_table w table) b) (λ f. and_then (made_same g.types f.work.table body f.guess (line_of b)) (λ next.
    walk_arms g s (with_table f.work next) (numbers ++ con ∷ []) first body as'))))
    ≡ giving (arms_answered w (atoms_of Known g inner b ++ arms_atoms Known g s as') (numbers ++ or_else o 0 ∷ arm_numbers g.types as'))
    (run g.types w.table (head_steps g.types numbers (λ con. Same (con_guess g.types first) (con_guess g.types con) c.line) c fs x o
    ++ (steps g inner b ++ Same body (guess g inner b) (line_of b) ∷ arms_steps g s (numbers ++ or_else o 0 ∷ []) first body as')))
unfolding con_found
arm_is g s inner w numbers first body c fs x b as' None hb ha = refl
arm_is g s inner w numbers first body c fs x b as' (Some con) hb ha =
    let heads : List Step = head_steps g.types numbers (λ n. Same (con_guess g.types first) (con_guess g.types n) c.line) c fs x (Some con) in
    let done : List Guess → Work = λ u. (answered w (atoms_of Known g inner b) body u).work in
    table_part g.types w.table heads _ _ _ _ (headed_is g.types w.table numbers (λ n. con_guess g.types first) (con_guess g.types) c con fs x) (λ t.
    behind g inner (with_table w t) b _ _ _ hb (λ u.
    along (made_same g.types u body (guess g inner b) (line_of b)) _ _ _ (λ v.
    let q : Walked (List Guess) = run g.types v (arms_steps g s (numbers ++ con ∷ []) first body as') in
    ha (done v) (numbers ++ con ∷ []) first body
    ∙ ap (λ l. giving (λ y. record { work = record { table = y; atoms = l }; numbers = (numbers ++ con ∷ []) ++ arm_numbers g.types as' }) q) (append_assoc w.atoms (atoms_of Known g inner b) (arms_atoms Known g s as'))
    ∙ ap (λ ns. giving (arms_answered w (atoms_of Known g inner b ++ arms_atoms Known g s as') ns) q) (append_assoc numbers (con ∷ []) (arm_numbers g.types as')))))

match_is : (g : Globals Guess) (s inner : Scope Guess) (w : Work) (e : Expression) (c : Name) (fs : List (Option Name)) (x : ArmCell) (b : Expression) (as' : Arms) (l : ℕ) (o : Option ℕ)
    → WalkIs g s e → WalkIs g inner b → WalkArmsIs g s as'
    → and_then (walk g s w e) (λ f. and_then (con_found g.types c o) (λ con. and_then (headed g.types f.work.table [] (con_guess g.types con) f.guess c con fs x) (λ table.
    and_then (walk g inner (with_table f.work table) b) (λ body. and_then (walk_arms g s body.work (con ∷ []) con body.guess as') (λ arms.
    and_then (missing_checked g.types arms.numbers l (cons_of_type g.types con)) (λ u. Goes (noted arms.work body.guess)))))))
    ≡ ended (run g.types w.table (steps g s e ++ (head_steps g.types [] (λ con. Same (con_guess g.types con) (guess g s e) c.line) c fs x o
    ++ (steps g inner b ++ (arms_steps g s (or_else o 0 ∷ []) (or_else o 0) (guess g inner b) as'
    ++ missing_steps g.types (or_else o 0 ∷ arm_numbers g.types as') l (cons_of_type g.types (or_else o 0)))))))
    w (atoms_of Known g s e ++ ((atoms_of Known g inner b ++ arms_atoms Known g s as') ++ guess g inner b ∷ [])) (guess g inner b)
unfolding con_found noted
match_is g s inner w e c fs x b as' l None he hb ha = behind g s w e _ _ _ he (λ t. refl)
match_is g s inner w e c fs x b as' l (Some con) he hb ha =
    let heads : List Step = head_steps g.types [] (λ n. Same (con_guess g.types n) (guess g s e) c.line) c fs x (Some con) in
    let k : Guess = guess g inner b in
    let on : List Guess → Work = λ t. (answered w (atoms_of Known g s e) k t).work in
    let done : List Guess → Work = λ t. (answered (on t) (atoms_of Known g inner b) k t).work in
    behind g s w e _ _ _ he (λ t.
    table_part g.types t heads _ _ _ _ (headed_is g.types t [] (con_guess g.types) (λ n. guess g s e) c con fs x) (λ u.
    behind g inner (on u) b _ _ _ hb (λ v.
    part g.types v (arms_steps g s (con ∷ []) con k as') _ _ _ _ _ (ha (done v) (con ∷ []) con k) (λ y.
    missing_is g.types y (con ∷ arm_numbers g.types as') l (cons_of_type g.types con) _ _
    (ap (found y k) (four_parts w.atoms (atoms_of Known g s e) (atoms_of Known g inner b) (arms_atoms Known g s as') (k ∷ [])
    ∙ ap (λ as'. w.atoms ++ (atoms_of Known g s e ++ as')) (sym (append_assoc (atoms_of Known g inner b) (arms_atoms Known g s as') (k ∷ [])))))))))

-- ---- the walk is the run

mutual
  unfolding walk noted

  pub walk_is : (g : Globals Guess) (s : Scope Guess) (w : Work) (e : Expression)
      → walk g s w e ≡ ended (run g.types w.table (steps g s e)) w (atoms_of Known g s e) (guess g s e)
  walk_is g s w (Num z l) = refl
  walk_is g s w (Truth b l) = refl
  walk_is g s w (Var n) = var_is g s n w
  walk_is g s w (Prim op a b l) = prim_is g s op a b l (λ v. walk_is g s v a) (λ v. walk_is g s v b) w
  walk_is g s w (If c a b l) = if_is g s c a b l (λ v. walk_is g s v c) (λ v. walk_is g s v a) (λ v. walk_is g s v b) w
  walk_is g s w (Let n e b) = let_is g s n e b (λ v. walk_is g s v e) (λ v. walk_is g (bind n.word (guess g s e) s) v b) w
  walk_is g s w (Match e NoArms l) = behind g s w e _ _ _ (λ v. walk_is g s v e) (λ t. refl)
  walk_is g s w (Match e (AndArm c fs x b as') l) =
      let inner : Scope Guess = arm_scope Known g.types c fs x s in
      match_is g s inner w e c fs x b as' l (constructor_number g.types c.word) (λ v. walk_is g s v e) (λ v. walk_is g inner v b) (λ v numbers first body. walk_arms_is g s v numbers first body as')
  walk_is g s w (Build c es place) = build_is g s c es place (λ v. walk_all_is g s v es) w
  walk_is g s w (Call f es) = call_is g s f es (λ v. walk_all_is g s v es) w

  pub walk_all_is : (g : Globals Guess) (s : Scope Guess) (w : Work) (es : Expressions)
      → walk_all g s w es ≡ giving (all_answered w (all_atoms Known g s es) (lines_of es) (guesses_of g s es)) (run g.types w.table (all_steps g s es))
  walk_all_is g s w NoExpressions = ap (λ l. Goes (record { work = record { table = w.table; atoms = l }; lines = []; guesses = [] })) (sym (append-nil w.atoms))
  walk_all_is g s w (AndExpression e es) =
      behind g s w e _ _ _ (λ v. walk_is g s v e) (λ t.
      last_part (run g.types t (all_steps g s es)) _ _ _ _ (walk_all_is g s (answered w (atoms_of Known g s e) (guess g s e) t).work es) (λ u.
      ap (λ l. Goes (record { work = record { table = u; atoms = l }; lines = lines_of (AndExpression e es); guesses = guesses_of g s (AndExpression e es) }))
      (append_assoc w.atoms (atoms_of Known g s e) (all_atoms Known g s es))))

  pub walk_arms_is : (g : Globals Guess) (s : Scope Guess) (w : Work) (numbers : List ℕ) (first : ℕ) (body : Guess) (as' : Arms)
      → walk_arms g s w numbers first body as' ≡ giving (arms_answered w (arms_atoms Known g s as') (numbers ++ arm_numbers g.types as')) (run g.types w.table (arms_steps g s numbers first body as'))
  walk_arms_is g s w numbers first body NoArms =
      ap (λ l. Goes (record { work = record { table = w.table; atoms = l }; numbers = numbers })) (sym (append-nil w.atoms))
      ∙ ap (λ ns. Goes (arms_answered w [] ns w.table)) (sym (append-nil numbers))
  walk_arms_is g s w numbers first body (AndArm c fs x b as') =
      let inner : Scope Guess = arm_scope Known g.types c fs x s in
      arm_is g s inner w numbers first body c fs x b as' (constructor_number g.types c.word) (λ v. walk_is g inner v b) (λ v ns n k. walk_arms_is g s v ns n k as')

-- ---- the left end of an expression

pub unwound_spine : (g : Globals Guess) (s : Scope Guess) (w : Work) (e : Expression) → unwound g s (spine_of e) (walk g s w (leaf_of e)) ≡ walk g s w e
unfolding walk rest_of
unwound_spine g s w (Num z l) = refl
unwound_spine g s w (Truth b l) = refl
unwound_spine g s w (Var n) = refl
unwound_spine g s w (Prim op a b l) = ap (λ o. and_then o (rest_of g s (Prim op a b l))) (unwound_spine g s w a)
unwound_spine g s w (If c a b l) = ap (λ o. and_then o (rest_of g s (If c a b l))) (unwound_spine g s w c)
unwound_spine g s w (Let n e b) = refl
unwound_spine g s w (Match e as' l) = refl
unwound_spine g s w (Build c es place) = refl
unwound_spine g s w (Call f es) = refl

pub unwound_last : (g : Globals Guess) (s : Scope Guess) (ps : List Expression) (p : Expression) (o : Walked Found)
    → unwound g s (ps ++ p ∷ []) o ≡ unwound g s ps (and_then o (rest_of g s p))
unwound_last g s [] p o = refl
unwound_last g s (q ∷ ps) p o = ap (λ r. and_then r (rest_of g s q)) (unwound_last g s ps p o)

pub unwound_stops : (g : Globals Guess) (s : Scope Guess) (ps : List Expression) (fault : TypeFault) → unwound g s ps (Stops fault) ≡ Stops fault
unwound_stops g s [] fault = refl
unwound_stops g s (p ∷ ps) fault = ap (λ r. and_then r (rest_of g s p)) (unwound_stops g s ps fault)
