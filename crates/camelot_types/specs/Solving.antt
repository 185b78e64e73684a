-- Private: words for functions of this crate.
-- What private functions do: the steps of the walk, done one by one over a table of what is known of each unknown. An
-- unknown stands in the table for itself until an equality gives it a kind or another unknown.
use Rattle.std.specs.Prelude.{ℕ, zero, suc, ◌+◌, ◌==◌, ◌||◌, not, Bool, true, false, if◌then◌else◌, List, [], ◌∷◌, ◌++◌, map, length, Option, Some, None, is_some, get_or}
use Rattle.std.specs.List.{list_any}
use Rattle.std.specs.Option.{option_map_or}
use Rattle.camelot_values.specs.Names.{stands}
use Rattle.camelot_values.specs.Kinds.{DataType, constructor_name, same_kind}
use Rattle.camelot_values.specs.Typing.{operator_kind}
use Rattle.camelot_values.specs.declared.kinds.Kind.{Kind}
use Rattle.camelot_values.specs.declared.kinds.Kind.TheVariants as kind
use Rattle.camelot_tree.specs.declared.tree.Name.{Name}
use Rattle.camelot_tree.specs.declared.tree.ArmCell.{ArmCell}
use Rattle.camelot_tree.specs.Tree.{Function, Expression, Num, Truth, Var, Prim, If, Let, Match, Build, Call, Expressions, NoExpressions, AndExpression, Arms, NoArms, AndArm}
use Rattle.camelot_values.specs.Names.{find}
use Rattle.camelot_typing.specs.Kinds.{Head, Globals, Scope, bind, constructor_number, fields_of, is_inline, head_of, bound_names, arm_scope}
use Rattle.camelot_typing.specs.Typing.{params_scope}
use Rattle.camelot_typing.specs.Typed.{FunctionKinds}
use Rattle.camelot_types.specs.Walk.{Step, Must, Same, kind_name, line_of, con_guess, cons_of_type}
use Rattle.camelot_tree.specs.Cells.{has_cell}
use Rattle.camelot_types.specs.declared.fault.TypeFault.{TypeFault}
use Rattle.camelot_types.specs.declared.fault.TypeFault.TheVariants.{UnknownName, Duplicate, Arity, Clash, MissingArm, RepeatedArm, PlaceOnInline}
use Rattle.camelot_types.specs.declared.guess.Guess.{Guess}
use Rattle.camelot_types.specs.declared.guess.Guess.TheVariants.{Known, Unknown}

-- what goes on, or the fault at which it stops
pub data Walked (A : Type 0) : Type 0 where
  Goes : A → Walked A
  Stops : TypeFault → Walked A

abbrev pub and_then : {A B : Type 0} → Walked A → (A → Walked B) → Walked B
and_then (Goes a) next = next a
and_then (Stops fault) next = Stops fault

-- what the table has for a guess
abbrev pub looked_up : List Guess → Guess → Guess
looked_up table (Known k) = Known k
looked_up table (Unknown x) = get_or table x (Unknown x)

-- a guess in place of an unknown
abbrev pub replaced : ℕ → Guess → Guess → Guess
replaced x new (Known k) = Known k
replaced x new (Unknown y) = if y == x then new else Unknown y

-- two guesses, as the table has them, made the same
abbrev pub unified : List DataType → List Guess → ℕ → Guess → Guess → Walked (List Guess)
unified types table line (Known k) (Known q) = if same_kind k q then Goes table else Stops (Clash (kind_name types k) (kind_name types q) line)
unified types table line (Known k) (Unknown y) = Goes (map (replaced y (Known k)) table)
unified types table line (Unknown x) new = Goes (map (replaced x new) table)

unfoldable pub made_same : List DataType → List Guess → Guess → Guess → ℕ → Walked (List Guess)
made_same types table left right line = unified types table line (looked_up table left) (looked_up table right)

abbrev pub step_done : List DataType → List Guess → Step → Walked (List Guess)
step_done types table (Must true fault) = Goes table
step_done types table (Must false fault) = Stops fault
step_done types table (Same left right line) = made_same types table left right line

abbrev pub run : List DataType → List Guess → List Step → Walked (List Guess)
run types table [] = Goes table
run types table (step ∷ steps) = and_then (step_done types table step) (λ next. run types next steps)

-- ---- names in scope

unfoldable pub name_found : Option Guess → Name → Walked Guess
name_found None n = Stops (UnknownName n.word n.line)
name_found (Some a) n = Goes a

-- the guess for the diamond that a build names, where it names one
unfoldable pub place_found : Scope Guess → Option Name → Walked (Option Guess)
place_found s None = Goes None
place_found s (Some d) = and_then (name_found (find s d.word) d) (λ a. Goes (Some a))

-- ---- builds and calls, behind their arguments: the lines of the arguments, and their guesses

unfoldable pub all_same : List DataType → List Guess → (lines : List ℕ) → (guesses needed : List Guess) → Walked (List Guess)
all_same types table (l ∷ ls) (a ∷ as') (t ∷ ts) = and_then (made_same types table a t l) (λ next. all_same types next ls as' ts)
all_same types table ls as' ts = Goes table

unfoldable pub place_made : List DataType → List Guess → Option Name → Option Guess → Walked (List Guess)
place_made types table (Some d) (Some a) = made_same types table a (Known kind.Dia) d.line
place_made types table d a = Goes table

-- the number of arguments or fields, and an `@` on an inline constructor
unfoldable pub arity_checked : Name → (have need : ℕ) → Walked (Unit {0})
arity_checked n have need = if have == need then Goes tt else Stops (Arity n.word have need n.line)

unfoldable pub place_checked : Name → (inline placed : Bool) → Walked (Unit {0})
place_checked c inline placed = if not inline || not placed then Goes tt else Stops (PlaceOnInline c.word c.line)

unfoldable pub con_found : List DataType → Name → Option ℕ → Walked ℕ
con_found types c None = Stops (UnknownName c.word c.line)
con_found types c (Some con) = Goes con

unfoldable pub built : List DataType → Scope Guess → List Guess → Name → ℕ → (lines : List ℕ) → List Guess → Option Name → Walked (List Guess)
built types s table c con lines as' place =
    and_then (arity_checked c (length as') (length (fields_of types con))) (λ u.
    and_then (place_checked c (is_inline types con) (is_some place)) (λ v.
    and_then (place_found s place) (λ d.
    and_then (all_same types table lines as' (map Known (fields_of types con))) (λ next.
    place_made types next place d))))

unfoldable pub called : List DataType → List Guess → Name → (lines : List ℕ) → List Guess → Option (Head Guess) → Walked (List Guess)
called types table f lines as' None = Stops (UnknownName f.word f.line)
called types table f lines as' (Some h) = and_then (arity_checked f (length as') (length h.params)) (λ u. all_same types table lines as' h.params)

-- ---- arms

unfoldable pub names_checked : List (List ℕ) → List Name → Walked (Unit {0})
names_checked earlier [] = Goes tt
names_checked earlier (n ∷ ns) = if stands earlier n.word then Stops (Duplicate n.word n.line) else names_checked (earlier ++ n.word ∷ []) ns

unfoldable pub repeat_checked : Name → ℕ → List ℕ → Walked (Unit {0})
repeat_checked c con earlier = if list_any (λ n. n == con) earlier then Stops (RepeatedArm c.word c.line) else Goes tt

-- what stands before an arm's body, behind arms of these constructors: the type of its constructor is compared with
-- another one
unfoldable pub headed : List DataType → List Guess → (earlier : List ℕ) → (left right : Guess) → Name → ℕ → List (Option Name) → ArmCell → Walked (List Guess)
headed types table earlier left right c con fs x =
    and_then (repeat_checked c con earlier) (λ u.
    and_then (made_same types table left right c.line) (λ next.
    and_then (arity_checked c (length fs) (length (fields_of types con))) (λ v.
    and_then (place_checked c (is_inline types con) (has_cell x)) (λ w.
    and_then (names_checked [] (bound_names fs x)) (λ z. Goes next)))))

-- the first of these constructors that no arm has
unfoldable pub missing_checked : List DataType → (there : List ℕ) → ℕ → (cons : List ℕ) → Walked (Unit {0})
missing_checked types there line [] = Goes tt
missing_checked types there line (con ∷ cons) = if list_any (λ n. n == con) there then missing_checked types there line cons else Stops (MissingArm (constructor_name types con) line)

-- ---- the walk of an expression, as the code goes: the table and the atoms of the expressions so far, and the guess

pub record Work : Type 0 where
  pub table : List Guess
  pub atoms : List Guess

pub record Found : Type 0 where
  pub work : Work
  pub guess : Guess

-- the lines and the guesses of arguments
pub record FoundAll : Type 0 where
  pub work : Work
  pub lines : List ℕ
  pub guesses : List Guess

-- the numbers of the arms
pub record FoundArms : Type 0 where
  pub work : Work
  pub numbers : List ℕ

abbrev pub with_table : Work → List Guess → Work
with_table w table = record { table = table; atoms = w.atoms }

-- the lines of arguments
abbrev pub lines_of : Expressions → List ℕ
lines_of NoExpressions = []
lines_of (AndExpression e es) = line_of e ∷ lines_of es

-- the expression's own atom is noted
unfoldable pub noted : Work → Guess → Found
noted w a = record { work = record { table = w.table; atoms = w.atoms ++ a ∷ [] }; guess = a }

unfoldable mutual
  pub walk : Globals Guess → Scope Guess → Work → Expression → Walked Found
  walk g s w (Num z l) = Goes (noted w (Known kind.Int))
  walk g s w (Truth b l) = Goes (noted w (Known kind.Flag))
  walk g s w (Var n) = and_then (name_found (find s n.word) n) (λ a. Goes (noted w a))
  walk g s w (Prim op a b l) =
      and_then (walk g s w a) (λ f.
      and_then (walk g s f.work b) (λ h.
      and_then (made_same g.types h.work.table f.guess (Known kind.Int) (line_of a)) (λ first.
      and_then (made_same g.types first h.guess (Known kind.Int) (line_of b)) (λ second.
      Goes (noted (with_table h.work second) (Known (operator_kind op)))))))
  walk g s w (If c a b l) =
      and_then (walk g s w c) (λ f.
      and_then (made_same g.types f.work.table f.guess (Known kind.Flag) (line_of c)) (λ first.
      and_then (walk g s (with_table f.work first) a) (λ h.
      and_then (walk g s h.work b) (λ k.
      and_then (made_same g.types k.work.table h.guess k.guess (line_of b)) (λ second.
      Goes (noted (with_table k.work second) h.guess))))))
  walk g s w (Let n e b) =
      and_then (walk g s w e) (λ f.
      and_then (walk g (bind n.word f.guess s) f.work b) (λ h.
      Goes (noted h.work h.guess)))
  walk g s w (Match e NoArms l) = and_then (walk g s w e) (λ f. Stops (MissingArm [] l))
  walk g s w (Match e (AndArm c fs x b as') l) =
      and_then (walk g s w e) (λ f.
      and_then (con_found g.types c (constructor_number g.types c.word)) (λ con.
      and_then (headed g.types f.work.table [] (con_guess g.types con) f.guess c con fs x) (λ table.
      and_then (walk g (arm_scope Known g.types c fs x s) (with_table f.work table) b) (λ body.
      and_then (walk_arms g s body.work (con ∷ []) con body.guess as') (λ arms.
      and_then (missing_checked g.types arms.numbers l (cons_of_type g.types con)) (λ u.
      Goes (noted arms.work body.guess)))))))
  walk g s w (Build c es place) =
      and_then (walk_all g s w es) (λ f.
      and_then (con_found g.types c (constructor_number g.types c.word)) (λ con.
      and_then (built g.types s f.work.table c con f.lines f.guesses place) (λ table.
      Goes (noted (with_table f.work table) (con_guess g.types con)))))
  walk g s w (Call f es) =
      and_then (walk_all g s w es) (λ h.
      and_then (called g.types h.work.table f h.lines h.guesses (head_of g.heads f.word)) (λ table.
      Goes (noted (with_table h.work table) (option_map_or (λ d. d.result) (head_of g.heads f.word) (Known kind.Int)))))

  pub walk_all : Globals Guess → Scope Guess → Work → Expressions → Walked FoundAll
  walk_all g s w NoExpressions = Goes (record { work = w; lines = []; guesses = [] })
  walk_all g s w (AndExpression e es) =
      and_then (walk g s w e) (λ f.
      and_then (walk_all g s f.work es) (λ h.
      Goes (record { work = h.work; lines = line_of e ∷ h.lines; guesses = f.guess ∷ h.guesses })))

  pub walk_arms : Globals Guess → Scope Guess → Work → (numbers : List ℕ) → ℕ → Guess → Arms → Walked FoundArms
  walk_arms g s w numbers first body NoArms = Goes (record { work = w; numbers = numbers })
  walk_arms g s w numbers first body (AndArm c fs x b as') =
      and_then (con_found g.types c (constructor_number g.types c.word)) (λ con.
      and_then (headed g.types w.table numbers (con_guess g.types first) (con_guess g.types con) c con fs x) (λ table.
      and_then (walk g (arm_scope Known g.types c fs x s) (with_table w table) b) (λ f.
      and_then (made_same g.types f.work.table body f.guess (line_of b)) (λ next.
      walk_arms g s (with_table f.work next) (numbers ++ con ∷ []) first body as'))))

-- ---- the same along the left end of an expression, and from argument to argument

-- what is left of a parent, where its first part is walked
unfoldable pub rest_of : Globals Guess → Scope Guess → Expression → Found → Walked Found
rest_of g s (Prim op a b l) f =
    and_then (walk g s f.work b) (λ h.
    and_then (made_same g.types h.work.table f.guess (Known kind.Int) (line_of a)) (λ first.
    and_then (made_same g.types first h.guess (Known kind.Int) (line_of b)) (λ second.
    Goes (noted (with_table h.work second) (Known (operator_kind op))))))
rest_of g s (If c a b l) f =
    and_then (made_same g.types f.work.table f.guess (Known kind.Flag) (line_of c)) (λ first.
    and_then (walk g s (with_table f.work first) a) (λ h.
    and_then (walk g s h.work b) (λ k.
    and_then (made_same g.types k.work.table h.guess k.guess (line_of b)) (λ second.
    Goes (noted (with_table k.work second) h.guess)))))
rest_of g s e f = Goes f

-- the parents from the outermost inwards
abbrev pub unwound : Globals Guess → Scope Guess → List Expression → Walked Found → Walked Found
unwound g s [] o = o
unwound g s (p ∷ ps) o = and_then (unwound g s ps o) (rest_of g s p)

-- arguments, behind some whose guesses these are
pub record FoundGuesses : Type 0 where
  pub work : Work
  pub guesses : List Guess

unfoldable pub walk_on : Globals Guess → Scope Guess → Work → List Guess → Expressions → Walked FoundGuesses
walk_on g s w guesses NoExpressions = Goes (record { work = w; guesses = guesses })
walk_on g s w guesses (AndExpression e es) = and_then (walk g s w e) (λ f. walk_on g s f.work (guesses ++ f.guess ∷ []) es)

-- ---- the same arm by arm: the constructor, and the guess of the body
pub record FoundArm : Type 0 where
  pub work : Work
  pub con : ℕ
  pub guess : Guess

unfoldable pub first_arm : Globals Guess → Scope Guess → Work → Guess → Name → List (Option Name) → ArmCell → Expression → Walked FoundArm
first_arm g s w scrutinee c fs x b =
    and_then (con_found g.types c (constructor_number g.types c.word)) (λ con.
    and_then (headed g.types w.table [] (con_guess g.types con) scrutinee c con fs x) (λ table.
    and_then (walk g (arm_scope Known g.types c fs x s) (with_table w table) b) (λ body.
    Goes (record { work = body.work; con = con; guess = body.guess }))))

unfoldable pub next_arm : Globals Guess → Scope Guess → Work → List ℕ → ℕ → Guess → Name → List (Option Name) → ArmCell → Expression → Walked FoundArm
next_arm g s w numbers first body c fs x b =
    and_then (con_found g.types c (constructor_number g.types c.word)) (λ con.
    and_then (headed g.types w.table numbers (con_guess g.types first) (con_guess g.types con) c con fs x) (λ table.
    and_then (walk g (arm_scope Known g.types c fs x s) (with_table w table) b) (λ f.
    and_then (made_same g.types f.work.table body f.guess (line_of b)) (λ next.
    Goes (record { work = with_table f.work next; con = con; guess = f.guess })))))

unfoldable pub match_walk : Globals Guess → Scope Guess → Work → Expression → Arms → ℕ → Walked Found
match_walk g s w e NoArms l = and_then (walk g s w e) (λ f. Stops (MissingArm [] l))
match_walk g s w e (AndArm c fs x b as') l =
    and_then (walk g s w e) (λ f.
    and_then (first_arm g s f.work f.guess c fs x b) (λ r.
    and_then (walk_arms g s r.work (r.con ∷ []) r.con r.guess as') (λ arms.
    and_then (missing_checked g.types arms.numbers l (cons_of_type g.types r.con)) (λ u.
    Goes (noted arms.work r.guess)))))

-- ---- bodies of functions: the table, and the atoms of the body's expressions

unfoldable pub body_walked : Globals Guess → Function → Head Guess → List Guess → Walked Work
body_walked g f h table =
    and_then (walk g (params_scope f.params h.params) (record { table = table; atoms = [] }) f.body) (λ r.
    and_then (made_same g.types r.work.table r.guess h.result (line_of f.body)) (λ next.
    Goes (with_table r.work next)))

-- the atoms of each function's body
pub record Bodies : Type 0 where
  pub table : List Guess
  pub atoms : List (List Guess)

unfoldable pub bodies_on : Globals Guess → List Guess → List (List Guess) → List Function → List (Head Guess) → Walked Bodies
bodies_on g table atoms (f ∷ fs) (h ∷ hs) = and_then (body_walked g f h table) (λ w. bodies_on g w.table (atoms ++ w.atoms ∷ []) fs hs)
bodies_on g table atoms fs hs = Goes (record { table = table; atoms = atoms })

-- ---- the kind that is left for a guess: `int` where nothing fixes it

abbrev pub closed : Guess → Kind
closed (Known k) = k
closed (Unknown x) = kind.Int

abbrev pub settled : List Guess → Guess → Kind
settled table a = closed (looked_up table a)

unfoldable pub settled_funs : List Guess → List (Head Guess) → List (List Guess) → List FunctionKinds
settled_funs table (h ∷ hs) (as' ∷ ass) = record { params = map (settled table) h.params; result = settled table h.result; exprs = map (settled table) as' } ∷ settled_funs table hs ass
settled_funs table hs ass = []

-- a table in which every unknown stands for itself
abbrev pub fresh : ℕ → ℕ → List Guess
fresh first zero = []
fresh first (suc k) = Unknown first ∷ fresh (suc first) k

-- how many unknowns there may be: one for each parameter and result
abbrev pub unknowns : List Function → ℕ
unknowns [] = 0
unknowns (f ∷ fs) = suc (length f.params + unknowns fs)
