-- Cited by contracts.
-- The check of types as a walk through the program's text: a list of steps in their order. A step is a test, with the
-- fault where it fails, or two atoms that have to be the same. The atom of a parameter or a result that isn't written
-- is an unknown, which has a number; what is known so far of an atom is a guess. An equality fails where the earlier
-- steps hold for some choice of the unknowns, and with it for none (unification in the manner of Milner 1978, over
-- atoms). The first step that fails is the fault.
use Rattle.std.specs.Prelude.{◌≡◌, ℕ, suc, ◌+◌, nat_le, ◌==◌, ◌||◌, not, Bool, true, false, List, [], ◌∷◌, ◌++◌, map, flat_map, length, slice_get, Option, Some, None, is_some, codes, ⊤}
use Rattle.std.specs.List.{AllByRecursion, list_any}
use Rattle.std.specs.Option.{option_map_or}
use Rattle.camelot_values.specs.Names.{stands}
use Rattle.camelot_values.specs.Kinds.{DataType, constructor_name, type_of}
use Rattle.camelot_values.specs.declared.kinds.Kind.{Kind}
use Rattle.camelot_values.specs.declared.kinds.Kind.TheVariants as kind
use Rattle.camelot_tree.specs.declared.tree.Name.{Name}
use Rattle.camelot_tree.specs.declared.tree.Atom.{Atom}
use Rattle.camelot_tree.specs.declared.tree.Atom.TheVariants as atom
use Rattle.camelot_tree.specs.declared.tree.Param.{Param}
use Rattle.camelot_tree.specs.declared.tree.ArmCell.{ArmCell}
use Rattle.camelot_tree.specs.Tree.{Expression, Num, Truth, Var, Prim, If, Let, Match, Build, Call, Expressions, NoExpressions, AndExpression, Arms, NoArms, AndArm, Constructor, Function, Source}
use Rattle.camelot_tree.specs.Tree as tree
use Rattle.camelot_values.specs.Names.{find}
use Rattle.camelot_typing.specs.Kinds.{Head, Globals, Scope, bind, or_else, kind_of_atom, types_of, constructor_number, fields_of, is_inline, built_kind, numbers_of, head_of, bound_names, arm_scope, atom_of}
use Rattle.camelot_typing.specs.Typing.{params_scope}
use Rattle.camelot_tree.specs.Cells.{has_cell}
use Rattle.camelot_types.specs.declared.fault.TypeFault.{TypeFault}
use Rattle.camelot_types.specs.declared.fault.TypeFault.TheVariants.{UnknownName, UnknownType, Duplicate, Arity, Clash, MissingArm, RepeatedArm, TooManyFields, PlaceOnInline, TooMany}
use Rattle.camelot_types.specs.declared.guess.Guess.{Guess}
use Rattle.camelot_types.specs.declared.guess.Guess.TheVariants.{Known, Unknown}

-- ---- steps

pub data Step : Type 0 where
  -- this test holds, or else this is the fault
  Must : Bool → TypeFault → Step
  -- two atoms are the same, or else they clash in this line
  Same : (left right : Guess) (line : ℕ) → Step

-- one kind for each unknown
abbrev pub Choice : Type 0
Choice = ℕ → Kind

abbrev pub under : Choice → Guess → Kind
under choice (Known k) = k
under choice (Unknown x) = choice x

abbrev pub Holds : Choice → Step → Type 0
Holds choice (Must test fault) = test ≡ true
Holds choice (Same left right line) = under choice left ≡ under choice right

abbrev pub AllHold : Choice → List Step → Type 0
AllHold choice steps = AllByRecursion (Holds choice) steps

-- how a kind is written
abbrev pub kind_name : List DataType → Kind → List ℕ
kind_name types kind.Int = codes "int"
kind_name types kind.Flag = codes "bool"
kind_name types kind.Dia = codes "<>"
kind_name types (kind.Of t) = option_map_or (λ d. d.name) (slice_get types t) []

-- two different kinds that every choice for the steps before gives
pub record Clashes (types : List DataType) (before : List Step) (left right : Guess) (line : ℕ) (fault : TypeFault) : Type 0 where
  pub first : Kind
  pub second : Kind
  pub differ : first ≡ second → ⊥
  pub forced : (choice : Choice) → AllHold choice before → (under choice left ≡ first) × (under choice right ≡ second)
  pub is : fault ≡ Clash (kind_name types first) (kind_name types second) line

abbrev pub FailsWith : List DataType → List Step → Step → TypeFault → Type 0
FailsWith types before (Must test found) fault = (test ≡ false) × (fault ≡ found)
FailsWith types before (Same left right line) fault = Clashes types before left right line fault

-- the first of these steps that fails, and its fault; those before it hold for some choice
pub record IsFirstFault (types : List DataType) (steps : List Step) (fault : TypeFault) : Type 0 where
  pub before : List Step
  pub step : Step
  pub after : List Step
  pub parts : steps ≡ before ++ step ∷ after
  pub choice : Choice
  pub hold : AllHold choice before
  pub fails : FailsWith types before step fault

-- ---- names

-- the line of the first of these names above the limit
abbrev pub line_above : ℕ → List Name → ℕ
line_above most names = option_map_or (λ n. n.line) (slice_get names most) 0

abbrev pub few : List ℕ → ℕ → List Name → Step
few what most names = Must (nat_le (length names) most) (TooMany what (length names) (line_above most names))

-- each of these names is new, behind the earlier ones
abbrev pub new_names : List (List ℕ) → List Name → List Step
new_names earlier [] = []
new_names earlier (n ∷ ns) = Must (not (stands earlier n.word)) (Duplicate n.word n.line) ∷ new_names (earlier ++ n.word ∷ []) ns

abbrev pub words : List Name → List (List ℕ)
words names = map (λ n. n.word) names

-- ---- declarations of types: duplicates, numbers of constructors, numbers of fields, and then the fields' types

abbrev pub atom_step : Source → Atom → List Step
atom_step p (atom.Named n) = Must (is_some (kind_of_atom p (atom.Named n))) (UnknownType n.word n.line) ∷ []
atom_step p a = []

abbrev pub fields_step : Constructor → Step
fields_step c = Must (nat_le (length c.fields) 4) (TooManyFields c.name.word (length c.fields) c.name.line)

abbrev pub con_names : tree.DataType → List Name
con_names t = map (λ c. c.name) t.cons

abbrev pub type_steps : Source → (types cons : List (List ℕ)) → tree.DataType → List Step
type_steps p types cons t =
    new_names types (t.name ∷ []) ++ (new_names cons (con_names t) ++ (few (codes "constructors") 64 (con_names t) ∷ (map fields_step t.cons ++ flat_map (λ c. flat_map (atom_step p) c.fields) t.cons)))

abbrev pub types_steps : Source → (types cons : List (List ℕ)) → List tree.DataType → List Step
types_steps p types cons [] = []
types_steps p types cons (t ∷ ts) = type_steps p types cons t ++ types_steps p (types ++ t.name.word ∷ []) (cons ++ words (con_names t)) ts

-- ---- headers of functions

abbrev pub param_names : Function → List Name
param_names f = map (λ x. x.name) f.params

abbrev pub kind_step : Source → Option Atom → List Step
kind_step p None = []
kind_step p (Some a) = atom_step p a

abbrev pub header_steps : Source → List (List ℕ) → Function → List Step
header_steps p earlier f =
    new_names earlier (f.name ∷ []) ++ (few (codes "parameters") 16 (param_names f) ∷ (new_names [] (param_names f) ++ (flat_map (λ x. kind_step p x.kind) f.params ++ kind_step p f.result)))

abbrev pub headers_steps : Source → List (List ℕ) → List Function → List Step
headers_steps p earlier [] = []
headers_steps p earlier (f ∷ fs) = header_steps p earlier f ++ headers_steps p (earlier ++ f.name.word ∷ []) fs

-- Every parameter and every result has a number, function by function in text order. What is written is known, and what
-- isn't is the unknown of that number.
abbrev pub guess_of : Source → ℕ → Option Atom → Guess
guess_of p number None = Unknown number
guess_of p number (Some a) = Known (or_else (kind_of_atom p a) kind.Int)

abbrev pub param_guesses : Source → ℕ → List Param → List Guess
param_guesses p number [] = []
param_guesses p number (x ∷ xs) = guess_of p number x.kind ∷ param_guesses p (suc number) xs

abbrev pub head_guess : Source → ℕ → Function → Head Guess
head_guess p number f = record { name = f.name.word; params = param_guesses p number f.params; result = guess_of p (number + length f.params) f.result }

abbrev pub head_guesses : Source → ℕ → List Function → List (Head Guess)
head_guesses p number [] = []
head_guesses p number (f ∷ fs) = head_guess p number f ∷ head_guesses p (suc (number + length f.params)) fs

abbrev pub guesses_of : Source → Globals Guess
guesses_of p = record { types = types_of p; heads = head_guesses p 0 p.funs }

-- ---- expressions

-- the line of an expression's first token; a `let` counts with that of its name
abbrev pub line_of : Expression → ℕ
line_of (Num z l) = l
line_of (Truth b l) = l
line_of (Var n) = n.line
line_of (Prim op a b l) = l
line_of (If c a b l) = l
line_of (Let n e b) = n.line
line_of (Match e as' l) = l
line_of (Build c es place) = c.line
line_of (Call f es) = f.line

-- how many arguments there are
abbrev pub argument_count : Expressions → ℕ
argument_count NoExpressions = 0
argument_count (AndExpression e es) = suc (argument_count es)

abbrev pub guess : Globals Guess → Scope Guess → Expression → Guess
guess g s e = atom_of Known g s e

-- each argument has what is needed, from left to right
abbrev pub same_steps : Globals Guess → Scope Guess → Expressions → List Guess → List Step
same_steps g s (AndExpression e es) (t ∷ ts) = Same (guess g s e) t (line_of e) ∷ same_steps g s es ts
same_steps g s es ts = []

-- the diamond that a build names: it is known, and, last of all, it is one
abbrev pub place_known : Scope Guess → Option Name → List Step
place_known s None = []
place_known s (Some d) = Must (is_some (find s d.word)) (UnknownName d.word d.line) ∷ []

abbrev pub place_same : Scope Guess → Option Name → List Step
place_same s None = []
place_same s (Some d) = Same (or_else (find s d.word) (Known kind.Int)) (Known kind.Dia) d.line ∷ []

-- a build, behind its arguments
abbrev pub build_steps : Globals Guess → Scope Guess → Name → Expressions → Option Name → Option ℕ → List Step
build_steps g s c es place None = Must false (UnknownName c.word c.line) ∷ []
build_steps g s c es place (Some con) =
    Must (argument_count es == length (fields_of g.types con)) (Arity c.word (argument_count es) (length (fields_of g.types con)) c.line)
    ∷ Must (not (is_inline g.types con) || not (is_some place)) (PlaceOnInline c.word c.line)
    ∷ (place_known s place ++ (same_steps g s es (map Known (fields_of g.types con)) ++ place_same s place))

-- a call, behind its arguments
abbrev pub call_steps : Globals Guess → Scope Guess → Name → Expressions → Option (Head Guess) → List Step
call_steps g s f es None = Must false (UnknownName f.word f.line) ∷ []
call_steps g s f es (Some h) = Must (argument_count es == length h.params) (Arity f.word (argument_count es) (length h.params) f.line) ∷ same_steps g s es h.params

-- the guess for a constructor's values
abbrev pub con_guess : List DataType → ℕ → Guess
con_guess types con = Known (or_else (built_kind types con) kind.Int)

-- what stands before the body of an arm, behind arms of these constructors. Its constructor's type is compared with the
-- first arm's, and that of the first arm with the scrutinee's.
abbrev pub head_steps : List DataType → List ℕ → (ℕ → Step) → Name → List (Option Name) → ArmCell → Option ℕ → List Step
head_steps types earlier against c fs x None = Must false (UnknownName c.word c.line) ∷ []
head_steps types earlier against c fs x (Some con) =
    Must (not (list_any (λ n. n == con) earlier)) (RepeatedArm c.word c.line)
    ∷ against con
    ∷ Must (length fs == length (fields_of types con)) (Arity c.word (length fs) (length (fields_of types con)) c.line)
    ∷ Must (not (is_inline types con) || not (has_cell x)) (PlaceOnInline c.word c.line)
    ∷ new_names [] (bound_names fs x)

-- the numbers of the arms' constructors
abbrev pub arm_numbers : List DataType → Arms → List ℕ
arm_numbers types NoArms = []
arm_numbers types (AndArm c fs x b as') = or_else (constructor_number types c.word) 0 ∷ arm_numbers types as'

-- each constructor of the first arm's type has an arm
abbrev pub missing_steps : List DataType → List ℕ → ℕ → List ℕ → List Step
missing_steps types there line [] = []
missing_steps types there line (con ∷ cons) = Must (list_any (λ n. n == con) there) (MissingArm (constructor_name types con) line) ∷ missing_steps types there line cons

abbrev pub cons_of_type : List DataType → ℕ → List ℕ
cons_of_type types con = option_map_or (numbers_of types) (type_of types con) []

abbrev pub first_number : List DataType → Name → ℕ
first_number types c = or_else (constructor_number types c.word) 0

abbrev mutual
  pub steps : Globals Guess → Scope Guess → Expression → List Step
  steps g s (Num z l) = []
  steps g s (Truth b l) = []
  steps g s (Var n) = Must (is_some (find s n.word)) (UnknownName n.word n.line) ∷ []
  steps g s (Prim op a b l) =
      steps g s a ++ (steps g s b ++ (Same (guess g s a) (Known kind.Int) (line_of a) ∷ Same (guess g s b) (Known kind.Int) (line_of b) ∷ []))
  steps g s (If c a b l) =
      steps g s c ++ (Same (guess g s c) (Known kind.Flag) (line_of c) ∷ (steps g s a ++ (steps g s b ++ Same (guess g s a) (guess g s b) (line_of b) ∷ [])))
  steps g s (Let n e b) = steps g s e ++ steps g (bind n.word (guess g s e) s) b
  steps g s (Match e NoArms l) = steps g s e ++ Must false (MissingArm [] l) ∷ []
  steps g s (Match e (AndArm c fs x b as') l) =
      let first = first_number g.types c in
      let inner = arm_scope Known g.types c fs x s in
      steps g s e
      ++ (head_steps g.types [] (λ con. Same (con_guess g.types con) (guess g s e) c.line) c fs x (constructor_number g.types c.word)
      ++ (steps g inner b
      ++ (arms_steps g s (first ∷ []) first (guess g inner b) as'
      ++ missing_steps g.types (first ∷ arm_numbers g.types as') l (cons_of_type g.types first))))
  steps g s (Build c es place) = all_steps g s es ++ build_steps g s c es place (constructor_number g.types c.word)
  steps g s (Call f es) = all_steps g s es ++ call_steps g s f es (head_of g.heads f.word)

  pub all_steps : Globals Guess → Scope Guess → Expressions → List Step
  all_steps g s NoExpressions = []
  all_steps g s (AndExpression e es) = steps g s e ++ all_steps g s es

  -- the arms behind the first one, whose constructor and body these are
  pub arms_steps : Globals Guess → Scope Guess → List ℕ → ℕ → Guess → Arms → List Step
  arms_steps g s earlier first body NoArms = []
  arms_steps g s earlier first body (AndArm c fs x b as') =
      let inner = arm_scope Known g.types c fs x s in
      head_steps g.types earlier (λ con. Same (con_guess g.types first) (con_guess g.types con) c.line) c fs x (constructor_number g.types c.word)
      ++ (steps g inner b
      ++ (Same body (guess g inner b) (line_of b)
      ∷ arms_steps g s (earlier ++ first_number g.types c ∷ []) first body as'))

-- a function's body has its result
abbrev pub body_steps : Globals Guess → Function → Head Guess → List Step
body_steps g f h =
    let s = params_scope f.params h.params in
    steps g s f.body ++ Same (guess g s f.body) h.result (line_of f.body) ∷ []

abbrev pub bodies_steps : Globals Guess → List Function → List (Head Guess) → List Step
bodies_steps g (f ∷ fs) (h ∷ hs) = body_steps g f h ++ bodies_steps g fs hs
bodies_steps g fs hs = []

-- ---- programs: all types, then all headers, then all bodies

abbrev pub program_steps : Source → List Step
program_steps p =
    few (codes "types") 64 (map (λ t. t.name) p.types)
    ∷ (types_steps p [] [] p.types
    ++ (few (codes "functions") 64 (map (λ f. f.name) p.funs)
    ∷ (headers_steps p [] p.funs
    ++ bodies_steps (guesses_of p) p.funs (head_guesses p 0 p.funs))))

-- the first fault of a program
abbrev pub HasFault : Source → TypeFault → Type 0
HasFault p fault = IsFirstFault (types_of p) (program_steps p) fault
