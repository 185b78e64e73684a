-- The steps of an expression hold for a choice exactly where the expression has, under the choice, the kind of its
-- guess.
use Rattle.std.proofs.Common.{◌≡◌, ℕ, suc, ◌+◌, ◌≤◌, Bool, true, false, List, [], ◌∷◌, ◌++◌, map, length, Option, Some, None, refl, sym, ap, ◌∙◌, subst, arith, append_assoc}
use Rattle.std.specs.Prelude.{◌==◌, ◌||◌, not, is_some, if◌then◌else◌}
use Rattle.std.specs.List.{AllByRecursion}
use Rattle.std.specs.Option.{option_map, option_map_or}
use Rattle.std.proofs.lemmas.Bool.{eqb-true}
use Rattle.std.proofs.lemmas.Bool.Decides.{nat_tests}
use Rattle.camelot_values.specs.Names.{AreDistinct, find}
use Rattle.camelot_values.specs.NameLaws.{AreNew, new_distinct, distinct_new}
use Rattle.camelot_values.specs.Kinds.{DataType, type_of}
use Rattle.camelot_values.specs.declared.kinds.Kind.{Kind}
use Rattle.camelot_values.specs.declared.kinds.Kind.TheVariants as kind
use Rattle.camelot_tree.specs.declared.tree.Name.{Name}
use Rattle.camelot_tree.specs.declared.tree.ArmCell.{ArmCell}
use Rattle.camelot_tree.specs.declared.tree.ArmCell.TheVariants as cell
use Rattle.camelot_tree.specs.Tree.{Expression, Num, Truth, Var, Prim, If, Let, Match, Build, Call, Expressions, NoExpressions, AndExpression, Arms, NoArms, AndArm}
use Rattle.camelot_tree.specs.Meaning.{is_that}
use Rattle.camelot_typing.specs.Kinds.{Head, Globals, Scope, bind, or_else, constructor_number, fields_of, is_inline, built_kind, numbers_of, head_of, bound_names, arm_scope}
use Rattle.camelot_typing.specs.Typing.{Signature, PlaceFits, CellFits, arms_with, Covers, HeadFits, HasKind, HaveKinds, ArmsHaveKind}
use Rattle.camelot_typing.specs.NumberLaws.{among_numbers}
use Rattle.camelot_types.specs.declared.guess.Guess.{Guess}
use Rattle.camelot_types.specs.declared.guess.Guess.TheVariants.{Known}
use Rattle.camelot_types.specs.Walk.{Step, Same, Choice, under, Holds, AllHold, new_names, words, line_of, argument_count, guess, same_steps, place_known, place_same, build_steps, call_steps, con_guess, head_steps, arm_numbers, missing_steps, cons_of_type, first_number, steps, all_steps, arms_steps}
use Rattle.camelot_tree.specs.Cells.{has_cell}
use Rattle.camelot_types.proofs.Unifying.{all_both, all_front, all_back}
use Rattle.camelot_types.proofs.Numbers.{owned, times, is_in, times_some, some_times, NoneRepeated, at_most_once, not_repeated}
use Rattle.camelot_types.proofs.Choosing.{head_under, globals_under, scope_under, find_under, head_of_under, arm_under}

-- ---- tests

or_first : (a b : Bool) → (not a || not b) ≡ true → b ≡ true → a ≡ false
or_first true true h e = cc
or_first true false h e = cc
or_first false b h e = refl

pub same_count : (m n : ℕ) → (m == n) ≡ true → m ≡ n
same_count m n h = eqb-true m n h

count_same : (m n : ℕ) → m ≡ n → (m == n) ≡ true
count_same m n h = grind (arith, nat_tests)

-- ---- names

pub new_hold : (choice : Choice) (earlier : List (List ℕ)) (ns : List Name) → AllHold choice (new_names earlier ns) → AreNew earlier (words ns)
new_hold choice earlier [] h = tt
new_hold choice earlier (n ∷ ns) h = (h.0, new_hold choice (earlier ++ n.word ∷ []) ns h.1)

pub hold_new : (choice : Choice) (earlier : List (List ℕ)) (ns : List Name) → AreNew earlier (words ns) → AllHold choice (new_names earlier ns)
hold_new choice earlier [] h = tt
hold_new choice earlier (n ∷ ns) h = (h.0, hold_new choice (earlier ++ n.word ∷ []) ns h.1)

-- a name that is in scope
known_name : (choice : Choice) (s : Scope Guess) (n : List ℕ) → is_some (find s n) ≡ true
    → find (scope_under choice s) n ≡ Some (under choice (or_else (find s n) (Known kind.Int)))
known_name choice s n h = find_under choice s n ∙ by_option (find s n) h
  where
    by_option : (o : Option Guess) → is_some o ≡ true → option_map (under choice) o ≡ Some (under choice (or_else o (Known kind.Int)))
    by_option None h = cc
    by_option (Some a) h = refl

pub record IsKnownName (choice : Choice) (s : Scope Guess) (n : List ℕ) (k : Kind) : Type 0 where
  pub there : is_some (find s n) ≡ true
  pub is : under choice (or_else (find s n) (Known kind.Int)) ≡ k

name_known : (choice : Choice) (s : Scope Guess) (n : List ℕ) (k : Kind) → find (scope_under choice s) n ≡ Some k → IsKnownName choice s n k
name_known choice s n k h = by_option (find s n) refl (sym (find_under choice s n) ∙ h)
  where
    by_option : (o : Option Guess) → find s n ≡ o → option_map (under choice) o ≡ Some k → IsKnownName choice s n k
    by_option None e h = cc
    by_option (Some a) e h = let q : under choice a ≡ k = cc in record { there = ap is_some e; is = ap (λ o. under choice (or_else o (Known kind.Int))) e ∙ q }

-- ---- a place

place_holds : (choice : Choice) (s : Scope Guess) (inline : Bool) (place : Option Name) → (not inline || not (is_some place)) ≡ true
    → AllHold choice (place_known s place) → AllHold choice (place_same s place)
    → PlaceFits (scope_under choice s) inline place
place_holds choice s inline None t h k = tt
place_holds choice s inline (Some d) t h k = (or_first inline true t refl, known_name choice s d.word h.0 ∙ ap Some k.0)

pub record PlaceHolds (choice : Choice) (s : Scope Guess) (inline : Bool) (place : Option Name) : Type 0 where
  pub test : (not inline || not (is_some place)) ≡ true
  pub known : AllHold choice (place_known s place)
  pub same : AllHold choice (place_same s place)

holds_place : (choice : Choice) (s : Scope Guess) (inline : Bool) (place : Option Name) → PlaceFits (scope_under choice s) inline place
    → PlaceHolds choice s inline place
holds_place choice s inline None h = record { test = no_place inline; known = tt; same = tt }
  where
    no_place : (b : Bool) → (not b || true) ≡ true
    no_place true = refl
    no_place false = refl
holds_place choice s inline (Some d) h =
    let k = name_known choice s d.word kind.Dia h.1 in
    record { test = ap (λ b. not b || false) h.0; known = (k.there, tt); same = (k.is, tt) }

-- ---- an arm's cell

cell_holds : (inline : Bool) (x : ArmCell) → (not inline || not (has_cell x)) ≡ true → CellFits inline x
cell_holds inline cell.Plain h = tt
cell_holds inline cell.Free h = or_first inline true h refl
cell_holds inline (cell.Keep n) h = or_first inline true h refl

holds_cell : (inline : Bool) (x : ArmCell) → CellFits inline x → (not inline || not (has_cell x)) ≡ true
holds_cell inline cell.Plain h = no_place inline
  where
    no_place : (b : Bool) → (not b || true) ≡ true
    no_place true = refl
    no_place false = refl
holds_cell inline cell.Free h = ap (λ b. not b || false) h
holds_cell inline (cell.Keep n) h = ap (λ b. not b || false) h

-- ---- kinds of constructors

con_kind : (choice : Choice) (types : List DataType) (con t : ℕ) → type_of types con ≡ Some t → con_guess types con ≡ Known (kind.Of t)
con_kind choice types con t h = ap (λ o. Known (or_else (option_map kind.Of o) kind.Int)) h

all_known : (choice : Choice) (ks : List Kind) → map (under choice) (map Known ks) ≡ ks
all_known choice [] = refl
all_known choice (k ∷ ks) = ap (λ l. k ∷ l) (all_known choice ks)

length_known : (ks : List Kind) → length (map Known ks) ≡ length ks
length_known [] = refl
length_known (k ∷ ks) = ap suc (length_known ks)

-- ---- what stands before an arm's body

-- the head of an arm of this constructor
pub record HeadHolds (choice : Choice) (types : List DataType) (earlier : List ℕ) (against : ℕ → Step) (c : Name) (fs : List (Option Name)) (x : ArmCell) : Type 0 where
  pub con : ℕ
  pub is : constructor_number types c.word ≡ Some con
  pub new : not (is_in con earlier) ≡ true
  pub same : Holds choice (against con)
  pub full : length fs ≡ length (fields_of types con)
  pub place : CellFits (is_inline types con) x
  pub distinct : AreDistinct (words (bound_names fs x))

head_holds : (choice : Choice) (types : List DataType) (earlier : List ℕ) (against : ℕ → Step) (c : Name) (fs : List (Option Name)) (x : ArmCell) (o : Option ℕ) → constructor_number types c.word ≡ o
    → AllHold choice (head_steps types earlier against c fs x o) → HeadHolds choice types earlier against c fs x
head_holds choice types earlier against c fs x None e h = let q : false ≡ true = h.0 in cc
head_holds choice types earlier against c fs x (Some con) e h = record {
  con = con;
  is = e;
  new = h.0;
  same = h.1.0;
  full = same_count (length fs) (length (fields_of types con)) h.1.1.0;
  place = cell_holds (is_inline types con) x h.1.1.1.0;
  distinct = new_distinct (words (bound_names fs x)) (new_hold choice [] (bound_names fs x) h.1.1.1.1);
}

holds_head : (choice : Choice) (types : List DataType) (earlier : List ℕ) (against : ℕ → Step) (c : Name) (fs : List (Option Name)) (x : ArmCell)
    → HeadHolds choice types earlier against c fs x
    → AllHold choice (head_steps types earlier against c fs x (constructor_number types c.word))
holds_head choice types earlier against c fs x h = subst (λ o. AllHold choice (head_steps types earlier against c fs x o)) (sym h.is) (
  h.new,
  (h.same, (count_same (length fs) (length (fields_of types h.con)) h.full, (holds_cell (is_inline types h.con) x h.place, hold_new choice [] (bound_names fs x) (distinct_new (words (bound_names fs x)) h.distinct)))),
)

head_fits : (choice : Choice) (types : List DataType) (earlier : List ℕ) (against : ℕ → Step) (c : Name) (fs : List (Option Name)) (x : ArmCell) (t : ℕ) (h : HeadHolds choice types earlier against c fs x)
    → type_of types h.con ≡ Some t → HeadFits types t c fs x
head_fits choice types earlier against c fs x t h o = record { con = h.con; is = h.is; owned = o; full = h.full; place = h.place; distinct = h.distinct }

-- ---- numbers of arms

-- the arms of a number, where each arm's constructor is known
pub record ArmsCounted (types : List DataType) (as' : Arms) : Type 0 where
  pub same : (con : ℕ) → arms_with types con as' ≡ times con (arm_numbers types as')

counted_more : (types : List DataType) (c : Name) (fs : List (Option Name)) (x : ArmCell) (b : Expression) (as' : Arms) (con : ℕ)
    → constructor_number types c.word ≡ Some con → ArmsCounted types as'
    → ArmsCounted types (AndArm c fs x b as')
counted_more types c fs x b as' con e h = record {
  same = λ n.
      ap (λ o. (if is_that o n then 1 else 0) + arms_with types n as') e ∙ ap (λ m. (if con == n then 1 else 0) + m) (h.same n)
      ∙ sym (ap (λ o. (if or_else o 0 == n then 1 else 0) + times n (arm_numbers types as')) e);
}

missing_all : (choice : Choice) (types : List DataType) (there : List ℕ) (line : ℕ) (cons : List ℕ)
    → AllHold choice (missing_steps types there line cons) → AllByRecursion (λ con. is_in con there ≡ true) cons
missing_all choice types there line [] h = tt
missing_all choice types there line (con ∷ cons) h = (h.0, missing_all choice types there line cons h.1)

all_missing : (choice : Choice) (types : List DataType) (there : List ℕ) (line : ℕ) (cons : List ℕ)
    → AllByRecursion (λ con. 1 ≤ times con there) cons → AllHold choice (missing_steps types there line cons)
all_missing choice types there line [] h = tt
all_missing choice types there line (con ∷ cons) h = (some_times con there h.0, all_missing choice types there line cons h.1)

-- each constructor has an arm, and none has two
covers : (types : List DataType) (cons there : List ℕ) (as' : Arms) → ((con : ℕ) → arms_with types con as' ≡ times con there)
    → ((con : ℕ) → times con there ≤ 1) → AllByRecursion (λ con. is_in con there ≡ true) cons
    → AllByRecursion (λ con. arms_with types con as' ≡ 1) cons
covers types [] there as' same few h = tt
covers types (con ∷ cons) there as' same few h =
    let some = times_some con there h.0 in
    let most = few con in
    (same con ∙ omega (arith, some, most), covers types cons there as' same few h.1)

some_of_covers : (types : List DataType) (cons there : List ℕ) (as' : Arms) → ((con : ℕ) → arms_with types con as' ≡ times con there)
    → AllByRecursion (λ con. arms_with types con as' ≡ 1) cons
    → AllByRecursion (λ con. 1 ≤ times con there) cons
some_of_covers types [] there as' same h = tt
some_of_covers types (con ∷ cons) there as' same h = let e : times con there ≡ 1 = sym (same con) ∙ h.0 in (omega (arith, e), some_of_covers types cons there as' same h.1)

-- ---- what arms give

-- the arms behind the first one: their kinds, their numbers, and that none is repeated
pub record ArmsSound (choice : Choice) (g : Globals Guess) (s : Scope Guess) (earlier : List ℕ) (t : ℕ) (body : Guess) (as' : Arms) : Type 0 where
  pub kinds : ArmsHaveKind (globals_under choice g) (scope_under choice s) t as' (under choice body)
  pub counted : ArmsCounted g.types as'
  pub new : NoneRepeated earlier (arm_numbers g.types as')

of_kind : (t u : ℕ) → kind.Of t ≡ kind.Of u → t ≡ u
of_kind t u h = cc

-- an arm behind the first one
arm_sound : (choice : Choice) (g : Globals Guess) (s : Scope Guess) (earlier : List ℕ) (first t : ℕ) (body : Guess) (c : Name) (fs : List (Option Name)) (x : ArmCell) (b : Expression) (as' : Arms)
    → type_of g.types first ≡ Some t
    → HeadHolds choice g.types earlier (λ con. Same (con_guess g.types first) (con_guess g.types con) c.line) c fs x
    → HasKind (globals_under choice g) (scope_under choice (arm_scope Known g.types c fs x s)) b (under choice (guess g (arm_scope Known g.types c fs x s) b))
    → under choice body ≡ under choice (guess g (arm_scope Known g.types c fs x s) b)
    → ArmsSound choice g s (earlier ++ first_number g.types c ∷ []) t body as' → ArmsSound choice g s earlier t body (AndArm c fs x b as')
arm_sound choice g s earlier first t body c fs x b as' o h k same rest =
    let number : first_number g.types c ≡ h.con = ap (λ o. or_else o 0) h.is in
    let own = owned g.types c.word h.con h.is in
    let kinds : kind.Of t ≡ kind.Of own.0 = sym (ap (under choice) (con_kind choice g.types first t o)) ∙ h.same ∙ ap (under choice) (con_kind choice g.types h.con own.0 own.1) in
    record {
      kinds = (
        head_fits choice g.types earlier (λ con. Same (con_guess g.types first) (con_guess g.types con) c.line) c fs x t h (own.1 ∙ ap Some (sym (of_kind t own.0 kinds))),
        subst (λ inner. HasKind (globals_under choice g) inner b (under choice body)) (arm_under choice g.types c fs x s) (subst (HasKind (globals_under choice g) (scope_under choice (arm_scope Known g.types c fs x s)) b) (sym same) k),
        rest.kinds,
      );
      counted = counted_more g.types c fs x b as' h.con h.is rest.counted;
      new = (subst (λ n. not (is_in n earlier) ≡ true) (sym number) h.new, rest.new);
    }

-- a whole match
match_sound : (choice : Choice) (g : Globals Guess) (s : Scope Guess) (e : Expression) (c : Name) (fs : List (Option Name)) (x : ArmCell) (b : Expression) (as' : Arms) (l : ℕ)
    → HasKind (globals_under choice g) (scope_under choice s) e (under choice (guess g s e))
    → (h : HeadHolds choice g.types [] (λ con. Same (con_guess g.types con) (guess g s e) c.line) c fs x)
    → HasKind (globals_under choice g) (scope_under choice (arm_scope Known g.types c fs x s)) b (under choice (guess g (arm_scope Known g.types c fs x s) b))
    → ((t : ℕ) → type_of g.types (first_number g.types c) ≡ Some t → ArmsSound choice g s (first_number g.types c ∷ []) t (guess g (arm_scope Known g.types c fs x s) b) as')
    → AllHold choice (missing_steps g.types (first_number g.types c ∷ arm_numbers g.types as') l (cons_of_type g.types (first_number g.types c)))
    → HasKind (globals_under choice g) (scope_under choice s) (Match e (AndArm c fs x b as') l) (under choice (guess g s (Match e (AndArm c fs x b as') l)))
match_sound choice g s e c fs x b as' l ke h kb arms missing =
    let number : first_number g.types c ≡ h.con = ap (λ o. or_else o 0) h.is in
    let own = owned g.types c.word h.con h.is in
    let first : type_of g.types (first_number g.types c) ≡ Some own.0 = ap (type_of g.types) number ∙ own.1 in
    let rest = arms own.0 first in
    let counted = counted_more g.types c fs x b as' h.con h.is rest.counted in
    let cons : cons_of_type g.types (first_number g.types c) ≡ numbers_of g.types own.0 = ap (λ o. option_map_or (numbers_of g.types) o []) first in
    let there : List ℕ = first_number g.types c ∷ arm_numbers g.types as' in
    let once : (con : ℕ) → times con there ≤ 1 = λ con. at_most_once con [] there (omega arith) (refl, rest.new) in (
      own.0,
      subst (HasKind (globals_under choice g) (scope_under choice s) e) (sym h.same ∙ ap (under choice) (con_kind choice g.types h.con own.0 own.1)) ke,
      subst (AllByRecursion (λ con. arms_with g.types con (AndArm c fs x b as') ≡ 1)) cons
          (covers g.types (cons_of_type g.types (first_number g.types c)) there (AndArm c fs x b as') counted.same once (missing_all choice g.types there l (cons_of_type g.types (first_number g.types c)) missing)),
      (
        head_fits choice g.types [] (λ con. Same (con_guess g.types con) (guess g s e) c.line) c fs x own.0 h own.1,
        subst (λ inner. HasKind (globals_under choice g) inner b (under choice (guess g (arm_scope Known g.types c fs x s) b))) (arm_under choice g.types c fs x s) kb,
        rest.kinds,
      ),
    )

-- ---- a build and a call

build_sound : (choice : Choice) (g : Globals Guess) (s : Scope Guess) (c : Name) (es : Expressions) (place : Option Name) (o : Option ℕ)
    → constructor_number g.types c.word ≡ o
    → ((ts : List Guess) → argument_count es ≡ length ts → AllHold choice (same_steps g s es ts) → HaveKinds (globals_under choice g) (scope_under choice s) es (map (under choice) ts))
    → AllHold choice (build_steps g s c es place o) → HasKind (globals_under choice g) (scope_under choice s) (Build c es place) (under choice (guess g s (Build c es place)))
build_sound choice g s c es place None e f h = let q : false ≡ true = h.0 in cc
build_sound choice g s c es place (Some con) e f h =
    let ts : List Guess = map Known (fields_of g.types con) in
    let n : argument_count es ≡ length ts = same_count (argument_count es) (length (fields_of g.types con)) h.0 ∙ sym (length_known (fields_of g.types con)) in
    let rest = h.1.1 in
    let known = all_front choice (place_known s place) (same_steps g s es ts ++ place_same s place) rest in
    let sames = all_back choice (place_known s place) (same_steps g s es ts ++ place_same s place) rest in
    let own = owned g.types c.word con e in
    let kind_is : built_kind g.types con ≡ Some (kind.Of own.0) = ap (option_map kind.Of) own.1 in
    let out : or_else (built_kind g.types (or_else (constructor_number g.types c.word) 0)) kind.Int ≡ kind.Of own.0 = ap (λ o. or_else (built_kind g.types (or_else o 0)) kind.Int) e ∙ ap (λ o. or_else o kind.Int) kind_is in (
      con,
      e,
      kind_is ∙ ap Some (sym out),
      subst (HaveKinds (globals_under choice g) (scope_under choice s) es) (all_known choice (fields_of g.types con)) (f ts n (all_front choice (same_steps g s es ts) (place_same s place) sames)),
      place_holds choice s (is_inline g.types con) place h.1.0 known (all_back choice (same_steps g s es ts) (place_same s place) sames),
    )

call_sound : (choice : Choice) (g : Globals Guess) (s : Scope Guess) (f : Name) (es : Expressions) (o : Option (Head Guess)) → head_of g.heads f.word ≡ o
    → ((ts : List Guess) → argument_count es ≡ length ts → AllHold choice (same_steps g s es ts) → HaveKinds (globals_under choice g) (scope_under choice s) es (map (under choice) ts))
    → AllHold choice (call_steps g s f es o) → HasKind (globals_under choice g) (scope_under choice s) (Call f es) (under choice (guess g s (Call f es)))
call_sound choice g s f es None e k h = let q : false ≡ true = h.0 in cc
call_sound choice g s f es (Some d) e k h = (
  head_under choice d,
  head_of_under choice g.heads f.word ∙ ap (option_map (head_under choice)) e,
  ap (λ o. under choice (option_map_or (λ h. h.result) o (Known kind.Int))) (sym e),
  k d.params (same_count (argument_count es) (length d.params) h.0) h.1,
)

-- ---- steps that hold give kinds

mutual
  pub sound : (choice : Choice) (g : Globals Guess) (s : Scope Guess) (e : Expression) → AllHold choice (steps g s e)
      → HasKind (globals_under choice g) (scope_under choice s) e (under choice (guess g s e))
  sound choice g s (Num z l) h = refl
  sound choice g s (Truth b l) h = refl
  sound choice g s (Var n) h = known_name choice s n.word h.0
  sound choice g s (Prim op a b l) h =
      let tests : List Step = Same (guess g s a) (Known kind.Int) (line_of a) ∷ Same (guess g s b) (Known kind.Int) (line_of b) ∷ [] in
      let ha = all_front choice (steps g s a) (steps g s b ++ tests) h in
      let hb = all_back choice (steps g s a) (steps g s b ++ tests) h in
      let ends = all_back choice (steps g s b) tests hb in (
        subst (HasKind (globals_under choice g) (scope_under choice s) a) ends.0 (sound choice g s a ha),
        subst (HasKind (globals_under choice g) (scope_under choice s) b) ends.1.0 (sound choice g s b (all_front choice (steps g s b) tests hb)),
        refl,
      )
  sound choice g s (If c a b l) h =
      let last : List Step = Same (guess g s a) (guess g s b) (line_of b) ∷ [] in
      let first : Step = Same (guess g s c) (Known kind.Flag) (line_of c) in
      let hc = all_front choice (steps g s c) (first ∷ (steps g s a ++ (steps g s b ++ last))) h in
      let after = all_back choice (steps g s c) (first ∷ (steps g s a ++ (steps g s b ++ last))) h in
      let ha = all_front choice (steps g s a) (steps g s b ++ last) after.1 in
      let behind = all_back choice (steps g s a) (steps g s b ++ last) after.1 in
      let ends = all_back choice (steps g s b) last behind in (
        subst (HasKind (globals_under choice g) (scope_under choice s) c) after.0 (sound choice g s c hc),
        sound choice g s a ha,
        subst (HasKind (globals_under choice g) (scope_under choice s) b) (sym ends.0) (sound choice g s b (all_front choice (steps g s b) last behind)),
      )
  sound choice g s (Let n e b) h =
      let inner : Scope Guess = bind n.word (guess g s e) s in (
        under choice (guess g s e),
        sound choice g s e (all_front choice (steps g s e) (steps g inner b) h),
        sound choice g inner b (all_back choice (steps g s e) (steps g inner b) h),
      )
  sound choice g s (Match e NoArms l) h = let q = all_back choice (steps g s e) _ h in let c : false ≡ true = q.0 in cc
  sound choice g s (Match e (AndArm c fs x b as') l) h =
      let first : ℕ = first_number g.types c in
      let inner : Scope Guess = arm_scope Known g.types c fs x s in
      let against : ℕ → Step = λ con. Same (con_guess g.types con) (guess g s e) c.line in
      let heads : List Step = head_steps g.types [] against c fs x (constructor_number g.types c.word) in
      let missing : List Step = missing_steps g.types (first ∷ arm_numbers g.types as') l (cons_of_type g.types first) in
      let rest : List Step = arms_steps g s (first ∷ []) first (guess g inner b) as' in
      let h1 = all_back choice (steps g s e) (heads ++ (steps g inner b ++ (rest ++ missing))) h in
      let h2 = all_back choice heads (steps g inner b ++ (rest ++ missing)) h1 in
      let h3 = all_back choice (steps g inner b) (rest ++ missing) h2 in
      match_sound choice g s e c fs x b as' l
      (sound choice g s e (all_front choice (steps g s e) (heads ++ (steps g inner b ++ (rest ++ missing))) h))
      (head_holds choice g.types [] against c fs x (constructor_number g.types c.word) refl (all_front choice heads (steps g inner b ++ (rest ++ missing)) h1))
      (sound choice g inner b (all_front choice (steps g inner b) (rest ++ missing) h2))
      (λ t o. sound_arms choice g s (first ∷ []) first t (guess g inner b) as' o (all_front choice rest missing h3))
      (all_back choice rest missing h3)
  sound choice g s (Build c es place) h =
      let last : List Step = build_steps g s c es place (constructor_number g.types c.word) in
      build_sound choice g s c es place (constructor_number g.types c.word) refl
      (λ ts n k. sound_all choice g s es ts n (all_front choice (all_steps g s es) last h) k) (all_back choice (all_steps g s es) last h)
  sound choice g s (Call f es) h =
      let last : List Step = call_steps g s f es (head_of g.heads f.word) in
      call_sound choice g s f es (head_of g.heads f.word) refl
      (λ ts n k. sound_all choice g s es ts n (all_front choice (all_steps g s es) last h) k) (all_back choice (all_steps g s es) last h)

  pub sound_all : (choice : Choice) (g : Globals Guess) (s : Scope Guess) (es : Expressions) (ts : List Guess) → argument_count es ≡ length ts
      → AllHold choice (all_steps g s es) → AllHold choice (same_steps g s es ts)
      → HaveKinds (globals_under choice g) (scope_under choice s) es (map (under choice) ts)
  sound_all choice g s NoExpressions [] n h k = tt
  sound_all choice g s NoExpressions (t ∷ ts) n h k = absurd (omega (arith, n))
  sound_all choice g s (AndExpression e es) [] n h k = absurd (omega (arith, n))
  sound_all choice g s (AndExpression e es) (t ∷ ts) n h k = (
    subst (HasKind (globals_under choice g) (scope_under choice s) e) k.0 (sound choice g s e (all_front choice (steps g s e) (all_steps g s es) h)),
    sound_all choice g s es ts (omega (arith, n)) (all_back choice (steps g s e) (all_steps g s es) h) k.1,
  )

  pub sound_arms : (choice : Choice) (g : Globals Guess) (s : Scope Guess) (earlier : List ℕ) (first t : ℕ) (body : Guess) (as' : Arms)
      → type_of g.types first ≡ Some t
      → AllHold choice (arms_steps g s earlier first body as') → ArmsSound choice g s earlier t body as'
  sound_arms choice g s earlier first t body NoArms o h = record { kinds = tt; counted = record { same = λ con. refl }; new = tt }
  sound_arms choice g s earlier first t body (AndArm c fs x b as') o h =
      let inner : Scope Guess = arm_scope Known g.types c fs x s in
      let against : ℕ → Step = λ con. Same (con_guess g.types first) (con_guess g.types con) c.line in
      let heads : List Step = head_steps g.types earlier against c fs x (constructor_number g.types c.word) in
      let more : List Step = arms_steps g s (earlier ++ first_number g.types c ∷ []) first body as' in
      let last : Step = Same body (guess g inner b) (line_of b) in
      let h1 = all_back choice heads (steps g inner b ++ (last ∷ more)) h in
      let h2 = all_back choice (steps g inner b) (last ∷ more) h1 in
      arm_sound choice g s earlier first t body c fs x b as' o
      (head_holds choice g.types earlier against c fs x (constructor_number g.types c.word) refl (all_front choice heads (steps g inner b ++ (last ∷ more)) h))
      (sound choice g inner b (all_front choice (steps g inner b) (last ∷ more) h1))
      h2.0 (sound_arms choice g s (earlier ++ first_number g.types c ∷ []) first t body as' o h2.1)

-- ---- kinds make steps hold

-- the steps hold, and the guess is this kind under the choice
pub record Judged (choice : Choice) (g : Globals Guess) (s : Scope Guess) (e : Expression) (k : Kind) : Type 0 where
  pub hold : AllHold choice (steps g s e)
  pub is : under choice (guess g s e) ≡ k

-- those of arguments, for what is needed
pub record AllJudged (choice : Choice) (g : Globals Guess) (s : Scope Guess) (es : Expressions) (ts : List Guess) : Type 0 where
  pub hold : AllHold choice (all_steps g s es)
  pub count_is : argument_count es ≡ length ts
  pub same : AllHold choice (same_steps g s es ts)

-- an arm's head fits, for a type whose constructors are compared so
head_complete : (choice : Choice) (types : List DataType) (earlier : List ℕ) (against : ℕ → Step) (c : Name) (fs : List (Option Name)) (x : ArmCell) (t : ℕ) (h : HeadFits types t c fs x)
    → not (is_in h.con earlier) ≡ true → Holds choice (against h.con) → HeadHolds choice types earlier against c fs x
head_complete choice types earlier against c fs x t h new same = record { con = h.con; is = h.is; new = new; same = same; full = h.full; place = h.place; distinct = h.distinct }

counted_kinds : (g : Globals Guess) (choice : Choice) (s : Scope Guess) (t : ℕ) (as' : Arms) (k : Kind)
    → ArmsHaveKind (globals_under choice g) (scope_under choice s) t as' k → ArmsCounted g.types as'
counted_kinds g choice s t NoArms k h = record { same = λ con. refl }
counted_kinds g choice s t (AndArm c fs x b as') k h = counted_more g.types c fs x b as' h.0.con h.0.is (counted_kinds g choice s t as' k h.2)

build_complete : (choice : Choice) (g : Globals Guess) (s : Scope Guess) (c : Name) (es : Expressions) (place : Option Name) (k : Kind) (con : ℕ)
    → constructor_number g.types c.word ≡ Some con → built_kind g.types con ≡ Some k
    → AllJudged choice g s es (map Known (fields_of g.types con)) → PlaceFits (scope_under choice s) (is_inline g.types con) place → Judged choice g s (Build c es place) k
build_complete choice g s c es place k con e b all fits =
    let p = holds_place choice s (is_inline g.types con) place fits in
    let ts : List Guess = map Known (fields_of g.types con) in
    record {
      hold = all_both choice (all_steps g s es) (build_steps g s c es place (constructor_number g.types c.word)) all.hold (subst (λ o. AllHold choice (build_steps g s c es place o)) (sym e) (
        count_same (argument_count es) (length (fields_of g.types con)) (all.count_is ∙ length_known (fields_of g.types con)),
        (p.test, all_both choice (place_known s place) (same_steps g s es ts ++ place_same s place) p.known (all_both choice (same_steps g s es ts) (place_same s place) all.same p.same)),
      ));
      is = ap (λ o. or_else (built_kind g.types (or_else o 0)) kind.Int) e ∙ ap (λ o. or_else o kind.Int) b;
    }

-- a function that is known under a choice is known
pub record HeadKnown (choice : Choice) (g : Globals Guess) (f : List ℕ) (h : Signature) : Type 0 where
  pub head : Head Guess
  pub is : head_of g.heads f ≡ Some head
  pub signature : head_under choice head ≡ h

head_known : (choice : Choice) (g : Globals Guess) (f : List ℕ) (h : Signature) → head_of (globals_under choice g).heads f ≡ Some h → HeadKnown choice g f h
head_known choice g f h e = by_option (head_of g.heads f) refl (sym (head_of_under choice g.heads f) ∙ e)
  where
    by_option : (o : Option (Head Guess)) → head_of g.heads f ≡ o → option_map (head_under choice) o ≡ Some h → HeadKnown choice g f h
    by_option None q k = cc
    by_option (Some d) q k = let same : head_under choice d ≡ h = cc in record { head = d; is = q; signature = same }

call_complete : (choice : Choice) (g : Globals Guess) (s : Scope Guess) (f : Name) (es : Expressions) (k : Kind) (h : Signature)
    → (n : HeadKnown choice g f.word h) → h.result ≡ k → AllJudged choice g s es n.head.params
    → Judged choice g s (Call f es) k
call_complete choice g s f es k h n r all = record {
  hold = all_both choice (all_steps g s es) (call_steps g s f es (head_of g.heads f.word)) all.hold
      (subst (λ o. AllHold choice (call_steps g s f es o)) (sym n.is) (count_same (argument_count es) (length n.head.params) all.count_is, all.same));
  is = ap (λ o. under choice (option_map_or (λ h. h.result) o (Known kind.Int))) n.is ∙ ap (λ h. h.result) n.signature ∙ r;
}

-- the arms behind the first one
arm_complete : (choice : Choice) (g : Globals Guess) (s : Scope Guess) (earlier : List ℕ) (first t : ℕ) (body : Guess) (c : Name) (fs : List (Option Name)) (x : ArmCell) (b : Expression) (as' : Arms) (k : Kind)
    → type_of g.types first ≡ Some t → under choice body ≡ k → (h : HeadFits g.types t c fs x)
    → times h.con (earlier ++ arm_numbers g.types (AndArm c fs x b as')) ≤ 1
    → Judged choice g (arm_scope Known g.types c fs x s) b k
    → AllHold choice (arms_steps g s (earlier ++ first_number g.types c ∷ []) first body as') → AllHold choice (arms_steps g s earlier first body (AndArm c fs x b as'))
arm_complete choice g s earlier first t body c fs x b as' k o e h once j rest =
    let inner : Scope Guess = arm_scope Known g.types c fs x s in
    let against : ℕ → Step = λ con. Same (con_guess g.types first) (con_guess g.types con) c.line in
    let heads : List Step = head_steps g.types earlier against c fs x (constructor_number g.types c.word) in
    let number : first_number g.types c ≡ h.con = ap (λ q. or_else q 0) h.is in
    let new : not (is_in h.con earlier) ≡ true = not_repeated h.con earlier (arm_numbers g.types as') (subst (λ n. times h.con (earlier ++ n ∷ arm_numbers g.types as') ≤ 1) number once) in
    let same : Holds choice (against h.con) = ap (under choice) (con_kind choice g.types first t o) ∙ sym (ap (under choice) (con_kind choice g.types h.con t h.owned)) in
    let last : Step = Same body (guess g inner b) (line_of b) in
    let more : List Step = arms_steps g s (earlier ++ first_number g.types c ∷ []) first body as' in
    all_both choice heads (steps g inner b ++ (last ∷ more)) (holds_head choice g.types earlier against c fs x (head_complete choice g.types earlier against c fs x t h new same))
    (all_both choice (steps g inner b) (last ∷ more) j.hold (e ∙ sym j.is, rest))

match_complete : (choice : Choice) (g : Globals Guess) (s : Scope Guess) (e : Expression) (c : Name) (fs : List (Option Name)) (x : ArmCell) (b : Expression) (as' : Arms) (l : ℕ) (k : Kind) (t : ℕ)
    → Judged choice g s e (kind.Of t) → Covers g.types t (AndArm c fs x b as') → (h : HeadFits g.types t c fs x)
    → Judged choice g (arm_scope Known g.types c fs x s) b k → ArmsCounted g.types as'
    → ((first : ℕ) → type_of g.types first ≡ Some t → ((con : ℕ) → type_of g.types con ≡ Some t → times con (first ∷ arm_numbers g.types as') ≤ 1)
    → AllHold choice (arms_steps g s (first ∷ []) first (guess g (arm_scope Known g.types c fs x s) b) as'))
    → Judged choice g s (Match e (AndArm c fs x b as') l) k
match_complete choice g s e c fs x b as' l k t je covered h jb counts arms =
    let first : ℕ = first_number g.types c in
    let inner : Scope Guess = arm_scope Known g.types c fs x s in
    let against : ℕ → Step = λ con. Same (con_guess g.types con) (guess g s e) c.line in
    let heads : List Step = head_steps g.types [] against c fs x (constructor_number g.types c.word) in
    let number : first ≡ h.con = ap (λ q. or_else q 0) h.is in
    let owner : type_of g.types first ≡ Some t = ap (type_of g.types) number ∙ h.owned in
    let counted = counted_more g.types c fs x b as' h.con h.is counts in
    let there : List ℕ = first ∷ arm_numbers g.types as' in
    let cons : cons_of_type g.types first ≡ numbers_of g.types t = ap (λ o. option_map_or (numbers_of g.types) o []) owner in
    let some = some_of_covers g.types (numbers_of g.types t) there (AndArm c fs x b as') counted.same covered in
    let once : (con : ℕ) → type_of g.types con ≡ Some t → times con there ≤ 1 =
    λ con o. let one : times con there ≡ 1 = sym (counted.same con) ∙ among_numbers (λ n. arms_with g.types n (AndArm c fs x b as') ≡ 1) g.types con t o covered in omega (arith, one) in
    let missing : List Step = missing_steps g.types there l (cons_of_type g.types first) in
    let rest : List Step = arms_steps g s (first ∷ []) first (guess g inner b) as' in
    let same : Holds choice (against h.con) = ap (under choice) (con_kind choice g.types h.con t h.owned) ∙ sym je.is in
    record {
      hold = all_both choice (steps g s e) (heads ++ (steps g inner b ++ (rest ++ missing))) je.hold
          (all_both choice heads (steps g inner b ++ (rest ++ missing)) (holds_head choice g.types [] against c fs x (head_complete choice g.types [] against c fs x t h refl same))
          (all_both choice (steps g inner b) (rest ++ missing) jb.hold
          (all_both choice rest missing (arms first owner once)
          (all_missing choice g.types there l (cons_of_type g.types first) (subst (AllByRecursion (λ con. 1 ≤ times con there)) (sym cons) some)))));
      is = jb.is;
    }

mutual
  pub complete : (choice : Choice) (g : Globals Guess) (s : Scope Guess) (e : Expression) (k : Kind)
      → HasKind (globals_under choice g) (scope_under choice s) e k → Judged choice g s e k
  complete choice g s (Num z l) k h = record { hold = tt; is = sym h }
  complete choice g s (Truth b l) k h = record { hold = tt; is = sym h }
  complete choice g s (Var n) k h = let q = name_known choice s n.word k h in record { hold = (q.there, tt); is = q.is }
  complete choice g s (Prim op a b l) k h =
      let ja = complete choice g s a kind.Int h.0 in
      let jb = complete choice g s b kind.Int h.1 in
      let tests : List Step = Same (guess g s a) (Known kind.Int) (line_of a) ∷ Same (guess g s b) (Known kind.Int) (line_of b) ∷ [] in
      record { hold = all_both choice (steps g s a) (steps g s b ++ tests) ja.hold (all_both choice (steps g s b) tests jb.hold (ja.is, (jb.is, tt))); is = sym h.2 }
  complete choice g s (If c a b l) k h =
      let jc = complete choice g s c kind.Flag h.0 in
      let ja = complete choice g s a k h.1 in
      let jb = complete choice g s b k h.2 in
      let last : List Step = Same (guess g s a) (guess g s b) (line_of b) ∷ [] in
      let first : Step = Same (guess g s c) (Known kind.Flag) (line_of c) in
      record {
        hold = all_both choice (steps g s c) (first ∷ (steps g s a ++ (steps g s b ++ last))) jc.hold
            (jc.is, all_both choice (steps g s a) (steps g s b ++ last) ja.hold (all_both choice (steps g s b) last jb.hold (ja.is ∙ sym jb.is, tt)));
        is = ja.is;
      }
  complete choice g s (Let n e b) k h =
      let je = complete choice g s e h.0 h.1 in
      let inner : Scope Guess = bind n.word (guess g s e) s in
      let jb = complete choice g inner b k (subst (λ q. HasKind (globals_under choice g) (bind n.word q (scope_under choice s)) b k) (sym je.is) h.2) in
      record { hold = all_both choice (steps g s e) (steps g inner b) je.hold jb.hold; is = jb.is }
  complete choice g s (Match e NoArms l) k h = absurd h
  complete choice g s (Match e (AndArm c fs x b as') l) k h =
      let je = complete choice g s e (kind.Of h.0) h.1 in
      let fits = h.3 in
      let jb = complete choice g (arm_scope Known g.types c fs x s) b k (subst (λ inner. HasKind (globals_under choice g) inner b k) (sym (arm_under choice g.types c fs x s)) fits.1) in
      match_complete choice g s e c fs x b as' l k h.0 je h.2 fits.0 jb (counted_kinds g choice s h.0 as' k fits.2)
      (λ first o once. complete_arms choice g s (first ∷ []) first h.0 (guess g (arm_scope Known g.types c fs x s) b) as' k o jb.is fits.2 once)
  complete choice g s (Build c es place) k h =
      build_complete choice g s c es place k h.0 h.1 h.2
      (complete_all choice g s es (map Known (fields_of g.types h.0)) (subst (HaveKinds (globals_under choice g) (scope_under choice s) es) (sym (all_known choice (fields_of g.types h.0))) h.3)) h.4
  complete choice g s (Call f es) k h =
      let n = head_known choice g f.word h.0 h.1 in
      call_complete choice g s f es k h.0 n h.2
      (complete_all choice g s es n.head.params (subst (HaveKinds (globals_under choice g) (scope_under choice s) es) (sym (ap (λ d. d.params) n.signature)) h.3))

  pub complete_all : (choice : Choice) (g : Globals Guess) (s : Scope Guess) (es : Expressions) (ts : List Guess)
      → HaveKinds (globals_under choice g) (scope_under choice s) es (map (under choice) ts) → AllJudged choice g s es ts
  complete_all choice g s NoExpressions [] h = record { hold = tt; count_is = refl; same = tt }
  complete_all choice g s NoExpressions (t ∷ ts) h = absurd h
  complete_all choice g s (AndExpression e es) [] h = absurd h
  complete_all choice g s (AndExpression e es) (t ∷ ts) h =
      let j = complete choice g s e (under choice t) h.0 in
      let js = complete_all choice g s es ts h.1 in
      record { hold = all_both choice (steps g s e) (all_steps g s es) j.hold js.hold; count_is = ap suc js.count_is; same = (j.is, js.same) }

  pub complete_arms : (choice : Choice) (g : Globals Guess) (s : Scope Guess) (earlier : List ℕ) (first t : ℕ) (body : Guess) (as' : Arms) (k : Kind)
      → type_of g.types first ≡ Some t → under choice body ≡ k
      → ArmsHaveKind (globals_under choice g) (scope_under choice s) t as' k → ((con : ℕ) → type_of g.types con ≡ Some t → times con (earlier ++ arm_numbers g.types as') ≤ 1)
      → AllHold choice (arms_steps g s earlier first body as')
  complete_arms choice g s earlier first t body NoArms k o e h once = tt
  complete_arms choice g s earlier first t body (AndArm c fs x b as') k o e h once =
      let jb = complete choice g (arm_scope Known g.types c fs x s) b k (subst (λ inner. HasKind (globals_under choice g) inner b k) (sym (arm_under choice g.types c fs x s)) h.1) in
      arm_complete choice g s earlier first t body c fs x b as' k o e h.0 (once h.0.con h.0.owned) jb
      (complete_arms choice g s (earlier ++ first_number g.types c ∷ []) first t body as' k o e h.2
      (λ con q. subst (λ ns. times con ns ≤ 1) (sym (append_assoc earlier (first_number g.types c ∷ []) (arm_numbers g.types as'))) (once con q)))
