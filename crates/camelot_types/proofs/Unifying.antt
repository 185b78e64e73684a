-- The run of steps over a table finds the first fault, or a choice that is the only one where it isn't free.
use Rattle.std.proofs.Common.{◌≡◌, ℕ, zero, suc, ◌<◌, Bool, true, false, List, [], ◌∷◌, ◌++◌, map, length, get_or, refl, sym, ap, ◌∙◌, subst, arith, append_assoc}
use Rattle.std.specs.Prelude.{◌==◌, if◌then◌else◌, nat_lt}
use Rattle.std.specs.List.{AllByRecursion}
use Rattle.std.proofs.lemmas.Bool.{eqb-true, ltb-true, lt-ltb}
use Rattle.std.proofs.lemmas.Bool.Decides.{nat_tests}
use Rattle.camelot_values.specs.Kinds.{DataType, same_kind}
use Rattle.camelot_values.specs.declared.kinds.Kind.{Kind}
use Rattle.camelot_values.specs.declared.kinds.Kind.TheVariants as kind
use Rattle.camelot_typing.specs.Typing.{IsDeclared}
use Rattle.camelot_types.specs.declared.fault.TypeFault.{TypeFault}
use Rattle.camelot_types.specs.declared.fault.TypeFault.TheVariants.{Clash}
use Rattle.camelot_types.specs.declared.guess.Guess.{Guess}
use Rattle.camelot_types.specs.declared.guess.Guess.TheVariants.{Known, Unknown}
use Rattle.camelot_types.specs.Walk.{Step, Must, Same, Choice, under, Holds, AllHold, kind_name, Clashes, FailsWith, IsFirstFault}
use Rattle.camelot_types.specs.Solving.{Walked, Goes, Stops, and_then, looked_up, replaced, unified, made_same, step_done, run, closed}

abbrev stopped : TypeFault → Walked (List Guess)
stopped fault = Stops fault

-- ---- kinds

pub same_kind_is : (k q : Kind) → same_kind k q ≡ true → k ≡ q
same_kind_is kind.Int kind.Int h = refl
same_kind_is kind.Int kind.Flag h = cc
same_kind_is kind.Int kind.Dia h = cc
same_kind_is kind.Int (kind.Of u) h = cc
same_kind_is kind.Flag kind.Int h = cc
same_kind_is kind.Flag kind.Flag h = refl
same_kind_is kind.Flag kind.Dia h = cc
same_kind_is kind.Flag (kind.Of u) h = cc
same_kind_is kind.Dia kind.Int h = cc
same_kind_is kind.Dia kind.Flag h = cc
same_kind_is kind.Dia kind.Dia h = refl
same_kind_is kind.Dia (kind.Of u) h = cc
same_kind_is (kind.Of t) kind.Int h = cc
same_kind_is (kind.Of t) kind.Flag h = cc
same_kind_is (kind.Of t) kind.Dia h = cc
same_kind_is (kind.Of t) (kind.Of u) h = ap kind.Of (eqb-true t u h)

kind_itself : (k : Kind) → same_kind k k ≡ true
kind_itself kind.Int = refl
kind_itself kind.Flag = refl
kind_itself kind.Dia = refl
kind_itself (kind.Of t) = grind (arith, nat_tests)

-- ---- tables

-- every unknown is as the table has it
abbrev pub Respects : Choice → List Guess → Type 0
Respects choice table = (x : ℕ) → choice x ≡ under choice (looked_up table (Unknown x))

-- what the table has is looked up already
abbrev pub IsSettled : List Guess → Type 0
IsSettled table = (x : ℕ) → looked_up table (looked_up table (Unknown x)) ≡ looked_up table (Unknown x)

-- a guess that the table speaks of, or a kind whose type is declared
abbrev pub IsWithin : List DataType → ℕ → Guess → Type 0
IsWithin types n (Known k) = IsDeclared types k
IsWithin types n (Unknown x) = x < n

abbrev pub StepWithin : List DataType → ℕ → Step → Type 0
StepWithin types n (Must test fault) = Unit {0}
StepWithin types n (Same left right line) = IsWithin types n left × IsWithin types n right

-- an unknown in the table isn't above it
abbrev pub TableWithin : List DataType → List Guess → Type 0
TableWithin types table = (x : ℕ) → x < length table → IsWithin types (length table) (looked_up table (Unknown x))

pub record IsSafe (types : List DataType) (table : List Guess) : Type 0 where
  pub settled : IsSettled table
  pub within : TableWithin types table

looked_twice : (table : List Guess) (a : Guess) → IsSettled table → looked_up table (looked_up table a) ≡ looked_up table a
looked_twice table (Known k) h = refl
looked_twice table (Unknown x) h = h x

under_looked : (choice : Choice) (table : List Guess) (a : Guess) → Respects choice table → under choice a ≡ under choice (looked_up table a)
under_looked choice table (Known k) h = refl
under_looked choice table (Unknown x) h = h x

within_looked : (types : List DataType) (table : List Guess) (a : Guess) → TableWithin types table → IsWithin types (length table) a
    → IsWithin types (length table) (looked_up table a)
within_looked types table (Known k) h w = w
within_looked types table (Unknown x) h w = h x w

-- ---- an unknown is replaced

get_map : (f : Guess → Guess) (table : List Guess) (x : ℕ) (d : Guess) → x < length table → get_or (map f table) x d ≡ f (get_or table x d)
get_map f [] x d h = absurd (omega (arith, h))
get_map f (g ∷ table) zero d h = refl
get_map f (g ∷ table) (suc x) d h = get_map f table x d (omega arith)

pub get_past : {A : Type 0} (xs : List A) (x : ℕ) (d : A) → (x < length xs → ⊥) → get_or xs x d ≡ d
get_past [] x d h = refl
get_past (y ∷ xs) zero d h = absurd (h (omega arith))
get_past (y ∷ xs) (suc x) d h = get_past xs x d (λ k. h (omega arith))

length_map : (f : Guess → Guess) (table : List Guess) → length (map f table) ≡ length table
length_map f [] = refl
length_map f (g ∷ table) = ap suc (length_map f table)

same_number : (x y : ℕ) → (x == y) ≡ true → x ≡ y
same_number x y h = eqb-true x y h

number_itself : (x : ℕ) → (x == x) ≡ true
number_itself x = grind (arith, nat_tests)

-- the choices that a replacement keeps
under_replaced : (choice : Choice) (x : ℕ) (new a : Guess) → choice x ≡ under choice new → under choice (replaced x new a) ≡ under choice a
under_replaced choice x new (Known k) h = refl
under_replaced choice x new (Unknown y) h = by_test (y == x) refl
  where
    by_test : (b : Bool) → (y == x) ≡ b → under choice (if b then new else Unknown y) ≡ choice y
    by_test true e = sym h ∙ ap choice (sym (same_number y x e))
    by_test false e = refl

within_replaced : (types : List DataType) (n x : ℕ) (new a : Guess) → IsWithin types n new → IsWithin types n a → IsWithin types n (replaced x new a)
within_replaced types n x new (Known k) h w = w
within_replaced types n x new (Unknown y) h w = by_test (y == x)
  where
    by_test : (b : Bool) → IsWithin types n (if b then new else Unknown y)
    by_test true = h
    by_test false = w

-- what stands in a table with an unknown replaced
looked_replaced : (table : List Guess) (x y : ℕ) (new : Guess) → x < length table
    → looked_up (map (replaced x new) table) (Unknown y) ≡ replaced x new (looked_up table (Unknown y))
looked_replaced table x y new h = by_test (nat_lt y (length table)) refl
  where
    apart : (y < length table → ⊥) → (b : Bool) → (y == x) ≡ b → Unknown y ≡ (if b then new else Unknown y)
    apart far true e = let k : y ≡ x = same_number y x e in absurd (far (omega (arith, k, h)))
    apart far false e = refl

    by_test : (b : Bool) → nat_lt y (length table) ≡ b → looked_up (map (replaced x new) table) (Unknown y) ≡ replaced x new (looked_up table (Unknown y))
    by_test true e =
        let l : y < length table = ltb-true y (length table) e in
        get_map (replaced x new) table y (Unknown y) l
    by_test false e =
        let far : y < length table → ⊥ = λ l. let k : nat_lt y (length table) ≡ true = lt-ltb y (length table) l in let c : true ≡ false = sym k ∙ e in cc in
        get_past (map (replaced x new) table) y (Unknown y) (λ l. far (omega (arith, l, length_map (replaced x new) table)))
        ∙ apart far (y == x) refl ∙ sym (ap (replaced x new) (get_past table y (Unknown y) far))

get_map_past : (f : Guess → Guess) (table : List Guess) (x : ℕ) (d e : Guess) → x < length table → get_or (map f table) x d ≡ f (get_or table x e)
get_map_past f [] x d e h = absurd (omega (arith, h))
get_map_past f (g ∷ table) zero d e h = refl
get_map_past f (g ∷ table) (suc x) d e h = get_map_past f table x d e (omega arith)

-- an unknown that stands for itself
abbrev pub IsFree : List Guess → ℕ → Type 0
IsFree table x = looked_up table (Unknown x) ≡ Unknown x

respects_replaced : (choice : Choice) (table : List Guess) (x : ℕ) (new : Guess) → x < length table → Respects choice table
    → choice x ≡ under choice new → Respects choice (map (replaced x new) table)
respects_replaced choice table x new l h e y =
    h y ∙ sym (under_replaced choice x new (looked_up table (Unknown y)) e) ∙ ap (under choice) (sym (looked_replaced table x y new l))

replaced_itself : (x : ℕ) (new : Guess) → replaced x new (Unknown x) ≡ new
replaced_itself x new = ap (λ b. if b then new else Unknown x) (number_itself x)

new_is : (choice : Choice) (table : List Guess) (x : ℕ) (new : Guess) → x < length table → IsFree table x
    → Respects choice (map (replaced x new) table) → choice x ≡ under choice new
new_is choice table x new l free h = h x ∙ ap (under choice) (looked_replaced table x x new l ∙ ap (replaced x new) free ∙ replaced_itself x new)

respects_before : (choice : Choice) (table : List Guess) (x : ℕ) (new : Guess) → x < length table → IsFree table x
    → Respects choice (map (replaced x new) table) → Respects choice table
respects_before choice table x new l free h y =
    h y ∙ ap (under choice) (looked_replaced table x y new l) ∙ under_replaced choice x new (looked_up table (Unknown y)) (new_is choice table x new l free h)

settled_replaced : (table : List Guess) (x : ℕ) (new : Guess) → x < length table → looked_up table new ≡ new → IsSettled table
    → IsSettled (map (replaced x new) table)
settled_replaced table x new l own h y =
    ap (looked_up (map (replaced x new) table)) (looked_replaced table x y new l) ∙ twice (looked_up table (Unknown y)) (h y) ∙ sym (looked_replaced table x y new l)
  where
    of_new : (a : Guess) → looked_up table a ≡ a → a ≡ new → looked_up (map (replaced x new) table) a ≡ a
    of_new (Known k) o e = refl
    of_new (Unknown w) o e = looked_replaced table x w new l ∙ ap (replaced x new) o ∙ by_test (w == x)
      where
        by_test : (b : Bool) → (if b then new else Unknown w) ≡ Unknown w
        by_test true = sym e
        by_test false = refl

    twice : (a : Guess) → looked_up table a ≡ a → looked_up (map (replaced x new) table) (replaced x new a) ≡ replaced x new a
    twice (Known k) o = refl
    twice (Unknown z) o = by_test (z == x) refl
      where
        by_test : (b : Bool) → (z == x) ≡ b → looked_up (map (replaced x new) table) (if b then new else Unknown z) ≡ (if b then new else Unknown z)
        by_test true e = of_new new own refl
        by_test false e = looked_replaced table x z new l ∙ ap (replaced x new) o ∙ ap (λ b. if b then new else Unknown z) e

within_table : (types : List DataType) (table : List Guess) (x : ℕ) (new : Guess) → x < length table → IsWithin types (length table) new
    → TableWithin types table → TableWithin types (map (replaced x new) table)
within_table types table x new l w h y k =
    let same : length (map (replaced x new) table) ≡ length table = length_map (replaced x new) table in
    let inside : y < length table = omega (arith, k, same) in
    subst (λ a. IsWithin types (length (map (replaced x new) table)) a) (sym (looked_replaced table x y new l))
    (subst (λ n. IsWithin types n (replaced x new (looked_up table (Unknown y)))) (sym same) (within_replaced types (length table) x new (looked_up table (Unknown y)) w (h y inside)))

sound_replaced : (types : List DataType) (table : List Guess) (x : ℕ) (new : Guess) → x < length table → looked_up table new ≡ new
    → IsWithin types (length table) new → IsSafe types table → IsSafe types (map (replaced x new) table)
sound_replaced types table x new l own w s = record { settled = settled_replaced table x new l own s.settled; within = within_table types table x new l w s.within }

-- ---- one step

-- a step that is done: the choices are those of before for which it holds
pub record Did (types : List DataType) (table next : List Guess) (step : Step) : Type 0 where
  pub sound : IsSafe types next
  pub size : length next ≡ length table
  pub keeps : (choice : Choice) → Respects choice table → Holds choice step → Respects choice next
  pub back : (choice : Choice) → Respects choice next → Respects choice table
  pub holds : (choice : Choice) → Respects choice next → Holds choice step

-- two guesses, as the table has them
pub record Looked (types : List DataType) (table : List Guess) (a b : Guess) : Type 0 where
  pub first : Guess
  pub second : Guess
  pub first_is : looked_up table a ≡ first
  pub second_is : looked_up table b ≡ second
  pub first_own : looked_up table first ≡ first
  pub second_own : looked_up table second ≡ second
  pub first_within : IsWithin types (length table) first
  pub second_within : IsWithin types (length table) second

look : (types : List DataType) (table : List Guess) (a b : Guess) → IsSafe types table → IsWithin types (length table) a
    → IsWithin types (length table) b → Looked types table a b
look types table a b s v w = record {
  first = looked_up table a;
  second = looked_up table b;
  first_is = refl;
  second_is = refl;
  first_own = looked_twice table a s.settled;
  second_own = looked_twice table b s.settled;
  first_within = within_looked types table a s.within v;
  second_within = within_looked types table b s.within w;
}

did_nothing : (types : List DataType) (table : List Guess) (step : Step) → IsSafe types table
    → ((choice : Choice) → Respects choice table → Holds choice step) → Did types table table step
did_nothing types table step s h = record { sound = s; size = refl; keeps = λ c r k. r; back = λ c r. r; holds = h }

did_replace : (types : List DataType) (table next : List Guess) (a b : Guess) (line x : ℕ) (new : Guess) → IsSafe types table → x < length table
    → IsFree table x → looked_up table new ≡ new → IsWithin types (length table) new
    → next ≡ map (replaced x new) table
    → ((choice : Choice) → Respects choice table → under choice a ≡ under choice b → choice x ≡ under choice new)
    → ((choice : Choice) → Respects choice table → choice x ≡ under choice new → under choice a ≡ under choice b) → Did types table next (Same a b line)
did_replace types table next a b line x new s l free own w e there back = record {
  sound = subst (IsSafe types) (sym e) (sound_replaced types table x new l own w s);
  size = ap length e ∙ length_map (replaced x new) table;
  keeps = λ c r k. subst (Respects c) (sym e) (respects_replaced c table x new l r (there c r k));
  back = λ c r. respects_before c table x new l free (subst (Respects c) e r);
  holds = λ c r. let q = subst (Respects c) e r in back c (respects_before c table x new l free q) (new_is c table x new l free q);
}

goes_is : {A : Type 0} (a b : A) → Goes a ≡ Goes b → a ≡ b
goes_is a b h = cc

unified_did : (types : List DataType) (table next : List Guess) (a b : Guess) (line : ℕ) (first second : Guess) → IsSafe types table
    → looked_up table a ≡ first → looked_up table b ≡ second → looked_up table first ≡ first → looked_up table second ≡ second → IsWithin types (length table) first → IsWithin types (length table) second
    → unified types table line first second ≡ Goes next → Did types table next (Same a b line)
unified_did types table next a b line (Known k) (Known q) s fi se fo so fw sw h = by_test (same_kind k q) refl h
  where
    by_test : (c : Bool) → same_kind k q ≡ c → (if c then Goes table else Stops (Clash (kind_name types k) (kind_name types q) line)) ≡ Goes next
        → Did types table next (Same a b line)
    by_test true e g =
        let n : table ≡ next = cc in
        subst (λ t. Did types table t (Same a b line)) n
        (did_nothing types table (Same a b line) s (λ c r. under_looked c table a r ∙ ap (under c) fi ∙ same_kind_is k q e ∙ sym (ap (under c) se) ∙ sym (under_looked c table b r)))
    by_test false e g = cc
unified_did types table next a b line (Known k) (Unknown y) s fi se fo so fw sw h =
    did_replace types table next a b line y (Known k) s sw so refl fw (sym (goes_is (map (replaced y (Known k)) table) next h))
    (λ c r e. sym (ap (under c) se) ∙ sym (under_looked c table b r) ∙ sym e ∙ under_looked c table a r ∙ ap (under c) fi)
    (λ c r e. under_looked c table a r ∙ ap (under c) fi ∙ sym e ∙ sym (ap (under c) se) ∙ sym (under_looked c table b r))
unified_did types table next a b line (Unknown x) new s fi se fo so fw sw h =
    did_replace types table next a b line x new s fw fo so sw (sym (goes_is (map (replaced x new) table) next h))
    (λ c r e. sym (ap (under c) fi) ∙ sym (under_looked c table a r) ∙ e ∙ under_looked c table b r ∙ ap (under c) se)
    (λ c r e. under_looked c table a r ∙ ap (under c) fi ∙ e ∙ sym (ap (under c) se) ∙ sym (under_looked c table b r))

pub step_did : (types : List DataType) (table next : List Guess) (step : Step) → IsSafe types table → StepWithin types (length table) step
    → step_done types table step ≡ Goes next → Did types table next step
unfolding made_same
step_did types table next (Must true fault) s w h = let n : table ≡ next = cc in subst (λ t. Did types table t (Must true fault)) n (did_nothing types table (Must true fault) s (λ c r. refl))
step_did types table next (Must false fault) s w h = cc
step_did types table next (Same a b line) s w h =
    let l = look types table a b s w.0 w.1 in
    unified_did types table next a b line l.first l.second s l.first_is l.second_is l.first_own l.second_own l.first_within l.second_within
    (sym (ap (λ x. unified types table line x (looked_up table b)) l.first_is ∙ ap (unified types table line l.first) l.second_is) ∙ h)

-- ---- steps in a row

abbrev pub AllWithin : List DataType → ℕ → List Step → Type 0
AllWithin types n steps = AllByRecursion (StepWithin types n) steps

pub record Ran (types : List DataType) (table next : List Guess) (steps : List Step) : Type 0 where
  pub sound : IsSafe types next
  pub size : length next ≡ length table
  pub keeps : (choice : Choice) → Respects choice table → AllHold choice steps → Respects choice next
  pub back : (choice : Choice) → Respects choice next → Respects choice table
  pub holds : (choice : Choice) → Respects choice next → AllHold choice steps

-- a step is done or stops
abbrev pub StepEnds : List DataType → List Guess → Step → Walked (List Guess) → Type 0
StepEnds types table step (Goes next) = Did types table next step
StepEnds types table step (Stops fault) = Unit {0}

pub run_ran : (types : List DataType) (table next : List Guess) (steps : List Step) → IsSafe types table → AllWithin types (length table) steps
    → run types table steps ≡ Goes next → Ran types table next steps
run_ran types table next [] s w h =
    let n : table ≡ next = cc in
    subst (λ t. Ran types table t []) n (record { sound = s; size = refl; keeps = λ c r k. r; back = λ c r. r; holds = λ c r. tt })
run_ran types table next (step ∷ steps) s w h =
    by_step (step_done types table step) refl h (λ mid d e. run_ran types mid next steps d.sound (subst (λ n. AllWithin types n steps) (sym d.size) w.1) e)
  where
    by_step : (o : Walked (List Guess)) → step_done types table step ≡ o → and_then o (λ t. run types t steps) ≡ Goes next
        → ((mid : List Guess) → Did types table mid step → run types mid steps ≡ Goes next → Ran types mid next steps) → Ran types table next (step ∷ steps)
    by_step (Goes mid) e g f =
        let d = step_did types table mid step s w.0 e in
        let r = f mid d g in
        record {
          sound = r.sound;
          size = r.size ∙ d.size;
          keeps = λ c p k. r.keeps c (d.keeps c p k.0) k.1;
          back = λ c p. d.back c (r.back c p);
          holds = λ c p. (d.holds c (r.back c p), r.holds c p);
        }
    by_step (Stops fault) e g f = cc

-- ---- the choice that a table leaves

abbrev pub choice_of : List Guess → Choice
choice_of table = λ x. closed (looked_up table (Unknown x))

pub choice_respects : (table : List Guess) → IsSettled table → Respects (choice_of table) table
choice_respects table s x = by_guess (looked_up table (Unknown x)) (s x)
  where
    by_guess : (a : Guess) → looked_up table a ≡ a → closed a ≡ under (choice_of table) a
    by_guess (Known k) h = refl
    by_guess (Unknown y) h = ap closed (sym h)

-- what isn't `int` in that choice is the same in every choice
pub choice_forced : (table : List Guess) (choice : Choice) (x : ℕ) → Respects choice table → (choice_of table x ≡ kind.Int → ⊥) → choice x ≡ choice_of table x
choice_forced table choice x r h = by_guess (looked_up table (Unknown x)) refl
  where
    by_guess : (a : Guess) → looked_up table (Unknown x) ≡ a → choice x ≡ closed (looked_up table (Unknown x))
    by_guess (Known k) e = r x ∙ ap (under choice) e ∙ sym (ap closed e)
    by_guess (Unknown y) e = absurd (h (ap closed e))

-- ---- the first fault

fails_same : (types : List DataType) (table : List Guess) (before : List Step) (a b : Guess) (line : ℕ) (first second : Guess) (fault : TypeFault)
    → ((choice : Choice) → AllHold choice before → Respects choice table)
    → looked_up table a ≡ first → looked_up table b ≡ second → unified types table line first second ≡ Stops fault → Clashes types before a b line fault
fails_same types table before a b line (Known k) (Known q) fault r fi se h = by_test (same_kind k q) refl h
  where
    by_test : (c : Bool) → same_kind k q ≡ c → (if c then Goes table else Stops (Clash (kind_name types k) (kind_name types q) line)) ≡ Stops fault
        → Clashes types before a b line fault
    by_test true e g = cc
    by_test false e g = record {
      first = k;
      second = q;
      differ = λ d. let c : same_kind k q ≡ true = subst (λ z. same_kind k z ≡ true) d (kind_itself k) in let x : true ≡ false = sym c ∙ e in cc;
      forced = λ c all. (under_looked c table a (r c all) ∙ ap (under c) fi, under_looked c table b (r c all) ∙ ap (under c) se);
      is = stops_is fault (Clash (kind_name types k) (kind_name types q) line) g;
    }
      where
        stops_is : (f g : TypeFault) → stopped g ≡ stopped f → f ≡ g
        stops_is f g h = cc
fails_same types table before a b line (Known k) (Unknown y) fault r fi se h = cc
fails_same types table before a b line (Unknown x) new fault r fi se h = cc

step_fails : (types : List DataType) (table : List Guess) (before : List Step) (step : Step) (fault : TypeFault)
    → ((choice : Choice) → AllHold choice before → Respects choice table)
    → step_done types table step ≡ Stops fault → FailsWith types before step fault
unfolding made_same
step_fails types table before (Must true found) fault r h = cc
step_fails types table before (Must false found) fault r h = let e : fault ≡ found = cc in (refl, e)
step_fails types table before (Same a b line) fault r h = fails_same types table before a b line (looked_up table a) (looked_up table b) fault r refl refl h

-- steps that are done hold for just the choices of the table
pub record Left (done : List Step) (table : List Guess) : Type 0 where
  pub there : (choice : Choice) → AllHold choice done → Respects choice table
  pub back : (choice : Choice) → Respects choice table → AllHold choice done

pub all_both : (choice : Choice) (xs ys : List Step) → AllHold choice xs → AllHold choice ys → AllHold choice (xs ++ ys)
all_both choice [] ys h k = k
all_both choice (x ∷ xs) ys h k = (h.0, all_both choice xs ys h.1 k)

pub all_front : (choice : Choice) (xs ys : List Step) → AllHold choice (xs ++ ys) → AllHold choice xs
all_front choice [] ys h = tt
all_front choice (x ∷ xs) ys h = (h.0, all_front choice xs ys h.1)

pub all_back : (choice : Choice) (xs ys : List Step) → AllHold choice (xs ++ ys) → AllHold choice ys
all_back choice [] ys h = h
all_back choice (x ∷ xs) ys h = all_back choice xs ys h.1

run_fails : (types : List DataType) (table : List Guess) (done steps all : List Step) (fault : TypeFault) → all ≡ done ++ steps → IsSafe types table
    → AllWithin types (length table) steps → Left done table
    → run types table steps ≡ Stops fault → IsFirstFault types all fault
run_fails types table done [] all fault e s w l h = cc
run_fails types table done (step ∷ steps) all fault e s w l h =
    by_step (step_done types table step) refl h
    (λ mid d g. run_fails types mid (done ++ step ∷ []) steps all fault (e ∙ sym (append_assoc done (step ∷ []) steps)) d.sound (subst (λ n. AllWithin types n steps) (sym d.size) w.1)
    (record {
      there = λ c k. d.keeps c (l.there c (all_front c done (step ∷ []) k)) (all_back c done (step ∷ []) k).0;
      back = λ c r. all_both c done (step ∷ []) (l.back c (d.back c r)) (d.holds c r, tt);
    }) g)
  where
    stops_is : (f g : TypeFault) → stopped g ≡ stopped f → f ≡ g
    stops_is f g h = cc

    by_step : (o : Walked (List Guess)) → step_done types table step ≡ o → and_then o (λ t. run types t steps) ≡ Stops fault
        → ((mid : List Guess) → Did types table mid step → run types mid steps ≡ Stops fault → IsFirstFault types all fault) → IsFirstFault types all fault
    by_step (Goes mid) q g f = f mid (step_did types table mid step s w.0 q) g
    by_step (Stops found) q g f = record {
      before = done;
      step = step;
      after = steps;
      parts = e;
      choice = choice_of table;
      hold = l.back (choice_of table) (choice_respects table s.settled);
      fails = subst (FailsWith types done step) (sym (stops_is fault found g)) (step_fails types table done step found l.there q);
    }

-- ---- the run finds the first fault, and there is no other

pub append_run : (types : List DataType) (table : List Guess) (xs ys : List Step)
    → run types table (xs ++ ys) ≡ and_then (run types table xs) (λ t. run types t ys)
append_run types table [] ys = refl
append_run types table (x ∷ xs) ys = by_step (step_done types table x) (λ t. append_run types t xs ys)
  where
    by_step : (o : Walked (List Guess)) → ((t : List Guess) → run types t (xs ++ ys) ≡ and_then (run types t xs) (λ u. run types u ys))
        → and_then o (λ t. run types t (xs ++ ys)) ≡ and_then (and_then o (λ t. run types t xs)) (λ u. run types u ys)
    by_step (Goes t) f = f t
    by_step (Stops fault) f = refl

within_front : (types : List DataType) (n : ℕ) (xs ys : List Step) → AllWithin types n (xs ++ ys) → AllWithin types n xs
within_front types n [] ys h = tt
within_front types n (x ∷ xs) ys h = (h.0, within_front types n xs ys h.1)

within_back : (types : List DataType) (n : ℕ) (xs ys : List Step) → AllWithin types n (xs ++ ys) → AllWithin types n ys
within_back types n [] ys h = h
within_back types n (x ∷ xs) ys h = within_back types n xs ys h.1

pub within_both : (types : List DataType) (n : ℕ) (xs ys : List Step) → AllWithin types n xs → AllWithin types n ys → AllWithin types n (xs ++ ys)
within_both types n [] ys h k = k
within_both types n (x ∷ xs) ys h k = (h.0, within_both types n xs ys h.1 k)

-- no choice for the steps up to a failing one holds for it
none_holds : (types : List DataType) (before : List Step) (step : Step) (fault : TypeFault) (choice : Choice) → AllHold choice before
    → FailsWith types before step fault → Holds choice step → ⊥
none_holds types before (Must test found) fault choice all f h = let e : true ≡ false = sym h ∙ f.0 in cc
none_holds types before (Same a b line) fault choice all f h = let both = f.forced choice all in f.differ (sym both.0 ∙ h ∙ both.1)

-- a step that holds for a choice of the table doesn't stop
no_clash : (types : List DataType) (table : List Guess) (a b : Guess) (line : ℕ) (first second : Guess) (fault : TypeFault) (choice : Choice)
    → Respects choice table
    → looked_up table a ≡ first → looked_up table b ≡ second → unified types table line first second ≡ Stops fault → under choice a ≡ under choice b → ⊥
no_clash types table a b line (Known k) (Known q) fault choice r fi se h e = by_test (same_kind k q) refl h
  where
    same : k ≡ q
    same = sym (ap (under choice) fi) ∙ sym (under_looked choice table a r) ∙ e ∙ under_looked choice table b r ∙ ap (under choice) se

    by_test : (c : Bool) → same_kind k q ≡ c → (if c then Goes table else Stops (Clash (kind_name types k) (kind_name types q) line)) ≡ Stops fault → ⊥
    by_test true x g = absurd cc
    by_test false x g = let c : same_kind k q ≡ true = subst (λ z. same_kind k z ≡ true) same (kind_itself k) in let y : true ≡ false = sym c ∙ x in absurd cc
no_clash types table a b line (Known k) (Unknown y) fault choice r fi se h e = absurd cc
no_clash types table a b line (Unknown x) new fault choice r fi se h e = absurd cc

no_stop : (types : List DataType) (table : List Guess) (step : Step) (fault : TypeFault) (choice : Choice) → Respects choice table
    → step_done types table step ≡ Stops fault → Holds choice step → ⊥
unfolding made_same
no_stop types table (Must true found) fault choice r h k = absurd cc
no_stop types table (Must false found) fault choice r h k = absurd cc
no_stop types table (Same a b line) fault choice r h k = no_clash types table a b line (looked_up table a) (looked_up table b) fault choice r refl refl h k

-- steps that hold for some choice don't stop
pub runs_on : (types : List DataType) (table : List Guess) (steps : List Step) (choice : Choice) → IsSafe types table
    → AllWithin types (length table) steps → Respects choice table → AllHold choice steps
    → (next : List Guess) × (run types table steps ≡ Goes next)
runs_on types table [] choice s w r h = (table, refl)
runs_on types table (step ∷ steps) choice s w r h = by_step (step_done types table step) refl
    (λ mid d. runs_on types mid steps choice d.sound (subst (λ n. AllWithin types n steps) (sym d.size) w.1) (d.keeps choice r h.0) h.1)
  where
    by_step : (o : Walked (List Guess)) → step_done types table step ≡ o
        → ((mid : List Guess) → Did types table mid step → (next : List Guess) × (run types mid steps ≡ Goes next))
        → (next : List Guess) × (and_then o (λ t. run types t steps) ≡ Goes next)
    by_step (Goes mid) e f = f mid (step_did types table mid step s w.0 e)
    by_step (Stops fault) e f = absurd (no_stop types table step fault choice r e h.0)

-- a step that fails stops the run, with its fault
step_stops : (types : List DataType) (table : List Guess) (before : List Step) (step : Step) (fault : TypeFault) → IsSafe types table
    → StepWithin types (length table) step
    → ((choice : Choice) → Respects choice table → AllHold choice before) → ((choice : Choice) → AllHold choice before → Respects choice table)
    → FailsWith types before step fault → step_done types table step ≡ Stops fault
step_stops types table before step fault s w back there f = by_step (step_done types table step) refl
  where
    choice : Choice
    choice = choice_of table

    own : Respects choice table
    own = choice_respects table s.settled

    same_fault : (step : Step) (found : TypeFault) → FailsWith types before step fault → FailsWith types before step found → found ≡ fault
    same_fault (Must test f) found h k = k.1 ∙ sym h.1
    same_fault (Same a b line) found h k =
        let all = back choice own in
        let one = h.forced choice all in
        let other = k.forced choice all in
        k.is ∙ ap (λ x. Clash (kind_name types x) (kind_name types k.second) line) (sym other.0 ∙ one.0) ∙ ap (λ y. Clash (kind_name types h.first) (kind_name types y) line) (sym other.1 ∙ one.1) ∙ sym h.is

    by_step : (o : Walked (List Guess)) → step_done types table step ≡ o → o ≡ Stops fault
    by_step (Goes mid) e =
        let d = step_did types table mid step s w e in
        let c = choice_of mid in
        let r : Respects c mid = choice_respects mid d.sound.settled in
        absurd (none_holds types before step fault c (back c (d.back c r)) f (d.holds c r))
    by_step (Stops found) e = ap stopped (same_fault step found f (step_fails types table before step found there e))

-- the table that one starts with: every unknown stands for itself
pub record IsFresh (types : List DataType) (table : List Guess) : Type 0 where
  pub sound : IsSafe types table
  pub free : (choice : Choice) → Respects choice table

pub fault_runs : (types : List DataType) (table : List Guess) (steps : List Step) (fault : TypeFault) → IsFresh types table
    → AllWithin types (length table) steps → IsFirstFault types steps fault → run types table steps ≡ Stops fault
fault_runs types table steps fault fresh w f =
    let all : AllWithin types (length table) (f.before ++ f.step ∷ f.after) = subst (AllWithin types (length table)) f.parts w in
    let on = runs_on types table f.before f.choice fresh.sound (within_front types (length table) f.before (f.step ∷ f.after) all) (fresh.free f.choice) f.hold in
    let ran = run_ran types table on.0 f.before fresh.sound (within_front types (length table) f.before (f.step ∷ f.after) all) on.1 in
    let at = within_back types (length table) f.before (f.step ∷ f.after) all in
    let stop : step_done types on.0 f.step ≡ Stops fault =
    step_stops types on.0 f.before f.step fault ran.sound (subst (λ n. StepWithin types n f.step) (sym ran.size) at.0) (λ c r. ran.holds c r) (λ c h. ran.keeps c (fresh.free c) h) f.fails in
    ap (run types table) f.parts ∙ append_run types table f.before (f.step ∷ f.after) ∙ ap (λ o. and_then o (λ t. run types t (f.step ∷ f.after))) on.1 ∙ ap (λ o. and_then o (λ t. run types t f.after)) stop

pub run_finds : (types : List DataType) (table : List Guess) (steps : List Step) (fault : TypeFault) → IsFresh types table
    → AllWithin types (length table) steps → run types table steps ≡ Stops fault → IsFirstFault types steps fault
run_finds types table steps fault fresh w h = run_fails types table [] steps steps fault refl fresh.sound w (record { there = λ c k. fresh.free c; back = λ c r. tt }) h
