-- What the whole check comes to: the run of the program's steps over a fresh table.
use Rattle.std.proofs.Common.{◌≡◌, ℕ, suc, ◌+◌, ◌<◌, Bool, true, false, List, [], ◌∷◌, ◌++◌, map, length, refl, sym, ap, ◌∙◌, subst, append_assoc, append-nil, inl, inr}
use Rattle.std.specs.Prelude.{nat_lt, codes, ◌⊎◌, IsTrue}
use Rattle.std.proofs.lemmas.Bool.{ltb-true, lt-ltb}
use Rattle.camelot_values.specs.Kinds.{DataType}
use Rattle.camelot_values.specs.declared.kinds.Kind.{Kind}
use Rattle.camelot_tree.specs.Tree.{Function, Source}
use Rattle.camelot_tree.specs.Tokens.{has_ints}
use Rattle.camelot_typing.specs.Kinds.{Head, Globals, Scope, atoms_of, types_of}
use Rattle.camelot_typing.specs.Typing.{Signature, IsDeclared, params_scope, globals_of, IsTyped, IsWithinLimits}
use Rattle.camelot_typing.specs.Typed.{FunctionKinds, signatures_of, functions_kinds, typing, typing_kinds, IsTyping}
use Rattle.camelot_types.specs.declared.fault.TypeFault.{TypeFault}
use Rattle.stops.specs.declared.stop.Stop.{Stop}
use Rattle.stops.specs.declared.stop.Stop.TheVariants.{Fault, Memory}
use Rattle.stops.specs.Stopping.{FaultIs}
use Rattle.camelot_types.specs.declared.guess.Guess.{Guess}
use Rattle.camelot_types.specs.declared.guess.Guess.TheVariants.{Known, Unknown}
use Rattle.camelot_types.specs.Walk.{Step, Same, Choice, under, HasFault, few, types_steps, headers_steps, head_guess, head_guesses, guesses_of, line_of, guess, body_steps, bodies_steps, program_steps}
use Rattle.camelot_types.specs.Solving.{Walked, Goes, Stops, and_then, looked_up, made_same, run, Work, body_walked, Bodies, bodies_on, closed, settled, settled_funs, fresh, unknowns}
use Rattle.camelot_types.specs.Declaring.{types_checked, headers_checked}
use Rattle.camelot_typing.specs.Settled.{KindsSettled}
use Rattle.camelot_types.specs.Checked.{bodies_walked, program_walked, KindsLeft}
use Rattle.camelot_types.specs.Doing.{StopsWith}
use Rattle.camelot_types.proofs.Unifying.{IsWithin, Respects, Ran, run_ran, run_finds, fault_runs, runs_on, choice_of, choice_respects, choice_forced, IsFresh, append_run, get_past, AllWithin}
use Rattle.camelot_types.proofs.Choosing.{head_under}
use Rattle.camelot_types.proofs.Programs.{signatures_under, program_sound, program_complete}
use Rattle.camelot_types.proofs.Starting.{program_within, is_fresh, length_fresh}
use Rattle.camelot_types.proofs.Answering.{answered, answered_is, answers_agree}
use Rattle.camelot_types.proofs.Walking.{giving, behind, along, part, walk_is}
use Rattle.camelot_types.proofs.Declared.{checked_run, headers_run}
use Rattle.camelot_types.proofs.Looping.{stops_along}

-- ---- bodies

-- the atoms of a body's expressions, and those of all bodies
abbrev body_atoms : Globals Guess → Function → Head Guess → List Guess
body_atoms g f h = atoms_of Known g (params_scope f.params h.params) f.body

abbrev pub bodies_atoms : Globals Guess → List Function → List (Head Guess) → List (List Guess)
bodies_atoms g (f ∷ fs) (h ∷ hs) = body_atoms g f h ∷ bodies_atoms g fs hs
bodies_atoms g fs hs = []

abbrev body_work : Globals Guess → Function → Head Guess → List Guess → Work
body_work g f h t = record { table = t; atoms = body_atoms g f h }

body_is : (g : Globals Guess) (f : Function) (h : Head Guess) (table : List Guess)
    → body_walked g f h table ≡ giving (body_work g f h) (run g.types table (body_steps g f h))
unfolding body_walked
body_is g f h table =
    let s : Scope Guess = params_scope f.params h.params in
    let w : Work = record { table = table; atoms = [] } in
    behind g s w f.body (Same (guess g s f.body) h.result (line_of f.body) ∷ []) _ (body_work g f h) (λ v. walk_is g s v f.body) (λ t.
    along (made_same g.types t (guess g s f.body) h.result (line_of f.body)) _ _ _ (λ u. refl))

abbrev all_work : List (List Guess) → List Guess → Bodies
all_work atoms t = record { table = t; atoms = atoms }

bodies_is : (g : Globals Guess) (table : List Guess) (atoms : List (List Guess)) (fs : List Function) (hs : List (Head Guess))
    → bodies_on g table atoms fs hs ≡ giving (all_work (atoms ++ bodies_atoms g fs hs)) (run g.types table (bodies_steps g fs hs))
unfolding bodies_on
bodies_is g table atoms [] hs = ap (λ l. Goes (all_work l table)) (sym (append-nil atoms))
bodies_is g table atoms (f ∷ fs) [] = ap (λ l. Goes (all_work l table)) (sym (append-nil atoms))
bodies_is g table atoms (f ∷ fs) (h ∷ hs) =
    part g.types table (body_steps g f h) (bodies_steps g fs hs) (body_walked g f h table) (body_work g f h) _ (all_work (atoms ++ bodies_atoms g (f ∷ fs) (h ∷ hs))) (body_is g f h table) (λ t.
    bodies_is g t (atoms ++ body_atoms g f h ∷ []) fs hs
    ∙ ap (λ l. giving (all_work l) (run g.types t (bodies_steps g fs hs))) (append_assoc atoms (body_atoms g f h ∷ []) (bodies_atoms g fs hs)))

-- ---- the whole program

abbrev start : Source → List Guess
start p = fresh 0 (unknowns p.funs)

abbrev program_atoms : Source → List (List Guess)
program_atoms p = bodies_atoms (guesses_of p) p.funs (head_guesses p 0 p.funs)

abbrev program_run : Source → Walked (List Guess)
program_run p = run (types_of p) (start p) (program_steps p)

walked_is : (p : Source) → program_walked p ≡ giving (all_work (program_atoms p)) (program_run p)
walked_is p =
    let types : List DataType = types_of p in
    let table : List Guess = start p in
    let heads : List Step = few (codes "types") 64 (map (λ t. t.name) p.types) ∷ types_steps p [] [] p.types in
    let mids : List Step = few (codes "functions") 64 (map (λ f. f.name) p.funs) ∷ headers_steps p [] p.funs in
    let ends : List Step = bodies_steps (guesses_of p) p.funs (head_guesses p 0 p.funs) in
    by_tests (types_checked p) (headers_checked p)
    ∙ sym (ap (giving (all_work (program_atoms p)))
    (append_run types table heads (mids ++ ends)
    ∙ ap (λ o. and_then o (λ t. run types t (mids ++ ends))) (checked_run types table p)
    ∙ inside (types_checked p) (append_run types table mids ends ∙ ap (λ o. and_then o (λ t. run types t ends)) (headers_run types table p))))
  where
    ends : List Step
    ends = bodies_steps (guesses_of p) p.funs (head_guesses p 0 p.funs)

    mids : List Step
    mids = few (codes "functions") 64 (map (λ f. f.name) p.funs) ∷ headers_steps p [] p.funs

    inside : (o : Walked (Unit {0})) → run (types_of p) (start p) (mids ++ ends) ≡ and_then (and_then (headers_checked p) (λ u. Goes (start p))) (λ t. run (types_of p) t ends)
        → and_then (and_then o (λ u. Goes (start p))) (λ t. run (types_of p) t (mids ++ ends))
        ≡ and_then o (λ u. and_then (and_then (headers_checked p) (λ v. Goes (start p))) (λ t. run (types_of p) t ends))
    inside (Goes u) h = h
    inside (Stops fault) h = refl

    by_tests : (o q : Walked (Unit {0})) → and_then o (λ u. and_then q (λ v. bodies_walked p))
        ≡ giving (all_work (program_atoms p)) (and_then o (λ u. and_then (and_then q (λ v. Goes (start p))) (λ t. run (types_of p) t ends)))
    by_tests (Goes u) (Goes v) = bodies_is (guesses_of p) (start p) [] p.funs (head_guesses p 0 p.funs)
    by_tests (Goes u) (Stops fault) = refl
    by_tests (Stops fault) q = refl

within : (p : Source) → AllWithin (types_of p) (length (start p)) (program_steps p)
within p = program_within p (length (start p)) (sym (length_fresh 0 (unknowns p.funs)))

fresh_start : (p : Source) → IsFresh (types_of p) (start p)
fresh_start p = is_fresh (types_of p) (unknowns p.funs)

-- ---- a program at whose fault the check stops

given_stops : {A : Type 0} (answer : List Guess → A) (o : Walked (List Guess)) (fault : TypeFault) → giving answer o ≡ Stops fault → o ≡ Stops fault
given_stops answer (Goes t) fault h = cc
given_stops answer (Stops found) fault h = let stops_is : (f g : TypeFault) → giving answer (Stops f) ≡ Stops g → f ≡ g = λ f g k. cc in ap (λ f. let s : Walked (List Guess) = Stops f in s) (stops_is found fault h)

run_stops : (p : Source) (fault : TypeFault) → program_walked p ≡ Stops fault → program_run p ≡ Stops fault
run_stops p fault h = given_stops (all_work (program_atoms p)) (program_run p) fault (sym (walked_is p) ∙ h)

has_fault : (p : Source) (fault : TypeFault) → program_walked p ≡ Stops fault → HasFault p fault
has_fault p fault h = run_finds (types_of p) (start p) (program_steps p) fault (fresh_start p) (within p) (run_stops p fault h)

not_typed : (p : Source) (fault : TypeFault) (sigs : List Signature) → program_walked p ≡ Stops fault → IsTyped p sigs → IsWithinLimits p → ⊥
not_typed p fault sigs h t l =
    let c = program_complete p sigs t l in
    let on = runs_on (types_of p) (start p) (program_steps p) c.choice (fresh_start p).sound (within p) ((fresh_start p).free c.choice) c.hold in
    apart on.0 fault (sym on.1 ∙ run_stops p fault h)
  where
    apart : (t : List Guess) (fault : TypeFault) → Goes t ≡ Stops fault → ⊥
    apart t fault h = absurd cc

stops_same : (f g : TypeFault) → (let s : Walked (List Guess) = Stops f in s) ≡ Stops g → f ≡ g
stops_same f g h = cc

one_fault : (p : Source) (fault found : TypeFault) → program_walked p ≡ Stops found → HasFault p fault → found ≡ fault
one_fault p fault found h k = stops_same found fault (sym (run_stops p found h) ∙ fault_runs (types_of p) (start p) (program_steps p) fault (fresh_start p) (within p) k)

-- what an answer that isn't Ok tells of a program
pub record Refused (p : Source) (found : Stop TypeFault) : Type 0 where
  pub cause : FaultIs (HasFault p) found
  pub typed : (sigs : List Signature) → IsTyped p sigs → IsWithinLimits p → found ≡ Memory
  pub fault : (fault : TypeFault) → HasFault p fault → (found ≡ Fault fault) ⊎ (found ≡ Memory)

stops_refused : (p : Source) (found : TypeFault) → program_walked p ≡ Stops found
    → HasFault p found × ((sigs : List Signature) → IsTyped p sigs → IsWithinLimits p → ⊥) × ((fault : TypeFault) → HasFault p fault → found ≡ fault)
stops_refused p found h = (has_fault p found h, (λ sigs t l. not_typed p found sigs h t l), (λ fault k. one_fault p fault found h k))

pub refused : (p : Source) (found : Stop TypeFault) → StopsWith (program_walked p) found → Refused p found
refused p (Fault f) h = let s = stops_refused p f h in record { cause = s.0; typed = λ sigs t k. absurd (s.1 sigs t k); fault = λ fault k. inl (ap Fault (s.2 fault k)) }
refused p Memory h = record { cause = tt; typed = λ sigs t l. refl; fault = λ fault k. inr refl }

-- ---- a program through which the check comes

given_goes : {A : Type 0} (answer : List Guess → A) (o : Walked (List Guess)) (a : A) → giving answer o ≡ Goes a
    → (t : List Guess) × (o ≡ Goes t) × (a ≡ answer t)
given_goes answer (Goes t) a h = (t, refl, sym (goes_is (answer t) a h))
  where
    goes_is : {B : Type 0} (a b : B) → Goes a ≡ Goes b → a ≡ b
    goes_is a b h = cc
given_goes answer (Stops fault) a h = cc

settled_under : (table as' : List Guess) → map (settled table) as' ≡ map (under (choice_of table)) as'
settled_under table [] = refl
settled_under table (Known k ∷ as') = ap (λ l. k ∷ l) (settled_under table as')
settled_under table (Unknown x ∷ as') = ap (λ l. closed (looked_up table (Unknown x)) ∷ l) (settled_under table as')

one_settled : (table : List Guess) (a : Guess) → settled table a ≡ under (choice_of table) a
one_settled table (Known k) = refl
one_settled table (Unknown x) = refl

funs_settled : (table : List Guess) (g : Globals Guess) (fs : List Function) (hs : List (Head Guess))
    → settled_funs table hs (bodies_atoms g fs hs) ≡ answered (choice_of table) g fs hs
unfolding settled_funs
funs_settled table g [] [] = refl
funs_settled table g [] (h ∷ hs) = refl
funs_settled table g (f ∷ fs) [] = refl
funs_settled table g (f ∷ fs) (h ∷ hs) =
    same_kinds (map (settled table) h.params) (map (under (choice_of table)) h.params) (map (settled table) (body_atoms g f h)) (map (under (choice_of table)) (body_atoms g f h)) (settled table h.result) (under (choice_of table) h.result)
    (settled_funs table hs (bodies_atoms g fs hs)) (answered (choice_of table) g fs hs) (settled_under table h.params) (settled_under table (body_atoms g f h)) (one_settled table h.result) (funs_settled table g fs hs)
  where
    same_kinds : (ps qs es gs : List Kind) (r s : Kind) (ks ls : List FunctionKinds) → ps ≡ qs → es ≡ gs → r ≡ s → ks ≡ ls
        → (let k : FunctionKinds = record { params = ps; result = r; exprs = es } in k ∷ ks) ≡ record { params = qs; result = s; exprs = gs } ∷ ls
    same_kinds ps qs es gs r s ks ls a b c d = cc

heads_answered : (choice : Choice) (p : Source) (g : Globals Guess) (number : ℕ) (fs : List Function)
    → signatures_of fs (answered choice g fs (head_guesses p number fs)) ≡ map (head_under choice) (head_guesses p number fs)
heads_answered choice p g number [] = refl
heads_answered choice p g number (f ∷ fs) = ap (λ l. head_under choice (head_guess p number f) ∷ l) (heads_answered choice p g (suc (number + length f.params)) fs)

-- the choice that is left gives kinds of declared types
kept_declared : (types : List DataType) (table : List Guess)
    → ((x : ℕ) → x < length table → IsWithin types (length table) (looked_up table (Unknown x))) → (x : ℕ) → IsDeclared types (choice_of table x)
kept_declared types table h x = by_place (nat_lt x (length table)) refl
  where
    by_guess : (a : Guess) → IsWithin types (length table) a → IsDeclared types (closed a)
    by_guess (Known k) w = w
    by_guess (Unknown y) w = tt

    by_place : (b : Bool) → nat_lt x (length table) ≡ b → IsDeclared types (choice_of table x)
    by_place true e = by_guess (looked_up table (Unknown x)) (h x (ltb-true x (length table) e))
    by_place false e =
        let far : x < length table → ⊥ = λ l. let k : nat_lt x (length table) ≡ true = lt-ltb x (length table) l in let c : true ≡ false = sym k ∙ e in cc in
        subst (λ a. IsDeclared types (closed a)) (sym (get_past table x (Unknown x) far)) tt

-- what the check's kinds tell of a program
pub record Taken (p : Source) (kinds : List FunctionKinds) : Type 0 where
  pub typed : IsTyping (typing p kinds)
  pub kinds_are : kinds ≡ typing_kinds (typing p kinds)
  pub settled : (sigs : List Signature) → IsTyped p sigs → KindsSettled (typing_kinds (typing p kinds)) (functions_kinds (globals_of p sigs) p.funs sigs)
  pub sound : (fault : TypeFault) → HasFault p fault → ⊥

taken_with : (p : Source) (kinds : List FunctionKinds) (table : List Guess) → IsTrue (has_ints p) → program_run p ≡ Goes table
    → kinds ≡ answered (choice_of table) (guesses_of p) p.funs (head_guesses p 0 p.funs) → Taken p kinds
taken_with p kinds table ints h e =
    let choice : Choice = choice_of table in
    let ran : Ran (types_of p) (start p) table (program_steps p) = run_ran (types_of p) (start p) table (program_steps p) (fresh_start p).sound (within p) h in
    let both = program_sound choice p (kept_declared (types_of p) table ran.sound.within) ints (ran.holds choice (choice_respects table ran.sound.settled)) in
    let same : signatures_of p.funs kinds ≡ signatures_under choice p = ap (signatures_of p.funs) e ∙ heads_answered choice p (guesses_of p) 0 p.funs in
    let own : kinds ≡ typing_kinds (typing p kinds) = e ∙ answered_is choice p ∙ ap (λ ss. functions_kinds (globals_of p ss) p.funs ss) (sym same) in
    record {
      typed = record { typed = subst (IsTyped p) (sym same) both.0; within = both.1 };
      kinds_are = own;
      settled = λ sigs t.
          let c = program_complete p sigs t both.1 in
          let r : Respects c.choice table = ran.keeps c.choice ((fresh_start p).free c.choice) c.hold in
          subst (λ ks. KindsSettled ks (functions_kinds (globals_of p sigs) p.funs sigs)) (sym e ∙ own)
          (subst (KindsSettled (answered choice (guesses_of p) p.funs (head_guesses p 0 p.funs))) (answered_is c.choice p ∙ ap (λ ss. functions_kinds (globals_of p ss) p.funs ss) c.is)
          (answers_agree choice c.choice (guesses_of p) p.funs (head_guesses p 0 p.funs) (λ x n. choice_forced table c.choice x r n)));
      sound = λ fault k. apart table fault (sym h ∙ fault_runs (types_of p) (start p) (program_steps p) fault (fresh_start p) (within p) k);
    }
  where
    apart : (t : List Guess) (fault : TypeFault) → (let o : Walked (List Guess) = Goes t in o) ≡ Stops fault → ⊥
    apart t fault h = absurd cc

taken : (p : Source) (kinds : List FunctionKinds) (work : Bodies) → IsTrue (has_ints p) → program_walked p ≡ Goes work
    → kinds ≡ settled_funs work.table (head_guesses p 0 p.funs) work.atoms → Taken p kinds
taken p kinds work ints h e =
    let g = given_goes (all_work (program_atoms p)) (program_run p) work (sym (walked_is p) ∙ h) in
    taken_with p kinds g.0 ints g.1 (e ∙ ap (λ w. settled_funs w.table (head_guesses p 0 p.funs) w.atoms) g.2 ∙ funs_settled g.0 (guesses_of p) p.funs (head_guesses p 0 p.funs))

-- ---- how the whole walk goes on; a fault at one part is that of the whole

walked_on : (p : Source) (o : Walked Bodies) → types_checked p ≡ Goes tt → headers_checked p ≡ Goes tt → bodies_walked p ≡ o → program_walked p ≡ o
walked_on p o h k e = ap (λ q. and_then q (λ u. and_then (headers_checked p) (λ v. bodies_walked p))) h ∙ ap (λ q. and_then q (λ v. bodies_walked p)) k ∙ e

types_stop : (p : Source) (fault : TypeFault) → types_checked p ≡ Stops fault → program_walked p ≡ Stops fault
types_stop p fault h = ap (λ q. and_then q (λ u. and_then (headers_checked p) (λ v. bodies_walked p))) h

headers_stop : (p : Source) (fault : TypeFault) → types_checked p ≡ Goes tt → headers_checked p ≡ Stops fault → program_walked p ≡ Stops fault
headers_stop p fault h k = ap (λ q. and_then q (λ u. and_then (headers_checked p) (λ v. bodies_walked p))) h ∙ ap (λ q. and_then q (λ v. bodies_walked p)) k

pub stops_at_types : (p : Source) (stop : Stop TypeFault) → StopsWith (types_checked p) stop → StopsWith (program_walked p) stop
stops_at_types p stop h = stops_along (types_checked p) (program_walked p) stop (λ f k. types_stop p f k) h

pub stops_at_headers : (p : Source) (stop : Stop TypeFault) → types_checked p ≡ Goes tt → StopsWith (headers_checked p) stop → StopsWith (program_walked p) stop
stops_at_headers p stop e h = stops_along (headers_checked p) (program_walked p) stop (λ f k. headers_stop p f e k) h

pub stops_at_bodies : (p : Source) (stop : Stop TypeFault) → types_checked p ≡ Goes tt → headers_checked p ≡ Goes tt
    → StopsWith (bodies_walked p) stop → StopsWith (program_walked p) stop
stops_at_bodies p stop e g h = stops_along (bodies_walked p) (program_walked p) stop (λ f k. walked_on p (Stops f) e g k) h

pub left_of_all : (p : Source) (kinds : List FunctionKinds) → types_checked p ≡ Goes tt → headers_checked p ≡ Goes tt
    → KindsLeft p (bodies_walked p) kinds → KindsLeft p (program_walked p) kinds
left_of_all p kinds e g h = record { work = h.work; walked = walked_on p (Goes h.work) e g h.walked; kinds_are = h.kinds_are }

pub taken_of : (p : Source) (kinds : List FunctionKinds) → IsTrue (has_ints p) → KindsLeft p (program_walked p) kinds → Taken p kinds
taken_of p kinds ints h = taken p kinds h.work ints h.walked h.kinds_are

-- ---- each program is typed within the limits, or it has one fault

-- some kinds for a program within the limits
abbrev pub IsTypable : Source → Type 0
IsTypable p = (sigs : List Signature) × (IsTyped p sigs × IsWithinLimits p)

pub one_or_other : (p : Source) → IsTrue (has_ints p) → IsTypable p ⊎ ((fault : TypeFault) × HasFault p fault)
one_or_other p ints = by_run (program_run p) refl
  where
    by_run : (o : Walked (List Guess)) → program_run p ≡ o → IsTypable p ⊎ ((fault : TypeFault) × HasFault p fault)
    by_run (Goes t) h =
        let kinds : List FunctionKinds = answered (choice_of t) (guesses_of p) p.funs (head_guesses p 0 p.funs) in
        let all = taken_with p kinds t ints h refl in
        inl (signatures_of p.funs kinds, (all.typed.typed, all.typed.within))
    by_run (Stops fault) h = inr (fault, run_finds (types_of p) (start p) (program_steps p) fault (fresh_start p) (within p) h)

runs_to : (p : Source) (fault : TypeFault) → HasFault p fault → program_run p ≡ Stops fault
runs_to p fault h = fault_runs (types_of p) (start p) (program_steps p) fault (fresh_start p) (within p) h

pub not_both : (p : Source) (fault : TypeFault) (sigs : List Signature) → HasFault p fault → IsTyped p sigs → IsWithinLimits p → ⊥
not_both p fault sigs h t l = not_typed p fault sigs (walked_is p ∙ ap (giving (all_work (program_atoms p))) (runs_to p fault h)) t l

pub only_one : (p : Source) (first second : TypeFault) → HasFault p first → HasFault p second → first ≡ second
only_one p first second h k = stops_same first second (sym (runs_to p first h) ∙ runs_to p second k)
