-- What jobs ask for: one by one, in two parts, and as it is planned.
use Rattle.std.proofs.Common.{◌≡◌, ℕ, zero, suc, ◌+◌, ◌<◌, ◌≤◌, List, [], ◌∷◌, ◌++◌, length, map, drop, get_or, Some, None, sym, ap, ◌∙◌, subst, append_assoc, append-nil, drop-cons, add-one, arith}
use Rattle.std.proofs.lemmas.List.{drop_all}
use Rattle.std.specs.Prelude.{slice_get, Option, Result, Ok, Err}
use Rattle.std.specs.List.{AllByRecursion}
use Rattle.licence.specs.Licensed.{Licensed}
use Rattle.job_script.specs.Scripts.{Entry, AProgram, AJob, EntryIsWithin}
use Rattle.job_script.specs.Words.{entry_of}
use Rattle.job_script.specs.declared.types.Entry.{Entry as DeclaredEntry}
use Rattle.job_world.specs.Plans.{Planned}
use Rattle.run_reports.specs.declared.outcome.JobCause.{JobCause}
use Rattle.job_world.specs.declared.call.Call.{Call as DeclaredCall}
use Rattle.script_plans.specs.declared.types.JobPlan.{JobPlan}
use Rattle.script_plans.specs.declared.types.JobPlan.TheVariants as plan
use Rattle.script_plans.specs.Programs.{program_named}
use Rattle.script_plans.specs.Lines.{ArePlanned}
use Rattle.script_plans.specs.Rows.{Row, AreRows, row_among, row_program}
use Rattle.script_plans.specs.Turns.{Planning, IsAdded, IsEntryTaken, Comes, places_by, plan_for}
use Rattle.script_plans.specs.Wanted.{IsWantedBy, AreWanted, CanBeTaken}
use Rattle.script_plans.proofs.Coming.{can_be_planned, comes_call, comes_refused}
use Rattle.script_plans.proofs.Parts.{of_both}
use Rattle.script_plans.proofs.Taking.{Going, going_first, going_on, going_done}

-- ---- one by one

-- The front entries want these, whatever the rest want.
pub record AreSoFar (licences : List Licensed) (rows : List Row) (entries rest : List Entry) (all : List (Option (Result DeclaredCall JobCause))) : Type 0 where
  pub are : (more : List (Option (Result DeclaredCall JobCause))) → AreWanted licences rows rest more → AreWanted licences rows entries (all ++ more)

pub none_wanted : (licences : List Licensed) (rows : List Row) (entries : List Entry) → AreSoFar licences rows entries entries []
none_wanted licences rows entries = record { are = λ more h. h }

pub wanted_more : (licences : List Licensed) (rows : List Row) (entries rest : List Entry) (e : Entry) (all : List (Option (Result DeclaredCall JobCause))) (o : Option (Result DeclaredCall JobCause)) → AreSoFar licences rows entries (e ∷ rest) all
    → IsWantedBy licences rows e o → AreSoFar licences rows entries rest (all ++ o ∷ [])
wanted_more licences rows entries rest e all o u is = record {
  are = λ more h. subst (AreWanted licences rows entries) (sym (append_assoc all (o ∷ []) more)) (u.are (o ∷ more) (is, h));
}

pub wanted_end : (licences : List Licensed) (rows : List Row) (entries : List DeclaredEntry) (n : ℕ) (all : List (Option (Result DeclaredCall JobCause))) → length entries ≤ n
    → AreSoFar licences rows (map entry_of entries) (map entry_of (drop n entries)) all → AreWanted licences rows (map entry_of entries) all
wanted_end licences rows entries n all h u =
    let whole = map entry_of entries in
    let none : AreSoFar licences rows whole [] all = subst (λ (l : List DeclaredEntry). AreSoFar licences rows whole (map entry_of l) all) (drop_all n entries h) u in
    subst (AreWanted licences rows whole) (append-nil all) (none.are [] tt)

-- ---- in two parts

pub both_wanted : (licences : List Licensed) (rows : List Row) (es fs : List Entry) (xs ys : List (Option (Result DeclaredCall JobCause))) → AreWanted licences rows es xs → AreWanted licences rows fs ys
    → AreWanted licences rows (es ++ fs) (xs ++ ys)
both_wanted licences rows [] fs [] ys a b = b
both_wanted licences rows [] fs (x ∷ xs) ys a b = absurd a
both_wanted licences rows (e ∷ es) fs [] ys a b = absurd a
both_wanted licences rows (e ∷ es) fs (x ∷ xs) ys a b = (a.0, both_wanted licences rows es fs xs ys a.1 b)

pub all_wanted : (licences : List Licensed) (rows : List Row) (all xs ys : List DeclaredEntry) (ws : List (Option (Result DeclaredCall JobCause))) → all ≡ xs ++ ys
    → AreWanted licences rows (map entry_of xs ++ map entry_of ys) ws
    → AreWanted licences rows (map entry_of all) ws
all_wanted licences rows all xs ys ws e a = of_both (λ es. AreWanted licences rows es ws) all xs ys e a

-- ---- as it is planned

-- a call that is planned, and a cause that is kept, are what comes of the job
pub call_taken : (rows : List Row) (arena place : ℕ) (e : Entry) (call : DeclaredCall) (q : JobPlan) (old new : Planning) (ps : Planned) → IsWantedBy old.jobs.licences rows e (Some (Ok call))
    → ((l : Licensed) → slice_get old.jobs.licences call.licence ≡ Some l → IsAdded arena (plan_for call.licence call.fuel l call.entry call.args.items) call.needs.bound old.jobs ps q)
    → new.jobs ≡ ps → new.plans ≡ old.plans ++ q ∷ [] → new.asked ≡ old.asked ++ places_by q place → IsEntryTaken rows arena place e old new
call_taken rows arena place (AProgram p) call q old new ps w each same plans asked = absurd w
call_taken rows arena place (AJob j) call q old new ps w each same plans asked = record {
  p = q;
  comes = subst (λ (ps : Planned). Comes (row_program (row_among rows j.program)) j.entry j.args j.fuel arena old.jobs ps q) (sym same)
      (comes_call (row_program (row_among rows j.program)) j.entry j.args j.fuel arena old.jobs ps call q w (each w.c.licence w.licence));
  plans = plans;
  asked = asked;
}

pub cause_taken : (rows : List Row) (arena place : ℕ) (e : Entry) (cause : JobCause) (old new : Planning) → IsWantedBy old.jobs.licences rows e (Some (Err cause))
    → new.jobs ≡ old.jobs → new.plans ≡ old.plans ++ plan.Refused cause ∷ [] → new.asked ≡ old.asked ++ [] → IsEntryTaken rows arena place e old new
cause_taken rows arena place (AProgram p) cause old new w same plans asked = absurd w
cause_taken rows arena place (AJob j) cause old new w same plans asked = record {
  p = plan.Refused cause;
  comes = comes_refused (row_program (row_among rows j.program)) j.entry j.args j.fuel arena old.jobs new.jobs cause w same;
  plans = plans;
  asked = asked;
}

-- What the loop over the entries keeps: those in front are planned, and the rest want these.
pub record Taking (arena : ℕ) (script : List Entry) (rows : List Row) (place : ℕ) (t : Planning) (left : List (Option (Result DeclaredCall JobCause))) : Type 0 where
  pub rest : List Entry
  pub going : Going arena script rest rows place t
  pub are : AreWanted t.jobs.licences rows rest left
  pub within : AllByRecursion EntryIsWithin rest
  pub count : place + length rest ≡ length script

pub taking_first : (arena : ℕ) (script : List Entry) (rows : List Row) (ps : Planned) (licences : List Licensed) (left : List (Option (Result DeclaredCall JobCause))) → AreRows licences rows
    → ps ≡ record { licences = licences; plans = [] } → AreWanted licences rows script left → AllByRecursion EntryIsWithin script
    → Taking arena script rows 0 (record { jobs = ps; plans = []; asked = [] }) left
taking_first arena script rows ps licences left h e are within = record {
  rest = script;
  going = going_first arena script rows ps licences h e;
  are = subst (λ (q : Planned). AreWanted q.licences rows script left) (sym e) are;
  within = within;
  count = omega arith;
}

wanted_can : (licences : List Licensed) (rows : List Row) (e : Entry) (o : Option (Result DeclaredCall JobCause)) → EntryIsWithin e → IsWantedBy licences rows e o → CanBeTaken licences o
wanted_can licences rows e None within h = tt
wanted_can licences rows e (Some (Err cause)) within h = tt
wanted_can licences rows (AProgram p) (Some (Ok call)) within h = absurd h
wanted_can licences rows (AJob j) (Some (Ok call)) within h = can_be_planned licences (row_program (row_among rows j.program)) j.entry j.args j.fuel call within.least h

pub taking_can : (arena : ℕ) (script : List Entry) (rows : List Row) (place : ℕ) (t : Planning) (o : Option (Result DeclaredCall JobCause)) (left : List (Option (Result DeclaredCall JobCause)))
    → Taking arena script rows place t (o ∷ left) → CanBeTaken t.jobs.licences o
taking_can arena script rows place t o left h = go h.rest h.are h.within
  where
    go : (rest : List Entry) → AreWanted t.jobs.licences rows rest (o ∷ left) → AllByRecursion EntryIsWithin rest → CanBeTaken t.jobs.licences o
    go [] are within = absurd are
    go (e ∷ rest) are within = wanted_can t.jobs.licences rows e o within.0 are.0

-- there is one entry more
pub taking_short : (arena : ℕ) (script : List Entry) (rows : List Row) (place : ℕ) (t : Planning) (o : Option (Result DeclaredCall JobCause)) (left : List (Option (Result DeclaredCall JobCause)))
    → length script ≤ 4160 → Taking arena script rows place t (o ∷ left) → place < 4160
taking_short arena script rows place t o left few h = go h.rest h.are h.count
  where
    go : (rest : List Entry) → AreWanted t.jobs.licences rows rest (o ∷ left) → place + length rest ≡ length script → place < 4160
    go [] are e = absurd are
    go (x ∷ rest) are e = omega (arith, e, few)

pub taking_few : (arena : ℕ) (script : List Entry) (rows : List Row) (place : ℕ) (t : Planning) (o : Option (Result DeclaredCall JobCause)) (left : List (Option (Result DeclaredCall JobCause)))
    → length script ≤ 4160 → Taking arena script rows place t (o ∷ left) → length t.jobs.plans < 4294967295
taking_few arena script rows place t o left few h = let short = taking_short arena script rows place t o left few h in omega (arith, short, h.going.few)

licences_stay : (rows : List Row) (arena place : ℕ) (e : Entry) (old new : Planning) → IsEntryTaken rows arena place e old new → new.jobs.licences ≡ old.jobs.licences
licences_stay rows arena place (AProgram p) old new t = ap (λ (q : Planning). q.jobs.licences) t
licences_stay rows arena place (AJob j) old new t = t.comes.licences

pub taking_more : (arena : ℕ) (script : List Entry) (rows : List Row) (place : ℕ) (old new : Planning) (o : Option (Result DeclaredCall JobCause)) (left : List (Option (Result DeclaredCall JobCause)))
    → ((name : List ℕ) → program_named script name ≡ row_program (row_among rows name)) → Taking arena script rows place old (o ∷ left)
    → ((rows : List Row) (e : Entry) → IsWantedBy old.jobs.licences rows e o → IsEntryTaken rows arena place e old new)
    → Taking arena script rows (place + 1) new left
taking_more arena script rows place old new o left programs h each = go h.rest h.going h.are h.within h.count
  where
    go : (rest : List Entry) → Going arena script rest rows place old → AreWanted old.jobs.licences rows rest (o ∷ left) → AllByRecursion EntryIsWithin rest → place + length rest ≡ length script
        → Taking arena script rows (place + 1) new left
    go [] going are within e = absurd are
    go (x ∷ rest) going are within e =
        let t : IsEntryTaken rows arena place x old new = each rows x are.0 in
        record {
          rest = rest;
          going = going_on arena script rest rows x place old new programs going t;
          are = subst (λ ls. AreWanted ls rows rest left) (sym (licences_stay rows arena place x old new t)) are.1;
          within = within.1;
          count = omega (arith, e);
        }

pub taking_end : (arena : ℕ) (script : List Entry) (rows : List Row) (place : ℕ) (t : Planning) → Taking arena script rows place t [] → ArePlanned arena script t.jobs t.plans t.asked
taking_end arena script rows place t h = go h.rest h.going h.are
  where
    go : (rest : List Entry) → Going arena script rest rows place t → AreWanted t.jobs.licences rows rest [] → ArePlanned arena script t.jobs t.plans t.asked
    go [] going are = going_done arena script rows place t going
    go (x ∷ rest) going are = absurd are

-- ---- one by one, each planned before the next is read

here : (P : List Entry → Type 0) (entries : List DeclaredEntry) (i : ℕ) (d : DeclaredEntry) → i < length entries → P (map entry_of (drop i entries))
    → P (entry_of (get_or entries i d) ∷ map entry_of (drop (i + 1) entries))
here P entries i d h p =
    let next : drop (suc i) entries ≡ drop (i + 1) entries = ap (λ n. drop n entries) (sym (add-one i)) in
    subst (λ (l : List DeclaredEntry). P (entry_of (get_or entries i d) ∷ map entry_of l)) next (subst (λ (l : List DeclaredEntry). P (map entry_of l)) (drop-cons entries i d h) p)

pub turn_first : (arena : ℕ) (entries : List DeclaredEntry) (rows : List Row) (ps qs : Planned) (licences : List Licensed) (plans : List JobPlan) (asked : List ℕ) → AreRows licences rows
    → ps ≡ record { licences = licences; plans = [] } → qs ≡ ps → plans ≡ [] → asked ≡ []
    → Going arena (map entry_of entries) (map entry_of entries) rows 0 (record { jobs = qs; plans = plans; asked = asked })
turn_first arena entries rows ps qs licences plans asked h e f g k =
    let script = map entry_of entries in
    subst (λ p. Going arena script script rows 0 (record { jobs = qs; plans = p; asked = asked })) (sym g)
    (subst (λ a. Going arena script script rows 0 (record { jobs = qs; plans = []; asked = a })) (sym k) (going_first arena script rows qs licences h (f ∙ e)))

pub turn_can : (entries : List DeclaredEntry) (rows : List Row) (i : ℕ) (d : DeclaredEntry) (licences mine : List Licensed) (o : Option (Result DeclaredCall JobCause)) → i < length entries
    → AllByRecursion EntryIsWithin (map entry_of (drop i entries)) → licences ≡ mine → IsWantedBy licences rows (entry_of (get_or entries i d)) o → CanBeTaken mine o
turn_can entries rows i d licences mine o h within e is =
    wanted_can mine rows (entry_of (get_or entries i d)) o (here (AllByRecursion EntryIsWithin) entries i d h within).0 (subst (λ ls. IsWantedBy ls rows (entry_of (get_or entries i d)) o) e is)

pub turn_rest : (P : Entry → Type 0) (entries : List DeclaredEntry) (i : ℕ) → AllByRecursion P (map entry_of (drop i entries))
    → AllByRecursion P (map entry_of (drop (i + 1) entries))
turn_rest P entries i all = subst (λ n. AllByRecursion P (map entry_of (drop n entries))) (sym (add-one i)) (go entries i all)
  where
    go : (entries : List DeclaredEntry) (i : ℕ) → AllByRecursion P (map entry_of (drop i entries)) → AllByRecursion P (map entry_of (drop (suc i) entries))
    go [] zero all = tt
    go [] (suc i) all = tt
    go (x ∷ xs) zero all = all.1
    go (x ∷ xs) (suc i) all = go xs i all

pub turn_more : (arena : ℕ) (entries : List DeclaredEntry) (rows : List Row) (place i : ℕ) (d : DeclaredEntry) (old new : Planning) (licences : List Licensed) (o : Option (Result DeclaredCall JobCause))
    → ((name : List ℕ) → program_named (map entry_of entries) name ≡ row_program (row_among rows name)) → i < length entries
    → Going arena (map entry_of entries) (map entry_of (drop i entries)) rows place old → licences ≡ old.jobs.licences → IsWantedBy licences rows (entry_of (get_or entries i d)) o
    → ((rows : List Row) (e : Entry) → IsWantedBy old.jobs.licences rows e o → IsEntryTaken rows arena place e old new)
    → Going arena (map entry_of entries) (map entry_of (drop (i + 1) entries)) rows (place + 1) new
turn_more arena entries rows place i d old new licences o programs h going e is each =
    let x = entry_of (get_or entries i d) in
    let t : IsEntryTaken rows arena place x old new = each rows x (subst (λ ls. IsWantedBy ls rows x o) e is) in
    going_on arena (map entry_of entries) (map entry_of (drop (i + 1) entries)) rows x place old new programs
    (here (λ (l : List Entry). Going arena (map entry_of entries) l rows place old) entries i d h going) t

pub turn_end : (arena : ℕ) (entries : List DeclaredEntry) (rows : List Row) (place i : ℕ) (t : Planning) → length entries ≤ i
    → Going arena (map entry_of entries) (map entry_of (drop i entries)) rows place t → ArePlanned arena (map entry_of entries) t.jobs t.plans t.asked
turn_end arena entries rows place i t h going =
    going_done arena (map entry_of entries) rows place t
    (subst (λ (l : List DeclaredEntry). Going arena (map entry_of entries) (map entry_of l) rows place t) (drop_all i entries h) going)
