-- One job: what its licence says of its call and what is planned of it is its fate.
use Rattle.std.proofs.Common.{◌≡◌, ℕ, zero, suc, ◌<◌, ◌≤◌, Bool, true, false, List, [], ◌∷◌, ◌++◌, length, Some, None, refl, sym, ap, ◌∙◌, subst, append-nil, get_or, arith}
use Rattle.std.specs.Prelude.{slice_get, if◌then◌else◌, nat_lt, Option, Result, Ok, Err, IfOk, IsSomeAnd}
use Rattle.std.specs.declared.alloc.AllocError.{AllocError}
use Rattle.std.proofs.lemmas.Bool.Decides.{nat_tests}
use Rattle.std.proofs.lemmas.Option.{slice_get_within, get_or_from_slice_get}
use Rattle.std.specs.Option.{option_map}
use Rattle.std.specs.Str.{bytes_eq}
use Rattle.camelot_values.specs.Value.{Value, parts}
use Rattle.camelot_values.specs.Counts.{size_all}
use Rattle.camelot_values.specs.Kinds.{DataType}
use Rattle.camelot_values.specs.Outcome.{Outcome, peak_of}
use Rattle.camelot_values.specs.Typing.{ArgumentsFit}
use Rattle.grail_code.specs.Code.{Code, Func}
use Rattle.grail_code.specs.Meaning.{run_of}
use Rattle.grail_code.specs.ByName.{HasName, IsFirstNamed}
use Rattle.value_text.specs.Grammar.{IsRead, IsTooLong, IsBadShape}
use Rattle.licence.specs.Bound.{bound, lease}
use Rattle.licence.specs.Licensed.{Licensed, FitsEntry}
use Rattle.licence.specs.declared.bound.Needs.{Needs}
use Rattle.cell_machine.specs.State.{most_calls}
use Rattle.job_world.specs.Plans.{Plan, Planned, run_at, run_with, job_run, cells_with}
use Rattle.job_world.specs.Plans as world
use Rattle.job_world.specs.PlanLaws.{found_behind}
use Rattle.run_reports.specs.Told.{licence_types, Ended, TooLarge}
use Rattle.run_reports.specs.declared.outcome.JobCause.{JobCause}
use Rattle.run_reports.specs.declared.outcome.JobCause.TheVariants as job_cause
use Rattle.script_plans.specs.declared.rows.Known.{Known}
use Rattle.job_world.specs.Asking.{IsCall as IsCallOf}
use Rattle.job_world.specs.declared.call.Call.{Call as DeclaredCall}
use Rattle.script_plans.specs.declared.types.JobPlan.{JobPlan}
use Rattle.script_plans.specs.declared.types.JobPlan.TheVariants as plan
use Rattle.script_plans.specs.Programs.{ProgramText, Meaning, value_types, IsLicenceOf}
use Rattle.script_plans.specs.Fates.{Call, Unfit, Calls, HasNoEntry, IsCall, IsFate, outcome_of, bound_of, lease_of, left_by, cells_of, ended_line}
use Rattle.script_plans.specs.Lines.{run_of_call, types_at, fuel_at, planned_line, places_with}
use Rattle.script_plans.specs.Rows.{Holds, Row, row_among, IsRow, AreRows}
use Rattle.script_plans.specs.Asked.{IsCalled, IsAsked}
use Rattle.script_plans.specs.Turns.{IsBoundOf, IsOfArgs, IsAdded, IsUsable, Comes, plan_for}
use Rattle.script_plans.proofs.Naming.{MeansSame, Agrees, agrees, spelled, code_named, entry_found, no_entry}
use Rattle.script_plans.proofs.CallLaws.{is_licensed}

-- ---- what can be asked

pub usable : (licences : List Licensed) (p : ProgramText) (k : Known) → Holds licences p k → IsUsable licences k
usable licences p k h = record { licence = h.licence; at = h.at; knows = h.knows; named = code_named h.licence.code (spelled p h.licence h.meaning h.is) }

pub number_within : (p : Code) (number : ℕ) (name : List ℕ) → IsFirstNamed p number name → number < length p.funcs
number_within p number name first = by_case (slice_get p.funcs number) refl first.named
  where
    by_case : (o : Option Func) → slice_get p.funcs number ≡ o → option_map (λ f. f.name) o ≡ Some name → number < length p.funcs
    by_case None e h = absurd cc
    by_case (Some f) e h = slice_get_within p.funcs number f e

-- the function of a number that is there
func_at : (fs : List Func) (number : ℕ) → number < length fs → (f : Func) × (slice_get fs number ≡ Some f)
func_at [] number h = absurd (omega (arith, h))
func_at (f ∷ fs) zero h = (f, refl)
func_at (f ∷ fs) (suc number) h = func_at fs number (omega (arith, h))

-- ---- a text of arguments

pub bounded_is : (l : Licensed) (number : ℕ) (args : List Value) (needs : Needs) → needs.bound ≡ bound l.code l.cert number args
    → needs.lease ≡ lease l.code l.cert number args
    → ((limit fuel : ℕ) → peak_of (run_of l.code limit number fuel args) ≤ needs.bound)
    → IsBoundOf l number args needs
bounded_is l number args needs e f h = record { is = e; leased = f; peak = λ fuel. h most_calls fuel }

fits_entry : (l : Licensed) (number : ℕ) (f : Func) (args : List Value) → slice_get l.code.funcs number ≡ Some f
    → ArgumentsFit l.code.types f.params args → FitsEntry l number args
fits_entry l number f args e h = subst (λ (o : Option Func). IsSomeAnd o (λ f. ArgumentsFit l.code.types f.params args)) (sym e) h

pub read_fits : (l : Licensed) (p : Code) (number : ℕ) (f : Func) (text : List ℕ) (args : List Value) → p ≡ l.code
    → slice_get l.code.funcs number ≡ Some f → IsRead p.types f.params text args → FitsEntry l number args
read_fits l p number f text args e at r = fits_entry l number f args at (subst (λ (q : Code). ArgumentsFit q.types f.params args) e r.text_of.fit)

-- what was read of the arguments of a function
abbrev pub AreReadAt : Code → (number : ℕ) → (text : List ℕ) → List Value → Type 0
AreReadAt p number text args = (f : Func) → slice_get p.funcs number ≡ Some f → IsRead p.types f.params text args

pub read_few : (p : Code) (number : ℕ) (text : List ℕ) (args : List Value) → number < length p.funcs → AreReadAt p number text args
    → size_all (parts args) ≤ 65536
read_few p number text args there each = let f = func_at p.funcs number there in (each f.0 f.1).few

pub read_entry : (l : Licensed) (p : Code) (number : ℕ) (text : List ℕ) (args : List Value) → p ≡ l.code → number < length l.code.funcs
    → AreReadAt p number text args → FitsEntry l number args
read_entry l p number text args e there each =
    let f = func_at l.code.funcs number there in
    let at : slice_get p.funcs number ≡ Some f.0 = ap (λ (q : Code). slice_get q.funcs number) e ∙ f.1 in
    read_fits l p number f.0 text args e f.1 (each f.0 at)

pub args_read : (l : Licensed) (p : Code) (number : ℕ) (text : List ℕ) (args : List Value) → p ≡ l.code → AreReadAt p number text args
    → (f : Func) → slice_get l.code.funcs number ≡ Some f → IsRead l.code.types f.params text args
args_read l p number text args e each f is = subst (λ (q : Code). IsRead q.types f.params text args) e (each f (ap (λ (q : Code). slice_get q.funcs number) e ∙ is))

-- ---- the function of a name

-- what a text of arguments comes to at the first function of a name is what comes of the job
asked_of : (licences : List Licensed) (p : ProgramText) (m : Meaning) (l : Licensed) (n number : ℕ) (name text : List ℕ) (fuel : ℕ) (f : Func) (a : Result DeclaredCall JobCause) → IsLicenceOf p l m → Agrees l m
    → slice_get licences n ≡ Some l → IsFirstNamed l.code number name → slice_get l.code.funcs number ≡ Some f → IsOfArgs l n number f text fuel a
    → IsAsked licences (Some p) name text fuel a
asked_of licences p m l n number name text fuel f (Ok call) has agree at first is h =
    let args = call.args.items in
    let c : Call = record { meaning = m; licence = l; entry = number; args = args } in
    let read : IsRead (value_types m) f.params text args = subst (λ (ts : List DataType). IsRead ts f.params text args) agree.types h.3 in
    let fit : ArgumentsFit l.code.types f.params args = h.3.text_of.fit in
    let same : run_of l.code most_calls number fuel args ≡ outcome_of c fuel = agree.same number fuel f args is fit in
    let b : IsBoundOf l number args call.needs = h.4 in
    record {
      c = c;
      is = entry_found p name m l number f (IsCall text c) has agree first is (record { args = args; read = read; is = refl });
      licence = ap (slice_get licences) h.0 ∙ at;
      entry = h.1;
      args = refl;
      bound = b.is;
      lease = b.leased;
      fuel = h.2;
      licensed = record { licensed = is_licensed p l m has; fits = fits_entry l number f args is fit; few = read.few };
      types = agree.types;
      run = same;
      within = subst (λ (x : ℕ). peak_of (outcome_of c fuel) ≤ x) b.is (subst (λ (o : Outcome Value). peak_of o ≤ call.needs.bound) same (b.peak fuel));
    }
asked_of licences p m l n number name text fuel f (Err job_cause.NoProgram) has agree at first is h = absurd h
asked_of licences p m l n number name text fuel f (Err job_cause.ProgramRefused) has agree at first is h = absurd h
asked_of licences p m l n number name text fuel f (Err job_cause.NoEntry) has agree at first is h = absurd h
asked_of licences p m l n number name text fuel f (Err (job_cause.Argument place)) has agree at first is h =
    entry_found p name m l number f (λ m l number params. IsBadShape (value_types m) params text place) has agree first is
    (subst (λ (ts : List DataType). IsBadShape ts f.params text place) agree.types h)
asked_of licences p m l n number name text fuel f (Err (job_cause.Long items)) has agree at first is h =
    entry_found p name m l number f (λ m l number params. IsTooLong (value_types m) params text items) has agree first is
    (subst (λ (ts : List DataType). IsTooLong ts f.params text items) agree.types h)

-- the licence that is looked up
pub licence_at : (licences : List Licensed) (k : Known) (l : Licensed) → IsUsable licences k → l ≡ get_or licences k.licence l → slice_get licences k.licence ≡ Some l
licence_at licences k l u e = u.at ∙ ap Some (sym (e ∙ get_or_from_slice_get licences k.licence u.licence l u.at))

same_licence : (licences : List Licensed) (p : ProgramText) (k : Known) (l : Licensed) → slice_get licences k.licence ≡ Some l → (h : Holds licences p k)
    → IsLicenceOf p l h.meaning
same_licence licences p k l at h =
    let e : Some h.licence ≡ Some l = sym h.at ∙ at in
    let same : h.licence ≡ l = cc in subst (λ l. IsLicenceOf p l h.meaning) same h.is

pub entry_asked : (licences : List Licensed) (k : Known) (l : Licensed) (name text : List ℕ) (number fuel : ℕ) (r : Result (Result DeclaredCall JobCause) AllocError) → MeansSame → slice_get licences k.licence ≡ Some l
    → IsFirstNamed l.code number name → ((f : Func) → slice_get l.code.funcs number ≡ Some f → IfOk r (IsOfArgs l k.licence number f text fuel))
    → (p : ProgramText) → Holds licences p k → IfOk r (IsAsked licences (Some p) name text fuel)
entry_asked licences k l name text number fuel (Err e) means at first each p h = tt
entry_asked licences k l name text number fuel (Ok a) means at first each p h =
    let f = func_at l.code.funcs number (number_within l.code number name first) in
    let has = same_licence licences p k l at h in
    asked_of licences p h.meaning l k.licence number name text fuel f.0 a has (agrees p l h.meaning means has) at first f.1 (each f.0 f.1)

pub none_asked : (licences : List Licensed) (k : Known) (l : Licensed) (name : List ℕ) → MeansSame → slice_get licences k.licence ≡ Some l
    → ((number : ℕ) → HasName l.code number name → ⊥) → (p : ProgramText) → Holds licences p k → HasNoEntry p name
none_asked licences k l name means at none p h =
    let has = same_licence licences p k l at h in no_entry p name h.meaning l has (agrees p l h.meaning means has) none

-- ---- no run

none_added : (old new : Planned) → new ≡ old → new.plans ≡ old.plans ++ []
none_added old new e = ap (λ (p : Planned). p.plans) e ∙ sym (append-nil old.plans)

pub comes_refused : (p : Option ProgramText) (entry args : List ℕ) (fuel arena : ℕ) (old new : Planned) (cause : JobCause)
    → IsFate p entry args (Unfit cause) → new ≡ old
    → Comes p entry args fuel arena old new (plan.Refused cause)
comes_refused p entry args fuel arena old new cause h e = record {
  fate = Unfit cause;
  is = h;
  within = tt;
  licences = ap (λ (p : Planned). p.licences) e;
  more = [];
  plans = none_added old new e;
  leases = refl;
  runs = refl;
  cells = refl;
  numbers = refl;
  places = λ place. refl;
  line = refl;
}

-- ---- a call

pub can_be_planned : (licences : List Licensed) (p : Option ProgramText) (name text : List ℕ) (fuel : ℕ) (call : DeclaredCall) → 1 ≤ fuel → IsCalled licences p name text fuel call
    → IsCallOf licences call
can_be_planned licences p name text fuel call some h =
    let l = h.c.licence in
    let fits : FitsEntry l call.entry call.args.items =
    subst (λ n. FitsEntry l n call.args.items) (sym h.entry) (subst (FitsEntry l h.c.entry) (sym h.args) h.licensed.fits) in
    record {
      can = record {
        needs = record {
          fits = subst (λ (o : Option Licensed). IsSomeAnd o (λ l. FitsEntry l call.entry call.args.items)) (sym h.licence) fits;
          few = subst (λ vs. size_all (parts vs) ≤ 65536) (sym h.args) h.licensed.few;
        };
        some_fuel = omega (arith, some, h.fuel);
      };
      bounded = λ k there. of_licence (λ l n vs. bound l.code l.cert n vs) call.needs.bound k there h.bound;
      leased = λ k there. of_licence (λ l n vs. lease l.code l.cert n vs) call.needs.lease k there h.lease;
    }
  where
    of_licence : (size : Licensed → ℕ → List Value → ℕ) (x : ℕ) (k : Licensed) → slice_get licences call.licence ≡ Some k → x ≡ size h.c.licence h.c.entry h.c.args
        → x ≡ size k call.entry call.args.items
    of_licence size x k there e =
        let f : Some h.c.licence ≡ Some k = sym h.licence ∙ there in
        let same : h.c.licence ≡ k = cc in
        e
        ∙ ap (λ l. size l h.c.entry h.c.args) same
        ∙ ap (λ n. size k n h.c.args) (sym h.entry)
        ∙ ap (size k call.entry) (sym h.args)

-- the line of the plan that was added
added_line : (licences : List Licensed) (plans : List Plan) (n arena fuel bound : ℕ) (l : Licensed) (entry : ℕ) (args : List Value)
    → slice_get licences n ≡ Some l
    → planned_line (record { licences = licences; plans = plans ++ plan_for n fuel l entry args ∷ [] }) arena (plan.Runs (length plans) bound) ≡ Ended l.code.types (run_of l.code most_calls entry fuel args) fuel bound
unfolding job_run
added_line licences plans n arena fuel bound l entry args at =
    let p : Plan = plan_for n fuel l entry args in
    ap (λ (o : Option Plan). Ended (types_at licences o) (run_at licences o) (fuel_at o) bound) (found_behind plans p [])
    ∙ ap (λ (o : Option Licensed). Ended (licence_types o) (run_with o p) fuel bound) at

-- the cells that its run leaves
same_left : (c : Call) (n fuel : ℕ) (o : Option Func) → world.cells_of c.licence (plan_for n fuel c.licence c.entry c.args) o ≡ left_by c fuel o
same_left c n fuel None = refl
same_left c n fuel (Some f) = refl

new_plans : (old new : Planned) (p : Plan) → new.licences ≡ old.licences → new.plans ≡ old.plans ++ p ∷ [] → new ≡ record { licences = old.licences; plans = old.plans ++ p ∷ [] }
new_plans old new p e f = λ i. record { licences = e i; plans = f i }

by_plan : (p : Option ProgramText) (name text : List ℕ) (fuel arena : ℕ) (old new : Planned) (call : DeclaredCall) (q : JobPlan) → (h : IsCalled old.licences p name text fuel call)
    → IsAdded arena (plan_for call.licence fuel h.c.licence h.c.entry h.c.args) (bound_of h.c) old new q → Comes p name text fuel arena old new q
by_plan p name text fuel arena old new call (plan.Refused cause) h k = absurd k
by_plan p name text fuel arena old new call (plan.TooLarge cells) h k =
    let c = h.c in
    let large : nat_lt arena (lease_of c) ≡ true = grind (arith, nat_tests, k.1) in
    record {
      fate = Calls c;
      is = h.is;
      within = h.within;
      licences = ap (λ (ps : Planned). ps.licences) k.2;
      more = [];
      plans = none_added old new k.2;
      leases = sym (ap (λ b. if b then [] else lease_of c ∷ []) large);
      runs = sym (ap (λ b. if b then [] else run_of_call fuel c ∷ []) large);
      cells = sym (ap (λ b. if b then [] else cells_of c fuel ∷ []) large);
      numbers = refl;
      places = λ place. ap (λ b. places_with (if b then [] else lease_of c ∷ []) place) large;
      line = ap (λ x. TooLarge x arena) k.0 ∙ sym (ap (λ b. if b then TooLarge (lease_of c) arena else ended_line fuel c) large);
    }
by_plan p name text fuel arena old new call (plan.Runs job most) h k =
    let c = h.c in
    let added : Plan = plan_for call.licence fuel c.licence c.entry c.args in
    let fits : nat_lt arena (lease_of c) ≡ false = grind (arith, nat_tests, k.2) in
    record {
      fate = Calls c;
      is = h.is;
      within = h.within;
      licences = k.3;
      more = added ∷ [];
      plans = k.4;
      leases = sym (ap (λ b. if b then [] else lease_of c ∷ []) fits);
      runs =
          ap (λ (o : Option Licensed). record { licence = o; entry = c.entry; args = c.args; fuel = fuel; lease = lease_of c } ∷ []) h.licence
          ∙ sym (ap (λ b. if b then [] else run_of_call fuel c ∷ []) fits);
      cells =
          ap (λ (o : Option Licensed). cells_with o added ∷ []) h.licence
          ∙ ap (λ cells. cells ∷ []) (same_left c call.licence fuel (slice_get c.licence.code.funcs c.entry))
          ∙ sym (ap (λ b. if b then [] else cells_of c fuel ∷ []) fits);
      numbers = ap (λ n. n ∷ []) k.0;
      places = λ place. ap (λ b. places_with (if b then [] else lease_of c ∷ []) place) fits;
      line =
          ap (λ n. planned_line new arena (plan.Runs n most)) k.0
          ∙ ap (λ (ps : Planned). planned_line ps arena (plan.Runs (length old.plans) most)) (new_plans old new added k.3 k.4)
          ∙ added_line old.licences old.plans call.licence arena fuel most c.licence c.entry c.args h.licence
          ∙ ap (λ (ts : List DataType). Ended ts (run_of c.licence.code most_calls c.entry fuel c.args) fuel most) h.types
          ∙ ap (λ (o : Outcome Value). Ended (value_types c.meaning) o fuel most) h.run
          ∙ ap (λ x. Ended (value_types c.meaning) (outcome_of c fuel) fuel x) k.1
          ∙ sym (ap (λ b. if b then TooLarge (lease_of c) arena else ended_line fuel c) fits);
    }

pub comes_call : (p : Option ProgramText) (name text : List ℕ) (fuel arena : ℕ) (old new : Planned) (call : DeclaredCall) (q : JobPlan) → (h : IsCalled old.licences p name text fuel call)
    → IsAdded arena (plan_for call.licence call.fuel h.c.licence call.entry call.args.items) call.needs.bound old new q → Comes p name text fuel arena old new q
comes_call p name text fuel arena old new call q h k =
    let l = h.c.licence in
    let same : plan_for call.licence call.fuel l call.entry call.args.items ≡ plan_for call.licence fuel l h.c.entry h.c.args =
    ap (λ x. plan_for call.licence x l call.entry call.args.items) h.fuel
    ∙ ap (λ n. plan_for call.licence fuel l n call.args.items) h.entry
    ∙ ap (plan_for call.licence fuel l h.c.entry) h.args in
    by_plan p name text fuel arena old new call q h
    (subst (λ (added : Plan). IsAdded arena added (bound_of h.c) old new q) same
    (subst (λ (x : ℕ). IsAdded arena (plan_for call.licence call.fuel l call.entry call.args.items) x old new q) h.bound k))

-- ---- rows

-- a row that is found is one of the rows
row_found : (licences : List Licensed) (rows : List Row) (name : List ℕ) (r : Row) → AreRows licences rows → row_among rows name ≡ Some r → IsRow licences r
row_found licences [] name r h e = absurd cc
row_found licences (q ∷ rows) name r h e = by_test (bytes_eq q.name name) (λ f. row_found licences rows name r h.1 f) e
  where
    by_test : (b : Bool) → (row_among rows name ≡ Some r → IsRow licences r) → (if b then Some q else row_among rows name) ≡ Some r → IsRow licences r
    by_test true go e = let same : q ≡ r = cc in subst (IsRow licences) same h.0
    by_test false go e = go e

pub row_fits : (licences : List Licensed) (rows : List Row) (name : List ℕ) (r : Row) → AreRows licences rows → Some r ≡ row_among rows name → IsRow licences r
row_fits licences rows name r h e = row_found licences rows name r h (sym e)
