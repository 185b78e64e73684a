-- The calls of a script's jobs are plans of runs, and each leaves as many cells as its lease has.
use Rattle.std.proofs.Common.{◌≡◌, ℕ, zero, suc, ◌+◌, ◌*◌, ◌<◌, ◌≤◌, nat_lt, if◌then◌else◌, Bool, true, false, List, [], ◌∷◌, ◌++◌, length, map, Option, Some, None, refl, sym, ap, ◌∙◌, subst, arith, append_assoc, length-append}
use Rattle.std.specs.Prelude.{slice_get, IsSomeAnd}
use Rattle.std.specs.List.{AllByRecursion}
use Rattle.std.specs.Option.{option_map}
use Rattle.std.specs.Str.{bytes_eq}
use Rattle.std.proofs.lemmas.Bool.Decides.{nat_tests}
use Rattle.camelot_values.specs.Kinds.{Constructor, DataType, IsConstructor, IsDataType}
use Rattle.camelot_values.specs.Names.{place_among}
use Rattle.camelot_values.specs.Typing.{ArgumentsFit}
use Rattle.camelot_values.specs.declared.kinds.Kind.{Kind}
use Rattle.cell_span.specs.declared.cell.Cell.{Cell}
use Rattle.grail_code.specs.Code.{Code, Func, Block}
use Rattle.grail_code.specs.Limits.{FuncIsWithin, IsWithinLimits}
use Rattle.grail_code.specs.Spelling.{Format, FitsCode, FitsFunc, FitsBlock, FitsType, FitsCon}
use Rattle.licence.specs.Licensed.{Licensed, IsLicensed}
use Rattle.grail_verifier.specs.Accepted.{IsAccepted}
use Rattle.cell_machine.specs.Loading.{steps_a_call}
use Rattle.cell_machine.specs.Plans.{IsPlan}
use Rattle.cell_machine.specs.PlanLaws.{runs_as_planned}
use Rattle.job_script.specs.Scripts.{Entry, AProgram, AJob, EntryIsWithin}
use Rattle.job_world.specs.Plans.{Plan, Planned, IsFit, cells_with}
use Rattle.job_world.specs.Plans as world
use Rattle.script_plans.specs.Programs.{ProgramText, CamelotText, GrailText, Meaning, function_names, function_params, value_types, program_named, IsLicenceOf}
use Rattle.script_plans.specs.Fates.{Call, Fate, Unfit, Calls, OfEntry, IsCall, IsFate, lease_of, left_by, leases_of, cells_left}
use Rattle.script_plans.specs.Fates as fates
use Rattle.script_plans.specs.Lines.{JobRun, run_of_plan, run_of_call, all_runs, AreFates, sizes_of, all_left, planned_cells}
use Rattle.script_plans.specs.CallPlans.{IsLicensedCall, HavePlans}
use Rattle.script_plans.proofs.Naming.{MeansSame, Agrees, agrees}

-- ---- licences

some_same : {A : Type 0} (x y : A) → Some x ≡ Some y → x ≡ y
some_same x y e = cc

few_lets : (f : Format) (bs : List Block) → AllByRecursion (FitsBlock f) bs → AllByRecursion (λ b. length b.lets ≤ 256) bs
few_lets f [] h = tt
few_lets f (b ∷ bs) h = (h.0.lets.few, few_lets f bs h.1)

funcs_within : (f : Format) (gs : List Func) → AllByRecursion (FitsFunc f) gs → AllByRecursion FuncIsWithin gs
funcs_within f [] h = tt
funcs_within f (g ∷ gs) h = (
  record {
    few_params = h.0.params.few;
    as_many = h.0.as_many;
    few_locals = h.0.locals.few;
    some_blocks = h.0.blocks.enough;
    few_blocks = h.0.blocks.few;
    few_lets = few_lets f g.blocks h.0.blocks.each;
  },
  funcs_within f gs h.1,
)

constructors : (cs : List Constructor) → AllByRecursion FitsCon cs → AllByRecursion IsConstructor cs
constructors [] h = tt
constructors (c ∷ cs) h = (record { few_fields = h.0.fields.few; inline_is_bare = h.0.inline_is_bare }, constructors cs h.1)

data_types : (ts : List DataType) → AllByRecursion FitsType ts → AllByRecursion IsDataType ts
data_types [] h = tt
data_types (t ∷ ts) h = (record { some_cons = h.0.cons.enough; few_cons = h.0.cons.few; each = constructors t.cons h.0.cons.each }, data_types ts h.1)

-- code that has a spelling is within the limits
pub within_limits : (f : Format) (p : Code) → FitsCode f p → IsWithinLimits p
within_limits f p h = record {
  types = record { few_types = h.types.few; each = data_types p.types h.types.each };
  few_funcs = h.funcs.few;
  funcs = funcs_within f p.funcs h.funcs.each;
}

accepted_licensed : (code cert : List ℕ) (l : Licensed) → IsAccepted code cert l → IsLicensed l
accepted_licensed code cert l a = record {
  well = a.well;
  limits = within_limits a.spelled.format l.code a.spelled.fits;
  form = a.formed;
  grants = a.granted;
}

-- the licence of a program is one
pub is_licensed : (p : ProgramText) (l : Licensed) (m : Meaning) → IsLicenceOf p l m → IsLicensed l
is_licensed (CamelotText text) l m h = accepted_licensed _ _ l h.is.accepted
is_licensed (GrailText text) l m h = accepted_licensed _ _ l h.has.accepted

-- ---- calls

placed_within : (names : List (List ℕ)) (name : List ℕ) (n : ℕ) → place_among names name ≡ Some n → n < length names
placed_within [] name n e = absurd cc
placed_within (x ∷ names) name n e = by_test (bytes_eq x name) (place_among names name) (λ m q. placed_within names name m q) e
  where
    by_place : (o : Option ℕ) → ((m : ℕ) → o ≡ Some m → m < length names) → option_map suc o ≡ Some n → n < suc (length names)
    by_place None go e = absurd cc
    by_place (Some m) go e = let same : suc m ≡ n = some_same (suc m) n e in omega (arith, same, go m refl)

    by_test : (b : Bool) (o : Option ℕ) → ((m : ℕ) → o ≡ Some m → m < length names) → (if b then Some 0 else option_map suc o) ≡ Some n → n < suc (length names)
    by_test true o go e = omega (arith, some_same 0 n e)
    by_test false o go e = by_place o go e

func_there : (gs : List Func) (n : ℕ) → n < length gs → (g : Func) × (slice_get gs n ≡ Some g)
func_there [] n h = absurd (omega (arith, h))
func_there (g ∷ gs) zero h = (g, refl)
func_there (g ∷ gs) (suc n) h = func_there gs n (omega (arith, h))

many_names : (gs : List Func) → length (map (λ (g : Func). g.name) gs) ≡ length gs
many_names [] = refl
many_names (g ∷ gs) = ap suc (many_names gs)

licensed_entry : (p : ProgramText) (text : List ℕ) (c : Call) (m : Meaning) (l : Licensed) (entry : ℕ) (params : List Kind) → IsLicenceOf p l m → Agrees l m
    → entry < length (function_names m) → slice_get (function_params m) entry ≡ Some params → IsCall text c m l entry params → IsLicensedCall c
licensed_entry p text c m l entry params has agree less is call =
    subst IsLicensedCall (sym call.is)
    (record {
      licensed = is_licensed p l m has;
      fits = subst (λ (o : Option Func). IsSomeAnd o (λ g. ArgumentsFit l.code.types g.params call.args)) (sym func.1) fit;
      few = call.read.few;
    })
  where
    func : (g : Func) × (slice_get l.code.funcs entry ≡ Some g)
    func = func_there l.code.funcs entry (omega (arith, less, many_names l.code.funcs, ap (λ (ns : List (List ℕ)). length ns) agree.names))

    kinds : params ≡ func.0.params
    kinds = some_same params func.0.params (sym is ∙ agree.params entry func.0 func.1)

    fit : ArgumentsFit l.code.types func.0.params call.args
    fit = subst (λ (ts : List DataType). ArgumentsFit ts func.0.params call.args) (sym agree.types) (subst (λ (ks : List Kind). ArgumentsFit (value_types m) ks call.args) kinds call.read.text_of.fit)

pub licensed_call : MeansSame → (o : Option ProgramText) (entry args : List ℕ) (c : Call) → IsFate o entry args (Calls c) → IsLicensedCall c
licensed_call means None entry args c h = absurd h
licensed_call means (Some p) entry args c h =
    licensed_entry p args c h.meaning h.licence h.entry h.params h.has (agrees p h.licence h.meaning means h.has)
    (placed_within (function_names h.meaning) entry h.entry h.named) h.is h.says

-- ---- cells

pub as_many_cells : (c : Call) (fuel : ℕ) → IsLicensedCall c → 1 ≤ fuel → lease_of c ≤ 2147483648 → length (fates.cells_of c fuel) ≡ lease_of c
as_many_cells c fuel h some few = by_func (slice_get c.licence.code.funcs c.entry) refl h.fits
  where
    plan : IsPlan c.licence c.entry c.args fuel (lease_of c)
    plan = record { fits = h.fits; few = h.few; some_fuel = some; lease = refl }

    by_func : (o : Option Func) → slice_get c.licence.code.funcs c.entry ≡ o → IsSomeAnd o (λ g. ArgumentsFit c.licence.code.types g.params c.args)
        → length (left_by c fuel o) ≡ lease_of c
    by_func None e f = absurd f
    by_func (Some g) e f = (runs_as_planned c.licence c.entry g c.args fuel (lease_of c) h.licensed plan few e).size (steps_a_call * fuel)

-- ---- plans

abbrev plan_of : (number fuel : ℕ) → Call → Plan
plan_of number fuel c = record { licence = number; entry = c.entry; args = c.args; fuel = fuel; lease = lease_of c }

-- the licences of the jobs that go to the desk, one for each, and their plans, the first of which has the licence of
-- this number
abbrev licence_for : (arena : ℕ) → Fate → List Licensed
licence_for arena (Unfit cause) = []
licence_for arena (Calls c) = if nat_lt arena (lease_of c) then [] else c.licence ∷ []

abbrev plan_for : (arena number fuel : ℕ) → Fate → List Plan
plan_for arena number fuel (Unfit cause) = []
plan_for arena number fuel (Calls c) = if nat_lt arena (lease_of c) then [] else plan_of number fuel c ∷ []

abbrev licences_for : (arena : ℕ) → List Entry → List Fate → List Licensed
licences_for arena [] fs = []
licences_for arena (AProgram p ∷ entries) fs = licences_for arena entries fs
licences_for arena (AJob j ∷ entries) [] = []
licences_for arena (AJob j ∷ entries) (f ∷ fs) = licence_for arena f ++ licences_for arena entries fs

abbrev plans_for : (arena number : ℕ) → List Entry → List Fate → List Plan
plans_for arena number [] fs = []
plans_for arena number (AProgram p ∷ entries) fs = plans_for arena number entries fs
plans_for arena number (AJob j ∷ entries) [] = []
plans_for arena number (AJob j ∷ entries) (f ∷ fs) = plan_for arena number j.fuel f ++ plans_for arena (number + length (licence_for arena f)) entries fs

-- what holds of plans with these licences
record Fine (arena : ℕ) (licences : List Licensed) (plans : List Plan) (runs : List JobRun) (sizes : List ℕ) (lefts : List (List Cell)) : Type 0 where
  fit : AllByRecursion (IsFit licences) plans
  within : AllByRecursion (λ (p : Plan). p.lease ≤ arena) plans
  are : map (run_of_plan licences) plans ≡ runs
  leases : world.leases_of plans ≡ sizes
  cells : planned_cells licences plans ≡ lefts

found : (front more : List Licensed) (l : Licensed) → slice_get (front ++ l ∷ more) (length front) ≡ Some l
found [] more l = refl
found (x ∷ front) more l = found front more l

same_left : (c : Call) (number fuel : ℕ) (o : Option Func) → world.cells_of c.licence (plan_of number fuel c) o ≡ left_by c fuel o
same_left c number fuel None = refl
same_left c number fuel (Some g) = refl

one_plan : (arena number fuel : ℕ) (licences : List Licensed) (c : Call) (plans : List Plan) (runs : List JobRun) (leases : List ℕ) (cells : List (List Cell)) → slice_get licences number ≡ Some c.licence
    → IsLicensedCall c → 1 ≤ fuel → lease_of c ≤ arena → arena ≤ 2147483648 → Fine arena licences plans runs leases cells
    → Fine arena licences (plan_of number fuel c ∷ plans) (run_of_call fuel c ∷ runs) (lease_of c ∷ leases) (fates.cells_of c fuel ∷ cells)
one_plan arena number fuel licences c plans runs leases cells at h some less few k = record {
  fit = (
    record {
      licensed = subst (λ (o : Option Licensed). IsSomeAnd o IsLicensed) (sym at) h.licensed;
      plan = subst (λ (o : Option Licensed). IsSomeAnd o (λ l. IsPlan l c.entry c.args fuel (lease_of c))) (sym at)
          (record { fits = h.fits; few = h.few; some_fuel = some; lease = refl });
      few = omega (arith, less, few);
    },
    k.fit,
  );
  within = (less, k.within);
  are =
      ap (λ (o : Option Licensed). record { licence = o; entry = c.entry; args = c.args; fuel = fuel; lease = lease_of c } ∷ map (run_of_plan licences) plans) at
      ∙ ap (λ l. run_of_call fuel c ∷ l) k.are;
  leases = ap (λ l. lease_of c ∷ l) k.leases;
  cells =
      ap (λ (o : Option Licensed). cells_with o (plan_of number fuel c) ∷ planned_cells licences plans) at
      ∙ ap (λ l. l ∷ planned_cells licences plans) (same_left c number fuel (slice_get c.licence.code.funcs c.entry))
      ∙ ap (λ l. fates.cells_of c fuel ∷ l) k.cells;
}

fine : MeansSame → (arena : ℕ) → arena ≤ 2147483648 → (script entries : List Entry) (fs : List Fate) (front licences : List Licensed)
    → licences ≡ front ++ licences_for arena entries fs → AllByRecursion EntryIsWithin entries → AreFates script entries fs
    → Fine arena licences (plans_for arena (length front) entries fs) (all_runs arena entries fs) (sizes_of arena fs) (all_left arena entries fs)
fine means arena few script [] [] front licences e w h = record { fit = tt; within = tt; are = refl; leases = refl; cells = refl }
fine means arena few script [] (f ∷ fs) front licences e w h = absurd h
fine means arena few script (AProgram p ∷ entries) fs front licences e w h = fine means arena few script entries fs front licences e w.1 h
fine means arena few script (AJob j ∷ entries) [] front licences e w h = absurd h
fine means arena few script (AJob j ∷ entries) (Unfit cause ∷ fs) front licences e w h =
    subst (λ n. Fine arena licences (plans_for arena n entries fs) (all_runs arena entries fs) (sizes_of arena fs) (all_left arena entries fs)) (let z : length front ≡ length front + 0 = omega arith in z)
    (fine means arena few script entries fs front licences e w.1 h.2)
fine means arena few script (AJob j ∷ entries) (Calls c ∷ fs) front licences e w h =
    by_test (nat_lt arena (lease_of c)) refl e (λ more same. fine means arena few script entries fs more licences same w.1 h.2)
  where
    by_test : (b : Bool) → nat_lt arena (lease_of c) ≡ b → licences ≡ front ++ ((if b then [] else c.licence ∷ []) ++ licences_for arena entries fs)
        → ((more : List Licensed) → licences ≡ more ++ licences_for arena entries fs → Fine arena licences (plans_for arena (length more) entries fs) (all_runs arena entries fs) (sizes_of arena fs) (all_left arena entries fs))
        → Fine arena licences ((if b then [] else plan_of (length front) j.fuel c ∷ []) ++ plans_for arena (length front + length (if b then [] else c.licence ∷ [])) entries fs)
        ((if b then [] else run_of_call j.fuel c ∷ []) ++ all_runs arena entries fs) ((if b then [] else lease_of c ∷ []) ++ sizes_of arena fs) ((if b then [] else fates.cells_of c j.fuel ∷ []) ++ all_left arena entries fs)
    by_test true t same go =
        subst (λ n. Fine arena licences (plans_for arena n entries fs) (all_runs arena entries fs) (sizes_of arena fs) (all_left arena entries fs)) (let z : length front ≡ length front + 0 = omega arith in z) (go front same)
    by_test false t same go =
        let less : lease_of c ≤ arena = grind (arith, nat_tests, t) in
        let at : slice_get licences (length front) ≡ Some c.licence = ap (λ l. slice_get l (length front)) same ∙ found front (licences_for arena entries fs) c.licence in
        let n : length (front ++ c.licence ∷ []) ≡ length front + 1 = length-append front (c.licence ∷ []) in
        one_plan arena (length front) j.fuel licences c (plans_for arena (length front + 1) entries fs) (all_runs arena entries fs) (sizes_of arena fs) (all_left arena entries fs) at
        (licensed_call means (program_named script j.program) j.entry j.args c h.0) w.0.least less few
        (subst (λ n. Fine arena licences (plans_for arena n entries fs) (all_runs arena entries fs) (sizes_of arena fs) (all_left arena entries fs)) n
        (go (front ++ c.licence ∷ []) (same ∙ sym (append_assoc front (c.licence ∷ []) (licences_for arena entries fs)))))

pub have_plans : MeansSame → (arena : ℕ) (script : List Entry) (fs : List Fate) → arena ≤ 2147483648 → AllByRecursion EntryIsWithin script
    → AreFates script script fs → HavePlans arena script fs
have_plans means arena script fs few w h =
    let k = fine means arena few script script fs [] (licences_for arena script fs) refl w h in
    record {
      planned = record { licences = licences_for arena script fs; plans = plans_for arena 0 script fs };
      are = record { can = record { fit = k.fit; within = k.within }; runs = k.are; leases = k.leases; cells = k.cells };
    }
