-- What is kept of the jobs that are served, from one event to the next.
use Rattle.std.proofs.Common.{◌≡◌, ℕ, zero, suc, ◌+◌, ◌-◌, ◌*◌, ◌<◌, ◌≤◌, Bool, true, false, List, [], ◌∷◌, ◌++◌, length, take, Option, Some, None, refl, sym, ap, ◌∙◌, subst, arith, inl, inr}
use Rattle.std.specs.Prelude.{◌⊎◌, ◌==◌, nat_lt, slice_get, slice_set, IsSomeAnd}
use Rattle.std.proofs.lemmas.Bool.Decides.{nat_tests}
use Rattle.std.specs.Option.{option_map_or}
use Rattle.std.specs.List.{AllByRecursion}
use Rattle.std.proofs.lemmas.Option.{slice_get_within}
use Rattle.grail_code.specs.Code.{Func}
use Rattle.licence.specs.Licensed.{Licensed, IsLicensed}
use Rattle.camelot_values.specs.Typing.{ArgumentsFit}
use Rattle.cell_machine.specs.Plans.{IsPlan}
use Rattle.job_world.specs.Plans.{Plan, Planned, IsFit, AreFit, leases_of}
use Rattle.lease_desk.specs.Journal.{AreSizes}
use Rattle.cell_machine.specs.declared.machine.Ending.{Ending}
use Rattle.sliced_jobs.specs.Kits.{AreKits}
use Rattle.sliced_jobs.specs.Ready.{HasRun, HasEnded, image_in}
use Rattle.sliced_jobs.specs.Slices.{AreFuelled}
use Rattle.sliced_jobs.specs.Table.{lease_at, leased, slices_left, most_slices, IsPlanAt, IsGoingOn, IsDone, IsAmong, IsHeld, IsTable, IsSameBut, IsLeft, left_of}
use Rattle.sliced_jobs.specs.UnderWay.{IsPlanOf}
use Rattle.sliced_jobs.specs.declared.table.Going.{Going}
use Rattle.sliced_jobs.specs.declared.table.Table.{Table}
use Rattle.sliced_jobs.proofs.Going.{begins, few_steps}
use Rattle.sliced_jobs.proofs.Kitting.{length_written, written_there, written_else}

-- ---- plans

pub all_at : {X : Type 0} (P : X → Type 0) (xs : List X) (n : ℕ) (x : X) → AllByRecursion P xs → slice_get xs n ≡ Some x → P x
all_at P [] n x h e = let c : None ≡ Some x = e in absurd cc
all_at P (y ∷ xs) zero x h e = let same : y ≡ x = cc in subst P same h.0
all_at P (y ∷ xs) (suc n) x h e = all_at P xs n x h.1 e

-- a plan with the run that begins
pub record CanBegin (asked : ℕ) (ps : Planned) (job : ℕ) (p : Plan) : Type 0 where
  pub l : Licensed
  pub at : IsPlanAt ps job p l
  pub run : HasRun asked l p 0 None

pub can_begin : (asked : ℕ) (ps : Planned) (job : ℕ) (p : Plan) → AreFit ps → AreFuelled ps → slice_get ps.plans job ≡ Some p → CanBegin asked ps job p
can_begin asked ps job p fit fuels is = by_licence (slice_get ps.licences p.licence) refl mine.licensed mine.plan
  where
    mine : IsFit ps.licences p
    mine = all_at (IsFit ps.licences) ps.plans job p fit is

    fuel : p.fuel ≤ 1099511627776
    fuel = all_at (λ (q : Plan). q.fuel ≤ 1099511627776) ps.plans job p fuels is

    by_func : (l : Licensed) → slice_get ps.licences p.licence ≡ Some l → IsLicensed l → IsPlan l p.entry p.args p.fuel p.lease → (o : Option Func) → slice_get l.code.funcs p.entry ≡ o
        → IsSomeAnd o (λ f. ArgumentsFit l.code.types f.params p.args) → CanBegin asked ps job p
    by_func l e h k None g fits = absurd fits
    by_func l e h k (Some f) g fits =
        let plan : IsPlanOf l f p = record { licensed = h; func = g; plan = k; few = mine.few; fuel = fuel } in
        record { l = l; at = record { plan = is; licence = e }; run = record { f = f; is = plan; way = begins asked l f p } }

    by_licence : (o : Option Licensed) → slice_get ps.licences p.licence ≡ o → IsSomeAnd o IsLicensed → IsSomeAnd o (λ l. IsPlan l p.entry p.args p.fuel p.lease) → CanBegin asked ps job p
    by_licence None e h k = absurd h
    by_licence (Some l) e h k = by_func l e h k (slice_get l.code.funcs p.entry) refl k.fits

pub lease_is : (ps : Planned) (job : ℕ) (p : Plan) → slice_get ps.plans job ≡ Some p → lease_at ps job ≡ p.lease
lease_is ps job p e = ap (λ (o : Option Plan). option_map_or (λ (q : Plan). q.lease) o 0) e

-- ---- one more that is under way

leased_more : (ps : Planned) (gs : List Going) (g : Going) → leased ps (gs ++ g ∷ []) ≡ leased ps gs + lease_at ps g.job
leased_more ps [] g = omega arith
leased_more ps (h ∷ gs) g = omega (arith, leased_more ps gs g)

slices_more : (gs : List Going) (g : Going) → slices_left (gs ++ g ∷ []) ≡ slices_left gs + (most_slices - g.made)
slices_more [] g = omega arith
slices_more (h ∷ gs) g = omega (arith, slices_more gs g)

all_more : {X : Type 0} (P : X → Type 0) (xs : List X) (x : X) → AllByRecursion P xs → P x → AllByRecursion P (xs ++ x ∷ [])
all_more P [] x h k = (k, tt)
all_more P (y ∷ xs) x h k = (h.0, all_more P xs x h.1 k)

among_more : (job : ℕ) (gs : List Going) (g : Going) → IsAmong job gs → IsAmong job (gs ++ g ∷ [])
among_more job [] g h = absurd h
among_more job (x ∷ gs) g (inl e) = inl e
among_more job (x ∷ gs) g (inr h) = inr (among_more job gs g h)

among_last : (job : ℕ) (gs : List Going) (g : Going) → g.job ≡ job → IsAmong job (gs ++ g ∷ [])
among_last job [] g e = inl e
among_last job (x ∷ gs) g e = inr (among_last job gs g e)

-- ---- the next job joins

later : (asked : ℕ) (ps : Planned) (next : ℕ) (gs : List Going) → AllByRecursion (IsGoingOn asked ps next) gs → AllByRecursion (IsGoingOn asked ps (next + 1)) gs
later asked ps next [] h = tt
later asked ps next (g ∷ gs) h = (record { before = omega (arith, h.0.before); p = h.0.p; l = h.0.l; at = h.0.at; run = h.0.run }, later asked ps next gs h.1)

-- with one job more, which begins
pub record Joined (t u : Table) (p : Plan) : Type 0 where
  pub g : Going
  pub job : g.job ≡ t.next
  pub made : g.made ≡ 0
  pub image : image_in g.image ≡ None
  pub going : u.going.items ≡ t.going.items ++ g ∷ []
  pub next : u.next ≡ t.next + 1
  pub free : u.free ≡ t.free - p.lease
  pub endings : u.endings.items ≡ t.endings.items
  pub numbers : u.numbers.items ≡ t.numbers.items
  pub kits : u.kits.items ≡ t.kits.items

new_going : (asked : ℕ) (ps : Planned) (next : ℕ) (p : Plan) (g : Going) → CanBegin asked ps next p → g.job ≡ next → g.made ≡ 0 → image_in g.image ≡ None
    → IsGoingOn asked ps (next + 1) g
new_going asked ps next p g can job made image = record {
  before = omega (arith, job);
  p = p;
  l = can.l;
  at = subst (λ n. IsPlanAt ps n p can.l) (sym job) can.at;
  run = subst (λ m. HasRun asked can.l p m (image_in g.image)) (sym made) (subst (HasRun asked can.l p 0) (sym image) can.run);
}

pub joined_is : (asked arena : ℕ) (ps : Planned) (t u : Table) (p : Plan) → AreFit ps → AreFuelled ps → IsTable asked ps arena t → slice_get ps.plans t.next ≡ Some p → lease_at ps t.next ≤ t.free
    → Joined t u p → IsTable asked ps arena u
joined_is asked arena ps t u p fit fuels h is fits j = record {
  next = omega (arith, j.next, slice_get_within ps.plans t.next p is);
  cells = omega (arith, h.cells, j.free, fits, lease_is ps t.next p is, ap (leased ps) j.going, leased_more ps t.going.items j.g, ap (lease_at ps) j.job);
  endings = ap length j.endings ∙ h.endings;
  numbers = ap length j.numbers ∙ h.numbers;
  kits = ap length j.kits ∙ h.kits;
  own = λ number l k a b. h.own number l k a (ap (λ ks. slice_get ks number) (sym j.kits) ∙ b);
  going = subst (λ n. AllByRecursion (IsGoingOn asked ps n) u.going.items) (sym j.next) (subst (AllByRecursion (IsGoingOn asked ps (t.next + 1))) (sym j.going)
      (all_more (IsGoingOn asked ps (t.next + 1)) t.going.items j.g (later asked ps t.next t.going.items h.going)
      (new_going asked ps t.next p j.g (can_begin asked ps t.next p fit fuels is) j.job j.made j.image)));
  each = λ job less. subst (λ es. IsDone asked ps job (slice_get es job) (slice_get u.numbers.items job) ⊎ IsAmong job u.going.items) (sym j.endings)
      (subst (λ ns. IsDone asked ps job (slice_get t.endings.items job) (slice_get ns job) ⊎ IsAmong job u.going.items) (sym j.numbers)
      (subst (λ gs. IsDone asked ps job (slice_get t.endings.items job) (slice_get t.numbers.items job) ⊎ IsAmong job gs) (sym j.going) (by_place job (nat_lt job t.next) refl (omega (arith, less, j.next)))));
}
  where
    old : (job : ℕ) → IsDone asked ps job (slice_get t.endings.items job) (slice_get t.numbers.items job) ⊎ IsAmong job t.going.items
        → IsDone asked ps job (slice_get t.endings.items job) (slice_get t.numbers.items job) ⊎ IsAmong job (t.going.items ++ j.g ∷ [])
    old job (inl d) = inl d
    old job (inr a) = inr (among_more job t.going.items j.g a)

    by_place : (job : ℕ) (b : Bool) → nat_lt job t.next ≡ b → job < t.next + 1
        → IsDone asked ps job (slice_get t.endings.items job) (slice_get t.numbers.items job) ⊎ IsAmong job (t.going.items ++ j.g ∷ [])
    by_place job true e less = let k : job < t.next = grind (arith, nat_tests, e) in old job (h.each job k)
    by_place job false e less = let k : t.next ≤ job = grind (arith, nat_tests, e) in inr (among_last job t.going.items j.g (omega (arith, k, less, j.job)))

pub joined_less : (ps : Planned) (t u : Table) (p : Plan) → slice_get ps.plans t.next ≡ Some p → Joined t u p → left_of ps u < left_of ps t
joined_less ps t u p is j =
    let many : slices_left u.going.items ≡ slices_left t.going.items + most_slices = ap slices_left j.going ∙ slices_more t.going.items j.g ∙ ap (λ m. slices_left t.going.items + (most_slices - m)) j.made in
    let within = slice_get_within ps.plans t.next p is in
    omega (arith, many, within, j.next)

-- ---- the first job has its turn

-- with other kits
pub with_kits : (asked arena : ℕ) (ps : Planned) (gs : List Going) (t u : Table) → IsHeld asked ps arena gs t → IsSameBut t u → AreKits ps.licences u.kits.items
    → length u.kits.items ≡ length ps.licences → IsHeld asked ps arena gs u
with_kits asked arena ps gs t u h s own many = record {
  next = omega (arith, h.next, s.next);
  cells = omega (arith, h.cells, s.free);
  endings = ap length s.endings ∙ h.endings;
  numbers = ap length s.numbers ∙ h.numbers;
  kits = many;
  own = own;
  going = subst (λ n. AllByRecursion (IsGoingOn asked ps n) gs) (sym s.next) h.going;
  each = λ job less. subst (λ es. IsDone asked ps job (slice_get es job) (slice_get u.numbers.items job) ⊎ IsAmong job gs) (sym s.endings)
      (subst (λ ns. IsDone asked ps job (slice_get t.endings.items job) (slice_get ns job) ⊎ IsAmong job gs) (sym s.numbers) (h.each job (omega (arith, less, s.next))));
}

-- what is known of the first one
pub made_few : (asked : ℕ) (ps : Planned) (next : ℕ) (g : Going) → IsGoingOn asked ps next g → g.made < most_slices
made_few asked ps next g k =
    let w = k.run.way in
    omega (arith, w.many, few_steps k.l k.run.f k.p w.count w.state k.run.is w.are)

-- it is over
pub record Ended (asked : ℕ) (ps : Planned) (g : Going) (t u : Table) : Type 0 where
  pub p : Plan
  pub l : Licensed
  pub at : IsPlanAt ps g.job p l
  pub ending : Ending
  pub number : ℕ
  pub ended : HasEnded asked l p number ending
  pub endings : u.endings.items ≡ slice_set t.endings.items g.job (Some ending)
  pub numbers : u.numbers.items ≡ slice_set t.numbers.items g.job number
  pub free : u.free ≡ t.free + lease_at ps g.job
  pub next : u.next ≡ t.next
  pub kits : u.kits.items ≡ t.kits.items

pub ended_is : (asked arena : ℕ) (ps : Planned) (g : Going) (gs : List Going) (t u : Table) → IsHeld asked ps arena (g ∷ gs) t → Ended asked ps g t u → IsHeld asked ps arena gs u
ended_is asked arena ps g gs t u h k = record {
  next = omega (arith, h.next, k.next);
  cells = omega (arith, h.cells, k.free);
  endings = ap length k.endings ∙ length_written t.endings.items g.job (Some k.ending) ∙ h.endings;
  numbers = ap length k.numbers ∙ length_written t.numbers.items g.job k.number ∙ h.numbers;
  kits = ap length k.kits ∙ h.kits;
  own = λ number l kit a b. h.own number l kit a (ap (λ ks. slice_get ks number) (sym k.kits) ∙ b);
  going = subst (λ n. AllByRecursion (IsGoingOn asked ps n) gs) (sym k.next) h.going.1;
  each = λ job less. subst (λ es. IsDone asked ps job (slice_get es job) (slice_get u.numbers.items job) ⊎ IsAmong job gs) (sym k.endings)
      (subst (λ ns. IsDone asked ps job (slice_get (slice_set t.endings.items g.job (Some k.ending)) job) (slice_get ns job) ⊎ IsAmong job gs) (sym k.numbers)
      (by_place job (g.job == job) refl (h.each job (omega (arith, less, k.next)))));
}
  where
    within : g.job < length ps.plans
    within = omega (arith, h.going.0.before, h.next)

    mine : (job : ℕ) → g.job ≡ job → IsDone asked ps job (slice_get (slice_set t.endings.items g.job (Some k.ending)) job) (slice_get (slice_set t.numbers.items g.job k.number) job)
    mine job e = subst (λ j. IsDone asked ps j (slice_get (slice_set t.endings.items g.job (Some k.ending)) j) (slice_get (slice_set t.numbers.items g.job k.number) j)) e (record {
      p = k.p;
      l = k.l;
      at = k.at;
      ending = k.ending;
      number = k.number;
      is = written_there t.endings.items g.job (Some k.ending) (omega (arith, within, h.endings));
      many = written_there t.numbers.items g.job k.number (omega (arith, within, h.numbers));
      ended = k.ended;
    })

    other : (job : ℕ) → (job ≡ g.job → ⊥) → IsDone asked ps job (slice_get t.endings.items job) (slice_get t.numbers.items job) ⊎ IsAmong job (g ∷ gs)
        → IsDone asked ps job (slice_get (slice_set t.endings.items g.job (Some k.ending)) job) (slice_get (slice_set t.numbers.items g.job k.number) job) ⊎ IsAmong job gs
    other job apart (inl d) = inl (record {
      p = d.p;
      l = d.l;
      at = d.at;
      ending = d.ending;
      number = d.number;
      is = written_else t.endings.items g.job job (Some k.ending) apart ∙ d.is;
      many = written_else t.numbers.items g.job job k.number apart ∙ d.many;
      ended = d.ended;
    })
    other job apart (inr (inl e)) = absurd (apart (sym e))
    other job apart (inr (inr a)) = inr a

    by_place : (job : ℕ) (b : Bool) → (g.job == job) ≡ b → IsDone asked ps job (slice_get t.endings.items job) (slice_get t.numbers.items job) ⊎ IsAmong job (g ∷ gs)
        → IsDone asked ps job (slice_get (slice_set t.endings.items g.job (Some k.ending)) job) (slice_get (slice_set t.numbers.items g.job k.number) job) ⊎ IsAmong job gs
    by_place job true e d = let same : g.job ≡ job = grind (arith, e) in inl (mine job same)
    by_place job false e d = other job (λ q. let same : g.job ≡ job = sym q in grind (arith, e, same)) d

pub ended_less : (asked : ℕ) (ps : Planned) (g : Going) (gs : List Going) (t u : Table) → IsGoingOn asked ps t.next g → u.going.items ≡ gs → u.next ≡ t.next
    → left_of ps u < slices_left (g ∷ gs) + (length ps.plans - t.next) * (most_slices + 1)
ended_less asked ps g gs t u k is next = omega (arith, made_few asked ps t.next g k, ap slices_left is, next)

-- it was put aside
pub record Again (asked : ℕ) (ps : Planned) (g : Going) (gs : List Going) (t u : Table) : Type 0 where
  pub p : Plan
  pub l : Licensed
  pub at : IsPlanAt ps g.job p l
  pub new : Going
  pub job : new.job ≡ g.job
  pub made : new.made ≡ g.made + 1
  pub run : HasRun asked l p (g.made + 1) (image_in new.image)
  pub going : u.going.items ≡ gs ++ new ∷ []
  pub same : IsSameBut t u
  pub kits : u.kits.items ≡ t.kits.items

pub again_is : (asked arena : ℕ) (ps : Planned) (g : Going) (gs : List Going) (t u : Table) → IsHeld asked ps arena (g ∷ gs) t → Again asked ps g gs t u → IsTable asked ps arena u
again_is asked arena ps g gs t u h k = subst (λ l. IsHeld asked ps arena l u) (sym k.going) (with_kits asked arena ps (gs ++ k.new ∷ []) t u (record {
  next = h.next;
  cells = omega (arith, h.cells, leased_more ps gs k.new, ap (lease_at ps) k.job);
  endings = h.endings;
  numbers = h.numbers;
  kits = h.kits;
  own = h.own;
  going = all_more (IsGoingOn asked ps t.next) gs k.new h.going.1 (record {
    before = omega (arith, h.going.0.before, k.job);
    p = k.p;
    l = k.l;
    at = subst (λ j. IsPlanAt ps j k.p k.l) (sym k.job) k.at;
    run = subst (λ m. HasRun asked k.l k.p m (image_in k.new.image)) (sym k.made) k.run;
  });
  each = λ job less. moved job (h.each job less);
}) k.same (λ number l kit a b. h.own number l kit a (ap (λ ks. slice_get ks number) (sym k.kits) ∙ b)) (ap length k.kits ∙ h.kits))
  where
    moved : (job : ℕ) → IsDone asked ps job (slice_get t.endings.items job) (slice_get t.numbers.items job) ⊎ IsAmong job (g ∷ gs)
        → IsDone asked ps job (slice_get t.endings.items job) (slice_get t.numbers.items job) ⊎ IsAmong job (gs ++ k.new ∷ [])
    moved job (inl d) = inl d
    moved job (inr (inl e)) = inr (among_last job gs k.new (k.job ∙ e))
    moved job (inr (inr a)) = inr (among_more job gs k.new a)

pub again_less : (asked : ℕ) (ps : Planned) (g : Going) (gs : List Going) (t u : Table) → IsGoingOn asked ps t.next g → Again asked ps g gs t u
    → left_of ps u < slices_left (g ∷ gs) + (length ps.plans - t.next) * (most_slices + 1)
again_less asked ps g gs t u h k = omega (arith, made_few asked ps t.next g h, ap slices_left k.going, slices_more gs k.new, k.made, k.same.next)

pub first_of : (asked : ℕ) (ps : Planned) (next : ℕ) (g : Going) (gs all : List Going) → all ≡ g ∷ gs → AllByRecursion (IsGoingOn asked ps next) all → IsGoingOn asked ps next g
first_of asked ps next g gs all is h = (subst (AllByRecursion (IsGoingOn asked ps next)) is h).0

-- ---- joining

-- where no job joins any more, one is under way
pub some_way : (asked arena : ℕ) (ps : Planned) (t : Table) → IsTable asked ps arena t → AreSizes arena (leases_of ps.plans) → IsLeft ps t
    → (t.next < length ps.plans → t.free < lease_at ps t.next) → 1 ≤ length t.going.items
some_way asked arena ps t h sizes (inr k) waits = k
some_way asked arena ps t h sizes (inl k) waits = by_items t.going.items h.cells
  where
    within : (plans : List Plan) (job : ℕ) → AreSizes arena (leases_of plans) → option_map_or (λ (p : Plan). p.lease) (slice_get plans job) 0 ≤ arena
    within [] job s = omega arith
    within (p ∷ plans) zero s = s.0.1
    within (p ∷ plans) (suc job) s = within plans job s.1

    by_items : (gs : List Going) → t.free + leased ps gs ≡ arena → 1 ≤ length gs
    by_items [] e = absurd (omega (arith, e, waits k, within ps.plans t.next sizes))
    by_items (g ∷ gs) e = omega arith

-- the first one's lease is one of those of more
pub leased_first : (ps : Planned) (k : ℕ) (gs : List Going) → 1 ≤ k → leased ps (take 1 gs) ≤ leased ps (take k gs)
leased_first ps zero gs h = absurd (omega (arith, h))
leased_first ps (suc k) [] h = omega arith
leased_first ps (suc k) (g ∷ gs) h = omega arith
