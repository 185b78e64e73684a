-- The run of a plan takes some number of slices.
use Rattle.std.proofs.Common.{◌≡◌, ℕ, zero, suc, ◌+◌, ◌-◌, ◌*◌, ◌<◌, ◌≤◌, Bool, true, false, List, [], ◌∷◌, Option, Some, None, refl, sym, ap, ◌∙◌, subst, arith, inl, inr}
use Rattle.std.specs.Prelude.{◌⊎◌, nat_lt, slice_get, sum, IsSomeAnd}
use Rattle.std.proofs.lemmas.Bool.Decides.{nat_tests}
use Rattle.std.specs.List.{AllByRecursion}
use Rattle.grail_code.specs.Code.{Func, Code}
use Rattle.licence.specs.Licensed.{Licensed, IsLicensed}
use Rattle.camelot_values.specs.Typing.{ArgumentsFit}
use Rattle.cell_machine.specs.Loading.{steps}
use Rattle.cell_machine.specs.MachineLaws.{steps_more, over_stays}
use Rattle.cell_machine.specs.PlanLaws.{runs_as_planned}
use Rattle.cell_machine.specs.Plans.{IsPlan}
use Rattle.cell_machine.specs.State.{Configuration, Final, Machine, Running, Over, most_calls}
use Rattle.job_world.specs.Plans.{Plan, Planned, IsFit, AreFit}
use Rattle.pause_image.specs.Slicing.{LendsAfter, state_lends}
use Rattle.sliced_jobs.specs.Slices.{IsNext, IsLast, TakesSlices, IsSliced, AreSliced, AreSlices, beginning}

-- behind so many steps the run is over
abbrev EndsBy : Code → Configuration → ℕ → Type 0
EndsBy p s most = (f : Final) × (steps p most_calls most (Running s) ≡ Over f)

-- the slice from a state
record HasSlice (p : Code) (asked : ℕ) (s : Configuration) : Type 0 where
  found : IsLast p asked s ⊎ ((t : Configuration) × IsNext p asked s t)

stays_over : (p : Code) (s : Configuration) (most n : ℕ) (t : Configuration) → EndsBy p s most → most ≤ n → steps p most_calls n (Running s) ≡ Running t → ⊥
stays_over p s most n t e h is =
    let whole : n ≡ most + (n - most) = omega (arith, h) in
    let c : Running t ≡ Over e.0 = sym is ∙ ap (λ k. steps p most_calls k (Running s)) whole ∙ steps_more p most_calls most (n - most) (Running s) ∙ ap (steps p most_calls (n - most)) e.1 ∙ over_stays p most_calls (n - most) e.0 in
    absurd cc

one_later : (p : Code) (asked : ℕ) (s : Configuration) (n : ℕ) → ((k : ℕ) → asked ≤ k → k < n → LendsAfter p s k) → LendsAfter p s n → (k : ℕ) → asked ≤ k → k < suc n → LendsAfter p s k
one_later p asked s n h last k a b = by_test (nat_lt k n) refl
  where
    by_test : (x : Bool) → nat_lt k n ≡ x → LendsAfter p s k
    by_test true e = let less : k < n = grind (arith, nat_tests, e) in h k a less
    by_test false e =
        let more : n ≤ k = grind (arith, nat_tests, e) in
        let same : n ≡ k = omega (arith, more, b) in
        subst (LendsAfter p s) same last

-- from this number of steps on
slice_from : (p : Code) (asked : ℕ) (s : Configuration) (most : ℕ) → EndsBy p s most → (left n : ℕ) → most ≤ n + left → asked ≤ n
    → ((k : ℕ) → asked ≤ k → k < n → LendsAfter p s k) → HasSlice p asked s
slice_from p asked s most ends zero n enough many before = by_machine (steps p most_calls n (Running s)) refl
  where
    by_machine : (m : Machine) → steps p most_calls n (Running s) ≡ m → HasSlice p asked s
    by_machine (Over f) is = record { found = inl (record { final = f; count = n; are = is; least = before }) }
    by_machine (Running t) is = absurd (stays_over p s most n t ends (omega (arith, enough)) is)
slice_from p asked s most ends (suc left) n enough many before = by_machine (slice_from p asked s most ends left (suc n) (omega (arith, enough)) (omega (arith, many))) (steps p most_calls n (Running s)) refl
  where
    by_lent : (((k : ℕ) → asked ≤ k → k < suc n → LendsAfter p s k) → HasSlice p asked s) → (t : Configuration) → steps p most_calls n (Running s) ≡ Running t
        → (b : Bool) → state_lends p t ≡ b → HasSlice p asked s
    by_lent further t is true e = further (one_later p asked s n before (record { state = t; is = is; lends = e }))
    by_lent further t is false e = record { found = inr (t, record { count = n; many = many; are = is; unlent = e; least = before }) }

    by_machine : (((k : ℕ) → asked ≤ k → k < suc n → LendsAfter p s k) → HasSlice p asked s) → (m : Machine) → steps p most_calls n (Running s) ≡ m → HasSlice p asked s
    by_machine further (Over f) is = record { found = inl (record { final = f; count = n; are = is; least = before }) }
    by_machine further (Running t) is = by_lent further t is (state_lends p t) refl

has_slice : (p : Code) (asked : ℕ) (s : Configuration) (most : ℕ) → EndsBy p s most → HasSlice p asked s
has_slice p asked s most ends = slice_from p asked s most ends most asked (omega arith) (omega arith) (λ k a b. absurd (omega (arith, a, b)))

-- what is left behind a slice
ends_later : (p : Code) (asked : ℕ) (s t : Configuration) (most : ℕ) → 1 ≤ asked → (k : IsNext p asked s t) → EndsBy p s (suc most) → EndsBy p t most
ends_later p asked s t most some k e = (e.0, by_steps)
  where
    there : steps p most_calls (k.count + most) (Running s) ≡ Over e.0
    there =
        let whole : k.count + most ≡ suc most + (k.count - 1) = omega (arith, k.many, some) in
        ap (λ n. steps p most_calls n (Running s)) whole ∙ steps_more p most_calls (suc most) (k.count - 1) (Running s) ∙ ap (steps p most_calls (k.count - 1)) e.1 ∙ over_stays p most_calls (k.count - 1) e.0

    by_steps : steps p most_calls most (Running t) ≡ Over e.0
    by_steps = ap (steps p most_calls most) (sym k.are) ∙ sym (steps_more p most_calls k.count most (Running s)) ∙ there

record TakeSome (p : Code) (asked : ℕ) (s : Configuration) : Type 0 where
  number : ℕ
  takes : TakesSlices p asked number s

takes_from : (p : Code) (asked : ℕ) → 1 ≤ asked → (most : ℕ) (s : Configuration) → EndsBy p s most → TakeSome p asked s
takes_from p asked some zero s ends = absurd (let e : Running s ≡ Over ends.0 = ends.1 in cc)
takes_from p asked some (suc most) s ends = by_slice (λ t k. takes_from p asked some most t (ends_later p asked s t most some k ends)) (has_slice p asked s (suc most) ends).found
  where
    by_slice : ((t : Configuration) → IsNext p asked s t → TakeSome p asked t) → IsLast p asked s ⊎ ((t : Configuration) × IsNext p asked s t) → TakeSome p asked s
    by_slice further (inl k) = record { number = 1; takes = inl (refl, k) }
    by_slice further (inr k) = let r = further k.0 k.1 in record { number = suc r.number; takes = inr (k.0, k.1, r.takes) }

-- ---- plans

record SomeSliced (asked : ℕ) (licences : List Licensed) (p : Plan) : Type 0 where
  number : ℕ
  is : IsSliced asked licences p number

plan_takes : (asked : ℕ) (licences : List Licensed) (p : Plan) → 1 ≤ asked → IsFit licences p → SomeSliced asked licences p
plan_takes asked licences p some fit = by_licence (slice_get licences p.licence) refl fit.licensed fit.plan
  where
    by_func : (l : Licensed) → slice_get licences p.licence ≡ Some l → IsLicensed l → IsPlan l p.entry p.args p.fuel p.lease → (o : Option Func) → slice_get l.code.funcs p.entry ≡ o
        → IsSomeAnd o (λ f. ArgumentsFit l.code.types f.params p.args) → SomeSliced asked licences p
    by_func l e h k None g fits = absurd fits
    by_func l e h k (Some f) g fits =
        let ends = (runs_as_planned l p.entry f p.args p.fuel p.lease h k fit.few g).ends in
        let r = takes_from l.code asked some (65792 * p.fuel) (beginning l f p) (ends.final, ends.is) in
        record { number = r.number; is = record { l = l; licence = e; f = f; func = g; takes = r.takes } }

    by_licence : (o : Option Licensed) → slice_get licences p.licence ≡ o → IsSomeAnd o IsLicensed → IsSomeAnd o (λ l. IsPlan l p.entry p.args p.fuel p.lease) → SomeSliced asked licences p
    by_licence None e h k = absurd h
    by_licence (Some l) e h k = by_func l e h k (slice_get l.code.funcs p.entry) refl k.fits

record AllSliced (asked : ℕ) (licences : List Licensed) (ps : List Plan) : Type 0 where
  numbers : List ℕ
  each : AreSliced asked licences ps numbers

all_take : (asked : ℕ) (licences : List Licensed) (ps : List Plan) → 1 ≤ asked → AllByRecursion (IsFit licences) ps → AllSliced asked licences ps
all_take asked licences [] some fit = record { numbers = []; each = tt }
all_take asked licences (p ∷ ps) some fit =
    let first = plan_takes asked licences p some fit.0 in
    let rest = all_take asked licences ps some fit.1 in
    record { numbers = first.number ∷ rest.numbers; each = (first.is, rest.each) }

pub some_sum : (asked : ℕ) (ps : Planned) → 1 ≤ asked → AreFit ps → (number : ℕ) × AreSlices asked ps number
some_sum asked ps some fit = let all = all_take asked ps.licences ps.plans some fit in (sum all.numbers, record { numbers = all.numbers; each = all.each; all = refl })
