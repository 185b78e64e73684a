-- A run takes one number of slices.
use Rattle.std.proofs.Common.{◌≡◌, ℕ, zero, suc, ◌+◌, ◌-◌, ◌<◌, ◌≤◌, Bool, true, false, List, [], ◌∷◌, Some, refl, sym, ap, ◌∙◌, subst, arith, inl, inr}
use Rattle.std.specs.Prelude.{nat_lt, slice_get, sum}
use Rattle.std.proofs.lemmas.Bool.Decides.{nat_tests}
use Rattle.grail_code.specs.Code.{Func, Code}
use Rattle.licence.specs.Licensed.{Licensed}
use Rattle.cell_machine.specs.Loading.{steps}
use Rattle.cell_machine.specs.MachineLaws.{steps_more, over_stays}
use Rattle.cell_machine.specs.State.{Configuration, Running, Over, most_calls}
use Rattle.job_world.specs.Plans.{Plan, Planned}
use Rattle.pause_image.specs.Slicing.{LendsAfter, state_lends}
use Rattle.sliced_jobs.specs.Slices.{IsNext, IsLast, TakesSlices, IsSliced, AreSliced, AreSlices, beginning}

-- a state in which nothing is lent isn't one in which something is
not_both : (p : Code) (s t : Configuration) (n : ℕ) → steps p most_calls n (Running s) ≡ Running t → state_lends p t ≡ false → LendsAfter p s n → ⊥
not_both p s t n is unlent k =
    let e : Running t ≡ Running k.state = sym is ∙ k.is in
    let same : t ≡ k.state = cc in
    let c : true ≡ false = sym k.lends ∙ ap (state_lends p) (sym same) ∙ unlent in
    absurd cc

no_less : (p : Code) (asked : ℕ) (s t u : Configuration) (a : IsNext p asked s t) (b : IsNext p asked s u) → a.count < b.count → ⊥
no_less p asked s t u a b h = not_both p s t a.count a.are a.unlent (b.least a.count a.many h)

one_next : (p : Code) (asked : ℕ) (s t u : Configuration) → IsNext p asked s t → IsNext p asked s u → t ≡ u
one_next p asked s t u a b = by_test (nat_lt a.count b.count) refl (nat_lt b.count a.count) refl
  where
    by_test : (x : Bool) → nat_lt a.count b.count ≡ x → (y : Bool) → nat_lt b.count a.count ≡ y → t ≡ u
    by_test true e y f = absurd (let h : a.count < b.count = grind (arith, nat_tests, e) in no_less p asked s t u a b h)
    by_test false e true f = absurd (let h : b.count < a.count = grind (arith, nat_tests, f) in no_less p asked s u t b a h)
    by_test false e false f =
        let h : b.count ≤ a.count = grind (arith, nat_tests, e) in
        let k : a.count ≤ b.count = grind (arith, nat_tests, f) in
        let same : a.count ≡ b.count = omega (arith, h, k) in
        let is : Running t ≡ Running u = sym a.are ∙ ap (λ n. steps p most_calls n (Running s)) same ∙ b.are in
        cc

-- where there is a next state the run isn't over
not_last : (p : Code) (asked : ℕ) (s t : Configuration) → IsNext p asked s t → IsLast p asked s → ⊥
not_last p asked s t a b = by_test (nat_lt a.count b.count) refl
  where
    by_test : (x : Bool) → nat_lt a.count b.count ≡ x → ⊥
    by_test true e = let h : a.count < b.count = grind (arith, nat_tests, e) in not_both p s t a.count a.are a.unlent (b.least a.count a.many h)
    by_test false e =
        let h : b.count ≤ a.count = grind (arith, nat_tests, e) in
        let whole : a.count ≡ b.count + (a.count - b.count) = omega (arith, h) in
        let c : Running t ≡ Over b.final = sym a.are ∙ ap (λ n. steps p most_calls n (Running s)) whole ∙ steps_more p most_calls b.count (a.count - b.count) (Running s)
        ∙ ap (steps p most_calls (a.count - b.count)) b.are ∙ over_stays p most_calls (a.count - b.count) b.final in
        absurd cc

pub one_number : (p : Code) (asked a b : ℕ) (s : Configuration) → TakesSlices p asked a s → TakesSlices p asked b s → a ≡ b
one_number p asked zero b s h k = absurd h
one_number p asked (suc a) zero s h k = absurd k
one_number p asked (suc a) (suc b) s (inl h) (inl k) = ap suc (h.0 ∙ sym k.0)
one_number p asked (suc a) (suc b) s (inl h) (inr k) = absurd (not_last p asked s k.0 k.1 h.1)
one_number p asked (suc a) (suc b) s (inr h) (inl k) = absurd (not_last p asked s h.0 h.1 k.1)
one_number p asked (suc a) (suc b) s (inr h) (inr k) =
    let same = one_next p asked s k.0 h.0 k.1 h.1 in
    ap suc (one_number p asked a b h.0 h.2 (subst (TakesSlices p asked b) same k.2))

one_sliced : (asked : ℕ) (licences : List Licensed) (p : Plan) (a b : ℕ) → IsSliced asked licences p a → IsSliced asked licences p b → a ≡ b
one_sliced asked licences p a b h k =
    let e : Some k.l ≡ Some h.l = sym k.licence ∙ h.licence in
    let licence : k.l ≡ h.l = cc in
    let g : Some k.f ≡ Some h.f = sym k.func ∙ ap (λ (l : Licensed). slice_get l.code.funcs p.entry) licence ∙ h.func in
    let func : k.f ≡ h.f = cc in
    let here : TakesSlices h.l.code asked b (beginning h.l h.f p) =
    subst (λ (f : Func). TakesSlices h.l.code asked b (beginning h.l f p)) func (subst (λ (l : Licensed). TakesSlices l.code asked b (beginning l k.f p)) licence k.takes) in
    one_number h.l.code asked a b (beginning h.l h.f p) h.takes here

one_each : (asked : ℕ) (licences : List Licensed) (ps : List Plan) (xs ys : List ℕ) → AreSliced asked licences ps xs → AreSliced asked licences ps ys → xs ≡ ys
one_each asked licences [] [] [] h k = refl
one_each asked licences [] (a ∷ xs) ys h k = absurd h
one_each asked licences [] [] (b ∷ ys) h k = absurd k
one_each asked licences (p ∷ ps) [] ys h k = absurd h
one_each asked licences (p ∷ ps) (a ∷ xs) [] h k = absurd k
one_each asked licences (p ∷ ps) (a ∷ xs) (b ∷ ys) h k =
    ap (λ n. n ∷ xs) (one_sliced asked licences p a b h.0 k.0) ∙ ap (λ (l : List ℕ). b ∷ l) (one_each asked licences ps xs ys h.1 k.1)

pub one_sum : (asked a b : ℕ) (ps : Planned) → AreSlices asked ps a → AreSlices asked ps b → a ≡ b
one_sum asked a b ps h k = h.all ∙ ap (λ (l : List ℕ). sum l) (one_each asked ps.licences ps.plans h.numbers k.numbers h.each k.each) ∙ sym k.all
