-- The lines of one block, in front of those of later ones.
use Rattle.std.proofs.Common.{get_or, ◌≡◌, ◌≢◌, ◌↔◌, ℕ, ◌+◌, ◌<◌, ◌≤◌, Bool, true, false, List, [], ◌∷◌, length, map, IsTrue, refl, sym, ap, ◌∙◌, subst, arith}
use Rattle.std.specs.Prelude.{nat_le, nat_lt, ◌==◌, ◌&&◌, cond}
use Rattle.std.specs.List.{AllByRecursion}
use Rattle.std.proofs.lemmas.Bool.Decides.{nat_tests}
use Rattle.camelot_values.specs.Lists.{Ascend, is_among}
use Rattle.grail_blocks.specs.Events.{params_at}
use Rattle.grail_code.specs.Code.{Func, Code}
use Rattle.certificate.specs.Certificates.{BlockCert, MakeCert}
use Rattle.licence.specs.Fitting.{VarFits, MakeFits}
use Rattle.certificate_fit.specs.Shapes.{AreLinesFrom, AreMakesFrom, LineIsRight, VarsFitAt, FrontFits, LineFits, MakesFitAt}
use Rattle.certificate_fit.proofs.Order.{blocks_of, later_ascend, later_makes, lines_above, makes_above, none_among, no_lines, no_makes}

-- ---- the line of a block

-- where there is none, it is the first block
exactly_first : (p : Code) (f : Func) (lines : List BlockCert) (n : ℕ) → n < length f.blocks → is_among (blocks_of lines) n ≡ false
    → VarsFitAt p f lines n → (n == 0) ≡ true ↔ LineFits p f lines n
exactly_first p f lines n there none vars = (λ first. (let is : n ≡ 0 = grind (arith, nat_tests, first) in grind (arith, nat_tests, none, is), vars), λ h. let e : (nat_le 1 n && nat_lt n (length f.blocks)) ≡ false = sym h.0 ∙ none in grind (arith, nat_tests, e, there))

pub no_line : (p : Code) (f : Func) (n : ℕ) → n < length f.blocks → (n == 0) ≡ true ↔ LineFits p f [] n
no_line p f n there = exactly_first p f [] n there refl tt

another_line : (p : Code) (f : Func) (b : BlockCert) (bs : List BlockCert) (n : ℕ) → n < length f.blocks → AreLinesFrom n (b ∷ bs) → b.block ≢ n
    → (n == 0) ≡ true ↔ LineFits p f (b ∷ bs) n
another_line p f b bs n there from other =
    let above : n + 1 ≤ b.block = omega (arith, from.from.0, other) in
    let rest = lines_above (n + 1) bs (later_ascend b.block (blocks_of bs) from.ascending) b from.ascending above in
    exactly_first p f (b ∷ bs) n there (none_among (n + 1) n (b ∷ bs) (above, rest) (omega arith)) (no_lines (n + 1) n (λ c. AllByRecursion (VarFits p.types f (params_at f.blocks n)) c.vars) (b ∷ bs) (above, rest) (omega arith))

here_is : (b : BlockCert) (bs : List BlockCert) (n : ℕ) → b.block ≡ n → is_among (blocks_of (b ∷ bs)) n ≡ true
here_is b bs n same = grind (arith, nat_tests, same)

-- the first block has none
first_line : (p : Code) (f : Func) (b : BlockCert) (bs : List BlockCert) (n : ℕ) → b.block ≡ n → n ≡ 0 → LineFits p f (b ∷ bs) n → ⊥
first_line p f b bs n same first h =
    let e : true ≡ (nat_le 1 n && nat_lt n (length f.blocks)) = sym (here_is b bs n same) ∙ h.0 in
    let none : nat_le 1 n ≡ false = grind (arith, nat_tests, first) in
    let k : true ≡ false = e ∙ ap (λ t. t && nat_lt n (length f.blocks)) none in
    absurd cc

this_line : (p : Code) (f : Func) (b : BlockCert) (bs : List BlockCert) (n : ℕ) (t : Bool) → n < length f.blocks → AreLinesFrom n (b ∷ bs) → b.block ≡ n → n ≢ 0
    → IsTrue t ↔ AllByRecursion (VarFits p.types f (params_at f.blocks n)) b.vars → IsTrue t ↔ LineFits p f (b ∷ bs) n
this_line p f b bs n t there from same later h =
    let line : LineIsRight f (b ∷ bs) n = here_is b bs n same ∙ grind (arith, nat_tests, there, later) in
    let above = below b bs from.ascending in
    let others : AllByRecursion (λ c. n + 1 ≤ c.block) bs = subst (λ k. AllByRecursion (λ c. k + 1 ≤ c.block) bs) same above in
    (λ k. (line, (λ e. h.0 k, no_lines (n + 1) n (λ c. AllByRecursion (VarFits p.types f (params_at f.blocks n)) c.vars) bs others (omega arith))), λ k. h.1 (k.1.0 same))
  where
    below : (b : BlockCert) (bs : List BlockCert) → Ascend (blocks_of (b ∷ bs)) → AllByRecursion (λ c. b.block + 1 ≤ c.block) bs
    below b [] h = tt
    below b (c ∷ bs) h = let less : b.block + 1 ≤ c.block = omega (arith, h.0) in (less, lines_above (b.block + 1) bs (later_ascend c.block (blocks_of bs) h.1) c h.1 less)

pub front_line : (p : Code) (f : Func) (b : BlockCert) (bs : List BlockCert) (n : ℕ) (t : Bool) → n < length f.blocks → AreLinesFrom n (b ∷ bs)
    → IsTrue t ↔ FrontFits p f b n → IsTrue t ↔ LineFits p f (b ∷ bs) n
front_line p f b bs n t there from h = by_test (b.block == n) refl t h
  where
    Vars : Type 0
    Vars = AllByRecursion (VarFits p.types f (params_at f.blocks n)) b.vars

    of_later : (t : Bool) → IsTrue t ↔ (n ≡ 0) → t ≡ (n == 0)
    of_later true k = let z : n ≡ 0 = k.0 refl in grind (arith, nat_tests, z)
    of_later false k = let other : n ≢ 0 = (λ z. let e : false ≡ true = k.1 z in absurd cc) in grind (arith, nat_tests, other)

    of_first : (t : Bool) → b.block ≡ n → n ≡ 0 → IsTrue t ↔ ((n ≢ 0) × Vars) → IsTrue t ↔ LineFits p f (b ∷ bs) n
    of_first t same first k = (λ e. absurd ((k.0 e).0 first), λ l. absurd (first_line p f b bs n same first l))

    by_test : (s : Bool) → (b.block == n) ≡ s → (t : Bool) → IsTrue t ↔ cond s ((n ≢ 0) × Vars) (n ≡ 0) → IsTrue t ↔ LineFits p f (b ∷ bs) n
    by_test false e t k = let other : b.block ≢ n = grind (arith, nat_tests, e) in subst (λ u. IsTrue u ↔ LineFits p f (b ∷ bs) n) (sym (of_later t k)) (another_line p f b bs n there from other)
    by_test true e t k = let same : b.block ≡ n = grind (arith, nat_tests, e) in by_zero (n == 0) refl same
      where
        by_zero : (z : Bool) → (n == 0) ≡ z → b.block ≡ n → IsTrue t ↔ LineFits p f (b ∷ bs) n
        by_zero true d same = of_first t same (grind (arith, nat_tests, d)) k
        by_zero false d same = let later : n ≢ 0 = grind (arith, nat_tests, d) in this_line p f b bs n t there from same later ((λ u. (k.0 u).1), (λ v. k.1 (later, v)))

-- ---- the lines of its builds

-- so many are to be looked at
pub record Looked (p : Code) (f : Func) (n : ℕ) (rest whole : List MakeCert) : Type 0 where
  pub from : AreMakesFrom n rest
  pub same : MakesFitAt p f rest n ↔ MakesFitAt p f whole n

pub begins : (p : Code) (f : Func) (n : ℕ) (whole : List MakeCert) → AreMakesFrom n whole → Looked p f n whole whole
begins p f n whole h = record { from = h; same = (λ k. k, λ k. k) }

pub goes_on : (p : Code) (f : Func) (n : ℕ) (m : MakeCert) (ms whole : List MakeCert) → Looked p f n (m ∷ ms) whole → MakeFits p f m → Looked p f n ms whole
goes_on p f n m ms whole l fits = record {
  from = record { ascending = later_makes m ms l.from.ascending; from = l.from.from.1 };
  same = (λ k. l.same.0 (λ e. fits, k), λ k. (l.same.1 k).1);
}

pub is_wrong : (p : Code) (f : Func) (n : ℕ) (m : MakeCert) (ms whole : List MakeCert) → Looked p f n (m ∷ ms) whole → m.block ≡ n
    → (MakeFits p f m → ⊥) → MakesFitAt p f whole n → ⊥
is_wrong p f n m ms whole l same wrong h = wrong ((l.same.1 h).0 same)

pub ends : (p : Code) (f : Func) (n : ℕ) (whole : List MakeCert) → Looked p f n [] whole → MakesFitAt p f whole n
ends p f n whole l = l.same.0 tt

pub stops : (p : Code) (f : Func) (n : ℕ) (m : MakeCert) (ms whole : List MakeCert) → Looked p f n (m ∷ ms) whole → m.block ≢ n → MakesFitAt p f whole n
stops p f n m ms whole l other =
    let above : n + 1 ≤ m.block = omega (arith, l.from.from.0, other) in
    l.same.0 (no_makes (n + 1) n (MakeFits p f) (m ∷ ms) (above, makes_above (n + 1) ms m l.from.ascending above) (omega arith))

-- ---- in the code's lists

pub front_exit : {A : Type 0} (of : A → BlockCert) (p : Code) (f : Func) (lines : List A) (line : A) (n : ℕ) (t : Bool) → n < length f.blocks
    → AreLinesFrom n (map of lines) → 1 ≤ length lines → line ≡ get_or lines 0 line
    → IsTrue t ↔ FrontFits p f (of line) n → IsTrue t ↔ LineFits p f (map of lines) n
front_exit of p f [] line n t there from some is h = absurd (omega (arith, some))
front_exit of p f (x ∷ xs) line n t there from some is h = front_line p f (of x) (map of xs) n t there from (subst (λ l. IsTrue t ↔ FrontFits p f (of l) n) is h)

pub stop_exit : {A : Type 0} (of : A → MakeCert) (p : Code) (f : Func) (n : ℕ) (rest : List A) (line : A) (whole : List MakeCert)
    → Looked p f n (map of rest) whole → 1 ≤ length rest → line ≡ get_or rest 0 line → (of line).block ≢ n → MakesFitAt p f whole n
stop_exit of p f n [] line whole l some is other = absurd (omega (arith, some))
stop_exit of p f n (x ∷ xs) line whole l some is other = stops p f n (of x) (map of xs) whole l (subst (λ z. (of z).block ≢ n) is other)
