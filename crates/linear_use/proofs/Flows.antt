-- A flow has no faults exactly where no Fault stands in it, on each way nothing comes behind a use, and what is spent
-- already doesn't occur.
use Rattle.std.proofs.Common.{◌≡◌, ℕ, ◌+◌, ◌≤◌, max, min, Bool, true, false, if◌then◌else◌, List, [], ◌∷◌, ◌++◌, refl, ap, ◌∙◌, subst, arith}
use Rattle.std.specs.Prelude.{◌==◌, ◌||◌}
use Rattle.std.proofs.lemmas.Bool.Decides.{nat_tests}
use Rattle.linear_use.specs.Flow.{Flow, Nothing, Use, Read, Fault, After, Either, Calling, used, is_spent, faults}
use Rattle.linear_use.specs.declared.fault.UseFault.TheVariants.{Twice}

abbrev pub bit : Bool → ℕ
bit b = if b then 1 else 0

pub nothing_behind : {A : Type 0} (xs : List A) → xs ++ [] ≡ xs
nothing_behind [] = refl
nothing_behind (x ∷ xs) = ap (λ l. x ∷ l) (nothing_behind xs)

-- the uses of a variable, added over parts that follow one another, and the greatest of two ways
abbrev pub flow_uses : ℕ → Flow → ℕ
flow_uses x Nothing = 0
flow_uses x (Use y name line) = bit (y == x)
flow_uses x (Read y name line) = 0
flow_uses x (Fault fault) = 0
flow_uses x (After a b) = flow_uses x a + flow_uses x b
flow_uses x (Either a b) = max (flow_uses x a) (flow_uses x b)
flow_uses x (Calling a) = flow_uses x a

-- 1 where the call around it reads the variable
abbrev pub flow_reads : ℕ → Flow → ℕ
flow_reads x Nothing = 0
flow_reads x (Use y name line) = 0
flow_reads x (Read y name line) = bit (y == x)
flow_reads x (Fault fault) = 0
flow_reads x (After a b) = max (flow_reads x a) (flow_reads x b)
flow_reads x (Either a b) = max (flow_reads x a) (flow_reads x b)
flow_reads x (Calling a) = 0

-- 1 where it occurs on some way, but for what the call around it reads
abbrev pub flow_seen : ℕ → Flow → ℕ
flow_seen x Nothing = 0
flow_seen x (Use y name line) = bit (y == x)
flow_seen x (Read y name line) = 0
flow_seen x (Fault fault) = 0
flow_seen x (After a b) = max (flow_seen x a) (flow_seen x b)
flow_seen x (Either a b) = max (flow_seen x a) (flow_seen x b)
flow_seen x (Calling a) = max (flow_seen x a) (flow_reads x a)

abbrev pub IsClean : Flow → Type 0
IsClean Nothing = Unit {0}
IsClean (Use y name line) = Unit {0}
IsClean (Read y name line) = Unit {0}
IsClean (Fault fault) = ⊥
IsClean (After a b) = IsClean a × IsClean b
IsClean (Either a b) = IsClean a × IsClean b
IsClean (Calling a) = IsClean a

-- on each way nothing comes behind a use of the variable
abbrev pub IsFairIn : ℕ → Flow → Type 0
IsFairIn x Nothing = Unit {0}
IsFairIn x (Use y name line) = Unit {0}
IsFairIn x (Read y name line) = Unit {0}
IsFairIn x (Fault fault) = Unit {0}
IsFairIn x (After a b) = IsFairIn x a × IsFairIn x b × (flow_uses x a + flow_seen x b ≤ 1)
IsFairIn x (Either a b) = IsFairIn x a × IsFairIn x b
IsFairIn x (Calling a) = IsFairIn x a × (flow_uses x a + flow_reads x a ≤ 1)

-- 1 where the variable is spent
abbrev pub was : ℕ → List ℕ → ℕ
was x spent = bit (is_spent x spent)

one_or : (b c : Bool) → bit (b || c) ≡ max (bit b) (bit c)
one_or true true = refl
one_or true false = refl
one_or false true = refl
one_or false false = refl

pub at_most_one : (b : Bool) → bit b ≤ 1
at_most_one true = omega arith
at_most_one false = omega arith

pub was_one : (x : ℕ) (spent : List ℕ) → was x spent ≤ 1
was_one x spent = at_most_one (is_spent x spent)

pub was_append : (x : ℕ) (xs ys : List ℕ) → was x (xs ++ ys) ≡ max (was x xs) (was x ys)
was_append x [] ys = let h = was_one x ys in omega (arith, h)
was_append x (z ∷ xs) ys =
    let first = one_or (z == x) (is_spent x (xs ++ ys)) in
    let last = one_or (z == x) (is_spent x xs) in
    let ih = was_append x xs ys in
    omega (arith, first, last, ih)

pub was_used : (x : ℕ) (f : Flow) → was x (used f) ≡ min 1 (flow_uses x f)
was_used x Nothing = refl
was_used x (Use y name line) = one (y == x)
  where
    one : (b : Bool) → bit (b || false) ≡ min 1 (bit b)
    one true = refl
    one false = refl
was_used x (Read y name line) = refl
was_used x (Fault fault) = refl
was_used x (After a b) = let s = was_append x (used a) (used b) in let l = was_used x a in let r = was_used x b in omega (arith, s, l, r)
was_used x (Either a b) = let s = was_append x (used b) (used a) in let l = was_used x a in let r = was_used x b in omega (arith, s, l, r)
was_used x (Calling a) = was_used x a

pub reads_one : (x : ℕ) (f : Flow) → flow_reads x f ≤ 1
reads_one x Nothing = omega arith
reads_one x (Use y name line) = omega arith
reads_one x (Read y name line) = at_most_one (y == x)
reads_one x (Fault fault) = omega arith
reads_one x (After a b) = let l = reads_one x a in let r = reads_one x b in omega (arith, l, r)
reads_one x (Either a b) = let l = reads_one x a in let r = reads_one x b in omega (arith, l, r)
reads_one x (Calling a) = omega arith

pub seen_one : (x : ℕ) (f : Flow) → flow_seen x f ≤ 1
seen_one x Nothing = omega arith
seen_one x (Use y name line) = at_most_one (y == x)
seen_one x (Read y name line) = omega arith
seen_one x (Fault fault) = omega arith
seen_one x (After a b) = let l = seen_one x a in let r = seen_one x b in omega (arith, l, r)
seen_one x (Either a b) = let l = seen_one x a in let r = seen_one x b in omega (arith, l, r)
seen_one x (Calling a) = let l = seen_one x a in let r = reads_one x a in omega (arith, l, r)

-- what is used at all occurs, and is used once
pub fair_uses : (x : ℕ) (f : Flow) → IsFairIn x f → flow_uses x f ≤ flow_seen x f
fair_uses x Nothing h = omega arith
fair_uses x (Use y name line) h = let l = at_most_one (y == x) in omega (arith, l)
fair_uses x (Read y name line) h = omega arith
fair_uses x (Fault fault) h = omega arith
fair_uses x (After a b) h = let l = fair_uses x a h.0 in let r = fair_uses x b h.1 in let k = h.2 in omega (arith, l, r, k)
fair_uses x (Either a b) h = let l = fair_uses x a h.0 in let r = fair_uses x b h.1 in omega (arith, l, r)
fair_uses x (Calling a) h = let l = fair_uses x a h.0 in omega (arith, l)

-- how a flow must be for no fault
pub record Fits (spent called : List ℕ) (f : Flow) : Type 0 where
  pub clean : IsClean f
  pub fair : (x : ℕ) → IsFairIn x f
  pub early : (x : ℕ) → flow_seen x f + was x spent ≤ 1
  pub late : (x : ℕ) → flow_reads x f + was x called ≤ 1

pub nothing_left : {A : Type 0} (xs ys : List A) → xs ++ ys ≡ [] → xs ≡ []
nothing_left [] ys h = refl
nothing_left (x ∷ xs) ys h = cc

pub nothing_right : {A : Type 0} (xs ys : List A) → xs ++ ys ≡ [] → ys ≡ []
nothing_right [] ys h = h
nothing_right (x ∷ xs) ys h = cc

unspent_faultless : (name : List ℕ) (line : ℕ) (b c : Bool) → c ≡ true → bit c + bit b ≤ 1 → (if b then Twice name line ∷ [] else []) ≡ []
unspent_faultless name line true true e k = absurd (omega (arith, k))
unspent_faultless name line true false e k = cc
unspent_faultless name line false c e k = refl

pub fits_faultless : (f : Flow) (spent called : List ℕ) → Fits spent called f → faults spent called f ≡ []
fits_faultless Nothing spent called h = refl
fits_faultless (Use y name line) spent called h = unspent_faultless name line (is_spent y spent) (y == y) (grind (arith, nat_tests)) (h.early y)
fits_faultless (Read y name line) spent called h = unspent_faultless name line (is_spent y called) (y == y) (grind (arith, nat_tests)) (h.late y)
fits_faultless (Fault fault) spent called h = absurd h.clean
fits_faultless (After a b) spent called h =
    let first : faults spent called a ≡ [] = fits_faultless a spent called (record {
      clean = h.clean.0;
      fair = λ x. (h.fair x).0;
      early = λ x. let k = h.early x in omega (arith, k);
      late = λ x. let k = h.late x in omega (arith, k);
    }) in
    let second : faults (spent ++ used a) called b ≡ [] = fits_faultless b (spent ++ used a) called (record {
      clean = h.clean.1;
      fair = λ x. (h.fair x).1;
      early = λ x. let k = h.early x in let j = (h.fair x).2 in let s = was_append x spent (used a) in let u = was_used x a in omega (arith, k, j, s, u);
      late = λ x. let k = h.late x in omega (arith, k);
    }) in
    ap (λ l. l ++ faults (spent ++ used a) called b) first ∙ second
fits_faultless (Either a b) spent called h =
    let first : faults spent called a ≡ [] = fits_faultless a spent called (record {
      clean = h.clean.0;
      fair = λ x. (h.fair x).0;
      early = λ x. let k = h.early x in omega (arith, k);
      late = λ x. let k = h.late x in omega (arith, k);
    }) in
    let second : faults spent called b ≡ [] = fits_faultless b spent called (record {
      clean = h.clean.1;
      fair = λ x. (h.fair x).1;
      early = λ x. let k = h.early x in omega (arith, k);
      late = λ x. let k = h.late x in omega (arith, k);
    }) in
    ap (λ l. l ++ faults spent called b) first ∙ second
fits_faultless (Calling a) spent called h = fits_faultless a spent (spent ++ used a) (record {
  clean = h.clean;
  fair = λ x. (h.fair x).0;
  early = λ x. let k = h.early x in omega (arith, k);
  late = λ x. let k = h.early x in let j = (h.fair x).1 in let s = was_append x spent (used a) in let u = was_used x a in omega (arith, k, j, s, u);
})

faultless_unspent : (name : List ℕ) (line : ℕ) (b : Bool) → (if b then Twice name line ∷ [] else []) ≡ [] → bit b ≡ 0
faultless_unspent name line true e = cc
faultless_unspent name line false e = refl

at_variable : (name : List ℕ) (line x y : ℕ) (spent : List ℕ) (b : Bool) → (if is_spent y spent then Twice name line ∷ [] else []) ≡ [] → (y == x) ≡ b
    → bit b + was x spent ≤ 1
at_variable name line x y spent true h e =
    let same : y ≡ x = grind (arith, nat_tests) in
    let u : was y spent ≡ 0 = faultless_unspent name line (is_spent y spent) h in
    let v : was x spent ≡ 0 = subst (λ z. was z spent ≡ 0) same u in
    omega (arith, v)
at_variable name line x y spent false h e = let t = was_one x spent in omega (arith, t)

pub faultless_fits : (f : Flow) (spent called : List ℕ) → faults spent called f ≡ [] → Fits spent called f
faultless_fits Nothing spent called h = record {
  clean = tt;
  fair = λ x. tt;
  early = λ x. let t = was_one x spent in omega (arith, t);
  late = λ x. let t = was_one x called in omega (arith, t);
}
faultless_fits (Use y name line) spent called h = record {
  clean = tt;
  fair = λ x. tt;
  early = λ x. at_variable name line x y spent (y == x) h refl;
  late = λ x. let t = was_one x called in omega (arith, t);
}
faultless_fits (Read y name line) spent called h = record {
  clean = tt;
  fair = λ x. tt;
  early = λ x. let t = was_one x spent in omega (arith, t);
  late = λ x. at_variable name line x y called (y == x) h refl;
}
faultless_fits (Fault fault) spent called h = cc
faultless_fits (After a b) spent called h =
    let l = faultless_fits a spent called (nothing_left (faults spent called a) (faults (spent ++ used a) called b) h) in
    let r = faultless_fits b (spent ++ used a) called (nothing_right (faults spent called a) (faults (spent ++ used a) called b) h) in
    record {
      clean = (l.clean, r.clean);
      fair = λ x. (
        l.fair x,
        r.fair x,
        let q = r.early x in let s = was_append x spent (used a) in let u = was_used x a in let m = fair_uses x a (l.fair x) in let n = seen_one x a in omega (arith, q, s, u, m, n),
      );
      early = λ x. let p = l.early x in let q = r.early x in let s = was_append x spent (used a) in omega (arith, p, q, s);
      late = λ x. let p = l.late x in let q = r.late x in omega (arith, p, q);
    }
faultless_fits (Either a b) spent called h =
    let l = faultless_fits a spent called (nothing_left (faults spent called a) (faults spent called b) h) in
    let r = faultless_fits b spent called (nothing_right (faults spent called a) (faults spent called b) h) in
    record {
      clean = (l.clean, r.clean);
      fair = λ x. (l.fair x, r.fair x);
      early = λ x. let p = l.early x in let q = r.early x in omega (arith, p, q);
      late = λ x. let p = l.late x in let q = r.late x in omega (arith, p, q);
    }
faultless_fits (Calling a) spent called h =
    let l = faultless_fits a spent (spent ++ used a) h in
    record {
      clean = l.clean;
      fair = λ x. (
        l.fair x,
        let q = l.late x in let s = was_append x spent (used a) in let u = was_used x a in let m = fair_uses x a (l.fair x) in let n = seen_one x a in omega (arith, q, s, u, m, n),
      );
      early = λ x. let p = l.early x in let q = l.late x in let s = was_append x spent (used a) in omega (arith, p, q, s);
      late = λ x. let t = was_one x called in omega (arith, t);
    }
