-- Occurrences of any of some names, as the rule of use by counts has those of one: how often one of them is taken on a
-- path at most, whether one of them occurs on some path, and that nothing comes behind a taking.
use Rattle.std.proofs.Common.{◌≡◌, ℕ, ◌+◌, ◌≤◌, Bool, true, false, List, [], Option, Some, None, refl, sym, ap, ◌∙◌, arith, inl, inr}
use Rattle.std.specs.Prelude.{max, if◌then◌else◌, ◌⊎◌, ◌&&◌}
use Rattle.std.specs.Str.{bytes_eq}
use Rattle.camelot_values.specs.NameLaws.{same_name}
use Rattle.camelot_tree.specs.declared.tree.Name.{Name}
use Rattle.camelot_tree.specs.Tree.{Expression, Num, Truth, Var, Prim, If, Let, Match, Build, Call, Expressions, NoExpressions, AndExpression, Arms, NoArms, AndArm}
use Rattle.camelot_typing.specs.Kinds.{bound_names}
use Rattle.linear_use.specs.Uses.{Loans, is_bound, is_reading, is_variable, reads_behind}
use Rattle.linear_use.specs.Fairness as one
use Rattle.normal_form.specs.Live.{bit}

-- some names
abbrev pub Names : Type 0
Names = List ℕ → Bool

-- without those that are bound anew
abbrev pub without : Name → Names → Names
without n names v = if bytes_eq n.word v then false else names v

abbrev pub without_all : List Name → Names → Names
without_all ns names v = if is_bound v ns then false else names v

-- ---- counts

abbrev pub place_taken : Names → Option Name → ℕ
place_taken names None = 0
place_taken names (Some d) = bit (names d.word)

abbrev pub is_any : Names → Expression → Bool
is_any names (Var n) = names n.word
is_any names e = false

-- 1 where a call with these arguments reads one of these
abbrev pub call_reads : Names → List Bool → Expressions → ℕ
call_reads names ms NoExpressions = 0
call_reads names ms (AndExpression e es) = max (if is_reading ms e && is_any names e then 1 else 0) (call_reads names (reads_behind ms) es)

abbrev mutual
  pub taken : Loans → Names → Expression → ℕ
  taken loans names (Num z l) = 0
  taken loans names (Truth b l) = 0
  taken loans names (Var n) = bit (names n.word)
  taken loans names (Prim op a b l) = taken loans names a + taken loans names b
  taken loans names (If c a b l) = taken loans names c + max (taken loans names a) (taken loans names b)
  taken loans names (Let n a b) = taken loans names a + taken loans (without n names) b
  taken loans names (Match e as' l) = taken loans names e + arms_taken loans names as'
  taken loans names (Build c es place) = all_taken loans names [] es + place_taken names place
  taken loans names (Call f es) = all_taken loans names (loans f.word) es

  pub all_taken : Loans → Names → List Bool → Expressions → ℕ
  all_taken loans names ms NoExpressions = 0
  all_taken loans names ms (AndExpression e es) = (if is_reading ms e then 0 else taken loans names e) + all_taken loans names (reads_behind ms) es

  pub arms_taken : Loans → Names → Arms → ℕ
  arms_taken loans names NoArms = 0
  arms_taken loans names (AndArm c fs x b as') = max (taken loans (without_all (bound_names fs x) names) b) (arms_taken loans names as')

abbrev mutual
  pub seen : Loans → Names → Expression → ℕ
  seen loans names (Num z l) = 0
  seen loans names (Truth b l) = 0
  seen loans names (Var n) = bit (names n.word)
  seen loans names (Prim op a b l) = max (seen loans names a) (seen loans names b)
  seen loans names (If c a b l) = max (seen loans names c) (max (seen loans names a) (seen loans names b))
  seen loans names (Let n a b) = max (seen loans names a) (seen loans (without n names) b)
  seen loans names (Match e as' l) = max (seen loans names e) (arms_seen loans names as')
  seen loans names (Build c es place) = max (all_seen loans names [] es) (place_taken names place)
  seen loans names (Call f es) = max (all_seen loans names (loans f.word) es) (call_reads names (loans f.word) es)

  pub all_seen : Loans → Names → List Bool → Expressions → ℕ
  all_seen loans names ms NoExpressions = 0
  all_seen loans names ms (AndExpression e es) = max (if is_reading ms e then 0 else seen loans names e) (all_seen loans names (reads_behind ms) es)

  pub arms_seen : Loans → Names → Arms → ℕ
  arms_seen loans names NoArms = 0
  arms_seen loans names (AndArm c fs x b as') = max (seen loans (without_all (bound_names fs x) names) b) (arms_seen loans names as')

abbrev mutual
  pub Fair : Loans → Names → Expression → Type 0
  Fair loans names (Num z l) = Unit {0}
  Fair loans names (Truth b l) = Unit {0}
  Fair loans names (Var n) = Unit {0}
  Fair loans names (Prim op a b l) = Fair loans names a × Fair loans names b × (taken loans names a + seen loans names b ≤ 1)
  Fair loans names (If c a b l) =
      Fair loans names c × Fair loans names a × Fair loans names b × (taken loans names c + max (seen loans names a) (seen loans names b) ≤ 1)
  Fair loans names (Let n a b) = Fair loans names a × Fair loans (without n names) b × (taken loans names a + seen loans (without n names) b ≤ 1)
  Fair loans names (Match e as' l) = Fair loans names e × ArmsFair loans names as' × (taken loans names e + arms_seen loans names as' ≤ 1)
  Fair loans names (Build c es place) = AllFair loans names [] es × (all_taken loans names [] es + place_taken names place ≤ 1)
  Fair loans names (Call f es) = AllFair loans names (loans f.word) es × (all_taken loans names (loans f.word) es + call_reads names (loans f.word) es ≤ 1)

  pub AllFair : Loans → Names → List Bool → Expressions → Type 0
  AllFair loans names ms NoExpressions = Unit {0}
  AllFair loans names ms (AndExpression e es) =
      (is_reading ms e ≡ false → Fair loans names e) × AllFair loans names (reads_behind ms) es
      × ((if is_reading ms e then 0 else taken loans names e) + all_seen loans names (reads_behind ms) es ≤ 1)

  pub ArmsFair : Loans → Names → Arms → Type 0
  ArmsFair loans names NoArms = Unit {0}
  ArmsFair loans names (AndArm c fs x b as') = Fair loans (without_all (bound_names fs x) names) b × ArmsFair loans names as'

-- ---- at most once

bit_most : (b : Bool) → bit b ≤ 1
bit_most true = omega arith
bit_most false = omega arith

place_most : (names : Names) (place : Option Name) → place_taken names place ≤ 1
place_most names None = omega arith
place_most names (Some d) = bit_most (names d.word)

test_most : (b : Bool) → (if b then 1 else 0) ≤ 1
test_most true = omega arith
test_most false = omega arith

pub reads_most : (names : Names) (ms : List Bool) (es : Expressions) → call_reads names ms es ≤ 1
reads_most names ms NoExpressions = omega arith
reads_most names ms (AndExpression e es) = let p = test_most (is_reading ms e && is_any names e) in let q = reads_most names (reads_behind ms) es in omega (arith, p, q)

-- what holds of a count holds where it is left out
unless_most : (b : Bool) (n most : ℕ) → n ≤ most → (if b then 0 else n) ≤ most
unless_most true n most h = omega arith
unless_most false n most h = h

mutual
  pub seen_most : (loans : Loans) (names : Names) (e : Expression) → seen loans names e ≤ 1
  seen_most loans names (Num z l) = omega arith
  seen_most loans names (Truth b l) = omega arith
  seen_most loans names (Var n) = bit_most (names n.word)
  seen_most loans names (Prim op a b l) = let p = seen_most loans names a in let q = seen_most loans names b in omega (arith, p, q)
  seen_most loans names (If c a b l) = let o = seen_most loans names c in let p = seen_most loans names a in let q = seen_most loans names b in omega (arith, o, p, q)
  seen_most loans names (Let n a b) = let p = seen_most loans names a in let q = seen_most loans (without n names) b in omega (arith, p, q)
  seen_most loans names (Match e as' l) = let p = seen_most loans names e in let q = arms_most loans names as' in omega (arith, p, q)
  seen_most loans names (Build c es place) = let p = all_most loans names [] es in let q = place_most names place in omega (arith, p, q)
  seen_most loans names (Call f es) = let p = all_most loans names (loans f.word) es in let q = reads_most names (loans f.word) es in omega (arith, p, q)

  pub all_most : (loans : Loans) (names : Names) (ms : List Bool) (es : Expressions) → all_seen loans names ms es ≤ 1
  all_most loans names ms NoExpressions = omega arith
  all_most loans names ms (AndExpression e es) =
      let p = unless_most (is_reading ms e) (seen loans names e) 1 (seen_most loans names e) in
      let q = all_most loans names (reads_behind ms) es in
      omega (arith, p, q)

  pub arms_most : (loans : Loans) (names : Names) (as' : Arms) → arms_seen loans names as' ≤ 1
  arms_most loans names NoArms = omega arith
  arms_most loans names (AndArm c fs x b as') = let p = seen_most loans (without_all (bound_names fs x) names) b in let q = arms_most loans names as' in omega (arith, p, q)

-- ---- what doesn't occur isn't taken

unless_none : (b : Bool) (s t : ℕ) → (s ≡ 0 → t ≡ 0) → (if b then 0 else s) ≡ 0 → (if b then 0 else t) ≡ 0
unless_none true s t h e = refl
unless_none false s t h e = h e

mutual
  pub unseen_taken : (loans : Loans) (names : Names) (e : Expression) → seen loans names e ≡ 0 → taken loans names e ≡ 0
  unseen_taken loans names (Num z l) h = refl
  unseen_taken loans names (Truth b l) h = refl
  unseen_taken loans names (Var n) h = h
  unseen_taken loans names (Prim op a b l) h =
      let p = unseen_taken loans names a (omega (arith, h)) in
      let q = unseen_taken loans names b (omega (arith, h)) in
      omega (arith, p, q)
  unseen_taken loans names (If c a b l) h =
      let o = unseen_taken loans names c (omega (arith, h)) in
      let p = unseen_taken loans names a (omega (arith, h)) in
      let q = unseen_taken loans names b (omega (arith, h)) in
      omega (arith, o, p, q)
  unseen_taken loans names (Let n a b) h =
      let p = unseen_taken loans names a (omega (arith, h)) in
      let q = unseen_taken loans (without n names) b (omega (arith, h)) in
      omega (arith, p, q)
  unseen_taken loans names (Match e as' l) h =
      let p = unseen_taken loans names e (omega (arith, h)) in
      let q = arms_unseen loans names as' (omega (arith, h)) in
      omega (arith, p, q)
  unseen_taken loans names (Build c es place) h = let p = all_unseen loans names [] es (omega (arith, h)) in omega (arith, h, p)
  unseen_taken loans names (Call f es) h = all_unseen loans names (loans f.word) es (omega (arith, h))

  pub all_unseen : (loans : Loans) (names : Names) (ms : List Bool) (es : Expressions) → all_seen loans names ms es ≡ 0 → all_taken loans names ms es ≡ 0
  all_unseen loans names ms NoExpressions h = refl
  all_unseen loans names ms (AndExpression e es) h =
      let p = unless_none (is_reading ms e) (seen loans names e) (taken loans names e) (unseen_taken loans names e) (omega (arith, h)) in
      let q = all_unseen loans names (reads_behind ms) es (omega (arith, h)) in
      omega (arith, p, q)

  pub arms_unseen : (loans : Loans) (names : Names) (as' : Arms) → arms_seen loans names as' ≡ 0 → arms_taken loans names as' ≡ 0
  arms_unseen loans names NoArms h = refl
  arms_unseen loans names (AndArm c fs x b as') h =
      let p = unseen_taken loans (without_all (bound_names fs x) names) b (omega (arith, h)) in
      let q = arms_unseen loans names as' (omega (arith, h)) in
      omega (arith, p, q)

-- and it is fair
unless_here : (b : Bool) (s : ℕ) → b ≡ false → (if b then 0 else s) ≡ 0 → s ≡ 0
unless_here true s e h = absurd cc
unless_here false s e h = h

mutual
  pub unseen_fair : (loans : Loans) (names : Names) (e : Expression) → seen loans names e ≡ 0 → Fair loans names e
  unseen_fair loans names (Num z l) h = tt
  unseen_fair loans names (Truth b l) h = tt
  unseen_fair loans names (Var n) h = tt
  unseen_fair loans names (Prim op a b l) h =
      let o = unseen_taken loans names a (omega (arith, h)) in
      (unseen_fair loans names a (omega (arith, h)), unseen_fair loans names b (omega (arith, h)), omega (arith, h, o))
  unseen_fair loans names (If c a b l) h =
      let o = unseen_taken loans names c (omega (arith, h)) in
      (unseen_fair loans names c (omega (arith, h)), unseen_fair loans names a (omega (arith, h)), unseen_fair loans names b (omega (arith, h)), omega (arith, h, o))
  unseen_fair loans names (Let n a b) h =
      let o = unseen_taken loans names a (omega (arith, h)) in
      (unseen_fair loans names a (omega (arith, h)), unseen_fair loans (without n names) b (omega (arith, h)), omega (arith, h, o))
  unseen_fair loans names (Match e as' l) h =
      let o = unseen_taken loans names e (omega (arith, h)) in
      (unseen_fair loans names e (omega (arith, h)), arms_unseen_fair loans names as' (omega (arith, h)), omega (arith, h, o))
  unseen_fair loans names (Build c es place) h =
      let o = all_unseen loans names [] es (omega (arith, h)) in
      (all_unseen_fair loans names [] es (omega (arith, h)), omega (arith, h, o))
  unseen_fair loans names (Call f es) h =
      let o = all_unseen loans names (loans f.word) es (omega (arith, h)) in
      (all_unseen_fair loans names (loans f.word) es (omega (arith, h)), omega (arith, h, o))

  pub all_unseen_fair : (loans : Loans) (names : Names) (ms : List Bool) (es : Expressions) → all_seen loans names ms es ≡ 0 → AllFair loans names ms es
  all_unseen_fair loans names ms NoExpressions h = tt
  all_unseen_fair loans names ms (AndExpression e es) h =
      let o = unless_none (is_reading ms e) (seen loans names e) (taken loans names e) (unseen_taken loans names e) (omega (arith, h)) in (
        (λ t. unseen_fair loans names e (unless_here (is_reading ms e) (seen loans names e) t (omega (arith, h)))),
        all_unseen_fair loans names (reads_behind ms) es (omega (arith, h)),
        omega (arith, h, o),
      )

  pub arms_unseen_fair : (loans : Loans) (names : Names) (as' : Arms) → arms_seen loans names as' ≡ 0 → ArmsFair loans names as'
  arms_unseen_fair loans names NoArms h = tt
  arms_unseen_fair loans names (AndArm c fs x b as') h =
      (unseen_fair loans (without_all (bound_names fs x) names) b (omega (arith, h)), arms_unseen_fair loans names as' (omega (arith, h)))

-- ---- what is fair is taken once

unless_fair : (b : Bool) (s t : ℕ) → (b ≡ false → t ≤ s) → (if b then 0 else t) ≤ (if b then 0 else s)
unless_fair true s t h = omega arith
unless_fair false s t h = h refl

mutual
  pub fair_taken : (loans : Loans) (names : Names) (e : Expression) → Fair loans names e → taken loans names e ≤ seen loans names e
  fair_taken loans names (Num z l) h = omega arith
  fair_taken loans names (Truth b l) h = omega arith
  fair_taken loans names (Var n) h = omega arith
  fair_taken loans names (Prim op a b l) h =
      let p = fair_taken loans names a h.0 in
      let q = fair_taken loans names b h.1 in
      let r = h.2 in
      let m = seen_most loans names b in
      omega (arith, p, q, r, m)
  fair_taken loans names (If c a b l) h =
      let o = fair_taken loans names c h.0 in
      let p = fair_taken loans names a h.1 in
      let q = fair_taken loans names b h.2 in
      let r = h.3 in
      let m = seen_most loans names a in
      let n = seen_most loans names b in
      omega (arith, o, p, q, r, m, n)
  fair_taken loans names (Let n a b) h =
      let p = fair_taken loans names a h.0 in
      let q = fair_taken loans (without n names) b h.1 in
      let r = h.2 in
      let m = seen_most loans (without n names) b in
      omega (arith, p, q, r, m)
  fair_taken loans names (Match e as' l) h =
      let p = fair_taken loans names e h.0 in
      let q = arms_fair_taken loans names as' h.1 in
      let r = h.2 in
      let m = arms_most loans names as' in
      omega (arith, p, q, r, m)
  fair_taken loans names (Build c es place) h =
      let p = all_fair_taken loans names [] es h.0 in
      let r = h.1 in
      let m = place_most names place in
      omega (arith, p, r, m)
  fair_taken loans names (Call f es) h = let p = all_fair_taken loans names (loans f.word) es h.0 in omega (arith, p)

  pub all_fair_taken : (loans : Loans) (names : Names) (ms : List Bool) (es : Expressions) → AllFair loans names ms es → all_taken loans names ms es ≤ all_seen loans names ms es
  all_fair_taken loans names ms NoExpressions h = omega arith
  all_fair_taken loans names ms (AndExpression e es) h =
      let p = unless_fair (is_reading ms e) (seen loans names e) (taken loans names e) (λ k. fair_taken loans names e (h.0 k)) in
      let q = all_fair_taken loans names (reads_behind ms) es h.1 in
      let r = h.2 in
      let m = all_most loans names (reads_behind ms) es in
      omega (arith, p, q, r, m)

  pub arms_fair_taken : (loans : Loans) (names : Names) (as' : Arms) → ArmsFair loans names as' → arms_taken loans names as' ≤ arms_seen loans names as'
  arms_fair_taken loans names NoArms h = omega arith
  arms_fair_taken loans names (AndArm c fs x b as') h =
      let p = fair_taken loans (without_all (bound_names fs x) names) b h.0 in
      let q = arms_fair_taken loans names as' h.1 in
      omega (arith, p, q)

-- ---- no name

abbrev pub AreNone : Names → Type 0
AreNone names = (v : List ℕ) → names v ≡ false

hidden_none : (t b : Bool) → b ≡ false → (if t then false else b) ≡ false
hidden_none true b h = refl
hidden_none false b h = h

none_any : (names : Names) (e : Expression) → AreNone names → is_any names e ≡ false
none_any names (Num z l) h = refl
none_any names (Truth b l) h = refl
none_any names (Var n) h = h n.word
none_any names (Prim op a b l) h = refl
none_any names (If c a b l) h = refl
none_any names (Let n a b) h = refl
none_any names (Match e as' l) h = refl
none_any names (Build c es place) h = refl
none_any names (Call f es) h = refl

none_test : (r b : Bool) → b ≡ false → ◌≡◌ {A = ℕ} (if r && b then 1 else 0) 0
none_test true true h = absurd cc
none_test true false h = refl
none_test false b h = refl

pub none_placed : (names : Names) (place : Option Name) → AreNone names → place_taken names place ≡ 0
none_placed names None h = refl
none_placed names (Some d) h = ap bit (h d.word)

pub none_read : (names : Names) (ms : List Bool) (es : Expressions) → AreNone names → call_reads names ms es ≡ 0
none_read names ms NoExpressions h = refl
none_read names ms (AndExpression e es) h =
    let p = none_test (is_reading ms e) (is_any names e) (none_any names e h) in
    let q = none_read names (reads_behind ms) es h in
    omega (arith, p, q)

mutual
  pub none_seen : (loans : Loans) (names : Names) (e : Expression) → AreNone names → seen loans names e ≡ 0
  none_seen loans names (Num z l) h = refl
  none_seen loans names (Truth b l) h = refl
  none_seen loans names (Var n) h = ap bit (h n.word)
  none_seen loans names (Prim op a b l) h = let p = none_seen loans names a h in let q = none_seen loans names b h in omega (arith, p, q)
  none_seen loans names (If c a b l) h = let o = none_seen loans names c h in let p = none_seen loans names a h in let q = none_seen loans names b h in omega (arith, o, p, q)
  none_seen loans names (Let n a b) h =
      let p = none_seen loans names a h in
      let q = none_seen loans (without n names) b (λ v. hidden_none (bytes_eq n.word v) (names v) (h v)) in
      omega (arith, p, q)
  none_seen loans names (Match e as' l) h = let p = none_seen loans names e h in let q = no_arm_seen loans names as' h in omega (arith, p, q)
  none_seen loans names (Build c es place) h = let p = no_part_seen loans names [] es h in let q = none_placed names place h in omega (arith, p, q)
  none_seen loans names (Call f es) h = let p = no_part_seen loans names (loans f.word) es h in let q = none_read names (loans f.word) es h in omega (arith, p, q)

  pub no_part_seen : (loans : Loans) (names : Names) (ms : List Bool) (es : Expressions) → AreNone names → all_seen loans names ms es ≡ 0
  no_part_seen loans names ms NoExpressions h = refl
  no_part_seen loans names ms (AndExpression e es) h =
      let p = none_seen loans names e h in
      let o = unless_most (is_reading ms e) (seen loans names e) 0 (omega (arith, p)) in
      let q = no_part_seen loans names (reads_behind ms) es h in
      omega (arith, o, q)

  pub no_arm_seen : (loans : Loans) (names : Names) (as' : Arms) → AreNone names → arms_seen loans names as' ≡ 0
  no_arm_seen loans names NoArms h = refl
  no_arm_seen loans names (AndArm c fs x b as') h =
      let p = none_seen loans (without_all (bound_names fs x) names) b (λ v. hidden_none (is_bound v (bound_names fs x)) (names v) (h v)) in
      let q = no_arm_seen loans names as' h in
      omega (arith, p, q)

-- ---- one of two sorts of names

abbrev pub AreSplit : Names → Names → Names → Type 0
AreSplit names first second = (v : List ℕ) → names v ≡ true → (first v ≡ true) ⊎ (second v ≡ true)

hidden_split : (t a b c : Bool) → (a ≡ true → (b ≡ true) ⊎ (c ≡ true)) → (if t then false else a) ≡ true
    → ((if t then false else b) ≡ true) ⊎ ((if t then false else c) ≡ true)
hidden_split true a b c h e = absurd cc
hidden_split false a b c h e = h e

let_split : (names first second : Names) (n : Name) → AreSplit names first second → AreSplit (without n names) (without n first) (without n second)
let_split names first second n h v = hidden_split (bytes_eq n.word v) (names v) (first v) (second v) (h v)

arm_split : (names first second : Names) (ns : List Name) → AreSplit names first second → AreSplit (without_all ns names) (without_all ns first) (without_all ns second)
arm_split names first second ns h v = hidden_split (is_bound v ns) (names v) (first v) (second v) (h v)

split_bits : (a b c : Bool) → (a ≡ true → (b ≡ true) ⊎ (c ≡ true)) → bit a ≤ max (bit b) (bit c)
split_bits false b c h = omega arith
split_bits true b c h = either b c (h refl)
  where
    either : (b c : Bool) → (b ≡ true) ⊎ (c ≡ true) → 1 ≤ max (bit b) (bit c)
    either b c (inl e) = let k = ap bit e in omega (arith, k)
    either b c (inr e) = let k = ap bit e in omega (arith, k)

test_bits : (r a b c : Bool) → (a ≡ true → (b ≡ true) ⊎ (c ≡ true)) → (if r && a then 1 else 0) ≤ max (if r && b then 1 else 0) (if r && c then 1 else 0)
test_bits false a b c h = omega arith
test_bits true false b c h = omega arith
test_bits true true true c h = omega arith
test_bits true true false true h = omega arith
test_bits true true false false h = absurd (neither (h refl))
  where
    neither : (false ≡ true) ⊎ (false ≡ true) → ⊥
    neither (inl e) = absurd cc
    neither (inr e) = absurd cc

split_any : (names first second : Names) (e : Expression) → AreSplit names first second → is_any names e ≡ true → (is_any first e ≡ true) ⊎ (is_any second e ≡ true)
split_any names first second (Num z l) h e = absurd cc
split_any names first second (Truth b l) h e = absurd cc
split_any names first second (Var n) h e = h n.word e
split_any names first second (Prim op a b l) h e = absurd cc
split_any names first second (If c a b l) h e = absurd cc
split_any names first second (Let n a b) h e = absurd cc
split_any names first second (Match o as' l) h e = absurd cc
split_any names first second (Build c es place) h e = absurd cc
split_any names first second (Call f es) h e = absurd cc

split_placed : (names first second : Names) (place : Option Name) → AreSplit names first second → place_taken names place ≤ max (place_taken first place) (place_taken second place)
split_placed names first second None h = omega arith
split_placed names first second (Some d) h = split_bits (names d.word) (first d.word) (second d.word) (h d.word)

split_read : (names first second : Names) (ms : List Bool) (es : Expressions) → AreSplit names first second → call_reads names ms es ≤ max (call_reads first ms es) (call_reads second ms es)
split_read names first second ms NoExpressions h = omega arith
split_read names first second ms (AndExpression e es) h =
    let p = test_bits (is_reading ms e) (is_any names e) (is_any first e) (is_any second e) (split_any names first second e h) in
    let q = split_read names first second (reads_behind ms) es h in
    omega (arith, p, q)

unless_max : (b : Bool) (n x y : ℕ) → n ≤ max x y → (if b then 0 else n) ≤ max (if b then 0 else x) (if b then 0 else y)
unless_max true n x y h = omega arith
unless_max false n x y h = h

unless_sum : (b : Bool) (n x y : ℕ) → n ≤ x + y → (if b then 0 else n) ≤ (if b then 0 else x) + (if b then 0 else y)
unless_sum true n x y h = omega arith
unless_sum false n x y h = h

mutual
  pub split_seen : (loans : Loans) (names first second : Names) (e : Expression) → AreSplit names first second → seen loans names e ≤ max (seen loans first e) (seen loans second e)
  split_seen loans names first second (Num z l) h = omega arith
  split_seen loans names first second (Truth b l) h = omega arith
  split_seen loans names first second (Var n) h = split_bits (names n.word) (first n.word) (second n.word) (h n.word)
  split_seen loans names first second (Prim op a b l) h = let p = split_seen loans names first second a h in let q = split_seen loans names first second b h in omega (arith, p, q)
  split_seen loans names first second (If c a b l) h =
      let o = split_seen loans names first second c h in
      let p = split_seen loans names first second a h in
      let q = split_seen loans names first second b h in
      omega (arith, o, p, q)
  split_seen loans names first second (Let n a b) h =
      let p = split_seen loans names first second a h in
      let q = split_seen loans (without n names) (without n first) (without n second) b (let_split names first second n h) in
      omega (arith, p, q)
  split_seen loans names first second (Match e as' l) h = let p = split_seen loans names first second e h in let q = split_arms_seen loans names first second as' h in omega (arith, p, q)
  split_seen loans names first second (Build c es place) h =
      let p = split_all_seen loans names first second [] es h in
      let q = split_placed names first second place h in
      omega (arith, p, q)
  split_seen loans names first second (Call f es) h =
      let p = split_all_seen loans names first second (loans f.word) es h in
      let q = split_read names first second (loans f.word) es h in
      omega (arith, p, q)

  pub split_all_seen : (loans : Loans) (names first second : Names) (ms : List Bool) (es : Expressions) → AreSplit names first second
      → all_seen loans names ms es ≤ max (all_seen loans first ms es) (all_seen loans second ms es)
  split_all_seen loans names first second ms NoExpressions h = omega arith
  split_all_seen loans names first second ms (AndExpression e es) h =
      let p = unless_max (is_reading ms e) (seen loans names e) (seen loans first e) (seen loans second e) (split_seen loans names first second e h) in
      let q = split_all_seen loans names first second (reads_behind ms) es h in
      omega (arith, p, q)

  pub split_arms_seen : (loans : Loans) (names first second : Names) (as' : Arms) → AreSplit names first second → arms_seen loans names as' ≤ max (arms_seen loans first as') (arms_seen loans second as')
  split_arms_seen loans names first second NoArms h = omega arith
  split_arms_seen loans names first second (AndArm c fs x b as') h =
      let ns = bound_names fs x in
      let p = split_seen loans (without_all ns names) (without_all ns first) (without_all ns second) b (arm_split names first second ns h) in
      let q = split_arms_seen loans names first second as' h in
      omega (arith, p, q)

mutual
  pub split_taken : (loans : Loans) (names first second : Names) (e : Expression) → AreSplit names first second → taken loans names e ≤ taken loans first e + taken loans second e
  split_taken loans names first second (Num z l) h = omega arith
  split_taken loans names first second (Truth b l) h = omega arith
  split_taken loans names first second (Var n) h = let p = split_bits (names n.word) (first n.word) (second n.word) (h n.word) in omega (arith, p)
  split_taken loans names first second (Prim op a b l) h = let p = split_taken loans names first second a h in let q = split_taken loans names first second b h in omega (arith, p, q)
  split_taken loans names first second (If c a b l) h =
      let o = split_taken loans names first second c h in
      let p = split_taken loans names first second a h in
      let q = split_taken loans names first second b h in
      omega (arith, o, p, q)
  split_taken loans names first second (Let n a b) h =
      let p = split_taken loans names first second a h in
      let q = split_taken loans (without n names) (without n first) (without n second) b (let_split names first second n h) in
      omega (arith, p, q)
  split_taken loans names first second (Match e as' l) h = let p = split_taken loans names first second e h in let q = split_arms_taken loans names first second as' h in omega (arith, p, q)
  split_taken loans names first second (Build c es place) h =
      let p = split_all_taken loans names first second [] es h in
      let q = split_placed names first second place h in
      omega (arith, p, q)
  split_taken loans names first second (Call f es) h = split_all_taken loans names first second (loans f.word) es h

  pub split_all_taken : (loans : Loans) (names first second : Names) (ms : List Bool) (es : Expressions) → AreSplit names first second
      → all_taken loans names ms es ≤ all_taken loans first ms es + all_taken loans second ms es
  split_all_taken loans names first second ms NoExpressions h = omega arith
  split_all_taken loans names first second ms (AndExpression e es) h =
      let p = unless_sum (is_reading ms e) (taken loans names e) (taken loans first e) (taken loans second e) (split_taken loans names first second e h) in
      let q = split_all_taken loans names first second (reads_behind ms) es h in
      omega (arith, p, q)

  pub split_arms_taken : (loans : Loans) (names first second : Names) (as' : Arms) → AreSplit names first second → arms_taken loans names as' ≤ arms_taken loans first as' + arms_taken loans second as'
  split_arms_taken loans names first second NoArms h = omega arith
  split_arms_taken loans names first second (AndArm c fs x b as') h =
      let ns = bound_names fs x in
      let p = split_taken loans (without_all ns names) (without_all ns first) (without_all ns second) b (arm_split names first second ns h) in
      let q = split_arms_taken loans names first second as' h in
      omega (arith, p, q)

-- those of the one sort are fair, and those of the other don't occur
mutual
  pub split_fair : (loans : Loans) (names first second : Names) (e : Expression) → AreSplit names first second → seen loans second e ≡ 0 → Fair loans first e → Fair loans names e
  split_fair loans names first second (Num z l) h k f = tt
  split_fair loans names first second (Truth b l) h k f = tt
  split_fair loans names first second (Var n) h k f = tt
  split_fair loans names first second (Prim op a b l) h k f =
      let o = unseen_taken loans second a (omega (arith, k)) in
      let p = split_taken loans names first second a h in
      let q = split_seen loans names first second b h in
      let r = f.2 in
      (split_fair loans names first second a h (omega (arith, k)) f.0, split_fair loans names first second b h (omega (arith, k)) f.1, omega (arith, k, o, p, q, r))
  split_fair loans names first second (If c a b l) h k f =
      let o = unseen_taken loans second c (omega (arith, k)) in
      let p = split_taken loans names first second c h in
      let q = split_seen loans names first second a h in
      let s = split_seen loans names first second b h in
      let r = f.3 in
      (split_fair loans names first second c h (omega (arith, k)) f.0, split_fair loans names first second a h (omega (arith, k)) f.1, split_fair loans names first second b h (omega (arith, k)) f.2, omega (arith, k, o, p, q, s, r))
  split_fair loans names first second (Let n a b) h k f =
      let o = unseen_taken loans second a (omega (arith, k)) in
      let p = split_taken loans names first second a h in
      let q = split_seen loans (without n names) (without n first) (without n second) b (let_split names first second n h) in
      let r = f.2 in (
        split_fair loans names first second a h (omega (arith, k)) f.0,
        split_fair loans (without n names) (without n first) (without n second) b (let_split names first second n h) (omega (arith, k)) f.1,
        omega (arith, k, o, p, q, r),
      )
  split_fair loans names first second (Match e as' l) h k f =
      let o = unseen_taken loans second e (omega (arith, k)) in
      let p = split_taken loans names first second e h in
      let q = split_arms_seen loans names first second as' h in
      let r = f.2 in
      (split_fair loans names first second e h (omega (arith, k)) f.0, split_arms_fair loans names first second as' h (omega (arith, k)) f.1, omega (arith, k, o, p, q, r))
  split_fair loans names first second (Build c es place) h k f =
      let o = all_unseen loans second [] es (omega (arith, k)) in
      let p = split_all_taken loans names first second [] es h in
      let q = split_placed names first second place h in
      let r = f.1 in
      (split_all_fair loans names first second [] es h (omega (arith, k)) f.0, omega (arith, k, o, p, q, r))
  split_fair loans names first second (Call g es) h k f =
      let o = all_unseen loans second (loans g.word) es (omega (arith, k)) in
      let p = split_all_taken loans names first second (loans g.word) es h in
      let q = split_read names first second (loans g.word) es h in
      let r = f.1 in
      (split_all_fair loans names first second (loans g.word) es h (omega (arith, k)) f.0, omega (arith, k, o, p, q, r))

  pub split_all_fair : (loans : Loans) (names first second : Names) (ms : List Bool) (es : Expressions) → AreSplit names first second
      → all_seen loans second ms es ≡ 0 → AllFair loans first ms es → AllFair loans names ms es
  split_all_fair loans names first second ms NoExpressions h k f = tt
  split_all_fair loans names first second ms (AndExpression e es) h k f =
      let o = unless_none (is_reading ms e) (seen loans second e) (taken loans second e) (unseen_taken loans second e) (omega (arith, k)) in
      let p = unless_sum (is_reading ms e) (taken loans names e) (taken loans first e) (taken loans second e) (split_taken loans names first second e h) in
      let q = split_all_seen loans names first second (reads_behind ms) es h in
      let r = f.2 in (
        (λ t. split_fair loans names first second e h (unless_here (is_reading ms e) (seen loans second e) t (omega (arith, k))) (f.0 t)),
        split_all_fair loans names first second (reads_behind ms) es h (omega (arith, k)) f.1,
        omega (arith, k, o, p, q, r),
      )

  pub split_arms_fair : (loans : Loans) (names first second : Names) (as' : Arms) → AreSplit names first second → arms_seen loans second as' ≡ 0 → ArmsFair loans first as' → ArmsFair loans names as'
  split_arms_fair loans names first second NoArms h k f = tt
  split_arms_fair loans names first second (AndArm c fs x b as') h k f =
      let ns = bound_names fs x in (
        split_fair loans (without_all ns names) (without_all ns first) (without_all ns second) b (arm_split names first second ns h) (omega (arith, k)) f.0,
        split_arms_fair loans names first second as' h (omega (arith, k)) f.1,
      )

-- ---- some of these names

abbrev pub AreSome : Names → Names → Type 0
AreSome names more = (v : List ℕ) → names v ≡ true → more v ≡ true

abbrev nothing : Names
nothing v = false

pub fewer_seen : (loans : Loans) (names more : Names) (e : Expression) → AreSome names more → seen loans names e ≤ seen loans more e
fewer_seen loans names more e h =
    let p = split_seen loans names more nothing e (λ v k. inl (h v k)) in
    let q = none_seen loans nothing e (λ v. refl) in
    omega (arith, p, q)

pub fewer_taken : (loans : Loans) (names more : Names) (e : Expression) → AreSome names more → taken loans names e ≤ taken loans more e
fewer_taken loans names more e h =
    let p = split_taken loans names more nothing e (λ v k. inl (h v k)) in
    let q = unseen_taken loans nothing e (none_seen loans nothing e (λ v. refl)) in
    omega (arith, p, q)

pub fewer_fair : (loans : Loans) (names more : Names) (e : Expression) → AreSome names more → Fair loans more e → Fair loans names e
fewer_fair loans names more e h = split_fair loans names more nothing e (λ v k. inl (h v k)) (none_seen loans nothing e (λ v. refl))

-- ---- one name

abbrev pub AreOne : List ℕ → Names → Type 0
AreOne x names = (v : List ℕ) → names v ≡ true → bytes_eq v x ≡ true

one_bit : (a b : Bool) → (a ≡ true → b ≡ true) → bit a ≤ (if b then 1 else 0)
one_bit false b h = omega arith
one_bit true true h = omega arith
one_bit true false h = let k : false ≡ true = h refl in absurd cc

one_test : (r a b : Bool) → (a ≡ true → b ≡ true) → (if r && a then 1 else 0) ≤ (if r && b then 1 else 0)
one_test false a b h = omega arith
one_test true false b h = omega arith
one_test true true true h = omega arith
one_test true true false h = let k : false ≡ true = h refl in absurd cc

hidden_one : (t a b : Bool) → (a ≡ true → b ≡ true) → (if t then false else a) ≡ true → b ≡ true
hidden_one true a b h e = absurd cc
hidden_one false a b h e = h e

-- the name itself is bound anew
itself_none : (x : List ℕ) (n : Name) (names : Names) → AreOne x names → bytes_eq n.word x ≡ true → AreNone (without n names)
itself_none x n names h e v = by_test (bytes_eq n.word v) (names v) refl refl
  where
    by_test : (t b : Bool) → bytes_eq n.word v ≡ t → names v ≡ b → (if t then false else b) ≡ false
    by_test true b p q = refl
    by_test false false p q = refl
    by_test false true p q =
        let same : v ≡ x = same_name v x (h v q) in
        let own : bytes_eq n.word v ≡ true = ap (bytes_eq n.word) same ∙ e in
        let clash : false ≡ true = sym p ∙ own in
        absurd cc

bound_none : (x : List ℕ) (ns : List Name) (names : Names) → AreOne x names → is_bound x ns ≡ true → AreNone (without_all ns names)
bound_none x ns names h e v = by_test (is_bound v ns) (names v) refl refl
  where
    by_test : (t b : Bool) → is_bound v ns ≡ t → names v ≡ b → (if t then false else b) ≡ false
    by_test true b p q = refl
    by_test false false p q = refl
    by_test false true p q =
        let same : v ≡ x = same_name v x (h v q) in
        let own : is_bound v ns ≡ true = ap (λ w. is_bound w ns) same ∙ e in
        let clash : false ≡ true = sym p ∙ own in
        absurd cc

let_one : (x : List ℕ) (n : Name) (names : Names) → AreOne x names → AreOne x (without n names)
let_one x n names h v = hidden_one (bytes_eq n.word v) (names v) (bytes_eq v x) (h v)

arm_one : (x : List ℕ) (ns : List Name) (names : Names) → AreOne x names → AreOne x (without_all ns names)
arm_one x ns names h v = hidden_one (is_bound v ns) (names v) (bytes_eq v x) (h v)

one_any : (x : List ℕ) (names : Names) (e : Expression) → AreOne x names → is_any names e ≡ true → is_variable x e ≡ true
one_any x names (Num z l) h e = absurd cc
one_any x names (Truth b l) h e = absurd cc
one_any x names (Var n) h e = h n.word e
one_any x names (Prim op a b l) h e = absurd cc
one_any x names (If c a b l) h e = absurd cc
one_any x names (Let n a b) h e = absurd cc
one_any x names (Match o as' l) h e = absurd cc
one_any x names (Build c es place) h e = absurd cc
one_any x names (Call f es) h e = absurd cc

one_placed : (x : List ℕ) (names : Names) (place : Option Name) → AreOne x names → place_taken names place ≤ one.place_taken x place
one_placed x names None h = omega arith
one_placed x names (Some d) h = one_bit (names d.word) (bytes_eq d.word x) (h d.word)

one_read : (x : List ℕ) (names : Names) (ms : List Bool) (es : Expressions) → AreOne x names → call_reads names ms es ≤ one.call_reads x ms es
one_read x names ms NoExpressions h = omega arith
one_read x names ms (AndExpression e es) h =
    let p = one_test (is_reading ms e) (is_any names e) (is_variable x e) (one_any x names e h) in
    let q = one_read x names (reads_behind ms) es h in
    omega (arith, p, q)

unless_le : (b : Bool) (n m : ℕ) → n ≤ m → (if b then 0 else n) ≤ (if b then 0 else m)
unless_le true n m h = omega arith
unless_le false n m h = h

-- where the name itself is bound anew, nothing is left
under_test : (b : Bool) (n m : ℕ) → (b ≡ true → n ≡ 0) → n ≤ m → n ≤ (if b then 0 else m)
under_test true n m h k = let e = h refl in omega (arith, e)
under_test false n m h k = k

let_unseen : (loans : Loans) (x : List ℕ) (n : Name) (names : Names) (b : Expression) → AreOne x names → bytes_eq n.word x ≡ true → seen loans (without n names) b ≡ 0
let_unseen loans x n names b h e = none_seen loans (without n names) b (itself_none x n names h e)

arm_unseen : (loans : Loans) (x : List ℕ) (ns : List Name) (names : Names) (b : Expression) → AreOne x names → is_bound x ns ≡ true → seen loans (without_all ns names) b ≡ 0
arm_unseen loans x ns names b h e = none_seen loans (without_all ns names) b (bound_none x ns names h e)

mutual
  pub one_seen : (loans : Loans) (x : List ℕ) (names : Names) (e : Expression) → AreOne x names → seen loans names e ≤ one.seen loans x e
  one_seen loans x names (Num z l) h = omega arith
  one_seen loans x names (Truth b l) h = omega arith
  one_seen loans x names (Var n) h = one_bit (names n.word) (bytes_eq n.word x) (h n.word)
  one_seen loans x names (Prim op a b l) h = let p = one_seen loans x names a h in let q = one_seen loans x names b h in omega (arith, p, q)
  one_seen loans x names (If c a b l) h = let o = one_seen loans x names c h in let p = one_seen loans x names a h in let q = one_seen loans x names b h in omega (arith, o, p, q)
  one_seen loans x names (Let n a b) h =
      let p = one_seen loans x names a h in
      let q = under_test (bytes_eq n.word x) (seen loans (without n names) b) (one.seen loans x b) (let_unseen loans x n names b h) (one_seen loans x (without n names) b (let_one x n names h)) in
      omega (arith, p, q)
  one_seen loans x names (Match e as' l) h = let p = one_seen loans x names e h in let q = one_arms_seen loans x names as' h in omega (arith, p, q)
  one_seen loans x names (Build c es place) h = let p = one_all_seen loans x names [] es h in let q = one_placed x names place h in omega (arith, p, q)
  one_seen loans x names (Call f es) h = let p = one_all_seen loans x names (loans f.word) es h in let q = one_read x names (loans f.word) es h in omega (arith, p, q)

  pub one_all_seen : (loans : Loans) (x : List ℕ) (names : Names) (ms : List Bool) (es : Expressions) → AreOne x names → all_seen loans names ms es ≤ one.all_seen loans x ms es
  one_all_seen loans x names ms NoExpressions h = omega arith
  one_all_seen loans x names ms (AndExpression e es) h =
      let p = unless_le (is_reading ms e) (seen loans names e) (one.seen loans x e) (one_seen loans x names e h) in
      let q = one_all_seen loans x names (reads_behind ms) es h in
      omega (arith, p, q)

  pub one_arms_seen : (loans : Loans) (x : List ℕ) (names : Names) (as' : Arms) → AreOne x names → arms_seen loans names as' ≤ one.arms_seen loans x as'
  one_arms_seen loans x names NoArms h = omega arith
  one_arms_seen loans x names (AndArm c fs cell b as') h =
      let ns = bound_names fs cell in
      let p = under_test (is_bound x ns) (seen loans (without_all ns names) b) (one.seen loans x b) (arm_unseen loans x ns names b h) (one_seen loans x (without_all ns names) b (arm_one x ns names h)) in
      let q = one_arms_seen loans x names as' h in
      omega (arith, p, q)

mutual
  pub one_taken : (loans : Loans) (x : List ℕ) (names : Names) (e : Expression) → AreOne x names → taken loans names e ≤ one.taken loans x e
  one_taken loans x names (Num z l) h = omega arith
  one_taken loans x names (Truth b l) h = omega arith
  one_taken loans x names (Var n) h = one_bit (names n.word) (bytes_eq n.word x) (h n.word)
  one_taken loans x names (Prim op a b l) h = let p = one_taken loans x names a h in let q = one_taken loans x names b h in omega (arith, p, q)
  one_taken loans x names (If c a b l) h = let o = one_taken loans x names c h in let p = one_taken loans x names a h in let q = one_taken loans x names b h in omega (arith, o, p, q)
  one_taken loans x names (Let n a b) h =
      let p = one_taken loans x names a h in
      let q = under_test (bytes_eq n.word x) (taken loans (without n names) b) (one.taken loans x b) (λ e. unseen_taken loans (without n names) b (let_unseen loans x n names b h e))
      (one_taken loans x (without n names) b (let_one x n names h)) in
      omega (arith, p, q)
  one_taken loans x names (Match e as' l) h = let p = one_taken loans x names e h in let q = one_arms_taken loans x names as' h in omega (arith, p, q)
  one_taken loans x names (Build c es place) h = let p = one_all_taken loans x names [] es h in let q = one_placed x names place h in omega (arith, p, q)
  one_taken loans x names (Call f es) h = one_all_taken loans x names (loans f.word) es h

  pub one_all_taken : (loans : Loans) (x : List ℕ) (names : Names) (ms : List Bool) (es : Expressions) → AreOne x names → all_taken loans names ms es ≤ one.all_taken loans x ms es
  one_all_taken loans x names ms NoExpressions h = omega arith
  one_all_taken loans x names ms (AndExpression e es) h =
      let p = unless_le (is_reading ms e) (taken loans names e) (one.taken loans x e) (one_taken loans x names e h) in
      let q = one_all_taken loans x names (reads_behind ms) es h in
      omega (arith, p, q)

  pub one_arms_taken : (loans : Loans) (x : List ℕ) (names : Names) (as' : Arms) → AreOne x names → arms_taken loans names as' ≤ one.arms_taken loans x as'
  one_arms_taken loans x names NoArms h = omega arith
  one_arms_taken loans x names (AndArm c fs cell b as') h =
      let ns = bound_names fs cell in
      let p = under_test (is_bound x ns) (taken loans (without_all ns names) b) (one.taken loans x b) (λ e. unseen_taken loans (without_all ns names) b (arm_unseen loans x ns names b h e))
      (one_taken loans x (without_all ns names) b (arm_one x ns names h)) in
      let q = one_arms_taken loans x names as' h in
      omega (arith, p, q)

-- by a test
abbrev pub by_either : (P : Type 0) (b : Bool) → (b ≡ true → P) → (b ≡ false → P) → P
by_either P true h k = h refl
by_either P false h k = k refl

mutual
  pub one_fair : (loans : Loans) (x : List ℕ) (names : Names) (e : Expression) → AreOne x names → one.Fair loans x e → Fair loans names e
  one_fair loans x names (Num z l) h f = tt
  one_fair loans x names (Truth b l) h f = tt
  one_fair loans x names (Var n) h f = tt
  one_fair loans x names (Prim op a b l) h f =
      let p = one_taken loans x names a h in
      let q = one_seen loans x names b h in
      let r = f.2 in
      (one_fair loans x names a h f.0, one_fair loans x names b h f.1, omega (arith, p, q, r))
  one_fair loans x names (If c a b l) h f =
      let p = one_taken loans x names c h in
      let q = one_seen loans x names a h in
      let s = one_seen loans x names b h in
      let r = f.3 in
      (one_fair loans x names c h f.0, one_fair loans x names a h f.1, one_fair loans x names b h f.2, omega (arith, p, q, s, r))
  one_fair loans x names (Let n a b) h f =
      let p = one_taken loans x names a h in
      let q = under_test (bytes_eq n.word x) (seen loans (without n names) b) (one.seen loans x b) (let_unseen loans x n names b h) (one_seen loans x (without n names) b (let_one x n names h)) in
      let r = f.2 in (
        one_fair loans x names a h f.0,
        by_either (Fair loans (without n names) b) (bytes_eq n.word x) (λ e. unseen_fair loans (without n names) b (let_unseen loans x n names b h e))
            (λ e. one_fair loans x (without n names) b (let_one x n names h) (f.1 e)),
        omega (arith, p, q, r),
      )
  one_fair loans x names (Match e as' l) h f =
      let p = one_taken loans x names e h in
      let q = one_arms_seen loans x names as' h in
      let r = f.2 in
      (one_fair loans x names e h f.0, one_arms_fair loans x names as' h f.1, omega (arith, p, q, r))
  one_fair loans x names (Build c es place) h f =
      let p = one_all_taken loans x names [] es h in
      let q = one_placed x names place h in
      let r = f.1 in
      (one_all_fair loans x names [] es h f.0, omega (arith, p, q, r))
  one_fair loans x names (Call g es) h f =
      let p = one_all_taken loans x names (loans g.word) es h in
      let q = one_read x names (loans g.word) es h in
      let r = f.1 in
      (one_all_fair loans x names (loans g.word) es h f.0, omega (arith, p, q, r))

  pub one_all_fair : (loans : Loans) (x : List ℕ) (names : Names) (ms : List Bool) (es : Expressions) → AreOne x names → one.AllFair loans x ms es → AllFair loans names ms es
  one_all_fair loans x names ms NoExpressions h f = tt
  one_all_fair loans x names ms (AndExpression e es) h f =
      let p = unless_le (is_reading ms e) (taken loans names e) (one.taken loans x e) (one_taken loans x names e h) in
      let q = one_all_seen loans x names (reads_behind ms) es h in
      let r = f.2 in
      ((λ t. one_fair loans x names e h (f.0 t)), one_all_fair loans x names (reads_behind ms) es h f.1, omega (arith, p, q, r))

  pub one_arms_fair : (loans : Loans) (x : List ℕ) (names : Names) (as' : Arms) → AreOne x names → one.ArmsFair loans x as' → ArmsFair loans names as'
  one_arms_fair loans x names NoArms h f = tt
  one_arms_fair loans x names (AndArm c fs cell b as') h f =
      let ns = bound_names fs cell in (
        by_either (Fair loans (without_all ns names) b) (is_bound x ns) (λ e. unseen_fair loans (without_all ns names) b (arm_unseen loans x ns names b h e))
            (λ e. one_fair loans x (without_all ns names) b (arm_one x ns names h) (f.0 e)),
        one_arms_fair loans x names as' h f.1,
      )
