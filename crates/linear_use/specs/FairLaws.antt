-- Laws, for the proofs of this crate and of those above it.
-- The rule of an owned variable by counts is the one by paths.
use Rattle.std.proofs.Common.{◌≡◌, ℕ, suc, ◌+◌, ◌≤◌, Bool, true, false, List, [], ◌∷◌, ◌++◌, Option, Some, None, refl, sym, ap, ◌∙◌, subst, arith}
use Rattle.std.specs.Prelude.{max, if◌then◌else◌, ◌&&◌, map}
use Rattle.std.specs.List.{AllByRecursion}
use Rattle.std.specs.Str.{bytes_eq}
use Rattle.camelot_tree.specs.declared.tree.Name.{Name}
use Rattle.camelot_tree.specs.Tree.{Expression, Num, Truth, Var, Prim, If, Let, Match, Build, Call, Expressions, NoExpressions, AndExpression, Arms, NoArms, AndArm}
use Rattle.camelot_typing.specs.Kinds.{bound_names}
use Rattle.linear_use.specs.Uses.{Loans, Taking, Reading, Path, both, one_path, is_bound, taking, place_paths, reads_behind, is_reading, is_variable, readings, paths, all_paths, arms_paths, NoneBehind}
use Rattle.linear_use.specs.Fairness.{one_name, place_taken, call_reads, taken, all_taken, arms_taken, seen, all_seen, arms_seen, Fair, AllFair, ArmsFair}

-- ---- one path

-- how often a path takes
abbrev takings : Path → ℕ
takings [] = 0
takings (Taking ∷ p) = suc (takings p)
takings (Reading ∷ p) = takings p

-- 1 where something happens on it
abbrev happens : Path → ℕ
happens [] = 0
happens (x ∷ p) = 1

happens_most : (p : Path) → happens p ≤ 1
happens_most [] = omega arith
happens_most (x ∷ p) = omega arith

takings_append : (p q : Path) → takings (p ++ q) ≡ takings p + takings q
takings_append [] q = omega arith
takings_append (Taking ∷ p) q = let e = takings_append p q in omega (arith, e)
takings_append (Reading ∷ p) q = takings_append p q

happens_append : (p q : Path) → happens (p ++ q) ≡ max (happens p) (happens q)
happens_append [] q = let m = happens_most q in omega (arith, m)
happens_append (x ∷ p) q = let m = happens_most q in omega (arith, m)

nothing_happens : (p : Path) → happens p ≡ 0 → p ≡ []
nothing_happens [] e = refl
nothing_happens (x ∷ p) e = absurd (omega (arith, e))

empty_front : (p q : Path) → p ++ q ≡ [] → p ≡ []
empty_front [] q e = refl
empty_front (x ∷ p) q e = absurd cc

empty_back : (p q : Path) → p ++ q ≡ [] → q ≡ []
empty_back [] q e = e
empty_back (x ∷ p) q e = absurd cc

-- nothing comes behind a taking of two paths, one after the other
pair_split : (p q : Path) → NoneBehind (p ++ q) → NoneBehind p × NoneBehind q × (takings p + happens q ≤ 1)
pair_split [] q h = let m = happens_most q in (tt, h, omega (arith, m))
pair_split (Reading ∷ p) q h = pair_split p q h
pair_split (Taking ∷ p) q h =
    let one : p ≡ [] = empty_front p q h in
    let two : q ≡ [] = empty_back p q h in
    let count = ap takings one in
    let none = ap happens two in
    (one, subst NoneBehind (sym two) tt, omega (arith, count, none))

pair_join : (p q : Path) → NoneBehind p → NoneBehind q → takings p + happens q ≤ 1 → NoneBehind (p ++ q)
pair_join [] q h k m = k
pair_join (Reading ∷ p) q h k m = pair_join p q h k m
pair_join (Taking ∷ p) q h k m = let none = nothing_happens q (omega (arith, m)) in ap (λ o. o ++ q) h ∙ none

-- ---- paths

-- how often one of these takes at most
abbrev most : List Path → ℕ
most [] = 0
most (p ∷ ps) = max (takings p) (most ps)

-- 1 where something happens on one of these
abbrev some : List Path → ℕ
some [] = 0
some (p ∷ ps) = max (happens p) (some ps)

some_most : (ps : List Path) → some ps ≤ 1
some_most [] = omega arith
some_most (p ∷ ps) = let a = happens_most p in let b = some_most ps in omega (arith, a, b)

abbrev NotEmpty : List Path → Type 0
NotEmpty [] = ⊥
NotEmpty (p ∷ ps) = Unit {0}

abbrev AllFine : List Path → Type 0
AllFine ps = AllByRecursion NoneBehind ps

most_append : (ps qs : List Path) → most (ps ++ qs) ≡ max (most ps) (most qs)
most_append [] qs = omega arith
most_append (p ∷ ps) qs = let e = most_append ps qs in omega (arith, e)

some_append : (ps qs : List Path) → some (ps ++ qs) ≡ max (some ps) (some qs)
some_append [] qs = omega arith
some_append (p ∷ ps) qs = let e = some_append ps qs in omega (arith, e)

filled_append : (ps qs : List Path) → NotEmpty ps → NotEmpty (ps ++ qs)
filled_append [] qs h = absurd h
filled_append (p ∷ ps) qs h = tt

all_front : (ps qs : List Path) → AllFine (ps ++ qs) → AllFine ps
all_front [] qs h = tt
all_front (p ∷ ps) qs h = (h.0, all_front ps qs h.1)

all_back : (ps qs : List Path) → AllFine (ps ++ qs) → AllFine qs
all_back [] qs h = h
all_back (p ∷ ps) qs h = all_back ps qs h.1

all_join : (ps qs : List Path) → AllFine ps → AllFine qs → AllFine (ps ++ qs)
all_join [] qs h k = k
all_join (p ∷ ps) qs h k = (h.0, all_join ps qs h.1 k)

-- ---- one path in front of several

abbrev row : Path → List Path → List Path
row p qs = map (λ q. p ++ q) qs

row_most : (p q : Path) (qs : List Path) → most (row p (q ∷ qs)) ≡ takings p + most (q ∷ qs)
row_most p q [] = let e = takings_append p q in omega (arith, e)
row_most p q (r ∷ rs) = let e = takings_append p q in let k = row_most p r rs in omega (arith, e, k)

row_some : (p q : Path) (qs : List Path) → some (row p (q ∷ qs)) ≡ max (happens p) (some (q ∷ qs))
row_some p q [] = let e = happens_append p q in omega (arith, e)
row_some p q (r ∷ rs) = let e = happens_append p q in let k = row_some p r rs in omega (arith, e, k)

row_split : (p q : Path) (qs : List Path) → AllFine (row p (q ∷ qs)) → NoneBehind p × AllFine (q ∷ qs) × (takings p + some (q ∷ qs) ≤ 1)
row_split p q [] h = let a = pair_split p q h.0 in let m = a.2 in (a.0, (a.1, tt), omega (arith, m))
row_split p q (r ∷ rs) h =
    let a = pair_split p q h.0 in
    let b = row_split p r rs h.1 in
    let m = a.2 in
    let n = b.2 in
    (a.0, (a.1, b.1), omega (arith, m, n))

row_join : (p : Path) (qs : List Path) → NoneBehind p → AllFine qs → takings p + some qs ≤ 1 → AllFine (row p qs)
row_join p [] h k m = tt
row_join p (q ∷ qs) h k m = (pair_join p q h k.0 (omega (arith, m)), row_join p qs h k.1 (omega (arith, m)))

-- ---- each path of several in front of each of others

both_most : (p q : Path) (ps qs : List Path) → most (both (p ∷ ps) (q ∷ qs)) ≡ most (p ∷ ps) + most (q ∷ qs)
both_most p q [] qs = let a = most_append (row p (q ∷ qs)) [] in let b = row_most p q qs in omega (arith, a, b)
both_most p q (r ∷ rs) qs =
    let a = most_append (row p (q ∷ qs)) (both (r ∷ rs) (q ∷ qs)) in
    let b = row_most p q qs in
    let c = both_most r q rs qs in
    omega (arith, a, b, c)

both_some : (p q : Path) (ps qs : List Path) → some (both (p ∷ ps) (q ∷ qs)) ≡ max (some (p ∷ ps)) (some (q ∷ qs))
both_some p q [] qs = let a = some_append (row p (q ∷ qs)) [] in let b = row_some p q qs in omega (arith, a, b)
both_some p q (r ∷ rs) qs =
    let a = some_append (row p (q ∷ qs)) (both (r ∷ rs) (q ∷ qs)) in
    let b = row_some p q qs in
    let c = both_some r q rs qs in
    omega (arith, a, b, c)

both_split : (p q : Path) (ps qs : List Path) → AllFine (both (p ∷ ps) (q ∷ qs)) → AllFine (p ∷ ps) × AllFine (q ∷ qs) × (most (p ∷ ps) + some (q ∷ qs) ≤ 1)
both_split p q [] qs h =
    let a = row_split p q qs (all_front (row p (q ∷ qs)) [] h) in
    let m = a.2 in
    ((a.0, tt), a.1, omega (arith, m))
both_split p q (r ∷ rs) qs h =
    let a = row_split p q qs (all_front (row p (q ∷ qs)) (both (r ∷ rs) (q ∷ qs)) h) in
    let b = both_split r q rs qs (all_back (row p (q ∷ qs)) (both (r ∷ rs) (q ∷ qs)) h) in
    let m = a.2 in
    let n = b.2 in
    ((a.0, b.0), a.1, omega (arith, m, n))

both_join : (ps qs : List Path) → AllFine ps → AllFine qs → most ps + some qs ≤ 1 → AllFine (both ps qs)
both_join [] qs h k m = tt
both_join (p ∷ ps) qs h k m =
    all_join (row p qs) (both ps qs) (row_join p qs h.0 k (omega (arith, m))) (both_join ps qs h.1 k (omega (arith, m)))

-- ---- paths and their counts

-- there is a path, and so often they take and happen
record Counted (ps : List Path) (t s : ℕ) : Type 0 where
  filled : NotEmpty ps
  takes : most ps ≡ t
  occurs : some ps ≡ s

both_counted : (ps qs : List Path) (t s u v : ℕ) → Counted ps t s → Counted qs u v → Counted (both ps qs) (t + u) (max s v)
both_counted [] qs t s u v c d = absurd c.filled
both_counted (p ∷ ps) [] t s u v c d = absurd d.filled
both_counted (p ∷ ps) (q ∷ qs) t s u v c d =
    let a = both_most p q ps qs in
    let b = both_some p q ps qs in
    let ct = c.takes in
    let cs = c.occurs in
    let dt = d.takes in
    let ds = d.occurs in
    record { filled = tt; takes = omega (arith, a, ct, dt); occurs = b ∙ ap (λ n. max n (some (q ∷ qs))) cs ∙ ap (λ n. max s n) ds }

append_counted : (ps qs : List Path) (t s u v : ℕ) → Counted ps t s → Counted qs u v → Counted (ps ++ qs) (max t u) (max s v)
append_counted ps qs t s u v c d =
    record {
      filled = filled_append ps qs c.filled;
      takes = most_append ps qs ∙ ap (λ n. max n (most qs)) c.takes ∙ ap (λ n. max t n) d.takes;
      occurs = some_append ps qs ∙ ap (λ n. max n (some qs)) c.occurs ∙ ap (λ n. max s n) d.occurs;
    }

one_counted : (p : Path) (t s : ℕ) → takings p ≡ t → happens p ≡ s → Counted (one_path p) t s
one_counted p t s e k = record { filled = tt; takes = omega (arith, e); occurs = omega (arith, k) }

-- one of two, by a test
test_counted : (b : Bool) (ps : List Path) (t s : ℕ) → Counted ps t s → Counted (if b then one_path [] else ps) (if b then 0 else t) (if b then 0 else s)
test_counted true ps t s c = one_counted [] 0 0 refl refl
test_counted false ps t s c = c

name_counted : (x : List ℕ) (n : Name) → Counted (taking x n) (one_name x n) (one_name x n)
name_counted x n = by_test (bytes_eq n.word x)
  where
    by_test : (b : Bool) → Counted (one_path (if b then Taking ∷ [] else [])) (if b then 1 else 0) (if b then 1 else 0)
    by_test true = one_counted (Taking ∷ []) 1 1 refl refl
    by_test false = one_counted [] 0 0 refl refl

place_counted : (x : List ℕ) (place : Option Name) → Counted (place_paths x place) (place_taken x place) (place_taken x place)
place_counted x None = one_counted [] 0 0 refl refl
place_counted x (Some d) = name_counted x d

readings_takings : (x : List ℕ) (ms : List Bool) (es : Expressions) → takings (readings x ms es) ≡ 0
readings_takings x ms NoExpressions = refl
readings_takings x ms (AndExpression e es) =
    takings_append (if is_reading ms e && is_variable x e then Reading ∷ [] else []) (readings x (reads_behind ms) es)
    ∙ (let here = by_test (is_reading ms e && is_variable x e) in let later = readings_takings x (reads_behind ms) es in
    omega (arith, here, later))
  where
    by_test : (b : Bool) → takings (if b then Reading ∷ [] else []) ≡ 0
    by_test true = refl
    by_test false = refl

readings_happens : (x : List ℕ) (ms : List Bool) (es : Expressions) → happens (readings x ms es) ≡ call_reads x ms es
readings_happens x ms NoExpressions = refl
readings_happens x ms (AndExpression e es) =
    happens_append (if is_reading ms e && is_variable x e then Reading ∷ [] else []) (readings x (reads_behind ms) es)
    ∙ ap (λ n. max n (happens (readings x (reads_behind ms) es))) (by_test (is_reading ms e && is_variable x e))
    ∙ ap (λ n. max (if is_reading ms e && is_variable x e then 1 else 0) n) (readings_happens x (reads_behind ms) es)
  where
    by_test : (b : Bool) → happens (if b then Reading ∷ [] else []) ≡ (if b then 1 else 0)
    by_test true = refl
    by_test false = refl

mutual
  paths_counted : (loans : Loans) (x : List ℕ) (e : Expression) → Counted (paths loans x e) (taken loans x e) (seen loans x e)
  paths_counted loans x (Num z l) = one_counted [] 0 0 refl refl
  paths_counted loans x (Truth b l) = one_counted [] 0 0 refl refl
  paths_counted loans x (Var n) = name_counted x n
  paths_counted loans x (Prim op a b l) =
      both_counted (paths loans x a) (paths loans x b) (taken loans x a) (seen loans x a) (taken loans x b) (seen loans x b) (paths_counted loans x a) (paths_counted loans x b)
  paths_counted loans x (If c a b l) =
      both_counted (paths loans x c) (paths loans x a ++ paths loans x b) (taken loans x c) (seen loans x c) (max (taken loans x a) (taken loans x b)) (max (seen loans x a) (seen loans x b))
      (paths_counted loans x c)
      (append_counted (paths loans x a) (paths loans x b) (taken loans x a) (seen loans x a) (taken loans x b) (seen loans x b) (paths_counted loans x a) (paths_counted loans x b))
  paths_counted loans x (Let n e b) =
      both_counted (paths loans x e) (if bytes_eq n.word x then one_path [] else paths loans x b) (taken loans x e) (seen loans x e)
      (if bytes_eq n.word x then 0 else taken loans x b) (if bytes_eq n.word x then 0 else seen loans x b) (paths_counted loans x e)
      (test_counted (bytes_eq n.word x) (paths loans x b) (taken loans x b) (seen loans x b) (paths_counted loans x b))
  paths_counted loans x (Match e as' l) =
      both_counted (paths loans x e) (arms_paths loans x as') (taken loans x e) (seen loans x e) (arms_taken loans x as') (arms_seen loans x as')
      (paths_counted loans x e) (arms_counted loans x as')
  paths_counted loans x (Build c es place) =
      both_counted (all_paths loans x [] es) (place_paths x place) (all_taken loans x [] es) (all_seen loans x [] es) (place_taken x place) (place_taken x place)
      (all_counted loans x [] es) (place_counted x place)
  paths_counted loans x (Call f es) =
      let plain : all_taken loans x (loans f.word) es + 0 ≡ all_taken loans x (loans f.word) es = omega arith in
      subst (λ t. Counted (both (all_paths loans x (loans f.word) es) (one_path (readings x (loans f.word) es))) t (max (all_seen loans x (loans f.word) es) (call_reads x (loans f.word) es))) plain
      (both_counted (all_paths loans x (loans f.word) es) (one_path (readings x (loans f.word) es)) (all_taken loans x (loans f.word) es) (all_seen loans x (loans f.word) es) 0 (call_reads x (loans f.word) es)
      (all_counted loans x (loans f.word) es)
      (one_counted (readings x (loans f.word) es) 0 (call_reads x (loans f.word) es) (readings_takings x (loans f.word) es) (readings_happens x (loans f.word) es)))

  all_counted : (loans : Loans) (x : List ℕ) (ms : List Bool) (es : Expressions) → Counted (all_paths loans x ms es) (all_taken loans x ms es) (all_seen loans x ms es)
  all_counted loans x ms NoExpressions = one_counted [] 0 0 refl refl
  all_counted loans x ms (AndExpression e es) =
      both_counted (if is_reading ms e then one_path [] else paths loans x e) (all_paths loans x (reads_behind ms) es) (if is_reading ms e then 0 else taken loans x e)
      (if is_reading ms e then 0 else seen loans x e) (all_taken loans x (reads_behind ms) es) (all_seen loans x (reads_behind ms) es)
      (test_counted (is_reading ms e) (paths loans x e) (taken loans x e) (seen loans x e) (paths_counted loans x e)) (all_counted loans x (reads_behind ms) es)

  arms_counted : (loans : Loans) (x : List ℕ) (as' : Arms) → Counted (arms_paths loans x as') (arms_taken loans x as') (arms_seen loans x as')
  arms_counted loans x NoArms = one_counted [] 0 0 refl refl
  arms_counted loans x (AndArm c fs cell b as') =
      append_counted (if is_bound x (bound_names fs cell) then one_path [] else paths loans x b) (arms_paths loans x as') (if is_bound x (bound_names fs cell) then 0 else taken loans x b)
      (if is_bound x (bound_names fs cell) then 0 else seen loans x b) (arms_taken loans x as') (arms_seen loans x as')
      (test_counted (is_bound x (bound_names fs cell)) (paths loans x b) (taken loans x b) (seen loans x b) (paths_counted loans x b)) (arms_counted loans x as')

-- ---- both ways

-- two parts, one after the other
record Split (ps qs : List Path) (t v : ℕ) : Type 0 where
  first : AllFine ps
  second : AllFine qs
  apart : t + v ≤ 1

parts_split : (ps qs : List Path) (t s u v : ℕ) → Counted ps t s → Counted qs u v → AllFine (both ps qs) → Split ps qs t v
parts_split [] qs t s u v c d h = absurd c.filled
parts_split (p ∷ ps) [] t s u v c d h = absurd d.filled
parts_split (p ∷ ps) (q ∷ qs) t s u v c d h =
    let r = both_split p q ps qs h in
    let m = r.2 in
    let ct = c.takes in
    let ds = d.occurs in
    record { first = r.0; second = r.1; apart = omega (arith, m, ct, ds) }

parts_join : (ps qs : List Path) (t s u v : ℕ) → Counted ps t s → Counted qs u v → AllFine ps → AllFine qs → t + v ≤ 1 → AllFine (both ps qs)
parts_join ps qs t s u v c d h k m = let ct = c.takes in let ds = d.occurs in both_join ps qs h k (omega (arith, m, ct, ds))

none_fine : AllFine (one_path [])
none_fine = (tt, tt)

test_split : (b : Bool) (ps : List Path) → AllFine (if b then one_path [] else ps) → b ≡ false → AllFine ps
test_split true ps h e = absurd cc
test_split false ps h e = h

test_join : (b : Bool) (ps : List Path) → (b ≡ false → AllFine ps) → AllFine (if b then one_path [] else ps)
test_join true ps h = none_fine
test_join false ps h = h refl

name_fine : (x : List ℕ) (n : Name) → AllFine (taking x n)
name_fine x n = by_test (bytes_eq n.word x)
  where
    by_test : (b : Bool) → AllFine (one_path (if b then Taking ∷ [] else []))
    by_test true = (refl, tt)
    by_test false = (tt, tt)

place_fine : (x : List ℕ) (place : Option Name) → AllFine (place_paths x place)
place_fine x None = none_fine
place_fine x (Some d) = name_fine x d

readings_fine : (x : List ℕ) (ms : List Bool) (es : Expressions) → NoneBehind (readings x ms es)
readings_fine x ms NoExpressions = tt
readings_fine x ms (AndExpression e es) = by_test (is_reading ms e && is_variable x e) (readings_fine x (reads_behind ms) es)
  where
    by_test : (b : Bool) → NoneBehind (readings x (reads_behind ms) es) → NoneBehind ((if b then Reading ∷ [] else []) ++ readings x (reads_behind ms) es)
    by_test true h = h
    by_test false h = h

-- the parts of an expression, with their counts
let_rest : (loans : Loans) (x : List ℕ) (n : Name) (b : Expression)
    → Counted (if bytes_eq n.word x then one_path [] else paths loans x b) (if bytes_eq n.word x then 0 else taken loans x b) (if bytes_eq n.word x then 0 else seen loans x b)
let_rest loans x n b = test_counted (bytes_eq n.word x) (paths loans x b) (taken loans x b) (seen loans x b) (paths_counted loans x b)

head_counted : (loans : Loans) (x : List ℕ) (ms : List Bool) (e : Expression)
    → Counted (if is_reading ms e then one_path [] else paths loans x e) (if is_reading ms e then 0 else taken loans x e) (if is_reading ms e then 0 else seen loans x e)
head_counted loans x ms e = test_counted (is_reading ms e) (paths loans x e) (taken loans x e) (seen loans x e) (paths_counted loans x e)

branches_counted : (loans : Loans) (x : List ℕ) (a b : Expression)
    → Counted (paths loans x a ++ paths loans x b) (max (taken loans x a) (taken loans x b)) (max (seen loans x a) (seen loans x b))
branches_counted loans x a b =
    append_counted (paths loans x a) (paths loans x b) (taken loans x a) (seen loans x a) (taken loans x b) (seen loans x b) (paths_counted loans x a) (paths_counted loans x b)

call_counted : (loans : Loans) (x : List ℕ) (ms : List Bool) (es : Expressions) → Counted (one_path (readings x ms es)) 0 (call_reads x ms es)
call_counted loans x ms es = one_counted (readings x ms es) 0 (call_reads x ms es) (readings_takings x ms es) (readings_happens x ms es)

mutual
  pub fair_by_paths : (loans : Loans) (x : List ℕ) (e : Expression) → AllByRecursion NoneBehind (paths loans x e) → Fair loans x e
  fair_by_paths loans x (Num z l) h = tt
  fair_by_paths loans x (Truth b l) h = tt
  fair_by_paths loans x (Var n) h = tt
  fair_by_paths loans x (Prim op a b l) h =
      let r = parts_split (paths loans x a) (paths loans x b) (taken loans x a) (seen loans x a) (taken loans x b) (seen loans x b) (paths_counted loans x a) (paths_counted loans x b) h in
      (fair_by_paths loans x a r.first, fair_by_paths loans x b r.second, r.apart)
  fair_by_paths loans x (If c a b l) h =
      let r = parts_split (paths loans x c) (paths loans x a ++ paths loans x b) (taken loans x c) (seen loans x c) (max (taken loans x a) (taken loans x b)) (max (seen loans x a) (seen loans x b))
      (paths_counted loans x c) (branches_counted loans x a b) h in
      (fair_by_paths loans x c r.first, fair_by_paths loans x a (all_front (paths loans x a) (paths loans x b) r.second), fair_by_paths loans x b (all_back (paths loans x a) (paths loans x b) r.second), r.apart)
  fair_by_paths loans x (Let n e b) h =
      let r = parts_split (paths loans x e) (if bytes_eq n.word x then one_path [] else paths loans x b) (taken loans x e) (seen loans x e)
      (if bytes_eq n.word x then 0 else taken loans x b) (if bytes_eq n.word x then 0 else seen loans x b) (paths_counted loans x e) (let_rest loans x n b) h in
      (fair_by_paths loans x e r.first, (λ f. fair_by_paths loans x b (test_split (bytes_eq n.word x) (paths loans x b) r.second f)), r.apart)
  fair_by_paths loans x (Match e as' l) h =
      let r = parts_split (paths loans x e) (arms_paths loans x as') (taken loans x e) (seen loans x e) (arms_taken loans x as') (arms_seen loans x as') (paths_counted loans x e) (arms_counted loans x as') h in
      (fair_by_paths loans x e r.first, arms_by_paths loans x as' r.second, r.apart)
  fair_by_paths loans x (Build c es place) h =
      let r = parts_split (all_paths loans x [] es) (place_paths x place) (all_taken loans x [] es) (all_seen loans x [] es) (place_taken x place) (place_taken x place) (all_counted loans x [] es) (place_counted x place) h in
      (all_by_paths loans x [] es r.first, r.apart)
  fair_by_paths loans x (Call f es) h =
      let ms = loans f.word in
      let r = parts_split (all_paths loans x ms es) (one_path (readings x ms es)) (all_taken loans x ms es) (all_seen loans x ms es) 0 (call_reads x ms es) (all_counted loans x ms es) (call_counted loans x ms es) h in
      (all_by_paths loans x ms es r.first, r.apart)

  all_by_paths : (loans : Loans) (x : List ℕ) (ms : List Bool) (es : Expressions) → AllByRecursion NoneBehind (all_paths loans x ms es) → AllFair loans x ms es
  all_by_paths loans x ms NoExpressions h = tt
  all_by_paths loans x ms (AndExpression e es) h =
      let r = parts_split (if is_reading ms e then one_path [] else paths loans x e) (all_paths loans x (reads_behind ms) es) (if is_reading ms e then 0 else taken loans x e)
      (if is_reading ms e then 0 else seen loans x e) (all_taken loans x (reads_behind ms) es) (all_seen loans x (reads_behind ms) es) (head_counted loans x ms e) (all_counted loans x (reads_behind ms) es) h in
      ((λ f. fair_by_paths loans x e (test_split (is_reading ms e) (paths loans x e) r.first f)), all_by_paths loans x (reads_behind ms) es r.second, r.apart)

  arms_by_paths : (loans : Loans) (x : List ℕ) (as' : Arms) → AllByRecursion NoneBehind (arms_paths loans x as') → ArmsFair loans x as'
  arms_by_paths loans x NoArms h = tt
  arms_by_paths loans x (AndArm c fs cell b as') h = (
    (λ f. fair_by_paths loans x b (test_split (is_bound x (bound_names fs cell)) (paths loans x b) (all_front (if is_bound x (bound_names fs cell) then one_path [] else paths loans x b) (arms_paths loans x as') h) f)),
    arms_by_paths loans x as' (all_back (if is_bound x (bound_names fs cell) then one_path [] else paths loans x b) (arms_paths loans x as') h),
  )

mutual
  pub paths_by_fair : (loans : Loans) (x : List ℕ) (e : Expression) → Fair loans x e → AllByRecursion NoneBehind (paths loans x e)
  paths_by_fair loans x (Num z l) h = none_fine
  paths_by_fair loans x (Truth b l) h = none_fine
  paths_by_fair loans x (Var n) h = name_fine x n
  paths_by_fair loans x (Prim op a b l) h =
      parts_join (paths loans x a) (paths loans x b) (taken loans x a) (seen loans x a) (taken loans x b) (seen loans x b) (paths_counted loans x a) (paths_counted loans x b)
      (paths_by_fair loans x a h.0) (paths_by_fair loans x b h.1) h.2
  paths_by_fair loans x (If c a b l) h =
      parts_join (paths loans x c) (paths loans x a ++ paths loans x b) (taken loans x c) (seen loans x c) (max (taken loans x a) (taken loans x b)) (max (seen loans x a) (seen loans x b))
      (paths_counted loans x c) (branches_counted loans x a b) (paths_by_fair loans x c h.0)
      (all_join (paths loans x a) (paths loans x b) (paths_by_fair loans x a h.1) (paths_by_fair loans x b h.2)) h.3
  paths_by_fair loans x (Let n e b) h =
      parts_join (paths loans x e) (if bytes_eq n.word x then one_path [] else paths loans x b) (taken loans x e) (seen loans x e)
      (if bytes_eq n.word x then 0 else taken loans x b) (if bytes_eq n.word x then 0 else seen loans x b) (paths_counted loans x e) (let_rest loans x n b)
      (paths_by_fair loans x e h.0) (test_join (bytes_eq n.word x) (paths loans x b) (λ f. paths_by_fair loans x b (h.1 f))) h.2
  paths_by_fair loans x (Match e as' l) h =
      parts_join (paths loans x e) (arms_paths loans x as') (taken loans x e) (seen loans x e) (arms_taken loans x as') (arms_seen loans x as') (paths_counted loans x e) (arms_counted loans x as')
      (paths_by_fair loans x e h.0) (paths_by_arms loans x as' h.1) h.2
  paths_by_fair loans x (Build c es place) h =
      parts_join (all_paths loans x [] es) (place_paths x place) (all_taken loans x [] es) (all_seen loans x [] es) (place_taken x place) (place_taken x place) (all_counted loans x [] es) (place_counted x place)
      (paths_by_all loans x [] es h.0) (place_fine x place) h.1
  paths_by_fair loans x (Call f es) h =
      let ms = loans f.word in
      parts_join (all_paths loans x ms es) (one_path (readings x ms es)) (all_taken loans x ms es) (all_seen loans x ms es) 0 (call_reads x ms es) (all_counted loans x ms es) (call_counted loans x ms es)
      (paths_by_all loans x ms es h.0) (readings_fine x ms es, tt) h.1

  paths_by_all : (loans : Loans) (x : List ℕ) (ms : List Bool) (es : Expressions) → AllFair loans x ms es → AllByRecursion NoneBehind (all_paths loans x ms es)
  paths_by_all loans x ms NoExpressions h = none_fine
  paths_by_all loans x ms (AndExpression e es) h =
      parts_join (if is_reading ms e then one_path [] else paths loans x e) (all_paths loans x (reads_behind ms) es) (if is_reading ms e then 0 else taken loans x e)
      (if is_reading ms e then 0 else seen loans x e) (all_taken loans x (reads_behind ms) es) (all_seen loans x (reads_behind ms) es) (head_counted loans x ms e) (all_counted loans x (reads_behind ms) es)
      (test_join (is_reading ms e) (paths loans x e) (λ f. paths_by_fair loans x e (h.0 f))) (paths_by_all loans x (reads_behind ms) es h.1) h.2

  paths_by_arms : (loans : Loans) (x : List ℕ) (as' : Arms) → ArmsFair loans x as' → AllByRecursion NoneBehind (arms_paths loans x as')
  paths_by_arms loans x NoArms h = none_fine
  paths_by_arms loans x (AndArm c fs cell b as') h =
      all_join (if is_bound x (bound_names fs cell) then one_path [] else paths loans x b) (arms_paths loans x as')
      (test_join (is_bound x (bound_names fs cell)) (paths loans x b) (λ f. paths_by_fair loans x b (h.0 f))) (paths_by_arms loans x as' h.1)
