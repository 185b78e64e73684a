-- Laws, for the proofs of this crate and of those above it.
-- The rule of an owned variable by counts, part by part: how often it is taken on a path at most, whether it occurs on
-- some path, and that of two parts one after the other the first doesn't take it or it doesn't occur in the second.
use Rattle.std.specs.Prelude.{◌≡◌, ℕ, ◌+◌, ◌≤◌, max, Bool, false, ◌&&◌, if◌then◌else◌, List, [], Option, Some, None}
use Rattle.std.specs.Str.{bytes_eq}
use Rattle.camelot_tree.specs.declared.tree.Name.{Name}
use Rattle.camelot_tree.specs.Tree.{Expression, Num, Truth, Var, Prim, If, Let, Match, Build, Call, Expressions, NoExpressions, AndExpression, Arms, NoArms, AndArm}
use Rattle.camelot_typing.specs.Kinds.{bound_names}
use Rattle.linear_use.specs.Uses.{Loans, is_bound, is_reading, is_variable, reads_behind}

-- 1 where this name is the variable
abbrev pub one_name : List ℕ → Name → ℕ
one_name x n = if bytes_eq n.word x then 1 else 0

abbrev pub place_taken : List ℕ → Option Name → ℕ
place_taken x None = 0
place_taken x (Some d) = one_name x d

-- 1 where a call with these arguments reads the variable
abbrev pub call_reads : List ℕ → List Bool → Expressions → ℕ
call_reads x ms NoExpressions = 0
call_reads x ms (AndExpression e es) = max (if is_reading ms e && is_variable x e then 1 else 0) (call_reads x (reads_behind ms) es)

-- how often it is taken, on the path on which that is most often
abbrev mutual
  pub taken : Loans → List ℕ → Expression → ℕ
  taken loans x (Num z l) = 0
  taken loans x (Truth b l) = 0
  taken loans x (Var n) = one_name x n
  taken loans x (Prim op a b l) = taken loans x a + taken loans x b
  taken loans x (If c a b l) = taken loans x c + max (taken loans x a) (taken loans x b)
  taken loans x (Let n e b) = taken loans x e + (if bytes_eq n.word x then 0 else taken loans x b)
  taken loans x (Match e as' l) = taken loans x e + arms_taken loans x as'
  taken loans x (Build c es place) = all_taken loans x [] es + place_taken x place
  taken loans x (Call f es) = all_taken loans x (loans f.word) es

  pub all_taken : Loans → List ℕ → List Bool → Expressions → ℕ
  all_taken loans x ms NoExpressions = 0
  all_taken loans x ms (AndExpression e es) = (if is_reading ms e then 0 else taken loans x e) + all_taken loans x (reads_behind ms) es

  pub arms_taken : Loans → List ℕ → Arms → ℕ
  arms_taken loans x NoArms = 0
  arms_taken loans x (AndArm c fs cell b as') = max (if is_bound x (bound_names fs cell) then 0 else taken loans x b) (arms_taken loans x as')

-- 1 where it occurs on some path
abbrev mutual
  pub seen : Loans → List ℕ → Expression → ℕ
  seen loans x (Num z l) = 0
  seen loans x (Truth b l) = 0
  seen loans x (Var n) = one_name x n
  seen loans x (Prim op a b l) = max (seen loans x a) (seen loans x b)
  seen loans x (If c a b l) = max (seen loans x c) (max (seen loans x a) (seen loans x b))
  seen loans x (Let n e b) = max (seen loans x e) (if bytes_eq n.word x then 0 else seen loans x b)
  seen loans x (Match e as' l) = max (seen loans x e) (arms_seen loans x as')
  seen loans x (Build c es place) = max (all_seen loans x [] es) (place_taken x place)
  seen loans x (Call f es) = max (all_seen loans x (loans f.word) es) (call_reads x (loans f.word) es)

  -- in arguments, without those that are read
  pub all_seen : Loans → List ℕ → List Bool → Expressions → ℕ
  all_seen loans x ms NoExpressions = 0
  all_seen loans x ms (AndExpression e es) = max (if is_reading ms e then 0 else seen loans x e) (all_seen loans x (reads_behind ms) es)

  pub arms_seen : Loans → List ℕ → Arms → ℕ
  arms_seen loans x NoArms = 0
  arms_seen loans x (AndArm c fs cell b as') = max (if is_bound x (bound_names fs cell) then 0 else seen loans x b) (arms_seen loans x as')

-- on each path nothing comes behind a taking
abbrev mutual
  pub Fair : Loans → List ℕ → Expression → Type 0
  Fair loans x (Num z l) = Unit {0}
  Fair loans x (Truth b l) = Unit {0}
  Fair loans x (Var n) = Unit {0}
  Fair loans x (Prim op a b l) = Fair loans x a × Fair loans x b × (taken loans x a + seen loans x b ≤ 1)
  Fair loans x (If c a b l) = Fair loans x c × Fair loans x a × Fair loans x b × (taken loans x c + max (seen loans x a) (seen loans x b) ≤ 1)
  Fair loans x (Let n e b) =
      Fair loans x e × (bytes_eq n.word x ≡ false → Fair loans x b) × (taken loans x e + (if bytes_eq n.word x then 0 else seen loans x b) ≤ 1)
  Fair loans x (Match e as' l) = Fair loans x e × ArmsFair loans x as' × (taken loans x e + arms_seen loans x as' ≤ 1)
  Fair loans x (Build c es place) = AllFair loans x [] es × (all_taken loans x [] es + place_taken x place ≤ 1)
  Fair loans x (Call f es) = AllFair loans x (loans f.word) es × (all_taken loans x (loans f.word) es + call_reads x (loans f.word) es ≤ 1)

  pub AllFair : Loans → List ℕ → List Bool → Expressions → Type 0
  AllFair loans x ms NoExpressions = Unit {0}
  AllFair loans x ms (AndExpression e es) =
      (is_reading ms e ≡ false → Fair loans x e) × AllFair loans x (reads_behind ms) es
      × ((if is_reading ms e then 0 else taken loans x e) + all_seen loans x (reads_behind ms) es ≤ 1)

  pub ArmsFair : Loans → List ℕ → Arms → Type 0
  ArmsFair loans x NoArms = Unit {0}
  ArmsFair loans x (AndArm c fs cell b as') = (is_bound x (bound_names fs cell) ≡ false → Fair loans x b) × ArmsFair loans x as'
