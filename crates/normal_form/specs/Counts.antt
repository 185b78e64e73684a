-- Private: words for functions of this crate.
-- Counts of locals and blocks, which stand still at the end of their type, and the parts over which they are added up.
use Rattle.std.specs.Prelude.{ℕ, suc, ◌+◌, List, [], ◌∷◌, Option, Some, None}
use Rattle.camelot_tree.specs.Tree.{Expression, Prim, If, Expressions, Arms, Branch, Source}
use Rattle.normal_form.specs.Normal.{cons_of, bound_count, total, made, all_made, arm_made, ends, all_ends, arm_ends, tail_made, arm_tail_made, tail_ends, arm_tail_ends}
pub use Rattle.normal_form.specs.Answers.{counted_as}
use Rattle.normal_form.specs.declared.counts.Counts.{Counts}

abbrev pub counted : ℕ → ℕ → Counts
counted locals blocks = record { locals = counted_as locals; blocks = counted_as blocks }

abbrev pub both : Counts → Counts → Counts
both a b = record { locals = counted_as (a.locals + b.locals); blocks = counted_as (a.blocks + b.blocks) }

-- ---- parts

-- an operator or a conditional behind its first part
abbrev pub rest_made : Source → Expression → ℕ
rest_made p (Prim op a b l) = suc (made p b)
rest_made p (If c a b l) = suc (made p a + made p b)
rest_made p e = 0

abbrev pub rest_ends : Source → Expression → ℕ
rest_ends p (Prim op a b l) = ends p b
rest_ends p (If c a b l) = suc (suc (ends p a) + suc (ends p b))
rest_ends p e = 0

-- all of these
abbrev pub rests_made : Source → List Expression → ℕ
rests_made p [] = 0
rests_made p (e ∷ es) = rest_made p e + rests_made p es

abbrev pub rests_ends : Source → List Expression → ℕ
rests_ends p [] = 0
rests_ends p (e ∷ es) = rest_ends p e + rests_ends p es

-- an arm, where there is one
abbrev pub branch_made : Source → Option Branch → ℕ
branch_made p None = 0
branch_made p (Some a) = bound_count a.fields a.cell + made p a.body

abbrev pub branch_ends : Source → Option Branch → ℕ
branch_ends p None = 0
branch_ends p (Some a) = suc (ends p a.body)

abbrev pub branch_tail_made : Source → Option Branch → ℕ
branch_tail_made p None = 0
branch_tail_made p (Some a) = bound_count a.fields a.cell + tail_made p a.body

abbrev pub branch_tail_ends : Source → Option Branch → ℕ
branch_tail_ends p None = 0
branch_tail_ends p (Some a) = tail_ends p a.body

-- the sum over arms
abbrev pub over : (Option Branch → ℕ) → List (Option Branch) → ℕ
over count [] = 0
over count (a ∷ as') = count a + over count as'

-- ---- expressions

abbrev pub counts_of : Source → Expression → Counts
counts_of p e = counted (made p e) (ends p e)

abbrev pub rest_counts : Source → Expression → Counts
rest_counts p e = counted (rest_made p e) (rest_ends p e)

abbrev pub all_counts : Source → Expressions → Counts
all_counts p es = counted (all_made p es) (all_ends p es)

abbrev pub branch_counts : Source → Option Branch → Counts
branch_counts p a = counted (branch_made p a) (branch_ends p a)

abbrev pub arms_counts : Source → Arms → Counts
arms_counts p as' = counted (total (arm_made p as') (cons_of p as')) (total (arm_ends p as') (cons_of p as'))

abbrev pub tail_counts : Source → Expression → Counts
tail_counts p e = counted (tail_made p e) (tail_ends p e)

abbrev pub branch_tail_counts : Source → Option Branch → Counts
branch_tail_counts p a = counted (branch_tail_made p a) (branch_tail_ends p a)

abbrev pub arms_tail_counts : Source → Arms → Counts
arms_tail_counts p as' = counted (total (arm_tail_made p as') (cons_of p as')) (total (arm_tail_ends p as') (cons_of p as'))

abbrev pub bound_counts : Branch → Counts
bound_counts a = counted (bound_count a.fields a.cell) 0
