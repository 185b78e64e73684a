-- The parameters of the blocks of a function that fits.
use Rattle.std.proofs.Common.{◌≡◌, ℕ, zero, suc, ◌≤◌, List, [], ◌∷◌, length, subst, sym, arith}
use Rattle.std.specs.List.{AllByRecursion, range_with_len}
use Rattle.camelot_values.specs.Lists.{Ascend}
use Rattle.grail_blocks.specs.Events.{params_at}
use Rattle.grail_code.specs.Code.{Block, Func, Code}
use Rattle.grail_code.specs.WellFormed.{BlocksFit, FuncFits}
use Rattle.certificate_fit.specs.Shapes.{HasParams}

all_ascend : (p : Code) (f : Func) (first : ℕ) (bs : List Block) → BlocksFit p f first bs → AllByRecursion (λ b. Ascend b.params) bs
all_ascend p f first [] h = tt
all_ascend p f first (b ∷ bs) h = (h.0.ascending, all_ascend p f (suc first) bs h.1)

of_entry : (p : Code) (f : Func) (bs : List Block) → 1 ≤ length bs → BlocksFit p f 0 bs → params_at bs 0 ≡ range_with_len 0 (length f.params)
of_entry p f [] some h = absurd (omega (arith, some))
of_entry p f (b ∷ bs) some h = h.0.entry (λ i. 0)

-- A function that fits is such.
pub has_params : (p : Code) (f : Func) → FuncFits p f → 1 ≤ length f.blocks → HasParams f
has_params p f fits some = record { ascending = all_ascend p f 0 f.blocks fits.blocks; entry = of_entry p f f.blocks some fits.blocks }

ascend_at : (bs : List Block) (number : ℕ) → AllByRecursion (λ b. Ascend b.params) bs → Ascend (params_at bs number)
ascend_at [] number h = tt
ascend_at (b ∷ bs) zero h = h.0
ascend_at (b ∷ bs) (suc number) h = ascend_at bs number h.1

pub params_ascend : (f : Func) (number : ℕ) (params : List ℕ) → HasParams f → params ≡ params_at f.blocks number → Ascend params
params_ascend f number params h e = subst Ascend (sym e) (ascend_at f.blocks number h.ascending)
