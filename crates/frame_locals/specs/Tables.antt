-- Cited by contracts.
-- What is known of locals, once for all places of code: for each function which locals are owned, and which blocks lend.
use Rattle.std.specs.Prelude.{ℕ, suc, Bool, ◌&&◌, not, List, [], ◌∷◌, map}
use Rattle.camelot_values.specs.Kinds.{DataType}
use Rattle.camelot_values.specs.Heap.{is_heap}
use Rattle.camelot_values.specs.declared.kinds.Kind.{Kind}
use Rattle.grail_code.specs.Code.{Func, Code}
use Rattle.grail_code.specs.WellFormed.{local_kinds, is_read}
use Rattle.frame_locals.specs.Lending.{block_lends}
use Rattle.frame_locals.specs.declared.table.FuncLocals.{FuncLocals}

-- of a function: a mark for each local that is owned, and one for each block of which a parameter is lent
pub record Row : Type 0 where
  pub owned : List Bool
  pub lends : List Bool

abbrev pub row_of : FuncLocals → Row
row_of r = record { owned = r.owned.items; lends = r.lends.items }

-- whether the locals from this number on are owned, by their kinds
abbrev pub owned_from : List DataType → Func → (local : ℕ) → List Kind → List Bool
owned_from types f local [] = []
owned_from types f local (q ∷ qs) = (is_heap types q && not (is_read f local)) ∷ owned_from types f (suc local) qs

abbrev pub row_for : Code → Func → Row
row_for p f = record { owned = owned_from p.types f 0 (local_kinds f); lends = map (block_lends p f) f.blocks }

-- those of all functions, in order
abbrev pub table_of : Code → List Row
table_of p = map (row_for p) p.funcs
