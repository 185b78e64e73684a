-- Cited by contracts.
-- Where the lines of each block stand among those of its function, and which constructors are of heap types: told once
-- for all accounts.
use Rattle.std.specs.Prelude.{ℕ, suc, Bool, nat_lt, List, [], ◌∷◌, ◌++◌, length, map, replicate, slice_get, Option, Some, None}
use Rattle.std.specs.List.{range_with_len, prefix_len}
use Rattle.camelot_values.specs.Kinds.{DataType}
use Rattle.camelot_values.specs.Heap.{is_heap_type}
use Rattle.grail_code.specs.Code.{Func}
use Rattle.certificate.specs.Certificates.{BlockCert, MakeCert, FuncCert, Cert}
use Rattle.licence.specs.Licensed.{Licensed}
use Rattle.frame_accounts.specs.declared.table.BlockRow.{BlockRow}
use Rattle.frame_accounts.specs.declared.table.FuncRows.{FuncRows}

-- of a block: how many lines of blocks stand in front of its own, and how many of builds in front of its first
pub record Row : Type 0 where
  pub line : ℕ
  pub make : ℕ

-- of a code: for each constructor whether it's of a heap type, and for each function the rows of its blocks
pub record Table : Type 0 where
  pub heaps : List Bool
  pub funcs : List (List Row)

-- ---- the plain data of the code's types

abbrev pub row_of : BlockRow → Row
row_of r = record { line = r.line; make = r.make }

abbrev pub rows_of : FuncRows → List Row
rows_of f = map row_of f.blocks.items

-- ---- the table of a licence

-- how many lines stand in front of this block
abbrev pub lines_before : List BlockCert → ℕ → ℕ
lines_before lines block = prefix_len (λ b. nat_lt b.block block) lines

-- the same of builds
abbrev pub makes_before : List MakeCert → ℕ → ℕ
makes_before makes block = prefix_len (λ m. nat_lt m.block block) makes

abbrev pub row_for : FuncCert → ℕ → Row
row_for own block = record { line = lines_before own.blocks block; make = makes_before own.makes block }

-- a function without lines has no rows
abbrev pub rows_for : Func → Option FuncCert → List Row
rows_for f None = []
rows_for f (Some own) = map (row_for own) (range_with_len 0 (length f.blocks))

-- the functions from this number on
abbrev pub rows_from : Cert → (func : ℕ) → List Func → List (List Row)
rows_from c func [] = []
rows_from c func (f ∷ fs) = rows_for f (slice_get c.funcs func) ∷ rows_from c (suc func) fs

-- the constructors of the types from this number on
abbrev pub heaps_from : List DataType → (number : ℕ) → List DataType → List Bool
heaps_from types number [] = []
heaps_from types number (t ∷ ts) = replicate (length t.cons) (is_heap_type types number) ++ heaps_from types (suc number) ts

abbrev pub table_of : Licensed → Table
table_of l = record { heaps = heaps_from l.code.types 0 l.code.types; funcs = rows_from l.cert 0 l.code.funcs }
