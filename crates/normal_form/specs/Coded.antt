-- Cited by contracts.
-- A program in normal form as code, whose blocks have some parameters.
use Rattle.std.specs.Prelude.{ℕ, suc, List, [], ◌∷◌, map}
use Rattle.grail_code.specs.Code.{Block, Func, Code}
use Rattle.normal_form.specs.Normal.{NormalBlock, NormalFunction, NormalProgram}

-- the parameters of a function's block of this number
abbrev pub BlockParams : Type 0
BlockParams = NormalFunction → ℕ → List ℕ

abbrev pub coded_blocks : (ℕ → List ℕ) → ℕ → List NormalBlock → List Block
coded_blocks takes number [] = []
coded_blocks takes number (b ∷ bs) = record { params = takes number; lets = b.lets; term = b.term } ∷ coded_blocks takes (suc number) bs

abbrev pub coded : BlockParams → NormalFunction → Func
coded takes f = record { name = f.name; params = f.params; reads = f.reads; result = f.result; locals = f.locals; blocks = coded_blocks (takes f) 0 f.blocks }

abbrev pub code_with : BlockParams → NormalProgram → Code
code_with takes p = record { types = p.types; funcs = map (coded takes) p.functions }
