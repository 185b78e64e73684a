-- Cited by contracts.
-- The code of a program in normal form: the same lets and ends of blocks. The first block of a function has the
-- function's parameters, and each other block has the locals that are live at its beginning, in ascending order.
use Rattle.std.specs.Prelude.{ℕ, zero, suc, ◌+◌, length}
use Rattle.std.specs.List.{filter, range_with_len}
use Rattle.camelot_typing.specs.Typed.{Typing}
use Rattle.grail_code.specs.Code.{Code}
use Rattle.normal_form.specs.Normal.{NormalFunction, NormalProgram, normal_form}
use Rattle.normal_form.specs.Live.{live_from}
use Rattle.normal_form.specs.Coded.{BlockParams, code_with}

-- the number of a function's locals, its parameters included
abbrev pub local_count : NormalFunction → ℕ
local_count f = length f.params + length f.locals

abbrev pub live_params : BlockParams
live_params f zero = range_with_len 0 (length f.params)
live_params f (suc n) = filter (live_from 0 f.blocks (suc n)) (range_with_len 0 (local_count f))

abbrev pub code_of_normal : NormalProgram → Code
code_of_normal p = code_with live_params p

-- the code of a typed program
abbrev pub compiled : Typing → Code
compiled t = code_of_normal (normal_form t)
