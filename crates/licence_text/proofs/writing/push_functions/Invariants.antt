use Rattle.std.proofs.Common.{◌≡◌, ◌++◌, drop, map}
use Rattle.std.specs.Prelude.{flat_map}
use Rattle.certificate.specs.Words.{func_of}
use Rattle.licence_text.specs.Texts.{function_text}
use Rattle.licence_text.proofs.writing.push_functions.Given as goal

abbrev pub invariant-funcs : goal.invariant-funcs
invariant-funcs l = l.out.items ++ flat_map (function_text l.types l.unit) (map func_of (drop l.func-index l.funcs)) ≡ l.initial.out.items ++ flat_map (function_text l.types l.unit) (map func_of l.funcs)
