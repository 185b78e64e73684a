use Rattle.std.proofs.Common.{◌≡◌, ◌++◌, drop, map}
use Rattle.std.specs.Prelude.{flat_map}
use Rattle.certificate.specs.Words.{func_of}
use Rattle.certificate.specs.Writing.{func_text}
use Rattle.certificate.proofs.writing.push_funcs.Given as goal

abbrev pub invariant-funcs : goal.invariant-funcs
invariant-funcs l = l.out.items ++ flat_map func_text (map func_of (drop l.func-index l.funcs)) ≡ l.initial.out.items ++ flat_map func_text (map func_of l.funcs)
