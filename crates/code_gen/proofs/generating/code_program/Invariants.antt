use Rattle.std.proofs.Common.{◌≡◌, ◌++◌, map}
use Rattle.std.specs.List.{AllByRecursion}
use Rattle.std.specs.Vec.Iter.{into_iter_items}
use Rattle.grail_code.specs.Code.{func_of}
use Rattle.grail_code.specs.Limits.{FuncIsWithin}
use Rattle.normal_form.specs.Coded.{coded}
use Rattle.normal_form.specs.Programs.{normal_function_of}
use Rattle.code_gen.specs.Generated.{live_params}
use Rattle.code_gen.proofs.generating.code_program.Given as goal

abbrev pub invariant-each_function : goal.invariant-each_function
invariant-each_function l = record {
  funcs : map func_of l.funcs.items ++ map (coded live_params) (map normal_function_of (into_iter_items l.function-iterator)) ≡ map (coded live_params) (map normal_function_of l.fn.program.functions.items);
  within : AllByRecursion FuncIsWithin (map (coded live_params) (map normal_function_of (into_iter_items l.function-iterator)));
}
