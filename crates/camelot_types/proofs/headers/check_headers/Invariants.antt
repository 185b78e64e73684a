use Rattle.std.proofs.Common.{◌≡◌, [], ◌++◌, drop, map}
use Rattle.camelot_tree.specs.Tree.{function_of}
use Rattle.camelot_tree.specs.Programs.{program_of}
use Rattle.camelot_types.specs.Declaring.{each_header_checked}
use Rattle.camelot_types.proofs.headers.check_headers.Given as goal

abbrev pub invariant-funs : goal.invariant-funs
invariant-funs l = record {
  checked : each_header_checked (program_of l.program) l.names (map function_of (drop l.fun-index l.program.funs.items)) ≡ each_header_checked (program_of l.program) [] (map function_of l.program.funs.items);
  names : l.names ++ map (λ f. f.name.word) (map function_of (drop l.fun-index l.program.funs.items)) ≡ map (λ f. f.name.word) (map function_of l.program.funs.items);
}
