use Rattle.std.proofs.Common.{◌≤◌, ◌∙◌, ap, sym, subst, map, List, ℕ}
use Rattle.camelot_values.specs.Kinds.{constructors}
use Rattle.camelot_tree.specs.Programs.{program_of}
use Rattle.camelot_tree.specs.Tree.{function_of}
use Rattle.camelot_types.proofs.Declaring.{length_map}
use Rattle.camelot_types.proofs.Declared.{types_are, headers_few, con_names_are}
use Rattle.camelot_types.proofs.program.check_parts.Goals as goal

pub compile_types-requires-clause-fit : goal.compile_types-requires-clause-fit
compile_types-requires-clause-fit c = types_are (program_of c.args.program.now) c.in-Ok.ensures.allowed c.args.program.now.whole

pub check_bodies-requires-clause-few_funs : goal.check_bodies-requires-clause-few_funs
check_bodies-requires-clause-few_funs c =
    subst (λ n. n ≤ 64) (length_map function_of c.args.program.now.funs.items) (headers_few (program_of c.args.program.now) c.in-Ok-check_headers.ensures.allowed).0

pub check_bodies-requires-clause-few_params : goal.check_bodies-requires-clause-few_params
check_bodies-requires-clause-few_params c = (headers_few (program_of c.args.program.now) c.in-Ok-check_headers.ensures.allowed).1

pub check_bodies-requires-clause-cons : goal.check_bodies-requires-clause-cons
check_bodies-requires-clause-cons c =
    c.in-Ok.ensures.names ∙ sym (con_names_are (program_of c.args.program.now)) ∙ ap (λ ts. map {B = List ℕ} (λ c. c.name) (constructors ts)) (sym c.in_ok-types.ensures)
