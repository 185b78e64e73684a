use Rattle.std.proofs.Common.{◌∙◌, ap, map, length, arith}
use Rattle.camelot_values.specs.Kinds.{constructors}
use Rattle.camelot_typing.specs.NumberLaws.{few_constructors}
use Rattle.camelot_types.proofs.Declaring.{length_map}
use Rattle.camelot_tree.specs.Programs.{program_of}
use Rattle.camelot_tree.specs.Tree.{function_of}
use Rattle.camelot_types.specs.Walk.{head_guesses}
use Rattle.camelot_types.proofs.Finding.{names_are}
use Rattle.camelot_types.proofs.program.check_bodies.Goals as goal

pub invariant_of-globals-clause-fun_names : goal.invariant_of-globals-clause-fun_names
invariant_of-globals-clause-fun_names c =
    let p = program_of c.args.program.now in
    c.requires.funs ∙ names_are p 0 c.in_ok-heads.heads.items p.funs (c.in_ok-heads.ensures ∙ ap (λ fs. head_guesses p 0 (map function_of fs)) c.deref.ensures.value)

pub invariant_of-globals-clause-few_cons : goal.invariant_of-globals-clause-few_cons
invariant_of-globals-clause-few_cons c =
    let few = few_constructors c.args.types.now c.limits.ensures in
    let long = ap length c.requires.cons ∙ length_map (λ c. c.name) (constructors c.args.types.now) in
    omega (arith, few, long)
