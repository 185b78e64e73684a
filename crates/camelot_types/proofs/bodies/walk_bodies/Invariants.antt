use Rattle.std.proofs.Common.{◌≡◌, [], drop, map}
use Rattle.camelot_tree.specs.Tree.{function_of}
use Rattle.camelot_types.specs.Tables.{globals_view}
use Rattle.camelot_types.specs.Solving.{bodies_on}
use Rattle.camelot_types.proofs.bodies.walk_bodies.Given as goal

abbrev pub invariant-funs : goal.invariant-funs
invariant-funs l = bodies_on (globals_view l.globals) l.work.table.items (map (λ v. v.items) l.work.atoms.items) (map function_of (drop l.index l.funs)) (drop l.index (globals_view l.globals).heads)
    ≡ bodies_on (globals_view l.globals) l.fn.table.items [] (map function_of l.funs) (globals_view l.globals).heads
