use Rattle.std.proofs.Common.{◌≡◌, ◌<◌, [], length, get_or, map, subst}
use Rattle.camelot_tree.specs.Tree.{function_of}
use Rattle.camelot_types.specs.Tables.{globals_view, head_view}
use Rattle.camelot_types.specs.Solving.{Work, bodies_on}
use Rattle.camelot_types.proofs.Looping.{bodies_more, bodies_fail, atoms_last}
use Rattle.camelot_types.proofs.bodies.walk_bodies.Goals as goal

pub funs-preserved : goal.funs-preserved
funs-preserved c =
    let g = globals_view c.args.globals.now in
    let w : Work = record { table = c.in-Ok.body.table.items; atoms = c.in-Ok.body.atoms.items } in
    bodies_more function_of head_view g c.funs.work.table.items (map (λ v. v.items) c.funs.work.atoms.items) (map (λ v. v.items) c.push.new.self.items) c.args.funs.now c.args.globals.now.heads.items c.funs.index c.index-funs-index.result c.in-Some.head.now w
    (bodies_on g c.args.table.items [] (map function_of c.args.funs.now) g.heads) c.funs-test.true c.index-funs-index.is
    (subst (λ hs. c.funs.index < length hs) c.deref.ensures.value c.in-Some.ensures.lookup.3.0) (subst (λ hs. c.in-Some.head.now ≡ get_or hs c.funs.index c.in-Some.head.now) c.deref.ensures.value c.in-Some.ensures.lookup.1)
    c.funs.invariant c.in-Ok.ensures (atoms_last (λ v. v.items) c.funs.work.atoms.items c.push.new.self.items c.in-Ok.body.atoms c.in_ok-push-in-Ok.ensures.items)

pub returns-in-Err : goal.returns-in-Err
returns-in-Err c =
    let g = globals_view c.args.globals.now in
    bodies_fail function_of head_view g c.funs.work.table.items (map (λ v. v.items) c.funs.work.atoms.items) c.args.funs.now c.args.globals.now.heads.items c.funs.index c.index-funs-index.result c.in-Some.head.now
    (bodies_on g c.args.table.items [] (map function_of c.args.funs.now) g.heads) c.in-Err.stop c.funs-test.true c.index-funs-index.is
    (subst (λ hs. c.funs.index < length hs) c.deref.ensures.value c.in-Some.ensures.lookup.3.0) (subst (λ hs. c.in-Some.head.now ≡ get_or hs c.funs.index c.in-Some.head.now) c.deref.ensures.value c.in-Some.ensures.lookup.1)
    c.funs.invariant c.in-Err.ensures
