use Rattle.std.proofs.Common.{◌≡◌, ◌<◌, length, get_or, subst}
use Rattle.annotations.proofs.Rows.{row_there}
use Rattle.annotations.proofs.reach.ReachTable.row.Goals as goal

pub returns-in-Some : goal.returns-in-Some
returns-in-Some c =
    let there = subst (λ rows. c.args.number < length rows) c.deref.ensures.value c.in-Some.ensures.lookup.3.0 in
    let is = subst (λ rows. c.in-Some.row.now ≡ get_or rows c.args.number c.in-Some.row.now) c.deref.ensures.value c.in-Some.ensures.lookup.1 in
    rw (← c.self.view_is, c.deref-in-Some.ensures.value) (row_there (λ r. r.items) c.self.inside.rows.items c.args.number c.in-Some.row.now c.self.invariant there is)
