use Rattle.std.proofs.Common.{◌≡◌, [], map, subst, sym, ◌∙◌}
use Rattle.std.proofs.lemmas.List.{nil_from_length}
use Rattle.std.specs.Vec.Iter.{into_iter_items}
use Rattle.job_script.specs.Words.{entry_of}
use Rattle.script_plans.specs.Rows.{row_of}
use Rattle.script_plans.specs.Turns.{planning_of}
use Rattle.script_plans.proofs.AllWanted.{Taking, taking_can, taking_more, taking_end}
use Rattle.script_plans.proofs.planning.take_all.Goals as goal

pub take_entry-requires-clause-can : goal.take_entry-requires-clause-can
take_entry-requires-clause-can c =
    let script = map entry_of c.args.entries.now in
    let rows = map row_of c.args.rows.now in
    let t = planning_of c.entries.taken in
    taking_can c.args.arena script rows c.entries.place t c.in-Some.wanted (into_iter_items c.next.new.self)
    (subst (Taking c.args.arena script rows c.entries.place t) c.in-Some.ensures.steps.0 c.entries.invariant)

pub entries-preserved : goal.entries-preserved
entries-preserved c =
    let script = map entry_of c.args.entries.now in
    let rows = map row_of c.args.rows.now in
    let old = planning_of c.entries.taken in
    taking_more c.args.arena script rows c.entries.place old (planning_of c.take_entry.new.taken) c.in-Some.wanted (into_iter_items c.next.new.self) c.requires.programs
    (subst (Taking c.args.arena script rows c.entries.place old) c.in-Some.ensures.steps.0 c.entries.invariant) c.in_ok-take_entry.ensures

pub returns : goal.returns
returns c =
    let script = map entry_of c.args.entries.now in
    let rows = map row_of c.args.rows.now in
    let t = planning_of c.entries.taken in
    let none : into_iter_items c.entries.wanted-iterator ≡ [] = nil_from_length (into_iter_items c.entries.wanted-iterator) (sym c.entries.wanted-iterator.rest.ok.0 ∙ c.in-None.ensures.steps.0) in
    taking_end c.args.arena script rows c.entries.place t (subst (Taking c.args.arena script rows c.entries.place t) none c.entries.invariant)
