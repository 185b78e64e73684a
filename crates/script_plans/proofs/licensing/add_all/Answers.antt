use Rattle.std.proofs.Common.{◌≡◌, [], map, subst, sym, ◌∙◌}
use Rattle.std.proofs.lemmas.List.{nil_from_length}
use Rattle.std.specs.Vec.Iter.{into_iter_items}
use Rattle.job_script.specs.Words.{entry_of}
use Rattle.script_plans.specs.Answers.{licensing_of}
use Rattle.script_plans.proofs.AllAnswered.{Adding, next_answer, added_all}
use Rattle.script_plans.proofs.licensing.add_all.Goals as goal

pub add_program-requires-clause-answer : goal.add_program-requires-clause-answer
add_program-requires-clause-answer c =
    let script = map entry_of c.args.entries.now in
    next_answer script (licensing_of c.answers.programs) c.in-Some.answered (into_iter_items c.next.new.self) (subst (Adding script (licensing_of c.answers.programs)) c.in-Some.ensures.steps.0 c.answers.invariant)

pub returns : goal.returns
returns c =
    let script = map entry_of c.args.entries.now in
    let none : into_iter_items c.answers.answered-iterator ≡ [] = nil_from_length (into_iter_items c.answers.answered-iterator) (sym c.answers.answered-iterator.rest.ok.0 ∙ c.in-None.ensures.steps.0) in
    added_all script (licensing_of c.answers.programs) (subst (Adding script (licensing_of c.answers.programs)) none c.answers.invariant)
