use Rattle.std.proofs.Common.{ap, subst, ◌∙◌, map}
use Rattle.std.proofs.lemmas.List.{map-append}
use Rattle.grail_code.specs.Code.{Code}
use Rattle.value_text.specs.Inhabited.{Knows}
use Rattle.script_plans.specs.Programs.{text_in}
use Rattle.script_plans.specs.Rows.{row_of}
use Rattle.script_plans.specs.Answers.{licensing_of}
use Rattle.script_plans.proofs.Programs.{accepted}
use Rattle.script_plans.proofs.licensing.accept.Goals as goal

pub returns : goal.returns
returns c =
    accepted c.args.name.now (text_in c.args.language c.args.text.now) (licensing_of c.args.programs.now) (record { rows = map row_of c.push-2.new.self.items; licences = c.push.new.self.items; lines = c.push-3.new.self.items }) c.args.licence
    (record { licence = c.len.result; inhabited = c.of.result }) c.unit-unit.result c.requires.is (c.len.ensures ∙ c.args.programs.now.licences.ok.0) (subst (λ (p : Code). Knows p.types c.of.result) c.code.ensures c.of.ensures)
    (c.unit-unit.ensures ∙ ap (λ x. x.unit) c.cert.ensures) c.in_ok-push.ensures.items (ap (map row_of) c.in_ok-push-2.ensures.items ∙ map-append row_of _ _) c.in_ok-push-3.ensures.items
