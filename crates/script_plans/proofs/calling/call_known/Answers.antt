use Rattle.std.proofs.Common.{ℕ, subst}
use Rattle.grail_code.specs.Code.{Code}
use Rattle.grail_code.specs.ByName.{HasName, IsFirstNamed}
use Rattle.script_plans.proofs.Coming.{licence_at, entry_asked, none_asked}
use Rattle.script_plans.proofs.calling.call_known.Goals as goal

pub returns-in-Some : goal.returns-in-Some
returns-in-Some c =
    let licences = c.args.licences.now in
    let known = c.args.known.now in
    let l = c.index-licences-known.result in
    entry_asked licences known l c.args.name.now c.args.text.now c.in-Some.number c.args.fuel c.call_function.result c.law_of_compiler.ensures.meaning (licence_at licences known l c.requires.known c.index-licences-known.is)
    (subst (λ (p : Code). IsFirstNamed p c.in-Some.number c.args.name.now) c.code.ensures c.in-Some.ensures.found) c.call_function.ensures

pub returns-in-None : goal.returns-in-None
returns-in-None c =
    let licences = c.args.licences.now in
    let known = c.args.known.now in
    let l = c.index-licences-known.result in
    none_asked licences known l c.args.name.now c.law_of_compiler.ensures.meaning (licence_at licences known l c.requires.known c.index-licences-known.is)
    (subst (λ (p : Code). (number : ℕ) → HasName p number c.args.name.now → ⊥) c.code.ensures c.in-None.ensures.none)
