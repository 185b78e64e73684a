use Rattle.std.proofs.Common.{length, refl, ap, sym, ◌∙◌}
use Rattle.std.specs.Prelude.{Some}
use Rattle.std.proofs.lemmas.Option.{slice_get_read}
use Rattle.sliced_jobs.proofs.kit.take_kit.Goals as goal

pub returns-in-Some-clause-kit : goal.returns-in-Some-clause-kit
returns-in-Some-clause-kit c = c.requires.kit c.in-Some.kit
    (slice_get_read c.args.kits.now.items (length c.args.kits.now.items) c.args.number c.index_mut.result.now refl c.requires.there c.index_mut.ensures.value
    ∙ ap Some (sym c.in-Some.ensures.value))
