use Rattle.std.proofs.Common.{◌∙◌}
use Rattle.normal_form.specs.Normal.{normal_form}
use Rattle.code_gen.specs.Generated.{live_params}
use Rattle.code_gen.proofs.Compiled.{well_formed, code_means}
use Rattle.code_gen.proofs.laws.law_of_compiler.Goals as goal

pub returns-clause-well_formed : goal.returns-clause-well_formed
returns-clause-well_formed c t typing rule =
    well_formed (normal_form t) (c.law_of_tables.ensures t typing) (c.law_of_use.ensures t typing rule) (c.law_of_fits.ensures live_params t typing rule)

pub returns-clause-meaning : goal.returns-clause-meaning
returns-clause-meaning c t limit func fuel args s typing rule is fit =
    code_means (normal_form t) limit func fuel args
    (well_formed (normal_form t) (c.law_of_tables.ensures t typing) (c.law_of_use.ensures t typing rule) (c.law_of_fits.ensures live_params t typing rule))
    ∙ c.law_of_meaning.ensures t limit func fuel args s typing is fit
