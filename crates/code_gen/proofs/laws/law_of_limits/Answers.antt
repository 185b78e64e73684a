use Rattle.code_gen.specs.Generated.{compiled}
use Rattle.code_gen.proofs.Spelled.{within_limits, with_params, with_names}
use Rattle.code_gen.proofs.laws.law_of_limits.Goals as goal

pub returns-clause-within : goal.returns-clause-within
returns-clause-within c t typing whole none = within_limits t typing whole none (c.law_of_sizes.ensures t typing)

pub returns-clause-spelled : goal.returns-clause-spelled
returns-clause-spelled c t typing rule whole named none =
    let counted = c.law_of_sizes.ensures t typing in
    c.law_of_ranges.ensures (compiled t) (c.law_of_compiler.ensures.well_formed t typing rule) (within_limits t typing whole none counted) (with_params t whole counted) (with_names t named counted)
