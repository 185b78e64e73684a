-- What comes of a script is determined, by the laws of compiling, of bundles and of texts of values.
use Rattle.script_plans.proofs.OneFate.{OfTexts, OfSources, OfBundles, Laws, of_program, one_line, one_fate, all_lines, all_fates}
use Rattle.script_plans.proofs.laws.law_of_fates.Goals as goal

texts : goal.After-law_of_licences → OfTexts
texts c = record {
  reading = c.law_of_reading.ensures.one;
  long = c.law_of_reading.ensures.long;
  bad = c.law_of_reading.ensures.bad;
  never_both = c.law_of_reading.ensures.apart;
}

sources : goal.After-law_of_licences → OfSources
sources c = record {
  one = c.law_of_compiling.ensures.one;
  licence = c.law_of_compiling.ensures.licence;
  apart = c.law_of_compiling.ensures.apart;
  well_formed = c.law_of_compiler.ensures.well_formed;
}

bundles : goal.After-law_of_licences → OfBundles
bundles c = record { one = c.law_of_licences.ensures.one; cause = c.law_of_licences.ensures.cause; apart = c.law_of_licences.ensures.apart }

laws : goal.After-law_of_licences → Laws
laws c = record { texts = texts c; sources = sources c; bundles = bundles c }

pub returns-clause-program : goal.returns-clause-program
returns-clause-program c = λ p. one_line p (of_program (laws c) p)

pub returns-clause-job : goal.returns-clause-job
returns-clause-job c = one_fate (laws c)

pub returns-clause-programs : goal.returns-clause-programs
returns-clause-programs c = all_lines (laws c)

pub returns-clause-jobs : goal.returns-clause-jobs
returns-clause-jobs c = all_fates (laws c)
