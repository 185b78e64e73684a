-- Bytes have one verdict, by the laws of spellings, of the walk over code and of the texts of certificates.
use Rattle.grail_verifier.proofs.OneVerdict.{Stages, one_verdict}
use Rattle.grail_verifier.proofs.laws.law_of_verdicts.Goals as goal

stages : goal.After-law_of_texts → Stages
stages c = record {
  meaning = c.one_meaning.ensures.one;
  well_or_fault = c.law_of_walk.ensures.apart;
  fault = c.law_of_walk.ensures.one;
  cert = c.law_of_texts.ensures.one;
  line = c.law_of_texts.ensures.line;
  number = c.law_of_texts.ensures.number;
  line_or_number = c.law_of_texts.ensures.apart;
  cert_or_line = c.law_of_texts.ensures.right_line;
  cert_or_number = c.law_of_texts.ensures.right_number;
}

pub returns : goal.returns
returns c = one_verdict (stages c)
