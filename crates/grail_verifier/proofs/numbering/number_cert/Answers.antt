use Rattle.grail_verifier.proofs.Keeping.{first_held}
use Rattle.grail_verifier.proofs.numbering.number_cert.Goals as goal

pub returns-clause-first : goal.returns-clause-first
returns-clause-first c = first_held c.new-held.result c.add.new.self c.number_funcs.new.held c.in_ok-_first._first c.args.none.now c.new-held.ensures c.in_ok-_first.ensures.number c.in_ok-_first.ensures.held c.in_ok-funcs.ensures.keeps c.requires.none
