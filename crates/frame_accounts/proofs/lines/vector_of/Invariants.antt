use Rattle.std.proofs.Common.{◌≡◌, map, drop}
use Rattle.certificate.specs.Words.{var_of}
use Rattle.licence.specs.Books.{vector_of}
use Rattle.frame_accounts.proofs.lines.vector_of.Given as goal

abbrev pub invariant-vars : goal.invariant-vars
invariant-vars l = vector_of (map var_of (drop l.entry-index l.vars)) l.local ≡ vector_of (map var_of l.vars) l.local
