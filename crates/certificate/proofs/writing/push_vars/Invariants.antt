use Rattle.std.proofs.Common.{◌≡◌, ◌++◌, drop, map}
use Rattle.std.specs.Prelude.{flat_map}
use Rattle.certificate.specs.Words.{var_of}
use Rattle.certificate.specs.Writing.{var_text}
use Rattle.certificate.proofs.writing.push_vars.Given as goal

abbrev pub invariant-vars : goal.invariant-vars
invariant-vars l = l.out.items ++ flat_map (var_text l.tag) (map var_of (drop l.var-index l.vars)) ≡ l.initial.out.items ++ flat_map (var_text l.tag) (map var_of l.vars)
