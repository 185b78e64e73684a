use Rattle.std.proofs.Common.{◌≡◌, ◌≤◌, [], length, map, drop}
use Rattle.std.specs.Option.{option_map_or}
use Rattle.certificate.specs.Words.{var_of}
use Rattle.licence.specs.Books.{vector_of}
use Rattle.frame_accounts.specs.Walk.{listed}
use Rattle.frame_accounts.proofs.vectors.put_vars.Given as goal

abbrev pub invariant-vars : goal.invariant-vars
invariant-vars l = record {
  within : l.count ≤ length l.vars;
  long : length l.vectors ≡ length l.initial.vectors;
  told : map (λ o. option_map_or (λ v. v.now) o []) l.vectors ≡ listed (length l.initial.vectors) (vector_of (drop l.count (map var_of l.vars)));
}

abbrev pub decreases-vars : goal.decreases-vars
decreases-vars l = l.count
