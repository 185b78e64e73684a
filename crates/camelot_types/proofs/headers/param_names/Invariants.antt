use Rattle.std.proofs.Common.{◌≡◌, ◌++◌, drop, map}
use Rattle.camelot_types.proofs.headers.param_names.Given as goal

abbrev pub invariant-params : goal.invariant-params
invariant-params l = map (λ n. n.now) l.names.items ++ map (λ x. x.name) (drop l.param-index l.params) ≡ map (λ x. x.name) l.params
