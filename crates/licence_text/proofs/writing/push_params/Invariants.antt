use Rattle.std.proofs.Common.{◌≡◌, ◌++◌, drop, map}
use Rattle.std.specs.Prelude.{flat_map}
use Rattle.certificate.specs.Words.{var_of}
use Rattle.licence_text.specs.Texts.{param_text}
use Rattle.licence_text.proofs.writing.push_params.Given as goal

abbrev pub invariant-params : goal.invariant-params
invariant-params l = l.out.items ++ flat_map (param_text l.types) (map var_of (drop l.param-index l.params)) ≡ l.initial.out.items ++ flat_map (param_text l.types) (map var_of l.params)
