use Rattle.std.proofs.Common.{sym, ◌∙◌, arith}
use Rattle.linear_use.proofs.FunctionLaws.{params_over}
use Rattle.linear_use.proofs.functions.bind_params.Goals as goal

pub loop-number-init : goal.loop-number-init
loop-number-init c =
    let least = c.min-number.ensures in
    record {
      scope = c.new-scope.ensures ∙ sym (params_over c.args.types.now c.min-number.result c.args.params.now c.args.kinds.now least);
      params = omega (arith, least);
      kinds = omega (arith, least);
    }
