use Rattle.std.proofs.Common.{arith}
use Rattle.job_script.specs.Made.{counted, made_name}
use Rattle.job_script.proofs.Counted.{next_counted}
use Rattle.job_script.proofs.making.make_names.Goals as goal

pub names-preserved : goal.names-preserved
names-preserved c = record {
  made =
      next_counted made_name c.names.left c.names.number c.names.names.items c.push.new.self.items c.in_ok-job_name.field-0 (counted made_name c.args.count 1) (omega (arith, c.names-test.true)) c.names.invariant.made
      c.in_ok-job_name.ensures c.in_ok-push.ensures.items;
  few = omega (arith, c.names.invariant.few, c.names-test.true);
}
