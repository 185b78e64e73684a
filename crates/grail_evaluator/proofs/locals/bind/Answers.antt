use Rattle.grail_evaluator.proofs.LocalLaws.{env_push}
use Rattle.grail_evaluator.proofs.locals.bind.Goals as goal

pub returns : goal.returns
returns c = env_push c.args.env.now.items c.push.new.self.items c.args.local c.args.value c.in_ok-push.ensures.items
