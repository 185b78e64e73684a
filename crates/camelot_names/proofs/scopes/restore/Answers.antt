use Rattle.camelot_names.proofs.ScopeLaws.{restored, taken_out}
use Rattle.camelot_names.proofs.scopes.restore.Goals as goal

pub returns-in-Some : goal.returns-in-Some
returns-in-Some g c =
    restored c.args.words.now c.insert-now.new.self c.args.name.now c.args.hidden c.in-Some.value c.insert-now.result c.in-Some.is c.requires c.insert-now.ensures.absent c.insert-now.ensures.updates

pub returns-in-None : goal.returns-in-None
returns-in-None g c = taken_out c.args.words.now c.remove-now.new.self c.args.name.now c.args.hidden c.in-None.is c.remove-now.ensures.updates
