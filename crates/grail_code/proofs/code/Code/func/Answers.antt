use Rattle.grail_code.proofs.NamedFuncs.{first_at, none_at}
use Rattle.grail_code.proofs.code.Code.func.Goals as goal

pub returns-in-Some-clause-found : goal.returns-in-Some-clause-found
returns-in-Some-clause-found c = first_at c.args.self.now.types c.args.self.now.funcs.items c.args.name.now c.in-Some.place c.in-Some.ensures

pub returns-in-None-clause-none : goal.returns-in-None-clause-none
returns-in-None-clause-none c = none_at c.args.self.now.types c.args.self.now.funcs.items c.args.name.now c.in-None.ensures
