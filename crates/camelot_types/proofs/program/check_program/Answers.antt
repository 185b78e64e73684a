use Rattle.std.proofs.Common.{map}
use Rattle.camelot_tree.specs.Programs.{program_of}
use Rattle.camelot_typing.specs.Typed.{kinds_of}
use Rattle.camelot_types.proofs.Checking.{refused, taken_of}
use Rattle.camelot_types.proofs.program.check_program.Goals as goal

pub invariant_of-result : goal.invariant_of-result
invariant_of-result c =
    let t = taken_of (program_of c.args.program) (map kinds_of c.in-Ok.parts.funs.items) c.args.program.ints c.in-Ok.ensures.kinds in
    record { typed = ∣ t.typed ∣₁; settled = ∣ t.settled ∣₁; its_types = c.in-Ok.ensures.types_are; its_kinds = t.kinds_are }

pub returns-in-Ok-clause-typed : goal.returns-in-Ok-clause-typed
returns-in-Ok-clause-typed c = (taken_of (program_of c.args.program) (map kinds_of c.in-Ok.parts.funs.items) c.args.program.ints c.in-Ok.ensures.kinds).typed.typed

pub returns-in-Ok-clause-within : goal.returns-in-Ok-clause-within
returns-in-Ok-clause-within c = (taken_of (program_of c.args.program) (map kinds_of c.in-Ok.parts.funs.items) c.args.program.ints c.in-Ok.ensures.kinds).typed.within

pub returns-in-Ok-clause-settled : goal.returns-in-Ok-clause-settled
returns-in-Ok-clause-settled c signatures t = (taken_of (program_of c.args.program) (map kinds_of c.in-Ok.parts.funs.items) c.args.program.ints c.in-Ok.ensures.kinds).settled signatures t

pub returns-in-Ok-clause-refuses : goal.returns-in-Ok-clause-refuses
returns-in-Ok-clause-refuses c fault h = (taken_of (program_of c.args.program) (map kinds_of c.in-Ok.parts.funs.items) c.args.program.ints c.in-Ok.ensures.kinds).sound fault h

pub returns-in-Err-clause-fault : goal.returns-in-Err-clause-fault
returns-in-Err-clause-fault c = (refused (program_of c.args.program) c.in-Err.stop c.in-Err.ensures).cause

pub returns-in-Err-clause-takes : goal.returns-in-Err-clause-takes
returns-in-Err-clause-takes c signatures t l = (refused (program_of c.args.program) c.in-Err.stop c.in-Err.ensures).typed signatures t l

pub returns-in-Err-clause-refuses : goal.returns-in-Err-clause-refuses
returns-in-Err-clause-refuses c fault h = (refused (program_of c.args.program) c.in-Err.stop c.in-Err.ensures).fault fault h
