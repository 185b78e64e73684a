use Rattle.std.proofs.Common.{ap, ◌∙◌, map}
use Rattle.certificate.specs.Words.{func_of}
use Rattle.text_lines.specs.Cuts.{further}
use Rattle.certificate.specs.GrowingLaws.{map_end}
use Rattle.certificate.specs.Reading.{add_own}
use Rattle.certificate.proofs.FuncSteps.{last_within, last_stopped, last_read}
use Rattle.certificate.proofs.functions.extend_last.Goals as goal

pub add_own-requires : goal.add_own-requires
add_own-requires c = last_within (map func_of c.args.funcs.items) (map func_of c.pop.new.self.items) (func_of c.in-Some.last) (ap (map func_of) c.in-Some.ensures.items ∙ map_end func_of c.pop.new.self.items c.in-Some.last) c.requires

pub returns-in-Err : goal.returns-in-Err
returns-in-Err c =
    last_stopped (add_own c.args.tag.now (further c.args.rest.now)) (map func_of c.args.funcs.items) (map func_of c.pop.new.self.items) (func_of c.in-Some.last) c.in-Err.stop
    (ap (map func_of) c.in-Some.ensures.items ∙ map_end func_of c.pop.new.self.items c.in-Some.last) c.in-Err.ensures

pub returns-in-Ok-push : goal.returns-in-Ok-push
returns-in-Ok-push c =
    last_read (add_own c.args.tag.now (further c.args.rest.now)) (map func_of c.args.funcs.items) (map func_of c.push.new.self.items) (map func_of c.pop.new.self.items) (func_of c.in-Some.last) (func_of c.in-Ok.func)
    (ap (map func_of) c.in-Some.ensures.items ∙ map_end func_of c.pop.new.self.items c.in-Some.last) c.requires c.in-Ok.ensures (ap (map func_of) c.in-Ok-push.ensures.items ∙ map_end func_of c.pop.new.self.items c.in-Ok.func)
