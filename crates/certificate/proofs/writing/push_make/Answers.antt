use Rattle.certificate.specs.Words.{make_of}
use Rattle.certificate.proofs.Written.{make_written}
use Rattle.certificate.proofs.writing.push_make.Goals as goal

pub returns : goal.returns
returns c =
    make_written (make_of c.args.make.now) c.args.out.now.items c.push_number.new.text.items c.push_number-2.new.text.items c.push_vector.new.out.items c.push.new.self.items
    c.in_ok-push_number.ensures.number c.in_ok-push_number-2.ensures.number c.in_ok-push_vector.ensures c.in_ok-push.ensures.items
