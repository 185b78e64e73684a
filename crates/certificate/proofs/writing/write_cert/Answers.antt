use Rattle.std.proofs.Common.{◌∙◌, ap, ◌++◌}
use Rattle.std.specs.Prelude.{flat_map, codes}
use Rattle.text_lines.specs.Numbers.{number}
use Rattle.certificate.specs.Writing.{func_text}
use Rattle.certificate.proofs.Written.{cert_written}
use Rattle.certificate.proofs.writing.write_cert.Goals as goal

pub returns : goal.returns
returns c =
    cert_written c.args.cert.now c.new-out.result.items c.push_number.new.text.items c.push.new.self.items c.push_funcs.new.out.items c.extend_from_slice.new.self.items c.new-out.ensures.items
    (c.in_ok-push_number.ensures.number ∙ ap (λ n. c.new-out.result.items ++ (codes "grail certificate 1\nunit " ++ number n)) c.unit.ensures) c.in_ok-push.ensures.items
    (c.in_ok-push_funcs.ensures ∙ ap (λ l. c.push.new.self.items ++ flat_map func_text l) c.funcs.ensures) c.in_ok-extend_from_slice.ensures.items
