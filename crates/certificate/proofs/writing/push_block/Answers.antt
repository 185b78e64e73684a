use Rattle.std.proofs.Common.{◌∙◌, ap, map, ◌++◌}
use Rattle.std.specs.Prelude.{flat_map, codes}
use Rattle.certificate.specs.Words.{var_of, block_of}
use Rattle.certificate.specs.Writing.{var_text}
use Rattle.certificate.proofs.Written.{block_written}
use Rattle.certificate.proofs.writing.push_block.Goals as goal

pub returns : goal.returns
returns c =
    block_written (block_of c.args.block.now) c.args.out.now.items c.push_number.new.text.items c.push_number-2.new.text.items c.push.new.self.items c.push_vars.new.out.items
    c.in_ok-push_number.ensures.number c.in_ok-push_number-2.ensures.number c.in_ok-push.ensures.items (c.in_ok-push_vars.ensures ∙ ap (λ l. c.push.new.self.items ++ flat_map (var_text (codes "var")) (map var_of l)) c.deref.ensures.value)
