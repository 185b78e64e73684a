use Rattle.std.proofs.Common.{◌∙◌, ap, map, ◌++◌}
use Rattle.std.specs.Prelude.{flat_map, codes}
use Rattle.certificate.specs.Words.{var_of, block_of, make_of, func_of}
use Rattle.certificate.specs.Writing.{var_text, block_text, make_text}
use Rattle.certificate.proofs.Written.{func_written}
use Rattle.certificate.proofs.writing.push_func.Goals as goal

pub returns : goal.returns
returns c =
    func_written (func_of c.args.func.now) c.args.out.now.items c.push_function.new.out.items c.push_vars.new.out.items c.push_result.new.out.items c.push_blocks.new.out.items c.push_makes.new.out.items
    c.in_ok-push_function.ensures (c.in_ok-push_vars.ensures ∙ ap (λ l. c.push_function.new.out.items ++ flat_map (var_text (codes "param")) (map var_of l)) c.deref.ensures.value) c.in_ok-push_result.ensures
    (c.in_ok-push_blocks.ensures ∙ ap (λ l. c.push_result.new.out.items ++ flat_map block_text (map block_of l)) c.deref-2.ensures.value) (c.in_ok-push_makes.ensures ∙ ap (λ l. c.push_blocks.new.out.items ++ flat_map make_text (map make_of l)) c.deref-3.ensures.value)
