use Rattle.std.proofs.Common.{sym, subst}
use Rattle.grail_verifier.specs.Remembered.{IsSound}
use Rattle.grail_verifier.proofs.Remembering.{nothing_sound, themselves_sound}
use Rattle.grail_verifier.proofs.memo.themselves.Goals as goal

pub returns-in-Ok : goal.returns-in-Ok
returns-in-Ok c types all = subst (IsSound types all) (sym (c.in-Ok.ensures.items_if_clones_equal (λ y h i. ((h.0.0 i, h.0.1 i), h.1 i)))) (themselves_sound types all c.args.count)

pub returns-in-Err : goal.returns-in-Err
returns-in-Err c types all = nothing_sound types all c.new.result.items c.new.ensures.items
