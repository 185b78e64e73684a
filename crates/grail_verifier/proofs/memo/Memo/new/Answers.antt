use Rattle.grail_verifier.proofs.Remembering.{nothing_sound, parts_sound}
use Rattle.grail_verifier.proofs.memo.Memo.new.Goals as goal

pub returns : goal.returns
returns c types all = parts_sound types all c.themselves.result.items c.new.result.keys (c.themselves.ensures types all) (nothing_sound types all c.new.result.keys c.new.ensures.empty)
