use Rattle.std.proofs.Common.{Some, None, sym, ◌∙◌}
use Rattle.frame_accounts.proofs.TableLaws.{heap_told}
use Rattle.frame_accounts.proofs.vectors.is_heap_con.Goals as goal

pub returns-in-Some : goal.returns-in-Some
returns-in-Some c = heap_told c.args.here.licence.now.code.types c.args.here.heaps.now c.args.con (Some c.in-Some.heap) c.args.here.told (sym c.heap_in.ensures ∙ c.in-Some.is)

pub returns-in-None : goal.returns-in-None
returns-in-None c = heap_told c.args.here.licence.now.code.types c.args.here.heaps.now c.args.con None c.args.here.told (sym c.heap_in.ensures ∙ c.in-None.is)
