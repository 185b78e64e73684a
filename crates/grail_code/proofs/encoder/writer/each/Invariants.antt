use Rattle.std.proofs.Common.{◌≡◌, ◌++◌, map, take}
use Rattle.std.specs.List.{flat_map}
use Rattle.grail_code.proofs.encoder.writer.each.Given as goal

abbrev pub invariant-things : goal.invariant-things
invariant-things g l = l.out.items ≡ l.fn.out.items ++ flat_map g.T.Encode.spell (map g.T.Encode.plain (take l.thing-index l.things))
