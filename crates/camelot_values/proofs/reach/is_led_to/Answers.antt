use Rattle.std.proofs.Common.{map}
use Rattle.camelot_values.specs.Kinds.{data_type_of}
use Rattle.camelot_values.proofs.SearchLaws.{found_is, length_types}
use Rattle.camelot_values.proofs.reach.is_led_to.Goals as goal

pub returns : goal.returns
returns c =
    found_is (map data_type_of c.args.types.now) c.args.first c.args.last c.args.marks.now c.is_met.result (rw (length_types c.args.types.now) c.requires.few) c.requires.last c.requires.searched c.requires.done c.is_met.ensures
