use Rattle.std.specs.Prelude.{◌++◌, codes, decimal}
use Rattle.licence_text.proofs.Joining.{two}
use Rattle.licence_text.proofs.writing.push_unit.Goals as goal

pub returns : goal.returns
returns c =
    two c.args.out.now.items c.push_number.new.text.items c.extend_from_slice.new.self.items (codes "accepted unit " ++ decimal c.args.unit) (codes "\n")
    c.in_ok-push_number.ensures.decimal c.in_ok-extend_from_slice.ensures.items
