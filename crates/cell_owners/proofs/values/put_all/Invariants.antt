use Rattle.std.proofs.Common.{◌≡◌, ◌≤◌, ◌+◌, ◌*◌, length}
use Rattle.cell_owners.specs.Looks.{put_all}
use Rattle.cell_owners.specs.Values.{vector_of}
use Rattle.cell_owners.proofs.values.put_all.Given as goal

abbrev pub invariant-parts : goal.invariant-parts
invariant-parts l =
    record {
      same : put_all l.types (vector_of l.vector) l.kinds_left l.words_left l.due.items l.total
          ≡ put_all l.types (vector_of l.vector) l.kinds l.words l.initial.due.items l.units;
      few : l.total + 18446744073709551616 * length l.kinds_left ≤ 18446744073709551616 * 5;
    }

abbrev pub decreases-parts : goal.decreases-parts
decreases-parts l = length l.kinds_left
