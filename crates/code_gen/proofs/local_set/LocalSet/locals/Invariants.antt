use Rattle.std.proofs.Common.{◌≡◌, ◌≤◌, ◌<◌, ◌-◌, true}
use Rattle.std.specs.List.{filter, range_with_len}
use Rattle.code_gen.specs.Marked.{has}
use Rattle.code_gen.proofs.local_set.LocalSet.locals.Given as goal

abbrev pub invariant-loop-next : goal.invariant-loop-next
invariant-loop-next l = record {
  listed : l.locals.items ≡ filter (has l.self) (range_with_len 0 l.next);
  until : l.next ≤ l.end;
  passing : l.next < l.end → has l.self l.next ≡ true;
}

abbrev pub decreases-loop-next : goal.decreases-loop-next
decreases-loop-next l = l.end - l.next
