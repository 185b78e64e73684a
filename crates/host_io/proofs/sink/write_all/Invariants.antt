use Rattle.std.proofs.Common.{◌≡◌, ◌-◌, ◌≤◌, length, take}
use Rattle.host_io.specs.Sink.{Tells}
use Rattle.host_io.proofs.sink.write_all.Given as goal

abbrev pub invariant-loop-done : goal.invariant-loop-done
invariant-loop-done g l = record {
  told : Tells (g.K.Sink.told l.initial.sink) (g.K.Sink.told l.sink) (take l.done l.bytes);
  steady : g.K.Sink.faults l.sink ≡ g.K.Sink.faults l.initial.sink;
  within : l.done ≤ length l.bytes;
}

abbrev pub decreases-loop-done : goal.decreases-loop-done
decreases-loop-done g l = length l.bytes - l.done
