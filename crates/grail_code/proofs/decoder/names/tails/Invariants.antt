use Rattle.std.proofs.Common.{◌≡◌, ◌+◌, ◌-◌, length, take, drop}
use Rattle.grail_code.specs.Reader.{times_at}
use Rattle.grail_code.specs.CodeReader.{tail_at}
use Rattle.grail_code.proofs.SpellingLoops.{with_front}
use Rattle.grail_code.proofs.decoder.names.tails.Given as goal

abbrev pub invariant-letters : goal.invariant-letters
invariant-letters l = record {
  left : with_front (take l.counter l.bytes) (times_at tail_at (l.count - l.counter) l.rest) ≡ times_at tail_at l.count l.bytes;
  here : l.rest ≡ drop l.counter l.bytes;
  room : l.counter + length l.rest ≡ length l.bytes;
}
