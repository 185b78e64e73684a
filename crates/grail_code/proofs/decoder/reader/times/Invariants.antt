use Rattle.std.proofs.Common.{◌≡◌, ◌-◌, map, vec_len}
use Rattle.grail_code.specs.Reader.{times_at}
use Rattle.grail_code.specs.CodeReader.{format_of}
use Rattle.grail_code.proofs.SpellingLoops.{with_front}
use Rattle.grail_code.proofs.decoder.reader.times.Given as goal

abbrev pub invariant-things : goal.invariant-things
invariant-things g l = record {
  left : with_front (map g.T.Decode.plain l.found.items) (times_at (g.T.Decode.read_at (format_of l.version)) (l.count - l.counter) l.rest) ≡ times_at (g.T.Decode.read_at (format_of l.version)) l.count l.bytes;
  many : vec_len l.found ≡ l.counter;
}
