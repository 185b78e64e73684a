use Rattle.std.proofs.Common.{◌≡◌, ◌++◌, ◌+◌, ◌≤◌, length, map}
use Rattle.grail_code.specs.Code.{block_of}
use Rattle.certificate.specs.Words.{make_of}
use Rattle.lp_solution.specs.Taking.{builds_from, behind_builds}
use Rattle.lp_solution.proofs.builds.builds.Given as goal

abbrev pub invariant-blocks-2 : goal.invariant-blocks-2
invariant-blocks-2 l = record {
  few : l.number + length l.rest ≤ 256;
  value : map make_of l.lines.items ++ builds_from l.typed.types.now l.number (map block_of l.rest) l.values ≡ builds_from l.typed.types.now 0 (map block_of l.fn.blocks) l.fn.values;
  left : behind_builds l.typed.types.now (map block_of l.rest) l.values ≡ behind_builds l.typed.types.now (map block_of l.fn.blocks) l.fn.values;
}

abbrev pub decreases-blocks-2 : goal.decreases-blocks-2
decreases-blocks-2 l = length l.rest
