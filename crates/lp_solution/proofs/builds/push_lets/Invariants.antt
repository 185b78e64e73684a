use Rattle.std.proofs.Common.{◌≡◌, ◌++◌, ◌+◌, ◌≤◌, length, map}
use Rattle.grail_blocks.specs.Blocks.{let_of}
use Rattle.certificate.specs.Words.{make_of}
use Rattle.lp_solution.specs.Taking.{lets_from, behind_lets}
use Rattle.lp_solution.proofs.builds.push_lets.Given as goal

abbrev pub invariant-lets : goal.invariant-lets
invariant-lets l = record {
  few : l.place + length l.rest ≤ 257;
  value : map make_of l.lines.items ++ lets_from l.typed.types.now l.block l.place (map let_of l.rest) l.values ≡ map make_of l.fn.lines.items
      ++ lets_from l.typed.types.now l.block 1 (map let_of l.fn.lets) l.fn.values;
  left : behind_lets l.typed.types.now (map let_of l.rest) l.values ≡ behind_lets l.typed.types.now (map let_of l.fn.lets) l.fn.values;
}

abbrev pub decreases-lets : goal.decreases-lets
decreases-lets l = length l.rest
