use Rattle.std.proofs.Common.{◌≡◌, ◌≤◌, length, map, take}
use Rattle.grail_code.specs.Code.{let_of}
use Rattle.certificate.specs.Words.{func_of}
use Rattle.frame_accounts.specs.Walk.{vectors_at}
use Rattle.frame_accounts.proofs.vectors.traced.Given as goal

abbrev pub invariant-lets : goal.invariant-lets
invariant-lets l = record {
  within : l.count ≤ length l.front;
  same : vectors_at l.here.licence.now.code.types l.here.licence.now.cert (func_of l.here.own.now) l.here.block (take l.count (map let_of l.front)) l.sought
      ≡ vectors_at l.here.licence.now.code.types l.here.licence.now.cert (func_of l.here.own.now) l.here.block (map let_of l.front) l.local;
}

abbrev pub decreases-lets : goal.decreases-lets
decreases-lets l = l.count
