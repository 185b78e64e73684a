use Rattle.std.proofs.Common.{◌≡◌, ◌≤◌, ◌-◌, ◌*◌, suc, [], length, map, take}
use Rattle.std.specs.Option.{option_map_or}
use Rattle.grail_code.specs.Code.{let_of}
use Rattle.certificate.specs.Words.{func_of, make_of}
use Rattle.frame_accounts.specs.Walk.{AreLeft, left_at, listed, vectors_at}
use Rattle.frame_accounts.proofs.account.pass_lets.Given as goal

abbrev pub invariant-lets : goal.invariant-lets
invariant-lets l = record {
  within : l.count ≤ length l.lets;
  long : length l.vectors ≡ length l.initial.vectors;
  rest : AreLeft (func_of l.here.own.now) l.here.block (suc l.count) (map make_of l.rest);
  left : l.left ≡ left_at l.here.licence.now.code.types l.here.licence.now.cert (func_of l.here.own.now) l.here.block (take l.count (map let_of l.lets));
  few : l.left ≤ suc l.count * 1099511627776;
  told : map (λ o. option_map_or (λ v. v.now) o []) l.vectors
      ≡ listed (length l.initial.vectors) (vectors_at l.here.licence.now.code.types l.here.licence.now.cert (func_of l.here.own.now) l.here.block (take l.count (map let_of l.lets)));
}

abbrev pub decreases-lets : goal.decreases-lets
decreases-lets l = length l.lets - l.count
