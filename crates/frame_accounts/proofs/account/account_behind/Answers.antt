use Rattle.std.proofs.Common.{[], map, None, refl, ap, arith}
use Rattle.std.specs.Option.{option_map_or}
use Rattle.certificate.specs.Words.{func_of, make_of}
use Rattle.frame_accounts.specs.Tables.{Row}
use Rattle.frame_accounts.proofs.LineLaws.{few_need, left_at_first}
use Rattle.frame_accounts.proofs.VectorLaws.{none_listed}
use Rattle.frame_accounts.proofs.account.account_behind.Goals as goal

pub put_vars-requires : goal.put_vars-requires
put_vars-requires c = none_listed c.args.vectors.now (λ o. option_map_or (λ v. v.now) o []) None refl c.requires.none

pub pass_lets-requires-clause-makes : goal.pass_lets-requires-clause-makes
pass_lets-requires-clause-makes c =
    left_at_first (func_of c.args.own.now) c.args.block c.args.row.make (map make_of c.makes_at.result.now) c.requires.formed.makes (ap (λ (r : Row). r.make) c.requires.row) c.makes_at.ensures

pub pass_lets-requires-clause-little : goal.pass_lets-requires-clause-little
pass_lets-requires-clause-little c = omega (arith, c.need_at-need.ensures, few_need (func_of c.args.own.now) c.args.block c.requires.within)
