use Rattle.std.proofs.Common.{[]}
use Rattle.std.specs.Option.{option_map_or}
use Rattle.std.proofs.lemmas.List.{map-set}
use Rattle.frame_accounts.proofs.vectors.put.Goals as goal

pub returns-then-place-vectors-clause-told : goal.returns-then-place-vectors-clause-told
returns-then-place-vectors-clause-told c = map-set (λ o. option_map_or (λ v. v.now) o []) c.args.vectors.now c.args.local c.args.vector
