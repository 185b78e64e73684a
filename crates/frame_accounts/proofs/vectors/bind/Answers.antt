use Rattle.std.proofs.Common.{[], length, map, Some, refl, sym, ap, ◌∙◌}
use Rattle.std.specs.Option.{option_map, option_map_or}
use Rattle.grail_code.specs.Code.{let_of}
use Rattle.certificate.specs.Words.{func_of}
use Rattle.frame_accounts.specs.Walk.{Local, Told, source_of}
use Rattle.frame_accounts.proofs.VectorLaws.{bound_from, bound_nothing, lets_long}
use Rattle.frame_accounts.proofs.vectors.bind.Goals as goal

pub returns-in-Some-Local-clause-told : goal.returns-in-Some-Local-clause-told
returns-in-Some-Local-clause-told c =
    bound_from c.args.here.licence.now.code.types c.args.here.licence.now.cert (func_of c.args.here.own.now) c.args.here.block (length c.args.vectors.now) (length c.args.front.now) (map let_of c.args.front.now) (let_of c.args.each.now)
    (option_map_or (λ v. v.now) c.args.made []) (Local c.in-Some-Local.other) (option_map_or (λ v. v.now) c.carried_by-vector.result []) (map (λ o. option_map_or (λ v. v.now) o []) c.args.vectors.now) (map (λ o. option_map_or (λ v. v.now) o []) c.put.new.vectors)
    (lets_long c.args.front.now) c.requires.made (sym c.source_in.ensures ∙ ap (option_map source_of) c.in-Some-Local.is ∙ ap (λ f. Some (source_of f)) c.in-Some-Local.field-0-is) c.carried_by-vector.ensures c.requires.told c.put.ensures.told

pub returns-in-Some-Told-clause-told : goal.returns-in-Some-Told-clause-told
returns-in-Some-Told-clause-told c =
    bound_from c.args.here.licence.now.code.types c.args.here.licence.now.cert (func_of c.args.here.own.now) c.args.here.block (length c.args.vectors.now) (length c.args.front.now) (map let_of c.args.front.now) (let_of c.args.each.now)
    (option_map_or (λ v. v.now) c.args.made []) (Told (option_map_or (λ v. v.now) c.in-Some-Told.vector [])) (option_map_or (λ v. v.now) c.in-Some-Told.vector []) (map (λ o. option_map_or (λ v. v.now) o []) c.args.vectors.now) (map (λ o. option_map_or (λ v. v.now) o []) c.put-in-Some-Told.new.vectors)
    (lets_long c.args.front.now) c.requires.made (sym c.source_in.ensures ∙ ap (option_map source_of) c.in-Some-Told.is ∙ ap (λ f. Some (source_of f)) c.in-Some-Told.field-0-is) refl c.requires.told c.put-in-Some-Told.ensures.told

pub returns-in-None-clause-told : goal.returns-in-None-clause-told
returns-in-None-clause-told c =
    bound_nothing c.args.here.licence.now.code.types c.args.here.licence.now.cert (func_of c.args.here.own.now) c.args.here.block (length c.args.vectors.now) (length c.args.front.now) (map let_of c.args.front.now) (let_of c.args.each.now)
    (option_map_or (λ v. v.now) c.args.made []) (map (λ o. option_map_or (λ v. v.now) o []) c.args.vectors.now)
    (lets_long c.args.front.now) c.requires.made (sym c.source_in.ensures ∙ ap (option_map source_of) c.in-None.is) c.requires.told
