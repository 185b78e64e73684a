use Rattle.std.proofs.Common.{[], length, map, sym, ap, ◌∙◌}
use Rattle.std.specs.Prelude.{slice_get}
use Rattle.std.specs.Option.{option_map, option_map_or}
use Rattle.grail_code.specs.Code.{let_of}
use Rattle.certificate.specs.Words.{func_of}
use Rattle.frame_accounts.specs.Walk.{vectors_at}
use Rattle.frame_accounts.proofs.VectorLaws.{get_listed}
use Rattle.frame_accounts.proofs.vectors.carried_by.Goals as goal

pub returns-in-Some : goal.returns-in-Some
returns-in-Some c = get_listed (length c.args.vectors.now) c.args.local
    (vectors_at c.args.here.licence.now.code.types c.args.here.licence.now.cert (func_of c.args.here.own.now) c.args.here.block (map let_of c.args.front.now)) (option_map_or (λ v. v.now) c.in-Some.vector [])
    (ap (λ l. slice_get l c.args.local) (sym c.requires.told) ∙ sym c.vector_in.ensures ∙ ap (option_map (λ o. option_map_or (λ v. v.now) o [])) c.in-Some.is)
