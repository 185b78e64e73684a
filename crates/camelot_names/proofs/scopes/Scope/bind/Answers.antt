use Rattle.std.proofs.lemmas.Map.Text.{btree_map_updates_str}
use Rattle.camelot_names.proofs.ScopeLaws.{kept_bind}
use Rattle.camelot_names.proofs.scopes.Scope.bind.Goals as goal

pub invariant_of-self-2 : goal.invariant_of-self-2
invariant_of-self-2 g c =
    kept_bind c.self.inside.words c.insert.new.self _ _ _ (record { name = c.args.name; value = c.args.value; hidden = c.in_ok-hidden.hidden }) _ _ c.self.invariant c.push.ensures.items c.unwrap.ensures c.reserve.ensures.items c.in_ok-hidden.ensures.old
    (btree_map_updates_str c.args.name.now c.self.inside.words c.insert.new.self _ c.in_ok-hidden.ensures.updates)
