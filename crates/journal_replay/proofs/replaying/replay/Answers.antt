use Rattle.std.proofs.Common.{Some, ap, ◌∙◌}
use Rattle.std.specs.Option.{option_map}
use Rattle.lease_desk.specs.Journal.{after_events}
use Rattle.journal_replay.specs.States.{state_of}
use Rattle.journal_replay.proofs.Moving.{replays, stops}
use Rattle.journal_replay.proofs.replaying.replay.Goals as goal

pub events-init : goal.events-init
events-init c = ap (λ s. after_events c.args.sizes.now (Some s) c.args.journal.now) c.in_ok-state.ensures ∙ replays c.args.arena c.args.sizes.now c.args.journal.now

pub returns-in-None : goal.returns-in-None
returns-in-None c =
    stops c.args.arena c.args.sizes.now (state_of c.events.state) c.events.rest.now c.args.journal.now _ (option_map state_of c.in_ok-next.field-0) c.in-len1-up.len_at_least c.in_ok-next.ensures (ap (option_map state_of) c.in-None.is) c.events.invariant
