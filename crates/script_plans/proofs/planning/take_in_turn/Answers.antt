use Rattle.std.proofs.Common.{◌<◌, ◌≤◌, length, map, refl, ap, ◌+◌, rules}
use Rattle.job_script.specs.Scripts.{EntryIsWithin}
use Rattle.job_script.specs.Text.{EntryIsShort}
use Rattle.script_plans.specs.Rows.{row_of}
use Rattle.script_plans.specs.Turns.{planning_of}
use Rattle.script_plans.proofs.AllWanted.{turn_first, turn_can, turn_rest, turn_more, turn_end}
use Rattle.script_plans.proofs.planning.take_in_turn.Goals as goal

pub entries-init : goal.entries-init
entries-init c = record {
  going =
      turn_first c.args.arena c.args.entries.now (map row_of c.args.rows.now) c.new.result c.reserve.new.self c.args.licences.items c.in_ok-with_capacity.field-0.items c.in_ok-with_capacity-2.field-0.items c.requires.rows c.new.ensures
      c.reserve.ensures c.in_ok-with_capacity.ensures.items c.in_ok-with_capacity-2.ensures.items;
  short = c.requires.short;
  within = c.requires.within;
  place = refl;
}

pub take_entry-requires-clause-can : goal.take_entry-requires-clause-can
take_entry-requires-clause-can c =
    let here : c.entries.entry-index < length c.args.entries.now = search rules in
    turn_can c.args.entries.now (map row_of c.args.rows.now) c.entries.entry-index _ c.licences.result.now c.entries.taken.jobs.licences c.in_ok-wanted.wanted here c.entries.invariant.within c.licences.ensures c.in_ok-wanted.ensures

pub entries-preserved : goal.entries-preserved
entries-preserved c =
    let here : c.entries.entry-index < length c.args.entries.now = search rules in
    record {
      going =
          turn_more c.args.arena c.args.entries.now (map row_of c.args.rows.now) c.entries.place c.entries.entry-index _ (planning_of c.entries.taken) (planning_of c.take_entry.new.taken) c.licences.result.now c.in_ok-wanted.wanted
          c.requires.programs here c.entries.invariant.going c.licences.ensures c.in_ok-wanted.ensures c.in_ok-take_entry.ensures;
      short = turn_rest (EntryIsShort 4294967295) c.args.entries.now c.entries.entry-index c.entries.invariant.short;
      within = turn_rest EntryIsWithin c.args.entries.now c.entries.entry-index c.entries.invariant.within;
      place = ap (λ n. n + 1) c.entries.invariant.place;
    }

pub returns : goal.returns
returns c =
    let all : length c.args.entries.now ≤ c.entries.entry-index = search rules in
    turn_end c.args.arena c.args.entries.now (map row_of c.args.rows.now) c.entries.place c.entries.entry-index (planning_of c.entries.taken) all c.entries.invariant.going
