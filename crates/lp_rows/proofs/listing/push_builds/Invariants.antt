use Rattle.std.proofs.Common.{◌≡◌, ◌++◌, drop, map}
use Rattle.grail_code.specs.Code.{block_of}
use Rattle.lp_system.specs.Unknowns.{builds_unknowns}
use Rattle.lp_rows.specs.Plain.{plain}
use Rattle.lp_rows.proofs.listing.push_builds.Given as goal

abbrev pub invariant-walk : goal.invariant-walk
invariant-walk l = record {
  number : l.number ≡ l.block-index;
  all : map plain l.list.items ++ builds_unknowns l.reach.types.now l.func l.number (map block_of (drop l.block-index l.body.blocks.items)) ≡ map plain l.initial.list.items ++ builds_unknowns l.reach.types.now l.func 0 (map block_of l.body.blocks.items);
}
