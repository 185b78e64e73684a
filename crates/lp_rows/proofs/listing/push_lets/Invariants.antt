use Rattle.std.proofs.Common.{◌≡◌, ◌+◌, ◌++◌, drop, map}
use Rattle.grail_code.specs.Code.{let_of}
use Rattle.lp_system.specs.Unknowns.{lets_unknowns}
use Rattle.lp_rows.specs.Plain.{plain}
use Rattle.lp_rows.proofs.listing.push_lets.Given as goal

abbrev pub invariant-lets : goal.invariant-lets
invariant-lets l = record {
  place : l.place ≡ l.binding-index + 1;
  all : map plain l.list.items ++ lets_unknowns l.reach.types.now l.func l.block l.place (map let_of (drop l.binding-index l.body.lets.items)) ≡ map plain l.initial.list.items ++ lets_unknowns l.reach.types.now l.func l.block 1 (map let_of l.body.lets.items);
}
