use Rattle.std.proofs.Common.{ap, arith, List, Option, None, length, ℕ}
use Rattle.hole_list.specs.declared.run.Run.{Run}
use Rattle.std.proofs.lemmas.List.{length-replicate}
use Rattle.lease_desk.proofs.Books.{none_yet}
use Rattle.lease_desk.proofs.book.Book.new.Goals as goal

pub invariant_of-result : goal.invariant_of-result
invariant_of-result c = record {
  few = c.requires;
  most = omega arith;
  places =
      omega (arith, ap (λ (l : List (Option Run)). length l) c.in_ok-leases.ensures, length-replicate c.len-jobs.result (let none : Option Run = None in none), c.len-jobs.ensures, c.args.sizes.ok.0);
  out = none_yet c.in_ok-leases.leases.items c.len-jobs.result c.in_ok-leases.ensures;
  waited = omega (arith, ap (λ (l : List ℕ). length l) c.in_ok-waiting.ensures.items);
  served = omega arith;
  waiting_room = omega (arith, c.in_ok-waiting.ensures.capacity, c.len-jobs.ensures);
  journal_room = omega (arith, c.in_ok-journal.ensures.capacity, c.len-jobs.ensures);
}
