use Rattle.std.proofs.Common.{ap, ◌∙◌, arith}
use Rattle.std.proofs.lemmas.List.{length-set}
use Rattle.lease_desk.specs.BookView.{BookView}
use Rattle.lease_desk.proofs.Books.{one_goes, one_less}
use Rattle.lease_desk.proofs.book.Book.take.Goals as goal

pub overflow_add-self : goal.overflow_add-self
overflow_add-self c =
    let k = one_less c.self.inside.leases.items c.args.self.now.leases c.args.job c.self.inside.out (ap (λ (b : BookView). b.leases) c.self.view_is) c.requires.free c.self.invariant.out in
    omega (arith, k, c.self.invariant.few, c.self.invariant.places)

pub invariant_of-self : goal.invariant_of-self
invariant_of-self c = record {
  few = c.self.invariant.few;
  most = c.self.invariant.most;
  places = length-set c.self.inside.leases.items c.args.job _ ∙ c.self.invariant.places;
  out = one_goes c.self.inside.leases.items c.args.self.now.leases c.args.job c.self.inside.out (record { first = c.args.first; size = c.args.size }) (ap (λ (b : BookView). b.leases) c.self.view_is) c.requires.free c.self.invariant.out;
  waited = c.self.invariant.waited;
  served = c.self.invariant.served;
  waiting_room = c.self.invariant.waiting_room;
  journal_room = omega (arith, c.self.invariant.journal_room, c.record.ensures.capacity);
}
