use Rattle.std.proofs.Common.{ap, ◌∙◌, arith}
use Rattle.std.proofs.lemmas.List.{length-set}
use Rattle.lease_desk.specs.BookView.{BookView}
use Rattle.lease_desk.proofs.Books.{one_comes}
use Rattle.lease_desk.proofs.book.Book.give.Goals as goal

pub overflow_sub-self : goal.overflow_sub-self
overflow_sub-self c =
    (one_comes c.self.inside.leases.items c.args.self.now.leases c.args.job c.self.inside.out (record { first = c.args.first; size = c.args.size }) (ap (λ (b : BookView). b.leases) c.self.view_is) c.requires.out c.self.invariant.out).0

pub invariant_of-self : goal.invariant_of-self
invariant_of-self c =
    let k = one_comes c.self.inside.leases.items c.args.self.now.leases c.args.job c.self.inside.out (record { first = c.args.first; size = c.args.size }) (ap (λ (b : BookView). b.leases) c.self.view_is) c.requires.out c.self.invariant.out in
    record {
      few = c.self.invariant.few;
      most = c.self.invariant.most;
      places = length-set c.self.inside.leases.items c.args.job _ ∙ c.self.invariant.places;
      out = omega (arith, k.1);
      waited = c.self.invariant.waited;
      served = c.self.invariant.served;
      waiting_room = c.self.invariant.waiting_room;
      journal_room = omega (arith, c.self.invariant.journal_room, c.record.ensures.capacity);
    }
