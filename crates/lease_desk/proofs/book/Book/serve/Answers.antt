use Rattle.std.proofs.Common.{sym}
use Rattle.std.proofs.lemmas.List.{drop-drop}
use Rattle.lease_desk.proofs.book.Book.serve.Goals as goal

-- src/book.rt:143:9
pub returns : goal.returns
returns c =
    rw (← c.self.view_is)
    (λ i. record {
      sizes = c.self.inside.sizes.items;
      asked = c.self.inside.asked;
      waiting = sym (drop-drop 1 c.self.inside.served c.self.inside.waiting.items) i;
      leases = c.self.inside.leases.items;
      journal = c.self.inside.journal.items;
    })
