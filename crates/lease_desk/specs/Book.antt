-- Private: words for functions of this crate.
-- The book of a desk: the jobs' sizes, who was asked, who waits, who has a lease, and the journal.
use Rattle.std.specs.Prelude.{◌≡◌, ◌*◌, ◌≤◌, length, drop, vec_capacity}
use Rattle.lease_desk.specs.Journal.{leased}
use Rattle.lease_desk.specs.BookView.{BookView}
use Rattle.lease_desk.specs.declared.book.Book.TheInside.{Inside}

-- the book as a caller sees it
abbrev pub book_of : Inside → BookView
book_of b = record { sizes = b.sizes.items; asked = b.asked; waiting = drop b.served b.waiting.items; leases = b.leases.items; journal = b.journal.items }

-- what it keeps: a place for each job, and room for all that may yet be written
pub record IsBook (b : Inside) : Type 0 where
  pub few : length b.sizes.items ≤ 4096
  pub most : b.asked ≤ length b.sizes.items
  pub places : length b.leases.items ≡ length b.sizes.items
  pub out : b.out ≡ length (leased b.leases.items)
  pub waited : length b.waiting.items ≤ b.asked
  pub served : b.served ≤ length b.waiting.items
  pub waiting_room : length b.sizes.items ≤ vec_capacity b.waiting
  pub journal_room : 3 * length b.sizes.items ≤ vec_capacity b.journal
