use Rattle.std.proofs.Common.{rules}
use Rattle.std.proofs.lemmas.List.Sorted.{answers_always}
use Rattle.annotations.proofs.Lookups.{found}
use Rattle.annotations.proofs.vector.Vector.search.Goals as goal

-- the closure gives a pair's constructor, and the slice is the vector's pairs
pub returns : goal.returns
returns c =
    let facts = c.binary_search_by_key.ensures in
    let by_con = facts.position (λ p. p.0) (answers_always _ _ _ (λ f a r g called. search rules)) in
    rw (← c.self.view_is, ← c.deref.ensures) (found _ (rw c.deref.ensures c.self.invariant.ascending) c.args.con _ facts.bound by_con)
