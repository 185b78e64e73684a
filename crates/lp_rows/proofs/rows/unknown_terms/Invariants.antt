use Rattle.std.proofs.Common.{◌≡◌, ◌+◌, ◌++◌, length, map}
use Rattle.lp_rows.specs.Dense.{ticks, terms_less}
use Rattle.lp_rows.specs.Plain.{plain}
use Rattle.lp_rows.proofs.rows.unknown_terms.Given as goal

abbrev pub invariant-unknowns : goal.invariant-unknowns
invariant-unknowns l = record {
  number : l.number + length l.rest ≡ length l.books.unknowns.now;
  terms : l.terms.items ++ terms_less l.number (ticks (map plain l.rest) (plain l.have)) (ticks (map plain l.rest) (plain l.need))
      ≡ terms_less 0 (ticks (map plain l.books.unknowns.now) (plain l.have)) (ticks (map plain l.books.unknowns.now) (plain l.need));
}

abbrev pub decreases-unknowns : goal.decreases-unknowns
decreases-unknowns l = length l.rest
