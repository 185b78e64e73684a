-- Laws, for the proofs of this crate and of those above it.
-- Solutions and certificates are the same, and so are the least of them.
use Rattle.std.proofs.Common.{◌≡◌, ℕ, zero, suc, ◌*◌, ◌≤◌, true, false, pos, ◌*ℤ◌, List, length, map, IsTrue, refl, sym, ap, ◌∙◌, subst, arith}
use Rattle.std.specs.Prelude.{◌≤ℤ◌, All}
use Rattle.std.proofs.lemmas.Int.{ints}
use Rattle.std.proofs.lemmas.List.{length-map}
use Rattle.dual_simplex.specs.Feasible.{IsMet, IsFeasible, cost_at, IsLeast}
use Rattle.grail_code.specs.Code.{Code}
use Rattle.camelot_values.specs.Lists.{is_among}
use Rattle.grail_code.specs.WellFormed.{is_lent, IsWellFormed}
use Rattle.certificate.specs.Certificates.{Cert}
use Rattle.licence.specs.Books.{book_of}
use Rattle.licence.specs.Rules.{account_at, LentAreFree, Pays}
use Rattle.licence.specs.CheckLaws.{pays_by_checks}
use Rattle.licence.specs.Fitting.{Fits, Grants}
use Rattle.lp_system.specs.Unknowns.{Unknown, Need, Back, Param, Result, BlockNeed, BlockVar, Made, local_carriers, unknowns_of}
use Rattle.lp_system.specs.Forms.{rows_of, system_of}
use Rattle.lp_system.specs.Found.{Assignment, value_in, IsZeroOff, book_by, certificate_by, certificate_of, amount, values_of, funcs_cost, cost_in_units, IsLeastCertificate}
use Rattle.lp_system.specs.theory.Lent.{some_owned}
use Rattle.lp_system.specs.theory.Listing.{StandsIn}
use Rattle.lp_system.specs.theory.Certified as certified
use Rattle.lp_system.specs.theory.Certified.{the_func}
use Rattle.lp_system.specs.theory.Values.{values_in, value_off}
use Rattle.lp_system.specs.theory.Rows.{rows_met}
use Rattle.lp_system.specs.theory.Costs.{costs_of}
use Rattle.lp_system.specs.theory.Distinct.{unknowns_distinct}

-- ---- the parts of a system

system_unknowns : (p : Code) → (system_of p).unknowns ≡ length (unknowns_of p)
unfolding system_of
system_unknowns p = refl

system_rows : (p : Code) → (system_of p).rows ≡ rows_of p
unfolding system_of
system_rows p = refl

-- a book that is made of values says them
amount_by : (unit : ℕ) (value : Assignment) (u : Unknown) → amount (book_by unit value) u ≡ value u
amount_by unit value (Need func) = refl
amount_by unit value (Back func) = refl
amount_by unit value (Param func x con) = refl
amount_by unit value (Result func con) = refl
amount_by unit value (BlockNeed func block) = refl
amount_by unit value (BlockVar func block x con) = refl
amount_by unit value (Made func block place con) = refl

-- ---- books and points

-- values of no other unknowns have what is lent carry nothing
pub zero_free : (p : Code) (unit : ℕ) (value : Assignment) → IsZeroOff (unknowns_of p) value → LentAreFree p (book_by unit value)
zero_free p unit value off func number f is x lent con = by_block number
  where
    never : IsTrue (is_among (local_carriers p.types f x) con) → ⊥
    never m = let own : is_lent p.types f x ≡ false = some_owned p.types f x con m in let c : true ≡ false = sym lent ∙ own in absurd cc

    by_block : (n : ℕ) → (account_at (book_by unit value) func n).carried x con ≡ 0
    by_block zero = certified.off p value (Param func x con) off (λ s. never (the_func p func f (λ g. StandsIn p.types g (Param func x con)) is s).1)
    by_block (suc n) = certified.off p value (BlockVar func (suc n) x con) off (λ s. never (the_func p func f (λ g. StandsIn p.types g (BlockVar func (suc n) x con)) is s).3)

-- A point that has these values is a solution exactly where their book pays.
pub feasible_pays : (p : Code) (unit : ℕ) (value : Assignment) → IsWellFormed p → IsZeroOff (unknowns_of p) value
    → IsFeasible (system_of p) unit (map value (unknowns_of p)) → Pays p (book_by unit value)
feasible_pays p unit value w off h =
    (pays_by_checks p (book_by unit value)).1 (h.unit_positive, zero_free p unit value off, (rows_met p unit value (unknowns_distinct p w) off).0 (subst (λ rows. All (IsMet unit (map value (unknowns_of p))) rows) (system_rows p) h.rows))

pub pays_feasible : (p : Code) (unit : ℕ) (value : Assignment) → IsWellFormed p → IsZeroOff (unknowns_of p) value → Pays p (book_by unit value)
    → IsFeasible (system_of p) unit (map value (unknowns_of p))
pays_feasible p unit value w off h = record {
  unit_positive = h.some;
  numbers = length-map (unknowns_of p) value ∙ sym (system_unknowns p);
  rows = subst (λ rows. All (IsMet unit (map value (unknowns_of p))) rows) (sym (system_rows p))
      ((rows_met p unit value (unknowns_distinct p w) off).1 ((pays_by_checks p (book_by unit value)).0 h).2);
}

-- what the point with these values costs
cost_by : (p : Code) (unit : ℕ) (value : Assignment) → IsZeroOff (unknowns_of p) value
    → cost_at (system_of p) (map value (unknowns_of p)) ≡ pos (funcs_cost p.types (book_by unit value) 0 p.funcs)
cost_by p unit value off = ap (λ v. cost_at (system_of p) (map v (unknowns_of p))) (λ i u. sym (amount_by unit value u) i) ∙ costs_of p (book_by unit value) (zero_free p unit value off)

-- the values of a solution, unknown by unknown
values_again : (p : Code) (unit : ℕ) (values : List ℕ) → IsWellFormed p → IsFeasible (system_of p) unit values
    → map (value_in (unknowns_of p) values) (unknowns_of p) ≡ values
values_again p unit values w h = values_in (unknowns_of p) values (unknowns_distinct p w) (sym (system_unknowns p) ∙ sym h.numbers)

made_unit : (p : Code) (unit : ℕ) (value : Assignment) → (certificate_by p unit value).unit ≡ unit
unfolding certificate_by
made_unit p unit value = refl

cost_is : (p : Code) (c : Cert) → cost_in_units p c ≡ funcs_cost p.types (book_of c) 0 p.funcs
unfolding cost_in_units
cost_is p c = refl

-- ---- certificates

-- where a certificate that is made of values says just them and fits, and where no fitting certificate says anything of
-- other unknowns
module _ (p : Code) (w : IsWellFormed p) (says : (unit : ℕ) (value : Assignment) → IsZeroOff (unknowns_of p) value → book_of (certificate_by p unit value) ≡ book_by unit value)
    (fits : (unit : ℕ) (value : Assignment) → Fits p (certificate_by p unit value)) (off : (c : Cert) → Fits p c → IsZeroOff (unknowns_of p) (amount (book_of c))) where
  values_say : (unit : ℕ) (values : List ℕ) → book_of (certificate_of p unit values) ≡ book_by unit (value_in (unknowns_of p) values)
  values_say unit values = says unit (value_in (unknowns_of p) values) (value_off (unknowns_of p) values)

  pub solution_grants : (unit : ℕ) (values : List ℕ) → IsFeasible (system_of p) unit values → Grants p (certificate_of p unit values)
  solution_grants unit values h = record {
    fits = fits unit (value_in (unknowns_of p) values);
    pays = subst (Pays p) (sym (values_say unit values))
        (feasible_pays p unit (value_in (unknowns_of p) values) w (value_off (unknowns_of p) values) (subst (λ point. IsFeasible (system_of p) unit point) (sym (values_again p unit values w h)) h));
  }

  pub certificate_solves : (c : Cert) → Grants p c → IsFeasible (system_of p) c.unit (values_of p c)
  certificate_solves c g = pays_feasible p c.unit (amount (book_of c)) w (off c g.fits) g.pays

  -- what a solution's certificate costs
  solution_cost : (unit : ℕ) (values : List ℕ) → IsFeasible (system_of p) unit values
      → cost_at (system_of p) values ≡ pos (cost_in_units p (certificate_of p unit values))
  solution_cost unit values h =
      ap (λ point. cost_at (system_of p) point) (sym (values_again p unit values w h)) ∙ cost_by p unit (value_in (unknowns_of p) values) (value_off (unknowns_of p) values)
      ∙ ap (λ book. pos (funcs_cost p.types book 0 p.funcs)) (sym (values_say unit values)) ∙ ap pos (sym (cost_is p (certificate_of p unit values)))

  certificate_cost : (c : Cert) → Grants p c → cost_at (system_of p) (values_of p c) ≡ pos (cost_in_units p c)
  certificate_cost c g = costs_of p (book_of c) g.pays.lent ∙ ap pos (sym (cost_is p c))

  pub least_is_least : (unit : ℕ) (values : List ℕ) → IsLeast (system_of p) unit values → IsLeastCertificate p (certificate_of p unit values)
  least_is_least unit values h = record {
    grants = solution_grants unit values h.feasible;
    least = λ other g.
        let k = h.least other.unit (values_of p other) (certificate_solves other g) in
        let l = subst (λ z. (z *ℤ pos other.unit) ≤ℤ (cost_at (system_of p) (values_of p other) *ℤ pos unit)) (solution_cost unit values h.feasible) k in
        let m = subst (λ z. (pos (cost_in_units p (certificate_of p unit values)) *ℤ pos other.unit) ≤ℤ (z *ℤ pos unit)) (certificate_cost other g) l in
        subst (λ n. cost_in_units p (certificate_of p unit values) * other.unit ≤ cost_in_units p other * n) (sym (made_unit p unit (value_in (unknowns_of p) values)))
        (down (cost_in_units p (certificate_of p unit values)) other.unit (cost_in_units p other) unit m);
  }
    where
      down : (a b c d : ℕ) → (pos a *ℤ pos b) ≤ℤ (pos c *ℤ pos d) → a * b ≤ c * d
      down a b c d h = omega (arith, ints, h)

  pub none_grants : ((unit : ℕ) (values : List ℕ) → IsFeasible (system_of p) unit values → ⊥) → (c : Cert) → Grants p c → ⊥
  none_grants h c g = h c.unit (values_of p c) (certificate_solves c g)
