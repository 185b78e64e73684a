-- Laws, for the proofs of this crate and of those above it.
-- What a run comes to has decidable equality, so that equations between outcomes are propositions.
use Rattle.std.proofs.Common.{◌≡◌, ℕ, List, refl, inl, inr}
use Rattle.std.specs.Prelude.{◌⊎◌}
use Rattle.std.specs.Coded.{Coded, Coded-set, code_by, coded_list, coded_ℕ, coded×, coded⊎}
use Rattle.camelot_values.specs.Value.{Value}
use Rattle.camelot_values.specs.Items.{items_of, value_of, value_of-items_of}
use Rattle.camelot_values.specs.declared.value.Item.{Item}
use Rattle.camelot_values.specs.contracts.value.Item as item
use Rattle.camelot_values.specs.Outcome.{Outcome, Done, Fuel, Deep, Trap, Stuck}

coded_value : Coded Value
coded_value = code_by (List Item) (coded_list item.the_row.coded) items_of value_of value_of-items_of

-- the five cases of an outcome
abbrev Cases : Type 0
Cases = (Value × (ℕ × (ℕ × ℕ))) ⊎ ((ℕ × ℕ) ⊎ (ℕ ⊎ (ℕ ⊎ ℕ)))

abbrev to : Outcome Value → Cases
to (Done v c p l) = inl (v, (c, (p, l)))
to (Fuel c p) = inr (inl (c, p))
to (Deep p) = inr (inr (inl p))
to (Trap p) = inr (inr (inr (inl p)))
to Stuck = inr (inr (inr (inr 0)))

abbrev from : Cases → Outcome Value
from (inl (v, (c, (p, l)))) = Done v c p l
from (inr (inl (c, p))) = Fuel c p
from (inr (inr (inl p))) = Deep p
from (inr (inr (inr (inl p)))) = Trap p
from (inr (inr (inr (inr n)))) = Stuck

back : (o : Outcome Value) → from (to o) ≡ o
back (Done v c p l) = refl
back (Fuel c p) = refl
back (Deep p) = refl
back (Trap p) = refl
back Stuck = refl

pub outcome_set : IsSet (Outcome Value)
outcome_set = Coded-set (code_by Cases (coded⊎ (coded× coded_value (coded× coded_ℕ (coded× coded_ℕ coded_ℕ))) (coded⊎ (coded× coded_ℕ coded_ℕ) (coded⊎ coded_ℕ (coded⊎ coded_ℕ coded_ℕ)))) to from back)
