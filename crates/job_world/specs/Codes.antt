-- Private: words for functions of this crate.
-- How plans are stored as plain data, by the codes of licences and of values.
use Rattle.std.specs.Prelude.{ℕ, List, refl}
use Rattle.std.specs.Coded.{Coded, code_by, coded×, coded_list, coded_ℕ}
use Rattle.camelot_values.specs.Value.{Value}
use Rattle.camelot_values.specs.contracts.value.Flat as flat
use Rattle.licence.specs.Licensed.{Licensed}
use Rattle.licence.specs.contracts.licence.Licence as licence
use Rattle.job_world.specs.Plans.{Plan, Planned}

-- a plan is stored as its fields in order
abbrev pub plan_code : Coded Plan
plan_code = code_by (ℕ × (ℕ × (List Value × (ℕ × ℕ)))) (coded× coded_ℕ (coded× coded_ℕ (coded× (coded_list flat.the_row.coded) (coded× coded_ℕ coded_ℕ))))
    (λ p. (p.licence, (p.entry, (p.args, (p.fuel, p.lease)))))
    (λ q. record { licence = q.0; entry = q.1.0; args = q.1.1.0; fuel = q.1.1.1.0; lease = q.1.1.1.1 })
    (λ _. refl)

-- licences and plans as these two
abbrev pub planned_code : Coded Planned
planned_code = code_by (List Licensed × List Plan) (coded× (coded_list licence.the_row.coded) (coded_list plan_code)) (λ p. (p.licences, p.plans)) (λ q. record { licences = q.0; plans = q.1 }) (λ _. refl)
