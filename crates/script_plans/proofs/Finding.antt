-- The first row of a name, one by one.
use Rattle.std.proofs.Common.{◌≡◌, ℕ, true, false, List, ◌∷◌, Some, sym, ap, ◌∙◌}
use Rattle.std.specs.Prelude.{if◌then◌else◌, Option}
use Rattle.std.specs.Str.{bytes_eq}
use Rattle.script_plans.specs.Rows.{Row, row_among}

pub here : (r : Row) (rows : List Row) (name : List ℕ) (whole : Option Row) → row_among (r ∷ rows) name ≡ whole → bytes_eq r.name name ≡ true → Some r ≡ whole
here r rows name whole e t = sym (ap (λ b. if b then Some r else row_among rows name) t) ∙ e

pub later : (r : Row) (rows : List Row) (name : List ℕ) (whole : Option Row) → row_among (r ∷ rows) name ≡ whole → bytes_eq r.name name ≡ false
    → row_among rows name ≡ whole
later r rows name whole e t = sym (ap (λ b. if b then Some r else row_among rows name) t) ∙ e
