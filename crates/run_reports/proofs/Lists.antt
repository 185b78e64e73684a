-- Lines that are written one by one.
use Rattle.std.proofs.Common.{◌≡◌, ℕ, List, [], ◌∷◌, ◌++◌, sym, ap, ◌∙◌, append_assoc, append-nil}
use Rattle.lease_desk.specs.declared.event.Event.{Event}
use Rattle.run_reports.specs.Report.{event_text, event_lines}

-- a line was written, and these are to come
pub program_here : (out old line rest : List ℕ) → out ≡ old ++ line → out ++ rest ≡ old ++ (line ++ rest)
program_here out old line rest e = ap (λ l. l ++ rest) e ∙ append_assoc old line rest

-- none are to come
pub no_more : (out whole : List ℕ) → out ++ [] ≡ whole → out ≡ whole
no_more out whole e = sym (append-nil out) ∙ e

pub event_here : (names : ℕ → List ℕ) (event : Event) (events : List Event) (out old whole : List ℕ)
    → old ++ event_lines names (event ∷ events) ≡ whole → out ≡ old ++ event_text names event → out ++ event_lines names events ≡ whole
event_here names event events out old whole e f = program_here out old (event_text names event) (event_lines names events) f ∙ e
