-- What the code tells of finishes is what replies tell.
use Rattle.std.proofs.Common.{◌≡◌, ℕ, List, ◌++◌, Some, sym, ap, ◌∙◌, codes}
use Rattle.licence.specs.Licensed.{Licensed}
use Rattle.run_reports.specs.Told.{JobLine}
use Rattle.run_reports.specs.Report.{told_text}
use Rattle.tenant_service.specs.Rooms.{Reply}
use Rattle.tenant_service.specs.Steps.{CameTo, FinishedIs}
use Rattle.tenant_service.specs.Texts.{named, reply_text}
use Rattle.tenant_service.specs.declared.holding.Came.{Came}

pub finished_text : (licences : List Licensed) (tenant name o p : List ℕ) (c : Came) (reply : Reply)
    → ((line : JobLine) → CameTo licences c line → p ≡ o ++ (named (codes "finished") tenant name ++ told_text line ++ codes "\n"))
    → FinishedIs licences name (Some c) reply → p ≡ o ++ reply_text tenant reply
finished_text licences tenant name o p c reply each h = each h.line h.came ∙ ap (λ r. o ++ reply_text tenant r) (sym h.is)
