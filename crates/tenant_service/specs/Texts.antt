-- Cited by contracts.
-- The text of replies: a line for each, and one for each tenant at the end.
use Rattle.std.specs.Prelude.{ℕ, ◌-◌, List, [], ◌∷◌, ◌++◌, codes, decimal}
use Rattle.run_reports.specs.Report.{job_cause_text, told_text}
use Rattle.tenant_script.specs.Tenants.{Tenant}
use Rattle.tenant_service.specs.Rooms.{Room, Reply, Holds, Refuses, IsOver, IsFull, Started, Absent, Finished, cells_held}
use Rattle.tenant_service.specs.Replies.{Answer, Rooms}

-- a word, the tenant's name, and the job's
abbrev pub named : (word tenant name : List ℕ) → List ℕ
named word tenant name = word ++ 32 ∷ (tenant ++ 32 ∷ name)

abbrev pub reply_text : (tenant : List ℕ) → Reply → List ℕ
reply_text tenant (Holds name) = named (codes "held") tenant name ++ codes "\n"
reply_text tenant (Refuses name cause) = named (codes "refused") tenant name ++ (32 ∷ job_cause_text cause) ++ codes "\n"
reply_text tenant (IsOver name held size budget) =
    named (codes "over") tenant name ++ (codes " held " ++ decimal held) ++ (codes " size " ++ decimal size) ++ (codes " budget " ++ decimal budget) ++ codes "\n"
reply_text tenant (IsFull name need most) = named (codes "full") tenant name ++ (codes " need " ++ decimal need) ++ (codes " largest " ++ decimal most) ++ codes "\n"
reply_text tenant (Started name first size) = named (codes "started") tenant name ++ (codes " first " ++ decimal first) ++ (codes " size " ++ decimal size) ++ codes "\n"
reply_text tenant (Absent name) = named (codes "absent") tenant name ++ codes "\n"
reply_text tenant (Finished name line) = named (codes "finished") tenant name ++ told_text line ++ codes "\n"

abbrev pub answers_text : List Answer → List ℕ
answers_text [] = []
answers_text (a ∷ others) = reply_text a.tenant a.reply ++ answers_text others

-- what is free at the end of a tenant's budget
abbrev pub end_text : Tenant → Room → List ℕ
end_text t room = (codes "end tenant " ++ t.name) ++ (codes " free " ++ decimal (t.cells - cells_held room.held)) ++ codes "\n"

abbrev pub ends_text : List Tenant → Rooms → List ℕ
ends_text [] rooms = []
ends_text (t ∷ ts) rooms = end_text t (rooms t.name) ++ ends_text ts rooms
