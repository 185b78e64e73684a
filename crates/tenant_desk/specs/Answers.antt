-- Cited by contracts.
-- What a desk answers a tenant that asks for so many cells.
use Rattle.std.specs.Prelude.{ℕ}
use Rattle.tenant_desk.specs.declared.ask.Ask.{Ask}
use Rattle.tenant_desk.specs.declared.ask.Ask.TheVariants as answer
use Rattle.tenant_desk.specs.Desk.{Tenants, IsGranted, IsOver, IsFull}

-- a lease, or why there is none
abbrev pub AskIs : Tenants → Tenants → (tenant size : ℕ) → Ask → Type 0
AskIs old new tenant size (answer.Granted l) = IsGranted old new tenant size l
AskIs old new tenant size (answer.Over holds asked most) = IsOver old new tenant size holds asked most
AskIs old new tenant size (answer.Full need most) = IsFull old new tenant size need most
