-- Private: words for functions of this crate.
-- Commands and replies as the code has them, against those of the contracts.
use Rattle.std.specs.Prelude.{◌≡◌, ℕ, List, [], Option, None, IfSome}
use Rattle.cell_span.specs.Range.{Range, IsWhole}
use Rattle.host_io.specs.Sink.{Tells, TellsFront}
use Rattle.job_script.specs.Scripts.{IsUpTo}
use Rattle.camelot_host.specs.Commands as plain
use Rattle.camelot_host.specs.Due as due
use Rattle.camelot_host.specs.Due.{IsDue}
use Rattle.camelot_host.specs.Answers.{ToldDue, ToldFront}
use Rattle.camelot_host.specs.Served.{Leaves}
use Rattle.camelot_host.specs.declared.command.Command.{Command}
use Rattle.camelot_host.specs.declared.command.Command.TheVariants as command
use Rattle.camelot_host.specs.declared.reply.Reply.{Reply}
use Rattle.camelot_host.specs.declared.reply.Reply.TheVariants as reply
use Rattle.camelot_host.specs.declared.status.Status.{Status}
use Rattle.camelot_host.specs.declared.status.Status.TheVariants as status

abbrev pub command_named : Command → plain.Command
command_named command.Serve = plain.Serve
command_named command.Compile = plain.Compile
command_named command.Verify = plain.Verify
command_named command.Migrate = plain.Migrate
command_named command.Tenants = plain.Tenants
command_named (command.Sliced steps) = plain.Sliced steps
command_named (command.Drill jobs workers) = plain.Drill jobs workers

-- what the words of a command keep of its numbers
abbrev pub IsWithin : Command → Type 0
IsWithin (command.Sliced steps) = IsUpTo 1000000000 steps
IsWithin (command.Drill jobs workers) = IsUpTo 4096 jobs × IsUpTo 16 workers
IsWithin c = Unit {0}

-- the reply's verdict, and what is written for it
abbrev pub verdict_of : Reply → due.Verdict
verdict_of (reply.Done output arena) = due.Done
verdict_of (reply.Refused line) = due.Refused

abbrev pub bytes_of : Reply → List ℕ
bytes_of (reply.Done output arena) = output.items
bytes_of (reply.Refused line) = line.items

-- what the reply leaves; a refusal leaves nothing
abbrev pub ReplyLeaves : plain.Command → List ℕ → Reply → Type 0
ReplyLeaves command input (reply.Done output arena) = Leaves command input output.items arena
ReplyLeaves command input (reply.Refused line) = Unit {0}

-- the reply is due for the input, with the arena that it leaves
pub record IsReply (command : plain.Command) (input : List ℕ) (r : Reply) : Type 0 where
  pub due : IsDue command input (verdict_of r) (bytes_of r)
  pub leaves : ReplyLeaves command input r

-- the arena of an output that was told whole, and none at another status
abbrev pub KeptBy : Status → (arena kept : Option Range) → Type 0
KeptBy status.Ok arena kept = kept ≡ arena
KeptBy s arena kept = kept ≡ None

-- that of a reply; a refusal has none
abbrev pub Keeps : Status → Reply → (kept : Option Range) → Type 0
Keeps s (reply.Done output arena) kept = KeptBy s arena kept
Keeps s (reply.Refused line) kept = kept ≡ None

-- the reply's arena is whole, where it has one
abbrev pub WholeIn : Reply → Type 0
WholeIn (reply.Done output arena) = IfSome arena IsWhole
WholeIn (reply.Refused line) = Unit {0}

-- the output was told whole at the status of its verdict, and else a front of it; no other status comes then
abbrev pub Writes : Status → due.Verdict → List ℕ → (told told' : Option (List ℕ)) → Type 0
Writes status.Ok due.Done output t t' = Tells t t' output
Writes status.Refused due.Refused output t t' = Tells t t' output
Writes status.WriteFault v output t t' = TellsFront t t' output
Writes s v output t t' = ⊥

-- what was told for an input that was read whole, by the status; no other status comes then
abbrev pub Responds : Status → plain.Command → List ℕ → (told told' : Option (List ℕ)) → Type 0
Responds status.Ok command input t t' = ToldDue command input due.Done t t'
Responds status.Refused command input t t' = ToldDue command input due.Refused t t'
Responds status.WriteFault command input t t' = ToldFront command input t t'
Responds status.Memory command input t t' = Tells t t' []
Responds s command input t t' = ⊥

-- an output was told whole that leaves this arena at the status of a command that was done, and none is left at another
pub record ToldLeft (command : plain.Command) (input : List ℕ) (told told' : Option (List ℕ)) (arena : Option Range) : Type 0 where
  pub output : List ℕ
  pub whole : Tells told told' output
  pub leaves : Leaves command input output arena

abbrev pub RespondsIn : Status → plain.Command → List ℕ → (told told' : Option (List ℕ)) → Option Range → Type 0
RespondsIn status.Ok command input t t' arena = ToldLeft command input t t' arena
RespondsIn s command input t t' arena = arena ≡ None
