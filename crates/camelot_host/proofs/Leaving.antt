-- The arena that a command leaves.
use Rattle.std.proofs.Common.{◌≡◌, ℕ, ◌≤◌, List, [], length, Option, Some, None, refl, sym, subst, arith}
use Rattle.std.specs.Prelude.{IfSome}
use Rattle.std.proofs.lemmas.List.{append-nil}
use Rattle.std.specs.Io.KnownBytes.{Consumes, IsAtEnd}
use Rattle.cell_span.specs.Range.{Range, IsWhole}
use Rattle.host_io.specs.Sink.{Tells}
use Rattle.host_io.specs.Source.{Took}
use Rattle.camelot_host.specs.Commands.{Command, Serve, Compile, Verify, Migrate, Tenants, Sliced, Drill, IsCommand, reads}
use Rattle.camelot_host.specs.Answers.{input_limit, devices, Broken}
use Rattle.camelot_host.specs.Served.{Leaves, ArenaBy}
use Rattle.camelot_host.specs.Replies.{verdict_of, bytes_of, IsReply, Keeps, WholeIn, Writes, Responds, RespondsIn}
use Rattle.camelot_host.specs.declared.reply.Reply.{Reply}
use Rattle.camelot_host.specs.declared.reply.Reply.TheVariants as reply
use Rattle.camelot_host.specs.declared.status.Status.{Status}
use Rattle.camelot_host.specs.declared.status.Status.TheVariants as status
use Rattle.std.specs.Prelude.{true, false}
use Rattle.camelot_host.proofs.Answering.{has_read, has_not_read, responds}

-- an arena that is left is whole
whole_left : (command : Command) (input output : List ℕ) (arena : Option Range) → Leaves command input output arena → IfSome arena IsWhole
whole_left Serve input output (Some arena) h = subst IsWhole (sym h.left) h.served.comes.whole
whole_left Serve input output None h = absurd h
whole_left Compile input output arena h = subst (λ (o : Option Range). IfSome o IsWhole) (sym h) tt
whole_left Verify input output arena h = subst (λ (o : Option Range). IfSome o IsWhole) (sym h) tt
whole_left Migrate input output arena h = subst (λ (o : Option Range). IfSome o IsWhole) (sym h) tt
whole_left Tenants input output arena h = subst (λ (o : Option Range). IfSome o IsWhole) (sym h) tt
whole_left (Sliced steps) input output arena h = subst (λ (o : Option Range). IfSome o IsWhole) (sym h) tt
whole_left (Drill jobs workers) input output arena h = subst (λ (o : Option Range). IfSome o IsWhole) (sym h) tt

pub leaves_whole : (command : Command) (input : List ℕ) (r : Reply) → IsReply command input r → WholeIn r
leaves_whole command input (reply.Done output arena) h = whole_left command input output.items arena h.leaves
leaves_whole command input (reply.Refused line) h = tt

-- what was told of a reply is what is due for the input
pub reply_responds : (s : Status) (command : Command) (input : List ℕ) (r : Reply) (t t' : Option (List ℕ)) → IsReply command input r
    → Writes s (verdict_of r) (bytes_of r) t t' → Responds s command input t t'
reply_responds s command input r t t' h w = responds s (verdict_of r) command input (bytes_of r) t t' h.due w

-- what was told of a reply leaves its arena
pub told_left : (s : Status) (command : Command) (input : List ℕ) (r : Reply) (kept : Option Range) (t t' : Option (List ℕ))
    → IsReply command input r → Writes s (verdict_of r) (bytes_of r) t t' → Keeps s r kept
    → RespondsIn s command input t t' kept
told_left status.Ok command input (reply.Done output arena) kept t t' h w k = record { output = output.items; whole = w; leaves = subst (Leaves command input output.items) (sym k) h.leaves }
told_left status.Ok command input (reply.Refused line) kept t t' h w k = absurd w
told_left status.Refused command input (reply.Done output arena) kept t t' h w k = absurd w
told_left status.Refused command input (reply.Refused line) kept t t' h w k = k
told_left status.WriteFault command input (reply.Done output arena) kept t t' h w k = k
told_left status.WriteFault command input (reply.Refused line) kept t t' h w k = k
told_left status.Memory command input (reply.Done output arena) kept t t' h w k = k
told_left status.Memory command input (reply.Refused line) kept t t' h w k = k
told_left status.ReadFault command input (reply.Done output arena) kept t t' h w k = k
told_left status.ReadFault command input (reply.Refused line) kept t t' h w k = k
told_left status.Usage command input (reply.Done output arena) kept t t' h w k = k
told_left status.Usage command input (reply.Refused line) kept t t' h w k = k
told_left status.TooLong command input (reply.Done output arena) kept t t' h w k = k
told_left status.TooLong command input (reply.Refused line) kept t t' h w k = k

-- the arena by the status, where the command's input was read whole
pub arena_by : (s : Status) (words : List (List ℕ)) (command : Command) (input : List ℕ) (l l' t t' : Option (List ℕ)) (n n' : ℕ) (arena : Option Range) → IsCommand words command → reads command ≡ true → RespondsIn s command input t t' arena
    → Took l l' n n' input → IsAtEnd l' → length input ≤ input_limit → ArenaBy s words (devices l n t) (devices l' n' t') arena
arena_by status.Ok words command input l l' t t' n n' arena c q r k e h = record {
  command = command;
  spelled = c;
  input = input;
  read = has_read command (devices l n t) (devices l' n' t') input q (record { took = k; at_end = e; within = h });
  output = r.output;
  whole = r.whole;
  leaves = r.leaves;
}
arena_by status.Refused words command input l l' t t' n n' arena c q r k e h = r
arena_by status.WriteFault words command input l l' t t' n n' arena c q r k e h = r
arena_by status.Memory words command input l l' t t' n n' arena c q r k e h = r
arena_by status.ReadFault words command input l l' t t' n n' arena c q r k e h = r
arena_by status.Usage words command input l l' t t' n n' arena c q r k e h = r
arena_by status.TooLong words command input l l' t t' n n' arena c q r k e h = r

-- the same where the command reads nothing
pub arena_unread : (s : Status) (words : List (List ℕ)) (command : Command) (l t t' : Option (List ℕ)) (n : ℕ) (arena : Option Range)
    → IsCommand words command → reads command ≡ false → RespondsIn s command [] t t' arena
    → ArenaBy s words (devices l n t) (devices l n t') arena
arena_unread status.Ok words command l t t' n arena c q r = record {
  command = command;
  spelled = c;
  input = [];
  read = has_not_read command (devices l n t) (devices l n t') [] q (record { left = refl; taken = refl; empty = refl });
  output = r.output;
  whole = r.whole;
  leaves = r.leaves;
}
arena_unread status.Refused words command l t t' n arena c q r = r
arena_unread status.WriteFault words command l t t' n arena c q r = r
arena_unread status.Memory words command l t t' n arena c q r = r
arena_unread status.ReadFault words command l t t' n arena c q r = r
arena_unread status.Usage words command l t t' n arena c q r = r
arena_unread status.TooLong words command l t t' n arena c q r = r

-- ---- words that are no command

none_taken : (l : Option (List ℕ)) → Consumes l l []
none_taken None = tt
none_taken (Some xs) = refl

pub none_told : (t : Option (List ℕ)) → Tells t t []
none_told None = tt
none_told (Some xs) = sym (append-nil xs)

-- nothing was taken, and nothing was told
pub untouched : (l t : Option (List ℕ)) (n : ℕ) → Broken 0 (devices l n t) (devices l n t)
untouched l t n = record { gone = record { bytes = []; within = omega arith; took = record { gone = none_taken l; counted = omega arith } }; silent = none_told t }
