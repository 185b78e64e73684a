-- Cited by contracts. The exit statuses of the program, as docs/SCRIPTS.md has them.
use Rattle.std.specs.Prelude.{ℕ}
use Rattle.camelot_host.specs.declared.status.Status.{Status}
use Rattle.camelot_host.specs.declared.status.Status.TheVariants as status

-- the exit status by what the host answered
abbrev pub exit_of : Status → ℕ
exit_of status.Ok = 0
exit_of status.ReadFault = 1
exit_of status.Usage = 2
exit_of status.Refused = 3
exit_of status.WriteFault = 4
exit_of status.Memory = 5
exit_of status.TooLong = 6
