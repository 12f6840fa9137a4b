-- The exit numbers of the program.
use Rattle.std.specs.Prelude.{ℕ}
use Rattle.kn_commands.specs.declared.status.Status.{Status}
use Rattle.kn_commands.specs.declared.status.Status.TheVariants as ends

-- the exit number of a status
abbrev pub status_number : Status → ℕ
status_number ends.Ok = 0
status_number ends.Usage = 1
status_number (ends.Script line why) = 2
status_number ends.Spent = 3
status_number ends.ReadFault = 4
status_number ends.WriteFault = 5
status_number ends.Memory = 6
