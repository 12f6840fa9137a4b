-- The calls of a device in memory that fails some of them by their number. The counts are of 64 bits and stand still at
-- their last value; the numbers of the calls that fail are of 32 bits, so none is that of a call made there.
use Rattle.std.specs.Prelude.{ℕ, List, Contains}
use Rattle.kn_io.specs.Counts.{counted_on}

-- the numbers of the calls that fail, how many calls were made, and how many of them were faults
pub record CallLog : Type 0 where
  pub failing : List ℕ
  pub made : ℕ
  pub faults : ℕ

-- the log of a new device
abbrev pub new_log : List ℕ → CallLog
new_log failing = record { failing = failing; made = 0; faults = 0 }

-- the number of the next call: calls are counted from 1
abbrev pub next_number : CallLog → ℕ
next_number log = counted_on log.made 1

-- the next call is one of those that fail
abbrev pub NextFails : CallLog → Type 0
NextFails log = Contains log.failing (next_number log)

-- the log behind one more call, which was no fault
abbrev pub after_call : CallLog → CallLog
after_call log = record log { made = next_number log }

-- the log behind one more call, which was a fault
abbrev pub after_fault : CallLog → CallLog
after_fault log = record log { made = next_number log; faults = counted_on log.faults 1 }
