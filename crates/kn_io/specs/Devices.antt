-- What a source and a sink are seen as together, before a call and behind it.
use Rattle.std.specs.Prelude.{ℕ, List, Option}
use Rattle.kn_io.specs.Counts.{Rose}

-- the bytes that the source has left and that the sink holds, where they tell them, and their counts of faults
pub record Devices : Type 0 where
  pub left : Option (List ℕ)
  pub source_faults : ℕ
  pub held : Option (List ℕ)
  pub sink_faults : ℕ

-- a source and a sink, seen by what their traits tell
abbrev pub seen : {S K : Type 0} → (S → Option (List ℕ)) → (S → ℕ) → (K → Option (List ℕ)) → (K → ℕ) → S → K → Devices
seen left source_faults held sink_faults source sink =
    record { left = left source; source_faults = source_faults source; held = held sink; sink_faults = sink_faults sink }

-- in this call the source's count of faults rose
abbrev pub SourceFailed : Devices → Devices → Type 0
SourceFailed old new = Rose old.source_faults new.source_faults

-- in this call the sink's count of faults rose
abbrev pub SinkFailed : Devices → Devices → Type 0
SinkFailed old new = Rose old.sink_faults new.sink_faults
