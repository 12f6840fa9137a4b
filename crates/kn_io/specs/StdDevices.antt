-- What contracts see of the adapters of std's readers and writers.
use Rattle.std.specs.Prelude.{ℕ}
use Rattle.kn_io.specs.declared.adapters.StdSource.{StdSource}
use Rattle.kn_io.specs.declared.adapters.StdSink.{StdSink}

-- the reader that a source reads from
abbrev pub reader_of : {R : Type 0} → StdSource R → R
reader_of source = source.inner

-- how many errors of its reader a source has met
abbrev pub read_errors : {R : Type 0} → StdSource R → ℕ
read_errors source = source.faults

-- the writer that a sink writes to
abbrev pub writer_of : {W : Type 0} → StdSink W → W
writer_of sink = sink.inner

-- how many errors of its writer a sink has met
abbrev pub write_errors : {W : Type 0} → StdSink W → ℕ
write_errors sink = sink.faults
