-- What contracts see of the sources and sinks in memory.
use Rattle.std.specs.Prelude.{◌≡◌, ℕ, ◌-◌, ◌<◌, List, ◌++◌, length, take, drop, min}
use Rattle.kn_io.specs.Counts.{counted_on}
use Rattle.kn_io.specs.CallLog.{CallLog}

-- the bytes left, and the most that one call gives
pub record Supply : Type 0 where
  pub left : List ℕ
  pub piece : ℕ

-- how many bytes a call gives into a buffer of this length
abbrev pub given_count : Supply → ℕ → ℕ
given_count supply room = min (min supply.piece room) (length supply.left)

-- the supply behind a call that gave n bytes
abbrev pub without_first : Supply → ℕ → Supply
without_first supply n = record supply { left = drop n supply.left }

-- a buffer behind a call that gave n bytes: they stand at its front, and its rest is as it was
abbrev pub filled : Supply → ℕ → List ℕ → List ℕ
filled supply n buffer = take n supply.left ++ drop n buffer

-- a source in memory that fails some calls: what it gives, and its calls
pub record FailingSupply : Type 0 where
  pub supply : Supply
  pub calls : CallLog

-- a sink in memory that fails some calls: the bytes it holds, the most that it may hold, the most that one call takes,
-- and its calls
pub record FailingStore : Type 0 where
  pub held : List ℕ
  pub room : ℕ
  pub piece : ℕ
  pub calls : CallLog

-- how many bytes a call takes of a piece of this length
abbrev pub taken_count : FailingStore → ℕ → ℕ
taken_count store offered = min (min store.piece offered) (store.room - length store.held)

-- the sink is full, and the piece is not empty
abbrev pub HasNoRoomFor : FailingStore → List ℕ → Type 0
HasNoRoomFor store bytes = (length store.held ≡ store.room) × (0 < length bytes)

-- the most that one call takes, and how many bytes were taken
pub record Tally : Type 0 where
  pub piece : ℕ
  pub taken : ℕ

-- the tally behind a call that took n bytes
abbrev pub with_taken : Tally → ℕ → Tally
with_taken tally n = record tally { taken = counted_on tally.taken n }
