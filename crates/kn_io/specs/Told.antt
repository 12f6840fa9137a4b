-- What calls do to the bytes that a source has left and to those that a sink holds. `Some` bytes are told; `None` is
-- of a device that tells none.
use Rattle.std.specs.Prelude.{◌≡◌, ℕ, ◌≤◌, List, [], length, take, Option, Some, None}
use Rattle.std.specs.Io.KnownBytes.{prepend_known, append_known}

-- the bytes left begin with `front` and are left without it; what is not told stays not told
abbrev pub Gives : Option (List ℕ) → Option (List ℕ) → List ℕ → Type 0
Gives old new front = old ≡ prepend_known front new

-- some bytes were given, at most n, and the rest is left; what is not told stays not told
abbrev pub GivesAtMost : ℕ → Option (List ℕ) → Option (List ℕ) → Type 0
GivesAtMost n old new = (front : List ℕ) × (length front ≤ n) × Gives old new front

-- some bytes were given, and the rest is left; what is not told stays not told
abbrev pub GivesSome : Option (List ℕ) → Option (List ℕ) → Type 0
GivesSome old new = (front : List ℕ) × Gives old new front

-- all the bytes left were given, and none is left; what is not told stays not told
abbrev pub GivesAll : Option (List ℕ) → Option (List ℕ) → List ℕ → Type 0
GivesAll None new bytes = new ≡ None
GivesAll (Some left) new bytes = (bytes ≡ left) × (new ≡ Some [])

-- these bytes are put behind those held; what is not told stays not told
abbrev pub Appends : Option (List ℕ) → Option (List ℕ) → List ℕ → Type 0
Appends old new bytes = new ≡ append_known old bytes

-- the first bytes of these, or all or none, are put behind those held; what is not told stays not told
abbrev pub AppendsPrefix : Option (List ℕ) → Option (List ℕ) → List ℕ → Type 0
AppendsPrefix old new bytes = (n : ℕ) × (n ≤ length bytes) × Appends old new (take n bytes)
