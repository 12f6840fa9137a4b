-- Lines of a text in bytes.
use Rattle.std.specs.Prelude.{ℕ, ◌+◌, ◌==◌, List, count_by}

-- the number of the line that begins behind bytes: 1 plus the number of line feeds among them
abbrev pub line_behind : List ℕ → ℕ
line_behind bytes = 1 + count_by (λ byte. byte == 10) bytes
