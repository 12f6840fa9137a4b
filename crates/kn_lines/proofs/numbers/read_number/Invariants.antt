use Rattle.std.proofs.Common.{◌≡◌, ◌^◌, ◌<◌, drop}
use Rattle.std.specs.List.{list_all}
use Rattle.kn_lines.specs.Numbers.{is_digit, value_from}
use Rattle.kn_lines.proofs.numbers.read_number.Given as goal

abbrev pub invariant-loop-byte : goal.invariant-loop-byte
invariant-loop-byte l =
    (value_from l.value (drop l.byte-index l.word) ≡ value_from 0 l.word)
    × (list_all is_digit (drop l.byte-index l.word) ≡ list_all is_digit l.word)
    × (l.value < 2 ^ 64)
