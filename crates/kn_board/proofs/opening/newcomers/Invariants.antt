use Rattle.std.proofs.Common.{◌≡◌, [], replicate}
use Rattle.kn_view.specs.Parts.{ground_of, new_part}
use Rattle.kn_board.proofs.opening.newcomers.Given as goal

abbrev pub invariant-loop : goal.invariant-loop
invariant-loop l = l.known.items ≡ replicate l.counter (new_part (ground_of l.sizes []))
