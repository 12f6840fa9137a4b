-- How many turns are enough for a run of a script on a core.
use Rattle.std.specs.Prelude.{ℕ, ◌+◌, ◌*◌, length, sum_by}
use Rattle.kn_base.specs.Sizes.{word_count}
use Rattle.kn_lines.specs.Weights.{order_weight}
use Rattle.kn_script.specs.Scripts.{Scripted}

-- the calls of all threads together
abbrev pub call_count : Scripted → ℕ
call_count script = sum_by length script.threads

-- the weight of the order, where the actors are the threads and the collector
abbrev pub weight_of_order : Scripted → ℕ
weight_of_order script = sum_by (order_weight (script.sizes.threads + 1)) script.order

-- three steps for each call, two for each word, the end of each thread, the snapshot and the end of marking, each in a round
-- of its own, and the weight of the order
abbrev pub enough_turns : Scripted → ℕ
enough_turns script =
    (script.sizes.threads + 1) * (3 * call_count script + 2 * word_count script.sizes + script.sizes.threads + 2)
    + weight_of_order script
