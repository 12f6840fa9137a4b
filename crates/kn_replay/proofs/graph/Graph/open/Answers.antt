use Rattle.std.proofs.Common.{◌+◌, arith}
use Rattle.kn_replay.proofs.Changed.{opened_empty, opened_fits}
use Rattle.kn_replay.proofs.graph.Graph.open.Goals as goal

pub invariant_of-result : goal.invariant_of-result
invariant_of-result c =
    rw (c.in_ok-objects.ensures, c.in_ok-holders.ensures, c.in_ok-ground.ensures, c.in_ok-entered.ensures, c.new.ensures.items)
    (opened_fits (record { sizes = c.args.sizes.now; layouts = c.args.layouts.now }) (1 + c.heap_words.result) (omega (arith, c.heap_words.ensures)))

pub returns-clause-empty : goal.returns-clause-empty
returns-clause-empty c =
    rw (c.in_ok-objects.ensures, c.in_ok-holders.ensures, c.in_ok-entered.ensures)
    (opened_empty (record { sizes = c.args.sizes.now; layouts = c.args.layouts.now }) (1 + c.heap_words.result))
