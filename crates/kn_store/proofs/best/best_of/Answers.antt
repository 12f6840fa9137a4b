use Rattle.std.proofs.Common.{false, rules}
use Rattle.std.proofs.lemmas.Option.{slice_get-get_or}
use Rattle.kn_store.specs.declared.finder.Seen.{Seen}
use Rattle.kn_store.proofs.Bests.{better_keeps}
use Rattle.kn_store.proofs.best.best_of.Goals as goal

pub loop-number-preserved : goal.loop-number-preserved
loop-number-preserved c =
    let none : Seen = record { word = 0; refused = false } in
    better_keeps c.args.class c.args.seen.now c.loop-number.number _ c.loop-number.best c.sees.new.self c.rank_for.result
    (slice_get-get_or c.args.seen.now c.loop-number.number none (search rules)) c.loop-number.invariant c.rank_for.ensures c.sees.ensures.better
    c.sees.ensures.same
