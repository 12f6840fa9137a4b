use Rattle.std.proofs.Common.{sym, subst}
use Rattle.kn_lines.specs.declared.orders.Actor.{Actor}
use Rattle.kn_lines.specs.declared.orders.Actor.TheVariants.{Collector, Thread}
use Rattle.kn_cms_lists.specs.Kept.{Kept}
use Rattle.kn_cms.specs.Stands.{IsCore}
use Rattle.kn_cms.specs.Moves.{TurnMoves}
use Rattle.kn_cms.proofs.Ended.{done_told, idle_told}
use Rattle.kn_cms.proofs.machine.Core.turn.Goals as goal

pub returns-in-Thread-clause-idle : goal.returns-in-Thread-clause-idle
returns-in-Thread-clause-idle c =
    let moves = subst (λ (k : Kept). TurnMoves k (Thread c.in-Thread.thread) c.thread_turn.result c.thread_turn.new.lists)
    c.self.view_is c.thread_turn.ensures.moves in
    idle_told c.args.self.now c.thread_turn.new.lists (subst IsCore c.self.view_is c.self.invariant) c.args.who c.requires c.thread_turn.result
    (subst (λ (w : Actor). TurnMoves c.args.self.now w c.thread_turn.result c.thread_turn.new.lists) (sym c.in-Thread.is) moves)

pub returns-in-Thread-clause-done : goal.returns-in-Thread-clause-done
returns-in-Thread-clause-done c =
    let moves = subst (λ (k : Kept). TurnMoves k (Thread c.in-Thread.thread) c.thread_turn.result c.thread_turn.new.lists)
    c.self.view_is c.thread_turn.ensures.moves in
    done_told c.args.self.now c.thread_turn.new.lists (subst IsCore c.self.view_is c.self.invariant) c.args.who c.requires c.thread_turn.result
    (subst (λ (w : Actor). TurnMoves c.args.self.now w c.thread_turn.result c.thread_turn.new.lists) (sym c.in-Thread.is) moves)

pub returns-in-Collector-clause-idle : goal.returns-in-Collector-clause-idle
returns-in-Collector-clause-idle c =
    let moves = subst (λ (k : Kept). TurnMoves k Collector c.collector_turn.result c.collector_turn.new.lists)
    c.self.view_is c.collector_turn.ensures.moves in
    idle_told c.args.self.now c.collector_turn.new.lists (subst IsCore c.self.view_is c.self.invariant) c.args.who c.requires c.collector_turn.result
    (subst (λ (w : Actor). TurnMoves c.args.self.now w c.collector_turn.result c.collector_turn.new.lists) (sym c.in-Collector.is) moves)

pub returns-in-Collector-clause-done : goal.returns-in-Collector-clause-done
returns-in-Collector-clause-done c =
    let moves = subst (λ (k : Kept). TurnMoves k Collector c.collector_turn.result c.collector_turn.new.lists)
    c.self.view_is c.collector_turn.ensures.moves in
    done_told c.args.self.now c.collector_turn.new.lists (subst IsCore c.self.view_is c.self.invariant) c.args.who c.requires c.collector_turn.result
    (subst (λ (w : Actor). TurnMoves c.args.self.now w c.collector_turn.result c.collector_turn.new.lists) (sym c.in-Collector.is) moves)
