use Rattle.std.proofs.Common.{refl, subst, arith}
use Rattle.kn_trace.specs.Between.{Takes, trace_of}
use Rattle.kn_trace.proofs.Turning.{all_ended, all_made, none_yet, one_more, stays_more}
use Rattle.kn_trace.proofs.actors.Actors.take_turns.Goals as goal

pub loop-turn-init : goal.loop-turn-init
loop-turn-init c = record { holds = c.requires.holds; stays = none_yet (trace_of c.args.board c.args.self.now); runs = refl }

pub returns-then-taken-clause-stays : goal.returns-then-taken-clause-stays
returns-then-taken-clause-stays c = stays_more (trace_of c.args.board c.args.self.now) (trace_of c.loop-turn.board c.loop-turn.self)
    (trace_of c.take_turn-taken.result.board c.take_turn-taken.new.self) c.loop-turn.invariant.stays c.take_turn-taken.ensures.stays

pub returns-then-taken-clause-takes : goal.returns-then-taken-clause-takes
returns-then-taken-clause-takes c = all_ended c.take_turn-taken.result.is_over c.args.limit c.loop-turn._turn
    (trace_of c.args.board c.args.self.now) (trace_of c.loop-turn.board c.loop-turn.self)
    (trace_of c.take_turn-taken.result.board c.take_turn-taken.new.self) c.if-taken.true c.take_turn-taken.ensures.takes
    c.loop-turn.invariant.runs c.loop-turn.auto._turn-end

pub loop-turn-preserved : goal.loop-turn-preserved
loop-turn-preserved c =
    let first = trace_of c.args.board c.args.self.now in
    let before = trace_of c.loop-turn.board c.loop-turn.self in
    let after = trace_of c.take_turn-taken.result.board c.take_turn-taken.new.self in
    record {
      holds = c.take_turn-taken.ensures.holds;
      stays = stays_more first before after c.loop-turn.invariant.stays c.take_turn-taken.ensures.stays;
      runs = one_more c.loop-turn._turn first before after c.loop-turn.invariant.runs
          (subst (λ b. Takes b before after) c.if-taken.false c.take_turn-taken.ensures.takes);
    }

pub returns-clause-takes : goal.returns-clause-takes
returns-clause-takes c = all_made c.args.limit c.loop-turn._turn (trace_of c.args.board c.args.self.now)
    (trace_of c.loop-turn.board c.loop-turn.self) (omega arith) c.loop-turn.auto._turn-end c.loop-turn.invariant.runs
