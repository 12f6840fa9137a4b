use Rattle.std.proofs.Common.{◌∙◌, subst}
use Rattle.kn_graph.specs.Ground.{Ground}
use Rattle.kn_cms_trace.specs.CoreRuns.{IsCoreTurn}
use Rattle.kn_cms_trace.proofs.Turned.{turns_more}
use Rattle.kn_cms_trace.proofs.runner.CoreRunner.take_turns.Goals as goal

pub loop-turn-preserved : goal.loop-turn-preserved
loop-turn-preserved c = record {
  keeps = record {
    ground = c.take_turn.ensures.keeps.ground ∙ c.loop-turn.invariant.keeps.ground;
    calls = c.take_turn.ensures.keeps.calls ∙ c.loop-turn.invariant.keeps.calls;
  };
  runs = λ r h.
      let mid = c.loop-turn.invariant.runs r h in
      let one = c.if-take_turn.ensures.takes mid.0 mid.1 in
      let turn = subst (λ (z : Ground). IsCoreTurn z mid.0 one.0) c.loop-turn.invariant.keeps.ground one.2 in
      (one.0, one.1, turns_more c.args.self.now.core.ground c.loop-turn._turn r mid.0 one.0 mid.2 turn);
}
