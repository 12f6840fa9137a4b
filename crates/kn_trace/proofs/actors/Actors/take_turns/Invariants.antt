use Rattle.kn_trace.specs.Traces.{Runs}
use Rattle.kn_trace.specs.Between.{Holds, Stays, trace_of}
use Rattle.kn_trace.proofs.actors.Actors.take_turns.Given as goal

abbrev pub invariant-loop-turn : goal.invariant-loop-turn
invariant-loop-turn l = record {
  holds : Holds (trace_of l.board l.self);
  stays : Stays (trace_of l.fn.board l.fn.self) (trace_of l.board l.self);
  runs : Runs l._turn (trace_of l.fn.board l.fn.self) (trace_of l.board l.self);
}
