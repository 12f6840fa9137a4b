use Rattle.std.proofs.Common.{◌≡◌, sym, subst}
use Rattle.kn_trace.specs.Between.{Holds, Running, trace_of}
use Rattle.kn_trace.specs.Traces.{IsTurn}
use Rattle.kn_trace.proofs.Turning.{collector_takes, holds_so, next_is, thread_takes}
use Rattle.kn_trace.proofs.actors.Actors.take_turn.Goals as goal

pub returns-in_default-clause-holds : goal.returns-in_default-clause-holds
returns-in_default-clause-holds c =
    let r : Running = record { mutators = c.self.inside.mutators.items; collector = c.self.inside.collector; left = c.self.inside.schedule.left } in
    let is : r ≡ c.args.self.now = c.self.view_is in
    holds_so c.args.board r.mutators r.collector r.left c.next_turn.new.self.left
    (subst (λ (x : Running). Holds (trace_of c.args.board x)) (sym is) c.requires.holds)

pub thread_turn-requires-clause-holds : goal.thread_turn-requires-clause-holds
thread_turn-requires-clause-holds c =
    let r : Running = record { mutators = c.self.inside.mutators.items; collector = c.self.inside.collector; left = c.self.inside.schedule.left } in
    let is : r ≡ c.args.self.now = c.self.view_is in
    holds_so c.args.board r.mutators r.collector r.left c.next_turn.new.self.left
    (subst (λ (x : Running). Holds (trace_of c.args.board x)) (sym is) c.requires.holds)

pub collector_turn-requires-clause-holds : goal.collector_turn-requires-clause-holds
collector_turn-requires-clause-holds c =
    let r : Running = record { mutators = c.self.inside.mutators.items; collector = c.self.inside.collector; left = c.self.inside.schedule.left } in
    let is : r ≡ c.args.self.now = c.self.view_is in
    holds_so c.args.board r.mutators r.collector r.left c.next_turn.new.self.left
    (subst (λ (x : Running). Holds (trace_of c.args.board x)) (sym is) c.requires.holds)

pub returns-then-from-len-clause-takes : goal.returns-then-from-len-clause-takes
returns-then-from-len-clause-takes c =
    let inside = c.self.inside in
    let r : Running = record { mutators = inside.mutators.items; collector = inside.collector; left = inside.schedule.left } in
    let is : r ≡ c.args.self.now = c.self.view_is in
    let w = c.args.board in
    let left = c.next_turn.new.self.left in
    let middle : Running = record { mutators = r.mutators; collector = r.collector; left = left } in
    let holds = subst (λ (x : Running). Holds (trace_of w x)) (sym is) c.requires.holds in
    let next = next_is (trace_of w r) holds c.rule_holds.ensures inside.ended.items c.deref.result.now inside.answered.items c.deref-2.result.now
    c.code-code.result inside.schedule.threads c.deref.ensures.value c.self.invariant.1 c.deref-2.ensures.value c.self.invariant.2
    c.self.invariant.0 c.code-code.ensures.stored r.left left c.in-Some.actor c.in-Some.ensures.next in
    let after = trace_of c.thread_turn.result c.thread_turn.new.self in
    subst (λ (x : Running). IsTurn (trace_of w x) after) is
    (thread_takes (trace_of w r) (trace_of w middle) after c.in-Some.actor left (λ i. trace_of w middle) c.thread_turn.ensures.left next
    c.thread_turn.ensures.turn)

pub returns-else-from-len-clause-takes : goal.returns-else-from-len-clause-takes
returns-else-from-len-clause-takes c =
    let inside = c.self.inside in
    let r : Running = record { mutators = inside.mutators.items; collector = inside.collector; left = inside.schedule.left } in
    let is : r ≡ c.args.self.now = c.self.view_is in
    let w = c.args.board in
    let left = c.next_turn.new.self.left in
    let middle : Running = record { mutators = r.mutators; collector = r.collector; left = left } in
    let holds = subst (λ (x : Running). Holds (trace_of w x)) (sym is) c.requires.holds in
    let next = next_is (trace_of w r) holds c.rule_holds.ensures inside.ended.items c.deref.result.now inside.answered.items c.deref-2.result.now
    c.code-code.result inside.schedule.threads c.deref.ensures.value c.self.invariant.1 c.deref-2.ensures.value c.self.invariant.2
    c.self.invariant.0 c.code-code.ensures.stored r.left left c.in-Some.actor c.in-Some.ensures.next in
    let after = trace_of c.collector_turn.result c.collector_turn.new.self in
    subst (λ (x : Running). IsTurn (trace_of w x) after) is
    (collector_takes (trace_of w r) (trace_of w middle) after c.in-Some.actor left (λ i. trace_of w middle) c.collector_turn.ensures.left next
    c.collector_turn.ensures.turn)
