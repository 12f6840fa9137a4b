use Rattle.std.proofs.Common.{◌≡◌, ◌∙◌, ◌++◌, ◌∷◌, ◌<◌, ◌≤◌, ℕ, [], Bool, List}
use Rattle.std.proofs.Common.{false, get_or, length, map, slice_set, sym, ap, subst, arith, length-set}
use Rattle.kn_graph.specs.declared.entries.Entry.{Entry}
use Rattle.kn_mutator.specs.Mutating.{Mutating}
use Rattle.kn_trace.specs.Between.{Holds, Running, Stays, trace_of}
use Rattle.kn_trace.specs.Traces.{IsThreadTurn, ends, is_end, is_over}
use Rattle.kn_trace.proofs.Flags.{goes_on_at, set_left, thread_flag}
use Rattle.kn_trace.proofs.Logs.{short_log}
use Rattle.kn_trace.proofs.Turning.{agrees_next, holds_next, read_at, stays_next, turn_next}
use Rattle.kn_trace.proofs.actors.Actors.thread_turn.Goals as goal

pub turn_on-made-requires-clause-agrees : goal.turn_on-made-requires-clause-agrees
turn_on-made-requires-clause-agrees c =
    let r : Running = record { mutators = c.self.inside.mutators.items; collector = c.self.inside.collector; left = c.self.inside.schedule.left } in
    let is : r ≡ c.args.self.now = c.self.view_is in
    let holds = subst (λ (x : Running). Holds (trace_of c.args.board x)) (sym is) c.requires.holds in
    let near = subst (λ (x : Running). c.args.thread < length x.mutators) (sym is) c.requires.thread in
    holds.agree c.args.thread c.index_mut-mutator.result.now
    (read_at r.mutators c.from.result c.args.thread c.index_mut-mutator.result.now c.from.ensures near c.index_mut-mutator.ensures.value)

pub turn_on-made-requires-clause-going : goal.turn_on-made-requires-clause-going
turn_on-made-requires-clause-going c =
    let r : Running = record { mutators = c.self.inside.mutators.items; collector = c.self.inside.collector; left = c.self.inside.schedule.left } in
    let is : r ≡ c.args.self.now = c.self.view_is in
    let m = c.index_mut-mutator.result.now in
    let near = subst (λ (x : Running). c.args.thread < length x.mutators) (sym is) c.requires.thread in
    let flag = subst (λ (x : Running). get_or (ends x.mutators x.collector) c.args.thread false ≡ false) (sym is) c.requires.going in
    let at = read_at r.mutators c.from.result c.args.thread m c.from.ensures near c.index_mut-mutator.ensures.value in
    goes_on_at m.task (sym (thread_flag r.mutators r.collector c.args.thread m at) ∙ flag)

pub overflow_cast-log : goal.overflow_cast-log
overflow_cast-log c =
    let r : Running = record { mutators = c.self.inside.mutators.items; collector = c.self.inside.collector; left = c.self.inside.schedule.left } in
    let is : r ≡ c.args.self.now = c.self.view_is in
    let m = c.index_mut-mutator.result.now in
    let m' = c.turn_on-made.new.mutator in
    let laws = c.turn_laws.ensures in
    let holds = subst (λ (x : Running). Holds (trace_of c.args.board x)) (sym is) c.requires.holds in
    let near = subst (λ (x : Running). c.args.thread < length x.mutators) (sym is) c.requires.thread in
    let at = read_at r.mutators c.from.result c.args.thread m c.from.ensures near c.index_mut-mutator.ensures.value in
    let agrees = agrees_next laws.others laws.heap laws.unswept c.agreement_laws.ensures.moves laws.met c.args.board c.turn_on-made.result.board r
    c.args.thread c.from.result m m' c.from.ensures holds near at c.turn_on-made.ensures.made in
    let short = subst (λ (x : List Entry). length x ≤ 16384) (sym c.log.ensures) (short_log c.turn_on-made.result.board c.args.thread m' agrees) in
    omega (arith, short)

pub invariant_of-self : goal.invariant_of-self
invariant_of-self c =
    let ms = c.self.inside.mutators.items in
    let k = c.self.inside.collector in
    let r : Running = record { mutators = ms; collector = k; left = c.self.inside.schedule.left } in
    let is : r ≡ c.args.self.now = c.self.view_is in
    let i = c.from.result in
    let m' = c.turn_on-made.new.mutator in
    let b = c.turn_on-made.result.has_ended in
    let n = length c.log.result.now in
    let below = subst (λ (x : Running). c.args.thread < length x.mutators) (sym is) c.requires.thread in
    let near : i < length ms = omega (arith, below, c.from.ensures) in (
      c.self.invariant.0 ∙ sym (length-set ms i m'),
      ap (λ (x : List Bool). slice_set x c.from-2.result b) c.self.invariant.1
          ∙ (ap (λ j. slice_set (ends ms k) j b) (c.from-2.ensures ∙ sym c.from.ensures)
          ∙ set_left (λ (m : Mutating). is_end m.task) ms (is_over k.stage ∷ []) i m' b near c.turn_on-made.ensures.ended),
      ap (λ (x : List ℕ). slice_set x c.from-3.result n) c.self.invariant.2
          ∙ (ap (λ j. slice_set (map (λ (m : Mutating). length m.log) ms ++ 0 ∷ []) j n) (c.from-3.ensures ∙ sym c.from.ensures)
          ∙ set_left (λ (m : Mutating). length m.log) ms (0 ∷ []) i m' n near (ap (λ (x : List Entry). length x) c.log.ensures)),
    )

pub returns : goal.returns
returns c =
    let r : Running = record { mutators = c.self.inside.mutators.items; collector = c.self.inside.collector; left = c.self.inside.schedule.left } in
    let is : r ≡ c.args.self.now = c.self.view_is in
    let m = c.index_mut-mutator.result.now in
    let m' = c.turn_on-made.new.mutator in
    let w = c.args.board in
    let w' = c.turn_on-made.result.board in
    let laws = c.turn_laws.ensures in
    let moves = c.agreement_laws.ensures.moves in
    let holds = subst (λ (x : Running). Holds (trace_of w x)) (sym is) c.requires.holds in
    let near = subst (λ (x : Running). c.args.thread < length x.mutators) (sym is) c.requires.thread in
    let at = read_at r.mutators c.from.result c.args.thread m c.from.ensures near c.index_mut-mutator.ensures.value in
    let made = c.turn_on-made.ensures.made in
    let after : Running = record { mutators = slice_set r.mutators c.from.result m'; collector = r.collector; left = r.left } in
    record {
      holds = holds_next laws.others laws.heap laws.unswept moves laws.met w w' r c.args.thread c.from.result m m' c.from.ensures holds near at made;
      stays = subst (λ (x : Running). Stays (trace_of w x) (trace_of w' after)) is
          (stays_next laws.others laws.heap laws.unswept moves laws.met w w' r c.args.thread c.from.result m m' c.from.ensures holds near at made);
      left = ap (λ (x : Running). x.left) is;
      turn = subst (λ (x : Running). IsThreadTurn c.args.thread (trace_of w x) (trace_of w' after)) is
          (turn_next laws.others laws.heap laws.unswept moves laws.met w w' r c.args.thread c.from.result m m' c.from.ensures holds near at made);
    }
