use Rattle.std.proofs.Common.{◌≡◌, ◌∙◌, ◌++◌, ◌∷◌, [], Bool, List, length, map, slice_set, sym, ap, subst}
use Rattle.kn_mutator.specs.Mutating.{Mutating}
use Rattle.kn_trace.specs.Between.{Holds, Running, Stays, trace_of}
use Rattle.kn_trace.specs.Traces.{IsCollectorTurn, ends, is_end, is_over}
use Rattle.kn_trace.proofs.Flags.{set_last}
use Rattle.kn_trace.proofs.Turning.{holds_behind, stays_behind, turn_behind}
use Rattle.kn_trace.proofs.actors.Actors.collector_turn.Goals as goal

pub invariant_of-self : goal.invariant_of-self
invariant_of-self c =
    let ms = c.self.inside.mutators.items in
    let k = c.self.inside.collector in
    let r : Running = record { mutators = ms; collector = k; left = c.self.inside.schedule.left } in
    let is : r ≡ c.args.self.now = c.self.view_is in
    let behind = subst (λ (x : Running). c.args.by ≡ length x.mutators) (sym is) c.requires.by in
    let b = c.collect_on-made.result.has_ended in (
      c.self.invariant.0,
      ap (λ (x : List Bool). slice_set x c.from.result b) c.self.invariant.1
          ∙ (ap (λ j. slice_set (ends ms k) j b) (c.from.ensures ∙ behind)
          ∙ (set_last (λ (m : Mutating). is_end m.task) ms (is_over k.stage) b
          ∙ ap (λ (x : Bool). map (λ (m : Mutating). is_end m.task) ms ++ x ∷ []) c.collect_on-made.ensures.ended)),
      c.self.invariant.2,
    )

pub returns : goal.returns
returns c =
    let r : Running = record { mutators = c.self.inside.mutators.items; collector = c.self.inside.collector; left = c.self.inside.schedule.left } in
    let is : r ≡ c.args.self.now = c.self.view_is in
    let k' = c.collect_on-made.new.collector in
    let w = c.args.board in
    let w' = c.collect_on-made.result.board in
    let laws = c.turn_laws.ensures in
    let moves = c.agreement_laws.ensures.moves in
    let holds = subst (λ (x : Running). Holds (trace_of w x)) (sym is) c.requires.holds in
    let behind = subst (λ (x : Running). c.args.by ≡ length x.mutators) (sym is) c.requires.by in
    let made = c.collect_on-made.ensures.made in
    let after : Running = record { mutators = r.mutators; collector = k'; left = r.left } in
    record {
      holds = holds_behind laws.others laws.heap laws.unswept moves w w' r c.args.by k' behind holds made;
      stays = subst (λ (x : Running). Stays (trace_of w x) (trace_of w' after)) is
          (stays_behind laws.others laws.heap laws.unswept moves w w' r c.args.by k' behind holds made);
      left = ap (λ (x : Running). x.left) is;
      turn = subst (λ (x : Running). IsCollectorTurn c.args.by (trace_of w x) (trace_of w' after)) is
          (turn_behind laws.others laws.heap laws.unswept moves w w' r c.args.by k' behind holds made);
    }
