use Rattle.std.proofs.Common.{◌≡◌, refl, sym, ap, subst}
use Rattle.kn_graph.specs.Ground.{Ground}
use Rattle.kn_mark.specs.Kept.{Kept, LiesInHeap}
use Rattle.kn_mark.specs.Steps.{behind}
use Rattle.kn_mark.proofs.Behind.{lies_behind}
use Rattle.kn_mark.proofs.marker.Marker.learns.Goals as goal

pub invariant_of-self : goal.invariant_of-self
invariant_of-self c =
    let k : Kept = c.args.self.now in
    let n = c.args.next in
    let w = c.args.word in
    let v = c.self.view_is in
    let z : Ground = record { sizes = k.sizes; layouts = c.args.layouts.now } in
    let work = c.work_behind-work.ensures z refl refl in
    let hints = c.learn_hints.ensures k (sym (ap (λ (q : Kept). q.hints) v)) (sym (ap (λ (q : Kept). q.work.epoch) v))
    (sym (ap (λ (q : Kept). q.cursor) v)) in
    let all : behind z k n w ≡ record {
      sizes = c.self.inside.sizes;
      work = c.work_behind-work.result;
      stage = c.stage_behind-stage.result;
      hints = c.learn_hints.new.hints.items;
      cursor = c.cursor_behind-cursor.result;
    } = λ t. record {
      sizes = (sym v t).sizes;
      work = sym work t;
      stage = sym c.stage_behind-stage.ensures t;
      hints = sym hints t;
      cursor = sym c.cursor_behind-cursor.ensures t;
    } in
    subst LiesInHeap all
    (lies_behind z k (subst LiesInHeap v c.self.invariant) (c.requires.at_ref z refl) n w c.requires.next c.requires.near)
