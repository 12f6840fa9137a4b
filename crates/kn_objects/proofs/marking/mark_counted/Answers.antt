use Rattle.std.proofs.Common.{◌≡◌, ◌↔◌, ℕ, ◌+◌, ◌<◌, ◌⊎◌, Some, None, take, get_or, arith}
use Rattle.kn_objects.specs.Marking.{IsCounted}
use Rattle.kn_objects.proofs.Adding.{Adds-as, Adds-nothing, Adds-then, some-take}
use Rattle.kn_objects.proofs.marking.mark_counted.Goals as goal
use Rattle.kn_objects.proofs.marking.mark_counted.Goals.{then-is_counted, else-is_counted}

pub loop-b-preserved : goal.loop-b-preserved
loop-b-preserved c =
    let back = c.args.back.now in
    let counts = c.args.counts.now in
    let b = c.loop-b.b in
    let Now : ℕ → Type 0 = λ n. (get_or back b None ≡ Some n) × (0 < get_or counts b 0) in
    let each : (n : ℕ) → IsCounted (take (b + 1) back) counts n ↔ (IsCounted (take b back) counts n ⊎ Now n) =
    λ n. some-take (λ k v. (v ≡ Some n) × (0 < get_or counts k 0)) back None b (omega arith) (λ k (e, some). cc) in
    let counted = c.is_counted.ensures in
    elim c.if-is_counted.branch [
      | then-is_counted w ↦
          let new = Adds-as Now (λ n. (λ h. h.0, λ e. (e, counted.0 w.if-is_counted.true))) w.mark_value-height.ensures in
          rw (w.marks-is, w.work-is, w.height-is) (Adds-then (IsCounted (take (b + 1) back) counts) (omega arith) c.loop-b.invariant new each)
      | else-is_counted w ↦
          let new = Adds-nothing Now c.loop-b.marks c.loop-b.work c.loop-b.height (λ n born h. absurd (let yes = counted.1 h.1 in cc)) in
          rw (w.marks-is, w.work-is, w.height-is) (Adds-then (IsCounted (take (b + 1) back) counts) (omega arith) c.loop-b.invariant new each)
    ]
