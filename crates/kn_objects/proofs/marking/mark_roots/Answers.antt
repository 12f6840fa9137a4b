use Rattle.std.proofs.Common.{ℕ, ◌⊎◌, arith}
use Rattle.kn_objects.specs.Marking.{IsHeldIn, IsCounted, IsRootIn}
use Rattle.kn_objects.proofs.Adding.{Adds-then}
use Rattle.kn_objects.proofs.marking.mark_roots.Goals as goal

pub returns : goal.returns
returns c =
    let roots = c.args.roots.now in
    let Last : ℕ → Type 0 = λ n. IsHeldIn roots.stable.now n ⊎ IsCounted roots.back.now roots.counts.now n in
    let Later : ℕ → Type 0 = λ n. IsHeldIn roots.globals.now n ⊎ Last n in
    let last = Adds-then Last (omega arith) c.mark_values-height-2.ensures c.mark_counted.ensures (λ n. (λ s. s, λ s. s)) in
    let later = Adds-then Later (omega arith) c.mark_values-height.ensures last (λ n. (λ s. s, λ s. s)) in
    Adds-then (IsRootIn roots) (omega arith) c.mark_rows-height.ensures later (λ n. (λ s. s, λ s. s))
