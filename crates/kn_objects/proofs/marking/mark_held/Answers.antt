use Rattle.std.proofs.Common.{ℕ, ◌<◌, ◌↔◌, length, inl, inr, ap, arith}
use Rattle.kn_objects.specs.Marking.{IsMarked, IsRootIn}
use Rattle.kn_objects.proofs.Behind.{IsBehind-roots}
use Rattle.kn_objects.proofs.marking.mark_held.Goals as goal

pub returns : goal.returns
returns c = λ r are n n_born.
    let objects = c.args.objects.now in
    let roots = c.args.roots.now in
    let start : ℕ → Type 0 = IsMarked c.mark_roots-height.new.marks in
    let added = c.mark_roots-height.ensures in
    let starts : (k : ℕ) → start k ↔ ((k < length objects) × IsRootIn roots k) =
    λ k. (
      λ marked. elim ((added.marked k).0 marked) [ inl old ↦ absurd (let clear = c.clear.ensures k in cc) | inr p ↦ (omega (arith, p.0), p.1) ],
      λ p. (added.marked k).1 (inr (omega (arith, p.0), p.1)),
    ) in
    let born : n < length objects = omega (arith, ap (λ o. length o) are.objects_are) in
    let behind = c.mark_behind.ensures n born in
    let reachable = IsBehind-roots start are starts n born in
    (λ marked. reachable.0 (behind.0 marked), λ walk. behind.1 (reachable.1 walk))
