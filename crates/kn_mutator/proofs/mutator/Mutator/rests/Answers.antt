use Rattle.std.proofs.Common.{◌≡◌, true, false, length, refl, ap, ◌∙◌, sym}
use Rattle.std.proofs.lemmas.Bool.{true≢false}
use Rattle.kn_mutator.specs.Mutating.{Mutating}
use Rattle.kn_mutator.specs.Tasks.{has_single}
use Rattle.kn_mutator.specs.After.{resting_task}
use Rattle.kn_mutator.proofs.Begins.{rests_ends, rests_with, single_there, single_absent}
use Rattle.kn_mutator.proofs.mutator.Mutator.rests.Goals.{then-self-len, else-self-len+then-has_single, else-self-len+else-has_single}
use Rattle.kn_mutator.proofs.mutator.Mutator.rests.Goals as goal

pub returns : goal.returns
returns c =
    let m : Mutating = c.args.self.now in
    let begun : c.self.inside.begun ≡ m.begun = ap (λ (m : Mutating). m.begun) c.self.view_is in
    let len : c.len.result ≡ length m.calls = c.len.ensures ∙ (c.self.inside.calls.ok.0 ∙ ap (λ (m : Mutating). length m.calls) c.self.view_is) in
    let single = ap (λ (m : Mutating). has_single m.alloc.hands) c.self.view_is in
    let task : c.if-self-len.self ≡ resting_task m = elim c.if-self-len.branch as (λ _. c.if-self-len.self ≡ resting_task m) [
      | then-self-len w ↦ w.self-is ∙ rests_ends m c.self.inside.begun c.len.result begun len w.if-self-len.true
      | else-self-len+then-has_single w ↦
          w.self-is ∙ rests_with m c.self.inside.begun c.len.result begun len true w.if-self-len.false
          (sym single ∙ single_there c.self.inside.allocator.hands (w.if-has_single.ensures.0 refl))
      | else-self-len+else-has_single w ↦
          w.self-is ∙ rests_with m c.self.inside.begun c.len.result begun len false w.if-self-len.false
          (sym single ∙ single_absent c.self.inside.allocator.hands (λ h. true≢false (sym (w.if-has_single.ensures.1 h))))
    ] in
    λ t. record (c.self.view_is t) { task = task t }
