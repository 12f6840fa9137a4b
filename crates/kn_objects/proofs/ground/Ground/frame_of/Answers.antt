use Rattle.std.proofs.Common.{inl, inr, arith}
use Rattle.kn_objects.proofs.Frames.{frame_number}
use Rattle.kn_objects.proofs.ground.Ground.frame_of.Goals as goal

pub returns-then-place-small_area : goal.returns-then-place-small_area
returns-then-place-small_area c = rw (← c.self.view_is, c.saturating_sub-place.ensures)
    (λ p words h is low high. elim (frame_number c.self.inside.sizes c.args.word p words h is low high) [
      | inl t ↦ t.0
      | inr t ↦ absurd (omega (arith, t.1))
    ])

pub returns-else-place-small_area : goal.returns-else-place-small_area
returns-else-place-small_area c = rw (← c.self.view_is, c.saturating_sub-place.ensures)
    (λ p words h is low high. elim (frame_number c.self.inside.sizes c.args.word p words h is low high) [
      | inl t ↦ absurd (omega (arith, t.1))
      | inr t ↦ t.0
    ])
