-- The sweep that a claim begins, by the word that it wants.
use Rattle.std.proofs.Common.{◌≡◌, ◌≢◌, ℕ, ◌/◌, ◌^◌, cond, eqb, Some, None, inl, inr, refl, sym, ap, ◌∙◌}
use Rattle.std.proofs.lemmas.Bool.Decides.{eqb_tells}
use Rattle.kn_base.specs.declared.numbers.Span.{Span}
use Rattle.kn_base.specs.declared.heap.Sizes.{Sizes}
use Rattle.kn_base.specs.declared.kinds.FrameKind.{FrameKind}
use Rattle.kn_base.specs.declared.kinds.FrameKind.TheVariants as frames
use Rattle.kn_base.specs.Functions.{Tells}
use Rattle.kn_rule.specs.Decoding.{frame_of, frame_kind_of}
use Rattle.kn_rule.specs.FrameSpans.{frame_span}
use Rattle.kn_rule.specs.Outcomes.{sweep_begun}
use Rattle.kn_view.specs.Looks.{sweep_from}

kind_is : (w : ℕ) → (frame_of w).kind ≡ frame_kind_of (w / 2 ^ 56)
unfolding frame_of
kind_is w = refl

-- a frame that was unswept is swept from its start on
pub unswept_begun : (z : Sizes) (p w : ℕ) (span : Span) → span ≡ frame_span z p → w / 2 ^ 56 ≡ 4 →
    sweep_from p (Some span.start) ≡ sweep_begun z p (frame_of w).kind
unswept_begun z p w span e is =
    ap (λ (s : Span). sweep_from p (Some s.start)) e ∙ sym (ap (sweep_begun z p) (kind_is w ∙ ap frame_kind_of is))

-- and no other
module _ (z : Sizes) (p : ℕ) where
  five : (n : ℕ) → n ≢ 4 → Tells n 4 → None ≡ sweep_begun z p (cond (eqb n 4) frames.Unswept frames.Owned)
  five n ne (inl t) = absurd (ne t.1)
  five n ne (inr t) = sym (ap (λ b. sweep_begun z p (cond b frames.Unswept frames.Owned)) t.0)

  step : (n m : ℕ) (k rest : FrameKind) → None ≡ sweep_begun z p k → None ≡ sweep_begun z p rest → Tells n m →
      None ≡ sweep_begun z p (cond (eqb n m) k rest)
  step n m k rest a b (inl t) = a ∙ sym (ap (λ b. sweep_begun z p (cond b k rest)) t.0)
  step n m k rest a b (inr t) = b ∙ sym (ap (λ b. sweep_begun z p (cond b k rest)) t.0)

  none_of : (n : ℕ) → n ≢ 4 → None ≡ sweep_begun z p (frame_kind_of n)
  none_of n ne =
      step n 0 frames.Vacant _ refl (step n 1 frames.Empty _ refl (step n 2 frames.Ready _ refl (step n 3 frames.Used _ refl
      (five n ne (eqb_tells n 4)) (eqb_tells n 3)) (eqb_tells n 2)) (eqb_tells n 1)) (eqb_tells n 0)

  pub other_begun : (w : ℕ) → w / 2 ^ 56 ≢ 4 → sweep_from p None ≡ sweep_begun z p (frame_of w).kind
  other_begun w ne = none_of (w / 2 ^ 56) ne ∙ sym (ap (sweep_begun z p) (kind_is w))
