-- At the start no frame is unswept, and no caller has made a step.
use Rattle.std.proofs.Common.{◌≡◌, ℕ, zero, suc, replicate, refl, sym, ap, ◌∙◌}
use Rattle.std.proofs.Common.{slice_index, slice_index_or}
use Rattle.kn_base.specs.declared.places.Place.TheVariants.{Frame}
use Rattle.kn_base.specs.declared.kinds.FrameKind.TheVariants as frames
use Rattle.kn_rule.specs.Decoding.{frame_of}
use Rattle.kn_rule.specs.Places.{index, table_words}
use Rattle.kn_rule.specs.Steps.{callers}
use Rattle.kn_rule.specs.Rule.{fresh}
use Rattle.kn_others.specs.Laws.{OpenedIsSwept}

-- a list of one value has it everywhere
all_same : {A : Type 0} (x : A) (n i : ℕ) → slice_index_or (replicate n x) i x ≡ x
all_same x zero i = refl
all_same x (suc n) zero = refl
all_same x (suc n) (suc i) = all_same x n i

vacant : (frame_of 0).kind ≡ frames.Vacant
unfolding frame_of
vacant = refl

pub opened_is_swept : OpenedIsSwept
opened_is_swept z pages = (
  λ p l e.
      let zero_is : slice_index (replicate (table_words z.sizes) 0) (index z.sizes (Frame p)) ≡ 0 =
      all_same 0 (table_words z.sizes) (index z.sizes (Frame p)) in
      let y : frames.Vacant ≡ frames.Unswept = sym (ap (λ n. (frame_of n).kind) zero_is ∙ vacant) ∙ e in absurd (cc),
  λ c. all_same (fresh z) (callers z.sizes) c,
)
