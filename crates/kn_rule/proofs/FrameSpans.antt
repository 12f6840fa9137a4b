-- The frame of a word, for sizes that are good.
use Rattle.std.proofs.Common.{◌≡◌, ℕ, zero, suc, ◌<◌, ◌≤◌, inl, inr, cond, Option, Some, None, refl, sym, subst, ap, ◌∙◌, arith}
use Rattle.std.specs.Prelude.{IsSome}
use Rattle.std.proofs.lemmas.Bool.{cases_lt, cases_eq}
use Rattle.std.proofs.lemmas.Bool.Decides.{leb_tells}
use Rattle.kn_base.specs.declared.numbers.Span.{Span}
use Rattle.kn_base.specs.declared.heap.Sizes.{Sizes}
use Rattle.kn_base.specs.Spans.{end_of}
use Rattle.kn_base.specs.SpanLists.{HasWord}
use Rattle.kn_base.specs.Sizes.{IsGood, frame_count, span_of_frame}
use Rattle.kn_base.specs.Frames.{FramesLie, LiesInHeap}
use Rattle.kn_base.proofs.Frames.{frames_lie_so}
use Rattle.kn_rule.specs.FrameSpans.{span_or, frame_span, frame_before, frame_at}

some_is : (x : Option Span) → IsSome x → x ≡ Some (span_or x)
some_is None h = absurd (cc)
some_is (Some span) h = refl

-- a frame that is there is the span of its number
pub is_span_of : (z : Sizes) (p : ℕ) (span : Span) → span_of_frame z p ≡ Some span → frame_span z p ≡ span
is_span_of z p span e = ap span_or e

module _ (z : Sizes) (good : IsGood z) where
  lie : FramesLie z
  lie = frames_lie_so z good

  -- each frame has its span
  pub is_span : (p : ℕ) → p < frame_count z → span_of_frame z p ≡ Some (frame_span z p)
  is_span p h = some_is (span_of_frame z p) (lie.some p h)

  -- a frame ends before each later one begins
  ordered : (p q : ℕ) → p < q → q < frame_count z → end_of (frame_span z p) ≤ (frame_span z q).start
  ordered p q less h = lie.apart p q (frame_span z p) (frame_span z q) less (is_span p (omega arith)) (is_span q h)

  -- a word is in one frame at most
  pub one_frame : (p q a : ℕ) → p < frame_count z → q < frame_count z → HasWord (frame_span z p) a → HasWord (frame_span z q) a → p ≡ q
  one_frame p q a hp hq x y = elim (cases_lt p q) [
    | inl less ↦ let o = ordered p q less hq in let u = x.1 in let w = y.0 in absurd (omega arith)
    | inr more ↦ elim (cases_lt q p) [
      | inl less ↦ let o = ordered q p less hp in let u = y.1 in let w = x.0 in absurd (omega arith)
      | inr same ↦ omega arith
    ]
  ]

  before_is : (a p n : ℕ) → n ≤ frame_count z → p < n → HasWord (frame_span z p) a → frame_before z a n ≡ p
  before_is a p zero hn less h = absurd (omega arith)
  before_is a p (suc n) hn less h = elim (leb_tells (frame_span z n).start a) [
    | inl t ↦ elim (cases_eq p n) [
      | inl e ↦ ap (λ b. cond b n (frame_before z a n)) t.0 ∙ sym e
      | inr ne ↦ let o = ordered p n (omega arith) hn in let s = t.1 in let w = h.1 in absurd (omega arith)
    ]
    | inr t ↦ elim (cases_eq p n) [
      | inl e ↦ let s = t.1 in let w : (frame_span z n).start ≤ a = subst (λ k. (frame_span z k).start ≤ a) e h.0 in absurd (omega arith)
      | inr ne ↦ ap (λ b. cond b n (frame_before z a n)) t.0 ∙ before_is a p n (omega arith) (omega arith) h
    ]
  ]

  -- the frame of a word is the one that has it
  pub frame_at_is : (a p : ℕ) → p < frame_count z → HasWord (frame_span z p) a → frame_at z a ≡ p
  frame_at_is a p near h = before_is a p (frame_count z) (omega arith) near h

  -- frames lie within the words of the heap, from address 1 on
  pub in_heap : (p : ℕ) → p < frame_count z → LiesInHeap z (frame_span z p)
  in_heap p near = lie.within p (frame_span z p) (is_span p near)
