-- Objects lie below the end of the large frames.
use Rattle.std.proofs.Common.{◌≡◌, ℕ, ◌+◌, ◌-◌, ◌*◌, ◌<◌, ◌≤◌, inl, inr, cond, Some, sym, ap, ◌∙◌, subst, arith}
use Rattle.std.proofs.Math.Nat.{mul-le-mul_right}
use Rattle.std.proofs.lemmas.Bool.{lt-ltb, le-ltb, cases_lt}
use Rattle.kn_base.specs.declared.numbers.Span.{Span}
use Rattle.kn_base.specs.declared.heap.Sizes.{Sizes}
use Rattle.kn_base.specs.Spans.{end_of}
use Rattle.kn_base.specs.Sizes.{small_area, nth_span, span_of_extra, span_of_large, span_of_frame}
use Rattle.kn_graph.specs.Graph.{Shape, words_of, LiesInFrame}
use Rattle.kn_rule.specs.MarkedHeap.{cell_limit}
use Rattle.kn_keep_heap.proofs.Changed.{some_is}
use Rattle.kn_keep_heap.proofs.Fields.{first_word}

-- one of several frames of an area ends within the area
nth_ends : (words count n : ℕ) → n < count → n * words + words ≤ count * words
nth_ends words count n h =
    let rows : (n + 1) * words ≤ count * words = mul-le-mul_right words (let l : n + 1 ≤ count = omega arith in l) in
    omega arith

module _ (z : Sizes) (p : ℕ) (span : Span) (is : span_of_frame z p ≡ Some span) where
  small_ends : p < z.small → end_of span ≤ cell_limit z
  small_ends l =
      let here : span_of_frame z p ≡ Some (nth_span 1 z.small_words p) =
      ap (λ b. cond b (Some (nth_span 1 z.small_words p)) (span_of_large z (p - z.small))) (lt-ltb p z.small l) in
      let same : nth_span 1 z.small_words p ≡ span = some_is (nth_span 1 z.small_words p) span (sym here ∙ is) in
      let ends = nth_ends z.small_words z.small p l in
      subst (λ (x : Span). end_of x ≤ cell_limit z) same (omega (arith, ends))

  large_ends : z.small ≤ p → p < z.small + z.large → end_of span ≤ cell_limit z
  large_ends m l =
      let n = p - z.small in
      let near : n < z.large = omega arith in
      let large : Span = nth_span (1 + small_area z) z.large_words n in
      let past : span_of_frame z p ≡ span_of_large z n =
      ap (λ b. cond b (Some (nth_span 1 z.small_words p)) (span_of_large z n)) (le-ltb p z.small m) in
      let here : span_of_large z n ≡ Some large = ap (λ b. cond b (Some large) (span_of_extra z (n - z.large))) (lt-ltb n z.large near) in
      let same : large ≡ span = some_is large span (sym (past ∙ here) ∙ is) in
      let ends = nth_ends z.large_words z.large n near in
      subst (λ (x : Span). end_of x ≤ cell_limit z) same (omega (arith, ends))

  pub frame_ends : p < z.small + z.large → end_of span ≤ cell_limit z
  frame_ends l = elim (cases_lt p z.small) [ inl less ↦ small_ends less | inr more ↦ large_ends more l ]

-- an object ends below that
pub object_ends : (z : Sizes) (o : Shape) → LiesInFrame z (words_of o) → end_of (words_of o) ≤ cell_limit z
object_ends z o f =
    let ends = frame_ends z f.frame f.words f.is_frame f.is_for_cells in let last = f.inside.1 in omega (arith, ends, last)

-- and so its first word lies there
pub below_limit : (z : Sizes) (o : Shape) → LiesInFrame z (words_of o) → o.address < cell_limit z
below_limit z o f = let ends = object_ends z o f in let first = first_word o in let l = first.1 in omega (arith, ends, l)
