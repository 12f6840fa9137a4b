-- The pages of a heap at its start are wholly free, one for each frame, each of a class of its area.
use Rattle.std.proofs.Common.{◌≡◌, ℕ, ◌+◌, ◌-◌, ◌<◌, ◌≤◌, inl, inr, List}
use Rattle.std.proofs.Common.{length, map, Some, None, slice_get, refl, sym, ap, ◌∙◌, arith}
use Rattle.std.specs.Option.{option_map}
use Rattle.std.proofs.lemmas.Bool.{lt-ltb, le-ltb, cases_lt}
use Rattle.std.proofs.lemmas.Option.{none-some, slice_get_past, slice_get_cases, slice_get-map}
use lib.ListN.{length-map}
use Rattle.kn_base.specs.declared.numbers.Span.{Span}
use Rattle.kn_base.specs.declared.heap.Sizes.{Sizes}
use Rattle.kn_base.specs.Sizes.{frame_count, nth_span, span_of_frame, small_area, large_area}
use Rattle.kn_base.specs.Pages.{whole_view}
use Rattle.kn_rule.specs.FrameSpans.{frame_span, span_or}
use Rattle.kn_rule.specs.Requests.{InArea}
use Rattle.kn_page.specs.declared.page.Page.{Page}
use Rattle.kn_page.specs.PageViews.{page_view}
use Rattle.kn_page.specs.Opened.{AreFirstPages, first_class}
use Rattle.kn_board.specs.Open.{AreWhole}

module _ (z : Sizes) (p : ℕ) where
  with_span : p < frame_count z → (span : Span) × (span_of_frame z p ≡ Some span)
  with_span h =
      elim (cases_lt p z.small) [
        | inl s ↦ (nth_span 1 z.small_words p, rw (lt-ltb p z.small s) refl)
        | inr l ↦ elim (cases_lt (p - z.small) z.large) [
          | inl s ↦ (nth_span (1 + small_area z) z.large_words (p - z.small), rw (le-ltb p z.small l, lt-ltb (p - z.small) z.large s) refl)
          | inr e ↦ (
            nth_span (1 + small_area z + large_area z) z.extra_words (p - z.small - z.large),
            rw (le-ltb p z.small l, le-ltb (p - z.small) z.large e, lt-ltb (p - z.small - z.large) z.extra (omega arith)) refl,
          )
        ]
      ]

  without_span : frame_count z ≤ p → span_of_frame z p ≡ None
  without_span h =
      rw (
        le-ltb p z.small (omega arith),
        le-ltb (p - z.small) z.large (omega arith),
        le-ltb (p - z.small - z.large) z.extra (omega arith),
      ) refl

  area_of : p < frame_count z → InArea z p (first_class z p)
  area_of h =
      elim (cases_lt p z.small) [
        | inl s ↦ rw (lt-ltb p z.small s) (record { small = λ _. s; large = λ e. absurd (omega arith); extra = λ e. absurd (omega arith) })
        | inr l ↦ elim (cases_lt p (z.small + z.large)) [
          | inl s ↦ rw (le-ltb p z.small l, lt-ltb p (z.small + z.large) s)
              (record { small = λ e. absurd (omega arith); large = λ _. (l, s); extra = λ e. absurd (omega arith) })
          | inr e ↦ rw (le-ltb p z.small l, le-ltb p (z.small + z.large) e)
              (record { small = λ e. absurd (omega arith); large = λ e. absurd (omega arith); extra = λ _. (e, h) })
        ]
      ]

module _ (z : Sizes) (pages : List Page) (first : AreFirstPages z pages) where
  count_is : length pages ≡ frame_count z
  count_is =
      elim (cases_lt (length pages) (frame_count z)) [
        | inl less ↦
            let span = with_span z (length pages) less in
            let none = ap (option_map page_view) (slice_get_past pages (length pages) (omega arith)) in
            absurd (none-some (whole_view (first_class z (length pages)) span.0)
            (sym none ∙ (first (length pages) ∙ ap (option_map (whole_view (first_class z (length pages)))) span.1)))
        | inr more ↦ elim (slice_get_cases pages (frame_count z)).1 [
          | inl there ↦
              let some = ap (option_map page_view) there.2 in
              absurd (none-some (page_view there.0)
              (sym (first (frame_count z) ∙ ap (option_map (whole_view (first_class z (frame_count z)))) (without_span z (frame_count z) (omega arith)))
              ∙ some))
          | inr past ↦ let l = past.0 in omega arith
        ]
      ]

  page_is : (p : ℕ) → p < frame_count z → slice_get (map page_view pages) p ≡ Some (whole_view (first_class z p) (frame_span z p))
  page_is p h =
      let span = with_span z p h in
      slice_get-map page_view pages p
      ∙ (first p ∙ (ap (option_map (whole_view (first_class z p))) span.1
      ∙ ap (λ s. Some (whole_view (first_class z p) (span_or s))) (sym span.1)))

  pub first_whole : AreWhole z (map page_view pages)
  first_whole = record {
    count = length-map pages page_view ∙ count_is;
    each = λ p h. (whole_view (first_class z p) (frame_span z p), page_is p h, (refl, area_of z p h, refl));
  }
