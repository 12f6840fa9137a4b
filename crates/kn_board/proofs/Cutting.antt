-- What taking a cell asks of what is stored of its frame.
use Rattle.std.proofs.Common.{◌≡◌, ℕ, ◌+◌, ◌^◌, ◌<◌, ◌≤◌, List, [], ◌∷◌, Option, Some, None, sym, ap, ◌∙◌, subst, arith}
use Rattle.std.proofs.Common.{◌==◌, cond, length, slice_index_or, slice_set}
use Rattle.std.proofs.lemmas.List.{get_or_read}
use Rattle.kn_base.specs.declared.numbers.Span.{Span}
use Rattle.kn_base.specs.declared.classes.TheConstants.{NEXT_FIT_CLASS}
use Rattle.kn_base.specs.declared.heap.Sizes.{Sizes}
use Rattle.kn_base.specs.declared.places.Place.{Place}
use Rattle.kn_base.specs.Sizes.{IsGood, frame_count}
use Rattle.kn_base.specs.Spans.{end_of}
use Rattle.kn_base.specs.SpanLists.{HasWord, without, StandApart, IsFreeList, IsFreeListOf}
use Rattle.kn_graph.specs.declared.entries.Entry.{Entry}
use Rattle.kn_graph.specs.Ground.{Ground, IsGoodGround}
use Rattle.kn_rule.specs.declared.steps.Kind.TheVariants.{K12}
use Rattle.kn_rule.specs.declared.steps.Action.{Action}
use Rattle.kn_rule.specs.FrameSpans.{frame_span, frame_at}
use Rattle.kn_rule.specs.Requests.{class_asked, AreFree}
use Rattle.kn_rule.specs.Steps.{Found, address_in}
use Rattle.kn_rule.specs.Outcomes.{outcome}
use Rattle.kn_rule.proofs.FrameSpans.{in_heap, frame_at_is}
use Rattle.kn_keep_heap.proofs.Changed.{some_is}
use Rattle.kn_keep_heap.proofs.NextWord.{request_two}
use Rattle.kn_view.specs.Parts.{Part, cell_asked, cell_at}
use Rattle.kn_holds.specs.Holds.{Hold, IsCutOf, FreeCellsLieInOne, FreeListsAreShort}
use Rattle.kn_board.specs.Asks.{AsksCell, AsksNext, AsksClear}
use Rattle.kn_board.specs.Noted.{Noted}
use Rattle.kn_board.specs.Stored.{HoldsFit, hold_at, nobody}
use Rattle.kn_board.proofs.Notings.{cell_made}
use Rattle.kn_board.proofs.WordFrames.{two_words}

-- spans that stand apart between two numbers do so between numbers further apart
wider : (high high' : ℕ) → high ≤ high' → (spans : List Span) (low low' : ℕ) → low' ≤ low → StandApart low high spans →
    StandApart low' high' spans
wider high high' h [] low low' l s = tt
wider high high' h (span ∷ spans) low low' l s =
    let a = s.0 in let b = s.2 in let next = end_of span + 1 in
    (omega arith, s.1, omega arith, wider high high' h spans next next (omega arith) s.3)

pub is_free_list : (z : Sizes) → IsGood z → (p : ℕ) → p < frame_count z → (spans : List Span) → IsFreeListOf (frame_span z p) spans →
    IsFreeList spans
is_free_list z good p near spans s =
    let lies = (in_heap z good p near).2 in let few = good.of_frames.words.1 in
    wider (end_of (frame_span z p) + 1) (2 ^ 32) (omega arith) spans (frame_span z p).start 0 (omega arith) s

module _ (z : Ground) (good : IsGoodGround z) (by : ℕ) (old : Part) (p : Place) (a : Action) (n : ℕ) (holds : List Hold)
    (fits : HoldsFit z.sizes holds) (asks : AsksClear z by old p a n holds) (none : old.taken ≡ None) (x : ℕ) (here : x ≡ address_in p) where
  abbrev b : ℕ
  b = asks.address

  asked : AsksCell z by old p a n holds b
  asked = subst (λ t. AsksNext z by old p a n holds b t) none asks.next

  is_there : x ≡ b
  is_there = here ∙ ap address_in asks.place

  has : HasWord (frame_span z.sizes asked.frame) b
  has =
      let two = request_two z asked.call asked.words asked.is_request in
      let i0 = asked.inside.0 in let i1 = asked.inside.1 in (omega arith, omega arith)

  -- the address is that of a word of a frame
  pub lies_there : (q : ℕ) × (q < frame_count z.sizes) × HasWord (frame_span z.sizes q) x
  lies_there = (asked.frame, asked.near, subst (λ x. HasWord (frame_span z.sizes asked.frame) x) (sym is_there) has)

  module _ (k : ℕ) (at : k ≡ frame_at z.sizes x) where
    frame_is : k ≡ asked.frame
    frame_is = at ∙ (ap (frame_at z.sizes) is_there ∙ frame_at_is z.sizes good.sizes b asked.frame asked.near has)

    near : k < frame_count z.sizes
    near = let e = frame_is in let l = asked.near in omega arith

    its : (hold_at holds k).by ≡ Some by
    its = ap (λ k. (hold_at holds k).by) frame_is ∙ asked.owned

    -- which is one of those stored
    pub near_hold : k < length holds
    near_hold = let l = near in let e = fits.count in omega arith

    list : IsFreeListOf (frame_span z.sizes k) (hold_at holds k).free.spans
    list = fits.lists k by near its

    module _ (was : Hold) (read : was ≡ slice_index_or holds k was) (span : Span) (class : ℕ)
        (told : ◌≡◌ {A = Option (Span × ℕ)} (Some (span, class)) (cell_at z x old.position)) where
      was_is : was ≡ hold_at holds k
      was_is = get_or_read holds k was near_hold read (nobody 0)

      same : ◌≡◌ {A = Span × ℕ} (span, class) (record { start = x; len = asked.words }, class_asked z asked.call)
      same =
          some_is (span, class) (record { start = x; len = asked.words }, class_asked z asked.call)
          (told ∙ ((λ t. cell_at z x (asked.is_call t)) ∙ ap (cell_asked z x asked.call) asked.is_request))

      is_cell : span ≡ record { start = b; len = asked.words }
      is_cell = ap (λ (q : Span × ℕ). q.0) same ∙ (λ t. record { start = is_there t; len = asked.words })

      -- the cell may be cut out of it
      pub may_cut : FreeCellsLieInOne → FreeListsAreShort → IsCutOf was.free span
      may_cut one short =
          let h : Hold = hold_at holds k in
          let free_list = is_free_list z.sizes good.sizes k near h.free.spans list in
          let free : AreFree h.free.spans (record { start = b; len = asked.words }) =
          subst (λ k. AreFree (hold_at holds k).free.spans (record { start = b; len = asked.words })) (sym frame_is) asked.free in
          let two = request_two z asked.call asked.words asked.is_request in
          let less = short (frame_span z.sizes k) h.free.spans (two_words z.sizes good.sizes k near) list in
          let room = fits.rooms k near in
          subst (λ (h : Hold). IsCutOf h.free span) (sym was_is) (subst (λ c. IsCutOf h.free c) (sym is_cell) (record {
            list = free_list;
            word = omega arith;
            inside = one h.free.spans (record { start = b; len = asked.words }) free_list (omega arith) free;
            room = omega arith;
          }))

      -- and what was made of it is noted
      pub cut_noted : (f : Found) → f.word ≡ n → (history : List Entry) → (now : Hold) (start : ℕ) → start ≡ (frame_span z.sizes k).start →
          now ≡ record was {
            free = record was.free { spans = without span was.free.spans };
            cursor = cond (class == NEXT_FIT_CLASS) (end_of span) start;
          } → (IsFreeListOf (frame_span z.sizes k) was.free.spans → IsFreeListOf (frame_span z.sizes k) now.free.spans) → (new : Part) →
          new ≡ record old { taken = Some (record { frame = k; span = span; cleared = 1 }) } →
          Noted z by old new holds (slice_set holds k now) history history (λ v. outcome z by v p a f K12)
      cut_noted f e history now start first made stays new is =
          cell_made z by old holds fits p a f asked.call asked.words asked.is_call asked.is_request none k b (sym (ap address_in asks.place))
          (at ∙ ap (frame_at z.sizes) is_there) near its history span class is_cell (ap (λ (q : Span × ℕ). q.1) same) was now was_is start first made
          (stays (subst (λ (h : Hold). IsFreeListOf (frame_span z.sizes k) h.free.spans) (sym was_is) list)) new is
