-- The laws of steps of a search: a look at a frame, and a claim of one.
use Rattle.std.proofs.Common.{◌≡◌, ◌≢◌, ℕ, ◌^◌, ◌<◌, ◌≤◌, inl, inr, Bool, true, false, cond, eqb, [], ◌∷◌, ◌++◌}
use Rattle.std.proofs.Common.{length, Option, Some, None}
use Rattle.std.proofs.Common.{slice_set}
use Rattle.std.proofs.Common.{refl, sym, subst, ap, ◌∙◌, arith, length-set}
use Rattle.std.specs.Prelude.{IsTrue}
use Rattle.std.proofs.lemmas.Bool.Decides.{eqb_tells}
use Rattle.kn_base.specs.declared.numbers.Span.{Span}
use Rattle.kn_base.specs.declared.places.Place.{Place}
use Rattle.kn_base.specs.declared.places.Place.TheVariants.{Phase, Want, Pending, Frame, Side}
use Rattle.kn_base.specs.declared.kinds.FrameKind.{FrameKind}
use Rattle.kn_base.specs.declared.kinds.FrameKind.TheVariants as frames
use Rattle.kn_base.specs.declared.frame_word.FrameWord.{FrameWord}
use Rattle.kn_base.specs.Words.{packed_frame, IsFrameWord, HasClass, HasStamp}
use Rattle.kn_base.specs.Classes.{IsClassNumber}
use Rattle.kn_base.specs.Sizes.{frame_count}
use Rattle.kn_base.specs.Spans.{LiesIn}
use Rattle.kn_base.specs.SpanLists.{IsWhollyFree}
use Rattle.kn_base.specs.Pages.{FrameView}
use Rattle.kn_base.specs.Functions.{upd, Tells}
use Rattle.kn_base.proofs.Updates.{upd_else, upd_same, part_same}
use Rattle.kn_graph.specs.declared.calls.Call.{Call}
use Rattle.kn_graph.specs.declared.calls.Reply.TheVariants as replies
use Rattle.kn_graph.specs.Ground.{Ground, IsGoodGround}
use Rattle.kn_graph.specs.Graph.{Graph, shapes, Lives, words_of, with_entered}
use Rattle.kn_rule.specs.declared.steps.Kind.TheVariants.{K9, K10}
use Rattle.kn_rule.specs.declared.steps.Action.TheVariants.{Loads, Swaps}
use Rattle.kn_rule.specs.declared.positions.Position.{Position}
use Rattle.kn_rule.specs.Decoding.{frame_of, PacksFrame}
use Rattle.kn_rule.specs.FrameSpans.{frame_span}
use Rattle.kn_rule.specs.Places.{put}
use Rattle.kn_marking.specs.declared.work.Work.{Work}
use Rattle.kn_rule.specs.MarkClauses.{Phased}
use Rattle.kn_rule.specs.Views.{rest_of, Rest, Collecting, View, Views, State, Open, views_of}
use Rattle.kn_rule.specs.Requests.{class_for, class_where, is_usable, is_usable_as, owned_word, owned_as, InArea, IsCellOf}
use Rattle.kn_rule.specs.Steps.{Found, does, logged, more, entry_of, epoch_in, callers}
use Rattle.kn_rule.specs.Outcomes.{sweep_begun, looked_at, full_if, claimed_if}
use Rattle.kn_rule.specs.Allowed.{Searches}
use Rattle.kn_rule.specs.Moves.{stepped_by}
use Rattle.kn_rule.specs.HistoryClauses.{Timed}
use Rattle.kn_rule.specs.CallerClauses.{IsInOrLeaving, AtEnd, Stopped, Wanted, Working}
use Rattle.kn_rule.specs.FrameClauses.{IsFilled, HomePage}
use Rattle.kn_rule.specs.Rule.{Rule, RuleOf}
use Rattle.kn_rule.proofs.Decodings.{frame_packed, frame_packs}
use Rattle.kn_keep_heap.proofs.Changed.{some_is}
use Rattle.kn_keep_heap.proofs.Parts.{local_same, own_put, taken_same, position_same, polled_same, target_same, header_same, log_same}
use Rattle.kn_keep_heap.proofs.Parts.{calls_same, births_same, rest_put, width_same}
use Rattle.kn_keep_heap.proofs.Loads.{put_same}
use Rattle.kn_keep_heap.proofs.ReadLaws.{few}
use Rattle.kn_keep_heap.proofs.NextWord.{request_two}
use Rattle.kn_keep_heap.proofs.BirthLaw.{class_at, epoch_small}
use Rattle.kn_keep_heap.proofs.ThenAnswer.{after_answer, then_full, views_kept}
use Rattle.kn_keep_heap.proofs.FrameMoves.{framed_claim, owners_claim, taken_in_moved, handed_claim, housed_claim, classed_at, placed_at}
use Rattle.kn_keep_heap.proofs.FrameMoves.{none_in_whole}

module _ (z : Ground) (good : IsGoodGround z) (s : State) (by : ℕ) (less : by < z.sizes.threads) (g : Graph)
    (rule : RuleOf z g s.word s.page (views_of s.caller) s.history) (f : Found) (here : ℕ → Bool) (call : Call) (class k : ℕ)
    (may : Searches z by (s.caller by) here call class k) where
  abbrev V : Views
  V = views_of s.caller

  abbrev saw : View
  saw = record (s.caller by) { seen = slice_set (s.caller by).seen k (Some f.word) }

  saw_rule : (word : Place → ℕ) → word ≡ s.word → RuleOf z g word s.page (views_of (upd s.caller by saw)) s.history
  saw_rule word kept =
      subst (λ w. RuleOf z g w s.page (views_of (upd s.caller by saw)) s.history) (sym kept)
      (subst (λ W. RuleOf z g s.word s.page W s.history) (sym (views_kept z s by less g saw refl refl refl refl refl refl refl)) rule)

  looked_if : s.word (Frame k) ≡ f.word → (b : Bool) →
      Rule z (stepped_by s by (does K9 (Frame k) Loads) f (full_if z by (s.caller by) (Frame k) Loads f b call saw))
  looked_if found true = (
    with_entered g by (epoch_in saw),
    then_full z s by less g saw (put s.word (Frame k) f.word) s.page
        (saw_rule (put s.word (Frame k) f.word) (put_same s.word (Frame k) f.word (sym found))) call may.words may.is_request may.is_call
        may.none_taken,
  )
  looked_if found false = (g, saw_rule (put s.word (Frame k) f.word) (put_same s.word (Frame k) f.word (sym found)))

  -- a frame is looked at
  pub looked : s.word (Frame k) ≡ f.word →
      Rule z (stepped_by s by (does K9 (Frame k) Loads) f (looked_at z by (s.caller by) (Frame k) Loads f (s.caller by).position))
  looked found =
      subst (λ q. Rule z (stepped_by s by (does K9 (Frame k) Loads) f (looked_at z by (s.caller by) (Frame k) Loads f q))) (sym may.is_call)
      (looked_if found _)

  -- a frame is claimed, or the claim is lost
  module _ (old : ℕ) (fit : IsTrue (is_usable class old)) (found : s.word (Frame k) ≡ f.word) (lies : f.word ≡ old → s.page k ≡ Some f.page) where
    abbrev new : FrameWord
    new = owned_word (frame_of old) class (epoch_in (s.caller by)) by

    abbrev new_word : ℕ
    new_word = packed_frame (owned_word (frame_of old) class (epoch_in (s.caller by)) by)

    -- what a lost claim leaves
    abbrev lost_as : Bool → State
    lost_as b = record {
      word = put s.word (Frame k) f.word;
      page = upd s.page k (s.page k);
      caller = upd s.caller by (logged (full_if z by (s.caller by) (Frame k) (Swaps old new_word) f b call saw));
      history = more s.history (full_if z by (s.caller by) (Frame k) (Swaps old new_word) f b call saw).says;
    }

    lost_if : (b : Bool) → Rule z (lost_as b)
    lost_if true =
        let kept = put_same s.word (Frame k) f.word (sym found) in
        let after : Graph = with_entered g by (epoch_in saw) in
        let views = views_of (upd s.caller by (after_answer z s by less g saw call replies.Full)) in
        let said = s.history ++ entry_of by (epoch_in saw) call replies.Full 0 ∷ [] in (
          after,
          subst (λ (pages : ℕ → Option FrameView). RuleOf z after (put s.word (Frame k) f.word) pages views said)
              (sym (upd_same s.page k (s.page k) refl))
              (then_full z s by less g saw (put s.word (Frame k) f.word) s.page (saw_rule (put s.word (Frame k) f.word) kept) call may.words
              may.is_request may.is_call may.none_taken),
        )
    lost_if false = (
      g,
      subst (λ (pages : ℕ → Option FrameView). RuleOf z g (put s.word (Frame k) f.word) pages (views_of (upd s.caller by saw)) s.history)
          (sym (upd_same s.page k (s.page k) refl)) (saw_rule (put s.word (Frame k) f.word) (put_same s.word (Frame k) f.word (sym found))),
    )

    module _ (won : f.word ≡ old) where
      abbrev span : Span
      span = frame_span z.sizes k

      abbrev filled : ℕ → Type 0
      filled = IsFilled z.sizes g.born (shapes g) (λ a. s.word (Side a))

      was : s.word (Frame k) ≡ old
      was = found ∙ won

      packs : PacksFrame old
      packs = subst PacksFrame was (rule.stands.framed.packs k may.near)

      usable_free : (q : FrameKind) → IsTrue (is_usable_as class (frame_of old) q) → q ≢ frames.Owned
      usable_free frames.Vacant u e = cc
      usable_free frames.Empty u e = cc
      usable_free frames.Ready u e = cc
      usable_free frames.Used u e = cc
      usable_free frames.Unswept u e = cc
      usable_free frames.Owned u e = absurd (cc)

      class_ok : IsClassNumber class
      class_ok =
          let c = class_at z.sizes may.words (request_two z call may.words may.is_request) in
          let e : class ≡ class_for z.sizes may.words = may.is_class ∙ ap (class_where z.sizes) may.is_request in
          let a = c.0 in let b = c.1 in (omega arith, omega arith)

      epoch_ok : epoch_in (s.caller by) < 2 ^ 32
      epoch_ok = epoch_small z s by less g rule call may.is_call

      seat_ok : by ≤ 17
      seat_ok = let t = good.sizes.of_threads.threads.1 in omega arith

      in_range : (q : FrameKind) → HasClass q (frame_of old).class → HasStamp q (frame_of old).stamp → IsTrue (is_usable_as class (frame_of old) q) →
          IsFrameWord (owned_as (frame_of old) class (epoch_in (s.caller by)) by q)
      in_range frames.Vacant c t u = record { of_class = class_ok; of_stamp = epoch_ok; of_seat = seat_ok }
      in_range frames.Empty c t u = record { of_class = class_ok; of_stamp = epoch_ok; of_seat = seat_ok }
      in_range frames.Ready c t u = record { of_class = c; of_stamp = t; of_seat = seat_ok }
      in_range frames.Used c t u = record { of_class = c; of_stamp = t; of_seat = seat_ok }
      in_range frames.Unswept c t u = record { of_class = c; of_stamp = t; of_seat = seat_ok }
      in_range frames.Owned c t u = record { of_class = c; of_stamp = t; of_seat = seat_ok }

      new_ok : IsFrameWord new
      new_ok = in_range (frame_of old).kind packs.ranges.of_class packs.ranges.of_stamp fit

      back : frame_of new_word ≡ new
      back = frame_packed new new_ok

      kind_owned : (q : FrameKind) → (owned_as (frame_of old) class (epoch_in (s.caller by)) by q).kind ≡ frames.Owned
      kind_owned frames.Vacant = refl
      kind_owned frames.Empty = refl
      kind_owned _ = refl

      seat_mine : (q : FrameKind) → (owned_as (frame_of old) class (epoch_in (s.caller by)) by q).seat ≡ by
      seat_mine frames.Vacant = refl
      seat_mine frames.Empty = refl
      seat_mine _ = refl

      owned_kind : (frame_of new_word).kind ≡ frames.Owned
      owned_kind = ap (λ (v : FrameWord). v.kind) back ∙ kind_owned (frame_of old).kind

      not_owned : (frame_of (s.word (Frame k))).kind ≢ frames.Owned
      not_owned e = usable_free (frame_of old).kind fit (ap (λ w. (frame_of w).kind) (sym was) ∙ e)

      home : HomePage z.sizes k (frame_of old).kind (frame_of old).class filled f.page
      home =
          let h = rule.stands.housed.each k may.near not_owned in
          let same : h.0 ≡ f.page = some_is h.0 f.page (sym h.1 ∙ lies won) in
          subst (λ w. HomePage z.sizes k (frame_of w).kind (frame_of w).class filled f.page) was
          (subst (λ page. HomePage z.sizes k (frame_of (s.word (Frame k))).kind (frame_of (s.word (Frame k))).class filled page) same h.2)

      kept_area : (frame_of old).class ≢ 0 → InArea z.sizes k (frame_of old).class
      kept_area ne =
          subst (λ w. InArea z.sizes k (frame_of w).class) was
          (rule.stands.classed.area k may.near (λ e. ne (ap (λ w. (frame_of w).class) (sym was) ∙ e)))

      area_as : (q : FrameKind) → (owned_as (frame_of old) class (epoch_in (s.caller by)) by q).class ≢ 0 →
          InArea z.sizes k (owned_as (frame_of old) class (epoch_in (s.caller by)) by q).class
      area_as frames.Vacant ne = may.in_area
      area_as frames.Empty ne = may.in_area
      area_as frames.Ready ne = kept_area ne
      area_as frames.Used ne = kept_area ne
      area_as frames.Unswept ne = kept_area ne
      area_as frames.Owned ne = kept_area ne

      kept_place : (m : ℕ) → Lives g.born (shapes g) m → LiesIn (words_of (shapes g m)) span →
          IsCellOf (frame_of old).class span (words_of (shapes g m))
      kept_place m l i = subst (λ w. IsCellOf (frame_of w).class span (words_of (shapes g m))) was (rule.stands.placed.objects m k l may.near i)

      no_object : IsWhollyFree span f.page.free → (m : ℕ) → Lives g.born (shapes g) m → LiesIn (words_of (shapes g m)) span → ⊥
      no_object e m l i = none_in_whole z.sizes (λ a. s.word (Side a)) span g.born (shapes g) f.page.free home.free_is e m l i

      place_as : (q : FrameKind) → (frame_of old).kind ≡ q → (m : ℕ) → Lives g.born (shapes g) m → LiesIn (words_of (shapes g m)) span →
          IsCellOf (owned_as (frame_of old) class (epoch_in (s.caller by)) by q).class span (words_of (shapes g m))
      place_as frames.Vacant e m l i = absurd (no_object (home.vacant e) m l i)
      place_as frames.Empty e m l i = absurd (no_object (home.empty e) m l i)
      place_as frames.Ready e m l i = kept_place m l i
      place_as frames.Used e m l i = kept_place m l i
      place_as frames.Unswept e m l i = kept_place m l i
      place_as frames.Owned e m l i = kept_place m l i

      abbrev new_open : Open
      new_open = record { word = new_word; free = f.page.free; cursor = f.page.cursor }

      abbrev claim_view : View
      claim_view = record (s.caller by) {
        owned = slice_set (s.caller by).owned k (Some new_open);
        sweep = sweep_begun z.sizes k (frame_of old).kind;
      }

      abbrev rest' : ℕ → Rest
      rest' = upd (λ c. rest_of (s.caller c)) by (rest_of claim_view)

      collecting_stays : ◌≡◌ {A = ℕ → Collecting} (λ c. (V.rest c).collecting) (λ c. (rest' c).collecting)
      collecting_stays = sym (part_same (λ (x : Rest). x.collecting) V.rest by (rest_of claim_view) refl)

      work_stays : ◌≡◌ {A = ℕ → Work} (λ c. (V.rest c).work) (λ c. (rest' c).work)
      work_stays = sym (part_same (λ (x : Rest). x.work) V.rest by (rest_of claim_view) refl)

      won_rule : RuleOf z g (put s.word (Frame k) new_word) (upd s.page k None) (views_of (upd s.caller by claim_view)) s.history
      won_rule =
          let v : View = claim_view in
          let n = few z s by less g rule in
          let word : ℕ → ℕ = λ p. s.word (Frame p) in
          let wide : k < length (s.caller by).owned = let e = rule.formed.frames by n in let m = may.near in omega arith in
          subst (λ W. RuleOf z g (put s.word (Frame k) new_word) (upd s.page k None) W s.history) (sym (λ t. record {
            position = position_same s.caller by v refl t;
            polled = polled_same s.caller by v refl t;
            target = target_same s.caller by v refl t;
            local = local_same s.caller by v refl t;
            header = header_same s.caller by v refl t;
            own = own_put s.caller by v k (Some new_open) wide refl t;
            taken = taken_same s.caller by v refl t;
            log = log_same s.caller by v refl t;
            calls = calls_same s.caller by v refl t;
            births = births_same s.caller by v refl t;
            rest = rest_put s.caller by v t;
            width = width_same s.caller by v refl (length-set (s.caller by).owned k (Some new_open)) t;
          }))
          (record {
            told = rule.told;
            formed = rule.formed;
            read_right = rule.read_right;
            localed = rule.localed;
            stands = record {
              timed = subst (λ (x : ℕ → Collecting). Timed g.paused g.done (s.word Phase) (x z.sizes.threads).stored) collecting_stays
                  rule.stands.timed;
              headed = rule.stands.headed;
              fielded = rule.stands.fielded;
              cleared = rule.stands.cleared;
              globaled = rule.stands.globaled;
              named = rule.stands.named;
              apart = rule.stands.apart;
              stated = rule.stands.stated;
              at_end = subst (λ (x : ℕ → Collecting). AtEnd z V.position (λ c. (x c).ended)) collecting_stays rule.stands.at_end;
              polling = rule.stands.polling;
              owners = owners_claim z V.own by k (s.word Phase) V.position new_open rule.stands.owners (inl (
                less,
                subst (λ p. IsInOrLeaving p) (sym may.is_call) tt,
              ));
              stopped = subst (λ (x : ℕ → Collecting). Stopped z (s.word Phase) V.position (λ c. (x c).counted)) collecting_stays
                  rule.stands.stopped;
              wanted = subst (λ (x : ℕ → Collecting). Wanted z (s.word Phase) (s.word Want) V.target V.log (x z.sizes.threads).wanted)
                  collecting_stays rule.stands.wanted;
              working = subst (λ (x : ℕ → Collecting). Working z (s.word Phase) (s.word Pending) (x z.sizes.threads).over) collecting_stays
                  rule.stands.working;
              framed = framed_claim (callers z.sizes) (frame_count z.sizes) word V.own rule.stands.framed by k new_word n may.near
                  (frame_packs new new_ok)
                  new_open refl not_owned owned_kind (ap (λ (v : FrameWord). v.seat) back ∙ seat_mine (frame_of old).kind);
              housed = housed_claim z.sizes filled word s.page rule.stands.housed k new_word owned_kind;
              handed = handed_claim z V.own by k V.taken may.none_taken filled new_open (λ c. (V.rest c).sweep) (λ c. (rest' c).sweep)
                  rule.stands.handed home.free_is;
              classed = classed_at z.sizes word k new_word rule.stands.classed (λ ne. subst (λ (v : FrameWord). InArea z.sizes k v.class) (sym back)
                  (area_as (frame_of old).kind (λ e. ne (ap (λ (v : FrameWord). v.class) back ∙ e))));
              placed = placed_at z.sizes word k new_word g.born (shapes g) rule.stands.placed (λ m l i.
                  subst (λ (v : FrameWord). IsCellOf v.class span (words_of (shapes g m))) (sym back) (place_as (frame_of old).kind refl m l i));
              taken_in = taken_in_moved z V.own by k V.taken may.none_taken (Some new_open) V.position (λ c. (V.rest c).sweep) (λ c. (rest' c).sweep)
                  (λ c ne. ap (λ (x : Rest). x.sweep) (upd_else V.rest by (rest_of claim_view) c ne)) rule.stands.taken_in;
            };
            phased = subst (λ (x : ℕ → Work). Phased z g.paused g.born (shapes g) (put s.word (Frame k) new_word) x) work_stays
                record { in_mark = λ e. let m = rule.phased.in_mark e in record { marking = m.marking; headers = m.headers }; at_rest = rule.phased.at_rest };
          })

    -- what a claim leaves, by whether it is won
    abbrev claimed_as : Bool → State
    claimed_as b = record {
      word = put s.word (Frame k) (cond b new_word f.word);
      page = upd s.page k (cond b None (s.page k));
      caller = upd s.caller by (logged (claimed_if z by (s.caller by) (Frame k) (Swaps old new_word) f b));
      history = more s.history (claimed_if z by (s.caller by) (Frame k) (Swaps old new_word) f b).says;
    }

    -- what one leaves that is lost, by where its caller stands
    abbrev lost_at : Position → State
    lost_at p = record {
      word = put s.word (Frame k) f.word;
      page = upd s.page k (s.page k);
      caller = upd s.caller by (logged (looked_at z by (s.caller by) (Frame k) (Swaps old new_word) f p));
      history = more s.history (looked_at z by (s.caller by) (Frame k) (Swaps old new_word) f p).says;
    }

    claimed_by : Tells f.word old → Rule z (claimed_as (eqb f.word old))
    claimed_by (inl t) = subst (λ b. Rule z (claimed_as b)) (sym t.0) (g, won_rule t.1)
    claimed_by (inr t) = subst (λ b. Rule z (claimed_as b)) (sym t.0) (subst (λ p. Rule z (lost_at p)) (sym may.is_call) (lost_if _))

    pub claimed_kept : Rule z (stepped_by s by (does K10 (Frame k) (Swaps old new_word)) f
        (claimed_if z by (s.caller by) (Frame k) (Swaps old new_word) f (eqb f.word old)))
    claimed_kept = claimed_by (eqb_tells f.word old)
