-- What is left to show of a claim.
use Rattle.std.proofs.Common.{◌≡◌, ◌≢◌, ℕ, ◌<◌, ◌≤◌, inl, inr, Bool, true, false, cond, Option, Some}
use Rattle.std.proofs.Common.{None, refl, sym, ap, ◌∙◌, subst}
use Rattle.std.proofs.Common.{slice_get, arith}
use Rattle.std.specs.Prelude.{IsTrue}
use Rattle.kn_base.specs.declared.numbers.Span.{Span}
use Rattle.kn_base.specs.declared.places.Place.{Place}
use Rattle.kn_base.specs.declared.places.Place.TheVariants.{Frame}
use Rattle.kn_base.specs.declared.kinds.FrameKind.{FrameKind}
use Rattle.kn_base.specs.declared.kinds.FrameKind.TheVariants as frames
use Rattle.kn_base.specs.declared.frame_word.FrameWord.{FrameWord}
use Rattle.kn_base.specs.Words.{packed_frame, IsFrameWord, HasClass, HasStamp}
use Rattle.kn_base.specs.Classes.{IsClassNumber}
use Rattle.kn_base.specs.Sizes.{frame_count}
use Rattle.kn_base.specs.Pages.{FrameView}
use Rattle.kn_base.specs.Functions.{upd, Tells}
use Rattle.kn_base.proofs.Updates.{upd_here, upd_else, upd_same, split_at}
use Rattle.kn_graph.specs.Ground.{Ground, IsGoodGround}
use Rattle.kn_graph.specs.Graph.{Graph, shapes}
use Rattle.kn_rule.specs.declared.steps.Kind.TheVariants.{K10}
use Rattle.kn_rule.specs.declared.steps.Action.TheVariants.{Swaps}
use Rattle.kn_rule.specs.Decoding.{frame_of, PacksFrame}
use Rattle.kn_rule.specs.FrameSpans.{frame_span}
use Rattle.kn_rule.specs.Places.{put}
use Rattle.kn_rule.specs.Views.{View, State, Open, flattened}
use Rattle.kn_rule.specs.Requests.{is_usable, is_usable_as, is_whole, owned_word, owned_as}
use Rattle.kn_rule.specs.Steps.{Found, callers, epoch_in}
use Rattle.kn_rule.specs.Outcomes.{claimed_if}
use Rattle.kn_rule.specs.Moves.{IsPageOf}
use Rattle.kn_rule.specs.FrameClauses.{HomePage, IsFilled}
use Rattle.kn_rule.specs.Rule.{Rule}
use Rattle.kn_rule.proofs.Decodings.{frame_packed}
use Rattle.kn_rule.proofs.WholeFrames.{not_whole}
use Rattle.kn_keep_heap.proofs.Changed.{some_is}
use Rattle.kn_board.specs.World.{World, slot_at, view_at, IsSlotOf, StandsFor}
use Rattle.kn_board.proofs.OwnedKept.{look_keeps}
use Rattle.kn_board.proofs.Sounds.{Fits}
use Rattle.kn_board.proofs.FrameFits.{put_hands}

pub usable_free : (class : ℕ) (v : FrameWord) (q : FrameKind) → IsTrue (is_usable_as class v q) → q ≢ frames.Owned
usable_free class v frames.Vacant u e = cc
usable_free class v frames.Empty u e = cc
usable_free class v frames.Ready u e = cc
usable_free class v frames.Used u e = let y : false ≡ true = u in cc
usable_free class v frames.Unswept u e = cc
usable_free class v frames.Owned u e = let y : false ≡ true = u in cc

module _ (w : World) (good : IsGoodGround w.heap) (s : State) (rule : Rule w.heap s) (h : StandsFor w s) (by : ℕ)
    (less : by < callers w.heap.sizes) (f : Found) (class k old : ℕ) (near : k < frame_count w.heap.sizes) (thread : by < w.heap.sizes.threads)
    (fit : IsTrue (is_usable class old)) (found : s.word (Frame k) ≡ f.word) (lies : f.word ≡ old → slot_at w k ≡ Some f.page) where
  abbrev z : Ground
  z = w.heap

  abbrev x : View
  x = view_at w by

  abbrev span : Span
  span = frame_span z.sizes k

  abbrev new : ℕ
  new = packed_frame (owned_word (frame_of old) class (epoch_in x) by)

  free_now : f.word ≡ old → (frame_of (s.word (Frame k))).kind ≢ frames.Owned
  free_now won e = usable_free class (frame_of old) (frame_of old).kind fit (ap (λ v. (frame_of v).kind) (sym (found ∙ won)) ∙ e)

  took : f.word ≡ old → s.page k ≡ Some f.page
  took won = sym (h.pages_are k near (free_now won)) ∙ lies won

  abbrev filled : ℕ → Type 0
  filled = let g : Graph = rule.0 in IsFilled z.sizes g.born (shapes g) (λ a. s.word (Rattle.kn_base.specs.declared.places.Place.TheVariants.Side a))

  home : f.word ≡ old → HomePage z.sizes k (frame_of old).kind (frame_of old).class filled f.page
  home won =
      let r = rule.1.stands.housed.each k near (free_now won) in
      let same : r.0 ≡ f.page = some_is r.0 f.page (sym r.1 ∙ took won) in
      subst (λ v. HomePage z.sizes k (frame_of v).kind (frame_of v).class filled f.page) (found ∙ won)
      (subst (λ page. HomePage z.sizes k (frame_of (s.word (Frame k))).kind (frame_of (s.word (Frame k))).class filled page) same r.2)

  packs : f.word ≡ old → PacksFrame old
  packs won = subst PacksFrame (found ∙ won) (rule.1.stands.framed.packs k near)

  seat_ok : by ≤ 17
  seat_ok = let t = good.sizes.of_threads.threads.1 in omega arith

  -- a frame that stays of its class has the page of this class
  kept_class : IsClassNumber (frame_of old).class → (frame_of old).stamp < 4294967296 →
      ((frame_of old).class ≢ 0 → f.page.class ≡ (frame_of old).class) →
      f.page.class
      ≡ (frame_of (packed_frame (record { kind = frames.Owned; class = (frame_of old).class; stamp = (frame_of old).stamp; seat = by }))).class
  kept_class c t is =
      let v : FrameWord = record { kind = frames.Owned; class = (frame_of old).class; stamp = (frame_of old).stamp; seat = by } in
      let ok : IsFrameWord v = record { of_class = c; of_stamp = t; of_seat = seat_ok } in
      let a = c.0 in
      is (λ e. absurd (omega arith)) ∙ sym (ap (λ (u : FrameWord). u.class) (frame_packed v ok))

  class_by : (q : FrameKind) → IsTrue (is_usable_as class (frame_of old) q) → HasClass q (frame_of old).class → HasStamp q (frame_of old).stamp →
      HomePage z.sizes k q (frame_of old).class filled f.page → is_whole span f.page.free ≡ false →
      f.page.class ≡ (frame_of (packed_frame (owned_as (frame_of old) class (epoch_in x) by q))).class
  class_by frames.Vacant u c t p n = absurd (not_whole span f.page.free n (p.vacant refl))
  class_by frames.Empty u c t p n = absurd (not_whole span f.page.free n (p.empty refl))
  class_by frames.Ready u c t p n = kept_class c t p.class_is
  class_by frames.Used u c t p n = let y : false ≡ true = u in absurd (cc)
  class_by frames.Unswept u c t p n = kept_class c t p.class_is
  class_by frames.Owned u c t p n = let y : false ≡ true = u in absurd (cc)

  abbrev hold : Open
  hold = record { word = new; free = f.page.free; cursor = f.page.cursor }

  its_page : f.word ≡ old → IsPageOf z.sizes k hold f.page
  its_page won =
      let p = packs won in
      record {
        frame_is = (home won).frame_is;
        area_is = (home won).area_is;
        free_is = refl;
        cursor_is = refl;
        class_is = class_by (frame_of old).kind fit p.ranges.of_class p.ranges.of_stamp (home won);
      }

  abbrev Pages : Bool → Type 0
  Pages b = (j : ℕ) → j < frame_count z.sizes → (frame_of (put s.word (Frame k) (cond b new f.word) (Frame j))).kind ≢ frames.Owned →
      slot_at w j ≡ upd s.page k (cond b None (s.page k)) j

  pages_won : (frame_of new).kind ≡ frames.Owned → Pages true
  pages_won owned j l =
      split_at (λ j. j < frame_count z.sizes → (frame_of (put s.word (Frame k) new (Frame j))).kind ≢ frames.Owned →
      slot_at w j ≡ upd s.page k None j) k
      (λ _ free. absurd (free (ap (λ v. (frame_of v).kind) (upd_here (λ i. s.word (Frame i)) k new) ∙ owned))) j
      (λ ne l free. h.pages_are j l (λ e. free (ap (λ v. (frame_of v).kind) (upd_else (λ i. s.word (Frame i)) k new j ne) ∙ e))
      ∙ sym (upd_else s.page k None j ne)) l

  pages_lost : Pages false
  pages_lost j l free =
      h.pages_are j l (λ e. free (ap (λ (g : ℕ → ℕ). (frame_of (g j)).kind) (upd_same (λ i. s.word (Frame i)) k f.word (sym found)) ∙ e))
      ∙ sym (ap (λ (g : ℕ → Option FrameView). g j) (upd_same s.page k (s.page k) refl))

  abbrev Hands : Bool → Type 0
  Hands b = (j : ℕ) (o : Open) → flattened (slice_get (claimed_if z by x (Frame k) (Swaps old new) f b).view.owned j) ≡ Some o →
      IsSlotOf z.sizes j o (slot_at w j)

  hands_won : f.word ≡ old → Hands true
  hands_won won =
      put_hands w good s rule h by less f _ k (Some hold) refl near
      (λ q e. subst (λ o. IsSlotOf z.sizes k q o) (sym (lies won)) (subst (λ q. IsPageOf z.sizes k q f.page) (some_is hold q e) (its_page won)))

  hands_lost : Hands false
  hands_lost j o e =
      h.in_hands by j o less (ap (λ m. flattened (slice_get m j)) (sym (look_keeps z by x (Frame k) (Swaps old new) f x.position)) ∙ e)

  pub claim_fits : (f.word ≡ old → (frame_of new).kind ≡ frames.Owned) → Tells f.word old → Fits w s by f K10 (Frame k) (Swaps old new)
  claim_fits owned (inl t) = record {
    takes = took;
    pages = subst Pages (sym t.0) (pages_won (owned t.1));
    hands = subst Hands (sym t.0) (hands_won t.1);
  }
  claim_fits owned (inr t) = record {
    takes = λ e. absurd (t.1 e);
    pages = subst Pages (sym t.0) pages_lost;
    hands = subst Hands (sym t.0) hands_lost;
  }

  -- the word of the claim is that of an owned frame
  in_range : (q : FrameKind) → IsClassNumber class → epoch_in x < 4294967296 → HasClass q (frame_of old).class → HasStamp q (frame_of old).stamp →
      IsTrue (is_usable_as class (frame_of old) q) → IsFrameWord (owned_as (frame_of old) class (epoch_in x) by q)
  in_range frames.Vacant k e c t u = record { of_class = k; of_stamp = e; of_seat = seat_ok }
  in_range frames.Empty k e c t u = record { of_class = k; of_stamp = e; of_seat = seat_ok }
  in_range frames.Ready k e c t u = record { of_class = c; of_stamp = t; of_seat = seat_ok }
  in_range frames.Used k e c t u = record { of_class = c; of_stamp = t; of_seat = seat_ok }
  in_range frames.Unswept k e c t u = record { of_class = c; of_stamp = t; of_seat = seat_ok }
  in_range frames.Owned k e c t u = record { of_class = c; of_stamp = t; of_seat = seat_ok }

  kind_owned : (q : FrameKind) → (owned_as (frame_of old) class (epoch_in x) by q).kind ≡ frames.Owned
  kind_owned frames.Vacant = refl
  kind_owned frames.Empty = refl
  kind_owned _ = refl

  pub new_owned : IsClassNumber class → epoch_in x < 4294967296 → f.word ≡ old → (frame_of new).kind ≡ frames.Owned
  new_owned c e won =
      let p = packs won in
      ap (λ (v : FrameWord). v.kind) (frame_packed (owned_word (frame_of old) class (epoch_in x) by)
      (in_range (frame_of old).kind c e p.ranges.of_class p.ranges.of_stamp fit)) ∙ kind_owned (frame_of old).kind
