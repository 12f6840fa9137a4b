-- What is left to show of the steps that change what their caller owns.
use Rattle.std.proofs.Common.{◌≡◌, ◌≢◌, ℕ, ◌<◌, Bool, false, List, length, Option, Some, None, is_some, refl, sym, ap, ◌∙◌, subst}
use Rattle.std.proofs.Common.{slice_get, slice_set, arith}
use Rattle.kn_base.specs.declared.places.Place.{Place}
use Rattle.kn_base.specs.declared.places.Place.TheVariants.{Frame, Body}
use Rattle.kn_base.specs.declared.kinds.FrameKind.TheVariants as frames
use Rattle.kn_base.specs.Words.{packed_frame}
use Rattle.kn_base.specs.Sizes.{frame_count}
use Rattle.kn_base.specs.Functions.{upd}
use Rattle.kn_base.proofs.Updates.{upd_here, upd_else, split_at}
use Rattle.kn_graph.specs.declared.calls.Call.{Call}
use Rattle.kn_graph.specs.Ground.{Ground, IsGoodGround}
use Rattle.kn_rule.specs.declared.steps.Kind.TheVariants.{K11, K12}
use Rattle.kn_rule.specs.declared.steps.Action.{Action}
use Rattle.kn_rule.specs.declared.steps.Action.TheVariants.{Stores}
use Rattle.kn_rule.specs.declared.positions.Position.TheVariants.{Calling}
use Rattle.kn_rule.specs.declared.parts.Taken.{Taken}
use Rattle.kn_rule.specs.Decoding.{frame_of}
use Rattle.kn_rule.specs.FrameSpans.{frame_span, frame_at}
use Rattle.kn_rule.specs.Places.{put}
use Rattle.kn_rule.specs.Views.{View, State, Open, flattened, owns}
use Rattle.kn_rule.specs.Requests.{words_asked, class_asked, home_word}
use Rattle.kn_rule.specs.Steps.{Found, callers}
use Rattle.kn_rule.specs.Outcomes.{clear_at, cell_begun, open_without}
use Rattle.kn_rule.specs.Allowed.{MayGiveBack, MayClear, MayClearFor}
use Rattle.kn_rule.specs.Moves.{IsPageOf, IsPageOfOwned}
use Rattle.kn_rule.specs.Rule.{Rule}
use Rattle.kn_rule.proofs.FrameSpans.{frame_at_is}
use Rattle.kn_keep_heap.proofs.Parts.{owns_set}
use Rattle.kn_keep_heap.proofs.NextWord.{request_two}
use Rattle.kn_board.specs.World.{World, slot_at, view_at, IsSlotOf, StandsFor, lies_at}
use Rattle.kn_board.proofs.OwnedKept.{home_keeps}
use Rattle.kn_board.proofs.Sounds.{Fits}

pub none_there : {A : Type 0} (o : Option A) → is_some o ≡ false → o ≡ None
none_there None e = refl
none_there (Some q) e = cc

module _ (w : World) (good : IsGoodGround w.heap) (s : State) (rule : Rule w.heap s) (h : StandsFor w s) (by : ℕ)
    (less : by < callers w.heap.sizes) (f : Found) where
  abbrev z : Ground
  z = w.heap

  abbrev x : View
  x = view_at w by

  abbrev here : ℕ → Bool
  here = lies_at w

  is_x : s.caller by ≡ x
  is_x = sym (h.views_are by less)

  wide : length x.owned ≡ frame_count z.sizes
  wide = ap (λ (v : View). length v.owned) (sym is_x) ∙ rule.1.formed.frames by less

  -- one frame of those that the caller owns changed
  pub put_hands : (l : List (Option Open)) (k : ℕ) (y : Option Open) → l ≡ slice_set x.owned k y → k < frame_count z.sizes →
      ((q : Open) → y ≡ Some q → IsSlotOf z.sizes k q (slot_at w k)) → (j : ℕ) (o : Open) → flattened (slice_get l j) ≡ Some o →
      IsSlotOf z.sizes j o (slot_at w j)
  put_hands l k y e near new j o has =
      let room : k < length x.owned = let n = wide in omega arith in
      split_at (λ j. flattened (slice_get (slice_set x.owned k y) j) ≡ Some o → IsSlotOf z.sizes j o (slot_at w j)) k
      (λ e. new o (sym (owns_set x.owned k y k room ∙ upd_here (owns x) k y) ∙ e)) j
      (λ ne e. h.in_hands by j o less (sym (owns_set x.owned k y j room ∙ upd_else (owns x) k y j ne) ∙ e))
      (ap (λ m. flattened (slice_get m j)) (sym e) ∙ has)

  module _ (k : ℕ) (hold : Open) (owned : owns x k ≡ Some hold) (near : k < frame_count z.sizes) (lies : slot_at w k ≡ Some f.page) where
    its_page : IsPageOf z.sizes k hold f.page
    its_page = subst (λ o. IsSlotOf z.sizes k hold o) lies (h.in_hands by k hold less owned)

    home_takes : IsPageOfOwned z k (owns (s.caller by) k) f.page
    home_takes =
        let own : owns (s.caller by) k ≡ Some hold = ap (λ (v : View). owns v k) is_x ∙ owned in
        subst (λ o. IsPageOfOwned z k o f.page) (sym own) its_page

    home_pages : (n j : ℕ) → j < frame_count z.sizes → (frame_of (put s.word (Frame k) n (Frame j))).kind ≢ frames.Owned →
        slot_at w j ≡ upd s.page k (Some f.page) j
    home_pages n j l =
        split_at (λ j. j < frame_count z.sizes → (frame_of (put s.word (Frame k) n (Frame j))).kind ≢ frames.Owned →
        slot_at w j ≡ upd s.page k (Some f.page) j) k (λ _ _. lies ∙ sym (upd_here s.page k (Some f.page))) j
        (λ ne l free. h.pages_are j l (λ e. free (ap (λ v. (frame_of v).kind) (upd_else (λ i. s.word (Frame i)) k n j ne) ∙ e))
        ∙ sym (upd_else s.page k (Some f.page) j ne)) l

  pub home_fits : (p : Place) (a : Action) (m : MayGiveBack z by x here p a) → slot_at w m.frame ≡ Some f.page → Fits w s by f K11 p a
  home_fits p a m lies =
      let n = m.frame in
      subst (λ q. Fits w s by f K11 q a) (sym m.place) (subst (λ b. Fits w s by f K11 (Frame n) b) (sym m.word) (record {
        takes = home_takes n m.hold m.owned m.near lies;
        pages = home_pages n m.hold m.owned m.near lies _;
        hands = put_hands _ n None (home_keeps z by x (Frame n)
            (Stores (packed_frame (home_word (frame_span z.sizes n) (frame_of m.hold.word) m.hold.free))) f x.position) m.near (λ q e. absurd (cc));
      }))

  cleared_hands : (call : Call) (b n : ℕ) (a : Action) (t : Option Taken) → MayClearFor z by x here call t b n → (j : ℕ) (o : Open) →
      flattened (slice_get (clear_at z by x (Body b) a f (Calling call) t).view.owned j) ≡ Some o → IsSlotOf z.sizes j o (slot_at w j)
  cleared_hands call b n a None m =
      let two = request_two z call m.words m.is_request in let i0 = m.inside.0 in let i1 = m.inside.1 in
      let at : frame_at z.sizes b ≡ m.frame = frame_at_is z.sizes good.sizes b m.frame m.near (omega arith, omega arith) in
      let near = m.near in
      put_hands _ (frame_at z.sizes b)
      (open_without z by x (Body b) a f (frame_at z.sizes b) (class_asked z call) (cell_begun z by x (Body b) a f (words_asked z call))
      (owns x (frame_at z.sizes b))) refl (omega arith)
      (λ q e. subst (λ o. IsSlotOf z.sizes (frame_at z.sizes b) q o) (sym (ap (slot_at w) at ∙ none_there (slot_at w m.frame) m.out)) tt)
  cleared_hands call b n a (Some t) m = λ j o e. h.in_hands by j o less e

  pub clear_fits : (p : Place) (a : Action) → MayClear z by x here p a → Fits w s by f K12 p a
  clear_fits p a m =
      subst (λ q. Fits w s by f K12 q a) (sym m.place) (subst (λ b. Fits w s by f K12 (Body m.address) b) (sym m.word) (record {
        takes = tt;
        pages = h.pages_are;
        hands = subst (λ q. (j : ℕ) (o : Open) → flattened (slice_get (clear_at z by x (Body m.address) (Stores m.value) f q x.taken).view.owned j)
            ≡ Some o →
            IsSlotOf z.sizes j o (slot_at w j)) (sym m.is_call) (cleared_hands m.call m.address m.value (Stores m.value) x.taken m.may);
      }))
