-- A move of a page leaves the board sound.
use Rattle.std.proofs.Common.{◌≡◌, ◌≢◌, ℕ, ◌<◌, true, false, length, Option, Some, None, is_some, refl, sym, ap, ◌∙◌, subst}
use Rattle.std.proofs.Common.{slice_get, slice_set, arith, length-set, cond, eqb}
use Rattle.kn_base.specs.declared.places.Place.TheVariants.{Frame}
use Rattle.kn_base.specs.declared.kinds.FrameKind.TheVariants as frames
use Rattle.kn_base.specs.Sizes.{frame_count}
use Rattle.kn_base.specs.Pages.{FrameView}
use Rattle.kn_base.specs.Functions.{upd}
use Rattle.kn_base.proofs.Updates.{upd_here, upd_else, split_at, part_at}
use Rattle.kn_graph.specs.Ground.{Ground, IsGoodGround}
use Rattle.kn_rule.specs.Decoding.{frame_of}
use Rattle.kn_rule.specs.Views.{View, State, Open, flattened, owns}
use Rattle.kn_rule.specs.Steps.{callers}
use Rattle.kn_rule.specs.Moves.{IsPageOf, IsPageOfOwned}
use Rattle.kn_rule.specs.Rule.{Rule}
use Rattle.kn_steps.specs.Made.{MayMove, MayMoveAt, Moved, Gives}
use Rattle.kn_keep_heap.proofs.Changed.{some_is}
use Rattle.kn_base.proofs.Updates.{get_set}
use Rattle.kn_board.proofs.FrameFits.{none_there}
use Rattle.kn_board.specs.World.{World, slot_at, view_at, IsSlotOf, StandsFor, Sound, stand_at, lies_at}

module _ (w : World) (good : IsGoodGround w.heap) (s : State) (rule : Rule w.heap s) (h : StandsFor w s) (by : ℕ)
    (less : by < callers w.heap.sizes) (k : ℕ) (page : Option FrameView) (may : MayMove (stand_at by w) (lies_at w) k page) where
  abbrev z : Ground
  z = w.heap

  abbrev moved : World
  moved = record w { slots = slice_set w.slots k page }

  own_s : (c p : ℕ) (o : Open) → c < callers z.sizes → owns (view_at w c) p ≡ Some o → owns (s.caller c) p ≡ Some o
  own_s c p o l e = sym (ap (λ (v : View). owns v p) (h.views_are c l)) ∙ e

  owned : (k < frame_count z.sizes) × (s.word (Frame k) ≡ may.0.word) × ((frame_of (s.word (Frame k))).kind ≡ frames.Owned)
      × ((frame_of (s.word (Frame k))).seat ≡ by)
  owned = rule.1.stands.framed.owning k by may.0 less (own_s by k may.0 less may.1)

  pub near : k < length w.slots
  near = let a = owned.0 in let b = h.slots in omega arith

  slots_after : (j : ℕ) → slot_at moved j ≡ upd (slot_at w) k page j
  slots_after j =
      ap flattened (get_set w.slots k page j near)
      ∙ elim (eqb k j) as (λ b. flattened (cond b (Some page) (slice_get w.slots j)) ≡ cond b page (slot_at w j)) [ true ↦ refl | false ↦ refl ]

  given : (x : Option FrameView) → MayMoveAt z (view_at w by) k (lies_at w k) x → IsSlotOf z.sizes k may.0 x
  given None m = tt
  given (Some pg) m = subst (λ o. IsPageOfOwned z k o pg) may.1 m.1

  hands_here : (c : ℕ) (o : Open) → c < callers z.sizes → owns (view_at w c) k ≡ Some o → IsSlotOf z.sizes k o page
  hands_here c o l e =
      let other = rule.1.stands.framed.owning k c o l (own_s c k o l e) in
      let same : by ≡ c = sym owned.3 ∙ other.3 in
      let is : may.0 ≡ o = some_is may.0 o (sym may.1 ∙ (ap (λ i. owns (view_at w i) k) same ∙ e)) in
      subst (λ q. IsSlotOf z.sizes k q page) is (given page may.2)

  pub stands_moved : StandsFor moved s
  stands_moved = record {
    words = h.words;
    slots = length-set w.slots k page ∙ h.slots;
    views = h.views;
    words_are = h.words_are;
    pages_are = λ j l free. split_at (λ j. j < frame_count z.sizes → (frame_of (s.word (Frame j))).kind ≢ frames.Owned → slot_at moved j ≡ s.page j) k
        (λ _ free. absurd (free owned.2)) j (λ ne l free. slots_after j ∙ (upd_else (slot_at w) k page j ne ∙ h.pages_are j l free)) l free;
    views_are = h.views_are;
    history_is = h.history_is;
    in_hands = λ c j o l e. split_at (λ j. owns (view_at w c) j ≡ Some o → IsSlotOf z.sizes j o (slot_at moved j)) k
        (λ e. subst (λ x. IsSlotOf z.sizes k o x) (sym (slots_after k ∙ upd_here (slot_at w) k page)) (hands_here c o l e)) j
        (λ ne e. subst (λ x. IsSlotOf z.sizes j o x) (sym (slots_after j ∙ upd_else (slot_at w) k page j ne)) (h.in_hands c j o l e)) e;
  }

  pub moved_sound : Sound moved
  moved_sound = (good, (s, rule, stands_moved))

  lies_after : (j : ℕ) → lies_at moved j ≡ upd (lies_at w) k (is_some page) j
  lies_after j = ap is_some (slots_after j) ∙ part_at is_some (slot_at w) k page j

  taken_out : (slot : Option FrameView) → IsSlotOf z.sizes k may.0 slot → is_some slot ≡ true →
      (pg : FrameView) × (slot ≡ Some pg) × IsPageOf z.sizes k may.0 pg
  taken_out None i e = cc
  taken_out (Some pg) i e = (pg, refl, i)

  gives_at : (x : Option FrameView) → MayMoveAt z (view_at w by) k (lies_at w k) x → Gives z (view_at w by) k x (slot_at w k)
  gives_at None m =
      let t = taken_out (slot_at w k) (h.in_hands by k may.0 less may.1) m in
      (t.0, t.1, subst (λ o. IsPageOfOwned z k o t.0) (sym may.1) t.2)
  gives_at (Some pg) m = none_there (slot_at w k) m.0

  -- what it tells its caller
  pub moved_told : Moved (stand_at by w) (lies_at w) k page (slot_at w k) (stand_at by moved) (lies_at moved)
  moved_told = record { may = may; view = refl; lies = λ j o e. lies_after j; gives = gives_at page may.2 }
