-- A turn leaves the heap, and what the other callers know and have.
use Rattle.std.proofs.Common.{◌≡◌, ◌≢◌, ℕ, ◌<◌, inl, inr, Option, Some, is_some, refl, sym, ap, ◌∙◌, subst}
use Rattle.std.proofs.Common.{slice_set, get_or-set_other}
use Rattle.kn_base.specs.declared.places.Place.TheVariants.{Frame}
use Rattle.kn_base.specs.Pages.{FrameView}
use Rattle.kn_base.proofs.Updates.{get_set_else}
use Rattle.kn_rule.specs.Decoding.{frame_of}
use Rattle.kn_rule.specs.Views.{View, State, Open, flattened, owns}
use Rattle.kn_rule.specs.Steps.{Step, Found, callers}
use Rattle.kn_rule.specs.Moves.{view_after}
use Rattle.kn_rule.specs.Rule.{Rule, fresh}
use Rattle.kn_steps.specs.Made.{LieAs}
use Rattle.kn_board.specs.World.{World, StandsFor, view_at, lies_at, world_after}
use Rattle.kn_others.specs.Laws.{OthersStay, HeapStays}

pub heap_stays : HeapStays
heap_stays w w' c (inl one) = ap (λ (u : World). u.heap) one.kept.1.0
heap_stays w w' c (inr one) = ap (λ (u : World). u.heap) one.kept.1.0

module _ (w : World) (c d : ℕ) (ne : c ≢ d) where
  -- the other caller's view, and where its pages lie, as they were
  abbrev Stays : World → Type 0
  Stays u = (view_at u d ≡ view_at w d) × LieAs (view_at w d) (lies_at w) (lies_at u)

  step_stays : (a : Step) (f : Found) → Stays (world_after w c a f)
  step_stays a f = (get_or-set_other w.views c d (view_after w.heap c (view_at w c) a f) (fresh w.heap) (λ e. ne (sym e)), λ p o own. refl)

  module _ (s : State) (rule : Rule w.heap s) (h : StandsFor w s) (near_c : c < callers w.heap.sizes) (near_d : d < callers w.heap.sizes) where
    -- an owned frame's word names its owner
    named : (i p : ℕ) (o : Open) → i < callers w.heap.sizes → owns (view_at w i) p ≡ Some o → (frame_of (s.word (Frame p))).seat ≡ i
    named i p o l own = (rule.1.stands.framed.owning p i o l (sym (ap (λ (v : View). owns v p) (h.views_are i l)) ∙ own)).3

    move_stays : (k : ℕ) (o : Open) (page : Option FrameView) → owns (view_at w c) k ≡ Some o →
        Stays (record w { slots = slice_set w.slots k page })
    move_stays k o page mine = (
      refl,
      λ p q own. ap (λ x. is_some (flattened x)) (get_set_else w.slots k page p
          (λ e. ne (sym (named c k o near_c mine) ∙ (ap (λ j. (frame_of (s.word (Frame j))).seat) e ∙ named d p q near_d own)))),
    )

pub others_stay : OthersStay
others_stay w w' c d sound l m ne (inl one) = subst (Stays w c d ne) (sym one.kept.1.0) (step_stays w c d ne one.step one.found)
others_stay w w' c d sound l m ne (inr one) =
    subst (Stays w c d ne) (sym one.kept.1.0)
    (move_stays w c d ne sound.1.0 sound.1.1 sound.1.2 l m one.frame one.made.may.0 one.page one.made.may.1)
