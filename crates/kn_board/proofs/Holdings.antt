-- What is stored of frames, one of them changed.
use Rattle.std.proofs.Common.{◌≡◌, ◌≢◌, ℕ, zero, suc, ◌<◌, ◌≤◌, cond, eqb, inl, inr, List, [], ◌∷◌, length, map, Option, Some}
use Rattle.std.proofs.Common.{None, refl, sym, ap, ◌∙◌, subst, arith}
use Rattle.std.proofs.Common.{slice_get, slice_set, eq-eqb, ne_eqb, get_or-set_same, get_or-set_other, length-set}
use Rattle.std.proofs.lemmas.List.{map-set}
use Rattle.std.proofs.lemmas.Option.{slice_get-map, slice_get-get_or}
use Rattle.std.proofs.Math.Seq.{map-set_same}
use Rattle.std.proofs.lemmas.Bool.Decides.{eqb_tells}
use Rattle.kn_base.specs.declared.heap.Sizes.{Sizes}
use Rattle.kn_base.specs.declared.places.Place.{Place}
use Rattle.kn_base.specs.Sizes.{IsGood, frame_count}
use Rattle.kn_base.specs.SpanLists.{IsFreeListOf}
use Rattle.kn_base.specs.Pages.{FrameView}
use Rattle.kn_base.specs.Functions.{Tells}
use Rattle.kn_base.proofs.Updates.{split_at}
use Rattle.kn_graph.specs.declared.entries.Entry.{Entry}
use Rattle.kn_graph.specs.Ground.{Ground}
use Rattle.kn_rule.specs.declared.steps.Kind.{Kind}
use Rattle.kn_rule.specs.declared.steps.Action.{Action}
use Rattle.kn_rule.specs.FrameSpans.{frame_span}
use Rattle.kn_rule.specs.Views.{Open, flattened}
use Rattle.kn_rule.specs.Steps.{Found}
use Rattle.kn_rule.specs.Outcomes.{outcome}
use Rattle.kn_keep_heap.proofs.Changed.{some_is}
use Rattle.kn_view.specs.Parts.{Part}
use Rattle.kn_view.specs.Told.{Makes, Says, told}
use Rattle.kn_holds.specs.Holds.{Hold, FreeListsAreShort}
use Rattle.kn_board.specs.Parts.{own_of, is_by}
use Rattle.kn_board.specs.Stored.{HoldsFit, PagesFit, hold_at, nobody}
use Rattle.kn_board.specs.Noted.{Noted}
use Rattle.kn_board.proofs.WordFrames.{two_words}

-- what a view has of a frame that is owned
abbrev pub open_of : Hold → Open
open_of hold = record { word = hold.word; free = hold.free.spans; cursor = hold.cursor }

-- the owner's view has the frame, and no other caller's has
pub own_mine : (by : ℕ) (hold : Hold) → hold.by ≡ Some by → own_of by hold ≡ Some (open_of hold)
own_mine by hold e = ap (λ o. cond (is_by by o) (Some (open_of hold)) None) e ∙ ap (λ b. cond b (Some (open_of hold)) None) (eq-eqb by by refl)

pub own_other : (by c : ℕ) (hold : Hold) → hold.by ≡ Some by → by ≢ c → own_of c hold ≡ None
own_other by c hold e n = ap (λ o. cond (is_by c o) (Some (open_of hold)) None) e ∙ ap (λ b. cond b (Some (open_of hold)) None) (ne_eqb by c n)

pub own_none : (c : ℕ) (hold : Hold) → hold.by ≡ None → own_of c hold ≡ None
own_none c hold e = ap (λ o. cond (is_by c o) (Some (open_of hold)) None) e

-- a slot that has a page is one of the list
pub slot_near : {S : Type 0} (page_of : S → Option FrameView) (slots : List S) (k : ℕ) (page : FrameView) →
    flattened (slice_get (map page_of slots) k) ≡ Some page → k < length slots
slot_near page_of [] k page e = let x : Option.None ≡ Some page = e in absurd (cc)
slot_near page_of (x ∷ xs) zero page e = omega arith
slot_near page_of (x ∷ xs) (suc k) page e = let l = slot_near page_of xs k page e in omega arith

-- there is room for the spans of a page
pub page_room : (z : Sizes) → IsGood z → FreeListsAreShort → (holds : List Hold) → HoldsFit z holds → (slots : List (Option FrameView)) →
    PagesFit z slots →
    (k : ℕ) → k < frame_count z → (page : FrameView) → flattened (slice_get slots k) ≡ Some page → length page.free ≤ (hold_at holds k).free.room
page_room z good law holds fits slots pages k near page e =
    let short = law (frame_span z k) page.free (two_words z good k near) (pages k page near e) in
    let room = fits.rooms k near in omega arith

-- what a view has of a frame, by what is stored of it
pub owns_stored : (c : ℕ) (holds : List Hold) (k : ℕ) → k < length holds → flattened (slice_get (map (own_of c) holds) k) ≡ own_of c (hold_at holds k)
owns_stored c holds k l =
    ap flattened (slice_get-map (own_of c) holds k ∙ ap (Rattle.std.specs.Option.option_map (own_of c)) (slice_get-get_or holds k (nobody 0) l))

-- a frame that a view has is stored as owned by its caller
owner_at : (by : ℕ) (hold : Hold) (o : Open) (d : ℕ) → Tells d by → cond (eqb d by) (Some (open_of hold)) None ≡ Some o →
    (d ≡ by) × (open_of hold ≡ o)
owner_at by hold o d (inl t) e = (t.1, some_is (open_of hold) o (sym (ap (λ b. cond b (Some (open_of hold)) None) t.0) ∙ e))
owner_at by hold o d (inr t) e = let x : Option.None ≡ Some o = sym (ap (λ b. cond b (Some (open_of hold)) None) t.0) ∙ e in absurd (cc)

owner_of : (by : ℕ) (hold : Hold) (o : Open) (d : Option ℕ) → cond (is_by by d) (Some (open_of hold)) None ≡ Some o →
    (d ≡ Some by) × (open_of hold ≡ o)
owner_of by hold o None e = let x : Option.None ≡ Some o = e in absurd (cc)
owner_of by hold o (Some d) e = let h = owner_at by hold o d (eqb_tells d by) e in (ap Some h.0, h.1)

pub owner : (z : Ground) (holds : List Hold) → HoldsFit z.sizes holds → (by k : ℕ) (o : Open) → k < frame_count z.sizes →
    flattened (slice_get (map (own_of by) holds) k) ≡ Some o → ((hold_at holds k).by ≡ Some by) × (open_of (hold_at holds k) ≡ o)
owner z holds fits by k o near e =
    let n = fits.count in
    owner_of by (hold_at holds k) o (hold_at holds k).by (sym (owns_stored by holds k (omega arith)) ∙ e)

module _ (z : Ground) (by : ℕ) (old new : Part) (holds : List Hold) (before after : List Entry) (p : Place) (a : Action) (f : Found) (k k' : Kind)
    (is : k ≡ k') where
  -- what is said of a kind by name
  pub noted_of : (holds' : List Hold) → Noted z by old new holds holds' before after (λ v. outcome z by v p a f k') →
      Noted z by old new holds holds' before after (λ v. outcome z by v p a f k)
  noted_of holds' h = subst (λ q. Noted z by old new holds holds' before after (λ v. outcome z by v p a f q)) (sym is) h

  -- a step that changes nothing of frames
  pub noted_plain : HoldsFit z.sizes holds → Says z old new before after (λ v. outcome z by v p a f k') →
      Noted z by old new holds holds before after (λ v. outcome z by v p a f k)
  noted_plain fits h = noted_of holds (record { mine = λ log. h (map (own_of by) holds) log; others = λ c l n. refl; fits = fits })

-- nor says anything
pub noted_quietly : (z : Ground) (by : ℕ) (old new : Part) (holds : List Hold) (history : List Entry) (p : Place) (a : Action) (f : Found)
    (k k' : Kind) (is : k ≡ k') → HoldsFit z.sizes holds → Makes z old new (λ v. outcome z by v p a f k') →
    Noted z by old new holds holds history history (λ v. outcome z by v p a f k)
noted_quietly z by old new holds history p a f k k' is fits h =
    noted_plain z by old new holds history history p a f k k' is fits (λ owned log. ap (told history) (h owned log))

module _ (z : Sizes) (holds : List Hold) (fits : HoldsFit z holds) (k : ℕ) (near : k < frame_count z) (hold : Hold) where
  within : k < length holds
  within = let e = fits.count in omega arith

  module _ (P : ℕ → Hold → Type 0) (here : P k hold) where
    at_each : ((p : ℕ) → p < frame_count z → P p (hold_at holds p)) → (p : ℕ) → p < frame_count z → P p (hold_at (slice_set holds k hold) p)
    at_each was p l =
        split_at (λ p. p < frame_count z → P p (hold_at (slice_set holds k hold) p)) k
        (λ _. subst (P k) (sym (get_or-set_same holds k hold (nobody 0) within)) here) p
        (λ ne l. subst (P p) (sym (get_or-set_other holds k p hold (nobody 0) (λ e. ne (sym e)))) (was p l)) l

  pub fits_set : hold.free.room ≡ (hold_at holds k).free.room →
      ((c : ℕ) → hold.by ≡ Some c → IsFreeListOf (frame_span z k) hold.free.spans) → HoldsFit z (slice_set holds k hold)
  fits_set room lists = record {
    count = length-set holds k hold ∙ fits.count;
    rooms = at_each (λ p h. h.free.room ≡ (frame_span z p).len) (room ∙ fits.rooms k near) fits.rooms;
    lists = λ p c l. at_each (λ p h. (c : ℕ) → h.by ≡ Some c → IsFreeListOf (frame_span z p) h.free.spans) lists (λ p l c. fits.lists p c l) p l c;
  }

  -- what callers have of frames
  pub mine_set : (by : ℕ) (x : Option Open) → own_of by hold ≡ x → map (own_of by) (slice_set holds k hold) ≡ slice_set (map (own_of by) holds) k x
  mine_set by x e = map-set (own_of by) holds k hold ∙ ap (slice_set (map (own_of by) holds) k) e

  pub others_set : (c : ℕ) → own_of c hold ≡ own_of c (hold_at holds k) → map (own_of c) (slice_set holds k hold) ≡ map (own_of c) holds
  others_set c e = map-set_same (own_of c) holds k hold (nobody 0) e
