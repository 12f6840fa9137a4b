-- What a move of a page owes, by the slots themselves.
use Rattle.std.proofs.Common.{◌≡◌, ℕ, ◌<◌, List, length, map, option_map, Option, Some, None, sym, ap, ◌∙◌, subst, arith}
use Rattle.std.proofs.Common.{slice_get, slice_set, slice_index_or}
use Rattle.std.proofs.lemmas.List.{map-set}
use Rattle.std.proofs.lemmas.Option.{slice_get-map, slice_get-get_or}
use lib.ListN.{length-map}
use Rattle.kn_base.specs.Sizes.{frame_count}
use Rattle.kn_base.specs.SpanLists.{IsFreeListOf}
use Rattle.kn_base.specs.Pages.{FrameView}
use Rattle.kn_base.proofs.Updates.{split_at, get_set_here, get_set_else}
use Rattle.kn_graph.specs.declared.entries.Entry.{Entry}
use Rattle.kn_graph.specs.Ground.{Ground}
use Rattle.kn_rule.specs.FrameSpans.{frame_span}
use Rattle.kn_rule.specs.Views.{View, Open, flattened, owns}
use Rattle.kn_rule.specs.Steps.{callers}
use Rattle.kn_rule.specs.Moves.{IsPageOf, IsPageOfOwned}
use Rattle.kn_rule.specs.Rule.{fresh}
use Rattle.kn_keep_heap.proofs.Changed.{some_is}
use Rattle.kn_steps.specs.Made.{MayMove, MayMoveAt, Moved}
use Rattle.kn_view.specs.Parts.{Part}
use Rattle.kn_holds.specs.Holds.{Hold}
use Rattle.kn_board.specs.World.{World, slot_at, view_at, stand_at, lies_at, Sound, MovesTo}
use Rattle.kn_board.specs.Parts.{views_from, world_of}
use Rattle.kn_board.specs.Stored.{Kept, PagesFit, hold_at}
use Rattle.kn_board.proofs.Holdings.{open_of, owner}
use Rattle.kn_board.proofs.ViewsAt.{long_from, view_stored}
use Rattle.kn_board.proofs.MovesSound.{near, moved_sound, moved_told}

module _ {S : Type 0} (page_of : S → FrameView) (z : Ground) (words : List ℕ) (raw : List (Option S)) (known : List Part) (holds : List Hold)
    (history : List Entry) where
  abbrev at : List (Option S) → World
  at l = world_of z words (map (option_map page_of) l) known holds history

  module _ (o : World) (same : at raw ≡ o) (inv : Sound (at raw) × Kept z (map (option_map page_of) raw) known holds history) (by : ℕ)
      (less : by < callers o.heap.sizes) (k : ℕ) (arg : Option S) (may : MayMove (stand_at by o) (lies_at o) k (option_map page_of arg)) where
    less_now : by < callers z.sizes
    less_now = subst (λ (q : World). by < callers q.heap.sizes) (sym same) less

    may_now : MayMove (stand_at by (at raw)) (lies_at (at raw)) k (option_map page_of arg)
    may_now = subst (λ (q : World). MayMove (stand_at by q) (lies_at q) k (option_map page_of arg)) (sym same) may

    pub near_slot : k < length raw
    near_slot =
        let l = near (at raw) inv.0.0 inv.0.1.0 inv.0.1.1 inv.0.1.2 by less_now k (option_map page_of arg) may_now in
        let e = length-map raw (option_map page_of) in omega arith

    near_frame : k < frame_count z.sizes
    near_frame =
        let l = near_slot in let e = length-map raw (option_map page_of) in let n = inv.0.1.2.slots in omega arith

    module _ (new : Option S) (en : new ≡ arg) where
      set_is : map (option_map page_of) (slice_set raw k new) ≡ slice_set (map (option_map page_of) raw) k (option_map page_of arg)
      set_is = map-set (option_map page_of) raw k new ∙ ap (λ a. slice_set (map (option_map page_of) raw) k (option_map page_of a)) en

      moved_is : at (slice_set raw k new) ≡ record (at raw) { slots = slice_set (map (option_map page_of) raw) k (option_map page_of arg) }
      moved_is = ap (λ l. world_of z words l known holds history) set_is

      -- what is stored of the frame is what its owner's view has
      stored : ((hold_at holds k).by ≡ Some by) × (open_of (hold_at holds k) ≡ may_now.0)
      stored =
          let e : length (views_from z 0 known holds history) ≡ callers z.sizes = inv.0.1.2.views in
          let l = long_from z 0 known holds history in let mine : by < callers z.sizes = less_now in
          let view = view_stored z known holds history by (fresh z) (omega arith) in
          owner z holds inv.1.frames by k may_now.0 near_frame (sym (ap (λ (v : View). owns v k) view) ∙ may_now.1)

      page_fits : (x : Option FrameView) → MayMoveAt z (view_at (at raw) by) k (lies_at (at raw) k) x → (page : FrameView) → x ≡ Some page →
          IsFreeListOf (frame_span z.sizes k) page.free
      page_fits None m page e = let y : Option.None ≡ Some page = e in absurd (cc)
      page_fits (Some pg) m page e =
          let its : IsPageOf z.sizes k may_now.0 pg = subst (λ o. IsPageOfOwned z k o pg) may_now.1 m.1 in
          let free : (hold_at holds k).free.spans ≡ page.free =
          ap (λ (o : Open). o.free) stored.1 ∙ (sym its.free_is ∙ ap (λ (q : FrameView). q.free) (some_is pg page e)) in
          subst (IsFreeListOf (frame_span z.sizes k)) free (inv.1.frames.lists k by near_frame stored.0)

      pages_moved : PagesFit z.sizes (slice_set (map (option_map page_of) raw) k (option_map page_of arg))
      pages_moved p page l e =
          let slots : List (Option FrameView) = map (option_map page_of) raw in
          let x : Option FrameView = option_map page_of arg in
          let near : k < length slots = let n = length-map raw (option_map page_of) in let m = near_slot in omega arith in
          split_at (λ p. p < frame_count z.sizes → flattened (slice_get (slice_set slots k x) p) ≡ Some page →
          IsFreeListOf (frame_span z.sizes p) page.free) k
          (λ _ e. page_fits x may_now.2 page (sym (ap flattened (get_set_here slots k x near)) ∙ e)) p
          (λ ne l e. inv.1.pages p page l (sym (ap flattened (get_set_else slots k x p ne)) ∙ e)) l e

      pub exchange_sound : Sound (at (slice_set raw k new)) × Kept z (map (option_map page_of) (slice_set raw k new)) known holds history
      exchange_sound = (
        subst Sound (sym moved_is) (moved_sound (at raw) inv.0.0 inv.0.1.0 inv.0.1.1 inv.0.1.2 by less_now k (option_map page_of arg) may_now),
        record {
          wide = inv.1.wide;
          frames = inv.1.frames;
          pages = subst (PagesFit z.sizes) (sym set_is) pages_moved;
          made = inv.1.made;
        },
      )

      module _ (r : Option S) (er : r ≡ slice_index_or raw k r) where
        came : slot_at (at raw) k ≡ option_map page_of r
        came =
            ap flattened (slice_get-map (option_map page_of) raw k ∙ ap (option_map (option_map page_of)) (slice_get-get_or raw k r near_slot))
            ∙ ap (option_map page_of) (sym er)

        pub exchange_moves : MovesTo o k (option_map page_of arg) (option_map page_of r) (at (slice_set raw k new))
        exchange_moves =
            subst (λ q. MovesTo q k (option_map page_of arg) (option_map page_of r) (at (slice_set raw k new))) same (moved_is, sym came)

        pub exchange_told : Moved (stand_at by o) (lies_at o) k (option_map page_of arg) (option_map page_of r)
            (stand_at by (at (slice_set raw k new)))
            (lies_at (at (slice_set raw k new)))
        exchange_told =
            subst (λ q. Moved (stand_at by q) (lies_at q) k (option_map page_of arg) (option_map page_of r) (stand_at by (at (slice_set raw k new)))
            (lies_at (at (slice_set raw k new)))) same
            (subst (λ x. Moved (stand_at by (at raw)) (lies_at (at raw)) k (option_map page_of arg) x (stand_at by (at (slice_set raw k new)))
            (lies_at (at (slice_set raw k new)))) came
            (subst (λ q. Moved (stand_at by (at raw)) (lies_at (at raw)) k (option_map page_of arg) (slot_at (at raw) k) (stand_at by q) (lies_at q))
            (sym moved_is) (moved_told (at raw) inv.0.0 inv.0.1.0 inv.0.1.1 inv.0.1.2 by less_now k (option_map page_of arg) may_now)))
