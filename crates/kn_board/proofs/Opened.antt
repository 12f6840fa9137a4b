-- What is stored at the start stands for a board at its start.
use Rattle.std.proofs.Common.{◌≡◌, ℕ, zero, suc, ◌+◌, ◌<◌, List, [], ◌∷◌, length, map, replicate}
use Rattle.std.proofs.Common.{option_map, Option, Some}
use Rattle.std.proofs.Common.{None, false, refl, sym, ap, ◌∙◌, subst, arith}
use Rattle.std.proofs.Common.{slice_get, slice_index_or}
use Rattle.std.proofs.lemmas.List.{length-replicate}
use Rattle.kn_base.specs.Sizes.{frame_count}
use Rattle.kn_base.specs.SpanLists.{IsFreeListOf}
use Rattle.kn_base.specs.Pages.{FrameView}
use Rattle.kn_graph.specs.declared.entries.Entry.{Entry}
use Rattle.kn_graph.specs.Ground.{Ground, IsGoodGround}
use Rattle.kn_rule.specs.FrameSpans.{frame_span}
use Rattle.kn_rule.specs.Places.{table_words}
use Rattle.kn_rule.specs.Views.{Open}
use Rattle.kn_rule.specs.Steps.{callers}
use Rattle.kn_rule.specs.Rule.{fresh}
use Rattle.kn_keep_heap.proofs.Changed.{some_is}
use Rattle.kn_view.specs.Parts.{Part, new_part, view_with}
use Rattle.kn_holds.specs.Holds.{Hold}
use Rattle.kn_board.specs.World.{world, Sound}
use Rattle.kn_board.specs.Open.{AreWhole, opened}
use Rattle.kn_board.specs.Parts.{own_of, views_from, world_of}
use Rattle.kn_board.specs.Stored.{IsWide, HoldsFit, PagesFit, AreUnowned, Kept, hold_at, part_at}
use Rattle.kn_board.proofs.Holdings.{own_none}
use Rattle.kn_board.proofs.Opens.{opens, in_its_slot}
use Rattle.kn_board.proofs.WordFrames.{two_words}

-- no caller has a frame
none_owned : (c : ℕ) (holds : List Hold) (n : ℕ) → length holds ≡ n → ((p : ℕ) → p < n → (hold_at holds p).by ≡ None) →
    map (own_of c) holds ≡ replicate n None
none_owned c [] n e h = let z : n ≡ 0 = omega arith in sym (ap (λ m. replicate {A = Option Open} m None) z)
none_owned c (x ∷ holds) zero e h = absurd (omega arith)
none_owned c (x ∷ holds) (suc n) e h =
    λ t. own_none c x (h 0 (omega arith)) t ∷ none_owned c holds n (omega arith) (λ p l. h (suc p) (omega arith)) t

all_same : {A : Type 0} (x : A) (n c : ℕ) → slice_index_or (replicate n x) c x ≡ x
all_same x zero c = refl
all_same x (suc n) zero = refl
all_same x (suc n) (suc c) = all_same x n c

in_slots : {S : Type 0} (page_of : S → FrameView) (pages : List S) →
    map (option_map page_of) (map (λ page. Some page) pages) ≡ map (λ page. Some page) (map page_of pages)
in_slots page_of [] = refl
in_slots page_of (x ∷ pages) = ap (λ l. Some (page_of x) ∷ l) (in_slots page_of pages)

module _ (z : Ground) (good : IsGoodGround z) (holds : List Hold) (none : AreUnowned z.sizes holds) where
  none_by : (p : ℕ) → p < frame_count z.sizes → (hold_at holds p).by ≡ None
  none_by p l = ap (λ (h : Hold). h.by) (none.each p l)

  new_from : (n m : ℕ) → views_from z n (replicate m (new_part z)) holds [] ≡ replicate m (fresh z)
  new_from n zero = refl
  new_from n (suc m) =
      λ t. view_with z (new_part z) (none_owned n holds (frame_count z.sizes) none.count none_by t) [] ∷ new_from (n + 1) m t

  fits : HoldsFit z.sizes holds
  fits = record {
    count = none.count;
    rooms = λ p l. ap (λ (h : Hold). h.free.room) (none.each p l);
    lists = λ p c l e. (let x : Option.None ≡ Some c = sym (none_by p l) ∙ e in absurd (cc));
  }

  module _ {S : Type 0} (page_of : S → FrameView) (pages : List S) (whole : AreWhole z.sizes (map page_of pages)) where
    page_fits : (p : ℕ) (page : FrameView) → p < frame_count z.sizes → slice_get (map page_of pages) p ≡ Some page →
        IsFreeListOf (frame_span z.sizes p) page.free
    page_fits p page l e =
        let w = whole.each p l in
        let is : w.0 ≡ page = some_is w.0 page (sym w.1 ∙ e) in
        let free = w.2.2 ∙ refl in
        let two = two_words z.sizes good.sizes p l in
        subst (λ (q : FrameView). IsFreeListOf (frame_span z.sizes p) q.free) is
        (subst (IsFreeListOf (frame_span z.sizes p)) (sym free) (omega arith, omega arith, omega arith, tt))

    pages_fit : PagesFit z.sizes (map (λ page. Some page) (map page_of pages))
    pages_fit p page l e = page_fits p page l (sym (in_its_slot (map page_of pages) p) ∙ e)

    module _ (words : List ℕ) (ew : words ≡ replicate (table_words z.sizes) 0) (slots : List (Option S)) (es : slots ≡ map (λ page. Some page) pages)
        (known : List Part) (ek : known ≡ replicate (callers z.sizes) (new_part z)) (history : List Entry) (eh : history ≡ []) where
      slots_are : map (option_map page_of) slots ≡ map (λ page. Some page) (map page_of pages)
      slots_are = ap (map (option_map page_of)) es ∙ in_slots page_of pages

      pub made_is : world_of z words (map (option_map page_of) slots) known holds history ≡ opened z (map page_of pages)
      made_is = λ t. world z (ew t) (slots_are t) (((λ u. views_from z 0 (ek u) holds (eh u)) ∙ new_from 0 (callers z.sizes)) t) (eh t)

      pub made_sound : Sound (world_of z words (map (option_map page_of) slots) known holds history)
          × Kept z (map (option_map page_of) slots) known holds history
      made_sound = (
        subst Sound (sym made_is) (opens z good (map page_of pages) whole),
        record {
          wide = λ c l.
              let part : part_at z known c ≡ new_part z = ap (λ k. part_at z k c) ek ∙ all_same (new_part z) (callers z.sizes) c in
              subst (IsWide z.sizes) (sym part) (
                length-replicate (frame_count z.sizes) None,
                length-replicate (frame_count z.sizes) false,
                length-replicate z.sizes.threads false,
                length-replicate z.sizes.threads false,
              );
          frames = fits;
          pages = subst (PagesFit z.sizes) (sym slots_are) pages_fit;
          made = subst (Rattle.kn_board.specs.Room.AreMade z.sizes.threads) (sym eh) tt;
        },
      )
