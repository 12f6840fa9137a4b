-- A board at its start is sound.
use Rattle.std.proofs.Common.{◌≡◌, ℕ, zero, suc, List, [], ◌∷◌, map, replicate, Option, Some, None, refl, sym, ap, ◌∙◌}
use Rattle.std.proofs.Common.{slice_get, slice_index, slice_index_or}
use Rattle.std.proofs.lemmas.List.{length-replicate}
use lib.ListN.{length-map}
use Rattle.kn_base.specs.Sizes.{frame_count}
use Rattle.kn_base.specs.Pages.{FrameView}
use Rattle.kn_graph.specs.Ground.{Ground, IsGoodGround}
use Rattle.kn_rule.specs.Places.{index, table_words}
use Rattle.kn_rule.specs.Views.{View, Open, flattened, owns}
use Rattle.kn_rule.specs.Steps.{callers}
use Rattle.kn_rule.specs.Rule.{start, fresh, AllHome}
use Rattle.kn_rule.proofs.Start.{start_meets_rule}
use Rattle.kn_board.specs.World.{World, slot_at, Sound}
use Rattle.kn_board.specs.Open.{opened, AreWhole}

zero_at : (n i : ℕ) → slice_index (replicate n 0) i ≡ 0
zero_at zero i = refl
zero_at (suc n) zero = refl
zero_at (suc n) (suc i) = zero_at n i

all_fresh : (v : View) (n c : ℕ) → slice_index_or (replicate n v) c v ≡ v
all_fresh v zero c = refl
all_fresh v (suc n) zero = refl
all_fresh v (suc n) (suc c) = all_fresh v n c

none_owned : (n k : ℕ) → flattened {A = Open} (slice_get (replicate n None) k) ≡ None
none_owned zero k = refl
none_owned (suc n) zero = refl
none_owned (suc n) (suc k) = none_owned n k

pub in_its_slot : (pages : List FrameView) (p : ℕ) → flattened (slice_get (map (λ page. Some page) pages) p) ≡ slice_get pages p
in_its_slot [] p = refl
in_its_slot (page ∷ pages) zero = refl
in_its_slot (page ∷ pages) (suc p) = in_its_slot pages p

pub opens : (z : Ground) → IsGoodGround z → (pages : List FrameView) → AreWhole z.sizes pages → Sound (opened z pages)
opens z good pages whole =
    let w : World = opened z pages in
    let home : AllHome z.sizes (slot_at w) =
    λ p l. (let h = whole.each p l in (h.0, in_its_slot pages p ∙ h.1, h.2.0, h.2.1, h.2.2)) in (
      good,
      (
        start z (slot_at w),
        start_meets_rule z (slot_at w) home,
        record {
          words = length-replicate (table_words z.sizes) 0;
          slots = length-map pages (λ page. Some page) ∙ whole.count;
          views = length-replicate (callers z.sizes) (fresh z);
          words_are = λ p i. zero_at (table_words z.sizes) (index z.sizes p);
          pages_are = λ p l ne. refl;
          views_are = λ c l. all_fresh (fresh z) (callers z.sizes) c;
          history_is = refl;
          in_hands = λ c p o l e.
              let own : owns (fresh z) p ≡ Some o = sym (ap (λ (v : View). owns v p) (all_fresh (fresh z) (callers z.sizes) c)) ∙ e in
              let x : Option.None ≡ Some o = sym (none_owned (frame_count z.sizes) p) ∙ own in absurd (cc);
        },
      ),
    )
