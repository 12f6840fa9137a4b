-- What the calls of one step owe, by the values that the code has.
use Rattle.std.proofs.Common.{◌≡◌, ℕ, ◌<◌, List, length, map, option_map, Option, sym, ap, ◌∙◌, subst, arith}
use Rattle.std.proofs.Common.{slice_get, slice_set, slice_index, slice_index_or}
use Rattle.std.proofs.lemmas.List.{get_or_read}
use Rattle.kn_base.specs.declared.heap.Sizes.{Sizes}
use Rattle.kn_base.specs.declared.places.Place.{Place}
use Rattle.kn_base.specs.Pages.{FrameView}
use Rattle.kn_layout.specs.declared.layouts.Layout.{Layout}
use Rattle.kn_graph.specs.declared.entries.Entry.{Entry}
use Rattle.kn_graph.specs.Ground.{Ground}
use Rattle.kn_rule.specs.declared.steps.Kind.{Kind}
use Rattle.kn_rule.specs.declared.steps.Action.{Action}
use Rattle.kn_rule.specs.Allowed.{MayMake}
use Rattle.kn_rule.specs.Places.{Within, index}
use Rattle.kn_rule.specs.Views.{flattened}
use Rattle.kn_rule.specs.Steps.{does, found, callers, frame_in, word_wanted, word_after}
use Rattle.kn_rule.specs.Outcomes.{outcome}
use Rattle.kn_rule.proofs.Indexes.{places_lie}
use Rattle.kn_steps.specs.Made.{Made}
use Rattle.kn_view.specs.Parts.{Part, ground_of, new_part}
use Rattle.kn_view.specs.Told.{IsShort}
use Rattle.kn_view.specs.Words.{MayLeave}
use Rattle.kn_holds.specs.Holds.{Hold}
use Rattle.kn_board.specs.World.{World, word_at, view_at, lies_at, IsPageFound, Sound, StepsTo, stand_at}
use Rattle.kn_board.specs.Parts.{world_of}
use Rattle.kn_board.specs.Stored.{IsWide, Kept, PagesFit, part_at}
use Rattle.kn_board.specs.Asks.{Asks}
use Rattle.kn_board.specs.Noted.{Noted}
use Rattle.kn_board.proofs.Stepping.{near_by, within, leaves, wide, asks, short, page, lies, kept_after, sound_now, steps_now, made_now}

module _ {S : Type 0} (page_of : S → FrameView) (sizes : Sizes) (layouts : List Layout) (words : List ℕ) (raw : List (Option S))
    (known : List Part) (holds : List Hold) (history : List Entry) where
  abbrev z : Ground
  z = ground_of sizes layouts

  abbrev slots : List (Option FrameView)
  slots = map (option_map page_of) raw

  abbrev w : World
  w = world_of z words slots known holds history

  -- o is what the fields were at the call
  module _ (o : World) (same : w ≡ o) (inv : Sound w × Kept z slots known holds history) (by : ℕ) (less : by < callers o.heap.sizes)
      (k : Kind) (p : Place) (a : Action) (may : MayMake o.heap by (view_at o by) (lies_at o) (does k p a)) where
    less_now : by < callers sizes
    less_now = subst (λ (q : World). by < callers q.heap.sizes) (sym same) less

    may_now : MayMake z by (view_at w by) (lies_at w) (does k p a)
    may_now = subst (λ (q : World). MayMake q.heap by (view_at q by) (lies_at q) (does k p a)) (sym same) may

    pub within_call : Within sizes p
    within_call = within z words slots known holds history inv.0 inv.1 by less_now k p a may_now

    pub lies_call : index sizes p < length words
    lies_call = let a = places_lie sizes p within_call in let b = inv.0.1.2.words in omega arith

    pub short_call : IsShort history
    short_call = short z words slots known holds history inv.0 inv.1 by less_now k p a may_now

    pub near_call : by < length known
    near_call = near_by z words slots known holds history inv.0 inv.1 by less_now k p a may_now

    module _ (word i : ℕ) (ei : i ≡ index sizes p) (ew : word ≡ slice_index_or words i word) where
      word_is : word ≡ word_at w p
      word_is =
          let near = lies_call in
          get_or_read words i word (omega arith) ew 0 ∙ ap (slice_index words) ei

      pub leaves_call : MayLeave a word
      leaves_call = subst (λ n. MayLeave a n) (sym word_is) (leaves z words slots known holds history inv.0 inv.1 by less_now k p a may_now)

      module _ (layouts' : List Layout) (el : layouts' ≡ layouts) (raw' : List (Option S)) (er : raw' ≡ raw) (kn : Part)
          (ek : kn ≡ slice_index_or known by kn) where
        kn_is : kn ≡ part_at z known by
        kn_is = get_or_read known by kn near_call ek (new_part z)

        pub wide_call : IsWide sizes kn
        wide_call = subst (IsWide sizes) (sym kn_is) (wide z words slots known holds history inv.0 inv.1 by less_now k p a may_now)

        pub pages_call : PagesFit sizes (map (option_map page_of) raw')
        pages_call = subst (λ l. PagesFit sizes (map (option_map page_of) l)) (sym er) inv.1.pages

        abbrev slot : List (Option S) → Option FrameView
        slot l = flattened (slice_get (map (option_map page_of) l) (frame_in p))

        pub asks_call : Asks (ground_of sizes layouts') by kn p a word holds (slot raw') k
        asks_call =
            subst (λ l. Asks (ground_of sizes l) by kn p a word holds (slot raw') k) (sym el)
            (subst (λ l. Asks z by kn p a word holds (slot l) k) (sym er)
            (subst (λ q. Asks z by q p a word holds (slot raw) k) (sym kn_is)
            (subst (λ n. Asks z by (part_at z known by) p a n holds (slot raw) k) (sym word_is)
            (asks z words slots known holds history inv.0 inv.1 by less_now k p a may_now))))

        module _ (part' : Part) (holds' : List Hold) (h' : List Entry)
            (notes : (page : FrameView) → IsPageFound k (word_wanted a) (found word page) (slot raw') →
            Noted (ground_of sizes layouts') by kn part' holds holds' history h'
            (λ v. outcome (ground_of sizes layouts') by v p a (found word page) k))
          where
            abbrev pg : FrameView
            pg = page z words slots known holds history inv.0 inv.1 by less_now k p a may_now

            lies_there : IsPageFound k (word_wanted a) (found word pg) (slot raw)
            lies_there =
                subst (λ n. IsPageFound k (word_wanted a) (found n pg) (slot raw)) (sym word_is)
                (lies z words slots known holds history inv.0 inv.1 by less_now k p a may_now)

            noted : Noted z by (part_at z known by) part' holds holds' history h' (λ v. outcome z by v p a (found (word_at w p) pg) k)
            noted =
                subst (λ n. Noted z by (part_at z known by) part' holds holds' history h' (λ v. outcome z by v p a (found n pg) k)) word_is
                (subst (λ q. Noted z by q part' holds holds' history h' (λ v. outcome z by v p a (found word pg) k)) kn_is
                (subst (λ l. Noted (ground_of sizes l) by kn part' holds holds' history h'
                (λ v. outcome (ground_of sizes l) by v p a (found word pg) k)) el
                (notes pg (subst (λ l. IsPageFound k (word_wanted a) (found word pg) (slot l)) (sym er) lies_there))))

            module _ (new : ℕ) (en : new ≡ word_after a word) where
              abbrev after : World
              after = world_of z (slice_set words i new) slots (slice_set known by part') holds' h'

              en' : new ≡ word_after a (word_at w p)
              en' = en ∙ ap (word_after a) word_is

              pub sound_call : Sound after × Kept z slots (slice_set known by part') holds' h'
              sound_call = (
                sound_now z words slots known holds history inv.0 inv.1 by less_now k p a may_now part' holds' h' noted i new ei en',
                kept_after z words slots known holds history inv.0 inv.1 by less_now k p a may_now part' holds' h' noted,
              )

              -- what the step tells, of a page that it found
              abbrev Told : World → ℕ → Type 0
              Told q n =
                  (page : FrameView) × StepsTo q by (does k p a) (found n page) after
                  × Made (stand_at by q) (lies_at q) (does k p a) (found n page) (stand_at by after) (lies_at after)

              pub steps_call : Told o word
              steps_call =
                  subst (λ q. Told q word) same (subst (λ n. Told w n) (sym word_is) (
                    pg,
                    steps_now z words slots known holds history inv.0 inv.1 by less_now k p a may_now part' holds' h' noted i new ei en',
                    made_now z words slots known holds history inv.0 inv.1 by less_now k p a may_now part' holds' h' noted i new ei en',
                  ))
