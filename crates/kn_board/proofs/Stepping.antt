-- One step of the board, by what is stored.
use Rattle.std.proofs.Common.{◌≡◌, ℕ, ◌+◌, ◌^◌, ◌<◌, ◌⊎◌, inl, inr, Bool, true, List, []}
use Rattle.std.proofs.Common.{◌∷◌, length}
use Rattle.std.proofs.Common.{map, Option, Some, None, is_some}
use Rattle.std.proofs.Common.{refl, sym, ap, ◌∙◌, subst}
use Rattle.std.proofs.Common.{slice_set, arith, get_or-set_same, get_or-set_other}
use Rattle.kn_base.specs.declared.places.Place.{Place}
use Rattle.kn_base.specs.declared.places.Place.TheVariants.{Pending}
use Rattle.kn_base.specs.Pages.{FrameView}
use Rattle.kn_base.proofs.Updates.{split_at}
use Rattle.kn_graph.specs.declared.entries.Entry.{Entry}
use Rattle.kn_graph.specs.declared.entries.Event.{Event}
use Rattle.kn_graph.specs.declared.entries.Event.TheVariants as events
use Rattle.kn_graph.specs.Ground.{Ground}
use Rattle.kn_graph.specs.Logs.{log_of}
use Rattle.kn_rule.specs.declared.steps.Kind.{Kind}
use Rattle.kn_rule.specs.declared.steps.Kind.TheVariants.{K1, K2, K3, K4, K5, K6}
use Rattle.kn_rule.specs.declared.steps.Kind.TheVariants.{K7, K8, K9, K10, K11, K12, K13, K14, K15, K16}
use Rattle.kn_rule.specs.declared.steps.Kind.TheVariants.{K17, K18, K19, K20, K21, K22, K23, K24}
use Rattle.kn_rule.specs.declared.steps.Action.{Action}
use Rattle.kn_rule.specs.declared.positions.Position.{Position}
use Rattle.kn_rule.specs.declared.positions.Position.TheVariants.{Calling}
use Rattle.kn_rule.specs.declared.steps.Action.TheVariants.{Stores}
use Rattle.kn_rule.specs.Places.{Within, index}
use Rattle.kn_rule.specs.Views.{View, State}
use Rattle.kn_rule.specs.Steps.{Step, Found, does, found, callers, frame_in, logged, more, word_wanted, word_after}
use Rattle.kn_rule.specs.Outcomes.{outcome, wanted_at, count_at}
use Rattle.kn_rule.specs.Allowed.{MayBe, MayMake, MayWant, MayCount}
use Rattle.kn_rule.specs.MarkSteps.{IsMarker, MayMoveSet, MayMoveMark, MayLoadCell, MayReserve}
use Rattle.kn_rule.specs.Moves.{view_after}
use Rattle.kn_rule.specs.Rule.{Rule, fresh}
use Rattle.kn_keep_marking.proofs.Withins.{steps_lie_within}
use Rattle.kn_steps.specs.Made.{Made}
use Rattle.kn_view.specs.Parts.{Part, view_with}
use Rattle.kn_view.specs.Told.{IsShort, Told}
use Rattle.kn_view.specs.Words.{MayLeave}
use Rattle.kn_holds.specs.Holds.{Hold}
use Rattle.kn_board.specs.World.{World, world, word_at, slot_at, view_at, lies_at, IsPageFound, StandsFor, Sound, StepsTo, world_after, stand_at}
use Rattle.kn_board.specs.Parts.{own_of, view_of, views_from, world_of}
use Rattle.kn_board.specs.Room.{IsCall, IsPause, IsMadeBy, AreMade, IsAtMostOne, IsOfKind}
use Rattle.kn_board.specs.Stored.{IsWide, Kept, part_at}
use Rattle.kn_board.specs.Asks.{Asks}
use Rattle.kn_board.specs.Noted.{Noted}
use Rattle.kn_board.proofs.AsksOf.{asks_by}
use Rattle.kn_board.proofs.Leavings.{LeavesOf, outcome_leaves}
use Rattle.kn_board.proofs.ShareFits.{count_small}
use Rattle.kn_board.proofs.Room.{histories_fit}
use Rattle.kn_board.proofs.StepMade.{step_made}
use Rattle.kn_board.proofs.StepSound.{step_sound}
use Rattle.kn_board.proofs.ViewsAt.{log_mine, log_other, long_from, view_stored, views_set}

-- the page in a slot, or some page
abbrev page_or : Option FrameView → FrameView
page_or None = record { frame = record { start = 0; len = 0 }; class = 0; free = []; cursor = 0 }
page_or (Some page) = page

lies_or : (slot : Option FrameView) → is_some slot ≡ true → slot ≡ Some (page_or slot)
lies_or None e = cc
lies_or (Some page) e = refl

-- a caller may say what is of a sort
abbrev MaySay : ℕ → ℕ → (Event → Type 0) → Type 0
MaySay n c IsSort = (what : Event) → IsSort what → IsMadeBy n c what

call_made : (n c : ℕ) → c < n → MaySay n c IsCall
call_made n c l (events.Call call reply address) h = l
call_made n c l _ h = absurd h

pause_made : (n c : ℕ) → c ≡ n → MaySay n c IsPause
pause_made n c e (events.Pause i) h = e
pause_made n c e _ h = absurd h

-- one entry more
made_more : (IsSort : Event → Type 0) (n c : ℕ) (h says : List Entry) → MaySay n c IsSort ⊎ (says ≡ []) → AreMade n h →
    IsAtMostOne IsSort c says → AreMade n (more h says)
made_more IsSort n c h [] l a m = a
made_more IsSort n c h (e ∷ []) (inr l) a m = let x : e ∷ [] ≡ [] = l in absurd (cc)
made_more IsSort n c [] (e ∷ []) (inl l) a m = (subst (λ i. IsMadeBy n i e.what) (sym m.0) (l e.what m.1), tt)
made_more IsSort n c (x ∷ h) (e ∷ []) (inl l) a m = (a.0, made_more IsSort n c h (e ∷ []) (inl l) a.1 m)
made_more IsSort n c h (e ∷ x ∷ rest) l a m = absurd m

module _ (z : Ground) (by : ℕ) (v : View) (here : ℕ → Bool) (p : Place) (a : Action) where
  want_quiet : (f : Found) (at : Position) → (wanted_at z by v p a f at).says ≡ []
  want_quiet f (Calling call) = refl
  want_quiet f _ = refl

  count_quiet : (f : Found) (b : Action) → (count_at z by v p a f b).says ≡ []
  count_quiet f (Stores n) = refl
  count_quiet f _ = refl

  -- a step's caller may say what a step of its kind says, or it says nothing
  speaker : (f : Found) (k : Kind) → MayBe z by v here k p a →
      MaySay z.sizes.threads by (IsOfKind k) ⊎ ((outcome z by v p a f k).says ≡ [])
  speaker f K1 m = inl (call_made z.sizes.threads by m.thread)
  speaker f K2 m = inr refl
  speaker f K3 m = inl (call_made z.sizes.threads by m.thread)
  speaker f K4 m = inl (call_made z.sizes.threads by m.thread)
  speaker f K5 m = inl (call_made z.sizes.threads by m.thread)
  speaker f K6 m = inl (call_made z.sizes.threads by m.thread)
  speaker f K7 m = inl (call_made z.sizes.threads by m.thread)
  speaker f K8 m = inl (call_made z.sizes.threads by m.thread)
  speaker f K9 m = inl (call_made z.sizes.threads by m.search.thread)
  speaker f K10 m = inl (call_made z.sizes.threads by m.search.thread)
  speaker f K11 m = inl (call_made z.sizes.threads by m.thread)
  speaker f K12 m = inl (call_made z.sizes.threads by m.thread)
  speaker f K13 m = inr (want_quiet f v.position)
  speaker f K14 m = inl (pause_made z.sizes.threads by m.collects.collector)
  speaker f K15 m = inr refl
  speaker f K16 m = inr (count_quiet f a)
  speaker f K17 m = inr refl
  speaker f K18 m = inr refl
  speaker f K19 m = inr refl
  speaker f K20 m = inr refl
  speaker f K21 m = inr refl
  speaker f K22 m = inr refl
  speaker f K23 m = inr refl
  speaker f K24 m = inr refl
  speaker f _ m = absurd m

  want_word : (n : ℕ) → MayWant z by v here p a → MayLeave a n
  want_word n (inl m) = subst (λ a. MayLeave a n) (sym m.act) tt
  want_word n (inr m) = subst (λ a. MayLeave a n) (sym m.act) tt

  count_word : (n : ℕ) → MayCount z by v here p a → MayLeave a n
  count_word n (inl m) = subst (λ a. MayLeave a n) (sym m.act) tt
  count_word n (inr m) = subst (λ a. MayLeave a n) (sym m.act) tt

  set_word : (n : ℕ) → MayMoveSet z by v p a → MayLeave a n
  set_word n (inl m) = subst (λ a. MayLeave a n) (sym m.act) tt
  set_word n (inr (inl m)) = subst (λ a. MayLeave a n) (sym m.act) tt
  set_word n (inr (inr m)) = subst (λ a. MayLeave a n) (sym m.act) tt

  mark_word : (n : ℕ) → MayMoveMark z by v p a → MayLeave a n
  mark_word n (inl m) = subst (λ a. MayLeave a n) (sym m.act) tt
  mark_word n (inr (inl m)) = subst (λ a. MayLeave a n) (sym m.act) tt
  mark_word n (inr (inr m)) = subst (λ a. MayLeave a n) (sym m.act) tt

  cell_word : (n : ℕ) → MayLoadCell z by v p a → MayLeave a n
  cell_word n (inl m) = subst (λ a. MayLeave a n) (sym m.act) tt
  cell_word n (inr m) = subst (λ a. MayLeave a n) (sym m.act) tt

  -- the count of open work has room, where one is added to it
  abbrev HasRoom : ℕ → Type 0
  HasRoom n = MayReserve z by v p a → n + 1 < 2 ^ 64

  -- it leaves a word
  leaves_word : (n : ℕ) → HasRoom n → (k : Kind) → MayBe z by v here k p a → MayLeave a n
  leaves_word n room K1 m = subst (λ a. MayLeave a n) (sym m.act) tt
  leaves_word n room K2 m = subst (λ a. MayLeave a n) (sym m.word) tt
  leaves_word n room K3 m = subst (λ a. MayLeave a n) (sym m.word) tt
  leaves_word n room K4 m = subst (λ a. MayLeave a n) (sym m.act) tt
  leaves_word n room K5 m = subst (λ a. MayLeave a n) (sym m.word) tt
  leaves_word n room K6 m = subst (λ a. MayLeave a n) (sym m.act) tt
  leaves_word n room K7 m = subst (λ a. MayLeave a n) (sym m.word) tt
  leaves_word n room K8 m = subst (λ a. MayLeave a n) (sym m.word) tt
  leaves_word n room K9 m = subst (λ a. MayLeave a n) (sym m.act) tt
  leaves_word n room K10 m = subst (λ a. MayLeave a n) (sym m.word) tt
  leaves_word n room K11 m = subst (λ a. MayLeave a n) (sym m.word) tt
  leaves_word n room K12 m = subst (λ a. MayLeave a n) (sym m.word) tt
  leaves_word n room K13 m = want_word n m
  leaves_word n room K14 m = subst (λ a. MayLeave a n) (sym m.act) tt
  leaves_word n room K15 m = subst (λ a. MayLeave a n) (sym m.act) tt
  leaves_word n room K16 m = count_word n m
  leaves_word n room K17 m = set_word n m
  leaves_word n room K18 m = subst (λ a. MayLeave a n) (sym m.act) tt
  leaves_word n room K19 m = subst (λ a. MayLeave a n) (sym m.act) (room m)
  leaves_word n room K20 m = mark_word n m
  leaves_word n room K21 m = subst (λ a. MayLeave a n) (sym m.act) tt
  leaves_word n room K22 m = subst (λ a. MayLeave a n) (sym m.act) tt
  leaves_word n room K23 m = cell_word n m
  leaves_word n room K24 m = subst (λ a. MayLeave a n) (sym m.act) tt
  leaves_word n room _ m = absurd m

  -- and finds the page that it takes
  page_found : (n : ℕ) (slot : ℕ → Option FrameView) → ((j : ℕ) → here j ≡ is_some (slot j)) → (part : Part) (holds : List Hold) (k : Kind) →
      MayBe z by v here k p a → Asks z by part p a n holds (slot (frame_in p)) k →
      IsPageFound k (word_wanted a) (found n (page_or (slot (frame_in p)))) (slot (frame_in p))
  page_found n slot e part holds K10 m asks = λ won.
      let l = asks.lies (won ∙ ap word_wanted asks.act) in lies_or (slot (frame_in p)) (ap is_some l.1)
  page_found n slot e part holds K11 m asks =
      lies_or (slot (frame_in p)) (ap (λ q. is_some (slot (frame_in q))) m.place ∙ (sym (e m.frame) ∙ m.lies))
  page_found n slot e part holds _ m asks = tt

module _ (z : Ground) (words : List ℕ) (slots : List (Option FrameView)) (known : List Part) (holds : List Hold) (history : List Entry)
  where
    abbrev w : World
    w = world_of z words slots known holds history

    module _ (sound : Sound (world_of z words slots known holds history)) (kept : Kept z slots known holds history) (by : ℕ)
        (less : by < callers z.sizes) (k : Kind) (p : Place) (a : Action)
        (may : MayMake z by (view_at (world_of z words slots known holds history) by) (lies_at (world_of z words slots known holds history))
        (does k p a)) where
      abbrev s : State
      s = sound.1.0

      rule : Rule z s
      rule = sound.1.1

      stands : StandsFor w s
      stands = sound.1.2

      abbrev part : Part
      part = part_at z known by

      pub near_by : by < length known
      near_by = let e = stands.views in let l = long_from z 0 known holds history in omega arith

      stored : (c : ℕ) → c < callers z.sizes → view_at w c ≡ view_of z c (part_at z known c) holds history
      stored c l = let e = stands.views in let n = long_from z 0 known holds history in view_stored z known holds history c (fresh z) (omega arith)

      abbrev v : View
      v = view_of z by part holds history

      view_is : view_at w by ≡ v
      view_is = stored by less

      may' : MayBe z by v (lies_at w) k p a
      may' = subst (λ v. MayBe z by v (lies_at w) k p a) view_is may

      abbrev n : ℕ
      n = word_at w p

      is : s.caller by ≡ v
      is = sym (stands.views_are by less) ∙ view_is

      pub within : Within z.sizes p
      within = steps_lie_within z s by (lies_at w) (does k p a) sound.0 rule (subst (λ v. MayBe z by v (lies_at w) k p a) (sym is) may')

      pub leaves : MayLeave a n
      leaves = leaves_word z by v (lies_at w) p a n has_room k may'
        where
          has_room : MayReserve z by v p a → n + 1 < 2 ^ 64
          has_room m =
              let found : s.word Pending ≡ n = ap s.word (sym m.place) ∙ sym (stands.words_are p within) in
              let few = count_small z sound.0 s rule.0 rule.1 by (subst (λ v. IsMarker z by v) (sym is) m.marker) m.child m.mark
              (ap (λ (v : View). v.work.child) is ∙ m.is_seen) in omega (arith, found, few)

      pub wide : IsWide z.sizes part
      wide = kept.wide by less

      pub asks : Asks z by part p a n holds (slot_at w (frame_in p)) k
      asks =
          asks_by z sound.0 s rule by (lies_at w) part holds (log_of by history) is p a n (sym (stands.words_are p within)) kept.frames (slot_at w)
          stands.pages_are (λ c l. ap (λ (v : View). v.owned) (sym (stands.views_are c l) ∙ stored c l)) less k may'

      -- there is room for what is said
      pub short : IsShort history
      short =
          subst IsShort (sym stands.history_is)
          (histories_fit z sound.0 s rule (subst (AreMade z.sizes.threads) stands.history_is kept.made))

      abbrev pub page : FrameView
      page = page_or (slot_at w (frame_in p))

      pub lies : IsPageFound k (word_wanted a) (found n page) (slot_at w (frame_in p))
      lies = page_found z by v (lies_at w) p a n (slot_at w) (λ j. refl) part holds k may' asks

      abbrev f : Found
      f = found n page

      abbrev d : Step
      d = does k p a

      module _ (part' : Part) (holds' : List Hold) (h' : List Entry)
          (noted : Noted z by part part' holds holds' history h' (λ v. outcome z by v p a f k)) where
        abbrev says : List Entry
        says = (outcome z by v p a f k).says

        mine : view_with z part' (map (own_of by) holds') (log_of by history) ≡ (outcome z by v p a f k).view
        mine = ap (λ (t : Told). t.view) (noted.mine (log_of by history))

        told_is : h' ≡ more history says
        told_is = ap (λ (t : Told). t.history) (noted.mine (log_of by history))

        left : LeavesOf z by v p a f (IsOfKind k) (outcome z by v p a f k)
        left = outcome_leaves z by v p a f k

        said_by : IsAtMostOne (IsOfKind k) by says
        said_by = left.1

        after_is : view_of z by part' holds' h' ≡ view_after z by (view_at w by) d f
        after_is =
            ap (view_with z part' (map (own_of by) holds')) (ap (log_of by) told_is ∙ log_mine (IsOfKind k) by history says said_by)
            ∙ (ap (λ u. logged (record { view = u; says = says })) mine ∙ ap (λ v. view_after z by v d f) (sym view_is))

        views_are : views_from z 0 (slice_set known by part') holds' h' ≡ slice_set w.views by (view_after z by (view_at w by) d f)
        views_are =
            let e = stands.views in let l = long_from z 0 known holds history in
            views_set z holds holds' history h' known by part' near_by
            (λ c a ne. (noted.others c (omega arith) ne, ap (log_of c) told_is ∙ log_other (IsOfKind k) by c history says said_by ne))
            ∙ ap (slice_set w.views by) after_is

        history_is : h' ≡ more history (outcome z by (view_at w by) p a f k).says
        history_is = told_is ∙ ap (λ v. more history (outcome z by v p a f k).says) (sym view_is)

        made_after : AreMade z.sizes.threads h'
        made_after =
            subst (AreMade z.sizes.threads) (sym told_is)
            (made_more (IsOfKind k) z.sizes.threads by history says (speaker z by v (lies_at w) p a f k may') kept.made said_by)

        sound_after : Sound (world_after w by d f)
        sound_after = step_sound w sound.0 s rule stands by less f d may refl lies

        wide_after : IsWide z.sizes part'
        wide_after = (
          ap (λ (u : View). length u.seen) mine ∙ (left.0 wide).0,
          ap (λ (u : View). length u.refused) mine ∙ (left.0 wide).1,
          ap (λ (u : View). length u.collecting.counted) mine ∙ (left.0 wide).2,
          ap (λ (u : View). length u.collecting.ended) mine ∙ (left.0 wide).3,
        )

        pub kept_after : Kept z slots (slice_set known by part') holds' h'
        kept_after = record {
          wide = λ c near. split_at (λ c. c < callers z.sizes → IsWide z.sizes (part_at z (slice_set known by part') c)) by
              (λ _. subst (IsWide z.sizes) (sym (get_or-set_same known by part' _ near_by)) wide_after) c
              (λ ne near. subst (IsWide z.sizes) (sym (get_or-set_other known by c part' _ (λ e. ne (sym e)))) (kept.wide c near)) near;
          frames = noted.fits;
          pages = kept.pages;
          made = made_after;
        }

        module _ (i new : ℕ) (ei : i ≡ index z.sizes p) (en : new ≡ word_after a n) where
          world_is : world_of z (slice_set words i new) slots (slice_set known by part') holds' h' ≡ world_after w by d f
          world_is = λ t. world z (slice_set words (ei t) (en t)) slots (views_are t) (history_is t)

          pub sound_now : Sound (world_of z (slice_set words i new) slots (slice_set known by part') holds' h')
          sound_now = subst Sound (sym world_is) sound_after

          pub steps_now : StepsTo w by d f (world_of z (slice_set words i new) slots (slice_set known by part') holds' h')
          steps_now = (world_is, refl, lies)

          pub made_now : Made (stand_at by w) (lies_at w) d f
              (stand_at by (world_of z (slice_set words i new) slots (slice_set known by part') holds' h'))
              (lies_at (world_of z (slice_set words i new) slots (slice_set known by part') holds' h'))
          made_now =
              subst (λ q. Made (stand_at by w) (lies_at w) d f (stand_at by q) (lies_at q)) (sym world_is)
              (step_made w sound.0 s rule stands by less f d may refl lies)
