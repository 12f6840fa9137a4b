-- A look that does not end the search leaves the finder and the view in agreement.
use Rattle.std.proofs.Common.{◌≡◌, ℕ, ◌+◌, ◌<◌, ◌⊎◌, inl, inr, ◌↔◌, Bool}
use Rattle.std.proofs.Common.{true, false, Some, slice_set, refl, sym, ap, ◌∙◌, subst, arith}
use Rattle.std.proofs.lemmas.Bool.{cases_Bool}
use Rattle.kn_base.specs.Sizes.{frame_count}
use Rattle.kn_base.specs.declared.places.Place.TheVariants.{Frame}
use Rattle.kn_rule.specs.declared.steps.Action.{Action}
use Rattle.kn_rule.specs.Searches.{is_over}
use Rattle.kn_rule.specs.Decoding.{PacksFrame}
use Rattle.kn_rule.specs.Steps.{Step, Found, logged}
use Rattle.kn_rule.specs.Outcomes.{full_if, looked_at, saw}
use Rattle.kn_rule.specs.Views.{View}
use Rattle.kn_steps.specs.Made.{LieAs, Made, Stand}
use Rattle.kn_store.specs.declared.look.Look.{Look}
use Rattle.kn_store.specs.declared.look.Look.TheVariants.{Looking, Found as Claimed, Full}
use Rattle.kn_store.specs.Search.{GoesOn, IsOver, Search, first_of}
use Rattle.kn_store.specs.Agree.{Agrees, KnowsSame, OnlySaw, SawFull}
use Rattle.kn_store.proofs.Ends.{over_shown, over_told}

-- the word that a step finds of a frame packs a frame word
pub found_packs : (a b : Stand) (here here' : ℕ → Bool) (d : Step) (f : Found) (p : ℕ) → Made a here d f b here' → d.place ≡ Frame p →
    p < frame_count a.heap.sizes → PacksFrame f.word
found_packs a b here here' d f p made e l =
    let shown = made.shown in
    subst PacksFrame (ap shown.0.word (sym e) ∙ shown.3.0) (shown.1.1.stands.framed.packs p l)

-- Full says that the search is over
pub full_where : (m : Search) (look : Look) → GoesOn m look → (look ≡ Full) ↔ IsOver m
full_where m Looking h = (λ e. absurd (cc), λ o. absurd (h o))
full_where m (Claimed p w) h = absurd h
full_where m Full h = (λ _. h, λ _. refl)

module _ (m m' : Search) (a b : Stand) (g : Agrees m a) (i : ℕ) (act : Action) (f : Found) where
  abbrev frame : ℕ
  frame = first_of m + i

  abbrev v : View
  v = a.view

  abbrev ended : Bool
  ended = is_over a.heap g.call (slice_set v.seen frame (Some f.word)) v.refused

  module _ (class : m'.class ≡ m.class) (sizes : m'.sizes ≡ m.sizes) (by : m'.by ≡ m.by) (epoch : m'.epoch ≡ m.epoch)
      (same : KnowsSame m' (slice_set v.seen frame (Some f.word)) v.refused)
      (is : b ≡ record a { view = logged (looked_at a.heap a.by v (Frame frame) act f v.position) }) (open_still : IsOver m' → ⊥) where
    goes_on : ended ≡ false
    goes_on = by_case (cases_Bool ended)
      where
        by_case : (ended ≡ true) ⊎ (ended ≡ false) → ended ≡ false
        by_case (inl e) =
            absurd (open_still (over_told a.heap g.call m' (slice_set v.seen frame (Some f.word)) v.refused (g.sizes ∙ sym sizes)
            (class ∙ g.class) same e))
        by_case (inr e) = e

    saw_it : b ≡ record a { view = record v { seen = slice_set v.seen frame (Some f.word) } }
    saw_it =
        is ∙ ((λ t. record a { view = logged (looked_at a.heap a.by v (Frame frame) act f (g.is_call t)) })
        ∙ (λ t. record a {
          view = logged (full_if a.heap a.by v (Frame frame) act f (goes_on t) g.call
              (saw a.heap a.by v (Frame frame) act f frame));
        }))

    agrees_then : Agrees m' (record a { view = record v { seen = slice_set v.seen frame (Some f.word) } })
    agrees_then = record {
      good = g.good;
      sizes = g.sizes ∙ sym sizes;
      caller = g.caller ∙ sym by;
      thread = let e = by in let l = g.thread in omega arith;
      call = g.call;
      is_call = g.is_call;
      words = g.words;
      is_request = g.is_request;
      class = class ∙ g.class;
      epoch = epoch ∙ g.epoch;
      none_taken = g.none_taken;
      none_swept = g.none_swept;
      none_owned = λ p o e c. g.none_owned p o e (c ∙ class);
      same = same;
    }

    pub agrees_still : Agrees m' b
    agrees_still = subst (Agrees m') (sym saw_it) agrees_then

  -- a look that ends the search answers the call of the view Full
  saw_full : (class : m'.class ≡ m.class) (sizes : m'.sizes ≡ m.sizes) (same : KnowsSame m' (slice_set v.seen frame (Some f.word)) v.refused)
      (is : b ≡ record a { view = logged (looked_at a.heap a.by v (Frame frame) act f v.position) }) → IsOver m' →
      b ≡ record a { view = logged (full_if a.heap a.by v (Frame frame) act f true g.call (saw a.heap a.by v (Frame frame) act f frame)) }
  saw_full class sizes same is over =
      let ends : ended ≡ true =
      over_shown a.heap g.call m' (slice_set v.seen frame (Some f.word)) v.refused (g.sizes ∙ sym sizes) (class ∙ g.class) same over in
      is ∙ ((λ t. record a { view = logged (looked_at a.heap a.by v (Frame frame) act f (g.is_call t)) })
      ∙ (λ t. record a { view = logged (full_if a.heap a.by v (Frame frame) act f (ends t) g.call (saw a.heap a.by v (Frame frame) act f frame)) }))

  -- a look, or a claim that is lost, shows one word more, or ends the search and answers Full
  pub shows : (class : m'.class ≡ m.class) (sizes : m'.sizes ≡ m.sizes) (by : m'.by ≡ m.by) (epoch : m'.epoch ≡ m.epoch)
      (same : KnowsSame m' (slice_set v.seen frame (Some f.word)) v.refused)
      (is : b ≡ record a { view = logged (looked_at a.heap a.by v (Frame frame) act f v.position) }) (here here' : ℕ → Bool) →
      LieAs b.view here here' → ((IsOver m' → ⊥) → OnlySaw a here b here') × (IsOver m' → SawFull a here b here')
  shows class sizes by epoch same is here here' lies = (
    λ open_still.
        let e = saw_it class sizes by epoch same is open_still in
        record { seen = slice_set v.seen frame (Some f.word); view = e; lies = subst (λ (b : Stand). LieAs b.view here here') e lies },
    λ over.
        let e = saw_full class sizes same is over in
        record {
          call = g.call;
          is_call = g.is_call;
          seen = slice_set v.seen frame (Some f.word);
          view = e;
          lies = subst (λ (b : Stand). LieAs b.view here here') e lies;
        },
  )
