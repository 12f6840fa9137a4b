-- A frame whose page has no cell for the request is given back.
use Rattle.std.proofs.Common.{◌≡◌, ◌≢◌, ℕ, ◌-◌, ◌⊎◌, ◌↔◌, inl, inr, Bool, true, false, List, Option, Some, None}
use Rattle.std.proofs.Common.{slice_get, slice_set, refl, sym, ap, ◌∙◌, subst, arith}
use Rattle.std.proofs.lemmas.Bool.{cases_Bool, true≢false}
use Rattle.std.proofs.lemmas.Option.{none-some}
use Rattle.kn_base.specs.declared.heap.Sizes.{Sizes}
use Rattle.kn_base.specs.declared.places.Place.TheVariants.{Frame}
use Rattle.kn_base.proofs.Updates.{split_at}
use Rattle.kn_graph.specs.declared.calls.Call.{Call}
use Rattle.kn_rule.specs.declared.steps.Action.TheVariants.{Stores}
use Rattle.kn_rule.specs.declared.steps.Kind.TheVariants.{K11}
use Rattle.kn_rule.specs.Allowed.{MayGiveBack}
use Rattle.kn_rule.specs.Outcomes.{full_if, home_at, home_if}
use Rattle.kn_rule.specs.Searches.{is_over, refuses_at}
use Rattle.kn_rule.specs.Steps.{Found, does, logged}
use Rattle.kn_rule.specs.Views.{Open, View, flattened, owns}
use Rattle.kn_steps.specs.Made.{LieAs, Made, Stand}
use Rattle.kn_store.specs.declared.finder.Seen.{Seen}
use Rattle.kn_store.specs.Search.{IsOver, Search, first_of, refuse_seen, with_refused}
use Rattle.kn_store.specs.Agree.{KnowsSame, TellsOver}
use Rattle.kn_alloc.specs.declared.stage.Hand.{Hand}
use Rattle.kn_alloc.specs.declared.stage.Stage.{Stage}
use Rattle.kn_alloc.specs.declared.stage.Stage.TheVariants.{Refuses, Resting, Searches}
use Rattle.kn_alloc.specs.declared.stage.AllocTurn.TheVariants.{Moved, Full}
use Rattle.kn_alloc.specs.Keeps.{HasHand, Keeps}
use Rattle.kn_alloc.specs.Agree.{Agrees, GoesHome, InHand, IsHeld, IsStaged, IsToRefuse, held_as}
use Rattle.kn_alloc.proofs.Hands.{at_is, hands_are, held_are, still_in_hand}
use Rattle.kn_alloc.specs.Tells.{TellsView}
use Rattle.kn_alloc.proofs.Owned.{asks_still, own_else, own_here}
use Rattle.kn_alloc.proofs.Told.{tells_full, tells_on}

-- a frame that is given back: what a view owns then, and which pages are in hand
module _ (m : Keeps) (a : Stand) (here : ℕ → Bool) (g : Agrees m a here) (s : Stage) (is : m.stage ≡ s)
    (plain : (z : Sizes) (class k p : ℕ) (o : Open) → held_as z s class k p o ≡ o) (p word : ℕ)
    (staged : (q : ℕ) → IsStaged s q → p ≡ q) (home : GoesHome a.heap.sizes a.view here p word) where
  pub may_give_back : a.view.taken ≡ None → a.view.sweep ≡ None → MayGiveBack a.heap a.by a.view here (Frame p) (Stores word)
  may_give_back taken sweep = record {
    frame = p;
    hold = home.home.hold;
    owned = home.home.owned;
    lies = home.home.lies;
    near = home.home.near;
    none_taken = taken;
    none_swept = sweep;
    place = refl;
    word = ap Stores home.is_word;
    thread = let c = g.caller in let t = g.thread in omega arith;
  }

  module _ (v' : View) (own : v'.owned ≡ slice_set a.view.owned p None) (here' : ℕ → Bool) (lies : LieAs v' here here') where
    owns_else : (q : ℕ) → p ≢ q → owns v' q ≡ owns a.view q
    owns_else q ne = ap (λ l. flattened (slice_get l q)) own ∙ own_else a.view.owned p None q ne

    owns_none : owns v' p ≡ None
    owns_none = ap (λ l. flattened (slice_get l p)) own ∙ own_here a.view.owned p home.home.hold home.home.owned None

    pub hands_stay : (s' : Stage) → ((z : Sizes) (class k p : ℕ) (o : Open) → held_as z s' class k p o ≡ o) → (k : ℕ) (hand : Hand) →
        HasHand m.hands k hand → InHand a.heap.sizes v' here' s' m.class k hand
    hands_stay s' plain' k hand h =
        let in_hand = hands_are m a here g s is k hand h in
        let apart : p ≢ hand.frame = λ e. true≢false (sym home.home.lies ∙ ap here e ∙ in_hand.out) in
        let same = owns_else hand.frame apart in
        still_in_hand a.heap.sizes a.view v' here here' s s' m.class m.class k hand in_hand same
        (lies hand.frame in_hand.hold (same ∙ in_hand.owned))
        (λ o. plain' a.heap.sizes m.class k hand.frame o ∙ sym (plain a.heap.sizes m.class k hand.frame o))

    pub held_stays : (s' : Stage) (q : ℕ) (o : Open) → owns v' q ≡ Some o → IsHeld m.hands q ⊎ IsStaged s' q
    held_stays s' q o e =
        split_at (λ q. owns v' q ≡ Some o → IsHeld m.hands q ⊎ IsStaged s' q) p (λ e. absurd (none-some o (sym owns_none ∙ e))) q
        (λ ne e. by q ne (held_are m a here g s is q o (sym (owns_else q ne) ∙ e))) e
      where
        by : (q : ℕ) → p ≢ q → IsHeld m.hands q ⊎ IsStaged s q → IsHeld m.hands q ⊎ IsStaged s' q
        by q ne (inl h) = inl h
        by q ne (inr h) = absurd (ne (staged q h))

-- a search keeps its class, its caller, its epoch and its sizes where a frame is refused
refused_keeps : (m : Search) (p : ℕ) (x : Option Seen) →
    ((refuse_seen m p x).class ≡ m.class) × ((refuse_seen m p x).by ≡ m.by) × ((refuse_seen m p x).epoch ≡ m.epoch)
    × ((refuse_seen m p x).sizes ≡ m.sizes)
refused_keeps m p None = (refl, refl, refl, refl)
refused_keeps m p (Some s) = (refl, refl, refl, refl)

not_true : (b : Bool) → (b ≡ true → ⊥) → (b ≡ true) ⊎ (b ≡ false) → b ≡ false
not_true b never (inl e) = absurd (never e)
not_true b never (inr e) = e

module _ (m : Keeps) (a : Stand) (here : ℕ → Bool) (g : Agrees m a here) (p word : ℕ) (is : m.stage ≡ Refuses p word) where
  due : IsToRefuse p word m a here
  due = at_is m a here g (Refuses p word) is

  pub may_refuse : MayGiveBack a.heap a.by a.view here (Frame p) (Stores word)
  unfolding due
  may_refuse =
      may_give_back m a here g (Refuses p word) is (λ z class k p o. refl) p word (λ q h. h) due.home due.search.none_taken due.search.asks.none_swept

  module _ (b : Stand) (here' : ℕ → Bool) (f : Found) (made : Made a here (does K11 (Frame p) (Stores word)) f b here')
      (search : Search) (refused : search ≡ with_refused m.search p)
      (knows_more : (seen : List (Option ℕ)) (flags : List Bool) → KnowsSame m.search seen flags → KnowsSame search seen (slice_set flags p true))
      (tells_over : TellsOver search) where
    abbrev q' : Search
    q' = with_refused m.search p

    knows : KnowsSame q' a.view.seen (slice_set a.view.refused p true)
    unfolding due
    knows = subst (λ (q : Search). KnowsSame q a.view.seen (slice_set a.view.refused p true)) refused
        (knows_more a.view.seen a.view.refused due.search.same)

    tells : TellsOver q'
    tells = subst TellsOver refused tells_over

    has_ended : IsOver search → IsOver q'
    has_ended end = subst IsOver refused end

    is_going : (¬ IsOver search) → ¬ IsOver q'
    is_going going end = going (subst IsOver (sym refused) end)

    keeps : (q'.class ≡ m.search.class) × (q'.by ≡ m.search.by) × (q'.epoch ≡ m.search.epoch) × (q'.sizes ≡ m.search.sizes)
    keeps = refused_keeps m.search p (slice_get m.search.seen (p - first_of m.search))

    abbrev over : Call → Bool
    over call = is_over a.heap call a.view.seen (slice_set a.view.refused p true)

    abbrev refused_view : View
    refused_view = record a.view { owned = slice_set a.view.owned p None; refused = slice_set a.view.refused p true }

    told : (over due.search.asks.call ≡ true) ↔ IsOver q'
    unfolding due keeps
    told = tells a.heap due.search.asks.call a.view.seen (slice_set a.view.refused p true)
        (g.sizes ∙ (sym g.search_sizes ∙ sym keeps.3)) (keeps.0 ∙ (due.search.class ∙ due.search.asks.class)) knows

    view_by : (x : Bool) → over due.search.asks.call ≡ x →
        b ≡ record a { view = logged (full_if a.heap a.by a.view (Frame p) (Stores word) f x due.search.asks.call refused_view) }
    unfolding due
    view_by x e =
        let v = a.view in
        let call = due.search.asks.call in
        made.view
        ∙ (λ t. record a { view = logged (home_at a.heap a.by v (Frame p) (Stores word) f (due.search.asks.is_call t)) })
        ∙ (λ t. record a {
          view = logged (home_if a.heap a.by v (Frame p) (Stores word) f
              (refuses_at a.heap call (due.search.asks.is_request t) p (due.home.home.owned t)) call);
        })
        ∙ (λ t. record a {
          view = logged (home_if a.heap a.by v (Frame p) (Stores word) f
              (due.refused call due.home.home.hold due.search.asks.is_call due.home.home.owned t) call);
        })
        ∙ (λ t. record a { view = logged (full_if a.heap a.by v (Frame p) (Stores word) f (e t) call refused_view) })

    -- the search goes on
    pub goes_on_refused : (n : Keeps) → n ≡ record m { search = q'; stage = Searches } → (¬ IsOver search) → Agrees n b here'
    unfolding due keeps
    goes_on_refused n is_kept not =
        let going = is_going not in
        let false_is : over due.search.asks.call ≡ false = not_true (over due.search.asks.call) (λ e. going (told.0 e))
        (cases_Bool (over due.search.asks.call)) in
        let view = view_by false false_is in
        let lies = subst (λ (b : Stand). LieAs b.view here here') view made.lies in
        subst (λ (n : Keeps). Agrees n b here') (sym is_kept)
        (subst (λ (b : Stand). Agrees (record m { search = q'; stage = Searches }) b here') (sym view) (record {
          good = g.good;
          sizes = g.sizes;
          caller = g.caller;
          thread = g.thread;
          search_sizes = keeps.3 ∙ g.search_sizes;
          classes = g.classes;
          hands = hands_stay m a here g (Refuses p word) is (λ z class k p o. refl) p word (λ q h. h) due.home refused_view refl here' lies Searches
              (λ z class k p o. refl);
          held = held_stays m a here g (Refuses p word) is (λ z class k p o. refl) p word (λ q h. h) due.home refused_view refl here' lies Searches;
          at = record {
            search = record {
              asks = asks_still m a Searches m.hands q' refused_view due.search.asks refl refl refl;
              none_taken = due.search.none_taken;
              class = keeps.0 ∙ due.search.class;
              by = keeps.1 ∙ due.search.by;
              epoch = keeps.2 ∙ due.search.epoch;
              same = knows;
            };
            no_hand = due.no_hand;
            going = going;
          };
        }))

    -- or it has ended, and the call is answered Full
    pub ends_refused : (n : Keeps) → n ≡ record m { search = q'; stage = Resting } → IsOver search → Agrees n b here'
    unfolding due keeps
    ends_refused n is_kept end =
        let view = view_by true (told.1 (has_ended end)) in
        let v' = logged (full_if a.heap a.by a.view (Frame p) (Stores word) f true due.search.asks.call refused_view) in
        let lies = subst (λ (b : Stand). LieAs b.view here here') view made.lies in
        subst (λ (n : Keeps). Agrees n b here') (sym is_kept)
        (subst (λ (b : Stand). Agrees (record m { search = q'; stage = Resting }) b here') (sym view) (record {
          good = g.good;
          sizes = g.sizes;
          caller = g.caller;
          thread = g.thread;
          search_sizes = keeps.3 ∙ g.search_sizes;
          classes = g.classes;
          hands = hands_stay m a here g (Refuses p word) is (λ z class k p o. refl) p word (λ q h. h) due.home v' refl here' lies Resting
              (λ z class k p o. refl);
          held = held_stays m a here g (Refuses p word) is (λ z class k p o. refl) p word (λ q h. h) due.home v' refl here' lies Resting;
          at = (due.search.none_taken, due.search.asks.none_swept);
        }))

    pub refused_tells : (¬ IsOver search) → TellsView m.stage Moved a b
    unfolding due keeps
    refused_tells not =
        let going = is_going not in
        let false_is : over due.search.asks.call ≡ false = not_true (over due.search.asks.call) (λ e. going (told.0 e))
        (cases_Bool (over due.search.asks.call)) in
        tells_on m.stage a b refused_view.owned a.view.seen refused_view.refused a.view.taken a.view.sweep (view_by false false_is)

    pub ended_tells : IsOver search → TellsView m.stage Full a b
    unfolding due keeps
    ended_tells end =
        tells_full m.stage a b refused_view.owned a.view.seen refused_view.refused a.view.taken a.view.sweep due.search.asks.call
        due.search.asks.is_call (view_by true (told.1 (has_ended end)))
