-- Where the agreement begins, and what it outlasts.
use Rattle.std.proofs.Common.{◌≡◌, ℕ, zero, suc, Bool, None, replicate, slice_get, refl, sym, ap, ◌∙◌, subst}
use Rattle.std.proofs.lemmas.Option.{none-some}
use Rattle.kn_base.specs.declared.heap.Sizes.{Sizes}
use Rattle.kn_base.specs.Sizes.{frame_count}
use Rattle.kn_rule.specs.Views.{View, flattened, owns}
use Rattle.kn_steps.specs.Made.{LieAs, Stand}
use Rattle.kn_alloc.specs.declared.alloc.TheConstants.{CLASSES}
use Rattle.kn_alloc.specs.declared.stage.Hand.{Hand}
use Rattle.kn_alloc.specs.declared.stage.Stage.{Stage}
use Rattle.kn_alloc.specs.declared.stage.Stage.TheVariants as stages
use Rattle.kn_alloc.specs.Keeps.{Keeps}
use Rattle.kn_alloc.specs.Agree.{Agrees, AtStage, GoesHome, InHand, IsIdle, LiesHome}
use Rattle.kn_alloc.specs.Laws.{Opens, StaysAsPagesMove, StaysWhileIdle}
use Rattle.kn_alloc.proofs.Hands.{still_in_hand}

none_of : {A : Type 0} (n p : ℕ) → flattened {A = A} (slice_get (replicate n None) p) ≡ None
none_of zero p = refl
none_of (suc n) zero = refl
none_of (suc n) (suc p) = none_of n p

pub opens : Opens
opens z c here good near = record {
  good = good;
  sizes = refl;
  caller = refl;
  thread = near;
  search_sizes = refl;
  classes = refl;
  hands = λ k hand h. absurd (none-some hand (sym (none_of CLASSES k) ∙ ap flattened h));
  held = λ p o e. absurd (none-some o (sym (none_of (frame_count z.sizes) p) ∙ e));
  at = (refl, refl);
}

-- a view that owns the same frames, whose pages lie as they did
module _ (z : Sizes) (v v' : View) (owned : v'.owned ≡ v.owned) (here here' : ℕ → Bool) (lies : LieAs v' here here') where
  pub owns_same : (p : ℕ) → owns v' p ≡ owns v p
  owns_same p = ap (λ l. flattened (slice_get l p)) owned

  pub hand_there : (s : Stage) (class k : ℕ) (hand : Hand) → InHand z v here s class k hand → InHand z v' here' s class k hand
  hand_there s class k hand h =
      let same = owns_same hand.frame in
      still_in_hand z v v' here here' s s class class k hand h same (lies hand.frame h.hold (same ∙ h.owned)) (λ o. refl)

  pub home_there : (p : ℕ) → LiesHome z v here p → LiesHome z v' here' p
  home_there p h =
      let own = owns_same p ∙ h.owned in
      record { hold = h.hold; owned = own; near = h.near; lies = lies p h.hold own ∙ h.lies }

  pub goes_there : (p word : ℕ) → GoesHome z v here p word → GoesHome z v' here' p word
  unfolding home_there
  goes_there p word h = record { home = home_there p h.home; is_word = h.is_word }

module _ (m : Keeps) (a : Stand) (here here' : ℕ → Bool) (lies : LieAs a.view here here') where
  at_there : (s : Stage) → AtStage s m a here → AtStage s m a here'
  unfolding home_there
  at_there stages.Resting h = h
  at_there stages.TooLong h = h
  at_there stages.Returns h = record { search = h.search; hand = h.hand; had = h.had; cannot = h.cannot; may = h.may }
  at_there (stages.Refuses p word) h = record {
    search = h.search;
    no_hand = h.no_hand;
    home = goes_there a.heap.sizes a.view a.view refl here here' lies p word h.home;
    refused = h.refused;
    may = h.may;
  }
  at_there stages.Searches h = record { search = h.search; no_hand = h.no_hand; going = h.going }
  at_there (stages.Takes p old) h = record {
    search = h.search;
    no_hand = h.no_hand;
    home = home_there a.heap.sizes a.view a.view refl here here' lies p h.home;
    is_word = h.is_word;
    packs = h.packs;
    usable = h.usable;
    state = h.state;
    in_area = h.in_area;
    may = h.may;
  }
  at_there (stages.Sweeps p) h = absurd h
  at_there (stages.Clears cell zero) h = record {
    asks = h.asks;
    none_taken = h.none_taken;
    hand = h.hand;
    had = h.had;
    hold = h.hold;
    owned = h.owned;
    len = h.len;
    free = h.free;
    inside = h.inside;
    placed = h.placed;
    ends = h.ends;
  }
  at_there (stages.Clears cell (suc i)) h = (
    record {
      asks = h.0.asks;
      taken = h.0.taken;
      is_taken = h.0.is_taken;
      span = h.0.span;
      cleared = h.0.cleared;
      within = h.0.within;
      ends = h.0.ends;
    },
    h.1,
  )
  at_there (stages.Bears cell) h = record {
    asks = h.asks;
    taken = h.taken;
    is_taken = h.is_taken;
    span = h.span;
    cleared = h.cleared;
    within = h.within;
    ends = h.ends;
  }
  at_there (stages.PutsHome p word) h = (h.0, goes_there a.heap.sizes a.view a.view refl here here' lies p word h.1)

pub stays_as_pages_move : StaysAsPagesMove
stays_as_pages_move m a here here' g lies = record {
  good = g.good;
  sizes = g.sizes;
  caller = g.caller;
  thread = g.thread;
  search_sizes = g.search_sizes;
  classes = g.classes;
  hands = λ k hand h. hand_there a.heap.sizes a.view a.view refl here here' lies m.stage m.class k hand (g.hands k hand h);
  held = g.held;
  at = at_there m a here here' lies m.stage g.at;
}

module _ (m : Keeps) (a : Stand) (v : View) (owned : v.owned ≡ a.view.owned) (taken : v.taken ≡ a.view.taken) (sweep : v.sweep ≡ a.view.sweep)
    (here here' : ℕ → Bool) (lies : LieAs v here here') where
  idle_there : (s : Stage) → IsIdle s → AtStage s m a here → AtStage s m (record a { view = v }) here'
  idle_there stages.Resting idle h = (taken ∙ h.0, sweep ∙ h.1)
  idle_there stages.TooLong idle h = absurd idle
  idle_there stages.Returns idle h = absurd idle
  idle_there (stages.Refuses p word) idle h = absurd idle
  idle_there stages.Searches idle h = absurd idle
  idle_there (stages.Takes p old) idle h = absurd idle
  idle_there (stages.Sweeps p) idle h = absurd idle
  idle_there (stages.Clears cell i) idle h = absurd idle
  idle_there (stages.Bears cell) idle h = absurd idle
  idle_there (stages.PutsHome p word) idle h =
      ((taken ∙ h.0.0, sweep ∙ h.0.1), goes_there a.heap.sizes a.view v owned here here' lies p word h.1)

  pub idle_agrees : IsIdle m.stage → Agrees m a here → Agrees m (record a { view = v }) here'
  idle_agrees idle g = record {
    good = g.good;
    sizes = g.sizes;
    caller = g.caller;
    thread = g.thread;
    search_sizes = g.search_sizes;
    classes = g.classes;
    hands = λ k hand h. hand_there a.heap.sizes a.view v owned here here' lies m.stage m.class k hand (g.hands k hand h);
    held = λ p o e. g.held p o (sym (owns_same a.heap.sizes a.view v owned here here' lies p) ∙ e);
    at = idle_there m.stage idle g.at;
  }

pub stays_while_idle : StaysWhileIdle
stays_while_idle m a b here here' idle g heap by owned taken sweep lies =
    let same : b ≡ record a { view = b.view } = λ t. record { heap = heap t; by = by t; view = b.view } in
    subst (λ (b : Stand). Agrees m b here') (sym same) (idle_agrees m a b.view owned taken sweep here here' lies idle g)
