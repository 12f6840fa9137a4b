-- The frames that a view owns, with one of them set.
use Rattle.std.proofs.Common.{◌≡◌, ◌≢◌, ℕ, ◌<◌, List, length, Option, Some, None, slice_get, slice_set, refl, sym, ap, ◌∙◌}
use Rattle.std.proofs.lemmas.Option.{none-some, slice_get_within}
use Rattle.kn_base.proofs.Updates.{get_set_here, get_set_else}
use Rattle.kn_rule.specs.Views.{Open, flattened}
use Rattle.kn_rule.specs.Decoding.{phase_of}
use Rattle.kn_rule.specs.Phases.{pauses}
use Rattle.kn_rule.specs.Views.{View, owns}
use Rattle.kn_steps.specs.Made.{Stand}
use Rattle.kn_alloc.specs.declared.stage.Hand.{Hand}
use Rattle.kn_alloc.specs.declared.stage.Stage.{Stage}
use Rattle.kn_alloc.specs.Keeps.{Keeps, HasHand}
use Rattle.kn_alloc.specs.Agree.{Asks}
use Rattle.kn_store.specs.Search.{Search}
use Rattle.std.proofs.lemmas.Option.{same_Some}

within_by : (owned : List (Option Open)) (p : ℕ) (o : Open) (x : Option (Option Open)) → slice_get owned p ≡ x → flattened x ≡ Some o →
    p < length owned
within_by owned p o None e own = absurd (none-some o own)
within_by owned p o (Some x) e own = slice_get_within owned p x e

module _ (owned : List (Option Open)) (p : ℕ) (o : Open) (own : flattened (slice_get owned p) ≡ Some o) (x : Option Open) where
  pub own_here : flattened (slice_get (slice_set owned p x) p) ≡ x
  own_here = ap flattened (get_set_here owned p x (within_by owned p o (slice_get owned p) refl own))

pub own_else : (owned : List (Option Open)) (p : ℕ) (x : Option Open) (q : ℕ) → p ≢ q →
    flattened (slice_get (slice_set owned p x) q) ≡ flattened (slice_get owned q)
own_else owned p x q ne = ap flattened (get_set_else owned p x q ne)

-- one frame is owned with one record
pub same_open : (v : View) (p q : ℕ) (o u : Open) → p ≡ q → owns v p ≡ Some o → owns v q ≡ Some u → o ≡ u
same_open v p q o u e own other = same_Some o u (sym own ∙ ap (owns v) e ∙ other)

pub same_hand : (hands : List (Option Hand)) (k : ℕ) (a b : Hand) → HasHand hands k a → HasHand hands k b → a ≡ b
same_hand hands k a b e f = same_Some a b (same_Some (Some a) (Some b) (sym e ∙ f))

-- a call under way goes on asking where its view stands as it did
pub asks_still : (m : Keeps) (a : Stand) (s : Stage) (hands : List (Option Hand)) (q : Search) (v : View) → Asks m a →
    v.position ≡ a.view.position → v.polled ≡ a.view.polled → v.sweep ≡ a.view.sweep →
    Asks (record m { stage = s; hands = hands; search = q }) (record a { view = v })
asks_still m a s hands q v h position polled sweep = record {
  call = h.call;
  is_call = position ∙ h.is_call;
  is_request = h.is_request;
  class = h.class;
  header = h.header;
  epoch = h.epoch ∙ ap (λ w. pauses (phase_of w)) (sym polled);
  epoch_fits = h.epoch_fits;
  some = h.some;
  fits = h.fits;
  none_swept = sweep ∙ h.none_swept;
}
