-- Whatever the step, it keeps the rule.
use Rattle.std.proofs.Common.{ℕ, ◌+◌, ◌⊎◌, inl, inr, Bool, sym, subst, refl}
use Rattle.kn_base.specs.declared.places.Place.{Place}
use Rattle.kn_base.specs.declared.places.Place.TheVariants.{Phase, Want, Pending, State as StateOf}
use Rattle.kn_graph.specs.Ground.{Ground, IsGoodGround}
use Rattle.kn_rule.specs.declared.steps.Kind.{Kind}
use Rattle.kn_rule.specs.declared.steps.Kind.TheVariants.{K1, K2, K3, K4, K5, K6}
use Rattle.kn_rule.specs.declared.steps.Kind.TheVariants.{K7, K8, K9, K10, K11, K12, K13, K14, K15, K16}
use Rattle.kn_rule.specs.declared.steps.Kind.TheVariants.{K17, K18, K19, K20, K21, K22, K23, K24}
use Rattle.kn_rule.specs.declared.steps.Action.{Action}
use Rattle.kn_rule.specs.declared.steps.Action.TheVariants.{Loads, Stores, Raises}
use Rattle.kn_rule.specs.Views.{State}
use Rattle.kn_rule.specs.Steps.{Found, does, epoch_in}
use Rattle.kn_rule.specs.Outcomes.{wanted_at, phase_stored}
use Rattle.kn_rule.specs.Allowed.{MayBe, Collects, MayStop, MayMark, MayPause}
use Rattle.kn_rule.specs.Allowed.{MayWant, MayStorePhase, MayLoadState, MayCount}
use Rattle.kn_rule.specs.Moves.{stepped_by}
use Rattle.kn_rule.specs.Rule.{Rule}
use Rattle.kn_keep_heap.specs.Laws.{IsKept}
use Rattle.kn_keep_mark.specs.Laws.{IsOfMarker}
use Rattle.kn_keep_heap.proofs.Keeps.{poll_kept, store_kept, local_kept, body_kept, field_kept, global_read_kept, global_kept}
use Rattle.kn_keep_heap.proofs.Keeps.{birth_kept, look_kept, claim_kept, give_back_kept, clear_kept}
use Rattle.kn_keep_mark.proofs.RaiseLaw.{raise_rule}
use Rattle.kn_keep_mark.proofs.CollectorLaws.{want_load, state_load, count_store}
use Rattle.kn_keep_mark.proofs.PhaseLaws.{stop_or_mark_stored}
use Rattle.kn_keep_mark.proofs.CountLaw.{count_load}

module _ (z : Ground) (good : IsGoodGround z) (s : State) (by : ℕ) (here : ℕ → Bool) (f : Found) (r : Rule z s) where
  abbrev Kept : Kind → Place → Action → Type 0
  Kept = IsKept z s by f

  pub want_kept : (p : Place) (a : Action) → MayWant z by (s.caller by) here p a → Kept K13 p a
  unfolding IsKept
  want_kept p a (inl m) =
      subst (λ q. Kept K13 q a) (sym m.place) (subst (λ b. Kept K13 Want b) (sym m.act)
      (λ h. subst (λ q. Rule z (stepped_by s by (does K13 Want (Raises (epoch_in (s.caller by) + 1))) f
      (wanted_at z by (s.caller by) Want (Raises (epoch_in (s.caller by) + 1)) f q))) (sym m.is_call)
      (raise_rule z s by m.thread r.0 r.1 m.is_call f h.0)))
  want_kept p a (inr m) =
      subst (λ q. Kept K13 q a) (sym m.place) (subst (λ b. Kept K13 Want b) (sym m.act)
      (λ h. subst (λ q. Rule z (stepped_by s by (does K13 Want Loads) f (wanted_at z by (s.caller by) Want Loads f q))) (sym m.collects.going)
      (want_load z s r.0 r.1 by here m.collects f h.0)))

  pub state_load_kept : (p : Place) (a : Action) → MayLoadState z by (s.caller by) here p a → Kept K15 p a
  unfolding IsKept
  state_load_kept p a m =
      subst (λ q. Kept K15 q a) (sym m.place) (subst (λ b. Kept K15 (StateOf m.mutator) b) (sym m.act)
      (λ h. state_load z s r.0 r.1 by here m.collects f m.mutator m.near h.0))

  pub count_kept : (p : Place) (a : Action) → MayCount z by (s.caller by) here p a → Kept K16 p a
  unfolding IsKept
  count_kept p a (inl m) =
      subst (λ q. Kept K16 q a) (sym m.place) (subst (λ b. Kept K16 Pending b) (sym m.act)
      (λ h. count_store z s r.0 r.1 by here m.collects f (record {
        place = refl;
        act = refl;
        collects = m.collects;
        stopped = m.stopped;
        counted = m.counted;
        once = m.once;
      })))
  count_kept p a (inr m) =
      subst (λ q. Kept K16 q a) (sym m.place) (subst (λ b. Kept K16 Pending b) (sym m.act)
      (λ h. count_load z s r.0 r.1 by here f h.0 m.marker))

  -- where the steps of markers keep the rule, and so does the pause, each step does
  module _ (marks : (k : Kind) → IsOfMarker k → (p : Place) (a : Action) → MayBe z by (s.caller by) here k p a → Kept k p a)
      (pauses : (w : ℕ) → Collects z by (s.caller by) here → MayPause z by (s.caller by) here w →
      Rule z (stepped_by s by (does K14 Phase (Stores w)) f (phase_stored z by (s.caller by) Phase (Stores w) f))) where
    phase_at : (w : ℕ) → Collects z by (s.caller by) here →
        MayStop z by (s.caller by) here w ⊎ (MayMark z by (s.caller by) here w ⊎ MayPause z by (s.caller by) here w) →
        Rule z (stepped_by s by (does K14 Phase (Stores w)) f (phase_stored z by (s.caller by) Phase (Stores w) f))
    phase_at w collects (inl m) = stop_or_mark_stored z s r.0 r.1 by here collects f good w (inl m)
    phase_at w collects (inr (inl m)) = stop_or_mark_stored z s r.0 r.1 by here collects f good w (inr m)
    phase_at w collects (inr (inr m)) = pauses w collects m

    pub phase_kept : (p : Place) (a : Action) → MayStorePhase z by (s.caller by) here p a → Kept K14 p a
    unfolding IsKept
    phase_kept p a m =
        subst (λ q. Kept K14 q a) (sym m.place) (subst (λ b. Kept K14 Phase b) (sym m.act) (λ h. phase_at m.value m.collects m.may))

    pub kept_by : (k : Kind) (p : Place) (a : Action) → MayBe z by (s.caller by) here k p a → Kept k p a
    kept_by K1 = poll_kept z good s by here f r
    kept_by K2 = store_kept z good s by here f r
    kept_by K3 = local_kept z good s by here f r
    kept_by K4 = body_kept z good s by here f r
    kept_by K5 = field_kept z good s by here f r
    kept_by K6 = global_read_kept z good s by here f r
    kept_by K7 = global_kept z good s by here f r
    kept_by K8 = birth_kept z good s by here f r
    kept_by K9 = look_kept z good s by here f r
    kept_by K10 = claim_kept z good s by here f r
    kept_by K11 = give_back_kept z good s by here f r
    kept_by K12 = clear_kept z good s by here f r
    kept_by K13 = want_kept
    kept_by K14 = phase_kept
    kept_by K15 = state_load_kept
    kept_by K16 = count_kept
    kept_by K17 = marks K17 tt
    kept_by K18 = marks K18 tt
    kept_by K19 = marks K19 tt
    kept_by K20 = marks K20 tt
    kept_by K21 = marks K21 tt
    kept_by K22 = marks K22 tt
    kept_by K23 = marks K23 tt
    kept_by K24 = marks K24 tt
    kept_by _ = λ p a m. absurd m
