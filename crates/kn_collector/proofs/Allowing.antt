-- The step of each stage is allowed.
use Rattle.std.proofs.Common.{◌≡◌, ℕ, ◌+◌, ◌<◌, inl, inr, Bool, List, refl, sym, ap, ◌∙◌, subst, arith}
use Rattle.kn_base.specs.declared.kinds.Code.TheVariants as codes
use Rattle.kn_base.specs.declared.phase_word.PhaseWord.{PhaseWord}
use Rattle.kn_base.specs.declared.places.Place.TheVariants.{Phase, Want, Pending, State as StateOf}
use Rattle.kn_rule.specs.declared.positions.Position.TheVariants as positions
use Rattle.kn_rule.specs.declared.steps.Action.TheVariants.{Loads, Stores}
use Rattle.kn_rule.specs.Allowed.{Collects, EachIs, MayCount, MayLoadState, MayStorePhase, MayStoreState, MayWant}
use Rattle.kn_rule.specs.Decoding.{phase_of}
use Rattle.kn_rule.proofs.Decodings.{phase_packed}
use Rattle.kn_steps.specs.Made.{Stand}
use Rattle.kn_collector.specs.declared.stage.Stage.{Stage}
use Rattle.kn_collector.specs.declared.stage.Stage.TheVariants.{Looks, Wants, Ends, Stops, Counts, Begins, Marks, Pauses, Paused}
use Rattle.kn_collector.specs.Kept.{Kept}
use Rattle.kn_collector.specs.Stages.{code_at, phase_word}
use Rattle.kn_collector.specs.Agree.{Agrees, AtStage, EachBelow, position_at}

module _ {k : Kept} {a : Stand} (g : Agrees k a) where
  pub at_stage : (t : Stage) → k.stage ≡ t → AtStage t k a.view.collecting
  at_stage t e = subst (λ t. AtStage t k a.view.collecting) e g.at

  pub stands : (t : Stage) → k.stage ≡ t → a.view.position ≡ position_at t
  stands t e = g.position ∙ ap position_at e

  now_at : (t : Stage) → k.stage ≡ t → phase_of a.view.collecting.stored ≡ record { epoch = k.epoch; code = code_at t }
  now_at t e =
      ap phase_of (g.stored ∙ ap (λ t. phase_word k.epoch (code_at t)) e) ∙ phase_packed (record { epoch = k.epoch; code = code_at t })

  pub code_is : (t : Stage) → k.stage ≡ t → (phase_of a.view.collecting.stored).code ≡ code_at t
  code_is t e = ap (λ (x : PhaseWord). x.code) (now_at t e)

  epoch_is : (t : Stage) → k.stage ≡ t → (phase_of a.view.collecting.stored).epoch ≡ k.epoch
  epoch_is t e = ap (λ (x : PhaseWord). x.epoch) (now_at t e)

  -- there is a mutator
  pub some : 0 < k.by
  some = let l = g.good.sizes.of_threads.threads.0 in let n = g.collector in omega (arith, l, n)

  module _ (here : ℕ → Bool) where
    collects : (t : Stage) → k.stage ≡ t → position_at t ≡ positions.Out → Collects a.heap a.by a.view here
    collects t e out = record { collector = g.caller ∙ g.collector; going = stands t e ∙ out }

    each_is : (flags : List Bool) → EachBelow k.by flags → EachIs a.heap a.by a.view here flags
    each_is flags all i l = let e = g.collector in all i (omega (arith, l, e))

    may_load : (i : ℕ) (t : Stage) → k.stage ≡ t → position_at t ≡ positions.Out → i < k.by →
        MayLoadState a.heap a.by a.view here (StateOf i) Loads
    may_load i t e out l =
        let n = g.collector in
        record { mutator = i; near = omega (arith, l, n); place = refl; act = refl; collects = collects t e out }

    pub may_look : (i : ℕ) → k.stage ≡ Looks i → MayLoadState a.heap a.by a.view here (StateOf i) Loads
    may_look i e = may_load i (Looks i) e refl (at_stage (Looks i) e).0

    pub may_count : (i : ℕ) → k.stage ≡ Counts i → MayLoadState a.heap a.by a.view here (StateOf i) Loads
    may_count i e = may_load i (Counts i) e refl (at_stage (Counts i) e).0

    pub may_want : (all : Bool) → k.stage ≡ Wants all → MayWant a.heap a.by a.view here Want Loads
    may_want all e =
        inr (record { place = refl; act = refl; collects = collects (Wants all) e refl; idle = code_is (Wants all) e })

    pub may_end : k.stage ≡ Ends → MayStoreState a.heap a.by a.view here (StateOf k.by) (Stores 2)
    may_end e =
        let h = at_stage Ends e in
        let known = h.1 in
        let same = epoch_is Ends e in
        record {
          value = 2;
          place = ap StateOf (sym g.caller);
          word = refl;
          may = inr (record {
            collects = collects Ends e refl;
            value = refl;
            idle = code_is Ends e;
            ended = each_is a.view.collecting.ended h.0;
            none_wanted = omega (arith, known, same);
          });
        }

    pub may_stop : k.stage ≡ Stops → MayStorePhase a.heap a.by a.view here Phase (Stores (phase_word (k.epoch + 1) codes.StopA))
    may_stop e =
        let above = (at_stage Stops e).0 in
        let same = epoch_is Stops e in
        record {
          value = phase_word (k.epoch + 1) codes.StopA;
          place = refl;
          act = refl;
          collects = collects Stops e refl;
          may = inl (record {
            idle = code_is Stops e;
            wanted = omega (arith, above, same);
            value = ap (λ n. phase_word (n + 1) codes.StopA) (sym same);
          });
        }

    pub may_mark : k.stage ≡ Marks → MayStorePhase a.heap a.by a.view here Phase (Stores (phase_word k.epoch codes.Mark))
    may_mark e =
        let h = at_stage Marks e in
        record {
          value = phase_word k.epoch codes.Mark;
          place = refl;
          act = refl;
          collects = collects Marks e refl;
          may = inr (inl (record {
            stopped = code_is Marks e;
            counted = each_is a.view.collecting.counted h.0;
            begun = h.1;
            value = ap (λ n. phase_word n codes.Mark) (sym (epoch_is Marks e));
          }));
        }

    pub may_begin : k.stage ≡ Begins → MayCount a.heap a.by a.view here Pending (Stores (k.by + 2))
    may_begin e =
        let h = at_stage Begins e in
        inl (record {
          place = refl;
          act = ap (λ n. Stores (n + 2)) g.collector;
          collects = collects Begins e refl;
          stopped = code_is Begins e;
          counted = each_is a.view.collecting.counted h.0;
          once = h.1;
        })

    pub may_pause : k.stage ≡ Pauses → MayStorePhase a.heap a.by a.view here Phase (Stores (phase_word k.epoch codes.Weak))
    may_pause e =
        record {
          value = phase_word k.epoch codes.Weak;
          place = refl;
          act = refl;
          collects = collects Pauses e refl;
          may = inr (inr (record {
            in_mark = code_is Pauses e;
            over = (at_stage Pauses e).0;
            value = ap (λ n. phase_word n codes.Weak) (sym (epoch_is Pauses e));
          }));
        }

    pub may_rest : k.stage ≡ Paused → MayLoadState a.heap a.by a.view here (StateOf 0) Loads
    may_rest e = may_load 0 Paused e refl some
