-- The turn that the step of a stage makes.
use Rattle.std.proofs.Common.{◌≡◌, ℕ, ◌+◌, ◌≤◌, ◌↔◌, inl, Bool, true, false, cond, eqb, List, Option, Some, nat_lt, refl, sym}
use Rattle.std.proofs.Common.{ap, ◌∙◌, subst}
use Rattle.std.proofs.lemmas.Bool.{eqb-true, ltb-false}
use Rattle.kn_base.specs.Pages.{FrameView}
use Rattle.kn_base.specs.declared.places.Place.{Place}
use Rattle.kn_base.specs.declared.places.Place.TheVariants.{Want, State as StateOf}
use Rattle.kn_graph.specs.declared.entries.Entry.{Entry}
use Rattle.kn_rule.specs.Steps.{Found, Step, more}
use Rattle.kn_steps.specs.Made.{Made, Stand}
use Rattle.kn_steps.specs.declared.turns.Turn.{Turn}
use Rattle.kn_steps.specs.declared.turns.Turn.TheVariants.{Done, Idle, Moved}
use Rattle.kn_collector.specs.declared.stage.Stage.{Stage}
use Rattle.kn_collector.specs.declared.stage.Stage.TheVariants.{Looks, Wants, Ends, Ended, Stops, Counts, Begins, Marks, Marking, Pauses, Paused}
use Rattle.kn_collector.specs.Kept.{Kept}
use Rattle.kn_collector.specs.Stages.{IsIdleFor, answer_behind, behind, said_at, stage_behind, stage_step}
use Rattle.kn_collector.specs.Agree.{Agrees, HasEnded}
use Rattle.kn_collector.specs.Turns.{Goes, IdleAt, MakesStep, TurnedAt}

-- where it has not ended, a turn that is not done says so
not_done : (reply : Turn) (t : Stage) → (reply ≡ Done → ⊥) → (HasEnded t → ⊥) → (reply ≡ Done) ↔ HasEnded t
not_done reply t a b = (λ e. absurd (a e), λ h. absurd (b h))

module _ (k : Kept) (w : ℕ) where
  looked_goes_on : (i : ℕ) (q r : Bool) → HasEnded (cond q (cond r (Looks (i + 1)) (Wants true)) (Wants false)) → ⊥
  looked_goes_on i true true h = h
  looked_goes_on i true false h = h
  looked_goes_on i false r h = h

  chosen_goes_on : (q all : Bool) →
      (cond q Moved (cond all Moved (Idle Want w)) ≡ Done) ↔ HasEnded (cond q Stops (cond all Ends (Looks 0)))
  chosen_goes_on true all = not_done Moved Stops (λ e. cc) (λ h. h)
  chosen_goes_on false true = not_done Moved Ends (λ e. cc) (λ h. h)
  chosen_goes_on false false = not_done (Idle Want w) (Looks 0) (λ e. cc) (λ h. h)

  counted_goes_on : (i : ℕ) (q r : Bool) →
      (cond q (Idle (StateOf i) w) Moved ≡ Done) ↔ HasEnded (cond q (Counts i) (cond r (Counts (i + 1)) Begins))
  counted_goes_on i true r = not_done (Idle (StateOf i) w) (Counts i) (λ e. cc) (λ h. h)
  counted_goes_on i false true = not_done Moved (Counts (i + 1)) (λ e. cc) (λ h. h)
  counted_goes_on i false false = not_done Moved Begins (λ e. cc) (λ h. h)

  done_told : (t : Stage) (d : Step) → stage_step k t ≡ Some d → (answer_behind k t w ≡ Done) ↔ HasEnded (stage_behind k t w)
  done_told (Looks i) d e = not_done Moved (stage_behind k (Looks i) w) (λ e. cc) (looked_goes_on i (eqb w 2) (nat_lt (i + 1) k.by))
  done_told (Wants all) d e = chosen_goes_on (nat_lt k.epoch w) all
  done_told Ends d e = (λ _. tt, λ _. refl)
  done_told Ended d e = absurd (cc)
  done_told Stops d e = not_done Moved (Counts 0) (λ e. cc) (λ h. h)
  done_told (Counts i) d e = counted_goes_on i (eqb w 1) (nat_lt (i + 1) k.by)
  done_told Begins d e = not_done Moved Marks (λ e. cc) (λ h. h)
  done_told Marks d e = not_done Moved Marking (λ e. cc) (λ h. h)
  done_told Marking d e = absurd (cc)
  done_told Pauses d e = not_done Moved Paused (λ e. cc) (λ h. h)
  done_told Paused d e = not_done (Idle (StateOf 0) w) Paused (λ e. cc) (λ h. h)

  wanted_idle : (all q r : Bool) → nat_lt k.epoch w ≡ q → all ≡ r → (p : Place) (u : ℕ) →
      cond q Moved (cond r Moved (Idle Want w)) ≡ Idle p u → IsIdleFor k (Wants all) p u
  wanted_idle all true r e is p u h = absurd (cc)
  wanted_idle all false true e is p u h = absurd (cc)
  wanted_idle all false false e is p u h =
      let place : Want ≡ p = cc in
      let word : w ≡ u = cc in
      (sym place, subst (λ n. n ≤ k.epoch) word (ltb-false k.epoch w e), is)

  counted_idle : (i : ℕ) (q : Bool) → eqb w 1 ≡ q → (p : Place) (u : ℕ) → cond q (Idle (StateOf i) w) Moved ≡ Idle p u →
      IsIdleFor k (Counts i) p u
  counted_idle i true e p u h =
      let place : StateOf i ≡ p = cc in
      let word : w ≡ u = cc in
      (sym place, sym word ∙ eqb-true w 1 e)
  counted_idle i false e p u h = absurd (cc)

-- a step that was made is the turn of its stage, and why that is idle is told
module _ {T : Type 0} (stand : T → Stand) (here : T → ℕ → Bool) (did : T → Step → Found → T → Type 0)
    (moved : T → ℕ → Option FrameView → Option FrameView → T → Type 0) (k : Kept) (s s' : T) where
  turned_at : (t : Stage) (d : Step) → stage_step k t ≡ Some d → (k' : Kept) (reply : Turn) →
      MakesStep stand here did t k s s' k' reply → TurnedAt stand here did t k s s' k' reply
  turned_at (Looks i) d e k' reply made = made
  turned_at (Wants all) d e k' reply made = made
  turned_at Ends d e k' reply made = made
  turned_at Ended d e k' reply made = made
  turned_at Stops d e k' reply made = made
  turned_at (Counts i) d e k' reply made = made
  turned_at Begins d e k' reply made = made
  turned_at Marks d e k' reply made = made
  turned_at Marking d e k' reply made = absurd (cc)
  turned_at Pauses d e k' reply made = made
  turned_at Paused d e k' reply made = made

  idle_at : (w : ℕ) (t : Stage) (d : Step) → stage_step k t ≡ Some d → IdleAt stand here did moved t k s s' (answer_behind k t w)
  idle_at w (Looks i) d e = λ p u h. absurd (cc)
  idle_at w (Wants all) d e = λ p u h. wanted_idle k w all (nat_lt k.epoch w) all refl refl p u h
  idle_at w Ends d e = λ p u h. absurd (cc)
  idle_at w Ended d e = λ p u h. absurd (cc)
  idle_at w Stops d e = λ p u h. absurd (cc)
  idle_at w (Counts i) d e = λ p u h. counted_idle k w i (eqb w 1) refl p u h
  idle_at w Begins d e = λ p u h. absurd (cc)
  idle_at w Marks d e = λ p u h. absurd (cc)
  idle_at w Marking d e = absurd (cc)
  idle_at w Pauses d e = λ p u h. absurd (cc)
  idle_at w Paused d e = λ p u h. cc

  pub goes : Agrees k (stand s) → (t : Stage) → k.stage ≡ t → (d : Step) (f : Found) → stage_step k t ≡ Some d → (d' : Step) → d' ≡ d →
      Made (stand s) (here s) d' f (stand s') (here s') → did s d' f s' →
      (Made (stand s) (here s) d f (stand s') (here s') → Agrees (behind k t f.word) (stand s')) → (k' : Kept) → k' ≡ behind k t f.word →
      (reply : Turn) → reply ≡ answer_behind k t f.word → Goes stand here did moved k s s' k' reply
  goes g t e d f named d' same_step made' kept' agrees_behind k' after reply answer = record {
    turned = subst (λ t. TurnedAt stand here did t k s s' k' reply) (sym e)
        (turned_at t d named k' reply
        (record { step = d; found = f; named = named; made = made; kept = kept; after = after; answer = answer }));
    agrees = subst (λ k. Agrees k (stand s')) (sym after) agrees;
    one = inl (record { step = d; found = f; made = made; kept = kept });
    done = done;
    idle = subst (λ t. IdleAt stand here did moved t k s s' reply) (sym e)
        (subst (λ r. IdleAt stand here did moved t k s s' r) (sym answer) (idle_at f.word t d named));
    log = agrees.log
        ∙ (ap (λ (l : List Entry). more l (said_at k t)) (sym g.log) ∙ ap (λ t. more (stand s).view.log (said_at k t)) (sym e));
  }
    where
      made : Made (stand s) (here s) d f (stand s') (here s')
      made = subst (λ d. Made (stand s) (here s) d f (stand s') (here s')) same_step made'

      kept : did s d f s'
      kept = subst (λ d. did s d f s') same_step kept'

      agrees : Agrees (behind k t f.word) (stand s')
      agrees = agrees_behind made

      told : (answer_behind k t f.word ≡ Done) ↔ HasEnded (stage_behind k t f.word)
      told = done_told k f.word t d named

      same : k'.stage ≡ stage_behind k t f.word
      same = ap (λ (q : Kept). q.stage) after

      done : (reply ≡ Done) ↔ HasEnded k'.stage
      done = (λ h. subst HasEnded (sym same) (told.0 (sym answer ∙ h)), λ h. answer ∙ told.1 (subst HasEnded same h))
