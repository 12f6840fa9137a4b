-- What a turn of the marker leaves.
use Rattle.std.proofs.Common.{◌≡◌, ◌↔◌, ℕ, ◌+◌, ◌≤◌, Bool, true, false, cond, length, Option, Some, None, refl, sym, ap}
use Rattle.std.proofs.Common.{◌∙◌, subst}
use Rattle.kn_base.specs.Pages.{FrameView}
use Rattle.kn_base.specs.declared.places.Place.{Place}
use Rattle.kn_graph.specs.Ground.{Ground}
use Rattle.kn_marking.specs.declared.work.Work.{Work}
use Rattle.kn_marking.specs.Shares.{joined}
use Rattle.kn_rule.specs.MarkedHeap.{object_in, set_holds}
use Rattle.kn_rule.specs.MarkSteps.{arrived}
use Rattle.kn_rule.specs.Steps.{Found, Step, more}
use Rattle.kn_steps.specs.Made.{Stand}
use Rattle.kn_steps.specs.Turns.{OneTurn}
use Rattle.kn_steps.specs.declared.turns.Turn.TheVariants.{Done, Idle}
use Rattle.kn_mark.specs.declared.next.Next.{Next}
use Rattle.kn_mark.specs.declared.next.Next.TheVariants.{Gives, Meets, Adds, Grays, LoadsRoot, Finishes, LoadsHeader, LoadsField, Blackens}
use Rattle.kn_mark.specs.declared.next.Next.TheVariants.{Claims, LooksAt, TakesUp, Counts, Searches}
use Rattle.kn_mark.specs.declared.turn.MarkTurn.{MarkTurn}
use Rattle.kn_mark.specs.declared.turn.MarkTurn.TheVariants as marked
use Rattle.kn_mark.specs.Kept.{Kept as MarkerKept, free_share}
use Rattle.kn_mark.specs.Steps.{work_behind}
use Rattle.kn_mark.specs.Agree.{Agrees as MarkerAgrees, HasRest, OnlyMarked}
use Rattle.kn_mark.specs.Turns.{IdleWhereNothing as MarkerIdle, Turned as MarkerTurned}
use Rattle.kn_collector.specs.declared.stage.Stage.{Stage}
use Rattle.kn_collector.specs.declared.stage.Stage.TheVariants.{Marking, Pauses}
use Rattle.kn_collector.specs.Kept.{Kept}
use Rattle.kn_collector.specs.Stages.{code_at, marked_answer, marked_stage, phase_word, said_at}
use Rattle.kn_collector.specs.Agree.{Agrees, AtStage, HasEnded, MarksAt, pauses_due, position_at}
use Rattle.kn_collector.specs.Turns.{Goes, IdleAt, TurnedAt}
use Rattle.kn_collector.proofs.Agreeing.{few_at, stored_at}
use Rattle.kn_collector.proofs.Allowing.{stands}

-- a marker's step leaves the epoch of its share
either_epoch : (b : Bool) (v w : Work) (e : ℕ) → v.epoch ≡ e → w.epoch ≡ e → (cond b v w).epoch ≡ e
either_epoch true v w e a b = a
either_epoch false v w e a b = b

arrived_epoch : (z : Ground) (w : Work) (n : ℕ) (o : Option ℕ) → (arrived z w n o).epoch ≡ w.epoch
arrived_epoch z w n None = refl
arrived_epoch z w n (Some y) = refl

epoch_stays : (z : Ground) (k : MarkerKept) (n : Next) (w : ℕ) → (work_behind z k n w).epoch ≡ k.work.epoch
epoch_stays z k Gives w = refl
epoch_stays z k (Meets y) w = either_epoch _ _ _ k.work.epoch refl refl
epoch_stays z k (Adds y v) w = refl
epoch_stays z k (Grays y v) w = either_epoch _ _ _ k.work.epoch refl refl
epoch_stays z k (LoadsRoot j i) w = arrived_epoch z k.work w (set_holds k.sizes j w)
epoch_stays z k (Finishes j) w = refl
epoch_stays z k (LoadsHeader x) w = refl
epoch_stays z k (LoadsField x h i) w = arrived_epoch z k.work w (object_in w)
epoch_stays z k (Blackens x) w = refl
epoch_stays z k (Claims j v) w = either_epoch _ _ _ k.work.epoch refl refl
epoch_stays z k (LooksAt j) w = refl
epoch_stays z k (TakesUp x) w = either_epoch _ _ _ k.work.epoch refl refl
epoch_stays z k Counts w = refl
epoch_stays z k (Searches n) w = refl

-- it is idle exactly where its marker is, and it has not ended
idle_as : (told : MarkTurn) (p : Place) (w : ℕ) → marked_answer told ≡ Idle p w → told ≡ marked.Idle p w
idle_as marked.Moved p w e = absurd (cc)
idle_as (marked.Idle q v) p w e =
    let place : q ≡ p = cc in
    let word : v ≡ w = cc in
    λ t. marked.Idle (place t) (word t)
idle_as marked.Over p w e = absurd (cc)

not_done_marking : (told : MarkTurn) → (marked_answer told ≡ Done) ↔ HasEnded (marked_stage told)
not_done_marking marked.Moved = (λ e. absurd (cc), λ h. absurd (h))
not_done_marking (marked.Idle p w) = (λ e. absurd (cc), λ h. absurd (h))
not_done_marking marked.Over = (λ e. absurd (cc), λ h. absurd (h))

module _ {k : Kept} {a : Stand} (g : Agrees k a) (is : k.stage ≡ Marking) (m : MarkerKept) {b : Stand} (w : Work) (over : Bool)
    (view : b ≡ record a { view = record a.view { work = w; collecting = record a.view.collecting { over = over } } }) (agrees : MarkerAgrees m b)
  where
    begun : k.marker.work.epoch ≡ k.epoch
    begun = (subst (λ t. MarksAt t k a) is g.marks).1

    -- the stage behind the turn is in Mark, too
    agrees_at : (t : Stage) → position_at Marking ≡ position_at t → code_at Marking ≡ code_at t → pauses_due Marking ≡ pauses_due t →
        AtStage t (record k { stage = t; marker = m }) (record a.view.collecting { over = over }) →
        MarksAt t (record k { stage = t; marker = m }) b → Agrees (record k { stage = t; marker = m }) b
    agrees_at t same code due at marks =
        subst (λ b. MarkerAgrees m b → MarksAt t (record k { stage = t; marker = m }) b → Agrees (record k { stage = t; marker = m }) b)
        (sym view)
        (λ agrees marks. record {
          good = g.good;
          layouts = g.layouts;
          caller = g.caller;
          collector = g.collector;
          position = stands g Marking is ∙ same;
          stored = subst (λ c. a.view.collecting.stored ≡ phase_word k.epoch c) code (stored_at g Marking is);
          ended = g.ended;
          counted = g.counted;
          log = g.log;
          few = subst (λ n. length k.log + n ≤ k.epoch) due (few_at g Marking is);
          epochs = g.epochs;
          share = record {
            sizes = agrees.sizes;
            share = agrees.share ∙ ap (λ (x : Work). joined m.work x.epoch) (sym agrees.share);
            at_ref = agrees.at_ref;
          };
          at = at;
          marks = marks;
        })
        agrees marks

    pub marking_agrees : m.work.epoch ≡ k.marker.work.epoch → (told : MarkTurn) → (told ≡ marked.Over → HasRest k.marker.work.epoch b) →
        Agrees (record k { stage = marked_stage told; marker = m }) b
    marking_agrees same marked.Moved rest = agrees_at Marking refl refl refl tt (agrees, same ∙ begun)
    marking_agrees same (marked.Idle p u) rest = agrees_at Marking refl refl refl tt (agrees, same ∙ begun)
    marking_agrees same marked.Over rest =
        let r = rest refl in
        agrees_at Pauses refl refl refl (
          ap (λ (c : Stand). c.view.collecting.over) (sym view) ∙ r.over,
          sym agrees.share ∙ (r.share ∙ ap free_share begun),
        )
        tt

module _ {T : Type 0} (stand : T → Stand) (here : T → ℕ → Bool) (did : T → Step → Found → T → Type 0)
    (moved : T → ℕ → Option FrameView → Option FrameView → T → Type 0) (k : Kept) (s s' : T) (g : Agrees k (stand s)) (is : k.stage ≡ Marking)
  where
    pub goes_marking : (m : MarkerKept) (told : MarkTurn) → MarkerTurned stand here did k.marker s s' m told → MarkerAgrees m (stand s') →
        OneTurn stand here did moved s s' → MarkerIdle stand here did moved k.marker s s' told →
        OnlyMarked (stand s) (here s) (stand s') (here s') → (told ≡ marked.Over → HasRest k.marker.work.epoch (stand s')) →
        Goes stand here did moved k s s' (record k { stage = marked_stage told; marker = m }) (marked_answer told)
    goes_marking m told turned agrees one idle only rest =
        let k' : Kept = record k { stage = marked_stage told; marker = m } in
        record {
          turned = subst (λ t. TurnedAt stand here did t k s s' k' (marked_answer told)) (sym is)
              (record { told = told; turned = turned; after = refl; answer = refl });
          agrees = marking_agrees g is m (stand s').view.work only.over only.view agrees
              (ap (λ (q : MarkerKept). q.work.epoch) turned.after ∙ epoch_stays (stand s).heap k.marker turned.next turned.found.word) told rest;
          one = one;
          done = not_done_marking told;
          idle = subst (λ t. IdleAt stand here did moved t k s s' (marked_answer told)) (sym is)
              (record {
                one = idle.one;
                idle = λ p w. (λ e. (idle.idle p w).0 (idle_as told p w e), λ h. ap marked_answer ((idle.idle p w).1 h));
              });
          log = ap (λ (c : Stand). c.view.log) only.view ∙ ap (λ t. more (stand s).view.log (said_at k t)) (sym is);
        }
