-- The laws of the collector's steps, and of a mutator's that wants an epoch.
use Rattle.std.proofs.Common.{◌≡◌, ◌≢◌, ℕ, zero, suc, ◌+◌, ◌<◌, ◌≤◌, inl, inr, Bool, true, false, cond, eqb, List, []}
use Rattle.std.proofs.Common.{◌∷◌, set}
use Rattle.std.proofs.Common.{Option, Some, slice_get, refl, sym, subst, ap, ◌∙◌, arith}
use Rattle.std.proofs.lemmas.Bool.Decides.{eqb_tells}
use Rattle.kn_base.specs.declared.places.Place.TheVariants.{Phase, Want, Pending, State as StateOf}
use Rattle.kn_base.specs.Functions.{upd, Tells}
use Rattle.kn_base.proofs.Updates.{upd_same, get_set_else}
use Rattle.kn_base.specs.declared.kinds.Code.TheVariants as codes
use Rattle.kn_base.specs.declared.phase_word.PhaseWord.{PhaseWord}
use Rattle.kn_graph.specs.Ground.{Ground}
use Rattle.kn_graph.specs.Graph.{Graph, shapes}
use Rattle.kn_marking.specs.declared.work.Work.{Work}
use Rattle.kn_rule.specs.declared.positions.Position.{Position}
use Rattle.kn_rule.specs.declared.positions.Position.TheVariants.{Out, Ended}
use Rattle.kn_rule.specs.declared.steps.Kind.TheVariants.{K13, K15, K16}
use Rattle.kn_rule.specs.declared.steps.Action.TheVariants.{Loads, Stores}
use Rattle.kn_rule.specs.Places.{put}
use Rattle.kn_rule.specs.Views.{Views, State, Collecting, views_of}
use Rattle.kn_rule.specs.Steps.{Found, does, quietly}
use Rattle.kn_rule.specs.Outcomes.{state_loaded, count_at}
use Rattle.kn_rule.specs.Allowed.{Collects, MayBeginMarking}
use Rattle.kn_rule.specs.Moves.{stepped_by}
use Rattle.kn_rule.specs.CallerClauses.{state_number, IsInOrLeaving, AtEnd, Stopped, IsAtRest, Working}
use Rattle.kn_rule.specs.Decoding.{phase_of}
use Rattle.kn_rule.specs.MarkClauses.{Phased}
use Rattle.kn_rule.specs.Rule.{Rule, RuleOf}
use Rattle.kn_keep_heap.proofs.Changed.{some_is}
use Rattle.kn_keep_heap.proofs.Loads.{put_same}
use Rattle.kn_keep_heap.proofs.Phases.{phased_out}
use Rattle.kn_keep_heap.proofs.EndLaw.{collector_part, collector_ends}
use Rattle.kn_keep_mark.proofs.Collected.{collected_work, collected_still}

-- what was set is what is found there
set_is : {A : Type 0} (l : List A) (k : ℕ) (x y : A) → slice_get (set l k x) k ≡ Some y → x ≡ y
set_is [] k x y e = let h : Option.None ≡ Some y = e in absurd (cc)
set_is (a ∷ l) zero x y e = some_is x y e
set_is (a ∷ l) (suc k) x y e = set_is l k x y e

ended_by : (q : Position) → state_number q ≡ 2 → q ≡ Ended
ended_by Out e = absurd (omega arith)
ended_by Ended e = refl
ended_by _ e = absurd (omega (arith, e))

one_in : (q : Position) → IsInOrLeaving q → state_number q ≡ 1
one_in Out h = absurd h
one_in Ended h = absurd h
one_in _ h = refl

module _ (z : Ground) (s : State) (g : Graph) (rule : RuleOf z g s.word s.page (views_of s.caller) s.history) (by : ℕ)
    (here : ℕ → Bool) (collects : Collects z by (s.caller by) here) (f : Found) where
  abbrev V : Views
  V = views_of s.caller

  abbrev pub old : Collecting
  old = (s.caller by).collecting

  pub ended_kept : AtEnd z V.position (λ _. old.ended)
  ended_kept = collector_ends z s g rule by collects.collector

  pub counted_kept : Stopped z (s.word Phase) V.position (λ _. old.counted)
  counted_kept = record {
    still = rule.stands.stopped.still;
    stopping = λ h i l e. rule.stands.stopped.stopping h i l
        (ap (λ (x : Collecting). slice_get x.counted i) (collector_part z s by collects.collector) ∙ e);
  }

  pub working_kept : Working z (s.word Phase) (s.word Pending) old.over
  working_kept = subst (λ (x : Collecting). Working z (s.word Phase) (s.word Pending) x.over) (collector_part z s by collects.collector)
      rule.stands.working

  pub known_kept : old.wanted ≤ s.word Want
  known_kept = subst (λ (x : Collecting). x.wanted ≤ s.word Want) (collector_part z s by collects.collector) rule.stands.wanted.known

  -- a mutator's state was loaded
  module _ (i : ℕ) (near : i < z.sizes.threads) (found : s.word (StateOf i) ≡ f.word) where
    abbrev part : Collecting
    part = record old { counted = set old.counted i (cond (eqb f.word 1) false true); ended = set old.ended i (eqb f.word 2) }

    state_is : f.word ≡ state_number (V.position i)
    state_is = sym found ∙ rule.stands.stated.each i (omega (arith, near))

    ended_here : eqb f.word 2 ≡ true → V.position i ≡ Ended
    ended_here e = at (eqb_tells f.word 2)
      where
        at : Tells f.word 2 → V.position i ≡ Ended
        at (inl t) = ended_by (V.position i) (sym state_is ∙ t.1)
        at (inr t) = let h : true ≡ false = sym e ∙ t.0 in absurd (cc)

    out_here : cond (eqb f.word 1) false true ≡ true → ¬ IsInOrLeaving (V.position i)
    out_here e h = at (eqb_tells f.word 1)
      where
        at : Tells f.word 1 → ⊥
        at (inl t) = let h : false ≡ true = sym (ap (λ b. cond b false true) t.0) ∙ e in cc
        at (inr t) = t.1 (state_is ∙ one_in (V.position i) h)

    seen_at : (j : ℕ) → Tells i j → slice_get (set old.ended i (eqb f.word 2)) j ≡ Some true → j < z.sizes.threads → V.position j ≡ Ended
    seen_at j (inl t) e l =
        subst (λ k. V.position k ≡ Ended) t.1
        (ended_here (set_is old.ended i (eqb f.word 2) true (ap (slice_get (set old.ended i (eqb f.word 2))) t.1 ∙ e)))
    seen_at j (inr t) e l = ended_kept.seen j l (sym (get_set_else old.ended i (eqb f.word 2) j t.1) ∙ e)

    counted_at : (b : Bool) → cond (eqb f.word 1) false true ≡ b → (j : ℕ) → Tells i j → slice_get (set old.counted i b) j ≡ Some true →
        j < z.sizes.threads → ((k : ℕ) → k < z.sizes.threads → slice_get old.counted k ≡ Some true → ¬ IsInOrLeaving (V.position k)) →
        ¬ IsInOrLeaving (V.position j)
    counted_at b is j (inl t) e l before =
        subst (λ k. ¬ IsInOrLeaving (V.position k)) t.1 (out_here (is ∙ set_is old.counted i b true (ap (slice_get (set old.counted i b)) t.1 ∙ e)))
    counted_at b is j (inr t) e l before = before j l (sym (get_set_else old.counted i b j t.1) ∙ e)

    pub state_load : Rule z (stepped_by s by (does K15 (StateOf i) Loads) f (state_loaded z by (s.caller by) (StateOf i) Loads f))
    state_load = (
      g,
      subst (λ x. RuleOf z g x s.page (views_of (upd s.caller by (record (s.caller by) { collecting = part }))) s.history)
          (sym (put_same s.word (StateOf i) f.word (sym found)))
          (collected_still z s g rule by (s.caller by).work part collects.collector refl refl
          (record { seen = λ j l e. seen_at j (eqb_tells i j) e l; all = rule.stands.at_end.all })
          (record {
            still = rule.stands.stopped.still;
            stopping = λ h j l e. counted_at _ refl j (eqb_tells i j) e l (counted_kept.stopping h);
          })
          known_kept working_kept),
    )

  -- the epoch wanted was loaded
  pub want_load : s.word Want ≡ f.word → Rule z (stepped_by s by (does K13 Want Loads) f (quietly (record (s.caller by) {
    collecting = record old { wanted = f.word };
  })))
  want_load found = (
    g,
    subst (λ x. RuleOf z g x s.page (views_of (upd s.caller by (record (s.caller by) { collecting = record old { wanted = f.word } }))) s.history)
        (sym (put_same s.word Want f.word (sym found)))
        (collected_still z s g rule by (s.caller by).work (record old { wanted = f.word }) collects.collector refl refl ended_kept counted_kept
        (omega (arith, found))
        working_kept),
  )

  pub by_me : phase_of old.stored ≡ phase_of (s.word Phase)
  by_me = ap phase_of (sym (rule.stands.timed.by_collector ∙ ap (λ (x : Collecting). x.stored) (collector_part z s by collects.collector)))

  -- the marking begins
  pub count_store : MayBeginMarking z by (s.caller by) here Pending (Stores (z.sizes.threads + 2)) →
      Rule z (stepped_by s by (does K16 Pending (Stores (z.sizes.threads + 2))) f
      (count_at z by (s.caller by) Pending (Stores (z.sizes.threads + 2)) f (Stores (z.sizes.threads + 2))))
  count_store m =
      let stop : (phase_of (s.word Phase)).code ≡ codes.StopA = ap (λ (x : PhaseWord). x.code) (sym by_me) ∙ m.stopped in
      let out : (phase_of (s.word Phase)).code ≢ codes.Mark = λ e. let x : codes.StopA ≡ codes.Mark = sym stop ∙ e in cc in
      let works : ℕ → Work = λ c. (s.caller c).work in (
        g,
        collected_work z s g rule by (s.caller by).work (record old { over = false }) collects.collector (z.sizes.threads + 2) refl ended_kept
            counted_kept known_kept
            (record { none = λ e. absurd (cc); all = λ _ _. refl; at_rest = λ h. absurd (subst IsAtRest stop h) })
            (subst (λ (x : ℕ → Work). Phased z g.paused g.born (shapes g) (put s.word Pending (z.sizes.threads + 2)) x)
            (sym (upd_same works by (s.caller by).work refl))
            (phased_out z g.paused g.born (shapes g) (put s.word Pending (z.sizes.threads + 2)) works out (rule.phased.at_rest out))),
      )
