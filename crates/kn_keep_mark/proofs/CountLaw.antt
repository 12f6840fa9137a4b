-- The law of a load of the count of open work.
use Rattle.std.proofs.Common.{◌≡◌, ℕ, inl, inr, Bool, true, cond, eqb, refl, sym, subst, ap, ◌∙◌}
use Rattle.std.proofs.lemmas.Bool.Decides.{eqb_tells}
use Rattle.kn_base.specs.declared.places.Place.TheVariants.{Phase, Pending}
use Rattle.kn_base.specs.declared.kinds.Code.TheVariants as codes
use Rattle.kn_base.specs.declared.phase_word.PhaseWord.{PhaseWord}
use Rattle.kn_base.specs.Functions.{upd, Tells}
use Rattle.kn_graph.specs.Ground.{Ground}
use Rattle.kn_graph.specs.Graph.{Graph}
use Rattle.kn_rule.specs.declared.steps.Kind.TheVariants.{K16}
use Rattle.kn_rule.specs.declared.steps.Action.TheVariants.{Loads}
use Rattle.kn_rule.specs.Decoding.{phase_of}
use Rattle.kn_rule.specs.Views.{State, Collecting, views_of}
use Rattle.kn_rule.specs.Steps.{Found, does}
use Rattle.kn_rule.specs.Outcomes.{count_at}
use Rattle.kn_rule.specs.Allowed.{Collects}
use Rattle.kn_rule.specs.MarkSteps.{IsMarker, MarksItself}
use Rattle.kn_rule.specs.Moves.{stepped_by}
use Rattle.kn_rule.specs.CallerClauses.{IsAtRest, Working}
use Rattle.kn_rule.specs.Rule.{Rule, RuleOf}
use Rattle.kn_keep_heap.proofs.Loads.{put_same}
use Rattle.kn_keep_mark.proofs.Collected.{collected_still, beside}
use Rattle.kn_keep_mark.proofs.CollectorLaws.{ended_kept, counted_kept, working_kept, known_kept, by_me}

module _ (z : Ground) (s : State) (g : Graph) (rule : RuleOf z g s.word s.page (views_of s.caller) s.history) (by : ℕ)
    (here : ℕ → Bool) (f : Found) (found : s.word Pending ≡ f.word) where
  abbrev part : Collecting
  part = record (s.caller by).collecting { over = cond (eqb f.word 0) true (s.caller by).collecting.over }

  abbrev Counted : Type 0
  Counted = RuleOf z g s.word s.page (views_of (upd s.caller by (record (s.caller by) { collecting = part }))) s.history

  -- by the collector in Mark: it is over where no work is open
  by_collector : MarksItself z by (s.caller by) → Counted
  by_collector m =
      let collects : Collects z by (s.caller by) here = record { collector = m.collector; going = m.going } in
      let mark : (phase_of (s.word Phase)).code ≡ codes.Mark =
      ap (λ (x : PhaseWord). x.code) (sym (by_me z s g rule by here collects f)) ∙ m.in_mark in
      let old = working_kept z s g rule by here collects f in
      collected_still z s g rule by (s.caller by).work part m.collector refl refl (ended_kept z s g rule by here collects f)
      (counted_kept z s g rule by here collects f) (known_kept z s g rule by here collects f)
      (record {
        none = λ e. none_at old (eqb_tells f.word 0) e;
        all = λ out. absurd (out mark);
        at_rest = λ h. absurd (subst IsAtRest mark h);
      })
    where
      none_at : Working z (s.word Phase) (s.word Pending) (s.caller by).collecting.over → Tells f.word 0 →
          cond (eqb f.word 0) true (s.caller by).collecting.over ≡ true → s.word Pending ≡ 0
      none_at old (inl t) e = found ∙ t.1
      none_at old (inr t) e = old.none (sym (ap (λ b. cond b true (s.caller by).collecting.over) t.0) ∙ e)

  counted_by : IsMarker z by (s.caller by) → Counted
  counted_by (inl m) = beside z s g rule by (s.caller by).work part m.thread refl
  counted_by (inr m) = by_collector m

  pub count_load : IsMarker z by (s.caller by) →
      Rule z (stepped_by s by (does K16 Pending Loads) f (count_at z by (s.caller by) Pending Loads f Loads))
  count_load m = (
    g,
    subst (λ x. RuleOf z g x s.page (views_of (upd s.caller by (record (s.caller by) { collecting = part }))) s.history)
        (sym (put_same s.word Pending f.word (sym found))) (counted_by m),
  )
