-- The laws of the first two steps of a `set`: each keeps the rule.
use Rattle.std.proofs.Common.{◌≡◌, ℕ, ◌<◌, ◌⊎◌, inl, inr, Bool, cond, Option, Some, List, sym, subst, arith}
use Rattle.kn_base.specs.Functions.{upd}
use Rattle.kn_base.proofs.Updates.{upd_case}
use Rattle.kn_graph.specs.declared.calls.Call.{Call}
use Rattle.kn_graph.specs.Ground.{Ground}
use Rattle.kn_graph.specs.Graph.{Graph, pointers}
use Rattle.kn_graph.specs.Reachable.{IsReachable}
use Rattle.kn_cms_rule.specs.declared.stages.Colour.{Colour}
use Rattle.kn_cms_rule.specs.declared.stages.Doing.{Doing}
use Rattle.kn_cms_rule.specs.declared.stages.Doing.TheVariants.{Loaded, Shaded}
use Rattle.kn_cms_rule.specs.declared.stages.Stage.{Stage}
use Rattle.kn_cms_rule.specs.declared.stages.Stage.TheVariants.{Waiting, Marking, Looking, Finished}
use Rattle.kn_cms_rule.specs.State.{State, is_marking, shade}
use Rattle.kn_cms_rule.specs.Steps.{Loads, Shades, Aims}
use Rattle.kn_cms_rule.specs.MarkRule.{IsFieldKept, IsKept, IsNullOrKept, IsNullOrColoured}
use Rattle.kn_cms_rule.specs.Rule.{Rule, IsInMarking, IsAtStage, IsBegun, IsInMiddle}
use Rattle.kn_cms_rule.proofs.Shades.{gray_shade, shade_grows, shade_here, still_coloured}
use Rattle.kn_cms_rule.proofs.Marks.{mark_doing, mark_shaded}

kept_here : (at : Graph) (born : ℕ) (x : Option ℕ) (n : ℕ) → x ≡ Some n → IsNullOrKept at born x → IsKept at born n
kept_here at born x n e h = subst (IsNullOrKept at born) e h

-- a kept object that was born before the snapshot was reachable there
pub was_reached : (at : Graph) (born n : ℕ) → n < at.born → IsKept at born n → IsReachable at n
was_reached at born n near (inl q) = q
was_reached at born n near (inr p) = let far = p.0 in absurd (omega arith)

loaded_kept : (colour : ℕ → Colour) (before now : Option ℕ) (looked : Bool) → IsFieldKept colour before now looked →
    (now ≡ before) ⊎ IsNullOrColoured colour before
loaded_kept colour before now looked (inl p) = inl p.0
loaded_kept colour before now looked (inr h) = inr h

module _ (z : Ground) (calls : ℕ → List Call) (s s' : State) (i : ℕ) (near : i < z.sizes.threads) (rule : Rule z calls s) where
  -- another thing that the thread is in the middle of
  middle_on : (d : Doing) → IsInMiddle z s.graph i (s.left i) d → (j : ℕ) → j < z.sizes.threads →
      IsInMiddle z s.graph j (s.left j) (upd s.doing i d j)
  middle_on d here j less = upd_case (λ k (x : Doing). k < z.sizes.threads → IsInMiddle z s.graph k (s.left k) x) s.doing i d (λ _. here) j
      (λ _ h. rule.in_middle j h) less

  module _ (k : Loads z s i s') where
    module _ (h : IsInMarking z s) where
      object_kept : IsKept h.at s.graph.born k.object
      object_kept = kept_here h.at s.graph.born (s.graph.local i k.aims.local) k.object k.aims.holds (h.rule.held.locals i k.aims.local)

      load_at : (n f : ℕ) (v : Option ℕ) → Loaded k.object k.field (pointers s.graph k.object k.field) ≡ Loaded n f v → n < h.at.born →
          (v ≡ pointers h.at n f) ⊎ IsNullOrColoured s.colour (pointers h.at n f)
      load_at n f v e old =
          let en : k.object ≡ n = cc in let ef : k.field ≡ f = cc in let ev : pointers s.graph k.object k.field ≡ v = cc in
          let p : (m : ℕ) → k.object ≡ m → m < h.at.born → IsReachable h.at k.object = λ m e less.
          was_reached h.at s.graph.born k.object (subst (λ x. x < h.at.born) (sym e) less) object_kept in
          subst (λ (w : Option ℕ). (w ≡ pointers h.at n f) ⊎ IsNullOrColoured s.colour (pointers h.at n f)) ev
          (subst (λ m. (pointers s.graph k.object k.field ≡ pointers h.at m f) ⊎ IsNullOrColoured s.colour (pointers h.at m f)) en
          (subst (λ j. (pointers s.graph k.object k.field ≡ pointers h.at k.object j) ⊎ IsNullOrColoured s.colour (pointers h.at k.object j)) ef
          (loaded_kept s.colour (pointers h.at k.object k.field) (pointers s.graph k.object k.field) (s.looked k.object k.field)
          (h.rule.fields k.object k.field (p n en old)))))

      value_at : (n f : ℕ) (v : Option ℕ) → Loaded k.object k.field (pointers s.graph k.object k.field) ≡ Loaded n f v →
          IsNullOrKept h.at s.graph.born v
      value_at n f v e =
          let ev : pointers s.graph k.object k.field ≡ v = cc in
          subst (IsNullOrKept h.at s.graph.born) ev (h.rule.held.fields k.object k.field object_kept)

      load_marking : IsInMarking z (record s { doing = upd s.doing i (Loaded k.object k.field (pointers s.graph k.object k.field)) })
      load_marking = record {
        at = h.at;
        is_snapshot = h.is_snapshot;
        since = h.since;
        rule = mark_doing z h.at s.graph s.colour s.looked s.doing h.rule i (Loaded k.object k.field (pointers s.graph k.object k.field))
            load_at (λ n f e. absurd (cc)) value_at;
        begun = h.begun;
      }

    load_stage : (st : Stage) → IsAtStage z s st →
        IsAtStage z (record s { doing = upd s.doing i (Loaded k.object k.field (pointers s.graph k.object k.field)) }) st
    load_stage Waiting h = h
    load_stage Marking h = load_marking h
    load_stage (Looking n f) h = load_marking h
    load_stage Finished h = record { at = h.at; is_snapshot = h.is_snapshot; since = h.since; settled = h.settled }

    pub load_keeps : Rule z calls s'
    load_keeps = subst (Rule z calls) (sym k.after) (record {
      leads = rule.leads;
      full = rule.full;
      stacked = rule.stacked;
      nameless = rule.nameless;
      made = rule.made;
      may_be_made = rule.may_be_made;
      in_middle = middle_on (Loaded k.object k.field (pointers s.graph k.object k.field)) k.aims;
      at_stage = load_stage s.stage rule.at_stage;
    })

  module _ (k : Shades z s i s') where
    aims : Aims z s.graph i (s.left i) k.object k.field
    aims = subst (IsInMiddle z s.graph i (s.left i)) k.has_loaded (rule.in_middle i near)

    begun_shaded : (at : Graph) (v : Option ℕ) (st : Stage) → IsBegun z at s.colour s.looked st → IsBegun z at (shade s.colour v) s.looked st
    begun_shaded at v Waiting h = tt
    begun_shaded at v Marking h = tt
    begun_shaded at v Finished h = tt
    begun_shaded at v (Looking n f) h = (gray_shade s.colour v n h.0, h.1)

    module _ (h : IsInMarking z s) where
      shade_at : (n f : ℕ) → Shaded k.object k.field ≡ Shaded n f → n < h.at.born → IsNullOrColoured (shade s.colour k.loaded) (pointers h.at n f)
      shade_at n f e old =
          let en : k.object ≡ n = cc in let ef : k.field ≡ f = cc in
          subst (λ m. IsNullOrColoured (shade s.colour k.loaded) (pointers h.at m f)) en
          (subst (λ j. IsNullOrColoured (shade s.colour k.loaded) (pointers h.at k.object j)) ef
          (by (h.rule.loads i k.object k.field k.loaded near k.has_loaded (subst (λ x. x < h.at.born) (sym en) old))))
        where
          by : (k.loaded ≡ pointers h.at k.object k.field) ⊎ IsNullOrColoured s.colour (pointers h.at k.object k.field) →
              IsNullOrColoured (shade s.colour k.loaded) (pointers h.at k.object k.field)
          by (inl same) = subst (IsNullOrColoured (shade s.colour k.loaded)) same (shade_here s.colour k.loaded)
          by (inr had) = still_coloured h.at s.colour (shade s.colour k.loaded) (shade_grows s.colour k.loaded) (pointers h.at k.object k.field) had

      shade_marking : IsInMarking z (record s { doing = upd s.doing i (Shaded k.object k.field); colour = shade s.colour k.loaded })
      shade_marking = record {
        at = h.at;
        is_snapshot = h.is_snapshot;
        since = h.since;
        rule = mark_doing z h.at s.graph (shade s.colour k.loaded) s.looked s.doing
            (mark_shaded z h.at s.graph s.colour s.looked s.doing h.rule k.loaded (h.rule.loaded i k.object k.field k.loaded near k.has_loaded))
            i (Shaded k.object k.field) (λ n f v e. absurd (cc)) shade_at (λ n f v e. absurd (cc));
        begun = begun_shaded h.at k.loaded s.stage h.begun;
      }

    shade_stage : (st : Stage) → IsAtStage z s st → IsAtStage z
        (record s { doing = upd s.doing i (Shaded k.object k.field); colour = cond (is_marking st) (shade s.colour k.loaded) s.colour }) st
    shade_stage Waiting h = h
    shade_stage Marking h = shade_marking h
    shade_stage (Looking n f) h = shade_marking h
    shade_stage Finished h = record { at = h.at; is_snapshot = h.is_snapshot; since = h.since; settled = h.settled }

    pub shade_keeps : Rule z calls s'
    shade_keeps = subst (Rule z calls) (sym k.after) (record {
      leads = rule.leads;
      full = rule.full;
      stacked = rule.stacked;
      nameless = rule.nameless;
      made = rule.made;
      may_be_made = rule.may_be_made;
      in_middle = middle_on (Shaded k.object k.field) aims;
      at_stage = shade_stage s.stage rule.at_stage;
    })
