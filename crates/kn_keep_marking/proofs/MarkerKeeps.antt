-- Each step of a marker keeps the rule.
use Rattle.std.proofs.Common.{◌≡◌, ◌≢◌, ◌⊎◌, inl, inr, ℕ, ◌+◌, ◌<◌, ◌≤◌, Bool, cond, eqb, refl, sym, subst}
use Rattle.std.proofs.lemmas.Bool.Decides.{eqb_tells}
use Rattle.kn_base.specs.declared.places.Place.{Place}
use Rattle.kn_base.specs.declared.places.Place.TheVariants.{Phase, Pending, RootSet, Side, Body}
use Rattle.kn_base.specs.declared.kinds.Code.{Code}
use Rattle.kn_base.specs.declared.kinds.Code.TheVariants as codes
use Rattle.kn_base.specs.Functions.{Tells}
use Rattle.kn_graph.specs.Ground.{Ground, IsGoodGround}
use Rattle.kn_marking.specs.declared.work.Work.{Work}
use Rattle.kn_marking.specs.declared.work.Doing.TheVariants as doings
use Rattle.kn_marking.specs.declared.work.Child.{Child}
use Rattle.kn_marking.specs.declared.work.Child.TheVariants as children
use Rattle.kn_marking.specs.Words.{gray, scanned, black}
use Rattle.kn_marking.specs.Shares.{rested, began}
use Rattle.kn_rule.specs.declared.steps.Kind.{Kind}
use Rattle.kn_rule.specs.declared.steps.Kind.TheVariants.{K17, K18, K19, K20, K21, K22, K23, K24}
use Rattle.kn_rule.specs.declared.steps.Action.{Action}
use Rattle.kn_rule.specs.declared.steps.Action.TheVariants.{Loads, Swaps}
use Rattle.kn_rule.specs.Decoding.{phase_of, header_of}
use Rattle.kn_rule.specs.Views.{State}
use Rattle.kn_rule.specs.Steps.{Found}
use Rattle.kn_rule.specs.MarkedHeap.{cell_limit, set_place}
use Rattle.kn_rule.specs.MarkSteps.{IsMarker, MayMoveSet, MayLoadRoot, MayReserve, MayMoveMark, MayGiveUnit, MayTakeGray, MayLoadCell, MayBlacken}
use Rattle.kn_rule.specs.MarkSteps.{mark_loaded, child_after}
use Rattle.kn_rule.specs.Allowed.{MayBe}
use Rattle.kn_rule.specs.Rule.{Rule}
use Rattle.kn_keep_heap.specs.Laws.{IsKept}
use Rattle.kn_keep_mark.specs.Laws.{IsOfMarker}
use Rattle.kn_keep_marking.proofs.SetLaws.{Worked, unmoved, set_seen, set_claimed, set_ended, root_loaded, unit_reserved, unit_returned}
use Rattle.kn_keep_marking.proofs.CellLaws.{child_loaded, child_grayed, reserved_out, gray_scanned, gray_rested, header_loaded, field_loaded}
use Rattle.kn_keep_marking.proofs.CellLaws.{cell_blackened, cell_out}

-- a phase is Mark, or another one
pub mark_or_not : (c : Code) → (c ≡ codes.Mark) ⊎ (c ≢ codes.Mark)
mark_or_not codes.Mark = inl refl
mark_or_not codes.Idle = inr (λ e. cc)
mark_or_not codes.StopA = inr (λ e. cc)
mark_or_not codes.Weak = inr (λ e. cc)
mark_or_not codes.StopB = inr (λ e. cc)
mark_or_not codes.Prep = inr (λ e. cc)
mark_or_not codes.Sweep = inr (λ e. cc)

module _ (z : Ground) (good : IsGoodGround z) (s : State) (by : ℕ) (here : ℕ → Bool) (f : Found) (r : Rule z s) where
  abbrev Kept : Kind → Place → Action → Type 0
  Kept = IsKept z s by f

  abbrev w : Work
  w = (s.caller by).work

  by_phase : ((phase_of (s.word Phase)).code ≡ codes.Mark) ⊎ ((phase_of (s.word Phase)).code ≢ codes.Mark)
  by_phase = mark_or_not (phase_of (s.word Phase)).code

  set_kept : (p : Place) (a : Action) → MayMoveSet z by (s.caller by) p a → Kept K17 p a
  unfolding IsKept Worked
  set_kept p a (inl m) =
      subst (λ q. Kept K17 q a) (sym m.place) (subst (λ b. Kept K17 (RootSet m.set) b) (sym m.act)
      (λ h. (r.0, set_seen z good s r.0 r.1 by m.marker m.set f.word m.near h.0)))
  set_kept p a (inr (inl m)) =
      subst (λ q. Kept K17 q a) (sym m.place) (subst (λ b. Kept K17 (RootSet m.set) b) (sym m.act)
      (λ h. (r.0, set_claimed z good s r.0 r.1 by m.marker m.set m.old f.word m.due m.free h.0)))
  set_kept p a (inr (inr m)) =
      subst (λ q. Kept K17 q a) (sym m.place) (subst (λ b. Kept K17 (RootSet m.set) b) (sym m.act)
      (λ h. (r.0, set_ended z good s r.0 r.1 by m.marker m.set m.word m.claims m.whole m.none m.paid)))

  root_kept : (p : Place) (a : Action) → MayLoadRoot z by (s.caller by) p a → Kept K18 p a
  unfolding IsKept Worked
  root_kept p a m =
      subst (λ q. Kept K18 q a) (sym m.place) (subst (λ b. Kept K18 (set_place z.sizes m.set m.word) b) (sym m.act)
      (λ h. (r.0, root_loaded z good s r.0 r.1 by m.marker m.set m.word f.word m.claims m.near m.none h.0)))

  reserve_kept : (p : Place) (a : Action) → MayReserve z by (s.caller by) p a → Kept K19 p a
  unfolding IsKept Worked
  reserve_kept p a m =
      subst (λ q. Kept K19 q a) (sym m.place) (subst (λ b. Kept K19 Pending b) (sym m.act)
      (λ h. (r.0, unit_reserved z good s r.0 r.1 by m.marker m.child m.mark f.word m.is_seen m.paid h.0)))

  -- a mark was loaded: that of the child, or of another object
  module _ (marker : IsMarker z by (s.caller by)) (x : ℕ) (found : s.word (Side x) ≡ f.word) where
    abbrev Then : Work → Type 0
    Then = Worked z good s r.0 r.1 by marker (Side x) f.word

    met_at : (y : ℕ) → w.child ≡ children.Met y → Tells y x → Then (child_after z w f.word (children.Met y) x Loads)
    met_at y is (inl t) =
        subst (λ b. Then (cond b (mark_loaded z w f.word y) w)) (sym t.0)
        (child_loaded_at y is t.1)
      where
        child_loaded_at : (y : ℕ) → w.child ≡ children.Met y → y ≡ x → Then (mark_loaded z w f.word y)
        child_loaded_at y is e =
            subst (λ k. Then (mark_loaded z w f.word k)) (sym e)
            (child_loaded z good s r.0 r.1 by marker x f.word (subst (λ k. w.child ≡ children.Met k) e is) found)
    met_at y is (inr t) =
        subst (λ b. Then (cond b (mark_loaded z w f.word y) w)) (sym t.0) (unmoved z good s r.0 r.1 by marker (Side x) f.word found)

    looked_at : (c : Child) → w.child ≡ c → Then (child_after z w f.word c x Loads)
    looked_at children.NoChild is = unmoved z good s r.0 r.1 by marker (Side x) f.word found
    looked_at (children.Met y) is = met_at y is (eqb_tells y x)
    looked_at (children.Seen y v) is = unmoved z good s r.0 r.1 by marker (Side x) f.word found
    looked_at (children.Reserved y v) is = unmoved z good s r.0 r.1 by marker (Side x) f.word found

  grayed : (marker : IsMarker z by (s.caller by)) (y old : ℕ) → w.child ≡ children.Reserved y old → s.word (Side y) ≡ f.word →
      ((phase_of (s.word Phase)).code ≡ codes.Mark) ⊎ ((phase_of (s.word Phase)).code ≢ codes.Mark) →
      Worked z good s r.0 r.1 by marker (Side y) (cond (eqb f.word old) (gray w.epoch) f.word) (child_after z w f.word w.child y
      (Swaps old (gray w.epoch)))
  grayed marker y old is found (inl e) = child_grayed z good s r.0 r.1 by marker y old f.word is found e
  grayed marker y old is found (inr out) = reserved_out z good s r.0 r.1 by marker y old f.word is found out

  mark_kept : (p : Place) (a : Action) → MayMoveMark z by (s.caller by) p a → Kept K20 p a
  unfolding IsKept Worked
  mark_kept p a (inl m) =
      subst (λ q. Kept K20 q a) (sym m.place) (subst (λ b. Kept K20 (Side m.child) b) (sym m.act)
      (λ h. (r.0, looked_at m.marker m.child h.0 w.child refl)))
  mark_kept p a (inr (inl m)) =
      subst (λ q. Kept K20 q a) (sym m.place) (subst (λ b. Kept K20 (Side m.object) b) (sym m.act)
      (λ h. (r.0, looked_at m.marker m.object h.0 w.child refl)))
  mark_kept p a (inr (inr m)) =
      subst (λ q. Kept K20 q a) (sym m.place) (subst (λ b. Kept K20 (Side m.child) b) (sym m.act)
      (λ h. (r.0, grayed m.marker m.child m.old m.is_reserved h.0 by_phase)))

  unit_kept : (p : Place) (a : Action) → MayGiveUnit z by (s.caller by) p a → Kept K21 p a
  unfolding IsKept Worked
  unit_kept p a m =
      subst (λ q. Kept K21 q a) (sym m.place) (subst (λ b. Kept K21 Pending b) (sym m.act)
      (λ h. (r.0, unit_returned z good s r.0 r.1 by m.marker f.word m.owes h.0)))

  taken_up : (marker : IsMarker z by (s.caller by)) (x : ℕ) → x < cell_limit z.sizes → w.doing ≡ doings.Free → s.word (Side x) ≡ f.word →
      ((phase_of (s.word Phase)).code ≡ codes.Mark) ⊎ ((phase_of (s.word Phase)).code ≢ codes.Mark) →
      Worked z good s r.0 r.1 by marker (Side x) (cond (eqb f.word (gray w.epoch)) (scanned w.epoch) f.word)
      (cond (eqb f.word (gray w.epoch)) (began w x) w)
  taken_up marker x near free found (inl e) = gray_scanned z good s r.0 r.1 by marker x f.word near free found e
  taken_up marker x near free found (inr out) = gray_rested z good s r.0 r.1 by marker x f.word near free found out

  gray_kept : (p : Place) (a : Action) → MayTakeGray z by (s.caller by) p a → Kept K22 p a
  unfolding IsKept Worked
  gray_kept p a m =
      subst (λ q. Kept K22 q a) (sym m.place) (subst (λ b. Kept K22 (Side m.object) b) (sym m.act)
      (λ h. (r.0, taken_up m.marker m.object m.near m.free h.0 by_phase)))

  cell_kept : (p : Place) (a : Action) → MayLoadCell z by (s.caller by) p a → Kept K23 p a
  unfolding IsKept Worked
  cell_kept p a (inl m) =
      subst (λ q. Kept K23 q a) (sym m.place) (subst (λ b. Kept K23 (Body m.object) b) (sym m.act)
      (λ h. (r.0, header_loaded z good s r.0 r.1 by m.marker m.object f.word m.scans h.0)))
  cell_kept p a (inr m) =
      subst (λ q. Kept K23 q a) (sym m.place) (subst (λ b. Kept K23 (Body (m.object + 1 + m.field)) b) (sym m.act)
      (λ h. (r.0, field_loaded z good s r.0 r.1 by m.marker m.object m.header m.field f.word m.scans m.of_ref m.none h.0)))

  blackened : (marker : IsMarker z by (s.caller by)) (x hd i : ℕ) → w.doing ≡ doings.Cell x hd i → (header_of hd).length ≤ i →
      w.child ≡ children.NoChild → w.owed ≡ 0 → ((phase_of (s.word Phase)).code ≡ codes.Mark) ⊎ ((phase_of (s.word Phase)).code ≢ codes.Mark) →
      Worked z good s r.0 r.1 by marker (Side x) (black w.epoch) (rested w)
  blackened marker x hd i is whole none paid (inl e) = cell_blackened z good s r.0 r.1 by marker x hd i is whole none paid e
  blackened marker x hd i is whole none paid (inr out) = cell_out z good s r.0 r.1 by marker x hd i is out

  black_kept : (p : Place) (a : Action) → MayBlacken z by (s.caller by) p a → Kept K24 p a
  unfolding IsKept Worked
  black_kept p a m =
      subst (λ q. Kept K24 q a) (sym m.place) (subst (λ b. Kept K24 (Side m.object) b) (sym m.act)
      (λ h. (r.0, blackened m.marker m.object m.header m.field m.scans m.whole m.none m.paid by_phase)))

  pub marker_kept : (k : Kind) → IsOfMarker k → (p : Place) (a : Action) → MayBe z by (s.caller by) here k p a → Kept k p a
  marker_kept K17 t = set_kept
  marker_kept K18 t = root_kept
  marker_kept K19 t = reserve_kept
  marker_kept K20 t = mark_kept
  marker_kept K21 t = unit_kept
  marker_kept K22 t = gray_kept
  marker_kept K23 t = cell_kept
  marker_kept K24 t = black_kept
  marker_kept _ t = absurd t
