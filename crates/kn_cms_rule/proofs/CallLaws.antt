-- The laws of calls that are answered: each keeps the rule.
use Rattle.std.proofs.Common.{◌≡◌, ℕ, ◌<◌, ◌↔◌, inr, true, Option, Some, List, ◌∷◌}
use Rattle.std.proofs.Common.{refl, sym, subst, ◌∙◌, arith}
use Rattle.std.specs.Option.{IfSome}
use Rattle.kn_base.specs.Functions.{upd}
use Rattle.kn_base.proofs.Updates.{upd_case}
use Rattle.kn_graph.specs.declared.calls.Call.{Call}
use Rattle.kn_graph.specs.declared.calls.Call.TheVariants as call
use Rattle.kn_graph.specs.declared.calls.Reply.{Reply}
use Rattle.kn_graph.specs.declared.calls.Reply.TheVariants as replies
use Rattle.kn_graph.specs.declared.entries.Event.TheVariants as events
use Rattle.kn_graph.specs.Ground.{Ground}
use Rattle.kn_graph.specs.Graph.{Graph, pointers, with_points, with_entered}
use Rattle.kn_graph.specs.Reachable.{IsReachable}
use Rattle.kn_graph.specs.Answers.{AnswersNew, MayAnswer}
use Rattle.kn_graph.proofs.Parts.{object_written}
use Rattle.kn_cms_rule.specs.declared.stages.Doing.TheVariants.{Free}
use Rattle.kn_cms_rule.specs.declared.stages.Stage.{Stage}
use Rattle.kn_cms_rule.specs.declared.stages.Stage.TheVariants.{Waiting, Marking, Looking, Finished}
use Rattle.kn_cms_rule.specs.Words.{one_framed, HasNoRoom}
use Rattle.kn_cms_rule.specs.Calls.{Birth, ChangesHeld, IsFullExactly, birth_of, is_whole}
use Rattle.kn_cms_rule.specs.Calls as held
use Rattle.kn_cms_rule.specs.State.{State}
use Rattle.kn_cms_rule.specs.Steps.{Answers, Fills, Refuses, Stores, answered}
use Rattle.kn_cms_rule.specs.MarkRule.{MarkRule, FieldsKept, IsFieldKept}
use Rattle.kn_cms_rule.specs.Rule.{Rule, HoldsNoNames, IsInMarking, IsMarked, IsAtStage}
use Rattle.kn_cms_rule.proofs.Called.{leads_on, full_on, made_on, may_be_made_on, in_middle_on, since_on, held_on, succeeds, none, epochs}
use Rattle.kn_cms_rule.proofs.Histories.{true_not_false, must_not, at_reached}
use Rattle.kn_cms_rule.proofs.Made.{whole_changes, whole_allowed, refused_allowed, stored_allowed}
use Rattle.kn_cms_rule.proofs.Marks.{mark_doing, mark_written}
use Rattle.kn_cms_rule.proofs.Stacked.{still_stacked}

-- what changes no more than what is held leaves the objects and the names
pub quiet_parts : (i : ℕ) (g g' : Graph) → ChangesHeld i g g' → HoldsNoNames g.stable g.back →
    (g'.born ≡ g.born) × (◌≡◌ {A = ℕ → ℕ → Option ℕ} (pointers g') (pointers g)) × HoldsNoNames g'.stable g'.back
quiet_parts i g g' held.nothing h = (refl, refl, h)
quiet_parts i g g' (held.of_local r x) h = (refl, refl, h)
quiet_parts i g g' (held.of_global k x) h = (refl, refl, h)

-- a whole call is no birth
whole_no_birth : (z : Ground) (g : Graph) (c : Call) (reply : Reply) → is_whole c ≡ true → IsFullExactly z g (events.Call c reply 0)
whole_no_birth z g (call.Copy r s) reply w = tt
whole_no_birth z g (call.Clear r) reply w = tt
whole_no_birth z g (call.Same r s) reply w = tt
whole_no_birth z g (call.Get r s f) reply w = tt
whole_no_birth z g (call.GlobalSet i r) reply w = tt
whole_no_birth z g (call.GlobalGet r i) reply w = tt
whole_no_birth z g _ reply w = absurd (cc)

-- the model allows what it allows of a birth
pub birth_allowed : (z : Ground) (i : ℕ) (c : Call) (b : Birth) → birth_of z c ≡ Some b → (g : Graph) (reply : Reply) (address : ℕ) (g' : Graph) →
    AnswersNew z i b.local b.layout b.fields g reply address g' → MayAnswer z i c g reply address g'
birth_allowed z i (call.New r layout) b e g reply address g' a =
    let same : ◌≡◌ {A = Birth} b _ = let f : Some _ ≡ Some b = e in sym (cc) in
    subst (λ (x : Birth). AnswersNew z i x.local x.layout x.fields g reply address g') same a
birth_allowed z i (call.NewArray r layout n) b e g reply address g' a =
    let same : ◌≡◌ {A = Birth} b _ = let f : Some _ ≡ Some b = e in sym (cc) in
    subst (λ (x : Birth). AnswersNew z i x.local x.layout x.fields g reply address g') same a
birth_allowed z i _ b e g reply address g' a = absurd (cc)

-- a call that makes no object
module _ (base : Ground) (calls : ℕ → List Call) (s : State) (rule : Rule (one_framed base) calls s) (i : ℕ) (near : i < base.sizes.threads)
    (c : Call) (rest : List Call) (is_left : s.left i ≡ c ∷ rest) (reply : Reply) (address : ℕ) (g' : Graph)
    (may : MayAnswer (one_framed base) i c s.graph reply address g')
    (last : IsFullExactly (one_framed base) s.graph (events.Call c reply address))
    (same : g'.born ≡ s.graph.born) (nameless : HoldsNoNames g'.stable g'.back)
    (fields : (at : Graph) → ((n : ℕ) → IsReachable at n → n < at.born) → MarkRule (one_framed base) at s.graph s.colour s.looked s.doing →
    FieldsKept at (pointers g') s.colour s.looked) where
  in_marking : IsInMarking (one_framed base) s → IsInMarking (one_framed base) (answered s i rest c reply address g')
  in_marking h =
      let z = one_framed base in let more = (succeeds z calls s rule i near c rest is_left reply address g' may).born in record {
        at = h.at;
        is_snapshot = h.is_snapshot;
        since = since_on z calls s rule i near c rest is_left reply address g' may h.at h.since;
        rule = mark_doing z h.at (with_entered g' i s.graph.paused) s.colour s.looked s.doing
            (mark_written z h.at s.graph s.colour s.looked s.doing h.rule (with_entered g' i s.graph.paused) more
            (held_on z calls s rule i near c rest is_left reply address g' may h.at h.since) same (fields h.at
            (at_reached z s.graph s.history h.at h.since) h.rule))
            i Free (λ n f v e. absurd (cc)) (λ n f e. absurd (cc)) (λ n f v e. absurd (cc));
        begun = h.begun;
      }

  marked : IsMarked (one_framed base) s → IsMarked (one_framed base) (answered s i rest c reply address g')
  marked h = let z = one_framed base in record {
    at = h.at;
    is_snapshot = h.is_snapshot;
    since = since_on z calls s rule i near c rest is_left reply address g' may h.at h.since;
    settled = λ n less. let old : n < s.graph.born = omega (arith, less, same) in (
      λ e. ((succeeds z calls s rule i near c rest is_left reply address g' may).objects n old).condemned ((h.settled n old).0 e),
      λ e. (h.settled n old).1 (none z calls s rule i near c rest is_left reply address g' may n less e).1,
    );
  }

  at_on : (st : Stage) → IsAtStage (one_framed base) s st → IsAtStage (one_framed base) (answered s i rest c reply address g') st
  at_on Waiting h = let z = one_framed base in let e = epochs z calls s rule i near c rest is_left reply address g' may in record {
    no_snapshot = h.no_snapshot;
    paused = e.0 ∙ h.paused;
    done = e.1 ∙ h.done;
    alive = λ n less. must_not (g'.object n).condemned (λ d.
        let p = none z calls s rule i near c rest is_left reply address g' may n less d in true_not_false (s.graph.object n).condemned p.1 (h.alive n p.0));
    white = h.white;
    unread = h.unread;
  }
  at_on Marking h = in_marking h
  at_on (Looking n f) h = in_marking h
  at_on Finished h = marked h

  pub answered_keeps : Rule (one_framed base) calls (answered s i rest c reply address g')
  answered_keeps = let z = one_framed base in record {
    leads = leads_on z calls s rule i near c rest is_left reply address g' may;
    full = full_on z calls s rule i near c rest is_left reply address g' may last;
    stacked = still_stacked base s.graph rule.stacked (with_entered g' i s.graph.paused)
        (succeeds z calls s rule i near c rest is_left reply address g' may) same;
    nameless = nameless;
    made = made_on z calls s rule i near c rest is_left reply address g' may;
    may_be_made = may_be_made_on z calls s rule i near c rest is_left reply address g' may;
    in_middle = in_middle_on z calls s rule i near c rest is_left reply address g' may;
    at_stage = at_on s.stage rule.at_stage;
  }

module _ (base : Ground) (calls : ℕ → List Call) (s s' : State) (i : ℕ) (near : i < base.sizes.threads) (rule : Rule (one_framed base) calls s) where
  same_fields : (g' : Graph) → ◌≡◌ {A = ℕ → ℕ → Option ℕ} (pointers g') (pointers s.graph) → (at : Graph) →
      ((n : ℕ) → IsReachable at n → n < at.born) → MarkRule (one_framed base) at s.graph s.colour s.looked s.doing →
      FieldsKept at (pointers g') s.colour s.looked
  same_fields g' e at reach r = subst (λ (p : ℕ → ℕ → Option ℕ). FieldsKept at p s.colour s.looked) (sym e) r.fields

  pub fill_keeps : Fills (one_framed base) s i s' → Rule (one_framed base) calls s'
  fill_keeps k =
      let z = one_framed base in
      subst (Rule z calls) (sym k.after) (answered_keeps base calls s rule i near k.call k.rest k.next.is_left replies.Full 0 s.graph
      (birth_allowed z i k.call k.birth k.asks s.graph replies.Full 0 s.graph (inr (record { reply_is = refl; nowhere = refl; after = refl })))
      (subst (λ o. IfSome o (λ (b : Birth). (true ≡ true) ↔ HasNoRoom z s.graph b.fields)) (sym k.asks) (λ _. k.room, λ _. refl))
      refl rule.nameless (same_fields s.graph refl))

  pub answer_keeps : Answers (one_framed base) s i s' → Rule (one_framed base) calls s'
  answer_keeps k =
      let z = one_framed base in
      let q = quiet_parts i s.graph k.given.after (whole_changes z i s.graph k.call k.given k.whole k.is_answer) rule.nameless in
      subst (Rule z calls) (sym k.after) (answered_keeps base calls s rule i near k.call k.rest k.next.is_left k.given.reply 0 k.given.after
      (whole_allowed z i s.graph k.call k.given k.whole k.is_answer) (whole_no_birth z s.graph k.call k.given.reply k.whole)
      q.0 q.2 (same_fields k.given.after q.1))

  pub refusal_keeps : Refuses (one_framed base) s i s' → Rule (one_framed base) calls s'
  refusal_keeps k =
      let z = one_framed base in
      subst (Rule z calls) (sym k.after) (answered_keeps base calls s rule i near
      (call.Set k.local k.field k.value) k.rest k.next.is_left k.given.reply 0 s.graph
      (refused_allowed z i s.graph k.local k.field k.value k.given k.is_answer k.not_stored) tt refl rule.nameless (same_fields s.graph refl))

  -- a store
  module _ (k : Stores (one_framed base) s i s') where
    points_are : ◌≡◌ {A = ℕ → ℕ → Option ℕ}
        (pointers (with_points s.graph k.object k.field (s.graph.local i k.aims.value)))
        (upd (pointers s.graph) k.object (upd (s.graph.object k.object).points k.field (s.graph.local i k.aims.value)))
    points_are = (object_written s.graph k.object (record (s.graph.object k.object)
        { points = upd (s.graph.object k.object).points k.field (s.graph.local i k.aims.value) })).pointers_are

    stored_fields : (at : Graph) → ((n : ℕ) → IsReachable at n → n < at.born) → MarkRule (one_framed base) at s.graph s.colour s.looked s.doing →
        FieldsKept at (pointers (with_points s.graph k.object k.field (s.graph.local i k.aims.value))) s.colour s.looked
    stored_fields at reach r = subst (λ (p : ℕ → ℕ → Option ℕ). FieldsKept at p s.colour s.looked) (sym points_are) (λ n f q.
        upd_case (λ m (p : ℕ → Option ℕ). IsReachable at m → IsFieldKept s.colour (pointers at m f) (p f) (s.looked m f))
        (pointers s.graph) k.object (upd (s.graph.object k.object).points k.field (s.graph.local i k.aims.value))
        (λ q. upd_case (λ e (x : Option ℕ). IsFieldKept s.colour (pointers at k.object e) x (s.looked k.object e))
        (s.graph.object k.object).points k.field (s.graph.local i k.aims.value)
        (inr (r.shades i k.object k.field near k.has_shaded (reach k.object q))) f (λ _. r.fields k.object f q)) n (λ _ q. r.fields n f q) q)

    pub store_keeps : Rule (one_framed base) calls s'
    store_keeps =
        let z = one_framed base in
        subst (Rule z calls) (sym k.after) (answered_keeps base calls s rule i near (call.Set k.aims.local k.field k.aims.value) k.aims.rest k.aims.is_left
        replies.Ok 0 (with_points s.graph k.object k.field (s.graph.local i k.aims.value))
        (stored_allowed z i s.graph k.aims.local k.field k.aims.value k.object k.aims.holds k.aims.kind) tt refl rule.nameless stored_fields)
