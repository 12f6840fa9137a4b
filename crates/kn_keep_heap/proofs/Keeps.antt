-- Each step keeps the rule.
use Rattle.std.proofs.Common.{ℕ, ◌<◌, ◌⊎◌, inl, inr, Bool, refl, sym, subst}
use Rattle.kn_base.specs.declared.places.Place.{Place}
use Rattle.kn_base.specs.declared.places.Place.TheVariants.{Phase, State as StateOf, Local, Global, Frame, Side, Body}
use Rattle.kn_graph.specs.Ground.{Ground, IsGoodGround}
use Rattle.kn_rule.specs.declared.steps.Kind.{Kind}
use Rattle.kn_rule.specs.declared.steps.Kind.TheVariants.{K1, K2, K3, K4, K5, K6}
use Rattle.kn_rule.specs.declared.steps.Kind.TheVariants.{K7, K8, K9, K10, K11, K12}
use Rattle.kn_rule.specs.declared.steps.Action.{Action}
use Rattle.kn_rule.specs.declared.steps.Action.TheVariants.{Stores}
use Rattle.kn_rule.specs.Views.{State}
use Rattle.kn_rule.specs.Steps.{Found, does, quietly}
use Rattle.kn_rule.specs.Outcomes.{clear_at, position_of}
use Rattle.kn_rule.specs.Allowed.{MayBe, MayPoll, MayStoreState, MayWrite, MayLoadBody, MaySet, MayReadGlobal, MaySetGlobal, MayBirth}
use Rattle.kn_rule.specs.Allowed.{MayLook, MayClaim, MayGiveBack, MayClear, MayGo, MayStopCollecting}
use Rattle.kn_rule.specs.Moves.{stepped_by, IsPageOfOwned}
use Rattle.kn_rule.specs.Rule.{Rule}
use Rattle.kn_keep_heap.specs.Laws.{IsKept, KeepsRule}
use Rattle.kn_keep_heap.proofs.PollLaws.{polled_kept, state_kept}
use Rattle.kn_keep_heap.proofs.EndLaw.{collector_ended}
use Rattle.kn_keep_heap.proofs.StoreLaws.{local_at, global_stored}
use Rattle.kn_keep_heap.proofs.FieldLaws.{body_at}
use Rattle.kn_keep_heap.proofs.SetLaws.{field_at}
use Rattle.kn_keep_heap.proofs.ReadLaws.{global_at}
use Rattle.kn_keep_heap.proofs.BirthLaw.{born}
use Rattle.kn_keep_heap.proofs.SearchLaws.{looked, claimed_kept}
use Rattle.kn_keep_heap.proofs.HomeLaw.{home_kept}
use Rattle.kn_keep_heap.proofs.FirstWord.{cleared_at_word}

module _ (z : Ground) (good : IsGoodGround z) (s : State) (by : ℕ) (here : ℕ → Bool) (f : Found) (r : Rule z s) where
  abbrev Kept : Kind → Place → Action → Type 0
  Kept = IsKept z s by f

  pub poll_kept : (p : Place) (a : Action) → MayPoll z by (s.caller by) here p a → Kept K1 p a
  unfolding IsKept
  poll_kept p a m =
      subst (λ q. Kept K1 q a) (sym m.place) (subst (λ b. Kept K1 Phase b) (sym m.act)
      (λ h. polled_kept z s by m.thread r.0 r.1 f here h.0 m.next (s.caller by).position refl m.may))

  pub store_kept : (p : Place) (a : Action) → MayStoreState z by (s.caller by) here p a → Kept K2 p a
  unfolding IsKept
  store_kept p a m =
      subst (λ q. Kept K2 q a) (sym m.place) (subst (λ b. Kept K2 (StateOf by) b) (sym m.word)
      (λ h. stored_by m.value m.may))
    where
      stored_by : (n : ℕ) → ((by < z.sizes.threads) × MayGo z by (s.caller by) here (s.caller by).position n)
          ⊎ MayStopCollecting z by (s.caller by) here n →
          Rule z (stepped_by s by (does K2 (StateOf by) (Stores n)) f (quietly (record (s.caller by) { position = position_of n })))
      stored_by n (inl h) = state_kept z s by h.0 r.0 r.1 f here n (s.caller by).position refl h.1
      stored_by n (inr h) =
          subst (λ k. Rule z (stepped_by s by (does K2 (StateOf by) (Stores k)) f (quietly (record (s.caller by) { position = position_of k }))))
          (sym h.value) (collector_ended z s r.0 r.1 by h.collects.collector here f n h)

  pub local_kept : (p : Place) (a : Action) → MayWrite z by (s.caller by) here p a → Kept K3 p a
  unfolding IsKept
  local_kept p a m =
      subst (λ q. Kept K3 q a) (sym m.place) (subst (λ b. Kept K3 (Local by m.local) b) (sym m.word)
      (λ h. local_at z s by m.thread here r.0 r.1 f m.local m.value (s.caller by).position m.may refl))

  pub body_kept : (p : Place) (a : Action) → MayLoadBody z by (s.caller by) here p a → Kept K4 p a
  unfolding IsKept
  body_kept p a m =
      subst (λ q. Kept K4 q a) (sym m.place) (subst (λ b. Kept K4 (Body m.address) b) (sym m.act)
      (λ h. body_at z s by m.thread here r.0 r.1 f m.address (s.caller by).position (s.caller by).header m.may refl refl h.0))

  pub field_kept : (p : Place) (a : Action) → MaySet z by (s.caller by) here p a → Kept K5 p a
  unfolding IsKept
  field_kept p a m =
      subst (λ q. Kept K5 q a) (sym m.place) (subst (λ b. Kept K5 (Body m.address) b) (sym m.word)
      (λ h. field_at z s by m.thread here r.0 r.1 f m.address m.value (s.caller by).position (s.caller by).header m.may refl refl))

  pub global_read_kept : (p : Place) (a : Action) → MayReadGlobal z by (s.caller by) here p a → Kept K6 p a
  unfolding IsKept
  global_read_kept p a m =
      subst (λ q. Kept K6 q a) (sym m.place) (subst (λ b. Kept K6 (Global m.global) b) (sym m.act)
      (λ h. global_at z s by m.thread r.0 r.1 f m.global here (s.caller by).position m.may refl h.0))

  pub global_kept : (p : Place) (a : Action) → MaySetGlobal z by (s.caller by) here p a → Kept K7 p a
  unfolding IsKept
  global_kept p a m =
      subst (λ q. Kept K7 q a) (sym m.place) (subst (λ b. Kept K7 (Global m.global) b) (sym m.word)
      (λ h. global_stored z s by m.thread here r.0 r.1 f m.global m.value (s.caller by).position m.may refl))

  pub birth_kept : (p : Place) (a : Action) → MayBirth z by (s.caller by) here p a → Kept K8 p a
  unfolding IsKept
  birth_kept p a m =
      subst (λ q. Kept K8 q a) (sym m.place) (subst (λ b. Kept K8 (Side m.cell.span.start) b) (sym m.word)
      (λ h. born z good s by m.thread r.0 r.1 f here p a m))

  pub look_kept : (p : Place) (a : Action) → MayLook z by (s.caller by) here p a → Kept K9 p a
  unfolding IsKept
  look_kept p a m =
      subst (λ q. Kept K9 q a) (sym m.place) (subst (λ b. Kept K9 (Frame m.frame) b) (sym m.act)
      (λ h. looked z good s by m.search.thread r.0 r.1 f here m.call m.class m.frame m.search h.0))

  pub claim_kept : (p : Place) (a : Action) → MayClaim z by (s.caller by) here p a → Kept K10 p a
  unfolding IsKept
  claim_kept p a m =
      subst (λ q. Kept K10 q a) (sym m.place) (subst (λ b. Kept K10 (Frame m.frame) b) (sym m.word)
      (λ h. claimed_kept z good s by m.search.thread r.0 r.1 f here m.call m.class m.frame m.search m.old m.fit h.0 h.1))

  pub give_back_kept : (p : Place) (a : Action) → MayGiveBack z by (s.caller by) here p a → Kept K11 p a
  unfolding IsKept
  give_back_kept p a m =
      subst (λ q. Kept K11 q a) (sym m.place) (subst (λ b. Kept K11 (Frame m.frame) b) (sym m.word)
      (λ h. home_kept z s by m.thread r.0 r.1 f m.frame m.hold m.owned m.near m.none_taken
      (subst (λ x. IsPageOfOwned z m.frame x f.page) m.owned h.1) (s.caller by).position refl))

  pub clear_kept : (p : Place) (a : Action) → MayClear z by (s.caller by) here p a → Kept K12 p a
  unfolding IsKept
  clear_kept p a m =
      subst (λ q. Kept K12 q a) (sym m.place) (subst (λ b. Kept K12 (Body m.address) b) (sym m.word)
      (λ h. subst (λ q. Rule z (stepped_by s by (does K12 (Body m.address) (Stores m.value)) f
      (clear_at z by (s.caller by) (Body m.address) (Stores m.value) f q (s.caller by).taken))) (sym m.is_call)
      (cleared_at_word z good s by m.thread r.0 r.1 f here m.call m.address m.value (s.caller by).taken m.is_call refl m.may)))

-- the law of a kind, from what holds of its steps
pub kept_as : (k : Kind) → ((z : Ground) → IsGoodGround z → (s : State) (by : ℕ) (here : ℕ → Bool) (f : Found) →
    Rule z s → (p : Place) (a : Action) →
    MayBe z by (s.caller by) here k p a → IsKept z s by f k p a) → KeepsRule k
unfolding IsKept
kept_as k kept z s by here p a f good r m = kept z good s by here f r p a m
