-- What is left to show of each kind of step.
use Rattle.std.proofs.Common.{◌≡◌, ℕ, ◌+◌, ◌*◌, ◌<◌, Bool, true, false, cond, eqb, List, Option, Some, inl, inr, refl, sym, ap}
use Rattle.std.proofs.Common.{◌∙◌, subst}
use Rattle.std.proofs.Common.{slice_get}
use Rattle.kn_base.specs.declared.places.Place.{Place}
use Rattle.kn_base.specs.declared.places.Place.TheVariants.{Phase, Want, Pending, RootSet, State as StateOf, Local, Global, Node, Frame, Side, Body}
use Rattle.kn_base.proofs.Updates.{upd_same}
use Rattle.kn_graph.specs.Ground.{Ground}
use Rattle.kn_rule.specs.declared.steps.Kind.{Kind}
use Rattle.kn_rule.specs.declared.steps.Kind.TheVariants.{K1, K2, K3, K4, K5, K6}
use Rattle.kn_rule.specs.declared.steps.Kind.TheVariants.{K7, K8, K9, K13, K14, K15, K16}
use Rattle.kn_rule.specs.declared.steps.Kind.TheVariants.{K17, K18, K19, K20, K21, K22, K23, K24}
use Rattle.kn_rule.specs.declared.steps.Action.{Action}
use Rattle.kn_rule.specs.declared.steps.Action.TheVariants.{Loads, LoadsFor, Stores, Raises}
use Rattle.kn_rule.specs.Decoding.{frame_of}
use Rattle.kn_rule.specs.Places.{put}
use Rattle.kn_rule.specs.Views.{View, State, Open, flattened}
use Rattle.kn_rule.specs.Steps.{Found, callers, epoch_in}
use Rattle.kn_rule.specs.Allowed.{MayPoll, MayStoreState, MayWrite, MayLoadBody, MaySet, MayReadGlobal, MaySetGlobal, MayBirth, MayLook}
use Rattle.kn_rule.specs.Allowed.{MayWant, MayStorePhase, MayLoadState, MayCount}
use Rattle.kn_rule.specs.MarkedHeap.{name_in_set, set_place}
use Rattle.kn_rule.specs.MarkSteps.{MayMoveSet, MayLoadRoot, MayReserve, MayMoveMark, MayGiveUnit, MayTakeGray, MayLoadCell, MayBlacken}
use Rattle.kn_board.specs.World.{World, slot_at, view_at, IsSlotOf, StandsFor, lies_at}
use Rattle.kn_board.proofs.OwnedKept.{poll_keeps, write_keeps, load_keeps, store_keeps, global_keeps, born_keeps, look_keeps, want_keeps}
use Rattle.kn_board.proofs.Sounds.{Fits}

module _ (w : World) (s : State) (h : StandsFor w s) (by : ℕ) (less : by < callers w.heap.sizes) (f : Found) where
  abbrev z : Ground
  z = w.heap

  abbrev x : View
  x = view_at w by

  abbrev here : ℕ → Bool
  here = lies_at w

  abbrev FitsAt : Kind → Place → Action → Type 0
  FitsAt k p a = Fits w s by f k p a

  -- what the caller owns stays
  same_hands : (l : List (Option Open)) → l ≡ x.owned → (j : ℕ) (o : Open) → flattened (slice_get l j) ≡ Some o →
      IsSlotOf z.sizes j o (slot_at w j)
  same_hands l e j o has = h.in_hands by j o less (ap (λ m. flattened (slice_get m j)) (sym e) ∙ has)

  pub poll_fits : (p : Place) (a : Action) → MayPoll z by x here p a → FitsAt K1 p a
  poll_fits p a m =
      subst (λ q. FitsAt K1 q a) (sym m.place) (subst (λ b. FitsAt K1 Phase b) (sym m.act) (record {
        takes = tt;
        pages = h.pages_are;
        hands = same_hands _ (poll_keeps z by x Phase (LoadsFor m.next) f x.position _ _);
      }))

  pub state_fits : (p : Place) (a : Action) → MayStoreState z by x here p a → FitsAt K2 p a
  state_fits p a m =
      subst (λ q. FitsAt K2 q a) (sym m.place) (subst (λ b. FitsAt K2 (StateOf by) b) (sym m.word)
      (record { takes = tt; pages = h.pages_are; hands = same_hands _ refl }))

  pub local_fits : (p : Place) (a : Action) → MayWrite z by x here p a → FitsAt K3 p a
  local_fits p a m =
      subst (λ q. FitsAt K3 q a) (sym m.place) (subst (λ b. FitsAt K3 (Local by m.local) b) (sym m.word)
      (record { takes = tt; pages = h.pages_are; hands = same_hands _ (write_keeps z by x (Local by m.local) (Stores m.value) f x.position) }))

  pub body_fits : (p : Place) (a : Action) → MayLoadBody z by x here p a → FitsAt K4 p a
  body_fits p a m =
      subst (λ q. FitsAt K4 q a) (sym m.place) (subst (λ b. FitsAt K4 (Body m.address) b) (sym m.act)
      (record { takes = tt; pages = h.pages_are; hands = same_hands _ (load_keeps z by x (Body m.address) Loads f x.position x.header) }))

  pub field_fits : (p : Place) (a : Action) → MaySet z by x here p a → FitsAt K5 p a
  field_fits p a m =
      subst (λ q. FitsAt K5 q a) (sym m.place) (subst (λ b. FitsAt K5 (Body m.address) b) (sym m.word)
      (record { takes = tt; pages = h.pages_are; hands = same_hands _ (store_keeps z by x (Body m.address) (Stores m.value) f x.position) }))

  pub global_read_fits : (p : Place) (a : Action) → MayReadGlobal z by x here p a → FitsAt K6 p a
  global_read_fits p a m =
      subst (λ q. FitsAt K6 q a) (sym m.place) (subst (λ b. FitsAt K6 (Global m.global) b) (sym m.act)
      (record { takes = tt; pages = h.pages_are; hands = same_hands _ (global_keeps z by x (Global m.global) Loads f x.position) }))

  pub global_fits : (p : Place) (a : Action) → MaySetGlobal z by x here p a → FitsAt K7 p a
  global_fits p a m =
      subst (λ q. FitsAt K7 q a) (sym m.place) (subst (λ b. FitsAt K7 (Global m.global) b) (sym m.word)
      (record { takes = tt; pages = h.pages_are; hands = same_hands _ (store_keeps z by x (Global m.global) (Stores m.value) f x.position) }))

  pub birth_fits : (p : Place) (a : Action) → MayBirth z by x here p a → FitsAt K8 p a
  birth_fits p a m =
      subst (λ q. FitsAt K8 q a) (sym m.place) (subst (λ b. FitsAt K8 (Side m.cell.span.start) b) (sym m.word)
      (record {
        takes = tt;
        pages = h.pages_are;
        hands = same_hands _ (born_keeps z by x (Side m.cell.span.start) (Stores (4 * epoch_in x + 3)) f x.position);
      }))

  -- a frame's word that is stored as it was found
  pub same_frame : (k j : ℕ) → s.word (Frame k) ≡ f.word → put s.word (Frame k) f.word (Frame j) ≡ s.word (Frame j)
  same_frame k j e = ap (λ (g : ℕ → ℕ). g j) (upd_same (λ i. s.word (Frame i)) k f.word (sym e))

  pub look_fits : (p : Place) (a : Action) → MayLook z by x here p a → s.word p ≡ f.word → FitsAt K9 p a
  look_fits p a m =
      subst (λ q. s.word q ≡ f.word → FitsAt K9 q a) (sym m.place) (subst (λ b. s.word (Frame m.frame) ≡ f.word → FitsAt K9 (Frame m.frame) b)
      (sym m.act) (λ is. record {
        takes = tt;
        pages = λ j l ne. h.pages_are j l (λ e. ne (ap (λ v. (frame_of v).kind) (same_frame m.frame j is) ∙ e));
        hands = same_hands _ (look_keeps z by x (Frame m.frame) Loads f x.position);
      }))

  pub want_fits : (p : Place) (a : Action) → MayWant z by x here p a → FitsAt K13 p a
  want_fits p a (inl m) =
      subst (λ q. FitsAt K13 q a) (sym m.place) (subst (λ b. FitsAt K13 Want b) (sym m.act)
      (record { takes = tt; pages = h.pages_are; hands = same_hands _ (want_keeps z by x Want (Raises (epoch_in x + 1)) f x.position) }))
  want_fits p a (inr m) =
      subst (λ q. FitsAt K13 q a) (sym m.place) (subst (λ b. FitsAt K13 Want b) (sym m.act)
      (record { takes = tt; pages = h.pages_are; hands = same_hands _ (want_keeps z by x Want Loads f x.position) }))

  pub phase_fits : (p : Place) (a : Action) → MayStorePhase z by x here p a → FitsAt K14 p a
  phase_fits p a m =
      subst (λ q. FitsAt K14 q a) (sym m.place) (subst (λ b. FitsAt K14 Phase b) (sym m.act)
      (record { takes = tt; pages = h.pages_are; hands = same_hands _ refl }))

  pub load_state_fits : (p : Place) (a : Action) → MayLoadState z by x here p a → FitsAt K15 p a
  load_state_fits p a m =
      subst (λ q. FitsAt K15 q a) (sym m.place) (subst (λ b. FitsAt K15 (StateOf m.mutator) b) (sym m.act)
      (record { takes = tt; pages = h.pages_are; hands = same_hands _ refl }))

  pub count_fits : (p : Place) (a : Action) → MayCount z by x here p a → FitsAt K16 p a
  count_fits p a (inl m) =
      subst (λ q. FitsAt K16 q a) (sym m.place) (subst (λ b. FitsAt K16 Pending b) (sym m.act)
      (record { takes = tt; pages = h.pages_are; hands = same_hands _ refl }))
  count_fits p a (inr m) =
      subst (λ q. FitsAt K16 q a) (sym m.place) (subst (λ b. FitsAt K16 Pending b) (sym m.act)
      (record { takes = tt; pages = h.pages_are; hands = same_hands _ refl }))

  -- no step of a marker changes a frame
  pub set_fits : (p : Place) (a : Action) → MayMoveSet z by x p a → FitsAt K17 p a
  set_fits p a (inl m) =
      subst (λ q. FitsAt K17 q a) (sym m.place) (subst (λ b. FitsAt K17 (RootSet m.set) b) (sym m.act)
      (record { takes = tt; pages = h.pages_are; hands = same_hands _ refl }))
  set_fits p a (inr (inl m)) =
      subst (λ q. FitsAt K17 q a) (sym m.place) (subst (λ b. FitsAt K17 (RootSet m.set) b) (sym m.act)
      (record { takes = tt; pages = h.pages_are; hands = same_hands _ refl }))
  set_fits p a (inr (inr m)) =
      subst (λ q. FitsAt K17 q a) (sym m.place) (subst (λ b. FitsAt K17 (RootSet m.set) b) (sym m.act)
      (record { takes = tt; pages = h.pages_are; hands = same_hands _ refl }))

  root_fits : (b c : Bool) (set word : ℕ) →
      FitsAt K18 (cond b (Global word) (cond c (Node (name_in_set z.sizes word)) (Local set word))) Loads
  root_fits true c set word = record { takes = tt; pages = h.pages_are; hands = same_hands _ refl }
  root_fits false true set word = record { takes = tt; pages = h.pages_are; hands = same_hands _ refl }
  root_fits false false set word = record { takes = tt; pages = h.pages_are; hands = same_hands _ refl }

  pub root_read_fits : (p : Place) (a : Action) → MayLoadRoot z by x p a → FitsAt K18 p a
  root_read_fits p a m =
      subst (λ q. FitsAt K18 q a) (sym m.place) (subst (λ b. FitsAt K18 (set_place z.sizes m.set m.word) b) (sym m.act)
      (root_fits (eqb m.set z.sizes.threads) (eqb m.set (z.sizes.threads + 1)) m.set m.word))

  pub reserve_fits : (p : Place) (a : Action) → MayReserve z by x p a → FitsAt K19 p a
  reserve_fits p a m =
      subst (λ q. FitsAt K19 q a) (sym m.place) (subst (λ b. FitsAt K19 Pending b) (sym m.act)
      (record { takes = tt; pages = h.pages_are; hands = same_hands _ refl }))

  pub mark_fits : (p : Place) (a : Action) → MayMoveMark z by x p a → FitsAt K20 p a
  mark_fits p a (inl m) =
      subst (λ q. FitsAt K20 q a) (sym m.place) (subst (λ b. FitsAt K20 (Side m.child) b) (sym m.act)
      (record { takes = tt; pages = h.pages_are; hands = same_hands _ refl }))
  mark_fits p a (inr (inl m)) =
      subst (λ q. FitsAt K20 q a) (sym m.place) (subst (λ b. FitsAt K20 (Side m.object) b) (sym m.act)
      (record { takes = tt; pages = h.pages_are; hands = same_hands _ refl }))
  mark_fits p a (inr (inr m)) =
      subst (λ q. FitsAt K20 q a) (sym m.place) (subst (λ b. FitsAt K20 (Side m.child) b) (sym m.act)
      (record { takes = tt; pages = h.pages_are; hands = same_hands _ refl }))

  pub give_fits : (p : Place) (a : Action) → MayGiveUnit z by x p a → FitsAt K21 p a
  give_fits p a m =
      subst (λ q. FitsAt K21 q a) (sym m.place) (subst (λ b. FitsAt K21 Pending b) (sym m.act)
      (record { takes = tt; pages = h.pages_are; hands = same_hands _ refl }))

  pub gray_fits : (p : Place) (a : Action) → MayTakeGray z by x p a → FitsAt K22 p a
  gray_fits p a m =
      subst (λ q. FitsAt K22 q a) (sym m.place) (subst (λ b. FitsAt K22 (Side m.object) b) (sym m.act)
      (record { takes = tt; pages = h.pages_are; hands = same_hands _ refl }))

  pub cell_fits : (p : Place) (a : Action) → MayLoadCell z by x p a → FitsAt K23 p a
  cell_fits p a (inl m) =
      subst (λ q. FitsAt K23 q a) (sym m.place) (subst (λ b. FitsAt K23 (Body m.object) b) (sym m.act)
      (record { takes = tt; pages = h.pages_are; hands = same_hands _ refl }))
  cell_fits p a (inr m) =
      subst (λ q. FitsAt K23 q a) (sym m.place) (subst (λ b. FitsAt K23 (Body (m.object + 1 + m.field)) b) (sym m.act)
      (record { takes = tt; pages = h.pages_are; hands = same_hands _ refl }))

  pub black_fits : (p : Place) (a : Action) → MayBlacken z by x p a → FitsAt K24 p a
  black_fits p a m =
      subst (λ q. FitsAt K24 q a) (sym m.place) (subst (λ b. FitsAt K24 (Side m.object) b) (sym m.act)
      (record { takes = tt; pages = h.pages_are; hands = same_hands _ refl }))
