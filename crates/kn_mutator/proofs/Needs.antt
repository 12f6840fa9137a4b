-- What the steps of calls ask of the view.
use Rattle.std.proofs.Common.{◌≡◌, ℕ, ◌+◌, ◌<◌, ◌⊎◌, inl, inr, Bool, true, Option, Some, None, is_some, length, slice_get, slice_index}
use Rattle.std.proofs.Common.{refl, sym, ap, ◌∙◌, subst}
use Rattle.std.proofs.lemmas.Bool.{true≢false}
use Rattle.kn_base.specs.declared.classes.TheConstants.{SINGLE_CLASS}
use Rattle.kn_base.specs.declared.places.Place.{Place}
use Rattle.kn_base.specs.declared.places.Place.TheVariants.{Body, Global, Local, Phase, State as StateOf, Want}
use Rattle.kn_graph.specs.declared.calls.Call.{Call}
use Rattle.kn_graph.specs.declared.calls.Call.TheVariants.{Copy, Clear, Get, Set, Put, Read, GlobalSet, GlobalGet, Collect}
use Rattle.kn_graph.specs.Arguments.{IsInRange}
use Rattle.kn_graph.specs.Counts.{makes_object}
use Rattle.kn_layout.specs.declared.layouts.FieldKind.{FieldKind}
use Rattle.kn_layout.specs.declared.layouts.FieldKind.TheVariants.{Ref, Int}
use Rattle.kn_rule.specs.declared.positions.Position.TheVariants as positions
use Rattle.kn_rule.specs.declared.steps.Action.TheVariants.{Loads, LoadsFor, Raises, Stores}
use Rattle.kn_rule.specs.Allowed.{MayLoadAt, MayLoadBody, MayLoadFor, MayReadGlobal, MayReadGlobalAt, MaySet, MaySetAt, MaySetGlobal}
use Rattle.kn_rule.specs.Allowed.{MayGo, MayPoll, MayPollAt, MaySetGlobalAt, MayStoreState, MayWant, MayWrite, MayWriteAt}
use Rattle.kn_rule.specs.Requests.{field_of, told_kind}
use Rattle.kn_rule.specs.Views.{flattened, local_of, owns}
use Rattle.kn_steps.specs.Made.{Stand}
use Rattle.kn_alloc.specs.declared.stage.Hand.{Hand}
use Rattle.kn_alloc.specs.declared.stage.Stage.{Stage as AllocStage}
use Rattle.kn_alloc.specs.declared.stage.Stage.TheVariants as stages
use Rattle.kn_alloc.specs.Agree.{Agrees as AllocAgrees, IsGetting, IsIdle, IsNoCall, MayTurn}
use Rattle.kn_alloc.specs.Homes.{IsNoHand}
use Rattle.kn_mutator.specs.declared.task.Task.TheVariants.{Births, Calls, Ends, Leaves, SendsSingle, Waits, Writes}
use Rattle.kn_mutator.specs.Agree.{Agrees, AtTask, BirthAt, CallsAt, IsObjectIn, Owes, Planned}
use Rattle.kn_mutator.specs.Mutating.{Mutating}
use Rattle.kn_mutator.specs.Tasks.{has_single}
use Rattle.kn_mutator.proofs.Calling.{calls_at}
use Rattle.kn_mutator.proofs.Core.{all_get, by_is, has_room, is_thread}

module _ (m : Mutating) (a : Stand) (here : ℕ → Bool) (g : Agrees m a here) where
  local_is : (r : ℕ) → slice_index m.locals r ≡ local_of a.view r
  local_is r = sym (ap (λ l. slice_index l r) g.knows.locals)

  -- a value that is due
  pub may_write_due : (r w : ℕ) → m.task ≡ Writes r w → (c : ℕ) → c ≡ m.by → (v : ℕ) → v ≡ w →
      MayWrite a.heap a.by a.view here (Local c r) (Stores v)
  may_write_due r w is c by v e = record {
    local = r;
    value = v;
    place = λ t. Local ((by ∙ sym (by_is m a here g)) t) r;
    word = refl;
    thread = is_thread m a here g;
    may = subst (λ p. MayWriteAt a.heap a.by a.view here p r v) (sym (subst (λ t. AtTask t m a.view) is g.at).position) (refl, e);
  }

  module _ (call : Call) (h : Option ℕ) (is : m.task ≡ Calls call h) where
    at : CallsAt m a.view call h
    at = calls_at m a here g call h is

    pub room : length m.log < length m.calls
    room = has_room m call at.under_way

    may_write : (r v : ℕ) → MayWriteAt a.heap a.by a.view here (positions.Calling call) r v → (c : ℕ) → c ≡ m.by →
        MayWrite a.heap a.by a.view here (Local c r) (Stores v)
    may_write r v may c by = record {
      local = r;
      value = v;
      place = λ t. Local ((by ∙ sym (by_is m a here g)) t) r;
      word = refl;
      thread = is_thread m a here g;
      may = subst (λ p. MayWriteAt a.heap a.by a.view here p r v) (sym at.position) may;
    }

    may_load : (p : Place) (b : ℕ) → p ≡ Body b → MayLoadFor a.heap a.by a.view here call (field_of call) h b →
        MayLoadBody a.heap a.by a.view here p Loads
    may_load p b place may = record {
      address = b;
      place = place;
      act = refl;
      thread = is_thread m a here g;
      may = subst (λ q. MayLoadAt a.heap a.by a.view here q a.view.header b) (sym at.position)
          (subst (λ h. MayLoadFor a.heap a.by a.view here call (field_of call) h b) (sym at.header) may);
    }

    may_store : (p : Place) (b w : ℕ) → p ≡ Body b → MaySetAt a.heap a.by a.view here (positions.Calling call) h b w →
        MaySet a.heap a.by a.view here p (Stores w)
    may_store p b w place may = record {
      address = b;
      value = w;
      place = place;
      word = refl;
      thread = is_thread m a here g;
      may = subst (λ q. MaySetAt a.heap a.by a.view here q a.view.header b w) (sym at.position)
          (subst (λ h. MaySetAt a.heap a.by a.view here (positions.Calling call) h b w) (sym at.header) may);
    }

    -- the header of the object in local s, for field i
    pub may_read_header : (s i : ℕ) (k : FieldKind) → field_of call ≡ Some (s, i, k) → h ≡ None → (b : ℕ) → b ≡ slice_index m.locals s →
        MayLoadBody a.heap a.by a.view here (Body b) Loads
    may_read_header s i k field none b e =
        may_load (Body b) b refl
        (subst (λ f. MayLoadFor a.heap a.by a.view here call f h b) (sym field)
        (subst (λ h. MayLoadFor a.heap a.by a.view here call (Some (s, i, k)) h b) (sym none)
        (e ∙ local_is s, subst (λ n. 0 < n) (sym e) (subst (IsObjectIn (λ r. slice_index m.locals r)) field at.object))))

  -- field i of the object in local s, whose header hd tells that it is of kind k
  module _ (s i hd : ℕ) (k : FieldKind) (object : 0 < slice_index m.locals s) (read : told_kind m.heap hd i ≡ Some k) where
    field_may : (slice_index m.locals s + 1 + i ≡ local_of a.view s + 1 + i) × (0 < local_of a.view s) × (told_kind a.heap hd i ≡ Some k)
    field_may = (
      ap (λ n. n + 1 + i) (local_is s),
      subst (λ n. 0 < n) (local_is s) object,
      ap (λ z. told_kind z hd i) g.heap ∙ read,
    )

  module _ (s i hd : ℕ) (p : Place) (place : p ≡ Body (slice_index m.locals s + 1 + i)) where
    abbrev b : ℕ
    b = slice_index m.locals s + 1 + i

    pub may_get : (r : ℕ) → m.task ≡ Calls (Get r s i) (Some hd) → MayLoadBody a.heap a.by a.view here p Loads
    may_get r is =
        let at = calls_at m a here g (Get r s i) (Some hd) is in
        may_load (Get r s i) (Some hd) is p b place (field_may s i hd Ref at.object at.read)

    pub may_read : m.task ≡ Calls (Read s i) (Some hd) → MayLoadBody a.heap a.by a.view here p Loads
    may_read is =
        let at = calls_at m a here g (Read s i) (Some hd) is in
        may_load (Read s i) (Some hd) is p b place (field_may s i hd Int at.object at.read)

    pub may_set : (r w : ℕ) → m.task ≡ Calls (Set s i r) (Some hd) → w ≡ slice_index m.locals r → MaySet a.heap a.by a.view here p (Stores w)
    may_set r w is e =
        let at = calls_at m a here g (Set s i r) (Some hd) is in
        may_store (Set s i r) (Some hd) is p b w place (field_may s i hd Ref at.object at.read, e ∙ local_is r)

    pub may_put : (w : ℕ) → m.task ≡ Calls (Put s i w) (Some hd) → MaySet a.heap a.by a.view here p (Stores w)
    may_put w is =
        let at = calls_at m a here g (Put s i w) (Some hd) is in
        may_store (Put s i w) (Some hd) is p b w place (field_may s i hd Int at.object at.read, refl)

  module _ (h : Option ℕ) where
    pub may_copy : (r s : ℕ) → m.task ≡ Calls (Copy r s) h → (v : ℕ) → v ≡ slice_index m.locals s → (c : ℕ) → c ≡ m.by →
        MayWrite a.heap a.by a.view here (Local c r) (Stores v)
    may_copy r s is v e = may_write (Copy r s) h is r v (refl, e ∙ local_is s)

    pub may_clear : (r : ℕ) → m.task ≡ Calls (Clear r) h → (c : ℕ) → c ≡ m.by → MayWrite a.heap a.by a.view here (Local c r) (Stores 0)
    may_clear r is = may_write (Clear r) h is r 0 (refl, refl)

    pub may_set_global : (i r w : ℕ) → m.task ≡ Calls (GlobalSet i r) h → w ≡ slice_index m.locals r →
        MaySetGlobal a.heap a.by a.view here (Global i) (Stores w)
    may_set_global i r w is e = record {
      global = i;
      value = w;
      place = refl;
      word = refl;
      thread = is_thread m a here g;
      may = subst (λ q. MaySetGlobalAt a.heap a.by a.view here q i w) (sym (calls_at m a here g (GlobalSet i r) h is).position)
          (refl, e ∙ local_is r);
    }

    pub may_get_global : (r i : ℕ) → m.task ≡ Calls (GlobalGet r i) h → MayReadGlobal a.heap a.by a.view here (Global i) Loads
    may_get_global r i is = record {
      global = i;
      place = refl;
      act = refl;
      thread = is_thread m a here g;
      may = subst (λ q. MayReadGlobalAt a.heap a.by a.view here q i) (sym (calls_at m a here g (GlobalGet r i) h is).position) refl;
    }

    pub may_raise : m.task ≡ Calls Collect h → (n : ℕ) → n ≡ m.epoch + 1 → MayWant a.heap a.by a.view here Want (Raises n)
    may_raise is n e = inl (record {
      place = refl;
      act = ap Raises (e ∙ sym (ap (λ k. k + 1) g.knows.epoch));
      is_call = (calls_at m a here g Collect h is).position;
      thread = is_thread m a here g;
    })

-- a birth whose cell the allocator gets, of a mutator that is n
module _ (m : Mutating) (a : Stand) (here : ℕ → Bool) (g : Agrees m a here) (n : Mutating) (same : n ≡ m) where
  -- the allocator agrees
  pub alloc_agrees : AllocAgrees n.alloc a here
  alloc_agrees = subst (λ (q : Mutating). AllocAgrees q.alloc a here) (sym same) g.alloc

  module _ (call : Call) (is : m.task ≡ Births call) where
    birth_at : BirthAt n a.view call
    birth_at =
        subst (λ (q : Mutating). BirthAt q a.view call) (sym same) (subst (λ t. AtTask t m a.view) is g.at)

    pub gets_turn : MayTurn n.alloc.stage
    gets_turn = by n.alloc.stage birth_at.alloc
      where
        by : (t : AllocStage) → IsGetting t → MayTurn t
        by stages.Resting i = i
        by stages.TooLong i = tt
        by (stages.Sweeps p) i = i
        by (stages.PutsHome p word) i = i
        by _ i = tt

    pub birth_room : length n.log < length n.calls
    birth_room = has_room n call birth_at.under_way

    pub birth_in_range : IsInRange n.heap call
    birth_in_range =
        let planned = subst (λ (q : Mutating). Planned q.heap q.by q.calls) (sym same) g.planned in
        all_get (IsInRange n.heap) n.calls birth_at.under_way.number call planned.in_range birth_at.under_way.is_call

    pub is_birth : makes_object call ≡ true
    is_birth = birth_at.birth

  -- pages may go home
  module _ (is : m.task ≡ SendsSingle) where
    single_at : AtTask SendsSingle m a.view
    single_at = subst (λ t. AtTask t m a.view) is g.at

    pub single_idle : IsIdle n.alloc.stage
    single_idle = subst (λ (q : Mutating). IsIdle q.alloc.stage) (sym same) single_at.1.alloc

    pub single_no_call : IsNoCall a.view.position
    single_no_call = subst IsNoCall (sym single_at.0) tt

    -- a single one is in hand
    pub single_there : n.alloc.stage ≡ stages.Resting → IsNoHand n.alloc.hands → ⊥
    single_there rests none =
        by (slice_get n.alloc.hands SINGLE_CLASS) refl
        (ap (λ (q : Mutating). has_single q.alloc.hands) same ∙ single_at.3 (sym (ap (λ (q : Mutating). q.alloc.stage) same) ∙ rests))
      where
        by : (o : Option (Option Hand)) → slice_get n.alloc.hands SINGLE_CLASS ≡ o → is_some (flattened o) ≡ true → ⊥
        by None e t = true≢false (sym t)
        by (Some None) e t = true≢false (sym t)
        by (Some (Some hand)) e t = none SINGLE_CLASS hand e

  module _ (is : m.task ≡ Leaves) where
    leaving_at : AtTask Leaves m a.view
    leaving_at = subst (λ t. AtTask t m a.view) is g.at

    pub leaving_idle : IsIdle n.alloc.stage
    leaving_idle = subst (λ (q : Mutating). IsIdle q.alloc.stage) (sym same) leaving_at.2

    pub leaving_no_call : IsNoCall a.view.position
    leaving_no_call = by leaving_at.0
      where
        by : (a.view.position ≡ positions.Leaving) ⊎ (a.view.position ≡ positions.Entering) → IsNoCall a.view.position
        by (inl e) = subst IsNoCall (sym e) tt
        by (inr e) = subst IsNoCall (sym e) tt

  module _ (is : m.task ≡ Ends) where
    ending_at : AtTask Ends m a.view
    ending_at = subst (λ t. AtTask t m a.view) is g.at

    pub ending_idle : IsIdle n.alloc.stage
    ending_idle = subst (λ (q : Mutating). IsIdle q.alloc.stage) (sym same) ending_at.1.alloc

    pub ending_no_call : IsNoCall a.view.position
    ending_no_call = by ending_at.0
      where
        by : (a.view.position ≡ positions.Between) ⊎ (a.view.position ≡ positions.Out) → IsNoCall a.view.position
        by (inl e) = subst IsNoCall (sym e) tt
        by (inr e) = subst IsNoCall (sym e) tt

    -- it may store that it has ended
    module _ (none : (p : ℕ) → owns a.view p ≡ None) (c : ℕ) (by_c : c ≡ m.by) where
      all_begun : a.view.calls ≡ slice_index a.heap.sizes.calls a.by
      all_begun =
          g.knows.begun ∙ (ending_at.2 ∙ (sym g.planned.calls_are ∙ λ t. slice_index (sym g.heap t).sizes.calls (sym (by_is m a here g) t)))

      pub may_end : MayStoreState a.heap a.by a.view here (StateOf c) (Stores 2)
      may_end = record {
        value = 2;
        place = ap StateOf (by_c ∙ sym (by_is m a here g));
        word = refl;
        may = inl (is_thread m a here g, by ending_at.0);
      }
        where
          target : a.view.target ≡ None
          target = g.knows.target ∙ ending_at.1.untargeted

          by : (a.view.position ≡ positions.Between) ⊎ (a.view.position ≡ positions.Out) → MayGo a.heap a.by a.view here a.view.position 2
          by (inl e) = subst (λ p. MayGo a.heap a.by a.view here p 2) (sym e) (refl, (target, all_begun, none))
          by (inr e) = subst (λ p. MayGo a.heap a.by a.view here p 2) (sym e) (inr (refl, (target, all_begun, none)))

-- one that waits for an epoch
module _ (m : Mutating) (a : Stand) (here : ℕ → Bool) (g : Agrees m a here) (is : m.task ≡ Waits) where
  waiting_at : AtTask Waits m a.view
  waiting_at = subst (λ t. AtTask t m a.view) is g.at

  pub may_wait : MayPoll a.heap a.by a.view here Phase (LoadsFor None)
  may_wait = record {
    next = None;
    place = refl;
    act = refl;
    thread = is_thread m a here g;
    may = subst (λ p. MayPollAt a.heap a.by a.view here p None) (sym waiting_at.0.position) refl;
  }

  pub waiting_room : length m.log < length m.calls
  waiting_room = has_room m Collect (subst (Owes m) waiting_at.1.1 waiting_at.0.owes)
