-- A turn in which a call loads or stores a word of its own.
use Rattle.std.proofs.Common.{◌≡◌, ℕ, ◌+◌, ◌≤◌, Bool, true, false, Option, Some, None, unwrap_or, slice_index, slice_set}
use Rattle.std.proofs.Common.{refl, sym, ap, ◌∙◌, subst, arith, length-set}
use Rattle.kn_base.specs.declared.places.Place.{Place}
use Rattle.kn_base.specs.declared.places.Place.TheVariants.{Body, Global, Local}
use Rattle.kn_base.specs.Pages.{FrameView}
use Rattle.kn_layout.specs.declared.layouts.FieldKind.{FieldKind}
use Rattle.kn_layout.specs.declared.layouts.FieldKind.TheVariants as kinds
use Rattle.kn_graph.specs.declared.calls.Call.{Call}
use Rattle.kn_graph.specs.declared.calls.Call.TheVariants as calls
use Rattle.kn_graph.specs.declared.calls.Call.TheVariants.{Copy, Clear, Get, Set, Put, Read, GlobalSet, GlobalGet}
use Rattle.kn_graph.specs.declared.calls.Reply.TheVariants as replies
use Rattle.kn_rule.specs.declared.positions.Position.TheVariants.{Calling}
use Rattle.kn_rule.specs.declared.steps.Action.TheVariants.{Loads, Stores}
use Rattle.kn_rule.specs.declared.steps.Kind.TheVariants.{K3, K4, K5, K6, K7}
use Rattle.kn_rule.specs.Moves.{view_after}
use Rattle.kn_rule.specs.Outcomes.{global_read, header_for_call, header_read, is_wanted, load_body, ref_read, store_at, write_at}
use Rattle.kn_rule.specs.Requests.{field_of, told_kind}
use Rattle.kn_rule.specs.Steps.{Found, Step, does, logged}
use Rattle.kn_rule.specs.Views.{View}
use Rattle.kn_steps.specs.Made.{Made, Stand}
use Rattle.kn_steps.specs.declared.turns.Turn.TheVariants.{Moved}
use Rattle.kn_mutator.specs.declared.task.Task.TheVariants.{Calls}
use Rattle.kn_mutator.specs.Agree.{Agrees, CallsAt}
use Rattle.kn_mutator.specs.After.{answered, assigned, judged, judged_as, judged_for, referred}
use Rattle.kn_mutator.specs.Mutating.{Mutating}
use Rattle.kn_mutator.specs.Tasks.{call_step, local_kept}
use Rattle.kn_mutator.specs.Turns.{Goes, asks_none}
use Rattle.kn_mutator.proofs.Calling.{calls_at, in_range, turn_answers, turn_goes_on, turn_refers, turn_small}

-- a call on a field loads the header of its object first
header_step : (c epoch : ℕ) (local : ℕ → ℕ) (call : Call) (s i : ℕ) (kind : FieldKind) → field_of call ≡ Some (s, i, kind) →
    call_step c epoch local call None ≡ Some (does K4 (Body (local s)) Loads)
header_step c epoch local (calls.New r l) s i k e = cc
header_step c epoch local (calls.NewArray r l n) s i k e = cc
header_step c epoch local (Copy r t) s i k e = cc
header_step c epoch local (Clear r) s i k e = cc
header_step c epoch local (calls.Same r t) s i k e = cc
header_step c epoch local (Get r t n) s i k e = ap (λ x. Some (does K4 (Body (local (unwrap_or {T = ℕ × ℕ × FieldKind} x (s, i, k)).0)) Loads)) e
header_step c epoch local (Set t n r) s i k e = ap (λ x. Some (does K4 (Body (local (unwrap_or {T = ℕ × ℕ × FieldKind} x (s, i, k)).0)) Loads)) e
header_step c epoch local (Put t n w) s i k e = ap (λ x. Some (does K4 (Body (local (unwrap_or {T = ℕ × ℕ × FieldKind} x (s, i, k)).0)) Loads)) e
header_step c epoch local (Read t n) s i k e = ap (λ x. Some (does K4 (Body (local (unwrap_or {T = ℕ × ℕ × FieldKind} x (s, i, k)).0)) Loads)) e
header_step c epoch local (GlobalSet n r) s i k e = cc
header_step c epoch local (GlobalGet r n) s i k e = cc
header_step c epoch local (calls.Pin n r) s i k e = cc
header_step c epoch local (calls.Unpin n) s i k e = cc
header_step c epoch local (calls.StableGet r n) s i k e = cc
header_step c epoch local (calls.MakeWeak n r) s i k e = cc
header_step c epoch local (calls.WeakGet r n) s i k e = cc
header_step c epoch local (calls.MakeBack n r) s i k e = cc
header_step c epoch local (calls.Retain n) s i k e = cc
header_step c epoch local (calls.Release n) s i k e = cc
header_step c epoch local (calls.BackGet r n) s i k e = cc
header_step c epoch local (calls.Tie r n w) s i k e = cc
header_step c epoch local calls.Collect s i k e = cc

module _ {T : Type 0} (stand : T → Stand) (here : T → ℕ → Bool) (did : T → Step → Found → T → Type 0)
    (moved : T → ℕ → Option FrameView → Option FrameView → T → Type 0) (m : Mutating) (s s' : T) (g : Agrees m (stand s) (here s)) (f : Found) where
  -- a local is written
  module _ (by r value word : ℕ) (is_by : by ≡ m.by) (same : word ≡ value) (h : Option ℕ)
      (made : Made (stand s) (here s) (does K3 (Local by r) (Stores word)) f (stand s') (here s'))
      (kept : did s (does K3 (Local by r) (Stores word)) f s') where
    writes_local : (call : Call) → m.task ≡ Calls call h →
        call_step m.by m.epoch (local_kept m) call h ≡ Some (does K3 (Local m.by r) (Stores value)) →
        (q : Mutating) → q ≡ assigned m call r value → Goes stand here did moved asks_none m s s' q Moved
    writes_local call is named =
        let v : View = (stand s).view in
        let at : CallsAt m v call h = calls_at m (stand s) (here s) g call h is in
        let step : call_step m.by m.epoch (local_kept m) call h ≡ Some (does K3 (Local by r) (Stores word)) =
        named ∙ (ap (λ b. Some (does K3 (Local b r) (Stores value))) (sym is_by) ∙ ap (λ w. Some (does K3 (Local by r) (Stores w))) (sym same)) in
        turn_answers stand here did moved m s s' g call h is (does K3 (Local by r) (Stores word)) f step made kept made.lies replies.Ok
        (slice_set v.locals r word) (slice_set m.locals r value)
        (ap (λ l. slice_set l r word) g.knows.locals ∙ ap (slice_set m.locals r) same)
        (length-set m.locals r value ∙ g.width)
        (ap (λ q. logged (write_at (stand s).heap (stand s).by v (Local by r) (Stores word) f q)) at.position)

    pub copies : (t : ℕ) → m.task ≡ Calls (Copy r t) h → value ≡ slice_index m.locals t →
        (q : Mutating) → q ≡ assigned m (Copy r t) r value → Goes stand here did moved asks_none m s s' q Moved
    copies t is e = writes_local (Copy r t) is (ap (λ w. Some (does K3 (Local m.by r) (Stores w))) (sym e))

    pub clears : m.task ≡ Calls (Clear r) h → value ≡ 0 → (q : Mutating) → q ≡ assigned m (Clear r) r value →
        Goes stand here did moved asks_none m s s' q Moved
    clears is e = writes_local (Clear r) is (ap (λ w. Some (does K3 (Local m.by r) (Stores w))) (sym e))

  -- a field is stored
  module _ (p : Place) (word t i header : ℕ) (place : p ≡ Body (slice_index m.locals t + 1 + i))
      (made : Made (stand s) (here s) (does K5 p (Stores word)) f (stand s') (here s')) (kept : did s (does K5 p (Stores word)) f s') where
    stores_field : (call : Call) → m.task ≡ Calls call (Some header) →
        call_step m.by m.epoch (local_kept m) call (Some header) ≡ Some (does K5 (Body (slice_index m.locals t + 1 + i)) (Stores word)) →
        (q : Mutating) → q ≡ answered m call replies.Ok → Goes stand here did moved asks_none m s s' q Moved
    stores_field call is named =
        let v : View = (stand s).view in
        let at : CallsAt m v call (Some header) = calls_at m (stand s) (here s) g call (Some header) is in
        turn_answers stand here did moved m s s' g call (Some header) is (does K5 p (Stores word)) f
        (named ∙ ap (λ p. Some (does K5 p (Stores word))) (sym place)) made kept made.lies replies.Ok v.locals m.locals g.knows.locals g.width
        (ap (λ q. logged (store_at (stand s).heap (stand s).by v p (Stores word) f q)) at.position)

    pub sets : (r : ℕ) → m.task ≡ Calls (Set t i r) (Some header) → word ≡ slice_index m.locals r →
        (q : Mutating) → q ≡ answered m (Set t i r) replies.Ok → Goes stand here did moved asks_none m s s' q Moved
    sets r is e = stores_field (Set t i r) is (ap (λ w. Some (does K5 (Body (slice_index m.locals t + 1 + i)) (Stores w))) (sym e))

    pub puts : m.task ≡ Calls (Put t i word) (Some header) → (q : Mutating) → q ≡ answered m (Put t i word) replies.Ok →
        Goes stand here did moved asks_none m s s' q Moved
    puts is = stores_field (Put t i word) is refl

  -- a field is loaded
  module _ (p : Place) (t i header : ℕ) (place : p ≡ Body (slice_index m.locals t + 1 + i))
      (made : Made (stand s) (here s) (does K4 p Loads) f (stand s') (here s')) (kept : did s (does K4 p Loads) f s') where
    pub reads : m.task ≡ Calls (Read t i) (Some header) →
        (q : Mutating) → q ≡ answered m (Read t i) (replies.Int f.word) → Goes stand here did moved asks_none m s s' q Moved
    reads is =
        let v : View = (stand s).view in
        let at : CallsAt m v (Read t i) (Some header) = calls_at m (stand s) (here s) g (Read t i) (Some header) is in
        turn_answers stand here did moved m s s' g (Read t i) (Some header) is (does K4 p Loads) f
        (ap (λ p. Some (does K4 p Loads)) (sym place)) made kept made.lies (replies.Int f.word) v.locals m.locals g.knows.locals g.width
        (ap (λ q. logged (load_body (stand s).heap (stand s).by v p Loads f q v.header)) at.position
        ∙ ap (λ h. logged (load_body (stand s).heap (stand s).by v p Loads f (Calling (Read t i)) h)) at.header)

    module _ (r : ℕ) (is : m.task ≡ Calls (Get r t i) (Some header)) where
      got : view_after (stand s).heap (stand s).by (stand s).view (does K4 p Loads) f
          ≡ logged (ref_read (stand s).heap (stand s).by (stand s).view p Loads f (Get r t i) r)
      got =
          let v : View = (stand s).view in
          let at : CallsAt m v (Get r t i) (Some header) = calls_at m (stand s) (here s) g (Get r t i) (Some header) is in
          ap (λ q. logged (load_body (stand s).heap (stand s).by v p Loads f q v.header)) at.position
          ∙ ap (λ h. logged (load_body (stand s).heap (stand s).by v p Loads f (Calling (Get r t i)) h)) at.header

      pub gets : (q : Mutating) → q ≡ referred m (Get r t i) r f.word → Goes stand here did moved asks_none m s s' q Moved
      gets = turn_refers stand here did moved m s s' g (Get r t i) (Some header) is (does K4 p Loads) f
          (ap (λ p. Some (does K4 p Loads)) (sym place)) made kept made.lies r f.word got

      pub get_is_small : f.word ≤ 1000000
      get_is_small = turn_small stand here did moved m s s' g (Get r t i) (Some header) is (does K4 p Loads) f
          (ap (λ p. Some (does K4 p Loads)) (sym place)) made kept made.lies r f.word
          (let l : r ≤ 15 = (in_range m (stand s) (here s) g (Get r t i) (Some header) is).0 in omega arith) got

  -- a global is stored
  pub sets_global : (i r word : ℕ) (h : Option ℕ) → m.task ≡ Calls (GlobalSet i r) h → word ≡ slice_index m.locals r →
      Made (stand s) (here s) (does K7 (Global i) (Stores word)) f (stand s') (here s') → did s (does K7 (Global i) (Stores word)) f s' →
      (q : Mutating) → q ≡ answered m (GlobalSet i r) replies.Ok → Goes stand here did moved asks_none m s s' q Moved
  sets_global i r word h is e made kept =
      let v : View = (stand s).view in
      let at : CallsAt m v (GlobalSet i r) h = calls_at m (stand s) (here s) g (GlobalSet i r) h is in
      turn_answers stand here did moved m s s' g (GlobalSet i r) h is (does K7 (Global i) (Stores word)) f
      (ap (λ w. Some (does K7 (Global i) (Stores w))) (sym e)) made kept made.lies replies.Ok v.locals m.locals g.knows.locals g.width
      (ap (λ q. logged (store_at (stand s).heap (stand s).by v (Global i) (Stores word) f q)) at.position)

  -- a global is loaded
  module _ (i r : ℕ) (h : Option ℕ) (is : m.task ≡ Calls (GlobalGet r i) h)
      (made : Made (stand s) (here s) (does K6 (Global i) Loads) f (stand s') (here s')) (kept : did s (does K6 (Global i) Loads) f s') where
    got_global : view_after (stand s).heap (stand s).by (stand s).view (does K6 (Global i) Loads) f
        ≡ logged (ref_read (stand s).heap (stand s).by (stand s).view (Global i) Loads f (GlobalGet r i) r)
    got_global =
        let at : CallsAt m (stand s).view (GlobalGet r i) h = calls_at m (stand s) (here s) g (GlobalGet r i) h is in
        ap (λ q. logged (global_read (stand s).heap (stand s).by (stand s).view (Global i) Loads f q)) at.position

    pub gets_global : (q : Mutating) → q ≡ referred m (GlobalGet r i) r f.word → Goes stand here did moved asks_none m s s' q Moved
    gets_global = turn_refers stand here did moved m s s' g (GlobalGet r i) h is (does K6 (Global i) Loads) f refl made kept made.lies r f.word got_global

    pub global_is_small : f.word ≤ 1000000
    global_is_small = turn_small stand here did moved m s s' g (GlobalGet r i) h is (does K6 (Global i) Loads) f refl made kept made.lies r f.word
        (let l : r ≤ 15 = (in_range m (stand s) (here s) g (GlobalGet r i) h is).0 in omega arith) got_global

  -- a header is loaded
  module _ (call : Call) (is : m.task ≡ Calls call None) (t i : ℕ) (wanted : FieldKind) (field : field_of call ≡ Some (t, i, wanted)) (address : ℕ)
      (place : address ≡ slice_index m.locals t) (made : Made (stand s) (here s) (does K4 (Body address) Loads) f (stand s') (here s'))
      (kept : did s (does K4 (Body address) Loads) f s') where
    named : call_step m.by m.epoch (local_kept m) call None ≡ Some (does K4 (Body address) Loads)
    named = header_step m.by m.epoch (local_kept m) call t i wanted field ∙ ap (λ a. Some (does K4 (Body a) Loads)) (sym place)

    goes_on : (k : FieldKind) → wanted ≡ k → told_kind m.heap f.word i ≡ Some k →
        view_after (stand s).heap (stand s).by (stand s).view (does K4 (Body address) Loads) f
        ≡ logged (header_read (stand s).heap (stand s).by (stand s).view (Body address) Loads f call (Some k) true) →
        (q : Mutating) → q ≡ record m { task = Calls call (Some f.word) } → Goes stand here did moved asks_none m s s' q Moved
    goes_on k same told view =
        turn_goes_on stand here did moved m s s' g call None is (does K4 (Body address) Loads) f named made kept made.lies f.word (t, i, wanted) refl field
        (told ∙ ap (λ k. Some k) (sym same)) view

    ends_with : (k : FieldKind) → view_after (stand s).heap (stand s).by (stand s).view (does K4 (Body address) Loads) f
        ≡ logged (header_read (stand s).heap (stand s).by (stand s).view (Body address) Loads f call (Some k) false) →
        (q : Mutating) → q ≡ answered m call replies.WrongKind → Goes stand here did moved asks_none m s s' q Moved
    ends_with k view =
        turn_answers stand here did moved m s s' g call None is (does K4 (Body address) Loads) f named made kept made.lies replies.WrongKind
        (stand s).view.locals m.locals g.knows.locals g.width view

    judged_by : (k : FieldKind) (x : Option FieldKind) → wanted ≡ k → told_kind m.heap f.word i ≡ x →
        view_after (stand s).heap (stand s).by (stand s).view (does K4 (Body address) Loads) f
        ≡ logged (header_read (stand s).heap (stand s).by (stand s).view (Body address) Loads f call x
        (is_wanted (stand s).heap (stand s).by (stand s).view (Body address) Loads f x k)) →
        (q : Mutating) → q ≡ judged_as m call f.word k x → Goes stand here did moved asks_none m s s' q Moved
    judged_by k None same told view =
        turn_answers stand here did moved m s s' g call None is (does K4 (Body address) Loads) f named made kept made.lies replies.NoField
        (stand s).view.locals m.locals g.knows.locals g.width view
    judged_by kinds.Ref (Some kinds.Ref) same told view = goes_on kinds.Ref same told view
    judged_by kinds.Int (Some kinds.Int) same told view = goes_on kinds.Int same told view
    judged_by kinds.Ref (Some kinds.Int) same told view = ends_with kinds.Int view
    judged_by kinds.Int (Some kinds.Ref) same told view = ends_with kinds.Ref view

    pub reads_header : (q : Mutating) → q ≡ judged m call f.word → Goes stand here did moved asks_none m s s' q Moved
    reads_header =
        let a : Stand = stand s in
        let v : View = a.view in
        let at : CallsAt m v call None = calls_at m a (here s) g call None is in
        subst (λ x. (q : Mutating) → q ≡ judged_for m call f.word x → Goes stand here did moved asks_none m s s' q Moved) (sym field)
        (judged_by wanted (told_kind m.heap f.word i) refl refl
        (ap (λ q. logged (load_body a.heap a.by v (Body address) Loads f q v.header)) at.position
        ∙ (ap (λ h. logged (load_body a.heap a.by v (Body address) Loads f (Calling call) h)) at.header
        ∙ (ap (λ x. logged (header_for_call a.heap a.by v (Body address) Loads f call x)) field
        ∙ ap (λ z. logged (header_for_call z a.by v (Body address) Loads f call (Some (t, i, wanted)))) g.heap))))
