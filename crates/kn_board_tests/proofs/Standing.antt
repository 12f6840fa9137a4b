-- The steps of the mutator in a stop: each is allowed, and where it stands behind it.
use Rattle.std.proofs.Common.{◌≡◌, ℕ, zero, suc, ◌+◌, inl, inr, true, false, cond, List, Option, Some, None, replicate}
use Rattle.std.proofs.Common.{slice_get, slice_index, refl, sym, ap, ◌∙◌, subst, arith}
use Rattle.std.proofs.lemmas.Bool.{true≢false}
use Rattle.kn_base.specs.declared.places.Place.TheVariants.{Phase, Want, State as StateOf}
use Rattle.kn_base.specs.Pages.{FrameView}
use Rattle.kn_base.specs.Sizes.{frame_count}
use Rattle.kn_graph.specs.declared.calls.Call.TheVariants.{Collect}
use Rattle.kn_graph.specs.Ground.{Ground}
use Rattle.kn_rule.specs.declared.positions.Position.{Position}
use Rattle.kn_rule.specs.declared.positions.Position.TheVariants.{Out, Entering, Calling, Waiting, Leaving}
use Rattle.kn_rule.specs.declared.steps.Action.TheVariants.{LoadsFor, Raises, Stores}
use Rattle.kn_rule.specs.declared.steps.Kind.TheVariants.{K1, K2, K13}
use Rattle.kn_rule.specs.Allowed.{MayEnterFor, MayGo, MayPoll, MayPollAt, MayStoreState, MayWant}
use Rattle.kn_rule.specs.Decoding.{phase_of}
use Rattle.kn_rule.specs.Moves.{view_after}
use Rattle.kn_rule.specs.Outcomes.{enters_for, epoch_told, is_done, poll_at, wanted_at, waits_at}
use Rattle.kn_rule.specs.Phases.{is_run}
use Rattle.kn_rule.specs.Rule.{fresh}
use Rattle.kn_rule.specs.Steps.{Found, does, epoch_in, found, logged, quietly}
use Rattle.kn_rule.specs.Views.{Open, View, flattened, owns}
use Rattle.kn_board.specs.Open.{opened}
use Rattle.kn_board.specs.World.{World, lies_at, stand_at, view_at}
use Rattle.kn_others.specs.Laws.{OpenedIsSwept}
use Rattle.kn_collector.specs.Kept.{Kept}
use Rattle.kn_collector.specs.Agree.{Agrees}
use Rattle.kn_board_tests.specs.Stands.{MutatorAt}

no_epoch : (z : Ground) → epoch_in (fresh z) ≡ 0
unfolding phase_of
no_epoch z = refl

runs_first : is_run (phase_of 0).code ≡ true
unfolding phase_of
runs_first = refl

stops_then : is_run (phase_of 9).code ≡ false
unfolding phase_of
stops_then = refl

none_there : (n p : ℕ) → flattened {A = Open} (slice_get (replicate n None) p) ≡ None
none_there zero p = refl
none_there (suc n) zero = refl
none_there (suc n) (suc p) = none_there n p

-- behind a step the view is u
stands_with : (at at' : Position) (t t' : Option ℕ) (n n' : ℕ) (w w' : World) → MutatorAt at t n w → w'.heap ≡ w.heap → (u : View) →
    view_at w' 0 ≡ u → u.position ≡ at' → u.target ≡ t' → u.calls ≡ n' → epoch_in u ≡ 0 → ((p : ℕ) → owns u p ≡ None) →
    MutatorAt at' t' n' w'
stands_with at at' t t' n n' w w' m heap u view position target calls epoch none = record {
  threads = ap (λ (z : Ground). z.sizes.threads) heap ∙ m.threads;
  given = ap (λ (z : Ground). slice_index z.sizes.calls 0) heap ∙ m.given;
  position = ap (λ (v : View). v.position) view ∙ position;
  target_is = ap (λ (v : View). v.target) view ∙ target;
  calls_are = ap (λ (v : View). v.calls) view ∙ calls;
  epoch = ap epoch_in view ∙ epoch;
  owns_none = λ p. ap (λ (v : View). owns v p) view ∙ none p;
}

-- the same view over another board of the same heap
pub stands_still : (at : Position) (t : Option ℕ) (n : ℕ) (w w' : World) → w'.heap ≡ w.heap → view_at w' 0 ≡ view_at w 0 →
    MutatorAt at t n w → MutatorAt at t n w'
stands_still at t n w w' heap view m =
    stands_with at at t t n n w w' m heap (view_at w 0) view m.position m.target_is m.calls_are m.epoch m.owns_none

-- at the start
module _ (opening : OpenedIsSwept) (z : Ground) (pages : List FrameView) (w : World) (is : w ≡ opened z pages) where
  first_view : (c : ℕ) → view_at w c ≡ fresh z
  first_view c = ap (λ (u : World). view_at u c) is ∙ (opening z pages).1 c

  pub stands_first : z.sizes.threads ≡ 1 → slice_index z.sizes.calls 0 ≡ 1 → MutatorAt Out None 0 w
  stands_first one given =
      let heap : w.heap ≡ z = ap (λ (u : World). u.heap) is in
      let view = first_view 0 in
      record {
        threads = ap (λ (z : Ground). z.sizes.threads) heap ∙ one;
        given = ap (λ (z : Ground). slice_index z.sizes.calls 0) heap ∙ given;
        position = ap (λ (v : View). v.position) view;
        target_is = ap (λ (v : View). v.target) view;
        calls_are = ap (λ (v : View). v.calls) view;
        epoch = ap epoch_in view ∙ no_epoch z;
        owns_none = λ p. ap (λ (v : View). owns v p) view ∙ none_there (frame_count z.sizes) p;
      }

  -- one with no calls may end at once
  pub may_end_first : z.sizes.threads ≡ 1 → slice_index z.sizes.calls 0 ≡ 0 → MayStoreState w.heap 0 (view_at w 0) (lies_at w) (StateOf 0) (Stores 2)
  may_end_first one given =
      let heap : w.heap ≡ z = ap (λ (u : World). u.heap) is in
      let view = first_view 0 in
      let threads : w.heap.sizes.threads ≡ 1 = ap (λ (z : Ground). z.sizes.threads) heap ∙ one in
      record {
        value = 2;
        place = refl;
        word = refl;
        may = inl (
          omega (arith, threads),
          subst (λ p. MayGo w.heap 0 (view_at w 0) (lies_at w) p 2) (sym (ap (λ (v : View). v.position) view)) (inr (refl, may_end)),
        );
      }
    where
      may_end : ((view_at w 0).target ≡ None) × ((view_at w 0).calls ≡ slice_index w.heap.sizes.calls 0)
          × ((p : ℕ) → owns (view_at w 0) p ≡ None)
      may_end =
          let heap : w.heap ≡ z = ap (λ (u : World). u.heap) is in
          let view = first_view 0 in (
            ap (λ (v : View). v.target) view,
            ap (λ (v : View). v.calls) view ∙ sym (ap (λ (z : Ground). slice_index z.sizes.calls 0) heap ∙ given),
            λ p. ap (λ (v : View). owns v p) view ∙ none_there (frame_count z.sizes) p,
          )

  pub agrees_first : (k : Kept) → Agrees k (record { heap = z; by = z.sizes.threads; view = fresh z }) → z.sizes.threads ≡ 1 →
      Agrees k (stand_at 1 w)
  agrees_first k new one =
      let same : stand_at 1 w ≡ record { heap = z; by = z.sizes.threads; view = fresh z } =
      λ i. record { heap = (is i).heap; by = sym one i; view = first_view 1 i } in
      subst (Agrees k) (sym same) new

module _ (w w' : World) (heap : w'.heap ≡ w.heap) where
  abbrev v : View
  v = view_at w 0

  -- it goes in
  module _ (m : MutatorAt Out None 0 w) where
    pub may_go_in : MayStoreState w.heap 0 v (lies_at w) (StateOf 0) (Stores 1)
    may_go_in = record {
      value = 1;
      place = refl;
      word = refl;
      may = inl (
        (let one = m.threads in omega (arith, one)),
        subst (λ p. MayGo w.heap 0 v (lies_at w) p 1) (sym m.position) (inl refl),
      );
    }

    pub goes_in : (f : Found) → view_at w' 0 ≡ view_after w.heap 0 v (does K2 (StateOf 0) (Stores 1)) f → MutatorAt Entering None 0 w'
    goes_in f view =
        stands_with Out Entering None None 0 0 w w' m heap (record v { position = Entering }) view refl m.target_is m.calls_are m.epoch m.owns_none

  -- its `gc` begins
  module _ (m : MutatorAt Entering None 0 w) where
    pub may_begin : MayPoll w.heap 0 v (lies_at w) Phase (LoadsFor (Some Collect))
    may_begin = record {
      next = Some Collect;
      place = refl;
      act = refl;
      thread = (let one = m.threads in omega (arith, one));
      may = subst (λ p. MayPollAt w.heap 0 v (lies_at w) p (Some Collect)) (sym m.position)
          (subst (λ t. MayEnterFor w.heap 0 v (lies_at w) t (Some Collect)) (sym m.target_is)
          (record {
            built = tt;
            in_range = tt;
            call_left = (let calls = m.calls_are in let given = m.given in omega (arith, calls, given));
            birth_left = λ e. absurd (true≢false (sym e));
          }));
    }

    pub begins : (word : ℕ) (page : FrameView) → word ≡ 0 →
        view_at w' 0 ≡ view_after w.heap 0 v (does K1 Phase (LoadsFor (Some Collect))) (found word page) → MutatorAt (Calling Collect) None 1 w'
    begins word page idle view =
        let f : Found = found 0 page in
        let a = LoadsFor (Some Collect) in
        let at : view_at w' 0 ≡ logged (poll_at w.heap 0 v Phase a f Entering true (Some Collect)) =
        view
        ∙ ap (λ n. view_after w.heap 0 v (does K1 Phase (LoadsFor (Some Collect))) (found n page)) idle
        ∙ (λ i. logged (poll_at w.heap 0 v Phase a f (m.position i) (runs_first i) (Some Collect))) in
        let calls : v.calls + 1 ≡ 1 = ap (λ n. n + 1) m.calls_are in
        let u : View = logged (enters_for w.heap 0 v Phase a f None (Some Collect)) in
        stands_with Entering (Calling Collect) None None 0 1 w w' m heap u
        (at ∙ (λ i. logged (enters_for w.heap 0 v Phase a f (m.target_is i) (Some Collect)))) refl m.target_is calls (no_epoch w.heap) m.owns_none

  -- it raises the epoch wanted
  module _ (m : MutatorAt (Calling Collect) None 1 w) where
    pub may_raise : MayWant w.heap 0 v (lies_at w) Want (Raises 1)
    may_raise =
        inl (record {
          place = refl;
          act = ap (λ n. Raises (n + 1)) (sym m.epoch);
          is_call = m.position;
          thread = (let one = m.threads in omega (arith, one));
        })

    pub raises : (f : Found) → view_at w' 0 ≡ view_after w.heap 0 v (does K13 Want (Raises 1)) f → MutatorAt Waiting (Some 1) 1 w'
    raises f view =
        stands_with (Calling Collect) Waiting None (Some 1) 1 1 w w' m heap (record v { position = Waiting; target = Some (epoch_in v + 1) })
        (view ∙ (λ i. logged (wanted_at w.heap 0 v Want (Raises 1) f (m.position i)))) refl (ap (λ n. Some (n + 1)) m.epoch) m.calls_are m.epoch
        m.owns_none

  -- it finds the stop
  module _ (m : MutatorAt Waiting (Some 1) 1 w) where
    pub may_wait : MayPoll w.heap 0 v (lies_at w) Phase (LoadsFor None)
    may_wait = record {
      next = None;
      place = refl;
      act = refl;
      thread = (let one = m.threads in omega (arith, one));
      may = subst (λ p. MayPollAt w.heap 0 v (lies_at w) p None) (sym m.position) refl;
    }

    not_done : (page : FrameView) → is_done w.heap 0 v Phase (LoadsFor None) (found 9 page) 1 ≡ false
    unfolding phase_of
    not_done page = refl

    pub leaves : (word : ℕ) (page : FrameView) → word ≡ 9 →
        view_at w' 0 ≡ view_after w.heap 0 v (does K1 Phase (LoadsFor None)) (found word page) → MutatorAt Leaving (Some 1) 1 w'
    leaves word page stop view =
        let f : Found = found 9 page in
        let a = LoadsFor None in
        let at : view_at w' 0 ≡ logged (poll_at w.heap 0 v Phase a f Waiting false None) =
        view
        ∙ ap (λ n. view_after w.heap 0 v (does K1 Phase (LoadsFor None)) (found n page)) stop
        ∙ (λ i. logged (poll_at w.heap 0 v Phase a f (m.position i) (stops_then i) None)) in
        let waits : logged (poll_at w.heap 0 v Phase a f Waiting false None) ≡ logged (waits_at w.heap 0 v Phase a f false (Some 1)) =
        λ i. logged (waits_at w.heap 0 v Phase a f false (m.target_is i)) in
        stands_with Waiting Leaving (Some 1) (Some 1) 1 1 w w' m heap (record v { position = Leaving })
        (at ∙ waits
        ∙ ap (λ b. logged (cond b (epoch_told w.heap 0 v Phase a f v.polled 1) (quietly (record v { position = Leaving })))) (not_done page))
        refl m.target_is m.calls_are m.epoch m.owns_none

  -- it goes out
  module _ (m : MutatorAt Leaving (Some 1) 1 w) where
    pub may_go_out : MayStoreState w.heap 0 v (lies_at w) (StateOf 0) (Stores 0)
    may_go_out = record {
      value = 0;
      place = refl;
      word = refl;
      may = inl (
        (let one = m.threads in omega (arith, one)),
        subst (λ p. MayGo w.heap 0 v (lies_at w) p 0) (sym m.position) (refl, m.owns_none),
      );
    }

    pub goes_out : (f : Found) → view_at w' 0 ≡ view_after w.heap 0 v (does K2 (StateOf 0) (Stores 0)) f → MutatorAt Out (Some 1) 1 w'
    goes_out f view =
        stands_with Leaving Out (Some 1) (Some 1) 1 1 w w' m heap (record v { position = Out }) view refl m.target_is m.calls_are m.epoch
        m.owns_none
