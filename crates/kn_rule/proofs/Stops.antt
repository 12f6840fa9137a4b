-- A stop of one thread, computed step by step: it wants the first epoch by a `gc`; the collector finds that, stores the stop, waits until
-- the thread has left, begins the marking and stores Mark; the thread loads Mark and waits outside.
use Rattle.std.proofs.Common.{◌≡◌, ℕ, zero, suc, ◌<◌, true, false, arith, Some, None, slice_get, refl, [], ◌∷◌}
use Rattle.kn_base.specs.declared.places.Place.{Place}
use Rattle.kn_base.specs.declared.places.Place.TheVariants.{Phase, Want, Pending, State as StateOf}
use Rattle.kn_graph.specs.declared.calls.Call.TheVariants.{Collect}
use Rattle.kn_graph.specs.declared.calls.Reply.TheVariants as replies
use Rattle.kn_rule.specs.declared.steps.Kind.{Kind}
use Rattle.kn_rule.specs.declared.steps.Kind.TheVariants.{K1, K2, K13, K14, K15, K16}
use Rattle.kn_rule.specs.declared.steps.Action.{Action}
use Rattle.kn_rule.specs.declared.steps.Action.TheVariants.{Loads, LoadsFor, Stores, Raises}
use Rattle.kn_rule.specs.declared.positions.Position.TheVariants.{Out, Between, Waiting, Leaving}
use Rattle.kn_rule.specs.Decoding.{phase_of}
use Rattle.kn_rule.specs.Views.{State}
use Rattle.kn_rule.specs.Phases.{pauses}
use Rattle.kn_rule.specs.Places.{put}
use Rattle.kn_rule.specs.Steps.{does, found, entry_of}
use Rattle.kn_rule.specs.Allowed.{MayRaise, MayStop, MayBeginMarking, MayMark, MayStopCollecting}
use Rattle.kn_rule.specs.Moves.{stepped}
use Rattle.kn_rule.specs.Rule.{start}
use Rattle.kn_rule.proofs.Rows.{ground, whole}

-- a step of caller c
abbrev by : ℕ → State → Kind → Place → Action → State
by c s k p a = stepped (ground 64) s c (does k p a) (found (s.word p) (whole 64))

abbrev begun : State
begun =
    by 0 (by 0 (by 0 (start (ground 64) (λ _. Some (whole 64))) K1 Phase (LoadsFor None)) K2 (StateOf 0) (Stores 1)) K1 Phase
    (LoadsFor (Some Collect))

abbrev wanting : State
wanting = by 0 begun K13 Want (Raises 1)

-- the collector finds that the thread has not ended, and that an epoch is wanted
abbrev heard : State
heard = by 1 (by 1 wanting K15 (StateOf 0) Loads) K13 Want Loads

-- it stores the stop, and finds the thread in
abbrev stopping : State
stopping = by 1 (by 1 heard K14 Phase (Stores 9)) K15 (StateOf 0) Loads

-- the thread finds the stop, and goes out
abbrev left : State
left = by 0 stopping K1 Phase (LoadsFor None)

abbrev counted : State
counted = by 1 (by 0 left K2 (StateOf 0) (Stores 0)) K15 (StateOf 0) Loads

abbrev marking : State
marking = by 1 (by 1 counted K16 Pending (Stores 3)) K14 Phase (Stores 10)

abbrev outside : State
outside = by 0 (by 1 marking K16 Pending Loads) K1 Phase (LoadsFor None)

wanted : wanting.word Want ≡ 1
unfolding phase_of
wanted = refl

waits : (wanting.caller 0).position ≡ Waiting
unfolding phase_of
waits = refl

targets : (wanting.caller 0).target ≡ Some 1
unfolding phase_of
targets = refl

not_counted : slice_get (stopping.caller 1).collecting.counted 0 ≡ Some false
unfolding phase_of
not_counted = refl

leaves : (left.caller 0).position ≡ Leaving
unfolding phase_of
leaves = refl

-- what was polled before the stop stays
polled_before : (left.caller 0).polled ≡ 0
unfolding phase_of
polled_before = refl

is_counted : slice_get (counted.caller 1).collecting.counted 0 ≡ Some true
unfolding phase_of
is_counted = refl

phase : outside.word Phase ≡ 10
unfolding phase_of
phase = refl

open_work : outside.word Pending ≡ 3
unfolding phase_of
open_work = refl

not_over : (outside.caller 1).collecting.over ≡ false
unfolding phase_of
not_over = refl

out : (outside.caller 0).position ≡ Out
unfolding phase_of
out = refl

-- the target stays until it is answered
still_wanted : (outside.caller 0).target ≡ Some 1
unfolding phase_of
still_wanted = refl

-- the steps of the stop are allowed in the views that they meet
may_raise : MayRaise (ground 64) 0 (begun.caller 0) (λ _. false) Want (Raises 1)
unfolding phase_of
may_raise = record { place = refl; act = refl; is_call = refl; thread = omega arith }

may_stop : MayStop (ground 64) 1 (heard.caller 1) (λ _. false) 9
unfolding phase_of
may_stop = record { idle = refl; wanted = omega arith; value = refl }

may_begin : MayBeginMarking (ground 64) 1 (counted.caller 1) (λ _. false) Pending (Stores 3)
unfolding phase_of
may_begin = record {
  place = refl;
  act = refl;
  collects = record { collector = refl; going = refl };
  stopped = refl;
  counted = λ i l. at i l;
  once = refl;
}
  where
    at : (i : ℕ) → i < 1 → slice_get (counted.caller 1).collecting.counted i ≡ Some true
    at zero l = refl
    at (suc i) l = absurd (omega arith)

-- and no Mark before the marking was begun
no_mark_before : MayMark (ground 64) 1 (counted.caller 1) (λ _. false) 10 → ⊥
unfolding phase_of
no_mark_before m = let e : true ≡ false = m.begun in cc

-- nor a second beginning
no_second : MayBeginMarking (ground 64) 1 (marking.caller 1) (λ _. false) Pending (Stores 3) → ⊥
unfolding phase_of
no_second m = let e : false ≡ true = m.once in cc

-- a thread that waits, where the phase word is n: as it is told by a load of the phase
abbrev waiting_at : ℕ → State
waiting_at n = by 0 (record wanting { word = put wanting.word Phase n }) K1 Phase (LoadsFor None)

abbrev is_answered : State → Type 0
is_answered s =
    ((s.caller 0).position ≡ Between) × ((s.caller 0).target ≡ None) × (s.history ≡ entry_of 0 (pauses (phase_of (s.word Phase))) Collect
    (replies.Epoch 1) 0 ∷ [])

-- its epoch is done in Idle(1), and in each phase of the next epoch
answered_idle : is_answered (waiting_at 8)
unfolding phase_of
answered_idle = (refl, refl, refl)

answered_next : is_answered (waiting_at 17)
unfolding phase_of
answered_next = (refl, refl, refl)

-- what was polled before such a stop stays, and a run phase is polled
polled_stays : ((waiting_at 17).caller 0).polled ≡ 0
unfolding phase_of
polled_stays = refl

polled_now : ((waiting_at 8).caller 0).polled ≡ 8
unfolding phase_of
polled_now = refl

-- in Weak(1) it goes on waiting
goes_on : (((waiting_at 11).caller 0).position ≡ Waiting) × (((waiting_at 11).caller 0).target ≡ Some 1) × ((waiting_at 11).history ≡ [])
unfolding phase_of
goes_on = (refl, refl, refl)

-- where it is out and comes back into Idle(1), it is answered by the load with which it is in; into Weak(1), it waits
abbrev back_at : ℕ → State
back_at n =
    by 0 (by 0 (by 0 (record outside { word = put outside.word Phase n }) K1 Phase (LoadsFor None)) K2 (StateOf 0) (Stores 1)) K1 Phase
    (LoadsFor None)

answered_back : is_answered (back_at 8)
unfolding phase_of
answered_back = (refl, refl, refl)

waits_back : (((back_at 11).caller 0).position ≡ Waiting) × (((back_at 11).caller 0).polled ≡ 11)
unfolding phase_of
waits_back = (refl, refl)

-- a thread that has ended is seen so, and is counted in a stop
abbrev over : State
over = by 1 (by 0 (start (ground 64) (λ _. Some (whole 64))) K2 (StateOf 0) (Stores 2)) K15 (StateOf 0) Loads

seen_ended : (slice_get (over.caller 1).collecting.ended 0 ≡ Some true) × (slice_get (over.caller 1).collecting.counted 0 ≡ Some true)
unfolding phase_of
seen_ended = (refl, refl)

-- then the collector may end, where no epoch is wanted
abbrev none_wanted : State
none_wanted = by 1 over K13 Want Loads

may_end : MayStopCollecting (ground 64) 1 (none_wanted.caller 1) (λ _. false) 2
unfolding phase_of
may_end = record {
  collects = record { collector = refl; going = refl };
  value = refl;
  idle = refl;
  ended = λ i l. at i l;
  none_wanted = omega arith;
}
  where
    at : (i : ℕ) → i < 1 → slice_get (none_wanted.caller 1).collecting.ended i ≡ Some true
    at zero l = refl
    at (suc i) l = absurd (omega arith)

-- the store of Mark forgets nobody who was counted
still_counted : slice_get (marking.caller 1).collecting.counted 0 ≡ Some true
unfolding phase_of
still_counted = refl
