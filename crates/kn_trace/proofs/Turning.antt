-- A turn of an actor on its seat is a turn of the run.
use Rattle.std.proofs.Common.{◌≡◌, ℕ, ◌+◌, ◌<◌, ◌≤◌, inl, inr, Bool, true}
use Rattle.std.proofs.Common.{List, [], ◌∷◌, ◌++◌, length, map, Some, get_or, slice_get}
use Rattle.std.proofs.Common.{slice_set, refl, sym, ap}
use Rattle.std.proofs.Common.{◌∙◌, subst, arith, add-one}
use Rattle.std.proofs.lemmas.Option.{slice_get_read}
use Rattle.kn_rule.specs.Steps.{callers}
use Rattle.kn_steps.specs.declared.turns.Turn.{Turn}
use Rattle.kn_steps.specs.Turns.{MetUnswept, OneTurn}
use Rattle.kn_base.specs.declared.kinds.Code.{Code}
use Rattle.kn_base.specs.declared.places.Place.TheVariants.{Phase}
use Rattle.kn_rule.specs.Decoding.{phase_of}
use Rattle.kn_rule.specs.Views.{View}
use Rattle.kn_schedule.specs.Asks.{Standing, standing_of}
use Rattle.kn_schedule.specs.Schedules.{IsNext, Left}
use Rattle.kn_steps.specs.Made.{Stand}
use Rattle.kn_board.specs.World.{World, Sound, Seat, seat, seat_here, seat_stand, stand_at, view_at, word_at, SeatDid, SeatMoved}
use Rattle.kn_others.specs.Laws.{HeapStays, NoneComesUnswept, NoneIsMet, OthersStay, Turn as TurnOf}
use Rattle.kn_alloc.specs.Agree.{IsSweeping}
use Rattle.kn_alloc.specs.Laws.{StaysAsPagesMove}
use Rattle.kn_collector.specs.Agree.{Agrees as Collects}
use Rattle.kn_collector.specs.Kept.{Kept}
use Rattle.kn_collector.specs.Turns.{Turned as Collected}
use Rattle.kn_mutator.specs.Agree.{Agrees}
use Rattle.kn_mutator.specs.Mutating.{Mutating}
use Rattle.kn_mutator.specs.Turns.{Turned, lets_all}
use Rattle.kn_trace.specs.Traces.{IsCollectorTurn, IsThreadTurn, IsTurn, Runs, Trace, answers, ends, standing_in}
use Rattle.kn_trace.specs.Between.{AgreesAt, Holds, MakesCollection, MakesTurn, Running, Stays, Takes, TakesAll, trace_of}
use Rattle.kn_trace.proofs.Keeping.{collected, collected_stays, goes_on, stays}
use Rattle.kn_trace.proofs.Logs.{calls_alone, counts_are}

-- a turn of a seat is its caller's
by_stays : (s s' : Seat) → OneTurn seat_stand seat_here SeatDid SeatMoved s s' → s'.by ≡ s.by
by_stays s s' (inl one) = one.kept.0
by_stays s s' (inr one) = one.kept.0

seat_is : (w : World) (thread : ℕ) (s : Seat) → s.by ≡ thread → s.board ≡ w → s ≡ seat thread w
seat_is w thread s by board = λ i. record { by = by i; board = board i }

-- a mutator that agrees with what its thread knows agrees with its seat
pub seat_agrees : (w : World) (thread : ℕ) (m : Mutating) (s : Seat) → s.by ≡ thread → s.board ≡ w → AgreesAt w thread m →
    Agrees m (seat_stand s) (seat_here s)
seat_agrees w thread m s by board agrees =
    subst (λ (a : Seat). Agrees m (seat_stand a) (seat_here a)) (sym (seat_is w thread s by board)) agrees

module _ (w w' : World) (thread : ℕ) (m m' : Mutating) (s s' : Seat) (reply : Turn) (by : s.by ≡ thread) (board : s.board ≡ w)
    (into : w' ≡ s'.board) where
  pub made_turn : Sound w → Turned seat_stand seat_here SeatDid SeatMoved lets_all m s s' m' reply →
      OneTurn seat_stand seat_here SeatDid SeatMoved s s' →
      ((¬ IsSweeping m'.alloc.stage) → Agrees m' (seat_stand s') (seat_here s')) →
      (IsSweeping m'.alloc.stage → MetUnswept seat_stand seat_here SeatDid SeatMoved s s') → MakesTurn w thread m w' m'
  made_turn sound turned one agrees unswept =
      let e = seat_is w thread s by board in
      let f = seat_is w' thread s' (by_stays s s' one ∙ by) (sym into) in
      record {
        sound = sound;
        reply = reply;
        turned = subst (λ (a : Seat). Turned seat_stand seat_here SeatDid SeatMoved lets_all m a (seat thread w') m' reply) e
            (subst (λ (b : Seat). Turned seat_stand seat_here SeatDid SeatMoved lets_all m s b m' reply) f turned);
        one = subst (λ (a : Seat). OneTurn seat_stand seat_here SeatDid SeatMoved a (seat thread w')) e
            (subst (λ (b : Seat). OneTurn seat_stand seat_here SeatDid SeatMoved s b) f one);
        agrees = λ not. subst (λ (b : Seat). Agrees m' (seat_stand b) (seat_here b)) f (agrees not);
        unswept = λ is. subst (λ (a : Seat). MetUnswept seat_stand seat_here SeatDid SeatMoved a (seat thread w')) e
            (subst (λ (b : Seat). MetUnswept seat_stand seat_here SeatDid SeatMoved s b) f (unswept is));
      }

module _ (w w' : World) (by : ℕ) (k k' : Kept) (s s' : Seat) (reply : Turn) (is_by : s.by ≡ by) (board : s.board ≡ w)
    (into : w' ≡ s'.board) where
  pub made_collection : Sound w → Collected seat_stand seat_here SeatDid k s s' k' reply →
      OneTurn seat_stand seat_here SeatDid SeatMoved s s' → Collects k' (seat_stand s') → MakesCollection w by k w' k'
  made_collection sound turned one agrees =
      let e = seat_is w by s is_by board in
      let f = seat_is w' by s' (by_stays s s' one ∙ is_by) (sym into) in
      record {
        sound = sound;
        reply = reply;
        turned = subst (λ (a : Seat). Collected seat_stand seat_here SeatDid k a (seat by w') k' reply) e
            (subst (λ (b : Seat). Collected seat_stand seat_here SeatDid k s b k' reply) f turned);
        one = subst (λ (a : Seat). OneTurn seat_stand seat_here SeatDid SeatMoved a (seat by w')) e
            (subst (λ (b : Seat). OneTurn seat_stand seat_here SeatDid SeatMoved s b) f one);
        agrees = subst (λ (b : Seat). Collects k' (seat_stand b)) f agrees;
      }

-- what holds does not rest on what is left of the order
pub holds_so : (w : World) (ms : List Mutating) (k : Kept) (left left' : Left) →
    Holds (trace_of w (record { mutators = ms; collector = k; left = left })) →
    Holds (trace_of w (record { mutators = ms; collector = k; left = left' }))
holds_so w ms k left left' h =
    record { count = h.count; agree = h.agree; collects = h.collects; swept = h.swept; at_rest = h.at_rest }

-- what is read at an index
pub read_at : (ms : List Mutating) (i thread : ℕ) (m : Mutating) → i ≡ thread → thread < length ms → m ≡ get_or ms i m →
    slice_get ms thread ≡ Some m
read_at ms i thread m e near is = slice_get_read ms (length ms) thread m refl near (is ∙ ap (λ k. get_or ms k m) e)

-- the phase word is the one that the collector stored last
phase_is : (w : World) → Sound w → word_at w Phase ≡ (view_at w w.heap.sizes.threads).collecting.stored
phase_is w sound =
    let s = sound.1 in
    s.2.words_are Phase (omega arith)
    ∙ (s.1.1.stands.timed.by_collector
    ∙ ap (λ (v : View). v.collecting.stored) (sym (s.2.views_are w.heap.sizes.threads (omega arith))))

-- the schedule that was asked by flags, counts and a code was asked by the actors and the phase word
module _ (t : Trace) (holds : Holds t) (sound : Sound t.board) (flags asked_flags : List Bool) (counts asked_counts : List ℕ) (code : Code)
    (threads : ℕ) (same_flags : asked_flags ≡ flags) (flags_is : flags ≡ ends t.mutators t.collector) (same_counts : asked_counts ≡ counts)
    (counts_is : counts ≡ map (λ m. length m.log) t.mutators ++ 0 ∷ []) (threads_is : threads ≡ length t.mutators)
    (stored : (a : Stand) → Collects t.collector a → (phase_of a.view.collecting.stored).code ≡ code) where
  code_is : code ≡ (phase_of (word_at t.board Phase)).code
  code_is =
      sym (ap (λ n. (phase_of n).code) (phase_is t.board sound)
      ∙ stored (stand_at t.board.heap.sizes.threads t.board) holds.collects)

  standing_is : standing_of asked_flags asked_counts code ≡ standing_in t
  standing_is =
      let calls = counts_are t.mutators (λ i m is. calls_alone t.board i m (holds.agree i m is)) in
      ap (λ (x : List Bool). standing_of x asked_counts code) (same_flags ∙ flags_is)
      ∙ (ap (λ (x : List ℕ). standing_of (ends t.mutators t.collector) x code)
      (same_counts ∙ (counts_is ∙ ap (λ (x : List ℕ). x ++ 0 ∷ []) calls))
      ∙ ap (λ (x : Code). standing_of (ends t.mutators t.collector) (answers t.mutators) x) code_is)

  pub next_is : (left left' : Left) (actor : ℕ) → IsNext threads (standing_of asked_flags asked_counts code) left actor left' →
      IsNext (length t.mutators) (standing_in t) left actor left'
  next_is left left' actor next =
      subst (λ n. IsNext n (standing_in t) left actor left') threads_is
      (subst (λ (x : Standing). IsNext threads x left actor left') standing_is next)

module _ (others : OthersStay) (heaps : HeapStays) (swept : NoneComesUnswept) (moves : StaysAsPagesMove) where
  module _ (met : NoneIsMet) (w w' : World) (r : Running) (thread i : ℕ) (before after : Mutating) (e : i ≡ thread)
      (holds : Holds (trace_of w r)) (near : thread < length r.mutators) (at : slice_get r.mutators thread ≡ Some before)
      (made : MakesTurn w thread before w' after) where
    abbrev later : Running
    later = record r { mutators = slice_set r.mutators i after }

    mutators_are : slice_set r.mutators i after ≡ slice_set r.mutators thread after
    mutators_are = ap (λ k. slice_set r.mutators k after) e

    pub agrees_next : AgreesAt w' thread after
    agrees_next =
        let count = holds.count in
        let caller : thread < callers w.heap.sizes = omega arith in
        made.agrees (λ is. met w w' thread made.sound caller holds.swept (made.unswept is))

    pub holds_next : Holds (trace_of w' later)
    holds_next =
        goes_on others heaps swept moves (trace_of w r) (trace_of w' later) made.sound holds thread after near mutators_are refl made.one agrees_next

    pub stays_next : Stays (trace_of w r) (trace_of w' later)
    stays_next = stays others heaps swept moves (trace_of w r) (trace_of w' later) made.sound holds thread after near mutators_are refl made.one
        agrees_next before at made.turned.0.calls

    pub turn_next : IsThreadTurn thread (trace_of w r) (trace_of w' later)
    turn_next = record {
      before = before;
      after = after;
      reply = made.reply;
      at = at;
      turned = made.turned;
      mutators = mutators_are;
      collector = refl;
    }

  module _ (w w' : World) (r : Running) (by : ℕ) (k' : Kept) (behind : by ≡ length r.mutators) (holds : Holds (trace_of w r))
      (made : MakesCollection w by r.collector w' k') where
    abbrev collects_on : Running
    collects_on = record r { collector = k' }

    by_is : by ≡ w.heap.sizes.threads
    by_is = behind ∙ holds.count

    turn_of : TurnOf w.heap.sizes.threads w w'
    turn_of = subst (λ n. TurnOf n w w') by_is made.one

    agrees_behind : Collects k' (stand_at w.heap.sizes.threads w')
    agrees_behind = subst (λ n. Collects k' (stand_at n w')) by_is made.agrees

    pub holds_behind : Holds (trace_of w' collects_on)
    holds_behind =
        collected others heaps swept moves (trace_of w r) (trace_of w' collects_on) made.sound holds refl turn_of agrees_behind

    pub stays_behind : Stays (trace_of w r) (trace_of w' collects_on)
    stays_behind =
        collected_stays others heaps swept moves (trace_of w r) (trace_of w' collects_on) made.sound holds refl turn_of agrees_behind

    pub turn_behind : IsCollectorTurn by (trace_of w r) (trace_of w' collects_on)
    turn_behind = record { behind = behind; reply = made.reply; turned = made.turned; mutators = refl }

-- the turn of the actor that is next is a turn of the run
pub thread_takes : (t mid t' : Trace) (actor : ℕ) (left : Left) → mid ≡ record t { left = left } → t'.left ≡ mid.left →
    IsNext (length t.mutators) (standing_in t) t.left actor left → IsThreadTurn actor mid t' → IsTurn t t'
thread_takes t mid t' actor left mid_is left_is next turn =
    let turn' = subst (λ (x : Trace). IsThreadTurn actor x t') mid_is turn in
    record {
      actor = actor;
      next = subst (λ (l : Left). IsNext (length t.mutators) (standing_in t) t.left actor l) (sym (left_is ∙ ap (λ (x : Trace). x.left) mid_is)) next;
      turn = inl (record {
        before = turn'.before;
        after = turn'.after;
        reply = turn'.reply;
        at = turn'.at;
        turned = turn'.turned;
        mutators = turn'.mutators;
        collector = turn'.collector;
      });
    }

pub collector_takes : (t mid t' : Trace) (actor : ℕ) (left : Left) → mid ≡ record t { left = left } → t'.left ≡ mid.left →
    IsNext (length t.mutators) (standing_in t) t.left actor left → IsCollectorTurn actor mid t' → IsTurn t t'
collector_takes t mid t' actor left mid_is left_is next turn =
    let turn' = subst (λ (x : Trace). IsCollectorTurn actor x t') mid_is turn in
    record {
      actor = actor;
      next = subst (λ (l : Left). IsNext (length t.mutators) (standing_in t) t.left actor l) (sym (left_is ∙ ap (λ (x : Trace). x.left) mid_is)) next;
      turn = inr (record { behind = turn'.behind; reply = turn'.reply; turned = turn'.turned; mutators = turn'.mutators });
    }

pub one_more : (n : ℕ) (t mid t' : Trace) → Runs n t mid → IsTurn mid t' → Runs (n + 1) t t'
one_more n t mid t' runs turn = subst (λ k. Runs k t t') (sym (add-one n)) (mid, runs, turn)

pub stays_more : (t mid t' : Trace) → Stays t mid → Stays mid t' → Stays t t'
stays_more t mid t' a b = record { heap = b.heap ∙ a.heap; calls = b.calls ∙ a.calls }

pub none_yet : (t : Trace) → Stays t t
none_yet t = record { heap = refl; calls = refl }

-- all actors have ended behind so many turns
pub all_ended : (b : Bool) (limit n : ℕ) (t mid t' : Trace) → b ≡ true → Takes b mid t' → Runs n t mid → n ≤ limit → TakesAll limit t t'
all_ended b limit n t mid t' is takes runs few =
    let over = subst (λ x. Takes x mid t') is takes in
    record {
      turns = n;
      last = mid;
      runs = runs;
      few = few;
      board = sym over.0;
      mutators = sym over.1;
      collector = sym over.2;
      over = inr over.3;
    }

-- all turns were made
pub all_made : (limit n : ℕ) (t last : Trace) → n ≡ limit → n ≤ limit → Runs n t last → TakesAll limit t last
all_made limit n t last is few runs =
    record { turns = n; last = last; runs = runs; few = few; board = refl; mutators = refl; collector = refl; over = inl is }
