-- A turn keeps what holds between any two turns.
use Rattle.std.proofs.Common.{◌≡◌, ◌≢◌, ℕ, ◌+◌, ◌<◌, ◌≤◌, Bool, List, [], length, Some}
use Rattle.std.proofs.Common.{slice_get, slice_set, sym, ap}
use Rattle.std.proofs.Common.{◌∙◌, subst, arith, length-set}
use Rattle.std.specs.Option.{option_map}
use Rattle.std.proofs.lemmas.List.{map-set, set-get_or}
use Rattle.std.proofs.lemmas.Option.{slice_get_within, slice_get-map, get_or_from_slice_get, same_Some}
use Rattle.kn_base.proofs.Updates.{get_set_here, get_set_else, split_at}
use Rattle.kn_graph.specs.Ground.{Ground}
use Rattle.kn_rule.specs.Rule.{fresh}
use Rattle.kn_rule.specs.Steps.{callers}
use Rattle.kn_steps.specs.Made.{LieAs, Stand}
use Rattle.kn_board.specs.World.{World, Sound, lies_at, stand_at, view_at}
use Rattle.kn_others.specs.Laws.{HeapStays, NoneComesUnswept, OthersStay, Turn}
use Rattle.kn_alloc.specs.Laws.{StaysAsPagesMove}
use Rattle.kn_collector.specs.Agree.{Agrees as Collects}
use Rattle.kn_collector.specs.Kept.{Kept}
use Rattle.kn_mutator.specs.Agree.{Agrees}
use Rattle.kn_mutator.specs.Mutating.{Mutating}
use Rattle.kn_trace.specs.Traces.{Trace}
use Rattle.kn_trace.specs.Between.{AgreesAt, CollectsAt, Holds, Stays, calls_of_all}

module _ (moves : StaysAsPagesMove) where
  -- an agreement stays where the pages of the frames that the view owns lie as they did
  as_pages_move : (m : Mutating) (a : Stand) (here here' : ℕ → Bool) → LieAs a.view here here' → Agrees m a here → Agrees m a here'
  as_pages_move m a here here' lie h = record {
    alloc = moves m.alloc a here here' h.alloc lie;
    marker = h.marker;
    heap = h.heap;
    caller = h.caller;
    knows = h.knows;
    planned = h.planned;
    births = h.births;
    width = h.width;
    addresses = h.addresses;
    at = h.at;
  }

module _ (others : OthersStay) (heaps : HeapStays) (swept : NoneComesUnswept) (moves : StaysAsPagesMove) where
  -- a turn of one caller leaves the agreement of another
  other_agrees : (w w' : World) (c d : ℕ) (m : Mutating) → Sound w → c < callers w.heap.sizes → d < callers w.heap.sizes → c ≢ d →
      Turn c w w' → AgreesAt w d m → AgreesAt w' d m
  other_agrees w w' c d m sound l k ne turn h =
      let other = others w w' c d sound l k ne turn in
      let same : stand_at d w' ≡ stand_at d w = λ i. record { heap = heaps w w' c turn i; by = d; view = other.0 i } in
      subst (λ (a : Stand). Agrees m a (lies_at w')) (sym same) (as_pages_move moves m (stand_at d w) (lies_at w) (lies_at w') other.1 h)

  -- and so it does that of the collector
  other_collects : (w w' : World) (c d : ℕ) (k : Kept) → Sound w → c < callers w.heap.sizes → d < callers w.heap.sizes → c ≢ d →
      Turn c w w' → Collects k (stand_at d w) → Collects k (stand_at d w')
  other_collects w w' c d k sound l m ne turn h =
      let other = others w w' c d sound l m ne turn in
      let same : stand_at d w' ≡ stand_at d w = λ i. record { heap = heaps w w' c turn i; by = d; view = other.0 i } in
      subst (Collects k) (sym same) h

  -- a turn of a caller before the finalizer's keeps what holds of the finalizer's
  module _ (t t' : Trace) (sound : Sound t.board) (h : Holds t) (c : ℕ) (least : c ≤ t.board.heap.sizes.threads)
      (turn : Turn c t.board t'.board) where
    heap_is : t'.board.heap ≡ t.board.heap
    heap_is = heaps t.board t'.board c turn

    threads_are : t'.board.heap.sizes.threads ≡ t.board.heap.sizes.threads
    threads_are = ap (λ (z : Ground). z.sizes.threads) heap_is

    view_stays : (d : ℕ) → d < callers t.board.heap.sizes → c ≢ d → view_at t'.board d ≡ view_at t.board d
    view_stays d near ne = (others t.board t'.board c d sound (omega arith) near ne turn).0

    rests : view_at t'.board (t'.board.heap.sizes.threads + 1) ≡ fresh t'.board.heap
    rests =
        ap (λ n. view_at t'.board (n + 1)) threads_are
        ∙ (view_stays (t.board.heap.sizes.threads + 1) (omega arith) (λ e. absurd (omega arith))
        ∙ (h.at_rest ∙ ap fresh (sym heap_is)))

  module _ (t t' : Trace) (sound : Sound t.board) (h : Holds t) (thread : ℕ) (after : Mutating) (near : thread < length t.mutators)
      (mutators : t'.mutators ≡ slice_set t.mutators thread after) (collector : t'.collector ≡ t.collector)
      (turn : Turn thread t.board t'.board) (agrees : AgreesAt t'.board thread after) where
    below : thread < t.board.heap.sizes.threads
    below = let count = h.count in omega arith

    least : thread ≤ t.board.heap.sizes.threads
    least = let b = below in omega arith

    is_caller : (c : ℕ) → c < length t.mutators → c < callers t.board.heap.sizes
    is_caller c l = let count = h.count in omega arith

    agree_set : (c : ℕ) (m : Mutating) → slice_get (slice_set t.mutators thread after) c ≡ Some m → AgreesAt t'.board c m
    agree_set c m = split_at (λ d. slice_get (slice_set t.mutators thread after) d ≡ Some m → AgreesAt t'.board d m) thread
        (λ is. subst (AgreesAt t'.board thread) (same_Some after m (sym (get_set_here t.mutators thread after near) ∙ is)) agrees) c
        (λ ne is.
        let there = sym (get_set_else t.mutators thread after c ne) ∙ is in
        other_agrees t.board t'.board thread c m sound (is_caller thread near)
        (is_caller c (slice_get_within t.mutators c m there)) ne turn (h.agree c m there))

    threads_same : t'.board.heap.sizes.threads ≡ t.board.heap.sizes.threads
    threads_same = threads_are t t' sound h thread least turn

    other : thread ≢ t.board.heap.sizes.threads
    other e = let b = below in absurd (omega arith)

    collects : CollectsAt t'.board t'.collector
    collects = subst (λ n. Collects t'.collector (stand_at n t'.board)) (sym threads_same)
        (subst (λ (k : Kept). Collects k (stand_at t.board.heap.sizes.threads t'.board)) (sym collector)
        (other_collects t.board t'.board thread t.board.heap.sizes.threads t.collector sound (is_caller thread near) (omega arith) other turn
        h.collects))

    pub goes_on : Holds t'
    goes_on = record {
      count = ap (λ (ms : List Mutating). length ms) mutators
          ∙ (length-set t.mutators thread after ∙ (h.count ∙ sym threads_same));
      agree = λ c m is. agree_set c m (ap (λ (ms : List Mutating). slice_get ms c) (sym mutators) ∙ is);
      collects = collects;
      swept = swept t.board t'.board thread sound (is_caller thread near) h.swept turn;
      at_rest = rests t t' sound h thread least turn;
    }

    pub stays : (before : Mutating) → slice_get t.mutators thread ≡ Some before → after.calls ≡ before.calls → Stays t t'
    stays before at same = record {
      heap = heap_is t t' sound h thread least turn;
      calls = ap calls_of_all mutators
          ∙ (map-set (λ (m : Mutating). m.calls) t.mutators thread after
          ∙ (ap (slice_set (calls_of_all t.mutators) thread)
          (same ∙ sym (get_or_from_slice_get (calls_of_all t.mutators) thread before.calls []
          (slice_get-map (λ (m : Mutating). m.calls) t.mutators thread ∙ ap (option_map (λ (m : Mutating). m.calls)) at)))
          ∙ set-get_or (calls_of_all t.mutators) thread []));
    }

  -- the same of a turn of the collector
  module _ (t t' : Trace) (sound : Sound t.board) (h : Holds t) (mutators : t'.mutators ≡ t.mutators)
      (turn : Turn t.board.heap.sizes.threads t.board t'.board)
      (agrees : Collects t'.collector (stand_at t.board.heap.sizes.threads t'.board)) where
    abbrev by : ℕ
    by = t.board.heap.sizes.threads

    same_threads : t'.board.heap.sizes.threads ≡ by
    same_threads = threads_are t t' sound h by (omega arith) turn

    its_agrees : (c : ℕ) (m : Mutating) → slice_get t'.mutators c ≡ Some m → AgreesAt t'.board c m
    its_agrees c m is =
        let there = ap (λ (ms : List Mutating). slice_get ms c) (sym mutators) ∙ is in
        let near = slice_get_within t.mutators c m there in
        let count = h.count in
        other_agrees t.board t'.board by c m sound (omega arith) (omega arith) (λ e. absurd (omega arith)) turn (h.agree c m there)

    pub collected : Holds t'
    collected = record {
      count = ap (λ (ms : List Mutating). length ms) mutators ∙ (h.count ∙ sym same_threads);
      agree = its_agrees;
      collects = subst (λ n. Collects t'.collector (stand_at n t'.board)) (sym same_threads) agrees;
      swept = swept t.board t'.board by sound (omega arith) h.swept turn;
      at_rest = rests t t' sound h by (omega arith) turn;
    }

    pub collected_stays : Stays t t'
    collected_stays = record { heap = heap_is t t' sound h by (omega arith) turn; calls = ap calls_of_all mutators }
