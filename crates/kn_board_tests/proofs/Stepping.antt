-- A step of one of two callers, made on its seat: what it leaves of the other one.
use Rattle.std.proofs.Common.{◌≡◌, ◌≢◌, ℕ, ◌<◌, inl, inr, sym, ap, ◌∙◌, subst, arith}
use Rattle.kn_rule.specs.Moves.{view_after}
use Rattle.kn_rule.specs.Steps.{Found, Step, callers}
use Rattle.kn_steps.specs.Made.{Allowed, Made, Stand}
use Rattle.kn_steps.specs.Turns.{OneTurn}
use Rattle.kn_board.specs.World.{Seat, SeatDid, SeatMoved, Sound, World, lies_at, seat, seat_here, seat_stand, stand_at, view_at}
use Rattle.kn_collector.specs.Kept.{Kept}
use Rattle.kn_collector.specs.Agree.{Agrees}
use Rattle.kn_others.specs.Laws.{HeapStays, OthersStay, Turn}

module _ (w : World) (c : ℕ) (s : Seat) (by : s.by ≡ c) (board : s.board ≡ w) where
  seat_is : s ≡ seat c w
  seat_is = λ i. record { by = by i; board = board i }

  -- what the board allows, the seat allows
  pub allowed : (d : Step) → Allowed (stand_at c w) (lies_at w) d → Allowed (seat_stand s) (seat_here s) d
  allowed d may = subst (λ (a : Seat). Allowed (seat_stand a) (seat_here a) d) (sym seat_is) may

  -- the step that the seat made
  module _ (d : Step) (f : Found) (s' : Seat) (w' : World) (into : w' ≡ s'.board)
      (made : Made (seat_stand s) (seat_here s) d f (seat_stand s') (seat_here s')) (did : SeatDid s d f s') where
    then_is : s' ≡ seat c w'
    then_is = λ i. record { by = (did.0 ∙ by) i; board = sym into i }

    made_on : Made (stand_at c w) (lies_at w) d f (stand_at c w') (lies_at w')
    made_on =
        subst (λ (a : Seat). Made (seat_stand a) (seat_here a) d f (stand_at c w') (lies_at w')) seat_is
        (subst (λ (b : Seat). Made (seat_stand s) (seat_here s) d f (seat_stand b) (seat_here b)) then_is made)

    did_on : SeatDid (seat c w) d f (seat c w')
    did_on =
        subst (λ (a : Seat). SeatDid a d f (seat c w')) seat_is (subst (λ (b : Seat). SeatDid s d f b) then_is did)

    turn : Turn c w w'
    turn = inl (record { step = d; found = f; made = made_on; kept = did_on })

    view_then : view_at w' c ≡ view_after w.heap c (view_at w c) d f
    view_then = ap (λ (x : Stand). x.view) made_on.view

    module _ (others : OthersStay) (heaps : HeapStays) (sound : Sound w) where
      heap_then : w'.heap ≡ w.heap
      heap_then = heaps w w' c turn

      other_then : (e : ℕ) → c < callers w.heap.sizes → e < callers w.heap.sizes → c ≢ e → view_at w' e ≡ view_at w e
      other_then e l m ne = (others w w' c e sound l m ne turn).0

-- the mutator of one thread made a step: its view is the rule's, the heap stays, and so does what the collector agrees with
pub mutator_steps : OthersStay → HeapStays → (w : World) → Sound w → w.heap.sizes.threads ≡ 1 → (s : Seat) → s.by ≡ 0 → s.board ≡ w →
    (d : Step) (f : Found) (s' : Seat) (w' : World) → w' ≡ s'.board → Made (seat_stand s) (seat_here s) d f (seat_stand s') (seat_here s') →
    SeatDid s d f s' →
    (view_at w' 0 ≡ view_after w.heap 0 (view_at w 0) d f) × (w'.heap ≡ w.heap) × ((k : Kept) → Agrees k (stand_at 1 w) → Agrees k (stand_at 1 w'))
mutator_steps others heaps w sound one s by board d f s' w' into made did =
    let heap = heap_then w 0 s by board d f s' w' into made did others heaps sound in
    let other = other_then w 0 s by board d f s' w' into made did others heaps sound 1 (omega (arith, one)) (omega (arith, one)) (λ e. cc) in
    let same : stand_at 1 w' ≡ stand_at 1 w = λ i. record { heap = heap i; by = 1; view = other i } in (
      view_then w 0 s by board d f s' w' into made did,
      heap,
      λ k g. subst (Agrees k) (sym same) g,
    )

-- the collector of one thread made a turn: it agrees with its view on the board, the heap stays, and so does the mutator's view
pub collector_turns : OthersStay → HeapStays → (w : World) → Sound w → w.heap.sizes.threads ≡ 1 → (s : Seat) → s.by ≡ 1 → s.board ≡ w →
    (s' : Seat) (w' : World) → w' ≡ s'.board → OneTurn seat_stand seat_here SeatDid SeatMoved s s' → (k' : Kept) →
    Agrees k' (seat_stand s') → Agrees k' (stand_at 1 w') × (w'.heap ≡ w.heap) × (view_at w' 0 ≡ view_at w 0)
collector_turns others heaps w sound one s by board s' w' into t k' g =
    let before : s ≡ seat 1 w = seat_is w 1 s by board in
    let behind : s' ≡ seat 1 w' = λ i. record { by = (by_stays t ∙ by) i; board = sym into i } in
    let turn : Turn 1 w w' =
    subst (λ (a : Seat). OneTurn seat_stand seat_here SeatDid SeatMoved a (seat 1 w')) before
    (subst (λ (b : Seat). OneTurn seat_stand seat_here SeatDid SeatMoved s b) behind t) in (
      subst (λ (b : Seat). Agrees k' (seat_stand b)) behind g,
      heaps w w' 1 turn,
      (others w w' 1 0 sound (omega (arith, one)) (omega (arith, one)) (λ e. cc) turn).0,
    )
  where
    by_stays : OneTurn seat_stand seat_here SeatDid SeatMoved s s' → s'.by ≡ s.by
    by_stays (inl made) = made.kept.0
    by_stays (inr moved) = moved.kept.0

-- a collector that agrees with its view on the board agrees with its seat
pub seat_agrees : (w : World) (s : Seat) → s.by ≡ 1 → s.board ≡ w → (k : Kept) → Agrees k (stand_at 1 w) → Agrees k (seat_stand s)
seat_agrees w s by board k g = subst (λ (a : Seat). Agrees k (seat_stand a)) (sym (seat_is w 1 s by board)) g
