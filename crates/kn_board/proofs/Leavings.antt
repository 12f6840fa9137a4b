-- What each outcome leaves: a place for each frame where there was one, the log, and that it says nothing or answers one call of
-- its caller, or is one pause.
use Rattle.std.proofs.Common.{◌≡◌, ℕ, ◌==◌, Bool, true, false, cond, replicate, length, Option, Some, None, refl, ◌∙◌, length-set}
use Rattle.std.proofs.lemmas.List.{length-replicate}
use Rattle.kn_base.specs.declared.places.Place.{Place}
use Rattle.kn_base.specs.declared.kinds.Code.{Code}
use Rattle.kn_base.specs.declared.kinds.Code.TheVariants as codes
use Rattle.kn_base.specs.Sizes.{frame_count}
use Rattle.kn_layout.specs.declared.layouts.FieldKind.{FieldKind}
use Rattle.kn_graph.specs.declared.calls.Call.{Call}
use Rattle.kn_graph.specs.declared.calls.Call.TheVariants.{Get, Read, GlobalGet}
use Rattle.kn_graph.specs.declared.calls.Reply.{Reply}
use Rattle.kn_graph.specs.declared.entries.Event.{Event}
use Rattle.kn_graph.specs.Ground.{Ground}
use Rattle.kn_rule.specs.declared.steps.Kind.{Kind}
use Rattle.kn_rule.specs.declared.steps.Kind.TheVariants.{K1, K2, K3, K4, K5, K6}
use Rattle.kn_rule.specs.declared.steps.Kind.TheVariants.{K7, K8, K9, K10, K11, K12, K13, K14, K15, K16}
use Rattle.kn_rule.specs.declared.steps.Kind.TheVariants.{K17, K18, K19, K20, K21, K22, K23, K24}
use Rattle.kn_rule.specs.declared.steps.Action.{Action}
use Rattle.kn_rule.specs.declared.steps.Action.TheVariants.{Stores}
use Rattle.kn_rule.specs.declared.positions.Position.{Position}
use Rattle.kn_rule.specs.declared.positions.Position.TheVariants.{Entering, Between, Calling, Waiting, Leaving}
use Rattle.kn_rule.specs.declared.parts.Taken.{Taken}
use Rattle.kn_rule.specs.Views.{View}
use Rattle.kn_rule.specs.Steps.{Found, Outcome, frame_in, state_in, quietly}
use Rattle.kn_rule.specs.Requests.{field_of, birth_of}
use Rattle.kn_rule.specs.Outcomes.{begin_with, poll_run, poll_at, write_at, header_read, header_for_call, field_read, load_body, store_at}
use Rattle.kn_rule.specs.Outcomes.{global_read, birth_said, born_at, full_if, looked_at, claimed_if, home_if, home_at, clear_at, outcome}
use Rattle.kn_rule.specs.Outcomes.{epoch_told, waits_on, enters_for, waits_at, wanted_at, paused_at, phase_stored, state_loaded, count_at}
use Rattle.kn_board.specs.Room.{IsCall, IsPause, IsAtMostOne, IsOfKind}

module _ (z : Ground) (c : ℕ) (v : View) (p : Place) (a : Action) (f : Found) where
  abbrev Wide : View → Type 0
  Wide u = (length u.seen ≡ frame_count z.sizes) × (length u.refused ≡ frame_count z.sizes)
      × (length u.collecting.counted ≡ z.sizes.threads) × (length u.collecting.ended ≡ z.sizes.threads) × (u.log ≡ v.log)

  -- the view has a place for each frame, and for each mutator
  abbrev HasPlaces : Type 0
  HasPlaces = (length v.seen ≡ frame_count z.sizes) × (length v.refused ≡ frame_count z.sizes)
      × (length v.collecting.counted ≡ z.sizes.threads) × (length v.collecting.ended ≡ z.sizes.threads)

  abbrev pub LeavesOf : (Event → Type 0) → Outcome → Type 0
  LeavesOf IsSort o = (HasPlaces → Wide o.view) × IsAtMostOne IsSort c o.says

  abbrev Leaves : Outcome → Type 0
  Leaves = LeavesOf IsCall

  same : HasPlaces → Wide v
  same wide = (wide.0, wide.1, wide.2, wide.3, refl)

  begin_leaves : (call : Call) (o : Option Reply) → Leaves (begin_with z c v p a f call o)
  begin_leaves call None = (λ wide. (length-replicate (frame_count z.sizes) None, length-replicate (frame_count z.sizes) false, wide.2, wide.3, refl), tt)
  begin_leaves call (Some reply) =
      (λ wide. (length-replicate (frame_count z.sizes) None, length-replicate (frame_count z.sizes) false, wide.2, wide.3, refl), (refl, tt))

  run_leaves : (next : Option Call) → Leaves (poll_run z c v p a f next)
  run_leaves None = (same, tt)
  run_leaves (Some call) = begin_leaves call _

  waited_leaves : (b : Bool) (word n : ℕ) → Leaves (cond b (epoch_told z c v p a f word n) (waits_on z c v p a f))
  waited_leaves true word n = (same, (refl, tt))
  waited_leaves false word n = (same, tt)

  enters_leaves : (t : Option ℕ) (next : Option Call) → Leaves (enters_for z c v p a f t next)
  enters_leaves None next = run_leaves next
  enters_leaves (Some n) next = waited_leaves _ f.word n

  stop_leaves : (b : Bool) (word n : ℕ) → Leaves (cond b (epoch_told z c v p a f word n) (quietly (record v { position = Leaving })))
  stop_leaves true word n = (same, (refl, tt))
  stop_leaves false word n = (same, tt)

  waits_leaves : (run : Bool) (t : Option ℕ) → Leaves (waits_at z c v p a f run t)
  waits_leaves run None = (same, tt)
  waits_leaves true (Some n) = waited_leaves _ f.word n
  waits_leaves false (Some n) = stop_leaves _ v.polled n

  poll_leaves : (at : Position) (run : Bool) (next : Option Call) → Leaves (poll_at z c v p a f at run next)
  poll_leaves Entering true next = enters_leaves v.target next
  poll_leaves Entering false next = (same, tt)
  poll_leaves Between true next = run_leaves next
  poll_leaves Between false next = (same, tt)
  poll_leaves Waiting run next = waits_leaves run v.target
  poll_leaves _ run next = (same, tt)

  write_leaves : (at : Position) → Leaves (write_at z c v p a f at)
  write_leaves (Calling call) = (same, (refl, tt))
  write_leaves _ = (same, tt)

  read_leaves : (call : Call) (k : Option FieldKind) (is : Bool) → Leaves (header_read z c v p a f call k is)
  read_leaves call None is = (same, (refl, tt))
  read_leaves call (Some k) false = (same, (refl, tt))
  read_leaves call (Some k) true = (same, tt)

  header_leaves : (call : Call) (t : Option (ℕ × ℕ × FieldKind)) → Leaves (header_for_call z c v p a f call t)
  header_leaves call None = (same, tt)
  header_leaves call (Some t) = read_leaves call _ _

  field_leaves : (call : Call) → Leaves (field_read z c v p a f call)
  field_leaves (Get r s i) = (same, (refl, tt))
  field_leaves (Read s i) = (same, (refl, tt))
  field_leaves _ = (same, tt)

  load_leaves : (at : Position) (h : Option ℕ) → Leaves (load_body z c v p a f at h)
  load_leaves (Calling call) None = header_leaves call (field_of call)
  load_leaves (Calling call) (Some h) = field_leaves call
  load_leaves _ h = (same, tt)

  store_leaves : (at : Position) → Leaves (store_at z c v p a f at)
  store_leaves (Calling call) = (same, (refl, tt))
  store_leaves _ = (same, tt)

  global_leaves : (at : Position) → Leaves (global_read z c v p a f at)
  global_leaves (Calling (GlobalGet r i)) = (same, (refl, tt))
  global_leaves (Calling call) = (same, tt)
  global_leaves _ = (same, tt)

  birth_leaves : (call : Call) (b : Option (ℕ × ℕ × ℕ)) → Leaves (birth_said z c v p a f call b)
  birth_leaves call None = (same, tt)
  birth_leaves call (Some b) = (same, (refl, tt))

  born_leaves : (at : Position) → Leaves (born_at z c v p a f at)
  born_leaves (Calling call) = birth_leaves call (birth_of z call)
  born_leaves _ = (same, tt)

  full_leaves : (b : Bool) (call : Call) (u : View) → (HasPlaces → Wide u) → Leaves (full_if z c v p a f b call u)
  full_leaves true call u w = (w, (refl, tt))
  full_leaves false call u w = (w, tt)

  look_leaves : (at : Position) → Leaves (looked_at z c v p a f at)
  look_leaves (Calling call) = full_leaves _ call _ (λ wide. (length-set v.seen (frame_in p) (Some f.word) ∙ wide.0, wide.1, wide.2, wide.3, refl))
  look_leaves _ = (same, tt)

  claim_leaves : (won : Bool) → Leaves (claimed_if z c v p a f won)
  claim_leaves true = (same, tt)
  claim_leaves false = look_leaves v.position

  gone_leaves : (b : Bool) (call : Call) → Leaves (home_if z c v p a f b call)
  gone_leaves true call = full_leaves _ call _ (λ wide. (wide.0, length-set v.refused (frame_in p) true ∙ wide.1, wide.2, wide.3, refl))
  gone_leaves false call = (same, tt)

  home_leaves : (at : Position) → Leaves (home_at z c v p a f at)
  home_leaves (Calling call) = gone_leaves _ call
  home_leaves _ = (same, tt)

  clear_leaves : (at : Position) (t : Option Taken) → Leaves (clear_at z c v p a f at t)
  clear_leaves (Calling call) None = (same, tt)
  clear_leaves (Calling call) (Some t) = (same, tt)
  clear_leaves _ None = (same, tt)
  clear_leaves _ (Some t) = (same, tt)

  want_leaves : (at : Position) → Leaves (wanted_at z c v p a f at)
  want_leaves (Calling call) = (same, tt)
  want_leaves _ = (same, tt)

  counted_long : (b : Bool) → HasPlaces → length (cond b (replicate z.sizes.threads false) v.collecting.counted) ≡ z.sizes.threads
  counted_long true wide = length-replicate z.sizes.threads false
  counted_long false wide = wide.2

  pause_said : (code : Code) (e : ℕ) → IsAtMostOne IsPause c (paused_at z c v p a f code e)
  pause_said codes.Weak e = (refl, tt)
  pause_said _ e = tt

  phase_leaves : LeavesOf IsPause (phase_stored z c v p a f)
  phase_leaves = (λ wide. (wide.0, wide.1, counted_long _ wide, wide.3, refl), pause_said _ _)

  load_state_leaves : Leaves (state_loaded z c v p a f)
  load_state_leaves = (
    λ wide. (
      wide.0,
      wide.1,
      length-set v.collecting.counted (state_in p) (cond (f.word == 1) false true) ∙ wide.2,
      length-set v.collecting.ended (state_in p) (f.word == 2) ∙ wide.3,
      refl,
    ),
    tt,
  )

  count_leaves : (b : Action) → Leaves (count_at z c v p a f b)
  count_leaves (Stores n) = (same, tt)
  count_leaves _ = (same, tt)

  pub outcome_leaves : (k : Kind) → LeavesOf (IsOfKind k) (outcome z c v p a f k)
  outcome_leaves K1 = poll_leaves v.position _ _
  outcome_leaves K2 = (same, tt)
  outcome_leaves K3 = write_leaves v.position
  outcome_leaves K4 = load_leaves v.position v.header
  outcome_leaves K5 = store_leaves v.position
  outcome_leaves K6 = global_leaves v.position
  outcome_leaves K7 = store_leaves v.position
  outcome_leaves K8 = born_leaves v.position
  outcome_leaves K9 = look_leaves v.position
  outcome_leaves K10 = claim_leaves _
  outcome_leaves K11 = home_leaves v.position
  outcome_leaves K12 = clear_leaves v.position v.taken
  outcome_leaves K13 = want_leaves v.position
  outcome_leaves K14 = phase_leaves
  outcome_leaves K15 = load_state_leaves
  outcome_leaves K16 = count_leaves a
  outcome_leaves K17 = (same, tt)
  outcome_leaves K18 = (same, tt)
  outcome_leaves K19 = (same, tt)
  outcome_leaves K20 = (same, tt)
  outcome_leaves K21 = (same, tt)
  outcome_leaves K22 = (same, tt)
  outcome_leaves K23 = (same, tt)
  outcome_leaves K24 = (same, tt)
  outcome_leaves _ = (same, tt)
