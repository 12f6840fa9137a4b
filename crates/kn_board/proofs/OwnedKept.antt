-- Steps that leave what their caller owns.
use Rattle.std.proofs.Common.{◌≡◌, ℕ, Bool, true, false, cond, Option, Some, None, slice_set, refl}
use Rattle.kn_base.specs.declared.places.Place.{Place}
use Rattle.kn_layout.specs.declared.layouts.FieldKind.{FieldKind}
use Rattle.kn_graph.specs.declared.calls.Call.{Call}
use Rattle.kn_graph.specs.declared.calls.Call.TheVariants.{Get, Read, GlobalGet}
use Rattle.kn_graph.specs.declared.calls.Reply.{Reply}
use Rattle.kn_graph.specs.Ground.{Ground}
use Rattle.kn_rule.specs.declared.steps.Action.{Action}
use Rattle.kn_rule.specs.declared.positions.Position.{Position}
use Rattle.kn_rule.specs.declared.positions.Position.TheVariants.{Entering, Between, Calling, Waiting, Leaving}
use Rattle.kn_rule.specs.Views.{View}
use Rattle.kn_rule.specs.Steps.{Found, Outcome, frame_in, quietly}
use Rattle.kn_rule.specs.Requests.{field_of, birth_of}
use Rattle.kn_rule.specs.Outcomes.{begin_with, poll_run, poll_at, write_at, header_read, header_for_call, field_read, load_body, store_at}
use Rattle.kn_rule.specs.Outcomes.{global_read, birth_said, born_at, full_if, looked_at, home_if, home_at, epoch_told, waits_on, enters_for, waits_at}
use Rattle.kn_rule.specs.Outcomes.{wanted_at}

module _ (z : Ground) (c : ℕ) (v : View) (p : Place) (a : Action) (f : Found) where
  abbrev Keeps : Outcome → Type 0
  Keeps o = o.view.owned ≡ v.owned

  begin_keeps : (call : Call) (o : Option Reply) → Keeps (begin_with z c v p a f call o)
  begin_keeps call None = refl
  begin_keeps call (Some reply) = refl

  run_keeps : (next : Option Call) → Keeps (poll_run z c v p a f next)
  run_keeps None = refl
  run_keeps (Some call) = begin_keeps call _

  waited_keeps : (b : Bool) (word n : ℕ) → Keeps (cond b (epoch_told z c v p a f word n) (waits_on z c v p a f))
  waited_keeps true word n = refl
  waited_keeps false word n = refl

  enters_keeps : (t : Option ℕ) (next : Option Call) → Keeps (enters_for z c v p a f t next)
  enters_keeps None next = run_keeps next
  enters_keeps (Some n) next = waited_keeps _ f.word n

  stop_keeps : (b : Bool) (word n : ℕ) → Keeps (cond b (epoch_told z c v p a f word n) (quietly (record v { position = Leaving })))
  stop_keeps true word n = refl
  stop_keeps false word n = refl

  waits_keeps : (run : Bool) (t : Option ℕ) → Keeps (waits_at z c v p a f run t)
  waits_keeps run None = refl
  waits_keeps true (Some n) = waited_keeps _ f.word n
  waits_keeps false (Some n) = stop_keeps _ v.polled n

  pub want_keeps : (at : Position) → Keeps (wanted_at z c v p a f at)
  want_keeps (Calling call) = refl
  want_keeps _ = refl

  pub poll_keeps : (at : Position) (run : Bool) (next : Option Call) → Keeps (poll_at z c v p a f at run next)
  poll_keeps Entering true next = enters_keeps v.target next
  poll_keeps Entering false next = refl
  poll_keeps Between true next = run_keeps next
  poll_keeps Between false next = refl
  poll_keeps Waiting run next = waits_keeps run v.target
  poll_keeps _ run next = refl

  pub write_keeps : (at : Position) → Keeps (write_at z c v p a f at)
  write_keeps (Calling call) = refl
  write_keeps _ = refl

  read_keeps : (call : Call) (k : Option FieldKind) (same : Bool) → Keeps (header_read z c v p a f call k same)
  read_keeps call None same = refl
  read_keeps call (Some k) false = refl
  read_keeps call (Some k) true = refl

  header_keeps : (call : Call) (t : Option (ℕ × ℕ × FieldKind)) → Keeps (header_for_call z c v p a f call t)
  header_keeps call None = refl
  header_keeps call (Some t) = read_keeps call _ _

  field_keeps : (call : Call) → Keeps (field_read z c v p a f call)
  field_keeps (Get r s i) = refl
  field_keeps (Read s i) = refl
  field_keeps _ = refl

  pub load_keeps : (at : Position) (h : Option ℕ) → Keeps (load_body z c v p a f at h)
  load_keeps (Calling call) None = header_keeps call (field_of call)
  load_keeps (Calling call) (Some h) = field_keeps call
  load_keeps _ h = refl

  pub store_keeps : (at : Position) → Keeps (store_at z c v p a f at)
  store_keeps (Calling call) = refl
  store_keeps _ = refl

  pub global_keeps : (at : Position) → Keeps (global_read z c v p a f at)
  global_keeps (Calling (GlobalGet r i)) = refl
  global_keeps (Calling call) = refl
  global_keeps _ = refl

  birth_keeps : (call : Call) (b : Option (ℕ × ℕ × ℕ)) → Keeps (birth_said z c v p a f call b)
  birth_keeps call None = refl
  birth_keeps call (Some b) = refl

  pub born_keeps : (at : Position) → Keeps (born_at z c v p a f at)
  born_keeps (Calling call) = birth_keeps call (birth_of z call)
  born_keeps _ = refl

  pub full_keeps : (b : Bool) (call : Call) (u : View) → (full_if z c v p a f b call u).view.owned ≡ u.owned
  full_keeps true call u = refl
  full_keeps false call u = refl

  pub look_keeps : (at : Position) → Keeps (looked_at z c v p a f at)
  look_keeps (Calling call) = full_keeps _ call _
  look_keeps _ = refl

  gone_keeps : (b : Bool) (call : Call) → (home_if z c v p a f b call).view.owned ≡ slice_set v.owned (frame_in p) None
  gone_keeps true call = full_keeps _ call _
  gone_keeps false call = refl

  pub home_keeps : (at : Position) → (home_at z c v p a f at).view.owned ≡ slice_set v.owned (frame_in p) None
  home_keeps (Calling call) = gone_keeps _ call
  home_keeps _ = refl
