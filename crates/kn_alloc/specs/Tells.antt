-- What a turn leaves of its caller's view, and which stage lies behind its reply.
use Rattle.std.specs.Prelude.{◌≡◌, ◌≢◌, ℕ, ◌⊎◌, Some, slice_set}
use Rattle.kn_graph.specs.declared.calls.Call.{Call}
use Rattle.kn_graph.specs.declared.calls.Reply.TheVariants as replies
use Rattle.kn_rule.specs.declared.positions.Position.TheVariants.{Between, Calling, Writing}
use Rattle.kn_rule.specs.Requests.{birth_of}
use Rattle.kn_rule.specs.Steps.{epoch_in, logged, saying}
use Rattle.kn_rule.specs.Views.{View}
use Rattle.kn_steps.specs.Made.{Stand}
use Rattle.kn_alloc.specs.declared.stage.Stage.{Stage}
use Rattle.kn_alloc.specs.declared.stage.Stage.TheVariants.{Resting, TooLong}
use Rattle.kn_alloc.specs.declared.stage.AllocTurn.{AllocTurn}
use Rattle.kn_alloc.specs.declared.stage.AllocTurn.TheVariants.{Moved, Born, Full}
use Rattle.kn_alloc.specs.Keeps.{Keeps}
use Rattle.kn_alloc.specs.Agree.{IsGetting, IsSweeping}

-- what a turn leaves of the view of a caller at this call, for the reply
abbrev pub TellsAt : AllocTurn → Stand → Call → View → Type 0
TellsAt Moved a call v =
    v ≡ record a.view { owned = v.owned; seen = v.seen; refused = v.refused; taken = v.taken; sweep = v.sweep }
TellsAt Full a call v =
    v ≡ logged (saying a.by (epoch_in a.view) call replies.Full 0 (record a.view {
      position = Between;
      owned = v.owned;
      seen = v.seen;
      refused = v.refused;
      taken = v.taken;
      sweep = v.sweep;
    }))
TellsAt (Born address) a call v =
    (b : ℕ × ℕ × ℕ) → birth_of a.heap call ≡ Some b →
    v ≡ logged (saying a.by (epoch_in a.view) call replies.Ok address (record a.view {
      position = Writing b.0 address 0;
      locals = slice_set a.view.locals b.0 address;
      owned = v.owned;
      taken = v.taken;
    }))

-- a turn at this stage leaves the heap and the caller, and of the view what the reply tells; where the request is too long nothing is
-- told of the view
pub record TellsView (stage : Stage) (reply : AllocTurn) (a b : Stand) : Type 0 where
  pub heap : b.heap ≡ a.heap
  pub by : b.by ≡ a.by
  pub view : stage ≢ TooLong → (call : Call) → a.view.position ≡ Calling call → TellsAt reply a call b.view

-- a turn in which pages go home leaves the heap and the caller, and of the view all but the frames owned
pub record TellsHome (a b : Stand) : Type 0 where
  pub heap : b.heap ≡ a.heap
  pub by : b.by ≡ a.by
  pub view : b.view ≡ record a.view { owned = b.view.owned }

-- the stage behind a reply
abbrev pub IsBehind : AllocTurn → Stage → Type 0
IsBehind Moved stage = IsGetting stage ⊎ IsSweeping stage
IsBehind Full stage = stage ≡ Resting
IsBehind (Born address) stage = stage ≡ Resting

-- over the same sizes, for the same caller
abbrev pub IsKept : Keeps → Keeps → Type 0
IsKept m n = (n.sizes ≡ m.sizes) × (n.by ≡ m.by)
