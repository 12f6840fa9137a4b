-- One turn of a mutator over its caller's steps.
use Rattle.std.specs.Prelude.{◌≡◌, ℕ, ◌⊎◌, ◌↔◌, Bool, true, Option, Some, None}
use Rattle.kn_base.specs.declared.places.Place.TheVariants.{State}
use Rattle.kn_base.specs.Pages.{FrameView}
use Rattle.kn_graph.specs.Ground.{Ground}
use Rattle.kn_rule.specs.declared.steps.Kind.TheVariants.{K2}
use Rattle.kn_rule.specs.declared.steps.Action.TheVariants.{Stores}
use Rattle.kn_rule.specs.Requests.{birth_of, header_for, words_asked}
use Rattle.kn_rule.specs.Steps.{Step, Found, does}
use Rattle.kn_steps.specs.declared.turns.Turn.{Turn}
use Rattle.kn_steps.specs.declared.turns.Turn.TheVariants.{Moved, Done}
use Rattle.kn_steps.specs.Made.{Stand, Made}
use Rattle.kn_steps.specs.Turns.{MetUnswept}
use Rattle.kn_alloc.specs.declared.stage.AllocTurn.{AllocTurn}
use Rattle.kn_alloc.specs.declared.stage.HomeTurn.TheVariants as homes
use Rattle.kn_alloc.specs.declared.stage.Stage.TheVariants.{Resting}
use Rattle.kn_alloc.specs.Agree.{IsSweeping}
use Rattle.kn_alloc.specs.Keeps.{Keeps, Starts}
use Rattle.kn_alloc.specs.Homes.{IsNoHand, WentHome}
use Rattle.kn_alloc.specs.Turns.{Turned as AllocTurned}
use Rattle.kn_mark.specs.declared.turn.MarkTurn.{MarkTurn}
use Rattle.kn_mark.specs.Turns.{Turned as MarkTurned}
use Rattle.kn_mutator.specs.declared.task.Task.{Task}
use Rattle.kn_mutator.specs.declared.task.Task.TheVariants.{Out, Helps, Enters, Polls, Births, SendsSingle, Leaves, Ends, Ended}
use Rattle.kn_mutator.specs.Mutating.{Knows, Mutating}
use Rattle.kn_mutator.specs.Agree.{Agrees, HasEnded}
use Rattle.kn_mutator.specs.Tasks.{answer_behind, helped, marker_behind, next_call, poll_for, polled_answer, polled_task}
use Rattle.kn_mutator.specs.Tasks.{task_behind, task_by, task_helped, task_home, task_step}

-- a request of a call that has just begun was begun; behind any other step the allocator is as it was
abbrev pub IsAllocBehind : Ground → Task → Keeps → ℕ → Keeps → Type 0
IsAllocBehind z (Births call) alloc epoch alloc' =
    (words : ℕ) × (words_asked z call ≡ Some words) × Starts alloc words (header_for (birth_of z call)) epoch alloc'
IsAllocBehind z _ alloc epoch alloc' = alloc' ≡ alloc

-- the heap, the thread and its calls stay, and what is kept of the view is what the view has
pub record StillKnows (m : Mutating) (b : Stand) (m' : Mutating) : Type 0 where
  pub heap : m'.heap ≡ m.heap
  pub by : m'.by ≡ m.by
  pub calls : m'.calls ≡ m.calls
  pub knows : Knows m' b.view

-- a gate that lets each call pass
abbrev pub lets_all : ℕ → ℕ → Bool → Type 0
lets_all thread call passed = passed ≡ true

-- no gate was asked
abbrev pub asks_none : ℕ → ℕ → Bool → Type 0
asks_none thread call passed = ⊥

module _ {T : Type 0} (stand : T → Stand) (here : T → ℕ → Bool) (did : T → Step → Found → T → Type 0)
    (moved : T → ℕ → Option FrameView → Option FrameView → T → Type 0) where
  -- the step of the task was made
  pub record MakesStep (m : Mutating) (s s' : T) (m' : Mutating) (reply : Turn) : Type 0 where
    pub step : Step
    pub found : Found
    pub named : task_step m m.task ≡ Some step
    pub made : Made (stand s) (here s) step found (stand s') (here s')
    pub kept : did s step found s'
    pub task : m'.task ≡ task_behind m.task found.word m' (stand s').view
    pub alloc : m'.alloc ≡ m.alloc
    pub marker : m'.marker ≡ marker_behind m.task found.word m.marker
    pub answer : reply ≡ answer_behind m.task m.target found.word

  -- the gate was asked for the call that begins next (`told` is what it said of a thread's call), and the phase was loaded
  -- for that call where it lets it pass, and else for none
  pub record PollsNext (told : ℕ → ℕ → Bool → Type 0) (m : Mutating) (s s' : T) (m' : Mutating) (reply : Turn) : Type 0 where
    pub passed : Bool
    pub asked : told m.by m.begun passed
    pub found : Found
    pub made : Made (stand s) (here s) (poll_for (next_call m passed)) found (stand s') (here s')
    pub kept : did s (poll_for (next_call m passed)) found s'
    pub task : m'.task ≡ polled_task passed found.word m' (stand s').view
    pub alloc : IsAllocBehind m.heap m'.task m.alloc m'.epoch m'.alloc
    pub marker : m'.marker ≡ m.marker
    pub answer : reply ≡ polled_answer passed found.word

  -- its marker made its turn
  pub record MarksWith (m : Mutating) (s s' : T) (m' : Mutating) (reply : Turn) : Type 0 where
    pub told : MarkTurn
    pub turned : MarkTurned stand here did m.marker s s' m'.marker told
    pub alloc : m'.alloc ≡ m.alloc
    pub task : m'.task ≡ task_helped told
    pub answer : reply ≡ helped told

  -- the allocator made its turn
  pub record GetsCell (m : Mutating) (s s' : T) (m' : Mutating) (reply : Turn) : Type 0 where
    pub told : AllocTurn
    pub turned : AllocTurned stand here did moved m.alloc s s' m'.alloc told
    pub marker : m'.marker ≡ m.marker
    pub task : m'.task ≡ task_by m' (stand s').view
    pub answer : reply ≡ Moved

  -- a page in hand went into its slot, or its frame was given back
  pub record PutsHome (m : Mutating) (s s' : T) (m' : Mutating) (reply : Turn) : Type 0 where
    pub went : WentHome stand here did moved m.alloc s s' m'.alloc homes.Moved
    pub marker : m'.marker ≡ m.marker
    pub task : m'.task ≡ task_home m.task m'.alloc.stage
    pub answer : reply ≡ Moved

  -- no page is in hand and none goes home, and the caller's state was stored
  pub record StoresState (state : ℕ) (task : Task) (told : Turn) (m : Mutating) (s s' : T) (m' : Mutating) (reply : Turn) : Type 0 where
    pub none : IsNoHand m.alloc.hands
    pub rests : m.alloc.stage ≡ Resting
    pub found : Found
    pub made : Made (stand s) (here s) (does K2 (State m.by) (Stores state)) found (stand s') (here s')
    pub kept : did s (does K2 (State m.by) (Stores state)) found s'
    pub alloc : m'.alloc ≡ m.alloc
    pub marker : m'.marker ≡ m.marker
    pub behind : m'.task ≡ task
    pub answer : reply ≡ told

  -- one that enters polls for the next call, unless it wants an epoch, where it makes the step of its task and asks no gate
  abbrev pub EntersFor : Option ℕ → (ℕ → ℕ → Bool → Type 0) → Mutating → T → T → Mutating → Turn → Type 0
  EntersFor None told m s s' m' reply = PollsNext told m s s' m' reply
  EntersFor (Some n) told m s s' m' reply = MakesStep m s s' m' reply

  -- the turn of a task: its step; a poll; a turn of the marker, or of the allocator; or pages go home, one after another, and then the
  -- state is stored
  abbrev pub TurnedAt : Task → (ℕ → ℕ → Bool → Type 0) → Mutating → T → T → Mutating → Turn → Type 0
  TurnedAt Helps told m s s' m' reply = MarksWith m s s' m' reply
  TurnedAt Enters told m s s' m' reply = EntersFor m.target told m s s' m' reply
  TurnedAt Polls told m s s' m' reply = PollsNext told m s s' m' reply
  TurnedAt (Births call) told m s s' m' reply = GetsCell m s s' m' reply
  TurnedAt SendsSingle told m s s' m' reply = PutsHome m s s' m' reply
  TurnedAt Leaves told m s s' m' reply = PutsHome m s s' m' reply ⊎ StoresState 0 Out Moved m s s' m' reply
  TurnedAt Ends told m s s' m' reply = PutsHome m s s' m' reply ⊎ StoresState 2 Ended Done m s s' m' reply
  TurnedAt Ended told m s s' m' reply = ⊥
  TurnedAt _ told m s s' m' reply = MakesStep m s s' m' reply

  -- one turn of the mutator m, which answers so and leaves m'
  abbrev pub Turned : (ℕ → ℕ → Bool → Type 0) → Mutating → T → T → Mutating → Turn → Type 0
  Turned told m s s' m' reply = StillKnows m (stand s') m' × TurnedAt m.task told m s s' m' reply

  -- such a turn, behind which what is kept agrees with what is known, and which is done exactly where the mutator has ended
  pub record Goes (told : ℕ → ℕ → Bool → Type 0) (m : Mutating) (s s' : T) (m' : Mutating) (reply : Turn) : Type 0 where
    pub turned : Turned told m s s' m' reply
    pub agrees : Agrees m' (stand s') (here s')
    pub done : (reply ≡ Done) ↔ HasEnded m'.task

  -- the same, unless the turn met an unswept frame and left its allocator at a sweep
  pub record GoesOrStops (told : ℕ → ℕ → Bool → Type 0) (m : Mutating) (s s' : T) (m' : Mutating) (reply : Turn) : Type 0 where
    pub turned : Turned told m s s' m' reply
    pub agrees : (¬ IsSweeping m'.alloc.stage) → Agrees m' (stand s') (here s')
    pub unswept : IsSweeping m'.alloc.stage → MetUnswept stand here did moved s s'
    pub done : (reply ≡ Done) ↔ HasEnded m'.task
