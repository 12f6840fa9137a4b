-- A call that begins, and a birth that is made.
use Rattle.std.specs.Prelude.{◌≡◌, ℕ, ◌+◌, ◌<◌, ◌≤◌, Bool, true, false, not, length, Option, Some, None}
use Rattle.kn_base.specs.declared.places.Place.TheVariants.{Phase}
use Rattle.kn_base.specs.declared.classes.TheConstants.{LEAST_CELL}
use Rattle.kn_graph.specs.declared.calls.Call.{Call}
use Rattle.kn_graph.specs.declared.calls.Reply.{Reply}
use Rattle.kn_graph.specs.Counts.{makes_object}
use Rattle.kn_graph.specs.Ground.{Ground}
use Rattle.kn_rule.specs.Decoding.{phase_of}
use Rattle.kn_rule.specs.Outcomes.{view_answer}
use Rattle.kn_rule.specs.Phases.{is_run, pauses}
use Rattle.kn_rule.specs.Requests.{birth_of, header_for, words_asked}
use Rattle.kn_rule.specs.Rule.{fresh}
use Rattle.kn_steps.specs.Made.{Stand}
use Rattle.kn_steps.specs.declared.turns.Turn.{Turn}
use Rattle.kn_steps.specs.declared.turns.Turn.TheVariants.{Idle, Moved}
use Rattle.kn_alloc.specs.declared.stage.Request.{Request}
use Rattle.kn_alloc.specs.declared.stage.Stage.TheVariants.{Resting}
use Rattle.kn_alloc.specs.Agree.{Agrees as AllocAgrees, HasBegun, IsGetting}
use Rattle.kn_alloc.specs.Keeps.{IsHeaderOf, Keeps, Starts, header_asked, words_of_request}
use Rattle.kn_mutator.specs.declared.task.Task.TheVariants.{Births, Calls, Leaves, Polls, Waits}
use Rattle.kn_mutator.specs.Mutating.{Mutating}
use Rattle.kn_mutator.specs.Tasks.{idle_at, is_done}
use Rattle.kn_mutator.specs.After.{answered, awaited, born}

-- what a view with the locals that are kept alone answers
abbrev pub alone : Mutating → Call → Option Reply
alone m call = view_answer m.heap (record (fresh m.heap) { locals = m.locals }) call

-- the request of a call is the one that its layout and its length make; none where it makes no object
pub record IsTheRequest (z : Ground) (call : Call) (request : Request) : Type 0 where
  pub birth : makes_object call ≡ true
  pub words : words_asked z call ≡ Some (words_of_request request)
  pub header : header_asked request ≡ header_for (birth_of z call)
  pub some : LEAST_CELL ≤ words_of_request request
  pub ranges : IsHeaderOf request

abbrev pub IsRequestFor : Ground → Call → Option Request → Type 0
IsRequestFor z call None = makes_object call ≡ false
IsRequestFor z call (Some request) = IsTheRequest z call request

-- the allocator was asked for the cell of the call, whose words fit a frame
pub record RequestsCell (m : Mutating) (call : Call) (m' : Mutating) : Type 0 where
  pub birth : makes_object call ≡ true
  pub words : ℕ
  pub asked : words_asked m.heap call ≡ Some words
  pub alloc : Keeps
  pub starts : Starts m.alloc words (header_for (birth_of m.heap call)) m.epoch alloc
  pub by : alloc.by ≡ m.alloc.by
  pub gets : IsGetting alloc.stage
  pub agrees : (a : Stand) (here : ℕ → Bool) → AllocAgrees m.alloc a here →
      HasBegun a words (header_for (birth_of m.heap call)) m.epoch → AllocAgrees alloc a here
  pub after : m' ≡ record m { begun = m.begun + 1; task = Births call; alloc = alloc }

-- a call may begin: one is left, its log has room for the answer, and its allocator rests and agrees with some view
pub record IsReady (m : Mutating) : Type 0 where
  pub left : m.begun < length m.calls
  pub room : length m.log < length m.calls
  pub resting : m.alloc.stage ≡ Resting
  pub sizes : m.alloc.sizes ≡ m.heap.sizes
  pub agrees : (a : Stand) × (here : ℕ → Bool) × AllocAgrees m.alloc a here

-- a call begins: it is answered at once, its cell is asked for, or it goes on with steps of its own
abbrev pub BeginsAs : Mutating → Call → Option Reply → Bool → Mutating → Type 0
BeginsAs m call (Some reply) birth m' = m' ≡ answered (record m { begun = m.begun + 1 }) call reply
BeginsAs m call None true m' = RequestsCell m call m'
BeginsAs m call None false m' = m' ≡ record m { begun = m.begun + 1; task = Calls call None }

abbrev pub Begins : Mutating → Call → Mutating → Type 0
Begins m call m' = BeginsAs m call (alone m call) (makes_object call) m'

-- the object of the call was born at the address, which is due for its local
abbrev pub Bears : Mutating → Call → ℕ → Mutating → Type 0
Bears m call address m' = (b : ℕ × ℕ × ℕ) → birth_of m.heap call ≡ Some b → m' ≡ born m call b.0 address

-- a phase word was found by a poll for the next call, if one was let through: in a run phase that call begins, and no other
-- phase lets it stay in
abbrev pub HearsAs : Mutating → Bool → Option Call → ℕ → Mutating → Turn → Type 0
HearsAs m false next w m' reply = (m' ≡ record m { task = Leaves }) × (reply ≡ Moved)
HearsAs m true None w m' reply = (m' ≡ record m { epoch = pauses (phase_of w); task = Polls }) × (reply ≡ Idle Phase w)
HearsAs m true (Some call) w m' reply = Begins (record m { epoch = pauses (phase_of w) }) call m' × (reply ≡ Moved)

abbrev pub Hears : Mutating → Option Call → ℕ → Mutating → Turn → Type 0
Hears m next w m' reply = HearsAs m (is_run (phase_of w).code) next w m' reply

-- the word w of a run phase was polled by one that wants the epoch n
abbrev pub WaitsIn : Mutating → ℕ → ℕ → Mutating → Turn → Type 0
WaitsIn m n w m' reply =
    (m' ≡ awaited (record m { epoch = pauses (phase_of w) }) n w Waits) × (reply ≡ idle_at w (not (is_done n w)))
