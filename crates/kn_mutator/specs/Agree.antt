-- How what a mutator keeps agrees with what its caller knows.
use Rattle.std.specs.Prelude.{◌≡◌, ℕ, ◌+◌, ◌<◌, ◌≤◌, ◌⊎◌, Bool, true}
use Rattle.std.specs.Prelude.{false, List, length, Option, Some, None, slice_get, slice_index, take}
use Rattle.std.specs.List.{AllByRecursion}
use Rattle.kn_base.specs.declared.limits.TheConstants.{LOCALS}
use Rattle.kn_layout.specs.declared.layouts.FieldKind.{FieldKind}
use Rattle.kn_graph.specs.declared.calls.Call.{Call}
use Rattle.kn_graph.specs.declared.calls.Call.TheVariants.{Collect}
use Rattle.kn_graph.specs.declared.entries.Entry.{Entry}
use Rattle.kn_graph.specs.Arguments.{IsInRange}
use Rattle.kn_graph.specs.Counts.{births_among, makes_object}
use Rattle.kn_graph.specs.Ground.{Ground, IsGoodGround}
use Rattle.kn_graph.specs.Logs.{calls_of}
use Rattle.kn_rule.specs.declared.positions.Position.{Position}
use Rattle.kn_rule.specs.declared.positions.Position.TheVariants as positions
use Rattle.kn_rule.specs.Allowed.{IsBuilt}
use Rattle.kn_rule.specs.Requests.{field_of, told_kind}
use Rattle.kn_rule.specs.Views.{View}
use Rattle.kn_steps.specs.Made.{Stand}
use Rattle.kn_mark.specs.Agree.{IsShareOf}
use Rattle.kn_mark.specs.Kept.{Kept}
use Rattle.kn_alloc.specs.declared.stage.Stage.TheVariants.{Resting}
use Rattle.kn_alloc.specs.Agree.{Agrees as AllocAgrees, IsGetting, IsIdle}
use Rattle.kn_mutator.specs.declared.task.Task.{Task}
use Rattle.kn_mutator.specs.declared.task.Task.TheVariants.{Out, Helps, GoesIn, Enters, Polls, Calls, Births, Writes, Waits}
use Rattle.kn_mutator.specs.declared.task.Task.TheVariants.{SendsSingle, Leaves, Ends, Ended}
use Rattle.kn_mutator.specs.Begun.{alone}
use Rattle.kn_mutator.specs.Mutating.{Knows, Mutating}
use Rattle.kn_mutator.specs.Tasks.{has_single}

-- the calls of thread c: each is built and in range, and the sizes count them and their births
pub record Planned (z : Ground) (c : ℕ) (calls : List Call) : Type 0 where
  pub good : IsGoodGround z
  pub thread : c < z.sizes.threads
  pub calls_are : slice_index z.sizes.calls c ≡ length calls
  pub births_are : slice_index z.sizes.births c ≡ births_among calls
  pub built : AllByRecursion IsBuilt calls
  pub in_range : AllByRecursion (IsInRange z) calls

-- the log answers the first n of all calls, each once, in order
pub record HasAnswered (log : List Entry) (all : List Call) (n : ℕ) : Type 0 where
  pub calls : calls_of log ≡ take n all
  pub count : length log ≡ n
  pub within : n ≤ length all

-- of so many calls that were begun this is the last; it is not answered, and all before it are
pub record UnderWay (log : List Entry) (all : List Call) (begun : ℕ) (call : Call) : Type 0 where
  pub number : ℕ
  pub is_last : begun ≡ number + 1
  pub is_call : slice_get all number ≡ Some call
  pub answers : HasAnswered log all number

-- no call is under way, and the allocator rests
pub record Rests (m : Mutating) (v : View) (at : Position) : Type 0 where
  pub position : v.position ≡ at
  pub answers : HasAnswered m.log m.calls m.begun
  pub untargeted : m.target ≡ None
  pub alloc : m.alloc.stage ≡ Resting

-- no call is under way, and pages may go home
pub record MayGoHome (m : Mutating) : Type 0 where
  pub answers : HasAnswered m.log m.calls m.begun
  pub untargeted : m.target ≡ None
  pub alloc : IsIdle m.alloc.stage

abbrev pub HasLeft : Mutating → Type 0
HasLeft m = m.begun < length m.calls

-- where it wants no epoch, no call is under way and one is left to begin; else its `gc` is under way
abbrev pub Owes : Mutating → Option ℕ → Type 0
Owes m None = HasAnswered m.log m.calls m.begun × HasLeft m
Owes m (Some n) = UnderWay m.log m.calls m.begun Collect

-- it is on its way in, or waits for an epoch, and the allocator rests
pub record Stands (m : Mutating) (v : View) (at : Position) : Type 0 where
  pub position : v.position ≡ at
  pub owes : Owes m m.target
  pub alloc : m.alloc.stage ≡ Resting

-- the local that names the object of a call on a field has one
abbrev pub IsObjectIn : (ℕ → ℕ) → Option (ℕ × ℕ × FieldKind) → Type 0
IsObjectIn local None = Unit {0}
IsObjectIn local (Some t) = 0 < local t.0

-- the header that was read tells that the field is of the kind wanted
abbrev pub IsHeaderRead : Ground → Option (ℕ × ℕ × FieldKind) → Option ℕ → Type 0
IsHeaderRead z None h = Unit {0}
IsHeaderRead z (Some t) None = Unit {0}
IsHeaderRead z (Some t) (Some h) = told_kind z h t.1 ≡ Some t.2

-- a call at its own steps: the view alone does not answer it, its object is there, and the header that was read tells that the
-- field is of the kind wanted
pub record CallsAt (m : Mutating) (v : View) (call : Call) (h : Option ℕ) : Type 0 where
  pub position : v.position ≡ positions.Calling call
  pub header : v.header ≡ h
  pub no_birth : makes_object call ≡ false
  pub untargeted : m.target ≡ None
  pub not_alone : alone m call ≡ None
  pub under_way : UnderWay m.log m.calls m.begun call
  pub alloc : m.alloc.stage ≡ Resting
  pub object : IsObjectIn (λ r. slice_index m.locals r) (field_of call)
  pub read : IsHeaderRead m.heap (field_of call) h

-- a birth whose cell the allocator gets
pub record BirthAt (m : Mutating) (v : View) (call : Call) : Type 0 where
  pub position : v.position ≡ positions.Calling call
  pub birth : makes_object call ≡ true
  pub untargeted : m.target ≡ None
  pub under_way : UnderWay m.log m.calls m.begun call
  pub alloc : IsGetting m.alloc.stage

-- the view's share is of the epoch that its marker was started for, which is one of a marking
pub record HelpsOn (k : Kept) (v : View) : Type 0 where
  pub epoch : v.work.epoch ≡ k.work.epoch
  pub begun : 0 < v.work.epoch

-- what each task needs
abbrev pub AtTask : Task → Mutating → View → Type 0
AtTask Out m v = Stands m v positions.Out
AtTask Helps m v = Stands m v positions.Out × HelpsOn m.marker v
AtTask GoesIn m v = Stands m v positions.Out
AtTask Enters m v = Stands m v positions.Entering
AtTask Polls m v = Rests m v positions.Between × HasLeft m
AtTask (Calls call h) m v = CallsAt m v call h
AtTask (Births call) m v = BirthAt m v call
AtTask (Writes r w) m v = Rests m v (positions.Writing r w 0)
AtTask Waits m v = Stands m v positions.Waiting × ((n : ℕ) × (m.target ≡ Some n))
AtTask SendsSingle m v = (v.position ≡ positions.Between) × MayGoHome m × HasLeft m × (m.alloc.stage ≡ Resting → has_single m.alloc.hands ≡ true)
AtTask Leaves m v = ((v.position ≡ positions.Leaving) ⊎ (v.position ≡ positions.Entering)) × Owes m m.target × IsIdle m.alloc.stage
AtTask Ends m v = ((v.position ≡ positions.Between) ⊎ (v.position ≡ positions.Out)) × MayGoHome m × (m.begun ≡ length m.calls)
AtTask Ended m v = (v.position ≡ positions.Ended) × HasAnswered m.log m.calls m.begun × (m.begun ≡ length m.calls)

-- whose mutator it is, over which heap; what it keeps of the view is what the view has, its allocator agrees with it, and its marker
-- keeps the view's share
pub record Agrees (m : Mutating) (a : Stand) (here : ℕ → Bool) : Type 0 where
  pub alloc : AllocAgrees m.alloc a here
  pub marker : IsShareOf m.marker a
  pub heap : a.heap ≡ m.heap
  pub caller : m.alloc.by ≡ m.by
  pub knows : Knows m a.view
  pub planned : Planned m.heap m.by m.calls
  pub births : a.view.births ≡ births_among (take m.begun m.calls)
  pub width : length m.locals ≡ LOCALS
  pub addresses : (r : ℕ) → r < LOCALS → slice_index m.locals r ≤ 1000000
  pub at : AtTask m.task m a.view

-- it has ended
abbrev pub HasEnded : Task → Type 0
HasEnded Ended = Unit {0}
HasEnded _ = ⊥
