-- What a mutator keeps.
use Rattle.std.specs.Prelude.{◌≡◌, ℕ, List, [], ◌∷◌, Option, None, replicate}
use Rattle.kn_base.specs.declared.limits.TheConstants.{LOCALS}
use Rattle.kn_graph.specs.declared.calls.Call.{Call}
use Rattle.kn_graph.specs.declared.entries.Entry.{Entry}
use Rattle.kn_graph.specs.Ground.{Ground}
use Rattle.kn_rule.specs.Steps.{epoch_in}
use Rattle.kn_rule.specs.Views.{View}
use Rattle.kn_alloc.specs.Keeps.{Keeps, new_keeps}
use Rattle.kn_mark.specs.Kept.{Kept, new_kept}
use Rattle.kn_mutator.specs.declared.task.Task.{Task}
use Rattle.kn_mutator.specs.declared.task.Task.TheVariants.{Out, Ends}

-- over a heap of these sizes and layouts: the number of its thread and the thread's calls, how many of them it has begun, the
-- epoch of its last poll, the epoch that its `gc` waits for, its locals, what it does next, its allocator, its marker, and its log
pub record Mutating : Type 0 where
  pub heap : Ground
  pub by : ℕ
  pub calls : List Call
  pub begun : ℕ
  pub epoch : ℕ
  pub target : Option ℕ
  pub locals : List ℕ
  pub task : Task
  pub alloc : Keeps
  pub marker : Kept
  pub log : List Entry

-- a thread without calls ends at once
abbrev pub first_task : List Call → Task
first_task [] = Ends
first_task (call ∷ calls) = Out

-- a mutator that has made no turn
abbrev pub new_mutating : Ground → ℕ → List Call → Mutating
new_mutating z c calls = record {
  heap = z;
  by = c;
  calls = calls;
  begun = 0;
  epoch = 0;
  target = None;
  locals = replicate LOCALS 0;
  task = first_task calls;
  alloc = new_keeps z.sizes c;
  marker = new_kept z.sizes;
  log = [];
}

-- what it keeps of its view is what the view has
pub record Knows (m : Mutating) (v : View) : Type 0 where
  pub locals : v.locals ≡ m.locals
  pub epoch : epoch_in v ≡ m.epoch
  pub log : v.log ≡ m.log
  pub begun : v.calls ≡ m.begun
  pub target : v.target ≡ m.target
