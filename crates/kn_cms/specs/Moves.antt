-- What a turn of the core makes of the lists that it keeps.
use Rattle.std.specs.Prelude.{◌≡◌, ◌≢◌, ℕ, ◌<◌, ◌≤◌, Option, Some, None, List, [], length, slice_index_or, slice_set}
use Rattle.kn_layout.specs.declared.layouts.FieldKind.{FieldKind}
use Rattle.kn_layout.specs.declared.layouts.FieldKind.TheVariants.{Ref as of_ref, Int as of_int}
use Rattle.kn_graph.specs.declared.calls.Call.{Call}
use Rattle.kn_graph.specs.declared.calls.Reply.{Reply}
use Rattle.kn_graph.specs.declared.calls.Reply.TheVariants as replies
use Rattle.kn_graph.specs.Answers.{answer, answers}
use Rattle.kn_graph.specs.Ground.{Ground}
use Rattle.kn_graph.specs.Graph.{Graph, with_local, with_global}
use Rattle.kn_lines.specs.declared.orders.Actor.{Actor}
use Rattle.kn_objects.specs.Holders.{KeptHolders}
use Rattle.kn_cms_rule.specs.declared.stages.CmsTurn.{CmsTurn}
use Rattle.kn_cms.specs.declared.plans.Plan.{Plan}
use Rattle.kn_cms.specs.declared.plans.Write.{Write}
use Rattle.kn_cms.specs.declared.plans.Write.TheVariants as writes
use Rattle.kn_cms_rule.specs.Words.{one_framed}
use Rattle.kn_cms_rule.specs.State.{State}
use Rattle.kn_cms_rule.specs.Steps.{ThreadStep, CollectorStep}
use Rattle.kn_cms_rule.specs.Turns.{TurnOf}
use Rattle.kn_cms_rule.specs.declared.stages.Doing.{Doing}
use Rattle.kn_cms_rule.specs.declared.stages.Doing.TheVariants.{Free}
use Rattle.kn_cms_lists.specs.Kept.{Kept, kept_kind, next_call}
use Rattle.kn_cms.specs.Stands.{StandsFor, IsCore}

-- the lists stand afterwards for a state that a step makes of each state that they stood for before
pub record Moves (k : Kept) (Step : State → State → Type 0) (k' : Kept) : Type 0 where
  pub ground : k'.ground ≡ k.ground
  pub calls : k'.calls ≡ k.calls
  pub stands : (s : State) → StandsFor k s → (s' : State) × StandsFor k' s' × Step s s'

-- a step of a thread, and of the collector
abbrev pub ThreadMoves : Kept → ℕ → Kept → Type 0
ThreadMoves k i = Moves k (λ s. ThreadStep (one_framed k.ground) s i)

abbrev pub CollectorMoves : Kept → Kept → Type 0
CollectorMoves k = Moves k (CollectorStep (one_framed k.ground))

-- a turn
abbrev pub TurnMoves : Kept → Actor → CmsTurn → Kept → Type 0
TurnMoves k who turn = Moves k (λ s. TurnOf (one_framed k.ground) s who turn)

-- a thread of the core is at this call
pub record IsAt (k : Kept) (i : ℕ) (call : Call) : Type 0 where
  pub core : IsCore k
  pub near : i < k.ground.sizes.threads
  pub next : next_call k i ≡ Some call

-- the answer to a call that wants a reference field and has none: a local that it needs is null, the object has no such
-- field, or one of the other kind
abbrev pub refusal_of_kind : Option FieldKind → Option Reply
refusal_of_kind None = Some replies.NoField
refusal_of_kind (Some of_ref) = None
refusal_of_kind (Some of_int) = Some replies.WrongKind

abbrev pub refusal_of : Option ℕ → (ℕ → Option FieldKind) → Option Reply
refusal_of None kind = Some replies.Nil
refusal_of (Some n) kind = refusal_of_kind (kind n)

-- what a whole call writes, in the lists and in the graph
abbrev pub written_holders : KeptHolders → ℕ → Write → KeptHolders
written_holders h i writes.Nothing = h
written_holders h i (writes.Local r value) = record h { locals = slice_set h.locals i (slice_set (slice_index_or h.locals i []) r value) }
written_holders h i (writes.Global j value) = record h { globals = slice_set h.globals j value }

abbrev pub written : Kept → ℕ → Write → Kept
written k i writes = record k { holders = written_holders k.holders i writes }

abbrev pub written_graph : Graph → ℕ → Write → Graph
written_graph g i writes.Nothing = g
written_graph g i (writes.Local r value) = with_local g i r value
written_graph g i (writes.Global j value) = with_global g j value

-- the number of the local or global that is written is in its range
abbrev pub IsWritable : Ground → Write → Type 0
IsWritable z writes.Nothing = Unit {0}
IsWritable z (writes.Local r value) = r ≤ 15
IsWritable z (writes.Global i value) = i < z.sizes.globals

-- the plan of a whole call: the model's answer, and what it writes
abbrev pub IsPlanOf : Kept → ℕ → Call → Plan → Type 0
IsPlanOf k i call plan = (s : State) → StandsFor k s →
    answer (one_framed k.ground) i s.graph call ≡ Some (answers plan.reply (written_graph s.graph i plan.writes))

-- a list of what threads are in the middle of has this first one that is in the middle of a call
pub record IsFirstBusy (doing : List Doing) (i : ℕ) : Type 0 where
  pub within : i < length doing
  pub busy : slice_index_or doing i Free ≢ Free
  pub first : (j : ℕ) → j < i → slice_index_or doing j Free ≡ Free

-- a field is the first reference field of an object from a place on
pub record IsNextKept (k : Kept) (n from f : ℕ) : Type 0 where
  pub behind : from ≤ f
  pub kind : kept_kind k n f ≡ Some of_ref
  pub first : (m : ℕ) → from ≤ m → m < f → kept_kind k n m ≢ Some of_ref
