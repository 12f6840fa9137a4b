-- What it is to apply an entry: it is legal next and applied, or it is not and nothing changes.
use Rattle.std.specs.Prelude.{◌≡◌, ℕ, Bool, true, false, Option, Some, None}
use Rattle.kn_graph.specs.declared.calls.Call.{Call}
use Rattle.kn_graph.specs.declared.calls.Call.TheVariants.{New, NewArray, Collect}
use Rattle.kn_graph.specs.declared.calls.Reply.{Reply}
use Rattle.kn_graph.specs.declared.calls.Reply.TheVariants as replies
use Rattle.kn_graph.specs.declared.entries.Entry.{Entry}
use Rattle.kn_replay.specs.declared.changes.Change.{Change}
use Rattle.kn_graph.specs.Ground.{Ground}
use Rattle.kn_graph.specs.Graph.{Graph}
use Rattle.kn_graph.specs.Answers.{IsAwaited}
use Rattle.kn_graph.specs.Histories.{Follows}
use Rattle.kn_objects.specs.Replay.{Replay, graph_of}
use Rattle.kn_replay.specs.Seen.{MayBeBorn}
use Rattle.kn_replay.specs.ChangesMade.{IsFit, changed}

-- true where the entry is legal next, and then the graph after is one that it leads to; false where it is not, and then
-- nothing has changed
abbrev pub IsApplied : Entry → Replay → Bool → Replay → Type 0
IsApplied entry r true r' = Follows r.ground entry (graph_of r) (graph_of r')
IsApplied entry r false r' = (r' ≡ r) × ((g' : Graph) → Follows r.ground entry (graph_of r) g' → ⊥)

-- the change with which something leads from the graph to the next one, or none where it can't happen
abbrev pub IsDecided : Ground → ℕ → Graph → (Graph → Type 0) → Option Change → Type 0
IsDecided z by g follows None = (g' : Graph) → follows g' → ⊥
IsDecided z by g follows (Some change) = follows (changed by change g) × IsFit z by change g

-- a reply is an epoch that a caller may be told
abbrev pub IsAwaitedReply : ℕ → Graph → Reply → Type 0
IsAwaitedReply by g (replies.Epoch epoch) = IsAwaited by epoch g
IsAwaitedReply by g _ = ⊥

-- a call may be entered with this address and reply, as far as these rest on more than the graph
abbrev pub MayBeSeen : Ground → ℕ → Graph → Call → ℕ → Reply → Type 0
MayBeSeen z by g (New r layout) address seen = MayBeBorn z g layout 0 address seen
MayBeSeen z by g (NewArray r layout n) address seen = MayBeBorn z g layout n address seen
MayBeSeen z by g Collect address seen = IsAwaitedReply by g seen
MayBeSeen z by g _ address seen = Unit {0}
