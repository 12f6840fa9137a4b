-- How many entries of a kind a history has, and how many objects of a graph pass a test.
use Rattle.std.specs.Prelude.{ℕ, zero, suc, ◌+◌, Bool, true, false, ◌&&◌, cond, List, count_by, is_some}
use Rattle.kn_graph.specs.declared.calls.Call.{Call}
use Rattle.kn_graph.specs.declared.calls.Call.TheVariants.{New, NewArray}
use Rattle.kn_graph.specs.declared.calls.Reply.{Reply}
use Rattle.kn_graph.specs.declared.calls.Reply.TheVariants as replies
use Rattle.kn_graph.specs.declared.entries.Event.{Event}
use Rattle.kn_graph.specs.declared.entries.Event.TheVariants as events
use Rattle.kn_graph.specs.declared.entries.Entry.{Entry}
use Rattle.kn_graph.specs.Graph.{Graph, Object}

-- the events of each kind
abbrev pub is_pause : Event → Bool
is_pause (events.Pause e) = true
is_pause _ = false

abbrev pub is_done : Event → Bool
is_done (events.Done e) = true
is_done _ = false

abbrev pub is_release : Event → Bool
is_release (events.Released a) = true
is_release _ = false

abbrev pub is_queueing : Event → Bool
is_queueing (events.Queued a) = true
is_queueing _ = false

abbrev pub is_finalization : Event → Bool
is_finalization (events.Finalized a c n) = true
is_finalization _ = false

-- the calls that make an object
abbrev pub makes_object : Call → Bool
makes_object (New r layout) = true
makes_object (NewArray r layout n) = true
makes_object _ = false

abbrev pub is_ok : Reply → Bool
is_ok replies.Ok = true
is_ok _ = false

-- an object was born
abbrev pub is_birth : Event → Bool
is_birth (events.Call call reply address) = makes_object call && is_ok reply
is_birth _ = false

-- how many calls of a list make an object
abbrev pub births_among : List Call → ℕ
births_among = count_by makes_object

-- how many entries of a history are of a kind
abbrev pub how_many : (Event → Bool) → List Entry → ℕ
how_many kind = count_by (λ entry. kind entry.what)

-- how many of the numbers below n pass a test
abbrev pub count_below : (ℕ → Bool) → ℕ → ℕ
count_below test zero = 0
count_below test (suc n) = cond (test n) 1 0 + count_below test n

-- how many objects of a graph pass a test
abbrev pub passing : (Object → Bool) → Graph → ℕ
passing test g = count_below (λ n. test (g.object n)) g.born

-- an object was finalized
abbrev pub is_finalized : Object → Bool
is_finalized o = is_some o.finalized
