-- What of a history belongs to one caller, and when a thread's log is complete.
use Rattle.std.specs.Prelude.{◌≡◌, ℕ, ◌==◌, ◌<◌, List, [], ◌∷◌, ◌++◌, filter, length, slice_index_or}
use Rattle.std.specs.List.{flat_map}
use Rattle.kn_graph.specs.declared.calls.Call.{Call}
use Rattle.kn_graph.specs.declared.calls.Reply.{Reply}
use Rattle.kn_graph.specs.declared.entries.Event.{Event}
use Rattle.kn_graph.specs.declared.entries.Event.TheVariants as events
use Rattle.kn_graph.specs.declared.entries.Entry.{Entry}

-- the entries of one caller, in order
abbrev pub log_of : ℕ → List Entry → List Entry
log_of by = filter (λ entry. entry.by.0 == by)

-- a list of logs, one for each caller, fits a history where each is that caller's
pub record LogsFit (callers : ℕ) (logs : List (List Entry)) (history : List Entry) : Type 0 where
  pub count : length logs ≡ callers
  pub each : (by : ℕ) → by < callers → slice_index_or logs by [] ≡ log_of by history

-- the call of an entry that answers one
abbrev pub call_in : Event → List Call
call_in (events.Call call reply address) = call ∷ []
call_in _ = []

-- the reply of an entry that answers a call
abbrev pub reply_in : Event → List Reply
reply_in (events.Call call reply address) = reply ∷ []
reply_in _ = []

-- the calls that a log answers, in order
abbrev pub calls_of : List Entry → List Call
calls_of = flat_map (λ entry. call_in entry.what)

-- the replies of a log, in order
abbrev pub replies_of : List Entry → List Reply
replies_of = flat_map (λ entry. reply_in entry.what)

-- a log answers exactly these calls, each once, in order
abbrev pub IsComplete : List Entry → List Call → Type 0
IsComplete log calls = calls_of log ≡ calls

-- a log answers the first of these calls, each once, in order
abbrev pub IsPartial : List Entry → List Call → Type 0
IsPartial log calls = (rest : List Call) × (calls_of log ++ rest ≡ calls)
