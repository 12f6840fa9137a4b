-- The printed text of a run.
use Rattle.std.specs.Prelude.{ℕ, zero, suc, ◌-◌, Bool, true, false, List, [], ◌∷◌, ◌++◌, codes, decimal, count_by, sum_by, length}
use Rattle.std.specs.Prelude.{slice_index_or}
use Rattle.std.specs.List.{flat_map}
use Rattle.kn_graph.specs.declared.calls.Reply.{Reply}
use Rattle.kn_graph.specs.declared.entries.Event.{Event}
use Rattle.kn_graph.specs.declared.entries.Event.TheVariants as events
use Rattle.kn_graph.specs.declared.entries.Entry.{Entry}
use Rattle.kn_graph.specs.Logs.{replies_of}
use Rattle.kn_graph.specs.Texts.{reply_text}
use Rattle.kn_report.specs.declared.events.Counted.{Counted}
use Rattle.kn_report.specs.declared.events.Counted.TheVariants.{Calls, Epochs, Released, Queued, Finalized}

-- a text and a line feed
abbrev pub line : List ℕ → List ℕ
line text = text ++ 10 ∷ []

-- each reply on a line
abbrev pub reply_lines : List Reply → List ℕ
reply_lines = flat_map (λ reply. line (reply_text reply))

-- the number of a thread, and the replies of its log
abbrev pub thread_text : ℕ → List Entry → List ℕ
thread_text thread log = line (codes "thread " ++ decimal thread) ++ reply_lines (replies_of log)

-- the first threads, in order
abbrev pub threads_text : ℕ → List (List Entry) → List ℕ
threads_text zero logs = []
threads_text (suc threads) logs = threads_text threads logs ++ thread_text threads (slice_index_or logs threads [])

-- the event is of those counted
abbrev pub is_of : Counted → Event → Bool
is_of Calls (events.Call call reply address) = true
is_of Epochs (events.Done epoch) = true
is_of Released (events.Released address) = true
is_of Queued (events.Queued address) = true
is_of Finalized (events.Finalized address cleaner number) = true
is_of _ _ = false

-- how many entries of a log, and of all logs, are of those counted
abbrev pub count_in : Counted → List Entry → ℕ
count_in counted log = count_by (λ entry. is_of counted entry.what) log

abbrev pub count_of : Counted → List (List Entry) → ℕ
count_of counted logs = sum_by (count_in counted) logs

-- a name, a space and a number on a line
abbrev pub count_line : List ℕ → ℕ → List ℕ
count_line name n = line (name ++ codes " " ++ decimal n)

-- the numbers of calls, of completed epochs, and of objects released, queued and finalized, in all logs
abbrev pub tail_text : List (List Entry) → List ℕ
tail_text logs =
    count_line (codes "calls") (count_of Calls logs)
    ++ count_line (codes "epochs") (count_of Epochs logs)
    ++ count_line (codes "released") (count_of Released logs)
    ++ count_line (codes "queued") (count_of Queued logs)
    ++ count_line (codes "finalized") (count_of Finalized logs)
    ++ line (codes "end")

-- the report of the logs of all callers, of which the last two are no threads: each thread, then the tail
abbrev pub report_text : List (List Entry) → List ℕ
report_text logs = threads_text (length logs - 2) logs ++ tail_text logs
