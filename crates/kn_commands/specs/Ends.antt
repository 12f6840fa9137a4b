-- How a call of the program may end.
use Rattle.std.specs.Prelude.{◌≡◌, ◌≢◌, ℕ, ◌+◌, ◌≤◌, Bool, true, false}
use Rattle.std.specs.Prelude.{◌⊎◌, ◌↔◌, Option, Some, None, IsSome, IfSome, List, []}
use Rattle.std.specs.Prelude.{length, codes}
use Rattle.kn_graph.specs.declared.entries.Entry.{Entry}
use Rattle.kn_graph.specs.Histories.{IsLegal}
use Rattle.kn_graph.specs.Logs.{LogsFit}
use Rattle.kn_board.specs.World.{World}
use Rattle.kn_trace.specs.Runs.{AreComplete, ArePartial, IsRunOf}
use Rattle.kn_io.specs.Counts.{Rose, NeverFalls}
use Rattle.kn_io.specs.Devices.{Devices, SourceFailed, SinkFailed}
use Rattle.kn_io.specs.Told.{GivesAll, GivesSome, Appends, AppendsPrefix}
use Rattle.kn_report.specs.Reports.{line, report_text}
use Rattle.kn_lines.specs.declared.built.Built.{Built}
use Rattle.kn_lines.specs.declared.built.TheConstants.{TODAY}
use Rattle.kn_script.specs.declared.faults.Why.{Why}
use Rattle.kn_script.specs.Scripts.{Scripted, ground_of}
use Rattle.kn_base.specs.declared.limits.TheConstants.{LONGEST_TEXT}
use Rattle.kn_script.specs.Grammar.{IsText, IsBad}
use Rattle.kn_commands.specs.declared.status.Status.{Status}
use Rattle.kn_commands.specs.declared.status.Status.TheVariants as ends
use Rattle.kn_commands.specs.Refusals.{refusal}

-- a prefix of the text went out, and the whole where the sink's count of faults did not rise
pub record Writes (text : List ℕ) (held held' : Option (List ℕ)) (faults faults' : ℕ) : Type 0 where
  pub prefix : AppendsPrefix held held' text
  pub whole : (Rose faults faults' → ⊥) → Appends held held' text

-- the same of a line
abbrev pub WritesLine : List ℕ → Devices → Devices → Type 0
WritesLine text old new = Writes (line text) old.held new.held old.sink_faults new.sink_faults

-- a script was read: the bytes that the source had left, where told, were read to their end and are its text
pub record IsRead (built : Built) (script : Scripted) (left left' : Option (List ℕ)) : Type 0 where
  pub bytes : List ℕ
  pub given : GivesAll left left' bytes
  pub text : IsText built script bytes

-- the bytes that the source had left, where told, are the text of no script, which this line and reason tell; and they
-- were read to their end where they are not too many for one
abbrev pub IsRefused : Built → ℕ → Why → Option (List ℕ) → Option (List ℕ) → Type 0
IsRefused built n why left left' = IfSome left (λ bytes. IsBad built bytes n why × (length bytes ≤ LONGEST_TEXT → left' ≡ Some []))

-- no script was read, by the status: the source's count of faults rose, the bytes are refused, or memory ran out
abbrev pub IsUnread : Built → Status → Option (List ℕ) → Option (List ℕ) → ℕ → ℕ → Type 0
IsUnread built ends.ReadFault left left' faults faults' = Rose faults faults'
IsUnread built (ends.Script n why) left left' faults faults' = IsRefused built n why left left' × (faults' ≡ faults)
IsUnread built ends.Memory left left' faults faults' = faults' ≡ faults
IsUnread built _ left left' faults faults' = ⊥

-- what the run of a trace leaves: the turns were spent with some actor not ended, or every actor has ended; the history is
-- legal, and each thread's log answers the first of its calls
pub record IsTraceRun (script : Scripted) (is_spent : Bool) (world : World) : Type 0 where
  pub is_run : IsRunOf script is_spent world
  pub legal : IsLegal (ground_of script) world.history
  pub partial : ArePartial script world.history

-- the report of a trace: every thread answered all its calls, and it is the text of logs that fit the history
pub record IsTraceReport (script : Scripted) (world : World) (text : List ℕ) : Type 0 where
  pub complete : AreComplete script world.history
  pub logs : List (List Entry)
  pub fit : LogsFit (script.sizes.threads + 2) logs world.history
  pub text_is : text ≡ report_text logs

-- what went out of a refusal: the line that tells a bad script, and nothing else
abbrev pub Refuses : Status → Option (List ℕ) → Option (List ℕ) → ℕ → ℕ → Type 0
Refuses (ends.Script n why) held held' faults faults' = Writes (line (refusal n why)) held held' faults faults'
Refuses _ held held' faults faults' = Unit {0}

-- what went out of a run: the report, or a prefix of it where the sink failed; and a line where there is no report
abbrev pub IsFinished : Status → Option (List ℕ) → Option (List ℕ) → Option (List ℕ) → ℕ → ℕ → Type 0
IsFinished ends.Ok (Some text) held held' faults faults' = Appends held held' text × (faults' ≡ faults)
IsFinished ends.WriteFault (Some text) held held' faults faults' = AppendsPrefix held held' text × Rose faults faults'
IsFinished ends.Spent None held held' faults faults' = Writes (line (codes "turns spent")) held held' faults faults'
IsFinished _ _ held held' faults faults' = ⊥

-- the bytes are the text of no script
abbrev pub IsNoText : Built → List ℕ → Type 0
IsNoText built bytes = (script : Scripted) → IsText built script bytes → ⊥

-- the source tells these bytes, and no device fails
pub record Tells (bytes : List ℕ) (old new : Devices) : Type 0 where
  pub told : old.left ≡ Some bytes
  pub source : SourceFailed old new → ⊥
  pub sink : SinkFailed old new → ⊥

-- the status is that of a refused script
abbrev pub IsScript : Status → Type 0
IsScript (ends.Script n why) = Unit {0}
IsScript _ = ⊥

-- nothing was to be said
abbrev pub IsSilent : Status → Type 0
IsSilent ends.ReadFault = Unit {0}
IsSilent ends.Memory = Unit {0}
IsSilent _ = ⊥

-- How a form of the program ends that runs a script: the words that it reads, what a run leaves of a script, spent or not, and
-- the report of what is left.
module _ (built : Built) {Left : Type 0} (IsRun : Scripted → Bool → Left → Type 0) (IsReport : Scripted → Left → List ℕ → Type 0) where
  -- a script was read and a run of it was made, whose turns were spent or not, and what it left is handed out
  pub record Ran (is_spent : Bool) (old new : Devices) (left : Option Left) : Type 0 where
    pub script : Scripted
    pub read : IsRead built script old.left new.left
    pub after : Left
    pub given : left ≡ Some after
    pub is_run : IsRun script is_spent after

  -- the turns were not spent, and the report went out, as Out says: whole, or a prefix of it
  pub record RanWhole (Out : Option (List ℕ) → Option (List ℕ) → List ℕ → Type 0) (old new : Devices) (left : Option Left) : Type 0 where
    pub ran : Ran false old new left
    pub text : List ℕ
    pub reports : IsReport ran.script ran.after text
    pub written : Out old.held new.held text

  -- what is made of a script: there is a report where the turns were not spent, and none where they were
  abbrev pub IsReported : Scripted → Left → Option (List ℕ) → Type 0
  IsReported script after None = Unit {0}
  IsReported script after (Some text) = IsReport script after text

  -- how it ends, by its status
  pub record IsEnd (old new : Devices) (status : Status) (left : Option Left) : Type 0 where
    pub ok : status ≡ ends.Ok → RanWhole Appends old new left
    pub write_fault : status ≡ ends.WriteFault → RanWhole AppendsPrefix old new left
    pub spent : status ≡ ends.Spent → Ran true old new left
    pub spent_line : status ≡ ends.Spent → WritesLine (codes "turns spent") old new
    pub script : (n : ℕ) (why : Why) → status ≡ ends.Script n why → IsRefused built n why old.left new.left
    pub script_line : (n : ℕ) (why : Why) → status ≡ ends.Script n why → WritesLine (refusal n why) old new
    pub write_fault_only_where_rose : status ≡ ends.WriteFault → SinkFailed old new
    pub read_fault_only_where_rose : status ≡ ends.ReadFault → SourceFailed old new
    pub source_fault_is_answered : status ≢ ends.ReadFault → new.source_faults ≡ old.source_faults
    pub ok_without_fault : status ≡ ends.Ok → new.sink_faults ≡ old.sink_faults
    pub never_usage : status ≢ ends.Usage
    pub left_given : IsSome left ↔ ((status ≡ ends.Ok) ⊎ (status ≡ ends.Spent) ⊎ (status ≡ ends.WriteFault))
    pub source_left : GivesSome old.left new.left
    pub source_count : NeverFalls old.source_faults new.source_faults
    pub sink_count : NeverFalls old.sink_faults new.sink_faults
    -- a text of a script is run until its actors have ended or its turns are spent, where no device fails and memory lasts
    pub complete : (script : Scripted) (bytes : List ℕ) → IsText built script bytes → Tells bytes old new →
        (status ≡ ends.Ok) ⊎ (status ≡ ends.Spent) ⊎ (status ≡ ends.Memory)
    -- any other text is refused where the source does not fail and memory lasts
    pub refused : (bytes : List ℕ) → old.left ≡ Some bytes → IsNoText built bytes → (SourceFailed old new → ⊥) →
        IsScript status ⊎ (status ≡ ends.Memory)

-- how a trace ends
abbrev pub IsTraceEnd : Devices → Devices → Status → Option World → Type 0
IsTraceEnd = IsEnd TODAY IsTraceRun IsTraceReport

-- the words are none of the forms: the usage line was written
pub record IsUsageEnd (old new : Devices) (status : Status) (board : Option World) : Type 0 where
  pub status_is : status ≡ ends.Usage
  pub no_board : board ≡ None
  pub sink_count : NeverFalls old.sink_faults new.sink_faults
  pub usage_line : WritesLine (codes "usage: kn_run trace | run | gen N | cms") old new
