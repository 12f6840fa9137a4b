-- How a run of a script ends, from how its reading, its run and its writing ended.
use Rattle.std.proofs.Common.{◌≡◌, ◌≢◌, ◌⊎◌, inl, inr, ℕ, Bool, true, false, List, refl, sym, subst}
use Rattle.std.specs.Prelude.{Option, Some, None, Err, IsSome, is_none, string_bytes}
use Rattle.std.specs.declared.string.String.{String}
use Rattle.std.specs.Option.{option_map}
use Rattle.kn_io.specs.Counts.{NeverFalls}
use Rattle.kn_io.specs.Devices.{Devices, SourceFailed, SinkFailed}
use Rattle.kn_io.specs.Told.{GivesAll, GivesSome, Appends, AppendsPrefix}
use Rattle.kn_lines.specs.declared.built.Built.{Built}
use Rattle.kn_script.specs.Scripts.{Scripted}
use Rattle.kn_script.specs.Grammar.{IfBad, IsBad, IsText}
use Rattle.kn_script.specs.declared.faults.Fault.{Fault}
use Rattle.kn_script.specs.declared.faults.Fault.TheVariants.{Bad}
use Rattle.kn_script.specs.declared.faults.Why.{Why}
use Rattle.kn_script.specs.Laws.{NoTextIsBad}
use Rattle.kn_commands.specs.declared.status.Status.{Status}
use Rattle.kn_commands.specs.declared.status.Status.TheVariants as ends
use Rattle.kn_commands.specs.Ends.{Ran, RanWhole, IsRead, IsRefused, IsReported, IsUnread, IsFinished, Refuses, IsScript, IsEnd}

-- there is a report exactly where the turns were not spent
abbrev pub IsTextOf : Bool → Option (List ℕ) → Type 0
IsTextOf is_spent None = is_spent ≡ true
IsTextOf is_spent (Some text) = is_spent ≡ false

pub text_of : {Z : Type 0} (report : Option (String Z)) → IsTextOf (is_none report) (option_map string_bytes report)
text_of None = refl
text_of (Some text) = refl

-- bytes that are no text are refused, where the source told them
pub bad_text : (built : Built) (fault : Fault) (n : ℕ) (why : Why) (left left' : Option (List ℕ)) (text bytes : List ℕ) →
    fault ≡ Bad n why → text ≡ bytes → GivesAll left left' bytes → IfBad {X = Scripted} (Err fault) (λ line why. IsBad built text line why) →
    IsRefused built n why left left'
bad_text built fault n why None left' text bytes is same gives bad = tt
bad_text built fault n why (Some told) left' text bytes is same gives bad =
    let first = subst (λ (f : Fault). IfBad {X = Scripted} (Err f) (λ line why. IsBad built text line why)) is bad in
    (subst (λ (x : List ℕ). IsBad built x n why) gives.0 (subst (λ (x : List ℕ). IsBad built x n why) same first), λ short. gives.1)

module _ (built : Built) {Left : Type 0} (IsRun : Scripted → Bool → Left → Type 0) (IsReport : Scripted → Left → List ℕ → Type 0)
    (apart : NoTextIsBad built) (old new : Devices) (status : Status) (kept : Option Left)
    (left : GivesSome old.left new.left) (source_count : NeverFalls old.source_faults new.source_faults)
    (sink_count : NeverFalls old.sink_faults new.sink_faults) where
  -- no script was read, or its run found no memory
  module _ (none : kept ≡ None) (unread : IsUnread built status old.left new.left old.source_faults new.source_faults)
      (told : Refuses status old.held new.held old.sink_faults new.sink_faults) where
    as_status : (other : Status) → status ≡ other → IsUnread built other old.left new.left old.source_faults new.source_faults
    as_status other e = subst (λ (x : Status). IsUnread built x old.left new.left old.source_faults new.source_faults) e unread

    other_faults : (x : Status) → x ≢ ends.ReadFault → IsUnread built x old.left new.left old.source_faults new.source_faults →
        new.source_faults ≡ old.source_faults
    other_faults ends.ReadFault not is = absurd (not refl)
    other_faults (ends.Script n why) not is = is.1
    other_faults ends.Memory not is = is
    other_faults ends.Ok not is = absurd is
    other_faults ends.Usage not is = absurd is
    other_faults ends.Spent not is = absurd is
    other_faults ends.WriteFault not is = absurd is

    no_text : (x : Status) → IsUnread built x old.left new.left old.source_faults new.source_faults → (SourceFailed old new → ⊥) →
        IsScript x ⊎ (x ≡ ends.Memory)
    no_text ends.ReadFault is sound = absurd (sound is)
    no_text (ends.Script n why) is sound = inl tt
    no_text ends.Memory is sound = inr refl
    no_text ends.Ok is sound = absurd is
    no_text ends.Usage is sound = absurd is
    no_text ends.Spent is sound = absurd is
    no_text ends.WriteFault is sound = absurd is

    is_memory : (x : Status) (script : Scripted) (bytes : List ℕ) → IsText built script bytes → old.left ≡ Some bytes →
        (SourceFailed old new → ⊥) →
        IsUnread built x old.left new.left old.source_faults new.source_faults → x ≡ ends.Memory
    is_memory ends.ReadFault script bytes text told sound is = absurd (sound is)
    is_memory (ends.Script n why) script bytes text told sound is =
        let refused = subst (λ (x : Option (List ℕ)). IsRefused built n why x new.left) told is.0 in
        absurd (apart script bytes n why text refused.0)
    is_memory ends.Memory script bytes text told sound is = refl
    is_memory ends.Ok script bytes text told sound is = absurd is
    is_memory ends.Usage script bytes text told sound is = absurd is
    is_memory ends.Spent script bytes text told sound is = absurd is
    is_memory ends.WriteFault script bytes text told sound is = absurd is

    no_left : IsSome kept → (status ≡ ends.Ok) ⊎ (status ≡ ends.Spent) ⊎ (status ≡ ends.WriteFault)
    no_left some = let h = subst (λ (x : Option Left). IsSome x) none some in cc

    no_end : (status ≡ ends.Ok) ⊎ (status ≡ ends.Spent) ⊎ (status ≡ ends.WriteFault) → IsSome kept
    no_end (inl e) = absurd (as_status ends.Ok e)
    no_end (inr (inl e)) = absurd (as_status ends.Spent e)
    no_end (inr (inr e)) = absurd (as_status ends.WriteFault e)

    pub refused_end : IsEnd built IsRun IsReport old new status kept
    refused_end = record {
      ok = λ e. absurd (as_status ends.Ok e);
      write_fault = λ e. absurd (as_status ends.WriteFault e);
      spent = λ e. absurd (as_status ends.Spent e);
      spent_line = λ e. absurd (as_status ends.Spent e);
      script = λ n why e. (as_status (ends.Script n why) e).0;
      script_line = λ n why e. subst (λ (x : Status). Refuses x old.held new.held old.sink_faults new.sink_faults) e told;
      write_fault_only_where_rose = λ e. absurd (as_status ends.WriteFault e);
      read_fault_only_where_rose = λ e. as_status ends.ReadFault e;
      source_fault_is_answered = λ not. other_faults status not unread;
      ok_without_fault = λ e. absurd (as_status ends.Ok e);
      never_usage = λ e. absurd (as_status ends.Usage e);
      left_given = (no_left, no_end);
      source_left = left;
      source_count = source_count;
      sink_count = sink_count;
      complete = λ script bytes text tells. inr (inr (is_memory status script bytes text tells.told tells.source unread));
      refused = λ bytes told none sound. no_text status unread sound;
    }

  -- a script was read and its run was made
  module _ (script : Scripted) (after : Left) (is_spent : Bool) (read : IsRead built script old.left new.left)
      (is_run : IsRun script is_spent after) (given : kept ≡ Some after) (no_fault : new.source_faults ≡ old.source_faults) where
    ran : (spent : Bool) → is_spent ≡ spent → Ran built IsRun IsReport spent old new kept
    ran spent e = record {
      script = script;
      read = read;
      after = after;
      given = given;
      is_run = subst (λ b. IsRun script b after) e is_run;
    }

    whole : (Out : Option (List ℕ) → Option (List ℕ) → List ℕ → Type 0) (text : List ℕ) → is_spent ≡ false →
        IsReport script after text → Out old.held new.held text → RanWhole built IsRun IsReport Out old new kept
    unfolding ran
    whole Out text e reports out = record { ran = ran false e; text = text; reports = reports; written = out }

    -- the text that was told is that of the script that was read
    told_text : (bytes : List ℕ) → old.left ≡ Some bytes → IsText built script bytes
    told_text bytes told =
        let gives = subst (λ (x : Option (List ℕ)). GivesAll x new.left read.bytes) told read.given in
        subst (λ (x : List ℕ). IsText built script x) gives.0 read.text

    abbrev pub IsWritten : Status → Option (List ℕ) → Type 0
    IsWritten x text = IsFinished x text old.held new.held old.sink_faults new.sink_faults

    ok_text : (text : Option (List ℕ)) → IsTextOf is_spent text → IsReported built IsRun IsReport script after text → IsWritten ends.Ok text →
        RanWhole built IsRun IsReport Appends old new kept × (new.sink_faults ≡ old.sink_faults)
    ok_text None e reported is = absurd is
    ok_text (Some text) e reported is = (whole Appends text e reported is.0, is.1)

    fault_text : (text : Option (List ℕ)) → IsTextOf is_spent text → IsReported built IsRun IsReport script after text → IsWritten ends.WriteFault text →
        RanWhole built IsRun IsReport AppendsPrefix old new kept × SinkFailed old new
    fault_text None e reported is = absurd is
    fault_text (Some text) e reported is = (whole AppendsPrefix text e reported is.0, is.1)

    module _ (text : Option (List ℕ)) (text_of : IsTextOf is_spent text) (reported : IsReported built IsRun IsReport script after text)
        (finished : IsWritten status text) where
      as_end : (other : Status) → status ≡ other → IsWritten other text
      as_end other e = subst (λ (x : Status). IsWritten x text) e finished

      spent_text : (text : Option (List ℕ)) → IsTextOf is_spent text → IsWritten ends.Spent text →
          (is_spent ≡ true) × IsFinished ends.Spent None old.held new.held old.sink_faults new.sink_faults
      spent_text None e is = (e, is)
      spent_text (Some text) e is = absurd is

      ended_by : (x : Status) (text : Option (List ℕ)) → IsWritten x text → (x ≡ ends.Ok) ⊎ (x ≡ ends.Spent) ⊎ (x ≡ ends.WriteFault)
      ended_by ends.Ok text is = inl refl
      ended_by ends.Spent text is = inr (inl refl)
      ended_by ends.WriteFault text is = inr (inr refl)
      ended_by ends.ReadFault text is = absurd is
      ended_by ends.Usage text is = absurd is
      ended_by ends.Memory text is = absurd is
      ended_by (ends.Script n why) text is = absurd is

      -- the run ended well or its turns were spent, unless the sink failed
      ended_well : (x : Status) (text : Option (List ℕ)) → (SinkFailed old new → ⊥) → IsWritten x text →
          (x ≡ ends.Ok) ⊎ (x ≡ ends.Spent) ⊎ (x ≡ ends.Memory)
      ended_well ends.Ok text sound is = inl refl
      ended_well ends.Spent text sound is = inr (inl refl)
      ended_well ends.WriteFault None sound is = absurd is
      ended_well ends.WriteFault (Some text) sound is = absurd (sound is.1)
      ended_well ends.ReadFault text sound is = absurd is
      ended_well ends.Usage text sound is = absurd is
      ended_well ends.Memory text sound is = absurd is
      ended_well (ends.Script n why) text sound is = absurd is

      pub ran_end : IsEnd built IsRun IsReport old new status kept
      unfolding ran
      ran_end = record {
        ok = λ e. (ok_text text text_of reported (as_end ends.Ok e)).0;
        write_fault = λ e. (fault_text text text_of reported (as_end ends.WriteFault e)).0;
        spent = λ e. ran true (spent_text text text_of (as_end ends.Spent e)).0;
        spent_line = λ e. (spent_text text text_of (as_end ends.Spent e)).1;
        script = λ n why e. absurd (as_end (ends.Script n why) e);
        script_line = λ n why e. absurd (as_end (ends.Script n why) e);
        write_fault_only_where_rose = λ e. (fault_text text text_of reported (as_end ends.WriteFault e)).1;
        read_fault_only_where_rose = λ e. absurd (as_end ends.ReadFault e);
        source_fault_is_answered = λ not. no_fault;
        ok_without_fault = λ e. (ok_text text text_of reported (as_end ends.Ok e)).1;
        never_usage = λ e. absurd (as_end ends.Usage e);
        left_given = (λ some. ended_by status text finished, λ e. subst (λ (x : Option Left). IsSome x) (sym given) some_left);
        source_left = left;
        source_count = source_count;
        sink_count = sink_count;
        complete = λ other bytes is tells. ended_well status text tells.sink finished;
        refused = λ bytes told none sound. absurd (none script (told_text bytes told));
      }
        where
          some_left : IsSome (Some after)
          some_left = refl
