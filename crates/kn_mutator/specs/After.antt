-- What a mutator is behind what it keeps of a step.
use Rattle.std.specs.Prelude.{ℕ, Bool, true, false, cond, List, [], ◌∷◌, ◌++◌, Option, Some, None, slice_set}
use Rattle.kn_layout.specs.declared.layouts.FieldKind.{FieldKind}
use Rattle.kn_layout.specs.declared.layouts.FieldKind.TheVariants.{Ref, Int}
use Rattle.kn_graph.specs.declared.calls.Call.{Call}
use Rattle.kn_graph.specs.declared.calls.Call.TheVariants.{Collect}
use Rattle.kn_graph.specs.declared.calls.Reply.{Reply}
use Rattle.kn_graph.specs.declared.calls.Reply.TheVariants as replies
use Rattle.kn_graph.specs.declared.entries.Entry.{Entry}
use Rattle.kn_rule.specs.Decoding.{phase_of}
use Rattle.kn_rule.specs.Outcomes.{ref_word}
use Rattle.kn_rule.specs.Phases.{pauses}
use Rattle.kn_rule.specs.Requests.{field_of, told_kind}
use Rattle.kn_rule.specs.Steps.{entry_of}
use Rattle.kn_mutator.specs.declared.task.Task.{Task}
use Rattle.kn_mutator.specs.declared.task.Task.TheVariants.{Calls, Writes}
use Rattle.kn_mutator.specs.Mutating.{Mutating}
use Rattle.kn_mutator.specs.Tasks.{has_left, has_single, is_done, rest_task}

-- the log with a call answered
abbrev pub said : Mutating → Call → Reply → ℕ → List Entry
said m call reply address = m.log ++ entry_of m.by m.epoch call reply address ∷ []

-- what is done between two calls
abbrev pub resting_task : Mutating → Task
resting_task m = rest_task (has_left m) (has_single m.alloc.hands)

-- its call answered, and nothing due of it
abbrev pub answered : Mutating → Call → Reply → Mutating
answered m call reply = record m { log = said m call reply 0; task = resting_task m }

-- a local set and the call answered
abbrev pub assigned : Mutating → Call → ℕ → ℕ → Mutating
assigned m call r w = record m { locals = slice_set m.locals r w; log = said m call replies.Ok 0; task = resting_task m }

-- a reference read into a local, whose store is due
abbrev pub referred : Mutating → Call → ℕ → ℕ → Mutating
referred m call r w = record m { locals = slice_set m.locals r w; log = said m call (ref_word w) 0; task = Writes r w }

-- its object born at the address, which is due for local r
abbrev pub born : Mutating → Call → ℕ → ℕ → Mutating
born m call r address = record m { locals = slice_set m.locals r address; log = said m call replies.Ok address; task = Writes r address }

-- the field is of the kind wanted
abbrev pub is_kind : FieldKind → FieldKind → Bool
is_kind Ref Ref = true
is_kind Int Int = true
is_kind _ _ = false

-- behind the header h: the call is answered where the object has no such field or one of another kind, and else it goes on
abbrev pub judged_as : Mutating → Call → ℕ → FieldKind → Option FieldKind → Mutating
judged_as m call h wanted None = answered m call replies.NoField
judged_as m call h wanted (Some k) =
    cond (is_kind wanted k) (record m { task = Calls call (Some h) }) (answered m call replies.WrongKind)

abbrev pub judged_for : Mutating → Call → ℕ → Option (ℕ × ℕ × FieldKind) → Mutating
judged_for m call h None = m
judged_for m call h (Some t) = judged_as m call h t.2 (told_kind m.heap h t.1)

abbrev pub judged : Mutating → Call → ℕ → Mutating
judged m call h = judged_for m call h (field_of call)

-- the epoch n was wanted, and is done at the phase word w: its `gc` is answered
abbrev pub told_epoch : Mutating → ℕ → ℕ → Mutating
told_epoch m n w = record m {
  target = None;
  log = m.log ++ entry_of m.by (pauses (phase_of w)) Collect (replies.Epoch n) 0 ∷ [];
  task = resting_task m;
}

-- the epoch n is wanted where the phase word is w: its `gc` is answered where it is done, and else the task is this one
abbrev pub awaited : Mutating → ℕ → ℕ → Task → Mutating
awaited m n w task = cond (is_done n w) (told_epoch m n w) (record m { task = task })
