-- A step, what it finds, and what it makes of its word.
use Rattle.std.specs.Prelude.{ℕ, ◌+◌, ◌-◌, ◌==◌, cond, List, [], ◌∷◌, ◌++◌, Option, None, nat_le}
use Rattle.kn_base.specs.declared.heap.Sizes.{Sizes}
use Rattle.kn_base.specs.declared.places.Place.{Place}
use Rattle.kn_base.specs.declared.places.Place.TheVariants.{State, RootSet, Local, Frame, Side, Body}
use Rattle.kn_base.specs.Pages.{FrameView}
use Rattle.kn_graph.specs.declared.calls.Call.{Call}
use Rattle.kn_graph.specs.declared.calls.Reply.{Reply}
use Rattle.kn_graph.specs.declared.entries.Event.TheVariants as events
use Rattle.kn_graph.specs.declared.entries.Entry.{Entry}
use Rattle.kn_rule.specs.declared.steps.Kind.{Kind}
use Rattle.kn_rule.specs.declared.steps.Action.{Action}
use Rattle.kn_rule.specs.declared.steps.Action.TheVariants.{Loads, LoadsFor, Stores, Swaps, Adds, Subtracts, Raises}
use Rattle.kn_rule.specs.Decoding.{phase_of}
use Rattle.kn_rule.specs.Phases.{pauses}
use Rattle.kn_rule.specs.Views.{View}

-- one action of a kind on the word of a place
pub record Step : Type 0 where
  pub kind : Kind
  pub place : Place
  pub act : Action

abbrev pub does : Kind → Place → Action → Step
does k p a = record { kind = k; place = p; act = a }

-- what a step found: the word; and, where a page comes into the view or is given back, the page in the slot
pub record Found : Type 0 where
  pub word : ℕ
  pub page : FrameView

abbrev pub found : ℕ → FrameView → Found
found n page = record { word = n; page = page }

-- the word that an action leaves, for the word found
abbrev pub word_after : Action → ℕ → ℕ
word_after Loads n = n
word_after (LoadsFor next) n = n
word_after (Stores w) n = w
word_after (Swaps old new) n = cond (n == old) new n
word_after (Adds d) n = n + d
word_after (Subtracts d) n = n - d
word_after (Raises d) n = cond (nat_le n d) d n

-- the word that an action stores, or wants to store
abbrev pub word_stored : Action → ℕ
word_stored (Stores w) = w
word_stored (Swaps old new) = new
word_stored _ = 0

-- the word that an exchange wants to find
abbrev pub word_wanted : Action → ℕ
word_wanted (Swaps old new) = old
word_wanted _ = 0

-- the call that begins with a load of the phase
abbrev pub next_of : Action → Option Call
next_of (LoadsFor next) = next
next_of _ = None

abbrev pub frame_in : Place → ℕ
frame_in (Frame p) = p
frame_in _ = 0

abbrev pub address_in : Place → ℕ
address_in (Body a) = a
address_in (Side a) = a
address_in _ = 0

abbrev pub local_in : Place → ℕ
local_in (Local i r) = r
local_in _ = 0

abbrev pub set_in : Place → ℕ
set_in (RootSet j) = j
set_in _ = 0

abbrev pub state_in : Place → ℕ
state_in (State i) = i
state_in _ = 0

-- the mutators, the collector and the finalizer
abbrev pub callers : Sizes → ℕ
callers z = z.threads + 2

-- the epoch in which a view stands: the number of pauses before its last poll
abbrev pub epoch_in : View → ℕ
epoch_in v = pauses (phase_of v.polled)

-- the entry of a call that caller c answers in an epoch
abbrev pub entry_of : ℕ → ℕ → Call → Reply → ℕ → Entry
entry_of c epoch call reply address = record { by = record { 0 = c }; epoch = epoch; what = events.Call call reply address }

-- the entry of the pause of an epoch, which the collector makes
abbrev pub pause_of : ℕ → ℕ → Entry
pause_of c e = record { by = record { 0 = c }; epoch = e; what = events.Pause e }

-- a list with what was said behind it
abbrev pub more : List Entry → List Entry → List Entry
more entries [] = entries
more entries (entry ∷ rest) = entries ++ entry ∷ rest

-- what a step makes of the view, and what it says in the log and in the history
pub record Outcome : Type 0 where
  pub view : View
  pub says : List Entry

abbrev pub quietly : View → Outcome
quietly v = record { view = v; says = [] }

-- the call is answered, and what was read for it is forgotten
abbrev pub saying : ℕ → ℕ → Call → Reply → ℕ → View → Outcome
saying c epoch call reply address v = record { view = record v { header = None }; says = entry_of c epoch call reply address ∷ [] }

-- the view with what was said in its log
abbrev pub logged : Outcome → View
logged o = record o.view { log = more o.view.log o.says }
