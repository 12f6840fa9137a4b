-- The laws of legal histories and of the graphs that they lead to.
use Rattle.std.specs.Prelude.{◌≡◌, ◌≢◌, ℕ, ◌+◌, ◌<◌, ◌≤◌, ◌==◌, Bool, IsSome, ◌⊎◌, ◌↔◌, true, false, Some, List, []}
use Rattle.std.specs.Prelude.{◌∷◌, ◌++◌, cond}
use Rattle.std.specs.List.{AllByRecursion}
use Rattle.kn_base.specs.Spans.{AreApart}
use Rattle.kn_graph.specs.declared.calls.Call.{Call}
use Rattle.kn_graph.specs.declared.calls.Call.TheVariants.{WeakGet}
use Rattle.kn_graph.specs.declared.calls.Reply.{Reply}
use Rattle.kn_graph.specs.declared.calls.Reply.TheVariants as replies
use Rattle.kn_graph.specs.declared.entries.Event.{Event}
use Rattle.kn_graph.specs.declared.entries.Event.TheVariants as events
use Rattle.kn_graph.specs.declared.entries.Entry.{Entry}
use Rattle.kn_graph.specs.Ground.{Ground, IsGoodGround}
use Rattle.kn_graph.specs.Graph.{Graph, Object, Shape, with_object, with_birth, shapes, words_of, length_for, field_kind, Lives, Names, empty_graph}
use Rattle.kn_graph.specs.Reachable.{IsReachable, Holds}
use Rattle.kn_graph.specs.Histories.{CallFollows, Follows, Leads}
use Rattle.kn_graph.specs.Logs.{log_of, calls_of, call_in, replies_of, reply_in}
use Rattle.kn_graph.specs.Sound.{Alive, HasCell, IsSound, IsDone}
use Rattle.kn_graph.specs.Changes.{Changes}
use Rattle.kn_graph.specs.Growth.{Succeeds, CondemnsNone, IsWritten, KeepsParts}
use Rattle.kn_graph.specs.Epochs.{Happens, WasUnreachable, Finalizes, last_epoch}
use Rattle.kn_graph.specs.Counts.{is_pause, how_many, births_among, passing}

-- a legal entry behind a history makes a history that is longer by one
abbrev pub EntriesExtend : Type 0
EntriesExtend = (z : Ground) (g : Graph) (history : List Entry) (entry : Entry) (mid last : Graph) →
    Leads z g history mid → Follows z entry mid last → Leads z g (history ++ entry ∷ []) last

-- two histories make one exactly where there is a graph between them
abbrev pub HistoriesSplit : Type 0
HistoriesSplit = (z : Ground) (g : Graph) (history rest : List Entry) (last : Graph) →
    Leads z g (history ++ rest) last ↔ ((mid : Graph) × Leads z g history mid × Leads z mid rest last)

-- an entry leads from a sound graph to one graph
abbrev pub EntriesLeadToOne : Type 0
EntriesLeadToOne = (z : Ground) (g : Graph) (entry : Entry) (x y : Graph) → IsSound z g → Follows z entry g x → Follows z entry g y → x ≡ y

-- a legal history leads to one graph
abbrev pub HistoriesLeadToOne : Type 0
HistoriesLeadToOne = (z : Ground) (history : List Entry) (x y : Graph) → Leads z empty_graph history x → Leads z empty_graph history y → x ≡ y

-- the graph after a legal history is sound
abbrev pub LegalIsSound : Type 0
LegalIsSound = (z : Ground) (history : List Entry) (g : Graph) → Leads z empty_graph history g → IsSound z g

-- a legal entry leads from a sound graph to a sound one, which comes after it
abbrev pub EntriesKeepSound : Type 0
EntriesKeepSound = (z : Ground) (g : Graph) (entry : Entry) (g' : Graph) → IsSound z g → Follows z entry g g' → IsSound z g' × Succeeds g g'

-- a history leads from a sound graph to a sound one, which comes after it
abbrev pub HistoriesKeepSound : Type 0
HistoriesKeepSound = (z : Ground) (g : Graph) (history : List Entry) (g' : Graph) → IsSound z g → Leads z g history g' → IsSound z g' × Succeeds g g'

-- a call changes nothing or one thing of a sound graph
abbrev pub CallsChangeOneThing : Type 0
CallsChangeOneThing = (z : Ground) (by epoch : ℕ) (call : Call) (reply : Reply) (address : ℕ) (g g' : Graph) →
    IsSound z g → CallFollows z by epoch call reply address g g' → Changes z by g g'

-- where one object is written, each part of the graph is written there, and one that stays the same there stays the same
abbrev pub ObjectIsWritten : Type 0
ObjectIsWritten = (g : Graph) (n : ℕ) (o : Object) → IsWritten g (with_object g n o) n o × KeepsParts g (with_object g n o) n o

-- a birth writes each part of the graph at the new object's number
abbrev pub BirthIsWritten : Type 0
BirthIsWritten = (g : Graph) (thread r : ℕ) (new : Object) → IsWritten g (with_birth g thread r new) g.born new

-- in a sound graph an address names an object exactly where the object is not released and has that address
abbrev pub AddressesName : Type 0
AddressesName = (z : Ground) (g : Graph) (a n : ℕ) → IsSound z g →
    Names g a n ↔ (Lives g.born (shapes g) n × ((g.object n).address ≡ a))

-- an address names at most one object
abbrev pub AddressesNameOne : Type 0
AddressesNameOne = (z : Ground) (g : Graph) (n m : ℕ) → IsSound z g → Lives g.born (shapes g) n → Lives g.born (shapes g) m →
    (g.object n).address ≡ (g.object m).address → n ≡ m

-- after a legal history the objects that are not released have no word in common
abbrev pub LegalCellsAreApart : Type 0
LegalCellsAreApart = (z : Ground) (history : List Entry) (g : Graph) (n m : ℕ) → Leads z empty_graph history g →
    Lives g.born (shapes g) n → Lives g.born (shapes g) m → n ≢ m → AreApart (words_of (shapes g n)) (words_of (shapes g m))

-- no object has the address 0
abbrev pub AddressesArePositive : Type 0
AddressesArePositive = (z : Ground) (o : Shape) → HasCell z o → 1 ≤ o.address

-- an object has as many fields as its length says
abbrev pub LengthsAreFields : Type 0
LengthsAreFields = (z : Ground) (o : Shape) → HasCell z o → length_for z o.layout o.length ≡ o.length

-- a field is there exactly where its number is below the length
abbrev pub FieldsAreThere : Type 0
FieldsAreThere = (z : Ground) (o : Shape) (f : ℕ) → HasCell z o → IsSome (field_kind z o f) ↔ (f < o.length)

-- the layout and the length of an object are within their limits
abbrev pub ShapesAreSmall : Type 0
ShapesAreSmall = (z : Ground) (o : Shape) → IsGoodGround z → HasCell z o → (o.layout < 64) × (o.length ≤ 60000)

-- after a legal history what is reachable was born and is not condemned
abbrev pub ReachableIsAlive : Type 0
ReachableIsAlive = (z : Ground) (history : List Entry) (g : Graph) (n : ℕ) → Leads z empty_graph history g →
    IsReachable g n → Alive g.born (shapes g) (Some n)

-- after a legal history no object that is not condemned points to a condemned one
abbrev pub HeldIsAlive : Type 0
HeldIsAlive = (z : Ground) (history : List Entry) (g : Graph) (n m : ℕ) → Leads z empty_graph history g →
    Alive g.born (shapes g) (Some n) → Holds g n m → Alive g.born (shapes g) (Some m)

-- after a legal history an object is condemned exactly where it was unreachable at some pause
abbrev pub CondemnedWasUnreachable : Type 0
CondemnedWasUnreachable = (z : Ground) (history : List Entry) (g : Graph) (n : ℕ) → Leads z empty_graph history g → n < g.born →
    ((g.object n).condemned ≡ true) ↔ WasUnreachable z empty_graph history n

-- an entry that is no pause condemns nothing
abbrev pub OnlyPausesCondemn : Type 0
OnlyPausesCondemn = (z : Ground) (g : Graph) (entry : Entry) (g' : Graph) → IsSound z g → Follows z entry g g' → is_pause entry.what ≡ false →
    CondemnsNone g g'

-- a read of a weak name that is not vacant answers `none` exactly where its referent was unreachable at some pause
abbrev pub WeakReadsAnswer : Type 0
WeakReadsAnswer = (z : Ground) (history : List Entry) (g : Graph) (by epoch r w n : ℕ) (reply : Reply) (address : ℕ) (g' : Graph) →
    Leads z empty_graph history g → CallFollows z by epoch (WeakGet r w) reply address g g' → g.weak w ≡ Some n →
    (reply ≡ replies.Nothing) ↔ WasUnreachable z empty_graph history n

-- an object is released or queued
abbrev pub IsGone : Graph → ℕ → Type 0
IsGone g n = ((g.object n).released ≡ true) ⊎ ((g.object n).queued ≡ true)

-- while the last pause is that of an epoch that is done, an object is released or queued exactly where it is condemned
abbrev pub GoneIsCondemned : Type 0
GoneIsCondemned = (z : Ground) (g : Graph) (n : ℕ) → IsSound z g → IsDone g → n < g.born → IsGone g n ↔ ((g.object n).condemned ≡ true)

-- behind the end of an epoch, and before a further pause, an object is released or queued exactly where it was unreachable
-- at some pause
abbrev pub EpochsCollect : Type 0
EpochsCollect = (z : Ground) (before after : List Entry) (done : Entry) (epoch : ℕ) (g : Graph) (n : ℕ) →
    Leads z empty_graph (before ++ done ∷ after) g → done.what ≡ events.Done epoch → AllByRecursion (λ entry. is_pause entry.what ≡ false) after →
    n < g.born → IsGone g n ↔ WasUnreachable z empty_graph (before ++ done ∷ after) n

-- entries of a legal history that finalize one object stand at one place
abbrev pub FinalizedOnce : Type 0
FinalizedOnce = (z : Ground) (history : List Entry) (last : Graph) (n : ℕ) (before before' : List Entry) (entry entry' : Entry) (g g' : Graph) →
    Leads z empty_graph history last → Happens z empty_graph history before entry g → Happens z empty_graph history before' entry' g' →
    Finalizes entry g n → Finalizes entry' g' n → before ≡ before'

-- after a legal history a number of the graph is how many events of a kind have come
abbrev pub IsNumberOf : (Event → Bool) → (Graph → ℕ) → Type 0
IsNumberOf kind part = (z : Ground) (history : List Entry) (g : Graph) → Leads z empty_graph history g → part g ≡ how_many kind history

-- at most as many objects pass a test as were born
abbrev pub PassingAreBorn : Type 0
PassingAreBorn = (test : Object → Bool) (g : Graph) → passing test g ≤ g.born

-- a legal history has at most as many objects as calls that make one
abbrev pub BornWereCalled : Type 0
BornWereCalled = (z : Ground) (history : List Entry) (g : Graph) → Leads z empty_graph history g → g.born ≤ births_among (calls_of history)

-- after a legal history the graph keeps the epoch of each caller's last entry, and 0 where it made none
abbrev pub EnteredIsLast : Type 0
EnteredIsLast = (z : Ground) (history : List Entry) (g : Graph) (by : ℕ) → Leads z empty_graph history g →
    g.entered by ≡ last_epoch 0 (log_of by history)

-- where each entry of a caller's log has an epoch below e, so has the epoch that the graph keeps of the last one
abbrev pub EnteredIsBelow : Type 0
EnteredIsBelow = (z : Ground) (history : List Entry) (g : Graph) (by e : ℕ) → Leads z empty_graph history g → 0 < e →
    AllByRecursion (λ entry. entry.epoch < e) (log_of by history) → g.entered by < e

-- no entry of a legal history, or of a log of it, has an epoch above the number of the last pause
abbrev pub EpochsArePast : Type 0
EpochsArePast = (z : Ground) (history : List Entry) (g : Graph) → Leads z empty_graph history g →
    AllByRecursion (λ entry. entry.epoch ≤ g.paused) history ×
    ((by : ℕ) → AllByRecursion (λ entry. entry.epoch ≤ g.paused) (log_of by history))

-- one entry more stands last in its caller's log, and in no other
abbrev pub LogsExtend : Type 0
LogsExtend = (by : ℕ) (history : List Entry) (entry : Entry) →
    log_of by (history ++ entry ∷ []) ≡ cond (entry.by.0 == by) (log_of by history ++ entry ∷ []) (log_of by history)

-- one entry more is one call more where it answers one, one reply more, and one birth more where that call makes an object
abbrev pub CallsExtend : Type 0
CallsExtend = (log : List Entry) (entry : Entry) → calls_of (log ++ entry ∷ []) ≡ calls_of log ++ call_in entry.what

abbrev pub RepliesExtend : Type 0
RepliesExtend = (log : List Entry) (entry : Entry) → replies_of (log ++ entry ∷ []) ≡ replies_of log ++ reply_in entry.what

abbrev pub BirthsExtend : Type 0
BirthsExtend = (log : List Entry) (entry : Entry) →
    births_among (calls_of (log ++ entry ∷ [])) ≡ births_among (calls_of log) + births_among (call_in entry.what)
