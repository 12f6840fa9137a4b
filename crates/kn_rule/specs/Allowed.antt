-- When a caller's view allows a step of each kind.
use Rattle.std.specs.Prelude.{◌≡◌, ◌≢◌, ℕ, ◌+◌, ◌*◌, ◌<◌, ◌≤◌, ◌⊎◌, Bool, List, true, false, Option, Some, None}
use Rattle.std.specs.Prelude.{IsTrue, slice_get}
use Rattle.std.specs.Prelude.{slice_index}
use Rattle.kn_base.specs.declared.places.Place.{Place}
use Rattle.kn_base.specs.declared.places.Place.TheVariants.{Phase, Want, Pending, State, Local, Global, Frame, Side, Body}
use Rattle.kn_base.specs.declared.kinds.Code.TheVariants as codes
use Rattle.kn_base.specs.declared.phase_word.PhaseWord.{PhaseWord}
use Rattle.kn_base.specs.Words.{packed_phase, packed_frame}
use Rattle.kn_base.specs.Sizes.{frame_count}
use Rattle.kn_base.specs.Spans.{LiesIn}
use Rattle.kn_layout.specs.declared.layouts.FieldKind.{FieldKind}
use Rattle.kn_layout.specs.declared.layouts.FieldKind.TheVariants.{Ref as of_ref, Int as of_int}
use Rattle.kn_graph.specs.declared.calls.Call.{Call}
use Rattle.kn_graph.specs.declared.calls.Call.TheVariants.{New, NewArray, Copy, Clear, Same, Get, Set, Put, Read, GlobalSet, GlobalGet, Collect}
use Rattle.kn_graph.specs.Ground.{Ground}
use Rattle.kn_graph.specs.Arguments.{IsInRange}
use Rattle.kn_graph.specs.Counts.{makes_object}
use Rattle.kn_rule.specs.declared.steps.Kind.{Kind}
use Rattle.kn_rule.specs.declared.steps.Kind.TheVariants.{K1, K2, K3, K4, K5, K6}
use Rattle.kn_rule.specs.declared.steps.Kind.TheVariants.{K7, K8, K9, K10, K11, K12, K13, K14, K15, K16}
use Rattle.kn_rule.specs.declared.steps.Kind.TheVariants.{K17, K18, K19, K20, K21, K22, K23, K24}
use Rattle.kn_rule.specs.declared.steps.Action.{Action}
use Rattle.kn_rule.specs.declared.steps.Action.TheVariants.{Loads, LoadsFor, Stores, Swaps, Raises}
use Rattle.kn_rule.specs.declared.positions.Position.{Position}
use Rattle.kn_rule.specs.declared.positions.Position.TheVariants.{Out, Entering, Between, Calling, Writing, Waiting, Leaving}
use Rattle.kn_rule.specs.declared.parts.Taken.{Taken}
use Rattle.kn_rule.specs.Decoding.{frame_of, phase_of}
use Rattle.kn_rule.specs.FrameSpans.{frame_span}
use Rattle.kn_rule.specs.Views.{View, Open, owns, local_of}
use Rattle.kn_rule.specs.Requests.{birth_of, words_asked, class_asked, InArea, is_usable, IsCellOf, AreFree, home_word, owned_word}
use Rattle.kn_rule.specs.Requests.{field_of, told_kind, cleared_word}
use Rattle.kn_rule.specs.Searches.{true_at}
use Rattle.kn_rule.specs.Steps.{Step, epoch_in}
use Rattle.kn_rule.specs.MarkSteps.{IsMarker, MayMoveSet, MayLoadRoot, MayReserve, MayMoveMark, MayGiveUnit, MayTakeGray, MayLoadCell, MayBlacken}

-- the calls that are built
abbrev pub IsBuilt : Call → Type 0
IsBuilt (New r layout) = Unit {0}
IsBuilt (NewArray r layout n) = Unit {0}
IsBuilt (Copy r s) = Unit {0}
IsBuilt (Clear r) = Unit {0}
IsBuilt (Same r s) = Unit {0}
IsBuilt (Get r s f) = Unit {0}
IsBuilt (Set s f r) = Unit {0}
IsBuilt (Put s f n) = Unit {0}
IsBuilt (Read s f) = Unit {0}
IsBuilt (GlobalSet i r) = Unit {0}
IsBuilt (GlobalGet r i) = Unit {0}
IsBuilt Collect = Unit {0}
IsBuilt _ = ⊥

-- the view v of caller c; `here` p says whether the page of the owned frame p lies in its slot
module _ (z : Ground) (c : ℕ) (v : View) (here : ℕ → Bool) where
  abbrev OwnsNone : Type 0
  OwnsNone = (k : ℕ) → owns v k ≡ None

  -- a poll: by a mutator that is out, waits for an epoch, or is entering or between calls; where it wants no epoch, a call may
  -- begin that is built and in range, and that is left for the thread
  pub record MayBegin (call : Call) : Type 0 where
    pub built : IsBuilt call
    pub in_range : IsInRange z call
    pub call_left : v.calls < slice_index z.sizes.calls c
    pub birth_left : IsTrue (makes_object call) → v.births < slice_index z.sizes.births c

  abbrev pub MayNext : Option Call → Type 0
  MayNext None = Unit {0}
  MayNext (Some call) = MayBegin call

  abbrev pub MayEnterFor : Option ℕ → Option Call → Type 0
  MayEnterFor None next = MayNext next
  MayEnterFor (Some n) next = next ≡ None

  abbrev pub MayPollAt : Position → Option Call → Type 0
  MayPollAt Out next = next ≡ None
  MayPollAt Entering next = MayEnterFor v.target next
  MayPollAt Between next = (v.target ≡ None) × MayNext next
  MayPollAt Waiting next = next ≡ None
  MayPollAt _ next = ⊥

  pub record MayPoll (p : Place) (a : Action) : Type 0 where
    pub next : Option Call
    pub place : p ≡ Phase
    pub act : a ≡ LoadsFor next
    pub thread : c < z.sizes.threads
    pub may : MayPollAt v.position next

  -- a store of a mutator's state: 1 by one that is out; 0 by one that is entering or leaving and owns no frame; 2 by one that is
  -- out or between calls, has answered all its calls and owns no frame
  abbrev MayEnd : Type 0
  MayEnd = (v.target ≡ None) × (v.calls ≡ slice_index z.sizes.calls c) × OwnsNone

  abbrev pub MayGo : Position → ℕ → Type 0
  MayGo Out n = (n ≡ 1) ⊎ ((n ≡ 2) × MayEnd)
  MayGo Entering n = (n ≡ 0) × OwnsNone
  MayGo Leaving n = (n ≡ 0) × OwnsNone
  MayGo Between n = (n ≡ 2) × MayEnd
  MayGo _ n = ⊥

  abbrev pub now : PhaseWord
  now = phase_of v.collecting.stored

  abbrev pub EachIs : List Bool → Type 0
  EachIs flags = (i : ℕ) → i < z.sizes.threads → slice_get flags i ≡ Some true

  -- the collector makes a step: it has not ended
  pub record Collects : Type 0 where
    pub collector : c ≡ z.sizes.threads
    pub going : v.position ≡ Out

  -- the collector ends: it has seen each mutator ended, and no epoch is wanted that is not done
  pub record MayStopCollecting (n : ℕ) : Type 0 where
    pub collects : Collects
    pub value : n ≡ 2
    pub idle : now.code ≡ codes.Idle
    pub ended : EachIs v.collecting.ended
    pub none_wanted : v.collecting.wanted ≤ now.epoch

  pub record MayStoreState (p : Place) (a : Action) : Type 0 where
    pub value : ℕ
    pub place : p ≡ State c
    pub word : a ≡ Stores value
    pub may : ((c < z.sizes.threads) × MayGo v.position value) ⊎ MayStopCollecting value

  -- a store of a local: the value that is due, or that of `copy` or `clear`
  abbrev pub MayWriteAt : Position → ℕ → ℕ → Type 0
  MayWriteAt (Writing r w n) s x = (s ≡ r) × (x ≡ w)
  MayWriteAt (Calling (Copy r s)) t n = (t ≡ r) × (n ≡ local_of v s)
  MayWriteAt (Calling (Clear r)) t n = (t ≡ r) × (n ≡ 0)
  MayWriteAt _ s n = ⊥

  pub record MayWrite (p : Place) (a : Action) : Type 0 where
    pub local : ℕ
    pub value : ℕ
    pub place : p ≡ Local c local
    pub word : a ≡ Stores value
    pub thread : c < z.sizes.threads
    pub may : MayWriteAt v.position local value

  -- a load of the header of the object in a local, and then of its field, where the header tells that the field is of the kind
  -- wanted
  abbrev pub MayLoadFor : Call → Option (ℕ × ℕ × FieldKind) → Option ℕ → ℕ → Type 0
  MayLoadFor call None h b = ⊥
  MayLoadFor call (Some t) None b = (b ≡ local_of v t.0) × (0 < b)
  MayLoadFor (Get r s i) (Some t) (Some h) b =
      (b ≡ local_of v t.0 + 1 + t.1) × (0 < local_of v t.0) × (told_kind z h t.1 ≡ Some t.2)
  MayLoadFor (Read s i) (Some t) (Some h) b =
      (b ≡ local_of v t.0 + 1 + t.1) × (0 < local_of v t.0) × (told_kind z h t.1 ≡ Some t.2)
  MayLoadFor _ (Some t) (Some h) b = ⊥

  abbrev pub MayLoadAt : Position → Option ℕ → ℕ → Type 0
  MayLoadAt (Calling call) h b = MayLoadFor call (field_of call) h b
  MayLoadAt _ h b = ⊥

  pub record MayLoadBody (p : Place) (a : Action) : Type 0 where
    pub address : ℕ
    pub place : p ≡ Body address
    pub act : a ≡ Loads
    pub thread : c < z.sizes.threads
    pub may : MayLoadAt v.position v.header address

  -- a store of a field, behind its header: what a local holds, or a number
  abbrev MaySetField : ℕ → ℕ → FieldKind → Option ℕ → ℕ → Type 0
  MaySetField s i k None b = ⊥
  MaySetField s i k (Some h) b = (b ≡ local_of v s + 1 + i) × (0 < local_of v s) × (told_kind z h i ≡ Some k)

  abbrev pub MaySetAt : Position → Option ℕ → ℕ → ℕ → Type 0
  MaySetAt (Calling (Set s i r)) h b w = MaySetField s i of_ref h b × (w ≡ local_of v r)
  MaySetAt (Calling (Put s i n)) h b w = MaySetField s i of_int h b × (w ≡ n)
  MaySetAt _ h b w = ⊥

  pub record MaySet (p : Place) (a : Action) : Type 0 where
    pub address : ℕ
    pub value : ℕ
    pub place : p ≡ Body address
    pub word : a ≡ Stores value
    pub thread : c < z.sizes.threads
    pub may : MaySetAt v.position v.header address value

  -- a load of a global, and a store of one
  abbrev pub MayReadGlobalAt : Position → ℕ → Type 0
  MayReadGlobalAt (Calling (GlobalGet r i)) j = j ≡ i
  MayReadGlobalAt _ j = ⊥

  pub record MayReadGlobal (p : Place) (a : Action) : Type 0 where
    pub global : ℕ
    pub place : p ≡ Global global
    pub act : a ≡ Loads
    pub thread : c < z.sizes.threads
    pub may : MayReadGlobalAt v.position global

  abbrev pub MaySetGlobalAt : Position → ℕ → ℕ → Type 0
  MaySetGlobalAt (Calling (GlobalSet i r)) j w = (j ≡ i) × (w ≡ local_of v r)
  MaySetGlobalAt _ j w = ⊥

  pub record MaySetGlobal (p : Place) (a : Action) : Type 0 where
    pub global : ℕ
    pub value : ℕ
    pub place : p ≡ Global global
    pub word : a ≡ Stores value
    pub thread : c < z.sizes.threads
    pub may : MaySetGlobalAt v.position global value

  -- the birth of a cell that is wholly cleared: black of the view's epoch
  pub record MayBirth (p : Place) (a : Action) : Type 0 where
    pub cell : Taken
    pub call : Call
    pub birth : ℕ × ℕ × ℕ
    pub is_cell : v.taken ≡ Some cell
    pub is_call : v.position ≡ Calling call
    pub is_birth : birth_of z call ≡ Some birth
    pub place : p ≡ Side cell.span.start
    pub word : a ≡ Stores (4 * epoch_in v + 3)
    pub whole : cell.cleared ≡ cell.span.len
    pub thread : c < z.sizes.threads

  -- a mutator searches frame k of the area for a call that asks for cells of a class: it has no cell, sweeps no frame and owns
  -- no frame of the class
  pub record Searches (call : Call) (class k : ℕ) : Type 0 where
    pub is_call : v.position ≡ Calling call
    pub words : ℕ
    pub is_request : words_asked z call ≡ Some words
    pub is_class : class ≡ class_asked z call
    pub none_taken : v.taken ≡ None
    pub none_swept : v.sweep ≡ None
    pub none_owned : (j : ℕ) (o : Open) → owns v j ≡ Some o → (frame_of o.word).class ≢ class
    pub in_area : InArea z.sizes k class
    pub near : k < frame_count z.sizes
    pub thread : c < z.sizes.threads

  -- a look at a frame in a search
  pub record MayLook (p : Place) (a : Action) : Type 0 where
    pub call : Call
    pub class : ℕ
    pub frame : ℕ
    pub place : p ≡ Frame frame
    pub act : a ≡ Loads
    pub search : Searches call class frame

  -- a claim: of a frame that was seen last with a usable word, and was not refused in this search
  pub record MayClaim (p : Place) (a : Action) : Type 0 where
    pub call : Call
    pub class : ℕ
    pub frame : ℕ
    pub old : ℕ
    pub search : Searches call class frame
    pub place : p ≡ Frame frame
    pub word : a ≡ Swaps old (packed_frame (owned_word (frame_of old) class (epoch_in v) c))
    pub seen : slice_get v.seen frame ≡ Some (Some old)
    pub fit : IsTrue (is_usable class old)
    pub not_refused : true_at (slice_get v.refused frame) ≡ false

  -- a frame that is owned is given back, with its page in its slot, where the caller has no cell and sweeps no frame
  pub record MayGiveBack (p : Place) (a : Action) : Type 0 where
    pub frame : ℕ
    pub hold : Open
    pub owned : owns v frame ≡ Some hold
    pub lies : here frame ≡ true
    pub near : frame < frame_count z.sizes
    pub none_taken : v.taken ≡ None
    pub none_swept : v.sweep ≡ None
    pub place : p ≡ Frame frame
    pub word : a ≡ Stores (packed_frame (home_word (frame_span z.sizes frame) (frame_of hold.word) hold.free))
    pub thread : c < z.sizes.threads

  -- the first word of a cell is cleared: the cell has free words of an owned frame of the class asked, and lies as its cells
  -- do; the page is out of its slot
  pub record MayTake (call : Call) (b w : ℕ) : Type 0 where
    pub frame : ℕ
    pub hold : Open
    pub words : ℕ
    pub owned : owns v frame ≡ Some hold
    pub near : frame < frame_count z.sizes
    pub out : here frame ≡ false
    pub none_swept : v.sweep ≡ None
    pub is_request : words_asked z call ≡ Some words
    pub class : (frame_of hold.word).class ≡ class_asked z call
    pub free : AreFree hold.free (record { start = b; len = words })
    pub inside : LiesIn (record { start = b; len = words }) (frame_span z.sizes frame)
    pub placed : IsCellOf (class_asked z call) (frame_span z.sizes frame) (record { start = b; len = words })
    pub value : w ≡ cleared_word z (local_of v) call 0

  abbrev pub MayClearFor : Call → Option Taken → ℕ → ℕ → Type 0
  MayClearFor call None b w = MayTake call b w
  MayClearFor call (Some t) b w = (b ≡ t.span.start + t.cleared) × (t.cleared < t.span.len) × (w ≡ cleared_word z (local_of v) call t.cleared)

  -- a word of a cell is cleared: the first one, or the next
  pub record MayClear (p : Place) (a : Action) : Type 0 where
    pub call : Call
    pub address : ℕ
    pub value : ℕ
    pub is_call : v.position ≡ Calling call
    pub place : p ≡ Body address
    pub word : a ≡ Stores value
    pub may : MayClearFor call v.taken address value
    pub thread : c < z.sizes.threads

  -- the epoch wanted is raised by a mutator whose `gc` has begun, to the one behind its own; in Idle the collector loads it
  pub record MayRaise (p : Place) (a : Action) : Type 0 where
    pub place : p ≡ Want
    pub act : a ≡ Raises (epoch_in v + 1)
    pub is_call : v.position ≡ Calling Collect
    pub thread : c < z.sizes.threads

  pub record MayLoadWant (p : Place) (a : Action) : Type 0 where
    pub place : p ≡ Want
    pub act : a ≡ Loads
    pub collects : Collects
    pub idle : now.code ≡ codes.Idle

  abbrev pub MayWant : Place → Action → Type 0
  MayWant p a = MayRaise p a ⊎ MayLoadWant p a

  -- the phase that the collector stores next: the stop before an epoch that is wanted; Mark, where each mutator was counted in this
  -- stop and the marking was begun; Weak, where the marking was seen over
  pub record MayStop (w : ℕ) : Type 0 where
    pub idle : now.code ≡ codes.Idle
    pub wanted : now.epoch < v.collecting.wanted
    pub value : w ≡ packed_phase (record { epoch = now.epoch + 1; code = codes.StopA })

  pub record MayMark (w : ℕ) : Type 0 where
    pub stopped : now.code ≡ codes.StopA
    pub counted : EachIs v.collecting.counted
    pub begun : v.collecting.over ≡ false
    pub value : w ≡ packed_phase (record { epoch = now.epoch; code = codes.Mark })

  pub record MayPause (w : ℕ) : Type 0 where
    pub in_mark : now.code ≡ codes.Mark
    pub over : v.collecting.over ≡ true
    pub value : w ≡ packed_phase (record { epoch = now.epoch; code = codes.Weak })

  pub record MayStorePhase (p : Place) (a : Action) : Type 0 where
    pub value : ℕ
    pub place : p ≡ Phase
    pub act : a ≡ Stores value
    pub collects : Collects
    pub may : MayStop value ⊎ (MayMark value ⊎ MayPause value)

  -- the collector loads a mutator's state
  pub record MayLoadState (p : Place) (a : Action) : Type 0 where
    pub mutator : ℕ
    pub near : mutator < z.sizes.threads
    pub place : p ≡ State mutator
    pub act : a ≡ Loads
    pub collects : Collects

  -- the marking begins, once in a stop, where each mutator was counted in it: a unit of work is open for each root set; and a marker
  -- loads the count of open work
  pub record MayBeginMarking (p : Place) (a : Action) : Type 0 where
    pub place : p ≡ Pending
    pub act : a ≡ Stores (z.sizes.threads + 2)
    pub collects : Collects
    pub stopped : now.code ≡ codes.StopA
    pub counted : EachIs v.collecting.counted
    pub once : v.collecting.over ≡ true

  pub record MayLoadPending (p : Place) (a : Action) : Type 0 where
    pub place : p ≡ Pending
    pub act : a ≡ Loads
    pub marker : IsMarker z c v

  abbrev pub MayCount : Place → Action → Type 0
  MayCount p a = MayBeginMarking p a ⊎ MayLoadPending p a

  -- a step of the kind, at the place and with the action; kinds that are not built are allowed in no view
  abbrev pub MayBe : Kind → Place → Action → Type 0
  MayBe K1 = MayPoll
  MayBe K2 = MayStoreState
  MayBe K3 = MayWrite
  MayBe K4 = MayLoadBody
  MayBe K5 = MaySet
  MayBe K6 = MayReadGlobal
  MayBe K7 = MaySetGlobal
  MayBe K8 = MayBirth
  MayBe K9 = MayLook
  MayBe K10 = MayClaim
  MayBe K11 = MayGiveBack
  MayBe K12 = MayClear
  MayBe K13 = MayWant
  MayBe K14 = MayStorePhase
  MayBe K15 = MayLoadState
  MayBe K16 = MayCount
  MayBe K17 = MayMoveSet z c v
  MayBe K18 = MayLoadRoot z c v
  MayBe K19 = MayReserve z c v
  MayBe K20 = MayMoveMark z c v
  MayBe K21 = MayGiveUnit z c v
  MayBe K22 = MayTakeGray z c v
  MayBe K23 = MayLoadCell z c v
  MayBe K24 = MayBlacken z c v
  MayBe _ = λ p a. ⊥

  abbrev pub MayMake : Step → Type 0
  MayMake d = MayBe d.kind d.place d.act
