-- What is stored of one caller's view.
use Rattle.std.specs.Prelude.{ℕ, ◌+◌, ◌<◌, ◌^◌, Bool, false, true, List, replicate, Option, Some, None}
use Rattle.kn_base.specs.declared.numbers.Span.{Span}
use Rattle.kn_base.specs.declared.heap.Sizes.{Sizes}
use Rattle.kn_layout.specs.declared.layouts.Layout.{Layout}
use Rattle.kn_base.specs.Sizes.{frame_count}
use Rattle.kn_graph.specs.declared.entries.Entry.{Entry}
use Rattle.kn_graph.specs.Ground.{Ground}
use Rattle.kn_graph.specs.declared.calls.Call.{Call}
use Rattle.kn_graph.specs.declared.calls.Call.TheVariants.{New, NewArray, Get, GlobalGet}
use Rattle.kn_graph.specs.Arguments.{IsInRange}
use Rattle.kn_marking.specs.declared.work.Work.{Work}
use Rattle.kn_marking.specs.declared.work.Doing.TheVariants.{Free}
use Rattle.kn_marking.specs.declared.work.Child.TheVariants.{NoChild}
use Rattle.kn_rule.specs.declared.positions.Position.{Position}
use Rattle.kn_rule.specs.declared.positions.Position.TheVariants.{Out, Entering, Between, Calling}
use Rattle.kn_rule.specs.declared.parts.Taken.{Taken}
use Rattle.kn_rule.specs.Requests.{InArea, class_asked, words_asked}
use Rattle.kn_rule.specs.Views.{View, Open, Sweep}
use Rattle.kn_rule.specs.Rule.{fresh}

-- the sizes and the layouts of a heap, as one
abbrev pub ground_of : Sizes → List Layout → Ground
ground_of sizes layouts = record { sizes = sizes; layouts = layouts }

-- what a view has beside the frames that its caller owns, its log, and what no built step changes; of what the collector keeps,
-- the phase word stored, the epoch wanted, the mutators counted and those ended, and whether the marking is over
pub record Part : Type 0 where
  pub position : Position
  pub polled : ℕ
  pub target : Option ℕ
  pub locals : List ℕ
  pub header : Option ℕ
  pub seen : List (Option ℕ)
  pub refused : List Bool
  pub taken : Option Taken
  pub sweep : Option Sweep
  pub work : Work
  pub stored : ℕ
  pub wanted : ℕ
  pub counted : List Bool
  pub ended : List Bool
  pub over : Bool
  pub calls : ℕ
  pub births : ℕ

-- the view of a part, with what its caller owns and its log
abbrev pub view_with : Ground → Part → List (Option Open) → List Entry → View
view_with z part owned log = record (fresh z) {
  position = part.position;
  polled = part.polled;
  target = part.target;
  locals = part.locals;
  header = part.header;
  seen = part.seen;
  refused = part.refused;
  owned = owned;
  taken = part.taken;
  sweep = part.sweep;
  work = part.work;
  collecting = record (fresh z).collecting {
    stored = part.stored;
    wanted = part.wanted;
    counted = part.counted;
    ended = part.ended;
    over = part.over;
  };
  log = log;
  calls = part.calls;
  births = part.births;
}

-- the part of a caller that has made no step
abbrev pub new_part : Ground → Part
new_part z = record {
  position = Out;
  polled = 0;
  target = None;
  locals = replicate 16 0;
  header = None;
  seen = replicate (frame_count z.sizes) None;
  refused = replicate (frame_count z.sizes) false;
  taken = None;
  sweep = None;
  work = record { epoch = 0; due = None; doing = Free; child = NoChild; owed = 0 };
  stored = 0;
  wanted = 0;
  counted = replicate z.sizes.threads false;
  ended = replicate z.sizes.threads false;
  over = true;
  calls = 0;
  births = 0;
}

-- a call may begin: it is in range, and is counted below 2 ^ 32
abbrev pub MayBegin : Ground → Part → Option Call → Type 0
MayBegin z part None = Unit {0}
MayBegin z part (Some call) = IsInRange z call × (part.calls + 3 < 2 ^ 32) × (part.births + 1 < 2 ^ 32)

-- a call may begin in a run phase: its caller is between calls, or is entering and waits for no epoch
abbrev pub is_ready : Position → Option ℕ → Bool
is_ready Entering None = true
is_ready Between target = true
is_ready _ target = false

-- a call that reads a reference into a local reads an address
abbrev pub IsReadAs : Call → ℕ → Type 0
IsReadAs (Get r s f) word = (r < 16) × (word < 2 ^ 32)
IsReadAs (GlobalGet r i) word = (r < 16) × (word < 2 ^ 32)
IsReadAs _ word = Unit {0}

abbrev IsReadableAt : Position → Option ℕ → ℕ → Type 0
IsReadableAt (Calling (GlobalGet r i)) header word = (r < 16) × (word < 2 ^ 32)
IsReadableAt (Calling call) (Some h) word = IsReadAs call word
IsReadableAt _ header word = Unit {0}

-- the word that a load finds for the call under way may be kept
abbrev pub IsReadable : Part → ℕ → Type 0
IsReadable part word = IsReadableAt part.position part.header word

-- the local of a birth under way is one
abbrev pub IsBirthLocal : Position → Type 0
IsBirthLocal (Calling (New r layout)) = r < 16
IsBirthLocal (Calling (NewArray r layout n)) = r < 16
IsBirthLocal _ = Unit {0}

-- frame p lies in the area of the cells that the call under way asks for
abbrev pub IsSearched : Ground → ℕ → Position → Type 0
IsSearched z p (Calling call) = InArea z.sizes p (class_asked z call)
IsSearched z p _ = Unit {0}

-- the cell of n words at an address for a call, and its class
abbrev pub cell_asked : Ground → ℕ → Call → Option ℕ → Option (Span × ℕ)
cell_asked z address call None = None
cell_asked z address call (Some n) = Some (record { start = address; len = n }, class_asked z call)

-- the cell at an address that the call under way asks for, and its class
abbrev pub cell_at : Ground → ℕ → Position → Option (Span × ℕ)
cell_at z address (Calling call) = cell_asked z address call (words_asked z call)
cell_at z address _ = None
