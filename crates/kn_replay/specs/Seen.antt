-- What is seen of a call before it is answered, and the answer that it gets.
use Rattle.std.specs.Prelude.{◌≡◌, ◌≢◌, ℕ, nat_lt, Bool, true, false, not, ◌&&◌, ◌||◌, cond, List, slice_index_or}
use Rattle.kn_graph.specs.declared.calls.Call.{Call}
use Rattle.kn_graph.specs.declared.calls.Call.TheVariants.{New, NewArray, Tie, Collect}
use Rattle.kn_graph.specs.declared.calls.Reply.{Reply}
use Rattle.kn_graph.specs.declared.calls.Reply.TheVariants as replies
use Rattle.kn_graph.specs.declared.entries.Event.TheVariants as events
use Rattle.kn_graph.specs.declared.entries.Entry.{Entry}
use Rattle.kn_graph.specs.Ground.{Ground}
use Rattle.kn_graph.specs.Graph.{Graph, cell_at, length_for, with_entered, IsLegalBirth}
use Rattle.kn_graph.specs.Histories.{Follows}

-- no cell was found
abbrev pub is_full : Reply → Bool
is_full replies.Full = true
is_full _ = false

-- where a birth that found room may take its words
abbrev pub MayBeBorn : Ground → Graph → ℕ → ℕ → ℕ → Reply → Type 0
MayBeBorn z g layout n address seen = is_full seen ≡ false → IsLegalBirth z g (cell_at address (length_for z layout n))

-- what is seen of a call decides no more than it may: a birth that is not `full` has a legal address, and `gc` an epoch
abbrev pub IsSeen : Ground → Graph → Call → ℕ → Reply → Type 0
IsSeen z g (New r layout) address seen = MayBeBorn z g layout 0 address seen
IsSeen z g (NewArray r layout n) address seen = MayBeBorn z g layout n address seen
IsSeen z g Collect address seen = (epoch : ℕ) × (seen ≡ replies.Epoch epoch)
IsSeen z g _ address seen = Unit {0}

-- the address in the entry of an answered call: that of a birth, and 0 otherwise
abbrev pub told_address : Call → Reply → ℕ → ℕ
told_address (New r layout) reply address = cond (is_full reply) 0 address
told_address (NewArray r layout n) reply address = cond (is_full reply) 0 address
told_address _ reply address = 0

-- a birth is `full`, and a tie to an object too, exactly where that was seen
abbrev pub IsAsSeen : Call → Reply → Reply → Type 0
IsAsSeen (New r layout) seen reply = is_full reply ≡ is_full seen
IsAsSeen (NewArray r layout n) seen reply = is_full reply ≡ is_full seen
IsAsSeen (Tie r c n) seen reply = reply ≢ replies.Nil → is_full reply ≡ is_full seen
IsAsSeen _ seen reply = Unit {0}

-- the entry of a call that a thread made after so many pauses
abbrev pub call_entry : ℕ → ℕ → Call → Reply → ℕ → Entry
call_entry by epoch call reply address = record { by = record { 0 = by }; epoch = epoch; what = events.Call call reply address }

-- the reply is as was seen, and the entry of the call is legal and leads to the graph after
pub record IsAnswered (z : Ground) (by : ℕ) (call : Call) (address : ℕ) (seen : Reply) (g : Graph) (reply : Reply) (g' : Graph) : Type 0 where
  pub as_seen : IsAsSeen call seen reply
  pub follows : Follows z (call_entry by g.paused call reply (told_address call reply address)) g g'

-- `gc` answers the epoch that was seen, and leaves the graph; it is for the caller to know whether that epoch is legal
pub record IsCollected (by : ℕ) (seen : Reply) (g : Graph) (reply : Reply) (g' : Graph) : Type 0 where
  pub reply_is : reply ≡ seen
  pub after : g' ≡ with_entered g by g.paused

-- how a call is answered
abbrev pub Answers : Ground → ℕ → Call → ℕ → Reply → Graph → Reply → Graph → Type 0
Answers z by Collect address seen g reply g' = IsCollected by seen g reply g'
Answers z by call address seen g reply g' = IsAnswered z by call address seen g reply g'

-- whether an object is condemned once those without a mark are
abbrev pub condemned_by : List Bool → Graph → ℕ → Bool
condemned_by marks g n = (g.object n).condemned || (nat_lt n g.born && not (slice_index_or marks n false))
