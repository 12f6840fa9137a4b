-- The laws, each proved as it is stated.
use Rattle.std.proofs.Common.{◌∷◌, ◌++◌, arith}
use Rattle.kn_graph.specs.Counts.{is_birth, is_done, is_finalization, is_finalized, is_pause, is_queueing, is_release, passing}
use Rattle.kn_graph.specs.Graph.{empty_graph, shapes, pointers}
use Rattle.kn_graph.specs.Laws.{AddressesArePositive, AddressesName, AddressesNameOne, BirthIsWritten, BirthsExtend}
use Rattle.kn_graph.specs.Laws.{BornWereCalled, CallsChangeOneThing, CallsExtend, CondemnedWasUnreachable, EnteredIsBelow, EnteredIsLast}
use Rattle.kn_graph.specs.Laws.{EntriesExtend}
use Rattle.kn_graph.specs.Laws.{EntriesKeepSound, EntriesLeadToOne, EpochsArePast, EpochsCollect, FieldsAreThere, FinalizedOnce}
use Rattle.kn_graph.specs.Laws.{GoneIsCondemned, HeldIsAlive, HistoriesKeepSound, HistoriesLeadToOne, HistoriesSplit, IsNumberOf}
use Rattle.kn_graph.specs.Laws.{LegalCellsAreApart, LegalIsSound, LengthsAreFields, LogsExtend, ObjectIsWritten, OnlyPausesCondemn}
use Rattle.kn_graph.specs.Laws.{PassingAreBorn, ReachableIsAlive}
use Rattle.kn_graph.specs.Laws.{RepliesExtend, ShapesAreSmall, WeakReadsAnswer}
use Rattle.kn_graph.proofs.Addresses.{named, one_lives}
use Rattle.kn_graph.proofs.Answered.{answer_changes}
use Rattle.kn_graph.proofs.Condemned.{condemned_exactly, condemns_none}
use Rattle.kn_graph.proofs.Counted.{pauses_counted, dones_counted, births_counted, births_called}
use Rattle.kn_graph.proofs.Marked.{releases_counted, queueings_counted, finalizations_counted, passing_few}
use Rattle.kn_graph.proofs.Entered.{entered_last, entered_below, epochs_all_past}
use Rattle.kn_graph.proofs.LegalGraphs.{empty_sound, legal_sound, next_sound, leads_sound}
use Rattle.kn_graph.proofs.Lengths.{length_is, kind_exactly, limits, address_positive}
use Rattle.kn_graph.proofs.Once.{finalized_once}
use Rattle.kn_graph.proofs.OneEnd.{one_next, one_end}
use Rattle.kn_graph.proofs.Parts.{object_written, birth_written, parts_kept}
use Rattle.kn_graph.proofs.Reached.{reachable_alive}
use Rattle.kn_graph.proofs.Settled.{gone_exactly, done_then}
use Rattle.kn_graph.proofs.Splits.{appended, cut, joined, log_of-append, calls_of-append, replies_of-append, births_of-append}
use Rattle.kn_graph.proofs.Successors.{next_succeeds, leads_succeeds}
use Rattle.kn_graph.proofs.WeakReads.{weak_read}
use Rattle.kn_graph.proofs.Writes.{alive_at}

-- histories
pub entries_extend : EntriesExtend
entries_extend z g h entry mid last l f = appended z h entry g mid last l f

pub histories_split : HistoriesSplit
histories_split z g h k last = (λ l. cut z h k g last l, λ m. joined z h k g m.0 last m.1 m.2)

pub entries_lead_to_one : EntriesLeadToOne
entries_lead_to_one z g entry x y s p q = one_next z entry g x y s p q

pub histories_lead_to_one : HistoriesLeadToOne
histories_lead_to_one z h x y p q = one_end z h empty_graph x y (empty_sound z) p q

-- sound graphs
pub legal_is_sound : LegalIsSound
legal_is_sound z h g l = legal_sound z h g l

pub entries_keep_sound : EntriesKeepSound
entries_keep_sound z g entry g' s f = (next_sound z entry g g' s f, next_succeeds z entry g g' s f)

pub histories_keep_sound : HistoriesKeepSound
histories_keep_sound z g h g' s l = (leads_sound z h g g' s l, leads_succeeds z h g g' s l)

pub calls_change_one_thing : CallsChangeOneThing
calls_change_one_thing z by epoch call reply address g g' s f = answer_changes z by g s reply address g' call f.in_range f.answer

pub object_is_written : ObjectIsWritten
object_is_written g n o = (object_written g n o, parts_kept g n o)

pub birth_is_written : BirthIsWritten
birth_is_written g thread r new = birth_written g thread r new

-- addresses and lengths
pub addresses_name : AddressesName
addresses_name z g a n s = (λ p. (p.lives, p.address), λ p. named z g s a n p.0 p.1)

pub addresses_name_one : AddressesNameOne
addresses_name_one z g n m s a b e = one_lives z g s n m a b e

pub legal_cells_are_apart : LegalCellsAreApart
legal_cells_are_apart z h g n m l a b ne = (legal_sound z h g l).apart n m a b ne

pub addresses_are_positive : AddressesArePositive
addresses_are_positive z o c = address_positive z o c

pub lengths_are_fields : LengthsAreFields
lengths_are_fields z o c = length_is z o c

pub fields_are_there : FieldsAreThere
fields_are_there z o f c = kind_exactly z o c f

pub shapes_are_small : ShapesAreSmall
shapes_are_small z o good c = limits z o c good

-- what is reachable
pub reachable_is_alive : ReachableIsAlive
reachable_is_alive z h g n l r = reachable_alive z g (legal_sound z h g l) n r

pub held_is_alive : HeldIsAlive
held_is_alive z h g n m l a p = alive_at g.born (shapes g) (pointers g n p.0) m p.1 (((legal_sound z h g l).fields n a.0).values a.1 p.0)

-- epochs
pub condemned_was_unreachable : CondemnedWasUnreachable
condemned_was_unreachable z h g n l near = condemned_exactly z h g n l near

pub only_pauses_condemn : OnlyPausesCondemn
only_pauses_condemn z g entry g' s f quiet = condemns_none z entry g g' s f quiet

pub weak_reads_answer : WeakReadsAnswer
weak_reads_answer z h g by epoch r w n reply address g' l f e = weak_read z h g by epoch r w n reply address g' l f e

pub gone_is_condemned : GoneIsCondemned
gone_is_condemned z g n s d near = gone_exactly z g s n near d

pub epochs_collect : EpochsCollect
epochs_collect z before after done epoch g n l is quiet near =
    let m = cut z before (done ∷ after) empty_graph g l in
    let d = done_then z epoch done after m.0 g (legal_sound z before m.0 m.1) is quiet m.2 in
    let gone = gone_exactly z g (legal_sound z (before ++ done ∷ after) g l) n near d in
    let dead = condemned_exactly z (before ++ done ∷ after) g n l near in
    (λ x. dead.0 (gone.0 x), λ w. gone.1 (dead.1 w))

pub object_finalized_once : FinalizedOnce
object_finalized_once z h last n b c x y g g' l p q f f' = finalized_once z h last l n b c x y g g' p q f f'

-- counts
pub pauses_are_counted : IsNumberOf is_pause (λ g. g.paused)
pauses_are_counted z h g l = omega (arith, pauses_counted z h empty_graph g (empty_sound z) l)

pub dones_are_counted : IsNumberOf is_done (λ g. g.done)
dones_are_counted z h g l = omega (arith, dones_counted z h empty_graph g (empty_sound z) l)

pub births_are_counted : IsNumberOf is_birth (λ g. g.born)
births_are_counted z h g l = omega (arith, births_counted z h empty_graph g (empty_sound z) l)

pub born_were_called : BornWereCalled
born_were_called z h g l = omega (arith, births_are_counted z h g l, births_called h)

pub releases_are_counted : IsNumberOf is_release (passing (λ o. o.released))
releases_are_counted z h g l = omega (arith, releases_counted z h empty_graph g (empty_sound z) l)

pub queueings_are_counted : IsNumberOf is_queueing (passing (λ o. o.queued))
queueings_are_counted z h g l = omega (arith, queueings_counted z h empty_graph g (empty_sound z) l)

pub finalizations_are_counted : IsNumberOf is_finalization (passing is_finalized)
finalizations_are_counted z h g l = omega (arith, finalizations_counted z h empty_graph g (empty_sound z) l)

pub passing_are_born : PassingAreBorn
passing_are_born test g = passing_few test g

-- logs
pub logs_extend : LogsExtend
logs_extend by h entry = log_of-append by h entry

pub calls_extend : CallsExtend
calls_extend log entry = calls_of-append log entry

pub replies_extend : RepliesExtend
replies_extend log entry = replies_of-append log entry

pub births_extend : BirthsExtend
births_extend log entry = births_of-append log entry

pub entered_is_last : EnteredIsLast
entered_is_last z h g by l = entered_last z h empty_graph g (empty_sound z) l by

pub entered_is_below : EnteredIsBelow
entered_is_below z h g by e l pos all = entered_below z h empty_graph g (empty_sound z) l by e pos all

pub epochs_are_past : EpochsArePast
epochs_are_past z h g l = epochs_all_past z h empty_graph g (empty_sound z) l
