-- How what a collector keeps agrees with what its caller knows.
use Rattle.std.specs.Prelude.{◌≡◌, ℕ, ◌+◌, ◌<◌, ◌≤◌, Bool, true, false, List, length, Some, slice_get}
use Rattle.kn_base.specs.declared.limits.TheConstants.{MOST_CALLS}
use Rattle.kn_graph.specs.Ground.{IsGoodGround}
use Rattle.kn_rule.specs.declared.positions.Position.{Position}
use Rattle.kn_rule.specs.declared.positions.Position.TheVariants as positions
use Rattle.kn_rule.specs.Views.{Collecting}
use Rattle.kn_steps.specs.Made.{Stand}
use Rattle.kn_mark.specs.Kept.{free_share}
use Rattle.kn_mark.specs.Agree.{Agrees as MarkerAgrees, IsShareOf}
use Rattle.kn_collector.specs.declared.stage.Stage.{Stage}
use Rattle.kn_collector.specs.declared.stage.Stage.TheVariants.{Looks, Wants, Ends, Ended, Stops, Counts, Begins, Marks, Marking, Pauses, Paused}
use Rattle.kn_collector.specs.Kept.{Kept}
use Rattle.kn_collector.specs.Stages.{code_at, phase_word}

-- the flags of all mutators below number n are set
abbrev pub EachBelow : ℕ → List Bool → Type 0
EachBelow n flags = (i : ℕ) → i < n → slice_get flags i ≡ Some true

abbrev pub position_at : Stage → Position
position_at Ended = positions.Ended
position_at _ = positions.Out

-- what each stage needs of the collector's part of the view: which mutators were seen ended, or counted in this stop; whether an
-- epoch is wanted; whether the marking was begun, and was seen over, with nothing of it under way
abbrev pub AtStage : Stage → Kept → Collecting → Type 0
AtStage (Looks i) k c = (i < k.by) × EachBelow i c.ended × (c.over ≡ true)
AtStage (Wants all) k c = (all ≡ true → EachBelow k.by c.ended) × (c.over ≡ true)
AtStage Ends k c = EachBelow k.by c.ended × (c.wanted ≤ k.epoch)
AtStage Ended k c = Unit {0}
AtStage Stops k c = (k.epoch < c.wanted) × (c.wanted ≤ MOST_CALLS) × (c.over ≡ true)
AtStage (Counts i) k c = (i < k.by) × EachBelow i c.counted × (c.over ≡ true)
AtStage Begins k c = EachBelow k.by c.counted × (c.over ≡ true)
AtStage Marks k c = EachBelow k.by c.counted × (c.over ≡ false)
AtStage Marking k c = Unit {0}
AtStage Pauses k c = (c.over ≡ true) × (k.marker.work ≡ free_share k.epoch)
AtStage Paused k c = Unit {0}

-- in Mark its marker marks for the epoch, and agrees with what its caller knows
abbrev pub MarksAt : Stage → Kept → Stand → Type 0
MarksAt Marking k a = MarkerAgrees k.marker a × (k.marker.work.epoch ≡ k.epoch)
MarksAt _ k a = Unit {0}

-- how many pauses are due of the epoch: one from its stop on, up to the store of Weak
abbrev pub pauses_due : Stage → ℕ
pauses_due (Counts i) = 1
pauses_due Begins = 1
pauses_due Marks = 1
pauses_due Marking = 1
pauses_due Pauses = 1
pauses_due _ = 0

-- whose collector it is, over a heap of which layouts; what it keeps of the phase that it stored last, of its share in marking and of
-- its log is what its view has; the pauses that are logged, and the one that is due, are no more than the epochs, and these no more
-- than there may be calls; and the view has a flag for each mutator
pub record Agrees (k : Kept) (a : Stand) : Type 0 where
  pub good : IsGoodGround a.heap
  pub layouts : a.heap.layouts ≡ k.layouts
  pub caller : a.by ≡ k.by
  pub collector : k.by ≡ a.heap.sizes.threads
  pub position : a.view.position ≡ position_at k.stage
  pub stored : a.view.collecting.stored ≡ phase_word k.epoch (code_at k.stage)
  pub ended : length a.view.collecting.ended ≡ k.by
  pub counted : length a.view.collecting.counted ≡ k.by
  pub log : a.view.log ≡ k.log
  pub few : length k.log + pauses_due k.stage ≤ k.epoch
  pub epochs : k.epoch ≤ MOST_CALLS
  pub share : IsShareOf k.marker a
  pub at : AtStage k.stage k a.view.collecting
  pub marks : MarksAt k.stage k a

-- it has ended
abbrev pub HasEnded : Stage → Type 0
HasEnded Ended = Unit {0}
HasEnded _ = ⊥
