-- The printed text of a run on a core.
use Rattle.std.specs.Prelude.{◌≡◌, ℕ, zero, suc, ◌<◌, ◌↔◌, Bool, true, false, Some, List, [], ◌++◌, codes, decimal}
use Rattle.std.specs.Prelude.{count_by, length, slice_index_or}
use Rattle.std.specs.Option.{option_map}
use Rattle.kn_graph.specs.declared.entries.Entry.{Entry}
use Rattle.kn_graph.specs.Epochs.{WasUnreachable}
use Rattle.kn_graph.specs.Graph.{Graph, empty_graph}
use Rattle.kn_graph.specs.Ground.{Ground}
use Rattle.kn_graph.specs.Logs.{LogsFit}
use Rattle.kn_report.specs.Reports.{count_line, line, threads_text}
use Rattle.kn_cms_rule.specs.declared.stages.Stage.TheVariants.{Finished}
use Rattle.kn_cms_rule.specs.Words.{one_framed}
use Rattle.kn_cms_rule.specs.State.{State}

-- what became of an object
abbrev pub fate_text : Bool → List ℕ
fate_text true = codes " condemned"
fate_text false = codes " kept"

-- the number of an object and what became of it, and so the first objects in order of birth
abbrev pub object_text : ℕ → Bool → List ℕ
object_text k condemned = line (codes "object " ++ decimal k ++ fate_text condemned)

abbrev pub objects_text : ℕ → List Bool → List ℕ
objects_text zero flags = []
objects_text (suc n) flags = objects_text n flags ++ object_text n (slice_index_or flags n false)

-- how many objects are condemned
abbrev pub count_condemned : List Bool → ℕ
count_condemned = count_by (λ flag. flag)

-- the report of the logs of all threads, of which objects are condemned, and of the number of objects at the snapshot
abbrev pub core_text : List (List Entry) → List Bool → ℕ → List ℕ
core_text logs flags snapshot =
    threads_text (length logs) logs
    ++ objects_text (length flags) flags
    ++ count_line (codes "snapshot") snapshot
    ++ count_line (codes "condemned") (count_condemned flags)
    ++ line (codes "end")

-- a list tells of each object whether it is condemned: marking has ended, and the pause of the history found it unreachable
pub record AreFates (z : Ground) (s : State) (flags : List Bool) : Type 0 where
  pub count : length flags ≡ s.graph.born
  pub each : (k : ℕ) → k < s.graph.born →
      (slice_index_or flags k false ≡ true) ↔ ((s.stage ≡ Finished) × WasUnreachable (one_framed z) empty_graph s.history k)

-- the text of a state that has a snapshot: of logs that fit its history, of the fates of its objects, and of the number of
-- objects at the snapshot
pub record IsCoreText (z : Ground) (s : State) (text : List ℕ) : Type 0 where
  pub logs : List (List Entry)
  pub fit : LogsFit z.sizes.threads logs s.history
  pub flags : List Bool
  pub fates : AreFates z s flags
  pub snapshot : ℕ
  pub at_snapshot : option_map (λ (g : Graph). g.born) s.snapshot ≡ Some snapshot
  pub text_is : text ≡ core_text logs flags snapshot
