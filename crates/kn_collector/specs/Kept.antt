-- What a collector keeps.
use Rattle.std.specs.Prelude.{ℕ, List, []}
use Rattle.kn_layout.specs.declared.layouts.Layout.{Layout}
use Rattle.kn_graph.specs.declared.entries.Entry.{Entry}
use Rattle.kn_graph.specs.Ground.{Ground}
use Rattle.kn_mark.specs.Kept.{Kept as MarkerKept, new_kept as new_marker}
use Rattle.kn_collector.specs.declared.stage.Stage.{Stage}
use Rattle.kn_collector.specs.declared.stage.Stage.TheVariants.{Looks}

-- its number, which is how many mutators there are; the epoch of the phase that it stored last; what it does next; the layouts of
-- its heap; what its marker keeps; and its log
pub record Kept : Type 0 where
  pub by : ℕ
  pub epoch : ℕ
  pub stage : Stage
  pub layouts : List Layout
  pub marker : MarkerKept
  pub log : List Entry

-- a collector that has made no turn, over a heap of these sizes and layouts
abbrev pub new_kept : Ground → Kept
new_kept z = record {
  by = z.sizes.threads;
  epoch = 0;
  stage = Looks 0;
  layouts = z.layouts;
  marker = new_marker z.sizes;
  log = [];
}
