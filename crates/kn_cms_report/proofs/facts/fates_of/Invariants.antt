use Rattle.std.proofs.Common.{◌≡◌, ◌<◌, ◌↔◌, ℕ, true, false, length, slice_index_or}
use Rattle.kn_graph.specs.Epochs.{WasUnreachable}
use Rattle.kn_graph.specs.Graph.{empty_graph}
use Rattle.kn_cms_rule.specs.declared.stages.Stage.TheVariants.{Finished}
use Rattle.kn_cms_rule.specs.Words.{one_framed}
use Rattle.kn_cms_rule.specs.State.{State}
use Rattle.kn_cms.specs.Stands.{StandsFor}
use Rattle.kn_cms_report.proofs.facts.fates_of.Given as goal

abbrev pub invariant-loop-k : goal.invariant-loop-k
invariant-loop-k l = record {
  count : length l.flags.items ≡ l.k;
  each : (s : State) → StandsFor l.core s → (j : ℕ) → j < l.k → (slice_index_or l.flags.items j false ≡ true)
      ↔ ((s.stage ≡ Finished) × WasUnreachable (one_framed l.core.ground) empty_graph s.history j);
}
