-- The laws of the core: each kind of step keeps its rule, and what the rule says at the end.
use Rattle.std.specs.Prelude.{◌≡◌, ℕ, ◌<◌, ◌↔◌, Bool, List}
use Rattle.kn_graph.specs.declared.calls.Call.{Call}
use Rattle.kn_graph.specs.Ground.{Ground}
use Rattle.kn_graph.specs.Graph.{Graph, empty_graph}
use Rattle.kn_graph.specs.Collections.{Condemns}
use Rattle.kn_graph.specs.Sound.{IsSound}
use Rattle.kn_graph.specs.Epochs.{WasUnreachable}
use Rattle.kn_cms_rule.specs.declared.stages.Colour.TheVariants.{White}
use Rattle.kn_cms_rule.specs.declared.stages.Stage.TheVariants.{Finished}
use Rattle.kn_cms_rule.specs.Words.{one_framed}
use Rattle.kn_cms_rule.specs.State.{State, opening}
use Rattle.kn_cms_rule.specs.Rule.{Rule, AllMayBeMade, HoldsNoNames}

-- a kind of a thread's step keeps the rule
abbrev pub ThreadKeeps : (Ground → State → ℕ → State → Type 0) → Type 0
ThreadKeeps kind = (base : Ground) (calls : ℕ → List Call) (s s' : State) (thread : ℕ) → thread < base.sizes.threads →
    Rule (one_framed base) calls s → kind (one_framed base) s thread s' → Rule (one_framed base) calls s'

-- a kind of the collector's step keeps the rule
abbrev pub CollectorKeeps : (Ground → State → State → Type 0) → Type 0
CollectorKeeps kind = (base : Ground) (calls : ℕ → List Call) (s s' : State) → Rule (one_framed base) calls s → kind (one_framed base) s s' →
    Rule (one_framed base) calls s'

-- the rule holds before all steps, where all calls may be made
abbrev pub OpeningIsRuled : Type 0
OpeningIsRuled = (z : Ground) (calls : ℕ → List Call) → AllMayBeMade z calls → Rule z calls (opening calls)

-- once marking has ended an object has no colour exactly where it was unreachable at the pause
abbrev pub CondemnsExactly : Type 0
CondemnsExactly = (z : Ground) (calls : ℕ → List Call) (s : State) (n : ℕ) → Rule z calls s → s.stage ≡ Finished → n < s.graph.born →
    (s.colour n ≡ White) ↔ WasUnreachable z empty_graph s.history n

-- of a sound graph in which no name holds an object there are flags that a pause sets
abbrev pub PausesAreThere : Type 0
PausesAreThere = (z : Ground) (g : Graph) → IsSound z g → HoldsNoNames g.stable g.back → (flag : ℕ → Bool) × Condemns g flag
