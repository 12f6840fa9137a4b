-- What is told of the state that the lists of a core stand for.
use Rattle.std.proofs.Common.{◌≡◌, ℕ, ◌<◌, ◌↔◌, List, slice_index_or, length, sym, subst, ◌∙◌, arith}
use Rattle.kn_graph.specs.declared.entries.Entry.{Entry}
use Rattle.kn_graph.specs.Graph.{empty_graph}
use Rattle.kn_graph.specs.Epochs.{WasUnreachable}
use Rattle.kn_cms_rule.specs.declared.stages.Colour.TheVariants.{White}
use Rattle.kn_cms_rule.specs.declared.stages.Stage.TheVariants.{Finished}
use Rattle.kn_cms_rule.specs.Words.{one_framed}
use Rattle.kn_cms_rule.specs.Calls.{IsCoreHistory}
use Rattle.kn_cms_rule.specs.State.{State}
use Rattle.kn_cms.specs.Stands.{IsCore, StandsFor}
use Rattle.kn_cms_lists.specs.Kept.{Kept, calls_of_threads}
use Rattle.kn_cms_rule.proofs.CollectorLaws.{condemns_exactly}

pub history_told : (k : Kept) → IsCore k → (h : List Entry) → h ≡ k.history.list → IsCoreHistory (one_framed k.ground) h
history_told k is h e =
    let r = is.stands.rule in
    subst (IsCoreHistory (one_framed k.ground)) (sym (e ∙ is.stands.history)) (record { legal = (is.state.graph, r.leads); full = r.full })

-- once marking has ended an object is kept without a colour exactly where it was unreachable at the pause
pub condemned_told : (k : Kept) (s : State) (n : ℕ) → StandsFor k s → n < length k.cells.cells → s.stage ≡ Finished →
    (slice_index_or k.colours n White ≡ White) ↔ WasUnreachable (one_framed k.ground) empty_graph s.history n
condemned_told k s n h near e =
    let born : n < s.graph.born = omega (arith, near, h.cells.born) in
    let exact = condemns_exactly (one_framed k.ground) (calls_of_threads k.calls) s s h.rule n e born in
    (λ w. exact.0 (sym (h.colours n) ∙ w), λ u. h.colours n ∙ exact.1 u)
