-- A step of a marker changes its caller's share alone.
use Rattle.std.proofs.Common.{◌≡◌, List, [], Option}
use Rattle.kn_graph.specs.declared.entries.Entry.{Entry}
use Rattle.kn_graph.specs.Ground.{Ground}
use Rattle.kn_marking.specs.declared.work.Work.{Work}
use Rattle.kn_rule.specs.Steps.{Outcome, quietly}
use Rattle.kn_rule.specs.Views.{Open}
use Rattle.kn_view.specs.Parts.{Part, view_with}

pub works_only : {at old : Part} {w w' : Work} (z : Ground) (owned : List (Option Open)) (log : List Entry) → at ≡ old → w ≡ w' →
    ◌≡◌ {A = Outcome} (record { view = view_with z (record at { work = w }) owned log; says = [] })
    (quietly (record (view_with z old owned log) { work = w' }))
works_only z owned log same e = λ t. record { view = view_with z (record (same t) { work = e t }) owned log; says = [] }
