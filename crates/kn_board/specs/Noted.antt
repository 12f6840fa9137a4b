-- What a step makes of what is stored of the views.
use Rattle.std.specs.Prelude.{◌≡◌, ◌≢◌, ℕ, ◌<◌, List, map}
use Rattle.kn_graph.specs.declared.entries.Entry.{Entry}
use Rattle.kn_graph.specs.Ground.{Ground}
use Rattle.kn_rule.specs.Views.{View}
use Rattle.kn_rule.specs.Steps.{Outcome, callers}
use Rattle.kn_view.specs.Parts.{Part, view_with}
use Rattle.kn_view.specs.Told.{told}
use Rattle.kn_holds.specs.Holds.{Hold}
use Rattle.kn_board.specs.Parts.{own_of}
use Rattle.kn_board.specs.Stored.{HoldsFit}

-- what is stored of the view of caller `by`, and the history, are as an outcome says: the history after it is the one before it with
-- exactly what the outcome says; what other callers own stays; and what is stored of frames fits as before
pub record Noted (z : Ground) (by : ℕ) (old new : Part) (holds holds' : List Hold) (before after : List Entry)
    (outcome : View → Outcome) : Type 0 where
  pub mine : (log : List Entry) →
      record { view = view_with z new (map (own_of by) holds') log; history = after }
      ≡ told before (outcome (view_with z old (map (own_of by) holds) log))
  pub others : (c : ℕ) → c < callers z.sizes → by ≢ c → map (own_of c) holds' ≡ map (own_of c) holds
  pub fits : HoldsFit z.sizes holds'
