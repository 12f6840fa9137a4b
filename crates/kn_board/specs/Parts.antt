-- The views, by what is stored of callers and of frames.
use Rattle.std.specs.Prelude.{ℕ, ◌+◌, ◌==◌, Bool, false, cond, List, [], ◌∷◌, map, Option, Some, None}
use Rattle.kn_base.specs.Pages.{FrameView}
use Rattle.kn_graph.specs.declared.entries.Entry.{Entry}
use Rattle.kn_graph.specs.Ground.{Ground}
use Rattle.kn_graph.specs.Logs.{log_of}
use Rattle.kn_rule.specs.Views.{View, Open}
use Rattle.kn_view.specs.Parts.{Part, view_with}
use Rattle.kn_holds.specs.Holds.{Hold}
use Rattle.kn_board.specs.World.{World, world}

abbrev pub is_by : ℕ → Option ℕ → Bool
is_by c None = false
is_by c (Some d) = d == c

-- what the view of caller c has of the frame
abbrev pub own_of : ℕ → Hold → Option Open
own_of c hold = cond (is_by c hold.by) (Some (record { word = hold.word; free = hold.free.spans; cursor = hold.cursor })) None

-- the view of caller c
abbrev pub view_of : Ground → ℕ → Part → List Hold → List Entry → View
view_of z c part holds history = view_with z part (map (own_of c) holds) (log_of c history)

-- the views of the callers from c on
abbrev pub views_from : Ground → ℕ → List Part → List Hold → List Entry → List View
views_from z c [] holds history = []
views_from z c (part ∷ parts) holds history = view_of z c part holds history ∷ views_from z (c + 1) parts holds history

-- the board that is stored so
abbrev pub world_of : Ground → List ℕ → List (Option FrameView) → List Part → List Hold → List Entry → World
world_of z words slots known holds history = world z words slots (views_from z 0 known holds history) history
