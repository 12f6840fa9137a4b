-- The board at its start.
use Rattle.std.specs.Prelude.{◌≡◌, ℕ, ◌<◌, List, [], length, map, replicate, Some, slice_get}
use Rattle.kn_base.specs.declared.heap.Sizes.{Sizes}
use Rattle.kn_base.specs.Sizes.{frame_count}
use Rattle.kn_base.specs.SpanLists.{IsWhollyFree}
use Rattle.kn_base.specs.Pages.{FrameView}
use Rattle.kn_graph.specs.Ground.{Ground}
use Rattle.kn_rule.specs.FrameSpans.{frame_span}
use Rattle.kn_rule.specs.Places.{table_words}
use Rattle.kn_rule.specs.Requests.{InArea}
use Rattle.kn_rule.specs.Steps.{callers}
use Rattle.kn_rule.specs.Rule.{fresh}
use Rattle.kn_board.specs.World.{World, world}

-- the page is that of frame p, of a class of its area, and wholly free
abbrev pub IsWholeAt : Sizes → ℕ → FrameView → Type 0
IsWholeAt z p page = (page.frame ≡ frame_span z p) × InArea z p page.class × IsWhollyFree (frame_span z p) page.free

-- there is one wholly free page for each frame, in the order of their numbers
pub record AreWhole (z : Sizes) (pages : List FrameView) : Type 0 where
  pub count : length pages ≡ frame_count z
  pub each : (p : ℕ) → p < frame_count z → (page : FrameView) × (slice_get pages p ≡ Some page) × IsWholeAt z p page

-- all words are 0, each page lies in its slot, no caller has made a step, and nothing was said
abbrev pub opened : Ground → List FrameView → World
opened z pages =
    world z (replicate (table_words z.sizes) 0) (map (λ page. Some page) pages) (replicate (callers z.sizes) (fresh z)) []
