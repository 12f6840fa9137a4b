-- The pages of a heap at its start.
use Rattle.std.specs.Prelude.{ℕ, ◌≡◌, ◌+◌, ◌<◌, List, Option, if◌then◌else◌, length, nat_lt, slice_get}
use Rattle.std.specs.Option.{option_map}
use Rattle.kn_base.specs.Pages.{FrameView, whole_view}
use Rattle.kn_base.specs.Sizes.{span_of_frame}
use Rattle.kn_base.specs.declared.classes.TheConstants.{LEAST_CELL, SINGLE_CLASS, EXTRA_CLASS}
use Rattle.kn_base.specs.declared.heap.Sizes.{Sizes}
use Rattle.kn_page.specs.declared.page.Page.{Page}
use Rattle.kn_page.specs.PageViews.{page_view}

-- the class of frame p's page at the start: the least cells in a small frame, a single object in a large one,
-- extra cells in an extra one
abbrev pub first_class : Sizes → ℕ → ℕ
first_class z p = if nat_lt p z.small then LEAST_CELL else if nat_lt p (z.small + z.large) then SINGLE_CLASS else EXTRA_CLASS

-- the view of frame p's page at the start, if there is such a frame
abbrev pub first_view : Sizes → ℕ → Option FrameView
first_view z p = option_map (whole_view (first_class z p)) (span_of_frame z p)

-- there are n pages, those of the first n frames in the order of their numbers
abbrev pub AreFirstBelow : Sizes → ℕ → List Page → Type 0
AreFirstBelow z n pages = (length pages ≡ n) × ((p : ℕ) → p < n → option_map page_view (slice_get pages p) ≡ first_view z p)

-- there is one wholly free page for each frame, in the order of their numbers
abbrev pub AreFirstPages : Sizes → List Page → Type 0
AreFirstPages z pages = (p : ℕ) → option_map page_view (slice_get pages p) ≡ first_view z p
