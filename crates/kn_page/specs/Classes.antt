-- What the class of a page says of its area and of the requests that it has room for.
use Rattle.std.specs.Prelude.{ℕ, ◌≡◌, ◌≢◌, ◌≤◌, ◌⊎◌, ◌==◌, if◌then◌else◌, Any}
use Rattle.kn_base.specs.Sizes.{Between}
use Rattle.kn_base.specs.Pages.{FrameView}
use Rattle.kn_base.specs.declared.classes.TheConstants.{LEAST_CELL, NEXT_FIT_CLASS, SINGLE_CLASS, EXTRA_CLASS}
use Rattle.kn_extra.specs.declared.page.TheConstants.{EXTRA_CELL}

-- a class of the small frames: of fixed cells, or next-fit
abbrev pub IsSmallClass : ℕ → Type 0
IsSmallClass class = Between LEAST_CELL NEXT_FIT_CLASS class

-- two classes are of one area: of the small frames, of the large ones, or of the extra ones
abbrev pub ShareArea : ℕ → ℕ → Type 0
ShareArea a b = (IsSmallClass a × IsSmallClass b) ⊎ ((a ≡ SINGLE_CLASS) × (b ≡ SINGLE_CLASS)) ⊎ ((a ≡ EXTRA_CLASS) × (b ≡ EXTRA_CLASS))

-- the least request that a page takes a cell for: one extra cell in a page of extra cells, and as many words as
-- the number of the class says in a fixed or a next-fit one
abbrev pub least_request : ℕ → ℕ
least_request class = if class == EXTRA_CLASS then EXTRA_CELL else class

-- a page that is not single has a free span for its least request
abbrev pub HasRoom : FrameView → Type 0
HasRoom page = (page.class ≢ SINGLE_CLASS) × Any (λ span. least_request page.class ≤ span.len) page.free
