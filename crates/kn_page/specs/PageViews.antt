-- What a page of any kind is seen as.
use Rattle.kn_base.specs.Pages.{FrameView}
use Rattle.kn_base.specs.declared.classes.TheConstants.{NEXT_FIT_CLASS, SINGLE_CLASS, EXTRA_CLASS}
use Rattle.kn_page.specs.declared.page.Page.{Page}
use Rattle.kn_page.specs.declared.page.Page.TheVariants.{Fixed, NextFit, Single, Extra}

-- the frame, the class, the free spans and the cursor of a page
abbrev pub page_view : Page → FrameView
page_view (Fixed p) = record { frame = p.frame; class = p.words; free = p.spans; cursor = p.frame.start }
page_view (NextFit p) = record { frame = p.frame; class = NEXT_FIT_CLASS; free = p.spans; cursor = p.cursor }
page_view (Single p) = record { frame = p.frame; class = SINGLE_CLASS; free = p.spans; cursor = p.frame.start }
page_view (Extra p) = record { frame = p.frame; class = EXTRA_CLASS; free = p.spans; cursor = p.frame.start }
