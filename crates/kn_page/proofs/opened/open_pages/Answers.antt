use Rattle.std.proofs.Common.{◌+◌, List, Some, ap, sym, ◌∙◌, subst, arith}
use Rattle.std.specs.Option.{option_map}
use Rattle.kn_base.specs.Pages.{whole_view}
use Rattle.kn_page.specs.declared.page.Page.{Page}
use Rattle.kn_page.specs.Opened.{AreFirstBelow, first_class}
use Rattle.kn_page.proofs.Opening.{first_pages_more, first_pages_all}
use Rattle.kn_page.proofs.opened.open_pages.Goals as goal

pub loop-number-preserved : goal.loop-number-preserved
loop-number-preserved c =
    let z = c.args.sizes.now in
    let n = c.loop-number.number in
    let at = ap Some c.in_ok-open_page.ensures ∙ ap (option_map (whole_view (first_class z n))) (sym c.frame_span-span.ensures.frame) in
    subst (AreFirstBelow z (n + 1)) (sym {A = List Page} c.in_ok-push.ensures.items)
    (first_pages_more z n c.loop-number.pages.items c.in_ok-open_page.field-0 c.loop-number.invariant at)

pub returns : goal.returns
returns c =
    let z = c.args.sizes.now in
    let lie = c.frames_lie.ensures z c.requires in
    first_pages_all z c.loop-number.number c.loop-number.pages.items
    (λ p past. lie.none p (omega (arith, c.loop-number-test.false, c.frames-number-end.ensures)))
    c.loop-number.invariant
