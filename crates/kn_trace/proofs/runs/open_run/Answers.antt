use Rattle.std.proofs.Common.{◌∙◌, map, ap, subst}
use Rattle.kn_base.specs.declared.heap.Sizes.{Sizes}
use Rattle.kn_graph.specs.Ground.{Ground}
use Rattle.kn_page.specs.PageViews.{page_view}
use Rattle.kn_script.specs.Scripts.{Scripted}
use Rattle.kn_board.specs.Open.{AreWhole, opened}
use Rattle.kn_trace.proofs.FirstPages.{first_whole}
use Rattle.kn_trace.proofs.Starting.{holds_first, over_script, starts}
use Rattle.kn_trace.proofs.runs.open_run.Goals as goal

pub open-requires-clause-whole : goal.open-requires-clause-whole
open-requires-clause-whole c = first_whole c.script.inside.sizes c.in_ok-pages.pages.items c.in_ok-pages.ensures

pub returns : goal.returns
returns c =
    let now = c.args.script.now in
    let good = c.requires.good in
    let is = c.script.view_is in
    let pages = map page_view c.in_ok-pages.pages.items in
    let w = c.in_ok-board.board in
    let r = c.in_ok-actors.actors in
    let new = c.in_ok-actors.ensures.new in
    let board = c.in_ok-board.ensures ∙ ap (λ (z : Ground). opened z pages) (over_script c.deref.result.now c.deref.ensures.value is) in
    let whole = subst (λ (z : Sizes). AreWhole z pages) (ap (λ (x : Scripted). x.sizes) is)
    (first_whole c.script.inside.sizes c.in_ok-pages.pages.items c.in_ok-pages.ensures) in
    record {
      start = starts now good pages w board r new whole c.in_ok-actors.ensures.collector c.in_ok-actors.ensures.left;
      holds = holds_first now good pages w board r new c.in_ok-actors.ensures.collects c.turn_laws.ensures.opened;
    }
