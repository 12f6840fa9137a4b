use Rattle.std.proofs.Common.{◌≡◌, ◌∙◌, map, ap}
use Rattle.kn_graph.specs.Ground.{Ground}
use Rattle.kn_page.specs.PageViews.{page_view}
use Rattle.kn_script.specs.Scripts.{Scripted, ground_of}
use Rattle.kn_view.specs.Parts as parts
use Rattle.kn_board.specs.Open.{opened}
use Rattle.kn_board.specs.World.{World}
use Rattle.kn_trace.proofs.FirstPages.{first_whole}
use Rattle.kn_board_tests.proofs.Standing.{agrees_first, may_end_first, stands_first}
use Rattle.kn_board_tests.proofs.tests.stops.opens.Goals as goal

pub open-requires-clause-whole : goal.open-requires-clause-whole
open-requires-clause-whole c = first_whole c.script.inside.sizes c.in_ok-pages.pages.items c.in_ok-pages.ensures

pub returns : goal.returns
returns c =
    let now : Scripted = c.args.script.now in
    let z : Ground = ground_of now in
    let pages = map page_view c.in_ok-pages.pages.items in
    let w = c.in_ok-board.board in
    let k = c.in_ok-collector.collector in
    let opening = c.turn_laws.ensures.opened in
    let one = c.requires.threads in
    let heap : parts.ground_of c.script.inside.sizes c.deref.result.now ≡ z =
    ap (parts.ground_of c.script.inside.sizes) c.deref.ensures.value ∙ ap ground_of c.script.view_is in
    let board : w ≡ opened z pages = c.in_ok-board.ensures ∙ ap (λ (g : Ground). opened g pages) heap in
    record {
      threads = ap (λ (x : World). x.heap.sizes.threads) board ∙ one;
      agrees = agrees_first opening z pages w board k c.in_ok-collector.ensures.agrees one;
      stands = λ given. stands_first opening z pages w board one given;
      may_end = λ none. may_end_first opening z pages w board one none;
    }
