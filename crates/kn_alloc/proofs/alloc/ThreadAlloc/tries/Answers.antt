use Rattle.std.proofs.Common.{sym, subst, refl}
use Rattle.kn_page.specs.PageViews.{page_view}
use Rattle.kn_alloc.specs.Keeps.{Keeps, Tries}
use Rattle.kn_alloc.proofs.Tries.{tries_told}
use Rattle.kn_alloc.proofs.alloc.ThreadAlloc.tries.Goals as goal

pub returns : goal.returns
returns c =
    let hand = c.args.hand in
    let left = c.take_cell-cell.new.page in
    let h = c.take_cell-cell.ensures in
    let tried : Tries (page_view hand.page) c.self.inside.words (page_view left) c.stage_tried.result =
    subst (Tries (page_view hand.page) c.self.inside.words (page_view left)) (sym c.stage_tried.ensures)
    (tries_told hand.page left c.self.inside.words c.take_cell-cell.result h.none h.after) in
    record {
      left = record { frame = hand.frame; stamp = hand.stamp; page = left };
      stage = c.stage_tried.result;
      frame = refl;
      stamp = refl;
      tries = subst (λ (m : Keeps). Tries (page_view hand.page) m.words (page_view left) c.stage_tried.result) c.self.view_is tried;
      after = c.puts_in_hand.ensures;
    }
