use Rattle.std.proofs.Common.{false, Some, slice_set, refl, sym, ◌∙◌, subst}
use Rattle.kn_base.specs.Functions.{upd}
use Rattle.kn_base.specs.Pages.{FrameView}
use Rattle.kn_steps.specs.Made.{LieAs, Stand}
use Rattle.kn_page.specs.PageViews.{page_view}
use Rattle.kn_alloc.specs.Cells.{AsksFor}
use Rattle.kn_alloc.specs.Keeps.{Keeps, Tries}
use Rattle.kn_alloc.specs.Agree.{Agrees}
use Rattle.kn_alloc.proofs.Comes.{asks_right, came, may_come, own_page}
use Rattle.kn_alloc.proofs.Told.{tells_still}
use Rattle.kn_alloc.proofs.alloc.ThreadAlloc.takes.Goals as goal

pub move_page-requires : goal.move_page-requires
move_page-requires g c =
    may_come c.args.self.now (g.T.Steps.stand c.args.steps.now) (g.T.Steps.here c.args.steps.now) c.requires.agrees c.args.frame c.args.old
    c.requires.stage

pub tries-requires-clause-asks : goal.tries-requires-clause-asks
tries-requires-clause-asks g c =
    let m = c.args.self.now in
    let a = g.T.Steps.stand c.args.steps.now in
    let here = g.T.Steps.here c.args.steps.now in
    let page = page_view c.in-Some.page in
    subst (λ (p : FrameView). AsksFor p.class m.words) (sym c.readied-hand.ensures.page)
    (asks_right m a here c.requires.agrees c.args.frame c.args.old c.requires.stage page
    (own_page m a here c.requires.agrees c.args.frame c.args.old c.requires.stage page (c.in-Some.ensures).moved.gives))

pub returns-clause-turned : goal.returns-clause-turned
returns-clause-turned g c =
    let m = c.args.self.now in
    let t = c.tries.ensures in
    let h = c.readied-hand.ensures in
    let moved = c.in-Some.ensures in
    record {
      page = page_view c.in-Some.page;
      made = moved.moved;
      kept = moved.kept;
      hand = t.left;
      stage = t.stage;
      frame = t.frame ∙ h.frame;
      stamp = t.stamp ∙ h.stamp;
      tries = subst (λ (p : FrameView). Tries p m.words (page_view t.left.page) t.stage) h.page t.tries;
      after = t.after;
      answer = refl;
    }

pub returns-clause-agrees : goal.returns-clause-agrees
returns-clause-agrees g c =
    let m = c.args.self.now in
    let a = g.T.Steps.stand c.args.steps.now in
    let b = g.T.Steps.stand c.move_page.new.self in
    let here = g.T.Steps.here c.args.steps.now in
    let here' = g.T.Steps.here c.move_page.new.self in
    let page = page_view c.in-Some.page in
    let t = c.tries.ensures in
    let h = c.readied-hand.ensures in
    let moved = (c.in-Some.ensures).moved in
    let own = own_page m a here c.requires.agrees c.args.frame c.args.old c.requires.stage page moved.gives in
    subst (λ (q : Keeps). Agrees q b here') (sym t.after)
    (subst (λ (b : Stand). Agrees (record m { hands = slice_set m.hands m.class (Some t.left); stage = t.stage }) b here') (sym moved.view)
    (came m a here c.requires.agrees c.args.frame c.args.old c.requires.stage page own t.left (t.frame ∙ h.frame) (t.stamp ∙ h.stamp) t.stage
    (subst (λ (p : FrameView). Tries p m.words (page_view t.left.page) t.stage) h.page t.tries) here'
    (subst (λ (b : Stand). LieAs b.view (upd here c.args.frame false) here') moved.view moved.lies)))

pub returns-clause-tells : goal.returns-clause-tells
returns-clause-tells g c =
    tells_still c.args.self.now.stage (g.T.Steps.stand c.args.steps.now) (g.T.Steps.stand c.move_page.new.self) (c.in-Some.ensures).moved.view
