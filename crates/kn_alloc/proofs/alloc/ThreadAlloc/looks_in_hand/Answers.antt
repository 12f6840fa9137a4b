use Rattle.std.proofs.Common.{◌≡◌, inl, inr, sym, ◌∙◌, subst}
use Rattle.kn_page.specs.PageViews.{page_view}
use Rattle.kn_alloc.specs.Cells.{AsksFor}
use Rattle.kn_alloc.specs.Keeps.{Keeps}
use Rattle.kn_alloc.proofs.Tries.{class_is, handed, no_hand}
use Rattle.kn_alloc.proofs.alloc.ThreadAlloc.looks_in_hand.Goals as goal

pub tries-requires-clause-asks : goal.tries-requires-clause-asks
tries-requires-clause-asks c =
    let m = c.args.self.now in
    let class : (page_view c.in-Some.hand.page).class ≡ m.class =
    c.requires.classes c.class_asked.result c.in-Some.hand (c.in-Some.ensures).had ∙ c.class_asked.ensures in
    subst (λ (q : Keeps). AsksFor (page_view c.in-Some.hand.page).class q.words) (sym c.hand_if_any.ensures.after)
    (subst (λ k. AsksFor k m.words) (sym (class ∙ c.requires.class)) (class_is m.sizes m.words c.requires.words).1)

pub returns-in-Some : goal.returns-in-Some
returns-in-Some c =
    let h = handed c.args.self.now c.hand_if_any.new.self c.tries.new.self c.class_asked.result c.in-Some.hand c.class_asked.ensures
    (c.in-Some.ensures).had c.hand_if_any.ensures.after c.tries.ensures in
    inr (c.in-Some.hand, h.0, h.1)

pub returns-in-None : goal.returns-in-None
returns-in-None c =
    inl (no_hand c.args.self.now c.hand_if_any.new.self c.goes_to.new.self c.class_asked.result c.class_asked.ensures (c.in-None.ensures).had
    c.hand_if_any.ensures.after c.goes_to.ensures)
