use Rattle.std.proofs.Common.{slice_index_or, sym, ap, ◌∙◌, arith}
use Rattle.kn_view.specs.Parts.{ground_of}
use Rattle.kn_board.proofs.MoveCalls.{near_slot, exchange_sound, exchange_moves, exchange_told}
use Rattle.kn_board.proofs.plain.Plain.exchange.Goals as goal

pub index_mut-requires : goal.index_mut-requires
index_mut-requires g c = let b = c.self.inside in
    let ok = b.slots.ok.0 in
    let near = near_slot g.P.FramePage.page (ground_of b.sizes b.layouts.items) b.words.items b.slots.items b.known.items b.holds.items
    b.history c.args.self.now c.self.view_is (c.self.invariant.0, c.self.invariant.1) c.args.by c.requires.caller
    c.args.frame c.args.page c.requires.may in
    omega arith

pub invariant_of-self : goal.invariant_of-self
invariant_of-self g c = let b = c.self.inside in
    let after = exchange_sound g.P.FramePage.page (ground_of b.sizes b.layouts.items) b.words.items b.slots.items b.known.items b.holds.items
    b.history c.args.self.now c.self.view_is (c.self.invariant.0, c.self.invariant.1) c.args.by c.requires.caller
    c.args.frame c.args.page c.requires.may
    c.replace.new.dest c.replace.ensures.after in
    (after.0, after.1, c.self.invariant.2)

pub returns-clause-moves : goal.returns-clause-moves
returns-clause-moves g c = let b = c.self.inside in
    exchange_moves g.P.FramePage.page (ground_of b.sizes b.layouts.items) b.words.items b.slots.items b.known.items b.holds.items
    b.history c.args.self.now c.self.view_is (c.self.invariant.0, c.self.invariant.1) c.args.by c.requires.caller
    c.args.frame c.args.page c.requires.may
    c.replace.new.dest c.replace.ensures.after c.replace.result
    (c.replace.ensures.value ∙ (c.index_mut.ensures.value
    ∙ ap (λ q. slice_index_or b.slots.items c.args.frame q) (sym c.replace.ensures.value)))

pub returns-clause-moved : goal.returns-clause-moved
returns-clause-moved g c = let b = c.self.inside in
    exchange_told g.P.FramePage.page (ground_of b.sizes b.layouts.items) b.words.items b.slots.items b.known.items b.holds.items
    b.history c.args.self.now c.self.view_is (c.self.invariant.0, c.self.invariant.1) c.args.by c.requires.caller
    c.args.frame c.args.page c.requires.may
    c.replace.new.dest c.replace.ensures.after c.replace.result
    (c.replace.ensures.value ∙ (c.index_mut.ensures.value
    ∙ ap (λ q. slice_index_or b.slots.items c.args.frame q) (sym c.replace.ensures.value)))
