use Rattle.std.proofs.Common.{map, option_map, replicate, sym, ap, ◌∙◌, subst}
use Rattle.kn_view.specs.Parts.{ground_of}
use Rattle.kn_board.specs.World.{Sound}
use Rattle.kn_board.specs.Parts.{world_of}
use Rattle.kn_board.specs.Stored.{Kept}
use Rattle.kn_board.proofs.Opened.{made_is, made_sound}
use Rattle.kn_board.proofs.plain.Plain.open.Goals as goal

pub invariant_of-result : goal.invariant_of-result
invariant_of-result g c =
    let sizes = c.args.sizes.now in
    let slots = map (option_map g.P.FramePage.page) c.in_ok-slots.slots.items in
    let words = c.in_ok-words.ensures ∙ ap (λ n. replicate n 0) c.table_length.ensures in
    let made = subst (λ l. Sound (world_of (ground_of sizes l) c.in_ok-words.words.items slots c.in_ok-known.known.items c.in_ok-holds.holds.items
    c.in_ok-history.history)
    × Kept (ground_of sizes l) slots c.in_ok-known.known.items c.in_ok-holds.holds.items c.in_ok-history.history) (sym c.in_ok-copies.ensures)
    (made_sound (ground_of sizes c.args.layouts.now) c.requires.good c.in_ok-holds.holds.items c.in_ok-holds.ensures g.P.FramePage.page
    c.args.pages.items c.requires.whole c.in_ok-words.words.items words c.in_ok-slots.slots.items c.in_ok-slots.ensures c.in_ok-known.known.items
    c.in_ok-known.ensures c.in_ok-history.history c.in_ok-history.ensures) in
    (made.0, made.1, c.of.ensures)

pub returns : goal.returns
returns g c =
    let sizes = c.args.sizes.now in
    let slots = map (option_map g.P.FramePage.page) c.in_ok-slots.slots.items in
    let words = c.in_ok-words.ensures ∙ ap (λ n. replicate n 0) c.table_length.ensures in
    ap (λ l. world_of (ground_of sizes l) c.in_ok-words.words.items slots c.in_ok-known.known.items c.in_ok-holds.holds.items
    c.in_ok-history.history) c.in_ok-copies.ensures
    ∙ made_is (ground_of sizes c.args.layouts.now) c.requires.good c.in_ok-holds.holds.items c.in_ok-holds.ensures g.P.FramePage.page
    c.args.pages.items c.requires.whole c.in_ok-words.words.items words c.in_ok-slots.slots.items c.in_ok-slots.ensures c.in_ok-known.known.items
    c.in_ok-known.ensures c.in_ok-history.history c.in_ok-history.ensures
