use Rattle.std.proofs.Common.{◌≡◌, ◌<◌, map, option_map, ap, ◌∙◌, arith, slice_get}
use Rattle.kn_base.specs.Sizes.{frame_count}
use Rattle.kn_rule.specs.Decoding.{frame_of}
use Rattle.kn_rule.specs.Outcomes.{sweep_begun}
use Rattle.kn_rule.specs.Steps.{found, frame_in, word_wanted}
use Rattle.kn_rule.specs.Views.{flattened}
use Rattle.kn_view.specs.Looks.{sweep_from}
use Rattle.kn_view.specs.Parts.{ground_of}
use Rattle.kn_board.proofs.Holdings.{slot_near, page_room}
use Rattle.kn_board.proofs.Notings.{claim_made}
use Rattle.kn_board.proofs.frames.claims.Goals as goal

pub owns-requires-clause-slot : goal.owns-requires-clause-slot
owns-requires-clause-slot g c =
    let k = c.frame_in-frame in
    let won : c.args.step.word ≡ c.requires.asks.old =
    c.if-step-wanted.false ∙ (c.wanted_by-wanted.ensures ∙ ap word_wanted c.requires.asks.act) in
    let lies = c.requires.asks.lies won in
    slot_near (option_map g.P.FramePage.page) c.args.slots.now k.result lies.0
    (ap (λ k. flattened (slice_get (map (option_map g.P.FramePage.page) c.args.slots.now) k)) k.ensures ∙ lies.1)

pub owns-requires-clause-room : goal.owns-requires-clause-room
owns-requires-clause-room g c =
    let k = c.frame_in-frame in let z = c.args.sizes.now in
    let is : k.result ≡ c.requires.asks.at.frame = k.ensures ∙ ap frame_in c.requires.asks.at.place in
    let near : k.result < frame_count z = let l = c.requires.asks.at.near in omega arith in
    page_room z c.requires.good.sizes c.length_law.ensures c.args.holds.now.items c.requires.fits
    (map (option_map g.P.FramePage.page) c.args.slots.now) c.requires.pages k.result near

pub returns : goal.returns
returns g c = λ page lies.
    let z = ground_of c.args.sizes.now c.args.layouts.now in let s = c.args.step in let k = c.frame_in-frame in
    let slots = map (option_map g.P.FramePage.page) c.args.slots.now in
    let is : k.result ≡ c.requires.asks.at.frame = k.ensures ∙ ap frame_in c.requires.asks.at.place in
    let near : k.result < frame_count z.sizes = let l = c.requires.asks.at.near in omega arith in
    let won : s.word ≡ word_wanted s.act = c.if-step-wanted.false ∙ c.wanted_by-wanted.ensures in
    let here = ap (λ k. flattened (slice_get slots k)) k.ensures ∙ lies won in
    let swept = c.sweep_start.ensures ∙ ap (λ w. sweep_begun z.sizes k.result (frame_of w).kind) c.wanted_by-wanted.ensures in
    claim_made z s.by c.args.known.now c.args.holds.now.items c.requires.fits s.place s.act (found s.word page)
    (flattened (slice_get slots (frame_in s.place))) c.requires.asks won k.result c.stored_by.result k.ensures c.stored_by.ensures
    (sweep_from k.result c.sweep_start.result) swept (c.requires.pages k.result page near here) c.args.history.now
    c.begins_sweep.new.self c.begins_sweep.ensures c.owns.new.holds.items (c.owns.ensures page here)
