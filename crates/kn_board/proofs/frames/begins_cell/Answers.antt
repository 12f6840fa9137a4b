use Rattle.std.proofs.Common.{refl, ap, arith}
use Rattle.kn_base.specs.declared.numbers.Span.{Span}
use Rattle.kn_rule.specs.FrameSpans.{frame_span}
use Rattle.kn_rule.specs.Steps.{found}
use Rattle.kn_view.specs.Parts.{ground_of}
use Rattle.kn_board.proofs.Cutting.{lies_there, near_hold, may_cut, cut_noted}
use Rattle.kn_board.proofs.frames.begins_cell.Goals as goal

pub frame_with-frame-requires-clause-inside : goal.frame_with-frame-requires-clause-inside
frame_with-frame-requires-clause-inside c =
    let sizes = c.args.sizes.now in let layouts = c.args.layouts.now in let s = c.args.step in
    lies_there (ground_of sizes layouts) c.requires.good s.by c.args.known.now s.place s.act s.word c.args.holds.now.items c.requires.fits
    c.requires.asks c.requires.none c.address_in-address.result c.address_in-address.ensures

pub index_mut-hold-requires : goal.index_mut-hold-requires
index_mut-hold-requires c =
    let sizes = c.args.sizes.now in let layouts = c.args.layouts.now in let s = c.args.step in
    let ok = c.args.holds.now.ok.0 in
    let near = near_hold (ground_of sizes layouts) c.requires.good s.by c.args.known.now s.place s.act s.word c.args.holds.now.items c.requires.fits
    c.requires.asks c.requires.none c.address_in-address.result c.address_in-address.ensures
    c.frame_with-frame.result c.frame_with-frame.ensures in
    omega arith

pub cut-requires : goal.cut-requires
cut-requires c =
    let sizes = c.args.sizes.now in let layouts = c.args.layouts.now in let s = c.args.step in
    may_cut (ground_of sizes layouts) c.requires.good s.by c.args.known.now s.place s.act s.word c.args.holds.now.items c.requires.fits
    c.requires.asks c.requires.none c.address_in-address.result c.address_in-address.ensures
    c.frame_with-frame.result c.frame_with-frame.ensures c.index_mut-hold.result.now
    c.index_mut-hold.ensures.value c.in-Some.cell c.in-Some.class c.in-Some.ensures
    c.cell_law.ensures c.length_law.ensures

pub returns-in-Some : goal.returns-in-Some
returns-in-Some c =
    let sizes = c.args.sizes.now in let layouts = c.args.layouts.now in let s = c.args.step in λ page history.
    cut_noted (ground_of sizes layouts) c.requires.good s.by c.args.known.now s.place s.act s.word c.args.holds.now.items c.requires.fits
    c.requires.asks c.requires.none c.address_in-address.result c.address_in-address.ensures
    c.frame_with-frame.result c.frame_with-frame.ensures c.index_mut-hold.result.now
    c.index_mut-hold.ensures.value c.in-Some.cell c.in-Some.class c.in-Some.ensures
    (found s.word page) refl history c.cut.new.self c.span_of-start.result.start (ap (λ (x : Span). x.start) c.span_of-start.ensures)
    c.cut.ensures.cut (c.cut.ensures.apart (frame_span sizes c.frame_with-frame.result)) c.takes.new.self c.takes.ensures
