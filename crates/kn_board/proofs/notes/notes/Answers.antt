use Rattle.std.proofs.Common.{map, option_map, slice_get, subst}
use Rattle.kn_rule.specs.declared.steps.Kind.TheVariants.{K2, K3, K5, K7, K10, K11, K12, K14, K15}
use Rattle.kn_rule.specs.declared.steps.Kind.TheVariants.{K17, K18, K19, K20, K21, K22, K23, K24}
use Rattle.kn_rule.specs.Steps.{found, frame_in, word_wanted}
use Rattle.kn_rule.specs.Views.{flattened}
use Rattle.kn_view.specs.Parts.{ground_of}
use Rattle.kn_board.specs.World.{IsPageFound}
use Rattle.kn_board.proofs.Holdings.{noted_of, noted_plain, noted_quietly}
use Rattle.kn_board.proofs.notes.notes.Goals as goal

pub returns-in-K2 : goal.returns-in-K2
returns-in-K2 g c = λ page lies.
    let s = c.args.step in
    noted_quietly (ground_of c.args.sizes.now c.args.layouts.now) s.by c.args.known.now c.goes.new.known c.args.holds.now.items c.args.history.now
    s.place s.act (found s.word page) c.args.kind K2 c.in-K2.is c.requires.fits (c.goes.ensures page)

pub returns-in-K3 : goal.returns-in-K3
returns-in-K3 g c = λ page lies.
    let s = c.args.step in
    noted_plain (ground_of c.args.sizes.now c.args.layouts.now) s.by c.args.known.now c.writes.new.known c.args.holds.now.items
    c.args.history.now c.writes.new.history s.place s.act (found s.word page) c.args.kind K3 c.in-K3.is c.requires.fits (c.writes.ensures page)

pub returns-in-K5 : goal.returns-in-K5
returns-in-K5 g c = λ page lies.
    let s = c.args.step in
    noted_plain (ground_of c.args.sizes.now c.args.layouts.now) s.by c.args.known.now c.stores.new.known c.args.holds.now.items
    c.args.history.now c.stores.new.history s.place s.act (found s.word page) c.args.kind K5 c.in-K5.is c.requires.fits (c.stores.ensures.field page)

pub returns-in-K7 : goal.returns-in-K7
returns-in-K7 g c = λ page lies.
    let s = c.args.step in
    noted_plain (ground_of c.args.sizes.now c.args.layouts.now) s.by c.args.known.now c.stores-in-K7.new.known c.args.holds.now.items
    c.args.history.now c.stores-in-K7.new.history s.place s.act (found s.word page) c.args.kind K7 c.in-K7.is c.requires.fits
    (c.stores-in-K7.ensures.global page)

pub returns-in-K10 : goal.returns-in-K10
returns-in-K10 g c = λ page lies.
    let s = c.args.step in
    noted_of (ground_of c.args.sizes.now c.args.layouts.now) s.by c.args.known.now c.claims.new.known c.args.holds.now.items
    c.args.history.now c.claims.new.history s.place s.act (found s.word page) c.args.kind K10 c.in-K10.is c.claims.new.holds.items
    (c.claims.ensures page (subst (λ k. IsPageFound k (word_wanted s.act) (found s.word page)
    (flattened (slice_get (map (option_map g.P.FramePage.page) c.args.slots.now) (frame_in s.place)))) c.in-K10.is lies))

pub returns-in-K11 : goal.returns-in-K11
returns-in-K11 g c = λ page lies.
    let s = c.args.step in
    noted_of (ground_of c.args.sizes.now c.args.layouts.now) s.by c.args.known.now c.puts_home.new.known c.args.holds.now.items
    c.args.history.now c.puts_home.new.history s.place s.act (found s.word page) c.args.kind K11 c.in-K11.is c.puts_home.new.holds.items
    (c.puts_home.ensures page)

pub returns-in-K12 : goal.returns-in-K12
returns-in-K12 g c = λ page lies.
    let s = c.args.step in
    noted_of (ground_of c.args.sizes.now c.args.layouts.now) s.by c.args.known.now c.clears.new.known c.args.holds.now.items
    c.args.history.now c.args.history.now s.place s.act (found s.word page) c.args.kind K12 c.in-K12.is c.clears.new.holds.items
    (c.clears.ensures page c.args.history.now)

pub returns-in-K14 : goal.returns-in-K14
returns-in-K14 g c = λ page lies.
    let s = c.args.step in
    noted_plain (ground_of c.args.sizes.now c.args.layouts.now) s.by c.args.known.now c.stores_phase.new.known c.args.holds.now.items
    c.args.history.now c.stores_phase.new.history s.place s.act (found s.word page) c.args.kind K14 c.in-K14.is c.requires.fits (c.stores_phase.ensures page)

pub returns-in-K15 : goal.returns-in-K15
returns-in-K15 g c = λ page lies.
    let s = c.args.step in
    noted_quietly (ground_of c.args.sizes.now c.args.layouts.now) s.by c.args.known.now c.loads_state.new.known c.args.holds.now.items c.args.history.now
    s.place s.act (found s.word page) c.args.kind K15 c.in-K15.is c.requires.fits (c.loads_state.ensures page)

pub returns-in-K17 : goal.returns-in-K17
returns-in-K17 g c = λ page lies.
    let s = c.args.step in
    noted_quietly (ground_of c.args.sizes.now c.args.layouts.now) s.by c.args.known.now c.moves_set.new.known c.args.holds.now.items c.args.history.now
    s.place s.act (found s.word page) c.args.kind K17 c.in-K17.is c.requires.fits (c.moves_set.ensures page)

pub returns-in-K18 : goal.returns-in-K18
returns-in-K18 g c = λ page lies.
    let s = c.args.step in
    noted_quietly (ground_of c.args.sizes.now c.args.layouts.now) s.by c.args.known.now c.reads_root.new.known c.args.holds.now.items c.args.history.now
    s.place s.act (found s.word page) c.args.kind K18 c.in-K18.is c.requires.fits (c.reads_root.ensures page)

pub returns-in-K19 : goal.returns-in-K19
returns-in-K19 g c = λ page lies.
    let s = c.args.step in
    noted_quietly (ground_of c.args.sizes.now c.args.layouts.now) s.by c.args.known.now c.reserves.new.known c.args.holds.now.items c.args.history.now
    s.place s.act (found s.word page) c.args.kind K19 c.in-K19.is c.requires.fits (c.reserves.ensures page)

pub returns-in-K20 : goal.returns-in-K20
returns-in-K20 g c = λ page lies.
    let s = c.args.step in
    noted_quietly (ground_of c.args.sizes.now c.args.layouts.now) s.by c.args.known.now c.moves_mark.new.known c.args.holds.now.items c.args.history.now
    s.place s.act (found s.word page) c.args.kind K20 c.in-K20.is c.requires.fits (c.moves_mark.ensures page)

pub returns-in-K21 : goal.returns-in-K21
returns-in-K21 g c = λ page lies.
    let s = c.args.step in
    noted_quietly (ground_of c.args.sizes.now c.args.layouts.now) s.by c.args.known.now c.gives_unit.new.known c.args.holds.now.items c.args.history.now
    s.place s.act (found s.word page) c.args.kind K21 c.in-K21.is c.requires.fits (c.gives_unit.ensures page)

pub returns-in-K22 : goal.returns-in-K22
returns-in-K22 g c = λ page lies.
    let s = c.args.step in
    noted_quietly (ground_of c.args.sizes.now c.args.layouts.now) s.by c.args.known.now c.takes_gray.new.known c.args.holds.now.items c.args.history.now
    s.place s.act (found s.word page) c.args.kind K22 c.in-K22.is c.requires.fits (c.takes_gray.ensures page)

pub returns-in-K23 : goal.returns-in-K23
returns-in-K23 g c = λ page lies.
    let s = c.args.step in
    noted_quietly (ground_of c.args.sizes.now c.args.layouts.now) s.by c.args.known.now c.reads_cell.new.known c.args.holds.now.items c.args.history.now
    s.place s.act (found s.word page) c.args.kind K23 c.in-K23.is c.requires.fits (c.reads_cell.ensures page)

pub returns-in-K24 : goal.returns-in-K24
returns-in-K24 g c = λ page lies.
    let s = c.args.step in
    noted_quietly (ground_of c.args.sizes.now c.args.layouts.now) s.by c.args.known.now c.blackens.new.known c.args.holds.now.items c.args.history.now
    s.place s.act (found s.word page) c.args.kind K24 c.in-K24.is c.requires.fits (c.blackens.ensures page)
