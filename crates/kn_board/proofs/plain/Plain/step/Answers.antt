use Rattle.std.proofs.Common.{arith}
use Rattle.kn_board.proofs.StepCalls.{within_call, lies_call, near_call, leaves_call, wide_call, pages_call, asks_call, short_call, sound_call, steps_call}
use Rattle.kn_board.proofs.plain.Plain.step.Goals as goal

pub index-i-requires : goal.index-i-requires
index-i-requires g c = let b = c.self.inside in (
  b.sizes,
  c.self.invariant.0.0.sizes,
  c.self.invariant.2,
  within_call g.P.FramePage.page b.sizes b.layouts.items b.words.items b.slots.items b.known.items b.holds.items b.history
      c.args.self.now c.self.view_is (c.self.invariant.0, c.self.invariant.1) c.args.by c.requires.caller
      c.args.kind c.args.place c.args.act c.requires.may,
)

pub index-word-requires : goal.index-word-requires
index-word-requires g c = let b = c.self.inside in
    let ok = b.words.ok.0 in let is = c.index-i.ensures b.sizes c.self.invariant.2 in
    let near = lies_call g.P.FramePage.page b.sizes b.layouts.items b.words.items b.slots.items b.known.items b.holds.items b.history
    c.args.self.now c.self.view_is (c.self.invariant.0, c.self.invariant.1) c.args.by c.requires.caller
    c.args.kind c.args.place c.args.act c.requires.may in
    omega arith

pub index_mut-requires : goal.index_mut-requires
index_mut-requires g c = let b = c.self.inside in
    let ok = b.words.ok.0 in let is = c.index-i.ensures b.sizes c.self.invariant.2 in
    let near = lies_call g.P.FramePage.page b.sizes b.layouts.items b.words.items b.slots.items b.known.items b.holds.items b.history
    c.args.self.now c.self.view_is (c.self.invariant.0, c.self.invariant.1) c.args.by c.requires.caller
    c.args.kind c.args.place c.args.act c.requires.may in
    omega arith

pub left_by-requires : goal.left_by-requires
left_by-requires g c = let b = c.self.inside in
    leaves_call g.P.FramePage.page b.sizes b.layouts.items b.words.items b.slots.items b.known.items b.holds.items b.history
    c.args.self.now c.self.view_is (c.self.invariant.0, c.self.invariant.1) c.args.by c.requires.caller
    c.args.kind c.args.place c.args.act c.requires.may
    c.index-word.result.now c.index-i.result (c.index-i.ensures b.sizes c.self.invariant.2) c.index-word.ensures

pub index_mut-known-requires : goal.index_mut-known-requires
index_mut-known-requires g c = let b = c.self.inside in
    let ok = b.known.ok.0 in
    let near = near_call g.P.FramePage.page b.sizes b.layouts.items b.words.items b.slots.items b.known.items b.holds.items b.history
    c.args.self.now c.self.view_is (c.self.invariant.0, c.self.invariant.1) c.args.by c.requires.caller
    c.args.kind c.args.place c.args.act c.requires.may in
    omega arith

pub notes-requires-clause-wide : goal.notes-requires-clause-wide
notes-requires-clause-wide g c = let b = c.self.inside in
    wide_call g.P.FramePage.page b.sizes b.layouts.items b.words.items b.slots.items b.known.items b.holds.items b.history
    c.args.self.now c.self.view_is (c.self.invariant.0, c.self.invariant.1) c.args.by c.requires.caller
    c.args.kind c.args.place c.args.act c.requires.may
    c.index-word.result.now c.index-i.result (c.index-i.ensures b.sizes c.self.invariant.2) c.index-word.ensures
    c.as_slice.result.now c.as_slice.ensures.value c.as_slice-2.result.now c.as_slice-2.ensures.value
    c.index_mut-known.result.now c.index_mut-known.ensures.value

pub notes-requires-clause-pages : goal.notes-requires-clause-pages
notes-requires-clause-pages g c = let b = c.self.inside in
    pages_call g.P.FramePage.page b.sizes b.layouts.items b.words.items b.slots.items b.known.items b.holds.items b.history
    c.args.self.now c.self.view_is (c.self.invariant.0, c.self.invariant.1) c.args.by c.requires.caller
    c.args.kind c.args.place c.args.act c.requires.may
    c.index-word.result.now c.index-i.result (c.index-i.ensures b.sizes c.self.invariant.2) c.index-word.ensures
    c.as_slice.result.now c.as_slice.ensures.value c.as_slice-2.result.now c.as_slice-2.ensures.value
    c.index_mut-known.result.now c.index_mut-known.ensures.value

pub notes-requires-clause-asks : goal.notes-requires-clause-asks
notes-requires-clause-asks g c = let b = c.self.inside in
    asks_call g.P.FramePage.page b.sizes b.layouts.items b.words.items b.slots.items b.known.items b.holds.items b.history
    c.args.self.now c.self.view_is (c.self.invariant.0, c.self.invariant.1) c.args.by c.requires.caller
    c.args.kind c.args.place c.args.act c.requires.may
    c.index-word.result.now c.index-i.result (c.index-i.ensures b.sizes c.self.invariant.2) c.index-word.ensures
    c.as_slice.result.now c.as_slice.ensures.value c.as_slice-2.result.now c.as_slice-2.ensures.value
    c.index_mut-known.result.now c.index_mut-known.ensures.value

pub notes-requires-clause-short : goal.notes-requires-clause-short
notes-requires-clause-short g c = let b = c.self.inside in
    short_call g.P.FramePage.page b.sizes b.layouts.items b.words.items b.slots.items b.known.items b.holds.items b.history
    c.args.self.now c.self.view_is (c.self.invariant.0, c.self.invariant.1) c.args.by c.requires.caller
    c.args.kind c.args.place c.args.act c.requires.may

pub invariant_of-self : goal.invariant_of-self
invariant_of-self g c = let b = c.self.inside in
    let after = sound_call g.P.FramePage.page b.sizes b.layouts.items b.words.items b.slots.items b.known.items b.holds.items b.history
    c.args.self.now c.self.view_is (c.self.invariant.0, c.self.invariant.1) c.args.by c.requires.caller
    c.args.kind c.args.place c.args.act c.requires.may
    c.index-word.result.now c.index-i.result (c.index-i.ensures b.sizes c.self.invariant.2) c.index-word.ensures
    c.as_slice.result.now c.as_slice.ensures.value c.as_slice-2.result.now c.as_slice-2.ensures.value
    c.index_mut-known.result.now c.index_mut-known.ensures.value
    c.notes.new.known c.notes.new.holds.items c.notes.new.history c.notes.ensures
    c.left_by.result c.left_by.ensures in
    (after.0, after.1, c.self.invariant.2)

pub returns : goal.returns
returns g c = let b = c.self.inside in
    steps_call g.P.FramePage.page b.sizes b.layouts.items b.words.items b.slots.items b.known.items b.holds.items b.history
    c.args.self.now c.self.view_is (c.self.invariant.0, c.self.invariant.1) c.args.by c.requires.caller
    c.args.kind c.args.place c.args.act c.requires.may
    c.index-word.result.now c.index-i.result (c.index-i.ensures b.sizes c.self.invariant.2) c.index-word.ensures
    c.as_slice.result.now c.as_slice.ensures.value c.as_slice-2.result.now c.as_slice-2.ensures.value
    c.index_mut-known.result.now c.index_mut-known.ensures.value
    c.notes.new.known c.notes.new.holds.items c.notes.new.history c.notes.ensures
    c.left_by.result c.left_by.ensures
