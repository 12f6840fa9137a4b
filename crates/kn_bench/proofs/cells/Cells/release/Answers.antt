use Rattle.std.proofs.Common.{◌<◌, ◌≡◌, List, Option, Some, length, refl, ap, sym, subst, ◌∙◌, arith}
use Rattle.std.specs.Prelude.{slice_get}
use Rattle.std.proofs.lemmas.Option.{slice_get_read}
use Rattle.kn_base.specs.declared.numbers.Span.{Span}
use Rattle.kn_ranges.specs.Cells.{AreOnCells}
use Rattle.kn_ranges.specs.FreeSpans.{FreeSpans}
use Rattle.kn_bench.proofs.Holding.{held_after_release}
use Rattle.kn_bench.proofs.cells.Cells.release.Goals as goal
use Rattle.kn_bench.proofs.cells.Cells.release.Goals.{In-Some}

-- the slot has the cell
in_slot : (c : In-Some) → (c.args.slot < length c.self.inside.slots.items) ×
    (slice_get c.self.inside.slots.items c.args.slot ≡ Some (Some c.in-Some.cell))
in_slot c =
    let items : List (Option Span) = c.self.inside.slots.items in
    let within : c.args.slot < length items = omega (arith, c.len.ensures, c.if-slot-len.false) in (
      within,
      slice_get_read items (length items) c.args.slot c.index.result.now refl within c.index.ensures
          ∙ ap (λ (o : Option Span). Some o) c.in-Some.is,
    )

pub put-requires-clause-room : goal.put-requires-clause-room
put-requires-clause-room c =
    let s = in_slot (goal.at.put-requires-clause-room c).In-Some in
    (c.cells_are_released.ensures c.self.inside.frame 2 c.self.inside.free c.in-Some.cell
    (omega arith) c.self.invariant.room c.self.invariant.on_cells
    (c.self.invariant.taken c.args.slot c.in-Some.cell s.1)).1

pub invariant_of-self : goal.invariant_of-self
invariant_of-self c =
    let frame = c.self.inside.frame in
    let old : FreeSpans = c.self.inside.free in
    let new : FreeSpans = c.put.new.self in
    let cell = c.in-Some.cell in
    let s = in_slot (goal.at.invariant_of-self c).In-Some in
    let after = c.put.ensures.after in
    let released = c.cells_are_released.ensures frame 2 old cell (omega arith) c.self.invariant.room c.self.invariant.on_cells
    (c.self.invariant.taken c.args.slot cell s.1) in
    held_after_release frame old new c.self.inside.slots.items c.args.slot c.self.invariant s.0 cell s.1 c.put.ensures.others
    (subst (AreOnCells frame 2) (sym (ap (λ (free : FreeSpans). free.spans) after)) released.0) (ap (λ (free : FreeSpans). free.room) after)
