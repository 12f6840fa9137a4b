use Rattle.std.proofs.Common.{◌+◌, ◌∙◌, ap, subst, sym}
use Rattle.kn_base.specs.Spans.{end_of}
use Rattle.kn_base.specs.SpanLists.{IsFreeListOf, without}
use Rattle.kn_base.proofs.Without.{apart_without}
use Rattle.kn_holds.specs.Holds.{Hold}
use Rattle.kn_ranges.specs.FreeSpans.{FreeSpans}
use Rattle.kn_holds.proofs.Places.{ends_within}
use Rattle.kn_holds.proofs.frames.FrameHold.cut.Goals as goal

pub end-self-inside-requires : goal.end-self-inside-requires
end-self-inside-requires c = ends_within 0 _ c.args.self.now.free.spans c.args.cell c.requires.list c.requires.inside

pub returns-clause-apart : goal.returns-clause-apart
returns-clause-apart c frame list =
    let same = ap (λ (hold : Hold). hold.free.spans) c.self.view_is in
    let kept = apart_without frame.start (end_of frame + 1) c.args.cell c.args.self.now.free.spans c.requires.word list in
    subst (IsFreeListOf frame) (sym (ap (λ (free : FreeSpans). free.spans) c.cut.ensures ∙ ap (without c.args.cell) same)) kept
