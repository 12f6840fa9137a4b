use Rattle.std.proofs.Common.{◌<◌, sym, ◌∙◌, arith}
use Rattle.kn_base.specs.Sizes.{frame_count}
use Rattle.kn_rule.proofs.FrameSpans.{frame_at_is}
use Rattle.kn_board.proofs.WordFrames.{small_frame, large_frame, extra_frame}
use Rattle.kn_board.proofs.spans.frame_with.Goals as goal

pub overflow_cast-result-else-word-small-2 : goal.overflow_cast-result-else-word-small-2
overflow_cast-result-else-word-small-2 c =
    let z = c.args.sizes.now in let i = c.requires.inside in
    let few = c.requires.good.of_frames.frames.1 in let near : i.0 < frame_count z = i.1 in
    omega (arith, extra_frame z c.args.address i.0 i.1 i.2 c.if-word-small.false c.if-word-small-2.false)

pub returns-then-word-small : goal.returns-then-word-small
returns-then-word-small c =
    let z = c.args.sizes.now in let i = c.requires.inside in
    small_frame z c.args.address i.0 i.1 i.2 c.if-word-small.true ∙ sym (frame_at_is z c.requires.good c.args.address i.0 i.1 i.2)

pub returns-then-word-small-2 : goal.returns-then-word-small-2
returns-then-word-small-2 c =
    let z = c.args.sizes.now in let i = c.requires.inside in
    large_frame z c.args.address i.0 i.1 i.2 c.if-word-small.false c.if-word-small-2.true
    ∙ sym (frame_at_is z c.requires.good c.args.address i.0 i.1 i.2)

pub returns-else-word-small-2 : goal.returns-else-word-small-2
returns-else-word-small-2 c =
    let z = c.args.sizes.now in let i = c.requires.inside in
    extra_frame z c.args.address i.0 i.1 i.2 c.if-word-small.false c.if-word-small-2.false
    ∙ sym (frame_at_is z c.requires.good c.args.address i.0 i.1 i.2)
