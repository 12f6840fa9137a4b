use Rattle.std.proofs.Common.{arith}
use Rattle.kn_objects.proofs.Frames.{frame_within}
use Rattle.kn_replay.proofs.graph.Graph.is_legal_birth.Goals as goal

pub is_free-requires-clause-within : goal.is_free-requires-clause-within
is_free-requires-clause-within c =
    let frame = c.is_in_frame.ensures.is.0 c.if-not-is_in_frame.false in
    let within = frame_within c.self.inside.ground.sizes frame.frame frame.words frame.is_for_cells frame.is_frame in
    omega (arith, within, frame.inside.1, c.self.invariant.words)

pub returns : goal.returns
returns c =
    let frame = c.is_in_frame.ensures.is.0 c.if-not-is_in_frame.false in
    rw (← c.self.view_is) (
      λ t. record { in_frame = rw c.cell_size-len.ensures at frame; free = λ n lives. rw c.cell_size-len.ensures at (c.is_free.ensures.0 t n lives) },
      λ legal. c.is_free.ensures.1 (λ n lives. rw c.cell_size-len.ensures (legal.free n lives)),
    )
