use Rattle.std.proofs.Common.{arith}
use Rattle.std.proofs.lemmas.Grind.{common_steps}
use Rattle.kn_io.proofs.ToldLemmas.{PassesLimit-piece}
use Rattle.kn_io.proofs.transfers.keep.Goals as goal

pub returns-then-piece-room-clause-too_long : goal.returns-then-piece-room-clause-too_long
returns-then-piece-room-clause-too_long c =
    PassesLimit-piece c.args.text.now.items c.args.piece.now c.args.limit c.line_after.result c.line_after-then-piece-room.result
    (grind (arith, common_steps)) (grind (arith, common_steps)) (cc) (cc)
