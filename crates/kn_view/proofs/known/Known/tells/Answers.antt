use Rattle.std.proofs.Common.{arith}
use Rattle.kn_view.proofs.Tellings.{done_small}
use Rattle.kn_view.proofs.known.Known.tells.Goals as goal

pub overflow_cast-reply : goal.overflow_cast-reply
overflow_cast-reply c = let small = done_small c.args.word c.requires.word in let done = c.requires.done in omega (arith, small, done)
