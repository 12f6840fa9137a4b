use Rattle.kn_rule.proofs.Decodings.{frame_packed, node_packed, header_packed}
use Rattle.kn_rule.proofs.laws.word_laws.Goals as goal

pub returns : goal.returns
returns c = record { frame = frame_packed; node = node_packed; header = header_packed }
