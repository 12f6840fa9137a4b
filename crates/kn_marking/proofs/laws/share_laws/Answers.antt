use Rattle.kn_marking.proofs.Quiet.{epoch_seen}
use Rattle.kn_marking.proofs.laws.share_laws.Goals as goal

pub returns-clause-whole : goal.returns-clause-whole
returns-clause-whole c = λ H now e n mark set work work' pending pending' m s. record { next = m.next; colours = m.colours; closed = m.closed; shares = s }

pub returns-clause-seen : goal.returns-clause-seen
returns-clause-seen c = λ H e n mark set work pending by m l. epoch_seen H e n mark set work pending m by l
