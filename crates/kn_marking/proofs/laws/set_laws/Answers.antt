use Rattle.std.proofs.Common.{sym}
use Rattle.kn_marking.proofs.Quiet.{set_looked, set_missed, stale_lost}
use Rattle.kn_marking.proofs.Steps.{set_taken, set_finished}
use Rattle.kn_marking.proofs.laws.set_laws.Goals as goal

pub returns-clause-looked : goal.returns-clause-looked
returns-clause-looked c = λ H e n mark set work pending by j m l near. set_looked H e n mark set work pending m by l j (set j) near

pub returns-clause-missed : goal.returns-clause-missed
returns-clause-missed c = λ H e n mark set work pending by m l. set_missed H e n mark set work pending m by l

pub returns-clause-stale : goal.returns-clause-stale
returns-clause-stale c = λ H e n mark set work pending by j v m l is old is_v.
    let d = (m.fits by l).due j v is in stale_lost e (work by).epoch v (set j) old d.1 (m.sets j d.0) (sym is_v)

pub returns-clause-taken : goal.returns-clause-taken
returns-clause-taken c = λ H now e n mark set work pending by j v sound m l due free found.
    set_taken H sound now e n mark set work pending m by l j v due free found

pub returns-clause-finished : goal.returns-clause-finished
returns-clause-finished c = λ H now e n mark set work pending by j i sound m l is all none paid.
    set_finished H sound now e n mark set work pending m by l j i is all none paid
