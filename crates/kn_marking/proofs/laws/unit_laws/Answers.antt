use Rattle.std.proofs.Common.{◌≤◌, arith}
use Rattle.kn_marking.specs.Marking.{credits}
use Rattle.kn_marking.proofs.Quiet.{unit_added, units_below, unit_given, few_open}
use Rattle.kn_marking.proofs.laws.unit_laws.Goals as goal

pub returns-clause-added : goal.returns-clause-added
returns-clause-added c = λ H e n mark set work pending by y v m l is paid. unit_added H e n mark set work pending m by l y v is paid

pub returns-clause-given : goal.returns-clause-given
returns-clause-given c = λ H e n mark set work pending by m l some.
    let u : credits (work by) ≤ pending = units_below H e n mark set work pending m by l in
    (omega arith, unit_given H e n mark set work pending m by l some)

pub returns-clause-few : goal.returns-clause-few
returns-clause-few c = λ H e n mark set work pending m. few_open H e n mark set work pending m
