use Rattle.kn_marking.proofs.Quiet.{place_passed, child_met, child_seen, child_marked, child_lost}
use Rattle.kn_marking.proofs.Steps.{child_won}
use Rattle.kn_marking.proofs.laws.child_laws.Goals as goal

pub returns-clause-passed : goal.returns-clause-passed
returns-clause-passed c = λ H e n mark set work pending by p m l em none. place_passed H e n mark set work pending m by l p em none

pub returns-clause-met : goal.returns-clause-met
returns-clause-met c = λ H e n mark set work pending by y m l names none. child_met H e n mark set work pending m by l y names none

pub returns-clause-seen : goal.returns-clause-seen
returns-clause-seen c = λ H e n mark set work pending by y m l is low. child_seen H e n mark set work pending m by l y is low

pub returns-clause-marked : goal.returns-clause-marked
returns-clause-marked c = λ H e n mark set work pending by y p m l is high em. child_marked H e n mark set work pending m by l y p is high em

pub returns-clause-grayed : goal.returns-clause-grayed
returns-clause-grayed c = λ H now e n mark set work pending by y v p sound m l is found em.
    child_won H sound now e n mark set work pending m by l y v p is found em

pub returns-clause-lost : goal.returns-clause-lost
returns-clause-lost c = λ H e n mark set work pending by y v p m l is other em. child_lost H e n mark set work pending m by l y v p is other em
