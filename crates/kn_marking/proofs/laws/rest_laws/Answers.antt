use Rattle.kn_marking.proofs.Begins.{opens}
use Rattle.kn_marking.proofs.Rests.{rest_looked, rest_missed, rest_lost}
use Rattle.kn_marking.proofs.laws.rest_laws.Goals as goal

pub returns-clause-looked : goal.returns-clause-looked
returns-clause-looked c = λ sets e n set work by j v r l near. rest_looked sets e n set work r by l j v near

pub returns-clause-missed : goal.returns-clause-missed
returns-clause-missed c = λ sets e n set work by r l. (rest_lost sets e n set work r by l, rest_missed sets e n set work r by l)

pub returns-clause-begin : goal.returns-clause-begin
returns-clause-begin c = λ H now n mark set work rest low old. opens H now n mark set work rest low old
