use Rattle.std.proofs.Common.{arith}
use Rattle.kn_marking.proofs.Quiet.{header_read}
use Rattle.kn_marking.proofs.Steps.{began_epoch, gray_won, cell_black}
use Rattle.kn_marking.proofs.laws.cell_laws.Goals as goal

pub returns-clause-scanned : goal.returns-clause-scanned
returns-clause-scanned c = λ H now e n mark set work pending by x sound m l live free found. (
  began_epoch H sound now e n mark set work pending m by l x live free found,
  gray_won H sound now e n mark set work pending m by l x live free found,
)

pub returns-clause-read : goal.returns-clause-read
returns-clause-read c = λ H e n mark set work pending by x h p m l is em.
    header_read H e n mark set work pending m by l x h p is (λ k y below near f. em k y (omega arith) below near f)

pub returns-clause-black : goal.returns-clause-black
returns-clause-black c = λ H now e n mark set work pending by x h i sound m l is all none paid.
    cell_black H sound now e n mark set work pending m by l x h i is all none paid
