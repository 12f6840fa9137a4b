use Rattle.kn_marking.proofs.Ends.{idle, settles, aged_after, sound_after}
use Rattle.kn_marking.proofs.Rests.{rests}
use Rattle.kn_marking.proofs.laws.end_laws.Goals as goal

pub returns-clause-idle : goal.returns-clause-idle
returns-clause-idle c = λ H e n mark set work pending by m none l. idle H e n mark set work pending m none by l

pub returns-clause-settled : goal.returns-clause-settled
returns-clause-settled c = λ H now e n mark set work pending sound m none. settles H sound now e n mark set work pending m none

pub returns-clause-condemned : goal.returns-clause-condemned
returns-clause-condemned c = λ H now e n mark set work pending condemned sound m none pauses. (
  aged_after H sound now e n mark set work pending m none condemned pauses,
  sound_after H sound now e n mark set work pending m none condemned pauses,
)

pub returns-clause-rest : goal.returns-clause-rest
returns-clause-rest c = λ H e n mark set work some m. rests H e n mark set work some m
