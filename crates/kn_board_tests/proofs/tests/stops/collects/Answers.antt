use Rattle.kn_board_tests.proofs.tests.stops.collects.Goals as goal

pub loop-wanted-init : goal.loop-wanted-init
loop-wanted-init c = record { threads = c.requires.threads; agrees = c.requires.agrees; mutator = λ at target calls m. m }

pub loop-wanted-preserved : goal.loop-wanted-preserved
loop-wanted-preserved c = record {
  threads = c.collects_once-next.ensures.threads;
  agrees = c.collects_once-next.ensures.agrees;
  mutator = λ at target calls m. c.collects_once-next.ensures.mutator at target calls (c.loop-wanted.invariant.mutator at target calls m);
}
