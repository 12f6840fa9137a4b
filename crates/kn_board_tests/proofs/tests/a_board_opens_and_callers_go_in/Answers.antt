use Rattle.kn_trace.proofs.FirstPages.{first_whole}
use Rattle.kn_board_tests.proofs.tests.a_board_opens_and_callers_go_in.Goals as goal

pub open-requires-clause-whole : goal.open-requires-clause-whole
open-requires-clause-whole g c = first_whole _ _ c.in_ok-pages.ensures
