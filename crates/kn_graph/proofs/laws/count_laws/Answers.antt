use Rattle.kn_graph.proofs.PublicLaws.{passing_are_born, born_were_called, pauses_are_counted, dones_are_counted, births_are_counted}
use Rattle.kn_graph.proofs.PublicLaws.{releases_are_counted}
use Rattle.kn_graph.proofs.PublicLaws.{queueings_are_counted, finalizations_are_counted}
use Rattle.kn_graph.proofs.laws.count_laws.Goals as goal

pub returns : goal.returns
returns c = record {
  pauses = pauses_are_counted;
  dones = dones_are_counted;
  births = births_are_counted;
  called = born_were_called;
  releases = releases_are_counted;
  queueings = queueings_are_counted;
  finalizations = finalizations_are_counted;
  few = passing_are_born;
}
