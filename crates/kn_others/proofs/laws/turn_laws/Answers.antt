use Rattle.kn_others.proofs.Others.{others_stay, heap_stays}
use Rattle.kn_others.proofs.History.{history_grows}
use Rattle.kn_others.proofs.Swept.{none_comes_unswept}
use Rattle.kn_others.proofs.Start.{opened_is_swept}
use Rattle.kn_others.proofs.Meets.{none_is_met}
use Rattle.kn_others.proofs.laws.turn_laws.Goals as goal

pub returns : goal.returns
returns c = record {
  others = others_stay;
  heap = heap_stays;
  history = history_grows;
  unswept = none_comes_unswept;
  opened = opened_is_swept;
  met = none_is_met;
}
