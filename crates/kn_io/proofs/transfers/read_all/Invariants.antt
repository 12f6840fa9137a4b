use Rattle.std.proofs.Common.{◌≡◌, ◌-◌, ◌≤◌, vec_len}
use Rattle.kn_io.specs.Told.{Gives}
use Rattle.kn_io.proofs.transfers.read_all.Given as goal

abbrev pub invariant-loop-n : goal.invariant-loop-n
invariant-loop-n g l = record {
  within : vec_len l.text ≤ l.limit;
  gives : Gives (g.S.Source.left l.fn.source) (g.S.Source.left l.source) l.text.items;
  without_fault : g.S.Source.faults l.source ≡ g.S.Source.faults l.fn.source;
}

abbrev pub decreases-loop-n : goal.decreases-loop-n
decreases-loop-n g l = l.limit - vec_len l.text
