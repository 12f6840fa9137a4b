use Rattle.std.proofs.Common.{◌≡◌}
use Rattle.kn_rule.specs.Searches.{done_from}
use Rattle.kn_view.proofs.known.Known.is_over.Given as goal

abbrev pub invariant-loop-number : goal.invariant-loop-number
invariant-loop-number l =
    done_from l.class l.self.seen l.self.refused l.from l.number ≡ done_from l.class l.self.seen l.self.refused l.from l.count
