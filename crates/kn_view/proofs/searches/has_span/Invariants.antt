use Rattle.std.proofs.Common.{◌≡◌, drop}
use Rattle.kn_rule.specs.Requests.{has_span}
use Rattle.kn_view.proofs.searches.has_span.Given as goal

abbrev pub invariant-loop-span : goal.invariant-loop-span
invariant-loop-span l = has_span l.words (drop l.span-index l.spans) ≡ has_span l.words l.spans
