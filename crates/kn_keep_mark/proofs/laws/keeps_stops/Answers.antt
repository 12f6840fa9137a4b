use Rattle.kn_keep_mark.proofs.PhaseLaws.{stop_or_mark_stored}
use Rattle.kn_keep_mark.proofs.laws.keeps_stops.Goals as goal

pub returns : goal.returns
returns c = λ z s by here w f good r collects m. stop_or_mark_stored z s r.0 r.1 by here collects f good w m
