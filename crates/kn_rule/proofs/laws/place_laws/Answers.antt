use Rattle.kn_rule.proofs.Indexes.{places_lie, words_are_set}
use Rattle.kn_rule.proofs.laws.place_laws.Goals as goal

pub returns : goal.returns
returns c = record { lie = places_lie; set = words_are_set }
