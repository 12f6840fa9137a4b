use Rattle.kn_script.proofs.GrammarLemmas.{taken_or_bad, Takes-not_met, text_or_bad, IsText-not_bad, IsText-one}
use Rattle.kn_script.proofs.GoodLemmas.{texts_are_good}
use Rattle.kn_script.proofs.laws.state_laws.Goals as goal

pub returns-clause-lines : goal.returns-clause-lines
returns-clause-lines c = taken_or_bad

pub returns-clause-apart : goal.returns-clause-apart
returns-clause-apart c = Takes-not_met

pub returns-clause-texts : goal.returns-clause-texts
returns-clause-texts c = text_or_bad

pub returns-clause-texts_apart : goal.returns-clause-texts_apart
returns-clause-texts_apart c = IsText-not_bad

pub returns-clause-one : goal.returns-clause-one
returns-clause-one c = IsText-one

pub returns-clause-good : goal.returns-clause-good
returns-clause-good c = texts_are_good

pub returns-clause-grounds : goal.returns-clause-grounds
returns-clause-grounds c = λ s good. record { sizes = good.sizes; few_layouts = good.few_layouts; layouts = good.layouts }
