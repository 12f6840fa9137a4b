use Rattle.kn_cms.specs.declared.words.TheConstants.{CORE_WORDS}
use Rattle.kn_commands.proofs.EndsApart.{ok_and_spent_apart}
use Rattle.kn_commands.proofs.cms.cms_law.Goals as goal

pub returns : goal.returns
returns c = ok_and_spent_apart (c.state_laws.ensures.one CORE_WORDS) c.one_run_law.ensures.runs
