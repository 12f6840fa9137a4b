use Rattle.kn_cms_rule.proofs.Turned.{done_exactly, idle_exactly}
use Rattle.kn_cms_rule.proofs.laws.turn_laws.Goals as goal

pub returns : goal.returns
returns c = record { idle = idle_exactly; done = done_exactly }
