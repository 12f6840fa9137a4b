use Rattle.kn_mutator.specs.Mutating.{Mutating}
use Rattle.kn_mutator.proofs.Ones.{goes_any, goes_told}
use Rattle.std.proofs.Common.{◌≡◌, None, Some, subst}
use Rattle.kn_mutator.proofs.mutator.Mutator.enters.Goals as goal

pub enters_for_call-requires-clause-agrees : goal.enters_for_call-requires-clause-agrees
enters_for_call-requires-clause-agrees g c = c.requires.agrees

pub enters_for_call-requires-clause-task : goal.enters_for_call-requires-clause-task
enters_for_call-requires-clause-task g c = c.requires.task

pub enters_for_call-requires-clause-target : goal.enters_for_call-requires-clause-target
enters_for_call-requires-clause-target g c = subst (λ (m : Mutating). m.target ≡ None) c.self.view_is c.in-None.is

pub enters_for-requires-clause-agrees : goal.enters_for-requires-clause-agrees
enters_for-requires-clause-agrees g c = c.requires.agrees

pub enters_for-requires-clause-task : goal.enters_for-requires-clause-task
enters_for-requires-clause-task g c = c.requires.task

pub enters_for-requires-clause-target : goal.enters_for-requires-clause-target
enters_for-requires-clause-target g c = subst (λ (m : Mutating). m.target ≡ Some c.in-Some.target) c.self.view_is c.in-Some.is

pub returns-in-None : goal.returns-in-None
returns-in-None g c = goes_told c.enters_for_call.ensures

pub returns-in-Some : goal.returns-in-Some
returns-in-Some g c = goes_any c.enters_for.ensures
