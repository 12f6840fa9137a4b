use Rattle.kn_mutator.proofs.Core.{task_now}
use Rattle.kn_mutator.proofs.Ones.{goes_any, goes_told, stops_any}
use Rattle.kn_mutator.proofs.mutator.Mutator.goes_on.Goals as goal

pub returns-in-Out : goal.returns-in-Out
returns-in-Out g c = goes_any c.looks.ensures

pub returns-in-Helps : goal.returns-in-Helps
returns-in-Helps g c = goes_any c.helps.ensures

pub returns-in-GoesIn : goal.returns-in-GoesIn
returns-in-GoesIn g c = goes_any c.goes_in.ensures

pub returns-in-Polls : goal.returns-in-Polls
returns-in-Polls g c = goes_told c.polls.ensures

pub returns-in-Calls : goal.returns-in-Calls
returns-in-Calls g c = goes_any c.calls_at.ensures

pub returns-in-Births : goal.returns-in-Births
returns-in-Births g c = stops_any c.gets_cell.ensures

pub returns-in-Writes : goal.returns-in-Writes
returns-in-Writes g c = goes_any c.writes.ensures

pub returns-in-Waits : goal.returns-in-Waits
returns-in-Waits g c = goes_any c.waits.ensures

pub returns-in-SendsSingle : goal.returns-in-SendsSingle
returns-in-SendsSingle g c = goes_any c.sends_single.ensures

pub returns-in-Leaves : goal.returns-in-Leaves
returns-in-Leaves g c = goes_any c.leaves.ensures

pub returns-in-Ends : goal.returns-in-Ends
returns-in-Ends g c = goes_any c.ends.ensures

pub looks-requires-clause-agrees : goal.looks-requires-clause-agrees
looks-requires-clause-agrees g c = c.requires.agrees

pub looks-requires-clause-task : goal.looks-requires-clause-task
looks-requires-clause-task g c = task_now c.self.view_is c.in-Out.is

pub helps-requires-clause-agrees : goal.helps-requires-clause-agrees
helps-requires-clause-agrees g c = c.requires.agrees

pub helps-requires-clause-task : goal.helps-requires-clause-task
helps-requires-clause-task g c = task_now c.self.view_is c.in-Helps.is

pub goes_in-requires-clause-agrees : goal.goes_in-requires-clause-agrees
goes_in-requires-clause-agrees g c = c.requires.agrees

pub goes_in-requires-clause-task : goal.goes_in-requires-clause-task
goes_in-requires-clause-task g c = task_now c.self.view_is c.in-GoesIn.is

pub enters-requires-clause-agrees : goal.enters-requires-clause-agrees
enters-requires-clause-agrees g c = c.requires.agrees

pub enters-requires-clause-task : goal.enters-requires-clause-task
enters-requires-clause-task g c = task_now c.self.view_is c.in-Enters.is

pub polls-requires-clause-agrees : goal.polls-requires-clause-agrees
polls-requires-clause-agrees g c = c.requires.agrees

pub polls-requires-clause-task : goal.polls-requires-clause-task
polls-requires-clause-task g c = task_now c.self.view_is c.in-Polls.is

pub calls_at-requires-clause-agrees : goal.calls_at-requires-clause-agrees
calls_at-requires-clause-agrees g c = c.requires.agrees

pub calls_at-requires-clause-task : goal.calls_at-requires-clause-task
calls_at-requires-clause-task g c = task_now c.self.view_is c.in-Calls.is

pub gets_cell-requires-clause-agrees : goal.gets_cell-requires-clause-agrees
gets_cell-requires-clause-agrees g c = c.requires.agrees

pub gets_cell-requires-clause-task : goal.gets_cell-requires-clause-task
gets_cell-requires-clause-task g c = (_, task_now c.self.view_is c.in-Births.is)

pub writes-requires-clause-agrees : goal.writes-requires-clause-agrees
writes-requires-clause-agrees g c = c.requires.agrees

pub writes-requires-clause-task : goal.writes-requires-clause-task
writes-requires-clause-task g c = task_now c.self.view_is c.in-Writes.is

pub waits-requires-clause-agrees : goal.waits-requires-clause-agrees
waits-requires-clause-agrees g c = c.requires.agrees

pub waits-requires-clause-task : goal.waits-requires-clause-task
waits-requires-clause-task g c = task_now c.self.view_is c.in-Waits.is

pub sends_single-requires-clause-agrees : goal.sends_single-requires-clause-agrees
sends_single-requires-clause-agrees g c = c.requires.agrees

pub sends_single-requires-clause-task : goal.sends_single-requires-clause-task
sends_single-requires-clause-task g c = task_now c.self.view_is c.in-SendsSingle.is

pub leaves-requires-clause-agrees : goal.leaves-requires-clause-agrees
leaves-requires-clause-agrees g c = c.requires.agrees

pub leaves-requires-clause-task : goal.leaves-requires-clause-task
leaves-requires-clause-task g c = task_now c.self.view_is c.in-Leaves.is

pub ends-requires-clause-agrees : goal.ends-requires-clause-agrees
ends-requires-clause-agrees g c = c.requires.agrees

pub ends-requires-clause-task : goal.ends-requires-clause-task
ends-requires-clause-task g c = task_now c.self.view_is c.in-Ends.is

pub returns-in-Enters : goal.returns-in-Enters
returns-in-Enters g c = c.enters.ensures
