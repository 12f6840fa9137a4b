use Rattle.std.proofs.Common.{refl}
use Rattle.kn_mutator.proofs.Built.{no_other}
use Rattle.kn_mutator.proofs.Calling.{calls_at, is_built, task_as}
use Rattle.kn_mutator.proofs.mutator.Mutator.calls_at.Goals as goal

pub copies-requires-clause-agrees : goal.copies-requires-clause-agrees
copies-requires-clause-agrees g c = c.requires.agrees

pub copies-requires-clause-task : goal.copies-requires-clause-task
copies-requires-clause-task g c = (_, task_as c.requires.task c.in-Copy.is refl)

pub clears-requires-clause-agrees : goal.clears-requires-clause-agrees
clears-requires-clause-agrees g c = c.requires.agrees

pub clears-requires-clause-task : goal.clears-requires-clause-task
clears-requires-clause-task g c = (_, task_as c.requires.task c.in-Clear.is refl)

pub reads_header-requires-clause-agrees : goal.reads_header-requires-clause-agrees
reads_header-requires-clause-agrees g c = c.requires.agrees

pub reads_header-requires-clause-task : goal.reads_header-requires-clause-task
reads_header-requires-clause-task g c = task_as c.requires.task c.in-Get.is c.in-None.is

pub reads_header-requires-clause-field : goal.reads_header-requires-clause-field
reads_header-requires-clause-field g c = (_, _, refl)

pub gets-requires-clause-agrees : goal.gets-requires-clause-agrees
gets-requires-clause-agrees g c = c.requires.agrees

pub gets-requires-clause-task : goal.gets-requires-clause-task
gets-requires-clause-task g c = (_, task_as c.requires.task c.in-Get.is c.in-Some.is)

pub reads_header-requires-in-None-header-clause-agrees : goal.reads_header-requires-in-None-header-clause-agrees
reads_header-requires-in-None-header-clause-agrees g c = c.requires.agrees

pub reads_header-requires-in-None-header-clause-task : goal.reads_header-requires-in-None-header-clause-task
reads_header-requires-in-None-header-clause-task g c = task_as c.requires.task c.in-Set.is c.in-None-header.is

pub reads_header-requires-in-None-header-clause-field : goal.reads_header-requires-in-None-header-clause-field
reads_header-requires-in-None-header-clause-field g c = (_, _, refl)

pub sets-requires-clause-agrees : goal.sets-requires-clause-agrees
sets-requires-clause-agrees g c = c.requires.agrees

pub sets-requires-clause-task : goal.sets-requires-clause-task
sets-requires-clause-task g c = (_, task_as c.requires.task c.in-Set.is c.in-Some-header.is)

pub reads_header-requires-in-None-header-2-clause-agrees : goal.reads_header-requires-in-None-header-2-clause-agrees
reads_header-requires-in-None-header-2-clause-agrees g c = c.requires.agrees

pub reads_header-requires-in-None-header-2-clause-task : goal.reads_header-requires-in-None-header-2-clause-task
reads_header-requires-in-None-header-2-clause-task g c = task_as c.requires.task c.in-Put.is c.in-None-header-2.is

pub reads_header-requires-in-None-header-2-clause-field : goal.reads_header-requires-in-None-header-2-clause-field
reads_header-requires-in-None-header-2-clause-field g c = (_, _, refl)

pub puts-requires-clause-agrees : goal.puts-requires-clause-agrees
puts-requires-clause-agrees g c = c.requires.agrees

pub puts-requires-clause-task : goal.puts-requires-clause-task
puts-requires-clause-task g c = (_, task_as c.requires.task c.in-Put.is c.in-Some-header-2.is)

pub reads_header-requires-in-None-header-3-clause-agrees : goal.reads_header-requires-in-None-header-3-clause-agrees
reads_header-requires-in-None-header-3-clause-agrees g c = c.requires.agrees

pub reads_header-requires-in-None-header-3-clause-task : goal.reads_header-requires-in-None-header-3-clause-task
reads_header-requires-in-None-header-3-clause-task g c = task_as c.requires.task c.in-Read.is c.in-None-header-3.is

pub reads_header-requires-in-None-header-3-clause-field : goal.reads_header-requires-in-None-header-3-clause-field
reads_header-requires-in-None-header-3-clause-field g c = (_, _, refl)

pub reads-requires-clause-agrees : goal.reads-requires-clause-agrees
reads-requires-clause-agrees g c = c.requires.agrees

pub reads-requires-clause-task : goal.reads-requires-clause-task
reads-requires-clause-task g c = (_, task_as c.requires.task c.in-Read.is c.in-Some-header-3.is)

pub sets_global-requires-clause-agrees : goal.sets_global-requires-clause-agrees
sets_global-requires-clause-agrees g c = c.requires.agrees

pub sets_global-requires-clause-task : goal.sets_global-requires-clause-task
sets_global-requires-clause-task g c = (_, task_as c.requires.task c.in-GlobalSet.is refl)

pub gets_global-requires-clause-agrees : goal.gets_global-requires-clause-agrees
gets_global-requires-clause-agrees g c = c.requires.agrees

pub gets_global-requires-clause-task : goal.gets_global-requires-clause-task
gets_global-requires-clause-task g c = (_, task_as c.requires.task c.in-GlobalGet.is refl)

pub collects-requires-clause-agrees : goal.collects-requires-clause-agrees
collects-requires-clause-agrees g c = c.requires.agrees

pub collects-requires-clause-task : goal.collects-requires-clause-task
collects-requires-clause-task g c = (_, task_as c.requires.task c.in-Collect.is refl)

pub unreachable-requires : goal.unreachable-requires
unreachable-requires g c =
    let m = c.args.self.now in
    let a = g.T.Steps.stand c.args.steps.now in
    let here = g.T.Steps.here c.args.steps.now in
    let at = calls_at m a here c.requires.agrees c.args.call c.args.header c.requires.task in
    let o = c.in_default in
    no_other m c.args.call (is_built m a here c.requires.agrees c.args.call c.args.header c.requires.task) at.no_birth at.not_alone
    o.not-Copy o.not-Clear o.not-Get o.not-Set o.not-Put o.not-Read o.not-GlobalSet o.not-GlobalGet o.not-Collect

pub returns-in-Copy : goal.returns-in-Copy
returns-in-Copy g c = c.copies.ensures

pub returns-in-Clear : goal.returns-in-Clear
returns-in-Clear g c = c.clears.ensures

pub returns-in-GlobalSet : goal.returns-in-GlobalSet
returns-in-GlobalSet g c = c.sets_global.ensures

pub returns-in-GlobalGet : goal.returns-in-GlobalGet
returns-in-GlobalGet g c = c.gets_global.ensures

pub returns-in-Collect : goal.returns-in-Collect
returns-in-Collect g c = c.collects.ensures

pub returns-in-None : goal.returns-in-None
returns-in-None g c = c.reads_header.ensures

pub returns-in-Some : goal.returns-in-Some
returns-in-Some g c = c.gets.ensures

pub returns-in-None-header : goal.returns-in-None-header
returns-in-None-header g c = c.reads_header-in-None-header.ensures

pub returns-in-Some-header : goal.returns-in-Some-header
returns-in-Some-header g c = c.sets.ensures

pub returns-in-None-header-2 : goal.returns-in-None-header-2
returns-in-None-header-2 g c = c.reads_header-in-None-header-2.ensures

pub returns-in-Some-header-2 : goal.returns-in-Some-header-2
returns-in-Some-header-2 g c = c.puts.ensures

pub returns-in-None-header-3 : goal.returns-in-None-header-3
returns-in-None-header-3 g c = c.reads_header-in-None-header-3.ensures

pub returns-in-Some-header-3 : goal.returns-in-Some-header-3
returns-in-Some-header-3 g c = c.reads.ensures
