use Rattle.std.proofs.Common.{sym, ap, ◌∙◌}
use Rattle.kn_mutator.specs.Mutating.{Mutating}
use Rattle.kn_mutator.proofs.Born.{goes_on, is_born, is_full}
use Rattle.kn_mutator.proofs.Needs.{alloc_agrees, birth_in_range, birth_room, gets_turn, is_birth}
use Rattle.kn_mutator.proofs.mutator.Mutator.gets_cell.Goals as goal

pub turn-requires-clause-agrees : goal.turn-requires-clause-agrees
turn-requires-clause-agrees g c =
    let t = g.T.Steps in
    let m = c.args.self.now in
    let a = t.stand c.args.steps.now in
    let here = t.here c.args.steps.now in
    alloc_agrees m a here c.requires.agrees _ c.self.view_is

pub turn-requires-clause-under_way : goal.turn-requires-clause-under_way
turn-requires-clause-under_way g c =
    let t = g.T.Steps in
    let m = c.args.self.now in
    let a = t.stand c.args.steps.now in
    let here = t.here c.args.steps.now in
    gets_turn m a here c.requires.agrees _ c.self.view_is c.requires.task.0 c.requires.task.1

pub answers-requires : goal.answers-requires
answers-requires g c =
    let t = g.T.Steps in
    let m = c.args.self.now in
    let a = t.stand c.args.steps.now in
    let here = t.here c.args.steps.now in
    birth_room m a here c.requires.agrees _ c.self.view_is c.requires.task.0 c.requires.task.1

pub bears-requires-clause-room : goal.bears-requires-clause-room
bears-requires-clause-room g c =
    let t = g.T.Steps in
    let m = c.args.self.now in
    let a = t.stand c.args.steps.now in
    let here = t.here c.args.steps.now in
    birth_room m a here c.requires.agrees _ c.self.view_is c.requires.task.0 c.requires.task.1

pub bears-requires-clause-in_range : goal.bears-requires-clause-in_range
bears-requires-clause-in_range g c =
    let t = g.T.Steps in
    let m = c.args.self.now in
    let a = t.stand c.args.steps.now in
    let here = t.here c.args.steps.now in
    let task = ap (λ (q : Mutating). q.task) (sym c.self.view_is) ∙ c.birth-call-in-Born.ensures in
    birth_in_range m a here c.requires.agrees _ c.self.view_is c.birth-call-in-Born.result task

pub bears-requires-clause-birth : goal.bears-requires-clause-birth
bears-requires-clause-birth g c =
    let t = g.T.Steps in
    let m = c.args.self.now in
    let a = t.stand c.args.steps.now in
    let here = t.here c.args.steps.now in
    let task = ap (λ (q : Mutating). q.task) (sym c.self.view_is) ∙ c.birth-call-in-Born.ensures in
    is_birth m a here c.requires.agrees _ c.self.view_is c.birth-call-in-Born.result task

pub returns-in-Moved : goal.returns-in-Moved
returns-in-Moved g c =
    let t = g.T.Steps in
    let p = c.in-Moved.ensures in
    goes_on t.stand t.here t.did t.moved _ c.args.self.now c.self.view_is c.args.steps.now c.turn.new.steps c.requires.agrees c.requires.task.0
    c.requires.task.1 c.turn.new.self p.kept p.turned p.tells p.agrees p.unswept p.behind

pub returns-in-Full : goal.returns-in-Full
returns-in-Full g c =
    let t = g.T.Steps in
    let p = c.in-Full.ensures in
    let task = ap (λ (q : Mutating). q.task) (sym c.self.view_is) ∙ c.birth-call.ensures in
    is_full t.stand t.here t.did t.moved _ c.args.self.now c.self.view_is c.args.steps.now c.turn.new.steps c.requires.agrees c.birth-call.result
    task c.turn.new.self p.kept p.turned p.tells p.agrees p.behind c.answers.new.self c.answers.ensures

pub returns-in-Born : goal.returns-in-Born
returns-in-Born g c =
    let t = g.T.Steps in
    let p = c.in-Born.ensures in
    let task = ap (λ (q : Mutating). q.task) (sym c.self.view_is) ∙ c.birth-call-in-Born.ensures in
    is_born t.stand t.here t.did t.moved _ c.args.self.now c.self.view_is c.args.steps.now c.turn.new.steps c.requires.agrees c.birth-call-in-Born.result
    task c.turn.new.self p.kept c.in-Born.address p.turned p.tells p.agrees p.behind p.one c.bears.new.self c.bears.ensures
