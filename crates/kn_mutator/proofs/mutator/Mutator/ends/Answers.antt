use Rattle.std.proofs.Common.{refl, sym, ap, subst}
use Rattle.kn_base.specs.declared.places.Place.TheVariants.{State}
use Rattle.kn_rule.specs.declared.steps.Action.TheVariants.{Stores}
use Rattle.kn_rule.specs.declared.steps.Kind.TheVariants.{K2}
use Rattle.kn_rule.specs.Steps.{does}
use Rattle.kn_steps.specs.Made.{Allowed}
use Rattle.kn_mutator.specs.Mutating.{Mutating}
use Rattle.kn_mutator.proofs.Homes.{ends_done, ends_goes}
use Rattle.kn_mutator.proofs.Needs.{alloc_agrees, ending_idle, ending_no_call, may_end}
use Rattle.kn_mutator.proofs.mutator.Mutator.ends.Goals as goal

pub put_home_turn-requires-clause-agrees : goal.put_home_turn-requires-clause-agrees
put_home_turn-requires-clause-agrees g c =
    let t = g.T.Steps in
    let m = c.args.self.now in
    let a = t.stand c.args.steps.now in
    let here = t.here c.args.steps.now in
    alloc_agrees m a here c.requires.agrees _ c.self.view_is

pub put_home_turn-requires-clause-idle : goal.put_home_turn-requires-clause-idle
put_home_turn-requires-clause-idle g c =
    let t = g.T.Steps in
    let m = c.args.self.now in
    let a = t.stand c.args.steps.now in
    let here = t.here c.args.steps.now in
    ending_idle m a here c.requires.agrees _ c.self.view_is c.requires.task

pub put_home_turn-requires-clause-no_call : goal.put_home_turn-requires-clause-no_call
put_home_turn-requires-clause-no_call g c =
    let t = g.T.Steps in
    let m = c.args.self.now in
    let a = t.stand c.args.steps.now in
    let here = t.here c.args.steps.now in
    ending_no_call m a here c.requires.agrees _ c.self.view_is c.requires.task

pub store-requires : goal.store-requires
store-requires g c =
    let t = g.T.Steps in
    let s = c.args.steps.now in
    let p = c.in-Done.ensures in
    subst (λ s. Allowed (t.stand s) (t.here s) (does K2 (State c.self.inside.by) (Stores 2))) (sym (p.still refl).0)
    (may_end c.args.self.now (t.stand s) (t.here s) c.requires.agrees _ c.self.view_is c.requires.task (p.done.0 refl) c.self.inside.by
    (ap (λ (q : Mutating). q.by) c.self.view_is))

pub returns-in-Moved : goal.returns-in-Moved
returns-in-Moved g c =
    let t = g.T.Steps in
    let p = c.in-Moved.ensures in
    ends_goes t.stand t.here t.did t.moved _ c.args.self.now c.self.view_is c.args.steps.now c.put_home_turn.new.steps c.requires.agrees
    c.put_home_turn.new.self p.agrees p.tells p.kept p.idle p.went c.requires.task

pub returns-in-Done : goal.returns-in-Done
returns-in-Done g c =
    let t = g.T.Steps in
    let p = c.in-Done.ensures in
    ends_done t.stand t.here t.did t.moved _ c.args.self.now c.self.view_is c.args.steps.now c.store.new.self c.requires.agrees
    c.put_home_turn.new.steps c.put_home_turn.new.self p.went (p.still refl) c.requires.task c.store.ensures c.goes_to.new.self c.goes_to.ensures
