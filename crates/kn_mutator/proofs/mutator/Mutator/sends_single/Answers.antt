use Rattle.std.proofs.Common.{ap, sym, refl, ◌∙◌}
use Rattle.std.proofs.lemmas.Bool.{true≢false}
use Rattle.kn_alloc.specs.Keeps.{Keeps}
use Rattle.kn_mutator.proofs.Homes.{no_hands, single_goes, single_is_home}
use Rattle.kn_mutator.proofs.Needs.{alloc_agrees, single_idle, single_no_call, single_there}
use Rattle.kn_mutator.proofs.mutator.Mutator.sends_single.Goals as goal

pub put_home_turn-requires-clause-agrees : goal.put_home_turn-requires-clause-agrees
put_home_turn-requires-clause-agrees g c =
    let t = g.T.Steps in
    let m = c.args.self.now in
    let a = t.stand c.args.steps.now in
    let here = t.here c.args.steps.now in
    alloc_agrees m a here c.requires.agrees _ c.self.view_is

pub put_home_turn-requires-clause-idle : goal.put_home_turn-requires-clause-idle
put_home_turn-requires-clause-idle g c =
    let t = g.T.Steps in
    let m = c.args.self.now in
    let a = t.stand c.args.steps.now in
    let here = t.here c.args.steps.now in
    single_idle m a here c.requires.agrees _ c.self.view_is c.requires.task

pub put_home_turn-requires-clause-no_call : goal.put_home_turn-requires-clause-no_call
put_home_turn-requires-clause-no_call g c =
    let t = g.T.Steps in
    let m = c.args.self.now in
    let a = t.stand c.args.steps.now in
    let here = t.here c.args.steps.now in
    single_no_call m a here c.requires.agrees _ c.self.view_is c.requires.task

pub unreachable-requires : goal.unreachable-requires
unreachable-requires g c =
    let t = g.T.Steps in
    let m = c.args.self.now in
    let s = c.args.steps.now in
    let p = c.in-Done.ensures in
    let still = p.still refl in
    single_there m (t.stand s) (t.here s) c.requires.agrees _ c.self.view_is c.requires.task (sym (ap (λ (k : Keeps). k.stage) still.1) ∙ still.2)
    (no_hands t.stand t.here t.did t.moved _ m c.self.view_is s c.put_home_turn.new.steps c.requires.agrees c.put_home_turn.new.steps _ _ p.went)

pub returns-then-is_resting : goal.returns-then-is_resting
returns-then-is_resting g c =
    let t = g.T.Steps in
    let p = c.in-Moved.ensures in
    single_is_home t.stand t.here t.did t.moved _ c.args.self.now c.self.view_is c.args.steps.now c.put_home_turn.new.steps c.requires.agrees
    c.put_home_turn.new.self p.agrees p.tells p.kept p.idle p.went c.requires.task (c.if-is_resting.ensures.0 refl) c.goes_to.new.self c.goes_to.ensures

pub returns-else-is_resting : goal.returns-else-is_resting
returns-else-is_resting g c =
    let t = g.T.Steps in
    let p = c.in-Moved.ensures in
    single_goes t.stand t.here t.did t.moved _ c.args.self.now c.self.view_is c.args.steps.now c.put_home_turn.new.steps c.requires.agrees
    c.put_home_turn.new.self p.agrees p.tells p.kept p.idle p.went c.requires.task (λ e. true≢false (sym (c.if-is_resting.ensures.1 e)))
