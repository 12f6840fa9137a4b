use Rattle.std.proofs.Common.{◌≡◌, sym, ap, ◌∙◌, subst}
use Rattle.kn_steps.specs.declared.turns.Turn.{Turn}
use Rattle.kn_mark.specs.declared.turn.MarkTurn.TheVariants.{Over}
use Rattle.kn_mark.specs.Kept.{Kept as MarkerKept}
use Rattle.kn_mark.specs.Agree.{Agrees as MarkerAgrees, HasRest}
use Rattle.kn_mark.specs.Turns.{IdleWhereNothing as MarkerIdle, Turned as MarkerTurned}
use Rattle.kn_collector.specs.declared.stage.Stage.{Stage}
use Rattle.kn_collector.specs.Kept.{Kept}
use Rattle.kn_collector.specs.Stages.{marked_stage}
use Rattle.kn_collector.specs.Agree.{MarksAt}
use Rattle.kn_collector.specs.Turns.{Goes}
use Rattle.kn_collector.proofs.Marked.{goes_marking}
use Rattle.kn_collector.proofs.collector.Collector.goes_on_marking.Goals as goal

pub turn-told-requires-clause-agrees : goal.turn-told-requires-clause-agrees
turn-told-requires-clause-agrees g c = λ _ _.
    let a = g.T.Steps.stand c.args.steps.now in
    let k : Kept = c.args.self.now in
    let marker = ap (λ (q : Kept). q.marker) c.self.view_is in
    subst (λ (m : MarkerKept). MarkerAgrees m a) (sym marker)
    (subst (λ (t : Stage). MarksAt t k a) c.requires.stage c.requires.agrees.marks).0

pub turn-told-requires-clause-layouts : goal.turn-told-requires-clause-layouts
turn-told-requires-clause-layouts g c = λ _ _.
    let layouts = ap (λ (q : Kept). q.layouts) c.self.view_is in
    c.requires.agrees.layouts ∙ (sym layouts ∙ sym c.deref.ensures.value)

pub returns : goal.returns
returns g c =
    let t = g.T.Steps in
    let k : Kept = c.args.self.now in
    let s = c.args.steps.now in
    let s' = c.turn-told.new.steps in
    let m = c.turn-told.new.self in
    let told = c.turn-told.result in
    let u = c.turn-told.ensures in
    let marker = ap (λ (q : Kept). q.marker) c.self.view_is in
    let k' : Kept = record k { stage = marked_stage told; marker = m } in
    let is : c.learns.new.self ≡ k' =
    c.learns.ensures.behind ∙ ap (λ (q : Kept). record q { stage = marked_stage told; marker = m }) c.self.view_is in
    subst (λ (q : Kept). Goes t.stand t.here t.did t.moved k s s' q c.learns.result) (sym is)
    (subst (λ (r : Turn). Goes t.stand t.here t.did t.moved k s s' k' r) (sym c.learns.ensures.answer)
    (goes_marking t.stand t.here t.did t.moved k s s' c.requires.agrees c.requires.stage m told
    (subst (λ (q : MarkerKept). MarkerTurned t.stand t.here t.did q s s' m told) marker u.turned) u.agrees u.one
    (subst (λ (q : MarkerKept). MarkerIdle t.stand t.here t.did t.moved q s s' told) marker u.idle) u.only
    (subst (λ (q : MarkerKept). told ≡ Over → HasRest q.work.epoch (t.stand s')) marker u.rest)))
