use Rattle.std.proofs.Common.{◌∙◌, ap, sym}
use Rattle.kn_base.specs.declared.places.Place.TheVariants.{Phase}
use Rattle.kn_rule.specs.declared.positions.Position.TheVariants.{Between, Calling}
use Rattle.kn_rule.specs.declared.steps.Action.TheVariants.{LoadsFor}
use Rattle.kn_rule.specs.Steps.{found, quietly}
use Rattle.kn_rule.specs.Outcomes.{poll_run, begin_with}
use Rattle.kn_view.specs.Parts.{Part, ground_of, view_with}
use Rattle.kn_view.specs.Told.{told}
use Rattle.kn_view.proofs.Answering.{answered}
use Rattle.kn_view.proofs.Looked.{begun}
use Rattle.kn_view.proofs.known.Known.begins.Goals as goal

pub returns-in-None-answer_to : goal.returns-in-None-answer_to
returns-in-None-answer_to c = λ page owned log.
    let z = ground_of c.args.sizes.now c.args.layouts.now in
    let v = view_with z c.args.self.now owned log in
    let f = found c.args.word page in
    let call = c.in-Some.call in
    let a = LoadsFor c.args.next in
    let h = c.args.history.now in
    let same = sym (ap (λ (q : Part). q.locals) c.stands-in-Some.ensures ∙ ap (λ (q : Part). q.locals) c.counts.ensures) in
    ap (λ (q : Part). told h (quietly (view_with z q owned log)))
    (begun c.args.self.now _ _ c.args.word _ _ _ _ (Calling call) c.stands-in-Some.ensures c.counts.ensures c.requires.width
    c.makes_object.ensures)
    ∙ ap (told h) (sym (ap (poll_run z c.args.by v Phase a f) c.in-Some.is
    ∙ ap (begin_with z c.args.by v Phase a f call) (sym (c.answer_to.ensures v same) ∙ c.in-None-answer_to.is)))

pub returns-in-Some-answer_to : goal.returns-in-Some-answer_to
returns-in-Some-answer_to c = λ page owned log.
    let z = ground_of c.args.sizes.now c.args.layouts.now in
    let v = view_with z c.args.self.now owned log in
    let f = found c.args.word page in
    let call = c.in-Some.call in
    let a = LoadsFor c.args.next in
    let same = sym (ap (λ (q : Part). q.locals) c.stands-in-Some.ensures ∙ ap (λ (q : Part). q.locals) c.counts.ensures) in
    let between = c.stands-in-Some-answer_to.ensures ∙ ap (λ (q : Part). record q { position = Between }) c.stands-in-Some.ensures in
    answered z _ _ _ _ c.args.by call c.in-Some-answer_to.reply 0 _
    (begun c.args.self.now _ _ c.args.word _ _ _ _ Between between c.counts.ensures c.requires.width
    c.makes_object.ensures) (c.answers.ensures z) owned log
    ∙ ap (told c.args.history.now) (sym (ap (poll_run z c.args.by v Phase a f) c.in-Some.is
    ∙ ap (begin_with z c.args.by v Phase a f call) (sym (c.answer_to.ensures v same) ∙ c.in-Some-answer_to.is)))
