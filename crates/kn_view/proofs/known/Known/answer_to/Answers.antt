use Rattle.std.proofs.Common.{◌∙◌, ap, sym}
use Rattle.kn_rule.specs.Outcomes.{view_answer}
use Rattle.kn_view.specs.Parts.{Part, ground_of}
use Rattle.kn_view.proofs.known.Known.answer_to.Goals as goal

pub returns : goal.returns
returns c = λ v same.
    let z = ground_of c.args.sizes.now c.args.layouts.now in
    c.answer_alone.ensures v
    ∙ ap (λ l. view_answer z (record v { locals = l }) c.args.call) (ap (λ (q : Part). q.locals) c.self.view_is ∙ sym same)
