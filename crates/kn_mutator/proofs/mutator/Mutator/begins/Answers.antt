use Rattle.std.proofs.Common.{◌≡◌, None, List, sym, ap, ◌∙◌, subst}
use Rattle.kn_layout.specs.declared.layouts.Layout.{Layout}
use Rattle.kn_graph.specs.Ground.{Ground}
use Rattle.kn_rule.specs.Outcomes.{view_answer}
use Rattle.kn_rule.specs.Rule.{fresh}
use Rattle.kn_rule.specs.Views.{View}
use Rattle.kn_view.specs.Parts.{ground_of}
use Rattle.kn_mutator.specs.Begun.{Begins}
use Rattle.kn_mutator.specs.Mutating.{Mutating}
use Rattle.kn_mutator.proofs.Begins.{begins_request, begins_said, begins_steps, requests}
use Rattle.kn_mutator.proofs.mutator.Mutator.begins.Goals as goal

pub returns-in-Some : goal.returns-in-Some
returns-in-Some c =
    let z : Ground = ground_of c.self.inside.sizes c.self.inside.layouts.items in
    let v : View = record (fresh z) { locals = c.self.inside.locals } in
    let is : c.answer_alone.result ≡ view_answer z v c.args.call =
    c.answer_alone.ensures v ∙ ap (λ (ls : List Layout). view_answer (ground_of c.self.inside.sizes ls) v c.args.call) c.as_slice.ensures.value in
    subst (λ (m : Mutating). Begins m c.args.call c.answers.new.self) c.self.view_is
    (begins_said _ c.args.call c.answers.new.self c.in-Some.reply (sym is ∙ c.in-Some.is) c.answers.ensures)

pub returns-in-Some-request_of : goal.returns-in-Some-request_of
returns-in-Some-request_of c =
    let z : Ground = ground_of c.self.inside.sizes c.self.inside.layouts.items in
    let v : View = record (fresh z) { locals = c.self.inside.locals } in
    let is : c.answer_alone.result ≡ view_answer z v c.args.call =
    c.answer_alone.ensures v ∙ ap (λ (ls : List Layout). view_answer (ground_of c.self.inside.sizes ls) v c.args.call) c.as_slice.ensures.value in
    let none : view_answer z v c.args.call ≡ None = sym is ∙ c.in-None.is in
    let sizes : c.self.inside.allocator.sizes ≡ c.self.inside.sizes =
    subst (λ (m : Mutating). m.alloc.sizes ≡ m.heap.sizes) (sym c.self.view_is) c.requires.ready.sizes in
    subst (λ (m : Mutating). Begins m c.args.call c.goes_to.new.self) c.self.view_is
    (begins_request _ c.args.call c.goes_to.new.self none c.in-Some-request_of.ensures.birth
    (requests _ c.args.call c.in-Some-request_of.request c.in-Some-request_of.ensures none sizes c.start.new.self c.start.ensures.started
    c.start.ensures.agrees c.start.ensures.gets c.start.ensures.kept c.goes_to.new.self c.goes_to.ensures))

pub returns-in-None-request_of : goal.returns-in-None-request_of
returns-in-None-request_of c =
    let z : Ground = ground_of c.self.inside.sizes c.self.inside.layouts.items in
    let v : View = record (fresh z) { locals = c.self.inside.locals } in
    let is : c.answer_alone.result ≡ view_answer z v c.args.call =
    c.answer_alone.ensures v ∙ ap (λ (ls : List Layout). view_answer (ground_of c.self.inside.sizes ls) v c.args.call) c.as_slice.ensures.value in
    subst (λ (m : Mutating). Begins m c.args.call c.goes_to-in-None-request_of.new.self) c.self.view_is
    (begins_steps _ c.args.call c.goes_to-in-None-request_of.new.self (sym is ∙ c.in-None.is) c.in-None-request_of.ensures
    c.goes_to-in-None-request_of.ensures)
