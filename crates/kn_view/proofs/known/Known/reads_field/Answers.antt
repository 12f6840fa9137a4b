use Rattle.std.proofs.Common.{◌≡◌, ◌∙◌, ap, arith, subst, sym}
use Rattle.kn_graph.specs.declared.calls.Reply.TheVariants as replies
use Rattle.kn_rule.specs.declared.positions.Position.TheVariants.{Between}
use Rattle.kn_rule.specs.Steps.{epoch_in, found, saying}
use Rattle.kn_rule.specs.Outcomes.{field_read}
use Rattle.kn_view.specs.Parts.{IsReadAs, view_with}
use Rattle.kn_view.specs.Told.{told}
use Rattle.kn_view.proofs.Answering.{answered, same_call, stands_at}
use Rattle.kn_view.proofs.known.Known.reads_field.Goals as goal

pub overflow_cast-word : goal.overflow_cast-word
overflow_cast-word c =
    let read = c.requires.read c.in-Calling.call (stands_at _ c.args.self.now _ c.self.view_is c.in-Calling.is) in
    let small = (subst (λ k. IsReadAs k c.args.word) c.in-Get.is read).1 in
    omega (arith, small)

pub reads_reference-requires-clause-local : goal.reads_reference-requires-clause-local
reads_reference-requires-clause-local c =
    let read = c.requires.read c.in-Calling.call (stands_at _ c.args.self.now _ c.self.view_is c.in-Calling.is) in
    (subst (λ k. IsReadAs k c.args.word) c.in-Get.is read).0

pub returns-in-Get : goal.returns-in-Get
returns-in-Get c = λ z p a page call at owned log.
    let v = c.args.self.now in
    let its = c.in-Calling.call in
    let f = found c.args.word page in
    let same : its ≡ call = same_call v.position its call (stands_at _ v _ c.self.view_is c.in-Calling.is) at in
    c.reads_reference.ensures z p a f (λ _. c.args.word) owned log
    ∙ ap (told c.args.history.now) (ap (field_read z c.args.by (view_with z v owned log) p a f) (sym c.in-Get.is ∙ same))

pub returns-in-Read : goal.returns-in-Read
returns-in-Read c = λ z p a page call at owned log.
    let v = c.args.self.now in
    let its = c.in-Calling.call in
    let f = found c.args.word page in
    let same : its ≡ call = same_call v.position its call (stands_at _ v _ c.self.view_is c.in-Calling.is) at in
    let u = view_with z (record v { position = Between }) owned log in
    answered z _ _ _ _ c.args.by its (replies.Int c.args.word) 0 (record v { position = Between }) c.stands.ensures (c.answers.ensures z) owned log
    ∙ ap (told c.args.history.now) (ap (λ k. saying c.args.by (epoch_in u) k (replies.Int c.args.word) 0 u) c.in-Read.is
    ∙ ap (field_read z c.args.by (view_with z v owned log) p a f) (sym c.in-Read.is ∙ same))
