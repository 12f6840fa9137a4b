use Rattle.std.proofs.Common.{◌∙◌, ap, sym, Some}
use Rattle.kn_rule.specs.Steps.{found}
use Rattle.kn_rule.specs.Outcomes.{header_for_call, header_read, is_wanted}
use Rattle.kn_view.specs.Parts.{view_with}
use Rattle.kn_view.specs.Told.{told}
use Rattle.kn_view.proofs.Wanted.{wanted_same}
use Rattle.kn_view.proofs.known.Known.reads_header.Goals as goal

pub returns-in-None-kind_told : goal.returns-in-None-kind_told
returns-in-None-kind_told c = λ z p a page same owned log.
    let u = c.args.self.now in
    let v = view_with z u owned log in
    let f = found c.args.word page in
    let call = c.args.call in
    c.refuses_field.ensures z call c.requires.calling owned log
    ∙ ap (told c.args.history.now) (sym (ap (header_for_call z c.args.by v p a f call) (sym c.field_of.ensures ∙ c.in-Some.is)
    ∙ ap (λ k. header_read z c.args.by v p a f call k (is_wanted z c.args.by v p a f k c.in-Some.wanted))
    (sym (c.kind_told.ensures z same) ∙ c.in-None-kind_told.is)))

pub returns-else-eq : goal.returns-else-eq
returns-else-eq c = λ z p a page same owned log.
    let u = c.args.self.now in
    let v = view_with z u owned log in
    let f = found c.args.word page in
    let call = c.args.call in
    let kind = c.in-Some-kind_told.kind in
    c.refuses_field-else-eq.ensures z call c.requires.calling owned log
    ∙ ap (told c.args.history.now) (sym (ap (header_for_call z c.args.by v p a f call) (sym c.field_of.ensures ∙ c.in-Some.is)
    ∙ (ap (λ k. header_read z c.args.by v p a f call k (is_wanted z c.args.by v p a f k c.in-Some.wanted))
    (sym (c.kind_told.ensures z same) ∙ c.in-Some-kind_told.is)
    ∙ ap (header_read z c.args.by v p a f call (Some kind))
    (sym (wanted_same z c.args.by v p a f kind c.in-Some.wanted) ∙ (sym c.eq.ensures ∙ c.if-eq.false)))))
