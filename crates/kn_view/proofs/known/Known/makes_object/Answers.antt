use Rattle.std.proofs.Common.{◌∙◌, ap, sym}
use Rattle.kn_base.specs.declared.places.Place.TheVariants.{Side}
use Rattle.kn_graph.specs.Graph.{length_for}
use Rattle.kn_rule.specs.declared.positions.Position.TheVariants.{Calling}
use Rattle.kn_rule.specs.Outcomes.{born_at}
use Rattle.kn_view.specs.Parts.{view_with}
use Rattle.kn_view.specs.Told.{told}
use Rattle.kn_view.proofs.Answering.{stands_at}
use Rattle.kn_view.proofs.known.Known.makes_object.Goals as goal

pub returns-in-New : goal.returns-in-New
returns-in-New c = λ z a f owned log.
    let layout = c.in-New.field-1 in
    c.bears.ensures z a f layout (length_for z layout 0) owned log
    ∙ ap (told c.args.history.now) (sym (ap (born_at z c.args.by (view_with z c.args.self.now owned log) (Side c.args.address) a f)
    (stands_at _ _ _ c.self.view_is (c.in-Calling.is ∙ ap Calling c.in-New.is))))

pub returns-in-NewArray : goal.returns-in-NewArray
returns-in-NewArray c = λ z a f owned log.
    let layout = c.in-NewArray.field-1 in
    c.bears-in-NewArray.ensures z a f layout (length_for z layout c.in-NewArray.field-2) owned log
    ∙ ap (told c.args.history.now) (sym (ap (born_at z c.args.by (view_with z c.args.self.now owned log) (Side c.args.address) a f)
    (stands_at _ _ _ c.self.view_is (c.in-Calling.is ∙ ap Calling c.in-NewArray.is))))
