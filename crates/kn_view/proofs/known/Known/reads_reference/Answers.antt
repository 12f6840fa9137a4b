use Rattle.std.proofs.Common.{◌∙◌, ap, sym, slice_set}
use Rattle.kn_rule.specs.declared.positions.Position.TheVariants.{Writing}
use Rattle.kn_rule.specs.Steps.{epoch_in, saying}
use Rattle.kn_rule.specs.Outcomes.{ref_read}
use Rattle.kn_view.specs.Parts.{Part, view_with}
use Rattle.kn_view.specs.Told.{told}
use Rattle.kn_view.proofs.Answering.{answered}
use Rattle.kn_view.proofs.known.Known.reads_reference.Goals as goal

pub returns : goal.returns
returns c = λ z p a f e owned log.
    let v = c.args.self.now in
    let r = c.args.r in
    let word = c.args.address in
    let part = record v { position = Writing r word 0; locals = slice_set v.locals r word } in
    let u = view_with z part owned log in
    answered z _ _ _ _ c.args.by c.args.call _ 0 part
    (c.stands.ensures ∙ ap (λ (q : Part). record q { position = Writing r word 0 }) c.sets_local.ensures) (c.answers.ensures z) owned log
    ∙ ap (told c.args.history.now) (ap (λ reply. saying c.args.by (epoch_in u) c.args.call reply 0 u) c.reply_to_reference.ensures
    ∙ ap (λ n. ref_read z c.args.by (view_with z v owned log) p a (record f { word = n }) c.args.call r) (sym e))
