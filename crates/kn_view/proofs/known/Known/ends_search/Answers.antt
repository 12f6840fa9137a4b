use Rattle.std.proofs.Common.{◌≡◌, ◌∙◌, ap, sym, true}
use Rattle.kn_graph.specs.declared.calls.Reply.TheVariants as replies
use Rattle.kn_rule.specs.declared.positions.Position.TheVariants.{Between}
use Rattle.kn_rule.specs.Outcomes.{full_if}
use Rattle.kn_rule.specs.Requests.{area_count, area_from}
use Rattle.kn_rule.specs.Searches.{done_from, is_over}
use Rattle.kn_view.specs.Parts.{ground_of, view_with}
use Rattle.kn_view.specs.Told.{told}
use Rattle.kn_view.proofs.Answering.{answered, same_call, stands_at}
use Rattle.kn_view.proofs.known.Known.ends_search.Goals as goal

pub returns-then-is_over : goal.returns-then-is_over
returns-then-is_over c = λ call p a f at owned log.
    let sizes = c.args.sizes.now in
    let z = ground_of sizes c.args.layouts.now in
    let v = c.args.self.now in
    let its = c.in-Calling.call in
    let same : its ≡ call = same_call v.position its call (stands_at _ v _ c.self.view_is c.in-Calling.is) at in
    let over : is_over z its v.seen v.refused ≡ true =
    ap (λ k. done_from k v.seen v.refused (area_from sizes k) (area_count sizes k)) (sym c.class_for.ensures)
    ∙ (sym c.is_over.ensures ∙ c.if-is_over.true) in
    answered z _ _ _ _ c.args.by its replies.Full 0 (record v { position = Between }) c.stands.ensures (c.answers.ensures z) owned log
    ∙ ap (told c.args.history.now) (sym (ap (λ b. full_if z c.args.by (view_with z v owned log) p a f b its (view_with z v owned log)) over)
    ∙ ap (λ k. full_if z c.args.by (view_with z v owned log) p a f (is_over z k v.seen v.refused) k (view_with z v owned log)) same)
