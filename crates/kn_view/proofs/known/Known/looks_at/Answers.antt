use Rattle.std.proofs.Common.{◌≡◌, ◌∙◌, ap, false, sym, slice_set, subst, Some}
use Rattle.kn_base.specs.declared.places.Place.TheVariants.{Frame}
use Rattle.kn_rule.specs.Requests.{class_asked, area_count, area_from}
use Rattle.kn_rule.specs.Searches.{is_done_with, is_over}
use Rattle.kn_rule.specs.Steps.{found, quietly}
use Rattle.kn_rule.specs.Outcomes.{full_if, looked_at}
use Rattle.kn_view.specs.Parts.{IsSearched, Part, ground_of, view_with}
use Rattle.kn_view.specs.Told.{told}
use Rattle.kn_view.proofs.Answering.{searched, stands_at}
use Rattle.kn_view.proofs.Searching.{not_done}
use Rattle.kn_view.proofs.known.Known.looks_at.Goals as goal

pub returns-then-sees : goal.returns-then-sees
returns-then-sees c = λ a page owned log.
    let z = ground_of c.args.sizes.now c.args.layouts.now in
    let f = found c.args.word page in
    let p = Frame c.args.frame in
    let old = c.args.self.now in
    let v = view_with z old owned log in
    let part = record old { seen = slice_set old.seen c.args.frame (Some c.args.word) } in
    let at = stands_at _ old _ c.self.view_is c.in-Calling.is in
    let call = c.in-Calling.field-0 in
    let still = ap (λ (q : Part). q.position) c.sees.ensures.seen ∙ at in
    searched z _ _ _ _ c.args.by call p a f part v c.sees.ensures.seen (λ _. v.polled) (c.ends_search.ensures call p a f still) owned log
    ∙ ap (told c.args.history.now) (sym (ap (looked_at z c.args.by v p a f) at))

pub returns-else-sees : goal.returns-else-sees
returns-else-sees c = λ a page owned log.
    let z = ground_of c.args.sizes.now c.args.layouts.now in
    let f = found c.args.word page in
    let p = Frame c.args.frame in
    let old = c.args.self.now in
    let v = view_with z old owned log in
    let part = record old { seen = slice_set old.seen c.args.frame (Some c.args.word) } in
    let call = c.in-Calling.field-0 in
    let class = class_asked z call in
    let last = c.last_beside.result in
    let at = stands_at _ old _ c.self.view_is c.in-Calling.is in
    let beside = c.last_beside.ensures.last class (subst (λ q. IsSearched z c.args.frame q) at c.requires.area) in
    let unseen : is_done_with class part.seen part.refused last ≡ false =
    sym (ap (λ (q : Part). is_done_with class q.seen q.refused last) c.sees.ensures.seen) ∙ c.sees.ensures.last class c.if-sees.false in
    let going : is_over z call part.seen part.refused ≡ false =
    not_done class part.seen part.refused (area_from z.sizes class) (area_count z.sizes class) last beside unseen in
    ap (λ (q : Part). told c.args.history.now (quietly (view_with z q owned log))) c.sees.ensures.seen
    ∙ ap (told c.args.history.now) (sym (ap (looked_at z c.args.by v p a f) at
    ∙ ap (λ b. full_if z c.args.by v p a f b call (view_with z part owned log)) going))
