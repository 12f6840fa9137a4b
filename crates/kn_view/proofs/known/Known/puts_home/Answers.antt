use Rattle.std.proofs.Common.{◌≡◌, ◌∙◌, ap, sym, slice_set, true, Some, None}
use Rattle.kn_base.specs.declared.places.Place.TheVariants.{Frame}
use Rattle.kn_rule.specs.Requests.{words_asked}
use Rattle.kn_rule.specs.Searches.{refuses_at}
use Rattle.kn_rule.specs.Outcomes.{home_at, home_if}
use Rattle.kn_view.specs.Parts.{Part, ground_of, view_with}
use Rattle.kn_view.specs.Told.{told}
use Rattle.kn_view.proofs.Answering.{searched, stands_at}
use Rattle.kn_view.proofs.known.Known.puts_home.Goals as goal

pub returns-then-refuses : goal.returns-then-refuses
returns-then-refuses c = λ a f o same free owned log owns.
    let z = ground_of c.args.sizes.now c.args.layouts.now in
    let k = c.args.frame in
    let p = Frame k in
    let call = c.in-Calling.call in
    let old = c.args.self.now in
    let v = view_with z old owned log in
    let part = record old { refused = slice_set old.refused k true } in
    let is_refused : refuses_at z call (words_asked z call) k (Some o) ≡ true =
    sym (c.refuses.ensures k o c.requires.frame same free) ∙ c.if-refuses.true in
    let at = stands_at _ old _ c.self.view_is c.in-Calling.is in
    let still = ap (λ (q : Part). q.position) c.rules_out.ensures ∙ at in
    searched z _ _ _ _ c.args.by call p a f part v c.rules_out.ensures (λ _. v.polled) (c.ends_search.ensures call p a f still) (slice_set owned k None) log
    ∙ ap (told c.args.history.now) (sym (ap (home_at z c.args.by v p a f) at
    ∙ (ap (λ x. home_if z c.args.by v p a f (refuses_at z call (words_asked z call) k x) call) owns
    ∙ ap (λ b. home_if z c.args.by v p a f b call) is_refused)))
