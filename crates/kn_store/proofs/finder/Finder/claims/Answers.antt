use Rattle.std.proofs.Common.{◌≡◌, ℕ, ◌<◌, ◌==◌, Bool, true, cond, refl, ap, sym, ◌∙◌, subst, ne_eqb}
use Rattle.kn_base.specs.Sizes.{frame_count}
use Rattle.kn_base.specs.declared.places.Place.TheVariants.{Frame}
use Rattle.kn_rule.specs.declared.steps.Action.TheVariants.{Swaps}
use Rattle.kn_rule.specs.declared.steps.Kind.TheVariants.{K10}
use Rattle.kn_rule.specs.Allowed.{MayClaim}
use Rattle.kn_rule.specs.Steps.{does, found, logged}
use Rattle.kn_rule.specs.Outcomes.{claimed_if}
use Rattle.kn_base.specs.Functions.{upd}
use Rattle.kn_base.proofs.Updates.{upd_same}
use Rattle.kn_steps.specs.Made.{LieAs}
use Rattle.kn_store.specs.Search.{GoesOn, IsOver, Search, saw_again}
use Rattle.kn_store.specs.Agree.{Agrees}
use Rattle.kn_store.proofs.Goings.{agrees_still, found_packs, full_where, shows}
use Rattle.kn_store.proofs.Sights.{sees_again}
use Rattle.kn_store.proofs.finder.Finder.claims.Goals as goal
use Rattle.kn_store.proofs.Claims.{may_claim, near}

pub swap_if-requires : goal.swap_if-requires
swap_if-requires g c =
    let a = g.T.Steps.stand c.args.steps.now in
    subst (λ p. MayClaim a.heap a.by a.view (g.T.Steps.here c.args.steps.now) (Frame p) (Swaps c.args.seen.word c.claimed_word-new.result))
    (sym c.frame-frame.ensures)
    (may_claim c.args.self.now a (g.T.Steps.here c.args.steps.now) c.requires.agrees c.args.number c.claimed_word-new.result c.args.seen
    c.requires.best c.claimed_word-new.ensures)

pub sees_again-requires-clause-packs : goal.sees_again-requires-clause-packs
sees_again-requires-clause-packs g c =
    let m = c.args.self.now in
    let a = g.T.Steps.stand c.args.steps.now in
    let h = c.in-Err.ensures.made in
    let d = does K10 (Frame c.frame-frame.result) (Swaps c.args.seen.word c.claimed_word-new.result) in
    found_packs a (g.T.Steps.stand c.swap_if.new.self) (g.T.Steps.here c.args.steps.now) (g.T.Steps.here c.swap_if.new.self) d
    (found c.in-Err.word h.0) c.frame-frame.result h.1 (refl {a = Frame c.frame-frame.result})
    (subst (λ k. k < frame_count a.heap.sizes) (sym c.frame-frame.ensures) (near m a c.requires.agrees c.args.number c.requires.best.near))

pub returns-in-Err-clause-agrees : goal.returns-in-Err-clause-agrees
returns-in-Err-clause-agrees g c = λ e.
    let m = c.args.self.now in
    let a = g.T.Steps.stand c.args.steps.now in
    let w = c.in-Err.word in
    let h = c.in-Err.ensures.made in
    let act = Swaps c.args.seen.word c.claimed_word-new.result in
    let open_still = subst (GoesOn c.sees_again.new.self) e c.goes_on.ensures in
    let lost = ne_eqb w c.args.seen.word c.in-Err.ensures.tells in
    subst (λ (q : Search). Agrees q (g.T.Steps.stand c.swap_if.new.self)) (sym c.sees_again.ensures)
    (agrees_still m (saw_again m c.args.number c.args.seen w) a (g.T.Steps.stand c.swap_if.new.self) c.requires.agrees c.args.number
    act (found w h.0) refl refl refl refl
    (sees_again m a.view.seen a.view.refused c.requires.agrees.same w c.args.number c.args.seen c.requires.best.near c.requires.best.at)
    (h.1.view ∙ (λ t. record a { view = logged (claimed_if a.heap a.by a.view (Frame (c.frame-frame.ensures t)) act (found w h.0) (lost t)) }))
    (λ o. open_still (subst IsOver (sym c.sees_again.ensures) o)))

pub returns-in-Err-clause-saw : goal.returns-in-Err-clause-saw
returns-in-Err-clause-saw g c = λ e.
    let m = c.args.self.now in
    let a = g.T.Steps.stand c.args.steps.now in
    let here = g.T.Steps.here c.args.steps.now in
    let here' = g.T.Steps.here c.swap_if.new.self in
    let b = g.T.Steps.stand c.swap_if.new.self in
    let w = c.in-Err.word in
    let h = c.in-Err.ensures.made in
    let act = Swaps c.args.seen.word c.claimed_word-new.result in
    let going = subst (GoesOn c.sees_again.new.self) e c.goes_on.ensures in
    let lost = ne_eqb w c.args.seen.word c.in-Err.ensures.tells in
    let stay : upd here c.frame-frame.result (cond (w == c.args.seen.word) true (here c.frame-frame.result)) ≡ here =
    upd_same here c.frame-frame.result (cond (w == c.args.seen.word) true (here c.frame-frame.result))
    (ap (λ x. cond x true (here c.frame-frame.result)) lost) in
    (shows m (saw_again m c.args.number c.args.seen w) a b c.requires.agrees c.args.number act (found w h.0) refl refl refl refl
    (sees_again m a.view.seen a.view.refused c.requires.agrees.same w c.args.number c.args.seen c.requires.best.near c.requires.best.at)
    (h.1.view ∙ (λ t. record a { view = logged (claimed_if a.heap a.by a.view (Frame (c.frame-frame.ensures t)) act (found w h.0) (lost t)) }))
    here here' (subst (λ (h : ℕ → Bool). LieAs b.view h here') stay h.1.lies)).0 (λ o. going (subst IsOver (sym c.sees_again.ensures) o))

pub returns-in-Err-clause-ended : goal.returns-in-Err-clause-ended
returns-in-Err-clause-ended g c = λ e.
    let m = c.args.self.now in
    let a = g.T.Steps.stand c.args.steps.now in
    let here = g.T.Steps.here c.args.steps.now in
    let here' = g.T.Steps.here c.swap_if.new.self in
    let b = g.T.Steps.stand c.swap_if.new.self in
    let w = c.in-Err.word in
    let h = c.in-Err.ensures.made in
    let act = Swaps c.args.seen.word c.claimed_word-new.result in
    let going = subst (GoesOn c.sees_again.new.self) e c.goes_on.ensures in
    let lost = ne_eqb w c.args.seen.word c.in-Err.ensures.tells in
    let stay : upd here c.frame-frame.result (cond (w == c.args.seen.word) true (here c.frame-frame.result)) ≡ here =
    upd_same here c.frame-frame.result (cond (w == c.args.seen.word) true (here c.frame-frame.result))
    (ap (λ x. cond x true (here c.frame-frame.result)) lost) in
    (shows m (saw_again m c.args.number c.args.seen w) a b c.requires.agrees c.args.number act (found w h.0) refl refl refl refl
    (sees_again m a.view.seen a.view.refused c.requires.agrees.same w c.args.number c.args.seen c.requires.best.near c.requires.best.at)
    (h.1.view ∙ (λ t. record a { view = logged (claimed_if a.heap a.by a.view (Frame (c.frame-frame.ensures t)) act (found w h.0) (lost t)) }))
    here here' (subst (λ (h : ℕ → Bool). LieAs b.view h here') stay h.1.lies)).1 (subst IsOver c.sees_again.ensures going)

pub returns-in-Err-clause-full : goal.returns-in-Err-clause-full
returns-in-Err-clause-full g c = full_where c.sees_again.new.self c.goes_on.result c.goes_on.ensures
