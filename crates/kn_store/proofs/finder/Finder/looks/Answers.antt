use Rattle.std.proofs.Common.{◌+◌, length, refl, sym, ap, ◌∙◌, subst}
use Rattle.kn_rule.specs.declared.steps.Action.TheVariants.{Loads}
use Rattle.kn_base.specs.declared.places.Place.TheVariants.{Frame}
use Rattle.kn_rule.specs.declared.steps.Kind.TheVariants.{K9}
use Rattle.kn_rule.specs.Steps.{does, found}
use Rattle.kn_steps.specs.Made.{stand_after}
use Rattle.kn_store.specs.Search.{GoesOn, IsOver, Search, first_of, saw_next}
use Rattle.kn_store.specs.Agree.{Agrees}
use Rattle.kn_store.proofs.Goings.{agrees_still, shows}
use Rattle.kn_store.proofs.Sights.{sees_next}
use Rattle.kn_store.proofs.finder.Finder.looks.Goals as goal

pub returns-clause-agrees : goal.returns-clause-agrees
returns-clause-agrees g c = λ e.
    let m = c.args.self.now in
    let w = c.load-word.result in
    let h = c.load-word.ensures in
    let next = c.frame-frame.ensures ∙ ap (λ n. first_of m + n) c.looked.ensures in
    let open_still = subst (GoesOn c.sees.new.self) e c.goes_on.ensures in
    subst (λ (q : Search). Agrees q (g.T.Steps.stand c.load-word.new.self)) (sym c.sees.ensures)
    (agrees_still m (saw_next m w) (g.T.Steps.stand c.args.steps.now) (g.T.Steps.stand c.load-word.new.self) c.requires.agrees (length m.seen)
    Loads (found w h.0) refl refl refl refl
    (sees_next m (g.T.Steps.stand c.args.steps.now).view.seen (g.T.Steps.stand c.args.steps.now).view.refused c.requires.agrees.same w
    c.requires.next)
    (h.1.view ∙ (λ t. stand_after (g.T.Steps.stand c.args.steps.now) (does K9 (Frame (next t)) Loads) (found w h.0)))
    (λ o. open_still (subst IsOver (sym c.sees.ensures) o)))

pub returns-clause-saw : goal.returns-clause-saw
returns-clause-saw g c = λ e.
    let m = c.args.self.now in
    let w = c.load-word.result in
    let h = c.load-word.ensures in
    let a = g.T.Steps.stand c.args.steps.now in
    let next = c.frame-frame.ensures ∙ ap (λ n. first_of m + n) c.looked.ensures in
    let open_still = subst (GoesOn c.sees.new.self) e c.goes_on.ensures in
    (shows m (saw_next m w) a (g.T.Steps.stand c.load-word.new.self) c.requires.agrees (length m.seen) Loads (found w h.0) refl refl refl refl
    (sees_next m a.view.seen a.view.refused c.requires.agrees.same w c.requires.next)
    (h.1.view ∙ (λ t. stand_after a (does K9 (Frame (next t)) Loads) (found w h.0)))
    (g.T.Steps.here c.args.steps.now) (g.T.Steps.here c.load-word.new.self) h.1.lies).0 (λ o. open_still (subst IsOver (sym c.sees.ensures) o))

pub returns-clause-ended : goal.returns-clause-ended
returns-clause-ended g c = λ e.
    let m = c.args.self.now in
    let w = c.load-word.result in
    let h = c.load-word.ensures in
    let a = g.T.Steps.stand c.args.steps.now in
    let next = c.frame-frame.ensures ∙ ap (λ n. first_of m + n) c.looked.ensures in
    let over = subst (GoesOn c.sees.new.self) e c.goes_on.ensures in
    (shows m (saw_next m w) a (g.T.Steps.stand c.load-word.new.self) c.requires.agrees (length m.seen) Loads (found w h.0) refl refl refl refl
    (sees_next m a.view.seen a.view.refused c.requires.agrees.same w c.requires.next)
    (h.1.view ∙ (λ t. stand_after a (does K9 (Frame (next t)) Loads) (found w h.0)))
    (g.T.Steps.here c.args.steps.now) (g.T.Steps.here c.load-word.new.self) h.1.lies).1 (subst IsOver c.sees.ensures over)
