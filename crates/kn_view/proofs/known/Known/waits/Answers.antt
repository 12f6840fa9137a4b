use Rattle.std.proofs.Common.{◌≡◌, ◌∙◌, ap, sym, cond, Bool, Some, ℕ}
use Rattle.kn_base.specs.declared.places.Place.TheVariants.{Phase}
use Rattle.kn_rule.specs.declared.positions.Position.TheVariants.{Leaving}
use Rattle.kn_rule.specs.Steps.{found, quietly}
use Rattle.kn_rule.specs.Outcomes.{epoch_told, waits_at}
use Rattle.kn_view.specs.Parts.{Part, view_with}
use Rattle.kn_view.specs.Told.{told}
use Rattle.kn_view.proofs.known.Known.waits.Goals as goal

pub returns-then-runs : goal.returns-then-runs
returns-then-runs c = λ z a page owned log.
    let v = view_with z c.args.self.now owned log in
    let f = found c.args.word page in
    let target : Some c.in-Some.target ≡ c.args.self.now.target = sym c.in-Some.is ∙ ap (λ (q : Part). q.target) c.self.view_is in
    c.waits_in.ensures z a page owned log ∙ ap (told c.args.history.now) (λ t. waits_at z c.args.by v Phase a f (c.if-runs.ensures t) (target t))

pub returns-then-is_done : goal.returns-then-is_done
returns-then-is_done c = λ z a page owned log.
    let v = view_with z c.args.self.now owned log in
    let f = found c.args.word page in
    let target : Some c.in-Some.target ≡ c.args.self.now.target = sym c.in-Some.is ∙ ap (λ (q : Part). q.target) c.self.view_is in
    c.tells.ensures z a page owned log
    ∙ ap (told c.args.history.now) (ap (λ (n : ℕ). epoch_told z c.args.by v Phase a f n c.in-Some.target) (ap (λ (q : Part). q.polled) c.self.view_is)
    ∙ (ap (λ (b : Bool). cond b (epoch_told z c.args.by v Phase a f v.polled c.in-Some.target) (quietly (record v { position = Leaving })))
    c.if-is_done.ensures.is
    ∙ (λ t. waits_at z c.args.by v Phase a f (c.if-runs.ensures t) (target t))))
