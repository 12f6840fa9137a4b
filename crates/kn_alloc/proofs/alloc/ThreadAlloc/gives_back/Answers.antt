use Rattle.std.proofs.Common.{sym, ap, ◌∙◌, refl, inl, inr, subst}
use Rattle.std.proofs.lemmas.Bool.{true≢false}
use Rattle.kn_store.specs.Search.{IsOver}
use Rattle.kn_alloc.specs.declared.stage.Stage.TheVariants.{Resting, Searches}
use Rattle.kn_alloc.specs.Keeps.{Keeps}
use Rattle.kn_alloc.proofs.Refusals.{ended_tells, ends_refused, goes_on_refused, may_refuse, refused_tells}
use Rattle.kn_alloc.proofs.alloc.ThreadAlloc.gives_back.Goals as goal

pub store-requires : goal.store-requires
store-requires g c =
    may_refuse c.args.self.now (g.T.Steps.stand c.args.steps.now) (g.T.Steps.here c.args.steps.now) c.requires.agrees c.args.frame c.args.word
    c.requires.stage

pub returns-then-refuses : goal.returns-then-refuses
returns-then-refuses g c =
    let m = c.args.self.now in
    let a = g.T.Steps.stand c.args.steps.now in
    let b = g.T.Steps.stand c.store.new.self in
    let here = g.T.Steps.here c.args.steps.now in
    let here' = g.T.Steps.here c.store.new.self in
    let due = c.requires in
    let h = c.refuses.ensures in
    let q = c.refuses.new.self.search in
    let is = ap (λ (k : Keeps). k.search) h.refused in
    let kept = c.goes_to.ensures ∙ (λ t. record (h.refused t) { stage = Resting }) in
    let over = h.over.0 c.if-refuses.true in
    record {
      turned = record {
        made = record { found = c.store.ensures.0; made = c.store.ensures.1; kept = c.store.ensures.2 };
        stage = Resting;
        after = kept;
        behind = inl (subst IsOver is over, refl, refl);
      };
      agrees = ends_refused m a here due.agrees c.args.frame c.args.word due.stage b here' c.store.ensures.0 c.store.ensures.1 q is h.knows h.tells
          c.goes_to.new.self kept over;
      tells = ended_tells m a here due.agrees c.args.frame c.args.word due.stage b here' c.store.ensures.0 c.store.ensures.1 q is h.knows h.tells
          over;
    }

pub returns-else-refuses : goal.returns-else-refuses
returns-else-refuses g c =
    let m = c.args.self.now in
    let a = g.T.Steps.stand c.args.steps.now in
    let b = g.T.Steps.stand c.store.new.self in
    let here = g.T.Steps.here c.args.steps.now in
    let here' = g.T.Steps.here c.store.new.self in
    let due = c.requires in
    let h = c.refuses.ensures in
    let q = c.refuses.new.self.search in
    let is = ap (λ (k : Keeps). k.search) h.refused in
    let kept = c.goes_to-else-refuses.ensures ∙ (λ t. record (h.refused t) { stage = Searches }) in
    let going : ¬ IsOver q = λ o. true≢false (sym (h.over.1 o) ∙ c.if-refuses.false) in
    record {
      turned = record {
        made = record { found = c.store.ensures.0; made = c.store.ensures.1; kept = c.store.ensures.2 };
        stage = Searches;
        after = kept;
        behind = inr (λ o. going (subst IsOver (sym is) o), refl, refl);
      };
      agrees = goes_on_refused m a here due.agrees c.args.frame c.args.word due.stage b here' c.store.ensures.0 c.store.ensures.1 q is h.knows h.tells
          c.goes_to-else-refuses.new.self kept going;
      tells = refused_tells m a here due.agrees c.args.frame c.args.word due.stage b here' c.store.ensures.0 c.store.ensures.1 q is h.knows h.tells
          going;
    }
