-- The step of each stage is allowed, and behind it a safepoint agrees with the view.
use Rattle.std.proofs.Common.{◌≡◌, ℕ, ◌<◌, ◌⊎◌, inl, inr, Bool, true, false, cond, Option, None, refl, sym, ap, ◌∙◌, subst}
use Rattle.kn_base.specs.declared.places.Place.TheVariants.{Phase, State as StateOf}
use Rattle.kn_graph.specs.declared.calls.Call.{Call}
use Rattle.kn_rule.specs.declared.positions.Position.{Position}
use Rattle.kn_rule.specs.declared.positions.Position.TheVariants as positions
use Rattle.kn_rule.specs.declared.steps.Action.TheVariants.{LoadsFor, Stores}
use Rattle.kn_rule.specs.declared.steps.Kind.TheVariants.{K1, K2}
use Rattle.kn_rule.specs.Allowed.{MayEnterFor, MayGo, MayPoll, MayPollAt, MayStoreState}
use Rattle.kn_rule.specs.Decoding.{PacksPhase, phase_of}
use Rattle.kn_rule.specs.Outcomes.{poll_at}
use Rattle.kn_rule.specs.Phases.{is_run}
use Rattle.kn_rule.specs.Steps.{Found, Step, does, logged}
use Rattle.kn_steps.specs.Made.{Made, Stand}
use Rattle.kn_safepoint.specs.declared.stage.Stage.{Stage}
use Rattle.kn_safepoint.specs.declared.stage.Stage.TheVariants.{Out, GoesIn, Enters, GoesBack, In}
use Rattle.kn_safepoint.specs.Agree.{Agrees, MayLeave, OwnsNone, StandsAt}
use Rattle.kn_safepoint.specs.Kept.{Kept}
use Rattle.kn_safepoint.specs.Stages.{leave_step, stage_behind}

-- a phase that was found packs one
pub phase_packs : {a : Stand} {here : ℕ → Bool} {next : Option Call} {f : Found} {b : Stand} {here' : ℕ → Bool} →
    Made a here (does K1 Phase (LoadsFor next)) f b here' → PacksPhase f.word
phase_packs made = subst PacksPhase made.shown.3.0 made.shown.1.1.stands.timed.packs

module _ {k : Kept} {a : Stand} (g : Agrees k a) (here : ℕ → Bool) where
  pub stands : (t : Stage) → k.stage ≡ t → StandsAt t a.view.position
  stands t e = subst (λ t. StandsAt t a.view.position) e g.at

  poll_at_out : (p : Position) → a.view.position ≡ p → (next : Option Call) → MayPollAt a.heap a.by a.view here p next →
      MayPoll a.heap a.by a.view here Phase (LoadsFor next)
  poll_at_out p e next may = record {
    next = next;
    place = refl;
    act = refl;
    thread = g.thread;
    may = subst (λ p. MayPollAt a.heap a.by a.view here p next) (sym e) may;
  }

  pub may_look : k.stage ≡ Out → MayPoll a.heap a.by a.view here Phase (LoadsFor None)
  may_look is = poll_at_out positions.Out (stands Out is) None refl

  pub may_enter : k.stage ≡ Enters → (next : Option Call) → MayEnterFor a.heap a.by a.view here a.view.target next →
      MayPoll a.heap a.by a.view here Phase (LoadsFor next)
  may_enter is next may = poll_at_out positions.Entering (stands Enters is) next may

  goes_at : (p : Position) → a.view.position ≡ p → (n : ℕ) → MayGo a.heap a.by a.view here p n →
      MayStoreState a.heap a.by a.view here (StateOf k.by) (Stores n)
  goes_at p e n may = record {
    value = n;
    place = ap StateOf (sym g.caller);
    word = refl;
    may = inl (g.thread, subst (λ p. MayGo a.heap a.by a.view here p n) (sym e) may);
  }

  pub may_go_in : k.stage ≡ GoesIn → MayStoreState a.heap a.by a.view here (StateOf k.by) (Stores 1)
  may_go_in is = goes_at positions.Out (stands GoesIn is) 1 (inl refl)

  pub may_go_back : k.stage ≡ GoesBack → OwnsNone a.view → MayStoreState a.heap a.by a.view here (StateOf k.by) (Stores 0)
  may_go_back is none = goes_at positions.Entering (stands GoesBack is) 0 (refl, none)

  module _ {d : Step} {f : Found} {b : Stand} {here' : ℕ → Bool} (made : Made a here d f b here') where
    -- the caller and the heap stay
    agrees_at : (t : Stage) → StandsAt t b.view.position → Agrees (record k { stage = t }) b
    agrees_at t at = record {
      caller = ap (λ (x : Stand). x.by) made.view ∙ g.caller;
      thread = subst (λ (x : Stand). x.by < x.heap.sizes.threads) (sym made.view) g.thread;
      at = at;
    }

  module _ {f : Found} {b : Stand} {here' : ℕ → Bool} where
    module _ (is : k.stage ≡ Out) (made : Made a here (does K1 Phase (LoadsFor None)) f b here') where
      out : b.view.position ≡ positions.Out
      out =
          ap (λ (x : Stand). x.view.position) made.view
          ∙ ((λ t. (logged (poll_at a.heap a.by a.view Phase (LoadsFor None) f (stands Out is t) (is_run (phase_of f.word).code) None)).position)
          ∙ stands Out is)

      pub out_agrees : Agrees (record k { stage = stage_behind Out f.word }) b
      out_agrees = by (is_run (phase_of f.word).code)
        where
          by : (run : Bool) → Agrees (record k { stage = cond run GoesIn Out }) b
          by true = agrees_at made GoesIn out
          by false = agrees_at made Out out

    pub in_agrees : k.stage ≡ GoesIn → Made a here (does K2 (StateOf k.by) (Stores 1)) f b here' →
        Agrees (record k { stage = stage_behind GoesIn f.word }) b
    in_agrees is made = agrees_at made Enters (ap (λ (x : Stand). x.view.position) made.view)

    pub enters_agrees : k.stage ≡ Enters → (next : Option Call) → Made a here (does K1 Phase (LoadsFor next)) f b here' →
        Agrees (record k { stage = stage_behind Enters f.word }) b
    enters_agrees is next made = by (is_run (phase_of f.word).code) refl
      where
        at : (run : Bool) → is_run (phase_of f.word).code ≡ run →
            b.view.position ≡ (logged (poll_at a.heap a.by a.view Phase (LoadsFor next) f positions.Entering run next)).position
        at run e =
            ap (λ (x : Stand). x.view.position) made.view
            ∙ λ t. (logged (poll_at a.heap a.by a.view Phase (LoadsFor next) f (stands Enters is t) (e t) next)).position

        by : (run : Bool) → is_run (phase_of f.word).code ≡ run → Agrees (record k { stage = cond run In GoesBack }) b
        by true e = agrees_at made In tt
        by false e = agrees_at made GoesBack (at false e ∙ stands Enters is)

    pub left_agrees : Made a here (leave_step k.by) f b here' → Agrees (record k { stage = Out }) b
    left_agrees made = agrees_at made Out (ap (λ (x : Stand). x.view.position) made.view)

-- it may store that it is out
pub may_leave : (a : Stand) (here : ℕ → Bool) (c : ℕ) → a.by ≡ c → c < a.heap.sizes.threads → MayLeave a.view →
    MayStoreState a.heap a.by a.view here (StateOf c) (Stores 0)
may_leave a here c is less may = record {
  value = 0;
  place = ap StateOf (sym is);
  word = refl;
  may = inl (subst (λ c. c < a.heap.sizes.threads) (sym is) less, by may.position);
}
  where
    by : (a.view.position ≡ positions.Leaving) ⊎ (a.view.position ≡ positions.Entering) → MayGo a.heap a.by a.view here a.view.position 0
    by (inl e) = subst (λ p. MayGo a.heap a.by a.view here p 0) (sym e) (refl, may.none)
    by (inr e) = subst (λ p. MayGo a.heap a.by a.view here p 0) (sym e) (refl, may.none)
