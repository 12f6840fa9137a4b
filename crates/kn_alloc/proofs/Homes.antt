-- What a turn in which pages go home leaves.
use Rattle.std.proofs.Common.{◌≡◌, ℕ, Bool, Option, Some, inl, inr, refl, sym, ap, ◌∙◌, subst}
use Rattle.kn_base.specs.Pages.{FrameView}
use Rattle.kn_base.specs.declared.places.Place.TheVariants.{Frame}
use Rattle.kn_rule.specs.declared.steps.Action.TheVariants.{Stores}
use Rattle.kn_rule.specs.declared.steps.Kind.TheVariants.{K11}
use Rattle.kn_rule.specs.Steps.{Found, Step, does}
use Rattle.kn_page.specs.PageViews.{page_view}
use Rattle.kn_steps.specs.Made.{Made, Stand}
use Rattle.kn_steps.specs.Turns.{OneTurn}
use Rattle.kn_alloc.specs.declared.stage.Stage.{Stage}
use Rattle.kn_alloc.specs.declared.stage.Stage.TheVariants as stages
use Rattle.kn_alloc.specs.declared.stage.HomeTurn.{HomeTurn}
use Rattle.kn_alloc.specs.declared.stage.HomeTurn.TheVariants.{Moved, Done}
use Rattle.kn_alloc.specs.Keeps.{Keeps}
use Rattle.kn_alloc.specs.Agree.{IsIdle, IsNoCall}
use Rattle.kn_alloc.specs.Tells.{IsKept, TellsHome}
use Rattle.kn_alloc.specs.Homes.{WentHomeAt}
use Rattle.kn_alloc.proofs.Goes.{given_view}

still_home : (a b : Stand) → b ≡ a → TellsHome a b
still_home a b e = subst (TellsHome a) (sym e) (record { heap = refl; by = refl; view = refl })

given_home : (a b : Stand) (here here' : ℕ → Bool) (p word : ℕ) (f : Found) → Made a here (does K11 (Frame p) (Stores word)) f b here' →
    IsNoCall a.view.position → TellsHome a b
given_home a b here here' p word f made no_call =
    subst (TellsHome a) (sym (given_view a b here here' p word f made no_call)) (record { heap = refl; by = refl; view = refl })

module _ {T : Type 0} (stand : T → Stand) (here : T → ℕ → Bool) (did : T → Step → Found → T → Type 0)
    (moved : T → ℕ → Option FrameView → Option FrameView → T → Type 0) (m m' : Keeps) (s s' : T) where
  abbrev Went : Stage → HomeTurn → Type 0
  Went stage reply = WentHomeAt stand here did moved stage m s s' m' reply

  pub tells_home : (stage : Stage) (reply : HomeTurn) → Went stage reply → IsNoCall (stand s).view.position → TellsHome (stand s) (stand s')
  tells_home stages.Resting Moved t no_call = still_home (stand s) (stand s') t.made.view
  tells_home stages.Resting Done t no_call = still_home (stand s) (stand s') (ap stand t.still)
  tells_home (stages.PutsHome p w) Moved t no_call =
      given_home (stand s) (stand s') (here s) (here s') p w t.made.found t.made.made no_call
  tells_home (stages.PutsHome p w) Done t no_call = absurd t
  tells_home stages.TooLong reply t no_call = absurd t
  tells_home stages.Returns reply t no_call = absurd t
  tells_home (stages.Refuses p w) reply t no_call = absurd t
  tells_home stages.Searches reply t no_call = absurd t
  tells_home (stages.Takes p w) reply t no_call = absurd t
  tells_home (stages.Sweeps p) reply t no_call = absurd t
  tells_home (stages.Clears cell i) reply t no_call = absurd t
  tells_home (stages.Bears cell) reply t no_call = absurd t

  pub one_home : (stage : Stage) (reply : HomeTurn) → Went stage reply → reply ≡ Moved → OneTurn stand here did moved s s'
  one_home stages.Resting Moved t e =
      inr (record { frame = t.hand.frame; page = Some (page_view t.hand.page); result = t.result; made = t.made; kept = t.kept })
  one_home stages.Resting Done t e = absurd (cc)
  one_home (stages.PutsHome p w) Moved t e =
      inl (record { step = does K11 (Frame p) (Stores w); found = t.made.found; made = t.made.made; kept = t.made.kept })
  one_home (stages.PutsHome p w) Done t e = absurd t
  one_home stages.TooLong reply t e = absurd t
  one_home stages.Returns reply t e = absurd t
  one_home (stages.Refuses p w) reply t e = absurd t
  one_home stages.Searches reply t e = absurd t
  one_home (stages.Takes p w) reply t e = absurd t
  one_home (stages.Sweeps p) reply t e = absurd t
  one_home (stages.Clears cell i) reply t e = absurd t
  one_home (stages.Bears cell) reply t e = absurd t

  pub still_done : (stage : Stage) (reply : HomeTurn) → m.stage ≡ stage → Went stage reply → reply ≡ Done →
      (s' ≡ s) × (m' ≡ m) × (m'.stage ≡ stages.Resting)
  still_done stages.Resting Moved is t e = absurd (cc)
  still_done stages.Resting Done is t e = (t.still, t.after, ap (λ (k : Keeps). k.stage) t.after ∙ is)
  still_done (stages.PutsHome p w) Moved is t e = absurd (cc)
  still_done (stages.PutsHome p w) Done is t e = absurd t
  still_done stages.TooLong reply is t e = absurd t
  still_done stages.Returns reply is t e = absurd t
  still_done (stages.Refuses p w) reply is t e = absurd t
  still_done stages.Searches reply is t e = absurd t
  still_done (stages.Takes p w) reply is t e = absurd t
  still_done (stages.Sweeps p) reply is t e = absurd t
  still_done (stages.Clears cell i) reply is t e = absurd t
  still_done (stages.Bears cell) reply is t e = absurd t

  -- behind it the allocator has no request, and its sizes and its caller
  abbrev StaysIdle : Keeps → Type 0
  StaysIdle n = IsIdle n.stage × IsKept m n

  pub idle_then : (stage : Stage) (reply : HomeTurn) → m.stage ≡ stage → Went stage reply → IsIdle m'.stage × IsKept m m'
  idle_then stages.Resting Moved is t = subst StaysIdle (sym t.after) (tt, (refl, refl))
  idle_then stages.Resting Done is t = subst StaysIdle (sym t.after) (subst IsIdle (sym is) tt, (refl, refl))
  idle_then (stages.PutsHome p w) Moved is t = subst StaysIdle (sym t.after) (tt, (refl, refl))
  idle_then (stages.PutsHome p w) Done is t = absurd t
  idle_then stages.TooLong reply is t = absurd t
  idle_then stages.Returns reply is t = absurd t
  idle_then (stages.Refuses p w) reply is t = absurd t
  idle_then stages.Searches reply is t = absurd t
  idle_then (stages.Takes p w) reply is t = absurd t
  idle_then (stages.Sweeps p) reply is t = absurd t
  idle_then (stages.Clears cell i) reply is t = absurd t
  idle_then (stages.Bears cell) reply is t = absurd t
