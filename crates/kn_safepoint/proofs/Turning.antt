-- The turn of a stage, and the cause of each answer.
use Rattle.std.proofs.Common.{◌≡◌, ℕ, ◌≤◌, ◌<◌, ◌↔◌, Bool, true, false, Option, refl, sym, ap, ◌∙◌, subst, inl, arith}
use Rattle.kn_base.specs.declared.kinds.Code.{Code}
use Rattle.kn_base.specs.declared.kinds.Code.TheVariants as codes
use Rattle.kn_base.specs.declared.phase_word.PhaseWord.{PhaseWord}
use Rattle.kn_base.specs.declared.places.Place.{Place}
use Rattle.kn_base.specs.declared.places.Place.TheVariants.{Phase, State as StateOf}
use Rattle.kn_base.specs.Pages.{FrameView}
use Rattle.kn_base.specs.Words.{IsPhaseWord, packed_phase}
use Rattle.kn_graph.specs.declared.calls.Call.{Call}
use Rattle.kn_rule.specs.declared.positions.Position.TheVariants as positions
use Rattle.kn_rule.specs.CallerClauses.{state_number}
use Rattle.kn_rule.specs.Decoding.{phase_of}
use Rattle.kn_rule.specs.Phases.{is_run}
use Rattle.kn_rule.specs.Steps.{Found, Step}
use Rattle.kn_rule.specs.Views.{View}
use Rattle.kn_steps.specs.Made.{Made, Stand}
use Rattle.kn_steps.specs.Turns.{OneTurn}
use Rattle.kn_safepoint.specs.declared.stage.Stage.{Stage}
use Rattle.kn_safepoint.specs.declared.stage.Stage.TheVariants.{Out, GoesIn, Enters, GoesBack, In}
use Rattle.kn_safepoint.specs.declared.stage.Enter.{Enter}
use Rattle.kn_safepoint.specs.declared.stage.Enter.TheVariants as enters
use Rattle.kn_safepoint.specs.Agree.{Agrees}
use Rattle.kn_safepoint.specs.Kept.{Kept}
use Rattle.kn_safepoint.specs.Stages.{answer_behind, entered, leave_step, looked, stage_behind, stage_step}
use Rattle.kn_safepoint.specs.Turns.{FoundIn, Goes, IsHelpFor, IsIdleFor, IsInFor, IsWait, Left, Turned}
use Rattle.kn_safepoint.proofs.Making.{left_agrees, phase_packs, stands}

-- what one that is out is told
module _ (w e : ℕ) where
  looked_idle : (c : Code) (p : Place) (u : ℕ) → (looked w e c ≡ enters.Idle p u) ↔ ((Phase ≡ p) × (w ≡ u) × IsWait c)
  looked_idle codes.Idle p u = (λ e. absurd (cc), λ h. absurd h.2)
  looked_idle codes.StopA p u = (λ e. ((let x : Phase ≡ p = cc in x), (let x : w ≡ u = cc in x), tt), λ h t. enters.Idle (h.0 t) (h.1 t))
  looked_idle codes.Mark p u = (λ e. absurd (cc), λ h. absurd h.2)
  looked_idle codes.Weak p u = (λ e. absurd (cc), λ h. absurd h.2)
  looked_idle codes.StopB p u = (λ e. ((let x : Phase ≡ p = cc in x), (let x : w ≡ u = cc in x), tt), λ h t. enters.Idle (h.0 t) (h.1 t))
  looked_idle codes.Prep p u = (λ e. ((let x : Phase ≡ p = cc in x), (let x : w ≡ u = cc in x), tt), λ h t. enters.Idle (h.0 t) (h.1 t))
  looked_idle codes.Sweep p u = (λ e. absurd (cc), λ h. absurd h.2)

  looked_help : (c : Code) (n : ℕ) → (looked w e c ≡ enters.Help n) ↔ ((c ≡ codes.Mark) × (e ≡ n))
  looked_help codes.Idle n = (λ e. absurd (cc), λ h. absurd (let x = h.0 in cc))
  looked_help codes.StopA n = (λ e. absurd (cc), λ h. absurd (let x = h.0 in cc))
  looked_help codes.Mark n = (λ i. (refl, (let x : e ≡ n = cc in x)), λ h t. enters.Help (h.1 t))
  looked_help codes.Weak n = (λ e. absurd (cc), λ h. absurd (let x = h.0 in cc))
  looked_help codes.StopB n = (λ e. absurd (cc), λ h. absurd (let x = h.0 in cc))
  looked_help codes.Prep n = (λ e. absurd (cc), λ h. absurd (let x = h.0 in cc))
  looked_help codes.Sweep n = (λ e. absurd (cc), λ h. absurd (let x = h.0 in cc))

  looked_out : (c : Code) (v : PhaseWord) → looked w e c ≡ enters.In v → ⊥
  looked_out codes.Idle v i = cc
  looked_out codes.StopA v i = cc
  looked_out codes.Mark v i = cc
  looked_out codes.Weak v i = cc
  looked_out codes.StopB v i = cc
  looked_out codes.Prep v i = cc
  looked_out codes.Sweep v i = cc

-- what one that enters is told
entered_idle : (v : PhaseWord) (run : Bool) (p : Place) (u : ℕ) → entered v run ≡ enters.Idle p u → ⊥
entered_idle v true p u e = cc
entered_idle v false p u e = cc

entered_help : (v : PhaseWord) (run : Bool) (n : ℕ) → entered v run ≡ enters.Help n → ⊥
entered_help v true n e = cc
entered_help v false n e = cc

entered_in : (v u : PhaseWord) (run : Bool) → is_run v.code ≡ run → (entered v run ≡ enters.In u) ↔ ((v ≡ u) × (is_run u.code ≡ true))
entered_in v u true e =
    (λ i. let same : v ≡ u = cc in (same, sym (ap (λ (x : PhaseWord). is_run x.code) same) ∙ e), λ h t. enters.In (h.0 t))
entered_in v u false e =
    (λ i. absurd (cc), λ h. absurd (let x : false ≡ true = sym e ∙ (ap (λ (x : PhaseWord). is_run x.code) h.0 ∙ h.1) in cc))

-- the cause of each answer at each stage
module _ (w : ℕ) where
  idle_is : (t : Stage) (p : Place) (u : ℕ) → (answer_behind t w ≡ enters.Idle p u) ↔ IsIdleFor t w p u
  idle_is Out p u = looked_idle w (phase_of w).epoch (phase_of w).code p u
  idle_is GoesIn p u = (λ e. cc, λ h. absurd h)
  idle_is Enters p u = (entered_idle (phase_of w) (is_run (phase_of w).code) p u, λ h. absurd h)
  idle_is GoesBack p u = (λ e. cc, λ h. absurd h)
  idle_is In p u = (λ e. cc, λ h. absurd h)

  help_is : (t : Stage) (n : ℕ) → (answer_behind t w ≡ enters.Help n) ↔ IsHelpFor t w n
  help_is Out n = looked_help w (phase_of w).epoch (phase_of w).code n
  help_is GoesIn n = (λ e. cc, λ h. absurd h)
  help_is Enters n = (entered_help (phase_of w) (is_run (phase_of w).code) n, λ h. absurd h)
  help_is GoesBack n = (λ e. cc, λ h. absurd h)
  help_is In n = (λ e. cc, λ h. absurd h)

  in_is : (t : Stage) (v : PhaseWord) → (answer_behind t w ≡ enters.In v) ↔ IsInFor t w v
  in_is Out v = (looked_out w (phase_of w).epoch (phase_of w).code v, λ h. absurd h)
  in_is GoesIn v = (λ e. cc, λ h. absurd h)
  in_is Enters v = entered_in (phase_of w) v (is_run (phase_of w).code) refl
  in_is GoesBack v = (λ e. cc, λ h. absurd h)
  in_is In v = (λ e. cc, λ h. absurd h)

-- where one that enters loaded a phase, its state says that it is in
module _ {k : Kept} {a : Stand} (g : Agrees k a) (next : Option Call) {here : ℕ → Bool} {f : Found} {b : Stand} {here' : ℕ → Bool} where
  found_in : (t : Stage) → k.stage ≡ t → Made a here (stage_step t k.by next) f b here' → (v : PhaseWord) → IsInFor t f.word v →
      FoundIn a.heap k.by f.word v
  found_in Enters is made v h =
      let s = made.shown.0 in
      let packs = phase_packs made in
      let at : (s.caller a.by).position ≡ positions.Entering =
      ap (λ (x : View). x.position) made.shown.2 ∙ stands g here Enters is in
      let less : a.by ≤ a.heap.sizes.threads = let l = g.thread in omega (arith, l) in
      record {
        state = s;
        rule = made.shown.1;
        phase = made.shown.3.0;
        packs = ap packed_phase (sym h.0) ∙ packs.right;
        ranges = subst IsPhaseWord h.0 packs.ranges;
        inside = subst (λ c. s.word (StateOf c) ≡ 1) g.caller
            (made.shown.1.1.stands.stated.each a.by less ∙ ap state_number at);
      }
  found_in Out is made v h = absurd h
  found_in GoesIn is made v h = absurd h
  found_in GoesBack is made v h = absurd h
  found_in In is made v h = absurd h

module _ {T : Type 0} (stand : T → Stand) (here : T → ℕ → Bool) (did : T → Step → Found → T → Type 0)
    (moved : T → ℕ → Option FrameView → Option FrameView → T → Type 0) (k : Kept) (next : Option Call) (s s' : T) (k' : Kept)
    (reply : Enter) where
  pub goes : Agrees k (stand s) → (t : Stage) → k.stage ≡ t → (f : Found) →
      Made (stand s) (here s) (stage_step t k.by next) f (stand s') (here s') →
      did s (stage_step t k.by next) f s' → Agrees (record k { stage = stage_behind t f.word }) (stand s') →
      k' ≡ record k { stage = stage_behind t f.word } → reply ≡ answer_behind t f.word → Goes stand here did k next s s' k' reply
  goes g t e f made kept agrees after answer = record {
    turned = subst (λ (q : Kept). Turned stand here did q next s s' k' reply) (λ i. record k { stage = sym e i }) (record {
      found = f;
      made = made;
      kept = kept;
      after = after;
      answer = answer;
      idle = λ p w. (λ h. (idle_is f.word t p w).0 (sym answer ∙ h), λ h. answer ∙ (idle_is f.word t p w).1 h);
      help = λ n. (λ h. (help_is f.word t n).0 (sym answer ∙ h), λ h. answer ∙ (help_is f.word t n).1 h);
      entered = λ v. (λ h. (in_is f.word t v).0 (sym answer ∙ h), λ h. answer ∙ (in_is f.word t v).1 h);
      inside = λ v h. found_in g next t e made v ((in_is f.word t v).0 (sym answer ∙ h));
    });
    agrees = subst (λ (q : Kept). Agrees q (stand s')) (sym after) agrees;
  }

  pub one : Turned stand here did k next s s' k' reply → OneTurn stand here did moved s s'
  one h = inl (record { step = stage_step k.stage k.by next; found = h.found; made = h.made; kept = h.kept })

-- the turn of one that leaves, whose number c the safepoint k has
module _ {T : Type 0} (stand : T → Stand) (here : T → ℕ → Bool) (did : T → Step → Found → T → Type 0)
    (moved : T → ℕ → Option FrameView → Option FrameView → T → Type 0) (k : Kept) (s s' : T) (c : ℕ) (is_by : c ≡ k.by) (f : Found)
    (made : Made (stand s) (here s) (leave_step c) f (stand s') (here s')) (kept : did s (leave_step c) f s') where
  pub left : Left stand here did k s s' (record { by = c; stage = Out })
  left = record {
    found = f;
    made = subst (λ c. Made (stand s) (here s) (leave_step c) f (stand s') (here s')) is_by made;
    kept = subst (λ c. did s (leave_step c) f s') is_by kept;
    after = λ t. record { by = is_by t; stage = Out };
  }

  pub leaves_agreeing : (stand s).by ≡ k.by → k.by < (stand s).heap.sizes.threads → Agrees (record { by = c; stage = Out }) (stand s')
  leaves_agreeing caller less =
      let g : Agrees (record { by = c; stage = In }) (stand s) = record {
        caller = caller ∙ sym is_by;
        thread = subst (λ n. n < (stand s).heap.sizes.threads) (sym caller) less;
        at = tt;
      } in
      left_agrees g (here s) made

  pub one_leaving : OneTurn stand here did moved s s'
  one_leaving = inl (record { step = leave_step c; found = f; made = made; kept = kept })
