-- A script has one run on a core.
use Rattle.std.proofs.Common.{◌≡◌, ℕ, zero, suc, ◌<◌, ◌≤◌, ◌⊎◌, ◌∙◌, inl, inr, Bool, true, false, List, get_or}
use Rattle.std.proofs.Common.{refl, sym, ap, subst, arith, slice_set}
use Rattle.std.specs.List.{AllByRecursion}
use Rattle.std.proofs.lemmas.Bool.{both_ways, cases_order}
use Rattle.kn_graph.specs.declared.calls.Call.{Call}
use Rattle.kn_graph.specs.Ground.{Ground}
use Rattle.kn_script.specs.Scripts.{Scripted, ground_of}
use Rattle.kn_script.specs.Good.{IsGoodScript}
use Rattle.kn_cms_rule.specs.declared.stages.CmsTurn.{CmsTurn}
use Rattle.kn_cms_rule.specs.Calls.{is_core_call}
use Rattle.kn_cms_rule.specs.State.{State}
use Rattle.kn_cms_rule.specs.Words.{one_framed}
use Rattle.kn_cms_rule.specs.Turns.{TurnOf}
use Rattle.kn_cms_bound.proofs.OneTurn.{one_turn}
use Rattle.kn_cms_lists.specs.Kept.{calls_of_threads}
use Rattle.kn_cms_trace.specs.CoreRuns.{CoreRun, CoreHasEnded, CoreTurns, IsCoreOver, IsCoreRunOf, IsCoreTurn}
use Rattle.kn_cms_trace.specs.CoreRuns.{actor_at, answered_by, core_start, is_done, standing_in}
use Rattle.kn_cms_trace.specs.Measures.{RunHolds}
use Rattle.kn_cms_trace.proofs.Fallen.{actor_may, near, runs, start_holds, turns_fall}
use Rattle.kn_cms_trace.proofs.Ordered.{one_next}

-- two turns of one state of a run are one
module _ (z : Ground) (calls : ℕ → List Call) (r a b : CoreRun) (h : RunHolds z calls r) (k : IsCoreTurn z r a) (l : IsCoreTurn z r b) where
  nexts : (k.actor ≡ l.actor) × (a.left ≡ b.left)
  nexts = one_next z.sizes.threads (standing_in r.ended r.answered) r.left h.order k.actor l.actor a.left b.left k.next l.next

  turned : TurnOf (one_framed z) r.state (actor_at z.sizes.threads k.actor) l.turn b.state
  turned = subst (λ i. TurnOf (one_framed z) r.state (actor_at z.sizes.threads i) l.turn b.state) (sym nexts.0) l.turned

  turns : (k.turn ≡ l.turn) × (a.state ≡ b.state)
  turns = one_turn (one_framed z) calls r.state h.holds.rule a.state b.state (actor_at z.sizes.threads k.actor) k.turn l.turn (actor_may z k.actor)
      k.turned turned

  flags : a.ended ≡ b.ended
  flags = k.ended ∙ (ap (λ i. slice_set r.ended i (is_done k.turn)) nexts.0 ∙ (ap (λ (t : CmsTurn). slice_set r.ended l.actor (is_done t)) turns.0
      ∙ sym l.ended))

  counts : a.answered ≡ b.answered
  counts = k.answered ∙ (ap (λ i. slice_set r.answered i (answered_by a.state (actor_at z.sizes.threads i))) nexts.0
      ∙ (ap (λ (s : State). slice_set r.answered l.actor (answered_by s (actor_at z.sizes.threads l.actor))) turns.1 ∙ sym l.answered))

  same_run : a.state ≡ b.state → a.ended ≡ b.ended → a.answered ≡ b.answered → a.left ≡ b.left → a ≡ b
  same_run s e n l = λ i. record { state = s i; ended = e i; answered = n i; left = l i }

  one_core_turn : a ≡ b
  one_core_turn = same_run turns.1 flags counts nexts.1

module _ (z : Ground) (calls : ℕ → List Call) (start : CoreRun) (h : RunHolds z calls start) where
  one_more : (n : ℕ) (mid mid' a b : CoreRun) → mid ≡ mid' → CoreTurns z n start mid → IsCoreTurn z mid a → IsCoreTurn z mid' b → a ≡ b
  one_more n mid mid' a b same runs k l =
      one_core_turn z calls mid a b (turns_fall z calls n start mid h runs).0 k (subst (λ (m : CoreRun). IsCoreTurn z m b) (sym same) l)

  -- so many turns come to one state
  one_end : (n : ℕ) (a b : CoreRun) → CoreTurns z n start a → CoreTurns z n start b → a ≡ b
  one_end zero a b k l = k ∙ sym l
  one_end (suc n) a b (mid, k, t) (mid', l, u) = one_more n mid mid' a b (one_end n mid mid' k l) k t u

  -- no turn comes where each actor has ended
  over_or_turn : (n : ℕ) (r r' : CoreRun) → CoreTurns z n start r → CoreHasEnded z.sizes.threads r.ended → IsCoreTurn z r r' → ⊥
  over_or_turn n r r' k ended t =
      let holds = (turns_fall z calls n start r h k).0 in
      both_ways (get_or r.ended t.actor false) (runs z calls r r' holds t) (ended t.actor (near z calls r r' holds t))

  -- more turns go on from fewer
  goes_further : (n m : ℕ) (a b : CoreRun) → n < m → CoreTurns z n start a → CoreTurns z m start b → (r : CoreRun) × IsCoreTurn z a r
  goes_further n zero a b less k l = absurd (omega (arith, less))
  goes_further n (suc m) a b less k (mid, l, t) = by (cases_order n m) (λ near. goes_further n m a mid near k l)
    where
      by : (n ≡ m) ⊎ ((n < m) ⊎ (m < n)) → (n < m → (r : CoreRun) × IsCoreTurn z a r) → (r : CoreRun) × IsCoreTurn z a r
      by (inl same) rest =
          let ends = one_end m mid a l (subst (λ x. CoreTurns z x start a) same k) in
          (b, subst (λ (r : CoreRun). IsCoreTurn z r b) ends t)
      by (inr (inl near)) rest = rest near
      by (inr (inr more)) rest = absurd (omega (arith, less, more))

module _ (script : Scripted) (good : IsGoodScript script)
    (core : AllByRecursion (AllByRecursion (λ c. is_core_call c ≡ true)) script.threads) where
  pub same_length : (n : ℕ) (r r' : CoreRun) → CoreTurns (ground_of script) n (core_start script) r →
      CoreTurns (ground_of script) n (core_start script) r' → r ≡ r'
  same_length n r r' k l =
      one_end (ground_of script) (calls_of_threads script.threads) (core_start script) (start_holds script good core) n r r' k l

  -- a run that is over goes no further
  ends_first : (over : Bool) (n m : ℕ) (r r' : CoreRun) → CoreTurns (ground_of script) n (core_start script) r →
      CoreTurns (ground_of script) m (core_start script) r' → IsCoreOver script over n r → m ≤ script.turns → n < m → ⊥
  ends_first true n m r r' k l over few less = let all = over.0 in absurd (omega (arith, all, few, less))
  ends_first false n m r r' k l over few less =
      let h = start_holds script good core in
      let more = goes_further (ground_of script) (calls_of_threads script.threads) (core_start script) h n m r r' less k l in
      over_or_turn (ground_of script) (calls_of_threads script.threads) (core_start script) h n r more.0 k over more.1

  one_way : (a b : Bool) (n m : ℕ) (r r' : CoreRun) → r ≡ r' → IsCoreOver script a n r → IsCoreOver script b m r' → a ≡ b
  one_way true true n m r r' same k l = refl
  one_way false false n m r r' same k l = refl
  one_way true false n m r r' same k l =
      let goes = k.1 in
      absurd (both_ways (get_or r.ended goes.0 false) goes.2 (ap (λ (x : CoreRun). get_or x.ended goes.0 false) same ∙ l goes.0 goes.1))
  one_way false true n m r r' same k l =
      let goes = l.1 in
      absurd (both_ways (get_or r'.ended goes.0 false) goes.2 (ap (λ (x : CoreRun). get_or x.ended goes.0 false) (sym same) ∙ k goes.0 goes.1))

  -- two runs of the script are one
  module _ (a b : Bool) (r r' : CoreRun) (k : IsCoreRunOf script a r) (l : IsCoreRunOf script b r') where
    as_long : (k.turns ≡ l.turns) ⊎ ((k.turns < l.turns) ⊎ (l.turns < k.turns)) → k.turns ≡ l.turns
    as_long (inl same) = same
    as_long (inr (inl less)) = absurd (ends_first a k.turns l.turns r r' k.runs l.runs k.over l.few less)
    as_long (inr (inr more)) = absurd (ends_first b l.turns k.turns r' r l.runs k.runs l.over k.few more)

    same_end : r ≡ r'
    same_end = same_length l.turns r r'
        (subst (λ n. CoreTurns (ground_of script) n (core_start script) r) (as_long (cases_order k.turns l.turns)) k.runs) l.runs

    pub one_run : (a ≡ b) × (r ≡ r')
    one_run = (one_way a b k.turns l.turns r r' same_end k.over l.over, same_end)
