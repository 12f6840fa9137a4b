-- A caller with no call under way and nothing due, and its moves.
use Rattle.std.proofs.Common.{◌≡◌, ◌≢◌, ℕ, ◌<◌, ◌≤◌, inl, inr, Option, Some, None, refl, sym, subst, ap, ◌∙◌, arith}
use Rattle.kn_base.specs.declared.places.Place.TheVariants.{Phase, Want, State as StateOf, Local, Body}
use Rattle.kn_base.specs.Functions.{upd}
use Rattle.kn_base.proofs.Updates.{upd_case, upd_case2}
use Rattle.kn_graph.specs.Ground.{Ground}
use Rattle.kn_graph.specs.Graph.{Graph, Shape, shapes}
use Rattle.kn_rule.specs.declared.positions.Position.{Position}
use Rattle.kn_rule.specs.declared.positions.Position.TheVariants.{Out, Calling, Writing, Waiting, Ended}
use Rattle.kn_rule.specs.declared.parts.Taken.{Taken}
use Rattle.kn_rule.specs.Places.{put}
use Rattle.kn_rule.specs.Views.{View, Views, State, Open, views_of, owns}
use Rattle.kn_rule.specs.Steps.{callers}
use Rattle.kn_rule.specs.HistoryClauses.{under_way, births_under_way, IsRightCall}
use Rattle.kn_rule.specs.ObjectClauses.{IsReadAt, IsCleared, IsWriting, IsValueDue, IsAskedBy}
use Rattle.kn_rule.specs.CallerClauses.{state_number, IsIn, IsBusy, IsInOrLeaving, IsResting, MayOwn, Owners, AtEnd, IsDue}
use Rattle.kn_rule.specs.Rule.{RuleOf}
use Rattle.kn_keep_heap.specs.Answered.{IsIdle}
use Rattle.kn_keep_heap.proofs.Positions.{formed_at, at_end_at, cleared_at, apart_at, taken_in_at, polled_at, told_at}
use Rattle.kn_keep_heap.proofs.Wants.{stopped_at}
use Rattle.kn_keep_heap.proofs.Parts.{views_moved, local_same, own_same, taken_same, position_put, header_same, log_same}
use Rattle.kn_keep_heap.proofs.Locals.{locals_moved}

-- what an idle position says of the clauses
pub idle_calls : (q : Position) (t : Option ℕ) → IsIdle q → under_way q t ≡ under_way Out t
idle_calls (Calling call) t i = absurd i
idle_calls _ None i = refl
idle_calls _ (Some n) i = refl

pub idle_births : (q : Position) → IsIdle q → births_under_way q ≡ 0
idle_births (Calling call) i = absurd i
idle_births _ i = refl

pub not_writing : (q : Position) → IsIdle q → (r : ℕ) → ¬ IsWriting q r
not_writing (Writing r w n) i s h = i
not_writing _ i s h = h

pub not_asking : (z : Ground) (q : Position) → IsIdle q → (t : Taken) → ¬ IsAskedBy z q t
not_asking z (Calling call) i t h = i
not_asking z _ i t h = h

idle_right : (z : Ground) (q : Position) → IsIdle q → IsRightCall z q
idle_right z (Calling call) i = absurd i
idle_right z (Writing r w n) i = absurd i
idle_right z _ i = tt

idle_read : (shape : ℕ → Shape) (local : ℕ → Option ℕ) (q : Position) (h : Option ℕ) → IsIdle q → IsReadAt shape local q h
idle_read shape local (Calling call) h i = absurd i
idle_read shape local _ h i = tt

idle_cleared : (z : Ground) (body local : ℕ → ℕ) (q : Position) (t : Option Taken) → IsIdle q → IsCleared z body local q t
idle_cleared z body local (Calling call) t i = absurd i
idle_cleared z body local _ t i = tt

idle_due : (q : Position) (local : ℕ → ℕ) → IsIdle q → IsValueDue q local
idle_due (Writing r w n) local i = absurd i
idle_due _ local i = tt

module _ (z : Ground) (s : State) (by : ℕ) (near : by < callers z.sizes) (g : Graph) (rule : RuleOf z g s.word s.page
    (views_of s.caller) s.history) where
  abbrev V : Views
  V = views_of s.caller

  -- a caller whose position asks for no cell has none
  pub none_taken : (q : Position) → (s.caller by).position ≡ q → ((t : Taken) → ¬ IsAskedBy z q t) → (s.caller by).taken ≡ None
  none_taken q is not = at (s.caller by).taken refl
    where
      at : (x : Option Taken) → (s.caller by).taken ≡ x → x ≡ None
      at None e = refl
      at (Some t) e = absurd (not t (subst (λ p. IsAskedBy z p t) is (rule.stands.apart.asked by t near e)))

  -- an idle caller stores its state and stands elsewhere, idle and not in, and leaving only where it was in or leaving
  pub stands_by : (q p : Position) (n : ℕ) → (s.caller by).position ≡ q → IsIdle q → IsIdle p → ¬ IsIn p → state_number p ≡ n →
      AtEnd z (upd V.position by p) (λ c. (V.rest c).collecting.ended) → (z.sizes.threads ≤ by → IsResting p) →
      Owners z (s.word Phase) (upd V.position by p) V.own → (IsInOrLeaving p → IsInOrLeaving q) →
      (by < z.sizes.threads → IsDue p (s.caller by).target) →
      RuleOf z g (put s.word (StateOf by) n) s.page (views_of (upd s.caller by (record (s.caller by) { position = p }))) s.history
  stands_by q p n at idle idle' out state at_end rests owners stays due =
      let u : View = record (s.caller by) { position = p } in
      let none = none_taken q at (not_asking z q idle) in
      let target = (s.caller by).target in
      subst (λ W. RuleOf z g (put s.word (StateOf by) n) s.page W s.history)
      (sym (views_moved s.caller by u refl (position_put s.caller by u) (local_same s.caller by u refl) (header_same s.caller by u refl)
      (own_same s.caller by u refl) (taken_same s.caller by u refl) (log_same s.caller by u refl)))
      (record {
        told = told_at z V.position by p g s.history V.log V.target V.calls V.births rule.told
            (idle_calls p target idle' ∙ sym (ap (λ x. under_way x target) at ∙ idle_calls q target idle))
            (idle_births p idle' ∙ sym (ap births_under_way at ∙ idle_births q idle));
        formed = formed_at z V.position by p V.width rule.formed (idle_right z p idle');
        read_right = record {
          each = λ c l. upd_case (λ k x. k < z.sizes.threads → IsReadAt (shapes g) (g.local k) x (V.header k)) V.position by p
              (λ _. idle_read (shapes g) (g.local by) p (V.header by) idle') c (λ _ l. rule.read_right.each c l) l;
        };
        localed = locals_moved z (shapes g) g.local (λ c i. s.word (Local c i)) V.position V.local rule.localed by p
            (λ i _ h. not_writing q idle i (subst (λ x. IsWriting x i) at h)) (idle_due p (V.local by) idle');
        stands = record {
          timed = rule.stands.timed;
          headed = rule.stands.headed;
          fielded = rule.stands.fielded;
          cleared = cleared_at z V.position by p (λ b. s.word (Body b)) V.local V.local V.taken (λ c ne. refl) rule.stands.cleared
              (idle_cleared z (λ b. s.word (Body b)) (V.local by) p (V.taken by) idle');
          globaled = rule.stands.globaled;
          named = rule.stands.named;
          apart = apart_at z V.position by p g.born (shapes g) V.taken rule.stands.apart none;
          stated = record {
            each = λ c l. upd_case2 (λ k w x. k ≤ z.sizes.threads → w ≡ state_number x) (λ c. s.word (StateOf c)) V.position by n p (λ _. sym state) c
                (λ _ l. rule.stands.stated.each c l) l;
            resting = λ c l m. upd_case (λ k x. z.sizes.threads ≤ k → IsResting x) V.position by p rests c
                (λ _ l. rule.stands.stated.resting c l m) l;
          };
          at_end = at_end;
          polling = polled_at z V.position by p g.paused (s.word Phase) (s.word Want) V.polled V.target V.log rule.stands.polling
              (λ h. absurd (out h)) (λ h. absurd (out (busy_in p h))) due;
          owners = owners;
          stopped = stopped_at z V.position by p (s.word Phase) (λ c. (V.rest c).collecting.counted) rule.stands.stopped
              (λ _ h. subst (λ x. IsInOrLeaving x) (sym at) (stays h));
          wanted = rule.stands.wanted;
          working = rule.stands.working;
          framed = rule.stands.framed;
          housed = rule.stands.housed;
          handed = rule.stands.handed;
          classed = rule.stands.classed;
          placed = rule.stands.placed;
          taken_in = taken_in_at z V.position by p V.own V.taken (λ c. (V.rest c).sweep) rule.stands.taken_in none;
        };
        phased = record { in_mark = λ e. let m = rule.phased.in_mark e in record { marking = m.marking; headers = m.headers }; at_rest = rule.phased.at_rest };
      })
    where
      busy_in : (p : Position) → IsBusy p → IsIn p
      busy_in Waiting h = absurd h
      busy_in _ h = h

module _ (z : Ground) (s : State) (by : ℕ) (less : by < z.sizes.threads) (g : Graph) (rule : RuleOf z g s.word s.page
    (views_of s.caller) s.history) where
  abbrev U : Views
  U = views_of s.caller

  pub none_asked : (q : Position) → (s.caller by).position ≡ q → ((t : Taken) → ¬ IsAskedBy z q t) → (s.caller by).taken ≡ None
  none_asked = none_taken z s by (omega (arith, less)) g rule

  -- a mutator with nothing under way that has not ended does so
  pub idle_moved : (q p : Position) (n : ℕ) → (s.caller by).position ≡ q → IsIdle q → q ≢ Ended → IsIdle p → ¬ IsIn p →
      state_number p ≡ n →
      Owners z (s.word Phase) (upd U.position by p) U.own → (IsInOrLeaving p → IsInOrLeaving q) → IsDue p (s.caller by).target →
      RuleOf z g (put s.word (StateOf by) n) s.page (views_of (upd s.caller by (record (s.caller by) { position = p }))) s.history
  idle_moved q p n at idle going idle' out state owners stays due =
      stands_by z s by (omega (arith, less)) g rule q p n at idle idle' out state
      (at_end_at z U.position by p (λ c. (U.rest c).collecting.ended) rule.stands.at_end less (λ e. going (sym at ∙ e)))
      (λ l. absurd (omega (arith, less, l))) owners stays (λ _. due)

  -- where a caller that owns no frame stands elsewhere
  pub owners_gone : (p : Position) → ((j : ℕ) → owns (s.caller by) j ≡ None) → Owners z (s.word Phase) (upd U.position by p) U.own
  owners_gone p none = record { each = λ c j o l e. at c j o l e (rule.stands.owners.each c j o l e) }
    where
      at : (c j : ℕ) (o : Open) → c < callers z.sizes → U.own c j ≡ Some o → MayOwn z (s.word Phase) U.position c →
          MayOwn z (s.word Phase) (upd U.position by p) c
      at c j o l e (inl h) =
          inl (
            h.0,
            upd_case (λ k x. U.own k j ≡ Some o → IsInOrLeaving x) U.position by p
                (λ e. let i : Option.None ≡ Some o = sym (none j) ∙ e in absurd (cc)) c (λ ne e. h.1) e,
          )
      at c j o l e (inr h) = inr h

  -- a mutator that is neither in nor leaving owns no frame
  pub none_out : (q : Position) → (s.caller by).position ≡ q → ¬ IsInOrLeaving q → (j : ℕ) → owns (s.caller by) j ≡ None
  none_out q at out j = by_case (owns (s.caller by) j) refl
    where
      by_case : (x : Option Open) → owns (s.caller by) j ≡ x → x ≡ None
      by_case None e = refl
      by_case (Some o) e = absurd (no_owner (rule.stands.owners.each by j o (omega arith) e))
        where
          no_owner : MayOwn z (s.word Phase) U.position by → ⊥
          no_owner (inl h) = out (subst (λ x. IsInOrLeaving x) at h.1)
          no_owner (inr h) = let e = h.0 in omega arith
