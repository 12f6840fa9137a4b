-- A state and an actor leave one turn.
use Rattle.std.proofs.Common.{◌≡◌, ℕ, ◌+◌, ◌<◌, ◌≤◌, ◌∙◌, ◌⊎◌, inl, inr, Bool, true, false, Some, List, []}
use Rattle.std.proofs.Common.{◌++◌, ◌∷◌}
use Rattle.std.proofs.Common.{refl, sym, ap, subst}
use Rattle.std.proofs.lemmas.Bool.{cases_lt, cases_order}
use Rattle.kn_base.specs.Functions.{upd}
use Rattle.kn_graph.specs.declared.calls.Call.{Call}
use Rattle.kn_graph.specs.Ground.{Ground}
use Rattle.kn_graph.specs.Graph.{Graph, pointers}
use Rattle.kn_graph.specs.Collections.{Condemns}
use Rattle.kn_lines.specs.declared.orders.Actor.{Actor}
use Rattle.kn_lines.specs.declared.orders.Actor.TheVariants.{Thread, Collector, Finalizer, Round}
use Rattle.kn_cms_rule.specs.declared.stages.Colour.{Colour}
use Rattle.kn_cms_rule.specs.declared.stages.Colour.TheVariants.{Black}
use Rattle.kn_cms_rule.specs.declared.stages.CmsTurn.{CmsTurn}
use Rattle.kn_cms_rule.specs.declared.stages.CmsTurn.TheVariants.{Idle}
use Rattle.kn_cms_rule.specs.declared.stages.Stage.{Stage}
use Rattle.kn_cms_rule.specs.declared.stages.Stage.TheVariants.{Waiting, Marking, Looking, Finished}
use Rattle.kn_cms_rule.specs.State.{State, IsRefField, shade}
use Rattle.kn_cms_rule.specs.Rule.{Rule}
use Rattle.kn_cms_rule.specs.Steps.{Begins, Blackens, Grays, IsHeld, IsNextRef, Looks, Snapshots, paused_graph, pause_entry}
use Rattle.kn_cms_rule.specs.Steps.{CollectorStep, snapshots, begins, looks, blackens, ends}
use Rattle.kn_cms_rule.specs.Turns.{CollectorTurn, IsFirstInMiddle, MayTurn, ThreadTurn, TurnOf, collector_answer, thread_answer}
use Rattle.kn_cms_rule.specs.Turns.{ended, moves, rests, stepped, waits}
use Rattle.kn_cms_rule.proofs.Turned.{idle_exactly}
use Rattle.kn_cms_bound.proofs.CollectorWork.{begins_born}
use Rattle.kn_cms_bound.proofs.OneStep.{has_left, one_step}

-- two flags that are clear in the same case are one
one_flag : (a b : Bool) → (a ≡ false → b ≡ false) → (b ≡ false → a ≡ false) → a ≡ b
one_flag true true f g = refl
one_flag true false f g = g refl
one_flag false true f g = sym (f refl)
one_flag false false f g = refl

one_condemned : (g : Graph) (flag flag' : ℕ → Bool) → Condemns g flag → Condemns g flag' → (n : ℕ) →
    (n < g.born) ⊎ (g.born ≤ n) → flag n ≡ flag' n
one_condemned g flag flag' c d n (inl near) =
    one_flag (flag n) (flag' n) (λ e. (d.born n near).1 ((c.born n near).0 e)) (λ e. (c.born n near).1 ((d.born n near).0 e))
one_condemned g flag flag' c d n (inr far) = c.unborn n far ∙ sym (d.unborn n far)

one_colour : (g : Graph) (old a b : ℕ → Colour) → Grays g old a → Grays g old b → (n : ℕ) → IsHeld g n ⊎ (a n ≡ old n) →
    IsHeld g n ⊎ (b n ≡ old n) → a n ≡ b n
one_colour g old a b k l n (inl h) y = k.held n h ∙ sym (l.held n h)
one_colour g old a b k l n (inr x) (inl h) = k.held n h ∙ sym (l.held n h)
one_colour g old a b k l n (inr x) (inr y) = x ∙ sym y

-- the first reference field from a place on is one
one_next : (z : Ground) (g : Graph) (n from f e : ℕ) → IsNextRef z g n from f → IsNextRef z g n from e → (f ≡ e) ⊎ ((f < e) ⊎ (e < f)) → f ≡ e
one_next z g n from f e k l (inl same) = same
one_next z g n from f e k l (inr (inl less)) = absurd (l.first f k.behind less k.kind)
one_next z g n from f e k l (inr (inr more)) = absurd (k.first e l.behind more l.kind)

module _ (z : Ground) (calls : ℕ → List Call) (s : State) (rule : Rule z calls s) where
  not_both : (a b : Stage) → s.stage ≡ a → s.stage ≡ b → a ≡ b
  not_both a b e f = sym e ∙ f

  -- the object and the place of the one begun
  one_begun : (n from m place : ℕ) → s.stage ≡ Looking n from → s.stage ≡ Looking m place → (n ≡ m) × (from ≡ place)
  one_begun n from m place e f = let g : Looking n from ≡ Looking m place = sym e ∙ f in (cc, cc)

  look_or_black : (n from f m place : ℕ) → IsNextRef z s.graph n from f → ((e : ℕ) → place ≤ e → ¬ IsRefField z s.graph m e) →
      n ≡ m → from ≡ place → ⊥
  look_or_black n from f m place k none same at =
      none f (subst (λ x. x ≤ f) at k.behind) (subst (λ x. IsRefField z s.graph x f) same k.kind)

  module _ (a b : State) where
    two_snapshots : Snapshots z s a → Snapshots z s b → a ≡ b
    two_snapshots k l =
        let flags : k.flag ≡ l.flag = λ t n. one_condemned s.graph k.flag l.flag k.condemns l.condemns n (cases_lt n s.graph.born) t in
        let colours : k.colour ≡ l.colour = λ t n.
        one_colour s.graph s.colour k.colour l.colour k.grays l.grays n (k.grays.others n) (l.grays.others n) t in
        let taken : (ℕ → Bool) → (ℕ → Colour) → State = λ (f : ℕ → Bool) (c : ℕ → Colour). record s {
          graph = paused_graph z s.graph f;
          colour = c;
          snapshot = Some s.graph;
          stage = Marking;
          history = s.history ++ pause_entry z ∷ [];
        } in
        k.after ∙ (ap (λ (f : ℕ → Bool). taken f k.colour) flags ∙ (ap (λ (c : ℕ → Colour). taken l.flag c) colours ∙ sym l.after))

    one_least : (k : Begins z s a) (l : Begins z s b) → (k.object ≡ l.object) ⊎ ((k.object < l.object) ⊎ (l.object < k.object)) →
        k.object ≡ l.object
    one_least k l (inl same) = same
    one_least k l (inr (inl less)) = absurd (l.least k.object less k.is_gray)
    one_least k l (inr (inr more)) = absurd (k.least l.object more l.is_gray)

    two_begun : Begins z s a → Begins z s b → a ≡ b
    two_begun k l =
        k.after ∙ (ap (λ (n : ℕ). let x : State = record s { stage = Looking n 0 } in x) (one_least k l (cases_order k.object l.object)) ∙ sym l.after)

    two_looks : Looks z s a → Looks z s b → a ≡ b
    two_looks k l =
        let same = one_begun k.object k.from l.object l.from k.begun l.begun in
        let next = subst (λ x. IsNextRef z s.graph x l.from l.field) (sym same.0) l.next in
        let next = subst (λ x. IsNextRef z s.graph k.object x l.field) (sym same.1) next in
        let fields = one_next z s.graph k.object k.from k.field l.field k.next next (cases_order k.field l.field) in
        let looked_so : ℕ → ℕ → State = λ (n f : ℕ). record s {
          stage = Looking n (f + 1);
          colour = shade s.colour (pointers s.graph n f);
          looked = upd s.looked n (upd (s.looked n) f true);
        } in
        k.after ∙ (ap (λ (n : ℕ). looked_so n k.field) same.0 ∙ (ap (λ (f : ℕ). looked_so l.object f) fields ∙ sym l.after))

    two_black : Blackens z s a → Blackens z s b → a ≡ b
    two_black k l =
        let same = one_begun k.object k.from l.object l.from k.begun l.begun in
        let black_so : ℕ → State = λ (n : ℕ). record s { stage = Marking; colour = upd s.colour n Black } in
        k.after ∙ (ap black_so same.0 ∙ sym l.after)

    -- two steps of the collector are one
    one_move : CollectorStep z s a → CollectorStep z s b → a ≡ b
    one_move (snapshots k) (snapshots l) = two_snapshots k l
    one_move (snapshots k) (begins l) = let e = not_both Waiting Marking k.waits l.marks in absurd (cc)
    one_move (snapshots k) (looks l) = let e = not_both Waiting (Looking l.object l.from) k.waits l.begun in absurd (cc)
    one_move (snapshots k) (blackens l) = let e = not_both Waiting (Looking l.object l.from) k.waits l.begun in absurd (cc)
    one_move (snapshots k) (ends l) = let e = not_both Waiting Marking k.waits l.marks in absurd (cc)
    one_move (begins k) (snapshots l) = let e = not_both Waiting Marking l.waits k.marks in absurd (cc)
    one_move (begins k) (begins l) = two_begun k l
    one_move (begins k) (looks l) = let e = not_both Marking (Looking l.object l.from) k.marks l.begun in absurd (cc)
    one_move (begins k) (blackens l) = let e = not_both Marking (Looking l.object l.from) k.marks l.begun in absurd (cc)
    one_move (begins k) (ends l) = absurd (l.none k.object (begins_born z calls s rule k.object k.marks k.is_gray) k.is_gray)
    one_move (looks k) (snapshots l) = let e = not_both Waiting (Looking k.object k.from) l.waits k.begun in absurd (cc)
    one_move (looks k) (begins l) = let e = not_both Marking (Looking k.object k.from) l.marks k.begun in absurd (cc)
    one_move (looks k) (looks l) = two_looks k l
    one_move (looks k) (blackens l) = let e = one_begun k.object k.from l.object l.from k.begun l.begun in
        absurd (look_or_black k.object k.from k.field l.object l.from k.next l.none e.0 e.1)
    one_move (looks k) (ends l) = let e = not_both Marking (Looking k.object k.from) l.marks k.begun in absurd (cc)
    one_move (blackens k) (snapshots l) = let e = not_both Waiting (Looking k.object k.from) l.waits k.begun in absurd (cc)
    one_move (blackens k) (begins l) = let e = not_both Marking (Looking k.object k.from) l.marks k.begun in absurd (cc)
    one_move (blackens k) (looks l) = let e = one_begun l.object l.from k.object k.from l.begun k.begun in
        absurd (look_or_black l.object l.from l.field k.object k.from l.next k.none e.0 e.1)
    one_move (blackens k) (blackens l) = two_black k l
    one_move (blackens k) (ends l) = let e = not_both Marking (Looking k.object k.from) l.marks k.begun in absurd (cc)
    one_move (ends k) (snapshots l) = let e = not_both Waiting Marking l.waits k.marks in absurd (cc)
    one_move (ends k) (begins l) = absurd (k.none l.object (begins_born z calls s rule l.object l.marks l.is_gray) l.is_gray)
    one_move (ends k) (looks l) = let e = not_both Marking (Looking l.object l.from) k.marks l.begun in absurd (cc)
    one_move (ends k) (blackens l) = let e = not_both Marking (Looking l.object l.from) k.marks l.begun in absurd (cc)
    one_move (ends k) (ends l) = k.after ∙ sym l.after

  never_idle : (stage : Stage) (i : ℕ) → collector_answer stage ≡ Idle i → ⊥
  never_idle Waiting i e = absurd (cc)
  never_idle Marking i e = absurd (cc)
  never_idle (Looking n f) i e = absurd (cc)
  never_idle Finished i e = absurd (cc)

  -- where the collector waits it makes no step, and where it has finished neither
  waits_or_moves : (a : State) (i : ℕ) → s.stage ≡ Waiting → IsFirstInMiddle z s i → CollectorStep z s a → ⊥
  waits_or_moves a i e first k = never_idle a.stage i ((idle_exactly z s a Collector (collector_answer a.stage) i (moves k)).1 (refl, e, first))

  never_moves : (a : State) → s.stage ≡ Finished → CollectorStep z s a → ⊥
  never_moves a e (snapshots k) = let f = not_both Waiting Finished k.waits e in absurd (cc)
  never_moves a e (begins k) = let f = not_both Marking Finished k.marks e in absurd (cc)
  never_moves a e (looks k) = let f = not_both (Looking k.object k.from) Finished k.begun e in absurd (cc)
  never_moves a e (blackens k) = let f = not_both (Looking k.object k.from) Finished k.begun e in absurd (cc)
  never_moves a e (ends k) = let f = not_both Marking Finished k.marks e in absurd (cc)

  one_collector : (a b : State) (t u : CmsTurn) → CollectorTurn z s t a → CollectorTurn z s u b → (t ≡ u) × (a ≡ b)
  one_collector a b t u (waits {i = i} e first) (waits {i = j} f second) =
      (sym ((idle_exactly z s s Collector (Idle j) i (waits f second)).1 (refl, e, first)), refl)
  one_collector a b t u (waits e first) (rests f) = let g = not_both Waiting Finished e f in absurd (cc)
  one_collector a b t u (waits {i = i} e first) (moves k) = absurd (waits_or_moves b i e first k)
  one_collector a b t u (rests e) (waits f first) = let g = not_both Waiting Finished f e in absurd (cc)
  one_collector a b t u (rests e) (rests f) = (refl, refl)
  one_collector a b t u (rests e) (moves k) = absurd (never_moves b e k)
  one_collector a b t u (moves k) (waits {i = i} e first) = absurd (waits_or_moves a i e first k)
  one_collector a b t u (moves k) (rests e) = absurd (never_moves a e k)
  one_collector a b t u (moves k) (moves l) = let same = one_move a b k l in (ap (λ (x : State). collector_answer x.stage) same, same)

  one_thread : (i : ℕ) → i < z.sizes.threads → (a b : State) (t u : CmsTurn) → ThreadTurn z s i t a → ThreadTurn z s i u b → (t ≡ u) × (a ≡ b)
  one_thread i near a b t u (ended e) (ended f) = (refl, refl)
  one_thread i near a b t u (ended e) (stepped k) = absurd (has_left z s i b (rule.in_middle i near) k e)
  one_thread i near a b t u (stepped k) (ended e) = absurd (has_left z s i a (rule.in_middle i near) k e)
  one_thread i near a b t u (stepped k) (stepped l) =
      let same = one_step z s i a b k l in (ap (λ (x : State). thread_answer (x.left i)) same, same)

  pub one_turn : (a b : State) (who : Actor) (t u : CmsTurn) → MayTurn z who → TurnOf z s who t a → TurnOf z s who u b → (t ≡ u) × (a ≡ b)
  one_turn a b (Thread i) t u may k l = one_thread i may a b t u k l
  one_turn a b Collector t u may k l = one_collector a b t u k l
  one_turn a b Finalizer t u may k l = absurd k
  one_turn a b Round t u may k l = absurd k
