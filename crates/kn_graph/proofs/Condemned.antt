-- An object is condemned exactly where it was unreachable at some pause.
use Rattle.std.proofs.Common.{◌≡◌, ℕ, ◌<◌, ◌⊎◌, ◌↔◌, inl, inr, Bool, true, false, List, [], ◌∷◌, Some, refl, sym, subst, ap}
use Rattle.std.proofs.Common.{◌∙◌}
use Rattle.kn_graph.specs.declared.entries.Event.{Event}
use Rattle.kn_graph.specs.declared.entries.Event.TheVariants as events
use Rattle.kn_graph.specs.declared.entries.Entry.{Entry}
use Rattle.kn_graph.specs.Ground.{Ground}
use Rattle.kn_graph.specs.Graph.{Graph, empty_graph, with_entered}
use Rattle.kn_graph.specs.Reachable.{IsReachable}
use Rattle.kn_graph.specs.Collections.{Condemns}
use Rattle.kn_graph.specs.Histories.{Leads, Follows, EventFollows}
use Rattle.kn_graph.specs.Sound.{IsSound}
use Rattle.kn_graph.specs.Growth.{CondemnsNone}
use Rattle.kn_graph.specs.Counts.{is_pause}
use Rattle.kn_graph.specs.Epochs.{WasUnreachable}
use Rattle.kn_graph.proofs.Answered.{answer_changes}
use Rattle.kn_graph.proofs.LegalGraphs.{next_sound, legal_sound, empty_sound}
use Rattle.kn_graph.proofs.OneEnd.{one_end}
use Rattle.kn_graph.proofs.Splits.{cut}
use Rattle.kn_graph.proofs.Successors.{change_succeeds, object_condemns_none, leads_succeeds}

module _ (z : Ground) where
  -- what an entry condemns was unreachable before it
  module _ (g : Graph) (s : IsSound z g) (n : ℕ) where
    by_pause : (c : Bool) → (g.object n).condemned ≡ c → (flag : ℕ → Bool) → Condemns g flag → n < g.born → flag n ≡ true →
        ((n < g.born) × ((g.object n).condemned ≡ true)) ⊎ (¬ IsReachable g n)
    by_pause true e flag condemns near new = inl (near, e)
    by_pause false e flag condemns near new = inr (λ r. let h : true ≡ false = sym new ∙ (condemns.born n near).1 (r, e) in absurd (cc))

    of_pause : (e : ℕ) → n < g.born → ((n < g.born) × ((g.object n).condemned ≡ true)) ⊎ (¬ IsReachable g n) →
        ((n < g.born) × ((g.object n).condemned ≡ true)) ⊎ ((k : ℕ) × (events.Pause e ≡ events.Pause k) × (n < g.born) × (¬ IsReachable g n))
    of_pause e near (inl old) = inl old
    of_pause e near (inr gone) = inr (e, refl, near, gone)

    event_condemns : (by epoch : ℕ) (e : Event) (g' : Graph) → EventFollows z by epoch e g g' → n < g'.born → (g'.object n).condemned ≡ true →
        ((n < g.born) × ((g.object n).condemned ≡ true)) ⊎ ((k : ℕ) × (e ≡ events.Pause k) × (n < g.born) × (¬ IsReachable g n))
    event_condemns by epoch (events.Call call reply address) g' f near dead =
        inl ((change_succeeds z by g g' (answer_changes z by g s reply address g' call f.in_range f.answer)).1 n near dead)
    event_condemns by epoch (events.Pause e) g' f near dead =
        let old : n < g.born = subst (λ (x : Graph). n < x.born) f.1.after near in
        of_pause e old (by_pause (g.object n).condemned refl f.1.flag f.1.condemns old
        (subst (λ (x : Graph). (x.object n).condemned ≡ true) f.1.after dead))
    event_condemns by epoch (events.Released a) g' f near dead =
        let k = f.1.object in
        inl (subst (CondemnsNone g) (sym f.1.after) (object_condemns_none g k (record (g.object k) { released = true }) refl) n near dead)
    event_condemns by epoch (events.Queued a) g' f near dead =
        let k = f.1.object in
        inl (subst (CondemnsNone g) (sym f.1.after) (object_condemns_none g k (record (g.object k) { queued = true }) refl) n near dead)
    event_condemns by epoch (events.Finalized a c m) g' f near dead =
        let k = f.1.object in
        inl (subst (CondemnsNone g) (sym f.1.after) (object_condemns_none g k (record (g.object k) { finalized = Some g.paused }) refl) n near dead)
    event_condemns by epoch (events.Done e) g' f near dead =
        let same : CondemnsNone g (record g { done = e }) = λ n near dead. (near, dead) in
        inl (subst (CondemnsNone g) (sym f.1.after) same n near dead)

    next_condemns : (entry : Entry) (g' : Graph) → Follows z entry g g' → n < g'.born → (g'.object n).condemned ≡ true →
        ((n < g.born) × ((g.object n).condemned ≡ true)) ⊎ ((k : ℕ) × (entry.what ≡ events.Pause k) × (n < g.born) × (¬ IsReachable g n))
    next_condemns entry g' f near dead = event_condemns entry.by.0 entry.epoch entry.what f.graph f.event
        (subst (λ (x : Graph). n < x.born) f.after near) (subst (λ (x : Graph). (x.object n).condemned ≡ true) f.after dead)

  pub condemns_none : (entry : Entry) (g g' : Graph) → IsSound z g → Follows z entry g g' → is_pause entry.what ≡ false → CondemnsNone g g'
  condemns_none entry g g' s f quiet n near dead = at (next_condemns g s n entry g' f near dead)
    where
      at : ((n < g.born) × ((g.object n).condemned ≡ true)) ⊎ ((k : ℕ) × (entry.what ≡ events.Pause k) × (n < g.born) × (¬ IsReachable g n)) →
          (n < g.born) × ((g.object n).condemned ≡ true)
      at (inl old) = old
      at (inr p) = let h : false ≡ true = sym quiet ∙ ap is_pause p.1 in absurd (cc)

  later : (entry : Entry) (h : List Entry) (g mid : Graph) (n : ℕ) → Follows z entry g mid → WasUnreachable z mid h n →
      WasUnreachable z g (entry ∷ h) n
  later entry h g mid n f w = record {
    before = entry ∷ w.before;
    pause = w.pause;
    epoch = w.epoch;
    is_pause = w.is_pause;
    graph = w.graph;
    born = w.born;
    unreachable = w.unreachable;
    happens = record { after = w.happens.after; whole = ap (λ (x : List Entry). entry ∷ x) w.happens.whole; leads = (mid, f, w.happens.leads) };
  }

  condemned_since : (h : List Entry) (g g' : Graph) (n : ℕ) → IsSound z g → Leads z g h g' → n < g'.born → (g'.object n).condemned ≡ true →
      ((n < g.born) × ((g.object n).condemned ≡ true)) ⊎ WasUnreachable z g h n
  condemned_since [] g g' n s l near dead =
      inl (subst (λ (x : Graph). n < x.born) (sym l) near, subst (λ (x : Graph). (x.object n).condemned ≡ true) (sym l) dead)
  condemned_since (entry ∷ h) g g' n s l near dead = at (condemned_since h l.0 g' n (next_sound z entry g l.0 s l.1) l.2 near dead)
    where
      here : ((n < g.born) × ((g.object n).condemned ≡ true)) ⊎ ((k : ℕ) × (entry.what ≡ events.Pause k) × (n < g.born) × (¬ IsReachable g n)) →
          ((n < g.born) × ((g.object n).condemned ≡ true)) ⊎ WasUnreachable z g (entry ∷ h) n
      here (inl old) = inl old
      here (inr p) = inr (record {
        before = [];
        pause = entry;
        epoch = p.0;
        is_pause = p.1;
        graph = g;
        born = p.2;
        unreachable = p.3;
        happens = record { after = h; whole = refl; leads = refl };
      })

      at : ((n < l.0.born) × ((l.0.object n).condemned ≡ true)) ⊎ WasUnreachable z l.0 h n →
          ((n < g.born) × ((g.object n).condemned ≡ true)) ⊎ WasUnreachable z g (entry ∷ h) n
      at (inl old) = here (next_condemns g s n entry l.0 l.1 old.0 old.1)
      at (inr w) = inr (later entry h g l.0 n l.1 w)

  -- a pause condemns what is unreachable
  module _ (g : Graph) (n : ℕ) (near : n < g.born) (gone : ¬ IsReachable g n) where
    set_flag : (b : Bool) → (b ≡ false → ⊥) → b ≡ true
    set_flag true f = refl
    set_flag false f = absurd (f refl)

    pause_condemns : (entry : Entry) (e : ℕ) (g' : Graph) → entry.what ≡ events.Pause e → Follows z entry g g' →
        (n < g'.born) × ((g'.object n).condemned ≡ true)
    pause_condemns entry e g' is f =
        let p = (subst (λ (x : Event). EventFollows z entry.by.0 entry.epoch x g f.graph) is f.event).1 in
        let both : (n < g.born) × (p.flag n ≡ true) = (near, set_flag (p.flag n) (λ free. gone ((p.condemns.born n near).0 free).0)) in
        subst (λ (x : Graph). (n < x.born) × ((x.object n).condemned ≡ true))
        (sym (f.after ∙ ap (λ (x : Graph). with_entered x entry.by.0 entry.epoch) p.after)) both

  module _ (h : List Entry) (g : Graph) (n : ℕ) (l : Leads z empty_graph h g) where
    unreachable_condemned : WasUnreachable z empty_graph h n → (g.object n).condemned ≡ true
    unreachable_condemned w =
        let b = w.happens in
        let c = cut z w.before (w.pause ∷ b.after) empty_graph g (subst (λ (x : List Entry). Leads z empty_graph x g) b.whole l) in
        let same : c.0 ≡ w.graph = one_end z w.before empty_graph c.0 w.graph (empty_sound z) c.1 b.leads in
        let r = subst (λ (x : Graph). Leads z x (w.pause ∷ b.after) g) same c.2 in
        let s = legal_sound z w.before w.graph b.leads in
        let p = pause_condemns w.graph n w.born w.unreachable w.pause w.epoch r.0 w.is_pause r.1 in
        ((leads_succeeds z b.after r.0 g (next_sound z w.pause w.graph r.0 s r.1) r.2).objects n p.0).condemned p.1

    of_start : ((n < 0) × (false ≡ true)) ⊎ WasUnreachable z empty_graph h n → WasUnreachable z empty_graph h n
    of_start (inl old) = absurd (cc)
    of_start (inr w) = w

    pub condemned_exactly : n < g.born → ((g.object n).condemned ≡ true) ↔ WasUnreachable z empty_graph h n
    condemned_exactly near = (λ dead. of_start (condemned_since h empty_graph g n (empty_sound z) l near dead), unreachable_condemned)
