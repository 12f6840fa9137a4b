-- A graph goes on: what was born stays, no flag is taken back, and a pause alone condemns.
use Rattle.std.proofs.Common.{◌≡◌, ℕ, ◌+◌, ◌<◌, Bool, true, false, List, [], ◌∷◌, Option, Some, None, refl, sym, subst, ◌∙◌, arith}
use Rattle.kn_base.specs.Functions.{upd}
use Rattle.kn_base.proofs.Updates.{upd_case}
use Rattle.kn_graph.specs.declared.entries.Event.{Event}
use Rattle.kn_graph.specs.declared.entries.Event.TheVariants as events
use Rattle.kn_graph.specs.declared.entries.Entry.{Entry}
use Rattle.kn_graph.specs.Ground.{Ground}
use Rattle.kn_graph.specs.Graph.{Graph, Object, newborn, with_object, with_birth, with_local, with_global, with_stable, with_weak}
use Rattle.kn_graph.specs.Graph.{with_back, with_count}
use Rattle.kn_graph.specs.Collections.{Condemns, with_condemned}
use Rattle.kn_graph.specs.Histories.{Leads, Follows, EventFollows}
use Rattle.kn_graph.specs.Sound.{IsSound}
use Rattle.kn_graph.specs.Changes.{Changes, nothing, of_local, of_global, of_stable, of_weak, of_back, of_count, of_points, of_number}
use Rattle.kn_graph.specs.Changes.{of_tie, of_birth}
use Rattle.kn_graph.specs.Growth.{Endures, Succeeds, CondemnsNone}
use Rattle.kn_graph.proofs.Answered.{answer_changes}
use Rattle.kn_graph.proofs.LegalGraphs.{next_sound}

endures : (o : Object) → Endures o o
endures o = record {
  address = refl;
  layout = refl;
  length = refl;
  condemned = λ e. e;
  released = λ e. e;
  queued = λ e. e;
  tie = λ t e. e;
  finalized = λ p e. e;
}

-- an object with other fields, which keeps the flags that are set, its tie and its finalization
written_endures : (o : Object) {points : ℕ → Option ℕ} {number : ℕ → ℕ} {tie : Option (ℕ × ℕ)}
    {released queued : Bool} {finalized : Option ℕ} →
    (o.released ≡ true → released ≡ true) → (o.queued ≡ true → queued ≡ true) → ((t : ℕ × ℕ) → o.tie ≡ Some t → tie ≡ Some t) →
    ((pauses : ℕ) → o.finalized ≡ Some pauses → finalized ≡ Some pauses) →
    Endures o (record o { points = points; number = number; tie = tie; released = released; queued = queued; finalized = finalized })
written_endures o released_stays queued_stays tie_stays finalized_stays = record {
  address = refl;
  layout = refl;
  length = refl;
  condemned = λ e. e;
  released = released_stays;
  queued = queued_stays;
  tie = tie_stays;
  finalized = finalized_stays;
}

endures_on : (a b c : Object) → Endures a b → Endures b c → Endures a c
endures_on a b c p q = record {
  address = q.address ∙ p.address;
  layout = q.layout ∙ p.layout;
  length = q.length ∙ p.length;
  condemned = λ e. q.condemned (p.condemned e);
  released = λ e. q.released (p.released e);
  queued = λ e. q.queued (p.queued e);
  tie = λ t e. q.tie t (p.tie t e);
  finalized = λ k e. q.finalized k (p.finalized k e);
}

pub succeeds : (g : Graph) → Succeeds g g
succeeds g = record { born = omega arith; objects = λ n near. endures (g.object n); paused = omega arith; done = omega arith }

pub succeeds_on : (a b c : Graph) → Succeeds a b → Succeeds b c → Succeeds a c
succeeds_on a b c p q =
    let p1 = p.born in let q1 = q.born in let p2 = p.paused in let q2 = q.paused in let p3 = p.done in let q3 = q.done in record {
      born = omega arith;
      paused = omega arith;
      done = omega arith;
      objects = λ n near. endures_on (a.object n) (b.object n) (c.object n) (p.objects n near) (q.objects n (omega arith));
    }

-- one object is changed
module _ (g : Graph) (n : ℕ) (o : Object) where
  object_succeeds : Endures (g.object n) o → Succeeds g (with_object g n o)
  object_succeeds keeps = record {
    born = omega arith;
    paused = omega arith;
    done = omega arith;
    objects = λ k near. upd_case (λ k (y : Object). Endures (g.object k) y) g.object n o keeps k (λ _. endures (g.object k));
  }

  pub object_condemns_none : o.condemned ≡ (g.object n).condemned → CondemnsNone g (with_object g n o)
  object_condemns_none same k near = upd_case (λ k (y : Object). k < g.born → y.condemned ≡ true → (k < g.born) × ((g.object k).condemned ≡ true))
      g.object n o (λ h e. (h, sym same ∙ e)) k (λ _ h e. (h, e)) near

-- a birth
module _ (g : Graph) (thread r address layout n : ℕ) where
  birth_succeeds : Succeeds g (with_birth g thread r (newborn address layout n))
  birth_succeeds = record {
    born = omega arith;
    paused = omega arith;
    done = omega arith;
    objects = λ k near. upd_case (λ k (y : Object). k < g.born → Endures (g.object k) y) g.object g.born (newborn address layout n)
        (λ h. absurd (omega arith)) k (λ _ h. endures (g.object k)) near;
  }

  birth_condemns_none : CondemnsNone g (with_birth g thread r (newborn address layout n))
  birth_condemns_none k near = upd_case (λ k (y : Object). k < g.born + 1 → y.condemned ≡ true → (k < g.born) × ((g.object k).condemned ≡ true))
      g.object g.born (newborn address layout n) (λ h e. absurd (cc)) k (λ ne h e. (omega arith, e)) near

-- the objects and the epochs stay as they are
unchanged : (g g' : Graph) → g'.born ≡ g.born → ◌≡◌ {A = ℕ → Object} g'.object g.object → g'.paused ≡ g.paused → g'.done ≡ g.done →
    Succeeds g g' × CondemnsNone g g'
unchanged g g' b o p d = (
  record {
    born = omega arith;
    paused = omega arith;
    done = omega arith;
    objects = λ n near. subst (λ (f : ℕ → Object). Endures (g.object n) (f n)) (sym o) (endures (g.object n));
  },
  λ n near e. (omega arith, subst (λ (f : ℕ → Object). (f n).condemned ≡ true) o e),
)

module _ (z : Ground) where
  pub change_succeeds : (thread : ℕ) (g g' : Graph) → Changes z thread g g' → Succeeds g g' × CondemnsNone g g'
  change_succeeds thread g g' nothing = unchanged g g refl refl refl refl
  change_succeeds thread g g' (of_local r x small a) = unchanged g (with_local g thread r x) refl refl refl refl
  change_succeeds thread g g' (of_global i x fit a) = unchanged g (with_global g i x) refl refl refl refl
  change_succeeds thread g g' (of_stable h x fit a) = unchanged g (with_stable g h x) refl refl refl refl
  change_succeeds thread g g' (of_weak w n fit a) = unchanged g (with_weak g w n) refl refl refl refl
  change_succeeds thread g g' (of_back b n fit a) = unchanged g (with_back g b n) refl refl refl refl
  change_succeeds thread g g' (of_count b c small a) = unchanged g (with_count g b c) refl refl refl refl
  change_succeeds thread g g' (of_points n f x o kind a) =
      let new : Object = record (g.object n) { points = upd (g.object n).points f x } in (
        object_succeeds g n new (written_endures (g.object n) (λ e. e) (λ e. e) (λ t f. f) (λ p f. f)),
        object_condemns_none g n new refl,
      )
  change_succeeds thread g g' (of_number n f x o) =
      let new : Object = record (g.object n) { number = upd (g.object n).number f x } in (
        object_succeeds g n new (written_endures (g.object n) (λ e. e) (λ e. e) (λ t f. f) (λ p f. f)),
        object_condemns_none g n new refl,
      )
  change_succeeds thread g g' (of_tie n c k o e) =
      let new : Object = record (g.object n) { tie = Some (c, k) } in (
        object_succeeds g n new (written_endures (g.object n) (λ e. e) (λ e. e)
            (λ t f. let h : ◌≡◌ {A = Option (ℕ × ℕ)} None (Some t) = sym e ∙ f in absurd (cc))
            (λ p f. f)),
        object_condemns_none g n new refl,
      )
  change_succeeds thread g g' (of_birth r address layout fields small laid_out legal) =
      (birth_succeeds g thread r address layout fields, birth_condemns_none g thread r address layout fields)

  pub change_epochs : (thread : ℕ) (g g' : Graph) → Changes z thread g g' →
      (g'.paused ≡ g.paused) × (g'.done ≡ g.done) × (◌≡◌ {A = ℕ → ℕ} g'.entered g.entered)
  change_epochs thread g g' nothing = (refl, refl, refl)
  change_epochs thread g g' (of_local r x small a) = (refl, refl, refl)
  change_epochs thread g g' (of_global i x fit a) = (refl, refl, refl)
  change_epochs thread g g' (of_stable h x fit a) = (refl, refl, refl)
  change_epochs thread g g' (of_weak w n fit a) = (refl, refl, refl)
  change_epochs thread g g' (of_back b n fit a) = (refl, refl, refl)
  change_epochs thread g g' (of_count b c small a) = (refl, refl, refl)
  change_epochs thread g g' (of_points n f x o kind a) = (refl, refl, refl)
  change_epochs thread g g' (of_number n f x o) = (refl, refl, refl)
  change_epochs thread g g' (of_tie n c k o e) = (refl, refl, refl)
  change_epochs thread g g' (of_birth r address layout fields small laid_out legal) = (refl, refl, refl)

  -- a pause
  module _ (g : Graph) (flag : ℕ → Bool) (condemns : Condemns g flag) (e : ℕ) (next : e ≡ g.paused + 1) where
    must_stay : (b : Bool) → (b ≡ false → false ≡ true) → b ≡ true
    must_stay true f = refl
    must_stay false f = f refl

    stays : (n : ℕ) → n < g.born → (g.object n).condemned ≡ true → flag n ≡ true
    stays n near dead = must_stay (flag n) (λ free. sym ((condemns.born n near).0 free).1 ∙ dead)

    pause_succeeds : Succeeds g (record (with_condemned g flag) { paused = e })
    pause_succeeds = record {
      born = omega arith;
      paused = omega arith;
      done = omega arith;
      objects = λ n near. record {
        address = refl;
        layout = refl;
        length = refl;
        condemned = stays n near;
        released = λ e. e;
        queued = λ e. e;
        tie = λ t f. f;
        finalized = λ p f. f;
      };
    }

  module _ (g : Graph) (s : IsSound z g) where
    event_succeeds : (by epoch : ℕ) (e : Event) (g' : Graph) → EventFollows z by epoch e g g' → Succeeds g g'
    event_succeeds by epoch (events.Call call reply address) g' f =
        (change_succeeds by g g' (answer_changes z by g s reply address g' call f.in_range f.answer)).0
    event_succeeds by epoch (events.Pause e) g' f = subst (Succeeds g) (sym f.1.after) (pause_succeeds g f.1.flag f.1.condemns e f.1.next)
    event_succeeds by epoch (events.Released a) g' f =
        let n = f.1.object in
        subst (Succeeds g) (sym f.1.after) (object_succeeds g n (record (g.object n) { released = true })
        (written_endures (g.object n) (λ e. refl) (λ e. e) (λ t f. f) (λ p f. f)))
    event_succeeds by epoch (events.Queued a) g' f =
        let n = f.1.object in
        subst (Succeeds g) (sym f.1.after) (object_succeeds g n (record (g.object n) { queued = true })
        (written_endures (g.object n) (λ e. e) (λ e. refl) (λ t f. f) (λ p f. f)))
    event_succeeds by epoch (events.Finalized a c k) g' f =
        let n = f.1.object in
        subst (Succeeds g) (sym f.1.after) (object_succeeds g n (record (g.object n) { finalized = Some g.paused })
        (written_endures (g.object n) (λ e. e) (λ e. e)
        (λ t f. f)
        (λ p h. let e : ◌≡◌ {A = Option ℕ} None (Some p) = sym f.1.new ∙ h in absurd (cc))))
    event_succeeds by epoch (events.Done e) g' f =
        subst (Succeeds g) (sym f.1.after) (record {
          born = omega arith;
          paused = omega arith;
          objects = λ n near. endures (g.object n);
          done = let first = f.1.first in omega arith;
        })

  pub next_succeeds : (entry : Entry) (g g' : Graph) → IsSound z g → Follows z entry g g' → Succeeds g g'
  next_succeeds entry g g' s f =
      let m = event_succeeds g s entry.by.0 entry.epoch entry.what f.graph f.event in
      subst (Succeeds g) (sym f.after) (record { born = m.born; objects = m.objects; paused = m.paused; done = m.done })

  pub leads_succeeds : (h : List Entry) (g g' : Graph) → IsSound z g → Leads z g h g' → Succeeds g g'
  leads_succeeds [] g g' s l = subst (Succeeds g) l (succeeds g)
  leads_succeeds (e ∷ h) g g' s l =
      succeeds_on g l.0 g' (next_succeeds e g l.0 s l.1) (leads_succeeds h l.0 g' (next_sound z e g l.0 s l.1) l.2)
