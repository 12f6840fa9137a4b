-- How many objects are released, queued and finalized.
use Rattle.std.proofs.Common.{◌≡◌, ◌≢◌, ℕ, zero, suc, ◌+◌, ◌<◌, ◌≤◌, ◌⊎◌, inl, inr, Bool, true, false, cond, Option, Some}
use Rattle.std.proofs.Common.{None, List, refl, sym, subst, ap, ◌∙◌, add-one, arith}
use Rattle.std.specs.Option.{is_some}
use Rattle.std.proofs.lemmas.Bool.Decides.{eqb_tells}
use Rattle.kn_base.specs.Functions.{upd}
use Rattle.kn_base.specs.Functions.{Tells}
use Rattle.kn_base.proofs.Updates.{upd_here, upd_else, upd_case}
use Rattle.kn_graph.specs.declared.calls.Call.{Call}
use Rattle.kn_graph.specs.declared.calls.Reply.{Reply}
use Rattle.kn_graph.specs.declared.entries.Event.{Event}
use Rattle.kn_graph.specs.declared.entries.Event.TheVariants as events
use Rattle.kn_graph.specs.declared.entries.Entry.{Entry}
use Rattle.kn_graph.specs.Ground.{Ground}
use Rattle.kn_graph.specs.Graph.{Graph, Object, newborn}
use Rattle.kn_graph.specs.Histories.{Leads, EventFollows}
use Rattle.kn_graph.specs.Sound.{IsSound}
use Rattle.kn_graph.specs.Changes.{Changes, nothing, of_local, of_global, of_stable, of_weak, of_back, of_count, of_points, of_number}
use Rattle.kn_graph.specs.Changes.{of_tie, of_birth}
use Rattle.kn_graph.specs.Counts.{is_release, is_queueing, is_finalization, how_many, count_below, passing, is_finalized}
use Rattle.kn_graph.proofs.Answered.{answer_changes}
use Rattle.kn_graph.proofs.Counted.{counted}

count_same : (p q : ℕ → Bool) (n : ℕ) → ((k : ℕ) → k < n → p k ≡ q k) → count_below p n ≡ count_below q n
count_same p q zero f = refl
count_same p q (suc n) f =
    omega (arith, count_same p q n (λ k h. f k (omega arith)), ap {B = ℕ} (λ (b : Bool). cond b 1 0) (f n (omega arith)))

count_next : (p : ℕ → Bool) (n : ℕ) → count_below p (n + 1) ≡ cond (p n) 1 0 + count_below p n
count_next p n = ap (count_below p) (add-one n)

-- one number passes that did not
count_one : (p q : ℕ → Bool) (n k : ℕ) → k < n → p k ≡ false → q k ≡ true → ((j : ℕ) → k ≢ j → p j ≡ q j) →
    count_below q n ≡ 1 + count_below p n
count_one p q zero k h a b f = absurd (omega arith)
count_one p q (suc n) k h a b f = by (eqb_tells k n) (λ near. count_one p q n k near a b f)
  where
    by : Tells k n → (k < n → count_below q n ≡ 1 + count_below p n) → count_below q (suc n) ≡ 1 + count_below p (suc n)
    by (inl t) rest =
        let no_p : ◌≡◌ {A = ℕ} (cond (p n) 1 0) 0 = ap (λ (x : Bool). cond x 1 0) (ap p (sym t.1) ∙ a) in
        let one_q : ◌≡◌ {A = ℕ} (cond (q n) 1 0) 1 = ap (λ (x : Bool). cond x 1 0) (ap q (sym t.1) ∙ b) in
        omega (arith, count_same p q n (λ j h. f j (let e = t.1 in λ g. omega arith)), no_p, one_q)
    by (inr t) rest = let ne = t.1 in omega (arith, rest (omega arith), ap {B = ℕ} (λ (x : Bool). cond x 1 0) (f n t.1))

few_below : (p : ℕ → Bool) (n : ℕ) → count_below p n ≤ n
few_below p zero = omega arith
few_below p (suc n) = at (p n) (few_below p n)
  where
    at : (b : Bool) → count_below p n ≤ n → cond b 1 0 + count_below p n ≤ suc n
    at true h = omega arith
    at false h = omega arith

-- a test of objects that looks at neither fields, tie nor `condemned`, that no newborn object passes, and that the entries of a kind alone make
-- an object pass that did not
module _ (z : Ground) (test : Object → Bool) (kind : Event → Bool)
    (of_newborn : (a l n : ℕ) → test (newborn a l n) ≡ false)
    (of_fields : (o : Object) (p : ℕ → Option ℕ) (m : ℕ → ℕ) → test (record o { points = p; number = m }) ≡ test o)
    (of_tied : (o : Object) (t : Option (ℕ × ℕ)) → test (record o { tie = t }) ≡ test o)
    (of_condemned : (o : Object) (b : Bool) → test (record o { condemned = b }) ≡ test o)
    (of_call : (c : Call) (reply : Reply) (a : ℕ) → kind (events.Call c reply a) ≡ false)
    (of_pause : (e : ℕ) → kind (events.Pause e) ≡ false)
    (of_done : (e : ℕ) → kind (events.Done e) ≡ false)
    (of_release : (a : ℕ) (o : Object) → o.released ≡ false →
    ((kind (events.Released a) ≡ false) × (test (record o { released = true }) ≡ test o))
    ⊎ ((kind (events.Released a) ≡ true) × (test o ≡ false) × (test (record o { released = true }) ≡ true)))
    (of_queueing : (a : ℕ) (o : Object) → o.queued ≡ false →
    ((kind (events.Queued a) ≡ false) × (test (record o { queued = true }) ≡ test o))
    ⊎ ((kind (events.Queued a) ≡ true) × (test o ≡ false) × (test (record o { queued = true }) ≡ true)))
    (of_finalization : (a c k p : ℕ) (o : Object) → o.finalized ≡ None →
    ((kind (events.Finalized a c k) ≡ false) × (test (record o { finalized = Some p }) ≡ test o))
    ⊎ ((kind (events.Finalized a c k) ≡ true) × (test o ≡ false) × (test (record o { finalized = Some p }) ≡ true))) where
  same_at : (g : Graph) (n : ℕ) (o : Object) → test o ≡ test (g.object n) →
      count_below (λ k. test (upd g.object n o k)) g.born ≡ 0 + passing test g
  same_at g n o e = count_same (λ k. test (upd g.object n o k)) (λ k. test (g.object k)) g.born
      (λ k _. upd_case (λ k (y : Object). test y ≡ test (g.object k)) g.object n o e k (λ _. refl)) ∙ omega arith

  one_at : (g : Graph) (n : ℕ) (o : Object) → n < g.born → test (g.object n) ≡ false → test o ≡ true →
      count_below (λ k. test (upd g.object n o k)) g.born ≡ 1 + passing test g
  one_at g n o near a b = count_one (λ k. test (g.object k)) (λ k. test (upd g.object n o k)) g.born n near a (ap test (upd_here g.object n o) ∙ b)
      (λ k ne. ap test (sym (upd_else g.object n o k ne)))

  marked_at : (g : Graph) (n : ℕ) (o : Object) (e : Event) → n < g.born →
      ((kind e ≡ false) × (test o ≡ test (g.object n))) ⊎ ((kind e ≡ true) × (test (g.object n) ≡ false) × (test o ≡ true)) →
      count_below (λ k. test (upd g.object n o k)) g.born ≡ cond (kind e) 1 0 + passing test g
  marked_at g n o e near (inl m) =
      subst (λ (b : Bool). count_below (λ k. test (upd g.object n o k)) g.born ≡ cond b 1 0 + passing test g) (sym m.0) (same_at g n o m.1)
  marked_at g n o e near (inr m) =
      subst (λ (b : Bool). count_below (λ k. test (upd g.object n o k)) g.born ≡ cond b 1 0 + passing test g) (sym m.0) (one_at g n o near m.1 m.2)

  birth_at : (g : Graph) (new : Object) → test new ≡ false → count_below (λ k. test (upd g.object g.born new k)) (g.born + 1) ≡ passing test g
  birth_at g new e =
      let last : ◌≡◌ {A = ℕ} (cond (test (upd g.object g.born new g.born)) 1 0) 0 =
      ap {B = ℕ} (λ (b : Bool). cond b 1 0) (ap test (upd_here g.object g.born new) ∙ e) in
      let rest = count_same (λ k. test (upd g.object g.born new k)) (λ k. test (g.object k)) g.born
      (λ k h. ap test (upd_else g.object g.born new k (λ f. omega arith))) in
      omega (arith, count_next (λ k. test (upd g.object g.born new k)) g.born, last, rest)

  change_passing : (thread : ℕ) (g g' : Graph) → Changes z thread g g' → passing test g' ≡ passing test g
  change_passing thread g g' nothing = refl
  change_passing thread g g' (of_local r x small a) = refl
  change_passing thread g g' (of_global i x fit a) = refl
  change_passing thread g g' (of_stable h x fit a) = refl
  change_passing thread g g' (of_weak w n fit a) = refl
  change_passing thread g g' (of_back b n fit a) = refl
  change_passing thread g g' (of_count b c small a) = refl
  change_passing thread g g' (of_points n f x o kind a) =
      same_at g n (record (g.object n) { points = upd (g.object n).points f x })
      (of_fields (g.object n) (upd (g.object n).points f x) (g.object n).number)
      ∙ omega arith
  change_passing thread g g' (of_number n f x o) =
      same_at g n (record (g.object n) { number = upd (g.object n).number f x })
      (of_fields (g.object n) (g.object n).points (upd (g.object n).number f x))
      ∙ omega arith
  change_passing thread g g' (of_tie n c k o e) =
      same_at g n (record (g.object n) { tie = Some (c, k) }) (of_tied (g.object n) (Some (c, k))) ∙ omega arith
  change_passing thread g g' (of_birth r address layout fields small laid_out legal) =
      birth_at g (newborn address layout fields) (of_newborn address layout fields)

  quiet : (b : Bool) (x y : ℕ) → b ≡ false → x ≡ y → x ≡ cond b 1 0 + y
  quiet b x y e f = subst (λ (c : Bool). x ≡ cond c 1 0 + y) (sym e) (f ∙ omega arith)

  event_passing : (by epoch : ℕ) (e : Event) (g g' : Graph) → IsSound z g → EventFollows z by epoch e g g' →
      passing test g' ≡ cond (kind e) 1 0 + passing test g
  event_passing by epoch (events.Call c reply address) g g' s f = quiet _ _ _ (of_call c reply address)
      (change_passing by g g' (answer_changes z by g s reply address g' c f.in_range f.answer))
  event_passing by epoch (events.Pause e) g g' s f = quiet _ _ _ (of_pause e)
      (ap (passing test) f.1.after ∙ count_same (λ n. test (record (g.object n) { condemned = f.1.flag n })) (λ n. test (g.object n)) g.born
      (λ n _. of_condemned (g.object n) (f.1.flag n)))
  event_passing by epoch (events.Released a) g g' s f =
      let n = f.1.object in
      ap (passing test) f.1.after ∙ marked_at g n (record (g.object n) { released = true }) (events.Released a) f.1.named.lives.0
      (of_release a (g.object n) f.1.named.lives.1)
  event_passing by epoch (events.Queued a) g g' s f =
      let n = f.1.object in
      ap (passing test) f.1.after ∙ marked_at g n (record (g.object n) { queued = true }) (events.Queued a) f.1.named.lives.0
      (of_queueing a (g.object n) f.1.new)
  event_passing by epoch (events.Finalized a c k) g g' s f =
      let n = f.1.object in
      ap (passing test) f.1.after ∙ marked_at g n (record (g.object n) { finalized = Some g.paused }) (events.Finalized a c k) f.1.named.lives.0
      (of_finalization a c k g.paused (g.object n) f.1.new)
  event_passing by epoch (events.Done e) g g' s f = quiet _ _ _ (of_done e) (ap (passing test) f.1.after)

  passing_counted : (h : List Entry) (g g' : Graph) → IsSound z g → Leads z g h g' → passing test g' ≡ how_many kind h + passing test g
  passing_counted = counted z kind (passing test) (λ g by epoch. refl) event_passing

module _ (z : Ground) where
  pub releases_counted : (h : List Entry) (g g' : Graph) → IsSound z g → Leads z g h g' →
      passing (λ o. o.released) g' ≡ how_many is_release h + passing (λ o. o.released) g
  releases_counted = passing_counted z (λ o. o.released) is_release (λ _ _ _. refl) (λ _ _ _. refl) (λ _ _. refl) (λ _ _. refl)
      (λ _ _ _. refl) (λ _. refl) (λ _. refl) (λ a o e. inr (refl, e, refl)) (λ a o e. inl (refl, refl)) (λ a c k p o e. inl (refl, refl))

  pub queueings_counted : (h : List Entry) (g g' : Graph) → IsSound z g → Leads z g h g' →
      passing (λ o. o.queued) g' ≡ how_many is_queueing h + passing (λ o. o.queued) g
  queueings_counted = passing_counted z (λ o. o.queued) is_queueing (λ _ _ _. refl) (λ _ _ _. refl) (λ _ _. refl) (λ _ _. refl)
      (λ _ _ _. refl) (λ _. refl) (λ _. refl) (λ a o e. inl (refl, refl)) (λ a o e. inr (refl, e, refl)) (λ a c k p o e. inl (refl, refl))

  pub finalizations_counted : (h : List Entry) (g g' : Graph) → IsSound z g → Leads z g h g' →
      passing is_finalized g' ≡ how_many is_finalization h + passing is_finalized g
  finalizations_counted = passing_counted z is_finalized is_finalization (λ _ _ _. refl) (λ _ _ _. refl) (λ _ _. refl) (λ _ _. refl)
      (λ _ _ _. refl) (λ _. refl) (λ _. refl) (λ a o e. inl (refl, refl)) (λ a o e. inl (refl, refl)) (λ a c k p o e. inr (refl, ap is_some e, refl))

pub passing_few : (test : Object → Bool) (g : Graph) → passing test g ≤ g.born
passing_few test g = few_below (λ n. test (g.object n)) g.born
