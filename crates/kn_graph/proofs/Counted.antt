-- How many entries of each kind a history has.
use Rattle.std.proofs.Common.{◌≡◌, ℕ, ◌+◌, ◌≤◌, Bool, true, false, ◌&&◌, cond, List, [], ◌∷◌}
use Rattle.std.proofs.Common.{refl, sym, ap, ◌∙◌, arith}
use Rattle.std.proofs.lemmas.List.Sums.{sum_by-cons, sum_by-append}
use Rattle.kn_graph.specs.declared.entries.Event.{Event}
use Rattle.kn_graph.specs.declared.entries.Event.TheVariants as events
use Rattle.kn_graph.specs.declared.entries.Entry.{Entry}
use Rattle.kn_graph.specs.Ground.{Ground}
use Rattle.kn_graph.specs.Graph.{Graph, with_entered}
use Rattle.kn_graph.specs.Histories.{Leads, EventFollows}
use Rattle.kn_graph.specs.Logs.{calls_of, call_in}
use Rattle.kn_graph.specs.Sound.{IsSound}
use Rattle.kn_graph.specs.Counts.{makes_object, is_ok, births_among, is_pause, is_done, is_birth}
use Rattle.kn_graph.specs.Counts.{how_many}
use Rattle.kn_graph.proofs.Answered.{answer_changes, answer_born}
use Rattle.kn_graph.proofs.LegalGraphs.{next_sound}
use Rattle.kn_graph.proofs.Successors.{change_epochs}

module _ (z : Ground) where
  -- a number of the graph that rises by one at each event of a kind, and stays at each other one
  module _ (kind : Event → Bool) (part : Graph → ℕ) (free : (g : Graph) (by epoch : ℕ) → part (with_entered g by epoch) ≡ part g)
      (step : (by epoch : ℕ) (e : Event) (g g' : Graph) → IsSound z g → EventFollows z by epoch e g g' → part g' ≡ cond (kind e) 1 0 + part g) where
    pub counted : (h : List Entry) (g g' : Graph) → IsSound z g → Leads z g h g' → part g' ≡ how_many kind h + part g
    counted [] g g' s l = ap part (sym l) ∙ omega arith
    counted (e ∷ h) g g' s l =
        let rest = counted h l.0 g' (next_sound z e g l.0 s l.1) l.2 in
        let one = ap part l.1.after ∙ (free l.1.graph e.by.0 e.epoch ∙ step e.by.0 e.epoch e.what g l.1.graph s l.1.event) in
        let more = sum_by-cons (λ (x : Entry). cond (kind x.what) 1 0) e h in
        omega (arith, rest, one, more)

  event_paused : (by epoch : ℕ) (e : Event) (g g' : Graph) → IsSound z g → EventFollows z by epoch e g g' →
      g'.paused ≡ cond (is_pause e) 1 0 + g.paused
  event_paused by epoch (events.Call call reply address) g g' s f =
      let same = change_epochs z by g g' (answer_changes z by g s reply address g' call f.in_range f.answer) in omega (arith, same.0)
  event_paused by epoch (events.Pause e) g g' s f = omega (arith, ap (λ (x : Graph). x.paused) f.1.after, f.1.next)
  event_paused by epoch (events.Released a) g g' s f = omega (arith, ap (λ (x : Graph). x.paused) f.1.after)
  event_paused by epoch (events.Queued a) g g' s f = omega (arith, ap (λ (x : Graph). x.paused) f.1.after)
  event_paused by epoch (events.Finalized a c n) g g' s f = omega (arith, ap (λ (x : Graph). x.paused) f.1.after)
  event_paused by epoch (events.Done e) g g' s f = omega (arith, ap (λ (x : Graph). x.paused) f.1.after)

  event_ended : (by epoch : ℕ) (e : Event) (g g' : Graph) → IsSound z g → EventFollows z by epoch e g g' → g'.done ≡ cond (is_done e) 1 0 + g.done
  event_ended by epoch (events.Call call reply address) g g' s f =
      let same = change_epochs z by g g' (answer_changes z by g s reply address g' call f.in_range f.answer) in omega (arith, same.1)
  event_ended by epoch (events.Pause e) g g' s f = omega (arith, ap (λ (x : Graph). x.done) f.1.after)
  event_ended by epoch (events.Released a) g g' s f = omega (arith, ap (λ (x : Graph). x.done) f.1.after)
  event_ended by epoch (events.Queued a) g g' s f = omega (arith, ap (λ (x : Graph). x.done) f.1.after)
  event_ended by epoch (events.Finalized a c n) g g' s f = omega (arith, ap (λ (x : Graph). x.done) f.1.after)
  event_ended by epoch (events.Done e) g g' s f = omega (arith, ap (λ (x : Graph). x.done) f.1.after, f.1.last, f.1.first, s.ahead)

  event_born : (by epoch : ℕ) (e : Event) (g g' : Graph) → IsSound z g → EventFollows z by epoch e g g' → g'.born ≡ cond (is_birth e) 1 0 + g.born
  event_born by epoch (events.Call call reply address) g g' s f = answer_born z by g s reply address g' call f.in_range f.answer
  event_born by epoch (events.Pause e) g g' s f = omega (arith, ap (λ (x : Graph). x.born) f.1.after)
  event_born by epoch (events.Released a) g g' s f = omega (arith, ap (λ (x : Graph). x.born) f.1.after)
  event_born by epoch (events.Queued a) g g' s f = omega (arith, ap (λ (x : Graph). x.born) f.1.after)
  event_born by epoch (events.Finalized a c n) g g' s f = omega (arith, ap (λ (x : Graph). x.born) f.1.after)
  event_born by epoch (events.Done e) g g' s f = omega (arith, ap (λ (x : Graph). x.born) f.1.after)

  pub pauses_counted : (h : List Entry) (g g' : Graph) → IsSound z g → Leads z g h g' → g'.paused ≡ how_many is_pause h + g.paused
  pauses_counted = counted is_pause (λ g. g.paused) (λ g by epoch. refl) event_paused

  pub dones_counted : (h : List Entry) (g g' : Graph) → IsSound z g → Leads z g h g' → g'.done ≡ how_many is_done h + g.done
  dones_counted = counted is_done (λ g. g.done) (λ g by epoch. refl) event_ended

  pub births_counted : (h : List Entry) (g g' : Graph) → IsSound z g → Leads z g h g' → g'.born ≡ how_many is_birth h + g.born
  births_counted = counted is_birth (λ g. g.born) (λ g by epoch. refl) event_born

birth_called : (e : Event) → cond (is_birth e) 1 0 ≤ births_among (call_in e)
birth_called (events.Call c reply address) = at (makes_object c) (is_ok reply)
  where
    at : (b k : Bool) → cond (b && k) 1 0 ≤ 0 + cond b 1 0
    at true true = omega arith
    at true false = omega arith
    at false k = omega arith
birth_called (events.Pause e) = omega arith
birth_called (events.Released a) = omega arith
birth_called (events.Queued a) = omega arith
birth_called (events.Finalized a c n) = omega arith
birth_called (events.Done e) = omega arith

-- each object that was born had its call
pub births_called : (h : List Entry) → how_many is_birth h ≤ births_among (calls_of h)
births_called [] = omega arith
births_called (e ∷ h) =
    omega (
      arith,
      births_called h,
      birth_called e.what,
      sum_by-cons (λ (x : Entry). cond (is_birth x.what) 1 0) e h,
      sum_by-append (λ c. cond (makes_object c) 1 0) (call_in e.what) (calls_of h),
    )
