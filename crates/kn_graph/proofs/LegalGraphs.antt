-- After every legal history the graph is sound.
use Rattle.std.proofs.Common.{ℕ, ◌<◌, Option, Some, List, [], ◌∷◌, sym, subst, arith}
use Rattle.kn_base.specs.Functions.{upd}
use Rattle.kn_graph.specs.declared.entries.Event.{Event}
use Rattle.kn_graph.specs.declared.entries.Event.TheVariants as events
use Rattle.kn_graph.specs.declared.entries.Entry.{Entry}
use Rattle.kn_graph.specs.Ground.{Ground}
use Rattle.kn_graph.specs.Graph.{Graph, shapes, empty_graph}
use Rattle.kn_graph.specs.Collections.{IsSettled, DoneFollows}
use Rattle.kn_graph.specs.Histories.{Leads, Follows, EventFollows}
use Rattle.kn_graph.specs.Sound.{RootsAlive, HoldInRange, NamesBorn, IsSound}
use Rattle.kn_graph.specs.Changes.{Changes, nothing, of_local, of_global, of_stable, of_weak, of_back, of_count, of_points, of_number}
use Rattle.kn_graph.specs.Changes.{of_tie, of_birth}
use Rattle.kn_graph.proofs.Writes.{local_alive, global_alive, stable_alive, back_alive, count_alive, local_in_range, global_in_range}
use Rattle.kn_graph.proofs.Writes.{stable_in_range, weak_in_range, back_in_range, weak_born, back_born, count_born}
use Rattle.kn_graph.proofs.ObjectChanges.{points_sound, number_sound, tie_sound, release_sound, queue_sound, finalize_sound}
use Rattle.kn_graph.proofs.Births.{birth_sound}
use Rattle.kn_graph.proofs.Pauses.{pause_sound}
use Rattle.kn_graph.proofs.Answered.{answer_changes}

module _ (z : Ground) where
  -- locals, globals and names are others, and the epochs of callers
  held : (g : Graph) → IsSound z g →
      {local : ℕ → ℕ → Option ℕ} {global stable weak back : ℕ → Option ℕ} {count : ℕ → ℕ} (entered : ℕ → ℕ) →
      RootsAlive g.born (shapes g) local global stable back count → HoldInRange z.sizes local global stable weak back →
      NamesBorn g.born weak back count →
      IsSound z (record g { local = local; global = global; stable = stable; weak = weak; back = back; count = count; entered = entered })
  held g s entered roots ranges names = record {
    roots = roots;
    ranges = ranges;
    names = names;
    fields = s.fields;
    flags = s.flags;
    cells = s.cells;
    apart = s.apart;
    epochs = s.epochs;
    ahead = s.ahead;
    settled = s.settled;
  }

  module _ (g : Graph) (s : IsSound z g) (thread : ℕ) (near : thread < z.sizes.threads) where
    change_sound : (g' : Graph) → Changes z thread g g' → IsSound z g'
    change_sound g' nothing = s
    change_sound g' (of_local r x small a) = held g s g.entered
        (local_alive g.born (shapes g) g.local g.global g.stable g.back g.count s.roots thread r x a)
        (local_in_range z.sizes g.local g.global g.stable g.weak g.back s.ranges thread r x near small) s.names
    change_sound g' (of_global i x fit a) = held g s g.entered
        (global_alive g.born (shapes g) g.local g.global g.stable g.back g.count s.roots i x a)
        (global_in_range z.sizes g.local g.global g.stable g.weak g.back s.ranges i x fit) s.names
    change_sound g' (of_stable h x fit a) = held g s g.entered
        (stable_alive g.born (shapes g) g.local g.global g.stable g.back g.count s.roots h x a)
        (stable_in_range z.sizes g.local g.global g.stable g.weak g.back s.ranges h x fit) s.names
    change_sound g' (of_weak w n fit a) = held g s g.entered s.roots
        (weak_in_range z.sizes g.local g.global g.stable g.weak g.back s.ranges w (Some n) fit)
        (weak_born g.born g.weak g.back g.count s.names w n a.0)
    change_sound g' (of_back b n fit a) = held g s g.entered
        (back_alive g.born (shapes g) g.local g.global g.stable g.back g.count s.roots b n)
        (back_in_range z.sizes g.local g.global g.stable g.weak g.back s.ranges b (Some n) fit)
        (back_born g.born g.weak g.back g.count s.names b n a.0)
    change_sound g' (of_count b c small a) = held g s g.entered
        (count_alive g.born (shapes g) g.local g.global g.stable g.back g.count s.roots b c a) s.ranges
        (count_born g.born g.weak g.back g.count s.names b c small)
    change_sound g' (of_points n f x o kind a) = points_sound z g s n o.0 f x kind a
    change_sound g' (of_number n f x o) = number_sound z g s n o.0 f x
    change_sound g' (of_tie n c k o e) = tie_sound z g s n o.0 c k o.1
    change_sound g' (of_birth r address layout fields small laid_out legal) =
        birth_sound z g s thread r address layout fields near small laid_out legal

  done_sound : (e : ℕ) (g g' : Graph) → IsSound z g → DoneFollows e g g' → IsSound z g'
  done_sound e g g' s f = subst (IsSound z) (sym f.after) (record {
    roots = s.roots;
    ranges = s.ranges;
    names = s.names;
    fields = s.fields;
    flags = s.flags;
    cells = s.cells;
    apart = s.apart;
    epochs = let last = f.last in omega arith;
    ahead = let last = f.last in omega arith;
    settled = λ same n near. subst (λ (k : ℕ). IsSettled k (g.object n)) f.last (f.settled n near);
  })

  event_sound : (by epoch : ℕ) (e : Event) (g g' : Graph) → IsSound z g → EventFollows z by epoch e g g' → IsSound z g'
  event_sound by epoch (events.Call call reply address) g g' s f =
      change_sound g s by f.by_thread g' (answer_changes z by g s reply address g' call f.in_range f.answer)
  event_sound by epoch (events.Pause e) g g' s f = subst (IsSound z) (sym f.1.after)
      (pause_sound z g s f.1.flag f.1.condemns e f.1.next f.1.last_done)
  event_sound by epoch (events.Released a) g g' s f =
      let r = f.1 in subst (IsSound z) (sym r.after) (release_sound z g s r.object r.named.lives.0 r.condemned r.loose)
  event_sound by epoch (events.Queued a) g g' s f =
      let r = f.1 in subst (IsSound z) (sym r.after) (queue_sound z g s r.object r.named.lives.0 r.condemned r.tied)
  event_sound by epoch (events.Finalized a c n) g g' s f =
      let r = f.1 in subst (IsSound z) (sym r.after) (finalize_sound z g s r.object r.named.lives.0 r.queued)
  event_sound by epoch (events.Done e) g g' s f = done_sound e g g' s f.1

  -- a legal entry leads from a sound graph to a sound one
  pub next_sound : (entry : Entry) (g g' : Graph) → IsSound z g → Follows z entry g g' → IsSound z g'
  next_sound entry g g' s f = subst (IsSound z) (sym f.after)
      (let m = event_sound entry.by.0 entry.epoch entry.what g f.graph s f.event in
      held f.graph m (upd f.graph.entered entry.by.0 entry.epoch) m.roots m.ranges m.names)

  pub leads_sound : (h : List Entry) (g g' : Graph) → IsSound z g → Leads z g h g' → IsSound z g'
  leads_sound [] g g' s l = subst (IsSound z) l s
  leads_sound (e ∷ h) g g' s l = leads_sound h l.0 g' (next_sound e g l.0 s l.1) l.2

  pub empty_sound : IsSound z empty_graph
  empty_sound = record {
    roots = record { locals = λ i r. tt; globals = λ i. tt; stables = λ h. tt; backs = λ b pos. tt };
    ranges = record {
      locals = λ i r n e. absurd (cc);
      globals = λ i n e. absurd (cc);
      stables = λ h n e. absurd (cc);
      weaks = λ w n e. absurd (cc);
      backs = λ b n e. absurd (cc);
    };
    names = record { weaks = λ w. tt; backs = λ b. tt; counts = λ b. omega arith };
    fields = λ n (l : n < 0). absurd (omega arith);
    flags = λ n (l : n < 0). absurd (omega arith);
    cells = λ n (l : n < 0). absurd (omega arith);
    apart = λ n m a b ne. let l : n < 0 = a.0 in absurd (omega arith);
    epochs = omega arith;
    ahead = omega arith;
    settled = λ e n (l : n < 0). absurd (omega arith);
  }

  pub legal_sound : (h : List Entry) (g : Graph) → Leads z empty_graph h g → IsSound z g
  legal_sound h g l = leads_sound h empty_graph g empty_sound l
