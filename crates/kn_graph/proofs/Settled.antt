-- Once an epoch is done, and before a further pause, what is condemned is released or queued.
use Rattle.std.proofs.Common.{◌≡◌, ℕ, ◌<◌, ◌⊎◌, ◌↔◌, inl, inr, Bool, true, false, List, [], ◌∷◌, Option, Some, None, refl, sym}
use Rattle.std.proofs.Common.{subst, ◌∙◌, arith}
use Rattle.std.specs.List.{AllByRecursion}
use Rattle.kn_graph.specs.declared.entries.Event.{Event}
use Rattle.kn_graph.specs.declared.entries.Event.TheVariants as events
use Rattle.kn_graph.specs.declared.entries.Entry.{Entry}
use Rattle.kn_graph.specs.Ground.{Ground}
use Rattle.kn_graph.specs.Graph.{Graph}
use Rattle.kn_graph.specs.Histories.{Leads, Follows, EventFollows}
use Rattle.kn_graph.specs.Sound.{IsSound, IsDone}
use Rattle.kn_graph.specs.Counts.{is_pause}
use Rattle.kn_graph.proofs.Answered.{answer_changes}
use Rattle.kn_graph.proofs.LegalGraphs.{next_sound}
use Rattle.kn_graph.proofs.Successors.{change_epochs}

module _ (z : Ground) (g : Graph) (s : IsSound z g) where
  module _ (n : ℕ) (near : n < g.born) where
    must_be : (c r : Bool) → (c ≡ false → r ≡ false) → r ≡ true → c ≡ true
    must_be true r f e = refl
    must_be false r f e = sym (f refl) ∙ e

    gone_condemned : ((g.object n).released ≡ true) ⊎ ((g.object n).queued ≡ true) → (g.object n).condemned ≡ true
    gone_condemned (inl e) = must_be (g.object n).condemned (g.object n).released (s.flags n near).released e
    gone_condemned (inr e) = must_be (g.object n).condemned (g.object n).queued (s.flags n near).queued e

    condemned_gone : g.done ≡ g.paused → (g.object n).condemned ≡ true → (t : Option (ℕ × ℕ)) → (g.object n).tie ≡ t →
        ((g.object n).released ≡ true) ⊎ ((g.object n).queued ≡ true)
    condemned_gone d c None e = inl ((s.settled d n near).plain c e)
    condemned_gone d c (Some t) e =
        inr ((s.settled d n near).tied c (λ f. let h : ◌≡◌ {A = Option (ℕ × ℕ)} None (Some t) = sym f ∙ e in absurd (cc)))

    pub gone_exactly : g.done ≡ g.paused → (((g.object n).released ≡ true) ⊎ ((g.object n).queued ≡ true)) ↔ ((g.object n).condemned ≡ true)
    gone_exactly d = (gone_condemned, λ c. condemned_gone d c (g.object n).tie refl)

module _ (z : Ground) where
  event_done : (by epoch : ℕ) (e : Event) (g g' : Graph) → IsSound z g → is_pause e ≡ false → IsDone g → EventFollows z by epoch e g g' →
      IsDone g'
  event_done by epoch (events.Call call reply address) g g' s quiet d f =
      let same = change_epochs z by g g' (answer_changes z by g s reply address g' call f.in_range f.answer) in same.1 ∙ (d ∙ sym same.0)
  event_done by epoch (events.Pause e) g g' s quiet d f = absurd (cc)
  event_done by epoch (events.Released a) g g' s quiet d f = subst IsDone (sym f.1.after) d
  event_done by epoch (events.Queued a) g g' s quiet d f = subst IsDone (sym f.1.after) d
  event_done by epoch (events.Finalized a c k) g g' s quiet d f = subst IsDone (sym f.1.after) d
  event_done by epoch (events.Done e) g g' s quiet d f = let first = f.1.first in let last = f.1.last in absurd (omega arith)

  next_done : (entry : Entry) (g g' : Graph) → IsSound z g → is_pause entry.what ≡ false → IsDone g → Follows z entry g g' → IsDone g'
  next_done entry g g' s quiet d f = subst IsDone (sym f.after) (event_done entry.by.0 entry.epoch entry.what g f.graph s quiet d f.event)

  still_done : (h : List Entry) (g g' : Graph) → IsSound z g → AllByRecursion (λ entry. is_pause entry.what ≡ false) h → IsDone g →
      Leads z g h g' →
      IsDone g'
  still_done [] g g' s quiet d l = subst IsDone l d
  still_done (e ∷ h) g g' s quiet d l = still_done h l.0 g' (next_sound z e g l.0 s l.1) quiet.1 (next_done e g l.0 s quiet.0 d l.1) l.2

  done_at : (by epoch e : ℕ) (what : Event) (g g' : Graph) → what ≡ events.Done e → EventFollows z by epoch what g g' → IsDone g'
  done_at by epoch e what g g' is f = let d = (subst (λ (x : Event). EventFollows z by epoch x g g') is f).1 in subst IsDone (sym d.after) d.last

  -- behind the end of an epoch, and before a further pause, the last pause is that of an epoch that is done
  pub done_then : (e : ℕ) (entry : Entry) (h : List Entry) (g g' : Graph) → IsSound z g → entry.what ≡ events.Done e →
      AllByRecursion (λ entry. is_pause entry.what ≡ false) h → Leads z g (entry ∷ h) g' → IsDone g'
  done_then e entry h g g' s is quiet l =
      let f = l.1 in
      still_done h l.0 g' (next_sound z entry g l.0 s f) quiet
      (subst IsDone (sym f.after) (done_at entry.by.0 entry.epoch e entry.what g f.graph is f.event)) l.2
