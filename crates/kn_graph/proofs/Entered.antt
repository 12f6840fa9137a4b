-- The epochs of entries, and that of each caller's last one.
use Rattle.std.proofs.Common.{◌≡◌, ℕ, ◌<◌, ◌≤◌, Bool, true, false, cond, eqb, List, [], ◌∷◌, refl, sym, ap, ◌∙◌, arith}
use Rattle.std.specs.List.{AllByRecursion}
use Rattle.kn_base.specs.Functions.{upd}
use Rattle.kn_graph.specs.declared.entries.Event.{Event}
use Rattle.kn_graph.specs.declared.entries.Event.TheVariants as events
use Rattle.kn_graph.specs.declared.entries.Entry.{Entry}
use Rattle.kn_graph.specs.Ground.{Ground}
use Rattle.kn_graph.specs.Graph.{Graph}
use Rattle.kn_graph.specs.Histories.{Leads, Follows, EventFollows}
use Rattle.kn_graph.specs.Logs.{log_of}
use Rattle.kn_graph.specs.Sound.{IsSound}
use Rattle.kn_graph.specs.Epochs.{last_epoch}
use Rattle.kn_graph.proofs.Answered.{answer_changes}
use Rattle.kn_graph.proofs.LegalGraphs.{next_sound}
use Rattle.kn_graph.proofs.Successors.{change_epochs, leads_succeeds}

module _ (z : Ground) where
  event_entered : (by epoch : ℕ) (e : Event) (g g' : Graph) → IsSound z g → EventFollows z by epoch e g g' →
      ◌≡◌ {A = ℕ → ℕ} g'.entered g.entered
  event_entered by epoch (events.Call call reply address) g g' s f =
      (change_epochs z by g g' (answer_changes z by g s reply address g' call f.in_range f.answer)).2
  event_entered by epoch (events.Pause e) g g' s f = ap (λ (x : Graph). x.entered) f.1.after
  event_entered by epoch (events.Released a) g g' s f = ap (λ (x : Graph). x.entered) f.1.after
  event_entered by epoch (events.Queued a) g g' s f = ap (λ (x : Graph). x.entered) f.1.after
  event_entered by epoch (events.Finalized a c n) g g' s f = ap (λ (x : Graph). x.entered) f.1.after
  event_entered by epoch (events.Done e) g g' s f = ap (λ (x : Graph). x.entered) f.1.after

  next_entered : (entry : Entry) (g g' : Graph) → IsSound z g → Follows z entry g g' → (by : ℕ) →
      g'.entered by ≡ cond (eqb entry.by.0 by) entry.epoch (g.entered by)
  next_entered entry g g' s f by =
      ap (λ (x : Graph). x.entered by) f.after
      ∙ ap (λ (x : ℕ → ℕ). upd x entry.by.0 entry.epoch by) (event_entered entry.by.0 entry.epoch entry.what g f.graph s f.event)

  -- one entry before a log
  before_log : (b : Bool) (entry : Entry) (log : List Entry) (e : ℕ) →
      last_epoch (cond b entry.epoch e) log ≡ last_epoch e (cond b (entry ∷ log) log)
  before_log true entry log e = refl
  before_log false entry log e = refl

  -- a caller's last entry has the epoch that the graph keeps of it
  pub entered_last : (h : List Entry) (g g' : Graph) → IsSound z g → Leads z g h g' → (by : ℕ) →
      g'.entered by ≡ last_epoch (g.entered by) (log_of by h)
  entered_last [] g g' s l by = ap (λ (x : Graph). x.entered by) (sym l)
  entered_last (entry ∷ h) g g' s l by =
      entered_last h l.0 g' (next_sound z entry g l.0 s l.1) l.2 by
      ∙ (ap (λ e. last_epoch e (log_of by h)) (next_entered entry g l.0 s l.1 by)
      ∙ before_log (eqb entry.by.0 by) entry (log_of by h) (g.entered by))

  event_past : (by epoch : ℕ) (e : Event) (g g' : Graph) → IsSound z g → EventFollows z by epoch e g g' → epoch ≤ g'.paused
  event_past by epoch (events.Call call reply address) g g' s f =
      omega (arith, f.epoch_is, (change_epochs z by g g' (answer_changes z by g s reply address g' call f.in_range f.answer)).0)
  event_past by epoch (events.Pause e) g g' s f = omega (arith, f.0.epoch_is, ap (λ (x : Graph). x.paused) f.1.after)
  event_past by epoch (events.Released a) g g' s f = omega (arith, f.0.epoch_is, ap (λ (x : Graph). x.paused) f.1.after)
  event_past by epoch (events.Queued a) g g' s f = omega (arith, f.0.epoch_is, ap (λ (x : Graph). x.paused) f.1.after)
  event_past by epoch (events.Finalized a c n) g g' s f = omega (arith, f.0.epoch_is)
  event_past by epoch (events.Done e) g g' s f = omega (arith, f.0.epoch_is, f.1.last, ap (λ (x : Graph). x.paused) f.1.after)

  -- no entry has an epoch above the number of the last pause
  epochs_past : (h : List Entry) (g g' : Graph) → IsSound z g → Leads z g h g' → AllByRecursion (λ entry. entry.epoch ≤ g'.paused) h
  epochs_past [] g g' s l = tt
  epochs_past (entry ∷ h) g g' s l =
      let next = next_sound z entry g l.0 s l.1 in
      let more = (leads_succeeds z h l.0 g' next l.2).paused in
      let one = event_past entry.by.0 entry.epoch entry.what g l.1.graph s l.1.event in
      (omega (arith, one, more, ap (λ (x : Graph). x.paused) l.1.after), epochs_past h l.0 g' next l.2)

  last_below : (log : List Entry) (e n : ℕ) → e < n → AllByRecursion (λ entry. entry.epoch < n) log → last_epoch e log < n
  last_below [] e n near all = near
  last_below (entry ∷ log) e n near all = last_below log entry.epoch n all.0 all.1

  pub entered_below : (h : List Entry) (g g' : Graph) → IsSound z g → Leads z g h g' → (by n : ℕ) → g.entered by < n →
      AllByRecursion (λ entry. entry.epoch < n) (log_of by h) → g'.entered by < n
  entered_below h g g' s l by n near all = omega (arith, entered_last h g g' s l by, last_below (log_of by h) (g.entered by) n near all)

  log_past : (h : List Entry) (by n : ℕ) → AllByRecursion (λ entry. entry.epoch ≤ n) h → AllByRecursion (λ entry. entry.epoch ≤ n) (log_of by h)
  log_past [] by n all = tt
  log_past (entry ∷ h) by n all = at (eqb entry.by.0 by) (log_past h by n all.1)
    where
      at : (b : Bool) → AllByRecursion (λ entry. entry.epoch ≤ n) (log_of by h) →
          AllByRecursion (λ entry. entry.epoch ≤ n) (cond b (entry ∷ log_of by h) (log_of by h))
      at true rest = (all.0, rest)
      at false rest = rest

  pub epochs_all_past : (h : List Entry) (g g' : Graph) → IsSound z g → Leads z g h g' →
      AllByRecursion (λ entry. entry.epoch ≤ g'.paused) h × ((by : ℕ) → AllByRecursion (λ entry. entry.epoch ≤ g'.paused) (log_of by h))
  epochs_all_past h g g' s l = let all = epochs_past h g g' s l in (all, λ by. log_past h by g'.paused all)
