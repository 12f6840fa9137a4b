-- Histories of calls and pauses alone.
use Rattle.std.specs.Prelude.{◌≡◌, ℕ, ◌<◌, List, [], ◌∷◌}
use Rattle.std.specs.List.{AllByRecursion}
use Rattle.kn_rule.specs.declared.steps.Kind.{Kind}
use Rattle.kn_rule.specs.declared.steps.Kind.TheVariants.{K14}
use Rattle.kn_graph.specs.declared.entries.Event.{Event}
use Rattle.kn_graph.specs.declared.entries.Event.TheVariants as events
use Rattle.kn_graph.specs.declared.entries.Entry.{Entry}

-- a call was answered
abbrev pub IsCall : Event → Type 0
IsCall (events.Call call reply address) = Unit {0}
IsCall _ = ⊥

-- a pause came
abbrev pub IsPause : Event → Type 0
IsPause (events.Pause e) = Unit {0}
IsPause _ = ⊥

-- an entry answers a call of one of so many threads, or is a pause of the collector
abbrev pub IsMadeBy : ℕ → ℕ → Event → Type 0
IsMadeBy threads by (events.Call call reply address) = by < threads
IsMadeBy threads by (events.Pause e) = by ≡ threads
IsMadeBy threads by _ = ⊥

-- every entry is such a one
abbrev pub AreMade : ℕ → List Entry → Type 0
AreMade threads = AllByRecursion (λ entry. IsMadeBy threads entry.by.0 entry.what)

-- there is no entry, or one of this caller, which is of a sort
abbrev pub IsAtMostOne : (Event → Type 0) → ℕ → List Entry → Type 0
IsAtMostOne IsSort by [] = Unit {0}
IsAtMostOne IsSort by (entry ∷ []) = (entry.by.0 ≡ by) × IsSort entry.what
IsAtMostOne IsSort by (entry ∷ next ∷ rest) = ⊥

-- what a step of a kind says is of a sort: a store of the phase says a pause, and any other step answers a call
abbrev pub IsOfKind : Kind → Event → Type 0
IsOfKind K14 = IsPause
IsOfKind _ = IsCall
