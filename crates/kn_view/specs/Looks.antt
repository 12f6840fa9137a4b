-- What a caller saw of frames in the search under way, by what is stored.
use Rattle.std.specs.Prelude.{ℕ, ◌<◌, ◌==◌, Bool, false, cond, [], Option, Some, None}
use Rattle.kn_rule.specs.Views.{Sweep}
use Rattle.kn_view.specs.declared.looks.Look.{Look}
use Rattle.kn_view.specs.declared.looks.SweepPlace.{SweepPlace}

-- the word seen in this search
abbrev pub seen_in : ℕ → Look → Option ℕ
seen_in search look = cond (look.seen_in == search) (Some look.word) None

-- refused in this search
abbrev pub refused_in : ℕ → Look → Bool
refused_in search look = look.refused_in == search

-- seen and refused in earlier searches alone
abbrev pub IsBefore : ℕ → Look → Type 0
IsBefore search look = (look.seen_in < search) × (look.refused_in < search)

-- a sweep in which nothing was read
abbrev pub sweep_at : SweepPlace → Sweep
sweep_at place = record { frame = place.frame; at = place.at; mark = None; header = None; extra = None; released = false; found = [] }

abbrev pub sweep_from : ℕ → Option ℕ → Option Sweep
sweep_from frame None = None
sweep_from frame (Some at) = Some (sweep_at (record { frame = frame; at = at }))
