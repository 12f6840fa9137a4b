-- What a safepoint keeps.
use Rattle.std.specs.Prelude.{ℕ}
use Rattle.kn_safepoint.specs.declared.stage.Stage.{Stage}
use Rattle.kn_safepoint.specs.declared.stage.Stage.TheVariants.{Out}

-- the number of its caller, and what it does next
pub record Kept : Type 0 where
  pub by : ℕ
  pub stage : Stage

-- a safepoint that has made no turn
abbrev pub new_kept : ℕ → Kept
new_kept c = record { by = c; stage = Out }
