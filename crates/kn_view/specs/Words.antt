-- What an action asks of the word found.
use Rattle.std.specs.Prelude.{ℕ, ◌+◌, ◌<◌, ◌^◌}
use Rattle.kn_rule.specs.declared.steps.Action.{Action}
use Rattle.kn_rule.specs.declared.steps.Action.TheVariants.{Adds}

-- a sum is a word
abbrev pub MayLeave : Action → ℕ → Type 0
MayLeave (Adds n) word = word + n < 2 ^ 64
MayLeave _ word = Unit {0}
