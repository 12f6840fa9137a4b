-- What a phase word tells: the number of pauses before it, the last epoch done, and whether calls begin.
use Rattle.std.specs.Prelude.{ℕ, ◌-◌, Bool, true, false}
use Rattle.kn_base.specs.declared.kinds.Code.{Code}
use Rattle.kn_base.specs.declared.kinds.Code.TheVariants as codes
use Rattle.kn_base.specs.declared.phase_word.PhaseWord.{PhaseWord}

-- the phases in which calls begin
abbrev pub is_run : Code → Bool
is_run codes.Idle = true
is_run codes.Weak = true
is_run codes.Sweep = true
is_run _ = false

-- the phases in which mutators are stopped
abbrev pub is_stop : Code → Bool
is_stop codes.StopA = true
is_stop codes.StopB = true
is_stop _ = false

abbrev pauses_at : ℕ → Code → ℕ
pauses_at e codes.StopA = e - 1
pauses_at e codes.Mark = e - 1
pauses_at e _ = e

-- the number of pauses before a phase word: its epoch, and one less before the pause of that epoch
abbrev pub pauses : PhaseWord → ℕ
pauses v = pauses_at v.epoch v.code

abbrev last_done_at : ℕ → Code → ℕ
last_done_at e codes.Idle = e
last_done_at e _ = e - 1

-- the last epoch that is done at a phase word: its own where it is idle, and else the one before
abbrev pub last_done : PhaseWord → ℕ
last_done v = last_done_at v.epoch v.code
