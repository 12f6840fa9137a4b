-- The value that a number packs: right for every number that packs one in range.
use Rattle.std.specs.Prelude.{◌≡◌, ℕ, ◌^◌, ◌/◌, ◌%◌, ◌==◌, cond}
use Rattle.kn_base.specs.declared.kinds.Code.{Code}
use Rattle.kn_base.specs.declared.kinds.Code.TheVariants as codes
use Rattle.kn_base.specs.declared.kinds.FrameKind.{FrameKind}
use Rattle.kn_base.specs.declared.kinds.FrameKind.TheVariants as frames
use Rattle.kn_base.specs.declared.kinds.NodeKind.{NodeKind}
use Rattle.kn_base.specs.declared.kinds.NodeKind.TheVariants as nodes
use Rattle.kn_base.specs.declared.phase_word.PhaseWord.{PhaseWord}
use Rattle.kn_base.specs.declared.frame_word.FrameWord.{FrameWord}
use Rattle.kn_base.specs.declared.node_word.NodeWord.{NodeWord}
use Rattle.kn_base.specs.declared.header_word.HeaderWord.{HeaderWord}
use Rattle.kn_base.specs.Words.{IsPhaseWord, packed_phase, IsFrameWord, packed_frame}

-- the phase of a number
abbrev pub code_of : ℕ → Code
code_of n =
    cond (n == 0) codes.Idle (cond (n == 1) codes.StopA (cond (n == 2) codes.Mark (cond (n == 3) codes.Weak (cond (n == 4) codes.StopB
    (cond (n == 5) codes.Prep codes.Sweep)))))

-- the kind of frame of a number
abbrev pub frame_kind_of : ℕ → FrameKind
frame_kind_of n =
    cond (n == 0) frames.Vacant (cond (n == 1) frames.Empty (cond (n == 2) frames.Ready (cond (n == 3) frames.Used
    (cond (n == 4) frames.Unswept frames.Owned))))

-- the kind of name of a number
abbrev pub node_kind_of : ℕ → NodeKind
node_kind_of n =
    cond (n == 0) nodes.Vacant (cond (n == 1) nodes.Stable (cond (n == 2) nodes.Weak (cond (n == 3) nodes.Back nodes.Cleared)))

-- the phase word of a number
unfoldable pub phase_of : ℕ → PhaseWord
phase_of w = record { epoch = w / 8; code = code_of (w % 8) }

-- the frame word of a number
unfoldable pub frame_of : ℕ → FrameWord
frame_of w = record { kind = frame_kind_of (w / 2 ^ 56); class = w % 2 ^ 56 / 2 ^ 40; stamp = w % 2 ^ 40 / 2 ^ 8; seat = w % 2 ^ 8 }

-- the node word of a number
unfoldable pub node_of : ℕ → NodeWord
node_of w = record { kind = node_kind_of (w / 2 ^ 56); count = w % 2 ^ 56 / 2 ^ 32; addr = w % 2 ^ 32 }

-- the header word of a number
unfoldable pub header_of : ℕ → HeaderWord
header_of w = record { layout = w / 2 ^ 48; length = w % 2 ^ 48 / 2 ^ 24; extra = w % 2 ^ 24 }

-- the number is the word of a phase
pub record PacksPhase (w : ℕ) : Type 0 where
  pub right : packed_phase (phase_of w) ≡ w
  pub ranges : IsPhaseWord (phase_of w)

-- the number is the word of a frame
pub record PacksFrame (w : ℕ) : Type 0 where
  pub right : packed_frame (frame_of w) ≡ w
  pub ranges : IsFrameWord (frame_of w)
