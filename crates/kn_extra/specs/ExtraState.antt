-- What a page of extra cells is seen as.
use Rattle.std.specs.Prelude.{List, [], ◌∷◌}
use Rattle.kn_base.specs.declared.numbers.Span.{Span}

-- the frame's span, and the free spans in order
pub record ExtraState : Type 0 where
  pub frame : Span
  pub spans : List Span

-- a page over a frame all of whose words are free
abbrev pub whole_extra_page : Span → ExtraState
whole_extra_page frame = record { frame = frame; spans = frame ∷ [] }
