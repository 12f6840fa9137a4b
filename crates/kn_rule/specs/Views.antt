-- What each caller knows, and the state that all callers share.
use Rattle.std.specs.Prelude.{ℕ, Bool, List, Option, Some, None, slice_get, slice_index, length}
use Rattle.kn_base.specs.declared.numbers.Span.{Span}
use Rattle.kn_base.specs.declared.places.Place.{Place}
use Rattle.kn_base.specs.Pages.{FrameView}
use Rattle.kn_graph.specs.declared.entries.Entry.{Entry}
use Rattle.kn_marking.specs.declared.work.Work.{Work}
use Rattle.kn_rule.specs.declared.positions.Position.{Position}
use Rattle.kn_rule.specs.declared.parts.Taken.{Taken}
use Rattle.kn_rule.specs.declared.parts.Referring.{Referring}
use Rattle.kn_rule.specs.declared.parts.Finalizing.{Finalizing}

-- a frame that the caller owns: its word, and the free spans and the cursor of its page
pub record Open : Type 0 where
  pub word : ℕ
  pub free : List Span
  pub cursor : ℕ

-- the sweep of a frame: the place reached, what was read of the cell there (its mark, its header, the side word of its extra
-- cell), whether it was released, and the free spans found so far
pub record Sweep : Type 0 where
  pub frame : ℕ
  pub at : ℕ
  pub mark : Option ℕ
  pub header : Option ℕ
  pub extra : Option ℕ
  pub released : Bool
  pub found : List Span

-- what the collector keeps: the phase word that it stored last, the epoch wanted that it loaded last, the mutators counted in
-- this stop and those seen ended, whether marking was seen over, the names checked, the frames prepared, the frame and its
-- word whose store is due, and the frames seen finished
pub record Collecting : Type 0 where
  pub stored : ℕ
  pub wanted : ℕ
  pub counted : List Bool
  pub ended : List Bool
  pub over : Bool
  pub checked : List Bool
  pub prepared : List Bool
  pub due : Option (ℕ × ℕ)
  pub finished : List Bool

-- what one caller knows: where it stands; the phase word of its last poll; its target, which is the epoch that it wants by a
-- `gc` that is not answered; its locals; the header word read for the call under way; by frame, the word seen last in this search, whether it
-- was refused in it, and what it has of the frame where it owns it; the cell taken; the frame swept; its share in marking, and its part in
-- names, in collecting and in finalizing; its log; and how many calls and births it has begun
pub record View : Type 0 where
  pub position : Position
  pub polled : ℕ
  pub target : Option ℕ
  pub locals : List ℕ
  pub header : Option ℕ
  pub seen : List (Option ℕ)
  pub refused : List Bool
  pub owned : List (Option Open)
  pub taken : Option Taken
  pub sweep : Option Sweep
  pub work : Work
  pub referring : Referring
  pub collecting : Collecting
  pub finalizing : Finalizing
  pub log : List Entry
  pub calls : ℕ
  pub births : ℕ

-- the shared state: the words, the pages of the frames that no caller owns, the views by caller, and the history
pub record State : Type 0 where
  pub word : Place → ℕ
  pub page : ℕ → Option FrameView
  pub caller : ℕ → View
  pub history : List Entry

abbrev pub flattened : {A : Type 0} → Option (Option A) → Option A
flattened None = None
flattened (Some x) = x

-- what a view has of a frame that it owns
abbrev pub owns : View → ℕ → Option Open
owns v p = flattened (slice_get v.owned p)

-- what a view has for a local
abbrev pub local_of : View → ℕ → ℕ
local_of v r = slice_index v.locals r

-- what a view has for sweeps, marking, names, collecting and finalizing
pub record Rest : Type 0 where
  pub sweep : Option Sweep
  pub work : Work
  pub referring : Referring
  pub collecting : Collecting
  pub finalizing : Finalizing

abbrev pub rest_of : View → Rest
rest_of v = record { sweep = v.sweep; work = v.work; referring = v.referring; collecting = v.collecting; finalizing = v.finalizing }

-- what the views say, part by part, each by caller; `width` is how many locals and how many frames a view has room for
pub record Views : Type 0 where
  pub position : ℕ → Position
  pub polled : ℕ → ℕ
  pub target : ℕ → Option ℕ
  pub local : ℕ → ℕ → ℕ
  pub header : ℕ → Option ℕ
  pub own : ℕ → ℕ → Option Open
  pub taken : ℕ → Option Taken
  pub log : ℕ → List Entry
  pub calls : ℕ → ℕ
  pub births : ℕ → ℕ
  pub rest : ℕ → Rest
  pub width : ℕ → ℕ × ℕ

abbrev pub views_of : (ℕ → View) → Views
views_of caller = record {
  position = λ c. (caller c).position;
  polled = λ c. (caller c).polled;
  target = λ c. (caller c).target;
  local = λ c. local_of (caller c);
  header = λ c. (caller c).header;
  own = λ c. owns (caller c);
  taken = λ c. (caller c).taken;
  log = λ c. (caller c).log;
  calls = λ c. (caller c).calls;
  births = λ c. (caller c).births;
  rest = λ c. rest_of (caller c);
  width = λ c. (length (caller c).locals, length (caller c).owned);
}
