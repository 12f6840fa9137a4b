-- The rule: what holds of the words, the pages, the views and the history between any two steps.
use Rattle.std.specs.Prelude.{◌≡◌, ℕ, ◌+◌, ◌<◌, true, false, List, [], replicate, Option, Some, None}
use Rattle.kn_base.specs.declared.limits.TheConstants.{LOCALS}
use Rattle.kn_base.specs.declared.heap.Sizes.{Sizes}
use Rattle.kn_base.specs.declared.places.Place.{Place}
use Rattle.kn_base.specs.declared.places.Place.TheVariants.{Phase, Want, Pending, State as StateOf, Local, Global, Node, Frame, Side, Body}
use Rattle.kn_base.specs.Sizes.{frame_count}
use Rattle.kn_base.specs.SpanLists.{IsWhollyFree}
use Rattle.kn_base.specs.Pages.{FrameView}
use Rattle.kn_graph.specs.declared.entries.Entry.{Entry}
use Rattle.kn_graph.specs.Ground.{Ground}
use Rattle.kn_graph.specs.Graph.{Graph, Shape, shapes, pointers, numbers}
use Rattle.kn_marking.specs.declared.work.Doing.TheVariants.{Free}
use Rattle.kn_marking.specs.declared.work.Child.TheVariants.{NoChild}
use Rattle.kn_rule.specs.declared.positions.Position.{Position}
use Rattle.kn_rule.specs.declared.positions.Position.TheVariants.{Out}
use Rattle.kn_rule.specs.declared.parts.Taken.{Taken}
use Rattle.kn_rule.specs.FrameSpans.{frame_span}
use Rattle.kn_rule.specs.Requests.{InArea}
use Rattle.kn_rule.specs.Views.{View, Views, State, Open, Rest, views_of}
use Rattle.kn_rule.specs.Steps.{Step, Found, callers}
use Rattle.kn_rule.specs.Moves.{Finds}
use Rattle.kn_rule.specs.HistoryClauses.{Told, Formed, Timed}
use Rattle.kn_rule.specs.ObjectClauses.{Headed, ReadRight, Fielded, Cleared, Localed, Globaled, Named, Apart}
use Rattle.kn_rule.specs.CallerClauses.{Stated, AtEnd, Polled, Owners, Stopped, Wanted, Working}
use Rattle.kn_rule.specs.FrameClauses.{Framed, IsFilled, Housed, Handed, Classed, Placed, TakenIn}
use Rattle.kn_rule.specs.MarkClauses.{Phased}

-- the clauses that speak of words, pages and objects, and of where callers stand, part by part
pub record Standing (z : Ground) (paused done born : ℕ) (shape : ℕ → Shape) (points : ℕ → ℕ → Option ℕ) (number : ℕ → ℕ → ℕ)
    (global stable weak back : ℕ → Option ℕ) (count : ℕ → ℕ) (phase want pending : ℕ)
    (state_word global_word node_word frame_word side body : ℕ →
    ℕ)
    (page : ℕ → Option FrameView) (position : ℕ → Position) (polled : ℕ → ℕ) (target : ℕ → Option ℕ) (local : ℕ → ℕ → ℕ)
    (own : ℕ → ℕ → Option Open) (taken : ℕ → Option Taken) (log : ℕ → List Entry) (rest : ℕ → Rest) : Type 0 where
  pub timed : Timed paused done phase (rest z.sizes.threads).collecting.stored
  pub headed : Headed z born shape side body
  pub fielded : Fielded z born shape points number body
  pub cleared : Cleared z body local position taken
  pub globaled : Globaled z shape global global_word
  pub named : Named z.sizes shape stable weak back count node_word
  pub apart : Apart z born shape position taken
  pub stated : Stated z state_word position
  pub at_end : AtEnd z position (λ c. (rest c).collecting.ended)
  pub polling : Polled z paused phase want position polled target log
  pub owners : Owners z phase position own
  pub stopped : Stopped z phase position (λ c. (rest c).collecting.counted)
  pub wanted : Wanted z phase want target log (rest z.sizes.threads).collecting.wanted
  pub working : Working z phase pending (rest z.sizes.threads).collecting.over
  pub framed : Framed (callers z.sizes) (frame_count z.sizes) frame_word own
  pub housed : Housed z.sizes (IsFilled z.sizes born shape side) frame_word page
  pub handed : Handed z.sizes (callers z.sizes) (IsFilled z.sizes born shape side) own taken (λ c. (rest c).sweep)
  pub classed : Classed z.sizes frame_word
  pub placed : Placed z.sizes born shape frame_word
  pub taken_in : TakenIn z position own taken (λ c. (rest c).sweep)

-- those clauses, of a graph, the words, the pages of frames that are not owned, and the views
abbrev pub Represents : Ground → Graph → (Place → ℕ) → (ℕ → Option FrameView) → Views → Type 0
Represents z g word page v =
    Standing z g.paused g.done g.born (shapes g) (pointers g) (numbers g) g.global g.stable g.weak g.back g.count (word Phase) (word Want) (word Pending)
    (λ c. word (StateOf c)) (λ i. word (Global i)) (λ k. word (Node k)) (λ p. word (Frame p)) (λ a. word (Side a)) (λ a. word (Body a)) page
    v.position v.polled v.target v.local v.own v.taken v.log v.rest

-- the words, the pages of frames that are not owned, the views and the history stand for the graph
pub record RuleOf (z : Ground) (g : Graph) (word : Place → ℕ) (page : ℕ → Option FrameView) (v : Views) (history : List Entry) : Type 0 where
  pub told : Told z g history v.log v.position v.target v.calls v.births
  pub formed : Formed z v.position v.width
  pub read_right : ReadRight z (shapes g) g.local v.position v.header
  pub localed : Localed z (shapes g) g.local (λ c r. word (Local c r)) v.position v.local
  pub stands : Represents z g word page v
  pub phased : Phased z g.paused g.born (shapes g) word (λ c. (v.rest c).work)

-- the state stands for some graph
abbrev pub Rule : Ground → State → Type 0
Rule z s = (g : Graph) × RuleOf z g s.word s.page (views_of s.caller) s.history

-- all that the rule gives for a caller's view and what its step found: some state meets the rule, in which the caller has the
-- view and the step finds that
abbrev pub Shown : Ground → ℕ → View → Step → Found → Type 0
Shown z c v d f = (s : State) × Rule z s × (s.caller c ≡ v) × Finds z s c d f

-- a caller that has made no step
abbrev pub fresh : Ground → View
fresh z = record {
  position = Out;
  polled = 0;
  target = None;
  locals = replicate LOCALS 0;
  header = None;
  seen = replicate (frame_count z.sizes) None;
  refused = replicate (frame_count z.sizes) false;
  owned = replicate (frame_count z.sizes) None;
  taken = None;
  sweep = None;
  work = record { epoch = 0; due = None; doing = Free; child = NoChild; owed = 0 };
  referring = record { node = None; shown = None; extra = None };
  collecting = record {
    stored = 0;
    wanted = 0;
    counted = replicate z.sizes.threads false;
    ended = replicate z.sizes.threads false;
    over = true;
    checked = replicate (z.sizes.weak + z.sizes.back) false;
    prepared = replicate (frame_count z.sizes) false;
    due = None;
    finished = replicate (frame_count z.sizes) false;
  };
  finalizing = record { at = 0; met = false; ended = false; queued = None; tie = None; object = None };
  log = [];
  calls = 0;
  births = 0;
}

-- the state at the start, over these pages
abbrev pub start : Ground → (ℕ → Option FrameView) → State
start z page = record { word = λ _. 0; page = page; caller = λ _. fresh z; history = [] }

-- each frame's page lies in its slot, wholly free
abbrev pub AllHome : Sizes → (ℕ → Option FrameView) → Type 0
AllHome z page =
    (p : ℕ) → p < frame_count z → (pg : FrameView) × (page p ≡ Some pg)
    × (pg.frame ≡ frame_span z p) × InArea z p pg.class × IsWhollyFree (frame_span z p) pg.free
