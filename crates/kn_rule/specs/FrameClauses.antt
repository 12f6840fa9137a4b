-- The clauses of the rule on frames: who has them, their pages, their free words, their classes and the cells in them.
use Rattle.std.specs.Prelude.{◌≡◌, ◌≢◌, true, false, ℕ, ◌+◌, ◌*◌, ◌<◌, ◌≤◌, ◌⊎◌, ◌↔◌, List, Option, Some, None}
use Rattle.kn_base.specs.declared.numbers.Span.{Span}
use Rattle.kn_base.specs.declared.heap.Sizes.{Sizes}
use Rattle.kn_base.specs.declared.kinds.FrameKind.{FrameKind}
use Rattle.kn_base.specs.declared.kinds.FrameKind.TheVariants as frames
use Rattle.kn_base.specs.Sizes.{frame_count}
use Rattle.kn_base.specs.Spans.{LiesIn, end_of}
use Rattle.kn_base.specs.SpanLists.{HasWord, Covers, IsWhollyFree}
use Rattle.kn_base.specs.Pages.{FrameView}
use Rattle.kn_graph.specs.Ground.{Ground}
use Rattle.kn_graph.specs.Graph.{Shape, words_of, Lives}
use Rattle.kn_rule.specs.declared.positions.Position.{Position}
use Rattle.kn_rule.specs.declared.positions.Position.TheVariants.{Calling}
use Rattle.kn_rule.specs.declared.parts.Taken.{Taken}
use Rattle.kn_rule.specs.Decoding.{frame_of, PacksFrame}
use Rattle.kn_rule.specs.FrameSpans.{frame_span}
use Rattle.kn_rule.specs.Views.{Open, Sweep}
use Rattle.kn_rule.specs.Requests.{class_asked, InArea, IsCellOf, is_whole, has_room}
use Rattle.kn_rule.specs.Steps.{callers}

-- each frame's word packs a frame word; that of an owned frame names the one caller that has it, with this word
pub record Framed (n count : ℕ) (word : ℕ → ℕ) (own : ℕ → ℕ → Option Open) : Type 0 where
  pub packs : (p : ℕ) → p < count → PacksFrame (word p)
  pub named : (p : ℕ) → p < count → (frame_of (word p)).kind ≡ frames.Owned →
      ((frame_of (word p)).seat < n) × ((o : Open) × (own (frame_of (word p)).seat p ≡ Some o))
  pub owning : (p c : ℕ) (o : Open) → c < n → own c p ≡ Some o →
      (p < count) × (word p ≡ o.word) × ((frame_of (word p)).kind ≡ frames.Owned) × ((frame_of (word p)).seat ≡ c)

-- one of the cells of two words that an extra frame is cut into
pub record IsExtraCell (z : Sizes) (x : ℕ) : Type 0 where
  pub frame : ℕ
  pub from : z.small + z.large ≤ frame
  pub near : frame < frame_count z
  pub number : ℕ
  pub at : x ≡ (frame_span z frame).start + 2 * number
  pub inside : x + 2 ≤ end_of (frame_span z frame)

-- a word that an object that is not released covers, or an extra cell whose side word is not 0
abbrev pub IsFilled : Sizes → ℕ → (ℕ → Shape) → (ℕ → ℕ) → ℕ → Type 0
IsFilled z born shape side a =
    ((n : ℕ) × Lives born shape n × HasWord (words_of (shape n)) a)
    ⊎ ((x : ℕ) × IsExtraCell z x × (side x ≢ 0) × HasWord (record { start = x; len = 2 }) a)

-- a word of a cell that was taken
abbrev pub IsTakenWord : Option Taken → ℕ → Type 0
IsTakenWord None a = ⊥
IsTakenWord (Some t) a = HasWord t.span a

-- the free spans have exactly the words of the frame that are not filled
abbrev pub AreTheFree : Span → (ℕ → Type 0) → List Span → Type 0
AreTheFree frame Filled free = (a : ℕ) → Covers free a ↔ (HasWord frame a × (¬ Filled a))

-- a page is that of a frame whose word has this kind and class: its free spans are the words that nothing fills; the class is
-- the page's, where there is one; and the page of a vacant or empty frame is wholly free
pub record HomePage (z : Sizes) (p : ℕ) (kind : FrameKind) (class : ℕ) (filled : ℕ → Type 0) (page : FrameView) : Type 0 where
  pub frame_is : page.frame ≡ frame_span z p
  pub area_is : InArea z p page.class
  pub free_is : AreTheFree (frame_span z p) filled page.free
  pub class_is : class ≢ 0 → page.class ≡ class
  pub vacant : kind ≡ frames.Vacant → IsWhollyFree (frame_span z p) page.free
  pub ready : kind ≡ frames.Ready → (is_whole (frame_span z p) page.free ≡ false) × (has_room class page.free ≡ true)
  pub empty : kind ≡ frames.Empty → IsWhollyFree (frame_span z p) page.free

-- the page of each frame that is not owned lies in its slot
pub record Housed (z : Sizes) (filled : ℕ → Type 0) (word : ℕ → ℕ) (page : ℕ → Option FrameView) : Type 0 where
  pub each : (p : ℕ) → p < frame_count z → (frame_of (word p)).kind ≢ frames.Owned →
      (pg : FrameView) × (page p ≡ Some pg) × HomePage z p (frame_of (word p)).kind (frame_of (word p)).class filled pg

-- the free spans that an owner's view has of a frame are the words that nothing fills, without its taken cell, of a frame that
-- it sweeps too: no step of a sweep is built
pub record Handed (z : Sizes) (n : ℕ) (filled : ℕ → Type 0) (own : ℕ → ℕ → Option Open) (taken : ℕ → Option Taken)
    (sweep : ℕ → Option Sweep) : Type 0 where
  pub each : (c p : ℕ) (o : Open) → c < n → own c p ≡ Some o →
      AreTheFree (frame_span z p) (λ a. filled a ⊎ IsTakenWord (taken c) a) o.free

-- the class of a frame's word belongs to the frame's area
pub record Classed (z : Sizes) (word : ℕ → ℕ) : Type 0 where
  pub area : (p : ℕ) → p < frame_count z → (frame_of (word p)).class ≢ 0 → InArea z p (frame_of (word p)).class

-- the objects that are not released lie in their frames as the class of the frame's word says
pub record Placed (z : Sizes) (born : ℕ) (shape : ℕ → Shape) (word : ℕ → ℕ) : Type 0 where
  pub objects : (n p : ℕ) → Lives born shape n → p < frame_count z → LiesIn (words_of (shape n)) (frame_span z p) →
      IsCellOf (frame_of (word p)).class (frame_span z p) (words_of (shape n))

-- the class is the one that the call under way asks for
abbrev pub IsClassAsked : Ground → Position → ℕ → Type 0
IsClassAsked z (Calling call) class = class ≡ class_asked z call
IsClassAsked z _ class = ⊥

-- the frame is not being swept
abbrev pub IsNotSwept : Option Sweep → ℕ → Type 0
IsNotSwept None p = Unit {0}
IsNotSwept (Some sweep) p = sweep.frame ≢ p

-- a taken cell lies in an owned frame of the class that its call asks for, as the cells of that class do, and this frame is not
-- being swept
pub record TakenIn (z : Ground) (position : ℕ → Position) (own : ℕ → ℕ → Option Open) (taken : ℕ → Option Taken)
    (sweep : ℕ → Option Sweep) : Type 0 where
  pub owned : (c : ℕ) (t : Taken) → c < callers z.sizes → taken c ≡ Some t →
      (o : Open) × (own c t.frame ≡ Some o) × IsClassAsked z (position c) (frame_of o.word).class
      × IsCellOf (frame_of o.word).class (frame_span z.sizes t.frame) t.span
  pub unswept : (c : ℕ) (t : Taken) → c < callers z.sizes → taken c ≡ Some t → IsNotSwept (sweep c) t.frame
