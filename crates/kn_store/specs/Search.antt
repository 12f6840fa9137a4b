-- A search for a frame of one class: what it has seen, what it does next, and what becomes of it.
use Rattle.std.specs.Prelude.{◌≡◌, ◌≢◌, ℕ, ◌+◌, ◌-◌, ◌<◌, ◌≤◌, ◌==◌, ◌⊎◌, Bool, true, false, List, [], ◌∷◌}
use Rattle.std.specs.Prelude.{◌++◌, length, Option, Some, None, slice_get, slice_set}
use Rattle.kn_base.specs.declared.heap.Sizes.{Sizes}
use Rattle.kn_base.specs.declared.places.Place.TheVariants.{Frame}
use Rattle.kn_base.specs.declared.kinds.FrameKind.{FrameKind}
use Rattle.kn_base.specs.declared.kinds.FrameKind.TheVariants as frames
use Rattle.kn_base.specs.Words.{packed_frame}
use Rattle.kn_rule.specs.declared.steps.Kind.TheVariants.{K9, K10}
use Rattle.kn_rule.specs.declared.steps.Action.TheVariants.{Loads, Swaps}
use Rattle.kn_rule.specs.Decoding.{frame_of}
use Rattle.kn_rule.specs.Requests.{area_count, area_from, is_usable, owned_word}
use Rattle.kn_rule.specs.Steps.{Step, does}
use Rattle.kn_store.specs.declared.look.Look.{Look}
use Rattle.kn_store.specs.declared.look.Look.TheVariants.{Looking, Found as Claimed, Full}
use Rattle.kn_store.specs.declared.finder.Seen.{Seen}

-- a search for frames of a class, by a caller, in an epoch, over a heap of these sizes: what it has seen of the frames of the
-- class's area, in their order, and the frame that was refused before it was seen
pub record Search : Type 0 where
  pub sizes : Sizes
  pub class : ℕ
  pub by : ℕ
  pub epoch : ℕ
  pub seen : List Seen
  pub early : Option ℕ

abbrev pub new_search : Sizes → ℕ → ℕ → ℕ → Search
new_search z class by epoch = record { sizes = z; class = class; by = by; epoch = epoch; seen = []; early = None }

-- the first frame of the area, and the number of its frames
abbrev pub first_of : Search → ℕ
first_of m = area_from m.sizes m.class

abbrev pub count_of : Search → ℕ
count_of m = area_count m.sizes m.class

-- kinds of frame from the best to the worst: ready, unswept, empty, vacant
abbrev pub rank_of : FrameKind → ℕ
rank_of frames.Ready = 0
rank_of frames.Unswept = 1
rank_of frames.Empty = 2
rank_of frames.Vacant = 3
rank_of _ = 4

abbrev pub rank : Seen → ℕ
rank s = rank_of (frame_of s.word).kind

-- the frame may be claimed for the class: its word is usable, and it was not refused
abbrev pub IsOpen : ℕ → Seen → Type 0
IsOpen class s = (is_usable class s.word ≡ true) × (s.refused ≡ false)

-- of the first n frames seen, number i may be claimed, and each other one that may be is of a worse kind, or of the same kind
-- and behind it
pub record IsBest (class : ℕ) (seen : List Seen) (n i : ℕ) (s : Seen) : Type 0 where
  pub near : i < n
  pub at : slice_get seen i ≡ Some s
  pub fit : IsOpen class s
  pub best : (j : ℕ) (t : Seen) → j < n → slice_get seen j ≡ Some t → IsOpen class t → (rank s < rank t) ⊎ ((rank s ≡ rank t) × (i ≤ j))

-- none of the first n frames seen may be claimed
abbrev pub IsNoneOpen : ℕ → List Seen → ℕ → Type 0
IsNoneOpen class seen n = (j : ℕ) (t : Seen) → j < n → slice_get seen j ≡ Some t → ¬ IsOpen class t

-- the best of the first n frames seen, and none where none may be claimed
abbrev pub IsChoice : ℕ → List Seen → ℕ → Option ℕ → Type 0
IsChoice class seen n None = IsNoneOpen class seen n
IsChoice class seen n (Some i) = (s : Seen) × IsBest class seen n i s

-- the rank of a frame for a class: that of its kind, and 4 where it may not be claimed
abbrev pub IsRank : ℕ → Seen → ℕ → Type 0
IsRank class s r = (IsOpen class s × (r ≡ rank s)) ⊎ ((¬ IsOpen class s) × (r ≡ 4))

-- number i is the best of the first n frames seen, of rank r, or none of them may be claimed, and r is 4
abbrev pub KeepsBest : ℕ → List Seen → ℕ → ℕ → ℕ → Type 0
KeepsBest class seen n i r = ((s : Seen) × IsBest class seen n i s × (r ≡ rank s)) ⊎ (IsNoneOpen class seen n × (r ≡ 4))

-- a search has ended: each frame of the area was seen, and none may be claimed
abbrev pub IsOver : Search → Type 0
IsOver m = (length m.seen ≡ count_of m) × IsNoneOpen m.class m.seen (count_of m)

abbrev pub claim_of : Search → ℕ → ℕ → Step
claim_of m i old = does K10 (Frame (first_of m + i)) (Swaps old (packed_frame (owned_word (frame_of old) m.class m.epoch m.by)))

abbrev pub is_early : Option ℕ → ℕ → Bool
is_early None p = false
is_early (Some q) p = q == p

-- the search with one frame more seen
abbrev pub saw_next : Search → ℕ → Search
saw_next m word = record m { seen = m.seen ++ record { word = word; refused = is_early m.early (first_of m + length m.seen) } ∷ [] }

-- the search with another word seen of the frame that was seen as number i
abbrev pub saw_again : Search → ℕ → Seen → ℕ → Search
saw_again m i s word = record m { seen = slice_set m.seen i (record s { word = word }) }

abbrev pub refuse_seen : Search → ℕ → Option Seen → Search
refuse_seen m p None = record m { early = Some p }
refuse_seen m p (Some s) = record m { seen = slice_set m.seen (p - first_of m) (record s { refused = true }) }

-- the search with frame p refused
abbrev pub with_refused : Search → ℕ → Search
with_refused m p = refuse_seen m p (slice_get m.seen (p - first_of m))

-- Full exactly where the search has ended, and otherwise Looking
abbrev pub GoesOn : Search → Look → Type 0
GoesOn m Looking = ¬ IsOver m
GoesOn m (Claimed p w) = ⊥
GoesOn m Full = IsOver m

-- a turn looks at the next frame of the area, as long as there is one
pub record Looks (m : Search) (d : Step) (word : ℕ) (m' : Search) (look : Look) : Type 0 where
  pub next : length m.seen < count_of m
  pub step : d ≡ does K9 (Frame (first_of m + length m.seen)) Loads
  pub after : m' ≡ saw_next m word
  pub answer : GoesOn m' look

-- then it claims the best frame seen, which is won where that word was found, and else lost
pub record Claims (m : Search) (d : Step) (word : ℕ) (m' : Search) (look : Look) : Type 0 where
  pub number : ℕ
  pub best : Seen
  pub all : length m.seen ≡ count_of m
  pub is_best : IsBest m.class m.seen (count_of m) number best
  pub step : d ≡ claim_of m number best.word
  pub won : word ≡ best.word → (m' ≡ m) × (look ≡ Claimed (record { 0 = first_of m + number }) word)
  pub lost : word ≢ best.word → (m' ≡ saw_again m number best word) × GoesOn m' look

-- one turn of a search made this step, which found the word, left this search, and answered so
abbrev pub IsTurnOf : Search → Step → ℕ → Search → Look → Type 0
IsTurnOf m d word m' look = Looks m d word m' look ⊎ Claims m d word m' look
