-- How a search agrees with what its caller knows.
use Rattle.std.specs.Prelude.{◌≡◌, ◌≢◌, ◌↔◌, ℕ, ◌+◌, ◌<◌, ◌≤◌, Bool, true, List, Option, Some, None, length, slice_get}
use Rattle.kn_graph.specs.declared.calls.Call.{Call}
use Rattle.kn_graph.specs.declared.calls.Reply.TheVariants as replies
use Rattle.kn_graph.specs.Ground.{Ground, IsGoodGround}
use Rattle.kn_rule.specs.declared.positions.Position.TheVariants.{Between, Calling}
use Rattle.kn_rule.specs.Decoding.{frame_of}
use Rattle.kn_rule.specs.Requests.{words_asked, class_asked}
use Rattle.kn_rule.specs.Searches.{is_over}
use Rattle.kn_rule.specs.Steps.{Step, Found, epoch_in, logged, saying}
use Rattle.kn_rule.specs.Views.{Open, owns}
use Rattle.kn_steps.specs.Made.{Stand, Made, LieAs}
use Rattle.kn_store.specs.declared.finder.Seen.{Seen}
use Rattle.kn_store.specs.declared.look.Look.{Look}
use Rattle.kn_store.specs.Search.{Search, IsOver, IsTurnOf, count_of, first_of, is_early}

abbrev pub refused_or : Bool → Option Seen → Bool
refused_or early None = early
refused_or early (Some s) = s.refused

-- whether the search has frame number i of its area as refused
abbrev pub is_refused : Search → ℕ → Bool
is_refused m i = refused_or (is_early m.early (first_of m + i)) (slice_get m.seen i)

abbrev pub word_of : Option Seen → Option ℕ
word_of None = None
word_of (Some s) = Some s.word

-- the words seen of frames and the frames refused, which a view has, are those of the search
pub record KnowsSame (m : Search) (seen : List (Option ℕ)) (refused : List Bool) : Type 0 where
  pub few : length m.seen ≤ count_of m
  pub words : (i : ℕ) → i < count_of m → slice_get seen (first_of m + i) ≡ Some (word_of (slice_get m.seen i))
  pub flags : (i : ℕ) → i < count_of m → slice_get refused (first_of m + i) ≡ Some (is_refused m i)

-- a search is for the call that its caller has begun, which has no cell, sweeps no frame and owns no frame of the class
pub record Agrees (m : Search) (a : Stand) : Type 0 where
  pub good : IsGoodGround a.heap
  pub sizes : a.heap.sizes ≡ m.sizes
  pub caller : a.by ≡ m.by
  pub thread : m.by < a.heap.sizes.threads
  pub call : Call
  pub is_call : a.view.position ≡ Calling call
  pub words : ℕ
  pub is_request : words_asked a.heap call ≡ Some words
  pub class : m.class ≡ class_asked a.heap call
  pub epoch : m.epoch ≡ epoch_in a.view
  pub none_taken : a.view.taken ≡ None
  pub none_swept : a.view.sweep ≡ None
  pub none_owned : (p : ℕ) (o : Open) → owns a.view p ≡ Some o → (frame_of o.word).class ≢ m.class
  pub same : KnowsSame m a.view.seen a.view.refused

-- a caller saw the word of a frame: its view is as it was but for the words seen, and no page was moved
pub record OnlySaw (a : Stand) (here : ℕ → Bool) (b : Stand) (here' : ℕ → Bool) : Type 0 where
  pub seen : List (Option ℕ)
  pub view : b ≡ record a { view = record a.view { seen = seen } }
  pub lies : LieAs a.view here here'

-- a caller saw the word of a frame, and with it its call was answered Full
pub record SawFull (a : Stand) (here : ℕ → Bool) (b : Stand) (here' : ℕ → Bool) : Type 0 where
  pub call : Call
  pub is_call : a.view.position ≡ Calling call
  pub seen : List (Option ℕ)
  pub view : b ≡ record a { view = logged (saying a.by (epoch_in a.view) call replies.Full 0 (record a.view { seen = seen; position = Between })) }
  pub lies : LieAs a.view here here'

-- where a view knows the same as a search, its lists say that the search has ended exactly where it has
abbrev pub TellsOver : Search → Type 0
TellsOver m = (z : Ground) (call : Call) (seen : List (Option ℕ)) (refused : List Bool) → z.sizes ≡ m.sizes → m.class ≡ class_asked z call →
    KnowsSame m seen refused → (is_over z call seen refused ≡ true) ↔ IsOver m

-- one turn of a search over one caller's steps
module _ {T : Type 0} (stand : T → Stand) (here : T → ℕ → Bool) (did : T → Step → Found → T → Type 0) where
  pub record Turned (m : Search) (s s' : T) (m' : Search) (look : Look) : Type 0 where
    pub step : Step
    pub found : Found
    pub made : Made (stand s) (here s) step found (stand s') (here s')
    pub kept : did s step found s'
    pub turn : IsTurnOf m step found.word m' look
