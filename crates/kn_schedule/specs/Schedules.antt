-- Which actor takes the next turn of a run, where a turn is one step.
use Rattle.std.specs.Prelude.{◌≡◌, ℕ, ◌+◌, ◌<◌, ◌≤◌, ◌⊎◌, Bool, true, false, List, [], ◌∷◌}
use Rattle.kn_lines.specs.declared.orders.OrderWord.{OrderWord}
use Rattle.kn_schedule.specs.declared.asking.Asking.{Asking}
use Rattle.kn_schedule.specs.Asks.{Standing, TakesTurn, asked, asking_of, no_asks}

-- what is left of the order of turns: the asks of the word that was begun last, the words behind it, and the actor at which the
-- round goes on
pub record Left : Type 0 where
  pub asking : Asking
  pub words : List OrderWord
  pub next : ℕ

-- an order of turns: the number of its threads, and what is left
pub record Order : Type 0 where
  pub threads : ℕ
  pub left : Left

-- the order before the first turn
abbrev pub whole_order : List OrderWord → Left
whole_order words = record { asking = no_asks; words = words; next = 0 }

-- all actors below a number have ended
abbrev pub AllEnded : ℕ → (ℕ → Bool) → Type 0
AllEnded count ended = (i : ℕ) → i < count → ended i ≡ true

-- all actors from one number up to another, which is not among them, have ended
abbrev pub EndedBetween : (ℕ → Bool) → ℕ → ℕ → Type 0
EndedBetween ended from to = (i : ℕ) → from ≤ i → i < to → ended i ≡ true

-- a round that goes on at a place comes to this actor, since all actors between have ended
abbrev pub ComesTo : ℕ → (ℕ → Bool) → ℕ → ℕ → Type 0
ComesTo count ended place actor =
    ((place ≤ actor) × EndedBetween ended place actor)
    ⊎ ((actor < place) × EndedBetween ended place count × AllEnded actor ended)

-- no ask left takes a turn
abbrev pub ArePassed : Standing → Asking → Type 0
ArePassed standing asking = (ask : ℕ) → asking.made ≤ ask → ask < asking.times → ¬ TakesTurn standing asking ask

-- this ask is the first left that takes a turn
pub record IsFirstAsk (standing : Standing) (asking : Asking) (ask : ℕ) : Type 0 where
  pub behind : asking.made ≤ ask
  pub within : ask < asking.times
  pub first : (before : ℕ) → asking.made ≤ before → before < ask → ¬ TakesTurn standing asking before
  pub turns : TakesTurn standing asking ask

-- the first ask left that takes a turn is for this actor, and was made
pub record Asks (standing : Standing) (asking : Asking) (actor : ℕ) (asking' : Asking) : Type 0 where
  pub ask : ℕ
  pub is_first : IsFirstAsk standing asking ask
  pub actor_is : actor ≡ asked asking ask
  pub after : asking' ≡ record asking { made = ask + 1 }

-- no ask of the words takes a turn
abbrev pub AllPassed : ℕ → Standing → List OrderWord → Type 0
AllPassed threads standing [] = Unit {0}
AllPassed threads standing (word ∷ words) = ArePassed standing (asking_of threads word) × AllPassed threads standing words

-- the first ask of the words that takes a turn is for this actor; these asks of its word, and these words behind it, are left
abbrev pub FromWords : ℕ → Standing → List OrderWord → ℕ → Asking → List OrderWord → Type 0
FromWords threads standing [] actor asking' words' = ⊥
FromWords threads standing (word ∷ words) actor asking' words' =
    (Asks standing (asking_of threads word) actor asking' × (words' ≡ words))
    ⊎ (ArePassed standing (asking_of threads word) × FromWords threads standing words actor asking' words')

-- the word that was begun asks for this turn, or it was passed, and a word behind it asks for the turn
abbrev pub IsAsked : ℕ → Standing → Left → ℕ → Left → Type 0
IsAsked threads standing left actor left' =
    ((Asks standing left.asking actor left'.asking × (left'.words ≡ left.words))
    ⊎ (ArePassed standing left.asking × FromWords threads standing left.words actor left'.asking left'.words))
    × (left'.next ≡ left.next)

-- no word asks for a turn, and none is left, nor an ask
pub record AreSpent (threads : ℕ) (standing : Standing) (left left' : Left) : Type 0 where
  pub begun : ArePassed standing left.asking
  pub words : AllPassed threads standing left.words
  pub none_begun : left'.asking ≡ no_asks
  pub no_words : left'.words ≡ []

-- no word asks for a turn, the round comes to this actor, and it goes on behind it
pub record IsRound (threads : ℕ) (standing : Standing) (left : Left) (actor : ℕ) (left' : Left) : Type 0 where
  pub spent : AreSpent threads standing left left'
  pub is_actor : actor < threads + 1
  pub runs : standing.ended actor ≡ false
  pub comes : ComesTo (threads + 1) standing.ended left.next actor
  pub next : left'.next ≡ actor + 1

-- the next turn is of this actor, and this is left behind it: the words that ask for it come first, and then rounds
abbrev pub IsNext : ℕ → Standing → Left → ℕ → Left → Type 0
IsNext threads standing left actor left' = IsAsked threads standing left actor left' ⊎ IsRound threads standing left actor left'
