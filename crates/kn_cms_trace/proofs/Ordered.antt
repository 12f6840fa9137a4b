-- The order of turns: each ask of an order word leaves fewer, and what is left of the order leaves one next turn.
use Rattle.std.proofs.Common.{◌≡◌, ℕ, ◌+◌, ◌%◌, ◌<◌, ◌≤◌, ◌⊎◌, ◌∙◌, inl, inr, Bool, true, false}
use Rattle.std.proofs.Common.{List, [], ◌∷◌, refl, sym, ap, subst, arith}
use Rattle.std.specs.List.{AllByRecursion, sum_by}
use Rattle.std.proofs.lemmas.Bool.{both_ways, cases_order}
use Rattle.std.proofs.lemmas.List.Sums.{sum_by-cons}
use Rattle.kn_lines.specs.declared.orders.Actor.TheVariants.{Thread, Collector, Finalizer, Round}
use Rattle.kn_lines.specs.declared.orders.Until.TheVariants.{Turns, Calls, Code}
use Rattle.kn_lines.specs.declared.orders.OrderWord.{OrderWord}
use Rattle.kn_lines.specs.declared.orders.OrderWord.TheVariants.{Run, Uninstall}
use Rattle.kn_lines.specs.Ranges.{IsOrderWord}
use Rattle.kn_lines.specs.Weights.{order_weight}
use Rattle.kn_schedule.specs.declared.asking.Asking.{Asking}
use Rattle.kn_schedule.specs.Asks.{AreForActors, Standing, asked, asking_of}
use Rattle.kn_schedule.specs.Schedules.{AllEnded, AllPassed, ArePassed, Asks, ComesTo, EndedBetween, FromWords, IsAsked, IsFirstAsk, IsNext}
use Rattle.kn_schedule.specs.Schedules.{IsRound, Left, whole_order}
use Rattle.kn_cms_trace.specs.Measures.{IsOrderLeft, OrderFalls, asks_left, asks_of, asks_of_words, by_round, by_word}

-- the asks of a word are at most its weight
times_weight : (threads : ℕ) (word : OrderWord) → (asking_of threads word).times ≤ order_weight (threads + 1) word
times_weight threads (Run (Thread i) (Turns n)) = omega arith
times_weight threads (Run (Thread i) (Calls n)) = omega arith
times_weight threads (Run (Thread i) (Code p)) = omega arith
times_weight threads (Run Collector (Turns n)) = omega arith
times_weight threads (Run Collector (Calls n)) = omega arith
times_weight threads (Run Collector (Code p)) = omega arith
times_weight threads (Run Finalizer (Turns n)) = omega arith
times_weight threads (Run Finalizer (Calls n)) = omega arith
times_weight threads (Run Finalizer (Code p)) = omega arith
times_weight threads (Run Round (Turns n)) = omega arith
times_weight threads (Run Round (Calls n)) = omega arith
times_weight threads (Run Round (Code p)) = omega arith
times_weight threads (Uninstall c) = omega arith

-- and those of all words at most the weight of the order
asks_weight : (threads : ℕ) (words : List OrderWord) → asks_of_words threads words ≤ sum_by (order_weight (threads + 1)) words
asks_weight threads [] = omega arith
asks_weight threads (word ∷ words) =
    let here = times_weight threads word in
    let rest = asks_weight threads words in
    let sums = sum_by-cons (order_weight (threads + 1)) word words in omega (arith, here, rest, sums)

-- the asks of a word are for actors, none of them made
word_actors : (threads : ℕ) (word : OrderWord) → IsOrderWord threads word → AreForActors (threads + 1) (asking_of threads word)
word_actors threads (Run (Thread i) end) ok = record { some = omega arith; few = let near = ok.0 in omega (arith, near) }
word_actors threads (Run Collector end) ok = record { some = omega arith; few = omega arith }
word_actors threads (Run Finalizer end) ok = record { some = omega arith; few = omega arith }
word_actors threads (Run Round end) ok = record { some = omega arith; few = omega arith }
word_actors threads (Uninstall c) ok = record { some = omega arith; few = omega arith }

none_made : (threads : ℕ) (word : OrderWord) → (asking_of threads word).made ≡ 0
none_made threads (Run (Thread i) end) = refl
none_made threads (Run Collector end) = refl
none_made threads (Run Finalizer end) = refl
none_made threads (Run Round end) = refl
none_made threads (Uninstall c) = refl

module _ (threads : ℕ) (standing : Standing) where
  -- the first ask that takes a turn is one
  one_first : (asking : Asking) (a b : ℕ) → IsFirstAsk standing asking a → IsFirstAsk standing asking b → (a ≡ b) ⊎ ((a < b) ⊎ (b < a)) → a ≡ b
  one_first asking a b k l (inl same) = same
  one_first asking a b k l (inr (inl less)) = absurd (l.first a k.behind less k.turns)
  one_first asking a b k l (inr (inr more)) = absurd (k.first b l.behind more l.turns)

  passed_or_asks : (asking : Asking) (a : ℕ) (asking' : Asking) → ArePassed standing asking → Asks standing asking a asking' → ⊥
  passed_or_asks asking a asking' passed k = passed k.ask k.is_first.behind k.is_first.within k.is_first.turns

  one_ask : (asking : Asking) (a b : ℕ) (x y : Asking) → Asks standing asking a x → Asks standing asking b y → (a ≡ b) × (x ≡ y)
  one_ask asking a b x y k l =
      let same = one_first asking k.ask l.ask k.is_first l.is_first (cases_order k.ask l.ask) in (
        k.actor_is ∙ (ap (asked asking) same ∙ sym l.actor_is),
        k.after ∙ (ap (λ (n : ℕ). record asking { made = n + 1 }) same ∙ sym l.after),
      )

  one_of_words : (words : List OrderWord) (a b : ℕ) (x y : Asking) (words' words'' : List OrderWord) → FromWords threads standing words a x words' →
      FromWords threads standing words b y words'' → (a ≡ b) × (x ≡ y) × (words' ≡ words'')
  one_of_words [] a b x y words' words'' k l = absurd k
  one_of_words (word ∷ words) a b x y words' words'' (inl k) (inl l) =
      let same = one_ask (asking_of threads word) a b x y k.0 l.0 in (same.0, same.1, k.1 ∙ sym l.1)
  one_of_words (word ∷ words) a b x y words' words'' (inl k) (inr l) = absurd (passed_or_asks (asking_of threads word) a x l.0 k.0)
  one_of_words (word ∷ words) a b x y words' words'' (inr k) (inl l) = absurd (passed_or_asks (asking_of threads word) b y k.0 l.0)
  one_of_words (word ∷ words) a b x y words' words'' (inr k) (inr l) = one_of_words words a b x y words' words'' k.1 l.1

  passed_or_asked : (words : List OrderWord) (a : ℕ) (x : Asking) (words' : List OrderWord) → AllPassed threads standing words →
      FromWords threads standing words a x words' → ⊥
  passed_or_asked [] a x words' passed k = k
  passed_or_asked (word ∷ words) a x words' passed (inl k) = passed_or_asks (asking_of threads word) a x passed.0 k.0
  passed_or_asked (word ∷ words) a x words' passed (inr k) = passed_or_asked words a x words' passed.1 k.1

  -- an ask that takes a turn leaves fewer, is for an actor that has not ended, and leaves asks for actors
  ask_falls : (asking : Asking) (a : ℕ) (x : Asking) → Asks standing asking a x → asks_of x < asks_of asking
  ask_falls asking a x k =
      let behind = k.is_first.behind in let within = k.is_first.within in
      subst (λ (y : Asking). asks_of y < asks_of asking) (sym k.after) (omega (arith, behind, within))

  ask_runs : (asking : Asking) (a : ℕ) (x : Asking) → Asks standing asking a x → standing.ended a ≡ false
  ask_runs asking a x k = subst (λ i. standing.ended i ≡ false) (sym k.actor_is) k.is_first.turns.0

  asked_near : (asking : Asking) (ask : ℕ) → AreForActors (threads + 1) asking → asked asking ask < threads + 1
  asked_near asking ask are =
      let some = are.some in let few = are.few in
      let less : ask % asking.actors < asking.actors = omega (arith, some) in omega (arith, few, less)

  ask_near : (asking : Asking) (a : ℕ) (x : Asking) → AreForActors (threads + 1) asking → Asks standing asking a x → a < threads + 1
  ask_near asking a x are k = subst (λ i. i < threads + 1) (sym k.actor_is) (asked_near asking k.ask are)

  ask_stays : (asking : Asking) (a : ℕ) (x : Asking) → AreForActors (threads + 1) asking → Asks standing asking a x → AreForActors (threads + 1) x
  ask_stays asking a x are k = subst (AreForActors (threads + 1)) (sym k.after) (record { some = are.some; few = are.few })

  words_fall : (words : List OrderWord) (a : ℕ) (x : Asking) (words' : List OrderWord) → FromWords threads standing words a x words' →
      asks_of x + asks_of_words threads words' < asks_of_words threads words
  words_fall [] a x words' k = absurd k
  words_fall (word ∷ words) a x words' (inl k) =
      let less = ask_falls (asking_of threads word) a x k.0 in let none = none_made threads word in
      let same = ap (asks_of_words threads) k.1 in omega (arith, less, none, same)
  words_fall (word ∷ words) a x words' (inr k) = let rest = words_fall words a x words' k.1 in omega (arith, rest)

  words_run : (words : List OrderWord) (a : ℕ) (x : Asking) (words' : List OrderWord) → FromWords threads standing words a x words' →
      standing.ended a ≡ false
  words_run [] a x words' k = absurd k
  words_run (word ∷ words) a x words' (inl k) = ask_runs (asking_of threads word) a x k.0
  words_run (word ∷ words) a x words' (inr k) = words_run words a x words' k.1

  words_near : (words : List OrderWord) (a : ℕ) (x : Asking) (words' : List OrderWord) → AllByRecursion (IsOrderWord threads) words →
      FromWords threads standing words a x words' → a < threads + 1
  words_near [] a x words' ok k = absurd k
  words_near (word ∷ words) a x words' ok (inl k) = ask_near (asking_of threads word) a x (word_actors threads word ok.0) k.0
  words_near (word ∷ words) a x words' ok (inr k) = words_near words a x words' ok.1 k.1

  words_stay : (words : List OrderWord) (a : ℕ) (x : Asking) (words' : List OrderWord) → AllByRecursion (IsOrderWord threads) words →
      FromWords threads standing words a x words' → AllByRecursion (IsOrderWord threads) words' × AreForActors (threads + 1) x
  words_stay [] a x words' ok k = absurd k
  words_stay (word ∷ words) a x words' ok (inl k) =
      (subst (AllByRecursion (IsOrderWord threads)) (sym k.1) ok.1, ask_stays (asking_of threads word) a x (word_actors threads word ok.0) k.0)
  words_stay (word ∷ words) a x words' ok (inr k) = words_stay words a x words' ok.1 k.1

-- a round comes to one actor
module _ (count : ℕ) (ended : ℕ → Bool) (place : ℕ) where
  not_between : (t u : ℕ) → ended t ≡ false → ended t ≡ true → t ≡ u
  not_between t u runs over = absurd (both_ways (ended t) runs over)

  one_behind : (t u : ℕ) → ended t ≡ false → ended u ≡ false → place ≤ t → EndedBetween ended place t → place ≤ u →
      EndedBetween ended place u → (t ≡ u) ⊎ ((t < u) ⊎ (u < t)) → t ≡ u
  one_behind t u runs going behind between further among (inl same) = same
  one_behind t u runs going behind between further among (inr (inl less)) = not_between t u runs (among t behind less)
  one_behind t u runs going behind between further among (inr (inr more)) = sym (not_between u t going (between u further more))

  one_before : (t u : ℕ) → ended t ≡ false → ended u ≡ false → AllEnded t ended → AllEnded u ended →
      (t ≡ u) ⊎ ((t < u) ⊎ (u < t)) → t ≡ u
  one_before t u runs going all every (inl same) = same
  one_before t u runs going all every (inr (inl less)) = not_between t u runs (every t less)
  one_before t u runs going all every (inr (inr more)) = sym (not_between u t going (all u more))

  one_comes : (t u : ℕ) → t < count → u < count → ended t ≡ false → ended u ≡ false → ComesTo count ended place t →
      ComesTo count ended place u → t ≡ u
  one_comes t u near close runs going (inl k) (inl l) = one_behind t u runs going k.0 k.1 l.0 l.1 (cases_order t u)
  one_comes t u near close runs going (inl k) (inr l) = not_between t u runs (l.1 t k.0 near)
  one_comes t u near close runs going (inr k) (inl l) = sym (not_between u t going (k.1 u l.0 close))
  one_comes t u near close runs going (inr k) (inr l) = one_before t u runs going k.2 l.2 (cases_order t u)

-- no word asks for a turn that a round gives
spent_or_asked : (threads : ℕ) (standing : Standing) (left : Left) (t : ℕ) (a : Left) (u : ℕ) (b : Left) → IsRound threads standing left u b →
    IsAsked threads standing left t a → ⊥
spent_or_asked threads standing left t a u b l (inl k, same) = passed_or_asks threads standing left.asking t a.asking l.spent.begun k.0
spent_or_asked threads standing left t a u b l (inr k, same) = passed_or_asked threads standing left.words t a.asking a.words l.spent.words k.1

-- what may be left of an order leaves one next turn, of an actor that has not ended; and this leaves such an order again
module _ (threads : ℕ) (standing : Standing) (left : Left) (is : IsOrderLeft threads left) where
  module _ (t : ℕ) (a : Left) where
    asked_near_by : IsAsked threads standing left t a → t < threads + 1
    asked_near_by (inl k, same) = ask_near threads standing left.asking t a.asking is.actors k.0
    asked_near_by (inr k, same) = words_near threads standing left.words t a.asking a.words is.words k.1

    asked_runs : IsAsked threads standing left t a → standing.ended t ≡ false
    asked_runs (inl k, same) = ask_runs threads standing left.asking t a.asking k.0
    asked_runs (inr k, same) = words_run threads standing left.words t a.asking a.words k.1

    asked_stays : IsAsked threads standing left t a → IsOrderLeft threads a
    asked_stays (inl k, same) = record {
      words = subst (AllByRecursion (IsOrderWord threads)) (sym k.1) is.words;
      actors = ask_stays threads standing left.asking t a.asking is.actors k.0;
    }
    asked_stays (inr k, same) =
        let stay = words_stay threads standing left.words t a.asking a.words is.words k.1 in record { words = stay.0; actors = stay.1 }

    asked_falls : IsAsked threads standing left t a → asks_left threads a < asks_left threads left
    asked_falls (inl k, same) =
        let less = ask_falls threads standing left.asking t a.asking k.0 in let words = ap (asks_of_words threads) k.1 in omega (arith, less, words)
    asked_falls (inr k, same) = let less = words_fall threads standing left.words t a.asking a.words k.1 in omega (arith, less)

    none_left : IsRound threads standing left t a → asks_left threads a ≡ 0
    none_left k =
        let begun = ap asks_of k.spent.none_begun in let words = ap (asks_of_words threads) k.spent.no_words in omega (arith, begun, words)

    pub next_near : IsNext threads standing left t a → t < threads + 1
    next_near (inl k) = asked_near_by k
    next_near (inr k) = k.is_actor

    pub next_runs : IsNext threads standing left t a → standing.ended t ≡ false
    next_runs (inl k) = asked_runs k
    next_runs (inr k) = k.runs

    pub next_stays : IsNext threads standing left t a → IsOrderLeft threads a
    next_stays (inl k) = asked_stays k
    next_stays (inr k) = record {
      words = subst (AllByRecursion (IsOrderWord threads)) (sym k.spent.no_words) tt;
      actors = subst (AreForActors (threads + 1)) (sym k.spent.none_begun) (record { some = omega arith; few = omega arith });
    }

    pub next_falls : IsNext threads standing left t a → OrderFalls threads standing.ended left t a
    next_falls (inl k) = by_word (asked_falls k) k.1
    next_falls (inr k) = by_round (none_left k) k.comes k.next

  module _ (t u : ℕ) (a b : Left) where
    same_left : a.asking ≡ b.asking → a.words ≡ b.words → a.next ≡ b.next → a ≡ b
    same_left asking words next = λ i. record { asking = asking i; words = words i; next = next i }

    one_asked : IsAsked threads standing left t a → IsAsked threads standing left u b → (t ≡ u) × (a ≡ b)
    one_asked (inl k, e) (inl l, f) =
        let same = one_ask threads standing left.asking t u a.asking b.asking k.0 l.0 in
        (same.0, same_left same.1 (k.1 ∙ sym l.1) (e ∙ sym f))
    one_asked (inl k, e) (inr l, f) = absurd (passed_or_asks threads standing left.asking t a.asking l.0 k.0)
    one_asked (inr k, e) (inl l, f) = absurd (passed_or_asks threads standing left.asking u b.asking k.0 l.0)
    one_asked (inr k, e) (inr l, f) =
        let same = one_of_words threads standing left.words t u a.asking b.asking a.words b.words k.1 l.1 in
        (same.0, same_left same.1 same.2 (e ∙ sym f))

    one_round : IsRound threads standing left t a → IsRound threads standing left u b → (t ≡ u) × (a ≡ b)
    one_round k l =
        let same = one_comes (threads + 1) standing.ended left.next t u k.is_actor l.is_actor k.runs l.runs k.comes l.comes in (
          same,
          same_left (k.spent.none_begun ∙ sym l.spent.none_begun) (k.spent.no_words ∙ sym l.spent.no_words)
              (k.next ∙ (ap (λ n. n + 1) same ∙ sym l.next)),
        )

    pub one_next : IsNext threads standing left t a → IsNext threads standing left u b → (t ≡ u) × (a ≡ b)
    one_next (inl k) (inl l) = one_asked k l
    one_next (inl k) (inr l) = absurd (spent_or_asked threads standing left t a u b l k)
    one_next (inr k) (inl l) = absurd (spent_or_asked threads standing left u b t a k l)
    one_next (inr k) (inr l) = one_round k l

-- the order before the first turn
pub whole_is_left : (threads : ℕ) (words : List OrderWord) → AllByRecursion (IsOrderWord threads) words → IsOrderLeft threads (whole_order words)
whole_is_left threads words ok = record { words = ok; actors = record { some = omega arith; few = omega arith } }

pub whole_weight : (threads : ℕ) (words : List OrderWord) →
    asks_left threads (whole_order words) ≤ sum_by (order_weight (threads + 1)) words
whole_weight threads words = let most = asks_weight threads words in omega (arith, most)
