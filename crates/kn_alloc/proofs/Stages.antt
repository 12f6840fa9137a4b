-- The agreement at stages that only clear words, answer or rest.
use Rattle.std.proofs.Common.{◌≡◌, ℕ, ◌+◌, ◌*◌, ◌⊎◌, inl, inr, Bool, Option, Some, None, refl, sym, ap, ◌∙◌, subst, arith}
use Rattle.std.proofs.lemmas.Option.{none-some}
use Rattle.kn_base.specs.declared.heap.Sizes.{Sizes}
use Rattle.kn_base.specs.declared.numbers.Span.{Span}
use Rattle.kn_base.specs.declared.places.Place.TheVariants.{Side}
use Rattle.kn_rule.specs.declared.steps.Action.TheVariants.{Stores}
use Rattle.kn_rule.specs.declared.steps.Kind.TheVariants.{K8}
use Rattle.kn_rule.specs.Allowed.{MayBirth}
use Rattle.kn_rule.specs.Outcomes.{birth_said, born_at}
use Rattle.kn_rule.specs.Requests.{birth_of, birth_words}
use Rattle.kn_rule.specs.Steps.{Found, does, logged}
use Rattle.kn_rule.specs.Views.{Open, View, owns}
use Rattle.kn_steps.specs.Made.{LieAs, Made, Stand}
use Rattle.kn_store.specs.Search.{Search}
use Rattle.kn_alloc.specs.declared.stage.Stage.{Stage}
use Rattle.kn_alloc.specs.declared.stage.Stage.TheVariants.{Resting, TooLong, Bears}
use Rattle.kn_alloc.specs.Keeps.{Keeps, born_mark}
use Rattle.kn_alloc.specs.Agree.{Agrees, AtStage, IsCleared, IsHeld, IsStaged, held_as}
use Rattle.kn_alloc.specs.declared.stage.AllocTurn.TheVariants.{Born}
use Rattle.kn_alloc.specs.Tells.{TellsView}
use Rattle.kn_alloc.proofs.Hands.{at_is, hands_are, held_are, still_in_hand}
use Rattle.kn_alloc.proofs.Told.{tells_born}

-- a stage that leaves the hands as they are, behind a step that changes nothing of what is owned
module _ (m : Keeps) (a : Stand) (here : ℕ → Bool) (g : Agrees m a here) (s : Stage) (is : m.stage ≡ s) (s' : Stage)
    (same : (z : Sizes) (class k p : ℕ) (o : Open) → held_as z s' class k p o ≡ held_as z s class k p o)
    (none : (p : ℕ) → IsStaged s p → ⊥) where
  pub goes_to : (v : View) (here' : ℕ → Bool) (q : Search) → q.sizes ≡ m.search.sizes → ((p : ℕ) → owns v p ≡ owns a.view p) →
      LieAs a.view here here' → AtStage s' (record m { stage = s'; search = q }) (record a { view = v }) here' →
      Agrees (record m { stage = s'; search = q }) (record a { view = v }) here'
  goes_to v here' q sizes own lies at = record {
    good = g.good;
    sizes = g.sizes;
    caller = g.caller;
    thread = g.thread;
    search_sizes = sizes ∙ g.search_sizes;
    classes = g.classes;
    hands = λ k hand h.
        let in_hand = hands_are m a here g s is k hand h in
        still_in_hand a.heap.sizes a.view v here here' s s' m.class m.class k hand in_hand (own hand.frame)
        (lies hand.frame in_hand.hold in_hand.owned) (same a.heap.sizes m.class k hand.frame);
    held = λ p o e. by p (held_are m a here g s is p o (sym (own p) ∙ e));
    at = at;
  }
    where
      by : (p : ℕ) → IsHeld m.hands p ⊎ IsStaged s p → IsHeld m.hands p ⊎ IsStaged s' p
      by p (inl h) = inl h
      by p (inr h) = absurd (none p h)

pub denied : (m : Keeps) (a : Stand) (here : ℕ → Bool) → Agrees m a here → m.stage ≡ TooLong → Agrees (record m { stage = Resting }) a here
denied m a here g is =
    goes_to m a here g TooLong is Resting (λ z class k p o. refl) (λ p h. h) a.view here m.search refl (λ p. refl) (λ p o e. refl)
    (at_is m a here g TooLong is)

birth_there : (n : ℕ) (x : Option (ℕ × ℕ × ℕ)) → birth_words x ≡ Some n → (b : ℕ × ℕ × ℕ) × (x ≡ Some b)
birth_there n None e = absurd (none-some n e)
birth_there n (Some b) e = (b, refl)

-- the birth of a cell that is cleared
module _ (m : Keeps) (a : Stand) (here : ℕ → Bool) (g : Agrees m a here) (cell : Span) (is : m.stage ≡ Bears cell) (w : ℕ)
    (word : w ≡ born_mark m.epoch) where
  clear_cell : IsCleared cell cell.len m a here
  clear_cell = at_is m a here g (Bears cell) is

  birth : (b : ℕ × ℕ × ℕ) × (birth_of a.heap clear_cell.asks.call ≡ Some b)
  unfolding clear_cell
  birth = birth_there m.words (birth_of a.heap clear_cell.asks.call) clear_cell.asks.is_request

  pub may_bear : MayBirth a.heap a.by a.view here (Side cell.start) (Stores w)
  unfolding clear_cell birth
  may_bear =
      let e = clear_cell.asks.epoch in
      record {
        cell = clear_cell.taken;
        call = clear_cell.asks.call;
        birth = birth.0;
        is_cell = clear_cell.is_taken;
        is_call = clear_cell.asks.is_call;
        is_birth = birth.1;
        place = ap (λ (s : Span). Side s.start) (sym clear_cell.span);
        word = ap Stores (word ∙ ap (λ n. 4 * n + 3) e);
        whole = clear_cell.cleared ∙ ap (λ (s : Span). s.len) (sym clear_cell.span);
        thread = let c = g.caller in let t = g.thread in omega arith;
      }

  born_view : (b : Stand) (here' : ℕ → Bool) (f : Found) → Made a here (does K8 (Side cell.start) (Stores w)) f b here' →
      b ≡ record a { view = logged (birth_said a.heap a.by a.view (Side cell.start) (Stores w) f clear_cell.asks.call (Some birth.0)) }
  unfolding clear_cell birth
  born_view b here' f made =
      made.view
      ∙ ((λ t. record a { view = logged (born_at a.heap a.by a.view (Side cell.start) (Stores w) f (clear_cell.asks.is_call t)) })
      ∙ (λ t. record a { view = logged (birth_said a.heap a.by a.view (Side cell.start) (Stores w) f clear_cell.asks.call (birth.1 t)) }))

  -- the address is due for the local of the call
  pub born_told : (b : Stand) (here' : ℕ → Bool) (f : Found) → Made a here (does K8 (Side cell.start) (Stores w)) f b here' →
      TellsView m.stage (Born cell.start) a b
  unfolding clear_cell birth
  born_told b here' f made =
      tells_born m.stage a b cell.start clear_cell.asks.call birth.0 clear_cell.asks.is_call birth.1 (born_view b here' f made)

  pub born : (b : Stand) (here' : ℕ → Bool) (f : Found) → Made a here (does K8 (Side cell.start) (Stores w)) f b here' →
      Agrees (record m { stage = Resting }) b here'
  unfolding clear_cell birth
  born b here' f made =
      let call = clear_cell.asks.call in
      let v = a.view in
      let view = born_view b here' f made in
      subst (λ (b : Stand). Agrees (record m { stage = Resting }) b here') (sym view)
      (goes_to m a here g (Bears cell) is Resting (λ z class k p o. refl) (λ p h. h)
      (logged (birth_said a.heap a.by v (Side cell.start) (Stores w) f call (Some birth.0))) here' m.search refl (λ p. refl)
      (subst (λ (b : Stand). LieAs b.view here here') view made.lies) (refl, clear_cell.asks.none_swept))
