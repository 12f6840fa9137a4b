-- The task between two calls, and what a call asks the allocator for.
use Rattle.std.proofs.Common.{◌≡◌, ℕ, ◌+◌, ◌<◌, ◌≤◌, ◌⊎◌, inl, inr, Bool, true, false, cond, List, length, Option, Some}
use Rattle.std.proofs.Common.{None, is_some, slice_get}
use Rattle.std.proofs.Common.{get_or, refl, sym, ap, ◌∙◌, subst, arith}
use Rattle.std.proofs.Math.Nat.{le-max_right}
use Rattle.std.proofs.lemmas.Bool.{le-ltb, lt-ltb}
use Rattle.std.proofs.lemmas.Option.{slice_get_cases}
use Rattle.kn_base.specs.declared.classes.TheConstants.{SINGLE_CLASS}
use Rattle.kn_base.specs.declared.heap.Sizes.{Sizes}
use Rattle.kn_layout.specs.declared.layouts.Layout.{Layout}
use Rattle.kn_layout.specs.Layouts.{cell_size, fields_of}
use Rattle.kn_graph.specs.declared.calls.Call.{Call}
use Rattle.kn_graph.specs.declared.calls.Call.TheVariants.{New, NewArray}
use Rattle.kn_graph.specs.declared.calls.Reply.{Reply}
use Rattle.kn_graph.specs.declared.calls.Reply.TheVariants.{Full}
use Rattle.kn_graph.specs.Counts.{makes_object}
use Rattle.kn_graph.specs.Graph.{kinds_for, length_for}
use Rattle.kn_graph.specs.Ground.{Ground}
use Rattle.kn_rule.specs.Outcomes.{view_answer}
use Rattle.kn_rule.specs.Requests.{asks_too_much, birth_of, birth_words, class_for, class_where, header_for, is_too_long, words_asked}
use Rattle.kn_rule.specs.Rule.{fresh}
use Rattle.kn_rule.specs.Views.{View, flattened}
use Rattle.kn_steps.specs.Made.{Stand}
use Rattle.kn_alloc.specs.declared.stage.Hand.{Hand}
use Rattle.kn_alloc.specs.declared.stage.Request.{Request}
use Rattle.kn_alloc.specs.declared.stage.Request.TheVariants.{Cell}
use Rattle.kn_alloc.specs.Agree.{Agrees, HasBegun, IsGetting}
use Rattle.kn_alloc.specs.Keeps.{HasHand, Keeps, Starts, header_asked, words_of_request}
use Rattle.kn_alloc.specs.Tells.{IsKept}
use Rattle.kn_mutator.specs.Begun.{Begins, BeginsAs, IsTheRequest, RequestsCell, alone}
use Rattle.kn_mutator.specs.declared.task.Task.TheVariants.{Births, Calls, Ends}
use Rattle.kn_mutator.specs.Mutating.{Mutating}
use Rattle.kn_mutator.specs.After.{answered, resting_task}
use Rattle.kn_mutator.specs.Tasks.{has_single, rest_task}

hand_at : (x : Option (Option Hand)) (hand : Hand) → x ≡ Some (Some hand) → is_some (flattened x) ≡ true
hand_at x hand e = ap (λ o. is_some (flattened o)) e

none_at : (x : Option (Option Hand)) → ((hand : Hand) → x ≡ Some (Some hand) → ⊥) → is_some (flattened x) ≡ false
none_at None never = refl
none_at (Some None) never = refl
none_at (Some (Some hand)) never = absurd (never hand refl)

-- whether a single page is in hand
pub single_there : (hands : List (Option Hand)) → (hand : Hand) × HasHand hands SINGLE_CLASS hand → has_single hands ≡ true
single_there hands h = hand_at (slice_get hands SINGLE_CLASS) h.0 h.1

pub single_absent : (hands : List (Option Hand)) → ((hand : Hand) × HasHand hands SINGLE_CLASS hand → ⊥) → has_single hands ≡ false
single_absent hands never = none_at (slice_get hands SINGLE_CLASS) (λ hand h. never (hand, h))

-- the task between two calls
module _ (m : Mutating) (begun len : ℕ) (b : begun ≡ m.begun) (l : len ≡ length m.calls) where
  pub rests_ends : len ≤ begun → Ends ≡ resting_task m
  rests_ends le =
      let h : length m.calls ≤ m.begun = omega arith in
      sym (ap (λ left. rest_task left (has_single m.alloc.hands)) (le-ltb m.begun (length m.calls) h))

  pub rests_with : (single : Bool) → begun < len → has_single m.alloc.hands ≡ single → rest_task true single ≡ resting_task m
  rests_with single lt s =
      let h : m.begun < length m.calls = omega arith in
      let e = lt-ltb m.begun (length m.calls) h in
      λ t. rest_task (sym e t) (sym s t)

layout_by : (layouts : List Layout) (i : ℕ) (P : Option Layout → Type 0) → (P None → ⊥) → P (slice_get layouts i) → length layouts ≤ 64 →
    ((x : Layout) × (i < length layouts) × (slice_get layouts i ≡ Some x) × (get_or layouts i x ≡ x))
    ⊎ ((length layouts ≤ i) × (slice_get layouts i ≡ None)) → i < 64
layout_by layouts i P never there few (inl w) = let l = w.1 in omega arith
layout_by layouts i P never there few (inr w) = absurd (never (subst P w.1 there))

-- a layout that is there has a number below 64
pub layout_near : (layouts : List Layout) (i : ℕ) (P : Option Layout → Type 0) → (P None → ⊥) → P (slice_get layouts i) →
    length layouts ≤ 64 → i < 64
layout_near layouts i P never there few = layout_by layouts i P never there few (slice_get_cases layouts i).1

-- a layout that is found among those of m, whose parts n has, tells how many fields an object has
pub fields_told : (m n : Mutating) → m ≡ n → (list : List Layout) → list ≡ m.heap.layouts → (j i : ℕ) → j ≡ i → (len : ℕ) →
    (layout : Layout) → slice_get list j ≡ Some layout → length (fields_of layout len) ≡ length_for n.heap i len
fields_told m n same list is j i index len layout there =
    sym (ap (λ o. length (kinds_for o len)) there)
    ∙ (λ t. length (kinds_for (slice_get (is t) (index t)) len))
    ∙ ap (λ (q : Mutating). length_for q.heap i len) same

-- the request for a birth of this layout and length
pub request_is : (z : Ground) (call : Call) (r layout len : ℕ) (request : Request) → makes_object call ≡ true →
    birth_of z call ≡ Some (r, layout, len) → layout < 64 → len ≤ 60000 → request ≡ Cell layout len (cell_size len) →
    IsTheRequest z call request
request_is z call r layout len request makes birth near few is =
    subst (IsTheRequest z call) (sym is) (record {
      birth = makes;
      words = ap birth_words birth;
      header = sym (ap header_for birth);
      some = le-max_right (1 + len) 2;
      ranges = record { of_layout = near; of_length = few; of_extra = omega arith };
    })

-- a call begins whose answer the view alone gives, whose cell is asked for, or that goes on with steps of its own
module _ (m : Mutating) (call : Call) (m' : Mutating) where
  pub begins_said : (reply : Reply) → alone m call ≡ Some reply → m' ≡ answered (record m { begun = m.begun + 1 }) call reply → Begins m call m'
  begins_said reply said is = subst (λ o. BeginsAs m call o (makes_object call) m') (sym said) is

  begins_none : (birth : Bool) → alone m call ≡ None → makes_object call ≡ birth → BeginsAs m call None birth m' → Begins m call m'
  begins_none birth none makes b =
      subst (λ o. BeginsAs m call o (makes_object call) m') (sym none) (subst (λ t. BeginsAs m call None t m') (sym makes) b)

  pub begins_steps : alone m call ≡ None → makes_object call ≡ false → m' ≡ record m { begun = m.begun + 1; task = Calls call None } →
      Begins m call m'
  begins_steps = begins_none false

  pub begins_request : alone m call ≡ None → makes_object call ≡ true → RequestsCell m call m' → Begins m call m'
  begins_request = begins_none true

not_full : (b : Bool) → cond b (Some Full) None ≡ None → b ≡ false
not_full true e = cc
not_full false e = refl

fits_as : (z : Sizes) (words : ℕ) (o : Option ℕ) → o ≡ Some words → cond (asks_too_much z (class_where z o) o) (Some Full) None ≡ None →
    is_too_long z (class_for z words) words ≡ false
fits_as z words o is none = not_full (is_too_long z (class_for z words) words)
    (subst (λ o. cond (asks_too_much z (class_where z o) o) (Some Full) None ≡ None) is none)

-- the words of a birth that the view alone does not answer fit a frame
fits_for : (z : Ground) (v : View) (words : ℕ) (call : Call) → makes_object call ≡ true → words_asked z call ≡ Some words →
    view_answer z v call ≡ None → is_too_long z.sizes (class_for z.sizes words) words ≡ false
fits_for z v words (New r layout) makes is none = fits_as z.sizes words (words_asked z (New r layout)) is none
fits_for z v words (NewArray r layout n) makes is none = fits_as z.sizes words (words_asked z (NewArray r layout n)) is none
fits_for z v words _ makes is none = absurd (cc)

-- the request of a birth was begun
module _ (m : Mutating) (call : Call) (request : Request) (is : IsTheRequest m.heap call request) (none : alone m call ≡ None)
    (sizes : m.alloc.sizes ≡ m.heap.sizes) (alloc : Keeps) where
  abbrev words : ℕ
  words = words_of_request request

  pub requests : Starts m.alloc words (header_asked request) m.epoch alloc →
      ((a : Stand) (here : ℕ → Bool) → Agrees m.alloc a here → HasBegun a words (header_asked request) m.epoch → Agrees alloc a here) →
      (is_too_long m.alloc.sizes (class_for m.alloc.sizes words) words ≡ false → IsGetting alloc.stage) → IsKept m.alloc alloc →
      (m' : Mutating) → m' ≡ record m { begun = m.begun + 1; task = Births call; alloc = alloc } → RequestsCell m call m'
  requests started agrees gets kept m' after = record {
    birth = is.birth;
    words = words;
    asked = is.words;
    alloc = alloc;
    starts = subst (λ h. Starts m.alloc words h m.epoch alloc) is.header started;
    by = kept.1;
    gets = gets (subst (λ (z : Sizes). is_too_long z (class_for z words) words ≡ false) (sym sizes)
        (fits_for m.heap (record (fresh m.heap) { locals = m.locals }) words call is.birth is.words none));
    agrees = λ a here g b. agrees a here g (subst (λ h. HasBegun a words h m.epoch) (sym is.header) b);
    after = after;
  }
