-- What a marker's share has, and what its steps find, is kept in few bits.
use Rattle.std.proofs.Common.{◌≡◌, ◌≢◌, ◌⊎◌, inl, inr, ℕ, ◌+◌, ◌<◌, ◌≤◌, ◌^◌, Bool, true, false, cond, eqb}
use Rattle.std.proofs.Common.{Option, Some, None, refl, sym, subst}
use Rattle.std.proofs.Common.{ap, ◌∙◌, arith, ne_eqb}
use Rattle.std.proofs.lemmas.Bool.Decides.{eqb_tells}
use Rattle.kn_base.specs.declared.places.Place.TheVariants.{Phase, Pending, RootSet, Side, Body}
use Rattle.kn_base.specs.declared.kinds.Code.TheVariants as codes
use Rattle.kn_base.specs.declared.heap.Sizes.{Sizes}
use Rattle.kn_base.specs.Functions.{Tells}
use Rattle.kn_base.specs.Sizes.{IsGood}
use Rattle.kn_graph.specs.Ground.{Ground, IsGoodGround}
use Rattle.kn_graph.specs.Graph.{Graph, shapes}
use Rattle.kn_layout.specs.declared.layouts.FieldKind.TheVariants.{Ref as of_ref}
use Rattle.kn_marking.specs.declared.work.Work.{Work}
use Rattle.kn_marking.specs.declared.work.Doing.{Doing}
use Rattle.kn_marking.specs.declared.work.Doing.TheVariants as doings
use Rattle.kn_marking.specs.declared.work.Child.{Child}
use Rattle.kn_marking.specs.declared.work.Child.TheVariants as children
use Rattle.kn_marking.specs.Heap as heaps
use Rattle.kn_marking.specs.Marking.{Busy, Names, ChildFits, place, bound}
use Rattle.kn_marking.proofs.Ends.{good_reachable}
use Rattle.kn_marking.proofs.Steps.{named_at}
use Rattle.kn_marking.proofs.Quiet.{few_open}
use Rattle.kn_rule.specs.Decoding.{phase_of, header_of}
use Rattle.kn_rule.specs.Views.{State, views_of}
use Rattle.kn_rule.specs.Requests.{told_kind}
use Rattle.kn_rule.specs.MarkedHeap.{cell_limit, set_words, set_place, set_holds, heap_of, object_in, object_if, name_in_set}
use Rattle.kn_rule.specs.MarkSteps.{IsMarker}
use Rattle.kn_rule.specs.Steps.{callers}
use Rattle.kn_rule.specs.MarkClauses.{IsHeaderRead}
use Rattle.kn_rule.specs.Rule.{RuleOf}
use Rattle.kn_keep_marking.proofs.Stands.{sound_in_mark}
use Rattle.kn_keep_marking.proofs.SetLaws.{near, marks, resting, fits}
use Rattle.kn_keep_marking.proofs.CellLaws.{told_below}
use Rattle.kn_keep_marking.proofs.MarkerKeeps.{mark_or_not}
use Rattle.kn_keep_marking.proofs.Places.{root_is}
use Rattle.kn_view.specs.Shares.{IsCellRead, IsChildNear, IsRootRead}

header_short : (h : ℕ) → (header_of h).length < 2 ^ 24
unfolding header_of
header_short h = omega arith

-- a root set has few words
set_short : (z : Sizes) → IsGood z → (j : ℕ) → set_words z j ≤ 128
set_short z good j = at (eqb j z.threads) (eqb j (z.threads + 1))
  where
    at : (a b : Bool) → cond a z.globals (cond b (z.stable + z.back) 16) ≤ 128
    at true b = let l = good.of_names.globals in omega (arith, l)
    at false true = let l = good.of_names.stable in let m = good.of_names.back in omega (arith, l, m)
    at false false = omega arith

limit_short : (z : Sizes) → IsGood z → cell_limit z < 2 ^ 31
limit_short z good = let l = good.of_frames.words.1 in omega (arith, l)

object_some : (w : ℕ) → w ≢ 0 → object_in w ≡ Some w
object_some w ne = ap (λ b. cond {A = Option ℕ} b None (Some w)) (ne_eqb w 0 ne)

-- a word of a root set that is not one of names holds the object that it has the address of
holds_some : (z : Sizes) (j w : ℕ) → j ≢ z.threads + 1 → w ≢ 0 → set_holds z j w ≡ Some w
holds_some z j w ne some = at (eqb j z.threads) (eqb j (z.threads + 1)) (ne_eqb j (z.threads + 1) ne)
  where
    at : (a b : Bool) → b ≡ false → cond a (object_in w) (cond b (Rattle.kn_rule.specs.MarkedHeap.object_named w) (object_in w)) ≡ Some w
    at true b e = object_some w some
    at false false e = object_some w some
    at false true e = cc

module _ (z : Ground) (good : IsGoodGround z) (s : State) (g : Graph) (rule : RuleOf z g s.word s.page (views_of s.caller) s.history) (by : ℕ)
    (marker : IsMarker z by (s.caller by)) where
  abbrev InMark : Type 0
  InMark = (phase_of (s.word Phase)).code ≡ codes.Mark

  abbrev w : Work
  w = (s.caller by).work

  abbrev H : heaps.Heap
  H = heap_of z g.born (shapes g) s.word

  by_phase : InMark ⊎ (InMark → ⊥)
  by_phase = mark_or_not (phase_of (s.word Phase)).code

  owes_at : InMark ⊎ (InMark → ⊥) → w.owed ≤ 1
  owes_at (inl e) = let few = (fits z good s g rule by marker e).few in omega (arith, few)
  owes_at (inr out) = let none = (resting z good s g rule by marker out).no_debt in omega (arith, none)

  -- it owes one unit of work at most
  pub owes_little : w.owed + 1 < 2 ^ 64
  owes_little = let few = owes_at by_phase in omega (arith, few)

  reached_small : (d : Doing) → place d < bound H d → place d + 1 < 2 ^ 32
  reached_small doings.Free l = omega (arith, l)
  reached_small (doings.Set j i) l = let few = set_short z.sizes good.sizes j in omega (arith, l, few)
  reached_small (doings.Header x) l = omega (arith, l)
  reached_small (doings.Cell x h i) l = let few = header_short (s.word (Body x)) in omega (arith, l, few)

  named_small : InMark → (y : ℕ) → Names H w.doing y → y < 2 ^ 32
  named_small e y n =
      let sound = sound_in_mark z good s g rule e in
      let m = (marks z good s g rule by marker e).marking in
      let l = (good_reachable H sound y (named_at H sound g.paused (phase_of (s.word Phase)).epoch (callers z.sizes) (λ a. s.word (Side a))
      (λ j. s.word (RootSet j)) (λ c. (s.caller c).work) (s.word Pending) m by (near z good s g rule by marker) w.doing y refl n)).0.0 in
      let few = limit_short z.sizes good.sizes in omega (arith, l, few)

  child_fits : InMark → (c : Child) → w.child ≡ c → ChildFits H (phase_of (s.word Phase)).epoch (λ a. s.word (Side a)) w.doing c
  child_fits e c is =
      subst (λ x. ChildFits H (phase_of (s.word Phase)).epoch (λ a. s.word (Side a)) w.doing x) is (fits z good s g rule by marker e).child

  child_at : (c : Child) → w.child ≡ c → InMark ⊎ (InMark → ⊥) → IsChildNear w.doing c
  child_at children.NoChild is o = tt
  child_at (children.Met y) is (inl e) = reached_small w.doing (child_fits e (children.Met y) is).0
  child_at (children.Met y) is (inr out) =
      let x : children.Met y ≡ children.NoChild = sym is ∙ (resting z good s g rule by marker out).no_child in cc
  child_at (children.Seen y v) is o = tt
  child_at (children.Reserved y v) is (inl e) = reached_small w.doing (child_fits e (children.Reserved y v) is).0.0
  child_at (children.Reserved y v) is (inr out) =
      let x : children.Reserved y v ≡ children.NoChild = sym is ∙ (resting z good s g rule by marker out).no_child in cc

  -- the place behind that of its child has a number
  pub child_near : IsChildNear w.doing w.child
  child_near = child_at w.child refl by_phase

  root_small : (j i n : ℕ) → w.doing ≡ doings.Set j i → i < set_words z.sizes j → s.word (set_place z.sizes j i) ≡ n →
      j ≢ z.sizes.threads + 1 →
      InMark ⊎ (InMark → ⊥) → Tells n 0 → n < 2 ^ 32
  root_small j i n is l found ne o (inl t) = let none = t.1 in omega (arith, none)
  root_small j i n is l found ne (inr out) (inr t) = absurd (subst Busy (sym is ∙ (resting z good s g rule by marker out).free) tt)
  root_small j i n is l found ne (inl e) (inr t) =
      named_small e n (subst (λ d. Names H d n) (sym is) (
        l,
        root_is z g.born (shapes g) s.word j i ∙ ap (set_holds z.sizes j) found
            ∙ holds_some z.sizes j n ne t.1,
      ))

  -- the word of a root set may be kept
  pub root_read : (j i n : ℕ) → w.doing ≡ doings.Set j i → i < set_words z.sizes j → s.word (set_place z.sizes j i) ≡ n →
      IsRootRead z.sizes w.doing n
  root_read j i n is l found =
      subst (λ d. IsRootRead z.sizes d n) (sym is) (
        reached_small (doings.Set j i) l,
        λ ne. root_small j i n is l found ne by_phase (eqb_tells n 0),
      )

  field_small : (x h i n : ℕ) → w.doing ≡ doings.Cell x h i → told_kind z h i ≡ Some of_ref → s.word (Body (x + 1 + i)) ≡ n →
      InMark ⊎ (InMark → ⊥) → Tells n 0 → n < 2 ^ 32
  field_small x h i n is kind found o (inl t) = let none = t.1 in omega (arith, none)
  field_small x h i n is kind found (inr out) (inr t) = absurd (subst Busy (sym is ∙ (resting z good s g rule by marker out).free) tt)
  field_small x h i n is kind found (inl e) (inr t) =
      let read : h ≡ s.word (Body x) = subst (λ d. IsHeaderRead (λ a. s.word (Body a)) d) is
      ((marks z good s g rule by marker e).headers by (near z good s g rule by marker)) in
      named_small e n (subst (λ d. Names H d n) (sym is) (
        subst (λ a. i < (header_of a).length) read (told_below z h i of_ref kind),
        ap (λ a. object_if (told_kind z a i) (s.word (Body (x + 1 + i)))) (sym read)
            ∙ (ap (λ k. object_if k (s.word (Body (x + 1 + i)))) kind ∙ (ap object_in found ∙ object_some n t.1)),
      ))

  -- the word of a reference field may be kept
  pub field_read : (x h i n : ℕ) → w.doing ≡ doings.Cell x h i → told_kind z h i ≡ Some of_ref → s.word (Body (x + 1 + i)) ≡ n →
      IsCellRead w.doing n
  field_read x h i n is kind found =
      let below = told_below z h i of_ref kind in let few = header_short h in
      subst (λ d. IsCellRead d n) (sym is) (omega (arith, below, few), field_small x h i n is kind found by_phase (eqb_tells n 0))

  few_at : (y v : ℕ) → w.child ≡ children.Seen y v → InMark ⊎ (InMark → ⊥) → s.word Pending + 1 < 2 ^ 64
  few_at y v is (inr out) =
      let x : children.Seen y v ≡ children.NoChild = sym is ∙ (resting z good s g rule by marker out).no_child in cc
  few_at y v is (inl e) =
      let few = few_open H (phase_of (s.word Phase)).epoch (callers z.sizes) (λ a. s.word (Side a)) (λ j. s.word (RootSet j))
      (λ c. (s.caller c).work) (s.word Pending) (marks z good s g rule by marker e).marking.shares in
      let l = limit_short z.sizes good.sizes in let t = good.sizes.of_threads.threads.1 in omega (arith, few, l, t)

  -- the count of open work has room for one more
  pub count_small : (y v : ℕ) → w.child ≡ children.Seen y v → s.word Pending + 1 < 2 ^ 64
  count_small y v is = few_at y v is by_phase
