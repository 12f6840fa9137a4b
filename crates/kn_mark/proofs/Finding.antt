-- An object that a marker finds lies where objects do.
use Rattle.std.proofs.Common.{◌≡◌, ◌⊎◌, inl, inr, ℕ, ◌+◌, ◌<◌, Some, sym, ap, ◌∙◌, subst}
use Rattle.kn_base.specs.declared.places.Place.TheVariants.{Phase, Pending, RootSet, Side, Body}
use Rattle.kn_base.specs.declared.kinds.Code.TheVariants as codes
use Rattle.kn_layout.specs.declared.layouts.FieldKind.TheVariants.{Ref as of_ref}
use Rattle.kn_graph.specs.Ground.{Ground, IsGoodGround}
use Rattle.kn_graph.specs.Graph.{Graph, shapes}
use Rattle.kn_marking.specs.declared.work.Work.{Work}
use Rattle.kn_marking.specs.declared.work.Doing.{Doing}
use Rattle.kn_marking.specs.declared.work.Doing.TheVariants as doings
use Rattle.kn_marking.specs.Heap.{Heap}
use Rattle.kn_marking.specs.Marking.{Busy, Names}
use Rattle.kn_marking.proofs.Ends.{good_reachable}
use Rattle.kn_marking.proofs.Steps.{named_at}
use Rattle.kn_rule.specs.Decoding.{phase_of, header_of}
use Rattle.kn_rule.specs.Requests.{told_kind}
use Rattle.kn_rule.specs.MarkedHeap.{cell_limit, set_words, set_place, set_holds, object_in, object_if, heap_of}
use Rattle.kn_rule.specs.MarkClauses.{IsHeaderRead}
use Rattle.kn_rule.specs.MarkSteps.{IsMarker}
use Rattle.kn_rule.specs.Steps.{callers}
use Rattle.kn_rule.specs.Views.{State, views_of}
use Rattle.kn_rule.specs.Rule.{RuleOf}
use Rattle.kn_keep_marking.proofs.Stands.{sound_in_mark}
use Rattle.kn_keep_marking.proofs.Places.{root_is}
use Rattle.kn_keep_marking.proofs.SetLaws.{near, marks, resting}
use Rattle.kn_keep_marking.proofs.MarkerKeeps.{mark_or_not}

module _ (z : Ground) (good : IsGoodGround z) (s : State) (g : Graph) (rule : RuleOf z g s.word s.page (views_of s.caller) s.history) (by : ℕ)
    (marker : IsMarker z by (s.caller by)) where
  abbrev InMark : Type 0
  InMark = (phase_of (s.word Phase)).code ≡ codes.Mark

  abbrev w : Work
  w = (s.caller by).work

  abbrev H : Heap
  H = heap_of z g.born (shapes g) s.word

  by_phase : InMark ⊎ (InMark → ⊥)
  by_phase = mark_or_not (phase_of (s.word Phase)).code

  -- what the place reached names
  named_near : InMark ⊎ (InMark → ⊥) → (d : Doing) (y : ℕ) → w.doing ≡ d → Busy d → (InMark → Names H d y) → y < cell_limit z.sizes
  named_near (inr out) d y is busy names = absurd (subst Busy (sym is ∙ (resting z good s g rule by marker out).free) busy)
  named_near (inl e) d y is busy names =
      let sound = sound_in_mark z good s g rule e in
      let m = (marks z good s g rule by marker e).marking in
      (good_reachable H sound y (named_at H sound g.paused (phase_of (s.word Phase)).epoch (callers z.sizes) (λ a. s.word (Side a))
      (λ j. s.word (RootSet j)) (λ c. (s.caller c).work) (s.word Pending) m by (near z good s g rule by marker) d y is (names e))).0.0

  pub root_near : (j i n y : ℕ) → w.doing ≡ doings.Set j i → i < set_words z.sizes j → s.word (set_place z.sizes j i) ≡ n →
      set_holds z.sizes j n ≡ Some y → y < cell_limit z.sizes
  root_near j i n y is l found holds =
      named_near by_phase (doings.Set j i) y is tt
      (λ e. (l, root_is z g.born (shapes g) s.word j i ∙ (ap (set_holds z.sizes j) found ∙ holds)))

  pub field_near : (x h i n y : ℕ) → w.doing ≡ doings.Cell x h i → i < (header_of h).length → told_kind z h i ≡ Some of_ref →
      s.word (Body (x + 1 + i)) ≡ n → object_in n ≡ Some y → y < cell_limit z.sizes
  field_near x h i n y is l kind found holds =
      named_near by_phase (doings.Cell x h i) y is tt (λ e.
      let read : h ≡ s.word (Body x) = subst (λ d. IsHeaderRead (λ a. s.word (Body a)) d) is
      ((marks z good s g rule by marker e).headers by (near z good s g rule by marker)) in (
        subst (λ a. i < (header_of a).length) read l,
        ap (λ a. object_if (told_kind z a i) (s.word (Body (x + 1 + i)))) (sym read)
            ∙ (ap (λ k. object_if k (s.word (Body (x + 1 + i)))) kind ∙ (ap object_in found ∙ holds)),
      ))
