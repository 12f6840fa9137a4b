-- What a marker keeps behind its next step: it lies in the heap, its epoch stays, and the field reached of a cell holds a reference.
use Rattle.std.proofs.Common.{◌≡◌, ℕ, ◌+◌, ◌-◌, ◌*◌, ◌<◌, ◌≤◌, Bool, true, false, cond, eqb, List, length}
use Rattle.std.proofs.Common.{Option, Some, None}
use Rattle.std.proofs.Common.{nat_lt, refl, sym, subst, arith}
use Rattle.std.proofs.Math.Nat.{mul-le-mul_right}
use Rattle.std.proofs.lemmas.Bool.{ltb-true}
use Rattle.std.specs.List.{AllByRecursion}
use Rattle.kn_base.specs.declared.heap.Sizes.{Sizes}
use Rattle.kn_base.specs.Sizes.{IsGood}
use Rattle.kn_graph.specs.Ground.{Ground}
use Rattle.kn_marking.specs.declared.work.Work.{Work}
use Rattle.kn_marking.specs.declared.work.Doing.{Doing}
use Rattle.kn_marking.specs.declared.work.Doing.TheVariants as doings
use Rattle.kn_marking.specs.declared.work.Child.{Child}
use Rattle.kn_marking.specs.declared.work.Child.TheVariants as children
use Rattle.kn_marking.specs.Marking.{to}
use Rattle.kn_marking.specs.Shares.{took, missed, seen, passed_child, lost_child, began}
use Rattle.kn_marking.specs.Words.{gray}
use Rattle.kn_rule.specs.MarkedHeap.{cell_limit, set_holds, object_in, next_ref, place_behind}
use Rattle.kn_rule.specs.MarkSteps.{arrived}
use Rattle.kn_mark.specs.declared.next.Next.{Next}
use Rattle.kn_mark.specs.declared.next.Next.TheVariants.{Gives, Meets, Adds, Grays, LoadsRoot, Finishes, LoadsHeader, LoadsField, Blackens}
use Rattle.kn_mark.specs.declared.next.Next.TheVariants.{Claims, LooksAt, TakesUp, Counts, Searches}
use Rattle.kn_mark.specs.declared.stage.Stage.TheVariants as stages
use Rattle.kn_mark.specs.Kept.{Kept, LiesInHeap, SetLies, CellLies, ChildLies, PlaceLies}
use Rattle.kn_mark.specs.Steps.{IsNext, NamesNear, behind, hints_behind, searched, stage_behind, with_hint, work_behind}
use Rattle.kn_mark.specs.Agree.{IsAtRef}
use Rattle.kn_mark.proofs.Hinting.{all_at, all_front, all_kept}
use Rattle.kn_mark.proofs.References.{next_at}

of_cond : {A : Type 0} (R : A → Type 0) (b : Bool) (x y : A) → R x → R y → R (cond b x y)
of_cond R true x y p q = p
of_cond R false x y p q = q

pub some_words : (z : Sizes) → IsGood z → 1 < cell_limit z
some_words z good =
    let rows : 1 * z.small_words ≤ z.small * z.small_words = mul-le-mul_right z.small_words good.of_frames.small.0 in
    let words = good.of_frames.small_words.0 in
    omega (arith, rows, words)

module _ (z : Ground) (k : Kept) where
  abbrev limit : ℕ
  limit = cell_limit k.sizes

  -- the share w is right behind this one
  abbrev DoingRight : Doing → Type 0
  DoingRight d = CellLies k.sizes d × IsAtRef z d

  abbrev Right : Work → Type 0
  Right w = DoingRight w.doing × ((w.epoch ≡ k.work.epoch) × ChildLies k.sizes w.doing w.child)

  passed_right : (d : Doing) → DoingRight d → DoingRight (to (place_behind z d) d)
  passed_right doings.Free h = h
  passed_right (doings.Set j i) h = h
  passed_right (doings.Header x) h = h
  passed_right (doings.Cell x hd i) h = (h.0, next_at z hd (i + 1))

  no_child : (d : Doing) (c : Child) → c ≡ children.NoChild → ChildLies k.sizes d c
  no_child d c e = subst (λ c. ChildLies k.sizes d c) (sym e) tt

  module _ (l : LiesInHeap k) (r : IsAtRef z k.work.doing) where
    here : DoingRight k.work.doing
    here = (l.cell, r)

    there : DoingRight (to (place_behind z k.work.doing) k.work.doing)
    there = passed_right k.work.doing here

    child_is : (c : Child) → k.work.child ≡ c → ChildLies k.sizes k.work.doing c
    child_is c e = subst (λ c. ChildLies k.sizes k.work.doing c) e l.child

    arrived_right : (w : ℕ) (o : Option ℕ) → k.work.child ≡ children.NoChild → PlaceLies k.sizes k.work.doing →
        ((y : ℕ) → o ≡ Some y → y < limit) → Right (arrived z k.work w o)
    arrived_right w None none place near = (there, (refl, no_child (to (place_behind z k.work.doing) k.work.doing) k.work.child none))
    arrived_right w (Some y) none place near = (here, (refl, (near y refl, place)))

    pub right : (n : Next) (w : ℕ) → IsNext k n → NamesNear k n w → Right (work_behind z k n w)
    right Gives w h m = (here, (refl, l.child))
    right (Meets y) w h m =
        of_cond Right (nat_lt w (4 * k.work.epoch)) (seen k.work y w) (passed_child k.work (place_behind z k.work.doing))
        (here, (refl, child_is (children.Met y) h.1)) (there, (refl, tt))
    right (Adds y v) w h m = (here, (refl, child_is (children.Seen y v) h.1))
    right (Grays y v) w h m =
        of_cond Right (eqb w v) (passed_child k.work (place_behind z k.work.doing)) (lost_child k.work (place_behind z k.work.doing))
        (there, (refl, tt)) (there, (refl, tt))
    right (LoadsRoot j i) w h m =
        arrived_right w (set_holds k.sizes j w) h.0.1 (subst (λ d. PlaceLies k.sizes d) (sym h.1) h.2) m
    right (Finishes j) w h m = ((tt, tt), (refl, no_child doings.Free k.work.child h.0.1))
    right (LoadsHeader x) w h m =
        let at : x < limit = subst (λ d. CellLies k.sizes d) h.1 l.cell in
        ((at, next_at z w 0), (refl, no_child (doings.Cell x w (next_ref z w 0)) k.work.child h.0.1))
    right (LoadsField x hd i) w h m =
        arrived_right w (object_in w) h.0.1 (subst (λ d. PlaceLies k.sizes d) (sym h.1) h.2) m
    right (Blackens x) w h m = ((tt, tt), (refl, no_child doings.Free k.work.child h.0.1))
    right (Claims j v) w h m =
        of_cond Right (eqb w v) (took k.work j) (missed k.work)
        ((tt, tt), (refl, no_child (doings.Set j 0) k.work.child h.0.0.1)) (here, (refl, l.child))
    right (LooksAt j) w h m = (here, (refl, l.child))
    right (TakesUp x) w h m =
        let at = all_at (λ y. y < limit) k.hints (length k.hints - 1) x l.hints h.1 in
        of_cond Right (eqb w (gray k.work.epoch)) (began k.work x) k.work
        ((at, tt), (refl, no_child (doings.Header x) k.work.child h.0.0.0.1)) (here, (refl, l.child))
    right Counts w h m = (here, (refl, l.child))
    right (Searches n) w h m = (here, (refl, l.child))

    -- the stage
    set_at : (j : ℕ) (b : Bool) → nat_lt (j + 1) (k.sizes.threads + 2) ≡ b → SetLies k.sizes (cond b (stages.Looks (j + 1)) stages.TakesUp)
    set_at j true e = ltb-true (j + 1) (k.sizes.threads + 2) e
    set_at j false e = tt

    searched_at : (n : ℕ) (b c : Bool) → SetLies k.sizes (cond b (cond c (stages.Searches n) stages.TakesUp) stages.TakesUp)
    searched_at n true true = tt
    searched_at n true false = tt
    searched_at n false c = tt

    stage_lies : (n : Next) (w : ℕ) → SetLies k.sizes (stage_behind k n w)
    stage_lies (LooksAt j) w = set_at j (nat_lt (j + 1) (k.sizes.threads + 2)) refl
    stage_lies Counts w = of_cond (SetLies k.sizes) (eqb w 0) k.stage (stages.Searches 64) l.set tt
    stage_lies (Searches n) w =
        of_cond (SetLies k.sizes) (eqb w (gray k.work.epoch)) stages.TakesUp (searched k n) tt
        (searched_at (n - 1) (nat_lt (k.cursor + 1) limit) (nat_lt 1 n))
    stage_lies Gives w = l.set
    stage_lies (Meets y) w = l.set
    stage_lies (Adds y v) w = l.set
    stage_lies (Grays y v) w = l.set
    stage_lies (LoadsRoot j i) w = l.set
    stage_lies (Finishes j) w = l.set
    stage_lies (LoadsHeader x) w = l.set
    stage_lies (LoadsField x h i) w = l.set
    stage_lies (Blackens x) w = l.set
    stage_lies (Claims j v) w = l.set
    stage_lies (TakesUp x) w = l.set

    -- the hints
    abbrev AllNear : List ℕ → Type 0
    AllNear = AllByRecursion (λ x. x < limit)

    grays_near : (y v w : ℕ) → y < limit → AllNear (hints_behind k (Grays y v) w)
    grays_near y v w near =
        of_cond AllNear (eqb w v) (with_hint k.hints y) k.hints (all_kept (λ x. x < limit) k.hints y l.hints near) l.hints

    hints_lie : (n : Next) (w : ℕ) → IsNext k n → AllNear (hints_behind k n w)
    hints_lie (Grays y v) w h = grays_near y v w (child_is (children.Reserved y v) h.1).0
    hints_lie (TakesUp x) w h = all_front (λ x. x < limit) (length k.hints - 1) k.hints l.hints
    hints_lie (Searches n) w h =
        of_cond AllNear (eqb w (gray k.work.epoch)) (with_hint k.hints k.cursor) k.hints
        (all_kept (λ x. x < limit) k.hints k.cursor l.hints l.cursor) l.hints
    hints_lie Gives w h = l.hints
    hints_lie (Meets y) w h = l.hints
    hints_lie (Adds y v) w h = l.hints
    hints_lie (LoadsRoot j i) w h = l.hints
    hints_lie (Finishes j) w h = l.hints
    hints_lie (LoadsHeader x) w h = l.hints
    hints_lie (LoadsField x hd i) w h = l.hints
    hints_lie (Blackens x) w h = l.hints
    hints_lie (Claims j v) w h = l.hints
    hints_lie (LooksAt j) w h = l.hints
    hints_lie Counts w h = l.hints

    -- the cursor
    moved_at : (b : Bool) → nat_lt (k.cursor + 1) limit ≡ b → cond b (k.cursor + 1) 1 < limit
    moved_at true e = ltb-true (k.cursor + 1) limit e
    moved_at false e = some_words k.sizes l.good

    cursor_lies : (n : Next) (w : ℕ) → (behind z k n w).cursor < limit
    cursor_lies (Searches n) w = moved_at (nat_lt (k.cursor + 1) limit) refl
    cursor_lies Gives w = l.cursor
    cursor_lies (Meets y) w = l.cursor
    cursor_lies (Adds y v) w = l.cursor
    cursor_lies (Grays y v) w = l.cursor
    cursor_lies (LoadsRoot j i) w = l.cursor
    cursor_lies (Finishes j) w = l.cursor
    cursor_lies (LoadsHeader x) w = l.cursor
    cursor_lies (LoadsField x h i) w = l.cursor
    cursor_lies (Blackens x) w = l.cursor
    cursor_lies (Claims j v) w = l.cursor
    cursor_lies (LooksAt j) w = l.cursor
    cursor_lies (TakesUp x) w = l.cursor
    cursor_lies Counts w = l.cursor

    pub lies_behind : (n : Next) (w : ℕ) → IsNext k n → NamesNear k n w → LiesInHeap (behind z k n w)
    lies_behind n w h m = record {
      good = l.good;
      set = stage_lies n w;
      cell = (right n w h m).0.0;
      child = (right n w h m).1.1;
      hints = hints_lie n w h;
      cursor = cursor_lies n w;
    }
