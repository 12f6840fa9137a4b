-- What a marker keeps behind its next step agrees with the view behind it.
use Rattle.std.proofs.Common.{◌≡◌, inl, inr, ℕ, ◌<◌, Bool, true, cond, eqb, eq-eqb, Some}
use Rattle.std.proofs.Common.{refl, sym, ap, ◌∙◌, subst}
use Rattle.kn_base.specs.declared.heap.Sizes.{Sizes}
use Rattle.kn_graph.specs.Ground.{Ground}
use Rattle.kn_marking.specs.declared.work.Work.{Work}
use Rattle.kn_marking.specs.declared.work.Doing.TheVariants as doings
use Rattle.kn_marking.specs.Words.{gray}
use Rattle.kn_rule.specs.declared.steps.Action.TheVariants.{Loads, Swaps}
use Rattle.kn_rule.specs.MarkedHeap.{cell_limit, set_words, set_place, set_holds, object_in}
use Rattle.kn_rule.specs.MarkSteps.{IsMarker, arrived, body_read, child_after, mark_loaded, reserved_for, root_read, work_after}
use Rattle.kn_rule.specs.Steps.{Found}
use Rattle.kn_rule.specs.Views.{View}
use Rattle.kn_steps.specs.Made.{LieAs, Made, Stand}
use Rattle.kn_mark.specs.declared.next.Next.{Next}
use Rattle.kn_mark.specs.declared.next.Next.TheVariants.{Gives, Meets, Adds, Grays, LoadsRoot, Finishes, LoadsHeader, LoadsField, Blackens}
use Rattle.kn_mark.specs.declared.next.Next.TheVariants.{Claims, LooksAt, TakesUp, Counts, Searches}
use Rattle.kn_mark.specs.Kept.{Kept, LiesInHeap}
use Rattle.kn_mark.specs.Steps.{IsNext, NamesNear, behind, step_of, work_behind}
use Rattle.kn_mark.specs.Agree.{Agrees, IsAtRef, OnlyMarked}
use Rattle.kn_mark.proofs.Behind.{right}
use Rattle.kn_mark.proofs.Finding.{field_near, root_near}

-- what the rule makes of the share is what the marker keeps
pub share_after : (z : Ground) (k : Kept) → z.sizes ≡ k.sizes → (n : Next) (w : ℕ) → IsNext k n →
    work_after z k.work w (step_of k n).kind (step_of k n).place (step_of k n).act ≡ work_behind z k n w
share_after z k same Gives w h = refl
share_after z k same (Meets y) w h =
    ap (λ c. child_after z k.work w c y Loads) h.1 ∙ ap (λ b. cond b (mark_loaded z k.work w y) k.work) (eq-eqb y y refl)
share_after z k same (Adds y v) w h = ap (reserved_for z k.work w) h.1
share_after z k same (Grays y v) w h = ap (λ c. child_after z k.work w c y (Swaps v (gray k.work.epoch))) h.1
share_after z k same (LoadsRoot j i) w h =
    ap (root_read z k.work w) h.1 ∙ ap (λ (s : Sizes). arrived z k.work w (set_holds s j w)) same
share_after z k same (Finishes j) w h = refl
share_after z k same (LoadsHeader x) w h = ap (body_read z k.work w) h.1
share_after z k same (LoadsField x hd i) w h = ap (body_read z k.work w) h.1
share_after z k same (Blackens x) w h = refl
share_after z k same (Claims j v) w h = refl
share_after z k same (LooksAt j) w h = refl
share_after z k same (TakesUp x) w h = refl
share_after z k same Counts w h = refl
share_after z k same (Searches n) w h = ap (λ c. child_after z k.work w c k.cursor Loads) h.0.0.1

-- whether the marking was seen over
abbrev pub over_behind : Next → ℕ → Bool → Bool
over_behind Counts w over = cond (eqb w 0) true over
over_behind _ w over = over

abbrev pub view_with : View → Work → Bool → View
view_with v work over = record v { work = work; collecting = record v.collecting { over = over } }

-- a step changed the share, and whether the marking was seen over
abbrev Viewed : Stand → Stand → Next → ℕ → Work → Type 0
Viewed a b n w work = b ≡ record a { view = view_with a.view work (over_behind n w a.view.collecting.over) }

module _ {k : Kept} {a : Stand} (g : Agrees k a) where
  still_marker : (w : Work) (o : Bool) → w.epoch ≡ k.work.epoch → IsMarker a.heap a.by a.view → IsMarker a.heap a.by (view_with a.view w o)
  still_marker w o e (inl m) = inl (record {
    thread = m.thread;
    out = m.out;
    begun = subst (λ n. 0 < n) (ap (λ (x : Work). x.epoch) g.share ∙ sym e) m.begun;
  })
  still_marker w o e (inr m) = inr (record { collector = m.collector; going = m.going; in_mark = m.in_mark })

module _ {k : Kept} {a : Stand} (g : Agrees k a) {here : ℕ → Bool} {f : Found} {b : Stand} {here' : ℕ → Bool} where
  rule_view : (n : Next) → Made a here (step_of k n) f b here' →
      Viewed a b n f.word (work_after a.heap a.view.work f.word (step_of k n).kind (step_of k n).place (step_of k n).act)
  rule_view Gives m = m.view
  rule_view (Meets y) m = m.view
  rule_view (Adds y v) m = m.view
  rule_view (Grays y v) m = m.view
  rule_view (LoadsRoot j i) m = m.view
  rule_view (Finishes j) m = m.view
  rule_view (LoadsHeader x) m = m.view
  rule_view (LoadsField x hd i) m = m.view
  rule_view (Blackens x) m = m.view
  rule_view (Claims j v) m = m.view
  rule_view (LooksAt j) m = m.view
  rule_view (TakesUp x) m = m.view
  rule_view Counts m = m.view
  rule_view (Searches n) m = m.view

  pub view_is : (n : Next) → IsNext k n → Made a here (step_of k n) f b here' → Viewed a b n f.word (work_behind a.heap k n f.word)
  view_is n h m =
      let w = f.word in
      let d = step_of k n in
      let o = over_behind n w a.view.collecting.over in
      rule_view n m
      ∙ (ap (λ (x : Work). record a { view = view_with a.view (work_after a.heap x w d.kind d.place d.act) o }) g.share
      ∙ ap (λ (x : Work). record a { view = view_with a.view x o }) (share_after a.heap k g.sizes n w h))

  rule_lies : (n : Next) → Made a here (step_of k n) f b here' → LieAs b.view here here'
  rule_lies Gives m = m.lies
  rule_lies (Meets y) m = m.lies
  rule_lies (Adds y v) m = m.lies
  rule_lies (Grays y v) m = m.lies
  rule_lies (LoadsRoot j i) m = m.lies
  rule_lies (Finishes j) m = m.lies
  rule_lies (LoadsHeader x) m = m.lies
  rule_lies (LoadsField x hd i) m = m.lies
  rule_lies (Blackens x) m = m.lies
  rule_lies (Claims j v) m = m.lies
  rule_lies (LooksAt j) m = m.lies
  rule_lies (TakesUp x) m = m.lies
  rule_lies Counts m = m.lies
  rule_lies (Searches n) m = m.lies

  pub only_marked : (n : Next) → IsNext k n → Made a here (step_of k n) f b here' → OnlyMarked a here b here'
  only_marked n h m =
      let e = view_is n h m in
      let o = over_behind n f.word a.view.collecting.over in
      record {
        over = o;
        view = subst (λ (x : Stand). x ≡ record a { view = view_with a.view x.view.work o }) (sym e) refl;
        lies = subst (λ (x : Stand). LieAs x.view here here') e (rule_lies n m);
      }

  pub agrees_behind : (n : Next) → IsNext k n → LiesInHeap k → NamesNear k n f.word → Made a here (step_of k n) f b here' →
      Agrees (behind a.heap k n f.word) b
  agrees_behind n h l near m =
      let r = right a.heap k l g.at_ref n f.word h near in
      let w = work_behind a.heap k n f.word in
      subst (λ b. Agrees (behind a.heap k n f.word) b) (sym (view_is n h m)) (record {
        good = g.good;
        sizes = g.sizes;
        marker = still_marker g w (over_behind n f.word a.view.collecting.over) r.1.0 g.marker;
        share = refl;
        at_ref = r.0.1;
      })

  -- an object that a loaded word names lies where objects do
  root_shown : (j i : ℕ) → IsNext k (LoadsRoot j i) → Made a here (step_of k (LoadsRoot j i)) f b here' → (y : ℕ) →
      set_holds k.sizes j f.word ≡ Some y → y < cell_limit k.sizes
  root_shown j i h m y holds =
      let s = m.shown.0 in
      let r = m.shown.1 in
      let marker = subst (λ v. IsMarker a.heap a.by v) (sym m.shown.2) g.marker in
      let doing : (s.caller a.by).work.doing ≡ doings.Set j i =
      ap (λ (v : View). v.work.doing) m.shown.2 ∙ (ap (λ (x : Work). x.doing) g.share ∙ h.1) in
      subst (λ (q : Sizes). y < cell_limit q) g.sizes
      (root_near a.heap g.good s r.0 r.1 a.by marker j i f.word y doing (subst (λ (q : Sizes). i < set_words q j) (sym g.sizes) h.2)
      (ap (λ (q : Sizes). s.word (set_place q j i)) g.sizes ∙ m.shown.3.0)
      (ap (λ (q : Sizes). set_holds q j f.word) g.sizes ∙ holds))

  field_shown : (x hd i : ℕ) → IsNext k (LoadsField x hd i) → Made a here (step_of k (LoadsField x hd i)) f b here' → (y : ℕ) →
      object_in f.word ≡ Some y → y < cell_limit k.sizes
  field_shown x hd i h m y holds =
      let s = m.shown.0 in
      let r = m.shown.1 in
      let marker = subst (λ v. IsMarker a.heap a.by v) (sym m.shown.2) g.marker in
      let doing : (s.caller a.by).work.doing ≡ doings.Cell x hd i =
      ap (λ (v : View). v.work.doing) m.shown.2 ∙ (ap (λ (x : Work). x.doing) g.share ∙ h.1) in
      subst (λ (q : Sizes). y < cell_limit q) g.sizes
      (field_near a.heap g.good s r.0 r.1 a.by marker x hd i f.word y doing h.2 (subst (λ d. IsAtRef a.heap d) h.1 g.at_ref h.2) m.shown.3.0 holds)

  pub names_near : (n : Next) → IsNext k n → Made a here (step_of k n) f b here' → NamesNear k n f.word
  names_near (LoadsRoot j i) h m = root_shown j i h m
  names_near (LoadsField x hd i) h m = field_shown x hd i h m
  names_near Gives h m = tt
  names_near (Meets y) h m = tt
  names_near (Adds y v) h m = tt
  names_near (Grays y v) h m = tt
  names_near (Finishes j) h m = tt
  names_near (LoadsHeader x) h m = tt
  names_near (Blackens x) h m = tt
  names_near (Claims j v) h m = tt
  names_near (LooksAt j) h m = tt
  names_near (TakesUp x) h m = tt
  names_near Counts h m = tt
  names_near (Searches n) h m = tt
