-- A step of the collector lowers what it has left, but for the one that ends it, which raises nothing.
use Rattle.std.proofs.Common.{◌≡◌, ◌≢◌, ℕ, zero, suc, ◌+◌, ◌-◌, ◌*◌, ◌<◌, ◌≤◌, Bool, true, false, cond, Option, Some}
use Rattle.std.proofs.Common.{None, List}
use Rattle.std.proofs.Common.{refl, sym, ap, subst, arith, eq-eqb, ne_eqb}
use Rattle.std.proofs.lemmas.Bool.{ltb-true}
use Rattle.kn_base.specs.Functions.{upd}
use Rattle.kn_base.specs.Sizes.{word_count}
use Rattle.kn_base.proofs.Updates.{upd_here, upd_else}
use Rattle.kn_layout.specs.declared.layouts.FieldKind.{FieldKind}
use Rattle.kn_layout.specs.declared.layouts.FieldKind.TheVariants.{Ref as of_ref}
use Rattle.kn_layout.specs.Layouts.{cell_size}
use Rattle.kn_graph.specs.declared.calls.Call.{Call}
use Rattle.kn_graph.specs.Ground.{Ground}
use Rattle.kn_graph.specs.Graph.{pointers}
use Rattle.kn_cms_rule.specs.declared.stages.Colour.{Colour}
use Rattle.kn_cms_rule.specs.declared.stages.Colour.TheVariants.{White, Gray, Black}
use Rattle.kn_cms_rule.specs.declared.stages.Stage.{Stage}
use Rattle.kn_cms_rule.specs.declared.stages.Stage.TheVariants.{Waiting, Marking, Looking}
use Rattle.kn_cms_rule.specs.Words.{lengths, words_before, words_taken}
use Rattle.kn_cms_rule.specs.State.{State, is_coloured, shade}
use Rattle.kn_cms_rule.specs.Steps.{Snapshots, Begins, Looks, Blackens, Ends}
use Rattle.kn_cms_rule.specs.Rule.{Rule, IsInMarking, IsAtStage, IsBegun}
use Rattle.kn_cms_rule.proofs.Histories.{kept_born}
use Rattle.kn_cms_bound.specs.Work.{sum_below, steps_of_object, steps_in_object, steps_of_stage, steps_of_collector}
use Rattle.kn_cms_bound.proofs.Sums.{sum_falls}
use Rattle.kn_cms_bound.proofs.ThreadWork.{shade_less}

-- the steps of marking are at most two for each word
object_words : (c : Colour) (fields : ℕ) → steps_of_object c fields ≤ 2 * cell_size fields
object_words White fields = omega arith
object_words Gray fields = omega arith
object_words Black fields = omega arith

marking_words : (colour : ℕ → Colour) (fields : ℕ → ℕ) (n : ℕ) →
    sum_below (λ k. steps_of_object (colour k) (fields k)) n ≤ 2 * words_before fields n
marking_words colour fields zero = omega arith
marking_words colour fields (suc n) =
    let here = object_words (colour n) (fields n) in let rest = marking_words colour fields n in omega (arith, here, rest)

within_length : (b : Bool) (kind : Option FieldKind) → cond b kind None ≡ Some of_ref → b ≡ true
within_length true kind e = refl
within_length false kind e = absurd (cc)

module _ (z : Ground) (calls : ℕ → List Call) (s : State) (rule : Rule z calls s) where
  -- an object that is gray in marking was born
  gray_born : (h : IsInMarking z s) (n : ℕ) → s.colour n ≡ Gray → n < s.graph.born
  gray_born h n gray = kept_born z s.graph s.history h.at h.since n (h.rule.coloured n (ap is_coloured gray))

  in_look : (n from : ℕ) → s.stage ≡ Looking n from → IsInMarking z s
  in_look n from is = subst (IsAtStage z s) is rule.at_stage

  begun_gray : (n from : ℕ) → s.stage ≡ Looking n from → s.colour n ≡ Gray
  begun_gray n from is = let h = in_look n from is in
      let b : IsBegun z h.at s.colour s.looked (Looking n from) = subst (IsBegun z h.at s.colour s.looked) is h.begun in b.0

  pub begun_born : (n from : ℕ) → s.stage ≡ Looking n from → n < s.graph.born
  begun_born n from is = gray_born (in_look n from is) n (begun_gray n from is)

  pub begins_born : (n : ℕ) → s.stage ≡ Marking → s.colour n ≡ Gray → n < s.graph.born
  begins_born n is gray = let h : IsInMarking z s = subst (IsAtStage z s) is rule.at_stage in gray_born h n gray

  steps_are : (stage : Stage) → s.stage ≡ stage →
      steps_of_collector z s ≡ steps_of_stage (word_count z.sizes) stage s.colour (lengths s.graph) s.graph.born
  steps_are stage is = ap (λ (t : Stage). steps_of_stage (word_count z.sizes) t s.colour (lengths s.graph) s.graph.born) is

  -- of the object begun, and of another one
  at_begun : (n from : ℕ) (colour : ℕ → Colour) → steps_in_object n from colour (lengths s.graph) n ≡ 1 + (lengths s.graph n - from)
  at_begun n from colour =
      ap (λ b. cond b (1 + (lengths s.graph n - from)) (steps_of_object (colour n) (lengths s.graph n))) (eq-eqb n n refl)

  at_other : (n from : ℕ) (colour : ℕ → Colour) (m : ℕ) → n ≢ m →
      steps_in_object n from colour (lengths s.graph) m ≡ steps_of_object (colour m) (lengths s.graph m)
  at_other n from colour m ne =
      ap (λ b. cond b (1 + (lengths s.graph m - from)) (steps_of_object (colour m) (lengths s.graph m))) (ne_eqb n m ne)

  module _ (s' : State) where
    pub snapshot_lowers : words_taken s.graph ≤ word_count z.sizes → Snapshots z s s' → steps_of_collector z s' < steps_of_collector z s
    snapshot_lowers fits k = subst (λ (x : State). steps_of_collector z x < steps_of_collector z s) (sym k.after)
        (let old = steps_are Waiting k.waits in let new = marking_words k.colour (lengths s.graph) s.graph.born in omega (arith, old, new, fits))

    pub begin_lowers : Begins z s s' → steps_of_collector z s' < steps_of_collector z s
    begin_lowers k = subst (λ (x : State). steps_of_collector z x < steps_of_collector z s) (sym k.after)
        (let old = steps_are Marking k.marks in
        let here = at_begun k.object 0 s.colour in
        let there = ap (λ (c : Colour). steps_of_object c (lengths s.graph k.object)) k.is_gray in
        let falls = sum_falls (λ n. steps_of_object (s.colour n) (lengths s.graph n)) (steps_in_object k.object 0 s.colour (lengths s.graph)) s.graph.born
        k.object (begins_born k.object k.marks k.is_gray) (omega (arith, here, there))
        (λ m less ne. let e = at_other k.object 0 s.colour m ne in omega (arith, e)) in
        omega (arith, old, falls))

    pub look_lowers : Looks z s s' → steps_of_collector z s' < steps_of_collector z s
    look_lowers k = subst (λ (x : State). steps_of_collector z x < steps_of_collector z s) (sym k.after)
        (let old = steps_are (Looking k.object k.from) k.begun in
        let v = pointers s.graph k.object k.field in
        let within = ltb-true k.field (lengths s.graph k.object) (within_length _ _ k.next.kind) in
        let behind = k.next.behind in
        let before = at_begun k.object k.from s.colour in
        let after = at_begun k.object (k.field + 1) (shade s.colour v) in
        let falls = sum_falls (steps_in_object k.object k.from s.colour (lengths s.graph))
        (steps_in_object k.object (k.field + 1) (shade s.colour v) (lengths s.graph)) s.graph.born
        k.object (begun_born k.object k.from k.begun) (omega (arith, before, after, within, behind))
        (λ m less ne. let e = at_other k.object k.from s.colour m ne in let f = at_other k.object (k.field + 1) (shade s.colour v) m ne in
        let g = shade_less s.colour v m (lengths s.graph m) in omega (arith, e, f, g)) in
        omega (arith, old, falls))

    pub blacken_lowers : Blackens z s s' → steps_of_collector z s' < steps_of_collector z s
    blacken_lowers k = subst (λ (x : State). steps_of_collector z x < steps_of_collector z s) (sym k.after)
        (let old = steps_are (Looking k.object k.from) k.begun in
        let before = at_begun k.object k.from s.colour in
        let after = ap (λ (c : Colour). steps_of_object c (lengths s.graph k.object)) (upd_here s.colour k.object Black) in
        let falls = sum_falls (steps_in_object k.object k.from s.colour (lengths s.graph))
        (λ n. steps_of_object (upd s.colour k.object Black n) (lengths s.graph n)) s.graph.born
        k.object (begun_born k.object k.from k.begun) (omega (arith, before, after))
        (λ m less ne. let e = at_other k.object k.from s.colour m ne in
        let f = ap (λ (c : Colour). steps_of_object c (lengths s.graph m)) (upd_else s.colour k.object Black m ne) in omega (arith, e, f)) in
        omega (arith, old, falls))

    pub end_lowers : Ends z s s' → steps_of_collector z s' ≤ steps_of_collector z s
    end_lowers k = subst (λ (x : State). steps_of_collector z x ≤ steps_of_collector z s) (sym k.after) (omega arith)
