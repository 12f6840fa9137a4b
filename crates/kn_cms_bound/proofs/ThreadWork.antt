-- A step of a thread lowers what the threads have left, and raises nothing for the collector.
use Rattle.std.proofs.Common.{◌≡◌, ◌≢◌, ℕ, ◌+◌, ◌-◌, ◌*◌, ◌<◌, ◌≤◌, ◌∙◌, Bool, true, false, cond}
use Rattle.std.proofs.Common.{Option, Some, None, List, [], ◌∷◌, length}
use Rattle.std.proofs.Common.{eqb, refl, sym, ap, subst, arith, ne_eqb, add-one, inl, inr, ◌⊎◌}
use Rattle.std.proofs.lemmas.Bool.{cases_lt, eqb-true}
use Rattle.kn_base.specs.Functions.{upd}
use Rattle.kn_base.specs.Sizes.{word_count}
use Rattle.kn_base.proofs.Updates.{upd_here, upd_else, part_same}
use Rattle.kn_layout.specs.Layouts.{cell_size}
use Rattle.kn_graph.specs.declared.calls.Call.{Call}
use Rattle.kn_graph.specs.declared.calls.Call.TheVariants.{Set}
use Rattle.kn_graph.specs.Ground.{Ground}
use Rattle.kn_graph.specs.declared.calls.Reply.{Reply}
use Rattle.kn_graph.specs.declared.calls.Reply.TheVariants as replies
use Rattle.kn_graph.specs.Graph.{Graph, Object, pointers, with_birth, with_points, newborn}
use Rattle.kn_cms_rule.specs.declared.stages.Colour.{Colour}
use Rattle.kn_cms_rule.specs.declared.stages.Colour.TheVariants.{White, Gray, Black}
use Rattle.kn_cms_rule.specs.declared.stages.Doing.{Doing}
use Rattle.kn_cms_rule.specs.declared.stages.Doing.TheVariants.{Free, Loaded, Shaded}
use Rattle.kn_cms_rule.specs.declared.stages.Stage.{Stage}
use Rattle.kn_cms_rule.specs.declared.stages.Stage.TheVariants.{Waiting, Marking, Looking, Finished}
use Rattle.kn_cms_rule.specs.Calls.{ChangesHeld}
use Rattle.kn_cms_rule.specs.Calls as held
use Rattle.kn_cms_rule.specs.Words.{lengths, words_before, words_taken}
use Rattle.kn_cms_rule.specs.State.{State, shade, shaded, is_marking, birth_colour}
use Rattle.kn_cms_rule.specs.Rule.{Rule, IsInMiddle}
use Rattle.kn_cms_rule.specs.Steps.{Bears, Shades, Stores, answered}
use Rattle.kn_cms_rule.specs.Steps.{ThreadStep, bears, fills, answers, refuses, loads, shades, stores, next_address}
use Rattle.kn_cms_rule.proofs.Made.{whole_changes}
use Rattle.kn_cms_rule.proofs.Stacked.{words_same}
use Rattle.kn_cms_bound.specs.Work.{sum_below, steps_of_call, steps_of_calls, steps_of_threads, steps_of_object, steps_in_object}
use Rattle.kn_cms_bound.specs.Work.{steps_of_stage, steps_of_collector}
use Rattle.kn_cms_bound.proofs.Sums.{sum_mono, sum_falls}

-- the steps of the threads fall where those of one fall, and the others stay as they are
module _ (left left' : ℕ → List Call) (doing doing' : ℕ → Doing) (threads i : ℕ) (near : i < threads)
    (lefts : (j : ℕ) → i ≢ j → left' j ≡ left j) (doings : (j : ℕ) → i ≢ j → doing' j ≡ doing j) where
  pub threads_fall : steps_of_calls (left' i) (doing' i) < steps_of_calls (left i) (doing i) →
      sum_below (λ j. steps_of_calls (left' j) (doing' j)) threads < sum_below (λ j. steps_of_calls (left j) (doing j)) threads
  threads_fall here = sum_falls (λ j. steps_of_calls (left j) (doing j)) (λ j. steps_of_calls (left' j) (doing' j)) threads i near here
      (λ j less ne. let e = ap (λ (l : List Call). steps_of_calls l (doing' j)) (lefts j ne)
      ∙ ap (λ (d : Doing). steps_of_calls (left j) d) (doings j ne) in
      omega (arith, e))

some_left : (d : Doing) → 1 ≤ steps_of_call d
some_left Free = omega arith
some_left (Loaded n f v) = omega arith
some_left (Shaded n f) = omega arith

pub between_calls : (rest : List Call) → steps_of_calls rest Free ≡ 3 * length rest
between_calls [] = refl
between_calls (call ∷ rest) = omega arith

-- a call that is answered
answer_falls : (left : ℕ → List Call) (doing : ℕ → Doing) (threads i : ℕ) → i < threads → (call : Call) (rest : List Call) →
    left i ≡ call ∷ rest →
    sum_below (λ j. steps_of_calls (upd left i rest j) (upd doing i Free j)) threads < sum_below (λ j. steps_of_calls (left j) (doing j)) threads
answer_falls left doing threads i near call rest is =
    threads_fall left (upd left i rest) doing (upd doing i Free) threads i near (upd_else left i rest) (upd_else doing i Free)
    (let new = ap (λ (l : List Call). steps_of_calls l (upd doing i Free i)) (upd_here left i rest)
    ∙ (ap (λ (d : Doing). steps_of_calls rest d) (upd_here doing i Free) ∙ between_calls rest) in
    let old = ap (λ (l : List Call). steps_of_calls l (doing i)) is in
    let some = some_left (doing i) in
    omega (arith, new, old, some))

-- a step within a call
within_falls : (left : ℕ → List Call) (doing : ℕ → Doing) (threads i : ℕ) → i < threads → (call : Call) (rest : List Call) →
    left i ≡ call ∷ rest →
    (d : Doing) → steps_of_call d < steps_of_call (doing i) →
    sum_below (λ j. steps_of_calls (left j) (upd doing i d j)) threads < sum_below (λ j. steps_of_calls (left j) (doing j)) threads
within_falls left doing threads i near call rest is d less =
    threads_fall left left doing (upd doing i d) threads i near (λ j ne. refl) (upd_else doing i d)
    (let new = ap (λ (l : List Call). steps_of_calls l (upd doing i d i)) is ∙ ap (λ (x : Doing). steps_of_calls (call ∷ rest) x) (upd_here doing i d) in
    let old = ap (λ (l : List Call). steps_of_calls l (doing i)) is in
    omega (arith, new, old, less))

-- the steps of the collector do not rise where no object is born and each one that was black stays so
same_born : (words : ℕ) (stage : Stage) (colour colour' : ℕ → Colour) (fields fields' : ℕ → ℕ) (born : ℕ) →
    ((n : ℕ) → fields' n ≡ fields n) → ((n k : ℕ) → steps_of_object (colour' n) k ≤ steps_of_object (colour n) k) →
    steps_of_stage words stage colour' fields' born ≤ steps_of_stage words stage colour fields born
same_born words Waiting colour colour' fields fields' born same less = omega arith
same_born words Marking colour colour' fields fields' born same less =
    sum_mono (λ n. steps_of_object (colour n) (fields n)) (λ n. steps_of_object (colour' n) (fields' n)) born
    (λ n near. let e = ap (λ k. steps_of_object (colour' n) k) (same n) in let f = less n (fields n) in omega (arith, e, f))
same_born words (Looking begun from) colour colour' fields fields' born same less =
    sum_mono (steps_in_object begun from colour fields) (steps_in_object begun from colour' fields') born
    (λ n near. at n (eqb begun n))
  where
    at : (n : ℕ) (b : Bool) → cond b (1 + (fields' n - from)) (steps_of_object (colour' n) (fields' n)) ≤
        cond b (1 + (fields n - from)) (steps_of_object (colour n) (fields n))
    at n true = let e = same n in omega (arith, e)
    at n false = let e = ap (λ k. steps_of_object (colour' n) k) (same n) in let f = less n (fields n) in omega (arith, e, f)
same_born words Finished colour colour' fields fields' born same less = omega arith

shaded_less : (c : Colour) (k : ℕ) → steps_of_object (shaded c) k ≤ steps_of_object c k
shaded_less White k = omega arith
shaded_less Gray k = omega arith
shaded_less Black k = omega arith

pub shade_less : (colour : ℕ → Colour) (v : Option ℕ) (n k : ℕ) → steps_of_object (shade colour v n) k ≤ steps_of_object (colour n) k
shade_less colour None n k = omega arith
shade_less colour (Some m) n k = at (eqb m n) refl
  where
    at : (b : Bool) → eqb m n ≡ b → steps_of_object (cond b (shaded (colour m)) (colour n)) k ≤ steps_of_object (colour n) k
    at true is = subst (λ j. steps_of_object (shaded (colour m)) k ≤ steps_of_object (colour j) k) (eqb-true m n is) (shaded_less (colour m) k)
    at false is = omega arith

-- a sum that gains a value of 0 at its end does not rise where no other value does
gains_none : (f g : ℕ → ℕ) (n : ℕ) → g n ≡ 0 → ((k : ℕ) → k < n → g k ≤ f k) → sum_below g (n + 1) ≤ sum_below f n
gains_none f g n none less =
    let more = ap (sum_below g) (add-one n) in let rest = sum_mono f g n less in omega (arith, more, none, rest)

-- the steps of the collector do not rise where an object is born, black behind the snapshot
module _ (words born : ℕ) (colour colour' : ℕ → Colour) (fields fields' : ℕ → ℕ) (colours : (n : ℕ) → n < born → colour' n ≡ colour n)
    (sizes : (n : ℕ) → n < born → fields' n ≡ fields n) where
  object_same : (n : ℕ) → n < born → steps_of_object (colour' n) (fields' n) ≡ steps_of_object (colour n) (fields n)
  object_same n near =
      ap (λ (c : Colour). steps_of_object c (fields' n)) (colours n near) ∙ ap (λ k. steps_of_object (colour n) k) (sizes n near)

  none_new : colour' born ≡ Black → steps_of_object (colour' born) (fields' born) ≡ 0
  none_new black = ap (λ (c : Colour). steps_of_object c (fields' born)) black

  begun_same : (begun from n : ℕ) (b : Bool) → n < born →
      cond b (1 + (fields' n - from)) (steps_of_object (colour' n) (fields' n)) ≡ cond b (1 + (fields n - from)) (steps_of_object (colour n) (fields n))
  begun_same begun from n true near = ap (λ k. 1 + (k - from)) (sizes n near)
  begun_same begun from n false near = object_same n near

  begun_new : (begun from : ℕ) → begun < born → colour' born ≡ Black → steps_in_object begun from colour' fields' born ≡ 0
  begun_new begun from less black =
      ap (λ b. cond b (1 + (fields' born - from)) (steps_of_object (colour' born) (fields' born))) (ne_eqb begun born (λ e. absurd (omega (arith, less, e))))
      ∙ none_new black

  pub born_adds_none : (stage : Stage) → ((n f : ℕ) → stage ≡ Looking n f → n < born) → colour' born ≡ birth_colour stage →
      steps_of_stage words stage colour' fields' (born + 1) ≤ steps_of_stage words stage colour fields born
  born_adds_none Waiting older is = omega arith
  born_adds_none Marking older is = gains_none (λ n. steps_of_object (colour n) (fields n)) (λ n. steps_of_object (colour' n) (fields' n)) born
      (none_new is) (λ n near. let e = object_same n near in omega (arith, e))
  born_adds_none (Looking begun from) older is =
      gains_none (steps_in_object begun from colour fields) (steps_in_object begun from colour' fields') born
      (begun_new begun from (older begun from refl) is) (λ n near. let e = begun_same begun from n (eqb begun n) near in omega (arith, e))
  born_adds_none Finished older is = omega arith

-- the fields of objects stay where a thread changes what is held
held_same : (i : ℕ) (g g' : Graph) → ChangesHeld i g g' → (g'.born ≡ g.born) × (◌≡◌ {A = ℕ → ℕ} (lengths g') (lengths g))
held_same i g g' held.nothing = (refl, refl)
held_same i g g' (held.of_local r x) = (refl, refl)
held_same i g g' (held.of_global k x) = (refl, refl)

-- what a step of a thread leaves
pub record StepLowers (z : Ground) (s s' : State) : Type 0 where
  pub threads : steps_of_threads z s' < steps_of_threads z s
  pub collector : steps_of_collector z s' ≤ steps_of_collector z s
  pub fits : words_taken s.graph ≤ word_count z.sizes → words_taken s'.graph ≤ word_count z.sizes

module _ (z : Ground) (calls : ℕ → List Call) (s : State) (rule : Rule z calls s) (i : ℕ) (near : i < z.sizes.threads)
    (older : (n f : ℕ) → s.stage ≡ Looking n f → n < s.graph.born) where
  -- a call that is answered without a birth
  answered_lowers : (call : Call) (rest : List Call) → s.left i ≡ call ∷ rest → (reply : Reply) (address : ℕ) (g : Graph) →
      g.born ≡ s.graph.born → ◌≡◌ {A = ℕ → ℕ} (lengths g) (lengths s.graph) → StepLowers z s (answered s i rest call reply address g)
  answered_lowers call rest is reply address g born sizes = record {
    threads = answer_falls s.left s.doing z.sizes.threads i near call rest is;
    collector =
        let e = ap (λ (l : ℕ → ℕ). steps_of_stage (word_count z.sizes) s.stage s.colour l g.born) sizes
        ∙ ap (λ n. steps_of_stage (word_count z.sizes) s.stage s.colour (lengths s.graph) n) born in omega (arith, e);
    fits = λ h. let e = ap (λ (l : ℕ → ℕ). words_before l g.born) sizes ∙ ap (words_before (lengths s.graph)) born in omega (arith, h, e);
  }

  module _ (s' : State) (k : Bears z s i s') where
    new : Object
    new = newborn (next_address s.graph) k.birth.layout k.birth.fields

    born_graph : Graph
    born_graph = with_birth s.graph i k.birth.local (newborn (next_address s.graph) k.birth.layout k.birth.fields)

    older_sizes : (n : ℕ) → n < s.graph.born →
        (upd s.graph.object s.graph.born (newborn (next_address s.graph) k.birth.layout k.birth.fields) n).length ≡ (s.graph.object n).length
    older_sizes n less = ap (λ (o : Object). o.length)
        (upd_else s.graph.object s.graph.born (newborn (next_address s.graph) k.birth.layout k.birth.fields) n (λ e. absurd (omega (arith, less, e))))

    new_size : (upd s.graph.object s.graph.born (newborn (next_address s.graph) k.birth.layout k.birth.fields) s.graph.born).length ≡ k.birth.fields
    new_size = ap (λ (o : Object). o.length)
        (upd_here s.graph.object s.graph.born (newborn (next_address s.graph) k.birth.layout k.birth.fields))

    born_fits : words_before (λ n. (upd s.graph.object s.graph.born (newborn (next_address s.graph) k.birth.layout k.birth.fields) n).length)
        (s.graph.born + 1) ≤ word_count z.sizes
    born_fits =
        let l : ℕ → ℕ = λ n. (upd s.graph.object s.graph.born (newborn (next_address s.graph) k.birth.layout k.birth.fields) n).length in
        let more = ap (words_before l) (add-one s.graph.born) in
        let last = ap cell_size new_size in
        let front = words_same l (lengths s.graph) s.graph.born older_sizes in
        by (cases_lt (word_count z.sizes) (words_taken s.graph + cell_size k.birth.fields)) (omega (arith, more, last, front))
      where
        by : (word_count z.sizes < words_taken s.graph + cell_size k.birth.fields)
            ⊎ (words_taken s.graph + cell_size k.birth.fields ≤ word_count z.sizes) →
            words_before (λ n. (upd s.graph.object s.graph.born (newborn (next_address s.graph) k.birth.layout k.birth.fields) n).length)
            (s.graph.born + 1) ≤ words_taken s.graph + cell_size k.birth.fields →
            words_before (λ n. (upd s.graph.object s.graph.born (newborn (next_address s.graph) k.birth.layout k.birth.fields) n).length)
            (s.graph.born + 1) ≤ word_count z.sizes
        by (inl less) h = absurd (k.room less)
        by (inr more) h = omega (arith, more, h)

    birth_lowers : StepLowers z s s'
    birth_lowers = subst (StepLowers z s) (sym k.after) (record {
      threads = answer_falls s.left s.doing z.sizes.threads i near k.call k.rest k.next.is_left;
      collector = born_adds_none (word_count z.sizes) s.graph.born s.colour (upd s.colour s.graph.born (birth_colour s.stage)) (lengths s.graph)
          (λ n. (upd s.graph.object s.graph.born (newborn (next_address s.graph) k.birth.layout k.birth.fields) n).length)
          (λ n less. upd_else s.colour s.graph.born (birth_colour s.stage) n (λ e. absurd (omega (arith, less, e)))) older_sizes s.stage older
          (upd_here s.colour s.graph.born (birth_colour s.stage));
      fits = λ h. born_fits;
    })

  cond_less : (colour : ℕ → Colour) (v : Option ℕ) (b : Bool) (n k : ℕ) →
      steps_of_object (let c : ℕ → Colour = cond b (shade colour v) colour in c n) k ≤ steps_of_object (colour n) k
  cond_less colour v true n k = shade_less colour v n k
  cond_less colour v false n k = omega arith

  shade_lowers : (s' : State) → Shades z s i s' → StepLowers z s s'
  shade_lowers s' k =
      let aims = subst (IsInMiddle z s.graph i (s.left i)) k.has_loaded (rule.in_middle i near) in
      let now = ap steps_of_call k.has_loaded in
      subst (StepLowers z s) (sym k.after) (record {
        threads = within_falls s.left s.doing z.sizes.threads i near (Set aims.local k.field aims.value) aims.rest aims.is_left
            (Shaded k.object k.field) (omega (arith, now));
        collector = same_born (word_count z.sizes) s.stage s.colour (cond (is_marking s.stage) (shade s.colour k.loaded) s.colour) (lengths s.graph)
            (lengths s.graph) s.graph.born (λ n. refl) (cond_less s.colour k.loaded (is_marking s.stage));
        fits = λ h. h;
      })

  store_lowers : (s' : State) → Stores z s i s' → StepLowers z s s'
  store_lowers s' k = subst (StepLowers z s) (sym k.after)
      (answered_lowers (Set k.aims.local k.field k.aims.value) k.aims.rest k.aims.is_left replies.Ok 0
      (with_points s.graph k.object k.field (s.graph.local i k.aims.value)) refl
      (part_same (λ (o : Object). o.length) s.graph.object k.object (record (s.graph.object k.object)
      { points = upd (s.graph.object k.object).points k.field (s.graph.local i k.aims.value) }) refl))

  pub thread_lowers : (s' : State) → ThreadStep z s i s' → StepLowers z s s'
  thread_lowers s' (bears k) = birth_lowers s' k
  thread_lowers s' (fills k) = subst (StepLowers z s) (sym k.after) (answered_lowers k.call k.rest k.next.is_left replies.Full 0 s.graph refl refl)
  thread_lowers s' (answers k) =
      let same = held_same i s.graph k.given.after (whole_changes z i s.graph k.call k.given k.whole k.is_answer) in
      subst (StepLowers z s) (sym k.after) (answered_lowers k.call k.rest k.next.is_left k.given.reply 0 k.given.after same.0 same.1)
  thread_lowers s' (refuses k) = subst (StepLowers z s) (sym k.after)
      (answered_lowers (Set k.local k.field k.value) k.rest k.next.is_left k.given.reply 0 s.graph refl refl)
  thread_lowers s' (loads k) =
      let now = ap steps_of_call k.is_free in
      subst (StepLowers z s) (sym k.after) (record {
        threads = within_falls s.left s.doing z.sizes.threads i near (Set k.aims.local k.field k.aims.value) k.aims.rest k.aims.is_left
            (Loaded k.object k.field (pointers s.graph k.object k.field)) (omega (arith, now));
        collector = omega arith;
        fits = λ h. h;
      })
  thread_lowers s' (shades k) = shade_lowers s' k
  thread_lowers s' (stores k) = store_lowers s' k
