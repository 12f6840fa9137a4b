-- How many steps a state of the core has left at most.
use Rattle.std.specs.Prelude.{ℕ, zero, suc, ◌+◌, ◌-◌, ◌*◌, ◌==◌, cond, List, [], ◌∷◌, length}
use Rattle.kn_base.specs.Sizes.{word_count}
use Rattle.kn_graph.specs.declared.calls.Call.{Call}
use Rattle.kn_graph.specs.Ground.{Ground}
use Rattle.kn_cms_rule.specs.declared.stages.Colour.{Colour}
use Rattle.kn_cms_rule.specs.declared.stages.Colour.TheVariants.{White, Gray, Black}
use Rattle.kn_cms_rule.specs.declared.stages.Doing.{Doing}
use Rattle.kn_cms_rule.specs.declared.stages.Doing.TheVariants.{Free, Loaded, Shaded}
use Rattle.kn_cms_rule.specs.declared.stages.Stage.{Stage}
use Rattle.kn_cms_rule.specs.declared.stages.Stage.TheVariants.{Waiting, Marking, Looking, Finished}
use Rattle.kn_cms_rule.specs.Words.{lengths}
use Rattle.kn_cms_rule.specs.State.{State}

-- the sum of the values of a function below a number
abbrev pub sum_below : (ℕ → ℕ) → ℕ → ℕ
sum_below f zero = 0
sum_below f (suc n) = f n + sum_below f n

-- how many steps are left of the first call that a thread has left
abbrev pub steps_of_call : Doing → ℕ
steps_of_call Free = 3
steps_of_call (Loaded n f v) = 2
steps_of_call (Shaded n f) = 1

-- how many steps a thread has left with these calls left, in the middle of the first one or not
abbrev pub steps_of_calls : List Call → Doing → ℕ
steps_of_calls [] doing = 0
steps_of_calls (call ∷ rest) doing = steps_of_call doing + 3 * length rest

abbrev pub steps_of_threads : Ground → State → ℕ
steps_of_threads z s = sum_below (λ i. steps_of_calls (s.left i) (s.doing i)) z.sizes.threads

-- how many steps of marking are left at an object of this colour with so many fields: it is begun, each field is looked at,
-- and it becomes black
abbrev pub steps_of_object : Colour → ℕ → ℕ
steps_of_object White fields = 2 + fields
steps_of_object Gray fields = 2 + fields
steps_of_object Black fields = 0

-- the same where one object has been begun, and its fields before a place were looked at
abbrev pub steps_in_object : ℕ → ℕ → (ℕ → Colour) → (ℕ → ℕ) → ℕ → ℕ
steps_in_object begun from colour fields n = cond (begun == n) (1 + (fields n - from)) (steps_of_object (colour n) (fields n))

-- how many steps the collector has left, but for the one that ends it: the snapshot and two for each word before it, and then
-- those of marking
abbrev pub steps_of_stage : ℕ → Stage → (ℕ → Colour) → (ℕ → ℕ) → ℕ → ℕ
steps_of_stage words Waiting colour fields born = 1 + 2 * words
steps_of_stage words Marking colour fields born = sum_below (λ n. steps_of_object (colour n) (fields n)) born
steps_of_stage words (Looking begun from) colour fields born = sum_below (steps_in_object begun from colour fields) born
steps_of_stage words Finished colour fields born = 0

abbrev pub steps_of_collector : Ground → State → ℕ
steps_of_collector z s = steps_of_stage (word_count z.sizes) s.stage s.colour (lengths s.graph) s.graph.born

-- how many steps are left, but for the one that ends the collector
abbrev pub steps_left : Ground → State → ℕ
steps_left z s = steps_of_threads z s + steps_of_collector z s
