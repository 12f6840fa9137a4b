-- What a call may change of a sound graph.
use Rattle.std.specs.Prelude.{◌≡◌, ℕ, ◌<◌, ◌≤◌, Option, Some, None, slice_get}
use Rattle.kn_layout.specs.declared.layouts.FieldKind.TheVariants.{Ref as of_ref}
use Rattle.kn_graph.specs.Ground.{Ground}
use Rattle.kn_graph.specs.Graph.{Graph, shapes, field_kind, newborn, cell_at, with_local, with_global, with_stable, with_weak, with_back}
use Rattle.kn_graph.specs.Graph.{with_count, with_points, with_number, with_tie, with_birth, IsLegalBirth}
use Rattle.kn_graph.specs.Answers.{greatest_count}
use Rattle.kn_graph.specs.Sound.{Alive, MayHaveLength}

-- a call of a thread changes nothing or one thing: a local, a global or a name within the numbers of the heap, the count of
-- a name whose referent is not condemned, a field or the tie of an object that is not condemned; or an object is born
pub data Changes (z : Ground) (thread : ℕ) (g : Graph) : Graph → Type 0 where
  nothing : Changes z thread g g
  of_local : (r : ℕ) (x : Option ℕ) → r ≤ 15 → Alive g.born (shapes g) x → Changes z thread g (with_local g thread r x)
  of_global : (i : ℕ) (x : Option ℕ) → i < z.sizes.globals → Alive g.born (shapes g) x → Changes z thread g (with_global g i x)
  of_stable : (h : ℕ) (x : Option ℕ) → h < z.sizes.stable → Alive g.born (shapes g) x → Changes z thread g (with_stable g h x)
  of_weak : (w n : ℕ) → w < z.sizes.weak → Alive g.born (shapes g) (Some n) → Changes z thread g (with_weak g w n)
  of_back : (b n : ℕ) → b < z.sizes.back → Alive g.born (shapes g) (Some n) → Changes z thread g (with_back g b n)
  of_count : (b c : ℕ) → c ≤ greatest_count → Alive g.born (shapes g) (g.back b) → Changes z thread g (with_count g b c)
  of_points : (n f : ℕ) (x : Option ℕ) → Alive g.born (shapes g) (Some n) → field_kind z (shapes g n) f ≡ Some of_ref →
      Alive g.born (shapes g) x → Changes z thread g (with_points g n f x)
  of_number : (n f x : ℕ) → Alive g.born (shapes g) (Some n) → Changes z thread g (with_number g n f x)
  of_tie : (n cleaner number : ℕ) → Alive g.born (shapes g) (Some n) → (g.object n).tie ≡ None → Changes z thread g (with_tie g n cleaner number)
  of_birth : (r address layout fields : ℕ) → r ≤ 15 → MayHaveLength (slice_get z.layouts layout) fields →
      IsLegalBirth z g (cell_at address fields) → Changes z thread g (with_birth g thread r (newborn address layout fields))
