-- What a graph lives on.
use Rattle.std.specs.Prelude.{◌≤◌, List, length}
use Rattle.std.specs.List.{AllByRecursion}
use Rattle.kn_base.specs.declared.heap.Sizes.{Sizes}
use Rattle.kn_base.specs.Sizes.{IsGood}
use Rattle.kn_layout.specs.declared.layouts.Layout.{Layout}
use Rattle.kn_layout.specs.Layouts.{IsLayout}

-- the sizes of a heap, and the layouts of its objects
pub record Ground : Type 0 where
  pub sizes : Sizes
  pub layouts : List Layout

-- the sizes and the layouts are within their limits
pub record IsGoodGround (z : Ground) : Type 0 where
  pub sizes : IsGood z.sizes
  pub few_layouts : length z.layouts ≤ 64
  pub layouts : AllByRecursion IsLayout z.layouts
