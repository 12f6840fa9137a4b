use Rattle.std.proofs.Common.{◌≡◌, take}
use Rattle.kn_layout.proofs.layouts.copy_layouts.Given as goal

abbrev pub invariant-loop-layout : goal.invariant-loop-layout
invariant-loop-layout l = l.copies.items ≡ take l.layout-index l.layouts
