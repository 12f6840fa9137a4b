use Rattle.std.proofs.Common.{◌≡◌, length, ap, ◌∙◌, arith}
use Rattle.kn_cms.specs.declared.machine.Core.TheInside.{Inside}
use Rattle.kn_cms.proofs.machine.Core.objects.Goals as goal

pub overflow_cast-result : goal.overflow_cast-result
overflow_cast-result c =
    let same : c.born.result ≡ length c.self.inside.lists.cells.cells =
    c.born.ensures ∙ ap (λ (x : Inside). length x.lists.cells.cells) c.self-inside.view_is in
    let most = c.self.invariant.room.cells in omega (arith, same, most)
