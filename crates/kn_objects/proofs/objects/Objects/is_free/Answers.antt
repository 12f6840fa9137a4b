use Rattle.kn_objects.proofs.Kept.{free_of_owners}
use Rattle.kn_objects.proofs.objects.Objects.is_free.Goals as goal

pub returns : goal.returns
returns c =
    let o = c.self.inside in
    let free = free_of_owners o.points.items o.numbers.items o.kept.items o.owners.items c.self.invariant.owned c.args.start c.args.stop
    c.requires.some in
    let test = rw c.deref.ensures.value at c.are_free.ensures in
    rw (← c.self.view_is) (λ t. free.0 (test.0 t), λ apart. test.1 (free.1 apart))
