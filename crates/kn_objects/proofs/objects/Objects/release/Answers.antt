use Rattle.std.proofs.Common.{Some, refl, ap, ◌∙◌, true, arith}
use Rattle.std.proofs.lemmas.Option.{slice_get_read}
use Rattle.kn_graph.specs.Graph.{cell_at, shape_of, words_of}
use Rattle.kn_objects.specs.Replay.{object_of}
use Rattle.kn_objects.specs.Kept.{cells}
use Rattle.kn_objects.proofs.Fields.{nth_replaced}
use Rattle.kn_objects.proofs.Kept.{cell_within, kept_released, lives_cell}
use Rattle.kn_objects.proofs.objects.Objects.release.Goals as goal

pub give-requires-clause-within : goal.give-requires-clause-within
give-requires-clause-within c =
    let o = c.self.inside in
    let object = c.index-object.result.now in
    let lives = rw (← c.self.view_is) at c.requires in
    let at_n = slice_get_read o.kept.items _ c.args.n object refl lives.0 c.index-object.ensures in
    let cell = lives_cell o.points.items o.numbers.items o.kept.items c.args.n lives
    ∙ ap (λ k. Some (words_of (shape_of (object_of o.points.items o.numbers.items k)))) at_n in
    omega (
      arith,
      cell_within o.owners.items (cells o.kept.items) c.args.n (cell_at object.address object.length) c.self.invariant.owned cell (omega arith),
      c.cell_size.ensures,
    )

pub invariant_of-self : goal.invariant_of-self
invariant_of-self c =
    let o = c.self.inside in
    let object = c.index-object.result.now in
    let lives = rw (← c.self.view_is) at c.requires in
    let at_n = slice_get_read o.kept.items _ c.args.n object refl lives.0 c.index-object.ensures in
    kept_released o.kept.items _ _ o.owners.items c.give.new.owners.items c.args.n object at_n (rw at_n at lives.1)
    (rw c.cell_size.ensures at c.give.ensures.after) c.self.invariant

pub returns-clause-after : goal.returns-clause-after
returns-clause-after c =
    let o = c.self.inside in
    let object = c.index-object.result.now in
    let lives = rw (← c.self.view_is) at c.requires in
    let at_n = slice_get_read o.kept.items _ c.args.n object refl lives.0 c.index-object.ensures in
    rw (← c.self.view_is, at_n) (nth_replaced o.kept.items o.points.items o.numbers.items c.args.n (record object { released = true }) lives.0)
