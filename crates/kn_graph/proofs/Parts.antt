-- What a change of one object makes of the parts of a graph.
use Rattle.std.proofs.Common.{ℕ, Option, ◌∙◌}
use Rattle.kn_base.proofs.Updates.{part_upd, upd_same}
use Rattle.kn_graph.specs.Graph.{Graph, Object, shape_of, shapes, pointers, numbers, with_object, with_birth}
use Rattle.kn_graph.specs.Sound.{finalization_of, finalizations}
use Rattle.kn_graph.specs.Growth.{IsWritten, KeepsParts}

pub object_written : (g : Graph) (n : ℕ) (o : Object) → IsWritten g (with_object g n o) n o
object_written g n o = record {
  shapes_are = part_upd shape_of g.object n o;
  pointers_are = part_upd {B = ℕ → Option ℕ} (λ (x : Object). x.points) g.object n o;
  numbers_are = part_upd {B = ℕ → ℕ} (λ (x : Object). x.number) g.object n o;
  finalizations_are = part_upd finalization_of g.object n o;
}

pub birth_written : (g : Graph) (thread r : ℕ) (new : Object) → IsWritten g (with_birth g thread r new) g.born new
birth_written g thread r new =
    let w = object_written g g.born new in
    record { shapes_are = w.shapes_are; pointers_are = w.pointers_are; numbers_are = w.numbers_are; finalizations_are = w.finalizations_are }

pub parts_kept : (g : Graph) (n : ℕ) (o : Object) → KeepsParts g (with_object g n o) n o
parts_kept g n o =
    let w = object_written g n o in record {
      shapes_stay = λ e. w.shapes_are ∙ upd_same (shapes g) n (shape_of o) e;
      pointers_stay = λ e. w.pointers_are ∙ upd_same (pointers g) n o.points e;
      numbers_stay = λ e. w.numbers_are ∙ upd_same (numbers g) n o.number e;
      finalizations_stay = λ e. w.finalizations_are ∙ upd_same (finalizations g) n (finalization_of o) e;
    }
