use Rattle.std.proofs.Common.{◌≡◌, ℕ, ◌-◌, ◌<◌, None, [], length, get_or, inl, inr, sym, ◌∙◌, ap, arith}
use Rattle.std.specs.List.{slice_get}
use Rattle.std.proofs.lemmas.Option.{slice_get-get_or}
use Rattle.kn_objects.specs.Marking.{HoldsIn, IsHeldIn, IsMarked, first, next}
use Rattle.kn_objects.specs.Replay.{object_of}
use Rattle.kn_objects.proofs.Behind.{IsBehind-marked, IsMarked-born, IsWorkList-read}
use Rattle.kn_objects.proofs.marking.mark_behind.Goals as goal

pub loop-height-init : goal.loop-height-init
loop-height-init c = record {
  waits = c.requires.waits;
  room = c.requires.room;
  kept = λ n marked. marked;
  behind = λ n marked. first marked;
}

pub loop-height-preserved : goal.loop-height-preserved
loop-height-preserved c =
    let objects = c.args.objects.now in
    let points = c.args.points.now in
    let kept = c.loop-height.invariant in
    let low = c.loop-height.height - 1 in
    let n = get_or c.loop-height.work low 0 in
    let added = c.mark_values-height.ensures in
    let marked : IsMarked c.loop-height.marks n = kept.waits.marked low (omega arith) in
    let born : n < length objects = omega (arith, IsMarked-born c.loop-height.marks n marked) in
    let fields : (f : ℕ) → get_or c.fields_of.result.now f None ≡ (object_of points [] (slice_get objects n)).points f =
    λ f. c.fields_of.ensures f ∙ ap (λ o. (object_of points [] o).points f) (sym (slice_get-get_or objects n _ born)) in
    record {
      waits = IsWorkList-read objects points (IsHeldIn c.fields_of.result.now) (omega arith) (omega arith) kept.waits added
          (λ m (f, e). (f, fields f ∙ e));
      room = omega (arith, added.left);
      kept = λ m old. (added.marked m).1 (inl (kept.kept m old));
      behind = λ m new. elim ((added.marked m).0 new) [
        | inl old ↦ kept.behind m old
        | inr (m_born, (f, e)) ↦ next (kept.behind n marked) (f, sym (fields f) ∙ e)
      ];
    }

pub returns : goal.returns
returns c =
    let kept = c.loop-height.invariant in
    let marks = c.loop-height.marks in
    let closed : (n m : ℕ) → IsMarked marks n → HoldsIn c.args.objects.now c.args.points.now n m → m < length c.args.objects.now → IsMarked marks m =
    λ n m marked field born. elim (kept.waits.read n m marked field born) [ inl (k, lt, e) ↦ absurd (omega arith) | inr known ↦ known ] in
    λ n lt. (kept.behind n, λ b. IsBehind-marked marks (λ k s born. kept.kept k s) closed n lt b)
