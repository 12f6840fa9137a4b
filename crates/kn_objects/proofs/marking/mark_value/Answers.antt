use Rattle.std.proofs.Common.{◌≡◌, ◌<◌, ◌↔◌, ℕ, Some, length, arith}
use Rattle.kn_objects.proofs.Adding.{Adds-one}
use Rattle.kn_objects.proofs.marking.mark_value.Goals as goal

pub returns : goal.returns
returns c =
    let marks = c.args.marks.now in
    let work = c.args.work.now in
    let born : c.in-Some.n < length marks = omega arith in
    let only : (m : ℕ) → (c.args.value ≡ Some m) ↔ (c.in-Some.n ≡ m) = λ m. (λ e. cc, λ e. cc) in
    Adds-one (λ m. c.args.value ≡ Some m) marks work c.args.height c.in-Some.n born c.requires.a_place_each c.requires.room
    c.if-marks-place.false only
