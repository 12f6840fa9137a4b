use Rattle.std.proofs.Common.{◌≡◌, None, Some, get_or, slice_get, refl, ap, sym, ◌∙◌, arith}
use Rattle.std.proofs.lemmas.Option.{same_Some, slice_get_read}
use Rattle.kn_objects.specs.Replay.{object_of}
use Rattle.kn_objects.proofs.Kept.{lives_owns, owner_lives}
use Rattle.kn_objects.proofs.objects.Objects.find.Goals as goal

pub index-requires : goal.index-requires
index-requires c =
    let o = c.self.inside in
    let owner : get_or o.owners.items c.args.address None ≡ Some c.in-Some.n = rw c.deref.ensures.value at (sym c.in-Some.ensures) in
    let lives = (owner_lives o.points.items o.numbers.items o.kept.items o.owners.items c.self.invariant.owned c.args.address c.in-Some.n owner).0 in
    omega (arith, lives.0)

pub returns-in-Some-clause-is : goal.returns-in-Some-clause-is
returns-in-Some-clause-is c =
    let o = c.self.inside in
    let owner : get_or o.owners.items c.args.address None ≡ Some c.in-Some.n = rw c.deref.ensures.value at (sym c.in-Some.ensures) in
    let lives = (owner_lives o.points.items o.numbers.items o.kept.items o.owners.items c.self.invariant.owned c.args.address c.in-Some.n owner).0 in
    let at_n = slice_get_read o.kept.items _ c.in-Some.n c.index.result.now refl lives.0 c.index.ensures in
    rw (← c.self.view_is) (lives, ap (λ k. (object_of o.points.items o.numbers.items k).address) at_n ∙ c.if-index-address.true)

pub returns-in-Some-clause-only : goal.returns-in-Some-clause-only
returns-in-Some-clause-only c =
    let o = c.self.inside in
    let owner : get_or o.owners.items c.args.address None ≡ Some c.in-Some.n = rw c.deref.ensures.value at (sym c.in-Some.ensures) in
    rw (← c.self.view_is)
    (λ m lives at. sym owner ∙ lives_owns o.points.items o.numbers.items o.kept.items o.owners.items c.self.invariant.owned c.args.address m lives
    (omega (arith, at), omega (arith, at)))

pub returns-in_default-clause-only : goal.returns-in_default-clause-only
returns-in_default-clause-only c =
    let o = c.self.inside in
    let owner : get_or o.owners.items c.args.address None ≡ Some c.in-Some.n = rw c.deref.ensures.value at (sym c.in-Some.ensures) in
    let lives = (owner_lives o.points.items o.numbers.items o.kept.items o.owners.items c.self.invariant.owned c.args.address c.in-Some.n owner).0 in
    let at_n = slice_get_read o.kept.items _ c.in-Some.n c.index.result.now refl lives.0 c.index.ensures in
    rw (← c.self.view_is)
    (λ m lives at.
    let owned = lives_owns o.points.items o.numbers.items o.kept.items o.owners.items c.self.invariant.owned c.args.address m lives
    (omega (arith, at), omega (arith, at)) in
    let at_m = ap (slice_get o.kept.items) (same_Some m c.in-Some.n (sym owned ∙ owner)) ∙ at_n in
    absurd (c.if-index-address.false (sym (ap (λ k. (object_of o.points.items o.numbers.items k).address) at_m) ∙ at)))

pub returns-in_default-2-clause-only : goal.returns-in_default-2-clause-only
returns-in_default-2-clause-only c =
    let o = c.self.inside in
    let none : c.owner_of.result ≡ get_or o.owners.items c.args.address None = rw c.deref.ensures.value at c.owner_of.ensures in
    rw (← c.self.view_is) (λ m lives at.
    let owned = lives_owns o.points.items o.numbers.items o.kept.items o.owners.items c.self.invariant.owned c.args.address m lives
    (omega (arith, at), omega (arith, at)) in
    sym c.in_default.is ∙ (none ∙ owned))
