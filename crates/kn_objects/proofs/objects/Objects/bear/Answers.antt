use Rattle.std.proofs.Common.{◌≡◌, ◌+◌, ◌++◌, ◌∷◌, [], length, replicate, None, false, Option, ℕ, refl, ap, ◌∙◌, arith}
use Rattle.std.proofs.lemmas.List.{length-append, length-replicate}
use Rattle.kn_layout.specs.Layouts.{cell_size}
use Rattle.kn_objects.specs.declared.objects.KeptObject.{KeptObject}
use Rattle.kn_objects.proofs.Fields.{nth_born}
use Rattle.kn_objects.proofs.Kept.{free_of_owners, kept_born}
use Rattle.kn_objects.proofs.objects.Objects.bear.Goals as goal

pub invariant_of-self-2 : goal.invariant_of-self-2
invariant_of-self-2 c =
    let o = c.self.inside in
    let first : c.len-first.result ≡ length o.points.items = omega arith in
    let new : KeptObject = record {
      address = c.args.address;
      layout = c.args.layout;
      length = c.args.fields;
      first = c.len-first.result;
      tie = None;
      condemned = false;
      released = false;
      queued = false;
      finalized = None;
    } in
    let kept : c.put_last.new.kept.items ≡ o.kept.items ++ new ∷ [] =
    c.put_last.ensures ∙ (ap (λ l. l ++ c.new_object.result ∷ []) c.reserve.ensures.items ∙ ap (λ x. o.kept.items ++ x ∷ []) c.new_object.ensures) in
    let points : length c.add_points.new.points.items ≡ length o.points.items + c.args.fields =
    ap length c.add_points.ensures ∙ (length-append c.reserve-2.new.self.items (replicate c.args.fields None)
    ∙ omega (arith, ap length c.reserve-2.ensures.items, length-replicate {A = Option ℕ} c.args.fields None)) in
    let numbers : length c.add_numbers.new.numbers.items ≡ length o.numbers.items + c.args.fields =
    ap length c.add_numbers.ensures ∙ (length-append c.reserve-3.new.self.items (replicate c.args.fields 0)
    ∙ omega (arith, ap length c.reserve-3.ensures.items, length-replicate {A = ℕ} c.args.fields 0)) in
    let n : c.len.result ≡ length o.kept.items = omega arith in
    let gives = rw (c.cell_size.ensures, n) at c.give.ensures.after in
    let free = (free_of_owners o.points.items o.numbers.items o.kept.items o.owners.items c.self.invariant.owned c.args.address
    (c.args.address + cell_size c.args.fields) (omega arith)).1
    (rw (← c.self.view_is) at c.requires.free) in
    rw (kept, points, numbers) (kept_born o.kept.items _ _ o.owners.items c.give.new.owners.items new
    (rw (← c.self.view_is) at c.requires.few) first refl free gives c.self.invariant)

pub returns-clause-after : goal.returns-clause-after
returns-clause-after c =
    let o = c.self.inside in
    let first : c.len-first.result ≡ length o.points.items = omega arith in
    let new : KeptObject = record {
      address = c.args.address;
      layout = c.args.layout;
      length = c.args.fields;
      first = c.len-first.result;
      tie = None;
      condemned = false;
      released = false;
      queued = false;
      finalized = None;
    } in
    let kept : c.put_last.new.kept.items ≡ o.kept.items ++ new ∷ [] =
    c.put_last.ensures ∙ (ap (λ l. l ++ c.new_object.result ∷ []) c.reserve.ensures.items ∙ ap (λ x. o.kept.items ++ x ∷ []) c.new_object.ensures) in
    let points : c.add_points.new.points.items ≡ o.points.items ++ replicate c.args.fields None = c.add_points.ensures
    ∙ ap (λ l. l ++ replicate c.args.fields None) c.reserve-2.ensures.items in
    let numbers : c.add_numbers.new.numbers.items ≡ o.numbers.items ++ replicate c.args.fields 0 = c.add_numbers.ensures
    ∙ ap (λ l. l ++ replicate c.args.fields 0) c.reserve-3.ensures.items in
    rw (← c.self.view_is, kept, points, numbers)
    (nth_born o.kept.items o.points.items o.numbers.items new c.self.invariant.laid c.self.invariant.both first)
