use Rattle.std.proofs.Common.{◌≡◌, ap, sym, ◌∙◌, map, replicate, None, false, true}
use Rattle.kn_base.specs.declared.heap.Sizes.{Sizes}
use Rattle.kn_base.specs.Sizes.{frame_count}
use Rattle.kn_marking.specs.declared.work.Doing.TheVariants.{Free}
use Rattle.kn_marking.specs.declared.work.Child.TheVariants.{NoChild}
use Rattle.kn_rule.specs.declared.positions.Position.TheVariants.{Out}
use Rattle.kn_view.specs.declared.looks.Look.{Look}
use Rattle.kn_view.specs.Looks.{seen_in, refused_in}
use Rattle.kn_view.proofs.Looked.{alike}
use Rattle.kn_view.proofs.known.Known.open.Goals as goal

pub returns : goal.returns
returns c = λ z e.
    let none : Look = record { seen_in = 0; word = 0; refused_in = 0 } in
    let items : c.in_ok-vec.field-0.items ≡ replicate (frame_count z.sizes) none =
    c.in_ok-vec.ensures.items_if_clones_equal (λ y h. h) ∙ ap (λ n. replicate n none) (c.frames.ensures ∙ ap frame_count (sym e)) in
    let counted : c.in_ok-vec-2.field-0.items ≡ replicate z.sizes.threads false =
    c.in_ok-vec-2.ensures.items_if_clones_equal (λ y h. h) ∙ ap (λ (x : Sizes). replicate x.threads false) (sym e) in
    let ended : c.in_ok-vec-3.field-0.items ≡ replicate z.sizes.threads false =
    c.in_ok-vec-3.ensures.items_if_clones_equal (λ y h. h) ∙ ap (λ (x : Sizes). replicate x.threads false) (sym e) in
    λ t. record {
      position = Out;
      polled = 0;
      target = None;
      locals = replicate 16 0;
      header = None;
      seen = (ap (map (seen_in 1)) items ∙ alike (seen_in 1) (frame_count z.sizes) none) t;
      refused = (ap (map (refused_in 1)) items ∙ alike (refused_in 1) (frame_count z.sizes) none) t;
      taken = None;
      sweep = None;
      work = record { epoch = 0; due = None; doing = Free; child = NoChild; owed = 0 };
      stored = 0;
      wanted = 0;
      counted = counted t;
      ended = ended t;
      over = true;
      calls = 0;
      births = 0;
    }
