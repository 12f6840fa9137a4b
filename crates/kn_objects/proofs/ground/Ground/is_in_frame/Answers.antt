use Rattle.std.proofs.Common.{◌≡◌, ap, sym, ◌∙◌, subst, arith}
use Rattle.std.proofs.lemmas.Option.{same_Some}
use Rattle.kn_base.specs.declared.numbers.Span.{Span}
use Rattle.kn_base.specs.Spans.{LiesIn}
use Rattle.kn_base.specs.Sizes.{span_of_frame}
use Rattle.kn_objects.proofs.Frames.{frame_within}
use Rattle.kn_objects.proofs.ground.Ground.is_in_frame.Goals as goal

pub returns-in-Some-clause-is : goal.returns-in-Some-clause-is
returns-in-Some-clause-is c =
    let number = rw (← c.self.view_is) at c.frame_of-number.ensures in
    let is = sym c.in-Some.ensures.frame in
    rw (← c.self.view_is) (
      λ t. record {
        frame = c.frame_of-number.result;
        is_for_cells = omega arith;
        words = c.in-Some.words;
        is_frame = is;
        inside = c.lies_in.ensures.0 t;
      },
      λ lies.
          let same = number lies.frame lies.words lies.is_for_cells lies.is_frame lies.inside.0 (omega (arith, lies.inside.1, c.requires)) in
          let words : lies.words ≡ c.in-Some.words = same_Some lies.words c.in-Some.words (sym lies.is_frame
          ∙ (ap (span_of_frame c.self.inside.sizes) same ∙ is)) in
          c.lies_in.ensures.1 (subst (λ (w : Span). LiesIn (record { start = c.args.start; len = c.args.len }) w) words lies.inside),
    )

pub returns-in-Some-clause-small : goal.returns-in-Some-clause-small
returns-in-Some-clause-small c = λ t.
    let within = frame_within c.self.inside.sizes c.frame_of-number.result c.in-Some.words (omega arith) (sym c.in-Some.ensures.frame) in
    omega (arith, within, (c.lies_in.ensures.0 t).1, c.self.invariant.sizes.of_frames.words.1)
