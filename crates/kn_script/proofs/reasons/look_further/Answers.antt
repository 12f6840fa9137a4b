use Rattle.std.proofs.Common.{◌≡◌, true, false, None, arith, ap, sym, ◌∙◌, length}
use Rattle.kn_script.specs.Reasons.{and_then, is_word, earlier, first_of, further_reasons}
use Rattle.kn_script.proofs.ReasonLemmas.{first_of-more, earlier-none, word-earlier}
use Rattle.kn_script.proofs.reasons.look_further.Goals as goal

pub loop-word-preserved : goal.loop-word-preserved
loop-word-preserved c =
    let l = c.loop-word in
    let p = c.args.progress.now in
    let is = c.in-Some.ensures in
    let here = ap (λ ws. further_reasons p c.args.want ws) is
    ∙ ap (λ r. and_then r (further_reasons p c.args.want c.next_word.new.self)) (sym c.further_reason.ensures) in
    record {
      first = first_of-more _ _ l.found c.further_reason.result _ _ here c.earlier-found.ensures l.invariant.first;
      count = omega (arith, l.invariant.count, ap length is);
    }

pub returns-in_default : goal.returns-in_default
returns-in_default c =
    let l = c.loop-word in
    let over = c.in_default.ensures.0 in
    record {
      found = sym (earlier-none l.found)
          ∙ ap (λ ws. earlier l.found (first_of (further_reasons c.args.progress.now c.args.want ws))) (sym over)
          ∙ l.invariant.first;
      few = omega (arith, l.invariant.count);
      count = λ _. omega (arith, l.invariant.count, ap length over);
    }

pub returns-then-is_word : goal.returns-then-is_word
returns-then-is_word c =
    let l = c.loop-word in
    let p = c.args.progress.now in
    let is = c.in-Some.ensures in
    let next = c.earlier-found.result in
    let rest = further_reasons p c.args.want c.next_word.new.self in
    let here = ap (λ ws. further_reasons p c.args.want ws) is ∙ ap (λ r. and_then r rest) (sym c.further_reason.ensures) in
    let more = first_of-more _ _ l.found c.further_reason.result _ _ here c.earlier-found.ensures l.invariant.first in
    let word : is_word next ≡ true = sym c.if-is_word.ensures in
    record {
      found = sym (earlier-none next) ∙ word-earlier next None word ∙ sym (word-earlier next (first_of rest) word) ∙ more;
      few = omega (arith, l.invariant.count, ap length is);
      count = λ h. let wrong : true ≡ false = sym word ∙ h in absurd cc;
    }
