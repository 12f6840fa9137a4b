use Rattle.std.proofs.Common.{◌+◌, refl, arith, ap, sym, ◌∙◌, length, length-set}
use Rattle.kn_lines.specs.declared.forms.Wanted.TheVariants.{Untested}
use Rattle.kn_lines.specs.Numbers.{value_of}
use Rattle.kn_script.specs.Reasons.{reason_at, and_then, earlier, first_of, word_reasons, further_reasons}
use Rattle.kn_script.specs.Readings.{written}
use Rattle.kn_script.proofs.ReasonLemmas.{first_of-more, word_reasons-further}
use Rattle.kn_script.proofs.ValueLemmas.{written-more, written-all, written-past}
use Rattle.kn_script.proofs.reasons.read_first.Goals as goal

pub loop-place-preserved : goal.loop-place-preserved
loop-place-preserved c =
    let l = c.loop-place in
    let p = c.args.progress.now in
    let form = c.args.form.now in
    let word = c.in-Some.word.now in
    let rest = c.next_word.new.self in
    let is = c.in-Some.ensures in
    let looked = c.look_at.ensures in
    let want = c.first_places-places.ensures.each l.place Untested c.loop-place-test.true in
    let reason = looked.reason ∙ ap (λ w. reason_at p w word) want in
    let here = ap (λ ws. word_reasons p form l.place ws) is ∙ ap (λ r. and_then r (word_reasons p form (l.place + 1) rest)) (sym reason) in
    record {
      first = first_of-more _ _ l.found c.look_at.result _ _ here c.earlier-found.ensures l.invariant.first;
      values = written-more l.values _ l.place (value_of word) l.words rest word _ is refl looked.values l.invariant.values;
      six = ap length looked.values ∙ length-set _ _ _ ∙ l.invariant.six;
      count = omega (arith, l.invariant.count, ap length is);
    }

pub returns-in_default : goal.returns-in_default
returns-in_default c =
    let l = c.loop-place in
    let p = c.args.progress.now in
    let form = c.args.form.now in
    let over = c.in_default.ensures in
    record {
      found = ap (λ ws. earlier l.found (first_of (further_reasons p form.further ws))) over.1
          ∙ ap (λ ws. earlier l.found (first_of (word_reasons p form l.place ws))) (sym over.0)
          ∙ l.invariant.first;
      values = ap (λ ws. written l.values l.place ws) (sym over.0) ∙ l.invariant.values ∙ written-all c.args.words.now;
      count = omega (arith, l.invariant.count, ap length over.0, ap length over.1);
    }

pub returns : goal.returns
returns c =
    let l = c.loop-place in
    let p = c.args.progress.now in
    let form = c.args.form.now in
    let past = c.loop-place-test.false in
    let further = word_reasons-further p form l.place l.words (λ k behind. c.first_places-places.ensures.further k (omega (arith, past, behind))) in
    record {
      found = ap (λ rs. earlier l.found (first_of rs)) (sym further) ∙ l.invariant.first;
      values = sym (written-past l.values l.place l.words (omega (arith, l.invariant.six))) ∙ l.invariant.values ∙ written-all c.args.words.now;
      count = omega (arith, l.invariant.count);
    }
