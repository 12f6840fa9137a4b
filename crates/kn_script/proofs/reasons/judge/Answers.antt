use Rattle.std.proofs.Common.{◌≡◌, Some, sym, subst}
use Rattle.kn_lines.specs.Built.{first_word_of}
use Rattle.kn_script.specs.Readings.{IsReading}
use Rattle.kn_script.proofs.GrammarLemmas.{judged-bad, judged-good}
use Rattle.kn_script.proofs.reasons.judge.Goals as goal

pub returns-in-Some-first_reason : goal.returns-in-Some-first_reason
returns-in-Some-first_reason c =
    let p = c.args.progress.now in
    let known : first_word_of p.built c.args.line.now.name ≡ Some c.in-Some.word = cc in
    let read = subst (λ ws. IsReading p c.make_form-form.result ws c.read_words-read.result) c.arguments.ensures.words c.read_words-read.ensures in
    let first = c.in-Some-first_reason.ensures in
    judged-bad p c.args.line.now c.in-Some.word c.in-Some-first_reason.why (sym c.if-is_odd.ensures) known (sym first)

pub returns-in-None : goal.returns-in-None
returns-in-None c =
    let p = c.args.progress.now in
    let known : first_word_of p.built c.args.line.now.name ≡ Some c.in-Some.word = cc in
    let read = subst (λ ws. IsReading p c.make_form-form.result ws c.read_words-read.result) c.arguments.ensures.words c.read_words-read.ensures in
    let first = c.in-None.ensures in
    (known, read.values, judged-good p c.args.line.now c.in-Some.word (sym c.if-is_odd.ensures) known (sym first))
