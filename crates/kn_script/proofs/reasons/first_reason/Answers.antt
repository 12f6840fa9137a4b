use Rattle.std.proofs.Common.{◌≡◌, true, sym, ◌∙◌, ap}
use Rattle.kn_lines.specs.Forms.{form_of}
use Rattle.kn_script.specs.Reasons.{is_word, first_of, word_reasons}
use Rattle.kn_script.proofs.ReasonLemmas.{first_of-word}
use Rattle.kn_script.proofs.reasons.first_reason.Goals as goal

pub returns-then-is_word : goal.returns-then-is_word
returns-then-is_word c =
    let args = c.args.line.now.arguments in
    let word : is_word (first_of (word_reasons c.args.progress.now (form_of c.args.word args) 0 args)) ≡ true =
    ap (λ f. is_word (first_of (word_reasons c.args.progress.now f 0 args))) (sym c.requires.form)
    ∙ ap is_word (sym c.requires.read.found)
    ∙ sym c.if-is_word.ensures in
    sym (first_of-word c.args.progress.now c.args.word args word)
