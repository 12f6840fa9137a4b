use Rattle.kn_script.proofs.GrammarLemmas.{Takes-from}
use Rattle.kn_script.proofs.parser.take_line.Goals as goal

pub returns-in_ok-add-in-Ok-clause-taken : goal.returns-in_ok-add-in-Ok-clause-taken
returns-in_ok-add-in-Ok-clause-taken c =
    let judged = c.in-Ok.ensures in
    rw (c.in_ok-add-in-Ok.ensures, c.arguments.ensures.words)
    (Takes-from c.args.progress.now c.args.line.now c.in-Ok.read.word judged.0 judged.2)
