use Rattle.kn_commands.proofs.WordLemmas.{only_word}
use Rattle.kn_commands.proofs.words.is_only.Goals as goal

pub returns-then-eq : goal.returns-then-eq
returns-then-eq c = only_word c.args.words.now c.in-Some.word.now c.in-Some.rest.now c.args.text.now c.is_empty.result c.in-Some.ensures.cases.0
    c.if-eq.ensures c.is_empty.ensures
