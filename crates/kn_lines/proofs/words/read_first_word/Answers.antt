use Rattle.std.proofs.Common.{sym}
use Rattle.kn_lines.specs.Built.{first_word_of}
use Rattle.kn_lines.proofs.words.read_first_word.Goals as goal

pub returns-in-Some : goal.returns-in-Some
unfolding first_word_of
returns-in-Some c = rw (sym c.in-Some.ensures) c.keep_call.ensures

pub returns-in-None : goal.returns-in-None
unfolding first_word_of
returns-in-None c = rw (sym c.in-None.ensures, sym c.read_header_word.ensures) c.keep_header.ensures
