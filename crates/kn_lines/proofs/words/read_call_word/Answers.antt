use Rattle.std.proofs.Common.{sym, ◌∙◌}
use Rattle.kn_lines.proofs.WordLemmas.{calls-by_first}
use Rattle.kn_lines.proofs.words.read_call_word.Goals as goal

pub returns-in-110 : goal.returns-in-110
returns-in-110 c = c.read_among.ensures ∙ sym (calls-by_first c.args.word.now 110 (sym c.first_byte.ensures ∙ c.in-110.is))

pub returns-in-99 : goal.returns-in-99
returns-in-99 c = c.read_among-in-99.ensures ∙ sym (calls-by_first c.args.word.now 99 (sym c.first_byte.ensures ∙ c.in-99.is))

pub returns-in-115 : goal.returns-in-115
returns-in-115 c = c.read_among-in-115.ensures ∙ sym (calls-by_first c.args.word.now 115 (sym c.first_byte.ensures ∙ c.in-115.is))

pub returns-in-103 : goal.returns-in-103
returns-in-103 c = c.read_among-in-103.ensures ∙ sym (calls-by_first c.args.word.now 103 (sym c.first_byte.ensures ∙ c.in-103.is))

pub returns-in-112 : goal.returns-in-112
returns-in-112 c = c.read_among-in-112.ensures ∙ sym (calls-by_first c.args.word.now 112 (sym c.first_byte.ensures ∙ c.in-112.is))

pub returns-in-114 : goal.returns-in-114
returns-in-114 c = c.read_among-in-114.ensures ∙ sym (calls-by_first c.args.word.now 114 (sym c.first_byte.ensures ∙ c.in-114.is))

pub returns-in-117 : goal.returns-in-117
returns-in-117 c = c.read_among-in-117.ensures ∙ sym (calls-by_first c.args.word.now 117 (sym c.first_byte.ensures ∙ c.in-117.is))

pub returns-in-104 : goal.returns-in-104
returns-in-104 c = c.read_among-in-104.ensures ∙ sym (calls-by_first c.args.word.now 104 (sym c.first_byte.ensures ∙ c.in-104.is))

pub returns-in-119 : goal.returns-in-119
returns-in-119 c = c.read_among-in-119.ensures ∙ sym (calls-by_first c.args.word.now 119 (sym c.first_byte.ensures ∙ c.in-119.is))

pub returns-in-98 : goal.returns-in-98
returns-in-98 c = c.read_among-in-98.ensures ∙ sym (calls-by_first c.args.word.now 98 (sym c.first_byte.ensures ∙ c.in-98.is))

pub returns-in-116 : goal.returns-in-116
returns-in-116 c = c.read_among-in-116.ensures ∙ sym (calls-by_first c.args.word.now 116 (sym c.first_byte.ensures ∙ c.in-116.is))
