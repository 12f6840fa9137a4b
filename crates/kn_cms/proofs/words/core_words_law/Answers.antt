use Rattle.kn_cms.proofs.CoreWords.{has_all_headers, has_core_calls, has_core_parts}
use Rattle.kn_cms.proofs.words.core_words_law.Goals as goal

pub returns : goal.returns
returns c = record { calls = has_core_calls; headers = has_all_headers; parts = has_core_parts }
