use Rattle.std.proofs.lemmas.Result.{IfOk-weaker}
use Rattle.kn_lines.specs.Built.{AreBuilt}
use Rattle.kn_script.specs.Scripts.{Scripted}
use Rattle.kn_cms.specs.declared.words.TheConstants.{CORE_WORDS}
use Rattle.kn_cms.proofs.CoreWords.{core_calls}
use Rattle.kn_cms.proofs.words.read_core_script.Goals as goal

pub returns-clause-calls : goal.returns-clause-calls
returns-clause-calls c = IfOk-weaker c.read_script.result (λ (s : Scripted). AreBuilt CORE_WORDS s.threads) _
    (λ s built. core_calls s.threads built) c.read_script.ensures.words
