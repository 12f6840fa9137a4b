use Rattle.std.proofs.Common.{refl}
use Rattle.std.specs.Prelude.{Some, is_none, string_bytes}
use Rattle.std.specs.Option.{option_map}
use Rattle.kn_cms.specs.declared.words.TheConstants.{CORE_WORDS}
use Rattle.kn_commands.specs.CmsEnds.{IsCoreLeft, IsCoreReport}
use Rattle.kn_commands.proofs.EndLemmas.{ran_end, text_of}
use Rattle.kn_commands.proofs.cms.run_cms.Goals as goal

pub returns-in-Ok-run_core-clause-end : goal.returns-in-Ok-run_core-clause-end
returns-in-Ok-run_core-clause-end g c =
    let laws = c.state_laws.ensures in
    let report = c.in-Ok-run_core.report in
    let ran = c.in-Ok-run_core.ensures in (
      Some ran.last,
      ran_end CORE_WORDS IsCoreLeft IsCoreReport (laws.texts_apart CORE_WORDS) _ _ c.end_run.result (Some ran.last)
          c.read_core.ensures.left c.read_core.ensures.count c.end_run.ensures.count c.in-Ok.script ran.last (is_none report) c.in-Ok.ensures.read
          ran.left refl c.in-Ok.ensures.ok_without_fault (option_map string_bytes report) (text_of report) ran.reported c.end_run.ensures.finished,
    )
