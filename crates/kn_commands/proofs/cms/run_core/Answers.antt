use Rattle.std.proofs.Common.{◌≡◌, Bool, false, subst}
use Rattle.std.specs.Prelude.{string_bytes}
use Rattle.kn_graph.specs.Ground.{Ground}
use Rattle.kn_cms_trace.specs.CoreRuns.{IsCoreRunOf}
use Rattle.kn_cms_trace.specs.Runners.{RanCore}
use Rattle.kn_cms_report.specs.CoreReports.{IsCoreText}
use Rattle.kn_commands.proofs.cms.run_core.Goals as goal

pub returns : goal.returns
returns c =
    let script = c.args.script.now in
    let traced = c.in_ok-core.field-0 in
    let off : traced.is_spent ≡ false = cc in
    let ran : RanCore script traced.is_spent traced.core = c.in_ok-core.ensures.run in
    let text = c.in_ok-core_report.ensures ran.last.state ran.stands in
    record {
      last = ran.last;
      left = record {
        is_script = record { good = c.requires.good; calls = c.requires.calls };
        is_run = subst (λ (b : Bool). IsCoreRunOf script b ran.last) off ran.run;
        spent_below = λ no. absurd (cc);
        kept = ran.kept;
      };
      reported = record {
        whole = ran.whole off;
        text_is = subst (λ (z : Ground). IsCoreText z ran.last.state (string_bytes c.in_ok-core_report.field-0)) c.in_ok-core.ensures.of_script.ground text;
      };
    }
