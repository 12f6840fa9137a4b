use Rattle.std.proofs.Common.{sym, subst}
use Rattle.std.specs.Prelude.{is_none, string_bytes}
use Rattle.std.specs.Option.{option_map}
use Rattle.kn_lines.specs.declared.built.TheConstants.{TODAY}
use Rattle.kn_commands.specs.declared.status.Status.{Status}
use Rattle.kn_commands.specs.Ends.{IsTraceReport, IsTraceRun, IsUnread, Refuses}
use Rattle.kn_commands.proofs.EndLemmas.{refused_end, ran_end, text_of}
use Rattle.kn_commands.proofs.trace.run_trace.Goals as goal

pub returns-in-Err-clause-end : goal.returns-in-Err-clause-end
returns-in-Err-clause-end g c =
    let laws = c.state_laws.ensures in
    refused_end TODAY IsTraceRun IsTraceReport (laws.texts_apart TODAY) _ _ c.refuse.result.status c.refuse.result.board c.read_script.ensures.left
    c.read_script.ensures.count c.refuse.ensures.count c.refuse.ensures.none
    (subst (λ (x : Status). IsUnread TODAY x (g.S.Source.left c.args.source.now) (g.S.Source.left c.read_script.new.source)
    (g.S.Source.faults c.args.source.now) (g.S.Source.faults c.read_script.new.source)) (sym c.refuse.ensures.status) c.in-Err.ensures.unread)
    (subst (λ (x : Status). Refuses x (g.K.Sink.held c.args.sink.now) (g.K.Sink.held c.refuse.new.sink)
    (g.K.Sink.faults c.args.sink.now) (g.K.Sink.faults c.refuse.new.sink)) (sym c.refuse.ensures.status) c.refuse.ensures.told)

pub returns-in-Ok-run-clause-end : goal.returns-in-Ok-run-clause-end
returns-in-Ok-run-clause-end g c =
    let laws = c.state_laws.ensures in
    let made = c.in-Ok-run.made in
    let run = c.in-Ok-run.ensures in
    ran_end TODAY IsTraceRun IsTraceReport (laws.texts_apart TODAY) _ _ c.finish.result.status c.finish.result.board c.read_script.ensures.left
    c.read_script.ensures.count c.finish.ensures.count c.in-Ok.script made.board (is_none made.report) c.in-Ok.ensures.read
    run.run c.finish.ensures.board c.in-Ok.ensures.ok_without_fault
    (option_map string_bytes made.report) (text_of made.report) run.reported c.finish.ensures.finished
