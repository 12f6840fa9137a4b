use Rattle.kn_lines.specs.declared.built.TheConstants.{TODAY}
use Rattle.kn_commands.proofs.EndLemmas.{bad_text}
use Rattle.kn_commands.proofs.trace.read_script.Goals as goal

pub returns-in-Err-Bad-clause-unread : goal.returns-in-Err-Bad-clause-unread
returns-in-Err-Bad-clause-unread g c = (
  bad_text TODAY c.in-Err-Bad.field-0 c.in-Err-Bad.line c.in-Err-Bad.why (g.S.Source.left c.args.source.now)
      (g.S.Source.left c.read_bytes.new.source) c.deref.result.now c.in_ok-bytes.bytes.items c.in-Err-Bad.field-0-is c.deref.ensures.value
      c.in_ok-bytes.ensures.given c.in-Err-Bad.ensures.bad,
  c.in_ok-bytes.ensures.ok_without_fault,
)
