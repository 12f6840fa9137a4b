use Rattle.kn_cms_trace.proofs.OneRun.{one_run, same_length}
use Rattle.kn_cms_trace.proofs.laws.one_run_law.Goals as goal

pub returns : goal.returns
returns c = record {
  turns = λ script n r r' is k l. same_length script is.good is.calls n r r' k l;
  runs = λ script a b r r' is k l. one_run script is.good is.calls a b r r' k l;
}
