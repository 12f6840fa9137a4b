use Rattle.kn_lines.specs.declared.built.FirstWord.TheVariants.{Call}
use Rattle.kn_script.proofs.ReasonLemmas.{MeetsNone-from}
use Rattle.kn_script.proofs.GoodLemmas.{call-small}
use Rattle.kn_script.proofs.progress.Progress.add.Goals as goal

pub make_call-requires : goal.make_call-requires
make_call-requires c =
    let p = c.args.self.now in
    let none = MeetsNone-from p c.args.read.word (Call c.in-Call.call) c.args.words c.in-Call.is c.requires.fits in
    rw c.requires.values (call-small p c.in-Call.call c.args.words c.requires.good none)
