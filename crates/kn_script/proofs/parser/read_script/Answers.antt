use Rattle.std.proofs.Common.{◌∙◌, rules}
use Rattle.kn_script.specs.declared.faults.Why.TheVariants.{Count}
use Rattle.kn_script.specs.Progress.{start}
use Rattle.kn_script.specs.Grammar.{IsText, IsBad, IfBad}
use Rattle.kn_script.proofs.GrammarLemmas.{Behind-more, IsText-one, IsText-not_bad, bad-no_text}
use Rattle.kn_script.proofs.GoodLemmas.{Takes-good, texts_are_good}
use Rattle.kn_script.proofs.BuiltLemmas.{texts_are_built}
use Rattle.kn_script.proofs.parser.read_script.Goals as goal

pub returns-in_err-take_line-clause-none : goal.returns-in_err-take_line-clause-none
returns-in_err-take_line-clause-none c =
    let bad : IfBad c.from_residual.result (λ n why. IsBad c.args.built.now c.args.bytes.now n why) = search rules in
    bad-no_text c.args.built.now c.from_residual.result c.args.bytes.now bad

pub returns-then-not-is_closed-clause-none : goal.returns-then-not-is_closed-clause-none
returns-then-not-is_closed-clause-none c = λ s text.
    let bad : IsBad c.args.built.now c.args.bytes.now c.number.result Count = search rules in
    IsText-not_bad c.args.built.now s c.args.bytes.now c.number.result Count text bad

pub returns-clause-only : goal.returns-clause-only
returns-clause-only c = λ other text.
    let said : IsText c.args.built.now c.into_script.result c.args.bytes.now = search rules in
    IsText-one c.args.built.now other c.into_script.result c.args.bytes.now text said

pub returns-clause-good : goal.returns-clause-good
returns-clause-good c =
    let said : IsText c.args.built.now c.into_script.result c.args.bytes.now = search rules in
    texts_are_good c.args.built.now c.into_script.result c.args.bytes.now said

pub loop-line-preserved : goal.loop-line-preserved
loop-line-preserved c =
    let l = c.loop-line in
    let next = c.take_line.new.progress in
    let line = c.in-Some.line in
    let left = c.in-Some.ensures.left in
    let taken = c.in_ok-take_line.ensures.taken in
    record {
      read = Behind-more (start c.args.built.now) _ l.lines.left c.next_line.new.self.left _ l.progress next line l.invariant.read left taken;
      end = c.in-Some.ensures.end ∙ l.invariant.end;
      good = Takes-good l.progress next line l.invariant.good taken;
    }

pub returns-clause-words : goal.returns-clause-words
returns-clause-words c =
    let said : IsText c.args.built.now c.into_script.result c.args.bytes.now = search rules in
    texts_are_built c.args.built.now c.into_script.result c.args.bytes.now said
