use Rattle.kn_page.specs.Opened.{AreFirstBelow}
use Rattle.kn_page.proofs.opened.open_pages.Given as goal

abbrev pub invariant-loop-number : goal.invariant-loop-number
invariant-loop-number l = AreFirstBelow l.sizes l.number l.pages.items
