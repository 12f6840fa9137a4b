use Rattle.std.proofs.Common.{◌<◌, IsTrue, nat_lt, subst, arith}
use Rattle.std.proofs.lemmas.Bool.{lt-ltb}
use borrow.Author.Tests.{ltb-true}
use Rattle.kn_single.specs.SingleState.{SingleState, HasTakenCell}
use Rattle.kn_single.proofs.Behind.{cell_where_words_lack}
use Rattle.kn_single.proofs.page.SinglePage.has_cell.Goals as goal

pub returns : goal.returns
returns c =
    let page : SingleState = record { frame = c.self.inside.frame; spans = c.self.inside.free.spans } in
    let test = cell_where_words_lack page c.self.invariant.cell in
    let words = c.free_words.result in
    subst (λ now. (IsTrue (nat_lt words page.frame.len) → HasTakenCell now) × (HasTakenCell now → IsTrue (nat_lt words page.frame.len))) c.self.view_is (
      λ lack. test.0 (let lt : words < page.frame.len = ltb-true words page.frame.len lack in omega arith),
      λ has. let lt = test.1 has in lt-ltb words page.frame.len (omega arith),
    )
