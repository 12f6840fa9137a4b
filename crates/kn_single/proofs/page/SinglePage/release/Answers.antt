use Rattle.std.proofs.Common.{ap, ◌∙◌, arith}
use Rattle.kn_single.proofs.Behind.{room_for_cell}
use Rattle.kn_single.proofs.page.SinglePage.release.Goals as goal

pub put-requires-clause-room : goal.put-requires-clause-room
put-requires-clause-room c =
    let frame = ap (λ page. page.frame) c.self.view_is in
    let free = ap (λ page. page.spans) c.self.view_is in
    room_for_cell c.args.cell c.args.self.now.frame c.self.inside.free c.requires.at_start (free ∙ c.requires.rest_is_free) (omega arith)
