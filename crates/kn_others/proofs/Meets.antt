-- No step meets an unswept frame where there is none.
use Rattle.std.proofs.Common.{◌<◌, sym, ap, ◌∙◌, subst}
use Rattle.kn_base.specs.Sizes.{frame_count}
use Rattle.kn_rule.specs.Decoding.{frame_of}
use Rattle.kn_rule.specs.Places.{Within}
use Rattle.kn_board.specs.World.{word_at}
use Rattle.kn_others.specs.Laws.{NoneIsMet}
use Rattle.kn_others.proofs.Swept.{within}

pub none_is_met : NoneIsMet
none_is_met w w' c sound less none met =
    let one = met.one in
    let near : met.frame < frame_count w.heap.sizes =
    subst (Within w.heap.sizes) met.place (within w sound.0 sound.1.0 sound.1.1 sound.1.2 c less one.step one.made.may) in
    none met.frame near
    (ap (λ n. (frame_of n).kind) (sym (one.kept.1.1 ∙ ap (word_at w) met.place)) ∙ met.unswept)
