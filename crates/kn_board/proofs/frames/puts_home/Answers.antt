use Rattle.std.proofs.Common.{◌≡◌, ◌<◌, length, None, slice_set, sym, ap, ◌∙◌, subst, arith}
use Rattle.std.proofs.lemmas.List.{get_or_read}
use Rattle.kn_rule.specs.declared.steps.Kind.TheVariants.{K11}
use Rattle.kn_rule.specs.Decoding.{frame_of}
use Rattle.kn_rule.specs.Outcomes.{outcome}
use Rattle.kn_rule.specs.Steps.{found, frame_in}
use Rattle.kn_view.specs.Parts.{ground_of}
use Rattle.kn_holds.specs.Holds.{Hold}
use Rattle.kn_board.specs.Stored.{hold_at, nobody}
use Rattle.kn_board.specs.Noted.{Noted}
use Rattle.kn_board.proofs.Holdings.{open_of}
use Rattle.kn_board.proofs.Notings.{home_noted}
use Rattle.kn_board.proofs.frames.puts_home.Goals as goal

pub returns : goal.returns
returns c = λ page.
    let z = ground_of c.args.sizes.now c.args.layouts.now in let s = c.args.step in let k = c.frame_in-frame in
    let holds = c.args.holds.now.items in let f = found s.word page in
    let near : k.result < length holds =
    let e = k.ensures ∙ ap frame_in c.requires.asks.at.place in let l = c.requires.asks.at.near in let n = c.requires.fits.count in omega arith in
    let was : c.index_mut-hold.result.now ≡ hold_at holds k.result =
    get_or_read holds k.result c.index_mut-hold.result.now near c.index_mut-hold.ensures.value (nobody 0) in
    let now : c.let_go.new.self ≡ record (hold_at holds k.result) { by = None } =
    c.let_go.ensures ∙ ap (λ (h : Hold). record h { by = None }) was in
    let class : (frame_of (hold_at holds k.result).word).class ≡ c.class_of.result =
    ap (λ (h : Hold). (frame_of h.word).class) (sym now)
    ∙ sym (c.class_of.ensures ∙ ap (λ w. (frame_of w).class) c.word.ensures) in
    let free : (hold_at holds k.result).free.spans ≡ c.spans.result.now = ap (λ (h : Hold). h.free.spans) (sym now) ∙ sym c.spans.ensures in
    subst (λ h. Noted z s.by c.args.known.now c.puts_home.new.self holds (slice_set holds k.result h) c.args.history.now c.puts_home.new.history
    (λ v. outcome z s.by v s.place s.act f K11)) (sym now)
    (home_noted z s.by c.args.known.now holds c.requires.fits s.place s.act f c.requires.asks k.result k.ensures
    c.puts_home.new.self c.args.history.now c.puts_home.new.history (c.puts_home.ensures s.act f (open_of (hold_at holds k.result)) class free))
