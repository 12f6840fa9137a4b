use Rattle.std.proofs.Common.{◌≡◌, ◌∙◌, List, Bor, Option, Some, None, option_map, slice_get, sym, ap, refl, length}
use Rattle.std.proofs.lemmas.Bool.{ltb-true}
use Rattle.std.proofs.lemmas.Option.{slice_get_read, slice_get-map}
use Rattle.std.specs.Option.{option_copied}
use Rattle.kn_base.specs.Pages.{FrameView}
use Rattle.kn_rule.specs.Views.{flattened}
use Rattle.kn_board.specs.World.{World, slot_at}
use Rattle.kn_board.proofs.plain.Plain.page.Goals as goal

copied_told : {S : Type 0} (page_of : S → FrameView) (r : Option (Bor S)) →
    option_map {T = Bor S} {U = FrameView} (λ b. page_of b.now) r ≡ option_map page_of (option_copied r)
copied_told page_of None = refl
copied_told page_of (Some b) = refl

pub returns : goal.returns
returns g c =
    let items = c.self.inside.slots.items in
    let same : c.deref.result.now ≡ items = c.deref.ensures.value in
    let told = c.in_ok-get.ensures.lookup in
    let there : slice_get items c.args.frame ≡ Some c.in_ok-get.field-0.now =
    ap (λ (l : List (Option g.row.P.Denot)). slice_get l c.args.frame) (sym same)
    ∙ slice_get_read c.deref.result.now (length c.deref.result.now) c.args.frame c.in_ok-get.field-0.now refl
    (ltb-true c.args.frame (length c.deref.result.now) (sym told.0)) told.1 in
    copied_told g.P.FramePage.page c.as_ref.result
    ∙ (ap (option_map g.P.FramePage.page) c.as_ref.ensures.value
    ∙ (ap flattened (ap (option_map (option_map g.P.FramePage.page)) (sym there)
    ∙ sym (slice_get-map (option_map g.P.FramePage.page) items c.args.frame))
    ∙ ap (λ (w : World). slot_at w c.args.frame) c.self.view_is))
