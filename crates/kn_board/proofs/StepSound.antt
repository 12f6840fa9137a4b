-- Any step that its caller's view allows leaves the board sound.
use Rattle.std.proofs.Common.{◌≡◌, ℕ, ◌<◌, sym, ap, ◌∙◌, subst, arith}
use Rattle.std.proofs.lemmas.Bool.Decides.{eqb_tells}
use Rattle.kn_base.specs.declared.places.Place.{Place}
use Rattle.kn_base.specs.declared.places.Place.TheVariants.{Frame}
use Rattle.kn_base.specs.Classes.{IsClassNumber}
use Rattle.kn_graph.specs.Ground.{Ground, IsGoodGround}
use Rattle.kn_rule.specs.declared.steps.Kind.{Kind}
use Rattle.kn_rule.specs.declared.steps.Kind.TheVariants.{K1, K2, K3, K4, K5, K6}
use Rattle.kn_rule.specs.declared.steps.Kind.TheVariants.{K7, K8, K9, K10, K11, K12, K13, K14, K15, K16}
use Rattle.kn_rule.specs.declared.steps.Kind.TheVariants.{K17, K18, K19, K20, K21, K22, K23, K24}
use Rattle.kn_rule.specs.declared.steps.Action.{Action}
use Rattle.kn_rule.specs.Views.{View, State}
use Rattle.kn_rule.specs.Requests.{class_for, class_where}
use Rattle.kn_rule.specs.Steps.{Step, Found, callers, frame_in, word_wanted, epoch_in}
use Rattle.kn_rule.specs.Allowed.{MayBe, MayMake, MayClaim}
use Rattle.kn_rule.specs.Rule.{Rule, Shown}
use Rattle.kn_keep_heap.proofs.NextWord.{request_two}
use Rattle.kn_keep_heap.proofs.BirthLaw.{class_at, epoch_small}
use Rattle.kn_keep_marking.proofs.Withins.{steps_lie_within}
use Rattle.kn_board.specs.World.{World, word_at, slot_at, view_at, IsPageFound, StandsFor, Sound, world_after, lies_at}
use Rattle.kn_board.proofs.Sounds.{Fits, sound_after, shown_after}
use Rattle.kn_board.proofs.StepFits.{poll_fits, state_fits, local_fits, body_fits, field_fits, global_read_fits, global_fits, birth_fits, look_fits}
use Rattle.kn_board.proofs.StepFits.{want_fits, phase_fits, load_state_fits, count_fits}
use Rattle.kn_board.proofs.StepFits.{set_fits, root_read_fits, reserve_fits, mark_fits, give_fits, gray_fits, cell_fits, black_fits}
use Rattle.kn_board.proofs.FrameFits.{home_fits, clear_fits}
use Rattle.kn_board.proofs.ClaimFits.{claim_fits, new_owned}

module _ (w : World) (good : IsGoodGround w.heap) (s : State) (rule : Rule w.heap s) (h : StandsFor w s) (by : ℕ)
    (less : by < callers w.heap.sizes) (f : Found) where
  abbrev z : Ground
  z = w.heap

  abbrev x : View
  x = view_at w by

  is_x : s.caller by ≡ x
  is_x = sym (h.views_are by less)

  claims : (p : Place) (a : Action) → MayClaim z by x (lies_at w) p a → s.word p ≡ f.word →
      IsPageFound K10 (word_wanted a) f (slot_at w (frame_in p)) → Fits w s by f K10 p a
  claims p a m =
      let m' = m.search in
      let class_ok : IsClassNumber m.class =
      let c = class_at z.sizes m'.words (request_two z m.call m'.words m'.is_request) in
      let e : m.class ≡ class_for z.sizes m'.words = m'.is_class ∙ ap (class_where z.sizes) m'.is_request in
      let a = c.0 in let b = c.1 in (omega arith, omega arith) in
      let epoch_ok : epoch_in x < 4294967296 =
      subst (λ v. epoch_in v < 4294967296) is_x (epoch_small z s by m'.thread rule.0 rule.1 m.call
      (ap (λ (v : View). v.position) is_x ∙ m'.is_call)) in
      subst (λ q. s.word q ≡ f.word → IsPageFound K10 (word_wanted a) f (slot_at w (frame_in q)) → Fits w s by f K10 q a) (sym m.place)
      (subst (λ b. s.word (Frame m.frame) ≡ f.word → IsPageFound K10 (word_wanted b) f (slot_at w m.frame) → Fits w s by f K10 (Frame m.frame) b)
      (sym m.word) (λ is lies. claim_fits w good s rule h by less f m.class m.frame m.old m'.near m'.thread m.fit is lies
      (new_owned w good s rule h by less f m.class m.frame m.old m'.near m'.thread m.fit is lies class_ok epoch_ok) (eqb_tells f.word m.old)))

  fits_by : (k : Kind) (p : Place) (a : Action) → MayBe z by x (lies_at w) k p a → s.word p ≡ f.word →
      IsPageFound k (word_wanted a) f (slot_at w (frame_in p)) → Fits w s by f k p a
  fits_by K1 p a m is l = poll_fits w s h by less f p a m
  fits_by K2 p a m is l = state_fits w s h by less f p a m
  fits_by K3 p a m is l = local_fits w s h by less f p a m
  fits_by K4 p a m is l = body_fits w s h by less f p a m
  fits_by K5 p a m is l = field_fits w s h by less f p a m
  fits_by K6 p a m is l = global_read_fits w s h by less f p a m
  fits_by K7 p a m is l = global_fits w s h by less f p a m
  fits_by K8 p a m is l = birth_fits w s h by less f p a m
  fits_by K9 p a m is l = look_fits w s h by less f p a m is
  fits_by K10 p a m is l = claims p a m is l
  fits_by K11 p a m is l = home_fits w good s rule h by less f p a m (sym (ap (λ q. slot_at w (frame_in q)) m.place) ∙ l)
  fits_by K12 p a m is l = clear_fits w good s rule h by less f p a m
  fits_by K13 p a m is l = want_fits w s h by less f p a m
  fits_by K14 p a m is l = phase_fits w s h by less f p a m
  fits_by K15 p a m is l = load_state_fits w s h by less f p a m
  fits_by K16 p a m is l = count_fits w s h by less f p a m
  fits_by K17 p a m is l = set_fits w s h by less f p a m
  fits_by K18 p a m is l = root_read_fits w s h by less f p a m
  fits_by K19 p a m is l = reserve_fits w s h by less f p a m
  fits_by K20 p a m is l = mark_fits w s h by less f p a m
  fits_by K21 p a m is l = give_fits w s h by less f p a m
  fits_by K22 p a m is l = gray_fits w s h by less f p a m
  fits_by K23 p a m is l = cell_fits w s h by less f p a m
  fits_by K24 p a m is l = black_fits w s h by less f p a m
  fits_by _ p a m is l = absurd m

  module _ (d : Step) (may : MayMake z by x (lies_at w) d) (is : f.word ≡ word_at w d.place)
      (lies : IsPageFound d.kind (word_wanted d.act) f (slot_at w (frame_in d.place))) where
    fits : Fits w s by f d.kind d.place d.act
    fits =
        let may' = subst (λ v. MayMake z by v (lies_at w) d) (sym is_x) may in
        let within = steps_lie_within z s by (lies_at w) d good rule may' in
        fits_by d.kind d.place d.act may (sym (h.words_are d.place within) ∙ sym is) lies

    pub step_sound : Sound (world_after w by d f)
    step_sound = sound_after w good s rule h by less d may f is lies fits

    pub step_shown : Shown z by x d f
    step_shown = shown_after w good s rule h by less d may f is lies fits
