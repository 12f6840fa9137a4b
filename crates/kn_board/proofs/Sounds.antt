-- A step that its caller's view allows leaves the board sound.
use Rattle.std.proofs.Common.{◌≡◌, ◌≢◌, ℕ, ◌<◌, inl, inr, cond, List, length, Some, sym, ap, ◌∙◌, subst}
use Rattle.std.proofs.Common.{slice_set, slice_index_or, arith, length-set, get_or-set_same, get_or-set_other}
use Rattle.std.proofs.lemmas.Bool.Decides.{eqb_tells}
use Rattle.kn_base.specs.declared.places.Place.{Place}
use Rattle.kn_base.specs.declared.places.Place.TheVariants.{Frame}
use Rattle.kn_base.specs.declared.kinds.FrameKind.TheVariants as frames
use Rattle.kn_base.specs.Sizes.{frame_count}
use Rattle.kn_base.specs.Functions.{upd, Tells}
use Rattle.kn_graph.specs.Ground.{Ground, IsGoodGround}
use Rattle.kn_rule.specs.declared.steps.Kind.{Kind}
use Rattle.kn_rule.specs.declared.steps.Action.{Action}
use Rattle.kn_rule.specs.Decoding.{frame_of}
use Rattle.kn_rule.specs.Places.{Within, index, put}
use Rattle.kn_rule.specs.Views.{View, State, Open, owns}
use Rattle.kn_rule.specs.Steps.{Step, Found, does, callers, frame_in, more, word_wanted, word_after}
use Rattle.kn_rule.specs.Outcomes.{outcome}
use Rattle.kn_rule.specs.Allowed.{MayMake}
use Rattle.kn_rule.specs.Moves.{stepped, Finds, Takes, page_by, view_after}
use Rattle.kn_rule.specs.Rule.{Rule, Shown, fresh}
use Rattle.kn_rule.proofs.Indexes.{places_lie, words_are_set}
use Rattle.kn_keep_marking.proofs.Keeps.{keeps}
use Rattle.kn_keep_marking.proofs.Withins.{steps_lie_within}
use Rattle.kn_board.specs.World.{World, word_at, slot_at, view_at, IsSlotOf, IsPageFound, StandsFor, Sound, world_after, lies_at}

set_at : {A : Type 0} (l : List A) (i c : ℕ) (x d : A) → i < length l → Tells i c →
    slice_index_or (slice_set l i x) c d ≡ upd (λ j. slice_index_or l j d) i x c
set_at l i c x d h (inl t) =
    ap (λ j. slice_index_or (slice_set l i x) j d) (sym t.1)
    ∙ (get_or-set_same l i x d h ∙ ap (λ b. cond b x (slice_index_or l c d)) (sym t.0))
set_at l i c x d h (inr t) =
    get_or-set_other l i c x d (λ e. t.1 (sym e)) ∙ ap (λ b. cond b x (slice_index_or l c d)) (sym t.0)

-- what is left to show of one kind of step: the page that it takes, the pages of frames that nobody owns, and those in hands
pub record Fits (w : World) (s : State) (by : ℕ) (f : Found) (k : Kind) (p : Place) (a : Action) : Type 0 where
  pub takes : Takes w.heap s by k p a f
  pub pages : (j : ℕ) → j < frame_count w.heap.sizes → (frame_of (put s.word p (word_after a f.word) (Frame j))).kind ≢ frames.Owned →
      slot_at w j ≡ page_by p a f s.page k j
  pub hands : (j : ℕ) (o : Open) → owns (view_after w.heap by (view_at w by) (does k p a) f) j ≡ Some o →
      IsSlotOf w.heap.sizes j o (slot_at w j)

module _ (w : World) (good : IsGoodGround w.heap) (s : State) (rule : Rule w.heap s) (h : StandsFor w s) (by : ℕ)
    (less : by < callers w.heap.sizes) (d : Step) (may : MayMake w.heap by (view_at w by) (lies_at w) d) (f : Found)
    (is : f.word ≡ word_at w d.place) (lies : IsPageFound d.kind (word_wanted d.act) f (slot_at w (frame_in d.place))) where
  abbrev z : Ground
  z = w.heap

  abbrev x : View
  x = view_at w by

  is_x : s.caller by ≡ x
  is_x = sym (h.views_are by less)

  may_s : MayMake z by (s.caller by) (lies_at w) d
  may_s = subst (λ v. MayMake z by v (lies_at w) d) (sym is_x) may

  within : Within z.sizes d.place
  within = steps_lie_within z s by (lies_at w) d good rule may_s

  found_is : s.word d.place ≡ f.word
  found_is = sym (h.words_are d.place within) ∙ sym is

  -- the words stand for those of the state after the step
  words_after : (p : Place) → Within z.sizes p → word_at (world_after w by d f) p ≡ put s.word d.place (word_after d.act f.word) p
  words_after p q =
      let near : index z.sizes d.place < length w.words = let a = places_lie z.sizes d.place within in let b = h.words in omega arith in
      words_are_set z.sizes w.words s.word (word_after d.act f.word) h.words_are d.place p near within q

  near_by : by < length w.views
  near_by = let e = h.views in omega arith

  pub view_at_after : (c : ℕ) → view_at (world_after w by d f) c ≡ upd (view_at w) by (view_after z by x d f) c
  view_at_after c = set_at w.views by c (view_after z by x d f) (fresh z) near_by (eqb_tells by c)

  upd_views : (c : ℕ) → c < callers z.sizes → Tells by c →
      upd (view_at w) by (view_after z by x d f) c ≡ upd s.caller by (view_after z by (s.caller by) d f) c
  upd_views c l (inl t) =
      ap (λ b. cond b (view_after z by x d f) (view_at w c)) t.0 ∙ (ap (λ v. view_after z by v d f) (sym is_x)
      ∙ sym (ap (λ b. cond b (view_after z by (s.caller by) d f) (s.caller c)) t.0))
  upd_views c l (inr t) =
      ap (λ b. cond b (view_after z by x d f) (view_at w c)) t.0 ∙ (h.views_are c l
      ∙ sym (ap (λ b. cond b (view_after z by (s.caller by) d f) (s.caller c)) t.0))

  views_after : (c : ℕ) → c < callers z.sizes → view_at (world_after w by d f) c ≡ (stepped z s by d f).caller c
  views_after c l = view_at_after c ∙ upd_views c l (eqb_tells by c)

  history_after : (world_after w by d f).history ≡ (stepped z s by d f).history
  history_after =
      λ t. more (h.history_is t) (outcome z by (sym is_x t) d.place d.act f d.kind).says

  module _ (fits : Fits w s by f d.kind d.place d.act) where
    finds : Finds z s by d f
    finds = (found_is, fits.takes)

    in_hands_after : (c p : ℕ) (o : Open) → c < callers z.sizes → upd (view_at w) by (view_after z by x d f) c ≡ view_at (world_after w by d f) c →
        owns (view_at (world_after w by d f) c) p ≡ Some o → Tells by c → IsSlotOf z.sizes p o (slot_at w p)
    in_hands_after c p o l e own (inl t) =
        fits.hands p o (ap (λ (v : View). owns v p) (sym (ap (λ b. cond b (view_after z by x d f) (view_at w c)) t.0) ∙ e) ∙ own)
    in_hands_after c p o l e own (inr t) =
        h.in_hands c p o l (ap (λ (v : View). owns v p) (sym (ap (λ b. cond b (view_after z by x d f) (view_at w c)) t.0) ∙ e) ∙ own)

    pub rule_after : Rule z (stepped z s by d f)
    rule_after = keeps z good s by (lies_at w) f rule d may_s finds

    pub stands_after : StandsFor (world_after w by d f) (stepped z s by d f)
    stands_after = record {
      words = length-set w.words (index z.sizes d.place) (word_after d.act f.word) ∙ h.words;
      slots = h.slots;
      views = length-set w.views by (view_after z by x d f) ∙ h.views;
      words_are = words_after;
      pages_are = fits.pages;
      views_are = views_after;
      history_is = history_after;
      in_hands = λ c p o l e. in_hands_after c p o l (sym (view_at_after c)) e (eqb_tells by c);
    }

    pub sound_after : Sound (world_after w by d f)
    sound_after = (good, (stepped z s by d f, rule_after, stands_after))

    pub shown_after : Shown z by x d f
    shown_after = (s, rule, is_x, finds)
