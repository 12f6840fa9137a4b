-- A turn leaves no frame unswept where none was.
use Rattle.std.proofs.Common.{◌≡◌, ◌≢◌, ℕ, ◌+◌, ◌<◌, ◌≤◌, inl, inr, Bool, true, false, cond, eqb, length, Some}
use Rattle.std.proofs.Common.{refl, sym, ap, ◌∙◌, subst, arith}
use Rattle.std.proofs.lemmas.Bool.Decides.{eqb_tells}
use Rattle.kn_base.specs.declared.places.Place.{Place}
use Rattle.kn_base.specs.declared.places.Place.TheVariants.{Local, Global, Node, Frame}
use Rattle.kn_base.specs.declared.kinds.FrameKind.TheVariants as frames
use Rattle.kn_base.specs.Words.{packed_frame}
use Rattle.kn_base.specs.Classes.{IsClassNumber}
use Rattle.kn_base.specs.Sizes.{frame_count}
use Rattle.kn_base.specs.Functions.{Tells}
use Rattle.kn_base.proofs.Updates.{upd_case}
use Rattle.kn_graph.specs.Ground.{Ground, IsGoodGround}
use Rattle.kn_rule.specs.declared.steps.Kind.{Kind}
use Rattle.kn_rule.specs.declared.steps.Kind.TheVariants.{K1, K2, K3, K4, K5, K6}
use Rattle.kn_rule.specs.declared.steps.Kind.TheVariants.{K7, K8, K9, K10, K11, K12, K13, K14, K15, K16}
use Rattle.kn_rule.specs.declared.steps.Kind.TheVariants.{K17, K18, K19, K20, K21, K22, K23, K24}
use Rattle.kn_rule.specs.declared.steps.Action.{Action}
use Rattle.kn_rule.specs.Decoding.{frame_of, PacksFrame}
use Rattle.kn_rule.specs.FrameSpans.{frame_span}
use Rattle.kn_rule.specs.Places.{Within, index, put}
use Rattle.kn_rule.specs.Views.{View, State, owns}
use Rattle.kn_rule.specs.Requests.{class_for, class_where, owned_word}
use Rattle.kn_rule.specs.Steps.{Step, Found, callers, epoch_in, word_after}
use Rattle.kn_rule.specs.Allowed.{MayBe, MayMake, MayClaim, MayGiveBack, MayWant, MayCount}
use Rattle.kn_rule.specs.MarkedHeap.{name_in_set, set_place}
use Rattle.kn_rule.specs.MarkSteps.{MayLoadCell, MayMoveMark, MayMoveSet}
use Rattle.kn_rule.specs.Rule.{Rule}
use Rattle.kn_rule.proofs.Indexes.{places_lie, words_are_set}
use Rattle.kn_keep_heap.proofs.NextWord.{request_two}
use Rattle.kn_keep_heap.proofs.BirthLaw.{class_at, epoch_small}
use Rattle.kn_keep_marking.proofs.Withins.{steps_lie_within}
use Rattle.kn_board.specs.World.{World, StandsFor, word_at, view_at, lies_at, world_after}
use Rattle.kn_others.specs.Laws.{NoneUnswept, NoneComesUnswept}
use Rattle.kn_others.proofs.Stored.{claimed_swept, home_swept}

module _ (w : World) (good : IsGoodGround w.heap) (s : State) (rule : Rule w.heap s) (h : StandsFor w s) (c : ℕ)
    (less : c < callers w.heap.sizes) where
  abbrev z : Ground
  z = w.heap

  abbrev x : View
  x = view_at w c

  is_x : s.caller c ≡ x
  is_x = sym (h.views_are c less)

  -- a step that is allowed is made at a place of the heap
  pub within : (d : Step) → MayMake z c x (lies_at w) d → Within z.sizes d.place
  within d may = steps_lie_within z s c (lies_at w) d good rule (subst (λ v. MayMake z c v (lies_at w) d) (sym is_x) may)

  word_is : (k : ℕ) → k < frame_count z.sizes → word_at w (Frame k) ≡ s.word (Frame k)
  word_is k near = h.words_are (Frame k) near

  packs : (k n : ℕ) → k < frame_count z.sizes → n ≡ word_at w (Frame k) → PacksFrame n
  packs k n near e = subst PacksFrame (sym (e ∙ word_is k near)) (rule.1.stands.framed.packs k near)

  module _ (none : NoneUnswept w) where
    -- no frame is unswept with this word at this place
    abbrev Swept : Place → ℕ → Type 0
    Swept p n = (j : ℕ) → j < frame_count z.sizes → (frame_of (put (word_at w) p n (Frame j))).kind ≢ frames.Unswept

    at_frame : (k n : ℕ) → (k < frame_count z.sizes → (frame_of n).kind ≢ frames.Unswept) → Swept (Frame k) n
    at_frame k n new j =
        upd_case (λ i m. i < frame_count z.sizes → (frame_of m).kind ≢ frames.Unswept) (λ i. word_at w (Frame i)) k n new j (λ ne. none j)

    -- the word that was there
    same : (k n : ℕ) → n ≡ word_at w (Frame k) → k < frame_count z.sizes → (frame_of n).kind ≢ frames.Unswept
    same k n e near = subst (λ m. (frame_of m).kind ≢ frames.Unswept) (sym e) (none k near)

    claimed : (n : ℕ) (p : Place) (a : Action) (m : MayClaim z c x (lies_at w) p a) → n ≡ word_at w (Frame m.frame) → Tells n m.old →
        (frame_of (cond (eqb n m.old) (packed_frame (owned_word (frame_of m.old) m.class (epoch_in x) c)) n)).kind ≢ frames.Unswept
    claimed n p a m is (inr t) =
        subst (λ b. (frame_of (cond b (packed_frame (owned_word (frame_of m.old) m.class (epoch_in x) c)) n)).kind ≢ frames.Unswept) (sym t.0)
        (same m.frame n is m.search.near)
    claimed n p a m is (inl t) =
        let m' = m.search in
        let class_ok : IsClassNumber m.class =
        let r = class_at z.sizes m'.words (request_two z m.call m'.words m'.is_request) in
        let e : m.class ≡ class_for z.sizes m'.words = m'.is_class ∙ ap (class_where z.sizes) m'.is_request in
        let a = r.0 in let b = r.1 in (omega arith, omega arith) in
        let epoch_ok : epoch_in x < 4294967296 =
        subst (λ v. epoch_in v < 4294967296) is_x (epoch_small z s c m'.thread rule.0 rule.1 m.call
        (ap (λ (v : View). v.position) is_x ∙ m'.is_call)) in
        let seat_ok : c ≤ 17 = let t = good.sizes.of_threads.threads.1 in let l = m'.thread in omega arith in
        subst (λ b. (frame_of (cond b (packed_frame (owned_word (frame_of m.old) m.class (epoch_in x) c)) n)).kind ≢ frames.Unswept) (sym t.0)
        (claimed_swept m.old m.class (epoch_in x) c (packs m.frame m.old m'.near (sym t.1 ∙ is)) class_ok epoch_ok seat_ok)

    given_back : (n : ℕ) (p : Place) (a : Action) → MayGiveBack z c x (lies_at w) p a → Swept p (word_after a n)
    given_back n p a m =
        let own : owns (s.caller c) m.frame ≡ Some m.hold = ap (λ (v : View). owns v m.frame) is_x ∙ m.owned in
        let o = rule.1.stands.framed.owning m.frame c m.hold less own in
        subst (λ q. Swept q (word_after a n)) (sym m.place) (subst (λ b. Swept (Frame m.frame) (word_after b n)) (sym m.word)
        (at_frame m.frame _ (λ near. home_swept m.hold.word (packs m.frame m.hold.word near (sym (word_is m.frame near ∙ o.1)))
        (ap (λ n. (frame_of n).kind) (sym o.1) ∙ o.2) (frame_span z.sizes m.frame) m.hold.free)))

    want_swept : (n : ℕ) (p : Place) (a : Action) → MayWant z c x (lies_at w) p a → Swept p (word_after a n)
    want_swept n p a (inl m) = subst (λ q. Swept q (word_after a n)) (sym m.place) none
    want_swept n p a (inr m) = subst (λ q. Swept q (word_after a n)) (sym m.place) none

    count_swept : (n : ℕ) (p : Place) (a : Action) → MayCount z c x (lies_at w) p a → Swept p (word_after a n)
    count_swept n p a (inl m) = subst (λ q. Swept q (word_after a n)) (sym m.place) none
    count_swept n p a (inr m) = subst (λ q. Swept q (word_after a n)) (sym m.place) none

    set_swept : (n : ℕ) (p : Place) (a : Action) → MayMoveSet z c x p a → Swept p (word_after a n)
    set_swept n p a (inl m) = subst (λ q. Swept q (word_after a n)) (sym m.place) none
    set_swept n p a (inr (inl m)) = subst (λ q. Swept q (word_after a n)) (sym m.place) none
    set_swept n p a (inr (inr m)) = subst (λ q. Swept q (word_after a n)) (sym m.place) none

    -- a word of a root set is no frame's
    root_swept : (n j i : ℕ) → Swept (set_place z.sizes j i) n
    root_swept n j i = by (eqb j z.sizes.threads) (eqb j (z.sizes.threads + 1))
      where
        by : (globals names : Bool) → Swept (cond globals (Global i) (cond names (Node (name_in_set z.sizes i)) (Local j i))) n
        by true names = none
        by false true = none
        by false false = none

    mark_swept : (n : ℕ) (p : Place) (a : Action) → MayMoveMark z c x p a → Swept p (word_after a n)
    mark_swept n p a (inl m) = subst (λ q. Swept q (word_after a n)) (sym m.place) none
    mark_swept n p a (inr (inl m)) = subst (λ q. Swept q (word_after a n)) (sym m.place) none
    mark_swept n p a (inr (inr m)) = subst (λ q. Swept q (word_after a n)) (sym m.place) none

    cell_swept : (n : ℕ) (p : Place) (a : Action) → MayLoadCell z c x p a → Swept p (word_after a n)
    cell_swept n p a (inl m) = subst (λ q. Swept q (word_after a n)) (sym m.place) none
    cell_swept n p a (inr m) = subst (λ q. Swept q (word_after a n)) (sym m.place) none

    swept_by : (n : ℕ) (k : Kind) (p : Place) (a : Action) → MayBe z c x (lies_at w) k p a → n ≡ word_at w p → Swept p (word_after a n)
    swept_by n K1 p a m is = subst (λ q. Swept q (word_after a n)) (sym m.place) none
    swept_by n K2 p a m is = subst (λ q. Swept q (word_after a n)) (sym m.place) none
    swept_by n K3 p a m is = subst (λ q. Swept q (word_after a n)) (sym m.place) none
    swept_by n K4 p a m is = subst (λ q. Swept q (word_after a n)) (sym m.place) none
    swept_by n K5 p a m is = subst (λ q. Swept q (word_after a n)) (sym m.place) none
    swept_by n K6 p a m is = subst (λ q. Swept q (word_after a n)) (sym m.place) none
    swept_by n K7 p a m is = subst (λ q. Swept q (word_after a n)) (sym m.place) none
    swept_by n K8 p a m is = subst (λ q. Swept q (word_after a n)) (sym m.place) none
    swept_by n K9 p a m is =
        subst (λ q. Swept q (word_after a n)) (sym m.place) (subst (λ b. Swept (Frame m.frame) (word_after b n)) (sym m.act)
        (at_frame m.frame n (same m.frame n (is ∙ ap (word_at w) m.place))))
    swept_by n K10 p a m is =
        subst (λ q. Swept q (word_after a n)) (sym m.place) (subst (λ b. Swept (Frame m.frame) (word_after b n)) (sym m.word)
        (at_frame m.frame _ (λ near. claimed n p a m (is ∙ ap (word_at w) m.place) (eqb_tells n m.old))))
    swept_by n K11 p a m is = given_back n p a m
    swept_by n K12 p a m is = subst (λ q. Swept q (word_after a n)) (sym m.place) none
    swept_by n K13 p a m is = want_swept n p a m
    swept_by n K14 p a m is = subst (λ q. Swept q (word_after a n)) (sym m.place) none
    swept_by n K15 p a m is = subst (λ q. Swept q (word_after a n)) (sym m.place) none
    swept_by n K16 p a m is = count_swept n p a m
    swept_by n K17 p a m is = set_swept n p a m
    swept_by n K18 p a m is = subst (λ q. Swept q (word_after a n)) (sym m.place) (root_swept (word_after a n) m.set m.word)
    swept_by n K19 p a m is = subst (λ q. Swept q (word_after a n)) (sym m.place) none
    swept_by n K20 p a m is = mark_swept n p a m
    swept_by n K21 p a m is = subst (λ q. Swept q (word_after a n)) (sym m.place) none
    swept_by n K22 p a m is = subst (λ q. Swept q (word_after a n)) (sym m.place) none
    swept_by n K23 p a m is = cell_swept n p a m
    swept_by n K24 p a m is = subst (λ q. Swept q (word_after a n)) (sym m.place) none
    swept_by n _ p a m is = absurd m

    pub swept_after : (d : Step) (f : Found) → MayMake z c x (lies_at w) d → f.word ≡ word_at w d.place →
        NoneUnswept (world_after w c d f)
    swept_after d f may is j l =
        let at : Within z.sizes d.place = within d may in
        let near : index z.sizes d.place < length w.words = let a = places_lie z.sizes d.place at in let b = h.words in omega arith in
        subst (λ n. (frame_of n).kind ≢ frames.Unswept)
        (sym (words_are_set z.sizes w.words (word_at w) (word_after d.act f.word) (λ p i. refl) d.place (Frame j) near at l))
        (swept_by f.word d.kind d.place d.act may is j l)

pub none_comes_unswept : NoneComesUnswept
none_comes_unswept w w' c sound less none (inl one) =
    subst NoneUnswept (sym one.kept.1.0)
    (swept_after w sound.0 sound.1.0 sound.1.1 sound.1.2 c less none one.step one.found one.made.may one.kept.1.1)
none_comes_unswept w w' c sound less none (inr one) = subst NoneUnswept (sym one.kept.1.0) none
