-- The clauses on frames, where a frame is claimed, and where it is given back.
use Rattle.std.proofs.Common.{◌≡◌, ◌≢◌, ℕ, ◌<◌, ◌⊎◌, inl, inr, List, [], ◌∷◌, Option, Some}
use Rattle.std.proofs.Common.{None, refl, sym, subst}
use Rattle.std.proofs.Common.{ap, ◌∙◌, arith}
use Rattle.kn_base.specs.declared.numbers.Span.{Span}
use Rattle.kn_base.specs.declared.heap.Sizes.{Sizes}
use Rattle.kn_base.specs.declared.kinds.FrameKind.TheVariants as frames
use Rattle.kn_base.specs.Sizes.{frame_count}
use Rattle.kn_base.specs.Spans.{LiesIn}
use Rattle.kn_base.specs.SpanLists.{HasWord, Covers}
use Rattle.kn_base.specs.Pages.{FrameView}
use Rattle.kn_base.specs.Functions.{upd}
use Rattle.kn_base.proofs.Updates.{upd_here, upd_else, upd_case, upd_case2}
use Rattle.kn_graph.specs.Ground.{Ground}
use Rattle.kn_graph.specs.Graph.{Shape, Lives, words_of}
use Rattle.kn_rule.specs.declared.positions.Position.{Position}
use Rattle.kn_rule.specs.declared.parts.Taken.{Taken}
use Rattle.kn_rule.specs.Decoding.{frame_of, PacksFrame}
use Rattle.kn_rule.specs.FrameSpans.{frame_span}
use Rattle.kn_rule.specs.Views.{Open, Sweep}
use Rattle.kn_rule.specs.Requests.{InArea, IsCellOf}
use Rattle.kn_rule.specs.Steps.{callers}
use Rattle.kn_rule.specs.FrameClauses.{Framed, IsFilled, IsTakenWord, AreTheFree, HomePage, Housed, Handed, Classed, Placed, IsNotSwept, TakenIn}
use Rattle.kn_rule.specs.CallerClauses.{Owners, MayOwn}
use Rattle.kn_keep_heap.proofs.Changed.{some_is}
use Rattle.kn_keep_heap.proofs.Positions.{not_without}
use Rattle.kn_keep_heap.proofs.Owns.{gets_case, gets_hit, gets_else, gets_other}
use Rattle.kn_keep_heap.proofs.Fields.{first_word}

module _ (n count : ℕ) (word : ℕ → ℕ) (own : ℕ → ℕ → Option Open) (r : Framed n count word own) (by k nw : ℕ) (less : by < n)
    (near : k < count)
    (packs : PacksFrame nw) where
  packs_at : (p : ℕ) → p < count → PacksFrame (upd word k nw p)
  packs_at p l = upd_case (λ i w. i < count → PacksFrame w) word k nw (λ _. packs) p (λ _ l. r.packs p l) l

  -- a frame has this word and this owner
  abbrev IsOwnedBy : (ℕ → ℕ) → ℕ → ℕ → Open → Type 0
  IsOwnedBy f p c x = (p < count) × (f p ≡ x.word) × ((frame_of (f p)).kind ≡ frames.Owned) × ((frame_of (f p)).seat ≡ c)

  elsewhere : (p c : ℕ) (x : Open) → IsOwnedBy word p c x → k ≢ p → IsOwnedBy (upd word k nw) p c x
  elsewhere p c x h ne =
      let u = upd_else word k nw p ne in
      (h.0, u ∙ h.1, ap (λ w. (frame_of w).kind) u ∙ h.2, ap (λ w. (frame_of w).seat) u ∙ h.3)

  pub framed_claim : (o : Open) → o.word ≡ nw → (frame_of (word k)).kind ≢ frames.Owned → (frame_of nw).kind ≡ frames.Owned →
      (frame_of nw).seat ≡ by → Framed n count (upd word k nw) (upd own by (upd (own by) k (Some o)))
  framed_claim o ow free kind seat =
      let own' : ℕ → ℕ → Option Open = upd own by (upd (own by) k (Some o)) in
      record {
        packs = packs_at;
        named = λ p l e. upd_case
            (λ i w. (frame_of w).kind ≡ frames.Owned → ((frame_of w).seat < n) × ((x : Open) × (own' (frame_of w).seat i ≡ Some x))) word k nw
            (λ _. subst (λ c. (c < n) × ((x : Open) × (own' c k ≡ Some x))) (sym seat) (less, (o, gets_hit own by k (Some o)))) p
            (λ ne e. let h = r.named p l e in (h.0, (h.1.0, gets_other own by k (Some o) (frame_of (word p)).seat p ne ∙ h.1.1))) e;
        owning = λ p c x l e. gets_case own by k (Some o) (λ c p y. c < n → y ≡ Some x → IsOwnedBy (upd word k nw) p c x)
            (λ _ e.
            let h = upd_here word k nw in
            let word_is = h ∙ (sym ow ∙ ap (λ (y : Open). y.word) (some_is o x e)) in
            (near, word_is, ap (λ w. (frame_of w).kind) h ∙ kind, ap (λ w. (frame_of w).seat) h ∙ seat)) c p
            (λ ne l e. let h = r.owning p c x l e in elsewhere p c x h (λ i. free (ap (λ j. (frame_of (word j)).kind) i ∙ h.2)))
            (λ ne l e. elsewhere p c x (r.owning p c x l e) ne) l e;
      }

  pub framed_home : (o : Open) → own by k ≡ Some o → (frame_of nw).kind ≢ frames.Owned →
      Framed n count (upd word k nw) (upd own by (upd (own by) k None))
  framed_home o has kind =
      let own' : ℕ → ℕ → Option Open = upd own by (upd (own by) k None) in
      record {
        packs = packs_at;
        named = λ p l e. upd_case
            (λ i w. (frame_of w).kind ≡ frames.Owned → ((frame_of w).seat < n) × ((x : Open) × (own' (frame_of w).seat i ≡ Some x))) word k nw
            (λ e. absurd (kind e)) p
            (λ ne e. let h = r.named p l e in (h.0, (h.1.0, gets_other own by k None (frame_of (word p)).seat p ne ∙ h.1.1))) e;
        owning = λ p c x l e. gets_case own by k None (λ c p y. c < n → y ≡ Some x → IsOwnedBy (upd word k nw) p c x)
            (λ _ e. absurd (cc)) c p
            (λ ne l e.
            let h = r.owning p c x l e in
            elsewhere p c x h (λ i. ne (sym (r.owning k by o less has).3 ∙ (ap (λ j. (frame_of (word j)).seat) i ∙ h.3))))
            (λ ne l e. elsewhere p c x (r.owning p c x l e) ne) l e;
      }

module _ (z : Ground) (own : ℕ → ℕ → Option Open) (by k : ℕ) where
  pub owners_claim : (phase : ℕ) (position : ℕ → Position) (o : Open) → Owners z phase position own → MayOwn z phase position by →
      Owners z phase position (upd own by (upd (own by) k (Some o)))
  owners_claim phase position o r may = record {
    each = λ c p x l e. gets_case own by k (Some o) (λ c p y. c < callers z.sizes → y ≡ Some x →
        MayOwn z phase position c) (λ _ _. may) c p (λ _ l e. r.each c p x l e) (λ _ l e. r.each c p x l e) l e;
  }

  pub owners_home : (phase : ℕ) (position : ℕ → Position) → Owners z phase position own → Owners z phase position (upd own by (upd (own by) k None))
  owners_home phase position r = record {
    each = λ c p x l e. gets_case own by k None (λ c p y. c < callers z.sizes → y ≡ Some x →
        MayOwn z phase position c) (λ _ e. absurd (cc)) c p (λ _ l e. r.each c p x l e) (λ _ l e. r.each c p x l e) l e;
  }

  -- the caller that claims, or puts home, has no cell
  module _ (taken : ℕ → Option Taken) (none : taken by ≡ None) where
    not_by : (c : ℕ) (t : Taken) → taken c ≡ Some t → by ≢ c
    not_by c t e i = not_without taken by t none (ap taken i ∙ e)

    -- its frames may change, and its sweep
    pub taken_in_moved : (x : Option Open) (position : ℕ → Position) (sweep sweep' : ℕ → Option Sweep) →
        ((c : ℕ) → by ≢ c → sweep' c ≡ sweep c) →
        TakenIn z position own taken sweep → TakenIn z position (upd own by (upd (own by) k x)) taken sweep'
    taken_in_moved x position sweep sweep' same r = record {
      owned = λ c t l e. let o = r.owned c t l e in (o.0, gets_else own by k x c t.frame (not_by c t e) ∙ o.1, o.2, o.3);
      unswept = λ c t l e. subst (λ y. IsNotSwept y t.frame) (sym (same c (not_by c t e))) (r.unswept c t l e);
    }

    none_here : (a : ℕ) → ¬ IsTakenWord (taken by) a
    none_here a h = subst (λ x. IsTakenWord x a) none h

    pub handed_claim : (filled : ℕ → Type 0) (o : Open) (sweep sweep' : ℕ → Option Sweep) →
        Handed z.sizes (callers z.sizes) filled own taken sweep →
        AreTheFree (frame_span z.sizes k) filled o.free → Handed z.sizes (callers z.sizes) filled (upd own by (upd (own by) k (Some o))) taken sweep'
    handed_claim filled o sweep sweep' r free = record {
      each = λ c p x l e. gets_case own by k (Some o) (λ c p y. c < callers z.sizes → y ≡ Some x →
          AreTheFree (frame_span z.sizes p) (λ a. filled a ⊎ IsTakenWord (taken c) a) x.free)
          (λ _ e. subst (λ (y : Open). AreTheFree (frame_span z.sizes k) (λ a. filled a ⊎ IsTakenWord (taken by) a) y.free) (some_is o x e)
          (λ a. ((λ v. let t = (free a).0 v in (t.0, λ w. at a t.1 w)), (λ t. (free a).1 (t.0, λ w. t.1 (inl w)))))) c p (λ _ l e. r.each c p x l e)
          (λ _ l e. r.each c p x l e) l e;
    }
      where
        at : (a : ℕ) → ¬ filled a → filled a ⊎ IsTakenWord (taken by) a → ⊥
        at a f (inl w) = f w
        at a f (inr w) = none_here a w

    pub handed_home : (filled : ℕ → Type 0) (sweep : ℕ → Option Sweep) → Handed z.sizes (callers z.sizes) filled own taken sweep →
        Handed z.sizes (callers z.sizes) filled (upd own by (upd (own by) k None)) taken sweep
    handed_home filled sweep r = record {
      each = λ c p x l e. gets_case own by k None (λ c p y. c < callers z.sizes → y ≡ Some x →
          AreTheFree (frame_span z.sizes p) (λ a. filled a ⊎ IsTakenWord (taken c) a) x.free)
          (λ _ e. absurd (cc)) c p (λ _ l e. r.each c p x l e) (λ _ l e. r.each c p x l e) l e;
    }

    -- the free words of a page in hand are those that nothing fills
    pub free_in_hand : (filled : ℕ → Type 0) (o : Open) (sweep : ℕ → Option Sweep) → by < callers z.sizes → own by k ≡ Some o →
        Handed z.sizes (callers z.sizes) filled own taken sweep → AreTheFree (frame_span z.sizes k) filled o.free
    free_in_hand filled o sweep less has r = λ a. (
      (λ v. let t = (r.each by k o less has a).0 v in (t.0, λ w. t.1 (inl w))),
      (λ t. (r.each by k o less has a).1 (t.0, λ w. at a t.1 w)),
    )
      where
        at : (a : ℕ) → ¬ filled a → filled a ⊎ IsTakenWord (taken by) a → ⊥
        at a f (inl w) = f w
        at a f (inr w) = none_here a w

module _ (z : Sizes) (filled : ℕ → Type 0) (word : ℕ → ℕ) (page : ℕ → Option FrameView) (r : Housed z filled word page) (k nw : ℕ) where
  pub housed_claim : (frame_of nw).kind ≡ frames.Owned → Housed z filled (upd word k nw) (upd page k None)
  housed_claim kind = record {
    each = λ p l. upd_case2 (λ i w x. i < frame_count z → (frame_of w).kind ≢ frames.Owned →
        (pg : FrameView) × (x ≡ Some pg) × HomePage z i (frame_of w).kind (frame_of w).class filled pg) word page k nw None
        (λ _ ne. absurd (ne kind)) p (λ _ l ne. r.each p l ne) l;
  }

  pub housed_home : (pg : FrameView) → HomePage z k (frame_of nw).kind (frame_of nw).class filled pg →
      Housed z filled (upd word k nw) (upd page k (Some pg))
  housed_home pg h = record {
    each = λ p l. upd_case2 (λ i w x. i < frame_count z → (frame_of w).kind ≢ frames.Owned →
        (pg : FrameView) × (x ≡ Some pg) × HomePage z i (frame_of w).kind (frame_of w).class filled pg) word page k nw (Some pg)
        (λ _ _. (pg, refl, h)) p (λ _ l ne. r.each p l ne) l;
  }

module _ (z : Sizes) (word : ℕ → ℕ) (k nw : ℕ) where
  pub classed_at : Classed z word → ((frame_of nw).class ≢ 0 → InArea z k (frame_of nw).class) → Classed z (upd word k nw)
  classed_at r h = record {
    area = λ p l. upd_case (λ i w. i < frame_count z → (frame_of w).class ≢ 0 →
        InArea z i (frame_of w).class) word k nw (λ _. h) p (λ _ l ne. r.area p l ne) l;
  }

  pub placed_at : (born : ℕ) (shape : ℕ → Shape) → Placed z born shape word → ((n : ℕ) → Lives born shape n →
      LiesIn (words_of (shape n)) (frame_span z k) → IsCellOf (frame_of nw).class (frame_span z k) (words_of (shape n))) →
      Placed z born shape (upd word k nw)
  placed_at born shape r h = record {
    objects = λ n p l near i. upd_case (λ i w. i < frame_count z → LiesIn (words_of (shape n)) (frame_span z i) →
        IsCellOf (frame_of w).class (frame_span z i) (words_of (shape n))) word k nw
        (λ _ i. h n l i) p (λ _ near i. r.objects n p l near i) near i;
  }

-- in a wholly free frame no object lies
pub none_in_whole : (z : Sizes) (side : ℕ → ℕ) (frame : Span) (born : ℕ) (shape : ℕ → Shape) (free : List Span) →
    AreTheFree frame (IsFilled z born shape side) free → free ≡ frame ∷ [] → (n : ℕ) → Lives born shape n →
    LiesIn (words_of (shape n)) frame → ⊥
none_in_whole z side frame born shape free r e n l i =
    let f = first_word (shape n) in let i0 = i.0 in let i1 = i.1 in
    let w : HasWord frame (shape n).address = (omega arith, omega arith) in
    ((r (shape n).address).0 (subst (λ x. Covers x (shape n).address) (sym e) (inl w))).1 (inl (n, l, f))

-- nothing is asked of cells where a frame has no class
pub placed_none : (frame cell : Span) → IsCellOf 0 frame cell
placed_none frame cell = record {
  fixed = λ h. let a = h.0 in absurd (omega arith);
  next_fit = λ h. absurd (omega arith);
  single = λ h. absurd (omega arith);
}
