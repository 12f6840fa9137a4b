-- A birth: what the clauses say of the graph with one object more, which has the words of a cell that was taken.
use Rattle.std.proofs.Common.{◌≡◌, ◌≢◌, ℕ, ◌+◌, ◌<◌, ◌⊎◌, ◌*◌, inl, inr, Bool, true, false, List, Option, Some, None}
use Rattle.std.proofs.Common.{refl, sym, subst, ap}
use Rattle.std.proofs.Common.{◌∙◌, arith}
use Rattle.kn_base.specs.declared.numbers.Span.{Span}
use Rattle.kn_base.specs.declared.kinds.FrameKind.TheVariants as frames
use Rattle.kn_base.specs.declared.kinds.NodeKind.{NodeKind}
use Rattle.kn_base.specs.declared.kinds.NodeKind.TheVariants as nodes
use Rattle.kn_base.specs.Words.{packed_node}
use Rattle.kn_base.specs.Pages.{FrameView}
use Rattle.kn_base.specs.Sizes.{frame_count}
use Rattle.kn_base.specs.Spans.{AreApart, LiesIn}
use Rattle.kn_base.specs.SpanLists.{HasWord, Covers}
use Rattle.kn_base.specs.Functions.{upd}
use Rattle.kn_base.proofs.Updates.{upd_here, upd_else, upd_case, split_at}
use Rattle.kn_layout.specs.declared.layouts.FieldKind.{FieldKind}
use Rattle.kn_layout.specs.declared.layouts.FieldKind.TheVariants.{Ref as of_ref, Int as of_int}
use Rattle.kn_graph.specs.Ground.{Ground, IsGoodGround}
use Rattle.kn_graph.specs.Graph.{Graph, Shape, shapes, pointers, numbers, Lives, words_of, field_kind}
use Rattle.kn_graph.specs.Sound.{IsSound, Alive, WasBorn}
use Rattle.kn_marking.specs.declared.work.Work.{Work}
use Rattle.kn_rule.specs.declared.positions.Position.{Position}
use Rattle.kn_rule.specs.declared.positions.Position.TheVariants.{Calling}
use Rattle.kn_rule.specs.declared.parts.Taken.{Taken}
use Rattle.kn_rule.specs.Decoding.{frame_of}
use Rattle.kn_rule.specs.FrameSpans.{frame_span}
use Rattle.kn_rule.specs.Views.{Open, Sweep}
use Rattle.kn_rule.specs.Requests.{IsCellOf, field_of}
use Rattle.kn_rule.specs.Steps.{callers}
use Rattle.kn_rule.specs.ObjectClauses.{address_of, IsMarked, IsHeadedBy, Headed, Fielded, IsReadFor, IsReadAt, ReadRight, IsCleared, Cleared}
use Rattle.kn_rule.specs.ObjectClauses.{Localed, Globaled, name_word, Named, NamesCondemned, Apart}
use Rattle.kn_rule.specs.MarkClauses.{IsBlackOf, Rests}
use Rattle.kn_rule.specs.FrameClauses.{IsExtraCell, IsFilled, IsTakenWord, AreTheFree, Housed, Handed, Placed, TakenIn}
use Rattle.kn_rule.proofs.FrameSpans.{one_frame}
use Rattle.kn_keep_heap.proofs.Fields.{not_both, first_word, kind_below}

module _ (z : Ground) (g : Graph) (s : IsSound z g) (new : Shape) (kept : new.released ≡ false)
    (clear : (n : ℕ) → Lives g.born (shapes g) n → AreApart (words_of (shapes g n)) (words_of new)) where
  -- the shapes with the new one
  abbrev pub more : ℕ → Shape
  more = upd (shapes g) g.born new

  old : (n : ℕ) → n < g.born → more n ≡ shapes g n
  old n near = upd_else (shapes g) g.born new n (λ e. omega arith)

  here : more g.born ≡ new
  here = upd_here (shapes g) g.born new

  address_kept : (x : Option ℕ) → WasBorn g.born x → address_of more x ≡ address_of (shapes g) x
  address_kept None a = refl
  address_kept (Some n) a = ap (λ (o : Shape). o.address) (old n a)

  born_of : (x : Option ℕ) → Alive g.born (shapes g) x → WasBorn g.born x
  born_of None a = tt
  born_of (Some n) a = a.0

  -- an object that lives afterwards is the new one or lived before
  lived : (n : ℕ) → g.born ≢ n → Lives (g.born + 1) more n → Lives g.born (shapes g) n
  lived n ne l = let a = l.0 in let near : n < g.born = omega arith in (near, sym (ap (λ (o : Shape). o.released) (old n near)) ∙ l.1)

  lives_on : (n : ℕ) → Lives g.born (shapes g) n → Lives (g.born + 1) more n
  lives_on n l = let a = l.0 in (omega arith, ap (λ (o : Shape). o.released) (old n a) ∙ l.1)

  new_lives : Lives (g.born + 1) more g.born
  new_lives = (omega arith, ap (λ (o : Shape). o.released) here ∙ kept)

  each_live : (P : ℕ → Shape → Type 0) → P g.born new → ((n : ℕ) → Lives g.born (shapes g) n → P n (shapes g n)) →
      (n : ℕ) → Lives (g.born + 1) more n → P n (more n)
  each_live P h f n l =
      split_at (λ n. Lives (g.born + 1) more n → P n (more n)) g.born (λ _. subst (P g.born) (sym here) h) n
      (λ ne l. let b = lived n ne l in subst (P n) (sym (old n b.0)) (f n b)) l

  other_first : (n : ℕ) → Lives g.born (shapes g) n → new.address ≢ (shapes g n).address
  other_first n l e =
      not_both (words_of (shapes g n)) (words_of new) (shapes g n).address new.address (clear n l) (first_word (shapes g n)) (first_word new) (sym e)

  pub headed_born : (side body : ℕ → ℕ) (mark : ℕ) → Headed z g.born (shapes g) side body → IsMarked mark →
      IsHeadedBy new (body new.address) → Headed z (g.born + 1) more (upd side new.address mark) body
  headed_born side body mark r m hd = record {
    marks = each_live (λ n o. IsMarked (upd side new.address mark o.address)) (subst (λ x. IsMarked x) (sym (upd_here side new.address mark)) m)
        (λ n l. subst (λ x. IsMarked x) (sym (upd_else side new.address mark (shapes g n).address (other_first n l))) (r.marks n l));
    headers = each_live (λ n o. IsHeadedBy o (body o.address)) hd r.headers;
    blank = λ a w f.
        let ne : new.address ≢ a = λ e. f g.born new_lives (ap (λ (o : Shape). o.address) here ∙ e) in
        upd_else side new.address mark a ne
        ∙ r.blank a w (λ n l e. f n (lives_on n l) (ap (λ (o : Shape). o.address) (old n l.0) ∙ e));
  }

  -- the mark of the new object is black, of the last pause
  pub rests_born : (side set : ℕ → ℕ) (work : ℕ → Work) (epoch : ℕ) → epoch ≡ g.paused → new.condemned ≡ false →
      Rests z g.paused g.born (shapes g) side set work → Rests z g.paused (g.born + 1) more (upd side new.address (4 * epoch + 3)) set work
  rests_born side set work epoch now spared r = record {
    marks = each_live (λ n o. IsBlackOf g.paused o.condemned (upd side new.address (4 * epoch + 3) o.address))
        (record {
          epoch = epoch;
          last = omega (arith, now);
          packs = upd_here side new.address (4 * epoch + 3);
          aged = (λ e. let h : Bool.false ≡ true = sym spared ∙ e in absurd (cc), λ l. absurd (omega (arith, now, l)));
        })
        (λ n l. subst (λ x. IsBlackOf g.paused (shapes g n).condemned x)
        (sym (upd_else side new.address (4 * epoch + 3) (shapes g n).address (other_first n l))) (r.marks n l));
    shares = r.shares;
  }

  module _ (body : ℕ → ℕ) (r : Fielded z g.born (shapes g) (pointers g) (numbers g) body)
      (zero_is : (i : ℕ) → i < new.length → body (new.address + 1 + i) ≡ 0) where
    abbrev null_points : ℕ → ℕ → Option ℕ
    null_points = upd (pointers g) g.born (λ _. None)

    abbrev zero_numbers : ℕ → ℕ → ℕ
    zero_numbers = upd (numbers g) g.born (λ _. 0)

    zero_at : (i : ℕ) (k : FieldKind) → field_kind z (more g.born) i ≡ Some k → body ((more g.born).address + 1 + i) ≡ 0
    zero_at i k kd =
        ap (λ (o : Shape). body (o.address + 1 + i)) here
        ∙ zero_is i (kind_below z new i k (ap (λ (o : Shape). field_kind z o i) (sym here) ∙ kd))

    refs_at : (n i : ℕ) → n < g.born + 1 → (more n).condemned ≡ false → field_kind z (more n) i ≡ Some of_ref →
        body ((more n).address + 1 + i) ≡ address_of more (null_points n i)
    refs_at n i = split_at (λ n. n < g.born + 1 → (more n).condemned ≡ false → field_kind z (more n) i ≡ Some of_ref →
        body ((more n).address + 1 + i) ≡ address_of more (null_points n i)) g.born
        (λ l fr kd. zero_at i of_ref kd ∙ sym (ap (λ (f : ℕ → Option ℕ). address_of more (f i)) (upd_here (pointers g) g.born (λ _. None)))) n
        (λ ne l fr kd.
        let near : n < g.born = omega arith in
        let fr0 : (shapes g n).condemned ≡ false = sym (ap (λ (o : Shape). o.condemned) (old n near)) ∙ fr in
        let was = address_kept (pointers g n i) (born_of (pointers g n i) ((s.fields n near).values fr0 i)) in
        ap (λ (o : Shape). body (o.address + 1 + i)) (old n near)
        ∙ (r.refs n i near fr0 (ap (λ (o : Shape). field_kind z o i) (sym (old n near)) ∙ kd)
        ∙ (sym was ∙ sym (ap (λ (f : ℕ → Option ℕ). address_of more (f i)) (upd_else (pointers g) g.born (λ _. None) n ne)))))

    ints_at : (n i : ℕ) → n < g.born + 1 → (more n).condemned ≡ false → field_kind z (more n) i ≡ Some of_int →
        body ((more n).address + 1 + i) ≡ zero_numbers n i
    ints_at n i = split_at (λ n. n < g.born + 1 → (more n).condemned ≡ false → field_kind z (more n) i ≡ Some of_int →
        body ((more n).address + 1 + i) ≡ zero_numbers n i) g.born
        (λ l fr kd. zero_at i of_int kd ∙ sym (ap (λ (f : ℕ → ℕ). f i) (upd_here (numbers g) g.born (λ _. 0)))) n
        (λ ne l fr kd.
        let near : n < g.born = omega arith in
        let fr0 : (shapes g n).condemned ≡ false = sym (ap (λ (o : Shape). o.condemned) (old n near)) ∙ fr in
        ap (λ (o : Shape). body (o.address + 1 + i)) (old n near)
        ∙ (r.ints n i near fr0 (ap (λ (o : Shape). field_kind z o i) (sym (old n near)) ∙ kd)
        ∙ sym (ap (λ (f : ℕ → ℕ). f i) (upd_else (numbers g) g.born (λ _. 0) n ne))))

    pub fielded_born : Fielded z (g.born + 1) more null_points zero_numbers body
    fielded_born = record { refs = refs_at; ints = ints_at }

  pub localed_born : (word : ℕ → ℕ → ℕ) (position : ℕ → Position) (view : ℕ → ℕ → ℕ) →
      Localed z (shapes g) g.local word position view →
      Localed z more g.local word position view
  localed_born word position view r = record {
    words = λ c i l m q. r.words c i l m q ∙ sym (address_kept (g.local c i) (born_of (g.local c i) (s.roots.locals c i)));
    views = λ c i l m. r.views c i l m ∙ sym (address_kept (g.local c i) (born_of (g.local c i) (s.roots.locals c i)));
    due = r.due;
  }

  pub globaled_born : (word : ℕ → ℕ) → Globaled z (shapes g) g.global word → Globaled z more g.global word
  globaled_born word r = record { words = λ i l. r.words i l ∙ sym (address_kept (g.global i) (born_of (g.global i) (s.roots.globals i))) }

  name_kept : (kind : NodeKind) (x : Option ℕ) (count : ℕ) → WasBorn g.born x → name_word more kind x count ≡ name_word (shapes g) kind x count
  name_kept kind None count b = refl
  name_kept kind (Some n) count b =
      ap (λ (o : Shape). packed_node (record { kind = kind; count = count; addr = o.address })) (old n b)

  condemned_kept : (x : Option ℕ) → WasBorn g.born x → NamesCondemned (shapes g) x → NamesCondemned more x
  condemned_kept None b c = c
  condemned_kept (Some n) b c = ap (λ (o : Shape). o.condemned) (old n b) ∙ c

  pub named_born : (word : ℕ → ℕ) → Named z.sizes (shapes g) g.stable g.weak g.back g.count word →
      Named z.sizes more g.stable g.weak g.back g.count word
  named_born word r = record {
    stables = λ h l. r.stables h l ∙ sym (name_kept nodes.Stable (g.stable h) 0 (born_of (g.stable h) (s.roots.stables h)));
    weaks = λ w l ne. r.weaks w l ne ∙ sym (name_kept nodes.Weak (g.weak w) 0 (s.names.weaks w));
    backs = λ b l ne. r.backs b l ne ∙ sym (name_kept nodes.Back (g.back b) (g.count b) (s.names.backs b));
    cleared_weaks = λ w l e. condemned_kept (g.weak w) (s.names.weaks w) (r.cleared_weaks w l e);
    cleared_backs = λ b l e. condemned_kept (g.back b) (s.names.backs b) (r.cleared_backs b l e);
  }

  read_for : (c : ℕ) (t : Option (ℕ × ℕ × FieldKind)) (h : Option ℕ) → IsReadFor (shapes g) (g.local c) t h → IsReadFor more (g.local c) t h
  read_for c None h r = tt
  read_for c (Some t) None r = tt
  read_for c (Some t) (Some h) r = λ n e.
      let a = r n e in
      let al = subst (λ x. Alive g.born (shapes g) x) e (s.roots.locals c t.0) in
      (a.0 ∙ ap (λ (o : Shape). o.layout) (sym (old n al.0)), a.1 ∙ ap (λ (o : Shape). o.length) (sym (old n al.0)))

  read_on : (c : ℕ) (p : Position) (h : Option ℕ) → IsReadAt (shapes g) (g.local c) p h → IsReadAt more (g.local c) p h
  read_on c (Calling call) h r = read_for c (field_of call) h r
  read_on c _ h r = tt

  pub read_born : (position : ℕ → Position) (header : ℕ → Option ℕ) → ReadRight z (shapes g) g.local position header →
      ReadRight z more g.local position header
  read_born position header r = record { each = λ c l. read_on c (position c) (header c) (r.each c l) }

  module _ (side : ℕ → ℕ) (mark : ℕ) (marked : mark ≢ 0) (no_extra : (x : ℕ) → IsExtraCell z.sizes x → new.address ≢ x) where
    abbrev filled : ℕ → Type 0
    filled = IsFilled z.sizes g.born (shapes g) side

    -- the words that are filled afterwards
    abbrev pub filled_more : ℕ → Type 0
    filled_more = IsFilled z.sizes (g.born + 1) more (upd side new.address mark)

    marked_on : (x : ℕ) → side x ≢ 0 → upd side new.address mark x ≢ 0
    marked_on x ne = upd_case (λ i w. side i ≢ 0 → w ≢ 0) side new.address mark (λ _. marked) x (λ _ n. n) ne

    fills : (a : ℕ) → filled a ⊎ HasWord (words_of new) a → filled_more a
    fills a (inl (inl x)) = inl (x.0, lives_on x.0 x.1, subst (λ (o : Shape). HasWord (words_of o) a) (sym (old x.0 x.1.0)) x.2)
    fills a (inl (inr x)) = inr (x.0, x.1, marked_on x.0 x.2, x.3)
    fills a (inr x) = inl (g.born, new_lives, subst (λ (o : Shape). HasWord (words_of o) a) (sym here) x)

    filled_from : (a : ℕ) → filled_more a → filled a ⊎ HasWord (words_of new) a
    filled_from a (inl x) =
        each_live (λ n o. HasWord (words_of o) a → filled a ⊎ HasWord (words_of new) a) (λ h. inr h) (λ n l h. inl (inl (n, l, h))) x.0 x.1 x.2
    filled_from a (inr x) = inl (inr (x.0, x.1, (λ e. x.2 (upd_else side new.address mark x.0 (no_extra x.0 x.1) ∙ e)), x.3))

    free_on : (f : Span) (free : List Span) → ((a : ℕ) → HasWord f a → ¬ HasWord (words_of new) a) → AreTheFree f filled free →
        AreTheFree f filled_more free
    free_on f free out r = λ a. (
      (λ q. let t = (r a).0 q in (t.0, λ x. by a t.0 q (filled_from a x))),
      (λ t. (r a).1 (t.0, λ x. t.1 (fills a (inl x)))),
    )
      where
        by : (a : ℕ) → HasWord f a → Covers free a → (filled a ⊎ HasWord (words_of new) a) → ⊥
        by a h q (inl x) = ((r a).0 q).1 x
        by a h q (inr x) = out a h x

    -- where a caller had the cell
    module _ (taken : ℕ → Option Taken) (by : ℕ) (t : Taken) (has : taken by ≡ Some t) (cell : t.span ≡ words_of new) where
      other_cell : (c : ℕ) (u : Taken) → upd taken by None c ≡ Some u → (by ≢ c) × (taken c ≡ Some u)
      other_cell c u e = upd_case (λ i x. x ≡ Some u → (by ≢ i) × (taken i ≡ Some u)) taken by None (λ e. absurd (cc)) c (λ ne e. (ne, e)) e

      pub apart_born : (position : ℕ → Position) → by < callers z.sizes → Apart z g.born (shapes g) position taken →
          Apart z (g.born + 1) more position (upd taken by None)
      apart_born position less r = record {
        objects = λ c n u l e v.
            let o = other_cell c u e in
            each_live (λ n o. AreApart (words_of o) u.span) (subst (λ (x : Span). AreApart x u.span) cell (r.others by c t u less l o.0 has o.1))
            (λ n v. r.objects c n u l o.1 v) n v;
        others = λ c d u v lc ld ne ec ed. r.others c d u v lc ld ne (other_cell c u ec).1 (other_cell d v ed).1;
        asked = λ c u l e. r.asked c u l (other_cell c u e).1;
        inside = λ c u l e. r.inside c u l (other_cell c u e).1;
      }

      none_cleared : (body local : ℕ → ℕ) (p : Position) → IsCleared z body local p None
      none_cleared body local (Calling call) = tt
      none_cleared body local _ = tt

      pub cleared_born : (body : ℕ → ℕ) (local : ℕ → ℕ → ℕ) (position : ℕ → Position) → Cleared z body local position taken →
          Cleared z body local position (upd taken by None)
      cleared_born body local position r = record {
        each = λ c l. upd_case (λ k x. k < callers z.sizes → IsCleared z body (local k) (position k) x) taken by None
            (λ _. none_cleared body (local by) (position by)) c (λ _ l. r.each c l) l;
      }

      pub taken_in_born : (position : ℕ → Position) (own : ℕ → ℕ → Option Open) (sweep : ℕ → Option Sweep) →
          TakenIn z position own taken sweep →
          TakenIn z position own (upd taken by None) sweep
      taken_in_born position own sweep r = record {
        owned = λ c u l e. r.owned c u l (other_cell c u e).1;
        unswept = λ c u l e. r.unswept c u l (other_cell c u e).1;
      }

      module _ (good : IsGoodGround z) (k_near : t.frame < frame_count z.sizes) (inside : LiesIn t.span (frame_span z.sizes t.frame)) where
        in_frame : (a : ℕ) → HasWord (words_of new) a → HasWord (frame_span z.sizes t.frame) a
        in_frame a h =
            let g : HasWord t.span a = subst (λ (x : Span). HasWord x a) (sym cell) h in
            let g0 = g.0 in let g1 = g.1 in let i0 = inside.0 in let i1 = inside.1 in (omega arith, omega arith)

        outside : (p a : ℕ) → p < frame_count z.sizes → t.frame ≢ p → HasWord (frame_span z.sizes p) a → ¬ HasWord (words_of new) a
        outside p a l ne h x = ne (one_frame z.sizes good.sizes t.frame p a k_near l (in_frame a x) h)

        pub housed_born : (word : ℕ → ℕ) (page : ℕ → Option FrameView) → Housed z.sizes filled word page →
            ((p : ℕ) → p < frame_count z.sizes → (frame_of (word p)).kind ≢ frames.Owned → t.frame ≢ p) → Housed z.sizes filled_more word page
        housed_born word page r away = record {
          each = λ p l ne. let h = r.each p l ne in let q = h.2 in (
            h.0,
            h.1,
            record {
              frame_is = q.frame_is;
              area_is = q.area_is;
              free_is = free_on (frame_span z.sizes p) h.0.free (λ a. outside p a l (away p l ne)) q.free_is;
              class_is = q.class_is;
              vacant = q.vacant;
              ready = q.ready;
              empty = q.empty;
            },
          );
        }

        pub placed_born : (word : ℕ → ℕ) → Placed z.sizes g.born (shapes g) word →
            IsCellOf (frame_of (word t.frame)).class (frame_span z.sizes t.frame) (words_of new) → Placed z.sizes (g.born + 1) more word
        placed_born word r h = record {
          objects = λ n p l near i. each_live
              (λ n o. LiesIn (words_of o) (frame_span z.sizes p) → IsCellOf (frame_of (word p)).class (frame_span z.sizes p) (words_of o))
              (λ i.
              let i0 = i.0 in let i1 = i.1 in let f = first_word new in
              let same = one_frame z.sizes good.sizes t.frame p new.address k_near near (in_frame new.address f) (omega arith, omega arith) in
              subst (λ p. IsCellOf (frame_of (word p)).class (frame_span z.sizes p) (words_of new)) same h)
              (λ n l i. r.objects n p l near i) n l i;
        }

        -- the owner's free words stay, since the object fills what its cell did
        mine : (a : ℕ) → ¬ (filled a ⊎ IsTakenWord (taken by) a) → filled_more a ⊎ IsTakenWord None a → ⊥
        mine a f (inl x) = at (filled_from a x)
          where
            at : filled a ⊎ HasWord (words_of new) a → ⊥
            at (inl y) = f (inl y)
            at (inr y) = f (inr (subst (λ x. IsTakenWord x a) (sym has) (subst (λ (x : Span). HasWord x a) (sym cell) y)))
        mine a f (inr x) = x

        was : (a : ℕ) → filled a ⊎ IsTakenWord (taken by) a → filled_more a ⊎ IsTakenWord None a
        was a (inl x) = inl (fills a (inl x))
        was a (inr x) = inl (fills a (inr (subst (λ (y : Span). HasWord y a) cell (subst (λ y. IsTakenWord y a) has x))))

        theirs : (a : ℕ) (x : Option Taken) → ¬ (filled a ⊎ IsTakenWord x a) → ¬ HasWord (words_of new) a →
            filled_more a ⊎ IsTakenWord x a → ⊥
        theirs a x f out (inr y) = f (inr y)
        theirs a x f out (inl y) = at (filled_from a y)
          where
            at : filled a ⊎ HasWord (words_of new) a → ⊥
            at (inl w) = f (inl w)
            at (inr w) = out w

        still : (a : ℕ) (x : Option Taken) → filled a ⊎ IsTakenWord x a → filled_more a ⊎ IsTakenWord x a
        still a x (inl y) = inl (fills a (inl y))
        still a x (inr y) = inr y

        pub handed_born : (own : ℕ → ℕ → Option Open) (sweep : ℕ → Option Sweep) → Handed z.sizes (callers z.sizes) filled own taken sweep →
            ((c p : ℕ) (o : Open) → c < callers z.sizes → by ≢ c → own c p ≡ Some o → (p < frame_count z.sizes) × (t.frame ≢ p)) →
            Handed z.sizes (callers z.sizes) filled_more own (upd taken by None) sweep
        handed_born own sweep r away = record {
          each = λ c p o l e. upd_case
              (λ i x. i < callers z.sizes → own i p ≡ Some o → AreTheFree (frame_span z.sizes p) (λ a. filled_more a ⊎ IsTakenWord x a) o.free)
              taken by None
              (λ l e a. let q = r.each by p o l e a in
              ((λ v. let t = q.0 v in (t.0, λ x. mine a t.1 x)), (λ t. q.1 (t.0, λ x. t.1 (was a x))))) c
              (λ ne l e a.
              let q = r.each c p o l e a in
              let aw = away c p o l ne e in (
                (λ v. let t = q.0 v in (t.0, λ x. theirs a (taken c) t.1 (outside p a aw.0 aw.1 t.0) x)),
                (λ t. q.1 (t.0, λ x. t.1 (still a (taken c) x))),
              )) l e;
        }
