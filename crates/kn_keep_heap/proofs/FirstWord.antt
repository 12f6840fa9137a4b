-- The law of a step that clears the first word of a cell.
use Rattle.std.proofs.Common.{◌≡◌, ◌≢◌, ℕ, ◌+◌, ◌<◌, ◌≤◌, ◌⊎◌, ◌↔◌, inl, inr, cond, eqb, Bool, [], length, Option}
use Rattle.std.proofs.Common.{Some, None, slice_set, refl, sym}
use Rattle.std.proofs.Common.{subst, ap}
use Rattle.std.proofs.Common.{◌∙◌, arith, length-set}
use Rattle.kn_base.specs.declared.numbers.Span.{Span}
use Rattle.kn_base.specs.declared.places.Place.TheVariants.{Phase, Frame, Side, Body}
use Rattle.kn_base.specs.declared.classes.TheConstants.{NEXT_FIT_CLASS}
use Rattle.kn_base.specs.Sizes.{frame_count}
use Rattle.kn_base.specs.Spans.{AreApart, LiesIn}
use Rattle.kn_base.specs.SpanLists.{HasWord, Covers, without}
use Rattle.kn_base.specs.Functions.{upd}
use Rattle.kn_base.proofs.Updates.{upd_here, upd_else, upd_case}
use Rattle.kn_graph.specs.declared.calls.Call.{Call}
use Rattle.kn_graph.specs.Ground.{Ground, IsGoodGround}
use Rattle.kn_graph.specs.Graph.{Graph, shapes, Lives, words_of}
use Rattle.kn_rule.specs.declared.steps.Kind.TheVariants.{K12}
use Rattle.kn_rule.specs.declared.steps.Action.TheVariants.{Stores}
use Rattle.kn_rule.specs.declared.positions.Position.{Position}
use Rattle.kn_rule.specs.declared.positions.Position.TheVariants.{Calling}
use Rattle.kn_rule.specs.declared.parts.Taken.{Taken}
use Rattle.kn_rule.specs.Decoding.{frame_of}
use Rattle.kn_rule.specs.FrameSpans.{frame_span, frame_at}
use Rattle.kn_rule.specs.Places.{put}
use Rattle.kn_rule.specs.Views.{View, Views, State, Open, views_of}
use Rattle.kn_rule.specs.Requests.{words_asked, class_asked, cleared_word, IsCellOf}
use Rattle.kn_rule.specs.Steps.{Found, does, quietly, callers}
use Rattle.kn_rule.specs.Outcomes.{clear_at, clear_first, cell_begun, open_without}
use Rattle.kn_rule.specs.Allowed.{MayClearFor, MayTake}
use Rattle.kn_rule.specs.Moves.{stepped_by}
use Rattle.kn_rule.specs.ObjectClauses.{IsAskedBy, Apart}
use Rattle.kn_rule.specs.FrameClauses.{IsFilled, IsTakenWord, AreTheFree, Handed, IsClassAsked, IsNotSwept, TakenIn}
use Rattle.kn_rule.specs.Rule.{Rule, RuleOf}
use Rattle.kn_rule.proofs.FrameSpans.{one_frame, frame_at_is}
use Rattle.kn_keep_heap.proofs.Changed.{some_is}
use Rattle.kn_keep_heap.specs.Answered.{staying}
use Rattle.kn_keep_heap.proofs.Parts.{views_moved, local_same, own_put, taken_put, position_same, header_same, log_same}
use Rattle.kn_keep_heap.proofs.Phases.{phased_out}
use Rattle.kn_keep_heap.proofs.ReadLaws.{calls_out, few, snd}
use Rattle.kn_base.proofs.Covers.{covers-without}
use Rattle.kn_keep_heap.proofs.FreeSpans.{apart_if}
use Rattle.kn_keep_heap.proofs.CellWords.{headed_beside, fielded_beside, cleared_more}
use Rattle.kn_keep_heap.proofs.Owns.{gets_case, gets_hit, gets_else, framed_same, owners_same}
use Rattle.kn_keep_heap.proofs.NextWord.{request_two, cleared_next}

-- a cell that is asked for has a word
pub asked_positive : (z : Ground) (p : Position) (t : Taken) → IsAskedBy z p t → 0 < t.span.len
asked_positive z (Calling call) t a = let h = request_two z call t.span.len a in omega arith
asked_positive z _ t a = absurd a

turned : (x y : Span) → AreApart x y → AreApart y x
turned x y (inl h) = inr h
turned x y (inr h) = inl h

module _ (z : Ground) (good : IsGoodGround z) (s : State) (by : ℕ) (less : by < z.sizes.threads) (g : Graph)
    (rule : RuleOf z g s.word s.page (views_of s.caller) s.history) (f : Found) where
  module _ (here : ℕ → Bool) (call : Call) (b w : ℕ) (is : (s.caller by).position ≡ Calling call) (none : (s.caller by).taken ≡ None)
      (may : MayTake z by (s.caller by) here call b w) where
    abbrev V : Views
    V = views_of s.caller

    abbrev cell : Span
    cell = record { start = b; len = may.words }

    abbrev filled : ℕ → Type 0
    filled = IsFilled z.sizes g.born (shapes g) (λ a. s.word (Side a))

    abbrev frame : Span
    frame = frame_span z.sizes may.frame

    abbrev new_open : Open
    new_open = record {
      word = may.hold.word;
      free = without cell may.hold.free;
      cursor = cond (eqb (class_asked z call) NEXT_FIT_CLASS) (b + may.words) (frame_span z.sizes may.frame).start;
    }

    abbrev new_taken : Taken
    new_taken = record { frame = may.frame; span = cell; cleared = 1 }

    n : by < callers z.sizes
    n = few z s by less g rule

    two : 2 ≤ may.words
    two = request_two z call may.words may.is_request

    free_words : AreTheFree frame (λ a. filled a ⊎ IsTakenWord (V.taken by) a) may.hold.free
    free_words = rule.stands.handed.each by may.frame may.hold n may.owned

    in_frame : (a : ℕ) → HasWord cell a → HasWord frame a
    in_frame a h = let i = may.inside in let i0 = i.0 in let i1 = i.1 in let h0 = h.0 in let h1 = h.1 in (omega arith, omega arith)

    apart_objects : (m : ℕ) → Lives g.born (shapes g) m → AreApart (words_of (shapes g m)) cell
    apart_objects m l =
        apart_if (words_of (shapes g m)) cell (omega arith) (let t = two in omega arith)
        (λ a x y. ((free_words a).0 (may.free a y)).1 (inl (inl (m, l, x))))

    mine : (frame_of (s.word (Frame may.frame))).seat ≡ by
    mine = (rule.stands.framed.owning may.frame by may.hold n may.owned).3

    apart_cell : (d : ℕ) (u : Taken) → d < callers z.sizes → by ≢ d → V.taken d ≡ Some u → AreApart u.span cell
    apart_cell d u l ne e =
        let i = rule.stands.apart.inside d u l e in
        let o = rule.stands.taken_in.owned d u l e in
        let theirs = (rule.stands.framed.owning u.frame d o.0 l o.1).3 in
        let long : 0 < u.span.len = asked_positive z (V.position d) u (rule.stands.apart.asked d u l e) in
        apart_if u.span cell long (let t = two in omega arith) (λ a x y.
        let there : HasWord (frame_span z.sizes u.frame) a =
        (let l1 = i.1 in let l10 = l1.0 in let l11 = l1.1 in let x0 = x.0 in let x1 = x.1 in (omega arith, omega arith)) in
        let q = one_frame z.sizes good.sizes may.frame u.frame a may.near i.0 (in_frame a y) there in
        absurd (ne (sym mine ∙ (ap (λ p. (frame_of (s.word (Frame p))).seat) q ∙ theirs))))

    new_apart : Apart z g.born (shapes g) V.position (upd V.taken by (Some new_taken))
    new_apart = record {
      objects = λ c m t l e v. upd_case (λ i x. x ≡ Some t → i < callers z.sizes → AreApart (words_of (shapes g m)) t.span) V.taken by
          (Some new_taken)
          (λ e _. subst (λ (y : Taken). AreApart (words_of (shapes g m)) y.span) (some_is new_taken t e) (apart_objects m v)) c
          (λ _ e l. rule.stands.apart.objects c m t l e v) e l;
      others = λ c d t u lc ld ne ec ed.
          upd_case (λ i x. x ≡ Some t → i < callers z.sizes → i ≢ d → AreApart t.span u.span) V.taken by (Some new_taken)
          (λ e _ nd. subst (λ (y : Taken). AreApart y.span u.span) (some_is new_taken t e)
          (turned u.span cell (apart_cell d u ld nd (sym (upd_else V.taken by (Some new_taken) d nd) ∙ ed)))) c
          (λ nc e l nd. upd_case (λ i x. x ≡ Some u → i < callers z.sizes → c ≢ i → AreApart t.span u.span) V.taken by (Some new_taken)
          (λ e' _ _. subst (λ (y : Taken). AreApart t.span y.span) (some_is new_taken u e') (apart_cell c t l nc e)) d
          (λ _ e' l' nn. rule.stands.apart.others c d t u l l' nn e e') ed ld nd) ec lc ne;
      asked = λ c t l e. upd_case (λ i x. x ≡ Some t → i < callers z.sizes → IsAskedBy z (V.position i) t) V.taken by (Some new_taken)
          (λ e _. subst (λ (y : Taken). IsAskedBy z (V.position by) y) (some_is new_taken t e)
          (subst (λ p. IsAskedBy z p new_taken) (sym is) may.is_request)) c (λ _ e l. rule.stands.apart.asked c t l e) e l;
      inside = λ c t l e.
          upd_case (λ i x. x ≡ Some t → i < callers z.sizes →
          (t.frame < frame_count z.sizes) × LiesIn t.span (frame_span z.sizes t.frame) × (t.cleared ≤ t.span.len)) V.taken by (Some new_taken)
          (λ e _. subst (λ (y : Taken). (y.frame < frame_count z.sizes) × LiesIn y.span (frame_span z.sizes y.frame) × (y.cleared ≤ y.span.len))
          (some_is new_taken t e) (may.near, may.inside, (let q = two in omega arith))) c
          (λ _ e l. rule.stands.apart.inside c t l e) e l;
    }

    not_mine : (a : ℕ) → HasWord cell a → (j : ℕ) → j < frame_count z.sizes → may.frame ≢ j → HasWord (frame_span z.sizes j) a → ⊥
    not_mine a h j l ne x = ne (one_frame z.sizes good.sizes may.frame j a may.near l (in_frame a h) x)

    none_before : (a : ℕ) → ¬ IsTakenWord (V.taken by) a
    none_before a h = subst (λ x. IsTakenWord x a) none h

    -- a word of the cell is free no more, and each other word as it was
    at_free : (a : ℕ) → HasWord frame a → Covers may.hold.free a → ¬ HasWord cell a → filled a ⊎ HasWord cell a → ⊥
    at_free a h cov out (inl x) = ((free_words a).0 cov).1 (inl x)
    at_free a h cov out (inr x) = out x

    was_free : (a : ℕ) → ¬ (filled a ⊎ HasWord cell a) → filled a ⊎ IsTakenWord (V.taken by) a → ⊥
    was_free a out (inl x) = out (inl x)
    was_free a out (inr x) = none_before a x

    same_words : (p a : ℕ) → p < frame_count z.sizes → may.frame ≢ p → (o : Open) →
        (Covers o.free a ↔ (HasWord (frame_span z.sizes p) a × (¬ (filled a ⊎ IsTakenWord (V.taken by) a)))) →
        Covers o.free a ↔ (HasWord (frame_span z.sizes p) a × (¬ (filled a ⊎ HasWord cell a)))
    same_words p a l ne o old = ((λ q. ((old.0 q).0, λ bad. fwd q bad)), (λ t. old.1 (t.0, λ bad. was_free a t.1 bad)))
      where
        fwd : Covers o.free a → filled a ⊎ HasWord cell a → ⊥
        fwd q (inl y) = (old.0 q).1 (inl y)
        fwd q (inr y) = not_mine a y p l ne (old.0 q).0

    other_frame : (c p : ℕ) (o : Open) → may.frame ≢ p → c < callers z.sizes → V.own c p ≡ Some o →
        AreTheFree (frame_span z.sizes p) (λ a. filled a ⊎ IsTakenWord (upd V.taken by (Some new_taken) c) a) o.free
    other_frame c p o ne l e = λ a.
        upd_case (λ i x. V.own i p ≡ Some o → i < callers z.sizes →
        Covers o.free a ↔ (HasWord (frame_span z.sizes p) a × (¬ (filled a ⊎ IsTakenWord x a)))) V.taken by (Some new_taken)
        (λ e l. same_words p a (rule.stands.framed.owning p by o l e).0 ne o (rule.stands.handed.each by p o l e a)) c
        (λ _ e l. rule.stands.handed.each c p o l e a) e l

    this_frame : (o : Open) → Option.Some new_open ≡ Some o → (a : ℕ) →
        Covers o.free a ↔ (HasWord frame a × (¬ (filled a ⊎ HasWord cell a)))
    this_frame o e a =
        subst (λ (y : Open). Covers y.free a ↔ (HasWord frame a × (¬ (filled a ⊎ HasWord cell a)))) (some_is new_open o e) (
          (λ q. let left = (covers-without cell may.hold.free a).0 q in let h = ((free_words a).0 left.0).0 in (h, λ bad. at_free a h left.0 left.1 bad)),
          (λ t. (covers-without cell may.hold.free a).1 ((free_words a).1 (t.0, λ bad. was_free a t.1 bad), λ q. t.1 (inr q))),
        )

    handed_new : Handed z.sizes (callers z.sizes) filled (upd V.own by (upd (V.own by) may.frame (Some new_open))) (upd V.taken by (Some new_taken))
        (λ c. (V.rest c).sweep)
    handed_new = record {
      each = λ c p o l e.
          gets_case V.own by may.frame (Some new_open)
          (λ c p x. c < callers z.sizes → x ≡ Some o →
          AreTheFree (frame_span z.sizes p) (λ a. filled a ⊎ IsTakenWord (upd V.taken by (Some new_taken) c) a) o.free)
          (λ _ e a. subst (λ x. Covers o.free a ↔ (HasWord frame a × (¬ (filled a ⊎ IsTakenWord x a)))) (sym (upd_here V.taken by (Some new_taken)))
          (this_frame o e a))
          c p
          (λ ne l e a. subst (λ x. Covers o.free a ↔ (HasWord (frame_span z.sizes p) a × (¬ (filled a ⊎ IsTakenWord x a))))
          (sym (upd_else V.taken by (Some new_taken) c ne)) (rule.stands.handed.each c p o l e a))
          (λ ne l e. other_frame c p o ne l e)
          l e;
    }

    abbrev IsHeldIn : ℕ → Taken → Type 0
    IsHeldIn c t =
        (o : Open) × (upd V.own by (upd (V.own by) may.frame (Some new_open)) c t.frame ≡ Some o) × IsClassAsked z (V.position c)
        (frame_of o.word).class
        × IsCellOf (frame_of o.word).class (frame_span z.sizes t.frame) t.span

    class_mine : IsClassAsked z (V.position by) (frame_of may.hold.word).class
    class_mine = subst (λ p. IsClassAsked z p (frame_of may.hold.word).class) (sym is) may.class

    taken_in_new : TakenIn z V.position (upd V.own by (upd (V.own by) may.frame (Some new_open))) (upd V.taken by (Some new_taken))
        (λ c. (V.rest c).sweep)
    taken_in_new = record {
      owned = λ c t l e.
          upd_case (λ i x. x ≡ Some t → i < callers z.sizes → IsHeldIn i t) V.taken by (Some new_taken)
          (λ e _. subst (λ (y : Taken). IsHeldIn by y) (some_is new_taken t e)
          (new_open, gets_hit V.own by may.frame (Some new_open), class_mine, subst (λ q. IsCellOf q frame cell) (sym may.class) may.placed)) c
          (λ ne e l. let o = rule.stands.taken_in.owned c t l e in
          (o.0, gets_else V.own by may.frame (Some new_open) c t.frame ne ∙ o.1, o.2, o.3)) e l;
      unswept = λ c t l e.
          upd_case (λ i x. x ≡ Some t → i < callers z.sizes → IsNotSwept (V.rest i).sweep t.frame) V.taken by (Some new_taken)
          (λ _ _. subst (λ x. IsNotSwept x t.frame) (sym may.none_swept) tt) c (λ _ e l. rule.stands.taken_in.unswept c t l e) e l;
    }

    abbrev first_view : View
    first_view = record (s.caller by) { taken = Some new_taken; owned = slice_set (s.caller by).owned may.frame (Some new_open) }

    first_kept : Rule z (stepped_by s by (does K12 (Body b) (Stores w)) f (record { view = first_view; says = [] }))
    first_kept =
        let v : View = first_view in
        let body : ℕ → ℕ = λ a. s.word (Body a) in
        let side : ℕ → ℕ = λ a. s.word (Side a) in
        let S = snd z s by less g rule in
        let wide : may.frame < length (s.caller by).owned = let e = rule.formed.frames by n in let m = may.near in omega arith in
        let in_cell : HasWord cell b = let t = two in (omega arith, omega arith) in
        let first_cleared : upd body b w (b + 0) ≡ cleared_word z (V.local by) call 0 =
        let e : b ≡ b + 0 = omega arith in
        subst (λ c. upd body b w c ≡ cleared_word z (V.local by) call 0) e (upd_here body b w ∙ may.value) in
        let cleared_here : (i : ℕ) → i < 1 → upd body b w (b + i) ≡ cleared_word z (V.local by) call i =
        λ i m. let e : 0 ≡ i = omega arith in subst (λ i. upd body b w (b + i) ≡ cleared_word z (V.local by) call i) e first_cleared in (
          g,
          subst (λ W. RuleOf z g (put s.word (Body b) w) s.page W s.history)
              (sym (views_moved s.caller by v (λ t. record (staying (s.caller by)) {
                width = (
                  length (s.caller by).locals,
                  length-set (s.caller by).owned may.frame (Some new_open) t,
                );
              }) (position_same s.caller by v refl) (local_same s.caller by v refl)
              (header_same s.caller by v refl) (own_put s.caller by v may.frame (Some new_open) wide refl) (taken_put s.caller by v)
              (log_same s.caller by v refl)))
              (record {
                told = rule.told;
                formed = rule.formed;
                read_right = rule.read_right;
                localed = rule.localed;
                stands = record {
                  timed = rule.stands.timed;
                  headed = headed_beside z g S b w cell in_cell apart_objects body side rule.stands.headed;
                  fielded = fielded_beside z g S b w cell in_cell apart_objects body rule.stands.fielded;
                  cleared = cleared_more z body V.local V.position V.taken rule.stands.cleared by b w new_taken call is
                      (λ c u l ne e. ((rule.stands.apart.inside c u l e).2, apart_cell c u l ne e)) in_cell cleared_here;
                  globaled = rule.stands.globaled;
                  named = rule.stands.named;
                  apart = new_apart;
                  stated = rule.stands.stated;
                  at_end = rule.stands.at_end;
                  polling = rule.stands.polling;
                  owners = owners_same V.own by may.frame may.hold new_open may.owned refl z (s.word Phase) V.position rule.stands.owners;
                  stopped = rule.stands.stopped;
                  wanted = rule.stands.wanted;
                  working = rule.stands.working;
                  framed = framed_same V.own by may.frame may.hold new_open may.owned refl (callers z.sizes) (frame_count z.sizes)
                      (λ p. s.word (Frame p)) rule.stands.framed;
                  housed = rule.stands.housed;
                  handed = handed_new;
                  classed = rule.stands.classed;
                  placed = rule.stands.placed;
                  taken_in = taken_in_new;
                };
                phased = phased_out z g.paused g.born (shapes g) (put s.word (Body b) w) (λ c. (V.rest c).work)
                    (calls_out z s by less g rule call is) (rule.phased.at_rest (calls_out z s by less g rule call is));
              }),
        )

    first_word : Rule z (stepped_by s by (does K12 (Body b) (Stores w)) f (clear_at z by (s.caller by) (Body b) (Stores w) f
        (Calling call) None))
    first_word =
        let t = two in
        let fr : frame_at z.sizes b ≡ may.frame = frame_at_is z.sizes good.sizes b may.frame may.near (in_frame b (omega arith, omega arith)) in
        let begun = cell_begun z by (s.caller by) (Body b) (Stores w) f in
        let first = clear_first z by (s.caller by) (Body b) (Stores w) f in
        let left = open_without z by (s.caller by) (Body b) (Stores w) f may.frame (class_asked z call) cell in
        let path : first (frame_at z.sizes b) (class_asked z call) (begun (words_asked z call)) ≡ first_view =
        (λ t. first (fr t) (class_asked z call) (begun (may.is_request t)))
        ∙ ap (λ x. record (s.caller by) { taken = Some new_taken; owned = slice_set (s.caller by).owned may.frame (left x) }) may.owned in
        subst (λ v. Rule z (stepped_by s by (does K12 (Body b) (Stores w)) f (quietly v))) (sym path) first_kept

  -- a word of a cell is cleared
  pub cleared_at_word : (here : ℕ → Bool) (call : Call) (b w : ℕ) (x : Option Taken) → (s.caller by).position ≡ Calling call →
      (s.caller by).taken ≡ x → MayClearFor z by (s.caller by) here call x b w →
      Rule z (stepped_by s by (does K12 (Body b) (Stores w)) f (clear_at z by (s.caller by) (Body b) (Stores w) f (Calling call) x))
  cleared_at_word here call b w None is has may = first_word here call b w is has may
  cleared_at_word here call b w (Some t) is has may =
      subst (λ c. Rule z (stepped_by s by (does K12 (Body c) (Stores w)) f (clear_at z by (s.caller by) (Body c) (Stores w) f (Calling call)
      (Some t))))
      (sym may.0) (cleared_next z s by less g rule f call t w is has may.1 may.2)
