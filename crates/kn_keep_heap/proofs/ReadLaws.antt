-- The laws of loads: a global, or a header.
use Rattle.std.proofs.Common.{◌≡◌, ◌≢◌, ℕ, ◌<◌, Bool, true, false, [], ◌∷◌, ◌++◌, length, Option, Some, None, slice_set}
use Rattle.std.proofs.Common.{refl, sym, subst, ap}
use Rattle.std.proofs.Common.{◌∙◌}
use Rattle.std.proofs.Common.{arith, length-set}
use Rattle.kn_base.specs.declared.places.Place.{Place}
use Rattle.kn_base.specs.declared.places.Place.TheVariants.{Phase, Local, Global, Body}
use Rattle.kn_base.specs.declared.header_word.HeaderWord.{HeaderWord}
use Rattle.kn_base.specs.Words.{packed_header}
use Rattle.kn_base.specs.Functions.{upd}
use Rattle.kn_base.proofs.Updates.{upd_same, upd_case, upd_else}
use Rattle.kn_layout.specs.declared.layouts.FieldKind.{FieldKind}
use Rattle.kn_graph.specs.declared.calls.Call.{Call}
use Rattle.kn_graph.specs.declared.calls.Call.TheVariants.{GlobalGet}
use Rattle.kn_graph.specs.declared.calls.Reply.{Reply}
use Rattle.kn_graph.specs.declared.calls.Reply.TheVariants as replies
use Rattle.kn_graph.specs.Ground.{Ground}
use Rattle.kn_graph.specs.Arguments.{IsInRange}
use Rattle.kn_graph.specs.Graph.{Graph, shapes, with_local, with_entered, field_kind}
use Rattle.kn_graph.specs.Sound.{IsSound, Alive}
use Rattle.kn_graph.specs.Answers.{MayAnswer}
use Rattle.kn_rule.specs.declared.steps.Kind.TheVariants.{K4, K6}
use Rattle.kn_rule.specs.declared.steps.Action.TheVariants.{Loads}
use Rattle.kn_rule.specs.declared.positions.Position.{Position}
use Rattle.kn_rule.specs.declared.positions.Position.TheVariants.{Between, Calling, Writing}
use Rattle.kn_rule.specs.Decoding.{header_of, phase_of}
use Rattle.kn_rule.specs.Places.{put}
use Rattle.kn_rule.specs.Views.{View, Views, State, views_of, local_of}
use Rattle.kn_rule.specs.Requests.{words_asked, field_of, told_kind}
use Rattle.kn_rule.specs.Steps.{Found, does, entry_of, epoch_in, callers}
use Rattle.kn_rule.specs.Outcomes.{ref_word, global_read, header_read, is_wanted}
use Rattle.kn_rule.specs.Allowed.{MayReadGlobalAt}
use Rattle.kn_rule.specs.Moves.{stepped_by}
use Rattle.kn_rule.specs.HistoryClauses.{IsRightCall}
use Rattle.kn_rule.specs.ObjectClauses.{IsWriting, IsReadAt, IsReadFor, ReadRight, address_of}
use Rattle.kn_rule.specs.Rule.{Rule, RuleOf}
use Rattle.kn_rule.proofs.Decodings.{header_packed}
use Rattle.kn_base.specs.declared.kinds.Code.TheVariants as codes
use Rattle.kn_rule.specs.CallerClauses.{IsInOrLeaving}
use Rattle.kn_keep_heap.specs.Answered.{staying, Stays}
use Rattle.kn_keep_heap.proofs.Parts.{views_moved, local_put, local_same, own_same, taken_same, position_same, header_put, log_same}
use Rattle.kn_keep_heap.proofs.Parts.{views_answer}
use Rattle.kn_keep_heap.proofs.Loads.{put_same}
use Rattle.kn_keep_heap.proofs.Locals.{local_read, locals_moved}
use Rattle.kn_keep_heap.proofs.Positions.{no_cell, read_at}
use Rattle.kn_keep_heap.proofs.Values.{ref_told, names, lives}
use Rattle.kn_keep_heap.proofs.Phases.{not_in_mark}
use Rattle.kn_keep_heap.proofs.Answers.{sound, epoch_call, answered}

module _ (z : Ground) (s : State) (by : ℕ) (less : by < z.sizes.threads) where
  -- the view after an answer, with one local read, or with none
  abbrev pub read_view : Call → Reply → ℕ → ℕ → View
  read_view call reply r w = record (s.caller by) {
    position = Writing r w 0;
    header = None;
    locals = slice_set (s.caller by).locals r w;
    log = (s.caller by).log ++ entry_of by (epoch_in (s.caller by)) call reply 0 ∷ [];
  }

  abbrev pub plain_view : Call → Reply → View
  plain_view call reply = record (s.caller by) {
    position = Between;
    header = None;
    log = (s.caller by).log ++ entry_of by (epoch_in (s.caller by)) call reply 0 ∷ [];
  }

  views_read : (call : Call) (reply : Reply) (r w : ℕ) → r < length (s.caller by).locals →
      views_of (upd s.caller by (read_view call reply r w)) ≡ record (views_of s.caller) {
        position = upd (λ c. (s.caller c).position) by (Writing r w 0);
        local = upd (λ c. local_of (s.caller c)) by (upd (local_of (s.caller by)) r w);
        header = upd (λ c. (s.caller c).header) by None;
        log = upd (λ c. (s.caller c).log) by ((s.caller by).log ++ entry_of by (epoch_in (s.caller by)) call reply 0 ∷ []);
      }
  views_read call reply r w near =
      let v : View = read_view call reply r w in
      let stays : Stays (s.caller by) v = λ t. record (staying (s.caller by)) {
        width = (
          length-set (s.caller by).locals r w t,
          length (s.caller by).owned,
        );
      } in
      views_answer s.caller by v stays (local_put s.caller by v r w near refl) (own_same s.caller by v refl) (taken_same s.caller by v refl)

  pub views_plain : (call : Call) (reply : Reply) →
      views_of (upd s.caller by (plain_view call reply)) ≡ record (views_of s.caller) {
        position = upd (λ c. (s.caller c).position) by Between;
        header = upd (λ c. (s.caller c).header) by None;
        log = upd (λ c. (s.caller c).log) by ((s.caller by).log ++ entry_of by (epoch_in (s.caller by)) call reply 0 ∷ []);
      }
  views_plain call reply =
      let v : View = plain_view call reply in
      views_answer s.caller by v refl (local_same s.caller by v refl) (own_same s.caller by v refl) (taken_same s.caller by v refl)

  module _ (g : Graph) (rule : RuleOf z g s.word s.page (views_of s.caller) s.history) where
    abbrev V : Views
    V = views_of s.caller

    pub ranges : (call : Call) → (s.caller by).position ≡ Calling call → IsInRange z call
    ranges call is = (subst (λ p. IsRightCall z p) is (rule.formed.call by less)).1

    pub few : by < callers z.sizes
    few = omega arith

    pub snd : IsSound z g
    snd = sound z g s.word s.page V s.history rule by less

    pub quiet : (call : Call) → (s.caller by).position ≡ Calling call → (j : ℕ) → ¬ IsWriting (s.caller by).position j
    quiet call is j h = subst (λ p. IsWriting p j) is h

    -- a call is under way in no Mark
    pub calls_out : (call : Call) → (s.caller by).position ≡ Calling call → (phase_of (s.word Phase)).code ≢ codes.Mark
    calls_out call is = not_in_mark z (s.word Phase) V.position (λ c. (V.rest c).collecting.counted) rule.stands.stopped by less
        (subst (λ p. IsInOrLeaving p) (sym is) tt)

    -- what was read stays right where no local of the graph changes
    pub read_plain : (q : Position) → IsReadAt (shapes g) (g.local by) q None →
        ReadRight z (shapes g) g.local (upd V.position by q) (upd V.header by None)
    read_plain q h =
        subst (λ (l : ℕ → ℕ → Option ℕ). ReadRight z (shapes g) l (upd V.position by q) (upd V.header by None))
        (upd_same g.local by (g.local by) refl)
        (read_at z V.position by q (shapes g) g.local V.header (g.local by) None rule.read_right h)

    -- a reference was read for the call under way
    pub ref_answered : (call : Call) (reply : Reply) (r w : ℕ) (x : Option ℕ) (word : Place → ℕ) → word ≡ s.word →
        (s.caller by).position ≡ Calling call → words_asked z call ≡ None → r < 16 → w ≡ address_of (shapes g) x →
        MayAnswer z by call g reply 0 (with_local g by r x) →
        RuleOf z (with_entered (with_local g by r x) by (epoch_in (s.caller by))) word s.page (views_of (upd s.caller by (read_view call reply r w)))
        (s.history ++ entry_of by (epoch_in (s.caller by)) call reply 0 ∷ [])
    ref_answered call reply r w x word kept is none small value may =
        let near : r < length (s.caller by).locals = let e = rule.formed.locals by less in omega arith in
        let after : Graph = with_entered (with_local g by r x) by (epoch_in (s.caller by)) in
        let more = s.history ++ entry_of by (epoch_in (s.caller by)) call reply 0 ∷ [] in
        subst (λ y. RuleOf z after y s.page (views_of (upd s.caller by (read_view call reply r w))) more) (sym kept)
        (subst (λ W. RuleOf z after s.word s.page W more) (sym (views_read call reply r w near))
        (answered z g V s.history rule.told rule.formed by less call is (epoch_call z g s.word s.page V s.history rule by less call is) reply 0
        (with_local g by r x) s.word s.page rule.stands rule.phased may (Writing r w 0) small
        (no_cell z V.position by (Writing r w 0) call reply 0 0 is g.born (shapes g) V.taken rule.stands.apart few none)
        (upd V.local by (upd (V.local by) r w)) (λ c ne. upd_else V.local by (upd (V.local by) r w) c ne)
        (local_read z (shapes g) g.local (λ c i. s.word (Local c i)) V.position V.local rule.localed by r w x value (quiet call is))
        (read_at z V.position by (Writing r w 0) (shapes g) g.local V.header (upd (g.local by) r x) None rule.read_right tt)))

    -- a call was answered, and the graph stays
    pub plain_answered : (call : Call) (reply : Reply) (word : Place → ℕ) → word ≡ s.word → (s.caller by).position ≡ Calling call →
        (s.caller by).taken ≡ None → MayAnswer z by call g reply 0 g →
        RuleOf z (with_entered g by (epoch_in (s.caller by))) word s.page (views_of (upd s.caller by (plain_view call reply)))
        (s.history ++ entry_of by (epoch_in (s.caller by)) call reply 0 ∷ [])
    plain_answered call reply word kept is none may =
        let after : Graph = with_entered g by (epoch_in (s.caller by)) in
        let more = s.history ++ entry_of by (epoch_in (s.caller by)) call reply 0 ∷ [] in
        subst (λ y. RuleOf z after y s.page (views_of (upd s.caller by (plain_view call reply))) more) (sym kept)
        (subst (λ W. RuleOf z after s.word s.page W more) (sym (views_plain call reply))
        (answered z g V s.history rule.told rule.formed by less call is (epoch_call z g s.word s.page V s.history rule by less call is) reply 0
        g s.word s.page rule.stands rule.phased may Between tt none V.local (λ c ne. refl)
        (locals_moved z (shapes g) g.local (λ c i. s.word (Local c i)) V.position V.local rule.localed by Between (λ i _. quiet call is i) tt)
        (read_plain Between tt)))

    pub cell_none : (call : Call) → (s.caller by).position ≡ Calling call → words_asked z call ≡ None → (s.caller by).taken ≡ None
    cell_none call is none = no_cell z V.position by Between call replies.Ok 0 0 is g.born (shapes g) V.taken rule.stands.apart few none

    module _ (f : Found) where
      -- a global was read
      pub global_at : (i : ℕ) (here : ℕ → Bool) (q : Position) → MayReadGlobalAt z by (s.caller by) here q i → (s.caller by).position ≡ q →
          s.word (Global i) ≡ f.word →
          Rule z (stepped_by s by (does K6 (Global i) Loads) f (global_read z by (s.caller by) (Global i) Loads f q))
      global_at i here (Calling (GlobalGet r j)) m is found =
          let fits = ranges (GlobalGet r j) is in
          let small : r < 16 = let a = fits.0 in omega arith in
          let value : f.word ≡ address_of (shapes g) (g.global j) =
          sym found ∙ (ap (λ k. s.word (Global k)) m ∙ rule.stands.globaled.words j fits.1.0) in (
            with_entered (with_local g by r (g.global j)) by (epoch_in (s.caller by)),
            ref_answered (GlobalGet r j) (ref_word f.word) r f.word (g.global j) (put s.word (Global i) f.word)
                (put_same s.word (Global i) f.word (sym found)) is refl small value
                (record { reply_is = ref_told z g snd (g.global j) f.word (snd.roots.globals j) value; nowhere = refl; after = refl }),
          )
      global_at i here _ m is found = absurd m

      -- a header was read, for a call on a field
      module _ (call : Call) (t i : ℕ) (k : FieldKind) (is : (s.caller by).position ≡ Calling call) (asks : field_of call ≡ Some (t, i, k))
          (none : words_asked z call ≡ None) (small : t < 16) (b : ℕ) (at_local : b ≡ local_of (s.caller by) t) (positive : 0 < b)
          (found : s.word (Body b) ≡ f.word) where
        object : (n : ℕ) × (g.local by t ≡ Some n)
        object = names z g snd (g.local by t) b (at_local ∙ rule.localed.views by t less small) positive

        alive : (n : ℕ) → g.local by t ≡ Some n → Alive g.born (shapes g) (Some n)
        alive n e = subst (λ x. Alive g.born (shapes g) x) e (snd.roots.locals by t)

        header_tells : (n : ℕ) → g.local by t ≡ Some n →
            ((header_of f.word).layout ≡ (shapes g n).layout) × ((header_of f.word).length ≡ (shapes g n).length)
        header_tells n e =
            let h = rule.stands.headed.headers n (lives z g snd n (alive n e)) in
            let header : HeaderWord = record { layout = (shapes g n).layout; length = (shapes g n).length; extra = h.extra } in
            let there : (shapes g n).address ≡ b = sym (at_local ∙ (rule.localed.views by t less small ∙ ap (address_of (shapes g)) e)) in
            let w : f.word ≡ packed_header header = sym found ∙ (ap (λ a. s.word (Body a)) (sym there) ∙ h.packs) in
            let d : header_of f.word ≡ header = ap header_of w ∙ header_packed header h.ranges in
            (ap (λ (x : HeaderWord). x.layout) d, ap (λ (x : HeaderWord). x.length) d)

        kind_told : field_kind z (shapes g object.0) i ≡ told_kind z f.word i
        kind_told =
            let e = header_tells object.0 object.1 in
            λ y. field_kind z (record { address = 0; layout = sym e.0 y; length = sym e.1 y; condemned = false; released = false }) i

        read_is : IsReadAt (shapes g) (g.local by) (Calling call) (Some f.word)
        read_is = subst (λ x. IsReadFor (shapes g) (g.local by) x (Some f.word)) (sym asks) header_tells

        header_kept : Rule z (stepped_by s by (does K4 (Body b) Loads) f (record {
          view = record (s.caller by) { header = Some f.word };
          says = [];
        }))
        header_kept =
            let v : View = record (s.caller by) { header = Some f.word } in (
              g,
              subst (λ y. RuleOf z g y s.page (views_of (upd s.caller by v)) s.history) (sym (put_same s.word (Body b) f.word (sym found)))
                  (subst (λ W. RuleOf z g s.word s.page W s.history)
                  (sym (views_moved s.caller by v refl (position_same s.caller by v refl) (local_same s.caller by v refl)
                  (header_put s.caller by v) (own_same s.caller by v refl) (taken_same s.caller by v refl) (log_same s.caller by v refl)))
                  (record {
                    told = rule.told;
                    formed = rule.formed;
                    read_right = record {
                      each = λ c l. upd_case (λ k h. k < z.sizes.threads → IsReadAt (shapes g) (g.local k) (V.position k) h) V.header by (Some f.word)
                          (λ _. subst (λ p. IsReadAt (shapes g) (g.local by) p (Some f.word)) (sym is) read_is) c (λ _ l. rule.read_right.each c l) l;
                    };
                    localed = rule.localed;
                    stands = rule.stands;
                    phased = rule.phased;
                  })),
            )

        module _ (no_field : (n : ℕ) → g.local by t ≡ Some n → field_kind z (shapes g n) i ≡ None → MayAnswer z by call g replies.NoField 0 g)
            (wrong_kind : (n : ℕ) (k' : FieldKind) → g.local by t ≡ Some n → field_kind z (shapes g n) i ≡ Some k' →
            is_wanted z by (s.caller by) (Body b) Loads f (Some k') k ≡ false → MayAnswer z by call g replies.WrongKind 0 g) where
          pub header_at : (x : Option FieldKind) (w : Bool) → told_kind z f.word i ≡ x → is_wanted z by (s.caller by) (Body b) Loads f x k ≡ w →
              Rule z (stepped_by s by (does K4 (Body b) Loads) f (header_read z by (s.caller by) (Body b) Loads f call x w))
          header_at None w e ew = (
            with_entered g by (epoch_in (s.caller by)),
            plain_answered call replies.NoField (put s.word (Body b) f.word)
                (put_same s.word (Body b) f.word (sym found)) is (cell_none call is none) (no_field object.0 object.1 (kind_told ∙ e)),
          )
          header_at (Some k') false e ew = (
            with_entered g by (epoch_in (s.caller by)),
            plain_answered call replies.WrongKind (put s.word (Body b) f.word)
                (put_same s.word (Body b) f.word (sym found)) is (cell_none call is none) (wrong_kind object.0 k' object.1 (kind_told ∙ e) ew),
          )
          header_at (Some k') true e ew = header_kept
