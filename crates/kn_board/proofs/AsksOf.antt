-- A step that its caller's view allows finds what it asks of what is stored.
use Rattle.std.proofs.Common.{◌≡◌, ◌≢◌, inl, inr, ℕ, ◌^◌, ◌<◌, ◌≤◌, Bool, List, [], map, Option, Some, None, refl, sym}
use Rattle.std.proofs.Common.{ap, ◌∙◌, subst}
use Rattle.std.proofs.Common.{arith}
use Rattle.std.proofs.Common.{slice_get, slice_index}
use Rattle.kn_base.specs.declared.places.Place.{Place}
use Rattle.kn_base.specs.declared.places.Place.TheVariants.{Phase, RootSet, Local, Side, Frame}
use Rattle.kn_base.specs.declared.kinds.FrameKind.TheVariants as frames
use Rattle.kn_base.specs.Sizes.{frame_count}
use Rattle.kn_base.specs.Pages.{FrameView}
use Rattle.kn_graph.specs.declared.calls.Call.{Call}
use Rattle.kn_graph.specs.declared.calls.Call.TheVariants.{New, NewArray}
use Rattle.kn_graph.specs.declared.entries.Entry.{Entry}
use Rattle.kn_graph.specs.Arguments.{IsInRange}
use Rattle.kn_graph.specs.Ground.{Ground, IsGoodGround}
use Rattle.kn_graph.specs.Graph.{Graph}
use Rattle.kn_rule.specs.declared.steps.Kind.{Kind}
use Rattle.kn_rule.specs.declared.steps.Kind.TheVariants.{K1, K2, K3, K4, K5, K6}
use Rattle.kn_rule.specs.declared.steps.Kind.TheVariants.{K7, K8, K9, K10, K11, K12, K13, K14, K15, K16}
use Rattle.kn_rule.specs.declared.steps.Kind.TheVariants.{K17, K18, K19, K20, K21, K22, K23, K24}
use Rattle.kn_rule.specs.declared.steps.Action.{Action}
use Rattle.kn_rule.specs.declared.steps.Action.TheVariants.{Stores}
use Rattle.kn_marking.specs.declared.work.Work.{Work}
use Rattle.kn_rule.specs.Moves.{stepped}
use Rattle.kn_rule.specs.declared.positions.Position.{Position}
use Rattle.kn_rule.specs.declared.positions.Position.TheVariants.{Out, Entering, Between, Calling, Waiting}
use Rattle.kn_rule.specs.declared.parts.Taken.{Taken}
use Rattle.kn_rule.specs.Decoding.{frame_of}
use Rattle.kn_rule.specs.Places.{Within}
use Rattle.kn_rule.specs.Views.{View, State, Open, owns, flattened}
use Rattle.kn_rule.specs.Requests.{birth_of, AreFree, InArea}
use Rattle.kn_rule.specs.Steps.{does, callers, frame_in}
use Rattle.kn_rule.specs.Allowed.{MayBegin as MayBeginCall}
use Rattle.kn_rule.specs.Allowed.{MayBe, MayEnterFor, MayPollAt, MayWriteAt, MayLoadAt, MayReadGlobalAt, MayPoll, MayStoreState, MayWrite, MayLoadBody}
use Rattle.kn_rule.specs.Allowed.{MayReadGlobal, MayBirth, Searches, MayLook, MayClaim}
use Rattle.kn_rule.specs.Allowed.{MayGiveBack, MayClear, MayClearFor, MayStorePhase, MayMake}
use Rattle.kn_rule.specs.MarkSteps.{IsMarker, MayMoveSet, MayLoadRoot, MayMoveMark, MayLoadCell}
use Rattle.kn_rule.specs.HistoryClauses.{IsRightCall}
use Rattle.kn_rule.specs.Rule.{Rule}
use Rattle.kn_rule.proofs.FrameSpans.{in_heap}
use Rattle.kn_keep_heap.proofs.Values.{below_sixteen}
use Rattle.kn_keep_marking.proofs.Keeps.{keeps}
use Rattle.kn_keep_marking.proofs.Withins.{steps_lie_within}
use Rattle.kn_keep_heap.proofs.ReadLaws.{ranges}
use Rattle.kn_view.specs.Parts.{Part, view_with, MayBegin, IsReadable, IsBirthLocal, IsSearched}
use Rattle.kn_view.specs.Shares.{MayOwe, IsChildNear, IsRootRead, IsCellRead}
use Rattle.kn_holds.specs.Holds.{Hold}
use Rattle.kn_board.specs.Parts.{own_of}
use Rattle.kn_board.specs.Stored.{HoldsFit, hold_at}
use Rattle.kn_board.specs.Asks.{Asks, AsksPoll, AsksState, AsksWrite, AsksGlobal, AsksBirth, AsksLook, AsksClaim, AsksHome, AsksClear, AsksNext}
use Rattle.kn_board.specs.Asks.{AsksPhase, AsksSet, AsksMark}
use Rattle.kn_board.proofs.ShareFits.{owes_little, child_near, root_read, field_read}
use Rattle.kn_board.proofs.ClaimFits.{usable_free}
use Rattle.kn_board.proofs.Holdings.{owns_stored, owner}
use Rattle.kn_keep_heap.proofs.SmallWords.{phase_small}
use Rattle.kn_board.proofs.SmallWords.{calls_few, written_small, global_small, global_readable, body_readable}

none_or : {A : Type 0} (o : Option A) → ((x : A) → o ≡ Some x → ⊥) → o ≡ None
none_or None h = refl
none_or (Some x) h = absurd (h x refl)

module _ (z : Ground) (good : IsGoodGround z) (s : State) (rule : Rule z s) (by : ℕ) (here : ℕ → Bool) (part : Part) (holds : List Hold)
    (log : List Entry) (is : s.caller by ≡ view_with z part (map (own_of by) holds) log) where
  abbrev v : View
  v = view_with z part (map (own_of by) holds) log

  position_is : (s.caller by).position ≡ part.position
  position_is = ap (λ (v : View). v.position) is

  right_call : by < z.sizes.threads → IsRightCall z part.position
  right_call less = subst (λ q. IsRightCall z q) position_is (rule.1.formed.call by less)

  begun : by < z.sizes.threads → (call : Call) → MayBeginCall z by v here call → MayBegin z part (Some call)
  begun less call m =
      let few = calls_few z.sizes good.sizes by less in let f0 = few.0 in let f1 = few.1 in let left = m.call_left in
      let births : part.births ≤ slice_index z.sizes.births by =
      subst (λ (v : View). v.births ≤ slice_index z.sizes.births by) is (rule.1.told.births_fit by less) in
      (m.in_range, omega arith, omega arith)

  enters : by < z.sizes.threads → (call : Call) (t : Option ℕ) → MayEnterFor z by v here t (Some call) → MayBegin z part (Some call)
  enters less call None m = begun less call m
  enters less call (Some n) m = let x : Option.Some call ≡ None = m in absurd (cc)

  begins : by < z.sizes.threads → (next : Option Call) (q : Position) → MayPollAt z by v here q next → MayBegin z part next
  begins less None q m = tt
  begins less (Some call) Out m = let x : Option.Some call ≡ None = m in absurd (cc)
  begins less (Some call) Entering m = enters less call v.target m
  begins less (Some call) Between m = begun less call m.1
  begins less (Some call) Waiting m = let x : Option.Some call ≡ None = m in absurd (cc)
  begins less (Some call) _ m = absurd m

  births_at : (call : Call) (b : ℕ × ℕ × ℕ) → birth_of z call ≡ Some b → IsInRange z call → IsBirthLocal (Calling call)
  births_at (New r layout) b e fits = below_sixteen r fits.0
  births_at (NewArray r layout n) b e fits = below_sixteen r fits.0
  births_at _ b e fits = tt

  within : (k : Kind) (p : Place) (a : Action) → MayBe z by v here k p a → Within z.sizes p
  within k p a m = steps_lie_within z s by here (does k p a) good rule (subst (λ v. MayBe z by v here k p a) (sym is) m)

  abbrev g : Graph
  g = rule.0

  module _ (p : Place) (a : Action) (n : ℕ) (found : s.word p ≡ n) where
    poll : MayPoll z by v here p a → AsksPoll z by part p a n
    poll m = record {
      next = m.next;
      place = m.place;
      act = m.act;
      begins = begins m.thread m.next part.position m.may;
      word = subst (λ w. w < 2 ^ 35) (sym (ap s.word m.place) ∙ found) (phase_small (s.word Phase) rule.1.stands.timed.packs);
    }

    state : MayStoreState z by v here p a → AsksState z by part p a n
    state m = record { value = m.value; place = m.place; act = m.word }

    write : MayWrite z by v here p a → AsksWrite z by part p a n
    write m =
        let at : Within z.sizes (Local by m.local) = subst (λ p. Within z.sizes p) m.place (within K3 p a m) in record {
          local = m.local;
          value = m.value;
          place = m.place;
          act = m.word;
          near = at.1;
          small = written_small z good s by m.thread here g rule.1 m.local m.value part.position position_is
              (subst (λ (v : View). MayWriteAt z by v here part.position m.local m.value) (sym is) m.may) at.1;
        }

    body : MayLoadBody z by v here p a → IsReadable part n
    body m = body_readable z good s by m.thread here g rule.1 m.address n part.position part.header
        (subst (λ (v : View). MayLoadAt z by v here part.position part.header m.address) (sym is) m.may) position_is
        (ap (λ (v : View). v.header) is) (ap s.word (sym m.place) ∙ found)

    global : MayReadGlobal z by v here p a → AsksGlobal z by part p a n
    global m =
        let may = subst (λ (v : View). MayReadGlobalAt z by v here part.position m.global) (sym is) m.may in
        let small = global_small z good s by m.thread here g rule.1 m.global n part.position position_is may (ap s.word (sym m.place) ∙ found) in
        record {
          readable = global_readable z good s by m.thread here g rule.1 m.global n part.position position_is may small part.header;
          small = small;
        }

    birth : MayBirth z by v here p a → AsksBirth z by part p a n
    birth m = record {
      address = m.cell.span.start;
      place = m.place;
      birth = subst (λ q. IsBirthLocal q) (sym m.is_call)
          (births_at m.call m.birth m.is_birth (ranges z s by m.thread g rule.1 m.call (position_is ∙ m.is_call)));
    }

    searched : (call : Call) (class k : ℕ) → Searches z by v here call class k → IsSearched z k part.position
    searched call class k m = subst (λ q. IsSearched z k q) (sym m.is_call) (subst (λ c. InArea z.sizes k c) m.is_class m.in_area)

    look : MayLook z by v here p a → AsksLook z by part p a n
    look m = record {
      at = record { frame = m.frame; place = m.place; near = m.search.near; call = right_call m.search.thread };
      area = searched m.call m.class m.frame m.search;
    }

    -- a word of a phase that the rule allows is small
    phase : MayStorePhase z by v here p a → AsksPhase z by part p a n
    phase m =
        let may : MayMake z by (s.caller by) here (does K14 p a) = subst (λ v. MayBe z by v here K14 p a) (sym is) m in
        let after = keeps z good s by here (record { word = n; page = some_page }) rule (does K14 p a) may (found, tt) in
        record { value = m.value; act = m.act; small = small m.value m.place m.act after }
      where
        some_page : FrameView
        some_page = record { frame = record { start = 0; len = 0 }; class = 0; free = []; cursor = 0 }

        small : (w : ℕ) → p ≡ Phase → a ≡ Stores w → Rule z (stepped z s by (does K14 p a) (record { word = n; page = some_page })) → w < 2 ^ 35
        small w at act r =
            let r' : Rule z (stepped z s by (does K14 Phase (Stores w)) (record { word = n; page = some_page })) =
            subst (λ b. Rule z (stepped z s by (does K14 Phase b) (record { word = n; page = some_page }))) act
            (subst (λ q. Rule z (stepped z s by (does K14 q a) (record { word = n; page = some_page }))) at r) in
            phase_small w r'.1.stands.timed.packs

    marks : IsMarker z by v → IsMarker z by (s.caller by)
    marks m = subst (λ v. IsMarker z by v) (sym is) m

    work_is : (s.caller by).work ≡ part.work
    work_is = ap (λ (v : View). v.work) is

    owes : IsMarker z by v → MayOwe part.work
    owes m = subst (λ w. MayOwe w) work_is (owes_little z good s rule.0 rule.1 by (marks m))

    set_of : (j : ℕ) → IsMarker z by v → p ≡ RootSet j → AsksSet z by part p a n
    set_of j m at = record { set = j; place = at; owes = owes m }

    set_asked : MayMoveSet z by v p a → AsksSet z by part p a n
    set_asked (inl m) = set_of m.set m.marker m.place
    set_asked (inr (inl m)) = set_of m.set m.marker m.place
    set_asked (inr (inr m)) = set_of m.set m.marker m.place

    root : MayLoadRoot z by v p a → IsRootRead z.sizes part.work.doing n
    root m =
        subst (λ (w : Work). IsRootRead z.sizes w.doing n) work_is (root_read z good s rule.0 rule.1 by (marks m.marker) m.set m.word n
        (ap (λ (w : Work). w.doing) work_is ∙ m.claims) m.near (sym (ap s.word m.place) ∙ found))

    mark_of : (x : ℕ) → IsMarker z by v → p ≡ Side x → AsksMark z by part p a n
    mark_of x m at = record {
      object = x;
      place = at;
      owes = owes m;
      near = subst (λ (w : Work). IsChildNear w.doing w.child) work_is (child_near z good s rule.0 rule.1 by (marks m));
    }

    mark_asked : MayMoveMark z by v p a → AsksMark z by part p a n
    mark_asked (inl m) = mark_of m.child m.marker m.place
    mark_asked (inr (inl m)) = mark_of m.object m.marker m.place
    mark_asked (inr (inr m)) = mark_of m.child m.marker m.place

    cell : MayLoadCell z by v p a → IsCellRead part.work.doing n
    cell (inl m) = subst (λ d. IsCellRead d n) (sym m.scans) tt
    cell (inr m) =
        subst (λ (w : Work). IsCellRead w.doing n) work_is (field_read z good s rule.0 rule.1 by (marks m.marker) m.object m.header m.field n
        (ap (λ (w : Work). w.doing) work_is ∙ m.scans) m.of_ref (sym (ap s.word m.place) ∙ found))

    module _ (fits : HoldsFit z.sizes holds) (slot : ℕ → Option FrameView)
        (pages_are : (j : ℕ) → j < frame_count z.sizes → (frame_of (s.word (Frame j))).kind ≢ frames.Owned → slot j ≡ s.page j)
        (owned_are : (c : ℕ) → c < callers z.sizes → (s.caller c).owned ≡ map (own_of c) holds) where
      stored_at : (c k : ℕ) → c < callers z.sizes → k < frame_count z.sizes → owns (s.caller c) k ≡ own_of c (hold_at holds k)
      stored_at c k l near =
          let e = fits.count in
          ap (λ l. flattened (slice_get l k)) (owned_are c l) ∙ owns_stored c holds k (omega arith)

      claim : MayClaim z by v here p a → AsksClaim z by part p a n holds (slot (frame_in p))
      claim m =
          let k : ℕ = m.frame in let near = m.search.near in
          let free : n ≡ m.old → (frame_of (s.word (Frame k))).kind ≢ frames.Owned =
          λ won e. usable_free m.class (frame_of m.old) (frame_of m.old).kind m.fit
          (ap (λ w. (frame_of w).kind) (sym won ∙ (sym found ∙ ap s.word m.place)) ∙ e) in record {
            old = m.old;
            new = _;
            act = m.word;
            at = record { frame = m.frame; place = m.place; near = near; call = right_call m.search.thread };
            area = searched m.call m.class m.frame m.search;
            lies = λ won.
                let h = rule.1.stands.housed.each k near (free won) in
                (h.0, ap (λ q. slot (frame_in q)) m.place ∙ (pages_are k near (free won) ∙ h.1));
            nobody = λ won c l. none_or (own_of c (hold_at holds k)) (λ o e.
                free won (rule.1.stands.framed.owning k c o l (stored_at c k l near ∙ e)).2);
          }

      module _ (less : by < callers z.sizes) where
        home : MayGiveBack z by v here p a → AsksHome z by part p a n holds
        home m = record {
          at = record { frame = m.frame; place = m.place; near = m.near; call = right_call m.thread };
          owned = (owner z holds fits by m.frame m.hold m.near m.owned).0;
        }

        next_at : (call : Call) (b w : ℕ) (t : Option Taken) → part.position ≡ Calling call → part.taken ≡ t →
            MayClearFor z by v here call t b w →
            AsksNext z by part p a n holds b t
        next_at call b w None at none m =
            let own = owner z holds fits by m.frame m.hold m.near m.owned in record {
              call = call;
              is_call = at;
              words = m.words;
              is_request = m.is_request;
              frame = m.frame;
              near = m.near;
              owned = own.0;
              free = subst (λ (o : Open). AreFree o.free (record { start = b; len = m.words })) (sym own.1) m.free;
              inside = m.inside;
            }
        next_at call b w (Some t) at has m =
            let i = rule.1.stands.apart.inside by t less (ap (λ (v : View). v.taken) is ∙ has) in
            let l = (in_heap z.sizes good.sizes t.frame i.0).2 in let few = good.sizes.of_frames.words.1 in let u = i.1.1 in let x = m.1 in
            omega arith

        clear : MayClear z by v here p a → AsksClear z by part p a n holds
        clear m = record {
          address = m.address;
          place = m.place;
          call = right_call m.thread;
          next = next_at m.call m.address m.value part.taken m.is_call refl m.may;
        }

        pub asks_by : (k : Kind) → MayBe z by v here k p a → Asks z by part p a n holds (slot (frame_in p)) k
        asks_by K1 m = poll m
        asks_by K2 m = state m
        asks_by K3 m = write m
        asks_by K4 m = body m
        asks_by K5 m = tt
        asks_by K6 m = global m
        asks_by K7 m = tt
        asks_by K8 m = birth m
        asks_by K9 m = look m
        asks_by K10 m = claim m
        asks_by K11 m = home m
        asks_by K12 m = clear m
        asks_by K13 m = tt
        asks_by K14 m = phase m
        asks_by K15 m = record { mutator = m.mutator; place = m.place; near = m.near }
        asks_by K16 m = tt
        asks_by K17 m = set_asked m
        asks_by K18 m = root m
        asks_by K19 m = tt
        asks_by K20 m = mark_asked m
        asks_by K21 m = tt
        asks_by K22 m = record { object = m.object; place = m.place }
        asks_by K23 m = cell m
        asks_by K24 m = owes m.marker
        asks_by _ m = absurd m
