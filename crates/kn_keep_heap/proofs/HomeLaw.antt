-- The law of a step that puts a frame home.
use Rattle.std.proofs.Common.{◌≡◌, ◌≢◌, ℕ, ◌<◌, Bool, true, false, length, Option, Some, None, slice_set, refl, sym, subst, ap, ◌∙◌}
use Rattle.std.proofs.Common.{arith}
use Rattle.std.proofs.Common.{length-set}
use Rattle.kn_base.specs.declared.numbers.Span.{Span}
use Rattle.kn_base.specs.declared.places.Place.TheVariants.{Phase, Frame, Side}
use Rattle.kn_base.specs.declared.kinds.FrameKind.TheVariants as frames
use Rattle.kn_base.specs.declared.frame_word.FrameWord.{FrameWord}
use Rattle.kn_base.specs.Words.{packed_frame, IsFrameWord, HasClass, HasStamp}
use Rattle.kn_base.specs.Sizes.{frame_count}
use Rattle.kn_base.specs.Spans.{LiesIn}
use Rattle.kn_base.specs.Functions.{upd}
use Rattle.kn_graph.specs.declared.calls.Call.{Call}
use Rattle.kn_graph.specs.Ground.{Ground}
use Rattle.kn_graph.specs.Graph.{Graph, shapes, Lives, words_of, with_entered}
use Rattle.kn_rule.specs.declared.steps.Kind.TheVariants.{K11}
use Rattle.kn_rule.specs.declared.steps.Action.TheVariants.{Stores}
use Rattle.kn_rule.specs.declared.positions.Position.{Position}
use Rattle.kn_rule.specs.declared.positions.Position.TheVariants.{Calling}
use Rattle.kn_rule.specs.Decoding.{frame_of, PacksFrame}
use Rattle.kn_rule.specs.FrameSpans.{frame_span}
use Rattle.kn_rule.specs.Places.{put}
use Rattle.kn_rule.specs.Views.{View, Views, State, Open, views_of, owns}
use Rattle.kn_rule.specs.Requests.{words_asked, InArea, IsCellOf, is_whole, has_room, home_as, home_word}
use Rattle.kn_rule.specs.Searches.{refuses, refuses_at}
use Rattle.kn_rule.specs.Steps.{Found, does, epoch_in, callers}
use Rattle.kn_rule.specs.Outcomes.{full_if, home_if, home_at}
use Rattle.kn_rule.specs.Moves.{stepped_by, IsPageOf}
use Rattle.kn_rule.specs.FrameClauses.{IsFilled, AreTheFree, HomePage}
use Rattle.kn_rule.specs.Rule.{Rule, RuleOf}
use Rattle.kn_rule.proofs.Decodings.{frame_packed, frame_packs}
use Rattle.kn_rule.proofs.WholeFrames.{whole_is}
use Rattle.kn_keep_heap.specs.Answered.{staying, Stays}
use Rattle.kn_keep_heap.proofs.Parts.{views_moved, local_same, own_put, taken_same, position_same, header_same, log_same}
use Rattle.kn_keep_heap.proofs.ReadLaws.{few}
use Rattle.kn_keep_heap.proofs.ThenAnswer.{then_full}
use Rattle.kn_keep_heap.proofs.FrameMoves.{framed_home, owners_home, taken_in_moved, handed_home, free_in_hand, housed_home, classed_at, placed_at}
use Rattle.kn_keep_heap.proofs.FrameMoves.{placed_none}

module _ (z : Ground) (s : State) (by : ℕ) (less : by < z.sizes.threads) (g : Graph) (rule : RuleOf z g s.word s.page (views_of s.caller) s.history)
    (f : Found) (k : ℕ) (hold : Open) (owned : owns (s.caller by) k ≡ Some hold) (near : k < frame_count z.sizes) (none : (s.caller by).taken ≡ None)
    (page_is : IsPageOf z.sizes k hold f.page) where
  abbrev V : Views
  V = views_of s.caller

  abbrev span : Span
  span = frame_span z.sizes k

  abbrev filled : ℕ → Type 0
  filled = IsFilled z.sizes g.born (shapes g) (λ a. s.word (Side a))

  abbrev word : ℕ → ℕ
  word = λ p. s.word (Frame p)

  abbrev new : FrameWord
  new = home_word (frame_span z.sizes k) (frame_of hold.word) hold.free

  abbrev new_word : ℕ
  new_word = packed_frame (home_word (frame_span z.sizes k) (frame_of hold.word) hold.free)

  n : by < callers z.sizes
  n = few z s by less g rule

  mine : (k < frame_count z.sizes) × (word k ≡ hold.word) × ((frame_of (word k)).kind ≡ frames.Owned) × ((frame_of (word k)).seat ≡ by)
  mine = rule.stands.framed.owning k by hold n owned

  packs : PacksFrame hold.word
  packs = subst PacksFrame mine.1 (rule.stands.framed.packs k near)

  kind_is : (frame_of hold.word).kind ≡ frames.Owned
  kind_is = ap (λ w. (frame_of w).kind) (sym mine.1) ∙ mine.2

  stamp_ok : HasStamp frames.Owned (frame_of hold.word).stamp
  stamp_ok = subst (λ q. HasStamp q (frame_of hold.word).stamp) kind_is packs.ranges.of_stamp

  class_ok : HasClass frames.Owned (frame_of hold.word).class
  class_ok = subst (λ q. HasClass q (frame_of hold.word).class) kind_is packs.ranges.of_class

  in_range : (w r : Bool) → IsFrameWord (home_as (frame_of hold.word) w r)
  in_range true r = record { of_class = refl; of_stamp = stamp_ok; of_seat = refl }
  in_range false true = record { of_class = class_ok; of_stamp = stamp_ok; of_seat = refl }
  in_range false false = record { of_class = class_ok; of_stamp = stamp_ok; of_seat = refl }

  not_owned : (w r : Bool) → (home_as (frame_of hold.word) w r).kind ≢ frames.Owned
  not_owned true r e = cc
  not_owned false true e = cc
  not_owned false false e = cc

  back : frame_of new_word ≡ new
  back = frame_packed new (in_range _ _)

  kept_area : (frame_of hold.word).class ≢ 0 → InArea z.sizes k (frame_of hold.word).class
  kept_area ne =
      subst (λ w. InArea z.sizes k (frame_of w).class) mine.1
      (rule.stands.classed.area k near (λ e. ne (ap (λ w. (frame_of w).class) (sym mine.1) ∙ e)))

  area_as : (w r : Bool) → (home_as (frame_of hold.word) w r).class ≢ 0 → InArea z.sizes k (home_as (frame_of hold.word) w r).class
  area_as true r ne = absurd (ne refl)
  area_as false true ne = kept_area ne
  area_as false false ne = kept_area ne

  kept_place : (m : ℕ) → Lives g.born (shapes g) m → LiesIn (words_of (shapes g m)) span →
      IsCellOf (frame_of hold.word).class span (words_of (shapes g m))
  kept_place m l i = subst (λ w. IsCellOf (frame_of w).class span (words_of (shapes g m))) mine.1 (rule.stands.placed.objects m k l near i)

  place_as : (w r : Bool) (m : ℕ) → Lives g.born (shapes g) m → LiesIn (words_of (shapes g m)) span →
      IsCellOf (home_as (frame_of hold.word) w r).class span (words_of (shapes g m))
  place_as true r m l i = placed_none span (words_of (shapes g m))
  place_as false true m l i = kept_place m l i
  place_as false false m l i = kept_place m l i

  free_is : AreTheFree span filled f.page.free
  free_is = subst (λ x. AreTheFree span filled x) (sym page_is.free_is)
      (free_in_hand z V.own by k V.taken none filled hold (λ c. (V.rest c).sweep) n owned rule.stands.handed)

  home_page : (w r : Bool) → is_whole span hold.free ≡ w → has_room (frame_of hold.word).class hold.free ≡ r →
      HomePage z.sizes k (home_as (frame_of hold.word) w r).kind (home_as (frame_of hold.word) w r).class filled f.page
  home_page true r e room = record {
    frame_is = page_is.frame_is;
    area_is = page_is.area_is;
    free_is = free_is;
    class_is = λ ne. absurd (ne refl);
    vacant = λ h. absurd (cc);
    ready = λ h. absurd (cc);
    empty = λ _. page_is.free_is ∙ whole_is span hold.free e;
  }
  home_page false true e room = record {
    frame_is = page_is.frame_is;
    area_is = page_is.area_is;
    free_is = free_is;
    class_is = λ _. page_is.class_is e;
    vacant = λ h. absurd (cc);
    ready = λ _. (
      subst (λ free. is_whole span free ≡ false) (sym page_is.free_is) e,
      subst (λ free. has_room (frame_of hold.word).class free ≡ true) (sym page_is.free_is) room,
    );
    empty = λ h. absurd (cc);
  }
  home_page false false e room = record {
    frame_is = page_is.frame_is;
    area_is = page_is.area_is;
    free_is = free_is;
    class_is = λ _. page_is.class_is e;
    vacant = λ h. absurd (cc);
    ready = λ h. absurd (cc);
    empty = λ h. absurd (cc);
  }

  home_rule : (v : View) → Stays (s.caller by) v → v.position ≡ (s.caller by).position → v.locals ≡ (s.caller by).locals →
      v.header ≡ (s.caller by).header → v.owned ≡ slice_set (s.caller by).owned k None → v.taken ≡ (s.caller by).taken →
      v.log ≡ (s.caller by).log →
      RuleOf z g (put s.word (Frame k) new_word) (upd s.page k (Some f.page)) (views_of (upd s.caller by v)) s.history
  home_rule v e ep el eh ew ek eg =
      let wide : k < length (s.caller by).owned = let h = rule.formed.frames by n in omega arith in
      subst (λ W. RuleOf z g (put s.word (Frame k) new_word) (upd s.page k (Some f.page)) W s.history)
      (sym (views_moved s.caller by v e (position_same s.caller by v ep) (local_same s.caller by v el) (header_same s.caller by v eh)
      (own_put s.caller by v k None wide ew) (taken_same s.caller by v ek) (log_same s.caller by v eg)))
      (record {
        told = rule.told;
        formed = rule.formed;
        read_right = rule.read_right;
        localed = rule.localed;
        stands = record {
          timed = rule.stands.timed;
          headed = rule.stands.headed;
          fielded = rule.stands.fielded;
          cleared = rule.stands.cleared;
          globaled = rule.stands.globaled;
          named = rule.stands.named;
          apart = rule.stands.apart;
          stated = rule.stands.stated;
          at_end = rule.stands.at_end;
          polling = rule.stands.polling;
          owners = owners_home z V.own by k (s.word Phase) V.position rule.stands.owners;
          stopped = rule.stands.stopped;
          wanted = rule.stands.wanted;
          working = rule.stands.working;
          framed = framed_home (callers z.sizes) (frame_count z.sizes) word V.own rule.stands.framed by k new_word n near
              (frame_packs new (in_range _ _)) hold owned
              (λ e. not_owned _ _ (ap (λ (v : FrameWord). v.kind) (sym back) ∙ e));
          housed = housed_home z.sizes filled word s.page rule.stands.housed k new_word f.page
              (subst (λ (v : FrameWord). HomePage z.sizes k v.kind v.class filled f.page) (sym back) (home_page _ _ refl refl));
          handed = handed_home z V.own by k V.taken none filled (λ c. (V.rest c).sweep) rule.stands.handed;
          classed = classed_at z.sizes word k new_word rule.stands.classed
              (λ ne. subst (λ (v : FrameWord). InArea z.sizes k v.class) (sym back)
              (area_as _ _ (λ e. ne (ap (λ (v : FrameWord). v.class) back ∙ e))));
          placed = placed_at z.sizes word k new_word g.born (shapes g) rule.stands.placed
              (λ m l i. subst (λ (v : FrameWord). IsCellOf v.class span (words_of (shapes g m))) (sym back) (place_as _ _ m l i));
          taken_in = taken_in_moved z V.own by k V.taken none None V.position (λ c. (V.rest c).sweep) (λ c. (V.rest c).sweep)
              (λ c ne. refl) rule.stands.taken_in;
        };
        phased = record { in_mark = λ e. let m = rule.phased.in_mark e in record { marking = m.marking; headers = m.headers }; at_rest = rule.phased.at_rest };
      })

  abbrev gone : View
  gone = record (s.caller by) { owned = slice_set (s.caller by).owned k None }

  abbrev refused : View
  refused = record (s.caller by) { owned = slice_set (s.caller by).owned k None; refused = slice_set (s.caller by).refused k true }

  gone_stays : Stays (s.caller by) gone
  gone_stays = λ t. record (staying (s.caller by)) { width = (length (s.caller by).locals, length-set (s.caller by).owned k None t) }

  gone_rule : RuleOf z g (put s.word (Frame k) new_word) (upd s.page k (Some f.page)) (views_of (upd s.caller by gone)) s.history
  gone_rule = home_rule gone gone_stays refl refl refl refl refl refl

  refused_rule : RuleOf z g (put s.word (Frame k) new_word) (upd s.page k (Some f.page)) (views_of (upd s.caller by refused)) s.history
  refused_rule = home_rule refused gone_stays refl refl refl refl refl refl

  over_by : (call : Call) (m : ℕ) → words_asked z call ≡ Some m → (s.caller by).position ≡ Calling call → (b : Bool) →
      Rule z (stepped_by s by (does K11 (Frame k) (Stores new_word)) f (full_if z by (s.caller by) (Frame k) (Stores new_word) f b call refused))
  over_by call m asks is true = (
    with_entered g by (epoch_in refused),
    then_full z s by less g refused (put s.word (Frame k) new_word) (upd s.page k (Some f.page)) refused_rule call m asks is none,
  )
  over_by call m asks is false = (g, refused_rule)

  home_by : (call : Call) → (s.caller by).position ≡ Calling call → (b : Bool) → (b ≡ true → (m : ℕ) × (words_asked z call ≡ Some m)) →
      Rule z (stepped_by s by (does K11 (Frame k) (Stores new_word)) f (home_if z by (s.caller by) (Frame k) (Stores new_word) f b call))
  home_by call is false asks = (g, gone_rule)
  home_by call is true asks = over_by call (asks refl).0 (asks refl).1 is _

  -- only a call that asks for a cell refuses a frame
  refuses_asked : (call : Call) (x : Option ℕ) (o : Open) → refuses z call x k o ≡ true → (m : ℕ) × (x ≡ Some m)
  refuses_asked call None o e = absurd (cc)
  refuses_asked call (Some m) o e = (m, refl)

  refusing_asked : (call : Call) (o : Option Open) → refuses_at z call (words_asked z call) k o ≡ true → (m : ℕ) × (words_asked z call ≡ Some m)
  refusing_asked call None e = absurd (cc)
  refusing_asked call (Some o) e = refuses_asked call (words_asked z call) o e

  -- a frame is given back
  pub home_kept : (q : Position) → (s.caller by).position ≡ q →
      Rule z (stepped_by s by (does K11 (Frame k) (Stores new_word)) f (home_at z by (s.caller by) (Frame k) (Stores new_word) f q))
  home_kept (Calling call) is = home_by call is _ (refusing_asked call (owns (s.caller by) k))
  home_kept _ is = (g, gone_rule)
