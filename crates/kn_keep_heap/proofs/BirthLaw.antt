-- The law of a birth.
use Rattle.std.proofs.Common.{◌≡◌, ◌≢◌, ℕ, suc, ◌+◌, ◌*◌, ◌^◌, ◌<◌, ◌≤◌, inl, inr, Bool, cond, leb, [], ◌∷◌}
use Rattle.std.proofs.Common.{◌++◌, length, Option, Some, None}
use Rattle.std.proofs.Common.{slice_set}
use Rattle.std.proofs.Common.{refl, sym, subst, ap, ◌∙◌, arith, length-set, ne_eqb}
use Rattle.std.proofs.lemmas.Bool.{cases_lt}
use Rattle.std.proofs.lemmas.Bool.Decides.{leb_tells}
use Rattle.kn_base.specs.declared.heap.Sizes.{Sizes}
use Rattle.kn_base.specs.declared.places.Place.{Place}
use Rattle.kn_base.specs.declared.places.Place.TheVariants.{Phase, RootSet, Local, Global, Node, Frame, Side, Body}
use Rattle.kn_base.specs.declared.numbers.Span.{Span}
use Rattle.kn_base.specs.declared.kinds.Colour.TheVariants as colours
use Rattle.kn_base.specs.declared.kinds.Code.{Code}
use Rattle.kn_base.specs.declared.kinds.Code.TheVariants as codes
use Rattle.kn_base.specs.declared.kinds.FrameKind.TheVariants as frames
use Rattle.kn_base.specs.declared.classes.TheConstants.{MOST_CELL, NEXT_FIT_CLASS, SINGLE_CLASS}
use Rattle.kn_base.specs.Sizes.{frame_count}
use Rattle.kn_base.specs.Spans.{AreApart, LiesIn}
use Rattle.kn_base.specs.Functions.{upd}
use Rattle.kn_base.proofs.Updates.{upd_here, upd_else}
use Rattle.kn_layout.specs.Layouts.{cell_size}
use Rattle.kn_graph.specs.declared.calls.Call.{Call}
use Rattle.kn_graph.specs.declared.calls.Call.TheVariants.{New, NewArray}
use Rattle.kn_graph.specs.declared.calls.Reply.TheVariants as replies
use Rattle.kn_graph.specs.Ground.{Ground, IsGoodGround}
use Rattle.kn_graph.specs.Graph.{Graph, Shape, shape_of, shapes, pointers, numbers, Lives, words_of, cell_at, newborn, with_birth, with_entered}
use Rattle.kn_graph.specs.Graph.{length_for, IsLegalBirth}
use Rattle.kn_graph.specs.Sound.{IsSound, HasCell}
use Rattle.kn_graph.specs.Answers.{MayAnswer}
use Rattle.kn_graph.specs.Arguments.{IsInRange}
use Rattle.kn_graph.proofs.LegalGraphs.{next_sound}
use Rattle.kn_graph.proofs.Lengths.{limits}
use Rattle.kn_graph.proofs.Parts.{birth_written}
use Rattle.kn_rule.specs.declared.steps.Kind.TheVariants.{K8}
use Rattle.kn_rule.specs.declared.steps.Action.{Action}
use Rattle.kn_rule.specs.declared.steps.Action.TheVariants.{Stores}
use Rattle.kn_rule.specs.declared.positions.Position.TheVariants.{Calling, Writing}
use Rattle.kn_rule.specs.Decoding.{phase_of, frame_of}
use Rattle.kn_rule.specs.FrameSpans.{frame_span}
use Rattle.kn_rule.specs.Phases.{pauses}
use Rattle.kn_rule.specs.Places.{put}
use Rattle.kn_rule.specs.Views.{View, Views, State, Open, views_of}
use Rattle.kn_rule.specs.Requests.{words_asked, birth_of, birth_words, class_for, class_where, InArea, IsCellOf, cleared_word, header_for}
use Rattle.kn_rule.specs.Steps.{Found, does, entry_of, epoch_in, callers}
use Rattle.kn_rule.specs.Outcomes.{born_at, birth_said}
use Rattle.kn_rule.specs.Allowed.{MayBirth}
use Rattle.kn_rule.specs.Moves.{stepped_by}
use Rattle.kn_rule.specs.ObjectClauses.{IsCleared, IsAskedBy, Headed, Fielded, ReadRight, Localed, Globaled, Named, Apart, IsMarked, IsHeadedBy}
use Rattle.kn_rule.specs.FrameClauses.{Housed, Handed, Placed, IsExtraCell, IsFilled, IsClassAsked}
use Rattle.kn_rule.specs.MarkClauses.{Phased}
use Rattle.kn_rule.specs.Rule.{Represents, Rule, RuleOf}
use Rattle.kn_rule.proofs.FrameSpans.{is_span, one_frame}
use Rattle.kn_keep_heap.specs.Answered.{staying, Stays}
use Rattle.kn_keep_heap.proofs.Changed.{some_is}
use Rattle.kn_keep_heap.proofs.Parts.{local_put, own_same, taken_put, views_answer}
use Rattle.kn_keep_heap.proofs.Locals.{local_read}
use Rattle.kn_keep_heap.proofs.Positions.{read_at}
use Rattle.kn_keep_heap.proofs.Values.{below_sixteen}
use Rattle.kn_keep_heap.proofs.Answers.{follows, epoch_call, answered}
use Rattle.kn_keep_heap.proofs.Phases.{phased_out}
use Rattle.kn_keep_heap.proofs.ReadLaws.{ranges, few, snd, calls_out, quiet}
use Rattle.kn_keep_heap.proofs.NextWord.{request_two}
use Rattle.kn_keep_heap.proofs.Births.{headed_born, rests_born, fielded_born, localed_born, globaled_born, named_born, read_born, apart_born, cleared_born}
use Rattle.kn_keep_heap.proofs.Births.{taken_in_born, housed_born, placed_born, handed_born}

-- a birth is an answer of its call, and its local is one of the sixteen
module _ (z : Ground) (by : ℕ) (g : Graph) (b : ℕ × ℕ × ℕ) (a : ℕ) (legal : IsLegalBirth z g (cell_at a b.2)) where
  birth_answer : (call : Call) → birth_of z call ≡ Some b → MayAnswer z by call g replies.Ok a (with_birth g by b.0 (newborn a b.1 b.2))
  birth_answer (New r layout) e =
      let n = length_for z layout 0 in
      subst (λ (b : ℕ × ℕ × ℕ). IsLegalBirth z g (cell_at a b.2) →
      MayAnswer z by (New r layout) g replies.Ok a (with_birth g by b.0 (newborn a b.1 b.2))) (some_is (r, layout, n) b e)
      (λ l. inl (record { reply_is = refl; legal = l; after = refl })) legal
  birth_answer (NewArray r layout k) e =
      let n = length_for z layout k in
      subst (λ (b : ℕ × ℕ × ℕ). IsLegalBirth z g (cell_at a b.2) →
      MayAnswer z by (NewArray r layout k) g replies.Ok a (with_birth g by b.0 (newborn a b.1 b.2))) (some_is (r, layout, n) b e)
      (λ l. inl (record { reply_is = refl; legal = l; after = refl })) legal
  birth_answer _ e = let h : Option.None ≡ Some b = e in absurd (cc)

birth_local : (z : Ground) (call : Call) (b : ℕ × ℕ × ℕ) → IsInRange z call → birth_of z call ≡ Some b → b.0 < 16
birth_local z (New r layout) b fits e =
    subst (λ (b : ℕ × ℕ × ℕ). b.0 < 16) (some_is (r, layout, length_for z layout 0) b e) (below_sixteen r fits.0)
birth_local z (NewArray r layout n) b fits e =
    subst (λ (b : ℕ × ℕ × ℕ). b.0 < 16) (some_is (r, layout, length_for z layout n) b e) (below_sixteen r fits.0)
birth_local z _ b fits e = let h : Option.None ≡ Some b = e in absurd (cc)

pauses_at_most : (e : ℕ) (c : Code) → pauses (record { epoch = e; code = c }) ≤ e
pauses_at_most e codes.Idle = omega arith
pauses_at_most e codes.StopA = omega arith
pauses_at_most e codes.Mark = omega arith
pauses_at_most e codes.Weak = omega arith
pauses_at_most e codes.StopB = omega arith
pauses_at_most e codes.Prep = omega arith
pauses_at_most e codes.Sweep = omega arith

-- the epoch of a call under way fits its word
pub epoch_small : (z : Ground) (s : State) (by : ℕ) → by < z.sizes.threads → (g : Graph) →
    RuleOf z g s.word s.page (views_of s.caller) s.history → (call : Call) → (s.caller by).position ≡ Calling call → epoch_in (s.caller by) < 2 ^ 32
epoch_small z s by less g rule call is =
    let now = phase_of (s.word Phase) in
    let e : epoch_in (s.caller by) ≡ pauses now = epoch_call z g s.word s.page (views_of s.caller) s.history rule by less call is
    ∙ rule.stands.timed.now in
    let r = rule.stands.timed.packs.ranges in let l = pauses_at_most now.epoch now.code in omega arith

-- a request of two words or more has a class of cells for objects
pub class_at : (z : Sizes) (n : ℕ) → 2 ≤ n → (2 ≤ class_for z n) × (class_for z n ≤ SINGLE_CLASS)
class_at z n two = elim (leb_tells n MOST_CELL) [
  | inl a ↦
      let e : class_for z n ≡ n = ap (λ b. cond b n (cond (leb n z.small_words) NEXT_FIT_CLASS SINGLE_CLASS)) a.0 in
      let l = a.1 in (omega arith, omega arith)
  | inr a ↦
      let e : class_for z n ≡ cond (leb n z.small_words) NEXT_FIT_CLASS SINGLE_CLASS =
      ap (λ b. cond b n (cond (leb n z.small_words) NEXT_FIT_CLASS SINGLE_CLASS)) a.0 in
      elim (leb_tells n z.small_words) [
        | inl b ↦ let f : class_for z n ≡ NEXT_FIT_CLASS = e ∙ ap (λ (b : Bool). cond {A = ℕ} b NEXT_FIT_CLASS SINGLE_CLASS) b.0 in
            (omega arith, omega arith)
        | inr b ↦ let f : class_for z n ≡ SINGLE_CLASS = e ∙ ap (λ (b : Bool). cond {A = ℕ} b NEXT_FIT_CLASS SINGLE_CLASS) b.0 in
            (omega arith, omega arith)
      ]
]

for_cells : (z : Sizes) (p class : ℕ) → class ≤ SINGLE_CLASS → InArea z p class → p < z.small + z.large
for_cells z p class l a = elim (cases_lt NEXT_FIT_CLASS class) [
  | inl more ↦ let e : class ≡ SINGLE_CLASS = omega arith in (a.large e).1
  | inr less ↦ let h = a.small less in omega arith
]

module _ (z : Ground) (good : IsGoodGround z) (s : State) (by : ℕ) (less : by < z.sizes.threads) (g : Graph)
    (rule : RuleOf z g s.word s.page (views_of s.caller) s.history) (f : Found) (here : ℕ → Bool) (p : Place) (a : Action)
    (may : MayBirth z by (s.caller by) here p a) where
  abbrev V : Views
  V = views_of s.caller

  abbrev at : ℕ
  at = may.cell.span.start

  abbrev new : Shape
  new = shape_of (newborn may.cell.span.start may.birth.1 may.birth.2)

  abbrev mark : ℕ
  mark = 4 * epoch_in (s.caller by) + 3

  abbrev side : ℕ → ℕ
  side = λ b. s.word (Side b)

  abbrev body : ℕ → ℕ
  body = λ b. s.word (Body b)

  n : by < callers z.sizes
  n = few z s by less g rule

  S : IsSound z g
  S = snd z s by less g rule

  asked : words_asked z may.call ≡ Some may.cell.span.len
  asked = subst (λ q. IsAskedBy z q may.cell) may.is_call (rule.stands.apart.asked by may.cell n may.is_cell)

  len_is : may.cell.span.len ≡ cell_size may.birth.2
  len_is = some_is may.cell.span.len (cell_size may.birth.2) (sym asked ∙ ap birth_words may.is_birth)

  cell_is : may.cell.span ≡ words_of new
  cell_is = λ t. record { start = may.cell.span.start; len = len_is t }

  clear_of : (m : ℕ) → Lives g.born (shapes g) m → AreApart (words_of (shapes g m)) (words_of new)
  clear_of m l = subst (λ (x : Span). AreApart (words_of (shapes g m)) x) cell_is (rule.stands.apart.objects by m may.cell n may.is_cell l)

  hold : (o : Open) × (V.own by may.cell.frame ≡ Some o) × IsClassAsked z (V.position by) (frame_of o.word).class
      × IsCellOf (frame_of o.word).class (frame_span z.sizes may.cell.frame) may.cell.span
  hold = rule.stands.taken_in.owned by may.cell n may.is_cell

  in_frame : (may.cell.frame < frame_count z.sizes) × LiesIn may.cell.span (frame_span z.sizes may.cell.frame)
      × (may.cell.cleared ≤ may.cell.span.len)
  in_frame = rule.stands.apart.inside by may.cell n may.is_cell

  framed : (may.cell.frame < frame_count z.sizes) × (s.word (Frame may.cell.frame) ≡ hold.0.word)
      × ((frame_of (s.word (Frame may.cell.frame))).kind ≡ frames.Owned) × ((frame_of (s.word (Frame may.cell.frame))).seat ≡ by)
  framed = rule.stands.framed.owning may.cell.frame by hold.0 n hold.1

  two : 2 ≤ may.cell.span.len
  two = request_two z may.call may.cell.span.len asked

  class_is : (frame_of (s.word (Frame may.cell.frame))).class ≡ class_for z.sizes may.cell.span.len
  class_is =
      let class = (frame_of hold.0.word).class in
      ap (λ w. (frame_of w).class) framed.1 ∙ (subst (λ q. IsClassAsked z q class) may.is_call hold.2 ∙ ap (class_where z.sizes) asked)

  cells_here : may.cell.frame < z.sizes.small + z.sizes.large
  cells_here =
      let c = class_at z.sizes may.cell.span.len two in
      for_cells z.sizes may.cell.frame (class_for z.sizes may.cell.span.len) c.1 (subst (λ c. InArea z.sizes may.cell.frame c) class_is
      (rule.stands.classed.area may.cell.frame in_frame.0 (λ e. let q = class_is in let c0 = c.0 in absurd (omega arith))))

  legal : IsLegalBirth z g (cell_at at may.birth.2)
  legal = record {
    in_frame = record {
      frame = may.cell.frame;
      is_for_cells = cells_here;
      words = frame_span z.sizes may.cell.frame;
      is_frame = is_span z.sizes good.sizes may.cell.frame in_frame.0;
      inside = subst (λ (x : Span). LiesIn x (frame_span z.sizes may.cell.frame)) cell_is in_frame.1;
    };
    free = clear_of;
  }

  abbrev g' : Graph
  g' = with_birth g by may.birth.0 (newborn at may.birth.1 may.birth.2)

  answer : MayAnswer z by may.call g replies.Ok at g'
  answer = birth_answer z by g may.birth at legal may.call may.is_birth

  now : pauses (phase_of (V.polled by)) ≡ g.paused
  now = epoch_call z g s.word s.page V s.history rule by less may.call may.is_call

  sh : ◌≡◌ {A = ℕ → Shape} (upd (shapes g) g.born new) (shapes g')
  sh = sym (birth_written g by may.birth.0 (newborn at may.birth.1 may.birth.2)).shapes_are

  pt : ◌≡◌ {A = ℕ → ℕ → Option ℕ} (upd (pointers g) g.born (λ _. None)) (pointers g')
  pt = sym (birth_written g by may.birth.0 (newborn at may.birth.1 may.birth.2)).pointers_are

  nm : ◌≡◌ {A = ℕ → ℕ → ℕ} (upd (numbers g) g.born (λ _. 0)) (numbers g')
  nm = sym (birth_written g by may.birth.0 (newborn at may.birth.1 may.birth.2)).numbers_are

  -- the new object is one of a sound graph, so its layout and its length are small
  has_cell : HasCell z new
  has_cell =
      let next = follows z g V s.history rule.told rule.formed by less may.call may.is_call now replies.Ok at g' answer in
      let after = next_sound z (entry_of by (epoch_in (s.caller by)) may.call replies.Ok at) g (with_entered g' by (epoch_in (s.caller by))) S next in
      subst (λ (o : Shape). HasCell z o) (sym (ap (λ (h : ℕ → Shape). h g.born) sh) ∙ upd_here (shapes g) g.born new)
      (after.cells g.born (omega arith))

  ranged : (may.birth.1 < 64) × (may.birth.2 ≤ 60000)
  ranged = limits z new has_cell good

  small : may.birth.0 < 16
  small = birth_local z may.call may.birth (ranges z s by less g rule may.call may.is_call) may.is_birth

  cleared : (i : ℕ) → i < may.cell.span.len → body (at + i) ≡ cleared_word z (V.local by) may.call i
  cleared i l =
      let done = subst (λ x. IsCleared z body (V.local by) (V.position by) x) may.is_cell (rule.stands.cleared.each by n) in
      (subst (λ q. IsCleared z body (V.local by) q (Some may.cell)) may.is_call done) i (let w = may.whole in omega arith)

  headed_new : IsHeadedBy new (body at)
  headed_new =
      let l = two in let e : at ≡ at + 0 = omega arith in
      record {
        extra = 0;
        ranges = record { of_layout = ranged.0; of_length = ranged.1; of_extra = omega arith };
        packs = ap body e ∙ (cleared 0 (omega arith) ∙ ap header_for may.is_birth);
      }

  zero_is : (i : ℕ) → i < may.birth.2 → body (at + 1 + i) ≡ 0
  zero_is i l =
      let e : at + 1 + i ≡ at + suc i = omega arith in let w = len_is in
      ap body e ∙ (cleared (suc i) (omega arith)
      ∙ ap (λ b. cond b (header_for (birth_of z may.call)) 0) (ne_eqb (suc i) 0 (λ h. absurd (omega arith))))

  mark_new : IsMarked mark
  mark_new = record {
    mark = record { epoch = epoch_in (s.caller by); colour = colours.Black };
    ranges = epoch_small z s by less g rule may.call may.is_call;
    packs = refl;
  }

  marked : mark ≢ 0
  marked e = absurd (omega arith)

  no_extra : (x : ℕ) → IsExtraCell z.sizes x → may.cell.span.start ≢ x
  no_extra x c e =
      let i = in_frame.1 in let i0 = i.0 in let i1 = i.1 in let t = two in let l = c.at in let d = c.inside in let fr = c.from in
      let h = cells_here in
      let p = one_frame z.sizes good.sizes may.cell.frame c.frame may.cell.span.start in_frame.0 c.near (omega arith, omega arith) (
        omega arith,
        omega arith,
      ) in
      absurd (omega arith)

  mine_away : (j : ℕ) → j < frame_count z.sizes → (frame_of (s.word (Frame j))).kind ≢ frames.Owned → may.cell.frame ≢ j
  mine_away j l ne e = ne (ap (λ i. (frame_of (s.word (Frame i))).kind) (sym e) ∙ framed.2)

  theirs_away : (c j : ℕ) (o : Open) → c < callers z.sizes → by ≢ c → V.own c j ≡ Some o → (j < frame_count z.sizes) × (may.cell.frame ≢ j)
  theirs_away c j o l ne e =
      let h = rule.stands.framed.owning j c o l e in
      (h.0, λ i. ne (sym framed.3 ∙ (ap (λ k. (frame_of (s.word (Frame k))).seat) i ∙ h.3)))

  placed_as : IsCellOf (frame_of (s.word (Frame may.cell.frame))).class (frame_span z.sizes may.cell.frame) (words_of new)
  placed_as =
      let span = frame_span z.sizes may.cell.frame in
      subst (λ w. IsCellOf (frame_of w).class span (words_of new)) (sym framed.1)
      (subst (λ (x : Span). IsCellOf (frame_of hold.0.word).class span x) cell_is hold.3)

  -- the views without the cell
  abbrev V' : Views
  V' = record (views_of s.caller) { taken = upd (λ c. (s.caller c).taken) by None }

  stands : Represents z g' (put s.word (Side at) mark) s.page V'
  stands = record {
    timed = rule.stands.timed;
    headed = subst (λ (h : ℕ → Shape). Headed z (g.born + 1) h (upd side at mark) body) sh
        (headed_born z g S new refl clear_of side body mark rule.stands.headed mark_new headed_new);
    fielded = subst (λ (h : ℕ → Shape). Fielded z (g.born + 1) h (pointers g') (numbers g') body) sh
        (subst (λ (x : ℕ → ℕ → Option ℕ). Fielded z (g.born + 1) (upd (shapes g) g.born new) x (numbers g') body) pt
        (subst (λ (x : ℕ → ℕ → ℕ). Fielded z (g.born + 1) (upd (shapes g) g.born new) (upd (pointers g) g.born (λ _. None)) x body) nm
        (fielded_born z g S new refl clear_of body rule.stands.fielded zero_is)));
    cleared = cleared_born z g S new refl clear_of side mark marked no_extra V.taken by may.cell may.is_cell cell_is body V.local V.position
        rule.stands.cleared;
    globaled = subst (λ (h : ℕ → Shape). Globaled z h g.global (λ i. s.word (Global i))) sh
        (globaled_born z g S new refl clear_of (λ i. s.word (Global i)) rule.stands.globaled);
    named = subst (λ (h : ℕ → Shape). Named z.sizes h g.stable g.weak g.back g.count (λ k. s.word (Node k))) sh
        (named_born z g S new refl clear_of (λ k. s.word (Node k)) rule.stands.named);
    apart = subst (λ (h : ℕ → Shape). Apart z (g.born + 1) h V.position (upd V.taken by None)) sh
        (apart_born z g S new refl clear_of side mark marked no_extra V.taken by may.cell may.is_cell cell_is V.position n rule.stands.apart);
    stated = rule.stands.stated;
    at_end = rule.stands.at_end;
    polling = rule.stands.polling;
    owners = rule.stands.owners;
    stopped = rule.stands.stopped;
    wanted = rule.stands.wanted;
    working = rule.stands.working;
    framed = rule.stands.framed;
    housed = subst (λ (h : ℕ → Shape). Housed z.sizes (IsFilled z.sizes (g.born + 1) h (upd side at mark)) (λ i. s.word (Frame i)) s.page) sh
        (housed_born z g S new refl clear_of side mark marked no_extra V.taken by may.cell may.is_cell cell_is good in_frame.0 in_frame.1
        (λ i. s.word (Frame i)) s.page rule.stands.housed mine_away);
    handed = subst (λ (h : ℕ → Shape). Handed z.sizes (callers z.sizes) (IsFilled z.sizes (g.born + 1) h (upd side at mark)) V.own
        (upd V.taken by None) (λ c. (V.rest c).sweep)) sh
        (handed_born z g S new refl clear_of side mark marked no_extra V.taken by may.cell may.is_cell cell_is good in_frame.0 in_frame.1
        V.own (λ c. (V.rest c).sweep) rule.stands.handed theirs_away);
    classed = rule.stands.classed;
    placed = subst (λ (h : ℕ → Shape). Placed z.sizes (g.born + 1) h (λ i. s.word (Frame i))) sh
        (placed_born z g S new refl clear_of side mark marked no_extra V.taken by may.cell may.is_cell cell_is good in_frame.0 in_frame.1
        (λ i. s.word (Frame i)) rule.stands.placed placed_as);
    taken_in = taken_in_born z g S new refl clear_of side mark marked no_extra V.taken by may.cell may.is_cell cell_is
        V.position V.own (λ c. (V.rest c).sweep) rule.stands.taken_in;
  }

  abbrev v : View
  v = record (s.caller by) {
    position = Writing may.birth.0 at 0;
    header = None;
    taken = None;
    locals = slice_set (s.caller by).locals may.birth.0 at;
    log = (s.caller by).log ++ entry_of by (epoch_in (s.caller by)) may.call replies.Ok at ∷ [];
  }

  near : may.birth.0 < length (s.caller by).locals
  near = let e = rule.formed.locals by less in let r = small in omega arith

  stays : Stays (s.caller by) v
  stays = λ t. record (staying (s.caller by)) { width = (length-set (s.caller by).locals may.birth.0 at t, length (s.caller by).owned) }

  born_kept : Rule z (stepped_by s by (does K8 (Side at) (Stores mark)) f
      (record { view = record v { log = (s.caller by).log }; says = entry_of by (epoch_in (s.caller by)) may.call replies.Ok at ∷ [] }))
  born_kept =
      let after : Graph = with_entered g' by (epoch_in (s.caller by)) in
      let values : ℕ → ℕ → Option ℕ = upd g.local by (upd (g.local by) may.birth.0 (Some g.born)) in
      let local : ℕ → ℕ → ℕ = upd V.local by (upd (V.local by) may.birth.0 at) in
      let shape : ℕ → Shape = upd (shapes g) g.born new in
      let out = calls_out z s by less g rule may.call may.is_call in (
        after,
        subst (λ W. RuleOf z after (put s.word (Side at) mark) s.page W (s.history ++ entry_of by
            (epoch_in (s.caller by)) may.call replies.Ok at ∷ []))
            (sym (views_answer s.caller by v stays (local_put s.caller by v may.birth.0 at near refl) (own_same s.caller by v refl)
            (taken_put s.caller by v)))
            (answered z g V' s.history rule.told rule.formed by less may.call may.is_call now replies.Ok at g'
            (put s.word (Side at) mark) s.page stands
            (subst (λ (h : ℕ → Shape). Phased z g.paused (g.born + 1) h (put s.word (Side at) mark) (λ c. (V.rest c).work)) sh
            (phased_out z g.paused (g.born + 1) shape (put s.word (Side at) mark) (λ c. (V.rest c).work) out
            (rests_born z g S new refl clear_of side (λ j. s.word (RootSet j)) (λ c. (V.rest c).work) (epoch_in (s.caller by)) now refl
            (rule.phased.at_rest out))))
            answer (Writing may.birth.0 at 0) small (upd_here V.taken by None) local
            (λ c ne. upd_else V.local by (upd (V.local by) may.birth.0 at) c ne)
            (subst (λ (h : ℕ → Shape). Localed z h values (λ c i. s.word (Local c i)) (upd V.position by (Writing may.birth.0 at 0)) local) sh
            (local_read z shape g.local (λ c i. s.word (Local c i)) V.position V.local
            (localed_born z g S new refl clear_of (λ c i. s.word (Local c i)) V.position V.local rule.localed) by may.birth.0 at (Some g.born)
            (sym (ap (λ (o : Shape). o.address) (upd_here (shapes g) g.born new))) (quiet z s by less g rule may.call may.is_call)))
            (subst (λ (h : ℕ → Shape). ReadRight z h values (upd V.position by (Writing may.birth.0 at 0)) (upd V.header by None)) sh
            (read_at z V.position by (Writing may.birth.0 at 0) shape g.local V.header (upd (g.local by) may.birth.0 (Some g.born)) None
            (read_born z g S new refl clear_of V.position V.header rule.read_right) tt))),
      )

  pub born : Rule z (stepped_by s by (does K8 (Side at) (Stores mark)) f
      (born_at z by (s.caller by) (Side at) (Stores mark) f (s.caller by).position))
  born =
      subst (λ x. Rule z (stepped_by s by (does K8 (Side at) (Stores mark)) f (born_at z by (s.caller by) (Side at) (Stores mark) f x)))
      (sym may.is_call)
      (subst (λ x. Rule z (stepped_by s by (does K8 (Side at) (Stores mark)) f (birth_said z by (s.caller by) (Side at)
      (Stores mark) f may.call x)))
      (sym may.is_birth) born_kept)
