-- The law of the pause: the store of Weak.
use Rattle.std.proofs.Common.{◌≡◌, ◌≢◌, inl, inr, ℕ, ◌+◌, ◌-◌, ◌<◌, ◌≤◌, Bool, true, false, cond, List, [], ◌∷◌}
use Rattle.std.proofs.Common.{◌++◌, length, Option, Some}
use Rattle.std.proofs.Common.{None, refl, sym, ap, ◌∙◌, subst, arith, slice_get}
use Rattle.std.proofs.lemmas.Bool.Decides.{eqb_tells}
use Rattle.kn_base.specs.declared.places.Place.{Place}
use Rattle.kn_base.specs.declared.places.Place.TheVariants.{Phase, Want, Pending, RootSet, State as StateOf, Local, Global, Node, Frame, Side, Body}
use Rattle.kn_base.specs.declared.kinds.Code.TheVariants as codes
use Rattle.kn_base.specs.declared.phase_word.PhaseWord.{PhaseWord}
use Rattle.kn_base.specs.Words.{packed_phase}
use Rattle.kn_base.specs.Functions.{upd, Tells}
use Rattle.kn_base.proofs.Updates.{upd_here, upd_else, upd_same}
use Rattle.kn_graph.specs.declared.entries.Entry.{Entry}
use Rattle.kn_graph.specs.Ground.{Ground, IsGoodGround}
use Rattle.kn_graph.specs.Graph.{Graph, shapes, pointers, numbers, empty_graph, with_entered}
use Rattle.kn_graph.specs.Collections.{with_condemned}
use Rattle.kn_graph.specs.Counts.{births_among}
use Rattle.kn_graph.specs.Histories.{Follows}
use Rattle.kn_graph.specs.Logs.{log_of, calls_of}
use Rattle.kn_graph.proofs.Splits.{appended, log_of-append}
use Rattle.kn_marking.specs.declared.work.Work.{Work}
use Rattle.kn_marking.specs.Marking.{Marking, Shares}
use Rattle.kn_marking.proofs.Rests.{rests}
use Rattle.kn_rule.specs.declared.steps.Kind.TheVariants.{K14}
use Rattle.kn_rule.specs.declared.steps.Action.TheVariants.{Stores}
use Rattle.kn_rule.specs.Decoding.{phase_of}
use Rattle.kn_rule.specs.Places.{put}
use Rattle.kn_rule.specs.Phases.{is_stop, pauses, last_done}
use Rattle.kn_rule.specs.Views.{View, Views, State, Rest as Others, Collecting, Sweep, views_of, rest_of}
use Rattle.kn_rule.specs.Steps.{Found, Outcome, does, callers, pause_of}
use Rattle.kn_rule.specs.MarkedHeap.{heap_of}
use Rattle.kn_rule.specs.MarkSteps.{joined_by}
use Rattle.kn_rule.specs.Outcomes.{counted_from, paused_at, phase_stored}
use Rattle.kn_rule.specs.Allowed.{Collects, MayPause}
use Rattle.kn_rule.specs.Moves.{stepped_by}
use Rattle.kn_rule.specs.HistoryClauses.{Told, under_way, births_under_way}
use Rattle.kn_rule.specs.CallerClauses.{IsInOrLeaving, IsStill, IsTarget, MayOwn, Polled, Wanted, Working}
use Rattle.kn_rule.specs.FrameClauses.{IsFilled, Handed, TakenIn}
use Rattle.kn_rule.specs.MarkClauses.{Rests, Phased}
use Rattle.kn_rule.specs.Rule.{Standing, Rule, RuleOf}
use Rattle.kn_rule.proofs.Decodings.{phase_packed, phase_packs}
use Rattle.kn_keep_heap.proofs.Phases.{phased_out}
use Rattle.kn_keep_heap.proofs.PollLaws.{in_leaves}
use Rattle.kn_keep_heap.proofs.Wants.{wanted_said}
use Rattle.kn_keep_heap.proofs.Parts.{local_same, own_same, taken_same, position_same, polled_same, target_same, header_same, log_put, calls_same}
use Rattle.kn_keep_heap.proofs.Parts.{births_same, rest_put, width_same}
use Rattle.kn_keep_mark.proofs.Collected.{rest_with, sweeps_stay, works_put}
use Rattle.kn_keep_mark.proofs.CollectorLaws.{ended_kept, working_kept, known_kept, by_me}
use Rattle.kn_keep_marking.proofs.Stands.{graph_sound, words_stand}
use Rattle.kn_keep_marking.proofs.Condemned.{flagged, headed_flagged, fielded_flagged, globaled_flagged, localed_flagged, named_flagged, read_flagged}
use Rattle.kn_keep_marking.proofs.Condemned.{apart_flagged, placed_flagged}
use Rattle.kn_keep_marking.proofs.Pausing as at_pause

-- the log of each caller behind an entry of one of them
log_at : (by epoch : ℕ) (h : List Entry) (log : ℕ → List Entry) (c : ℕ) → log_of c h ≡ log c → Tells by c →
    log_of c (h ++ pause_of by epoch ∷ []) ≡ upd log by (log by ++ pause_of by epoch ∷ []) c
log_at by epoch h log c e (inl t) =
    log_of-append c h (pause_of by epoch) ∙ (ap (λ b. cond b (log_of c h ++ pause_of by epoch ∷ []) (log_of c h)) t.0
    ∙ (ap (λ (l : List Entry). l ++ pause_of by epoch ∷ []) (e ∙ ap log (sym t.1))
    ∙ ap (λ b. cond b (log by ++ pause_of by epoch ∷ []) (log c)) (sym t.0)))
log_at by epoch h log c e (inr t) =
    log_of-append c h (pause_of by epoch) ∙ (ap (λ b. cond b (log_of c h ++ pause_of by epoch ∷ []) (log_of c h)) t.0
    ∙ (e ∙ ap (λ b. cond b (log by ++ pause_of by epoch ∷ []) (log c)) (sym t.0)))

-- a target stays one where one more pause has come
target_on : (paused want : ℕ) (t : Option ℕ) (log : List Entry) → IsTarget paused want t log → IsTarget (paused + 1) want t log
target_on paused want None log h = tt
target_on paused want (Some n) log h = let l = h.1 in (h.0, omega (arith, l), h.2, h.3)

module _ (z : Ground) (good : IsGoodGround z) (s : State) (g : Graph) (rule : RuleOf z g s.word s.page (views_of s.caller) s.history) (by : ℕ)
    (here : ℕ → Bool) (collects : Collects z by (s.caller by) here) (f : Found) (mark : (phase_of (s.word Phase)).code ≡ codes.Mark)
    (none : s.word Pending ≡ 0) (over : (s.caller by).collecting.over ≡ true) where
  abbrev V : Views
  V = views_of s.caller

  abbrev old : Collecting
  old = (s.caller by).collecting

  abbrev works : ℕ → Work
  works = λ c. (s.caller c).work

  abbrev e : ℕ
  e = (phase_of (s.word Phase)).epoch

  abbrev v : PhaseWord
  v = record { epoch = e; code = codes.Weak }

  abbrev w : ℕ
  w = packed_phase v

  abbrev word : Place → ℕ
  word = put s.word Phase w

  some : 1 ≤ e
  some = rule.stands.timed.some (λ h. let x : codes.Mark ≡ codes.Idle = sym mark ∙ h in cc)

  paused_is : g.paused ≡ e - 1
  paused_is = rule.stands.timed.now ∙ ap (λ c. pauses (record { epoch = e; code = c })) mark

  done_is : g.done ≡ e - 1
  done_is = rule.stands.timed.last ∙ ap (λ c. last_done (record { epoch = e; code = c })) mark

  m : Marking (heap_of z g.born (shapes g) s.word) g.paused e (callers z.sizes) (λ a. s.word (Side a)) (λ j. s.word (RootSet j)) works
      (s.word Pending)
  m = (rule.phased.in_mark mark).marking

  abbrev flag : ℕ → Bool
  flag = at_pause.flag z good g (graph_sound z good s g rule) s.word (words_stand z good s g rule mark) e (λ j. s.word (RootSet j)) works
      (s.word Pending) m none

  stays : (n : ℕ) → (g.object n).condemned ≡ true → flag n ≡ true
  stays = at_pause.stays z good g (graph_sound z good s g rule) s.word (words_stand z good s g rule mark) e (λ j. s.word (RootSet j)) works
      (s.word Pending) m none

  spares : (n : ℕ) → flag n ≡ false → (g.object n).condemned ≡ false
  spares = at_pause.spares z good g (graph_sound z good s g rule) s.word (words_stand z good s g rule mark) e (λ j. s.word (RootSet j)) works
      (s.word Pending) m none

  -- the graph after the pause
  abbrev g1 : Graph
  g1 = record (with_condemned g flag) { paused = e }

  abbrev g2 : Graph
  g2 = with_entered g1 by e

  abbrev entry : Entry
  entry = pause_of by e

  follows : Follows z entry g g2
  follows = record {
    graph = g1;
    event = (
      record { by_collector = collects.collector; epoch_is = refl },
      record {
        next = omega (arith, some, paused_is);
        last_done = omega (arith, paused_is, done_is);
        flag = flag;
        condemns = at_pause.condemns z good g (graph_sound z good s g rule) s.word (words_stand z good s g rule mark) e (λ j. s.word (RootSet j))
            works (s.word Pending) m none;
        after = refl;
      },
    );
    after = refl;
  }

  abbrev log' : ℕ → List Entry
  log' = upd V.log by (V.log by ++ entry ∷ [])

  -- no mutator says anything
  same_log : (c : ℕ) → c < z.sizes.threads → log' c ≡ V.log c
  same_log c l = upd_else V.log by (V.log by ++ entry ∷ []) c (λ h. let t = collects.collector in absurd (omega (arith, l, h, t)))

  told : Told z g2 (s.history ++ entry ∷ []) log' V.position V.target V.calls V.births
  told = record {
    leads = appended z s.history entry empty_graph g g2 rule.told.leads follows;
    logs = λ c l. log_at by e s.history V.log c (rule.told.logs c l) (eqb_tells by c);
    calls_are = λ c l. ap (λ (x : List Entry). length (calls_of x) + under_way (V.position c) (V.target c)) (same_log c l) ∙ rule.told.calls_are c l;
    births_are = λ c l. ap (λ (x : List Entry). births_among (calls_of x) + births_under_way (V.position c)) (same_log c l) ∙ rule.told.births_are c l;
    calls_fit = rule.told.calls_fit;
    births_fit = rule.told.births_fit;
  }

  -- the collector's part and view
  abbrev part : Collecting
  part = record old { stored = w }

  abbrev mine : Work
  mine = (s.caller by).work

  abbrev rest' : ℕ → Others
  rest' = rest_with z s g rule by mine part

  abbrev paused_view : View
  paused_view = record (s.caller by) { collecting = part; log = (s.caller by).log ++ entry ∷ [] }

  views_paused : views_of (upd s.caller by paused_view) ≡ record V { rest = rest'; log = log' }
  views_paused =
      let u : View = paused_view in
      λ t. record {
        position = position_same s.caller by u refl t;
        polled = polled_same s.caller by u refl t;
        target = target_same s.caller by u refl t;
        local = local_same s.caller by u refl t;
        header = header_same s.caller by u refl t;
        own = own_same s.caller by u refl t;
        taken = taken_same s.caller by u refl t;
        log = log_put s.caller by u t;
        calls = calls_same s.caller by u refl t;
        births = births_same s.caller by u refl t;
        rest = rest_put s.caller by u t;
        width = width_same s.caller by u refl refl t;
      }

  part_is : (rest' z.sizes.threads).collecting ≡ part
  part_is =
      let u : View = paused_view in
      ap (λ (x : Others). x.collecting) (ap (upd V.rest by (rest_of u)) (sym collects.collector) ∙ upd_here V.rest by (rest_of u))

  sweeps : ◌≡◌ {A = ℕ → Option Sweep} (λ c. (V.rest c).sweep) (λ c. (rest' c).sweep)
  sweeps = sweeps_stay z s g rule by mine part

  back : v ≡ phase_of w
  back = sym (phase_packed v)

  code_is : (phase_of w).code ≡ codes.Weak
  code_is = ap (λ (x : PhaseWord). x.code) (phase_packed v)

  none_in : (c : ℕ) → c < z.sizes.threads → ¬ IsInOrLeaving (V.position c)
  none_in = rule.stands.stopped.still (subst (λ c. IsStill c) (sym mark) tt)

  polling : Polled z e w (s.word Want) V.position V.polled V.target log'
  polling = record {
    since = λ c l i. absurd (none_in c l (in_leaves (V.position c) i));
    untargeted = rule.stands.polling.untargeted;
    due = rule.stands.polling.due;
    targets = λ c l. subst (λ (x : List Entry). IsTarget e (s.word Want) (V.target c) x) (sym (same_log c l))
        (subst (λ n. IsTarget n (s.word Want) (V.target c) (V.log c)) (let p = paused_is in let o = some in omega (arith, p, o))
        (target_on g.paused (s.word Want) (V.target c) (V.log c) (rule.stands.polling.targets c l)));
  }

  wanted : Wanted z w (s.word Want) V.target log' old.wanted
  wanted =
      let r = wanted_said z (s.word Phase) (s.word Want) (V.rest z.sizes.threads).collecting.wanted V.target V.log by entry rule.stands.wanted in
      let reach = rule.stands.wanted.reached in
      record {
        reached = subst (λ (x : PhaseWord). x.epoch ≤ s.word Want) back reach;
        known = known_kept z s g rule by here collects f;
        targets = r.targets;
        few = r.few;
      }

  stands : Standing z g2.paused g2.done g2.born (shapes g2) (pointers g2) (numbers g2) g2.global g2.stable g2.weak g2.back g2.count w (s.word Want)
      (s.word Pending) (λ c. s.word (StateOf c)) (λ i. s.word (Global i)) (λ k. s.word (Node k)) (λ p. s.word (Frame p)) (λ a. s.word (Side a))
      (λ a. s.word (Body a)) s.page V.position V.polled V.target V.local V.own V.taken log' rest'
  stands =
      let r = rule.stands in
      let ended = ended_kept z s g rule by here collects f in
      record {
        timed = record {
          packs = phase_packs v r.timed.packs.ranges;
          now = ap pauses back;
          last = done_is ∙ ap last_done back;
          by_collector = sym (ap (λ (x : Collecting). x.stored) part_is);
          some = subst (λ (x : PhaseWord). x.code ≢ codes.Idle → 1 ≤ x.epoch) back (λ _. some);
        };
        headed = headed_flagged z g flag stays spares (λ a. s.word (Side a)) (λ a. s.word (Body a)) r.headed;
        fielded = fielded_flagged z g flag stays spares (λ a. s.word (Body a)) r.fielded;
        cleared = r.cleared;
        globaled = globaled_flagged z g flag stays spares (λ i. s.word (Global i)) r.globaled;
        named = named_flagged z g flag stays spares (λ k. s.word (Node k)) r.named;
        apart = apart_flagged z g flag stays spares V.position V.taken r.apart;
        stated = r.stated;
        at_end = record {
          seen = λ i l h. ended.seen i l (subst (λ (x : Collecting). slice_get x.ended i ≡ Some true) part_is h);
          all = ended.all;
        };
        polling = polling;
        owners = record { each = λ c p o l h. owner c (r.owners.each c p o l h) };
        stopped = record {
          still = λ h. absurd (subst (λ c. IsStill c) code_is h);
          stopping = λ h. let x : false ≡ true = sym (ap is_stop code_is) ∙ h in absurd (cc);
        };
        wanted = subst (λ (x : Collecting). Wanted z w (s.word Want) V.target log' x.wanted) (sym part_is) wanted;
        working = subst (λ (x : Collecting). Working z w (s.word Pending) x.over) (sym part_is) (record {
          none = λ _. none;
          all = λ _ h. let x : true ≡ false = sym over ∙ h in absurd (cc);
          at_rest = λ _. over;
        });
        framed = r.framed;
        housed = r.housed;
        handed = subst (λ (x : ℕ → Option Sweep). Handed z.sizes (callers z.sizes) (IsFilled z.sizes g.born (shapes g) (λ a. s.word (Side a)))
            V.own V.taken x) sweeps r.handed;
        classed = r.classed;
        placed = placed_flagged z g flag stays spares (λ p. s.word (Frame p)) r.placed;
        taken_in = subst (λ (x : ℕ → Option Sweep). TakenIn z V.position V.own V.taken x) sweeps r.taken_in;
      }
    where
      owner : (c : ℕ) → MayOwn z (s.word Phase) V.position c → MayOwn z w V.position c
      owner c (inl h) = inl h
      owner c (inr h) = let x : codes.Mark ≡ codes.Sweep = sym mark ∙ h.1 in absurd (cc)

  rested : Rests z e g.born (flagged z g flag stays spares) (λ a. s.word (Side a)) (λ j. s.word (RootSet j)) works
  rested = record {
    marks = λ n l. at_pause.blackened z good g (graph_sound z good s g rule) s.word (words_stand z good s g rule mark) e (λ j. s.word (RootSet j))
        works (s.word Pending) m none n l (rule.stands.headed.marks n l);
    shares = rests (heap_of z g.born (shapes g) s.word) e (callers z.sizes) (λ a. s.word (Side a)) (λ j. s.word (RootSet j)) works some
        (subst (λ n. Shares (heap_of z g.born (shapes g) s.word) e (callers z.sizes) (λ a. s.word (Side a)) (λ j. s.word (RootSet j)) works n) none
        m.shares);
  }

  phased : Phased z g2.paused g2.born (shapes g2) word (λ c. (rest' c).work)
  phased =
      subst (λ (x : ℕ → Work). Phased z g2.paused g2.born (shapes g2) word x) (sym (works_put z s g rule by mine part ∙ upd_same works by mine refl))
      (phased_out z g2.paused g2.born (shapes g2) word works (λ h. let x : codes.Weak ≡ codes.Mark = sym code_is ∙ h in cc) rested)

  paused_rule : RuleOf z g2 word s.page (views_of (upd s.caller by paused_view)) (s.history ++ entry ∷ [])
  paused_rule =
      subst (λ W. RuleOf z g2 word s.page W (s.history ++ entry ∷ [])) (sym views_paused)
      (record {
        told = told;
        formed = rule.formed;
        read_right = read_flagged z g flag stays spares V.position V.header rule.read_right;
        localed = localed_flagged z g flag stays spares (λ c r. s.word (Local c r)) V.position V.local rule.localed;
        stands = stands;
        phased = phased;
      })

  -- what a store of the word of a phase makes of the view, and says
  abbrev outcome_for : ℕ → PhaseWord → Outcome
  outcome_for n x = record {
    view = record (s.caller by) {
      work = joined_by x (s.caller by).work;
      collecting = record old { stored = n; counted = counted_from z by (s.caller by) Phase (Stores n) f x.code old.counted };
    };
    says = paused_at z by (s.caller by) Phase (Stores n) f x.code x.epoch;
  }

  pub weak_stored : Rule z (stepped_by s by (does K14 Phase (Stores w)) f (phase_stored z by (s.caller by) Phase (Stores w) f))
  weak_stored =
      subst (λ x. Rule z (stepped_by s by (does K14 Phase (Stores w)) f (outcome_for w x))) back (g2, paused_rule)

-- the store of Weak that the collector's view allows
pub pause_stored : (z : Ground) → IsGoodGround z → (s : State) (r : Rule z s) (by : ℕ) (here : ℕ → Bool) (f : Found) (w : ℕ) →
    Collects z by (s.caller by) here → MayPause z by (s.caller by) here w →
    Rule z (stepped_by s by (does K14 Phase (Stores w)) f (phase_stored z by (s.caller by) Phase (Stores w) f))
pause_stored z good s r by here f w collects m =
    let same : phase_of (s.caller by).collecting.stored ≡ phase_of (s.word Phase) = by_me z s r.0 r.1 by here collects f in
    let mark : (phase_of (s.word Phase)).code ≡ codes.Mark = ap (λ (x : PhaseWord). x.code) (sym same) ∙ m.in_mark in
    let none : s.word Pending ≡ 0 = (working_kept z s r.0 r.1 by here collects f).none m.over in
    let value : packed_phase (record { epoch = (phase_of (s.word Phase)).epoch; code = codes.Weak }) ≡ w =
    sym (m.value ∙ ap (λ (x : PhaseWord). packed_phase (record { epoch = x.epoch; code = codes.Weak })) same) in
    subst (λ n. Rule z (stepped_by s by (does K14 Phase (Stores n)) f (phase_stored z by (s.caller by) Phase (Stores n) f))) value
    (weak_stored z good s r.0 r.1 by here collects f mark none m.over)
