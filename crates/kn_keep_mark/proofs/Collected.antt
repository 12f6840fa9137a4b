-- What the clauses say where the collector's part changes.
use Rattle.std.proofs.Common.{◌≡◌, ℕ, ◌<◌, ◌≤◌, true, List, Option, Some, slice_get, refl, sym, subst, ap, ◌∙◌, arith}
use Rattle.kn_base.specs.declared.places.Place.{Place}
use Rattle.kn_base.specs.declared.places.Place.TheVariants.{Phase, Want, Pending, State as StateOf, Global, Node, Frame, Side, Body}
use Rattle.kn_base.specs.Pages.{FrameView}
use Rattle.kn_base.specs.Functions.{upd}
use Rattle.kn_base.proofs.Updates.{upd_here, upd_else, upd_same, part_same, part_upd}
use Rattle.kn_graph.specs.declared.entries.Entry.{Entry}
use Rattle.kn_graph.specs.Ground.{Ground}
use Rattle.kn_graph.specs.Graph.{Graph, Shape, shapes, pointers, numbers}
use Rattle.kn_marking.specs.declared.work.Work.{Work}
use Rattle.kn_rule.specs.declared.positions.Position.{Position}
use Rattle.kn_rule.specs.declared.parts.Taken.{Taken}
use Rattle.kn_rule.specs.Places.{put}
use Rattle.kn_rule.specs.Views.{View, Views, State, Open, Sweep, Rest, Collecting, views_of, rest_of}
use Rattle.kn_rule.specs.HistoryClauses.{Timed}
use Rattle.kn_rule.specs.CallerClauses.{AtEnd, Polled, Owners, Stopped, Wanted, Working}
use Rattle.kn_rule.specs.FrameClauses.{Handed, TakenIn, IsFilled}
use Rattle.kn_rule.specs.Steps.{callers}
use Rattle.kn_rule.specs.MarkClauses.{Phased}
use Rattle.kn_rule.specs.Rule.{Standing, RuleOf}
use Rattle.kn_keep_heap.proofs.Loads.{put_same}
use Rattle.kn_keep_heap.proofs.Parts.{local_same, own_same, taken_same, position_same, polled_same, target_same, header_same, log_same, calls_same}
use Rattle.kn_keep_heap.proofs.Parts.{births_same, rest_put, width_same}

-- the clauses, with another phase word and other parts that no sweep reads
module _ (z : Ground) (paused done born : ℕ) (shape : ℕ → Shape) (points : ℕ → ℕ → Option ℕ) (number : ℕ → ℕ → ℕ)
    (global stable weak back : ℕ → Option ℕ) (count : ℕ → ℕ) (phase want pending : ℕ) (state_word global_word node_word frame_word side body :
    ℕ → ℕ)
    (page : ℕ → Option FrameView) (position : ℕ → Position) (polled : ℕ → ℕ) (target : ℕ → Option ℕ) (local : ℕ → ℕ → ℕ)
    (own : ℕ → ℕ → Option Open) (taken : ℕ → Option Taken) (log : ℕ → List Entry) (rest : ℕ → Rest)
    (r : Standing z paused done born shape points number global stable weak back count phase want pending state_word global_word node_word frame_word
    side body page position polled target local own taken log rest) where
  pub stands_collected : (phase' pending' : ℕ) (rest' : ℕ → Rest) →
      ◌≡◌ {A = ℕ → Option Sweep} (λ c. (rest c).sweep) (λ c. (rest' c).sweep) →
      Timed paused done phase' (rest' z.sizes.threads).collecting.stored →
      Polled z paused phase' want position polled target log →
      Owners z phase' position own →
      AtEnd z position (λ c. (rest' c).collecting.ended) →
      Stopped z phase' position (λ c. (rest' c).collecting.counted) →
      Wanted z phase' want target log (rest' z.sizes.threads).collecting.wanted →
      Working z phase' pending' (rest' z.sizes.threads).collecting.over →
      Standing z paused done born shape points number global stable weak back count phase' want pending' state_word global_word node_word frame_word
      side body page position polled target local own taken log rest'
  stands_collected phase' pending' rest' sweeps timed polling owners at_end stopped wanted working = record {
    timed = timed;
    headed = r.headed;
    fielded = r.fielded;
    cleared = r.cleared;
    globaled = r.globaled;
    named = r.named;
    apart = r.apart;
    stated = r.stated;
    at_end = at_end;
    polling = polling;
    owners = owners;
    stopped = stopped;
    wanted = wanted;
    working = working;
    framed = r.framed;
    housed = r.housed;
    handed = subst (λ (x : ℕ → Option Sweep). Handed z.sizes (callers z.sizes) (IsFilled z.sizes born shape side) own taken x) sweeps r.handed;
    classed = r.classed;
    placed = r.placed;
    taken_in = subst (λ (x : ℕ → Option Sweep). TakenIn z position own taken x) sweeps r.taken_in;
  }

module _ (z : Ground) (s : State) (g : Graph) (rule : RuleOf z g s.word s.page (views_of s.caller) s.history) (by : ℕ)
    (work : Work) (part : Collecting) where
  abbrev V : Views
  V = views_of s.caller

  abbrev pub collector_view : View
  collector_view = record (s.caller by) { work = work; collecting = part }

  abbrev pub rest_with : ℕ → Rest
  rest_with = upd V.rest by (rest_of collector_view)

  pub sweeps_stay : ◌≡◌ {A = ℕ → Option Sweep} (λ c. (V.rest c).sweep) (λ c. (rest_with c).sweep)
  sweeps_stay = sym (part_same (λ (x : Rest). x.sweep) V.rest by (rest_of collector_view) refl)

  abbrev works : ℕ → Work
  works = λ c. (s.caller c).work

  pub works_put : ◌≡◌ {A = ℕ → Work} (λ c. (rest_with c).work) (upd works by work)
  works_put = part_upd (λ (x : Rest). x.work) V.rest by (rest_of collector_view)

  -- marks and shares, with the collector's share
  works_with : (word : Place → ℕ) → Phased z g.paused g.born (shapes g) word (upd works by work) →
      Phased z g.paused g.born (shapes g) word (λ c. (rest_with c).work)
  works_with word m = subst (λ (x : ℕ → Work). Phased z g.paused g.born (shapes g) word x) (sym works_put) m

  pub views_with : views_of (upd s.caller by collector_view) ≡ record V { rest = rest_with }
  views_with =
      let v : View = collector_view in
      λ t. record {
        position = position_same s.caller by v refl t;
        polled = polled_same s.caller by v refl t;
        target = target_same s.caller by v refl t;
        local = local_same s.caller by v refl t;
        header = header_same s.caller by v refl t;
        own = own_same s.caller by v refl t;
        taken = taken_same s.caller by v refl t;
        log = log_same s.caller by v refl t;
        calls = calls_same s.caller by v refl t;
        births = births_same s.caller by v refl t;
        rest = rest_put s.caller by v t;
        width = width_same s.caller by v refl refl t;
      }

  -- the view is the collector's
  module _ (is : by ≡ z.sizes.threads) where
    part_is : (rest_with z.sizes.threads).collecting ≡ part
    part_is = ap (λ (x : Rest). x.collecting) (ap (upd V.rest by (rest_of collector_view)) (sym is) ∙ upd_here V.rest by (rest_of collector_view))

    -- what is kept of the phase stored, of the mutators ended and counted, of the epoch wanted and of the marking is right for the phase
    -- word w and the count n of open work
    module _ (w n : ℕ) (timed : Timed g.paused g.done w part.stored) (polling : Polled z g.paused w (s.word Want) V.position V.polled V.target V.log)
        (owners : Owners z w V.position V.own) (at_end : AtEnd z V.position (λ _. part.ended))
        (stopped : Stopped z w V.position (λ _. part.counted)) (wanted : Wanted z w (s.word Want) V.target V.log part.wanted)
        (working : Working z w n part.over) where
      stands : Standing z g.paused g.done g.born (shapes g) (pointers g) (numbers g) g.global g.stable g.weak g.back g.count w (s.word Want) n
          (λ c. s.word (StateOf c)) (λ i. s.word (Global i)) (λ k. s.word (Node k)) (λ p. s.word (Frame p)) (λ a. s.word (Side a))
          (λ a. s.word (Body a)) s.page V.position V.polled V.target V.local V.own V.taken V.log rest_with
      stands =
          let back = sym part_is in
          stands_collected z g.paused g.done g.born (shapes g) (pointers g) (numbers g) g.global g.stable g.weak g.back g.count
          (s.word Phase) (s.word Want) (s.word Pending) (λ c. s.word (StateOf c)) (λ i. s.word (Global i)) (λ k. s.word (Node k))
          (λ p. s.word (Frame p)) (λ a. s.word (Side a)) (λ a. s.word (Body a)) s.page V.position V.polled V.target V.local V.own V.taken V.log
          V.rest rule.stands w n rest_with sweeps_stay
          (subst (λ (x : Collecting). Timed g.paused g.done w x.stored) back timed)
          polling owners
          (record {
            seen = λ i l e. at_end.seen i l (subst (λ (x : Collecting). slice_get x.ended i ≡ Some true) part_is e);
            all = at_end.all;
          })
          (record {
            still = stopped.still;
            stopping = λ h i l e. stopped.stopping h i l (subst (λ (x : Collecting). slice_get x.counted i ≡ Some true) part_is e);
          })
          (subst (λ (x : Collecting). Wanted z w (s.word Want) V.target V.log x.wanted) back wanted)
          (subst (λ (x : Collecting). Working z w n x.over) back working)

    -- the phase is stored
    pub collected : (w : ℕ) → Timed g.paused g.done w part.stored → Polled z g.paused w (s.word Want) V.position V.polled V.target V.log →
        Owners z w V.position V.own → AtEnd z V.position (λ _. part.ended) → Stopped z w V.position (λ _. part.counted) →
        Wanted z w (s.word Want) V.target V.log part.wanted → Working z w (s.word Pending) part.over →
        Phased z g.paused g.born (shapes g) (put s.word Phase w) (upd works by work) →
        RuleOf z g (put s.word Phase w) s.page (views_of (upd s.caller by collector_view)) s.history
    collected w timed polling owners at_end stopped wanted working phased =
        subst (λ W. RuleOf z g (put s.word Phase w) s.page W s.history) (sym views_with)
        (record {
          told = rule.told;
          formed = rule.formed;
          read_right = rule.read_right;
          localed = rule.localed;
          stands = stands w (s.word Pending) timed polling owners at_end stopped wanted working;
          phased = works_with (put s.word Phase w) phased;
        })

    -- the count of open work is stored
    pub collected_work : (n : ℕ) → part.stored ≡ (s.caller by).collecting.stored → AtEnd z V.position (λ _. part.ended) →
        Stopped z (s.word Phase) V.position (λ _. part.counted) → part.wanted ≤ s.word Want → Working z (s.word Phase) n part.over →
        Phased z g.paused g.born (shapes g) (put s.word Pending n) (upd works by work) →
        RuleOf z g (put s.word Pending n) s.page (views_of (upd s.caller by collector_view)) s.history
    collected_work n same at_end stopped few working phased =
        let old = rule.stands.wanted in
        subst (λ W. RuleOf z g (put s.word Pending n) s.page W s.history) (sym views_with)
        (record {
          told = rule.told;
          formed = rule.formed;
          read_right = rule.read_right;
          localed = rule.localed;
          stands = stands (s.word Phase) n
              (subst (λ x. Timed g.paused g.done (s.word Phase) x) (sym (same ∙ ap (λ c. (s.caller c).collecting.stored) is)) rule.stands.timed)
              rule.stands.polling rule.stands.owners at_end stopped
              (record { reached = old.reached; known = few; targets = old.targets; few = old.few })
              working;
          phased = works_with (put s.word Pending n) phased;
        })

    -- no word that a clause reads is stored
    pub collected_still : work ≡ (s.caller by).work → part.stored ≡ (s.caller by).collecting.stored → AtEnd z V.position (λ _. part.ended) →
        Stopped z (s.word Phase) V.position (λ _. part.counted) → part.wanted ≤ s.word Want → Working z (s.word Phase) (s.word Pending) part.over →
        RuleOf z g s.word s.page (views_of (upd s.caller by collector_view)) s.history
    collected_still mine same at_end stopped few working =
        let W : Place → ℕ = put s.word Pending (s.word Pending) in
        let stays = put_same s.word Pending (s.word Pending) refl in
        subst (λ x. RuleOf z g x s.page (views_of (upd s.caller by collector_view)) s.history) stays
        (collected_work (s.word Pending) same at_end stopped few working
        (subst (λ x. Phased z g.paused g.born (shapes g) x (upd works by work)) (sym stays)
        (subst (λ (x : ℕ → Work). Phased z g.paused g.born (shapes g) s.word x) (sym (upd_same works by work mine)) rule.phased)))

  -- a mutator has no part in collecting that a clause reads
  module _ (less : by < z.sizes.threads) (mine : work ≡ (s.caller by).work) where
    away : rest_with z.sizes.threads ≡ V.rest z.sizes.threads
    away = upd_else V.rest by (rest_of collector_view) z.sizes.threads (λ e. absurd (omega (arith, less, e)))

    pub beside : RuleOf z g s.word s.page (views_of (upd s.caller by collector_view)) s.history
    beside =
        let back = sym away in let old = rule.stands in
        subst (λ W. RuleOf z g s.word s.page W s.history) (sym views_with)
        (record {
          told = rule.told;
          formed = rule.formed;
          read_right = rule.read_right;
          localed = rule.localed;
          stands = stands_collected z g.paused g.done g.born (shapes g) (pointers g) (numbers g) g.global g.stable g.weak g.back g.count
              (s.word Phase) (s.word Want) (s.word Pending) (λ c. s.word (StateOf c)) (λ i. s.word (Global i)) (λ k. s.word (Node k))
              (λ p. s.word (Frame p)) (λ a. s.word (Side a)) (λ a. s.word (Body a)) s.page V.position V.polled V.target V.local V.own V.taken V.log
              V.rest old (s.word Phase) (s.word Pending) rest_with sweeps_stay
              (subst (λ (x : Rest). Timed g.paused g.done (s.word Phase) x.collecting.stored) back old.timed)
              old.polling old.owners
              (record {
                seen = λ i l e. old.at_end.seen i l (subst (λ (x : Rest). slice_get x.collecting.ended i ≡ Some true) away e);
                all = old.at_end.all;
              })
              (record {
                still = old.stopped.still;
                stopping = λ h i l e. old.stopped.stopping h i l (subst (λ (x : Rest). slice_get x.collecting.counted i ≡ Some true) away e);
              })
              (subst (λ (x : Rest). Wanted z (s.word Phase) (s.word Want) V.target V.log x.collecting.wanted) back old.wanted)
              (subst (λ (x : Rest). Working z (s.word Phase) (s.word Pending) x.collecting.over) back old.working);
          phased = works_with s.word
              (subst (λ (x : ℕ → Work). Phased z g.paused g.born (shapes g) s.word x) (sym (upd_same works by work mine)) rule.phased);
        })
