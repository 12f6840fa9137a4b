-- A step that changes its caller's share in marking, and no other part of its view.
use Rattle.std.proofs.Common.{◌≡◌, ◌≢◌, ◌⊎◌, inl, inr, ℕ, ◌<◌, Option, refl, sym, ap, ◌∙◌, subst, cond}
use Rattle.std.proofs.lemmas.Bool.Decides.{eqb_tells}
use Rattle.kn_base.specs.declared.places.Place.{Place}
use Rattle.kn_base.specs.declared.places.Place.TheVariants.{Phase, Pending, RootSet, Local, Side, Body}
use Rattle.kn_base.specs.declared.kinds.Code.{Code}
use Rattle.kn_base.specs.declared.kinds.Code.TheVariants as codes
use Rattle.kn_base.specs.declared.phase_word.PhaseWord.{PhaseWord}
use Rattle.kn_base.specs.Pages.{FrameView}
use Rattle.kn_base.specs.Functions.{upd, Tells}
use Rattle.kn_base.proofs.Updates.{upd_same}
use Rattle.kn_graph.specs.Ground.{Ground}
use Rattle.kn_graph.specs.Graph.{Graph, shapes}
use Rattle.kn_marking.specs.declared.work.Work.{Work}
use Rattle.kn_marking.specs.Shares.{joined}
use Rattle.kn_marking.proofs.Changes.{each_upd}
use Rattle.kn_marking.proofs.Quiet.{epoch_seen}
use Rattle.kn_rule.specs.Decoding.{phase_of}
use Rattle.kn_rule.specs.Views.{View, Views, State, views_of, rest_of}
use Rattle.kn_rule.specs.MarkedHeap.{heap_of}
use Rattle.kn_rule.specs.MarkSteps.{joined_by}
use Rattle.kn_rule.specs.Steps.{callers}
use Rattle.kn_rule.specs.ObjectClauses.{Localed}
use Rattle.kn_rule.specs.MarkClauses.{IsHeaderRead, Phased}
use Rattle.kn_rule.specs.Rule.{Represents, RuleOf}
use Rattle.kn_keep_heap.proofs.Parts.{position_same, polled_same, target_same, local_same, header_same, own_same, taken_same, log_same, calls_same}
use Rattle.kn_keep_heap.proofs.Parts.{births_same, width_same}

-- the views with other shares
abbrev pub with_works : Views → (ℕ → Work) → Views
with_works v work = record v { rest = λ c. record (v.rest c) { work = work c } }

-- no other clause reads the shares
pub represents_with : (z : Ground) (g : Graph) (word : Place → ℕ) (page : ℕ → Option FrameView) (v : Views) (work : ℕ → Work) →
    Represents z g word page v → Represents z g word page (with_works v work)
represents_with z g word page v work r = record {
  timed = r.timed;
  headed = r.headed;
  fielded = r.fielded;
  cleared = r.cleared;
  globaled = r.globaled;
  named = r.named;
  apart = r.apart;
  stated = r.stated;
  at_end = record { seen = r.at_end.seen; all = r.at_end.all };
  polling = r.polling;
  owners = r.owners;
  stopped = record { still = r.stopped.still; stopping = r.stopped.stopping };
  wanted = r.wanted;
  working = r.working;
  framed = r.framed;
  housed = r.housed;
  handed = r.handed;
  classed = r.classed;
  placed = r.placed;
  taken_in = r.taken_in;
}

module _ (s : State) (by : ℕ) (w : Work) where
  abbrev V : Views
  V = views_of s.caller

  abbrev pub worked_view : View
  worked_view = record (s.caller by) { work = w }

  rest_at : (c : ℕ) → Tells by c → rest_of (upd s.caller by worked_view c) ≡ record (V.rest c) { work = upd (λ d. (V.rest d).work) by w c }
  rest_at c (inl t) =
      subst (λ b. rest_of (cond b worked_view (s.caller c)) ≡ record (V.rest c) { work = cond b w (V.rest c).work }) (sym t.0)
      (ap (λ d. record (V.rest d) { work = w }) t.1)
  rest_at c (inr t) =
      subst (λ b. rest_of (cond b worked_view (s.caller c)) ≡ record (V.rest c) { work = cond b w (V.rest c).work }) (sym t.0) refl

  pub views_worked : views_of (upd s.caller by worked_view) ≡ with_works V (upd (λ c. (V.rest c).work) by w)
  views_worked =
      let v : View = worked_view in
      λ t. record {
        position = position_same s.caller by v refl t;
        polled = polled_same s.caller by v refl t;
        target = target_same s.caller by v refl t;
        local = local_same s.caller by v refl t;
        header = header_same s.caller by v refl t;
        own = own_same s.caller by v refl t;
        taken = taken_same s.caller by v refl t;
        log = log_same s.caller by v refl t;
        calls = calls_same s.caller by v refl t;
        births = births_same s.caller by v refl t;
        rest = λ c. rest_at c (eqb_tells by c) t;
        width = width_same s.caller by v refl refl t;
      }

module _ (z : Ground) (s : State) (by : ℕ) (g : Graph) (rule : RuleOf z g s.word s.page (views_of s.caller) s.history) where
  -- a step of a marker leaves the rule where the words are right and the marking is
  pub worked_rule : (w : Work) (word : Place → ℕ) → Represents z g word s.page (views_of s.caller) →
      Localed z (shapes g) g.local (λ c r. word (Local c r)) (views_of s.caller).position (views_of s.caller).local →
      Phased z g.paused g.born (shapes g) word (upd (λ c. (s.caller c).work) by w) →
      RuleOf z g word s.page (views_of (upd s.caller by (record (s.caller by) { work = w }))) s.history
  worked_rule w word stands localed phased =
      subst (λ W. RuleOf z g word s.page W s.history) (sym (views_worked s by w))
      (record {
        told = rule.told;
        formed = rule.formed;
        read_right = rule.read_right;
        localed = localed;
        stands = represents_with z g word s.page (views_of s.caller) (upd (λ c. (s.caller c).work) by w) stands;
        phased = phased;
      })

  -- the phase word is Mark, or another one
  is_mark : (c : Code) → (c ≡ codes.Mark) ⊎ (c ≢ codes.Mark)
  is_mark codes.Mark = inl refl
  is_mark codes.Idle = inr (λ e. cc)
  is_mark codes.StopA = inr (λ e. cc)
  is_mark codes.Weak = inr (λ e. cc)
  is_mark codes.StopB = inr (λ e. cc)
  is_mark codes.Prep = inr (λ e. cc)
  is_mark codes.Sweep = inr (λ e. cc)

  not_joined : (c : Code) (e : ℕ) (w : Work) → c ≢ codes.Mark → joined_by (record { epoch = e; code = c }) w ≡ w
  not_joined codes.Mark e w n = absurd (n refl)
  not_joined _ e w n = refl

  joins : (v : PhaseWord) (w : Work) → v.code ≡ codes.Mark → joined_by v w ≡ joined w v.epoch
  joins v w e = ap (λ c. joined_by (record { epoch = v.epoch; code = c }) w) e

  abbrev works : ℕ → Work
  works = λ c. (s.caller c).work

  -- the phase word is loaded, by one that is out or entering
  module _ (near : by < callers z.sizes) (n : ℕ) (found : s.word Phase ≡ n) where
    abbrev JoinedTo : Work → Type 0
    JoinedTo w = RuleOf z g s.word s.page (views_of (upd s.caller by (record (s.caller by) { work = w }))) s.history

    joined_in : (phase_of n).code ≡ codes.Mark → JoinedTo (joined (s.caller by).work (phase_of n).epoch)
    joined_in e =
        let same : phase_of n ≡ phase_of (s.word Phase) = ap phase_of (sym found) in
        let in_mark : (phase_of (s.word Phase)).code ≡ codes.Mark = ap (λ (v : PhaseWord). v.code) (sym same) ∙ e in
        let w : Work = joined (s.caller by).work (phase_of (s.word Phase)).epoch in
        let m = rule.phased.in_mark in_mark in
        subst (λ (v : PhaseWord). JoinedTo (joined (s.caller by).work v.epoch)) (sym same)
        (worked_rule w s.word rule.stands rule.localed (record {
          in_mark = λ _. record {
            marking = record {
              next = m.marking.next;
              colours = m.marking.colours;
              closed = m.marking.closed;
              shares = epoch_seen (heap_of z g.born (shapes g) s.word) (phase_of (s.word Phase)).epoch (callers z.sizes) (λ a. s.word (Side a))
                  (λ j. s.word (RootSet j)) works (s.word Pending) m.marking.shares by near;
            };
            headers = λ c l. each_upd (λ (x : Work). IsHeaderRead (λ a. s.word (Body a)) x.doing) works by w (m.headers by near) c (m.headers c l);
          };
          at_rest = λ out. absurd (out in_mark);
        }))

    joined_out : (phase_of n).code ≢ codes.Mark → JoinedTo (s.caller by).work
    joined_out out =
        worked_rule (s.caller by).work s.word rule.stands rule.localed
        (subst (λ (x : ℕ → Work). Phased z g.paused g.born (shapes g) s.word x) (sym (upd_same works by (s.caller by).work refl)) rule.phased)

    joined_as : ((phase_of n).code ≡ codes.Mark) ⊎ ((phase_of n).code ≢ codes.Mark) → JoinedTo (joined_by (phase_of n) (s.caller by).work)
    joined_as (inl e) = subst (λ w. JoinedTo w) (sym (joins (phase_of n) (s.caller by).work e)) (joined_in e)
    joined_as (inr out) =
        subst (λ w. JoinedTo w) (sym (not_joined (phase_of n).code (phase_of n).epoch (s.caller by).work out)) (joined_out out)

    pub joined_rule : JoinedTo (joined_by (phase_of n) (s.caller by).work)
    joined_rule = joined_as (is_mark (phase_of n).code)
