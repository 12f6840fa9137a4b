-- A step that answers the call under way.
use Rattle.std.proofs.Common.{◌≡◌, ◌≢◌, ℕ, ◌+◌, ◌-◌, ◌<◌, inl, inr, List, [], ◌∷◌, ◌++◌, Option, None, refl, sym, subst}
use Rattle.std.proofs.Common.{ap, ◌∙◌, arith}
use Rattle.kn_base.specs.declared.places.Place.{Place}
use Rattle.kn_base.specs.declared.places.Place.TheVariants.{Phase, Want, State as StateOf, Local, Body}
use Rattle.kn_base.specs.declared.kinds.Code.{Code}
use Rattle.kn_base.specs.declared.kinds.Code.TheVariants as codes
use Rattle.kn_base.specs.declared.phase_word.PhaseWord.{PhaseWord}
use Rattle.kn_base.specs.Pages.{FrameView}
use Rattle.kn_base.specs.Functions.{upd}
use Rattle.kn_graph.specs.declared.calls.Call.{Call}
use Rattle.kn_graph.specs.declared.calls.Reply.{Reply}
use Rattle.kn_graph.specs.declared.entries.Entry.{Entry}
use Rattle.kn_graph.specs.Ground.{Ground}
use Rattle.kn_graph.specs.Graph.{Graph, shapes, with_entered}
use Rattle.kn_graph.specs.Sound.{IsSound}
use Rattle.kn_graph.specs.Answers.{MayAnswer}
use Rattle.kn_graph.specs.Histories.{Follows}
use Rattle.kn_graph.proofs.LegalGraphs.{legal_sound}
use Rattle.kn_rule.specs.declared.positions.Position.{Position}
use Rattle.kn_rule.specs.declared.positions.Position.TheVariants.{Between, Calling, Writing, Adding, Ended}
use Rattle.kn_rule.specs.declared.parts.Taken.{Taken}
use Rattle.kn_rule.specs.Decoding.{phase_of}
use Rattle.kn_rule.specs.Phases.{pauses}
use Rattle.kn_rule.specs.Views.{Views}
use Rattle.kn_rule.specs.Steps.{entry_of}
use Rattle.kn_rule.specs.HistoryClauses.{Told, Formed, IsRightCall, under_way, births_under_way}
use Rattle.kn_rule.specs.ObjectClauses.{IsCleared, Localed, ReadRight}
use Rattle.kn_rule.specs.CallerClauses.{state_number, IsSince, IsIn, IsBusy, IsInOrLeaving, IsDue}
use Rattle.kn_rule.specs.MarkClauses.{Phased}
use Rattle.kn_rule.specs.Rule.{Represents, RuleOf}
use Rattle.kn_keep_heap.specs.Answered.{IsBehindAnswer}
use Rattle.kn_keep_heap.proofs.Positions.{formed_at, at_end_at, stated_at, owners_at, cleared_at, apart_at, taken_in_at, told_answered}
use Rattle.kn_keep_heap.proofs.Positions.{polled_answered}
use Rattle.kn_keep_heap.proofs.Wants.{stopped_at, wanted_said}

-- the epoch of the last poll is the current one
same_pauses : (e e' : ℕ) (c c' : Code) → e ≡ e' → c ≡ c' → pauses (record { epoch = e; code = c }) ≡ pauses (record { epoch = e'; code = c' })
same_pauses e e' c c' a b = λ t. pauses (record { epoch = a t; code = b t })

behind : (e : ℕ) → e + 1 - 1 ≡ e
behind e = omega arith

since_at : (e : ℕ) (c : Code) (now : PhaseWord) → IsSince (record { epoch = e; code = c }) now →
    pauses (record { epoch = e; code = c }) ≡ pauses now
since_at e codes.Idle now (inl h) = sym (same_pauses now.epoch e now.code codes.Idle h.0 h.1)
since_at e codes.Idle now (inr h) = sym (same_pauses now.epoch (e + 1) now.code codes.StopA h.0 h.1 ∙ behind e)
since_at e codes.StopA now h = absurd h
since_at e codes.Mark now h = absurd h
since_at e codes.Weak now (inl h) = sym (same_pauses now.epoch e now.code codes.Weak h.0 h.1)
since_at e codes.Weak now (inr h) = sym (same_pauses now.epoch e now.code codes.StopB h.0 h.1)
since_at e codes.StopB now h = absurd h
since_at e codes.Prep now h = absurd h
since_at e codes.Sweep now (inl h) = sym (same_pauses now.epoch e now.code codes.Sweep h.0 h.1)
since_at e codes.Sweep now (inr (inl h)) = sym (same_pauses now.epoch e now.code codes.Idle h.0 h.1)
since_at e codes.Sweep now (inr (inr h)) = sym (same_pauses now.epoch (e + 1) now.code codes.StopA h.0 h.1 ∙ behind e)

pub since_pauses : (p now : PhaseWord) → IsSince p now → pauses p ≡ pauses now
since_pauses p now h = since_at p.epoch p.code now h

module _ (z : Ground) (g : Graph) (word : Place → ℕ) (page : ℕ → Option FrameView) (v : Views) (h : List Entry) (r : RuleOf z g word page v h)
    (by : ℕ) (less : by < z.sizes.threads) where
  pub sound : IsSound z g
  sound = legal_sound z h g r.told.leads

  pub epoch_now : IsIn (v.position by) → pauses (phase_of (v.polled by)) ≡ g.paused
  epoch_now i = since_pauses (phase_of (v.polled by)) (phase_of (word Phase)) (r.stands.polling.since by less i) ∙ sym r.stands.timed.now

  pub epoch_call : (call : Call) → v.position by ≡ Calling call → pauses (phase_of (v.polled by)) ≡ g.paused
  epoch_call call is = epoch_now (subst (λ p. IsIn p) (sym is) tt)

-- behind an answer
pub state_behind : (q : Position) → IsBehindAnswer q → state_number q ≡ 1
state_behind Between b = refl
state_behind (Writing r w n) b = refl
state_behind (Adding n) b = refl
state_behind _ b = absurd b

pub calls_behind : (q : Position) → IsBehindAnswer q → under_way q None ≡ 0
calls_behind Between b = refl
calls_behind (Writing r w n) b = refl
calls_behind (Adding n) b = refl
calls_behind _ b = absurd b

pub births_behind : (q : Position) → IsBehindAnswer q → births_under_way q ≡ 0
births_behind Between b = refl
births_behind (Writing r w n) b = refl
births_behind (Adding n) b = refl
births_behind _ b = absurd b

pub right_behind : (z : Ground) (q : Position) → IsBehindAnswer q → IsRightCall z q
right_behind z Between b = tt
right_behind z (Writing r w n) b = b
right_behind z (Adding n) b = tt
right_behind z _ b = absurd b

pub due_behind : (q : Position) → IsBehindAnswer q → (t : Option ℕ) → IsDue q t
due_behind Between b t = tt
due_behind (Writing r w n) b t = tt
due_behind (Adding n) b t = tt
due_behind _ b t = absurd b

pub in_behind : (q : Position) → IsBehindAnswer q → IsInOrLeaving q
in_behind Between b = tt
in_behind (Writing r w n) b = tt
in_behind (Adding n) b = tt
in_behind _ b = absurd b

pub cleared_behind : (z : Ground) (body local : ℕ → ℕ) (q : Position) (t : Option Taken) → IsBehindAnswer q → IsCleared z body local q t
cleared_behind z body local Between t b = tt
cleared_behind z body local (Writing r w n) t b = tt
cleared_behind z body local (Adding n) t b = tt
cleared_behind z body local _ t b = absurd b

module _ (z : Ground) (g : Graph) (v : Views) (h : List Entry) (told : Told z g h v.log v.position v.target v.calls v.births)
    (formed : Formed z v.position v.width) (by : ℕ) (less : by < z.sizes.threads) (call : Call) (is : v.position by ≡ Calling call)
    (now : pauses (phase_of (v.polled by)) ≡ g.paused) (reply : Reply) (address : ℕ) where
  abbrev pub entry_now : Entry
  entry_now = entry_of by (pauses (phase_of (v.polled by))) call reply address

  abbrev pub graph_now : Graph → Graph
  graph_now g' = with_entered g' by (pauses (phase_of (v.polled by)))

  pub follows : (g' : Graph) → MayAnswer z by call g reply address g' → Follows z entry_now g (graph_now g')
  follows g' a = record {
    graph = g';
    event = record { by_thread = less; epoch_is = now; in_range = (subst (λ p. IsRightCall z p) is (formed.call by less)).1; answer = a };
    after = refl;
  }

  not_ended : v.position by ≢ Ended
  not_ended e = let w : Calling call ≡ Ended = sym is ∙ e in cc

  -- the views after the answer
  abbrev pub views_answered : Position → (ℕ → ℕ → ℕ) → Views
  views_answered q local = record v {
    position = upd v.position by q;
    local = local;
    header = upd v.header by None;
    log = upd v.log by (v.log by ++ entry_now ∷ []);
  }

  -- the rule holds after the answer where the other clauses do, and the locals and what was read are right
  pub answered : (g' : Graph) (word : Place → ℕ) (page : ℕ → Option FrameView) → Represents z g' word page v →
      Phased z g'.paused g'.born (shapes g') word (λ c. (v.rest c).work) → MayAnswer z by call g reply address g' → (q : Position) →
      IsBehindAnswer q → v.taken by ≡ None → (local : ℕ → ℕ → ℕ) →
      ((c : ℕ) → by ≢ c → local c ≡ v.local c) →
      Localed z (shapes g') g'.local (λ c i. word (Local c i)) (upd v.position by q) local →
      ReadRight z (shapes g') g'.local (upd v.position by q) (upd v.header by None) →
      RuleOf z (graph_now g') word page (views_answered q local) (h ++ entry_now ∷ [])
  answered g' word page a phased may q b none local same localed read =
      let busy : IsBusy (v.position by) = subst (λ p. IsBusy p) (sym is) tt in
      let calls = ap (under_way q) (a.polling.untargeted by less busy) ∙ calls_behind q b in
      let epoch = pauses (phase_of (v.polled by)) in
      record {
        told = told_answered z v.position by q call reply address epoch is g (graph_now g') h v.log v.target v.calls v.births told
            (follows g' may) calls (births_behind q b);
        formed = formed_at z v.position by q v.width formed (right_behind z q b);
        read_right = read;
        localed = localed;
        stands = record {
          timed = a.timed;
          headed = a.headed;
          fielded = a.fielded;
          cleared = cleared_at z v.position by q (λ i. word (Body i)) v.local local v.taken same a.cleared
              (cleared_behind z (λ i. word (Body i)) (local by) q (v.taken by) b);
          globaled = a.globaled;
          named = a.named;
          apart = apart_at z v.position by q g'.born (shapes g') v.taken a.apart none;
          stated = stated_at z v.position by q (λ c. word (StateOf c)) a.stated less (state_behind q b ∙ ap state_number (sym is));
          at_end = at_end_at z v.position by q (λ c. (v.rest c).collecting.ended) a.at_end less not_ended;
          polling = polled_answered z v.position by q call reply address epoch is g'.paused (word Phase)
              (word Want) v.polled v.target v.log a.polling (due_behind q b);
          owners = owners_at z v.position by q (word Phase) v.own a.owners (λ _. in_behind q b);
          stopped = stopped_at z v.position by q (word Phase) (λ c. (v.rest c).collecting.counted) a.stopped
              (λ _ _. subst (λ p. IsInOrLeaving p) (sym is) tt);
          wanted = wanted_said z (word Phase) (word Want) (v.rest z.sizes.threads).collecting.wanted v.target v.log by entry_now a.wanted;
          working = a.working;
          framed = a.framed;
          housed = a.housed;
          handed = a.handed;
          classed = a.classed;
          placed = a.placed;
          taken_in = taken_in_at z v.position by q v.own v.taken (λ c. (v.rest c).sweep) a.taken_in none;
        };
        phased = phased;
      }
