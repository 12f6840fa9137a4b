-- What the clauses say where one caller's position changes.
use Rattle.std.proofs.Common.{◌≡◌, ◌≢◌, ℕ, ◌+◌, ◌<◌, ◌≤◌, inl, inr, Bool, true, cond, List, [], ◌∷◌, ◌++◌, length}
use Rattle.std.proofs.Common.{Option, Some, None, slice_get}
use Rattle.std.proofs.Common.{refl, sym, subst, ap, ◌∙◌, arith, length-append}
use Rattle.std.proofs.lemmas.Bool.Decides.{eqb_tells}
use Rattle.kn_base.specs.Functions.{upd, Tells}
use Rattle.kn_base.proofs.Updates.{upd_else, upd_case, upd_case2}
use Rattle.kn_graph.specs.declared.calls.Call.{Call}
use Rattle.kn_graph.specs.declared.calls.Reply.{Reply}
use Rattle.kn_graph.specs.declared.entries.Entry.{Entry}
use Rattle.kn_graph.specs.Ground.{Ground}
use Rattle.kn_graph.specs.Graph.{Graph, Shape, empty_graph}
use Rattle.kn_graph.specs.Counts.{makes_object, births_among}
use Rattle.kn_graph.specs.Histories.{Follows}
use Rattle.kn_graph.specs.Logs.{log_of, calls_of}
use Rattle.kn_graph.proofs.Splits.{appended, log_of-append, calls_of-append, births_of-append}
use Rattle.kn_rule.specs.declared.positions.Position.{Position}
use Rattle.kn_rule.specs.declared.positions.Position.TheVariants.{Calling, Ended}
use Rattle.kn_rule.specs.declared.parts.Taken.{Taken}
use Rattle.kn_rule.specs.Decoding.{phase_of}
use Rattle.kn_rule.specs.FrameSpans.{frame_span}
use Rattle.kn_rule.specs.Views.{Open, Sweep}
use Rattle.kn_rule.specs.Requests.{words_asked, IsCellOf}
use Rattle.kn_rule.specs.Steps.{entry_of, callers}
use Rattle.kn_rule.specs.HistoryClauses.{Told, under_way, births_under_way, IsRightCall, Formed}
use Rattle.kn_rule.specs.ObjectClauses.{IsReadAt, ReadRight, IsCleared, Cleared, IsAskedBy, Apart}
use Rattle.kn_rule.specs.CallerClauses.{state_number, Stated, AtEnd, IsIn, IsBusy, IsInOrLeaving, IsResting, IsSince, IsTarget, IsDue, Polled, MayOwn}
use Rattle.kn_rule.specs.CallerClauses.{Owners}
use Rattle.kn_rule.specs.FrameClauses.{IsClassAsked, TakenIn}
use Rattle.kn_rule.specs.Decoding.{frame_of}
use Rattle.kn_keep_heap.proofs.Changed.{upd_case3}

-- a caller without a cell is not the one that has this cell
pub not_without : (taken : ℕ → Option Taken) (c : ℕ) (t : Taken) → taken c ≡ None → taken c ≡ Some t → ⊥
not_without taken c t none e = let h : Option.None ≡ Some t = sym none ∙ e in cc

-- a caller's log gets one entry more, and so does the history
module _ (by : ℕ) (call : Call) (reply : Reply) (address epoch : ℕ) where
  abbrev one_said : Entry
  one_said = entry_of by epoch call reply address

  log_at : (h : List Entry) (log : ℕ → List Entry) (c : ℕ) → log_of c h ≡ log c → Tells by c →
      log_of c (h ++ one_said ∷ []) ≡ upd log by (log by ++ one_said ∷ []) c
  log_at h log c e (inl t) =
      log_of-append c h one_said ∙ (ap (λ b. cond b (log_of c h ++ one_said ∷ []) (log_of c h)) t.0
      ∙ (ap (λ (l : List Entry). l ++ one_said ∷ []) (e ∙ ap log (sym t.1)) ∙ ap (λ b. cond b (log by ++ one_said ∷ []) (log c)) (sym t.0)))
  log_at h log c e (inr t) =
      log_of-append c h one_said ∙ (ap (λ b. cond b (log_of c h ++ one_said ∷ []) (log_of c h)) t.0
      ∙ (e ∙ ap (λ b. cond b (log by ++ one_said ∷ []) (log c)) (sym t.0)))

  pub log_said : (h : List Entry) (log : ℕ → List Entry) (c : ℕ) → log_of c h ≡ log c →
      log_of c (h ++ one_said ∷ []) ≡ upd log by (log by ++ one_said ∷ []) c
  log_said h log c e = log_at h log c e (eqb_tells by c)

module _ (z : Ground) (position : ℕ → Position) (by : ℕ) (q : Position) where
  pub formed_at : (width : ℕ → ℕ × ℕ) → Formed z position width → IsRightCall z q → Formed z (upd position by q) width
  formed_at width r right = record {
    call = λ c l. upd_case (λ k p. k < z.sizes.threads → IsRightCall z p) position by q (λ _. right) c (λ _ l. r.call c l) l;
    locals = r.locals;
    frames = r.frames;
  }

  pub stated_at : (word : ℕ → ℕ) → Stated z word position → by < z.sizes.threads → state_number q ≡ state_number (position by) →
      Stated z word (upd position by q)
  stated_at word r less e = record {
    each = λ c l. upd_case (λ k p. k ≤ z.sizes.threads → word k ≡ state_number p) position by q (λ l. r.each by l ∙ sym e) c (λ _ l. r.each c l) l;
    resting = λ c l m. upd_case (λ k p. z.sizes.threads ≤ k → IsResting p) position by q (λ l. absurd (omega arith)) c (λ _ l. r.resting c l m) l;
  }

  -- a mutator that has not ended moves
  pub at_end_at : (ended : ℕ → List Bool) → AtEnd z position ended → by < z.sizes.threads → position by ≢ Ended →
      AtEnd z (upd position by q) ended
  at_end_at ended r less ne = record {
    seen = λ i l e. upd_case (λ k p. k < z.sizes.threads → slice_get (ended z.sizes.threads) k ≡ Some true → p ≡ Ended) position by q
        (λ l e. absurd (ne (r.seen by l e))) i (λ _ l e. r.seen i l e) l e;
    all = λ e i l. absurd (ne (r.all (sym (upd_else position by q z.sizes.threads (λ h. absurd (omega arith))) ∙ e) by less));
  }

  owner_at : (phase c : ℕ) → (IsInOrLeaving (position by) → IsInOrLeaving q) → MayOwn z phase position c → MayOwn z phase (upd position by q) c
  owner_at phase c f (inl h) =
      inl (h.0, upd_case (λ k p. IsInOrLeaving (position k) → IsInOrLeaving p) position by q f c (λ _ x. x) h.1)
  owner_at phase c f (inr h) = inr h

  pub owners_at : (phase : ℕ) (own : ℕ → ℕ → Option Open) → Owners z phase position own → (IsInOrLeaving (position by) → IsInOrLeaving q) →
      Owners z phase (upd position by q) own
  owners_at phase own r f = record { each = λ c p o l e. owner_at phase c f (r.each c p o l e) }

  pub cleared_at : (body : ℕ → ℕ) (local local' : ℕ → ℕ → ℕ) (taken : ℕ → Option Taken) →
      ((c : ℕ) → by ≢ c → local' c ≡ local c) →
      Cleared z body local position taken → IsCleared z body (local' by) q (taken by) → Cleared z body local' (upd position by q) taken
  cleared_at body local local' taken same r h = record {
    each = λ c l. upd_case (λ k p. k < callers z.sizes → IsCleared z body (local' k) p (taken k)) position by q (λ _. h) c
        (λ ne l. subst (λ f. IsCleared z body f (position c) (taken c)) (sym (same c ne)) (r.each c l)) l;
  }

  pub apart_at : (born : ℕ) (shape : ℕ → Shape) (taken : ℕ → Option Taken) → Apart z born shape position taken → taken by ≡ None →
      Apart z born shape (upd position by q) taken
  apart_at born shape taken r none = record {
    objects = r.objects;
    others = r.others;
    asked = λ c t l e. upd_case (λ k p. k < callers z.sizes → taken k ≡ Some t → IsAskedBy z p t) position by q
        (λ _ e. absurd (not_without taken by t none e)) c (λ _ l e. r.asked c t l e) l e;
    inside = r.inside;
  }

  pub taken_in_at : (own : ℕ → ℕ → Option Open) (taken : ℕ → Option Taken) (sweep : ℕ → Option Sweep) → TakenIn z position own taken sweep →
      taken by ≡ None → TakenIn z (upd position by q) own taken sweep
  taken_in_at own taken sweep r none = record {
    owned = λ c t l e. upd_case (λ k p. k < callers z.sizes → taken k ≡ Some t →
        (o : Open) × (own k t.frame ≡ Some o) × IsClassAsked z p (frame_of o.word).class
        × IsCellOf (frame_of o.word).class (frame_span z.sizes t.frame) t.span) position by q
        (λ _ e. absurd (not_without taken by t none e)) c (λ _ l e. r.owned c t l e) l e;
    unswept = r.unswept;
  }

  pub read_at : (shape : ℕ → Shape) (local : ℕ → ℕ → Option ℕ) (header : ℕ → Option ℕ) (x : ℕ → Option ℕ) (h : Option ℕ) →
      ReadRight z shape local position header → IsReadAt shape x q h → ReadRight z shape (upd local by x) (upd position by q) (upd header by h)
  read_at shape local header x h r here = record {
    each = λ c l. upd_case3 (λ k (y : ℕ → Option ℕ) p e. k < z.sizes.threads → IsReadAt shape y p e) local position header by x q h
        (λ _. here) c (λ _ l. r.each c l) l;
  }

  -- a step that says nothing
  pub polled_at : (paused phase want : ℕ) (polled : ℕ → ℕ) (target : ℕ → Option ℕ) (log : ℕ → List Entry) →
      Polled z paused phase want position polled target log → (IsIn q → IsIn (position by)) → (IsBusy q → IsBusy (position by)) →
      (by < z.sizes.threads → IsDue q (target by)) →
      Polled z paused phase want (upd position by q) polled target log
  polled_at paused phase want polled target log r f g d = record {
    since = λ c l i. upd_case (λ k p. k < z.sizes.threads → IsIn p → IsSince (phase_of (polled k)) (phase_of phase)) position by q
        (λ l i. r.since by l (f i)) c (λ _ l i. r.since c l i) l i;
    untargeted = λ c l i. upd_case (λ k p. k < z.sizes.threads → IsBusy p → target k ≡ None) position by q
        (λ l i. r.untargeted by l (g i)) c (λ _ l i. r.untargeted c l i) l i;
    due = λ c l. upd_case (λ k p. k < z.sizes.threads → IsDue p (target k)) position by q d c (λ _ l. r.due c l) l;
    targets = r.targets;
  }

  pub told_at : (g : Graph) (h : List Entry) (log : ℕ → List Entry) (target : ℕ → Option ℕ) (calls births : ℕ → ℕ) →
      Told z g h log position target calls births → under_way q (target by) ≡ under_way (position by) (target by) →
      births_under_way q ≡ births_under_way (position by) → Told z g h log (upd position by q) target calls births
  told_at g h log target calls births r e f = record {
    leads = r.leads;
    logs = r.logs;
    calls_are = λ c l. upd_case (λ k p. k < z.sizes.threads → length (calls_of (log k)) + under_way p (target k) ≡ calls k) position by q
        (λ l. ap (λ n. length (calls_of (log by)) + n) e ∙ r.calls_are by l) c (λ _ l. r.calls_are c l) l;
    births_are = λ c l. upd_case (λ k p. k < z.sizes.threads → births_among (calls_of (log k)) + births_under_way p ≡ births k) position by q
        (λ l. ap (λ n. births_among (calls_of (log by)) + n) f ∙ r.births_are by l) c (λ _ l. r.births_are c l) l;
    calls_fit = r.calls_fit;
    births_fit = r.births_fit;
  }

  -- a step that answers the call under way
  module _ (call : Call) (reply : Reply) (address epoch : ℕ) (is : position by ≡ Calling call) where
    abbrev entry : Entry
    entry = entry_of by epoch call reply address

    pub told_answered : (g g' : Graph) (h : List Entry) (log : ℕ → List Entry) (target : ℕ → Option ℕ) (calls births : ℕ → ℕ) →
        Told z g h log position target calls births → Follows z entry g g' → under_way q (target by) ≡ 0 → births_under_way q ≡ 0 →
        Told z g' (h ++ entry ∷ []) (upd log by (log by ++ entry ∷ [])) (upd position by q) target calls births
    told_answered g g' h log target calls births r next e f = record {
      leads = appended z h entry empty_graph g g' r.leads next;
      logs = λ c l. log_said by call reply address epoch h log c (r.logs c l);
      calls_are = λ c l. upd_case2 (λ k (x : List Entry) p. k < z.sizes.threads → length (calls_of x) + under_way p (target k) ≡ calls k)
          log position by (log by ++ entry ∷ []) q
          (λ l.
          let old : length (calls_of (log by)) + 1 ≡ calls by =
          ap (λ p. length (calls_of (log by)) + under_way p (target by)) (sym is) ∙ r.calls_are by l in
          let more : length (calls_of (log by ++ entry ∷ [])) ≡ length (calls_of (log by)) + 1 =
          ap length (calls_of-append (log by) entry) ∙ length-append (calls_of (log by)) (call ∷ []) in
          omega (arith, old, more, e)) c (λ _ l. r.calls_are c l) l;
      births_are = λ c l. upd_case2 (λ k (x : List Entry) p. k < z.sizes.threads → births_among (calls_of x) + births_under_way p ≡ births k)
          log position by (log by ++ entry ∷ []) q
          (λ l.
          let old : births_among (calls_of (log by)) + cond (makes_object call) 1 0 ≡ births by =
          ap (λ p. births_among (calls_of (log by)) + births_under_way p) (sym is) ∙ r.births_are by l in
          let more = births_of-append (log by) entry in
          omega (arith, old, more, f)) c (λ _ l. r.births_are c l) l;
      calls_fit = r.calls_fit;
      births_fit = r.births_fit;
    }

    pub polled_answered : (paused phase want : ℕ) (polled : ℕ → ℕ) (target : ℕ → Option ℕ) (log : ℕ → List Entry) →
        Polled z paused phase want position polled target log → ((t : Option ℕ) → IsDue q t) →
        Polled z paused phase want (upd position by q) polled target (upd log by (log by ++ entry ∷ []))
    polled_answered paused phase want polled target log r d =
        let isin : IsIn (position by) = subst (λ p. IsIn p) (sym is) tt in
        let busy : IsBusy (position by) = subst (λ p. IsBusy p) (sym is) tt in
        record {
          since = λ c l i. upd_case (λ k p. k < z.sizes.threads → IsIn p → IsSince (phase_of (polled k)) (phase_of phase)) position by q
              (λ l i. r.since by l isin) c (λ _ l i. r.since c l i) l i;
          untargeted = λ c l i. upd_case (λ k p. k < z.sizes.threads → IsBusy p → target k ≡ None) position by q
              (λ l i. r.untargeted by l busy) c (λ _ l i. r.untargeted c l i) l i;
          due = λ c l. upd_case (λ k p. k < z.sizes.threads → IsDue p (target k)) position by q (λ _. d (target by)) c (λ _ l. r.due c l) l;
          targets = λ c l. upd_case (λ k (x : List Entry). k < z.sizes.threads → IsTarget paused want (target k) x) log by (log by ++ entry ∷ [])
              (λ l. subst (λ x. IsTarget paused want x (log by ++ entry ∷ [])) (sym (r.untargeted by l busy)) tt) c (λ _ l. r.targets c l) l;
        }

    -- a call that asks for no cell has none
    pub no_cell : (born : ℕ) (shape : ℕ → Shape) (taken : ℕ → Option Taken) → Apart z born shape position taken → by < callers z.sizes →
        words_asked z call ≡ None → taken by ≡ None
    no_cell born shape taken r less none = at (taken by) refl
      where
        at : (x : Option Taken) → taken by ≡ x → x ≡ None
        at None e = refl
        at (Some t) e =
            let asked : IsAskedBy z (Calling call) t = subst (λ p. IsAskedBy z p t) is (r.asked by t less e) in
            let h : Option.None ≡ Some t.span.len = sym none ∙ asked in absurd (cc)
