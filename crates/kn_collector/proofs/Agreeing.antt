-- What a collector keeps behind the step of its stage agrees with the view behind it.
use Rattle.std.proofs.Common.{◌≡◌, ℕ, ◌+◌, ◌<◌, ◌≤◌, inl, inr, Bool, true, false, cond, eqb, List, [], ◌∷◌, ◌++◌}
use Rattle.std.proofs.Common.{length, set, replicate}
use Rattle.std.proofs.Common.{Some, slice_get, nat_lt, refl, sym, ap, ◌∙◌, subst, arith, length-append}
use Rattle.std.proofs.lemmas.Bool.{ltb-true, ltb-false}
use Rattle.std.proofs.lemmas.Bool.Decides.{eqb_tells}
use Rattle.std.proofs.lemmas.List.{length-set, length-replicate}
use Rattle.kn_base.specs.declared.kinds.Code.TheVariants as codes
use Rattle.kn_base.specs.declared.limits.TheConstants.{MOST_CALLS}
use Rattle.kn_base.specs.declared.phase_word.PhaseWord.{PhaseWord}
use Rattle.kn_base.specs.declared.places.Place.TheVariants.{Phase, Want, Pending, State as StateOf}
use Rattle.kn_base.specs.Functions.{Tells}
use Rattle.kn_base.proofs.Updates.{get_set_else, get_set_here}
use Rattle.kn_graph.specs.declared.entries.Entry.{Entry}
use Rattle.kn_marking.specs.declared.work.Work.{Work}
use Rattle.kn_marking.specs.Shares.{joined}
use Rattle.kn_rule.specs.declared.positions.Position.TheVariants as positions
use Rattle.kn_rule.specs.declared.steps.Action.TheVariants.{Loads, Stores}
use Rattle.kn_rule.specs.declared.steps.Kind.TheVariants.{K2, K13, K14, K15, K16}
use Rattle.kn_rule.specs.MarkSteps.{joined_by}
use Rattle.kn_rule.specs.Outcomes.{paused_at, wanted_at}
use Rattle.kn_rule.specs.Phases.{is_stop}
use Rattle.kn_rule.specs.Steps.{Found, does, logged, more, pause_of}
use Rattle.kn_rule.specs.Views.{Collecting}
use Rattle.kn_rule.proofs.Decodings.{phase_packed}
use Rattle.kn_steps.specs.Made.{Made, Stand}
use Rattle.kn_keep_mark.specs.Laws.{EpochsAreFew}
use Rattle.kn_mark.specs.Kept.{started}
use Rattle.kn_mark.specs.Agree.{Agrees as MarkerAgrees, IsShareOf, MayStart}
use Rattle.kn_collector.specs.declared.stage.Stage.{Stage}
use Rattle.kn_collector.specs.declared.stage.Stage.TheVariants.{Looks, Wants, Ends, Stops, Counts, Begins, Marks, Pauses, Paused}
use Rattle.kn_collector.specs.Kept.{Kept}
use Rattle.kn_collector.specs.Stages.{behind, code_at, phase_word}
use Rattle.kn_collector.specs.Agree.{Agrees, AtStage, EachBelow, MarksAt, pauses_due, position_at}
use Rattle.kn_collector.proofs.Allowing.{at_stage, some, stands}

-- one flag more is set
each_more : (flags : List Bool) (i : ℕ) (b : Bool) → b ≡ true → i < length flags → EachBelow i flags → EachBelow (i + 1) (set flags i b)
each_more flags i b is l below j m = at (eqb_tells i j)
  where
    at : Tells i j → slice_get (set flags i b) j ≡ Some true
    at (inl t) = ap (slice_get (set flags i b)) (sym t.1) ∙ get_set_here flags i b l ∙ ap (λ x. Some x) is
    at (inr t) = let ne = t.1 in get_set_else flags i b j t.1 ∙ below j (omega (arith, m, ne))

-- no flag is there below 0
none_below : (flags : List Bool) → EachBelow 0 flags
none_below flags i l = absurd (omega (arith, l))

-- the last one was set
each_all : (n i : ℕ) (flags : List Bool) → n ≤ i + 1 → EachBelow (i + 1) flags → EachBelow n flags
each_all n i flags most below j l = below j (omega (arith, most, l))

module _ {k : Kept} {a : Stand} (g : Agrees k a) where
  abbrev old : Collecting
  old = a.view.collecting

  pub stored_at : (t : Stage) → k.stage ≡ t → old.stored ≡ phase_word k.epoch (code_at t)
  stored_at t e = g.stored ∙ ap (λ t. phase_word k.epoch (code_at t)) e

  pub few_at : (t : Stage) → k.stage ≡ t → length k.log + pauses_due t ≤ k.epoch
  few_at t e = subst (λ t. length k.log + pauses_due t ≤ k.epoch) e g.few

  -- of the view the share joined epoch e, and the collector's part and the log were changed; the share joined no other epoch of
  -- what is kept
  abbrev with_parts : ℕ → Collecting → List Entry → Stand
  with_parts e part log = record a { view = record a.view { work = joined a.view.work e; collecting = part; log = log } }

  -- what is kept behind a step that leaves the marker as it is
  abbrev kept_with : ℕ → Stage → List Entry → Kept
  kept_with epoch t log = record k { epoch = epoch; stage = t; log = log }

  share_with : (e : ℕ) (part : Collecting) (log : List Entry) → IsShareOf k.marker (with_parts e part log)
  share_with e part log =
      record { sizes = g.share.sizes; share = ap (λ (w : Work). joined w e) g.share.share; at_ref = g.share.at_ref }

  -- the log has room for the pause
  pub room_for_pause : k.stage ≡ Pauses → length k.log < MOST_CALLS
  room_for_pause is = let room = few_at Pauses is in let most = g.epochs in omega (arith, room, most)

  -- Mark was stored
  abbrev marked : Stand
  marked = record a {
    view = record a.view { work = joined a.view.work k.epoch; collecting = record old { stored = phase_word k.epoch codes.Mark } };
  }

  may_start : k.stage ≡ Marks → MayStart k.marker k.epoch marked
  may_start is = record {
    good = g.good;
    marker = inr (record {
      collector = g.caller ∙ g.collector;
      going = stands g Marks is;
      in_mark = ap (λ (x : PhaseWord). x.code) (phase_packed (record { epoch = k.epoch; code = codes.Mark }));
    });
    share = share_with k.epoch (record old { stored = phase_word k.epoch codes.Mark }) a.view.log;
    epoch = refl;
  }

  module _ {b : Stand} where
    agrees_with : (t t' : Stage) (epoch e : ℕ) (part : Collecting) (said log : List Entry) → k.stage ≡ t → position_at t ≡ position_at t' →
        b ≡ with_parts e part said → said ≡ log → part.stored ≡ phase_word epoch (code_at t') → length part.ended ≡ k.by →
        length part.counted ≡ k.by → length log + pauses_due t' ≤ epoch → epoch ≤ MOST_CALLS → AtStage t' (kept_with epoch t' log) part →
        MarksAt t' (kept_with epoch t' log) (with_parts e part said) → Agrees (kept_with epoch t' log) b
    agrees_with t t' epoch e part said log is same view logs stored ended counted few epochs at marks =
        subst (λ b. Agrees (kept_with epoch t' log) b) (sym view)
        (record {
          good = g.good;
          layouts = g.layouts;
          caller = g.caller;
          collector = g.collector;
          position = stands g t is ∙ same;
          stored = stored;
          ended = ended;
          counted = counted;
          log = logs;
          few = few;
          epochs = epochs;
          share = share_with e part said;
          at = at;
          marks = marks;
        })

    -- the collector's part alone was changed, in the same phase
    still_with : (t t' : Stage) (part : Collecting) → k.stage ≡ t → position_at t ≡ position_at t' → code_at t ≡ code_at t' →
        pauses_due t ≡ pauses_due t' → b ≡ record a { view = record a.view { collecting = part } } → part.stored ≡ old.stored →
        length part.ended ≡ k.by → length part.counted ≡ k.by → AtStage t' (record k { stage = t' }) part →
        MarksAt t' (record k { stage = t' }) (record a { view = record a.view { collecting = part } }) → Agrees (record k { stage = t' }) b
    still_with t t' part is same code due view stored ended counted at marks =
        agrees_with t t' k.epoch a.view.work.epoch part a.view.log k.log is same view g.log
        (stored ∙ (stored_at t is ∙ ap (phase_word k.epoch) code)) ended counted
        (subst (λ n. length k.log + n ≤ k.epoch) due (few_at t is)) g.epochs at marks

  module _ {here : ℕ → Bool} {f : Found} {b : Stand} {here' : ℕ → Bool} where
    -- the state of mutator i was loaded
    module _ (i : ℕ) (made : Made a here (does K15 (StateOf i) Loads) f b here') where
      abbrev heard : Collecting
      heard = record old { counted = set old.counted i (cond (eqb f.word 1) false true); ended = set old.ended i (eqb f.word 2) }

      heard_with : (t t' : Stage) → k.stage ≡ t → position_at t ≡ position_at t' → code_at t ≡ code_at t' →
          pauses_due t ≡ pauses_due t' → AtStage t' (record k { stage = t' }) heard →
          MarksAt t' (record k { stage = t' }) (record a { view = record a.view { collecting = heard } }) → Agrees (record k { stage = t' }) b
      heard_with t t' is same code due at marks =
          still_with t t' heard is same code due made.view refl (length-set old.ended i (eqb f.word 2) ∙ g.ended)
          (length-set old.counted i (cond (eqb f.word 1) false true) ∙ g.counted) at marks

      pub looked_agrees : k.stage ≡ Looks i → Agrees (behind k (Looks i) f.word) b
      looked_agrees is = by (eqb f.word 2) refl (nat_lt (i + 1) k.by) refl
        where
          less : i < length old.ended
          less = let l = (at_stage g (Looks i) is).0 in let n = g.ended in omega (arith, l, n)

          more_ended : eqb f.word 2 ≡ true → EachBelow (i + 1) heard.ended
          more_ended e = each_more old.ended i (eqb f.word 2) e less (at_stage g (Looks i) is).1

          over : old.over ≡ true
          over = (at_stage g (Looks i) is).2

          by : (q : Bool) → eqb f.word 2 ≡ q → (r : Bool) → nat_lt (i + 1) k.by ≡ r →
              Agrees (record k { stage = cond q (cond r (Looks (i + 1)) (Wants true)) (Wants false) }) b
          by true e true n = heard_with (Looks i) (Looks (i + 1)) is refl refl refl (ltb-true (i + 1) k.by n, more_ended e, over) tt
          by true e false n = heard_with (Looks i) (Wants true) is refl refl refl
              (λ _. each_all k.by i heard.ended (ltb-false (i + 1) k.by n) (more_ended e), over) tt
          by false e r n = heard_with (Looks i) (Wants false) is refl refl refl (λ h. cc, over) tt

      pub counted_agrees : k.stage ≡ Counts i → Agrees (behind k (Counts i) f.word) b
      counted_agrees is = by (eqb f.word 1) refl (nat_lt (i + 1) k.by) refl
        where
          at : AtStage (Counts i) k old
          at = at_stage g (Counts i) is

          less : i < length old.counted
          less = let l = at.0 in let n = g.counted in omega (arith, l, n)

          more_counted : eqb f.word 1 ≡ false → EachBelow (i + 1) heard.counted
          more_counted e = each_more old.counted i (cond (eqb f.word 1) false true) (ap (λ q. cond q false true) e) less at.1

          -- the flags below i stay
          still : EachBelow i heard.counted
          still j l =
              let ne : i ≡ j → ⊥ = λ e. omega (arith, l, e) in
              get_set_else old.counted i (cond (eqb f.word 1) false true) j ne ∙ at.1 j l

          by : (q : Bool) → eqb f.word 1 ≡ q → (r : Bool) → nat_lt (i + 1) k.by ≡ r →
              Agrees (record k { stage = cond q (Counts i) (cond r (Counts (i + 1)) Begins) }) b
          by true e r n = heard_with (Counts i) (Counts i) is refl refl refl (at.0, still, at.2) tt
          by false e true n =
              heard_with (Counts i) (Counts (i + 1)) is refl refl refl (ltb-true (i + 1) k.by n, more_counted e, at.2) tt
          by false e false n = heard_with (Counts i) Begins is refl refl refl
              (each_all k.by i heard.counted (ltb-false (i + 1) k.by n) (more_counted e), at.2) tt

    pub rested_agrees : k.stage ≡ Paused → Made a here (does K15 (StateOf 0) Loads) f b here' → Agrees (behind k Paused f.word) b
    rested_agrees is made = heard_with 0 made Paused Paused is refl refl refl tt tt

    -- the epoch wanted was loaded
    pub wanted_agrees : EpochsAreFew → (all : Bool) → k.stage ≡ Wants all → Made a here (does K13 Want Loads) f b here' →
        Agrees (behind k (Wants all) f.word) b
    wanted_agrees law all is made = by (nat_lt k.epoch f.word) refl all is
      where
        few : f.word ≤ MOST_CALLS
        few = subst (λ w. w ≤ MOST_CALLS) made.shown.3.0 (law a.heap made.shown.0 g.good made.shown.1)

        view : b ≡ record a { view = record a.view { collecting = record old { wanted = f.word } } }
        view = made.view ∙ (λ t. record a { view = logged (wanted_at a.heap a.by a.view Want Loads f (stands g (Wants all) is t)) })

        with : (all : Bool) → k.stage ≡ Wants all → (t' : Stage) → positions.Out ≡ position_at t' → codes.Idle ≡ code_at t' →
            0 ≡ pauses_due t' → AtStage t' (record k { stage = t' }) (record old { wanted = f.word }) →
            MarksAt t' (record k { stage = t' }) (record a { view = record a.view { collecting = record old { wanted = f.word } } }) →
            Agrees (record k { stage = t' }) b
        with all is t' same code due at marks =
            still_with (Wants all) t' (record old { wanted = f.word }) is same code due view refl g.ended g.counted at marks

        by : (q : Bool) → nat_lt k.epoch f.word ≡ q → (all : Bool) → k.stage ≡ Wants all →
            Agrees (record k { stage = cond q Stops (cond all Ends (Looks 0)) }) b
        by true e all is = with all is Stops refl refl refl (ltb-true k.epoch f.word e, few, (at_stage g (Wants all) is).1) tt
        by false e true is = with true is Ends refl refl refl ((at_stage g (Wants true) is).0 refl, ltb-false k.epoch f.word e) tt
        by false e false is =
            with false is (Looks 0) refl refl refl (some g, none_below old.ended, (at_stage g (Wants false) is).1) tt

    -- it ended
    pub ended_agrees : k.stage ≡ Ends → Made a here (does K2 (StateOf k.by) (Stores 2)) f b here' → Agrees (behind k Ends f.word) b
    ended_agrees is made =
        subst (λ b. Agrees (behind k Ends f.word) b) (sym made.view)
        (record {
          good = g.good;
          layouts = g.layouts;
          caller = g.caller;
          collector = g.collector;
          position = refl;
          stored = stored_at Ends is;
          ended = g.ended;
          counted = g.counted;
          log = g.log;
          few = few_at Ends is;
          epochs = g.epochs;
          share = record { sizes = g.share.sizes; share = g.share.share; at_ref = g.share.at_ref };
          at = tt;
          marks = tt;
        })

    -- a phase was stored
    module _ (v : PhaseWord) (made : Made a here (does K14 Phase (Stores (phase_word v.epoch v.code))) f b here') where
      abbrev stored : List Bool → Collecting
      stored counted = record old { stored = phase_word v.epoch v.code; counted = counted }

      abbrev said : PhaseWord → List Entry
      said v = more a.view.log (paused_at a.heap a.by a.view Phase (Stores (phase_word v.epoch v.code)) f v.code v.epoch)

      abbrev counted_then : List Bool
      counted_then = cond (is_stop v.code) (replicate a.heap.sizes.threads false) old.counted

      -- with a stop no mutator is counted, and Weak is the pause
      pub view_then : b ≡ record a {
        view = record a.view { work = joined_by v a.view.work; collecting = stored counted_then; log = said v };
      }
      view_then =
          made.view ∙ λ t. record a {
            view = record a.view {
              work = joined_by (phase_packed v t) a.view.work;
              collecting = stored (cond (is_stop (phase_packed v t).code) (replicate a.heap.sizes.threads false) old.counted);
              log = more a.view.log
                  (paused_at a.heap a.by a.view Phase (Stores (phase_word v.epoch v.code)) f (phase_packed v t).code (phase_packed v t).epoch);
            };
          }

    pub stopped_agrees : k.stage ≡ Stops → Made a here (does K14 Phase (Stores (phase_word (k.epoch + 1) codes.StopA))) f b here' →
        Agrees (behind k Stops f.word) b
    stopped_agrees is made =
        let v : PhaseWord = record { epoch = k.epoch + 1; code = codes.StopA } in
        let at = at_stage g Stops is in
        let above = at.0 in
        let most = at.1 in
        let room = few_at Stops is in
        agrees_with Stops (Counts 0) (k.epoch + 1) a.view.work.epoch (stored v made (replicate a.heap.sizes.threads false)) a.view.log k.log is refl
        (view_then v made) g.log refl g.ended (length-replicate a.heap.sizes.threads false ∙ sym g.collector) (omega (arith, room))
        (omega (arith, above, most)) (some g, none_below (replicate a.heap.sizes.threads false), at.2) tt

    pub paused_agrees : k.stage ≡ Pauses → Made a here (does K14 Phase (Stores (phase_word k.epoch codes.Weak))) f b here' →
        Agrees (behind k Pauses f.word) b
    paused_agrees is made =
        let v : PhaseWord = record { epoch = k.epoch; code = codes.Weak } in
        let room = few_at Pauses is in
        agrees_with Pauses Paused k.epoch a.view.work.epoch (stored v made old.counted) (a.view.log ++ pause_of a.by k.epoch ∷ [])
        (k.log ++ pause_of k.by k.epoch ∷ []) is refl (view_then v made) (λ t. g.log t ++ pause_of (g.caller t) k.epoch ∷ []) refl g.ended g.counted
        (let n = length-append k.log (pause_of k.by k.epoch ∷ []) in omega (arith, room, n)) g.epochs tt tt

    -- Mark was stored, and the marker was started
    pub marked_agrees : k.stage ≡ Marks → Made a here (does K14 Phase (Stores (phase_word k.epoch codes.Mark))) f b here' →
        ((c : Stand) → MayStart k.marker k.epoch c → MarkerAgrees (started k.marker k.epoch) c) → Agrees (behind k Marks f.word) b
    marked_agrees is made starts =
        let v : PhaseWord = record { epoch = k.epoch; code = codes.Mark } in
        subst (λ b. Agrees (behind k Marks f.word) b) (sym (view_then v made))
        (record {
          good = g.good;
          layouts = g.layouts;
          caller = g.caller;
          collector = g.collector;
          position = stands g Marks is;
          stored = refl;
          ended = g.ended;
          counted = g.counted;
          log = g.log;
          few = few_at Marks is;
          epochs = g.epochs;
          share = record {
            sizes = g.share.sizes;
            share = ap (λ (w : Work). joined w k.epoch) g.share.share;
            at_ref = g.share.at_ref;
          };
          at = tt;
          marks = (starts marked (may_start is), refl);
        })

    -- the marking was begun
    pub begun_agrees : k.stage ≡ Begins → Made a here (does K16 Pending (Stores (k.by + 2))) f b here' → Agrees (behind k Begins f.word) b
    begun_agrees is made =
        still_with Begins Marks (record old { over = false }) is refl refl refl made.view refl g.ended g.counted
        ((at_stage g Begins is).0, refl) tt
