-- The laws of the collector's steps, and what the rule says at the end of marking.
use Rattle.std.proofs.Common.{◌≡◌, ℕ, ◌+◌, ◌<◌, ◌≤◌, ◌⊎◌, ◌↔◌, inl, inr, Bool, true, false, cond, Option, Some}
use Rattle.std.proofs.Common.{None, List, [], ◌∷◌, ◌++◌}
use Rattle.std.proofs.Common.{refl, sym, ap, subst, ◌∙◌, arith, ne_eqb}
use Rattle.std.proofs.lemmas.Bool.{cases_lt, cases_order}
use Rattle.kn_base.specs.Functions.{upd}
use Rattle.kn_base.proofs.Updates.{upd_here}
use Rattle.kn_graph.specs.declared.calls.Call.{Call}
use Rattle.kn_graph.specs.declared.entries.Entry.{Entry}
use Rattle.kn_graph.specs.Ground.{Ground}
use Rattle.kn_graph.specs.Graph.{Graph, empty_graph, pointers}
use Rattle.kn_graph.specs.Reachable.{IsRoot, IsWalk, in_local, in_global, in_stable, in_back}
use Rattle.kn_graph.specs.Growth.{Succeeds}
use Rattle.kn_graph.specs.Histories.{Follows}
use Rattle.kn_graph.specs.Logs.{log_of, calls_of}
use Rattle.kn_graph.specs.Epochs.{WasUnreachable}
use Rattle.kn_graph.proofs.Condemned.{condemned_exactly}
use Rattle.kn_graph.proofs.LegalGraphs.{next_sound}
use Rattle.kn_graph.proofs.Splits.{appended, log_of-append}
use Rattle.kn_graph.proofs.Successors.{leads_succeeds}
use Rattle.kn_cms_rule.specs.declared.stages.Colour.{Colour}
use Rattle.kn_cms_rule.specs.declared.stages.Colour.TheVariants.{White, Gray, Black}
use Rattle.kn_cms_rule.specs.declared.stages.Doing.TheVariants.{Free, Loaded, Shaded}
use Rattle.kn_cms_rule.specs.declared.stages.Stage.{Stage}
use Rattle.kn_cms_rule.specs.declared.stages.Stage.TheVariants.{Marking, Looking, Finished}
use Rattle.kn_cms_rule.specs.Words.{one_framed}
use Rattle.kn_cms_rule.specs.State.{State, is_coloured, shade, IsRefField}
use Rattle.kn_cms_rule.specs.Steps.{Snapshots, Begins, Looks, Blackens, Ends, IsHeld, pause_entry, paused_graph}
use Rattle.kn_cms_rule.specs.MarkRule.{MarkRule, IsNullOrColoured, IsFieldKept, IsKept}
use Rattle.kn_cms_rule.specs.Rule.{Rule, IsUnmarked, IsSince, IsInMarking, IsMarked, IsAtStage, IsBegun, IsInMiddle}
use Rattle.kn_cms_rule.proofs.Called.{sound, kind_same}
use Rattle.kn_cms_rule.proofs.Shades.{gray_shade, shade_here}
use Rattle.kn_cms_rule.proofs.Histories.{full_more, hold_kept, at_sound, at_reached, true_not_false}
use Rattle.kn_cms_rule.proofs.Marks.{mark_shaded, mark_looked, mark_black, seen_more}
use Rattle.kn_cms_rule.proofs.Stacked.{still_stacked}

coloured_at : (colour : ℕ → Colour) (v : Option ℕ) → ((n : ℕ) → v ≡ Some n → colour n ≡ Gray) → IsNullOrColoured colour v
coloured_at colour None f = tt
coloured_at colour (Some n) f = ap is_coloured (f n refl)

-- the snapshot
module _ (base : Ground) (calls : ℕ → List Call) (s s' : State) (rule : Rule (one_framed base) calls s) (k : Snapshots (one_framed base) s s') where
  unmarked : IsUnmarked s.graph s.snapshot s.colour s.looked
  unmarked = subst (IsAtStage (one_framed base) s) k.waits rule.at_stage

  pause_follows : Follows (one_framed base) (pause_entry (one_framed base)) s.graph (paused_graph (one_framed base) s.graph k.flag)
  pause_follows = record {
    graph = _;
    event = (
      record { by_collector = refl; epoch_is = refl },
      record {
        next = let e = unmarked.paused in omega arith;
        last_done = unmarked.done ∙ sym unmarked.paused;
        flag = k.flag;
        condemns = k.condemns;
        after = refl;
      },
    );
    after = refl;
  }

  succeeds : Succeeds s.graph (paused_graph (one_framed base) s.graph k.flag)
  succeeds = leads_succeeds (one_framed base) (pause_entry (one_framed base) ∷ []) s.graph (paused_graph (one_framed base) s.graph k.flag)
      (sound (one_framed base) calls s rule) (paused_graph (one_framed base) s.graph k.flag, pause_follows, refl)

  kept_at : (n : ℕ) → n < s.graph.born → IsKept s.graph s.graph.born n → k.flag n ≡ false
  kept_at n near (inl q) = (k.condemns.born n near).1 (q, unmarked.alive n near)
  kept_at n near (inr p) = let far = p.0 in absurd (omega arith)

  since : IsSince (one_framed base) (paused_graph (one_framed base) s.graph k.flag) (s.history ++ pause_entry (one_framed base) ∷ []) s.graph
  since = record {
    before = s.history;
    paused_at = record { after = []; whole = refl; leads = rule.leads };
    succeeds = succeeds;
    nameless = rule.nameless;
    flags = λ n near. (λ e. inl ((k.condemns.born n near).0 e).0, kept_at n near);
  }

  not_black : (n : ℕ) → k.colour n ≡ Black → IsHeld s.graph n ⊎ (k.colour n ≡ s.colour n) → ⊥
  not_black n e (inl h) = let f : Black ≡ Gray = sym e ∙ k.grays.held n h in absurd (cc)
  not_black n e (inr h) = let f : Black ≡ White = sym e ∙ (h ∙ unmarked.white n) in absurd (cc)

  held_kept : (n : ℕ) → IsHeld s.graph n → IsKept s.graph s.graph.born n
  held_kept n (inl p) = inl ([], in_local p.0 p.1 p.2)
  held_kept n (inr p) = inl ([], in_global p.0 p.1)

  coloured_kept : (n : ℕ) → is_coloured (k.colour n) ≡ true → IsHeld s.graph n ⊎ (k.colour n ≡ s.colour n) → IsKept s.graph s.graph.born n
  coloured_kept n e (inl h) = held_kept n h
  coloured_kept n e (inr h) = let f : true ≡ false = sym e ∙ ap is_coloured (h ∙ unmarked.white n) in absurd (cc)

  not_loaded : (i n f : ℕ) (v : Option ℕ) → i < base.sizes.threads → s.doing i ≡ Loaded n f v → ⊥
  not_loaded i n f v near e = let g : Free ≡ Loaded n f v = sym (k.between i near) ∙ e in absurd (cc)

  not_shaded : (i n f : ℕ) → i < base.sizes.threads → s.doing i ≡ Shaded n f → ⊥
  not_shaded i n f near e = let g : Free ≡ Shaded n f = sym (k.between i near) ∙ e in absurd (cc)

  mark_rule : MarkRule (one_framed base) s.graph (paused_graph (one_framed base) s.graph k.flag) k.colour s.looked s.doing
  mark_rule = record {
    roots = record {
      locals = λ i r. coloured_at k.colour (s.graph.local i r) (λ n e. k.grays.held n (inl (i, r, e)));
      globals = λ i. coloured_at k.colour (s.graph.global i) (λ n e. k.grays.held n (inr (i, e)));
    };
    newer = λ n a b. absurd (omega (arith, a, b));
    fields = λ n f q. inl (refl, unmarked.unread n f);
    blacks = λ n f near b e. absurd (not_black n b (k.grays.others n));
    loads = λ i n f v near e. absurd (not_loaded i n f v near e);
    shades = λ i n f near e. absurd (not_shaded i n f near e);
    held = hold_kept (one_framed base) (paused_graph (one_framed base) s.graph k.flag) (s.history ++ pause_entry (one_framed base) ∷ []) s.graph since
        (next_sound (one_framed base) (pause_entry (one_framed base)) s.graph (paused_graph (one_framed base) s.graph k.flag)
        (sound (one_framed base) calls s rule) pause_follows);
    loaded = λ i n f v near e. absurd (not_loaded i n f v near e);
    coloured = λ n e. coloured_kept n e (k.grays.others n);
  }

  same_log : (i : ℕ) → i < base.sizes.threads → log_of i (s.history ++ pause_entry (one_framed base) ∷ []) ≡ log_of i s.history
  same_log i near = log_of-append i s.history (pause_entry (one_framed base))
      ∙ ap (λ b. cond b (log_of i s.history ++ pause_entry (one_framed base) ∷ []) (log_of i s.history)) (ne_eqb base.sizes.threads i
      (λ e. absurd (omega arith)))

  pub snapshot_keeps : Rule (one_framed base) calls s'
  snapshot_keeps = subst (Rule (one_framed base) calls) (sym k.after) (record {
    leads = appended (one_framed base) s.history (pause_entry (one_framed base)) empty_graph s.graph (paused_graph (one_framed base) s.graph k.flag)
        rule.leads pause_follows;
    full = full_more (one_framed base) s.history s.graph rule.leads (pause_entry (one_framed base)) rule.full tt;
    stacked = still_stacked base s.graph rule.stacked (paused_graph (one_framed base) s.graph k.flag) succeeds refl;
    nameless = rule.nameless;
    made = λ i near. ap (λ (l : List Entry). calls_of l ++ s.left i) (same_log i near) ∙ rule.made i near;
    may_be_made = rule.may_be_made;
    in_middle = λ i near. subst (IsInMiddle (one_framed base) (paused_graph (one_framed base) s.graph k.flag) i (s.left i)) (sym (k.between i near)) tt;
    at_stage = record { at = s.graph; is_snapshot = refl; since = since; rule = mark_rule; begun = tt };
  })

-- the steps of marking
module _ (z : Ground) (calls : ℕ → List Call) (s s' : State) (rule : Rule z calls s) where
  -- the state goes on in marking
  marking_on : (colour : ℕ → Colour) (looked : ℕ → ℕ → Bool) (stage : Stage) →
      IsAtStage z (record s { colour = colour; looked = looked; stage = stage }) stage →
      Rule z calls (record s { colour = colour; looked = looked; stage = stage })
  marking_on colour looked stage h = record {
    leads = rule.leads;
    full = rule.full;
    stacked = rule.stacked;
    nameless = rule.nameless;
    made = rule.made;
    may_be_made = rule.may_be_made;
    in_middle = rule.in_middle;
    at_stage = h;
  }

  -- between two objects
  module _ (marks : s.stage ≡ Marking) where
    in_marking : IsInMarking z s
    in_marking = subst (IsAtStage z s) marks rule.at_stage

  pub begin_keeps : Begins z s s' → Rule z calls s'
  begin_keeps k = let h = in_marking k.marks in subst (Rule z calls) (sym k.after) (marking_on s.colour s.looked (Looking k.object 0) (record {
    at = h.at;
    is_snapshot = h.is_snapshot;
    since = h.since;
    rule = h.rule;
    begun = (k.is_gray, λ f less. absurd (omega (arith, less)));
  }))

  -- within an object
  module _ (n from : ℕ) (is : s.stage ≡ Looking n from) where
    in_look : IsInMarking z s
    in_look = subst (IsAtStage z s) is rule.at_stage

    begun : IsBegun z in_look.at s.colour s.looked (Looking n from)
    begun = subst (IsBegun z in_look.at s.colour s.looked) is in_look.begun

    had : is_coloured (s.colour n) ≡ true
    had = ap is_coloured begun.0

    kept : IsKept in_look.at s.graph.born n
    kept = in_look.rule.coloured n had

    -- it was born before the snapshot, since each object born after it is black
    older_at : IsKept in_look.at s.graph.born n → n < in_look.at.born
    older_at (inl q) = at_reached z s.graph s.history in_look.at in_look.since n q
    older_at (inr p) = let f : Black ≡ Gray = sym (in_look.rule.newer n p.0 p.1) ∙ begun.0 in absurd (cc)

    older : n < in_look.at.born
    older = older_at kept

    kind_now : (f : ℕ) → IsRefField z in_look.at n f → IsRefField z s.graph n f
    kind_now f e = kind_same z in_look.at s.graph in_look.since.succeeds n f older ∙ e

  module _ (k : Looks z s s') where
    looked_here : upd s.looked k.object (upd (s.looked k.object) k.field true) k.object k.field ≡ true
    looked_here = ap (λ (l : ℕ → Bool). l k.field) (upd_here s.looked k.object (upd (s.looked k.object) k.field true))
        ∙ upd_here (s.looked k.object) k.field true

    look_rule : MarkRule z (in_look k.object k.from k.begun).at s.graph (shade s.colour (pointers s.graph k.object k.field))
        (upd s.looked k.object (upd (s.looked k.object) k.field true)) s.doing
    look_rule =
        let h = in_look k.object k.from k.begun in let v = pointers s.graph k.object k.field in
        mark_looked z h.at s.graph (shade s.colour v) s.looked s.doing
        (mark_shaded z h.at s.graph s.colour s.looked s.doing h.rule v (h.rule.held.fields k.object k.field (kept k.object k.from k.begun)))
        k.object k.field (shade_here s.colour v)

    passed : (f : ℕ) → f < k.field + 1 → IsRefField z (in_look k.object k.from k.begun).at k.object f →
        upd s.looked k.object (upd (s.looked k.object) k.field true) k.object f ≡ true
    passed f less e = by (cases_lt f k.from) (cases_order f k.field)
      where
        by : (f < k.from) ⊎ (k.from ≤ f) → (f ≡ k.field) ⊎ ((f < k.field) ⊎ (k.field < f)) →
            upd s.looked k.object (upd (s.looked k.object) k.field true) k.object f ≡ true
        by (inl old) o = let h = in_look k.object k.from k.begun in let v = pointers s.graph k.object k.field in
            seen_more z h.at s.graph (shade s.colour v) s.looked s.doing
            (mark_shaded z h.at s.graph s.colour s.looked s.doing h.rule v (h.rule.held.fields k.object k.field (kept k.object k.from k.begun)))
            k.object k.field (shade_here s.colour v) k.object f ((begun k.object k.from k.begun).1 f old e)
        by (inr new) (inl same) = subst (λ j. upd s.looked k.object (upd (s.looked k.object) k.field true) k.object j ≡ true) (sym same) looked_here
        by (inr new) (inr (inl before)) = absurd (k.next.first f new before (kind_now k.object k.from k.begun f e))
        by (inr new) (inr (inr behind)) = absurd (omega (arith, less, behind))

    pub look_keeps : Rule z calls s'
    look_keeps =
        let h = in_look k.object k.from k.begun in let v = pointers s.graph k.object k.field in
        subst (Rule z calls) (sym k.after) (marking_on (shade s.colour v) (upd s.looked k.object (upd (s.looked k.object) k.field true))
        (Looking k.object (k.field + 1)) (record {
          at = h.at;
          is_snapshot = h.is_snapshot;
          since = h.since;
          rule = look_rule;
          begun = (gray_shade s.colour v k.object (begun k.object k.from k.begun).0, passed);
        }))

  module _ (k : Blackens z s s') where
    all_looked : (f : ℕ) → IsRefField z (in_look k.object k.from k.begun).at k.object f → s.looked k.object f ≡ true
    all_looked f e = by (cases_lt f k.from)
      where
        by : (f < k.from) ⊎ (k.from ≤ f) → s.looked k.object f ≡ true
        by (inl old) = (begun k.object k.from k.begun).1 f old e
        by (inr new) = absurd (k.none f new (kind_now k.object k.from k.begun f e))

    pub blacken_keeps : Rule z calls s'
    blacken_keeps =
        let h = in_look k.object k.from k.begun in
        subst (Rule z calls) (sym k.after) (marking_on (upd s.colour k.object Black) s.looked Marking (record {
          at = h.at;
          is_snapshot = h.is_snapshot;
          since = h.since;
          rule = mark_black z h.at s.graph s.colour s.looked s.doing h.rule k.object (had k.object k.from k.begun) all_looked;
          begun = tt;
        }))

  -- the end of marking
  module _ (k : Ends z s s') where
    at : Graph
    at = (in_marking k.marks).at

    black_of : (n : ℕ) → n < s.graph.born → (c : Colour) → s.colour n ≡ c → is_coloured c ≡ true → s.colour n ≡ Black
    black_of n near White e h = absurd (cc)
    black_of n near Gray e h = absurd (k.none n near e)
    black_of n near Black e h = e

    field_coloured : (before now : Option ℕ) (looked : Bool) (n : ℕ) → before ≡ Some n → looked ≡ true →
        IsFieldKept s.colour before now looked →
        is_coloured (s.colour n) ≡ true
    field_coloured before now looked n e l (inl p) = absurd (true_not_false looked l p.1)
    field_coloured before now looked n e l (inr h) = subst (IsNullOrColoured s.colour) e h

    root_coloured : (n : ℕ) → IsRoot (in_marking k.marks).at n → is_coloured (s.colour n) ≡ true
    root_coloured n (in_local i r e) = subst (IsNullOrColoured s.colour) e ((in_marking k.marks).rule.roots.locals i r)
    root_coloured n (in_global i e) = subst (IsNullOrColoured s.colour) e ((in_marking k.marks).rule.roots.globals i)
    root_coloured n (in_stable h e) =
        let f : ◌≡◌ {A = Option ℕ} None (Some n) = sym ((in_marking k.marks).since.nameless.stables h) ∙ e in absurd (cc)
    root_coloured n (in_back b e pos) =
        let f : ◌≡◌ {A = Option ℕ} None (Some n) = sym ((in_marking k.marks).since.nameless.backs b) ∙ e in absurd (cc)

    -- every object that was reachable at the snapshot has a colour
    walk_coloured : (before : List ℕ) (n : ℕ) → IsWalk (in_marking k.marks).at n before → is_coloured (s.colour n) ≡ true
    walk_coloured [] n w = root_coloured n w
    walk_coloured (m ∷ before) n w =
        let h = in_marking k.marks in
        let near : m < h.at.born = at_reached z s.graph s.history h.at h.since m (before, w.1) in
        let more = h.since.succeeds.born in
        let black = black_of m (omega arith) (s.colour m) refl (walk_coloured before m w.1) in
        let kind = ((at_sound z s.graph s.history h.at h.since).fields m near).kinds w.0.0 n w.0.1 in
        field_coloured (pointers h.at m w.0.0) (pointers s.graph m w.0.0) (s.looked m w.0.0) n w.0.1 (h.rule.blacks m w.0.0 near black kind)
        (h.rule.fields m w.0.0 (before, w.1))

    kept_coloured : (n : ℕ) → IsKept (in_marking k.marks).at s.graph.born n → is_coloured (s.colour n) ≡ true
    kept_coloured n (inl q) = walk_coloured q.0 n q.1
    kept_coloured n (inr p) = ap is_coloured ((in_marking k.marks).rule.newer n p.0 p.1)

    white_condemned : (n : ℕ) → n < s.graph.born → s.colour n ≡ White → (b : Bool) → (s.graph.object n).condemned ≡ b → b ≡ true
    white_condemned n near e true is = refl
    white_condemned n near e false is = absurd (true_not_false (is_coloured (s.colour n))
        (kept_coloured n (((in_marking k.marks).since.flags n near).0 is)) (ap is_coloured e))

    condemned_white : (n : ℕ) → n < s.graph.born → (s.graph.object n).condemned ≡ true → (c : Colour) → s.colour n ≡ c → c ≡ White
    condemned_white n near dead White e = refl
    condemned_white n near dead Gray e = absurd (k.none n near e)
    condemned_white n near dead Black e = absurd (true_not_false (s.graph.object n).condemned dead
        (((in_marking k.marks).since.flags n near).1 ((in_marking k.marks).rule.coloured n (ap is_coloured e))))

    pub end_keeps : Rule z calls s'
    end_keeps =
        let h = in_marking k.marks in
        subst (Rule z calls) (sym k.after) (marking_on s.colour s.looked Finished (record {
          at = h.at;
          is_snapshot = h.is_snapshot;
          since = h.since;
          settled = λ n near. (
            λ e. white_condemned n near e (s.graph.object n).condemned refl,
            λ e. condemned_white n near e (s.colour n) refl,
          );
        }))

  -- once marking has ended
  pub condemns_exactly : (n : ℕ) → s.stage ≡ Finished → n < s.graph.born → (s.colour n ≡ White) ↔ WasUnreachable z empty_graph s.history n
  condemns_exactly n e near =
      let h : IsMarked z s = subst (IsAtStage z s) e rule.at_stage in
      let both = h.settled n near in let exact = condemned_exactly z s.history s.graph n rule.leads near in
      (λ w. exact.0 (both.0 w), λ u. both.1 (exact.1 u))
