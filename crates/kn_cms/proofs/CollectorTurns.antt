-- The steps of the collector, as writes of lists.
use Rattle.std.proofs.Common.{◌≡◌, ◌≢◌, ℕ, ◌+◌, ◌<◌, ◌≤◌, ◌⊎◌, inl, inr, Bool, true, Option, Some, None, []}
use Rattle.std.proofs.Common.{◌∷◌, ◌++◌, length, slice_set, slice_index_or}
use Rattle.std.proofs.Common.{refl, sym, ap, subst, ◌∙◌, length-append, arith}
use Rattle.std.specs.Option.{IfSome}
use Rattle.kn_base.specs.Functions.{upd}
use Rattle.kn_layout.specs.declared.layouts.FieldKind.TheVariants.{Ref as of_ref}
use Rattle.kn_graph.specs.Graph.{pointers, shapes}
use Rattle.kn_graph.specs.Collections.{Condemns}
use Rattle.kn_graph.specs.Sound.{Alive}
use Rattle.kn_cms_rule.specs.declared.stages.Colour.TheVariants.{White, Gray, Black}
use Rattle.kn_cms_rule.specs.declared.stages.Doing.TheVariants.{Free}
use Rattle.kn_cms_rule.specs.declared.stages.Stage.{Stage}
use Rattle.kn_cms_rule.specs.declared.stages.Stage.TheVariants.{Waiting, Marking, Looking, Finished}
use Rattle.kn_cms_rule.specs.declared.stages.CmsTurn.TheVariants.{Moved, Idle, Done}
use Rattle.kn_lines.specs.declared.orders.Actor.TheVariants.{Collector}
use Rattle.kn_cms_rule.specs.Words.{one_framed}
use Rattle.kn_cms_rule.specs.State.{State, is_coloured, shade}
use Rattle.kn_cms_rule.specs.Steps.{Snapshots, Begins, Looks, Blackens, Ends, IsHeld, snapshots, begins, looks, blackens, ends, pause_entry, paused_graph}
use Rattle.kn_cms_rule.specs.MarkRule.{IsKept}
use Rattle.kn_cms_rule.specs.Rule.{IsAtStage, IsBegun, IsInMarking, IsUnmarked}
use Rattle.kn_cms_rule.specs.Turns.{CollectorTurn, collector_answer, moves, rests, waits}
use Rattle.kn_cms_lists.specs.Kept.{Kept, calls_of_threads, epoch_at, held_shaded, kept_kind, kept_point, rows_shaded, shaded_list, snapshot_lists}
use Rattle.kn_cms.specs.Stands.{StandsFor, HasRoom, IsCore, pauses_left}
use Rattle.kn_cms_lists.specs.Kept.{AreBelow}
use Rattle.kn_cms.specs.Moves.{CollectorMoves, IsFirstBusy, IsNextKept, TurnMoves}
use Rattle.kn_cms_rule.proofs.Called.{sound}
use Rattle.kn_cms.proofs.CellLists.{kind_told}
use Rattle.kn_cms.proofs.Marked.{marked_stands}
use Rattle.kn_cms_rule.proofs.CollectorLaws.{begin_keeps, blacken_keeps, end_keeps, look_keeps, snapshot_keeps}
use Rattle.kn_cms_rule.proofs.Decided.{pauses_there}
use Rattle.kn_cms_rule.proofs.Histories.{kept_born}
use Rattle.kn_cms_lists.proofs.Writes.{set_upd_all}
use Rattle.kn_cms.proofs.SetTurns.{born_near, kept_near}
use Rattle.kn_cms_lists.proofs.Writes.{shaded_told}
use Rattle.kn_cms_lists.proofs.Snapshots.{all_gray, all_long, all_new, all_old, rows_black, rows_long, rows_new, rows_old}

-- a turn that makes a step
pub turn_of_step : (k k' : Kept) (stage : Stage) → k'.stage ≡ stage → CollectorMoves k k' → TurnMoves k Collector (collector_answer stage) k'
turn_of_step k k' stage e m = record {
  ground = m.ground;
  calls = m.calls;
  stands = λ s h. let p = m.stands s h in (
    p.0,
    p.1,
    subst (λ x. CollectorTurn (one_framed k.ground) s (collector_answer x) p.0) (sym (p.1).stage ∙ e) (moves p.2),
  );
}

answer_moved : (stage : Stage) → stage ≢ Finished → collector_answer stage ≡ Moved
answer_moved Waiting e = refl
answer_moved Marking e = refl
answer_moved (Looking n f) e = refl
answer_moved Finished e = absurd (e refl)

pub turn_goes_on : (k k' : Kept) → k'.stage ≢ Finished → CollectorMoves k k' → TurnMoves k Collector Moved k'
turn_goes_on k k' e m = subst (λ t. TurnMoves k Collector t k') (answer_moved k'.stage e) (turn_of_step k k' k'.stage refl m)

-- a turn that makes none
pub rests_moves : (k : Kept) → k.stage ≡ Finished → TurnMoves k Collector Done k
rests_moves k e = record { ground = refl; calls = refl; stands = λ s h. (s, h, rests (sym h.stage ∙ e)) }

pub waits_moves : (k : Kept) (i : ℕ) → HasRoom k → k.stage ≡ Waiting → IsFirstBusy k.doing i → TurnMoves k Collector (Idle i) k
waits_moves k i room e busy = record {
  ground = refl;
  calls = refl;
  stands = λ s h. let near : i < k.ground.sizes.threads = (let within = busy.within in let long = room.doing in omega (arith, within, long)) in (
    s,
    h,
    waits (sym h.stage ∙ e) (record {
      is_thread = near;
      in_middle = λ f. busy.busy (h.doing i near ∙ f);
      first = λ j less. sym (h.doing j (omega (arith, less, near))) ∙ busy.first j less;
    }),
  );
}

module _ (k : Kept) (marks : k.stage ≡ Marking) where
  -- the beginning of an object
  module _ (n : ℕ) (gray : slice_index_or k.colours n White ≡ Gray) (least : (m : ℕ) → m < n → slice_index_or k.colours m White ≢ Gray) where
    begin : (s : State) → StandsFor k s → Begins (one_framed k.ground) s (record s { stage = Looking n 0 })
    begin s h = record {
      marks = sym h.stage ∙ marks;
      object = n;
      is_gray = sym (h.colours n) ∙ gray;
      least = λ m less e. least m less (h.colours m ∙ e);
      after = refl;
    }

    pub begin_moves : CollectorMoves k (record k { stage = Looking n 0 })
    begin_moves = record {
      ground = refl;
      calls = refl;
      stands = λ s h. (
        record s { stage = Looking n 0 },
        marked_stands k k.doing (Looking n 0) k.colours s h s.doing (Looking n 0) s.colour s.looked
            h.doing h.colours refl (ap (λ x. epoch_at x) marks)
            (begin_keeps (one_framed k.ground) (calls_of_threads k.calls) s _ h.rule (begin s h)),
        begins (begin s h),
      );
    }

  -- the end of marking
  module _ (none : (m : ℕ) → slice_index_or k.colours m White ≢ Gray) where
    end : (s : State) → StandsFor k s → Ends (one_framed k.ground) s (record s { stage = Finished })
    end s h = record { marks = sym h.stage ∙ marks; none = λ n _ e. none n (h.colours n ∙ e); after = refl }

    pub end_moves : CollectorMoves k (record k { stage = Finished })
    end_moves = record {
      ground = refl;
      calls = refl;
      stands = λ s h. (
        record s { stage = Finished },
        marked_stands k k.doing Finished k.colours s h s.doing Finished s.colour s.looked
            h.doing h.colours refl (ap (λ x. epoch_at x) marks)
            (end_keeps (one_framed k.ground) (calls_of_threads k.calls) s _ h.rule (end s h)),
        ends (end s h),
      );
    }

-- an object that was begun
module _ (k : Kept) (room : HasRoom k) (n from : ℕ) (begun : k.stage ≡ Looking n from) where
  module _ (s : State) (h : StandsFor k s) where
    is_begun : s.stage ≡ Looking n from
    is_begun = sym h.stage ∙ begun

    in_look : IsInMarking (one_framed k.ground) s
    in_look = subst (IsAtStage (one_framed k.ground) s) is_begun h.rule.at_stage

    begun_kept : IsKept in_look.at s.graph.born n
    begun_kept = in_look.rule.coloured n (ap is_coloured
        (subst (IsBegun (one_framed k.ground) in_look.at s.colour s.looked) is_begun in_look.begun).0)

    pub begun_born : n < s.graph.born
    begun_born = kept_born (one_framed k.ground) s.graph s.history in_look.at in_look.since n begun_kept

    pub value_near : (f : ℕ) → IfSome (kept_point k.cells n f) (λ m. m < length k.colours)
    value_near f = subst (λ (v : Option ℕ). IfSome v (λ m. m < length k.colours)) (sym (h.cells.fields n f))
        (kept_near k room s h in_look (pointers s.graph n f) (in_look.rule.held.fields n f begun_kept))

  -- a look at its next reference field
  module _ (f : ℕ) (next : IsNextKept k n from f) where
    look : (s : State) → (h : StandsFor k s) → Looks (one_framed k.ground) s (record s {
      stage = Looking n (f + 1);
      colour = shade s.colour (pointers s.graph n f);
      looked = upd s.looked n (upd (s.looked n) f true);
    })
    look s h = record {
      object = n;
      from = from;
      begun = is_begun s h;
      field = f;
      next = record {
        behind = next.behind;
        kind = sym (kind_told k.ground k.cells s.graph h.cells n (begun_born s h) f) ∙ next.kind;
        first = λ m a b e. next.first m a b (kind_told k.ground k.cells s.graph h.cells n (begun_born s h) m ∙ e);
      };
      after = refl;
    }

    pub look_moves : CollectorMoves k (record k { stage = Looking n (f + 1); colours = shaded_list k.colours (kept_point k.cells n f) })
    look_moves = record {
      ground = refl;
      calls = refl;
      stands = λ s h. (
        record s {
          stage = Looking n (f + 1);
          colour = shade s.colour (pointers s.graph n f);
          looked = upd s.looked n (upd (s.looked n) f true);
        },
        marked_stands k k.doing (Looking n (f + 1)) (shaded_list k.colours (kept_point k.cells n f)) s h s.doing
            (Looking n (f + 1)) (shade s.colour (pointers s.graph n f)) (upd s.looked n (upd (s.looked n) f true))
            h.doing (λ m. shaded_told k.colours s.colour (kept_point k.cells n f) (value_near s h f) h.colours m
            ∙ ap (λ (v : Option ℕ). shade s.colour v m) (h.cells.fields n f)) refl (ap (λ x. epoch_at x) begun)
            (look_keeps (one_framed k.ground) (calls_of_threads k.calls) s _ h.rule (look s h)),
        looks (look s h),
      );
    }

  -- its end
  module _ (none : (f : ℕ) → from ≤ f → kept_kind k n f ≢ Some of_ref) where
    blacken : (s : State) → (h : StandsFor k s) → Blackens (one_framed k.ground) s (record s { stage = Marking; colour = upd s.colour n Black })
    blacken s h = record {
      object = n;
      from = from;
      begun = is_begun s h;
      none = λ f a e. none f a (kind_told k.ground k.cells s.graph h.cells n (begun_born s h) f ∙ e);
      after = refl;
    }

    pub blacken_moves : CollectorMoves k (record k { stage = Marking; colours = slice_set k.colours n Black })
    blacken_moves = record {
      ground = refl;
      calls = refl;
      stands = λ s h. (
        record s { stage = Marking; colour = upd s.colour n Black },
        marked_stands k k.doing Marking (slice_set k.colours n Black) s h s.doing Marking (upd s.colour n Black) s.looked
            h.doing (set_upd_all k.colours White s.colour n Black (born_near k room s h n (begun_born s h)) h.colours) refl (ap (λ x. epoch_at x) begun)
            (blacken_keeps (one_framed k.ground) (calls_of_threads k.calls) s _ h.rule (blacken s h)),
        blackens (blacken s h),
      );
    }

-- the snapshot
module _ (k : Kept) (core : IsCore k) where
  alive_near : (s : State) (h : StandsFor k s) (v : Option ℕ) → Alive s.graph.born (shapes s.graph) v → IfSome v (λ n. n < length k.colours)
  alive_near s h None a = tt
  alive_near s h (Some n) a = born_near k core.room s h n a.0

  pub locals_below : (i : ℕ) → AreBelow (length k.colours) (slice_index_or k.holders.locals i [])
  locals_below i r = let s = core.state in let h = core.stands in
      subst (λ (v : Option ℕ). IfSome v (λ n. n < length k.colours)) (sym (h.holders.locals i r))
      (alive_near s h (s.graph.local i r) ((sound (one_framed k.ground) (calls_of_threads k.calls) s h.rule).roots.locals i r))

  pub globals_below : AreBelow (length k.colours) k.holders.globals
  globals_below i = let s = core.state in let h = core.stands in
      subst (λ (v : Option ℕ). IfSome v (λ n. n < length k.colours)) (sym (h.holders.globals i))
      (alive_near s h (s.graph.global i) ((sound (one_framed k.ground) (calls_of_threads k.calls) s h.rule).roots.globals i))

  shaded_long : length (held_shaded k.colours k.holders) ≡ length k.colours
  shaded_long = all_long (rows_shaded k.colours k.holders.locals) k.holders.globals ∙ rows_long k.colours k.holders.locals

  globals_near : (i : ℕ) → IfSome (slice_index_or k.holders.globals i None) (λ n. n < length (rows_shaded k.colours k.holders.locals))
  globals_near i = subst (λ (l : ℕ). IfSome (slice_index_or k.holders.globals i None) (λ n. n < l)) (sym (rows_long k.colours k.holders.locals))
      (globals_below i)

  module _ (waiting : k.stage ≡ Waiting) (free : (j : ℕ) → slice_index_or k.doing j Free ≡ Free) where
    module _ (s : State) (h : StandsFor k s) where
      unmarked : IsUnmarked s.graph s.snapshot s.colour s.looked
      unmarked = subst (IsAtStage (one_framed k.ground) s) (sym h.stage ∙ waiting) h.rule.at_stage

      not_black : (n : ℕ) → slice_index_or k.colours n White ≢ Black
      not_black n e = let f : White ≡ Black = sym (h.colours n ∙ unmarked.white n) ∙ e in absurd (cc)

      held_gray : (n : ℕ) → IsHeld s.graph n → slice_index_or (held_shaded k.colours k.holders) n White ≡ Gray
      held_gray n (inl (i, r, e)) = all_gray (rows_shaded k.colours k.holders.locals) k.holders.globals n globals_near
          (rows_new k.colours k.holders.locals n locals_below i r (h.holders.locals i r ∙ e) (not_black n))
      held_gray n (inr (i, e)) = all_new (rows_shaded k.colours k.holders.locals) k.holders.globals n globals_near i (h.holders.globals i ∙ e)
          (λ b. not_black n (rows_black k.colours k.holders.locals n locals_below b))

      others_same : (n : ℕ) → IsHeld s.graph n ⊎ (slice_index_or (held_shaded k.colours k.holders) n White ≡ s.colour n)
      others_same n = by (rows_old k.colours k.holders.locals n) (all_old (rows_shaded k.colours k.holders.locals) k.holders.globals n)
        where
          by : (slice_index_or (rows_shaded k.colours k.holders.locals) n White ≡ slice_index_or k.colours n White) ⊎
              ((i : ℕ) × ((r : ℕ) × (slice_index_or (slice_index_or k.holders.locals i []) r None ≡ Some n))) →
              (slice_index_or (held_shaded k.colours k.holders) n White ≡ slice_index_or (rows_shaded k.colours k.holders.locals) n White) ⊎
              ((i : ℕ) × (slice_index_or k.holders.globals i None ≡ Some n)) →
              IsHeld s.graph n ⊎ (slice_index_or (held_shaded k.colours k.holders) n White ≡ s.colour n)
          by (inr (i, (r, e))) o = inl (inl (i, r, sym (h.holders.locals i r) ∙ e))
          by (inl same) (inr (i, e)) = inl (inr (i, sym (h.holders.globals i) ∙ e))
          by (inl same) (inl too) = inr (too ∙ (same ∙ h.colours n))

      flags : (flag : ℕ → Bool) × Condemns s.graph flag
      flags = pauses_there (one_framed k.ground) s.graph (sound (one_framed k.ground) (calls_of_threads k.calls) s h.rule) h.rule.nameless

      snapshot : Snapshots (one_framed k.ground) s (record s {
        graph = paused_graph (one_framed k.ground) s.graph flags.0;
        colour = λ n. slice_index_or (held_shaded k.colours k.holders) n White;
        snapshot = Some s.graph;
        stage = Marking;
        history = s.history ++ pause_entry (one_framed k.ground) ∷ [];
      })
      snapshot = record {
        waits = sym h.stage ∙ waiting;
        between = λ i less. sym (h.doing i less) ∙ free i;
        flag = flags.0;
        condemns = flags.1;
        colour = λ n. slice_index_or (held_shaded k.colours k.holders) n White;
        grays = record { held = held_gray; others = others_same };
        after = refl;
      }

    pub snapshot_moves : CollectorMoves k (snapshot_lists k)
    snapshot_moves = record {
      ground = refl;
      calls = refl;
      stands = λ s h. (
        record s {
          graph = paused_graph (one_framed k.ground) s.graph (flags s h).0;
          colour = λ n. slice_index_or (held_shaded k.colours k.holders) n White;
          snapshot = Some s.graph;
          stage = Marking;
          history = s.history ++ pause_entry (one_framed k.ground) ∷ [];
        },
        record {
          rule = snapshot_keeps k.ground (calls_of_threads k.calls) s _ h.rule (snapshot s h);
          cells = record {
            born = h.cells.born;
            each = λ n c e. let is = h.cells.each n c e in record { address = is.address; layout = is.layout; length = is.length };
            fields = h.cells.fields;
            taken = h.cells.taken;
            fresh = h.cells.fresh;
          };
          holders = record { locals = h.holders.locals; globals = h.holders.globals };
          colours = λ n. refl;
          doing = h.doing;
          stage = refl;
          snapshot = ap (λ b. Some b) h.cells.born;
          left = h.left;
          history = ap (λ l. l ++ pause_entry (one_framed k.ground) ∷ []) h.history;
          paused = refl;
        },
        snapshots (snapshot s h),
      );
    }

  pub snapshot_room : k.stage ≡ Waiting → HasRoom (snapshot_lists k)
  snapshot_room waiting = let room = core.room in record {
    threads = room.threads;
    made = room.made;
    doing = room.doing;
    holders = room.holders;
    points = room.points;
    taken = room.taken;
    calls = room.calls;
    cells = room.cells;
    objects = room.objects;
    colours = shaded_long ∙ room.colours;
    entries =
        let most = room.entries in let one = ap (λ x. pauses_left x) waiting in
        let long = length-append k.history.list (pause_entry (one_framed k.ground) ∷ []) in omega (arith, most, one, long);
  }
