-- The graph that is kept, after each change.
use Rattle.std.proofs.Common.{◌≡◌, ℕ, suc, ◌+◌, ◌<◌, ◌≤◌, inl, inr, List, [], length, set, get_or, replicate, Option, Some, None, refl}
use Rattle.std.proofs.Common.{sym, ap, ◌∙◌, subst, arith}
use Rattle.std.proofs.lemmas.List.{length-set, get_or-replicate, get_or-set_other, get_or-set_same, get_or_past, length-replicate}
use Rattle.std.proofs.lemmas.Bool.Decides.{leb_tells}
use Rattle.kn_base.specs.Functions.{upd}
use Rattle.kn_base.specs.Sizes.{word_count}
use Rattle.kn_base.proofs.Updates.{part_upd, split_at}
use Rattle.kn_replay.specs.declared.changes.Change.{Change}
use Rattle.kn_replay.specs.declared.changes.Change.TheVariants.{Local, Global, Stable, Weak, Back, Count, Birth, Finish}
use Rattle.kn_replay.specs.declared.changes.Newborn.{Newborn}
use Rattle.kn_graph.specs.Ground.{Ground}
use Rattle.kn_graph.specs.Graph.{Object, empty_graph, newborn, with_object}
use Rattle.kn_objects.specs.Replay.{graph_of}
use Rattle.kn_objects.specs.Kept.{KeptObjects, nth_object}
use Rattle.kn_replay.specs.ChangesMade.{IsFit, Stands, changed}
use Rattle.kn_objects.specs.Holders.{AreSized, KeptHolders, no_holders}
use Rattle.kn_replay.specs.Held.{FitTogether, IsHeld, replay_of}
use Rattle.kn_objects.proofs.Fields.{set_or}
use Rattle.kn_replay.proofs.Held.{held_changed}

-- nothing is at any place of a list of nulls
null_at : {A : Type 0} (n i : ℕ) (d : A) → get_or (replicate n d) i d ≡ d
null_at n i d = elim (leb_tells (suc i) n) [
  | inl t ↦ get_or-replicate n i d d t.1
  | inr t ↦ get_or_past (replicate n d) i d (omega (arith, length-replicate n d, t.1))
]

null_row : (row : List (Option ℕ)) → ((r : ℕ) → get_or row r None ≡ None) → (n thread r : ℕ) →
    get_or (get_or (replicate n row) thread []) r None ≡ None
null_row row null n thread r = elim (leb_tells (suc thread) n) [
  | inl t ↦ ap (λ (l : List (Option ℕ)). get_or l r None) (get_or-replicate n thread row [] t.1) ∙ null r
  | inr t ↦ ap (λ (l : List (Option ℕ)). get_or l r None) (get_or_past (replicate n row) thread [] (omega (arith, length-replicate n row, t.1)))
]

module _ (z : Ground) (words : ℕ) where
  -- what is kept as a graph is opened stands for the empty graph
  pub opened_empty : graph_of (replay_of z (record { kept = []; points = []; numbers = []; words = words }) (no_holders z.sizes) 0 0
      (replicate (z.sizes.threads + 2) 0)) ≡ empty_graph
  opened_empty = λ t. record empty_graph {
    local = λ thread r. null_row (replicate 16 None) (λ q. null_at 16 q None) z.sizes.threads thread r t;
    global = λ i. null_at z.sizes.globals i None t;
    stable = λ i. null_at z.sizes.stable i None t;
    weak = λ i. null_at z.sizes.weak i None t;
    back = λ i. null_at z.sizes.back i None t;
    count = λ i. null_at z.sizes.back i 0 t;
    entered = λ i. null_at (z.sizes.threads + 2) i 0 t;
  }

  empty_held : IsHeld empty_graph
  empty_held = record {
    local = λ _ _. tt;
    global = λ _. tt;
    stable = λ _. tt;
    weak = λ _. tt;
    back = λ _. tt;
    field = λ _ _. tt;
    counted = λ _. omega arith;
  }

  pub opened_fits : words ≡ 1 + word_count z.sizes →
      FitTogether z (record { kept = []; points = []; numbers = []; words = words }) (no_holders z.sizes)
      (graph_of (replay_of z (record { kept = []; points = []; numbers = []; words = words }) (no_holders z.sizes) 0 0
      (replicate (z.sizes.threads + 2) 0)))
      (replicate (z.sizes.threads + 2) 0) 0
  opened_fits e = record {
    sized = record {
      threads = length-replicate z.sizes.threads (replicate 16 None);
      locals = λ thread h. ap length (get_or-replicate z.sizes.threads thread (replicate 16 None) [] h);
      globals = length-replicate z.sizes.globals None;
      stable = length-replicate z.sizes.stable None;
      weak = length-replicate z.sizes.weak None;
      back = length-replicate z.sizes.back None;
      counts = length-replicate z.sizes.back 0;
    };
    words = e;
    callers = length-replicate (z.sizes.threads + 2) 0;
    work = refl;
    held = subst IsHeld (sym opened_empty) empty_held;
  }

module _ (z : Ground) (o : KeptObjects) (h : KeptHolders) (paused done : ℕ) (entered : List ℕ) (places : ℕ)
    (fits : FitTogether z o h (graph_of (replay_of z o h paused done entered)) entered places) where
  -- the parts that stay fit together still
  fits_after : (thread : ℕ) (change : Change) (o' : KeptObjects) (h' : KeptHolders) (done' places' : ℕ) →
      IsFit z thread change (graph_of (replay_of z o h paused done entered)) →
      graph_of (replay_of z o' h' paused done' entered) ≡ changed thread change (graph_of (replay_of z o h paused done entered)) →
      AreSized z.sizes h' → o'.words ≡ o.words → places' ≡ length o'.kept →
      FitTogether z o' h' (graph_of (replay_of z o' h' paused done' entered)) entered places'
  fits_after thread change o' h' done' places' fit after sized words work = record {
    sized = sized;
    words = words ∙ fits.words;
    callers = fits.callers;
    work = work;
    held = subst IsHeld (sym after) (held_changed z thread change (graph_of (replay_of z o h paused done entered)) fit fits.held);
  }

  stands : (thread : ℕ) (change : Change) (o' : KeptObjects) (h' : KeptHolders) (done' places' : ℕ) →
      IsFit z thread change (graph_of (replay_of z o h paused done entered)) →
      graph_of (replay_of z o' h' paused done' entered) ≡ changed thread change (graph_of (replay_of z o h paused done entered)) →
      AreSized z.sizes h' → o'.words ≡ o.words → places' ≡ length o'.kept →
      Stands z thread change (graph_of (replay_of z o h paused done entered)) o' h' paused done' entered places'
  stands thread change o' h' done' places' fit after sized words work =
      record { after = after; together = fits_after thread change o' h' done' places' fit after sized words work }

  -- a change of what is held
  holds : (thread : ℕ) (change : Change) (h' h'' : KeptHolders) → h'' ≡ h' → IsFit z thread change (graph_of (replay_of z o h paused done entered)) →
      graph_of (replay_of z o h' paused done entered) ≡ changed thread change (graph_of (replay_of z o h paused done entered)) → AreSized z.sizes h' →
      Stands z thread change (graph_of (replay_of z o h paused done entered)) o h'' paused done entered places
  holds thread change h' h'' e fit after sized = stands thread change o h'' done places fit
      (ap (λ x. graph_of (replay_of z o x paused done entered)) e ∙ after) (subst (AreSized z.sizes) (sym e) sized) refl fits.work

  local_written : (thread r : ℕ) (value : Option ℕ) → thread < z.sizes.threads → r ≤ 15 →
      ◌≡◌ {A = ℕ → ℕ → Option ℕ} (λ t q. get_or (get_or (set h.locals thread (set (get_or h.locals thread []) r value)) t []) q None)
      (upd (λ t q. get_or (get_or h.locals t []) q None) thread (upd (λ q. get_or (get_or h.locals thread []) q None) r value))
  local_written thread r value is_thread is_local =
      let row : List (Option ℕ) = get_or h.locals thread [] in
      let here : thread < length h.locals = omega (arith, fits.sized.threads) in
      let there : r < length row = omega (arith, fits.sized.locals thread is_thread) in
      let read : List (Option ℕ) → ℕ → Option ℕ = λ l q. get_or l q None in
      (λ s t. read (set_or h.locals thread (set row r value) [] here s t))
      ∙ (part_upd read (λ t. get_or h.locals t []) thread (set row r value)
      ∙ ap (upd (λ t q. get_or (get_or h.locals t []) q None) thread) (set_or row r value None there))

  rows_after : (thread r : ℕ) (value : Option ℕ) → thread < z.sizes.threads → (t : ℕ) → t < z.sizes.threads →
      length (get_or (set h.locals thread (set (get_or h.locals thread []) r value)) t []) ≡ 16
  rows_after thread r value is_thread t is =
      let row : List (Option ℕ) = get_or h.locals thread [] in
      split_at (λ k. k < z.sizes.threads → length (get_or (set h.locals thread (set row r value)) k []) ≡ 16) thread
      (λ k. ap length (get_or-set_same h.locals thread (set row r value) [] (omega (arith, fits.sized.threads)))
      ∙ (length-set row r value ∙ fits.sized.locals thread is_thread)) t
      (λ ne k. ap length (get_or-set_other h.locals thread t (set row r value) [] (λ e. ne (sym e))) ∙ fits.sized.locals t k) is

  pub local_stands : (thread r : ℕ) (value : Option ℕ) (h'' : KeptHolders) →
      h'' ≡ record h { locals = set h.locals thread (set (get_or h.locals thread []) r value) } →
      IsFit z thread (Local r value) (graph_of (replay_of z o h paused done entered)) →
      Stands z thread (Local r value) (graph_of (replay_of z o h paused done entered)) o h'' paused done entered places
  local_stands thread r value h'' e fit =
      let written = local_written thread r value fit.0 fit.1 in
      holds thread (Local r value) (record h { locals = set h.locals thread (set (get_or h.locals thread []) r value) }) h'' e fit
      (λ t. record (graph_of (replay_of z o h paused done entered)) { local = written t }) (record {
        threads = length-set h.locals thread (set (get_or h.locals thread []) r value) ∙ fits.sized.threads;
        locals = rows_after thread r value fit.0;
        globals = fits.sized.globals;
        stable = fits.sized.stable;
        weak = fits.sized.weak;
        back = fits.sized.back;
        counts = fits.sized.counts;
      })

  pub global_stands : (thread i : ℕ) (value : Option ℕ) (h'' : KeptHolders) → h'' ≡ record h { globals = set h.globals i value } →
      IsFit z thread (Global i value) (graph_of (replay_of z o h paused done entered)) →
      Stands z thread (Global i value) (graph_of (replay_of z o h paused done entered)) o h'' paused done entered places
  global_stands thread i value h'' e fit =
      let written = set_or h.globals i value None (omega (arith, fits.sized.globals)) in
      holds thread (Global i value) (record h { globals = set h.globals i value }) h'' e fit
      (λ t. record (graph_of (replay_of z o h paused done entered)) { global = written t }) (record {
        threads = fits.sized.threads;
        locals = fits.sized.locals;
        globals = length-set h.globals i value ∙ fits.sized.globals;
        stable = fits.sized.stable;
        weak = fits.sized.weak;
        back = fits.sized.back;
        counts = fits.sized.counts;
      })

  pub stable_stands : (thread i : ℕ) (value : Option ℕ) (h'' : KeptHolders) → h'' ≡ record h { stable = set h.stable i value } →
      IsFit z thread (Stable i value) (graph_of (replay_of z o h paused done entered)) →
      Stands z thread (Stable i value) (graph_of (replay_of z o h paused done entered)) o h'' paused done entered places
  stable_stands thread i value h'' e fit =
      let written = set_or h.stable i value None (omega (arith, fits.sized.stable)) in
      holds thread (Stable i value) (record h { stable = set h.stable i value }) h'' e fit
      (λ t. record (graph_of (replay_of z o h paused done entered)) { stable = written t }) (record {
        threads = fits.sized.threads;
        locals = fits.sized.locals;
        globals = fits.sized.globals;
        stable = length-set h.stable i value ∙ fits.sized.stable;
        weak = fits.sized.weak;
        back = fits.sized.back;
        counts = fits.sized.counts;
      })

  pub weak_stands : (thread i n : ℕ) (h'' : KeptHolders) → h'' ≡ record h { weak = set h.weak i (Some n) } →
      IsFit z thread (Weak i n) (graph_of (replay_of z o h paused done entered)) →
      Stands z thread (Weak i n) (graph_of (replay_of z o h paused done entered)) o h'' paused done entered places
  weak_stands thread i n h'' e fit =
      let written = set_or h.weak i (Some n) None (omega (arith, fits.sized.weak)) in
      holds thread (Weak i n) (record h { weak = set h.weak i (Some n) }) h'' e fit
      (λ t. record (graph_of (replay_of z o h paused done entered)) { weak = written t }) (record {
        threads = fits.sized.threads;
        locals = fits.sized.locals;
        globals = fits.sized.globals;
        stable = fits.sized.stable;
        weak = length-set h.weak i (Some n) ∙ fits.sized.weak;
        back = fits.sized.back;
        counts = fits.sized.counts;
      })

  pub back_stands : (thread i n : ℕ) (h'' : KeptHolders) → h'' ≡ record h { back = set h.back i (Some n); counts = set h.counts i 0 } →
      IsFit z thread (Back i n) (graph_of (replay_of z o h paused done entered)) →
      Stands z thread (Back i n) (graph_of (replay_of z o h paused done entered)) o h'' paused done entered places
  back_stands thread i n h'' e fit =
      let written = set_or h.back i (Some n) None (omega (arith, fits.sized.back)) in
      let counted = set_or h.counts i 0 0 (omega (arith, fits.sized.counts)) in
      holds thread (Back i n) (record h { back = set h.back i (Some n); counts = set h.counts i 0 }) h'' e fit
      (λ t. record (graph_of (replay_of z o h paused done entered)) { back = written t; count = counted t }) (record {
        threads = fits.sized.threads;
        locals = fits.sized.locals;
        globals = fits.sized.globals;
        stable = fits.sized.stable;
        weak = fits.sized.weak;
        back = length-set h.back i (Some n) ∙ fits.sized.back;
        counts = length-set h.counts i 0 ∙ fits.sized.counts;
      })

  pub count_stands : (thread i n : ℕ) (h'' : KeptHolders) → h'' ≡ record h { counts = set h.counts i n } →
      IsFit z thread (Count i n) (graph_of (replay_of z o h paused done entered)) →
      Stands z thread (Count i n) (graph_of (replay_of z o h paused done entered)) o h'' paused done entered places
  count_stands thread i n h'' e fit =
      let counted = set_or h.counts i n 0 (omega (arith, fits.sized.counts)) in
      holds thread (Count i n) (record h { counts = set h.counts i n }) h'' e fit
      (λ t. record (graph_of (replay_of z o h paused done entered)) { count = counted t }) (record {
        threads = fits.sized.threads;
        locals = fits.sized.locals;
        globals = fits.sized.globals;
        stable = fits.sized.stable;
        weak = fits.sized.weak;
        back = fits.sized.back;
        counts = length-set h.counts i n ∙ fits.sized.counts;
      })

  -- a change of one object
  pub object_stands : (thread : ℕ) (change : Change) (n : ℕ) (x : Object) (o' : KeptObjects) →
      IsFit z thread change (graph_of (replay_of z o h paused done entered)) →
      with_object (graph_of (replay_of z o h paused done entered)) n x ≡ changed thread change (graph_of (replay_of z o h paused done entered)) →
      ◌≡◌ {A = ℕ → Object} (nth_object o') (upd (nth_object o) n x) → length o'.kept ≡ length o.kept → o'.words ≡ o.words →
      Stands z thread change (graph_of (replay_of z o h paused done entered)) o' h paused done entered places
  object_stands thread change n x o' fit is after born words =
      stands thread change o' h done places fit ((λ t. record (graph_of (replay_of z o h paused done entered)) { born = born t; object = after t })
      ∙ is) fits.sized words (fits.work ∙ sym born)

  -- a birth
  pub birth_stands : (thread r : ℕ) (new : Newborn) (o' : KeptObjects) (h'' : KeptHolders) →
      h'' ≡ record h { locals = set h.locals thread (set (get_or h.locals thread []) r (Some (length o.kept))) } →
      IsFit z thread (Birth r new) (graph_of (replay_of z o h paused done entered)) →
      ◌≡◌ {A = ℕ → Object} (nth_object o') (upd (nth_object o) (length o.kept) (newborn new.address new.layout new.length)) →
      length o'.kept ≡ length o.kept + 1 → o'.words ≡ o.words →
      Stands z thread (Birth r new) (graph_of (replay_of z o h paused done entered)) o' h'' paused done entered (places + 1)
  birth_stands thread r new o' h'' e fit after born words =
      let value : Option ℕ = Some (length o.kept) in
      let written = local_written thread r value fit.0 fit.1 in
      let sized : AreSized z.sizes h'' = subst (AreSized z.sizes) (sym e) (record {
        threads = length-set h.locals thread (set (get_or h.locals thread []) r value) ∙ fits.sized.threads;
        locals = rows_after thread r value fit.0;
        globals = fits.sized.globals;
        stable = fits.sized.stable;
        weak = fits.sized.weak;
        back = fits.sized.back;
        counts = fits.sized.counts;
      }) in
      stands thread (Birth r new) o' h'' done (places + 1) fit
      (ap (λ x. graph_of (replay_of z o' x paused done entered)) e ∙
      (λ t. record (graph_of (replay_of z o h paused done entered)) { born = born t; object = after t; local = written t })) sized words
      (omega (arith, fits.work))

  -- an epoch is done
  pub finish_stands : (thread e : ℕ) → Stands z thread (Finish e) (graph_of (replay_of z o h paused done entered)) o h paused e entered places
  finish_stands thread e = stands thread (Finish e) o h e places tt refl fits.sized refl fits.work
