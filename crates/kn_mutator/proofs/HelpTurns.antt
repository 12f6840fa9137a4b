-- Help in Mark: its marker is started, and then makes the turns.
use Rattle.std.proofs.Common.{◌≡◌, ℕ, ◌<◌, inl, inr, Bool, Option, None, refl, sym, ap, ◌∙◌, subst, arith}
use Rattle.kn_base.specs.declared.kinds.Code.TheVariants as codes
use Rattle.kn_base.specs.declared.places.Place.{Place}
use Rattle.kn_base.specs.declared.places.Place.TheVariants.{Phase}
use Rattle.kn_base.specs.Pages.{FrameView}
use Rattle.kn_marking.specs.declared.work.Work.{Work}
use Rattle.kn_marking.specs.Shares.{joined}
use Rattle.kn_rule.specs.declared.positions.Position.TheVariants as positions
use Rattle.kn_rule.specs.Decoding.{phase_of}
use Rattle.kn_rule.specs.MarkSteps.{IsMarker, joined_by}
use Rattle.kn_rule.specs.Steps.{Found, Step, epoch_in}
use Rattle.kn_rule.specs.Views.{View}
use Rattle.kn_steps.specs.Made.{LieAs, Made, Stand}
use Rattle.kn_steps.specs.declared.turns.Turn.TheVariants.{Idle, Moved, Done}
use Rattle.kn_safepoint.specs.Stages.{looked as told_out}
use Rattle.kn_alloc.specs.Agree.{IsIdle}
use Rattle.kn_mark.specs.declared.turn.MarkTurn.{MarkTurn}
use Rattle.kn_mark.specs.declared.turn.MarkTurn.TheVariants as marks
use Rattle.kn_mark.specs.Agree.{Agrees as MarkAgrees, OnlyMarked}
use Rattle.kn_mark.specs.Kept.{Kept, started}
use Rattle.kn_mark.specs.Turns.{Turned as MarkTurned}
use Rattle.kn_mutator.specs.declared.task.Task.{Task}
use Rattle.kn_mutator.specs.declared.task.Task.TheVariants.{Out, Helps}
use Rattle.kn_mutator.specs.Agree.{Agrees, AtTask, HasEnded, HelpsOn, Stands}
use Rattle.kn_mutator.specs.Mutating.{Mutating}
use Rattle.kn_mutator.specs.Tasks.{helped, poll_for, started_at, task_helped, task_out, told}
use Rattle.kn_mutator.specs.Turns.{Goes, asks_none}
use Rattle.kn_mutator.proofs.Core.{alloc_then, is_thread}
use Rattle.kn_mutator.proofs.Making.{goes_by, makes, moves_on, not_done}
use Rattle.kn_mutator.proofs.Turning.{looked, looked_view}

-- a load of Mark by one that is out
module _ (m : Mutating) (a : Stand) (here : ℕ → Bool) (g : Agrees m a here) (is : m.task ≡ Out) (f : Found) (b : Stand) (here' : ℕ → Bool)
    (made : Made a here (poll_for None) f b here') (in_mark : (phase_of f.word).code ≡ codes.Mark) where
  abbrev epoch : ℕ
  epoch = (phase_of f.word).epoch

  -- its epoch is one of a marking
  epoch_some : 0 < epoch
  epoch_some =
      let s = made.shown.0 in
      let found : s.word Phase ≡ f.word = made.shown.3.0 in
      subst (λ w. 0 < (phase_of w).epoch) found
      (made.shown.1.1.stands.timed.some (λ e. let x : codes.Mark ≡ codes.Idle = sym in_mark ∙ (sym (ap (λ w. (phase_of w).code) found) ∙ e) in cc))

  work_then : b.view.work ≡ joined a.view.work epoch
  work_then =
      ap (λ (x : Stand). x.view.work) (looked_view m a here g is f b here' made)
      ∙ ap (λ c. joined_by (record { epoch = epoch; code = c }) a.view.work) in_mark

  pub started_agrees : Agrees (record m { marker = started m.marker epoch; task = Helps }) b here'
  started_agrees =
      let h : Agrees (record m { task = Out }) b here' =
      looked m a here g is f b here' made Out (λ at. record { position = at.position; owes = at.owes; alloc = at.alloc }) in
      let same : b.view.work.epoch ≡ epoch = ap (λ (w : Work). w.epoch) work_then in
      record {
        alloc = h.alloc;
        marker = record { sizes = h.marker.sizes; share = h.marker.share; at_ref = h.marker.at_ref };
        heap = h.heap;
        caller = h.caller;
        knows = record { locals = h.knows.locals; epoch = h.knows.epoch; log = h.knows.log; begun = h.knows.begun; target = h.knows.target };
        planned = h.planned;
        births = h.births;
        width = h.width;
        addresses = h.addresses;
        at = (
          record { position = h.at.position; owes = h.at.owes; alloc = h.at.alloc },
          record { epoch = same; begun = subst (λ e. 0 < e) (sym same) epoch_some },
        );
      }

-- one that helps
module _ (m : Mutating) (a : Stand) (here : ℕ → Bool) (g : Agrees m a here) (is : m.task ≡ Helps) where
  helps_at : AtTask Helps m a.view
  helps_at = subst (λ t. AtTask t m a.view) is g.at

  -- its marker agrees with what it knows
  marker_there : MarkAgrees m.marker a
  marker_there =
      let at = helps_at in
      record {
        good = g.alloc.good;
        sizes = g.marker.sizes;
        marker = inl (record { thread = is_thread m a here g; out = at.0.position; begun = at.1.begun });
        share = g.marker.share ∙ ap (joined m.marker.work) at.1.epoch;
        at_ref = g.marker.at_ref;
      }

  -- also that of a mutator n, whose parts it has
  pub marker_agrees : (n : Mutating) → n ≡ m → MarkAgrees n.marker a
  marker_agrees n same = subst (λ (q : Mutating). MarkAgrees q.marker a) (sym same) marker_there

  -- behind a turn of its marker
  module _ (k : Kept) (b : Stand) (here' : ℕ → Bool) (agrees : MarkAgrees k b) (only : OnlyMarked a here b here') where
    abbrev view_then : View
    view_then = record a.view { work = b.view.work; collecting = record a.view.collecting { over = only.over } }

    view_is : b.view ≡ view_then
    view_is = ap (λ (x : Stand). x.view) only.view

    begun_by : IsMarker b.heap b.by b.view → 0 < b.view.work.epoch
    begun_by (inl h) = h.begun
    begun_by (inr h) =
        let less = is_thread m a here g in
        let by : b.by ≡ a.by = ap (λ (x : Stand). x.by) only.view in
        let threads : b.heap.sizes.threads ≡ a.heap.sizes.threads = ap (λ (x : Stand). x.heap.sizes.threads) only.view in
        let e : a.by ≡ a.heap.sizes.threads = sym by ∙ (h.collector ∙ threads) in
        absurd (omega (arith, less, e))

    helps_on : HelpsOn k b.view
    helps_on = record { epoch = ap (λ (w : Work). w.epoch) agrees.share; begun = begun_by agrees.marker }

    stands_on : (task : Task) → Stands (record m { marker = k; task = task }) b.view positions.Out
    stands_on task =
        let at = helps_at.0 in
        record { position = ap (λ (v : View). v.position) view_is ∙ at.position; owes = at.owes; alloc = at.alloc }

    at_behind : (reply : MarkTurn) → AtTask (task_helped reply) (record m { marker = k; task = task_helped reply }) b.view
    at_behind marks.Moved = (stands_on Helps, helps_on)
    at_behind (marks.Idle p w) = (stands_on Helps, helps_on)
    at_behind marks.Over = stands_on Out

    pub helped_agrees : (reply : MarkTurn) → Agrees (record m { marker = k; task = task_helped reply }) b here'
    helped_agrees reply = record {
      alloc = alloc_then m a here g (subst IsIdle (sym helps_at.0.alloc) tt) b here' view_then only.view refl refl refl
          (subst (λ (v : View). LieAs v here here') (sym view_is) only.lies);
      marker = record {
        sizes = agrees.sizes;
        share = agrees.share ∙ ap (joined k.work) (sym (ap (λ (w : Work). w.epoch) agrees.share));
        at_ref = agrees.at_ref;
      };
      heap = ap (λ (x : Stand). x.heap) only.view ∙ g.heap;
      caller = g.caller;
      knows = record {
        locals = ap (λ (v : View). v.locals) view_is ∙ g.knows.locals;
        epoch = ap epoch_in view_is ∙ g.knows.epoch;
        log = ap (λ (v : View). v.log) view_is ∙ g.knows.log;
        begun = ap (λ (v : View). v.calls) view_is ∙ g.knows.begun;
        target = ap (λ (v : View). v.target) view_is ∙ g.knows.target;
      };
      planned = g.planned;
      births = ap (λ (v : View). v.births) view_is ∙ g.births;
      width = g.width;
      addresses = g.addresses;
      at = at_behind reply;
    }

-- a turn of a marker is not done, and has not ended
helped_goes_on : (reply : MarkTurn) → helped reply ≡ Done → ⊥
helped_goes_on marks.Moved e = cc
helped_goes_on (marks.Idle p w) e = cc
helped_goes_on marks.Over e = cc

helped_is_going : (reply : MarkTurn) → HasEnded (task_helped reply) → ⊥
helped_is_going marks.Moved h = h
helped_is_going (marks.Idle p w) h = h
helped_is_going marks.Over h = h

-- those turns
module _ {T : Type 0} (stand : T → Stand) (here : T → ℕ → Bool) (did : T → Step → Found → T → Type 0)
    (moved : T → ℕ → Option FrameView → Option FrameView → T → Type 0) where
  module _ (m : Mutating) (s s' : T) (g : Agrees m (stand s) (here s)) (is : m.task ≡ Out) (f : Found)
      (made : Made (stand s) (here s) (poll_for None) f (stand s') (here s')) (kept : did s (poll_for None) f s')
      (in_mark : (phase_of f.word).code ≡ codes.Mark) where
    pub starts_to_help : Goes stand here did moved asks_none m s s' (record m { marker = started m.marker (phase_of f.word).epoch; task = Helps }) Moved
    starts_to_help =
        let m' : Mutating = record m { marker = started m.marker (phase_of f.word).epoch; task = Helps } in
        goes_by stand here did moved m s s' m' Moved asks_none Out is
        (makes stand here did moved m s s' m' Moved Out is (poll_for None) f refl made kept (sym (ap task_out in_mark)) refl
        (sym (ap (λ c. started_at c (phase_of f.word).epoch m.marker) in_mark))
        (sym (ap (λ c. told (told_out f.word (phase_of f.word).epoch c)) in_mark)))
        refl refl refl (started_agrees m (stand s) (here s) g is f (stand s') (here s') made in_mark) (moves_on Helps (λ x. x))

  -- of a mutator that is n, whose parts m has
  module _ (m n : Mutating) (same : m ≡ n) (s s' : T) (agrees_n : Agrees n (stand s) (here s)) (is_n : n.task ≡ Helps) (k : Kept)
      (agrees : MarkAgrees k (stand s')) (only : OnlyMarked (stand s) (here s) (stand s') (here s')) where
    g : Agrees m (stand s) (here s)
    g = subst (λ (q : Mutating). Agrees q (stand s) (here s)) (sym same) agrees_n

    is : m.task ≡ Helps
    is = ap (λ (q : Mutating). q.task) same ∙ is_n

    marks_so : (reply : MarkTurn) → MarkTurned stand here did m.marker s s' k reply → (q : Mutating) →
        q ≡ record m { marker = k; task = task_helped reply } → Goes stand here did moved asks_none n s s' q (helped reply)
    marks_so reply turned q is_q =
        let m' : Mutating = record m { marker = k; task = task_helped reply } in
        subst (λ (p : Mutating). Goes stand here did moved asks_none p s s' q (helped reply)) same
        (subst (λ (q : Mutating). Goes stand here did moved asks_none m s s' q (helped reply)) (sym is_q)
        (goes_by stand here did moved m s s' m' (helped reply) asks_none Helps is
        (record { told = reply; turned = turned; alloc = refl; task = refl; answer = refl }) refl refl refl
        (helped_agrees m (stand s) (here s) g is k (stand s') (here s') agrees only reply)
        (not_done (helped reply) (task_helped reply) (helped_goes_on reply) (helped_is_going reply))))

    still : record m { marker = k } ≡ record m { marker = k; task = Helps }
    still = λ t. record m { marker = k; task = is t }

    pub helps_moved : MarkTurned stand here did m.marker s s' k marks.Moved → Goes stand here did moved asks_none n s s' (record m { marker = k }) Moved
    helps_moved turned = marks_so marks.Moved turned (record m { marker = k }) still

    pub helps_idle : (p : Place) (w : ℕ) → MarkTurned stand here did m.marker s s' k (marks.Idle p w) →
        Goes stand here did moved asks_none n s s' (record m { marker = k }) (Idle p w)
    helps_idle p w turned = marks_so (marks.Idle p w) turned (record m { marker = k }) still

    pub helps_over : MarkTurned stand here did m.marker s s' k marks.Over → (q : Mutating) → q ≡ record m { marker = k; task = Out } →
        Goes stand here did moved asks_none n s s' q Moved
    helps_over turned = marks_so marks.Over turned
