-- A run, from its start to its end.
use Rattle.std.proofs.Common.{◌≡◌, ℕ, ◌+◌, ◌<◌, ◌⊎◌, inl, inr, Bool, true, false, List, length, Some, slice_get}
use Rattle.std.proofs.Common.{sym, ap, ◌∙◌, subst, arith}
use Rattle.std.specs.Prelude.{MatchBool}
use Rattle.std.proofs.lemmas.Option.{slice_get_within, same_Some}
use Rattle.kn_base.specs.Pages.{FrameView}
use Rattle.kn_layout.specs.declared.layouts.Layout.{Layout}
use Rattle.kn_graph.specs.Ground.{Ground}
use Rattle.kn_rule.specs.Rule.{fresh}
use Rattle.kn_schedule.specs.Schedules.{whole_order}
use Rattle.kn_steps.specs.Made.{Stand}
use Rattle.kn_view.specs.Parts as parts
use Rattle.kn_script.specs.Good.{IsGoodScript}
use Rattle.kn_script.specs.Scripts.{Scripted, ground_of}
use Rattle.kn_board.specs.Open.{AreWhole, opened}
use Rattle.kn_board.specs.World.{World, lies_at, stand_at, view_at}
use Rattle.kn_others.specs.Laws.{NoneUnswept, OpenedIsSwept}
use Rattle.kn_collector.specs.Agree.{Agrees as Collects}
use Rattle.kn_collector.specs.Kept.{Kept, new_kept}
use Rattle.kn_mutator.specs.Agree.{Agrees}
use Rattle.kn_mutator.specs.Mutating.{Mutating, new_mutating}
use Rattle.kn_trace.specs.Traces.{Trace}
use Rattle.kn_trace.specs.Runs.{HaveEnded, IsGoingOn, IsOverAs, IsRunOf, IsStart, calls_at}
use Rattle.kn_trace.specs.Between.{AgreesAt, AreNew, CollectsAt, Holds, Running, TakesAll, trace_of}

-- the board was opened over what the graph of the script lives on
pub over_script : {s now : Scripted} (layouts : List Layout) → layouts ≡ s.layouts → s ≡ now → parts.ground_of s.sizes layouts ≡ ground_of now
over_script {s} {now} layouts e is = ap (parts.ground_of s.sizes) e ∙ ap ground_of is

module _ (s : Scripted) (good : IsGoodScript s) (pages : List FrameView) (w : World) (board : w ≡ opened (ground_of s) pages) (r : Running)
    (new : AreNew s (length s.threads) r.mutators) where
  pub starts : AreWhole s.sizes pages → r.collector ≡ new_kept (ground_of s) → r.left ≡ whole_order s.order → IsStart s (trace_of w r)
  starts whole collector left = record {
    pages = pages;
    whole = whole;
    board = board;
    count = new.count;
    mutators = new.each;
    collector = collector;
    left = left;
  }

  module _ (collecting : Collects r.collector (record { heap = ground_of s; by = s.sizes.threads; view = fresh (ground_of s) }))
      (opening : OpenedIsSwept) where
    heap_is : w.heap ≡ ground_of s
    heap_is = ap (λ (u : World). u.heap) board

    threads_are : w.heap.sizes.threads ≡ s.sizes.threads
    threads_are = ap (λ (z : Ground). z.sizes.threads) heap_is

    view_is : (c : ℕ) → view_at w c ≡ fresh (ground_of s)
    view_is c = ap (λ (u : World). view_at u c) board ∙ (opening (ground_of s) pages).1 c

    agrees : (c : ℕ) (m : Mutating) → slice_get r.mutators c ≡ Some m → AgreesAt w c m
    agrees c m is =
        let within = slice_get_within r.mutators c m is in
        let count = new.count in
        let near : c < length s.threads = omega arith in
        let view = view_is c in
        let heap = heap_is in
        let stand : stand_at c w ≡ record { heap = ground_of s; by = c; view = fresh (ground_of s) } =
        λ i. record { heap = heap i; by = c; view = view i } in
        subst (λ (a : Stand). Agrees m a (lies_at w)) (sym stand)
        (subst (λ (x : Mutating). Agrees x (record { heap = ground_of s; by = c; view = fresh (ground_of s) }) (lies_at w))
        (same_Some (new_mutating (ground_of s) c (calls_at s.threads c)) m (sym (new.each c near) ∙ is)) (new.agree c near (lies_at w)))

    collects : CollectsAt w r.collector
    collects =
        let heap = heap_is in
        let view = view_is w.heap.sizes.threads in
        let by = threads_are in
        let stand : stand_at w.heap.sizes.threads w ≡ record { heap = ground_of s; by = s.sizes.threads; view = fresh (ground_of s) } =
        λ i. record { heap = heap i; by = by i; view = view i } in
        subst (Collects r.collector) (sym stand) collecting

    pub holds_first : Holds (trace_of w r)
    holds_first = record {
      count = new.count ∙ (good.each_thread ∙ sym threads_are);
      agree = agrees;
      collects = collects;
      swept = subst NoneUnswept (sym board) (opening (ground_of s) pages).0;
      at_rest = view_is (w.heap.sizes.threads + 1) ∙ ap fresh (sym heap_is);
    }

-- all cannot have ended where one goes on
not_both : (ms : List Mutating) (k : Kept) → HaveEnded ms k → IsGoingOn ms k → ⊥
not_both ms k all going = let e = all going.0 going.1 in let f = going.2 in cc

abbrev pub Tells : Bool → List Mutating → Kept → Type 0
Tells b ms k = MatchBool b (IsGoingOn ms k) (HaveEnded ms k)

over_as : (s : Scripted) (b : Bool) (turns : ℕ) (last : Trace) → ((turns ≡ s.turns) ⊎ HaveEnded last.mutators last.collector) →
    Tells b last.mutators last.collector → IsOverAs s b turns last
over_as s true turns last (inl all) is = (all, is)
over_as s true turns last (inr end) is = absurd (not_both last.mutators last.collector end is)
over_as s false turns last over is = is

pub has_run : (s : Scripted) (b : Bool) (start last : Trace) → IsStart s start → TakesAll s.turns start last →
    Tells b last.mutators last.collector → IsRunOf s b last.board
has_run s b start last is_start takes is = record {
  turns = takes.turns;
  last = takes.last;
  run = record { start = start; is_start = is_start; runs = takes.runs; few = takes.few };
  board_is = takes.board;
  over = over_as s b takes.turns takes.last takes.over
      (subst (λ (ms : List Mutating). Tells b ms takes.last.collector) (sym takes.mutators)
      (subst (λ (k : Kept). Tells b last.mutators k) (sym takes.collector) is));
}

pub ended_where : (b : Bool) (ms : List Mutating) (k : Kept) → Tells b ms k → b ≡ false → HaveEnded ms k
ended_where true ms k is e = cc
ended_where false ms k is e = is
