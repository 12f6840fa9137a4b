use Rattle.std.proofs.Common.{◌≡◌, ◌≤◌, [], List, None, length, replicate, slice_index_or, sym, ap, ◌∙◌, subst, arith}
use Rattle.kn_base.specs.declared.limits.TheConstants.{LOCALS, MOST_CALLS}
use Rattle.kn_graph.specs.declared.calls.Call.{Call}
use Rattle.kn_graph.specs.Ground.{IsGoodGround}
use Rattle.kn_script.specs.Scripts.{Scripted, ground_of}
use Rattle.kn_rule.specs.Rule.{fresh}
use Rattle.kn_alloc.specs.Keeps.{new_keeps}
use Rattle.kn_mark.specs.Kept.{new_kept}
use Rattle.kn_mutator.specs.Agree.{Agrees}
use Rattle.kn_mutator.specs.Mutating.{Mutating, first_task, new_mutating}
use Rattle.kn_mutator.proofs.Opens.{few_calls, good_ground, ground_read, opened}
use Rattle.kn_mutator.proofs.mutator.Mutator.open.Goals as goal

pub invariant_of-result : goal.invariant_of-result
invariant_of-result c =
    let s = c.args.script.now in
    let heap = ground_read _ s c.script.view_is _ _ c.in_ok-layouts.ensures c.deref.ensures.value in (
      subst IsGoodGround (sym heap) (good_ground s c.args.i c.requires.good c.requires.thread),
      subst (λ (l : List Call). length l ≤ MOST_CALLS) (sym c.in_ok-calls.ensures) (few_calls s c.args.i c.requires.good c.requires.thread),
      omega (arith, c.in_ok-calls.calls.ok.0, c.len.ensures, c.in_ok-log.ensures.capacity),
    )

pub returns-clause-agrees : goal.returns-clause-agrees
returns-clause-agrees c = λ here.
    let s : Scripted = c.args.script.now in
    let heap = ground_read _ s c.script.view_is _ _ c.in_ok-layouts.ensures c.deref.ensures.value in
    let calls : c.in_ok-calls.calls.items ≡ slice_index_or s.threads c.args.i [] = c.in_ok-calls.ensures in
    let task : c.first_task.result ≡ first_task (slice_index_or s.threads c.args.i []) =
    c.first_task.ensures ∙ ap first_task (c.deref-2.ensures.value ∙ calls) in
    let alloc : c.in_ok-allocator.allocator ≡ new_keeps s.sizes c.args.i =
    c.in_ok-allocator.ensures ∙ ap (λ (s : Scripted). new_keeps s.sizes c.args.i) c.script.view_is in
    let marker : c.open-2.result ≡ new_kept s.sizes =
    c.open-2.ensures ∙ ap (λ (s : Scripted). new_kept s.sizes) c.script.view_is in
    let log : c.in_ok-log.log.items ≡ [] = c.in_ok-log.ensures.items in
    let is : _ ≡ new_mutating (ground_of s) c.args.i (slice_index_or s.threads c.args.i []) = λ t. record {
      heap = heap t;
      by = c.args.i;
      calls = calls t;
      begun = 0;
      epoch = 0;
      target = None;
      locals = replicate LOCALS 0;
      task = task t;
      alloc = alloc t;
      marker = marker t;
      log = log t;
    } in
    subst (λ (m : Mutating). Agrees m (record { heap = ground_of s; by = c.args.i; view = fresh (ground_of s) }) here) (sym is)
    (opened s c.args.i c.requires.good c.requires.thread c.requires.built here)
