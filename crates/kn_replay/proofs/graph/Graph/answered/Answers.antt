use Rattle.std.proofs.Common.{◌≡◌, sym, ap, ◌∙◌, subst}
use Rattle.std.proofs.lemmas.Bool.{true≢false}
use Rattle.kn_graph.specs.Answers.{Answer, MayAnswer}
use Rattle.kn_graph.specs.Arguments.{IsInRange}
use Rattle.kn_objects.specs.Replay.{Replay, graph_of}
use Rattle.kn_replay.specs.Plans.{answer_as}
use Rattle.kn_replay.proofs.Answering.{may_complete, may_sound}
use Rattle.kn_replay.proofs.graph.Graph.answered.Goals as goal

pub returns-then-not-may_be_seen : goal.returns-then-not-may_be_seen
returns-then-not-may_be_seen c = λ g' follows.
    let complete = may_complete c.args.self.now.ground c.args.by c.args.call.now c.args.reply.now c.args.address
    (graph_of c.args.self.now) g' follows.answer in
    absurd (true≢false (sym (c.may_be_seen.ensures.1 complete.0) ∙ c.if-not-may_be_seen.true))

pub returns-then-not-is_same : goal.returns-then-not-is_same
returns-then-not-is_same c = λ g' follows.
    let complete = may_complete c.args.self.now.ground c.args.by c.args.call.now c.args.reply.now c.args.address
    (graph_of c.args.self.now) g' follows.answer in
    absurd (true≢false (sym (c.is_same.ensures.1 (ap (λ (a : Answer). a.reply) c.plan-plan.ensures.is ∙ complete.1)) ∙ c.if-not-is_same.true))

pub returns-then-address-told_address : goal.returns-then-address-told_address
returns-then-address-told_address c = λ g' follows.
    let complete = may_complete c.args.self.now.ground c.args.by c.args.call.now c.args.reply.now c.args.address
    (graph_of c.args.self.now) g' follows.answer in
    absurd (c.if-address-told_address.true (sym complete.2 ∙ sym c.told_address.ensures))

pub returns : goal.returns
returns c =
    let z = c.args.self.now.ground in
    let g = graph_of c.args.self.now in
    let seen = c.may_be_seen.ensures.0 c.if-not-may_be_seen.false in
    let same : c.plan-plan.result.reply ≡ c.args.reply.now = c.is_same.ensures.0 c.if-not-is_same.false in
    let reply : (answer_as z c.args.by g c.args.call.now c.args.address c.args.reply.now).reply ≡ c.args.reply.now =
    sym (ap (λ (a : Answer). a.reply) c.plan-plan.ensures.is) ∙ same in
    let may = may_sound z c.args.by c.args.call.now c.args.reply.now c.args.address g seen reply
    (c.if-address-told_address.false ∙ c.told_address.ensures) in
    let thread = c.is_by_thread.ensures.0 c.if-not-is_by_thread.false in (
      record {
        by_thread = thread.0;
        epoch_is = thread.1;
        in_range = subst (λ (r : Replay). IsInRange r.ground c.args.call.now) c.self.view_is (c.is_in_range.ensures.0 c.if-not-is_in_range.false);
        answer = subst (λ (a : Answer). MayAnswer z c.args.by c.args.call.now g c.args.reply.now c.args.address a.after)
            (sym c.plan-plan.ensures.is) may;
      },
      c.plan-plan.ensures.fit,
    )
