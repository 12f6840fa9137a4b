use Rattle.std.proofs.Common.{◌≡◌, ◌∙◌, ◌+◌, drop, refl, sym, ap, subst, arith}
use Rattle.std.proofs.lemmas.List.{drop_all}
use Rattle.kn_schedule.specs.Asks.{Standing, standing_of}
use Rattle.kn_schedule.specs.Schedules.{AreSpent, Left, Order}
use Rattle.kn_schedule.proofs.Spent.{none_left, of_round}
use Rattle.kn_schedule.proofs.schedule.Schedule.next_turn.Goals as goal
use Rattle.kn_schedule.proofs.schedule.Schedule.next_turn.Goals.{then-not-self+in_default, else-not-self}

pub returns-clause-next : goal.returns-clause-next
returns-clause-next c =
    let old : Order = c.args.self.now in
    let between : Order = c.if-not-self.self in
    let s = c.self.inside in
    let t = c.self-2.inside in
    let actor = c.in_ok-actor.actor in
    let standing : Standing = standing_of c.args.ended.now c.args.answered.now c.args.code in
    let after : Left = record { asking = t.asking; words = drop t.begun t.words.items; next = actor + 1 } in
    let spent : AreSpent old.threads standing old.left between.left = elim c.if-not-self.branch [
      | then-not-self+in_default w ↦
          subst (λ (o : Order). AreSpent old.threads standing old.left o.left) (sym w.self-is) w.in_default.ensures.asked
      | else-not-self w ↦
          let none = c.self.invariant.5 w.if-not-self.false in
          let left : Left = record { asking = s.asking; words = drop s.begun s.words.items; next = s.next } in
          subst (λ (o : Order). AreSpent old.threads standing old.left o.left) (sym w.self-is)
          (subst (λ (o : Order). AreSpent old.threads standing o.left o.left) c.self.view_is
          (none_left old.threads standing left none.0 (drop_all s.begun s.words.items (omega (arith, none.1, s.words.ok.0)))))
    ] in
    let same : between.left.next ≡ old.left.next = elim c.if-not-self.branch [
      | then-not-self+in_default w ↦ ap (λ (o : Order). o.left.next) w.self-is ∙ w.in_default.ensures.next
      | else-not-self w ↦ ap (λ (o : Order). o.left.next) w.self-is
    ] in
    of_round old between standing after actor t.next _ spent same (ap (λ (o : Order). o.left.asking) c.self-2.view_is)
    (ap (λ (o : Order). o.left.words) c.self-2.view_is) refl (ap (λ (o : Order). o.left.next) c.self-2.view_is) c.requires.ended
    c.in_ok-actor.ensures.is_actor c.in_ok-actor.ensures.runs c.in_ok-actor.ensures.comes
