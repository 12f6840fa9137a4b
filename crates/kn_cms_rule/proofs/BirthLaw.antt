-- The law of a birth.
use Rattle.std.proofs.Common.{◌≡◌, ℕ, ◌+◌, ◌<◌, ◌↔◌, inl, true, false, Some, List, ◌∷◌}
use Rattle.std.proofs.Common.{refl, sym, ap, subst, ◌∙◌, arith}
use Rattle.std.specs.Option.{IfSome}
use Rattle.kn_base.specs.Functions.{upd}
use Rattle.kn_base.proofs.Updates.{upd_case, upd_case2, upd_here, upd_else}
use Rattle.kn_graph.specs.declared.calls.Call.{Call}
use Rattle.kn_graph.specs.declared.calls.Reply.TheVariants as replies
use Rattle.kn_graph.specs.Ground.{Ground}
use Rattle.kn_graph.specs.Graph.{Graph, Object, pointers, newborn, with_birth, with_entered}
use Rattle.kn_graph.specs.Answers.{MayAnswer}
use Rattle.kn_cms_rule.specs.declared.stages.Colour.{Colour}
use Rattle.kn_cms_rule.specs.declared.stages.Colour.TheVariants.{White, Black}
use Rattle.kn_cms_rule.specs.declared.stages.Doing.TheVariants.{Free}
use Rattle.kn_cms_rule.specs.declared.stages.Stage.{Stage}
use Rattle.kn_cms_rule.specs.declared.stages.Stage.TheVariants.{Waiting, Marking, Looking, Finished}
use Rattle.kn_cms_rule.specs.Words.{one_framed, HasNoRoom}
use Rattle.kn_cms_rule.specs.Calls.{Birth, birth_of}
use Rattle.kn_cms_rule.specs.State.{State, birth_colour, is_coloured}
use Rattle.kn_cms_rule.specs.Steps.{Bears, answered, next_address}
use Rattle.kn_cms_rule.specs.Rule.{Rule, IsInMarking, IsMarked, IsAtStage, IsBegun}
use Rattle.kn_cms_rule.proofs.CallLaws.{birth_allowed}
use Rattle.kn_cms_rule.proofs.Called.{leads_on, full_on, made_on, may_be_made_on, in_middle_on, since_on, held_on, succeeds}
use Rattle.kn_cms_rule.proofs.Histories.{at_reached, kept_born}
use Rattle.kn_cms_rule.proofs.Marks.{mark_doing, mark_born}
use Rattle.kn_cms_rule.proofs.Stacked.{next_legal, more_stacked}

module _ (base : Ground) (calls : ℕ → List Call) (s : State) (i : ℕ) (near : i < base.sizes.threads) (rule : Rule (one_framed base) calls s)
    (c : Call) (rest : List Call) (is_left : s.left i ≡ c ∷ rest) (b : Birth) (asks : birth_of (one_framed base) c ≡ Some b)
    (room : ¬ HasNoRoom (one_framed base) s.graph b.fields) (a : ℕ) (next : a ≡ next_address s.graph) where
  module _ (may : MayAnswer (one_framed base) i c s.graph replies.Ok a (with_birth s.graph i b.local (newborn a b.layout b.fields))) where
    begun_on : (at : Graph) → ((n : ℕ) → is_coloured (s.colour n) ≡ true → n < s.graph.born) → (st : Stage) →
        IsBegun (one_framed base) at s.colour s.looked st → IsBegun (one_framed base) at (upd s.colour s.graph.born Black) s.looked st
    begun_on at old Waiting h = tt
    begun_on at old Marking h = tt
    begun_on at old Finished h = tt
    begun_on at old (Looking n f) h =
        (upd_else s.colour s.graph.born Black n (λ e. let less = old n (ap is_coloured h.0) in absurd (omega arith)) ∙ h.0, h.1)

    born_points : (n f : ℕ) → n < s.graph.born →
        pointers (with_entered (with_birth s.graph i b.local (newborn a b.layout b.fields)) i s.graph.paused) n f ≡ pointers s.graph n f
    born_points n f less = ap (λ (o : Object). o.points f) (upd_else s.graph.object s.graph.born (newborn a b.layout b.fields) n (λ e. absurd (omega arith)))

    marking_black : IsInMarking (one_framed base) s → IsInMarking (one_framed base)
        (record (answered s i rest c replies.Ok a (with_birth s.graph i b.local (newborn a b.layout b.fields)))
        { colour = upd s.colour s.graph.born Black })
    marking_black h =
        let z = one_framed base in let g' : Graph = with_birth s.graph i b.local (newborn a b.layout b.fields) in record {
          at = h.at;
          is_snapshot = h.is_snapshot;
          since = since_on z calls s rule i near c rest is_left replies.Ok a g' may h.at h.since;
          rule = mark_doing z h.at (with_entered g' i s.graph.paused) (upd s.colour s.graph.born Black) s.looked s.doing
              (mark_born z h.at s.graph s.colour s.looked s.doing h.rule (with_entered g' i s.graph.paused) (omega arith)
              (held_on z calls s rule i near c rest is_left replies.Ok a g' may h.at h.since) h.since.succeeds.born refl born_points
              (at_reached z s.graph s.history h.at h.since))
              i Free (λ n f v e. absurd (cc)) (λ n f e. absurd (cc)) (λ n f v e. absurd (cc));
          begun = begun_on h.at (λ n e. kept_born z s.graph s.history h.at h.since n (h.rule.coloured n e)) s.stage h.begun;
        }

    settled_new : (x : Colour) → x ≡ Black → (x ≡ White) ↔ (false ≡ true)
    settled_new x black = (λ e. let f : White ≡ Black = sym e ∙ black in absurd (cc), λ e. absurd (cc))

    settled_on : (h : IsMarked (one_framed base) s) → (n : ℕ) → n < s.graph.born + 1 → (upd s.colour s.graph.born Black n ≡ White) ↔
        ((upd s.graph.object s.graph.born (newborn a b.layout b.fields) n).condemned ≡ true)
    settled_on h n less = upd_case2 (λ m (x : Colour) (o : Object). m < s.graph.born + 1 → (x ≡ White) ↔ (o.condemned ≡ true))
        s.colour s.graph.object s.graph.born Black (newborn a b.layout b.fields) (λ _. settled_new Black refl) n
        (λ ne less. h.settled n (omega arith)) less

    marked_black : IsMarked (one_framed base) s → IsMarked (one_framed base)
        (record (answered s i rest c replies.Ok a (with_birth s.graph i b.local (newborn a b.layout b.fields)))
        { colour = upd s.colour s.graph.born Black })
    marked_black h = let z = one_framed base in record {
      at = h.at;
      is_snapshot = h.is_snapshot;
      since = since_on z calls s rule i near c rest is_left replies.Ok a (with_birth s.graph i b.local (newborn a b.layout b.fields)) may h.at h.since;
      settled = settled_on h;
    }

    at_born : (st : Stage) → IsAtStage (one_framed base) s st → IsAtStage (one_framed base)
        (record (answered s i rest c replies.Ok a (with_birth s.graph i b.local (newborn a b.layout b.fields)))
        { colour = upd s.colour s.graph.born (birth_colour st) }) st
    at_born Waiting h = record {
      no_snapshot = h.no_snapshot;
      paused = h.paused;
      done = h.done;
      alive = λ n less. upd_case (λ m (o : Object). m < s.graph.born + 1 → o.condemned ≡ false) s.graph.object s.graph.born
          (newborn a b.layout b.fields) (λ _. refl) n (λ ne less. h.alive n (omega arith)) less;
      white = λ n. upd_case (λ _ (x : Colour). x ≡ White) s.colour s.graph.born White refl n (λ _. h.white n);
      unread = h.unread;
    }
    at_born Marking h = marking_black h
    at_born (Looking n f) h = marking_black h
    at_born Finished h = marked_black h

    born_keeps : Rule (one_framed base) calls (record (answered s i rest c replies.Ok a (with_birth s.graph i b.local (newborn a b.layout b.fields)))
        { colour = upd s.colour s.graph.born (birth_colour s.stage) })
    born_keeps = let z = one_framed base in let g' : Graph = with_birth s.graph i b.local (newborn a b.layout b.fields) in record {
      leads = leads_on z calls s rule i near c rest is_left replies.Ok a g' may;
      full = full_on z calls s rule i near c rest is_left replies.Ok a g' may
          (subst (λ o. IfSome o (λ (b : Birth). (false ≡ true) ↔ HasNoRoom z s.graph b.fields)) (sym asks) (λ e. absurd (cc), λ h. absurd (room h)));
      stacked = more_stacked base s.graph rule.stacked (with_entered g' i s.graph.paused)
          (succeeds z calls s rule i near c rest is_left replies.Ok a g' may) refl
          (ap (λ (o : Object). o.address) (upd_here s.graph.object s.graph.born (newborn a b.layout b.fields)) ∙ next);
      nameless = rule.nameless;
      made = made_on z calls s rule i near c rest is_left replies.Ok a g' may;
      may_be_made = may_be_made_on z calls s rule i near c rest is_left replies.Ok a g' may;
      in_middle = in_middle_on z calls s rule i near c rest is_left replies.Ok a g' may;
      at_stage = at_born s.stage rule.at_stage;
    }

pub birth_keeps : (base : Ground) (calls : ℕ → List Call) (s s' : State) (i : ℕ) → i < base.sizes.threads → Rule (one_framed base) calls s →
    Bears (one_framed base) s i s' → Rule (one_framed base) calls s'
birth_keeps base calls s s' i near rule k =
    let a = next_address s.graph in
    subst (Rule (one_framed base) calls) (sym k.after) (born_keeps base calls s i near rule k.call k.rest k.next.is_left k.birth k.asks k.room a refl
    (birth_allowed (one_framed base) i k.call k.birth k.asks s.graph replies.Ok a (with_birth s.graph i k.birth.local (newborn a k.birth.layout k.birth.fields))
    (inl (record { reply_is = refl; legal = next_legal base s.graph rule.stacked k.birth.fields k.room; after = refl }))))
