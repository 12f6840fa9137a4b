-- What every call that is answered leaves of the rule, whatever it answers.
use Rattle.std.proofs.Common.{◌≡◌, ◌≢◌, ℕ, ◌<◌, cond, Option, List, [], ◌∷◌, ◌++◌}
use Rattle.std.proofs.Common.{refl, sym, ap, subst, ◌∙◌, append_assoc, eq-eqb, ne_eqb}
use Rattle.std.specs.List.{AllByRecursion}
use Rattle.kn_base.specs.Functions.{upd}
use Rattle.kn_base.proofs.Updates.{upd_case, upd_case2}
use Rattle.kn_graph.specs.declared.calls.Call.{Call}
use Rattle.kn_graph.specs.declared.calls.Reply.{Reply}
use Rattle.kn_graph.specs.declared.entries.Entry.{Entry}
use Rattle.kn_graph.specs.declared.entries.Event.TheVariants as events
use Rattle.kn_graph.specs.Ground.{Ground}
use Rattle.kn_graph.specs.Graph.{Graph, empty_graph, shapes, field_kind, with_entered}
use Rattle.kn_graph.specs.Answers.{MayAnswer}
use Rattle.kn_graph.specs.Changes.{Changes}
use Rattle.kn_graph.specs.Growth.{Succeeds, CondemnsNone}
use Rattle.kn_graph.specs.Histories.{Leads, Follows}
use Rattle.kn_graph.specs.Logs.{log_of, calls_of}
use Rattle.kn_graph.specs.Sound.{IsSound}
use Rattle.kn_graph.proofs.Answered.{answer_changes}
use Rattle.kn_graph.proofs.LegalGraphs.{legal_sound, next_sound}
use Rattle.kn_graph.proofs.Splits.{appended, log_of-append, calls_of-append}
use Rattle.kn_graph.proofs.Successors.{change_succeeds, change_epochs}
use Rattle.kn_graph.proofs.Writes.{alive_at}
use Rattle.kn_replay.specs.Seen.{call_entry}
use Rattle.kn_cms_rule.specs.declared.stages.Doing.{Doing}
use Rattle.kn_cms_rule.specs.declared.stages.Doing.TheVariants.{Free, Loaded, Shaded}
use Rattle.kn_cms_rule.specs.Calls.{FullExactly, IsFullExactly}
use Rattle.kn_cms_rule.specs.State.{State}
use Rattle.kn_cms_rule.specs.Steps.{Aims}
use Rattle.kn_cms_rule.specs.Rule.{Rule, MayBeMade, AllMayBeMade, CallsAreMade, IsInMiddle, AreInMiddle, IsSince}
use Rattle.kn_cms_rule.specs.MarkRule.{HoldKept}
use Rattle.kn_cms_rule.proofs.Histories.{full_more, since_more, hold_kept}
use Rattle.kn_cms_rule.proofs.Made.{others_local}

-- a field keeps its kind where the object keeps its layout and its length
pub kind_same : (z : Ground) (g g' : Graph) → Succeeds g g' → (n f : ℕ) → n < g.born →
    field_kind z (shapes g' n) f ≡ field_kind z (shapes g n) f
kind_same z g g' succeeds n f near =
    let e = succeeds.objects n near in
    ap (λ (k : ℕ). field_kind z (record {
      address = (g'.object n).address;
      layout = (g'.object n).layout;
      length = k;
      condemned = (g'.object n).condemned;
      released = (g'.object n).released;
    }) f) e.length
    ∙ ap (λ (k : ℕ). field_kind z (record {
      address = (g'.object n).address;
      layout = k;
      length = (g.object n).length;
      condemned = (g'.object n).condemned;
      released = (g'.object n).released;
    }) f) e.layout

-- a thread is in the middle of a call as before, where its locals stay
module _ (z : Ground) (g g' : Graph) (s : IsSound z g) (succeeds : Succeeds g g') (i : ℕ) (same : g'.local i ≡ g.local i) (left : List Call) where
  aims_still : (n f : ℕ) → Aims z g i left n f → Aims z g' i left n f
  aims_still n f a = record {
    local = a.local;
    value = a.value;
    rest = a.rest;
    is_left = a.is_left;
    holds = ap (λ (h : ℕ → Option ℕ). h a.local) same ∙ a.holds;
    kind = kind_same z g g' succeeds n f (alive_at g.born (shapes g) (g.local i a.local) n a.holds (s.roots.locals i a.local)).0 ∙ a.kind;
  }

  pub middle_still : (d : Doing) → IsInMiddle z g i left d → IsInMiddle z g' i left d
  middle_still Free h = tt
  middle_still (Loaded n f v) h = aims_still n f h
  middle_still (Shaded n f) h = aims_still n f h

module _ (z : Ground) (calls : ℕ → List Call) (s : State) (rule : Rule z calls s) where
  pub sound : IsSound z s.graph
  sound = legal_sound z s.history s.graph rule.leads

  module _ (i : ℕ) (near : i < z.sizes.threads) (call : Call) (rest : List Call) (is_left : s.left i ≡ call ∷ rest) where
    left_ones : AllByRecursion (MayBeMade z) (call ∷ rest)
    left_ones = subst (AllByRecursion (MayBeMade z)) is_left (rule.may_be_made i near)

    pub may_now : MayBeMade z call
    may_now = left_ones.0

    module _ (reply : Reply) (address : ℕ) (g' : Graph) (may : MayAnswer z i call s.graph reply address g') where
      pub entry : Entry
      entry = call_entry i s.graph.paused call reply address

      pub after : Graph
      after = with_entered g' i s.graph.paused

      changes : Changes z i s.graph g'
      changes = answer_changes z i s.graph sound reply address g' call may_now.in_range may

      pub follows : Follows z (call_entry i s.graph.paused call reply address) s.graph (with_entered g' i s.graph.paused)
      follows = record {
        graph = g';
        event = record { by_thread = near; epoch_is = refl; in_range = may_now.in_range; answer = may };
        after = refl;
      }

      pub leads_on : Leads z empty_graph (s.history ++ call_entry i s.graph.paused call reply address ∷ []) (with_entered g' i s.graph.paused)
      leads_on = appended z s.history (call_entry i s.graph.paused call reply address) empty_graph s.graph (with_entered g' i s.graph.paused) rule.leads follows

      pub sound_on : IsSound z (with_entered g' i s.graph.paused)
      sound_on = next_sound z (call_entry i s.graph.paused call reply address) s.graph (with_entered g' i s.graph.paused) sound follows

      pub succeeds : Succeeds s.graph (with_entered g' i s.graph.paused)
      succeeds = let p = (change_succeeds z i s.graph g' changes).0 in record { born = p.born; objects = p.objects; paused = p.paused; done = p.done }

      pub none : CondemnsNone s.graph (with_entered g' i s.graph.paused)
      none = (change_succeeds z i s.graph g' changes).1

      pub epochs : (g'.paused ≡ s.graph.paused) × (g'.done ≡ s.graph.done)
      epochs = let p = change_epochs z i s.graph g' changes in (p.0, p.1)

      pub full_on : IsFullExactly z s.graph (events.Call call reply address) →
          FullExactly z (s.history ++ call_entry i s.graph.paused call reply address ∷ [])
      full_on last = full_more z s.history s.graph rule.leads (call_entry i s.graph.paused call reply address) rule.full last

      log_here : log_of i (s.history ++ call_entry i s.graph.paused call reply address ∷ []) ≡
          log_of i s.history ++ call_entry i s.graph.paused call reply address ∷ []
      log_here = log_of-append i s.history (call_entry i s.graph.paused call reply address)
          ∙ ap (λ b. cond b (log_of i s.history ++ call_entry i s.graph.paused call reply address ∷ []) (log_of i s.history)) (eq-eqb i i refl)

      log_else : (j : ℕ) → i ≢ j → log_of j (s.history ++ call_entry i s.graph.paused call reply address ∷ []) ≡ log_of j s.history
      log_else j ne = log_of-append j s.history (call_entry i s.graph.paused call reply address)
          ∙ ap (λ b. cond b (log_of j s.history ++ call_entry i s.graph.paused call reply address ∷ []) (log_of j s.history)) (ne_eqb i j ne)

      made_here : calls_of (log_of i (s.history ++ call_entry i s.graph.paused call reply address ∷ [])) ++ rest ≡ calls i
      made_here = ap (λ (l : List Entry). calls_of l ++ rest) log_here
          ∙ (ap (λ (l : List Call). l ++ rest) (calls_of-append (log_of i s.history) (call_entry i s.graph.paused call reply address))
          ∙ (append_assoc (calls_of (log_of i s.history)) (call ∷ []) rest
          ∙ (ap (λ (l : List Call). calls_of (log_of i s.history) ++ l) (sym is_left) ∙ rule.made i near)))

      pub made_on : CallsAreMade z.sizes.threads calls (s.history ++ call_entry i s.graph.paused call reply address ∷ []) (upd s.left i rest)
      made_on j less = upd_case (λ k (l : List Call). k < z.sizes.threads →
          calls_of (log_of k (s.history ++ call_entry i s.graph.paused call reply address ∷ [])) ++ l ≡ calls k) s.left i rest
          (λ _. made_here) j (λ ne h. ap (λ (l : List Entry). calls_of l ++ s.left j) (log_else j ne) ∙ rule.made j h) less

      pub may_be_made_on : AllMayBeMade z (upd s.left i rest)
      may_be_made_on j less = upd_case (λ k (l : List Call). k < z.sizes.threads → AllByRecursion (MayBeMade z) l) s.left i rest
          (λ _. left_ones.1) j (λ _ h. rule.may_be_made j h) less

      pub in_middle_on : AreInMiddle z (with_entered g' i s.graph.paused) (upd s.left i rest) (upd s.doing i Free)
      in_middle_on j less = upd_case2 (λ k (d : Doing) (l : List Call). k < z.sizes.threads → IsInMiddle z (with_entered g' i s.graph.paused) k l d)
          s.doing s.left i Free rest (λ _. tt) j
          (λ ne h. middle_still z s.graph (with_entered g' i s.graph.paused) sound succeeds j (others_local z i s.graph g' changes j ne) (s.left j) (s.doing j)
          (rule.in_middle j h)) less

      -- since a snapshot
      module _ (at : Graph) (since : IsSince z s.graph s.history at) where
        pub since_on : IsSince z (with_entered g' i s.graph.paused) (s.history ++ call_entry i s.graph.paused call reply address ∷ []) at
        since_on = since_more z s.graph s.history at since (call_entry i s.graph.paused call reply address)
            (with_entered g' i s.graph.paused) rule.leads succeeds none

        pub held_on : HoldKept at g'.born g'.local g'.global (λ n. (g'.object n).points)
        held_on = hold_kept z (with_entered g' i s.graph.paused) (s.history ++ call_entry i s.graph.paused call reply address ∷ []) at since_on sound_on
